-- Two lists whose entries are matched in pairs, and what is seen of them under conditions.
use Rattle.std.specs.Prelude.{◌≡◌, ℕ, Bool, true, false, List, [], ◌∷◌, Option, None, option_map, ⊤}
use Rattle.cond_formula.specs.Conditions.{value, condition_of}
use Rattle.conditional.specs.declared.entries.Guarded.{Guarded}
use Rattle.conditional.specs.declared.lists.CondList.{CondList}
use Rattle.conditional.specs.Entries.{listed, seen, first, or_later}
use Rattle.matched_lists.specs.declared.matching.Longer.{Longer}

-- why a pair of entries is refused, if it is, and why a list is that is longer than the other
pub record Rule (P Q N : Type 0) : Type 0 where
  pub pair : P → Q → Option N
  pub first_longer : Option N
  pub second_longer : Option N

-- the first refusal of two lists whose entries are matched in pairs, if there is any
abbrev pub matched : {P Q N : Type 0} → Rule P Q N → List P → List Q → Option N
matched rule [] [] = None
matched rule [] (q ∷ qs) = rule.second_longer
matched rule (p ∷ ps) [] = rule.first_longer
matched rule (p ∷ ps) (q ∷ qs) = or_later (rule.pair p q) (matched rule ps qs)

-- ---- lists under conditions

abbrev pub there : {T : Type 0} → (ℕ → Bool) → Guarded T → Bool
there on x = value on (condition_of x.when)

-- the entry is the first of these, if it is there
abbrev pub StartsWith : {T P : Type 0} → Bool → (T → P → Type 0) → T → List P → Type 0
StartsWith true Is x [] = ⊥
StartsWith true Is x (p ∷ ps) = Is x p
StartsWith false Is x ps = ⊤

-- what stands behind the entry
abbrev pub behind : {P : Type 0} → Bool → List P → List P
behind true [] = []
behind true (p ∷ ps) = ps
behind false ps = ps

-- these are the entries that are there, in their order
abbrev pub AreThere : {T P : Type 0} → (ℕ → Bool) → (T → P → Type 0) → List (Guarded T) → List P → Type 0
AreThere on Is [] ps = ps ≡ []
AreThere on Is (x ∷ xs) ps = StartsWith (there on x) Is x.what ps × AreThere on Is xs (behind (there on x) ps)

-- whatever the code may answer is what the rule says
pub record Follows {R P Q N : Type 0} (reason : R → N) (on : ℕ → Bool) (answers : P → Q → CondList R → Type 0) (longer : Longer R) (rule : Rule P Q N) : Type 0 where
  pub pair : (p : P) (q : Q) (refusals : CondList R) → answers p q refusals → first (seen on (listed reason refusals)) ≡ rule.pair p q
  pub first_longer : rule.first_longer ≡ option_map reason longer.first
  pub second_longer : rule.second_longer ≡ option_map reason longer.second
