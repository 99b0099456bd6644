-- Uses with what declares their members, one entry after the other.
use Rattle.std.proofs.Common.{◌≡◌, ℕ, ◌+◌, ◌<◌, ◌≤◌, Bool, true, false, ◌&&◌, List, [], ◌∷◌, ◌++◌, drop, length, get_or, refl, sym, ap, ◌∙◌}
use Rattle.std.specs.Prelude.{if◌then◌else◌}
use Rattle.std.proofs.lemmas.List.{append-nil, append_assoc, drop_all}
use Rattle.cond_formula.specs.Conditions.{condition_of, value}
use Rattle.conditional.specs.Entries.{seen, under, entries_of}
use Rattle.conditional.specs.declared.entries.Guarded.{Guarded}
use Rattle.conditional.proofs.ListLaws.{item_of}
use Rattle.member_uses.specs.Uses.{Use}
use Rattle.cond_pairings.specs.Pairs.{Pair, pairs_seen}
use Rattle.cond_pairings.proofs.Walks.{pair_more}
use Rattle.cond_pairings.specs.declared.pairs.CondPairing.{CondPairing}
use Rattle.cond_selections.specs.declared.entries.Selection.{Selection}
use Rattle.cond_selections.specs.Selected.{plain_selection}
use Rattle.cond_name_spaces.specs.declared.entries.SpacedName.{SpacedName}
use Rattle.cond_name_spaces.specs.Spaced.{InSpace, plain_name}
use Rattle.member_pairs.specs.Members.{declares_member, pair_of, pairs_of_use, pairs_of_uses}

-- one pair more
pub pushed : (on : ℕ → Bool) (some : List CondPairing) (p : CondPairing) (b : Bool) → value on (condition_of p.when) ≡ b
    → pairs_seen on (some ++ p ∷ []) ≡ pairs_seen on some ++ under b ((let one : Pair = record { identifier = p.identifier; declared_by = p.declared_by } in one) ∷ [])
pushed on some p b is = pair_more on some p ∙ ap (λ l. pairs_seen on some ++ l) (here (value on (condition_of p.when)) b is)
  where
    here : (c d : Bool) → c ≡ d → (if c then (let one : Pair = record { identifier = p.identifier; declared_by = p.declared_by } in one) ∷ [] else []) ≡ under d ((let one : Pair = record { identifier = p.identifier; declared_by = p.declared_by } in one) ∷ [])
    here true true e = refl
    here false false e = refl
    here true false e = absurd cc
    here false true e = absurd cc

-- behind the last name
pub at_end : (on : ℕ → Bool) (b : Bool) (tag : List ℕ) (u : Use) (names : List (Guarded SpacedName)) (i : ℕ) (before whole : List Pair) → length names ≤ i
    → before ++ under b (pairs_of_use tag u (seen on (entries_of plain_name (drop i names)))) ≡ whole → before ≡ whole
at_end on b tag u names i before whole past goes =
    sym (append-nil before) ∙ (ap (λ l. before ++ l) (sym (ap (λ l. under b (pairs_of_use tag u (seen on (entries_of plain_name l)))) (drop_all i names past) ∙ none b)) ∙ goes)
  where
    none : (c : Bool) → under c (let list : List Pair = [] in list) ≡ []
    none true = refl
    none false = refl

module _ (on : ℕ → Bool) (b : Bool) (tag : List ℕ) (u : Use) (names : List (Guarded SpacedName)) (d : Guarded SpacedName) (i : ℕ) (within : i < length names) (is : d ≡ get_or names i d) where
  abbrev behind : List Pair
  behind = pairs_of_use tag u (seen on (entries_of plain_name (drop (i + 1) names)))

  from_here : pairs_of_use tag u (seen on (entries_of plain_name (drop i names))) ≡ pairs_of_use tag u (if value on (condition_of d.when) then plain_name d.what ∷ seen on (entries_of plain_name (drop (i + 1) names)) else seen on (entries_of plain_name (drop (i + 1) names)))
  from_here = ap (λ l. pairs_of_use tag u (seen on (entries_of plain_name l))) (item_of names d i within is)

  pub declared_too : (before whole : List Pair) → declares_member tag u.token.text (plain_name d.what) ≡ true
      → before ++ under b (pairs_of_use tag u (seen on (entries_of plain_name (drop i names)))) ≡ whole
      → (before ++ under (b && value on (condition_of d.when)) (pair_of u (plain_name d.what) ∷ [])) ++ under b behind ≡ whole
  declared_too before whole declares goes =
      append_assoc before (under (b && value on (condition_of d.when)) (pair_of u (plain_name d.what) ∷ [])) (under b behind)
      ∙ (ap (λ l. before ++ l) (sym (ap (under b) from_here ∙ here b (value on (condition_of d.when)))) ∙ goes)
    where
      here : (c holds : Bool) → under c (pairs_of_use tag u (if holds then plain_name d.what ∷ seen on (entries_of plain_name (drop (i + 1) names)) else seen on (entries_of plain_name (drop (i + 1) names))))
          ≡ under (c && holds) (pair_of u (plain_name d.what) ∷ []) ++ under c behind
      here true true = ap (λ t. if t then pair_of u (plain_name d.what) ∷ behind else behind) declares
      here true false = refl
      here false holds = refl

  pub passed_over : (before whole : List Pair) → declares_member tag u.token.text (plain_name d.what) ≡ false
      → before ++ under b (pairs_of_use tag u (seen on (entries_of plain_name (drop i names)))) ≡ whole → before ++ under b behind ≡ whole
  passed_over before whole other goes =
      ap (λ l. before ++ l) (sym (ap (under b) (from_here ∙ here (value on (condition_of d.when))))) ∙ goes
    where
      here : (holds : Bool) → pairs_of_use tag u (if holds then plain_name d.what ∷ seen on (entries_of plain_name (drop (i + 1) names)) else seen on (entries_of plain_name (drop (i + 1) names))) ≡ behind
      here true = ap (λ t. if t then pair_of u (plain_name d.what) ∷ behind else behind) other
      here false = refl

-- one use more
module _ (on : ℕ → Bool) (tag : ℕ → List ℕ) (names : List InSpace) (uses : List (Guarded Selection)) (one : Guarded Selection) (i : ℕ) (within : i < length uses) (is : one ≡ get_or uses i one) where
  pub used_too : (before whole : List Pair) → before ++ pairs_of_uses tag names (seen on (entries_of plain_selection (drop i uses))) ≡ whole
      → (before ++ under (value on (condition_of one.when)) (pairs_of_use (tag one.what.structure) (plain_selection one.what) names)) ++ pairs_of_uses tag names (seen on (entries_of plain_selection (drop (i + 1) uses))) ≡ whole
  used_too before whole goes =
      append_assoc before (under (value on (condition_of one.when)) (pairs_of_use (tag one.what.structure) (plain_selection one.what) names)) (pairs_of_uses tag names (seen on (entries_of plain_selection (drop (i + 1) uses))))
      ∙ (ap (λ l. before ++ l) (sym (ap (λ l. pairs_of_uses tag names (seen on (entries_of plain_selection l))) (item_of uses one i within is) ∙ here (value on (condition_of one.when)))) ∙ goes)
    where
      here : (holds : Bool) → pairs_of_uses tag names (if holds then plain_selection one.what ∷ seen on (entries_of plain_selection (drop (i + 1) uses)) else seen on (entries_of plain_selection (drop (i + 1) uses)))
          ≡ under holds (pairs_of_use (tag one.what.structure) (plain_selection one.what) names) ++ pairs_of_uses tag names (seen on (entries_of plain_selection (drop (i + 1) uses)))
      here true = refl
      here false = refl
