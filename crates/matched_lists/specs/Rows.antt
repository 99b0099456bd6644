-- How far two lists have been matched, by pairs of places: an aid of proofs, no further definition.
use Rattle.std.specs.Prelude.{◌≡◌, ℕ, zero, suc, ◌+◌, ◌≤◌, Bool, not, ◌&&◌, ◌||◌, List, [], ◌∷◌, Option, None, Some, IsTrue, if◌then◌else◌}
use Rattle.cond_formula.specs.declared.formulas.Formula.{Formula}
use Rattle.cond_formula.specs.Conditions.{condition_of}
use Rattle.conditional.specs.declared.entries.Guarded.{Guarded}
use Rattle.conditional.specs.Entries.{Entry, first, or_later, some_holds, Carry}
use Rattle.matched_lists.specs.Matched.{Rule, matched, there, behind}

-- what stands behind so many entries
abbrev pub after : {T P : Type 0} → (ℕ → Bool) → List (Guarded T) → List P → ℕ → List P
after on xs ps zero = ps
after on [] ps (suc n) = ps
after on (x ∷ xs) ps (suc n) = after on xs (behind (there on x) ps) n

-- from where the formula is true, this is what is left to refuse
abbrev pub leaving : {N : Type 0} → Formula → Option N → Entry (Option N)
leaving f left = record { when = condition_of f; what = left }

-- the formulas of a row, from a place on, with what is left at each place
abbrev pub places : {N : Type 0} → (ℕ → Option N) → ℕ → List Formula → List (Entry (Option N))
places left n [] = []
places left n (f ∷ fs) = leaving f (left n) ∷ places left (n + 1) fs

-- what is left behind each place of the second list
abbrev pub left_at : {T P Q N : Type 0} → (ℕ → Bool) → Rule P Q N → List P → List (Guarded T) → List Q → ℕ → Option N
left_at on rule ps ys qs n = matched rule ps (after on ys qs n)

-- each entry that is there is refused for this, from a place on
abbrev pub LeftAlone : {T N : Type 0} → (ℕ → Bool) → Option N → (ℕ → Option N) → ℕ → List (Guarded T) → Type 0
LeftAlone on why left n [] = (k : ℕ) → n ≤ k → left k ≡ None
LeftAlone on why left n (y ∷ ys) = (left n ≡ or_later (if there on y then why else None) (left (n + 1))) × LeftAlone on why left (n + 1) ys

-- Nothing but v is refused. As long as nothing is, some pair of places is under way, in this row or below it, and each that is leaves v.
pub record Leads {N : Type 0} (on : ℕ → Bool) (v : Option N) (refusals : List N) (row below : List (Entry (Option N))) : Type 0 where
  pub refused : (why : N) → first refusals ≡ Some why → v ≡ Some why
  pub held : first refusals ≡ None → IsTrue (some_holds on row || some_holds on below)
  pub carry : first refusals ≡ None → Carry on v row
  pub carry_below : first refusals ≡ None → Carry on v below

-- Where both entries are there or neither is, both places move on; elsewhere the one whose entry isn't there does.
pub record MovesOn (here x y first second both : Bool) : Type 0 where
  pub first_moves : first ≡ (here && (y && not x))
  pub second_moves : second ≡ (here && (x && not y))
  pub both_move : both ≡ (here && (not first && not second))
