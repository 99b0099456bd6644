-- What is told of units before and after tells whether they have the same pairs.
use Rattle.std.proofs.Common.{◌≡◌, ℕ, Bool, true, false, List, [], ◌∷◌, refl, sym, ap, subst, ◌∙◌}
use Rattle.std.specs.Prelude.{◌↔◌, IsTrue, Contains, if◌then◌else◌}
use Rattle.std.specs.List.{AllZip}
use Rattle.cond_formula.specs.Conditions.{condition_of, value}
use Rattle.c_text.specs.declared.origin.FileToken.{FileToken}
use Rattle.choice_trees.specs.declared.trees.Forest.{Forest}
use Rattle.choice_trees.specs.Leaves.{Leaf, forest_leaves}
use Rattle.project_file.specs.declared.projects.Unit.{Unit}
use Rattle.cond_scopes.specs.Progress.{numbers}
use Rattle.cond_pairings.specs.Pairs.{pairs_seen}
use Rattle.program_occurrences.specs.Occurrences.{UnitNames}
use Rattle.told_occurrences.specs.declared.told.ToldUnit.{ToldUnit}
use Rattle.told_occurrences.specs.Told.{pairs_of, HaveSame}
use Rattle.told_occurrences.specs.Units.{AreTold, no_more, present, absent}
use Rattle.changed_forests.specs.Renamed.{renaming, IsRenamed}
use Rattle.changed_forests.specs.Laws.{ChangesAreSeen}
use Rattle.bound_otherwise.specs.Otherwise.{AreToldAlike}
use Rattle.told_captures.specs.Captures.{HaveSamePairs}
use Rattle.class_captures.proofs.Told.{contradiction}
use Rattle.class_captures.proofs.Numbers.{numbers-kept, present_leaves}

if_present : {A : Type 0} (b : Bool) (x : A) (xs : List A) → IsTrue b → (if b then x ∷ xs else xs) ≡ x ∷ xs
if_present true x xs h = refl
if_present false x xs h = contradiction h

if_absent : {A : Type 0} (b : Bool) (x : A) (xs : List A) → b ≡ false → (if b then x ∷ xs else xs) ≡ xs
if_absent true x xs h = contradiction (sym h)
if_absent false x xs h = refl

-- the same as lists that have the same
same-between : {A : Type 0} (a b p q : List A) → HaveSame a p → HaveSame b q → HaveSame a b ↔ HaveSame p q
same-between a b p q x y = (
  λ h. λ one. (λ k. (y one).0 ((h one).0 ((x one).1 k)), λ k. (x one).0 ((h one).1 ((y one).1 k))),
  λ h. λ one. (λ k. (y one).1 ((h one).0 ((x one).0 k)), λ k. (x one).1 ((h one).1 ((y one).0 k))),
)

nothing-same : {A : Type 0} (a b : List A) → a ≡ [] → b ≡ [] → HaveSame a b
nothing-same {A} a b e f = λ one. (λ k. subst (λ (l : List A). Contains l one) (e ∙ sym f) k, λ k. subst (λ (l : List A). Contains l one) (f ∙ sym e) k)

module _ (seen : ChangesAreSeen) (class : List FileToken) (new : List ℕ) (on : ℕ → Bool) where
  numbers-after : (f g : Forest) → IsRenamed class new f g → numbers (forest_leaves on g) ≡ numbers (forest_leaves on f)
  numbers-after f g is = ap numbers (seen (renaming class new) f g is on) ∙ numbers-kept class new (forest_leaves on f)

  abbrev Alike : List Unit → List Forest → List UnitNames → List UnitNames → List ToldUnit → List ToldUnit → Type 0
  Alike units forests names others before after = AreToldAlike on before after ↔ HaveSamePairs (present_leaves on units forests) names others

  pub told-alike :
      {units : List Unit} {forests renamed : List Forest} {names others : List UnitNames} {before after : List ToldUnit}
      → AreTold on units forests names before → AreTold on units renamed others after → AllZip (IsRenamed class new) forests renamed
      → Alike units forests names others before after
  told-alike no_more no_more are = (λ h. tt, λ h. tt)
  told-alike (present {unit = unit} {units = units} {forest = f} {forests = forests} {names = names} {more = more} {told = told} {rest = rest} there is behind)
      (present {forest = g} {names = other} {more = others} {told = also} {rest = later} again are_so further) are =
      let leaves = forest_leaves on f in
      let here : HaveSame (pairs_seen on told.pairs.items) (pairs_seen on also.pairs.items) ↔ HaveSame (pairs_of (numbers leaves) names) (pairs_of (numbers leaves) other)
      = same-between (pairs_seen on told.pairs.items) (pairs_seen on also.pairs.items) (pairs_of (numbers leaves) names) (pairs_of (numbers leaves) other) is.pairs_are
      (subst (λ (ns : List ℕ). HaveSame (pairs_seen on also.pairs.items) (pairs_of ns other)) (numbers-after f g are.0) are_so.pairs_are) in
      let next = told-alike behind further are.1 in
      subst (λ (all : List (List Leaf)). AreToldAlike on (told ∷ rest) (also ∷ later) ↔ HaveSamePairs all (names ∷ more) (other ∷ others))
      (sym (if_present (value on (condition_of unit.when)) leaves (present_leaves on units forests) there))
      (λ h. (here.0 h.0, next.0 h.1), λ h. (here.1 h.0, next.1 h.1))
  told-alike (present there is behind) (absent again silent further) are = contradiction (sym again ∙ there)
  told-alike (absent there silent behind) (present again is further) are = contradiction (sym there ∙ again)
  told-alike (absent {unit = unit} {units = units} {forest = f} {forests = forests} {more = more} {told = told} {rest = rest} there silent behind)
      (absent {more = others} {told = also} {rest = later} again nothing further) are =
      let next = told-alike behind further are.1 in
      subst (λ (all : List (List Leaf)). AreToldAlike on (told ∷ rest) (also ∷ later) ↔ HaveSamePairs all more others)
      (sym (if_absent (value on (condition_of unit.when)) (forest_leaves on f) (present_leaves on units forests) there))
      (λ h. next.0 h.1, λ h. (nothing-same (pairs_seen on told.pairs.items) (pairs_seen on also.pairs.items) silent.no_pairs nothing.no_pairs, next.1 h))
