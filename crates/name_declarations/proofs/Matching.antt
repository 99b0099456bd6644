-- Lists of parameters that are matched are the same where no pair is refused and none is longer.
use Rattle.std.proofs.Common.{◌≡◌, Bool, true, false, not, List, [], ◌∷◌, refl}
use Rattle.std.specs.Prelude.{◌&&◌, Some, is_some}
use Rattle.c_types.specs.Types.{PlainType}
use Rattle.conditional.specs.Entries.{or_later}
use Rattle.core_meaning.specs.Typing.{same_type}
use Rattle.core_meaning.specs.UnitNames.{same_types}
use Rattle.matched_lists.specs.Matched.{Rule, matched}
use Rattle.name_declarations.specs.Conflicts.{unless_same}

abbrev pub same_rule : Rule PlainType PlainType (Unit {0})
same_rule = record { pair = λ a b. unless_same (same_type a b); first_longer = Some tt; second_longer = Some tt }

pub matched_same : (as_ bs : List PlainType) → is_some (matched same_rule as_ bs) ≡ not (same_types as_ bs)
matched_same [] [] = refl
matched_same [] (b ∷ bs) = refl
matched_same (a ∷ as_) [] = refl
matched_same (a ∷ as_) (b ∷ bs) = by (same_type a b) (matched_same as_ bs)
  where
    by : (t : Bool) → is_some (matched same_rule as_ bs) ≡ not (same_types as_ bs) → is_some (or_later (unless_same t) (matched same_rule as_ bs)) ≡ not (t && same_types as_ bs)
    by true h = h
    by false h = refl
