-- Members and parameters that are matched agree where no pair is refused and none is longer.
use Rattle.std.proofs.Common.{◌≡◌, ℕ, Bool, true, false, not, List, [], ◌∷◌, refl}
use Rattle.std.specs.Prelude.{◌&&◌, Some, is_some}
use Rattle.c_types.specs.Types.{PlainType}
use Rattle.c_types.specs.Tags.{PlainMember}
use Rattle.conditional.specs.Entries.{or_later}
use Rattle.matched_lists.specs.Matched.{Rule, matched}
use Rattle.cond_compatible.specs.Depths.{types_agree, member_agrees, members_agree, parameters_agree, unless_agreed}

module _ (alike : ℕ → ℕ → Bool) where
  abbrev pub member_rule : Rule PlainMember PlainMember (Unit {0})
  member_rule = record { pair = λ a b. unless_agreed (member_agrees alike a b); first_longer = Some tt; second_longer = Some tt }

  pub matched_members : (as_ bs : List PlainMember) → is_some (matched member_rule as_ bs) ≡ not (members_agree alike as_ bs)
  matched_members [] [] = refl
  matched_members [] (b ∷ bs) = refl
  matched_members (a ∷ as_) [] = refl
  matched_members (a ∷ as_) (b ∷ bs) = by (member_agrees alike a b) (matched_members as_ bs)
    where
      by : (t : Bool) → is_some (matched member_rule as_ bs) ≡ not (members_agree alike as_ bs)
          → is_some (or_later (unless_agreed t) (matched member_rule as_ bs)) ≡ not (t && members_agree alike as_ bs)
      by true h = h
      by false h = refl

module _ (alike : ℕ → ℕ → Bool) where
  abbrev pub parameter_rule : Rule PlainType PlainType (Unit {0})
  parameter_rule = record { pair = λ a b. unless_agreed (types_agree alike a b); first_longer = Some tt; second_longer = Some tt }

  pub matched_parameters : (as_ bs : List PlainType) → is_some (matched parameter_rule as_ bs) ≡ not (parameters_agree alike as_ bs)
  matched_parameters [] [] = refl
  matched_parameters [] (b ∷ bs) = refl
  matched_parameters (a ∷ as_) [] = refl
  matched_parameters (a ∷ as_) (b ∷ bs) = by (types_agree alike a b) (matched_parameters as_ bs)
    where
      by : (t : Bool) → is_some (matched parameter_rule as_ bs) ≡ not (parameters_agree alike as_ bs)
          → is_some (or_later (unless_agreed t) (matched parameter_rule as_ bs)) ≡ not (t && parameters_agree alike as_ bs)
      by true h = h
      by false h = refl
