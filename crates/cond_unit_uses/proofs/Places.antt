-- Which tree stands at a place of the parts of a node.
use Rattle.std.proofs.Common.{arith, ◌≡◌, ℕ, zero, suc, ◌≤◌, ◌<◌, List, [], ◌∷◌, length, get_or, sym, ap, ◌∙◌, subst, refl}
use Rattle.std.specs.Prelude.{Bool, Option, Some, None, MatchOption}
use Rattle.c_tree.specs.Trees.{PlainTree, none}
use Rattle.choice_variants.specs.Variants.{part_at, before}
use Rattle.choice_variants.specs.declared.parts.Part.{Part}
use Rattle.cond_types.specs.Places.{tree_at, IsEmpty}

module _ (on : ℕ → Bool) where
  pub none_beyond : (parts : List Part) (place : ℕ) → length parts ≤ place → tree_at place (before on parts none) ≡ None
  none_beyond [] place h = refl
  none_beyond (part ∷ parts) zero h = absurd (omega (arith, h))
  none_beyond (part ∷ parts) (suc place) h = none_beyond parts place (omega (arith, h))

  pub one_there : (parts : List Part) (place : ℕ) (part : Part) → place < length parts → part ≡ get_or parts place part → tree_at place (before on parts none) ≡ Some (part_at on part)
  one_there [] place part h is = absurd (omega (arith, h))
  one_there (first ∷ parts) zero part h is = ap (λ (x : Part). Some (part_at on x)) (sym is)
  one_there (first ∷ parts) (suc place) part h is = one_there parts place part (omega (arith, h)) is

-- what is found of a part is found where the part stands
pub found_there : {R : Type 0} (at : R → PlainTree) (result : Option R) (part : PlainTree) (found : Option PlainTree) → found ≡ Some part
    → MatchOption result (IsEmpty (Some part)) (λ r. part ≡ at r) → MatchOption result (IsEmpty found) (λ r. found ≡ Some (at r))
found_there {R} at None part found e h = subst IsEmpty (sym e) h
found_there {R} at (Some r) part found e h = e ∙ ap (λ (t : PlainTree). Some t) h
