-- What is made of the parts of each variant, under the variants' conditions.
use Rattle.std.proofs.Common.{◌≡◌, ℕ, ◌||◌, Bool, false, List, [], ◌∷◌, map, refl, ap, ◌∙◌}
use Rattle.cond_formula.specs.Conditions.{condition_of, value}
use Rattle.conditional.specs.Entries.{Entry, some_holds, Carry, Stands}
use Rattle.conditional.proofs.ValueLaws.{none_carry}
use Rattle.c_tree.specs.Trees.{PlainTrees, none}
use Rattle.choice_variants.specs.declared.parts.Variant.{Variant}
use Rattle.choice_variants.specs.Variants.{before, shown}
use Rattle.choice_variants.proofs.Placing.{EachPlaced}

module _ {P : Type 0} (on : ℕ → Bool) (make : PlainTrees → P) where
  abbrev pub made_by : Variant → Entry P
  made_by variant = record { when = condition_of variant.when; what = make (before on variant.parts.items none) }

  abbrev pub made : List Variant → List (Entry P)
  made variants = map made_by variants

  held_made : (variants : List Variant) → some_holds on (made variants) ≡ some_holds on (shown on variants)
  held_made [] = refl
  held_made (first ∷ others) = ap (λ (b : Bool). value on (condition_of first.when) || b) (held_made others)

  carry_made : (trees : PlainTrees) (variants : List Variant) → Carry on trees (shown on variants) → Carry on (make trees) (made variants)
  carry_made trees [] carry = tt
  carry_made trees (first ∷ others) carry = ((λ t. ap make (carry.0 t)), carry_made trees others carry.1)

  pub stands_made : (trees : PlainTrees) (variants : List Variant) → Stands on trees (shown on variants) → Stands on (make trees) (made variants)
  stands_made trees variants stands = record { held = held_made variants ∙ stands.held; carry = carry_made trees variants stands.carry }

pub begin_placed : {P : Type 0} (on : ℕ → Bool) (all now : List (Entry P)) → some_holds on now ≡ false → EachPlaced on all all now
begin_placed on all now nothing = record {
  held = ap (λ (b : Bool). b || some_holds on all) nothing;
  carry = λ v carry. none_carry on v now nothing;
  left = λ v carry. carry;
}
