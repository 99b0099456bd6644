-- The parts fit behind one more.
use Rattle.std.proofs.Common.{◌≡◌, ℕ, zero, suc, ◌+◌, Bool, true, false, not, ◌&&◌, List, [], ◌∷◌, ◌++◌, Option, Some, None, IsTrue, refl, ap, subst, ◌∙◌, add-one}
use Rattle.c_tree.specs.Places.{Place, operator}
use Rattle.choice_states.specs.Seen.{Seen, Parts}
use Rattle.choice_states.specs.Parts.{is_empty, values, aligned, part_count, is_aligned, has_operand, is_numbered_list, all_but_one, parts_fit_within, HasNoNumber, Pushed}

one_there : (vs : List Seen) (v : Seen) → is_empty (vs ++ v ∷ []) ≡ false
one_there [] v = refl
one_there (first ∷ rest) v = refl

operand_there : (place : Place) (parts : Parts) → is_empty (values parts) ≡ false → IsTrue (has_operand place parts)
operand_there (operator wanted own) parts some = ap not some
operand_there _ parts some = refl

operand_pushed : (place : Place) (old new : Parts) (v : Seen) → values new ≡ values old ++ v ∷ [] → IsTrue (has_operand place new)
operand_pushed place old new v grown = operand_there place new (ap is_empty grown ∙ one_there (values old) v)

unnumbered : (count : Option ℕ) (old new : Parts) (operand fine : Bool) → HasNoNumber count → IsTrue (all_but_one count old && fine) → IsTrue operand → IsTrue (is_aligned count new && (operand && fine))
unnumbered None old new operand fine none within there = ap (λ (b : Bool). b && fine) there ∙ within
unnumbered (Some zero) old new operand fine none within there = absurd (cc within)
unnumbered (Some (suc n)) old new operand fine none within there = absurd none

first_true : (a b : Bool) → IsTrue (a && b) → IsTrue a
first_true true b h = refl
first_true false b h = h

second_true : (a b : Bool) → IsTrue (a && b) → IsTrue b
second_true true b h = h
second_true false b h = absurd (cc h)

pub pushed_unnumbered : (place : Place) (old new : Parts) (v : Seen) → HasNoNumber (part_count place) → IsTrue (parts_fit_within place old) → values new ≡ values old ++ v ∷ [] → Pushed place old new v
pushed_unnumbered place old new v none within grown = record {
  values_are = grown;
  fit = unnumbered (part_count place) old new (has_operand place new) (not (is_numbered_list place)) none within (operand_pushed place old new v grown);
}

pub pushed_numbered :
    (place : Place) (n : ℕ) (old new : Parts) (v : Seen) → part_count place ≡ Some (n + 1) → IsTrue (parts_fit_within place old)
    → (IsTrue (aligned n old) → values new ≡ values old ++ v ∷ []) → (IsTrue (aligned n old) → IsTrue (aligned (n + 1) new)) → Pushed place old new v
pushed_numbered place n old new v is within values_grow grows =
    let before : IsTrue (aligned n old) = subst (λ count. IsTrue (all_but_one count old)) (is ∙ ap Some (add-one n)) (first_true (all_but_one (part_count place) old) (not (is_numbered_list place)) within) in
    record {
      values_are = values_grow before;
      fit = ap (λ count. is_aligned count new && (has_operand place new && not (is_numbered_list place))) is
          ∙ ap (λ (b : Bool). b && (has_operand place new && not (is_numbered_list place))) (grows before)
          ∙ ap (λ (b : Bool). b && not (is_numbered_list place)) (operand_pushed place old new v (values_grow before))
          ∙ second_true (all_but_one (part_count place) old) (not (is_numbered_list place)) within;
    }
