-- What an expression uses doesn't declare itself.
use Rattle.std.proofs.Common.{◌≡◌, ℕ, suc, ◌≤◌, Bool, true, false, List, [], ◌∷◌, ◌++◌, map, Option, Some, None, refl, sym, ap, subst, ◌∙◌, append_assoc}
use Rattle.std.specs.Prelude.{if◌then◌else◌, option_map}
use Rattle.std.specs.List.{AllZip}
use Rattle.std.proofs.lemmas.Bool.{false≢true}
use Rattle.std.proofs.lemmas.Option.{none-some}
use Rattle.core_meaning.specs.Checking.{Entity, Binding}
use Rattle.bindings.specs.Judged.{same_entity, Identified, first_with}
use Rattle.entity_numbers.specs.Numbered.{first_place}
use Rattle.entity_numbers.specs.Firsts.{AreOf, AreInOrder}
use Rattle.entity_numbers.specs.Bound.{AreUsedBehind}
use Rattle.entity_numbers.proofs.Places.{of_more}
use Rattle.program_occurrences.specs.Occurrences.{occurrence_among, declares_itself}
use Rattle.name_spaces.proofs.Told.{Below, below_more, declared_before}
use Rattle.read_occurrences.proofs.OneByOne.{IsUnused}

placed : (e : Entity) (before : List Identified) (js : List Binding) → AreOf before js → first_with e before ≡ None → first_place e js ≡ None
placed e [] [] of_ f = refl
placed e [] (j ∷ js) of_ f = absurd of_
placed e (i ∷ before) [] of_ f = absurd of_
placed e (i ∷ before) (j ∷ js) of_ f =
    ap (λ (x : Entity). if same_entity x e then Some 0 else option_map (λ n. suc n) (first_place e js)) (sym of_.0)
    ∙ by (same_entity i.entity e) f (placed e before js of_.1)
  where
    by : (b : Bool) → (if b then Some i else first_with e before) ≡ None → (first_with e before ≡ None → first_place e js ≡ None) → (if b then Some 0 else option_map (λ n. suc n) (first_place e js)) ≡ None
    by true f later = absurd (none-some i (sym f))
    by false f later = ap (λ (o : Option ℕ). option_map (λ n. suc n) o) (later f)

one_unused :
    (n : ℕ) (before rest all : List Identified) (behind : List Binding) (i : Identified) (j : Binding) → Below n before → n ≤ i.number → all ≡ before ++ rest → AreOf before behind → i.entity ≡ j.entity
    → (j.in_expression ≡ true → first_place j.entity behind ≡ None → ⊥) → (b : Bool) → j.in_expression ≡ b → declares_itself (occurrence_among all i) ≡ true → b ≡ false
one_unused n before rest all behind i j h less is of_ same_ used false e own = refl
one_unused n before rest all behind i j h less is of_ same_ used true e own = by (first_with i.entity before) refl
  where
    by : (o : Option Identified) → first_with i.entity before ≡ o → true ≡ false
    by None f = absurd (used e (placed j.entity before behind of_ (subst (λ (x : Entity). first_with x before ≡ None) same_ f)))
    by (Some d) f = absurd (false≢true (sym (declared_before n before rest all i d h less is f) ∙ own))

pub each_unused :
    (n : ℕ) (before is : List Identified) (behind js : List Binding) (all : List Identified) → Below n before → AreInOrder n is → all ≡ before ++ is → AreOf before behind → AreOf is js → AreUsedBehind behind js
    → AllZip IsUnused (map (occurrence_among all) is) js
each_unused n before [] behind [] all h order is of_ same_ used = tt
each_unused n before [] behind (j ∷ js) all h order is of_ same_ used = absurd same_
each_unused n before (i ∷ is) behind [] all h order e of_ same_ used = absurd same_
each_unused n before (i ∷ is) behind (j ∷ js) all h order e of_ same_ used = (
  one_unused n before (i ∷ is) all behind i j h order.0 e of_ same_.0 used.0 j.in_expression refl,
  each_unused (suc i.number) (before ++ i ∷ []) is (behind ++ j ∷ []) js all (below_more n before i h order.0) order.1 (e ∙ sym (append_assoc before (i ∷ []) is)) (of_more before behind i j of_ same_.0) same_.1 used.1,
)
