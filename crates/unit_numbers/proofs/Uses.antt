-- What expressions use is bound before: slots and members as they are numbered, names of file scope as units are read.
use Rattle.std.proofs.Common.{◌≡◌, ℕ, ◌<◌, Bool, true, false, List, [], ◌∷◌, ◌++◌, refl, ap, ◌∙◌, arith}
use Rattle.std.specs.Prelude.{None, ◌&&◌}
use Rattle.std.specs.List.{AllZip, AllByRecursion}
use Rattle.core_meaning.specs.Checking.{Entity, local_entity, local_of_function, file_entity, struct_entity, member_entity, own_entity, Binding}
use Rattle.bindings.specs.Visible.{bound_to, undeclared, member_use, Occurrence as BoundIdentifier, Binding as Visible}
use Rattle.bindings.specs.Bindings.{bindings_of}
use Rattle.bindings.specs.Judged.{Identified, first_with, number_or, identified, IsAlike, AreAlike, is_file_entity, IsUsedAlike}
use Rattle.bindings.specs.Laws.{JudgementsBindAlike, FileNamesAreUsedAlike}
use Rattle.bound_names.specs.Laws.{IsBoundBefore, IsUseOfBefore, UsesAreOfBefore}
use Rattle.tree_derivations.specs.Derivations.{UnitsAreDerived}
use Rattle.entity_numbers.specs.Numbered.{first_place}
use Rattle.entity_numbers.specs.Firsts.{AreOf}
use Rattle.entity_numbers.specs.Kinds.{Ties, with_tie, IsUsable, AreMeantAlike, AreKindsAlike}
use Rattle.entity_numbers.specs.Bound.{IsOfUnit, AreOfUnit, AreUsedBehind}
use Rattle.entity_numbers.specs.Laws.{UnitsNameParameters}
use Rattle.entity_numbers.proofs.Places.{is_first, of_more}
use Rattle.bound_slots.specs.Laws.{SizesBindNothing, SlotsAreOfFunctions}
use Rattle.entity_kinds.specs.Laws.{KindsAreAlike}
use Rattle.entity_kinds.proofs.Counts.{itself}
use Rattle.unit_numbers.specs.Laws.{UsesAreBoundBefore}
use Rattle.unit_numbers.proofs.Runs.{IsCounted, AreCountedBehind}
use Rattle.unit_numbers.proofs.Items.{uses_are_counted}

meant_usable : (ties : Ties) (p q : Bool) (a b : Entity) → AreMeantAlike ties p q a b → p ≡ true → IsUsable a
meant_usable ties true true a b h e = h.0
meant_usable ties true false a b h e = absurd h
meant_usable ties false q a b h e = absurd cc

-- a name of file scope
file_used :
    (seen : List Identified) (before : List Binding) (o : BoundIdentifier) (name : List ℕ) → AreOf seen before → (b : Visible) → o.binding ≡ b → IsBoundBefore o.number b
    → (elim b as (λ x. Type 0) [
      | bound_to by ↦ by ≡ number_or (first_with (file_entity name) seen) o.number
      | undeclared ↦ ⊥
      | member_use which ↦ Rattle.bindings.specs.Judged.IsMember seen which (file_entity name)
    ]) → first_place (file_entity name) before ≡ None → ⊥
file_used seen before o name of_ (bound_to by) is less e none_ =
    let same_ : by ≡ o.number = e ∙ is_first seen before (file_entity name) o.number of_ none_ in
    let below : by < o.number = less in
    omega (arith, same_, below)
file_used seen before o name of_ undeclared is less e none_ = e
file_used seen before o name of_ (member_use which) is less e none_ = less

one_used :
    (seen : List Identified) (before : List Binding) (o : BoundIdentifier) (uses : Bool) (e : Entity) → AreOf seen before → IsAlike seen o e → o.uses_file_name ≡ (uses && is_file_entity e) → IsUseOfBefore o
    → (uses ≡ true → IsCounted e → first_place e before ≡ None → ⊥) → IsOfUnit e → (uses ≡ true → IsUsable e) → uses ≡ true → first_place e before ≡ None → ⊥
one_used seen before o uses (local_entity slot) of_ alike same_ used_before counted of_unit usable used none_ = of_unit
one_used seen before o uses (local_of_function f slot) of_ alike same_ used_before counted of_unit usable used none_ = counted used tt none_
one_used seen before o uses (struct_entity n) of_ alike same_ used_before counted of_unit usable used none_ = counted used tt none_
one_used seen before o uses (member_entity s n) of_ alike same_ used_before counted of_unit usable used none_ = counted used tt none_
one_used seen before o uses own_entity of_ alike same_ used_before counted of_unit usable used none_ = usable used
one_used seen before o uses (file_entity name) of_ alike same_ used_before counted of_unit usable used none_ =
    file_used seen before o name of_ o.binding refl (used_before (same_ ∙ ap (λ (b : Bool). b && true) used)) alike none_

used_from :
    (seen : List Identified) (before : List Binding) (ties : Ties) (os : List BoundIdentifier) (js : List Binding) → AreOf seen before → AreAlike seen os js → AllZip IsUsedAlike os js → AllByRecursion IsUseOfBefore os
    → AreCountedBehind before js → AreOfUnit js → AreKindsAlike ties js js → AreUsedBehind before js
used_from seen before ties [] [] of_ alike used uses counted of_unit kinds = tt
used_from seen before ties [] (j ∷ js) of_ alike used uses counted of_unit kinds = absurd alike
used_from seen before ties (o ∷ os) [] of_ alike used uses counted of_unit kinds = absurd alike
used_from seen before ties (o ∷ os) (j ∷ js) of_ alike used uses counted of_unit kinds = (
  one_used seen before o j.in_expression j.entity of_ alike.0 used.0.same uses.0 counted.0 of_unit.0 (meant_usable ties j.in_expression j.in_expression j.entity j.entity kinds.0),
  used_from (seen ++ identified o j ∷ []) (before ++ j ∷ []) (with_tie ties j.entity j.entity) os js (of_more seen before (identified o j) j of_ refl) alike.1 used.1 uses.1 counted.1 of_unit.1 kinds.1,
)

pub uses_are_bound_before : UnitsAreDerived → UnitsNameParameters → SizesBindNothing → KindsAreAlike → SlotsAreOfFunctions → JudgementsBindAlike → FileNamesAreUsedAlike → UsesAreOfBefore → UsesAreBoundBefore
uses_are_bound_before derived named counts kinds slots alike files uses tree w globals structs numbers unit js e =
    used_from [] [] [] (bindings_of tree) js tt (alike tree w globals structs numbers unit js e) (files.each tree w globals structs numbers unit js e) (uses tree)
    (uses_are_counted derived named counts tree w.unit globals structs numbers unit js e) (slots tree globals structs numbers unit js e)
    (kinds tree tree w.unit (itself tree) globals globals structs structs numbers numbers unit unit js js e e)
