-- Units that bind alike leave as many structs behind.
use Rattle.std.proofs.Common.{◌≡◌, inl, inr, ℕ, zero, suc, ◌≤◌, ◌<◌, Bool, List, [], ◌∷◌, refl, sym, ap, subst, ◌∙◌, length, arith}
use Rattle.std.specs.Prelude.{◌⊎◌, ◌==◌, Some, option_map, if◌then◌else◌}
use Rattle.core_meaning.specs.Checking.{Entity, local_entity, local_of_function, file_entity, struct_entity, member_entity, own_entity, Binding}
use Rattle.tree_derivations.specs.Derivations.{UnitsAreDerived}
use Rattle.bindings.specs.Judged.{same_entity}
use Rattle.renamed_programs.specs.Entities.{Correspondence, SameEntity, AreBoundAlike}
use Rattle.entity_numbers.specs.Numbered.{first_place}
use Rattle.entity_numbers.specs.Laws.{UnitsNameParameters}
use Rattle.bound_slots.specs.Laws.{SizesBindNothing}
use Rattle.unit_numbers.specs.Laws.{UnitsLeaveAsManyStructs}
use Rattle.unit_numbers.proofs.Items.{BindsStructs, units_bind_structs}

same_struct : (named : Correspondence) (a b : Entity) (m : ℕ) → SameEntity named a b → same_entity a (struct_entity m) ≡ same_entity b (struct_entity m)
same_struct named (local_entity i) (local_entity j) m h = refl
same_struct named (local_of_function f i) (local_of_function g j) m h = refl
same_struct named (file_entity x) (file_entity y) m h = refl
same_struct named (struct_entity i) (struct_entity j) m h = ap (λ k. k == m) h
same_struct named (member_entity s i) (member_entity t j) m h = refl
same_struct named own_entity own_entity m h = refl
same_struct named _ _ m h = absurd h

same_first : (named : Correspondence) (js ks : List Binding) (m : ℕ) → AreBoundAlike named js ks → first_place (struct_entity m) js ≡ first_place (struct_entity m) ks
same_first named [] [] m h = refl
same_first named [] (k ∷ ks) m h = absurd h
same_first named (j ∷ js) [] m h = absurd h
same_first named (j ∷ js) (k ∷ ks) m h =
    ap (λ (b : Bool). if b then Some 0 else option_map (λ n. suc n) (first_place (struct_entity m) js)) (same_struct named j.entity k.entity m h.0)
    ∙ ap (λ o. if same_entity k.entity (struct_entity m) then Some 0 else option_map (λ n. suc n) o) (same_first named js ks m h.1)

fewer_or_not : (m n : ℕ) → (m < n) ⊎ (n ≤ m)
fewer_or_not m zero = inr (omega arith)
fewer_or_not zero (suc n) = inl (omega arith)
fewer_or_not (suc m) (suc n) = by (fewer_or_not m n)
  where
    by : (m < n) ⊎ (n ≤ m) → (suc m < suc n) ⊎ (suc n ≤ suc m)
    by (inl h) = inl (omega (arith, h))
    by (inr h) = inr (omega (arith, h))

no_fewer : (named : Correspondence) (before m n : ℕ) (js ks : List Binding) → BindsStructs before m js → BindsStructs before n ks → AreBoundAlike named js ks → m < n → ⊥
no_fewer named before m n js ks f g h less = g.own m f.no_fewer less (sym (same_first named js ks m h) ∙ f.others m (omega arith))

no_more : (named : Correspondence) (before m n : ℕ) (js ks : List Binding) → BindsStructs before m js → BindsStructs before n ks → AreBoundAlike named js ks → n < m → ⊥
no_more named before m n js ks f g h less = f.own n g.no_fewer less (same_first named js ks n h ∙ g.others n (omega arith))

as_many : (named : Correspondence) (before m n : ℕ) (js ks : List Binding) → BindsStructs before m js → BindsStructs before n ks → AreBoundAlike named js ks → m ≡ n
as_many named before m n js ks f g h = by (fewer_or_not m n) (fewer_or_not n m)
  where
    by : (m < n) ⊎ (n ≤ m) → (n < m) ⊎ (m ≤ n) → m ≡ n
    by (inl less) o = absurd (no_fewer named before m n js ks f g h less)
    by (inr a) (inl less) = absurd (no_more named before m n js ks f g h less)
    by (inr a) (inr b) = omega (arith, a, b)

pub units_leave_as_many_structs : UnitsAreDerived → UnitsNameParameters → SizesBindNothing → UnitsLeaveAsManyStructs
units_leave_as_many_structs derived parameters counts named tree other is_ was globals count structs others numbers more_ unit after js ks many e f h =
    as_many named (length structs) (length unit.scope.structs) (length after.scope.structs) js ks (units_bind_structs derived parameters counts tree is_ globals structs numbers unit js e)
    (subst (λ n. BindsStructs n (length after.scope.structs) ks) (sym many) (units_bind_structs derived parameters counts other was count others more_ after ks f)) h
