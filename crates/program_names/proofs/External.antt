-- A name of file scope to which an identifier of a unit is bound has external linkage where it isn't internal, with whatever numbers the unit is judged.
use Rattle.std.proofs.Common.{◌≡◌, ℕ, ◌+◌, zero, suc, Bool, true, false, List, [], ◌∷◌, ◌++◌, refl, ap, sym, subst, IsTrue, inl, inr}
use Rattle.std.specs.Prelude.{Option, Some, None, is_some, not, slice_get}
use Rattle.std.specs.List.{AllByRecursion}
use Rattle.std.proofs.lemmas.Bool.{false≢true}
use Rattle.std.proofs.lemmas.Option.{same_Some, none-some}
use Rattle.c_tree.specs.Trees.{PlainTree, spelled}
use Rattle.core_meaning.specs.Checking.{file_entity, Binding, Checked, fine, refused, broken, ◌>>=◌, give}
use Rattle.core_meaning.specs.Entities.{Struct, FileName, Numbers}
use Rattle.core_meaning.specs.UnitNames.{UnitState, judged_unit}
use Rattle.core_meaning.specs.Linking.{Unit, Units, uses_in, closed, judged_units, is_internal, no_numbers}
use Rattle.core_meaning.proofs.Outlines.{bound, given_is}
use Rattle.bindings.specs.Judged.{Identified}
use Rattle.bindings.specs.Laws.{IsWritten, AreWritten, IsVisibleIn, BoundNamesAreVisible}
use Rattle.core_numbers.specs.Laws.{BindingsNeedNoNumbers}
use Rattle.program_occurrences.specs.Occurrences.{Identifier, identifiers_from, with_entities, UnitNames, is_external_name, names_of_unit, structs_behind, judged_behind, names_behind}
use Rattle.program_occurrences.specs.Laws.{AreJudged, no_more, one_more}
use Rattle.occurrence_names.proofs.Kept.{In}

-- ---- one unit

-- a name of file scope for which an identifier stands, and which isn't internal, has external linkage
abbrev pub IsExternalAs : Unit → UnitNames → Type 0
IsExternalAs unit names = (i : Identified) (a : List ℕ) → In i names.identified → i.entity ≡ file_entity a → is_internal unit a ≡ false → names.is_external a ≡ true

visible_in : (state : UnitState) (is : List Identifier) (js : List Binding) (i : Identified) → AllByRecursion (λ j. IsVisibleIn state j.entity) js → In i (with_entities is js) → IsVisibleIn state i.entity
visible_in state [] js i v among = absurd among
visible_in state (x ∷ is) [] i v among = absurd among
visible_in state (x ∷ is) (j ∷ js) i v (inl e) = subst (IsVisibleIn state) (sym (ap (λ (k : Identified). k.entity) e)) v.0
visible_in state (x ∷ is) (j ∷ js) i v (inr among) = visible_in state is js i v.1 among

external_by : (x : Option FileName) → IsTrue (is_some x) → (elim x as (λ y. Bool) [ None ↦ false | Some n ↦ n.internal ]) ≡ false → is_external_name x ≡ true
external_by None some external = absurd (false≢true some)
external_by (Some n) some external = ap not external

abbrev the_unit : UnitState → List Binding → Unit
the_unit state own = record { names = state.scope.file_names; order = state.scope.order; defined = state.defined; uses = uses_in own }

module _ (visible : BoundNamesAreVisible) (same : BindingsNeedNoNumbers) where
  unit_external :
      (tree : PlainTree) → IsWritten tree → (globals : ℕ) (structs : List Struct) (numbers : Numbers) (state alone : UnitState) (own js : List Binding) → judged_unit globals structs numbers tree ≡ fine state own
      → judged_behind structs tree ≡ fine alone js → IsExternalAs (the_unit state own) (names_of_unit tree (fine alone js))
  unit_external tree w globals structs numbers state alone own js e f i a among stands external =
      let s = same tree globals 0 structs numbers (no_numbers 0) state alone own js e f in
      external_by (alone.scope.file_names a)
      (subst (IsVisibleIn alone) stands (visible_in alone (identifiers_from 0 (spelled tree)) js i (visible tree w 0 structs (no_numbers 0) alone js f) among))
      (subst (λ (table : List ℕ → Option FileName). (elim (table a) as (λ y. Bool) [ None ↦ false | Some n ↦ n.internal ]) ≡ false) s.names external)

  -- ---- one unit after the other

  -- the parts of a judgement of units
  record Parts (numbers : ℕ → Numbers) (globals index : ℕ) (structs : List Struct) (tree : PlainTree) (rest : List PlainTree) (units : Units) : Type 0 where
    state : UnitState
    own : List Binding
    others : Units
    behind : List Binding
    unit : judged_unit globals structs (numbers index) tree ≡ fine state own
    judged : judged_units numbers globals (index + 1) state.scope.structs rest ≡ fine others behind
    all : units.units ≡ the_unit state own ∷ others.units

  parts :
      (numbers : ℕ → Numbers) (globals index : ℕ) (structs : List Struct) (tree : PlainTree) (rest : List PlainTree) (units : Units) (js : List Binding) (c : Checked UnitState)
      → judged_unit globals structs (numbers index) tree ≡ c
      → (closed c >>= (λ first. judged_units numbers globals (index + 1) first.structs rest >>= (λ others. give (record { units = first.units ++ others.units; structs = others.structs })))) ≡ fine units js
      → Parts numbers globals index structs tree rest units
  parts numbers globals index structs tree rest units js (fine state own) is e =
      let first : Units = record { units = the_unit state own ∷ []; structs = state.scope.structs } in
      let all : Units → Checked Units = λ others. give (record { units = first.units ++ others.units; structs = others.structs }) in
      let whole = bound (closed (fine state own)) (λ (one : Units). judged_units numbers globals (index + 1) one.structs rest >>= (λ others. give (record { units = one.units ++ others.units; structs = others.structs }))) units js e in
      let one_is : first ≡ whole.value = given_is first whole.value whole.before whole.first in
      let left = bound (judged_units numbers globals (index + 1) state.scope.structs rest) all units whole.behind
      (subst (λ (one : Units). (judged_units numbers globals (index + 1) one.structs rest >>= (λ others. give (record { units = one.units ++ others.units; structs = others.structs }))) ≡ fine units whole.behind) (sym one_is) whole.rest) in
      record {
        state = state;
        own = own;
        others = left.value;
        behind = left.before;
        unit = is;
        judged = left.first;
        all = sym (ap (λ (x : Units). x.units) (given_is (record { units = first.units ++ left.value.units; structs = left.value.structs }) units left.behind left.rest));
      }
  parts numbers globals index structs tree rest units js (refused kind token) is e = absurd cc
  parts numbers globals index structs tree rest units js broken is e = absurd cc

  pub external_at :
      (numbers : ℕ → Numbers) (globals index : ℕ) (structs : List Struct) (trees : List PlainTree) → AreWritten trees → AreJudged structs trees → (units : Units) (js : List Binding)
      → judged_units numbers globals index structs trees ≡ fine units js → (place : ℕ) (unit : Unit) (names : UnitNames)
      → slice_get units.units place ≡ Some unit → slice_get (names_behind structs trees) place ≡ Some names → IsExternalAs unit names
  external_at numbers globals index structs [] w no_more units js e place unit names at here = absurd (none-some names here)
  external_at numbers globals index structs (tree ∷ rest) w (one_more alone ks f further) units js e place unit names at here =
      let p = parts numbers globals index structs tree rest units js (judged_unit globals structs (numbers index) tree) refl e in
      by p
      (λ k there here. external_at numbers globals (index + 1) alone.scope.structs rest w.1 further p.others p.behind
      (subst (λ (l : List Struct). judged_units numbers globals (index + 1) l rest ≡ fine p.others p.behind) (same tree globals 0 structs (numbers index) (no_numbers 0) p.state alone p.own ks p.unit f).structs p.judged) k unit names there here)
      place (subst (λ (l : List Unit). slice_get l place ≡ Some unit) p.all at) (subst (λ c. slice_get (names_of_unit tree c ∷ names_behind (structs_behind structs c) rest) place ≡ Some names) f here)
    where
      by :
          (p : Parts numbers globals index structs tree rest units)
          → ((k : ℕ) → slice_get p.others.units k ≡ Some unit → slice_get (names_behind alone.scope.structs rest) k ≡ Some names → IsExternalAs unit names) → (k : ℕ)
          → slice_get (the_unit p.state p.own ∷ p.others.units) k ≡ Some unit → slice_get (names_of_unit tree (fine alone ks) ∷ names_behind alone.scope.structs rest) k ≡ Some names → IsExternalAs unit names
      by p others_so zero at here =
          subst (λ (u : Unit). IsExternalAs u names) (same_Some (the_unit p.state p.own) unit at)
          (subst (λ (n : UnitNames). IsExternalAs (the_unit p.state p.own) n) (same_Some (names_of_unit tree (fine alone ks)) names here)
          (unit_external tree w.0 globals structs (numbers index) p.state alone p.own ks p.unit f))
      by p others_so (suc k) at here = others_so k at here
