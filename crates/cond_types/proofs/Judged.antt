-- What units that are judged well use, and how they are judged as a program.
use Rattle.std.proofs.Common.{◌≡◌, ℕ, ◌+◌, Bool, false, List, [], ◌∷◌, ◌++◌, length, refl, subst}
use Rattle.std.specs.List.{AllZip}
use Rattle.c_tree.specs.Trees.{PlainTree}
use Rattle.core_meaning.specs.Checking.{Binding, Checked, fine, refused, broken, with_bindings, give, ◌>>=◌}
use Rattle.core_meaning.specs.Entities.{Struct, Numbers}
use Rattle.core_meaning.specs.UnitNames.{UnitState, judged_unit}
use Rattle.core_meaning.specs.Linking.{Unit, Units, closed, uses_in, judged_units, judged_program, no_numbers, numbers_in, literals_of, listed}
use Rattle.bindings.specs.Visible.{uses_among}
use Rattle.bindings.specs.Bindings.{bindings_of}
use Rattle.bindings.specs.Laws.{IsWritten, AreWritten, FileNamesAreUsedAlike}
use Rattle.cond_types.specs.declared.typing.CondTypes.{CondTypes}
use Rattle.cond_types.specs.Typed.{IsTypedAs}

-- a unit uses the names that the bindings of its tree do
pub record UsesOf (unit : Unit) (tree : PlainTree) : Type 0 where
  pub uses : (name : List ℕ) → unit.uses name ≡ uses_among (bindings_of tree) name

module _ (laws : FileNamesAreUsedAlike) (numbers : ℕ → Numbers) (globals : ℕ) where
  abbrev Rest : ℕ → List PlainTree → Type 0
  Rest index trees =
      (structs : List Struct) (linked : Units) (bindings : List Binding) → judged_units numbers globals index structs trees ≡ fine linked bindings → AllZip UsesOf linked.units trees

  abbrev behind : Units → Units → Checked Units
  behind first others = give (record { units = first.units ++ others.units; structs = others.structs })

  abbrev unit_of : UnitState → List Binding → Unit
  unit_of state js = record { names = state.scope.file_names; order = state.scope.order; defined = state.defined; uses = uses_in js }

  abbrev first_of : UnitState → List Binding → Units
  first_of state js = record { units = unit_of state js ∷ []; structs = state.scope.structs }

  module _ (tree : PlainTree) (trees : List PlainTree) (written : IsWritten tree) (index : ℕ) (structs : List Struct) (rest : Rest (index + 1) trees) (linked : Units) (bindings : List Binding) where
    by_rest :
        (state : UnitState) (js : List Binding) → judged_unit globals structs (numbers index) tree ≡ fine state js
        → (r : Checked Units) → judged_units numbers globals (index + 1) state.scope.structs trees ≡ r
        → with_bindings [] (r >>= (λ others. behind (first_of state js) others)) ≡ fine linked bindings → AllZip UsesOf linked.units (tree ∷ trees)
    by_rest state js judged (fine others os) e is =
        let both : ◌≡◌ {A = Units} (record { units = unit_of state js ∷ others.units; structs = others.structs }) linked = cc in
        subst (λ (l : Units). AllZip UsesOf l.units (tree ∷ trees)) both
        (record { uses = λ name. laws.names tree written globals structs (numbers index) state js judged name }, rest state.scope.structs others os e)
    by_rest state js judged (refused kind token) e is = absurd cc
    by_rest state js judged broken e is = absurd cc

    by_first :
        (j : Checked UnitState) → judged_unit globals structs (numbers index) tree ≡ j
        → (closed j >>= (λ first. judged_units numbers globals (index + 1) first.structs trees >>= (λ others. behind first others))) ≡ fine linked bindings
        → AllZip UsesOf linked.units (tree ∷ trees)
    by_first (fine state js) e is = by_rest state js e (judged_units numbers globals (index + 1) state.scope.structs trees) refl is
    by_first (refused kind token) e is = absurd cc
    by_first broken e is = absurd cc

  pub uses_follow : (index : ℕ) (trees : List PlainTree) → AreWritten trees → Rest index trees
  uses_follow index [] written structs linked bindings is =
      let both : ◌≡◌ {A = Units} (record { units = []; structs = structs }) linked = cc in
      subst (λ (l : Units). AllZip UsesOf l.units []) both tt
  uses_follow index (tree ∷ trees) written structs linked bindings is =
      by_first tree trees written.0 index structs (uses_follow (index + 1) trees written.1) linked bindings (judged_unit globals structs (numbers index) tree) refl is

-- ---- programs

module _ (on : ℕ → Bool) (t : CondTypes) where
  with_more : (before : List Binding) (j : Checked Units) → IsTypedAs on j t → IsTypedAs on (with_bindings before j) t
  with_more before (fine linked bindings) h = h
  with_more before (refused kind token) h = h
  with_more before broken h = h

  module _ (trees : List PlainTree) (typed : (globals : ℕ) (numbers : ℕ → Numbers) → IsTypedAs on (judged_units numbers globals 0 [] trees) t) where
    judged_again : (j : Checked Units) → IsTypedAs on j t → IsTypedAs on (j >>= (λ first. judged_units (numbers_in first.units (literals_of trees)) (length (listed first.units false)) 0 [] trees)) t
    judged_again (fine first bindings) h =
        with_more bindings (judged_units (numbers_in first.units (literals_of trees)) (length (listed first.units false)) 0 [] trees)
        (typed (length (listed first.units false)) (numbers_in first.units (literals_of trees)))
    judged_again (refused kind token) h = h
    judged_again broken h = h

    pub program_typed : IsTypedAs on (judged_program trees) t
    program_typed = judged_again (judged_units no_numbers 0 0 [] trees) (typed 0 no_numbers)
