-- The units of a program are judged well one behind the other: linking judges them so first, and then with the numbers of their names.
use Rattle.std.proofs.Common.{◌≡◌, ℕ, ◌+◌, false, List, [], ◌∷◌, ◌++◌, length, refl, ap, sym, ◌∙◌}
use Rattle.c_tree.specs.Trees.{PlainTree}
use Rattle.core_meaning.specs.Checking.{Binding, Checked, fine, refused, broken, with_bindings, ◌>>=◌, give}
use Rattle.core_meaning.specs.Entities.{Struct}
use Rattle.core_meaning.specs.UnitNames.{UnitState}
use Rattle.core_meaning.specs.Linking.{Units, closed, judged_units, no_numbers, numbers_in, literals_of, listed, uses_in}
use Rattle.program_occurrences.specs.Occurrences.{judged_behind}
use Rattle.program_occurrences.specs.Laws.{AreJudged, no_more, one_more, UnitsOfProgramsAreJudged}

-- what was judged before a judgement that is fine is fine
pub record IsFine {A : Type 0} (c : Checked A) : Type 0 where
  pub value : A
  pub bindings : List Binding
  pub is : c ≡ fine value bindings

first_fine : {A B : Type 0} (c : Checked A) (next : A → Checked B) (x : B) (bindings : List Binding) → (c >>= next) ≡ fine x bindings → IsFine c
first_fine (fine value before) next x bindings e = record { value = value; bindings = before; is = refl }
first_fine (refused kind token) next x bindings e = absurd cc
first_fine broken next x bindings e = absurd cc

behind_fine : {B : Type 0} (before : List Binding) (c : Checked B) (x : B) (bindings : List Binding) → with_bindings before c ≡ fine x bindings → IsFine c
behind_fine before (fine value behind) x bindings e = record { value = value; bindings = behind; is = refl }
behind_fine before (refused kind token) x bindings e = absurd cc
behind_fine before broken x bindings e = absurd cc

closed_fine : (c : Checked UnitState) → IsFine (closed c) → IsFine c
closed_fine (fine state bindings) f = record { value = state; bindings = bindings; is = refl }
closed_fine (refused kind token) f = absurd (let e = f.is in cc)
closed_fine broken f = absurd (let e = f.is in cc)

abbrev with_others : Units → Units → Checked Units
with_others first others = give (record { units = first.units ++ others.units; structs = others.structs })

abbrev behind_first : ℕ → List PlainTree → Units → Checked Units
behind_first index rest first = judged_units no_numbers 0 (index + 1) first.structs rest >>= with_others first

-- the units behind one whose state is known
abbrev left_by : UnitState → List Binding → Units
left_by state js = record {
  units = record { names = state.scope.file_names; order = state.scope.order; defined = state.defined; uses = uses_in js } ∷ [];
  structs = state.scope.structs;
}

rest_fine :
    (index : ℕ) (rest : List PlainTree) (state : UnitState) (js : List Binding) (x : Units) (bindings : List Binding)
    → (closed (fine state js) >>= behind_first index rest) ≡ fine x bindings → IsFine (judged_units no_numbers 0 (index + 1) state.scope.structs rest)
rest_fine index rest state js x bindings e =
    let k = behind_fine [] (behind_first index rest (left_by state js)) x bindings e in
    first_fine (judged_units no_numbers 0 (index + 1) state.scope.structs rest) (with_others (left_by state js)) k.value k.bindings k.is

judged_well : (index : ℕ) (structs : List Struct) (trees : List PlainTree) → IsFine (judged_units no_numbers 0 index structs trees) → AreJudged structs trees
judged_well index structs [] f = no_more
judged_well index structs (tree ∷ rest) f =
    let s = closed_fine (judged_behind structs tree) (first_fine (closed (judged_behind structs tree)) (behind_first index rest) f.value f.bindings f.is) in
    one_more s.value s.bindings s.is
    (judged_well (index + 1) s.value.scope.structs rest
    (rest_fine index rest s.value s.bindings f.value f.bindings (ap (λ c. closed c >>= behind_first index rest) (sym s.is) ∙ f.is)))

pub units_are_judged : UnitsOfProgramsAreJudged
units_are_judged trees linked js e =
    judged_well 0 [] trees
    (first_fine (judged_units no_numbers 0 0 [] trees) (λ first. judged_units (numbers_in first.units (literals_of trees)) (length (listed first.units false)) 0 [] trees) linked js e)
