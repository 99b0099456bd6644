-- What a unit leaves for linking.
use Rattle.std.proofs.Common.{◌≡◌, ℕ, Bool, false, ◌||◌, List, [], ◌∷◌, map, sym, ap, ◌∙◌}
use Rattle.std.proofs.Math.Path.{fun_ext}
use Rattle.std.specs.Prelude.{Vec, Some}
use Rattle.std.specs.HashMap.{HashMap}
use Rattle.std.specs.declared.alloc.Global.{Global}
use Rattle.c_tree.specs.Trees.{PlainTree, PlainTrees, leaf, node}
use Rattle.core_meaning.specs.Checking.{Checked, give}
use Rattle.core_meaning.specs.Entities as spec
use Rattle.core_meaning.specs.UnitNames.{UnitState, unit_start, judged_to_end, judged_unit}
use Rattle.core_meaning.specs.Linking.{Units, closed, uses_in}
use Rattle.plain_scope.specs.PlainScope.{entry_of, plain_struct}
use Rattle.plain_scope.specs.Parts.{parts_in}
use Rattle.plain_scope.specs.Judgements.{Gives, RefusedAs}
use Rattle.plain_scope.specs.declared.entities.Numbers.{Numbers}
use Rattle.plain_scope.specs.declared.entities.Struct.{Struct}
use Rattle.plain_scope.specs.declared.errors.ElabError.{ElabError}
use Rattle.plain_scope.specs.declared.errors.ElabError.TheVariants.{BadType, Link, Memory}
use Rattle.plain_link.specs.PlainUnits.{plain_unit}
use Rattle.plain_link.specs.declared.left.Left.{Left}
use Rattle.plain_structs.specs.PartLists.{no_parts, same_parts}

abbrev pub plain_numbers : {S : Type 0} → Numbers → HashMap (Vec ℕ Global) ℕ S → spec.Numbers
plain_numbers numbers texts = record {
  globals = entry_of numbers.globals;
  functions = entry_of numbers.functions;
  literals = entry_of texts;
}

-- a unit that was judged, with the structs so far
abbrev pub one_judged : ℕ → Left × Vec Struct Global → Units
one_judged globals judged = record { units = plain_unit globals judged.0 ∷ []; structs = map plain_struct judged.1.items }

-- a unit with the names that it uses
abbrev pub closed_with : UnitState → (List ℕ → Bool) → Units
closed_with state used = record {
  units = record { names = state.scope.file_names; order = state.scope.order; defined = state.defined; uses = used } ∷ [];
  structs = state.scope.structs;
}

pub unit_items : (globals : ℕ) (structs : List spec.Struct) (numbers : spec.Numbers) (tree : PlainTree) (parts : PlainTrees) (start : UnitState) → parts_in tree ≡ Some parts → start ≡ unit_start structs numbers → judged_unit globals structs numbers tree ≡ judged_to_end globals start parts
unit_items globals structs numbers (leaf token) parts start a b = no_parts parts a
unit_items globals structs numbers (node kind given) parts start a b =
    let e : given ≡ parts = same_parts given parts a in
    ap (judged_to_end globals (unit_start structs numbers)) e ∙ ap (λ s. judged_to_end globals s parts) (sym b)

pub closed_gives : (c : Checked UnitState) (state : UnitState) (before after : List ℕ → Bool) (x : Units) → ((name : List ℕ) → before name ≡ false) → Gives c state before after → x ≡ closed_with state after → closed c ≡ give x
closed_gives c state before after x nothing g is =
    let used : uses_in g.bindings ≡ after = fun_ext (λ name. sym (g.used name ∙ ap (λ b. b || uses_in g.bindings name) (nothing name))) in
    ap closed g.judged ∙ ap (λ u. give (closed_with state u)) used ∙ ap (λ u. give u) (sym is)

pub closed_refused : (c : Checked UnitState) (error : ElabError) → RefusedAs c error → RefusedAs (closed c) error
closed_refused c (BadType kind at) r = record { token = r.token; judged = ap closed r.judged; stands = r.stands }
closed_refused c (Link kind name) r = absurd r
closed_refused c Memory r = tt
