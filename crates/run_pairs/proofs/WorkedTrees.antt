-- The core programs of the worked pairs, by computing them.
use Rattle.std.proofs.Common.{List, [], ◌∷◌, refl}
use Rattle.core_meaning.specs.Checking.{Checked, fine, Binding}
use Rattle.core_meaning.specs.Linking.{Units, judged_program}
use Rattle.run_pairs.specs.WorkedTrees.{before_tree, behind_tree, with_call_tree, without_call_tree, WorkedTrees}

abbrev units_of : Checked Units → Units
units_of (fine units bindings) = units
units_of other = record { units = []; structs = [] }

abbrev bindings_of : Checked Units → List Binding
bindings_of (fine units bindings) = bindings
bindings_of other = []

pub worked_trees_lem : WorkedTrees
worked_trees_lem = record {
  before_is = record { linked = units_of (judged_program (before_tree ∷ [])); bindings = bindings_of (judged_program (before_tree ∷ [])); judged = refl; program = refl };
  behind_is = record { linked = units_of (judged_program (behind_tree ∷ [])); bindings = bindings_of (judged_program (behind_tree ∷ [])); judged = refl; program = refl };
  with_call_is = record { linked = units_of (judged_program (with_call_tree ∷ [])); bindings = bindings_of (judged_program (with_call_tree ∷ [])); judged = refl; program = refl };
  without_call_is = record { linked = units_of (judged_program (without_call_tree ∷ [])); bindings = bindings_of (judged_program (without_call_tree ∷ [])); judged = refl; program = refl };
}
