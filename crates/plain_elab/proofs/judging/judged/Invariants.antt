use Rattle.std.proofs.Common.{◌≡◌, ℕ, [], map, drop}
use Rattle.c_tree.specs.Trees.{plain_tree}
use Rattle.core_meaning.specs.Linking.{judged_units}
use Rattle.plain_scope.specs.PlainScope.{plain_struct}
use Rattle.plain_elab.specs.PlainStates.{behind_units, numbers_at}
use Rattle.plain_elab.proofs.judging.judged.Given as goal

abbrev pub invariant-loop-i : goal.invariant-loop-i
invariant-loop-i l = (globals : ℕ) →
    judged_units (numbers_at l.fn.numbers l.fn.texts) globals 0 [] (map plain_tree l.units)
    ≡ behind_units l.left.items globals (judged_units (numbers_at l.fn.numbers l.fn.texts) globals l.i (map plain_struct l.structs.items) (map plain_tree (drop l.i l.units)))
