use Rattle.std.proofs.Common.{◌≡◌, ℕ, Bool, ◌++◌}
use Rattle.c_text.specs.Token.{plain_token}
use Rattle.cond_formula.specs.Conditions.{condition_of, value}
use Rattle.conditional.specs.Entries.{seen, listed}
use Rattle.cond_selections.specs.Selected.{plain_selection}
use Rattle.cond_selections.proofs.Noting.{left_to_note}
use Rattle.cond_selections.proofs.names.push_first.Given as goal

abbrev pub invariant-loop-structure : goal.invariant-loop-structure
invariant-loop-structure l = (on : ℕ → Bool) →
    seen on (listed plain_selection l.log) ++ left_to_note on (plain_token l.name) l.structures (value on (condition_of l.left)) l.structure-index
    ≡ seen on (listed plain_selection l.fn.log) ++ left_to_note on (plain_token l.name) l.structures (value on (condition_of l.when)) 0
