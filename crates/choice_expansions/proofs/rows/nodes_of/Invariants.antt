use Rattle.std.proofs.Common.{◌≡◌, ℕ, Bool, map}
use Rattle.conditional.specs.Entries.{seen}
use Rattle.c_tree.specs.Trees.{node, none}
use Rattle.choice_expansions.specs.Expansions.{expanded, rows_before}
use Rattle.choice_expansions.proofs.rows.nodes_of.Given as goal

abbrev pub invariant-loop-row : goal.invariant-loop-row
invariant-loop-row l = (on : ℕ → Bool) → seen on (expanded l.all.items) ≡ map (node l.kind) (seen on (rows_before none l.yielded))
