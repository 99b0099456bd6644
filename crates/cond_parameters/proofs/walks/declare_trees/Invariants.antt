use Rattle.std.proofs.Common.{◌≡◌, ℕ, Bool, false, IsTrue, List, []}
use Rattle.cond_formula.specs.Features.{has}
use Rattle.cond_formula.specs.Conditions.{condition_of, value}
use Rattle.conditional.specs.Entries.{seen}
use Rattle.c_text.specs.Token.{PlainToken}
use Rattle.choice_expansions.specs.Expansions.{plain_expansion, expanded}
use Rattle.choice_expansions.proofs.StepByStep.{still}
use Rattle.core_meaning.specs.Declarations.{with_block}
use Rattle.core_meaning.specs.Entities.{Scope}
use Rattle.type_tables.specs.Seen.{seen_tables}
use Rattle.type_tables.specs.Numbers.{FollowsInBlockBy}
use Rattle.type_tables.specs.Blocks.{OnlyLocals}
use Rattle.cond_parameters.specs.Readings.{Reading, nothing_read, goes_on}
use Rattle.cond_parameters.specs.Walks.{state_of, IsStateOf}
use Rattle.cond_parameters.proofs.Seeing.{a_state, UnseenFrom}
use Rattle.cond_parameters.proofs.walks.declare_trees.Given as goal

abbrev pub invariant-loop-expansion : goal.invariant-loop-expansion
invariant-loop-expansion g l = record {
  kept : g.O.Oracle.admits l.oracle ≡ g.O.Oracle.admits l.fn.oracle;
  outside : OnlyLocals l.fn.tables l.tables;
  unseen : (n : List Bool) → IsTrue (value (has n) (g.O.Oracle.admits l.fn.oracle)) → seen (has n) (expanded l.trees) ≡ []
      → UnseenFrom (has n) plain_expansion l.trees l.expansion-index × (state_of (has n) l.all l.tables ≡ a_state [] false (seen_tables (has n) l.fn.tables));
  -- what is shown is one of which the rest makes what all make of nothing
  shown : (n : List Bool) (by : ℕ → ℕ) (scope : Scope) (behind : PlainToken) → IsTrue (value (has n) (g.O.Oracle.admits l.fn.oracle)) → FollowsInBlockBy by (seen_tables (has n) l.fn.tables) (with_block scope)
      → (now : Reading) × IsStateOf by scope now (value (has n) (condition_of l.stood.some)) (value (has n) (condition_of l.stood.void)) (state_of (has n) l.all l.tables)
      × (still (has n) (goes_on l.defining scope behind) plain_expansion l.trees 0 nothing_read ≡ still (has n) (goes_on l.defining scope behind) plain_expansion l.trees l.expansion-index now);
}
