use Rattle.std.proofs.Common.{ℕ, Bool, IsTrue, List, sym, subst}
use Rattle.std.proofs.lemmas.Result.{IfOk-weaker}
use Rattle.cond_formula.specs.Features.{has}
use Rattle.cond_formula.specs.Conditions.{value}
use Rattle.conditional.specs.Entries.{Stands}
use Rattle.c_text.specs.Token.{PlainToken}
use Rattle.c_tree.specs.Trees.{PlainTree}
use Rattle.choice_trees.specs.ChoiceTrees.{plain_item, item_at}
use Rattle.choice_expansions.specs.Expansions.{expanded}
use Rattle.core_meaning.specs.Entities as entities
use Rattle.core_meaning.specs.Constancy.{judged_count}
use Rattle.operand_types.specs.OperandTypes.{outcome_as}
use Rattle.cond_sizes.specs.Sizes.{ShowsCount}
use Rattle.cond_sizes.proofs.sizes.counts.Goals as goal

pub returns-clause-shows : goal.returns-clause-shows
returns-clause-shows g c =
    IfOk-weaker c.counts_of.result
    (λ all. (on : ℕ → Bool) (tree : PlainTree) → Stands on tree (expanded c.deref.result.now) → (visible : entities.Scope) (other : PlainToken)
    → ShowsCount on (outcome_as (λ (n : ℕ). n) (judged_count visible tree other)) all)
    (λ all. (n : List Bool) → IsTrue (value (has n) (g.O.Oracle.admits c.args.oracle.now)) → (visible : entities.Scope) (behind : PlainToken)
    → ShowsCount (has n) (outcome_as (λ (n : ℕ). n) (judged_count visible (item_at (has n) (plain_item c.args.size.now)) behind)) all)
    (λ all h n admitted visible behind.
    h (has n) (item_at (has n) (plain_item c.args.size.now))
    (subst (λ list. Stands (has n) (item_at (has n) (plain_item c.args.size.now)) (expanded list)) (sym c.deref.ensures.value) (c.in_ok-expansions.ensures.stands n admitted))
    visible behind)
    c.counts_of.ensures
