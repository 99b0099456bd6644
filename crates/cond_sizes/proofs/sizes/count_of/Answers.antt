use Rattle.std.proofs.Common.{◌≡◌, ℕ, ◌∙◌}
use Rattle.std.proofs.lemmas.Result.{IfOk-weaker}
use Rattle.c_text.specs.Token.{PlainToken, plain_token}
use Rattle.conditional.specs.Judgements.{checked}
use Rattle.c_tree.specs.Trees.{plain_tree}
use Rattle.core_meaning.specs.Checking as judging
use Rattle.core_meaning.specs.Entities as entities
use Rattle.core_meaning.specs.Constancy.{judged_count}
use Rattle.operand_types.specs.OperandTypes.{outcome_as}
use Rattle.operand_rules.specs.PlainOperandTypes.{reason}
use Rattle.plain_scope.specs.PlainScope.{plain_scope}
use Rattle.plain_scope.specs.Judgements.{Judges}
use Rattle.plain_scope.specs.declared.entities.Used.{Used}
use Rattle.cond_sizes.specs.Sizes.{plain_count}
use Rattle.cond_sizes.proofs.sizes.count_of.Goals as goal

pub returns : goal.returns
returns c =
    IfOk-weaker c.outcome.result
    (λ r. (j : judging.Checked ℕ) (before after : Used) → Judges j (λ (n : ℕ). n) before after c.count.result → checked plain_count reason r ≡ outcome_as (λ (n : ℕ). n) j)
    (λ r. (visible : entities.Scope) (other : PlainToken) → checked plain_count reason r ≡ outcome_as (λ (n : ℕ). n) (judged_count visible (plain_tree c.args.tree.now) other))
    (λ r h visible other.
    h (judged_count (plain_scope c.args.scope.now) (plain_tree c.args.tree.now) (plain_token c.args.behind.now)) c.new-used.result c.count.new.used c.count.ensures
    ∙ c.counts_need_no_names.ensures (plain_scope c.args.scope.now) visible (plain_tree c.args.tree.now) (plain_token c.args.behind.now) other)
    c.outcome.ensures
