use Rattle.std.proofs.Common.{◌≡◌, Bool, true, false, refl, sym, ap, subst, ◌∙◌}
use Rattle.std.proofs.lemmas.Result.{IfOk-weaker}
use Rattle.cond_formula.specs.Features.{has}
use Rattle.cond_formula.specs.Conditions.{condition_of, value}
use Rattle.c_tree.specs.declared.kinds.Kind.{Kind}
use Rattle.c_tree.specs.declared.kinds.Kind.TheVariants as k
use Rattle.choice_trees.specs.ChoiceTrees.{plain_item, item_at}
use Rattle.statement_readings.specs.Walks.{use_in, expression_refused}
use Rattle.statement_readings.specs.Walks as walks
use Rattle.cond_statements.specs.Uses.{may_turn}
use Rattle.cond_statements.proofs.expressions.where_part_refused.Goals as goal

-- what a `;` may turn
abbrev Turns : Kind → Bool → Type 0
Turns kind true = kind ≡ k.For
Turns kind false = (turned : Bool) → use_in kind false ≡ use_in kind turned

turning : (kind : Kind) → Turns kind (may_turn kind)
turning k.For = refl
turning _ = λ turned. refl

pub returns-then-may_turn-clause-refused : goal.returns-then-may_turn-clause-refused
returns-then-may_turn-clause-refused g c =
    let is : c.args.kind ≡ k.For = subst (Turns c.args.kind) (sym c.may_turn.ensures ∙ c.if-may_turn.true) (turning c.args.kind) in
    IfOk-weaker c.where_head_refused.result _ _ (λ f refusing n admitted by ty scope stands follows derived.
    refusing n admitted by ty scope stands follows derived
    ∙ ap (λ (m : Kind). expression_refused ty scope (use_in m (value (has n) (condition_of c.args.turned.now))) (item_at (has n) (plain_item c.args.item.now))) (sym is)) c.where_head_refused.ensures.refused

pub returns-else-may_turn-clause-refused : goal.returns-else-may_turn-clause-refused
returns-else-may_turn-clause-refused g c =
    let is : (turned : Bool) → use_in c.args.kind false ≡ use_in c.args.kind turned = subst (Turns c.args.kind) (sym c.may_turn.ensures ∙ c.if-may_turn.false) (turning c.args.kind) in
    IfOk-weaker c.where_expression_refused.result _ _ (λ f refusing n admitted by ty scope stands follows derived.
    refusing n admitted by ty scope stands follows derived
    ∙ ap (λ (u : walks.Use). expression_refused ty scope u (item_at (has n) (plain_item c.args.item.now))) (c.use_in.ensures ∙ is (value (has n) (condition_of c.args.turned.now)))) c.where_expression_refused.ensures.refused
