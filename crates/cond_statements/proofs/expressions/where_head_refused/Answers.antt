use Rattle.std.proofs.Common.{◌≡◌, Bool, true, false, not, ◌||◌, ◌&&◌, ap, ◌∙◌}
use Rattle.std.proofs.lemmas.Result.{IfOk-weaker}
use Rattle.cond_formula.specs.Features.{has}
use Rattle.cond_formula.specs.Conditions.{condition_of, value}
use Rattle.c_types.specs.Types.{PlainType}
use Rattle.c_tree.specs.declared.kinds.Kind.TheVariants as k
use Rattle.c_tree.specs.Trees.{PlainTree}
use Rattle.choice_trees.specs.ChoiceTrees.{plain_item, item_at}
use Rattle.core_meaning.specs.Entities.{Scope}
use Rattle.statement_readings.specs.Walks.{use_in, condition, discarded, expression_refused}
use Rattle.cond_statements.proofs.expressions.where_head_refused.Goals as goal

either_use : (ty : PlainType) (scope : Scope) (tree : PlainTree) (t a b before behind f : Bool) → f ≡ (before || behind) → before ≡ (a && not t) → behind ≡ (b && t) → a ≡ expression_refused ty scope condition tree
    → b ≡ expression_refused ty scope discarded tree → f ≡ expression_refused ty scope (use_in k.For t) tree
either_use ty scope tree true a b before behind f is first second tests values = is ∙ ap (λ x. x || behind) (first ∙ no_more a) ∙ second ∙ all b ∙ values
  where
    no_more : (x : Bool) → (x && false) ≡ false
    no_more true = Rattle.std.proofs.Common.refl
    no_more false = Rattle.std.proofs.Common.refl

    all : (x : Bool) → (x && true) ≡ x
    all true = Rattle.std.proofs.Common.refl
    all false = Rattle.std.proofs.Common.refl
either_use ty scope tree false a b before behind f is first second tests values = is ∙ ap (λ x. before || x) (second ∙ no_more b) ∙ unit before ∙ first ∙ all a ∙ tests
  where
    no_more : (x : Bool) → (x && false) ≡ false
    no_more true = Rattle.std.proofs.Common.refl
    no_more false = Rattle.std.proofs.Common.refl

    all : (x : Bool) → (x && true) ≡ x
    all true = Rattle.std.proofs.Common.refl
    all false = Rattle.std.proofs.Common.refl

    unit : (x : Bool) → (x || false) ≡ x
    unit true = Rattle.std.proofs.Common.refl
    unit false = Rattle.std.proofs.Common.refl

pub returns-clause-refused : goal.returns-clause-refused
returns-clause-refused g c =
    IfOk-weaker c.either.result _ _ (λ f is n admitted by ty scope stands follows derived.
    either_use ty scope (item_at (has n) (plain_item c.args.item.now)) (value (has n) (condition_of c.args.turned.now)) (value (has n) (condition_of c.in_ok-tested.tested)) (value (has n) (condition_of c.in_ok-discarded.discarded))
    (value (has n) (condition_of c.in_ok-before.before)) (value (has n) (condition_of c.in_ok-behind.behind)) (value (has n) (condition_of f)) (is (has n)) (c.in_ok-before.ensures (has n)) (c.in_ok-behind.ensures (has n) ∙ ap (λ m. value (has n) (condition_of c.in_ok-discarded.discarded) && value (has n) m) c.in_ok-try_clone.ensures)
    (c.in_ok-tested.ensures.refused n admitted by ty scope stands follows derived)
    (c.in_ok-discarded.ensures.refused n (ap (value (has n)) c.in_ok-tested.ensures.kept ∙ admitted) by ty scope stands follows derived)) c.either.ensures
