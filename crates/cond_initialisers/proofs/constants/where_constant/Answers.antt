use Rattle.std.proofs.Common.{sym, ap, ◌∙◌}
use Rattle.std.proofs.lemmas.Result.{IfOk-weaker}
use Rattle.cond_formula.specs.Features.{has}
use Rattle.cond_formula.specs.Conditions.{condition_of, value}
use Rattle.cond_formula.specs.ConditionLaws.{condition_of-True}
use Rattle.conditional.specs.Entries.{seen}
use Rattle.choice_trees.specs.ChoiceTrees.{plain_item, item_at}
use Rattle.choice_expansions.specs.Expansions.{expanded}
use Rattle.cond_initialisers.specs.Constants.{is_constant_if, some_constant, is_of_array}
use Rattle.cond_initialisers.proofs.SeenConstants.{only_constant, constant_address}
use Rattle.cond_initialisers.proofs.constants.where_constant.Goals as goal

pub returns-then-are_texts-clause-same : goal.returns-then-are_texts-clause-same
returns-then-are_texts-clause-same g c = λ n right admitted.
    let tree = item_at (has n) (plain_item c.args.item.now) in
    ap (value (has n)) condition_of-True ∙ sym (constant_address (is_of_array (g.K.Knowledge.known c.args.known.now n) tree) tree (c.are_texts.ensures c.if-are_texts.true (has n)))

pub returns-clause-same : goal.returns-clause-same
returns-clause-same g c = IfOk-weaker c.where_some_constant.result _ _ (λ f holds n right admitted.
    let tree = item_at (has n) (plain_item c.args.item.now) in
    let arrays = value (has n) (condition_of c.in_ok-arrays.arrays) in
    holds (has n)
    ∙ (ap (λ l. some_constant arrays (seen (has n) (expanded l))) c.deref.ensures.value
    ∙ (ap (some_constant arrays) (c.in_ok-all.ensures.alone n (ap (value (has n)) c.in_ok-arrays.ensures.kept ∙ admitted))
    ∙ (only_constant arrays tree ∙ ap (λ b. is_constant_if b tree) (c.in_ok-arrays.ensures.same n right admitted))))) c.where_some_constant.ensures
