use Rattle.std.proofs.Common.{ap, ◌∙◌}
use Rattle.std.proofs.lemmas.Result.{IfOk-weaker}
use Rattle.cond_formula.specs.Features.{has}
use Rattle.cond_formula.specs.Conditions.{condition_of, value}
use Rattle.choice_trees.specs.ChoiceTrees.{plain_item, item_at}
use Rattle.type_tables.specs.Seen.{seen_tables}
use Rattle.cond_locals.proofs.OneDeclaration.{words_here}
use Rattle.cond_locals.proofs.declarations.declare_words.Goals as goal

pub returns-clause-declares : goal.returns-clause-declares
returns-clause-declares g c =
    IfOk-weaker c.either.result _ _ (λ f is n end admitted.
    words_here (has n) c.in_ok-base.base (item_at (has n) (plain_item c.args.words.now)) (item_at (has n) (plain_item c.args.list.now)) end (seen_tables (has n) c.args.tables.now) (seen_tables (has n) c.declare_list.new.tables)
    (value (has n) (condition_of c.args.when.now)) (value (has n) (condition_of c.in_ok-unnamed.unnamed)) (value (has n) (condition_of c.in_ok-no_type.no_type)) (value (has n) (condition_of c.in_ok-refused.refused)) (value (has n) (condition_of f))
    (is (has n)) (c.in_ok-no_type.ensures.same n (ap (value (has n)) c.in_ok-base.ensures.kept ∙ admitted)) (λ x shown. c.in_ok-unnamed.ensures (has n) x shown)
    (λ scope follows. c.in_ok-base.ensures.shows n scope follows admitted)
    (λ off. c.in_ok-refused.ensures.elsewhere n (ap (value (has n)) (c.in_ok-no_type.ensures.kept ∙ c.in_ok-base.ensures.kept) ∙ admitted) off)
    (λ parts on at. c.in_ok-refused.ensures.declares n parts (ap (value (has n)) (c.in_ok-no_type.ensures.kept ∙ c.in_ok-base.ensures.kept) ∙ admitted) on at)) c.either.ensures
