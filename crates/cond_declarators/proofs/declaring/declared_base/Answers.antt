use Rattle.std.proofs.Common.{◌≡◌, [], ◌∷◌, sym, ap, ◌∙◌, subst}
use Rattle.cond_formula.specs.Features.{has}
use Rattle.cond_formula.specs.Conditions.{value}
use Rattle.conditional.specs.Entries.{seen}
use Rattle.choice_trees.specs.ChoiceTrees.{plain_item, item_at}
use Rattle.choice_expansions.specs.Expansions.{expanded}
use Rattle.cond_declarators.proofs.declaring.declared_base.Goals as goal

pub returns-clause-declares : goal.returns-clause-declares
returns-clause-declares g c = λ n scope f admitted here.
    c.in_ok-all.ensures.declares n scope f (item_at (has n) (plain_item c.args.words.now)) (ap (value (has n)) c.in_ok-expansions.ensures.kept ∙ admitted) here
    (subst (λ list. seen (has n) (expanded list) ≡ item_at (has n) (plain_item c.args.words.now) ∷ []) (sym c.deref.ensures.value) (c.in_ok-expansions.ensures.alone n admitted))
