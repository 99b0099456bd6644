use Rattle.std.proofs.Common.{◌≡◌, [], ◌∷◌, sym, ap, ◌∙◌, subst}
use Rattle.cond_formula.specs.Features.{has}
use Rattle.cond_formula.specs.Conditions.{value}
use Rattle.conditional.specs.Entries.{seen}
use Rattle.choice_trees.specs.ChoiceTrees.{plain_choices, parts_at}
use Rattle.choice_variants.specs.Variants.{shown}
use Rattle.cond_types.proofs.items.declare_node.Goals as goal

pub returns-clause-declares : goal.returns-clause-declares
returns-clause-declares g c = λ n globals admitted.
    c.in_ok-refused.ensures.declares n globals (parts_at (has n) c.args.kind 0 (plain_choices c.args.parts.now)) (ap (value (has n)) c.in_ok-all.ensures.kept ∙ admitted)
    (subst (λ list. seen (has n) (shown (has n) list) ≡ parts_at (has n) c.args.kind 0 (plain_choices c.args.parts.now) ∷ []) (sym c.deref.ensures.value) (c.in_ok-all.ensures.alone n admitted))
