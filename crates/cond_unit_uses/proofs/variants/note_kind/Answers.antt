use Rattle.std.proofs.Common.{◌≡◌, [], ◌∷◌, sym, ap, ◌∙◌, subst}
use Rattle.cond_formula.specs.Features.{has}
use Rattle.cond_formula.specs.Conditions.{value}
use Rattle.conditional.specs.Entries.{seen}
use Rattle.choice_trees.specs.ChoiceTrees.{plain_choices, parts_at}
use Rattle.choice_variants.specs.Variants.{shown}
use Rattle.cond_unit_uses.proofs.variants.note_kind.Goals as goal

pub returns-clause-notes : goal.returns-clause-notes
returns-clause-notes g c = λ n admitted.
    let parts = parts_at (has n) c.args.kind 0 (plain_choices c.args.parts.now) in
    c.in_ok-note_each.ensures.notes n parts (ap (value (has n)) c.in_ok-all.ensures.kept ∙ admitted)
    (subst (λ list. seen (has n) (shown (has n) list) ≡ parts ∷ []) (sym c.deref.ensures.value) (c.in_ok-all.ensures.alone n admitted))
