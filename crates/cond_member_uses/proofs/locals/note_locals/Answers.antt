use Rattle.std.proofs.Common.{◌≡◌, [], ◌∷◌, sym, ap, ◌∙◌, subst}
use Rattle.std.proofs.lemmas.Result.{on_ok_weaker}
use Rattle.cond_formula.specs.Features.{has}
use Rattle.cond_formula.specs.Conditions.{value}
use Rattle.conditional.specs.Entries.{seen}
use Rattle.c_tree.specs.declared.kinds.Kind.TheVariants as k
use Rattle.choice_trees.specs.ChoiceTrees.{plain_choices, parts_at}
use Rattle.choice_variants.specs.Variants.{shown}
use Rattle.cond_member_uses.proofs.locals.note_locals.Goals as goal

pub returns-clause-notes : goal.returns-clause-notes
returns-clause-notes g c =
    on_ok_weaker c.note_each.result (λ notes n admitted.
    let parts = parts_at (has n) k.LocalDeclaration 0 (plain_choices c.args.parts.now) in
    notes n parts (ap (value (has n)) c.in_ok-all.ensures.kept ∙ admitted)
    (subst (λ list. seen (has n) (shown (has n) list) ≡ parts ∷ []) (sym c.deref.ensures.value) (c.in_ok-all.ensures.alone n admitted))) c.note_each.ensures.notes
