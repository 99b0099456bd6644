use Rattle.std.proofs.Common.{ap, subst, ◌∙◌}
use Rattle.std.specs.Prelude.{option_map}
use Rattle.std.proofs.lemmas.Result.{on_ok_weaker}
use Rattle.cond_formula.specs.Features.{has}
use Rattle.cond_formula.specs.Conditions.{condition_of, value}
use Rattle.conditional.specs.Entries.{seen, listed}
use Rattle.choice_trees.specs.ChoiceTrees.{plain_item, item_at}
use Rattle.type_tables.specs.Seen.{seen_tables}
use Rattle.cond_selections.specs.Selected.{plain_selection}
use Rattle.cond_member_uses.specs.Noted.{noted_at, Where}
use Rattle.cond_member_uses.specs.Declared.{NotesOne}
use Rattle.cond_member_uses.proofs.Noting.{one_noted}
use Rattle.cond_member_uses.proofs.declarators.note_listed.Goals as goal

pub returns-clause-notes : goal.returns-clause-notes
returns-clause-notes g c =
    on_ok_weaker c.note_initialiser.result (λ notes n admitted.
    let declarator = item_at (has n) (plain_item c.args.listed.now.declarator.now) in
    let initialiser = option_map (λ item. item_at (has n) (plain_item item.now)) c.args.listed.now.initialiser in
    let old = noted_at (has n) c.args.tables.now c.args.log.now in
    let new = noted_at (has n) c.declare_local.new.tables c.note_initialiser.new.log in
    subst (λ b. Where b (NotesOne (has n) c.args.base.now declarator initialiser) old new) (c.in_ok-here.ensures (has n))
    (one_noted (has n) c.args.base.now declarator initialiser (value (has n) (condition_of c.in_ok-here.here)) (seen_tables (has n) c.args.tables.now) (seen_tables (has n) c.declare_local.new.tables) _
    (seen (has n) (listed plain_selection c.args.log.now)) (seen (has n) (listed plain_selection c.note_initialiser.new.log)) (c.in_ok-declare_local.ensures.declares n admitted)
    (ap (λ t. (seen_tables (has n) t).names) c.in_ok-declare_local.ensures.outside.same) (notes n (ap (value (has n)) c.in_ok-declare_local.ensures.kept ∙ admitted)))) c.note_initialiser.ensures.notes
