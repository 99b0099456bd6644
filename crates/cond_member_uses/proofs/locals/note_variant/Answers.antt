use Rattle.std.proofs.Common.{arith, ◌&&◌, Bool, subst}
use Rattle.std.proofs.lemmas.Result.{on_ok_weaker}
use Rattle.cond_formula.specs.Features.{has}
use Rattle.cond_formula.specs.Conditions.{condition_of, value}
use Rattle.c_tree.specs.Trees.{none, more}
use Rattle.choice_variants.specs.Variants.{part_at}
use Rattle.cond_member_uses.specs.Noted.{noted_at, NotesLocals, Where}
use Rattle.cond_member_uses.proofs.Declarations.{unnoted_parts, parts_noted}
use Rattle.cond_member_uses.proofs.locals.note_variant.Goals as goal

pub returns-then-len-ne3-clause-notes : goal.returns-then-len-ne3-clause-notes
returns-then-len-ne3-clause-notes g c = λ n admitted.
    unnoted_parts (has n) (value (has n) (condition_of c.args.when.now) && value (has n) (condition_of c.args.variant.now.when)) (noted_at (has n) c.args.tables.now c.args.log.now) c.args.variant.now.parts.items
    (λ count. c.if-len-ne3.true (omega (arith, c.len.ensures, count, c.args.variant.now.parts.ok.0)))

pub returns-clause-notes : goal.returns-clause-notes
returns-clause-notes g c =
    on_ok_weaker c.note_two.result (λ notes n admitted.
    let old = noted_at (has n) c.args.tables.now c.args.log.now in
    let new = noted_at (has n) c.note_two.new.tables c.note_two.new.log in
    parts_noted (has n) c.args.variant.now.parts.items c.index-words.result.now c.index-list.result.now (value (has n) (condition_of c.args.when.now) && value (has n) (condition_of c.args.variant.now.when)) old new
    (omega (arith, c.len.ensures, c.if-len-ne3.false, c.args.variant.now.parts.ok.0)) c.index-words.ensures c.index-list.ensures
    (λ end. subst (λ (b : Bool). Where b (NotesLocals (more (part_at (has n) c.index-words.result.now) (more (part_at (has n) c.index-list.result.now) (more end none)))) old new) (c.in_ok-here.ensures (has n))
    (notes n end admitted))) c.note_two.ensures.notes
