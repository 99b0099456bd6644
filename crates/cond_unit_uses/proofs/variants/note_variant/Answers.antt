use Rattle.std.proofs.Common.{◌&&◌, Bool, subst}
use Rattle.cond_formula.specs.Features.{has}
use Rattle.cond_formula.specs.Conditions.{condition_of, value}
use Rattle.c_tree.specs.Trees.{none}
use Rattle.choice_variants.specs.Variants.{before}
use Rattle.cond_member_uses.specs.Noted.{noted_at, Where}
use Rattle.cond_unit_uses.proofs.variants.note_variant.Goals as goal

pub returns-clause-notes : goal.returns-clause-notes
returns-clause-notes g c = λ n admitted.
    let old = noted_at (has n) c.args.tables.now c.args.log.now in
    let new = noted_at (has n) c.note_parts.new.tables c.note_parts.new.log in
    subst (λ parts. Where (value (has n) (condition_of c.args.when.now) && value (has n) (condition_of c.args.variant.now.when)) (g.R.PartsReader.notes c.args.reader.now n (before (has n) parts none)) old new) c.as_slice-parts.ensures.value
    (subst (λ (b : Bool). Where b (g.R.PartsReader.notes c.args.reader.now n (before (has n) c.as_slice-parts.result.now none)) old new) (c.in_ok-here.ensures (has n)) (c.in_ok-note_parts.ensures.notes n admitted))
