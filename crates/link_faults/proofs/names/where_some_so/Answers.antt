use Rattle.std.proofs.Common.{◌&&◌, ◌||◌, ◌+◌, List, drop, refl, sym, ap, ◌∙◌}
use Rattle.cond_formula.specs.Conditions.{condition_of, value}
use Rattle.cond_formula.specs.ConditionLaws.{condition_of-False}
use Rattle.conditional.specs.Entries.{entries_of, entry_of}
use Rattle.conditional.specs.declared.entries.Guarded.{Guarded}
use Rattle.type_tables.specs.Forms.{file_name_form}
use Rattle.type_tables.specs.declared.entries.FileName.{FileName}
use Rattle.link_faults.specs.Measures.{some_so}
use Rattle.link_faults.proofs.Loops.{or_step, or_end, or_none}
use Rattle.link_faults.proofs.Entries.{so_split}
use Rattle.link_faults.proofs.names.where_some_so.Goals as goal

pub loop-entry-init : goal.loop-entry-init
loop-entry-init g c = λ on. rw condition_of-False refl

pub loop-entry-preserved : goal.loop-entry-preserved
loop-entry-preserved g c = λ on.
    let test = g.A.Asked.holds c.args.asked.now on in
    let x = c.entry-item.result in
    or_step (λ (xs : List (Guarded FileName)). some_so test on (entries_of file_name_form xs)) c.args.entries.now x c.loop-entry.entry-index
    (value on (condition_of c.loop-entry.so_far)) (value on (condition_of c.in_ok-so_far.so_far))
    (so_split test on (entry_of file_name_form x) (entries_of file_name_form (drop (c.loop-entry.entry-index + 1) c.args.entries.now)))
    c.loop-entry-test.true c.entry-item.is
    (c.in_ok-so_far.ensures on ∙ ap (λ b. value on (condition_of c.loop-entry.so_far) || b) (sym (or_none (value on (condition_of x.when) && test (file_name_form x.what)))))
    (c.loop-entry.invariant on)

pub returns : goal.returns
returns g c = λ on.
    or_end (λ (xs : List (Guarded FileName)). some_so (g.A.Asked.holds c.args.asked.now on) on (entries_of file_name_form xs)) c.args.entries.now c.loop-entry.entry-index
    (value on (condition_of c.loop-entry.so_far)) refl c.loop-entry-test.false (c.loop-entry.invariant on)
