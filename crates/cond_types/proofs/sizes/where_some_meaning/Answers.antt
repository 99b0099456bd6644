use Rattle.std.proofs.Common.{◌&&◌, ◌||◌, ◌+◌, List, drop, refl, sym, ap, ◌∙◌}
use Rattle.cond_formula.specs.Conditions.{condition_of, value}
use Rattle.conditional.specs.Entries.{entries_of, entry_of}
use Rattle.conditional.specs.declared.entries.Guarded.{Guarded}
use Rattle.type_tables.specs.Forms.{file_name_form}
use Rattle.type_tables.specs.Seen.{seen_tables}
use Rattle.type_tables.specs.declared.entries.FileName.{FileName}
use Rattle.link_faults.specs.Measures.{some_so}
use Rattle.link_faults.proofs.Loops.{or_step, or_end, or_none}
use Rattle.link_faults.proofs.Entries.{so_split}
use Rattle.cond_types.specs.Sizes.{is_big_name}
use Rattle.cond_types.proofs.sizes.where_some_meaning.Goals as goal

pub loop-meaning-init : goal.loop-meaning-init
loop-meaning-init c = record {
  so_far = λ on. ap (λ b. b || some_so (is_big_name (seen_tables on c.args.tables.now)) on (entries_of file_name_form c.args.meanings.now)) (c.in_ok-so_far.ensures on);
}

pub loop-meaning-preserved : goal.loop-meaning-preserved
loop-meaning-preserved c = record {
  so_far = λ on.
      let test = is_big_name (seen_tables on c.args.tables.now) in
      let x = c.meaning-item.result in
      or_step (λ (xs : List (Guarded FileName)). some_so test on (entries_of file_name_form xs)) c.args.meanings.now x c.loop-meaning.meaning-index
      (value on (condition_of c.loop-meaning.so_far)) (value on (condition_of c.in_ok-so_far-2.so_far))
      (so_split test on (entry_of file_name_form x) (entries_of file_name_form (drop (c.loop-meaning.meaning-index + 1) c.args.meanings.now)))
      c.loop-meaning-test.true c.meaning-item.is
      (c.in_ok-so_far-2.ensures on ∙ ap (λ b. value on (condition_of c.loop-meaning.so_far) || b) (sym (or_none (value on (condition_of x.when) && test (file_name_form x.what)))))
      (c.loop-meaning.invariant.so_far on);
}

pub returns : goal.returns
returns c = λ on.
    or_end (λ (xs : List (Guarded FileName)). some_so (is_big_name (seen_tables on c.args.tables.now)) on (entries_of file_name_form xs)) c.args.meanings.now c.loop-meaning.meaning-index
    (value on (condition_of c.loop-meaning.so_far)) refl c.loop-meaning-test.false (c.loop-meaning.invariant.so_far on)
