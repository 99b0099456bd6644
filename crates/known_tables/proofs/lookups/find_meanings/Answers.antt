use Rattle.std.proofs.Common.{◌+◌, List, drop, subst}
use Rattle.std.proofs.lemmas.List.{drop_all}
use Rattle.conditional.specs.declared.entries.Guarded.{Guarded}
use Rattle.conditional.specs.Entries.{entries_of, seen, first}
use Rattle.conditional.proofs.ListLaws.{item_of}
use Rattle.type_tables.specs.Forms.{file_name_form}
use Rattle.type_tables.specs.declared.entries.FileName.{FileName}
use Rattle.known_tables.specs.Searches.{Finds}
use Rattle.known_tables.specs.Lookups.{found_at_file_scope}
use Rattle.known_tables.proofs.lookups.find_meanings.Goals as goal

pub loop-meaning-preserved : goal.loop-meaning-preserved
loop-meaning-preserved g c = λ on object function whole answers before.
    c.in_ok-find_meaning.ensures on object function whole (entries_of file_name_form (drop (c.loop-meaning.meaning-index + 1) c.args.meanings.now)) answers
    (subst (λ (ms : List (Guarded FileName)). Finds g.T.Plain.form on whole (found_at_file_scope object function (first (seen on (entries_of file_name_form ms)))) c.loop-meaning.search)
    (item_of c.args.meanings.now c.meaning-item.result c.loop-meaning.meaning-index c.loop-meaning-test.true c.meaning-item.is) (c.loop-meaning.invariant on object function whole answers before))

pub returns : goal.returns
returns g c = λ on object function whole answers before.
    subst (λ (ms : List (Guarded FileName)). Finds g.T.Plain.form on whole (found_at_file_scope object function (first (seen on (entries_of file_name_form ms)))) c.loop-meaning.search)
    (drop_all c.loop-meaning.meaning-index c.args.meanings.now c.loop-meaning-test.false) (c.loop-meaning.invariant on object function whole answers before)
