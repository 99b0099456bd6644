use Rattle.std.proofs.Common.{List, ap, ◌∙◌}
use Rattle.conditional.specs.Entries.{entries_of, alternatives, seen, listed, first}
use Rattle.conditional.specs.declared.entries.Guarded.{Guarded}
use Rattle.type_tables.specs.Forms.{file_name_form}
use Rattle.type_tables.specs.Seen.{seen_tables}
use Rattle.type_tables.specs.declared.entries.FileName.{FileName}
use Rattle.link_faults.specs.Measures.{some_so}
use Rattle.link_faults.proofs.Entries.{some_is}
use Rattle.cond_types.specs.Sizes.{is_big_name}
use Rattle.cond_types.proofs.sizes.where_first_meaning.Goals as goal

pub returns : goal.returns
returns c = λ on.
    let test = is_big_name (seen_tables on c.args.tables.now) in
    c.in_ok-f.ensures on
    ∙ ap (λ (xs : List (Guarded FileName)). some_so test on (entries_of file_name_form xs)) c.deref.ensures.value
    ∙ some_is test on (first (seen on (listed file_name_form c.args.meanings.now))) (alternatives file_name_form c.in_ok-what.what) (c.in_ok-what.ensures on)
