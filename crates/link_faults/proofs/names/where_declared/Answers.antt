use Rattle.std.proofs.Common.{List, ap, ◌∙◌}
use Rattle.conditional.specs.Entries.{entries_of, alternatives}
use Rattle.conditional.specs.declared.entries.Guarded.{Guarded}
use Rattle.type_tables.specs.Forms.{file_name_form}
use Rattle.type_tables.specs.declared.entries.FileName.{FileName}
use Rattle.link_faults.specs.SeenUnits.{name_seen}
use Rattle.link_faults.specs.Measures.{some_so}
use Rattle.link_faults.proofs.Entries.{some_is}
use Rattle.link_faults.proofs.names.where_declared.Goals as goal

pub returns : goal.returns
returns g c = λ on.
    let test = g.A.Asked.holds c.args.asked.now on in
    c.in_ok-f.ensures on
    ∙ ap (λ (xs : List (Guarded FileName)). some_so test on (entries_of file_name_form xs)) c.deref.ensures.value
    ∙ some_is test on (name_seen on c.args.left.now.names c.args.name.now) (alternatives file_name_form c.in_ok-x.x) (c.in_ok-x.ensures on)
