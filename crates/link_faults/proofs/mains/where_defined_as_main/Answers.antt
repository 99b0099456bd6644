use Rattle.std.proofs.Common.{◌&&◌, Bool, ap₂, ◌∙◌}
use Rattle.core_meaning.specs.Linking.{defines}
use Rattle.type_tables.specs.Seen.{seen_tables}
use Rattle.link_faults.specs.SeenUnits.{unit_seen, name_seen}
use Rattle.link_faults.proofs.LikeMain.{main_is}
use Rattle.link_faults.proofs.mains.where_defined_as_main.Goals as goal

pub returns : goal.returns
returns c = λ on.
    let tables = c.args.tables.now in
    let left = c.args.left.now in
    let name = c.args.name.now in
    c.in_ok-f.ensures on
    ∙ ap₂ (λ (a b : Bool). a && b) (c.in_ok-declared.ensures on) (c.in_ok-defined.ensures on tables)
    ∙ main_is (seen_tables on tables).signatures (name_seen on left.names name) (defines (unit_seen on tables left) name)
