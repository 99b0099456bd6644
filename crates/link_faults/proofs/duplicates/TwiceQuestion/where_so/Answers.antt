use Rattle.std.proofs.Common.{◌&&◌, Bool, ap₂, ◌∙◌}
use Rattle.core_meaning.specs.Linking.{is_internal, count_defined}
use Rattle.link_faults.specs.SeenUnits.{unit_seen}
use Rattle.link_faults.proofs.LikeMain.{twice_is}
use Rattle.link_faults.proofs.duplicates.TwiceQuestion.where_so.Goals as goal

pub returns : goal.returns
returns c = λ on.
    let tables = c.args._tables.now in
    let unit = unit_seen on tables c.args.left.now in
    let name = c.args.self.now.name.now in
    c.in_ok-f.ensures on
    ∙ ap₂ (λ (a b : Bool). a && b) (c.in_ok-internal.ensures on tables) (c.in_ok-all.ensures on tables).two
    ∙ twice_is (is_internal unit name) (count_defined unit name)
