use Rattle.std.proofs.Common.{◌||◌, Bool, ap, ◌∙◌}
use Rattle.std.specs.Prelude.{is_some}
use Rattle.std.specs.List.{list_any}
use Rattle.core_meaning.specs.Linking.{built_in_named}
use Rattle.link_faults.specs.SeenUnits.{units_seen}
use Rattle.link_faults.specs.Measures.{is_lacking}
use Rattle.link_faults.proofs.availability.where_undefined.Goals as goal

pub returns : goal.returns
returns c = λ on.
    let units = units_seen on c.args.tables.now c.args.units.now in
    let name = c.args.name.now in
    c.in_ok-f.ensures on
    ∙ ap (λ (b : Bool). list_any (is_lacking b name) units)
    (c.or_built_in-elsewhere.ensures on ∙ ap (λ b. b || is_some (built_in_named name)) (c.in_ok-external.ensures on c.args.tables.now).one)
