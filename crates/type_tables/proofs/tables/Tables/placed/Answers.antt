use Rattle.std.proofs.Common.{rules, ◌≡◌, true}
use Rattle.name_places.specs.Places.{place_of}
use Rattle.type_tables.specs.Changes.{is_unnamed, AddsName}
use Rattle.type_tables.proofs.NameSteps.{seen_named, place_named, name_there}
use Rattle.type_tables.proofs.tables.Tables.placed.Goals as goal

pub returns-clause-same : goal.returns-clause-same
returns-clause-same c = λ on.
    let free : is_unnamed c.args.self.now.declared.items (place_of c.args.self.now.names c.args.name.now) c.args.name.now ≡ true = search rules in
    let added : AddsName c.args.name.now c.in_ok-place.place c.args.self.now c.add_name.new.self = search rules in
    seen_named on c.args.name.now c.in_ok-place.place c.args.self.now c.add_name.new.self added free

pub returns-clause-place : goal.returns-clause-place
returns-clause-place c =
    let added : AddsName c.args.name.now c.in_ok-place.place c.args.self.now c.add_name.new.self = search rules in
    place_named c.args.name.now c.in_ok-place.place c.args.self.now c.add_name.new.self added

pub returns-clause-name : goal.returns-clause-name
returns-clause-name c =
    let added : AddsName c.args.name.now c.in_ok-place.place c.args.self.now c.add_name.new.self = search rules in
    name_there c.args.name.now c.in_ok-place.place c.args.self.now c.add_name.new.self added
