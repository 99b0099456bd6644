use Rattle.std.proofs.Common.{rules, ◌≡◌, true}
use Rattle.name_places.specs.Places.{place_of}
use Rattle.type_tables.specs.Changes.{is_free, AddsStruct}
use Rattle.type_tables.proofs.StructSteps.{seen_added, place_added, tag_added_there}
use Rattle.type_tables.proofs.tables.Tables.numbered.Goals as goal

pub returns-clause-same : goal.returns-clause-same
returns-clause-same c = λ on.
    let free : is_free c.args.self.now.structs.items (place_of c.args.self.now.tags c.args.tag.now) c.args.tag.now ≡ true = search rules in
    let added : AddsStruct c.args.tag.now c.in_ok-number.number c.args.self.now c.add_struct.new.self = search rules in
    seen_added on c.args.tag.now c.in_ok-number.number c.args.self.now c.add_struct.new.self added free

pub returns-clause-place : goal.returns-clause-place
returns-clause-place c =
    let added : AddsStruct c.args.tag.now c.in_ok-number.number c.args.self.now c.add_struct.new.self = search rules in
    place_added c.args.tag.now c.in_ok-number.number c.args.self.now c.add_struct.new.self added

pub returns-clause-tag : goal.returns-clause-tag
returns-clause-tag c =
    let added : AddsStruct c.args.tag.now c.in_ok-number.number c.args.self.now c.add_struct.new.self = search rules in
    tag_added_there c.args.tag.now c.in_ok-number.number c.args.self.now c.add_struct.new.self added
