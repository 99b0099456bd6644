use Rattle.std.proofs.Common.{rules, ◌≡◌, ◌++◌, ◌∷◌, [], refl}
use Rattle.core_meaning.specs.Entities.{with_entry}
use Rattle.name_places.specs.Places.{place_of}
use Rattle.type_tables.specs.Changes.{IsNothing}
use Rattle.type_tables.proofs.tables.Tables.add_name.Goals as goal

pub returns : goal.returns
returns c =
    let nothing_yet : IsNothing c.args.name.now c.in_ok-nameless.field-0 = search rules in
    let longer : c.push.new.self.items ≡ c.args.self.now.declared.items ++ c.in_ok-nameless.field-0 ∷ [] = search rules in
    let placed : place_of c.enter_place.new.table ≡ with_entry (place_of c.args.self.now.names) c.args.name.now c.len-place.result = search rules in
    record {
      added = c.in_ok-nameless.field-0;
      nothing = nothing_yet;
      place_is = search rules;
      declared_are = longer;
      places_are = placed;
      structs_are = refl;
      tags_are = refl;
      signatures_are = refl;
      locals_are = refl;
      depth_is = refl;
    }
