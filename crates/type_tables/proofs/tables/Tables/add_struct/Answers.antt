use Rattle.std.proofs.Common.{rules, ◌≡◌, ◌++◌, ◌∷◌, [], refl}
use Rattle.core_meaning.specs.Entities.{with_entry}
use Rattle.name_places.specs.Places.{place_of}
use Rattle.type_tables.specs.Changes.{IsUndeclared}
use Rattle.type_tables.proofs.tables.Tables.add_struct.Goals as goal

pub returns : goal.returns
returns c =
    let none_yet : IsUndeclared c.args.tag.now c.in_ok-undeclared.field-0 = search rules in
    let longer : c.push.new.self.items ≡ c.args.self.now.structs.items ++ c.in_ok-undeclared.field-0 ∷ [] = search rules in
    let placed : place_of c.enter_place.new.table ≡ with_entry (place_of c.args.self.now.tags) c.args.tag.now c.len-number.result = search rules in
    record {
      added = c.in_ok-undeclared.field-0;
      undeclared = none_yet;
      number_is = search rules;
      structs_are = longer;
      places_are = placed;
      names_are = refl;
      declared_are = refl;
      signatures_are = refl;
      locals_are = refl;
      depth_is = refl;
    }
