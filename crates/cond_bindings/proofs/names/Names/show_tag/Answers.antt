use Rattle.std.proofs.Common.{length, refl}
use Rattle.cond_formula.specs.Conditions.{condition_of}
use Rattle.cond_bindings.specs.declared.unit_bindings.Declaration.{Declaration}
use Rattle.name_places.specs.Places.{place_of}
use Rattle.cond_bindings.specs.Places.{latest_first}
use Rattle.cond_bindings.proofs.BelowLemmas.{table_longer, locals_longer, identifiers_longer}
use Rattle.cond_bindings.proofs.NameLemmas.{tag_shown}
use Rattle.cond_bindings.proofs.names.Names.show_tag.Goals as goal

pub invariant_of-self : goal.invariant_of-self
invariant_of-self c =
    let s = c.args.self.now in
    let n = length s.bindings.declarations.items in
    let m = length c.show.new.declarations.items in
    record {
      file_below = table_longer n m (place_of s.file) c.show.ensures.longer s.file_below;
      tags_below = c.show.ensures.below s.tags_below;
      blocks_below = locals_longer n m (latest_first s.blocks.items) c.show.ensures.longer s.blocks_below;
      identifiers_below = identifiers_longer n m s.bindings.identifiers.items c.show.ensures.longer s.identifiers_below;
    }

pub returns : goal.returns
returns c =
    let s = c.args.self.now in
    let d : Declaration = record { number = c.args.number; when = c.args.when; hides = place_of s.tags c.args.name.now } in
    tag_shown s.bindings.declarations.items c.show.new.declarations.items d (place_of s.file) (place_of s.tags) (latest_first s.blocks.items) s.bindings.identifiers.items s.bindings.uses.items (condition_of s.refused) c.args.name.now
    (record { file_below = s.file_below; tags_below = s.tags_below; locals_below = s.blocks_below; identifiers_below = s.identifiers_below })
    c.in_ok-show.ensures.declared (place_of c.show.new.table) refl c.in_ok-show.ensures.entered
