use Rattle.std.proofs.Common.{sym, ◌∙◌}
use Rattle.project_store.specs.Named.{has_name}
use Rattle.project_store.specs.Packed.{file_at}
use Rattle.project_store.proofs.FirstNamed.{place_in_map}
use Rattle.project_store.proofs.packed.PackedFiles.place.Goals as goal

pub returns : goal.returns
returns c =
    let found = rw (c.deref.ensures.value, c.deref-2.ensures.value) at c.place_of.ensures in
    found ∙ sym (place_in_map (has_name c.args.name.now) (file_at c.args.self.now.buffer.items) 0 c.args.self.now.entries.items)
