use Rattle.std.proofs.Common.{ap, sym, option_map, ◌∙◌}
use Rattle.core_meaning.specs.Memory as spec
use Rattle.core_cells.specs.Forms.{plain_path, plain_location, plain_pointer}
use Rattle.core_memory.specs.MemoryForms.{structs_of, plain_memory}
use Rattle.core_memory.specs.PointerForms.{difference_of}
use Rattle.core_memory.proofs.PointerLemmas.{distance_is}
use Rattle.core_memory.proofs.memory.Memory.distance.Goals as goal

pub returns-in-At-b : goal.returns-in-At-b
returns-in-At-b c =
    let structs = structs_of c.args.self.now in
    let m = plain_memory c.args.self.now in
    c.index_difference.ensures
    ∙ ap (option_map difference_of) c.indices.ensures
    ∙ distance_is structs m c.in-At.first.object (plain_path c.in-At.first.path.items) (plain_path c.in-At-b.second.path.items) c.in-At-b.second.object
    ∙ ap (λ p. spec.distance structs m p (plain_location c.in-At-b.second)) (ap plain_pointer (sym c.in-At.is))
    ∙ ap (spec.distance structs m (plain_pointer c.args.a.now)) (ap plain_pointer (sym c.in-At-b.is))
