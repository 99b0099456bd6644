use Rattle.std.proofs.Common.{◌<◌, length, arith, ap, sym, ◌∙◌}
use Rattle.core_cells.specs.Forms.{plain_path, plain_value}
use Rattle.core_memory.specs.MemoryForms.{structs_of, plain_object, object_with}
use Rattle.core_memory.proofs.MemoryLemmas.{memory_written}
use Rattle.core_memory.proofs.memory.Memory.write_at.Goals as goal

pub returns-clause-written : goal.returns-clause-written
returns-clause-written c =
    let items = c.args.self.now.objects.items in
    let k = c.args.location.now.object in
    let structs = structs_of c.args.self.now in
    let v = plain_value c.args.value in
    let within : k < length items = omega (arith, c.args.self.now.objects.ok.0) in
    memory_written structs items k c.index_mut.result.now c.write.new.self (plain_path c.args.location.now.path.items) v c.in_ok-done.done within c.index_mut.ensures.value
    (ap (λ steps. object_with structs (plain_object c.index_mut.result.now) (plain_path steps) v) (sym c.deref.ensures.value) ∙ c.in_ok-done.ensures)
