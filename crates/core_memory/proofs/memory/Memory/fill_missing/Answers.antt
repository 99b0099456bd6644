use Rattle.std.proofs.Common.{◌<◌, map, length, subst, ℕ, ap, sym, ◌∙◌}
use Rattle.std.proofs.lemmas.List.{length-map}
use Rattle.c_types.specs.Types.{plain_type}
use Rattle.core_meaning.specs.Plain.{plain_part}
use Rattle.core_meaning.specs.Values.{Cells}
use Rattle.core_meaning.specs.Memory.{Object, with_object, zeros}
use Rattle.core_meaning.specs.Meaning.{cells_filled}
use Rattle.core_memory.specs.MemoryForms.{plain_object, plain_memory, structs_of}
use Rattle.core_memory.proofs.MemoryLemmas.{object_changed, object_at}
use Rattle.core_memory.proofs.InitialLemmas.{zeros_by_paths}
use Rattle.core_memory.proofs.memory.Memory.fill_missing.Goals as goal

pub returns-clause-filled : goal.returns-clause-filled
returns-clause-filled c =
    let items = c.args.self.now.objects.items in
    let k = c.args.number in
    let m = plain_memory c.args.self.now in
    let parts = map plain_part c.args.parts.now in
    let within : k < length items = subst (λ (n : ℕ). k < n) (length-map items plain_object) c.requires in
    object_changed items k c.fill.new.self within
    ∙ ap (with_object m k)
    (c.in_ok-fill.ensures
    ∙ ap (λ (z : Cells). let object : Object = plain_object c.index_mut.result.now in record object { cells = cells_filled parts z object.cells }) (zeros_by_paths (structs_of c.args.self.now) (plain_type c.args.ty.now))
    ∙ ap (λ (object : Object). record object { cells = cells_filled parts (zeros (structs_of c.args.self.now) (plain_type c.args.ty.now)) object.cells }) (sym (object_at items k c.index_mut.result.now within c.index_mut.ensures.value)))
