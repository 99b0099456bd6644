use Rattle.std.proofs.Common.{◌≡◌, true, map, sym, ◌∙◌}
use Rattle.core_meaning.specs.Plain.{plain_layout}
use Rattle.core_cells.specs.Forms.{plain_steps}
use Rattle.core_memory.specs.MemoryForms.{plain_object}
use Rattle.core_memory.proofs.MemoryLemmas.{only_parts_there}
use Rattle.core_memory.proofs.memory.Object.write.Goals as goal

pub put-requires : goal.put-requires
put-requires c =
    let found : c.is_there.result ≡ true = cc in
    only_parts_there (map plain_layout c.args.structs.now) (plain_object c.args.self.now) (plain_steps c.args.path.now) (sym c.is_there.ensures ∙ found)
