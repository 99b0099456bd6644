use Rattle.std.proofs.Common.{reverse, ap, ◌∙◌}
use Rattle.core_meaning.specs.Memory.{with_all_ended}
use Rattle.core_memory.specs.MemoryForms.{plain_memory}
use Rattle.interp_actions.specs.Pieces.{operands_in}
use Rattle.run_machine.specs.Machines.{position_of}
use Rattle.run_machine.proofs.PositionLemmas.{memory_same}
use Rattle.run_calls.proofs.calls.end_full.Goals as goal

pub returns : goal.returns
returns c =
    let m = c.args.machine.now in
    memory_same m c.end_all.new.memory (with_all_ended (plain_memory m.memory) (reverse m.temporaries.items)) (position_of m).actions (operands_in m.control) (reverse c.args.outer.items)
    c.end_all.ensures.structs
    (c.end_all.ensures.ended ∙ ap (λ ks. with_all_ended (plain_memory m.memory) (reverse ks)) c.deref.ensures.value)
