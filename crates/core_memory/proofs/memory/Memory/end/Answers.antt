use Rattle.std.proofs.Common.{◌<◌, length, arith, ap, sym, ◌∙◌}
use Rattle.core_meaning.specs.Memory.{with_object}
use Rattle.core_memory.specs.MemoryForms.{plain_memory, ended}
use Rattle.core_memory.proofs.MemoryLemmas.{object_changed, object_at}
use Rattle.core_memory.proofs.memory.Memory.end.Goals as goal

pub returns-then-number-len-clause-ended : goal.returns-then-number-len-clause-ended
returns-then-number-len-clause-ended c =
    let items = c.args.self.now.objects.items in
    let k = c.args.number in
    let within : k < length items = omega (arith, c.args.self.now.objects.ok.0) in
    object_changed items k c.end.new.self within
    ∙ ap (with_object (plain_memory c.args.self.now) k) (c.end.ensures ∙ ap ended (sym (object_at items k c.index_mut.result.now within c.index_mut.ensures.value)))
