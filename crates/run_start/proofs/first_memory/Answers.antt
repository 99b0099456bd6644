use Rattle.std.proofs.Common.{ap, ◌∙◌}
use Rattle.core_meaning.specs.Run.{memory_of}
use Rattle.run_start.proofs.ObjectLemmas.{objects_begin}
use Rattle.run_start.proofs.first_memory.Goals as goal

pub returns-clause-objects : goal.returns-clause-objects
returns-clause-objects c = c.in_ok-add_texts.ensures.added ∙ ap memory_of (objects_begin c.args.program.now)
