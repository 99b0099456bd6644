-- Whether `run` comes to anything; it is the contract of a function of this crate.
use Rattle.std.specs.declared.alloc.Global.{Global}
use Rattle.text_edits.specs.Files.{Lookup}
use Rattle.command_outcomes.specs.Concluding.{Concludes}
use Rattle.command_run.specs.Words.{RunQuery}
use Rattle.command_run.specs.Run as run

abbrev pub RunConcludes : Type 0
RunConcludes = (alloc : Global) (q : RunQuery) (held : Lookup) → Concludes (run.Does q) held
