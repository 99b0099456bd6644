-- Whether `check` comes to anything; it is the contract of a function of this crate.
use Rattle.std.specs.Prelude.{ℕ, List}
use Rattle.std.specs.declared.alloc.Global.{Global}
use Rattle.text_edits.specs.Files.{Lookup}
use Rattle.command_outcomes.specs.Concluding.{Concludes}
use Rattle.command_check.specs.Check.{Does}

abbrev pub CheckConcludes : Type 0
CheckConcludes = (alloc : Global) (project : List ℕ) (held : Lookup) → Concludes (Does project) held
