-- LAW, the contract of a function of this crate: whatever the words are and the files hold, a call comes to something.
use Rattle.std.specs.Prelude.{ℕ, List}
use Rattle.std.specs.declared.alloc.Global.{Global}
use Rattle.text_edits.specs.Files.{Lookup}
use Rattle.command_promises.specs.Commands.{CourseOf}
use Rattle.command_outcomes.specs.Concluding.{Concludes}
use Rattle.morpheus_top.specs.Commands.{commands}

abbrev pub CallsConclude : Type 0
CallsConclude = (alloc : Global) (words : List (List ℕ)) (held : Lookup) → Concludes (CourseOf commands words) held
