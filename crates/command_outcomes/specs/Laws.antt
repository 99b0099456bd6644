-- Whether commands come to anything; each is the contract of a function of this crate.
use Rattle.std.specs.Prelude.{ℕ, List}
use Rattle.std.specs.declared.alloc.Global.{Global}
use Rattle.text_edits.specs.Files.{Lookup}
use Rattle.command_quick.specs.Words.{Renaming}
use Rattle.command_quick.specs.Quick as quick
use Rattle.command_admit.specs.Admit as admit
use Rattle.command_tokens.specs.Words.{UnitQuery}
use Rattle.command_tokens.specs.Tokens as tokens
use Rattle.command_outcomes.specs.Concluding.{Concludes}

abbrev pub QuickConcludes : Type 0
QuickConcludes = (r : Renaming) (held : Lookup) → Concludes (quick.Does r) held

abbrev pub AdmitConcludes : Type 0
AdmitConcludes = (alloc : Global) (project : List ℕ) (held : Lookup) → Concludes (admit.Does project) held

abbrev pub TokensConclude : Type 0
TokensConclude = (alloc : Global) (q : UnitQuery) (held : Lookup) → Concludes (tokens.Does q) held
