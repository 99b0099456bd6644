-- What an `#include` finds.
use Rattle.std.specs.Prelude.{ℕ, ◌<◌, ⊤}
use Rattle.c_text.specs.Preprocessing as spec
use Rattle.unit_files.specs.declared.inclusions.Source.{Source}
use Rattle.unit_files.specs.declared.inclusions.Source.TheVariants.{ProjectFile, Stdio, Stdlib}

-- what an `#include` finds
abbrev pub plain_source : Source → spec.Source
plain_source (ProjectFile number) = spec.project_file number
plain_source Stdio = spec.stdio
plain_source Stdlib = spec.stdlib

-- whether a file stands among so many headers, or is built in
abbrev pub IsAmong : ℕ → Source → Type 0
IsAmong count (ProjectFile number) = number < count
IsAmong count Stdio = ⊤
IsAmong count Stdlib = ⊤
