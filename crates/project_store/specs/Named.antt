use Rattle.std.specs.Prelude.{ℕ, Bool, List}
use Rattle.std.specs.Str.{bytes_eq}
use Rattle.text_edits.specs.Files.{PlainFile}

-- the file has the name
abbrev pub has_name : List ℕ → PlainFile → Bool
has_name name file = bytes_eq file.name name
