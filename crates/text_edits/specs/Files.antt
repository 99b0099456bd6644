use Rattle.std.specs.Prelude.{ℕ, List, [], ◌∷◌, Option, Some, None, map, if◌then◌else◌}
use Rattle.std.specs.String.{string_bytes}
use Rattle.std.specs.Str.{bytes_eq}
use Rattle.text_edits.specs.declared.files.SourceFile.{SourceFile}
use Rattle.text_edits.specs.declared.files.Files.{Files}

-- a file as definitions see it: the bytes of its name, and the bytes that it holds
pub record PlainFile : Type 0 where
  pub name : List ℕ
  pub bytes : List ℕ

-- a file's name and content
abbrev pub plain_file : SourceFile → PlainFile
plain_file f = record { name = string_bytes f.name; bytes = f.bytes.items }

-- the files in their order
abbrev pub plain_files : Files → List PlainFile
plain_files files = map plain_file files.list.items

-- what stands under each name, if anything does
abbrev pub Lookup : Type 0
Lookup = List ℕ → Option (List ℕ)

-- the content of the first file with the name
abbrev pub lookup_of : List PlainFile → Lookup
lookup_of [] name = None
lookup_of (f ∷ fs) name = if bytes_eq f.name name then Some f.bytes else lookup_of fs name
