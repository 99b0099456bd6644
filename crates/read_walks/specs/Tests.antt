-- Tests for tokens of files among what is read.
use Rattle.std.specs.Prelude.{ℕ, ◌==◌, Bool, true, ◌&&◌, List, Option, Some, None, is_some, IsTrue, ⊤}
use Rattle.std.specs.List.{list_any}
use Rattle.c_text.specs.declared.origin.FileToken.{FileToken}
use Rattle.c_text.specs.Token.{PlainToken}
use Rattle.c_text.specs.Macros.{Table}
use Rattle.active_tokens.specs.Reads.{Read}

abbrev pub stands_at : FileToken → PlainToken → Bool
stands_at at token =
    (token.origin.file == at.file) && (token.origin.span.start == at.span.start) && (token.origin.span.end == at.span.end)

abbrev pub stands_at_one : List FileToken → PlainToken → Bool
stands_at_one places token = list_any (λ at. stands_at at token) places

-- whether the name is a macro, if one is asked for
abbrev pub is_defined : Option (List ℕ) → Table → Bool
is_defined None table = true
is_defined (Some name) table = is_some (table name)

abbrev pub IsDefinedIn : Option (List ℕ) → Read → Type 0
IsDefinedIn None read = ⊤
IsDefinedIn (Some name) read = IsTrue (is_some (read.table name))

-- whether a token that stands at one of these places is read, while that name is a macro if one is asked for
abbrev pub is_read_at : List FileToken → Option (List ℕ) → List Read → Bool
is_read_at places name all = list_any (λ read. is_defined name read.table && list_any (stands_at_one places) read.tokens) all
