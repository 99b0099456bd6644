-- Tokens of files in their order.
use Rattle.std.specs.Prelude.{◌==◌, Bool, ◌&&◌, ◌||◌, nat_lt, List, [], ◌∷◌, map, IsTrue, ⊤}
use Rattle.text_edits.specs.Span.{plain_span}
use Rattle.c_text.specs.declared.origin.FileToken.{FileToken}
use Rattle.program_occurrences.specs.Classes.{PlainFileToken}

abbrev pub plain_file_token : FileToken → PlainFileToken
plain_file_token t = record { file = t.file; span = plain_span t.span }

abbrev pub plain_file_tokens : List FileToken → List PlainFileToken
plain_file_tokens tokens = map plain_file_token tokens

-- the one stands before the other: in an earlier file, or in the same and begins earlier, or begins there too and ends earlier
abbrev pub stands_before : PlainFileToken → PlainFileToken → Bool
stands_before a b =
    nat_lt a.file b.file
    || (a.file == b.file && (nat_lt a.span.start b.span.start || (a.span.start == b.span.start && nat_lt a.span.end b.span.end)))

-- in the order of the files and of their texts, each once
abbrev pub AreInOrder : List PlainFileToken → Type 0
AreInOrder [] = ⊤
AreInOrder (only ∷ []) = ⊤
AreInOrder (first ∷ second ∷ rest) = IsTrue (stands_before first second) × AreInOrder (second ∷ rest)
