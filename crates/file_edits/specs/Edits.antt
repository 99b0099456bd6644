-- What edits make of the files of a project: spans are replaced, and all other bytes stay.
use Rattle.std.specs.Prelude.{ℕ, suc, ◌==◌, Bool, not, ◌&&◌, nat_le, nat_lt, List, [], ◌∷◌, ◌++◌, filter, if◌then◌else◌}
use Rattle.std.specs.List.{list_any, flat_map}
use Rattle.text_edits.specs.Span.{PlainSpan}
use Rattle.text_edits.specs.Files.{PlainFile}

-- a span of a file that is replaced by a text
pub record PlainEdit : Type 0 where
  pub file : ℕ
  pub span : PlainSpan
  pub text : List ℕ

abbrev pub is_empty : PlainEdit → Bool
is_empty edit = edit.span.start == edit.span.end

abbrev pub starts_at : ℕ → PlainEdit → Bool
starts_at at edit = edit.span.start == at

abbrev pub covers : ℕ → PlainEdit → Bool
covers at edit = nat_le edit.span.start at && nat_lt at edit.span.end

abbrev pub texts : List PlainEdit → List ℕ
texts edits = flat_map (λ edit. edit.text) edits

-- What is put in at an offset: the texts of the empty spans there, in the order of the edits, and then that of the span that begins there.
abbrev pub put_in : List PlainEdit → ℕ → List ℕ
put_in edits at =
    texts (filter (λ edit. is_empty edit && starts_at at edit) edits) ++ texts (filter (λ edit. not (is_empty edit) && starts_at at edit) edits)

-- a byte stays where no span covers it
abbrev pub unless_covered : List PlainEdit → ℕ → ℕ → List ℕ
unless_covered edits at byte = if list_any (covers at) edits then [] else byte ∷ []

-- the bytes of a file from this offset on, with edits of that file
abbrev pub edited_from : ℕ → List PlainEdit → List ℕ → List ℕ
edited_from at edits [] = put_in edits at
edited_from at edits (byte ∷ rest) = put_in edits at ++ unless_covered edits at byte ++ edited_from (suc at) edits rest

abbrev pub edited : List PlainEdit → List ℕ → List ℕ
edited edits bytes = edited_from 0 edits bytes

abbrev pub edits_of : ℕ → List PlainEdit → List PlainEdit
edits_of number edits = filter (λ edit. edit.file == number) edits

abbrev pub with_bytes : List ℕ → PlainFile → PlainFile
with_bytes bytes f = record f { bytes = bytes }

-- the files from the one with this number on, with their edits
abbrev pub edited_files : ℕ → List PlainEdit → List PlainFile → List PlainFile
edited_files number edits [] = []
edited_files number edits (f ∷ files) =
    with_bytes (edited (edits_of number edits) f.bytes) f ∷ edited_files (suc number) edits files
