use Rattle.std.specs.Prelude.{ℕ, ◌≤◌, List, map, slice_range}
use Rattle.text_edits.specs.Files.{PlainFile}
use Rattle.project_store.specs.declared.packed.Piece.{Piece}
use Rattle.project_store.specs.declared.packed.Entry.{Entry}

-- the bytes of a piece
abbrev pub bytes_at : List ℕ → Piece → List ℕ
bytes_at bytes piece = slice_range bytes piece.start piece.end

-- the file whose name and content are these pieces
abbrev pub file_at : List ℕ → Entry → PlainFile
file_at bytes entry = record { name = bytes_at bytes entry.name; bytes = bytes_at bytes entry.content }

-- the files of the entries, in their order
abbrev pub files_at : List ℕ → List Entry → List PlainFile
files_at bytes entries = map (file_at bytes) entries

-- the piece lies within so many bytes
pub record IsPieceWithin (length : ℕ) (piece : Piece) : Type 0 where
  pub ordered : piece.start ≤ piece.end
  pub within : piece.end ≤ length

-- both pieces of the entry lie within so many bytes
pub record IsWithin (length : ℕ) (entry : Entry) : Type 0 where
  pub name : IsPieceWithin length entry.name
  pub content : IsPieceWithin length entry.content
