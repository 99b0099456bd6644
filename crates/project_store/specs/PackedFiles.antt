use Rattle.std.specs.Prelude.{◌≡◌, ℕ, ◌-◌, List, slice_index_or, slice_set, vec_len, vec_capacity}
use Rattle.text_edits.specs.Files.{PlainFile}
use Rattle.project_store.specs.declared.packed.PackedFiles.{PackedFiles}
use Rattle.project_store.specs.Packed.{files_at}

-- the files in their order
abbrev pub files_of : PackedFiles → List PlainFile
files_of packed = files_at packed.buffer.items packed.entries.items

-- how many names may be added before more memory is wanted
abbrev pub spare_names : PackedFiles → ℕ
spare_names packed = vec_capacity packed.entries - vec_len packed.entries

-- how many bytes may be added before more memory is wanted
abbrev pub spare_bytes : PackedFiles → ℕ
spare_bytes packed = vec_capacity packed.buffer - vec_len packed.buffer

-- the file at the place keeps its name and gets other bytes
abbrev pub ReplacesContent : List PlainFile → ℕ → List ℕ → List PlainFile → Type 0
ReplacesContent before at bytes after =
    (d : PlainFile) → after ≡ slice_set before at record { name = (slice_index_or before at d).name; bytes = bytes }
