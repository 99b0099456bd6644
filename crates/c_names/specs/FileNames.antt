-- The names of files: paths from the folder of a project.
use Rattle.std.specs.Prelude.{ℕ, Bool, true, false, not, ◌&&◌, ◌||◌, ◌==◌, List, [], ◌∷◌, codes}
use Rattle.std.specs.List.{list_all, slice_split}
use Rattle.std.specs.Str.{bytes_eq}
use Rattle.c_names.specs.Bytes.{dot, minus_sign, plus_sign, slash}
use Rattle.c_names.specs.Names.{is_word_byte}

-- a letter, a digit, `_`, `-`, `.` or `+`
abbrev pub is_file_byte : ℕ → Bool
is_file_byte b = is_word_byte b || b == minus_sign || b == dot || b == plus_sign

abbrev pub is_empty : List ℕ → Bool
is_empty [] = true
is_empty (b ∷ bs) = false

-- a part of a file name between two `/`
abbrev pub is_component : List ℕ → Bool
is_component w =
    not (is_empty w) && list_all is_file_byte w && not (bytes_eq w (codes ".")) && not (bytes_eq w (codes ".."))

-- one or more components separated by `/`
abbrev pub is_file_name : List ℕ → Bool
is_file_name w = list_all is_component (slice_split (λ b. b == slash) w)
