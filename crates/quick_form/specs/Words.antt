-- The words of the quick form: names and decimal constants (ISO/IEC 9899:2011, 6.4.2, 6.4.4.1).
use Rattle.std.specs.Prelude.{ℕ, ◌+◌, ◌-◌, ◌*◌, Bool, false, not, ◌&&◌, ◌||◌, ◌==◌, nat_le, List, [], ◌∷◌, codes}
use Rattle.std.specs.List.{list_all}
use Rattle.std.specs.Str.{bytes_eq}
use Rattle.c_names.specs.Bytes.{blank, digit_0, tab}
pub use Rattle.c_names.specs.Names.{is_digit, is_nondigit, is_word_byte, is_identifier, keywords, is_keyword}

-- blank or tab
abbrev pub is_blank : ℕ → Bool
is_blank b = b == blank || b == tab

-- whether bytes begin with a letter, a digit or `_`
abbrev pub begins_in_word : List ℕ → Bool
begins_in_word [] = false
begins_in_word (b ∷ bs) = is_word_byte b

-- a NAME of the quick form: an identifier, but no keyword, nor `putchar`, nor `main`
abbrev pub is_name : List ℕ → Bool
is_name w =
    is_identifier w && not (is_keyword w) && not (bytes_eq w (codes "putchar")) && not (bytes_eq w (codes "main"))

-- the number that decimal digits write, read on from n
abbrev pub value_from : ℕ → List ℕ → ℕ
value_from n [] = n
value_from n (d ∷ ds) = value_from (10 * n + (d - digit_0)) ds

abbrev pub value_of : List ℕ → ℕ
value_of digits = value_from 0 digits

-- `0`, or digits of which the first isn't 0
abbrev pub is_decimal : List ℕ → Bool
is_decimal [] = false
is_decimal (d ∷ []) = is_digit d
is_decimal (d ∷ e ∷ ds) = not (d == digit_0) && list_all is_digit (d ∷ e ∷ ds)

-- a NUMBER of the quick form: decimal, with a value that an `int` of 32 bits holds
abbrev pub is_number : List ℕ → Bool
is_number w = is_decimal w && nat_le (value_of w) 2147483647
