-- The words of C as bytes: identifiers and keywords (ISO/IEC 9899:2011, 6.4.1, 6.4.2), and the names that are good for something new.
use Rattle.std.specs.Prelude.{ℕ, Bool, false, not, ◌&&◌, ◌||◌, ◌==◌, nat_le, nat_eq, List, [], ◌∷◌, codes}
use Rattle.std.specs.List.{list_any, list_all, starts_with}
use Rattle.std.specs.Str.{bytes_eq}
use Rattle.c_names.specs.Bytes.{digit_0, digit_9, lower_a, lower_z, underscore, upper_a, upper_z}

abbrev pub is_digit : ℕ → Bool
is_digit b = nat_le digit_0 b && nat_le b digit_9

-- a letter or `_`
abbrev pub is_nondigit : ℕ → Bool
is_nondigit b = (nat_le upper_a b && nat_le b upper_z) || (nat_le lower_a b && nat_le b lower_z) || b == underscore

abbrev pub is_word_byte : ℕ → Bool
is_word_byte b = is_nondigit b || is_digit b

abbrev pub is_identifier : List ℕ → Bool
is_identifier [] = false
is_identifier (b ∷ bs) = is_nondigit b && list_all is_word_byte bs

-- the keywords of C
abbrev pub keywords : List (List ℕ)
keywords =
    codes "auto" ∷ codes "break" ∷ codes "case" ∷ codes "char" ∷ codes "const" ∷ codes "continue" ∷ codes "default"
    ∷ codes "do" ∷ codes "double" ∷ codes "else" ∷ codes "enum" ∷ codes "extern" ∷ codes "float" ∷ codes "for"
    ∷ codes "goto" ∷ codes "if" ∷ codes "inline" ∷ codes "int" ∷ codes "long" ∷ codes "register" ∷ codes "restrict"
    ∷ codes "return" ∷ codes "short" ∷ codes "signed" ∷ codes "sizeof" ∷ codes "static" ∷ codes "struct"
    ∷ codes "switch" ∷ codes "typedef" ∷ codes "union" ∷ codes "unsigned" ∷ codes "void" ∷ codes "volatile"
    ∷ codes "while" ∷ codes "_Alignas" ∷ codes "_Alignof" ∷ codes "_Atomic" ∷ codes "_Bool" ∷ codes "_Complex"
    ∷ codes "_Generic" ∷ codes "_Imaginary" ∷ codes "_Noreturn" ∷ codes "_Static_assert" ∷ codes "_Thread_local" ∷ []

abbrev pub is_keyword : List ℕ → Bool
is_keyword w = list_any (bytes_eq w) keywords

-- the names that are taken besides the keywords: the preprocessor's, the built-in functions' and macros', and `main`
abbrev pub taken_names : List (List ℕ)
taken_names =
    codes "defined" ∷ codes "_Pragma" ∷ codes "main" ∷ codes "putchar" ∷ codes "getchar" ∷ codes "puts"
    ∷ codes "exit" ∷ codes "EOF" ∷ codes "NULL" ∷ []

-- A name that may be given to something new, or to a feature: those that begin with `__` are the implementation's.
abbrev pub is_new_name : List ℕ → Bool
is_new_name w =
    is_identifier w && not (is_keyword w) && not (list_any (bytes_eq w) taken_names)
    && not (starts_with nat_eq w (codes "__"))
