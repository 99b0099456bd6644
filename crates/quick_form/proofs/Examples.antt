-- Examples of the definitions, by computing.
use Rattle.std.proofs.Common.{◌≡◌, ℕ, true, false, Some, None, List, [], ◌∷◌, ◌++◌, codes, refl}
use Rattle.quick_form.specs.Words.{is_name, is_number}
use Rattle.quick_form.specs.Symbols.{Int, Void, Return, Putchar, Main, Name, Number, Mark, Ifdef, Endif, Malformed, line_symbols, symbols_of}
use Rattle.quick_form.specs.Places.{first_mention, first_tested}
use Rattle.quick_form.specs.Renaming.{renamed_bytes}

-- a line of a text, with its newline
abbrev line : List ℕ → List ℕ
line bytes = bytes ++ 10 ∷ []

-- a file of the form that declares and uses the name
abbrev file : List ℕ → List ℕ
file name =
    line (codes "int " ++ name ++ codes " = 65;") ++ line (codes "#ifdef A") ++ line (codes "int y;") ++ line (codes "#endif")
    ++ line (codes "int main(void) { putchar(" ++ name ++ codes "); return 0; }")

spelled : symbols_of (file (codes "x"))
    ≡ Int ∷ Name (codes "x") ∷ Mark 61 ∷ Number (codes "65") ∷ Mark 59
    ∷ Ifdef (codes "A") ∷ Int ∷ Name (codes "y") ∷ Mark 59 ∷ Endif
    ∷ Int ∷ Main ∷ Mark 40 ∷ Void ∷ Mark 41 ∷ Mark 123
    ∷ Putchar ∷ Mark 40 ∷ Name (codes "x") ∷ Mark 41 ∷ Mark 59
    ∷ Return ∷ Number (codes "0") ∷ Mark 59 ∷ Mark 125 ∷ []
spelled = refl

renamed : renamed_bytes (codes "x") (codes "z") (file (codes "x")) ≡ file (codes "z")
renamed = refl

-- a longer word and a directive line stay
kept : renamed_bytes (codes "x") (codes "z") (line (codes "xx x_ x1 y") ++ codes "#ifdef x")
    ≡ line (codes "xx x_ x1 y") ++ codes "#ifdef x"
kept = refl

-- blanks and tabs stand anywhere in a directive line
spaced_directive : line_symbols (32 ∷ 9 ∷ codes "# ifdef  A ") ≡ Ifdef (codes "A") ∷ []
spaced_directive = refl

unknown_directive : line_symbols (codes "#if A") ≡ Malformed ∷ []
unknown_directive = refl

hash_inside : line_symbols (codes "x # y") ≡ Name (codes "x") ∷ Mark 35 ∷ Name (codes "y") ∷ []
hash_inside = refl

digits_then_letters : line_symbols (codes "12ab") ≡ Malformed ∷ []
digits_then_letters = refl

leading_zero : is_number (codes "07") ≡ false
leading_zero = refl

largest_number : is_number (codes "2147483647") ≡ true
largest_number = refl

past_largest_number : is_number (codes "2147483648") ≡ false
past_largest_number = refl

keyword_is_no_name : is_name (codes "_Bool") ≡ false
keyword_is_no_name = refl

-- where names stand first
new_name_at : first_mention (codes "y") (file (codes "x")) ≡ Some 25
new_name_at = refl

tested_name_at : first_mention (codes "A") (file (codes "x")) ≡ Some 19
tested_name_at = refl

no_such_name : first_mention (codes "z") (file (codes "x")) ≡ None
no_such_name = refl

directive_word_is_no_name : first_mention (codes "ifdef") (file (codes "x")) ≡ None
directive_word_is_no_name = refl

tested_outside : first_tested (line (codes "#ifdef x") ++ line (codes "#endif") ++ codes "int x;") ≡ Some 20
tested_outside = refl

tested_apart : first_tested (file (codes "x")) ≡ None
tested_apart = refl
