-- Numbers, characters and texts as bytes (ISO/IEC 9899:2011, 6.4.8, 6.4.4, 6.4.5): which bytes are lexically one of them,
-- which of those the engine reads, and their values.
use Rattle.std.specs.Prelude.{ℕ, zero, suc, ◌+◌, ◌*◌, ◌-◌, ◌==◌, min, Bool, true, false, not, ◌&&◌, ◌||◌, nat_le, List, [], ◌∷◌, length, take, drop, codes, if◌then◌else◌, Option, Some, None, is_some, option_map}
use Rattle.std.specs.List.{list_any, list_all}
use Rattle.std.specs.Str.{bytes_eq}
use Rattle.c_names.specs.Bytes.{alert, backslash, backspace, blank, carriage_return, digit_0, digit_7, dot, double_quote, form_feed, lower_a, lower_b, lower_f, lower_n, lower_r, lower_t, lower_v, lower_x, newline, question_mark, single_quote, tab, tilde, upper_a, upper_f, vertical_tab}
use Rattle.c_names.specs.Names.{is_digit, is_word_byte}

abbrev pub is_one_of : List ℕ → ℕ → Bool
is_one_of bytes b = list_any (λ c. c == b) bytes

-- whether the bytes, behind a byte of a number, go on with it: letters, digits, `_`, `.`, and a sign behind `e`, `E`, `p` or `P`
abbrev pub continue_number : ℕ → List ℕ → Bool
continue_number last [] = true
continue_number last (b ∷ rest) =
    (is_word_byte b || b == dot || (is_one_of (codes "+-") b && is_one_of (codes "eEpP") last)) && continue_number b rest

abbrev pub begin_with_digit : List ℕ → Bool
begin_with_digit [] = false
begin_with_digit (b ∷ rest) = is_digit b && continue_number b rest

-- a preprocessing number
abbrev pub is_number : List ℕ → Bool
is_number [] = false
is_number (b ∷ rest) = begin_with_digit (b ∷ rest) || (b == dot && begin_with_digit rest)

-- the number of bytes at the front that pass a test
abbrev pub run_length : (ℕ → Bool) → List ℕ → ℕ
run_length test [] = 0
run_length test (b ∷ rest) = if test b then suc (run_length test rest) else 0

abbrev pub is_octal_digit : ℕ → Bool
is_octal_digit b = nat_le digit_0 b && nat_le b digit_7

abbrev pub is_lower_hexadecimal : ℕ → Bool
is_lower_hexadecimal b = nat_le lower_a b && nat_le b lower_f

abbrev pub is_upper_hexadecimal : ℕ → Bool
is_upper_hexadecimal b = nat_le upper_a b && nat_le b upper_f

abbrev pub is_hexadecimal_digit : ℕ → Bool
is_hexadecimal_digit b = is_digit b || is_lower_hexadecimal b || is_upper_hexadecimal b

-- the value of a digit of any base
abbrev pub digit_value : ℕ → ℕ
digit_value b = if is_digit b then b - digit_0 else if is_lower_hexadecimal b then b - (lower_a - 10) else b - (upper_a - 10)

-- the number that the digits go on to write behind this one
abbrev pub digits_from : ℕ → ℕ → List ℕ → ℕ
digits_from base value [] = value
digits_from base value (b ∷ rest) = digits_from base (base * value + digit_value b) rest

abbrev pub digits_value : ℕ → List ℕ → ℕ
digits_value base digits = digits_from base 0 digits

-- an integer constant of the engine, without its suffix: its base and digits
pub record Digits : Type 0 where
  pub base : ℕ
  pub digits : List ℕ

abbrev pub digits_in : ℕ → List ℕ → Digits
digits_in base digits = record { base = base; digits = digits }

-- a `0x` or `0X` begins hexadecimal digits, another 0 octal ones
abbrev pub based : List ℕ → Digits
based [] = digits_in 10 []
based (b ∷ []) = if b == digit_0 then digits_in 8 (b ∷ []) else digits_in 10 (b ∷ [])
based (b ∷ c ∷ rest) =
    if b == digit_0 then (if is_one_of (codes "xX") c then digits_in 16 rest else digits_in 8 (b ∷ c ∷ rest)) else digits_in 10 (b ∷ c ∷ rest)

abbrev pub is_digit_in : ℕ → ℕ → Bool
is_digit_in base b = if base == 16 then is_hexadecimal_digit b else if base == 8 then is_octal_digit b else is_digit b

abbrev pub is_suffix_letter : ℕ → Bool
is_suffix_letter b = is_one_of (codes "uUlL") b

-- where the suffix of a number begins
abbrev pub suffix_start : List ℕ → ℕ
suffix_start w = run_length (λ b. not (is_suffix_letter b)) w

abbrev pub suffix_of : List ℕ → List ℕ
suffix_of w = drop (suffix_start w) w

abbrev pub digits_of : List ℕ → Digits
digits_of w = based (take (suffix_start w) w)

abbrev pub suffixes : List (List ℕ)
suffixes =
    [] ∷ codes "u" ∷ codes "U" ∷ codes "l" ∷ codes "L" ∷ codes "ul" ∷ codes "uL" ∷ codes "Ul" ∷ codes "UL" ∷ codes "lu"
    ∷ codes "lU" ∷ codes "Lu" ∷ codes "LU" ∷ []

abbrev pub is_unsigned : List ℕ → Bool
is_unsigned w = list_any (is_one_of (codes "uU")) (suffix_of w)

abbrev pub number_value : List ℕ → ℕ
number_value w = digits_value (digits_of w).base (digits_of w).digits

-- the largest value that one of a number's types holds (6.4.4.1): decimal ones without `u` have signed types alone
abbrev pub largest : List ℕ → ℕ
largest w = if (digits_of w).base == 10 && not (is_unsigned w) then 9223372036854775807 else 18446744073709551615

-- a number that the engine reads
abbrev pub is_integer : List ℕ → Bool
is_integer w =
    list_any (bytes_eq (suffix_of w)) suffixes && not (length (digits_of w).digits == 0)
    && list_all (is_digit_in (digits_of w).base) (digits_of w).digits && nat_le (number_value w) (largest w)

-- Behind a quote: whether the first quote that isn't escaped is the end.
abbrev mutual
  pub is_closed : ℕ → List ℕ → Bool
  is_closed quote [] = false
  is_closed quote (b ∷ rest) =
      if b == quote then length rest == 0 else if b == backslash then is_closed_behind quote rest else not (b == newline) && is_closed quote rest

  pub is_closed_behind : ℕ → List ℕ → Bool
  is_closed_behind quote [] = false
  is_closed_behind quote (b ∷ rest) = not (b == newline) && is_closed quote rest

-- Behind a quote: whether no quote that isn't escaped stands in the line.
abbrev mutual
  pub is_unclosed : ℕ → List ℕ → Bool
  is_unclosed quote [] = true
  is_unclosed quote (b ∷ rest) =
      not (b == quote) && (if b == backslash then is_unclosed_behind quote rest else not (b == newline) && is_unclosed quote rest)

  pub is_unclosed_behind : ℕ → List ℕ → Bool
  is_unclosed_behind quote [] = true
  is_unclosed_behind quote (b ∷ rest) = not (b == newline) && is_unclosed quote rest

-- a quote, and bytes of one line up to the next one
abbrev pub is_quoted : ℕ → List ℕ → Bool
is_quoted quote [] = false
is_quoted quote (b ∷ rest) = b == quote && is_closed quote rest

-- a quote that its line ends in
abbrev pub is_open_quoted : ℕ → List ℕ → Bool
is_open_quoted quote [] = false
is_open_quoted quote (b ∷ rest) = b == quote && is_unclosed quote rest

-- what an escape stands for, and how many bytes it has behind the backslash
pub record Escape : Type 0 where
  pub value : ℕ
  pub length : ℕ

abbrev pub escape : ℕ → ℕ → Option Escape
escape value length = if nat_le value 255 then Some (record { value = value; length = length }) else None

-- the letters of simple escapes, and what they stand for
abbrev pub simple_value : ℕ → Option ℕ
simple_value b =
    if b == lower_n then Some newline else if b == lower_t then Some tab else if b == lower_r then Some carriage_return else if b == lower_a then Some alert
    else if b == lower_b then Some backspace else if b == lower_f then Some form_feed else if b == lower_v then Some vertical_tab
    else if is_one_of (backslash ∷ single_quote ∷ double_quote ∷ question_mark ∷ []) b then Some b else None

abbrev pub octal_length : List ℕ → ℕ
octal_length w = min 3 (run_length is_octal_digit w)

-- `\x` with hexadecimal digits
abbrev pub hexadecimal_escape : List ℕ → Option Escape
hexadecimal_escape digits =
    if run_length is_hexadecimal_digit digits == 0 then None
    else escape (digits_value 16 (take (run_length is_hexadecimal_digit digits) digits)) (suc (run_length is_hexadecimal_digit digits))

-- the escape whose backslash stands before these bytes
abbrev pub escape_at : List ℕ → Option Escape
escape_at [] = None
escape_at (b ∷ rest) =
    if b == lower_x then hexadecimal_escape rest
    else if is_octal_digit b then escape (digits_value 8 (take (octal_length (b ∷ rest)) (b ∷ rest))) (octal_length (b ∷ rest))
    else option_map (λ value. record { value = value; length = 1 }) (simple_value b)

-- a byte that stands for itself in a character or a text
abbrev pub is_source_byte : ℕ → Bool
is_source_byte b = b == tab || (nat_le blank b && nat_le b tilde) || nat_le 128 b

abbrev pub with_value : ℕ → Option (List ℕ) → Option (List ℕ)
with_value value values = option_map (λ vs. value ∷ vs) values

abbrev pub by_escape : Option Escape → (ℕ → Option (List ℕ)) → Option (List ℕ)
by_escape None others = None
by_escape (Some e) others = with_value e.value (others e.length)

-- the values of the bytes between two quotes, where so many more bytes belong to an escape
abbrev pub values_from : ℕ → List ℕ → Option (List ℕ)
values_from more [] = Some []
values_from (suc more) (b ∷ rest) = values_from more rest
values_from zero (b ∷ rest) =
    if b == backslash then by_escape (escape_at rest) (λ more. values_from more rest)
    else if is_source_byte b then with_value b (values_from 0 rest) else None

-- without the quotes
abbrev pub inside : List ℕ → List ℕ
inside w = take (length w - 2) (drop 1 w)

-- the bytes that a character or a text stands for, if the engine reads it
abbrev pub quoted_values : List ℕ → Option (List ℕ)
quoted_values w = values_from 0 (inside w)

abbrev pub is_one : Option (List ℕ) → Bool
is_one None = false
is_one (Some values) = length values == 1

-- a character that the engine reads
abbrev pub is_character : List ℕ → Bool
is_character w = is_one (quoted_values w)

-- a text that the engine reads
abbrev pub is_text : List ℕ → Bool
is_text w = is_some (quoted_values w)
