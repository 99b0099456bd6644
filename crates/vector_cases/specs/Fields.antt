-- The fields of a line, parted by tabs, and what each of them stands for.
use Rattle.std.specs.Prelude.{◌≡◌, ◌<◌, ℕ, ◌+◌, ◌*◌, ◌-◌, ◌==◌, ◌&&◌, nat_le, List, [], ◌∷◌, ◌++◌, decimal, Option, Some, None, if◌then◌else◌, ⊤}
use Rattle.std.specs.List.{AllZip, slice_split}
use Rattle.c_names.specs.Bytes.{backslash, carriage_return, digit_0, lower_n, lower_r, lower_t, lower_x, newline, tab, upper_a, upper_f}
use Rattle.c_names.specs.Names.{is_digit}
use Rattle.vector_cases.specs.declared.escapes.Escape.{Escape}
use Rattle.vector_cases.specs.declared.escapes.Escape.TheVariants.{Outside, Begun, Hexadecimal, Digit}
use Rattle.vector_cases.specs.declared.fields.Fields.{Fields}

abbrev pub parted : List ℕ → List (List ℕ)
parted line = slice_split (λ b. b == tab) line

-- the value of a hexadecimal digit, of which the letters are large
abbrev pub digit : ℕ → Option ℕ
digit b = if is_digit b then Some (b - digit_0) else if nat_le upper_a b && nat_le b upper_f then Some (b - upper_a + 10) else None

-- the byte that a letter behind a backslash stands for
abbrev pub letter : ℕ → Option ℕ
letter b =
    if b == lower_n then Some newline
    else if b == lower_t then Some tab
    else if b == lower_r then Some carriage_return
    else if b == backslash then Some backslash
    else None

abbrev pub before : Option ℕ → Option (List ℕ) → Option (List ℕ)
before (Some b) (Some bytes) = Some (b ∷ bytes)
before other bytes = None

-- the byte of two digits
abbrev pub of_digits : Option ℕ → Option ℕ → Option ℕ
of_digits (Some high) (Some low) = Some (high * 16 + low)
of_digits other low = None

abbrev mutual
  -- the bytes that a field stands for, if each backslash in it begins an escape
  pub unescaped : List ℕ → Option (List ℕ)
  unescaped [] = Some []
  unescaped (b ∷ field) = if b == backslash then escaped field else before (Some b) (unescaped field)

  -- behind a backslash
  pub escaped : List ℕ → Option (List ℕ)
  escaped [] = None
  escaped (b ∷ field) = if b == lower_x then hexadecimal field else before (letter b) (unescaped field)

  -- behind `\x`
  pub hexadecimal : List ℕ → Option (List ℕ)
  hexadecimal [] = None
  hexadecimal (b ∷ field) = second_digit (digit b) field

  -- behind `\x` and a digit
  pub second_digit : Option ℕ → List ℕ → Option (List ℕ)
  second_digit high [] = None
  second_digit high (b ∷ field) = before (of_digits high (digit b)) (unescaped field)

-- what the rest of a field stands for where its reading stands so
abbrev pub goes_on : Escape → List ℕ → Option (List ℕ)
goes_on Outside field = unescaped field
goes_on Begun field = escaped field
goes_on Hexadecimal field = hexadecimal field
goes_on (Digit high) field = second_digit (Some high) field

-- a digit that was read is one
abbrev pub IsDigit : Escape → Type 0
IsDigit (Digit high) = high < 16
IsDigit other = ⊤

-- what a field says
pub data Value : Type 0 where
  number : ℕ → Value
  bytes : List ℕ → Value

abbrev pub Spells : List ℕ → Value → Type 0
Spells field (number n) = field ≡ decimal n
Spells field (bytes said) = unescaped field ≡ Some said

-- the fields of a line that are still to be read
abbrev pub fields_left : Fields → List (List ℕ)
fields_left fields = elim fields.rest as (λ x. List (List ℕ)) [ None ↦ [] | Some rest ↦ parted rest.now ]

-- of the fields some were read, and they say so
pub record Reads (before after : Fields) (values : List Value) : Type 0 where
  pub read : List (List ℕ)
  pub joined : fields_left before ≡ read ++ fields_left after
  pub spelled : AllZip Spells read values
