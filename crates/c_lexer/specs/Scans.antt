-- How far numbers, comments and quoted pieces go on, behind their first bytes.
use Rattle.std.specs.Prelude.{ℕ, ◌+◌, ◌==◌, Bool, not, ◌&&◌, ◌||◌, List, [], ◌∷◌, codes, if◌then◌else◌}
use Rattle.c_names.specs.Names.{is_word_byte}
use Rattle.c_text.specs.Constants.{is_one_of}
use Rattle.c_lexer.specs.declared.scans.End.{End}
use Rattle.c_lexer.specs.declared.scans.End.TheVariants.{Closed, Open}

-- whether a number goes on with a byte behind this one
abbrev pub go_on : ℕ → ℕ → Bool
go_on last b = is_word_byte b || b == 46 || (is_one_of (codes "+-") b && is_one_of (codes "eEpP") last)

-- where a number ends whose byte before the place i is this one
abbrev pub number_from : ℕ → ℕ → List ℕ → ℕ
number_from last i [] = i
number_from last i (b ∷ rest) = if go_on last b then number_from b (i + 1) rest else i

-- where a comment ends, and whether a `*` stands before the place i
abbrev pub comment_from : Bool → ℕ → List ℕ → End
comment_from star i [] = Open i
comment_from star i (b ∷ rest) =
    if star && b == 47 then Closed (i + 1) else comment_from (b == 42) (i + 1) rest

-- where a quoted piece ends, and whether a backslash that isn't escaped stands before the place i
abbrev pub quote_from : ℕ → Bool → ℕ → List ℕ → End
quote_from quote escaped i [] = Open i
quote_from quote escaped i (b ∷ rest) =
    if b == 10 then Open i
    else if not escaped && b == quote then Closed (i + 1)
    else quote_from quote (not escaped && b == 92) (i + 1) rest
