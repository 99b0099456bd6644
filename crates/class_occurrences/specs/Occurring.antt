-- What stands in the way of a renaming at single occurrences (ISO/IEC 9899:2011, 5.1.2.2.1, 6.10.3): an identifier of a class that comes out of the
-- body of a macro, or is fixed.
use Rattle.std.specs.Prelude.{ℕ, ◌==◌, Bool, true, false, ◌&&◌, ◌||◌, List, Option, Some, None, option_map, slice_get, codes}
use Rattle.std.specs.List.{list_any}
use Rattle.std.specs.Str.{bytes_eq}
use Rattle.c_text.specs.declared.origin.FileToken.{FileToken}
use Rattle.c_text.specs.declared.origin.Place.{Place}
use Rattle.c_text.specs.declared.origin.Place.TheVariants.{MacroBody}
use Rattle.c_text.specs.Token.{PlainToken, plain_token}
use Rattle.c_text.specs.Preprocessing.{built_in_file}
use Rattle.cond_tokens.specs.declared.tokens.CondToken.{CondToken}
use Rattle.cond_pairings.specs.Pairs.{Pair}
use Rattle.changed_forests.specs.Renamed.{copies}

-- an identifier, and the one that declares it
pub record Occurring : Type 0 where
  pub identifier : PlainToken
  pub declared_by : PlainToken

-- the token with a number in the stream, if it has one
abbrev pub token_of : List CondToken → ℕ → Option PlainToken
token_of tokens number = option_map (λ t. plain_token t.token) (slice_get tokens number)

abbrev pub occurring_by : Option PlainToken → Option PlainToken → Option Occurring
occurring_by (Some identifier) (Some declared_by) = Some (record { identifier = identifier; declared_by = declared_by })
occurring_by identifier declared_by = None

-- a pair by its tokens, if the stream has both
abbrev pub occurring : List CondToken → Pair → Option Occurring
occurring tokens p = occurring_by (token_of tokens p.identifier) (token_of tokens p.declared_by)

-- they are there and pass
abbrev pub passes : (Occurring → Bool) → Option Occurring → Bool
passes test None = false
passes test (Some o) = test o

-- some of these pairs passes
abbrev pub some_passes : (Occurring → Bool) → List CondToken → List Pair → Bool
some_passes test tokens pairs = list_any (λ p. passes test (occurring tokens p)) pairs

-- ---- what is asked of one

abbrev pub is_of_class : List FileToken → Occurring → Bool
is_of_class class o = list_any (λ of. copies of o.identifier) class

abbrev pub is_macro_body : Place → Bool
is_macro_body MacroBody = true
is_macro_body other = false

abbrev pub comes_from_macro_body : List FileToken → Occurring → Bool
comes_from_macro_body class o = is_macro_body o.identifier.origin.place && is_of_class class o

-- it is `main`, or it or what declares it stands in a built-in header
abbrev pub is_fixed : Occurring → Bool
is_fixed o =
    bytes_eq o.identifier.text (codes "main") || (o.identifier.origin.file == built_in_file || o.declared_by.origin.file == built_in_file)

abbrev pub is_fixed_of : List FileToken → Occurring → Bool
is_fixed_of class o = is_fixed o && is_of_class class o
