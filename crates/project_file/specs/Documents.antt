-- The TOML document of a project file, and what its keys hold.
use Rattle.std.specs.Prelude.{◌≡◌, ℕ, Bool, true, false, List, [], ◌∷◌, Option, Some, None, IsUtf8, Contains, All}
use Rattle.std.specs.List.{list_any}
use Rattle.std.specs.Str.{bytes_eq}
use Rattle.std.specs.Ordering.{nat_cmp}
use Rattle.std.specs.declared.cmp.Ordering.TheVariants.{Less}
use Rattle.std.specs.Cmp.Lexicographic.{slice_cmp}
use Rattle.toml.specs.Data.{Data, string, array, Items, no_items, item, Members, no_members, member}
use Rattle.toml.specs.Parse.{parse_document}

-- the bytes are those of a TOML document with this table
pub record IsToml (bytes : List ℕ) (document : Members) : Type 0 where
  pub utf8 : IsUtf8 bytes
  pub parsed : parse_document bytes ≡ Some document

-- the keys of a table
abbrev pub keys_of : Members → List (List ℕ)
keys_of no_members = []
keys_of (member key value rest) = key ∷ keys_of rest

abbrev pub is_listed : List (List ℕ) → List ℕ → Bool
is_listed listed key = list_any (bytes_eq key) listed

-- each key of the table is listed
abbrev pub AllListed : List (List ℕ) → Members → Type 0
AllListed listed table = All (λ key. is_listed listed key ≡ true) (keys_of table)

-- the first key in byte order that isn't listed
pub record IsFirstUnlisted (listed : List (List ℕ)) (table : Members) (key : List ℕ) : Type 0 where
  pub stands : Contains (keys_of table) key
  pub unlisted : is_listed listed key ≡ false
  pub first : All (λ other. slice_cmp nat_cmp other key ≡ Less → is_listed listed other ≡ true) (keys_of table)

-- an array of strings
abbrev pub strings : List (List ℕ) → Items
strings [] = no_items
strings (text ∷ texts) = item (string text) (strings texts)

-- what a key holds, if it is there, is an array of these strings; where it isn't there, there are none
abbrev pub AreStrings : Option Data → List (List ℕ) → Type 0
AreStrings None texts = texts ≡ []
AreStrings (Some value) texts = value ≡ array (strings texts)
