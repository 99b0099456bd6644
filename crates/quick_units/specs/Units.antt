-- The unit of a quick file, and the tokens that it gives in a configuration.
use Rattle.std.specs.Prelude.{◌≡◌, ℕ, Bool, ◌&&◌, List, [], ◌∷◌, ◌++◌, map, codes, if◌then◌else◌}
use Rattle.std.specs.List.{list_any}
use Rattle.std.specs.Str.{bytes_eq}
use Rattle.c_text.specs.declared.token.TokenKind.TheVariants as kind
use Rattle.c_text.specs.Token.{PlainToken}
use Rattle.c_text.specs.Macros.{is_name_kind}
use Rattle.c_text.specs.Preprocessing.{Sources, gives, IsPreprocessed}
use Rattle.quick_form.specs.Form.{Items, Reads}
use Rattle.quick_core.specs.Present.{Item, present_items}
use Rattle.quick_trees.specs.Tokens.{write_unit}
use Rattle.quick_lines.specs.Spellings.{Spelling, spelling, spellings_of, symbol_spelling}

-- the text of a unit: the line `int putchar(int);`, and a quick file
abbrev pub unit_text : List ℕ → List ℕ
unit_text bytes = codes "int putchar(int);" ++ 10 ∷ bytes

-- a project's one file has the text
pub record IsAlone (s : Sources) (text : List ℕ) : Type 0 where
  pub name : List ℕ
  pub files : s.files ≡ record { name = name; bytes = text } ∷ []

-- whether a feature is among those that are on
abbrev pub is_on : List (List ℕ) → List ℕ → Bool
is_on names name = list_any (bytes_eq name) names

-- the name of a feature that is on is replaced by `1`
abbrev pub replaced_spelling : List (List ℕ) → Spelling → Spelling
replaced_spelling names w = if is_name_kind w.kind && is_on names w.text then spelling kind.Number (codes "1") else w

-- the spellings of the unit with these items, where these features are on
abbrev pub unit_spellings : List (List ℕ) → List Item → List Spelling
unit_spellings names items = map (λ k. replaced_spelling names (symbol_spelling k)) (write_unit items)

-- LAW, the contract of a function of this crate: where the unit of a file that reads as items gives tokens, they are those of
-- what is present.
abbrev pub UnitsGiveWhatIsPresent : Type 0
UnitsGiveWhatIsPresent =
    (s : Sources) (bytes : List ℕ) (items : Items) → IsAlone s (unit_text bytes) → Reads bytes items
    → (tokens : List PlainToken) → IsPreprocessed s 0 (gives tokens)
    → spellings_of tokens ≡ unit_spellings s.on_features (present_items (is_on s.on_features) items)
