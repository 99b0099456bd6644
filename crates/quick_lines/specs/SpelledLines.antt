-- Lines of C that spell the symbols of a quick file, and which symbols a text of C keeps apart.
use Rattle.std.specs.Prelude.{◌≡◌, ℕ, ◌==◌, Bool, true, false, not, ◌&&◌, ◌||◌, List, [], ◌∷◌, ◌++◌, codes}
use Rattle.std.specs.List.{flat_map, list_any}
use Rattle.c_text.specs.Constants.{is_one_of}
use Rattle.c_text.specs.Lines.{PlainLine}
use Rattle.quick_form.specs.Symbols.{Symbol, Mark, Malformed}
use Rattle.quick_lines.specs.Spellings.{spellings_of, spelled_symbol, is_directive}

-- a directive line is one symbol, and the symbols of other lines are no directive lines
abbrev pub AreOfLine : Bool → List Symbol → Type 0
AreOfLine false own = list_any is_directive own ≡ false
AreOfLine true own = (k : Symbol) × (own ≡ k ∷ []) × (is_directive k ≡ true)

-- the tokens of the line are those of its symbols
pub record SpellsLine (line : PlainLine) (own : List Symbol) : Type 0 where
  pub tokens : spellings_of line.tokens ≡ flat_map spelled_symbol own
  pub form : AreOfLine line.directive own

-- lines that spell the symbols, one after the other
abbrev pub SpellLines : List PlainLine → List Symbol → Type 0
SpellLines [] ks = ks ≡ []
SpellLines (line ∷ lines) ks = (own rest : List Symbol) × (ks ≡ own ++ rest) × SpellsLine line own × SpellLines lines rest

-- a mark with which longer punctuators begin: `+` 43, `-` 45, `=` 61
abbrev pub may_go_on : ℕ → Bool
may_go_on b = b == 43 || b == 45 || b == 61

abbrev pub begin_with_mark : List Symbol → Bool
begin_with_mark [] = false
begin_with_mark (Mark b ∷ ks) = true
begin_with_mark (k ∷ ks) = false

-- No symbol is malformed, each mark is one of the quick form, and no mark stands behind one that could go on with it.
abbrev pub are_spaced : List Symbol → Bool
are_spaced [] = true
are_spaced (Malformed ∷ ks) = false
are_spaced (Mark b ∷ ks) = is_one_of (codes "(){};=+-") b && not (may_go_on b && begin_with_mark ks) && are_spaced ks
are_spaced (k ∷ ks) = are_spaced ks
