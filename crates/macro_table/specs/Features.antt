-- The macros of a project with features: a feature that is on is a macro, and one that is off is none.
use Rattle.std.specs.Prelude.{ℕ, suc, Bool, false, ◌||◌, ◌&&◌, if◌then◌else◌, List, [], ◌∷◌, map, Some}
use Rattle.std.specs.String.{string_bytes}
use Rattle.std.specs.Str.{bytes_eq}
use Rattle.c_text.specs.Macros.{Table, feature}
use Rattle.c_text.specs.Preprocessing.{feature_token}
use Rattle.macro_table.specs.MacroTables.{table_at}
use Rattle.macro_table.specs.declared.macros.Macros.{Macros}

-- whether a feature of this name is on, among features that are numbered from here on
abbrev pub is_feature_on : (ℕ → Bool) → ℕ → List (List ℕ) → List ℕ → Bool
is_feature_on on number [] name = false
is_feature_on on number (first ∷ features) name =
    (bytes_eq name first && on number) || is_feature_on on (suc number) features name

abbrev pub is_on_feature : (ℕ → Bool) → Macros → List ℕ → Bool
is_on_feature on macros name = is_feature_on on 0 (map string_bytes macros.features.now) name

-- what names stand for in a configuration
abbrev pub macros_at : (ℕ → Bool) → Macros → Table
macros_at on macros name = if is_on_feature on macros name then Some (feature feature_token) else table_at on macros.table.now name
