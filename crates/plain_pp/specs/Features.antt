-- The features that are on, as macros.
use Rattle.std.specs.Prelude.{ℕ, List, [], if◌then◌else◌, Some, None}
use Rattle.std.specs.List.{list_any}
use Rattle.std.specs.Str.{bytes_eq}
use Rattle.c_text.specs.Macros.{feature}
use Rattle.c_text.specs.Preprocessing as spec
use Rattle.c_text.specs.Preprocessing.{feature_token}

abbrev pub with_names : List (List ℕ) → spec.Reading → spec.Reading
with_names names r =
    record r { table = λ name. if list_any (bytes_eq name) names then Some (feature feature_token) else r.table name }

-- where the reading of a unit begins, if these features are on
abbrev pub started : List (List ℕ) → spec.Reading
started names = record { table = λ name. if list_any (bytes_eq name) names then Some (feature feature_token) else None; tokens = [] }

-- with one feature more
abbrev pub with_feature : List ℕ → spec.Reading → spec.Reading
with_feature name r = record r { table = spec.put r.table name (Some (feature feature_token)) }
