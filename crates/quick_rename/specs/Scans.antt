-- What a walk over the symbols of a file has found of the names old and new, and of the tested names.
use Rattle.std.specs.Prelude.{◌≡◌, ℕ, ◌-◌, ◌^◌, min, Bool, true, false, List, [], ◌∷◌, Option, Some, None, is_some, if◌then◌else◌, count_by}
use Rattle.std.specs.List.{list_any}
use Rattle.std.specs.Str.{bytes_eq}
use Rattle.quick_form.specs.Symbols.{Symbol, Int, Name, uses, mentions}
use Rattle.quick_form.specs.Places.{Placed, first_name}
use Rattle.quick_parser.specs.Laws.{declares}
use Rattle.quick_rename.specs.Visits.{spelled}
use Rattle.quick_rename.specs.declared.scan.Scan.{Scan}

-- the last of the symbols is `int`
abbrev pub is_int : Symbol → Bool
is_int Int = true
is_int k = false

abbrev pub ends_with_int : List Symbol → Bool
ends_with_int [] = false
ends_with_int (k ∷ []) = is_int k
ends_with_int (k ∷ l ∷ ks) = ends_with_int (l ∷ ks)

-- whether a symbol is one of the names, outside directive lines
abbrev pub uses_one_of : List (List ℕ) → Symbol → Bool
uses_one_of names (Name m) = list_any (bytes_eq m) names
uses_one_of names k = false

-- the names that the walk goes by: old, new, and the tested ones
abbrev pub scan_words : Scan → List (List ℕ)
scan_words s = s.old.now ∷ s.new.now ∷ s.parser.now.tested_names

-- the first place, where it may be here
abbrev pub first_of : Option ℕ → Bool → ℕ → Option ℕ
first_of (Some earlier) is_here here = Some earlier
first_of None is_here here = if is_here then Some here else None

-- why a file of the form with n bytes isn't taken, if it isn't: the first new name, the first tested name outside directive
-- lines, or the end where the old name isn't declared
abbrev pub first_fault : Option ℕ → Option ℕ → Bool → ℕ → Option ℕ
first_fault (Some i) tested declared n = Some i
first_fault None (Some i) declared n = Some i
first_fault None None declared n = if declared then None else Some n

pub record Scanned (s : Scan) (ks : List Symbol) : Type 0 where
  pub follows : s.follows_int ≡ ends_with_int ks
  pub declares_it : s.declares_old ≡ declares s.old.now ks
  pub tokens_are : s.tokens ≡ min (count_by (uses s.old.now) ks) (2 ^ 64 - 1)
  pub mentions_new : is_some s.first_new ≡ list_any (mentions s.new.now) ks
  pub uses_tested : is_some s.first_tested ≡ list_any (uses_one_of s.parser.now.tested_names) ks

-- .. and where, by the symbols with their places
pub record ScannedPlaces (s : Scan) (ks : List Placed) : Type 0 where
  pub known : Scanned s (spelled ks)
  pub new_at : s.first_new ≡ first_name (mentions s.new.now) ks
  pub tested_at : s.first_tested ≡ first_name (uses_one_of s.parser.now.tested_names) ks
