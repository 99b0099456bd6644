-- What the reading of a file stands on, and what is read where an `#include` stands.
use Rattle.std.specs.Prelude.{◌≡◌, ◌↔◌, ℕ, ℤ, true, List, map, length, Option, Some, None, is_some}
use Rattle.std.specs.List.{list_any}
use Rattle.std.specs.Str.{bytes_eq}
use Rattle.std.specs.String.{string_bytes}
use Rattle.c_text.specs.Token.{PlainToken}
use Rattle.c_text.specs.Expressions.{HasValue}
use Rattle.c_text.specs.Preprocessing as spec
use Rattle.c_text.specs.Preprocessing.{Reading, Flow, Setting, on}
use Rattle.unit_files.specs.declared.inclusions.Source.{Source}
use Rattle.unit_files.specs.declared.surroundings.Surroundings.{Surroundings}
use Rattle.unit_files.specs.Inclusions.{IsAmong}

-- the values of expressions
pub record AreValues (value_of : List PlainToken → Option ℤ) : Type 0 where
  pub values : (tokens : List PlainToken) (z : ℤ) → (value_of tokens ≡ Some z) ↔ HasValue tokens z

-- what the reading of a file stands on
pub record IsSettingOf (place : Surroundings) (s : Setting) : Type 0 where
  pub values : AreValues s.value_of
  pub features : (name : List ℕ) → s.is_feature name ≡ list_any (bytes_eq name) (map string_bytes place.features.now)
  pub headers : s.headers ≡ map string_bytes place.headers.now
  pub name : s.name ≡ place.name.now
  pub deeper : is_some s.deeper ≡ place.may_include

-- the file may be read from a file with this place
pub record MayEnter (place : Surroundings) (source : Source) : Type 0 where
  pub may_include : place.may_include ≡ true
  pub among : IsAmong (length place.headers.now) source

-- the file that is read next, if there is one
abbrev pub entered : Option (spec.Source → Reading → Flow) → Option spec.Source → Reading → Flow
entered deeper None r = on r
entered None (Some source) r = on r
entered (Some read) (Some source) r = read source r
