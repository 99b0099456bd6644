-- How often names are defined, as a map has it.
use Rattle.std.specs.Prelude.{◌≡◌, ℕ, ◌+◌, ◌==◌, Bool, ◌&&◌, List, Option, Some, None, if◌then◌else◌}
use Rattle.std.specs.List.{list_any}
use Rattle.std.specs.Str.{bytes_eq}
use Rattle.std.specs.HashMap.{HashMap}
use Rattle.std.specs.declared.alloc.Global.{Global}
use Rattle.std.specs.Prelude.{Vec}
use Rattle.core_meaning.specs.UnitNames.{Defined}
use Rattle.core_meaning.specs.Linking.{count_whole, is_tentative, or_zero}
use Rattle.plain_scope.specs.PlainScope.{entry_of}

abbrev pub is_defined_in : List Defined → List ℕ → Bool
is_defined_in definitions name = list_any (λ d. bytes_eq d.name name) definitions

abbrev pub count_defined_in : List Defined → List ℕ → ℕ
count_defined_in definitions name =
    if count_whole definitions name == 0 && is_defined_in definitions name then 1 else count_whole definitions name

-- how many definitions of a name aren't tentative, if there are any at all
abbrev pub count_of : List Defined → List ℕ → Option ℕ
count_of definitions name = if is_defined_in definitions name then Some (count_whole definitions name) else None

abbrev pub CountsOf : {S : Type 0} → HashMap (Vec ℕ Global) ℕ S → List Defined → Type 0
CountsOf counts definitions = (name : List ℕ) → entry_of counts name ≡ count_of definitions name

-- a count with one more definition
abbrev pub with_one : (List ℕ → Option ℕ) → Defined → List ℕ → Option ℕ
with_one before d name =
    if bytes_eq d.name name then Some (or_zero (before d.name) + (if is_tentative d.body then 0 else 1)) else before name

abbrev pub CountsMore : (List ℕ → Option ℕ) → (List ℕ → Option ℕ) → Defined → Type 0
CountsMore before after d = (name : List ℕ) → after name ≡ with_one before d name
