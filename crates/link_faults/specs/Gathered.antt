-- What declarations are, that are gathered from units and headers.
use Rattle.std.specs.Prelude.{ℕ, Bool, false, not, ◌&&◌, List, Option, Some, None}
use Rattle.std.specs.List.{list_any}
use Rattle.cond_formula.specs.Conditions.{condition_of, value}
use Rattle.conditional.specs.declared.entries.Guarded.{Guarded}
use Rattle.core_meaning.specs.Entities.{Signature, Sort, function}
use Rattle.type_tables.specs.Tables.{FileName, sort_in}
use Rattle.type_tables.specs.Forms.{sort_form, file_name_form}
use Rattle.type_tables.specs.Seen.{seen_tables, signature_of}
use Rattle.type_tables.specs.declared.entries.FileName as code
use Rattle.type_tables.specs.declared.tables.Tables.{Tables}
use Rattle.link_faults.specs.declared.gathered.Declared.{Declared}
use Rattle.link_faults.specs.declared.gathered.Declared.TheVariants.{ByUnit, ByHeader}

-- a sort is there, and so
abbrev pub is_sort_so : (Sort → Bool) → Option Sort → Bool
is_sort_so test None = false
is_sort_so test (Some sort) = test sort

-- a name has external linkage, and what it stands for is so
abbrev pub is_external_so : (ℕ → Signature) → (Sort → Bool) → FileName → Bool
is_external_so signatures test n = not n.internal && test (sort_in signatures n.sort)

module _ (on : ℕ → Bool) (tables : Tables) where
  abbrev pub declared_sort : Declared → Sort
  declared_sort (ByUnit sort) = sort_in (seen_tables on tables).signatures (sort_form sort)
  declared_sort (ByHeader f) = function (signature_of on (Some f))

  -- a meaning of a name is there, with external linkage, and is so
  abbrev pub meaning_so : (Sort → Bool) → Guarded code.FileName → Bool
  meaning_so test e = value on (condition_of e.when) && is_external_so (seen_tables on tables).signatures test (file_name_form e.what)

  -- some declaration that is there is so
  abbrev pub some_declared : (Sort → Bool) → List (Guarded Declared) → Bool
  some_declared test declarations = list_any (λ (d : Guarded Declared). value on (condition_of d.when) && test (declared_sort d.what)) declarations

  -- two declarations are there and don't agree
  abbrev pub are_apart : (Sort → Sort → Bool) → Guarded Declared → Guarded Declared → Bool
  are_apart agree a b = value on (condition_of a.when) && (value on (condition_of b.when) && not (agree (declared_sort a.what) (declared_sort b.what)))
