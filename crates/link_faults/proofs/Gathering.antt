-- What declarations are gathered.
use Rattle.std.proofs.Common.{◌≡◌, ℕ, Bool, true, false, not, ◌&&◌, ◌||◌, List, [], ◌∷◌, map, refl, sym, ap, ◌∙◌}
use Rattle.std.specs.Prelude.{Option, Some, None, option_map, filter, if◌then◌else◌}
use Rattle.std.specs.List.{list_any}
use Rattle.cond_formula.specs.Conditions.{condition_of, value}
use Rattle.conditional.specs.Entries.{Sees, entry_of, entries_of}
use Rattle.conditional.specs.declared.entries.Guarded.{Guarded}
use Rattle.core_meaning.specs.Entities.{Signature, Sort, function}
use Rattle.core_meaning.specs.Linking.{external_sort}
use Rattle.type_tables.specs.Tables.{FileName}
use Rattle.type_tables.specs.Forms.{file_name_form}
use Rattle.type_tables.specs.Seen.{seen_tables, signature_of}
use Rattle.type_tables.specs.declared.entries.CondSignature.{CondSignature}
use Rattle.type_tables.specs.declared.tables.Tables.{Tables}
use Rattle.type_tables.specs.declared.entries.FileName as code
use Rattle.link_faults.specs.declared.left.LeftUnit.{LeftUnit}
use Rattle.link_faults.specs.SeenUnits.{unit_seen, units_seen, is_present, name_seen, name_in}
use Rattle.link_faults.specs.Measures.{is_so}
use Rattle.link_faults.proofs.Entries.{some_is}
use Rattle.link_faults.specs.Gathered.{is_sort_so, is_external_so, meaning_so}
use Rattle.link_faults.proofs.Walks.{any_map, any_both}

external_is : (signatures : ℕ → Signature) (test : Sort → Bool) (v : Option FileName)
    → is_so (is_external_so signatures test) v
    ≡ is_sort_so test (elim (option_map (name_in signatures) v) as (λ x. Option Sort) [ None ↦ None | Some n ↦ if n.internal then None else Some n.sort ])
external_is signatures test None = refl
external_is signatures test (Some n) = by n.internal
  where
    by : (b : Bool) → (not b && test ((name_in signatures n).sort)) ≡ is_sort_so test (if b then None else Some (name_in signatures n).sort)
    by true = refl
    by false = refl

module _ (on : ℕ → Bool) (tables : Tables) (test : Sort → Bool) (name : List ℕ) where
  -- the declarations of one unit
  pub unit_is : (present : Bool) (left : LeftUnit) (meanings : List (Guarded code.FileName))
      → Sees on (name_seen on left.names name) (entries_of file_name_form meanings)
      → list_any (λ e. present && meaning_so on tables test e) meanings ≡ (present && is_sort_so test (external_sort name (unit_seen on tables left)))
  unit_is present left meanings sees =
      let so = is_external_so (seen_tables on tables).signatures test in
      any_both present (meaning_so on tables test) meanings
      ∙ ap (λ b. present && b)
      (sym (any_map (λ e. value on e.when && so e.what) (entry_of file_name_form) meanings)
      ∙ some_is so on (name_seen on left.names name) (entries_of file_name_form meanings) sees
      ∙ external_is (seen_tables on tables).signatures test (name_seen on left.names name))

  -- a unit that is present has a declaration that is so
  abbrev pub unit_so : LeftUnit → Bool
  unit_so left = value on (condition_of left.when) && is_sort_so test (external_sort name (unit_seen on tables left))

  pub units_are : (units : List LeftUnit) → list_any unit_so units ≡ list_any (is_sort_so test) (map (external_sort name) (units_seen on tables units))
  units_are [] = refl
  units_are (x ∷ xs) = by (is_present on x) (units_are xs)
    where
      by : (b : Bool) → list_any unit_so xs ≡ list_any (is_sort_so test) (map (external_sort name) (units_seen on tables xs))
          → ((b && is_sort_so test (external_sort name (unit_seen on tables x))) || list_any unit_so xs)
          ≡ list_any (is_sort_so test) (map (external_sort name) (map (unit_seen on tables) (if b then x ∷ filter (is_present on) xs else filter (is_present on) xs)))
      by true rest = ap (λ b. is_sort_so test (external_sort name (unit_seen on tables x)) || b) rest
      by false rest = rest

-- what a header declares, or doesn't
pub header_is : (on : ℕ → Bool) (test : Sort → Bool) (found is : Option CondSignature) (sort : Option Sort)
    → option_map (λ g. function (signature_of on (Some g))) found ≡ sort → found ≡ is
    → is_sort_so test (option_map (λ g. function (signature_of on (Some g))) is) ≡ is_sort_so test sort
header_is on test found is sort e same = ap (λ (o : Option CondSignature). is_sort_so test (option_map (λ g. function (signature_of on (Some g))) o)) (sym same) ∙ ap (is_sort_so test) e
