-- Declarations and parameters that are like those of `main`.
use Rattle.std.proofs.Common.{◌≡◌, ℕ, Bool, true, false, not, ◌&&◌, ◌||◌, List, [], ◌∷◌, refl}
use Rattle.std.specs.Prelude.{Option, Some, None, option_map, nat_le, if◌then◌else◌}
use Rattle.cond_formula.specs.Conditions.{condition_of, value}
use Rattle.conditional.specs.Entries.{seen, entries_of, some_holds}
use Rattle.conditional.specs.declared.entries.Guarded.{Guarded}
use Rattle.core_meaning.specs.Entities.{Signature}
use Rattle.core_meaning.specs.UnitNames.{same_types}
use Rattle.core_meaning.specs.Linking.{is_main}
use Rattle.type_tables.specs.Tables.{FileName, sort_in}
use Rattle.type_tables.specs.Forms.{declared_type_form}
use Rattle.type_tables.specs.declared.entries.DeclaredType.{DeclaredType}
use Rattle.link_faults.specs.SeenUnits.{name_in}
use Rattle.link_faults.specs.Measures.{is_so}

pub none_there : (on : ℕ → Bool) (xs : List (Guarded DeclaredType))
    → not (some_holds on (entries_of declared_type_form xs)) ≡ same_types (seen on (entries_of declared_type_form xs)) []
none_there on [] = refl
none_there on (x ∷ xs) = by (value on (condition_of x.when)) (none_there on xs)
  where
    by : (b : Bool) → not (some_holds on (entries_of declared_type_form xs)) ≡ same_types (seen on (entries_of declared_type_form xs)) []
        → not (b || some_holds on (entries_of declared_type_form xs))
        ≡ same_types (if b then declared_type_form x.what ∷ seen on (entries_of declared_type_form xs) else seen on (entries_of declared_type_form xs)) []
    by true h = refl
    by false h = h

pub main_is : (signatures : ℕ → Signature) (v : Option FileName) (d : Bool)
    → (is_so (λ n. not n.internal && is_main (sort_in signatures n.sort)) v && d)
    ≡ elim (option_map (name_in signatures) v) as (λ x. Bool) [ None ↦ false | Some n ↦ not n.internal && is_main n.sort && d ]
main_is signatures None d = refl
main_is signatures (Some n) d = by (not n.internal) (is_main (sort_in signatures n.sort)) d
  where
    by : (a b c : Bool) → ((a && b) && c) ≡ (a && b && c)
    by true b c = refl
    by false b c = refl

pub twice_is : (internal : Bool) (n : ℕ) → (internal && nat_le 2 n) ≡ nat_le 2 (if internal then n else 0)
twice_is true n = refl
twice_is false n = refl
