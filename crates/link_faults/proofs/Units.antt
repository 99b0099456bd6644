-- Units that are present, one more at a time.
use Rattle.std.proofs.Common.{◌≡◌, ℕ, ◌+◌, Bool, true, false, not, ◌&&◌, ◌||◌, List, [], ◌∷◌, map, refl, sym, ap, arith}
use Rattle.std.specs.Prelude.{filter, if◌then◌else◌}
use Rattle.std.specs.List.{list_any}
use Rattle.cond_formula.specs.Conditions.{condition_of, value}
use Rattle.core_meaning.specs.Linking.{Unit, is_internal, count_defined, count_external}
use Rattle.type_tables.specs.declared.tables.Tables.{Tables}
use Rattle.link_faults.specs.declared.left.LeftUnit.{LeftUnit}
use Rattle.link_faults.specs.SeenUnits.{unit_seen, units_seen, is_present}
use Rattle.link_faults.proofs.Loops.{or_none}

module _ (on : ℕ → Bool) (tables : Tables) where
  pub any_split : (p : Unit → Bool) (x : LeftUnit) (xs : List LeftUnit) → list_any p (units_seen on tables (x ∷ xs)) ≡ (list_any p (units_seen on tables (x ∷ [])) || list_any p (units_seen on tables xs))
  any_split p x xs = by (is_present on x)
    where
      by : (b : Bool) → list_any p (map (unit_seen on tables) (if b then x ∷ filter (is_present on) xs else filter (is_present on) xs))
          ≡ (list_any p (map (unit_seen on tables) (if b then x ∷ [] else [])) || list_any p (units_seen on tables xs))
      by true = sym (ap (λ b. b || list_any p (units_seen on tables xs)) (or_none (p (unit_seen on tables x))))
      by false = refl

  pub any_one : (p : Unit → Bool) (x : LeftUnit) → list_any p (units_seen on tables (x ∷ [])) ≡ (value on (condition_of x.when) && p (unit_seen on tables x))
  any_one p x = by (is_present on x)
    where
      by : (b : Bool) → list_any p (map (unit_seen on tables) (if b then x ∷ [] else [])) ≡ (b && p (unit_seen on tables x))
      by true = or_none (p (unit_seen on tables x))
      by false = refl

  pub external_split : (name : List ℕ) (x : LeftUnit) (xs : List LeftUnit)
      → count_external (units_seen on tables (x ∷ xs)) name ≡ count_external (units_seen on tables (x ∷ [])) name + count_external (units_seen on tables xs) name
  external_split name x xs = by (is_present on x)
    where
      by : (b : Bool) → count_external (map (unit_seen on tables) (if b then x ∷ filter (is_present on) xs else filter (is_present on) xs)) name
          ≡ count_external (map (unit_seen on tables) (if b then x ∷ [] else [])) name + count_external (units_seen on tables xs) name
      by true = omega arith
      by false = omega arith

  pub external_one : (name : List ℕ) (x : LeftUnit) → count_external (units_seen on tables (x ∷ [])) name
      ≡ (if value on (condition_of x.when) && not (is_internal (unit_seen on tables x) name) then count_defined (unit_seen on tables x) name else 0)
  external_one name x = by (is_present on x)
    where
      there : (i : Bool) (n : ℕ) → (if i then 0 else n) + 0 ≡ (if not i then n else 0)
      there true n = refl
      there false n = omega arith

      by : (b : Bool) → count_external (map (unit_seen on tables) (if b then x ∷ [] else [])) name
          ≡ (if b && not (is_internal (unit_seen on tables x) name) then count_defined (unit_seen on tables x) name else 0)
      by true = there (is_internal (unit_seen on tables x) name) (count_defined (unit_seen on tables x) name)
      by false = refl
