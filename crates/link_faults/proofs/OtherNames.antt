-- Names that no unit uses or defines.
use Rattle.std.proofs.Common.{◌≡◌, ℕ, ◌+◌, nat_le, Bool, true, false, not, ◌&&◌, ◌||◌, ◌==◌, List, [], ◌∷◌, refl, ap, ap₂, ◌∙◌}
use Rattle.std.specs.Prelude.{is_some, if◌then◌else◌}
use Rattle.std.specs.List.{list_any}
use Rattle.core_meaning.specs.Linking.{Unit, is_internal, defines, count_defined, count_external, count_in_unit, is_available, is_duplicate, built_in_named}
use Rattle.link_faults.specs.SeenUnits.{is_undefined}
use Rattle.link_faults.proofs.Entries.{whole_undefined}

abbrev pub names : List ℕ → Unit → Bool
names name unit = unit.uses name || defines unit name

either_not : (a b : Bool) → (a || b) ≡ false → (a ≡ false) × (b ≡ false)
either_not true b h = absurd cc
either_not false b h = (refl, h)

-- a test that fails where a unit doesn't name the name
none_so : (p : Unit → Bool) (name : List ℕ) → ((unit : Unit) → names name unit ≡ false → p unit ≡ false) → (units : List Unit) → list_any (names name) units ≡ false → list_any p units ≡ false
none_so p name each [] h = refl
none_so p name each (unit ∷ units) h =
    let parts = either_not (names name unit) (list_any (names name) units) h in
    ap₂ (λ (a b : Bool). a || b) (each unit parts.0) (none_so p name each units parts.1)

not_counted : (unit : Unit) (name : List ℕ) → names name unit ≡ false → count_defined unit name ≡ 0
not_counted unit name h =
    let undefined : defines unit name ≡ false = (either_not (unit.uses name) (defines unit name) h).1 in
    ap₂ (λ (n : ℕ) (b : Bool). if n == 0 && b then 1 else n) (whole_undefined unit.defined name undefined) undefined

none_external : (name : List ℕ) (units : List Unit) → list_any (names name) units ≡ false → count_external units name ≡ 0
none_external name [] h = refl
none_external name (unit ∷ units) h =
    let parts = either_not (names name unit) (list_any (names name) units) h in
    ap₂ (λ (n m : ℕ). (if is_internal unit name then 0 else n) + m) (not_counted unit name parts.0) (none_external name units parts.1)
    ∙ nothing (is_internal unit name)
  where
    nothing : (b : Bool) → (if b then 0 else 0) + 0 ≡ 0
    nothing true = refl
    nothing false = refl

none_within : (name : List ℕ) (unit : Unit) → names name unit ≡ false → nat_le 2 (count_in_unit unit name) ≡ false
none_within name unit h = ap (λ n. nat_le 2 (if is_internal unit name then n else 0)) (not_counted unit name h) ∙ nothing (is_internal unit name)
  where
    nothing : (b : Bool) → nat_le 2 (if b then 0 else 0) ≡ false
    nothing true = refl
    nothing false = refl

pub not_undefined : (name : List ℕ) (units : List Unit) → list_any (names name) units ≡ false → list_any (is_undefined units name) units ≡ false
not_undefined name units h =
    none_so (is_undefined units name) name
    (λ unit k. ap (λ b. b && not (is_available units unit name)) (either_not (unit.uses name) (defines unit name) k).0) units h

pub not_duplicate : (name : List ℕ) (units : List Unit) → list_any (names name) units ≡ false → is_duplicate units name ≡ false
not_duplicate name units h =
    ap₂ (λ (n : ℕ) (b : Bool). nat_le 2 n || b || is_some (built_in_named name) && nat_le 1 n) (none_external name units h)
    (none_so (λ unit. nat_le 2 (count_in_unit unit name)) name (none_within name) units h)
    ∙ never (is_some (built_in_named name))
  where
    never : (b : Bool) → (nat_le 2 0 || false || b && nat_le 1 0) ≡ false
    never true = refl
    never false = refl
