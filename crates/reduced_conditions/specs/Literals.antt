-- Literals: features, and negations of features.
use Rattle.std.specs.Prelude.{◌≡◌, ℕ, Bool, false, IsTrue, ⊤}
use Rattle.std.specs.Int.{bit_at}
use Rattle.cond_formula.specs.Conditions.{Conditions, none, more, value}
use Rattle.reduced_conditions.specs.declared.literals.Literals.{Literals}

-- the features with these bits are on
abbrev pub AllOn : (ℕ → Bool) → ℕ → Type 0
AllOn on bits = (feature : ℕ) → bit_at bits feature ≡ 1 → IsTrue (on feature)

-- the features with these bits are off
abbrev pub AllOff : (ℕ → Bool) → ℕ → Type 0
AllOff on bits = (feature : ℕ) → bit_at bits feature ≡ 1 → on feature ≡ false

-- all of the literals are true
pub record AreTrue (on : ℕ → Bool) (literals : Literals) : Type 0 where
  pub each_on : AllOn on literals.on
  pub each_off : AllOff on literals.off

-- The literals of a condition that says what another says, whose literals those before are, and something more.
pub record Tells (before after : Literals) (Says : (ℕ → Bool) → Type 0) : Type 0 where
  pub ahead : (on : ℕ → Bool) → AreTrue on before → Says on → AreTrue on after
  pub all : IsTrue after.are_all → IsTrue before.are_all
  pub kept : (on : ℕ → Bool) → AreTrue on after → AreTrue on before
  pub back : IsTrue after.are_all → (on : ℕ → Bool) → AreTrue on after → Says on

-- each of the conditions has the value
abbrev pub EachHas : Bool → (ℕ → Bool) → Conditions → Type 0
EachHas is on none = ⊤
EachHas is on (more part rest) = (value on part ≡ is) × EachHas is on rest

-- a feature that both sets have
pub record Shared (a b : ℕ) : Type 0 where
  pub feature : ℕ
  pub in_one : bit_at a feature ≡ 1
  pub in_other : bit_at b feature ≡ 1

-- the first set has all that the second has
abbrev pub HasAll : ℕ → ℕ → Type 0
HasAll a b = (feature : ℕ) → bit_at b feature ≡ 1 → bit_at a feature ≡ 1

-- what the first set has and the second hasn't
pub record Without (a b rest : ℕ) : Type 0 where
  pub few : HasAll a rest
  pub left : (feature : ℕ) → bit_at a feature ≡ 1 → bit_at b feature ≡ 0 → bit_at rest feature ≡ 1
