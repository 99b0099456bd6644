-- Which features a reader's formulas name: only those with numbers below a bound.
use Rattle.std.specs.Prelude.{ℕ, All, IfSome}
use Rattle.cond_formula.specs.declared.formulas.Formula.{Formula}
use Rattle.cond_formula.specs.Conditions.{VarsBelow, condition_of}
use Rattle.feature_model.specs.declared.reader.Sides.{Sides}
use Rattle.feature_model.specs.declared.reader.Wanting.{Wanting}
use Rattle.feature_model.specs.declared.reader.Place.{Place}
use Rattle.feature_model.specs.declared.reader.Place.TheVariants.{Wants, Has}
use Rattle.feature_model.specs.declared.reader.Reader.{Reader}

abbrev pub IsBelow : ℕ → Formula → Type 0
IsBelow count formula = VarsBelow count (condition_of formula)

pub record SidesBelow (count : ℕ) (s : Sides) : Type 0 where
  pub same : All (IsBelow count) s.same.items
  pub premises : All (IsBelow count) s.premises.items
  pub any : IfSome s.any (IsBelow count)

pub record WantingBelow (count : ℕ) (w : Wanting) : Type 0 where
  pub sides : SidesBelow count w.sides
  pub all : IfSome w.all (IsBelow count)

pub record HasBelow (count : ℕ) (s : Sides) (last : Formula) : Type 0 where
  pub sides : SidesBelow count s
  pub conjuncts : IsBelow count last

abbrev pub PlaceBelow : ℕ → Place → Type 0
PlaceBelow count (Wants w) = WantingBelow count w
PlaceBelow count (Has sides last) = HasBelow count sides last

pub record ReaderBelow (count : ℕ) (r : Reader) : Type 0 where
  pub place : PlaceBelow count r.place
  pub outer : All (WantingBelow count) r.outer.items
