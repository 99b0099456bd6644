-- What a reader holds where `on` says which features are on.
use Rattle.std.specs.Prelude.{ℕ, Bool, true, not, List, [], ◌∷◌, map, reverse, Option, Some, None, option_map, if◌then◌else◌, Vec}
use Rattle.std.specs.declared.alloc.Global.{Global}
use Rattle.cond_formula.specs.declared.formulas.Formula.{Formula}
use Rattle.cond_formula.specs.Conditions.{value, condition_of}
use Rattle.feature_model.specs.Reading as plain
use Rattle.feature_model.specs.declared.reader.Sides.{Sides}
use Rattle.feature_model.specs.declared.reader.Wanting.{Wanting}
use Rattle.feature_model.specs.declared.reader.Place.{Place}
use Rattle.feature_model.specs.declared.reader.Place.TheVariants.{Wants, Has}
use Rattle.feature_model.specs.declared.reader.Reader.{Reader}

abbrev pub value_in : (ℕ → Bool) → Formula → Bool
value_in on formula = value on (condition_of formula)

-- a chain of `<->`, which has one value however its operands are grouped
abbrev pub chained : List Bool → Bool
chained [] = true
chained (operand ∷ rest) = if operand then chained rest else not (chained rest)

abbrev pub chain_view : List Bool → Option Bool
chain_view [] = None
chain_view (operand ∷ rest) = Some (chained (operand ∷ rest))

abbrev pub sides_view : (ℕ → Bool) → Sides → plain.Sides Bool
sides_view on s = record {
  same = chain_view (map (value_in on) s.same.items);
  premises = map (value_in on) s.premises.items;
  any = option_map (value_in on) s.any;
}

abbrev pub wanting_view : (ℕ → Bool) → Wanting → plain.Wanting Bool Bool
wanting_view on w = record {
  sides = sides_view on w.sides;
  all = option_map (value_in on) w.all;
  nots = w.inverted;
}

abbrev pub place_view : (ℕ → Bool) → Place → plain.Place Bool Bool
place_view on (Wants w) = plain.wants (wanting_view on w)
place_view on (Has sides last) = plain.has (sides_view on sides) (value_in on last)

abbrev pub outer_view : (ℕ → Bool) → Vec Wanting Global → List (plain.Wanting Bool Bool)
outer_view on outer = reverse (map (wanting_view on) outer.items)

abbrev pub reader_view : (ℕ → Bool) → Reader → plain.Reading Bool Bool
reader_view on r = record { place = place_view on r.place; outer = outer_view on r.outer }
