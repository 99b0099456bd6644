-- What is seen of a unit stays true, and what is declared behind a type is still declared then.
use Rattle.std.proofs.Common.{ℕ, Bool, List}
use Rattle.conditional.specs.declared.outcomes.Outcomes.{Outcomes}
use Rattle.conditional_steps.proofs.Alternatives.{Lasts, IsStable}
use Rattle.core_meaning.specs.Checking.{Checked, fine, refused, broken}
use Rattle.core_meaning.specs.Entities.{Struct}
use Rattle.core_meaning.specs.UnitNames.{UnitState}
use Rattle.operand_rules.specs.declared.operands.Refused.{Refused}
use Rattle.type_tables.specs.declared.entries.DeclaredType.{DeclaredType}
use Rattle.cond_units.specs.Seen.{SeenUnit}
use Rattle.cond_units.specs.Declaring.{GoesOn, Judged, DeclaresTyped, Declares}
use Rattle.cond_units.specs.Where.{Stays}

pub staying : Lasts Stays
staying = record {
  same = λ s. record { stays = λ by unit is. is };
  again = λ a b c x y. record { stays = λ by unit is. y.stays by unit (x.stays by unit is) };
}

goes_on_so : (by : ℕ → ℕ) (structs : List Struct) (next : Checked UnitState) (declined : Bool) (a b : SeenUnit) → Stays a b → GoesOn by structs next declined a → GoesOn by structs next declined b
goes_on_so by structs (fine unit bindings) declined a b x h = (h.0, x.stays by unit h.1, h.2)
goes_on_so by structs (refused kind token) declined a b x h = h
goes_on_so by structs broken declined a b x h = h

pub typed_stable : (judged : Judged) (Ready : Type 0) → IsStable Stays (λ ty. DeclaresTyped ty judged Ready)
typed_stable judged Ready = record {
  between = λ ty a b c d declined x h y. record {
    goes_on = λ by unit whole is same there ready. goes_on_so by unit.scope.structs (judged unit whole) declined c d y (h.goes_on by unit whole (x.stays by unit is) same there ready);
  };
}

pub declares_stable : {A : Type 0} (on : ℕ → Bool) (base : Outcomes DeclaredType Refused) (judged : A → Judged) (Ready : A → Type 0) → IsStable Stays (λ what. Declares on base (judged what) (Ready what))
declares_stable on base judged Ready = record {
  between = λ what a b c d declined x h y. record {
    goes_on = λ by unit ty is there shown ready. goes_on_so by unit.scope.structs (judged what unit ty) declined c d y (h.goes_on by unit ty (x.stays by unit is) there shown ready);
  };
}
