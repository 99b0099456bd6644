-- What is declared of an item is still declared where what is seen stays true before and behind it.
use Rattle.std.proofs.Common.{ℕ, Bool, List}
use Rattle.conditional_steps.proofs.Alternatives.{IsStable}
use Rattle.core_meaning.specs.Checking.{Checked, fine, refused, broken}
use Rattle.core_meaning.specs.Entities.{Struct}
use Rattle.core_meaning.specs.UnitNames.{UnitState}
use Rattle.cond_units.specs.Seen.{SeenUnit}
use Rattle.cond_units.specs.Where.{Stays}
use Rattle.cond_units.specs.Items.{ItemGoesOn, DeclaresItem}

goes_on_so : (by : ℕ → ℕ) (structs : List Struct) (next : Checked UnitState) (declined : Bool) (a b : SeenUnit) → Stays a b → ItemGoesOn by structs next declined a → ItemGoesOn by structs next declined b
goes_on_so by structs (fine unit bindings) declined a b x h = (h.0, record { numbers = h.1.numbers; is_unit = x.stays h.1.numbers unit h.1.is_unit; kept = h.1.kept })
goes_on_so by structs (refused kind token) declined a b x h = h
goes_on_so by structs broken declined a b x h = h

pub item_stable : {A : Type 0} (judged : A → UnitState → Checked UnitState) (Ready : A → Type 0) → IsStable Stays (λ x. DeclaresItem (judged x) (Ready x))
item_stable judged Ready = record {
  between = λ x a b c d declined before h behind. record {
    goes_on = λ by unit is ready. goes_on_so by unit.scope.structs (judged x unit) declined c d behind (h.goes_on by unit (before.stays by unit is) ready);
  };
}
