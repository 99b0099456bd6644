use Rattle.std.proofs.Common.{◌≡◌, ℕ, List, map, take}
use Rattle.plain_scope.specs.PlainScope.{entry_of}
use Rattle.plain_link.specs.PlainUnits.{plain_unit}
use Rattle.plain_numbers.specs.PlainLinked.{plain_list}
use Rattle.plain_numbers.specs.Numbering.{number_for}
use Rattle.plain_numbers.proofs.numbering.numbers_of.Given as goal

abbrev pub invariant-loop-name : goal.invariant-loop-name
invariant-loop-name l = (q : List ℕ) → entry_of l.numbers q
    ≡ number_for (plain_list l.listing) (map (plain_unit 0) l.units) l.functions l.index (plain_unit 0 l.unit) (map (λ name. name.items) (take l.name-index l.unit.order.items)) q
