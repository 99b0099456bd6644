use Rattle.std.proofs.Common.{◌+◌, ◌∷◌, ◌++◌, [], List, ℕ, map, take, length, sym, ap, ◌∙◌, Vec, Global, arith}
use Rattle.plain_link.specs.PlainUnits.{plain_unit}
use Rattle.plain_numbers.specs.PlainLinked.{plain_list}
use Rattle.plain_numbers.specs.Numbering.{number_for}
use Rattle.plain_numbers.proofs.NumberLaws.{numbers_taken}
use Rattle.plain_numbers.proofs.numbering.numbers_of.Goals as goal

pub loop-name-preserved : goal.loop-name-preserved
loop-name-preserved c = λ q.
    let text = λ (name : Vec ℕ Global). name.items in
    let order = c.args.unit.now.order.items in
    let before = map text (take c.loop-name.name-index order) in
    let number = λ (names : List (List ℕ)). number_for (plain_list c.args.listing.now) (map (plain_unit 0) c.args.units.now) c.args.functions c.args.index (plain_unit 0 c.args.unit.now) names q in
    let taken = numbers_taken text order c.loop-name.name-index c.name-item.result (omega (arith, ap length c.deref-name-items.ensures.value)) (rw c.deref-name-items.ensures.value at c.name-item.is) in
    c.in_ok-add_number.ensures before c.loop-name.invariant q
    ∙ ap (λ (name : List ℕ). number (before ++ name ∷ [])) c.as_slice.ensures.value
    ∙ ap number (sym taken)
