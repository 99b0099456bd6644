use Rattle.std.proofs.Common.{◌≡◌, ◌+◌, [], ◌∷◌, map, drop, sym, ap, subst, ◌∙◌, Vec, Global, slice_get, arith}
use Rattle.std.specs.Prelude.{Some}
use Rattle.c_tree.specs.Trees.{plain_tree}
use Rattle.core_meaning.specs.Checking.{give}
use Rattle.core_meaning.specs.Entities.{Numbers}
use Rattle.core_meaning.specs.UnitNames.{judged_unit}
use Rattle.core_meaning.specs.Linking.{closed, judged_units}
use Rattle.plain_scope.specs.declared.entities.Struct.{Struct}
use Rattle.plain_link.specs.declared.left.Left.{Left}
use Rattle.plain_scope.specs.PlainScope.{plain_struct}
use Rattle.plain_units.specs.Closing.{plain_numbers, one_judged}
use Rattle.plain_elab.specs.PlainStates.{plain_judged, numbers_at, or_no_numbers}
use Rattle.plain_scope.specs.Judgements.{RefusedAs}
use Rattle.plain_elab.proofs.JudgingLaws.{passed_on, drop_at, found_at, behind_one, behind_refused, units_refused}
use Rattle.plain_elab.proofs.judging.judged.Goals as goal

pub returns-in_err-one : goal.returns-in_err-one
returns-in_err-one c = λ globals.
    let N = numbers_at c.args.numbers.now c.args.texts.now in
    let structs = map plain_struct c.loop-i.structs.items in
    let found : slice_get c.args.numbers.now c.loop-i.i ≡ Some c.in-Some.numbers.now =
    found_at c.args.numbers.now c.loop-i.i c.in-Some.numbers.now c.in-Some.ensures.lookup.3.0 c.in-Some.ensures.lookup.1 in
    let same : N c.loop-i.i ≡ plain_numbers c.in-Some.numbers.now c.args.texts.now = ap (or_no_numbers c.args.texts.now c.loop-i.i) found in
    let tree = plain_tree c.index-units-i.result in
    let rest = map plain_tree (drop (c.loop-i.i + 1) c.args.units.now) in
    let step = drop_at c.args.units.now c.loop-i.i c.index-units-i.result (omega arith) c.index-units-i.is in
    let refusal = rw c.in_err-one.was at (c.judge_unit.ensures globals) in
    let whole = judged_units N globals 0 [] (map plain_tree c.args.units.now) in
    passed_on c.from_residual-in_err-one.result c.in_err-one.field-0.0
    (λ (x : Vec Left Global × Vec Struct Global). whole ≡ give (plain_judged globals x)) (RefusedAs whole)
    c.from_residual-in_err-one.ensures.1
    (rw (c.loop-i.invariant globals, step)
    (behind_refused globals c.loop-i.left.items (judged_units N globals c.loop-i.i structs (tree ∷ rest)) c.in_err-one.field-0.0
    (units_refused N globals c.loop-i.i structs tree rest c.in_err-one.field-0.0
    (subst (λ (n : Numbers). RefusedAs (closed (judged_unit globals structs n tree)) c.in_err-one.field-0.0) (sym same) refusal))))

pub loop-i-preserved : goal.loop-i-preserved
loop-i-preserved c = λ globals.
    let N = numbers_at c.args.numbers.now c.args.texts.now in
    let structs = map plain_struct c.loop-i.structs.items in
    let found : slice_get c.args.numbers.now c.loop-i.i ≡ Some c.in-Some.numbers.now =
    found_at c.args.numbers.now c.loop-i.i c.in-Some.numbers.now c.in-Some.ensures.lookup.3.0 c.in-Some.ensures.lookup.1 in
    let same : N c.loop-i.i ≡ plain_numbers c.in-Some.numbers.now c.args.texts.now = ap (or_no_numbers c.args.texts.now c.loop-i.i) found in
    let tree = plain_tree c.index-units-i.result in
    let rest = map plain_tree (drop (c.loop-i.i + 1) c.args.units.now) in
    let step = drop_at c.args.units.now c.loop-i.i c.index-units-i.result (omega arith) c.index-units-i.is in
    let judged = rw c.in_ok-one.was at (c.judge_unit.ensures globals) in
    rw c.in_ok-push.ensures.items
    (c.loop-i.invariant globals
    ∙ rw step (behind_one N globals c.loop-i.i structs tree rest c.loop-i.left.items c.in_ok-one.one (map plain_struct c.in_ok-one.all.items)
    (subst (λ (n : Numbers). closed (judged_unit globals structs n tree) ≡ give (one_judged globals (c.in_ok-one.one, c.in_ok-one.all))) (sym same) judged)))
