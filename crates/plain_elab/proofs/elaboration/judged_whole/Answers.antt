use Rattle.std.proofs.Common.{◌≡◌, ℕ, [], List, map, length, false, sym, ap, subst, ◌∙◌}
use Rattle.std.specs.Str.{bytes_eq}
use Rattle.c_tree.specs.Trees.{plain_tree}
use Rattle.core_meaning.specs.Checking.{give}
use Rattle.core_meaning.specs.Linking.{judged_program, literals_of, no_numbers, listed, numbers_in, place_where}
use Rattle.plain_scope.specs.PlainScope.{entry_of}
use Rattle.plain_scope.specs.Judgements.{RefusedAs}
use Rattle.plain_scope.specs.declared.entities.Numbers.{Numbers as RustNumbers}
use Rattle.plain_link.specs.declared.left.Left.{Left}
use Rattle.plain_link.specs.PlainUnits.{plain_unit, plain_units}
use Rattle.plain_numbers.specs.Numbering.{AreNumbered}
use Rattle.plain_elab.specs.PlainStates.{plain_judged, numbers_at}
use Rattle.plain_elab.specs.declared.elaboration.Whole.{Whole}
use Rattle.plain_elab.proofs.JudgingLaws.{passed_on}
use Rattle.plain_elab.proofs.NumberLaws.{numbered_are}
use Rattle.plain_elab.proofs.WholeLaws.{whole_given, whole_refused}
use Rattle.plain_elab.proofs.elaboration.judged_whole.Goals as goal

pub returns-in_err-units : goal.returns-in_err-units
returns-in_err-units c =
    let trees = map plain_tree c.args.units.now in
    let first = plain_judged 0 (c.in_ok-first.first, c.in_ok-first.field-0-1) in
    let us = map (plain_unit 0) c.in_ok-first.first.items in
    let N = numbers_at c.as_slice-2.result.now c.args.texts.now.numbers in
    let judged_once = rw c.in_ok-first.was at c.judged_first.ensures in
    let placed : (bytes : List ℕ) → entry_of c.args.texts.now.numbers bytes ≡ place_where (bytes_eq bytes) (literals_of trees) =
    λ bytes. c.requires.numbered bytes ∙ ap (place_where (bytes_eq bytes)) c.requires.texts in
    let are : AreNumbered us 0 c.in_ok-numbers.numbers.items us =
    subst (λ (left : List Left). AreNumbered (map (plain_unit 0) left) 0 c.in_ok-numbers.numbers.items (map (plain_unit 0) left)) c.as_slice.ensures.value c.in_ok-numbers.ensures.numbers in
    let numbers : N ≡ numbers_in us (literals_of trees) =
    numbered_are c.args.texts.now.numbers (literals_of trees) us c.as_slice-2.result.now placed
    (subst (λ (ns : List RustNumbers). AreNumbered us 0 ns us) (sym c.as_slice-2.ensures.value) are) in
    let count : c.in_ok-numbers.objects ≡ length (listed us false) =
    c.in_ok-numbers.ensures.count ∙ ap (λ (left : List Left). length (listed (map (plain_unit 0) left) false)) c.as_slice.ensures.value in
    let refusal = rw c.in_err-units.was at (c.judged.ensures c.in_ok-numbers.objects) in
    passed_on c.from_residual-in_err-units.result c.in_err-units.field-0.0
    (λ (whole : Whole). (judged_program trees ≡ give (plain_units whole.objects whole.units.items whole.structs.items)) × (whole.objects ≡ length (listed (map (plain_unit 0) whole.units.items) false))) (RefusedAs (judged_program trees))
    c.from_residual-in_err-units.ensures.1
    (whole_refused trees first N c.in_ok-numbers.objects c.in_err-units.field-0.0 judged_once numbers count refusal)

pub returns : goal.returns
returns c =
    let trees = map plain_tree c.args.units.now in
    let first = plain_judged 0 (c.in_ok-first.first, c.in_ok-first.field-0-1) in
    let us = map (plain_unit 0) c.in_ok-first.first.items in
    let N = numbers_at c.as_slice-2.result.now c.args.texts.now.numbers in
    let judged_once = rw c.in_ok-first.was at c.judged_first.ensures in
    let placed : (bytes : List ℕ) → entry_of c.args.texts.now.numbers bytes ≡ place_where (bytes_eq bytes) (literals_of trees) =
    λ bytes. c.requires.numbered bytes ∙ ap (place_where (bytes_eq bytes)) c.requires.texts in
    let are : AreNumbered us 0 c.in_ok-numbers.numbers.items us =
    subst (λ (left : List Left). AreNumbered (map (plain_unit 0) left) 0 c.in_ok-numbers.numbers.items (map (plain_unit 0) left)) c.as_slice.ensures.value c.in_ok-numbers.ensures.numbers in
    let numbers : N ≡ numbers_in us (literals_of trees) =
    numbered_are c.args.texts.now.numbers (literals_of trees) us c.as_slice-2.result.now placed
    (subst (λ (ns : List RustNumbers). AreNumbered us 0 ns us) (sym c.as_slice-2.ensures.value) are) in
    let count : c.in_ok-numbers.objects ≡ length (listed us false) =
    c.in_ok-numbers.ensures.count ∙ ap (λ (left : List Left). length (listed (map (plain_unit 0) left) false)) c.as_slice.ensures.value in
    let judged = rw c.in_ok-units.was at (c.judged.ensures c.in_ok-numbers.objects) in
    let again = rw c.in_ok-units.was at (c.judged.ensures 0) in
    let alike : listed us false ≡ listed (map (plain_unit 0) c.in_ok-units.units.items) false =
    c.judgings_list_alike.ensures no_numbers N 0 0 trees first (plain_judged 0 (c.in_ok-units.units, c.in_ok-units.structs)) [] [] judged_once again false in (
      whole_given trees first (plain_judged c.in_ok-numbers.objects (c.in_ok-units.units, c.in_ok-units.structs)) N c.in_ok-numbers.objects judged_once numbers count judged,
      count ∙ ap length alike,
    )
