use Rattle.std.proofs.Common.{◌≡◌, ℕ, [], map, sym, ap, subst, ◌∙◌, Vec, Global}
use Rattle.c_tree.specs.Trees.{plain_tree}
use Rattle.core_meaning.specs.Checking.{give}
use Rattle.core_meaning.specs.Entities.{Numbers}
use Rattle.core_meaning.specs.Linking.{judged_units, no_numbers}
use Rattle.plain_scope.specs.Judgements.{RefusedAs}
use Rattle.plain_scope.specs.declared.entities.Struct.{Struct}
use Rattle.plain_link.specs.declared.left.Left.{Left}
use Rattle.plain_elab.specs.PlainStates.{plain_judged, numbers_at, HaveNoNumbers}
use Rattle.plain_elab.proofs.JudgingLaws.{passed_on}
use Rattle.plain_elab.proofs.NumberLaws.{unnumbered_are}
use Rattle.plain_elab.proofs.elaboration.judged_first.Goals as goal

pub returns-in_err-first : goal.returns-in_err-first
returns-in_err-first c =
    let trees = map plain_tree c.args.units.now in
    let none : numbers_at c.as_slice.result.now c.new-texts.result ≡ no_numbers =
    unnumbered_are c.as_slice.result.now c.new-texts.result (subst HaveNoNumbers (sym c.as_slice.ensures.value) c.in_ok-none.ensures.none) c.new-texts.ensures.empty in
    let refusal = rw c.in_err-first.was at (c.judged.ensures 0) in
    passed_on c.from_residual-in_err-first.result c.in_err-first.field-0.0
    (λ (x : Vec Left Global × Vec Struct Global). judged_units no_numbers 0 0 [] trees ≡ give (plain_judged 0 x)) (RefusedAs (judged_units no_numbers 0 0 [] trees))
    c.from_residual-in_err-first.ensures.1
    (subst (λ (n : ℕ → Numbers). RefusedAs (judged_units n 0 0 [] trees) c.in_err-first.field-0.0) none refusal)

pub returns : goal.returns
returns c =
    let trees = map plain_tree c.args.units.now in
    let none : numbers_at c.as_slice.result.now c.new-texts.result ≡ no_numbers =
    unnumbered_are c.as_slice.result.now c.new-texts.result (subst HaveNoNumbers (sym c.as_slice.ensures.value) c.in_ok-none.ensures.none) c.new-texts.ensures.empty in
    let judged = rw c.in_ok-first.was at (c.judged.ensures 0) in
    ap (λ (n : ℕ → Numbers). judged_units n 0 0 [] trees) (sym none) ∙ judged
