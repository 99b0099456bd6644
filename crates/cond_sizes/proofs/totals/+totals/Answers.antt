use Rattle.std.proofs.Common.{◌≡◌, ◌+◌, ◌≤◌, ◌/◌, ◌++◌, length, sym, ap, ap₂, ◌∙◌, subst, arith}
use Rattle.std.proofs.lemmas.Bool.Decides.{nat_tests}
use Rattle.std.proofs.lemmas.List.{take-append-drop}
use Rattle.cond_formula.specs.Features.{has}
use Rattle.cond_formula.specs.Conditions.{value}
use Rattle.conditional.specs.Judgements.{fine}
use Rattle.choice_trees.specs.ChoiceTrees.{plain_choices, parts_at}
use Rattle.cond_sizes.specs.Sizes.{ShowsCount}
use Rattle.cond_sizes.specs.Totals.{total}
use Rattle.cond_sizes.proofs.Adding.{total_of_both}
use Rattle.cond_sizes.proofs.totals.+totals.Goals as goal

pub totals-requires : goal.totals-requires
totals-requires g t c κs within =
    let some : 1 ≤ length c.args.parts.now = grind (arith, nat_tests, c.is_empty.ensures, c.if-is_empty.false) in
    (omega (arith, some, c.split_at.ensures.front_len, c.decreases), (within.0, (within.1, omega (arith, c.split_at.ensures.front_len, c.requires))))

pub totals-requires-2 : goal.totals-requires-2
totals-requires-2 g t c κs within =
    let some : 1 ≤ length c.args.parts.now = grind (arith, nat_tests, c.is_empty.ensures, c.if-is_empty.false) in (
      omega (arith, some, c.if-parts-eq1.false, c.split_at.ensures.back_len, c.decreases),
      (within.0, (within.1, omega (arith, some, c.split_at.ensures.front_len, c.split_at.ensures.back_len, c.requires))),
    )

pub returns-clause-shows : goal.returns-clause-shows
returns-clause-shows g t c = λ n admitted.
    let whole : c.split_at.result.0.now ++ c.split_at.result.1.now ≡ c.args.parts.now =
    ap₂ (λ a b. a ++ b) c.split_at.ensures.front c.split_at.ensures.back ∙ take-append-drop (length c.args.parts.now / 2) c.args.parts.now in
    subst (λ s. ShowsCount (has n) s c.in_ok-both.both)
    (sym (ap (λ list. total (g.M.Measure.measure c.args.measure.now) (parts_at (has n) c.args.kind c.args.place (plain_choices list))) (sym whole)
    ∙ total_of_both (g.M.Measure.measure c.args.measure.now) (has n) c.args.kind c.args.place c.split_at.result.0.now c.split_at.result.1.now))
    (c.in_ok-both.ensures.shows (λ a b. fine (a + b)) (record { computes = λ x y r is. is }) n (ap (value (has n)) (c.in_ok-second.ensures.kept ∙ c.in_ok-first.ensures.kept) ∙ admitted)
    (total (g.M.Measure.measure c.args.measure.now) (parts_at (has n) c.args.kind c.args.place (plain_choices c.split_at.result.0.now)))
    (total (g.M.Measure.measure c.args.measure.now) (parts_at (has n) c.args.kind (c.args.place + length c.split_at.result.0.now) (plain_choices c.split_at.result.1.now)))
    (c.in_ok-first.ensures.shows n admitted) (c.in_ok-second.ensures.shows n (ap (value (has n)) c.in_ok-first.ensures.kept ∙ admitted)))
