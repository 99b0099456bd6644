use Rattle.std.proofs.Common.{◌≡◌, ℕ, ◌-◌, ◌≤◌, nat_le, length, subst, sym, ap, ◌∙◌, arith}
use Rattle.std.proofs.lemmas.Bool.Decides.{nat_tests}
use Rattle.cond_formula.specs.Conditions.{condition_of, value}
use Rattle.c_tree.specs.Heights.{highest_of}
use Rattle.choice_trees.specs.ChoiceTrees.{plain_item, plain_branches, plain_choices, branch_at, parts_at}
use Rattle.choice_trees.specs.Depths.{depth, branches_depth, choices_depth}
use Rattle.choice_trees.proofs.Depths.{branch_within, choice_within}
use Rattle.forest_heights.specs.Levels.{height_or}
use Rattle.forest_heights.proofs.Choosing.{starts, one_alternative}
use Rattle.forest_heights.proofs.Telling.{within}
use Rattle.forest_heights.proofs.Reaching.{zero_reached, none_reached, one_part, no_levels, nothing_lower}
use Rattle.forest_heights.proofs.heights.+reach.Goals as goal
use Rattle.forest_heights.proofs.heights.+reach.Goals.{level_reaches-then-is_empty-via-then-is_empty, level_reaches-then-is_empty-via-else-is_empty+then-is_never}

pub choice_reaches-loop-when-init : goal.choice_reaches-loop-when-init
choice_reaches-loop-when-init t c = λ on. starts on (λ part. nat_le c.args.high (height_or c.args.missing part)) c.deref-when-items.result.now

pub choice_reaches-item_reaches-requires : goal.choice_reaches-item_reaches-requires
choice_reaches-item_reaches-requires t c =
    let deep : depth (plain_item c.loop-when-item.result.1) ≤ branches_depth (plain_branches c.args.choice.now.branches.items) =
    subst (λ list. depth (plain_item c.loop-when-item.result.1) ≤ branches_depth (plain_branches list)) c.deref-when-items.ensures.value
    (subst (λ alternative. depth (plain_item alternative.1) ≤ branches_depth (plain_branches c.deref-when-items.result.now)) (sym c.loop-when-item.is)
    (branch_within c.deref-when-items.result.now c.loop-when.when-index c.loop-when-item.result c.loop-when-test.true)) in
    (omega (arith, deep, c.decreases), tt)

pub choice_reaches-loop-when-preserved : goal.choice_reaches-loop-when-preserved
choice_reaches-loop-when-preserved t c = λ on.
    one_alternative on (λ part. nat_le c.args.high (height_or c.args.missing part)) c.deref-when-items.result.now
    c.loop-when.when-index c.loop-when-item.result c.loop-when-test.true c.loop-when-item.is
    c.loop-when.reached c.loop-when.left c.in_ok-reached.reached c.in_ok-left.left c.in_ok-here.here
    (c.in_ok-here.ensures on) (c.in_ok-reached.ensures on) (c.in_ok-left.ensures on) (c.loop-when.invariant on)

pub level_reaches-returns-then-is_empty : goal.level_reaches-returns-then-is_empty
level_reaches-returns-then-is_empty t c = λ on count tell.
    let few : count ≤ length c.args.levels.now = within on c.args.levels.now count tell in
    let lowest : value on (condition_of c.in_ok-lowest.lowest) ≡ nat_le (c.args.high - length c.args.levels.now) (highest_of (parts_at on c.args.kind 0 (plain_choices c.args.parts.now))) =
    c.in_ok-lowest.ensures on ∙ ap (λ (n : ℕ). nat_le n (highest_of (parts_at on c.args.kind 0 (plain_choices c.args.parts.now)))) c.saturating_sub.ensures in
    elim c.then-is_empty.branch [
      | level_reaches-then-is_empty-via-then-is_empty w ↦
          lowest ∙ no_levels c.args.high (length c.args.levels.now) count (highest_of (parts_at on c.args.kind 0 (plain_choices c.args.parts.now))) few
          (grind (arith, nat_tests, c.is_empty.ensures, w.if-is_empty.true))
      | level_reaches-then-is_empty-via-else-is_empty+then-is_never w ↦
          let never = w.is_never.ensures w.if-is_never.true on in
          never ∙ nothing_lower c.args.high (length c.args.levels.now) count (highest_of (parts_at on c.args.kind 0 (plain_choices c.args.parts.now))) few (sym lowest ∙ never)
    ]

pub part_reaches-returns-then-high-eq0 : goal.part_reaches-returns-then-high-eq0
part_reaches-returns-then-high-eq0 t c = λ on. zero_reached on c.args.high (highest_of (parts_at on c.args.kind 0 (plain_choices c.args.parts.now))) c.if-high-eq0.true

pub part_reaches-loop-place-init : goal.part_reaches-loop-place-init
part_reaches-loop-place-init t c = λ on. none_reached on c.args.kind c.args.high c.args.parts.now

pub part_reaches-choice_reaches-requires : goal.part_reaches-choice_reaches-requires
part_reaches-choice_reaches-requires t c =
    let deep : branches_depth (plain_branches c.index-parts-place.result.branches.items) ≤ choices_depth (plain_choices c.args.parts.now) =
    subst (λ part. branches_depth (plain_branches part.branches.items) ≤ choices_depth (plain_choices c.args.parts.now)) (sym c.index-parts-place.is)
    (choice_within c.args.parts.now c.loop-place.place c.index-parts-place.result c.loop-place-test.true) in
    (omega (arith, deep, c.decreases), tt)

pub part_reaches-loop-place-preserved : goal.part_reaches-loop-place-preserved
part_reaches-loop-place-preserved t c = λ on.
    one_part on c.args.kind c.args.high c.args.parts.now c.loop-place.place c.index-parts-place.result c.loop-place-test.true c.index-parts-place.is
    c.loop-place.reached c.in_ok-here.here c.in_ok-reached.reached
    (c.in_ok-here.ensures on ∙ ap (λ (n : ℕ). nat_le c.args.high (height_or n (branch_at on (plain_branches c.index-parts-place.result.branches.items)))) c.missing_height.ensures)
    (c.in_ok-reached.ensures on) (c.loop-place.invariant on)
