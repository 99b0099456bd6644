use Rattle.std.proofs.Common.{◌≡◌, ◌≤◌, false, [], ◌∷◌, refl, sym, ap, ◌∙◌, subst, arith}
use Rattle.std.proofs.lemmas.Result.{IfOk-weaker}
use Rattle.cond_formula.specs.Features.{has}
use Rattle.cond_formula.specs.Conditions.{value}
use Rattle.c_tree.specs.declared.kinds.Kind.TheVariants as k
use Rattle.c_tree.specs.Trees.{node, none}
use Rattle.conditional.specs.Entries.{Stands}
use Rattle.choice_trees.specs.ChoiceTrees.{plain_branches, plain_choices, with_part, branch_at, parts_at}
use Rattle.choice_trees.specs.Depths.{branches_depth, choices_depth}
use Rattle.choice_trees.proofs.Depths.{choice_within}
use Rattle.choice_variants.specs.Variants.{before, part_depth, shown, AreAllLow}
use Rattle.expression_types.specs.Reading as spec
use Rattle.cond_nodes.specs.declared.parts.CondParts.{CondParts}
use Rattle.cond_nodes.specs.Reads.{ShowsRead, EachRead, ShowsEach, ShowsParts}
use Rattle.cond_typing.proofs.Pushed.{operand_pushed}
use Rattle.cond_typing.specs.declared.roles.Role.TheVariants.{Operand}
use Rattle.cond_typing.specs.Readings.{node_of, arguments_in}
use Rattle.cond_typing.specs.Progress.{ShowsSoFar, ArgumentSoFar}
use Rattle.cond_typing.proofs.KindsOfNodes.{ToldBy, told_by, PlaysRole, plays_role}
use Rattle.cond_typing.proofs.NullConstants.{each_outcome, of_parts}
use Rattle.cond_typing.proofs.PartsBehindParts.{parts_depth, part_within, low_variant, one_part, all_parts, one_argument}
use Rattle.cond_typing.proofs.VariantsPlaced.{none_placed, next_placed, all_placed}
use Rattle.cond_typing.proofs.ArgumentsPlaced.{argument_read, next_argument, all_arguments}
use Rattle.cond_typing.proofs.expressions.+reading.Goals as goal

-- ---- nodes

pub read_node-returns-then-is_texts-clause-shows : goal.read_node-returns-then-is_texts-clause-shows
read_node-returns-then-is_texts-clause-shows g t c =
    let told : c.args.kind ≡ k.Texts = subst (ToldBy c.args.kind) (sym c.is_texts.ensures ∙ c.if-is_texts.true) (told_by c.args.kind) in
    IfOk-weaker c.texts.result _ _ (λ z shows n right admitted.
    subst (λ kind. ShowsRead (has n) (g.K.Knowledge.callable c.args.known.now n) (spec.read_expression (g.K.Knowledge.known c.args.known.now n) (node kind (parts_at (has n) kind 0 (plain_choices c.args.parts.now)))) z) (sym told)
    (shows n (g.K.Knowledge.callable c.args.known.now n) (g.K.Knowledge.known c.args.known.now n) admitted)) c.texts.ensures.shows

pub read_node-returns-else-is_texts-clause-shows : goal.read_node-returns-else-is_texts-clause-shows
read_node-returns-else-is_texts-clause-shows g t c =
    let told : ToldBy c.args.kind false = subst (ToldBy c.args.kind) (sym c.is_texts.ensures ∙ c.if-is_texts.false) (told_by c.args.kind) in
    IfOk-weaker c.read_variants.result _ _ (λ z shows n right admitted.
    let known = g.K.Knowledge.known c.args.known.now n in
    let parts = parts_at (has n) c.args.kind 0 (plain_choices c.args.parts.now) in
    subst (λ r. ShowsRead (has n) (g.K.Knowledge.callable c.args.known.now n) r z) (told known parts (spec.read_parts known c.args.kind parts spec.nothing_read)) (shows n right admitted)) c.read_variants.ensures.shows

-- ---- variants

pub read_variants-loop-variant-init : goal.read_variants-loop-variant-init
read_variants-loop-variant-init g t c = record {
  kept = c.in_ok-variants.ensures.kept;
  so_far = λ n right admitted.
      let known = g.K.Knowledge.known c.args.known.now n in
      let callable = g.K.Knowledge.callable c.args.known.now n in
      let trees = parts_at (has n) c.args.kind 0 (plain_choices c.args.parts.now) in
      none_placed (has n) (node_of known c.args.kind) (λ held all. ShowsSoFar (has n) callable (node_of known c.args.kind trees) held all) trees c.deref-variant-items.result.now c.nothing-all.result
      (c.nothing-all.ensures (has n) callable (node_of known c.args.kind trees))
      (subst (λ vs. Stands (has n) trees (shown (has n) vs)) (sym c.deref-variant-items.ensures.value) (c.in_ok-variants.ensures.stands n admitted));
}

pub read_variants-read_variant-requires : goal.read_variants-read_variant-requires
read_variants-read_variant-requires g t c =
    let low : parts_depth c.deref.result.now ≤ choices_depth (plain_choices c.args.parts.now) =
    low_variant (choices_depth (plain_choices c.args.parts.now)) c.in_ok-variants.variants.items c.deref-variant-items.result.now c.loop-variant.variant-index c.variant-item.result c.deref.result.now
    c.in_ok-variants.ensures.low c.deref-variant-items.ensures.value c.loop-variant-test.true c.variant-item.is c.deref.ensures.value in
    λ κs lives. (omega (arith, low, c.decreases), lives)

pub read_variants-loop-variant-preserved : goal.read_variants-loop-variant-preserved
read_variants-loop-variant-preserved g t c = record {
  kept = c.in_ok-read.ensures.kept ∙ c.loop-variant.invariant.kept;
  so_far = λ n right admitted.
      let known = g.K.Knowledge.known c.args.known.now n in
      let callable = g.K.Knowledge.callable c.args.known.now n in
      let trees = parts_at (has n) c.args.kind 0 (plain_choices c.args.parts.now) in
      next_placed (has n) (node_of known c.args.kind) (λ held all. ShowsSoFar (has n) callable (node_of known c.args.kind trees) held all) trees c.deref-variant-items.result.now
      c.loop-variant.variant-index c.variant-item.result c.loop-variant.all c.place.new.self c.loop-variant-test.true c.variant-item.is (c.loop-variant.invariant.so_far n right admitted)
      (λ held also so_far. c.in_ok-place.ensures (has n) callable (node_of known c.args.kind trees) (node_of known c.args.kind (before (has n) c.variant-item.result.parts.items none)) held
      (subst (λ ps. ShowsRead (has n) callable (node_of known c.args.kind (before (has n) ps none)) c.in_ok-read.read) c.deref.ensures.value
      (c.in_ok-read.ensures.shows n right (ap (value (has n)) c.loop-variant.invariant.kept ∙ admitted))) also so_far);
}

pub read_variants-returns-clause-shows : goal.read_variants-returns-clause-shows
read_variants-returns-clause-shows g t c =
    IfOk-weaker c.read.result _ _ (λ z reads n right admitted.
    let known = g.K.Knowledge.known c.args.known.now n in
    let callable = g.K.Knowledge.callable c.args.known.now n in
    let trees = parts_at (has n) c.args.kind 0 (plain_choices c.args.parts.now) in
    reads (has n) callable (node_of known c.args.kind trees)
    (all_placed (has n) (node_of known c.args.kind) (λ held all. ShowsSoFar (has n) callable (node_of known c.args.kind trees) held all) trees c.deref-variant-items.result.now
    c.loop-variant.variant-index c.loop-variant.all c.loop-variant-test.false (c.loop-variant.invariant.so_far n right admitted)
    (subst (λ vs. Stands (has n) trees (shown (has n) vs)) (sym c.deref-variant-items.ensures.value) (c.in_ok-variants.ensures.stands n admitted)))) c.read.ensures

pub read_variant-returns-clause-shows : goal.read_variant-returns-clause-shows
read_variant-returns-clause-shows g t c =
    IfOk-weaker c.node_read.result _ _ (λ z shows n right admitted.
    let known = g.K.Knowledge.known c.args.known.now n in
    let parts = before (has n) c.args.parts.now none in
    shows n (spec.read_parts known c.args.kind parts spec.nothing_read) right (ap (value (has n)) c.in_ok-parts.ensures.kept ∙ admitted) (c.in_ok-parts.ensures.shows n right admitted)
    (each_outcome (spec.read_parts known c.args.kind parts spec.nothing_read).operands
    (of_parts known (g.K.Knowledge.numbers c.args.known.now n right) c.args.kind parts spec.nothing_read tt))) c.node_read.ensures.shows

-- ---- parts

pub read_parts-loop-part-init : goal.read_parts-loop-part-init
read_parts-loop-part-init g t c = record {
  kept = refl;
  so_far = λ n right admitted. record { parts = spec.nothing_read; shows = c.in_ok-all.ensures (has n) (g.K.Knowledge.callable c.args.known.now n); same = refl };
}

pub read_parts-push_part-requires : goal.read_parts-push_part-requires
read_parts-push_part-requires g t c =
    let low : part_depth c.part-item.result ≤ parts_depth c.args.parts.now =
    subst (λ part. part_depth part ≤ parts_depth c.args.parts.now) (sym c.part-item.is) (part_within c.args.parts.now c.loop-part.part-index c.part-item.result c.loop-part-test.true) in
    λ κs lives. (omega (arith, low, c.decreases), lives)

pub read_parts-loop-part-preserved : goal.read_parts-loop-part-preserved
read_parts-loop-part-preserved g t c = record {
  kept = c.in_ok-push_part.ensures.kept ∙ c.loop-part.invariant.kept;
  so_far = λ n right admitted.
      one_part (g.K.Knowledge.known c.args.known.now n) (has n) (g.K.Knowledge.callable c.args.known.now n) c.args.kind (before (has n) c.args.parts.now none) c.args.parts.now c.loop-part.part-index c.part-item.result
      c.loop-part.all c.push_part.new.so_far c.loop-part-test.true c.part-item.is (c.loop-part.invariant.so_far n right admitted)
      (c.in_ok-push_part.ensures.reads n right (ap (value (has n)) c.loop-part.invariant.kept ∙ admitted));
}

pub read_parts-returns-clause-shows : goal.read_parts-returns-clause-shows
read_parts-returns-clause-shows g t c = λ n right admitted.
    all_parts (g.K.Knowledge.known c.args.known.now n) (has n) (g.K.Knowledge.callable c.args.known.now n) c.args.kind (before (has n) c.args.parts.now none) c.args.parts.now c.loop-part.part-index
    c.loop-part.all c.loop-part-test.false (c.loop-part.invariant.so_far n right admitted)

-- ---- nodes among the parts

pub push_node-returns-in_ok-push-in-Operand-clause-reads : goal.push_node-returns-in_ok-push-in-Operand-clause-reads
push_node-returns-in_ok-push-in-Operand-clause-reads g t c = λ n kind right admitted.
    let known = g.K.Knowledge.known c.args.known.now n in
    let callable = g.K.Knowledge.callable c.args.known.now n in
    let trees = parts_at (has n) c.args.inner 0 (plain_choices c.args.parts.now) in
    let new : CondParts = record { operands = c.push.new.self; signs = c.args.so_far.now.signs; words = c.args.so_far.now.words; arguments = c.args.so_far.now.arguments } in
    let plays : PlaysRole c.args.inner Operand = subst (PlaysRole c.args.inner) (sym c.role_of.ensures ∙ c.in-Operand.is) (plays_role c.args.inner) in
    record {
      reads = λ p parts.
          subst (λ q. ShowsParts (has n) callable q new) (sym (plays known trees (spec.read_parts known c.args.inner trees spec.nothing_read) p))
          (operand_pushed (has n) callable p (spec.read_expression known (node c.args.inner trees)) c.in_ok-read-in-Operand.read c.args.so_far.now new c.in_ok-push-in-Operand.ensures.items refl refl refl
          (c.in_ok-read-in-Operand.ensures.shows n right admitted) parts);
    }

-- ---- arguments

pub read_arguments-read_argument-requires : goal.read_arguments-read_argument-requires
read_arguments-read_argument-requires g t c =
    let low : branches_depth (plain_branches c.part-item.result.branches.items) ≤ choices_depth (plain_choices c.args.parts.now) =
    subst (λ part. branches_depth (plain_branches part.branches.items) ≤ choices_depth (plain_choices c.args.parts.now)) (sym c.part-item.is)
    (choice_within c.args.parts.now c.loop-part.part-index c.part-item.result c.loop-part-test.true) in
    λ κs lives. (omega (arith, low, c.decreases), lives)

pub read_arguments-loop-part-init : goal.read_arguments-loop-part-init
read_arguments-loop-part-init g t c = record {
  kept = refl;
  so_far = λ n right admitted. record { done = []; shows = subst (ShowsEach (has n) []) (sym c.new-all.ensures.items) refl; same = refl };
}

pub read_arguments-loop-part-preserved : goal.read_arguments-loop-part-preserved
read_arguments-loop-part-preserved g t c = record {
  kept = c.in_ok-argument.ensures.kept ∙ c.loop-part.invariant.kept;
  so_far = λ n right admitted.
      let known = g.K.Knowledge.known c.args.known.now n in
      let reads = arguments_in known (with_part false (branch_at (has n) (plain_branches c.part-item.result.branches.items)) none) in
      next_argument (has n) known c.args.parts.now c.loop-part.part-index c.part-item.result c.loop-part.all.items c.push_argument.new.all.items c.loop-part-test.true c.part-item.is
      (c.loop-part.invariant.so_far n right admitted)
      (λ before shows. c.in_ok-push_argument.ensures (has n) before reads shows (c.in_ok-argument.ensures.shows n right (ap (value (has n)) c.loop-part.invariant.kept ∙ admitted)));
}

pub read_arguments-returns-clause-shows : goal.read_arguments-returns-clause-shows
read_arguments-returns-clause-shows g t c = λ n right admitted.
    all_arguments (has n) (g.K.Knowledge.known c.args.known.now n) c.args.parts.now c.loop-part.part-index c.loop-part.all.items c.loop-part-test.false (c.loop-part.invariant.so_far n right admitted)

pub read_argument-loop-variant-init : goal.read_argument-loop-variant-init
read_argument-loop-variant-init g t c = record {
  kept = c.in_ok-variants.ensures.kept;
  so_far = λ n right admitted.
      let known = g.K.Knowledge.known c.args.known.now n in
      let trees = parts_at (has n) k.Arguments 0 (plain_choices (c.args.choice.now ∷ [])) in
      none_placed (has n) (arguments_in known) (λ held all. ArgumentSoFar (has n) (arguments_in known trees) held all) trees c.deref-variant-items.result.now c.no_argument-all.result
      (c.no_argument-all.ensures (has n) (arguments_in known trees))
      (subst (λ vs. Stands (has n) trees (shown (has n) vs)) (sym c.deref-variant-items.ensures.value)
      (subst (λ list. Stands (has n) (parts_at (has n) k.Arguments 0 (plain_choices list)) (shown (has n) c.in_ok-variants.variants.items)) c.from_ref.ensures.value (c.in_ok-variants.ensures.stands n admitted)));
}

pub read_argument-read_parts-requires : goal.read_argument-read_parts-requires
read_argument-read_parts-requires g t c =
    let low : parts_depth c.deref.result.now ≤ choices_depth (plain_choices (c.args.choice.now ∷ [])) =
    low_variant (choices_depth (plain_choices (c.args.choice.now ∷ []))) c.in_ok-variants.variants.items c.deref-variant-items.result.now c.loop-variant.variant-index c.variant-item.result c.deref.result.now
    (subst (λ list. AreAllLow (choices_depth (plain_choices list)) c.in_ok-variants.variants.items) c.from_ref.ensures.value c.in_ok-variants.ensures.low)
    c.deref-variant-items.ensures.value c.loop-variant-test.true c.variant-item.is c.deref.ensures.value in
    λ κs lives. (omega (arith, low, c.decreases), lives)

pub read_argument-loop-variant-preserved : goal.read_argument-loop-variant-preserved
read_argument-loop-variant-preserved g t c = record {
  kept = c.in_ok-read.ensures.kept ∙ c.loop-variant.invariant.kept;
  so_far = λ n right admitted.
      let known = g.K.Knowledge.known c.args.known.now n in
      let callable = g.K.Knowledge.callable c.args.known.now n in
      let trees = parts_at (has n) k.Arguments 0 (plain_choices (c.args.choice.now ∷ [])) in
      next_placed (has n) (arguments_in known) (λ held all. ArgumentSoFar (has n) (arguments_in known trees) held all) trees c.deref-variant-items.result.now
      c.loop-variant.variant-index c.variant-item.result c.loop-variant.all c.in_ok-all.all c.loop-variant-test.true c.variant-item.is (c.loop-variant.invariant.so_far n right admitted)
      (λ held also so_far. c.in_ok-all.ensures (has n) callable (arguments_in known trees) (arguments_in known (before (has n) c.variant-item.result.parts.items none)) held
      (subst (EachRead (has n) callable (arguments_in known (before (has n) c.variant-item.result.parts.items none))) (sym c.deref-in-loop-variant.ensures.value)
      (subst (λ ps. EachRead (has n) callable (arguments_in known (before (has n) ps none)) c.in_ok-read.read.operands.items) c.deref.ensures.value
      (c.in_ok-read.ensures.shows n right (ap (value (has n)) c.loop-variant.invariant.kept ∙ admitted)).operands)) also so_far);
}

pub read_argument-returns-clause-shows : goal.read_argument-returns-clause-shows
read_argument-returns-clause-shows g t c = λ n right admitted.
    let known = g.K.Knowledge.known c.args.known.now n in
    let trees = parts_at (has n) k.Arguments 0 (plain_choices (c.args.choice.now ∷ [])) in
    argument_read (has n) (arguments_in known trees) c.loop-variant.all (one_argument known (branch_at (has n) (plain_branches c.args.choice.now.branches.items)))
    (all_placed (has n) (arguments_in known) (λ held all. ArgumentSoFar (has n) (arguments_in known trees) held all) trees c.deref-variant-items.result.now
    c.loop-variant.variant-index c.loop-variant.all c.loop-variant-test.false (c.loop-variant.invariant.so_far n right admitted)
    (subst (λ vs. Stands (has n) trees (shown (has n) vs)) (sym c.deref-variant-items.ensures.value)
    (subst (λ list. Stands (has n) (parts_at (has n) k.Arguments 0 (plain_choices list)) (shown (has n) c.in_ok-variants.variants.items)) c.from_ref.ensures.value (c.in_ok-variants.ensures.stands n admitted))))
