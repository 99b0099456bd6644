use Rattle.std.proofs.Common.{◌≡◌, ℕ, ◌+◌, ◌*◌, Bool, IsTrue, List, [], ◌∷◌, drop}
use Rattle.cond_formula.specs.Features.{has}
use Rattle.cond_formula.specs.Conditions.{condition_of, value}
use Rattle.choice_trees.specs.ChoiceTrees.{plain_item, plain_branches, plain_choices}
use Rattle.choice_trees.specs.Depths.{depth, branches_depth, choices_depth}
use Rattle.conditional.specs.Entries.{seen, listed}
use Rattle.cond_name_spaces.specs.Spaced.{plain_name}
use Rattle.cond_name_spaces.specs.Progress.{plain_tag}
use Rattle.cond_name_spaces.proofs.Choosing.{TurnsSoFar, LogsSoFar}
use Rattle.cond_name_spaces.proofs.Parts.{PartsSoFar}
use Rattle.cond_name_spaces.proofs.walks.+walk.Given as goal

abbrev pub decreases-push_node : goal.decreases-push_node
decreases-push_node g a = 8 * choices_depth (plain_choices a.parts.now) + 4

abbrev pub decreases-push_parts : goal.decreases-push_parts
decreases-push_parts g a = 8 * choices_depth (plain_choices a.parts.now) + 3

abbrev pub decreases-push_choice : goal.decreases-push_choice
decreases-push_choice g a = 8 * branches_depth (plain_branches a.choice.now.branches.items) + 2

abbrev pub decreases-push_part : goal.decreases-push_part
decreases-push_part g a = 8 * depth (plain_item a.item.now) + 1

abbrev pub invariant-push_choice-loop-alternative : goal.invariant-push_choice-loop-alternative
invariant-push_choice-loop-alternative g l = record {
  kept : g.O.Oracle.admits l.oracle ≡ g.O.Oracle.admits l.fn.oracle;
  turns : (on : ℕ → Bool) → TurnsSoFar on l.around.kind (plain_branches l.alternative-items) (value on (condition_of l.turned)) (value on (condition_of l.left)) (plain_branches (drop l.alternative-index l.alternative-items)) (value on (condition_of l.behind));
  so_far : (n : List Bool) (tag : List ℕ) → IsTrue (value (has n) (g.O.Oracle.admits l.fn.oracle)) → seen (has n) (listed plain_tag l.tags) ≡ tag ∷ [] →
      LogsSoFar (has n) l.around.kind (plain_branches l.alternative-items) l.around.declaration tag (value (has n) (condition_of l.turned)) (value (has n) (condition_of l.when)) (seen (has n) (listed plain_name l.fn.log))
      (value (has n) (condition_of l.left)) (plain_branches (drop l.alternative-index l.alternative-items)) (seen (has n) (listed plain_name l.log));
}

abbrev pub invariant-push_parts-loop-part : goal.invariant-push_parts-loop-part
invariant-push_parts-loop-part g l = record {
  kept : g.O.Oracle.admits l.oracle ≡ g.O.Oracle.admits l.fn.oracle;
  so_far : (n : List Bool) (tag : List ℕ) → IsTrue (value (has n) (g.O.Oracle.admits l.fn.oracle)) → seen (has n) (listed plain_tag l.tags) ≡ tag ∷ [] →
      PartsSoFar l.around.declaration tag l.around.kind (has n) l.parts (value (has n) (condition_of l.when)) (seen (has n) (listed plain_name l.fn.log))
      l.part-index (value (has n) (condition_of l.turned)) (seen (has n) (listed plain_name l.log));
}
