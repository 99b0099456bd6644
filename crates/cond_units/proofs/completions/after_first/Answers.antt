use Rattle.std.proofs.Common.{Bool, ◌&&◌, ◌||◌, ap, ap₂, ◌∙◌}
use Rattle.cond_formula.specs.Conditions.{condition_of, value}
use Rattle.choice_trees.specs.ChoiceTrees.{plain_item, item_at}
use Rattle.cond_units.specs.Tags.{part_has_tag}
use Rattle.cond_units.proofs.Searching.{in_turns}
use Rattle.cond_units.proofs.completions.after_first.Goals as goal

pub returns : goal.returns
returns c = λ on behind.
    ap₂ (λ (n a : Bool). n || (a && behind))
    (c.in_ok-found.ensures on ∙ ap (λ (h : Bool). value on (condition_of c.args.search.found) || h) (c.in_ok-here.ensures on ∙ ap₂ (λ (h w : Bool). h && w) (c.in_ok-possible.ensures on) (c.in_ok-tagged.ensures on)))
    (c.in_ok-left.ensures on)
    ∙ in_turns (value on (condition_of c.args.search.left)) (value on (condition_of c.args.when.now)) (value on (condition_of c.args.search.found)) (part_has_tag c.args.tag.now (item_at on (plain_item c.args.part.now))) behind
