use Rattle.std.proofs.Common.{◌≡◌, ℕ, Bool, ◌||◌, drop, map}
use Rattle.std.specs.List.{list_any}
use Rattle.cond_formula.specs.Conditions.{condition_of, value}
use Rattle.tied_tokens.specs.Ties.{plain_declared_name}
use Rattle.told_ties.specs.Ties.{named_seen}
use Rattle.class_captures.specs.Links as spec
use Rattle.class_captures.proofs.links.where_renamed.Given as goal

abbrev pub invariant-loop-entry : goal.invariant-loop-entry
invariant-loop-entry l =
    (on : ℕ → Bool) → (value on (condition_of l.renamed) || list_any (spec.is_renamed l.class) (named_seen on (map plain_declared_name (drop l.entry-index l.names))))
    ≡ list_any (spec.is_renamed l.class) (named_seen on (map plain_declared_name l.names))
