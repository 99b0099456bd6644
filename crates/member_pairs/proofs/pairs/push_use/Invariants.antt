use Rattle.std.proofs.Common.{◌≡◌, ℕ, Bool, ◌++◌, drop}
use Rattle.cond_formula.specs.Conditions.{condition_of, value}
use Rattle.conditional.specs.Entries.{seen, under, entries_of}
use Rattle.cond_pairings.specs.Pairs.{pairs_seen}
use Rattle.cond_selections.specs.Selected.{plain_selection}
use Rattle.cond_name_spaces.specs.Spaced.{plain_name}
use Rattle.member_pairs.specs.Members.{pairs_of_use}
use Rattle.member_pairs.proofs.pairs.push_use.Given as goal

abbrev pub invariant-loop-declared : goal.invariant-loop-declared
invariant-loop-declared l =
    (on : ℕ → Bool)
    → pairs_seen on l.all.items ++ under (value on (condition_of l.one.when)) (pairs_of_use l.tag (plain_selection l.one.what) (seen on (entries_of plain_name (drop l.declared-index l.names))))
    ≡ pairs_seen on l.fn.all.items ++ under (value on (condition_of l.one.when)) (pairs_of_use l.tag (plain_selection l.one.what) (seen on (entries_of plain_name l.names)))
