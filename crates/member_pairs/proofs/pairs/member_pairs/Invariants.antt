use Rattle.std.proofs.Common.{◌≡◌, ℕ, Bool, ◌++◌, drop}
use Rattle.conditional.specs.Entries.{seen, listed, entries_of}
use Rattle.cond_pairings.specs.Pairs.{pairs_seen}
use Rattle.cond_selections.specs.Selected.{plain_selection}
use Rattle.cond_name_spaces.specs.Spaced.{plain_name}
use Rattle.member_pairs.specs.Members.{tag_of, pairs_of_uses}
use Rattle.member_pairs.proofs.pairs.member_pairs.Given as goal

abbrev pub invariant-loop-one : goal.invariant-loop-one
invariant-loop-one l =
    (on : ℕ → Bool)
    → pairs_seen on l.all.items ++ pairs_of_uses (tag_of l.tables) (seen on (listed plain_name l.names)) (seen on (entries_of plain_selection (drop l.one-index l.one-items)))
    ≡ pairs_of_uses (tag_of l.tables) (seen on (listed plain_name l.names)) (seen on (entries_of plain_selection l.one-items))
