use Rattle.std.proofs.Common.{◌≡◌, ℕ, Bool, List, ◌++◌, drop}
use Rattle.std.specs.List.{list_any}
use Rattle.conditional.specs.Entries.{seen, entries_of}
use Rattle.program_occurrences.specs.Occurrences.{UnitNames}
use Rattle.cond_pairings.specs.Pairs.{Pair}
use Rattle.cond_name_spaces.specs.Spaced.{plain_name}
use Rattle.declared_tokens.specs.Declarations.{declared_at, is_among}
use Rattle.told_occurrences.specs.Units.{names_seen}
use Rattle.read_occurrences.specs.Read.{is_own_pair, names_read}
use Rattle.told_units.specs.Told.{TellsExternal}
use Rattle.told_units.proofs.names.told_names.Given as goal

abbrev pub invariant-loop-one : goal.invariant-loop-one
invariant-loop-one l =
    (on : ℕ → Bool) (unit : UnitNames) (pairs : List Pair) → TellsExternal on l.left unit → ((number : ℕ) → is_among (declared_at on l.own number) number ≡ list_any (is_own_pair number) pairs)
    → names_seen on l.all.items ++ names_read unit pairs (seen on (entries_of plain_name (drop l.one-index l.one-items)))
    ≡ names_read unit pairs (seen on (entries_of plain_name l.one-items))
