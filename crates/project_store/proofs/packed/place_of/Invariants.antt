use Rattle.std.proofs.Common.{◌≡◌, drop}
use Rattle.std.specs.List.{position_from}
use Rattle.project_store.specs.Named.{has_name}
use Rattle.project_store.specs.Packed.{file_at}
use Rattle.project_store.proofs.packed.place_of.Given as goal

abbrev pub invariant-loop-at : goal.invariant-loop-at
invariant-loop-at l =
    position_from (λ entry. has_name l.name (file_at l.bytes entry)) l.at (drop l.at l.entries) ≡ position_from (λ entry. has_name l.name (file_at l.bytes entry)) 0 l.entries
