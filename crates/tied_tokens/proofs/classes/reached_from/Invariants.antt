use Rattle.std.proofs.Common.{◌+◌, ◌-◌, ◌≤◌, length, take}
use Rattle.std.specs.Prelude.{All, Contains}
use Rattle.tied_tokens.specs.Tokens.{plain_file_token, plain_file_tokens}
use Rattle.tied_tokens.specs.Ties.{plain_tied_tokens}
use Rattle.tied_tokens.specs.Reached.{IsReached}
use Rattle.tied_tokens.specs.Search.{missing, tied_tokens, IsVisited}
use Rattle.tied_tokens.proofs.classes.reached_from.Given as goal

abbrev pub invariant-loop-next : goal.invariant-loop-next
invariant-loop-next l = record {
  within : l.next ≤ length (plain_file_tokens l.found.items);
  there : Contains (plain_file_tokens l.found.items) (plain_file_token l.place);
  reached : All (IsReached (plain_tied_tokens l.all) (plain_file_token l.place)) (plain_file_tokens l.found.items);
  visited : All (IsVisited (plain_tied_tokens l.all) (plain_file_tokens l.found.items)) (take l.next (plain_file_tokens l.found.items));
}

abbrev pub decreases-loop-next : goal.decreases-loop-next
decreases-loop-next l =
    missing (plain_file_tokens l.found.items) (tied_tokens (plain_tied_tokens l.all)) + length (plain_file_tokens l.found.items) - l.next
