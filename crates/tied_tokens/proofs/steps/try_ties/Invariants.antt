use Rattle.std.proofs.Common.{take}
use Rattle.std.specs.Prelude.{All}
use Rattle.tied_tokens.specs.Tokens.{plain_file_token, plain_file_tokens}
use Rattle.tied_tokens.specs.Ties.{plain_tie, plain_tied_tokens}
use Rattle.tied_tokens.specs.Search.{Grows, LeadsInto}
use Rattle.tied_tokens.proofs.steps.try_ties.Given as goal

abbrev pub invariant-loop-tie : goal.invariant-loop-tie
invariant-loop-tie l = record {
  grows : Grows (plain_tied_tokens l.all) (plain_file_token l.member) (plain_file_tokens l.initial.found.items) (plain_file_tokens l.found.items);
  leads :
      All (λ tie. LeadsInto (plain_tied_tokens l.all) (plain_file_token l.member) (plain_file_tokens l.found.items) (plain_tie tie)) (take l.tie-index l.all.ties.now);
}
