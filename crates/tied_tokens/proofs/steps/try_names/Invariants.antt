use Rattle.std.proofs.Common.{take}
use Rattle.std.specs.Prelude.{All}
use Rattle.tied_tokens.specs.Tokens.{plain_file_token, plain_file_tokens}
use Rattle.tied_tokens.specs.Ties.{plain_declared_name, plain_tied_tokens}
use Rattle.tied_tokens.specs.Search.{Grows, NamesLeadInto}
use Rattle.tied_tokens.proofs.steps.try_names.Given as goal

abbrev pub invariant-loop-own : goal.invariant-loop-own
invariant-loop-own l = record {
  grows : Grows (plain_tied_tokens l.all) (plain_file_token l.member) (plain_file_tokens l.initial.found.items) (plain_file_tokens l.found.items);
  lead :
      All (λ own. NamesLeadInto (plain_tied_tokens l.all) (plain_file_token l.member) (plain_file_tokens l.found.items) (plain_declared_name own))
      (take l.own-index l.all.names.now);
}
