use Rattle.std.proofs.Common.{take}
use Rattle.std.specs.Prelude.{All}
use Rattle.tied_tokens.specs.Tokens.{plain_file_token, plain_file_tokens}
use Rattle.tied_tokens.specs.Ties.{plain_declared_name, plain_tied_tokens}
use Rattle.tied_tokens.specs.Search.{Grows, NameLeadsInto}
use Rattle.tied_tokens.proofs.steps.try_names_from.Given as goal

abbrev pub invariant-loop-other : goal.invariant-loop-other
invariant-loop-other l = record {
  grows : Grows (plain_tied_tokens l.all) (plain_file_token l.own.token) (plain_file_tokens l.initial.found.items) (plain_file_tokens l.found.items);
  leads :
      All (λ other. NameLeadsInto (plain_tied_tokens l.all) (plain_declared_name l.own) (plain_file_tokens l.found.items) (plain_declared_name other))
      (take l.other-index l.all.names.now);
}
