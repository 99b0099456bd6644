use Rattle.std.proofs.Common.{take}
use Rattle.std.specs.Prelude.{◌↔◌, Contains}
use Rattle.program_occurrences.specs.Classes.{PlainFileToken}
use Rattle.tied_tokens.specs.Tokens.{plain_file_tokens, AreInOrder}
use Rattle.tied_tokens.proofs.tokens.in_order.Given as goal

abbrev pub invariant-loop-token : goal.invariant-loop-token
invariant-loop-token l = record {
  members : (other : PlainFileToken) → Contains (plain_file_tokens l.sorted.items) other ↔ Contains (plain_file_tokens (take l.token-index l.tokens)) other;
  in_order : AreInOrder (plain_file_tokens l.sorted.items);
}
