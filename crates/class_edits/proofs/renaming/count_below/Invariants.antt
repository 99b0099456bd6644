use Rattle.std.proofs.Common.{◌≡◌, ◌≤◌, length, take}
use Rattle.tied_tokens.specs.Tokens.{plain_file_tokens}
use Rattle.class_edits.specs.Listed.{tokens_below}
use Rattle.class_edits.proofs.renaming.count_below.Given as goal

abbrev pub invariant-loop-token : goal.invariant-loop-token
invariant-loop-token l = record {
  counted : l.count ≡ length (tokens_below l.files (plain_file_tokens (take l.token-index l.tokens)));
  few : l.count ≤ l.token-index;
}
