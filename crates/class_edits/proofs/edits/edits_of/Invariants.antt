use Rattle.std.proofs.Common.{◌≡◌, map, take}
use Rattle.file_edits.specs.Places.{plain_edit}
use Rattle.tied_tokens.specs.Tokens.{plain_file_tokens}
use Rattle.class_edits.specs.Listed as listed
use Rattle.class_edits.proofs.edits.edits_of.Given as goal

abbrev pub invariant-loop-token : goal.invariant-loop-token
invariant-loop-token l =
    map plain_edit l.edits.items ≡ map (listed.edit_of l.new) (listed.tokens_below l.files (plain_file_tokens (take l.token-index l.tokens)))
