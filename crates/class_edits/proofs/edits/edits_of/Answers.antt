use Rattle.std.proofs.Common.{◌≡◌, map, ap, ◌∙◌, arith}
use Rattle.std.proofs.lemmas.List.{take_all}
use Rattle.file_edits.specs.Edits as spec
use Rattle.file_edits.specs.Places.{plain_edit}
use Rattle.tied_tokens.specs.Tokens.{plain_file_tokens}
use Rattle.class_edits.specs.Listed as listed
use Rattle.class_edits.proofs.ListedEdits.{edits-are}
use Rattle.class_edits.proofs.edits.edits_of.Goals as goal

pub returns-clause-renaming : goal.returns-clause-renaming
returns-clause-renaming c = λ old number.
    let tokens = c.args.tokens.now in
    let all : map plain_edit c.loop-token.edits.items ≡ map (listed.edit_of c.args.new.now) (listed.tokens_below c.args.files (plain_file_tokens tokens)) =
    c.loop-token.invariant ∙ ap (λ ts. map (listed.edit_of c.args.new.now) (listed.tokens_below c.args.files (plain_file_tokens ts))) (take_all c.loop-token.token-index tokens (omega arith)) in
    ap (spec.edits_of number) all ∙ edits-are c.args.files number c.args.new.now (plain_file_tokens tokens) old
