use Rattle.std.proofs.Common.{◌≡◌, length, sym, ap, ◌∙◌, arith}
use Rattle.std.proofs.lemmas.List.{length-map}
use Rattle.text_edits.specs.Files.{plain_file, plain_files}
use Rattle.tied_tokens.specs.Tokens.{plain_file_tokens}
use Rattle.class_edits.specs.Listed.{tokens_below}
use Rattle.class_edits.proofs.Counts.{count-is}
use Rattle.class_edits.proofs.renaming.count_renamed.Goals as goal

pub returns-clause-tokens : goal.returns-clause-tokens
returns-clause-tokens c = λ old new.
    let files = c.args.files.now.list.items in
    let tokens = plain_file_tokens c.args.tokens.now in
    let whole : c.len.result ≡ length files = omega (arith, c.len.ensures, c.args.files.now.list.ok.0) in
    c.count_below.ensures ∙ (ap (λ n. length (tokens_below n tokens)) whole ∙ sym (count-is (length files) tokens old new (plain_files c.args.files.now) (length-map files plain_file)))
