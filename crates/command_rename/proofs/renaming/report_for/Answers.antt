use Rattle.std.proofs.Common.{◌≡◌, List, ℕ, ◌++◌, length, ap, sym, ◌∙◌, codes}
use Rattle.std.specs.Prelude.{decimal}
use Rattle.std.proofs.lemmas.List.{append_assoc}
use Rattle.text_edits.specs.Files.{plain_files}
use Rattle.tied_tokens.specs.Tokens.{plain_file_tokens}
use Rattle.reference_classes.specs.Renamed.{count_tokens, count_files}
use Rattle.class_edits.specs.Listed.{renaming_of}
use Rattle.command_rename.proofs.renaming.report_for.Goals as goal

joined : (a n b m k : List ℕ) → a ++ (n ++ (b ++ (m ++ k))) ≡ a ++ n ++ b ++ m ++ k
joined a n b m k = sym (append_assoc (a ++ n ++ b) m k ∙ (append_assoc (a ++ n) b (m ++ k) ∙ append_assoc a n (b ++ (m ++ k))))

pub returns : goal.returns
returns c = λ old new.
    let files = plain_files c.args.files.now in
    let r = renaming_of (length c.args.files.now.list.items) (plain_file_tokens c.args.class.now) old new in
    let count = c.count_renamed-count in
    c.in_ok-text.ensures.ok
    ∙ (ap (λ (n : ℕ). codes "renamed " ++ (decimal n ++ (codes " tokens in " ++ (decimal count.result.files ++ codes " files")))) (count.ensures.tokens old new)
    ∙ (ap (λ (n : ℕ). codes "renamed " ++ (decimal (count_tokens r 0 files) ++ (codes " tokens in " ++ (decimal n ++ codes " files")))) (count.ensures.files old new)
    ∙ joined (codes "renamed ") (decimal (count_tokens r 0 files)) (codes " tokens in ") (decimal (count_files r 0 files)) (codes " files")))
