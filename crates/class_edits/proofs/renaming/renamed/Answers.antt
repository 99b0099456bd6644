use Rattle.std.proofs.Common.{◌≡◌, ℕ, List, map, length, ap, sym, ◌∙◌, arith}
use Rattle.std.proofs.lemmas.List.{length-map}
use Rattle.text_edits.specs.Files.{plain_file, plain_files}
use Rattle.file_edits.specs.Edits.{PlainEdit, edited_files}
use Rattle.file_edits.specs.Faults.{fault_of}
use Rattle.file_edits.specs.Places.{plain_edit}
use Rattle.renamings.specs.Renamings.{edits_in}
use Rattle.tied_tokens.specs.Tokens.{plain_file_tokens}
use Rattle.class_edits.specs.Listed.{renaming_of, edit_of, tokens_below}
use Rattle.class_edits.proofs.ListedEdits.{all-ordered, files-are, no-fault}
use Rattle.class_edits.proofs.renaming.renamed.Goals as goal

pub returns-in-Ok : goal.returns-in-Ok
returns-in-Ok c = λ old.
    let files = plain_files c.args.files.now in
    let tokens = plain_file_tokens c.args.tokens.now in
    let edits = map plain_edit c.in_ok-edits.edits.items in
    let lent : map plain_edit c.deref.result.now ≡ edits = ap (map plain_edit) c.deref.ensures.value in
    let count : c.len.result ≡ length c.args.files.now.list.items = omega (arith, c.len.ensures, c.args.files.now.list.ok.0) in
    c.in-Ok.ensures.edited ∙ (ap (λ (es : List PlainEdit). edited_files 0 es files) lent
    ∙ files-are (renaming_of (length c.args.files.now.list.items) tokens old c.args.new.now) edits
    (λ number. c.in_ok-edits.ensures.renaming old number ∙ ap (λ (n : ℕ). edits_in (renaming_of n tokens old c.args.new.now) number) count) 0 files)

pub want_of_memory-requires : goal.want_of_memory-requires
want_of_memory-requires c =
    let files = plain_files c.args.files.now in
    let tokens = plain_file_tokens c.args.tokens.now in
    let new = c.args.new.now in
    let all : length files ≡ length c.args.files.now.list.items = length-map c.args.files.now.list.items plain_file in
    let count : c.len.result ≡ length files = omega (arith, c.len.ensures, c.args.files.now.list.ok.0, all) in
    let listed : map plain_edit c.deref.result.now ≡ map (edit_of new) (tokens_below (length files) tokens) =
    ap (map plain_edit) c.deref.ensures.value ∙ (c.in_ok-edits.ensures.listed ∙ ap (λ n. map (edit_of new) (tokens_below n tokens)) count) in
    sym c.in-Err.ensures.fault ∙ (ap (fault_of files) listed ∙ no-fault files new tokens (all-ordered c.args.tokens.now) c.requires)
