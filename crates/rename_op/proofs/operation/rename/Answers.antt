use Rattle.std.proofs.Common.{subst}
use Rattle.text_edits.specs.Files.{plain_files}
use Rattle.project_file.specs.View.{Finds}
use Rattle.tied_tokens.specs.Tokens.{plain_file_token}
use Rattle.reference_classes.specs.Renamed.{IsWrittenAt}
use Rattle.class_edits.specs.Places.{HoldsByte}
use Rattle.rename_op.proofs.operation.rename.Goals as goal

pub returns-in_default : goal.returns-in_default
returns-in_default c = λ n admitted finds.
    let files = plain_files c.args.files.now in
    subst (Finds plain_file_token (HoldsByte files c.args.file c.args.offset)) c.in_default.is c.in_ok-place.ensures finds.place finds.holds

pub returns-in_default-2 : goal.returns-in_default-2
returns-in_default-2 c =
    let files = plain_files c.args.files.now in
    let holds : HoldsByte files c.args.file c.args.offset (plain_file_token c.in-Some.place) = subst (Finds plain_file_token (HoldsByte files c.args.file c.args.offset)) c.in-Some.is c.in_ok-place.ensures in
    absurd (subst (Finds (λ name. name.items) (IsWrittenAt files (plain_file_token c.in-Some.place))) c.in_default-2.is c.in_ok-old.ensures holds.is_token.name holds.is_token.written)

pub returns : goal.returns
returns c =
    let files = plain_files c.args.files.now in
    let holds : HoldsByte files c.args.file c.args.offset (plain_file_token c.in-Some.place) = subst (Finds plain_file_token (HoldsByte files c.args.file c.args.offset)) c.in-Some.is c.in_ok-place.ensures in
    c.in_ok-outcome.ensures c.args.file c.args.offset holds
