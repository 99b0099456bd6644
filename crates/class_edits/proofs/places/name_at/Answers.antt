use Rattle.std.proofs.Common.{◌≡◌, ap, subst}
use Rattle.text_edits.specs.Files.{plain_files}
use Rattle.project_file.specs.View.{Finds}
use Rattle.program_occurrences.specs.Classes.{PlainFileToken}
use Rattle.tied_tokens.specs.Tokens.{plain_file_token}
use Rattle.tied_tokens.proofs.Members.{never}
use Rattle.class_edits.specs.Search.{plain_named_token, IsNamedAt}
use Rattle.class_edits.proofs.Searching.{named-there, holds-byte}
use Rattle.class_edits.proofs.places.name_at.Goals as goal

pub returns-in_default : goal.returns-in_default
returns-in_default c = λ name w.
    let files = plain_files c.args.files.now in
    let place = plain_file_token c.args.place.now in
    subst (Finds plain_named_token (IsNamedAt files place.file place.span.start)) c.in_default.is c.in_ok-found.ensures
    (record { token = place; name = name }) (named-there files place name w)

pub returns-then-not-is_same : goal.returns-then-not-is_same
returns-then-not-is_same c = λ name w.
    let files = plain_files c.args.files.now in
    let place = plain_file_token c.args.place.now in
    let found = plain_named_token c.in-Some.found in
    let holds : IsNamedAt files place.file place.span.start found = subst (Finds plain_named_token (IsNamedAt files place.file place.span.start)) c.in-Some.is c.in_ok-found.ensures in
    let same : found.token ≡ place =
    c.bytes_tell_tokens.ensures files place.file place.span.start found.token place (holds-byte files place.file place.span.start found holds)
    (holds-byte files place.file place.span.start (record { token = place; name = name }) (named-there files place name w)) in
    never c.if-not-is_same.true (c.is_same.ensures.1 (ap (λ (t : PlainFileToken). t.span) same))
