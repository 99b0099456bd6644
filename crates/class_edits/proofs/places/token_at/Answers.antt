use Rattle.text_edits.specs.Files.{plain_files}
use Rattle.class_edits.proofs.Searching.{named-byte}
use Rattle.class_edits.specs.Search.{plain_named_token, IsNamedAt}
use Rattle.project_file.specs.View.{Finds}
use Rattle.std.proofs.Common.{subst}
use Rattle.class_edits.proofs.places.token_at.Goals as goal

pub returns-in-None : goal.returns-in-None
returns-in-None c = λ token h.
    let files = plain_files c.args.files.now in
    subst (Finds plain_named_token (IsNamedAt files c.args.file c.args.offset)) c.in-None.is c.in_ok-found.ensures
    (record { token = token; name = h.is_token.name }) (named-byte files c.args.file c.args.offset token h)
