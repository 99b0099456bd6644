use Rattle.std.proofs.Common.{map, sym}
use Rattle.project_file.proofs.DocumentLemmas.{all_listed, first_unlisted}
use Rattle.project_file.proofs.NameLemmas.{text_of}
use Rattle.project_file.proofs.documents.first_unlisted.Goals as goal

pub returns-in-Some : goal.returns-in-Some
returns-in-Some c =
    rw c.as_str.ensures.value
    (first_unlisted (map text_of c.args.listed.now) c.args.table.now.entries c.in-Some.key.now c.in-Some.ensures.ordered (sym c.in-Some.ensures.found))

pub returns-in-None : goal.returns-in-None
returns-in-None c = all_listed (map text_of c.args.listed.now) c.args.table.now.entries (sym c.in-None.ensures.found)
