use Rattle.std.proofs.Common.{subst}
use Rattle.std.proofs.lemmas.Result.{on_ok_weaker}
use Rattle.conditional.specs.Entries.{seen, first}
use Rattle.type_tables.specs.Forms.{file_name_form}
use Rattle.known_tables.specs.Searches.{Finds}
use Rattle.known_tables.specs.Lookups.{found_as, found_at_file_scope}
use Rattle.known_tables.proofs.Looking.{meaning_next}
use Rattle.known_tables.proofs.lookups.find_meaning.Goals as goal

pub returns : goal.returns
returns g c =
    on_ok_weaker c.find.result (λ finds on object function whole later answers before.
    finds on whole (found_as object function (file_name_form c.args.meaning.now.what).sort) (found_at_file_scope object function (first (seen on later)))
    (c.in_ok-what.ensures on object function answers)
    (subst (λ next. Finds g.T.Plain.form on whole next c.args.search.now) (meaning_next object function on c.args.meaning.now later) before)) c.find.ensures
