use Rattle.std.proofs.Common.{sym, subst}
use Rattle.std.specs.Prelude.{◌↔◌, IsTrue}
use Rattle.std.proofs.lemmas.Result.{IfOk-weaker}
use Rattle.cond_formula.specs.Features.{has}
use Rattle.type_tables.specs.Tables.{sort_in}
use Rattle.type_tables.specs.Forms.{sort_form}
use Rattle.type_tables.specs.Seen.{seen_tables}
use Rattle.cond_compatible.specs.SeenTags.{tags_seen, said_alike}
use Rattle.cond_compatible.specs.SeenSorts.{SeenSortsAgree}
use Rattle.cond_compatible.proofs.AgreeingSorts.{sorts_told}
use Rattle.cond_compatible.proofs.sorts.where_sorts_agree.Goals as goal

pub returns-clause-exact : goal.returns-clause-exact
returns-clause-exact g c = IfOk-weaker c.where_alike_sorts_agree.result _ _ (λ f is n admitted.
    let t = c.args.tables.now in
    subst (λ b. IsTrue b ↔ SeenSortsAgree (has n) t (sort_form c.args.a.now) (sort_form c.args.b.now)) (sym (is n admitted))
    (sorts_told (said_alike (has n) c.args.alike.now) (tags_seen (has n) t) (λ a b. c.requires n a b admitted)
    (sort_in (seen_tables (has n) t).signatures (sort_form c.args.a.now)) (sort_in (seen_tables (has n) t).signatures (sort_form c.args.b.now))))
    c.where_alike_sorts_agree.ensures.exact
