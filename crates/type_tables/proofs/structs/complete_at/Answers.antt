use Rattle.std.proofs.Common.{subst}
use Rattle.std.proofs.lemmas.Result.{on_ok_weaker}
use Rattle.cond_formula.specs.Conditions.{condition_of, value}
use Rattle.conditional.specs.Entries.{seen, listed}
use Rattle.core_meaning.specs.Constancy.{capped}
use Rattle.cond_sums.specs.Sums.{sum_at}
use Rattle.type_tables.specs.Forms.{member_form}
use Rattle.type_tables.specs.Changes.{Completes}
use Rattle.type_tables.proofs.Lists.{becomes_at}
use Rattle.type_tables.proofs.structs.complete_at.Goals as goal

pub returns : goal.returns
returns c =
    on_ok_weaker c.completed_too.result
    (λ changed on. becomes_at _ c.args.structs.now.items c.args.number c.index_mut.result.now c.completed_too.new.s
    (subst (λ s. Completes on (value on (condition_of c.args.when)) (seen on (listed member_form c.args.members.now)) (capped (sum_at on c.args.scalars.now)) s c.completed_too.new.s) c.index_mut.ensures.value (changed on)))
    c.completed_too.ensures
