use Rattle.std.proofs.Common.{subst}
use Rattle.std.proofs.lemmas.Result.{on_ok_weaker}
use Rattle.cond_formula.specs.Conditions.{condition_of, value}
use Rattle.type_tables.specs.Forms.{file_name_form}
use Rattle.type_tables.specs.Changes.{Means}
use Rattle.type_tables.proofs.Lists.{becomes_at}
use Rattle.type_tables.proofs.names.mean_at.Goals as goal

pub returns : goal.returns
returns c =
    on_ok_weaker c.means_too.result
    (λ changed on. becomes_at _ c.args.declared.now.items c.args.place c.index_mut.result.now c.means_too.new.n
    (subst (λ n. Means on (value on (condition_of c.args.when)) (file_name_form c.args.what) n c.means_too.new.n) c.index_mut.ensures.value (changed on)))
    c.means_too.ensures
