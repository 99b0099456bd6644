use Rattle.std.proofs.Common.{subst}
use Rattle.std.proofs.lemmas.Result.{on_ok_weaker}
use Rattle.cond_formula.specs.Conditions.{condition_of, value}
use Rattle.type_tables.specs.Changes.{Declares}
use Rattle.type_tables.proofs.Lists.{becomes_at}
use Rattle.type_tables.proofs.structs.declare_at.Goals as goal

pub returns : goal.returns
returns c =
    on_ok_weaker c.declared_too.result
    (λ changed on. becomes_at _ c.args.structs.now.items c.args.number c.index_mut.result.now c.declared_too.new.s
    (subst (λ s. Declares on (value on (condition_of c.args.when)) s c.declared_too.new.s) c.index_mut.ensures.value (changed on)))
    c.declared_too.ensures
