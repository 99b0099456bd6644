use Rattle.std.proofs.Common.{refl}
use Rattle.std.proofs.lemmas.Result.{on_ok_weaker}
use Rattle.cond_formula.specs.Conditions.{condition_of, value}
use Rattle.conditional.specs.Entries.{seen, listed}
use Rattle.core_meaning.specs.Constancy.{capped}
use Rattle.cond_sums.specs.Sums.{sum_at}
use Rattle.type_tables.specs.Forms.{member_form}
use Rattle.type_tables.proofs.Lists.{there_is}
use Rattle.type_tables.proofs.StructSteps.{seen_completed}
use Rattle.type_tables.proofs.tables.Tables.complete_struct.Goals as goal

pub returns : goal.returns
returns c =
    let there = there_is c.args.self.now.structs.items c.args.number c.requires in
    on_ok_weaker c.complete_at.result
    (λ all on. let becomes = all on in
    seen_completed on c.args.number (seen on (listed member_form c.args.members.now)) (capped (sum_at on c.args.scalars.now)) c.args.self.now (record c.args.self.now { structs = c.complete_at.new.structs }) there.0 becomes.now
    (value on (condition_of c.args.when)) there.1 becomes.set_is (becomes.changed there.0 there.1) refl refl refl refl refl refl)
    c.complete_at.ensures
