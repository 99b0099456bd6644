use Rattle.std.proofs.Common.{subst}
use Rattle.std.proofs.lemmas.Result.{IfOk-weaker}
use Rattle.conditional.specs.Entries.{alternatives, Stands}
use Rattle.c_types.specs.Types.{PlainType}
use Rattle.type_tables.specs.Forms.{declared_type_form}
use Rattle.cond_types.proofs.blocks.one_type.Goals as goal

pub returns : goal.returns
returns c = IfOk-weaker c.one.result _ _ (λ all is on. subst (λ (t : PlainType). Stands on t (alternatives declared_type_form all)) c.in_ok-ty.ensures (is on)) c.one.ensures
