use Rattle.std.proofs.Common.{subst}
use Rattle.c_text.specs.Token.{plain_token}
use Rattle.core_meaning.specs.Entities.{Sort}
use Rattle.core_meaning.specs.UnitNames.{with_name}
use Rattle.plain_scope.specs.PlainScope.{plain_scope}
use Rattle.plain_scope.specs.Judgements.{Answers}
use Rattle.plain_objects.specs.PlainStates.{plain_storage}
use Rattle.plain_units.proofs.functions.name_function.Goals as goal

pub returns : goal.returns
returns c =
    subst (λ (sort : Sort). Answers (with_name (plain_scope c.args.scope.now) (plain_token c.args.name.now) sort (plain_storage c.args.storage)) (λ (u : Unit {0}). plain_scope c.declare_name.new.scope) c.declare_name.result) c.in_ok-sort.ensures c.declare_name.ensures
