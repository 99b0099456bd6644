use Rattle.std.proofs.Common.{◌-◌, [], drop, map}
use Rattle.std.specs.List.{AllZip}
use Rattle.core_meaning.specs.Linking as spec
use Rattle.c_types.specs.Types.{plain_type}
use Rattle.c_types.specs.Tags.{plain_tags}
use Rattle.std.specs.Prelude.{◌↔◌}
use Rattle.plain_link.proofs.agreement.parameters_agree.Given as goal

abbrev pub invariant-loop-i : goal.invariant-loop-i
invariant-loop-i l =
    AllZip (spec.TypesAgree (plain_tags l.tags)) (drop l.i (map plain_type l.a)) (drop l.i (map plain_type l.b))
    ↔ AllZip (spec.TypesAgree (plain_tags l.tags)) (map plain_type l.a) (map plain_type l.b)
