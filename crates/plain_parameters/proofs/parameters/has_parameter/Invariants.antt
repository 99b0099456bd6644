use Rattle.std.proofs.Common.{◌≡◌, map, drop}
use Rattle.std.specs.List.{list_any}
use Rattle.core_meaning.specs.Declarations.{is_name_of}
use Rattle.plain_parameters.specs.PlainParameters.{plain_parameter}
use Rattle.plain_parameters.proofs.parameters.has_parameter.Given as goal

abbrev pub invariant-loop-p : goal.invariant-loop-p
invariant-loop-p l = list_any (λ p. is_name_of l.text p.name) (map plain_parameter (drop l.p-index l.before)) ≡ list_any (λ p. is_name_of l.text p.name) (map plain_parameter l.before)
