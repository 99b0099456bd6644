use Rattle.std.proofs.Common.{◌≡◌, map, drop}
use Rattle.c_text.specs.Token.{plain_token}
use Rattle.c_text.specs.Directives as spec
use Rattle.pp_lines.specs.ParameterPlaces.{reading}
use Rattle.pp_lines.proofs.parameters.parameters_of.Given as goal

abbrev pub invariant-loop-i : goal.invariant-loop-i
invariant-loop-i l =
    reading l.reader (map plain_token (drop l.i l.tokens)) ≡ spec.parameters_of (map plain_token l.tokens)
