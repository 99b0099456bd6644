-- Parameters without pointers and room in memory.
use Rattle.std.specs.Prelude.{Option, option_map}
use Rattle.std.proofs.Common.{Bor}
use Rattle.c_text.specs.declared.token.Token.{Token}
use Rattle.c_text.specs.Token.{PlainToken, plain_token}
use Rattle.c_types.specs.Types.{plain_type}
use Rattle.core_meaning.specs.Declarations as spec
use Rattle.plain_parameters.specs.declared.parameters.Parameter.{Parameter}

abbrev pub plain_name : Option (Bor Token) → Option PlainToken
plain_name name = option_map (λ t. plain_token t.now) name

abbrev pub plain_parameter : Parameter → spec.Parameter
plain_parameter p = record { name = plain_name p.name; ty = plain_type p.ty }
