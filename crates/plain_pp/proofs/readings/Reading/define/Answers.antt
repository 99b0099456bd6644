use Rattle.std.proofs.Common.{ap, map}
use Rattle.std.proofs.Math.Path.{fun_ext}
use Rattle.c_text.specs.Macros.{Table}
use Rattle.c_text.specs.Token.{plain_token}
use Rattle.c_text.specs.Preprocessing as spec
use Rattle.plain_pp.proofs.readings.Reading.define.Goals as goal

pub returns : goal.returns
returns c =
    ap (λ (table : Table). let r : spec.Reading = record { table = table; tokens = map plain_token c.args.self.now.tokens.items } in r) (fun_ext c.in_ok-define.ensures)
