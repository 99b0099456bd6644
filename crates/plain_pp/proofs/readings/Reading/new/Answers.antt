use Rattle.std.proofs.Common.{List, ap, map, None, ◌∙◌}
use Rattle.std.proofs.Math.Path.{fun_ext}
use Rattle.c_text.specs.declared.token.Token.{Token}
use Rattle.c_text.specs.Macros.{Table}
use Rattle.c_text.specs.Token.{plain_token}
use Rattle.c_text.specs.Preprocessing as spec
use Rattle.plain_pp.proofs.readings.Reading.new.Goals as goal

pub returns : goal.returns
returns c =
    ap (λ (table : Table). let r : spec.Reading = record { table = table; tokens = map plain_token c.new-2.result.items } in r) (fun_ext c.new.ensures)
    ∙ ap (λ (ts : List Token). let r : spec.Reading = record { table = λ name. None; tokens = map plain_token ts } in r) c.new-2.ensures.items
