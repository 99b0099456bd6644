use Rattle.std.proofs.Common.{map, ap, ◌∙◌}
use Rattle.std.proofs.lemmas.List.{take_rest}
use Rattle.c_text.specs.Token.{plain_token}
use Rattle.unit_files.proofs.PathLemmas.{map-drop}
use Rattle.unit_files.proofs.bad_tokens.behind.Goals as goal

pub returns-then-count-tokens : goal.returns-then-count-tokens
returns-then-count-tokens c =
    ap (λ ts. map plain_token ts) (take_rest c.args.tokens.now c.args.count) ∙ map-drop plain_token c.args.count c.args.tokens.now
