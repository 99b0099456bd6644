use Rattle.std.proofs.Common.{ap, ◌∙◌}
use Rattle.std.specs.List.{list_any}
use Rattle.std.specs.Str.{bytes_eq}
use Rattle.c_lexer.proofs.LengthLemmas.{list_any-map}
use Rattle.c_lexer.proofs.lengths.is_punctuator.Goals as goal

pub returns : goal.returns
returns c =
    let w = c.args.word.now in
    c.is_among.ensures ∙ (list_any-map (bytes_eq w) (λ p. p.now) c.punctuators.result.now ∙ ap (list_any (bytes_eq w)) c.punctuators.ensures)
