use Rattle.std.proofs.Common.{ap, ◌∙◌}
use Rattle.std.specs.List.{list_any}
use Rattle.std.specs.Str.{bytes_eq}
use Rattle.c_constants.proofs.NumberLemmas.{list_any-map}
use Rattle.c_constants.proofs.numbers.is_suffix.Goals as goal

pub returns : goal.returns
returns c =
    let s = c.args.suffix.now in
    c.is_among.ensures ∙ (list_any-map (bytes_eq s) (λ k. k.now) c.suffixes.result.now ∙ ap (list_any (bytes_eq s)) c.suffixes.ensures)
