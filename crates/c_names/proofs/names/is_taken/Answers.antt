use Rattle.std.proofs.Common.{ap, ◌∙◌}
use Rattle.std.specs.List.{list_any}
use Rattle.std.specs.Str.{bytes_eq}
use Rattle.c_names.proofs.KeywordLemmas.{list_any-map}
use Rattle.c_names.proofs.names.is_taken.Goals as goal

pub returns : goal.returns
returns c =
    let w = c.args.word.now in
    c.is_among.ensures ∙ (list_any-map (bytes_eq w) (λ k. k.now) c.taken_names.result.now ∙ ap (list_any (bytes_eq w)) c.taken_names.ensures)
