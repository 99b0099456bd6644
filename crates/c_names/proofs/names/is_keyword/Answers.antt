use Rattle.std.proofs.Common.{ap, ◌∙◌, arith}
use Rattle.std.specs.List.{list_any}
use Rattle.std.specs.Str.{bytes_eq}
use Rattle.c_names.proofs.KeywordLemmas.{is_keyword-first, list_any-map}
use Rattle.c_names.proofs.names.is_keyword.Goals as goal

pub returns-in-len1-up : goal.returns-in-len1-up
returns-in-len1-up c =
    let w = c.args.word.now in
    c.is_among.ensures ∙ list_any-map (bytes_eq w) (λ k. k.now) c.keywords_from.result.now
    ∙ ap (list_any (bytes_eq w)) c.keywords_from.ensures ∙ is_keyword-first w (omega arith)
