use Rattle.std.proofs.Common.{◌∙◌, ◌∷◌, [], map, ap, sym}
use Rattle.std.proofs.lemmas.List.{map-append}
use Rattle.plain_parse.specs.Kept.{all_kept, with_kept}
use Rattle.plain_parse.specs.Frames.{plain_built}
use Rattle.plain_parse.proofs.KeptLemmas.{all_kept-push}
use Rattle.plain_parse.proofs.makings.low_parts.Goals as goal

pub loop-value-preserved : goal.loop-value-preserved
loop-value-preserved c =
    let so_far = map plain_built c.loop-value.yielded in
    let value = plain_built c.in-Some.value in (
      tt,
      tt,
      c.in_ok-parts.ensures
          ∙ ap (λ parts. with_kept parts value) c.loop-value.invariant.2
          ∙ sym (all_kept-push so_far value)
          ∙ ap all_kept (sym (map-append plain_built c.loop-value.yielded (c.in-Some.value ∷ []))),
    )
