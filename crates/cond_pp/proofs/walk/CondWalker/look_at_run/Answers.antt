use Rattle.std.proofs.Common.{Bool, [], ◌∷◌, ◌||◌, map, ap, ◌∙◌}
use Rattle.std.specs.Prelude.{option_map}
use Rattle.std.specs.String.{string_bytes}
use Rattle.cond_formula.specs.Features.{has}
use Rattle.cond_formula.specs.Conditions.{Condition, condition_of, value}
use Rattle.c_text.specs.Token.{plain_token}
use Rattle.active_tokens.specs.Reads.{read_of}
use Rattle.cond_readings.specs.Readings.{reading_at}
use Rattle.cond_groups.specs.Groups.{groups_of, read_in}
use Rattle.cond_pp.specs.Watches.{plain_sought, is_read_in, read_where}
use Rattle.cond_groups.specs.GroupLaws.{read-inside}
use Rattle.cond_pp.proofs.SeenLemmas.{seen-run}
use Rattle.cond_pp.proofs.walk.CondWalker.look_at_run.Goals as goal

pub returns-clause-found : goal.returns-clause-found
returns-clause-found c =
    λ k fit.
    let on = has k in
    let self = c.args.self.now in
    let at = condition_of self.entered in
    let groups = groups_of self.groups in
    let before = value on (condition_of c.args.watch.now.found) in
    let sought = option_map plain_sought c.args.watch.now.sought in
    let o = reading_at on (map string_bytes c.args.place.now.features.now) c.args.reading.now in
    let h = value on (read_in at groups) in
    c.in_ok-look_at_run.ensures.found k
    ∙ ap (λ (here : Condition). before || is_read_in sought (read_where (value on here) (λ r. read_of r (map (λ t. plain_token t.now) c.as_slice.result.now) ∷ []) o)) c.here-here.ensures
    ∙ ap (λ ts. before || is_read_in sought (read_where h (λ r. read_of r (map (λ t. plain_token t.now) ts) ∷ []) o)) c.as_slice.ensures.value
    ∙ ap (λ (b : Bool). before || b) (seen-run sought h (value on at) (map (λ t. plain_token t.now) self.run.items) o (λ there. read-inside on at groups fit there))
