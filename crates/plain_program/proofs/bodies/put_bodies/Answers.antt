use Rattle.std.proofs.Common.{◌≡◌, ◌∷◌, ◌++◌, [], map, sym, ap, ◌∙◌}
use Rattle.std.specs.Prelude.{Option}
use Rattle.std.proofs.lemmas.List.{map-append}
use Rattle.core_meaning.specs.Entities.{or_else}
use Rattle.core_meaning.specs.UnitNames.{Body}
use Rattle.plain_link.specs.PlainDefinitions.{plain_defined}
use Rattle.plain_program.specs.Bodies.{held, whole_for, one_for}
use Rattle.plain_program.proofs.BodyLaws.{or_else_assoc, whole_for_more}
use Rattle.plain_program.proofs.bodies.put_bodies.Goals as goal

pub loop-defined-preserved : goal.loop-defined-preserved
loop-defined-preserved c = λ globals key.
    let ds = map (plain_defined globals) c.pop.new.self.items in
    let d = plain_defined globals c.in-Some.defined in
    let all : map (plain_defined globals) c.loop-defined.rest.items ≡ ds ++ d ∷ [] =
    ap (map (plain_defined globals)) c.in-Some.ensures.items ∙ map-append (plain_defined globals) c.pop.new.self.items (c.in-Some.defined ∷ []) in
    let old = held globals c.loop-defined.bodies key in
    ap (or_else (whole_for c.args.index ds key)) (c.in_ok-put_body.ensures globals key)
    ∙ sym (or_else_assoc (whole_for c.args.index ds key) (one_for c.args.index d key) old)
    ∙ ap (λ (b : Option Body). or_else b old) (sym (whole_for_more c.args.index ds d key))
    ∙ ap (λ all. or_else (whole_for c.args.index all key) old) (sym all)
    ∙ c.loop-defined.invariant globals key
