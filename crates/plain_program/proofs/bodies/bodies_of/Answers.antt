use Rattle.std.proofs.Common.{◌≡◌, ◌∷◌, ◌++◌, [], map, length, sym, ap, ◌∙◌, arith}
use Rattle.std.specs.Prelude.{Option}
use Rattle.std.proofs.lemmas.List.{map-append, length-map}
use Rattle.core_meaning.specs.Entities.{or_else}
use Rattle.core_meaning.specs.UnitNames.{Body}
use Rattle.plain_link.specs.PlainDefinitions.{plain_defined}
use Rattle.plain_link.specs.PlainUnits.{plain_unit}
use Rattle.plain_program.specs.Bodies.{held, whole_for, body_for}
use Rattle.plain_program.proofs.BodyLaws.{or_else_assoc, body_for_more}
use Rattle.plain_program.proofs.bodies.bodies_of.Goals as goal

pub loop-unit-preserved : goal.loop-unit-preserved
loop-unit-preserved c = λ globals key.
    let us = map (plain_unit globals) c.pop.new.self.items in
    let u = plain_unit globals c.in-Some.unit in
    let all : map (plain_unit globals) c.loop-unit.rest.items ≡ us ++ u ∷ [] =
    ap (map (plain_unit globals)) c.in-Some.ensures.items ∙ map-append (plain_unit globals) c.pop.new.self.items (c.in-Some.unit ∷ []) in
    let old = held globals c.loop-unit.bodies key in
    let place : c.len.result ≡ length us = omega (arith, length-map c.pop.new.self.items (plain_unit globals)) in
    let put : held globals c.put_bodies.new.bodies key ≡ or_else (whole_for (length us) u.defined key) old =
    c.in_ok-put_bodies.ensures globals key
    ∙ ap (λ i. or_else (whole_for i (map (plain_defined globals) c.into_list.result.items) key) old) place
    ∙ ap (λ ds. or_else (whole_for (length us) (map (plain_defined globals) ds.items) key) old) c.into_list.ensures in
    ap (or_else (body_for us key)) put
    ∙ sym (or_else_assoc (body_for us key) (whole_for (length us) u.defined key) old)
    ∙ ap (λ (b : Option Body). or_else b old) (sym (body_for_more us u key))
    ∙ ap (λ all. or_else (body_for all key) old) (sym all)
    ∙ c.loop-unit.invariant globals key
