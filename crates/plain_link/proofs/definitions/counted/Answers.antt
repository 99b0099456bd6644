use Rattle.std.proofs.Common.{◌≡◌, ◌+◌, ◌∷◌, ◌++◌, [], length, map, take, sym, ap, ◌∙◌, arith}
use Rattle.std.proofs.lemmas.List.{take_more, length-take-le, length-map, map-append}
use Rattle.core_meaning.specs.Linking.{or_zero}
use Rattle.plain_scope.specs.PlainScope.{entry_of}
use Rattle.plain_link.specs.PlainDefinitions.{plain_defined}
use Rattle.plain_link.specs.Counts.{count_of}
use Rattle.plain_link.specs.declared.definitions.Defined.{Defined}
use Rattle.plain_link.proofs.CountLaws.{count_within, count_more, with_one_same}
use Rattle.plain_link.proofs.definitions.counted.Goals as goal

pub add-requires : goal.add-requires
add-requires c =
    let before = map (plain_defined 0) (take c.loop-defined.defined-index c.args.list.now) in
    let name = c.defined-item.result.name.items in
    let same : or_zero (entry_of c.loop-defined.counts name) ≡ or_zero (count_of before name) = ap or_zero (c.loop-defined.invariant name) in
    let within = count_within before name in
    let long : length before ≡ c.loop-defined.defined-index =
    length-map (take c.loop-defined.defined-index c.args.list.now) (plain_defined 0) ∙ length-take-le c.loop-defined.defined-index c.args.list.now (omega arith) in
    omega (arith, same, within, long)

pub loop-defined-preserved : goal.loop-defined-preserved
loop-defined-preserved c = λ name.
    let before = map (plain_defined 0) (take c.loop-defined.defined-index c.args.list.now) in
    let d = plain_defined 0 c.defined-item.result in
    let taken : map (plain_defined 0) (take (c.loop-defined.defined-index + 1) c.args.list.now) ≡ before ++ d ∷ [] =
    ap (map (plain_defined 0)) (take_more c.args.list.now c.loop-defined.defined-index c.defined-item.result (omega arith) ∙ ap (λ (x : Defined). take c.loop-defined.defined-index c.args.list.now ++ x ∷ []) (sym c.defined-item.is))
    ∙ map-append (plain_defined 0) (take c.loop-defined.defined-index c.args.list.now) (c.defined-item.result ∷ []) in
    c.in_ok-add.ensures name ∙ with_one_same (entry_of c.loop-defined.counts) (count_of before) d name c.loop-defined.invariant
    ∙ sym (count_more before d name) ∙ ap (λ ds. count_of ds name) (sym taken)
