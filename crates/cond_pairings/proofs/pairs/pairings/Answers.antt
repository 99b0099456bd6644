use Rattle.std.proofs.Common.{◌+◌, ◌++◌, [], map, drop, sym, ap, ◌∙◌, arith}
use Rattle.std.specs.Prelude.{if◌then◌else◌}
use Rattle.std.proofs.lemmas.List.{drop_all}
use Rattle.cond_formula.specs.Conditions.{condition_of, value}
use Rattle.cond_bindings.specs.Bindings.{plain_identifier, plain_meaning, declared_by, pairings_at}
use Rattle.cond_pairings.specs.Pairs.{pair_with, declared_pairs, pairs_seen}
use Rattle.cond_pairings.proofs.Walks.{one_of, append_none}
use Rattle.cond_pairings.proofs.Firsts.{identifier_more}
use Rattle.cond_pairings.proofs.pairs.pairings.Goals as goal

pub loop-i-preserved : goal.loop-i-preserved
loop-i-preserved c = λ on.
    let items = c.deref-i-items.result.now in
    let ds = c.args.unit.now.declarations.items in
    identifier_more on ds c.i-item.result (drop (c.loop-i.i-index + 1) items) c.loop-i.all.items c.pair.new.all.items _
    (c.in_ok-pair.ensures on ∙ ap (λ list. pairs_seen on c.loop-i.all.items
    ++ (if value on (condition_of c.i-item.result.when) then pair_with c.i-item.result.number (declared_by on c.i-item.result.number (plain_meaning list c.i-item.result.meaning)) else [])) c.deref.ensures.value)
    (ap (λ list. pairs_seen on c.loop-i.all.items ++ declared_pairs (pairings_at on (map (plain_identifier ds) list))) (sym (one_of items c.i-item.result c.loop-i.i-index c.loop-i-test.true c.i-item.is)) ∙ c.loop-i.invariant on)

pub returns : goal.returns
returns c = λ on.
    let items = c.deref-i-items.result.now in
    let ds = c.args.unit.now.declarations.items in
    sym (append_none (pairs_seen on c.loop-i.all.items))
    ∙ (ap (λ list. pairs_seen on c.loop-i.all.items ++ declared_pairs (pairings_at on (map (plain_identifier ds) list))) (sym (drop_all c.loop-i.i-index items (omega (arith, c.loop-i-test.false))))
    ∙ (c.loop-i.invariant on ∙ ap (λ list. declared_pairs (pairings_at on (map (plain_identifier ds) list))) c.deref-i-items.ensures.value))
