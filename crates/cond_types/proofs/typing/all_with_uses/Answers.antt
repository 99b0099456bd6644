use Rattle.std.proofs.Common.{◌≡◌, [], ◌∷◌, ◌++◌, length, map, rules, refl, subst}
use Rattle.link_faults.specs.declared.left.LeftUnit.{LeftUnit}
use Rattle.cond_bindings.specs.Bindings.{plain_use}
use Rattle.cond_types.specs.Uses.{uses_of_place}
use Rattle.cond_types.proofs.UseLemmas.{one_more}
use Rattle.cond_types.proofs.typing.all_with_uses.Goals as goal

pub loop-unit-preserved : goal.loop-unit-preserved
loop-unit-preserved c =
    let unit = c.in-Some.unit in
    let uses = c.in_ok-uses.uses in
    let many : c.len-in-loop-unit.result ≡ length c.loop-unit.left.items = search rules in
    let left : LeftUnit = record { when = unit.when; names = unit.names; defined = unit.defined; uses = uses } in
    one_more c.args.bound.now c.loop-unit.yielded (c.loop-unit.yielded ++ unit ∷ []) c.loop-unit.left.items c.push.new.self.items unit left c.loop-unit.invariant
    (record { when = refl; names = refl; defined = refl; used = subst (λ n. map plain_use uses.items ≡ uses_of_place c.args.bound.now n) many c.in_ok-uses.ensures }) refl c.in_ok-push.ensures.items
