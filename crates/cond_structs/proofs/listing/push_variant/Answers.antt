use Rattle.std.proofs.Common.{arith, rules, ◌≡◌, ◌&&◌, ◌++◌, length, sym, ap, ap₂, ◌∙◌}
use Rattle.cond_formula.specs.Conditions.{condition_of, value}
use Rattle.conditional.specs.Entries.{seen, under}
use Rattle.cond_structs.specs.Listing.{declarations_at}
use Rattle.cond_structs.proofs.Listed.{nothing_more, three_parts, other_parts}
use Rattle.cond_structs.proofs.listing.push_variant.Goals as goal

pub returns-then-len-ne3 : goal.returns-then-len-ne3
returns-then-len-ne3 c = λ on.
    let other : length c.args.variant.now.parts.items ≡ 3 → ⊥ = λ e. c.if-len-ne3.true (omega (arith, c.len.ensures, e, c.args.variant.now.parts.ok.0)) in
    nothing_more (value on (condition_of c.args.here.now) && value on (condition_of c.args.variant.now.when)) (seen on (declarations_at on c.args.all.now.items))
    ∙ ap (λ l. seen on (declarations_at on c.args.all.now.items) ++ under (value on (condition_of c.args.here.now) && value on (condition_of c.args.variant.now.when)) l)
    (sym (other_parts on c.args.variant.now.parts.items other))

pub returns : goal.returns
returns c = λ on.
    let three : length c.args.variant.now.parts.items ≡ 3 = omega (arith, c.len.ensures, c.if-len-ne3.false, c.args.variant.now.parts.ok.0) in
    c.in_ok-push_parts.ensures on
    ∙ ap₂ (λ b l. seen on (declarations_at on c.args.all.now.items) ++ under b l)
    (c.in_ok-when.ensures on)
    (sym (three_parts on c.args.variant.now.parts.items c.index.result.now c.index-2.result.now three (search rules) (search rules)))
