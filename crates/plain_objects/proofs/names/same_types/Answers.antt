use Rattle.std.proofs.Common.{◌≡◌, ◌+◌, ◌&&◌, Bool, true, false, map, drop, sym, ap, ◌∙◌, arith, rules}
use Rattle.c_types.specs.Types.{plain_type}
use Rattle.core_meaning.specs.UnitNames.{same_types}
use Rattle.plain_objects.proofs.TypeLists.{other_length, next_types, no_types_left}
use Rattle.plain_objects.proofs.names.same_types.Goals as goal

pub returns-then-a-b : goal.returns-then-a-b
returns-then-a-b c = sym (other_length c.args.a.now c.args.b.now c.if-a-b.true)

pub returns-then-not-same_type : goal.returns-then-not-same_type
returns-then-not-same_type c =
    let is_false : c.same_type.result ≡ false = search rules in
    let rest : Bool = same_types (map plain_type (drop (c.loop-i.i + 1) c.args.a.now)) (map plain_type (drop (c.loop-i.i + 1) c.args.b.now)) in
    sym (c.loop-i.invariant.left ∙ next_types c.args.a.now c.args.b.now c.index-a-i.result c.index-b-i.result c.loop-i.i (omega (arith, c.loop-i.invariant.all)) (omega (arith, c.loop-i.invariant.all, c.loop-i.invariant.long)) c.index-a-i.is c.index-b-i.is ∙ ap (λ same. same && rest) (sym c.same_type.ensures ∙ is_false))

pub loop-i-preserved : goal.loop-i-preserved
loop-i-preserved c =
    let is_true : c.same_type.result ≡ true = search rules in
    let rest : Bool = same_types (map plain_type (drop (c.loop-i.i + 1) c.args.a.now)) (map plain_type (drop (c.loop-i.i + 1) c.args.b.now)) in
    record {
      all = c.loop-i.invariant.all;
      long = c.loop-i.invariant.long;
      left = c.loop-i.invariant.left ∙ next_types c.args.a.now c.args.b.now c.index-a-i.result c.index-b-i.result c.loop-i.i (omega (arith, c.loop-i.invariant.all)) (omega (arith, c.loop-i.invariant.all, c.loop-i.invariant.long)) c.index-a-i.is c.index-b-i.is ∙ ap (λ same. same && rest) (sym c.same_type.ensures ∙ is_true);
    }

pub returns : goal.returns
returns c = sym (c.loop-i.invariant.left ∙ no_types_left c.args.a.now c.args.b.now c.loop-i.i (omega (arith, c.loop-i.invariant.all)) (omega (arith, c.loop-i.invariant.all, c.loop-i.invariant.long)))
