use Rattle.std.proofs.Common.{Bool, map, sym, subst}
use Rattle.cond_formula.specs.Conditions.{condition_of, value}
use Rattle.tied_tokens.specs.Ties.{plain_declared_name}
use Rattle.told_ties.specs.Ties.{named_seen}
use Rattle.class_captures.specs.Captures.{TellsCaptures}
use Rattle.class_captures.proofs.Captured.{either-told}
use Rattle.class_captures.proofs.captures.where_told_captured.Goals as goal

pub returns : goal.returns
returns c = λ on.
    let before = c.args.before.now in
    let after = c.args.after.now in
    let class = c.args.class.now in
    let seen = named_seen on (map plain_declared_name c.args.names.now) in
    subst (λ (b : Bool). TellsCaptures b on before after class c.args.old.now c.args.new.now seen) (sym (c.in_ok-f.ensures on))
    (either-told on before after class c.args.old.now c.args.new.now seen (value on (condition_of c.in_ok-bound.bound)) (value on (condition_of c.in_ok-linked.linked)) (c.in_ok-bound.ensures on)
    (c.in_ok-linked.ensures on))
