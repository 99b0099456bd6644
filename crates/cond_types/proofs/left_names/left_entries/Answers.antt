use Rattle.std.proofs.Common.{List, [], sym, subst}
use Rattle.std.specs.List.{AllZip}
use Rattle.std.proofs.lemmas.List.{take_all}
use Rattle.type_tables.specs.declared.entries.CondName.{CondName}
use Rattle.cond_types.specs.Leaving.{IsLeftAs}
use Rattle.cond_types.proofs.LeftNames.{one_more_left}
use Rattle.cond_types.proofs.left_names.left_entries.Goals as goal

pub loop-n-init : goal.loop-n-init
loop-n-init c = subst (AllZip (IsLeftAs c.args.earlier) []) (sym c.in_ok-left.ensures.items) tt

pub loop-n-preserved : goal.loop-n-preserved
loop-n-preserved c =
    one_more_left c.args.earlier c.args.declared.now c.loop-n.left.items c.push.new.self.items c.loop-n.n-index c.n-item.result c.in_ok-entry.entry c.loop-n-test.true c.n-item.is
    c.loop-n.invariant c.in_ok-entry.ensures c.in_ok-push.ensures.items

pub returns : goal.returns
returns c = subst (λ (names : List CondName). AllZip (IsLeftAs c.args.earlier) names c.loop-n.left.items) (take_all c.loop-n.n-index c.args.declared.now c.loop-n-test.false) c.loop-n.invariant
