use Rattle.std.proofs.Common.{◌+◌, ◌++◌, drop, ap, sym, ◌∙◌}
use Rattle.cond_formula.specs.Conditions.{condition_of, value}
use Rattle.conditional.specs.Entries.{seen, under, entries_of}
use Rattle.cond_pairings.specs.Pairs.{pairs_seen}
use Rattle.cond_selections.specs.Selected.{plain_selection}
use Rattle.cond_name_spaces.specs.Spaced.{plain_name}
use Rattle.member_pairs.specs.Members.{declares_member, pairs_of_use}
use Rattle.member_pairs.proofs.Joining.{declared_too, passed_over, at_end}
use Rattle.member_pairs.proofs.pairs.push_use.Goals as goal
use Rattle.member_pairs.proofs.pairs.push_use.Goals.{then-declares+in_ok-push, else-declares}

pub loop-declared-preserved : goal.loop-declared-preserved
loop-declared-preserved c on =
    let here = value on (condition_of c.args.one.now.when) in
    let u = plain_selection c.args.one.now.what in
    let d = c.declared-item.result in
    let answer = ap (λ t. declares_member c.args.tag.now t (plain_name d.what)) (sym c.deref.ensures.value) ∙ sym c.declares.ensures in
    elim c.if-declares.branch [
      | then-declares+in_ok-push w ↦ rw w.all-is
          (ap (λ l. l ++ under here (pairs_of_use c.args.tag.now u (seen on (entries_of plain_name (drop (c.loop-declared.declared-index + 1) c.args.names.now))))) (w.in_ok-push.ensures on)
          ∙ declared_too on here c.args.tag.now u c.args.names.now d c.loop-declared.declared-index c.loop-declared-test.true c.declared-item.is (pairs_seen on c.loop-declared.all.items) _ (answer ∙ w.if-declares.true) (c.loop-declared.invariant on))
      | else-declares w ↦ rw w.all-is
          (passed_over on here c.args.tag.now u c.args.names.now d c.loop-declared.declared-index c.loop-declared-test.true c.declared-item.is (pairs_seen on c.loop-declared.all.items) _ (answer ∙ w.if-declares.false) (c.loop-declared.invariant on))
    ]

pub returns : goal.returns
returns c on =
    at_end on (value on (condition_of c.args.one.now.when)) c.args.tag.now (plain_selection c.args.one.now.what) c.args.names.now c.loop-declared.declared-index
    (pairs_seen on c.loop-declared.all.items) _ c.loop-declared-test.false (c.loop-declared.invariant on)
