use Rattle.std.proofs.Common.{◌≡◌, ◌∙◌, subst, arith}
use Rattle.grammar_moves.specs.PlainPlaces.{plain_place}
use Rattle.choice_states.specs.Seen.{seen_in}
use Rattle.choice_settling.specs.LeftOut.{LeftOut}
use Rattle.choice_settling.proofs.PlaceLemmas.{one_more_left_out}
use Rattle.choice_settling.proofs.places.left_out.Goals as goal

pub loop-read-preserved : goal.loop-read-preserved
loop-read-preserved c = record {
  elsewhere = λ on off. c.in_ok-push_nothing.ensures.elsewhere on off ∙ c.loop-read.invariant.elsewhere on off;
  left_out = λ out on here fits.
      one_more_left_out c.args.place c.args.count c.loop-read.read (plain_place c.behind_left_out.result)
      (seen_in on c.args.parts.now.items) (seen_in on c.loop-read.parts.items) (seen_in on c.push_nothing.new.parts.items)
      out c.loop-read-test.true c.behind_left_out.ensures (c.in_ok-push_nothing.ensures.pushed on here) (c.loop-read.invariant.left_out out on here fits);
}

pub returns-clause-left_out : goal.returns-clause-left_out
returns-clause-left_out c =
    let all : c.loop-read.read ≡ c.args.count = omega arith in
    λ out on here fits.
    subst (λ n. LeftOut n (plain_place c.args.place) (seen_in on c.args.parts.now.items) (seen_in on c.loop-read.parts.items)) all (c.loop-read.invariant.left_out out on here fits)
