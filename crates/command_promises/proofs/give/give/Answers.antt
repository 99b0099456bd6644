use Rattle.std.proofs.Common.{arith, ◌∙◌}
use Rattle.command_promises.proofs.Giving.{given_more, took_front, piece_within, piece_some, none_fits}
use Rattle.command_promises.proofs.Writing.{on_err_known}
use Rattle.command_promises.proofs.give.give.Goals as goal

pub loop-given-preserved : goal.loop-given-preserved
loop-given-preserved g c =
    let inv = c.loop-given.invariant in
    let e = c.in_ok-n.ensures in
    record {
      within = piece_within c.args.bytes.now c.loop-given.given c.in_ok-n.n inv.within e.count;
      told = λ t. e.told (inv.told t);
      taken = λ t. given_more c.args.bytes.now _ _ _ c.loop-given.given c.in_ok-n.n (inv.taken t) (e.ok (inv.told t));
      exact = λ x. e.exact (inv.exact x);
      stood = λ x. e.cause.stood (inv.exact x) (λ bad. c.if-n-eq0.false bad.0) ∙ inv.stood x;
      faults = let h = e.cause.kept in omega (arith, h, inv.faults);
      room_told = λ t. e.room_told (inv.room_told t);
      room = λ t. let h = e.room (inv.room_told t) in let k = inv.room t in omega (arith, h, k);
    }

pub returns-in_err-n-clause-front : goal.returns-in_err-n-clause-front
returns-in_err-n-clause-front g c =
    let inv = c.loop-given.invariant in
    let e = c.in_err-n.ensures in
    on_err_known c.from_residual.result (record {
      rose = let r = e.cause.rose tt in omega (arith, r, inv.faults);
      front = λ t. took_front c.args.bytes.now _ _ c.loop-given.given (e.err (inv.told t) ∙ inv.taken t);
      lacks = λ t. let full = e.full (inv.room_told t) in let k = inv.room t in omega (arith, full, k, c.loop-given-test.true);
    })

pub returns-then-n-eq0-clause-front : goal.returns-then-n-eq0-clause-front
returns-then-n-eq0-clause-front g c =
    let inv = c.loop-given.invariant in
    let e = c.in_ok-n.ensures in
    let some = piece_some c.args.bytes.now c.loop-given.given c.loop-given-test.true in
    record {
      rose = let r = e.cause.rose (c.if-n-eq0.true, some) in omega (arith, r, inv.faults);
      front = λ t. took_front c.args.bytes.now _ _ _ (given_more c.args.bytes.now _ _ _ c.loop-given.given c.in_ok-n.n (inv.taken t) (e.ok (inv.told t)));
      lacks = λ t. none_fits _ _ _ _ _ _ c.if-n-eq0.true (e.fits (inv.room_told t)) some (inv.room t) c.loop-given-test.true;
    }
