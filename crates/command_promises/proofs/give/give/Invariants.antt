use Rattle.std.proofs.Common.{length, take, ◌-◌, ◌≡◌, ◌++◌, ◌≤◌, ◌+◌}
use Rattle.command_promises.proofs.give.give.Given as goal

-- the sink took what is given so far
abbrev pub invariant-loop-given : goal.invariant-loop-given
invariant-loop-given g l =
    let K = g.K.Sink in
    record {
      within : l.given ≤ length l.bytes;
      told : (K.state l.fn.out).tells → (K.state l.out).tells;
      taken : (K.state l.fn.out).tells → (K.state l.out).taken ≡ (K.state l.fn.out).taken ++ take l.given l.bytes;
      exact : (K.state l.fn.out).exact → (K.state l.out).exact;
      stood : (K.state l.fn.out).exact → (K.state l.out).faults ≡ (K.state l.fn.out).faults;
      faults : (K.state l.fn.out).faults ≤ (K.state l.out).faults;
      room_told : (K.state l.fn.out).tells_room → (K.state l.out).tells_room;
      room : (K.state l.fn.out).tells_room → (K.state l.out).room + l.given ≡ (K.state l.fn.out).room;
    }

abbrev pub decreases-loop-given : goal.decreases-loop-given
decreases-loop-given g l = length l.bytes - l.given
