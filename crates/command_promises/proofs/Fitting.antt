-- What is said without a file that is written fits a command that lists its status.
use Rattle.std.proofs.Common.{◌≡◌, ◌⊎◌, inl, inr, ℕ, ◌<◌, List, refl, arith}
use Rattle.std.specs.List.{Contains}
use Rattle.command_promises.specs.Sayings.{tells}
use Rattle.command_promises.specs.Commands.{Command, IsOwn, IsFit}

-- a status below those of faults, the one between them, or one above
pub is_own : (n : ℕ) → (n < 3) ⊎ ((n ≡ 5) ⊎ (7 < n)) → IsOwn n
is_own n (inl h) = record {
  no_read_fault = λ e. omega (arith, h, e);
  no_write_fault = λ e. omega (arith, h, e);
  no_sink_fault = λ e. omega (arith, h, e);
  no_want = λ e. omega (arith, h, e);
}
is_own n (inr (inl h)) = record {
  no_read_fault = λ e. omega (arith, h, e);
  no_write_fault = λ e. omega (arith, h, e);
  no_sink_fault = λ e. omega (arith, h, e);
  no_want = λ e. omega (arith, h, e);
}
is_own n (inr (inr h)) = record {
  no_read_fault = λ e. omega (arith, h, e);
  no_write_fault = λ e. omega (arith, h, e);
  no_sink_fault = λ e. omega (arith, h, e);
  no_want = λ e. omega (arith, h, e);
}

pub tells_fits : (command : Command) (status : ℕ) (report : List ℕ) → Contains command.statuses status → (status < 3) ⊎ ((status ≡ 5) ⊎ (7 < status)) → IsFit command (tells status report)
tells_fits command status report listed own = record { listed = listed; own = is_own status own; writes = inl refl }
