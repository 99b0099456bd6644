use Rattle.std.specs.Prelude.{◌≡◌, ℕ, ◌<◌, List, length, Result, Ok, Err, ⊤}
use Rattle.project_store.specs.declared.sink.SinkFailed.{SinkFailed}

-- the sink failed, or took none of a piece that isn't empty
abbrev pub IsFault : Result ℕ SinkFailed → List ℕ → Type 0
IsFault (Ok n) piece = (n ≡ 0) × (0 < length piece)
IsFault (Err failed) piece = ⊤
