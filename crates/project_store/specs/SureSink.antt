use Rattle.std.specs.Prelude.{◌≡◌, ℕ, List, []}
use Rattle.project_store.specs.declared.sure_sink.SureSink.{SureSink}
use Rattle.project_store.specs.States.{SinkState}

-- the bytes taken so far
abbrev pub taken_by : SureSink → List ℕ
taken_by sink = sink.taken.items

-- how many further bytes the sink takes
abbrev pub room_of : SureSink → ℕ
room_of sink = sink.room

-- how many calls failed
abbrev pub faults_of : SureSink → ℕ
faults_of sink = sink.faults

-- what the sink tells and counts
abbrev pub state_of : SureSink → SinkState
state_of sink = record {
  tells = Unit {0};
  taken = taken_by sink;
  exact = Unit {0};
  faults = faults_of sink;
  tells_room = Unit {0};
  room = room_of sink;
}

-- the sink took nothing, has room for so many bytes, and counted no fault
pub record IsNew (bytes : ℕ) (sink : SureSink) : Type 0 where
  pub taken : taken_by sink ≡ []
  pub room : room_of sink ≡ bytes
  pub faults : faults_of sink ≡ 0
