use Rattle.std.specs.Prelude.{◌≡◌, ℕ, List, []}
use Rattle.project_store.specs.declared.calls.Calls.{Calls}
use Rattle.project_store.specs.declared.memory_sink.MemorySink.{MemorySink}
use Rattle.project_store.specs.Calls.{IsFresh}
use Rattle.project_store.specs.States.{SinkState}

-- the bytes taken so far
abbrev pub taken_by : MemorySink → List ℕ
taken_by sink = sink.taken.items

-- the calls on the sink, and those that shall fail
abbrev pub calls_of : MemorySink → Calls
calls_of sink = sink.calls

-- how many calls failed
abbrev pub faults_of : MemorySink → ℕ
faults_of sink = sink.faults

-- what the sink tells and counts
abbrev pub state_of : MemorySink → SinkState
state_of sink = record {
  tells = Unit {0};
  taken = taken_by sink;
  exact = Unit {0};
  faults = faults_of sink;
  tells_room = ⊥;
  room = 0;
}

-- the sink took nothing, no call was made and no fault counted, and the calls with these numbers
-- shall fail
pub record IsNew (failing : List ℕ) (sink : MemorySink) : Type 0 where
  pub taken : taken_by sink ≡ []
  pub calls : IsFresh failing (calls_of sink)
  pub faults : faults_of sink ≡ 0
