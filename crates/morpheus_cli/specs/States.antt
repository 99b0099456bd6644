-- What the current folder and standard output tell: nothing but their counts, which rise at faults alone.
use Rattle.std.specs.Prelude.{ℕ, [], None}
use Rattle.project_store.specs.States.{StoreState, SinkState}

abbrev pub folder_state : ℕ → ℕ → StoreState
folder_state read_faults write_faults = record {
  tells = ⊥;
  file = λ name. None;
  exact = Unit {0};
  read_faults = read_faults;
  write_faults = write_faults;
  tells_room = ⊥;
  names_left = 0;
  bytes_left = 0;
}

abbrev pub output_state : ℕ → SinkState
output_state faults =
    record { tells = ⊥; taken = []; exact = Unit {0}; faults = faults; tells_room = ⊥; room = 0 }
