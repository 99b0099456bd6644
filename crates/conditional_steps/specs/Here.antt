-- What is done where a condition is true.
use Rattle.std.specs.Prelude.{◌≡◌, Bool, true, false}
use Rattle.conditional.specs.Judgements.{Checked, fine, refused}

abbrev pub is_refused : {A Q : Type 0} → Checked A Q → Bool
is_refused (fine x) = false
is_refused (refused why) = true

-- a state goes on, or is refused, where a condition is true; elsewhere it stays so, and nothing is refused
pub record DoneHere {U : Type 0} (Stays : U → U → Type 0) (here : Bool) (Does : U → U → Bool → Type 0) (old new : U) (refused : Bool) : Type 0 where
  pub elsewhere : here ≡ false → Stays old new × (refused ≡ false)
  pub does : here ≡ true → Does old new refused

abbrev pub Unchanged : {U : Type 0} → U → U → Type 0
Unchanged {U} old new = new ≡ old

-- elsewhere nothing changes
abbrev pub Here : {U : Type 0} → Bool → (U → U → Bool → Type 0) → U → U → Bool → Type 0
Here {U} here Does old new declined = DoneHere (Unchanged {U = U}) here Does old new declined
