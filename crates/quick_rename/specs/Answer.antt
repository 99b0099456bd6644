-- What a renaming answers of a file.
use Rattle.std.specs.Prelude.{◌≡◌, ℕ, List}
use Rattle.quick_form.specs.Renaming.{renamed_bytes, token_count}
use Rattle.quick_form.specs.Quick.{Takes}
use Rattle.quick_form.specs.Places.{IsFaultOfForm, IsPlace}
use Rattle.quick_rename.specs.declared.Answer.{Answer}
use Rattle.quick_rename.specs.declared.Answer.TheVariants.{Renamed, NotQuick}

-- the file is taken, and these are its bytes with new for every token old, and how many these are
pub record IsRenamed (old new bytes renamed : List ℕ) (tokens : ℕ) : Type 0 where
  pub takes : Takes old new bytes
  pub renamed_is : renamed ≡ renamed_bytes old new bytes
  pub tokens_are : tokens ≡ token_count old bytes

-- the answer to a renaming of old to new in a file with these bytes
abbrev pub AnswersRenaming : List ℕ → List ℕ → List ℕ → Answer → Type 0
AnswersRenaming old new bytes (Renamed renamed tokens) = IsRenamed old new bytes renamed.items tokens
AnswersRenaming old new bytes (NotQuick offset) = Takes old new bytes → ⊥

-- where the file isn't taken, the offset is the place of its fault
abbrev pub HasPlace : List ℕ → List ℕ → List ℕ → Answer → Type 0
HasPlace old new bytes (Renamed renamed tokens) = Unit {0}
HasPlace old new bytes (NotQuick offset) = IsPlace old new bytes offset

-- the answer to a file with too many bytes
abbrev pub AnswersLongFile : List ℕ → Answer → Type 0
AnswersLongFile bytes (Renamed renamed tokens) = ⊥
AnswersLongFile bytes (NotQuick offset) = IsFaultOfForm bytes offset
