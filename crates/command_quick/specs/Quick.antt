-- The command `quick FILE OLD NEW OUT`: one name is made another in one file of the quick form, and the file is written into OUT.
use Rattle.std.specs.Prelude.{◌≡◌, ◌⊎◌, ℕ, true, List, [], ◌∷◌, ◌++◌, codes, decimal}
use Rattle.quick_form.specs.Renaming.{renamed_bytes, token_count}
use Rattle.quick_form.specs.Places.{IsPlace}
use Rattle.quick_form.specs.Quick.{Takes}
use Rattle.command_promises.specs.Courses.{Saying, Deed, reads, says, Course}
use Rattle.command_promises.specs.Sayings.{line, tells}
use Rattle.command_promises.specs.Commands.{Command}
use Rattle.command_quick.specs.Words.{Renaming, target, Asks}

-- these bytes are written for the file, with so many tokens renamed
abbrev pub says_renamed : Renaming → List ℕ → ℕ → Saying
says_renamed r bytes tokens = record {
  status = 0;
  report = line (codes "renamed " ++ decimal tokens ++ codes " tokens in 1 files");
  written = record { name = target r; bytes = bytes } ∷ [];
}

-- what is said where the file is taken
abbrev pub renames : Renaming → List ℕ → Saying
renames r bytes = says_renamed r (renamed_bytes r.old r.new bytes) (token_count r.old bytes)

-- what is said where it isn't, for what stands at this offset
abbrev pub refuses_at : ℕ → Saying
refuses_at offset = tells 12 (line (codes "not quick at " ++ decimal offset))

-- what is done where the file has these bytes
abbrev pub OfBytes : Renaming → List ℕ → Deed → Type 0
OfBytes r bytes deed =
    (Takes r.old r.new bytes × (deed ≡ says (renames r bytes)))
    ⊎ ((offset : ℕ) × IsPlace r.old r.new bytes offset × (deed ≡ says (refuses_at offset)))

-- the file is read, and then it is taken or it isn't
abbrev pub Does : Renaming → Course
Does r [] deed = deed ≡ reads r.file
Does r (source ∷ files) deed = OfBytes r source.bytes deed

abbrev pub quick : Command
quick = record { word = codes "quick"; Query = Renaming; Asks = Asks; Does = Does; statuses = 0 ∷ 12 ∷ []; writes = true }
