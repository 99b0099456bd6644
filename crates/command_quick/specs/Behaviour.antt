-- What holds of a renamed file that was written.
use Rattle.std.specs.Prelude.{◌≡◌, List, ℕ, Some}
use Rattle.quick_form.specs.Quick.{KeepsBehaviour}
use Rattle.text_edits.specs.Files.{Lookup}
use Rattle.command_quick.specs.Words.{Renaming, target}

-- In every configuration the file that was read and the one that stands under its new name are accepted alike and run alike.
abbrev pub BehaviourIsKept : Renaming → Lookup → Lookup → Type 0
BehaviourIsKept r before after =
    (bytes renamed : List ℕ) → before r.file ≡ Some bytes → after (target r) ≡ Some renamed → KeepsBehaviour bytes renamed
