use Rattle.std.proofs.Common.{◌≡◌, ℕ, ◌+◌, ◌≤◌, List, length, drop}
use Rattle.text_edits.specs.Files.{plain_files}
use Rattle.tied_tokens.specs.Tokens.{plain_file_tokens}
use Rattle.reference_classes.specs.Renamed.{count_files}
use Rattle.class_edits.specs.Listed.{renaming_of}
use Rattle.class_edits.proofs.renaming.count_touched.Given as goal

abbrev pub invariant-loop-number : goal.invariant-loop-number
invariant-loop-number l = record {
  whole : l.number-end ≡ length l.files.list.items;
  counted : (old new : List ℕ) → l.count + count_files (renaming_of (length l.files.list.items) (plain_file_tokens l.tokens) old new) l.number (drop l.number (plain_files l.files))
      ≡ count_files (renaming_of (length l.files.list.items) (plain_file_tokens l.tokens) old new) 0 (plain_files l.files);
  few : l.count ≤ l.number;
}
