-- Not part of the meaning, but the same told line by line:
-- What the walk over the lines of one file reads outside every skipped group. A line is given what is read behind it, as in
-- `file_walks`, and behind a refusal nothing is read.
use Rattle.std.specs.Prelude.{Bool, true, false, List, [], ◌∷◌, ◌++◌, map, drop, if◌then◌else◌}
use Rattle.std.specs.List.{flat_map}
use Rattle.c_text.specs.Lines.{PlainLine}
use Rattle.c_text.specs.Trees.{Role, begins, begins_branch, begins_last, closes, stands_alone, role_of}
use Rattle.c_text.specs.Preprocessing.{Setting, read_run, read_directive, condition_at, refused_ignored}
use Rattle.active_tokens.specs.Reads.{Read, read_of, reads_behind, unless_refused, Following, reads_of_directive, by_truth}
use Rattle.file_walks.specs.Walk.{Walk, Open, reads, waits, passed, skipped, are_read, with_groups, text_read}

-- the tokens since the last directive line, before a directive line or the end of the file
abbrev pub reads_at_flush : Walk → (Walk → List Read) → List Read
reads_at_flush w next =
    read_of w.reading w.run ∷ reads_behind (read_run w.reading w.run) (λ after. next (record w { reading = after; run = [] }))

-- a conditional line of which only the name counts: that of a branch that is passed over, or the end of a group
abbrev pub reads_at_name : Walk → PlainLine → List Read → List Read
reads_at_name w line later = read_of w.reading line.tokens ∷ unless_refused (refused_ignored (drop 2 line.tokens)) later

-- a line that fits no group: the file is read no further
abbrev pub reads_at_misplaced : Walk → PlainLine → List Read
reads_at_misplaced w line = read_of w.reading line.tokens ∷ []

-- the end of the innermost group
abbrev pub reads_at_end : Walk → PlainLine → List Open → (Walk → List Read) → List Read
reads_at_end w line [] next = reads_at_misplaced w line
reads_at_end w line (reads last ∷ outer) next = reads_at_name w line (next (with_groups w outer))
reads_at_end w line (waits last ∷ outer) next = reads_at_name w line (next (with_groups w outer))
reads_at_end w line (passed last ∷ outer) next = reads_at_name w line (next (with_groups w outer))
reads_at_end w line (skipped last ∷ outer) next = next (with_groups w outer)

module _ (s : Setting) (f : Following) where
  -- a line that begins a group or a branch which may be the first to be read
  abbrev pub reads_at_begun : Walk → PlainLine → Bool → List Open → (Walk → List Read) → List Read
  reads_at_begun w line last outer next =
      read_of w.reading line.tokens
      ∷ by_truth s f (condition_at s.value_of w.reading.table line.tokens) (next (with_groups w (reads last ∷ outer)))
      (next (with_groups w (waits last ∷ outer)))

  -- a line that begins a group
  abbrev pub reads_at_group : Walk → PlainLine → (Walk → List Read) → List Read
  reads_at_group w line next =
      if are_read w.groups then reads_at_begun w line false w.groups next else next (with_groups w (skipped false ∷ w.groups))

  -- a branch of the innermost group, which is the one behind `#else` or isn't
  abbrev pub reads_at_branch : Walk → PlainLine → Bool → List Open → (Walk → List Read) → List Read
  reads_at_branch w line last [] next = reads_at_misplaced w line
  reads_at_branch w line last (reads false ∷ outer) next = reads_at_name w line (next (with_groups w (passed last ∷ outer)))
  reads_at_branch w line last (waits false ∷ outer) next = reads_at_begun w line last outer next
  reads_at_branch w line last (passed false ∷ outer) next = reads_at_name w line (next (with_groups w (passed last ∷ outer)))
  reads_at_branch w line last (skipped false ∷ outer) next = next (with_groups w (skipped last ∷ outer))
  reads_at_branch w line last (reads true ∷ outer) next = reads_at_misplaced w line
  reads_at_branch w line last (waits true ∷ outer) next = []
  reads_at_branch w line last (passed true ∷ outer) next = []
  reads_at_branch w line last (skipped true ∷ outer) next = []

  -- a directive line that belongs to no group
  abbrev pub reads_at_directive : Walk → PlainLine → (Walk → List Read) → List Read
  reads_at_directive w line next =
      if are_read w.groups
      then reads_of_directive s f w.reading line.tokens ++ reads_behind (read_directive s w.reading line.tokens) (λ after. next (record w { reading = after }))
      else next w

  abbrev pub reads_by_role : Role → Walk → PlainLine → (Walk → List Read) → List Read
  reads_by_role begins w line next = reads_at_group w line next
  reads_by_role begins_branch w line next = reads_at_branch w line false w.groups next
  reads_by_role begins_last w line next = reads_at_branch w line true w.groups next
  reads_by_role closes w line next = reads_at_end w line w.groups next
  reads_by_role stands_alone w line next = reads_at_directive w line next

  -- one line, and then what is next
  abbrev pub reads_of_step : Walk → PlainLine → (Walk → List Read) → List Read
  reads_of_step w line next =
      if line.directive then reads_at_flush w (λ after. reads_by_role (role_of line.tokens) after line next)
      else next (text_read w line)

  -- the lines from here to the end of the file
  abbrev pub reads_of_walk : Walk → List PlainLine → List Read
  reads_of_walk w [] = reads_at_flush w (λ after. [])
  reads_of_walk w (line ∷ lines) = reads_of_step w line (λ after. reads_of_walk after lines)

-- reads of one token each, in the same order and with the same macros
abbrev pub one_by_one : Read → List Read
one_by_one read = map (λ token. record read { tokens = token ∷ [] }) read.tokens

abbrev pub by_token : List Read → List Read
by_token all = flat_map one_by_one all
