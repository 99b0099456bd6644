-- Not part of the meaning, but the same reading told line by line:
-- The walk over the lines of one file, a line at a time, with the groups that are open.
use Rattle.std.specs.Prelude.{Bool, true, false, List, [], ◌∷◌, ◌++◌, drop, Option, None, if◌then◌else◌}
use Rattle.c_text.specs.Token.{PlainToken}
use Rattle.c_text.specs.Lines.{PlainLine}
use Rattle.c_text.specs.Trees.{Role, begins, begins_branch, begins_last, closes, stands_alone, role_of}
use Rattle.c_text.specs.Preprocessing.{Reading, Refusal, Flow, Setting, on, refused, then_read, unless, read_run, read_directive, condition_at, by_condition, refused_ignored}

-- an open group: what is done with the branch that is walked, and whether that is the one behind `#else`
pub data Open : Type 0 where
  reads : Bool → Open
  waits : Bool → Open
  passed : Bool → Open
  skipped : Bool → Open

-- where a walk stands: what was read, the tokens since the last directive line, and the open groups, the innermost first
pub record Walk : Type 0 where
  pub reading : Reading
  pub run : List PlainToken
  pub groups : List Open

-- whether lines are read there
abbrev pub are_read : List Open → Bool
are_read [] = true
are_read (reads last ∷ outer) = true
are_read (waits last ∷ outer) = false
are_read (passed last ∷ outer) = false
are_read (skipped last ∷ outer) = false

abbrev pub is_last : Open → Bool
is_last (reads last) = last
is_last (waits last) = last
is_last (passed last) = last
is_last (skipped last) = last

abbrev pub with_groups : Walk → List Open → Walk
with_groups w groups = record w { groups = groups }

abbrev pub with_run : Walk → List PlainToken → Walk
with_run w tokens = record w { run = w.run ++ tokens }

-- a line of no directive
abbrev pub text_read : Walk → PlainLine → Walk
text_read w line = if are_read w.groups then with_run w line.tokens else w

-- the tokens since the last directive line are read before a directive line
abbrev pub flushed : Walk → (Walk → Flow) → Flow
flushed w next = then_read (read_run w.reading w.run) (λ after. next (record w { reading = after; run = [] }))

-- what the last line of a group refuses
abbrev pub end_refusal : Open → PlainLine → Option Refusal
end_refusal (reads last) line = refused_ignored (drop 2 line.tokens)
end_refusal (waits last) line = refused_ignored (drop 2 line.tokens)
end_refusal (passed last) line = refused_ignored (drop 2 line.tokens)
end_refusal (skipped last) line = None

module _ (s : Setting) where
  -- what follows a line that begins a group or a branch which may be the first to be read
  abbrev pub begun : Walk → PlainLine → Bool → List Open → (Walk → Flow) → Flow
  begun w line last outer next =
      by_condition s (condition_at s.value_of w.reading.table line.tokens) (next (with_groups w (reads last ∷ outer)))
      (next (with_groups w (waits last ∷ outer)))

  abbrev pub group_read : Walk → PlainLine → (Walk → Flow) → Flow
  group_read w line next =
      if are_read w.groups then begun w line false w.groups next else next (with_groups w (skipped false ∷ w.groups))

  -- a branch of the innermost group, which is the one behind `#else` or isn't
  abbrev pub branch_read : Walk → PlainLine → Bool → List Open → (Walk → Flow) → Flow
  branch_read w line last [] next = refused s.broken
  branch_read w line last (reads false ∷ outer) next =
      unless (refused_ignored (drop 2 line.tokens)) (next (with_groups w (passed last ∷ outer)))
  branch_read w line last (waits false ∷ outer) next = begun w line last outer next
  branch_read w line last (passed false ∷ outer) next =
      unless (refused_ignored (drop 2 line.tokens)) (next (with_groups w (passed last ∷ outer)))
  branch_read w line last (skipped false ∷ outer) next = next (with_groups w (skipped last ∷ outer))
  branch_read w line last (reads true ∷ outer) next = refused s.broken
  branch_read w line last (waits true ∷ outer) next = refused s.broken
  branch_read w line last (passed true ∷ outer) next = refused s.broken
  branch_read w line last (skipped true ∷ outer) next = refused s.broken

  abbrev pub end_read : Walk → PlainLine → List Open → (Walk → Flow) → Flow
  end_read w line [] next = refused s.broken
  end_read w line (group ∷ outer) next = unless (end_refusal group line) (next (with_groups w outer))

  abbrev pub directive_read : Walk → PlainLine → (Walk → Flow) → Flow
  directive_read w line next =
      if are_read w.groups then then_read (read_directive s w.reading line.tokens) (λ after. next (record w { reading = after }))
      else next w

  abbrev pub by_role : Role → Walk → PlainLine → (Walk → Flow) → Flow
  by_role begins w line next = group_read w line next
  by_role begins_branch w line next = branch_read w line false w.groups next
  by_role begins_last w line next = branch_read w line true w.groups next
  by_role closes w line next = end_read w line w.groups next
  by_role stands_alone w line next = directive_read w line next

  -- one line, and then what is next
  abbrev pub step : Walk → PlainLine → (Walk → Flow) → Flow
  step w line next =
      if line.directive then flushed w (λ after. by_role (role_of line.tokens) after line next) else next (text_read w line)

  -- the end of the file
  abbrev pub end_of_file : List Open → Reading → Flow
  end_of_file [] r = on r
  end_of_file (group ∷ outer) r = refused s.broken

  abbrev pub finished : Walk → Flow
  finished w = flushed w (λ after. end_of_file after.groups after.reading)

  -- the lines from here to the end of the file
  abbrev pub walked : Walk → List PlainLine → Flow
  walked w [] = finished w
  walked w (line ∷ lines) = step w line (λ after. walked after lines)

-- before the first line
abbrev pub start : Reading → Walk
start r = record { reading = r; run = []; groups = [] }
