-- A model of the code, not part of the meaning:
-- the walk of a configuration over the lines of a file, as it is seen in the walk of all configurations.
use Rattle.std.specs.Prelude.{ℕ, Bool, List, [], map, Option, Some, None, if◌then◌else◌}
use Rattle.cond_formula.specs.Conditions.{condition_of, value}
use Rattle.conditional.specs.Entries.{under}
use Rattle.c_text.specs.Token.{PlainToken, plain_token}
use Rattle.c_text.specs.Directives.{directive_of}
use Rattle.c_text.specs.Trees.{Role, begins, begins_branch, begins_last, closes, stands_alone}
use Rattle.c_text.specs.Preprocessing as spec
use Rattle.c_text.specs.Preprocessing.{Reading, Flow, Setting, on, then_read}
use Rattle.active_tokens.specs.Reads.{Read, Following, reads_of_inclusion}
use Rattle.file_walks.specs.Walk.{Walk}
use Rattle.unit_files.specs.Inclusions.{plain_source}
use Rattle.cond_pp.specs.declared.walk.CondWalker.{CondWalker}
use Rattle.cond_pp.specs.declared.walk.Inclusion.{Inclusion}
use Rattle.cond_readings.specs.Readings.{taken}
use Rattle.unit_files.specs.Settings.{entered}
use Rattle.cond_groups.specs.Groups.{AllFit, groups_of, open_at, read_in}
use Rattle.cond_pp.specs.Watches.{read_where}

-- the walk of a configuration with its reading
abbrev pub walk_at : (ℕ → Bool) → CondWalker → Reading → Walk
walk_at is_on w r = record {
  reading = r;
  run = under (value is_on (read_in (condition_of w.entered) (groups_of w.groups))) (map (λ t. plain_token t.now) w.run.items);
  groups = map (open_at is_on) (groups_of w.groups);
}

-- what comes of it with what is next, where the file is read
abbrev pub ahead : (ℕ → Bool) → CondWalker → (Walk → Flow) → Option Reading → Option Reading
ahead is_on w next r = taken (value is_on (condition_of w.entered)) (λ at. next (walk_at is_on w at)) r

-- the same, where a file may have to be read before
abbrev pub including : (ℕ → Bool) → Option (spec.Source → Reading → Flow) → Option Inclusion → Reading → Flow
including features deeper None r = on r
including features deeper (Some i) r =
    if value features (condition_of i.when) then entered deeper (Some (plain_source i.source)) r else on r

abbrev pub after_file : (ℕ → Bool) → Option (spec.Source → Reading → Flow) → Option Inclusion → (Walk → Flow) → Walk → Flow
after_file features deeper found next w = then_read (including features deeper found w.reading) (λ r. next (record w { reading = r }))

-- the conditions of its groups fit
abbrev pub IsFit : (ℕ → Bool) → CondWalker → Type 0
IsFit is_on w = AllFit is_on (condition_of w.entered) (groups_of w.groups)

-- what it reads with what is read next, where the file is read
abbrev pub reads_ahead : (ℕ → Bool) → CondWalker → (Walk → List Read) → Option Reading → List Read
reads_ahead is_on w next r = read_where (value is_on (condition_of w.entered)) (λ at. next (walk_at is_on w at)) r

-- what is read of a file that is read before
abbrev pub reads_included : (ℕ → Bool) → Option (spec.Source → Reading → List Read) → Option Inclusion → Reading → List Read
reads_included features deeper None r = []
reads_included features None (Some i) r = []
reads_included features (Some read) (Some i) r =
    if value features (condition_of i.when) then read (plain_source i.source) r else []

-- what is read of the file that a line includes
abbrev pub reads_named : Setting → Following → Role → Reading → List PlainToken → List Read
reads_named s f stands_alone r tokens = reads_of_inclusion s f r (directive_of tokens)
reads_named s f begins r tokens = []
reads_named s f begins_branch r tokens = []
reads_named s f begins_last r tokens = []
reads_named s f closes r tokens = []
