-- The open groups, and what is done with them in a configuration.
use Rattle.std.specs.Prelude.{◌≡◌, ℕ, Bool, true, false, List, [], ◌∷◌, map, reverse, All, IsTrue, Option, Some, None, if◌then◌else◌}
use Rattle.c_text.specs.Trees.{Role, begins, begins_branch, begins_last, closes, stands_alone}
use Rattle.cond_formula.specs.Conditions.{Condition, condition_of, value}
use Rattle.file_walks.specs.Walk.{Open, reads, waits, passed, skipped}
use Rattle.cond_groups.specs.declared.groups.CondGroup.{CondGroup}
use Rattle.cond_groups.specs.declared.groups.OpenGroups.{OpenGroups}

-- a group, with its conditions as trees
pub record PlainGroup : Type 0 where
  pub within : Condition
  pub reads_when : Condition
  pub waits_when : Condition
  pub last : Bool

abbrev pub plain_group : CondGroup → PlainGroup
plain_group g = record { within = condition_of g.within; reads_when = condition_of g.reads; waits_when = condition_of g.waits; last = g.last }

-- what is done with the branch where the walk is
abbrev pub level_at : Bool → Bool → Bool → Bool → Open
level_at false is_read waiting last = skipped last
level_at true true waiting last = reads last
level_at true false true last = waits last
level_at true false false last = passed last

abbrev pub open_at : (ℕ → Bool) → PlainGroup → Open
open_at on g = level_at (value on g.within) (value on g.reads_when) (value on g.waits_when) g.last

-- The conditions of a group in a file that is entered under a condition: a branch is read, or waits, where the group is within
-- what is read, and a branch that waits isn't read.
pub record Fits (on : ℕ → Bool) (entered : Condition) (g : PlainGroup) : Type 0 where
  pub inside : IsTrue (value on g.within) → IsTrue (value on entered)
  pub reads : IsTrue (value on g.reads_when) → IsTrue (value on g.within)
  pub waits : IsTrue (value on g.waits_when) → IsTrue (value on g.within)
  pub apart : IsTrue (value on g.waits_when) → value on g.reads_when ≡ false

abbrev pub AllFit : (ℕ → Bool) → Condition → List PlainGroup → Type 0
AllFit on entered groups = All (λ g. Fits on entered g) groups

-- where lines are read
abbrev pub read_in : Condition → List PlainGroup → Condition
read_in entered [] = entered
read_in entered (g ∷ outer) = g.reads_when

-- where a directive line is read: a branch or the end of a group wherever the group is; behind `#else` only where that branch is
abbrev pub branch_read_in : Condition → List PlainGroup → Condition
branch_read_in entered [] = entered
branch_read_in entered (g ∷ outer) = if g.last then g.reads_when else g.within

abbrev pub end_read_in : Condition → List PlainGroup → Condition
end_read_in entered [] = entered
end_read_in entered (g ∷ outer) = g.within

abbrev pub line_read_in : Role → Condition → List PlainGroup → Condition
line_read_in begins entered groups = read_in entered groups
line_read_in begins_branch entered groups = branch_read_in entered groups
line_read_in begins_last entered groups = branch_read_in entered groups
line_read_in closes entered groups = end_read_in entered groups
line_read_in stands_alone entered groups = read_in entered groups

abbrev pub innermost : List PlainGroup → Option PlainGroup
innermost [] = None
innermost (g ∷ outer) = Some g

abbrev pub left : List PlainGroup → List PlainGroup
left [] = []
left (g ∷ outer) = outer

-- the open groups, the innermost first
abbrev pub groups_of : OpenGroups → List PlainGroup
groups_of g = map plain_group (reverse g.groups.items)
