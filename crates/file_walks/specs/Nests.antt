-- Not part of the meaning, but the same told line by line:
-- Which groups are open, as far as it says where lines may stand, and where a file breaks.
use Rattle.std.specs.Prelude.{ℕ, Bool, true, false, List, [], ◌∷◌, map, Option, Some, None, if◌then◌else◌}
use Rattle.c_text.specs.Lines.{PlainLine}
use Rattle.c_text.specs.Preprocessing.{Refusal, unbalanced, span_of_hash}
use Rattle.c_text.specs.Trees.{Role, begins, begins_branch, begins_last, closes, stands_alone, role_of}
use Rattle.file_walks.specs.Walk.{Open, is_last}

-- for each open group whether its branch is the one behind `#else`, the innermost first
abbrev pub Nest : Type 0
Nest = List Bool

-- the groups that are open behind a line; none where it fits no group
abbrev pub behind_branch : Bool → Nest → Option Nest
behind_branch last [] = None
behind_branch last (true ∷ outer) = None
behind_branch last (false ∷ outer) = Some (last ∷ outer)

abbrev pub behind_end : Nest → Option Nest
behind_end [] = None
behind_end (last ∷ outer) = Some outer

abbrev pub behind_role : Role → Nest → Option Nest
behind_role begins nest = Some (false ∷ nest)
behind_role begins_branch nest = behind_branch false nest
behind_role begins_last nest = behind_branch true nest
behind_role closes nest = behind_end nest
behind_role stands_alone nest = Some nest

abbrev pub nest_behind : Nest → PlainLine → Option Nest
nest_behind nest line = if line.directive then behind_role (role_of line.tokens) nest else Some nest

abbrev pub nest_of : List Open → Nest
nest_of groups = map is_last groups

-- the first line that fits no group, where these are open before the lines
abbrev pub by_place : Option Nest → PlainLine → (Nest → Option PlainLine) → Option PlainLine
by_place None line others = Some line
by_place (Some next) line others = others next

abbrev pub misplaced_in : Nest → List PlainLine → Option PlainLine
misplaced_in nest [] = None
misplaced_in nest (line ∷ lines) = by_place (nest_behind nest line) line (λ next. misplaced_in next lines)

-- the refusal where a file breaks at a line
abbrev pub break_at : ℕ → PlainLine → Refusal
break_at file line = record { kind = unbalanced; file = file; span = span_of_hash line.tokens line.span }

-- the same at its end
abbrev pub break_at_end : ℕ → ℕ → Refusal
break_at_end file length = record { kind = unbalanced; file = file; span = record { start = length; end = length } }

-- where a file of this length breaks, if this is its first line that fits no group
abbrev pub break_of : ℕ → ℕ → Option PlainLine → Refusal
break_of file length None = break_at_end file length
break_of file length (Some line) = break_at file line
