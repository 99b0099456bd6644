-- Which edits can't be made.
use Rattle.std.specs.Prelude.{ℕ, ◌==◌, min, max, Bool, true, ◌&&◌, ◌||◌, nat_lt, List, [], ◌∷◌, ◌++◌, length, position, Option, Some, None}
use Rattle.std.specs.List.{slice_get}
use Rattle.text_edits.specs.Span.{PlainSpan}
use Rattle.text_edits.specs.Files.{PlainFile}
use Rattle.file_edits.specs.Edits.{PlainEdit}

-- why edits aren't made, by their places in the list, from 0
pub data Fault : Type 0 where
  -- the file of the edit isn't there, or the edit's span ends past its end
  past_end : ℕ → Fault
  -- the two edits overlap
  overlap : ℕ → ℕ → Fault

-- whether a span with this end isn't within the file, if there is one
abbrev pub ends_past : ℕ → Option PlainFile → Bool
ends_past end None = true
ends_past end (Some f) = nat_lt (length f.bytes) end

abbrev pub is_past_end : List PlainFile → PlainEdit → Bool
is_past_end files edit = ends_past edit.span.end (slice_get files edit.file)

abbrev pub share_byte : PlainSpan → PlainSpan → Bool
share_byte a b = nat_lt (max a.start b.start) (min a.end b.end)

-- whether the first span is empty and lies strictly inside the second
abbrev pub is_inside : PlainSpan → PlainSpan → Bool
is_inside a b = a.start == a.end && nat_lt b.start a.start && nat_lt a.start b.end

abbrev pub spans_overlap : PlainSpan → PlainSpan → Bool
spans_overlap a b = share_byte a b || is_inside a b || is_inside b a

abbrev pub edits_overlap : PlainEdit → PlainEdit → Bool
edits_overlap a b = a.file == b.file && spans_overlap a.span b.span

abbrev pub or_overlap : Option ℕ → ℕ → Option Fault → Option Fault
or_overlap None second later = later
or_overlap (Some first) second later = Some (overlap first second)

-- Of the edits that overlap one before them the first, and the first edit that it overlaps; these edits stand before the others.
abbrev pub overlap_behind : List PlainEdit → List PlainEdit → Option Fault
overlap_behind before [] = None
overlap_behind before (edit ∷ edits) =
    or_overlap (position (edits_overlap edit) before) (length before) (overlap_behind (before ++ edit ∷ []) edits)

abbrev pub overlap_of : List PlainEdit → Option Fault
overlap_of edits = overlap_behind [] edits

abbrev pub or_past_end : Option ℕ → Option Fault → Option Fault
or_past_end None later = later
or_past_end (Some first) later = Some (past_end first)

-- The fault of edits of these files: the first edit past an end, and if there is none, the first two that overlap.
abbrev pub fault_of : List PlainFile → List PlainEdit → Option Fault
fault_of files edits = or_past_end (position (is_past_end files) edits) (overlap_of edits)
