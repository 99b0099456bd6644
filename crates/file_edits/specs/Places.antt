-- How the bytes of an edited file are written, from one place where something is put in to the next.
use Rattle.std.specs.Prelude.{◌≡◌, ⊤, ℕ, ◌<◌, ◌≤◌, min, max, Bool, true, false, not, ◌&&◌, nat_lt, List, [], ◌∷◌, map, filter, All, if◌then◌else◌}
use Rattle.text_edits.specs.Span.{plain_span}
use Rattle.file_edits.specs.declared.edit.Edit.{Edit}
use Rattle.file_edits.specs.Edits.{PlainEdit, is_empty, starts_at, texts, edits_of}
use Rattle.file_edits.specs.Faults.{edits_overlap}

-- an edit as definitions see it
abbrev pub plain_edit : Edit → PlainEdit
plain_edit e = record { file = e.file; span = plain_span e.span; text = e.text.items }

-- the edits of one file
abbrev pub edits_in : ℕ → List Edit → List PlainEdit
edits_in number edits = edits_of number (map plain_edit edits)

-- whether the span is empty, or isn't
abbrev pub is_kind : Bool → PlainEdit → Bool
is_kind true edit = is_empty edit
is_kind false edit = not (is_empty edit)

-- the texts of the edits at an offset whose spans are empty, or aren't
abbrev pub texts_at : Bool → ℕ → List PlainEdit → List ℕ
texts_at empty at edits = texts (filter (λ edit. is_kind empty edit && starts_at at edit) edits)

-- the greatest of an end and the ends of the edits at an offset
abbrev pub covered_to : ℕ → ℕ → List PlainEdit → ℕ
covered_to end at [] = end
covered_to end at (edit ∷ edits) = covered_to (if starts_at at edit then max end edit.span.end else end) at edits

-- the least of an offset and the starts of the edits behind another
abbrev pub next_start : ℕ → ℕ → List PlainEdit → ℕ
next_start next at [] = next
next_start next at (edit ∷ edits) =
    next_start (if nat_lt at edit.span.start then min next edit.span.start else next) at edits

-- no edit from before the offset goes on behind it
abbrev pub NoneReaches : ℕ → List PlainEdit → Type 0
NoneReaches at edits = All (λ edit. edit.span.start < at → edit.span.end ≤ at) edits

-- the edits are within a file of this length
abbrev pub AreWithin : ℕ → List PlainEdit → Type 0
AreWithin size edits = All (λ edit. edit.span.end ≤ size) edits

-- no two edits overlap
abbrev pub AreApart : List PlainEdit → Type 0
AreApart [] = ⊤
AreApart (edit ∷ edits) = All (λ other. edits_overlap other edit ≡ false) edits × AreApart edits
