-- A file with one name made another, and its items with the same change.
use Rattle.std.specs.Prelude.{ℕ, List, [], ◌∷◌, map, if◌then◌else◌}
use Rattle.std.specs.List.{flat_map, join_with_byte, count_by}
use Rattle.std.specs.Str.{bytes_eq}
use Rattle.c_names.specs.Bytes.{newline}
use Rattle.quick_form.specs.Symbols.{Piece, Word, Other, Symbol, Name, pieces_of, solid_pieces, is_directive_line, lines_of, symbols_of, uses}
use Rattle.quick_form.specs.Form.{Operand, Named, Literal, Term, Sum, Statements, no_more, assignment, output, return_of, loop, group, choice, Items, no_item, variable, initialised, main_with, item_group, item_choice}

-- new for the word old, and any other word as it is
abbrev pub renamed_word : List ℕ → List ℕ → List ℕ → List ℕ
renamed_word old new w = if bytes_eq w old then new else w

-- the bytes of a piece, with new for the word old
abbrev pub renamed_piece : List ℕ → List ℕ → Piece → List ℕ
renamed_piece old new (Word w) = renamed_word old new w
renamed_piece old new (Other b) = b ∷ []

-- a directive line stays as it is
abbrev pub renamed_line : List ℕ → List ℕ → List ℕ → List ℕ
renamed_line old new line =
    if is_directive_line (solid_pieces line) then line else flat_map (renamed_piece old new) (pieces_of line)

-- the bytes with new for every token old, and every other byte as it is
abbrev pub renamed_bytes : List ℕ → List ℕ → List ℕ → List ℕ
renamed_bytes old new bytes = join_with_byte newline (map (renamed_line old new) (lines_of bytes))

-- a symbol with new for the name old; what directive lines test stays
abbrev pub renamed_symbol : List ℕ → List ℕ → Symbol → Symbol
renamed_symbol old new (Name x) = Name (renamed_word old new x)
renamed_symbol old new s = s

-- how many tokens are old, directive lines aside
abbrev pub token_count : List ℕ → List ℕ → ℕ
token_count old bytes = count_by (uses old) (symbols_of bytes)

-- Items with each name changed by a function; the names that groups test stay.
abbrev pub changed_operand : (List ℕ → List ℕ) → Operand → Operand
changed_operand f (Named x) = Named (f x)
changed_operand f (Literal d) = Literal d

abbrev pub changed_term : (List ℕ → List ℕ) → Term → Term
changed_term f t = record { subtracted = t.subtracted; operand = changed_operand f t.operand }

abbrev pub changed_sum : (List ℕ → List ℕ) → Sum → Sum
changed_sum f s = record { first = changed_operand f s.first; more = map (changed_term f) s.more }

abbrev pub changed_statements : (List ℕ → List ℕ) → Statements → Statements
changed_statements f no_more = no_more
changed_statements f (assignment x s rest) = assignment (f x) (changed_sum f s) (changed_statements f rest)
changed_statements f (output s rest) = output (changed_sum f s) (changed_statements f rest)
changed_statements f (return_of s rest) = return_of (changed_sum f s) (changed_statements f rest)
changed_statements f (loop s body rest) = loop (changed_sum f s) (changed_statements f body) (changed_statements f rest)
changed_statements f (group n body rest) = group n (changed_statements f body) (changed_statements f rest)
changed_statements f (choice n body other rest) =
    choice n (changed_statements f body) (changed_statements f other) (changed_statements f rest)

abbrev pub changed_items : (List ℕ → List ℕ) → Items → Items
changed_items f no_item = no_item
changed_items f (variable x rest) = variable (f x) (changed_items f rest)
changed_items f (initialised x d rest) = initialised (f x) d (changed_items f rest)
changed_items f (main_with body rest) = main_with (changed_statements f body) (changed_items f rest)
changed_items f (item_group n body rest) = item_group n (changed_items f body) (changed_items f rest)
changed_items f (item_choice n body other rest) =
    item_choice n (changed_items f body) (changed_items f other) (changed_items f rest)

-- the items with new for old
abbrev pub renamed_items : List ℕ → List ℕ → Items → Items
renamed_items old new items = changed_items (renamed_word old new) items
