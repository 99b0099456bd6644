-- A file has one place of `not quick` at most.
use Rattle.std.proofs.Common.{◌≡◌, inl, inr, ℕ, ◌+◌, ◌≤◌, Bool, true, false, cond, List, [], ◌∷◌, ◌++◌, length, take, drop, map, Option, Some, None, refl, sym, ap, ◌∙◌, subst, append_assoc, append-nil, arith}
use Rattle.std.proofs.lemmas.List.{take-append-drop, take-take, map-append}
use Rattle.std.specs.List.{flat_map}
use Rattle.quick_form.specs.Symbols.{Symbol, Piece, piece_bytes, pieces_of, piece_symbols, solid_pieces, is_directive_line, line_symbols, lines_of, symbols_of}
use Rattle.quick_form.specs.Form.{IsWritten, IsForm}
use Rattle.quick_form.specs.Places.{IsFormPrefix, Departs, IsFaultOfText, IsFaultOfForm, Placed, placed_pieces, placed_line, placed_lines, faulty_form, new_occurs, tested_occurs, old_undeclared, PlacesAreOne, PlacedSymbolsAreSpelled}

-- A front of what begins a file of the form begins one.
pub front_begins : (front back : List ℕ) → IsFormPrefix (front ++ back) → IsFormPrefix front
front_begins front back h = (back ++ h.0, subst (λ b. IsWritten (symbols_of b)) (append_assoc front back h.0) h.1)

pub shorter_begins : (n : ℕ) (bytes : List ℕ) → IsFormPrefix bytes → IsFormPrefix (take n bytes)
shorter_begins n bytes h = front_begins (take n bytes) (drop n bytes) (subst IsFormPrefix (sym (take-append-drop n bytes)) h)

pub form_begins : (bytes : List ℕ) → IsWritten (symbols_of bytes) → IsFormPrefix bytes
form_begins bytes w = ([], subst (λ b. IsWritten (symbols_of b)) (sym (append-nil bytes)) w)

pub shorter_front : (m n : ℕ) (bytes : List ℕ) → m ≤ n → IsFormPrefix (take n bytes) → IsFormPrefix (take m bytes)
shorter_front m n bytes h p = subst IsFormPrefix (take-take m n bytes h) (shorter_begins m (take n bytes) p)

-- what begins a file departs nowhere
nowhere : (bytes : List ℕ) (i : ℕ) → IsFormPrefix bytes → Departs bytes i → ⊥
nowhere bytes i h d = d.begins_none (shorter_begins (i + 1) bytes h)

-- one place of each kind
text_fault_is_one : (bytes : List ℕ) (i j : ℕ) → IsFaultOfText bytes i → IsFaultOfText bytes j → i ≡ j
text_fault_is_one bytes i j (inl a) (inl b) = let p = a.least j b.holds in let q = b.least i a.holds in omega arith
text_fault_is_one bytes i j (inl a) (inr b) = absurd (nowhere bytes i b.begins a.holds)
text_fault_is_one bytes i j (inr a) (inl b) = absurd (nowhere bytes j a.begins b.holds)
text_fault_is_one bytes i j (inr a) (inr b) = a.at_end ∙ sym b.at_end

form_fault_is_one : (bytes : List ℕ) (i j : ℕ) → IsFaultOfForm bytes i → IsFaultOfForm bytes j → i ≡ j
form_fault_is_one bytes i j (inl a) (inl b) = text_fault_is_one bytes i j a.0 b.0
form_fault_is_one bytes i j (inl a) (inr b) = let p = b.none_below i a.0 in let q = a.1 in let r = b.at_limit in omega arith
form_fault_is_one bytes i j (inr a) (inl b) = let p = a.none_below j b.0 in let q = b.1 in let r = a.at_limit in omega arith
form_fault_is_one bytes i j (inr a) (inr b) = a.at_limit ∙ sym b.at_limit

-- a file of the form has no fault of the form
text_faultless : (bytes : List ℕ) (i : ℕ) → IsWritten (symbols_of bytes) → IsFaultOfText bytes i → ⊥
text_faultless bytes i w (inl a) = nowhere bytes i (form_begins bytes w) a.holds
text_faultless bytes i w (inr a) = a.unfinished w

pub form_faultless : (bytes : List ℕ) (i : ℕ) → IsForm bytes → IsFaultOfForm bytes i → ⊥
form_faultless bytes i f (inl a) = text_faultless bytes i f.written a.0
form_faultless bytes i f (inr a) = let p = f.size in let q = a.longer in omega arith

some_same : (o : Option ℕ) (i j : ℕ) → o ≡ Some i → o ≡ Some j → i ≡ j
some_same o i j e f = cc

pub some_none : (o : Option ℕ) (i : ℕ) → o ≡ Some i → o ≡ None → ⊥
some_none o i e f = cc

pub places_are_one_lem : PlacesAreOne
places_are_one_lem old new bytes i j (faulty_form a) (faulty_form b) = form_fault_is_one bytes i j a b
places_are_one_lem old new bytes i j (faulty_form a) (new_occurs b) = absurd (form_faultless bytes i b.form a)
places_are_one_lem old new bytes i j (faulty_form a) (tested_occurs b) = absurd (form_faultless bytes i b.form a)
places_are_one_lem old new bytes i j (faulty_form a) (old_undeclared b) = absurd (form_faultless bytes i b.form a)
places_are_one_lem old new bytes i j (new_occurs a) (faulty_form b) = absurd (form_faultless bytes j a.form b)
places_are_one_lem old new bytes i j (new_occurs a) (new_occurs b) = some_same _ i j a.first b.first
places_are_one_lem old new bytes i j (new_occurs a) (tested_occurs b) = absurd (some_none _ i a.first b.unused)
places_are_one_lem old new bytes i j (new_occurs a) (old_undeclared b) = absurd (some_none _ i a.first b.unused)
places_are_one_lem old new bytes i j (tested_occurs a) (faulty_form b) = absurd (form_faultless bytes j a.form b)
places_are_one_lem old new bytes i j (tested_occurs a) (new_occurs b) = absurd (some_none _ j b.first a.unused)
places_are_one_lem old new bytes i j (tested_occurs a) (tested_occurs b) = some_same _ i j a.first b.first
places_are_one_lem old new bytes i j (tested_occurs a) (old_undeclared b) = absurd (some_none _ i a.first b.apart)
places_are_one_lem old new bytes i j (old_undeclared a) (faulty_form b) = absurd (form_faultless bytes j a.form b)
places_are_one_lem old new bytes i j (old_undeclared a) (new_occurs b) = absurd (some_none _ j b.first a.unused)
places_are_one_lem old new bytes i j (old_undeclared a) (tested_occurs b) = absurd (some_none _ j b.first a.apart)
places_are_one_lem old new bytes i j (old_undeclared a) (old_undeclared b) = a.at_end ∙ sym b.at_end

-- The placed symbols are the symbols.
abbrev pub spelled : List Placed → List Symbol
spelled ps = map (λ k. k.symbol) ps

spelled_alone : (i : ℕ) (ks : List Symbol) → spelled (map (λ k. record { symbol = k; end = i }) ks) ≡ ks
spelled_alone i [] = refl
spelled_alone i (k ∷ ks) = ap (λ l. k ∷ l) (spelled_alone i ks)

pub spelled_append : (xs ys : List Placed) → spelled (xs ++ ys) ≡ spelled xs ++ spelled ys
spelled_append xs ys = map-append (λ k. k.symbol) xs ys

pub spelled_pieces : (i : ℕ) (ps : List Piece) → spelled (placed_pieces i ps) ≡ flat_map piece_symbols ps
spelled_pieces i [] = refl
spelled_pieces i (p ∷ ps) =
    spelled_append (map (λ k. record { symbol = k; end = i + length (piece_bytes p) }) (piece_symbols p)) (placed_pieces (i + length (piece_bytes p)) ps)
    ∙ (ap (λ ks. ks ++ spelled (placed_pieces (i + length (piece_bytes p)) ps)) (spelled_alone (i + length (piece_bytes p)) (piece_symbols p))
    ∙ ap (λ ks. piece_symbols p ++ ks) (spelled_pieces (i + length (piece_bytes p)) ps))

spelled_if : (b : Bool) (k : Placed) (xs : List Placed) (ks : List Symbol) → spelled xs ≡ ks → spelled (cond b (k ∷ []) xs) ≡ cond b (k.symbol ∷ []) ks
spelled_if true k xs ks e = refl
spelled_if false k xs ks e = e

pub spelled_line : (i : ℕ) (line : List ℕ) → spelled (placed_line i line) ≡ line_symbols line
spelled_line i line = spelled_if (is_directive_line (solid_pieces line)) _ (placed_pieces i (pieces_of line)) (flat_map piece_symbols (pieces_of line)) (spelled_pieces i (pieces_of line))

spelled_lines : (i : ℕ) (lines : List (List ℕ)) → spelled (placed_lines i lines) ≡ flat_map line_symbols lines
spelled_lines i [] = refl
spelled_lines i (line ∷ lines) =
    spelled_append (placed_line i line) (placed_lines (i + length line + 1) lines)
    ∙ (ap (λ ks. ks ++ spelled (placed_lines (i + length line + 1) lines)) (spelled_line i line)
    ∙ ap (λ ks. line_symbols line ++ ks) (spelled_lines (i + length line + 1) lines))

pub placed_symbols_are_spelled_lem : PlacedSymbolsAreSpelled
placed_symbols_are_spelled_lem bytes = spelled_lines 0 (lines_of bytes)
