-- Walks over symbols, step by step.
use Rattle.std.proofs.Common.{◌≡◌, inl, inr, ℕ, ◌+◌, ◌-◌, ◌<◌, ◌≤◌, ◌==◌, ◌&&◌, Bool, true, false, List, [], ◌∷◌, ◌++◌, Option, Some, None, Bor, All, length, take, drop, get_or, cond, refl, sym, ◌∙◌, ap, subst, append_assoc, append-nil, arith, length-append, length-drop, drop-cons, add-one}
use Rattle.std.proofs.lemmas.Bool.{both_ways, cond-true}
use Rattle.std.proofs.lemmas.List.{take_all, take-append-drop}
use Rattle.std.proofs.lemmas.List.Splits.{slice_split_at, slice_split_none}
use Rattle.std.specs.List.{flat_map, list_all}
use Rattle.quick_form.specs.Words.{is_blank}
use Rattle.quick_form.specs.Symbols.{Symbol, Mark, Piece, Word, Other, piece_bytes, piece_symbols, pieces_of, is_blank_piece, solid_pieces, is_directive_line, after_first_piece, directive_symbol, line_symbols, lines_of, symbols_of}
use Rattle.quick_form.specs.Places.{Placed, placed_pieces, placed_line, placed_lines, placed_symbols, solid_length}
use Rattle.quick_form.proofs.PlaceLemmas.{spelled_append, spelled_pieces, spelled_line}
use Rattle.quick_form.proofs.CutLines.{lines_of-before, symbols_of-newline}
use Rattle.quick_lexer.specs.Lines.{BeginsWithSymbol}
use Rattle.quick_lexer.specs.View.{token_symbols}
use Rattle.quick_rename.specs.declared.visit.Stop.{Stop}
use Rattle.quick_rename.specs.Cuts.{IsOneLine, IsEndOfLine, Opens, Cut}
use Rattle.quick_rename.specs.Visits.{placed, spelled, TakesAll, StopsIn, Visits, lines_in, StopsInLine, StopsInFile}
use Rattle.quick_rename.proofs.Cutting.{cut_start, cut_more, placed_first}

-- of the symbols these are left, and those before them were taken
pub record Goes {V : Type 0} (took : V → List Placed → Type 0) (before now : V) (ks rest : List Placed) : Type 0 where
  pub taken : List Placed
  pub split : ks ≡ taken ++ rest
  pub keeps : (front : List Placed) → took before front → took now (front ++ taken)

abbrev goes_start : {V : Type 0} (took : V → List Placed → Type 0) (v : V) (ks : List Placed) → Goes took v v ks ks
goes_start took v ks = record { taken = []; split = refl; keeps = λ front h. subst (took v) (sym (append-nil front)) h }

pub goes_all : {V : Type 0} (took : V → List Placed → Type 0) (before now : V) (ks : List Placed) → Goes took before now ks [] → TakesAll took before now ks
goes_all took before now ks g front h = subst (λ xs. took now (front ++ xs)) (sym (g.split ∙ append-nil g.taken)) (g.keeps front h)

abbrev goes_block : {V : Type 0} (took : V → List Placed → Type 0) (before now next : V) (ks left block rest : List Placed) → Goes took before now ks left → left ≡ block ++ rest → TakesAll took now next block → Goes took before next ks rest
goes_block took before now next ks left block rest g e t = record {
  taken = g.taken ++ block;
  split = g.split ∙ (ap (λ l. g.taken ++ l) e ∙ sym (append_assoc g.taken block rest));
  keeps = λ front h. subst (took next) (append_assoc front g.taken block) (t (front ++ g.taken) (g.keeps front h));
}

-- THE TOKENS OF A LINE

-- within a line that ends at an offset
pub record InTokens {V : Type 0} (took : V → List Placed → Type 0) (before now : V) (line rest : List ℕ) (end : ℕ) : Type 0 where
  pub goes : Goes took before now (placed_pieces (end - length line) (pieces_of line)) (placed_pieces (end - length rest) (pieces_of rest))
  pub pieces : List Piece
  pub cut : Cut line rest pieces
  pub taken_are : flat_map piece_symbols pieces ≡ spelled goes.taken

pub tokens_start : {V : Type 0} (took : V → List Placed → Type 0) (v : V) (line : List ℕ) (end : ℕ) → InTokens took v v line line end
tokens_start took v line end = record {
  goes = goes_start took v (placed_pieces (end - length line) (pieces_of line));
  pieces = [];
  cut = cut_start line;
  taken_are = refl;
}

-- the next token, and what is left behind it
next_token : (rest next : List ℕ) (end : ℕ) (k : Symbol) → length rest ≤ end → BeginsWithSymbol rest k next → placed_pieces (end - length rest) (pieces_of rest) ≡ placed k (end - length next) ∷ placed_pieces (end - length next) (pieces_of next)
next_token rest next end k within b =
    let w = b.begins in
    let len : length rest ≡ length w.blanks + (length (piece_bytes b.piece) + length next) =
    ap length w.joined ∙ (length-append w.blanks (piece_bytes b.piece ++ next) ∙ ap (λ n. length w.blanks + n) (length-append (piece_bytes b.piece) next)) in
    let same : ((end - length rest) + length w.blanks) + length (piece_bytes b.piece) ≡ end - length next = omega arith in
    ap (λ t. placed_pieces (end - length rest) (pieces_of t)) w.joined
    ∙ (placed_first (end - length rest) w.blanks b.piece next k w.are_blank w.cut b.spells
    ∙ ap (λ n. placed k n ∷ placed_pieces n (pieces_of next)) same)

flat_more : (ps : List Piece) (p : Piece) → flat_map piece_symbols (ps ++ p ∷ []) ≡ flat_map piece_symbols ps ++ piece_symbols p
flat_more [] p = append-nil (piece_symbols p)
flat_more (q ∷ ps) p = ap (λ l. piece_symbols q ++ l) (flat_more ps p) ∙ sym (append_assoc (piece_symbols q) (flat_map piece_symbols ps) (piece_symbols p))

solid_other : (b : ℕ) (k : Symbol) (t : Bool) → is_blank b ≡ t → piece_symbols (Other b) ≡ k ∷ [] → t ≡ false
solid_other b k true e f = let g = sym (cond-true (is_blank b) [] (Mark b ∷ []) e) ∙ f in absurd cc
solid_other b k false e f = refl

solid_one : (p : Piece) (k : Symbol) → piece_symbols p ≡ k ∷ [] → is_blank_piece p ≡ false
solid_one (Word w) k e = refl
solid_one (Other b) k e = solid_other b k (is_blank b) refl e

pub tokens_more : {V : Type 0} (took : V → List Placed → Type 0) (before now later : V) (line rest next : List ℕ) (end : ℕ) (k : Symbol) → InTokens took before now line rest end → length rest ≤ end → BeginsWithSymbol rest k next → ((front : List Placed) → took now front → took later (front ++ placed k (end - length next) ∷ [])) → InTokens took before later line next end
tokens_more took before now later line rest next end k h within b t =
    let w = b.begins in
    record {
      goes = goes_block took before now later (placed_pieces (end - length line) (pieces_of line)) (placed_pieces (end - length rest) (pieces_of rest)) (placed k (end - length next) ∷ []) (placed_pieces (end - length next) (pieces_of next))
          h.goes (next_token rest next end k within b) t;
      pieces = h.pieces ++ b.piece ∷ [];
      cut = cut_more line rest h.pieces w.blanks b.piece next h.cut w.are_blank w.joined w.cut (solid_one b.piece k b.spells);
      taken_are =
          flat_more h.pieces b.piece ∙ (ap (λ l. flat_map piece_symbols h.pieces ++ l) b.spells ∙ (ap (λ l. l ++ k ∷ []) h.taken_are ∙ sym (spelled_append h.goes.taken (placed k (end - length next) ∷ []))));
    }

nothing_spelled : (ks : List Placed) → spelled ks ≡ [] → ks ≡ []
nothing_spelled [] e = refl
nothing_spelled (k ∷ ks) e = absurd cc

pub tokens_end : {V : Type 0} (took : V → List Placed → Type 0) (before now : V) (line rest : List ℕ) (end : ℕ) → InTokens took before now line rest end → token_symbols rest ≡ [] → TakesAll took before now (placed_pieces (end - length line) (pieces_of line))
tokens_end took before now line rest end h e =
    let none = nothing_spelled (placed_pieces (end - length rest) (pieces_of rest)) (spelled_pieces (end - length rest) (pieces_of rest) ∙ e) in
    goes_all took before now (placed_pieces (end - length line) (pieces_of line)) (subst (Goes took before now (placed_pieces (end - length line) (pieces_of line))) none h.goes)

pub tokens_stop : {V : Type 0} (took : V → List Placed → Type 0) (refuses : List Placed → Type 0) (before now later : V) (line rest next : List ℕ) (end : ℕ) (k : Symbol) (stop : Stop) → InTokens took before now line rest end → length rest ≤ end → BeginsWithSymbol rest k next → token_symbols rest ≡ k ∷ token_symbols next → is_directive_line (solid_pieces line) ≡ false → length line ≤ end → stop.at ≡ end - length rest → stop.text.now ≡ rest → stop.is_directive ≡ false
    → ((front : List Placed) → took now front → took later front) → ((front : List Placed) → took now front → refuses (front ++ placed k (end - length next) ∷ []))
    → (front : List Placed) → took before front → StopsIn (took later) refuses (StopsInLine line (end - length line) stop) (placed_pieces (end - length line) (pieces_of line)) front
tokens_stop took refuses before now later line rest next end k stop h within b spells plain fits at text mode stays refused front f =
    let g = h.goes in
    record {
      taken = g.taken;
      stopper = placed k (end - length next);
      rest = placed_pieces (end - length next) (pieces_of next);
      symbols_are = g.split ∙ ap (λ l. g.taken ++ l) (next_token rest next end k within b);
      stays = stays (front ++ g.taken) (g.keeps front f);
      refused = subst refuses (append_assoc front g.taken (placed k (end - length next) ∷ [])) (refused (front ++ g.taken) (g.keeps front f));
      here = record {
        at_directive = λ e. absurd (both_ways stop.is_directive mode e);
        at_token = λ e. record {
          tokens = plain;
          pieces = h.pieces;
          cut = subst (λ t. Cut line t h.pieces) (sym text) h.cut;
          taken_are = h.taken_are;
          more = token_symbols next;
          spells = ap token_symbols text ∙ spells;
        };
        ends_with_line = let len = ap length text in omega arith;
      };
    }

-- ONE DIRECTIVE

pub directive_placed : (line : List ℕ) (i : ℕ) (k : Symbol) → is_directive_line (solid_pieces line) ≡ true → line_symbols line ≡ k ∷ [] → placed_line i line ≡ placed k (i + solid_length line) ∷ []
directive_placed line i k d e =
    let is = cond-true (is_directive_line (solid_pieces line)) (directive_symbol (after_first_piece (solid_pieces line)) ∷ []) (flat_map piece_symbols (pieces_of line)) d in
    let same : directive_symbol (after_first_piece (solid_pieces line)) ≡ k = cc in
    cond-true (is_directive_line (solid_pieces line)) _ (placed_pieces i (pieces_of line)) d ∙ ap (λ s. placed s (i + solid_length line) ∷ []) same

pub directive_stop : {V : Type 0} (took : V → List Placed → Type 0) (refuses : List Placed → Type 0) (now later : V) (line : List ℕ) (offset : ℕ) (k : Symbol) (stop : Stop) → is_directive_line (solid_pieces line) ≡ true → line_symbols line ≡ k ∷ [] → stop.at ≡ offset → stop.text.now ≡ line → stop.is_directive ≡ true
    → ((front : List Placed) → took now front → took later front) → ((front : List Placed) → took now front → refuses (front ++ placed k (offset + solid_length line) ∷ []))
    → (front : List Placed) → took now front → StopsIn (took later) refuses (StopsInLine line offset stop) (placed_line offset line) front
directive_stop took refuses now later line offset k stop d e at text mode stays refused front f = record {
  taken = [];
  stopper = placed k (offset + solid_length line);
  rest = [];
  symbols_are = directive_placed line offset k d e;
  stays = subst (took later) (sym (append-nil front)) (stays front f);
  refused = refused front f;
  here = record {
    at_directive = λ g. record { directive = d; whole = text; none_taken = refl; spells = e };
    at_token = λ g. absurd (both_ways stop.is_directive g mode);
    ends_with_line = let len = ap length text in omega arith;
  };
}

-- THE LINES OF A FILE

pub record InText {V : Type 0} (took : V → List Placed → Type 0) (before now : V) (bytes text : List ℕ) : Type 0 where
  pub goes : Goes took before now (placed_symbols bytes) (placed_lines (length bytes - length text) (lines_of text))
  pub front : List ℕ
  pub joined : bytes ≡ front ++ text
  pub opens : Opens front (spelled goes.taken)

abbrev pub InFile : {V : Type 0} → (V → List Placed → Type 0) → V → V → List ℕ → Option (Bor (List ℕ)) → Type 0
InFile took before now bytes None = Goes took before now (placed_symbols bytes) []
InFile took before now bytes (Some text) = InText took before now bytes text.now

pub file_start : {V : Type 0} (took : V → List Placed → Type 0) (v : V) (bytes : List ℕ) → InText took v v bytes bytes
file_start took v bytes =
    let zero_is : 0 ≡ length bytes - length bytes = omega arith in
    record {
      goes = record {
        taken = [];
        split = ap (λ n. placed_lines n (lines_of bytes)) zero_is;
        keeps = λ front h. subst (took v) (sym (append-nil front)) h;
      };
      front = [];
      joined = refl;
      opens = λ rest. refl;
    }

lines_of-line : (line : List ℕ) → IsOneLine line → lines_of line ≡ line ∷ []
lines_of-line line h =
    ap lines_of (sym (append-nil line)) ∙ (lines_of-before line [] [] [] h refl ∙ ap (λ l. l ∷ []) (append-nil line))

pub symbols_of-line : (line : List ℕ) → IsOneLine line → symbols_of line ≡ line_symbols line
symbols_of-line line h = ap (flat_map line_symbols) (lines_of-line line h) ∙ append-nil (line_symbols line)

opens_more : (front line : List ℕ) (ks : List Symbol) → Opens front ks → IsOneLine line → Opens (front ++ (line ++ 10 ∷ [])) (ks ++ line_symbols line)
opens_more front line ks h one rest =
    ap symbols_of (append_assoc front (line ++ 10 ∷ []) rest)
    ∙ (h ((line ++ 10 ∷ []) ++ rest)
    ∙ (ap (λ l. ks ++ l)
    (ap symbols_of (append_assoc line (10 ∷ []) rest) ∙ (symbols_of-newline line rest ∙ ap (λ l. l ++ symbols_of rest) (symbols_of-line line one)))
    ∙ sym (append_assoc ks (line_symbols line) (symbols_of rest))))

-- what the first line leaves
pub file_more : {V : Type 0} (took : V → List Placed → Type 0) (before now later : V) (bytes text line : List ℕ) (more : Option (Bor (List ℕ))) (offset : ℕ) → InText took before now bytes text → length text ≤ length bytes → lines_of text ≡ line ∷ lines_in more → IsOneLine line
    → (more ≡ None → text ≡ line) → ((t : Bor (List ℕ)) → more ≡ Some t → text ≡ line ++ 10 ∷ t.now)
    → offset ≡ length bytes - length text → TakesAll took now later (placed_line offset line) → InFile took before later bytes more
file_more took before now later bytes text line None offset h within lines one last next at t =
    let left : placed_lines (length bytes - length text) (lines_of text) ≡ placed_line offset line ++ [] =
    ap (placed_lines (length bytes - length text)) lines ∙ ap (λ n. placed_line n line ++ []) (sym at) in
    goes_block took before now later (placed_symbols bytes) (placed_lines (length bytes - length text) (lines_of text)) (placed_line offset line) [] h.goes left t
file_more took before now later bytes text line (Some more) offset h within lines one last next at t =
    let cut = next more refl in
    let len : length text ≡ length line + (length more.now + 1) = ap length cut ∙ (length-append line (10 ∷ more.now) ∙ omega arith) in
    let behind : (length bytes - length text) + length line + 1 ≡ length bytes - length more.now = omega arith in
    let left : placed_lines (length bytes - length text) (lines_of text) ≡ placed_line offset line ++ placed_lines (length bytes - length more.now) (lines_of more.now) =
    ap (placed_lines (length bytes - length text)) lines
    ∙ (ap (λ n. placed_line (length bytes - length text) line ++ placed_lines n (lines_of more.now)) behind
    ∙ ap (λ n. placed_line n line ++ placed_lines (length bytes - length more.now) (lines_of more.now)) (sym at)) in
    record {
      goes = goes_block took before now later (placed_symbols bytes) (placed_lines (length bytes - length text) (lines_of text)) (placed_line offset line) (placed_lines (length bytes - length more.now) (lines_of more.now)) h.goes left t;
      front = h.front ++ (line ++ 10 ∷ []);
      joined =
          h.joined ∙ (ap (λ l. h.front ++ l) (cut ∙ sym (append_assoc line (10 ∷ []) more.now)) ∙ sym (append_assoc h.front (line ++ 10 ∷ []) more.now));
      opens = subst (Opens (h.front ++ (line ++ 10 ∷ []))) (ap (λ l. spelled h.goes.taken ++ l) (sym (spelled_line offset line)) ∙ sym (spelled_append h.goes.taken (placed_line offset line))) (opens_more h.front line (spelled h.goes.taken) h.opens one);
    }

-- what follows the first line
pub record Follows (text line : List ℕ) : Type 0 where
  pub behind : List ℕ
  pub joined : text ≡ line ++ behind
  pub ended : IsEndOfLine behind

pub follows : (text line : List ℕ) (more : Option (Bor (List ℕ))) → (more ≡ None → text ≡ line) → ((t : Bor (List ℕ)) → more ≡ Some t → text ≡ line ++ 10 ∷ t.now) → Follows text line
follows text line None last next = record { behind = []; joined = last refl ∙ sym (append-nil line); ended = inl refl }
follows text line (Some more) last next = record { behind = 10 ∷ more.now; joined = next more refl; ended = inr (more.now, refl) }

pub file_stop : {V : Type 0} (took : V → List Placed → Type 0) (refuses : List Placed → Type 0) (before now later : V) (bytes text line : List ℕ) (others : List (List ℕ)) (offset : ℕ) (found : Option Stop) (stop : Stop) → InText took before now bytes text → length text ≤ length bytes → lines_of text ≡ line ∷ others → IsOneLine line → Follows text line
    → offset ≡ length bytes - length text → Visits took refuses (StopsInLine line offset) now later (placed_line offset line) found → found ≡ Some stop
    → (front : List Placed) → took before front → StopsIn (took later) refuses (StopsInFile bytes stop) (placed_symbols bytes) front
file_stop took refuses before now later bytes text line others offset found stop h within lines one f at visits is front t =
    let g = h.goes in
    let v : Visits took refuses (StopsInLine line offset) now later (placed_line offset line) (Some stop) = subst (Visits took refuses (StopsInLine line offset) now later (placed_line offset line)) is visits in
    let s = v (front ++ g.taken) (g.keeps front t) in
    let len : length bytes ≡ length h.front + length text = ap length h.joined ∙ length-append h.front text in
    let begins : offset ≡ length h.front = omega arith in
    let block = placed_line offset line in
    let rest = placed_lines ((length bytes - length text) + length line + 1) others in
    let left : placed_lines (length bytes - length text) (lines_of text) ≡ block ++ rest =
    ap (placed_lines (length bytes - length text)) lines ∙ ap (λ n. placed_line n line ++ rest) (sym at) in
    record {
      taken = g.taken ++ s.taken;
      stopper = s.stopper;
      rest = s.rest ++ rest;
      symbols_are =
          g.split ∙ (ap (λ l. g.taken ++ l) (left ∙ (ap (λ b. b ++ rest) s.symbols_are ∙ append_assoc s.taken (s.stopper ∷ s.rest) rest)) ∙ sym (append_assoc g.taken s.taken (s.stopper ∷ (s.rest ++ rest))));
      stays = subst (took later) (append_assoc front g.taken s.taken) s.stays;
      refused = subst refuses (append_assoc front g.taken (s.taken ++ s.stopper ∷ []) ∙ ap (λ b. front ++ b) (sym (append_assoc g.taken s.taken (s.stopper ∷ [])))) s.refused;
      here = record {
        before = h.front;
        line = line;
        behind = f.behind;
        joined = h.joined ∙ ap (λ l. h.front ++ l) f.joined;
        one_line = one;
        ended = f.ended;
        earlier = spelled g.taken;
        opens = h.opens;
        here = spelled s.taken;
        taken_are = spelled_append g.taken s.taken;
        in_line = subst (λ n. StopsInLine line n stop (spelled s.taken) s.stopper.symbol) begins s.here;
      };
    }

-- FIRST LINES

-- how much of a text is left, and one for its end
abbrev pub text_size : Option (Bor (List ℕ)) → ℕ
text_size None = 0
text_size (Some text) = length text.now + 1

-- what is left behind a place
rest_is : (xs : List ℕ) (i : ℕ) → take (length xs - i) (drop i xs) ≡ drop i xs
rest_is xs i = take_all (length xs - i) (drop i xs) (omega (arith, length-drop i xs))

-- a text is its first line, and the lines behind its newline
pub text_cut : (text : List ℕ) (i : ℕ) → i < length text → get_or text i 0 ≡ 10 → text ≡ take i text ++ 10 ∷ take (length text - (i + 1)) (drop (i + 1) text)
text_cut text i h e =
    let cut : text ≡ take i text ++ (get_or text i 0 ∷ drop (i + 1) text) = sym (take-append-drop i text) ∙ ap (λ r. take i text ++ r) (rw (add-one, drop-cons text i 0) refl) in
    cut ∙ (ap (λ b. take i text ++ (b ∷ drop (i + 1) text)) e ∙ ap (λ r. take i text ++ (10 ∷ r)) (sym (rest_is text (i + 1))))

pub lines_at : (text : List ℕ) (i : ℕ) → i < length text → get_or text i 0 ≡ 10 → All (λ b. (b == 10) ≡ false) (take i text) → lines_of text ≡ take i text ∷ lines_of (take (length text - (i + 1)) (drop (i + 1) text))
lines_at text i h e f = ap lines_of (text_cut text i h e) ∙ slice_split_at (λ b. b == 10) (take i text) 10 (take (length text - (i + 1)) (drop (i + 1) text)) f refl

pub one_line : (text : List ℕ) → All (λ b. (b == 10) ≡ false) text → lines_of text ≡ text ∷ []
one_line text f = slice_split_none (λ b. b == 10) text f

-- THE LENGTH OF A DIRECTIVE LINE

blank_has_none : (xs : List ℕ) → list_all is_blank xs ≡ true → solid_length xs ≡ 0
blank_has_none [] h = refl
blank_has_none (x ∷ xs) h = cond-true (list_all is_blank (x ∷ xs)) 0 (solid_length xs + 1) h

solid_cases : (t u : Bool) (i len n rest : ℕ) → (u ≡ true → rest ≡ 0) → n ≡ cond (t && u) len (i + cond (t && u) 0 (rest + 1)) → n ≡ cond u (cond t len (i + 1)) (i + 1 + rest)
solid_cases true true i len n rest f e = e
solid_cases true false i len n rest f e = e ∙ omega arith
solid_cases false true i len n rest f e = let z = f refl in e ∙ omega arith
solid_cases false false i len n rest f e = e ∙ omega arith

solid_head : (x : ℕ) (xs : List ℕ) (t : Bool) (i len n : ℕ) → is_blank x ≡ t → n ≡ cond (list_all is_blank (x ∷ xs)) len (i + solid_length (x ∷ xs)) → n ≡ cond (list_all is_blank xs) (cond t len (i + 1)) (i + 1 + solid_length xs)
solid_head x xs t i len n e h =
    solid_cases t (list_all is_blank xs) i len n (solid_length xs) (blank_has_none xs)
    (subst (λ b. n ≡ cond (b && list_all is_blank xs) len (i + cond (b && list_all is_blank xs) 0 (solid_length xs + 1))) e h)

pub solid_step : (line : List ℕ) (i len : ℕ) (t : Bool) → i < length line → is_blank (get_or line i 0) ≡ t → solid_length line ≡ cond (list_all is_blank (drop i line)) len (i + solid_length (drop i line)) → solid_length line ≡ cond (list_all is_blank (drop (i + 1) line)) (cond t len (i + 1)) (i + 1 + solid_length (drop (i + 1) line))
solid_step line i len t h e inv =
    let cut : drop i line ≡ get_or line i 0 ∷ drop (i + 1) line = rw (add-one, drop-cons line i 0) refl in
    solid_head (get_or line i 0) (drop (i + 1) line) t i len (solid_length line) e (subst (λ l. solid_length line ≡ cond (list_all is_blank l) len (i + solid_length l)) cut inv)

solid_start_at : (line : List ℕ) (t : Bool) → list_all is_blank line ≡ t → solid_length line ≡ cond t 0 (0 + solid_length line)
solid_start_at line true e = blank_has_none line e
solid_start_at line false e = omega arith

pub solid_start : (line : List ℕ) → solid_length line ≡ cond (list_all is_blank line) 0 (0 + solid_length line)
solid_start line = solid_start_at line (list_all is_blank line) refl

-- what a walk that met no stop took
pub takes_all : {V : Type 0} (took : V → List Placed → Type 0) (refuses : List Placed → Type 0) (place : Stop → List Symbol → Symbol → Type 0) (before after : V) (ks : List Placed) (found : Option Stop) → Visits took refuses place before after ks found → found ≡ None → TakesAll took before after ks
takes_all took refuses place before after ks found v e = subst (Visits took refuses place before after ks) e v

pub true_unless : (b : Bool) → (b ≡ false → ⊥) → b ≡ true
true_unless true f = refl
true_unless false f = absurd (f refl)

pub smaller_text : (text line : List ℕ) (more : Option (Bor (List ℕ))) (n : ℕ) → (more ≡ None → text ≡ line) → ((t : Bor (List ℕ)) → more ≡ Some t → text ≡ line ++ 10 ∷ t.now) → length text ≤ n → text_size more ≤ n + 1
smaller_text text line None n last next h = omega arith
smaller_text text line (Some t) n last next h =
    let len : length text ≡ length line + (length t.now + 1) = ap length (next t refl) ∙ (length-append line (10 ∷ t.now) ∙ omega arith) in omega arith
