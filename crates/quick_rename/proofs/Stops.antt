-- Where a walk of the parser stopped, the text has its fault.
use Rattle.std.proofs.Common.{◌≡◌, inl, inr, ℕ, ◌+◌, ◌-◌, ◌<◌, ◌≤◌, min, not, Bool, true, false, cond, List, [], ◌∷◌, ◌++◌, Option, Some, None, is_some, option_and_then, length, take, codes, nat_lt, refl, sym, ◌∙◌, ap, subst, append-nil, arith, length-append, length-take}
use Rattle.std.specs.List.{flat_map, filter, list_all}
use Rattle.std.specs.Str.{bytes_eq}
use Rattle.std.proofs.lemmas.Bool.{and_parts, and_from, ltb-true, ltb-false, cond_both}
use Rattle.std.proofs.lemmas.List.{take-take}
use Rattle.std.proofs.lemmas.List.Folds.{list_all-append}
use Rattle.quick_form.specs.Words.{is_name, is_number, is_blank}
use Rattle.quick_form.specs.Symbols.{Symbol, Int, Void, While, Return, Putchar, Main, Name, Number, Mark, Ifdef, Else, Endif, Malformed, Piece, Word, Other, pieces_of, piece_symbols, word_symbol, solid_pieces, is_directive_line, after_first_piece, directive_symbol, line_symbols, lines_of, symbols_of, tested_names}
use Rattle.quick_form.specs.Form.{IsWritten}
use Rattle.quick_form.specs.Quick.{Takes}
use Rattle.quick_form.specs.Places.{placed_symbols, IsFormPrefix, Departs, IsLeast, IsFaultOfText, PassesLimit, IsFaultOfForm}
use Rattle.quick_form.proofs.PlaceLemmas.{spelled_append, placed_symbols_are_spelled_lem, form_begins, shorter_front}
use Rattle.quick_lexer.proofs.PieceLemmas.{token_symbols-solid}
use Rattle.quick_parser.specs.Steps.{State, start, step, steps, after}
use Rattle.quick_parser.specs.Laws.{StatesComplete, RefusedIsUnwritten, OneStepMore, TestsAreKept}
use Rattle.quick_rename.specs.declared.visit.Stop.{Stop}
use Rattle.quick_rename.specs.Cuts.{FaultAt, takes_tokens, takes_line, StopFault}
use Rattle.quick_rename.specs.Fronts.{can, RefusesFirst}
use Rattle.quick_rename.specs.Visits.{spelled, Visits, StopsInFile}
use Rattle.quick_rename.proofs.FormFaults.{steps-append, line_symbols-solid, line_fault, read_begins}
use Rattle.quick_rename.proofs.LineFaults.{tokens_fault, tokens_taken}
use Rattle.quick_rename.proofs.WordFaults.{one_step, first_step}
use Rattle.quick_rename.proofs.FormLemmas.{took, refuses}

-- a parser's stop: what it took, and what it refused
pub record ParserStop (bytes : List ℕ) (q : State) (stop : Stop) : Type 0 where
  pub taken : List Symbol
  pub stopper : Symbol
  pub rest : List Symbol
  pub symbols_are : symbols_of bytes ≡ taken ++ stopper ∷ rest
  pub state_is : after taken ≡ Some q
  pub refused : can q stopper ≡ false
  pub place : StopsInFile bytes stop taken stopper

pub parser_stop : OneStepMore → (bytes : List ℕ) (p q : State) (found : Option Stop) (stop : Stop) → p ≡ start → Visits took refuses (StopsInFile bytes) p q (placed_symbols bytes) found → found ≡ Some stop → ParserStop bytes q stop
parser_stop more bytes p q found stop e v f =
    let visits : Visits took refuses (StopsInFile bytes) p q (placed_symbols bytes) (Some stop) = subst (Visits took refuses (StopsInFile bytes) p q (placed_symbols bytes)) f v in
    let s = visits [] (ap Some (sym e)) in
    let none : step q s.stopper.symbol ≡ None =
    sym (more (spelled s.taken) s.stopper.symbol ∙ ap (option_and_then (λ t. step t s.stopper.symbol)) s.stays) ∙ (ap after (sym (spelled_append s.taken (s.stopper ∷ []))) ∙ s.refused) in
    record {
      taken = spelled s.taken;
      stopper = s.stopper.symbol;
      rest = spelled s.rest;
      symbols_are = sym (placed_symbols_are_spelled_lem bytes) ∙ (ap spelled s.symbols_are ∙ spelled_append s.taken (s.stopper ∷ s.rest));
      state_is = s.stays;
      refused = ap is_some none;
      place = s.here;
    }

pub stop_directive : (bytes : List ℕ) (q : State) (stop : Stop) → ParserStop bytes q stop → stop.is_directive ≡ true → is_directive_line (solid_pieces stop.text.now) ≡ true
stop_directive bytes q stop p e =
    let d = p.place.in_line.at_directive e in
    ap (λ l. is_directive_line (solid_pieces l)) d.whole ∙ d.directive

pub stop_token : (bytes : List ℕ) (q : State) (stop : Stop) → ParserStop bytes q stop → stop.is_directive ≡ false → RefusesFirst q stop.text.now
stop_token bytes q stop p e k ks h =
    let t = p.place.in_line.at_token e in
    let same : p.stopper ≡ k = let both = sym t.spells ∙ h in cc in
    ap (can q) (sym same) ∙ p.refused

-- TESTED NAMES ARE NAMES

abbrev tests_name : Symbol → Bool
tests_name (Ifdef n) = is_name n
tests_name k = true

directive_names : (ps : List Piece) → tests_name (directive_symbol ps) ≡ true
directive_names [] = refl
directive_names (Word d ∷ []) =
    cond_both (bytes_eq d (codes "else")) Else _ (λ k. tests_name k ≡ true) (λ _. refl) (λ _.
    cond_both (bytes_eq d (codes "endif")) Endif Malformed (λ k. tests_name k ≡ true) (λ _. refl) (λ _. refl))
directive_names (Word d ∷ Word n ∷ []) =
    cond_both (bytes_eq d (codes "ifdef")) _ Malformed (λ k. tests_name k ≡ true) (λ _.
    cond_both (is_name n) (Ifdef n) Malformed (λ k. tests_name k ≡ true) (λ h. h) (λ _. refl)) (λ _. refl)
directive_names (Word d ∷ Word n ∷ p ∷ ps) = refl
directive_names (Word d ∷ Other b ∷ ps) = refl
directive_names (Other b ∷ ps) = refl

word_names : (w : List ℕ) → tests_name (word_symbol w) ≡ true
word_names w =
    let Good : Symbol → Type 0 = λ s. tests_name s ≡ true in
    cond_both (bytes_eq w (codes "int")) Int _ Good (λ _. refl) (λ _.
    cond_both (bytes_eq w (codes "void")) Void _ Good (λ _. refl) (λ _.
    cond_both (bytes_eq w (codes "while")) While _ Good (λ _. refl) (λ _.
    cond_both (bytes_eq w (codes "return")) Return _ Good (λ _. refl) (λ _.
    cond_both (bytes_eq w (codes "putchar")) Putchar _ Good (λ _. refl) (λ _.
    cond_both (bytes_eq w (codes "main")) Main _ Good (λ _. refl) (λ _.
    cond_both (is_name w) (Name w) _ Good (λ _. refl) (λ _.
    cond_both (is_number w) (Number w) Malformed Good (λ _. refl) (λ _. refl))))))))

piece_names : (p : Piece) → list_all tests_name (piece_symbols p) ≡ true
piece_names (Word w) = and_from (tests_name (word_symbol w)) true (word_names w) refl
piece_names (Other b) = cond_both (is_blank b) [] (Mark b ∷ []) (λ ks. list_all tests_name ks ≡ true) (λ _. refl) (λ _. refl)

token_names : (ps : List Piece) → list_all tests_name (flat_map piece_symbols ps) ≡ true
token_names [] = refl
token_names (p ∷ ps) = list_all-append tests_name (piece_symbols p) (flat_map piece_symbols ps) ∙ and_from (list_all tests_name (piece_symbols p)) (list_all tests_name (flat_map piece_symbols ps)) (piece_names p) (token_names ps)

line_names : (line : List ℕ) → list_all tests_name (line_symbols line) ≡ true
line_names line =
    cond_both (is_directive_line (solid_pieces line)) (directive_symbol (after_first_piece (solid_pieces line)) ∷ []) (flat_map piece_symbols (pieces_of line)) (λ ks. list_all tests_name ks ≡ true)
    (λ _. and_from (tests_name (directive_symbol (after_first_piece (solid_pieces line)))) true (directive_names (after_first_piece (solid_pieces line))) refl) (λ _. token_names (pieces_of line))

lines_names : (ls : List (List ℕ)) → list_all tests_name (flat_map line_symbols ls) ≡ true
lines_names [] = refl
lines_names (l ∷ ls) = list_all-append tests_name (line_symbols l) (flat_map line_symbols ls) ∙ and_from (list_all tests_name (line_symbols l)) (list_all tests_name (flat_map line_symbols ls)) (line_names l) (lines_names ls)

kept_if : (t : Bool) (x : List ℕ) (xs : List (List ℕ)) → is_name x ≡ true → list_all is_name xs ≡ true → list_all is_name (cond t (x ∷ xs) xs) ≡ true
kept_if true x xs h g = and_from (is_name x) (list_all is_name xs) h g
kept_if false x xs h g = g

names_kept : (f : List ℕ → Bool) (xs : List (List ℕ)) → list_all is_name xs ≡ true → list_all is_name (filter f xs) ≡ true
names_kept f [] h = refl
names_kept f (x ∷ xs) h =
    let p = and_parts (is_name x) (list_all is_name xs) h in
    kept_if (f x) x (filter f xs) p.0 (names_kept f xs p.1)

names_tested : (ks : List Symbol) → list_all tests_name ks ≡ true → list_all is_name (tested_names ks) ≡ true
names_tested [] h = refl
names_tested (Ifdef n ∷ ks) h =
    let p = and_parts (is_name n) (list_all tests_name ks) h in
    and_from (is_name n) (list_all is_name (filter (λ m. not (bytes_eq m n)) (tested_names ks))) p.0 (names_kept (λ m. not (bytes_eq m n)) (tested_names ks) (names_tested ks p.1))
names_tested (k ∷ ks) h = names_tested ks (and_parts (tests_name k) (list_all tests_name ks) h).1

pub stop_names : TestsAreKept → (bytes : List ℕ) (q : State) (stop : Stop) → ParserStop bytes q stop → list_all is_name q.tested_names ≡ true
stop_names kept bytes q stop p =
    let all : list_all tests_name (p.taken ++ p.stopper ∷ p.rest) ≡ true = ap (list_all tests_name) (sym p.symbols_are) ∙ lines_names (lines_of bytes) in
    let front = (and_parts (list_all tests_name p.taken) (list_all tests_name (p.stopper ∷ p.rest)) (sym (list_all-append tests_name p.taken (p.stopper ∷ p.rest)) ∙ all)).0 in
    ap (list_all is_name) (kept p.taken q p.state_is) ∙ names_tested p.taken front

-- THE PLACE

record Passed (o : Option State) (f : State → Option State) (q : State) : Type 0 where
  state : State
  is : o ≡ Some state
  leads : f state ≡ Some q

passed : (o : Option State) (f : State → Option State) (q : State) → option_and_then f o ≡ Some q → Passed o f q
passed None f q e = absurd cc
passed (Some s) f q e = record { state = s; is = refl; leads = e }

stop_place_at : StatesComplete → RefusedIsUnwritten → (bytes : List ℕ) (q : State) (stop : Stop) (n : ℕ) (mode : Bool) → stop.is_directive ≡ mode → ParserStop bytes q stop → StopFault q stop.is_directive stop.text.now n → IsFaultOfText bytes (stop.at + n)
stop_place_at complete refused bytes q stop n true e p f =
    let i = p.place in
    let d = i.in_line.at_directive e in
    let a : after i.earlier ≡ Some q = ap after (sym (i.taken_are ∙ (ap (λ l. i.earlier ++ l) d.none_taken ∙ append-nil i.earlier))) ∙ p.state_is in
    let fault : FaultAt (takes_line q) i.line n = subst (λ l. FaultAt (takes_line q) l n) d.whole (f.in_directive e) in
    let no_line : takes_line q (solid_pieces i.line) ≡ false = ap (λ ks. is_some (steps q ks)) (sym (line_symbols-solid i.line) ∙ d.spells) ∙ (one_step q p.stopper ∙ p.refused) in
    let at : length i.before + n ≡ stop.at + n = let h = i.in_line.ends_with_line in let g = ap length d.whole in omega arith in
    subst (IsFaultOfText bytes) at (line_fault complete refused bytes i.before i.line i.behind i.earlier q n i.joined i.one_line i.ended i.opens a no_line fault)
stop_place_at complete refused bytes q stop n false e p f =
    let i = p.place in
    let t = i.in_line.at_token e in
    let text = stop.text.now in
    let all : option_and_then (λ s. steps s i.here) (after i.earlier) ≡ Some q = sym (steps-append start i.earlier i.here) ∙ (ap after (sym i.taken_are) ∙ p.state_is) in
    let s = passed (after i.earlier) (λ s. steps s i.here) q all in
    let reads : steps s.state (flat_map piece_symbols t.pieces) ≡ Some q = ap (steps s.state) t.taken_are ∙ s.leads in
    let solid : solid_pieces i.line ≡ t.pieces ++ solid_pieces text = ap solid_pieces t.cut.joined ∙ t.cut.pieces text (λ h. h) in
    let fault = tokens_fault s.state q i.line text t.pieces n t.cut t.tokens reads (f.in_tokens e) in
    let no_text : takes_tokens q (solid_pieces text) ≡ false = ap (λ ks. is_some (steps q ks)) (sym (token_symbols-solid text) ∙ t.spells) ∙ first_step q p.stopper t.more p.refused in
    let no_line : takes_line s.state (solid_pieces i.line) ≡ false = ap (takes_line s.state) solid ∙ (tokens_taken s.state q t.pieces (solid_pieces text) reads (ap is_directive_line (sym solid) ∙ t.tokens) ∙ no_text) in
    let len : length i.line ≡ length t.cut.before + length text = ap length t.cut.joined ∙ length-append t.cut.before text in
    let at : length i.before + ((length i.line - length text) + n) ≡ stop.at + n = let h = i.in_line.ends_with_line in omega arith in
    subst (IsFaultOfText bytes) at (line_fault complete refused bytes i.before i.line i.behind i.earlier s.state ((length i.line - length text) + n) i.joined i.one_line i.ended i.opens s.is no_line fault)

pub stop_place : StatesComplete → RefusedIsUnwritten → (bytes : List ℕ) (q : State) (stop : Stop) (n : ℕ) → ParserStop bytes q stop → StopFault q stop.is_directive stop.text.now n → IsFaultOfText bytes (stop.at + n)
stop_place complete refused bytes q stop n p f = stop_place_at complete refused bytes q stop n stop.is_directive refl p f

pub fault_within : (bytes : List ℕ) (i : ℕ) → IsFaultOfText bytes i → i ≤ length bytes
fault_within bytes i (inl a) = let h = a.holds.within in omega arith
fault_within bytes i (inr a) = let h = a.at_end in omega arith

pub breaks_off : StatesComplete → (bytes : List ℕ) (q : State) → after (symbols_of bytes) ≡ Some q → (IsWritten (symbols_of bytes) → ⊥) → IsFaultOfText bytes (length bytes)
breaks_off complete bytes q e f = inr (record { at_end = refl; begins = read_begins complete bytes q e; unfinished = f })

-- THE LIMIT OF BYTES

pub short_fault : (bytes : List ℕ) (i : ℕ) → length bytes ≤ 16777216 → IsFaultOfText bytes i → IsFaultOfForm bytes i
short_fault bytes i size f = let h = fault_within bytes i f in inl (f, omega arith)

cut_front : (bytes : List ℕ) (j : ℕ) → j < 16777216 → take (j + 1) (take 16777216 bytes) ≡ take (j + 1) bytes
cut_front bytes j h = take-take (j + 1) 16777216 bytes (omega arith)

none_below_at : (bytes : List ℕ) (j : ℕ) → 16777216 < length bytes → IsFormPrefix (take 16777216 bytes) → (t : Bool) → nat_lt j 16777216 ≡ t → IsFaultOfText bytes j → 16777216 ≤ j
none_below_at bytes j long live false e f = ltb-false j 16777216 e
none_below_at bytes j long live true e (inl a) =
    let less = ltb-true j 16777216 e in absurd (a.holds.begins_none (shorter_front (j + 1) 16777216 bytes (omega arith) live))
none_below_at bytes j long live true e (inr a) = let less = ltb-true j 16777216 e in let h = a.at_end in absurd (omega arith)

passes : (bytes : List ℕ) (i : ℕ) → 16777216 < length bytes → IsFormPrefix (take 16777216 bytes) → i ≡ 16777216 → PassesLimit bytes i
passes bytes i long live at = record {
  longer = long;
  at_limit = at;
  none_below = λ j f. none_below_at bytes j long live (nat_lt j 16777216) refl f;
}

front_departs : (bytes : List ℕ) (j : ℕ) → 16777216 < length bytes → j < 16777216 → Departs bytes j → Departs (take 16777216 bytes) j
front_departs bytes j long h d = record {
  within = let l = length-take 16777216 bytes in omega arith;
  begins_none = λ p. d.begins_none (subst IsFormPrefix (cut_front bytes j h) p);
}

least_here : (bytes : List ℕ) (i j : ℕ) → 16777216 < length bytes → i < 16777216 → IsLeast (Departs (take 16777216 bytes)) i → Departs bytes j → (t : Bool) → nat_lt j 16777216 ≡ t → i ≤ j
least_here bytes i j long small a d true e = a.least j (front_departs bytes j long (ltb-true j 16777216 e) d)
least_here bytes i j long small a d false e = let h = ltb-false j 16777216 e in omega arith

pub long_fault : (bytes : List ℕ) (i : ℕ) → 16777216 < length bytes → IsFaultOfText (take 16777216 bytes) i → IsFaultOfForm bytes (min i 16777216)
long_fault bytes i long (inl a) =
    let l = length-take 16777216 bytes in
    let w = a.holds.within in
    let small : i < 16777216 = omega arith in
    let here : i ≡ min i 16777216 = omega arith in
    let fault : IsFaultOfText bytes i = inl (record {
      holds = record { within = omega arith; begins_none = λ p. a.holds.begins_none (subst IsFormPrefix (sym (cut_front bytes i small)) p) };
      least = λ j d. least_here bytes i j long small a d (nat_lt j 16777216) refl;
    }) in
    inl (subst (IsFaultOfText bytes) here fault, omega arith)
long_fault bytes i long (inr a) =
    let l = length-take 16777216 bytes in
    let e = a.at_end in
    inr (passes bytes (min i 16777216) long a.begins (omega arith))

pub long_front : (bytes : List ℕ) → 16777216 < length bytes → IsWritten (symbols_of (take 16777216 bytes)) → IsFaultOfForm bytes 16777216
long_front bytes long w = inr (passes bytes 16777216 long (form_begins (take 16777216 bytes) w) refl)

pub too_long_untaken : (old new bytes : List ℕ) → 16777216 < length bytes → Takes old new bytes → ⊥
too_long_untaken old new bytes long t = let h = t.form.size in absurd (omega arith)
