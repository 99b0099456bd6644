-- What an unfinished directive line can become, and where it is at fault.
use Rattle.std.proofs.Common.{◌≡◌, inl, inr, ℕ, zero, suc, ◌+◌, ◌-◌, ◌<◌, ◌&&◌, ◌||◌, Bool, true, false, cond, List, [], ◌∷◌, ◌++◌, is_some, length, take, drop, codes, nat_eq, nat_lt, refl, sym, ◌∙◌, ap, subst, append_assoc, append-nil, arith, length-append, length-take, length-drop}
use Rattle.std.specs.List.{list_all, list_any, starts_with}
use Rattle.std.specs.Str.{bytes_eq}
use Rattle.std.proofs.lemmas.Bool.{both_ways, cond-true, cond-false, and_parts, and_from, or_parts, or_cases, or_left, or_right, false_from_ne_true, eqb-true}
use Rattle.std.proofs.lemmas.List.{take-append-drop}
use Rattle.std.proofs.Math.Seq.{take-append-add}
use Rattle.quick_form.specs.Words.{is_word_byte, is_blank, begins_in_word, is_identifier, is_name}
use Rattle.quick_form.specs.Symbols.{Symbol, Ifdef, Else, Endif, Malformed, Piece, Word, Other, piece_bytes, is_blank_piece, solid_pieces, is_directive_line, directive_symbol}
use Rattle.quick_form.proofs.LexingPieces.{IsOneLine-append, IsOneLine-word_bytes}
use Rattle.quick_form.proofs.LexingWords.{is_identifier-name}
use Rattle.quick_lexer.specs.Lines.{BeginsWith}
use Rattle.quick_parser.specs.declared.spots.Place.{Place}
use Rattle.quick_parser.specs.declared.spots.Place.TheVariants.{Entry, Declarator, Declared, Initializer, Semicolon, MainOpening, MainVoid, MainClosing, Body, Assignment, Opening, Operand, Operator}
use Rattle.quick_parser.specs.declared.spots.Frame.{Frame}
use Rattle.quick_parser.specs.Steps.{State, has_room, is_entry}
use Rattle.quick_parser.specs.Laws.{TestsStandAtEntries, MalformedIsRefused}
use Rattle.quick_rename.specs.Cuts.{IsOneLine, Cut, FaultAt, takes_line}
use Rattle.quick_rename.specs.Fronts.{can, begins_word, is_whole_word, begins_directive, is_bare_directive, begins_name, begins_test, IsFrontLength, IsNextPiece}
use Rattle.quick_lexer.proofs.PieceLemmas.{solid_pieces-blank}
use Rattle.quick_rename.proofs.Cutting.{solid_pieces-piece, cut_more}
use Rattle.quick_rename.proofs.LineFaults.{mark_fault, word_fault, end_fault}
use Rattle.quick_rename.proofs.WordFaults.{front_of, rest_of, same_bytes, is_same, one_step, pick, word_begins, identifier_front, Goes_on, one_back, nonempty, padding, padded_name, name_alone, identifier_letters}

-- A WORD OF WHICH SO MUCH CAN STAND

begins_take : (w : List ℕ) (m : ℕ) → begins_in_word w ≡ true → begins_in_word (take (suc m) w) ≡ true
begins_take [] m h = absurd (both_ways false refl h)
begins_take (b ∷ w) m h = h

front_goes_on : (g : List Piece → Bool) (begins : List ℕ → Bool) (w : List ℕ) (l : ℕ) → begins_in_word w ≡ true → IsFrontLength begins w l → Goes_on g [] → ((u : List ℕ) → begins_in_word u ≡ true → begins u ≡ true → Goes_on g u) → Goes_on g (take l w)
front_goes_on g begins w zero b f start goes = start
front_goes_on g begins w (suc m) b f start goes = goes (take (suc m) w) (begins_take w m b) (f.fits (omega arith))

begins_longer : (u : List ℕ) (d : ℕ) (t w : List ℕ) → w ≡ u ++ d ∷ t → begins_in_word w ≡ true → begins_in_word (u ++ d ∷ []) ≡ true
begins_longer [] d t w e h = ap begins_in_word (sym e) ∙ h
begins_longer (b ∷ u) d t w e h = ap begins_in_word (sym e) ∙ h

pub front_fault : (good : List Piece → Bool) (begins : List ℕ → Bool) (line text : List ℕ) (ps : List Piece) (w rest : List ℕ) (l n : ℕ) → Cut line text ps → BeginsWith text (Word w) rest → n ≡ (length line - length rest - length w) + l → IsFrontLength begins w l
    → Goes_on (λ qs. good (ps ++ qs)) [] → ((u : List ℕ) → begins_in_word u ≡ true → begins u ≡ true → Goes_on (λ qs. good (ps ++ qs)) u)
    → ((u x : List ℕ) (qs : List Piece) → begins_in_word u ≡ true → begins u ≡ false → good (ps ++ Word (u ++ x) ∷ qs) ≡ false)
    → (l ≡ length w → (qs : List Piece) → good (ps ++ Word w ∷ qs) ≡ false) → FaultAt good line n
front_fault good begins line text ps w rest l n c b at f start goes dead whole =
    let u = take l w in
    let v = drop l w in
    let same : u ++ v ≡ w = take-append-drop l w in
    let inside = f.within in
    let u_len : length u ≡ l = let e = length-take l w in omega arith in
    let joined : text ≡ b.blanks ++ ((u ++ v) ++ rest) = b.joined ∙ ap (λ x. b.blanks ++ (x ++ rest)) (sym same) in
    let g = front_goes_on (λ qs. good (ps ++ qs)) begins w l b.cut.0 f start goes in
    let line_len : length line ≡ length c.before + length text = ap length c.joined ∙ length-append c.before text in
    let text_len : length text ≡ length b.blanks + (length w + length rest) = ap length b.joined ∙ (length-append b.blanks (w ++ rest) ∙ ap (λ m. length b.blanks + m) (length-append w rest)) in
    let place : n ≡ (length line - length text) + (length b.blanks + length u) = at ∙ omega arith in
    word_fault good line text ps b.blanks u v rest g.more n c b.are_blank joined (ap begins_in_word same ∙ b.cut.0) (ap (list_all is_word_byte) same ∙ b.cut.1) b.cut.2 place g.one_line g.apart g.live
    (λ d t e x qs.
    let longer : take (l + 1) w ≡ u ++ d ∷ [] = ap (take (l + 1)) (sym same ∙ ap (λ z. u ++ z) e) ∙ (ap (λ m. take (m + 1) (u ++ d ∷ t)) (sym u_len) ∙ take-append-add u (d ∷ t) 1) in
    let v_len : length v ≡ length t + 1 = ap length e ∙ omega arith in
    let less : l < length w = let k = length-drop l w in omega arith in
    dead (u ++ d ∷ []) x qs (begins_longer u d t w (sym same ∙ ap (λ z. u ++ z) e) b.cut.0) (ap begins (sym longer) ∙ f.ends less))
    (λ e qs.
    let all : u ≡ w = sym (append-nil u) ∙ (ap (λ z. u ++ z) (sym e) ∙ same) in
    ap (λ z. good (ps ++ Word z ∷ qs)) all ∙ whole (sym u_len ∙ ap length all) qs)

-- another piece, none of which can stand
pub piece_fault : (good : List Piece → Bool) (line text : List ℕ) (ps : List Piece) (b : ℕ) (rest : List ℕ) (n : ℕ) → Cut line text ps → BeginsWith text (Other b) rest → is_blank b ≡ false → n ≡ length line - length rest - 1 → Goes_on (λ qs. good (ps ++ qs)) [] → ((qs : List Piece) → good (ps ++ Other b ∷ qs) ≡ false) → FaultAt good line n
piece_fault good line text ps b rest n c w visible at start dead =
    let line_len : length line ≡ length c.before + length text = ap length c.joined ∙ length-append c.before text in
    let text_len : length text ≡ length w.blanks + (length rest + 1) = ap length w.joined ∙ (length-append w.blanks (b ∷ rest) ∙ omega arith) in
    mark_fault good line text ps w.blanks b rest start.more n c w.are_blank w.joined w.cut visible (at ∙ omega arith) start.one_line (start.apart refl) start.live dead

pub last_fault : (good : List Piece → Bool) (line text : List ℕ) (ps : List Piece) → Cut line text ps → solid_pieces text ≡ [] → Goes_on (λ qs. good (ps ++ qs)) [] → FaultAt good line (length line)
last_fault good line text ps c none start = end_fault good line text ps start.more c none start.one_line (start.apart refl) start.live

-- DIRECTIVES

abbrev pub hash : List Piece
hash = Other 35 ∷ []

line_takes : (s : State) (qs : List Piece) → takes_line s (Other 35 ∷ qs) ≡ can s (directive_symbol qs)
line_takes s qs = one_step s (directive_symbol qs)

bad_line : MalformedIsRefused → (s : State) (qs : List Piece) → directive_symbol qs ≡ Malformed → takes_line s (Other 35 ∷ qs) ≡ false
bad_line bad s qs e = line_takes s qs ∙ (ap (can s) e ∙ ap is_some (bad s))

-- where no entry may begin
else_elsewhere : (p : Place) (fs : List Frame) (ns : List (List ℕ)) → is_entry p ≡ false → can (record { spot = record { place = p; open_frames = fs }; tested_names = ns }) Else ≡ false
else_elsewhere Entry fs ns e = absurd (both_ways true e refl)
else_elsewhere Declarator fs ns e = refl
else_elsewhere Declared fs ns e = refl
else_elsewhere Initializer fs ns e = refl
else_elsewhere Semicolon fs ns e = refl
else_elsewhere MainOpening fs ns e = refl
else_elsewhere MainVoid fs ns e = refl
else_elsewhere MainClosing fs ns e = refl
else_elsewhere Body fs ns e = refl
else_elsewhere Assignment fs ns e = refl
else_elsewhere (Opening x) fs ns e = refl
else_elsewhere (Operand x) fs ns e = refl
else_elsewhere (Operator x) fs ns e = refl

endif_elsewhere : (p : Place) (fs : List Frame) (ns : List (List ℕ)) → is_entry p ≡ false → can (record { spot = record { place = p; open_frames = fs }; tested_names = ns }) Endif ≡ false
endif_elsewhere Entry fs ns e = absurd (both_ways true e refl)
endif_elsewhere Declarator fs ns e = refl
endif_elsewhere Declared fs ns e = refl
endif_elsewhere Initializer fs ns e = refl
endif_elsewhere Semicolon fs ns e = refl
endif_elsewhere MainOpening fs ns e = refl
endif_elsewhere MainVoid fs ns e = refl
endif_elsewhere MainClosing fs ns e = refl
endif_elsewhere Body fs ns e = refl
endif_elsewhere Assignment fs ns e = refl
endif_elsewhere (Opening x) fs ns e = refl
endif_elsewhere (Operand x) fs ns e = refl
endif_elsewhere (Operator x) fs ns e = refl

cannot : (s : State) (b : Bool) (k r : Symbol) → can s k ≡ false → can s r ≡ false → can s (cond b k r) ≡ false
cannot s true k r p q = p
cannot s false k r p q = q

directive_elsewhere : TestsStandAtEntries → MalformedIsRefused → (s : State) (qs : List Piece) → is_entry s.spot.place ≡ false → can s (directive_symbol qs) ≡ false
directive_elsewhere tests bad s [] e = ap is_some (bad s)
directive_elsewhere tests bad s (Word d ∷ []) e =
    cannot s (bytes_eq d (codes "else")) Else _ (else_elsewhere s.spot.place s.spot.open_frames s.tested_names e)
    (cannot s (bytes_eq d (codes "endif")) Endif Malformed (endif_elsewhere s.spot.place s.spot.open_frames s.tested_names e) (ap is_some (bad s)))
directive_elsewhere tests bad s (Word d ∷ Word n ∷ []) e =
    cannot s (bytes_eq d (codes "ifdef")) _ Malformed
    (cannot s (is_name n) (Ifdef n) Malformed (tests s n ∙ ap (λ b. b && has_room s.tested_names n) e) (ap is_some (bad s))) (ap is_some (bad s))
directive_elsewhere tests bad s (Word d ∷ Word n ∷ p ∷ ps) e = ap is_some (bad s)
directive_elsewhere tests bad s (Word d ∷ Other b ∷ ps) e = ap is_some (bad s)
directive_elsewhere tests bad s (Other b ∷ ps) e = ap is_some (bad s)

pub no_directive : TestsStandAtEntries → MalformedIsRefused → (s : State) (qs : List Piece) → is_entry s.spot.place ≡ false → takes_line s (Other 35 ∷ qs) ≡ false
no_directive tests bad s qs e = line_takes s qs ∙ directive_elsewhere tests bad s qs e

-- a name that may be tested
record Probe (ns : List (List ℕ)) : Type 0 where
  name : List ℕ
  named : is_name name ≡ true
  room : has_room ns name ≡ true

probe : (ns : List (List ℕ)) → list_all is_name ns ≡ true → Probe ns
probe [] h = record { name = codes "a"; named = refl; room = refl }
probe (n ∷ ns) h = record {
  name = n;
  named = (and_parts (is_name n) (list_all is_name ns) h).0;
  room =
      or_left (list_any (bytes_eq n) (n ∷ ns)) (nat_lt (length (n ∷ ns)) 128) (or_left (bytes_eq n n) (list_any (bytes_eq n) ns) (is_same n n refl));
}

can_test : TestsStandAtEntries → (s : State) (n : List ℕ) → is_entry s.spot.place ≡ true → has_room s.tested_names n ≡ true → can s (Ifdef n) ≡ true
can_test tests s n e r = tests s n ∙ and_from (is_entry s.spot.place) (has_room s.tested_names n) e r

test_taken : (s : State) (n : List ℕ) → is_name n ≡ true → can s (Ifdef n) ≡ true → takes_line s (Other 35 ∷ Word (codes "ifdef") ∷ Word n ∷ []) ≡ true
test_taken s n h c = line_takes s (Word (codes "ifdef") ∷ Word n ∷ []) ∙ (ap (can s) (cond-true (is_name n) (Ifdef n) Malformed h) ∙ c)

ifdef_pieces : (n : List ℕ) → is_name n ≡ true → solid_pieces (codes "ifdef" ++ 32 ∷ n) ≡ Word (codes "ifdef") ∷ Word n ∷ []
ifdef_pieces n h =
    solid_pieces-piece (Word (codes "ifdef")) (32 ∷ n) (refl, refl, refl) refl ∙ ap (λ qs. Word (codes "ifdef") ∷ qs) (solid_pieces-blank 32 n refl ∙ name_alone n h)

name_line : (n : List ℕ) → is_name n ≡ true → IsOneLine n
name_line n h = IsOneLine-word_bytes n (identifier_letters n (is_identifier-name n h))

abbrev pub in_directive : State → List Piece → Bool
in_directive s qs = takes_line s (Other 35 ∷ qs)

-- behind `#`
pub directive_starts : TestsStandAtEntries → (s : State) → is_entry s.spot.place ≡ true → list_all is_name s.tested_names ≡ true → Goes_on (in_directive s) []
directive_starts tests s e names =
    let p = probe s.tested_names names in
    let text = codes "ifdef" ++ 32 ∷ p.name in
    record {
      more = 32 ∷ text;
      one_line = (refl, IsOneLine-append (codes "ifdef") (32 ∷ p.name) (IsOneLine-word_bytes (codes "ifdef") refl) (refl, name_line p.name p.named));
      apart = λ z. refl;
      live = ap (in_directive s) (solid_pieces-blank 32 text refl ∙ ifdef_pieces p.name p.named) ∙ test_taken s p.name p.named (can_test tests s p.name e p.room);
    }

bare_goes_on : (s : State) (u word : List ℕ) (k : Symbol) → begins_in_word u ≡ true → IsOneLine word → solid_pieces word ≡ Word word ∷ [] → directive_symbol (Word word ∷ []) ≡ k → begins_word s word k u ≡ true → Goes_on (in_directive s) u
bare_goes_on s u word k b one solid is h =
    let p = and_parts (starts_with nat_eq word u) (can s k) h in
    let r = rest_of word u p.0 in
    record {
      more = r.0;
      one_line = one_back u r.0 (subst IsOneLine r.1 one);
      apart = λ e. nonempty u _ b e;
      live = ap (λ l. in_directive s (solid_pieces l)) (sym r.1) ∙ (ap (in_directive s) solid ∙ (line_takes s (Word word ∷ []) ∙ (ap (can s) is ∙ p.1)));
    }

pub directive_goes_on : TestsStandAtEntries → (s : State) → is_entry s.spot.place ≡ true → list_all is_name s.tested_names ≡ true → (u : List ℕ) → begins_in_word u ≡ true → begins_directive s u ≡ true → Goes_on (in_directive s) u
directive_goes_on tests s e names u b h =
    elim (or_cases _ (begins_word s (codes "endif") Endif u) h) [
      | inr p ↦ bare_goes_on s u (codes "endif") Endif b (IsOneLine-word_bytes (codes "endif") refl) refl refl p
      | inl g ↦ elim (or_cases (starts_with nat_eq (codes "ifdef") u) (begins_word s (codes "else") Else u) g) [
        | inr p ↦ bare_goes_on s u (codes "else") Else b (IsOneLine-word_bytes (codes "else") refl) refl refl p
        | inl p ↦
            let r = rest_of (codes "ifdef") u p in
            let n = probe s.tested_names names in
            let whole : u ++ (r.0 ++ 32 ∷ n.name) ≡ codes "ifdef" ++ 32 ∷ n.name = sym (append_assoc u r.0 (32 ∷ n.name)) ∙ ap (λ l. l ++ 32 ∷ n.name) (sym r.1) in
            record {
              more = r.0 ++ 32 ∷ n.name;
              one_line = IsOneLine-append r.0 (32 ∷ n.name) (one_back u r.0 (subst IsOneLine r.1 (IsOneLine-word_bytes (codes "ifdef") refl))) (refl, name_line n.name n.named);
              apart = λ z. nonempty u _ b z;
              live = ap (λ l. in_directive s (solid_pieces l)) whole ∙ (ap (in_directive s) (ifdef_pieces n.name n.named) ∙ test_taken s n.name n.named (can_test tests s n.name e n.room));
            }
      ]
    ]

directive_word : MalformedIsRefused → (s : State) (u x : List ℕ) (qs : List Piece) → can s (directive_symbol (Word (u ++ x) ∷ qs)) ≡ true → begins_directive s u ≡ true
directive_word bad s u x [] h =
    let w = u ++ x in
    elim (pick s (bytes_eq w (codes "else")) Else _ h) [
      | inl p ↦ or_left (starts_with nat_eq (codes "ifdef") u || begins_word s (codes "else") Else u) (begins_word s (codes "endif") Endif u)
          (or_right (starts_with nat_eq (codes "ifdef") u) (begins_word s (codes "else") Else u) (word_begins s u x (codes "else") Else p.0 p.1))
      | inr g ↦ elim (pick s (bytes_eq w (codes "endif")) Endif Malformed g) [
        | inl p ↦ or_right (starts_with nat_eq (codes "ifdef") u || begins_word s (codes "else") Else u) (begins_word s (codes "endif") Endif u) (word_begins s u x (codes "endif") Endif p.0 p.1)
        | inr f ↦ absurd (both_ways (can s Malformed) (ap is_some (bad s)) f)
      ]
    ]
directive_word bad s u x (Word n ∷ []) h =
    elim (pick s (bytes_eq (u ++ x) (codes "ifdef")) _ Malformed h) [
      | inl p ↦ or_left (starts_with nat_eq (codes "ifdef") u || begins_word s (codes "else") Else u) (begins_word s (codes "endif") Endif u)
          (or_left (starts_with nat_eq (codes "ifdef") u) (begins_word s (codes "else") Else u) (front_of (codes "ifdef") u x (sym (same_bytes (u ++ x) (codes "ifdef") p.0))))
      | inr f ↦ absurd (both_ways (can s Malformed) (ap is_some (bad s)) f)
    ]
directive_word bad s u x (Word n ∷ p ∷ ps) h = absurd (both_ways (can s Malformed) (ap is_some (bad s)) h)
directive_word bad s u x (Other b ∷ ps) h = absurd (both_ways (can s Malformed) (ap is_some (bad s)) h)

pub directive_dead : MalformedIsRefused → (s : State) (u x : List ℕ) (qs : List Piece) → begins_directive s u ≡ false → in_directive s (Word (u ++ x) ∷ qs) ≡ false
directive_dead bad s u x qs none =
    line_takes s (Word (u ++ x) ∷ qs) ∙ false_from_ne_true (can s (directive_symbol (Word (u ++ x) ∷ qs))) (λ h. both_ways (begins_directive s u) none (directive_word bad s u x qs h))

pub directive_mark : MalformedIsRefused → (s : State) (b : ℕ) (qs : List Piece) → in_directive s (Other b ∷ qs) ≡ false
directive_mark bad s b qs = bad_line bad s (Other b ∷ qs) refl

-- a whole word that is none of a directive's
bare_word : (s : State) (w word : List ℕ) (k r : Symbol) → is_whole_word s word k w ≡ false → can s r ≡ false → can s (cond (bytes_eq w word) k r) ≡ false
bare_word s w word k r none f = false_from_ne_true (can s (cond (bytes_eq w word) k r)) (λ h. elim (pick s (bytes_eq w word) k r h) [
  | inl p ↦ both_ways (is_whole_word s word k w) none (and_from (bytes_eq w word) (can s k) p.0 p.1)
  | inr g ↦ both_ways (can s r) f g
])

pub directive_whole : MalformedIsRefused → (s : State) (w : List ℕ) → bytes_eq w (codes "ifdef") ≡ false → is_bare_directive s w ≡ false → (qs : List Piece) → in_directive s (Word w ∷ qs) ≡ false
directive_whole bad s w test bare [] =
    let p = or_parts (is_whole_word s (codes "else") Else w) (is_whole_word s (codes "endif") Endif w) bare in
    line_takes s (Word w ∷ []) ∙ bare_word s w (codes "else") Else _ p.0 (bare_word s w (codes "endif") Endif Malformed p.1 (ap is_some (bad s)))
directive_whole bad s w test bare (Word n ∷ []) =
    bad_line bad s (Word w ∷ Word n ∷ []) (cond-false (bytes_eq w (codes "ifdef")) _ Malformed test)
directive_whole bad s w test bare (Word n ∷ p ∷ ps) = bad_line bad s (Word w ∷ Word n ∷ p ∷ ps) refl
directive_whole bad s w test bare (Other b ∷ ps) = bad_line bad s (Word w ∷ Other b ∷ ps) refl

-- behind `else` or `endif`
pub bare_taken : (s : State) (w : List ℕ) → is_bare_directive s w ≡ true → in_directive s (Word w ∷ []) ≡ true
bare_taken s w h =
    elim (or_cases (is_whole_word s (codes "else") Else w) (is_whole_word s (codes "endif") Endif w) h) [
      | inl p ↦
          let q = and_parts (bytes_eq w (codes "else")) (can s Else) p in
          ap (λ l. in_directive s (Word l ∷ [])) (same_bytes w (codes "else") q.0) ∙ (line_takes s (Word (codes "else") ∷ []) ∙ q.1)
      | inr p ↦
          let q = and_parts (bytes_eq w (codes "endif")) (can s Endif) p in
          ap (λ l. in_directive s (Word l ∷ [])) (same_bytes w (codes "endif") q.0) ∙ (line_takes s (Word (codes "endif") ∷ []) ∙ q.1)
    ]

behind_bare : MalformedIsRefused → (s : State) (w : List ℕ) → bytes_eq w (codes "ifdef") ≡ false → (p : Piece) (qs : List Piece) → in_directive s (Word w ∷ p ∷ qs) ≡ false
behind_bare bad s w test (Word n) [] = bad_line bad s (Word w ∷ Word n ∷ []) (cond-false (bytes_eq w (codes "ifdef")) _ Malformed test)
behind_bare bad s w test (Word n) (p ∷ ps) = bad_line bad s (Word w ∷ Word n ∷ p ∷ ps) refl
behind_bare bad s w test (Other b) qs = bad_line bad s (Word w ∷ Other b ∷ qs) refl

-- BEHIND `#ifdef`

abbrev pub in_test : State → List Piece → Bool
in_test s qs = takes_line s (Other 35 ∷ Word (codes "ifdef") ∷ qs)

pub test_starts : TestsStandAtEntries → (s : State) → is_entry s.spot.place ≡ true → list_all is_name s.tested_names ≡ true → Goes_on (in_test s) []
test_starts tests s e names =
    let p = probe s.tested_names names in
    record {
      more = 32 ∷ p.name;
      one_line = (refl, name_line p.name p.named);
      apart = λ z. refl;
      live = ap (in_test s) (solid_pieces-blank 32 p.name refl ∙ name_alone p.name p.named) ∙ test_taken s p.name p.named (can_test tests s p.name e p.room);
    }

-- a front of one of the names
record Longer (ns : List (List ℕ)) (u : List ℕ) : Type 0 where
  rest : List ℕ
  there : list_any (bytes_eq (u ++ rest)) ns ≡ true
  named : is_name (u ++ rest) ≡ true

longer : (ns : List (List ℕ)) (u : List ℕ) → list_all is_name ns ≡ true → begins_name ns u ≡ true → Longer ns u
longer [] u h b = absurd (both_ways false refl b)
longer (n ∷ ns) u h b =
    let p = and_parts (is_name n) (list_all is_name ns) h in
    elim (or_cases (starts_with nat_eq n u) (begins_name ns u) b) [
      | inl g ↦
          let r = rest_of n u g in
          record {
            rest = r.0;
            there = or_left (bytes_eq (u ++ r.0) n) (list_any (bytes_eq (u ++ r.0)) ns) (is_same (u ++ r.0) n (sym r.1));
            named = subst (λ z. is_name z ≡ true) r.1 p.0;
          }
      | inr g ↦
          let l = longer ns u p.1 g in
          record { rest = l.rest; there = or_right (bytes_eq (u ++ l.rest) n) (list_any (bytes_eq (u ++ l.rest)) ns) l.there; named = l.named }
    ]

name_tested : TestsStandAtEntries → (s : State) (u more : List ℕ) → is_entry s.spot.place ≡ true → begins_in_word u ≡ true → is_name (u ++ more) ≡ true → has_room s.tested_names (u ++ more) ≡ true → Goes_on (in_test s) u
name_tested tests s u more e b named room = record {
  more = more;
  one_line = one_back u more (name_line (u ++ more) named);
  apart = λ z. nonempty u _ b z;
  live = ap (in_test s) (name_alone (u ++ more) named) ∙ test_taken s (u ++ more) named (can_test tests s (u ++ more) e room);
}

pub test_goes_on : TestsStandAtEntries → (s : State) → is_entry s.spot.place ≡ true → list_all is_name s.tested_names ≡ true → (u : List ℕ) → begins_in_word u ≡ true → begins_test s u ≡ true → Goes_on (in_test s) u
test_goes_on tests s e names u b h =
    let p = and_parts (is_identifier u) (nat_lt (length s.tested_names) 128 || begins_name s.tested_names u) h in
    elim (or_cases (nat_lt (length s.tested_names) 128) (begins_name s.tested_names u) p.1) [
      | inl few ↦ name_tested tests s u padding e b (padded_name u p.0) (or_right (list_any (bytes_eq (u ++ padding)) s.tested_names) (nat_lt (length s.tested_names) 128) few)
      | inr known ↦
          let l = longer s.tested_names u names known in
          name_tested tests s u l.rest e b l.named (or_left (list_any (bytes_eq (u ++ l.rest)) s.tested_names) (nat_lt (length s.tested_names) 128) l.there)
    ]

name_begins : (ns : List (List ℕ)) (u x : List ℕ) → list_any (bytes_eq (u ++ x)) ns ≡ true → begins_name ns u ≡ true
name_begins [] u x h = absurd (both_ways false refl h)
name_begins (n ∷ ns) u x h =
    elim (or_cases (bytes_eq (u ++ x) n) (list_any (bytes_eq (u ++ x)) ns) h) [
      | inl p ↦ or_left (starts_with nat_eq n u) (begins_name ns u) (front_of n u x (sym (same_bytes (u ++ x) n p)))
      | inr p ↦ or_right (starts_with nat_eq n u) (begins_name ns u) (name_begins ns u x p)
    ]

test_word : TestsStandAtEntries → (s : State) (u x : List ℕ) → begins_in_word u ≡ true → is_name (u ++ x) ≡ true → can s (Ifdef (u ++ x)) ≡ true → begins_test s u ≡ true
test_word tests s u x b named c =
    let room = (and_parts (is_entry s.spot.place) (has_room s.tested_names (u ++ x)) (sym (tests s (u ++ x)) ∙ c)).1 in
    and_from (is_identifier u) (nat_lt (length s.tested_names) 128 || begins_name s.tested_names u) (identifier_front u x b (is_identifier-name (u ++ x) named))
    (elim (or_cases (list_any (bytes_eq (u ++ x)) s.tested_names) (nat_lt (length s.tested_names) 128) room) [
      | inl known ↦ or_right (nat_lt (length s.tested_names) 128) (begins_name s.tested_names u) (name_begins s.tested_names u x known)
      | inr few ↦ or_left (nat_lt (length s.tested_names) 128) (begins_name s.tested_names u) few
    ])

-- a test of a name that may not be tested
test_refused : MalformedIsRefused → (s : State) (w : List ℕ) → (is_name w ≡ true → can s (Ifdef w) ≡ true → ⊥) → (qs : List Piece) → in_test s (Word w ∷ qs) ≡ false
test_refused bad s w f [] =
    line_takes s (Word (codes "ifdef") ∷ Word w ∷ [])
    ∙ false_from_ne_true (can s (cond (is_name w) (Ifdef w) Malformed)) (λ h. elim (pick s (is_name w) (Ifdef w) Malformed h) [
      | inl p ↦ f p.0 p.1
      | inr g ↦ both_ways (can s Malformed) (ap is_some (bad s)) g
    ])
test_refused bad s w f (q ∷ qs) = bad_line bad s (Word (codes "ifdef") ∷ Word w ∷ q ∷ qs) refl

pub test_dead : TestsStandAtEntries → MalformedIsRefused → (s : State) (u x : List ℕ) (qs : List Piece) → begins_in_word u ≡ true → begins_test s u ≡ false → in_test s (Word (u ++ x) ∷ qs) ≡ false
test_dead tests bad s u x qs b none =
    test_refused bad s (u ++ x) (λ named c. both_ways (begins_test s u) none (test_word tests s u x b named c)) qs

pub test_whole : MalformedIsRefused → (s : State) (w : List ℕ) → (is_name w && can s (Ifdef w)) ≡ false → (qs : List Piece) → in_test s (Word w ∷ qs) ≡ false
test_whole bad s w none qs = test_refused bad s w (λ named c. both_ways (is_name w && can s (Ifdef w)) none (and_from (is_name w) (can s (Ifdef w)) named c)) qs

pub test_mark : MalformedIsRefused → (s : State) (b : ℕ) (qs : List Piece) → in_test s (Other b ∷ qs) ≡ false
test_mark bad s b qs = bad_line bad s (Word (codes "ifdef") ∷ Other b ∷ qs) refl

-- BEHIND A WHOLE DIRECTIVE

pub whole_starts : (good : List Piece → Bool) (ps : List Piece) → good ps ≡ true → Goes_on (λ qs. good (ps ++ qs)) []
whole_starts good ps h = record { more = []; one_line = tt; apart = λ z. refl; live = ap good (append-nil ps) ∙ h }

pub behind_test : MalformedIsRefused → (s : State) (w : List ℕ) (p : Piece) (qs : List Piece) → in_test s (Word w ∷ p ∷ qs) ≡ false
behind_test bad s w p qs = bad_line bad s (Word (codes "ifdef") ∷ Word w ∷ p ∷ qs) refl

pub test_is_taken : (s : State) (w : List ℕ) → (is_name w && can s (Ifdef w)) ≡ true → in_test s (Word w ∷ []) ≡ true
test_is_taken s w h = let p = and_parts (is_name w) (can s (Ifdef w)) h in test_taken s w p.0 p.1

pub behind_bare_directive : MalformedIsRefused → (s : State) (w : List ℕ) → bytes_eq w (codes "ifdef") ≡ false → (p : Piece) (qs : List Piece) → in_directive s (Word w ∷ p ∷ qs) ≡ false
behind_bare_directive = behind_bare

-- the first byte of another piece can't stand
pub next_fault : (good : List Piece → Bool) (line text : List ℕ) (ps : List Piece) (p : Piece) (rest : List ℕ) (n : ℕ) → Cut line text ps → BeginsWith text p rest → is_blank_piece p ≡ false → n ≡ length line - length rest - length (piece_bytes p) → good ps ≡ true → ((q : Piece) (qs : List Piece) → good (ps ++ q ∷ qs) ≡ false) → FaultAt good line n
next_fault good line text ps (Other b) rest n c w visible at taken dead = piece_fault good line text ps b rest n c w visible at (whole_starts good ps taken) (dead (Other b))
next_fault good line text ps (Word w) rest n c b visible at taken dead =
    front_fault good (λ u. false) line text ps w rest 0 n c b (at ∙ omega arith) (record { within = omega arith; fits = λ h. absurd (omega arith); ends = λ h. refl }) (whole_starts good ps taken)
    (λ u e f. absurd (both_ways false refl f)) (λ u x qs e f. dead (Word (u ++ x)) qs) (λ e qs. dead (Word w) qs)

-- behind what can stand as a whole line, no more can
pub after_fault : (good : List Piece → Bool) (line text : List ℕ) (ps : List Piece) (n : ℕ) → Cut line text ps → IsNextPiece line text n → good ps ≡ true → ((q : Piece) (qs : List Piece) → good (ps ++ q ∷ qs) ≡ false) → FaultAt good line n
after_fault good line text ps n c (inl p) taken dead = next_fault good line text ps p.piece p.rest n c p.begins p.solid p.start_is taken dead
after_fault good line text ps n c (inr e) taken dead = subst (FaultAt good line) (sym e.1) (last_fault good line text ps c e.0 (whole_starts good ps taken))

pub cut_behind : (line text : List ℕ) (ps : List Piece) (p : Piece) (rest : List ℕ) → Cut line text ps → BeginsWith text p rest → is_blank_piece p ≡ false → Cut line rest (ps ++ p ∷ [])
cut_behind line text ps p rest c b solid = cut_more line text ps b.blanks p rest c b.are_blank b.joined b.cut solid

-- the piece that a directive line begins with
pub first_is_hash : (line : List ℕ) (p : Piece) (ps : List Piece) → is_directive_line (solid_pieces line) ≡ true → solid_pieces line ≡ p ∷ ps → p ≡ Other 35
first_is_hash line (Word w) ps d e = absurd (both_ways false refl (sym (ap is_directive_line e) ∙ d))
first_is_hash line (Other b) ps d e = ap Other (eqb-true b 35 (sym (ap is_directive_line e) ∙ d))

pub hash_none : (line : List ℕ) → is_directive_line (solid_pieces line) ≡ true → solid_pieces line ≡ [] → ⊥
hash_none line d e = both_ways false refl (sym (ap is_directive_line e) ∙ d)
