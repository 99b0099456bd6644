-- Faults of a line at each kind of place.
use Rattle.std.proofs.Common.{◌≡◌, inl, inr, ℕ, ◌+◌, ◌-◌, ◌==◌, ◌&&◌, not, Bool, true, false, cond, List, [], ◌∷◌, ◌++◌, Some, is_some, option_and_then, length, refl, sym, ◌∙◌, ap, append_assoc, append-nil, arith, length-append}
use Rattle.std.specs.List.{flat_map, filter, list_all}
use Rattle.std.proofs.lemmas.Bool.{both_ways, cases_Bool, cond-true, cond-false, and_parts, and_from, ne_eqb, not_from_false}
use Rattle.std.proofs.lemmas.List.Folds.{list_all-append}
use Rattle.quick_form.specs.Words.{is_word_byte, is_blank, begins_in_word}
use Rattle.quick_form.specs.Symbols.{Piece, Word, Other, with_letter, pieces_of, piece_symbols, is_blank_piece, solid_pieces, is_directive_line, after_first_piece, directive_symbol}
use Rattle.quick_form.proofs.CutLines.{flat_append}
use Rattle.quick_parser.specs.Steps.{State, steps}
use Rattle.quick_rename.specs.Cuts.{IsOneLine, Cut, FaultAt, takes_tokens, takes_line}
use Rattle.quick_lexer.proofs.PieceLemmas.{solid_pieces-blank, blank_is_no_letter}
use Rattle.quick_rename.proofs.Cutting.{solid_pieces-blanks, solid_pieces-piece}
use Rattle.quick_rename.proofs.FormFaults.{steps-append}

-- WHAT A LINE BEGINS WITH

abbrev begins_with_hash : List ℕ → Bool
begins_with_hash [] = false
begins_with_hash (b ∷ bs) = cond (is_blank b) (begins_with_hash bs) (b == 35)

letter_first : (b : ℕ) (ps : List Piece) → is_directive_line (filter (λ p. not (is_blank_piece p)) (with_letter b ps)) ≡ false
letter_first b [] = refl
letter_first b (Word w ∷ ps) = refl
letter_first b (Other c ∷ ps) = refl

visible_first : (b : ℕ) (bs : List ℕ) (t : Bool) → is_blank b ≡ false → is_word_byte b ≡ t → is_directive_line (solid_pieces (b ∷ bs)) ≡ (b == 35)
visible_first b bs true e w =
    ap (λ ps. is_directive_line (filter (λ p. not (is_blank_piece p)) ps)) (cond-true (is_word_byte b) (with_letter b (pieces_of bs)) (Other b ∷ pieces_of bs) w)
    ∙ (letter_first b (pieces_of bs) ∙ sym (ne_eqb b 35 (λ h. both_ways (is_word_byte b) (ap is_word_byte h) w)))
visible_first b bs false e w =
    ap (λ ps. is_directive_line (filter (λ p. not (is_blank_piece p)) ps)) (cond-false (is_word_byte b) (with_letter b (pieces_of bs)) (Other b ∷ pieces_of bs) w)
    ∙ ap is_directive_line (cond-true (not (is_blank b)) (Other b ∷ solid_pieces bs) (solid_pieces bs) (not_from_false (is_blank b) e))

directive-hash_at : (b : ℕ) (bs : List ℕ) (t : Bool) → is_blank b ≡ t → is_directive_line (solid_pieces bs) ≡ begins_with_hash bs → is_directive_line (solid_pieces (b ∷ bs)) ≡ cond t (begins_with_hash bs) (b == 35)
directive-hash_at b bs true e h = ap is_directive_line (solid_pieces-blank b bs e) ∙ h
directive-hash_at b bs false e h = visible_first b bs (is_word_byte b) e refl

directive-hash : (line : List ℕ) → is_directive_line (solid_pieces line) ≡ begins_with_hash line
directive-hash [] = refl
directive-hash (b ∷ bs) = directive-hash_at b bs (is_blank b) refl (directive-hash bs)

hash-append_at : (t : Bool) (a x y : List ℕ) (h : Bool) → (t && list_all is_blank a) ≡ false → (list_all is_blank a ≡ false → begins_with_hash (a ++ x) ≡ begins_with_hash (a ++ y)) → cond t (begins_with_hash (a ++ x)) h ≡ cond t (begins_with_hash (a ++ y)) h
hash-append_at true a x y h e f = f e
hash-append_at false a x y h e f = refl

hash-append : (a x y : List ℕ) → list_all is_blank a ≡ false → begins_with_hash (a ++ x) ≡ begins_with_hash (a ++ y)
hash-append [] x y e = absurd (both_ways true e refl)
hash-append (b ∷ a) x y e = hash-append_at (is_blank b) a x y (b == 35) e (hash-append a x y)

-- a line of tokens stays one whatever stands behind its first token
stays_tokens : (a x y : List ℕ) → list_all is_blank a ≡ false → is_directive_line (solid_pieces (a ++ y)) ≡ false → is_directive_line (solid_pieces (a ++ x)) ≡ false
stays_tokens a x y e h = directive-hash (a ++ x) ∙ (hash-append a x y e ∙ (sym (directive-hash (a ++ y)) ∙ h))

front_tokens : (ps qs : List Piece) → is_directive_line (ps ++ qs) ≡ false → is_directive_line ps ≡ false
front_tokens [] qs h = refl
front_tokens (Word w ∷ ps) qs h = refl
front_tokens (Other b ∷ ps) qs h = h

-- FROM TOKENS TO THEIR LINE

pub tokens_taken : (s t : State) (ps qs : List Piece) → steps s (flat_map piece_symbols ps) ≡ Some t → is_directive_line (ps ++ qs) ≡ false → takes_line s (ps ++ qs) ≡ takes_tokens t qs
tokens_taken s t ps qs e plain =
    ap (λ ks. is_some (steps s ks)) (cond-false (is_directive_line (ps ++ qs)) (directive_symbol (after_first_piece (ps ++ qs)) ∷ []) (flat_map piece_symbols (ps ++ qs)) plain ∙ flat_append piece_symbols ps qs)
    ∙ ap is_some (steps-append s (flat_map piece_symbols ps) (flat_map piece_symbols qs) ∙ ap (option_and_then (λ u. steps u (flat_map piece_symbols qs))) e)

begins-cons : (a : List ℕ) (b : ℕ) (x y : List ℕ) → begins_in_word (a ++ b ∷ x) ≡ begins_in_word (a ++ b ∷ y)
begins-cons [] b x y = refl
begins-cons (c ∷ a) b x y = refl

begins-blank : (a : List ℕ) → list_all is_blank a ≡ true → begins_in_word a ≡ false
begins-blank [] h = refl
begins-blank (b ∷ a) h = blank_is_no_letter b (and_parts (is_blank b) (list_all is_blank a) h).0

begins-visible : (a x y : List ℕ) → list_all is_blank a ≡ false → begins_in_word (a ++ x) ≡ begins_in_word (a ++ y)
begins-visible [] x y h = absurd (both_ways true h refl)
begins-visible (b ∷ a) x y h = refl

and_false : (b : Bool) → (b && false) ≡ false
and_false true = refl
and_false false = refl

not_blank : (a b : List ℕ) → list_all is_blank b ≡ false → list_all is_blank (a ++ b) ≡ false
not_blank a b h = list_all-append is_blank a b ∙ (ap (λ t. list_all is_blank a && t) h ∙ and_false (list_all is_blank a))

solid_blank : (a : List ℕ) → list_all is_blank a ≡ true → solid_pieces a ≡ []
solid_blank a h = ap solid_pieces (sym (append-nil a)) ∙ solid_pieces-blanks a [] h

tokens_dead : (s t : State) (line text : List ℕ) (ps : List Piece) (front : List ℕ) (b : ℕ) (bs : List ℕ) → (c : Cut line text ps) → is_directive_line (solid_pieces line) ≡ false → steps s (flat_map piece_symbols ps) ≡ Some t → text ≡ front ++ b ∷ bs → ((rest : List ℕ) → takes_tokens t (solid_pieces (front ++ b ∷ rest)) ≡ false) → (u : Bool) → list_all is_blank (front ++ b ∷ []) ≡ u → (rest : List ℕ) → takes_line s (solid_pieces (c.before ++ (front ++ b ∷ rest))) ≡ false
tokens_dead s t line text ps front b bs c plain e cut dead true blank rest =
    absurd (both_ways true (sym (ap (takes_tokens t) (solid_blank (front ++ b ∷ []) blank)) ∙ dead []) refl)
tokens_dead s t line text ps front b bs c plain e cut dead false visible rest =
    let same = begins-cons front b rest bs ∙ sym (ap begins_in_word cut) in
    let pieces = c.pieces (front ++ b ∷ rest) (λ h. sym same ∙ h) in
    let here : (x : List ℕ) → (c.before ++ (front ++ b ∷ [])) ++ x ≡ c.before ++ (front ++ b ∷ x) = λ x. append_assoc c.before (front ++ b ∷ []) x ∙ ap (λ l. c.before ++ l) (append_assoc front (b ∷ []) x) in
    let whole : (c.before ++ (front ++ b ∷ [])) ++ bs ≡ line = here bs ∙ sym (c.joined ∙ ap (λ l. c.before ++ l) cut) in
    let tokens : is_directive_line (solid_pieces (c.before ++ (front ++ b ∷ rest))) ≡ false =
    ap (λ l. is_directive_line (solid_pieces l)) (sym (here rest))
    ∙ stays_tokens (c.before ++ (front ++ b ∷ [])) rest bs (not_blank c.before (front ++ b ∷ []) visible) (ap (λ l. is_directive_line (solid_pieces l)) whole ∙ plain) in
    ap (takes_line s) pieces ∙ (tokens_taken s t ps (solid_pieces (front ++ b ∷ rest)) e (ap is_directive_line (sym pieces) ∙ tokens) ∙ dead rest)

pub tokens_fault : (s t : State) (line text : List ℕ) (ps : List Piece) (m : ℕ) → Cut line text ps → is_directive_line (solid_pieces line) ≡ false → steps s (flat_map piece_symbols ps) ≡ Some t → FaultAt (takes_tokens t) text m → FaultAt (takes_line s) line ((length line - length text) + m)
tokens_fault s t line text ps m c plain e f =
    let joined : line ≡ (c.before ++ f.front) ++ f.back = c.joined ∙ (ap (λ l. c.before ++ l) f.joined ∙ sym (append_assoc c.before f.front f.back)) in
    let len : length line ≡ length c.before + length text = ap length c.joined ∙ length-append c.before text in
    let front_len = length-append c.before f.front in
    let count : (length line - length text) + m ≡ length (c.before ++ f.front) = let h = f.count_is in omega arith in
    let dead : (b : ℕ) (bs : List ℕ) → f.back ≡ b ∷ bs → (rest : List ℕ) → takes_line s (solid_pieces ((c.before ++ f.front) ++ b ∷ rest)) ≡ false =
    λ b bs g rest. ap (λ l. takes_line s (solid_pieces l)) (append_assoc c.before f.front (b ∷ rest))
    ∙ tokens_dead s t line text ps f.front b bs c plain e (f.joined ∙ ap (λ l. f.front ++ l) g) (f.dead b bs g) (list_all is_blank (f.front ++ b ∷ [])) refl rest in
    elim (cases_Bool (list_all is_blank f.front)) [
      | inl blank ↦
          let pieces = c.pieces f.front (λ h. absurd (both_ways (begins_in_word f.front) (begins-blank f.front blank) h)) ∙ ap (λ qs. ps ++ qs) (solid_blank f.front blank) in
          let all : is_directive_line (ps ++ solid_pieces text) ≡ false = ap is_directive_line (sym (ap solid_pieces c.joined ∙ c.pieces text (λ h. h))) ∙ plain in
          let none : is_directive_line (ps ++ []) ≡ false = ap is_directive_line (append-nil ps) ∙ front_tokens ps (solid_pieces text) all in
          record {
            front = c.before ++ f.front;
            back = f.back;
            joined = joined;
            count_is = count;
            more = [];
            one_line = tt;
            live = ap (λ l. takes_line s (solid_pieces l)) (append-nil (c.before ++ f.front)) ∙ (ap (takes_line s) pieces ∙ tokens_taken s t ps [] e none);
            dead = dead;
          }
      | inr visible ↦
          let same = begins-visible f.front f.more f.back visible ∙ sym (ap begins_in_word f.joined) in
          let pieces = c.pieces (f.front ++ f.more) (λ h. sym same ∙ h) in
          let tokens : is_directive_line (solid_pieces (c.before ++ (f.front ++ f.more))) ≡ false =
          ap (λ l. is_directive_line (solid_pieces l)) (sym (append_assoc c.before f.front f.more))
          ∙ stays_tokens (c.before ++ f.front) f.more f.back (not_blank c.before f.front visible) (ap (λ l. is_directive_line (solid_pieces l)) (sym joined) ∙ plain) in
          record {
            front = c.before ++ f.front;
            back = f.back;
            joined = joined;
            count_is = count;
            more = f.more;
            one_line = f.one_line;
            live = ap (λ l. takes_line s (solid_pieces l)) (append_assoc c.before f.front f.more) ∙ (ap (takes_line s) pieces ∙ (tokens_taken s t ps (solid_pieces (f.front ++ f.more)) e (ap is_directive_line (sym pieces) ∙ tokens) ∙ f.live));
            dead = dead;
          }
    ]

-- AT EACH KIND OF PLACE

-- what stands in place of a piece, behind blanks and tabs
begins-word : (blanks u v rest more : List ℕ) → (u ≡ [] → begins_in_word more ≡ false) → begins_in_word (blanks ++ (u ++ more)) ≡ true → begins_in_word (blanks ++ ((u ++ v) ++ rest)) ≡ true
begins-word [] [] v rest more f h = absurd (both_ways (begins_in_word more) (f refl) h)
begins-word [] (b ∷ u) v rest more f h = h
begins-word (b ∷ bs) u v rest more f h = h

count_front : (line text before blanks u tail : List ℕ) → line ≡ before ++ text → text ≡ blanks ++ (u ++ tail) → (length line - length text) + (length blanks + length u) ≡ length (before ++ (blanks ++ u))
count_front line text before blanks u tail e f =
    let a : length line ≡ length before + length text = ap length e ∙ length-append before text in
    let b = length-append before (blanks ++ u) in
    let c = length-append blanks u in omega arith

begins-apart : (blanks more : List ℕ) → list_all is_blank blanks ≡ true → begins_in_word more ≡ false → begins_in_word (blanks ++ more) ≡ false
begins-apart [] more h e = e
begins-apart (b ∷ bs) more h e = begins-blank (b ∷ bs) h

-- a byte that is neither a blank nor part of a word can't stand
pub mark_fault : (good : List Piece → Bool) (line text : List ℕ) (ps : List Piece) (blanks : List ℕ) (b : ℕ) (rest more : List ℕ) (n : ℕ) → Cut line text ps → list_all is_blank blanks ≡ true → text ≡ blanks ++ b ∷ rest → is_word_byte b ≡ false → is_blank b ≡ false → n ≡ (length line - length text) + length blanks
    → IsOneLine more → begins_in_word more ≡ false → good (ps ++ solid_pieces more) ≡ true → ((qs : List Piece) → good (ps ++ Other b ∷ qs) ≡ false) → FaultAt good line n
mark_fault good line text ps blanks b rest more n c h e mark visible at one apart live dead =
    let len = count_front line text c.before blanks [] (b ∷ rest) c.joined e in
    let same : (x : List ℕ) → begins_in_word (blanks ++ b ∷ x) ≡ true → begins_in_word text ≡ true = λ x g. ap begins_in_word e ∙ (begins-cons blanks b rest x ∙ g) in
    record {
      front = c.before ++ blanks;
      back = b ∷ rest;
      joined = c.joined ∙ (ap (λ l. c.before ++ l) e ∙ sym (append_assoc c.before blanks (b ∷ rest)));
      count_is = let a : length (blanks ++ []) ≡ length blanks = ap length (append-nil blanks) in let d = ap (λ l. length (c.before ++ l)) (append-nil blanks) in at ∙ omega arith;
      more = more;
      one_line = one;
      live = ap (λ l. good (solid_pieces l)) (append_assoc c.before blanks more)
          ∙ (ap good (c.pieces (blanks ++ more) (λ g. absurd (both_ways (begins_in_word (blanks ++ more)) (begins-apart blanks more h apart) g)) ∙ ap (λ qs. ps ++ qs) (solid_pieces-blanks blanks more h)) ∙ live);
      dead = λ d ds g x.
          let is : b ≡ d = cc in
          ap (λ l. good (solid_pieces l)) (append_assoc c.before blanks (d ∷ x) ∙ ap (λ z. c.before ++ (blanks ++ z ∷ x)) (sym is))
          ∙ (ap good (c.pieces (blanks ++ b ∷ x) (same x) ∙ ap (λ qs. ps ++ qs) (solid_pieces-blanks blanks (b ∷ x) h ∙ solid_pieces-piece (Other b) x mark visible)) ∙ dead (solid_pieces x));
    }

-- a word in front of anything is the beginning of a piece
pub record WordFront (w rest : List ℕ) : Type 0 where
  pub more : List ℕ
  pub behind : List ℕ
  pub pieces : solid_pieces (w ++ rest) ≡ Word (w ++ more) ∷ solid_pieces behind

record WordCut (rest : List ℕ) : Type 0 where
  more : List ℕ
  behind : List ℕ
  joined : rest ≡ more ++ behind
  word : list_all is_word_byte more ≡ true
  ended : begins_in_word behind ≡ false

word_cut_at : (b : ℕ) (bs : List ℕ) (t : Bool) → is_word_byte b ≡ t → WordCut bs → WordCut (b ∷ bs)
word_cut_at b bs true e w = record { more = b ∷ w.more; behind = w.behind; joined = ap (λ l. b ∷ l) w.joined; word = and_from (is_word_byte b) (list_all is_word_byte w.more) e w.word; ended = w.ended }
word_cut_at b bs false e w = record { more = []; behind = b ∷ bs; joined = refl; word = refl; ended = e }

word_cut : (rest : List ℕ) → WordCut rest
word_cut [] = record { more = []; behind = []; joined = refl; word = refl; ended = refl }
word_cut (b ∷ bs) = word_cut_at b bs (is_word_byte b) refl (word_cut bs)

begins-front : (w v : List ℕ) → begins_in_word w ≡ true → begins_in_word (w ++ v) ≡ true
begins-front [] v h = absurd (both_ways false refl h)
begins-front (b ∷ w) v h = h

pub word_front : (w rest : List ℕ) → begins_in_word w ≡ true → list_all is_word_byte w ≡ true → WordFront w rest
word_front w rest h all =
    let c = word_cut rest in
    let letters : list_all is_word_byte (w ++ c.more) ≡ true = list_all-append is_word_byte w c.more ∙ and_from (list_all is_word_byte w) (list_all is_word_byte c.more) all c.word in
    record {
      more = c.more;
      behind = c.behind;
      pieces = ap solid_pieces (ap (λ l. w ++ l) c.joined ∙ sym (append_assoc w c.more c.behind)) ∙ solid_pieces-piece (Word (w ++ c.more)) c.behind (begins-front w c.more h, letters, c.ended) refl;
    }

behind_front : (before blanks u more : List ℕ) → (before ++ (blanks ++ u)) ++ more ≡ before ++ (blanks ++ (u ++ more))
behind_front before blanks u more = append_assoc before (blanks ++ u) more ∙ ap (λ l. before ++ l) (append_assoc blanks u more)

begins-longer : (blanks u : List ℕ) (d : ℕ) (x v rest : List ℕ) → begins_in_word (blanks ++ (u ++ d ∷ x)) ≡ true → begins_in_word (blanks ++ ((u ++ d ∷ v) ++ rest)) ≡ true
begins-longer [] [] d x v rest k = k
begins-longer [] (b ∷ u) d x v rest k = k
begins-longer (b ∷ bs) u d x v rest k = k

word_dead : (good : List Piece → Bool) (line text : List ℕ) (ps : List Piece) (blanks u v rest : List ℕ) → (c : Cut line text ps) → list_all is_blank blanks ≡ true → text ≡ blanks ++ ((u ++ v) ++ rest) → begins_in_word (u ++ v) ≡ true → list_all is_word_byte (u ++ v) ≡ true → begins_in_word rest ≡ false
    → ((c : ℕ) (w : List ℕ) → v ≡ c ∷ w → (x : List ℕ) (qs : List Piece) → good (ps ++ Word ((u ++ c ∷ []) ++ x) ∷ qs) ≡ false)
    → (v ≡ [] → (qs : List Piece) → good (ps ++ Word u ∷ qs) ≡ false)
    → (b : ℕ) (bs : List ℕ) → v ++ rest ≡ b ∷ bs → (x : List ℕ) → good (solid_pieces (c.before ++ (blanks ++ (u ++ b ∷ x)))) ≡ false
word_dead good line text ps blanks u [] rest c h e first letters ended dead last b bs g x =
    let whole : u ++ [] ≡ u = append-nil u in
    let begins : begins_in_word u ≡ true = ap begins_in_word (sym whole) ∙ first in
    let all : list_all is_word_byte u ≡ true = ap (list_all is_word_byte) (sym whole) ∙ letters in
    let stop : is_word_byte b ≡ false = sym (ap begins_in_word g) ∙ ended in
    let same : begins_in_word (blanks ++ (u ++ b ∷ x)) ≡ true → begins_in_word text ≡ true = λ k. ap begins_in_word e ∙ begins-word blanks u [] rest (b ∷ x) (λ z. stop) k in
    ap good (c.pieces (blanks ++ (u ++ b ∷ x)) same ∙ ap (λ qs. ps ++ qs) (solid_pieces-blanks blanks (u ++ b ∷ x) h ∙ solid_pieces-piece (Word u) (b ∷ x) (begins, all, stop) refl))
    ∙ last refl (solid_pieces (b ∷ x))
word_dead good line text ps blanks u (d ∷ v) rest c h e first letters ended dead last b bs g x =
    let is : d ≡ b = cc in
    let parts = and_parts (list_all is_word_byte u) (list_all is_word_byte (d ∷ v)) (sym (list_all-append is_word_byte u (d ∷ v)) ∙ letters) in
    let letter = (and_parts (is_word_byte d) (list_all is_word_byte v) parts.1).0 in
    let all : list_all is_word_byte (u ++ d ∷ []) ≡ true = list_all-append is_word_byte u (d ∷ []) ∙ and_from (list_all is_word_byte u) (list_all is_word_byte (d ∷ [])) parts.0 (and_from (is_word_byte d) true letter refl) in
    let begins : begins_in_word (u ++ d ∷ []) ≡ true = begins-cons u d [] v ∙ first in
    let f = word_front (u ++ d ∷ []) x begins all in
    let same : begins_in_word (blanks ++ (u ++ d ∷ x)) ≡ true → begins_in_word text ≡ true = λ k. ap begins_in_word e ∙ begins-longer blanks u d x v rest k in
    ap (λ z. good (solid_pieces (c.before ++ (blanks ++ (u ++ z ∷ x))))) (sym is)
    ∙ (ap good (c.pieces (blanks ++ (u ++ d ∷ x)) same ∙ ap (λ qs. ps ++ qs) (solid_pieces-blanks blanks (u ++ d ∷ x) h ∙ (ap solid_pieces (sym (append_assoc u (d ∷ []) x)) ∙ f.pieces)))
    ∙ dead d v refl f.more (solid_pieces f.behind))

-- u of a word u ++ v can stand, and no more
pub word_fault : (good : List Piece → Bool) (line text : List ℕ) (ps : List Piece) (blanks u v rest more : List ℕ) (n : ℕ) → Cut line text ps → list_all is_blank blanks ≡ true → text ≡ blanks ++ ((u ++ v) ++ rest) → begins_in_word (u ++ v) ≡ true → list_all is_word_byte (u ++ v) ≡ true → begins_in_word rest ≡ false → n ≡ (length line - length text) + (length blanks + length u)
    → IsOneLine more → (u ≡ [] → begins_in_word more ≡ false) → good (ps ++ solid_pieces (u ++ more)) ≡ true
    → ((c : ℕ) (w : List ℕ) → v ≡ c ∷ w → (x : List ℕ) (qs : List Piece) → good (ps ++ Word ((u ++ c ∷ []) ++ x) ∷ qs) ≡ false)
    → (v ≡ [] → (qs : List Piece) → good (ps ++ Word u ∷ qs) ≡ false)
    → FaultAt good line n
word_fault good line text ps blanks u v rest more n c h e first letters ended at one apart live dead last =
    let cut : text ≡ blanks ++ (u ++ (v ++ rest)) = e ∙ ap (λ l. blanks ++ l) (append_assoc u v rest) in
    record {
      front = c.before ++ (blanks ++ u);
      back = v ++ rest;
      joined = c.joined ∙ (ap (λ l. c.before ++ l) (cut ∙ sym (append_assoc blanks u (v ++ rest))) ∙ sym (append_assoc c.before (blanks ++ u) (v ++ rest)));
      count_is = at ∙ count_front line text c.before blanks u (v ++ rest) c.joined cut;
      more = more;
      one_line = one;
      live = ap (λ l. good (solid_pieces l)) (behind_front c.before blanks u more)
          ∙ (ap good (c.pieces (blanks ++ (u ++ more)) (λ g. ap begins_in_word e ∙ begins-word blanks u v rest more apart g) ∙ ap (λ qs. ps ++ qs) (solid_pieces-blanks blanks (u ++ more) h)) ∙ live);
      dead = λ b bs g x. ap (λ l. good (solid_pieces l)) (behind_front c.before blanks u (b ∷ x))
          ∙ word_dead good line text ps blanks u v rest c h e first letters ended dead last b bs g x;
    }

visible_solid : (b : ℕ) (bs : List ℕ) → is_blank b ≡ false → solid_pieces (b ∷ bs) ≡ [] → ⊥
visible_solid b bs e h = elim (cases_Bool (is_word_byte b)) [
  | inl w ↦
      let f = word_front (b ∷ []) bs w (and_from (is_word_byte b) true w refl) in
      let clash : ⊥ = let k = sym f.pieces ∙ h in cc in clash
  | inr w ↦ let k = sym (solid_pieces-piece (Other b) bs w e) ∙ h in let clash : ⊥ = cc in clash
]

-- the line ends where more must stand
solid_none_at : (b : ℕ) (bs : List ℕ) (t : Bool) → is_blank b ≡ t → (solid_pieces bs ≡ [] → list_all is_blank bs ≡ true) → solid_pieces (b ∷ bs) ≡ [] → (t && list_all is_blank bs) ≡ true
solid_none_at b bs true e f h = f (sym (solid_pieces-blank b bs e) ∙ h)
solid_none_at b bs false e f h = absurd (visible_solid b bs e h)

solid_none : (text : List ℕ) → solid_pieces text ≡ [] → list_all is_blank text ≡ true
solid_none [] h = refl
solid_none (b ∷ bs) h = solid_none_at b bs (is_blank b) refl (solid_none bs) h

pub end_fault : (good : List Piece → Bool) (line text : List ℕ) (ps : List Piece) (more : List ℕ) → Cut line text ps → solid_pieces text ≡ [] → IsOneLine more → begins_in_word more ≡ false → good (ps ++ solid_pieces more) ≡ true → FaultAt good line (length line)
end_fault good line text ps more c none one apart live =
    let blank = solid_none text none in
    record {
      front = line;
      back = [];
      joined = sym (append-nil line);
      count_is = refl;
      more = more;
      one_line = one;
      live = ap (λ l. good (solid_pieces l)) (ap (λ l. l ++ more) c.joined ∙ append_assoc c.before text more)
          ∙ (ap good (c.pieces (text ++ more) (λ g. absurd (both_ways (begins_in_word (text ++ more)) (begins-apart text more blank apart) g)) ∙ ap (λ qs. ps ++ qs) (solid_pieces-blanks text more blank)) ∙ live);
      dead = λ b bs g rest. absurd cc;
    }
