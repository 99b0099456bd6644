-- How many bytes of a word can stand.
use Rattle.std.proofs.Common.{◌≡◌, ◌⊎◌, inl, inr, ℕ, zero, suc, ◌+◌, ◌<◌, ◌≤◌, ◌-◌, ◌&&◌, ◌||◌, max, is_some, Bool, true, false, List, [], ◌∷◌, ◌++◌, length, take, drop, get_or, nat_eq, nat_lt, nat_le, refl, sym, ◌∙◌, ap, subst, append_assoc, arith, length-append, length-take}
use Rattle.std.specs.List.{flat_map, list_all, starts_with}
use Rattle.std.proofs.lemmas.Bool.{both_ways, cases_Bool, and_parts, or_cases, or_left, or_right, and_from, false_from_ne_true, cond-false, leb-true, leb-false, ltb-true}
use Rattle.std.proofs.lemmas.List.{take-append-drop, take-take, get_or_append_left}
use Rattle.std.proofs.lemmas.List.Folds.{list_any-append}
use Rattle.quick_form.specs.Words.{is_word_byte, is_blank, begins_in_word, is_identifier, is_name}
use Rattle.quick_form.specs.Symbols.{Symbol, Mark, Piece, Word, Other, piece_symbols, solid_pieces, word_symbol}
use Rattle.quick_form.proofs.LexingWords.{is_identifier-name}
use Rattle.quick_lexer.specs.Lines.{BeginsWith}
use Rattle.quick_lexer.proofs.PieceLemmas.{token_symbols-solid}
use Rattle.quick_parser.specs.Steps.{State, steps}
use Rattle.quick_parser.specs.Laws.{NamesAreAlike, NumbersAreAlike, MalformedIsRefused}
use Rattle.quick_rename.specs.Cuts.{FaultAt, takes_tokens}
use Rattle.quick_rename.specs.Fronts.{can, begins_token, begins_name, begins_test, IsFrontLength, RefusesFirst}
use Rattle.quick_rename.proofs.Cutting.{cut_start}
use Rattle.quick_rename.proofs.WordFaults.{front_of, rest_of, first_step, identifier_front, token_dead, token_goes_on}
use Rattle.quick_rename.proofs.DirectiveFaults.{front_fault, piece_fault, last_fault, whole_starts}

-- a shorter front of what begins one begins it
abbrev Closed : (List ℕ → Bool) → Type 0
Closed f = (w : List ℕ) (m n : ℕ) → m ≤ n → f (take n w) ≡ true → f (take m w) ≡ true

pub front_closed : (name : List ℕ) → Closed (starts_with nat_eq name)
front_closed name w m n h e =
    let r = rest_of name (take n w) e in
    let cut : take n w ≡ take m w ++ drop m (take n w) = sym (take-append-drop m (take n w)) ∙ ap (λ z. z ++ drop m (take n w)) (take-take m n w h) in
    front_of name (take m w) (drop m (take n w) ++ r.0) (r.1 ∙ (ap (λ z. z ++ r.0) cut ∙ append_assoc (take m w) (drop m (take n w)) r.0))

pub names_closed : (ns : List (List ℕ)) → Closed (begins_name ns)
names_closed [] w m n h e = absurd (both_ways false refl e)
names_closed (x ∷ ns) w m n h e =
    elim (or_cases (starts_with nat_eq x (take n w)) (begins_name ns (take n w)) e) [
      | inl p ↦ or_left (starts_with nat_eq x (take m w)) (begins_name ns (take m w)) (front_closed x w m n h p)
      | inr p ↦ or_right (starts_with nat_eq x (take m w)) (begins_name ns (take m w)) (names_closed ns w m n h p)
    ]

ends_beyond : (f : List ℕ → Bool) (w : List ℕ) (a n : ℕ) → Closed f → IsFrontLength f w a → a ≤ n → n < length w → f (take (n + 1) w) ≡ false
ends_beyond f w a n closed h le less =
    false_from_ne_true (f (take (n + 1) w)) (λ e. both_ways (f (take (a + 1) w)) (h.ends (omega arith)) (closed w (a + 1) (n + 1) (omega arith) e))

-- the longer of two
max_of : (f g : List ℕ → Bool) (w : List ℕ) (a b : ℕ) → Closed f → Closed g → IsFrontLength f w a → IsFrontLength g w b → (n : ℕ) → a ≤ n → b ≤ n → (n ≡ a) ⊎ (n ≡ b) → IsFrontLength (λ u. f u || g u) w n
max_of f g w a b cf cg h k n p q (inl e) = record {
  within = let i = h.within in omega arith;
  fits = λ z. or_left (f (take n w)) (g (take n w)) (subst (λ m. f (take m w) ≡ true) (sym e) (h.fits (omega arith)));
  ends = λ z. ap (λ t. t || g (take (n + 1) w)) (ends_beyond f w a n cf h p z) ∙ ends_beyond g w b n cg k q z;
}
max_of f g w a b cf cg h k n p q (inr e) = record {
  within = let i = k.within in omega arith;
  fits = λ z. or_right (f (take n w)) (g (take n w)) (subst (λ m. g (take m w) ≡ true) (sym e) (k.fits (omega arith)));
  ends = λ z. ap (λ t. t || g (take (n + 1) w)) (ends_beyond f w a n cf h p z) ∙ ends_beyond g w b n cg k q z;
}

max_is : (a b : ℕ) → (max a b ≡ a) ⊎ (max a b ≡ b)
max_is a b = elim (cases_Bool (nat_le b a)) [ inl h ↦ let l = leb-true b a h in inl (omega arith) | inr h ↦ let l = leb-false b a h in inr (omega arith) ]

length_same : (f g : List ℕ → Bool) (w : List ℕ) (n : ℕ) → ((u : List ℕ) → f u ≡ g u) → IsFrontLength f w n → IsFrontLength g w n
length_same f g w n e h = record { within = h.within; fits = λ z. sym (e (take n w)) ∙ h.fits z; ends = λ z. sym (e (take (n + 1) w)) ∙ h.ends z }

-- one name more
or_none : (b : Bool) → (b || false) ≡ b
or_none true = refl
or_none false = refl

pub names_more : (ns : List (List ℕ)) (name w : List ℕ) (a b : ℕ) → IsFrontLength (begins_name ns) w a → IsFrontLength (starts_with nat_eq name) w b → IsFrontLength (begins_name (ns ++ name ∷ [])) w (max a b)
names_more ns name w a b h k =
    length_same (λ u. begins_name ns u || starts_with nat_eq name u) (begins_name (ns ++ name ∷ [])) w (max a b)
    (λ u. sym (list_any-append (λ n. starts_with nat_eq n u) ns (name ∷ []) ∙ ap (λ t. begins_name ns u || t) (or_none (starts_with nat_eq name u))))
    (max_of (begins_name ns) (starts_with nat_eq name) w a b (names_closed ns) (front_closed name) h k (max a b) (omega arith) (omega arith) (max_is a b))

pub no_names : (w : List ℕ) → IsFrontLength (begins_name []) w 0
no_names w = record { within = omega arith; fits = λ z. absurd (omega arith); ends = λ z. refl }

-- the end of the bytes that a word has in common with a name
pub common_front : (name w : List ℕ) (i : ℕ) → i < length w → take i w ≡ take i name → (starts_with nat_eq name (take (i + 1) w) ≡ true → ⊥) → IsFrontLength (starts_with nat_eq name) w i
common_front name w i less same stops = record {
  within = omega arith;
  fits = λ z. front_of name (take i w) (drop i name) (sym (take-append-drop i name) ∙ ap (λ u. u ++ drop i name) (sym same));
  ends = λ z. false_from_ne_true (starts_with nat_eq name (take (i + 1) w)) stops;
}

pub longer_than_name : (name w : List ℕ) (i : ℕ) → i < length w → length name ≤ i → starts_with nat_eq name (take (i + 1) w) ≡ true → ⊥
longer_than_name name w i less short e =
    let r = rest_of name (take (i + 1) w) e in
    let a : length name ≡ length (take (i + 1) w) + length r.0 = ap length r.1 ∙ length-append (take (i + 1) w) r.0 in
    let b = length-take (i + 1) w in absurd (omega arith)

pub other_byte : (name w : List ℕ) (i : ℕ) → i < length w → (get_or name i 0 ≡ get_or w i 0 → ⊥) → starts_with nat_eq name (take (i + 1) w) ≡ true → ⊥
other_byte name w i less differ e =
    let r = rest_of name (take (i + 1) w) e in
    let b = length-take (i + 1) w in
    let x : get_or name i 0 ≡ get_or (take (i + 1) w) i 0 = ap (λ z. get_or z i 0) r.1 ∙ get_or_append_left (take (i + 1) w) r.0 0 i (omega arith) in
    let y : get_or w i 0 ≡ get_or (take (i + 1) w) i 0 = ap (λ z. get_or z i 0) (sym (take-append-drop (i + 1) w)) ∙ get_or_append_left (take (i + 1) w) (drop (i + 1) w) 0 i (omega arith) in
    differ (x ∙ sym y)

-- where no further name may be tested
begins_letters : (w : List ℕ) (n : ℕ) → list_all is_word_byte w ≡ true → 0 < n → n ≤ length w → begins_in_word (take n w) ≡ true
begins_letters [] n h p q = absurd (omega arith)
begins_letters (b ∷ w) zero h p q = absurd (omega arith)
begins_letters (b ∷ w) (suc n) h p q = (and_parts (is_word_byte b) (list_all is_word_byte w) h).0

name_identifier : (ns : List (List ℕ)) (u : List ℕ) → list_all is_name ns ≡ true → begins_in_word u ≡ true → begins_name ns u ≡ true → is_identifier u ≡ true
name_identifier [] u h b e = absurd (both_ways false refl e)
name_identifier (n ∷ ns) u h b e =
    let p = and_parts (is_name n) (list_all is_name ns) h in
    elim (or_cases (starts_with nat_eq n u) (begins_name ns u) e) [
      | inl g ↦ let r = rest_of n u g in identifier_front u r.0 b (is_identifier-name (u ++ r.0) (subst (λ z. is_name z ≡ true) r.1 p.0))
      | inr g ↦ name_identifier ns u p.1 b g
    ]

and_none : (b : Bool) → (b && false) ≡ false
and_none true = refl
and_none false = refl

pub test_front : (s : State) (w : List ℕ) (n : ℕ) → list_all is_word_byte w ≡ true → list_all is_name s.tested_names ≡ true → 128 ≤ length s.tested_names → IsFrontLength (begins_name s.tested_names) w n → IsFrontLength (begins_test s) w n
test_front s w n letters names full h =
    let many : nat_lt (length s.tested_names) 128 ≡ false = false_from_ne_true (nat_lt (length s.tested_names) 128) (λ e. let l = ltb-true (length s.tested_names) 128 e in absurd (omega arith)) in
    record {
      within = h.within;
      fits = λ z.
          and_from (is_identifier (take n w)) (nat_lt (length s.tested_names) 128 || begins_name s.tested_names (take n w))
          (name_identifier s.tested_names (take n w) names (begins_letters w n letters z h.within) (h.fits z))
          (or_right (nat_lt (length s.tested_names) 128) (begins_name s.tested_names (take n w)) (h.fits z));
      ends = λ z.
          ap (λ t. is_identifier (take (n + 1) w) && (t || begins_name s.tested_names (take (n + 1) w))) many
          ∙ (ap (λ t. is_identifier (take (n + 1) w) && t) (h.ends z) ∙ and_none (is_identifier (take (n + 1) w)));
    }

-- TOKENS

token_first : (s : State) (text : List ℕ) (p : Piece) (ps : List Piece) (k : Symbol) → RefusesFirst s text → solid_pieces text ≡ p ∷ ps → piece_symbols p ≡ k ∷ [] → can s k ≡ false
token_first s text p ps k no_first solid spells =
    no_first k (flat_map piece_symbols ps) (token_symbols-solid text ∙ (ap (flat_map piece_symbols) solid ∙ ap (λ l. l ++ flat_map piece_symbols ps) spells))

pub token_word_fault : NamesAreAlike → NumbersAreAlike → MalformedIsRefused → (s : State) (text w rest : List ℕ) (ps : List Piece) (l n : ℕ) → RefusesFirst s text → solid_pieces text ≡ Word w ∷ ps → BeginsWith text (Word w) rest → n ≡ (length text - length rest - length w) + l → IsFrontLength (begins_token s) w l → FaultAt (takes_tokens s) text n
token_word_fault names numbers bad s text w rest ps l n none solid b at f =
    let first = token_first s text (Word w) ps (word_symbol w) none solid refl in
    front_fault (takes_tokens s) (begins_token s) text text [] w rest l n (cut_start text) b at f (whole_starts (takes_tokens s) [] refl)
    (λ u e g. token_goes_on names numbers s u e g) (λ u x qs e g. token_dead names numbers bad s u x qs e g)
    (λ e qs. first_step s (word_symbol w) (flat_map piece_symbols qs) first)

pub token_mark_fault : (s : State) (text : List ℕ) (b : ℕ) (rest : List ℕ) (ps : List Piece) (n : ℕ) → RefusesFirst s text → solid_pieces text ≡ Other b ∷ ps → BeginsWith text (Other b) rest → is_blank b ≡ false → n ≡ length text - length rest - 1 → FaultAt (takes_tokens s) text n
token_mark_fault s text b rest ps n none solid w visible at =
    let spells : piece_symbols (Other b) ≡ Mark b ∷ [] = cond-false (is_blank b) [] (Mark b ∷ []) visible in
    let first = token_first s text (Other b) ps (Mark b) none solid spells in
    piece_fault (takes_tokens s) text text [] b rest n (cut_start text) w visible at (whole_starts (takes_tokens s) [] refl)
    (λ qs. ap (λ l. is_some (steps s (l ++ flat_map piece_symbols qs))) spells ∙ first_step s (Mark b) (flat_map piece_symbols qs) first)

pub token_end_fault : (s : State) (text : List ℕ) → solid_pieces text ≡ [] → FaultAt (takes_tokens s) text (length text)
token_end_fault s text none = last_fault (takes_tokens s) text text [] (cut_start text) none (whole_starts (takes_tokens s) [] refl)
