-- What an unfinished word can become.
use Rattle.std.proofs.Common.{◌≡◌, ◌⊎◌, inl, inr, ℕ, ◌+◌, ◌-◌, ◌*◌, ◌<◌, ◌≤◌, ◌==◌, ◌&&◌, ◌||◌, not, Bool, true, false, cond, List, [], ◌∷◌, ◌++◌, Option, Some, None, is_some, option_and_then, length, drop, codes, nat_eq, nat_lt, nat_le, refl, sym, ◌∙◌, ap, subst, append-nil, arith, length-append}
use Rattle.std.specs.List.{flat_map, list_all, list_any, starts_with}
use Rattle.std.specs.Str.{bytes_eq}
use Rattle.std.proofs.lemmas.Bool.{both_ways, cond-true, cond-false, and_parts, and_from, or_cases, or_left, or_right, false_from_ne_true, ltb-true, leb-true, lt-leb, le-leb, ne_eqb}
use Rattle.std.proofs.lemmas.Bool.Decides.{Decides-eqb}
use Rattle.std.proofs.lemmas.List.Folds.{list_all-append}
use Rattle.std.proofs.lemmas.Slice.Eq.{starts_is, bytes_eq-Decides}
use Rattle.quick_form.specs.Words.{is_digit, is_nondigit, is_word_byte, begins_in_word, is_identifier, keywords, is_keyword, is_name, is_decimal, value_from, value_of, is_number}
use Rattle.quick_form.specs.Symbols.{Symbol, Int, Void, While, Return, Putchar, Main, Name, Number, Malformed, Piece, Word, piece_symbols, solid_pieces, word_symbol}
use Rattle.quick_form.proofs.LexingPieces.{IsOneLine-word_bytes}
use Rattle.quick_form.proofs.LexingWords.{word_symbol-name, is_identifier-name}
use Rattle.quick_lexer.proofs.WordLemmas.{value_from-ge}
use Rattle.quick_parser.specs.Steps.{State, step, steps}
use Rattle.quick_parser.specs.Laws.{NamesAreAlike, NumbersAreAlike, MalformedIsRefused}
use Rattle.quick_rename.specs.Cuts.{IsOneLine, takes_tokens}
use Rattle.quick_rename.specs.Fronts.{can, begins_word, begins_token}
use Rattle.quick_rename.proofs.Cutting.{solid_pieces-piece}

-- FRONTS OF WORDS

pub front_of : (word front rest : List ℕ) → word ≡ front ++ rest → starts_with nat_eq word front ≡ true
front_of word front rest e = (starts_is Decides-eqb word front (starts_with nat_eq word front) refl).1 rest e

pub rest_of : (word front : List ℕ) → starts_with nat_eq word front ≡ true → (rest : List ℕ) × (word ≡ front ++ rest)
rest_of word front h = (drop (length front) word, (starts_is Decides-eqb word front (starts_with nat_eq word front) refl).0 h)

pub same_bytes : (a b : List ℕ) → bytes_eq a b ≡ true → a ≡ b
same_bytes a b h = (bytes_eq-Decides a b).0 h

pub is_same : (a b : List ℕ) → a ≡ b → bytes_eq a b ≡ true
is_same a b e = (bytes_eq-Decides a b).1 e

one_step_at : (o : Option State) → is_some (option_and_then (λ t. steps t []) o) ≡ is_some o
one_step_at None = refl
one_step_at (Some t) = refl

pub one_step : (s : State) (k : Symbol) → is_some (steps s (k ∷ [])) ≡ can s k
one_step s k = one_step_at (step s k)

first_step_at : (o : Option State) (ks : List Symbol) → is_some o ≡ false → is_some (option_and_then (λ t. steps t ks) o) ≡ false
first_step_at None ks h = refl
first_step_at (Some t) ks h = absurd (both_ways true h refl)

pub first_step : (s : State) (k : Symbol) (ks : List Symbol) → can s k ≡ false → is_some (steps s (k ∷ ks)) ≡ false
first_step s k ks h = first_step_at (step s k) ks h

-- TOKENS

-- a chosen symbol that may stand
pub pick : (s : State) (b : Bool) (k r : Symbol) → can s (cond b k r) ≡ true → (b ≡ true) × (can s k ≡ true) ⊎ (can s r ≡ true)
pick s true k r h = inl (refl, h)
pick s false k r h = inr h

pub word_begins : (s : State) (u x word : List ℕ) (k : Symbol) → bytes_eq (u ++ x) word ≡ true → can s k ≡ true → begins_word s word k u ≡ true
word_begins s u x word k h c = and_from (starts_with nat_eq word u) (can s k) (front_of word u x (sym (same_bytes (u ++ x) word h))) c

pub identifier_front : (u x : List ℕ) → begins_in_word u ≡ true → is_identifier (u ++ x) ≡ true → is_identifier u ≡ true
identifier_front [] x e h = absurd (both_ways false refl e)
identifier_front (b ∷ u) x e h =
    let p = and_parts (is_nondigit b) (list_all is_word_byte (u ++ x)) h in
    and_from (is_nondigit b) (list_all is_word_byte u) p.0 (and_parts (list_all is_word_byte u) (list_all is_word_byte x) (sym (list_all-append is_word_byte u x) ∙ p.1)).0

value_from-front : (n : ℕ) (u x : List ℕ) → value_from n u ≤ value_from n (u ++ x)
value_from-front n [] x = value_from-ge n x
value_from-front n (d ∷ u) x = value_from-front (10 * n + (d - 48)) u x

decimal_front : (u x : List ℕ) → begins_in_word u ≡ true → is_decimal (u ++ x) ≡ true → is_decimal u ≡ true
decimal_front [] x e h = absurd (both_ways false refl e)
decimal_front (d ∷ []) [] e h = h
decimal_front (d ∷ []) (c ∷ x) e h = (and_parts (is_digit d) (list_all is_digit (c ∷ x)) (and_parts (not (d == 48)) (list_all is_digit (d ∷ c ∷ x)) h).1).0
decimal_front (d ∷ c ∷ u) x e h =
    let p = and_parts (not (d == 48)) (list_all is_digit (d ∷ c ∷ (u ++ x))) h in
    and_from (not (d == 48)) (list_all is_digit (d ∷ c ∷ u)) p.0
    (and_parts (list_all is_digit (d ∷ c ∷ u)) (list_all is_digit x) (sym (list_all-append is_digit (d ∷ c ∷ u) x) ∙ p.1)).0

number_front : (u x : List ℕ) → begins_in_word u ≡ true → is_number (u ++ x) ≡ true → is_number u ≡ true
number_front u x e h =
    let p = and_parts (is_decimal (u ++ x)) (nat_le (value_of (u ++ x)) 2147483647) h in
    let small = leb-true (value_of (u ++ x)) 2147483647 p.1 in
    let grows = value_from-front 0 u x in
    and_from (is_decimal u) (nat_le (value_of u) 2147483647) (decimal_front u x e p.0) (le-leb (value_of u) 2147483647 (omega arith))

-- one of eight
lift_1 : (a b c d e f g h : Bool) → a ≡ true → (a || b || c || d || e || f || g || h) ≡ true
lift_1 a b c d e f g h p = or_left (a || b || c || d || e || f || g) h (or_left (a || b || c || d || e || f) g (or_left (a || b || c || d || e) f (or_left (a || b || c || d) e (or_left (a || b || c) d (or_left (a || b) c (or_left a b p))))))

lift_2 : (a b c d e f g h : Bool) → b ≡ true → (a || b || c || d || e || f || g || h) ≡ true
lift_2 a b c d e f g h p = or_left (a || b || c || d || e || f || g) h (or_left (a || b || c || d || e || f) g (or_left (a || b || c || d || e) f (or_left (a || b || c || d) e (or_left (a || b || c) d (or_left (a || b) c (or_right a b p))))))

lift_3 : (a b c d e f g h : Bool) → c ≡ true → (a || b || c || d || e || f || g || h) ≡ true
lift_3 a b c d e f g h p = or_left (a || b || c || d || e || f || g) h (or_left (a || b || c || d || e || f) g (or_left (a || b || c || d || e) f (or_left (a || b || c || d) e (or_left (a || b || c) d (or_right (a || b) c p)))))

lift_4 : (a b c d e f g h : Bool) → d ≡ true → (a || b || c || d || e || f || g || h) ≡ true
lift_4 a b c d e f g h p = or_left (a || b || c || d || e || f || g) h (or_left (a || b || c || d || e || f) g (or_left (a || b || c || d || e) f (or_left (a || b || c || d) e (or_right (a || b || c) d p))))

lift_5 : (a b c d e f g h : Bool) → e ≡ true → (a || b || c || d || e || f || g || h) ≡ true
lift_5 a b c d e f g h p = or_left (a || b || c || d || e || f || g) h (or_left (a || b || c || d || e || f) g (or_left (a || b || c || d || e) f (or_right (a || b || c || d) e p)))

lift_6 : (a b c d e f g h : Bool) → f ≡ true → (a || b || c || d || e || f || g || h) ≡ true
lift_6 a b c d e f g h p = or_left (a || b || c || d || e || f || g) h (or_left (a || b || c || d || e || f) g (or_right (a || b || c || d || e) f p))

lift_7 : (a b c d e f g h : Bool) → g ≡ true → (a || b || c || d || e || f || g || h) ≡ true
lift_7 a b c d e f g h p = or_left (a || b || c || d || e || f || g) h (or_right (a || b || c || d || e || f) g p)

lift_8 : (a b c d e f g h : Bool) → h ≡ true → (a || b || c || d || e || f || g || h) ≡ true
lift_8 a b c d e f g h p = or_right (a || b || c || d || e || f || g) h p

-- a word that may stand begins so
word_token : NamesAreAlike → NumbersAreAlike → MalformedIsRefused → (s : State) (u x : List ℕ) → begins_in_word u ≡ true → can s (word_symbol (u ++ x)) ≡ true → begins_token s u ≡ true
word_token names numbers bad s u x e h =
    let w = u ++ x in
    let A1 = begins_word s (codes "int") Int u in
    let A2 = begins_word s (codes "void") Void u in
    let A3 = begins_word s (codes "while") While u in
    let A4 = begins_word s (codes "return") Return u in
    let A5 = begins_word s (codes "putchar") Putchar u in
    let A6 = begins_word s (codes "main") Main u in
    let A7 = is_identifier u && can s (Name (codes "a")) in
    let A8 = is_number u && can s (Number (codes "0")) in
    elim (pick s (bytes_eq w (codes "int")) Int _ h) [
      | inl p ↦ lift_1 A1 A2 A3 A4 A5 A6 A7 A8 (word_begins s u x (codes "int") Int p.0 p.1)
      | inr h2 ↦ elim (pick s (bytes_eq w (codes "void")) Void _ h2) [
        | inl p ↦ lift_2 A1 A2 A3 A4 A5 A6 A7 A8 (word_begins s u x (codes "void") Void p.0 p.1)
        | inr h3 ↦ elim (pick s (bytes_eq w (codes "while")) While _ h3) [
          | inl p ↦ lift_3 A1 A2 A3 A4 A5 A6 A7 A8 (word_begins s u x (codes "while") While p.0 p.1)
          | inr h4 ↦ elim (pick s (bytes_eq w (codes "return")) Return _ h4) [
            | inl p ↦ lift_4 A1 A2 A3 A4 A5 A6 A7 A8 (word_begins s u x (codes "return") Return p.0 p.1)
            | inr h5 ↦ elim (pick s (bytes_eq w (codes "putchar")) Putchar _ h5) [
              | inl p ↦ lift_5 A1 A2 A3 A4 A5 A6 A7 A8 (word_begins s u x (codes "putchar") Putchar p.0 p.1)
              | inr h6 ↦ elim (pick s (bytes_eq w (codes "main")) Main _ h6) [
                | inl p ↦ lift_6 A1 A2 A3 A4 A5 A6 A7 A8 (word_begins s u x (codes "main") Main p.0 p.1)
                | inr h7 ↦ elim (pick s (is_name w) (Name w) _ h7) [
                  | inl p ↦ lift_7 A1 A2 A3 A4 A5 A6 A7 A8 (and_from (is_identifier u) (can s (Name (codes "a"))) (identifier_front u x e (is_identifier-name w p.0)) (ap is_some (names s (codes "a") w) ∙ p.1))
                  | inr h8 ↦ elim (pick s (is_number w) (Number w) Malformed h8) [
                    | inl p ↦ lift_8 A1 A2 A3 A4 A5 A6 A7 A8 (and_from (is_number u) (can s (Number (codes "0"))) (number_front u x e p.0) (ap is_some (numbers s (codes "0") w) ∙ p.1))
                    | inr h9 ↦ absurd (both_ways (can s Malformed) (ap is_some (bad s)) h9)
                  ]
                ]
              ]
            ]
          ]
        ]
      ]
    ]

pub token_dead : NamesAreAlike → NumbersAreAlike → MalformedIsRefused → (s : State) (u x : List ℕ) (qs : List Piece) → begins_in_word u ≡ true → begins_token s u ≡ false → takes_tokens s (Word (u ++ x) ∷ qs) ≡ false
token_dead names numbers bad s u x qs e none =
    first_step s (word_symbol (u ++ x)) (flat_map piece_symbols qs) (false_from_ne_true (can s (word_symbol (u ++ x))) (λ h. both_ways (begins_token s u) none (word_token names numbers bad s u x e h)))

-- FRONTS THAT CAN STAND

-- what can follow
pub record Goes_on (good : List Piece → Bool) (u : List ℕ) : Type 0 where
  pub more : List ℕ
  pub one_line : IsOneLine more
  pub apart : u ≡ [] → begins_in_word more ≡ false
  pub live : good (solid_pieces (u ++ more)) ≡ true

pub one_back : (a b : List ℕ) → IsOneLine (a ++ b) → IsOneLine b
one_back [] b h = h
one_back (x ∷ a) b h = one_back a b h.1

-- a word alone
pub word_alone : (w : List ℕ) → begins_in_word w ≡ true → list_all is_word_byte w ≡ true → solid_pieces w ≡ Word w ∷ []
word_alone w b h = ap solid_pieces (sym (append-nil w)) ∙ solid_pieces-piece (Word w) [] (b, h, refl) refl

pub nonempty : (u : List ℕ) (P : Type 0) → begins_in_word u ≡ true → u ≡ [] → P
nonempty [] P h e = absurd (both_ways false refl h)
nonempty (b ∷ u) P h e = absurd cc

keyword_goes_on : (s : State) (u word : List ℕ) (k : Symbol) → begins_in_word u ≡ true → IsOneLine word → solid_pieces word ≡ Word word ∷ [] → word_symbol word ≡ k → begins_word s word k u ≡ true → Goes_on (takes_tokens s) u
keyword_goes_on s u word k b one solid is h =
    let p = and_parts (starts_with nat_eq word u) (can s k) h in
    let r = rest_of word u p.0 in
    record {
      more = r.0;
      one_line = one_back u r.0 (subst IsOneLine r.1 one);
      apart = λ e. nonempty u _ b e;
      live = ap (λ l. takes_tokens s (solid_pieces l)) (sym r.1) ∙ (ap (takes_tokens s) solid ∙ (one_step s (word_symbol word) ∙ (ap (can s) is ∙ p.1)));
    }

-- long names
abbrev pub padding : List ℕ
padding = codes "aaaaaaaaaaaaaaaaaaaa"

differs : (w k : List ℕ) → length k < 20 → 20 ≤ length w → bytes_eq w k ≡ false
differs w k h g = false_from_ne_true (bytes_eq w k) (λ e. let same = ap length (same_bytes w k e) in absurd (omega (arith, same)))

differ : (w : List ℕ) (ks : List (List ℕ)) → list_all (λ k. nat_lt (length k) 20) ks ≡ true → 20 ≤ length w → list_any (bytes_eq w) ks ≡ false
differ w [] h g = refl
differ w (k ∷ ks) h g =
    let p = and_parts (nat_lt (length k) 20) (list_all (λ l. nat_lt (length l) 20) ks) h in
    let a = differs w k (ltb-true (length k) 20 p.0) g in
    let b = differ w ks p.1 g in cc

pub identifier_letters : (u : List ℕ) → is_identifier u ≡ true → list_all is_word_byte u ≡ true
identifier_letters [] h = absurd (both_ways false refl h)
identifier_letters (b ∷ u) h =
    let p = and_parts (is_nondigit b) (list_all is_word_byte u) h in
    and_from (is_word_byte b) (list_all is_word_byte u) (or_left (is_nondigit b) (is_digit b) p.0) p.1

pub identifier_begins : (u : List ℕ) → is_identifier u ≡ true → begins_in_word u ≡ true
identifier_begins [] h = absurd (both_ways false refl h)
identifier_begins (b ∷ u) h = or_left (is_nondigit b) (is_digit b) (and_parts (is_nondigit b) (list_all is_word_byte u) h).0

padded_identifier : (u x : List ℕ) → is_identifier u ≡ true → list_all is_word_byte x ≡ true → is_identifier (u ++ x) ≡ true
padded_identifier [] x h g = absurd (both_ways false refl h)
padded_identifier (b ∷ u) x h g =
    let p = and_parts (is_nondigit b) (list_all is_word_byte u) h in
    and_from (is_nondigit b) (list_all is_word_byte (u ++ x)) p.0 (list_all-append is_word_byte u x ∙ and_from (list_all is_word_byte u) (list_all is_word_byte x) p.1 g)

not_true : (b : Bool) → b ≡ false → not b ≡ true
not_true b e = ap not e

-- each identifier begins a name
pub padded_name : (u : List ℕ) → is_identifier u ≡ true → is_name (u ++ padding) ≡ true
padded_name u h =
    let w = u ++ padding in
    let long : 20 ≤ length w = let e = length-append u padding in omega arith in
    let a = padded_identifier u padding h refl in
    let b = not_true (is_keyword w) (differ w keywords refl long) in
    let c = not_true (bytes_eq w (codes "putchar")) (differs w (codes "putchar") (omega arith) long) in
    let d = not_true (bytes_eq w (codes "main")) (differs w (codes "main") (omega arith) long) in
    and_from (is_identifier w && not (is_keyword w) && not (bytes_eq w (codes "putchar"))) (not (bytes_eq w (codes "main")))
    (and_from (is_identifier w && not (is_keyword w)) (not (bytes_eq w (codes "putchar"))) (and_from (is_identifier w) (not (is_keyword w)) a b) c) d

pub name_alone : (n : List ℕ) → is_name n ≡ true → solid_pieces n ≡ Word n ∷ []
name_alone n h = let i = is_identifier-name n h in word_alone n (identifier_begins n i) (identifier_letters n i)

name_goes_on : NamesAreAlike → (s : State) (u : List ℕ) → is_identifier u && can s (Name (codes "a")) ≡ true → Goes_on (takes_tokens s) u
name_goes_on names s u h =
    let p = and_parts (is_identifier u) (can s (Name (codes "a"))) h in
    let w = u ++ padding in
    let n = padded_name u p.0 in
    record {
      more = padding;
      one_line = IsOneLine-word_bytes padding refl;
      apart = λ e. nonempty u _ (identifier_begins u p.0) e;
      live = ap (takes_tokens s) (name_alone w n) ∙ (one_step s (word_symbol w) ∙ (ap (can s) (word_symbol-name w n) ∙ (ap is_some (names s w (codes "a")) ∙ p.1)));
    }

-- numbers
digit_is_no_letter : (b : ℕ) → is_digit b ≡ true → is_nondigit b ≡ false
digit_is_no_letter b h =
    let p = and_parts (nat_le 48 b) (nat_le b 57) h in
    let low = leb-true 48 b p.0 in
    let high = leb-true b 57 p.1 in
    let x : nat_le 65 b ≡ false = lt-leb 65 b (omega arith) in
    let y : nat_le 97 b ≡ false = lt-leb 97 b (omega arith) in
    let z : (b == 95) ≡ false = ne_eqb b 95 (λ e. absurd (omega arith)) in
    ap (λ t. t && nat_le b 90 || nat_le 97 b && nat_le b 122 || b == 95) x ∙ (ap (λ t. t && nat_le b 122 || b == 95) y ∙ z)

number_digits : (w : List ℕ) → is_decimal w ≡ true → list_all is_digit w ≡ true
number_digits [] h = absurd (both_ways false refl h)
number_digits (d ∷ []) h = and_from (is_digit d) true h refl
number_digits (d ∷ e ∷ ds) h = (and_parts (not (d == 48)) (list_all is_digit (d ∷ e ∷ ds)) h).1

digits_letters : (w : List ℕ) → list_all is_digit w ≡ true → list_all is_word_byte w ≡ true
digits_letters [] h = refl
digits_letters (d ∷ ds) h =
    let p = and_parts (is_digit d) (list_all is_digit ds) h in
    and_from (is_word_byte d) (list_all is_word_byte ds) (or_right (is_nondigit d) (is_digit d) p.0) (digits_letters ds p.1)

digits_begin : (w : List ℕ) → is_decimal w ≡ true → begins_in_word w ≡ true
digits_begin [] h = absurd (both_ways false refl h)
digits_begin (d ∷ ds) h = or_right (is_nondigit d) (is_digit d) (and_parts (is_digit d) (list_all is_digit ds) (number_digits (d ∷ ds) h)).0

digits_no_name : (w : List ℕ) → is_decimal w ≡ true → is_name w ≡ false
digits_no_name [] h = absurd (both_ways false refl h)
digits_no_name (d ∷ ds) h = false_from_ne_true (is_name (d ∷ ds)) (λ n.
    both_ways (is_nondigit d) (digit_is_no_letter d (and_parts (is_digit d) (list_all is_digit ds) (number_digits (d ∷ ds) h)).0)
    (and_parts (is_nondigit d) (list_all is_word_byte ds) (is_identifier-name (d ∷ ds) n)).0)

no_number : (w k : List ℕ) → is_number w ≡ true → is_number k ≡ false → bytes_eq w k ≡ false
no_number w k h n = false_from_ne_true (bytes_eq w k) (λ e. both_ways (is_number k) n (subst (λ v. is_number v ≡ true) (same_bytes w k e) h))

word_symbol-number : (w : List ℕ) → is_number w ≡ true → word_symbol w ≡ Number w
word_symbol-number w h =
    cond-false (bytes_eq w (codes "int")) Int _ (no_number w (codes "int") h refl)
    ∙ cond-false (bytes_eq w (codes "void")) Void _ (no_number w (codes "void") h refl)
    ∙ cond-false (bytes_eq w (codes "while")) While _ (no_number w (codes "while") h refl)
    ∙ cond-false (bytes_eq w (codes "return")) Return _ (no_number w (codes "return") h refl)
    ∙ cond-false (bytes_eq w (codes "putchar")) Putchar _ (no_number w (codes "putchar") h refl)
    ∙ cond-false (bytes_eq w (codes "main")) Main _ (no_number w (codes "main") h refl)
    ∙ cond-false (is_name w) (Name w) _ (digits_no_name w (and_parts (is_decimal w) (nat_le (value_of w) 2147483647) h).0)
    ∙ cond-true (is_number w) (Number w) Malformed h

number_goes_on : NumbersAreAlike → (s : State) (u : List ℕ) → is_number u && can s (Number (codes "0")) ≡ true → Goes_on (takes_tokens s) u
number_goes_on numbers s u h =
    let p = and_parts (is_number u) (can s (Number (codes "0"))) h in
    let d = (and_parts (is_decimal u) (nat_le (value_of u) 2147483647) p.0).0 in
    record {
      more = [];
      one_line = tt;
      apart = λ e. refl;
      live = ap (λ l. takes_tokens s (solid_pieces l)) (append-nil u)
          ∙ (ap (takes_tokens s) (word_alone u (digits_begin u d) (digits_letters u (number_digits u d)))
          ∙ (one_step s (word_symbol u) ∙ (ap (can s) (word_symbol-number u p.0) ∙ (ap is_some (numbers s u (codes "0")) ∙ p.1))));
    }

pub token_goes_on : NamesAreAlike → NumbersAreAlike → (s : State) (u : List ℕ) → begins_in_word u ≡ true → begins_token s u ≡ true → Goes_on (takes_tokens s) u
token_goes_on names numbers s u b h =
    elim (or_cases _ (is_number u && can s (Number (codes "0"))) h) [
      | inr p ↦ number_goes_on numbers s u p
      | inl h7 ↦ elim (or_cases _ (is_identifier u && can s (Name (codes "a"))) h7) [
        | inr p ↦ name_goes_on names s u p
        | inl h6 ↦ elim (or_cases _ (begins_word s (codes "main") Main u) h6) [
          | inr p ↦ keyword_goes_on s u (codes "main") Main b (IsOneLine-word_bytes (codes "main") refl) refl refl p
          | inl h5 ↦ elim (or_cases _ (begins_word s (codes "putchar") Putchar u) h5) [
            | inr p ↦ keyword_goes_on s u (codes "putchar") Putchar b (IsOneLine-word_bytes (codes "putchar") refl) refl refl p
            | inl h4 ↦ elim (or_cases _ (begins_word s (codes "return") Return u) h4) [
              | inr p ↦ keyword_goes_on s u (codes "return") Return b (IsOneLine-word_bytes (codes "return") refl) refl refl p
              | inl h3 ↦ elim (or_cases _ (begins_word s (codes "while") While u) h3) [
                | inr p ↦ keyword_goes_on s u (codes "while") While b (IsOneLine-word_bytes (codes "while") refl) refl refl p
                | inl h2 ↦ elim (or_cases (begins_word s (codes "int") Int u) (begins_word s (codes "void") Void u) h2) [
                  | inr p ↦ keyword_goes_on s u (codes "void") Void b (IsOneLine-word_bytes (codes "void") refl) refl refl p
                  | inl p ↦ keyword_goes_on s u (codes "int") Int b (IsOneLine-word_bytes (codes "int") refl) refl refl p
                ]
              ]
            ]
          ]
        ]
      ]
    ]
