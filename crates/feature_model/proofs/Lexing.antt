-- The tokens that are read from a text are those that it is written with.
use Rattle.std.proofs.Common.{◌≡◌, ◌==◌, ℕ, Bool, true, false, ◌&&◌, List, [], ◌∷◌, ◌++◌, Some, IsTrue, refl, sym, ap, ◌∙◌, subst, arith, append_assoc, append-nil}
use Rattle.std.specs.Prelude.{⊤, option_and_then, if◌then◌else◌, ◌⊎◌}
use Rattle.std.proofs.Common.{inl, inr}
use Rattle.std.specs.List.{list_all}
use Rattle.std.proofs.lemmas.Bool.Decides.{nat_tests}
use Rattle.std.proofs.lemmas.Bool.{eqb-true}
use Rattle.c_names.specs.Names.{is_nondigit, is_word_byte, is_identifier}
use Rattle.feature_model.specs.declared.signs.Sign.{Sign}
use Rattle.feature_model.specs.declared.signs.Sign.TheVariants.{Not, And, Or, Implies, Equals, Opens, Closes}
use Rattle.feature_model.specs.declared.signs.Front.{Front}
use Rattle.feature_model.specs.declared.signs.Front.TheVariants.{Ampersand, Bar, Dash, Less, LessDash}
use Rattle.feature_model.specs.declared.signs.Start.{Start}
use Rattle.feature_model.specs.declared.signs.Start.TheVariants.{Blank, Letter, Whole, Part, Nothing}
use Rattle.feature_model.specs.Tokens.{Token, Name, Mark, Piece, Space, Tab, Spelled, sign_text, pieces_text, pieces_tokens, BeginsWithNoName, WellSpaced, IsWriting}
use Rattle.feature_model.specs.Bytes.{Begun, in_blank, in_word, in_sign, lexing, start_of, next_of, started, lexed, tokens_of}

-- what is true of a conjunction
left_true : (a b : Bool) → (a && b) ≡ true → a ≡ true
left_true true b e = refl
left_true false b e = absurd cc

right_true : (a b : Bool) → (a && b) ≡ true → b ≡ true
right_true true b e = e
right_true false b e = absurd cc

both_true : (a b : Bool) → a ≡ true → b ≡ true → (a && b) ≡ true
both_true a b e f = rw (e, f) refl

is_true : (a : Bool) → IsTrue a → a ≡ true
is_true true h = refl
is_true false h = absurd cc

make_true : (a : Bool) → a ≡ true → IsTrue a
make_true a e = let P : Bool → Type 0 = λ x. IsTrue x in subst P (sym e) refl

nondigit_word : (b : ℕ) → is_nondigit b ≡ true → is_word_byte b ≡ true
nondigit_word b e = rw e refl

start_letter : (b : ℕ) → is_nondigit b ≡ true → start_of b ≡ Letter
start_letter b e = grind (arith, nat_tests)

-- reading what is written
word_runs :
    (w : List ℕ) (ts : List Token) (v rest : List ℕ) → list_all is_word_byte w ≡ true
    → lexed (lexing ts (in_word v)) (w ++ rest) ≡ lexed (lexing ts (in_word (v ++ w))) rest
word_runs [] ts v rest h = rw (append-nil v) refl
word_runs (b ∷ w) ts v rest h =
    let e = left_true (is_word_byte b) (list_all is_word_byte w) h in
    let f = right_true (is_word_byte b) (list_all is_word_byte w) h in
    rw e
    (word_runs w ts (v ++ b ∷ []) rest f
    ∙ ap (λ u. lexed (lexing ts (in_word u)) rest) (append_assoc v (b ∷ []) w))

word_ends :
    (ps : List Piece) → BeginsWithNoName ps → (ts : List Token) (w : List ℕ)
    → lexed (lexing ts (in_word w)) (pieces_text ps) ≡ lexed (lexing (ts ++ Name w ∷ []) in_blank) (pieces_text ps)
word_ends [] h ts w = refl
word_ends (Space ∷ ps) h ts w = refl
word_ends (Tab ∷ ps) h ts w = refl
word_ends (Spelled (Name x) ∷ ps) h ts w = absurd h
word_ends (Spelled (Mark Not) ∷ ps) h ts w = refl
word_ends (Spelled (Mark And) ∷ ps) h ts w = refl
word_ends (Spelled (Mark Or) ∷ ps) h ts w = refl
word_ends (Spelled (Mark Implies) ∷ ps) h ts w = refl
word_ends (Spelled (Mark Equals) ∷ ps) h ts w = refl
word_ends (Spelled (Mark Opens) ∷ ps) h ts w = refl
word_ends (Spelled (Mark Closes) ∷ ps) h ts w = refl

sign_passes :
    (s : Sign) (ts : List Token) (rest : List ℕ)
    → lexed (lexing ts in_blank) (sign_text s ++ rest) ≡ lexed (lexing (ts ++ Mark s ∷ []) in_blank) rest
sign_passes Not ts rest = refl
sign_passes And ts rest = refl
sign_passes Or ts rest = refl
sign_passes Implies ts rest = refl
sign_passes Equals ts rest = refl
sign_passes Opens ts rest = refl
sign_passes Closes ts rest = refl

name_passes :
    (w : List ℕ) (ts : List Token) (ps : List Piece) → IsTrue (is_identifier w) → BeginsWithNoName ps
    → lexed (lexing ts in_blank) (w ++ pieces_text ps) ≡ lexed (lexing (ts ++ Name w ∷ []) in_blank) (pieces_text ps)
name_passes [] ts ps h n = absurd cc
name_passes (b ∷ w) ts ps h n =
    let e = is_true (is_nondigit b && list_all is_word_byte w) h in
    rw (start_letter b (left_true (is_nondigit b) (list_all is_word_byte w) e))
    (word_runs w ts (b ∷ []) (pieces_text ps) (right_true (is_nondigit b) (list_all is_word_byte w) e)
    ∙ word_ends ps n ts (b ∷ w))

told : (ts us : List Token) (t : Token) → Some ((ts ++ t ∷ []) ++ us) ≡ Some (ts ++ t ∷ us)
told ts us t = ap (λ l. Some l) (append_assoc ts (t ∷ []) us)

pieces_read :
    (ps : List Piece) (ts : List Token) → WellSpaced ps
    → lexed (lexing ts in_blank) (pieces_text ps) ≡ Some (ts ++ pieces_tokens ps)
pieces_read [] ts h = rw (append-nil ts) refl
pieces_read (Space ∷ ps) ts h = pieces_read ps ts h
pieces_read (Tab ∷ ps) ts h = pieces_read ps ts h
pieces_read (Spelled (Name w) ∷ ps) ts h =
    name_passes w ts ps h.0 h.1 ∙ pieces_read ps (ts ++ Name w ∷ []) h.2 ∙ told ts (pieces_tokens ps) (Name w)
pieces_read (Spelled (Mark s) ∷ ps) ts h =
    sign_passes s ts (pieces_text ps) ∙ pieces_read ps (ts ++ Mark s ∷ []) h ∙ told ts (pieces_tokens ps) (Mark s)

pub writing_read : (text : List ℕ) (tokens : List Token) → IsWriting text tokens → tokens_of text ≡ Some tokens
writing_read text tokens w =
    ap tokens_of w.written ∙ pieces_read w.pieces [] w.spaced ∙ ap (λ l. Some l) (sym w.told)

-- what is read is written
abbrev front_text : Front → List ℕ
front_text Ampersand = 38 ∷ []
front_text Bar = 124 ∷ []
front_text Dash = 45 ∷ []
front_text Less = 60 ∷ []
front_text LessDash = 60 ∷ 45 ∷ []

abbrev begun_text : Begun → List ℕ
begun_text in_blank = []
begun_text (in_word w) = w
begun_text (in_sign part) = front_text part

abbrev BegunFits : Begun → Type 0
BegunFits in_blank = ⊤
BegunFits (in_word w) = IsTrue (is_identifier w)
BegunFits (in_sign part) = ⊤

record Lexed (before : List ℕ) (ts : List Token) (bs : List ℕ) (us : List Token) : Type 0 where
  pieces : List Piece
  text : before ++ bs ≡ pieces_text pieces
  tokens : us ≡ ts ++ pieces_tokens pieces
  spaced : WellSpaced pieces

-- what a byte begins, behind the bytes of a begun sign
abbrev Means : List ℕ → ℕ → Start → Type 0
Means before b Blank = (before ≡ []) × ((b ≡ 32) ⊎ (b ≡ 9))
Means before b Letter = (before ≡ []) × (is_nondigit b ≡ true)
Means before b (Whole sign) = before ++ b ∷ [] ≡ sign_text sign
Means before b (Part part) = before ++ b ∷ [] ≡ front_text part
Means before b Nothing = ⊤

-- a test of a byte
means_if :
    (before : List ℕ) (b n : ℕ) (x y : Start) → (b ≡ n → Means before b x) → Means before b y
    → Means before b (if b == n then x else y)
means_if before b n x y f g = chosen (b == n) refl
  where
    chosen : (t : Bool) → (b == n) ≡ t → Means before b (if t then x else y)
    chosen true e = f (eqb-true b n e)
    chosen false e = g

start_means : (b : ℕ) → Means [] b (start_of b)
start_means b =
    means_if [] b 32 Blank _ (λ e. (refl, inl e))
    (means_if [] b 9 Blank _ (λ e. (refl, inr e))
    (means_if [] b 33 (Whole Not) _ (λ e. ap (λ x. x ∷ []) e)
    (means_if [] b 40 (Whole Opens) _ (λ e. ap (λ x. x ∷ []) e)
    (means_if [] b 41 (Whole Closes) _ (λ e. ap (λ x. x ∷ []) e)
    (means_if [] b 38 (Part Ampersand) _ (λ e. ap (λ x. x ∷ []) e)
    (means_if [] b 124 (Part Bar) _ (λ e. ap (λ x. x ∷ []) e)
    (means_if [] b 45 (Part Dash) _ (λ e. ap (λ x. x ∷ []) e)
    (means_if [] b 60 (Part Less) _ (λ e. ap (λ x. x ∷ []) e) (letter (is_nondigit b) refl)))))))))
  where
    letter : (t : Bool) → is_nondigit b ≡ t → Means [] b (if t then Letter else Nothing)
    letter true e = (refl, e)
    letter false e = tt

next_means : (part : Front) (b : ℕ) → Means (front_text part) b (next_of part b)
next_means Ampersand b = means_if (front_text Ampersand) b 38 (Whole And) Nothing (λ e. ap (λ x. 38 ∷ x ∷ []) e) tt
next_means Bar b = means_if (front_text Bar) b 124 (Whole Or) Nothing (λ e. ap (λ x. 124 ∷ x ∷ []) e) tt
next_means Dash b = means_if (front_text Dash) b 62 (Whole Implies) Nothing (λ e. ap (λ x. 45 ∷ x ∷ []) e) tt
next_means Less b = means_if (front_text Less) b 45 (Part LessDash) Nothing (λ e. ap (λ x. 60 ∷ x ∷ []) e) tt
next_means LessDash b = means_if (front_text LessDash) b 62 (Whole Equals) Nothing (λ e. ap (λ x. 60 ∷ 45 ∷ x ∷ []) e) tt

-- a name that takes one byte more
longer_word : (w : List ℕ) (b : ℕ) → IsTrue (is_identifier w) → is_word_byte b ≡ true → IsTrue (is_identifier (w ++ b ∷ []))
longer_word [] b h e = absurd cc
longer_word (c ∷ w) b h e =
    let f = is_true (is_nondigit c && list_all is_word_byte w) h in
    make_true (is_nondigit c && list_all is_word_byte (w ++ b ∷ []))
    (both_true (is_nondigit c) (list_all is_word_byte (w ++ b ∷ [])) (left_true (is_nondigit c) (list_all is_word_byte w) f)
    (all_more w (right_true (is_nondigit c) (list_all is_word_byte w) f)))
  where
    all_more : (v : List ℕ) → list_all is_word_byte v ≡ true → list_all is_word_byte (v ++ b ∷ []) ≡ true
    all_more [] g = rw e refl
    all_more (d ∷ v) g =
        both_true (is_word_byte d) (list_all is_word_byte (v ++ b ∷ [])) (left_true (is_word_byte d) (list_all is_word_byte v) g)
        (all_more v (right_true (is_word_byte d) (list_all is_word_byte v) g))

-- no name begins with a byte of no word
no_name : (b : ℕ) (bs : List ℕ) (ps : List Piece) → is_word_byte b ≡ false → b ∷ bs ≡ pieces_text ps → WellSpaced ps → BeginsWithNoName ps
no_name b bs [] e t s = tt
no_name b bs (Space ∷ ps) e t s = tt
no_name b bs (Tab ∷ ps) e t s = tt
no_name b bs (Spelled (Mark sign) ∷ ps) e t s = tt
no_name b bs (Spelled (Name []) ∷ ps) e t s = absurd cc
no_name b bs (Spelled (Name (c ∷ w)) ∷ ps) e t s =
    let f = left_true (is_nondigit c) (list_all is_word_byte w) (is_true (is_nondigit c && list_all is_word_byte w) s.0) in
    let same : b ≡ c = cc in
    let g = nondigit_word c f in
    let h : is_word_byte c ≡ false = rw (sym same) e in
    absurd cc

abbrev Claim : List ℕ → Type 0
Claim bs =
    (s : Begun) → BegunFits s → (ts us : List Token) → lexed (lexing ts s) bs ≡ Some us → Lexed (begun_text s) ts bs us

start_lexed :
    (bs : List ℕ) → Claim bs → (before : List ℕ) (b : ℕ) (x : Start) → Means before b x → (ts us : List Token)
    → option_and_then (λ t. lexed t bs) (started ts b x) ≡ Some us → Lexed before ts (b ∷ bs) us
start_lexed bs ih before b Blank m ts us e =
    let r = ih in_blank tt ts us e in
    elim m.1 [
      | inl f ↦ record {
        pieces = Space ∷ r.pieces;
        text = rw (m.0, f) (ap (λ l. 32 ∷ l) r.text);
        tokens = r.tokens;
        spaced = r.spaced;
      }
      | inr f ↦ record {
        pieces = Tab ∷ r.pieces;
        text = rw (m.0, f) (ap (λ l. 9 ∷ l) r.text);
        tokens = r.tokens;
        spaced = r.spaced;
      }
    ]
start_lexed bs ih before b Letter m ts us e =
    let r = ih (in_word (b ∷ [])) (make_true (is_nondigit b && true) (rw m.1 refl)) ts us e in
    record { pieces = r.pieces; text = rw m.0 r.text; tokens = r.tokens; spaced = r.spaced }
start_lexed bs ih before b (Whole sign) m ts us e =
    let r = ih in_blank tt (ts ++ Mark sign ∷ []) us e in
    record {
      pieces = Spelled (Mark sign) ∷ r.pieces;
      text = sym (append_assoc before (b ∷ []) bs) ∙ ap (λ l. l ++ bs) m ∙ ap (λ l. sign_text sign ++ l) r.text;
      tokens = r.tokens ∙ append_assoc ts (Mark sign ∷ []) (pieces_tokens r.pieces);
      spaced = r.spaced;
    }
start_lexed bs ih before b (Part part) m ts us e =
    let r = ih (in_sign part) tt ts us e in
    record {
      pieces = r.pieces;
      text = sym (append_assoc before (b ∷ []) bs) ∙ ap (λ l. l ++ bs) m ∙ r.text;
      tokens = r.tokens;
      spaced = r.spaced;
    }
start_lexed bs ih before b Nothing m ts us e = absurd cc

word_lexed :
    (bs : List ℕ) → Claim bs → (w : List ℕ) → IsTrue (is_identifier w) → (b : ℕ) (ts us : List Token) (x : Bool)
    → is_word_byte b ≡ x
    → option_and_then (λ t. lexed t bs)
    (if x then Some (lexing ts (in_word (w ++ b ∷ []))) else started (ts ++ Name w ∷ []) b (start_of b)) ≡ Some us
    → Lexed w ts (b ∷ bs) us
word_lexed bs ih w h b ts us true f e =
    let r = ih (in_word (w ++ b ∷ [])) (longer_word w b h f) ts us e in
    record {
      pieces = r.pieces;
      text = sym (append_assoc w (b ∷ []) bs) ∙ r.text;
      tokens = r.tokens;
      spaced = r.spaced;
    }
word_lexed bs ih w h b ts us false f e =
    let r = start_lexed bs ih [] b (start_of b) (start_means b) (ts ++ Name w ∷ []) us e in
    record {
      pieces = Spelled (Name w) ∷ r.pieces;
      text = ap (λ l. w ++ l) r.text;
      tokens = r.tokens ∙ append_assoc ts (Name w ∷ []) (pieces_tokens r.pieces);
      spaced = (h, no_name b bs r.pieces f r.text r.spaced, r.spaced);
    }

lexed_written : (bs : List ℕ) → Claim bs
lexed_written [] in_blank h ts us e =
    let same : us ≡ ts = cc in
    record { pieces = []; text = refl; tokens = same ∙ sym (append-nil ts); spaced = tt }
lexed_written [] (in_word w) h ts us e =
    let same : us ≡ ts ++ Name w ∷ [] = cc in
    record { pieces = Spelled (Name w) ∷ []; text = refl; tokens = same; spaced = (h, tt, tt) }
lexed_written [] (in_sign part) h ts us e = absurd cc
lexed_written (b ∷ bs) in_blank h ts us e = start_lexed bs (lexed_written bs) [] b (start_of b) (start_means b) ts us e
lexed_written (b ∷ bs) (in_word w) h ts us e = word_lexed bs (lexed_written bs) w h b ts us (is_word_byte b) refl e
lexed_written (b ∷ bs) (in_sign part) h ts us e =
    start_lexed bs (lexed_written bs) (front_text part) b (next_of part b) (next_means part b) ts us e

pub read_written : (text : List ℕ) (tokens : List Token) → tokens_of text ≡ Some tokens → IsWriting text tokens
read_written text tokens e =
    let r = lexed_written text in_blank tt [] tokens e in
    record { pieces = r.pieces; written = r.text; told = r.tokens; spaced = r.spaced }
