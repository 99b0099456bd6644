-- What a text spells, cut at a newline, or within a line.
use Rattle.std.proofs.Common.{◌≡◌, ℕ, Bool, true, false, ◌==◌, cond, List, [], ◌∷◌, ◌++◌, refl, sym, ap, ◌∙◌, append_assoc}
use Rattle.std.specs.List.{flat_map, onto_first}
use Rattle.std.proofs.lemmas.Bool.{both_ways, cond-true, cond-false}
use Rattle.quick_form.specs.Words.{is_word_byte, begins_in_word}
use Rattle.quick_form.specs.Symbols.{Piece, Other, with_letter, pieces_of, line_symbols, lines_of, symbols_of}
use Rattle.quick_form.proofs.LexingPieces.{IsOneLine, NoWordFirst}

-- a text has a first line
pub record FirstLine (text : List ℕ) : Type 0 where
  pub line : List ℕ
  pub others : List (List ℕ)
  pub lines_are : lines_of text ≡ line ∷ others

first_line_at : (b : ℕ) (bs : List ℕ) (t : Bool) → (b == 10) ≡ t → FirstLine bs → FirstLine (b ∷ bs)
first_line_at b bs true e f =
    record { line = []; others = lines_of bs; lines_are = cond-true (b == 10) ([] ∷ lines_of bs) (onto_first b (lines_of bs)) e }
first_line_at b bs false e f =
    record { line = b ∷ f.line; others = f.others; lines_are = cond-false (b == 10) ([] ∷ lines_of bs) (onto_first b (lines_of bs)) e ∙ ap (onto_first b) f.lines_are }

pub first_line_of : (text : List ℕ) → FirstLine text
first_line_of [] = record { line = []; others = []; lines_are = refl }
first_line_of (b ∷ bs) = first_line_at b bs (b == 10) refl (first_line_of bs)

-- bytes without a newline lengthen the first line
pub lines_of-before : (front text : List ℕ) (line : List ℕ) (others : List (List ℕ)) → IsOneLine front → lines_of text ≡ line ∷ others → lines_of (front ++ text) ≡ (front ++ line) ∷ others
lines_of-before [] text line others h e = e
lines_of-before (b ∷ bs) text line others h e =
    cond-false (b == 10) ([] ∷ lines_of (bs ++ text)) (onto_first b (lines_of (bs ++ text))) h.0
    ∙ ap (onto_first b) (lines_of-before bs text line others h.1 e)

-- a newline ends a line
lines_of-newline_at : (b : ℕ) (bs more : List ℕ) (t : Bool) → (b == 10) ≡ t → lines_of (bs ++ 10 ∷ more) ≡ lines_of bs ++ lines_of more → lines_of ((b ∷ bs) ++ 10 ∷ more) ≡ lines_of (b ∷ bs) ++ lines_of more
lines_of-newline_at b bs more true e h =
    cond-true (b == 10) ([] ∷ lines_of (bs ++ 10 ∷ more)) (onto_first b (lines_of (bs ++ 10 ∷ more))) e
    ∙ (ap (λ ls. [] ∷ ls) h ∙ sym (ap (λ ls. ls ++ lines_of more) (cond-true (b == 10) ([] ∷ lines_of bs) (onto_first b (lines_of bs)) e)))
lines_of-newline_at b bs more false e h =
    let f = first_line_of bs in
    cond-false (b == 10) ([] ∷ lines_of (bs ++ 10 ∷ more)) (onto_first b (lines_of (bs ++ 10 ∷ more))) e
    ∙ (ap (onto_first b) (h ∙ ap (λ ls. ls ++ lines_of more) f.lines_are)
    ∙ sym (ap (λ ls. ls ++ lines_of more) (cond-false (b == 10) ([] ∷ lines_of bs) (onto_first b (lines_of bs)) e ∙ ap (onto_first b) f.lines_are)))

pub lines_of-newline : (text more : List ℕ) → lines_of (text ++ 10 ∷ more) ≡ lines_of text ++ lines_of more
lines_of-newline [] more = refl
lines_of-newline (b ∷ bs) more = lines_of-newline_at b bs more (b == 10) refl (lines_of-newline bs more)

pub flat_append : {X Y : Type 0} (f : X → List Y) (xs ys : List X) → flat_map f (xs ++ ys) ≡ flat_map f xs ++ flat_map f ys
flat_append f [] ys = refl
flat_append f (x ∷ xs) ys = ap (λ l. f x ++ l) (flat_append f xs ys) ∙ sym (append_assoc (f x) (flat_map f xs) (flat_map f ys))

pub symbols_of-newline : (text more : List ℕ) → symbols_of (text ++ 10 ∷ more) ≡ symbols_of text ++ symbols_of more
symbols_of-newline text more = ap (flat_map line_symbols) (lines_of-newline text more) ∙ flat_append line_symbols (lines_of text) (lines_of more)

-- WORDS AT A CUT

no_word_first_at : (b : ℕ) (ps : List Piece) (t : Bool) → t ≡ false → NoWordFirst (cond t (with_letter b ps) (Other b ∷ ps))
no_word_first_at b ps true e = absurd (both_ways true e refl)
no_word_first_at b ps false e = tt

pub no_word_first : (text : List ℕ) → begins_in_word text ≡ false → NoWordFirst (pieces_of text)
no_word_first [] e = tt
no_word_first (b ∷ bs) e = no_word_first_at b (pieces_of bs) (is_word_byte b) e
