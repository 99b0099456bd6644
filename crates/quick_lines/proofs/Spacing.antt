-- Pieces of a line that C cuts likewise: names, numbers, marks and blanks, and no mark behind one that could go on with it.
use Rattle.std.proofs.Common.{◌≡◌, ℕ, ◌==◌, true, false, ◌&&◌, List, [], ◌∷◌}
use Rattle.std.specs.List.{AllByRecursion, onto_first}
use Rattle.std.proofs.lemmas.Bool.{cond_both}
use Rattle.c_text.specs.Constants.{is_one_of}
use Rattle.quick_form.specs.Symbols.{Piece, Word, Other, pieces_of, lines_of}
use Rattle.quick_form.proofs.LexingPieces.{IsOneLine}
use Rattle.quick_lines.proofs.Marks.{marks, may_begin, makes_longer}
use Rattle.quick_lines.proofs.WordPieces.{is_fine}

-- the mark b may stand before these pieces
abbrev pub MayStand : ℕ → List Piece → Type 0
MayStand b [] = Unit {0}
MayStand b (Word w ∷ ps) = Unit {0}
MayStand b (Other c ∷ ps) = (may_begin b && makes_longer c) ≡ false

-- the pieces are of these kinds and keep apart
abbrev pub AreSpaced : List Piece → Type 0
AreSpaced [] = Unit {0}
AreSpaced (Word w ∷ ps) = (is_fine w ≡ true) × AreSpaced ps
AreSpaced (Other b ∷ ps) = (is_one_of marks b ≡ true) × MayStand b ps × AreSpaced ps

-- the pieces of each line keep apart
abbrev pub AllSpaced : List (List ℕ) → Type 0
AllSpaced = AllByRecursion (λ l. AreSpaced (pieces_of l))

-- no line of a text has a newline in it
abbrev pub AreLines : List (List ℕ) → Type 0
AreLines = AllByRecursion IsOneLine

lines_first : (b : ℕ) (ls : List (List ℕ)) → (b == 10) ≡ false → AreLines ls → AreLines (onto_first b ls)
lines_first b [] n h = ((n, tt), tt)
lines_first b (l ∷ ls) n h = ((n, h.0), h.1)

pub are_lines : (text : List ℕ) → AreLines (lines_of text)
are_lines [] = (tt, tt)
are_lines (b ∷ bs) =
    let h = are_lines bs in
    cond_both (b == 10) ([] ∷ lines_of bs) (onto_first b (lines_of bs)) AreLines (λ _. (tt, h)) (λ e. lines_first b (lines_of bs) e h)
