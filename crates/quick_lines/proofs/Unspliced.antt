-- No splice stands in a text of such lines.
use Rattle.std.proofs.Common.{◌≡◌, ℕ, ◌==◌, true, not, List, [], ◌∷◌, ◌++◌, refl, subst, ◌∙◌, append-nil}
use Rattle.std.specs.List.{list_all, join_with_byte}
use Rattle.std.proofs.lemmas.Bool.{and_parts, not-true}
use Rattle.c_names.specs.Names.{is_word_byte}
use Rattle.c_text.specs.Splices.{spliced}
use Rattle.quick_form.specs.Symbols.{Piece, Word, Other, pieces_of}
use Rattle.quick_form.proofs.LexingPieces.{ArePieces, ArePieces-pieces_of}
use Rattle.quick_lines.proofs.Marks.{marks, of_all}
use Rattle.quick_lines.proofs.WordPieces.{byte_other}
use Rattle.quick_lines.proofs.Spacing.{AreSpaced, AllSpaced, AreLines}
use Rattle.quick_lines.proofs.Splicing.{placed_at, NoBackslash, spliced_is}
use Rattle.quick_lines.proofs.Cutting.{bytes_before, bytes_are}

word_unspliced : (w rest : List ℕ) → list_all is_word_byte w ≡ true → NoBackslash rest → NoBackslash (w ++ rest)
word_unspliced [] rest h k = k
word_unspliced (b ∷ w) rest h k =
    let parts = and_parts (is_word_byte b) (list_all is_word_byte w) h in
    (byte_other b parts.0 92 refl, word_unspliced w rest parts.1 k)

pieces_unspliced : (ps : List Piece) (rest : List ℕ) → ArePieces ps → AreSpaced ps → NoBackslash rest → NoBackslash (bytes_before ps rest)
pieces_unspliced [] rest pieces spaced h = h
pieces_unspliced (Word [] ∷ ps) rest pieces spaced h = absurd pieces.0
pieces_unspliced (Word (b ∷ w) ∷ ps) rest pieces spaced h =
    (byte_other b pieces.0.0 92 refl, word_unspliced w (bytes_before ps rest) pieces.0.1 (pieces_unspliced ps rest pieces.2 spaced.1 h))
pieces_unspliced (Other b ∷ ps) rest pieces spaced h =
    (not-true (92 == b) (of_all (λ c. not (92 == c)) marks b refl spaced.0), pieces_unspliced ps rest pieces.2 spaced.2 h)

text_unspliced : (ls : List (List ℕ)) → AreLines ls → AllSpaced ls → NoBackslash (join_with_byte 10 ls)
text_unspliced [] lines spaced = tt
text_unspliced (l ∷ []) lines spaced =
    subst NoBackslash (bytes_are l [] ∙ append-nil l) (pieces_unspliced (pieces_of l) [] (ArePieces-pieces_of l lines.0) spaced.0 tt)
text_unspliced (l ∷ m ∷ ls) lines spaced =
    let rest = join_with_byte 10 (m ∷ ls) in
    subst NoBackslash (bytes_are l (10 ∷ rest))
    (pieces_unspliced (pieces_of l) (10 ∷ rest) (ArePieces-pieces_of l lines.0) spaced.0 (refl, text_unspliced (m ∷ ls) lines.1 spaced.1))

pub text_stays : (ls : List (List ℕ)) → AreLines ls → AllSpaced ls → spliced (join_with_byte 10 ls) ≡ placed_at 0 (join_with_byte 10 ls)
text_stays ls lines spaced = spliced_is 0 (join_with_byte 10 ls) (text_unspliced ls lines spaced)
