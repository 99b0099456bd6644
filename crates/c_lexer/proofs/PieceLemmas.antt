-- Pieces of a text with places, from pieces of its bytes.
use Rattle.std.proofs.Common.{◌≡◌, ℕ, zero, suc, ◌+◌, ◌<◌, ◌≤◌, ◌==◌, Bool, true, false, cond, ◌||◌, ⊎_elim, List, [], ◌∷◌, ◌++◌, length, take, drop, refl, sym, ap, subst, ◌∙◌, arith, Option, Some, None, length-append, length-drop}
use Rattle.std.proofs.lemmas.Bool.{cond-true, eq-eqb, cases_lt}
use Rattle.std.proofs.lemmas.List.{take-map, take-append-drop, length-take-le, length-map}
use Rattle.std.proofs.lemmas.Option.{none-some}
use Rattle.std.proofs.Math.Seq.{take-append_seam, drop-append_seam}
use Rattle.c_text.specs.Splices.{Placed, bytes_of}
use Rattle.c_names.specs.Names.{is_identifier}
use Rattle.c_text.specs.Constants.{is_number, is_quoted, is_open_quoted}
use Rattle.c_text.specs.Pieces.{PieceKind, is_newline, is_blank, is_line_comment, is_block_comment, is_open_comment, is_punctuator, piece_of}
use Rattle.c_text.specs.Lines.{Piece, IsLongest, AreItsPieces}
use Rattle.c_lexer.specs.declared.classes.Class.{Class}
use Rattle.c_lexer.specs.declared.classes.Class.TheVariants as class
use Rattle.c_lexer.specs.Classes.{kind_in, IsLongestPiece}
use Rattle.c_lexer.proofs.BestLemmas.{classed, lone}

-- the bytes of a front are the front of the bytes
bytes-front : (text longer more : List Placed) → text ≡ longer ++ more → bytes_of longer ≡ take (length longer) (bytes_of text)
bytes-front text longer more e =
    let front = sym (take-append_seam longer more) ∙ ap (take (length longer)) (sym e) in
    ap bytes_of front ∙ sym (take-map (λ p. p.byte) (length longer) text)

pub longest-from_bytes : (text : List Placed) (n : ℕ) (kind : PieceKind) → IsLongestPiece (bytes_of text) n kind → IsLongest text (record { bytes = take n text; kind = kind }) (drop n text)
longest-from_bytes text n kind h =
    let same = length-map text (λ p. p.byte) in
    let size = length-take-le n text (omega (arith, h.within, same)) in
    record {
      split = sym (take-append-drop n text);
      is_piece = ap piece_of (sym (take-map (λ p. p.byte) n text)) ∙ h.is_piece;
      longest = λ longer more e above.
          let all : length text ≡ length longer + length more = ap length e ∙ length-append longer more in
          ap piece_of (bytes-front text longer more e)
          ∙ h.longest (length longer) (omega (arith, above, size)) (omega (arith, all, same));
    }

-- the longest piece is one
module _ (text : List Placed) (p q : Piece) (r s : List Placed) (a : IsLongest text p r) (b : IsLongest text q s) where
  same-length : length p.bytes ≡ length q.bytes
  same-length =
      let not_less : length p.bytes < length q.bytes → ⊥ = λ l. none-some q.kind (sym (a.longest q.bytes s b.split l) ∙ b.is_piece) in
      let not_more : length q.bytes < length p.bytes → ⊥ = λ l. none-some p.kind (sym (b.longest p.bytes r a.split l) ∙ a.is_piece) in
      omega (arith, not_less, not_more)

  same-bytes : p.bytes ≡ q.bytes
  same-bytes =
      sym (take-append_seam p.bytes r) ∙ ap (take (length p.bytes)) (sym a.split ∙ b.split)
      ∙ ap (λ n. take n (q.bytes ++ s)) same-length ∙ take-append_seam q.bytes s

  same-kind : p.kind ≡ q.kind
  same-kind = let e : Some p.kind ≡ Some q.kind = sym a.is_piece ∙ ap (λ w. piece_of (bytes_of w)) same-bytes ∙ b.is_piece in cc

  pub same-piece : p ≡ q
  same-piece =
      ap (λ w. let x : Piece = record { bytes = w; kind = p.kind } in x) same-bytes
      ∙ ap (λ k. let x : Piece = record { bytes = q.bytes; kind = k } in x) same-kind

  pub same-rest : r ≡ s
  same-rest =
      sym (drop-append_seam p.bytes r) ∙ ap (drop (length p.bytes)) (sym a.split ∙ b.split)
      ∙ ap (λ n. drop n (q.bytes ++ s)) same-length ∙ drop-append_seam q.bytes s

-- no piece is empty
none-empty : (text : List Placed) (p : Piece) (rest : List Placed) → text ≡ [] → IsLongest text p rest → ⊥
none-empty text p rest e h = by_bytes p.bytes p.kind (sym e ∙ h.split) h.is_piece where
  by_bytes : (bytes : List Placed) (kind : PieceKind) → [] ≡ bytes ++ rest → piece_of (bytes_of bytes) ≡ Some kind → ⊥
  by_bytes [] kind e is = none-some kind is
  by_bytes (b ∷ bytes) kind e is = cc

pub pieces-one : (text : List Placed) (ps qs : List Piece) → AreItsPieces text ps → AreItsPieces text qs → ps ≡ qs
pieces-one text [] [] a b = refl
pieces-one text [] (q ∷ qs) a b = absurd (none-empty text q b.0 a b.1)
pieces-one text (p ∷ ps) [] a b = absurd (none-empty text p a.0 b a.1)
pieces-one text (p ∷ ps) (q ∷ qs) a b =
    let first = same-piece text p q a.0 b.0 a.1 b.1 in
    let rest = same-rest text p q a.0 b.0 a.1 b.1 in
    let others = pieces-one a.0 ps qs a.2 (subst (λ t. AreItsPieces t qs) (sym rest) b.2) in
    ap (λ x. x ∷ ps) first ∙ ap (λ xs. q ∷ xs) others

-- Each text that isn't empty begins with a longest piece.
-- the bytes are a piece, where the function says what pieces of some classes are
record IsPiece (of : List ℕ → Option PieceKind) (w : List ℕ) : Type 0 where
  some : of w ≡ None → ⊥

unless-none : (test : Bool) (kind : PieceKind) (others : Option PieceKind) → (others ≡ None → ⊥) → cond test (Some kind) others ≡ None → ⊥
unless-none true kind others h e = none-some kind (sym e)
unless-none false kind others h e = h e

is-lone : (w : List ℕ) → length w ≡ 1 → IsPiece lone w
is-lone w h = record { some = λ e. none-some _ (sym e ∙ cond-true (length w == 1) _ None (eq-eqb (length w) 1 h)) }

is-classed : (test : List ℕ → Bool) (c : Class) (others : List ℕ → Option PieceKind) (w : List ℕ) → IsPiece others w → IsPiece (classed test c others) w
is-classed test c others w h = record { some = unless-none (test w) (kind_in c w) (others w) h.some }

-- one byte is a piece
one-piece : (w : List ℕ) → length w ≡ 1 → IsPiece piece_of w
one-piece w h =
    let quoted = is-classed (λ w. is_open_quoted 39 w || is_open_quoted 34 w) class.OpenQuote lone w (is-lone w h) in
    let opened = is-classed is_open_comment class.OpenComment _ w quoted in
    let marked = is-classed is_punctuator class.Punctuator _ w opened in
    let texts = is-classed (is_quoted 34) class.Text _ w marked in
    let characters = is-classed (is_quoted 39) class.Character _ w texts in
    let numbers = is-classed is_number class.Number _ w characters in
    let names = is-classed is_identifier class.Name _ w numbers in
    let white = is-classed (λ w. is_blank w || is_line_comment w || is_block_comment w) class.Space _ w names in
    is-classed is_newline class.Newline _ w white

record HasLongest (text : List ℕ) : Type 0 where
  size : ℕ
  kind : PieceKind
  is : IsLongestPiece text size kind

abbrev NoneAbove : List ℕ → ℕ → Type 0
NoneAbove text n = (m : ℕ) → n < m → m ≤ length text → piece_of (take m text) ≡ None

none-above : (text : List ℕ) (n : ℕ) → piece_of (take (suc n) text) ≡ None → NoneAbove text (suc n) → NoneAbove text n
none-above text n h none m l w =
    ⊎_elim (λ above. none m above w) (λ le. let e : suc n ≡ m = omega (arith, le, l) in subst (λ k. piece_of (take k text) ≡ None) e h) (cases_lt (suc n) m)

longest-at : (text : List ℕ) (n : ℕ) (found : Option PieceKind) → piece_of (take (suc n) text) ≡ found → suc n ≤ length text → NoneAbove text (suc n) → (NoneAbove text n → HasLongest text) → HasLongest text
longest-at text n (Some kind) h w none others =
    record { size = suc n; kind = kind; is = record { some = omega arith; within = w; is_piece = h; longest = none } }
longest-at text n None h w none others = others (none-above text n h none)

longest-to : (text : List ℕ) (n : ℕ) → suc n ≤ length text → NoneAbove text (suc n) → HasLongest text
longest-to text zero w none =
    longest-at text zero (piece_of (take 1 text)) refl w none
    (λ all. absurd ((one-piece (take 1 text) (length-take-le 1 text w)).some (all 1 (omega arith) w)))
longest-to text (suc n) w none =
    longest-at text (suc n) (piece_of (take (suc (suc n)) text)) refl w none (λ all. longest-to text n (omega (arith, w)) all)

longest-is : (p : Placed) (text : List Placed) → HasLongest (bytes_of (p ∷ text))
longest-is p text = longest-to (bytes_of (p ∷ text)) (length (bytes_of text)) (omega arith) (λ m l w. absurd (omega (arith, l, w)))

pieces-to : (size : ℕ) (text : List Placed) → length text ≤ size → (ps : List Piece) × AreItsPieces text ps
pieces-to size [] h = ([], refl)
pieces-to zero (p ∷ text) h = absurd (omega (arith, h))
pieces-to (suc size) (p ∷ text) h =
    let first = longest-is p text in
    let rest = drop first.size (p ∷ text) in
    let less : length rest ≤ size = omega (arith, h, first.is.some, length-drop first.size (p ∷ text)) in
    let others = pieces-to size rest less in
    (record { bytes = take first.size (p ∷ text); kind = first.kind } ∷ others.0, (rest, longest-from_bytes (p ∷ text) first.size first.kind first.is, others.1))

pub pieces-of : (text : List Placed) → (ps : List Piece) × AreItsPieces text ps
pieces-of text = pieces-to (length text) text (omega arith)
