-- The pieces of a text in their order, and the bytes that they hold.
use Rattle.std.proofs.Common.{◌≡◌, ℕ, zero, suc, ◌+◌, ◌<◌, ◌≤◌, ◌==◌, true, false, List, [], ◌∷◌, ◌++◌, length, get_or, drop, refl, sym, ap, subst, ◌∙◌, ◌⊎◌, inl, inr, ⊎_elim, arith, Some}
use Rattle.std.specs.Prelude.{Contains}
use Rattle.std.specs.List.{AllByRecursion}
use Rattle.std.proofs.lemmas.Bool.{false≢true, eq-eqb, or_left, or_right, or_cases}
use Rattle.std.proofs.lemmas.Option.{none-some}
use Rattle.c_text.specs.Splices.{Placed, placed, bytes_of, splice_length, unless_splice, spliced_from, spliced}
use Rattle.c_text.specs.Pieces.{piece_of}
use Rattle.c_text.specs.Lines.{Piece, AreItsPieces, start_of, end_of}
use Rattle.renamings.proofs.TextLemmas.{keeps, head-is, tail-is}

-- ---- what holds of each byte of a text

pub all-left : (P : Placed → Type 0) (xs ys : List Placed) → AllByRecursion P (xs ++ ys) → AllByRecursion P xs
all-left P [] ys h = tt
all-left P (x ∷ xs) ys h = (h.0, all-left P xs ys h.1)

pub all-right : (P : Placed → Type 0) (xs ys : List Placed) → AllByRecursion P (xs ++ ys) → AllByRecursion P ys
all-right P [] ys h = h
all-right P (x ∷ xs) ys h = all-right P xs ys h.1

pub all-in_piece : (P : Placed → Type 0) (text : List Placed) (pieces : List Piece) (piece : Piece) → AreItsPieces text pieces → AllByRecursion P text → Contains pieces piece → AllByRecursion P piece.bytes
all-in_piece P text [] piece are h (k, l, e) = absurd (omega (arith, l))
all-in_piece P text (first ∷ pieces) piece are h (zero, l, e) =
    subst (λ p. AllByRecursion P p.bytes) e (all-left P first.bytes are.0 (subst (AllByRecursion P) are.1.split h))
all-in_piece P text (first ∷ pieces) piece are h (suc k, l, e) =
    all-in_piece P are.0 pieces piece are.2 (all-right P first.bytes are.0 (subst (AllByRecursion P) are.1.split h)) (k, omega (arith, l), e)

-- a byte that stays in a piece stays in the text
keeps-left : (at : ℕ) (xs ys : List Placed) → keeps at xs ≡ true → keeps at (xs ++ ys) ≡ true
keeps-left at [] ys h = absurd (false≢true h)
keeps-left at (x ∷ xs) ys h =
    ⊎_elim (λ e. or_left (x.at == at) (keeps at (xs ++ ys)) e) (λ e. or_right (x.at == at) (keeps at (xs ++ ys)) (keeps-left at xs ys e)) (or_cases (x.at == at) (keeps at xs) h)

keeps-right : (at : ℕ) (xs ys : List Placed) → keeps at ys ≡ true → keeps at (xs ++ ys) ≡ true
keeps-right at [] ys h = h
keeps-right at (x ∷ xs) ys h = or_right (x.at == at) (keeps at (xs ++ ys)) (keeps-right at xs ys h)

pub keeps-piece : (at : ℕ) (text : List Placed) (pieces : List Piece) (piece : Piece) → AreItsPieces text pieces → Contains pieces piece → keeps at piece.bytes ≡ true → keeps at text ≡ true
keeps-piece at text [] piece are (k, l, e) h = absurd (omega (arith, l))
keeps-piece at text (first ∷ pieces) piece are (zero, l, e) h =
    ap (keeps at) are.1.split ∙ keeps-left at first.bytes are.0 (ap (λ p. keeps at p.bytes) e ∙ h)
keeps-piece at text (first ∷ pieces) piece are (suc k, l, e) h =
    ap (keeps at) are.1.split ∙ keeps-right at first.bytes are.0 (keeps-piece at are.0 pieces piece are.2 (k, omega (arith, l), e) h)

-- bytes end behind the last one
pub keeps-end : (bytes : List Placed) (last : ℕ) → suc last ≡ end_of bytes → keeps last bytes ≡ true
keeps-end [] last h = absurd (omega (arith, h))
keeps-end (x ∷ []) last h = or_left (x.at == last) false (eq-eqb x.at last (omega (arith, h)))
keeps-end (x ∷ y ∷ bytes) last h = or_right (x.at == last) (keeps last (y ∷ bytes)) (keeps-end (y ∷ bytes) last h)

-- ---- the bytes of a text without splices

abbrev AreBytesOf : List ℕ → List Placed → Type 0
AreBytesOf bytes text = AllByRecursion (λ p. get_or bytes p.at 0 ≡ p.byte) text

bytes-step : (bytes : List ℕ) (n at b : ℕ) (rest : List ℕ) → get_or bytes at 0 ≡ b → ((more : ℕ) → AreBytesOf bytes (spliced_from more (suc at) rest)) → AreBytesOf bytes (unless_splice n (placed b at) (λ more. spliced_from more (suc at) rest))
bytes-step bytes zero at b rest e h = (e, h 0)
bytes-step bytes (suc more) at b rest e h = h more

bytes-from : (bytes rest : List ℕ) (more at : ℕ) → drop at bytes ≡ rest → AreBytesOf bytes (spliced_from more at rest)
bytes-from bytes [] more at e = tt
bytes-from bytes (b ∷ rest) (suc more) at e = bytes-from bytes rest more (suc at) (tail-is bytes at b rest e)
bytes-from bytes (b ∷ rest) zero at e =
    bytes-step bytes (splice_length (b ∷ rest)) at b rest (head-is bytes at b rest e) (λ more. bytes-from bytes rest more (suc at) (tail-is bytes at b rest e))

pub bytes-spliced : (bytes : List ℕ) → AllByRecursion (λ p. get_or bytes p.at 0 ≡ p.byte) (spliced bytes)
bytes-spliced bytes = bytes-from bytes bytes 0 0 refl

-- ---- offsets that rise

-- the offsets rise strictly, from the first of these on and to before the second
abbrev pub PlacesRise : ℕ → ℕ → List Placed → Type 0
PlacesRise from to [] = from ≤ to
PlacesRise from to (p ∷ text) = (from ≤ p.at) × PlacesRise (suc p.at) to text

pub rise-from : (low from to : ℕ) (text : List Placed) → low ≤ from → PlacesRise from to text → PlacesRise low to text
rise-from low from to [] le h = omega (arith, le, h)
rise-from low from to (p ∷ text) le h = (omega (arith, le, h.0), h.1)

pub rise-within : (from to : ℕ) (text : List Placed) → PlacesRise from to text → from ≤ to
rise-within from to [] h = h
rise-within from to (p ∷ text) h = let le = rise-within (suc p.at) to text h.1 in omega (arith, h.0, le)

rise-step : (n at b : ℕ) (rest : List ℕ) → ((more : ℕ) → PlacesRise (suc at) (suc at + length rest) (spliced_from more (suc at) rest)) → PlacesRise at (suc at + length rest) (unless_splice n (placed b at) (λ more. spliced_from more (suc at) rest))
rise-step zero at b rest h = (omega arith, h 0)
rise-step (suc more) at b rest h =
    rise-from at (suc at) (suc at + length rest) (spliced_from more (suc at) rest) (omega arith) (h more)

rise-spliced_from : (rest : List ℕ) (more at : ℕ) → PlacesRise at (at + length rest) (spliced_from more at rest)
rise-spliced_from [] more at = omega arith
rise-spliced_from (b ∷ rest) (suc more) at =
    let e : suc at + length rest ≡ at + length (b ∷ rest) = omega arith in
    subst (λ to. PlacesRise at to (spliced_from more (suc at) rest)) e
    (rise-from at (suc at) (suc at + length rest) (spliced_from more (suc at) rest) (omega arith) (rise-spliced_from rest more (suc at)))
rise-spliced_from (b ∷ rest) zero at =
    let e : suc at + length rest ≡ at + length (b ∷ rest) = omega arith in
    subst (λ to. PlacesRise at to (spliced_from 0 at (b ∷ rest))) e
    (rise-step (splice_length (b ∷ rest)) at b rest (λ more. rise-spliced_from rest more (suc at)))

pub rise-spliced : (bytes : List ℕ) → PlacesRise 0 (length bytes) (spliced bytes)
rise-spliced bytes =
    let e : 0 + length bytes ≡ length bytes = omega arith in
    subst (λ to. PlacesRise 0 to (spliced bytes)) e (rise-spliced_from bytes 0 0)

-- bytes before the rest of a text
record RiseParts (from to : ℕ) (bytes rest : List Placed) : Type 0 where
  starts : from ≤ start_of bytes
  rises : PlacesRise (start_of bytes) (end_of bytes) bytes
  later : PlacesRise (end_of bytes) to rest

rise-split : (from to : ℕ) (p : Placed) (bytes rest : List Placed) → PlacesRise from to ((p ∷ bytes) ++ rest) → RiseParts from to (p ∷ bytes) rest
rise-split from to p [] rest h = record { starts = h.0; rises = (omega arith, omega arith); later = h.1 }
rise-split from to p (q ∷ bytes) rest h =
    let others = rise-split (suc p.at) to q bytes rest h.1 in
    record {
      starts = h.0;
      rises = (omega arith, (others.starts, others.rises.1));
      later = others.later;
    }

-- ---- pieces in their order

-- a piece has bytes, and their offsets rise
pub record IsLaid (piece : Piece) : Type 0 where
  pub first : Placed
  pub others : List Placed
  pub are : piece.bytes ≡ first ∷ others
  pub rises : PlacesRise (start_of piece.bytes) (end_of piece.bytes) piece.bytes
  pub some : start_of piece.bytes < end_of piece.bytes

-- the pieces stand one behind the other between two offsets
abbrev pub AreLaid : ℕ → ℕ → List Piece → Type 0
AreLaid from to [] = from ≤ to
AreLaid from to (piece ∷ pieces) = (from ≤ start_of piece.bytes) × IsLaid piece × AreLaid (end_of piece.bytes) to pieces

laid-by : (from to : ℕ) (piece : Piece) (bytes rest : List Placed) → piece.bytes ≡ bytes → piece_of (bytes_of bytes) ≡ Some piece.kind → PlacesRise from to (bytes ++ rest) → (from ≤ start_of bytes) × IsLaid piece × PlacesRise (end_of bytes) to rest
laid-by from to piece [] rest e is h = absurd (none-some piece.kind is)
laid-by from to piece (p ∷ bytes) rest e is h =
    let parts = rise-split from to p bytes rest h in
    let some : start_of (p ∷ bytes) < end_of (p ∷ bytes) = rise-within (suc p.at) (end_of (p ∷ bytes)) bytes parts.rises.1 in (
      parts.starts,
      record {
        first = p;
        others = bytes;
        are = e;
        rises = subst (λ xs. PlacesRise (start_of xs) (end_of xs) xs) (sym e) parts.rises;
        some = subst (λ xs. start_of xs < end_of xs) (sym e) some;
      },
      parts.later,
    )

pub pieces-laid : (text : List Placed) (pieces : List Piece) (from to : ℕ) → AreItsPieces text pieces → PlacesRise from to text → AreLaid from to pieces
pieces-laid text [] from to are h = rise-within from to text h
pieces-laid text (piece ∷ pieces) from to are h =
    let parts = laid-by from to piece piece.bytes are.0 refl are.1.is_piece (subst (PlacesRise from to) are.1.split h) in
    (parts.0, parts.1, pieces-laid are.0 pieces (end_of piece.bytes) to are.2 parts.2)

pub laid-within : (from to : ℕ) (pieces : List Piece) → AreLaid from to pieces → from ≤ to
laid-within from to [] h = h
laid-within from to (piece ∷ pieces) h =
    let le = laid-within (end_of piece.bytes) to pieces h.2 in omega (arith, h.0, h.1.some, le)

pub laid-among : (from to : ℕ) (pieces : List Piece) (piece : Piece) → AreLaid from to pieces → Contains pieces piece → (from ≤ start_of piece.bytes) × IsLaid piece × (end_of piece.bytes ≤ to)
laid-among from to [] piece h (k, l, e) = absurd (omega (arith, l))
laid-among from to (first ∷ pieces) piece h (zero, l, e) =
    subst (λ p. (from ≤ start_of p.bytes) × IsLaid p × (end_of p.bytes ≤ to)) e (h.0, h.1, laid-within (end_of first.bytes) to pieces h.2)
laid-among from to (first ∷ pieces) piece h (suc k, l, e) =
    let later = laid-among (end_of first.bytes) to pieces piece h.2 (k, omega (arith, l), e) in
    (omega (arith, h.0, h.1.some, later.0), later.1, later.2)

-- two pieces are one, or one stands behind the other
pub laid-order : (from to : ℕ) (pieces : List Piece) (p q : Piece) → AreLaid from to pieces → Contains pieces p → Contains pieces q → (p ≡ q) ⊎ ((end_of p.bytes ≤ start_of q.bytes) ⊎ (end_of q.bytes ≤ start_of p.bytes))
laid-order from to [] p q h (k, l, e) cq = absurd (omega (arith, l))
laid-order from to (first ∷ pieces) p q h (zero, l, e) (zero, m, f) = inl (sym e ∙ f)
laid-order from to (first ∷ pieces) p q h (zero, l, e) (suc j, m, f) =
    let later = laid-among (end_of first.bytes) to pieces q h.2 (j, omega (arith, m), f) in
    inr (inl (subst (λ x. end_of x.bytes ≤ start_of q.bytes) e later.0))
laid-order from to (first ∷ pieces) p q h (suc i, l, e) (zero, m, f) =
    let later = laid-among (end_of first.bytes) to pieces p h.2 (i, omega (arith, l), e) in
    inr (inr (subst (λ x. end_of x.bytes ≤ start_of p.bytes) f later.0))
laid-order from to (first ∷ pieces) p q h (suc i, l, e) (suc j, m, f) =
    laid-order (end_of first.bytes) to pieces p q h.2 (i, omega (arith, l), e) (j, omega (arith, m), f)
