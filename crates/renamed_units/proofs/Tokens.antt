-- The tokens of a file stand one behind the other, so that a span tells its token.
use Rattle.std.proofs.Common.{◌≡◌, ℕ, zero, suc, ◌+◌, ◌<◌, ◌≤◌, Bool, true, false, List, [], ◌∷◌, ◌++◌, map, length, Some, None, refl, ap, sym, ◌∙◌, subst, inl, inr, arith}
use Rattle.std.specs.Prelude.{◌⊎◌, Contains, slice_index_or}
use Rattle.std.specs.List.{AllByRecursion}
use Rattle.c_text.specs.Token.{PlainToken}
use Rattle.c_text.specs.Splices.{Placed, placed, bytes_of, splice_length, unless_splice, spliced_from, spliced}
use Rattle.c_text.specs.Pieces.{PieceKind, space, line_end, token, piece_of}
use Rattle.c_text.specs.Lines.{Piece, IsLongest, AreItsPieces, start_of, end_of, own_origin, with_piece, tokens_among, PlainLine, Run, with_first, by_line_end, runs_of, begin_directive, lines_of, AreItsLines}

-- ---- offsets rise

abbrev Rises : ℕ → ℕ → List Placed → Type 0
Rises to low [] = low ≤ to
Rises to low (p ∷ text) = (low ≤ p.at) × Rises to (suc p.at) text

rises-lower : (to low high : ℕ) (text : List Placed) → low ≤ high → Rises to high text → Rises to low text
rises-lower to low high [] h t = omega (arith, h, t)
rises-lower to low high (p ∷ text) h t = (omega (arith, h, t.0), t.1)

rises-unless : (to n byte at : ℕ) (others : ℕ → List Placed) → ((m : ℕ) → Rises to (suc at) (others m)) → Rises to at (unless_splice n (placed byte at) others)
rises-unless to zero byte at others k = (omega arith, k 0)
rises-unless to (suc n) byte at others k = rises-lower to at (suc at) (others n) (omega arith) (k n)

spliced-rises : (text : List ℕ) (to more at : ℕ) → at + length text ≤ to → Rises to at (spliced_from more at text)
spliced-rises [] to more at h = omega (arith, h)
spliced-rises (byte ∷ rest) to (suc more) at h =
    rises-lower to at (suc at) (spliced_from more (suc at) rest) (omega arith) (spliced-rises rest to more (suc at) (omega (arith, h)))
spliced-rises (byte ∷ rest) to zero at h =
    rises-unless to (splice_length (byte ∷ rest)) byte at (λ more. spliced_from more (suc at) rest) (λ m. spliced-rises rest to m (suc at) (omega (arith, h)))

-- ---- pieces stand one behind the other

abbrev PiecesRise : ℕ → ℕ → List Piece → Type 0
PiecesRise to low [] = low ≤ to
PiecesRise to low (p ∷ pieces) = (low ≤ start_of p.bytes) × (start_of p.bytes < end_of p.bytes) × (piece_of (bytes_of p.bytes) ≡ Some p.kind) × PiecesRise to (end_of p.bytes) pieces

pieces-lower : (to low high : ℕ) (pieces : List Piece) → low ≤ high → PiecesRise to high pieces → PiecesRise to low pieces
pieces-lower to low high [] h t = omega (arith, h, t)
pieces-lower to low high (p ∷ pieces) h t = (omega (arith, h, t.0), t.1, t.2, t.3)

-- the first bytes of a text, and what is behind them
bytes-rise : (to low : ℕ) (p : Placed) (bytes rest : List Placed) → Rises to low (p ∷ bytes ++ rest) → (p.at < end_of (p ∷ bytes)) × Rises to (end_of (p ∷ bytes)) rest
bytes-rise to low p [] rest t = (omega arith, t.1)
bytes-rise to low p (q ∷ bytes) rest t =
    let later = bytes-rise to (suc p.at) q bytes rest t.1 in
    let first : suc p.at ≤ q.at = t.1.0 in
    (omega (arith, first, later.0), later.1)

no-empty-piece : (kind : PieceKind) → piece_of [] ≡ Some kind → ⊥
no-empty-piece kind e = let h : None ≡ Some kind = e in cc

piece-rises : (to low : ℕ) (text : List Placed) (piece : Piece) (rest : List Placed) → IsLongest text piece rest → Rises to low text → (low ≤ start_of piece.bytes) × (start_of piece.bytes < end_of piece.bytes) × Rises to (end_of piece.bytes) rest
piece-rises to low text piece rest is t = each piece.bytes is.is_piece (subst (λ (l : List Placed). Rises to low l) is.split t)
  where
    each : (bytes : List Placed) → piece_of (bytes_of bytes) ≡ Some piece.kind → Rises to low (bytes ++ rest) → (low ≤ start_of bytes) × (start_of bytes < end_of bytes) × Rises to (end_of bytes) rest
    each [] e u = absurd (no-empty-piece piece.kind e)
    each (p ∷ bytes) e u = let later = bytes-rise to low p bytes rest u in (u.0, later.0, later.1)

pieces-rise : (pieces : List Piece) (to low : ℕ) (text : List Placed) → AreItsPieces text pieces → Rises to low text → PiecesRise to low pieces
pieces-rise [] to low text a t = subst (λ (l : List Placed). Rises to low l) a t
pieces-rise (piece ∷ pieces) to low text a t =
    let first = piece-rises to low text piece a.0 a.1 t in
    (first.0, first.1, a.1.is_piece, pieces-rise pieces to (end_of piece.bytes) a.0 a.2 first.2)

-- ---- the pieces of lines

abbrev flat : List Run → List Piece
flat [] = []
flat (r ∷ runs) = r.pieces ++ flat runs

flat-first : (start end : ℕ) (piece : Piece) (runs : List Run) → flat (with_first start end piece runs) ≡ piece ∷ flat runs
flat-first start end piece [] = refl
flat-first start end piece (first ∷ runs) = refl

runs-rise : (pieces : List Piece) (to start end low : ℕ) → PiecesRise to low pieces → PiecesRise to low (flat (runs_of start end pieces))
runs-rise [] to start end low t = t
runs-rise (piece ∷ pieces) to start end low t =
    by-kind to start end low piece piece.kind (λ next. runs_of next end pieces) t.0 t.1 t.2 (λ next. runs-rise pieces to next end (end_of piece.bytes) t.3)
  where
    by-kind : (to start end low : ℕ) (piece : Piece) (kind : PieceKind) (others : ℕ → List Run) → low ≤ start_of piece.bytes → start_of piece.bytes < end_of piece.bytes → piece_of (bytes_of piece.bytes) ≡ Some piece.kind → ((next : ℕ) → PiecesRise to (end_of piece.bytes) (flat (others next))) → PiecesRise to low (flat (by_line_end start end piece kind others))
    by-kind to start end low piece space others a b e k = subst (λ (l : List Piece). PiecesRise to low l) (sym (flat-first start end piece (others start))) (a, b, e, k start)
    by-kind to start end low piece line_end others a b e k = pieces-lower to low (end_of piece.bytes) (flat (others (end_of piece.bytes))) (omega (arith, a, b)) (k (end_of piece.bytes))
    by-kind to start end low piece (token kind) others a b e k = subst (λ (l : List Piece). PiecesRise to low l) (sym (flat-first start end piece (others start))) (a, b, e, k start)

-- ---- the tokens of lines

-- a token, and whether its line is a directive line
pub record Entry : Type 0 where
  pub directive : Bool
  pub token : PlainToken

abbrev pub entry : Bool → PlainToken → Entry
entry directive t = record { directive = directive; token = t }

abbrev pub entries : List PlainLine → List Entry
entries [] = []
entries (line ∷ lines) = map (entry line.directive) line.tokens ++ entries lines

pub record IsOwn (file : ℕ) (t : PlainToken) : Type 0 where
  pub file_is : t.origin.file ≡ file
  pub some : t.origin.span.start < t.origin.span.end
  pub is_piece : piece_of t.text ≡ Some (token t.kind)
  pub origin : t.origin ≡ own_origin file t.origin.span

abbrev pub EntriesRise : ℕ → ℕ → ℕ → List Entry → Type 0
EntriesRise file to low [] = low ≤ to
EntriesRise file to low (e ∷ es) = IsOwn file e.token × (low ≤ e.token.origin.span.start) × EntriesRise file to e.token.origin.span.end es

entries-lower : (file to low high : ℕ) (es : List Entry) → low ≤ high → EntriesRise file to high es → EntriesRise file to low es
entries-lower file to low high [] h t = omega (arith, h, t)
entries-lower file to low high (e ∷ es) h t = (t.0, omega (arith, h, t.1), t.2)

tokens-rise : (file to low : ℕ) (directive joined : Bool) (pieces more : List Piece) (rest : List Entry) → PiecesRise to low (pieces ++ more) → ((l : ℕ) → PiecesRise to l more → EntriesRise file to l rest) → EntriesRise file to low (map (entry directive) (tokens_among file joined pieces) ++ rest)
tokens-rise file to low directive joined [] more rest t k = k low t
tokens-rise file to low directive joined (piece ∷ pieces) more rest t k =
    by-kind file to low directive joined piece piece.kind (λ joins. tokens_among file joins pieces) rest t.0 t.1 t.2 (λ joins. tokens-rise file to (end_of piece.bytes) directive joins pieces more rest t.3 k)
  where
    by-kind : (file to low : ℕ) (directive joined : Bool) (piece : Piece) (kind : PieceKind) (others : Bool → List PlainToken) (rest : List Entry) → low ≤ start_of piece.bytes → start_of piece.bytes < end_of piece.bytes → piece_of (bytes_of piece.bytes) ≡ Some kind → ((joins : Bool) → EntriesRise file to (end_of piece.bytes) (map (entry directive) (others joins) ++ rest)) → EntriesRise file to low (map (entry directive) (with_piece file joined piece kind others) ++ rest)
    by-kind file to low directive joined piece space others rest a b e k = entries-lower file to low (end_of piece.bytes) _ (omega (arith, a, b)) (k false)
    by-kind file to low directive joined piece line_end others rest a b e k = entries-lower file to low (end_of piece.bytes) _ (omega (arith, a, b)) (k false)
    by-kind file to low directive joined piece (token kind) others rest a b e k = (record { file_is = refl; some = b; is_piece = e; origin = refl }, a, k true)

lines-rise : (file to low : ℕ) (runs : List Run) → PiecesRise to low (flat runs) → EntriesRise file to low (entries (lines_of file runs))
lines-rise file to low [] t = t
lines-rise file to low (r ∷ runs) t =
    tokens-rise file to low (begin_directive (tokens_among file false r.pieces)) false r.pieces (flat runs) (entries (lines_of file runs)) t (λ l u. lines-rise file to l runs u)

pub entries-rise : (file : ℕ) (text : List ℕ) (lines : List PlainLine) → AreItsLines file text lines → EntriesRise file (length text) 0 (entries lines)
entries-rise file text lines is =
    subst (λ (ls : List PlainLine). EntriesRise file (length text) 0 (entries ls)) (sym is.lines_are)
    (lines-rise file (length text) 0 (runs_of 0 (length text) is.pieces)
    (runs-rise is.pieces (length text) 0 (length text) 0 (pieces-rise is.pieces (length text) 0 (spliced text) is.are_pieces (spliced-rises text (length text) 0 0 (omega arith)))))

-- ---- elements

abbrev pub In : {X : Type 0} → X → List X → Type 0
In x [] = ⊥
In x (y ∷ ys) = (x ≡ y) ⊎ In x ys

pub in-left : {X : Type 0} (x : X) (xs ys : List X) → In x xs → In x (xs ++ ys)
in-left x [] ys i = absurd i
in-left x (y ∷ xs) ys (inl e) = inl e
in-left x (y ∷ xs) ys (inr i) = inr (in-left x xs ys i)

pub in-right : {X : Type 0} (x : X) (xs ys : List X) → In x ys → In x (xs ++ ys)
in-right x [] ys i = i
in-right x (y ∷ xs) ys i = inr (in-right x xs ys i)

pub in-map : {X Y : Type 0} (f : X → Y) (x : X) (xs : List X) → In x xs → In (f x) (map f xs)
in-map f x [] i = absurd i
in-map f x (y ∷ xs) (inl e) = inl (ap f e)
in-map f x (y ∷ xs) (inr i) = inr (in-map f x xs i)

in-at : {X : Type 0} (x : X) (xs : List X) (k : ℕ) → k < length xs → slice_index_or xs k x ≡ x → In x xs
in-at x [] k h e = absurd (omega (arith, h))
in-at x (y ∷ xs) zero h e = inl (sym e)
in-at x (y ∷ xs) (suc k) h e = inr (in-at x xs k (omega (arith, h)) e)

pub in-of : {X : Type 0} (x : X) (xs : List X) → Contains xs x → In x xs
in-of x xs c = in-at x xs c.0 c.1 c.2

pub each-of : {X : Type 0} (P : X → Type 0) (xs : List X) → ((x : X) → In x xs → P x) → AllByRecursion P xs
each-of P [] k = tt
each-of P (x ∷ xs) k = (k x (inl refl), each-of P xs (λ y i. k y (inr i)))

pub entry-of : (line : PlainLine) (t : PlainToken) (lines : List PlainLine) → In line lines → In t line.tokens → In (entry line.directive t) (entries lines)
entry-of line t [] i j = absurd i
entry-of line t (first ∷ lines) (inl e) j =
    in-left (entry line.directive t) (map (entry first.directive) first.tokens) (entries lines)
    (subst (λ (l : PlainLine). In (entry line.directive t) (map (entry l.directive) l.tokens)) e (in-map (entry line.directive) t line.tokens j))
entry-of line t (first ∷ lines) (inr i) j =
    in-right (entry line.directive t) (map (entry first.directive) first.tokens) (entries lines) (entry-of line t lines i j)

-- ---- entries are apart

module _ (file to : ℕ) where
  entries-end : (low : ℕ) (es : List Entry) → EntriesRise file to low es → low ≤ to
  entries-end low [] t = t
  entries-end low (e ∷ es) t = let later = entries-end e.token.origin.span.end es t.2 in let some = t.0.some in let first = t.1 in omega (arith, later, some, first)

  pub record IsWithin (low : ℕ) (e : Entry) : Type 0 where
    pub own : IsOwn file e.token
    pub above : low ≤ e.token.origin.span.start
    pub below : e.token.origin.span.end ≤ to

  pub own-in : (low : ℕ) (es : List Entry) (e : Entry) → EntriesRise file to low es → In e es → IsWithin low e
  own-in low [] e t i = absurd i
  own-in low (d ∷ es) e t (inl s) =
      subst (λ (x : Entry). IsWithin low x) (sym s) (record { own = t.0; above = t.1; below = entries-end d.token.origin.span.end es t.2 })
  own-in low (d ∷ es) e t (inr i) =
      let later = own-in d.token.origin.span.end es e t.2 i in
      let here = t.0.some in
      let low_is = t.1 in
      let above = later.above in
      record { own = later.own; above = omega (arith, above, here, low_is); below = later.below }

  pub data Apart (a b : Entry) : Type 0 where
    same : a ≡ b → Apart a b
    ahead : a.token.origin.span.end ≤ b.token.origin.span.start → Apart a b
    behind : b.token.origin.span.end ≤ a.token.origin.span.start → Apart a b

  pub apart : (low : ℕ) (es : List Entry) (a b : Entry) → EntriesRise file to low es → In a es → In b es → Apart a b
  apart low [] a b t i j = absurd i
  apart low (e ∷ es) a b t (inl s) (inl u) = same (s ∙ sym u)
  apart low (e ∷ es) a b t (inl s) (inr j) =
      ahead (subst (λ (x : Entry). x.token.origin.span.end ≤ b.token.origin.span.start) (sym s) (own-in e.token.origin.span.end es b t.2 j).above)
  apart low (e ∷ es) a b t (inr i) (inl u) =
      behind (subst (λ (x : Entry). x.token.origin.span.end ≤ a.token.origin.span.start) (sym u) (own-in e.token.origin.span.end es a t.2 i).above)
  apart low (e ∷ es) a b t (inr i) (inr j) = apart e.token.origin.span.end es a b t.2 i j
