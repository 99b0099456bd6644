-- The lines of the renamed pieces, and the pieces that tokens come from.
use Rattle.std.proofs.Common.{◌≡◌, ℕ, Bool, true, false, cond, List, [], ◌∷◌, map, codes, refl, sym, ap, ◌∙◌, ⊎_elim}
use Rattle.std.specs.Prelude.{Contains}
use Rattle.std.specs.List.{list_any, AllByRecursion}
use Rattle.std.specs.Str.{bytes_eq}
use Rattle.std.proofs.lemmas.Bool.{cases_Bool, cond-true, cond-false}
use Rattle.text_edits.specs.Span.{PlainSpan}
use Rattle.c_text.specs.declared.token.TokenKind.{TokenKind}
use Rattle.c_text.specs.Token.{PlainToken}
use Rattle.c_text.specs.Splices.{Placed, bytes_of}
use Rattle.c_text.specs.Pieces.{PieceKind, space, line_end, token}
use Rattle.c_text.specs.Lines.{Piece, start_of, end_of, span_of, own_origin, token_of, with_piece, tokens_among, PlainLine, Run, run, with_first, by_line_end, runs_of, begin_directive, line_of, lines_of}
use Rattle.renamings.specs.Renamings.{Renaming, moved, moved_span, same_span, is_renamed, renamed_token, renamed_line}
use Rattle.renamings.proofs.SeamLemmas.{name-hash}
use Rattle.renamings.proofs.SpanLemmas.{RiseFrom}
use Rattle.renamings.proofs.TextLemmas.{IsWord, word-of, renamed_text}
use Rattle.renamings.proofs.ImageLemmas.{HasImage, span-same}

-- ---- what holds of all pieces

module _ (P : Piece → Type 0) where
  abbrev OfRuns : List Run → Type 0
  OfRuns runs = AllByRecursion (λ r. AllByRecursion P r.pieces) runs

  first-all : (start end : ℕ) (piece : Piece) (runs : List Run) → P piece → OfRuns runs → OfRuns (with_first start end piece runs)
  first-all start end piece [] h all = ((h, tt), tt)
  first-all start end piece (first ∷ runs) h all = ((h, all.0), all.1)

  kind-all : (start end : ℕ) (piece : Piece) (kind : PieceKind) (others : ℕ → List Run) → P piece → ((next : ℕ) → OfRuns (others next)) → OfRuns (by_line_end start end piece kind others)
  kind-all start end piece space others h all = first-all start end piece (others start) h (all start)
  kind-all start end piece line_end others h all = (tt, all (end_of piece.bytes))
  kind-all start end piece (token kind) others h all = first-all start end piece (others start) h (all start)

  pub runs-all : (start end : ℕ) (pieces : List Piece) → AllByRecursion P pieces → AllByRecursion (λ r. AllByRecursion P r.pieces) (runs_of start end pieces)
  runs-all start end [] h = tt
  runs-all start end (piece ∷ pieces) h =
      kind-all start end piece piece.kind (λ next. runs_of next end pieces) h.0 (λ next. runs-all next end pieces h.1)

-- ---- the pieces that tokens come from

pub record ComesFrom (pieces : List Piece) (t : PlainToken) : Type 0 where
  pub piece : Piece
  pub among : Contains pieces piece
  pub kind : piece.kind ≡ token t.kind
  pub text : bytes_of piece.bytes ≡ t.text
  pub there : span_of piece.bytes ≡ t.origin.span

module _ (all : List Piece) (file : ℕ) where
  from-kind : (joined : Bool) (piece : Piece) (kind : PieceKind) (others : Bool → List PlainToken) → piece.kind ≡ kind → Contains all piece → ((joins : Bool) → AllByRecursion (ComesFrom all) (others joins)) → AllByRecursion (ComesFrom all) (with_piece file joined piece kind others)
  from-kind joined piece space others is there h = h false
  from-kind joined piece line_end others is there h = h false
  from-kind joined piece (token kind) others is there h =
      (record { piece = piece; among = there; kind = is; text = refl; there = refl }, h true)

  tokens-from : (joined : Bool) (pieces : List Piece) → AllByRecursion (Contains all) pieces → AllByRecursion (ComesFrom all) (tokens_among file joined pieces)
  tokens-from joined [] h = tt
  tokens-from joined (piece ∷ pieces) h =
      from-kind joined piece piece.kind (λ joins. tokens_among file joins pieces) refl h.0 (λ joins. tokens-from joins pieces h.1)

  pub lines-from : (runs : List Run) → AllByRecursion (λ r. AllByRecursion (Contains all) r.pieces) runs → AllByRecursion (λ line. AllByRecursion (ComesFrom all) line.tokens) (lines_of file runs)
  lines-from [] h = tt
  lines-from (r ∷ runs) h = (tokens-from false r.pieces h.0, lines-from runs h.1)

-- ---- lines of renamed pieces

module _ (r : Renaming) (number : ℕ) (rise : RiseFrom 0 (r.spans number)) (word : IsWord r.new) where
  abbrev to : ℕ → ℕ
  to at = moved r number at

  abbrev image : List Placed → List Placed
  image text = renamed_text r.new (r.spans number) text

  abbrev renamed : Piece → Piece
  renamed piece = record { bytes = image piece.bytes; kind = piece.kind }

  abbrev Image : Piece → Type 0
  Image piece = HasImage r.new (r.spans number) rise word r.old piece

  abbrev renamed_run : Run → Run
  renamed_run s = record { start = to s.start; end = to s.end; pieces = map renamed s.pieces }

  first-renamed : (start end : ℕ) (piece : Piece) (runs : List Run) → with_first (to start) (to end) (renamed piece) (map renamed_run runs) ≡ map renamed_run (with_first start end piece runs)
  first-renamed start end piece [] = refl
  first-renamed start end piece (first ∷ runs) = refl

  kind-renamed : (start end : ℕ) (piece : Piece) (kind : PieceKind) (pieces : List Piece) → Image piece → ((next : ℕ) → runs_of (to next) (to end) (map renamed pieces) ≡ map renamed_run (runs_of next end pieces)) → by_line_end (to start) (to end) (renamed piece) kind (λ next. runs_of next (to end) (map renamed pieces)) ≡ map renamed_run (by_line_end start end piece kind (λ next. runs_of next end pieces))
  kind-renamed start end piece space pieces h others =
      ap (with_first (to start) (to end) (renamed piece)) (others start) ∙ first-renamed start end piece (runs_of start end pieces)
  kind-renamed start end piece (token kind) pieces h others =
      ap (with_first (to start) (to end) (renamed piece)) (others start) ∙ first-renamed start end piece (runs_of start end pieces)
  kind-renamed start end piece line_end pieces h others =
      ap (λ n. run (to start) n [] ∷ runs_of (end_of (image piece.bytes)) (to end) (map renamed pieces)) h.start
      ∙ ap (λ n. run (to start) (to (start_of piece.bytes)) [] ∷ runs_of n (to end) (map renamed pieces)) h.end
      ∙ ap (λ runs. run (to start) (to (start_of piece.bytes)) [] ∷ runs) (others (end_of piece.bytes))

  pub runs-renamed : (start end : ℕ) (pieces : List Piece) → AllByRecursion (λ piece. HasImage r.new (r.spans number) rise word r.old piece) pieces → runs_of (to start) (to end) (map renamed pieces) ≡ map renamed_run (runs_of start end pieces)
  runs-renamed start end [] h = refl
  runs-renamed start end (piece ∷ pieces) h =
      kind-renamed start end piece piece.kind pieces h.0 (λ next. runs-renamed next end pieces h.1)

  -- ---- tokens

  token-renamed : (joined : Bool) (kind : TokenKind) (piece : Piece) → Image piece → token_of number joined kind (image piece.bytes) ≡ renamed_token r (token_of number joined kind piece.bytes)
  token-renamed joined kind piece h =
      let span = moved_span r number (span_of piece.bytes) in
      let same : span_of (image piece.bytes) ≡ span = span-same (span_of (image piece.bytes)) span h.start h.end in
      ap (λ text. let t : PlainToken = record { kind = kind; text = text; joined = joined; origin = own_origin number (span_of (image piece.bytes)) } in t) h.text
      ∙ ap (λ s. let t : PlainToken = record { kind = kind; text = cond (is_renamed r number (span_of piece.bytes)) r.new (bytes_of piece.bytes); joined = joined; origin = own_origin number s } in t) same

  tokens-kind : (joined : Bool) (piece : Piece) (kind : PieceKind) (pieces : List Piece) → Image piece → ((joins : Bool) → tokens_among number joins (map renamed pieces) ≡ map (renamed_token r) (tokens_among number joins pieces)) → with_piece number joined (renamed piece) kind (λ joins. tokens_among number joins (map renamed pieces)) ≡ map (renamed_token r) (with_piece number joined piece kind (λ joins. tokens_among number joins pieces))
  tokens-kind joined piece space pieces h others = others false
  tokens-kind joined piece line_end pieces h others = others false
  tokens-kind joined piece (token kind) pieces h others =
      ap (λ t. t ∷ tokens_among number true (map renamed pieces)) (token-renamed joined kind piece h)
      ∙ ap (λ ts. renamed_token r (token_of number joined kind piece.bytes) ∷ ts) (others true)

  tokens-renamed : (joined : Bool) (pieces : List Piece) → AllByRecursion (λ piece. HasImage r.new (r.spans number) rise word r.old piece) pieces → tokens_among number joined (map renamed pieces) ≡ map (renamed_token r) (tokens_among number joined pieces)
  tokens-renamed joined [] h = refl
  tokens-renamed joined (piece ∷ pieces) h =
      tokens-kind joined piece piece.kind pieces h.0 (λ joins. tokens-renamed joins pieces h.1)

  -- ---- directive lines

  no-hash : (w : List ℕ) → IsWord w → bytes_eq w (codes "#") ≡ false
  no-hash w h = ap (λ v. bytes_eq v (codes "#")) h.is ∙ name-hash h.first h.others h.names

  hash-renamed : (piece : Piece) → Image piece → bytes_eq (bytes_of (image piece.bytes)) (codes "#") ≡ bytes_eq (bytes_of piece.bytes) (codes "#")
  hash-renamed piece h =
      let here = list_any (same_span (span_of piece.bytes)) (r.spans number) in
      ⊎_elim
      (λ e. let facts = h.named e in
      ap (λ w. bytes_eq w (codes "#")) (h.text ∙ cond-true here r.new (bytes_of piece.bytes) e) ∙ no-hash r.new word
      ∙ sym (ap (λ w. bytes_eq w (codes "#")) facts.1 ∙ no-hash r.old (word-of r.old facts.2)))
      (λ e. ap (λ w. bytes_eq w (codes "#")) (h.text ∙ cond-false here r.new (bytes_of piece.bytes) e)) (cases_Bool here)

  directive-kind : (joined : Bool) (piece : Piece) (kind : PieceKind) (pieces : List Piece) → Image piece → ((joins : Bool) → begin_directive (tokens_among number joins (map renamed pieces)) ≡ begin_directive (tokens_among number joins pieces)) → begin_directive (with_piece number joined (renamed piece) kind (λ joins. tokens_among number joins (map renamed pieces))) ≡ begin_directive (with_piece number joined piece kind (λ joins. tokens_among number joins pieces))
  directive-kind joined piece space pieces h others = others false
  directive-kind joined piece line_end pieces h others = others false
  directive-kind joined piece (token kind) pieces h others = hash-renamed piece h

  directive-renamed : (joined : Bool) (pieces : List Piece) → AllByRecursion (λ piece. HasImage r.new (r.spans number) rise word r.old piece) pieces → begin_directive (tokens_among number joined (map renamed pieces)) ≡ begin_directive (tokens_among number joined pieces)
  directive-renamed joined [] h = refl
  directive-renamed joined (piece ∷ pieces) h =
      directive-kind joined piece piece.kind pieces h.0 (λ joins. directive-renamed joins pieces h.1)

  -- ---- lines

  line-renamed : (s : Run) → AllByRecursion (λ piece. HasImage r.new (r.spans number) rise word r.old piece) s.pieces → line_of number (renamed_run s) ≡ renamed_line r number (line_of number s)
  line-renamed s h =
      let span : PlainSpan = record { start = to s.start; end = to s.end } in
      ap (λ d. let l : PlainLine = record { directive = d; tokens = tokens_among number false (map renamed s.pieces); span = span } in l) (directive-renamed false s.pieces h)
      ∙ ap (λ ts. let l : PlainLine = record { directive = begin_directive (tokens_among number false s.pieces); tokens = ts; span = span } in l) (tokens-renamed false s.pieces h)

  pub lines-renamed : (runs : List Run) → AllByRecursion (λ s. AllByRecursion (λ piece. HasImage r.new (r.spans number) rise word r.old piece) s.pieces) runs → lines_of number (map renamed_run runs) ≡ map (renamed_line r number) (lines_of number runs)
  lines-renamed [] h = refl
  lines-renamed (s ∷ runs) h =
      ap (λ l. l ∷ lines_of number (map renamed_run runs)) (line-renamed s h.0)
      ∙ ap (λ ls. renamed_line r number (line_of number s) ∷ ls) (lines-renamed runs h.1)
