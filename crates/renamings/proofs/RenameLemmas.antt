-- A file in which names are renamed.
use Rattle.std.proofs.Common.{◌≡◌, ℕ, suc, ◌<◌, ◌≤◌, true, false, not, ◌&&◌, List, [], ◌∷◌, length, get_or, map, codes, refl, sym, ap, subst, ◌∙◌, ◌⊎◌, inl, inr, arith, Some}
use Rattle.std.specs.Prelude.{All, Contains, IsTrue, nat_eq}
use Rattle.std.specs.List.{list_any, list_all, starts_with, AllByRecursion}
use Rattle.std.specs.Str.{bytes_eq}
use Rattle.std.proofs.lemmas.Bool.{and_parts, not-true}
use Rattle.std.proofs.lemmas.List.Elements.{Contains-get_or, All-from_recursion, recursion_from_All, All-head, All-tail, All-weaker, All-contains, All-contains_itself}
use Rattle.text_edits.specs.Span.{PlainSpan}
use Rattle.c_names.specs.Names.{is_nondigit, is_word_byte, is_identifier, is_keyword, taken_names, is_new_name}
use Rattle.c_text.specs.Token.{PlainToken}
use Rattle.c_text.specs.Splices.{Placed, bytes_of, spliced}
use Rattle.c_text.specs.Pieces.{token, piece_of}
use Rattle.c_text.specs.Lines.{span_of, Piece, start_of, end_of, PlainLine, runs_of, lines_of, AreItsLines, AreItsPieces}
use Rattle.renamings.specs.Laws.{IsNotInside}
use Rattle.renamings.specs.Renamings.{Renaming, moved, renamed_bytes, renamed_line, IsNameAt, AreAscending, AreNamesOf}
use Rattle.renamings.proofs.SeamLemmas.{name-piece, name-identifier}
use Rattle.renamings.proofs.SpanLemmas.{RiseFrom, IsOutside, moved-before, moved-rises}
use Rattle.renamings.proofs.TextLemmas.{IsWord, word-of, renamed_text, text-renamed, length-renamed, keeps}
use Rattle.renamings.proofs.OrderLemmas.{IsLaid, AreLaid, pieces-laid, laid-among, laid-order, rise-spliced, bytes-spliced, all-in_piece, keeps-piece, keeps-end}
use Rattle.renamings.proofs.ImageLemmas.{IsNamed, HasImage, image-of}
use Rattle.renamings.proofs.PieceLemmas.{piece-among, pieces-renamed}
use Rattle.renamings.proofs.LineLemmas.{ComesFrom, runs-all, lines-from, runs-renamed, lines-renamed}

-- spans in the order of the text that hold bytes
ascending-rise : (low : ℕ) (first : PlainSpan) (rest : List PlainSpan) → low ≤ first.start → AreAscending (first ∷ rest) → ((span : PlainSpan) → Contains (first ∷ rest) span → span.start < span.end) → RiseFrom low (first ∷ rest)
ascending-rise low first [] le h some = (le, some first (0, omega arith, refl), tt)
ascending-rise low first (second ∷ rest) le h some =
    (le, some first (0, omega arith, refl), ascending-rise first.end second rest h.0 h.1 (λ span there. some span (suc there.0, omega (arith, there.1), there.2)))

rise-of : (spans : List PlainSpan) → AreAscending spans → ((span : PlainSpan) → Contains spans span → span.start < span.end) → RiseFrom 0 spans
rise-of [] h some = tt
rise-of (first ∷ rest) h some = ascending-rise 0 first rest (omega arith) h some

first-nondigit : (w : List ℕ) (b : ℕ) (rest : List ℕ) → is_identifier w ≡ true → w ≡ b ∷ rest → is_nondigit b ≡ true
first-nondigit w b rest h e =
    (and_parts (is_nondigit b) (list_all is_word_byte rest) (subst (λ v. is_identifier v ≡ true) e h)).0

outside-of : (at : ℕ) (spans : List PlainSpan) → All (IsNotInside at) spans → IsOutside at spans
outside-of at [] h = tt
outside-of at (span ∷ spans) h =
    (All-head (IsNotInside at) span spans h, outside-of at spans (All-tail (IsNotInside at) span spans h))

module _ (r : Renaming) (number : ℕ) (bytes : List ℕ) (lines : List PlainLine) (good : IsTrue (is_new_name r.new)) (are : AreItsLines number bytes lines) (names : AreNamesOf r.old lines (r.spans number)) where
  abbrev spans : List PlainSpan
  spans = r.spans number

  abbrev text : List Placed
  text = spliced bytes

  new-parts : (is_identifier r.new ≡ true) × (is_keyword r.new ≡ false)
  new-parts =
      let w = r.new in
      let first = (and_parts (is_identifier w && not (is_keyword w) && not (list_any (bytes_eq w) taken_names)) (not (starts_with nat_eq w (codes "__"))) good).0 in
      let second = (and_parts (is_identifier w && not (is_keyword w)) (not (list_any (bytes_eq w) taken_names)) first).0 in
      let third = and_parts (is_identifier w) (not (is_keyword w)) second in (third.0, not-true (is_keyword w) third.1)

  word : IsWord r.new
  word = word-of r.new new-parts.0

  laid : AreLaid 0 (length bytes) are.pieces
  laid = pieces-laid text are.pieces 0 (length bytes) are.are_pieces (rise-spliced bytes)

  contained : AllByRecursion (Contains are.pieces) are.pieces
  contained = recursion_from_All (Contains are.pieces) are.pieces (All-contains_itself are.pieces)

  from_lines : AllByRecursion (λ line. AllByRecursion (ComesFrom are.pieces) line.tokens) lines
  from_lines =
      subst (λ ls. AllByRecursion (λ line. AllByRecursion (ComesFrom are.pieces) line.tokens) ls) (sym are.lines_are)
      (lines-from are.pieces number (runs_of 0 (length bytes) are.pieces) (runs-all (Contains are.pieces) 0 (length bytes) are.pieces contained))

  named : (span : PlainSpan) → Contains spans span → IsNamed r.old are.pieces span
  named span there =
      let name = All-contains (IsNameAt r.old lines) spans span names.names there in
      let tokens = All-contains (λ line. AllByRecursion (ComesFrom are.pieces) line.tokens) lines name.line (All-from_recursion (λ line. AllByRecursion (ComesFrom are.pieces) line.tokens) lines from_lines) name.among in
      let t = All-contains (ComesFrom are.pieces) name.line.tokens name.token (All-from_recursion (ComesFrom are.pieces) name.line.tokens tokens) name.within in
      let kind = t.kind ∙ ap token name.is_name in
      let same = t.text ∙ name.text in
      record {
        piece = t.piece;
        among = t.among;
        kind = kind;
        text = same;
        there = t.there ∙ name.there;
        identifier = name-identifier r.old (ap piece_of (sym same) ∙ piece-among text are.pieces t.piece are.are_pieces t.among ∙ ap Some kind);
      }

  laid-named : (span : PlainSpan) → (there : Contains spans span) → IsLaid (named span there).piece × (end_of (named span there).piece.bytes ≤ length bytes)
  laid-named span there =
      let parts = laid-among 0 (length bytes) are.pieces (named span there).piece laid (named span there).among in (parts.1, parts.2)

  some-bytes : (span : PlainSpan) → Contains spans span → span.start < span.end
  some-bytes span there =
      subst (λ s. s.start < s.end) (named span there).there (laid-named span there).0.some

  rise : RiseFrom 0 spans
  rise = rise-of spans names.ascending some-bytes

  starts : (span : PlainSpan) → Contains spans span → is_nondigit (get_or bytes span.start 0) ≡ true
  starts span there =
      let name = named span there in
      let here = (laid-named span there).0 in
      let of_text = all-in_piece (λ p. get_or bytes p.at 0 ≡ p.byte) text are.pieces name.piece are.are_pieces (bytes-spliced bytes) name.among in
      let first = (subst (AllByRecursion (λ p. get_or bytes p.at 0 ≡ p.byte)) here.are of_text).0 in
      let at : here.first.at ≡ span.start = ap start_of (sym here.are) ∙ ap (λ s. s.start) name.there in
      let same : get_or bytes span.start 0 ≡ here.first.byte = ap (λ k. get_or bytes k 0) (sym at) ∙ first in
      ap is_nondigit same ∙ first-nondigit r.old here.first.byte (bytes_of here.others) name.identifier (sym name.text ∙ ap bytes_of here.are)

  within : (span : PlainSpan) → Contains spans span → span.end ≤ length bytes
  within span there =
      subst (λ s. s.end ≤ length bytes) (named span there).there (laid-named span there).1

  ends : (span : PlainSpan) → Contains spans span → 0 < span.end → (last : ℕ) → suc last ≡ span.end → keeps last text ≡ true
  ends span there some last is =
      let name = named span there in
      keeps-piece last text are.pieces name.piece are.are_pieces name.among (keeps-end name.piece.bytes last (is ∙ sym (ap (λ s. s.end) name.there)))

  images : AllByRecursion (λ piece. HasImage r.new spans rise word r.old piece) are.pieces
  images =
      recursion_from_All (λ piece. HasImage r.new spans rise word r.old piece) are.pieces
      (λ k d l. image-of r.new spans rise word r.old are.pieces 0 (length bytes) laid named (get_or are.pieces k d) (Contains-get_or are.pieces k d l))

  abbrev pieces : List Piece
  pieces = map (λ piece. let p : Piece = record { bytes = renamed_text r.new spans piece.bytes; kind = piece.kind } in p) are.pieces

  are-pieces : AreItsPieces (spliced (renamed_bytes r number bytes)) pieces
  are-pieces =
      subst (λ t. AreItsPieces t pieces) (sym (text-renamed number r.new spans rise word bytes starts within ends))
      (pieces-renamed r.new spans rise word (name-piece r.new new-parts.0 new-parts.1) r.old text are.pieces are.are_pieces images)

  are-lines : map (renamed_line r number) lines ≡ lines_of number (runs_of 0 (length (renamed_bytes r number bytes)) pieces)
  are-lines =
      let start : moved r number 0 ≡ 0 = moved-before (length r.new) 0 0 spans rise (omega arith) in
      let end = length-renamed number r.new spans rise word bytes starts within in
      ap (map (renamed_line r number)) are.lines_are
      ∙ sym (lines-renamed r number rise word (runs_of 0 (length bytes) are.pieces) (runs-all (λ piece. HasImage r.new spans rise word r.old piece) 0 (length bytes) are.pieces images))
      ∙ ap (lines_of number) (sym (runs-renamed r number rise word 0 (length bytes) are.pieces images))
      ∙ ap (λ k. lines_of number (runs_of k (moved r number (length bytes)) pieces)) start
      ∙ ap (λ k. lines_of number (runs_of 0 k pieces)) end

  pub renamed-lines : AreItsLines number (renamed_bytes r number bytes) (map (renamed_line r number) lines)
  renamed-lines = record { pieces = pieces; are_pieces = are-pieces; lines_are = are-lines }

  pub order-kept : (a b : ℕ) → All (IsNotInside a) spans → All (IsNotInside b) spans → a < b → moved r number a < moved r number b
  order-kept a b outside_a outside_b l =
      let size : length r.new ≡ suc (length word.others) = ap length word.is in
      moved-rises (length r.new) 0 a b spans (omega (arith, size)) rise (outside-of a spans outside_a) (outside-of b spans outside_b) l

  pub tokens-apart : (line : PlainLine) (t : PlainToken) → Contains lines line → Contains line.tokens t → All (IsNotInside t.origin.span.start) spans × All (IsNotInside t.origin.span.end) spans
  tokens-apart line t in_lines in_line = (
    All-weaker (Contains spans) (IsNotInside t.origin.span.start) starts-apart spans (All-contains_itself spans),
    All-weaker (Contains spans) (IsNotInside t.origin.span.end) ends-apart spans (All-contains_itself spans),
  ) where
    tokens : AllByRecursion (ComesFrom are.pieces) line.tokens
    tokens = All-contains (λ l. AllByRecursion (ComesFrom are.pieces) l.tokens) lines line (All-from_recursion (λ l. AllByRecursion (ComesFrom are.pieces) l.tokens) lines from_lines) in_lines

    from : ComesFrom are.pieces t
    from =
        All-contains (ComesFrom are.pieces) line.tokens t (All-from_recursion (ComesFrom are.pieces) line.tokens tokens) in_line

    here : IsLaid from.piece
    here = (laid-among 0 (length bytes) are.pieces from.piece laid from.among).1

    start : start_of from.piece.bytes ≡ t.origin.span.start
    start = ap (λ s. s.start) from.there

    end : end_of from.piece.bytes ≡ t.origin.span.end
    end = ap (λ s. s.end) from.there

    apart : (span : PlainSpan) → Contains spans span → (t.origin.span ≡ span) ⊎ ((t.origin.span.end ≤ span.start) ⊎ (span.end ≤ t.origin.span.start))
    apart span there =
        let name = named span there in
        let s : start_of name.piece.bytes ≡ span.start = ap (λ x. x.start) name.there in
        let e : end_of name.piece.bytes ≡ span.end = ap (λ x. x.end) name.there in
        elim (laid-order 0 (length bytes) are.pieces from.piece name.piece laid from.among name.among) [
          | inl is ↦ inl (sym from.there ∙ ap (λ p. span_of p.bytes) is ∙ name.there)
          | inr (inl before) ↦ inr (inl (omega (arith, before, s, end)))
          | inr (inr behind) ↦ inr (inr (omega (arith, behind, e, start)))
        ]

    starts-apart : (span : PlainSpan) → Contains spans span → IsNotInside t.origin.span.start span
    starts-apart span there l =
        let some = here.some in
        elim (apart span there) [
          | inl is ↦ let s : t.origin.span.start ≡ span.start = ap (λ x. x.start) is in absurd (omega (arith, s, l))
          | inr (inl before) ↦ absurd (omega (arith, before, l, some, start, end))
          | inr (inr behind) ↦ behind
        ]

    ends-apart : (span : PlainSpan) → Contains spans span → IsNotInside t.origin.span.end span
    ends-apart span there l =
        let some = here.some in
        elim (apart span there) [
          | inl is ↦ let e : t.origin.span.end ≡ span.end = ap (λ x. x.end) is in omega (arith, e)
          | inr (inl before) ↦ absurd (omega (arith, before, l))
          | inr (inr behind) ↦ omega (arith, behind, some, start, end)
        ]
