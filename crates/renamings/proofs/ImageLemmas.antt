-- What stands for the pieces of a text in the renamed one.
use Rattle.std.proofs.Common.{◌≡◌, ℕ, zero, suc, ◌+◌, ◌<◌, ◌≤◌, ◌==◌, true, false, cond, List, [], ◌∷◌, ◌++◌, length, refl, sym, ap, subst, ◌∙◌, ◌⊎◌, inl, inr, ⊎_elim, arith}
use Rattle.std.specs.Prelude.{Contains}
use Rattle.std.specs.List.{list_any, AllByRecursion}
use Rattle.std.proofs.lemmas.Bool.{false≢true, both_ways, cases_Bool, eqb-true, eq-eqb, and_parts, and_from, or_cases, or_left, or_right, cond-true, cond-false}
use Rattle.std.proofs.lemmas.List.{append-nil}
use Rattle.text_edits.specs.Span.{PlainSpan}
use Rattle.c_names.specs.Names.{is_identifier}
use Rattle.c_text.specs.declared.token.TokenKind.TheVariants.{Name}
use Rattle.c_text.specs.Splices.{Placed, placed, bytes_of}
use Rattle.c_text.specs.Pieces.{token}
use Rattle.c_text.specs.Lines.{Piece, start_of, end_of, span_of}
use Rattle.renamings.specs.Renamings.{moved_behind, same_span}
use Rattle.renamings.proofs.SpanLemmas.{begins_in, covered_in, RiseFrom, IsFree, IsInside, cases-inside, free-begins, free-covered, start-begins, inside-covered, inside-begins, moved-next, moved-end}
use Rattle.renamings.proofs.TextLemmas.{IsWord, placed_from, renamed_byte, renamed_text}
use Rattle.renamings.proofs.OrderLemmas.{PlacesRise, rise-within, AreLaid, laid-among, laid-order}

-- ---- bytes of a new name

bytes-placed : (at : ℕ) (w : List ℕ) → bytes_of (placed_from at w) ≡ w
bytes-placed at [] = refl
bytes-placed at (b ∷ w) = ap (λ xs. b ∷ xs) (bytes-placed (suc at) w)

end-placed : (at b : ℕ) (w : List ℕ) → end_of (placed_from at (b ∷ w)) ≡ at + length (b ∷ w)
end-placed at b [] = omega arith
end-placed at b (c ∷ w) =
    let e : suc at + length (c ∷ w) ≡ at + length (b ∷ c ∷ w) = omega arith in end-placed (suc at) c w ∙ e

span-placed : (at : ℕ) (w : List ℕ) → IsWord w → (start_of (placed_from at w) ≡ at) × (end_of (placed_from at w) ≡ at + length w)
span-placed at w word =
    subst (λ v. (start_of (placed_from at v) ≡ at) × (end_of (placed_from at v) ≡ at + length v)) (sym word.is) (refl, end-placed at word.first word.others)

-- ---- equal spans

pub span-same : (a b : PlainSpan) → a.start ≡ b.start → a.end ≡ b.end → a ≡ b
span-same a b s e =
    (ap (λ n. let x : PlainSpan = record { start = n; end = a.end } in x) s) ∙ (ap (λ n. let x : PlainSpan = record { start = b.start; end = n } in x) e)

any-same : (spans : List PlainSpan) (span : PlainSpan) → list_any (same_span span) spans ≡ true → Contains spans span
any-same [] span h = absurd (false≢true h)
any-same (first ∷ spans) span h = by (or_cases (same_span span first) (list_any (same_span span) spans) h) (any-same spans span) where
  by : (same_span span first ≡ true) ⊎ (list_any (same_span span) spans ≡ true) → (list_any (same_span span) spans ≡ true → Contains spans span) → Contains (first ∷ spans) span
  by (inl e) others =
      let parts = and_parts (span.start == first.start) (span.end == first.end) e in
      (0, omega arith, sym (span-same span first (eqb-true span.start first.start parts.0) (eqb-true span.end first.end parts.1)))
  by (inr e) others = let there = others e in (suc there.0, omega (arith, there.1), there.2)

same-any : (spans : List PlainSpan) (span : PlainSpan) → Contains spans span → list_any (same_span span) spans ≡ true
same-any [] span (k, l, e) = absurd (omega (arith, l))
same-any (first ∷ spans) span (zero, l, e) =
    or_left (same_span span first) (list_any (same_span span) spans)
    (and_from (span.start == first.start) (span.end == first.end) (eq-eqb span.start first.start (ap (λ s. s.start) (sym e))) (eq-eqb span.end first.end (ap (λ s. s.end) (sym e))))
same-any (first ∷ spans) span (suc k, l, e) =
    or_right (same_span span first) (list_any (same_span span) spans) (same-any spans span (k, omega (arith, l), e))

-- ---- images

-- the piece of a name that is renamed
pub record IsNamed (old : List ℕ) (pieces : List Piece) (span : PlainSpan) : Type 0 where
  pub piece : Piece
  pub among : Contains pieces piece
  pub kind : piece.kind ≡ token Name
  pub text : bytes_of piece.bytes ≡ old
  pub there : span_of piece.bytes ≡ span
  pub identifier : is_identifier old ≡ true

module _ (new : List ℕ) (spans : List PlainSpan) (rise : RiseFrom 0 spans) (word : IsWord new) where
  abbrev to : ℕ → ℕ
  to at = moved_behind (length new) spans at

  abbrev image : List Placed → List Placed
  image text = renamed_text new spans text

  -- what becomes of a piece's bytes and places
  pub record HasImage (old : List ℕ) (piece : Piece) : Type 0 where
    pub text : bytes_of (image piece.bytes) ≡ cond (list_any (same_span (span_of piece.bytes)) spans) new (bytes_of piece.bytes)
    pub start : start_of (image piece.bytes) ≡ to (start_of piece.bytes)
    pub end : end_of (image piece.bytes) ≡ to (end_of piece.bytes)
    pub named : list_any (same_span (span_of piece.bytes)) spans ≡ true → (piece.kind ≡ token Name) × (bytes_of piece.bytes ≡ old) × (is_identifier old ≡ true)

  -- bytes that no span holds
  stays : (p : Placed) → IsFree p.at spans → renamed_byte new spans p ≡ placed p.byte (to p.at) ∷ []
  stays p free =
      cond-false (begins_in spans p.at) _ _ (free-begins 0 p.at spans rise free)
      ∙ cond-false (covered_in spans p.at) [] _ (free-covered p.at spans free)

  pub record Stay (bytes : List Placed) : Type 0 where
    pub text : bytes_of (image bytes) ≡ bytes_of bytes
    pub end : end_of (image bytes) ≡ to (end_of bytes)
    pub first : Placed
    pub others : List Placed
    pub are : image bytes ≡ first ∷ others

  stay : (p : Placed) (bytes : List Placed) → AllByRecursion (λ q. IsFree q.at spans) (p ∷ bytes) → Stay (p ∷ bytes)
  stay p [] h = record {
    text = ap (λ xs. bytes_of (xs ++ [])) (stays p h.0);
    end = ap (λ xs. end_of (xs ++ [])) (stays p h.0) ∙ sym (moved-next (length new) 0 p.at spans rise h.0);
    first = placed p.byte (to p.at);
    others = [];
    are = ap (λ xs. xs ++ []) (stays p h.0);
  }
  stay p (q ∷ bytes) h =
      let later = stay q bytes h.1 in
      let whole : image (p ∷ q ∷ bytes) ≡ placed p.byte (to p.at) ∷ image (q ∷ bytes) = ap (λ xs. xs ++ image (q ∷ bytes)) (stays p h.0) in
      record {
        text = ap bytes_of whole ∙ ap (λ xs. p.byte ∷ xs) later.text;
        end = ap end_of whole ∙ ap (λ xs. end_of (placed p.byte (to p.at) ∷ xs)) later.are ∙ ap end_of (sym later.are) ∙ later.end;
        first = placed p.byte (to p.at);
        others = image (q ∷ bytes);
        are = whole;
      }

  stay-start : (p : Placed) (bytes : List Placed) → IsFree p.at spans → start_of (image (p ∷ bytes)) ≡ to p.at
  stay-start p bytes free = ap (λ xs. start_of (xs ++ image bytes)) (stays p free)

  -- the bytes of a span behind its first
  goes : (bytes : List Placed) (from : ℕ) (span : PlainSpan) → Contains spans span → span.start < from → PlacesRise from span.end bytes → image bytes ≡ []
  goes [] from span there l h = refl
  goes (p ∷ bytes) from span there l h =
      let within = rise-within (suc p.at) span.end bytes h.1 in
      let nothing : renamed_byte new spans p ≡ [] =
      cond-false (begins_in spans p.at) _ _ (inside-begins 0 p.at spans span rise there (omega (arith, l, h.0)) within)
      ∙ cond-true (covered_in spans p.at) [] _ (inside-covered p.at spans span there (omega (arith, l, h.0)) within) in
      ap (λ xs. xs ++ image bytes) nothing ∙ goes bytes (suc p.at) span there (omega (arith, l, h.0)) h.1

  named-image : (p : Placed) (bytes : List Placed) → Contains spans (span_of (p ∷ bytes)) → PlacesRise (suc p.at) (end_of (p ∷ bytes)) bytes → image (p ∷ bytes) ≡ placed_from (to p.at) new
  named-image p bytes there h =
      let span = span_of (p ∷ bytes) in
      let first : renamed_byte new spans p ≡ placed_from (to p.at) new = cond-true (begins_in spans p.at) (placed_from (to p.at) new) _ (start-begins spans span there) in
      ap (λ xs. xs ++ image bytes) first
      ∙ ap (λ xs. placed_from (to p.at) new ++ xs) (goes bytes (suc p.at) span there (omega arith) h)
      ∙ append-nil (placed_from (to p.at) new)

  module _ (old : List ℕ) (pieces : List Piece) (from upto : ℕ) (laid : AreLaid from upto pieces) (names : (span : PlainSpan) → Contains spans span → IsNamed old pieces span) where
    -- the piece with a renamed span is that of the name
    same-piece : (piece q : Piece) → Contains pieces piece → Contains pieces q → span_of q.bytes ≡ span_of piece.bytes → q ≡ piece
    same-piece piece q cp cq e =
        let s : start_of q.bytes ≡ start_of piece.bytes = ap (λ x. x.start) e in
        let one = (laid-among from upto pieces piece laid cp).1 in
        let other = (laid-among from upto pieces q laid cq).1 in
        elim (laid-order from upto pieces q piece laid cq cp) [
          | inl is ↦ is
          | inr (inl le) ↦ absurd (omega (arith, le, s, other.some))
          | inr (inr le) ↦ absurd (omega (arith, le, s, one.some))
        ]

    -- no span holds a byte of another piece
    free-in : (piece : Piece) → Contains pieces piece → list_any (same_span (span_of piece.bytes)) spans ≡ false → (at : ℕ) → start_of piece.bytes ≤ at → at < end_of piece.bytes → IsFree at spans
    free-in piece cp none at le l = by (cases-inside at spans) where
      by : IsFree at spans ⊎ IsInside at spans → IsFree at spans
      by (inl free) = free
      by (inr h) =
          let name = names h.span h.among in
          let s : start_of name.piece.bytes ≡ h.span.start = ap (λ x. x.start) name.there in
          let e : end_of name.piece.bytes ≡ h.span.end = ap (λ x. x.end) name.there in
          elim (laid-order from upto pieces piece name.piece laid cp name.among) [
            | inl is ↦
                let same : span_of piece.bytes ≡ h.span = ap (λ p. span_of p.bytes) is ∙ name.there in
                absurd (both_ways (list_any (same_span h.span) spans) (ap (λ x. list_any (same_span x) spans) (sym same) ∙ none) (same-any spans h.span h.among))
            | inr (inl before) ↦ absurd (omega (arith, before, s, h.from, l))
            | inr (inr behind) ↦ absurd (omega (arith, behind, e, h.to, le))
          ]

    all-free : (bytes : List Placed) (low high : ℕ) → PlacesRise low high bytes → ((at : ℕ) → low ≤ at → at < high → IsFree at spans) → AllByRecursion (λ q. IsFree q.at spans) bytes
    all-free [] low high h free = tt
    all-free (p ∷ bytes) low high h free =
        let within = rise-within (suc p.at) high bytes h.1 in
        (free p.at h.0 within, all-free bytes (suc p.at) high h.1 (λ at le l. free at (omega (arith, le, h.0)) l))

    free-image : (piece : Piece) → Contains pieces piece → list_any (same_span (span_of piece.bytes)) spans ≡ false → HasImage old piece
    free-image piece cp none =
        let here = (laid-among from upto pieces piece laid cp).1 in
        let free = all-free piece.bytes (start_of piece.bytes) (end_of piece.bytes) here.rises (free-in piece cp none) in
        let free_too : AllByRecursion (λ q. IsFree q.at spans) (here.first ∷ here.others) = subst (AllByRecursion (λ q. IsFree q.at spans)) here.are free in
        let kept = stay here.first here.others free_too in
        record {
          text = ap (λ xs. bytes_of (image xs)) here.are ∙ kept.text ∙ ap bytes_of (sym here.are) ∙ sym (cond-false (list_any (same_span (span_of piece.bytes)) spans) new (bytes_of piece.bytes) none);
          start = ap (λ xs. start_of (image xs)) here.are ∙ stay-start here.first here.others free_too.0 ∙ ap (λ xs. to (start_of xs)) (sym here.are);
          end = ap (λ xs. end_of (image xs)) here.are ∙ kept.end ∙ ap (λ xs. to (end_of xs)) (sym here.are);
          named = λ some. absurd (both_ways (list_any (same_span (span_of piece.bytes)) spans) none some);
        }

    renamed-image : (piece : Piece) → Contains pieces piece → list_any (same_span (span_of piece.bytes)) spans ≡ true → HasImage old piece
    renamed-image piece cp some =
        let here = (laid-among from upto pieces piece laid cp).1 in
        let there = any-same spans (span_of piece.bytes) some in
        let name = names (span_of piece.bytes) there in
        let is = same-piece piece name.piece cp name.among name.there in
        let rises = (subst (λ xs. PlacesRise (start_of xs) (end_of xs) xs) here.are here.rises).1 in
        let whole : image piece.bytes ≡ placed_from (to (start_of piece.bytes)) new =
        ap image here.are ∙ named-image here.first here.others (subst (λ xs. Contains spans (span_of xs)) here.are there) rises
        ∙ ap (λ xs. placed_from (to (start_of xs)) new) (sym here.are) in
        let ends = span-placed (to (start_of piece.bytes)) new word in
        record {
          text = ap bytes_of whole ∙ bytes-placed (to (start_of piece.bytes)) new ∙ sym (cond-true (list_any (same_span (span_of piece.bytes)) spans) new (bytes_of piece.bytes) some);
          start = ap start_of whole ∙ ends.0;
          end = ap end_of whole ∙ ends.1 ∙ sym (moved-end (length new) 0 spans (span_of piece.bytes) rise there);
          named = λ e. (ap (λ p. p.kind) (sym is) ∙ name.kind, ap (λ p. bytes_of p.bytes) (sym is) ∙ name.text, name.identifier);
        }

    pub image-of : (piece : Piece) → Contains pieces piece → HasImage old piece
    image-of piece cp =
        ⊎_elim (λ e. renamed-image piece cp e) (λ e. free-image piece cp e) (cases_Bool (list_any (same_span (span_of piece.bytes)) spans))
