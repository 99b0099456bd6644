-- The renamed spans of a file are those of names on text lines, and no other token has one of them.
use Rattle.std.proofs.Common.{◌≡◌, ℕ, ◌<◌, ◌≤◌, Bool, true, false, ◌&&◌, ◌||◌, List, [], ◌∷◌, length, Some, refl, ap, sym, ◌∙◌, subst, arith, codes}
use Rattle.std.specs.Prelude.{◌==◌}
use Rattle.std.specs.List.{AllByRecursion, list_any}
use Rattle.std.specs.Str.{bytes_eq}
use Rattle.std.proofs.lemmas.Slice.Eq.{bytes_eq-Decides}
use Rattle.std.proofs.lemmas.Bool.Decides.{Decides-eqb}
use Rattle.c_names.specs.Names.{is_new_name}
use Rattle.text_edits.specs.Span.{PlainSpan}
use Rattle.c_text.specs.declared.token.TokenKind.{TokenKind}
use Rattle.c_text.specs.declared.token.TokenKind.TheVariants.{Name, Punctuator}
use Rattle.c_text.specs.Token.{PlainToken}
use Rattle.c_text.specs.Directives.{predefined_names}
use Rattle.c_text.specs.Pieces.{token, piece_of}
use Rattle.c_text.specs.Lines.{PlainLine}
use Rattle.renamings.specs.Renamings.{Renaming, AreAscending, IsNameAt, same_span, is_renamed}
use Rattle.renamed_units.proofs.Alike.{IsOrdinary}
use Rattle.renamed_units.proofs.Runs.{IsStanding}
use Rattle.renamed_units.proofs.Walks.{IsToken, IsLine, IsOldName}
use Rattle.renamings.proofs.SpanLemmas.{RiseFrom, IsOutside}
use Rattle.renamed_units.proofs.Places.{AtIn, standing-in}
use Rattle.renamed_units.proofs.Tokens.{Entry, entry, entries, EntriesRise, IsOwn, In, in-of, each-of, entry-of, Apart, same, ahead, behind, own-in, apart}

pub by-cases : (P : Type 0) (b : Bool) → (b ≡ true → P) → (b ≡ false → P) → P
by-cases P true f g = f refl
by-cases P false f g = g refl

and-parts : (a b : Bool) → (a && b) ≡ true → (a ≡ true) × (b ≡ true)
and-parts true true e = (refl, refl)
and-parts true false e = cc
and-parts false b e = cc

-- ---- ordinary names

not-mark : (word mark : List ℕ) → piece_of mark ≡ Some (token Punctuator) → piece_of word ≡ Some (token Name) → bytes_eq word mark ≡ false
not-mark word mark m w = by-cases (bytes_eq word mark ≡ false) (bytes_eq word mark) (λ e. absurd (apart_kinds ((bytes_eq-Decides word mark).0 e))) (λ e. e)
  where
    apart_kinds : word ≡ mark → ⊥
    apart_kinds e = let f : piece_of mark ≡ Some (token Name) = subst (λ (v : List ℕ). piece_of v ≡ Some (token Name)) e w in cc

pub old-ordinary : (word : List ℕ) → piece_of word ≡ Some (token Name) → IsOrdinary word
old-ordinary word w = record {
  opens = not-mark word (codes "(") refl w;
  closes = not-mark word (codes ")") refl w;
  divides = not-mark word (codes ",") refl w;
}

not-new : (word other : List ℕ) → is_new_name other ≡ false → is_new_name word ≡ true → bytes_eq word other ≡ false
not-new word other o w = by-cases (bytes_eq word other ≡ false) (bytes_eq word other) (λ e. absurd (apart_names ((bytes_eq-Decides word other).0 e))) (λ e. e)
  where
    apart_names : word ≡ other → ⊥
    apart_names e = let f : is_new_name other ≡ true = subst (λ (v : List ℕ). is_new_name v ≡ true) e w in cc

none-new : (word : List ℕ) (others : List (List ℕ)) → AllByRecursion (λ v. is_new_name v ≡ false) others → is_new_name word ≡ true → list_any (bytes_eq word) others ≡ false
none-new word [] a w = refl
none-new word (other ∷ others) a w = let first = not-new word other a.0 w in let rest = none-new word others a.1 w in rw (first) rest

pub new-ordinary : (word : List ℕ) → is_new_name word ≡ true → IsOrdinary word
new-ordinary word w = record {
  opens = not-new word (codes "(") refl w;
  closes = not-new word (codes ")") refl w;
  divides = not-new word (codes ",") refl w;
}

new-free : (word : List ℕ) → is_new_name word ≡ true → list_any (bytes_eq word) predefined_names ≡ false
new-free word w = none-new word predefined_names (refl, (refl, (refl, (refl, (refl, (refl, (refl, (refl, (refl, (refl, tt)))))))))) w

pub new-some : (word : List ℕ) → is_new_name word ≡ true → 0 < length word
new-some [] w = let f : false ≡ true = w in let h : ⊥ = cc in absurd h
new-some (b ∷ word) w = omega arith

-- ---- names among the tokens of a file

module _ (r : Renaming) (file to : ℕ) (lines : List PlainLine) (rise : EntriesRise file to 0 (entries lines)) where
  abbrev Names : List PlainSpan → Type 0
  Names spans = AllByRecursion (IsNameAt r.old lines) spans

  name-in : (span : PlainSpan) (n : IsNameAt r.old lines span) → In (entry n.line.directive n.token) (entries lines)
  name-in span n = entry-of n.line n.token lines (in-of n.line lines n.among) (in-of n.token n.line.tokens n.within)

  pub name-within : (span : PlainSpan) → IsNameAt r.old lines span → (span.start < span.end) × (span.end ≤ to)
  name-within span n =
      let w = own-in file to 0 (entries lines) (entry n.line.directive n.token) rise (name-in span n) in
      (subst (λ (s : PlainSpan). s.start < s.end) n.there w.own.some, subst (λ (s : PlainSpan). s.end ≤ to) n.there w.below)

  -- the spans one behind the other
  chain-from : (low : ℕ) (first : PlainSpan) (spans : List PlainSpan) → low ≤ first.start → AreAscending (first ∷ spans) → Names (first ∷ spans) → RiseFrom low (first ∷ spans)
  chain-from low first [] h a n = (h, (name-within first n.0).0, tt)
  chain-from low first (second ∷ spans) h a n = (h, (name-within first n.0).0, chain-from first.end second spans a.0 a.1 n.1)

  pub chain-of : (spans : List PlainSpan) → AreAscending spans → Names spans → RiseFrom 0 spans
  chain-of [] a n = tt
  chain-of (first ∷ spans) a n = chain-from 0 first spans (omega arith) a n

  pub ends-of : (spans : List PlainSpan) → Names spans → AllByRecursion (λ (s : PlainSpan). s.end ≤ to) spans
  ends-of [] n = tt
  ends-of (span ∷ spans) n = ((name-within span n.0).1, ends-of spans n.1)

  -- the token of a name is the one with its span
  pub record IsNameOf (e : Entry) : Type 0 where
    pub span : PlainSpan
    pub name : IsNameAt r.old lines span
    pub is : e ≡ entry name.line.directive name.token

  outside-of : (e : Entry) → In e (entries lines) → (spans : List PlainSpan) → Names spans → IsOutside e.token.origin.span.start spans
  outside-of e i [] n = tt
  outside-of e i (span ∷ spans) n = (one span n.0, outside-of e i spans n.1)
    where
      by-place : (span : PlainSpan) (name : IsNameAt r.old lines span) → Apart file to e (entry name.line.directive name.token) → span.start < e.token.origin.span.start → span.end ≤ e.token.origin.span.start
      by-place span name (same s) less =
          let there : e.token.origin.span ≡ span = ap (λ (x : Entry). x.token.origin.span) s ∙ name.there in
          let start = ap (λ (x : PlainSpan). x.start) there in
          absurd (omega (arith, less, start))
      by-place span name (ahead h) less =
          let own = own-in file to 0 (entries lines) e rise i in
          let some = own.own.some in
          let there = ap (λ (x : PlainSpan). x.start) name.there in
          absurd (omega (arith, h, some, there, less))
      by-place span name (behind h) less = let there = ap (λ (x : PlainSpan). x.end) name.there in omega (arith, h, there)

      one : (span : PlainSpan) → IsNameAt r.old lines span → span.start < e.token.origin.span.start → span.end ≤ e.token.origin.span.start
      one span name = by-place span name (apart file to 0 (entries lines) e (entry name.line.directive name.token) rise i (name-in span name))

  named-by : (e : Entry) → In e (entries lines) → (spans : List PlainSpan) → Names spans → list_any (same_span e.token.origin.span) spans ≡ true → IsNameOf e
  named-by e i [] n h = let f : ⊥ = cc in absurd f
  named-by e i (span ∷ spans) n h =
      by-cases (IsNameOf e) (same_span e.token.origin.span span)
      (λ t. one span n.0 (apart file to 0 (entries lines) e (entry n.0.line.directive n.0.token) rise i (name-in span n.0)) t)
      (λ f. named-by e i spans n.1 (later f))
    where
      later : same_span e.token.origin.span span ≡ false → list_any (same_span e.token.origin.span) spans ≡ true
      later f = let g : (same_span e.token.origin.span span || list_any (same_span e.token.origin.span) spans) ≡ true = h in rw f at g

      one : (span : PlainSpan) (name : IsNameAt r.old lines span) → Apart file to e (entry name.line.directive name.token) → same_span e.token.origin.span span ≡ true → IsNameOf e
      one span name (same s) t = record { span = span; name = name; is = s }
      one span name (ahead h) t =
          let start : e.token.origin.span.start ≡ span.start = (Decides-eqb e.token.origin.span.start span.start).0 (and-parts (e.token.origin.span.start == span.start) (e.token.origin.span.end == span.end) t).0 in
          let some = (own-in file to 0 (entries lines) e rise i).own.some in
          let there = ap (λ (x : PlainSpan). x.start) name.there in
          absurd (omega (arith, h, start, some, there))
      one span name (behind h) t =
          let start : e.token.origin.span.start ≡ span.start = (Decides-eqb e.token.origin.span.start span.start).0 (and-parts (e.token.origin.span.start == span.start) (e.token.origin.span.end == span.end) t).0 in
          let some = (own-in file to 0 (entries lines) (entry name.line.directive name.token) rise (name-in span name)).own.some in
          let there = ap (λ (x : PlainSpan). x.start) name.there in
          absurd (omega (arith, h, start, some, there))

  module _ (names : Names (r.spans file)) (standing : IsStanding r (AtIn r file)) (good : is_new_name r.new ≡ true) where
    name-of : (line : PlainLine) (t : PlainToken) → In line lines → In t line.tokens → is_renamed r t.origin.file t.origin.span ≡ true → IsNameOf (entry line.directive t)
    name-of line t i j h =
        let own = (own-in file to 0 (entries lines) (entry line.directive t) rise (entry-of line t lines i j)).own in
        named-by (entry line.directive t) (entry-of line t lines i j) (r.spans file) names
        (subst (λ (f : ℕ). list_any (same_span t.origin.span) (r.spans f) ≡ true) own.file_is h)

    token-of : (line : PlainLine) (t : PlainToken) → In line lines → In t line.tokens → IsToken r (AtIn r file) standing t
    token-of line t i j = record {
      stands = (own.file_is, outside-of (entry line.directive t) (entry-of line t lines i j) (r.spans file) names);
      named = λ h. old_name (name-of line t i j h);
    }
      where
        own : IsOwn file t
        own = (own-in file to 0 (entries lines) (entry line.directive t) rise (entry-of line t lines i j)).own

        old_name : IsNameOf (entry line.directive t) → IsOldName r (AtIn r file) standing t
        old_name n =
            let kind : t.kind ≡ Name = ap (λ (x : Entry). x.token.kind) n.is ∙ n.name.is_name in
            let text : t.text ≡ r.old = ap (λ (x : Entry). x.token.text) n.is ∙ n.name.text in
            let piece : piece_of r.old ≡ Some (token Name) = sym (ap piece_of text) ∙ own.is_piece ∙ ap (λ (k : TokenKind). Some (token k)) kind in
            record { kind = kind; text = text; old_is = old-ordinary r.old piece; new_is = new-ordinary r.new good; new_free = new-free r.new good }

    untouched-of : (line : PlainLine) (t : PlainToken) → In line lines → In t line.tokens → line.directive ≡ true → is_renamed r t.origin.file t.origin.span ≡ false
    untouched-of line t i j d =
        by-cases (is_renamed r t.origin.file t.origin.span ≡ false) (is_renamed r t.origin.file t.origin.span)
        (λ h. absurd (on_text (name-of line t i j h))) (λ h. h)
      where
        on_text : IsNameOf (entry line.directive t) → ⊥
        on_text n =
            let e : line.directive ≡ n.name.line.directive = ap (λ (x : Entry). x.directive) n.is in
            let f : n.name.line.directive ≡ false = n.name.text_line in
            cc

    pub lines-fit : AllByRecursion (IsLine r (AtIn r file) standing) lines
    lines-fit =
        each-of (IsLine r (AtIn r file) standing) lines
        (λ line i. record {
          tokens = each-of (IsToken r (AtIn r file) standing) line.tokens (λ t j. token-of line t i j);
          untouched = λ d. each-of (λ t. is_renamed r t.origin.file t.origin.span ≡ false) line.tokens (λ t j. untouched-of line t i j d);
        })

  pub standing-of : (spans_ascend : AreAscending (r.spans file)) → Names (r.spans file) → is_new_name r.new ≡ true → IsStanding r (AtIn r file)
  standing-of a n good = standing-in r file 0 (new-some r.new good) (chain-of (r.spans file) a n)
