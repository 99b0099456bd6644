-- Tokens of the texts of files stand apart, and those of one file in the order of its text.
use Rattle.std.proofs.Common.{◌≡◌, ℕ, ◌<◌, ◌≤◌, Bool, true, false, cond, List, [], ◌∷◌, map, length, refl, ap, sym, ◌∙◌, subst, arith}
use Rattle.std.specs.Prelude.{◌==◌, filter, slice_get, Contains, IsTrue}
use Rattle.std.specs.List.{AllByRecursion}
use Rattle.std.proofs.lemmas.Bool.{eqb-true}
use Rattle.std.proofs.lemmas.Bool.Decides.{nat_tests}
use Rattle.std.proofs.lemmas.Option.{same_Some, slice_get_within}
use Rattle.text_edits.specs.Span.{PlainSpan}
use Rattle.text_edits.specs.Files.{PlainFile}
use Rattle.c_text.specs.Lines.{PlainLine, AreItsLines}
use Rattle.c_lexer.specs.Laws.{LinesAreOne}
use Rattle.renamings.specs.Renamings.{AreAscending}
use Rattle.renamed_units.proofs.Tokens.{In, in-of, Entry, entry, entries, entry-of, entries-rise, own-in, Apart, same, ahead, behind, apart}
use Rattle.program_occurrences.specs.Classes.{PlainFileToken}
use Rattle.tied_tokens.specs.Tokens.{stands_before, AreInOrder}
use Rattle.tied_tokens.proofs.Members.{in_head, in_tail}
use Rattle.tied_tokens.proofs.Order.{one_token}
use Rattle.class_edits.specs.Listed.{spans_in}
use Rattle.class_edits.specs.Places.{IsTokenOf, HoldsByte}
use Rattle.class_edits.specs.Laws.{ListedStandApart, BytesTellTokens}
use Rattle.class_edits.proofs.Spans.{spans-all}

-- ---- one token

module _ (files : List PlainFile) (token : PlainFileToken) (is : IsTokenOf files token) where
  abbrev lines : List PlainLine
  lines = is.written.lines

  its-entry : Entry
  its-entry = entry is.written.line.directive is.written.there

  pub record IsThere : Type 0 where
    pub some : token.span.start < token.span.end
    pub within : token.span.end ≤ length is.written.file.bytes

  pub is-there : IsThere
  is-there =
      let w = is.written in
      let i : In (entry w.line.directive w.there) (entries w.lines) = entry-of w.line w.there w.lines (in-of w.line w.lines w.among) (in-of w.there w.line.tokens w.within) in
      let own = own-in token.file (length w.file.bytes) 0 (entries w.lines) (entry w.line.directive w.there) (entries-rise token.file w.file.bytes w.lines w.are_lines) i in
      record {
        some = subst (λ (s : PlainSpan). s.start < s.end) w.span_is own.own.some;
        within = subst (λ (s : PlainSpan). s.end ≤ length w.file.bytes) w.span_is own.below;
      }

-- ---- two tokens of a file

pub data Pair (a b : PlainSpan) : Type 0 where
  one : a ≡ b → Pair a b
  before : a.end ≤ b.start → Pair a b
  after : b.end ≤ a.start → Pair a b

module _ (lines_are_one : LinesAreOne) (files : List PlainFile) where
  pub pair : (a b : PlainFileToken) → IsTokenOf files a → IsTokenOf files b → a.file ≡ b.file → Pair a.span b.span
  pair a b x y e =
      let v = x.written in
      let w = y.written in
      let file_is : w.file ≡ v.file = same_Some w.file v.file (sym w.is_file ∙ (ap (slice_get files) (sym e) ∙ v.is_file)) in
      let are : AreItsLines a.file v.file.bytes w.lines =
      subst (λ (f : PlainFile). AreItsLines a.file f.bytes w.lines) file_is (subst (λ (n : ℕ). AreItsLines n w.file.bytes w.lines) (sym e) w.are_lines) in
      let lines : w.lines ≡ v.lines = lines_are_one a.file v.file.bytes w.lines v.lines are v.are_lines in
      let i : In (entry v.line.directive v.there) (entries v.lines) = entry-of v.line v.there v.lines (in-of v.line v.lines v.among) (in-of v.there v.line.tokens v.within) in
      let j : In (entry w.line.directive w.there) (entries v.lines) =
      subst (λ (ls : List PlainLine). In (entry w.line.directive w.there) (entries ls)) lines (entry-of w.line w.there w.lines (in-of w.line w.lines w.among) (in-of w.there w.line.tokens w.within)) in
      by (apart a.file (length v.file.bytes) 0 (entries v.lines) (entry v.line.directive v.there) (entry w.line.directive w.there) (entries-rise a.file v.file.bytes v.lines v.are_lines) i j)
    where
      by : Apart a.file (length x.written.file.bytes) (entry x.written.line.directive x.written.there) (entry y.written.line.directive y.written.there) → Pair a.span b.span
      by (same is) = one (sym x.written.span_is ∙ (ap (λ (e : Entry). e.token.origin.span) is ∙ y.written.span_is))
      by (ahead is) =
          before (subst (λ (s : PlainSpan). s.end ≤ b.span.start) x.written.span_is (subst (λ (s : PlainSpan). x.written.there.origin.span.end ≤ s.start) y.written.span_is is))
      by (behind is) =
          after (subst (λ (s : PlainSpan). s.end ≤ a.span.start) y.written.span_is (subst (λ (s : PlainSpan). y.written.there.origin.span.end ≤ s.start) x.written.span_is is))

  -- one token at most holds a byte
  pub one-byte : (number at : ℕ) (a b : PlainFileToken) → HoldsByte files number at a → HoldsByte files number at b → a ≡ b
  one-byte number at a b x y = by (pair a b x.is_token y.is_token (x.file_is ∙ sym y.file_is))
    where
      by : Pair a.span b.span → a ≡ b
      by (one e) = one_token a b (x.file_is ∙ sym y.file_is) (ap (λ (s : PlainSpan). s.start) e) (ap (λ (s : PlainSpan). s.end) e)
      by (before l) = absurd (omega (arith, l, x.to, y.from))
      by (after l) = absurd (omega (arith, l, y.to, x.from))

  -- ---- tokens in order

  goes-ahead : (a b : PlainFileToken) → IsTokenOf files a → IsTokenOf files b → a.file ≡ b.file → IsTrue (stands_before a b) → a.span.end ≤ b.span.start
  goes-ahead a b x y e order = by (pair a b x y e) (is-there files a x).some (is-there files b y).some
    where
      by : Pair a.span b.span → a.span.start < a.span.end → b.span.start < b.span.end → a.span.end ≤ b.span.start
      by (before l) s t = l
      by (one i) s t =
          let start : a.span.start ≡ b.span.start = ap (λ (x : PlainSpan). x.start) i in
          let end : a.span.end ≡ b.span.end = ap (λ (x : PlainSpan). x.end) i in absurd (grind (arith, nat_tests))
      by (after l) s t = absurd (grind (arith, nat_tests))

pub before-trans : (a b c : PlainFileToken) → IsTrue (stands_before a b) → IsTrue (stands_before b c) → IsTrue (stands_before a c)
before-trans a b c first second = grind (arith, nat_tests)

pub before-all : (token : PlainFileToken) (tokens : List PlainFileToken) → AreInOrder (token ∷ tokens) → AllByRecursion (λ other. IsTrue (stands_before token other)) tokens
before-all token [] ordered = tt
before-all token (second ∷ tokens) ordered = (ordered.0, later tokens (before-all second tokens ordered.1))
  where
    later : (others : List PlainFileToken) → AllByRecursion (λ other. IsTrue (stands_before second other)) others → AllByRecursion (λ other. IsTrue (stands_before token other)) others
    later [] all = tt
    later (other ∷ others) all = (before-trans token second other ordered.0 all.0, later others all.1)

pub order-tail : (token : PlainFileToken) (tokens : List PlainFileToken) → AreInOrder (token ∷ tokens) → AreInOrder tokens
order-tail token [] ordered = tt
order-tail token (second ∷ tokens) ordered = ordered.1

ascending-first : (first : PlainSpan) (spans : List PlainSpan) → AllByRecursion (λ span. first.end ≤ span.start) spans → AreAscending spans → AreAscending (first ∷ spans)
ascending-first first [] all ascending = tt
ascending-first first (second ∷ spans) all ascending = (all.0, ascending)

module _ (lines_are_one : LinesAreOne) (files : List PlainFile) where
  -- those that stand in the files are tokens there
  AreTokens : List PlainFileToken → Type 0
  AreTokens tokens = (token : PlainFileToken) → token.file < length files → Contains tokens token → IsTokenOf files token

  ascending :
      (number : ℕ) → number < length files → (tokens : List PlainFileToken) → AreInOrder tokens
      → ((token : PlainFileToken) → token.file < length files → Contains tokens token → IsTokenOf files token) → AreAscending (spans_in number tokens)
  ascending number l [] ordered are = tt
  ascending number l (token ∷ tokens) ordered are =
      by (token.file == number) refl (ascending number l tokens (order-tail token tokens ordered) (λ other below c. are other below (in_tail token tokens other c)))
    where
      each :
          token.file ≡ number → (others : List PlainFileToken) → AllByRecursion (λ other. IsTrue (stands_before token other)) others
          → ((other : PlainFileToken) → other.file < length files → Contains others other → IsTokenOf files other)
          → AllByRecursion (λ other. other.file ≡ number → token.span.end ≤ other.span.start) others
      each e [] order them = tt
      each e (other ∷ others) order them = (
        λ f. goes-ahead lines_are_one files token other (are token (omega (arith, e, l)) (in_head token tokens)) (them other (omega (arith, f, l)) (in_head other others)) (e ∙ sym f) order.0,
        each e others order.1 (λ another below c. them another below (in_tail other others another c)),
      )

      by : (b : Bool) → (token.file == number) ≡ b → AreAscending (spans_in number tokens) → AreAscending (map (λ (t : PlainFileToken). t.span) (cond b (token ∷ filter (λ (t : PlainFileToken). t.file == number) tokens) (filter (λ (t : PlainFileToken). t.file == number) tokens)))
      by true e later =
          ascending-first token.span (spans_in number tokens)
          (spans-all (λ (span : PlainSpan). token.span.end ≤ span.start) number tokens
          (each (eqb-true token.file number e) tokens (before-all token tokens ordered) (λ other below c. are other below (in_tail token tokens other c)))) later
      by false e later = later

pub stand-apart : LinesAreOne → ListedStandApart
stand-apart lines_are_one files tokens ordered are = record {
  ascending = λ number l. ascending lines_are_one files number l tokens ordered are;
  within = λ token f among e.
      let is = are token (slice_get_within files token.file f e) among in
      subst (λ (g : PlainFile). token.span.end ≤ length g.bytes) (same_Some is.written.file f (sym is.written.is_file ∙ e)) (is-there files token is).within;
}

pub bytes-tell : LinesAreOne → BytesTellTokens
bytes-tell lines_are_one files number at a b x y = one-byte lines_are_one files number at a b x y
