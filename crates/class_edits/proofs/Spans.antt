-- The spans of the tokens of one file, and the tokens of the first files.
use Rattle.std.proofs.Common.{◌≡◌, ℕ, ◌+◌, ◌<◌, ◌≤◌, Bool, true, false, cond, List, [], ◌∷◌, ◌++◌, map, length, get_or, take, refl, sym, ap, ◌∙◌, arith}
use Rattle.std.specs.Prelude.{◌==◌, nat_lt, filter}
use Rattle.std.specs.List.{AllByRecursion}
use Rattle.std.proofs.lemmas.Bool.{cond-true, cond-false, lt-ltb, le-ltb, eqb-true, eq-eqb, both_ways}
use Rattle.std.proofs.lemmas.List.{take_more, map-append, append-nil}
use Rattle.std.proofs.lemmas.List.Elements.{filter-append}
use Rattle.text_edits.specs.Span.{PlainSpan}
use Rattle.c_text.specs.declared.origin.FileToken.{FileToken}
use Rattle.renamings.specs.Renamings.{AreAscending}
use Rattle.program_occurrences.specs.Classes.{PlainFileToken}
use Rattle.tied_tokens.specs.Tokens.{plain_file_token, plain_file_tokens}
use Rattle.class_edits.specs.Listed.{spans_in, renaming_of}

-- ---- one token more

module _ {X : Type 0} (p : X → Bool) (xs : List X) (x : X) where
  pub kept-more : p x ≡ true → filter p (xs ++ x ∷ []) ≡ filter p xs ++ x ∷ []
  kept-more e = filter-append p xs (x ∷ []) ∙ ap (λ ys. filter p xs ++ ys) (cond-true (p x) (x ∷ []) [] e)

  pub left-out : p x ≡ false → filter p (xs ++ x ∷ []) ≡ filter p xs
  left-out e = filter-append p xs (x ∷ []) ∙ (ap (λ ys. filter p xs ++ ys) (cond-false (p x) (x ∷ []) [] e) ∙ append-nil (filter p xs))

pub tokens-more : (tokens : List FileToken) (i : ℕ) (token : FileToken) → i < length tokens → token ≡ get_or tokens i token → plain_file_tokens (take (i + 1) tokens) ≡ plain_file_tokens (take i tokens) ++ plain_file_token token ∷ []
tokens-more tokens i token inside is =
    ap plain_file_tokens (take_more tokens i token inside ∙ ap (λ (t : FileToken). take i tokens ++ t ∷ []) (sym is))
    ∙ map-append plain_file_token (take i tokens) (token ∷ [])

-- ---- the spans of a renaming

module _ (count : ℕ) (tokens : List PlainFileToken) (old new : List ℕ) (number : ℕ) where
  pub spans-below : number < count → (renaming_of count tokens old new).spans number ≡ spans_in number tokens
  spans-below l = cond-true (nat_lt number count) (spans_in number tokens) [] (lt-ltb number count l)

  pub spans-elsewhere : count ≤ number → (renaming_of count tokens old new).spans number ≡ []
  spans-elsewhere l = cond-false (nat_lt number count) (spans_in number tokens) [] (le-ltb number count l)

-- ---- what holds of the spans of a file

module _ (P : PlainSpan → Type 0) (number : ℕ) where
  pub spans-all : (tokens : List PlainFileToken) → AllByRecursion (λ token. token.file ≡ number → P token.span) tokens → AllByRecursion P (spans_in number tokens)
  spans-all [] all = tt
  spans-all (token ∷ tokens) all = by (token.file == number) refl (spans-all tokens all.1)
    where
      by : (b : Bool) → (token.file == number) ≡ b → AllByRecursion P (spans_in number tokens) → AllByRecursion P (map (λ (t : PlainFileToken). t.span) (cond b (token ∷ filter (λ (t : PlainFileToken). t.file == number) tokens) (filter (λ (t : PlainFileToken). t.file == number) tokens)))
      by true e others = (all.0 (eqb-true token.file number e), others)
      by false e others = others

  pub spans-each : (tokens : List PlainFileToken) → AllByRecursion P (spans_in number tokens) → AllByRecursion (λ token. token.file ≡ number → P token.span) tokens
  spans-each [] all = tt
  spans-each (token ∷ tokens) all = by (token.file == number) refl all (λ others. spans-each tokens others)
    where
      by : (b : Bool) → (token.file == number) ≡ b → AllByRecursion P (map (λ (t : PlainFileToken). t.span) (cond b (token ∷ filter (λ (t : PlainFileToken). t.file == number) tokens) (filter (λ (t : PlainFileToken). t.file == number) tokens))) → (AllByRecursion P (spans_in number tokens) → AllByRecursion (λ t. t.file ≡ number → P t.span) tokens) → AllByRecursion (λ t. t.file ≡ number → P t.span) (token ∷ tokens)
      by true e all rest = ((λ f. all.0), rest all.1)
      by false e all rest = ((λ f. absurd (both_ways (token.file == number) e (eq-eqb token.file number f))), rest all)

-- ---- spans that ascend

pub ascending-tail : (first : PlainSpan) (spans : List PlainSpan) → AreAscending (first ∷ spans) → AreAscending spans
ascending-tail first [] ascending = tt
ascending-tail first (second ∷ spans) ascending = ascending.1

pub spans-tail : (number : ℕ) (token : PlainFileToken) (tokens : List PlainFileToken) → AreAscending (spans_in number (token ∷ tokens)) → AreAscending (spans_in number tokens)
spans-tail number token tokens ascending = by (token.file == number) ascending
  where
    by : (b : Bool) → AreAscending (map (λ (t : PlainFileToken). t.span) (cond b (token ∷ filter (λ (t : PlainFileToken). t.file == number) tokens) (filter (λ (t : PlainFileToken). t.file == number) tokens))) → AreAscending (spans_in number tokens)
    by true ascending = ascending-tail token.span (spans_in number tokens) ascending
    by false ascending = ascending

-- each span behind the first begins where that one ends, or later
pub behind-first : (first : PlainSpan) (spans : List PlainSpan) → AllByRecursion (λ span. span.start ≤ span.end) spans → AreAscending (first ∷ spans) → AllByRecursion (λ span. first.end ≤ span.start) spans
behind-first first [] ordered ascending = tt
behind-first first (second ∷ spans) ordered ascending = (ascending.0, later spans (behind-first second spans ordered.1 ascending.1))
  where
    later : (others : List PlainSpan) → AllByRecursion (λ span. second.end ≤ span.start) others → AllByRecursion (λ span. first.end ≤ span.start) others
    later [] all = tt
    later (span ∷ others) all = (omega (arith, all.0, ascending.0, ordered.0), later others all.1)
