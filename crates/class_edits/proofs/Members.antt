-- Exactly the listed tokens are renamed, and where they are a class, it is the renaming of the class.
use Rattle.std.proofs.Common.{◌≡◌, ℕ, Bool, true, false, cond, List, [], ◌∷◌, map, length, refl, ap, sym, ◌∙◌, subst, inl, inr}
use Rattle.std.specs.Prelude.{◌⊎◌, ◌==◌, nat_lt, filter, Contains}
use Rattle.std.specs.List.{list_any}
use Rattle.std.proofs.lemmas.Bool.{and_parts, and_from, or_cases, or_left, or_right, eqb-true, eq-eqb, ltb-true}
use Rattle.text_edits.specs.Span.{PlainSpan}
use Rattle.renamings.specs.Renamings.{same_span, AreAscending}
use Rattle.program_occurrences.specs.Classes.{PlainFileToken}
use Rattle.tied_tokens.proofs.Members.{in_none, in_head, in_tail, in_cases}
use Rattle.tied_tokens.proofs.Order.{one_token}
use Rattle.class_edits.specs.Listed.{spans_in}
use Rattle.class_edits.specs.Laws.{ListedAreRenamed, ListedClassesAreRenamed}
use Rattle.class_edits.proofs.Spans.{spans-below, spans-elsewhere}

module _ (token : PlainFileToken) where
  abbrev any-in : List PlainSpan → Bool
  any-in spans = list_any (same_span token.span) spans

  found : (tokens : List PlainFileToken) → any-in (spans_in token.file tokens) ≡ true → Contains tokens token
  found [] h = absurd (let no : ◌≡◌ {A = Bool} false true = h in cc)
  found (first ∷ tokens) h = by (first.file == token.file) refl h (λ others. found tokens others)
    where
      is-first : first.file ≡ token.file → same_span token.span first.span ≡ true → first ≡ token
      is-first e s =
          let parts = and_parts (token.span.start == first.span.start) (token.span.end == first.span.end) s in
          one_token first token e (sym (eqb-true token.span.start first.span.start parts.0)) (sym (eqb-true token.span.end first.span.end parts.1))

      here : first.file ≡ token.file → (same_span token.span first.span ≡ true) ⊎ (any-in (spans_in token.file tokens) ≡ true) → (any-in (spans_in token.file tokens) ≡ true → Contains tokens token) → Contains (first ∷ tokens) token
      here e (inl s) others = subst (λ (t : PlainFileToken). Contains (first ∷ tokens) t) (is-first e s) (in_head first tokens)
      here e (inr a) others = in_tail first tokens token (others a)

      by : (b : Bool) → (first.file == token.file) ≡ b → any-in (map (λ (t : PlainFileToken). t.span) (cond b (first ∷ filter (λ (t : PlainFileToken). t.file == token.file) tokens) (filter (λ (t : PlainFileToken). t.file == token.file) tokens))) ≡ true → (any-in (spans_in token.file tokens) ≡ true → Contains tokens token) → Contains (first ∷ tokens) token
      by true e h others = here (eqb-true first.file token.file e) (or_cases (same_span token.span first.span) (any-in (spans_in token.file tokens)) h) others
      by false e h others = in_tail first tokens token (others h)

  listed : (tokens : List PlainFileToken) → Contains tokens token → any-in (spans_in token.file tokens) ≡ true
  listed [] h = absurd (in_none token h)
  listed (first ∷ tokens) h = by (first.file == token.file) refl (in_cases first tokens token h) (λ others. listed tokens others)
    where
      same : first ≡ token → same_span token.span first.span ≡ true
      same e =
          and_from (token.span.start == first.span.start) (token.span.end == first.span.end) (eq-eqb token.span.start first.span.start (ap (λ (t : PlainFileToken). t.span.start) (sym e)))
          (eq-eqb token.span.end first.span.end (ap (λ (t : PlainFileToken). t.span.end) (sym e)))

      by : (b : Bool) → (first.file == token.file) ≡ b → (first ≡ token) ⊎ Contains tokens token → (Contains tokens token → any-in (spans_in token.file tokens) ≡ true)
          → any-in (map (λ (t : PlainFileToken). t.span) (cond b (first ∷ filter (λ (t : PlainFileToken). t.file == token.file) tokens) (filter (λ (t : PlainFileToken). t.file == token.file) tokens))) ≡ true
      by true e (inl i) others = or_left (same_span token.span first.span) (any-in (spans_in token.file tokens)) (same i)
      by true e (inr h) others = or_right (same_span token.span first.span) (any-in (spans_in token.file tokens)) (others h)
      by false e (inl i) others = absurd (let no : false ≡ true = sym e ∙ eq-eqb first.file token.file (ap (λ (t : PlainFileToken). t.file) i) in cc)
      by false e (inr h) others = others h

pub are-renamed : ListedAreRenamed
are-renamed count tokens old new token below =
    let spans = spans-below count tokens old new token.file below in (
      λ h. found token tokens (ap (λ (ss : List PlainSpan). list_any (same_span token.span) ss) (sym spans) ∙ h),
      λ h. ap (λ (ss : List PlainSpan). list_any (same_span token.span) ss) spans ∙ listed token tokens h,
    )

pub class-renamed : ListedAreRenamed → ListedClassesAreRenamed
class-renamed renames project files place tokens old new apart members written = record {
  old_name = written;
  new_name = refl;
  members = λ token below.
      let listed = renames (length files) tokens old new token below in
      let class = members token below in (λ h. class.0 (listed.0 h), λ h. listed.1 (class.1 h));
  ascending = λ number. ascending number (nat_lt number (length files)) refl;
  elsewhere = λ number past. spans-elsewhere (length files) tokens old new number past;
}
  where
    ascending : (number : ℕ) (b : Bool) → nat_lt number (length files) ≡ b → AreAscending (cond b (spans_in number tokens) [])
    ascending number true e = apart.ascending number (ltb-true number (length files) e)
    ascending number false e = tt
