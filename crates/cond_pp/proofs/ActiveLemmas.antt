-- Active tokens, however the files are read.
use Rattle.std.proofs.Common.{◌≡◌, ◌⊎◌, ◌==◌, ℕ, zero, suc, Bool, true, false, ◌&&◌, List, [], ◌∷◌, All, IsTrue, Option, refl, ap, sym, ◌∙◌, subst, inl, inr, arith}
use Rattle.std.specs.Prelude.{◌↔◌, Any}
use Rattle.std.specs.Bool.{Decides}
use Rattle.std.proofs.lemmas.Bool.Decides.{Decides-eqb, Decides-and, not_from_Decides}
use Rattle.std.proofs.lemmas.List.Elements.{All-nil, All-cons, All-head, All-tail}
use Rattle.text_edits.specs.Span.{PlainSpan, plain_span}
use Rattle.c_text.specs.declared.origin.FileToken.{FileToken}
use Rattle.c_text.specs.Token.{PlainToken}
use Rattle.c_text.specs.Preprocessing.{Source, Sources, Syntax, IsSyntaxOf, feature_token}
use Rattle.active_tokens.specs.Reads.{Read}
use Rattle.active_tokens.specs.Active.{AreMisplaced, InAllReads, IsReadAt, HasActiveOrigin, TokensComeFromActive, reads_of_unit}
use Rattle.plain_pp.specs.Laws.{ProjectsHaveSyntax}
use Rattle.read_walks.specs.SourceReads.{HasMisplaced}
use Rattle.read_walks.specs.Laws.{FilesHaveMisplaced, TestIsExact}
use Rattle.read_walks.specs.Tests.{IsDefinedIn, is_read_at}
use Rattle.unit_outcomes.specs.Laws.{HasFiles, ReadsAreOne}
use Rattle.cond_pp.specs.Laws.{ComesFromActive, StreamsComeFromActive}

-- what is found of tokens is whether one of them is read
pub found-is : ProjectsHaveSyntax → FilesHaveMisplaced → ReadsAreOne → TestIsExact → (s : Sources) (number : ℕ) → HasFiles s number → (places : List FileToken) (name : Option (List ℕ)) (found : Bool) → ((x : Syntax) (are : IsSyntaxOf s x) (misplaced : Source → List PlainToken) → AreMisplaced are misplaced → found ≡ is_read_at places name (reads_of_unit s x misplaced number)) → IsTrue found ↔ Any (λ at. InAllReads s number (λ reads. IsReadAt reads at.file (plain_span at.span) (IsDefinedIn name))) places
found-is have_syntax have_misplaced one exact s number has places name found is = (to, back)
  where
    x : Syntax
    x = (have_syntax s).0

    are : IsSyntaxOf s x
    are = (have_syntax s).1

    m : HasMisplaced are
    m = have_misplaced s x are

    reads : List Read
    reads = reads_of_unit s x m.misplaced number

    to : IsTrue found → Any (λ at. InAllReads s number (λ all. IsReadAt all at.file (plain_span at.span) (IsDefinedIn name))) places
    to h =
        let a = (exact places name reads).0 (sym (is x are m.misplaced m.are_misplaced) ∙ h) in (
          a.0,
          a.1,
          a.2,
          a.3,
          λ y is_syntax misplaced told.
              subst (λ (all : List Read). IsReadAt all a.1.file (plain_span a.1.span) (IsDefinedIn name)) (one s number has x y are is_syntax m.misplaced misplaced m.are_misplaced told) a.4,
        )

    back : Any (λ at. InAllReads s number (λ all. IsReadAt all at.file (plain_span at.span) (IsDefinedIn name))) places → IsTrue found
    back (place, at, inside, at_is, all) =
        is x are m.misplaced m.are_misplaced
        ∙ (exact places name reads).1 (place, at, inside, at_is, all x are m.misplaced m.are_misplaced)

-- one of a single element
pub any-of-one : {X : Type 0} (P : X → Type 0) (xs : List X) (x : X) → xs ≡ x ∷ [] → Any P xs ↔ P x
any-of-one {X} P xs x e = (
  λ any. only (subst (λ (ys : List X). Any P ys) e any),
  λ p. subst (λ (ys : List X). Any P ys) (sym e) (0, x, omega arith, refl, p),
)
  where
    only : Any P (x ∷ []) → P x
    only (zero, y, inside, same, p) = subst P (sym same) p
    only (suc k, y, inside, same, p) = absurd (omega (arith, inside))

-- ---- the tokens of a stream

abbrev IsOfFeature : PlainToken → Type 0
IsOfFeature token =
    (token.origin.file ≡ feature_token.origin.file) × (token.origin.span ≡ feature_token.origin.span)

span-is : (a b : PlainSpan) → a.start ≡ b.start → a.end ≡ b.end → a ≡ b
span-is a b h k =
    ap (λ (n : ℕ). let x : PlainSpan = record { start = n; end = a.end } in x) h
    ∙ ap (λ (n : ℕ). let x : PlainSpan = record { start = b.start; end = n } in x) k

by-test : {P : Type 0} (r : Bool) → Decides r P → P ⊎ (¬ P)
by-test true d = inl (d.0 refl)
by-test false d = inr (not_from_Decides false d refl)

is-of-feature : (token : PlainToken) → IsOfFeature token ⊎ (¬ (IsOfFeature token))
is-of-feature token =
    let at = token.origin in
    let f = feature_token.origin in
    let same = ((at.file == f.file) && (at.span.start == f.span.start)) && (at.span.end == f.span.end) in
    let d = Decides-and ((at.file == f.file) && (at.span.start == f.span.start)) (at.span.end == f.span.end) (Decides-and (at.file == f.file) (at.span.start == f.span.start) (Decides-eqb at.file f.file) (Decides-eqb at.span.start f.span.start)) (Decides-eqb at.span.end f.span.end) in
    by-test same (λ e. let p = d.0 e in (p.0.0, span-is at.span f.span p.0.1 p.1), λ p. d.1 ((p.0, ap (λ (x : PlainSpan). x.start) p.1), ap (λ (x : PlainSpan). x.end) p.1))

comes-from : (s : Sources) (number : ℕ) (token : PlainToken) → ((x : Syntax) (are : IsSyntaxOf s x) (misplaced : Source → List PlainToken) → AreMisplaced are misplaced → HasActiveOrigin (reads_of_unit s x misplaced number) token) → ComesFromActive s number token
comes-from s number token has = by_origin (is-of-feature token)
  where
    by_origin : (IsOfFeature token ⊎ (¬ (IsOfFeature token))) → ComesFromActive s number token
    by_origin (inl is) = inl is
    by_origin (inr not) =
        inr (λ x are misplaced are_misplaced. elim (has x are misplaced are_misplaced) [ inl is ↦ absurd (not is) | inr read ↦ read ])

all-come : (s : Sources) (number : ℕ) (tokens : List PlainToken) → ((x : Syntax) (are : IsSyntaxOf s x) (misplaced : Source → List PlainToken) → AreMisplaced are misplaced → All (HasActiveOrigin (reads_of_unit s x misplaced number)) tokens) → All (ComesFromActive s number) tokens
all-come s number [] have = All-nil (ComesFromActive s number)
all-come s number (token ∷ tokens) have =
    All-cons (ComesFromActive s number) token tokens
    (comes-from s number token (λ x are misplaced am. All-head (HasActiveOrigin (reads_of_unit s x misplaced number)) token tokens (have x are misplaced am)))
    (all-come s number tokens (λ x are misplaced am. All-tail (HasActiveOrigin (reads_of_unit s x misplaced number)) token tokens (have x are misplaced am)))

pub streams-come : TokensComeFromActive → StreamsComeFromActive
streams-come come on s number stream is fine =
    all-come s number _ (λ x are misplaced am. come s x misplaced number _ (is.tokens fine x are))
