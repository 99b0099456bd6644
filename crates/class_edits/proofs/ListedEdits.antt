-- The edits of listed tokens, and that they have no fault.
use Rattle.std.proofs.Common.{◌≡◌, ℕ, zero, suc, ◌+◌, ◌<◌, ◌≤◌, Bool, true, false, not, cond, List, [], ◌∷◌, ◌++◌, map, length, get_or, Option, Some, None, refl, sym, ap, subst, ◌∙◌, arith}
use Rattle.std.specs.Prelude.{◌==◌, ◌&&◌, nat_lt, filter, position, slice_get}
use Rattle.std.specs.List.{AllByRecursion, list_any, prefix_len, position_or_len}
use Rattle.std.proofs.lemmas.Bool.{cond-true, cond-false, or_parts, or_from, and_left, and_right, eqb-true, eq-eqb, ne_eqb, ltb-true, ltb-false, le-ltb}
use Rattle.std.proofs.lemmas.Bool.Decides.{nat_tests}
use Rattle.std.proofs.lemmas.List.Elements.{recursion_from_All, All-from_recursion, Contains-get_or}
use Rattle.std.proofs.lemmas.Option.{none-some}
use Rattle.text_edits.specs.Span.{PlainSpan}
use Rattle.text_edits.specs.Files.{PlainFile}
use Rattle.c_text.specs.declared.origin.FileToken.{FileToken}
use Rattle.file_edits.specs.Edits.{PlainEdit, edits_of, edited, edited_files}
use Rattle.file_edits.specs.Faults.{ends_past, is_past_end, or_past_end, fault_of, spans_overlap, edits_overlap, or_overlap, overlap_behind, overlap_of}
use Rattle.file_edits.specs.Places.{AreApart}
use Rattle.renamings.specs.Renamings.{Renaming, edits_in, renamed_files, AreAscending}
use Rattle.program_occurrences.specs.Classes.{PlainFileToken}
use Rattle.tied_tokens.specs.Tokens.{plain_file_tokens}
use Rattle.class_edits.specs.Listed.{spans_in, renaming_of, StandApart, edit_of, tokens_below}
use Rattle.class_edits.proofs.Spans.{spans-all, spans-each, spans-tail, behind-first}

-- ---- the edits of each file

module _ (count number : ℕ) (new : List ℕ) where
  abbrev edit_at : PlainSpan → PlainEdit
  edit_at span = record { file = number; span = span; text = new }

  below : number < count → (tokens : List PlainFileToken) → edits_of number (map (edit_of new) (tokens_below count tokens)) ≡ map edit_at (spans_in number tokens)
  below l [] = refl
  below l (token ∷ tokens) = by (nat_lt token.file count) refl (token.file == number) refl (below l tokens)
    where
      others : List PlainEdit
      others = edits_of number (map (edit_of new) (tokens_below count tokens))

      by : (b : Bool) → nat_lt token.file count ≡ b → (s : Bool) → (token.file == number) ≡ s → others ≡ map edit_at (spans_in number tokens)
          → edits_of number (map (edit_of new) (cond b (token ∷ tokens_below count tokens) (tokens_below count tokens)))
          ≡ map edit_at (map (λ (t : PlainFileToken). t.span) (cond s (token ∷ filter (λ (t : PlainFileToken). t.file == number) tokens) (filter (λ (t : PlainFileToken). t.file == number) tokens)))
      by true e true f same =
          cond-true (token.file == number) (edit_of new token ∷ others) others f
          ∙ (ap (λ (n : ℕ). let x : PlainEdit = record { file = n; span = token.span; text = new } in x ∷ others) (eqb-true token.file number f) ∙ ap (λ (es : List PlainEdit). edit_at token.span ∷ es) same)
      by true e false f same = cond-false (token.file == number) (edit_of new token ∷ others) others f ∙ same
      by false e true f same = let past = ltb-false token.file count e in let there = eqb-true token.file number f in absurd (omega (arith, l, past, there))
      by false e false f same = same

  past : count ≤ number → (tokens : List PlainFileToken) → edits_of number (map (edit_of new) (tokens_below count tokens)) ≡ []
  past l [] = refl
  past l (token ∷ tokens) = by (nat_lt token.file count) refl (past l tokens)
    where
      others : List PlainEdit
      others = edits_of number (map (edit_of new) (tokens_below count tokens))

      by : (b : Bool) → nat_lt token.file count ≡ b → others ≡ [] → edits_of number (map (edit_of new) (cond b (token ∷ tokens_below count tokens) (tokens_below count tokens))) ≡ []
      by true e same =
          cond-false (token.file == number) (edit_of new token ∷ others) others (ne_eqb token.file number (λ f. let less = ltb-true token.file count e in omega (arith, l, less, f)))
          ∙ same
      by false e same = same

  pub edits-are : (tokens : List PlainFileToken) (old : List ℕ) → edits_of number (map (edit_of new) (tokens_below count tokens)) ≡ edits_in (renaming_of count tokens old new) number
  edits-are tokens old = by (nat_lt number count) refl
    where
      by : (b : Bool) → nat_lt number count ≡ b → edits_of number (map (edit_of new) (tokens_below count tokens)) ≡ map edit_at (cond b (spans_in number tokens) [])
      by true e = below (ltb-true number count e) tokens
      by false e = past (ltb-false number count e) tokens

-- ---- the files

pub files-are : (r : Renaming) (edits : List PlainEdit) → ((number : ℕ) → edits_of number edits ≡ edits_in r number) → (number : ℕ) (files : List PlainFile) → edited_files number edits files ≡ renamed_files r number files
files-are r edits same number [] = refl
files-are r edits same number (f ∷ files) =
    ap (λ (es : List PlainEdit). let x : PlainFile = record f { bytes = edited es f.bytes } in x ∷ edited_files (suc number) edits files) (same number)
    ∙ ap (λ (fs : List PlainFile). let x : PlainFile = record f { bytes = edited (edits_in r number) f.bytes } in x ∷ fs) (files-are r edits same (suc number) files)

-- ---- no fault

all-before : {X : Type 0} (p : X → Bool) (xs : List X) → list_any p xs ≡ false → prefix_len (λ x. not (p x)) xs ≡ length xs
all-before p [] none = refl
all-before p (x ∷ xs) none =
    let parts = or_parts (p x) (list_any p xs) none in
    let others = all-before p xs parts.1 in
    cond-true (not (p x)) (1 + prefix_len (λ y. not (p y)) xs) 0 (ap not parts.0) ∙ omega (arith, others)

nowhere : {X : Type 0} (p : X → Bool) (xs : List X) → list_any p xs ≡ false → position p xs ≡ None
nowhere p xs none =
    let n = position_or_len p xs in
    let all = all-before p xs none in
    cond-false (nat_lt n (length xs)) (Some n) None (le-ltb n (length xs) (omega (arith, all)))

any-push : {X : Type 0} (p : X → Bool) (xs : List X) (y : X) → list_any p xs ≡ false → p y ≡ false → list_any p (xs ++ y ∷ []) ≡ false
any-push p [] y none e = or_from (p y) false e refl
any-push p (x ∷ xs) y none e =
    let parts = or_parts (p x) (list_any p xs) none in or_from (p x) (list_any p (xs ++ y ∷ [])) parts.0 (any-push p xs y parts.1 e)

free-push : (before : List PlainEdit) (edit : PlainEdit) (edits : List PlainEdit) → AllByRecursion (λ other. list_any (edits_overlap other) before ≡ false) edits → AllByRecursion (λ other. edits_overlap other edit ≡ false) edits → AllByRecursion (λ other. list_any (edits_overlap other) (before ++ edit ∷ []) ≡ false) edits
free-push before edit [] free apart = tt
free-push before edit (other ∷ edits) free apart =
    (any-push (edits_overlap other) before edit free.0 apart.0, free-push before edit edits free.1 apart.1)

no-overlap : (before edits : List PlainEdit) → AllByRecursion (λ other. list_any (edits_overlap other) before ≡ false) edits → AreApart edits → overlap_behind before edits ≡ None
no-overlap before [] free apart = refl
no-overlap before (edit ∷ edits) free apart =
    ap (λ (found : Option ℕ). or_overlap found (length before) (overlap_behind (before ++ edit ∷ []) edits)) (nowhere (edits_overlap edit) before free.0)
    ∙ no-overlap (before ++ edit ∷ []) edits (free-push before edit edits free.1 (recursion_from_All (λ other. edits_overlap other edit ≡ false) edits apart.0)) apart.1

-- ---- the edits of tokens that stand apart

abbrev IsOrdered : PlainFileToken → Type 0
IsOrdered token = token.span.start ≤ token.span.end

pub all-ordered : (tokens : List FileToken) → AllByRecursion IsOrdered (plain_file_tokens tokens)
all-ordered [] = tt
all-ordered (token ∷ tokens) = (token.span.ordered, all-ordered tokens)

apart-spans : (a b : PlainSpan) → a.start ≤ a.end → b.start ≤ b.end → a.end ≤ b.start → spans_overlap b a ≡ false
apart-spans a b first second behind = grind (arith, nat_tests)

module _ (count : ℕ) (new : List ℕ) where
  apart-from-first :
      (token : PlainFileToken) (others : List PlainFileToken) → IsOrdered token → AllByRecursion IsOrdered others
      → AllByRecursion (λ other. other.file ≡ token.file → token.span.end ≤ other.span.start) others
      → AllByRecursion (λ edit. edits_overlap edit (edit_of new token) ≡ false) (map (edit_of new) (tokens_below count others))
  apart-from-first token [] ordered all behind = tt
  apart-from-first token (other ∷ others) ordered all behind = by (nat_lt other.file count) (apart-from-first token others ordered all.1 behind.1)
    where
      none : (b : Bool) → (other.file == token.file) ≡ b → (other.file == token.file && spans_overlap other.span token.span) ≡ false
      none true e =
          and_right (other.file == token.file) (spans_overlap other.span token.span)
          (apart-spans token.span other.span ordered all.0 (behind.0 (eqb-true other.file token.file e)))
      none false e = and_left (other.file == token.file) (spans_overlap other.span token.span) e

      by : (b : Bool) → AllByRecursion (λ edit. edits_overlap edit (edit_of new token) ≡ false) (map (edit_of new) (tokens_below count others))
          → AllByRecursion (λ edit. edits_overlap edit (edit_of new token) ≡ false) (map (edit_of new) (cond b (other ∷ tokens_below count others) (tokens_below count others)))
      by true later = (none (other.file == token.file) refl, later)
      by false later = later

  edits-apart :
      (tokens : List PlainFileToken) → AllByRecursion IsOrdered tokens → ((number : ℕ) → number < count → AreAscending (spans_in number tokens))
      → AreApart (map (edit_of new) (tokens_below count tokens))
  edits-apart [] ordered ascending = tt
  edits-apart (token ∷ tokens) ordered ascending =
      by (nat_lt token.file count) refl (edits-apart tokens ordered.1 (λ number l. spans-tail number token tokens (ascending number l)))
    where
      first : token.file < count → AreAscending (token.span ∷ spans_in token.file tokens)
      first l =
          subst (λ (ts : List PlainFileToken). AreAscending (map (λ (t : PlainFileToken). t.span) ts))
          (cond-true (token.file == token.file) (token ∷ filter (λ (t : PlainFileToken). t.file == token.file) tokens) (filter (λ (t : PlainFileToken). t.file == token.file) tokens) (eq-eqb token.file token.file refl))
          (ascending token.file l)

      behind : token.file < count → AllByRecursion (λ other. other.file ≡ token.file → token.span.end ≤ other.span.start) tokens
      behind l =
          spans-each (λ (span : PlainSpan). token.span.end ≤ span.start) token.file tokens
          (behind-first token.span (spans_in token.file tokens) (spans-all (λ (span : PlainSpan). span.start ≤ span.end) token.file tokens (each tokens ordered.1)) (first l))
        where
          each : (others : List PlainFileToken) → AllByRecursion IsOrdered others → AllByRecursion (λ other. other.file ≡ token.file → other.span.start ≤ other.span.end) others
          each [] all = tt
          each (other ∷ others) all = ((λ e. all.0), each others all.1)

      by : (b : Bool) → nat_lt token.file count ≡ b → AreApart (map (edit_of new) (tokens_below count tokens)) → AreApart (map (edit_of new) (cond b (token ∷ tokens_below count tokens) (tokens_below count tokens)))
      by true e later = (
        All-from_recursion (λ edit. edits_overlap edit (edit_of new token) ≡ false) (map (edit_of new) (tokens_below count tokens)) (apart-from-first token tokens ordered.0 ordered.1 (behind (ltb-true token.file count e))),
        later,
      )
      by false e later = later

-- it ends within its file
abbrev IsWithin : List PlainFile → PlainFileToken → Type 0
IsWithin files token = (f : PlainFile) → slice_get files token.file ≡ Some f → token.span.end ≤ length f.bytes

there-is : (files : List PlainFile) (n : ℕ) → n < length files → slice_get files n ≡ None → ⊥
there-is [] n l e = absurd (omega (arith, l))
there-is (f ∷ files) zero l e = none-some f (sym e)
there-is (f ∷ files) (suc n) l e = there-is files n (omega (arith, l)) e

edits-within : (files : List PlainFile) (new : List ℕ) (tokens : List PlainFileToken) → AllByRecursion (λ token. IsWithin files token) tokens → list_any (is_past_end files) (map (edit_of new) (tokens_below (length files) tokens)) ≡ false
edits-within files new [] within = refl
edits-within files new (token ∷ tokens) within = by (nat_lt token.file (length files)) refl (edits-within files new tokens within.1)
  where
    here : token.file < length files → (found : Option PlainFile) → slice_get files token.file ≡ found → ends_past token.span.end found ≡ false
    here l None e = absurd (there-is files token.file l e)
    here l (Some f) e = le-ltb (length f.bytes) token.span.end (within.0 f e)

    by : (b : Bool) → nat_lt token.file (length files) ≡ b → list_any (is_past_end files) (map (edit_of new) (tokens_below (length files) tokens)) ≡ false
        → list_any (is_past_end files) (map (edit_of new) (cond b (token ∷ tokens_below (length files) tokens) (tokens_below (length files) tokens))) ≡ false
    by true e others =
        or_from (is_past_end files (edit_of new token)) (list_any (is_past_end files) (map (edit_of new) (tokens_below (length files) tokens)))
        (here (ltb-true token.file (length files) e) (slice_get files token.file) refl) others
    by false e others = others

pub no-fault : (files : List PlainFile) (new : List ℕ) (tokens : List PlainFileToken) → AllByRecursion IsOrdered tokens → StandApart files tokens → fault_of files (map (edit_of new) (tokens_below (length files) tokens)) ≡ None
no-fault files new tokens ordered apart =
    ap (λ (found : Option ℕ). or_past_end found (overlap_of edits)) (nowhere (is_past_end files) edits (edits-within files new tokens within))
    ∙ no-overlap [] edits (none-before edits) (edits-apart (length files) new tokens ordered apart.ascending)
  where
    edits : List PlainEdit
    edits = map (edit_of new) (tokens_below (length files) tokens)

    within : AllByRecursion (λ token. IsWithin files token) tokens
    within = recursion_from_All (λ token. IsWithin files token) tokens (λ k d l f e. apart.within (get_or tokens k d) f (Contains-get_or tokens k d l) e)

    none-before : (others : List PlainEdit) → AllByRecursion (λ other. list_any (edits_overlap other) [] ≡ false) others
    none-before [] = tt
    none-before (other ∷ others) = (refl, none-before others)
