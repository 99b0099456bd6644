-- The tests of occurrences ask what the preconditions say.
use Rattle.std.proofs.Common.{◌≡◌, Bool, true, false, List, [], ◌∷◌, refl, sym, ap, subst, inl, inr}
use Rattle.std.specs.Prelude.{◌⊎◌, ◌==◌, ◌||◌, codes, Contains}
use Rattle.std.specs.List.{list_any}
use Rattle.std.specs.Str.{bytes_eq}
use Rattle.std.proofs.lemmas.Bool.{and_parts, and_from, or_cases, or_left, or_right, eqb-true, eq-eqb}
use Rattle.std.proofs.lemmas.Slice.Eq.{bytes_eq-Decides}
use Rattle.text_edits.specs.Span.{plain_span}
use Rattle.c_text.specs.declared.origin.FileToken.{FileToken}
use Rattle.c_text.specs.declared.origin.Place.{Place}
use Rattle.c_text.specs.declared.origin.Place.TheVariants.{Text, MacroArgument, MacroBody}
use Rattle.c_text.specs.Token.{PlainToken}
use Rattle.c_text.specs.Preprocessing.{built_in_file}
use Rattle.renamings.specs.Renamings.{same_span}
use Rattle.program_occurrences.specs.Occurrences.{Occurrence}
use Rattle.program_occurrences.specs.Classes.{PlainFileToken, copied_by}
use Rattle.tied_tokens.specs.Tokens.{plain_file_token, plain_file_tokens}
use Rattle.tied_tokens.proofs.Members.{in_none, in_head, in_tail, in_cases}
use Rattle.tied_tokens.proofs.Order.{one_token}
use Rattle.changed_forests.specs.Renamed.{copies}
use Rattle.reference_classes.specs.Preconditions.{IsFixed, is_main, is_built_in, declared_built_in}
use Rattle.class_occurrences.specs.Occurring.{is_of_class, is_macro_body, is_fixed}
use Rattle.class_occurrences.specs.Laws.{tokens_of, TestsAreOfPreconditions}

-- ---- copies of tokens of a class

copied : (of : FileToken) (t : PlainToken) → copies of t ≡ true → plain_file_token of ≡ copied_by t
copied of t h =
    let parts = and_parts (t.origin.file == of.file) (same_span t.origin.span (plain_span of.span)) h in
    let ends = and_parts (t.origin.span.start == (plain_span of.span).start) (t.origin.span.end == (plain_span of.span).end) parts.1 in
    one_token (plain_file_token of) (copied_by t) (sym (eqb-true t.origin.file of.file parts.0)) (sym (eqb-true t.origin.span.start (plain_span of.span).start ends.0))
    (sym (eqb-true t.origin.span.end (plain_span of.span).end ends.1))

copies-it : (of : FileToken) (t : PlainToken) → plain_file_token of ≡ copied_by t → copies of t ≡ true
copies-it of t e =
    and_from (t.origin.file == of.file) (same_span t.origin.span (plain_span of.span)) (eq-eqb t.origin.file of.file (ap (λ (x : PlainFileToken). x.file) (sym e)))
    (and_from (t.origin.span.start == (plain_span of.span).start) (t.origin.span.end == (plain_span of.span).end)
    (eq-eqb t.origin.span.start (plain_span of.span).start (ap (λ (x : PlainFileToken). x.span.start) (sym e)))
    (eq-eqb t.origin.span.end (plain_span of.span).end (ap (λ (x : PlainFileToken). x.span.end) (sym e))))

module _ (t : PlainToken) where
  abbrev copies-one : List FileToken → Bool
  copies-one class = list_any (λ of. copies of t) class

  member : (class : List FileToken) → copies-one class ≡ true → Contains (plain_file_tokens class) (copied_by t)
  member [] h = absurd (let no : ◌≡◌ {A = Bool} false true = h in cc)
  member (first ∷ class) h = by (or_cases (copies first t) (copies-one class) h) (λ more. member class more)
    where
      by : (copies first t ≡ true) ⊎ (copies-one class ≡ true) → (copies-one class ≡ true → Contains (plain_file_tokens class) (copied_by t)) → Contains (plain_file_tokens (first ∷ class)) (copied_by t)
      by (inl e) others = subst (λ (x : PlainFileToken). Contains (plain_file_tokens (first ∷ class)) x) (copied first t e) (in_head (plain_file_token first) (plain_file_tokens class))
      by (inr more) others = in_tail (plain_file_token first) (plain_file_tokens class) (copied_by t) (others more)

  found : (class : List FileToken) → Contains (plain_file_tokens class) (copied_by t) → copies-one class ≡ true
  found [] h = absurd (in_none (copied_by t) h)
  found (first ∷ class) h = by (in_cases (plain_file_token first) (plain_file_tokens class) (copied_by t) h) (λ more. found class more)
    where
      by : (plain_file_token first ≡ copied_by t) ⊎ Contains (plain_file_tokens class) (copied_by t) → (Contains (plain_file_tokens class) (copied_by t) → copies-one class ≡ true) → copies-one (first ∷ class) ≡ true
      by (inl e) others = or_left (copies first t) (copies-one class) (copies-it first t e)
      by (inr more) others = or_right (copies first t) (copies-one class) (others more)

-- ---- what is tested

body-is : (p : Place) → is_macro_body p ≡ true → p ≡ MacroBody
body-is MacroBody h = refl
body-is Text h = absurd (let no : ◌≡◌ {A = Bool} false true = h in cc)
body-is MacroArgument h = absurd (let no : ◌≡◌ {A = Bool} false true = h in cc)

fixed-is : (o : Occurrence) → is_fixed (tokens_of o) ≡ true → IsFixed o
fixed-is o h = by (or_cases (bytes_eq o.identifier.token.text (codes "main")) (o.identifier.token.origin.file == built_in_file || o.declared_by.token.origin.file == built_in_file) h)
  where
    by-file : (o.identifier.token.origin.file == built_in_file ≡ true) ⊎ (o.declared_by.token.origin.file == built_in_file ≡ true) → IsFixed o
    by-file (inl e) = is_built_in (eqb-true o.identifier.token.origin.file built_in_file e)
    by-file (inr e) = declared_built_in (eqb-true o.declared_by.token.origin.file built_in_file e)

    by : (bytes_eq o.identifier.token.text (codes "main") ≡ true) ⊎ ((o.identifier.token.origin.file == built_in_file || o.declared_by.token.origin.file == built_in_file) ≡ true) → IsFixed o
    by (inl e) = is_main ((bytes_eq-Decides o.identifier.token.text (codes "main")).0 e)
    by (inr e) = by-file (or_cases (o.identifier.token.origin.file == built_in_file) (o.declared_by.token.origin.file == built_in_file) e)

is-fixed : (o : Occurrence) → IsFixed o → is_fixed (tokens_of o) ≡ true
is-fixed o (is_main e) =
    or_left (bytes_eq o.identifier.token.text (codes "main")) (o.identifier.token.origin.file == built_in_file || o.declared_by.token.origin.file == built_in_file)
    ((bytes_eq-Decides o.identifier.token.text (codes "main")).1 e)
is-fixed o (is_built_in e) =
    or_right (bytes_eq o.identifier.token.text (codes "main")) (o.identifier.token.origin.file == built_in_file || o.declared_by.token.origin.file == built_in_file)
    (or_left (o.identifier.token.origin.file == built_in_file) (o.declared_by.token.origin.file == built_in_file) (eq-eqb o.identifier.token.origin.file built_in_file e))
is-fixed o (declared_built_in e) =
    or_right (bytes_eq o.identifier.token.text (codes "main")) (o.identifier.token.origin.file == built_in_file || o.declared_by.token.origin.file == built_in_file)
    (or_right (o.identifier.token.origin.file == built_in_file) (o.declared_by.token.origin.file == built_in_file) (eq-eqb o.declared_by.token.origin.file built_in_file e))

pub tests-are : TestsAreOfPreconditions
tests-are = record {
  macro_bodies = λ class o. (
    λ h. let parts = and_parts (is_macro_body o.identifier.token.origin.place) (is_of_class class (tokens_of o)) h in
        record { member = member o.identifier.token class parts.1; holds = body-is o.identifier.token.origin.place parts.0 },
    λ h. and_from (is_macro_body o.identifier.token.origin.place) (is_of_class class (tokens_of o)) (ap is_macro_body h.holds) (found o.identifier.token class h.member),
  );
  fixed = λ class o. (
    λ h. let parts = and_parts (is_fixed (tokens_of o)) (is_of_class class (tokens_of o)) h in
        record { member = member o.identifier.token class parts.1; holds = fixed-is o parts.0 },
    λ h. and_from (is_fixed (tokens_of o)) (is_of_class class (tokens_of o)) (is-fixed o h.holds) (found o.identifier.token class h.member),
  );
}
