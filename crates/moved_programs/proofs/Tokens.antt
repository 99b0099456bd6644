-- A test of tokens for equality, and of places.
use Rattle.std.proofs.Common.{◌≡◌, ℕ, Bool, true, false, List, refl, ap, ◌∙◌}
use Rattle.std.specs.Prelude.{◌==◌, ◌&&◌}
use Rattle.std.specs.Str.{bytes_eq}
use Rattle.std.specs.Cmp.{booleans_Decides}
use Rattle.std.proofs.Math.Bool.{beq}
use Rattle.std.proofs.lemmas.Bool.{false≢true, and_parts, eq-eqb, eqb-true}
use Rattle.std.proofs.lemmas.Slice.Eq.{bytes_eq-Decides}
use Rattle.text_edits.specs.Span.{PlainSpan}
use Rattle.c_text.specs.Token.{PlainToken, PlainOrigin}
use Rattle.c_text.specs.declared.origin.Place.{Place}
use Rattle.c_text.specs.declared.origin.Place.TheVariants as place
use Rattle.c_text.specs.declared.token.BadKind.{BadKind}
use Rattle.c_text.specs.declared.token.BadKind.TheVariants as bad
use Rattle.c_text.specs.declared.token.TokenKind.{TokenKind}
use Rattle.c_text.specs.declared.token.TokenKind.TheVariants as kind
use Rattle.core_meaning.specs.Constancy.{same_span, same_place}

pub both : (x y : Bool) → x ≡ true → y ≡ true → (x && y) ≡ true
both true y e f = f
both false y e f = e

-- ---- kinds and places of macros

abbrev same_bad : BadKind → BadKind → Bool
same_bad bad.BadByte bad.BadByte = true
same_bad bad.OpenComment bad.OpenComment = true
same_bad bad.OpenQuote bad.OpenQuote = true
same_bad bad.OutOfProfile bad.OutOfProfile = true
same_bad a b = false

bad_is : (a b : BadKind) → same_bad a b ≡ true → a ≡ b
bad_is bad.BadByte bad.BadByte e = refl
bad_is bad.OpenComment bad.OpenComment e = refl
bad_is bad.OpenQuote bad.OpenQuote e = refl
bad_is bad.OutOfProfile bad.OutOfProfile e = refl
bad_is _ _ e = absurd (false≢true e)

bad_itself : (a : BadKind) → same_bad a a ≡ true
bad_itself bad.BadByte = refl
bad_itself bad.OpenComment = refl
bad_itself bad.OpenQuote = refl
bad_itself bad.OutOfProfile = refl

abbrev same_kind : TokenKind → TokenKind → Bool
same_kind kind.Name kind.Name = true
same_kind kind.Keyword kind.Keyword = true
same_kind kind.Number kind.Number = true
same_kind kind.Character kind.Character = true
same_kind kind.Text kind.Text = true
same_kind kind.Punctuator kind.Punctuator = true
same_kind (kind.Bad a) (kind.Bad b) = same_bad a b
same_kind a b = false

kind_is : (a b : TokenKind) → same_kind a b ≡ true → a ≡ b
kind_is kind.Name kind.Name e = refl
kind_is kind.Keyword kind.Keyword e = refl
kind_is kind.Number kind.Number e = refl
kind_is kind.Character kind.Character e = refl
kind_is kind.Text kind.Text e = refl
kind_is kind.Punctuator kind.Punctuator e = refl
kind_is (kind.Bad a) (kind.Bad b) e = ap kind.Bad (bad_is a b e)
kind_is _ _ e = absurd (false≢true e)

kind_itself : (a : TokenKind) → same_kind a a ≡ true
kind_itself kind.Name = refl
kind_itself kind.Keyword = refl
kind_itself kind.Number = refl
kind_itself kind.Character = refl
kind_itself kind.Text = refl
kind_itself kind.Punctuator = refl
kind_itself (kind.Bad a) = bad_itself a

abbrev same_where : Place → Place → Bool
same_where place.Text place.Text = true
same_where place.MacroArgument place.MacroArgument = true
same_where place.MacroBody place.MacroBody = true
same_where a b = false

where_is : (a b : Place) → same_where a b ≡ true → a ≡ b
where_is place.Text place.Text e = refl
where_is place.MacroArgument place.MacroArgument e = refl
where_is place.MacroBody place.MacroBody e = refl
where_is _ _ e = absurd (false≢true e)

where_itself : (a : Place) → same_where a a ≡ true
where_itself place.Text = refl
where_itself place.MacroArgument = refl
where_itself place.MacroBody = refl

-- ---- spans and origins

pub span_is : (a b : PlainSpan) → same_span a b ≡ true → a ≡ b
span_is a b e =
    let parts = and_parts (a.start == b.start) (a.end == b.end) e in
    ap (λ n. let s : PlainSpan = record { start = n; end = a.end } in s) (eqb-true a.start b.start parts.0)
    ∙ ap (λ n. let s : PlainSpan = record { start = b.start; end = n } in s) (eqb-true a.end b.end parts.1)

pub span_itself : (a : PlainSpan) → same_span a a ≡ true
span_itself a = both (a.start == a.start) (a.end == a.end) (eq-eqb a.start a.start refl) (eq-eqb a.end a.end refl)

abbrev same_site : PlainOrigin → PlainOrigin → Bool
same_site a b = same_where a.place b.place && (same_span a.site b.site && a.site_file == b.site_file)

abbrev same_origin : PlainOrigin → PlainOrigin → Bool
same_origin a b = a.file == b.file && (same_span a.span b.span && same_site a b)

origin_is : (a b : PlainOrigin) → same_origin a b ≡ true → a ≡ b
origin_is a b e =
    let first = and_parts (a.file == b.file) (same_span a.span b.span && same_site a b) e in
    let second = and_parts (same_span a.span b.span) (same_site a b) first.1 in
    let third = and_parts (same_where a.place b.place) (same_span a.site b.site && a.site_file == b.site_file) second.1 in
    let fourth = and_parts (same_span a.site b.site) (a.site_file == b.site_file) third.1 in
    let make : ℕ → PlainSpan → Place → PlainSpan → ℕ → PlainOrigin = λ file span at site site_file. record { file = file; span = span; place = at; site = site; site_file = site_file } in
    ap (λ x. make x a.span a.place a.site a.site_file) (eqb-true a.file b.file first.0)
    ∙ ap (λ x. make b.file x a.place a.site a.site_file) (span_is a.span b.span second.0)
    ∙ ap (λ x. make b.file b.span x a.site a.site_file) (where_is a.place b.place third.0)
    ∙ ap (λ x. make b.file b.span b.place x a.site_file) (span_is a.site b.site fourth.0)
    ∙ ap (λ x. make b.file b.span b.place b.site x) (eqb-true a.site_file b.site_file fourth.1)

origin_itself : (a : PlainOrigin) → same_origin a a ≡ true
origin_itself a =
    both (a.file == a.file) (same_span a.span a.span && same_site a a) (eq-eqb a.file a.file refl)
    (both (same_span a.span a.span) (same_site a a) (span_itself a.span)
    (both (same_where a.place a.place) (same_span a.site a.site && a.site_file == a.site_file) (where_itself a.place)
    (both (same_span a.site a.site) (a.site_file == a.site_file) (span_itself a.site) (eq-eqb a.site_file a.site_file refl))))

-- ---- tokens

abbrev same_rest : PlainToken → PlainToken → Bool
same_rest a b = beq a.joined b.joined && same_origin a.origin b.origin

abbrev pub same_token : PlainToken → PlainToken → Bool
same_token a b = same_kind a.kind b.kind && (bytes_eq a.text b.text && same_rest a b)

pub token_is : (a b : PlainToken) → same_token a b ≡ true → a ≡ b
token_is a b e =
    let first = and_parts (same_kind a.kind b.kind) (bytes_eq a.text b.text && same_rest a b) e in
    let second = and_parts (bytes_eq a.text b.text) (same_rest a b) first.1 in
    let third = and_parts (beq a.joined b.joined) (same_origin a.origin b.origin) second.1 in
    let make : TokenKind → List ℕ → Bool → PlainOrigin → PlainToken = λ k text joined origin. record { kind = k; text = text; joined = joined; origin = origin } in
    ap (λ x. make x a.text a.joined a.origin) (kind_is a.kind b.kind first.0)
    ∙ ap (λ x. make b.kind x a.joined a.origin) ((bytes_eq-Decides a.text b.text).0 second.0)
    ∙ ap (λ x. make b.kind b.text x a.origin) ((booleans_Decides a.joined b.joined).0 third.0)
    ∙ ap (λ x. make b.kind b.text b.joined x) (origin_is a.origin b.origin third.1)

pub token_itself : (a : PlainToken) → same_token a a ≡ true
token_itself a =
    both (same_kind a.kind a.kind) (bytes_eq a.text a.text && same_rest a a) (kind_itself a.kind)
    (both (bytes_eq a.text a.text) (same_rest a a) ((bytes_eq-Decides a.text a.text).1 refl)
    (both (beq a.joined a.joined) (same_origin a.origin a.origin) ((booleans_Decides a.joined a.joined).1 refl) (origin_itself a.origin)))

-- ---- places

pub record OnePlace (a b : PlainToken) : Type 0 where
  pub file : a.origin.file ≡ b.origin.file
  pub span : a.origin.span ≡ b.origin.span

pub one_place : (a b : PlainToken) → same_place a b ≡ true → OnePlace a b
one_place a b e =
    let parts = and_parts (a.origin.file == b.origin.file) (same_span a.origin.span b.origin.span) e in
    record { file = eqb-true a.origin.file b.origin.file parts.0; span = span_is a.origin.span b.origin.span parts.1 }

pub place_itself : (a : PlainToken) → same_place a a ≡ true
place_itself a = both (a.origin.file == a.origin.file) (same_span a.origin.span a.origin.span) (eq-eqb a.origin.file a.origin.file refl) (span_itself a.origin.span)

-- tokens at one place are alike to the test
pub places_alike : (a b c d : PlainToken) → OnePlace a c → OnePlace b d → same_place a b ≡ same_place c d
places_alike a b c d first second =
    ap (λ n. n == b.origin.file && same_span a.origin.span b.origin.span) first.file
    ∙ ap (λ n. c.origin.file == n && same_span a.origin.span b.origin.span) second.file
    ∙ ap (λ s. c.origin.file == d.origin.file && same_span s b.origin.span) first.span
    ∙ ap (λ s. c.origin.file == d.origin.file && same_span c.origin.span s) second.span
