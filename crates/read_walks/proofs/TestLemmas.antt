-- The test for tokens is exact, and asks token by token.
use Rattle.std.proofs.Common.{◌≡◌, ℕ, Bool, true, false, ◌&&◌, ◌||◌, List, [], ◌∷◌, Option, Some, None, refl, ap, sym, ◌∙◌}
use Rattle.std.specs.Prelude.{◌==◌, Any}
use Rattle.std.specs.List.{list_any}
use Rattle.std.specs.Bool.{Decides}
use Rattle.std.proofs.lemmas.Bool.Decides.{Decides-eqb, Decides-and}
use Rattle.std.proofs.lemmas.List.Folds.{Any-from_list_any, list_any-from_Any, list_any-append}
use Rattle.text_edits.specs.Span.{PlainSpan, plain_span}
use Rattle.c_text.specs.declared.origin.FileToken.{FileToken}
use Rattle.c_text.specs.Token.{PlainToken}
use Rattle.c_text.specs.Macros.{Table}
use Rattle.active_tokens.specs.Reads.{Read}
use Rattle.active_tokens.specs.Active.{IsReadAt}
use Rattle.read_walks.specs.WalkReads.{one_by_one, by_token}
use Rattle.read_walks.specs.Tests.{stands_at, stands_at_one, is_defined, IsDefinedIn, is_read_at}
use Rattle.read_walks.specs.Laws.{TestIsExact, TestIsJoined, TestIsByToken}

defined-decides : (name : Option (List ℕ)) (read : Read) → Decides (is_defined name read.table) (IsDefinedIn name read)
defined-decides None read = (λ e. tt, λ d. refl)
defined-decides (Some name) read = (λ e. e, λ d. d)

span-is : (a b : PlainSpan) → a.start ≡ b.start → a.end ≡ b.end → a ≡ b
span-is a b h k =
    ap (λ (n : ℕ). let x : PlainSpan = record { start = n; end = a.end } in x) h
    ∙ ap (λ (n : ℕ). let x : PlainSpan = record { start = b.start; end = n } in x) k

stands-decides : (at : FileToken) (token : PlainToken) → Decides (stands_at at token) ((token.origin.file ≡ at.file) × (token.origin.span ≡ plain_span at.span))
stands-decides at token =
    let its = token.origin in
    let d = Decides-and ((its.file == at.file) && (its.span.start == at.span.start)) (its.span.end == at.span.end) (Decides-and (its.file == at.file) (its.span.start == at.span.start) (Decides-eqb its.file at.file) (Decides-eqb its.span.start at.span.start)) (Decides-eqb its.span.end at.span.end) in
    (λ e. let p = d.0 e in (p.0.0, span-is its.span (plain_span at.span) p.0.1 p.1), λ p. d.1 ((p.0, ap (λ (x : PlainSpan). x.start) p.1), ap (λ (x : PlainSpan). x.end) p.1))

and-parts : (a b : Bool) → (a && b) ≡ true → (a ≡ true) × (b ≡ true)
and-parts true true e = (refl, refl)
and-parts true false e = cc
and-parts false b e = cc

ask-step : (d a b c : Bool) → c ≡ (d && b) → ((d && (a || false)) || c) ≡ (d && (a || b))
ask-step true true b c h = refl
ask-step true false b c h = h
ask-step false a b c h = h

ask-none : (d : Bool) → false ≡ (d && false)
ask-none true = refl
ask-none false = refl

module _ (places : List FileToken) (name : Option (List ℕ)) where
  abbrev asked : Read → Bool
  asked read = is_defined name read.table && list_any (stands_at_one places) read.tokens

  found-read : (all : List Read) → is_read_at places name all ≡ true → Any (λ at. IsReadAt all at.file (plain_span at.span) (IsDefinedIn name)) places
  found-read all e =
      let a = Any-from_list_any asked all e in
      let read = a.1 in
      let both = and-parts (is_defined name read.table) (list_any (stands_at_one places) read.tokens) a.4 in
      let b = Any-from_list_any (stands_at_one places) read.tokens both.1 in
      let c = Any-from_list_any (λ at. stands_at at b.1) places b.4 in
      let stands = (stands-decides c.1 b.1).0 c.4 in
      let is : IsReadAt all c.1.file (plain_span c.1.span) (IsDefinedIn name) = record {
        read = read;
        token = b.1;
        among = (a.0, a.2, a.3);
        within = (b.0, b.2, b.3);
        file_is = stands.0;
        span_is = stands.1;
        holds = (defined-decides name read).0 both.0;
      } in
      (c.0, c.1, c.2, c.3, is)

  read-found : (all : List Read) → Any (λ at. IsReadAt all at.file (plain_span at.span) (IsDefinedIn name)) places → is_read_at places name all ≡ true
  read-found all (place, at, inside, at_is, is) =
      let stands = (stands-decides at is.token).1 (is.file_is, is.span_is) in
      let one = list_any-from_Any (λ a. stands_at a is.token) places (place, at, inside, at_is, stands) in
      let within = list_any-from_Any (stands_at_one places) is.read.tokens (is.within.0, is.token, is.within.1, is.within.2, one) in
      let holds = (defined-decides name is.read).1 is.holds in
      list_any-from_Any asked all (is.among.0, is.read, is.among.1, is.among.2, ap (λ (b : Bool). b && list_any (stands_at_one places) is.read.tokens) holds ∙ within)

  tokens-asked : (table : Table) (tokens : List PlainToken) → list_any asked (one_by_one (record { tokens = tokens; table = table })) ≡ asked (record { tokens = tokens; table = table })
  tokens-asked table [] = ask-none (is_defined name table)
  tokens-asked table (token ∷ tokens) =
      ask-step (is_defined name table) (stands_at_one places token) (list_any (stands_at_one places) tokens) (list_any asked (one_by_one (record { tokens = tokens; table = table }))) (tokens-asked table tokens)

  asked-by_token : (all : List Read) → is_read_at places name (by_token all) ≡ is_read_at places name all
  asked-by_token [] = refl
  asked-by_token (read ∷ all) =
      list_any-append asked (one_by_one read) (by_token all)
      ∙ ap (λ (b : Bool). b || is_read_at places name (by_token all)) (tokens-asked read.table read.tokens)
      ∙ ap (λ (b : Bool). asked read || b) (asked-by_token all)

pub test-exact : TestIsExact
test-exact places name all = (found-read places name all, read-found places name all)

pub test-joined : TestIsJoined
test-joined places name first second = list_any-append (asked places name) first second

pub test-by_token : TestIsByToken
test-by_token places name first second same =
    sym (asked-by_token places name first) ∙ ap (λ (all : List Read). is_read_at places name all) same
    ∙ asked-by_token places name second
