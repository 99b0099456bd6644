-- Macro replacement where no macro is defined but features that are on.
use Rattle.std.proofs.Common.{◌≡◌, ℕ, Bool, true, false, cond, ◌&&◌, List, [], ◌∷◌, ◌++◌, map, refl, ap, ◌∙◌, Option, Some, None}
use Rattle.std.specs.List.{list_any}
use Rattle.std.specs.Str.{bytes_eq}
use Rattle.c_text.specs.Token.{PlainToken}
use Rattle.c_text.specs.Macros.{Table, feature, Item, fresh, is_name_kind, Replaced, fine, before, brought, treatment, treated, opens, Deeper, outside, inside, Call, level}
use Rattle.c_text.specs.Preprocessing.{Refusal, refused_token, Reading, Flow, on, refused, then_read, unless, emitted, read_run, feature_token, by_bad, bad_kind, or_else}
use Rattle.quick_lines.specs.Spellings.{spelling_of, spellings_of}
use Rattle.quick_units.specs.Units.{is_on, replaced_spelling}

module _ (names : List (List ℕ)) where
  -- the features that are on, and a reading with them
  abbrev pub table : Table
  table = λ name. cond (list_any (bytes_eq name) names) (Some (feature feature_token)) None

  abbrev pub reading : List PlainToken → Reading
  reading tokens = record { table = table; tokens = tokens }

  -- what a token is replaced by
  abbrev item_of : PlainToken → Item
  item_of token = cond (is_name_kind token.kind && is_on names token.text) (brought token token (fresh feature_token)) (fresh token)

  abbrev pub replacing : List PlainToken → List PlainToken
  replacing tokens = map (λ item. item.token) (map item_of tokens)

  one-item : (deeper : Deeper) (token : PlainToken) (is_name is_feature opening : Bool) (others : Replaced) (calls : Call → Replaced) → treated table deeper [] (fresh token) (treatment (fresh token) false opening (cond (is_name && true) (cond is_feature (Some (feature feature_token)) None) None)) others calls ≡ before (cond (is_name && is_feature) (brought token token (fresh feature_token)) (fresh token) ∷ []) others
  one-item deeper token true true opening others calls = refl
  one-item deeper token true false opening others calls = refl
  one-item deeper token false is_feature opening others calls = refl

  all-items : (deeper : Deeper) (tokens : List PlainToken) → outside table deeper [] (map fresh tokens) ≡ fine (map item_of tokens)
  all-items deeper [] = refl
  all-items deeper (token ∷ rest) =
      one-item deeper token (is_name_kind token.kind) (is_on names token.text) (opens (map fresh rest)) (outside table deeper [] (map fresh rest)) (λ call. inside table deeper [] call (map fresh rest))
      ∙ ap (λ others. before (item_of token ∷ []) others) (all-items deeper rest)

  emitted-items : (r : Reading) (tokens : List PlainToken) (found : Option Refusal) (items : List Item) → emitted r tokens found (fine items) ≡ unless found (on (record r { tokens = r.tokens ++ map (λ item. item.token) items }))
  emitted-items r tokens None items = refl
  emitted-items r tokens (Some why) items = refl

  -- a run gives its tokens, each replaced, unless one refuses
  pub run-read : (before tokens : List PlainToken) → read_run (reading before) tokens ≡ unless (refused_token tokens) (on (reading (before ++ replacing tokens)))
  run-read before tokens =
      ap (λ x. emitted (reading before) tokens (refused_token tokens) x) (all-items (level table 255) tokens)
      ∙ emitted-items (reading before) tokens (refused_token tokens) (map item_of tokens)

  pub replacing-append : (a b : List PlainToken) → replacing (a ++ b) ≡ replacing a ++ replacing b
  replacing-append [] b = refl
  replacing-append (t ∷ a) b = ap (λ l. (item_of t).token ∷ l) (replacing-append a b)

  spelled-item : (token : PlainToken) (b : Bool) → spelling_of (cond b (brought token token (fresh feature_token)) (fresh token)).token ≡ cond b (spelling_of feature_token) (spelling_of token)
  spelled-item token true = refl
  spelled-item token false = refl

  pub replacing-spelled : (tokens : List PlainToken) → spellings_of (replacing tokens) ≡ map (replaced_spelling names) (spellings_of tokens)
  replacing-spelled [] = refl
  replacing-spelled (t ∷ tokens) =
      ap (λ x. x ∷ spellings_of (replacing tokens)) (spelled-item t (is_name_kind t.kind && is_on names t.text))
      ∙ ap (λ l. replaced_spelling names (spelling_of t) ∷ l) (replacing-spelled tokens)

-- ---- flows that go on

pub on-injective : (a b : Reading) → Flow.on a ≡ Flow.on b → a ≡ b
on-injective a b e = cc

pub refused-on : (why : Refusal) (r : Reading) → refused why ≡ Flow.on r → ⊥
refused-on why r e = cc

-- where an unless goes on, there is no refusal
pub record Unless (found : Option Refusal) (flow : Flow) (r : Reading) : Type 0 where
  pub none : found ≡ None
  pub goes : flow ≡ on r

pub unless-on : (found : Option Refusal) (flow : Flow) (r : Reading) → unless found flow ≡ on r → Unless found flow r
unless-on None flow r e = record { none = refl; goes = e }
unless-on (Some why) flow r e = absurd (refused-on why r e)

pub record Then (flow : Flow) (next : Reading → Flow) (r : Reading) : Type 0 where
  pub between : Reading
  pub first : flow ≡ on between
  pub second : next between ≡ on r

pub then-on : (flow : Flow) (next : Reading → Flow) (r : Reading) → then_read flow next ≡ on r → Then flow next r
then-on (on a) next r e = record { between = a; first = refl; second = e }
then-on (refused why) next r e = absurd (refused-on why r e)

-- no token of two lists refuses
none-first : (a b : Option Refusal) → or_else a b ≡ None → a ≡ None
none-first None b e = refl
none-first (Some why) b e = cc

none-second : (a b : Option Refusal) → or_else a b ≡ None → b ≡ None
none-second None b e = e
none-second (Some why) b e = cc

pub none-left : (a b : List PlainToken) → refused_token (a ++ b) ≡ None → refused_token a ≡ None
none-left [] b e = refl
none-left (t ∷ a) b e =
    let first = none-first (by_bad t (bad_kind t.kind)) (refused_token (a ++ b)) e in
    ap (λ x. or_else x (refused_token a)) first ∙ none-left a b (none-second (by_bad t (bad_kind t.kind)) (refused_token (a ++ b)) e)

pub none-right : (a b : List PlainToken) → refused_token (a ++ b) ≡ None → refused_token b ≡ None
none-right [] b e = e
none-right (t ∷ a) b e = none-right a b (none-second (by_bad t (bad_kind t.kind)) (refused_token (a ++ b)) e)
