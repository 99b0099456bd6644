-- Tokens that spell what is present, where no name of it is replaced.
use Rattle.std.proofs.Common.{◌≡◌, ℕ, zero, suc, Bool, true, false, cond, ◌&&◌, List, [], ◌∷◌, ◌++◌, map, refl, sym, ap, ◌∙◌, codes}
use Rattle.std.specs.List.{list_any}
use Rattle.std.proofs.lemmas.Bool.{or_parts, or_from}
use Rattle.std.proofs.lemmas.List.Folds.{list_any-append}
use Rattle.c_text.specs.Token.{PlainToken}
use Rattle.c_text.specs.Macros.{is_name_kind}
use Rattle.c_text.specs.declared.token.TokenKind.TheVariants as kind
use Rattle.c_text.specs.Lines.{own_origin}
use Rattle.quick_form.specs.Symbols.{Symbol, Mark}
use Rattle.quick_form.specs.Form.{Operand, Named, Literal, Term, Sum, operand_symbol, write_terms, write_sum}
use Rattle.quick_form.specs.Program.{Code, done, assign, put, give, while_, operand_names, term_names, sum_names, used_names, object_names, bodies}
use Rattle.quick_core.specs.Present.{Item, tentative, valued, main_of, declarations}
use Rattle.quick_trees.specs.Tokens.{Seats, symbol_kind, symbol_text, token_of, tokens_of, write_code, write_present, write_unit}
use Rattle.quick_lines.specs.Spellings.{Spelling, spelling, spelling_of, spellings_of, symbol_spelling}
use Rattle.quick_units.specs.Units.{is_on, replaced_spelling}

-- ---- tokens by their symbols and their own seats

abbrev pub seats_of : List PlainToken → Seats
seats_of [] k = record { joined = false; origin = own_origin 0 (record { start = 0; end = 0 }) }
seats_of (t ∷ tokens) zero = record { joined = t.joined; origin = t.origin }
seats_of (t ∷ tokens) (suc k) = seats_of tokens k

one-token : (t : PlainToken) (k : Symbol) → spelling_of t ≡ symbol_spelling k → t ≡ token_of k (record { joined = t.joined; origin = t.origin })
one-token t k e = ap (λ s. let u : PlainToken = record { kind = s.kind; text = s.text; joined = t.joined; origin = t.origin } in u) e

all-tokens : (tokens : List PlainToken) (ks : List Symbol) → spellings_of tokens ≡ map symbol_spelling ks → tokens ≡ tokens_of ks (seats_of tokens)
all-tokens [] [] e = refl
all-tokens [] (k ∷ ks) e = cc
all-tokens (t ∷ tokens) [] e = cc
all-tokens (t ∷ tokens) (k ∷ ks) e =
    let first : spelling_of t ≡ symbol_spelling k = cc in
    let rest : spellings_of tokens ≡ map symbol_spelling ks = cc in
    ap (λ x. x ∷ tokens) (one-token t k first) ∙ ap (λ l. token_of k (record { joined = t.joined; origin = t.origin }) ∷ l) (all-tokens tokens ks rest)

-- ---- names that aren't replaced

module _ (names : List (List ℕ)) where
  -- whether a symbol is a name that is replaced
  abbrev is_replaced : Symbol → Bool
  is_replaced k = is_name_kind (symbol_kind k) && is_on names (symbol_text k)

  -- none of these names is on
  abbrev pub AreOff : List (List ℕ) → Type 0
  AreOff these = list_any (is_on names) these ≡ false

  -- no body uses a name that is on
  abbrev pub BodiesAreOff : List Code → Type 0
  BodiesAreOff [] = Unit {0}
  BodiesAreOff (c ∷ codes) = AreOff (used_names c) × BodiesAreOff codes

  split-off : (a b : List (List ℕ)) → AreOff (a ++ b) → AreOff a × AreOff b
  split-off a b e = or_parts (list_any (is_on names) a) (list_any (is_on names) b) (sym (list_any-append (is_on names) a b) ∙ e)

  kept-one : (b : Bool) (x y : Spelling) → b ≡ false → cond b x y ≡ y
  kept-one false x y e = refl
  kept-one true x y e = cc

  kept : (ks : List Symbol) → list_any is_replaced ks ≡ false → map (λ k. replaced_spelling names (symbol_spelling k)) ks ≡ map symbol_spelling ks
  kept [] e = refl
  kept (k ∷ ks) e =
      let both = or_parts (is_replaced k) (list_any is_replaced ks) e in
      ap (λ x. x ∷ map (λ k. replaced_spelling names (symbol_spelling k)) ks) (kept-one (is_replaced k) (spelling kind.Number (codes "1")) (symbol_spelling k) both.0)
      ∙ ap (λ l. symbol_spelling k ∷ l) (kept ks both.1)

  -- ---- what is written with names that are off

  off-operand : (o : Operand) → AreOff (operand_names o) → is_replaced (operand_symbol o) ≡ false
  off-operand (Named x) e = (or_parts (is_on names x) false e).0
  off-operand (Literal d) e = refl

  off-terms : (ts : List Term) (k : List Symbol) → AreOff (term_names ts) → list_any is_replaced k ≡ false → list_any is_replaced (write_terms ts k) ≡ false
  off-terms [] k e h = h
  off-terms (t ∷ ts) k e h =
      let both = split-off (operand_names t.operand) (term_names ts) e in
      or_from (is_replaced (operand_symbol t.operand)) (list_any is_replaced (write_terms ts k)) (off-operand t.operand both.0) (off-terms ts k both.1 h)

  off-sum : (s : Sum) (k : List Symbol) → AreOff (sum_names s) → list_any is_replaced k ≡ false → list_any is_replaced (write_sum s k) ≡ false
  off-sum s k e h =
      let both = split-off (operand_names s.first) (term_names s.more) e in
      or_from (is_replaced (operand_symbol s.first)) (list_any is_replaced (write_terms s.more k)) (off-operand s.first both.0) (off-terms s.more k both.1 h)

  module _ (putchar : is_on names (codes "putchar") ≡ false) (main : is_on names (codes "main") ≡ false) where
    off-code : (c : Code) (k : List Symbol) → AreOff (used_names c) → list_any is_replaced k ≡ false → list_any is_replaced (write_code c k) ≡ false
    off-code done k e h = h
    off-code (assign x s rest) k e h =
        let first = or_parts (is_on names x) (list_any (is_on names) (sum_names s ++ used_names rest)) e in
        let both = split-off (sum_names s) (used_names rest) first.1 in
        or_from (is_on names x) _ first.0 (off-sum s (Mark 59 ∷ write_code rest k) both.0 (off-code rest k both.1 h))
    off-code (put s rest) k e h =
        let both = split-off (sum_names s) (used_names rest) e in
        or_from (is_on names (codes "putchar")) _ putchar (off-sum s (Mark 41 ∷ Mark 59 ∷ write_code rest k) both.0 (off-code rest k both.1 h))
    off-code (give s rest) k e h =
        let both = split-off (sum_names s) (used_names rest) e in
        off-sum s (Mark 59 ∷ write_code rest k) both.0 (off-code rest k both.1 h)
    off-code (while_ s body rest) k e h =
        let both = split-off (sum_names s) (used_names body ++ used_names rest) e in
        let inner = split-off (used_names body) (used_names rest) both.1 in
        off-sum s (Mark 41 ∷ Mark 123 ∷ write_code body (Mark 125 ∷ write_code rest k)) both.0
        (off-code body (Mark 125 ∷ write_code rest k) inner.0 (off-code rest k inner.1 h))

    off-items : (items : List Item) → AreOff (object_names (declarations items)) → BodiesAreOff (bodies (declarations items)) → list_any is_replaced (write_present items) ≡ false
    off-items [] e h = refl
    off-items (tentative x ∷ rest) e h =
        let both = or_parts (is_on names x) (list_any (is_on names) (object_names (declarations rest))) e in
        or_from (is_on names x) (list_any is_replaced (write_present rest)) both.0 (off-items rest both.1 h)
    off-items (valued x d ∷ rest) e h =
        let both = or_parts (is_on names x) (list_any (is_on names) (object_names (declarations rest))) e in
        or_from (is_on names x) (list_any is_replaced (write_present rest)) both.0 (off-items rest both.1 h)
    off-items (main_of c ∷ rest) e h =
        or_from (is_on names (codes "main")) (list_any is_replaced (write_code c (Mark 125 ∷ write_present rest))) main
        (off-code c (Mark 125 ∷ write_present rest) h.0 (off-items rest e h.1))

    pub tokens-same : (items : List Item) (tokens : List PlainToken) → AreOff (object_names (declarations items)) → BodiesAreOff (bodies (declarations items)) → spellings_of tokens ≡ map (λ k. replaced_spelling names (symbol_spelling k)) (write_unit items) → tokens ≡ tokens_of (write_unit items) (seats_of tokens)
    tokens-same items tokens e h same =
        let none = or_from (is_on names (codes "putchar")) (list_any is_replaced (write_present items)) putchar (off-items items e h) in
        all-tokens tokens (write_unit items) (same ∙ kept (write_unit items) none)
