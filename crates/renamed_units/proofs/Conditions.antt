-- The tokens of directive lines only move, and so their conditions are alike.
use Rattle.std.proofs.Common.{◌≡◌, ℕ, zero, suc, Bool, true, ◌&&◌, not, cond, List, [], ◌∷◌, map, drop, length, Option, Some, None, refl, ap, sym, ◌∙◌, subst}
use Rattle.std.specs.Prelude.{⊤, codes, is_some, ℤ}
use Rattle.std.specs.Str.{bytes_eq}
use Rattle.text_edits.specs.Span.{PlainSpan}
use Rattle.c_text.specs.Token.{PlainToken}
use Rattle.c_text.specs.Directives.{is_spelled, is_word, is_word_kind}
use Rattle.c_text.specs.Macros.{Meaning, Table, Item, Replaced, fine, bad_call, replaced}
use Rattle.c_text.specs.Expressions.{word_of, is_zero}
use Rattle.c_text.specs.Preprocessing.{Refusal, refusal_at, refused_token, bad_expression, bad_call_kind, Test, test_of, test_at, digit, tested, with_token, by_test, tests_replaced, Condition, holds, fails, unless_fails, by_value, by_replaced, by_tests, condition_of, or_else, refused_ignored, defined_condition}
use Rattle.renamings.specs.Renamings.{Renaming}
use Rattle.renamed_units.proofs.Alike as alike
use Rattle.renamed_units.specs.Pairs.{Pairs}
use Rattle.renamed_units.proofs.Alike.{changes, AreAlike, SameSite, AlikeItems, OnlyMoved, AlikeFound, AlikeTables}
use Rattle.renamed_units.specs.Renamed.{moved_refusal}
use Rattle.renamed_units.proofs.Pairs.{pairs-weaker, choice-alike}
use Rattle.renamed_units.proofs.Replacing.{AlikeReplaced, GivenTokens, replaced-alike, moved-alike}
use Rattle.renamed_units.proofs.Runs.{IsStanding, Outer, outer-place, AlikeRefusals, or-else-alike, refusal-moves, earlier-alike, refused-token-alike, refused-ignored-alike}

pub pairs-drop : {X Y : Type 0} (R : X → Y → Type 0) (n : ℕ) (as_ : List X) (bs : List Y) → Pairs R as_ bs → Pairs R (drop n as_) (drop n bs)
pairs-drop R zero as_ bs p = p
pairs-drop R (suc n) [] [] p = tt
pairs-drop R (suc n) [] (b ∷ bs) p = absurd p
pairs-drop R (suc n) (a ∷ as_) [] p = absurd p
pairs-drop R (suc n) (a ∷ as_) (b ∷ bs) p = pairs-drop R n as_ bs p.1

-- whether a name is defined
pub some-alike : (r : Renaming) (a b : Option Meaning) → AlikeFound r a b → is_some b ≡ is_some a
some-alike r None None s = refl
some-alike r None (Some b) s = absurd s
some-alike r (Some a) None s = absurd s
some-alike r (Some a) (Some b) s = refl

module _ (r : Renaming) (At : ℕ → PlainSpan → Type 0) (standing : IsStanding r At) where
  -- tokens of a directive line
  pub record AreMoved (a b : PlainToken) : Type 0 where
    pub is : OnlyMoved r a b
    pub site : SameSite r a b
    pub outer : At a.origin.file a.origin.span

  pub spelled-moved : (w : List ℕ) (a b : PlainToken) → AreMoved a b → is_spelled w b ≡ is_spelled w a
  spelled-moved w a b m = ap (λ (t : List ℕ). bytes_eq t w) m.is.text

  pub word-moved : (a b : PlainToken) → AreMoved a b → is_word b ≡ is_word a
  word-moved a b m = ap is_word_kind m.is.kind

  module _ (table table' : Table) (tables : AlikeTables r table table') where
    abbrev Given : PlainToken → PlainToken → Type 0
    Given a b = GivenTokens r ⊥ (Outer r At standing) (outer-place r At standing) table table' tables a b

    pub moved-given : (as_ bs : List PlainToken) → Pairs AreMoved as_ bs → Pairs Given as_ bs
    moved-given as_ bs p =
        pairs-weaker AreMoved Given (λ a b m. record { is = moved-alike r ⊥ table a b m.is; site = m.site; outer = m.outer }) as_ bs p

    pub moved-token-refused : (as_ bs : List PlainToken) → Pairs AreMoved as_ bs → AlikeRefusals r At standing (refused_token as_) (refused_token bs)
    moved-token-refused as_ bs p = refused-token-alike r At standing ⊥ table table' tables as_ bs (moved-given as_ bs p)

    pub moved-ignored-refused : (as_ bs : List PlainToken) → Pairs AreMoved as_ bs → AlikeRefusals r At standing (refused_ignored as_) (refused_ignored bs)
    moved-ignored-refused as_ bs p = refused-ignored-alike r At standing ⊥ table table' tables as_ bs (moved-given as_ bs p)

    -- ---- `defined`

    abbrev AlikeTests : Option Test → Option Test → Type 0
    AlikeTests None None = ⊤
    AlikeTests None (Some t) = ⊥
    AlikeTests (Some s) None = ⊥
    AlikeTests (Some s) (Some t) = (t.name.text ≡ s.name.text) × (t.length ≡ s.length)

    test-of-alike : (a b : PlainToken) (length : ℕ) → AreMoved a b → AlikeTests (test_of a length) (test_of b length)
    test-of-alike a b length m =
        choice-alike AlikeTests (is_word a) (is_word b) (Some (record { name = a; length = length })) None (Some (record { name = b; length = length })) None
        (word-moved a b m) (m.is.text, refl) tt

    test-at-alike : (as_ bs : List PlainToken) → Pairs AreMoved as_ bs → AlikeTests (test_at as_) (test_at bs)
    test-at-alike [] [] p = tt
    test-at-alike [] (b ∷ bs) p = absurd p
    test-at-alike (a ∷ as_) [] p = absurd p
    test-at-alike (a ∷ []) (b ∷ []) p = test-of-alike a b 1 p.0
    test-at-alike (a ∷ []) (b ∷ b2 ∷ bs) p = absurd p.1
    test-at-alike (a ∷ a2 ∷ as_) (b ∷ []) p = absurd p.1
    test-at-alike (a ∷ a2 ∷ []) (b ∷ b2 ∷ []) p = test-of-alike a b 1 p.0
    test-at-alike (a ∷ a2 ∷ []) (b ∷ b2 ∷ b3 ∷ bs) p = absurd p.1.1
    test-at-alike (a ∷ a2 ∷ a3 ∷ as_) (b ∷ b2 ∷ []) p = absurd p.1.1
    test-at-alike (a ∷ a2 ∷ a3 ∷ as_) (b ∷ b2 ∷ b3 ∷ bs) p =
        choice-alike AlikeTests (is_spelled (codes "(") a && is_spelled (codes ")") a3) (is_spelled (codes "(") b && is_spelled (codes ")") b3)
        (test_of a2 3) (test_of a 1) (test_of b2 3) (test_of b 1) parentheses (test-of-alike a2 b2 3 p.1.0) (test-of-alike a b 1 p.0)
      where
        parentheses : (is_spelled (codes "(") b && is_spelled (codes ")") b3) ≡ (is_spelled (codes "(") a && is_spelled (codes ")") a3)
        parentheses = rw (spelled-moved (codes "(") a b p.0, spelled-moved (codes ")") a3 b3 p.1.1.0) refl

    abbrev pub AlikeExpressions : Option (List PlainToken) → Option (List PlainToken) → Type 0
    AlikeExpressions None None = ⊤
    AlikeExpressions None (Some bs) = ⊥
    AlikeExpressions (Some as_) None = ⊥
    AlikeExpressions (Some as_) (Some bs) = Pairs AreMoved as_ bs

    with-token-alike : (a b : PlainToken) (f g : Option (List PlainToken)) → AreMoved a b → AlikeExpressions f g → AlikeExpressions (with_token a f) (with_token b g)
    with-token-alike a b None None m p = tt
    with-token-alike a b None (Some bs) m p = absurd p
    with-token-alike a b (Some as_) None m p = absurd p
    with-token-alike a b (Some as_) (Some bs) m p = (m, p)

    tested-alike : (a b : PlainToken) (s t : Test) → AreMoved a b → t.name.text ≡ s.name.text → AreMoved (tested table a s) (tested table' b t)
    tested-alike a b s t m e = record {
      is = record {
        kind = refl;
        untouched = m.is.untouched;
        text = ap digit (ap (λ (name : List ℕ). is_some (table' name)) e ∙ some-alike r (table s.name.text) (table' s.name.text) (tables s.name.text));
        joined = m.is.joined;
        file = m.is.file;
        span = m.is.span;
        place = m.is.place;
      };
      site = record { file = m.site.file; span = m.site.span };
      outer = m.outer;
    }

    by-test-alike : (a b : PlainToken) (s t : Option Test) (others others' : ℕ → Option (List PlainToken)) → AreMoved a b → AlikeTests s t → ((n : ℕ) → AlikeExpressions (others n) (others' n)) → AlikeExpressions (by_test table a s others) (by_test table' b t others')
    by-test-alike a b None None others others' m p k = tt
    by-test-alike a b None (Some t) others others' m p k = absurd p
    by-test-alike a b (Some s) None others others' m p k = absurd p
    by-test-alike a b (Some s) (Some t) others others' m p k =
        with-token-alike (tested table a s) (tested table' b t) (others s.length) (others' t.length) (tested-alike a b s t m p.0)
        (subst (λ (n : ℕ). AlikeExpressions (others s.length) (others' n)) (sym p.1) (k s.length))

    pub tests-alike : (more : ℕ) (as_ bs : List PlainToken) → Pairs AreMoved as_ bs → AlikeExpressions (tests_replaced table more as_) (tests_replaced table' more bs)
    tests-alike more [] [] p = tt
    tests-alike more [] (b ∷ bs) p = absurd p
    tests-alike more (a ∷ as_) [] p = absurd p
    tests-alike (suc more) (a ∷ as_) (b ∷ bs) p = tests-alike more as_ bs p.1
    tests-alike zero (a ∷ as_) (b ∷ bs) p =
        choice-alike AlikeExpressions (is_spelled (codes "defined") a) (is_spelled (codes "defined") b)
        (by_test table a (test_at as_) (λ more. tests_replaced table more as_)) (with_token a (tests_replaced table 0 as_))
        (by_test table' b (test_at bs) (λ more. tests_replaced table' more bs)) (with_token b (tests_replaced table' 0 bs))
        (spelled-moved (codes "defined") a b p.0)
        (by-test-alike a b (test_at as_) (test_at bs) (λ more. tests_replaced table more as_) (λ more. tests_replaced table' more bs) p.0
        (test-at-alike as_ bs p.1) (λ n. tests-alike n as_ bs p.1))
        (with-token-alike a b (tests_replaced table 0 as_) (tests_replaced table' 0 bs) p.0 (tests-alike 0 as_ bs p.1))

    -- ---- conditions

    abbrev pub AlikeConditions : Condition → Condition → Type 0
    AlikeConditions (holds a) (holds b) = b ≡ a
    AlikeConditions (fails v) (fails w) = w ≡ moved_refusal r v
    AlikeConditions (holds a) (fails w) = ⊥
    AlikeConditions (fails v) (holds b) = ⊥

    pub unless-fails-alike : (f g : Option Refusal) (a b : Bool) → AlikeRefusals r At standing f g → b ≡ a → AlikeConditions (unless_fails f a) (unless_fails g b)
    unless-fails-alike None None a b p e = e
    unless-fails-alike None (Some w) a b p e = absurd p
    unless-fails-alike (Some v) None a b p e = absurd p
    unless-fails-alike (Some v) (Some w) a b p e = p.0

    by-value-alike : (a b : PlainToken) (f g : Option Refusal) (z : Option ℤ) → AreMoved a b → AlikeRefusals r At standing f g → AlikeConditions (by_value a f z) (by_value b g z)
    by-value-alike a b f g None m p = refusal-moves r At standing bad_expression a b m.is.file m.is.span
    by-value-alike a b f g (Some z) m p = unless-fails-alike f g (not (is_zero z)) (not (is_zero z)) p refl

    word-same : (a b : PlainToken) → AreAlike r ⊥ table a b → word_of b ≡ word_of a
    word-same a b s = elim s.text as (λ x. word_of b ≡ word_of a) [
      | alike.stays u e ↦ cc (s.kind, e)
      | changes may u k o n t m p q old_free new_free ↦ absurd may
    ]

    words-same : (as_ bs : List Item) → Pairs (AlikeItems r ⊥ table true) as_ bs → map word_of (map (λ item. item.token) bs) ≡ map word_of (map (λ item. item.token) as_)
    words-same [] [] p = refl
    words-same [] (b ∷ bs) p = absurd p
    words-same (a ∷ as_) [] p = absurd p
    words-same (a ∷ as_) (b ∷ bs) p = let first = word-same a.token b.token p.0.token in let rest = words-same as_ bs p.1 in cc

    module _ (value_of value_of' : List PlainToken → Option ℤ) (values : (as_ bs : List PlainToken) → map word_of bs ≡ map word_of as_ → value_of' bs ≡ value_of as_) where
      by-replaced-alike : (a b : PlainToken) (f g : Option Refusal) (x y : Replaced) → AreMoved a b → AlikeRefusals r At standing f g → AlikeReplaced r ⊥ (Outer r At standing) (outer-place r At standing) table table' tables true x y → AlikeConditions (by_replaced value_of a f x) (by_replaced value_of' b g y)
      by-replaced-alike a b f g (fine xs) (fine ys) m p q =
          let e = values (map (λ item. item.token) xs) (map (λ item. item.token) ys) (words-same xs ys q) in
          subst (λ (z : Option ℤ). AlikeConditions (by_value a f (value_of (map (λ item. item.token) xs))) (by_value b g z)) (sym e)
          (by-value-alike a b f g (value_of (map (λ item. item.token) xs)) m p)
      by-replaced-alike a b f g (fine xs) (bad_call n) m p q = absurd q
      by-replaced-alike a b f g (bad_call n) (fine ys) m p q = absurd q
      by-replaced-alike a b f g (bad_call n) (bad_call o) m p q =
          earlier-alike r At standing f g (refusal_at bad_call_kind n) (refusal_at bad_call_kind o) p (refusal-moves r At standing bad_call_kind n o q.is.file q.is.span) (q.outer refl)

      by-tests-alike : (a b : PlainToken) (f g : Option Refusal) (x y : Option (List PlainToken)) → AreMoved a b → AlikeRefusals r At standing f g → AlikeExpressions x y → AlikeConditions (by_tests value_of table a f x) (by_tests value_of' table' b g y)
      by-tests-alike a b f g None None m p q = refusal-moves r At standing bad_expression a b m.is.file m.is.span
      by-tests-alike a b f g None (Some ys) m p q = absurd q
      by-tests-alike a b f g (Some xs) None m p q = absurd q
      by-tests-alike a b f g (Some xs) (Some ys) m p q =
          by-replaced-alike a b f g (replaced table xs) (replaced table' ys) m p
          (replaced-alike r ⊥ (Outer r At standing) (outer-place r At standing) table table' tables xs ys (moved-given xs ys q))

      pub expression-alike : (a b : PlainToken) (as_ bs : List PlainToken) → AreMoved a b → Pairs AreMoved as_ bs → AlikeConditions (condition_of value_of table a as_) (condition_of value_of' table' b bs)
      expression-alike a b as_ bs m p =
          by-tests-alike a b (refused_token as_) (refused_token bs) (tests_replaced table 0 as_) (tests_replaced table' 0 bs) m (moved-token-refused as_ bs p) (tests-alike 0 as_ bs p)

      pub definedness-alike : (wanted : Bool) (a b : PlainToken) (as_ bs : List PlainToken) → AreMoved a b → Pairs AreMoved as_ bs → AlikeConditions (defined_condition value_of table wanted a as_) (defined_condition value_of' table' wanted b bs)
      definedness-alike wanted a b as_ bs m p =
          unless-fails-alike (or_else (refused_token (a ∷ [])) (refused_ignored as_)) (or_else (refused_token (b ∷ [])) (refused_ignored bs))
          (cond wanted (is_some (table a.text)) (not (is_some (table a.text)))) (cond wanted (is_some (table' b.text)) (not (is_some (table' b.text))))
          (or-else-alike r At standing (refused_token (a ∷ [])) (refused_token (b ∷ [])) (refused_ignored as_) (refused_ignored bs)
          (moved-token-refused (a ∷ []) (b ∷ []) (m, tt)) (moved-ignored-refused as_ bs p))
          same
        where
          defined_same : is_some (table' b.text) ≡ is_some (table a.text)
          defined_same = ap (λ (name : List ℕ). is_some (table' name)) m.is.text ∙ some-alike r (table a.text) (table' a.text) (tables a.text)

          same : cond wanted (is_some (table' b.text)) (not (is_some (table' b.text))) ≡ cond wanted (is_some (table a.text)) (not (is_some (table a.text)))
          same = ap (λ (x : Bool). cond wanted x (not x)) defined_same
