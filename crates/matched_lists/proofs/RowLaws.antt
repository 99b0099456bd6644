-- How matching passes through a row.
use Rattle.std.proofs.Common.{◌≡◌, ℕ, zero, suc, ◌+◌, ◌-◌, ◌≤◌, Bool, true, false, ◌&&◌, ◌||◌, if◌then◌else◌, List, [], ◌∷◌, ◌++◌, Option, None, Some, IsTrue, drop, length, get_or, refl, sym, ap, ◌∙◌, subst, arith}
use Rattle.std.proofs.lemmas.List.{drop_all}
use Rattle.std.proofs.Math.Bool.{or-false}
use Rattle.cond_formula.specs.declared.formulas.Formula.{Formula, True, False}
use Rattle.cond_formula.specs.Conditions.{condition_of, value}
use Rattle.cond_formula.specs.ConditionLaws.{condition_of-True, condition_of-False}
use Rattle.conditional.specs.declared.entries.Guarded.{Guarded}
use Rattle.conditional.specs.Entries.{Entry, first, or_later, some_holds, Carry}
use Rattle.matched_lists.specs.Matched.{Rule, matched, there, StartsWith, behind, AreThere}
use Rattle.matched_lists.specs.Rows.{after, leaving, places, LeftAlone, Leads}
use Rattle.matched_lists.proofs.Places.{next_held, next_carry, pushed_held, pushed_carry}
use Rattle.matched_lists.proofs.PairLaws.{refused_there}

one_of : {A : Type 0} (s t e : Bool) → e ≡ (s || t) → IsTrue e → (IsTrue s → A) → (IsTrue t → A) → A
one_of true t e is h left right = left refl
one_of false t e is h left right = let h' = rw is at h in right h'

in_held : (a d t r b h : Bool) → h ≡ (t || a) → IsTrue ((a || (d || (t || r))) || b) → IsTrue ((h || (d || r)) || b)
in_held true d true r b h is s = rw is refl
in_held true d false r b h is s = rw is refl
in_held false true true r b h is s = rw is refl
in_held false true false r b h is s = rw is refl
in_held false false true r b h is s = rw is refl
in_held false false false r b h is s = rw is s

out_held : (f s t d r b u : Bool) → u ≡ (d || f) → IsTrue ((f || (s || (t || (d || r)))) || b) → IsTrue ((s || (t || (u || r))) || b)
out_held f true t d r b u is h = refl
out_held f false true d r b u is h = refl
out_held true false false true r b u is h = rw is refl
out_held true false false false r b u is h = rw is refl
out_held false false false true r b u is h = rw is refl
out_held false false false false r b u is h = rw is h

module _ {N : Type 0} (on : ℕ → Bool) (v : Option N) (refusals : List N) (a b : Option N) (row below : List (Entry (Option N))) where
  -- a place is come to from the row above, and from the place before it
  pub comes_in :
      (across diagonal at here : Formula) → value on (condition_of here) ≡ (value on (condition_of at) || value on (condition_of across))
      → Leads on v refusals (leaving across a ∷ leaving diagonal b ∷ leaving at a ∷ row) below → Leads on v refusals (leaving here a ∷ leaving diagonal b ∷ row) below
  comes_in across diagonal at here is s = record {
    refused = s.refused;
    held = λ none.
        in_held (value on (condition_of across)) (value on (condition_of diagonal)) (value on (condition_of at)) (some_holds on row) (some_holds on below) (value on (condition_of here)) is (s.held none);
    carry = λ none. (
      (λ t. one_of (value on (condition_of at)) (value on (condition_of across)) (value on (condition_of here)) is t (s.carry none).1.1.0 (s.carry none).0),
      ((s.carry none).1.0, (s.carry none).1.1.1),
    );
    carry_below = s.carry_below;
  }

  -- the place below is come to from the place above it, and from the one before that
  pub goes_out :
      (x y : Option N) (first second both diagonal under : Formula) → value on (condition_of under) ≡ (value on (condition_of diagonal) || value on (condition_of first))
      → Leads on v refusals (leaving first b ∷ leaving second x ∷ leaving both y ∷ leaving diagonal b ∷ row) below
      → Leads on v refusals (leaving second x ∷ leaving both y ∷ leaving under b ∷ row) below
  goes_out x y first second both diagonal under is s = record {
    refused = s.refused;
    held = λ none.
        out_held (value on (condition_of first)) (value on (condition_of second)) (value on (condition_of both)) (value on (condition_of diagonal)) (some_holds on row) (some_holds on below)
        (value on (condition_of under)) is (s.held none);
    carry = λ none. (
      (s.carry none).1.0,
      (
        (s.carry none).1.1.0,
        (
          (λ t. one_of (value on (condition_of diagonal)) (value on (condition_of first)) (value on (condition_of under)) is t (s.carry none).1.1.1.0 (s.carry none).0),
          (s.carry none).1.1.1.1,
        ),
      ),
    );
    carry_below = s.carry_below;
  }

  -- the last place of a row is under the place before it alone
  pub ends_under :
      (here diagonal under : Formula) → value on (condition_of under) ≡ (value on (condition_of diagonal) || value on (condition_of here)) → a ≡ b
      → Leads on v refusals (leaving here a ∷ leaving diagonal b ∷ row) below → Leads on v refusals (leaving under b ∷ row) below
  ends_under here diagonal under is same s = record {
    refused = s.refused;
    held = λ none. end_held (value on (condition_of here)) (value on (condition_of diagonal)) (some_holds on row) (some_holds on below) (value on (condition_of under)) is (s.held none);
    carry = λ none. (
      (λ t. one_of (value on (condition_of diagonal)) (value on (condition_of here)) (value on (condition_of under)) is t (s.carry none).1.0 (λ h. sym same ∙ (s.carry none).0 h)),
      (s.carry none).1.1,
    );
    carry_below = s.carry_below;
  } where
    end_held : (h d r b u : Bool) → u ≡ (d || h) → IsTrue ((h || (d || r)) || b) → IsTrue ((u || r) || b)
    end_held true true r b u is t = rw is refl
    end_held true false r b u is t = rw is refl
    end_held false true r b u is t = rw is refl
    end_held false false r b u is t = rw is t

module _ {N : Type 0} (on : ℕ → Bool) (v : Option N) (refusals : List N) where
  -- the next place of the row
  pub opened :
      (a b : Option N) (across diagonal at : Formula) (left : ℕ → Option N) (n : ℕ) (fs : List Formula) (below : List (Entry (Option N))) → condition_of at ≡ condition_of (get_or fs n False)
      → Leads on v refusals (leaving across a ∷ leaving diagonal b ∷ places left n (drop n fs)) below
      → Leads on v refusals (leaving across a ∷ leaving diagonal b ∷ leaving at (left n) ∷ places left (n + 1) (drop (n + 1) fs)) below
  opened a b across diagonal at left n fs below is s = record {
    refused = s.refused;
    held = λ none. rw is
        (subst (λ t. IsTrue ((value on (condition_of across) || (value on (condition_of diagonal) || t)) || some_holds on below)) (next_held on left n n fs) (s.held none));
    carry = λ none. ((s.carry none).0, ((s.carry none).1.0, rw is (next_carry on v left n n fs (s.carry none).1.1)));
    carry_below = s.carry_below;
  }

  -- one place more in the row below
  pub pushed :
      (x y : Entry (Option N)) (f : Formula) (left : ℕ → Option N) (n : ℕ) (row : List (Entry (Option N))) (fs more : List Formula) → length fs ≡ n → more ≡ fs ++ f ∷ []
      → Leads on v refusals (x ∷ y ∷ leaving f (left n) ∷ row) (places left 0 fs) → Leads on v refusals (x ∷ y ∷ row) (places left 0 more)
  pushed x y f left n row fs more long is s = rw is (record {
    refused = s.refused;
    held = λ none. rw (pushed_held on left 0 fs f) (more_held (value on x.when) (value on y.when) (value on (condition_of f)) (some_holds on row) (some_holds on (places left 0 fs)) (s.held none));
    carry = λ none. ((s.carry none).0, ((s.carry none).1.0, (s.carry none).1.1.1));
    carry_below = λ none.
        let e : 0 + length fs ≡ n = omega (arith, long) in
        pushed_carry on v left 0 fs f (s.carry_below none) (λ t. ap left e ∙ (s.carry none).1.1.0 t);
  }) where
    more_held : (x y f r b : Bool) → IsTrue ((x || (y || (f || r))) || b) → IsTrue ((x || (y || r)) || (b || f))
    more_held true y f r b t = refl
    more_held false true f r b t = refl
    more_held false false true true b t = refl
    more_held false false true false true t = refl
    more_held false false true false false t = refl
    more_held false false false true b t = refl
    more_held false false false false true t = refl
    more_held false false false false false t = cc

  -- the last place of the row below
  pub last_pushed :
      (b : Option N) (f : Formula) (left : ℕ → Option N) (n : ℕ) (fs more : List Formula) → length fs ≡ n → more ≡ fs ++ f ∷ [] → b ≡ left n
      → Leads on v refusals (leaving f b ∷ []) (places left 0 fs) → Leads on v refusals (places left 0 more) []
  last_pushed b f left n fs more long is same s = rw is (record {
    refused = s.refused;
    held = λ none. rw (pushed_held on left 0 fs f) (last_held (value on (condition_of f)) (some_holds on (places left 0 fs)) (s.held none));
    carry = λ none.
        let e : 0 + length fs ≡ n = omega (arith, long) in
        pushed_carry on v left 0 fs f (s.carry_below none) (λ t. ap left e ∙ (sym same ∙ (s.carry none).0 t));
    carry_below = λ none. tt;
  }) where
    last_held : (f b : Bool) → IsTrue ((f || false) || b) → IsTrue ((b || f) || false)
    last_held true true t = refl
    last_held true false t = refl
    last_held false true t = refl
    last_held false false t = cc

  -- the row begins
  pub begins :
      (a b : Option N) (left : ℕ → Option N) (fs : List Formula) (across diagonal : Formula) → condition_of across ≡ condition_of False → condition_of diagonal ≡ condition_of False
      → Leads on v refusals (places left 0 fs) [] → Leads on v refusals (leaving across a ∷ leaving diagonal b ∷ places left 0 (drop 0 fs)) []
  begins a b left fs across diagonal is_across is_diagonal s = record {
    refused = s.refused;
    held = λ none. rw (is_across, is_diagonal, condition_of-False) (s.held none);
    carry = λ none. (
      (λ t. let t' = rw (is_across, condition_of-False) at t in cc),
      ((λ t. let t' = rw (is_diagonal, condition_of-False) at t in cc), s.carry none),
    );
    carry_below = s.carry_below;
  }

  -- the last row begins
  pub rest_begins : (left : ℕ → Option N) (fs : List Formula) → Leads on v refusals (places left 0 fs) [] → Leads on v refusals (leaving False (left 0) ∷ places left 0 (drop 0 fs)) []
  rest_begins left fs s = record {
    refused = s.refused;
    held = λ none. rw condition_of-False (s.held none);
    carry = λ none. ((λ t. let t' = rw condition_of-False at t in cc), s.carry none);
    carry_below = s.carry_below;
  }

  -- the next place of the last row
  rest_comes_in :
      (across at here : Formula) (left : ℕ → Option N) (n : ℕ) (fs : List Formula) → condition_of at ≡ condition_of (get_or fs n False)
      → value on (condition_of here) ≡ (value on (condition_of at) || value on (condition_of across))
      → Leads on v refusals (leaving across (left n) ∷ places left n (drop n fs)) [] → Leads on v refusals (leaving here (left n) ∷ places left (n + 1) (drop (n + 1) fs)) []
  rest_comes_in across at here left n fs is_at is s = record {
    refused = s.refused;
    held = λ none.
        in_last (value on (condition_of across)) (value on (condition_of at)) (some_holds on (places left (n + 1) (drop (n + 1) fs))) (value on (condition_of here)) is
        (rw is_at (subst (λ t. IsTrue ((value on (condition_of across) || t) || false)) (next_held on left n n fs) (s.held none)));
    carry = λ none.
        let behind = next_carry on v left n n fs (s.carry none).1 in
        ((λ t. one_of (value on (condition_of at)) (value on (condition_of across)) (value on (condition_of here)) is t (rw is_at behind.0) (s.carry none).0), behind.1);
    carry_below = s.carry_below;
  } where
    in_last : (a t r h : Bool) → h ≡ (t || a) → IsTrue ((a || (t || r)) || false) → IsTrue ((h || r) || false)
    in_last true true r h is s = rw is refl
    in_last true false r h is s = rw is refl
    in_last false true r h is s = rw is refl
    in_last false false r h is s = rw is s

  none_left :
      (left : ℕ → Option N) (n : ℕ) (fs : List Formula) → ((k : ℕ) → n ≤ k → left k ≡ None) → Carry on v (places left n fs) → IsTrue (some_holds on (places left n fs)) → v ≡ None
  none_left left n [] ends carry held = cc
  none_left left n (f ∷ fs) ends carry held =
      one_of (value on (condition_of f)) (some_holds on (places left (n + 1) fs)) (value on (condition_of f) || some_holds on (places left (n + 1) fs)) refl held
      (λ t. sym (carry.0 t) ∙ ends n (omega arith))
      (λ t. none_left left (n + 1) fs (λ k le. ends k (omega arith)) carry.1 t)

  -- the last row has come to its end
  pub rest_ends :
      (across : Formula) (left : ℕ → Option N) (n : ℕ) (fs : List Formula) → ((k : ℕ) → n ≤ k → left k ≡ None)
      → Leads on v refusals (leaving across (left n) ∷ places left n (drop n fs)) [] → first refusals ≡ v
  rest_ends across left n fs ends s = by_first (first refusals) refl where
    by_first : (o : Option N) → first refusals ≡ o → first refusals ≡ v
    by_first (Some why) e = e ∙ sym (s.refused why e)
    by_first None e =
        e ∙ sym (one_of (value on (condition_of across)) (some_holds on (places left n (drop n fs))) ((value on (condition_of across) || some_holds on (places left n (drop n fs))) || false)
        (or-false (value on (condition_of across) || some_holds on (places left n (drop n fs)))) (s.held e)
        (λ t. sym ((s.carry e).0 t) ∙ ends n (omega arith))
        (λ t. none_left left n (drop n fs) ends (s.carry e).1 t))

pub starts :
    {N : Type 0} (on : ℕ → Bool) (left : ℕ → Option N) (refusals : List N) (fs : List Formula) → refusals ≡ [] → fs ≡ True ∷ [] → Leads on (left 0) refusals (places left 0 fs) []
starts on left refusals fs none is = rw (none, is) (record {
  refused = λ why found. cc;
  held = λ e. rw condition_of-True refl;
  carry = λ e. ((λ t. refl), tt);
  carry_below = λ e. tt;
})

rest_left : {N : Type 0} (h t : Bool) (a b why : Option N) → IsTrue h → a ≡ or_later (if t then why else None) b → a ≡ or_later (if h && t then why else None) b
rest_left true t a b why held is = is
rest_left false t a b why held is = cc

rest_elsewhere : {N : Type 0} (h t : Bool) (why : Option N) → h ≡ false → (if h && t then why else None) ≡ None
rest_elsewhere true t why off = cc
rest_elsewhere false t why off = refl

-- the last row refuses what is there
pub rest_step :
    {T N : Type 0} (on : ℕ → Bool) (v why : Option N) (old new : List N) (across at here : Formula) (left : ℕ → Option N) (ys : List (Guarded T)) (y : Guarded T) (n : ℕ) (fs : List Formula)
    → condition_of at ≡ condition_of (get_or fs n False) → value on (condition_of here) ≡ (value on (condition_of at) || value on (condition_of across))
    → first new ≡ or_later (first old) (if value on (condition_of here) && there on y then why else None) → drop n ys ≡ y ∷ drop (n + 1) ys → LeftAlone on why left n (drop n ys)
    → Leads on v old (leaving across (left n) ∷ places left n (drop n fs)) [] → Leads on v new (leaving here (left (n + 1)) ∷ places left (n + 1) (drop (n + 1) fs)) []
rest_step on v why old new across at here left ys y n fs is_at is_here is_new e alone s =
    let alone' = rw e at alone in
    refused_there on v (left n) (left (n + 1)) old new here (places left (n + 1) (drop (n + 1) fs)) [] (if value on (condition_of here) && there on y then why else None) is_new
    (λ t. rest_left (value on (condition_of here)) (there on y) (left n) (left (n + 1)) why t alone'.0) (rest_elsewhere (value on (condition_of here)) (there on y) why)
    (rest_comes_in on v old across at here left n fs is_at is_here s)

-- what is there of the second list alone
module _ {T P Q N : Type 0} (on : ℕ → Bool) (Is : T → Q → Type 0) (rule : Rule P Q N) where
  alone_now : (there_now : Bool) (x : T) (qs : List Q) → StartsWith there_now Is x qs
      → matched rule [] qs ≡ or_later (if there_now then rule.second_longer else None) (matched rule [] (behind there_now qs))
  alone_now true x [] s = absurd s
  alone_now true x (q ∷ []) s = again rule.second_longer where
    again : (o : Option N) → o ≡ or_later o None
    again None = refl
    again (Some why) = refl
  alone_now true x (q ∷ (r ∷ qs)) s = again rule.second_longer where
    again : (o : Option N) → o ≡ or_later o o
    again None = refl
    again (Some why) = refl
  alone_now false x qs s = refl

  pub left_alone : (left : ℕ → Option N) (n : ℕ) (ys : List (Guarded T)) (qs : List Q) → AreThere on Is ys qs → ((k : ℕ) → left (n + k) ≡ matched rule [] (after on ys qs k))
      → LeftAlone on rule.second_longer left n ys
  left_alone left n [] qs none is = λ k le.
      let e : n + (k - n) ≡ k = omega arith in
      ap left (sym e) ∙ (is (k - n) ∙ (ap (matched rule []) (nothing_after (k - n)) ∙ ap (matched rule []) none)) where
        nothing_after : (m : ℕ) → after {T = T} on [] qs m ≡ qs
        nothing_after zero = refl
        nothing_after (suc m) = refl
  left_alone left n (y ∷ ys) qs h is = (
    here ∙ (alone_now (there on y) y.what qs h.0 ∙ ap (or_later (if there on y then rule.second_longer else None)) (sym behind_here)),
    left_alone left (n + 1) ys (behind (there on y) qs) h.1 later,
  ) where
    here : left n ≡ matched rule [] qs
    here = let e : n + 0 ≡ n = omega arith in ap left (sym e) ∙ is 0

    behind_here : left (n + 1) ≡ matched rule [] (behind (there on y) qs)
    behind_here = is 1

    later : (k : ℕ) → left ((n + 1) + k) ≡ matched rule [] (after on ys (behind (there on y) qs) k)
    later k = let e : (n + 1) + k ≡ n + suc k = omega arith in ap left e ∙ is (suc k)

-- the last place of a row
pub row_ends :
    {T P Q N : Type 0} (on : ℕ → Bool) (v : Option N) (rule : Rule P Q N) (x : Guarded T) (IsFirst : T → P → Type 0) (ps : List P) (old new : List N) (across diagonal at here under : Formula)
    (left left_below : ℕ → Option N) (n : ℕ) (fs below more : List Formula)
    → left n ≡ matched rule ps [] → left_below n ≡ matched rule (behind (there on x) ps) [] → StartsWith (there on x) IsFirst x.what ps
    → length fs ≤ n + 1 → length below ≡ n → more ≡ below ++ under ∷ [] → condition_of at ≡ condition_of (get_or fs n False)
    → value on (condition_of here) ≡ (value on (condition_of at) || value on (condition_of across))
    → value on (condition_of under) ≡ (value on (condition_of diagonal) || value on (condition_of here))
    → first new ≡ or_later (first old) (if value on (condition_of here) && there on x then rule.first_longer else None)
    → Leads on v old (leaving across (left n) ∷ leaving diagonal (left_below n) ∷ places left n (drop n fs)) (places left_below 0 below) → Leads on v new (places left_below 0 more) []
row_ends {T} {P} {Q} {N} on v rule x IsFirst ps old new across diagonal at here under left left_below n fs below more is_left is_below sx few long is is_at is_here is_under is_new s =
    let past = drop_all (n + 1) fs few in
    let open_last = opened on v old (left n) (left_below n) across diagonal at left n fs (places left_below 0 below) is_at s in
    let only = subst (λ rest. Leads on v old (leaving across (left n) ∷ leaving diagonal (left_below n) ∷ leaving at (left n) ∷ places left (n + 1) rest) (places left_below 0 below)) past open_last in
    let joined = comes_in on v old (left n) (left_below n) [] (places left_below 0 below) across diagonal at here is_here only in
    let refused = refused_there on v (left n) (left_below n) old new here (leaving diagonal (left_below n) ∷ []) (places left_below 0 below)
    (if value on (condition_of here) && there on x then rule.first_longer else None) is_new
    (λ t. last_left (value on (condition_of here)) (there on x) x.what ps t sx (left n) (left_below n) is_left is_below) (rest_elsewhere (value on (condition_of here)) (there on x) rule.first_longer) joined in
    last_pushed on v new (left_below n) under left_below n below more long is refl
    (ends_under on v new (left_below n) (left_below n) [] (places left_below 0 below) here diagonal under is_under refl refused) where
      again : (o : Option N) → o ≡ or_later o None
      again None = refl
      again (Some why) = refl

      twice : (o : Option N) → o ≡ or_later o o
      twice None = refl
      twice (Some why) = refl

      alone : (x_there : Bool) (a : T) (ps : List P) → StartsWith x_there IsFirst a ps → matched rule ps [] ≡ or_later (if x_there then rule.first_longer else None) (matched rule (behind x_there ps) [])
      alone true a [] s = absurd s
      alone true a (p ∷ []) s = again rule.first_longer
      alone true a (p ∷ (r ∷ ps)) s = twice rule.first_longer
      alone false a ps s = refl

      last_left : (h x_there : Bool) (a : T) (ps : List P) → IsTrue h → StartsWith x_there IsFirst a ps → (l b : Option N) → l ≡ matched rule ps [] → b ≡ matched rule (behind x_there ps) []
          → l ≡ or_later (if h && x_there then rule.first_longer else None) b
      last_left h x_there a ps t sx l b is_l is_b =
          rest_left h x_there l b rule.first_longer t (is_l ∙ (alone x_there a ps sx ∙ ap (or_later (if x_there then rule.first_longer else None)) (sym is_b)))
