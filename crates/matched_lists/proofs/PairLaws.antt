-- How a pair of places moves on.
use Rattle.std.proofs.Common.{◌≡◌, ℕ, Bool, true, false, not, ◌&&◌, ◌||◌, if◌then◌else◌, List, [], ◌∷◌, ◌++◌, Option, None, Some, IsTrue, refl, sym, ◌∙◌}
use Rattle.cond_formula.specs.declared.formulas.Formula.{Formula}
use Rattle.cond_formula.specs.Conditions.{condition_of, value}
use Rattle.conditional.specs.Entries.{Entry, under, first, or_later, some_holds}
use Rattle.matched_lists.specs.Matched.{Rule, matched, StartsWith, behind}
use Rattle.matched_lists.specs.Rows.{leaving, Leads, MovesOn}

some_none : {A N : Type 0} (why : N) → ◌≡◌ {A = Option N} (Some why) None → A
some_none why e = cc

none_some : {A N : Type 0} (why : N) → ◌≡◌ {A = Option N} None (Some why) → A
none_some why e = cc

no_later : {N : Type 0} (o : Option N) → or_later o None ≡ o
no_later None = refl
no_later (Some why) = refl

-- ---- refusals

module _ {N : Type 0} (on : ℕ → Bool) (v a b : Option N) (old new : List N) (here : Formula) (row below : List (Entry (Option N))) where
  by_old :
      (o w : Option N) → first old ≡ o → first new ≡ or_later o w → (IsTrue (value on (condition_of here)) → a ≡ or_later w b) → (value on (condition_of here) ≡ false → w ≡ None)
      → Leads on v old (leaving here a ∷ row) below → Leads on v new (leaving here b ∷ row) below
  by_old (Some why) w was is left off s = record {
    refused = λ other found. s.refused other (was ∙ (sym is ∙ found));
    held = λ none. some_none why (sym is ∙ none);
    carry = λ none. some_none why (sym is ∙ none);
    carry_below = λ none. some_none why (sym is ∙ none);
  }
  by_old None (Some why) was is left off s = record {
    refused = λ other found. by_test (value on (condition_of here)) refl ∙ (sym is ∙ found);
    held = λ none. some_none why (sym is ∙ none);
    carry = λ none. some_none why (sym is ∙ none);
    carry_below = λ none. some_none why (sym is ∙ none);
  } where
    by_test : (t : Bool) → value on (condition_of here) ≡ t → v ≡ Some why
    by_test true e = sym ((s.carry was).0 e) ∙ left e
    by_test false e = some_none why (off e)
  by_old None None was is left off s = record {
    refused = λ other found. none_some other (sym is ∙ found);
    held = λ none. s.held was;
    carry = λ none. ((λ t. sym (left t) ∙ (s.carry was).0 t), (s.carry was).1);
    carry_below = λ none. s.carry_below was;
  }

  -- what is refused at a place, and what is left behind it
  pub refused_there :
      (w : Option N) → first new ≡ or_later (first old) w → (IsTrue (value on (condition_of here)) → a ≡ or_later w b) → (value on (condition_of here) ≡ false → w ≡ None)
      → Leads on v old (leaving here a ∷ row) below → Leads on v new (leaving here b ∷ row) below
  refused_there w = by_old (first old) w refl

-- what is left at a pair of places, once it has been matched
abbrev pub left_behind : {P Q N : Type 0} → Rule P Q N → Bool → Bool → List P → List Q → Option N
left_behind rule x y ps qs = if x && y then matched rule (behind x ps) (behind y qs) else matched rule ps qs

here_alone : {N : Type 0} (h : Bool) (w b : Option N) → IsTrue h → or_later w b ≡ or_later (if h && (true && true) then w else None) b
here_alone true w b t = refl
here_alone false w b t = cc

elsewhere_none : {N : Type 0} (h t : Bool) (w : Option N) → h ≡ false → (if h && t then w else None) ≡ None
elsewhere_none true t w off = cc
elsewhere_none false t w off = refl

and_false : (h : Bool) → (h && false) ≡ false
and_false true = refl
and_false false = refl

pub pair_refused :
    {A B P Q N : Type 0} (on : ℕ → Bool) (v : Option N) (rule : Rule P Q N) (IsFirst : A → P → Type 0) (IsSecond : B → Q → Type 0) (a : A) (b : B) (x y : Bool) (ps : List P) (qs : List Q)
    (old new : List N) (here : Formula) (row below : List (Entry (Option N)))
    → ((p : P) (q : Q) → IsFirst a p → IsSecond b q → first new ≡ or_later (first old) (if value on (condition_of here) && (x && y) then rule.pair p q else None))
    → ((value on (condition_of here) && (x && y)) ≡ false → first new ≡ first old)
    → StartsWith x IsFirst a ps → StartsWith y IsSecond b qs
    → Leads on v old (leaving here (matched rule ps qs) ∷ row) below → Leads on v new (leaving here (left_behind rule x y ps qs) ∷ row) below
pair_refused on v rule IsFirst IsSecond a b true true (p ∷ ps) (q ∷ qs) old new here row below pair alone sx sy s =
    refused_there on v (matched rule (p ∷ ps) (q ∷ qs)) (matched rule ps qs) old new here row below
    (if value on (condition_of here) && (true && true) then rule.pair p q else None) (pair p q sx sy)
    (λ t. here_alone (value on (condition_of here)) (rule.pair p q) (matched rule ps qs) t) (elsewhere_none (value on (condition_of here)) true (rule.pair p q)) s
pair_refused on v rule IsFirst IsSecond a b true true (p ∷ ps) [] old new here row below pair alone sx sy s = absurd sy
pair_refused on v rule IsFirst IsSecond a b true true [] qs old new here row below pair alone sx sy s = absurd sx
pair_refused on v rule IsFirst IsSecond a b true false ps qs old new here row below pair alone sx sy s =
    refused_there on v (matched rule ps qs) (matched rule ps qs) old new here row below None (alone (and_false (value on (condition_of here))) ∙ sym (no_later (first old))) (λ t. refl) (λ off. refl) s
pair_refused on v rule IsFirst IsSecond a b false y ps qs old new here row below pair alone sx sy s =
    refused_there on v (matched rule ps qs) (matched rule ps qs) old new here row below None (alone (and_false (value on (condition_of here))) ∙ sym (no_later (first old))) (λ t. refl) (λ off. refl) s

-- the refusals of a pair, where both of its entries are there
pub refused_under : {N : Type 0} (t : Bool) (w : Option N) (old more new : List N) → new ≡ old ++ under t more → first more ≡ w → first new ≡ or_later (first old) (if t then w else None)
refused_under true w [] more new is found = rw is found
refused_under true w (why ∷ old) more new is found = rw is refl
refused_under false w [] more new is found = rw is refl
refused_under false w (why ∷ old) more new is found = rw is refl

-- ---- moves

first_of : {A : Type 0} (h x y f : Bool) → f ≡ (h && (y && not x)) → IsTrue f → (IsTrue h → x ≡ false → y ≡ true → A) → A
first_of true false true f e t next = next refl refl refl
first_of true true true f e t next = let t' = rw e at t in cc
first_of true x false f e t next = let t' = rw e at t in cc
first_of false x y f e t next = let t' = rw e at t in cc

both_of :
    {A : Type 0} (h x y f s b : Bool) → f ≡ (h && (y && not x)) → s ≡ (h && (x && not y)) → b ≡ (h && (not f && not s)) → IsTrue b → (IsTrue h → x ≡ y → A) → A
both_of true true true f s b is_f is_s is_b t next = next refl refl
both_of true false false f s b is_f is_s is_b t next = next refl refl
both_of true true false f s b is_f is_s is_b t next = let t' = rw (is_b, is_f, is_s) at t in cc
both_of true false true f s b is_f is_s is_b t next = let t' = rw (is_b, is_f) at t in cc
both_of false x y f s b is_f is_s is_b t next = let t' = rw is_b at t in cc

moved_held :
    (h x y f s b r d : Bool) → f ≡ (h && (y && not x)) → s ≡ (h && (x && not y)) → b ≡ (h && (not f && not s)) → IsTrue ((h || r) || d) → IsTrue ((f || (s || (b || r))) || d)
moved_held true true true f s b r d is_f is_s is_b t = rw (is_b, is_f, is_s) refl
moved_held true true false f s b r d is_f is_s is_b t = rw (is_b, is_f, is_s) refl
moved_held true false true f s b r d is_f is_s is_b t = rw (is_b, is_f) refl
moved_held true false false f s b r d is_f is_s is_b t = rw (is_b, is_f, is_s) refl
moved_held false x y f s b r d is_f is_s is_b t = rw (is_b, is_f, is_s) t

pub moved :
    {N : Type 0} (on : ℕ → Bool) (v : Option N) (refusals : List N) (left on_first on_second on_both : Option N) (here first second both : Formula) (x y : Bool) (row below : List (Entry (Option N)))
    → MovesOn (value on (condition_of here)) x y (value on (condition_of first)) (value on (condition_of second)) (value on (condition_of both))
    → (x ≡ false → y ≡ true → on_first ≡ left) → (x ≡ true → y ≡ false → on_second ≡ left) → (x ≡ y → on_both ≡ left)
    → Leads on v refusals (leaving here left ∷ row) below → Leads on v refusals (leaving first on_first ∷ leaving second on_second ∷ leaving both on_both ∷ row) below
moved on v refusals left on_first on_second on_both here first second both x y row below m is_first is_second is_both s = record {
  refused = s.refused;
  held = λ none.
      moved_held (value on (condition_of here)) x y (value on (condition_of first)) (value on (condition_of second)) (value on (condition_of both)) (some_holds on row) (some_holds on below)
      m.first_moves m.second_moves m.both_move (s.held none);
  carry = λ none. (
    (λ t. first_of (value on (condition_of here)) x y (value on (condition_of first)) m.first_moves t (λ h ex ey. is_first ex ey ∙ (s.carry none).0 h)),
    (
      (λ t. first_of (value on (condition_of here)) y x (value on (condition_of second)) m.second_moves t (λ h ey ex. is_second ex ey ∙ (s.carry none).0 h)),
      (
        (λ t. both_of (value on (condition_of here)) x y (value on (condition_of first)) (value on (condition_of second)) (value on (condition_of both))
            m.first_moves m.second_moves m.both_move t (λ h e. is_both e ∙ (s.carry none).0 h)),
        (s.carry none).1,
      ),
    ),
  );
  carry_below = s.carry_below;
}

behind_first : {P Q N : Type 0} (rule : Rule P Q N) (x y : Bool) (ps : List P) (qs : List Q) → x ≡ false → y ≡ true → matched rule (behind x ps) qs ≡ left_behind rule x y ps qs
behind_first rule true y ps qs ex ey = cc
behind_first rule false y ps qs ex ey = refl

behind_second : {P Q N : Type 0} (rule : Rule P Q N) (x y : Bool) (ps : List P) (qs : List Q) → x ≡ true → y ≡ false → matched rule ps (behind y qs) ≡ left_behind rule x y ps qs
behind_second rule x true ps qs ex ey = cc
behind_second rule true false ps qs ex ey = refl
behind_second rule false false ps qs ex ey = refl

behind_both : {P Q N : Type 0} (rule : Rule P Q N) (x y : Bool) (ps : List P) (qs : List Q) → x ≡ y → matched rule (behind x ps) (behind y qs) ≡ left_behind rule x y ps qs
behind_both rule true true ps qs e = refl
behind_both rule true false ps qs e = cc
behind_both rule false true ps qs e = cc
behind_both rule false false ps qs e = refl

-- a pair of places that has been matched moves on
pub pair_moved :
    {P Q N : Type 0} (on : ℕ → Bool) (v : Option N) (refusals : List N) (rule : Rule P Q N) (ps : List P) (qs : List Q) (here first second both : Formula) (x y : Bool) (row below : List (Entry (Option N)))
    → MovesOn (value on (condition_of here)) x y (value on (condition_of first)) (value on (condition_of second)) (value on (condition_of both))
    → Leads on v refusals (leaving here (left_behind rule x y ps qs) ∷ row) below
    → Leads on v refusals (leaving first (matched rule (behind x ps) qs) ∷ leaving second (matched rule ps (behind y qs)) ∷ leaving both (matched rule (behind x ps) (behind y qs)) ∷ row) below
pair_moved on v refusals rule ps qs here first second both x y row below m s =
    moved on v refusals (left_behind rule x y ps qs) (matched rule (behind x ps) qs) (matched rule ps (behind y qs)) (matched rule (behind x ps) (behind y qs)) here first second both x y row below m
    (behind_first rule x y ps qs) (behind_second rule x y ps qs) (behind_both rule x y ps qs) s
