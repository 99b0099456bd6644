-- What is shown of judgements.
use Rattle.std.proofs.Common.{◌≡◌, ℕ, Bool, true, false, not, if◌then◌else◌, ◌&&◌, ◌||◌, List, [], ◌∷◌, ◌++◌, Some, IsTrue, refl, ap, ◌∙◌, append-nil}
use Rattle.cond_formula.specs.Conditions.{Condition, value}
use Rattle.conditional.specs.declared.lists.CondList.{CondList}
use Rattle.conditional.specs.declared.outcomes.Outcomes.{Outcomes}
use Rattle.conditional.specs.Entries.{Entry, listed, alternatives, seen, under, first, some_holds, Stands, Places, PlacesUnder}
use Rattle.conditional.specs.Judgements.{Checked, fine, refused, Shows, Judges, JudgesUnder}
use Rattle.conditional.proofs.ValueLaws.{none_carry, never, or_right}

-- what is shown for sure is shown under less
pub weaken : {T R P Q : Type 0} (form : T → P) (reason : R → Q) (on : ℕ → Bool) (b less : Bool) (v : Checked P Q) (all : Outcomes T R) → (IsTrue less → IsTrue b) →
    Shows form reason on b v all → Shows form reason on less v all
weaken form reason on b less (fine w) all h s = record { shown = record { not_refused = s.shown.not_refused; held = λ t. s.shown.held (h t); carry = s.shown.carry } }
weaken form reason on b less (refused why) all h s = record { shown = record { only = s.shown.only; held = λ t. s.shown.held (h t) } }

-- ---- one more outcome

same_value : {P Q : Type 0} (x y : P) → ◌≡◌ {A = Checked P Q} (fine x) (fine y) → x ≡ y
same_value x y e = cc

same_refusal : {P Q : Type 0} (x y : Q) → ◌≡◌ {A = Checked P Q} (refused x) (refused y) → x ≡ y
same_refusal x y e = cc

-- what is nowhere shown leaves what is shown
still : {C : Type 0} (x y : C) (A : Type 0) (b t : Bool) → (x ≡ y → ⊥) → (IsTrue b → A) → (IsTrue t → x ≡ y) → IsTrue (b || t) → A
still x y A true t other held h s = held refl
still x y A false t other held h s = absurd (other (h s))

fine-refused : {P Q : Type 0} (x : P) (why : Q) → ◌≡◌ {A = Checked P Q} (fine x) (refused why) → ⊥
fine-refused x why e = cc

refused-fine : {P Q : Type 0} (x : P) (why : Q) → ◌≡◌ {A = Checked P Q} (refused why) (fine x) → ⊥
refused-fine x why e = cc

pub judged_fine : {T R P Q : Type 0} (form : T → P) (reason : R → Q) (on : ℕ → Bool) (what : P) (when : Condition) (old new : Outcomes T R) →
    Places on when what (alternatives form old.fine) (alternatives form new.fine) → new.refused ≡ old.refused → Judges form reason on when (fine what) old new
judged_fine {T} {R} {P} {Q} form reason on what when old new placed kept = record {
  shows = λ b v. elim v as (λ v. Shows form reason on b v old → (IsTrue (value on when) → fine what ≡ v) → Shows form reason on (b || value on when) v new) [
    | fine w ↦ λ s h. record {
      shown = record {
        not_refused = rw kept s.shown.not_refused;
        held = λ t. rw placed.held (either_of (some_holds on (alternatives form old.fine)) b (value on when) s.shown.held t);
        carry = placed.carry w s.shown.carry (λ t. same_value what w (h t));
      };
    }
    | refused why ↦ λ s h. record {
      shown = record {
        only = rw kept s.shown.only;
        held = rw kept (still (fine what) (refused why) _ b (value on when) (fine-refused what why) s.shown.held h);
      };
    }
  ];
} where
  either_of : (k b t : Bool) → (IsTrue b → IsTrue k) → IsTrue (b || t) → IsTrue (k || t)
  either_of true b t held s = refl
  either_of false true t held s = let e : IsTrue false = held refl in cc
  either_of false false t held s = s

none_more : {P Q : Type 0} (w : P) (why : Q) (t : Bool) (old new : List Q) → old ≡ [] → new ≡ old ++ under t (why ∷ []) → (IsTrue t → ◌≡◌ {A = Checked P Q} (refused why) (fine w)) → new ≡ []
none_more w why true old new none is h = absurd (refused-fine w why (h refl))
none_more w why false old new none is h = is ∙ append-nil old ∙ none

only_after : {Q : Type 0} (t : Bool) (x why : Q) (old : List Q) → ((other : Q) → first old ≡ Some other → other ≡ why) → (IsTrue t → x ≡ why) →
    (other : Q) → first (old ++ under t (x ∷ [])) ≡ Some other → other ≡ why
only_after true x why [] only h other found = let e = h refl in cc
only_after false x why [] only h other found = cc
only_after t x why (y ∷ rest) only h other found = only other found

first_after : {Q : Type 0} (b t : Bool) (x why : Q) (old : List Q) → ((other : Q) → first old ≡ Some other → other ≡ why) → (IsTrue b → first old ≡ Some why) → (IsTrue t → x ≡ why) →
    IsTrue (b || t) → first (old ++ under t (x ∷ [])) ≡ Some why
first_after true t x why [] only held h s = let e = held refl in cc
first_after false true x why [] only held h s = ap Some (h refl)
first_after false false x why [] only held h s = cc
first_after b t x why (y ∷ rest) only held h s = ap Some (only y refl)

pub judged_refused : {T R P Q : Type 0} (form : T → P) (reason : R → Q) (on : ℕ → Bool) (why : Q) (when : Condition) (old new : Outcomes T R) →
    new.fine ≡ old.fine → seen on (listed reason new.refused) ≡ seen on (listed reason old.refused) ++ under (value on when) (why ∷ []) → Judges form reason on when (refused why) old new
judged_refused {T} {R} {P} {Q} form reason on why when old new kept is = record {
  shows = λ b v. elim v as (λ v. Shows form reason on b v old → (IsTrue (value on when) → refused why ≡ v) → Shows form reason on (b || value on when) v new) [
    | fine w ↦ λ s h. record {
      shown = record {
        not_refused = none_more w why (value on when) (seen on (listed reason old.refused)) (seen on (listed reason new.refused)) s.shown.not_refused is h;
        held = rw kept (still (refused why) (fine w) _ b (value on when) (refused-fine w why) s.shown.held h);
        carry = rw kept s.shown.carry;
      };
    }
    | refused cause ↦ λ s h. record {
      shown = record {
        only = rw is (only_after (value on when) why cause (seen on (listed reason old.refused)) s.shown.only (λ t. same_refusal {P = P} why cause (h t)));
        held = rw is (first_after b (value on when) why cause (seen on (listed reason old.refused)) s.shown.only s.shown.held (λ t. same_refusal {P = P} why cause (h t)));
      };
    }
  ];
}

-- a condition that is false adds nothing
pub judged_nowhere : {T R P Q : Type 0} (form : T → P) (reason : R → Q) (on : ℕ → Bool) (what : Checked P Q) (when : Condition) (old new : Outcomes T R) →
    value on when ≡ false → new ≡ old → Judges form reason on when what old new
judged_nowhere form reason on what when old new off same = record {
  shows = λ b v s h. rw (off, same) (weaken form reason on b (b || false) v old (no_more b) s);
} where
  no_more : (b : Bool) → IsTrue (b || false) → IsTrue b
  no_more true s = refl
  no_more false s = s

-- ---- a judgement after an earlier one

first-append : {Q : Type 0} (why : Q) (xs ys : List Q) → first xs ≡ Some why → first (xs ++ ys) ≡ Some why
first-append why [] ys is = cc
first-append why (x ∷ xs) ys is = is

-- the refusals of an earlier judgement stand before those of a later one
pub record IsAfter {T R Q : Type 0} (reason : R → Q) (on : ℕ → Bool) (earlier : CondList R) (all new : Outcomes T R) : Type 0 where
  pub values : new.fine ≡ all.fine
  pub refusals : seen on (listed reason new.refused) ≡ seen on (listed reason earlier) ++ seen on (listed reason all.refused)

pub after_refusal : {T R P Q : Type 0} (form : T → P) (reason : R → Q) (on : ℕ → Bool) (earlier : CondList R) (all new : Outcomes T R) (why : Q) → IsAfter reason on earlier all new →
    first (seen on (listed reason earlier)) ≡ Some why → Shows form reason on true (refused why) new
after_refusal form reason on earlier all new why is found =
    let e = first-append why (seen on (listed reason earlier)) (seen on (listed reason all.refused)) found in
    record {
      shown = record {
        only = rw (is.refusals, e) (λ other s. cc);
        held = rw (is.refusals, e) (λ t. refl);
      };
    }

pub after_value : {T R P Q : Type 0} (form : T → P) (reason : R → Q) (on : ℕ → Bool) (b : Bool) (v : Checked P Q) (earlier : CondList R) (all new : Outcomes T R) → IsAfter reason on earlier all new →
    seen on (listed reason earlier) ≡ [] → Shows form reason on b v all → Shows form reason on b v new
after_value {T} {R} {P} {Q} form reason on b v earlier all new is none s = by_outcome (is.refusals ∙ ap (λ (l : List Q). l ++ seen on (listed reason all.refused)) none) v s where
  by_outcome : seen on (listed reason new.refused) ≡ seen on (listed reason all.refused) → (v : Checked P Q) → Shows form reason on b v all → Shows form reason on b v new
  by_outcome e (fine w) s = record {
    shown = record { not_refused = e ∙ s.shown.not_refused; held = rw is.values s.shown.held; carry = rw is.values s.shown.carry };
  }
  by_outcome e (refused why) s = record { shown = record { only = rw e s.shown.only; held = rw e s.shown.held } }

pub nothing_shown : {T R P Q : Type 0} (form : T → P) (reason : R → Q) (on : ℕ → Bool) (v : Checked P Q) (all : Outcomes T R) →
    some_holds on (alternatives form all.fine) ≡ false → seen on (listed reason all.refused) ≡ [] → Shows form reason on false v all
nothing_shown form reason on (fine w) all none empty = record { shown = record { not_refused = empty; held = λ t. cc; carry = none_carry on w (alternatives form all.fine) none } }
nothing_shown form reason on (refused why) all none empty = record { shown = record { only = rw empty (λ other found. cc); held = λ t. cc } }

-- ---- another judgement under a condition

none_under : {Q : Type 0} (t : Bool) (more old new : List Q) → new ≡ old ++ under t more → old ≡ [] → (IsTrue t → more ≡ []) → new ≡ []
none_under {Q} true more old new is none h = is ∙ ap (λ (l : List Q). l ++ more) none ∙ h refl
none_under false more old new is none h = is ∙ append-nil old ∙ none

only_under : {Q : Type 0} (t : Bool) (why : Q) (more old : List Q) → ((other : Q) → first old ≡ Some other → other ≡ why) → (IsTrue t → (other : Q) → first more ≡ Some other → other ≡ why) →
    (other : Q) → first (old ++ under t more) ≡ Some other → other ≡ why
only_under true why more [] only h other found = h refl other found
only_under false why more [] only h other found = cc
only_under t why more (x ∷ rest) only h other found = only other found

first_under : {Q : Type 0} (b t k : Bool) (why : Q) (more old : List Q) → ((other : Q) → first old ≡ Some other → other ≡ why) → (IsTrue b → first old ≡ Some why) →
    (IsTrue t → IsTrue k → first more ≡ Some why) → IsTrue (b || (t && k)) → first (old ++ under t more) ≡ Some why
first_under true t k why more [] only held h s = let e = held refl in cc
first_under false true k why more [] only held h s = h refl s
first_under false false k why more [] only held h s = cc
first_under b t k why more (x ∷ rest) only held h s = ap Some (only x refl)

held_under : (n o b t k m : Bool) → n ≡ (o || (t && m)) → (IsTrue b → IsTrue o) → (IsTrue t → IsTrue k → IsTrue m) → IsTrue (b || (t && k)) → IsTrue n
held_under n o true t k m is held h s = rw is (left o (t && m) (held refl)) where
  left : (s t : Bool) → IsTrue s → IsTrue (s || t)
  left true t h = refl
  left false t h = cc
held_under n o false true k m is held h s = rw is (or_right o m (h refl s))
held_under n o false false k m is held h s = cc

pub judged_under : {T R P Q : Type 0} (form : T → P) (reason : R → Q) (on : ℕ → Bool) (when : Condition) (more old new : Outcomes T R) →
    PlacesUnder on when (alternatives form more.fine) (alternatives form old.fine) (alternatives form new.fine) →
    seen on (listed reason new.refused) ≡ seen on (listed reason old.refused) ++ under (value on when) (seen on (listed reason more.refused)) →
    JudgesUnder form reason on when more old new
judged_under {T} {R} {P} {Q} form reason on when more old new placed is = record {
  shows = λ b k v. elim v as (λ v. Shows form reason on b v old → (IsTrue (value on when) → Shows form reason on k v more) → Shows form reason on (b || (value on when && k)) v new) [
    | fine w ↦ λ s h. record {
      shown = record {
        not_refused = none_under (value on when) (seen on (listed reason more.refused)) (seen on (listed reason old.refused)) (seen on (listed reason new.refused)) is s.shown.not_refused (λ t. (h t).shown.not_refused);
        held = held_under (some_holds on (alternatives form new.fine)) (some_holds on (alternatives form old.fine)) b (value on when) k (some_holds on (alternatives form more.fine)) placed.held s.shown.held (λ t. (h t).shown.held);
        carry = placed.carry w s.shown.carry (λ t. (h t).shown.carry);
      };
    }
    | refused why ↦ λ s h. record {
      shown = record {
        only = rw is (only_under (value on when) why (seen on (listed reason more.refused)) (seen on (listed reason old.refused)) s.shown.only (λ t. (h t).shown.only));
        held = rw is (first_under b (value on when) k why (seen on (listed reason more.refused)) (seen on (listed reason old.refused)) s.shown.only s.shown.held (λ t. (h t).shown.held));
      };
    }
  ];
}

pub judgement_chosen : {T R P Q : Type 0} (form : T → P) (reason : R → Q) (on : ℕ → Bool) (when elsewhere : Condition) (chosen otherwise empty mid new : Outcomes T R) → value on elsewhere ≡ not (value on when) →
    ((v : Checked P Q) → Shows form reason on false v empty) → JudgesUnder form reason on when chosen empty mid → JudgesUnder form reason on elsewhere otherwise mid new →
    (p q : Checked P Q) → Shows form reason on true p chosen → Shows form reason on true q otherwise → Shows form reason on true (if value on when then p else q) new
judgement_chosen {T} {R} {P} {Q} form reason on when elsewhere chosen otherwise empty mid new opposite nothing first second p q sp sq = by_test (value on when) refl where
  shown : (v : Checked P Q) → (IsTrue (value on when) → Shows form reason on true v chosen) → (IsTrue (value on elsewhere) → Shows form reason on true v otherwise) →
      Shows form reason on ((false || (value on when && true)) || (value on elsewhere && true)) v new
  shown v h k = second.shows _ true v (first.shows false true v (nothing v) h) k

  covered : (t e : Bool) → e ≡ not t → IsTrue ((false || (t && true)) || (e && true))
  covered true e is = refl
  covered false true is = refl
  covered false false is = cc

  by_test : (t : Bool) → value on when ≡ t → Shows form reason on true (if t then p else q) new
  by_test true is =
      weaken form reason on _ true p new (λ t. covered (value on when) (value on elsewhere) opposite) (shown p (λ t. sp) (never (value on elsewhere) (opposite ∙ ap not is)))
  by_test false off =
      weaken form reason on _ true q new (λ t. covered (value on when) (value on elsewhere) opposite) (shown q (never (value on when) off) (λ t. sq))

-- ---- a value that stands where nothing else does

none_holds : {P : Type 0} (on : ℕ → Bool) (xs : List (Entry P)) → seen on xs ≡ [] → some_holds on xs ≡ false
none_holds on [] none = refl
none_holds {P} on (x ∷ xs) none = by_test (value on x.when) none (none_holds on xs) where
  by_test : (t : Bool) → (if t then x.what ∷ seen on xs else seen on xs) ≡ [] → (seen on xs ≡ [] → some_holds on xs ≡ false) → (t || some_holds on xs) ≡ false
  by_test true none later = cc
  by_test false none later = later none

pub condensed_shows : {T R P Q : Type 0} (form : T → P) (reason : R → Q) (on : ℕ → Bool) (old new : Outcomes T R) → new.refused ≡ old.refused →
    ((v : P) → some_holds on (listed reason old.refused) ≡ false → Stands on v (alternatives form old.fine) → Stands on v (alternatives form new.fine)) →
    (v : Checked P Q) → Shows form reason on true v old → Shows form reason on true v new
condensed_shows form reason on old new kept elsewhere (fine v) s =
    let stands = elsewhere v (none_holds on (listed reason old.refused) s.shown.not_refused) (record { held = s.shown.held refl; carry = s.shown.carry }) in
    record { shown = record { not_refused = rw kept s.shown.not_refused; held = λ t. stands.held; carry = stands.carry } }
condensed_shows form reason on old new kept elsewhere (refused why) s =
    record { shown = record { only = rw kept s.shown.only; held = rw kept s.shown.held } }
