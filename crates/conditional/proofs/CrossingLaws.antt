-- Operators on two judgements.
use Rattle.std.proofs.Common.{◌≡◌, ℕ, ◌+◌, ◌<◌, ◌≤◌, Bool, true, false, not, ◌&&◌, ◌||◌, List, [], ◌∷◌, IsTrue, drop, length, get_or, refl, sym, ap, ◌∙◌}
use Rattle.std.proofs.lemmas.List.{drop_all}
use Rattle.cond_formula.specs.Conditions.{Condition, value, condition_of}
use Rattle.conditional.specs.declared.entries.Guarded.{Guarded}
use Rattle.conditional.specs.declared.outcomes.Outcomes.{Outcomes}
use Rattle.conditional.specs.Entries.{Entry, entry_of, entries_of, alternatives, some_holds, Carry, Stands}
use Rattle.conditional.specs.Judgements.{Checked, fine, refused, bind, Shows, Judges, EachGives, IsCell, JudgesRow, JudgesAll}
use Rattle.conditional.proofs.ListLaws.{item_of}
use Rattle.conditional.proofs.ValueLaws.{carry_item}
use Rattle.conditional.proofs.JudgementLaws.{weaken, IsAfter, after_refusal, after_value}

-- what is the same for each alternative is so for the value that they carry
given_at : {B C Q : Type 0} (f : B → Checked C Q) (outcome : Checked C Q) (on : ℕ → Bool) (b : B) (ys : List (Entry B)) →
    EachGives f outcome ys → IsTrue (some_holds on ys) → Carry on b ys → outcome ≡ f b
given_at f outcome on b [] each held carry = cc
given_at f outcome on b (y ∷ ys) each held carry = by_test (value on y.when) held carry.0 (λ held. given_at f outcome on b ys each.1 held carry.1) where
  by_test : (t : Bool) → IsTrue (t || some_holds on ys) → (IsTrue t → y.what ≡ b) → (IsTrue (some_holds on ys) → outcome ≡ f b) → outcome ≡ f b
  by_test true held is later = sym each.0 ∙ ap f (is refl)
  by_test false held is later = later held

pub cell_of_column : {A B C Q : Type 0} (on : ℕ → Bool) (gives : A → B → Checked C Q) (xs : List (Entry A)) (x : Entry A) (y : Entry B) (outcome : Checked C Q) (when : Condition) →
    when ≡ y.when → EachGives (λ a. gives a y.what) outcome xs → IsCell on gives xs x y outcome when
cell_of_column on gives xs x y outcome when is each = rw is (record {
  covers = λ s t. t;
  right = λ a b stands is_x is_y t. given_at (λ a. gives a y.what) outcome on a xs each stands.held stands.carry ∙ ap (gives a) (is_y t);
})

pub cell_of_pair : {A B C Q : Type 0} (on : ℕ → Bool) (gives : A → B → Checked C Q) (xs : List (Entry A)) (x : Entry A) (y : Entry B) (outcome : Checked C Q) (when : Condition) →
    value on when ≡ (value on x.when && value on y.when) → outcome ≡ gives x.what y.what → IsCell on gives xs x y outcome when
cell_of_pair {A} {B} {C} {Q} on gives xs x y outcome when is given = record {
  covers = λ s t. rw is (both (value on x.when) (value on y.when) s t);
  right = λ a b stands is_x is_y t. given ∙ ap (λ (z : A). gives z y.what) (is_x (left (value on x.when) (value on y.when) (rw (← is) t))) ∙ ap (gives a) (is_y (right (value on x.when) (value on y.when) (rw (← is) t)));
} where
  both : (s t : Bool) → IsTrue s → IsTrue t → IsTrue (s && t)
  both true t h k = k
  both false t h k = h

  left : (s t : Bool) → IsTrue (s && t) → IsTrue s
  left true t h = refl
  left false t h = h

  right : (s t : Bool) → IsTrue (s && t) → IsTrue t
  right true t h = h
  right false t h = cc

cell_tests : (k x y r w : Bool) → (IsTrue x → IsTrue y → IsTrue w) → IsTrue (k || (x && not r)) → IsTrue ((k || (x && not (y || r))) || w)
cell_tests true x y r w covers s = refl
cell_tests false false y r w covers s = cc
cell_tests false true true r true covers s = refl
cell_tests false true true r false covers s = covers refl refl
cell_tests false true false true w covers s = cc
cell_tests false true false false w covers s = refl

pub cell_step : {A B T R C Q S : Type 0} (form_b : S → B) (form : T → C) (reason : R → Q) (on : ℕ → Bool) (gives : A → B → Checked C Q) (xs : List (Entry A)) (x : Entry A) (ys : List (Guarded S)) (y : Guarded S) (i : ℕ) (outcome : Checked C Q) (when : Condition) (old new : Outcomes T R) →
    i < length ys → y ≡ get_or ys i y → IsCell on gives xs x (entry_of form_b y) outcome when → Judges form reason on when outcome old new →
    (a : A) (b : B) (k : Bool) → Stands on a xs → Stands on b (entries_of form_b ys) → (IsTrue (value on x.when) → x.what ≡ a) →
    Shows form reason on (k || (value on x.when && not (some_holds on (entries_of form_b (drop i ys))))) (gives a b) old →
    Shows form reason on (k || (value on x.when && not (some_holds on (entries_of form_b (drop (i + 1) ys))))) (gives a b) new
cell_step form_b form reason on gives xs x ys y i outcome when old new within is cell judged a b k sx sy is_x s =
    let e = item_of ys y i within is in
    let s' = rw e at s in
    weaken form reason on _ _ (gives a b) new
    (cell_tests k (value on x.when) (value on (condition_of y.when)) (some_holds on (entries_of form_b (drop (i + 1) ys))) (value on when) cell.covers)
    (judged.shows _ (gives a b) s' (λ t. cell.right a b sx is_x (carry_item form_b on b ys y i e sy.carry) t))

row_tests : (k x : Bool) → IsTrue (k || x) → IsTrue (k || (x && not false))
row_tests true x s = refl
row_tests false true s = refl
row_tests false false s = s

pub cells_end : {T R C Q S B : Type 0} (form_b : S → B) (form : T → C) (reason : R → Q) (on : ℕ → Bool) (k x : Bool) (v : Checked C Q) (ys : List (Guarded S)) (i : ℕ) (new : Outcomes T R) → length ys ≤ i →
    Shows form reason on (k || (x && not (some_holds on (entries_of form_b (drop i ys))))) v new → Shows form reason on (k || x) v new
cells_end form_b form reason on k x v ys i new past shown =
    let e = drop_all i ys past in
    let shown' = rw e at shown in
    weaken form reason on _ _ v new (row_tests k x) shown'

pub row_at_once : {A B T R C Q : Type 0} (form : T → C) (reason : R → Q) (on : ℕ → Bool) (gives : A → B → Checked C Q) (xs : List (Entry A)) (ys : List (Entry B)) (x : Entry A) (outcome : Checked C Q) (when : Condition) (old new : Outcomes T R) →
    when ≡ x.when → EachGives (gives x.what) outcome ys → Judges form reason on when outcome old new → JudgesRow form reason on gives xs ys x old new
row_at_once {A} form reason on gives xs ys x outcome when old new is each judged = record {
  shows = λ a b k sx sy is_x s.
      let judged' = rw is at judged in
      judged'.shows k (gives a b) s (λ t. given_at (gives x.what) outcome on b ys each sy.held sy.carry ∙ ap (λ (a : A). gives a b) (is_x t));
}

pub alternatives_start : {P T R C Q : Type 0} (form : T → C) (reason : R → Q) (on : ℕ → Bool) (v : Checked C Q) (xs : List (Entry P)) (all : Outcomes T R) →
    IsTrue (some_holds on xs) → Shows form reason on false v all → Shows form reason on (not (some_holds on xs)) v all
alternatives_start form reason on v xs all held s = weaken form reason on false _ v all (other (some_holds on xs) held) s where
  other : (b : Bool) → IsTrue b → IsTrue (not b) → IsTrue false
  other true h t = t
  other false h t = h

alternative_tests : (x r : Bool) → IsTrue (not r) → IsTrue (not (x || r) || x)
alternative_tests true r s = refl
alternative_tests false true s = cc
alternative_tests false false s = refl

-- one step through the alternatives of which one carries the value that is judged
pub alternative_step : {T R C Q S A : Type 0} (form_a : S → A) (form : T → C) (reason : R → Q) (on : ℕ → Bool) (v : Checked C Q) (xs : List (Guarded S)) (x : Guarded S) (i : ℕ) (old new : Outcomes T R) →
    drop i xs ≡ x ∷ drop (i + 1) xs → ((k : Bool) → Shows form reason on k v old → Shows form reason on (k || value on (condition_of x.when)) v new) →
    Shows form reason on (not (some_holds on (entries_of form_a (drop i xs)))) v old →
    Shows form reason on (not (some_holds on (entries_of form_a (drop (i + 1) xs)))) v new
alternative_step form_a form reason on v xs x i old new e step s =
    let s' = rw e at s in
    weaken form reason on _ _ v new (alternative_tests (value on (condition_of x.when)) (some_holds on (entries_of form_a (drop (i + 1) xs)))) (step _ s')

pub pair_step : {A B T R C Q S : Type 0} (form_a : S → A) (form : T → C) (reason : R → Q) (on : ℕ → Bool) (gives : A → B → Checked C Q) (xs : List (Guarded S)) (x : Guarded S) (ys : List (Entry B)) (i : ℕ) (old new : Outcomes T R) →
    i < length xs → x ≡ get_or xs i x → JudgesRow form reason on gives (entries_of form_a xs) ys (entry_of form_a x) old new →
    (a : A) (b : B) → Stands on a (entries_of form_a xs) → Stands on b ys →
    Shows form reason on (not (some_holds on (entries_of form_a (drop i xs)))) (gives a b) old →
    Shows form reason on (not (some_holds on (entries_of form_a (drop (i + 1) xs)))) (gives a b) new
pair_step form_a form reason on gives xs x ys i old new within is row a b sx sy s =
    let e = item_of xs x i within is in
    alternative_step form_a form reason on (gives a b) xs x i old new e (λ k t. row.shows a b k sx sy (carry_item form_a on a xs x i e sx.carry) t) s

pub judged_step : {A T R C Q S : Type 0} (form_a : S → A) (form : T → C) (reason : R → Q) (on : ℕ → Bool) (gives : A → Checked C Q) (xs : List (Guarded S)) (x : Guarded S) (i : ℕ) (outcome : Checked C Q) (when : Condition) (old new : Outcomes T R) →
    i < length xs → x ≡ get_or xs i x → when ≡ condition_of x.when → outcome ≡ gives (form_a x.what) → Judges form reason on when outcome old new →
    (a : A) → Stands on a (entries_of form_a xs) →
    Shows form reason on (not (some_holds on (entries_of form_a (drop i xs)))) (gives a) old →
    Shows form reason on (not (some_holds on (entries_of form_a (drop (i + 1) xs)))) (gives a) new
judged_step form_a form reason on gives xs x i outcome when old new within is same given judged a sx s =
    let e = item_of xs x i within is in
    let judged' = rw same at judged in
    alternative_step form_a form reason on (gives a) xs x i old new e (λ k t. judged'.shows k (gives a) t (λ h. given ∙ ap gives (carry_item form_a on a xs x i e sx.carry h))) s

pub alternatives_end : {T R C Q S A : Type 0} (form_a : S → A) (form : T → C) (reason : R → Q) (on : ℕ → Bool) (v : Checked C Q) (xs : List (Guarded S)) (i : ℕ) (all : Outcomes T R) → length xs ≤ i →
    Shows form reason on (not (some_holds on (entries_of form_a (drop i xs)))) v all → Shows form reason on true v all
alternatives_end form_a form reason on v xs i all past s =
    let e = drop_all i xs past in
    let s' = rw e at s in s'

pub both_judged : {S U T R A B C Q : Type 0} (form_a : S → A) (form_b : U → B) (form : T → C) (reason : R → Q) (on : ℕ → Bool) (gives : A → B → Checked C Q) (x : Outcomes S R) (y : Outcomes U R) (all later result : Outcomes T R) →
    JudgesAll form reason on gives (alternatives form_a x.fine) (alternatives form_b y.fine) all → IsAfter reason on y.refused all later → IsAfter reason on x.refused later result →
    (a : Checked A Q) (b : Checked B Q) → Shows form_a reason on true a x → Shows form_b reason on true b y → Shows form reason on true (bind a (λ a. bind b (λ b. gives a b))) result
both_judged form_a form_b form reason on gives x y all later result judged second first (refused why) b sx sy =
    after_refusal form reason on x.refused later result why first (sx.shown.held refl)
both_judged form_a form_b form reason on gives x y all later result judged second first (fine v) (refused why) sx sy =
    after_value form reason on true (refused why) x.refused later result first sx.shown.not_refused
    (after_refusal form reason on y.refused all later why second (sy.shown.held refl))
both_judged form_a form_b form reason on gives x y all later result judged second first (fine v) (fine w) sx sy =
    after_value form reason on true (gives v w) x.refused later result first sx.shown.not_refused
    (after_value form reason on true (gives v w) y.refused all later second sy.shown.not_refused
    (judged.shows v w (record { held = sx.shown.held refl; carry = sx.shown.carry }) (record { held = sy.shown.held refl; carry = sy.shown.carry })))

pub one_judged : {S T R A C Q : Type 0} (form_a : S → A) (form : T → C) (reason : R → Q) (on : ℕ → Bool) (gives : A → Checked C Q) (x : Outcomes S R) (all result : Outcomes T R) →
    ((a : A) → Stands on a (alternatives form_a x.fine) → Shows form reason on true (gives a) all) → IsAfter reason on x.refused all result →
    (a : Checked A Q) → Shows form_a reason on true a x → Shows form reason on true (bind a gives) result
one_judged form_a form reason on gives x all result judged first (refused why) sx = after_refusal form reason on x.refused all result why first (sx.shown.held refl)
one_judged form_a form reason on gives x all result judged first (fine v) sx =
    after_value form reason on true (gives v) x.refused all result first sx.shown.not_refused (judged v (record { held = sx.shown.held refl; carry = sx.shown.carry }))
