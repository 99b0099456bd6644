-- Judgements, which come to a value or to a refusal, under conditions.
use Rattle.std.specs.Prelude.{◌≡◌, ℕ, Bool, true, ◌&&◌, ◌||◌, List, [], ◌∷◌, Some, Result, Ok, Err, IsTrue, ⊤}
use Rattle.cond_formula.specs.Conditions.{Condition, value}
use Rattle.conditional.specs.Entries.{Entry, listed, alternatives, seen, first, some_holds, Carry, Stands}
use Rattle.conditional.specs.declared.outcomes.Outcomes.{Outcomes}

-- a value, or why there is none
pub data Checked (A Q : Type 0) : Type 0 where
  fine : A → Checked A Q
  refused : Q → Checked A Q

-- a judgement, and then what its value leads to
abbrev pub bind : {A B Q : Type 0} → Checked A Q → (A → Checked B Q) → Checked B Q
bind (fine x) next = next x
bind (refused why) next = refused why

abbrev pub checked : {T R P Q : Type 0} → (T → P) → (R → Q) → Result T R → Checked P Q
checked form reason (Ok x) = fine (form x)
checked form reason (Err why) = refused (reason why)

-- Nothing but v is shown: nothing is refused, and v is all that is seen; if b, it is seen.
pub record ShowsFine {P Q : Type 0} (on : ℕ → Bool) (b : Bool) (v : P) (values : List (Entry P)) (refusals : List (Entry Q)) : Type 0 where
  pub not_refused : seen on refusals ≡ []
  pub held : IsTrue b → IsTrue (some_holds on values)
  pub carry : Carry on v values

-- Nothing but this refusal is shown: if any comes first, it does; if b, it does.
pub record ShowsRefused {Q : Type 0} (on : ℕ → Bool) (b : Bool) (why : Q) (refusals : List (Entry Q)) : Type 0 where
  pub only : (other : Q) → first (seen on refusals) ≡ Some other → other ≡ why
  pub held : IsTrue b → first (seen on refusals) ≡ Some why

abbrev pub ShowsAs : {P Q : Type 0} → (ℕ → Bool) → Bool → Checked P Q → List (Entry P) → List (Entry Q) → Type 0
ShowsAs on b (fine v) values refusals = ShowsFine on b v values refusals
ShowsAs on b (refused why) values refusals = ShowsRefused on b why refusals

-- Nothing but this outcome is shown, and if b then it is.
pub record Shows {T R P Q : Type 0} (form : T → P) (reason : R → Q) (on : ℕ → Bool) (b : Bool) (outcome : Checked P Q) (all : Outcomes T R) : Type 0 where
  pub shown : ShowsAs on b outcome (alternatives form all.fine) (listed reason all.refused)

-- One more outcome is shown where its condition is true, if nothing else is shown there.
pub record Judges {T R P Q : Type 0} (form : T → P) (reason : R → Q) (on : ℕ → Bool) (when : Condition) (what : Checked P Q) (old new : Outcomes T R) : Type 0 where
  pub shows : (b : Bool) (outcome : Checked P Q) → Shows form reason on b outcome old → (IsTrue (value on when) → what ≡ outcome) → Shows form reason on (b || value on when) outcome new

-- What another judgement shows is shown where the condition is true, if nothing else is shown there.
pub record JudgesUnder {T R P Q : Type 0} (form : T → P) (reason : R → Q) (on : ℕ → Bool) (when : Condition) (more old new : Outcomes T R) : Type 0 where
  pub shows : (b k : Bool) (outcome : Checked P Q) → Shows form reason on b outcome old → (IsTrue (value on when) → Shows form reason on k outcome more) →
      Shows form reason on (b || (value on when && k)) outcome new

-- ---- operators

-- whatever the code may answer is what this function gives
pub record Computes {S T U R A B C Q : Type 0} (left : S → A) (right : T → B) (form : U → C) (reason : R → Q) (answers : S → T → Result U R → Type 0) (gives : A → B → Checked C Q) : Type 0 where
  pub computes : (x : S) (y : T) (r : Result U R) → answers x y r → checked form reason r ≡ gives (left x) (right y)

-- f gives this outcome for each alternative
abbrev pub EachGives : {A C Q : Type 0} → (A → Checked C Q) → Checked C Q → List (Entry A) → Type 0
EachGives f outcome [] = ⊤
EachGives f outcome (x ∷ xs) = (f x.what ≡ outcome) × EachGives f outcome xs

-- a condition under which the outcome of a pair may be placed: wide enough, and nowhere wrong
pub record IsCell {A B C Q : Type 0} (on : ℕ → Bool) (gives : A → B → Checked C Q) (xs : List (Entry A)) (x : Entry A) (y : Entry B) (outcome : Checked C Q) (when : Condition) : Type 0 where
  pub covers : IsTrue (value on x.when) → IsTrue (value on y.when) → IsTrue (value on when)
  pub right : (a : A) (b : B) → Stands on a xs → (IsTrue (value on x.when) → x.what ≡ a) → (IsTrue (value on y.when) → y.what ≡ b) → IsTrue (value on when) → outcome ≡ gives a b

-- the outcomes of one alternative with all the others are placed
pub record JudgesRow {A B T R C Q : Type 0} (form : T → C) (reason : R → Q) (on : ℕ → Bool) (gives : A → B → Checked C Q) (xs : List (Entry A)) (ys : List (Entry B)) (x : Entry A) (old new : Outcomes T R) : Type 0 where
  pub shows : (a : A) (b : B) (k : Bool) → Stands on a xs → Stands on b ys → (IsTrue (value on x.when) → x.what ≡ a) → Shows form reason on k (gives a b) old → Shows form reason on (k || value on x.when) (gives a b) new

-- what the operator gives for the two values that are seen is shown
pub record JudgesAll {A B T R C Q : Type 0} (form : T → C) (reason : R → Q) (on : ℕ → Bool) (gives : A → B → Checked C Q) (xs : List (Entry A)) (ys : List (Entry B)) (all : Outcomes T R) : Type 0 where
  pub shows : (a : A) (b : B) → Stands on a xs → Stands on b ys → Shows form reason on true (gives a b) all
