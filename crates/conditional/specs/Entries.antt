-- Values under conditions, and what is seen of them where `on` says which features are on.
use Rattle.std.specs.Prelude.{◌≡◌, ℕ, Bool, true, false, ◌&&◌, ◌||◌, List, [], ◌∷◌, map, Option, Some, None, IsTrue, ⊤, if◌then◌else◌}
use Rattle.cond_formula.specs.Conditions.{Condition, value, condition_of}
use Rattle.conditional.specs.declared.entries.Guarded.{Guarded}
use Rattle.conditional.specs.declared.lists.CondList.{CondList}
use Rattle.conditional.specs.declared.values.CondValue.{CondValue}

-- a value under a condition
pub record Entry (P : Type 0) : Type 0 where
  pub when : Condition
  pub what : P

-- what the code's entries are, given what their values are
abbrev pub entry_of : {T P : Type 0} → (T → P) → Guarded T → Entry P
entry_of form entry = record { when = condition_of entry.when; what = form entry.what }

abbrev pub entries_of : {T P : Type 0} → (T → P) → List (Guarded T) → List (Entry P)
entries_of form entries = map (entry_of form) entries

abbrev pub listed : {T P : Type 0} → (T → P) → CondList T → List (Entry P)
listed form list = entries_of form list.entries.items

abbrev pub alternatives : {T P : Type 0} → (T → P) → CondValue T → List (Entry P)
alternatives form conditional = entries_of form conditional.alternatives.items

-- ---- lists

-- what is seen of a list: the values of the entries that hold, in order
abbrev pub seen : {P : Type 0} → (ℕ → Bool) → List (Entry P) → List P
seen on [] = []
seen on (entry ∷ rest) = if value on entry.when then entry.what ∷ seen on rest else seen on rest

-- a list where a condition is true, and none of it elsewhere
abbrev pub under : {P : Type 0} → Bool → List P → List P
under true values = values
under false values = []

abbrev pub first : {P : Type 0} → List P → Option P
first [] = None
first (what ∷ rest) = Some what

-- one value, or another where there is none
abbrev pub or_later : {P : Type 0} → Option P → Option P → Option P
or_later None later = later
or_later (Some what) later = Some what

-- ---- values

-- some entry holds
abbrev pub some_holds : {P : Type 0} → (ℕ → Bool) → List (Entry P) → Bool
some_holds on [] = false
some_holds on (entry ∷ rest) = value on entry.when || some_holds on rest

-- each entry that holds carries this value
abbrev pub Carry : {P : Type 0} → (ℕ → Bool) → P → List (Entry P) → Type 0
Carry on v [] = ⊤
Carry on v (entry ∷ rest) = (IsTrue (value on entry.when) → entry.what ≡ v) × Carry on v rest

-- some entry holds, and each that holds carries this value
pub record Stands {P : Type 0} (on : ℕ → Bool) (v : P) (entries : List (Entry P)) : Type 0 where
  pub held : IsTrue (some_holds on entries)
  pub carry : Carry on v entries

-- what is seen of alternatives: the value that those that hold carry, or nothing where none holds
abbrev pub Sees : {P : Type 0} → (ℕ → Bool) → Option P → List (Entry P) → Type 0
Sees on None entries = some_holds on entries ≡ false
Sees on (Some v) entries = Stands on v entries

-- One more value is seen where its condition is true, if what was seen there agrees with it.
pub record Places {P : Type 0} (on : ℕ → Bool) (when : Condition) (what : P) (old new : List (Entry P)) : Type 0 where
  pub held : some_holds on new ≡ (some_holds on old || value on when)
  pub carry : (v : P) → Carry on v old → (IsTrue (value on when) → what ≡ v) → Carry on v new

-- What is seen of further alternatives is seen where the condition is true, if what was seen there agrees with it.
pub record PlacesUnder {P : Type 0} (on : ℕ → Bool) (when : Condition) (more old new : List (Entry P)) : Type 0 where
  pub held : some_holds on new ≡ (some_holds on old || (value on when && some_holds on more))
  pub carry : (v : P) → Carry on v old → (IsTrue (value on when) → Carry on v more) → Carry on v new

-- whatever the code may answer is what this function gives
pub record Maps {S T A B : Type 0} (source : S → A) (target : T → B) (answers : S → T → Type 0) (gives : A → B) : Type 0 where
  pub maps : (x : S) (y : T) → answers x y → target y ≡ gives (source x)
