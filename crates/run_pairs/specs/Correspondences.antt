-- Objects of one run and of another that stand for each other, and what is related through them.
use Rattle.std.specs.Prelude.{◌≡◌, ℕ, suc, ◌≤◌, Bool, true, false, List, [], ◌∷◌, Option, Some, None, if◌then◌else◌, ⊤}
use Rattle.c_types.specs.Types.{PlainType}
use Rattle.core_meaning.specs.Values.{Path, Pointer, null, at, Scalar, number, pointer, Cells, Value, nothing, scalar, whole, same_path, is_scalar}
use Rattle.core_meaning.specs.Memory.{Object, Memory, unwritten, fresh}
use Rattle.core_meaning.specs.Outcomes.{State, Outcome, Comes, Exits, Stops, Fails}
use Rattle.core_meaning.specs.Meaning.{Ending, falls, breaks, continues, returns}
use Rattle.core_meaning.specs.Growth.{Extends}

-- the object of the result that stands for an object of the original
abbrev pub Correspondence : Type 0
Correspondence = ℕ → Option ℕ

pub record Grown (c d : Correspondence) : Type 0 where
  pub keeps : (j k : ℕ) → c j ≡ Some k → d j ≡ Some k

-- a result where the original has one
abbrev pub WhereGiven : {A B : Type 0} → (A → B → Type 0) → Option A → Option B → Type 0
WhereGiven R None y = ⊤
WhereGiven R (Some x) None = ⊥
WhereGiven R (Some x) (Some y) = R x y

abbrev pub RelatedPointers : Correspondence → Pointer → Pointer → Type 0
RelatedPointers c null null = ⊤
RelatedPointers c (at j p) (at k q) = (c j ≡ Some k) × (p ≡ q)
RelatedPointers c p q = ⊥

abbrev pub RelatedScalars : Correspondence → Scalar → Scalar → Type 0
RelatedScalars c (number x) (number y) = x ≡ y
RelatedScalars c (pointer p) (pointer q) = RelatedPointers c p q
RelatedScalars c x y = ⊥

pub record RelatedCells (c : Correspondence) (cells cells' : Cells) : Type 0 where
  pub at_path : (path : Path) → WhereGiven (RelatedScalars c) (cells path) (cells' path)

abbrev pub RelatedValues : Correspondence → Value → Value → Type 0
RelatedValues c nothing nothing = ⊤
RelatedValues c (scalar v) (scalar w) = RelatedScalars c v w
RelatedValues c (whole cells) (whole cells') = RelatedCells c cells cells'
RelatedValues c v w = ⊥

pub record RelatedObjects (c : Correspondence) (o o' : Object) : Type 0 where
  pub same_type : o.ty ≡ o'.ty
  pub live : o.lives ≡ true → o'.lives ≡ true
  pub write : o.writable ≡ true → o'.writable ≡ true
  pub hold : RelatedCells c o.cells o'.cells

abbrev pub only : Scalar → Cells
only v other = if same_path other [] then Some v else None

-- an object of a scalar type that holds a value
abbrev pub holding : PlainType → Scalar → Object
holding t v = record (fresh t unwritten) { cells = only v }

-- what objects of the result that stand for none hold throughout
abbrev pub HeldAside : Type 0
HeldAside = ℕ → Option Object

-- it holds this scalar
abbrev pub HoldsAside : HeldAside → ℕ → Scalar → Type 0
HoldsAside held k v = (t : PlainType) × (is_scalar t ≡ true) × (held k ≡ Some (holding t v))

pub record RelatedMemories (held : HeldAside) (c : Correspondence) (m m' : Memory) : Type 0 where
  pub before : (j k : ℕ) → c j ≡ Some k → suc j ≤ m.made
  pub behind_it : (j k : ℕ) → c j ≡ Some k → suc k ≤ m'.made
  pub one : (i j k : ℕ) → c i ≡ Some k → c j ≡ Some k → i ≡ j
  pub objects : (j k : ℕ) → c j ≡ Some k → RelatedObjects c (m.object j) (m'.object k)
  pub held_before : (k : ℕ) (o : Object) → held k ≡ Some o → suc k ≤ m'.made
  pub holds : (k : ℕ) (o : Object) → held k ≡ Some o → m'.object k ≡ o
  pub apart : (j k : ℕ) (o : Object) → c j ≡ Some k → held k ≡ Some o → ⊥

-- What stays the same about two runs: whether the bound may cut off the original's or else the result's alone, what is held
-- aside, and how the lists of temporary objects are related.
pub record Setting : Type 1 where
  pub first_cut : Bool
  pub held : HeldAside
  pub temps : Correspondence → List ℕ → List ℕ → Type 0
  pub temps_grow : (c d : Correspondence) → Grown c d → (ts us : List ℕ) → temps c ts us → temps d ts us

pub record Related (w : Setting) (c : Correspondence) (s s' : State) : Type 0 where
  pub memories : RelatedMemories w.held c s.memory s'.memory
  pub inputs : s.input ≡ s'.input
  pub temporary_objects : w.temps c s.temporaries s'.temporaries

-- related results in related states
pub record EndsAt {A B : Type 0} (w : Setting) (R : Correspondence → A → B → Type 0) (c : Correspondence) (x : A) (s : State) (y : B) (s' : State) : Type 0 where
  pub results : R c x y
  pub states : Related w c s s'

-- the two ends are related by objects that have grown
pub record MeetIn {A B : Type 0} (End : Correspondence → A → State → B → State → Type 0) (c : Correspondence) (x : A) (s : State) (y : B) (s' : State) : Type 0 where
  pub now : Correspondence
  pub grown : Grown c now
  pub ends : End now x s y s'

abbrev pub BothCut : Bool → List ℕ → List ℕ → Type 0
BothCut true out out' = Extends out out'
BothCut false out out' = Extends out' out

abbrev pub FirstCut : Bool → List ℕ → List ℕ → Type 0
FirstCut true out out' = Extends out out'
FirstCut false out out' = ⊥

abbrev pub SecondCut : Bool → List ℕ → List ℕ → Type 0
SecondCut true out out' = ⊥
SecondCut false out out' = Extends out' out

-- the outcomes of two pieces, by what their ends are to be
abbrev pub Outcomes : {A B : Type 0} → Bool → (Correspondence → A → State → B → State → Type 0) → Correspondence → Outcome A →
    Outcome B → Type 0
Outcomes cut End c (Fails out) o = ⊤
Outcomes cut End c (Comes x s out) (Comes y s' out') = (out ≡ out') × MeetIn End c x s y s'
Outcomes cut End c (Comes x s out) (Stops out') = SecondCut cut out out'
Outcomes cut End c (Comes x s out) (Exits status out') = ⊥
Outcomes cut End c (Comes x s out) (Fails out') = ⊥
Outcomes cut End c (Exits status out) (Exits status' out') = (status ≡ status') × (out ≡ out')
Outcomes cut End c (Exits status out) (Stops out') = SecondCut cut out out'
Outcomes cut End c (Exits status out) (Comes y s' out') = ⊥
Outcomes cut End c (Exits status out) (Fails out') = ⊥
Outcomes cut End c (Stops out) (Stops out') = BothCut cut out out'
Outcomes cut End c (Stops out) (Comes y s' out') = FirstCut cut out out'
Outcomes cut End c (Stops out) (Exits status out') = FirstCut cut out out'
Outcomes cut End c (Stops out) (Fails out') = FirstCut cut out out'

abbrev pub RelatedOutcomes : {A B : Type 0} → Setting → (Correspondence → A → B → Type 0) → Correspondence → Outcome A →
    Outcome B → Type 0
RelatedOutcomes w R c o o' = Outcomes w.first_cut (λ d x s y s'. EndsAt w R d x s y s') c o o'

pub record RelatedPieces {A B : Type 0} (w : Setting) (R : Correspondence → A → B → Type 0) (c : Correspondence) (f : State → Outcome A) (g : State → Outcome B) : Type 0 where
  pub in_states : (d : Correspondence) → Grown c d → (s s' : State) → Related w d s s' → RelatedOutcomes w R d (f s) (g s')

-- ---- lists of values and of objects

abbrev pub RelatedValueLists : Correspondence → List Value → List Value → Type 0
RelatedValueLists c [] [] = ⊤
RelatedValueLists c (v ∷ vs) (w ∷ ws) = RelatedValues c v w × RelatedValueLists c vs ws
RelatedValueLists c vs ws = ⊥

abbrev pub RelatedLists : Correspondence → List ℕ → List ℕ → Type 0
RelatedLists c [] [] = ⊤
RelatedLists c (j ∷ js) (k ∷ ks) = (c j ≡ Some k) × RelatedLists c js ks
RelatedLists c js ks = ⊥

pub lists_grow : (c d : Correspondence) → Grown c d → (js ks : List ℕ) → RelatedLists c js ks → RelatedLists d js ks
lists_grow c d g [] [] h = tt
lists_grow c d g (j ∷ js) (k ∷ ks) h = (g.keeps j k h.0, lists_grow c d g js ks h.1)
lists_grow c d g [] (k ∷ ks) h = absurd h
lists_grow c d g (j ∷ js) [] h = absurd h

-- ---- the two settings

-- inside a full expression, whose temporary objects are related
abbrev pub expression_setting : Bool → HeldAside → Setting
expression_setting first_cut held = record { first_cut = first_cut; held = held; temps = RelatedLists; temps_grow = lists_grow }

-- where statements stand: these temporary objects are of the expressions that called, and stay
abbrev pub statement_setting : Bool → HeldAside → List ℕ → List ℕ → Setting
statement_setting first_cut held ts us = record { first_cut = first_cut; held = held; temps = λ c js ks. (js ≡ ts) × (ks ≡ us); temps_grow = λ c d g js ks h. h }

-- how statements end: whether they may leave or continue a loop, and whether they may return
abbrev pub RelatedEndings : Bool → Bool → Correspondence → Ending → Ending → Type 0
RelatedEndings in_loop may_return c falls falls = ⊤
RelatedEndings in_loop may_return c breaks breaks = in_loop ≡ true
RelatedEndings in_loop may_return c continues continues = in_loop ≡ true
RelatedEndings in_loop may_return c (returns v) (returns w) = (may_return ≡ true) × RelatedValues c v w
RelatedEndings in_loop may_return c x y = ⊥
