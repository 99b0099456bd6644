-- Core programs that differ only in numbers and by named cases.
use Rattle.std.specs.Prelude.{◌≡◌, ◌==◌, nat_lt, if◌then◌else◌, ℕ, suc, ◌≤◌, ◌+◌, Bool, true, false, ℤ, List, [], ◌∷◌, length, Option, Some, slice_get}
use Rattle.c_types.specs.Types.{PlainType}
use Rattle.core_meaning.specs.declared.integers.IntegerType.{IntegerType}
use Rattle.core_meaning.specs.declared.expressions.Operation.{Operation}
use Rattle.core_meaning.specs.declared.expressions.Change.{Change}
use Rattle.core_meaning.specs.Program.{PlainExpression, constant, null_constant, read, address, first_element, convert, binary, logical_not, logical_and, logical_or, choose, assign, update, update_after, call, discard, PlainPlace, slot, global, literal, target, member, temporary, PlainArguments, no_argument, argument, PlainPart, PlainStatement, block, evaluate, selection, loop, break_loop, continue_loop, return_nothing, return_value, PlainItems, no_item, local, statement_item, PlainFunction, defined, built_in, PlainProgram}
use Rattle.core_meaning.specs.Values.{Path, part, at, pointer, Value}
use Rattle.core_meaning.specs.Meaning.{Frame, Job, body_of, turn}
use Rattle.run_pairs.specs.Correspondences.{Correspondence, WhereGiven, RelatedValueLists, HeldAside, HoldsAside}

-- what stands in the result for a slot of the original: a slot, or a parameter that points to its object or to the first
-- element of its array
pub data Use : Type 0 where
  direct : ℕ → Use
  through : ℕ → Use
  elements : ℕ → Use
  unused : Use

abbrev pub Uses : Type 0
Uses = ℕ → Use

abbrev pub with_use : Uses → ℕ → ℕ → Uses
with_use uses j k i = if i == j then direct k else uses i

-- both are there
abbrev pub BothGiven : {A B : Type 0} → (A → B → Type 0) → Option A → Option B → Type 0
BothGiven R (Some x) (Some y) = R x y
BothGiven R x y = ⊥

-- no two slots stand for one
pub record AreDistinct (uses : Uses) : Type 0 where
  pub one : (i j k : ℕ) → uses i ≡ direct k → uses j ≡ direct k → i ≡ j
  pub no_parameter : (i j k : ℕ) → uses i ≡ direct k → uses j ≡ through k → ⊥
  pub no_array : (i j k : ℕ) → uses i ≡ direct k → uses j ≡ elements k → ⊥

abbrev pub argument_count : PlainArguments → ℕ
argument_count no_argument = 0
argument_count (argument e rest) = suc (argument_count rest)

-- the two programs, and the numbers of functions and of the objects from the start
module _ (p p' : PlainProgram) (functions : ℕ → Option ℕ) (arity : ℕ → ℕ) (first : Correspondence) where
  mutual
    pub data AlikeExpressions (quiet : Bool) (uses : Uses) : PlainExpression → PlainExpression → Type 0 where
      constants : (z : ℤ) → AlikeExpressions quiet uses (constant z) (constant z)
      null_constants : AlikeExpressions quiet uses null_constant null_constant
      reads : (a b : PlainPlace) → AlikePlaces quiet uses a b → AlikeExpressions quiet uses (read a) (read b)
      addresses : (a b : PlainPlace) → AlikePlaces quiet uses a b → AlikeExpressions quiet uses (address a) (address b)
      first_elements : (a b : PlainPlace) → AlikePlaces quiet uses a b →
          AlikeExpressions quiet uses (first_element a) (first_element b)
      converts : (t : IntegerType) (a b : PlainExpression) → AlikeExpressions quiet uses a b →
          AlikeExpressions quiet uses (convert t a) (convert t b)
      binaries : (op : Operation) (a b x y : PlainExpression) → AlikeExpressions quiet uses a b →
          AlikeExpressions quiet uses x y → AlikeExpressions quiet uses (binary op a x) (binary op b y)
      nots : (a b : PlainExpression) → AlikeExpressions quiet uses a b →
          AlikeExpressions quiet uses (logical_not a) (logical_not b)
      ands : (a b x y : PlainExpression) → AlikeExpressions quiet uses a b → AlikeExpressions quiet uses x y →
          AlikeExpressions quiet uses (logical_and a x) (logical_and b y)
      ors : (a b x y : PlainExpression) → AlikeExpressions quiet uses a b → AlikeExpressions quiet uses x y →
          AlikeExpressions quiet uses (logical_or a x) (logical_or b y)
      chooses : (a b x y u v : PlainExpression) → AlikeExpressions quiet uses a b → AlikeExpressions quiet uses x y →
          AlikeExpressions quiet uses u v → AlikeExpressions quiet uses (choose a x u) (choose b y v)
      assigns : (a b : PlainPlace) (x y : PlainExpression) → AlikePlaces quiet uses a b → AlikeExpressions quiet uses x y →
          AlikeExpressions quiet uses (assign a x) (assign b y)
      updates : (by : Change) (a b : PlainPlace) (x y : PlainExpression) → AlikePlaces quiet uses a b →
          AlikeExpressions quiet uses x y → AlikeExpressions quiet uses (update by a x) (update by b y)
      updates_after : (by : Change) (a b : PlainPlace) (x y : PlainExpression) → AlikePlaces quiet uses a b →
          AlikeExpressions quiet uses x y → AlikeExpressions quiet uses (update_after by a x) (update_after by b y)
      calls : (f g : ℕ) (a b : PlainArguments) → functions f ≡ Some g → argument_count a ≡ arity f →
          AlikeArguments quiet uses a b → AlikeExpressions quiet uses (call f a) (call g b)
      discards : (a b : PlainExpression) → AlikeExpressions quiet uses a b → AlikeExpressions quiet uses (discard a) (discard b)
      -- a use of a passed array is a read of its parameter
      passed_array : (j k : ℕ) → uses j ≡ elements k → AlikeExpressions quiet uses (first_element (slot j)) (read (slot k))

    pub data AlikePlaces (quiet : Bool) (uses : Uses) : PlainPlace → PlainPlace → Type 0 where
      slots : (j k : ℕ) → uses j ≡ direct k → AlikePlaces quiet uses (slot j) (slot k)
      globals : (j k : ℕ) → first j ≡ Some k → AlikePlaces quiet uses (global j) (global k)
      literals : (j k : ℕ) → first (length p.globals + j) ≡ Some (length p'.globals + k) →
          AlikePlaces quiet uses (literal j) (literal k)
      targets : (a b : PlainExpression) → AlikeExpressions quiet uses a b → AlikePlaces quiet uses (target a) (target b)
      members : (a b : PlainPlace) (k : ℕ) → AlikePlaces quiet uses a b → AlikePlaces quiet uses (member a k) (member b k)
      temporaries : (t : PlainType) (a b : PlainExpression) → quiet ≡ false → AlikeExpressions quiet uses a b →
          AlikePlaces quiet uses (temporary t a) (temporary t b)
      -- a use of a passed variable is a target through a parameter
      passed : (j k : ℕ) → uses j ≡ through k → AlikePlaces quiet uses (slot j) (target (read (slot k)))

    pub data AlikeArguments (quiet : Bool) (uses : Uses) : PlainArguments → PlainArguments → Type 0 where
      no_arguments : AlikeArguments quiet uses no_argument no_argument
      arguments : (a b : PlainExpression) (x y : PlainArguments) → AlikeExpressions quiet uses a b →
          AlikeArguments quiet uses x y → AlikeArguments quiet uses (argument a x) (argument b y)

  pub data AlikeParts (quiet : Bool) (uses : Uses) : List PlainPart → List PlainPart → Type 0 where
    no_parts : AlikeParts quiet uses [] []
    parts : (path : Path) (a b : PlainExpression) (x y : List PlainPart) → AlikeExpressions quiet uses a b →
        AlikeParts quiet uses x y →
        AlikeParts quiet uses (record { path = path; value = a } ∷ x) (record { path = path; value = b } ∷ y)

-- statements before the items that follow them
abbrev pub before_items : List PlainStatement → PlainItems → PlainItems
before_items [] rest = rest
before_items (s ∷ ss) rest = statement_item s (before_items ss rest)

-- the parameters from the first on
abbrev pub parameter_uses : ℕ → Uses
parameter_uses count k = if nat_lt k count then direct k else unused

-- ---- frames

-- The objects of two frames, while parameters hold what they were passed.
pub record RelatedFrames (types types' : List PlainType) (uses : Uses) (held : HeldAside) (c : Correspondence) (frame frame' : Frame) : Type 0 where
  pub these_types : frame.types ≡ types
  pub those_types : frame'.types ≡ types'
  pub direct_objects : (j k : ℕ) → uses j ≡ direct k → BothGiven (λ a b. c a ≡ Some b) (frame.objects j) (frame'.objects k)
  pub passed_objects : (j k : ℕ) → uses j ≡ through k →
      BothGiven (λ a b. (o : ℕ) × (c a ≡ Some o) × HoldsAside held b (pointer (at o []))) (frame.objects j) (frame'.objects k)
  pub passed_arrays : (j k : ℕ) → uses j ≡ elements k →
      BothGiven (λ a b. (o : ℕ) × (c a ≡ Some o) × HoldsAside held b (pointer (at o (part 0 ∷ [])))) (frame.objects j) (frame'.objects k)

-- ---- statements, with what may stand for selected ones

-- what is selected: statements of a block, or the initialiser of the object in a slot, which was just made
pub data Selection : Type 0 where
  in_block : List PlainStatement → Selection
  at_declaration : ℕ → List PlainPart → Selection

-- which statements stand for what is selected, with the slots that are in scope, and whether they may return
abbrev pub Replacement : Type 1
Replacement = List PlainType → List PlainType → Uses → Bool → Selection → List PlainStatement → Type 0

module _ (p p' : PlainProgram) (functions : ℕ → Option ℕ) (arity : ℕ → ℕ) (first : Correspondence) (Stands : Replacement) where
  abbrev Expressions : Uses → PlainExpression → PlainExpression → Type 0
  Expressions uses a b = AlikeExpressions p p' functions arity first false uses a b

  mutual
    -- whether what may stand for selected statements occurs, whether a loop is left or continued here, and whether this may return
    pub data AlikeStatements (types types' : List PlainType) (selects : Bool) : Uses → Bool → Bool → PlainStatement →
        PlainStatement → Type 0 where
      blocks : (uses : Uses) (l r : Bool) (a b : PlainItems) → AlikeItems types types' selects uses l r a b →
          AlikeStatements types types' selects uses l r (block a) (block b)
      evaluates : (uses : Uses) (l r : Bool) (a b : PlainExpression) → Expressions uses a b →
          AlikeStatements types types' selects uses l r (evaluate a) (evaluate b)
      selections : (uses : Uses) (l r : Bool) (a b : PlainExpression) (x y u v : PlainStatement) → Expressions uses a b →
          AlikeStatements types types' selects uses l r x y → AlikeStatements types types' selects uses l r u v →
          AlikeStatements types types' selects uses l r (selection a x u) (selection b y v)
      loops : (uses : Uses) (l r asks : Bool) (a b s t : PlainExpression) (x y : PlainStatement) → Expressions uses a b →
          Expressions uses s t → AlikeStatements types types' selects uses true r x y →
          AlikeStatements types types' selects uses l r (loop asks a s x) (loop asks b t y)
      break_loops : (uses : Uses) (l r : Bool) → l ≡ true → AlikeStatements types types' selects uses l r break_loop break_loop
      continue_loops : (uses : Uses) (l r : Bool) → l ≡ true →
          AlikeStatements types types' selects uses l r continue_loop continue_loop
      returns_nothing : (uses : Uses) (l r : Bool) → r ≡ true →
          AlikeStatements types types' selects uses l r return_nothing return_nothing
      returns_value : (uses : Uses) (l r : Bool) (a b : PlainExpression) → r ≡ true → Expressions uses a b →
          AlikeStatements types types' selects uses l r (return_value a) (return_value b)

    pub data AlikeItems (types types' : List PlainType) (selects : Bool) : Uses → Bool → Bool → PlainItems → PlainItems →
        Type 0 where
      no_items : (uses : Uses) (l r : Bool) → AlikeItems types types' selects uses l r no_item no_item
      locals : (uses : Uses) (l r : Bool) (j k : ℕ) (x y : List PlainPart) (a b : PlainItems) →
          WhereGiven ◌≡◌ (slice_get types j) (slice_get types' k) → AreDistinct (with_use uses j k) →
          AlikeParts p p' functions arity first false (with_use uses j k) x y →
          AlikeItems types types' selects (with_use uses j k) l r a b →
          AlikeItems types types' selects uses l r (local j x a) (local k y b)
      statement_items : (uses : Uses) (l r : Bool) (s t : PlainStatement) (a b : PlainItems) →
          AlikeStatements types types' selects uses l r s t → AlikeItems types types' selects uses l r a b →
          AlikeItems types types' selects uses l r (statement_item s a) (statement_item t b)
      selected : (uses : Uses) (l r : Bool) (ss ts : List PlainStatement) (a b : PlainItems) → selects ≡ true →
          Stands types types' uses r (in_block ss) ts → AlikeItems types types' selects uses l r a b →
          AlikeItems types types' selects uses l r (before_items ss a) (before_items ts b)
      -- the object is declared alone, and statements stand for its initialiser
      initialised : (uses : Uses) (l r : Bool) (j k : ℕ) (x : List PlainPart) (ts : List PlainStatement) (a b : PlainItems) → selects ≡ true →
          WhereGiven ◌≡◌ (slice_get types j) (slice_get types' k) → AreDistinct (with_use uses j k) →
          Stands types types' (with_use uses j k) false (at_declaration j x) ts →
          AlikeItems types types' selects (with_use uses j k) l r a b →
          AlikeItems types types' selects uses l r (local j x a) (local k [] (before_items ts b))

  -- ---- what costs one

  pub record RelatedTurns (held : HeldAside) (may_return : Bool) (c : Correspondence) (frame : Frame) (a s : PlainExpression) (x : PlainStatement) (frame' : Frame) (b t : PlainExpression) (y : PlainStatement) : Type 0 where
    pub types : List PlainType
    pub types' : List PlainType
    pub uses : Uses
    pub selects : Bool
    pub distinct : AreDistinct uses
    pub frames : RelatedFrames types types' uses held c frame frame'
    pub conditions : Expressions uses a b
    pub steps : Expressions uses s t
    pub bodies : AlikeStatements types types' selects uses true may_return x y

  pub record RelatedCalls (may_return : Bool) (c : Correspondence) (f : ℕ) (vs : List Value) (g : ℕ) (ws : List Value) : Type 0 where
    pub returning : may_return ≡ true
    pub same_function : functions f ≡ Some g
    pub values : RelatedValueLists c vs ws
    pub count : length vs ≡ arity f

  abbrev pub RelatedJobs : HeldAside → Bool → Correspondence → Job → Job → Type 0
  RelatedJobs held may_return c (body_of f vs) (body_of g ws) = RelatedCalls may_return c f vs g ws
  RelatedJobs held may_return c (turn frame a s x) (turn frame' b t y) = RelatedTurns held may_return c frame a s x frame' b t y
  RelatedJobs held may_return c job job' = ⊥

  -- ---- functions

  pub record AlikeBodies (count : ℕ) (types types' : List PlainType) (body body' : PlainItems) : Type 0 where
    pub selects : Bool
    pub parameter_types : (k : ℕ) → suc k ≤ count → WhereGiven ◌≡◌ (slice_get types k) (slice_get types' k)
    pub items : AlikeItems types types' selects (parameter_uses count) false true body body'

  abbrev pub AlikeFunctions : ℕ → PlainFunction → PlainFunction → Type 0
  AlikeFunctions count (defined types body) (defined types' body') = AlikeBodies count types types' body body'
  AlikeFunctions count (built_in b) (built_in b') = b ≡ b'
  AlikeFunctions count f g = ⊥

  pub record AlikePrograms : Type 0 where
    pub same_structs : p.structs ≡ p'.structs
    pub alike_functions : (f g : ℕ) → functions f ≡ Some g →
        WhereGiven (AlikeFunctions (arity f)) (slice_get p.functions f) (slice_get p'.functions g)
