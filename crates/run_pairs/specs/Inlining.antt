-- A call, and a block with objects of its own that stands for it.
use Rattle.std.specs.Prelude.{◌≡◌, ◌≢◌, ℕ, Bool, true, false, List, [], ◌∷◌, length, Option, Some, None, slice_get, ⊤}
use Rattle.c_types.specs.Types.{PlainType}
use Rattle.core_meaning.specs.declared.integers.IntegerType.{IntegerType}
use Rattle.core_meaning.specs.Values.{Value, nothing, scalar, whole, is_scalar}
use Rattle.core_meaning.specs.Program.{PlainExpression, convert, read, assign, call, PlainPlace, slot, global, PlainArguments, argument, PlainPart, PlainStatement, block, evaluate, return_nothing, return_value, PlainItems, no_item, local, statement_item, defined, PlainProgram}
use Rattle.core_meaning.specs.Outcomes.{State, Comes}
use Rattle.core_meaning.specs.Meaning.{returns, body_of, meaning}
use Rattle.run_pairs.specs.Correspondences.{Correspondence, WhereGiven}
use Rattle.run_pairs.specs.Alike.{Use, Uses, direct, through, elements, unused, AreDistinct, with_use, argument_count, Selection, in_block, at_declaration, Replacement, AlikeExpressions, AlikeArguments, AlikeParts, AlikeStatements}
use Rattle.run_pairs.specs.Extraction.{Nothing}

-- ---- the value of the call

-- a value is one of this type, so far as it is a scalar or a struct
abbrev pub Fits : PlainType → Value → Type 0
Fits t nothing = ⊤
Fits t (scalar v) = is_scalar t ≡ true
Fits t (whole cells) = is_scalar t ≡ false

-- the function returns values of this type alone
abbrev pub ReturnsFit : PlainProgram → ℕ → PlainType → Type 0
ReturnsFit p f t = (n : ℕ) (vs : List Value) (s now : State) (v : Value) (out : List ℕ) → meaning p n (body_of f vs) s ≡ Comes (returns v) now out → Fits t v

-- an expression, converted to one type after another
abbrev pub converted_by : List IntegerType → PlainExpression → PlainExpression
converted_by [] e = e
converted_by (t ∷ ts) e = convert t (converted_by ts e)

-- ---- slots

-- no slot in scope stands in this one
pub record IsNew (uses : Uses) (k : ℕ) : Type 0 where
  pub not_direct : (j : ℕ) → uses j ≡ direct k → ⊥
  pub not_through : (j : ℕ) → uses j ≡ through k → ⊥
  pub not_elements : (j : ℕ) → uses j ≡ elements k → ⊥

abbrev pub AreNew : Uses → List ℕ → Type 0
AreNew uses [] = ⊤
AreNew uses (k ∷ ks) = IsNew uses k × AreNew uses ks

-- none of them is this one
abbrev pub DifferFrom : ℕ → List ℕ → Type 0
DifferFrom k [] = ⊤
DifferFrom k (j ∷ js) = (j ≢ k) × DifferFrom k js

abbrev pub AllDiffer : List ℕ → Type 0
AllDiffer [] = ⊤
AllDiffer (k ∷ ks) = DifferFrom k ks × AllDiffer ks

abbrev pub and_slot : Option ℕ → List ℕ → List ℕ
and_slot None ks = ks
and_slot (Some k) ks = k ∷ ks

abbrev pub slot_use : Option ℕ → Use
slot_use None = unused
slot_use (Some k) = direct k

-- the parameters from the first on stand in these slots
abbrev pub parameters_in : List ℕ → Uses
parameters_in ks j = slot_use (slice_get ks j)

-- ---- the block

-- objects for the parameters, each with its argument
abbrev pub with_parameters : List ℕ → PlainArguments → PlainItems → PlainItems
with_parameters (k ∷ ks) (argument e es) items = local k (record { path = []; value = e } ∷ []) (with_parameters ks es items)
with_parameters ks es items = items

-- an object for the value, if there is to be one
abbrev pub with_result : Option ℕ → PlainItems → PlainItems
with_result None items = items
with_result (Some k) items = local k [] items

module _ (p p' : PlainProgram) (functions : ℕ → Option ℕ) (arity : ℕ → ℕ) (first : Correspondence) (types types' : List PlainType) where
  -- a body, and its copy, whose last `return` puts its value into the object for it
  pub data Copied (result : Option ℕ) : Uses → PlainItems → PlainItems → Type 0 where
    no_items : (uses : Uses) → Copied result uses no_item no_item
    returns_nothing : (uses : Uses) → Copied result uses (statement_item return_nothing no_item) (statement_item (block no_item) no_item)
    returns_value : (uses : Uses) (k : ℕ) (a b : PlainExpression) → result ≡ Some k → AlikeExpressions p p' functions arity first false uses a b →
        Copied result uses (statement_item (return_value a) no_item) (statement_item (evaluate (assign (slot k) b)) no_item)
    locals : (uses : Uses) (j k : ℕ) (x y : List PlainPart) (a b : PlainItems) → (result ≡ Some k → ⊥) →
        WhereGiven ◌≡◌ (slice_get types j) (slice_get types' k) → AreDistinct (with_use uses j k) →
        AlikeParts p p' functions arity first false (with_use uses j k) x y → Copied result (with_use uses j k) a b →
        Copied result uses (local j x a) (local k y b)
    statement_items : (uses : Uses) (s t : PlainStatement) (a b : PlainItems) →
        AlikeStatements p p' functions arity first Nothing types types' false uses false false s t → Copied result uses a b →
        Copied result uses (statement_item s a) (statement_item t b)

  -- a variable, and the one that stands for it
  pub data SameVariables (uses : Uses) : PlainPlace → PlainPlace → Type 0 where
    slots : (j k : ℕ) → uses j ≡ direct k → SameVariables uses (slot j) (slot k)
    globals : (j k : ℕ) → first j ≡ Some k → SameVariables uses (global j) (global k)

  -- what is done with the value of a call, and with that of the object into which it was put
  pub data SameUse (e : PlainExpression) (uses : Uses) (may_return : Bool) : Option ℕ → Selection → PlainItems → Type 0 where
    -- f(a);
    not_used : (result : Option ℕ) → SameUse e uses may_return result (in_block (evaluate e ∷ [])) no_item
    -- x = f(a);
    assigned : (k : ℕ) (ts : List IntegerType) (a b : PlainPlace) → SameVariables uses a b →
        SameUse e uses may_return (Some k) (in_block (evaluate (assign a (converted_by ts e)) ∷ []))
        (statement_item (evaluate (assign b (converted_by ts (read (slot k))))) no_item)
    -- T x = f(a);
    declared : (k : ℕ) (ts : List IntegerType) (i j : ℕ) → uses i ≡ direct j →
        SameUse e uses may_return (Some k) (at_declaration i (record { path = []; value = converted_by ts e } ∷ []))
        (statement_item (evaluate (assign (slot j) (converted_by ts (read (slot k))))) no_item)
    -- return f(a);
    returned : (k : ℕ) (ts : List IntegerType) → may_return ≡ true →
        SameUse e uses may_return (Some k) (in_block (return_value (converted_by ts e) ∷ []))
        (statement_item (return_value (converted_by ts (read (slot k)))) no_item)

abbrev pub ResultType : PlainProgram → ℕ → List PlainType → Option ℕ → Type 0
ResultType p f types None = ⊤
ResultType p f types (Some k) = (t : PlainType) × (slice_get types k ≡ Some t) × ReturnsFit p f t

-- A statement or an initialiser with a call, and the block that stands for it. No object with temporary lifetime is made for the
-- arguments: that of the original lives through the call, and that of the result would not.
pub record Inlined (p p' : PlainProgram) (functions : ℕ → Option ℕ) (arity : ℕ → ℕ) (first : Correspondence)
    (types types' : List PlainType) (uses : Uses) (may_return : Bool) (selection : Selection) (ts : List PlainStatement) : Type 0 where
  pub callee : ℕ
  pub arguments : PlainArguments
  pub arguments' : PlainArguments
  pub inner_types : List PlainType
  pub body : PlainItems
  pub body' : PlainItems
  pub is_function : slice_get p.functions callee ≡ Some (defined inner_types body)
  -- the slots of the objects for the value and for the parameters
  pub result : Option ℕ
  pub parameters : List ℕ
  pub last : PlainItems
  pub one_block : ts ≡ block (with_result result (with_parameters parameters arguments' (statement_item (block body') last))) ∷ []
  pub same_use : SameUse p p' functions arity first types types' (call callee arguments) uses may_return result selection last
  pub are_new : AreNew uses (and_slot result parameters)
  pub differ : AllDiffer (and_slot result parameters)
  pub same_arguments : AlikeArguments p p' functions arity first true uses arguments arguments'
  pub count : length parameters ≡ argument_count arguments
  pub parameter_types : (j k : ℕ) → slice_get parameters j ≡ Some k → (t : PlainType) × (slice_get inner_types j ≡ Some t) × (slice_get types' k ≡ Some t)
  pub result_type : ResultType p callee types' result
  pub copied : Copied p p' functions arity first inner_types types' result (parameters_in parameters) body body'

abbrev pub Inlines : (p p' : PlainProgram) (functions : ℕ → Option ℕ) (arity : ℕ → ℕ) (first : Correspondence) → Replacement
Inlines p p' functions arity first types types' uses r selection ts = Inlined p p' functions arity first types types' uses r selection ts
