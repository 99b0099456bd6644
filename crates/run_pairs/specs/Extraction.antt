-- Selected statements, and a call of a function whose body they are.
use Rattle.std.specs.Prelude.{◌≡◌, ℕ, true, false, List, [], ◌∷◌, Option, Some, slice_get}
use Rattle.c_types.specs.Types.{PlainType}
use Rattle.core_meaning.specs.Values.{is_scalar}
use Rattle.core_meaning.specs.Program.{address, first_element, slot, call, PlainArguments, no_argument, argument, PlainStatement, evaluate, PlainItems, no_item, defined, PlainProgram}
use Rattle.run_pairs.specs.Correspondences.{Correspondence}
use Rattle.run_pairs.specs.Alike.{Uses, direct, through, elements, AreDistinct, before_items, in_block, at_declaration, Replacement, AlikeItems}

-- nothing else stands for statements
abbrev pub Nothing : Replacement
Nothing types types' uses r selection ts = ⊥

-- what is passed: a variable, or an array, by its slot in the result
pub data Entry : Type 0 where
  variable : ℕ → Entry
  array : ℕ → Entry

abbrev pub arguments_of : List Entry → PlainArguments
arguments_of [] = no_argument
arguments_of (variable i ∷ rest) = argument (address (slot i)) (arguments_of rest)
arguments_of (array i ∷ rest) = argument (first_element (slot i)) (arguments_of rest)

abbrev pub slot_of : Entry → ℕ
slot_of (variable i) = i
slot_of (array i) = i

pub record Extracted (p p' : PlainProgram) (functions : ℕ → Option ℕ) (arity : ℕ → ℕ) (first : Correspondence)
    (types types' : List PlainType) (uses : Uses) (ss ts : List PlainStatement) : Type 0 where
  pub callee : ℕ
  pub entries : List Entry
  pub call_alone : ts ≡ evaluate (call callee (arguments_of entries)) ∷ []
  pub inner_types : List PlainType
  pub body : PlainItems
  pub is_function : slice_get p'.functions callee ≡ Some (defined inner_types body)
  pub parameter_types : (k : ℕ) (e : Entry) → slice_get entries k ≡ Some e →
      (t : PlainType) × (slice_get inner_types k ≡ Some t) × (is_scalar t ≡ true)
  pub in_scope : (k : ℕ) (e : Entry) → slice_get entries k ≡ Some e → (j : ℕ) × (uses j ≡ direct (slot_of e))
  pub inner : Uses
  pub distinct : AreDistinct inner
  pub none_direct : (j k : ℕ) → inner j ≡ direct k → ⊥
  pub passed : (j k : ℕ) → inner j ≡ through k → (i : ℕ) × (uses j ≡ direct i) × (slice_get entries k ≡ Some (variable i))
  pub passed_array : (j k : ℕ) → inner j ≡ elements k → (i : ℕ) × (uses j ≡ direct i) × (slice_get entries k ≡ Some (array i))
  pub items : AlikeItems p p' functions arity first Nothing types inner_types false inner false false (before_items ss no_item) body

abbrev pub Extracts : (p p' : PlainProgram) (functions : ℕ → Option ℕ) (arity : ℕ → ℕ) (first : Correspondence) → Replacement
Extracts p p' functions arity first types types' uses r (in_block ss) ts = Extracted p p' functions arity first types types' uses ss ts
Extracts p p' functions arity first types types' uses r (at_declaration j x) ts = ⊥
