-- Judgements that are fine, and what expressions and statements of the quick form are judged to be.
use Rattle.std.proofs.Common.{◌≡◌, ◌⊎◌, inl, ℕ, pos, Bool, true, false, List, [], ◌∷◌, ◌++◌, codes, refl, ◌∙◌, ap, cond, Some, None, IsTrue}
use Rattle.std.specs.List.{AllByRecursion}
use Rattle.c_types.specs.declared.arithmetic.BinaryOp.TheVariants.{Add, Sub}
use Rattle.c_types.specs.Types.{PlainType, int}
use Rattle.c_tree.specs.declared.kinds.Kind.TheVariants as kind
use Rattle.c_tree.specs.Trees.{PlainTree}
use Rattle.core_meaning.specs.declared.integers.IntegerType.TheVariants.{Int}
use Rattle.core_meaning.specs.declared.expressions.Operation.TheVariants.{Numbers}
use Rattle.core_meaning.specs.Program.{PlainExpression, constant, read, binary, assign, call, global, no_argument, argument, block, evaluate, loop, return_value, PlainItems, no_item, statement_item}
use Rattle.core_meaning.specs.Checking.{Entity, file_entity, Binding, Checked, fine, with_bindings, ◌>>=◌, give, uses, declares}
use Rattle.core_meaning.specs.Entities.{Scope, FileName, variable, function, local_in, entity_number}
use Rattle.core_meaning.specs.Typing.{Operand, Typed, of_value, of_object, loaded}
use Rattle.core_meaning.specs.Expressions.{number_operand, judged, combined_by}
use Rattle.quick_form.specs.Symbols.{Name, Number, Mark}
use Rattle.quick_form.specs.Words.{is_number, value_of}
use Rattle.quick_form.specs.Form as form
use Rattle.quick_form.specs.Form.{Named, Literal, Term, Sum, operand_symbol}
use Rattle.quick_form.specs.Program as quick
use Rattle.quick_form.specs.Program.{Code}
use Rattle.quick_trees.specs.Tokens.{Seat, Seats, skip, token_of}
use Rattle.quick_trees.specs.UnitTree.{word, sum_node, terms_tree, sum_tree}
use Rattle.quick_trees.proofs.Decimals.{number_value_is, number_is_int}

-- ---- judgements

-- names that expressions may use
abbrev pub IsUse : (List ℕ → Type 0) → Entity → Type 0
IsUse Known (file_entity x) = Known x
IsUse Known other = ⊥

abbrev pub IsAllowed : (List ℕ → Type 0) → Binding → Type 0
IsAllowed Known b = b.in_expression ≡ true → IsUse Known b.entity

-- the judgement is fine with this result, and binds only such names in expressions
pub record Judges {A : Type 0} (Known : List ℕ → Type 0) (judgement : Checked A) (result : A) : Type 0 where
  pub bindings : List Binding
  pub is : judgement ≡ fine result bindings
  pub allowed : AllByRecursion (IsAllowed Known) bindings

pub allowed_append : (Known : List ℕ → Type 0) (a b : List Binding) → AllByRecursion (IsAllowed Known) a → AllByRecursion (IsAllowed Known) b → AllByRecursion (IsAllowed Known) (a ++ b)
allowed_append Known [] b h k = k
allowed_append Known (x ∷ a) b h k = (h.0, allowed_append Known a b h.1 k)

pub judges_then : {A B : Type 0} (Known : List ℕ → Type 0) (first : Checked A) (x : A) (next : A → Checked B) (y : B) → Judges Known first x → Judges Known (next x) y → Judges Known (first >>= next) y
judges_then Known first x next y h k = record {
  bindings = h.bindings ++ k.bindings;
  is = ap (λ c. c >>= next) h.is ∙ ap (with_bindings h.bindings) k.is;
  allowed = allowed_append Known h.bindings k.bindings h.allowed k.allowed;
}

pub judges_now : {A : Type 0} (Known : List ℕ → Type 0) (judgement : Checked A) (x : A) → judgement ≡ give x → Judges Known judgement x
judges_now Known judgement x e = record { bindings = []; is = e; allowed = tt }

pub judges_use : (Known : List ℕ → Type 0) (x : List ℕ) → Known x → Judges Known (uses (file_entity x)) tt
judges_use Known x h = record { bindings = _; is = refl; allowed = (λ _. h, tt) }

pub judges_declared : (Known : List ℕ → Type 0) (x : List ℕ) → Judges Known (declares (file_entity x)) tt
judges_declared Known x = record { bindings = _; is = refl; allowed = (λ h. absurd cc, tt) }

pub judges_same : {A : Type 0} (Known : List ℕ → Type 0) (a b : Checked A) (x : A) → a ≡ b → Judges Known b x → Judges Known a x
judges_same Known a b x e h = record { bindings = h.bindings; is = e ∙ h.is; allowed = h.allowed }

-- ---- what code is in a core program, with the number of each global and that of `putchar`

module _ (at : List ℕ → ℕ) (putchar : ℕ) where
  abbrev pub operand_core : form.Operand → PlainExpression
  operand_core (Named x) = read (global (at x))
  operand_core (Literal d) = constant (pos (value_of d))

  abbrev pub terms_core : PlainExpression → List Term → PlainExpression
  terms_core left [] = left
  terms_core left (t ∷ ts) = terms_core (binary (Numbers (cond t.subtracted Sub Add) Int) left (operand_core t.operand)) ts

  abbrev pub sum_core : Sum → PlainExpression
  sum_core s = terms_core (operand_core s.first) s.more

  abbrev pub code_core : Code → PlainItems
  code_core quick.done = no_item
  code_core (quick.assign x s rest) = statement_item (evaluate (assign (global (at x)) (sum_core s))) (code_core rest)
  code_core (quick.put s rest) = statement_item (evaluate (call putchar (argument (sum_core s) no_argument))) (code_core rest)
  code_core (quick.give s rest) = statement_item (return_value (sum_core s)) (code_core rest)
  code_core (quick.while_ s body rest) = statement_item (loop true (sum_core s) (constant (pos 0)) (block (code_core body))) (code_core rest)

-- ---- what is visible

abbrev pub as_object : FileName
as_object = record { sort = variable int; internal = false }

abbrev pub as_function : List PlainType → FileName
as_function parameters = record { sort = function (record { result = int; parameters = parameters }); internal = false }

-- the objects of these names, and `putchar`
pub record Sees (Known : List ℕ → Type 0) (scope : Scope) : Type 0 where
  pub no_local : (x : List ℕ) → local_in scope.blocks x ≡ None
  pub objects : (x : List ℕ) → Known x → scope.file_names x ≡ Some as_object
  pub putchar : scope.file_names (codes "putchar") ≡ Some (as_function (int ∷ []))

-- the names that may be used besides objects
abbrev pub Usable : (List ℕ → Type 0) → List ℕ → Type 0
Usable Known x = Known x ⊎ (x ≡ codes "putchar")

abbrev pub IsKnown : (List ℕ → Type 0) → form.Operand → Type 0
IsKnown Known (Named x) = Known x
IsKnown Known (Literal d) = IsTrue (is_number d)

abbrev pub AreKnown : (List ℕ → Type 0) → List Term → Type 0
AreKnown Known [] = Unit {0}
AreKnown Known (t ∷ ts) = IsKnown Known t.operand × AreKnown Known ts

pub record IsKnownSum (Known : List ℕ → Type 0) (s : Sum) : Type 0 where
  pub first : IsKnown Known s.first
  pub more : AreKnown Known s.more

abbrev pub IsKnownCode : (List ℕ → Type 0) → Code → Type 0
IsKnownCode Known quick.done = Unit {0}
IsKnownCode Known (quick.assign x s rest) = Known x × IsKnownSum Known s × IsKnownCode Known rest
IsKnownCode Known (quick.put s rest) = IsKnownSum Known s × IsKnownCode Known rest
IsKnownCode Known (quick.give s rest) = IsKnownSum Known s × IsKnownCode Known rest
IsKnownCode Known (quick.while_ s body rest) = IsKnownSum Known s × IsKnownCode Known body × IsKnownCode Known rest

-- ---- expressions

abbrev pub int_value : PlainExpression → Bool → Typed
int_value core null = record { ty = int; core = core; is_null = null }

-- the tree is judged as an `int` with this value
pub record IsInt (Known : List ℕ → Type 0) (scope : Scope) (tree : PlainTree) (core : PlainExpression) : Type 0 where
  pub operand : Operand
  pub null : Bool
  pub judges : Judges (Usable Known) (judged scope tree) operand
  pub loads : Judges (Usable Known) (loaded scope operand) (int_value core null)

-- a judgement that goes on with the value
pub then_value_in : {B : Type 0} (Known : List ℕ → Type 0) (scope : Scope) (tree : PlainTree) (core : PlainExpression) (next : Typed → Checked B) (y : B) → (h : IsInt Known scope tree core)
    → Judges (Usable Known) (next (int_value core h.null)) y → Judges (Usable Known) (judged scope tree >>= (λ l. loaded scope l >>= next)) y
then_value_in Known scope tree core next y h k =
    judges_then (Usable Known) (judged scope tree) h.operand (λ l. loaded scope l >>= next) y h.judges
    (judges_then (Usable Known) (loaded scope h.operand) (int_value core h.null) next y h.loads k)

module _ (Known : List ℕ → Type 0) (scope : Scope) (sees : Sees Known scope) where
  abbrev pub at : List ℕ → ℕ
  at x = entity_number scope.numbers.globals x

  abbrev pub putchar : ℕ
  putchar = entity_number scope.numbers.functions (codes "putchar")

  pub name_is : (x : List ℕ) (seat : Seat) → Known x → Judges (Usable Known) (judged scope (word (Name x) seat)) (of_object (token_of (Name x) seat) int (global (at x)) true)
  name_is x seat h =
      judges_same (Usable Known) _ (uses (file_entity x) >>= (λ bound. give (of_object (token_of (Name x) seat) int (global (at x)) true))) _
      (rw (sees.no_local x, sees.objects x h) refl)
      (judges_then (Usable Known) (uses (file_entity x)) tt (λ bound. give (of_object (token_of (Name x) seat) int (global (at x)) true)) _
      (judges_use (Usable Known) x (inl h)) (judges_now (Usable Known) _ _ refl))

  operand_is : (o : form.Operand) (seat : Seat) → IsKnown Known o → IsInt Known scope (word (operand_symbol o) seat) (operand_core at putchar o)
  operand_is (Named x) seat h = record { operand = _; null = false; judges = name_is x seat h; loads = judges_now (Usable Known) _ _ refl }
  operand_is (Literal d) seat h = record {
    operand = number_operand (token_of (Number d) seat);
    null = (number_operand (token_of (Number d) seat)).is_null;
    judges = judges_now (Usable Known) _ _ refl;
    loads = judges_now (Usable Known) (loaded scope (number_operand (token_of (Number d) seat))) (int_value (constant (pos (value_of d))) (number_operand (token_of (Number d) seat)).is_null) (rw (number_is_int d h, number_value_is d h) refl);
  }

  combined_is : (b : Bool) (seat : Seat) (x y : PlainExpression) (null null' : Bool)
      → combined_by scope kind.Sum (token_of (Mark (cond b 45 43)) seat) (int_value x null) (int_value y null') ≡ give (of_value (token_of (Mark (cond b 45 43)) seat) int (binary (Numbers (cond b Sub Add) Int) x y))
  combined_is true seat x y null null' = refl
  combined_is false seat x y null null' = refl

  sum_node_is : (left : PlainTree) (core : PlainExpression) (b : Bool) (o : form.Operand) (seats : Seats) → IsInt Known scope left core → IsKnown Known o
      → IsInt Known scope (sum_node left (record { subtracted = b; operand = o }) seats) (binary (Numbers (cond b Sub Add) Int) core (operand_core at putchar o))
  sum_node_is left core b o seats h k =
      let sign = token_of (Mark (cond b 45 43)) (seats 0) in
      let second = word (operand_symbol o) (seats 1) in
      let right = operand_is o (seats 1) k in
      record {
        operand = of_value sign int (binary (Numbers (cond b Sub Add) Int) core (operand_core at putchar o));
        null = false;
        judges =
            then_value_in Known scope left core (λ x. judged scope second >>= (λ r. loaded scope r >>= (λ y. combined_by scope kind.Sum sign x y))) _ h
            (then_value_in Known scope second (operand_core at putchar o) (λ y. combined_by scope kind.Sum sign (int_value core h.null) y) _ right
            (judges_now (Usable Known) _ _ (combined_is b (seats 0) core (operand_core at putchar o) h.null right.null)));
        loads = judges_now (Usable Known) _ _ refl;
      }

  terms_are : (left : PlainTree) (core : PlainExpression) (ts : List Term) (seats : Seats) → IsInt Known scope left core → AreKnown Known ts
      → IsInt Known scope (terms_tree left ts seats).tree (terms_core at putchar core ts)
  terms_are left core [] seats h k = h
  terms_are left core (t ∷ ts) seats h k =
      terms_are (sum_node left t seats) (binary (Numbers (cond t.subtracted Sub Add) Int) core (operand_core at putchar t.operand)) ts (skip 2 seats)
      (sum_node_is left core t.subtracted t.operand seats h k.0) k.1

  pub sum_is : (s : Sum) (seats : Seats) → IsKnownSum Known s → IsInt Known scope (sum_tree s seats).tree (sum_core at putchar s)
  sum_is s seats h = terms_are (word (operand_symbol s.first) (seats 0)) (operand_core at putchar s.first) s.more (skip 1 seats) (operand_is s.first (seats 0) h.first) h.more
