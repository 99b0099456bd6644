-- The first values of scalars, whose number of globals matters to texts alone.
use Rattle.std.proofs.Common.{◌≡◌, ℕ, Bool, true, false, List, [], ◌∷◌, ◌++◌, refl, sym, ap, ◌∙◌}
use Rattle.std.specs.Prelude.{Option, Some, None, is_some, option_map, if◌then◌else◌, ◌+◌}
use Rattle.std.proofs.Math.Path.{fun_ext}
use Rattle.c_text.specs.Token.{PlainToken}
use Rattle.c_types.specs.Types.{PlainType, array_of}
use Rattle.c_tree.specs.declared.kinds.Kind.TheVariants as k
use Rattle.c_tree.specs.Trees.{PlainTree, PlainTrees, node, none, more}
use Rattle.core_meaning.specs.declared.refusals.TypeKind.TheVariants.{BadOperand, BadConstant}
use Rattle.core_meaning.specs.Program.{PlainExpression, PlainPlace, null_constant, address, first_element, global, literal}
use Rattle.core_meaning.specs.Values.{Path, Scalar, number}
use Rattle.core_meaning.specs.Checking.{Checked, ◌>>=◌, give, unless_so, found_or}
use Rattle.core_meaning.specs.Entities.{Scope}
use Rattle.core_meaning.specs.Typing.{fits_into}
use Rattle.core_meaning.specs.Expressions.{valued, first_token}
use Rattle.core_meaning.specs.Constancy.{is_constant, constant_value, address_scalar, first_scalar, is_allowed, value_initial, whole_initial, text_or_whole, Initial, initial, initial_entries, part_for, path_for, part_or_excess}

pub address_there : (globals : ℕ) (place : PlainPlace) (e : PlainExpression) (x : Option Scalar) → e ≡ address place → x ≡ address_scalar globals (address place) → x ≡ address_scalar globals e
address_there globals place e x is there = there ∙ ap (address_scalar globals) (sym is)

pub number_there : (globals : ℕ) (e : PlainExpression) (x : Option Scalar) → is_constant e ≡ true → x ≡ option_map number (constant_value e) → x ≡ first_scalar globals e
number_there globals e x is there = rw is there

-- whether there is a value doesn't depend on the number of globals
address_or_none : (g h : ℕ) (e : PlainExpression) → is_some (address_scalar g e) ≡ is_some (address_scalar h e)
address_or_none g h null_constant = refl
address_or_none g h (address (global n)) = refl
address_or_none g h (address other) = refl
address_or_none g h (first_element (global n)) = refl
address_or_none g h (first_element (literal n)) = refl
address_or_none g h (first_element other) = refl
address_or_none g h other = refl

chosen : {A : Type 0} (b : Bool) (x y z : Option A) → is_some y ≡ is_some z → is_some (if b then x else y) ≡ is_some (if b then x else z)
chosen true x y z same = refl
chosen false x y z same = same

scalar_or_none : (g h : ℕ) (e : PlainExpression) → is_some (first_scalar g e) ≡ is_some (first_scalar h e)
scalar_or_none g h e = chosen (is_constant e) (option_map number (constant_value e)) (address_scalar g e) (address_scalar h e) (address_or_none g h e)

allowed_same : (scope : Scope) (g h : ℕ) → is_allowed scope (Some g) ≡ is_allowed scope (Some h)
allowed_same scope g h = fun_ext (λ e. scalar_or_none g h e)

pub value_same : (scope : Scope) (g h : ℕ) (ty : PlainType) (path : Path) (tree : PlainTree) (first : PlainToken) → value_initial scope (Some g) ty path tree first ≡ value_initial scope (Some h) ty path tree first
value_same scope g h ty path tree first = ap (λ (allowed : PlainExpression → Bool). valued scope tree >>= (λ x. found_or (fits_into ty x) BadOperand first >>= (λ core. unless_so (allowed core) BadConstant first >>= (λ u. give (record { path = path; value = core; first = first } ∷ []))))) (allowed_same scope g h)

whole_same : (scope : Scope) (g h : ℕ) (ty : PlainType) (path : Path) (tree : PlainTree) (first : PlainToken) → whole_initial scope (Some g) ty path tree first ≡ whole_initial scope (Some h) ty path tree first
whole_same scope g h (array_of element count) path tree first = refl
whole_same scope g h other path tree first = value_same scope g h other path tree first

text_same : (scope : Scope) (g h : ℕ) (ty : PlainType) (path : Path) (parts : PlainTrees) (first : PlainToken) → text_or_whole scope (Some g) ty path parts first ≡ text_or_whole scope (Some h) ty path parts first
text_same scope g h (array_of element count) path parts first = refl
text_same scope g h other path parts first = value_same scope g h other path (node k.Texts parts) first

excess_same : (scope : Scope) (g h : ℕ) (element : Option PlainType) (tree : PlainTree) (first : PlainToken) → part_or_excess scope (Some g) element tree first ≡ part_or_excess scope (Some h) element tree first
excess_same scope g h (Some element) tree first = refl
excess_same scope g h None tree first = refl

mutual
  -- an initialiser's parts don't depend on the number of globals
  pub initial_same : (scope : Scope) (g h : ℕ) (ty : PlainType) (path : Path) (tree : PlainTree) (behind : PlainToken) → initial scope (Some g) ty path tree behind ≡ initial scope (Some h) ty path tree behind
  initial_same scope g h ty path (node k.Braces (more brace (more (node kind entries) (more last none)))) behind = entries_same scope g h ty path 0 entries behind
  initial_same scope g h ty path (node k.Texts parts) behind = text_same scope g h ty path parts (first_token (node k.Texts parts) behind)
  initial_same scope g h ty path other behind = whole_same scope g h ty path other (first_token other behind)

  entries_same : (scope : Scope) (g h : ℕ) (ty : PlainType) (path : Path) (n : ℕ) (entries : PlainTrees) (behind : PlainToken) → initial_entries scope (Some g) ty path n entries behind ≡ initial_entries scope (Some h) ty path n entries behind
  entries_same scope g h ty path n none behind = refl
  entries_same scope g h ty path n (more tree none) behind =
      ap (λ (c : Checked PlainType). c >>= (λ element. initial scope (Some g) element (path_for ty path n) tree behind)) (excess_same scope g h (part_for scope.structs ty n) tree (first_token tree behind))
      ∙ ap (λ (next : PlainType → Checked (List Initial)). part_or_excess scope (Some h) (part_for scope.structs ty n) tree (first_token tree behind) >>= next) (fun_ext (λ element. initial_same scope g h element (path_for ty path n) tree behind))
  entries_same scope g h ty path n (more tree (more comma rest)) behind =
      ap (λ (c : Checked PlainType). c >>= (λ element. initial scope (Some g) element (path_for ty path n) tree behind >>= (λ first. initial_entries scope (Some g) ty path (n + 1) rest behind >>= (λ others. give (first ++ others))))) (excess_same scope g h (part_for scope.structs ty n) tree (first_token tree behind))
      ∙ ap (λ (next : PlainType → Checked (List Initial)). part_or_excess scope (Some h) (part_for scope.structs ty n) tree (first_token tree behind) >>= next)
      (fun_ext (λ element.
      ap (λ (c : Checked (List Initial)). c >>= (λ first. initial_entries scope (Some g) ty path (n + 1) rest behind >>= (λ others. give (first ++ others)))) (initial_same scope g h element (path_for ty path n) tree behind)
      ∙ ap (λ (c : Checked (List Initial)). initial scope (Some h) element (path_for ty path n) tree behind >>= (λ first. c >>= (λ others. give (first ++ others)))) (entries_same scope g h ty path (n + 1) rest behind)))
