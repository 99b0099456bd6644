-- Types that name no struct but those whose tags are visible.
use Rattle.std.proofs.Common.{◌≡◌, ℕ, Bool, true, false, List, [], ◌∷◌, sym, subst}
use Rattle.std.specs.Prelude.{Some, ℤ, ◌||◌, if◌then◌else◌, nat_le}
use Rattle.c_types.specs.Types.{PlainType, char, unsigned_char, int, pointer_to, array_of, structure}
use Rattle.c_types.specs.Integers.{is_in_range}
use Rattle.c_tree.specs.Trees.{PlainTrees}
use Rattle.c_tree.specs.declared.terminals.Terminal.TheVariants as t
use Rattle.core_meaning.specs.declared.expressions.Operation.{Operation}
use Rattle.core_meaning.specs.declared.expressions.Operation.TheVariants as operation
use Rattle.c_types.specs.declared.arithmetic.BinaryOp.{BinaryOp}
use Rattle.core_meaning.specs.Entities.{Table, Sort, variable, function}
use Rattle.core_meaning.specs.Typing.{promoted, common, rank}
use Rattle.core_meaning.specs.Expressions.{first_type, number_types, words_type, arithmetic_words, has_terminal, operation_type, result_type, computing_type, is_order, is_equality, is_shift_operator}

pub record Tagged (tags : Table ℕ) (n : ℕ) : Type 0 where
  pub tag : List ℕ
  pub is : tags tag ≡ Some n

abbrev pub Made : Table ℕ → PlainType → Type 0
Made tags (pointer_to t) = Made tags t
Made tags (array_of t count) = Made tags t
Made tags (structure n) = Tagged tags n
Made tags other = Unit {0}

abbrev pub AllMade : Table ℕ → List PlainType → Type 0
AllMade tags [] = Unit {0}
AllMade tags (ty ∷ types) = Made tags ty × AllMade tags types

abbrev pub MadeSort : Table ℕ → Sort → Type 0
MadeSort tags (variable ty) = Made tags ty
MadeSort tags (function signature) = Made tags signature.result × AllMade tags signature.parameters

pub made_promoted : (tags : Table ℕ) (ty : PlainType) → Made tags ty → Made tags (promoted ty)
made_promoted tags char h = tt
made_promoted tags unsigned_char h = tt
made_promoted tags other h = h

pub made_if : (tags : Table ℕ) (b : Bool) (s u : PlainType) → Made tags s → Made tags u → Made tags (if b then s else u)
made_if tags true s u f g = f
made_if tags false s u f g = g

pub made_common : (tags : Table ℕ) (a b : PlainType) → Made tags a → Made tags b → Made tags (common a b)
made_common tags a b f g =
    made_if tags (nat_le (rank (promoted a)) (rank (promoted b))) (promoted b) (promoted a) (made_promoted tags b g) (made_promoted tags a f)

first_made : (tags : Table ℕ) (types : List PlainType) (z : ℤ) → AllMade tags types → Made tags (first_type types z)
first_made tags [] z h = tt
first_made tags (ty ∷ types) z h = made_if tags (is_in_range ty z) ty (first_type types z) h.0 (first_made tags types z h.1)

numbers_made : (tags : Table ℕ) (a b c : Bool) → AllMade tags (number_types a b c)
numbers_made tags true true c = (tt, tt)
numbers_made tags true false c = (tt, (tt, tt))
numbers_made tags false true true = (tt, tt)
numbers_made tags false true false = (tt, (tt, tt))
numbers_made tags false false true = (tt, (tt, tt))
numbers_made tags false false false = (tt, (tt, (tt, (tt, tt))))

pub made_number : (tags : Table ℕ) (l : List PlainType) (z : ℤ) (a b c : Bool) → l ≡ number_types a b c → Made tags (first_type l z)
made_number tags l z a b c e = first_made tags l z (subst (AllMade tags) (sym e) (numbers_made tags a b c))

made_words_type : (tags : Table ℕ) (a b c d : Bool) → Made tags (words_type a b c d)
made_words_type tags true b c d = tt
made_words_type tags false true true d = tt
made_words_type tags false false true d = tt
made_words_type tags false true false true = tt
made_words_type tags false false false true = tt
made_words_type tags false true false false = tt
made_words_type tags false false false false = tt

pub made_words : (tags : Table ℕ) (words : PlainTrees) → Made tags (arithmetic_words words)
made_words tags words = made_words_type tags (has_terminal t.Void words) (has_terminal t.Unsigned words) (has_terminal t.Char words) (has_terminal t.Long words)

made_computing : (tags : Table ℕ) (op : BinaryOp) (a b : PlainType) → Made tags a → Made tags b → Made tags (computing_type op a b)
made_computing tags op a b f g = made_if tags (is_shift_operator op) (promoted a) (common a b) (made_promoted tags a f) (made_common tags a b f g)

made_result : (tags : Table ℕ) (op : BinaryOp) (a b : PlainType) → Made tags a → Made tags b → Made tags (result_type op a b)
made_result tags op a b f g = orders (is_order op) (is_equality op)
  where
    orders : (x y : Bool) → Made tags (if x || y then int else computing_type op a b)
    orders true y = tt
    orders false true = tt
    orders false false = made_computing tags op a b f g

pub made_operation : (tags : Table ℕ) (o : Operation) (a b : PlainType) → Made tags a → Made tags b → Made tags (operation_type o a b)
made_operation tags operation.Forward a b f g = f
made_operation tags operation.ForwardBy a b f g = g
made_operation tags operation.Back a b f g = f
made_operation tags operation.Distance a b f g = tt
made_operation tags (operation.Pointers op) a b f g = tt
made_operation tags (operation.Numbers op ty) a b f g = made_result tags op a b f g
