-- What the kinds of nodes need of operands, members and functions.
use Rattle.std.proofs.Common.{◌≡◌, ℕ, zero, suc, ◌<◌, ◌≤◌, ◌&&◌, ◌||◌, Bool, true, false, List, [], ◌∷◌, length, get_or, Option, Some, None, refl, sym, ap, subst, arith, if◌then◌else◌}
use Rattle.std.specs.Prelude.{codes, option_map}
use Rattle.std.specs.Str.{bytes_eq}
use Rattle.cond_formula.specs.declared.formulas.Formula.{True}
use Rattle.cond_formula.specs.Conditions.{value, condition_of}
use Rattle.cond_formula.specs.ConditionLaws.{condition_of-True}
use Rattle.c_text.specs.Token.{PlainToken}
use Rattle.c_types.specs.Types.{PlainType, pointer_to, array_of, structure}
use Rattle.choice_trees.specs.ChoiceTrees.{semicolon}
use Rattle.conditional.specs.Judgements.{fine, refused, bind}
use Rattle.operand_types.specs.OperandTypes.{OperandType, Category, rvalue, lvalue, struct_in}
use Rattle.operand_types.specs.Operators.{loaded_type}
use Rattle.operand_rules.specs.Rules.{IsNumberIfNull, given, loaded_object, loaded_as}
use Rattle.operand_rules.proofs.Loads.{loads}
use Rattle.cond_operands.specs.Operands.{Judged, HasNumberIfNull}
use Rattle.expression_types.specs.Known.{Callable, Known}
use Rattle.expression_types.specs.Reading.{Read, no_expression, member_of_category, member_in, category_of_members, member_of_target, selected, called}
use Rattle.cond_nodes.specs.declared.parts.CondRead.{CondRead}
use Rattle.cond_nodes.specs.declared.parts.CastType.{CastType}
use Rattle.cond_nodes.specs.declared.parts.CastType.TheVariants.{Void, Char, UChar, Int, UInt, Long, ULong}
use Rattle.cond_nodes.specs.Reads.{cast_type, ShowsRead, EachRead, EachNumber}
use Rattle.cond_nodes.specs.Leading.{if_any}

-- ---- what holds always

pub always : (on : ℕ → Bool) → value on (condition_of True) ≡ true
always on = ap (value on) condition_of-True

pub always_under : (on : ℕ → Bool) → (false || (value on (condition_of True) && true)) ≡ true
always_under on = ap (λ k. value on k && true) condition_of-True

-- ---- operands by their numbers

pub read_at :
    (on : ℕ → Bool) (callable : ℕ → Callable) (reads : List Read) (xs : List CondRead) (i : ℕ) (x : CondRead) → i < length xs → EachRead on callable reads xs
    → ShowsRead on callable (get_or reads i no_expression) (get_or xs i x)
read_at on callable [] [] i x within each = absurd (omega (arith, within))
read_at on callable [] (y ∷ ys) i x within each = absurd each
read_at on callable (r ∷ rs) [] i x within each = absurd each
read_at on callable (r ∷ rs) (y ∷ ys) zero x within each = each.0
read_at on callable (r ∷ rs) (y ∷ ys) (suc i) x within each = read_at on callable rs ys i x (omega (arith, within)) each.1

pub none_at :
    (on : ℕ → Bool) (callable : ℕ → Callable) (reads : List Read) (xs : List CondRead) (i : ℕ) → length xs ≤ i → EachRead on callable reads xs
    → get_or reads i no_expression ≡ no_expression
none_at on callable [] xs zero past each = refl
none_at on callable [] xs (suc i) past each = refl
none_at on callable (r ∷ rs) [] i past each = absurd each
none_at on callable (r ∷ rs) (y ∷ ys) zero past each = absurd (omega (arith, past))
none_at on callable (r ∷ rs) (y ∷ ys) (suc i) past each = none_at on callable rs ys i (omega (arith, past)) each.1

-- ---- what is the null constant is a number

number_at : (reads : List Read) (i : ℕ) → EachNumber reads → HasNumberIfNull (get_or reads i no_expression).outcome
number_at [] zero each = tt
number_at [] (suc i) each = tt
number_at (r ∷ rs) zero each = each.0
number_at (r ∷ rs) (suc i) each = number_at rs i each.1

given_number : (o : OperandType) (t : PlainType) → HasNumberIfNull (given o t)
given_number o t = λ h. cc

struct_number : (o : OperandType) (n : ℕ) (b : Bool) → HasNumberIfNull (if b then given o (structure n) else refused tt)
struct_number o n true = given_number o (structure n)
struct_number o n false = tt

object_number : (o : OperandType) (t : PlainType) → HasNumberIfNull (loaded_object o t)
object_number o (array_of t count) = given_number o (pointer_to t)
object_number o (structure n) = struct_number o n o.has_complete_struct
object_number o t = given_number o t

loaded_number : (o : OperandType) (k : Category) → IsNumberIfNull o → HasNumberIfNull (loaded_as o k)
loaded_number o rvalue number = number
loaded_number o (lvalue free) number = object_number o o.ty

value_number : (x : Judged) → HasNumberIfNull x → HasNumberIfNull (bind x (loaded_type semicolon))
value_number (fine o) number = subst HasNumberIfNull (sym (loads semicolon o)) (loaded_number o o.category number)
value_number (refused why) number = tt

pub value_number_at : (reads : List Read) (i : ℕ) → EachNumber reads → HasNumberIfNull (bind (get_or reads i no_expression).outcome (loaded_type semicolon))
value_number_at reads i each = value_number (get_or reads i no_expression).outcome (number_at reads i each)

-- ---- functions and members

pub called_as :
    (callable : ℕ → Callable) (reads : List Read) (number : Option ℕ) (f : Option Callable) → option_map callable number ≡ f
    → if_any (λ k. called (Some (callable k)) reads) number ≡ called f reads
called_as callable reads None f is = ap (λ f. called f reads) is
called_as callable reads (Some k) f is = ap (λ f. called f reads) is

pub member_if_any : (category : Category) (m : Option OperandType) → if_any (λ m. fine (record m { category = category })) m ≡ member_of_category category m
member_if_any category None = refl
member_if_any category (Some m) = refl

pub selected_own :
    (known : Known) (select : PlainToken) (name : List ℕ) (x : Judged) → bytes_eq select.text (codes ".") ≡ true
    → bind x (λ o. member_in known o (category_of_members o.category) o.ty name) ≡ bind x (selected known select name)
selected_own known select name (fine o) is =
    ap (λ b. if b then member_in known o (category_of_members o.category) o.ty name else bind (loaded_type semicolon o) (λ v. member_of_target known v v.ty name)) (sym is)
selected_own known select name (refused why) is = refl

pub selected_target :
    (known : Known) (select : PlainToken) (name : List ℕ) (x : Judged) → bytes_eq select.text (codes ".") ≡ false
    → bind (bind x (loaded_type semicolon)) (λ v. member_of_target known v v.ty name) ≡ bind x (selected known select name)
selected_target known select name (fine o) is =
    ap (λ b. if b then member_in known o (category_of_members o.category) o.ty name else bind (loaded_type semicolon o) (λ v. member_of_target known v v.ty name)) (sym is)
selected_target known select name (refused why) is = refl

-- ---- casts

pub no_struct : (x : CastType) → struct_in (cast_type x) ≡ None
no_struct Void = refl
no_struct Char = refl
no_struct UChar = refl
no_struct Int = refl
no_struct UInt = refl
no_struct Long = refl
no_struct ULong = refl
