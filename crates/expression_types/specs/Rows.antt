-- Worked examples, no part of the definitions: expressions in a function, written with a blank between two tokens, and their types by the
-- standard (ISO/IEC 9899:2011, 6.3, 6.5).
use Rattle.std.specs.Prelude.{◌≡◌, ℕ, Bool, true, false, List, [], ◌∷◌, ◌++◌, codes, Option, Some, None, if◌then◌else◌}
use Rattle.std.specs.Str.{bytes_eq}
use Rattle.c_types.specs.Types.{PlainType, char, int, unsigned_int, long, pointer_to, array_of, structure}
use Rattle.c_tree.specs.declared.kinds.Kind.TheVariants as k
use Rattle.c_tree.specs.Trees.{PlainTree, PlainTrees, node, more}
use Rattle.c_tree.specs.Machine.{read, of_trees}
use Rattle.conditional.specs.Judgements.{fine}
use Rattle.bindings.specs.Rows.{tokens_of}
use Rattle.operand_types.specs.OperandTypes.{OperandType, Category, rvalue, lvalue}
use Rattle.expression_types.specs.Known.{Denoted, an_object, a_function, Known}
use Rattle.expression_types.specs.Reading.{Outcome, no_outcome, read_expression}

-- ---- what is known: the struct 0 is complete, the struct 1 isn't

abbrev pub type_as : Category → Bool → PlainType → OperandType
type_as category complete ty = record { ty = ty; category = category; is_null = false; has_complete_struct = complete }

abbrev pub object : PlainType → Option Denoted
object ty = Some (an_object (type_as (lvalue true) true ty))

-- unsigned int x; char c; int n; struct 0 s, *p; struct 1 *q; char a[4]; struct 0 f(int); int g(int, char *);
abbrev pub denoted : List ℕ → Option Denoted
denoted name =
    if bytes_eq name (codes "x") then object unsigned_int
    else if bytes_eq name (codes "c") then object char
    else if bytes_eq name (codes "n") then object int
    else if bytes_eq name (codes "s") then object (structure 0)
    else if bytes_eq name (codes "p") then object (pointer_to (structure 0))
    else if bytes_eq name (codes "q") then Some (an_object (type_as (lvalue true) false (pointer_to (structure 1))))
    else if bytes_eq name (codes "a") then object (array_of char 4)
    else if bytes_eq name (codes "f") then Some (a_function (record { result = type_as rvalue true (structure 0); parameters = int ∷ [] }))
    else if bytes_eq name (codes "g") then Some (a_function (record { result = type_as rvalue true int; parameters = int ∷ pointer_to char ∷ [] }))
    else None

-- struct 0 { int m; struct 0 *next; };
abbrev pub member : List ℕ → Option OperandType
member name =
    if bytes_eq name (codes "m") then Some (type_as (lvalue true) true int)
    else if bytes_eq name (codes "next") then Some (type_as (lvalue true) true (pointer_to (structure 0)))
    else None

abbrev pub known : Known
known = record { ordinary = denoted; members = λ number name. if Rattle.std.specs.Prelude.nat_eq number 0 then member name else None }

-- ---- the expression in a unit

abbrev pub expression_in_items : PlainTrees → Option PlainTree
expression_in_items (more (node k.ExpressionStatement (more tree rest)) others) = Some tree
expression_in_items trees = None

abbrev pub expression_in_block : PlainTrees → Option PlainTree
expression_in_block (more brace (more (node k.Items items) rest)) = expression_in_items items
expression_in_block trees = None

abbrev pub expression_in_unit : PlainTree → Option PlainTree
expression_in_unit (node k.Unit (more (node k.Function (more words (more declarator (more (node k.Block parts) rest)))) others)) = expression_in_block parts
expression_in_unit tree = None

abbrev pub outcome_in_unit : Option PlainTree → Outcome
outcome_in_unit None = no_outcome
outcome_in_unit (Some tree) = (read_expression known tree).outcome

abbrev pub outcome_in : Option PlainTree → Outcome
outcome_in None = no_outcome
outcome_in (Some tree) = outcome_in_unit (expression_in_unit tree)

abbrev pub outcome_of : List ℕ → Outcome
outcome_of text = outcome_in (read of_trees (tokens_of (codes "void h ( void ) { " ++ text ++ codes " ; }")))

abbrev pub IsValue : List ℕ → PlainType → Type 0
IsValue text ty = outcome_of text ≡ fine (type_as rvalue true ty)

abbrev pub IsObject : List ℕ → Bool → PlainType → Type 0
IsObject text free ty = outcome_of text ≡ fine (type_as (lvalue free) true ty)

abbrev pub IsRefused : List ℕ → Type 0
IsRefused text = outcome_of text ≡ no_outcome

-- ---- rows

-- the usual arithmetic conversions, and the integer promotions
abbrev pub NumbersAreConverted : Type 0
NumbersAreConverted = IsValue (codes "x + c") unsigned_int × IsValue (codes "c + c") int × IsValue (codes "- c") int × IsValue (codes "1L * x") long × IsValue (codes "x < 1L") int

-- pointers are moved where what they point to is complete, and compared with their kin and the null constant
abbrev pub PointersAreMoved : Type 0
PointersAreMoved =
    IsValue (codes "p + 1") (pointer_to (structure 0)) × IsValue (codes "1 + p") (pointer_to (structure 0)) × IsRefused (codes "q + 1")
    × IsValue (codes "p - p") long × IsRefused (codes "p - q") × IsValue (codes "q == 0") int × IsRefused (codes "q == 1") × IsRefused (codes "p == q")

-- the results of `?:`
abbrev pub ResultsAreOne : Type 0
ResultsAreOne =
    IsValue (codes "n ? p : 0") (pointer_to (structure 0)) × IsValue (codes "n ? 0 : p") (pointer_to (structure 0)) × IsRefused (codes "n ? p : 1")
    × IsValue (codes "n ? c : x") unsigned_int × IsRefused (codes "s ? 1 : 2")
    × (outcome_of (codes "n ? 0 : q") ≡ fine (type_as rvalue false (pointer_to (structure 1))))

-- members of structs, which are complete; those of a call's result aren't assigned to
abbrev pub MembersAreSelected : Type 0
MembersAreSelected =
    IsObject (codes "s . m") true int × IsObject (codes "p -> next -> m") true int × IsRefused (codes "q -> m") × IsRefused (codes "s . x") × IsRefused (codes "p . m")
    × IsObject (codes "f ( 1 ) . m") false int × IsRefused (codes "f ( 1 ) . m = 2") × IsValue (codes "s . m = 2") int

-- arrays are pointers to their first elements, and aren't assigned to
abbrev pub ArraysAreIndexed : Type 0
ArraysAreIndexed =
    IsObject (codes "a [ 1 ]") true char × IsObject (codes "1 [ a ]") true char × IsRefused (codes "a = 0") × IsRefused (codes "a [ p ]") × IsObject (codes "* a") true char
    × IsValue (codes "& a") (pointer_to (array_of char 4))

-- arguments fit their parameters, as many as these
abbrev pub FunctionsAreCalled : Type 0
FunctionsAreCalled =
    IsValue (codes "g ( 1 , a )") int × IsValue (codes "( g ) ( c , 0 )") int × IsRefused (codes "g ( 1 )") × IsRefused (codes "g ( 1 , n )") × IsRefused (codes "g ( 1 , a , 2 )")
    × IsRefused (codes "g") × IsRefused (codes "n ( 1 )") × IsRefused (codes "y")

-- objects that change
abbrev pub ObjectsAreChanged : Type 0
ObjectsAreChanged =
    IsValue (codes "p += 1") (pointer_to (structure 0)) × IsRefused (codes "n += p") × IsRefused (codes "q ++") × IsValue (codes "c ++") char × IsRefused (codes "1 = n")
    × IsValue (codes "p = 0") (pointer_to (structure 0)) × IsRefused (codes "n = p") × IsRefused (codes "p = q") × IsRefused (codes "& 1")
