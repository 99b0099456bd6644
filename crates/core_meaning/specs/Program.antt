-- Core programs without pointers and room in memory.
use Rattle.std.specs.Prelude.{ℕ, ℤ, Bool, List}
use Rattle.c_types.specs.Types.{PlainType, char, unsigned_char, int, unsigned_int, long, unsigned_long}
use Rattle.core_meaning.specs.declared.integers.IntegerType.{IntegerType}
use Rattle.core_meaning.specs.declared.integers.IntegerType.TheVariants.{Char, UnsignedChar, Int, UnsignedInt, Long, UnsignedLong}
use Rattle.core_meaning.specs.declared.expressions.Operation.{Operation}
use Rattle.core_meaning.specs.declared.expressions.Change.{Change}
use Rattle.core_meaning.specs.declared.program.BuiltIn.{BuiltIn}
use Rattle.core_meaning.specs.Values.{Path, Scalar}

-- the type that is meant
abbrev pub type_of : IntegerType → PlainType
type_of Char = char
type_of UnsignedChar = unsigned_char
type_of Int = int
type_of UnsignedInt = unsigned_int
type_of Long = long
type_of UnsignedLong = unsigned_long

-- expressions, what leads to objects, and lists of arguments
mutual
  pub data PlainExpression : Type 0 where
    constant : ℤ → PlainExpression
    null_constant : PlainExpression
    read : PlainPlace → PlainExpression
    address : PlainPlace → PlainExpression
    first_element : PlainPlace → PlainExpression
    convert : IntegerType → PlainExpression → PlainExpression
    binary : Operation → PlainExpression → PlainExpression → PlainExpression
    logical_not : PlainExpression → PlainExpression
    logical_and : PlainExpression → PlainExpression → PlainExpression
    logical_or : PlainExpression → PlainExpression → PlainExpression
    choose : PlainExpression → PlainExpression → PlainExpression → PlainExpression
    assign : PlainPlace → PlainExpression → PlainExpression
    update : Change → PlainPlace → PlainExpression → PlainExpression
    update_after : Change → PlainPlace → PlainExpression → PlainExpression
    call : ℕ → PlainArguments → PlainExpression
    discard : PlainExpression → PlainExpression

  pub data PlainPlace : Type 0 where
    slot : ℕ → PlainPlace
    global : ℕ → PlainPlace
    literal : ℕ → PlainPlace
    target : PlainExpression → PlainPlace
    member : PlainPlace → ℕ → PlainPlace
    temporary : PlainType → PlainExpression → PlainPlace

  pub data PlainArguments : Type 0 where
    no_argument : PlainArguments
    argument : PlainExpression → PlainArguments → PlainArguments

-- a part of an initialiser
pub record PlainPart : Type 0 where
  pub path : Path
  pub value : PlainExpression

-- statements, and the items of blocks
mutual
  pub data PlainStatement : Type 0 where
    block : PlainItems → PlainStatement
    evaluate : PlainExpression → PlainStatement
    selection : PlainExpression → PlainStatement → PlainStatement → PlainStatement
    -- whether it first asks its condition; the condition, the step and the body
    loop : Bool → PlainExpression → PlainExpression → PlainStatement → PlainStatement
    break_loop : PlainStatement
    continue_loop : PlainStatement
    return_nothing : PlainStatement
    return_value : PlainExpression → PlainStatement

  pub data PlainItems : Type 0 where
    no_item : PlainItems
    local : ℕ → List PlainPart → PlainItems → PlainItems
    statement_item : PlainStatement → PlainItems → PlainItems

pub data PlainFunction : Type 0 where
  -- the types of its slots, parameters first, and its body
  defined : List PlainType → PlainItems → PlainFunction
  built_in : BuiltIn → PlainFunction

-- the first value of a scalar in a global
pub record PlainConstantPart : Type 0 where
  pub path : Path
  pub value : Scalar

pub record PlainGlobal : Type 0 where
  pub ty : PlainType
  pub parts : List PlainConstantPart

pub record PlainProgram : Type 0 where
  -- the types of each struct's members
  pub structs : List (List PlainType)
  pub functions : List PlainFunction
  pub globals : List PlainGlobal
  pub literals : List (List ℕ)
  pub main : ℕ
