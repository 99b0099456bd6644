-- What a configuration sees of what has been read of expressions.
use Rattle.std.specs.Prelude.{◌≡◌, ℕ, Bool, true, false, List, [], ◌∷◌, map, Option, Some, option_map, ⊤}
use Rattle.cond_formula.specs.Conditions.{condition_of, value}
use Rattle.conditional.specs.declared.entries.Guarded.{Guarded}
use Rattle.conditional.specs.declared.outcomes.Outcomes.{Outcomes}
use Rattle.conditional.specs.declared.values.CondValue.{CondValue}
use Rattle.conditional.specs.Entries.{alternatives, Sees, Stands}
use Rattle.c_text.specs.Token.{plain_token}
use Rattle.c_types.specs.Types.{PlainType, void, char, unsigned_char, int, unsigned_int, long, unsigned_long}
use Rattle.operand_types.specs.OperandTypes.{OperandType}
use Rattle.operand_rules.specs.declared.operands.OperandType as code
use Rattle.operand_rules.specs.declared.operands.Refused.{Refused}
use Rattle.operand_rules.specs.Rules.{IsNumberIfNull}
use Rattle.cond_operands.specs.Operands.{ShowsOperand, HasNumberIfNull}
use Rattle.expression_types.specs.Known.{Callable, Known}
use Rattle.expression_types.specs.Reading.{Read, Parts, object_in, callee_in}
use Rattle.cond_nodes.specs.declared.parts.Callee.{Callee}
use Rattle.cond_nodes.specs.declared.parts.CastType.{CastType}
use Rattle.cond_nodes.specs.declared.parts.CastType.TheVariants.{Void, Char, UChar, Int, UInt, Long, ULong}
use Rattle.cond_nodes.specs.declared.parts.CondRead.{CondRead}
use Rattle.cond_nodes.specs.declared.parts.CondParts.{CondParts}

abbrev pub callee_number : Callee → ℕ
callee_number callee = callee.number

abbrev pub cast_type : CastType → PlainType
cast_type Void = void
cast_type Char = char
cast_type UChar = unsigned_char
cast_type Int = int
cast_type UInt = unsigned_int
cast_type Long = long
cast_type ULong = unsigned_long

-- where `on` says which features are on, and numbers of functions mean these
module _ (on : ℕ → Bool) (callable : ℕ → Callable) where
  -- this is the function that is named, if one is
  pub record ShowsCallee (callee : Option Callable) (all : CondValue Callee) : Type 0 where
    pub number : Option ℕ
    pub seen : Sees on number (alternatives callee_number all)
    pub same : option_map callable number ≡ callee

  -- this is what the expression is
  pub record ShowsRead (r : Read) (all : CondRead) : Type 0 where
    pub outcome : ShowsOperand on r.outcome all.outcomes
    pub callee : ShowsCallee r.callee all.callee

  abbrev pub EachRead : List Read → List CondRead → Type 0
  EachRead [] [] = ⊤
  EachRead (r ∷ rs) (x ∷ xs) = ShowsRead r x × EachRead rs xs
  EachRead [] (x ∷ xs) = ⊥
  EachRead (r ∷ rs) [] = ⊥

-- an argument, if it is there, and those behind it
abbrev pub ShowsNext : (ℕ → Bool) → Bool → Outcomes code.OperandType Refused → (List Read → Type 0) → List Read → Type 0
ShowsNext on true all Rest [] = ⊥
ShowsNext on true all Rest (r ∷ rs) = ShowsOperand on r.outcome all × Rest rs
ShowsNext on false all Rest rs = Rest rs

-- these are the arguments that are there
abbrev pub ShowsEach : (ℕ → Bool) → List Read → List (Guarded (Outcomes code.OperandType Refused)) → Type 0
ShowsEach on rs [] = rs ≡ []
ShowsEach on rs (entry ∷ rest) = ShowsNext on (value on (condition_of entry.when)) entry.what (λ others. ShowsEach on others rest) rs

-- this is what has been read of the parts
pub record ShowsParts (on : ℕ → Bool) (callable : ℕ → Callable) (p : Parts) (all : CondParts) : Type 0 where
  pub operands : EachRead on callable p.operands all.operands.items
  pub signs : map (λ t. plain_token t.now) all.signs.items ≡ p.signs
  pub words : Stands on p.words (alternatives cast_type all.words)
  pub arguments : ShowsEach on p.arguments all.arguments.items

-- what is the null constant is a number
abbrev pub EachNumber : List Read → Type 0
EachNumber [] = ⊤
EachNumber (r ∷ rs) = HasNumberIfNull r.outcome × EachNumber rs

-- what is the null constant among what is known is a number
pub record HasNumbers (known : Known) : Type 0 where
  pub objects : (name : List ℕ) → HasNumberIfNull (object_in (known.ordinary name))
  pub results : (name : List ℕ) (f : Callable) → callee_in (known.ordinary name) ≡ Some f → IsNumberIfNull f.result
  pub members : (n : ℕ) (name : List ℕ) (m : OperandType) → known.members n name ≡ Some m → IsNumberIfNull m
