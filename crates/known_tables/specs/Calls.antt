-- Arguments against parameters, as two lists that are matched (ISO/IEC 9899:2011, 6.5.2.2).
use Rattle.std.specs.Prelude.{Option, None, Some}
use Rattle.c_types.specs.Types.{PlainType}
use Rattle.core_meaning.specs.Entities.{Signature}
use Rattle.choice_trees.specs.ChoiceTrees.{semicolon}
use Rattle.conditional.specs.Judgements.{Checked, fine, refused, bind}
use Rattle.matched_lists.specs.Matched.{Rule}
use Rattle.operand_types.specs.Operators.{fitted_type}
use Rattle.expression_types.specs.Known.{Callable}
use Rattle.expression_types.specs.Reading.{Read}
use Rattle.type_tables.specs.Tables.{Tables, value_of}

-- why a test refuses, if it does
abbrev pub refusal_in : Checked (Unit {0}) (Unit {0}) → Option (Unit {0})
refusal_in (fine passed) = None
refusal_in (refused why) = Some why

-- each argument fits its parameter, and there are as many
abbrev pub fitting : Rule PlainType Read (Unit {0})
fitting = record {
  pair = λ ty argument. refusal_in (bind argument.outcome (fitted_type semicolon ty));
  first_longer = Some tt;
  second_longer = Some tt;
}

-- the function of a declaration
abbrev pub callable_of : Tables → Signature → Callable
callable_of t signature = record { result = value_of t signature.result; parameters = signature.parameters }
