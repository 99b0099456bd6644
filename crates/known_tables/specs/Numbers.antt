-- What is the null constant among what tables say is a number: nothing is.
use Rattle.std.proofs.Common.{◌≡◌, ℕ, Option, None, Some, subst}
use Rattle.std.specs.Prelude.{option_map}
use Rattle.c_types.specs.Tags.{PlainMember}
use Rattle.operand_types.specs.OperandTypes.{OperandType}
use Rattle.operand_rules.specs.Rules.{IsNumberIfNull}
use Rattle.cond_operands.specs.Operands.{HasNumberIfNull}
use Rattle.expression_types.specs.Known.{Callable}
use Rattle.expression_types.specs.Reading.{object_in, callee_in}
use Rattle.cond_nodes.specs.Reads.{HasNumbers}
use Rattle.type_tables.specs.Tables.{Tables, Local, Sort, object, declared_function, FileName, local_named, member_named, object_of, callable_in, denoted_as, denoted_in, known_in}

module _ (t : Tables) where
  sort_number : (sort : Sort) → HasNumberIfNull (object_in (Some (denoted_as t sort)))
  sort_number (object ty) = λ h. cc
  sort_number (declared_function number) = tt

  object_number : (l : Option Local) (named : Option FileName) → HasNumberIfNull (object_in (denoted_in t l named))
  object_number (Some l) named = λ h. cc
  object_number None None = tt
  object_number None (Some n) = sort_number n.sort

  callable_number : (number : ℕ) (f : Callable) → callable_in t number ≡ f → IsNumberIfNull f.result
  callable_number number f is = subst (λ f. IsNumberIfNull f.result) is (λ h. cc)

  sort_result : (sort : Sort) (f : Callable) → callee_in (Some (denoted_as t sort)) ≡ Some f → IsNumberIfNull f.result
  sort_result (object ty) f is = absurd cc
  sort_result (declared_function number) f is = callable_number number f cc

  result_number : (l : Option Local) (named : Option FileName) (f : Callable) → callee_in (denoted_in t l named) ≡ Some f → IsNumberIfNull f.result
  result_number (Some l) named f is = absurd cc
  result_number None None f is = absurd cc
  result_number None (Some n) f is = sort_result n.sort f is

  object_of_number : (m : PlainMember) (o : OperandType) → object_of t m.ty ≡ o → IsNumberIfNull o
  object_of_number m o is = subst IsNumberIfNull is (λ h. cc)

  member_number : (m : Option PlainMember) (o : OperandType) → option_map (λ m. object_of t m.ty) m ≡ Some o → IsNumberIfNull o
  member_number None o is = absurd cc
  member_number (Some m) o is = object_of_number m o cc

  pub has_numbers : HasNumbers (known_in t)
  has_numbers = record {
    objects = λ name. object_number (local_named t.locals name) (t.names name);
    results = λ name f is. result_number (local_named t.locals name) (t.names name) f is;
    members = λ n name o is. member_number (member_named (t.members n) name) o is;
  }
