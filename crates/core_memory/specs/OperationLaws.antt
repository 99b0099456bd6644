-- Operations are those of the meaning.
use Rattle.std.proofs.Common.{◌≡◌, refl, Option, Some, None}
use Rattle.core_meaning.specs.declared.integers.IntegerType.{IntegerType}
use Rattle.core_meaning.specs.Values.{Scalar, number, pointer}
use Rattle.core_meaning.specs.Memory.{Memory}
use Rattle.core_meaning.specs.Outcomes.{State, given, memory_now, ◌>>=◌}
use Rattle.core_meaning.specs.Meaning.{scalar_in_type}
use Rattle.core_memory.specs.OperationForms.{in_type_value}

given_from_memory : {A : Type 0} (f : Memory → Option A) (s : State) → (memory_now >>= (λ m. given (f m))) s ≡ given (f s.memory) s
given_from_memory f s = given_after (f s.memory) s
  where
    given_after : {A : Type 0} (o : Option A) (s : State) → (memory_now >>= (λ m. given o)) s ≡ given o s
    given_after None s = refl
    given_after (Some x) s = refl

pub in_type_is : (t : IntegerType) (v : Scalar) (s : State) → scalar_in_type t v s ≡ given (in_type_value t v) s
in_type_is t (number z) s = refl
in_type_is t (pointer p) s = refl
