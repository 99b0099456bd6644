-- What a name stands for, as the code has it: kind by kind, under conditions that exclude each other.
use Rattle.std.specs.Prelude.{◌≡◌, ℕ, Bool, true, false, List, [], ◌∷◌, map, Option, Some}
use Rattle.c_text.specs.Token.{PlainToken, plain_token}
use Rattle.c_text.specs.Macros as spec
use Rattle.cond_formula.specs.Conditions.{condition_of, value}
use Rattle.conditional.specs.Entries.{entries_of, seen}
use Rattle.cond_bodies.specs.declared.meanings.Function.{Function}
use Rattle.cond_bodies.specs.declared.meanings.Meanings.{Meanings}

-- a function-like macro as a list of parameters and a body
pub record PlainFunction : Type 0 where
  pub params : List (List ℕ)
  pub body : List PlainToken

abbrev pub plain_function : Function → PlainFunction
plain_function function = record { params = map (λ n. n.items) function.params.now; body = map plain_token function.body.now }

abbrev pub is_feature : Option spec.Meaning → Bool
is_feature (Some (spec.feature one)) = true
is_feature other = false

abbrev pub object_of : Option spec.Meaning → List (List PlainToken)
object_of (Some (spec.object body)) = body ∷ []
object_of other = []

abbrev pub function_of : Option spec.Meaning → List PlainFunction
function_of (Some (spec.function params body)) = record { params = params; body = body } ∷ []
function_of other = []

-- the code's meanings of a name are, in a configuration, this one
pub record Means (on : ℕ → Bool) (meaning : Option spec.Meaning) (all : Meanings) : Type 0 where
  pub feature : value on (condition_of all.feature) ≡ is_feature meaning
  pub objects : seen on (entries_of (λ b. map plain_token b.now) all.objects.items) ≡ object_of meaning
  pub functions : seen on (entries_of plain_function all.functions.items) ≡ function_of meaning

-- nothing in this configuration
pub record HasNothing (on : ℕ → Bool) (all : Meanings) : Type 0 where
  pub feature : value on (condition_of all.feature) ≡ false
  pub objects : seen on (entries_of (λ b. map plain_token b.now) all.objects.items) ≡ []
  pub functions : seen on (entries_of plain_function all.functions.items) ≡ []
