-- The core program of items behind the line `int putchar(int);`. Functions and globals have numbers in the order of their
-- declarations, so `putchar` is function 0 and `main` is function 1.
use Rattle.std.specs.Prelude.{ℕ, suc, true, pos, List, [], ◌∷◌, map, if◌then◌else◌}
use Rattle.std.specs.Str.{bytes_eq}
use Rattle.c_types.specs.declared.arithmetic.BinaryOp.TheVariants.{Add, Sub}
use Rattle.c_types.specs.Types.{int}
use Rattle.core_meaning.specs.declared.integers.IntegerType.TheVariants.{Int}
use Rattle.core_meaning.specs.declared.expressions.Operation.TheVariants.{Numbers}
use Rattle.core_meaning.specs.declared.program.BuiltIn.TheVariants.{Putchar}
use Rattle.core_meaning.specs.Values.{number}
use Rattle.core_meaning.specs.Program.{PlainExpression, constant, read, binary, assign, call, PlainPlace, global, no_argument, argument, block, evaluate, loop, return_value, PlainItems, no_item, statement_item, PlainFunction, defined, built_in, PlainConstantPart, PlainGlobal, PlainProgram}
use Rattle.quick_form.specs.Words.{value_of}
use Rattle.quick_form.specs.Form.{Operand, Named, Literal, Term, Sum}
use Rattle.quick_form.specs.Program as quick
use Rattle.quick_form.specs.Program.{Code, object_names, bodies}
use Rattle.quick_core.specs.Present.{Item, tentative, valued, main_of, declarations}

-- the place of a name in a list
abbrev pub number_in : List (List ℕ) → List ℕ → ℕ
number_in [] x = 0
number_in (y ∷ ys) x = if bytes_eq x y then 0 else suc (number_in ys x)

-- ---- with the names of the globals

module _ (names : List (List ℕ)) where
  abbrev pub place : List ℕ → PlainPlace
  place x = global (number_in names x)

  abbrev pub core_operand : Operand → PlainExpression
  core_operand (Named x) = read (place x)
  core_operand (Literal d) = constant (pos (value_of d))

  -- a sum is grouped from the left
  abbrev pub core_terms : PlainExpression → List Term → PlainExpression
  core_terms left [] = left
  core_terms left (t ∷ ts) = core_terms (binary (Numbers (if t.subtracted then Sub else Add) Int) left (core_operand t.operand)) ts

  abbrev pub core_sum : Sum → PlainExpression
  core_sum s = core_terms (core_operand s.first) s.more

  abbrev pub core_code : Code → PlainItems
  core_code quick.done = no_item
  core_code (quick.assign x s rest) = statement_item (evaluate (assign (place x) (core_sum s))) (core_code rest)
  core_code (quick.put s rest) = statement_item (evaluate (call 0 (argument (core_sum s) no_argument))) (core_code rest)
  core_code (quick.give s rest) = statement_item (return_value (core_sum s)) (core_code rest)
  core_code (quick.while_ s body rest) =
      statement_item (loop true (core_sum s) (constant (pos 0)) (block (core_code body))) (core_code rest)

-- ---- items

abbrev pub first_value : ℕ → PlainConstantPart
first_value n = record { path = []; value = number (pos n) }

abbrev pub int_global : List PlainConstantPart → PlainGlobal
int_global parts = record { ty = int; parts = parts }

abbrev pub core_globals : List Item → List PlainGlobal
core_globals [] = []
core_globals (tentative x ∷ rest) = int_global [] ∷ core_globals rest
core_globals (valued x d ∷ rest) = int_global (first_value (value_of d) ∷ []) ∷ core_globals rest
core_globals (main_of c ∷ rest) = core_globals rest

abbrev pub core_functions : List (List ℕ) → List Code → List PlainFunction
core_functions names codes = map (λ c. defined [] (core_code names c)) codes

abbrev pub core_program : List Item → PlainProgram
core_program items = record {
  structs = [];
  functions = built_in Putchar ∷ core_functions (object_names (declarations items)) (bodies (declarations items));
  globals = core_globals items;
  literals = [];
  main = 1;
}
