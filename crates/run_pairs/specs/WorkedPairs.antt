-- Pairs of programs by hand.
use Rattle.std.specs.Prelude.{ℕ, pos, List, [], ◌∷◌, codes}
use Rattle.c_types.specs.Types.{char, int, pointer_to}
use Rattle.c_types.specs.declared.arithmetic.BinaryOp.TheVariants.{Add, Mul}
use Rattle.core_meaning.specs.declared.integers.IntegerType.TheVariants.{Int}
use Rattle.core_meaning.specs.declared.expressions.Operation.TheVariants.{Numbers}
use Rattle.core_meaning.specs.declared.program.BuiltIn.TheVariants.{Putchar, Getchar, Puts}
use Rattle.core_meaning.specs.Values.{part, at, number, pointer}
use Rattle.core_meaning.specs.Program.{PlainExpression, constant, read, address, first_element, assign, binary, call, slot, global, literal, target, PlainArguments, no_argument, argument, block, evaluate, selection, return_value, PlainItems, no_item, local, statement_item, PlainFunction, defined, built_in, PlainGlobal, PlainProgram}
use Rattle.run_pairs.specs.Laws.{IsExtraction, IsInlining, KeepsRunsWithMoreCalls, KeepsRunsWithFewerCalls}

-- ---- short forms

abbrev pub program : List PlainFunction → List PlainGlobal → ℕ → PlainProgram
program functions globals main = record { structs = []; functions = functions; globals = globals; literals = []; main = main }

abbrev pub one : PlainExpression → PlainArguments
one e = argument e no_argument

abbrev pub does : PlainExpression → PlainItems → PlainItems
does e rest = statement_item (evaluate e) rest

abbrev pub gives : PlainExpression → PlainItems
gives e = statement_item (return_value e) no_item

abbrev pub variable_with : ℕ → PlainExpression → PlainItems → PlainItems
variable_with k e rest = local k (record { path = []; value = e } ∷ []) rest

abbrev pub value_of_slot : ℕ → PlainExpression
value_of_slot k = read (slot k)

abbrev pub plain_number : ℕ → PlainExpression
plain_number k = constant (pos k)

abbrev pub sum : PlainExpression → PlainExpression → PlainExpression
sum a b = binary (Numbers Add Int) a b

-- ---- an extraction

-- int main(void) { int k = 66; putchar(65); putchar(k); return 0; }
abbrev pub before : PlainProgram
before = program (
    built_in Putchar
    ∷ defined (int ∷ []) (variable_with 0 (plain_number 66) (does (call 0 (one (plain_number 65))) (does (call 0 (one (value_of_slot 0))) (gives (plain_number 0)))))
    ∷ []
    ) [] 1

-- static void f(int *k) { putchar(65); putchar((*k)); } int main(void) { int k = 66; f(&k); return 0; }
abbrev pub program_behind : PlainProgram
program_behind = program (
    built_in Putchar
    ∷ defined (pointer_to int ∷ []) (does (call 0 (one (plain_number 65))) (does (call 0 (one (read (target (value_of_slot 0))))) no_item))
    ∷ defined (int ∷ []) (variable_with 0 (plain_number 66) (does (call 1 (one (address (slot 0)))) (gives (plain_number 0))))
    ∷ []
    ) [] 2

abbrev pub WorkedPair : Type 0
WorkedPair = IsExtraction before program_behind

-- ---- an extraction that numbers texts anew

-- char *g = "c";
abbrev pub text_pointer : PlainGlobal
text_pointer = record { ty = pointer_to char; parts = record { path = []; value = pointer (at 1 (part 0 ∷ [])) } ∷ [] }

abbrev pub puts_text : ℕ → ℕ → PlainExpression
puts_text puts k = call puts (one (first_element (literal k)))

-- char *g = "c"; int main(void) { puts("a"); puts("b"); puts(g); return 0; }
abbrev pub texts_in_order : PlainProgram
texts_in_order = record {
  structs = [];
  functions =
      defined [] (does (puts_text 1 1) (does (puts_text 1 2) (does (call 1 (one (read (global 0)))) (gives (plain_number 0)))))
      ∷ built_in Puts ∷ [];
  globals = text_pointer ∷ [];
  literals = codes "c" ∷ codes "a" ∷ codes "b" ∷ [];
  main = 0;
}

-- char *g = "c"; static void f(void) { puts("b"); } int main(void) { puts("a"); f(); puts(g); return 0; }
abbrev pub texts_turned : PlainProgram
texts_turned = record {
  structs = [];
  functions =
      defined [] (does (puts_text 2 1) no_item)
      ∷ defined [] (does (puts_text 2 2) (does (call 0 no_argument) (does (call 2 (one (read (global 0)))) (gives (plain_number 0)))))
      ∷ built_in Puts ∷ [];
  globals = text_pointer ∷ [];
  literals = codes "c" ∷ codes "b" ∷ codes "a" ∷ [];
  main = 1;
}

abbrev pub WorkedTexts : Type 0
WorkedTexts = IsExtraction texts_in_order texts_turned

-- ---- an inlining

abbrev pub twice : PlainExpression → PlainExpression
twice e = binary (Numbers Mul Int) e (plain_number 2)

-- int f(int n) { return n * 2; }
abbrev pub doubling : PlainFunction
doubling = defined (int ∷ []) (gives (twice (value_of_slot 0)))

-- int main(void) { int n = 21; n = f(n); return n; }
abbrev pub with_call : PlainProgram
with_call = program (
    doubling
    ∷ defined (int ∷ []) (variable_with 0 (plain_number 21) (does (assign (slot 0) (call 0 (one (value_of_slot 0)))) (gives (value_of_slot 0))))
    ∷ []
    ) [] 1

-- int main(void) { int n = 21; { int r; int a = n; { r = a * 2; } n = r; } return n; }
abbrev pub without_call : PlainProgram
without_call = program (
    doubling
    ∷ defined (int ∷ int ∷ int ∷ []) (variable_with 0 (plain_number 21)
    (statement_item (block (local 1 [] (variable_with 2 (value_of_slot 0)
    (statement_item (block (does (assign (slot 1) (twice (value_of_slot 2))) no_item))
    (does (assign (slot 0) (value_of_slot 1)) no_item)))))
    (gives (value_of_slot 0))))
    ∷ []
    ) [] 1

abbrev pub WorkedInlining : Type 0
WorkedInlining = IsInlining with_call without_call

-- ---- a written variable that is passed by value

-- int main(void) { int k = 1; k = 2; return k; }
abbrev pub writes_its_variable : PlainProgram
writes_its_variable = program (
    defined (int ∷ []) (variable_with 0 (plain_number 1) (does (assign (slot 0) (plain_number 2)) (gives (value_of_slot 0)))) ∷ []
    ) [] 0

-- static void f(int k) { k = 2; } int main(void) { int k = 1; f(k); return k; }
abbrev pub writes_a_copy : PlainProgram
writes_a_copy = program (
    defined (int ∷ []) (does (assign (slot 0) (plain_number 2)) no_item)
    ∷ defined (int ∷ []) (variable_with 0 (plain_number 1) (does (call 0 (one (value_of_slot 0))) (gives (value_of_slot 0))))
    ∷ []
    ) [] 1

-- ---- a parameter that shadows a global

abbrev pub five : PlainGlobal
five = record { ty = int; parts = record { path = []; value = number (pos 5) } ∷ [] }

-- int g = 5; int main(void) { int a = 7; a = g; return a; }
abbrev pub uses_a_global : PlainProgram
uses_a_global = program (
    defined (int ∷ []) (variable_with 0 (plain_number 7) (does (assign (slot 0) (read (global 0))) (gives (value_of_slot 0)))) ∷ []
    ) (five ∷ []) 0

-- int g = 5; static void f(int *g) { (*g) = (*g); } int main(void) { int a = 7; f(&a); return a; }
abbrev pub uses_its_parameter : PlainProgram
uses_its_parameter = program (
    defined (pointer_to int ∷ []) (does (assign (target (value_of_slot 0)) (read (target (value_of_slot 0)))) no_item)
    ∷ defined (int ∷ []) (variable_with 0 (plain_number 7) (does (call 0 (one (address (slot 0)))) (gives (value_of_slot 0))))
    ∷ []
    ) (five ∷ []) 1

-- ---- an argument that is put at each use

-- int f(int n) { return n + n; } int main(void) { return f(getchar()); }
abbrev pub reads_once : PlainProgram
reads_once = program (
    defined (int ∷ []) (gives (sum (value_of_slot 0) (value_of_slot 0)))
    ∷ defined [] (gives (call 0 (one (call 2 no_argument))))
    ∷ built_in Getchar ∷ []
    ) [] 1

-- .. int main(void) { return getchar() + getchar(); }
abbrev pub reads_twice : PlainProgram
reads_twice = program (
    defined (int ∷ []) (gives (sum (value_of_slot 0) (value_of_slot 0)))
    ∷ defined [] (gives (sum (call 2 no_argument) (call 2 no_argument)))
    ∷ built_in Getchar ∷ []
    ) [] 1

-- ---- a body with an early `return`

abbrev pub returns_early : PlainFunction
returns_early = defined (int ∷ []) (statement_item (selection (value_of_slot 0) (return_value (plain_number 1)) (block no_item)) (gives (plain_number 2)))

-- int f(int n) { if (n) return 1; return 2; } int main(void) { return f(1); }
abbrev pub stops_early : PlainProgram
stops_early = program (returns_early ∷ defined [] (gives (call 0 (one (plain_number 1)))) ∷ []) [] 1

-- .. int main(void) { int r; int a = 1; { if (a) r = 1; r = 2; } return r; }
abbrev pub goes_on : PlainProgram
goes_on = program (
    returns_early
    ∷ defined (int ∷ int ∷ []) (local 0 [] (variable_with 1 (plain_number 1)
    (statement_item (block (statement_item (selection (value_of_slot 1) (evaluate (assign (slot 0) (plain_number 1))) (block no_item))
    (does (assign (slot 0) (plain_number 2)) no_item)))
    (gives (value_of_slot 0)))))
    ∷ []
    ) [] 1

-- ---- what is wrong about them

-- the second program isn't an extraction of the first, nor does it keep its runs
pub record IsNoExtraction (p p' : PlainProgram) : Type 0 where
  pub not_related : IsExtraction p p' → ⊥
  pub told_apart : KeepsRunsWithMoreCalls p p' → ⊥

-- the second program doesn't keep the runs of the first, as an inlining would
pub record IsNoInlining (p p' : PlainProgram) : Type 0 where
  pub told_apart : KeepsRunsWithFewerCalls p p' → ⊥

pub record WrongPairs : Type 0 where
  pub passed_by_value : IsNoExtraction writes_its_variable writes_a_copy
  pub shadowed : IsNoExtraction uses_a_global uses_its_parameter
  pub put_at_each_use : IsNoInlining reads_once reads_twice
  pub inlined_early_return : IsNoInlining stops_early goes_on
