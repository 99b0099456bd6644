-- Examples of the meaning, by computing.
use Rattle.std.proofs.Common.{◌≡◌, ℕ, pos, negsuc, true, false, List, [], ◌∷◌, ◌++◌, codes, refl}
use Rattle.c_types.specs.declared.arithmetic.BinaryOp.TheVariants.{Add, Lt, Ne, Eq}
use Rattle.c_types.specs.Types.{PlainType, char, int, pointer_to, array_of, structure}
use Rattle.core_meaning.specs.declared.integers.IntegerType.TheVariants.{Char, Int}
use Rattle.core_meaning.specs.declared.expressions.Operation.TheVariants.{Numbers, Forward, Distance, Pointers}
use Rattle.core_meaning.specs.declared.expressions.Change.TheVariants as change
use Rattle.core_meaning.specs.declared.program.BuiltIn.TheVariants.{Putchar, Getchar, Puts, Exit}
use Rattle.core_meaning.specs.Values.{part}
use Rattle.core_meaning.specs.Program.{PlainExpression, constant, null_constant, read, address, first_element, binary, logical_and, logical_or, assign, update_after, call, PlainPlace, slot, global, literal, target, member, temporary, no_argument, argument, PlainStatement, block, evaluate, selection, loop, break_loop, continue_loop, return_value, PlainItems, no_item, local, statement_item, defined, built_in, PlainProgram}
use Rattle.core_meaning.specs.Run.{Ended, Running, Undefined, run}

-- a program of `main` (function 0), the built-in functions (1 to 4) and another function (5); a struct of two `int` members,
-- and one with an array of two; a text
abbrev program : List PlainType → PlainItems → List PlainType → PlainItems → PlainProgram
program types body other_types other_body = record {
  structs = (int ∷ int ∷ []) ∷ (array_of int 2 ∷ []) ∷ [];
  functions = defined types body ∷ built_in Putchar ∷ built_in Getchar ∷ built_in Puts ∷ built_in Exit ∷ defined other_types other_body ∷ [];
  globals = record { ty = array_of int 2; parts = [] } ∷ [];
  literals = codes "hi" ∷ [];
  main = 0;
}

abbrev main_alone : List PlainType → PlainItems → PlainProgram
main_alone types body = program types body [] no_item

-- short forms of expressions and statements
abbrev n : ℕ → PlainExpression
n k = constant (pos k)

abbrev putchar : PlainExpression → PlainExpression
putchar e = call 1 (argument e no_argument)

abbrev variable : ℕ → PlainExpression
variable k = read (slot k)

abbrev does : PlainExpression → PlainItems → PlainItems
does e rest = statement_item (evaluate e) rest

abbrev gives : PlainExpression → PlainItems
gives e = statement_item (return_value e) no_item

abbrev unwritten_local : ℕ → PlainItems → PlainItems
unwritten_local k rest = local k [] rest

abbrev local_with : ℕ → PlainExpression → PlainItems → PlainItems
local_with k e rest = local k (record { path = []; value = e } ∷ []) rest

abbrev plus : PlainExpression → PlainExpression → PlainExpression
plus a b = binary (Numbers Add Int) a b

abbrev while_loop : PlainExpression → PlainStatement → PlainItems → PlainItems
while_loop c body rest = statement_item (loop true c (n 0) body) rest

abbrev do_loop : PlainStatement → PlainExpression → PlainItems → PlainItems
do_loop body c rest = statement_item (loop false c (n 0) body) rest

-- { return 0; }
returns_at_once : run (main_alone [] (gives (n 0))) [] 0 ≡ Ended [] (pos 0)
returns_at_once = refl

-- { while (1) putchar(65); }
cut_off : run (main_alone [] (while_loop (n 1) (evaluate (putchar (n 65))) no_item)) [] 3 ≡ Running (codes "AAA")
cut_off = refl

-- { putchar(66); return 2147483647 + 1; }
overflow : run (main_alone [] (does (putchar (n 66)) (gives (plus (n 2147483647) (n 1))))) [] 0 ≡ Undefined (codes "B")
overflow = refl

-- { int c; while ((c = getchar()) != -1) putchar(c); }
abbrev copies_input : PlainProgram
copies_input =
    main_alone (int ∷ [])
    (unwritten_local 0 (while_loop (binary (Numbers Ne Int) (assign (slot 0) (call 2 no_argument)) (constant (negsuc 0))) (evaluate (putchar (variable 0))) no_item))

input_is_copied : run copies_input (codes "hi") 2 ≡ Ended (codes "hi") (pos 0)
input_is_copied = refl

input_is_cut_off : run copies_input (codes "hi") 1 ≡ Running (codes "h")
input_is_cut_off = refl

-- ---- the bound

-- { do ; while (0); }: its first turn costs one, and its condition has what is left
abbrev one_turn : PlainProgram
one_turn = main_alone [] (do_loop (block no_item) (n 0) no_item)

first_turn_is_cut_off : run one_turn [] 0 ≡ Running []
first_turn_is_cut_off = refl

first_turn_runs : run one_turn [] 1 ≡ Ended [] (pos 0)
first_turn_runs = refl

-- { g(putchar(65)); } with { return 0; } as g: the arguments come before the call
abbrev calls_once : PlainProgram
calls_once = program [] (does (call 5 (argument (putchar (n 65)) no_argument)) no_item) (int ∷ []) (gives (n 0))

call_is_cut_off : run calls_once [] 0 ≡ Running (codes "A")
call_is_cut_off = refl

call_runs : run calls_once [] 1 ≡ Ended (codes "A") (pos 0)
call_runs = refl

-- { int i = 0; while (i < 2) { i++; } g(); putchar(65); }: what follows a loop has the loop's bound
abbrev calls_behind_loop : PlainProgram
calls_behind_loop =
    program (int ∷ [])
    (local_with 0 (n 0) (while_loop (binary (Numbers Lt Int) (variable 0) (n 2))
    (evaluate (update_after (change.Numbers Add Int Int) (slot 0) (n 1)))
    (does (call 5 no_argument) (does (putchar (n 65)) no_item))))
    [] (gives (n 0))

loop_is_cut_off : run calls_behind_loop [] 1 ≡ Running []
loop_is_cut_off = refl

bound_is_back_behind_loop : run calls_behind_loop [] 2 ≡ Ended (codes "A") (pos 0)
bound_is_back_behind_loop = refl

-- { int i = 0; while (i < 2) { i++; g(); } }: the second turn's call has what two turns left
abbrev calls_in_loop : PlainProgram
calls_in_loop =
    program (int ∷ [])
    (local_with 0 (n 0) (while_loop (binary (Numbers Lt Int) (variable 0) (n 2))
    (block (does (update_after (change.Numbers Add Int Int) (slot 0) (n 1)) (does (call 5 no_argument) no_item))) no_item))
    [] (gives (n 0))

second_call_is_cut_off : run calls_in_loop [] 2 ≡ Running []
second_call_is_cut_off = refl

second_call_runs : run calls_in_loop [] 3 ≡ Ended [] (pos 0)
second_call_runs = refl

-- { return main() == 0; }: a later call of `main` gives no value at its `}`
second_main : run (program (int ∷ []) (gives (binary (Numbers Eq Int) (call 5 no_argument) (n 0))) [] no_item) [] 1 ≡ Undefined []
second_main = refl

-- { g(); } with { exit(3); } as g, and a `puts` behind it
exit_ends_all : run (program [] (does (call 5 no_argument) (does (putchar (n 65)) no_item)) [] (does (call 4 (argument (n 3) no_argument)) no_item)) [] 1 ≡ Ended [] (pos 3)
exit_ends_all = refl

-- { for (; i < 3; i++) { if (i == 1) continue; putchar(i); } } with i from 0: `continue` goes to the step
continue_steps : run (main_alone (int ∷ []) (local_with 0 (n 0) (statement_item (loop true (binary (Numbers Lt Int) (variable 0) (n 3)) (update_after (change.Numbers Add Int Int) (slot 0) (n 1)) (block (statement_item (selection (binary (Numbers Eq Int) (variable 0) (n 1)) continue_loop (block no_item)) (does (putchar (variable 0)) no_item)))) no_item))) [] 3 ≡ Ended (0 ∷ 2 ∷ []) (pos 0)
continue_steps = refl

break_leaves : run (main_alone [] (while_loop (n 1) break_loop (does (putchar (n 65)) no_item))) [] 1 ≡ Ended (codes "A") (pos 0)
break_leaves = refl

-- ---- operands

-- { 0 && putchar(65); 1 || putchar(66); 1 && putchar(67); }
some_are_skipped : run (main_alone [] (does (logical_and (n 0) (putchar (n 65))) (does (logical_or (n 1) (putchar (n 66))) (does (logical_and (n 1) (putchar (n 67))) no_item)))) [] 0 ≡ Ended (codes "C") (pos 0)
some_are_skipped = refl

-- { char c = 127; c++; return c; }
largest_char_goes_on : run (main_alone (char ∷ []) (local_with 0 (n 127) (does (update_after (change.Numbers Add Int Char) (slot 0) (n 1)) (gives (variable 0))))) [] 0 ≡ Ended [] (negsuc 127)
largest_char_goes_on = refl

-- { int i = 1; return i++ + i; }
from_left_to_right : run (main_alone (int ∷ []) (local_with 0 (n 1) (gives (plus (update_after (change.Numbers Add Int Int) (slot 0) (n 1)) (variable 0))))) [] 0 ≡ Ended [] (pos 3)
from_left_to_right = refl

-- { int x; x; }
unwritten_is_read : run (main_alone (int ∷ []) (unwritten_local 0 (does (variable 0) no_item))) [] 0 ≡ Undefined []
unwritten_is_read = refl

-- { int *p = 0; *p = putchar(65); }
null_is_written_last : run (main_alone (pointer_to int ∷ []) (local_with 0 null_constant (does (assign (target (variable 0)) (putchar (n 65))) no_item))) [] 0 ≡ Undefined (codes "A")
null_is_written_last = refl

-- { int *p = 0; return &*p == 0; }, and with &p[0]
null_target : run (main_alone (pointer_to int ∷ []) (local_with 0 null_constant (gives (binary (Pointers Eq) (address (target (variable 0))) null_constant)))) [] 0 ≡ Ended [] (pos 1)
null_target = refl

null_is_moved : run (main_alone (pointer_to int ∷ []) (local_with 0 null_constant (gives (binary (Pointers Eq) (address (target (binary Forward (variable 0) (n 0)))) null_constant)))) [] 0 ≡ Undefined []
null_is_moved = refl

-- ---- objects

-- { int *p; { int x = 1; p = &x; } rest }
abbrev outlives : PlainItems → PlainProgram
outlives rest =
    main_alone (pointer_to int ∷ int ∷ [])
    (unwritten_local 0 (statement_item (block (local_with 1 (n 1) (does (assign (slot 0) (address (slot 1))) no_item))) rest))

ended_is_read : run (outlives (gives (read (target (variable 0))))) [] 0 ≡ Undefined []
ended_is_read = refl

ended_is_compared : run (outlives (gives (binary (Pointers Eq) (variable 0) (variable 0)))) [] 0 ≡ Ended [] (pos 1)
ended_is_compared = refl

ended_has_no_order : run (outlives (gives (binary (Pointers Lt) (variable 0) (variable 0)))) [] 0 ≡ Undefined []
ended_has_no_order = refl

-- { int *p = 0; int *q; while (i < 2) { int x; q = p; p = &x; i++; } return p == q; }: each turn makes a new object
new_in_each_turn : run (main_alone (pointer_to int ∷ pointer_to int ∷ int ∷ int ∷ []) (local_with 0 null_constant (unwritten_local 1 (local_with 2 (n 0) (while_loop (binary (Numbers Lt Int) (variable 2) (n 2)) (block (unwritten_local 3 (does (assign (slot 1) (variable 0)) (does (assign (slot 0) (address (slot 3))) (does (update_after (change.Numbers Add Int Int) (slot 2) (n 1)) no_item))))) (gives (binary (Pointers Eq) (variable 0) (variable 1)))))))) [] 2 ≡ Ended [] (pos 0)
new_in_each_turn = refl

-- struct { int a, b; } s, t; { s.a = 5; t = s; return t.a; }, and with t.b
abbrev copies_struct : ℕ → PlainProgram
copies_struct k =
    main_alone (structure 0 ∷ structure 0 ∷ [])
    (unwritten_local 0 (unwritten_local 1
    (does (assign (member (slot 0) 0) (n 5)) (does (assign (slot 1) (read (slot 0))) (gives (read (member (slot 1) k)))))))

written_member_is_copied : run (copies_struct 0) [] 0 ≡ Ended [] (pos 5)
written_member_is_copied = refl

unwritten_member_is_copied : run (copies_struct 1) [] 0 ≡ Undefined []
unwritten_member_is_copied = refl

-- { int a[3] = {7, [i] .. }; return a[i]; }
abbrev array_with_one : ℕ → PlainProgram
array_with_one k =
    main_alone (array_of int 3 ∷ [])
    (local 0 (record { path = part 0 ∷ []; value = n 7 } ∷ []) (gives (read (target (binary Forward (first_element (slot 0)) (n k))))))

given_element : run (array_with_one 0) [] 0 ≡ Ended [] (pos 7)
given_element = refl

missing_element : run (array_with_one 2) [] 0 ≡ Ended [] (pos 0)
missing_element = refl

behind_last_element : run (array_with_one 3) [] 0 ≡ Undefined []
behind_last_element = refl

-- a global begins with zeros
global_is_zero : run (main_alone [] (gives (read (target (binary Forward (first_element (global 0)) (n 1)))))) [] 0 ≡ Ended [] (pos 0)
global_is_zero = refl

-- { int x; return &x + i - &x; }: an object counts as an array of one
abbrev beyond_object : ℕ → PlainProgram
beyond_object k =
    main_alone (int ∷ [])
    (unwritten_local 0 (gives (binary Distance (binary Forward (address (slot 0)) (n k)) (address (slot 0)))))

behind_object : run (beyond_object 1) [] 0 ≡ Ended [] (pos 1)
behind_object = refl

past_object : run (beyond_object 2) [] 0 ≡ Undefined []
past_object = refl

-- struct { int a, b; } s; { return &(&s + 1)->b != &s.b; }, and reading it
abbrev member_behind : PlainPlace
member_behind = member (target (binary Forward (address (slot 0)) (n 1))) 1

member_behind_is_a_place : run (main_alone (structure 0 ∷ []) (unwritten_local 0 (gives (binary (Pointers Ne) (address member_behind) (address (member (slot 0) 1)))))) [] 0 ≡ Ended [] (pos 1)
member_behind_is_a_place = refl

member_behind_is_read : run (main_alone (structure 0 ∷ []) (unwritten_local 0 (gives (read member_behind)))) [] 0 ≡ Undefined []
member_behind_is_read = refl

-- struct { int a[2]; } f(void) { struct { int a[2]; } s = {{4, 5}}; return s; } and { return f().a[1]; }
abbrev array_of_call : PlainExpression
array_of_call = binary Forward (first_element (member (temporary (structure 1) (call 5 no_argument)) 0)) (n 1)

abbrev with_array_call : List PlainType → PlainItems → PlainProgram
with_array_call types body =
    program types body
    (structure 1 ∷ [])
    (local 0 (record { path = part 0 ∷ part 0 ∷ []; value = n 4 } ∷ record { path = part 1 ∷ part 0 ∷ []; value = n 5 } ∷ []) (gives (read (slot 0))))

element_of_call : run (with_array_call [] (gives (read (target array_of_call)))) [] 1 ≡ Ended [] (pos 5)
element_of_call = refl

-- { int *p = &f().a[1]; return *p; }: that object ends with the full expression
element_of_call_ends : run (with_array_call (pointer_to int ∷ []) (local_with 0 array_of_call (gives (read (target (variable 0)))))) [] 1 ≡ Undefined []
element_of_call_ends = refl

-- ---- texts

-- { return puts("hi"); }
text_is_written : run (main_alone [] (gives (call 3 (argument (first_element (literal 0)) no_argument)))) [] 0 ≡ Ended (codes "hi" ++ 10 ∷ []) (pos 0)
text_is_written = refl

-- { "hi"[0] = 65; }
text_is_changed : run (main_alone [] (does (assign (target (binary Forward (first_element (literal 0)) (n 0))) (n 65)) no_item)) [] 0 ≡ Undefined []
text_is_changed = refl

-- { char c = 65; puts(&c); }
text_without_end : run (main_alone (char ∷ []) (local_with 0 (n 65) (does (call 3 (argument (address (slot 0)) no_argument)) no_item))) [] 0 ≡ Undefined []
text_without_end = refl

-- { return getchar(); } at the end of the input
end_of_input : run (main_alone [] (gives (call 2 no_argument))) [] 0 ≡ Ended [] (negsuc 0)
end_of_input = refl

-- { return putchar(-1); }
byte_is_written : run (main_alone [] (gives (putchar (constant (negsuc 0))))) [] 0 ≡ Ended (255 ∷ []) (pos 255)
byte_is_written = refl
