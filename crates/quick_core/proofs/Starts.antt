-- The memory before `main` begins, and the whole run.
use Rattle.std.proofs.Common.{◌≡◌, ℕ, zero, suc, ◌<◌, ℤ, pos, Bool, true, false, ◌&&◌, List, [], ◌∷◌, ◌++◌, length, map, refl, sym, ◌∙◌, ap, subst, cond, None, IsTrue, slice_index_or, arith}
use Rattle.std.proofs.lemmas.Slice.Eq.{bytes_eq-Decides}
use Rattle.std.specs.Str.{bytes_eq}
use Rattle.std.specs.List.{All, Contains, AllByRecursion}
use Rattle.core_meaning.specs.Program.{PlainGlobal}
use Rattle.core_meaning.specs.Memory.{Object}
use Rattle.core_meaning.specs.Outcomes.{Outcome}
use Rattle.core_meaning.specs.Meaning.{Ending, Frame}
use Rattle.core_meaning.specs.Run as core
use Rattle.core_meaning.specs.Run.{global_object, no_object, memory_of}
use Rattle.quick_form.specs.Words.{value_of, is_number, is_decimal}
use Rattle.quick_form.specs.Form.{Operand, Named, Literal, Term, Sum}
use Rattle.quick_form.specs.Program as quick_program
use Rattle.quick_form.specs.Program.{Code, Declaration, object, function, object_names, visible_names, bodies, used_names, operand_names, term_names, sum_names, IsAccepted}
use Rattle.quick_form.specs.Run as quick
use Rattle.quick_form.specs.Run.{is_int, code_run, first_memory, body_run}
use Rattle.quick_core.specs.Present.{Item, tentative, valued, main_of, declarations, operand_numbers, term_numbers, sum_numbers, code_numbers, item_numbers}
use Rattle.quick_core.specs.CoreProgram.{number_in, first_value, int_global, core_globals, core_functions, core_program}
use Rattle.quick_core.specs.Laws.{core_answer}
use Rattle.quick_core.proofs.Values.{int_is_converted}
use Rattle.quick_core.proofs.Cells.{is_in, Holds, Alike}
use Rattle.quick_core.proofs.Sums.{IsKnown, AreKnown, IsKnownSum}
use Rattle.quick_core.proofs.Codes.{IsKnownCode, with_putchar, Agrees, code_agrees}

-- ---- lists

pub all_by : {X : Type 0} (P : X → Type 0) (xs : List X) → All P xs → AllByRecursion P xs
all_by P [] h = tt
all_by P (x ∷ xs) h = (h 0 x (omega arith), all_by P xs (λ k d l. h (suc k) d (omega arith)))

pub split_all : {X : Type 0} (P : X → Type 0) (xs ys : List X) → AllByRecursion P (xs ++ ys) → AllByRecursion P xs × AllByRecursion P ys
split_all P [] ys h = (tt, h)
split_all P (x ∷ xs) ys h = ((h.0, (split_all P xs ys h.1).0), (split_all P xs ys h.1).1)

-- ---- names and numbers that are known

abbrev pub IsName : List (List ℕ) → List ℕ → Type 0
IsName names x = IsTrue (is_in names x)

abbrev pub IsNumber : List ℕ → Type 0
IsNumber d = IsTrue (is_number d)

found_later : (b c : Bool) → IsTrue c → IsTrue (cond b true c)
found_later true c h = refl
found_later false c h = h

is_in_tail : (y : List ℕ) (ys : List (List ℕ)) (x : List ℕ) → IsName ys x → IsName (y ∷ ys) x
is_in_tail y ys x h = found_later (bytes_eq x y) (is_in ys x) h

pub contains_is_in : (ys : List (List ℕ)) (x : List ℕ) (k : ℕ) → k < length ys → slice_index_or ys k x ≡ x → IsName ys x
contains_is_in [] x k l e = absurd (omega arith)
contains_is_in (y ∷ ys) x zero l e = subst (λ b. IsTrue (cond b true (is_in ys x))) (sym ((bytes_eq-Decides x y).1 (sym e))) refl
contains_is_in (y ∷ ys) x (suc k) l e = is_in_tail y ys x (contains_is_in ys x k (omega arith) e)

found_still : (b c d : Bool) → (IsTrue c → IsTrue d) → IsTrue (cond b true c) → IsTrue (cond b true d)
found_still true c d h k = refl
found_still false c d h k = h k

pub visible_is_in : (p : List Declaration) (x : List ℕ) → IsName (visible_names p) x → IsName (object_names p) x
visible_is_in [] x h = h
visible_is_in (object y v ∷ p) x h = found_still (bytes_eq x y) (is_in (visible_names p) x) (is_in (object_names p) x) (λ k. visible_is_in p x k) h
visible_is_in (function c ∷ p) x h = absurd cc

names_are_in : (p : List Declaration) (xs : List (List ℕ)) → AllByRecursion (Contains (visible_names p)) xs → AllByRecursion (IsName (object_names p)) xs
names_are_in p [] h = tt
names_are_in p (x ∷ xs) h =
    (visible_is_in p x (contains_is_in (visible_names p) x h.0.0 h.0.1 h.0.2), names_are_in p xs h.1)

second_holds : (a b : Bool) → IsTrue (a && b) → IsTrue b
second_holds true b h = h
second_holds false b h = absurd cc

pub number_is_int : (d : List ℕ) → IsNumber d → IsTrue (is_int (pos (value_of d)))
number_is_int d h = second_holds (is_decimal d) _ h

known_operand : (names : List (List ℕ)) (o : Operand) → AllByRecursion (IsName names) (operand_names o) → AllByRecursion IsNumber (operand_numbers o) → IsKnown names o
known_operand names (Named x) h k = h.0
known_operand names (Literal d) h k = number_is_int d k.0

known_terms : (names : List (List ℕ)) (ts : List Term) → AllByRecursion (IsName names) (term_names ts) → AllByRecursion IsNumber (term_numbers ts) → AreKnown names ts
known_terms names [] h k = tt
known_terms names (t ∷ ts) h k =
    let h' = split_all (IsName names) (operand_names t.operand) (term_names ts) h in
    let k' = split_all IsNumber (operand_numbers t.operand) (term_numbers ts) k in
    (known_operand names t.operand h'.0 k'.0, known_terms names ts h'.1 k'.1)

known_sum : (names : List (List ℕ)) (s : Sum) → AllByRecursion (IsName names) (sum_names s) → AllByRecursion IsNumber (sum_numbers s) → IsKnownSum names s
known_sum names s h k =
    let h' = split_all (IsName names) (operand_names s.first) (term_names s.more) h in
    let k' = split_all IsNumber (operand_numbers s.first) (term_numbers s.more) k in
    record { first = known_operand names s.first h'.0 k'.0; more = known_terms names s.more h'.1 k'.1 }

pub known_code : (names : List (List ℕ)) (c : Code) → AllByRecursion (IsName names) (used_names c) → AllByRecursion IsNumber (code_numbers c) → IsKnownCode names c
known_code names quick_program.done h k = tt
known_code names (quick_program.assign x s rest) h k =
    let h' = split_all (IsName names) (sum_names s) (used_names rest) h.1 in
    let k' = split_all IsNumber (sum_numbers s) (code_numbers rest) k in
    (h.0, known_sum names s h'.0 k'.0, known_code names rest h'.1 k'.1)
known_code names (quick_program.put s rest) h k =
    let h' = split_all (IsName names) (sum_names s) (used_names rest) h in
    let k' = split_all IsNumber (sum_numbers s) (code_numbers rest) k in
    (known_sum names s h'.0 k'.0, known_code names rest h'.1 k'.1)
known_code names (quick_program.give s rest) h k =
    let h' = split_all (IsName names) (sum_names s) (used_names rest) h in
    let k' = split_all IsNumber (sum_numbers s) (code_numbers rest) k in
    (known_sum names s h'.0 k'.0, known_code names rest h'.1 k'.1)
known_code names (quick_program.while_ s body rest) h k =
    let h' = split_all (IsName names) (sum_names s) (used_names body ++ used_names rest) h in
    let k' = split_all IsNumber (sum_numbers s) (code_numbers body ++ code_numbers rest) k in
    let h'' = split_all (IsName names) (used_names body) (used_names rest) h'.1 in
    let k'' = split_all IsNumber (code_numbers body) (code_numbers rest) k'.1 in
    (known_sum names s h'.0 k'.0, known_code names body h''.0 k''.0, known_code names rest h''.1 k''.1)

-- ---- the first memory

abbrev objects_of : List Item → List Object
objects_of items = map (global_object []) (core_globals items) ++ []

abbrev names_of : List Item → List (List ℕ)
names_of items = object_names (declarations items)

-- an object before others
holds_first : (b : Bool) (z : ℤ) (o : Object) (others : List Object) (w : ℤ) (k : ℕ) (found : Bool) → Holds z o → (IsTrue found → Holds w (slice_index_or others k no_object)) → IsTrue (cond b true found)
    → Holds (cond b z w) (slice_index_or (o ∷ others) (cond b 0 (suc k)) no_object)
holds_first true z o others w k found h next i = h
holds_first false z o others w k found h next i = next i

first_holds : (items : List Item) → AllByRecursion IsNumber (item_numbers items) → (x : List ℕ) → IsName (names_of items) x
    → Holds (first_memory (declarations items) x) (slice_index_or (objects_of items) (number_in (names_of items) x) no_object)
first_holds [] h x i = absurd cc
first_holds (tentative y ∷ rest) h x i =
    holds_first (bytes_eq x y) (pos 0) (global_object [] (int_global [])) (objects_of rest) (first_memory (declarations rest) x) (number_in (names_of rest) x) (is_in (names_of rest) x)
    (record { ty = refl; lives = refl; writable = refl; cell = refl; in_range = refl }) (λ k. first_holds rest h x k) i
first_holds (valued y d ∷ rest) h x i =
    holds_first (bytes_eq x y) (pos (value_of d)) (global_object [] (int_global (first_value (value_of d) ∷ []))) (objects_of rest) (first_memory (declarations rest) x) (number_in (names_of rest) x) (is_in (names_of rest) x)
    (record { ty = refl; lives = refl; writable = refl; cell = refl; in_range = number_is_int d h.0 }) (λ k. first_holds rest h.1 x k) i
first_holds (main_of c ∷ rest) h x i = first_holds rest (split_all IsNumber (code_numbers c) (item_numbers rest) h).1 x i

body_numbers : (items : List Item) (body : Code) → bodies (declarations items) ≡ body ∷ [] → AllByRecursion IsNumber (item_numbers items) → AllByRecursion IsNumber (code_numbers body)
body_numbers [] body e h = absurd cc
body_numbers (tentative x ∷ rest) body e h = body_numbers rest body e h
body_numbers (valued x d ∷ rest) body e h = body_numbers rest body e h.1
body_numbers (main_of c ∷ rest) body e h =
    let same : c ≡ body = cc in
    subst (λ b. AllByRecursion IsNumber (code_numbers b)) same (split_all IsNumber (code_numbers c) (item_numbers rest) h).0

-- ---- the run

answers_agree : (names : List (List ℕ)) (input : List ℕ) (a : quick.Outcome) (o : Outcome Ending) → Agrees names input a o → core.answer_of o ≡ core_answer (quick.answer_of a)
answers_agree names input (quick.Falls m out) o h = ap core.answer_of h.2
answers_agree names input (quick.Returns v out) o h = ap core.answer_of h.2 ∙ ap (core.Ended out) (int_is_converted v h.1)
answers_agree names input (quick.Stops out) o h = ap core.answer_of h
answers_agree names input (quick.Fails out) o h = ap core.answer_of h

abbrev main_frame : Frame
main_frame = record { types = []; objects = λ k. None }

run_with : (names : List (List ℕ)) (globals : List PlainGlobal) (codes : List Code) (body : Code) (m : quick.Memory) (input : List ℕ) (n : ℕ) → codes ≡ body ∷ [] → IsKnownCode names body
    → Alike names m (memory_of (map (global_object []) globals ++ []))
    → core.run (with_putchar (core_functions names codes) globals) input n ≡ core_answer (body_run codes n m)
run_with names globals codes body m input n e known alike =
    subst (λ cs. core.run (with_putchar (core_functions names cs) globals) input n ≡ core_answer (body_run cs n m)) (sym e)
    (answers_agree names input (code_run body n m) _
    (code_agrees names input (core_functions names (body ∷ [])) globals main_frame body known n m (memory_of (map (global_object []) globals ++ [])) alike))

pub items_agree : (items : List Item) → AllByRecursion IsNumber (item_numbers items) → IsAccepted (declarations items) → (input : List ℕ) (n : ℕ)
    → core.run (core_program items) input n ≡ core_answer (quick.run (declarations items) input n)
items_agree items numbers h input n =
    let used = names_are_in (declarations items) (used_names h.body) (all_by (Contains (visible_names (declarations items))) (used_names h.body) h.known) in
    run_with (names_of items) (core_globals items) (bodies (declarations items)) h.body (first_memory (declarations items)) input n h.once
    (known_code (names_of items) h.body used (body_numbers items h.body h.once numbers))
    (record { holds = first_holds items numbers })
