-- The core program of the unit of accepted items.
use Rattle.std.proofs.Common.{◌≡◌, ℕ, pos, Bool, true, false, ◌&&◌, ◌||◌, nat_le, List, [], ◌∷◌, ◌++◌, length, map, codes, refl, sym, ◌∙◌, ap, subst, cond, Option, Some, None, option_map, IsTrue, append-nil}
use Rattle.std.specs.Prelude.{filter}
use Rattle.std.specs.List.{AllByRecursion, list_any}
use Rattle.std.specs.Str.{bytes_eq}
use Rattle.std.proofs.lemmas.Slice.Eq.{bytes_eq-Decides}
use Rattle.c_types.specs.declared.arithmetic.BinaryOp.TheVariants.{Add, Sub}
use Rattle.c_types.specs.Types.{int}
use Rattle.c_tree.specs.Trees.{PlainTree}
use Rattle.core_meaning.specs.declared.integers.IntegerType.TheVariants.{Int}
use Rattle.core_meaning.specs.declared.expressions.Operation.TheVariants.{Numbers as on_numbers}
use Rattle.core_meaning.specs.declared.program.BuiltIn.TheVariants.{Putchar}
use Rattle.core_meaning.specs.Program.{PlainExpression, constant, read, binary, assign, call, global, no_argument, argument, block, evaluate, loop, return_value, statement_item, PlainFunction, defined, built_in, PlainGlobal}
use Rattle.core_meaning.specs.Checking.{Checked, fine, refused, broken, with_bindings, ◌>>=◌, give}
use Rattle.core_meaning.specs.Entities.{Table, FileName, Numbers, Sort, variable, function, entity_number}
use Rattle.core_meaning.specs.UnitNames.{Body, judged_unit}
use Rattle.core_meaning.specs.Linking.{Unit, Units, count_external, uses_in, closed, judged_units, defines, is_wanted, is_available, Linked, same_linked, linked_in, listed, each_once, lists, number_in as linked_number, or_zero, place_where, numbers_in, no_numbers, literals_of, judged_program, whole_body, unit_of as unit_with, type_of_sort, parts_of_body, global_in, function_of_body, function_in, program_of}
use Rattle.quick_form.specs.Form as form
use Rattle.quick_form.specs.Form.{Named, Literal, Term, Sum}
use Rattle.quick_form.specs.Program as quick
use Rattle.quick_form.specs.Program.{Code, bodies, IsAccepted}
use Rattle.quick_core.specs.Present.{Item, tentative, valued, main_of, declarations}
use Rattle.quick_core.specs.CoreProgram.{number_in, core_operand, core_terms, core_sum, core_code, core_globals, core_functions, core_program}
use Rattle.quick_core.proofs.Cells.{is_in}
use Rattle.quick_core.proofs.Starts.{IsName, visible_is_in}
use Rattle.quick_trees.specs.Tokens.{Seats}
use Rattle.quick_trees.specs.UnitTree.{unit_tree}
use Rattle.quick_trees.specs.Laws.{IsSpelled, ElaboratesToCore}
use Rattle.quick_trees.proofs.Judging.{Judges, Usable, operand_core, terms_core, sum_core, code_core, as_object, as_function, IsKnown, AreKnown, IsKnownSum, IsKnownCode}
use Rattle.quick_trees.proofs.JudgedUnit.{unit_of, item_name, item_body, definition, with_item, with_items, first_table, code_of, AreReady, unit_judged}
use Rattle.quick_trees.proofs.Readiness.{HasNames, has_names, are_ready, Known, visible_of, names_of, objects_of, apart_symmetric, apart_from, same_bytes, all_mapped}
use Rattle.quick_trees.proofs.LinkedUnit.{unit_is, or_second, table_kept, tabled, defined_each, defined_none, whole, whole_each, both_true, linked_unit, internal_is, link_to, IsPut, linked_is, kept, dropped, unwanted, wanted_function, objects_listed, functions_listed, objects_only, functions_only, mains_of, once, none_done, place_is}
use Rattle.quick_trees.proofs.Texts.{no_literals}
use Rattle.quick_trees.proofs.Decimals.{halves}
use Rattle.quick_trees.proofs.Links.{either_holds, used_is_known, IsOwnName, no_duplicate, all_agree}
use Rattle.quick_core.proofs.Starts.{all_by}
use Rattle.quick_trees.proofs.Readiness.{all_names}
use Rattle.core_meaning.specs.declared.refusals.LinkKind.{LinkKind}
use Rattle.core_meaning.specs.declared.refusals.LinkKind.TheVariants as link
use Rattle.core_meaning.specs.Linking.{defines_main, is_main, IsFault}
use Rattle.quick_trees.specs.Laws.{CoreIsElaborated}
use Rattle.quick_trees.proofs.LinkedUnit.{or_first, available}
use Rattle.std.proofs.Common.{inl, inr, not}

-- ---- code with the numbers of linking

module _ (visible names : List (List ℕ)) (at : List ℕ → ℕ) (put : ℕ) (same : (x : List ℕ) → Known visible x → at x ≡ number_in names x) (first : put ≡ 0) where
  operand_same : (o : form.Operand) → IsKnown (Known visible) o → operand_core at put o ≡ core_operand names o
  operand_same (Named x) h = ap (λ n. read (global n)) (same x h)
  operand_same (Literal d) h = refl

  terms_same : (left left' : PlainExpression) (ts : List Term) → left ≡ left' → AreKnown (Known visible) ts → terms_core at put left ts ≡ core_terms names left' ts
  terms_same left left' [] e h = e
  terms_same left left' (t ∷ ts) e h =
      terms_same (binary (on_numbers (cond t.subtracted Sub Add) Int) left (operand_core at put t.operand)) (binary (on_numbers (cond t.subtracted Sub Add) Int) left' (core_operand names t.operand)) ts
      (ap (λ l. binary (on_numbers (cond t.subtracted Sub Add) Int) l (operand_core at put t.operand)) e
      ∙ ap (λ r. binary (on_numbers (cond t.subtracted Sub Add) Int) left' r) (operand_same t.operand h.0)) h.1

  sum_same : (s : Sum) → IsKnownSum (Known visible) s → sum_core at put s ≡ core_sum names s
  sum_same s h = terms_same (operand_core at put s.first) (core_operand names s.first) s.more (operand_same s.first h.first) h.more

  code_same : (c : Code) → IsKnownCode (Known visible) c → code_core at put c ≡ core_code names c
  code_same quick.done h = refl
  code_same (quick.assign x s rest) h =
      ap (λ n. statement_item (evaluate (assign (global n) (sum_core at put s))) (code_core at put rest)) (same x h.0)
      ∙ (ap (λ e. statement_item (evaluate (assign (global (number_in names x)) e)) (code_core at put rest)) (sum_same s h.1)
      ∙ ap (λ i. statement_item (evaluate (assign (global (number_in names x)) (core_sum names s))) i) (code_same rest h.2))
  code_same (quick.put s rest) h =
      ap (λ n. statement_item (evaluate (call n (argument (sum_core at put s) no_argument))) (code_core at put rest)) first
      ∙ (ap (λ e. statement_item (evaluate (call 0 (argument e no_argument))) (code_core at put rest)) (sum_same s h.0)
      ∙ ap (λ i. statement_item (evaluate (call 0 (argument (core_sum names s) no_argument))) i) (code_same rest h.1))
  code_same (quick.give s rest) h =
      ap (λ e. statement_item (return_value e) (code_core at put rest)) (sum_same s h.0)
      ∙ ap (λ i. statement_item (return_value (core_sum names s)) i) (code_same rest h.1)
  code_same (quick.while_ s body rest) h =
      ap (λ e. statement_item (loop true e (constant (pos 0)) (block (code_core at put body))) (code_core at put rest)) (sum_same s h.0)
      ∙ (ap (λ b. statement_item (loop true (core_sum names s) (constant (pos 0)) (block b)) (code_core at put rest)) (code_same body h.1)
      ∙ ap (λ i. statement_item (loop true (core_sum names s) (constant (pos 0)) (block (core_code names body))) i) (code_same rest h.2))

-- ---- facts of items

zip_each : {P Q R : Item → Type 0} (items : List Item) → ((i : Item) → P i → Q i → R i) → AllByRecursion P items → AllByRecursion Q items → AllByRecursion R items
zip_each [] f h k = tt
zip_each (i ∷ rest) f h k = (f i h.0 k.0, zip_each rest f h.1 k.1)

at_main : (P : Item → Type 0) (items : List Item) (body : Code) → bodies (declarations items) ≡ body ∷ [] → AllByRecursion P items → P (main_of body)
at_main P [] body e h = absurd cc
at_main P (tentative x ∷ rest) body e h = at_main P rest body e h.1
at_main P (valued x d ∷ rest) body e h = at_main P rest body e h.1
at_main P (main_of c ∷ rest) body e h = let same : c ≡ body = cc in subst (λ b. P (main_of b)) same h.0

ready_code : (Known : List ℕ → Type 0) (table : Table FileName) (items : List Item) (body : Code) → bodies (declarations items) ≡ body ∷ [] → AreReady Known table items → IsKnownCode Known body
ready_code Known table [] body e h = absurd cc
ready_code Known table (tentative x ∷ rest) body e h = ready_code Known (with_item table (tentative x)) rest body e h.2
ready_code Known table (valued x d ∷ rest) body e h = ready_code Known (with_item table (valued x d)) rest body e h.2
ready_code Known table (main_of c ∷ rest) body e h = let same : c ≡ body = cc in subst (IsKnownCode Known) same h.1.0

module _ (unit : Unit) where
  first_or_later : (y : List ℕ) (x : List ℕ) (t : Bool) (later : Bool) → bytes_eq x y ≡ t → unit.names y ≡ Some as_object → (IsTrue later → unit.names x ≡ Some as_object) → IsTrue (cond t true later) → unit.names x ≡ Some as_object
  first_or_later y x true later e h k i = ap unit.names ((bytes_eq-Decides x y).0 e) ∙ h
  first_or_later y x false later e h k i = k i

  object_named : (items : List Item) → AllByRecursion (IsPut unit) items → (x : List ℕ) → IsName (objects_of items) x → unit.names x ≡ Some as_object
  object_named [] h x i = absurd cc
  object_named (tentative y ∷ rest) h x i = first_or_later y x (bytes_eq x y) (is_in (objects_of rest) x) refl h.0.named (λ k. object_named rest h.1 x k) i
  object_named (valued y d ∷ rest) h x i = first_or_later y x (bytes_eq x y) (is_in (objects_of rest) x) refl h.0.named (λ k. object_named rest h.1 x k) i
  object_named (main_of c ∷ rest) h x i = object_named rest h.1 x i

  defined_or_later : (y : List ℕ) (x : List ℕ) (t : Bool) (later : Bool) → bytes_eq x y ≡ t → defines unit y ≡ true → (IsTrue later → defines unit x ≡ true) → IsTrue (cond t true later) → defines unit x ≡ true
  defined_or_later y x true later e h k i = ap (defines unit) ((bytes_eq-Decides x y).0 e) ∙ h
  defined_or_later y x false later e h k i = k i

  object_defined : (items : List Item) → AllByRecursion (IsPut unit) items → (x : List ℕ) → IsName (objects_of items) x → defines unit x ≡ true
  object_defined [] h x i = absurd cc
  object_defined (tentative y ∷ rest) h x i = defined_or_later y x (bytes_eq x y) (is_in (objects_of rest) x) refl h.0.defined (λ k. object_defined rest h.1 x k) i
  object_defined (valued y d ∷ rest) h x i = defined_or_later y x (bytes_eq x y) (is_in (objects_of rest) x) refl h.0.defined (λ k. object_defined rest h.1 x k) i
  object_defined (main_of c ∷ rest) h x i = object_defined rest h.1 x i

  -- where a name is defined
  found_here : (x : List ℕ) (sort : Sort) → unit.names x ≡ Some (record { sort = sort; internal = false }) → defines unit x ≡ true → unit_with (link_to x) 0 (unit ∷ []) ≡ Some unit
  found_here x sort h k =
      ap (λ t. cond t (Some unit) None)
      (both_true (same_linked (link_to x) (linked_in 0 unit x)) (defines unit x) (ap (same_linked (link_to x)) (linked_is unit x sort h) ∙ ap (λ t. t && true) (same_bytes x)) k)

  nowhere_by : (t u : Bool) → u ≡ false → cond (t && u) (Some unit) None ≡ None
  nowhere_by true u h = ap (λ b. cond b (Some unit) None) h
  nowhere_by false u h = refl

  found_nowhere : (x : List ℕ) → defines unit x ≡ false → unit_with (link_to x) 0 (unit ∷ []) ≡ None
  found_nowhere x h = nowhere_by (same_linked (link_to x) (linked_in 0 unit x)) (defines unit x) h

  global_is : (x : List ℕ) (body : Option Body) → unit.names x ≡ Some as_object → defines unit x ≡ true → whole_body unit.defined x ≡ body
      → global_in (link_to x) (unit_with (link_to x) 0 (unit ∷ [])) ≡ record { ty = int; parts = parts_of_body body }
  global_is x body h k e =
      ap (global_in (link_to x)) (found_here x (variable int) h k)
      ∙ (ap (λ n. record { ty = type_of_sort (option_map (λ f. f.sort) n); parts = parts_of_body (whole_body unit.defined x) }) h
      ∙ ap (λ b. record { ty = int; parts = parts_of_body b }) e)

  globals_are : (numbers : Numbers) (items : List Item) → AllByRecursion (IsPut unit) items → AllByRecursion (λ i. whole_body unit.defined (item_name i) ≡ whole (item_body numbers i)) items
      → map (λ e. global_in e (unit_with e 0 (unit ∷ []))) (map link_to (objects_of items)) ≡ core_globals items
  globals_are numbers [] h k = refl
  globals_are numbers (tentative x ∷ rest) h k =
      ap (λ g. g ∷ map (λ e. global_in e (unit_with e 0 (unit ∷ []))) (map link_to (objects_of rest))) (global_is x None h.0.named h.0.defined k.0)
      ∙ ap (λ gs. record { ty = int; parts = [] } ∷ gs) (globals_are numbers rest h.1 k.1)
  globals_are numbers (valued x d ∷ rest) h k =
      ap (λ g. g ∷ map (λ e. global_in e (unit_with e 0 (unit ∷ []))) (map link_to (objects_of rest))) (global_is x (Some (item_body numbers (valued x d))) h.0.named h.0.defined k.0)
      ∙ ap (λ gs. record { ty = int; parts = parts_of_body (Some (item_body numbers (valued x d))) } ∷ gs) (globals_are numbers rest h.1 k.1)
  globals_are numbers (main_of c ∷ rest) h k = globals_are numbers rest h.1 k.1

-- ---- numbers

any_name : (f : List ℕ → Linked) → ((y : List ℕ) → (f y).name ≡ y) → (x : List ℕ) (xs : List (List ℕ)) → list_any (bytes_eq x) xs ≡ list_any (λ l. bytes_eq x l.name) (map f xs)
any_name f same x [] = refl
any_name f same x (y ∷ ys) = rw (same y, any_name f same x ys) refl

by_first : (t later any : Bool) → (IsTrue later → any ≡ true) → IsTrue (cond t true later) → (t || any) ≡ true
by_first true later any h i = refl
by_first false later any h i = h i

in_any : (xs : List (List ℕ)) (x : List ℕ) → IsName xs x → list_any (bytes_eq x) xs ≡ true
in_any [] x h = absurd cc
in_any (y ∷ ys) x h = by_first (bytes_eq x y) (is_in ys x) (list_any (bytes_eq x) ys) (in_any ys x) h

number_found : (unit : Unit) (functions : Bool) (names : List (List ℕ)) (x : List ℕ)
    → map (linked_in 0 unit) (filter (is_wanted (unit ∷ []) functions unit) unit.order) ≡ map link_to names → listed (unit ∷ []) functions ≡ map link_to names
    → linked_in 0 unit x ≡ link_to x → IsName names x → linked_number (unit ∷ []) functions 0 (Some unit) x ≡ Some (number_in names x)
number_found unit functions names x e l s h =
    let wanted = filter (is_wanted (unit ∷ []) functions unit) unit.order in
    let has : lists (unit ∷ []) functions unit x ≡ true =
    any_name (linked_in 0 unit) (λ y. refl) x wanted
    ∙ (ap (list_any (λ k. bytes_eq x k.name)) e ∙ (sym (any_name link_to (λ y. refl) x names) ∙ in_any names x h)) in
    ap (λ t. cond t (place_where (same_linked (linked_in 0 unit x)) (listed (unit ∷ []) functions)) None) has
    ∙ (ap (λ k. place_where (same_linked k) (listed (unit ∷ []) functions)) s
    ∙ (ap (place_where (same_linked (link_to x))) l ∙ place_is names x h))

abbrev number_or_zero : Option ℕ → ℕ
number_or_zero o = elim o as (λ y. ℕ) [ Some n ↦ n | None ↦ 0 ]

abbrev main_sort : Sort
main_sort = function (record { result = int; parameters = [] })

abbrev putchar_sort : Sort
putchar_sort = function (record { result = int; parameters = int ∷ [] })

-- ---- the unit and its program

module _ (items : List Item) (seats : Seats) (s : IsSpelled items) (a : IsAccepted (declarations items)) where
  abbrev names : HasNames items
  names = has_names items s a

  abbrev tree : PlainTree
  tree = unit_tree items seats

  module _ (numbers : Numbers) (uses : List ℕ → Bool) where
    abbrev unit : Unit
    unit = linked_unit numbers uses items

    put : AllByRecursion (IsPut unit) items
    put = zip_each items (λ i h k. record { named = h; defined = k }) (tabled first_table items names.apart) (defined_each numbers items)

    wholes : AllByRecursion (λ i. whole_body unit.defined (item_name i) ≡ whole (item_body numbers i)) items
    wholes = whole_each numbers items names.apart

    putchar_named : unit.names (codes "putchar") ≡ Some (as_function (int ∷ []))
    putchar_named =
        table_kept first_table items (codes "putchar")
        (all_mapped (λ x. bytes_eq x (codes "putchar") ≡ false) (λ x. bytes_eq (codes "putchar") x ≡ false) (names_of items) (λ x h. apart_symmetric x (codes "putchar") h) names.beside_putchar)

    putchar_available : is_available (unit ∷ []) unit (codes "putchar") ≡ true
    putchar_available =
        ap (λ t. cond t (defines unit (codes "putchar")) (nat_le 1 (count_external (unit ∷ []) (codes "putchar")) || true)) (internal_is unit (codes "putchar") putchar_sort putchar_named)
        ∙ or_second (nat_le 1 (count_external (unit ∷ []) (codes "putchar"))) true refl

    objects_kept : map (linked_in 0 unit) (filter (objects_only unit) (codes "putchar" ∷ names_of items)) ≡ map link_to (objects_of items)
    objects_kept =
        dropped (objects_only unit) (linked_in 0 unit) link_to (codes "putchar") (names_of items) (objects_of items)
        (unwanted unit false (codes "putchar") (as_function (int ∷ [])) putchar_named refl) (objects_listed unit items put)

    objects_all : listed (unit ∷ []) false ≡ map link_to (objects_of items)
    objects_all =
        ap (each_once []) (append-nil (map (linked_in 0 unit) (filter (objects_only unit) (codes "putchar" ∷ names_of items))))
        ∙ (ap (each_once []) objects_kept ∙ once [] (objects_of items) (none_done (objects_of items)) (apart_from (objects_of items) a.distinct))

    functions_kept : map (linked_in 0 unit) (filter (functions_only unit) (codes "putchar" ∷ names_of items)) ≡ map link_to (codes "putchar" ∷ codes "main" ∷ [])
    functions_kept =
        kept (functions_only unit) (linked_in 0 unit) link_to (codes "putchar") (names_of items) (mains_of unit items)
        (wanted_function unit (codes "putchar") (int ∷ []) putchar_named putchar_available) (linked_is unit (codes "putchar") putchar_sort putchar_named) (functions_listed unit items put)
        ∙ ap (λ cs. map link_to (codes "putchar" ∷ map (λ (c : Code). codes "main") cs)) a.once

    functions_all : listed (unit ∷ []) true ≡ map link_to (codes "putchar" ∷ codes "main" ∷ [])
    functions_all =
        ap (each_once []) (append-nil (map (linked_in 0 unit) (filter (functions_only unit) (codes "putchar" ∷ names_of items)))) ∙ ap (each_once []) functions_kept

    -- the numbers that the unit's names get
    at_same : (literals : List (List ℕ)) (x : List ℕ) → Known (visible_of items) x → entity_number (numbers_in (unit ∷ []) literals 0).globals x ≡ number_in (objects_of items) x
    at_same literals x h =
        let is_object = visible_is_in (declarations items) x h in
        ap number_or_zero
        (number_found unit false (objects_of items) x objects_kept objects_all (linked_is unit x (variable int) (object_named unit items put x is_object)) is_object)

    put_same : (literals : List (List ℕ)) → entity_number (numbers_in (unit ∷ []) literals 0).functions (codes "putchar") ≡ 0
    put_same literals =
        ap number_or_zero
        (number_found unit true (codes "putchar" ∷ codes "main" ∷ []) (codes "putchar") functions_kept functions_all (linked_is unit (codes "putchar") putchar_sort putchar_named) refl)

    -- the functions and globals of its program
    abbrev function_at : Linked → PlainFunction
    function_at e = function_in e (unit_with e 0 (unit ∷ []))

    abbrev global_at : Linked → PlainGlobal
    global_at e = global_in e (unit_with e 0 (unit ∷ []))

    putchar_is : function_at (link_to (codes "putchar")) ≡ built_in Putchar
    putchar_is = ap (function_in (link_to (codes "putchar"))) (found_nowhere unit (codes "putchar") (defined_none numbers items (codes "putchar") names.beside_putchar))

    main_is : function_at (link_to (codes "main")) ≡ defined [] (code_of numbers a.body)
    main_is =
        let here = at_main (IsPut unit) items a.body a.once put in
        ap (function_in (link_to (codes "main"))) (found_here unit (codes "main") main_sort here.named here.defined)
        ∙ ap function_of_body (at_main (λ i. whole_body unit.defined (item_name i) ≡ whole (item_body numbers i)) items a.body a.once wholes)

    functions_are : code_of numbers a.body ≡ core_code (objects_of items) a.body
        → map function_at (listed (unit ∷ []) true) ≡ built_in Putchar ∷ core_functions (objects_of items) (bodies (declarations items))
    functions_are e =
        ap (map function_at) functions_all
        ∙ (ap (λ f. f ∷ function_at (link_to (codes "main")) ∷ []) putchar_is
        ∙ (ap (λ f. built_in Putchar ∷ f ∷ []) main_is
        ∙ (ap (λ c. built_in Putchar ∷ defined [] c ∷ []) e
        ∙ ap (λ cs. built_in Putchar ∷ core_functions (objects_of items) cs) (sym a.once))))

    globals_all : map global_at (listed (unit ∷ []) false) ≡ core_globals items
    globals_all = ap (map global_at) objects_all ∙ globals_are unit numbers items put wholes

    program_is : code_of numbers a.body ≡ core_code (objects_of items) a.body → program_of (tree ∷ []) (record { units = unit ∷ []; structs = [] }) ≡ core_program items
    program_is e =
        ap (λ f. record { structs = []; functions = f; globals = map global_at (listed (unit ∷ []) false); literals = literals_of (tree ∷ []); main = or_zero (place_where (same_linked (link_to (codes "main"))) (listed (unit ∷ []) true)) }) (functions_are e)
        ∙ (ap (λ g. record { structs = []; functions = (core_program items).functions; globals = g; literals = literals_of (tree ∷ []); main = or_zero (place_where (same_linked (link_to (codes "main"))) (listed (unit ∷ []) true)) }) globals_all
        ∙ (ap (λ l. record { structs = []; functions = (core_program items).functions; globals = core_globals items; literals = l; main = or_zero (place_where (same_linked (link_to (codes "main"))) (listed (unit ∷ []) true)) }) (no_literals items seats)
        ∙ ap (λ m. record { structs = []; functions = (core_program items).functions; globals = core_globals items; literals = []; main = or_zero (place_where (same_linked (link_to (codes "main"))) m) }) functions_all))

    -- ---- that it links

    available_known : (x : List ℕ) → Usable (Known (visible_of items)) x → is_available (unit ∷ []) unit x ≡ true
    available_known x (inl h) =
        let is_object = visible_is_in (declarations items) x h in
        available unit x (variable int) (object_named unit items put x is_object) (object_defined unit items put x is_object)
    available_known x (inr e) = subst (λ y. is_available (unit ∷ []) unit y ≡ true) (sym e) putchar_available

    main_defined : defines_main unit ≡ true
    main_defined =
        let here = at_main (IsPut unit) items a.body a.once put in
        ap (λ o. elim o as (λ x. Bool) [ None ↦ false | Some n ↦ not n.internal && is_main n.sort && defines unit (codes "main") ]) here.named ∙ here.defined

    no_fault : ((x : List ℕ) → uses x ≡ true → Usable (Known (visible_of items)) x) → AllByRecursion IsOwnName (names_of items) → (kind : LinkKind) (x : List ℕ) → IsFault (record { units = unit ∷ []; structs = [] }) kind x → ⊥
    no_fault usable own link.NoMain x f =
        let z : true ≡ false = sym f.1 ∙ ap not (or_first (defines_main unit) false main_defined) in
        absurd cc
    no_fault usable own link.Undefined x f = elim (either_holds (uses x && not (is_available (unit ∷ []) unit x)) false f) as (λ z. ⊥) [
      | inl k ↦ (
          let parts = halves (uses x) (not (is_available (unit ∷ []) unit x)) k in
          let z : true ≡ false = sym parts.1 ∙ ap not (available_known x (usable x parts.0)) in
          absurd cc)
      | inr k ↦ absurd cc
    ]
    no_fault usable own link.Duplicate x f = no_duplicate numbers uses items names.apart own x f
    no_fault usable own link.Incompatible x f = f.apart (all_agree numbers uses items names.apart own x f.first f.second f.declares_first f.declares_second)

  -- ---- the judgement of the units

  abbrev linked_with : Numbers → (List ℕ → Bool) → Units
  linked_with numbers uses = record { units = linked_unit numbers uses items ∷ []; structs = [] }

  state_judged : (globals : ℕ) (numbers : Numbers)
      → Judges (Usable (Known (visible_of items))) (judged_unit globals [] numbers tree) (unit_of numbers (with_items first_table items) (codes "putchar" ∷ names_of items) (map (definition numbers) items))
  state_judged globals numbers =
      subst (λ u. Judges (Usable (Known (visible_of items))) (judged_unit globals [] numbers tree) u) (unit_is numbers first_table (codes "putchar" ∷ []) [] items)
      (unit_judged (Known (visible_of items)) globals numbers items seats (are_ready items s a))

  units_judged : (numbers : ℕ → Numbers) (globals : ℕ) → (uses : List ℕ → Bool) × (judged_units numbers globals 0 [] (tree ∷ []) ≡ fine (linked_with (numbers 0) uses) []) × ((x : List ℕ) → uses x ≡ true → Usable (Known (visible_of items)) x)
  units_judged numbers globals =
      let h = state_judged globals (numbers 0) in (
        uses_in h.bindings,
        ap (λ c. closed c >>= (λ first. judged_units numbers globals 1 first.structs [] >>= (λ others. give (record { units = first.units ++ others.units; structs = others.structs })))) h.is,
        used_is_known (Usable (Known (visible_of items))) h.bindings h.allowed,
      )

  abbrev first_uses : List ℕ → Bool
  first_uses = (units_judged no_numbers 0).0

  abbrev first_unit : Unit
  first_unit = linked_unit (no_numbers 0) first_uses items

  abbrev unit_numbers : ℕ → Numbers
  unit_numbers = numbers_in (first_unit ∷ []) (literals_of (tree ∷ []))

  abbrev second_uses : List ℕ → Bool
  second_uses = (units_judged unit_numbers (length (listed (first_unit ∷ []) false))).0

  program_judged : judged_program (tree ∷ []) ≡ fine (linked_with (unit_numbers 0) second_uses) []
  program_judged =
      ap (λ c. c >>= (λ first. judged_units (numbers_in first.units (literals_of (tree ∷ []))) (length (listed first.units false)) 0 [] (tree ∷ []))) (units_judged no_numbers 0).1
      ∙ ap (with_bindings []) (units_judged unit_numbers (length (listed (first_unit ∷ []) false))).1

  code_is : code_of (unit_numbers 0) a.body ≡ core_code (objects_of items) a.body
  code_is =
      code_same (visible_of items) (objects_of items) (entity_number (unit_numbers 0).globals) (entity_number (unit_numbers 0).functions (codes "putchar"))
      (at_same (no_numbers 0) first_uses (literals_of (tree ∷ []))) (put_same (no_numbers 0) first_uses (literals_of (tree ∷ []))) a.body
      (ready_code (Known (visible_of items)) first_table items a.body a.once (are_ready items s a))

abbrev linked_from : Units → Checked Units → Units
linked_from otherwise (fine x bindings) = x
linked_from otherwise (refused kind token) = otherwise
linked_from otherwise broken = otherwise

pub elaborates_to_core_lem : ElaboratesToCore
elaborates_to_core_lem items seats s a p h =
    let linked = linked_with items seats s a (unit_numbers items seats s a 0) (second_uses items seats s a) in
    let same : linked ≡ h.linked = ap (linked_from linked) (sym (program_judged items seats s a) ∙ h.judged) in
    h.program ∙ (ap (program_of (unit_tree items seats ∷ [])) (sym same) ∙ program_is items seats s a (unit_numbers items seats s a 0) (second_uses items seats s a) (code_is items seats s a))

pub core_is_elaborated_lem : CoreIsElaborated
core_is_elaborated_lem items seats s a own =
    let numbers = unit_numbers items seats s a 0 in
    let uses = second_uses items seats s a in
    let usable = (units_judged items seats s a (unit_numbers items seats s a) (length (listed (first_unit items seats s a ∷ []) false))).2 in
    let own_names = all_names IsOwnName items (all_by IsOwnName (objects_of items) own) refl in
    record {
      linked = linked_with items seats s a numbers uses;
      bindings = [];
      judged = program_judged items seats s a;
      links = record { no_fault = no_fault items seats s a numbers uses usable own_names };
      program = sym (program_is items seats s a numbers uses (code_is items seats s a));
    }
