-- What the items of the quick form, and their unit, are judged to be.
use Rattle.std.proofs.Common.{◌≡◌, ℕ, Bool, true, false, List, [], ◌∷◌, ◌++◌, map, codes, refl, ap, cond, Option, Some, None, IsTrue}
use Rattle.std.specs.List.{AllByRecursion}
use Rattle.std.specs.Str.{bytes_eq}
use Rattle.c_text.specs.Token.{PlainToken}
use Rattle.c_types.specs.Types.{int}
use Rattle.c_tree.specs.Trees.{PlainTrees, none, more}
use Rattle.core_meaning.specs.declared.refusals.TypeKind.TheVariants.{Redeclared}
use Rattle.core_meaning.specs.Program.{PlainItems, no_item}
use Rattle.core_meaning.specs.Checking.{Entity, local_entity, local_of_function, file_entity, struct_entity, member_entity, own_entity, Binding, Checked, with_bindings, ◌>>=◌, give, unless_so, numbered, numbered_binding, in_function}
use Rattle.core_meaning.specs.Entities.{Table, no_entry, with_entry, Scope, FileName, Numbers, function, entity_number}
use Rattle.core_meaning.specs.Declarations.{Parameter}
use Rattle.core_meaning.specs.Statements.{JudgedItems, items_as, judged_items}
use Rattle.core_meaning.specs.UnitNames.{Body, object_body, tentative_body, function_body, Defined, UnitState, by_none, with_name, declared_as, linkage, with_scope, with_defined, judged_body, count_functions, judged_item, judged_file_items, unit_start, judged_unit, may_be_function, signature_of, with_parameters, parameter_types, is_too_big, too_big_in, unless_too_big}
use Rattle.quick_form.specs.Symbols.{Int, Main, Putchar, Number, Mark}
use Rattle.quick_form.specs.Words.{is_number, value_of}
use Rattle.quick_form.specs.Program.{Code}
use Rattle.quick_core.specs.Present.{Item, tentative, valued, main_of}
use Rattle.quick_core.specs.CoreProgram.{first_value}
use Rattle.quick_trees.specs.Tokens.{Seat, Seats, skip, token_of}
use Rattle.quick_trees.specs.UnitTree.{word, block_tree, code_trees, declarator, declaration_tree, function_declarator, main_tree, item_trees, unit_tree}
use Rattle.quick_trees.proofs.Decimals.{number_value_is, number_is_int}
use Rattle.quick_trees.proofs.Judging.{IsUse, IsAllowed, allowed_append, Judges, judges_then, judges_now, code_core, as_object, as_function, Sees, Usable, IsKnownCode}
use Rattle.quick_trees.proofs.JudgedCode.{inside, with_inner, core_from, code_judged}

-- ---- a unit up to a place

abbrev pub scope_of : Numbers → Table FileName → List (List ℕ) → Scope
scope_of numbers table order = record { structs = []; tags = no_entry; file_names = table; order = order; blocks = []; numbers = numbers }

abbrev pub unit_of : Numbers → Table FileName → List (List ℕ) → List Defined → UnitState
unit_of numbers table order defined = record { scope = scope_of numbers table order; defined = defined }

abbrev pub item_name : Item → List ℕ
item_name (tentative x) = x
item_name (valued x d) = x
item_name (main_of c) = codes "main"

abbrev pub item_as : Item → FileName
item_as (tentative x) = as_object
item_as (valued x d) = as_object
item_as (main_of c) = as_function []

-- the code of a body, where names have these numbers
abbrev pub code_of : Numbers → Code → PlainItems
code_of numbers c = code_core (entity_number numbers.globals) (entity_number numbers.functions (codes "putchar")) c

abbrev pub item_body : Numbers → Item → Body
item_body numbers (tentative x) = tentative_body
item_body numbers (valued x d) = object_body (first_value (value_of d) ∷ [])
item_body numbers (main_of c) = function_body [] (code_of numbers c)

abbrev pub definition : Numbers → Item → Defined
definition numbers item = record { name = item_name item; body = item_body numbers item }

abbrev pub with_item : Table FileName → Item → Table FileName
with_item table item = with_entry table (item_name item) (item_as item)

abbrev pub with_items : Table FileName → List Item → Table FileName
with_items table [] = table
with_items table (item ∷ rest) = with_items (with_item table item) rest

abbrev pub unit_after : Numbers → Table FileName → List (List ℕ) → List Defined → List Item → UnitState
unit_after numbers table order defined [] = unit_of numbers table order defined
unit_after numbers table order defined (item ∷ rest) =
    unit_after numbers (with_item table item) (order ++ item_name item ∷ []) (defined ++ definition numbers item ∷ []) rest

abbrev unit_parts : List Item → Seats → PlainTrees
unit_parts items seats = more (declaration_tree seats (function_declarator Putchar Int (skip 1 seats) ∷ []) (seats 5)) (item_trees items (skip 6 seats))

main_named : (numbers : Numbers) (table : Table FileName) (order : List (List ℕ)) (c : Code) (token : PlainToken) (found : Option FileName) → found ≡ None
    → declared_as (scope_of numbers table order) (record token { text = codes "main" }) (function (record { result = int; parameters = [] })) (linkage by_none true found) found
    ≡ give (scope_of numbers (with_item table (main_of c)) (order ++ codes "main" ∷ []))
main_named numbers table order c token None e = refl
main_named numbers table order c token (Some n) e = absurd cc

main_is_new : (found : Option FileName) (name : PlainToken) → found ≡ None → unless_so (may_be_function by_none int found) Redeclared name ≡ give tt
main_is_new found name e = ap (λ o. unless_so (may_be_function by_none int o) Redeclared name) e

abbrev pub first_table : Table FileName
first_table = with_entry no_entry (codes "putchar") (as_function (int ∷ []))

-- ---- objects that are small

abbrev AreSmall : Scope → Table FileName → Type 0
AreSmall scope table = (x : List ℕ) → is_too_big scope (table x) ≡ false

item_is_small : (scope : Scope) (i : Item) → is_too_big scope (Some (item_as i)) ≡ false
item_is_small scope (tentative x) = refl
item_is_small scope (valued x d) = refl
item_is_small scope (main_of c) = refl

choice_is_small : (scope : Scope) (t : Bool) (a b : Option FileName) → is_too_big scope a ≡ false → is_too_big scope b ≡ false → is_too_big scope (cond t a b) ≡ false
choice_is_small scope true a b h k = h
choice_is_small scope false a b h k = k

entry_is_small : (scope : Scope) (table : Table FileName) (x : List ℕ) (n : FileName) → is_too_big scope (Some n) ≡ false → AreSmall scope table → AreSmall scope (with_entry table x n)
entry_is_small scope table x n h k y = choice_is_small scope (bytes_eq y x) (Some n) (table y) h (k y)

objects_are_small : (scope : Scope) (numbers : Numbers) (table : Table FileName) (order : List (List ℕ)) (defined : List Defined) (items : List Item)
    → AreSmall scope table → AreSmall scope (unit_after numbers table order defined items).scope.file_names
objects_are_small scope numbers table order defined [] h = h
objects_are_small scope numbers table order defined (i ∷ rest) h =
    objects_are_small scope numbers (with_item table i) (order ++ item_name i ∷ []) (defined ++ definition numbers i ∷ []) rest (entry_is_small scope table (item_name i) (item_as i) (item_is_small scope i) h)

none_too_big : (scope : Scope) (items : List Item) (seats : Seats) → AreSmall scope scope.file_names → too_big_in scope (item_trees items seats) ≡ None
none_too_big scope [] seats h = refl
none_too_big scope (tentative x ∷ rest) seats h = rw (h x, none_too_big scope rest (skip 3 seats) h) refl
none_too_big scope (valued x d ∷ rest) seats h = rw (h x, none_too_big scope rest (skip 5 seats) h) refl
none_too_big scope (main_of c ∷ rest) seats h = none_too_big scope rest (skip 1 (code_trees c (skip 6 seats)).seats) h

-- ---- what items need

module _ (Known : List ℕ → Type 0) where
  abbrev pub IsReady : Table FileName → Item → Type 0
  IsReady table (tentative x) = Unit {0}
  IsReady table (valued x d) = IsTrue (is_number d)
  IsReady table (main_of c) =
      IsKnownCode Known c × ((x : List ℕ) → Known x → with_item table (main_of c) x ≡ Some as_object) × (with_item table (main_of c) (codes "putchar") ≡ Some (as_function (int ∷ [])))

  abbrev pub AreReady : Table FileName → List Item → Type 0
  AreReady table [] = Unit {0}
  AreReady table (item ∷ rest) = (table (item_name item) ≡ None) × IsReady table item × AreReady (with_item table item) rest

  abbrev U : List ℕ → Type 0
  U = Usable Known

  declared_allowed : (x : List ℕ) → AllByRecursion (IsAllowed U) (record { entity = file_entity x; in_expression = false } ∷ [])
  declared_allowed x = (λ h. absurd cc, tt)

  numbered_use : (n : ℕ) (e : Entity) → IsUse U e → IsUse U (numbered n e)
  numbered_use n (file_entity x) h = h
  numbered_use n (local_entity slot) h = absurd h
  numbered_use n (local_of_function m slot) h = absurd h
  numbered_use n (struct_entity s) h = absurd h
  numbered_use n (member_entity s m) h = absurd h
  numbered_use n own_entity h = absurd h

  numbered_allowed : (n : ℕ) (bindings : List Binding) → AllByRecursion (IsAllowed U) bindings → AllByRecursion (IsAllowed U) (map (numbered_binding n) bindings)
  numbered_allowed n [] h = tt
  numbered_allowed n (b ∷ rest) h = (λ e. numbered_use n b.entity (h.0 e), numbered_allowed n rest h.1)

  judges_with : {A : Type 0} (before : List Binding) (judgement : Checked A) (x : A) → AllByRecursion (IsAllowed U) before → Judges U judgement x → Judges U (with_bindings before judgement) x
  judges_with before judgement x k h =
      record { bindings = before ++ h.bindings; is = ap (with_bindings before) h.is; allowed = allowed_append U before h.bindings k h.allowed }

  judges_in_function : {A : Type 0} (n : ℕ) (judgement : Checked A) (x : A) → Judges U judgement x → Judges U (in_function n judgement) x
  judges_in_function n judgement x h =
      record { bindings = map (numbered_binding n) h.bindings; is = ap (in_function n) h.is; allowed = numbered_allowed n h.bindings h.allowed }

  module _ (globals : ℕ) (numbers : Numbers) where
    tentative_judged : (table : Table FileName) (order : List (List ℕ)) (defined : List Defined) (x : List ℕ) (seats : Seats) (behind : PlainTrees) → table x ≡ None
        → Judges U (judged_item globals (unit_of numbers table order defined) (declaration_tree seats (declarator x (seats 1) ∷ []) (seats 2)) behind)
        (unit_of numbers (with_item table (tentative x)) (order ++ x ∷ []) (defined ++ definition numbers (tentative x) ∷ []))
    tentative_judged table order defined x seats behind h = record { bindings = record { entity = file_entity x; in_expression = false } ∷ []; is = rw h refl; allowed = declared_allowed x }

    valued_judged : (table : Table FileName) (order : List (List ℕ)) (defined : List Defined) (x d : List ℕ) (seats : Seats) (behind : PlainTrees) → table x ≡ None → IsTrue (is_number d)
        → Judges U (judged_item globals (unit_of numbers table order defined) (declaration_tree seats (declarator x (seats 1) ∷ word (Mark 61) (seats 2) ∷ word (Number d) (seats 3) ∷ []) (seats 4)) behind)
        (unit_of numbers (with_item table (valued x d)) (order ++ x ∷ []) (defined ++ definition numbers (valued x d) ∷ []))
    valued_judged table order defined x d seats behind h k =
        record { bindings = record { entity = file_entity x; in_expression = false } ∷ []; is = rw (h, number_is_int d k, number_value_is d k) refl; allowed = declared_allowed x }

    body_judged : (scope : Scope) (brace : Seat) (items : PlainTrees) (seats : Seats) (core : PlainItems) → Judges U (judged_items (inside scope false) [] items) (items_as [] core)
        → Judges U (judged_body scope int [] (block_tree brace (record { trees = items; seats = seats }))) (items_as [] core)
    body_judged scope brace none seats core h =
        let same : no_item ≡ core = ap core_from h.is in
        judges_now U _ _ (ap (λ c. give (items_as [] c)) same)
    body_judged scope brace (more first rest) seats core h = h

    main_judged : (table : Table FileName) (order : List (List ℕ)) (defined : List Defined) (c : Code) (seats : Seats) (behind : PlainTrees) → table (codes "main") ≡ None → IsReady table (main_of c)
        → Judges U (judged_item globals (unit_of numbers table order defined) (main_tree seats (code_trees c (skip 6 seats))) behind)
        (unit_of numbers (with_item table (main_of c)) (order ++ codes "main" ∷ []) (defined ++ definition numbers (main_of c) ∷ []))
    main_judged table order defined c seats behind h k =
        let scope = scope_of numbers (with_item table (main_of c)) (order ++ codes "main" ∷ []) in
        let core = code_of numbers c in
        let inner = code_trees c (skip 6 seats) in
        let body = block_tree (seats 5) inner in
        let sees : Sees Known (with_inner scope) = record { no_local = λ x. refl; objects = k.1; putchar = k.2 } in
        let result = unit_of numbers (with_item table (main_of c)) (order ++ codes "main" ∷ []) (defined ++ definition numbers (main_of c) ∷ []) in
        let end : JudgedItems → Checked UnitState = λ items. give (with_defined (with_scope (unit_of numbers table order defined) scope) (codes "main") (function_body items.slots items.core)) in
        let name = token_of Main (seats 1) in
        let new : Checked (Unit {0}) = unless_so (may_be_function by_none int (table (codes "main"))) Redeclared name in
        let no_parameters : Unit {0} → Checked (List Parameter) = λ is_new. give [] in
        let whole : Scope → Checked UnitState = λ s. judged_body (with_inner s) int [] body >>= (λ items. give (with_defined (with_scope (unit_of numbers table order defined) s) (codes "main") (function_body items.slots items.core))) in
        let of_parameters : List Parameter → Checked UnitState = λ parameters. with_name (scope_of numbers table order) name (function (signature_of int parameters)) by_none
        >>= (λ s. judged_body (with_parameters (with_inner s) 0 parameters) int (parameter_types parameters) body >>= (λ items. give (with_defined (with_scope (unit_of numbers table order defined) s) (codes "main") (function_body items.slots items.core)))) in
        judges_with [] _ result tt (judges_with [] _ result tt (judges_in_function (count_functions defined) _ result
        (judges_with (record { entity = file_entity (codes "main"); in_expression = false } ∷ []) _ result (declared_allowed (codes "main"))
        (judges_with [] _ result tt (judges_then U (new >>= no_parameters) [] of_parameters result
        (judges_then U new tt no_parameters [] (judges_now U _ _ (main_is_new (table (codes "main")) name h)) (judges_now U _ _ refl))
        (judges_then U (with_name (scope_of numbers table order) name (function (record { result = int; parameters = [] })) by_none) scope whole result (judges_now U _ _ (main_named numbers table order c name (table (codes "main")) h))
        (judges_then U (judged_body (with_inner scope) int [] body) (items_as [] core) end result
        (body_judged (with_inner scope) (seats 5) inner.trees inner.seats core (code_judged Known c (with_inner scope) false sees (skip 6 seats) k.0)) (judges_now U _ _ refl))))))))

    items_judged : (table : Table FileName) (order : List (List ℕ)) (defined : List Defined) (items : List Item) (seats : Seats) → AreReady table items
        → Judges U (judged_file_items globals (unit_of numbers table order defined) (item_trees items seats)) (unit_after numbers table order defined items)
    items_judged table order defined [] seats h = judges_now U _ _ refl
    items_judged table order defined (tentative x ∷ rest) seats h =
        judges_then U (judged_item globals (unit_of numbers table order defined) (declaration_tree seats (declarator x (seats 1) ∷ []) (seats 2)) (item_trees rest (skip 3 seats))) _ (λ first. judged_file_items globals first (item_trees rest (skip 3 seats))) _
        (tentative_judged table order defined x seats (item_trees rest (skip 3 seats)) h.0)
        (items_judged (with_item table (tentative x)) (order ++ x ∷ []) (defined ++ definition numbers (tentative x) ∷ []) rest (skip 3 seats) h.2)
    items_judged table order defined (valued x d ∷ rest) seats h =
        judges_then U (judged_item globals (unit_of numbers table order defined) (declaration_tree seats (declarator x (seats 1) ∷ word (Mark 61) (seats 2) ∷ word (Number d) (seats 3) ∷ []) (seats 4)) (item_trees rest (skip 5 seats))) _ (λ first. judged_file_items globals first (item_trees rest (skip 5 seats))) _
        (valued_judged table order defined x d seats (item_trees rest (skip 5 seats)) h.0 h.1)
        (items_judged (with_item table (valued x d)) (order ++ x ∷ []) (defined ++ definition numbers (valued x d) ∷ []) rest (skip 5 seats) h.2)
    items_judged table order defined (main_of c ∷ rest) seats h =
        let others = item_trees rest (skip 1 (code_trees c (skip 6 seats)).seats) in
        judges_then U (judged_item globals (unit_of numbers table order defined) (main_tree seats (code_trees c (skip 6 seats))) others) _ (λ first. judged_file_items globals first others) _
        (main_judged table order defined c seats others h.0 h.1)
        (items_judged (with_item table (main_of c)) (order ++ codes "main" ∷ []) (defined ++ definition numbers (main_of c) ∷ []) rest (skip 1 (code_trees c (skip 6 seats)).seats) h.2)

    file_items_judged : (items : List Item) (seats : Seats) → AreReady first_table items
        → Judges U (judged_file_items globals (unit_start [] numbers) (unit_parts items seats)) (unit_after numbers first_table (codes "putchar" ∷ []) [] items)
    file_items_judged items seats h =
        judges_then U (judged_item globals (unit_start [] numbers) (declaration_tree seats (function_declarator Putchar Int (skip 1 seats) ∷ []) (seats 5)) (item_trees items (skip 6 seats)))
        (unit_of numbers first_table (codes "putchar" ∷ []) []) (λ first. judged_file_items globals first (item_trees items (skip 6 seats))) _
        (record { bindings = record { entity = file_entity (codes "putchar"); in_expression = false } ∷ []; is = refl; allowed = declared_allowed (codes "putchar") })
        (items_judged first_table (codes "putchar" ∷ []) [] items (skip 6 seats) h)

    pub unit_judged : (items : List Item) (seats : Seats) → AreReady first_table items
        → Judges U (judged_unit globals [] numbers (unit_tree items seats)) (unit_after numbers first_table (codes "putchar" ∷ []) [] items)
    unit_judged items seats h =
        let parts = unit_parts items seats in
        let unit = unit_after numbers first_table (codes "putchar" ∷ []) [] items in
        let small = objects_are_small unit.scope numbers first_table (codes "putchar" ∷ []) [] items (entry_is_small unit.scope no_entry (codes "putchar") (as_function (int ∷ [])) refl (λ x. refl)) in
        judges_then U (judged_file_items globals (unit_start [] numbers) parts) unit (λ u. unless_too_big (too_big_in u.scope parts) >>= (λ is_small. give u)) unit
        (file_items_judged items seats h)
        (judges_now U _ _ (ap (λ found. unless_too_big found >>= (λ is_small. give unit)) (none_too_big unit.scope items (skip 6 seats) small)))
