-- What the statements of the quick form are judged to be.
use Rattle.std.proofs.Common.{◌≡◌, inr, ℕ, pos, Bool, true, List, [], ◌∷◌, codes, refl, ◌∙◌, ap, Option, Some, None}
use Rattle.c_text.specs.Token.{PlainToken}
use Rattle.c_types.specs.Types.{int}
use Rattle.c_tree.specs.declared.kinds.Kind.TheVariants as kind
use Rattle.c_tree.specs.Trees.{PlainTree, PlainTrees, leaf, node, none, more, trees}
use Rattle.core_meaning.specs.declared.refusals.TypeKind.TheVariants.{BadOperand, Misplaced}
use Rattle.core_meaning.specs.Program.{PlainExpression, constant, assign, call, global, no_argument, argument, PlainStatement, block, evaluate, loop, return_value, PlainItems, no_item, statement_item}
use Rattle.core_meaning.specs.Checking.{file_entity, Checked, fine, refused, broken, ◌>>=◌, give, uses, unless_so, found_or}
use Rattle.core_meaning.specs.Entities.{Scope, Signature, no_entry}
use Rattle.core_meaning.specs.Typing.{Operand, Typed, fits_into, typed, of_value, of_object, loaded}
use Rattle.core_meaning.specs.Expressions.{Callee, callee, callee_unless_local, callee_of_name, written_place, assignment, judged, valued, judged_condition, condition_value, first_token, passed, judged_arguments, count_entries, may_be_called, result_of_call, unused}
use Rattle.core_meaning.specs.Statements.{Around, Judged, JudgedItems, judged_as, items_as, loop_of, nothing_to_do, expression_statement, returned, judged_statement, judged_items}
use Rattle.quick_form.specs.Symbols.{Putchar, Name, Mark, Return}
use Rattle.quick_form.specs.Form.{Term, operand_symbol}
use Rattle.quick_form.specs.Program as quick
use Rattle.quick_form.specs.Program.{Code}
use Rattle.quick_trees.specs.Tokens.{Seat, Seats, skip, token_of}
use Rattle.quick_trees.specs.UnitTree.{Grown, GrownAll, word, sum_node, terms_tree, sum_tree, block_tree, assignment_tree, output_tree, return_tree, while_tree, code_trees}
use Rattle.quick_trees.proofs.Judging.{Judges, judges_then, judges_now, judges_use, judges_same, sum_core, code_core, Sees, Usable, IsKnownCode, IsInt, int_value, then_value_in, at, putchar, name_is, sum_is}

-- a statement in the body of a function that returns an `int`
abbrev pub inside : Scope → Bool → Around
inside scope in_loop = record { scope = scope; result = int; in_loop = in_loop }

abbrev pub with_inner : Scope → Scope
with_inner scope = record scope { blocks = no_entry ∷ scope.blocks }

-- the tree of a sum is a word or a node of its own kind
abbrev IsSumTree : PlainTree → Type 0
IsSumTree (leaf token) = Unit {0}
IsSumTree (node kind.Sum parts) = Unit {0}
IsSumTree (node other parts) = ⊥

terms_tree_is : (left : PlainTree) (ts : List Term) (seats : Seats) → IsSumTree left → IsSumTree (terms_tree left ts seats).tree
terms_tree_is left [] seats h = h
terms_tree_is left (t ∷ ts) seats h = terms_tree_is (sum_node left t seats) ts (skip 2 seats) tt

abbrev pub core_from : Checked JudgedItems → PlainItems
core_from (fine x bindings) = x.core
core_from (refused kind token) = no_item
core_from broken = no_item

-- a value that is returned as an `int`
abbrev return_of : PlainToken → Typed → Checked PlainStatement
return_of token x = found_or (fits_into int x) Misplaced token >>= (λ core. give (return_value core))

returned_tree : (scope : Scope) (b : Bool) (token : PlainToken) (tree : PlainTree) → IsSumTree tree → returned (inside scope b) token tree ≡ (unless_so true Misplaced token >>= (λ placed. valued scope tree >>= return_of token))
returned_tree scope b token (leaf word) h = refl
returned_tree scope b token (node kind.Sum parts) h = refl
returned_tree scope b token (node other parts) h = absurd h

module _ (Known : List ℕ → Type 0) (scope : Scope) (b : Bool) where
  abbrev U : List ℕ → Type 0
  U = Usable Known

  expression_judged : (tree : PlainTree) (token : PlainToken) (core : PlainExpression) (end : PlainTree)
      → expression_statement scope tree ≡ (valued scope tree >>= (λ x. give (evaluate (unused x.core))))
      → Judges U (judged scope tree) (of_value token int core)
      → Judges U (judged_statement (inside scope b) [] (node kind.ExpressionStatement (trees (tree ∷ end ∷ [])))) (judged_as [] (evaluate (unused core)))
  expression_judged tree token core end e h =
      judges_then U (expression_statement scope tree) (evaluate (unused core)) (λ c. give (judged_as [] c)) (judged_as [] (evaluate (unused core)))
      (judges_same U (expression_statement scope tree) (valued scope tree >>= (λ x. give (evaluate (unused x.core)))) (evaluate (unused core)) e
      (judges_then U (valued scope tree) (typed int core) (λ x. give (evaluate (unused x.core))) (evaluate (unused core))
      (judges_then U (judged scope tree) (of_value token int core) (loaded scope) (typed int core) h (judges_now U _ _ refl)) (judges_now U _ _ refl)))
      (judges_now U _ _ refl)

  block_judged : (brace : Seat) (items : PlainTrees) (seats : Seats) (core : PlainItems) → Judges U (judged_items (inside (with_inner scope) b) [] items) (items_as [] core)
      → Judges U (judged_statement (inside scope b) [] (block_tree brace (record { trees = items; seats = seats }))) (judged_as [] (block core))
  block_judged brace none seats core h =
      let same : no_item ≡ core = ap core_from h.is in
      judges_now U _ _ (ap (λ c. give (judged_as [] (block c))) same)
  block_judged brace (more first rest) seats core h =
      judges_then U (judged_items (inside (with_inner scope) b) [] (more first rest)) (items_as [] core) (λ inner. give (judged_as inner.slots (block inner.core))) (judged_as [] (block core)) h (judges_now U _ _ refl)

  module _ (sees : Sees Known scope) where
    assignment_judged : (x : List ℕ) (seats : Seats) (sum : Grown) (core : PlainExpression) → Known x → IsInt Known scope sum.tree core
        → Judges U (judged_statement (inside scope b) [] (assignment_tree x seats sum)) (judged_as [] (evaluate (assign (global (at Known scope sees x)) core)))
    assignment_judged x seats sum core h k =
        let sign = token_of (Mark 61) (seats 1) in
        let place = global (at Known scope sees x) in
        let left = of_object (token_of (Name x) (seats 0)) int place true in
        expression_judged (node kind.Assignment (trees (word (Name x) (seats 0) ∷ word (Mark 61) (seats 1) ∷ sum.tree ∷ []))) sign (assign place core) (word (Mark 59) (sum.seats 0)) refl
        (judges_then U (judged scope (word (Name x) (seats 0))) left (λ l. written_place scope sign l >>= (λ q. judged scope sum.tree >>= (λ r. loaded scope r >>= assignment scope sign l q))) (of_value sign int (assign place core))
        (name_is Known scope sees x (seats 0) h)
        (judges_then U (written_place scope sign left) place (λ q. judged scope sum.tree >>= (λ r. loaded scope r >>= assignment scope sign left q)) (of_value sign int (assign place core)) (judges_now U _ _ refl)
        (then_value_in Known scope sum.tree core (assignment scope sign left place) (of_value sign int (assign place core)) k (judges_now U _ _ refl))))

    arguments_judged : (tree : PlainTree) (core : PlainExpression) (bracket : PlainToken) → IsInt Known scope tree core
        → Judges U (judged_arguments scope (int ∷ []) (more tree none) bracket) (argument core no_argument)
    arguments_judged tree core bracket k =
        judges_then U (judged scope tree) k.operand (λ operand. passed scope int operand (first_token tree bracket) >>= (λ c. give (argument c no_argument))) (argument core no_argument) k.judges
        (judges_then U (passed scope int k.operand (first_token tree bracket)) core (λ c. give (argument c no_argument)) (argument core no_argument)
        (judges_then U (loaded scope k.operand) (int_value core k.null) _ core k.loads (judges_now U _ _ refl)) (judges_now U _ _ refl))

    callee_is_putchar : (seat : Seat) → callee scope (word Putchar seat) ≡ Some (record { name = token_of Putchar seat; signature = record { result = int; parameters = int ∷ [] } })
    callee_is_putchar seat =
        ap (callee_unless_local scope (token_of Putchar seat)) (sees.no_local (codes "putchar")) ∙ ap (callee_of_name (token_of Putchar seat)) sees.putchar

    -- a call, by what is called
    abbrev call_of : PlainTree → PlainTrees → PlainToken → Option Callee → Checked Operand
    call_of first parts bracket found = elim found as (λ x. Checked Operand) [
      | Some f ↦ (do
        bound ← uses (file_entity f.name.text)
        callable ← may_be_called scope f.signature (count_entries parts) bracket
        arguments ← judged_arguments scope f.signature.parameters parts bracket
        give (result_of_call scope f bracket arguments))
      | None ↦ (do
        operand ← judged scope first
        x ← loaded scope operand
        refused BadOperand bracket)
    ]

    output_judged : (seats : Seats) (sum : Grown) (core : PlainExpression) → IsInt Known scope sum.tree core
        → Judges U (judged_statement (inside scope b) [] (output_tree seats sum)) (judged_as [] (evaluate (call (putchar Known scope sees) (argument core no_argument))))
    output_judged seats sum core k =
        let bracket = token_of (Mark 40) (seats 1) in
        let signature : Signature = record { result = int; parameters = int ∷ [] } in
        let f : Callee = record { name = token_of Putchar (seats 0); signature = signature } in
        let result = of_value bracket int (call (putchar Known scope sees) (argument core no_argument)) in
        let arguments_then : Unit {0} → Checked Operand = λ callable. judged_arguments scope (int ∷ []) (more sum.tree none) bracket >>= (λ arguments. give (result_of_call scope f bracket arguments)) in
        let called : Checked Operand = uses (file_entity (codes "putchar")) >>= (λ bound. may_be_called scope signature (count_entries (more sum.tree none)) bracket >>= arguments_then) in
        expression_judged (node kind.Call (trees (word Putchar (seats 0) ∷ word (Mark 40) (seats 1) ∷ node kind.Arguments (trees (sum.tree ∷ [])) ∷ word (Mark 41) (sum.seats 0) ∷ []))) bracket (call (putchar Known scope sees) (argument core no_argument)) (word (Mark 59) (sum.seats 1)) refl
        (judges_same U _ called result (ap (call_of (word Putchar (seats 0)) (more sum.tree none) bracket) (callee_is_putchar (seats 0)))
        (judges_then U (uses (file_entity (codes "putchar"))) tt (λ bound. may_be_called scope signature (count_entries (more sum.tree none)) bracket >>= arguments_then) result
        (judges_use U (codes "putchar") (inr refl))
        (judges_then U (may_be_called scope signature (count_entries (more sum.tree none)) bracket) tt arguments_then result (judges_now U _ _ refl)
        (judges_then U (judged_arguments scope (int ∷ []) (more sum.tree none) bracket) (argument core no_argument) (λ arguments. give (result_of_call scope f bracket arguments)) result (arguments_judged sum.tree core bracket k) (judges_now U _ _ refl)))))

    returned_is : (tree : PlainTree) (token : PlainToken) (core : PlainExpression) → IsSumTree tree → IsInt Known scope tree core → Judges U (returned (inside scope b) token tree) (return_value core)
    returned_is tree token core shape k =
        judges_same U (returned (inside scope b) token tree) (unless_so true Misplaced token >>= (λ placed. valued scope tree >>= return_of token)) (return_value core) (returned_tree scope b token tree shape)
        (judges_then U (unless_so true Misplaced token) tt (λ placed. valued scope tree >>= return_of token) (return_value core) (judges_now U _ _ refl)
        (judges_then U (valued scope tree) (int_value core k.null) (return_of token) (return_value core)
        (judges_then U (judged scope tree) k.operand (loaded scope) (int_value core k.null) k.judges k.loads) (judges_now U _ _ refl)))

    return_judged : (seats : Seats) (sum : Grown) (core : PlainExpression) → IsSumTree sum.tree → IsInt Known scope sum.tree core
        → Judges U (judged_statement (inside scope b) [] (return_tree seats sum)) (judged_as [] (return_value core))
    return_judged seats sum core shape k =
        judges_then U (returned (inside scope b) (token_of Return (seats 0)) sum.tree) (return_value core) (λ c. give (judged_as [] c)) (judged_as [] (return_value core))
        (returned_is sum.tree (token_of Return (seats 0)) core shape k) (judges_now U _ _ refl)

    condition_judged : (tree : PlainTree) (behind : PlainToken) (core : PlainExpression) → IsInt Known scope tree core → Judges U (judged_condition scope tree behind) core
    condition_judged tree behind core k =
        judges_then U (judged scope tree) k.operand (condition_value scope (first_token tree behind)) core k.judges
        (judges_then U (loaded scope k.operand) (int_value core k.null) _ core k.loads (judges_now U _ _ refl))

with_inner_sees : (Known : List ℕ → Type 0) (scope : Scope) → Sees Known scope → Sees Known (with_inner scope)
with_inner_sees Known scope h = record { no_local = h.no_local; objects = h.objects; putchar = h.putchar }

module _ (Known : List ℕ → Type 0) where
  then_others : (scope : Scope) (b : Bool) (first : Checked Judged) (core : PlainStatement) (rest : PlainTrees) (others : PlainItems)
      → Judges (Usable Known) first (judged_as [] core) → Judges (Usable Known) (judged_items (inside scope b) [] rest) (items_as [] others)
      → Judges (Usable Known) (first >>= (λ x. judged_items (inside scope b) x.slots rest >>= (λ y. give (items_as y.slots (statement_item x.core y.core))))) (items_as [] (statement_item core others))
  then_others scope b first core rest others h k =
      judges_then (Usable Known) first (judged_as [] core) (λ x. judged_items (inside scope b) x.slots rest >>= (λ y. give (items_as y.slots (statement_item x.core y.core)))) (items_as [] (statement_item core others)) h
      (judges_then (Usable Known) (judged_items (inside scope b) [] rest) (items_as [] others) (λ y. give (items_as y.slots (statement_item core y.core))) (items_as [] (statement_item core others)) k (judges_now (Usable Known) _ _ refl))

  while_judged : (scope : Scope) (b : Bool) (sees : Sees Known scope) (seats : Seats) (sum : Grown) (body : GrownAll) (condition : PlainExpression) (core : PlainItems)
      → IsInt Known scope sum.tree condition → Judges (Usable Known) (judged_items (inside (with_inner scope) true) [] body.trees) (items_as [] core)
      → Judges (Usable Known) (judged_statement (inside scope b) [] (while_tree seats sum body)) (judged_as [] (loop true condition (constant (pos 0)) (block core)))
  while_judged scope b sees seats sum body condition core h k =
      let inner = block_tree (sum.seats 1) body in
      judges_then (Usable Known) (judged_condition scope sum.tree (token_of (Mark 41) (sum.seats 0))) condition (λ c. judged_statement (inside scope true) [] inner >>= (λ s. give (loop_of true c nothing_to_do s))) (judged_as [] (loop true condition (constant (pos 0)) (block core)))
      (condition_judged Known scope b sees sum.tree (token_of (Mark 41) (sum.seats 0)) condition h)
      (judges_then (Usable Known) (judged_statement (inside scope true) [] inner) (judged_as [] (block core)) (λ s. give (loop_of true condition nothing_to_do s)) (judged_as [] (loop true condition (constant (pos 0)) (block core)))
      (block_judged Known scope true (sum.seats 1) body.trees body.seats core k) (judges_now (Usable Known) _ _ refl))

  pub code_judged : (c : Code) (scope : Scope) (b : Bool) (sees : Sees Known scope) (seats : Seats) → IsKnownCode Known c
      → Judges (Usable Known) (judged_items (inside scope b) [] (code_trees c seats).trees) (items_as [] (code_core (at Known scope sees) (putchar Known scope sees) c))
  code_judged quick.done scope b sees seats h = judges_now (Usable Known) _ _ refl
  code_judged (quick.assign x s rest) scope b sees seats h =
      let sum = sum_tree s (skip 2 seats) in
      then_others scope b (judged_statement (inside scope b) [] (assignment_tree x seats sum)) (evaluate (assign (global (at Known scope sees x)) (sum_core (at Known scope sees) (putchar Known scope sees) s))) (code_trees rest (skip 1 sum.seats)).trees _
      (assignment_judged Known scope b sees x seats sum (sum_core (at Known scope sees) (putchar Known scope sees) s) h.0 (sum_is Known scope sees s (skip 2 seats) h.1))
      (code_judged rest scope b sees (skip 1 sum.seats) h.2)
  code_judged (quick.put s rest) scope b sees seats h =
      let sum = sum_tree s (skip 2 seats) in
      then_others scope b (judged_statement (inside scope b) [] (output_tree seats sum)) (evaluate (call (putchar Known scope sees) (argument (sum_core (at Known scope sees) (putchar Known scope sees) s) no_argument))) (code_trees rest (skip 2 sum.seats)).trees _
      (output_judged Known scope b sees seats sum (sum_core (at Known scope sees) (putchar Known scope sees) s) (sum_is Known scope sees s (skip 2 seats) h.0))
      (code_judged rest scope b sees (skip 2 sum.seats) h.1)
  code_judged (quick.give s rest) scope b sees seats h =
      let sum = sum_tree s (skip 1 seats) in
      then_others scope b (judged_statement (inside scope b) [] (return_tree seats sum)) (return_value (sum_core (at Known scope sees) (putchar Known scope sees) s)) (code_trees rest (skip 1 sum.seats)).trees _
      (return_judged Known scope b sees seats sum (sum_core (at Known scope sees) (putchar Known scope sees) s) (terms_tree_is (word (operand_symbol s.first) (seats 1)) s.more (skip 2 seats) tt) (sum_is Known scope sees s (skip 1 seats) h.0))
      (code_judged rest scope b sees (skip 1 sum.seats) h.1)
  code_judged (quick.while_ s body rest) scope b sees seats h =
      let sum = sum_tree s (skip 2 seats) in
      let inner = code_trees body (skip 2 sum.seats) in
      then_others scope b (judged_statement (inside scope b) [] (while_tree seats sum inner)) (loop true (sum_core (at Known scope sees) (putchar Known scope sees) s) (constant (pos 0)) (block (code_core (at Known scope sees) (putchar Known scope sees) body))) (code_trees rest (skip 1 inner.seats)).trees _
      (while_judged scope b sees seats sum inner (sum_core (at Known scope sees) (putchar Known scope sees) s) (code_core (at Known scope sees) (putchar Known scope sees) body) (sum_is Known scope sees s (skip 2 seats) h.0)
      (code_judged body (with_inner scope) true (with_inner_sees Known scope sees) (skip 2 sum.seats) h.1))
      (code_judged rest scope b sees (skip 1 inner.seats) h.2)
