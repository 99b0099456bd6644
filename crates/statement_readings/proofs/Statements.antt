-- Statements are judged as they are read.
use Rattle.std.proofs.Common.{◌≡◌, ℕ, Bool, true, false, not, List, [], ◌∷◌, refl, sym, ap, subst, ◌∙◌, IsTrue}
use Rattle.std.specs.Prelude.{if◌then◌else◌}
use Rattle.c_text.specs.Token.{PlainToken}
use Rattle.c_types.specs.Types.{PlainType}
use Rattle.c_tree.specs.declared.kinds.Kind.{Kind}
use Rattle.c_tree.specs.declared.kinds.Kind.TheVariants as k
use Rattle.c_tree.specs.declared.terminals.Terminal.TheVariants as t
use Rattle.c_tree.specs.Trees.{PlainTree, PlainTrees, leaf, node, none, more, absent}
use Rattle.c_tree.specs.Grammar.{Category, expression, statement, else_part, block, items, item, for_start, is_statement}
use Rattle.tree_derivations.specs.Derivations.{Derivation, single, made_of, a_row, one_or_more, at_end, a_word, a_part, left_out, given, Each, no_more, one_more, IsWord}
use Rattle.core_meaning.specs.declared.refusals.TypeKind.TheVariants.{Misplaced}
use Rattle.core_meaning.specs.Program.{PlainExpression, PlainStatement, constant, block, evaluate, loop, return_value, PlainItems, statement_item}
use Rattle.core_meaning.specs.Program as core
use Rattle.core_meaning.specs.Checking.{Checked, fine, refused, broken, ◌>>=◌, give, unless_so, found_or}
use Rattle.core_meaning.specs.Entities.{Scope}
use Rattle.core_meaning.specs.Typing.{Typed, fits_into, loaded, is_scalar_type}
use Rattle.core_meaning.specs.Expressions.{judged, valued, judged_condition, condition_value, first_token, is_void, unused}
use Rattle.core_meaning.specs.Declarations.{judged_locals, with_block}
use Rattle.core_meaning.specs.Statements.{Around, Judged, JudgedItems, judged_as, items_as, before_items, one_item, nothing_to_do, discarded, condition_or_true, expression_statement, returned, judged_statement, judged_else, judged_items}
use Rattle.core_meaning.specs.UnitNames.{judged_body}
use Rattle.choice_trees.specs.ChoiceTrees.{semicolon}
use Rattle.statement_readings.specs.Walks.{State, is_refused, refused_if, use_in, condition, with_locals, leave, expression_refused, expression_read, walk_parts, walk_statement, walk_body}
use Rattle.statement_readings.specs.Walks as walk
use Rattle.statement_readings.specs.Laws.{starting}
use Rattle.statement_readings.proofs.Steps.{none_such, Leaves, IsAt, leaves_then, tested, locals_leave, same_then, same_first, given_on}
use Rattle.statement_readings.proofs.Parts.{parts_stay, word_read, other_read, end_read, close_read, expression_part, statement_node, statement_part}

-- ---- expressions, whatever tokens refusals stand at

scalar_or : (b : Bool) (x : Typed) (first other : PlainToken)
    → is_refused (if b then give x.core else refused Rattle.core_meaning.specs.declared.refusals.TypeKind.TheVariants.BadOperand first)
    ≡ is_refused (if b then give x.core else refused Rattle.core_meaning.specs.declared.refusals.TypeKind.TheVariants.BadOperand other)
scalar_or true x first other = refl
scalar_or false x first other = refl

condition_anywhere : (scope : Scope) (tree : PlainTree) (one other : PlainToken) → is_refused (judged_condition scope tree one) ≡ is_refused (judged_condition scope tree other)
condition_anywhere scope tree one other =
    same_then (judged scope tree) (condition_value scope (first_token tree one)) (condition_value scope (first_token tree other))
    (λ x. same_then (loaded scope x) _ _ (λ y. scalar_or (is_scalar_type y.ty) y (first_token tree one) (first_token tree other)))

placed_anywhere : (b : Bool) (one other : PlainToken) → is_refused (unless_so b Misplaced one) ≡ is_refused (unless_so b Misplaced other)
placed_anywhere true one other = refl
placed_anywhere false one other = refl

found_anywhere : (found : Rattle.std.specs.Prelude.Option PlainExpression) (one other : PlainToken)
    → is_refused (found_or found Misplaced one >>= (λ core. give (return_value core))) ≡ is_refused (found_or found Misplaced other)
found_anywhere Rattle.std.specs.Prelude.None one other = refl
found_anywhere (Rattle.std.specs.Prelude.Some e) one other = refl

module _ (result : PlainType) where
  abbrev around_in : Bool → Scope → Around
  around_in in_loop scope = record { scope = scope; result = result; in_loop = in_loop }

  -- a statement leaves what is visible, and more slots
  abbrev StatementIs : Scope → Checked Judged → State → Type 0
  StatementIs scope m s = Leaves (IsAt (λ j. scope) (λ j. j.slots)) m s

  -- items leave more slots
  abbrev ItemsAre : Checked JudgedItems → State → Type 0
  ItemsAre m s = Leaves (λ j s. (s.refused ≡ false) × (s.slots ≡ j.slots)) m s

  -- ---- expressions that may be left out

  data Perhaps : PlainTree → Type 0 where
    gone : Perhaps absent
    there : {n : ℕ} {tree : PlainTree} → Derivation (expression n) tree → Perhaps tree

  value_read : {n : ℕ} {tree : PlainTree} → Derivation (expression n) tree → (scope : Scope) (otherwise : PlainExpression) → is_refused (valued scope tree) ≡ is_refused (discarded scope tree otherwise)
  value_read {tree = tree} (single is) scope otherwise = sym (given_on (valued scope tree) (λ x. unused x.core))
  value_read (made_of k.Absent b a s) scope otherwise = none_such b
  value_read {tree = tree} (made_of _ b a s) scope otherwise = sym (given_on (valued scope tree) (λ x. unused x.core))

  statement_value : {n : ℕ} {tree : PlainTree} → Derivation (expression n) tree → (scope : Scope) → is_refused (valued scope tree) ≡ is_refused (expression_statement scope tree)
  statement_value {tree = tree} (single is) scope = sym (given_on (valued scope tree) (λ x. evaluate (unused x.core)))
  statement_value (made_of k.Absent b a s) scope = none_such b
  statement_value {tree = tree} (made_of _ b a s) scope = sym (given_on (valued scope tree) (λ x. evaluate (unused x.core)))

  condition_there : {n : ℕ} {tree : PlainTree} → Derivation (expression n) tree → (scope : Scope) (end : PlainToken) → is_refused (judged_condition scope tree semicolon) ≡ is_refused (condition_or_true scope tree end)
  condition_there {tree = tree} (single is) scope end = condition_anywhere scope tree semicolon end
  condition_there (made_of k.Absent b a s) scope end = none_such b
  condition_there {tree = tree} (made_of _ b a s) scope end = condition_anywhere scope tree semicolon end

  abbrev value_in : PlainToken → Scope → PlainTree → Checked PlainStatement
  value_in word scope tree = do
    placed ← unless_so (not (is_void result)) Misplaced word
    x ← valued scope tree
    core ← found_or (fits_into result x) Misplaced word
    give (return_value core)

  value_is : (scope : Scope) (word : PlainToken) (tree : PlainTree) → expression_refused result scope walk.returned tree ≡ is_refused (value_in word scope tree)
  value_is scope word tree =
      same_first (unless_so (not (is_void result)) Misplaced semicolon) (unless_so (not (is_void result)) Misplaced word)
      (λ placed. valued scope tree >>= (λ x. found_or (fits_into result x) Misplaced semicolon))
      (λ placed. valued scope tree >>= (λ x. found_or (fits_into result x) Misplaced word >>= (λ core. give (return_value core))))
      (placed_anywhere (not (is_void result)) semicolon word)
      (λ x y. same_then (valued scope tree) (λ x. found_or (fits_into result x) Misplaced semicolon) (λ x. found_or (fits_into result x) Misplaced word >>= (λ core. give (return_value core)))
      (λ x. sym (found_anywhere (fits_into result x) word semicolon)))

  value_returned : {n : ℕ} {tree : PlainTree} → Derivation (expression n) tree → (in_loop : Bool) (scope : Scope) (word : PlainToken)
      → expression_refused result scope walk.returned tree ≡ is_refused (returned (around_in in_loop scope) word tree)
  value_returned {tree = tree} (single s) in_loop scope word = value_is scope word tree
  value_returned (made_of k.Absent b a s) in_loop scope word = none_such b
  value_returned {tree = tree} (made_of _ b a s) in_loop scope word = value_is scope word tree

  -- a part that may be left out, in a node that isn't a `return`
  perhaps_discarded : {tree : PlainTree} → Perhaps tree → (in_loop : Bool) (rest : PlainTrees) (scope : Scope) (slots : List PlainType) (otherwise : PlainExpression) → {B : Type 0} (P : B → State → Type 0) (n : PlainExpression → Checked B)
      → ((x : PlainExpression) → Leaves P (n x) (walk_parts result in_loop k.For true rest (starting scope slots))) → Leaves P (discarded scope tree otherwise >>= n) (walk_parts result in_loop k.For true (more tree rest) (starting scope slots))
  perhaps_discarded gone in_loop rest scope slots otherwise P n each =
      leaves_then (λ x. scope) (λ x. slots) P (give otherwise) n (walk_parts result in_loop k.For true rest) (parts_stay result in_loop k.For true rest) (starting scope slots) refl each
  perhaps_discarded {tree = tree} (there d) in_loop rest scope slots otherwise P n each =
      subst (Leaves P (discarded scope tree otherwise >>= n)) (sym (expression_part result d in_loop k.For true rest (starting scope slots)))
      (leaves_then (λ x. scope) (λ x. slots) P (discarded scope tree otherwise) n (walk_parts result in_loop k.For true rest) (parts_stay result in_loop k.For true rest) _
      (tested scope slots (discarded scope tree otherwise) _ (value_read d scope otherwise)) each)

  perhaps_condition : {tree : PlainTree} → Perhaps tree → (in_loop : Bool) (rest : PlainTrees) (scope : Scope) (slots : List PlainType) (end : PlainToken) → {B : Type 0} (P : B → State → Type 0) (n : PlainExpression → Checked B)
      → ((x : PlainExpression) → Leaves P (n x) (walk_parts result in_loop k.For false rest (starting scope slots))) → Leaves P (condition_or_true scope tree end >>= n) (walk_parts result in_loop k.For false (more tree rest) (starting scope slots))
  perhaps_condition gone in_loop rest scope slots end P n each =
      leaves_then (λ x. scope) (λ x. slots) P (give (constant (Rattle.std.specs.Prelude.pos 1))) n (walk_parts result in_loop k.For false rest) (parts_stay result in_loop k.For false rest) (starting scope slots) refl each
  perhaps_condition {tree = tree} (there d) in_loop rest scope slots end P n each =
      subst (Leaves P (condition_or_true scope tree end >>= n)) (sym (expression_part result d in_loop k.For false rest (starting scope slots)))
      (leaves_then (λ x. scope) (λ x. slots) P (condition_or_true scope tree end) n (walk_parts result in_loop k.For false rest) (parts_stay result in_loop k.For false rest) _
      (tested scope slots (condition_or_true scope tree end) _ (condition_there d scope end)) each)

  -- ---- one step after another

  step_then :
      {A B : Type 0} (f : A → Scope) (g : A → List PlainType) (P : B → State → Type 0) (m : Checked A) (n : A → Checked B) (in_loop : Bool) (kind : Kind) (turned : Bool) (rest : PlainTrees)
      (s whole : State) → whole ≡ walk_parts result in_loop kind turned rest s → Leaves (IsAt f g) m s
      → ((x : A) → Leaves P (n x) (walk_parts result in_loop kind turned rest (starting (f x) (g x)))) → Leaves P (m >>= n) whole
  step_then f g P m n in_loop kind turned rest s whole e here each =
      subst (Leaves P (m >>= n)) (sym e) (leaves_then f g P m n (walk_parts result in_loop kind turned rest) (parts_stay result in_loop kind turned rest) s here each)

  condition_then :
      {n : ℕ} {tree : PlainTree} → Derivation (expression n) tree → (kind : Kind) → use_in kind false ≡ condition → (in_loop : Bool) (rest : PlainTrees) (scope : Scope) (slots : List PlainType) (close : PlainToken)
      {B : Type 0} (P : B → State → Type 0) (next : PlainExpression → Checked B) → ((x : PlainExpression) → Leaves P (next x) (walk_parts result in_loop kind false rest (starting scope slots)))
      → Leaves P (judged_condition scope tree close >>= next) (walk_parts result in_loop kind false (more tree rest) (starting scope slots))
  condition_then {tree = tree} d kind e in_loop rest scope slots close P next each =
      step_then (λ x. scope) (λ x. slots) P (judged_condition scope tree close) next in_loop kind false rest (expression_read result kind false tree (starting scope slots)) _
      (expression_part result d in_loop kind false rest (starting scope slots))
      (tested scope slots (judged_condition scope tree close) (expression_refused result scope (use_in kind false) tree)
      (ap (λ u. expression_refused result scope u tree) e ∙ condition_anywhere scope tree semicolon close)) each

  abbrev StatementsAre : Bool → PlainTree → Type 0
  StatementsAre in_loop tree = (scope : Scope) (slots : List PlainType) → StatementIs scope (judged_statement (around_in in_loop scope) slots tree) (walk_statement result in_loop tree (starting scope slots))

  body_then :
      {tree : PlainTree} → Derivation statement tree → (in_loop : Bool) → StatementsAre in_loop tree → (kind : Kind) (turned : Bool) (rest : PlainTrees) (scope : Scope) (slots : List PlainType)
      {B : Type 0} (P : B → State → Type 0) (next : Judged → Checked B) → ((j : Judged) → Leaves P (next j) (walk_parts result in_loop kind turned rest (starting scope j.slots)))
      → Leaves P (judged_statement (around_in in_loop scope) slots tree >>= next) (walk_parts result in_loop kind turned (more tree rest) (starting scope slots))
  body_then {tree = tree} d in_loop is kind turned rest scope slots P next each =
      step_then (λ j. scope) (λ j. j.slots) P (judged_statement (around_in in_loop scope) slots tree) next in_loop kind turned rest (walk_statement result in_loop tree (starting scope slots)) _
      (statement_part result d in_loop kind turned rest (starting scope slots)) (is scope slots) each

  -- ---- kinds of statements, where their parts are read so

  abbrev ElseIs : Bool → PlainTree → Type 0
  ElseIs in_loop tree = (scope : Scope) (slots : List PlainType) → StatementIs scope (judged_else (around_in in_loop scope) slots tree) (walk_parts result in_loop k.If false (more tree none) (starting scope slots))

  if_is :
      (word bracket close : PlainToken) (second : PlainTree) {n : ℕ} {test first : PlainTree} → IsWord (t.If ∷ []) word → IsWord (t.OpenParenthesis ∷ []) bracket → IsWord (t.CloseParenthesis ∷ []) close
      → Derivation (expression n) test → Derivation statement first → (in_loop : Bool) → StatementsAre in_loop first → ElseIs in_loop second
      → StatementsAre in_loop (node k.If (more (leaf word) (more (leaf bracket) (more test (more (leaf close) (more first (more second none)))))))
  if_is word bracket close second {test = test} {first = first} w v u d e in_loop one two scope slots =
      subst (StatementIs scope _)
      (sym (word_read result (t.If ∷ []) (refl, tt) in_loop k.If false word (more (leaf bracket) (more test (more (leaf close) (more first (more second none))))) w (λ token. refl) (starting scope slots) refl
      ∙ word_read result (t.OpenParenthesis ∷ []) (refl, tt) in_loop k.If false bracket (more test (more (leaf close) (more first (more second none)))) v (λ token. refl) (starting scope slots) refl))
      (condition_then d k.If refl in_loop (more (leaf close) (more first (more second none))) scope slots close (IsAt (λ (j : Judged). scope) (λ j. j.slots)) _
      (λ c. subst (StatementIs scope _)
      (sym (word_read result (t.CloseParenthesis ∷ []) (refl, tt) in_loop k.If false close (more first (more second none)) u (λ token. refl) (starting scope slots) refl))
      (body_then e in_loop one k.If false (more second none) scope slots (IsAt (λ (j : Judged). scope) (λ j. j.slots)) _
      (λ a. leaves_then (λ j. scope) (λ j. j.slots) (IsAt (λ (j : Judged). scope) (λ j. j.slots)) (judged_else (around_in in_loop scope) a.slots second) _ (λ s. s) (λ s h. h) _ (two scope a.slots) (λ b. refl)))))

  while_is :
      (word bracket close : PlainToken) {n : ℕ} {test body : PlainTree} → IsWord (t.While ∷ []) word → IsWord (t.OpenParenthesis ∷ []) bracket → IsWord (t.CloseParenthesis ∷ []) close
      → Derivation (expression n) test → Derivation statement body → (in_loop : Bool) → StatementsAre true body
      → StatementsAre in_loop (node k.While (more (leaf word) (more (leaf bracket) (more test (more (leaf close) (more body none))))))
  while_is word bracket close {test = test} {body = body} w v u d e in_loop one scope slots =
      subst (StatementIs scope _)
      (sym (word_read result (t.While ∷ []) (refl, tt) true k.While false word (more (leaf bracket) (more test (more (leaf close) (more body none)))) w (λ token. refl) (starting scope slots) refl
      ∙ word_read result (t.OpenParenthesis ∷ []) (refl, tt) true k.While false bracket (more test (more (leaf close) (more body none))) v (λ token. refl) (starting scope slots) refl))
      (condition_then d k.While refl true (more (leaf close) (more body none)) scope slots close (IsAt (λ (j : Judged). scope) (λ j. j.slots)) _
      (λ c. subst (StatementIs scope _)
      (sym (word_read result (t.CloseParenthesis ∷ []) (refl, tt) true k.While false close (more body none) u (λ token. refl) (starting scope slots) refl))
      (body_then e true one k.While false none scope slots (IsAt (λ (j : Judged). scope) (λ j. j.slots)) _ (λ a. refl))))

  do_is :
      (word again bracket close end : PlainToken) {n : ℕ} {test body : PlainTree} → IsWord (t.Do ∷ []) word → IsWord (t.While ∷ []) again → IsWord (t.OpenParenthesis ∷ []) bracket
      → IsWord (t.CloseParenthesis ∷ []) close → IsWord (t.Semicolon ∷ []) end → Derivation (expression n) test → Derivation statement body → (in_loop : Bool) → StatementsAre true body
      → StatementsAre in_loop (node k.Do (more (leaf word) (more body (more (leaf again) (more (leaf bracket) (more test (more (leaf close) (more (leaf end) none))))))))
  do_is word again bracket close end {test = test} {body = body} w x v u y d e in_loop one scope slots =
      subst (StatementIs scope _)
      (sym (word_read result (t.Do ∷ []) (refl, tt) true k.Do false word (more body (more (leaf again) (more (leaf bracket) (more test (more (leaf close) (more (leaf end) none)))))) w (λ token. refl) (starting scope slots) refl))
      (body_then e true one k.Do false (more (leaf again) (more (leaf bracket) (more test (more (leaf close) (more (leaf end) none))))) scope slots (IsAt (λ (j : Judged). scope) (λ j. j.slots)) _
      (λ a. subst (StatementIs scope _)
      (sym (word_read result (t.While ∷ []) (refl, tt) true k.Do false again (more (leaf bracket) (more test (more (leaf close) (more (leaf end) none)))) x (λ token. refl) (starting scope a.slots) refl
      ∙ word_read result (t.OpenParenthesis ∷ []) (refl, tt) true k.Do false bracket (more test (more (leaf close) (more (leaf end) none))) v (λ token. refl) (starting scope a.slots) refl))
      (condition_then d k.Do refl true (more (leaf close) (more (leaf end) none)) scope a.slots close (IsAt (λ (j : Judged). scope) (λ j. j.slots)) _
      (λ c. word_read result (t.CloseParenthesis ∷ []) (refl, tt) true k.Do false close (more (leaf end) none) u (λ token. refl) (starting scope a.slots) refl
      ∙ word_read result (t.Semicolon ∷ []) (refl, tt) true k.Do false end none y (λ token. refl) (starting scope a.slots) refl))))

  -- behind a `for` the scope around it is visible again
  abbrev Outside : Scope → List PlainType → Judged → State → Type 0
  Outside outer slots j s = leave (starting outer slots) s ≡ starting outer j.slots

  -- what stands behind the head of a `for`
  abbrev behind : PlainTree → PlainToken → PlainTree → PlainToken → PlainTree → PlainTrees
  behind test end step close body = more test (more (leaf end) (more step (more (leaf close) (more body none))))

  -- the same, in the scope of its declaration
  for_rest_is :
      (end close : PlainToken) {test step body : PlainTree} → IsWord (t.Semicolon ∷ []) end → IsWord (t.CloseParenthesis ∷ []) close → Perhaps test → Perhaps step → Derivation statement body
      → StatementsAre true body → (scope outer : Scope) (slots : List PlainType) (made : PlainExpression → PlainExpression → Judged → Judged) → ((c s : PlainExpression) (b : Judged) → (made c s b).slots ≡ b.slots)
      → Leaves (Outside outer slots)
      (do
        c ← condition_or_true scope test end
        s ← discarded scope step nothing_to_do
        b ← judged_statement (around_in true scope) slots body
        give (made c s b))
      (walk_parts result true k.For false (more test (more (leaf end) (more step (more (leaf close) (more body none))))) (starting scope slots))
  for_rest_is end close {test = test} {step = step} {body = body} y u p q e one scope outer slots made keeps =
      perhaps_condition p true (more (leaf end) (more step (more (leaf close) (more body none)))) scope slots end (Outside outer slots) _
      (λ c. subst (Leaves (Outside outer slots) _) (sym (end_read result true end (more step (more (leaf close) (more body none))) y (starting scope slots)))
      (perhaps_discarded q true (more (leaf close) (more body none)) scope slots nothing_to_do (Outside outer slots) _
      (λ s. subst (Leaves (Outside outer slots) _) (sym (close_read result true close (more body none) u (starting scope slots)))
      (body_then e true one k.For true none scope slots (Outside outer slots) _ (λ b. ap (starting outer) (sym (keeps c s b)))))))

  out_of :
      (outer : Scope) (slots : List PlainType) (m : Checked Judged) (t : State) → Leaves (Outside outer slots) m t
      → StatementIs outer m (leave (starting outer slots) t)
  out_of outer slots (fine j bindings) t h = h
  out_of outer slots (refused kind token) t h = h
  out_of outer slots broken t h = h

  -- an expression whose value isn't used, or nothing, and a `;`
  start_leaves :
      (kind : Kind) → ((scope : Scope) (tree : PlainTree) → expression_refused result scope (use_in kind false) tree ≡ is_refused (valued scope tree)) → ((s : State) → walk.left_out result kind s ≡ s) → ((token : PlainToken) → walk.turns kind token ≡ false)
      → {tree : PlainTree} (end : PlainToken) → IsWord (t.Semicolon ∷ []) end → Perhaps tree → (in_loop : Bool) (scope : Scope) (slots : List PlainType)
      → Leaves (IsAt (λ x. scope) (λ x. slots)) (expression_statement scope tree) (walk_parts result in_loop kind false (more tree (more (leaf end) none)) (starting scope slots))
  start_leaves kind uses nothing still end y gone in_loop scope slots =
      ap (walk_parts result in_loop kind false (more (leaf end) none)) (nothing (starting scope slots))
      ∙ word_read result (t.Semicolon ∷ []) (refl, tt) in_loop kind false end none y still (starting scope slots) refl
  start_leaves kind uses nothing still {tree = tree} end y (there d) in_loop scope slots =
      subst (Leaves (IsAt (λ x. scope) (λ x. slots)) (expression_statement scope tree))
      (sym (expression_part result d in_loop kind false (more (leaf end) none) (starting scope slots)
      ∙ word_read result (t.Semicolon ∷ []) (refl, tt) in_loop kind false end none y still (expression_read result kind false tree (starting scope slots)) refl))
      (tested scope slots (expression_statement scope tree) (expression_refused result scope (use_in kind false) tree) (uses scope tree ∙ statement_value d scope))

  outside_again : (outer : Scope) (slots l : List PlainType) (m : Checked Judged) (t : State) → Leaves (Outside outer l) m t → Leaves (Outside outer slots) m t
  outside_again outer slots l (fine j bindings) t h = h
  outside_again outer slots l (refused kind token) t h = h
  outside_again outer slots l broken t h = h

  for_declared :
      (word bracket end close : PlainToken) (parts : PlainTrees) {test step body : PlainTree} → IsWord (t.For ∷ []) word → IsWord (t.OpenParenthesis ∷ []) bracket → IsWord (t.Semicolon ∷ []) end
      → IsWord (t.CloseParenthesis ∷ []) close → Perhaps test → Perhaps step → Derivation statement body → (in_loop : Bool) → StatementsAre true body
      → StatementsAre in_loop (node k.For (more (leaf word) (more (leaf bracket) (more (node k.LocalDeclaration parts) (more test (more (leaf end) (more step (more (leaf close) (more body none)))))))))
  for_declared word bracket end close parts {test = test} {step = step} {body = body} w v y u p q e in_loop one scope slots =
      out_of scope slots _ _
      (subst (Leaves (Outside scope slots) _)
      (sym (other_read result (t.For ∷ []) (refl, tt) (refl, tt) true word (more (leaf bracket) (more (node k.LocalDeclaration parts) (behind test end step close body))) w (starting scope slots)
      ∙ other_read result (t.OpenParenthesis ∷ []) (refl, tt) (refl, tt) true bracket (more (node k.LocalDeclaration parts) (behind test end step close body)) v (starting scope slots)))
      (step_then (λ l. l.scope) (λ l. l.slots) (Outside scope slots) (judged_locals (with_block scope) slots parts) _ true k.For false (behind test end step close body) (with_locals (starting scope slots) (judged_locals (with_block scope) slots parts)) _ refl
      (locals_leave scope slots (judged_locals (with_block scope) slots parts))
      (λ l. outside_again scope slots l.slots _ _ (for_rest_is end close y u p q e one l.scope scope l.slots (λ c s b. judged_as b.slots (block (before_items l.items (one_item (loop true c s b.core))))) (λ c s b. refl)))))

  for_started :
      (word bracket first_end end close : PlainToken) {first test step body : PlainTree} → IsWord (t.For ∷ []) word → IsWord (t.OpenParenthesis ∷ []) bracket → IsWord (t.Semicolon ∷ []) first_end
      → IsWord (t.Semicolon ∷ []) end → IsWord (t.CloseParenthesis ∷ []) close → Perhaps first → Perhaps test → Perhaps step → Derivation statement body → (in_loop : Bool) → StatementsAre true body
      → StatementsAre in_loop (node k.For (more (leaf word) (more (leaf bracket) (more (node k.ForStart (more first (more (leaf first_end) none))) (more test (more (leaf end) (more step (more (leaf close) (more body none)))))))))
  for_started word bracket first_end end close {first = first} {test = test} {step = step} {body = body} w v x y u r p q e in_loop one scope slots =
      out_of scope slots _ _
      (subst (Leaves (Outside scope slots) _)
      (sym (other_read result (t.For ∷ []) (refl, tt) (refl, tt) true word (more (leaf bracket) (more (node k.ForStart (more first (more (leaf first_end) none))) (behind test end step close body))) w (starting scope slots)
      ∙ other_read result (t.OpenParenthesis ∷ []) (refl, tt) (refl, tt) true bracket (more (node k.ForStart (more first (more (leaf first_end) none))) (behind test end step close body)) v (starting scope slots)))
      (step_then (λ x. scope) (λ x. slots) (Outside scope slots) (expression_statement scope first) _ true k.For false (behind test end step close body) (walk_parts result true k.ForStart false (more first (more (leaf first_end) none)) (starting scope slots)) _ refl
      (start_leaves k.ForStart (λ scope tree. refl) (λ s. refl) (λ token. refl) first_end x r true scope slots)
      (λ start. for_rest_is end close y u p q e one scope scope slots (λ c s b. judged_as b.slots (block (statement_item start (one_item (loop true c s b.core))))) (λ c s b. refl))))

  expression_is :
      (end : PlainToken) {tree : PlainTree} → IsWord (t.Semicolon ∷ []) end → Perhaps tree → (in_loop : Bool) → StatementsAre in_loop (node k.ExpressionStatement (more tree (more (leaf end) none)))
  expression_is end {tree = tree} y p in_loop scope slots =
      leaves_then (λ x. scope) (λ x. slots) (IsAt (λ (j : Judged). scope) (λ j. j.slots)) (expression_statement scope tree) _ (λ s. s) (λ s h. h) _
      (start_leaves k.ExpressionStatement (λ scope tree. refl) (λ s. refl) (λ token. refl) end y p in_loop scope slots) (λ x. refl)

  jump_is : (word end : PlainToken) (in_loop : Bool) → StatementsAre in_loop (node k.Jump (more (leaf word) (more (leaf end) none)))
  jump_is word end true scope slots = refl
  jump_is word end false scope slots = refl

  returned_nothing : (b : Bool) (word : PlainToken) → not b ≡ is_refused (unless_so b Misplaced word >>= (λ placed. give core.return_nothing))
  returned_nothing true word = refl
  returned_nothing false word = refl

  return_is :
      (word end : PlainToken) {tree : PlainTree} → IsWord (t.Return ∷ []) word → IsWord (t.Semicolon ∷ []) end → Perhaps tree → (in_loop : Bool)
      → StatementsAre in_loop (node k.Return (more (leaf word) (more tree (more (leaf end) none))))
  return_is word end {tree = tree} w y p in_loop scope slots =
      subst (StatementIs scope _) (sym (word_read result (t.Return ∷ []) (refl, tt) in_loop k.Return false word (more tree (more (leaf end) none)) w (λ token. refl) (starting scope slots) refl))
      (leaves_then (λ x. scope) (λ x. slots) (IsAt (λ (j : Judged). scope) (λ j. j.slots)) (returned (around_in in_loop scope) word tree) _ (λ s. s) (λ s h. h) _ (here p) (λ x. refl))
    where
      here : {tree : PlainTree} → Perhaps tree → Leaves (IsAt (λ x. scope) (λ x. slots)) (returned (around_in in_loop scope) word tree) (walk_parts result in_loop k.Return false (more tree (more (leaf end) none)) (starting scope slots))
      here gone =
          subst (Leaves (IsAt (λ x. scope) (λ x. slots)) (returned (around_in in_loop scope) word absent))
          (sym (word_read result (t.Semicolon ∷ []) (refl, tt) in_loop k.Return false end none y (λ token. refl) (refused_if (not (is_void result)) (starting scope slots)) refl))
          (tested scope slots (returned (around_in in_loop scope) word absent) (not (is_void result)) (returned_nothing (is_void result) word))
      here {tree = tree} (there d) =
          subst (Leaves (IsAt (λ x. scope) (λ x. slots)) (returned (around_in in_loop scope) word tree))
          (sym (expression_part result d in_loop k.Return false (more (leaf end) none) (starting scope slots)
          ∙ word_read result (t.Semicolon ∷ []) (refl, tt) in_loop k.Return false end none y (λ token. refl) (expression_read result k.Return false tree (starting scope slots)) refl))
          (tested scope slots (returned (around_in in_loop scope) word tree) (expression_refused result scope walk.returned tree) (value_returned d in_loop scope word))

  -- ---- blocks

  item_judged :
      (inner : Kind) (parts rest : PlainTrees) (around : Around) (slots : List PlainType) → is_statement inner ≡ true
      → judged_items around slots (more (node inner parts) rest)
      ≡ (judged_statement around slots (node inner parts) >>= (λ first. judged_items around first.slots rest >>= (λ others. give (items_as others.slots (statement_item first.core others.core)))))
  item_judged k.LocalDeclaration parts rest around slots h = none_such h
  item_judged _ parts rest around slots h = refl

  block_of :
      (open_ close : PlainToken) (list : PlainTrees) → IsWord (t.OpenBrace ∷ []) open_ → IsWord (t.CloseBrace ∷ []) close → (in_loop : Bool) (scope : Scope) (slots : List PlainType)
      → ItemsAre (judged_items (around_in in_loop (with_block scope)) slots list) (walk_parts result in_loop k.Items false list (starting (with_block scope) slots))
      → StatementIs scope (judged_statement (around_in in_loop scope) slots (node k.Block (more (leaf open_) (more (node k.Items list) (more (leaf close) none)))))
      (walk_statement result in_loop (node k.Block (more (leaf open_) (more (node k.Items list) (more (leaf close) none)))) (starting scope slots))
  block_of open_ close list w v in_loop scope slots h =
      subst (λ s. StatementIs scope (judged_statement (around_in in_loop scope) slots (node k.Block (more (leaf open_) (more (node k.Items list) (more (leaf close) none))))) (leave (starting scope slots) s))
      (sym (word_read result (t.OpenBrace ∷ []) (refl, tt) in_loop k.Block false open_ (more (node k.Items list) (more (leaf close) none)) w (λ token. refl) (starting (with_block scope) slots) refl
      ∙ word_read result (t.CloseBrace ∷ []) (refl, tt) in_loop k.Block false close none v (λ token. refl) (walk_parts result in_loop k.Items false list (starting (with_block scope) slots)) refl))
      (by (judged_items (around_in in_loop (with_block scope)) slots list) (walk_parts result in_loop k.Items false list (starting (with_block scope) slots)) h)
    where
      by : (m : Checked JudgedItems) (s : State) → ItemsAre m s → StatementIs scope (m >>= (λ inner. give (judged_as inner.slots (block inner.core)))) (leave (starting scope slots) s)
      by (fine j bindings) s h = ap (λ (l : List PlainType). record { scope = scope; slots = l; refused = s.refused }) h.1 ∙ ap (λ r. record { scope = scope; slots = j.slots; refused = r }) h.0
      by (refused kind token) s h = h
      by broken s h = h

  block_empty :
      (open_ close : PlainToken) → IsWord (t.OpenBrace ∷ []) open_ → IsWord (t.CloseBrace ∷ []) close → (in_loop : Bool) → StatementsAre in_loop (node k.Block (more (leaf open_) (more absent (more (leaf close) none))))
  block_empty open_ close w v in_loop scope slots =
      ap (leave (starting scope slots))
      (word_read result (t.OpenBrace ∷ []) (refl, tt) in_loop k.Block false open_ (more absent (more (leaf close) none)) w (λ token. refl) (starting (with_block scope) slots) refl
      ∙ word_read result (t.CloseBrace ∷ []) (refl, tt) in_loop k.Block false close none v (λ token. refl) (starting (with_block scope) slots) refl)

  no_else : (in_loop : Bool) → ElseIs in_loop absent
  no_else in_loop scope slots = refl

  else_is : (word : PlainToken) {tree : PlainTree} → IsWord (t.Else ∷ []) word → Derivation statement tree → (in_loop : Bool) → StatementsAre in_loop tree → ElseIs in_loop (node k.Else (more (leaf word) (more tree none)))
  else_is word {tree = tree} w d in_loop one scope slots =
      subst (StatementIs scope _)
      (sym (word_read result (t.Else ∷ []) (refl, tt) in_loop k.Else false word (more tree none) w (λ token. refl) (starting scope slots) refl ∙ statement_part result d in_loop k.Else false none (starting scope slots)))
      (one scope slots)

  given_items : (core_of : JudgedItems → PlainItems) (m : Checked JudgedItems) (s : State) → ItemsAre m s → ItemsAre (m >>= (λ others. give (items_as others.slots (core_of others)))) s
  given_items core_of (fine j bindings) s h = h
  given_items core_of (refused kind token) s h = h
  given_items core_of broken s h = h

  abbrev is_statement_tree : PlainTree → Bool
  is_statement_tree (leaf token) = false
  is_statement_tree (node kind parts) = is_statement kind

  statement_tree : {tree : PlainTree} → Derivation statement tree → IsTrue (is_statement_tree tree)
  statement_tree (single is) = none_such is
  statement_tree (made_of inner b a s) = b

  -- an item, and the items behind it
  abbrev FirstIs : Bool → PlainTree → PlainTrees → Type 0
  FirstIs in_loop tree rest =
      (scope : Scope) (slots : List PlainType) → ItemsAre (judged_items (around_in in_loop scope) slots (more tree rest)) (walk_parts result in_loop k.Items false (more tree rest) (starting scope slots))

  abbrev RestIs : Bool → PlainTrees → Type 0
  RestIs in_loop rest = (scope : Scope) (slots : List PlainType) → ItemsAre (judged_items (around_in in_loop scope) slots rest) (walk_parts result in_loop k.Items false rest (starting scope slots))

  statement_first : (inner : Kind) (parts rest : PlainTrees) → is_statement inner ≡ true → (in_loop : Bool) → StatementsAre in_loop (node inner parts) → RestIs in_loop rest → FirstIs in_loop (node inner parts) rest
  statement_first inner parts rest h in_loop one others scope slots =
      subst (λ m. ItemsAre m (walk_parts result in_loop k.Items false (more (node inner parts) rest) (starting scope slots))) (sym (item_judged inner parts rest (around_in in_loop scope) slots h))
      (step_then (λ j. scope) (λ j. j.slots) (λ j s. (s.refused ≡ false) × (s.slots ≡ j.slots)) (judged_statement (around_in in_loop scope) slots (node inner parts)) _ in_loop k.Items false rest
      (walk_statement result in_loop (node inner parts) (starting scope slots)) _ (statement_node result in_loop k.Items false inner parts rest (starting scope slots) h)
      (one scope slots) (λ j. given_items (λ others. statement_item j.core others.core) _ _ (others scope j.slots)))

  declaration_first : (parts rest : PlainTrees) (in_loop : Bool) → RestIs in_loop rest → FirstIs in_loop (node k.LocalDeclaration parts) rest
  declaration_first parts rest in_loop others scope slots =
      step_then (λ l. l.scope) (λ l. l.slots) (λ j s. (s.refused ≡ false) × (s.slots ≡ j.slots)) (judged_locals scope slots parts) _ in_loop k.Items false rest (with_locals (starting scope slots) (judged_locals scope slots parts)) _ refl
      (locals_leave scope slots (judged_locals scope slots parts)) (λ l. given_items (λ others. before_items l.items others.core) _ _ (others l.scope l.slots))

  item_first : {tree : PlainTree} (rest : PlainTrees) → Derivation item tree → (in_loop : Bool) → (IsTrue (is_statement_tree tree) → StatementsAre in_loop tree) → RestIs in_loop rest → FirstIs in_loop tree rest
  item_first rest (single is) in_loop one others = none_such is
  item_first rest (made_of k.LocalDeclaration {parts = parts} b a s) in_loop one others = declaration_first parts rest in_loop others
  item_first rest (made_of inner {parts = parts} b a s) in_loop one others = statement_first inner parts rest b in_loop (one b) others

  -- ---- statements, by how they are derived

  mutual
    statement_is : {category : Category} {tree : PlainTree} → Derivation category tree → IsTrue (is_statement_tree tree) → (in_loop : Bool) → StatementsAre in_loop tree
    statement_is (single is) h in_loop = none_such h
    statement_is (made_of k.Block b a (a_row (a_word {token = open_} w (given (made_of k.Items {parts = list} c f (one_or_more each any)) (a_word {token = close} v at_end))))) h in_loop =
        λ scope slots. block_of open_ close list w v in_loop scope slots (items_are each in_loop (with_block scope) slots)
    statement_is (made_of k.Block b a (a_row (a_word w (given (single is) row_)))) h in_loop = none_such is
    statement_is (made_of k.Block b a (a_row (a_word w (given (made_of _ c f s) row_)))) h in_loop = none_such c
    statement_is (made_of k.Block b a (a_row (a_word {token = open_} w (left_out (a_word {token = close} v at_end))))) h in_loop = block_empty open_ close w v in_loop
    statement_is (made_of k.ExpressionStatement b a (a_row (given d (a_word {token = end} y at_end)))) h in_loop = expression_is end y (there d) in_loop
    statement_is (made_of k.ExpressionStatement b a (a_row (left_out (a_word {token = end} y at_end)))) h in_loop = expression_is end y gone in_loop
    statement_is (made_of k.If b a (a_row (a_word {token = word} w (a_word {token = bracket} v (a_part d (a_word {token = close} u (a_part e (left_out at_end)))))))) h in_loop =
        if_is word bracket close absent w v u d e in_loop (statement_is e (statement_tree e) in_loop) (no_else in_loop)
    statement_is (made_of k.If b a (a_row (a_word {token = word} w (a_word {token = bracket} v (a_part d (a_word {token = close} u (a_part e (given {tree = second} f at_end)))))))) h in_loop =
        if_is word bracket close second w v u d e in_loop (statement_is e (statement_tree e) in_loop) (else_part_is f in_loop)
    statement_is (made_of k.While b a (a_row (a_word {token = word} w (a_word {token = bracket} v (a_part d (a_word {token = close} u (a_part e at_end))))))) h in_loop =
        while_is word bracket close w v u d e in_loop (statement_is e (statement_tree e) true)
    statement_is (made_of k.Do b a (a_row (a_word {token = word} w (a_part e (a_word {token = again} x (a_word {token = bracket} v (a_part d (a_word {token = close} u (a_word {token = end} y at_end))))))))) h in_loop =
        do_is word again bracket close end w x v u y d e in_loop (statement_is e (statement_tree e) true)
    statement_is (made_of k.For b a (a_row (a_word {token = word} w (a_word {token = bracket} v (a_part f (given d (a_word {token = end} y (given g (a_word {token = close} u (a_part e at_end)))))))))) h in_loop =
        for_is word bracket end close f w v y u (there d) (there g) e in_loop (statement_is e (statement_tree e) true)
    statement_is (made_of k.For b a (a_row (a_word {token = word} w (a_word {token = bracket} v (a_part f (given d (a_word {token = end} y (left_out (a_word {token = close} u (a_part e at_end)))))))))) h in_loop =
        for_is word bracket end close f w v y u (there d) gone e in_loop (statement_is e (statement_tree e) true)
    statement_is (made_of k.For b a (a_row (a_word {token = word} w (a_word {token = bracket} v (a_part f (left_out (a_word {token = end} y (given g (a_word {token = close} u (a_part e at_end)))))))))) h in_loop =
        for_is word bracket end close f w v y u gone (there g) e in_loop (statement_is e (statement_tree e) true)
    statement_is (made_of k.For b a (a_row (a_word {token = word} w (a_word {token = bracket} v (a_part f (left_out (a_word {token = end} y (left_out (a_word {token = close} u (a_part e at_end)))))))))) h in_loop =
        for_is word bracket end close f w v y u gone gone e in_loop (statement_is e (statement_tree e) true)
    statement_is (made_of k.Jump b a (a_row (a_word {token = word} w (a_word {token = end} v at_end)))) h in_loop = jump_is word end in_loop
    statement_is (made_of k.Return b a (a_row (a_word {token = word} w (given d (a_word {token = end} y at_end))))) h in_loop = return_is word end w y (there d) in_loop
    statement_is (made_of k.Return b a (a_row (a_word {token = word} w (left_out (a_word {token = end} y at_end))))) h in_loop = return_is word end w y gone in_loop
    statement_is (made_of _ b a s) h in_loop = none_such h

    for_is :
        (word bracket end close : PlainToken) {start test step body : PlainTree} → Derivation for_start start → IsWord (t.For ∷ []) word → IsWord (t.OpenParenthesis ∷ []) bracket → IsWord (t.Semicolon ∷ []) end
        → IsWord (t.CloseParenthesis ∷ []) close → Perhaps test → Perhaps step → Derivation statement body → (in_loop : Bool) → StatementsAre true body
        → StatementsAre in_loop (node k.For (more (leaf word) (more (leaf bracket) (more start (more test (more (leaf end) (more step (more (leaf close) (more body none)))))))))
    for_is word bracket end close (single is) w v y u p q e in_loop one = none_such is
    for_is word bracket end close (made_of k.LocalDeclaration {parts = parts} b a s) w v y u p q e in_loop one = for_declared word bracket end close parts w v y u p q e in_loop one
    for_is word bracket end close (made_of k.ForStart b a (a_row (given d (a_word {token = first_end} x at_end)))) w v y u p q e in_loop one =
        for_started word bracket first_end end close w v x y u (there d) p q e in_loop one
    for_is word bracket end close (made_of k.ForStart b a (a_row (left_out (a_word {token = first_end} x at_end)))) w v y u p q e in_loop one =
        for_started word bracket first_end end close w v x y u gone p q e in_loop one
    for_is word bracket end close (made_of _ b a s) w v y u p q e in_loop one = none_such b

    else_part_is : {tree : PlainTree} → Derivation else_part tree → (in_loop : Bool) → ElseIs in_loop tree
    else_part_is (single is) in_loop = none_such is
    else_part_is (made_of k.Else b a (a_row (a_word {token = word} w (a_part d at_end)))) in_loop = else_is word w d in_loop (statement_is d (statement_tree d) in_loop)
    else_part_is (made_of _ b a s) in_loop = none_such b

    items_are : {parts : PlainTrees} → Each item parts → (in_loop : Bool) → RestIs in_loop parts
    items_are no_more in_loop = λ scope slots. (refl, refl)
    items_are (one_more {rest = rest} d others) in_loop = item_first rest d in_loop (λ h. statement_is d h in_loop) (items_are others in_loop)

  -- ---- the blocks of functions

  same_refusal : (m : Checked JudgedItems) (s : State) → ItemsAre m s → s.refused ≡ is_refused m
  same_refusal (fine j bindings) s h = h.0
  same_refusal (refused kind token) s h = h
  same_refusal broken s h = h

  body_read : {tree : PlainTree} → Derivation Rattle.c_tree.specs.Grammar.block tree → (scope : Scope) (slots : List PlainType) → (walk_body result tree (starting scope slots)).refused ≡ is_refused (judged_body scope result slots tree)
  body_read (single is) scope slots = none_such is
  body_read (made_of k.Block b a (a_row (a_word {token = open_} w (given (made_of k.Items {parts = list} c e (one_or_more each any)) (a_word {token = close} v at_end))))) scope slots =
      ap (λ s. s.refused)
      (word_read result (t.OpenBrace ∷ []) (refl, tt) false k.Block false open_ (more (node k.Items list) (more (leaf close) none)) w (λ token. refl) (starting scope slots) refl
      ∙ word_read result (t.CloseBrace ∷ []) (refl, tt) false k.Block false close none v (λ token. refl) (walk_parts result false k.Items false list (starting scope slots)) refl)
      ∙ same_refusal (judged_items (around_in false scope) slots list) _ (items_are each false scope slots)
  body_read (made_of k.Block b a (a_row (a_word w (given (single is) row_)))) scope slots = none_such is
  body_read (made_of k.Block b a (a_row (a_word w (given (made_of _ c e s) row_)))) scope slots = none_such c
  body_read (made_of k.Block b a (a_row (a_word {token = open_} w (left_out (a_word {token = close} v at_end))))) scope slots =
      ap (λ s. s.refused)
      (word_read result (t.OpenBrace ∷ []) (refl, tt) false k.Block false open_ (more absent (more (leaf close) none)) w (λ token. refl) (starting scope slots) refl
      ∙ word_read result (t.CloseBrace ∷ []) (refl, tt) false k.Block false close none v (λ token. refl) (starting scope slots) refl)
  body_read (made_of _ b a s) scope slots = none_such b

pub bodies_read : Rattle.statement_readings.specs.Laws.BodiesAreRead
bodies_read result scope slots tree d = body_read result d scope slots
