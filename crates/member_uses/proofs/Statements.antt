-- Statements use what is used in their parts.
use Rattle.std.proofs.Common.{◌≡◌, ℕ, Bool, true, false, not, List, [], ◌∷◌, refl, sym, subst, ◌∙◌, IsTrue}
use Rattle.std.specs.Prelude.{pos}
use Rattle.c_text.specs.Token.{PlainToken}
use Rattle.c_types.specs.Types.{PlainType}
use Rattle.c_tree.specs.declared.kinds.Kind.{Kind}
use Rattle.c_tree.specs.declared.kinds.Kind.TheVariants as k
use Rattle.c_tree.specs.declared.terminals.Terminal.{Terminal}
use Rattle.c_tree.specs.declared.terminals.Terminal.TheVariants as t
use Rattle.c_tree.specs.Terminals.{terminal, same, is_one_of}
use Rattle.c_tree.specs.Trees.{PlainTree, PlainTrees, leaf, node, none, more, absent}
use Rattle.c_tree.specs.Grammar as grammar
use Rattle.c_tree.specs.Grammar.{Category, expression, statement, else_part, item, for_start, specifiers, declarators, is_statement}
use Rattle.c_tree.proofs.TerminalCases.{EachOf, one_of}
use Rattle.tree_derivations.specs.Derivations.{Derivation, single, made_of, Shaped, a_row, some_words, one_or_more, declarators_of, at_end, a_word, a_part, left_out, given, Each, no_more, one_more, IsWord}
use Rattle.core_meaning.specs.declared.refusals.TypeKind.TheVariants.{Misplaced}
use Rattle.core_meaning.specs.Program.{PlainExpression, PlainStatement, constant, block, evaluate, selection, loop, return_value, return_nothing, no_item, statement_item}
use Rattle.core_meaning.specs.Checking.{Checked, ◌>>=◌, give, unless_so, found_or}
use Rattle.core_meaning.specs.Entities.{Scope}
use Rattle.core_meaning.specs.Typing.{Typed, fits_into, loaded}
use Rattle.core_meaning.specs.Expressions.{judged, valued, judged_condition, condition_value, first_token, is_void, unused}
use Rattle.core_meaning.specs.Declarations.{Locals, judged_locals, with_block}
use Rattle.core_meaning.specs.Statements.{Around, Judged, JudgedItems, judged_as, items_as, before_items, one_item, nothing_to_do, loop_of, discarded, condition_or_true, expression_statement, jump, returned, judged_statement, judged_else, judged_items}
use Rattle.core_meaning.specs.UnitNames.{judged_body}
use Rattle.bindings.proofs.Spellings.{Holds, AllHold, no_name}
use Rattle.declaration_readings.specs.Readings.{Going}
use Rattle.declaration_readings.specs.Readings.{Slots as Taken}
use Rattle.entity_numbers.proofs.Uses as bound
use Rattle.entity_numbers.proofs.Operators as operators
use Rattle.operand_types.specs.Laws.{TypesAreKept}
use Rattle.expression_types.specs.Laws.{ExpressionsHaveTypes}
use Rattle.selections.specs.Laws.{HasNames}
use Rattle.selections.proofs.Expressions.{Nothing}
use Rattle.cond_sizes.specs.Laws.{CountsNeedNoNames}
use Rattle.statement_readings.specs.Walks.{State, turns, left_out as left_out_in, refused_if, expression_read, walk_parts, walk_statement}
use Rattle.statement_readings.proofs.Steps.{none_such}
use Rattle.member_uses.specs.Uses.{Use, names_in, names_among}
use Rattle.member_uses.specs.Walks.{uses_in_parts, uses_in_body}
use Rattle.member_uses.proofs.Parts.{Part, names_of_node, word_names, alone, quiet_then, then_quiet, then_give, part_as, made_of_it}
use Rattle.member_uses.proofs.Judged.{expression_uses, expression_part}
use Rattle.member_uses.proofs.Words.{words_are}
use Rattle.member_uses.proofs.Locals.{IsDeclaration, declaration_part}
use Rattle.member_uses.proofs.Steps.{IsOther, Rest, word_step, word_rest, parts_then, expression_rest, locals_rest, At, statement_uses, StatementsAre, statement_rest}

module _ (by : ℕ → ℕ) (kept : TypesAreKept) (typed : ExpressionsHaveTypes) (sizes : CountsNeedNoNames) (result : PlainType) where
  abbrev around_in : Bool → Scope → Around
  around_in in_loop scope = record { scope = scope; result = result; in_loop = in_loop }

  abbrev R : {B : Type 0} → Bool → Kind → Bool → PlainTrees → State → (B → State → Type 0) → Checked B → Type 0
  R in_loop kind turned parts s P m = Rest by result in_loop kind turned parts s P m

  -- only slots are left
  abbrev Slots : Judged → State → Type 0
  Slots j now = now.slots ≡ j.slots

  -- what is judged leaves everything as it is
  abbrev Still : {A : Type 0} → State → A → State → Type 0
  Still s x now = (now.scope ≡ s.scope) × (now.slots ≡ s.slots)

  -- ---- expressions, and what is made of them

  abbrev Used : {A : Type 0} → Scope → PlainTree → Checked A → Type 0
  Used scope tree m = Part by (λ x u. u ≡ expression_uses by scope tree) m (names_in tree)

  module _ {n : ℕ} {tree : PlainTree} (d : Derivation (expression n) tree) (holds : Holds tree) (scope : Scope) (names : HasNames scope) where
    valued_part : Used scope tree (valued scope tree)
    valued_part = then_quiet by (λ u. u ≡ expression_uses by scope tree) (names_in tree) (judged scope tree) (loaded scope) (expression_part by kept typed scope names d holds) (operators.loads Nothing scope)

    condition_part : (behind : PlainToken) → Used scope tree (judged_condition scope tree behind)
    condition_part behind =
        then_quiet by (λ u. u ≡ expression_uses by scope tree) (names_in tree) (judged scope tree) (condition_value scope (first_token tree behind)) (expression_part by kept typed scope names d holds)
        (operators.condition_binds Nothing scope (first_token tree behind))

    made_part : {A : Type 0} (f : Typed → A) → Used scope tree (valued scope tree >>= (λ x. give (f x)))
    made_part f = then_give by (λ x u. u ≡ expression_uses by scope tree) (λ x u. u ≡ expression_uses by scope tree) (names_in tree) (valued scope tree) f valued_part (λ x u e. e)

    value_part : (word : PlainToken)
        → Used scope tree (unless_so (not (is_void result)) Misplaced word >>= (λ placed. valued scope tree >>= (λ x. found_or (fits_into result x) Misplaced word >>= (λ core. give (return_value core)))))
    value_part word =
        quiet_then by (λ x u. u ≡ expression_uses by scope tree) (names_in tree) (unless_so (not (is_void result)) Misplaced word) (λ placed. valued scope tree >>= (λ x. found_or (fits_into result x) Misplaced word >>= (λ core. give (return_value core))))
        (bound.unless_binds Nothing (not (is_void result)) Misplaced word)
        (λ placed. then_quiet by (λ u. u ≡ expression_uses by scope tree) (names_in tree) (valued scope tree) (λ x. found_or (fits_into result x) Misplaced word >>= (λ core. give (return_value core))) valued_part
        (λ x. bound.found_then Nothing (fits_into result x) Misplaced word _ (λ core. record { all = tt })))

  discarded_part : {n : ℕ} {tree : PlainTree} → Derivation (expression n) tree → Holds tree → (scope : Scope) → HasNames scope → (otherwise : PlainExpression) → Used scope tree (discarded scope tree otherwise)
  discarded_part {n = n} (single is) holds scope names otherwise = made_part (single {category = expression n} is) holds scope names (λ x. unused x.core)
  discarded_part (made_of k.Absent b a s) holds scope names otherwise = none_such b
  discarded_part {n = n} (made_of kind b a s) holds scope names otherwise = made_part (made_of {category = expression n} kind b a s) holds scope names (λ x. unused x.core)

  statement_part : {n : ℕ} {tree : PlainTree} → Derivation (expression n) tree → Holds tree → (scope : Scope) → HasNames scope → Used scope tree (expression_statement scope tree)
  statement_part {n = n} (single is) holds scope names = made_part (single {category = expression n} is) holds scope names (λ x. evaluate (unused x.core))
  statement_part (made_of k.Absent b a s) holds scope names = none_such b
  statement_part {n = n} (made_of kind b a s) holds scope names = made_part (made_of {category = expression n} kind b a s) holds scope names (λ x. evaluate (unused x.core))

  test_part : {n : ℕ} {tree : PlainTree} → Derivation (expression n) tree → Holds tree → (scope : Scope) → HasNames scope → (end_ : PlainToken) → Used scope tree (condition_or_true scope tree end_)
  test_part {n = n} (single is) holds scope names end_ = condition_part (single {category = expression n} is) holds scope names end_
  test_part (made_of k.Absent b a s) holds scope names end_ = none_such b
  test_part {n = n} (made_of kind b a s) holds scope names end_ = condition_part (made_of {category = expression n} kind b a s) holds scope names end_

  returned_part : {n : ℕ} {tree : PlainTree} → Derivation (expression n) tree → Holds tree → (in_loop : Bool) (scope : Scope) → HasNames scope → (word : PlainToken) → Used scope tree (returned (around_in in_loop scope) word tree)
  returned_part {n = n} (single is) holds in_loop scope names word = value_part (single {category = expression n} is) holds scope names word
  returned_part (made_of k.Absent b a s) holds in_loop scope names word = none_such b
  returned_part {n = n} (made_of kind b a s) holds in_loop scope names word = value_part (made_of {category = expression n} kind b a s) holds scope names word

  -- an expression that may be left out
  data Perhaps : PlainTree → Type 0 where
    gone : Perhaps absent
    there : {n : ℕ} {tree : PlainTree} → Derivation (expression n) tree → Holds tree → Perhaps tree

  -- ---- words

  -- in a `for`
  for_word : {B : Type 0} (P : B → State → Type 0) (turned next : Bool) (ts : List Terminal) → EachOf IsOther ts → is_one_of ts t.Name ≡ false → (in_loop : Bool) (token : PlainToken) (rest : PlainTrees) → IsWord ts token
      → (Rattle.std.proofs.Common.◌||◌ turned (same t.Semicolon (terminal token))) ≡ next → (s : State) (m : Checked B) → R in_loop k.For next rest s P m → R in_loop k.For turned (more (leaf token) rest) s P m
  for_word P turned next ts never free in_loop token rest w turning s m h =
      word_step by result P in_loop k.For turned next token rest s m (one_of IsOther ts (terminal token) w never) turning (no_name ts token free w) h

  semicolon_turns : (b : Bool) (token : PlainToken) → IsWord (t.Semicolon ∷ []) token → (Rattle.std.proofs.Common.◌||◌ b (same t.Semicolon (terminal token))) ≡ true
  semicolon_turns true token w = refl
  semicolon_turns false token w = one_of (λ x. same t.Semicolon x ≡ true) (t.Semicolon ∷ []) (terminal token) w (refl, tt)

  -- ---- statements of parts

  of_parts : (in_loop : Bool) (kind : Kind) (parts : PlainTrees) (s : State) (m : Checked Judged) → R in_loop kind false parts s (At s) m
      → Part by (λ j u. At s j (walk_parts result in_loop kind false parts s) × (u ≡ uses_in_parts by result in_loop kind false parts s)) m (names_in (node kind parts))
  of_parts in_loop kind parts s m h =
      subst (Part by (λ j u. At s j (walk_parts result in_loop kind false parts s) × (u ≡ uses_in_parts by result in_loop kind false parts s)) m) (sym (names_of_node kind parts)) h

  abbrev Are : Bool → PlainTree → Type 0
  Are in_loop tree = StatementsAre by result in_loop tree

  abbrev ElseIs : Bool → PlainTree → Type 0
  ElseIs in_loop tree = (s : State) → HasNames s.scope → R in_loop k.If false (more tree none) s (At s) (judged_else (around_in in_loop s.scope) s.slots tree)

  if_is :
      (word bracket close : PlainToken) (second : PlainTree) {n : ℕ} {test first : PlainTree} → IsWord (t.If ∷ []) word → IsWord (t.OpenParenthesis ∷ []) bracket → IsWord (t.CloseParenthesis ∷ []) close
      → Derivation (expression n) test → Holds test → Derivation statement first → (in_loop : Bool) → Are in_loop first → ElseIs in_loop second
      → Are in_loop (node k.If (more (leaf word) (more (leaf bracket) (more test (more (leaf close) (more first (more second none)))))))
  if_is word bracket close second {test = test} {first = first} w v u d h e in_loop one two s names =
      let last : Scope → List PlainType → PlainExpression → Judged → Checked Judged = λ scope slots c a. judged_else (around_in in_loop scope) slots second >>= (λ b. give (judged_as b.slots (selection c a.core b.core))) in
      let inner : PlainExpression → Checked Judged = λ c. judged_statement (around_in in_loop s.scope) s.slots first >>= (λ a. last s.scope a.slots c a) in
      let whole : Checked Judged = judged_condition s.scope test close >>= inner in
      of_parts in_loop k.If (more (leaf word) (more (leaf bracket) (more test (more (leaf close) (more first (more second none)))))) s whole
      (word_rest by result (At s) in_loop k.If (t.If ∷ []) (refl, tt) refl word (more (leaf bracket) (more test (more (leaf close) (more first (more second none))))) w (λ token. refl) s whole
      (word_rest by result (At s) in_loop k.If (t.OpenParenthesis ∷ []) (refl, tt) refl bracket (more test (more (leaf close) (more first (more second none)))) v (λ token. refl) s whole
      (expression_rest by result (At s) in_loop k.If d false (more (leaf close) (more first (more second none))) s (judged_condition s.scope test close) inner (condition_part d h s.scope names close)
      (λ c. let s1 : State = expression_read result k.If false test s in
      word_rest by result (At s) in_loop k.If (t.CloseParenthesis ∷ []) (refl, tt) refl close (more first (more second none)) u (λ token. refl) s1 (inner c)
      (statement_rest by result (At s) in_loop k.If e one false (more second none) s1 names (λ scope slots a. last scope slots c a)
      (λ a now named is_scope is_slots. then_give by (λ b us. At now b (walk_parts result in_loop k.If false (more second none) now) × (us ≡ uses_in_parts by result in_loop k.If false (more second none) now))
      (λ b us. At s b (walk_parts result in_loop k.If false (more second none) now) × (us ≡ uses_in_parts by result in_loop k.If false (more second none) now)) (names_among (more second none))
      (judged_else (around_in in_loop now.scope) now.slots second) (λ b. judged_as b.slots (selection c a.core b.core)) (two now named)
      (λ b us q. ((q.0.0 ∙ is_scope, q.0.1), q.1))))))))

  no_else : (in_loop : Bool) → ElseIs in_loop absent
  no_else in_loop s names = (tt, ((refl, refl), refl))

  while_is :
      (word bracket close : PlainToken) {n : ℕ} {test body : PlainTree} → IsWord (t.While ∷ []) word → IsWord (t.OpenParenthesis ∷ []) bracket → IsWord (t.CloseParenthesis ∷ []) close
      → Derivation (expression n) test → Holds test → Derivation statement body → (in_loop : Bool) → Are true body
      → Are in_loop (node k.While (more (leaf word) (more (leaf bracket) (more test (more (leaf close) (more body none))))))
  while_is word bracket close {test = test} {body = body} w v u d h e in_loop one s names =
      let inner : PlainExpression → Checked Judged = λ c. judged_statement (around_in true s.scope) s.slots body >>= (λ b. give (loop_of true c nothing_to_do b)) in
      let whole : Checked Judged = judged_condition s.scope test close >>= inner in
      of_parts true k.While (more (leaf word) (more (leaf bracket) (more test (more (leaf close) (more body none))))) s whole
      (word_rest by result (At s) true k.While (t.While ∷ []) (refl, tt) refl word (more (leaf bracket) (more test (more (leaf close) (more body none)))) w (λ token. refl) s whole
      (word_rest by result (At s) true k.While (t.OpenParenthesis ∷ []) (refl, tt) refl bracket (more test (more (leaf close) (more body none))) v (λ token. refl) s whole
      (expression_rest by result (At s) true k.While d false (more (leaf close) (more body none)) s (judged_condition s.scope test close) inner (condition_part d h s.scope names close)
      (λ c. let s1 : State = expression_read result k.While false test s in
      word_rest by result (At s) true k.While (t.CloseParenthesis ∷ []) (refl, tt) refl close (more body none) u (λ token. refl) s1 (inner c)
      (statement_rest by result (At s) true k.While e one false none s1 names (λ scope slots b. give (loop_of true c nothing_to_do b))
      (λ b now named is_scope is_slots. (tt, ((is_scope, is_slots), refl))))))))

  do_is :
      (word again bracket close end_ : PlainToken) {n : ℕ} {test body : PlainTree} → IsWord (t.Do ∷ []) word → IsWord (t.While ∷ []) again → IsWord (t.OpenParenthesis ∷ []) bracket
      → IsWord (t.CloseParenthesis ∷ []) close → IsWord (t.Semicolon ∷ []) end_ → Derivation (expression n) test → Holds test → Derivation statement body → (in_loop : Bool) → Are true body
      → Are in_loop (node k.Do (more (leaf word) (more body (more (leaf again) (more (leaf bracket) (more test (more (leaf close) (more (leaf end_) none))))))))
  do_is word again bracket close end_ {test = test} {body = body} w x v u y d h e in_loop one s names =
      let last : Judged → PlainExpression → Checked Judged = λ b c. give (loop_of false c nothing_to_do b) in
      let inner : Scope → List PlainType → Judged → Checked Judged = λ scope slots b. judged_condition scope test close >>= last b in
      let whole : Checked Judged = judged_statement (around_in true s.scope) s.slots body >>= (λ b. inner s.scope b.slots b) in
      of_parts true k.Do (more (leaf word) (more body (more (leaf again) (more (leaf bracket) (more test (more (leaf close) (more (leaf end_) none))))))) s whole
      (word_rest by result (At s) true k.Do (t.Do ∷ []) (refl, tt) refl word (more body (more (leaf again) (more (leaf bracket) (more test (more (leaf close) (more (leaf end_) none)))))) w (λ token. refl) s whole
      (statement_rest by result (At s) true k.Do e one false (more (leaf again) (more (leaf bracket) (more test (more (leaf close) (more (leaf end_) none))))) s names inner
      (λ b now named is_scope is_slots.
      word_rest by result (At s) true k.Do (t.While ∷ []) (refl, tt) refl again (more (leaf bracket) (more test (more (leaf close) (more (leaf end_) none)))) x (λ token. refl) now (inner now.scope now.slots b)
      (word_rest by result (At s) true k.Do (t.OpenParenthesis ∷ []) (refl, tt) refl bracket (more test (more (leaf close) (more (leaf end_) none))) v (λ token. refl) now (inner now.scope now.slots b)
      (expression_rest by result (At s) true k.Do d false (more (leaf close) (more (leaf end_) none)) now (judged_condition now.scope test close) (last b) (condition_part d h now.scope named close)
      (λ c. let s1 : State = expression_read result k.Do false test now in
      word_rest by result (At s) true k.Do (t.CloseParenthesis ∷ []) (refl, tt) refl close (more (leaf end_) none) u (λ token. refl) s1 (last b c)
      (word_rest by result (At s) true k.Do (t.Semicolon ∷ []) (refl, tt) refl end_ none y (λ token. refl) s1 (last b c) (tt, ((is_scope, is_slots), refl)))))))))

  -- ---- expressions that may be left out, among the parts

  module _ {B : Type 0} (P : B → State → Type 0) (in_loop : Bool) where
    perhaps_test : {tree : PlainTree} → Perhaps tree → (rest : PlainTrees) (end_ : PlainToken) (s : State) → HasNames s.scope → (next : PlainExpression → Checked B)
        → ((x : PlainExpression) (now : State) → now.scope ≡ s.scope → now.slots ≡ s.slots → R in_loop k.For false rest now P (next x)) → R in_loop k.For false (more tree rest) s P (condition_or_true s.scope tree end_ >>= next)
    perhaps_test gone rest end_ s names next others =
        alone by (λ y u. P y (walk_parts result in_loop k.For false rest s) × (u ≡ uses_in_parts by result in_loop k.For false rest s)) (names_among rest) (next (constant (pos 1))) (others (constant (pos 1)) s refl refl)
    perhaps_test {tree = tree} (there d h) rest end_ s names next others =
        expression_rest by result P in_loop k.For d false rest s (condition_or_true s.scope tree end_) next (test_part d h s.scope names end_) (λ x. others x (expression_read result k.For false tree s) refl refl)

    perhaps_step : {tree : PlainTree} → Perhaps tree → (rest : PlainTrees) (otherwise : PlainExpression) (s : State) → HasNames s.scope → (next : PlainExpression → Checked B)
        → ((x : PlainExpression) (now : State) → now.scope ≡ s.scope → now.slots ≡ s.slots → R in_loop k.For true rest now P (next x)) → R in_loop k.For true (more tree rest) s P (discarded s.scope tree otherwise >>= next)
    perhaps_step gone rest otherwise s names next others =
        alone by (λ y u. P y (walk_parts result in_loop k.For true rest s) × (u ≡ uses_in_parts by result in_loop k.For true rest s)) (names_among rest) (next otherwise) (others otherwise s refl refl)
    perhaps_step {tree = tree} (there d h) rest otherwise s names next others =
        expression_rest by result P in_loop k.For d true rest s (discarded s.scope tree otherwise) next (discarded_part d h s.scope names otherwise) (λ x. others x (expression_read result k.For true tree s) refl refl)

  -- an expression whose value isn't used, or nothing, and a `;`
  start_is :
      (kind : Kind) → ((s : State) → left_out_in result kind s ≡ s) → ((token : PlainToken) → turns kind token ≡ false) → {tree : PlainTree} (end_ : PlainToken) → IsWord (t.Semicolon ∷ []) end_ → Perhaps tree → (in_loop : Bool)
      → (s : State) → HasNames s.scope → R in_loop kind false (more tree (more (leaf end_) none)) s (Still s) (expression_statement s.scope tree)
  start_is kind nothing still end_ y gone in_loop s names =
      subst (λ now. Part by (λ (j : PlainStatement) u. Still s j (walk_parts result in_loop kind false (more (leaf end_) none) now) × (u ≡ uses_in_parts by result in_loop kind false (more (leaf end_) none) now)) (give (block no_item)) (names_among (more (leaf end_) none))) (sym (nothing s))
      (word_rest by result (Still s) in_loop kind (t.Semicolon ∷ []) (refl, tt) refl end_ none y still s (give (block no_item)) (tt, ((refl, refl), refl)))
  start_is kind nothing still {tree = tree} end_ y (there d h) in_loop s names =
      made_of_it by (λ j u. Still s j (walk_parts result in_loop kind false (more tree (more (leaf end_) none)) s) × (u ≡ uses_in_parts by result in_loop kind false (more tree (more (leaf end_) none)) s)) (names_among (more tree (more (leaf end_) none)))
      (expression_statement s.scope tree) (λ x. x)
      (expression_rest by result (Still s) in_loop kind d false (more (leaf end_) none) s (expression_statement s.scope tree) (λ x. give x) (statement_part d h s.scope names)
      (λ x. word_rest by result (Still s) in_loop kind (t.Semicolon ∷ []) (refl, tt) refl end_ none y still (expression_read result kind false tree s) (give x) (tt, ((refl, refl), refl))))

  expression_is : (end_ : PlainToken) {tree : PlainTree} → IsWord (t.Semicolon ∷ []) end_ → Perhaps tree → (in_loop : Bool) → Are in_loop (node k.ExpressionStatement (more tree (more (leaf end_) none)))
  expression_is end_ {tree = tree} y p in_loop s names =
      let parts : PlainTrees = more tree (more (leaf end_) none) in
      let now : State = walk_parts result in_loop k.ExpressionStatement false parts s in
      of_parts in_loop k.ExpressionStatement parts s (expression_statement s.scope tree >>= (λ core. give (judged_as s.slots core)))
      (then_give by (λ x u. Still s x now × (u ≡ uses_in_parts by result in_loop k.ExpressionStatement false parts s)) (λ j u. At s j now × (u ≡ uses_in_parts by result in_loop k.ExpressionStatement false parts s)) (names_among parts)
      (expression_statement s.scope tree) (λ core. judged_as s.slots core) (start_is k.ExpressionStatement (λ s. refl) (λ token. refl) end_ y p in_loop s names) (λ x u q. q))

  -- ---- jumps

  words_named : (ts us : List Terminal) → is_one_of ts t.Name ≡ false → is_one_of us t.Name ≡ false → (word end_ : PlainToken) → IsWord ts word → IsWord us end_ → names_among (more (leaf word) (more (leaf end_) none)) ≡ []
  words_named ts us free others word end_ w y = word_names word (more (leaf end_) none) (no_name ts word free w) ∙ word_names end_ none (no_name us end_ others y)

  jump_is : (word end_ : PlainToken) → IsWord (t.Jump ∷ []) word → IsWord (t.Semicolon ∷ []) end_ → (in_loop : Bool) → Are in_loop (node k.Jump (more (leaf word) (more (leaf end_) none)))
  jump_is word end_ w y in_loop s names =
      subst (Part by (λ j u. At s j (refused_if (not in_loop) s) × (u ≡ [])) (judged_statement (around_in in_loop s.scope) s.slots (node k.Jump (more (leaf word) (more (leaf end_) none)))))
      (sym (names_of_node k.Jump (more (leaf word) (more (leaf end_) none)) ∙ words_named (t.Jump ∷ []) (t.Semicolon ∷ []) refl refl word end_ w y)) (jumped in_loop)
    where
      jumped : (b : Bool) → Part by (λ j u. At s j (refused_if (not in_loop) s) × (u ≡ [])) (jump (around_in b s.scope) word >>= (λ core. give (judged_as s.slots core))) []
      jumped true = (tt, ((refl, refl), refl))
      jumped false = tt

  returned_nothing : (in_loop : Bool) (word end_ : PlainToken) → IsWord (t.Semicolon ∷ []) end_ → (s : State)
      → R in_loop k.Return false (more absent (more (leaf end_) none)) s (Still s) (returned (around_in in_loop s.scope) word absent)
  returned_nothing in_loop word end_ y s =
      quiet_then by (λ x u. Still s x (walk_parts result in_loop k.Return false (more absent (more (leaf end_) none)) s) × (u ≡ uses_in_parts by result in_loop k.Return false (more absent (more (leaf end_) none)) s))
      (names_among (more absent (more (leaf end_) none))) (unless_so (is_void result) Misplaced word) (λ placed. give return_nothing) (bound.unless_binds Nothing (is_void result) Misplaced word)
      (λ placed. word_rest by result (Still s) in_loop k.Return (t.Semicolon ∷ []) (refl, tt) refl end_ none y (λ token. refl) (left_out_in result k.Return s) (give return_nothing) (tt, ((refl, refl), refl)))

  return_rest : (word end_ : PlainToken) {tree : PlainTree} → IsWord (t.Semicolon ∷ []) end_ → Perhaps tree → (in_loop : Bool) (s : State) → HasNames s.scope
      → R in_loop k.Return false (more tree (more (leaf end_) none)) s (Still s) (returned (around_in in_loop s.scope) word tree)
  return_rest word end_ y gone in_loop s names = returned_nothing in_loop word end_ y s
  return_rest word end_ {tree = tree} y (there d h) in_loop s names =
      made_of_it by (λ j u. Still s j (walk_parts result in_loop k.Return false (more tree (more (leaf end_) none)) s) × (u ≡ uses_in_parts by result in_loop k.Return false (more tree (more (leaf end_) none)) s)) (names_among (more tree (more (leaf end_) none)))
      (returned (around_in in_loop s.scope) word tree) (λ x. x)
      (expression_rest by result (Still s) in_loop k.Return d false (more (leaf end_) none) s (returned (around_in in_loop s.scope) word tree) (λ x. give x) (returned_part d h in_loop s.scope names word)
      (λ x. word_rest by result (Still s) in_loop k.Return (t.Semicolon ∷ []) (refl, tt) refl end_ none y (λ token. refl) (expression_read result k.Return false tree s) (give x) (tt, ((refl, refl), refl))))

  return_is : (word end_ : PlainToken) {tree : PlainTree} → IsWord (t.Return ∷ []) word → IsWord (t.Semicolon ∷ []) end_ → Perhaps tree → (in_loop : Bool)
      → Are in_loop (node k.Return (more (leaf word) (more tree (more (leaf end_) none))))
  return_is word end_ {tree = tree} w y p in_loop s names =
      let parts : PlainTrees = more tree (more (leaf end_) none) in
      let whole : Checked Judged = returned (around_in in_loop s.scope) word tree >>= (λ core. give (judged_as s.slots core)) in
      of_parts in_loop k.Return (more (leaf word) parts) s whole
      (word_rest by result (At s) in_loop k.Return (t.Return ∷ []) (refl, tt) refl word parts w (λ token. refl) s whole
      (then_give by (λ x u. Still s x (walk_parts result in_loop k.Return false parts s) × (u ≡ uses_in_parts by result in_loop k.Return false parts s))
      (λ j u. At s j (walk_parts result in_loop k.Return false parts s) × (u ≡ uses_in_parts by result in_loop k.Return false parts s)) (names_among parts)
      (returned (around_in in_loop s.scope) word tree) (λ core. judged_as s.slots core) (return_rest word end_ y p in_loop s names) (λ x u q. q)))

  -- ---- `for`

  abbrev behind : PlainTree → PlainToken → PlainTree → PlainToken → PlainTree → PlainTrees
  behind test end_ step close body = more test (more (leaf end_) (more step (more (leaf close) (more body none))))

  -- what is judged where the state is
  moved : {B : Type 0} (P : B → State → Type 0) (in_loop : Bool) (kind : Kind) (turned : Bool) (parts : PlainTrees) (now : State) (scope : Scope) (slots : List PlainType) (m : Scope → List PlainType → Checked B)
      → now.scope ≡ scope → now.slots ≡ slots → R in_loop kind turned parts now P (m now.scope now.slots) → R in_loop kind turned parts now P (m scope slots)
  moved P in_loop kind turned parts now scope slots m is_scope is_slots h =
      subst (λ x. R in_loop kind turned parts now P (m x slots)) is_scope (subst (λ x. R in_loop kind turned parts now P (m now.scope x)) is_slots h)

  -- what stands behind the head of a `for`
  for_rest :
      (end_ close : PlainToken) {test step body : PlainTree} → IsWord (t.Semicolon ∷ []) end_ → IsWord (t.CloseParenthesis ∷ []) close → Perhaps test → Perhaps step → Derivation statement body → Are true body
      → (s : State) → HasNames s.scope → (made : PlainExpression → PlainExpression → Judged → PlainStatement)
      → R true k.For false (behind test end_ step close body) s Slots
      (condition_or_true s.scope test end_ >>= (λ c. discarded s.scope step nothing_to_do >>= (λ x. judged_statement (around_in true s.scope) s.slots body >>= (λ b. give (judged_as b.slots (made c x b))))))
  for_rest end_ close {test = test} {step = step} {body = body} y u p q e one s names made =
      let turn : PlainExpression → PlainExpression → Scope → List PlainType → Checked Judged = λ c x scope slots. judged_statement (around_in true scope) slots body >>= (λ b. give (judged_as b.slots (made c x b))) in
      let steps : PlainExpression → Scope → List PlainType → Checked Judged = λ c scope slots. discarded scope step nothing_to_do >>= (λ x. turn c x scope slots) in
      let second : PlainTrees = more (leaf close) (more body none) in
      let first : PlainTrees = more (leaf end_) (more step second) in
      perhaps_test Slots true p first end_ s names (λ c. steps c s.scope s.slots)
      (λ c now is_scope is_slots. let named : HasNames now.scope = subst HasNames (sym is_scope) names in
      moved Slots true k.For false first now s.scope s.slots (steps c) is_scope is_slots
      (for_word Slots false true (t.Semicolon ∷ []) (refl, tt) refl true end_ (more step second) y (semicolon_turns false end_ y) now (steps c now.scope now.slots)
      (perhaps_step Slots true q second nothing_to_do now named (λ x. turn c x now.scope now.slots)
      (λ x last scope_is slots_are. moved Slots true k.For true second last now.scope now.slots (turn c x) scope_is slots_are
      (for_word Slots true true (t.CloseParenthesis ∷ []) (refl, tt) refl true close (more body none) u refl last (turn c x last.scope last.slots)
      (statement_rest by result Slots true k.For e one true none last (subst HasNames (sym scope_is) named) (λ scope slots b. give (judged_as b.slots (made c x b)))
      (λ b left left_named left_scope left_slots. (tt, (left_slots, refl)))))))))

  -- what a `for` leaves
  out_of : (in_loop : Bool) (parts : PlainTrees) (s : State) (m : Checked Judged) → R true k.For false parts s Slots m
      → Part by (λ j u. At s j (walk_statement result in_loop (node k.For parts) s) × (u ≡ statement_uses by result in_loop (node k.For parts) s)) m (names_in (node k.For parts))
  out_of in_loop parts s m h =
      subst (Part by (λ j u. At s j (walk_statement result in_loop (node k.For parts) s) × (u ≡ statement_uses by result in_loop (node k.For parts) s)) m) (sym (names_of_node k.For parts))
      (part_as by (λ j u. Slots j (walk_parts result true k.For false parts s) × (u ≡ uses_in_parts by result true k.For false parts s))
      (λ j u. At s j (walk_statement result in_loop (node k.For parts) s) × (u ≡ statement_uses by result in_loop (node k.For parts) s)) (names_among parts) m h (λ j u q. ((refl, q.0), q.1)))

  -- the words before the head
  for_head : {B : Type 0} (P : B → State → Type 0) (word bracket : PlainToken) (rest : PlainTrees) → IsWord (t.For ∷ []) word → IsWord (t.OpenParenthesis ∷ []) bracket → (s : State) (m : Checked B)
      → R true k.For false rest s P m → R true k.For false (more (leaf word) (more (leaf bracket) rest)) s P m
  for_head P word bracket rest w v s m h =
      for_word P false false (t.For ∷ []) (refl, tt) refl true word (more (leaf bracket) rest) w (one_of (λ x. same t.Semicolon x ≡ false) (t.For ∷ []) (terminal word) w (refl, tt)) s m
      (for_word P false false (t.OpenParenthesis ∷ []) (refl, tt) refl true bracket rest v (one_of (λ x. same t.Semicolon x ≡ false) (t.OpenParenthesis ∷ []) (terminal bracket) v (refl, tt)) s m h)

  locals_part : {words list : PlainTree} {end_ : PlainToken} → Derivation specifiers words → Derivation (declarators grammar.local) list → IsWord (t.Semicolon ∷ []) end_ → AllHold (more words (more list (more (leaf end_) none)))
      → (scope : Scope) → HasNames scope → (slots : List PlainType)
      → Part by (λ l u. HasNames l.scope) (judged_locals scope slots (more words (more list (more (leaf end_) none)))) (names_among (more words (more list (more (leaf end_) none))))
  locals_part (single is) e y holds scope names slots = none_such is
  locals_part (made_of k.Specifiers b a s) (single is) y holds scope names slots = none_such is
  locals_part {end_ = end_} (made_of k.Specifiers {parts = words} b a (some_words are)) (made_of k.Declarators {parts = list} c f (declarators_of d)) y holds scope names slots =
      let parts : PlainTrees = more (node k.Specifiers words) (more (node k.Declarators list) (more (leaf end_) none)) in
      let g : Going Taken = record { state = record { scope = scope; slots = slots }; refused = false } in
      part_as by (IsDeclaration by kept typed sizes g words list) (λ l u. HasNames l.scope) (names_among parts) (judged_locals scope slots parts)
      (declaration_part by kept typed sizes words list end_ (words_are grammar.types words are refl) d holds.1.0 y g names) (λ l u q. q.0)
  locals_part (made_of k.Specifiers b a s) (made_of _ c f r) y holds scope names slots = none_such c
  locals_part (made_of _ b a s) e y holds scope names slots = none_such b

  locals_shaped : {parts : PlainTrees} → Shaped (grammar.in_row (grammar.row k.LocalDeclaration)) parts → AllHold parts → (scope : Scope) → HasNames scope → (slots : List PlainType)
      → Part by (λ l u. HasNames l.scope) (judged_locals scope slots parts) (names_among parts)
  locals_shaped (a_row (a_part d (a_part e (a_word y at_end)))) holds scope names slots = locals_part d e y holds scope names slots

  for_declared :
      (word bracket end_ close : PlainToken) (parts : PlainTrees) {test step body : PlainTree} → IsWord (t.For ∷ []) word → IsWord (t.OpenParenthesis ∷ []) bracket → IsWord (t.Semicolon ∷ []) end_
      → IsWord (t.CloseParenthesis ∷ []) close → ((s : State) → HasNames s.scope → Part by (λ l u. HasNames l.scope) (judged_locals (with_block s.scope) s.slots parts) (names_among parts))
      → Perhaps test → Perhaps step → Derivation statement body → (in_loop : Bool) → Are true body
      → Are in_loop (node k.For (more (leaf word) (more (leaf bracket) (more (node k.LocalDeclaration parts) (behind test end_ step close body)))))
  for_declared word bracket end_ close parts {test = test} {step = step} {body = body} w v y u declared p q e in_loop one s names =
      let rest : PlainTrees = behind test end_ step close body in
      let made : Locals → PlainExpression → PlainExpression → Judged → PlainStatement = λ l c x b. block (before_items l.items (one_item (loop true c x b.core))) in
      let inner : Locals → Checked Judged = λ l.
      condition_or_true l.scope test end_ >>= (λ c. discarded l.scope step nothing_to_do >>= (λ x. judged_statement (around_in true l.scope) l.slots body >>= (λ b. give (judged_as b.slots (made l c x b))))) in
      let whole : Checked Judged = judged_locals (with_block s.scope) s.slots parts >>= inner in
      out_of in_loop (more (leaf word) (more (leaf bracket) (more (node k.LocalDeclaration parts) rest))) s whole
      (for_head Slots word bracket (more (node k.LocalDeclaration parts) rest) w v s whole
      (locals_rest by result Slots true k.For false parts rest s inner (declared s names)
      (λ l named. for_rest end_ close y u p q e one (record s { scope = l.scope; slots = l.slots }) named (made l))))

  for_started :
      (word bracket first_end end_ close : PlainToken) {first test step body : PlainTree} → IsWord (t.For ∷ []) word → IsWord (t.OpenParenthesis ∷ []) bracket → IsWord (t.Semicolon ∷ []) first_end
      → IsWord (t.Semicolon ∷ []) end_ → IsWord (t.CloseParenthesis ∷ []) close → Perhaps first → Perhaps test → Perhaps step → Derivation statement body → (in_loop : Bool) → Are true body
      → Are in_loop (node k.For (more (leaf word) (more (leaf bracket) (more (node k.ForStart (more first (more (leaf first_end) none))) (behind test end_ step close body)))))
  for_started word bracket first_end end_ close {first = first} {test = test} {step = step} {body = body} w v x y u r p q e in_loop one s names =
      let rest : PlainTrees = behind test end_ step close body in
      let start : PlainTrees = more first (more (leaf first_end) none) in
      let now : State = walk_parts result true k.ForStart false start s in
      let us : List Use = uses_in_parts by result true k.ForStart false start s in
      let made : PlainStatement → PlainExpression → PlainExpression → Judged → PlainStatement = λ core c x b. block (statement_item core (one_item (loop true c x b.core))) in
      let inner : PlainStatement → Scope → List PlainType → Checked Judged = λ core scope slots.
      condition_or_true scope test end_ >>= (λ c. discarded scope step nothing_to_do >>= (λ x. judged_statement (around_in true scope) slots body >>= (λ b. give (judged_as b.slots (made core c x b))))) in
      let whole : Checked Judged = expression_statement s.scope first >>= (λ core. inner core s.scope s.slots) in
      out_of in_loop (more (leaf word) (more (leaf bracket) (more (node k.ForStart start) rest))) s whole
      (for_head Slots word bracket (more (node k.ForStart start) rest) w v s whole
      (parts_then by result Slots true k.For (Still s) false (node k.ForStart start) rest s now us (expression_statement s.scope first) (λ core. inner core s.scope s.slots) refl refl
      (subst (Part by (λ core u. Still s core now × (u ≡ us)) (expression_statement s.scope first)) (sym (names_of_node k.ForStart start)) (start_is k.ForStart (λ s. refl) (λ token. refl) first_end x r true s names))
      (λ core is. moved Slots true k.For false rest now s.scope s.slots (inner core) is.0 is.1
      (for_rest end_ close y u p q e one now (subst HasNames (sym is.0) names) (made core)))))

  for_is :
      (word bracket end_ close : PlainToken) {start test step body : PlainTree} → Derivation for_start start → Holds start → IsWord (t.For ∷ []) word → IsWord (t.OpenParenthesis ∷ []) bracket → IsWord (t.Semicolon ∷ []) end_
      → IsWord (t.CloseParenthesis ∷ []) close → Perhaps test → Perhaps step → Derivation statement body → (in_loop : Bool) → Are true body
      → Are in_loop (node k.For (more (leaf word) (more (leaf bracket) (more start (behind test end_ step close body)))))
  for_is word bracket end_ close (single is) = none_such is
  for_is word bracket end_ close (made_of k.LocalDeclaration {parts = parts} b a s) =
      λ holds w v y u p q e in_loop one. for_declared word bracket end_ close parts w v y u (λ t names. locals_shaped s holds (with_block t.scope) names t.slots) p q e in_loop one
  for_is word bracket end_ close (made_of k.ForStart b a (a_row (given d (a_word {token = first_end} x at_end)))) =
      λ holds w v y u p q e in_loop one. for_started word bracket first_end end_ close w v x y u (there d holds.0) p q e in_loop one
  for_is word bracket end_ close (made_of k.ForStart b a (a_row (left_out (a_word {token = first_end} x at_end)))) =
      λ holds w v y u p q e in_loop one. for_started word bracket first_end end_ close w v x y u gone p q e in_loop one
  for_is word bracket end_ close (made_of _ b a s) = none_such b

  -- ---- blocks

  abbrev ItemsAre : Bool → PlainTrees → Type 0
  ItemsAre in_loop parts = (s : State) → HasNames s.scope → R in_loop k.Items false parts s (λ (j : JudgedItems) now. now.slots ≡ j.slots) (judged_items (around_in in_loop s.scope) s.slots parts)

  braces : {B : Type 0} (P : B → State → Type 0) (f : JudgedItems → B) (open_ close : PlainToken) (list : PlainTrees) → IsWord (t.OpenBrace ∷ []) open_ → IsWord (t.CloseBrace ∷ []) close → (in_loop : Bool) → ItemsAre in_loop list
      → (s : State) → HasNames s.scope → ((j : JudgedItems) (now : State) → now.slots ≡ j.slots → P (f j) now)
      → R in_loop k.Block false (more (leaf open_) (more (node k.Items list) (more (leaf close) none))) s P (judged_items (around_in in_loop s.scope) s.slots list >>= (λ j. give (f j)))
  braces P f open_ close list w v in_loop items s names leaves =
      let now : State = walk_parts result in_loop k.Items false list s in
      let us : List Use = uses_in_parts by result in_loop k.Items false list s in
      let m : Checked JudgedItems = judged_items (around_in in_loop s.scope) s.slots list in
      word_rest by result P in_loop k.Block (t.OpenBrace ∷ []) (refl, tt) refl open_ (more (node k.Items list) (more (leaf close) none)) w (λ token. refl) s (m >>= (λ j. give (f j)))
      (parts_then by result P in_loop k.Block (λ (j : JudgedItems) now. now.slots ≡ j.slots) false (node k.Items list) (more (leaf close) none) s now us m (λ j. give (f j)) refl refl
      (subst (Part by (λ (j : JudgedItems) u. (now.slots ≡ j.slots) × (u ≡ us)) m) (sym (names_of_node k.Items list)) (items s names))
      (λ j is. word_rest by result P in_loop k.Block (t.CloseBrace ∷ []) (refl, tt) refl close none v (λ token. refl) now (give (f j)) (tt, (leaves j now is, refl))))

  -- a block leaves what was visible before
  of_block : (in_loop : Bool) (parts : PlainTrees) (s : State) (m : Checked Judged) → R in_loop k.Block false parts (record s { scope = with_block s.scope }) Slots m
      → Part by (λ j u. At s j (walk_statement result in_loop (node k.Block parts) s) × (u ≡ statement_uses by result in_loop (node k.Block parts) s)) m (names_in (node k.Block parts))
  of_block in_loop parts s m h =
      let inner : State = record s { scope = with_block s.scope } in
      subst (Part by (λ j u. At s j (walk_statement result in_loop (node k.Block parts) s) × (u ≡ statement_uses by result in_loop (node k.Block parts) s)) m) (sym (names_of_node k.Block parts))
      (part_as by (λ j u. Slots j (walk_parts result in_loop k.Block false parts inner) × (u ≡ uses_in_parts by result in_loop k.Block false parts inner))
      (λ j u. At s j (walk_statement result in_loop (node k.Block parts) s) × (u ≡ statement_uses by result in_loop (node k.Block parts) s)) (names_among parts) m h (λ j u q. ((refl, q.0), q.1)))

  block_is : (open_ close : PlainToken) (list : PlainTrees) → IsWord (t.OpenBrace ∷ []) open_ → IsWord (t.CloseBrace ∷ []) close → (in_loop : Bool) → ItemsAre in_loop list
      → Are in_loop (node k.Block (more (leaf open_) (more (node k.Items list) (more (leaf close) none))))
  block_is open_ close list w v in_loop items s names =
      of_block in_loop (more (leaf open_) (more (node k.Items list) (more (leaf close) none))) s
      (judged_items (around_in in_loop (with_block s.scope)) s.slots list >>= (λ inner. give (judged_as inner.slots (block inner.core))))
      (braces Slots (λ inner. judged_as inner.slots (block inner.core)) open_ close list w v in_loop items (record s { scope = with_block s.scope }) names (λ j now is. is))

  empty_braces : {B : Type 0} (P : B → State → Type 0) (x : B) (open_ close : PlainToken) → IsWord (t.OpenBrace ∷ []) open_ → IsWord (t.CloseBrace ∷ []) close → (in_loop : Bool) (s : State) → P x s
      → R in_loop k.Block false (more (leaf open_) (more absent (more (leaf close) none))) s P (give x)
  empty_braces P x open_ close w v in_loop s p =
      word_rest by result P in_loop k.Block (t.OpenBrace ∷ []) (refl, tt) refl open_ (more absent (more (leaf close) none)) w (λ token. refl) s (give x)
      (word_rest by result P in_loop k.Block (t.CloseBrace ∷ []) (refl, tt) refl close none v (λ token. refl) s (give x) (tt, (p, refl)))

  empty_is : (open_ close : PlainToken) → IsWord (t.OpenBrace ∷ []) open_ → IsWord (t.CloseBrace ∷ []) close → (in_loop : Bool) → Are in_loop (node k.Block (more (leaf open_) (more absent (more (leaf close) none))))
  empty_is open_ close w v in_loop s names =
      of_block in_loop (more (leaf open_) (more absent (more (leaf close) none))) s (give (judged_as s.slots (block no_item)))
      (empty_braces Slots (judged_as s.slots (block no_item)) open_ close w v in_loop (record s { scope = with_block s.scope }) refl)

  -- ---- items

  item_judged :
      (inner : Kind) (parts rest : PlainTrees) (around : Around) (slots : List PlainType) → is_statement inner ≡ true
      → judged_items around slots (more (node inner parts) rest)
      ≡ (judged_statement around slots (node inner parts) >>= (λ first. judged_items around first.slots rest >>= (λ others. give (items_as others.slots (statement_item first.core others.core)))))
  item_judged k.LocalDeclaration parts rest around slots h = none_such h
  item_judged _ parts rest around slots h = refl

  left_alike : (in_loop : Bool) (parts : PlainTrees) (s : State) (m : Checked JudgedItems) (f : JudgedItems → JudgedItems) → ((j : JudgedItems) → (f j).slots ≡ j.slots)
      → R in_loop k.Items false parts s (λ (j : JudgedItems) now. now.slots ≡ j.slots) m → R in_loop k.Items false parts s (λ (j : JudgedItems) now. now.slots ≡ j.slots) (m >>= (λ j. give (f j)))
  left_alike in_loop parts s m f alike h =
      then_give by (λ (j : JudgedItems) u. ((walk_parts result in_loop k.Items false parts s).slots ≡ j.slots) × (u ≡ uses_in_parts by result in_loop k.Items false parts s))
      (λ (j : JudgedItems) u. ((walk_parts result in_loop k.Items false parts s).slots ≡ j.slots) × (u ≡ uses_in_parts by result in_loop k.Items false parts s)) (names_among parts) m f h (λ j u q. (q.0 ∙ sym (alike j), q.1))

  statement_first : {inner : Kind} {parts : PlainTrees} (rest : PlainTrees) → Derivation statement (node inner parts) → is_statement inner ≡ true → (in_loop : Bool) → Are in_loop (node inner parts) → ItemsAre in_loop rest
      → ItemsAre in_loop (more (node inner parts) rest)
  statement_first {inner = inner} {parts = parts} rest d is in_loop one others s names =
      let made : Judged → JudgedItems → JudgedItems = λ first others. items_as others.slots (statement_item first.core others.core) in
      subst (R in_loop k.Items false (more (node inner parts) rest) s (λ (j : JudgedItems) now. now.slots ≡ j.slots)) (sym (item_judged inner parts rest (around_in in_loop s.scope) s.slots is))
      (statement_rest by result (λ (j : JudgedItems) now. now.slots ≡ j.slots) in_loop k.Items d one false rest s names (λ scope slots first. judged_items (around_in in_loop scope) slots rest >>= (λ others. give (made first others)))
      (λ first now named is_scope is_slots. left_alike in_loop rest now (judged_items (around_in in_loop now.scope) now.slots rest) (made first) (λ j. refl) (others now named)))

  declaration_first : (parts rest : PlainTrees) (in_loop : Bool) → ((s : State) → HasNames s.scope → Part by (λ l u. HasNames l.scope) (judged_locals s.scope s.slots parts) (names_among parts)) → ItemsAre in_loop rest
      → ItemsAre in_loop (more (node k.LocalDeclaration parts) rest)
  declaration_first parts rest in_loop declared others s names =
      let made : Locals → JudgedItems → JudgedItems = λ l others. items_as others.slots (before_items l.items others.core) in
      locals_rest by result (λ (j : JudgedItems) now. now.slots ≡ j.slots) in_loop k.Items false parts rest s (λ l. judged_items (around_in in_loop l.scope) l.slots rest >>= (λ others. give (made l others))) (declared s names)
      (λ l named. left_alike in_loop rest (record s { scope = l.scope; slots = l.slots }) (judged_items (around_in in_loop l.scope) l.slots rest) (made l) (λ j. refl) (others (record s { scope = l.scope; slots = l.slots }) named))

  -- ---- else

  else_is : (word : PlainToken) {tree : PlainTree} → IsWord (t.Else ∷ []) word → Derivation statement tree → (in_loop : Bool) → Are in_loop tree → ElseIs in_loop (node k.Else (more (leaf word) (more tree none)))
  else_is word {tree = tree} w d in_loop one s names =
      let parts : PlainTrees = more (leaf word) (more tree none) in
      let now : State = walk_parts result in_loop k.Else false parts s in
      let us : List Use = uses_in_parts by result in_loop k.Else false parts s in
      let m : Checked Judged = judged_statement (around_in in_loop s.scope) s.slots tree in
      made_of_it by (λ j u. At s j (walk_parts result in_loop k.If false (more (node k.Else parts) none) s) × (u ≡ uses_in_parts by result in_loop k.If false (more (node k.Else parts) none) s)) (names_among (more (node k.Else parts) none)) m (λ j. j)
      (parts_then by result (At s) in_loop k.If (At s) false (node k.Else parts) none s now us m (λ j. give j) refl refl
      (subst (Part by (λ j u. At s j now × (u ≡ us)) m) (sym (names_of_node k.Else parts))
      (made_of_it by (λ j u. At s j now × (u ≡ us)) (names_among parts) m (λ j. j)
      (word_rest by result (At s) in_loop k.Else (t.Else ∷ []) (refl, tt) refl word (more tree none) w (λ token. refl) s (m >>= (λ j. give j))
      (statement_rest by result (At s) in_loop k.Else d one false none s names (λ scope slots j. give j) (λ j left named is_scope is_slots. (tt, ((is_scope, is_slots), refl)))))))
      (λ j is. (tt, (is, refl))))

  as_statement : (kind : Kind) {parts : PlainTrees} → IsTrue (is_statement kind) → IsTrue (grammar.agree kind parts) → Shaped (grammar.shape item kind) parts → Derivation statement (node kind parts)
  as_statement k.Block b a s = made_of k.Block b a s
  as_statement k.ExpressionStatement b a s = made_of k.ExpressionStatement b a s
  as_statement k.If b a s = made_of k.If b a s
  as_statement k.While b a s = made_of k.While b a s
  as_statement k.Do b a s = made_of k.Do b a s
  as_statement k.For b a s = made_of k.For b a s
  as_statement k.Jump b a s = made_of k.Jump b a s
  as_statement k.Return b a s = made_of k.Return b a s
  as_statement _ b a s = none_such b

  -- ---- statements, by how they are derived

  abbrev is_statement_tree : PlainTree → Bool
  is_statement_tree (leaf token) = false
  is_statement_tree (node kind parts) = is_statement kind

  statement_tree : {tree : PlainTree} → Derivation statement tree → IsTrue (is_statement_tree tree)
  statement_tree (single is) = none_such is
  statement_tree (made_of kind b a s) = b

  item_first : {tree : PlainTree} (rest : PlainTrees) → Derivation item tree → Holds tree → (in_loop : Bool) → (IsTrue (is_statement_tree tree) → Are in_loop tree) → ItemsAre in_loop rest → ItemsAre in_loop (more tree rest)
  item_first rest (single is) = none_such is
  item_first rest (made_of k.LocalDeclaration {parts = parts} b a s) = λ holds in_loop one. declaration_first parts rest in_loop (λ t names. locals_shaped s holds t.scope names t.slots)
  item_first rest (made_of inner {parts = parts} b a s) = λ holds in_loop one. statement_first rest (as_statement inner b a s) b in_loop (one b)

  abbrev In : Kind → PlainTrees → Type 0
  In kind parts = Shaped (grammar.in_row (grammar.row kind)) parts

  mutual
    statement_is : {category : Category} {tree : PlainTree} → Derivation category tree → IsTrue (is_statement_tree tree) → Holds tree → (in_loop : Bool) → Are in_loop tree
    statement_is (single is) h = none_such h
    statement_is (made_of k.Block b a s) h = in_block s
    statement_is (made_of k.ExpressionStatement b a s) h = in_expression s
    statement_is (made_of k.If b a s) h = in_if s
    statement_is (made_of k.While b a s) h = in_while s
    statement_is (made_of k.Do b a s) h = in_do s
    statement_is (made_of k.For b a s) h = in_for s
    statement_is (made_of k.Jump b a s) h = in_jump s
    statement_is (made_of k.Return b a s) h = in_return s
    statement_is (made_of _ b a s) h = none_such h

    in_block : {parts : PlainTrees} → In k.Block parts → AllHold parts → (in_loop : Bool) → Are in_loop (node k.Block parts)
    in_block (a_row (a_word {token = open_} w (given d (a_word {token = close} v at_end)))) = λ holds in_loop. filled_block d open_ close w v holds.1.0 in_loop
    in_block (a_row (a_word {token = open_} w (left_out (a_word {token = close} v at_end)))) = λ holds in_loop. empty_is open_ close w v in_loop

    filled_block : {tree : PlainTree} → Derivation grammar.items tree → (open_ close : PlainToken) → IsWord (t.OpenBrace ∷ []) open_ → IsWord (t.CloseBrace ∷ []) close → Holds tree → (in_loop : Bool)
        → Are in_loop (node k.Block (more (leaf open_) (more tree (more (leaf close) none))))
    filled_block (single is) open_ close w v = none_such is
    filled_block (made_of k.Items {parts = list} c f (one_or_more each any)) open_ close w v = λ holds in_loop. block_is open_ close list w v in_loop (items_are each holds in_loop)
    filled_block (made_of _ c f s) open_ close w v = none_such c

    in_expression : {parts : PlainTrees} → In k.ExpressionStatement parts → AllHold parts → (in_loop : Bool) → Are in_loop (node k.ExpressionStatement parts)
    in_expression (a_row (given d (a_word {token = end_} y at_end))) = λ holds in_loop. expression_is end_ y (there d holds.0) in_loop
    in_expression (a_row (left_out (a_word {token = end_} y at_end))) = λ holds in_loop. expression_is end_ y gone in_loop

    in_if : {parts : PlainTrees} → In k.If parts → AllHold parts → (in_loop : Bool) → Are in_loop (node k.If parts)
    in_if (a_row (a_word {token = word} w (a_word {token = bracket} v (a_part d (a_word {token = close} u (a_part e (left_out at_end))))))) =
        λ holds in_loop. if_is word bracket close absent w v u d holds.1.1.0 e in_loop (statement_is e (statement_tree e) holds.1.1.1.1.0 in_loop) (no_else in_loop)
    in_if (a_row (a_word {token = word} w (a_word {token = bracket} v (a_part d (a_word {token = close} u (a_part e (given {tree = second} f at_end))))))) =
        λ holds in_loop. if_is word bracket close second w v u d holds.1.1.0 e in_loop (statement_is e (statement_tree e) holds.1.1.1.1.0 in_loop) (else_part_is f holds.1.1.1.1.1.0 in_loop)

    else_part_is : {tree : PlainTree} → Derivation else_part tree → Holds tree → (in_loop : Bool) → ElseIs in_loop tree
    else_part_is (single is) = none_such is
    else_part_is (made_of k.Else b a s) = in_else s
    else_part_is (made_of _ b a s) = none_such b

    in_else : {parts : PlainTrees} → In k.Else parts → AllHold parts → (in_loop : Bool) → ElseIs in_loop (node k.Else parts)
    in_else (a_row (a_word {token = word} w (a_part d at_end))) = λ holds in_loop. else_is word w d in_loop (statement_is d (statement_tree d) holds.1.0 in_loop)

    in_while : {parts : PlainTrees} → In k.While parts → AllHold parts → (in_loop : Bool) → Are in_loop (node k.While parts)
    in_while (a_row (a_word {token = word} w (a_word {token = bracket} v (a_part d (a_word {token = close} u (a_part e at_end)))))) =
        λ holds in_loop. while_is word bracket close w v u d holds.1.1.0 e in_loop (statement_is e (statement_tree e) holds.1.1.1.1.0 true)

    in_do : {parts : PlainTrees} → In k.Do parts → AllHold parts → (in_loop : Bool) → Are in_loop (node k.Do parts)
    in_do (a_row (a_word {token = word} w (a_part e (a_word {token = again} x (a_word {token = bracket} v (a_part d (a_word {token = close} u (a_word {token = end_} y at_end)))))))) =
        λ holds in_loop. do_is word again bracket close end_ w x v u y d holds.1.1.1.1.0 e in_loop (statement_is e (statement_tree e) holds.1.0 true)

    in_for : {parts : PlainTrees} → In k.For parts → AllHold parts → (in_loop : Bool) → Are in_loop (node k.For parts)
    in_for (a_row (a_word {token = word} w (a_word {token = bracket} v (a_part f (given d (a_word {token = end_} y (given g (a_word {token = close} u (a_part e at_end))))))))) =
        λ holds in_loop. for_is word bracket end_ close f holds.1.1.0 w v y u (there d holds.1.1.1.0) (there g holds.1.1.1.1.1.0) e in_loop (statement_is e (statement_tree e) holds.1.1.1.1.1.1.1.0 true)
    in_for (a_row (a_word {token = word} w (a_word {token = bracket} v (a_part f (given d (a_word {token = end_} y (left_out (a_word {token = close} u (a_part e at_end))))))))) =
        λ holds in_loop. for_is word bracket end_ close f holds.1.1.0 w v y u (there d holds.1.1.1.0) gone e in_loop (statement_is e (statement_tree e) holds.1.1.1.1.1.1.1.0 true)
    in_for (a_row (a_word {token = word} w (a_word {token = bracket} v (a_part f (left_out (a_word {token = end_} y (given g (a_word {token = close} u (a_part e at_end))))))))) =
        λ holds in_loop. for_is word bracket end_ close f holds.1.1.0 w v y u gone (there g holds.1.1.1.1.1.0) e in_loop (statement_is e (statement_tree e) holds.1.1.1.1.1.1.1.0 true)
    in_for (a_row (a_word {token = word} w (a_word {token = bracket} v (a_part f (left_out (a_word {token = end_} y (left_out (a_word {token = close} u (a_part e at_end))))))))) =
        λ holds in_loop. for_is word bracket end_ close f holds.1.1.0 w v y u gone gone e in_loop (statement_is e (statement_tree e) holds.1.1.1.1.1.1.1.0 true)

    in_jump : {parts : PlainTrees} → In k.Jump parts → AllHold parts → (in_loop : Bool) → Are in_loop (node k.Jump parts)
    in_jump (a_row (a_word {token = word} w (a_word {token = end_} y at_end))) = λ holds in_loop. jump_is word end_ w y in_loop

    in_return : {parts : PlainTrees} → In k.Return parts → AllHold parts → (in_loop : Bool) → Are in_loop (node k.Return parts)
    in_return (a_row (a_word {token = word} w (given d (a_word {token = end_} y at_end)))) = λ holds in_loop. return_is word end_ w y (there d holds.1.0) in_loop
    in_return (a_row (a_word {token = word} w (left_out (a_word {token = end_} y at_end)))) = λ holds in_loop. return_is word end_ w y gone in_loop

    items_are : {parts : PlainTrees} → Each item parts → AllHold parts → (in_loop : Bool) → ItemsAre in_loop parts
    items_are no_more = λ holds in_loop s names. (tt, (refl, refl))
    items_are (one_more {rest = rest} d others) = λ holds in_loop. item_first rest d holds.0 in_loop (λ h. statement_is d h holds.0 in_loop) (items_are others holds.1 in_loop)

  -- ---- the blocks of functions

  pub body_part : {tree : PlainTree} → Derivation grammar.block tree → Holds tree → (s : State) → HasNames s.scope → Part by (λ j u. u ≡ uses_in_body by result tree s) (judged_body s.scope result s.slots tree) (names_in tree)
  body_part (single is) holds s names = none_such is
  body_part (made_of k.Block b a (a_row (a_word {token = open_} w (given (made_of k.Items {parts = list} c e (one_or_more each any)) (a_word {token = close} v at_end))))) holds s names =
      let parts : PlainTrees = more (leaf open_) (more (node k.Items list) (more (leaf close) none)) in
      let m : Checked JudgedItems = judged_items (around_in false s.scope) s.slots list in
      let R_of : JudgedItems → List Use → Type 0 = λ j u. u ≡ uses_in_parts by result false k.Block false parts s in
      subst (Part by R_of m) (sym (names_of_node k.Block parts))
      (made_of_it by R_of (names_among parts) m (λ j. j)
      (part_as by (λ j u. Unit {0} × (u ≡ uses_in_parts by result false k.Block false parts s)) R_of (names_among parts) (m >>= (λ j. give j))
      (braces (λ j now. Unit {0}) (λ j. j) open_ close list w v false (items_are each holds.1.0 false) s names (λ j now is. tt)) (λ j u q. q.1)))
  body_part (made_of k.Block b a (a_row (a_word w (given (single is) row_)))) holds s names = none_such is
  body_part (made_of k.Block b a (a_row (a_word w (given (made_of _ c e r) row_)))) holds s names = none_such c
  body_part (made_of k.Block b a (a_row (a_word {token = open_} w (left_out (a_word {token = close} v at_end))))) holds s names =
      let parts : PlainTrees = more (leaf open_) (more absent (more (leaf close) none)) in
      subst (Part by (λ (j : JudgedItems) u. u ≡ uses_in_parts by result false k.Block false parts s) (give (items_as s.slots no_item))) (sym (names_of_node k.Block parts))
      (part_as by (λ (j : JudgedItems) u. Unit {0} × (u ≡ uses_in_parts by result false k.Block false parts s)) (λ (j : JudgedItems) u. u ≡ uses_in_parts by result false k.Block false parts s) (names_among parts) (give (items_as s.slots no_item))
      (empty_braces (λ (j : JudgedItems) now. Unit {0}) (items_as s.slots no_item) open_ close w v false s tt) (λ j u q. q.1))
  body_part (made_of _ b a r) holds s names = none_such b
