-- Statements are read as they are judged.
use Rattle.std.proofs.Common.{◌≡◌, ℕ, Bool, true, false, List, [], ◌∷◌, refl, sym, subst, ◌∙◌, length}
use Rattle.std.specs.Prelude.{Some, not, pos, if◌then◌else◌}
use Rattle.std.proofs.lemmas.Bool.{false≢true}
use Rattle.c_text.specs.Token.{PlainToken}
use Rattle.c_types.specs.Types.{PlainType}
use Rattle.c_tree.specs.declared.kinds.Kind.{Kind}
use Rattle.c_tree.specs.declared.kinds.Kind.TheVariants as k
use Rattle.c_tree.specs.declared.terminals.Terminal.TheVariants as t
use Rattle.c_tree.specs.Trees.{PlainTree, PlainTrees, leaf, node, none, more, absent}
use Rattle.c_tree.specs.Grammar.{Category, expression, statement, else_part, block, items, item, for_start, belongs}
use Rattle.core_meaning.specs.Program.{PlainExpression, PlainStatement, constant, evaluate, break_loop, continue_loop, return_nothing, return_value}
use Rattle.core_meaning.specs.Program as core
use Rattle.core_meaning.specs.Checking.{Entity, Checked, ◌>>=◌, give, unless_so, found_or}
use Rattle.core_meaning.specs.Entities.{Table, Local, Scope}
use Rattle.core_meaning.specs.Typing.{Typed, fits_into}
use Rattle.core_meaning.specs.Expressions.{judged, valued, judged_condition, condition_value, first_token, is_void, unused}
use Rattle.core_meaning.specs.Declarations.{judged_locals}
use Rattle.core_meaning.specs.Statements.{Around, Judged, JudgedItems, judged_as, items_as, in_block, within_loop, before_items, one_item, nothing_to_do, discarded, condition_or_true, expression_statement, jump, returned, loop_of, judged_statement, judged_else, judged_items}
use Rattle.core_meaning.specs.declared.refusals.TypeKind.TheVariants.{Misplaced}
use Rattle.tree_derivations.specs.Derivations.{Derivation, single, made_of, a_row, at_end, a_word, a_part, left_out, given, one_or_more, Each, no_more, one_more}
use Rattle.bindings.specs.Visible.{Entry, Occurrence, Reading, passed, leave}
use Rattle.bindings.specs.Bindings.{is_name, read_expression, read_declaration, read_statement, read_statements}
use Rattle.bindings.specs.Bindings as bindings
use Rattle.bindings.specs.Judged.{Identified}
use Rattle.bindings.proofs.Histories.{Grows}
use Rattle.bindings.proofs.Follows.{Adds, adds_none, adds_both, Follows, follows_both, follows_growing, follows_as_growing, quietly_before, quietly_follows, yields, yields_both}
use Rattle.bindings.proofs.Spellings.{Holds, AllHold, no_name}
use Rattle.bindings.proofs.Operators.{Anything, yields_unless, yields_found, condition_yields}
use Rattle.bindings.proofs.Related.{Room, numbering, Related}
use Rattle.bindings.proofs.Growing.{IsSlots}
use Rattle.bindings.proofs.Scopes.{related_block, related_left}
use Rattle.bindings.proofs.Expressions.{read_leaf, skip, Rel, After, Goal, Operands, Values, then_quietly, quietly}
use Rattle.bindings.proofs.ExpressionTrees.{expression_read}
use Rattle.bindings.proofs.Initialisers.{valued_read}
use Rattle.bindings.proofs.Additions.{statement_adds, statements_add}
use Rattle.bindings.proofs.Locals.{room, LocalsAfter, specifiers_are, declarators_are, LocalsRead, judged_locals_read}

-- ---- an expression that may be left out

pub data Optional : PlainTree → Type 0 where
  nothing_ : Optional absent
  something : {n : ℕ} {tree : PlainTree} → Derivation (expression n) tree → Holds tree → Optional tree

pub statement_expression : {n : ℕ} {tree : PlainTree} → Derivation (expression n) tree → (r : Reading) → read_statement tree r ≡ read_expression tree r
statement_expression (single is) r = refl
statement_expression (made_of k.Block b a s) r = absurd cc
statement_expression (made_of k.For b a s) r = absurd cc
statement_expression (made_of k.Items b a s) r = absurd cc
statement_expression (made_of k.If b a s) r = absurd cc
statement_expression (made_of k.Else b a s) r = absurd cc
statement_expression (made_of k.While b a s) r = absurd cc
statement_expression (made_of k.Do b a s) r = absurd cc
statement_expression (made_of k.LocalDeclaration b a s) r = absurd cc
statement_expression (made_of _ b a s) r = refl

optional_statement : {tree : PlainTree} → Optional tree → (r : Reading) → read_statement tree r ≡ read_expression tree r
optional_statement nothing_ r = refl
optional_statement (something d h) r = statement_expression d r

discarded_is : {n : ℕ} {tree : PlainTree} → Derivation (expression n) tree → (scope : Scope) (otherwise : PlainExpression) → discarded scope tree otherwise ≡ (valued scope tree >>= (λ x. give (unused x.core)))
discarded_is (single is) scope otherwise = refl
discarded_is (made_of k.Absent b a s) scope otherwise = absurd cc
discarded_is (made_of _ b a s) scope otherwise = refl

condition_is : {n : ℕ} {tree : PlainTree} → Derivation (expression n) tree → (scope : Scope) (behind : PlainToken) → condition_or_true scope tree behind ≡ judged_condition scope tree behind
condition_is (single is) scope behind = refl
condition_is (made_of k.Absent b a s) scope behind = absurd cc
condition_is (made_of _ b a s) scope behind = refl

expression_is : {n : ℕ} {tree : PlainTree} → Derivation (expression n) tree → (scope : Scope) → expression_statement scope tree ≡ (valued scope tree >>= (λ x. give (evaluate (unused x.core))))
expression_is (single is) scope = refl
expression_is (made_of k.Absent b a s) scope = absurd cc
expression_is (made_of _ b a s) scope = refl

returned_is : {n : ℕ} {tree : PlainTree} → Derivation (expression n) tree → (around : Around) (word : PlainToken) → returned around word tree ≡ (unless_so (not (is_void around.result)) Misplaced word >>= (λ placed. valued around.scope tree >>= (λ x. found_or (fits_into around.result x) Misplaced word >>= (λ c. give (return_value c)))))
returned_is (single is) around word = refl
returned_is (made_of k.Absent b a s) around word = absurd cc
returned_is (made_of _ b a s) around word = refl

module _ (at : ℕ → Entity) (taken : Room) (scope : Scope) where
  condition_read :
      {n : ℕ} (tree : PlainTree) (d : Derivation (expression n) tree) → Holds tree → (behind : PlainToken) (r : Reading) (h : List Identified) → Rel at taken scope r h
      → Goal at taken scope Anything h r.found (read_statement tree r) (judged_condition scope tree behind)
  condition_read tree d holds behind r h rel =
      subst (λ s. Goal at taken scope Anything h r.found s (judged_condition scope tree behind)) (sym (statement_expression d r))
      (then_quietly at taken scope (Operands at taken scope) Anything h r.found (read_expression tree r) (judged scope tree) (condition_value scope (first_token tree behind))
      (expression_read at taken scope d holds r h rel) (λ x m. condition_yields scope.tags scope (first_token tree behind) x m))

  valued_statement :
      {A : Type 0} {n : ℕ} (tree : PlainTree) (d : Derivation (expression n) tree) → Holds tree → (make : Typed → A) (r : Reading) (h : List Identified) → Rel at taken scope r h
      → Goal at taken scope Anything h r.found (read_statement tree r) (valued scope tree >>= (λ x. give (make x)))
  valued_statement tree d holds make r h rel =
      subst (λ s. Goal at taken scope Anything h r.found s (valued scope tree >>= (λ x. give (make x)))) (sym (statement_expression d r))
      (then_quietly at taken scope (Values at taken scope) Anything h r.found (read_expression tree r) (valued scope tree) (λ x. give (make x))
      (valued_read at taken scope tree (expression_read at taken scope d holds) r h rel) (λ x m. yields Anything (make x) tt))

  discarded_read :
      {tree : PlainTree} → Optional tree → (otherwise : PlainExpression) (r : Reading) (h : List Identified) → Rel at taken scope r h
      → Goal at taken scope Anything h r.found (read_statement tree r) (discarded scope tree otherwise)
  discarded_read nothing_ otherwise r h rel = quietly at taken scope Anything h r (give otherwise) rel (yields Anything otherwise tt)
  discarded_read (something {tree = tree} d holds) otherwise r h rel =
      subst (λ c. Goal at taken scope Anything h r.found (read_statement tree r) c) (sym (discarded_is d scope otherwise)) (valued_statement tree d holds (λ x. unused x.core) r h rel)

  condition_or_read :
      {tree : PlainTree} → Optional tree → (behind : PlainToken) (r : Reading) (h : List Identified) → Rel at taken scope r h
      → Goal at taken scope Anything h r.found (read_statement tree r) (condition_or_true scope tree behind)
  condition_or_read nothing_ behind r h rel = quietly at taken scope Anything h r (give (constant (pos 1))) rel (yields Anything (constant (pos 1)) tt)
  condition_or_read (something {tree = tree} d holds) behind r h rel =
      subst (λ c. Goal at taken scope Anything h r.found (read_statement tree r) c) (sym (condition_is d scope behind)) (condition_read tree d holds behind r h rel)

  expression_statement_read :
      {tree : PlainTree} → Optional tree → (r : Reading) (h : List Identified) → Rel at taken scope r h
      → Goal at taken scope Anything h r.found (read_statement tree r) (expression_statement scope tree)
  expression_statement_read nothing_ r h rel = quietly at taken scope Anything h r (give (core.block core.no_item)) rel (yields Anything (core.block core.no_item) tt)
  expression_statement_read (something {tree = tree} d holds) r h rel =
      subst (λ c. Goal at taken scope Anything h r.found (read_statement tree r) c) (sym (expression_is d scope)) (valued_statement tree d holds (λ x. evaluate (unused x.core)) r h rel)

-- ---- statements

module _ (at : ℕ → Entity) (slots_are : IsSlots at) where
  abbrev pub StatementAfter : Scope → Reading → Judged → List Identified → Type 0
  StatementAfter scope r x h = Rel at (room (length x.slots)) scope r h

  abbrev pub StatementRead : PlainTree → Type 0
  StatementRead tree =
      (around : Around) (slots : List PlainType) (r : Reading) (h : List Identified) → Rel at (room (length slots)) around.scope r h
      → Follows (numbering at) h r.found (read_statement tree r).found (StatementAfter around.scope (read_statement tree r)) (judged_statement around slots tree)

  abbrev pub ElseRead : PlainTree → Type 0
  ElseRead tree =
      (around : Around) (slots : List PlainType) (r : Reading) (h : List Identified) → Rel at (room (length slots)) around.scope r h
      → Follows (numbering at) h r.found (read_statement tree r).found (StatementAfter around.scope (read_statement tree r)) (judged_else around slots tree)

  -- within a block, where locals come to be visible
  pub record InBlock (scope : Scope) (file blocks : List Entry) (n : ℕ) (h : List Identified) : Type 0 where
    pub tables : List (Table Local)
    pub rel : Related at (room n) (record scope { blocks = tables }) file blocks h

  abbrev pub ItemsAfter : Scope → Reading → JudgedItems → List Identified → Type 0
  ItemsAfter scope r x h = InBlock scope r.file r.blocks (length x.slots) h

  abbrev pub ItemsRead : PlainTrees → Type 0
  ItemsRead parts =
      (around : Around) (slots : List PlainType) (r : Reading) (h : List Identified) → Rel at (room (length slots)) around.scope r h
      → Follows (numbering at) h r.found (read_statements parts r).found (ItemsAfter around.scope (read_statements parts r)) (judged_items around slots parts)

  -- a statement that takes no slots
  plain_statement :
      {A : Type 0} (around : Around) (slots : List PlainType) (h : List Identified) (found : List Occurrence) (r : Reading) (c : Checked A) (make : A → PlainStatement)
      → Goal at (room (length slots)) around.scope Anything h found r c
      → Follows (numbering at) h found r.found (StatementAfter around.scope r) (c >>= (λ x. give (judged_as slots (make x))))
  plain_statement around slots h found r c make f =
      follows_both (numbering at) h found r.found r.found (After at (room (length slots)) around.scope Anything r) (StatementAfter around.scope r) c (λ x. give (judged_as slots (make x))) f
      (λ x g v. quietly_follows (numbering at) g r.found (λ y. y ≡ judged_as slots (make x)) (StatementAfter around.scope r) (give (judged_as slots (make x))) (yields (λ y. y ≡ judged_as slots (make x)) (judged_as slots (make x)) refl)
      (λ y e. subst (λ (z : Judged). Rel at (room (length z.slots)) around.scope r g) (sym e) v.1))
      (adds_none r.found)

  -- a judgement of an expression first
  condition_first :
      {A B : Type 0} (scope : Scope) (taken : Room) (h : List Identified) (found : List Occurrence) (r s : Reading) (W : B → List Identified → Type 0) (c : Checked A) (next : A → Checked B)
      → Goal at taken scope Anything h found r c → ((x : A) (g : List Identified) → Rel at taken scope r g → Grows h g → Follows (numbering at) g r.found s.found W (next x)) → Adds r.found s.found
      → Follows (numbering at) h found s.found W (c >>= next)
  condition_first scope taken h found r s W c next f g adds =
      follows_growing (numbering at) h found r.found s.found (After at taken scope Anything r) W c next f (λ x after v grows. g x after v.1 grows) adds

  -- the last of a statement's parts
  then_made :
      {A : Type 0} (scope : Scope) (h : List Identified) (found : List Occurrence) (r : Reading) (W : A → List Identified → Type 0) (V : Judged → List Identified → Type 0) (c : Checked A) (make : A → Judged)
      → Follows (numbering at) h found r.found W c → ((x : A) (g : List Identified) → W x g → V (make x) g) → Follows (numbering at) h found r.found V (c >>= (λ x. give (make x)))
  then_made scope h found r W V c make f g =
      follows_both (numbering at) h found r.found r.found W V c (λ x. give (make x)) f
      (λ x after w. record { os = []; is = sym (Rattle.std.proofs.lemmas.List.append-nil r.found); alike = tt; plain = refl; used = refl; after = g x after w }) (adds_none r.found)

  -- ---- blocks

  block_read :
      (open_ close : PlainToken) (parts : PlainTrees) → is_name open_ ≡ false → is_name close ≡ false → ItemsRead parts
      → StatementRead (node k.Block (more (leaf open_) (more (node k.Items parts) (more (leaf close) none))))
  block_read open_ close parts o c read around slots r h rel =
      let all : Checked Judged = judged_statement around slots (node k.Block (more (leaf open_) (more (node k.Items parts) (more (leaf close) none)))) in
      let one_ : Reading = read_statements parts (passed r) in
      skip open_ r o (λ s. Follows (numbering at) h r.found (leave r (read_leaf close (read_statements parts s))).found (StatementAfter around.scope (leave r (read_leaf close (read_statements parts s)))) all)
      (skip close one_ c (λ s. Follows (numbering at) h r.found s.found (StatementAfter around.scope (leave r s)) all)
      (follows_growing (numbering at) h r.found one_.found one_.found (ItemsAfter (in_block around).scope one_) (StatementAfter around.scope (leave r one_))
      (judged_items (in_block around) slots parts) (λ inner. give (judged_as inner.slots (core.block inner.core)))
      (read (in_block around) slots (passed r) h (related_block at (room (length slots)) around.scope r.file r.blocks h rel))
      (λ inner g w grows. record {
        os = [];
        is = sym (Rattle.std.proofs.lemmas.List.append-nil one_.found);
        alike = tt;
        plain = refl;
        used = refl;
        after = related_left at (room (length slots)) (room (length inner.slots)) around.scope w.tables r.file one_.file r.blocks one_.blocks h g rel refl grows w.rel;
      })
      (adds_none one_.found)))

  empty_block_read : (open_ close : PlainToken) → is_name open_ ≡ false → is_name close ≡ false → StatementRead (node k.Block (more (leaf open_) (more absent (more (leaf close) none))))
  empty_block_read open_ close o c around slots r h rel =
      let all : Checked Judged = give (judged_as slots (core.block core.no_item)) in
      skip open_ r o (λ s. Follows (numbering at) h r.found (leave r (read_leaf close s)).found (StatementAfter around.scope (leave r (read_leaf close s))) all)
      (skip close (passed r) c (λ s. Follows (numbering at) h r.found s.found (StatementAfter around.scope (leave r s)) all)
      (record { os = []; is = sym (Rattle.std.proofs.lemmas.List.append-nil r.found); alike = tt; plain = refl; used = refl; after = rel }))

  -- ---- choices and loops

  if_read :
      (word bracket close : PlainToken) (condition first second : PlainTree) {n : ℕ} (d : Derivation (expression n) condition) → Holds condition → is_name word ≡ false → is_name bracket ≡ false
      → is_name close ≡ false → StatementRead first → ElseRead second
      → StatementRead (node k.If (more (leaf word) (more (leaf bracket) (more condition (more (leaf close) (more first (more second none)))))))
  if_read word bracket close condition first second d holds w b c f g around slots r h rel =
      let all : Checked Judged = judged_statement around slots (node k.If (more (leaf word) (more (leaf bracket) (more condition (more (leaf close) (more first (more second none))))))) in
      let V : Reading → Judged → List Identified → Type 0 = λ s. StatementAfter around.scope s in
      let one_ : Reading = passed (passed r) in
      let two_ : Reading = passed (read_statement condition one_) in
      let three_ : Reading = read_statement first two_ in
      let last : Reading = read_statement second three_ in
      skip word r w (λ s. Follows (numbering at) h r.found (read_statement second (read_statement first (read_leaf close (read_statement condition (read_leaf bracket s))))).found (V (read_statement second (read_statement first (read_leaf close (read_statement condition (read_leaf bracket s)))))) all)
      (skip bracket (passed r) b (λ s. Follows (numbering at) h r.found (read_statement second (read_statement first (read_leaf close (read_statement condition s)))).found (V (read_statement second (read_statement first (read_leaf close (read_statement condition s))))) all)
      (skip close (read_statement condition one_) c (λ s. Follows (numbering at) h r.found (read_statement second (read_statement first s)).found (V (read_statement second (read_statement first s))) all)
      (condition_first around.scope (room (length slots)) h r.found two_ last (V last) (judged_condition around.scope condition close)
      (λ x. judged_statement around slots first >>= (λ a. judged_else around a.slots second >>= (λ e. give (judged_as e.slots (core.selection x a.core e.core)))))
      (condition_read at (room (length slots)) around.scope condition d holds close one_ h rel)
      (λ x k1 rel2 grows. follows_both (numbering at) k1 two_.found three_.found last.found (V three_) (V last) (judged_statement around slots first)
      (λ a. judged_else around a.slots second >>= (λ e. give (judged_as e.slots (core.selection x a.core e.core))))
      (f around slots two_ k1 rel2)
      (λ a k2 rel3. then_made around.scope k2 three_.found last (V last) (V last) (judged_else around a.slots second) (λ e. judged_as e.slots (core.selection x a.core e.core))
      (g around a.slots three_ k2 rel3) (λ e k3 rel4. rel4))
      (statement_adds second three_))
      (adds_both (statement_adds first two_) (statement_adds second three_)))))

  while_read :
      (word bracket close : PlainToken) (condition body : PlainTree) {n : ℕ} (d : Derivation (expression n) condition) → Holds condition → is_name word ≡ false → is_name bracket ≡ false
      → is_name close ≡ false → StatementRead body
      → StatementRead (node k.While (more (leaf word) (more (leaf bracket) (more condition (more (leaf close) (more body none))))))
  while_read word bracket close condition body d holds w b c f around slots r h rel =
      let all : Checked Judged = judged_statement around slots (node k.While (more (leaf word) (more (leaf bracket) (more condition (more (leaf close) (more body none)))))) in
      let V : Reading → Judged → List Identified → Type 0 = λ s. StatementAfter around.scope s in
      let one_ : Reading = passed (passed r) in
      let two_ : Reading = passed (read_statement condition one_) in
      let last : Reading = read_statement body two_ in
      skip word r w (λ s. Follows (numbering at) h r.found (read_statement body (read_leaf close (read_statement condition (read_leaf bracket s)))).found (V (read_statement body (read_leaf close (read_statement condition (read_leaf bracket s))))) all)
      (skip bracket (passed r) b (λ s. Follows (numbering at) h r.found (read_statement body (read_leaf close (read_statement condition s))).found (V (read_statement body (read_leaf close (read_statement condition s)))) all)
      (skip close (read_statement condition one_) c (λ s. Follows (numbering at) h r.found (read_statement body s).found (V (read_statement body s)) all)
      (condition_first around.scope (room (length slots)) h r.found two_ last (V last) (judged_condition around.scope condition close)
      (λ x. judged_statement (within_loop around) slots body >>= (λ s. give (loop_of true x nothing_to_do s)))
      (condition_read at (room (length slots)) around.scope condition d holds close one_ h rel)
      (λ x k1 rel2 grows. then_made around.scope k1 two_.found last (V last) (V last) (judged_statement (within_loop around) slots body) (λ s. loop_of true x nothing_to_do s)
      (f (within_loop around) slots two_ k1 rel2) (λ e k2 rel3. rel3))
      (statement_adds body two_))))

  do_read :
      (word again bracket close end_ : PlainToken) (body condition : PlainTree) {n : ℕ} (d : Derivation (expression n) condition) → Holds condition → is_name word ≡ false → is_name again ≡ false
      → is_name bracket ≡ false → is_name close ≡ false → is_name end_ ≡ false → StatementRead body
      → StatementRead (node k.Do (more (leaf word) (more body (more (leaf again) (more (leaf bracket) (more condition (more (leaf close) (more (leaf end_) none))))))))
  do_read word again bracket close end_ body condition d holds w a b c e f around slots r h rel =
      let all : Checked Judged = judged_statement around slots (node k.Do (more (leaf word) (more body (more (leaf again) (more (leaf bracket) (more condition (more (leaf close) (more (leaf end_) none)))))))) in
      let V : Reading → Judged → List Identified → Type 0 = λ s. StatementAfter around.scope s in
      let one_ : Reading = read_statement body (passed r) in
      let two_ : Reading = passed (passed one_) in
      let last : Reading = read_statement condition two_ in
      skip word r w (λ s. Follows (numbering at) h r.found (read_leaf end_ (read_leaf close (read_statement condition (read_leaf bracket (read_leaf again (read_statement body s)))))).found (V (read_leaf end_ (read_leaf close (read_statement condition (read_leaf bracket (read_leaf again (read_statement body s))))))) all)
      (skip again one_ a (λ s. Follows (numbering at) h r.found (read_leaf end_ (read_leaf close (read_statement condition (read_leaf bracket s)))).found (V (read_leaf end_ (read_leaf close (read_statement condition (read_leaf bracket s))))) all)
      (skip bracket (passed one_) b (λ s. Follows (numbering at) h r.found (read_leaf end_ (read_leaf close (read_statement condition s))).found (V (read_leaf end_ (read_leaf close (read_statement condition s)))) all)
      (skip close last c (λ s. Follows (numbering at) h r.found (read_leaf end_ s).found (V (read_leaf end_ s)) all)
      (skip end_ (passed last) e (λ s. Follows (numbering at) h r.found s.found (V s) all)
      (follows_both (numbering at) h r.found one_.found last.found (V one_) (V last) (judged_statement (within_loop around) slots body)
      (λ s. judged_condition around.scope condition close >>= (λ x. give (loop_of false x nothing_to_do s)))
      (f (within_loop around) slots (passed r) h rel)
      (λ s k1 rel2. then_made around.scope k1 one_.found last (After at (room (length s.slots)) around.scope Anything last) (V last) (judged_condition around.scope condition close) (λ x. loop_of false x nothing_to_do s)
      (condition_read at (room (length s.slots)) around.scope condition d holds close two_ k1 rel2) (λ x k2 v. v.1))
      (statement_adds condition two_))))))

  jump_read : (word end_ : PlainToken) → is_name word ≡ false → is_name end_ ≡ false → StatementRead (node k.Jump (more (leaf word) (more (leaf end_) none)))
  jump_read word end_ w e around slots r h rel =
      let all : Checked Judged = jump around word >>= (λ x. give (judged_as slots x)) in
      skip word r w (λ s. Follows (numbering at) h r.found (read_leaf end_ s).found (StatementAfter around.scope (read_leaf end_ s)) all)
      (skip end_ (passed r) e (λ s. Follows (numbering at) h r.found s.found (StatementAfter around.scope s) all)
      (plain_statement around slots h r.found r (jump around word) (λ x. x)
      (quietly at (room (length slots)) around.scope Anything h r (jump around word) rel
      (yields_both (λ x. around.in_loop ≡ true) Anything (unless_so around.in_loop Misplaced word) (λ placed. give (if Rattle.std.specs.Str.bytes_eq word.text (Rattle.std.specs.Prelude.codes "break") then break_loop else continue_loop))
      (yields_unless around.in_loop Misplaced word tt) (λ x p. yields Anything (if Rattle.std.specs.Str.bytes_eq word.text (Rattle.std.specs.Prelude.codes "break") then break_loop else continue_loop) tt)))))

  returned_read :
      {tree : PlainTree} → Optional tree → (around : Around) (n : ℕ) (word : PlainToken) (r : Reading) (h : List Identified) → Rel at (room n) around.scope r h
      → Goal at (room n) around.scope Anything h r.found (read_expression tree r) (returned around word tree)
  returned_read nothing_ around n word r h rel =
      quietly at (room n) around.scope Anything h r (returned around word absent) rel
      (yields_both (λ x. is_void around.result ≡ true) Anything (unless_so (is_void around.result) Misplaced word) (λ placed. give return_nothing) (yields_unless (is_void around.result) Misplaced word tt) (λ x p. yields Anything return_nothing tt))
  returned_read (something {tree = tree} d holds) around n word r h rel =
      subst (λ c. Goal at (room n) around.scope Anything h r.found (read_expression tree r) c) (sym (returned_is d around word))
      (quietly_before (numbering at) h r.found (read_expression tree r).found (λ x. not (is_void around.result) ≡ true) (After at (room n) around.scope Anything (read_expression tree r))
      (unless_so (not (is_void around.result)) Misplaced word) (λ placed. valued around.scope tree >>= (λ x. found_or (fits_into around.result x) Misplaced word >>= (λ c. give (return_value c))))
      (yields_unless (not (is_void around.result)) Misplaced word tt)
      (λ x p. then_quietly at (room n) around.scope (Values at (room n) around.scope) Anything h r.found (read_expression tree r) (valued around.scope tree)
      (λ x. found_or (fits_into around.result x) Misplaced word >>= (λ c. give (return_value c)))
      (valued_read at (room n) around.scope tree (expression_read at (room n) around.scope d holds) r h rel)
      (λ x m. yields_both (λ c. fits_into around.result x ≡ Some c) Anything (found_or (fits_into around.result x) Misplaced word) (λ c. give (return_value c)) (yields_found (fits_into around.result x) Misplaced word tt) (λ c q. yields Anything (return_value c) tt))))

  return_read : (word end_ : PlainToken) (tree : PlainTree) → Optional tree → is_name word ≡ false → is_name end_ ≡ false → StatementRead (node k.Return (more (leaf word) (more tree (more (leaf end_) none))))
  return_read word end_ tree o w e around slots r h rel =
      let all : Checked Judged = returned around word tree >>= (λ x. give (judged_as slots x)) in
      skip word r w (λ s. Follows (numbering at) h r.found (read_leaf end_ (read_expression tree s)).found (StatementAfter around.scope (read_leaf end_ (read_expression tree s))) all)
      (skip end_ (read_expression tree (passed r)) e (λ s. Follows (numbering at) h r.found s.found (StatementAfter around.scope s) all)
      (plain_statement around slots h r.found (read_expression tree (passed r)) (returned around word tree) (λ x. x) (returned_read o around (length slots) word (passed r) h rel)))

  expression_read_statement : (end_ : PlainToken) (tree : PlainTree) → Optional tree → is_name end_ ≡ false → StatementRead (node k.ExpressionStatement (more tree (more (leaf end_) none)))
  expression_read_statement end_ tree o e around slots r h rel =
      let all : Checked Judged = expression_statement around.scope tree >>= (λ x. give (judged_as slots x)) in
      skip end_ (read_expression tree r) e (λ s. Follows (numbering at) h r.found s.found (StatementAfter around.scope s) all)
      (plain_statement around slots h r.found (read_expression tree r) (expression_statement around.scope tree) (λ x. x)
      (subst (λ s. Goal at (room (length slots)) around.scope Anything h r.found s (expression_statement around.scope tree)) (optional_statement o r) (expression_statement_read at (room (length slots)) around.scope o r h rel)))

  -- the rest of a `for`, behind its first part
  for_rest :
      (scope : Scope) (tables : List (Table Local)) (end_ close : PlainToken) (condition step body : PlainTree) → Optional condition → Optional step → is_name end_ ≡ false → is_name close ≡ false
      → StatementRead body → (around : Around) (slots : List PlainType) (make : PlainStatement → PlainStatement) → around.scope ≡ record scope { blocks = tables } → (r : Reading) (h : List Identified)
      → Rel at (room (length slots)) (record scope { blocks = tables }) r h
      → Follows (numbering at) h r.found (read_statement body (read_leaf close (read_statement step (read_leaf end_ (read_statement condition r))))).found
      (λ (x : Judged) g. InBlock scope (read_statement body (read_leaf close (read_statement step (read_leaf end_ (read_statement condition r))))).file (read_statement body (read_leaf close (read_statement step (read_leaf end_ (read_statement condition r))))).blocks (length x.slots) g)
      (condition_or_true (record scope { blocks = tables }) condition end_ >>= (λ c. discarded (record scope { blocks = tables }) step nothing_to_do >>= (λ s. judged_statement around slots body >>= (λ b. give (judged_as b.slots (make (core.loop true c s b.core)))))))
  for_rest scope tables end_ close condition step body oc os_ e c f around slots make same r h rel =
      let inner : Scope = record scope { blocks = tables } in
      let all : Checked Judged = condition_or_true inner condition end_ >>= (λ c. discarded inner step nothing_to_do >>= (λ s. judged_statement around slots body >>= (λ b. give (judged_as b.slots (make (core.loop true c s b.core)))))) in
      let V : Reading → Judged → List Identified → Type 0 = λ s x g. InBlock scope s.file s.blocks (length x.slots) g in
      let one_ : Reading = passed (read_statement condition r) in
      let two_ : Reading = passed (read_statement step one_) in
      let last : Reading = read_statement body two_ in
      skip end_ (read_statement condition r) e (λ s. Follows (numbering at) h r.found (read_statement body (read_leaf close (read_statement step s))).found (V (read_statement body (read_leaf close (read_statement step s)))) all)
      (skip close (read_statement step one_) c (λ s. Follows (numbering at) h r.found (read_statement body s).found (V (read_statement body s)) all)
      (condition_first inner (room (length slots)) h r.found one_ last (V last) (condition_or_true inner condition end_)
      (λ c. discarded inner step nothing_to_do >>= (λ s. judged_statement around slots body >>= (λ b. give (judged_as b.slots (make (core.loop true c s b.core))))))
      (condition_or_read at (room (length slots)) inner oc end_ r h rel)
      (λ x k1 rel1 g1. condition_first inner (room (length slots)) k1 one_.found two_ last (V last) (discarded inner step nothing_to_do)
      (λ s. judged_statement around slots body >>= (λ b. give (judged_as b.slots (make (core.loop true x s b.core)))))
      (discarded_read at (room (length slots)) inner os_ nothing_to_do one_ k1 rel1)
      (λ s k2 rel2 g2. then_made around.scope k2 two_.found last (StatementAfter around.scope last) (V last) (judged_statement around slots body) (λ b. judged_as b.slots (make (core.loop true x s b.core)))
      (f around slots two_ k2 (subst (λ z. Rel at (room (length slots)) z two_ k2) (sym same) rel2))
      (λ b k3 rel3. record { tables = tables; rel = subst (λ z. Rel at (room (length b.slots)) z last k3) same rel3 }))
      (statement_adds body two_))
      (adds_both (statement_adds step one_) (statement_adds body two_))))

  -- what a `for` begins with
  abbrev ForRead : PlainTree → Type 0
  ForRead start =
      (word bracket end_ close : PlainToken) (condition step body : PlainTree) → is_name word ≡ false → is_name bracket ≡ false → is_name end_ ≡ false → is_name close ≡ false
      → Optional condition → Optional step → StatementRead body
      → StatementRead (node k.For (more (leaf word) (more (leaf bracket) (more start (more condition (more (leaf end_) (more step (more (leaf close) (more body none)))))))))

  -- behind a `for`, where its locals aren't visible any more
  left_for :
      (scope : Scope) (n : ℕ) (r one_ last : Reading) (h g : List Identified) (c : Checked Judged) → Rel at (room n) scope r h → Grows h g
      → Follows (numbering at) g one_.found last.found (λ (x : Judged) k1. InBlock scope last.file last.blocks (length x.slots) k1) c
      → Follows (numbering at) g one_.found last.found (StatementAfter scope (leave r last)) c
  left_for scope n r one_ last h g c rel grows f =
      follows_as_growing (numbering at) g one_.found last.found (λ (x : Judged) k1. InBlock scope last.file last.blocks (length x.slots) k1) (StatementAfter scope (leave r last)) c f
      (λ x k1 v further. related_left at (room n) (room (length x.slots)) scope v.tables r.file last.file r.blocks last.blocks h k1 rel refl (λ e i is. further e i (grows e i is)) v.rel)

  for_locals : (parts : PlainTrees) → LocalsRead at slots_are parts → ForRead (node k.LocalDeclaration parts)
  for_locals parts read word bracket end_ close condition step body w b e c oc os_ f around slots r h rel =
      let all : Checked Judged = judged_statement around slots (node k.For (more (leaf word) (more (leaf bracket) (more (node k.LocalDeclaration parts) (more condition (more (leaf end_) (more step (more (leaf close) (more body none))))))))) in
      let behind : Reading → Reading = λ s. read_statement body (read_leaf close (read_statement step (read_leaf end_ (read_statement condition s)))) in
      let one_ : Reading = read_declaration bindings.in_block parts (passed (passed r)) in
      let last : Reading = behind one_ in
      skip word r w (λ s. Follows (numbering at) h r.found (leave r (behind (read_declaration bindings.in_block parts (read_leaf bracket s)))).found (StatementAfter around.scope (leave r (behind (read_declaration bindings.in_block parts (read_leaf bracket s))))) all)
      (skip bracket (passed r) b (λ s. Follows (numbering at) h r.found (leave r (behind (read_declaration bindings.in_block parts s))).found (StatementAfter around.scope (leave r (behind (read_declaration bindings.in_block parts s)))) all)
      (follows_growing (numbering at) h r.found one_.found last.found (LocalsAfter at (in_block around).scope one_) (StatementAfter around.scope (leave r last))
      (judged_locals (in_block around).scope slots parts)
      (λ locals. condition_or_true locals.scope condition end_ >>= (λ c. discarded locals.scope step nothing_to_do >>= (λ s. judged_statement (within_loop (record around { scope = locals.scope })) locals.slots body >>= (λ b. give (judged_as b.slots (core.block (before_items locals.items (one_item (core.loop true c s b.core)))))))))
      (read (in_block around).scope slots (passed (passed r)) h (related_block at (room (length slots)) around.scope r.file r.blocks h rel))
      (λ locals g v grows.
      let inner : Scope = record around.scope { blocks = v.tables } in
      left_for around.scope (length slots) r one_ last h g
      (condition_or_true locals.scope condition end_ >>= (λ c. discarded locals.scope step nothing_to_do >>= (λ s. judged_statement (within_loop (record around { scope = locals.scope })) locals.slots body >>= (λ b. give (judged_as b.slots (core.block (before_items locals.items (one_item (core.loop true c s b.core)))))))))
      rel grows
      (subst (λ z. Follows (numbering at) g one_.found last.found (λ (x : Judged) k1. InBlock around.scope last.file last.blocks (length x.slots) k1)
      (condition_or_true z condition end_ >>= (λ c. discarded z step nothing_to_do >>= (λ s. judged_statement (within_loop (record around { scope = z })) locals.slots body >>= (λ b. give (judged_as b.slots (core.block (before_items locals.items (one_item (core.loop true c s b.core)))))))))) (sym v.is)
      (for_rest around.scope v.tables end_ close condition step body oc os_ e c f (within_loop (record around { scope = inner })) locals.slots (λ x. core.block (before_items locals.items (one_item x))) refl one_ g v.rel)))
      (adds_both (statement_adds condition one_) (adds_both (statement_adds (leaf end_) (read_statement condition one_)) (adds_both (statement_adds step (read_leaf end_ (read_statement condition one_)))
      (adds_both (statement_adds (leaf close) (read_statement step (read_leaf end_ (read_statement condition one_)))) (statement_adds body (read_leaf close (read_statement step (read_leaf end_ (read_statement condition one_)))))))))))

  for_expression : (first : PlainTree) (semicolon : PlainToken) → Optional first → is_name semicolon ≡ false → ForRead (node k.ForStart (more first (more (leaf semicolon) none)))
  for_expression first semicolon of_ m word bracket end_ close condition step body w b e c oc os_ f around slots r h rel =
      let all : Checked Judged = judged_statement around slots (node k.For (more (leaf word) (more (leaf bracket) (more (node k.ForStart (more first (more (leaf semicolon) none))) (more condition (more (leaf end_) (more step (more (leaf close) (more body none))))))))) in
      let behind : Reading → Reading = λ s. read_statement body (read_leaf close (read_statement step (read_leaf end_ (read_statement condition s)))) in
      let one_ : Reading = passed (read_statement first (passed (passed r))) in
      let last : Reading = behind one_ in
      skip word r w (λ s. Follows (numbering at) h r.found (leave r (behind (read_leaf semicolon (read_expression first (read_leaf bracket s))))).found (StatementAfter around.scope (leave r (behind (read_leaf semicolon (read_expression first (read_leaf bracket s)))))) all)
      (skip bracket (passed r) b (λ s. Follows (numbering at) h r.found (leave r (behind (read_leaf semicolon (read_expression first s)))).found (StatementAfter around.scope (leave r (behind (read_leaf semicolon (read_expression first s))))) all)
      (subst (λ s. Follows (numbering at) h r.found (leave r (behind (read_leaf semicolon s))).found (StatementAfter around.scope (leave r (behind (read_leaf semicolon s)))) all) (optional_statement of_ (passed (passed r)))
      (skip semicolon (read_statement first (passed (passed r))) m (λ s. Follows (numbering at) h r.found (leave r (behind s)).found (StatementAfter around.scope (leave r (behind s))) all)
      (condition_first around.scope (room (length slots)) h r.found one_ last (StatementAfter around.scope (leave r last)) (expression_statement around.scope first)
      (λ start. condition_or_true around.scope condition end_ >>= (λ c. discarded around.scope step nothing_to_do >>= (λ s. judged_statement (within_loop around) slots body >>= (λ b. give (judged_as b.slots (core.block (core.statement_item start (one_item (core.loop true c s b.core)))))))))
      (expression_statement_read at (room (length slots)) around.scope of_ (passed (passed r)) h rel)
      (λ start g rel1 grows. left_for around.scope (length slots) r one_ last h g
      (condition_or_true around.scope condition end_ >>= (λ c. discarded around.scope step nothing_to_do >>= (λ s. judged_statement (within_loop around) slots body >>= (λ b. give (judged_as b.slots (core.block (core.statement_item start (one_item (core.loop true c s b.core)))))))))
      rel grows
      (for_rest around.scope around.scope.blocks end_ close condition step body oc os_ e c f (within_loop around) slots (λ x. core.block (core.statement_item start (one_item x))) refl one_ g rel1))
      (adds_both (statement_adds condition one_) (adds_both (statement_adds (leaf end_) (read_statement condition one_)) (adds_both (statement_adds step (read_leaf end_ (read_statement condition one_)))
      (adds_both (statement_adds (leaf close) (read_statement step (read_leaf end_ (read_statement condition one_)))) (statement_adds body (read_leaf close (read_statement step (read_leaf end_ (read_statement condition one_)))))))))))))

  for_start_read : {tree : PlainTree} → Derivation for_start tree → Holds tree → ForRead tree
  for_start_read (single is) holds = absurd cc
  for_start_read (made_of k.LocalDeclaration b a (a_row (a_part {tree = words} w (a_part {tree = list} d (a_word {token = semicolon} v at_end))))) holds =
      for_locals (more words (more list (more (leaf semicolon) none))) (judged_locals_read at slots_are words list semicolon (specifiers_are w) (declarators_are d) holds.1.0)
  for_start_read (made_of k.ForStart b a (a_row (left_out (a_word {token = semicolon} v at_end)))) holds = for_expression absent semicolon nothing_ (no_name (t.Semicolon ∷ []) semicolon refl v)
  for_start_read (made_of k.ForStart b a (a_row (given {tree = first} d (a_word {token = semicolon} v at_end)))) holds = for_expression first semicolon (something d holds.0) (no_name (t.Semicolon ∷ []) semicolon refl v)
  for_start_read (made_of _ b a s) holds = absurd cc

  -- ---- items of blocks

  next_item :
      (tree : PlainTree) (rest : PlainTrees) (around : Around) (slots : List PlainType) (r : Reading) (h : List Identified) → StatementRead tree → ItemsRead rest → Rel at (room (length slots)) around.scope r h
      → Follows (numbering at) h r.found (read_statements rest (read_statement tree r)).found (ItemsAfter around.scope (read_statements rest (read_statement tree r)))
      (judged_statement around slots tree >>= (λ first. judged_items around first.slots rest >>= (λ others. give (items_as others.slots (core.statement_item first.core others.core)))))
  next_item tree rest around slots r h f g rel =
      let one_ : Reading = read_statement tree r in
      let last : Reading = read_statements rest one_ in
      follows_both (numbering at) h r.found one_.found last.found (StatementAfter around.scope one_) (ItemsAfter around.scope last) (judged_statement around slots tree)
      (λ first. judged_items around first.slots rest >>= (λ others. give (items_as others.slots (core.statement_item first.core others.core))))
      (f around slots r h rel)
      (λ first k1 rel1. follows_both (numbering at) k1 one_.found last.found last.found (ItemsAfter around.scope last) (ItemsAfter around.scope last) (judged_items around first.slots rest)
      (λ others. give (items_as others.slots (core.statement_item first.core others.core)))
      (g around first.slots one_ k1 rel1)
      (λ others k2 v. record { os = []; is = sym (Rattle.std.proofs.lemmas.List.append-nil last.found); alike = tt; plain = refl; used = refl; after = v })
      (adds_none last.found))
      (statements_add rest one_)

  next_locals : (parts rest : PlainTrees) → LocalsRead at slots_are parts → ItemsRead rest → ItemsRead (more (node k.LocalDeclaration parts) rest)
  next_locals parts rest f g around slots r h rel =
      let one_ : Reading = read_declaration bindings.in_block parts r in
      let last : Reading = read_statements rest one_ in
      follows_both (numbering at) h r.found one_.found last.found (LocalsAfter at around.scope one_) (ItemsAfter around.scope last) (judged_locals around.scope slots parts)
      (λ locals. judged_items (record around { scope = locals.scope }) locals.slots rest >>= (λ others. give (items_as others.slots (before_items locals.items others.core))))
      (f around.scope slots r h rel)
      (λ locals k1 v.
      let inner : Scope = record around.scope { blocks = v.tables } in
      subst (λ z. Follows (numbering at) k1 one_.found last.found (ItemsAfter around.scope last) (judged_items (record around { scope = z }) locals.slots rest >>= (λ others. give (items_as others.slots (before_items locals.items others.core))))) (sym v.is)
      (follows_both (numbering at) k1 one_.found last.found last.found (ItemsAfter inner last) (ItemsAfter around.scope last) (judged_items (record around { scope = inner }) locals.slots rest)
      (λ others. give (items_as others.slots (before_items locals.items others.core)))
      (g (record around { scope = inner }) locals.slots one_ k1 v.rel)
      (λ others k2 w. record { os = []; is = sym (Rattle.std.proofs.lemmas.List.append-nil last.found); alike = tt; plain = refl; used = refl; after = record { tables = w.tables; rel = w.rel } })
      (adds_none last.found)))
      (statements_add rest one_)

  abbrev is_declaration : PlainTree → Bool
  is_declaration (node k.LocalDeclaration parts) = true
  is_declaration other = false

  item_step : {tree : PlainTree} → Derivation item tree → Holds tree → (is_declaration tree ≡ false → StatementRead tree) → (rest : PlainTrees) → ItemsRead rest → ItemsRead (more tree rest)
  item_step (single is) holds f rest g = absurd cc
  item_step (made_of k.LocalDeclaration b a (a_row (a_part {tree = words} w (a_part {tree = list} d (a_word {token = semicolon} v at_end))))) holds f rest g =
      next_locals (more words (more list (more (leaf semicolon) none))) rest (judged_locals_read at slots_are words list semicolon (specifiers_are w) (declarators_are d) holds.1.0) g
  item_step (made_of kind {parts = parts} b a s) holds f rest g = λ around slots r h rel. next_item (node kind parts) rest around slots r h (f refl) g rel

  no_items : ItemsRead none
  no_items around slots r h rel = record { os = []; is = sym (Rattle.std.proofs.lemmas.List.append-nil r.found); alike = tt; plain = refl; used = refl; after = record { tables = around.scope.blocks; rel = rel } }

  no_declaration : {tree : PlainTree} → Derivation statement tree → is_declaration tree ≡ false
  no_declaration (single is) = absurd cc
  no_declaration (made_of k.LocalDeclaration b a s) = absurd cc
  no_declaration (made_of _ b a s) = refl

  no_else : ElseRead absent
  no_else around slots r h rel = record { os = []; is = sym (Rattle.std.proofs.lemmas.List.append-nil r.found); alike = tt; plain = refl; used = refl; after = rel }

  some_else : (word : PlainToken) (tree : PlainTree) → is_name word ≡ false → StatementRead tree → ElseRead (node k.Else (more (leaf word) (more tree none)))
  some_else word tree w f around slots r h rel =
      skip word r w (λ s. Follows (numbering at) h r.found (read_statement tree s).found (StatementAfter around.scope (read_statement tree s)) (judged_statement around slots tree)) (f around slots (passed r) h rel)

  pub record ItemsOf (tree : PlainTree) : Type 0 where
    pub parts : PlainTrees
    pub is : tree ≡ node k.Items parts
    pub read : ItemsRead parts

  -- where a statement may stand
  data Place : Category → Type 0 where
    a_statement : Place statement
    an_item : Place item

  refuted : {category : Category} → Place category → (kind : Kind) → belongs category kind ≡ true → Rattle.c_tree.specs.Grammar.is_statement kind ≡ false → (k.LocalDeclaration ≡ kind → ⊥) → ⊥
  refuted a_statement kind b never other = false≢true (sym never ∙ b)
  refuted an_item kind b never other = by kind b never other
    where
      by : (kind : Kind) → belongs item kind ≡ true → Rattle.c_tree.specs.Grammar.is_statement kind ≡ false → (k.LocalDeclaration ≡ kind → ⊥) → ⊥
      by k.LocalDeclaration b never other = other refl
      by _ b never other = false≢true (sym never ∙ b)

  mutual
    statement_read : {category : Category} {tree : PlainTree} → Derivation category tree → Place category → is_declaration tree ≡ false → Holds tree → StatementRead tree
    statement_read (single is) a_statement plain holds = absurd cc
    statement_read (single is) an_item plain holds = absurd cc
    statement_read (made_of k.Block b a (a_row (a_word {token = open_} w (given {tree = tree} d (a_word {token = close} v at_end))))) place plain holds =
        let inside = items_of d holds.1.0 in
        subst (λ x. StatementRead (node k.Block (more (leaf open_) (more x (more (leaf close) none))))) (sym inside.is)
        (block_read open_ close inside.parts (no_name (t.OpenBrace ∷ []) open_ refl w) (no_name (t.CloseBrace ∷ []) close refl v) inside.read)
    statement_read (made_of k.Block b a (a_row (a_word {token = open_} w (left_out (a_word {token = close} v at_end))))) place plain holds =
        empty_block_read open_ close (no_name (t.OpenBrace ∷ []) open_ refl w) (no_name (t.CloseBrace ∷ []) close refl v)
    statement_read (made_of k.ExpressionStatement b a (a_row (left_out (a_word {token = end_} w at_end)))) place plain holds = expression_read_statement end_ absent nothing_ (no_name (t.Semicolon ∷ []) end_ refl w)
    statement_read (made_of k.ExpressionStatement b a (a_row (given {tree = tree} d (a_word {token = end_} w at_end)))) place plain holds =
        expression_read_statement end_ tree (something d holds.0) (no_name (t.Semicolon ∷ []) end_ refl w)
    statement_read (made_of k.If b a (a_row (a_word {token = word} w (a_word {token = bracket} o (a_part {tree = condition} d (a_word {token = close} c (a_part {tree = first} e (left_out at_end)))))))) place plain holds =
        if_read word bracket close condition first absent d holds.1.1.0 (no_name (t.If ∷ []) word refl w) (no_name (t.OpenParenthesis ∷ []) bracket refl o) (no_name (t.CloseParenthesis ∷ []) close refl c)
        (statement_read e a_statement (no_declaration e) holds.1.1.1.1.0) no_else
    statement_read (made_of k.If b a (a_row (a_word {token = word} w (a_word {token = bracket} o (a_part {tree = condition} d (a_word {token = close} c (a_part {tree = first} e (given {tree = second} f at_end)))))))) place plain holds =
        if_read word bracket close condition first second d holds.1.1.0 (no_name (t.If ∷ []) word refl w) (no_name (t.OpenParenthesis ∷ []) bracket refl o) (no_name (t.CloseParenthesis ∷ []) close refl c)
        (statement_read e a_statement (no_declaration e) holds.1.1.1.1.0) (else_read f holds.1.1.1.1.1.0)
    statement_read (made_of k.While b a (a_row (a_word {token = word} w (a_word {token = bracket} o (a_part {tree = condition} d (a_word {token = close} c (a_part {tree = body} e at_end))))))) place plain holds =
        while_read word bracket close condition body d holds.1.1.0 (no_name (t.While ∷ []) word refl w) (no_name (t.OpenParenthesis ∷ []) bracket refl o) (no_name (t.CloseParenthesis ∷ []) close refl c)
        (statement_read e a_statement (no_declaration e) holds.1.1.1.1.0)
    statement_read (made_of k.Do b a (a_row (a_word {token = word} w (a_part {tree = body} e (a_word {token = again} g (a_word {token = bracket} o (a_part {tree = condition} d (a_word {token = close} c (a_word {token = end_} m at_end))))))))) place plain holds =
        do_read word again bracket close end_ body condition d holds.1.1.1.1.0 (no_name (t.Do ∷ []) word refl w) (no_name (t.While ∷ []) again refl g) (no_name (t.OpenParenthesis ∷ []) bracket refl o)
        (no_name (t.CloseParenthesis ∷ []) close refl c) (no_name (t.Semicolon ∷ []) end_ refl m) (statement_read e a_statement (no_declaration e) holds.1.0)
    statement_read (made_of k.For b a (a_row (a_word {token = word} w (a_word {token = bracket} o (a_part {tree = start} s (left_out (a_word {token = end_} m (left_out (a_word {token = close} c (a_part {tree = body} e at_end)))))))))) place plain holds =
        for_start_read s holds.1.1.0 word bracket end_ close absent absent body (no_name (t.For ∷ []) word refl w) (no_name (t.OpenParenthesis ∷ []) bracket refl o) (no_name (t.Semicolon ∷ []) end_ refl m)
        (no_name (t.CloseParenthesis ∷ []) close refl c) nothing_ nothing_ (statement_read e a_statement (no_declaration e) holds.1.1.1.1.1.1.1.0)
    statement_read (made_of k.For b a (a_row (a_word {token = word} w (a_word {token = bracket} o (a_part {tree = start} s (given {tree = condition} d (a_word {token = end_} m (left_out (a_word {token = close} c (a_part {tree = body} e at_end)))))))))) place plain holds =
        for_start_read s holds.1.1.0 word bracket end_ close condition absent body (no_name (t.For ∷ []) word refl w) (no_name (t.OpenParenthesis ∷ []) bracket refl o) (no_name (t.Semicolon ∷ []) end_ refl m)
        (no_name (t.CloseParenthesis ∷ []) close refl c) (something d holds.1.1.1.0) nothing_ (statement_read e a_statement (no_declaration e) holds.1.1.1.1.1.1.1.0)
    statement_read (made_of k.For b a (a_row (a_word {token = word} w (a_word {token = bracket} o (a_part {tree = start} s (left_out (a_word {token = end_} m (given {tree = step} f (a_word {token = close} c (a_part {tree = body} e at_end)))))))))) place plain holds =
        for_start_read s holds.1.1.0 word bracket end_ close absent step body (no_name (t.For ∷ []) word refl w) (no_name (t.OpenParenthesis ∷ []) bracket refl o) (no_name (t.Semicolon ∷ []) end_ refl m)
        (no_name (t.CloseParenthesis ∷ []) close refl c) nothing_ (something f holds.1.1.1.1.1.0) (statement_read e a_statement (no_declaration e) holds.1.1.1.1.1.1.1.0)
    statement_read (made_of k.For b a (a_row (a_word {token = word} w (a_word {token = bracket} o (a_part {tree = start} s (given {tree = condition} d (a_word {token = end_} m (given {tree = step} f (a_word {token = close} c (a_part {tree = body} e at_end)))))))))) place plain holds =
        for_start_read s holds.1.1.0 word bracket end_ close condition step body (no_name (t.For ∷ []) word refl w) (no_name (t.OpenParenthesis ∷ []) bracket refl o) (no_name (t.Semicolon ∷ []) end_ refl m)
        (no_name (t.CloseParenthesis ∷ []) close refl c) (something d holds.1.1.1.0) (something f holds.1.1.1.1.1.0) (statement_read e a_statement (no_declaration e) holds.1.1.1.1.1.1.1.0)
    statement_read (made_of k.Jump b a (a_row (a_word {token = word} w (a_word {token = end_} m at_end)))) place plain holds = jump_read word end_ (no_name (t.Jump ∷ []) word refl w) (no_name (t.Semicolon ∷ []) end_ refl m)
    statement_read (made_of k.Return b a (a_row (a_word {token = word} w (left_out (a_word {token = end_} m at_end))))) place plain holds =
        return_read word end_ absent nothing_ (no_name (t.Return ∷ []) word refl w) (no_name (t.Semicolon ∷ []) end_ refl m)
    statement_read (made_of k.Return b a (a_row (a_word {token = word} w (given {tree = tree} d (a_word {token = end_} m at_end))))) place plain holds =
        return_read word end_ tree (something d holds.1.0) (no_name (t.Return ∷ []) word refl w) (no_name (t.Semicolon ∷ []) end_ refl m)
    statement_read (made_of k.LocalDeclaration b a s) place plain holds = absurd (false≢true (sym plain))
    statement_read (made_of kind b a s) place plain holds = absurd (refuted place kind b refl (λ e. absurd cc))

    else_read : {tree : PlainTree} → Derivation else_part tree → Holds tree → ElseRead tree
    else_read (single is) holds = absurd cc
    else_read (made_of k.Else b a (a_row (a_word {token = word} w (a_part {tree = tree} d at_end)))) holds = some_else word tree (no_name (t.Else ∷ []) word refl w) (statement_read d a_statement (no_declaration d) holds.1.0)
    else_read (made_of _ b a s) holds = absurd cc

    pub items_of : {tree : PlainTree} → Derivation items tree → Holds tree → ItemsOf tree
    items_of (single is) holds = absurd cc
    items_of (made_of k.Items {parts = parts} b a (one_or_more each any)) holds = record { parts = parts; is = refl; read = items_read each holds }
    items_of (made_of _ b a s) holds = absurd cc

    items_read : {parts : PlainTrees} → Each item parts → AllHold parts → ItemsRead parts
    items_read no_more holds = no_items
    items_read (one_more {rest = rest} d e) holds = item_step d holds.0 (λ plain. statement_read d an_item plain holds.0) rest (items_read e holds.1)
