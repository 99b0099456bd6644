-- Statements of units that are alike are the same in a core program, and take the same slots. Where they stand is alike (`AlikeAround`).
use Rattle.std.proofs.Common.{◌≡◌, ℕ, Bool, true, false, List, [], ◌∷◌, refl, ap, subst}
use Rattle.std.specs.Prelude.{not, pos, codes, if◌then◌else◌}
use Rattle.std.specs.Str.{bytes_eq}
use Rattle.c_text.specs.Token.{PlainToken}
use Rattle.c_types.specs.Types.{PlainType}
use Rattle.c_tree.specs.declared.kinds.Kind.TheVariants as k
use Rattle.c_tree.specs.declared.terminals.Terminal.TheVariants as t
use Rattle.c_tree.specs.Trees.{PlainTree, PlainTrees, leaf, node, none, more, absent}
use Rattle.c_tree.specs.Grammar.{Category, expression, else_part, items, item, for_start}
use Rattle.core_meaning.specs.Program.{PlainExpression, PlainStatement, constant, evaluate, break_loop, continue_loop, return_nothing, return_value}
use Rattle.core_meaning.specs.Program as core
use Rattle.core_meaning.specs.Checking.{Checked, ◌>>=◌, give, unless_so, found_or}
use Rattle.core_meaning.specs.Entities.{Scope}
use Rattle.core_meaning.specs.Typing.{Typed, fits_into}
use Rattle.core_meaning.specs.Expressions.{valued, judged_condition, is_void, unused}
use Rattle.core_meaning.specs.Declarations.{judged_locals}
use Rattle.core_meaning.specs.Statements.{Around, Judged, JudgedItems, judged_as, items_as, in_block, within_loop, before_items, one_item, nothing_to_do, discarded, condition_or_true, expression_statement, jump, returned, loop_of, judged_statement, judged_else, judged_items}
use Rattle.core_meaning.specs.declared.refusals.TypeKind.TheVariants.{Misplaced}
use Rattle.tree_derivations.specs.Derivations.{Derivation, single, made_of, a_row, at_end, a_word, a_part, left_out, given, one_or_more, Each, no_more, one_more}
use Rattle.renamed_programs.specs.Trees.{SameButNames, AllSameButNames, same_leaf, same_node, same_end, same_more}
use Rattle.renamed_programs.proofs.Alike.{Naming, Alike, Equal, alike_equal, alike_tests, alike_finds_same, alike_give, alike_broken, alike_then}
use Rattle.renamed_programs.proofs.Tokens.{same_word}
use Rattle.renamed_programs.proofs.Scopes.{AlikeScopes}
use Rattle.renamed_programs.proofs.Expressions.{expression_alike, valued_alike, judged_condition_alike}
use Rattle.renamed_programs.proofs.Locals.{Grown, grown_none, grown_both, scopes_grown, block_alike, SameLocals, judged_locals_alike}

-- an expression that may be left out
data Optional : PlainTree → PlainTree → Type 0 where
  nothing_ : Optional absent absent
  something : {n : ℕ} {tree other : PlainTree} → Derivation (expression n) tree → SameButNames tree other → Optional tree other

abbrev is_left_out : PlainTree → Bool
is_left_out (node k.Absent parts) = true
is_left_out other = false

stands : {n : ℕ} {tree other : PlainTree} → Derivation (expression n) tree → SameButNames tree other → (is_left_out tree ≡ false) × (is_left_out other ≡ false)
stands (single is) (same_leaf e) = (refl, refl)
stands (made_of k.Absent b a s) e = absurd cc
stands (made_of _ b a s) (same_node e) = (refl, refl)

discarded_is : (tree : PlainTree) → is_left_out tree ≡ false → (scope : Scope) (otherwise : PlainExpression) → (valued scope tree >>= (λ x. give (unused x.core))) ≡ discarded scope tree otherwise
discarded_is (node k.Absent parts) e scope otherwise = absurd cc
discarded_is (node _ parts) e scope otherwise = refl
discarded_is (leaf token) e scope otherwise = refl

condition_is : (tree : PlainTree) → is_left_out tree ≡ false → (scope : Scope) (behind : PlainToken) → judged_condition scope tree behind ≡ condition_or_true scope tree behind
condition_is (node k.Absent parts) e scope behind = absurd cc
condition_is (node _ parts) e scope behind = refl
condition_is (leaf token) e scope behind = refl

expression_is : (tree : PlainTree) → is_left_out tree ≡ false → (scope : Scope) → (valued scope tree >>= (λ x. give (evaluate (unused x.core)))) ≡ expression_statement scope tree
expression_is (node k.Absent parts) e scope = absurd cc
expression_is (node _ parts) e scope = refl
expression_is (leaf token) e scope = refl

abbrev returned_as : Around → PlainToken → PlainTree → Checked PlainStatement
returned_as around word tree =
    unless_so (not (is_void around.result)) Misplaced word >>= (λ placed. valued around.scope tree >>= (λ x. found_or (fits_into around.result x) Misplaced word >>= (λ c. give (return_value c))))

returned_is : (tree : PlainTree) → is_left_out tree ≡ false → (around : Around) (word : PlainToken) → returned_as around word tree ≡ returned around word tree
returned_is (node k.Absent parts) e around word = absurd cc
returned_is (node _ parts) e around word = refl
returned_is (leaf token) e around word = refl

module _ (named : Naming) where
  same_both : {A B : Type 0} (V : A → B → Type 0) (c c' : Checked A) (d d' : Checked B) → c ≡ c' → d ≡ d' → Alike named V c d → Alike named V c' d'
  same_both V c c' d d' e f h = subst (λ x. Alike named V x d') e (subst (λ x. Alike named V c x) f h)

  module _ (slots : List PlainType) (s u : Scope) (h : AlikeScopes named slots s u) where
    valued_as :
        {A : Type 0} (make : Typed → A) {n : ℕ} {tree other : PlainTree} → Derivation (expression n) tree → SameButNames tree other
        → Alike named Equal (valued s tree >>= (λ x. give (make x))) (valued u other >>= (λ x. give (make x)))
    valued_as make {tree = tree} {other = other} d e =
        alike_equal named Equal (valued s tree) (valued u other) _ _ (valued_alike named slots s u h tree other (expression_alike named slots s u h d e)) (λ x. alike_give named Equal (make x) (make x) refl)

    condition_alike : {n : ℕ} {tree other : PlainTree} → Derivation (expression n) tree → SameButNames tree other → (behind at : PlainToken) → Alike named Equal (judged_condition s tree behind) (judged_condition u other at)
    condition_alike {tree = tree} {other = other} d e behind at = judged_condition_alike named slots s u h tree other behind at (expression_alike named slots s u h d e)

    discarded_alike : {tree other : PlainTree} → Optional tree other → (otherwise : PlainExpression) → Alike named Equal (discarded s tree otherwise) (discarded u other otherwise)
    discarded_alike nothing_ otherwise = alike_give named Equal otherwise otherwise refl
    discarded_alike (something {tree = tree} {other = other} d e) otherwise =
        same_both Equal _ (discarded s tree otherwise) _ (discarded u other otherwise) (discarded_is tree (stands d e).0 s otherwise) (discarded_is other (stands d e).1 u otherwise) (valued_as (λ x. unused x.core) d e)

    condition_or_alike : {tree other : PlainTree} → Optional tree other → (behind at : PlainToken) → Alike named Equal (condition_or_true s tree behind) (condition_or_true u other at)
    condition_or_alike nothing_ behind at = alike_give named Equal (constant (pos 1)) (constant (pos 1)) refl
    condition_or_alike (something {tree = tree} {other = other} d e) behind at =
        same_both Equal _ (condition_or_true s tree behind) _ (condition_or_true u other at) (condition_is tree (stands d e).0 s behind) (condition_is other (stands d e).1 u at) (condition_alike d e behind at)

    expression_statement_alike : {tree other : PlainTree} → Optional tree other → Alike named Equal (expression_statement s tree) (expression_statement u other)
    expression_statement_alike nothing_ = alike_give named Equal (core.block core.no_item) (core.block core.no_item) refl
    expression_statement_alike (something {tree = tree} {other = other} d e) =
        same_both Equal _ (expression_statement s tree) _ (expression_statement u other) (expression_is tree (stands d e).0 s) (expression_is other (stands d e).1 u) (valued_as (λ x. evaluate (unused x.core)) d e)

  -- ---- statements

  pub record AlikeAround (slots : List PlainType) (a b : Around) : Type 0 where
    pub scopes : AlikeScopes named slots a.scope b.scope
    pub result : a.result ≡ b.result
    pub in_loop : a.in_loop ≡ b.in_loop

  around_grown : (slots further : List PlainType) (a b : Around) → Grown slots further → AlikeAround slots a b → AlikeAround further a b
  around_grown slots further a b g h = record { scopes = scopes_grown named slots further a.scope b.scope g h.scopes; result = h.result; in_loop = h.in_loop }

  in_blocks_alike : (slots : List PlainType) (a b : Around) → AlikeAround slots a b → AlikeAround slots (in_block a) (in_block b)
  in_blocks_alike slots a b h = record { scopes = block_alike named slots a.scope b.scope h.scopes; result = h.result; in_loop = h.in_loop }

  in_loops_alike : (slots : List PlainType) (a b : Around) → AlikeAround slots a b → AlikeAround slots (within_loop a) (within_loop b)
  in_loops_alike slots a b h = record { scopes = h.scopes; result = h.result; in_loop = refl }

  with_scopes : (slots further : List PlainType) (a b : Around) (s u : Scope) → AlikeAround slots a b → AlikeScopes named further s u → AlikeAround further (record a { scope = s }) (record b { scope = u })
  with_scopes slots further a b s u h g = record { scopes = g; result = h.result; in_loop = h.in_loop }

  pub record SameJudged (slots : List PlainType) (x y : Judged) : Type 0 where
    pub same_ : x ≡ y
    pub grown : Grown slots x.slots

  pub record SameItems (slots : List PlainType) (x y : JudgedItems) : Type 0 where
    pub same_ : x ≡ y
    pub grown : Grown slots x.slots

  -- what follows a statement
  after_statement :
      {C D : Type 0} (W : C → D → Type 0) (slots : List PlainType) (c d : Checked Judged) (f : Judged → Checked C) (g : Judged → Checked D) → Alike named (SameJudged slots) c d
      → ((x : Judged) → Grown slots x.slots → Alike named W (f x) (g x)) → Alike named W (c >>= f) (d >>= g)
  after_statement W slots c d f g h next = alike_then named (SameJudged slots) W c d f g h (λ x y i. subst (λ z. Alike named W (f x) (g z)) i.same_ (next x i.grown))

  after_items :
      {C D : Type 0} (W : C → D → Type 0) (slots : List PlainType) (c d : Checked JudgedItems) (f : JudgedItems → Checked C) (g : JudgedItems → Checked D) → Alike named (SameItems slots) c d
      → ((x : JudgedItems) → Grown slots x.slots → Alike named W (f x) (g x)) → Alike named W (c >>= f) (d >>= g)
  after_items W slots c d f g h next = alike_then named (SameItems slots) W c d f g h (λ x y i. subst (λ z. Alike named W (f x) (g z)) i.same_ (next x i.grown))

  gives : (slots : List PlainType) (x : Judged) → Grown slots x.slots → Alike named (SameJudged slots) (give x) (give x)
  gives slots x g = alike_give named (SameJudged slots) x x (record { same_ = refl; grown = g })

  gives_items : (slots : List PlainType) (x : JudgedItems) → Grown slots x.slots → Alike named (SameItems slots) (give x) (give x)
  gives_items slots x g = alike_give named (SameItems slots) x x (record { same_ = refl; grown = g })

  abbrev pub StatementAlike : PlainTree → PlainTree → Type 0
  StatementAlike tree other = (slots : List PlainType) (a b : Around) → AlikeAround slots a b → Alike named (SameJudged slots) (judged_statement a slots tree) (judged_statement b slots other)

  abbrev ElseAlike : PlainTree → PlainTree → Type 0
  ElseAlike tree other = (slots : List PlainType) (a b : Around) → AlikeAround slots a b → Alike named (SameJudged slots) (judged_else a slots tree) (judged_else b slots other)

  abbrev pub ItemsAlike : PlainTrees → PlainTrees → Type 0
  ItemsAlike parts others = (slots : List PlainType) (a b : Around) → AlikeAround slots a b → Alike named (SameItems slots) (judged_items a slots parts) (judged_items b slots others)

  plain_statement : {A : Type 0} (slots : List PlainType) (c d : Checked A) (make : A → PlainStatement) → Alike named Equal c d → Alike named (SameJudged slots) (c >>= (λ x. give (judged_as slots (make x)))) (d >>= (λ x. give (judged_as slots (make x))))
  plain_statement slots c d make h = alike_equal named (SameJudged slots) c d _ _ h (λ x. gives slots (judged_as slots (make x)) (grown_none slots))

  block_is_alike :
      (brace close start last : PlainTree) (parts others : PlainTrees) → ItemsAlike parts others
      → StatementAlike (node k.Block (more brace (more (node k.Items parts) (more close none)))) (node k.Block (more start (more (node k.Items others) (more last none))))
  block_is_alike brace close start last parts others f slots a b h =
      after_items (SameJudged slots) slots (judged_items (in_block a) slots parts) (judged_items (in_block b) slots others) _ _ (f slots (in_block a) (in_block b) (in_blocks_alike slots a b h))
      (λ inner g. gives slots (judged_as inner.slots (core.block inner.core)) g)

  if_alike :
      (word bracket word' bracket' : PlainTree) (close close' : PlainToken) (condition condition' first first' second second' : PlainTree) {n : ℕ} → Derivation (expression n) condition → SameButNames condition condition'
      → StatementAlike first first' → ElseAlike second second'
      → StatementAlike (node k.If (more word (more bracket (more condition (more (leaf close) (more first (more second none))))))) (node k.If (more word' (more bracket' (more condition' (more (leaf close') (more first' (more second' none)))))))
  if_alike word bracket word' bracket' close close' condition condition' first first' second second' d e f g slots a b h =
      alike_equal named (SameJudged slots) (judged_condition a.scope condition close) (judged_condition b.scope condition' close') _ _ (condition_alike slots a.scope b.scope h.scopes d e close close')
      (λ c. after_statement (SameJudged slots) slots (judged_statement a slots first) (judged_statement b slots first') _ _ (f slots a b h)
      (λ x i. after_statement (SameJudged slots) x.slots (judged_else a x.slots second) (judged_else b x.slots second') _ _ (g x.slots a b (around_grown slots x.slots a b i h))
      (λ y j. gives slots (judged_as y.slots (core.selection c x.core y.core)) (grown_both slots x.slots y.slots i j))))

  while_alike :
      (word bracket word' bracket' : PlainTree) (close close' : PlainToken) (condition condition' body body' : PlainTree) {n : ℕ} → Derivation (expression n) condition → SameButNames condition condition' → StatementAlike body body'
      → StatementAlike (node k.While (more word (more bracket (more condition (more (leaf close) (more body none)))))) (node k.While (more word' (more bracket' (more condition' (more (leaf close') (more body' none))))))
  while_alike word bracket word' bracket' close close' condition condition' body body' d e f slots a b h =
      alike_equal named (SameJudged slots) (judged_condition a.scope condition close) (judged_condition b.scope condition' close') _ _ (condition_alike slots a.scope b.scope h.scopes d e close close')
      (λ c. after_statement (SameJudged slots) slots (judged_statement (within_loop a) slots body) (judged_statement (within_loop b) slots body') _ _ (f slots (within_loop a) (within_loop b) (in_loops_alike slots a b h))
      (λ x i. gives slots (loop_of true c nothing_to_do x) i))

  do_alike :
      (word again bracket end_ word' again' bracket' end' : PlainTree) (close close' : PlainToken) (condition condition' body body' : PlainTree) {n : ℕ} → Derivation (expression n) condition → SameButNames condition condition' → StatementAlike body body'
      → StatementAlike (node k.Do (more word (more body (more again (more bracket (more condition (more (leaf close) (more end_ none)))))))) (node k.Do (more word' (more body' (more again' (more bracket' (more condition' (more (leaf close') (more end' none))))))))
  do_alike word again bracket end_ word' again' bracket' end' close close' condition condition' body body' d e f slots a b h =
      after_statement (SameJudged slots) slots (judged_statement (within_loop a) slots body) (judged_statement (within_loop b) slots body') _ _ (f slots (within_loop a) (within_loop b) (in_loops_alike slots a b h))
      (λ x i. alike_equal named (SameJudged slots) (judged_condition a.scope condition close) (judged_condition b.scope condition' close') _ _
      (condition_alike x.slots a.scope b.scope (scopes_grown named slots x.slots a.scope b.scope i h.scopes) d e close close')
      (λ c. gives slots (loop_of false c nothing_to_do x) i))

  -- the rest of a `for`, behind its first part
  for_rest :
      (start slots : List PlainType) → Grown start slots → (s u : Scope) (end_ end' : PlainToken) (condition condition' step step' body body' : PlainTree) → Optional condition condition' → Optional step step' → StatementAlike body body'
      → (a b : Around) (make : PlainStatement → PlainStatement) → AlikeScopes named slots s u → AlikeAround slots a b
      → Alike named (SameJudged start)
      (condition_or_true s condition end_ >>= (λ c. discarded s step nothing_to_do >>= (λ x. judged_statement a slots body >>= (λ y. give (judged_as y.slots (make (core.loop true c x y.core)))))))
      (condition_or_true u condition' end' >>= (λ c. discarded u step' nothing_to_do >>= (λ x. judged_statement b slots body' >>= (λ y. give (judged_as y.slots (make (core.loop true c x y.core)))))))
  for_rest start slots g s u end_ end' condition condition' step step' body body' oc os_ f a b make h i =
      alike_equal named (SameJudged start) (condition_or_true s condition end_) (condition_or_true u condition' end') _ _ (condition_or_alike slots s u h oc end_ end')
      (λ c. alike_equal named (SameJudged start) (discarded s step nothing_to_do) (discarded u step' nothing_to_do) _ _ (discarded_alike slots s u h os_ nothing_to_do)
      (λ x. after_statement (SameJudged start) slots (judged_statement a slots body) (judged_statement b slots body') _ _ (f slots a b i)
      (λ y j. gives start (judged_as y.slots (make (core.loop true c x y.core))) (grown_both start slots y.slots g j))))

  abbrev ForAlike : PlainTree → PlainTree → Type 0
  ForAlike start start' =
      (word bracket close word' bracket' close' : PlainTree) (end_ end' : PlainToken) (condition condition' step step' body body' : PlainTree) → Optional condition condition' → Optional step step' → StatementAlike body body'
      → StatementAlike (node k.For (more word (more bracket (more start (more condition (more (leaf end_) (more step (more close (more body none)))))))))
      (node k.For (more word' (more bracket' (more start' (more condition' (more (leaf end') (more step' (more close' (more body' none)))))))))

  for_locals :
      (parts others : PlainTrees) → ((slots : List PlainType) (s u : Scope) → AlikeScopes named slots s u → Alike named (SameLocals named slots) (judged_locals s slots parts) (judged_locals u slots others))
      → ForAlike (node k.LocalDeclaration parts) (node k.LocalDeclaration others)
  for_locals parts others locals_ word bracket close word' bracket' close' end_ end' condition condition' step step' body body' oc os_ f slots a b h =
      alike_then named (SameLocals named slots) (SameJudged slots) (judged_locals (in_block a).scope slots parts) (judged_locals (in_block b).scope slots others) _ _
      (locals_ slots (in_block a).scope (in_block b).scope (block_alike named slots a.scope b.scope h.scopes))
      (λ x y i. subst
      (λ (z : List PlainType). Alike named (SameJudged slots)
      (condition_or_true x.scope condition end_ >>= (λ c. discarded x.scope step nothing_to_do >>= (λ p. judged_statement (within_loop (record a { scope = x.scope })) x.slots body >>= (λ q. give (judged_as q.slots (core.block (before_items x.items (one_item (core.loop true c p q.core)))))))))
      (condition_or_true y.scope condition' end' >>= (λ c. discarded y.scope step' nothing_to_do >>= (λ p. judged_statement (within_loop (record b { scope = y.scope })) z body' >>= (λ q. give (judged_as q.slots (core.block (before_items y.items (one_item (core.loop true c p q.core))))))))))
      i.slots_
      (subst
      (λ z. Alike named (SameJudged slots)
      (condition_or_true x.scope condition end_ >>= (λ c. discarded x.scope step nothing_to_do >>= (λ p. judged_statement (within_loop (record a { scope = x.scope })) x.slots body >>= (λ q. give (judged_as q.slots (core.block (before_items x.items (one_item (core.loop true c p q.core)))))))))
      (condition_or_true y.scope condition' end' >>= (λ c. discarded y.scope step' nothing_to_do >>= (λ p. judged_statement (within_loop (record b { scope = y.scope })) x.slots body' >>= (λ q. give (judged_as q.slots (core.block (before_items z (one_item (core.loop true c p q.core))))))))))
      i.items
      (for_rest slots x.slots i.grown x.scope y.scope end_ end' condition condition' step step' body body' oc os_ f (within_loop (record a { scope = x.scope })) (within_loop (record b { scope = y.scope })) (λ l. core.block (before_items x.items (one_item l))) i.scopes
      (in_loops_alike x.slots (record a { scope = x.scope }) (record b { scope = y.scope }) (with_scopes slots x.slots a b x.scope y.scope h i.scopes)))))

  for_expression : (first first' semicolon semicolon' : PlainTree) → Optional first first' → ForAlike (node k.ForStart (more first (more semicolon none))) (node k.ForStart (more first' (more semicolon' none)))
  for_expression first first' semicolon semicolon' o word bracket close word' bracket' close' end_ end' condition condition' step step' body body' oc os_ f slots a b h =
      alike_equal named (SameJudged slots) (expression_statement a.scope first) (expression_statement b.scope first') _ _ (expression_statement_alike slots a.scope b.scope h.scopes o)
      (λ start. for_rest slots slots (grown_none slots) a.scope b.scope end_ end' condition condition' step step' body body' oc os_ f (within_loop a) (within_loop b) (λ l. core.block (core.statement_item start (one_item l))) h.scopes (in_loops_alike slots a b h))

  for_start_alike : {tree other : PlainTree} → Derivation for_start tree → SameButNames tree other → ForAlike tree other
  for_start_alike (single is) e = absurd cc
  for_start_alike (made_of k.LocalDeclaration b a (a_row (a_part {tree = words} w (a_part {tree = list} d (a_word {token = semicolon} v at_end))))) (same_node (same_more {other = words'} e (same_more {other = list'} f (same_more {other = semicolon'} g same_end)))) =
      for_locals (more words (more list (more (leaf semicolon) none))) (more words' (more list' (more semicolon' none))) (judged_locals_alike named w e d f (leaf semicolon) semicolon')
  for_start_alike (made_of k.ForStart b a (a_row (left_out (a_word {token = semicolon} v at_end)))) (same_node (same_more (same_node same_end) (same_more {other = semicolon'} g same_end))) = for_expression absent absent (leaf semicolon) semicolon' nothing_
  for_start_alike (made_of k.ForStart b a (a_row (given {tree = first} d (a_word {token = semicolon} v at_end)))) (same_node (same_more {other = first'} e (same_more {other = semicolon'} g same_end))) =
      for_expression first first' (leaf semicolon) semicolon' (something d e)
  for_start_alike (made_of _ b a s) e = absurd cc

  jump_same : (a b : List ℕ) → a ≡ b → (if bytes_eq a (codes "break") then break_loop else continue_loop) ≡ (if bytes_eq b (codes "break") then break_loop else continue_loop)
  jump_same a b e = ap (λ x. if bytes_eq x (codes "break") then break_loop else continue_loop) e

  jump_alike : (slots : List PlainType) (a b : Around) (word other : PlainToken) → word.text ≡ other.text → Alike named Equal (jump a word) (jump b other)
  jump_alike slots a b word other e =
      alike_tests named Equal a.in_loop b.in_loop Misplaced Misplaced word other _ _ (λ x y. alike_give named Equal _ _ (jump_same word.text other.text e))

  returned_alike : {tree other : PlainTree} → Optional tree other → (slots : List PlainType) (a b : Around) (word at : PlainToken) → AlikeAround slots a b → Alike named Equal (returned a word tree) (returned b at other)
  returned_alike nothing_ slots a b word at h =
      alike_tests named Equal (is_void a.result) (is_void b.result) Misplaced Misplaced word at _ _ (λ x y. alike_give named Equal return_nothing return_nothing refl)
  returned_alike (something {tree = tree} {other = other} d e) slots a b word at h =
      same_both Equal _ (returned a word tree) _ (returned b at other) (returned_is tree (stands d e).0 a word) (returned_is other (stands d e).1 b at)
      (alike_tests named Equal (not (is_void a.result)) (not (is_void b.result)) Misplaced Misplaced word at _ _
      (λ x y. alike_equal named Equal (valued a.scope tree) (valued b.scope other) _ _ (valued_alike named slots a.scope b.scope h.scopes tree other (expression_alike named slots a.scope b.scope h.scopes d e))
      (λ v. alike_finds_same named Equal (fits_into a.result v) (fits_into b.result v) Misplaced Misplaced word at _ _ (ap (λ ty. fits_into ty v) h.result) (λ c. alike_give named Equal (return_value c) (return_value c) refl))))

  -- ---- items of blocks

  next_item :
      (tree other : PlainTree) (rest others : PlainTrees) (slots : List PlainType) (a b : Around) → StatementAlike tree other → ItemsAlike rest others → AlikeAround slots a b
      → Alike named (SameItems slots)
      (judged_statement a slots tree >>= (λ first. judged_items a first.slots rest >>= (λ behind. give (items_as behind.slots (core.statement_item first.core behind.core)))))
      (judged_statement b slots other >>= (λ first. judged_items b first.slots others >>= (λ behind. give (items_as behind.slots (core.statement_item first.core behind.core)))))
  next_item tree other rest others slots a b f g h =
      after_statement (SameItems slots) slots (judged_statement a slots tree) (judged_statement b slots other) _ _ (f slots a b h)
      (λ x i. after_items (SameItems slots) x.slots (judged_items a x.slots rest) (judged_items b x.slots others) _ _ (g x.slots a b (around_grown slots x.slots a b i h))
      (λ y j. gives_items slots (items_as y.slots (core.statement_item x.core y.core)) (grown_both slots x.slots y.slots i j)))

  next_locals :
      (parts others rest behind : PlainTrees) → ((slots : List PlainType) (s u : Scope) → AlikeScopes named slots s u → Alike named (SameLocals named slots) (judged_locals s slots parts) (judged_locals u slots others)) → ItemsAlike rest behind
      → ItemsAlike (more (node k.LocalDeclaration parts) rest) (more (node k.LocalDeclaration others) behind)
  next_locals parts others rest behind f g slots a b h =
      alike_then named (SameLocals named slots) (SameItems slots) (judged_locals a.scope slots parts) (judged_locals b.scope slots others) _ _ (f slots a.scope b.scope h.scopes)
      (λ x y i. after_items (SameItems slots) x.slots (judged_items (record a { scope = x.scope }) x.slots rest) (judged_items (record b { scope = y.scope }) y.slots behind) _ _
      (subst (λ (z : List PlainType). Alike named (SameItems x.slots) (judged_items (record a { scope = x.scope }) x.slots rest) (judged_items (record b { scope = y.scope }) z behind)) i.slots_
      (g x.slots (record a { scope = x.scope }) (record b { scope = y.scope }) (with_scopes slots x.slots a b x.scope y.scope h i.scopes)))
      (λ z j. alike_give named (SameItems slots) (items_as z.slots (before_items x.items z.core)) (items_as z.slots (before_items y.items z.core))
      (record { same_ = ap (λ l. items_as z.slots (before_items l z.core)) i.items; grown = grown_both slots x.slots z.slots i.grown j })))

  item_step : {tree other : PlainTree} → Derivation item tree → SameButNames tree other → StatementAlike tree other → (rest others : PlainTrees) → ItemsAlike rest others → ItemsAlike (more tree rest) (more other others)
  item_step (single is) e f rest others g = absurd cc
  item_step (made_of k.LocalDeclaration b a (a_row (a_part {tree = words} w (a_part {tree = list} d (a_word {token = semicolon} v at_end))))) (same_node (same_more {other = words'} x (same_more {other = list'} y (same_more {other = semicolon'} z same_end)))) f rest others g =
      next_locals (more words (more list (more (leaf semicolon) none))) (more words' (more list' (more semicolon' none))) rest others (judged_locals_alike named w x d y (leaf semicolon) semicolon') g
  item_step (made_of kind {parts = parts} b a s) (same_node {others = parts'} e) f rest others g = λ slots a' b' h. next_item (node kind parts) (node kind parts') rest others slots a' b' f g h

  no_items : ItemsAlike none none
  no_items slots a b h = gives_items slots (items_as slots core.no_item) (grown_none slots)

  no_else : ElseAlike absent absent
  no_else slots a b h = gives slots (judged_as slots (core.block core.no_item)) (grown_none slots)

  mutual
    statement_alike : {category : Category} {tree other : PlainTree} → Derivation category tree → SameButNames tree other → StatementAlike tree other
    statement_alike (single is) (same_leaf e) = λ slots a' b' h. alike_broken named (SameJudged slots) _
    statement_alike (made_of k.Block b a (a_row (a_word {token = brace} w (given d (a_word {token = close} v at_end))))) (same_node (same_more {other = start} x (same_more y (same_more {other = last} z same_end)))) =
        items_block d y (leaf brace) (leaf close) start last
    statement_alike (made_of k.Block b a (a_row (a_word w (left_out (a_word v at_end))))) (same_node (same_more x (same_more (same_node same_end) (same_more z same_end)))) = λ slots a' b' h.
        gives slots (judged_as slots (core.block core.no_item)) (grown_none slots)
    statement_alike (made_of k.ExpressionStatement b a (a_row (left_out (a_word w at_end)))) (same_node (same_more (same_node same_end) (same_more y same_end))) = λ slots a' b' h.
        plain_statement slots (expression_statement a'.scope absent) (expression_statement b'.scope absent) (λ x. x) (expression_statement_alike slots a'.scope b'.scope h.scopes nothing_)
    statement_alike (made_of k.ExpressionStatement b a (a_row (given {tree = tree} d (a_word w at_end)))) (same_node (same_more {other = other} e (same_more y same_end))) = λ slots a' b' h.
        plain_statement slots (expression_statement a'.scope tree) (expression_statement b'.scope other) (λ x. x) (expression_statement_alike slots a'.scope b'.scope h.scopes (something d e))
    statement_alike (made_of k.If b a (a_row (a_word {token = word} w (a_word {token = bracket} o (a_part {tree = condition} d (a_word {token = close} c (a_part {tree = first} e (left_out at_end))))))))
        (same_node (same_more {other = word'} x (same_more {other = bracket'} y (same_more {other = condition'} z (same_more (same_leaf {b = close'} p) (same_more {other = first'} q (same_more (same_node same_end) same_end))))))) =
        if_alike (leaf word) (leaf bracket) word' bracket' close close' condition condition' first first' absent absent d z (statement_alike e q) no_else
    statement_alike (made_of k.If b a (a_row (a_word {token = word} w (a_word {token = bracket} o (a_part {tree = condition} d (a_word {token = close} c (a_part {tree = first} e (given {tree = second} f at_end))))))))
        (same_node (same_more {other = word'} x (same_more {other = bracket'} y (same_more {other = condition'} z (same_more (same_leaf {b = close'} p) (same_more {other = first'} q (same_more {other = second'} r same_end))))))) =
        if_alike (leaf word) (leaf bracket) word' bracket' close close' condition condition' first first' second second' d z (statement_alike e q) (else_alike f r)
    statement_alike (made_of k.While b a (a_row (a_word {token = word} w (a_word {token = bracket} o (a_part {tree = condition} d (a_word {token = close} c (a_part {tree = body} e at_end)))))))
        (same_node (same_more {other = word'} x (same_more {other = bracket'} y (same_more {other = condition'} z (same_more (same_leaf {b = close'} p) (same_more {other = body'} q same_end)))))) =
        while_alike (leaf word) (leaf bracket) word' bracket' close close' condition condition' body body' d z (statement_alike e q)
    statement_alike (made_of k.Do b a (a_row (a_word {token = word} w (a_part {tree = body} e (a_word {token = again} g (a_word {token = bracket} o (a_part {tree = condition} d (a_word {token = close} c (a_word {token = end_} m at_end)))))))))
        (same_node (same_more {other = word'} x (same_more {other = body'} q (same_more {other = again'} y (same_more {other = bracket'} r (same_more {other = condition'} z (same_more (same_leaf {b = close'} p) (same_more {other = end'} l same_end)))))))) =
        do_alike (leaf word) (leaf again) (leaf bracket) (leaf end_) word' again' bracket' end' close close' condition condition' body body' d z (statement_alike e q)
    statement_alike (made_of k.For b a (a_row (a_word {token = word} w (a_word {token = bracket} o (a_part {tree = start} s (left_out (a_word {token = end_} m (left_out (a_word {token = close} c (a_part {tree = body} e at_end))))))))))
        (same_node (same_more {other = word'} x (same_more {other = bracket'} y (same_more {other = start'} z (same_more (same_node same_end) (same_more (same_leaf {b = end'} p) (same_more (same_node same_end) (same_more {other = close'} q (same_more {other = body'} r same_end))))))))) =
        for_start_alike s z (leaf word) (leaf bracket) (leaf close) word' bracket' close' end_ end' absent absent absent absent body body' nothing_ nothing_ (statement_alike e r)
    statement_alike (made_of k.For b a (a_row (a_word {token = word} w (a_word {token = bracket} o (a_part {tree = start} s (given {tree = condition} d (a_word {token = end_} m (left_out (a_word {token = close} c (a_part {tree = body} e at_end))))))))))
        (same_node (same_more {other = word'} x (same_more {other = bracket'} y (same_more {other = start'} z (same_more {other = condition'} f (same_more (same_leaf {b = end'} p) (same_more (same_node same_end) (same_more {other = close'} q (same_more {other = body'} r same_end))))))))) =
        for_start_alike s z (leaf word) (leaf bracket) (leaf close) word' bracket' close' end_ end' condition condition' absent absent body body' (something d f) nothing_ (statement_alike e r)
    statement_alike (made_of k.For b a (a_row (a_word {token = word} w (a_word {token = bracket} o (a_part {tree = start} s (left_out (a_word {token = end_} m (given {tree = step} d (a_word {token = close} c (a_part {tree = body} e at_end))))))))))
        (same_node (same_more {other = word'} x (same_more {other = bracket'} y (same_more {other = start'} z (same_more (same_node same_end) (same_more (same_leaf {b = end'} p) (same_more {other = step'} f (same_more {other = close'} q (same_more {other = body'} r same_end))))))))) =
        for_start_alike s z (leaf word) (leaf bracket) (leaf close) word' bracket' close' end_ end' absent absent step step' body body' nothing_ (something d f) (statement_alike e r)
    statement_alike (made_of k.For b a (a_row (a_word {token = word} w (a_word {token = bracket} o (a_part {tree = start} s (given {tree = condition} d (a_word {token = end_} m (given {tree = step} l (a_word {token = close} c (a_part {tree = body} e at_end))))))))))
        (same_node (same_more {other = word'} x (same_more {other = bracket'} y (same_more {other = start'} z (same_more {other = condition'} f (same_more (same_leaf {b = end'} p) (same_more {other = step'} i (same_more {other = close'} q (same_more {other = body'} r same_end))))))))) =
        for_start_alike s z (leaf word) (leaf bracket) (leaf close) word' bracket' close' end_ end' condition condition' step step' body body' (something d f) (something l i) (statement_alike e r)
    statement_alike (made_of k.Jump b a (a_row (a_word {token = word} w (a_word m at_end)))) (same_node (same_more (same_leaf {b = other} x) (same_more y same_end))) = λ slots a' b' h.
        plain_statement slots (jump a' word) (jump b' other) (λ x. x) (jump_alike slots a' b' word other (same_word (t.Jump ∷ []) word other refl w x))
    statement_alike (made_of k.Return b a (a_row (a_word {token = word} w (left_out (a_word m at_end))))) (same_node (same_more (same_leaf {b = other} x) (same_more (same_node same_end) (same_more y same_end)))) = λ slots a' b' h.
        plain_statement slots (returned a' word absent) (returned b' other absent) (λ x. x) (returned_alike nothing_ slots a' b' word other h)
    statement_alike (made_of k.Return b a (a_row (a_word {token = word} w (given {tree = tree} d (a_word m at_end))))) (same_node (same_more (same_leaf {b = other} x) (same_more {other = tree'} e (same_more y same_end)))) = λ slots a' b' h.
        plain_statement slots (returned a' word tree) (returned b' other tree') (λ x. x) (returned_alike (something d e) slots a' b' word other h)
    statement_alike (made_of _ b a s) (same_node e) = λ slots a' b' h. alike_broken named (SameJudged slots) _

    else_alike : {tree other : PlainTree} → Derivation else_part tree → SameButNames tree other → ElseAlike tree other
    else_alike (single is) e = absurd cc
    else_alike (made_of k.Else b a (a_row (a_word w (a_part d at_end)))) (same_node (same_more x (same_more y same_end))) = statement_alike d y
    else_alike (made_of _ b a s) e = absurd cc

    items_block :
        {tree other : PlainTree} → Derivation items tree → SameButNames tree other → (brace close start last : PlainTree)
        → StatementAlike (node k.Block (more brace (more tree (more close none)))) (node k.Block (more start (more other (more last none))))
    items_block (single is) e brace close start last = absurd cc
    items_block (made_of k.Items {parts = parts} b a (one_or_more each any)) (same_node {others = others} e) brace close start last = block_is_alike brace close start last parts others (items_alike each e)
    items_block (made_of _ b a s) e brace close start last = absurd cc

    pub items_alike : {parts others : PlainTrees} → Each item parts → AllSameButNames parts others → ItemsAlike parts others
    items_alike no_more same_end = no_items
    items_alike (one_more {tree = tree} {rest = rest} d each) (same_more {other = other} {others = others} e r) = item_step d e (statement_alike d e) rest others (items_alike each r)
