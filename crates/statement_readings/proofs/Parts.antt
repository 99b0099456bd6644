-- The parts of statements, and what is refused stays refused.
use Rattle.std.proofs.Common.{◌≡◌, ℕ, Bool, true, false, ◌||◌, List, [], ◌∷◌, refl, ap, ◌∙◌}
use Rattle.std.specs.Prelude.{nat_le, if◌then◌else◌}
use Rattle.std.proofs.lemmas.Bool.{and_parts}
use Rattle.c_text.specs.Token.{PlainToken}
use Rattle.c_types.specs.Types.{PlainType}
use Rattle.c_tree.specs.declared.kinds.Kind.{Kind}
use Rattle.c_tree.specs.declared.kinds.Kind.TheVariants as k
use Rattle.c_tree.specs.declared.terminals.Terminal.{Terminal}
use Rattle.c_tree.specs.declared.terminals.Terminal.TheVariants as t
use Rattle.c_tree.specs.Terminals.{terminal, same, is_one_of}
use Rattle.c_tree.specs.Trees.{PlainTree, PlainTrees, leaf, node, none, more}
use Rattle.c_tree.specs.Grammar.{expression, statement, level, is_statement}
use Rattle.c_tree.proofs.TerminalCases.{EachOf, one_of}
use Rattle.tree_derivations.specs.Derivations.{Derivation, single, made_of, IsWord}
use Rattle.core_meaning.specs.Checking.{Checked, fine, refused, broken}
use Rattle.core_meaning.specs.Declarations.{Locals, judged_locals}
use Rattle.expression_types.specs.Reading.{is_operand}
use Rattle.statement_readings.specs.Walks.{State, refused_if, turns, is_loop, scope_in, with_locals, expression_read, left_out, node_read, walk_parts, walk_statement}
use Rattle.statement_readings.proofs.Steps.{none_such, Stays}

-- ---- what is refused stays so

pub still_refused : (b : Bool) → Stays (refused_if b)
still_refused b s h = ap (λ r. r || b) h

locals_stay : (m : Checked Locals) (s : State) → s.refused ≡ true → (with_locals s m).refused ≡ true
locals_stay (fine l bindings) s h = h
locals_stay (refused kind token) s h = refl
locals_stay broken s h = refl

module _ (result : PlainType) where
  out_stays : (around : Kind) → Stays (left_out result around)
  out_stays k.Return s h = still_refused _ s h
  out_stays _ s h = h

  node_stays : (in_loop : Bool) (around : Kind) (turned : Bool) (kind : Kind) (parts : PlainTrees) (inner : State → State) → Stays inner → Stays (node_read result in_loop around turned kind parts inner)
  node_stays in_loop around turned k.Absent parts inner stays s h = out_stays around s h
  node_stays in_loop around turned k.LocalDeclaration parts inner stays s h = locals_stay (judged_locals (scope_in around s.scope) s.slots parts) s h
  node_stays in_loop around turned k.Block parts inner stays s h = stays _ h
  node_stays in_loop around turned k.For parts inner stays s h = stays s h
  node_stays in_loop around turned k.Items parts inner stays s h = stays s h
  node_stays in_loop around turned k.ExpressionStatement parts inner stays s h = stays s h
  node_stays in_loop around turned k.If parts inner stays s h = stays s h
  node_stays in_loop around turned k.Else parts inner stays s h = stays s h
  node_stays in_loop around turned k.While parts inner stays s h = stays s h
  node_stays in_loop around turned k.Do parts inner stays s h = stays s h
  node_stays in_loop around turned k.ForStart parts inner stays s h = stays s h
  node_stays in_loop around turned k.Return parts inner stays s h = stays s h
  node_stays in_loop around turned k.Jump parts inner stays s h = still_refused _ s h
  node_stays in_loop around turned _ parts inner stays s h = still_refused _ s h

  either_stays : (b : Bool) (x y : State) → x.refused ≡ true → y.refused ≡ true → (if b then x else y).refused ≡ true
  either_stays true x y h i = h
  either_stays false x y h i = i

  pub parts_stay : (in_loop : Bool) (kind : Kind) (turned : Bool) (parts : PlainTrees) → Stays (walk_parts result in_loop kind turned parts)
  parts_stay in_loop kind turned none s h = h
  parts_stay in_loop kind turned (more (leaf token) rest) s h =
      either_stays (is_operand token) _ _ (parts_stay in_loop kind turned rest _ (still_refused _ s h)) (parts_stay in_loop kind (turned || turns kind token) rest s h)
  parts_stay in_loop kind turned (more (node inner parts) rest) s h =
      parts_stay in_loop kind turned rest _ (node_stays in_loop kind turned inner parts _ (parts_stay (is_loop inner || in_loop) inner false parts) s h)

  -- ---- tokens

  skipped : (in_loop : Bool) (kind : Kind) (turned : Bool) (token : PlainToken) (rest : PlainTrees) (s : State) → is_operand token ≡ false
      → walk_parts result in_loop kind turned (more (leaf token) rest) s ≡ walk_parts result in_loop kind (turned || turns kind token) rest s
  skipped in_loop kind turned token rest s e =
      ap (λ b. if b then walk_parts result in_loop kind turned rest (expression_read result kind turned (leaf token) s)
      else walk_parts result in_loop kind (turned || turns kind token) rest s) e

  -- a word that is no operand
  abbrev pub IsOther : Terminal → Type 0
  IsOther x = is_one_of (t.Name ∷ t.Number ∷ t.Character ∷ []) x ≡ false

  abbrev pub IsNone : List Terminal → Type 0
  IsNone ts = EachOf IsOther ts

  pub word_read : (ts : List Terminal) → IsNone ts → (in_loop : Bool) (kind : Kind) (turned : Bool) (token : PlainToken) (rest : PlainTrees) → IsWord ts token → ((token : PlainToken) → turns kind token ≡ false)
      → (s : State) → turned ≡ false → walk_parts result in_loop kind turned (more (leaf token) rest) s ≡ walk_parts result in_loop kind false rest s
  word_read ts never in_loop kind turned token rest w still s e =
      skipped in_loop kind turned token rest s (one_of IsOther ts (terminal token) w never)
      ∙ ap (λ b. walk_parts result in_loop kind b rest s) (ap (λ b. b || turns kind token) e ∙ still token)

  -- in a `for`
  pub other_read : (ts : List Terminal) → IsNone ts → EachOf (λ x. same t.Semicolon x ≡ false) ts → (in_loop : Bool) (token : PlainToken) (rest : PlainTrees) → IsWord ts token
      → (s : State) → walk_parts result in_loop k.For false (more (leaf token) rest) s ≡ walk_parts result in_loop k.For false rest s
  other_read ts never others in_loop token rest w s =
      skipped in_loop k.For false token rest s (one_of IsOther ts (terminal token) w never)
      ∙ ap (λ b. walk_parts result in_loop k.For b rest s) (one_of (λ x. same t.Semicolon x ≡ false) ts (terminal token) w others)

  pub end_read : (in_loop : Bool) (token : PlainToken) (rest : PlainTrees) → IsWord (t.Semicolon ∷ []) token
      → (s : State) → walk_parts result in_loop k.For false (more (leaf token) rest) s ≡ walk_parts result in_loop k.For true rest s
  end_read in_loop token rest w s =
      skipped in_loop k.For false token rest s (one_of IsOther (t.Semicolon ∷ []) (terminal token) w (refl, tt))
      ∙ ap (λ b. walk_parts result in_loop k.For b rest s) (one_of (λ x. same t.Semicolon x ≡ true) (t.Semicolon ∷ []) (terminal token) w (refl, tt))

  pub close_read : (in_loop : Bool) (token : PlainToken) (rest : PlainTrees) → IsWord (t.CloseParenthesis ∷ []) token
      → (s : State) → walk_parts result in_loop k.For true (more (leaf token) rest) s ≡ walk_parts result in_loop k.For true rest s
  close_read in_loop token rest w s = skipped in_loop k.For true token rest s (one_of IsOther (t.CloseParenthesis ∷ []) (terminal token) w (refl, tt))

  -- ---- expressions and statements among the parts

  node_expression : (in_loop : Bool) (around : Kind) (turned : Bool) (inner : Kind) (parts : PlainTrees) (f : State → State) (s : State) → nat_le 1 (level inner) ≡ true
      → node_read result in_loop around turned inner parts f s ≡ expression_read result around turned (node inner parts) s
  node_expression in_loop around turned k.Absent parts f s h = none_such h
  node_expression in_loop around turned k.LocalDeclaration parts f s h = none_such h
  node_expression in_loop around turned k.Block parts f s h = none_such h
  node_expression in_loop around turned k.For parts f s h = none_such h
  node_expression in_loop around turned k.Items parts f s h = none_such h
  node_expression in_loop around turned k.ExpressionStatement parts f s h = none_such h
  node_expression in_loop around turned k.If parts f s h = none_such h
  node_expression in_loop around turned k.Else parts f s h = none_such h
  node_expression in_loop around turned k.While parts f s h = none_such h
  node_expression in_loop around turned k.Do parts f s h = none_such h
  node_expression in_loop around turned k.ForStart parts f s h = none_such h
  node_expression in_loop around turned k.Return parts f s h = none_such h
  node_expression in_loop around turned k.Jump parts f s h = none_such h
  node_expression in_loop around turned _ parts f s h = refl

  pub expression_part : {n : ℕ} {tree : PlainTree} → Derivation (expression n) tree → (in_loop : Bool) (kind : Kind) (turned : Bool) (rest : PlainTrees) (s : State)
      → walk_parts result in_loop kind turned (more tree rest) s ≡ walk_parts result in_loop kind turned rest (expression_read result kind turned tree s)
  expression_part (single {token = token} is) in_loop kind turned rest s =
      ap (λ b. if b then walk_parts result in_loop kind turned rest (expression_read result kind turned (leaf token) s)
      else walk_parts result in_loop kind (turned || turns kind token) rest s) is
  expression_part {n = n} (made_of inner {parts = parts} b a shaped) in_loop kind turned rest s =
      ap (walk_parts result in_loop kind turned rest)
      (node_expression in_loop kind turned inner parts (walk_parts result (is_loop inner || in_loop) inner false parts) s (and_parts (nat_le 1 (level inner)) (nat_le n (level inner)) b).0)

  node_statement : (in_loop : Bool) (around : Kind) (turned : Bool) (inner : Kind) (parts : PlainTrees) (f : State → State) (s : State) → is_statement inner ≡ true
      → node_read result in_loop around turned inner parts f s ≡ node_read result in_loop k.Block false inner parts f s
  node_statement in_loop around turned k.Block parts f s h = refl
  node_statement in_loop around turned k.For parts f s h = refl
  node_statement in_loop around turned k.ExpressionStatement parts f s h = refl
  node_statement in_loop around turned k.If parts f s h = refl
  node_statement in_loop around turned k.While parts f s h = refl
  node_statement in_loop around turned k.Do parts f s h = refl
  node_statement in_loop around turned k.Return parts f s h = refl
  node_statement in_loop around turned k.Jump parts f s h = refl
  node_statement in_loop around turned _ parts f s h = none_such h

  pub statement_node : (in_loop : Bool) (kind : Kind) (turned : Bool) (inner : Kind) (parts : PlainTrees) (rest : PlainTrees) (s : State) → is_statement inner ≡ true
      → walk_parts result in_loop kind turned (more (node inner parts) rest) s ≡ walk_parts result in_loop kind turned rest (walk_statement result in_loop (node inner parts) s)
  statement_node in_loop kind turned inner parts rest s h =
      ap (walk_parts result in_loop kind turned rest) (node_statement in_loop kind turned inner parts (walk_parts result (is_loop inner || in_loop) inner false parts) s h)

  pub statement_part : {tree : PlainTree} → Derivation statement tree → (in_loop : Bool) (kind : Kind) (turned : Bool) (rest : PlainTrees) (s : State)
      → walk_parts result in_loop kind turned (more tree rest) s ≡ walk_parts result in_loop kind turned rest (walk_statement result in_loop tree s)
  statement_part (single is) in_loop kind turned rest s = none_such is
  statement_part (made_of inner {parts = parts} b a shaped) in_loop kind turned rest s = statement_node in_loop kind turned inner parts rest s b
