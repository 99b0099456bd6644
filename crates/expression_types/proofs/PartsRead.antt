-- How the parts of a node of the grammar are read.
use Rattle.std.proofs.Common.{◌≡◌, ℕ, Bool, true, false, List, [], ◌∷◌, refl, ap, ◌∙◌}
use Rattle.std.specs.Prelude.{not, ◌&&◌, if◌then◌else◌}
use Rattle.std.proofs.lemmas.Bool.{false≢true}
use Rattle.c_text.specs.Token.{PlainToken}
use Rattle.c_tree.specs.declared.kinds.Kind.{Kind}
use Rattle.c_tree.specs.declared.kinds.Kind.TheVariants as k
use Rattle.c_tree.specs.declared.terminals.Terminal.{Terminal}
use Rattle.c_tree.specs.declared.terminals.Terminal.TheVariants as t
use Rattle.c_tree.specs.Terminals.{terminal, is_one_of}
use Rattle.c_tree.specs.Trees.{PlainTree, PlainTrees, leaf, more}
use Rattle.c_tree.specs.Grammar.{expression, belongs}
use Rattle.c_tree.proofs.TerminalCases.{one_of, EachOf}
use Rattle.tree_derivations.specs.Derivations.{Derivation, single, made_of, IsWord}
use Rattle.expression_types.specs.Known.{Known}
use Rattle.expression_types.specs.Reading as reading
use Rattle.expression_types.specs.Reading.{Parts, is_operand, is_selected, with_operand, with_sign, with_node, nothing_read, read_parts, read_expression}

-- words of other terminals are no operands
pub no_operand : (ts : List Terminal) (token : PlainToken) → EachOf (λ x. is_one_of (t.Name ∷ t.Number ∷ t.Character ∷ []) x ≡ false) ts → IsWord ts token → is_operand token ≡ false
no_operand ts token each h = one_of (λ x. is_one_of (t.Name ∷ t.Number ∷ t.Character ∷ []) x ≡ false) ts (terminal token) h each

module _ (known : Known) where
  pub sign_read : (kind : Kind) (token : PlainToken) (rest : PlainTrees) (p : Parts) → is_operand token ≡ false
      → read_parts known kind (more (leaf token) rest) p ≡ read_parts known kind rest (with_sign token p)
  sign_read kind token rest p h =
      ap (λ b. read_parts known kind rest (if b && not (is_selected kind p.signs) then with_operand (reading.single known token) p else with_sign token p)) h

  -- the name of a member
  pub member_read : (token : PlainToken) (rest : PlainTrees) (p : Parts) → is_selected k.Selection p.signs ≡ true
      → read_parts known k.Selection (more (leaf token) rest) p ≡ read_parts known k.Selection rest (with_sign token p)
  member_read token rest p h =
      ap (λ b. read_parts known k.Selection rest (if is_operand token && not b then with_operand (reading.single known token) p else with_sign token p)) h
      ∙ never (is_operand token)
    where
      never : (b : Bool) → read_parts known k.Selection rest (if b && not true then with_operand (reading.single known token) p else with_sign token p) ≡ read_parts known k.Selection rest (with_sign token p)
      never true = refl
      never false = refl

  leaf_operand : (kind : Kind) (token : PlainToken) (rest : PlainTrees) (p : Parts) → is_operand token ≡ true → is_selected kind p.signs ≡ false
      → read_parts known kind (more (leaf token) rest) p ≡ read_parts known kind rest (with_operand (reading.single known token) p)
  leaf_operand kind token rest p h free =
      ap (λ b. read_parts known kind rest (if b && not (is_selected kind p.signs) then with_operand (reading.single known token) p else with_sign token p)) h
      ∙ ap (λ b. read_parts known kind rest (if true && not b then with_operand (reading.single known token) p else with_sign token p)) free

  node_operand : (level : ℕ) (inner : Kind) → belongs (expression level) inner ≡ true → (parts : PlainTrees) (q p : Parts)
      → with_node known inner parts q p ≡ with_operand (reading.expression_of known inner parts q) p
  node_operand level k.Arguments h parts q p = absurd (false≢true h)
  node_operand level k.Specifiers h parts q p = absurd (false≢true h)
  node_operand level k.Absent h parts q p = absurd (false≢true h)
  node_operand level inner h parts q p = refl

  -- an expression among the parts is an operand
  pub operand_read : {level : ℕ} {tree : PlainTree} → Derivation (expression level) tree → (kind : Kind) (rest : PlainTrees) (p : Parts) → is_selected kind p.signs ≡ false
      → read_parts known kind (more tree rest) p ≡ read_parts known kind rest (with_operand (read_expression known tree) p)
  operand_read {level} (single {token = token} is) kind rest p free = leaf_operand kind token rest p is free
  operand_read {level} (made_of inner {parts = parts} b a s) kind rest p free =
      ap (read_parts known kind rest) (node_operand level inner b parts (read_parts known inner parts nothing_read) p)
