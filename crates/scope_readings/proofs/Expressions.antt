-- Expressions and initialisers are walked as they are read.
use Rattle.std.proofs.Common.{◌≡◌, Bool, true, false, List, [], ◌∷◌, refl, ap, ◌∙◌, IsTrue}
use Rattle.std.specs.Prelude.{ℕ, nat_le, if◌then◌else◌}
use Rattle.std.proofs.lemmas.Bool.{and_parts}
use Rattle.c_text.specs.Token.{PlainToken}
use Rattle.c_tree.specs.declared.kinds.Kind.{Kind}
use Rattle.c_tree.specs.declared.kinds.Kind.TheVariants as k
use Rattle.c_tree.specs.declared.terminals.Terminal.TheVariants as t
use Rattle.c_tree.specs.Terminals.{terminal, same}
use Rattle.c_tree.specs.Trees.{PlainTree, PlainTrees, leaf, node, none, more}
use Rattle.c_tree.specs.Grammar.{Category, expression, arguments, cast_type, initialiser, initialisers, Slot, level, shape, belongs, is_single, is_word, are_texts}
use Rattle.c_tree.proofs.TerminalCases.{one_of}
use Rattle.tree_derivations.specs.Derivations.{Derivation, single, made_of, Shaped, a_row, some_words, some_texts, with_commas, with_last_comma, Row, at_end, a_word, a_part, IsWord}
use Rattle.bindings.specs.Visible as reading
use Rattle.bindings.specs.Visible.{Reading, member_used}
use Rattle.bindings.specs.Bindings.{read_expression, read_expressions}
use Rattle.scope_readings.specs.Scopes.{Scopes, passed}
use Rattle.scope_readings.specs.Walks.{role, turns, ordinary_use, member_use, walk_name, walk_parts}
use Rattle.scope_readings.proofs.Images.{image, passed_image, member_image}
use Rattle.scope_readings.proofs.Parts.{none_such, other_word, Uses, plain_uses, PartWalks, PartsWalk, NodeWalks, node_part, leaf_part, AllParts, Good, AllGood, known_slots, row_parts, separated_parts, ended_parts}
use Rattle.scope_readings.proofs.Words.{cast_walks}

-- what stands in expressions and initialisers
abbrev pub in_expressions : Category → Bool
in_expressions (expression n) = true
in_expressions arguments = true
in_expressions cast_type = true
in_expressions initialiser = true
in_expressions initialisers = true
in_expressions other = false

pub unselected : (category : Category) (token : PlainToken) → IsTrue (is_single category (terminal token)) → same t.Select (terminal token) ≡ false
unselected (expression n) token is = other_word t.Select (t.Name ∷ t.Number ∷ t.Character ∷ []) token refl is
unselected initialiser token is = other_word t.Select (t.Name ∷ t.Number ∷ t.Character ∷ []) token refl is
unselected _ token is = none_such is

module _ (numbers : List ℕ) where
  abbrev pub ExpressionGood : PlainTree → Type 0
  ExpressionGood tree = Good numbers read_expression in_expressions tree

  abbrev ExpressionsGood : PlainTrees → Type 0
  ExpressionsGood parts = AllGood numbers read_expression in_expressions parts

  pub expressions_walk : (d kind : Kind) (turned : Bool) (parts : PlainTrees) → AllParts numbers read_expression d kind turned parts → PartsWalk numbers d kind turned parts (read_expressions parts)
  expressions_walk d kind turned none h r = refl
  expressions_walk d kind turned (more tree rest) h r = h.0 rest r ∙ expressions_walk d kind turned rest h.1 (read_expression tree r)

  -- ---- members of structs

  select_sign : (d : Kind) (sign : PlainToken) → IsWord (t.Select ∷ []) sign → (rest : PlainTrees) (s : Scopes) → walk_parts d k.Selection false (more (leaf sign) rest) s ≡ walk_parts d k.Selection true rest (passed s)
  select_sign d sign w rest s =
      ap (λ x. if same t.Name x then walk_name d ordinary_use sign (λ after. walk_parts d k.Selection false rest after) s
      else walk_parts d k.Selection (same t.Select x) rest (passed s))
      (one_of (λ x. x ≡ t.Select) (t.Select ∷ []) (terminal sign) w (refl, tt))

  selected_name : (d : Kind) (name : PlainToken) → IsWord (t.Name ∷ []) name → (s : Scopes) → walk_parts d k.Selection true (more (leaf name) none) s ≡ passed s
  selected_name d name w s =
      ap (λ x. if same t.Name x then walk_name d member_use name (λ after. walk_parts d k.Selection true none after) s
      else walk_parts d k.Selection true none (passed s))
      (one_of (λ x. x ≡ t.Name) (t.Name ∷ []) (terminal name) w (refl, tt))

  selection_walks :
      (d : Kind) (whole : PlainTree) (sign name : PlainToken) → PartWalks numbers d k.Selection false whole (read_expression whole) → IsWord (t.Select ∷ []) sign → IsWord (t.Name ∷ []) name
      → NodeWalks numbers d k.Selection (more whole (more (leaf sign) (more (leaf name) none))) (λ r. member_used name (reading.passed (read_expression whole r)))
  selection_walks d whole sign name h w v r =
      let inner : Reading = read_expression whole r in
      h (more (leaf sign) (more (leaf name) none)) r
      ∙ select_sign d sign w (more (leaf name) none) (image numbers inner)
      ∙ selected_name d name v (passed (image numbers inner))
      ∙ ap passed (passed_image numbers inner)
      ∙ member_image numbers name (reading.passed inner)

  -- ---- nodes

  pub row_walks :
      (kind : Kind) → role kind false ≡ ordinary_use → ((token : PlainToken) → turns kind token ≡ false) → {slots : List Slot} {parts : PlainTrees} → Row slots parts
      → IsTrue (known_slots numbers read_expression in_expressions slots) → ExpressionsGood parts → (d : Kind) → PartsWalk numbers d kind false parts (read_expressions parts)
  row_walks kind e f {parts = parts} row q good d =
      expressions_walk d kind false parts
      (row_parts numbers read_expression in_expressions (λ token r. refl) (λ r. refl) row q good d kind false (plain_uses kind e f))

  texts_parts : (parts : PlainTrees) → IsTrue (are_texts parts) → (d kind : Kind) (turned : Bool) → Uses kind turned → AllParts numbers read_expression d kind turned parts
  texts_parts none h d kind turned uses = tt
  texts_parts (more (node inner parts) rest) h d kind turned uses = none_such h
  texts_parts (more (leaf token) rest) h d kind turned uses =
      let both = and_parts (is_word (t.Text ∷ []) (leaf token)) (are_texts rest) h in
      (leaf_part numbers d kind turned uses token (other_word t.Select (t.Text ∷ []) token refl both.0), texts_parts rest both.1 d kind turned uses)

  operators_walk :
      (category : Category) (inner : Kind) {parts : PlainTrees} → nat_le 1 (level inner) ≡ true → Shaped (shape category inner) parts → ExpressionsGood parts → (d : Kind)
      → NodeWalks numbers d inner parts (read_expression (node inner parts))
  operators_walk category k.Assignment h (a_row row) good d = row_walks k.Assignment refl (λ token. refl) row refl good d
  operators_walk category k.Conditional h (a_row row) good d = row_walks k.Conditional refl (λ token. refl) row refl good d
  operators_walk category k.LogicalOr h (a_row row) good d = row_walks k.LogicalOr refl (λ token. refl) row refl good d
  operators_walk category k.LogicalAnd h (a_row row) good d = row_walks k.LogicalAnd refl (λ token. refl) row refl good d
  operators_walk category k.Or h (a_row row) good d = row_walks k.Or refl (λ token. refl) row refl good d
  operators_walk category k.Xor h (a_row row) good d = row_walks k.Xor refl (λ token. refl) row refl good d
  operators_walk category k.And h (a_row row) good d = row_walks k.And refl (λ token. refl) row refl good d
  operators_walk category k.Equality h (a_row row) good d = row_walks k.Equality refl (λ token. refl) row refl good d
  operators_walk category k.Relation h (a_row row) good d = row_walks k.Relation refl (λ token. refl) row refl good d
  operators_walk category k.Shift h (a_row row) good d = row_walks k.Shift refl (λ token. refl) row refl good d
  operators_walk category k.Sum h (a_row row) good d = row_walks k.Sum refl (λ token. refl) row refl good d
  operators_walk category k.Product h (a_row row) good d = row_walks k.Product refl (λ token. refl) row refl good d
  operators_walk category k.Cast h (a_row row) good d = row_walks k.Cast refl (λ token. refl) row refl good d
  operators_walk category k.Prefix h (a_row row) good d = row_walks k.Prefix refl (λ token. refl) row refl good d
  operators_walk category k.PrefixStep h (a_row row) good d = row_walks k.PrefixStep refl (λ token. refl) row refl good d
  operators_walk category k.PostfixStep h (a_row row) good d = row_walks k.PostfixStep refl (λ token. refl) row refl good d
  operators_walk category k.Index h (a_row row) good d = row_walks k.Index refl (λ token. refl) row refl good d
  operators_walk category k.Call h (a_row row) good d = row_walks k.Call refl (λ token. refl) row refl good d
  operators_walk category k.Parenthesized h (a_row row) good d = row_walks k.Parenthesized refl (λ token. refl) row refl good d
  operators_walk category k.Selection h (a_row (a_part {tree = whole} inner (a_word {token = sign} w (a_word {token = name} v at_end)))) good d =
      selection_walks d whole sign name
      (good.0 (expression 15) refl inner d k.Selection false (record { role_is = refl; still = λ token e. e })) w v
  operators_walk category k.Texts {parts = parts} h (some_texts are any) good d =
      expressions_walk d k.Texts false parts (texts_parts parts are d k.Texts false (plain_uses k.Texts refl (λ token. refl)))
  operators_walk category _ h s good d = none_such h

  pub node_walks :
      (category : Category) (inner : Kind) {parts : PlainTrees} → IsTrue (in_expressions category) → IsTrue (belongs category inner) → Shaped (shape category inner) parts → ExpressionsGood parts → (d : Kind)
      → NodeWalks numbers d inner parts (read_expression (node inner parts))
  node_walks (expression n) inner q b s good d = operators_walk (expression n) inner (and_parts (nat_le 1 (level inner)) (nat_le n (level inner)) b).0 s good d
  node_walks arguments k.Arguments {parts = parts} q b (with_commas s) good d =
      expressions_walk d k.Arguments false parts
      (separated_parts numbers read_expression in_expressions (λ token r. refl) (λ r. refl) s refl good d k.Arguments false (plain_uses k.Arguments refl (λ token. refl)))
  node_walks arguments _ q b s good d = none_such b
  node_walks cast_type k.Specifiers {parts = parts} q b (some_words are) good d = cast_walks numbers parts are d
  node_walks cast_type _ q b s good d = none_such b
  node_walks initialiser k.Braces q b (a_row row) good d = row_walks k.Braces refl (λ token. refl) row refl good d
  node_walks initialiser inner q b s good d = operators_walk initialiser inner b s good d
  node_walks initialisers k.Initialisers {parts = parts} q b (with_last_comma s) good d =
      expressions_walk d k.Initialisers false parts
      (ended_parts numbers read_expression in_expressions (λ token r. refl) (λ r. refl) s refl good d k.Initialisers false (plain_uses k.Initialisers refl (λ token. refl)))
  node_walks initialisers _ q b s good d = none_such b
  node_walks _ inner q b s good d = none_such q

  -- ---- trees

  abbrev PartsGood : PlainTree → Type 0
  PartsGood (leaf token) = Unit {0}
  PartsGood (node kind parts) = ExpressionsGood parts

  derived_walks :
      {category : Category} {tree : PlainTree} → Derivation category tree → IsTrue (in_expressions category) → PartsGood tree → (d kind : Kind) (turned : Bool) → Uses kind turned
      → PartWalks numbers d kind turned tree (read_expression tree)
  derived_walks (single {category = category} {token = token} is) q good d kind turned uses = leaf_part numbers d kind turned uses token (unselected category token is)
  derived_walks (made_of {category = category} inner {parts = parts} b a s) q good d kind turned uses =
      node_part numbers d kind turned inner parts (read_expression (node inner parts)) (node_walks category inner q b s good d)

  mutual
    pub expression_good : (tree : PlainTree) → ExpressionGood tree
    expression_good (leaf token) = λ category q h d kind turned uses. derived_walks h q tt d kind turned uses
    expression_good (node inner parts) = λ category q h d kind turned uses. derived_walks h q (expressions_good parts) d kind turned uses

    pub expressions_good : (parts : PlainTrees) → ExpressionsGood parts
    expressions_good none = tt
    expressions_good (more first rest) = (expression_good first, expressions_good rest)
