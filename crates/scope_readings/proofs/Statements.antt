-- Statements are walked as they are read.
use Rattle.std.proofs.Common.{◌≡◌, ℕ, Bool, true, false, List, refl, sym, ap, ◌∙◌, IsTrue}
use Rattle.std.specs.Prelude.{nat_le}
use Rattle.std.proofs.lemmas.Bool.{and_parts}
use Rattle.c_text.specs.Token.{PlainToken}
use Rattle.c_tree.specs.declared.kinds.Kind.{Kind}
use Rattle.c_tree.specs.declared.kinds.Kind.TheVariants as k
use Rattle.c_tree.specs.Trees.{PlainTree, PlainTrees, leaf, node, none, more}
use Rattle.c_tree.specs.Grammar.{Category, expression, statement, else_part, block, items, item, for_start, Slot, local, row, level, shape, belongs, is_statement}
use Rattle.tree_derivations.specs.Derivations.{Derivation, single, made_of, Shaped, a_row, one_or_more, Row, at_end, a_word, a_part}
use Rattle.bindings.specs.Visible.{Reading}
use Rattle.bindings.specs.Bindings.{in_block, read_expression, read_declaration, read_statement, read_statements}
use Rattle.scope_readings.specs.Scopes.{leave}
use Rattle.scope_readings.specs.Walks.{role, turns, ordinary_use}
use Rattle.scope_readings.proofs.Images.{image}
use Rattle.scope_readings.proofs.Parts.{none_such, Uses, plain_uses, PartWalks, PartsWalk, NodeWalks, node_part, leaf_part, AllParts, Good, AllGood, known_slots, row_parts, each_parts}
use Rattle.scope_readings.proofs.Words.{specifiers_are}
use Rattle.scope_readings.proofs.Expressions as expressions
use Rattle.scope_readings.proofs.Expressions.{unselected, expressions_good}
use Rattle.scope_readings.proofs.Declarations.{declarators_are, declaration_walks}

-- what stands in statements
abbrev pub in_statements : Category → Bool
in_statements (expression n) = true
in_statements statement = true
in_statements else_part = true
in_statements block = true
in_statements items = true
in_statements item = true
in_statements for_start = true
in_statements other = false

expression_statement : (inner : Kind) (parts : PlainTrees) → nat_le 1 (level inner) ≡ true → (r : Reading) → read_statement (node inner parts) r ≡ read_expression (node inner parts) r
expression_statement k.Block parts h r = none_such h
expression_statement k.For parts h r = none_such h
expression_statement k.Items parts h r = none_such h
expression_statement k.If parts h r = none_such h
expression_statement k.Else parts h r = none_such h
expression_statement k.While parts h r = none_such h
expression_statement k.Do parts h r = none_such h
expression_statement k.LocalDeclaration parts h r = none_such h
expression_statement _ parts h r = refl

module _ (numbers : List ℕ) where
  abbrev StatementsGood : PlainTrees → Type 0
  StatementsGood parts = AllGood numbers read_statement in_statements parts

  statements_walk : (d kind : Kind) (turned : Bool) (parts : PlainTrees) → AllParts numbers read_statement d kind turned parts → PartsWalk numbers d kind turned parts (read_statements parts)
  statements_walk d kind turned none h r = refl
  statements_walk d kind turned (more tree rest) h r = h.0 rest r ∙ statements_walk d kind turned rest h.1 (read_statement tree r)

  row_walks :
      (kind : Kind) → role kind false ≡ ordinary_use → ((token : PlainToken) → turns kind token ≡ false) → {slots : List Slot} {parts : PlainTrees} → Row slots parts
      → IsTrue (known_slots numbers read_statement in_statements slots) → StatementsGood parts → (d : Kind) → PartsWalk numbers d kind false parts (read_statements parts)
  row_walks kind e f {parts = parts} row_ q good d =
      statements_walk d kind false parts
      (row_parts numbers read_statement in_statements (λ token r. refl) (λ r. refl) row_ q good d kind false (plain_uses kind e f))

  simple_walks :
      (kind : Kind) → role kind false ≡ ordinary_use → ((token : PlainToken) → turns kind token ≡ false) → {slots : List Slot} {parts : PlainTrees} → Row slots parts
      → IsTrue (known_slots numbers read_expression expressions.in_expressions slots) → (d : Kind)
      → PartsWalk numbers d kind false parts (Rattle.bindings.specs.Bindings.read_expressions parts)
  simple_walks kind e f {parts = parts} row_ q d = expressions.row_walks numbers kind e f row_ q (expressions_good numbers parts) d

  local_walks : {parts : PlainTrees} → Row (row k.LocalDeclaration) parts → PartsWalk numbers k.LocalDeclaration k.LocalDeclaration false parts (read_declaration in_block parts)
  local_walks (a_part h (a_part i (a_word {token = end_} w at_end))) =
      declaration_walks numbers k.LocalDeclaration in_block refl refl (λ token. refl) local (λ e parts row_. none_such e) (specifiers_are h) (declarators_are i) end_ w

  statement_walks :
      (category : Category) (inner : Kind) {parts : PlainTrees} → is_statement inner ≡ true → Shaped (shape category inner) parts → StatementsGood parts → (d : Kind)
      → NodeWalks numbers d inner parts (read_statement (node inner parts))
  statement_walks category k.Block h (a_row row_) good d = λ r. ap (leave (image numbers r)) (row_walks k.Block refl (λ token. refl) row_ refl good d r)
  statement_walks category k.For h (a_row row_) good d = λ r. ap (leave (image numbers r)) (row_walks k.For refl (λ token. refl) row_ refl good d r)
  statement_walks category k.If h (a_row row_) good d = row_walks k.If refl (λ token. refl) row_ refl good d
  statement_walks category k.While h (a_row row_) good d = row_walks k.While refl (λ token. refl) row_ refl good d
  statement_walks category k.Do h (a_row row_) good d = row_walks k.Do refl (λ token. refl) row_ refl good d
  statement_walks category k.ExpressionStatement h (a_row row_) good d = simple_walks k.ExpressionStatement refl (λ token. refl) row_ refl d
  statement_walks category k.Jump h (a_row row_) good d = simple_walks k.Jump refl (λ token. refl) row_ refl d
  statement_walks category k.Return h (a_row row_) good d = simple_walks k.Return refl (λ token. refl) row_ refl d
  statement_walks category _ h s good d = none_such h

  node_walks :
      (category : Category) (inner : Kind) {parts : PlainTrees} → IsTrue (in_statements category) → IsTrue (belongs category inner) → Shaped (shape category inner) parts → StatementsGood parts → (d : Kind)
      → NodeWalks numbers d inner parts (read_statement (node inner parts))
  node_walks (expression n) inner {parts = parts} q b s good d = λ r.
      expressions.node_walks numbers (expression n) inner refl b s (expressions_good numbers parts) d r
      ∙ ap (image numbers) (sym (expression_statement inner parts (and_parts (nat_le 1 (level inner)) (nat_le n (level inner)) b).0 r))
  node_walks statement inner q b s good d = statement_walks statement inner b s good d
  node_walks block k.Block q b s good d = statement_walks block k.Block refl s good d
  node_walks block _ q b s good d = none_such b
  node_walks else_part k.Else q b (a_row row_) good d = row_walks k.Else refl (λ token. refl) row_ refl good d
  node_walks else_part _ q b s good d = none_such b
  node_walks items k.Items {parts = parts} q b (one_or_more each any) good d =
      statements_walk d k.Items false parts
      (each_parts numbers read_statement in_statements (λ token r. refl) (λ r. refl) each refl good d k.Items false (plain_uses k.Items refl (λ token. refl)))
  node_walks items _ q b s good d = none_such b
  node_walks item k.LocalDeclaration q b (a_row row_) good d = local_walks row_
  node_walks item inner q b s good d = statement_walks item inner b s good d
  node_walks for_start k.LocalDeclaration q b (a_row row_) good d = local_walks row_
  node_walks for_start k.ForStart q b (a_row row_) good d = simple_walks k.ForStart refl (λ token. refl) row_ refl d
  node_walks for_start _ q b s good d = none_such b
  node_walks _ inner q b s good d = none_such q

  -- ---- trees

  abbrev PartsGood : PlainTree → Type 0
  PartsGood (leaf token) = Unit {0}
  PartsGood (node kind parts) = StatementsGood parts

  derived_walks :
      {category : Category} {tree : PlainTree} → Derivation category tree → IsTrue (in_statements category) → PartsGood tree → (d kind : Kind) (turned : Bool) → Uses kind turned
      → PartWalks numbers d kind turned tree (read_statement tree)
  derived_walks (single {category = category} {token = token} is) q good d kind turned uses = leaf_part numbers d kind turned uses token (unselected category token is)
  derived_walks (made_of {category = category} inner {parts = parts} b a s) q good d kind turned uses =
      node_part numbers d kind turned inner parts (read_statement (node inner parts)) (node_walks category inner q b s good d)

  mutual
    pub statement_good : (tree : PlainTree) → Good numbers read_statement in_statements tree
    statement_good (leaf token) = λ category q h d kind turned uses. derived_walks h q tt d kind turned uses
    statement_good (node inner parts) = λ category q h d kind turned uses. derived_walks h q (statements_good parts) d kind turned uses

    statements_good : (parts : PlainTrees) → StatementsGood parts
    statements_good none = tt
    statements_good (more first rest) = (statement_good first, statements_good rest)
