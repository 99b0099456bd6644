-- A reading of a unit, step by step: what each step keeps, the whole reading keeps.
use Rattle.std.proofs.Common.{ℕ, Bool, true, false, List}
use Rattle.std.specs.Prelude.{if◌then◌else◌}
use Rattle.c_text.specs.Token.{PlainToken}
use Rattle.c_tree.specs.declared.kinds.Kind.TheVariants as k
use Rattle.c_tree.specs.declared.terminals.Terminal.TheVariants as t
use Rattle.c_tree.specs.Terminals.{terminal, same}
use Rattle.c_tree.specs.Trees.{PlainTree, PlainTrees, leaf, node, none, more}
use Rattle.core_meaning.specs.Declarations.{name_in}
use Rattle.bindings.specs.Visible.{bound_to, Reading, passed, occurs, leave, used, member_used, tag_named}
use Rattle.bindings.specs.Bindings.{is_name, Where, at_file, in_block, among_members, may_declare_tags, declaring, declared, read_expression, read_expressions, read_words, read_declarator, read_declared, read_declarators, read_parameter, read_parameters, read_suffix, read_closed_suffix, read_declaration, read_statement, read_statements, read_members, tag_text, read_item, read_items}

-- what holds of two readings, the one before some steps and the one behind them
pub record Steps : Type 1 where
  pub Goes : Reading → Reading → Type 0
  pub stays : (r : Reading) → Goes r r
  pub goes_on : (r s t : Reading) → Goes r s → Goes s t → Goes r t
  pub passes : (r : Reading) → Goes r (passed r)
  pub uses : (token : PlainToken) (r : Reading) → Goes r (used token r)
  pub member : (token : PlainToken) (r : Reading) → Goes r (member_used token r)
  pub tag : (may : Bool) (token : PlainToken) (r : Reading) → Goes r (tag_named may token r)
  -- a name that is declared, with what stands behind it in its declarator
  pub name :
      (place : Where) (token : PlainToken) (r : Reading) (behind : Reading → Reading) → ((s : Reading) → Goes s (behind s))
      → Goes r (declared place token (declaring place token r) (behind (occurs token (bound_to (declaring place token r)) r)))
  pub leaves : (r s : Reading) → Goes r s → Goes r (leave r s)

module _ (w : Steps) where
  used-or-passed : (b : Bool) (token : PlainToken) (r : Reading) → w.Goes r (if b then used token r else passed r)
  used-or-passed true token r = w.uses token r
  used-or-passed false token r = w.passes r

  mutual
    expression-goes : (tree : PlainTree) (r : Reading) → w.Goes r (read_expression tree r)
    expression-goes (leaf token) r = used-or-passed (is_name token) token r
    expression-goes (node k.Selection (more structure (more (leaf sign) (more (leaf name) none)))) r =
        w.goes_on _ _ _ (w.goes_on _ _ _ (expression-goes structure r) (w.passes (read_expression structure r))) (w.member name (passed (read_expression structure r)))
    expression-goes (node kind parts) r = expressions-go parts r

    expressions-go : (parts : PlainTrees) (r : Reading) → w.Goes r (read_expressions parts r)
    expressions-go none r = w.stays r
    expressions-go (more tree rest) r = w.goes_on _ _ _ (expression-goes tree r) (expressions-go rest (read_expression tree r))

  tag-or-passed : (b may : Bool) (token : PlainToken) (r : Reading) → w.Goes r (if b then tag_named may token r else passed r)
  tag-or-passed true may token r = w.tag may token r
  tag-or-passed false may token r = w.passes r

  words-go : (may : Bool) (words : PlainTrees) (r : Reading) → w.Goes r (read_words may words r)
  words-go may none r = w.stays r
  words-go may (more (leaf token) rest) r =
      w.goes_on _ _ _ (tag-or-passed (is_name token) may token r) (words-go may rest (if is_name token then tag_named may token r else passed r))
  words-go may (more (node kind parts) rest) r = w.goes_on _ _ _ (expressions-go parts r) (words-go may rest (read_expressions parts r))

  -- ---- declarators

  module _ (behind : PlainTrees → Reading → Reading) (place : Where) (behind-goes : (parts : PlainTrees) (r : Reading) → w.Goes r (behind parts r)) where
    declarator-goes : (parts : PlainTrees) (r : Reading) → w.Goes r (read_declarator behind place parts r)
    declarator-goes none r = w.stays r
    declarator-goes (more (leaf token) rest) r = by (is_name token) (same t.OpenBracket (terminal token)) (declarator-goes rest (passed r))
      where
        by :
            (b c : Bool) → w.Goes (passed r) (read_declarator behind place rest (passed r))
            → w.Goes r
            (if b then declared place token (declaring place token r) (behind rest (occurs token (bound_to (declaring place token r)) r))
            else if c then read_expressions rest (passed r) else read_declarator behind place rest (passed r))
        by true c later = w.name place token r (behind rest) (λ s. behind-goes rest s)
        by false true later = w.goes_on _ _ _ (w.passes r) (expressions-go rest (passed r))
        by false false later = w.goes_on _ _ _ (w.passes r) later
    declarator-goes (more (node kind parts) rest) r = w.goes_on _ _ _ (expressions-go parts r) (expressions-go rest (read_expressions parts r))

    declared-goes : (tree : PlainTree) (r : Reading) → w.Goes r (read_declared behind place tree r)
    declared-goes (node k.Declarator parts) r = declarator-goes parts r
    declared-goes (node k.ArrayDeclarator parts) r = declarator-goes parts r
    declared-goes (node k.FunctionDeclarator parts) r = declarator-goes parts r
    declared-goes other r = expression-goes other r

    declarators-go : (parts : PlainTrees) (r : Reading) → w.Goes r (read_declarators behind place parts r)
    declarators-go none r = w.stays r
    declarators-go (more tree rest) r = w.goes_on _ _ _ (declared-goes tree r) (declarators-go rest (read_declared behind place tree r))

  -- ---- parameters

  parameter-goes : (tree : PlainTree) (r : Reading) → w.Goes r (read_parameter tree r)
  parameter-goes (node k.Parameter (more (node kind words) (more declarator none))) r =
      w.goes_on _ _ _ (words-go false words r) (declared-goes read_expressions in_block expressions-go declarator (read_words false words r))
  parameter-goes other r = expression-goes other r

  parameters-go : (parts : PlainTrees) (r : Reading) → w.Goes r (read_parameters parts r)
  parameters-go none r = w.stays r
  parameters-go (more tree rest) r = w.goes_on _ _ _ (parameter-goes tree r) (parameters-go rest (read_parameter tree r))

  suffix-goes : (parts : PlainTrees) (r : Reading) → w.Goes r (read_suffix parts r)
  suffix-goes none r = w.stays r
  suffix-goes (more (node k.Parameters parts) rest) r = w.goes_on _ _ _ (parameters-go parts r) (suffix-goes rest (read_parameters parts r))
  suffix-goes (more tree rest) r = w.goes_on _ _ _ (expression-goes tree r) (suffix-goes rest (read_expression tree r))

  closed-goes : (parts : PlainTrees) (r : Reading) → w.Goes r (read_closed_suffix parts r)
  closed-goes parts r = w.leaves r (read_suffix parts r) (suffix-goes parts r)

  -- ---- declarations and statements

  declaration-goes : (place : Where) (parts : PlainTrees) (r : Reading) → w.Goes r (read_declaration place parts r)
  declaration-goes place (more (node kind words) (more (node list declarators) (more (leaf semicolon) none))) r =
      let named : Reading = read_words (may_declare_tags place) words r in
      w.goes_on _ _ _ (w.goes_on _ _ _ (words-go (may_declare_tags place) words r) (declarators-go read_closed_suffix place closed-goes declarators named))
      (w.passes (read_declarators read_closed_suffix place declarators named))
  declaration-goes place parts r = expressions-go parts r

  mutual
    statement-goes : (tree : PlainTree) (r : Reading) → w.Goes r (read_statement tree r)
    statement-goes (node k.Block parts) r = w.leaves r (read_statements parts r) (statements-go parts r)
    statement-goes (node k.For parts) r = w.leaves r (read_statements parts r) (statements-go parts r)
    statement-goes (node k.Items parts) r = statements-go parts r
    statement-goes (node k.If parts) r = statements-go parts r
    statement-goes (node k.Else parts) r = statements-go parts r
    statement-goes (node k.While parts) r = statements-go parts r
    statement-goes (node k.Do parts) r = statements-go parts r
    statement-goes (node k.LocalDeclaration parts) r = declaration-goes in_block parts r
    statement-goes other r = expression-goes other r

    statements-go : (parts : PlainTrees) (r : Reading) → w.Goes r (read_statements parts r)
    statements-go none r = w.stays r
    statements-go (more tree rest) r = w.goes_on _ _ _ (statement-goes tree r) (statements-go rest (read_statement tree r))

  -- ---- units

  members-go : (tag : List ℕ) (parts : PlainTrees) (r : Reading) → w.Goes r (read_members tag parts r)
  members-go tag none r = w.stays r
  members-go tag (more (node k.Member parts) rest) r =
      w.goes_on _ _ _ (declaration-goes (among_members tag) parts r) (members-go tag rest (read_declaration (among_members tag) parts r))
  members-go tag (more other rest) r = w.goes_on _ _ _ (expression-goes other r) (members-go tag rest (read_expression other r))

  item-goes : (tree : PlainTree) (r : Reading) → w.Goes r (read_item tree r)
  item-goes (node k.StructDefinition (more (node kind words) (more (leaf brace) (more (node list members) (more (leaf last) (more (leaf semicolon) none)))))) r =
      let named : Reading = read_words true words r in
      let all : Reading = read_members (tag_text (name_in words)) members (passed named) in
      w.goes_on _ _ _ (w.goes_on _ _ _ (words-go true words r) (w.passes named))
      (w.goes_on _ _ _ (members-go (tag_text (name_in words)) members (passed named)) (w.goes_on _ _ _ (w.passes all) (w.passes (passed all))))
  item-goes (node k.StructDeclaration (more (node kind words) (more (leaf semicolon) none))) r =
      w.goes_on _ _ _ (words-go true words r) (w.passes (read_words true words r))
  item-goes (node k.Declaration parts) r = declaration-goes at_file parts r
  item-goes (node k.Function (more (node kind words) (more (node list declarators) (more body none)))) r =
      let named : Reading = read_words false words r in
      let head : Reading = read_declarators read_suffix at_file declarators named in
      w.leaves r (read_statement body head)
      (w.goes_on _ _ _ (w.goes_on _ _ _ (words-go false words r) (declarators-go read_suffix at_file suffix-goes declarators named)) (statement-goes body head))
  item-goes other r = expression-goes other r

  pub items-go : (parts : PlainTrees) (r : Reading) → w.Goes r (read_items parts r)
  items-go none r = w.stays r
  items-go (more tree rest) r = w.goes_on _ _ _ (item-goes tree r) (items-go rest (read_item tree r))
