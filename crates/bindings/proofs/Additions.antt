-- Reading only adds identifiers.
use Rattle.std.proofs.Common.{ℕ, Bool, true, false, List, [], ◌∷◌, refl}
use Rattle.std.specs.Prelude.{if◌then◌else◌}
use Rattle.c_text.specs.Token.{PlainToken}
use Rattle.c_tree.specs.declared.kinds.Kind.TheVariants as k
use Rattle.c_tree.specs.declared.terminals.Terminal.TheVariants as t
use Rattle.c_tree.specs.Terminals.{terminal, same}
use Rattle.c_tree.specs.Trees.{PlainTree, PlainTrees, leaf, node, none, more}
use Rattle.core_meaning.specs.Declarations.{name_in}
use Rattle.bindings.specs.Visible.{bound_to, Reading, passed, occurs}
use Rattle.bindings.specs.Bindings.{is_name, Where, at_file, in_block, among_members, may_declare_tags, declaring, declared, read_expression, read_expressions, read_words, read_declarator, read_declared, read_declarators, read_parameter, read_parameters, read_suffix, read_closed_suffix, read_declaration, read_statement, read_statements, read_members, tag_text, read_item, read_items}
use Rattle.bindings.proofs.Follows.{Adds, adds_none, adds_both}
use Rattle.bindings.proofs.Expressions.{expression_adds, expressions_add}
use Rattle.bindings.proofs.Words.{words_add}

abbrev pub SuffixAdds : (PlainTrees → Reading → Reading) → Type 0
SuffixAdds suffix = (parts : PlainTrees) (r : Reading) → Adds r.found (suffix parts r).found

pub declared_adds : (place : Where) (token : PlainToken) (by : ℕ) (r s : Reading) → Adds r.found s.found → Adds r.found (declared place token by s).found
declared_adds at_file token by r s a = a
declared_adds in_block token by r s a = a
declared_adds (among_members tag) token by r s a = a

pub declarator_adds : (suffix : PlainTrees → Reading → Reading) → SuffixAdds suffix → (place : Where) (parts : PlainTrees) (r : Reading) → Adds r.found (read_declarator suffix place parts r).found
declarator_adds suffix adds place none r = adds_none r.found
declarator_adds suffix adds place (more (leaf token) rest) r = by (is_name token) (same t.OpenBracket (terminal token)) (declarator_adds suffix adds place rest (passed r))
  where
    by :
        (x y : Bool) → Adds r.found (read_declarator suffix place rest (passed r)).found
        → Adds r.found (if x then declared place token (declaring place token r) (suffix rest (occurs token (bound_to (declaring place token r)) r)) else if y then read_expressions rest (passed r) else read_declarator suffix place rest (passed r)).found
    by true y further =
        let r1 : Reading = occurs token (bound_to (declaring place token r)) r in
        declared_adds place token (declaring place token r) r (suffix rest r1) (adds_both (record { others = record { number = r.next; token = token; binding = bound_to (declaring place token r); uses_file_name = false } ∷ []; is = refl }) (adds rest r1))
    by false true further = expressions_add rest (passed r)
    by false false further = further
declarator_adds suffix adds place (more (node kind parts) rest) r = adds_both (expressions_add parts r) (expressions_add rest (read_expressions parts r))

pub one_declared_adds : (suffix : PlainTrees → Reading → Reading) → SuffixAdds suffix → (place : Where) (tree : PlainTree) (r : Reading) → Adds r.found (read_declared suffix place tree r).found
one_declared_adds suffix adds place (node k.Declarator parts) r = declarator_adds suffix adds place parts r
one_declared_adds suffix adds place (node k.ArrayDeclarator parts) r = declarator_adds suffix adds place parts r
one_declared_adds suffix adds place (node k.FunctionDeclarator parts) r = declarator_adds suffix adds place parts r
one_declared_adds suffix adds place other r = expression_adds other r

pub declarators_add : (suffix : PlainTrees → Reading → Reading) → SuffixAdds suffix → (place : Where) (trees : PlainTrees) (r : Reading) → Adds r.found (read_declarators suffix place trees r).found
declarators_add suffix adds place none r = adds_none r.found
declarators_add suffix adds place (more tree rest) r = adds_both (one_declared_adds suffix adds place tree r) (declarators_add suffix adds place rest (read_declared suffix place tree r))

pub parameter_adds : (tree : PlainTree) (r : Reading) → Adds r.found (read_parameter tree r).found
parameter_adds (node k.Parameter (more (node kind words) (more declarator none))) r =
    adds_both (words_add false words r) (one_declared_adds read_expressions expressions_add in_block declarator (read_words false words r))
parameter_adds other r = expression_adds other r

pub parameters_add : (trees : PlainTrees) (r : Reading) → Adds r.found (read_parameters trees r).found
parameters_add none r = adds_none r.found
parameters_add (more tree rest) r = adds_both (parameter_adds tree r) (parameters_add rest (read_parameter tree r))

pub suffix_adds : SuffixAdds read_suffix
suffix_adds none r = adds_none r.found
suffix_adds (more (node k.Parameters parts) rest) r = adds_both (parameters_add parts r) (suffix_adds rest (read_parameters parts r))
suffix_adds (more tree rest) r = adds_both (expression_adds tree r) (suffix_adds rest (read_expression tree r))

pub closed_suffix_adds : SuffixAdds read_closed_suffix
closed_suffix_adds parts r = suffix_adds parts r

pub declaration_adds : (place : Where) (parts : PlainTrees) (r : Reading) → Adds r.found (read_declaration place parts r).found
declaration_adds place (more (node kind words) (more (node list declarators) (more (leaf semicolon) none))) r =
    adds_both (words_add (may_declare_tags place) words r) (declarators_add read_closed_suffix closed_suffix_adds place declarators (read_words (may_declare_tags place) words r))
declaration_adds place parts r = expressions_add parts r

mutual
  pub statement_adds : (tree : PlainTree) (r : Reading) → Adds r.found (read_statement tree r).found
  statement_adds (node k.Block parts) r = statements_add parts r
  statement_adds (node k.For parts) r = statements_add parts r
  statement_adds (node k.Items parts) r = statements_add parts r
  statement_adds (node k.If parts) r = statements_add parts r
  statement_adds (node k.Else parts) r = statements_add parts r
  statement_adds (node k.While parts) r = statements_add parts r
  statement_adds (node k.Do parts) r = statements_add parts r
  statement_adds (node k.LocalDeclaration parts) r = declaration_adds in_block parts r
  statement_adds other r = expression_adds other r

  pub statements_add : (trees : PlainTrees) (r : Reading) → Adds r.found (read_statements trees r).found
  statements_add none r = adds_none r.found
  statements_add (more tree rest) r = adds_both (statement_adds tree r) (statements_add rest (read_statement tree r))

pub members_add : (tag : List ℕ) (trees : PlainTrees) (r : Reading) → Adds r.found (read_members tag trees r).found
members_add tag none r = adds_none r.found
members_add tag (more (node k.Member parts) rest) r = adds_both (declaration_adds (among_members tag) parts r) (members_add tag rest (read_declaration (among_members tag) parts r))
members_add tag (more other rest) r = adds_both (expression_adds other r) (members_add tag rest (read_expression other r))

pub item_adds : (tree : PlainTree) (r : Reading) → Adds r.found (read_item tree r).found
item_adds (node k.StructDefinition (more (node kind words) (more (leaf brace) (more (node list members) (more (leaf last) (more (leaf semicolon) none)))))) r =
    adds_both (words_add true words r) (members_add (tag_text (name_in words)) members (passed (read_words true words r)))
item_adds (node k.StructDeclaration (more (node kind words) (more (leaf semicolon) none))) r = words_add true words r
item_adds (node k.Declaration parts) r = declaration_adds at_file parts r
item_adds (node k.Function (more (node kind words) (more (node list declarators) (more body none)))) r =
    adds_both (words_add false words r)
    (adds_both (declarators_add read_suffix suffix_adds at_file declarators (read_words false words r)) (statement_adds body (read_declarators read_suffix at_file declarators (read_words false words r))))
item_adds other r = expression_adds other r

pub items_add : (trees : PlainTrees) (r : Reading) → Adds r.found (read_items trees r).found
items_add none r = adds_none r.found
items_add (more tree rest) r = adds_both (item_adds tree r) (items_add rest (read_item tree r))
