-- What stands in brackets and parentheses changes nothing of file scope.
use Rattle.std.proofs.Common.{◌≡◌, ℕ, Bool, true, false, refl, ◌∙◌}
use Rattle.std.specs.Prelude.{Option, Some, None, if◌then◌else◌}
use Rattle.c_text.specs.Token.{PlainToken}
use Rattle.c_tree.specs.declared.kinds.Kind.TheVariants as k
use Rattle.c_tree.specs.declared.terminals.Terminal.TheVariants as t
use Rattle.c_tree.specs.Terminals.{terminal, same}
use Rattle.c_tree.specs.Trees.{PlainTree, PlainTrees, leaf, node, none, more}
use Rattle.bindings.specs.Visible.{tags as tag_space, look_up, bound_to, Reading, passed, occurs, used, tag_found, tag_named}
use Rattle.bindings.specs.Bindings.{is_name, in_block, declaring, declared, read_expression, read_expressions, read_words, read_declarator, read_declared, read_parameter, read_parameters, read_suffix}

leaf_files : (b : Bool) (token : PlainToken) (r : Reading) → (if b then used token r else passed r).file ≡ r.file
leaf_files true token r = refl
leaf_files false token r = refl

mutual
  expression_files : (tree : PlainTree) (r : Reading) → (read_expression tree r).file ≡ r.file
  expression_files (leaf token) r = leaf_files (is_name token) token r
  expression_files (node k.Selection (more whole (more (leaf sign) (more (leaf name) none)))) r = expression_files whole r
  expression_files (node kind parts) r = expressions_files parts r

  pub expressions_files : (trees : PlainTrees) (r : Reading) → (read_expressions trees r).file ≡ r.file
  expressions_files none r = refl
  expressions_files (more tree rest) r = expressions_files rest (read_expression tree r) ∙ expression_files tree r

tag_files : (token : PlainToken) (found : Option ℕ) (r : Reading) → (tag_found false token found r).file ≡ r.file
tag_files token (Some by) r = refl
tag_files token None r = refl

word_files : (b : Bool) (token : PlainToken) (r : Reading) → (if b then tag_named false token r else passed r).file ≡ r.file
word_files true token r = tag_files token (look_up tag_space token.text r.file) r
word_files false token r = refl

words_files : (words : PlainTrees) (r : Reading) → (read_words false words r).file ≡ r.file
words_files none r = refl
words_files (more (leaf token) rest) r = words_files rest (if is_name token then tag_named false token r else passed r) ∙ word_files (is_name token) token r
words_files (more (node kind parts) rest) r = words_files rest (read_expressions parts r) ∙ expressions_files parts r

declarator_files : (parts : PlainTrees) (r : Reading) → (read_declarator read_expressions in_block parts r).file ≡ r.file
declarator_files none r = refl
declarator_files (more (leaf token) rest) r = by (is_name token) (same t.OpenBracket (terminal token)) (declarator_files rest (passed r))
  where
    by :
        (x y : Bool) → (read_declarator read_expressions in_block rest (passed r)).file ≡ r.file
        → (if x then declared in_block token (declaring in_block token r) (read_expressions rest (occurs token (bound_to (declaring in_block token r)) r)) else if y then read_expressions rest (passed r) else read_declarator read_expressions in_block rest (passed r)).file ≡ r.file
    by true y further = expressions_files rest (occurs token (bound_to r.next) r)
    by false true further = expressions_files rest (passed r)
    by false false further = further
declarator_files (more (node kind parts) rest) r = expressions_files rest (read_expressions parts r) ∙ expressions_files parts r

declared_files : (tree : PlainTree) (r : Reading) → (read_declared read_expressions in_block tree r).file ≡ r.file
declared_files (node k.Declarator parts) r = declarator_files parts r
declared_files (node k.ArrayDeclarator parts) r = declarator_files parts r
declared_files (node k.FunctionDeclarator parts) r = declarator_files parts r
declared_files other r = expression_files other r

parameter_files : (tree : PlainTree) (r : Reading) → (read_parameter tree r).file ≡ r.file
parameter_files (node k.Parameter (more (node kind words) (more declarator none))) r = declared_files declarator (read_words false words r) ∙ words_files words r
parameter_files other r = expression_files other r

parameters_files : (trees : PlainTrees) (r : Reading) → (read_parameters trees r).file ≡ r.file
parameters_files none r = refl
parameters_files (more tree rest) r = parameters_files rest (read_parameter tree r) ∙ parameter_files tree r

pub suffix_files : (trees : PlainTrees) (r : Reading) → (read_suffix trees r).file ≡ r.file
suffix_files none r = refl
suffix_files (more (node k.Parameters parts) rest) r = suffix_files rest (read_parameters parts r) ∙ parameters_files parts r
suffix_files (more tree rest) r = suffix_files rest (read_expression tree r) ∙ expression_files tree r
