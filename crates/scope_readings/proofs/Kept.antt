-- What a reading keeps: expressions all that is visible, and what stands behind the name of a declarator what is visible of file scope.
use Rattle.std.proofs.Common.{◌≡◌, ℕ, Bool, true, false, refl, sym, ap, ◌∙◌}
use Rattle.std.specs.Prelude.{List, Option, Some, None, if◌then◌else◌}
use Rattle.c_text.specs.Token.{PlainToken}
use Rattle.c_tree.specs.declared.kinds.Kind.TheVariants as k
use Rattle.c_tree.specs.declared.terminals.Terminal.TheVariants as t
use Rattle.c_tree.specs.Terminals.{terminal, same}
use Rattle.c_tree.specs.Trees.{PlainTree, PlainTrees, leaf, node, none, more}
use Rattle.bindings.specs.Visible.{tags as tag_space, Entry, look_up, bound_to, Reading, passed, occurs, used, leave, tag_found, tag_named}
use Rattle.bindings.specs.Bindings.{is_name, at_file, in_block, declaring, declared, read_expression, read_expressions, read_words, read_declarator, read_declared, read_parameter, read_parameters, read_suffix, read_closed_suffix}

pub record Kept (r s : Reading) : Type 0 where
  pub files : s.file ≡ r.file
  pub block_names : s.blocks ≡ r.blocks

kept_both : {a b c : Reading} → Kept a b → Kept b c → Kept a c
kept_both f g = record { files = g.files ∙ f.files; block_names = g.block_names ∙ f.block_names }

leaf_kept : (b : Bool) (token : PlainToken) (r : Reading) → Kept r (if b then used token r else passed r)
leaf_kept true token r = record { files = refl; block_names = refl }
leaf_kept false token r = record { files = refl; block_names = refl }

mutual
  expression_kept : (tree : PlainTree) (r : Reading) → Kept r (read_expression tree r)
  expression_kept (leaf token) r = leaf_kept (is_name token) token r
  expression_kept (node k.Selection (more whole (more (leaf sign) (more (leaf name) none)))) r =
      let inner = expression_kept whole r in record { files = inner.files; block_names = inner.block_names }
  expression_kept (node kind parts) r = expressions_kept parts r

  pub expressions_kept : (trees : PlainTrees) (r : Reading) → Kept r (read_expressions trees r)
  expressions_kept none r = record { files = refl; block_names = refl }
  expressions_kept (more tree rest) r = kept_both (expression_kept tree r) (expressions_kept rest (read_expression tree r))

-- ---- declarators of parameters

tag_files : (token : PlainToken) (found : Option ℕ) (r : Reading) → (tag_found false token found r).file ≡ r.file
tag_files token (Some by) r = refl
tag_files token None r = refl

word_files : (b : Bool) (token : PlainToken) (r : Reading) → (if b then tag_named false token r else passed r).file ≡ r.file
word_files true token r = tag_files token (look_up tag_space token.text r.file) r
word_files false token r = refl

words_files : (words : PlainTrees) (r : Reading) → (read_words false words r).file ≡ r.file
words_files none r = refl
words_files (more (leaf token) rest) r =
    words_files rest (if is_name token then tag_named false token r else passed r) ∙ word_files (is_name token) token r
words_files (more (node kind parts) rest) r = words_files rest (read_expressions parts r) ∙ (expressions_kept parts r).files

declarator_files : (parts : PlainTrees) (r : Reading) → (read_declarator read_expressions in_block parts r).file ≡ r.file
declarator_files none r = refl
declarator_files (more (leaf token) rest) r = by (is_name token) (same t.OpenBracket (terminal token)) (declarator_files rest (passed r))
  where
    by :
        (x y : Bool) → (read_declarator read_expressions in_block rest (passed r)).file ≡ r.file
        → (if x then declared in_block token (declaring in_block token r) (read_expressions rest (occurs token (bound_to (declaring in_block token r)) r))
        else if y then read_expressions rest (passed r) else read_declarator read_expressions in_block rest (passed r)).file ≡ r.file
    by true y further = (expressions_kept rest (occurs token (bound_to r.next) r)).files
    by false true further = (expressions_kept rest (passed r)).files
    by false false further = further
declarator_files (more (node kind parts) rest) r = (expressions_kept rest (read_expressions parts r)).files ∙ (expressions_kept parts r).files

declared_files : (tree : PlainTree) (r : Reading) → (read_declared read_expressions in_block tree r).file ≡ r.file
declared_files (node k.Declarator parts) r = declarator_files parts r
declared_files (node k.ArrayDeclarator parts) r = declarator_files parts r
declared_files (node k.FunctionDeclarator parts) r = declarator_files parts r
declared_files other r = (expression_kept other r).files

parameter_files : (tree : PlainTree) (r : Reading) → (read_parameter tree r).file ≡ r.file
parameter_files (node k.Parameter (more (node kind words) (more declarator none))) r =
    declared_files declarator (read_words false words r) ∙ words_files words r
parameter_files other r = (expression_kept other r).files

parameters_files : (trees : PlainTrees) (r : Reading) → (read_parameters trees r).file ≡ r.file
parameters_files none r = refl
parameters_files (more tree rest) r = parameters_files rest (read_parameter tree r) ∙ parameter_files tree r

pub suffix_files : (trees : PlainTrees) (r : Reading) → (read_suffix trees r).file ≡ r.file
suffix_files none r = refl
suffix_files (more (node k.Parameters parts) rest) r = suffix_files rest (read_parameters parts r) ∙ parameters_files parts r
suffix_files (more tree rest) r = suffix_files rest (read_expression tree r) ∙ (expression_kept tree r).files

-- ---- blocks that are left

pub left : (r s : Reading) → s.blocks ≡ r.blocks → leave r s ≡ s
left r s e = ap (λ (blocks : List Entry). record s { blocks = blocks }) (sym e)

-- a declarator that is left with its parameters, or these alone: its name is one of file scope
pub left_behind : (parts : PlainTrees) (r : Reading) → leave r (read_declarator read_suffix at_file parts r) ≡ read_declarator read_closed_suffix at_file parts r
left_behind none r = refl
left_behind (more (leaf token) rest) r = by (is_name token) (same t.OpenBracket (terminal token)) (left_behind rest (passed r))
  where
    by :
        (x y : Bool)
        → leave r (read_declarator read_suffix at_file rest (passed r)) ≡ read_declarator read_closed_suffix at_file rest (passed r)
        → leave r (if x then declared at_file token (declaring at_file token r) (read_suffix rest (occurs token (bound_to (declaring at_file token r)) r))
        else if y then read_expressions rest (passed r) else read_declarator read_suffix at_file rest (passed r))
        ≡ (if x then declared at_file token (declaring at_file token r) (read_closed_suffix rest (occurs token (bound_to (declaring at_file token r)) r))
        else if y then read_expressions rest (passed r) else read_declarator read_closed_suffix at_file rest (passed r))
    by true y further = refl
    by false true further = left r (read_expressions rest (passed r)) (expressions_kept rest (passed r)).block_names
    by false false further = further
left_behind (more (node kind parts) rest) r =
    left r (read_expressions rest (read_expressions parts r))
    ((expressions_kept rest (read_expressions parts r)).block_names ∙ (expressions_kept parts r).block_names)
