-- The reading of a unit finds its identifiers, each once, in the order of the text: what has been found, with the identifiers among the
-- tokens behind, stays the same at each step.
use Rattle.std.proofs.Common.{◌≡◌, ℕ, ◌+◌, Bool, true, false, List, [], ◌∷◌, ◌++◌, map, Option, Some, None, refl, ap, sym, ◌∙◌, append_assoc, append-nil, IsTrue}
use Rattle.std.specs.Prelude.{if◌then◌else◌}
use Rattle.std.proofs.lemmas.List.{map-append}
use Rattle.c_text.specs.Token.{PlainToken}
use Rattle.c_tree.specs.declared.kinds.Kind.TheVariants as k
use Rattle.c_tree.specs.declared.terminals.Terminal.TheVariants as t
use Rattle.c_tree.specs.Terminals.{terminal, same}
use Rattle.c_tree.specs.Trees.{PlainTree, PlainTrees, leaf, node, none, more, written, all_written, spelled}
use Rattle.c_tree.specs.Grammar.{is_unit}
use Rattle.core_meaning.specs.Declarations.{name_in}
use Rattle.tree_derivations.specs.Derivations.{UnitsAreDerived, IsDerived}
use Rattle.bindings.specs.Visible.{tags, members_of, look_up, Binding, bound_to, undeclared, member_use, Occurrence, Reading, start, passed, occurs_as, with_file_entry, is_of_file, visible_name, binding_found, used, tag_found, tag_named}
use Rattle.bindings.specs.Bindings.{is_name, Where, at_file, in_block, among_members, may_declare_tags, declaring, declared, read_expression, read_expressions, read_words, read_declarator, read_declared, read_declarators, read_parameter, read_parameters, read_suffix, read_closed_suffix, read_declaration, read_statement, read_statements, read_members, tag_text, read_item, read_items, bindings_of}
use Rattle.program_occurrences.specs.Occurrences.{Identifier, identifiers_from}
use Rattle.program_occurrences.specs.Laws.{identifier_of}
use Rattle.program_occurrences.proofs.Punctuated.{NoNames, IsPunctuated, ArePunctuated, each_punctuated}

-- what has been found, and the identifiers among the tokens behind
abbrev all_of : Reading → List PlainToken → List Identifier
all_of r behind = map identifier_of r.found ++ identifiers_from r.next behind

-- from the one reading to the other just the identifiers are found that are written
abbrev Finds : Reading → Reading → (List PlainToken → List PlainToken) → Type 0
Finds before after writes = (behind : List PlainToken) → all_of after behind ≡ all_of before (writes behind)

-- ---- tokens

abbrev with_identifier : Reading → PlainToken → List PlainToken → Bool → List Identifier
with_identifier r token behind b =
    map identifier_of r.found
    ++ (if b then record { number = r.next; token = token } ∷ identifiers_from (r.next + 1) behind else identifiers_from (r.next + 1) behind)

passed_found : (token : PlainToken) (r : Reading) (behind : List PlainToken) → is_name token ≡ false → all_of (passed r) behind ≡ all_of r (token ∷ behind)
passed_found token r behind e = ap (with_identifier r token behind) (sym e)

name_found :
    (uses : Bool) (token : PlainToken) (b : Binding) (r : Reading) (behind : List PlainToken) → is_name token ≡ true
    → all_of (occurs_as uses token b r) behind ≡ all_of r (token ∷ behind)
name_found uses token b r behind e =
    let o : Occurrence = record { number = r.next; token = token; binding = b; uses_file_name = uses } in
    ap (λ xs. xs ++ identifiers_from (r.next + 1) behind) (map-append identifier_of r.found (o ∷ []))
    ∙ append_assoc (map identifier_of r.found) (identifier_of o ∷ []) (identifiers_from (r.next + 1) behind)
    ∙ ap (with_identifier r token behind) (sym e)

-- a token that is used if it is a name
used_or_passed : (token : PlainToken) (r : Reading) (behind : List PlainToken) (b : Bool) → is_name token ≡ b → all_of (if b then used token r else passed r) behind ≡ all_of r (token ∷ behind)
used_or_passed token r behind true e = name_found (is_of_file token.text r) token (binding_found (visible_name token.text r)) r behind e
used_or_passed token r behind false e = passed_found token r behind e

tag_found_found : (may : Bool) (token : PlainToken) (x : Option ℕ) (r : Reading) (behind : List PlainToken) → is_name token ≡ true → all_of (tag_found may token x r) behind ≡ all_of r (token ∷ behind)
tag_found_found may token (Some by) r behind e = name_found false token (bound_to by) r behind e
tag_found_found true token None r behind e = name_found false token (bound_to r.next) (with_file_entry tags token.text r.next r) behind e
tag_found_found false token None r behind e = name_found false token undeclared r behind e

tag_or_passed :
    (may : Bool) (token : PlainToken) (r : Reading) (behind : List PlainToken) (b : Bool) → is_name token ≡ b
    → all_of (if b then tag_named may token r else passed r) behind ≡ all_of r (token ∷ behind)
tag_or_passed may token r behind true e = tag_found_found may token (look_up tags token.text r.file) r behind e
tag_or_passed may token r behind false e = passed_found token r behind e

-- ---- expressions and words

mutual
  expression_finds : (tree : PlainTree) → IsPunctuated tree → (r : Reading) → Finds r (read_expression tree r) (written tree)
  expression_finds (leaf token) p r behind = used_or_passed token r behind (is_name token) refl
  expression_finds (node k.Selection (more structure (more (leaf sign) (more (leaf name) none)))) p r behind =
      name_found false name (member_use (λ tag. look_up (members_of tag) name.text (passed (read_expression structure r)).file)) (passed (read_expression structure r)) behind p.0.1
      ∙ passed_found sign (read_expression structure r) (name ∷ behind) p.0.0
      ∙ expression_finds structure p.1.0 r (sign ∷ name ∷ behind)
  expression_finds (node kind parts) p r behind = expressions_finds parts p.1 r behind

  expressions_finds : (parts : PlainTrees) → ArePunctuated parts → (r : Reading) → Finds r (read_expressions parts r) (all_written parts)
  expressions_finds none p r behind = refl
  expressions_finds (more tree rest) p r behind =
      expressions_finds rest p.1 (read_expression tree r) behind ∙ expression_finds tree p.0 r (all_written rest behind)

words_finds : (may : Bool) (words : PlainTrees) → ArePunctuated words → (r : Reading) → Finds r (read_words may words r) (all_written words)
words_finds may none p r behind = refl
words_finds may (more (leaf token) rest) p r behind =
    words_finds may rest p.1 (if is_name token then tag_named may token r else passed r) behind
    ∙ tag_or_passed may token r (all_written rest behind) (is_name token) refl
words_finds may (more (node kind parts) rest) p r behind =
    words_finds may rest p.1 (read_expressions parts r) behind ∙ expressions_finds parts p.0.1 r (all_written rest behind)

-- ---- declarators

declared_found : (place : Where) (token : PlainToken) (by : ℕ) (r : Reading) (behind : List PlainToken) → all_of (declared place token by r) behind ≡ all_of r behind
declared_found at_file token by r behind = refl
declared_found in_block token by r behind = refl
declared_found (among_members tag) token by r behind = refl

module _ (reads_behind : PlainTrees → Reading → Reading) (place : Where) (behind_finds : (parts : PlainTrees) → ArePunctuated parts → (r : Reading) → Finds r (reads_behind parts r) (all_written parts)) where
  token_finds :
      (token : PlainToken) (rest : PlainTrees) → ArePunctuated rest → (r : Reading) (behind : List PlainToken)
      → ((s : Reading) → Finds s (read_declarator reads_behind place rest s) (all_written rest))
      → (b c : Bool) → is_name token ≡ b
      → all_of (
      if b then declared place token (declaring place token r) (reads_behind rest (occurs_as false token (bound_to (declaring place token r)) r))
      else if c then read_expressions rest (passed r) else read_declarator reads_behind place rest (passed r)
      ) behind
      ≡ all_of r (token ∷ all_written rest behind)
  token_finds token rest p r behind others true c e =
      declared_found place token (declaring place token r) (reads_behind rest (occurs_as false token (bound_to (declaring place token r)) r)) behind
      ∙ behind_finds rest p (occurs_as false token (bound_to (declaring place token r)) r) behind
      ∙ name_found false token (bound_to (declaring place token r)) r (all_written rest behind) e
  token_finds token rest p r behind others false true e =
      expressions_finds rest p (passed r) behind ∙ passed_found token r (all_written rest behind) e
  token_finds token rest p r behind others false false e = others (passed r) behind ∙ passed_found token r (all_written rest behind) e

  declarator_finds : (parts : PlainTrees) → ArePunctuated parts → (r : Reading) → Finds r (read_declarator reads_behind place parts r) (all_written parts)
  declarator_finds none p r behind = refl
  declarator_finds (more (leaf token) rest) p r behind =
      token_finds token rest p.1 r behind (λ s. declarator_finds rest p.1 s) (is_name token) (same t.OpenBracket (terminal token)) refl
  declarator_finds (more (node kind parts) rest) p r behind =
      expressions_finds rest p.1 (read_expressions parts r) behind ∙ expressions_finds parts p.0.1 r (all_written rest behind)

  tree_finds : (tree : PlainTree) → IsPunctuated tree → (r : Reading) → Finds r (read_declared reads_behind place tree r) (written tree)
  tree_finds (node k.Declarator parts) p r behind = declarator_finds parts p.1 r behind
  tree_finds (node k.ArrayDeclarator parts) p r behind = declarator_finds parts p.1 r behind
  tree_finds (node k.FunctionDeclarator parts) p r behind = declarator_finds parts p.1 r behind
  tree_finds other p r behind = expression_finds other p r behind

  declarators_finds : (parts : PlainTrees) → ArePunctuated parts → (r : Reading) → Finds r (read_declarators reads_behind place parts r) (all_written parts)
  declarators_finds none p r behind = refl
  declarators_finds (more tree rest) p r behind =
      declarators_finds rest p.1 (read_declared reads_behind place tree r) behind ∙ tree_finds tree p.0 r (all_written rest behind)

-- ---- parameters

parameter_finds : (tree : PlainTree) → IsPunctuated tree → (r : Reading) → Finds r (read_parameter tree r) (written tree)
parameter_finds (node k.Parameter (more (node kind words) (more declarator none))) p r behind =
    tree_finds read_expressions in_block expressions_finds declarator p.1.1.0 (read_words false words r) behind
    ∙ words_finds false words p.1.0.1 r (written declarator behind)
parameter_finds other p r behind = expression_finds other p r behind

parameters_finds : (parts : PlainTrees) → ArePunctuated parts → (r : Reading) → Finds r (read_parameters parts r) (all_written parts)
parameters_finds none p r behind = refl
parameters_finds (more tree rest) p r behind =
    parameters_finds rest p.1 (read_parameter tree r) behind ∙ parameter_finds tree p.0 r (all_written rest behind)

suffix_finds : (parts : PlainTrees) → ArePunctuated parts → (r : Reading) → Finds r (read_suffix parts r) (all_written parts)
suffix_finds none p r behind = refl
suffix_finds (more (node k.Parameters parts) rest) p r behind =
    suffix_finds rest p.1 (read_parameters parts r) behind ∙ parameters_finds parts p.0.1 r (all_written rest behind)
suffix_finds (more tree rest) p r behind =
    suffix_finds rest p.1 (read_expression tree r) behind ∙ expression_finds tree p.0 r (all_written rest behind)

closed_suffix_finds : (parts : PlainTrees) → ArePunctuated parts → (r : Reading) → Finds r (read_closed_suffix parts r) (all_written parts)
closed_suffix_finds parts p r behind = suffix_finds parts p r behind

-- ---- declarations and statements

declaration_finds : (place : Where) (parts : PlainTrees) → NoNames parts → ArePunctuated parts → (r : Reading) → Finds r (read_declaration place parts r) (all_written parts)
declaration_finds place (more (node kind words) (more (node list declarators) (more (leaf semicolon) none))) n p r behind =
    passed_found semicolon (read_declarators read_closed_suffix place declarators (read_words (may_declare_tags place) words r)) behind n.0
    ∙ declarators_finds read_closed_suffix place closed_suffix_finds declarators p.1.0.1 (read_words (may_declare_tags place) words r) (semicolon ∷ behind)
    ∙ words_finds (may_declare_tags place) words p.0.1 r (all_written declarators (semicolon ∷ behind))
declaration_finds place parts n p r behind = expressions_finds parts p r behind

mutual
  statement_finds : (tree : PlainTree) → IsPunctuated tree → (r : Reading) → Finds r (read_statement tree r) (written tree)
  statement_finds (node k.Block parts) p r behind = statements_finds parts p.1 r behind
  statement_finds (node k.For parts) p r behind = statements_finds parts p.1 r behind
  statement_finds (node k.Items parts) p r behind = statements_finds parts p.1 r behind
  statement_finds (node k.If parts) p r behind = statements_finds parts p.1 r behind
  statement_finds (node k.Else parts) p r behind = statements_finds parts p.1 r behind
  statement_finds (node k.While parts) p r behind = statements_finds parts p.1 r behind
  statement_finds (node k.Do parts) p r behind = statements_finds parts p.1 r behind
  statement_finds (node k.LocalDeclaration parts) p r behind = declaration_finds in_block parts p.0 p.1 r behind
  statement_finds other p r behind = expression_finds other p r behind

  statements_finds : (parts : PlainTrees) → ArePunctuated parts → (r : Reading) → Finds r (read_statements parts r) (all_written parts)
  statements_finds none p r behind = refl
  statements_finds (more tree rest) p r behind =
      statements_finds rest p.1 (read_statement tree r) behind ∙ statement_finds tree p.0 r (all_written rest behind)

-- ---- units

members_finds : (tag : List ℕ) (parts : PlainTrees) → ArePunctuated parts → (r : Reading) → Finds r (read_members tag parts r) (all_written parts)
members_finds tag none p r behind = refl
members_finds tag (more (node k.Member parts) rest) p r behind =
    members_finds tag rest p.1 (read_declaration (among_members tag) parts r) behind
    ∙ declaration_finds (among_members tag) parts p.0.0 p.0.1 r (all_written rest behind)
members_finds tag (more other rest) p r behind =
    members_finds tag rest p.1 (read_expression other r) behind ∙ expression_finds other p.0 r (all_written rest behind)

item_finds : (tree : PlainTree) → IsPunctuated tree → (r : Reading) → Finds r (read_item tree r) (written tree)
item_finds (node k.StructDefinition (more (node kind words) (more (leaf brace) (more (node list members) (more (leaf last) (more (leaf semicolon) none)))))) p r behind =
    let named : Reading = read_words true words r in
    let all : Reading = read_members (tag_text (name_in words)) members (passed named) in
    passed_found semicolon (passed all) behind p.0.1.1.0
    ∙ passed_found last all (semicolon ∷ behind) p.0.1.0
    ∙ members_finds (tag_text (name_in words)) members p.1.1.1.0.1 (passed named) (last ∷ semicolon ∷ behind)
    ∙ passed_found brace named (all_written members (last ∷ semicolon ∷ behind)) p.0.0
    ∙ words_finds true words p.1.0.1 r (brace ∷ all_written members (last ∷ semicolon ∷ behind))
item_finds (node k.StructDeclaration (more (node kind words) (more (leaf semicolon) none))) p r behind =
    passed_found semicolon (read_words true words r) behind p.0.0 ∙ words_finds true words p.1.0.1 r (semicolon ∷ behind)
item_finds (node k.Declaration parts) p r behind = declaration_finds at_file parts p.0 p.1 r behind
item_finds (node k.Function (more (node kind words) (more (node list declarators) (more body none)))) p r behind =
    statement_finds body p.1.1.1.0 (read_declarators read_suffix at_file declarators (read_words false words r)) behind
    ∙ declarators_finds read_suffix at_file suffix_finds declarators p.1.1.0.1 (read_words false words r) (written body behind)
    ∙ words_finds false words p.1.0.1 r (all_written declarators (written body behind))
item_finds other p r behind = expression_finds other p r behind

items_finds : (parts : PlainTrees) → ArePunctuated parts → (r : Reading) → Finds r (read_items parts r) (all_written parts)
items_finds none p r behind = refl
items_finds (more tree rest) p r behind = items_finds rest p.1 (read_item tree r) behind ∙ item_finds tree p.0 r (all_written rest behind)

derived_found : (tree : PlainTree) → IsDerived tree → map identifier_of (bindings_of tree) ≡ identifiers_from 0 (spelled tree)
derived_found (leaf token) d = absurd d
derived_found (node k.Unit items) d =
    sym (append-nil (map identifier_of (read_items items start).found)) ∙ items_finds items (each_punctuated d) start []
derived_found (node _ items) d = absurd d

-- the bindings of a unit are those of its identifiers
pub identifiers_found : UnitsAreDerived → (tree : PlainTree) → IsTrue (is_unit tree) → map identifier_of (bindings_of tree) ≡ identifiers_from 0 (spelled tree)
identifiers_found derive tree is = derived_found tree (derive tree is)
