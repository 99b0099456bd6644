-- Units are walked as they are read.
use Rattle.std.proofs.Common.{ℕ, true, false, List, [], ◌∷◌, refl, ap, ◌∙◌}
use Rattle.c_text.specs.Token.{PlainToken}
use Rattle.c_tree.specs.declared.kinds.Kind.{Kind}
use Rattle.c_tree.specs.declared.kinds.Kind.TheVariants as k
use Rattle.c_tree.specs.declared.terminals.Terminal.TheVariants as t
use Rattle.c_tree.specs.Trees.{PlainTree, PlainTrees, leaf, node, none, more}
use Rattle.c_tree.specs.Grammar.{block, member, members, file_item, file_first, member_of, row}
use Rattle.core_meaning.specs.Declarations.{name_in}
use Rattle.tree_derivations.specs.Derivations.{Derivation, single, made_of, a_row, one_or_more, Row, at_end, a_word, a_part, Each, no_more, one_more, IsWord, UnitsAreDerived}
use Rattle.bindings.specs.Visible as reading
use Rattle.bindings.specs.Visible.{Reading, start}
use Rattle.bindings.specs.Bindings.{at_file, among_members, read_words, read_declarators, read_suffix, read_declaration, read_members, tag_text, read_item, read_items}
use Rattle.scope_readings.specs.Scopes.{Scopes, leave}
use Rattle.scope_readings.specs.Laws.{ScopesAreRead, FileNamesAreRead}
use Rattle.scope_readings.proofs.Images.{image}
use Rattle.scope_readings.proofs.Parts.{none_such, other_word, plain_uses, PartWalks, PartsWalk, NodeWalks, node_part, mark_part}
use Rattle.scope_readings.proofs.Words.{Specifying, by_words, specifiers_are, file_specifiers_are, tag_is, words_walk}
use Rattle.scope_readings.proofs.Declarators.{function_behind, function_walks, prototype_walks}
use Rattle.scope_readings.proofs.Declarations.{Declaring, by_declarators, declarators_are, declarators_walk, declaration_walks}
use Rattle.scope_readings.proofs.Statements.{statement_good}

-- the members of a struct
data Holding : PlainTree → Type 0 where
  by_members : (parts : PlainTrees) → Each member parts → Holding (node k.Members parts)

members_are : {tree : PlainTree} → Derivation members tree → Holding tree
members_are (single is) = none_such is
members_are (made_of k.Members {parts = parts} b a (one_or_more each any)) = by_members parts each
members_are (made_of _ b a s) = none_such b

data Member : PlainTree → Type 0 where
  by_row : (parts : PlainTrees) → Row (row k.Member) parts → Member (node k.Member parts)

member_is : {tree : PlainTree} → Derivation member tree → Member tree
member_is (single is) = none_such is
member_is (made_of k.Member {parts = parts} b a (a_row row_)) = by_row parts row_
member_is (made_of _ b a s) = none_such b

module _ (numbers : List ℕ) where
  -- ---- structs

  member_walks : (tag : List ℕ) {parts : PlainTrees} → Row (row k.Member) parts → PartsWalk numbers k.Member k.Member false parts (read_declaration (among_members tag) parts)
  member_walks tag (a_part h (a_part i (a_word {token = end_} w at_end))) =
      declaration_walks numbers k.Member (among_members tag) refl refl (λ token. refl) member_of (λ e parts row_. none_such e) (specifiers_are h) (declarators_are i) end_ w

  first_walks :
      (d : Kind) (tag : List ℕ) {tree : PlainTree} → Member tree → (rest : PlainTrees) → PartsWalk numbers d k.Members false rest (read_members tag rest)
      → PartsWalk numbers d k.Members false (more tree rest) (read_members tag (more tree rest))
  first_walks d tag (by_row parts row_) rest h r =
      node_part numbers d k.Members false k.Member parts (read_declaration (among_members tag) parts) (member_walks tag row_) rest r
      ∙ h (read_declaration (among_members tag) parts r)

  members_walk : (d : Kind) (tag : List ℕ) {parts : PlainTrees} → Each member parts → PartsWalk numbers d k.Members false parts (read_members tag parts)
  members_walk d tag no_more = λ r. refl
  members_walk d tag (one_more {rest = rest} h others) = first_walks d tag (member_is h) rest (members_walk d tag others)

  struct_walks :
      {words list : PlainTree} → Specifying words → Holding list → (open_ close end_ : PlainToken) → IsWord (t.OpenBrace ∷ []) open_ → IsWord (t.CloseBrace ∷ []) close → IsWord (t.Semicolon ∷ []) end_
      → NodeWalks numbers k.Unit k.StructDefinition (more words (more (leaf open_) (more list (more (leaf close) (more (leaf end_) none)))))
      (read_item (node k.StructDefinition (more words (more (leaf open_) (more list (more (leaf close) (more (leaf end_) none)))))))
  struct_walks (by_words words are) (by_members list each) open_ close end_ w v u = λ r.
      let tag : List ℕ = tag_text (name_in words) in
      let behind : PlainTrees = more (leaf close) (more (leaf end_) none) in
      let one : Reading = read_words true words r in
      let two : Reading = read_members tag list (reading.passed one) in
      node_part numbers k.StructDefinition k.StructDefinition false k.Specifiers words (read_words true words) (words_walk numbers words are k.StructDefinition)
      (more (leaf open_) (more (node k.Members list) behind)) r
      ∙ mark_part numbers k.StructDefinition k.StructDefinition false open_ (other_word t.Name (t.OpenBrace ∷ []) open_ refl w) refl (more (node k.Members list) behind) one
      ∙ node_part numbers k.StructDefinition k.StructDefinition false k.Members list (read_members tag list) (members_walk k.StructDefinition tag each) behind (reading.passed one)
      ∙ mark_part numbers k.StructDefinition k.StructDefinition false close (other_word t.Name (t.CloseBrace ∷ []) close refl v) refl (more (leaf end_) none) two
      ∙ mark_part numbers k.StructDefinition k.StructDefinition false end_ (other_word t.Name (t.Semicolon ∷ []) end_ refl u) refl none (reading.passed two)

  tag_walks :
      {words : PlainTree} → Specifying words → (end_ : PlainToken) → IsWord (t.Semicolon ∷ []) end_
      → NodeWalks numbers k.Unit k.StructDeclaration (more words (more (leaf end_) none)) (read_item (node k.StructDeclaration (more words (more (leaf end_) none))))
  tag_walks (by_words words are) end_ w = λ r.
      node_part numbers k.StructDeclaration k.StructDeclaration false k.Specifiers words (read_words true words) (words_walk numbers words are k.StructDeclaration) (more (leaf end_) none) r
      ∙ mark_part numbers k.StructDeclaration k.StructDeclaration false end_ (other_word t.Name (t.Semicolon ∷ []) end_ refl w) refl none (read_words true words r)

  -- ---- functions

  definition_walks :
      {words list body : PlainTree} → Specifying words → Declaring file_first list → Derivation block body
      → NodeWalks numbers k.Unit k.Function (more words (more list (more body none))) (read_item (node k.Function (more words (more list (more body none)))))
  definition_walks {body = body} (by_words words are) (by_declarators list declared) h = λ r.
      let one : Reading = read_words false words r in
      let two : Reading = read_declarators read_suffix at_file list one in
      ap (leave (image numbers r))
      (node_part numbers k.Function k.Function false k.Specifiers words (read_words false words) (words_walk numbers words are k.Function) (more (node k.Declarators list) (more body none)) r
      ∙ node_part numbers k.Function k.Function false k.Declarators list (read_declarators read_suffix at_file list)
      (declarators_walk numbers k.Function at_file refl read_suffix function_behind file_first (λ e parts row_. function_walks numbers k.Function refl parts row_) declared) (more body none) one
      ∙ statement_good numbers body block refl h k.Function k.Function false (plain_uses k.Function refl (λ token. refl)) none two)

  -- ---- items

  item_part : {tree : PlainTree} → Derivation file_item tree → PartWalks numbers k.Unit k.Unit false tree (read_item tree)
  item_part (single is) = none_such is
  item_part (made_of k.Declaration {parts = parts} b a (a_row (a_part h (a_part i (a_word {token = end_} w at_end))))) =
      node_part numbers k.Unit k.Unit false k.Declaration parts (read_declaration at_file parts)
      (declaration_walks numbers k.Declaration at_file refl refl (λ token. refl) file_first (λ e parts row_. prototype_walks numbers parts row_) (file_specifiers_are h) (declarators_are i) end_ w)
  item_part (made_of k.Function {parts = parts} b a (a_row (a_part h (a_part i (a_part j at_end))))) =
      node_part numbers k.Unit k.Unit false k.Function parts (read_item (node k.Function parts)) (definition_walks (file_specifiers_are h) (declarators_are i) j)
  item_part (made_of k.StructDefinition {parts = parts} b a (a_row (a_part h (a_word {token = open_} w (a_part i (a_word {token = close} v (a_word {token = end_} u at_end))))))) =
      node_part numbers k.Unit k.Unit false k.StructDefinition parts (read_item (node k.StructDefinition parts)) (struct_walks (tag_is h) (members_are i) open_ close end_ w v u)
  item_part (made_of k.StructDeclaration {parts = parts} b a (a_row (a_part h (a_word {token = end_} w at_end)))) =
      node_part numbers k.Unit k.Unit false k.StructDeclaration parts (read_item (node k.StructDeclaration parts)) (tag_walks (tag_is h) end_ w)
  item_part (made_of _ b a s) = none_such b

  items_walk : {parts : PlainTrees} → Each file_item parts → PartsWalk numbers k.Unit k.Unit false parts (read_items parts)
  items_walk no_more = λ r. refl
  items_walk (one_more {tree = tree} {rest = rest} h others) = λ r. item_part h rest r ∙ items_walk others (read_item tree r)

pub file_names_are_read_lem : UnitsAreDerived → FileNamesAreRead
file_names_are_read_lem derived (leaf token) h numbers name = none_such h
file_names_are_read_lem derived (node k.Unit parts) h numbers name = ap (λ (s : Scopes). s.uses name) (items_walk numbers (derived (node k.Unit parts) h) start)
file_names_are_read_lem derived (node _ parts) h numbers name = none_such h

pub scopes_are_read_lem : UnitsAreDerived → ScopesAreRead
scopes_are_read_lem derived (leaf token) h numbers = none_such h
scopes_are_read_lem derived (node k.Unit parts) h numbers = ap (λ (s : Scopes). s.found) (items_walk numbers (derived (node k.Unit parts) h) start)
scopes_are_read_lem derived (node _ parts) h numbers = none_such h
