-- The parts of a derived block are ready: by how statements are derived.
use Rattle.std.proofs.Common.{◌≡◌, Bool, true, false, ◌&&◌, List, [], ◌∷◌, refl}
use Rattle.std.specs.Prelude.{nat_le, ⊤}
use Rattle.std.proofs.lemmas.Bool.{and_parts, false≢true}
use Rattle.c_tree.specs.declared.kinds.Kind.{Kind}
use Rattle.c_tree.specs.declared.kinds.Kind.TheVariants as k
use Rattle.c_tree.specs.Trees.{PlainTree, PlainTrees, leaf, node, more}
use Rattle.c_tree.specs.Grammar.{Category, expression, statement, else_part, block, items, item, for_start, level, Slot, word, perhaps, stars, needed, optional}
use Rattle.tree_derivations.specs.Derivations.{Derivation, single, made_of, a_row, one_or_more, Row, at_end, a_word, perhaps_there, not_there, a_star, no_star, a_part, left_out, given, Each, no_more, one_more}
use Rattle.cond_statements.specs.Ready.{may_declare, has_items, IsExpression, NodeReady, Ready}

none_such : {A : Type 0} → false ≡ true → A
none_such h = absurd (false≢true h)

-- what may stand among the parts of a node of this kind, where it is the first node or not
abbrev stands : Kind → Bool → Category → Bool
stands around first (expression n) = true
stands around first statement = true
stands around first else_part = true
stands around first items = has_items around
stands around first item = may_declare around false
stands around first for_start = first && may_declare around first
stands around first other = false

-- and wherever it stands
abbrev fits : Kind → Category → Bool
fits around category = stands around false category

fits_first : (around : Kind) (first : Bool) (category : Category) → fits around category ≡ true → stands around first category ≡ true
fits_first around first (expression n) h = refl
fits_first around first statement h = refl
fits_first around first else_part h = refl
fits_first around first items h = h
fits_first around first item h = h
fits_first around first other h = none_such h

abbrev all_fit : Kind → List Slot → Bool
all_fit around [] = true
all_fit around (word terminals ∷ slots) = all_fit around slots
all_fit around (perhaps terminals ∷ slots) = all_fit around slots
all_fit around (stars ∷ slots) = all_fit around slots
all_fit around (needed category ∷ slots) = fits around category && all_fit around slots
all_fit around (optional category ∷ slots) = fits around category && all_fit around slots

expression_node : (around : Kind) (first : Bool) (kind : Kind) (parts : PlainTrees) → nat_le 1 (level kind) ≡ true → IsExpression (node kind parts) → NodeReady around first kind parts (Ready kind true parts)
expression_node around first k.Absent parts h is = none_such h
expression_node around first k.Jump parts h is = none_such h
expression_node around first k.LocalDeclaration parts h is = none_such h
expression_node around first k.Items parts h is = none_such h
expression_node around first k.Block parts h is = none_such h
expression_node around first k.For parts h is = none_such h
expression_node around first k.ExpressionStatement parts h is = none_such h
expression_node around first k.If parts h is = none_such h
expression_node around first k.Else parts h is = none_such h
expression_node around first k.While parts h is = none_such h
expression_node around first k.Do parts h is = none_such h
expression_node around first k.ForStart parts h is = none_such h
expression_node around first k.Return parts h is = none_such h
expression_node around first _ parts h is = is

declares_later : (around : Kind) (first : Bool) → may_declare around false ≡ true → may_declare around first ≡ true
declares_later k.Items first h = refl
declares_later k.For first h = none_such h
declares_later _ first h = none_such h

abbrev PartReady : Kind → Bool → PlainTree → Type 0
PartReady around first (leaf token) = ⊤
PartReady around first (node kind parts) = NodeReady around first kind parts (Ready kind true parts)

more_ready : (around : Kind) (first : Bool) (tree : PlainTree) (rest : PlainTrees) → PartReady around first tree → ((first : Bool) → Ready around first rest) → Ready around first (more tree rest)
more_ready around first (leaf token) rest part others = others first
more_ready around first (node kind parts) rest part others = (part, others false)

mutual
  node_ready : {category : Category} {tree : PlainTree} → Derivation category tree → (around : Kind) (first : Bool) → stands around first category ≡ true → PartReady around first tree
  node_ready (single is) around first e = tt
  node_ready {category = expression n} (made_of kind {parts = parts} b a s) around first e =
      expression_node around first kind parts (and_parts (nat_le 1 (level kind)) (nat_le n (level kind)) b).0 (record { level = n; derivation = made_of kind b a s })
  node_ready (made_of k.Block b a (a_row r)) around first e = row_ready r k.Block refl true
  node_ready (made_of k.ExpressionStatement b a (a_row r)) around first e = row_ready r k.ExpressionStatement refl true
  node_ready (made_of k.If b a (a_row r)) around first e = row_ready r k.If refl true
  node_ready (made_of k.While b a (a_row r)) around first e = row_ready r k.While refl true
  node_ready (made_of k.Do b a (a_row r)) around first e = row_ready r k.Do refl true
  node_ready (made_of k.For b a (a_row (a_word w (a_word v (a_part {tree = tree} {rest = rest} d r))))) around first e = more_ready k.For true tree rest (node_ready d k.For true refl) (row_ready r k.For refl)
  node_ready (made_of k.Jump b a s) around first e = tt
  node_ready (made_of k.Return b a (a_row r)) around first e = row_ready r k.Return refl true
  node_ready {category = statement} (made_of _ b a s) around first e = none_such b
  node_ready {category = else_part} (made_of k.Else b a (a_row r)) around first e = row_ready r k.Else refl true
  node_ready {category = else_part} (made_of _ b a s) around first e = none_such b
  node_ready {category = items} (made_of k.Items b a (one_or_more each any)) around first e = (e, items_ready each true)
  node_ready {category = items} (made_of _ b a s) around first e = none_such b
  node_ready {category = item} (made_of k.LocalDeclaration b a s) around first e = (declares_later around first e, record { category = item; derivation = made_of k.LocalDeclaration b a s })
  node_ready {category = item} (made_of _ b a s) around first e = none_such b
  node_ready {category = for_start} (made_of k.LocalDeclaration b a s) around first e = ((and_parts first (may_declare around first) e).1, record { category = for_start; derivation = made_of k.LocalDeclaration b a s })
  node_ready {category = for_start} (made_of k.ForStart b a (a_row r)) around first e = row_ready r k.ForStart refl true
  node_ready {category = for_start} (made_of _ b a s) around first e = none_such b
  node_ready (made_of _ b a s) around first e = none_such e

  row_ready : {slots : List Slot} {parts : PlainTrees} → Row slots parts → (around : Kind) → all_fit around slots ≡ true → (first : Bool) → Ready around first parts
  row_ready at_end around e first = tt
  row_ready (a_word w r) around e first = row_ready r around e first
  row_ready (perhaps_there w r) around e first = row_ready r around e first
  row_ready (not_there r) around e first = row_ready r around e first
  row_ready (a_star w r) around e first = row_ready r around e first
  row_ready (no_star r) around e first = row_ready r around e first
  row_ready {slots = needed category ∷ slots} (a_part {tree = tree} {rest = rest} d r) around e first =
      let both = and_parts (fits around category) (all_fit around slots) e in
      more_ready around first tree rest (node_ready d around first (fits_first around first category both.0)) (row_ready r around both.1)
  row_ready {slots = optional category ∷ slots} (left_out r) around e first = (tt, row_ready r around (and_parts (fits around category) (all_fit around slots) e).1 false)
  row_ready {slots = optional category ∷ slots} (given {tree = tree} {rest = rest} d r) around e first =
      let both = and_parts (fits around category) (all_fit around slots) e in
      more_ready around first tree rest (node_ready d around first (fits_first around first category both.0)) (row_ready r around both.1)

  items_ready : {parts : PlainTrees} → Each item parts → (first : Bool) → Ready k.Items first parts
  items_ready no_more first = tt
  items_ready (one_more {tree = tree} {rest = rest} d others) first = more_ready k.Items first tree rest (node_ready d k.Items first refl) (items_ready others)

-- a node is a block, and its parts are ready
abbrev pub BlockReady : PlainTree → Type 0
BlockReady (leaf token) = ⊤
BlockReady (node kind parts) = (kind ≡ k.Block) × Ready k.Block true parts

pub block_ready : {tree : PlainTree} → Derivation block tree → BlockReady tree
block_ready (single is) = tt
block_ready (made_of k.Block b a (a_row r)) = (refl, row_ready r k.Block refl true)
block_ready (made_of _ b a s) = none_such b
