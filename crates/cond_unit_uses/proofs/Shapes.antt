-- What is noted of definitions by the trees that stand at the places of their parts.
use Rattle.std.proofs.Common.{◌≡◌, inl, inr, ℕ, true, false, IsTrue, refl, sym, ap, ◌∙◌, subst}
use Rattle.std.proofs.lemmas.Bool.{false≢true}
use Rattle.std.specs.Prelude.{Some, None}
use Rattle.c_tree.specs.declared.kinds.Kind.TheVariants as k
use Rattle.c_tree.specs.declared.terminals.Terminal.TheVariants as t
use Rattle.c_tree.specs.Trees.{PlainTree, PlainTrees, leaf, node, none, more}
use Rattle.c_tree.specs.Grammar.{block, parameters, declarator, declarators, defines_function, file_first, file_item, file_specifiers}
use Rattle.tree_derivations.specs.Derivations.{Derivation, single, made_of, a_row, a_part, at_end, declarators_of, Declared, last_plain, last_initialised, next_plain, next_initialised}
use Rattle.choice_trees.specs.ChoiceTrees.{no_statement}
use Rattle.core_meaning.specs.Declarations.{behind_word}
use Rattle.cond_parameters.specs.Parameters.{IsList, no_list, a_list}
use Rattle.cond_member_uses.specs.Noted.{Noted}
use Rattle.cond_units.specs.Functions.{of_function, HasList}
use Rattle.cond_units.proofs.ParameterLists.{declarator_has_list}
use Rattle.cond_types.specs.Places.{tree_at, IsEmpty}
use Rattle.cond_unit_uses.specs.Functions.{NotesBlock, NotesDeclared, NotesListed, NotesDefined, NotesNode}

some_same : (a b : PlainTree) → Some a ≡ Some b → a ≡ b
some_same a b e = cc

no_tree : {A : Type 0} (tree : PlainTree) → Some tree ≡ None → A
no_tree tree e = absurd cc

-- ---- a statement that isn't there stands for nothing of a function

none_such : {A : Type 0} → false ≡ true → A
none_such h = absurd (false≢true h)

-- where a tree stands it isn't empty, if the tree isn't the `;` of such a statement
not_empty : {A : Type 0} (parts : PlainTrees) (place : ℕ) (tree : PlainTree) → tree_at place parts ≡ Some tree → (tree ≡ no_statement → A) → IsEmpty (tree_at place parts) → A
not_empty parts place tree there other (inl nothing) = no_tree tree (sym there ∙ nothing)
not_empty parts place tree there other (inr semicolon) = other (some_same tree no_statement (sym there ∙ semicolon))

no_block : {A : Type 0} → Derivation block no_statement → A
no_block (made_of _ b a s) = none_such b

no_parameters : {A : Type 0} → Derivation parameters no_statement → A
no_parameters (made_of _ b a s) = none_such b

list_isn't : {A : Type 0} (tree : PlainTree) → IsList tree → tree ≡ no_statement → A
list_isn't _ no_list e = absurd cc
list_isn't tree (a_list d) e = no_parameters (subst (Derivation parameters) e d)

module _ (a b : Noted) where
  -- ---- parts that aren't those of a definition

  pub empty_list : (body : PlainTree) (parts : PlainTrees) → IsEmpty (behind_word t.OpenParenthesis parts) → NotesDeclared body parts a b
  empty_list body parts (inl nothing) list e = no_tree list (sym e ∙ nothing)
  empty_list body parts (inr semicolon) list e = record {
    notes = λ by scope name parameters result items bindings names follows is_list is derived pieces judged. list_isn't list is_list (some_same list no_statement (sym e ∙ semicolon));
  }

  pub empty_listed : (body : PlainTree) (list : PlainTrees) → IsEmpty (tree_at 0 list) → NotesListed body list a b
  empty_listed body list empty parts e = not_empty list 0 (node k.FunctionDeclarator parts) (ap (tree_at 0) e) (λ semicolon. absurd (apart parts semicolon)) empty
    where
      apart : (parts : PlainTrees) → node k.FunctionDeclarator parts ≡ no_statement → ⊥
      apart parts e = cc

  pub empty_declarators : (parts : PlainTrees) → IsEmpty (tree_at 1 parts) → NotesDefined parts a b
  empty_declarators parts empty words body list has_block e = not_empty parts 1 (node k.Declarators list) (ap (tree_at 1) e) (λ semicolon. absurd (apart list semicolon)) empty
    where
      apart : (list : PlainTrees) → node k.Declarators list ≡ no_statement → ⊥
      apart list e = cc

  pub empty_body : (parts : PlainTrees) → IsEmpty (tree_at 2 parts) → NotesDefined parts a b
  empty_body parts empty words body list has_block e = not_empty parts 2 body (ap (tree_at 2) e) (λ semicolon. no_block (subst (Derivation block) semicolon has_block)) empty

  -- ---- those of a definition

  pub declared_here : (body : PlainTree) (parts : PlainTrees) (list : PlainTree) → behind_word t.OpenParenthesis parts ≡ Some list → NotesBlock list body a b → NotesDeclared body parts a b
  declared_here body parts list is does other e = subst (λ l. NotesBlock l body a b) (some_same list other (sym is ∙ e)) does

  pub listed_here : (body : PlainTree) (list : PlainTrees) (tree : PlainTree) → tree_at 0 list ≡ Some tree → NotesNode (NotesDeclared body) tree a b → NotesListed body list a b
  listed_here body list tree is does parts e = does k.FunctionDeclarator parts (some_same tree (node k.FunctionDeclarator parts) (sym is ∙ ap (tree_at 0) e))

  pub defined_here : (parts : PlainTrees) (list body : PlainTree) → tree_at 1 parts ≡ Some list → tree_at 2 parts ≡ Some body → NotesNode (NotesListed body) list a b → NotesDefined parts a b
  defined_here parts list body is_list is_body does words other others has_block e =
      subst (λ t. NotesListed t others a b) (some_same body other (sym is_body ∙ ap (tree_at 2) e)) (does k.Declarators others (some_same list (node k.Declarators others) (sym is_list ∙ ap (tree_at 1) e)))

-- ---- the parts of a definition, by its derivation

pub record IsFunction (parts : PlainTrees) : Type 0 where
  pub words : PlainTrees
  pub inner : PlainTrees
  pub body : PlainTree
  pub parts_are : parts ≡ more (node k.Specifiers words) (more (node k.Declarators (more (node k.FunctionDeclarator inner) none)) (more body none))
  pub has_list : HasList inner
  pub has_block : Derivation block body

-- a list with one declarator, of a function
record IsOne (list : PlainTrees) : Type 0 where
  inner : PlainTrees
  list_is : list ≡ more (node k.FunctionDeclarator inner) none
  has_list : HasList inner

one_declarator : {tree : PlainTree} → Derivation (declarator file_first) tree → IsTrue (defines_function (node k.Declarators (more tree none))) → IsOne (more tree none)
one_declarator (single is) h = none_such is
one_declarator (made_of k.FunctionDeclarator {parts = parts} b a s) h = record { inner = parts; list_is = refl; has_list = declarator_has_list (of_function {role = file_first} (made_of k.FunctionDeclarator b a s)) }
one_declarator (made_of _ b a s) h = none_such h

no_others : {A : Type 0} {tree : PlainTree} → Derivation (declarator file_first) tree → (second : PlainTree) (rest : PlainTrees) → IsTrue (defines_function (node k.Declarators (more tree (more second rest)))) → A
no_others (single is) second rest h = none_such h
no_others (made_of _ b a s) second rest h = none_such h

one_in_list : {list : PlainTrees} → Declared file_first list → IsTrue (defines_function (node k.Declarators list)) → IsOne list
one_in_list (last_plain d) h = one_declarator d h
one_in_list (last_initialised {value = value} {sign = sign} m d w v) h = no_others d (leaf sign) (more value none) h
one_in_list (next_plain {comma = comma} {rest = rest} d w s) h = no_others d (leaf comma) rest h
one_in_list (next_initialised {value = value} {sign = sign} {comma = comma} {rest = rest} m d w v c s) h = no_others d (leaf sign) (more value (more (leaf comma) rest)) h

in_parts : {words list : PlainTree} (body : PlainTree) → Derivation file_specifiers words → Derivation (declarators file_first) list → IsTrue (defines_function list) → Derivation block body → IsFunction (more words (more list (more body none)))
in_parts body (single is) d h e = none_such is
in_parts body (made_of k.Specifiers x y z) (single is) h e = none_such is
in_parts body (made_of k.Specifiers {parts = words} x y z) (made_of k.Declarators b a (declarators_of declared)) h e =
    let one = one_in_list declared h in
    record {
      words = words;
      inner = one.inner;
      body = body;
      parts_are = ap (λ l. more (node k.Specifiers words) (more (node k.Declarators l) (more body none))) one.list_is;
      has_list = one.has_list;
      has_block = e;
    }
in_parts body (made_of k.Specifiers x y z) (made_of _ b a s) h e = none_such b
in_parts body (made_of _ x y z) d h e = none_such x

pub function_parts : {parts : PlainTrees} → Derivation file_item (node k.Function parts) → IsFunction parts
function_parts (made_of k.Function b a (a_row (a_part w (a_part d (a_part {tree = body} e at_end))))) = in_parts body w d a e
