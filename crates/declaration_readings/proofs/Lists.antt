-- The declarators of derived lists, and their initialisers.
use Rattle.std.proofs.Common.{◌≡◌, Bool, true, false, List, [], ◌∷◌, refl, ap, ap₂, ◌∙◌, if◌then◌else◌}
use Rattle.std.specs.Prelude.{Option, Some, None}
use Rattle.std.proofs.lemmas.Bool.{false≢true}
use Rattle.c_text.specs.Token.{PlainToken}
use Rattle.c_tree.specs.declared.kinds.Kind.{Kind}
use Rattle.c_tree.specs.declared.kinds.Kind.TheVariants as k
use Rattle.c_tree.specs.declared.terminals.Terminal.TheVariants as t
use Rattle.c_tree.specs.Terminals.{terminal, same}
use Rattle.c_tree.specs.Trees.{PlainTree, PlainTrees, leaf, none, more}
use Rattle.c_tree.specs.Grammar.{Role, declarator, initialiser, belongs}
use Rattle.c_tree.proofs.TerminalCases.{one_of}
use Rattle.tree_derivations.specs.Derivations.{Derivation, single, made_of, IsWord}
use Rattle.conditional.specs.Entries.{first}
use Rattle.declarator_lists.specs.Lists.{Declared, is_declarator_kind, is_declarator, is_assign, initialiser_in, declared_in, trees_of}

abbrev pub declared : PlainTree → Option PlainTree → Declared
declared tree value = record { declarator = tree; initialiser = value }

-- ---- which parts are declarators

declarator_kind : (role : Role) (kind : Kind) → belongs (declarator role) kind ≡ true → is_declarator_kind kind ≡ true
declarator_kind role k.Declarator h = refl
declarator_kind role k.ArrayDeclarator h = refl
declarator_kind role k.FunctionDeclarator h = refl
declarator_kind role _ h = absurd (false≢true h)

declarator_is : {role : Role} {tree : PlainTree} → Derivation (declarator role) tree → is_declarator tree ≡ true
declarator_is (single is) = absurd (false≢true is)
declarator_is {role = role} (made_of kind b a s) = declarator_kind role kind b

value_kind : (kind : Kind) → belongs initialiser kind ≡ true → is_declarator_kind kind ≡ false
value_kind k.Declarator h = absurd (false≢true h)
value_kind k.ArrayDeclarator h = absurd (false≢true h)
value_kind k.FunctionDeclarator h = absurd (false≢true h)
value_kind _ h = refl

value_is_none : {tree : PlainTree} → Derivation initialiser tree → is_declarator tree ≡ false
value_is_none (single is) = refl
value_is_none (made_of kind b a s) = value_kind kind b

no_assign : (comma : PlainToken) → IsWord (t.Comma ∷ []) comma → is_assign (leaf comma) ≡ false
no_assign comma w = one_of (λ x. same t.Assign x ≡ false) (t.Comma ∷ []) (terminal comma) w (refl, tt)

an_assign : (sign : PlainToken) → IsWord (t.Assign ∷ []) sign → is_assign (leaf sign) ≡ true
an_assign sign w = one_of (λ x. same t.Assign x ≡ true) (t.Assign ∷ []) (terminal sign) w (refl, tt)

-- ---- lists

begins : (tree : PlainTree) (rest : List PlainTree) → is_declarator tree ≡ true → declared_in (tree ∷ rest) ≡ declared tree (initialiser_in rest) ∷ declared_in rest
begins tree rest is = ap (λ b. if b then declared tree (initialiser_in rest) ∷ declared_in rest else declared_in rest) is

passes : (tree : PlainTree) (rest : List PlainTree) → is_declarator tree ≡ false → declared_in (tree ∷ rest) ≡ declared_in rest
passes tree rest is = ap (λ b. if b then declared tree (initialiser_in rest) ∷ declared_in rest else declared_in rest) is

module _ {role : Role} {tree : PlainTree} (d : Derivation (declarator role) tree) where
  pub one_alone : declared_in (trees_of (more tree none)) ≡ declared tree None ∷ []
  one_alone = begins tree [] (declarator_is d)

  pub one_before : (comma : PlainToken) (rest : PlainTrees) → IsWord (t.Comma ∷ []) comma → declared_in (trees_of (more tree (more (leaf comma) rest))) ≡ declared tree None ∷ declared_in (trees_of rest)
  one_before comma rest w =
      begins tree (leaf comma ∷ trees_of rest) (declarator_is d)
      ∙ ap (λ (b : Bool). declared tree (if b then first (trees_of rest) else None) ∷ declared_in (trees_of rest)) (no_assign comma w)

  module _ (sign : PlainToken) {value : PlainTree} (w : IsWord (t.Assign ∷ []) sign) (v : Derivation initialiser value) where
    begun : (rest : List PlainTree) → declared_in (tree ∷ leaf sign ∷ value ∷ rest) ≡ declared tree (Some value) ∷ declared_in rest
    begun rest =
        begins tree (leaf sign ∷ value ∷ rest) (declarator_is d)
        ∙ ap₂ (λ (b : Bool) others. declared tree (if b then Some value else None) ∷ others) (an_assign sign w) (passes value rest (value_is_none v))

    pub value_alone : declared_in (trees_of (more tree (more (leaf sign) (more value none)))) ≡ declared tree (Some value) ∷ []
    value_alone = begun []

    pub value_before : (comma : PlainToken) (rest : PlainTrees)
        → declared_in (trees_of (more tree (more (leaf sign) (more value (more (leaf comma) rest))))) ≡ declared tree (Some value) ∷ declared_in (trees_of rest)
    value_before comma rest = begun (leaf comma ∷ trees_of rest)
