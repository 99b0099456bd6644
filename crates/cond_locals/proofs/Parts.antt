-- The parts of a declaration in a block, by its derivation.
use Rattle.std.proofs.Common.{arith, ◌≡◌, ℕ, Bool, true, false, List, [], ◌∷◌, length, get_or, refl, sym, subst}
use Rattle.std.proofs.lemmas.Bool.{false≢true}
use Rattle.c_tree.specs.declared.kinds.Kind.{Kind}
use Rattle.c_tree.specs.declared.kinds.Kind.TheVariants as k
use Rattle.c_tree.specs.Trees.{PlainTree, PlainTrees, leaf, node, none, more}
use Rattle.c_tree.specs.Grammar.{Category, specifiers, declarators, item, for_start, local, shape, row, belongs}
use Rattle.tree_derivations.specs.Derivations.{Derivation, single, made_of, Shaped, a_row, declarators_of, Row, at_end, a_word, a_part}
use Rattle.tree_derivations.specs.Derivations as derivations
use Rattle.choice_trees.specs.ChoiceTrees.{PlainChoices, no_statement, parts_at}
use Rattle.choice_variants.specs.Variants.{part_at, before}
use Rattle.choice_variants.specs.declared.parts.Part.{Part}
use Rattle.choice_variants.specs.declared.parts.Part.TheVariants.{NoStatement}
use Rattle.type_tables.specs.Tables.{Tables}
use Rattle.cond_statements.specs.Ready.{IsDerived}
use Rattle.conditional_steps.specs.Here.{Here}
use Rattle.cond_locals.specs.Declaring.{DeclaresLocals}

-- words, a list of declarators and what ends the declaration
pub record IsDeclaration (parts : PlainTrees) : Type 0 where
  pub words : PlainTree
  pub list : PlainTrees
  pub end : PlainTree
  pub parts_are : parts ≡ more words (more (node k.Declarators list) (more end none))
  pub specified : Derivation specifiers words
  pub declared : derivations.Declared local list

none_such : {A : Type 0} → false ≡ true → A
none_such h = absurd (false≢true h)

in_list : {tree : PlainTree} → Derivation (declarators local) tree → (words end : PlainTree) → Derivation specifiers words → IsDeclaration (more words (more tree (more end none)))
in_list (single is) words end specified = none_such is
in_list (made_of k.Declarators {parts = parts} b a (declarators_of declared)) words end specified =
    record { words = words; list = parts; end = end; parts_are = refl; specified = specified; declared = declared }
in_list (made_of _ b a s) words end specified = none_such b

in_places : {parts : PlainTrees} → Row (row k.LocalDeclaration) parts → IsDeclaration parts
in_places (a_part {tree = words} specified (a_part {tree = list} d (a_word {token = end} w at_end))) = in_list d words (leaf end) specified

in_shape : (category : Category) (parts : PlainTrees) → belongs category k.LocalDeclaration ≡ true → Shaped (shape category k.LocalDeclaration) parts → IsDeclaration parts
in_shape item parts b (a_row r) = in_places r
in_shape for_start parts b (a_row r) = in_places r
in_shape _ parts b s = none_such b

derived_parts : {category : Category} {parts : PlainTrees} → Derivation category (node k.LocalDeclaration parts) → IsDeclaration parts
derived_parts {category = category} (made_of k.LocalDeclaration {parts = parts} b a s) = in_shape category parts b s

pub declaration_parts : (parts : PlainTrees) → IsDerived (node k.LocalDeclaration parts) → IsDeclaration parts
declaration_parts parts derived = derived_parts derived.derivation

-- ---- the parts of a variant

module _ (on : ℕ → Bool) where
  same_first : (a b : PlainTree) (x y : PlainTrees) → more a x ≡ more b y → a ≡ b
  same_first a b x y e = cc

  same_second : (a b c d : PlainTree) (x y : PlainTrees) → more a (more b x) ≡ more c (more d y) → b ≡ d
  same_second a b c d x y e = cc

  no_specifiers : {A : Type 0} → Derivation specifiers no_statement → A
  no_specifiers (made_of _ b a s) = none_such b

  -- a `;` that stands for a statement is neither words nor a list of declarators
  pub no_words : {A : Type 0} (rest : PlainTrees) → IsDerived (node k.LocalDeclaration (more no_statement rest)) → A
  no_words rest derived =
      let is = declaration_parts (more no_statement rest) derived in
      no_specifiers (subst (λ (tree : PlainTree). Derivation specifiers tree) (sym (same_first no_statement is.words rest (more (node k.Declarators is.list) (more is.end none)) is.parts_are)) is.specified)

  no_list : {A : Type 0} (list : PlainTrees) → no_statement ≡ node k.Declarators list → A
  no_list list e = absurd cc

  pub no_declarators : {A : Type 0} (words : PlainTree) (rest : PlainTrees) → IsDerived (node k.LocalDeclaration (more words (more no_statement rest))) → A
  no_declarators words rest derived =
      let is = declaration_parts (more words (more no_statement rest)) derived in
      no_list is.list (same_second words no_statement is.words (node k.Declarators is.list) rest (more is.end none) is.parts_are)

  -- so nothing is declared there
  pub undeclared_words : (p : Part) (rest : PlainTrees) (here : Bool) (t : Tables) (f : Bool) → p ≡ NoStatement → f ≡ false → Here here (DeclaresLocals (more (part_at on p) rest)) t t f
  undeclared_words p rest here t f is is_f = record {
    elsewhere = λ h. (refl, is_f);
    does = λ h. record { declared = λ scope slots follows derived. no_words rest (subst (λ (q : Part). IsDerived (node k.LocalDeclaration (more (part_at on q) rest))) is derived) };
  }

  pub undeclared_list : (words : PlainTree) (p : Part) (rest : PlainTrees) (here : Bool) (t : Tables) (f : Bool) → p ≡ NoStatement → f ≡ false → Here here (DeclaresLocals (more words (more (part_at on p) rest))) t t f
  undeclared_list words p rest here t f is is_f = record {
    elsewhere = λ h. (refl, is_f);
    does = λ h. record {
      declared = λ scope slots follows derived. no_declarators words rest (subst (λ (q : Part). IsDerived (node k.LocalDeclaration (more words (more (part_at on q) rest)))) is derived);
    };
  }

  three : (parts : List Part) (a b c : PlainTree) → before on parts none ≡ more a (more b (more c none)) → length parts ≡ 3
  three [] a b c e = absurd cc
  three (p ∷ []) a b c e = absurd cc
  three (p ∷ q ∷ []) a b c e = absurd cc
  three (p ∷ q ∷ r ∷ []) a b c e = refl
  three (p ∷ q ∷ r ∷ s ∷ parts) a b c e = absurd cc

  -- there are three parts
  pub three_derived : {A : Type 0} (parts : List Part) → IsDerived (node k.LocalDeclaration (before on parts none)) → (length parts ≡ 3 → ⊥) → A
  three_derived parts derived other =
      let is = declaration_parts (before on parts none) derived in
      absurd (other (three parts is.words (node k.Declarators is.list) is.end is.parts_are))

  pub undeclared_parts : (parts : List Part) (here : Bool) (t : Tables) (f : Bool) → (length parts ≡ 3 → ⊥) → f ≡ false → Here here (DeclaresLocals (before on parts none)) t t f
  undeclared_parts parts here t f other is_f = record {
    elsewhere = λ h. (refl, is_f);
    does = λ h. record { declared = λ scope slots follows derived. three_derived parts derived other };
  }

  pub parts_here : (parts : List Part) (words list : Part) (here : Bool) (old new : Tables) (refused : Bool) → length parts ≡ 3 → words ≡ get_or parts 0 words → list ≡ get_or parts 1 list
      → ((end : PlainTree) → Here here (DeclaresLocals (more (part_at on words) (more (part_at on list) (more end none)))) old new refused)
      → Here here (DeclaresLocals (before on parts none)) old new refused
  parts_here [] words list here old new refused count is_words is_list does = absurd cc
  parts_here (p ∷ []) words list here old new refused count is_words is_list does = absurd cc
  parts_here (p ∷ q ∷ []) words list here old new refused count is_words is_list does = absurd cc
  parts_here (p ∷ q ∷ r ∷ []) words list here old new refused count is_words is_list does =
      subst (λ (w : Part). Here here (DeclaresLocals (more (part_at on w) (more (part_at on q) (more (part_at on r) none)))) old new refused) is_words
      (subst (λ (l : Part). Here here (DeclaresLocals (more (part_at on words) (more (part_at on l) (more (part_at on r) none)))) old new refused) is_list (does (part_at on r)))
  parts_here (p ∷ q ∷ r ∷ s ∷ parts) words list here old new refused count is_words is_list does = absurd (omega (arith, count))

-- ---- the list

same_kind : (a b : Kind) (x y : PlainTrees) → node a x ≡ node b y → a ≡ b
same_kind a b x y e = cc

same_parts : (a b : Kind) (x y : PlainTrees) → node a x ≡ node b y → x ≡ y
same_parts a b x y e = cc

pub listed_parts : (on : ℕ → Bool) (kind : Kind) (choices : PlainChoices) (parts : PlainTrees) → node kind (parts_at on kind 0 choices) ≡ node k.Declarators parts → parts_at on k.Declarators 0 choices ≡ parts
listed_parts on kind choices parts e =
    subst (λ (other : Kind). parts_at on other 0 choices ≡ parts) (same_kind kind k.Declarators (parts_at on kind 0 choices) parts e) (same_parts kind k.Declarators (parts_at on kind 0 choices) parts e)
