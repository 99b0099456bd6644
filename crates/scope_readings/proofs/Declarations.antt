-- Declarations are walked as they are read.
use Rattle.std.proofs.Common.{◌≡◌, ℕ, Bool, false, List, [], ◌∷◌, refl, ap, ◌∙◌}
use Rattle.c_text.specs.Token.{PlainToken}
use Rattle.c_tree.specs.declared.kinds.Kind.{Kind}
use Rattle.c_tree.specs.declared.kinds.Kind.TheVariants as k
use Rattle.c_tree.specs.declared.terminals.Terminal.TheVariants as t
use Rattle.c_tree.specs.Trees.{PlainTree, PlainTrees, leaf, node, none, more}
use Rattle.c_tree.specs.Grammar.{Role, declarators, initialiser}
use Rattle.tree_derivations.specs.Derivations.{Derivation, single, made_of, declarators_of, Declared, last_plain, last_initialised, next_plain, next_initialised, IsWord}
use Rattle.bindings.specs.Visible.{Reading}
use Rattle.bindings.specs.Bindings.{Where, may_declare_tags, read_expression, read_words, read_declared, read_declarators, read_closed_suffix, read_declaration}
use Rattle.scope_readings.specs.Walks.{turns, scope_of, may_declare, walk_parts}
use Rattle.scope_readings.proofs.Images.{scope_at, image}
use Rattle.scope_readings.proofs.Parts.{none_such, other_word, Uses, plain_uses, PartWalks, PartsWalk, node_part, read_so, mark_part, leaf_part}
use Rattle.scope_readings.proofs.Words.{Specifying, by_words, words_walk}
use Rattle.scope_readings.proofs.Expressions.{expression_good}
use Rattle.scope_readings.proofs.Declarators.{Behind, closed_behind, FunctionsWalk, declarator_part}

-- a list of declarators
pub data Declaring (role : Role) : PlainTree → Type 0 where
  by_declarators : (parts : PlainTrees) → Declared role parts → Declaring role (node k.Declarators parts)

pub declarators_are : {role : Role} {tree : PlainTree} → Derivation (declarators role) tree → Declaring role tree
declarators_are (single is) = none_such is
declarators_are (made_of k.Declarators {parts = parts} b a (declarators_of ds)) = by_declarators parts ds
declarators_are (made_of _ b a s) = none_such b

value_declared :
    {tree : PlainTree} → Derivation initialiser tree → (suffix : PlainTrees → Reading → Reading) (place : Where) (r : Reading)
    → read_declared suffix place tree r ≡ read_expression tree r
value_declared (single is) suffix place r = refl
value_declared (made_of k.Declarator b a s) suffix place r = none_such b
value_declared (made_of k.ArrayDeclarator b a s) suffix place r = none_such b
value_declared (made_of k.FunctionDeclarator b a s) suffix place r = none_such b
value_declared (made_of _ b a s) suffix place r = refl

module _ (numbers : List ℕ) (d : Kind) (place : Where) (here : scope_of d ≡ scope_at place) where
  module _ (suffix : PlainTrees → Reading → Reading) (behind : Behind suffix) (role : Role) (functions : FunctionsWalk numbers d place here suffix behind role) where
    list_uses : Uses k.Declarators false
    list_uses = plain_uses k.Declarators refl (λ token. refl)

    first_part : {tree : PlainTree} → Derivation (Rattle.c_tree.specs.Grammar.declarator role) tree → PartWalks numbers d k.Declarators false tree (read_declared suffix place tree)
    first_part h = declarator_part numbers d place here suffix behind h functions k.Declarators

    assign_part : (sign : PlainToken) → IsWord (t.Assign ∷ []) sign → PartWalks numbers d k.Declarators false (leaf sign) (read_expression (leaf sign))
    assign_part sign w = leaf_part numbers d k.Declarators false list_uses sign (other_word t.Select (t.Assign ∷ []) sign refl w)

    comma_part : (comma : PlainToken) → IsWord (t.Comma ∷ []) comma → PartWalks numbers d k.Declarators false (leaf comma) (read_expression (leaf comma))
    comma_part comma w = leaf_part numbers d k.Declarators false list_uses comma (other_word t.Select (t.Comma ∷ []) comma refl w)

    value_part : {tree : PlainTree} → Derivation initialiser tree → PartWalks numbers d k.Declarators false tree (read_declared suffix place tree)
    value_part {tree = tree} h =
        read_so numbers d k.Declarators false tree (read_declared suffix place tree) (read_expression tree) (value_declared h suffix place)
        (expression_good numbers tree initialiser refl h d k.Declarators false list_uses)

    pub declarators_walk : {parts : PlainTrees} → Declared role parts → PartsWalk numbers d k.Declarators false parts (read_declarators suffix place parts)
    declarators_walk (last_plain h) = λ r. first_part h none r
    declarators_walk (last_initialised {tree = tree} {value = value} {sign = sign} m h w v) = λ r.
        let one : Reading = read_declared suffix place tree r in
        first_part h (more (leaf sign) (more value none)) r
        ∙ assign_part sign w (more value none) one
        ∙ value_part v none (read_expression (leaf sign) one)
    declarators_walk (next_plain {tree = tree} {comma = comma} {rest = rest} h w others) = λ r.
        let one : Reading = read_declared suffix place tree r in
        first_part h (more (leaf comma) rest) r
        ∙ comma_part comma w rest one
        ∙ declarators_walk others (read_expression (leaf comma) one)
    declarators_walk (next_initialised {tree = tree} {value = value} {sign = sign} {comma = comma} {rest = rest} m h w v c others) = λ r.
        let one : Reading = read_declared suffix place tree r in
        let two : Reading = read_declared suffix place value (read_expression (leaf sign) one) in
        first_part h (more (leaf sign) (more value (more (leaf comma) rest))) r
        ∙ assign_part sign w (more value (more (leaf comma) rest)) one
        ∙ value_part v (more (leaf comma) rest) (read_expression (leaf sign) one)
        ∙ comma_part comma c rest two
        ∙ declarators_walk others (read_expression (leaf comma) two)

  pub declaration_walks :
      may_declare d ≡ may_declare_tags place → ((token : PlainToken) → turns d token ≡ false) → (role : Role) → FunctionsWalk numbers d place here read_closed_suffix closed_behind role
      → {words list : PlainTree} → Specifying words → Declaring role list → (end_ : PlainToken) → IsWord (t.Semicolon ∷ []) end_
      → PartsWalk numbers d d false (more words (more list (more (leaf end_) none))) (read_declaration place (more words (more list (more (leaf end_) none))))
  declaration_walks tags still role functions (by_words words are) (by_declarators list declared) end_ w = λ r.
      let rest : PlainTrees = more (node k.Declarators list) (more (leaf end_) none) in
      let one : Reading = read_words (may_declare_tags place) words r in
      node_part numbers d d false k.Specifiers words (read_words (may_declare d) words) (words_walk numbers words are d) rest r
      ∙ ap (λ (b : Bool). walk_parts d d false rest (image numbers (read_words b words r))) tags
      ∙ node_part numbers d d false k.Declarators list (read_declarators read_closed_suffix place list)
      (declarators_walk read_closed_suffix closed_behind role functions declared) (more (leaf end_) none) one
      ∙ mark_part numbers d d false end_ (other_word t.Name (t.Semicolon ∷ []) end_ refl w) (still end_) none (read_declarators read_closed_suffix place list one)
