-- The parts of a declarator: stars, a name or none, and what is fixed behind it.
use Rattle.std.proofs.Common.{◌≡◌, Bool, true, false, List, [], ◌∷◌, refl}
use Rattle.std.specs.Prelude.{IsTrue, if◌then◌else◌}
use Rattle.std.proofs.lemmas.Bool.{false≢true}
use Rattle.c_text.specs.Token.{PlainToken}
use Rattle.c_tree.specs.declared.kinds.Kind.{Kind}
use Rattle.c_tree.specs.declared.kinds.Kind.TheVariants as k
use Rattle.c_tree.specs.declared.terminals.Terminal.TheVariants as t
use Rattle.c_tree.specs.Terminals.{terminal, is_one_of}
use Rattle.c_tree.specs.Trees.{PlainTree, PlainTrees, leaf, node, none, more}
use Rattle.c_tree.specs.Grammar.{parameters, declarator, abstract_declarator, Role, at_file_scope, Slot, word, perhaps, stars, optional, bracketed_size, fine, next_part, is_a, are_in_row, any_part}
use Rattle.c_tree.proofs.RowsRead.{row_goes_on, InRow, are_fixed, fixed_row}
use Rattle.c_tree.proofs.ExpressionsRead.{Formed, formed}

-- stars, and then the parts of the slots
pub data Starred : List Slot → PlainTrees → Type 0 where
  starred :
      {slots : List Slot} {token : PlainToken} {ps : PlainTrees}
      → IsTrue (is_one_of (t.Star ∷ []) (terminal token)) → Starred slots ps → Starred slots (more (leaf token) ps)
  unstarred : {slots : List Slot} {ps : PlainTrees} → InRow slots ps → Starred slots ps

star_case :
    (slots : List Slot) (token : PlainToken) (ps : PlainTrees) (b : Bool) → is_one_of (t.Star ∷ []) (terminal token) ≡ b
    → IsTrue (row_goes_on (if b then fine (stars ∷ slots) else next_part slots (leaf token)) (leaf token) ps)
    → (IsTrue (are_in_row (stars ∷ slots) ps) → Starred slots ps)
    → (IsTrue (are_in_row slots (more (leaf token) ps)) → InRow slots (more (leaf token) ps))
    → Starred slots (more (leaf token) ps)
star_case slots token ps true e h others here = starred e (others h)
star_case slots token ps false e h others here = unstarred (here h)

pub starred_row :
    (slots : List Slot) (ps : PlainTrees) → IsTrue (are_fixed slots) → IsTrue (are_in_row (stars ∷ slots) ps) → Starred slots ps
starred_row slots none fixed h = unstarred (fixed_row slots none fixed h)
starred_row slots (more (leaf token) ps) fixed h =
    star_case slots token ps (is_one_of (t.Star ∷ []) (terminal token)) refl h (starred_row slots ps fixed)
    (fixed_row slots (more (leaf token) ps) fixed)
starred_row slots (more (node kind inner) ps) fixed h = unstarred (fixed_row slots (more (node kind inner) ps) fixed h)

-- stars, then a name or none, and then the parts of the slots
pub data Perhaps : List Slot → PlainTrees → Type 0 where
  star_first :
      {slots : List Slot} {token : PlainToken} {ps : PlainTrees}
      → IsTrue (is_one_of (t.Star ∷ []) (terminal token)) → Perhaps slots ps → Perhaps slots (more (leaf token) ps)
  with_name :
      {slots : List Slot} {token : PlainToken} {ps : PlainTrees}
      → IsTrue (is_one_of (t.Name ∷ []) (terminal token)) → InRow slots ps → Perhaps slots (more (leaf token) ps)
  nameless : {slots : List Slot} {ps : PlainTrees} → InRow slots ps → Perhaps slots ps

name_case :
    (slots : List Slot) (token : PlainToken) (ps : PlainTrees) (b : Bool) → is_one_of (t.Name ∷ []) (terminal token) ≡ b
    → IsTrue (row_goes_on (if b then fine slots else next_part slots (leaf token)) (leaf token) ps)
    → (IsTrue (are_in_row slots ps) → InRow slots ps)
    → (IsTrue (are_in_row slots (more (leaf token) ps)) → InRow slots (more (leaf token) ps))
    → Perhaps slots (more (leaf token) ps)
name_case slots token ps true e h others here = with_name e (others h)
name_case slots token ps false e h others here = nameless (here h)

perhaps_star_case :
    (slots : List Slot) (token : PlainToken) (ps : PlainTrees) (b : Bool) → is_one_of (t.Star ∷ []) (terminal token) ≡ b
    → IsTrue
    (row_goes_on (if b then fine (stars ∷ perhaps (t.Name ∷ []) ∷ slots) else next_part (perhaps (t.Name ∷ []) ∷ slots) (leaf token)) (leaf token) ps)
    → (IsTrue (are_in_row (stars ∷ perhaps (t.Name ∷ []) ∷ slots) ps) → Perhaps slots ps)
    → (IsTrue (are_in_row (perhaps (t.Name ∷ []) ∷ slots) (more (leaf token) ps)) → Perhaps slots (more (leaf token) ps))
    → Perhaps slots (more (leaf token) ps)
perhaps_star_case slots token ps true e h others here = star_first e (others h)
perhaps_star_case slots token ps false e h others here = here h

pub perhaps_row :
    (slots : List Slot) (ps : PlainTrees) → IsTrue (are_fixed slots) → IsTrue (are_in_row (stars ∷ perhaps (t.Name ∷ []) ∷ slots) ps)
    → Perhaps slots ps
perhaps_row slots none fixed h = nameless (fixed_row slots none fixed h)
perhaps_row slots (more (leaf token) ps) fixed h =
    perhaps_star_case slots token ps (is_one_of (t.Star ∷ []) (terminal token)) refl h (perhaps_row slots ps fixed)
    (λ e. name_case slots token ps (is_one_of (t.Name ∷ []) (terminal token)) refl e (fixed_row slots ps fixed)
    (fixed_row slots (more (leaf token) ps) fixed))
perhaps_row slots (more (node kind inner) ps) fixed h = nameless (fixed_row slots (more (node kind inner) ps) fixed h)

-- ---- declarators

abbrev pub name_row : List Slot
name_row = word (t.Name ∷ []) ∷ []

abbrev pub array_row : List Slot
array_row = word (t.Name ∷ []) ∷ bracketed_size

abbrev pub function_row : List Slot
function_row =
    word (t.Name ∷ []) ∷ word (t.OpenParenthesis ∷ []) ∷ optional parameters ∷ word (t.CloseParenthesis ∷ []) ∷ []

pub data DeclaratorForm : Role → PlainTree → Type 0 where
  plain_form : {role : Role} {ps : PlainTrees} → Starred name_row ps → DeclaratorForm role (node k.Declarator ps)
  array_form : {role : Role} {ps : PlainTrees} → Starred array_row ps → DeclaratorForm role (node k.ArrayDeclarator ps)
  function_form :
      {role : Role} {ps : PlainTrees} → IsTrue (at_file_scope role) → Starred function_row ps
      → DeclaratorForm role (node k.FunctionDeclarator ps)

declarator_node_form : (role : Role) (kind : Kind) (ps : PlainTrees) → Formed (declarator role) kind ps → DeclaratorForm role (node kind ps)
declarator_node_form role k.Declarator ps f = plain_form (starred_row name_row ps refl f.shaped_so)
declarator_node_form role k.ArrayDeclarator ps f = array_form (starred_row array_row ps refl f.shaped_so)
declarator_node_form role k.FunctionDeclarator ps f = function_form f.belongs_there (starred_row function_row ps refl f.shaped_so)
declarator_node_form role _ ps f = absurd (false≢true f.belongs_there)

pub declarator_form : (role : Role) (tree : PlainTree) → IsTrue (is_a (declarator role) tree) → DeclaratorForm role tree
declarator_form role (leaf token) h = absurd (false≢true h)
declarator_form role (node kind ps) h = declarator_node_form role kind ps (formed (declarator role) kind ps h)

pub data AbstractForm : PlainTree → Type 0 where
  abstract_plain : {ps : PlainTrees} → IsTrue (any_part ps) → Perhaps [] ps → AbstractForm (node k.Declarator ps)
  abstract_array : {ps : PlainTrees} → Perhaps bracketed_size ps → AbstractForm (node k.ArrayDeclarator ps)

abstract_node_form : (kind : Kind) (ps : PlainTrees) → Formed abstract_declarator kind ps → AbstractForm (node kind ps)
abstract_node_form k.Declarator ps f = abstract_plain f.agreeing (perhaps_row [] ps refl f.shaped_so)
abstract_node_form k.ArrayDeclarator ps f = abstract_array (perhaps_row bracketed_size ps refl f.shaped_so)
abstract_node_form _ ps f = absurd (false≢true f.belongs_there)

pub abstract_form : (tree : PlainTree) → IsTrue (is_a abstract_declarator tree) → AbstractForm tree
abstract_form (leaf token) h = absurd (false≢true h)
abstract_form (node kind ps) h = abstract_node_form kind ps (formed abstract_declarator kind ps h)
