-- Declarators and parameters are walked as they are read.
use Rattle.std.proofs.Common.{◌≡◌, ℕ, Bool, true, false, ◌||◌, List, [], ◌∷◌, refl, sym, ap, ◌∙◌}
use Rattle.std.specs.Prelude.{if◌then◌else◌}
use Rattle.c_text.specs.Token.{PlainToken}
use Rattle.c_tree.specs.declared.kinds.Kind.{Kind}
use Rattle.c_tree.specs.declared.kinds.Kind.TheVariants as k
use Rattle.c_tree.specs.declared.terminals.Terminal.TheVariants as t
use Rattle.c_tree.specs.Terminals.{terminal, same}
use Rattle.c_tree.specs.Trees.{PlainTree, PlainTrees, leaf, node, none, more, absent}
use Rattle.c_tree.specs.Grammar.{expression, declarator, abstract_declarator, parameters, parameter, Role, Slot, word, perhaps, stars, optional, bracketed_size, row, at_file_scope}
use Rattle.c_tree.proofs.TerminalCases.{one_of}
use Rattle.tree_derivations.specs.Derivations.{Derivation, single, made_of, a_row, with_commas, Row, at_end, a_word, perhaps_there, not_there, a_star, no_star, a_part, left_out, given, Separated, last_one, next_one, IsWord}
use Rattle.bindings.specs.Visible as reading
use Rattle.bindings.specs.Visible.{bound_to, Reading, occurs}
use Rattle.bindings.specs.Bindings.{is_name, Where, at_file, in_block, declaring, declared, read_expression, read_expressions, read_words, read_declarator, read_declared, read_parameter, read_parameters, read_suffix, read_closed_suffix}
use Rattle.scope_readings.specs.Scopes.{Scopes, Scope, file_scope, this, passed, named, shown, leave}
use Rattle.scope_readings.specs.Walks.{turns, role, declared_name, scope_of, walk_name, walk_parts}
use Rattle.scope_readings.proofs.Images.{scope_at, image, passed_image, named_image, shown_image}
use Rattle.scope_readings.proofs.Kept.{expressions_kept, suffix_files, left, left_behind}
use Rattle.scope_readings.proofs.Parts.{none_such, other_word, plain_uses, PartWalks, PartsWalk, NodeWalks, node_part, mark_part, sign_part, leaf_part, row_parts}
use Rattle.scope_readings.proofs.Words.{Specifying, by_words, specifiers_are, words_walk}
use Rattle.scope_readings.proofs.Expressions.{in_expressions, expressions_walk, expressions_good}

-- ---- what stands behind a name

pub record Behind (suffix : PlainTrees → Reading → Reading) : Type 0 where
  pub nothing : (r : Reading) → suffix none r ≡ r
  pub sizes : (rest : PlainTrees) → Row bracketed_size rest → (r : Reading) → suffix rest r ≡ read_expressions rest r
  pub files : (rest : PlainTrees) (r : Reading) → (suffix rest r).file ≡ r.file

suffix_expression : {n : ℕ} {tree : PlainTree} → Derivation (expression n) tree → (rest : PlainTrees) (r : Reading) → read_suffix (more tree rest) r ≡ read_suffix rest (read_expression tree r)
suffix_expression (single is) rest r = refl
suffix_expression (made_of k.Parameters b a s) rest r = none_such b
suffix_expression (made_of _ b a s) rest r = refl

suffix_sizes : {rest : PlainTrees} → Row bracketed_size rest → (r : Reading) → read_suffix rest r ≡ read_expressions rest r
suffix_sizes (a_word w (left_out (a_word v at_end))) r = refl
suffix_sizes (a_word {token = bracket} w (given h (a_word {token = close} v at_end))) r =
    suffix_expression h (more (leaf close) none) (read_expression (leaf bracket) r)

pub function_behind : Behind read_suffix
function_behind = record { nothing = λ r. refl; sizes = λ rest row r. suffix_sizes row r; files = suffix_files }

pub closed_behind : Behind read_closed_suffix
closed_behind = record {
  nothing = λ r. refl;
  sizes = λ rest row r. ap (reading.leave r) (suffix_sizes row r) ∙ left r (read_expressions rest r) (expressions_kept rest r).block_names;
  files = suffix_files;
}

parameter_behind : Behind read_expressions
parameter_behind = record { nothing = λ r. refl; sizes = λ rest row r. refl; files = λ rest r. (expressions_kept rest r).files }

-- ---- the size in brackets

size_walks : (numbers : List ℕ) (d : Kind) {rest : PlainTrees} → Row bracketed_size rest → PartsWalk numbers d k.ArrayDeclarator false rest (read_expressions rest)
size_walks numbers d (a_word {token = bracket} {rest = rest} w row_) = λ r.
    let e : terminal bracket ≡ t.OpenBracket = one_of (λ x. x ≡ t.OpenBracket) (t.OpenBracket ∷ []) (terminal bracket) w (refl, tt) in
    ap (λ x. if same t.Name x then walk_name d declared_name bracket (λ after. walk_parts d k.ArrayDeclarator false rest after) (image numbers r)
    else walk_parts d k.ArrayDeclarator (same t.OpenBracket x) rest (passed (image numbers r))) e
    ∙ ap (walk_parts d k.ArrayDeclarator true rest) (passed_image numbers r)
    ∙ expressions_walk numbers d k.ArrayDeclarator true rest
    (row_parts numbers read_expression in_expressions (λ token s. refl) (λ s. refl) row_ refl (expressions_good numbers rest) d k.ArrayDeclarator true
    (record { role_is = refl; still = λ token f. refl }))
    (reading.passed r)
    ∙ sym (ap (λ x. image numbers (read_expressions rest (if same t.Name x then reading.used bracket r else reading.passed r))) e)

-- ---- declarators at a place

module _ (numbers : List ℕ) (d : Kind) (place : Where) (here : scope_of d ≡ scope_at place) (suffix : PlainTrees → Reading → Reading) (behind : Behind suffix) where
  abbrev Declares : Kind → PlainTrees → Type 0
  Declares kind parts = PartsWalk numbers d kind false parts (read_declarator suffix place parts)

  pub name_walks :
      (kind : Kind) → role kind false ≡ declared_name → (token : PlainToken) → IsWord (t.Name ∷ []) token → (rest : PlainTrees)
      → PartsWalk numbers d kind false rest (suffix rest) → Declares kind (more (leaf token) rest)
  name_walks kind e token w rest h r =
      let is : is_name token ≡ true = one_of (λ x. same t.Name x ≡ true) (t.Name ∷ []) (terminal token) w (refl, tt) in
      let before : Scopes = image numbers r in
      let by : ℕ = declaring place token r in
      let inner : Reading = occurs token (bound_to (declaring place token r)) r in
      ap (λ (b : Bool). if b then walk_name d (role kind false) token (λ after. walk_parts d kind false rest after) (image numbers r)
      else walk_parts d kind (false || turns kind token) rest (passed (image numbers r))) is
      ∙ ap (λ x. walk_name d x token (λ after. walk_parts d kind false rest after) before) e
      ∙ ap (λ (x : Scope). shown x token.text (this before) (walk_parts d kind false rest (named x token.text before))) here
      ∙ ap (λ (s : Scopes). shown (scope_at place) token.text (this before) (walk_parts d kind false rest s)) (named_image numbers place token r)
      ∙ ap (shown (scope_at place) token.text (this before)) (h inner)
      ∙ shown_image numbers place token r (suffix rest inner) (behind.files rest inner)
      ∙ sym (ap (λ (b : Bool). image numbers (if b then declared place token by (suffix rest inner)
      else if same t.OpenBracket (terminal token) then read_expressions rest (reading.passed r) else read_declarator suffix place rest (reading.passed r))) is)

  pub stars_walk :
      (kind : Kind) → ((token : PlainToken) → same t.OpenBracket (terminal token) ≡ false → turns kind token ≡ false) → {slots : List Slot} {parts : PlainTrees}
      → Row (stars ∷ slots) parts → ((inner : PlainTrees) → Row slots inner → Declares kind inner) → Declares kind parts
  stars_walk kind still (a_star {token = token} {rest = rest} w row_) next = λ r.
      let e : terminal token ≡ t.Star = one_of (λ x. x ≡ t.Star) (t.Star ∷ []) (terminal token) w (refl, tt) in
      let nameless : is_name token ≡ false = ap (same t.Name) e in
      let bracketless : same t.OpenBracket (terminal token) ≡ false = ap (same t.OpenBracket) e in
      mark_part numbers d kind false token nameless (still token bracketless) rest r
      ∙ stars_walk kind still row_ next (reading.passed r)
      ∙ sym (ap (λ (b : Bool). image numbers (if b
      then declared place token (declaring place token r) (suffix rest (occurs token (bound_to (declaring place token r)) r))
      else if same t.OpenBracket (terminal token) then read_expressions rest (reading.passed r) else read_declarator suffix place rest (reading.passed r))) nameless
      ∙ ap (λ (b : Bool). image numbers (if b then read_expressions rest (reading.passed r) else read_declarator suffix place rest (reading.passed r))) bracketless)
  stars_walk kind still (no_star {parts = parts} row_) next = next parts row_

  nothing_behind : (kind : Kind) → PartsWalk numbers d kind false none (suffix none)
  nothing_behind kind r = ap (image numbers) (sym (behind.nothing r))

  size_behind : {rest : PlainTrees} → Row bracketed_size rest → PartsWalk numbers d k.ArrayDeclarator false rest (suffix rest)
  size_behind {rest = rest} row_ r = size_walks numbers d row_ r ∙ ap (image numbers) (sym (behind.sizes rest row_ r))

  -- a size with no name before it
  unnamed_size : {rest : PlainTrees} → Row bracketed_size rest → (r : Reading) → read_declarator suffix place rest r ≡ read_expressions rest r
  unnamed_size (a_word {token = bracket} {rest = rest} w row_) r =
      let e : terminal bracket ≡ t.OpenBracket = one_of (λ x. x ≡ t.OpenBracket) (t.OpenBracket ∷ []) (terminal bracket) w (refl, tt) in
      ap (λ x. if same t.Name x then declared place bracket (declaring place bracket r) (suffix rest (occurs bracket (bound_to (declaring place bracket r)) r))
      else if same t.OpenBracket x then read_expressions rest (reading.passed r) else read_declarator suffix place rest (reading.passed r)) e
      ∙ sym (ap (λ x. read_expressions rest (if same t.Name x then reading.used bracket r else reading.passed r)) e)

  plain_name : (inner : PlainTrees) → Row (word (t.Name ∷ []) ∷ []) inner → Declares k.Declarator inner
  plain_name _ (a_word {token = token} w at_end) = name_walks k.Declarator refl token w none (nothing_behind k.Declarator)

  plain_or_none : (inner : PlainTrees) → Row (perhaps (t.Name ∷ []) ∷ []) inner → Declares k.Declarator inner
  plain_or_none _ (perhaps_there {token = token} w at_end) = name_walks k.Declarator refl token w none (nothing_behind k.Declarator)
  plain_or_none _ (not_there at_end) = λ r. refl

  array_name : (inner : PlainTrees) → Row (word (t.Name ∷ []) ∷ bracketed_size) inner → Declares k.ArrayDeclarator inner
  array_name _ (a_word {token = token} {rest = rest} w row_) = name_walks k.ArrayDeclarator refl token w rest (size_behind row_)

  array_or_none : (inner : PlainTrees) → Row (perhaps (t.Name ∷ []) ∷ bracketed_size) inner → Declares k.ArrayDeclarator inner
  array_or_none _ (perhaps_there {token = token} {rest = rest} w row_) = name_walks k.ArrayDeclarator refl token w rest (size_behind row_)
  array_or_none _ (not_there row_) = λ r. size_walks numbers d row_ r ∙ ap (image numbers) (sym (unnamed_size row_ r))

  -- functions are declared at file scope alone
  abbrev pub FunctionsWalk : Role → Type 0
  FunctionsWalk role_ =
      at_file_scope role_ ≡ true → (parts : PlainTrees) → Row (row k.FunctionDeclarator) parts
      → NodeWalks numbers d k.FunctionDeclarator parts (read_declarator suffix place parts)

  pub declarator_part :
      {role_ : Role} {tree : PlainTree} → Derivation (declarator role_) tree → FunctionsWalk role_ → (around : Kind)
      → PartWalks numbers d around false tree (read_declared suffix place tree)
  declarator_part (single is) functions around = none_such is
  declarator_part (made_of k.Declarator {parts = parts} b a (a_row row_)) functions around =
      node_part numbers d around false k.Declarator parts (read_declarator suffix place parts) (stars_walk k.Declarator (λ token e. refl) row_ plain_name)
  declarator_part (made_of k.ArrayDeclarator {parts = parts} b a (a_row row_)) functions around =
      node_part numbers d around false k.ArrayDeclarator parts (read_declarator suffix place parts) (stars_walk k.ArrayDeclarator (λ token e. e) row_ array_name)
  declarator_part (made_of k.FunctionDeclarator {parts = parts} b a (a_row row_)) functions around =
      node_part numbers d around false k.FunctionDeclarator parts (read_declarator suffix place parts) (functions b parts row_)
  declarator_part (made_of _ b a s) functions around = none_such b

  pub abstract_part :
      {tree : PlainTree} → Derivation abstract_declarator tree → (around : Kind) → PartWalks numbers d around false tree (read_declared suffix place tree)
  abstract_part (single is) around = none_such is
  abstract_part (made_of k.Declarator {parts = parts} b a (a_row row_)) around =
      node_part numbers d around false k.Declarator parts (read_declarator suffix place parts) (stars_walk k.Declarator (λ token e. refl) row_ plain_or_none)
  abstract_part (made_of k.ArrayDeclarator {parts = parts} b a (a_row row_)) around =
      node_part numbers d around false k.ArrayDeclarator parts (read_declarator suffix place parts) (stars_walk k.ArrayDeclarator (λ token e. e) row_ array_or_none)
  abstract_part (made_of _ b a s) around = none_such b

-- ---- parameters

data Listed : PlainTree → Type 0 where
  by_list : (parts : PlainTrees) → Separated parameter parts → Listed (node k.Parameters parts)

parameters_are : {tree : PlainTree} → Derivation parameters tree → Listed tree
parameters_are (single is) = none_such is
parameters_are (made_of k.Parameters {parts = parts} b a (with_commas s)) = by_list parts s
parameters_are (made_of _ b a s) = none_such b

module _ (numbers : List ℕ) (d : Kind) where
  parameter_walks :
      {words : PlainTree} → Specifying words → (tree : PlainTree) → PartWalks numbers k.Parameter k.Parameter false tree (read_declared read_expressions in_block tree)
      → PartWalks numbers d k.Parameters false (node k.Parameter (more words (more tree none))) (read_parameter (node k.Parameter (more words (more tree none))))
  parameter_walks (by_words words are) tree h =
      node_part numbers d k.Parameters false k.Parameter (more (node k.Specifiers words) (more tree none))
      (λ r. read_declared read_expressions in_block tree (read_words false words r))
      (λ r. node_part numbers k.Parameter k.Parameter false k.Specifiers words (read_words false words) (words_walk numbers words are k.Parameter) (more tree none) r
      ∙ h none (read_words false words r))

  parameter_part : {tree : PlainTree} → Derivation parameter tree → PartWalks numbers d k.Parameters false tree (read_parameter tree)
  parameter_part (single is) = none_such is
  parameter_part (made_of k.Parameter b a (a_row (a_part h (left_out at_end)))) = parameter_walks (specifiers_are h) absent (λ rest r. refl)
  parameter_part (made_of k.Parameter b a (a_row (a_part h (given {tree = tree} i at_end)))) =
      parameter_walks (specifiers_are h) tree (abstract_part numbers k.Parameter in_block refl read_expressions parameter_behind i k.Parameter)
  parameter_part (made_of _ b a s) = none_such b

  parameters_walk : {parts : PlainTrees} → Separated parameter parts → PartsWalk numbers d k.Parameters false parts (read_parameters parts)
  parameters_walk (last_one h) = λ r. parameter_part h none r
  parameters_walk (next_one {tree = tree} {comma = comma} {rest = rest} h w others) = λ r.
      parameter_part h (more (leaf comma) rest) r
      ∙ leaf_part numbers d k.Parameters false (plain_uses k.Parameters refl (λ token. refl)) comma (other_word t.Select (t.Comma ∷ []) comma refl w) rest (read_parameter tree r)
      ∙ parameters_walk others (read_expression (leaf comma) (read_parameter tree r))

  list_walks :
      {tree : PlainTree} → Listed tree → (open_ close : PlainToken) → is_name open_ ≡ false → is_name close ≡ false
      → PartsWalk numbers d k.FunctionDeclarator false (more (leaf open_) (more tree (more (leaf close) none))) (read_suffix (more (leaf open_) (more tree (more (leaf close) none))))
  list_walks (by_list parts others) open_ close e f r =
      sign_part numbers d k.FunctionDeclarator false open_ e refl (more (node k.Parameters parts) (more (leaf close) none)) r
      ∙ node_part numbers d k.FunctionDeclarator false k.Parameters parts (read_parameters parts) (parameters_walk others) (more (leaf close) none) (read_expression (leaf open_) r)
      ∙ sign_part numbers d k.FunctionDeclarator false close f refl none (read_parameters parts (read_expression (leaf open_) r))

  parentheses_walk :
      {rest : PlainTrees} → Row (word (t.OpenParenthesis ∷ []) ∷ optional parameters ∷ word (t.CloseParenthesis ∷ []) ∷ []) rest
      → PartsWalk numbers d k.FunctionDeclarator false rest (read_suffix rest)
  parentheses_walk (a_word {token = open_} w (left_out (a_word {token = close} v at_end))) = λ r.
      sign_part numbers d k.FunctionDeclarator false open_ (other_word t.Name (t.OpenParenthesis ∷ []) open_ refl w) refl (more absent (more (leaf close) none)) r
      ∙ sign_part numbers d k.FunctionDeclarator false close (other_word t.Name (t.CloseParenthesis ∷ []) close refl v) refl none (read_expression (leaf open_) r)
  parentheses_walk (a_word {token = open_} w (given h (a_word {token = close} v at_end))) =
      list_walks (parameters_are h) open_ close (other_word t.Name (t.OpenParenthesis ∷ []) open_ refl w) (other_word t.Name (t.CloseParenthesis ∷ []) close refl v)

  -- ---- functions

  function_name :
      scope_of d ≡ file_scope → (inner : PlainTrees)
      → Row (word (t.Name ∷ []) ∷ word (t.OpenParenthesis ∷ []) ∷ optional parameters ∷ word (t.CloseParenthesis ∷ []) ∷ []) inner
      → PartsWalk numbers d k.FunctionDeclarator false inner (read_declarator read_suffix at_file inner)
  function_name here _ (a_word {token = token} {rest = rest} w row_) =
      name_walks numbers d at_file here read_suffix function_behind k.FunctionDeclarator refl token w rest (parentheses_walk row_)

  pub function_walks :
      scope_of d ≡ file_scope → (parts : PlainTrees) → Row (row k.FunctionDeclarator) parts
      → PartsWalk numbers d k.FunctionDeclarator false parts (read_declarator read_suffix at_file parts)
  function_walks here parts row_ =
      stars_walk numbers d at_file here read_suffix function_behind k.FunctionDeclarator (λ token e. refl) row_ (function_name here)

-- a function that is declared, whose parameters are left with its declarator
pub prototype_walks :
    (numbers : List ℕ) (parts : PlainTrees) → Row (row k.FunctionDeclarator) parts
    → NodeWalks numbers k.Declaration k.FunctionDeclarator parts (read_declarator read_closed_suffix at_file parts)
prototype_walks numbers parts row_ r =
    ap (leave (image numbers r)) (function_walks numbers k.Declaration refl parts row_ r) ∙ ap (image numbers) (left_behind parts r)
