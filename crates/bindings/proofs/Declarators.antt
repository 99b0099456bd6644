-- Declarators of objects are read as they are judged.
use Rattle.std.proofs.Common.{◌≡◌, ℕ, ◌+◌, Bool, true, false, List, [], ◌∷◌, refl, sym, ap, subst, ◌∙◌, zero, suc}
use Rattle.std.specs.Prelude.{Option, Some, None, nat_le, if◌then◌else◌}
use Rattle.c_text.specs.Token.{PlainToken}
use Rattle.c_types.specs.Types.{PlainType, array_of}
use Rattle.c_tree.specs.declared.kinds.Kind.{Kind}
use Rattle.c_tree.specs.declared.kinds.Kind.TheVariants as k
use Rattle.c_tree.specs.declared.terminals.Terminal.{Terminal}
use Rattle.c_tree.specs.declared.terminals.Terminal.TheVariants as t
use Rattle.c_tree.specs.Terminals.{terminal, same}
use Rattle.c_tree.specs.Trees.{PlainTree, PlainTrees, leaf, node, none, more, absent}
use Rattle.c_tree.specs.Grammar.{expression, Slot, word, stars, bracketed_size, is_absent}
use Rattle.c_tree.specs.Heights.{count_stars}
use Rattle.c_tree.proofs.TerminalCases.{one_of, same-true}
use Rattle.core_meaning.specs.Checking.{Entity, Checked, ◌>>=◌, give, unless_so}
use Rattle.core_meaning.specs.Entities.{Table, Scope}
use Rattle.core_meaning.specs.Typing.{is_complete}
use Rattle.core_meaning.specs.Constancy.{is_small, most_elements, count_by_initialiser}
use Rattle.core_meaning.specs.Declarations.{name_in, behind_word, pointers, starred, count_of_size, is_left_out, count_or_one, count_without_size, element_count, object_type, judged_object}
use Rattle.core_meaning.specs.declared.refusals.TypeKind.TheVariants.{Incomplete, BadConstant}
use Rattle.tree_derivations.specs.Derivations.{Derivation, single, made_of, Row, at_end, a_word, a_star, no_star, left_out, given, IsWord}
use Rattle.bindings.specs.Visible.{Reading, passed, occurs, bound_to, leave, used}
use Rattle.bindings.specs.Bindings.{is_name, Where, declaring, declared, read_expression, read_expressions, read_declarator, read_suffix}
use Rattle.bindings.specs.Judged.{Identified}
use Rattle.bindings.proofs.Follows.{quietly_before, Yields, yields, yields_both}
use Rattle.bindings.proofs.Spellings.{Told, AllHold, no_name, a_name}
use Rattle.bindings.proofs.Types.{Made}
use Rattle.bindings.proofs.Operators.{Anything, yields_unless}
use Rattle.bindings.proofs.Related.{Room, numbering}
use Rattle.bindings.proofs.Expressions.{skip, Rel, After, Goal, then_quietly, quietly}
use Rattle.bindings.proofs.ExpressionTrees.{expression_read}
use Rattle.bindings.proofs.Initialisers.{count_read}

-- ---- expressions change nothing that is visible

leaf_blocks : (b : Bool) (token : PlainToken) (r : Reading) → (if b then used token r else passed r).blocks ≡ r.blocks
leaf_blocks true token r = refl
leaf_blocks false token r = refl

mutual
  pub expression_blocks : (tree : PlainTree) (r : Reading) → (read_expression tree r).blocks ≡ r.blocks
  expression_blocks (leaf token) r = leaf_blocks (is_name token) token r
  expression_blocks (node k.Selection (more whole (more (leaf sign) (more (leaf name) none)))) r = expression_blocks whole r
  expression_blocks (node kind parts) r = expressions_blocks parts r

  pub expressions_blocks : (trees : PlainTrees) (r : Reading) → (read_expressions trees r).blocks ≡ r.blocks
  expressions_blocks none r = refl
  expressions_blocks (more tree rest) r = expressions_blocks rest (read_expression tree r) ∙ expression_blocks tree r

-- ---- the form of a declarator: stars, a name, and what stands behind it

pub record ReadsName (suffix : PlainTrees → Reading → Reading) (place : Where) (parts : PlainTrees) (name : PlainToken) (rest : PlainTrees) (P : Reading → Type 0) (r : Reading) : Type 0 where
  pub s : Reading
  pub still : P s
  pub is : read_declarator suffix place parts r ≡ declared place name (declaring place name s) (suffix rest (occurs name (bound_to (declaring place name s)) s))

pub record Named (slots : List Slot) (parts : PlainTrees) : Type 1 where
  pub name : PlainToken
  pub rest : PlainTrees
  pub word : terminal name ≡ t.Name
  pub row : Row slots rest
  pub name_is : name_in parts ≡ Some name
  pub behind : (w : Terminal) → same w t.Star ≡ false → same w t.Name ≡ false → behind_word w parts ≡ behind_word w rest
  pub holds : AllHold parts → Told name × AllHold rest
  pub reads : (suffix : PlainTrees → Reading → Reading) (place : Where) (r : Reading) (P : Reading → Type 0) → ((s : Reading) → P s → P (passed s)) → P r → ReadsName suffix place parts name rest P r

pub step_behind : (w : Terminal) (token : PlainToken) (rest : PlainTrees) → same w (terminal token) ≡ false → behind_word w (more (leaf token) rest) ≡ behind_word w rest
step_behind w token none e = refl
step_behind w token (more next rest) e = ap (λ b. if b then Some next else behind_word w (more next rest)) e

pub named_here : (slots : List Slot) (token : PlainToken) (rest : PlainTrees) → IsWord (t.Name ∷ []) token → Row slots rest → Named slots (more (leaf token) rest)
named_here slots token rest w row =
    let is : is_name token ≡ true = a_name token w in
    let kind : terminal token ≡ t.Name = sym (same-true t.Name (terminal token) is) in
    record {
      name = token;
      rest = rest;
      word = kind;
      row = row;
      name_is = ap (λ b. if b then Some token else (if same t.OpenBracket (terminal token) then None else name_in rest)) is;
      behind = λ x star name. step_behind x token rest (subst (λ y. same x y ≡ false) (sym kind) name);
      holds = λ h. h;
      reads = λ suffix place r P step p. record {
        s = r;
        still = p;
        is = ap (λ b. if b then declared place token (declaring place token r) (suffix rest (occurs token (bound_to (declaring place token r)) r))
            else if same t.OpenBracket (terminal token) then read_expressions rest (passed r) else read_declarator suffix place rest (passed r)) is;
      };
    }

pub named_star : (slots : List Slot) (token : PlainToken) (rest : PlainTrees) → IsWord (t.Star ∷ []) token → Named slots rest → Named slots (more (leaf token) rest)
named_star slots token rest w others =
    let kind : terminal token ≡ t.Star = one_of (λ x. x ≡ t.Star) (t.Star ∷ []) (terminal token) w (refl, tt) in
    let no_name_ : is_name token ≡ false = ap (same t.Name) kind in
    let no_bracket : same t.OpenBracket (terminal token) ≡ false = ap (same t.OpenBracket) kind in
    record {
      name = others.name;
      rest = others.rest;
      word = others.word;
      row = others.row;
      name_is = ap (λ b. if b then Some token else (if same t.OpenBracket (terminal token) then None else name_in rest)) no_name_ ∙ ap (λ b. if b then None else name_in rest) no_bracket ∙ others.name_is;
      behind = λ x star name. step_behind x token rest (subst (λ y. same x y ≡ false) (sym kind) star) ∙ others.behind x star name;
      holds = λ h. others.holds h.1;
      reads = λ suffix place r P step p. let read = others.reads suffix place (passed r) P step (step r p) in record {
        s = read.s;
        still = read.still;
        is = ap (λ b. if b then declared place token (declaring place token r) (suffix rest (occurs token (bound_to (declaring place token r)) r))
            else if same t.OpenBracket (terminal token) then read_expressions rest (passed r) else read_declarator suffix place rest (passed r)) no_name_
            ∙ ap (λ b. if b then read_expressions rest (passed r) else read_declarator suffix place rest (passed r)) no_bracket ∙ read.is;
      };
    }

pub named_form : {slots : List Slot} {parts : PlainTrees} → Row (stars ∷ word (t.Name ∷ []) ∷ slots) parts → Named slots parts
named_form (a_star {token = token} {rest = rest} w row) = named_star _ token rest w (named_form row)
named_form (no_star (a_word {slots = slots} {token = token} {rest = rest} w row)) = named_here slots token rest w row

-- ---- sizes

pub not_absent : {n : ℕ} {tree : PlainTree} → Derivation (expression n) tree → is_absent tree ≡ false
not_absent (single is) = refl
not_absent (made_of k.Absent b a s) = absurd cc
not_absent (made_of _ b a s) = refl

pub suffix_of : {n : ℕ} {tree : PlainTree} → Derivation (expression n) tree → (rest : PlainTrees) (r : Reading) → read_suffix (more tree rest) r ≡ read_suffix rest (read_expression tree r)
suffix_of (single is) rest r = refl
suffix_of (made_of k.Parameters b a s) rest r = absurd cc
suffix_of (made_of _ b a s) rest r = refl

-- the size in brackets, if there is one
pub data SizeForm : PlainTrees → Type 0 where
  unsized : (bracket close : PlainToken) → terminal bracket ≡ t.OpenBracket → IsWord (t.CloseBracket ∷ []) close → SizeForm (more (leaf bracket) (more absent (more (leaf close) none)))
  sized :
      (bracket close : PlainToken) (size : PlainTree) → terminal bracket ≡ t.OpenBracket → IsWord (t.CloseBracket ∷ []) close → Derivation (expression 2) size
      → SizeForm (more (leaf bracket) (more size (more (leaf close) none)))

pub size_form : {rest : PlainTrees} → Row bracketed_size rest → SizeForm rest
size_form (a_word {token = bracket} w (left_out (a_word {token = close} v at_end))) = unsized bracket close (one_of (λ x. x ≡ t.OpenBracket) (t.OpenBracket ∷ []) (terminal bracket) w (refl, tt)) v
size_form (a_word {token = bracket} w (given {tree = size} d (a_word {token = close} v at_end))) = sized bracket close size (one_of (λ x. x ≡ t.OpenBracket) (t.OpenBracket ∷ []) (terminal bracket) w (refl, tt)) v d

bracket_no_name : (bracket : PlainToken) → terminal bracket ≡ t.OpenBracket → is_name bracket ≡ false
bracket_no_name bracket e = ap (same t.Name) e

behind_bracket : (bracket : PlainToken) (size : PlainTree) (rest : PlainTrees) → terminal bracket ≡ t.OpenBracket → behind_word t.OpenBracket (more (leaf bracket) (more size rest)) ≡ Some size
behind_bracket bracket size rest e = ap (λ x. if same t.OpenBracket x then Some size else behind_word t.OpenBracket (more size rest)) e

pub made_pointers : (tags : Table ℕ) (n : ℕ) (ty : PlainType) → Made tags ty → Made tags (pointers n ty)
made_pointers tags zero ty h = h
made_pointers tags (suc n) ty h = made_pointers tags n ty h

module _ (at : ℕ → Entity) (taken : Room) (scope : Scope) where
  abbrev pub Here : PlainType → Type 0
  Here ty = Made scope.tags ty

  -- what stands in brackets, where a size that is left out is judged quietly
  pub size_read :
      {rest : PlainTrees} → SizeForm rest → AllHold rest → (name : PlainToken) (otherwise : Checked ℕ) → Yields Anything otherwise → (r : Reading) (h : List Identified) → Rel at taken scope r h
      → Goal at taken scope Anything h r.found (leave r (read_suffix rest r))
      (if is_left_out (behind_word t.OpenBracket rest) then otherwise else count_of_size scope name (behind_word t.OpenBracket rest))
  size_read (unsized bracket close b c) holds name otherwise quiet r h rel =
      subst (λ x. Goal at taken scope Anything h r.found (leave r (read_suffix (more (leaf bracket) (more absent (more (leaf close) none))) r)) (if is_left_out x then otherwise else count_of_size scope name x)) (sym (behind_bracket bracket absent (more (leaf close) none) b))
      (skip bracket r (bracket_no_name bracket b) (λ s. Goal at taken scope Anything h r.found (leave r (read_suffix (more absent (more (leaf close) none)) s)) otherwise)
      (skip close (passed r) (no_name (t.CloseBracket ∷ []) close refl c) (λ s. Goal at taken scope Anything h r.found (leave r s) otherwise)
      (quietly at taken scope Anything h r otherwise rel quiet)))
  size_read (sized bracket close size b c d) holds name otherwise quiet r h rel =
      let judged_ : Checked ℕ = if is_left_out (behind_word t.OpenBracket (more (leaf bracket) (more size (more (leaf close) none)))) then otherwise else count_of_size scope name (behind_word t.OpenBracket (more (leaf bracket) (more size (more (leaf close) none)))) in
      let last : Reading = read_expression size (passed r) in
      skip bracket r (bracket_no_name bracket b) (λ s. Goal at taken scope Anything h r.found (leave r (read_suffix (more size (more (leaf close) none)) s)) judged_)
      (subst (λ s. Goal at taken scope Anything h r.found (leave r s) judged_) (sym (suffix_of d (more (leaf close) none) (passed r)))
      (skip close last (no_name (t.CloseBracket ∷ []) close refl c) (λ s. Goal at taken scope Anything h r.found (leave r s) judged_)
      (subst (λ x. Goal at taken scope Anything h r.found (leave r (passed last)) (if is_left_out x then otherwise else count_of_size scope name x)) (sym (behind_bracket bracket size (more (leaf close) none) b))
      (subst (λ x. Goal at taken scope Anything h r.found (leave r (passed last)) (if x then otherwise else count_of_size scope name (Some size))) (sym (not_absent d))
      (subst (λ x. Goal at taken scope Anything h r.found (record last { next = last.next + 1; blocks = x }) (count_of_size scope name (Some size))) (expression_blocks size (passed r))
      (count_read at taken scope size name (expression_read at taken scope d holds.1.0) (passed r) h rel))))))

-- ---- objects

-- a declarator of an object
pub record ObjectForm (kind : Kind) (parts : PlainTrees) : Type 1 where
  pub slots : List Slot
  pub named : Named slots parts
  -- its type is read as it is judged
  pub sizes :
      (at : ℕ → Entity) (taken : Room) (scope : Scope) (ty : PlainType) (name : PlainToken) (initialiser : Option PlainTree) → AllHold named.rest → Made scope.tags ty
      → (r : Reading) (h : List Identified) → Rel at taken scope r h
      → Goal at taken scope (Here at taken scope) h r.found (leave r (read_suffix named.rest r)) (object_type scope ty kind parts name initialiser)

pub row_end : {rest : PlainTrees} → Row [] rest → rest ≡ none
row_end at_end = refl

pub element_quiet : (element : PlainType) (name : PlainToken) (initialiser : Option PlainTree) → Yields Anything (count_without_size element name initialiser)
element_quiet element name None = tt
element_quiet element name (Some initialiser) =
    yields_both (λ x. nat_le (count_or_one (count_by_initialiser element initialiser)) most_elements ≡ true) Anything
    (unless_so (nat_le (count_or_one (count_by_initialiser element initialiser)) most_elements) BadConstant name) (λ few. give (count_or_one (count_by_initialiser element initialiser)))
    (yields_unless (nat_le (count_or_one (count_by_initialiser element initialiser)) most_elements) BadConstant name tt)
    (λ x few. yields Anything (count_or_one (count_by_initialiser element initialiser)) tt)

pub object_quiet : (scope : Scope) (ty : PlainType) (name : PlainToken) → Yields Anything (judged_object scope ty name)
object_quiet scope ty name =
    yields_both (λ x. is_complete scope.structs ty ≡ true) Anything (unless_so (is_complete scope.structs ty) Incomplete name) (λ complete. unless_so (is_small scope.structs ty) BadConstant name)
    (yields_unless (is_complete scope.structs ty) Incomplete name tt)
    (λ x e. Rattle.bindings.proofs.Follows.yields_as (λ y. is_small scope.structs ty ≡ true) Anything (unless_so (is_small scope.structs ty) BadConstant name) (yields_unless (is_small scope.structs ty) BadConstant name tt) (λ y f. tt))

module _ (at : ℕ → Entity) (taken : Room) (scope : Scope) where
  pub array_read :
      (parts : PlainTrees) (n : Named bracketed_size parts) → AllHold n.rest → (ty : PlainType) (name : PlainToken) (initialiser : Option PlainTree) → Made scope.tags ty
      → (r : Reading) (h : List Identified) → Rel at taken scope r h
      → Goal at taken scope (Here at taken scope) h r.found (leave r (read_suffix n.rest r)) (object_type scope ty k.ArrayDeclarator parts name initialiser)
  array_read parts n holds ty name initialiser made r h rel =
      quietly_before (numbering at) h r.found (leave r (read_suffix n.rest r)).found (λ x. is_complete scope.structs (starred parts ty) ≡ true) (After at taken scope (Here at taken scope) (leave r (read_suffix n.rest r)))
      (unless_so (is_complete scope.structs (starred parts ty)) Incomplete name)
      (λ complete. element_count scope (starred parts ty) name (behind_word t.OpenBracket parts) initialiser >>= (λ count. give (array_of (starred parts ty) count)))
      (yields_unless (is_complete scope.structs (starred parts ty)) Incomplete name tt)
      (λ x complete. then_quietly at taken scope Anything (Here at taken scope) h r.found (leave r (read_suffix n.rest r))
      (element_count scope (starred parts ty) name (behind_word t.OpenBracket parts) initialiser) (λ count. give (array_of (starred parts ty) count))
      (subst (λ x. Goal at taken scope Anything h r.found (leave r (read_suffix n.rest r)) (element_count scope (starred parts ty) name x initialiser)) (sym (n.behind t.OpenBracket refl refl))
      (size_read at taken scope (size_form n.row) holds name (count_without_size (starred parts ty) name initialiser) (element_quiet (starred parts ty) name initialiser) r h rel))
      (λ count any. yields (Here at taken scope) (array_of (starred parts ty) count) (made_pointers scope.tags (count_stars parts) ty made)))

  pub plain_read :
      (parts : PlainTrees) (n : Named [] parts) → (ty : PlainType) (name : PlainToken) (initialiser : Option PlainTree) → Made scope.tags ty
      → (r : Reading) (h : List Identified) → Rel at taken scope r h
      → Goal at taken scope (Here at taken scope) h r.found (leave r (read_suffix n.rest r)) (object_type scope ty k.Declarator parts name initialiser)
  plain_read parts n ty name initialiser made r h rel =
      subst (λ x. Goal at taken scope (Here at taken scope) h r.found (leave r (read_suffix x r)) (object_type scope ty k.Declarator parts name initialiser)) (sym (row_end n.row))
      (quietly at taken scope (Here at taken scope) h r (give (starred parts ty)) rel (yields (Here at taken scope) (starred parts ty) (made_pointers scope.tags (count_stars parts) ty made)))

pub plain_form : (parts : PlainTrees) → Named [] parts → ObjectForm k.Declarator parts
plain_form parts n = record { slots = []; named = n; sizes = λ at taken scope ty name initialiser holds made r h rel. plain_read at taken scope parts n ty name initialiser made r h rel }

pub array_form : (parts : PlainTrees) → Named bracketed_size parts → ObjectForm k.ArrayDeclarator parts
array_form parts n = record { slots = bracketed_size; named = n; sizes = λ at taken scope ty name initialiser holds made r h rel. array_read at taken scope parts n holds ty name initialiser made r h rel }
