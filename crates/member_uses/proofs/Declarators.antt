-- Declarators of objects: a name, and a size that uses nothing.
use Rattle.std.proofs.Common.{◌≡◌, ℕ, true, false, List, [], ◌∷◌, ◌++◌, refl, sym, ap, subst, ◌∙◌, append-nil}
use Rattle.std.specs.Prelude.{Option, Some, None, nat_le, if◌then◌else◌}
use Rattle.std.proofs.lemmas.Bool.{false≢true}
use Rattle.c_names.specs.Names.{is_identifier}
use Rattle.c_text.specs.Token.{PlainToken}
use Rattle.c_types.specs.Types.{PlainType, array_of}
use Rattle.c_tree.specs.declared.kinds.Kind.{Kind}
use Rattle.c_tree.specs.declared.kinds.Kind.TheVariants as k
use Rattle.c_tree.specs.declared.terminals.Terminal.{Terminal}
use Rattle.c_tree.specs.declared.terminals.Terminal.TheVariants as t
use Rattle.c_tree.specs.Terminals.{terminal, same}
use Rattle.c_tree.specs.Trees.{PlainTree, PlainTrees, leaf, node, none, more, absent}
use Rattle.c_tree.specs.Grammar.{Role, declarator, Slot, word, stars, bracketed_size, at_file_scope}
use Rattle.c_tree.proofs.TerminalCases.{one_of, same-true}
use Rattle.tree_derivations.specs.Derivations.{Derivation, single, made_of, Row, a_row, a_star, no_star, a_word, IsWord}
use Rattle.core_meaning.specs.declared.refusals.TypeKind.TheVariants.{Incomplete, BadConstant}
use Rattle.core_meaning.specs.Checking.{Checked, ◌>>=◌, give, unless_so}
use Rattle.core_meaning.specs.Entities.{Scope}
use Rattle.core_meaning.specs.Typing.{is_complete}
use Rattle.core_meaning.specs.Constancy.{is_small, most_elements, count_by_initialiser}
use Rattle.core_meaning.specs.Declarations.{name_in, behind_word, starred, count_of_size, is_left_out, count_or_one, count_without_size, element_count, object_type, judged_object}
use Rattle.bindings.specs.Bindings.{is_name}
use Rattle.bindings.proofs.Spellings.{Holds, AllHold, no_name, a_name}
use Rattle.bindings.proofs.Declarators.{step_behind, not_absent, SizeForm, unsized, sized, size_form, row_end}
use Rattle.entity_numbers.proofs.Uses as bound
use Rattle.operand_types.specs.Laws.{TypesAreKept}
use Rattle.expression_types.specs.Laws.{ExpressionsHaveTypes}
use Rattle.selections.specs.Laws.{HasNames}
use Rattle.selections.proofs.Judgings.{IsQuiet}
use Rattle.selections.proofs.Expressions.{Nothing}
use Rattle.cond_sizes.specs.Laws.{CountsNeedNoNames}
use Rattle.member_uses.specs.Uses.{names_in, names_among}
use Rattle.member_uses.proofs.Parts.{word_names, Part, quiet_then, then_give}
use Rattle.member_uses.proofs.Judged.{size_part}

-- a declarator's name, behind its stars, and what stands behind it
pub record NameForm (slots : List Slot) (parts : PlainTrees) : Type 0 where
  pub name : PlainToken
  pub rest : PlainTrees
  pub row : Row slots rest
  pub name_is : name_in parts ≡ Some name
  pub names : names_among parts ≡ name ∷ names_among rest
  pub behind : (w : Terminal) → same w t.Star ≡ false → same w t.Name ≡ false → behind_word w parts ≡ behind_word w rest
  pub holds : AllHold parts → AllHold rest
  pub spelt : AllHold parts → is_identifier name.text ≡ true

name_here : (slots : List Slot) (token : PlainToken) (rest : PlainTrees) → IsWord (t.Name ∷ []) token → Row slots rest → NameForm slots (more (leaf token) rest)
name_here slots token rest w row =
    let is : is_name token ≡ true = a_name token w in
    let kind : terminal token ≡ t.Name = sym (same-true t.Name (terminal token) is) in
    record {
      name = token;
      rest = rest;
      row = row;
      name_is = ap (λ b. if b then Some token else (if same t.OpenBracket (terminal token) then None else name_in rest)) is;
      names = ap (λ b. (if b then token ∷ [] else []) ++ names_among rest) is;
      behind = λ x star name. step_behind x token rest (subst (λ y. same x y ≡ false) (sym kind) name);
      holds = λ h. h.1;
      spelt = λ h. h.0.identifier kind;
    }

name_behind : (slots : List Slot) (token : PlainToken) (rest : PlainTrees) → IsWord (t.Star ∷ []) token → NameForm slots rest → NameForm slots (more (leaf token) rest)
name_behind slots token rest w others =
    let kind : terminal token ≡ t.Star = one_of (λ x. x ≡ t.Star) (t.Star ∷ []) (terminal token) w (refl, tt) in
    record {
      name = others.name;
      rest = others.rest;
      row = others.row;
      name_is = ap (λ k. if same t.Name k then Some token else (if same t.OpenBracket k then None else name_in rest)) kind ∙ others.name_is;
      names = word_names token rest (no_name (t.Star ∷ []) token refl w) ∙ others.names;
      behind = λ x star name. step_behind x token rest (subst (λ y. same x y ≡ false) (sym kind) star) ∙ others.behind x star name;
      holds = λ h. others.holds h.1;
      spelt = λ h. others.spelt h.1;
    }

pub name_form : {slots : List Slot} {parts : PlainTrees} → Row (stars ∷ word (t.Name ∷ []) ∷ slots) parts → NameForm slots parts
name_form (a_star {token = token} {rest = rest} w row) = name_behind _ token rest w (name_form row)
name_form (no_star (a_word {slots = slots} {token = token} {rest = rest} w row)) = name_here slots token rest w row

-- ---- sizes

element_quiet : (element : PlainType) (name : PlainToken) (value : Option PlainTree) → IsQuiet (count_without_size element name value)
element_quiet element name None = record { all = tt }
element_quiet element name (Some tree) = bound.unless_then Nothing (nat_le (count_or_one (count_by_initialiser element tree)) most_elements) BadConstant name _ (λ x. record { all = tt })

pub object_quiet : (scope : Scope) (ty : PlainType) (name : PlainToken) → IsQuiet (judged_object scope ty name)
object_quiet scope ty name = bound.unless_then Nothing (is_complete scope.structs ty) Incomplete name _ (λ x. bound.unless_binds Nothing (is_small scope.structs ty) BadConstant name)

bracket_first : (bracket : PlainToken) (size : PlainTree) → terminal bracket ≡ t.OpenBracket → (close : PlainToken) → behind_word t.OpenBracket (more (leaf bracket) (more size (more (leaf close) none))) ≡ Some size
bracket_first bracket size e close = ap (λ x. if same t.OpenBracket x then Some size else behind_word t.OpenBracket (more size (more (leaf close) none))) e

sized_names : (bracket close : PlainToken) (size : PlainTree) → terminal bracket ≡ t.OpenBracket → IsWord (t.CloseBracket ∷ []) close
    → names_among (more (leaf bracket) (more size (more (leaf close) none))) ≡ names_in size
sized_names bracket close size b c =
    word_names bracket (more size (more (leaf close) none)) (ap (same t.Name) b)
    ∙ (ap (λ l. names_in size ++ l) (word_names close none (no_name (t.CloseBracket ∷ []) close refl c)) ∙ append-nil (names_in size))

module _ (by : ℕ → ℕ) (kept : TypesAreKept) (typed : ExpressionsHaveTypes) (sizes : CountsNeedNoNames) where
  -- what stands in brackets, where a size that is left out is judged quietly
  pub brackets_part : (scope : Scope) → HasNames scope → {rest : PlainTrees} → SizeForm rest → AllHold rest → (name : PlainToken) (otherwise : Checked ℕ) → IsQuiet otherwise
      → Part by (λ x u. u ≡ []) (if is_left_out (behind_word t.OpenBracket rest) then otherwise else count_of_size scope name (behind_word t.OpenBracket rest)) (names_among rest)
  brackets_part scope names (unsized bracket close b c) holds name otherwise quiet =
      subst (λ ns. Part by (λ x u. u ≡ []) (if is_left_out (behind_word t.OpenBracket (more (leaf bracket) (more absent (more (leaf close) none)))) then otherwise else count_of_size scope name (behind_word t.OpenBracket (more (leaf bracket) (more absent (more (leaf close) none))))) ns) (sym (sized_names bracket close absent b c))
      (subst (λ o. Part by (λ x u. u ≡ []) (if is_left_out o then otherwise else count_of_size scope name o) []) (sym (bracket_first bracket absent b close)) (nothing otherwise quiet))
    where
      nothing : (m : Checked ℕ) → IsQuiet m → Part by (λ x u. u ≡ []) m []
      nothing (Rattle.core_meaning.specs.Checking.fine x []) q = (tt, refl)
      nothing (Rattle.core_meaning.specs.Checking.fine x (j ∷ js)) q = absurd q.all.0
      nothing (Rattle.core_meaning.specs.Checking.refused kind token) q = tt
      nothing Rattle.core_meaning.specs.Checking.broken q = tt
  brackets_part scope names (sized bracket close size b c d) holds name otherwise quiet =
      subst (λ ns. Part by (λ x u. u ≡ []) (if is_left_out (behind_word t.OpenBracket (more (leaf bracket) (more size (more (leaf close) none)))) then otherwise else count_of_size scope name (behind_word t.OpenBracket (more (leaf bracket) (more size (more (leaf close) none))))) ns) (sym (sized_names bracket close size b c))
      (subst (λ o. Part by (λ x u. u ≡ []) (if is_left_out o then otherwise else count_of_size scope name o) (names_in size)) (sym (bracket_first bracket size b close))
      (subst (λ x. Part by (λ x u. u ≡ []) (if x then otherwise else count_of_size scope name (Some size)) (names_in size)) (sym (not_absent d))
      (size_part by kept typed sizes scope names d holds.1.0 name)))

  -- a declarator of an object
  pub record ObjectForm (kind : Kind) (parts : PlainTrees) : Type 0 where
    pub slots : List Slot
    pub form : NameForm slots parts
    pub typed_so : (scope : Scope) → HasNames scope → (ty : PlainType) (name : PlainToken) (value : Option PlainTree) → AllHold form.rest
        → Part by (λ x u. u ≡ []) (object_type scope ty kind parts name value) (names_among form.rest)

  plain_part : (parts : PlainTrees) (f : NameForm [] parts) (scope : Scope) (ty : PlainType) (name : PlainToken) (value : Option PlainTree)
      → Part by (λ x u. u ≡ []) (object_type scope ty k.Declarator parts name value) (names_among f.rest)
  plain_part parts f scope ty name value =
      subst (λ r. Part by (λ x u. u ≡ []) (object_type scope ty k.Declarator parts name value) (names_among r)) (sym (row_end f.row)) (tt, refl)

  array_part : (parts : PlainTrees) (f : NameForm bracketed_size parts) (scope : Scope) → HasNames scope → (ty : PlainType) (name : PlainToken) (value : Option PlainTree) → AllHold f.rest
      → Part by (λ x u. u ≡ []) (object_type scope ty k.ArrayDeclarator parts name value) (names_among f.rest)
  array_part parts f scope names ty name value holds =
      quiet_then by (λ x u. u ≡ []) (names_among f.rest) (unless_so (is_complete scope.structs (starred parts ty)) Incomplete name)
      (λ complete. element_count scope (starred parts ty) name (behind_word t.OpenBracket parts) value >>= (λ count. give (array_of (starred parts ty) count)))
      (bound.unless_binds Nothing (is_complete scope.structs (starred parts ty)) Incomplete name)
      (λ complete. then_give by (λ x u. u ≡ []) (λ x u. u ≡ []) (names_among f.rest) (element_count scope (starred parts ty) name (behind_word t.OpenBracket parts) value) (λ count. array_of (starred parts ty) count)
      (subst (λ o. Part by (λ x u. u ≡ []) (element_count scope (starred parts ty) name o value) (names_among f.rest)) (sym (f.behind t.OpenBracket refl refl))
      (brackets_part scope names (size_form f.row) holds name (count_without_size (starred parts ty) name value) (element_quiet (starred parts ty) name value)))
      (λ x u e. e))

  pub record ObjectTree (tree : PlainTree) : Type 0 where
    pub kind : Kind
    pub parts : PlainTrees
    pub is : tree ≡ node kind parts
    pub object : ObjectForm kind parts
    pub holds : Holds tree → AllHold parts

  pub declarator_form : {parts : PlainTrees} → Row (stars ∷ word (t.Name ∷ []) ∷ []) parts → ObjectForm k.Declarator parts
  declarator_form {parts = parts} row =
      let f = name_form row in record { slots = []; form = f; typed_so = λ scope names ty name value holds. plain_part parts f scope ty name value }

  pub array_form : {parts : PlainTrees} → Row (stars ∷ word (t.Name ∷ []) ∷ bracketed_size) parts → ObjectForm k.ArrayDeclarator parts
  array_form {parts = parts} row =
      let f = name_form row in record { slots = bracketed_size; form = f; typed_so = λ scope names ty name value holds. array_part parts f scope names ty name value holds }

  -- where no function is declared
  pub object_tree : {role : Role} {tree : PlainTree} → Derivation (declarator role) tree → at_file_scope role ≡ false → ObjectTree tree
  object_tree (single is) inner = absurd cc
  object_tree (made_of k.Declarator {parts = parts} b a (a_row row)) inner = record { kind = k.Declarator; parts = parts; is = refl; holds = λ h. h; object = declarator_form row }
  object_tree (made_of k.ArrayDeclarator {parts = parts} b a (a_row row)) inner = record { kind = k.ArrayDeclarator; parts = parts; is = refl; holds = λ h. h; object = array_form row }
  object_tree (made_of k.FunctionDeclarator b a s) inner = absurd (false≢true (sym inner ∙ b))
  object_tree (made_of _ b a s) inner = absurd cc
