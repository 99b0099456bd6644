-- Parameters use no members.
use Rattle.std.proofs.Common.{◌≡◌, ℕ, Bool, true, false, List, [], ◌∷◌, ◌++◌, refl, sym, ap, ap₂, subst, ◌∙◌, length, append-nil}
use Rattle.std.specs.Prelude.{Option, Some, None, if◌then◌else◌}
use Rattle.std.proofs.lemmas.Bool.{false≢true, and_parts}
use Rattle.c_text.specs.Token.{PlainToken}
use Rattle.c_types.specs.Types.{PlainType, pointer_to}
use Rattle.c_tree.specs.declared.kinds.Kind.{Kind}
use Rattle.c_tree.specs.declared.kinds.Kind.TheVariants as k
use Rattle.c_tree.specs.declared.terminals.Terminal.{Terminal}
use Rattle.c_tree.specs.declared.terminals.Terminal.TheVariants as t
use Rattle.c_tree.specs.Terminals.{terminal, same}
use Rattle.c_tree.specs.Trees.{PlainTree, PlainTrees, leaf, node, none, more, absent}
use Rattle.c_tree.specs.Grammar.{Slot, word, perhaps, stars, optional, bracketed_size, specifiers, parameter, parameters, abstract_declarator, is_absent, is_lone_void, are_words}
use Rattle.c_tree.proofs.TerminalCases.{one_of, same-true}
use Rattle.tree_derivations.specs.Derivations.{Derivation, single, made_of, Row, a_row, a_star, no_star, a_word, perhaps_there, not_there, a_part, left_out, given, at_end, Separated, last_one, next_one, with_commas, IsWord}
use Rattle.core_meaning.specs.declared.refusals.TypeKind.TheVariants.{Redeclared, Incomplete, BadConstant}
use Rattle.core_meaning.specs.Checking.{Checked, ◌>>=◌, give, unless_so}
use Rattle.core_meaning.specs.Entities.{Scope}
use Rattle.core_meaning.specs.Typing.{is_complete}
use Rattle.core_meaning.specs.Expressions.{first_token_in}
use Rattle.core_meaning.specs.Constancy.{is_small}
use Rattle.core_meaning.specs.Declarations.{name_in, behind_word, based, starred, size_of_parameter, parameter_type, token_of, Parameter, is_new_parameter, parameter_entity, declares_name, may_be_parameter, judged_parameter, declared_parameter, one_parameter, with_block, with_parameter, parameters_from, parameters_in, parameters_of}
use Rattle.core_meaning.specs.UnitNames.{Storage, may_be_function, new_function}
use Rattle.bindings.specs.Bindings.{is_name}
use Rattle.bindings.proofs.Spellings.{Holds, AllHold, no_name, a_name}
use Rattle.bindings.proofs.Declarators.{step_behind, size_form, row_end}
use Rattle.entity_numbers.proofs.Uses as bound
use Rattle.operand_types.specs.Laws.{TypesAreKept}
use Rattle.expression_types.specs.Laws.{ExpressionsHaveTypes}
use Rattle.selections.specs.Laws.{HasNames}
use Rattle.selections.proofs.Judgings.{IsQuiet}
use Rattle.selections.proofs.Expressions.{Nothing}
use Rattle.cond_sizes.specs.Laws.{CountsNeedNoNames}
use Rattle.member_uses.specs.Uses.{names_in, names_among}
use Rattle.member_uses.proofs.Parts.{Part, names_of_node, word_names, quiet_then, none_then, then_quiet, then_give, part_as}
use Rattle.member_uses.proofs.Words.{Words, no_names}
use Rattle.member_uses.proofs.Declarators.{NameForm, brackets_part}
use Rattle.member_uses.proofs.Locals.{words_of, IsBase, based_part}

-- ---- a name that may be left out

abbrev names_of : Option PlainToken → List PlainToken
names_of None = []
names_of (Some name) = name ∷ []

record AbstractForm (slots : List Slot) (parts : PlainTrees) : Type 0 where
  found : Option PlainToken
  rest : PlainTrees
  row : Row slots rest
  name_is : name_in parts ≡ found
  names : names_among parts ≡ names_of found ++ names_among rest
  behind : (w : Terminal) → same w t.Star ≡ false → same w t.Name ≡ false → behind_word w parts ≡ behind_word w rest
  holds : AllHold parts → AllHold rest

named_here : (slots : List Slot) (token : PlainToken) (rest : PlainTrees) → IsWord (t.Name ∷ []) token → Row slots rest → AbstractForm slots (more (leaf token) rest)
named_here slots token rest w row =
    let is : is_name token ≡ true = a_name token w in
    let kind : terminal token ≡ t.Name = sym (same-true t.Name (terminal token) is) in
    record {
      found = Some token;
      rest = rest;
      row = row;
      name_is = ap (λ b. if b then Some token else (if same t.OpenBracket (terminal token) then None else name_in rest)) is;
      names = ap (λ b. (if b then token ∷ [] else []) ++ names_among rest) is;
      behind = λ x star name. step_behind x token rest (subst (λ y. same x y ≡ false) (sym kind) name);
      holds = λ h. h.1;
    }

star_before : (slots : List Slot) (token : PlainToken) (rest : PlainTrees) → IsWord (t.Star ∷ []) token → AbstractForm slots rest → AbstractForm slots (more (leaf token) rest)
star_before slots token rest w others =
    let kind : terminal token ≡ t.Star = one_of (λ x. x ≡ t.Star) (t.Star ∷ []) (terminal token) w (refl, tt) in
    record {
      found = others.found;
      rest = others.rest;
      row = others.row;
      name_is = ap (λ k. if same t.Name k then Some token else (if same t.OpenBracket k then None else name_in rest)) kind ∙ others.name_is;
      names = word_names token rest (no_name (t.Star ∷ []) token refl w) ∙ others.names;
      behind = λ x star name. step_behind x token rest (subst (λ y. same x y ≡ false) (sym kind) star) ∙ others.behind x star name;
      holds = λ h. others.holds h.1;
    }

abstract_form : {slots : List Slot} {parts : PlainTrees} → Row (stars ∷ perhaps (t.Name ∷ []) ∷ slots) parts → ((rest : PlainTrees) → Row slots rest → name_in rest ≡ None) → AbstractForm slots parts
abstract_form (a_star {token = token} {rest = rest} w row) free = star_before _ token rest w (abstract_form row free)
abstract_form (no_star (perhaps_there {token = token} {rest = rest} w row)) free = named_here _ token rest w row
abstract_form (no_star (not_there {parts = parts} row)) free =
    record { found = None; rest = parts; row = row; name_is = free parts row; names = refl; behind = λ w star name. refl; holds = λ h. h }

nothing_left : (rest : PlainTrees) → Row [] rest → name_in rest ≡ None
nothing_left rest row = ap name_in (row_end row)

bracket_first : (rest : PlainTrees) → Row bracketed_size rest → name_in rest ≡ None
bracket_first _ (a_word {token = bracket} {rest = rest} w row) =
    one_of (λ k. (if same t.Name k then Some bracket else (if same t.OpenBracket k then None else name_in rest)) ≡ None) (t.OpenBracket ∷ []) (terminal bracket) w (refl, tt)

-- the parameters of a declarator
abbrev pub parenthesized : List Slot
parenthesized = word (t.OpenParenthesis ∷ []) ∷ optional parameters ∷ word (t.CloseParenthesis ∷ []) ∷ []

-- ---- the lone `void`

absent_names : (tree : PlainTree) → is_absent tree ≡ true → names_in tree ≡ []
absent_names (leaf token) h = absurd (false≢true h)
absent_names (node k.Absent none) h = refl
absent_names (node k.Absent (more first rest)) h = absurd (false≢true h)
absent_names (node _ parts) h = absurd cc

lone_names : (parts : PlainTrees) → is_lone_void parts ≡ true → names_among parts ≡ []
lone_names (more (node kind (more (node inner words) (more second none))) none) h =
    let both = and_parts (are_words (t.Void ∷ []) words) (is_absent second) h in
    ap (λ l. l ++ []) (names_of_node kind (more (node inner words) (more second none))
    ∙ ap₂ (λ a b. a ++ (b ++ [])) (names_of_node inner words ∙ no_names (t.Void ∷ []) words both.0 refl) (absent_names second both.1))
lone_names _ h = absurd (false≢true h)

-- a parameter is none of the names of file scope
pub names_with : (scope : Scope) → HasNames scope → (slot : ℕ) (o : Option PlainToken) (ty : PlainType) → HasNames (with_parameter scope slot o ty)
names_with scope names slot None ty = names
names_with scope names slot (Some name) ty = names

module _ (by : ℕ → ℕ) (kept : TypesAreKept) (typed : ExpressionsHaveTypes) (sizes : CountsNeedNoNames) where
  -- a part that uses nothing
  abbrev pub Unused : {A : Type 0} → Checked A → List PlainToken → Type 0
  Unused m names = Part by (λ x u. u ≡ []) m names

  parameter_quiet : (defining : Bool) (scope : Scope) (ty : PlainType) (at : PlainToken) → IsQuiet (judged_parameter defining scope ty at)
  parameter_quiet defining scope ty at = bound.unless_then Nothing (may_be_parameter defining scope ty) Incomplete at _ (λ x. bound.unless_binds Nothing (is_small scope.structs ty) BadConstant at)

  entity_unused : (defining : Bool) (slot : ℕ) (o : Option PlainToken) → Unused (declares_name o (parameter_entity defining slot)) (names_of o)
  entity_unused defining slot None = (tt, refl)
  entity_unused true slot (Some name) = (tt, refl)
  entity_unused false slot (Some name) = (tt, refl)

  -- what is declared with this name, if it has one
  abbrev declared_as : Bool → Scope → List Parameter → PlainType → PlainToken → Kind → PlainTrees → Option PlainToken → Checked Parameter
  declared_as defining scope before ty first kind parts o =
      unless_so (is_new_parameter before o) Redeclared (token_of o first)
      >>= (λ new. declares_name o (parameter_entity defining (length before))
      >>= (λ bound. parameter_type scope ty kind parts (token_of o first)
      >>= (λ whole. judged_parameter defining scope whole (token_of o first) >>= (λ judged. give (record { name = o; ty = whole })))))

  declared_unused : (defining : Bool) (scope : Scope) (before : List Parameter) (ty : PlainType) (first : PlainToken) (kind : Kind) (parts : PlainTrees) {slots : List Slot} (f : AbstractForm slots parts)
      → ((name : PlainToken) → Unused (parameter_type scope ty kind parts name) (names_among f.rest))
      → Unused (declared_as defining scope before ty first kind parts (name_in parts)) (names_in (node kind parts))
  declared_unused defining scope before ty first kind parts f typed_so =
      let o : Option PlainToken = f.found in
      let at : PlainToken = token_of o first in
      let last : PlainType → Checked Parameter = λ whole. judged_parameter defining scope whole at >>= (λ judged. give (record { name = o; ty = whole })) in
      subst (λ x. Unused (declared_as defining scope before ty first kind parts x) (names_in (node kind parts))) (sym f.name_is)
      (subst (Unused (declared_as defining scope before ty first kind parts o)) (sym (names_of_node kind parts ∙ f.names))
      (quiet_then by (λ x u. u ≡ []) (names_of o ++ names_among f.rest) (unless_so (is_new_parameter before o) Redeclared at) (λ new. declares_name o (parameter_entity defining (length before)) >>= (λ bound. parameter_type scope ty kind parts at >>= last))
      (bound.unless_binds Nothing (is_new_parameter before o) Redeclared at)
      (λ new. none_then by (λ x u. u ≡ []) (names_of o) (names_among f.rest) (declares_name o (parameter_entity defining (length before))) (λ bound. parameter_type scope ty kind parts at >>= last) (entity_unused defining (length before) o)
      (λ named. then_quiet by (λ u. u ≡ []) (names_among f.rest) (parameter_type scope ty kind parts at) last (typed_so at)
      (λ whole. bound.then_binds Nothing (judged_parameter defining scope whole at) _ (parameter_quiet defining scope whole at) (λ x. record { all = tt }))))))

  array_unused : (scope : Scope) → HasNames scope → (ty : PlainType) (parts : PlainTrees) (f : AbstractForm bracketed_size parts) → AllHold f.rest → (name : PlainToken) → Unused (parameter_type scope ty k.ArrayDeclarator parts name) (names_among f.rest)
  array_unused scope names ty parts f holds name =
      quiet_then by (λ x u. u ≡ []) (names_among f.rest) (unless_so (is_complete scope.structs (starred parts ty)) Incomplete name) (λ complete. size_of_parameter scope name (behind_word t.OpenBracket parts) >>= (λ count. give (pointer_to (starred parts ty))))
      (bound.unless_binds Nothing (is_complete scope.structs (starred parts ty)) Incomplete name)
      (λ complete. then_give by (λ x u. u ≡ []) (λ x u. u ≡ []) (names_among f.rest) (size_of_parameter scope name (behind_word t.OpenBracket parts)) (λ count. pointer_to (starred parts ty))
      (subst (λ o. Unused (size_of_parameter scope name o) (names_among f.rest)) (sym (f.behind t.OpenBracket refl refl))
      (brackets_part by kept typed sizes scope names (size_form f.row) holds name (give 0) (record { all = tt })))
      (λ x u e. e))

  plain_unused : (scope : Scope) (ty : PlainType) (parts : PlainTrees) (f : AbstractForm [] parts) (name : PlainToken) → Unused (parameter_type scope ty k.Declarator parts name) (names_among f.rest)
  plain_unused scope ty parts f name = subst (λ r. Unused (parameter_type scope ty k.Declarator parts name) (names_among r)) (sym (row_end f.row)) (tt, refl)

  declarator_unused : {tree : PlainTree} → Derivation abstract_declarator tree → Holds tree → (defining : Bool) (scope : Scope) → HasNames scope → (before : List Parameter) (ty : PlainType) (first : PlainToken)
      → Unused (declared_parameter defining scope before ty first tree) (names_in tree)
  declarator_unused (single is) holds defining scope names before ty first = absurd cc
  declarator_unused (made_of k.Declarator {parts = parts} b a (a_row row)) holds defining scope names before ty first =
      let f = abstract_form row nothing_left in declared_unused defining scope before ty first k.Declarator parts f (λ name. plain_unused scope ty parts f name)
  declarator_unused (made_of k.ArrayDeclarator {parts = parts} b a (a_row row)) holds defining scope names before ty first =
      let f = abstract_form row bracket_first in declared_unused defining scope before ty first k.ArrayDeclarator parts f (λ name. array_unused scope names ty parts f (f.holds holds) name)
  declarator_unused (made_of _ b a s) holds defining scope names before ty first = absurd cc

  absent_unused : (defining : Bool) (scope : Scope) (before : List Parameter) (ty : PlainType) (first : PlainToken) → Unused (declared_parameter defining scope before ty first absent) []
  absent_unused defining scope before ty first =
      quiet_then by (λ x u. u ≡ []) [] (judged_parameter defining scope ty first) (λ judged. give (record { name = None; ty = ty })) (parameter_quiet defining scope ty first) (λ x. (tt, refl))

  -- ---- parameters, one after the other

  words_then : (defining : Bool) (scope : Scope) → HasNames scope → (before : List Parameter) (words : PlainTrees) (second : PlainTree) (behind : PlainToken) → Words words
      → ((ty : PlainType) → Unused (declared_parameter defining scope before ty (first_token_in words behind) second) (names_in second))
      → Unused (one_parameter defining scope before (node k.Parameter (more (node k.Specifiers words) (more second none))) behind) (names_in (node k.Parameter (more (node k.Specifiers words) (more second none))))
  words_then defining scope names before words second behind w h =
      subst (Unused (one_parameter defining scope before (node k.Parameter (more (node k.Specifiers words) (more second none))) behind))
      (sym (names_of_node k.Parameter (more (node k.Specifiers words) (more second none)) ∙ ap₂ (λ a b. a ++ b) (names_of_node k.Specifiers words) (append-nil (names_in second))))
      (none_then by (λ x u. u ≡ []) (names_among words) (names_in second) (based false scope words) (λ base. declared_parameter defining scope before base.ty (first_token_in words behind) second)
      (part_as by (IsBase by) (λ x u. u ≡ []) (names_among words) (based false scope words) (based_part by false scope names words w) (λ x u q. q.1)) (λ base. h base.ty))

  one_unused : {tree : PlainTree} → Derivation parameter tree → Holds tree → (defining : Bool) (scope : Scope) → HasNames scope → (before : List Parameter) (behind : PlainToken) → Unused (one_parameter defining scope before tree behind) (names_in tree)
  one_unused (single is) holds defining scope names before behind = absurd cc
  one_unused (made_of k.Parameter b a (a_row (a_part w d))) holds defining scope names before behind = of_words w d holds
    where
      of_second : {words : PlainTrees} → Words words → {rest : PlainTrees} → Row (optional abstract_declarator ∷ []) rest → AllHold rest
          → Unused (one_parameter defining scope before (node k.Parameter (more (node k.Specifiers words) rest)) behind) (names_in (node k.Parameter (more (node k.Specifiers words) rest)))
      of_second {words = words} w (left_out at_end) holds = words_then defining scope names before words absent behind w (λ ty. absent_unused defining scope before ty (first_token_in words behind))
      of_second {words = words} w (given {tree = second} d at_end) holds =
          words_then defining scope names before words second behind w (λ ty. declarator_unused d holds.0 defining scope names before ty (first_token_in words behind))

      of_words : {words : PlainTree} {rest : PlainTrees} → Derivation specifiers words → Row (optional abstract_declarator ∷ []) rest → AllHold (more words rest)
          → Unused (one_parameter defining scope before (node k.Parameter (more words rest)) behind) (names_in (node k.Parameter (more words rest)))
      of_words (single is) d holds = absurd cc
      of_words (made_of k.Specifiers {parts = words} b a s) d holds = of_second (words_of (made_of {category = specifiers} k.Specifiers b a s)) d holds.1
      of_words (made_of _ b a s) d holds = absurd cc
  one_unused (made_of _ b a s) holds defining scope names before behind = absurd cc

  list_unused : {parts : PlainTrees} → Separated parameter parts → AllHold parts → (defining : Bool) (scope : Scope) → HasNames scope → (before : List Parameter) (behind : PlainToken)
      → Unused (parameters_from defining scope before parts behind) (names_among parts)
  list_unused (last_one {tree = tree} d) holds defining scope names before behind =
      subst (Unused (parameters_from defining scope before (more tree none) behind)) (sym (append-nil (names_in tree)))
      (then_give by (λ x u. u ≡ []) (λ x u. u ≡ []) (names_in tree) (one_parameter defining scope before tree behind) (λ p. before ++ p ∷ []) (one_unused d holds.0 defining scope names before behind) (λ x u e. e))
  list_unused (next_one {tree = tree} {comma = comma} {rest = rest} d w others) holds defining scope names before behind =
      subst (Unused (parameters_from defining scope before (more tree (more (leaf comma) rest)) behind)) (sym (ap (λ l. names_in tree ++ l) (word_names comma rest (no_name (t.Comma ∷ []) comma refl w))))
      (none_then by (λ x u. u ≡ []) (names_in tree) (names_among rest) (one_parameter defining scope before tree behind) (λ p. parameters_from defining (with_parameter scope (length before) p.name p.ty) (before ++ p ∷ []) rest behind)
      (one_unused d holds.0 defining scope names before behind)
      (λ p. list_unused others holds.1.1 defining (with_parameter scope (length before) p.name p.ty) (names_with scope names (length before) p.name p.ty) (before ++ p ∷ []) behind))

  in_unused : {tree : PlainTree} → Derivation parameters tree → Holds tree → (defining : Bool) (scope : Scope) → HasNames scope → (behind : PlainToken) → Unused (parameters_in defining scope tree behind) (names_in tree)
  in_unused (single is) holds defining scope names behind = absurd cc
  in_unused (made_of k.Parameters {parts = parts} b a (with_commas s)) holds defining scope names behind =
      subst (Unused (parameters_in defining scope (node k.Parameters parts) behind)) (sym (names_of_node k.Parameters parts)) (lone (is_lone_void parts) refl)
    where
      lone : (b : Bool) → is_lone_void parts ≡ b → Unused {A = List Parameter} (if b then give [] else parameters_from defining (with_block scope) [] parts behind) (names_among parts)
      lone true e = subst (Unused {A = List Parameter} (give [])) (sym (lone_names parts e)) (tt, refl)
      lone false e = list_unused s holds defining (with_block scope) names [] behind
  in_unused (made_of _ b a s) holds defining scope names behind = absurd cc

  -- ---- the parameters of a declarator

  behind_open : (open_ : PlainToken) (list : PlainTree) (rest : PlainTrees) → IsWord (t.OpenParenthesis ∷ []) open_ → behind_word t.OpenParenthesis (more (leaf open_) (more list rest)) ≡ Some list
  behind_open open_ list rest w = one_of (λ x. (if same t.OpenParenthesis x then Some list else behind_word t.OpenParenthesis (more list rest)) ≡ Some list) (t.OpenParenthesis ∷ []) (terminal open_) w (refl, tt)

  enclosed : (open_ close : PlainToken) (list : PlainTree) → IsWord (t.OpenParenthesis ∷ []) open_ → IsWord (t.CloseParenthesis ∷ []) close → names_among (more (leaf open_) (more list (more (leaf close) none))) ≡ names_in list
  enclosed open_ close list w v =
      word_names open_ (more list (more (leaf close) none)) (no_name (t.OpenParenthesis ∷ []) open_ refl w)
      ∙ (ap (λ l. names_in list ++ l) (word_names close none (no_name (t.CloseParenthesis ∷ []) close refl v)) ∙ append-nil (names_in list))

  of_unused : {rest : PlainTrees} → Row parenthesized rest → AllHold rest → (defining : Bool) (scope : Scope) → HasNames scope → (behind : PlainToken) → Unused (parameters_of defining scope (behind_word t.OpenParenthesis rest) behind) (names_among rest)
  of_unused (a_word {token = open_} w (left_out (a_word {token = close} v at_end))) holds defining scope names behind =
      subst (λ o. Unused (parameters_of defining scope o behind) (names_among (more (leaf open_) (more absent (more (leaf close) none))))) (sym (behind_open open_ absent (more (leaf close) none) w))
      (subst (Unused (parameters_of defining scope (Some absent) behind)) (sym (enclosed open_ close absent w v)) (tt, refl))
  of_unused (a_word {token = open_} w (given {tree = list} d (a_word {token = close} v at_end))) holds defining scope names behind =
      subst (λ o. Unused (parameters_of defining scope o behind) (names_among (more (leaf open_) (more list (more (leaf close) none))))) (sym (behind_open open_ list (more (leaf close) none) w))
      (subst (Unused (parameters_of defining scope (Some list) behind)) (sym (enclosed open_ close list w v)) (in_unused d holds.1.0 defining scope names behind))

  pub function_unused : (parts : PlainTrees) (f : NameForm parenthesized parts) → AllHold f.rest → (defining : Bool) (scope : Scope) → HasNames scope → (storage : Storage) (result : PlainType) (name : PlainToken)
      → Unused (new_function defining scope storage result parts name) (names_among f.rest)
  function_unused parts f holds defining scope names storage result name =
      quiet_then by (λ x u. u ≡ []) (names_among f.rest) (unless_so (may_be_function storage result (scope.file_names name.text)) Redeclared name) (λ new. parameters_of defining scope (behind_word t.OpenParenthesis parts) name)
      (bound.unless_binds Nothing (may_be_function storage result (scope.file_names name.text)) Redeclared name)
      (λ new. subst (λ o. Unused (parameters_of defining scope o name) (names_among f.rest)) (sym (f.behind t.OpenParenthesis refl refl)) (of_unused f.row holds defining scope names name))
