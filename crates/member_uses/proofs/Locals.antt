-- Types by their words, and the declarations of locals.
use Rattle.std.proofs.Common.{◌≡◌, ℕ, Bool, true, false, List, [], ◌∷◌, ◌++◌, refl, sym, ap, ap₂, subst, ◌∙◌, length, map, append-nil}
use Rattle.std.specs.Prelude.{Option, Some, None, if◌then◌else◌}
use Rattle.std.proofs.lemmas.Bool.{false≢true}
use Rattle.c_text.specs.Token.{PlainToken}
use Rattle.c_types.specs.Types.{PlainType}
use Rattle.c_tree.specs.declared.kinds.Kind.{Kind}
use Rattle.c_tree.specs.declared.kinds.Kind.TheVariants as k
use Rattle.c_tree.specs.declared.terminals.Terminal.TheVariants as t
use Rattle.c_tree.specs.Terminals.{terminal, is_one_of}
use Rattle.c_tree.specs.Trees.{PlainTree, PlainTrees, leaf, node, none, more}
use Rattle.c_tree.specs.Grammar.{Role, local, declarator, declarators, specifiers, types, is_word}
use Rattle.c_tree.proofs.TerminalCases.{one_of}
use Rattle.tree_derivations.specs.Derivations.{Derivation, made_of, some_words, declarators_of, Declared, IsWord}
use Rattle.core_meaning.specs.declared.refusals.TypeKind.TheVariants.{Redeclared}
use Rattle.core_meaning.specs.Checking.{local_entity, Binding, Checked, fine, refused, broken, with_bindings, ◌>>=◌, give, unless_so, or_broken, declares}
use Rattle.core_meaning.specs.Entities.{Scope}
use Rattle.core_meaning.specs.Expressions.{arithmetic_words}
use Rattle.core_meaning.specs.Declarations.{name_in, Based, based, based_on_tag, object_type, judged_object, with_local, Locals, LocalItem, is_new_local, plain_part, local_initial, declared_local, one_local, with_items, locals_from, judged_locals}
use Rattle.core_meaning.specs.Constancy.{Initial}
use Rattle.declarator_lists.specs.Lists.{declared_in, trees_of}
use Rattle.declaration_readings.specs.Readings.{Going, Slots, slots_of, next_local, all_locals}
use Rattle.declaration_readings.proofs.Lists.{declared}
use Rattle.declaration_readings.proofs.InTurn.{is_filled}
use Rattle.bindings.proofs.Spellings.{Holds, AllHold, no_name}
use Rattle.entity_numbers.proofs.Uses as bound
use Rattle.operand_types.specs.Laws.{KeepsApart, TypesAreKept}
use Rattle.expression_types.specs.Known.{Known, IsKnown}
use Rattle.expression_types.specs.Laws.{ExpressionsHaveTypes}
use Rattle.selections.specs.Laws.{HasNames}
use Rattle.selections.proofs.Expressions.{Nothing}
use Rattle.cond_sizes.specs.Laws.{CountsNeedNoNames}
use Rattle.member_uses.specs.Uses.{Use, names_in, names_among}
use Rattle.member_uses.specs.Declarations.{names_if, names_in_declared, uses_in_turn, uses_initially}
use Rattle.member_uses.proofs.Parts.{Part, names_of_node, word_names, alone, quiet_then, none_then, then_give, known_then, part_as, made_of_it}
use Rattle.member_uses.proofs.Words.{Words, words_are, with_tag, without_tag}
use Rattle.member_uses.proofs.Judged.{initial_part}
use Rattle.member_uses.proofs.Declarators.{ObjectForm, ObjectTree, object_quiet, object_tree}
use Rattle.member_uses.proofs.Turns.{Initialised, no_value, a_value, IsInTurn, used_in_turn}

pub words_of : {words : PlainTrees} → Derivation specifiers (node k.Specifiers words) → Words words
words_of {words = words} (made_of _ b a (some_words are)) = words_are types words are refl

pub list_of : {role : Role} {list : PlainTrees} → Derivation (declarators role) (node k.Declarators list) → Declared role list
list_of (made_of _ b a (declarators_of d)) = d

module _ (by : ℕ → ℕ) where
  -- ---- types by words

  abbrev pub IsBase : Based → List Use → Type 0
  IsBase b u = HasNames b.scope × (u ≡ [])

  tag_part : (declaring : Bool) (scope : Scope) → HasNames scope → (tag : PlainToken) (n : Option ℕ) → Part by IsBase (based_on_tag declaring scope tag n) (tag ∷ [])
  tag_part declaring scope names tag (Some n) = (tt, (names, refl))
  tag_part false scope names tag None = tt
  tag_part true scope names tag None = (tt, (names, refl))

  pub based_part : (declaring : Bool) (scope : Scope) → HasNames scope → (words : PlainTrees) → Words words → Part by IsBase (based declaring scope words) (names_among words)
  based_part declaring scope names words (with_tag has tagged) =
      subst (λ b. Part by IsBase (if b then or_broken (name_in words) >>= (λ tag. based_on_tag declaring scope tag (scope.tags tag.text)) else give (record { ty = arithmetic_words words; scope = scope })) (names_among words)) (sym has)
      (subst (λ o. Part by IsBase (or_broken o >>= (λ tag. based_on_tag declaring scope tag (scope.tags tag.text))) (names_among words)) (sym tagged.name)
      (subst (λ ns. Part by IsBase (give tagged.tag >>= (λ tag. based_on_tag declaring scope tag (scope.tags tag.text))) ns) (sym tagged.names)
      (alone by IsBase (tagged.tag ∷ []) (based_on_tag declaring scope tagged.tag (scope.tags tagged.tag.text)) (tag_part declaring scope names tagged.tag (scope.tags tagged.tag.text)))))
  based_part declaring scope names words (without_tag has none_named) =
      subst (λ b. Part by IsBase (if b then or_broken (name_in words) >>= (λ tag. based_on_tag declaring scope tag (scope.tags tag.text)) else give (record { ty = arithmetic_words words; scope = scope })) (names_among words)) (sym has)
      (subst (λ ns. Part by IsBase (give (record { ty = arithmetic_words words; scope = scope })) ns) (sym none_named) (tt, (names, refl)))

  -- the uses of an initialiser, if there is one
  abbrev pub IsInitiallyIf : Scope → Option PlainTree → List Use → Type 0
  IsInitiallyIf scope value u = KeepsApart by → (known : Known) → IsKnown by scope known → u ≡ uses_initially known value

  -- ---- how lists of locals go on

  placed_behind : (items : List LocalItem) (js : List Binding) (c : Checked Locals)
      → (with_bindings js (c >>= (λ rest. give (with_items items rest))) >>= (λ l. give (slots_of l))) ≡ with_bindings (js ++ []) (c >>= (λ l. give (slots_of l)))
  placed_behind items js (fine rest ks) =
      ap (fine (slots_of rest)) (append-nil (js ++ (ks ++ [])) ∙ sym (ap (λ l. l ++ (ks ++ [])) (append-nil js)))
  placed_behind items js (refused kind token) = refl
  placed_behind items js broken = refl

  both_placed : (others : Slots → Checked Locals) (c : Checked Locals)
      → ((c >>= (λ first. others (slots_of first) >>= (λ rest. give (with_items first.items rest)))) >>= (λ l. give (slots_of l)))
      ≡ ((c >>= (λ l. give (slots_of l))) >>= (λ next. others next >>= (λ l. give (slots_of l))))
  both_placed others (fine first js) = placed_behind first.items js (others (slots_of first))
  both_placed others (refused kind token) = refl
  both_placed others broken = refl

  not_assign : (comma : PlainToken) → IsWord (t.Comma ∷ []) comma → is_word (t.Assign ∷ []) (leaf comma) ≡ false
  not_assign comma w = one_of (λ x. is_one_of (t.Assign ∷ []) x ≡ false) (t.Comma ∷ []) (terminal comma) w (refl, tt)

  module _ (ty : PlainType) where
    abbrev both : PlainTrees → Slots → PlainTree → Option PlainTree → Checked Locals
    both rest s tree value = one_local s.scope s.slots ty tree value >>= (λ first. locals_from first.scope first.slots ty rest >>= (λ others. give (with_items first.items others)))

    abbrev rest_of : PlainTrees → Slots → Checked Locals
    rest_of rest s = locals_from s.scope s.slots ty rest

    locals_next : (s : Slots) (tree : PlainTree) (comma : PlainToken) (rest : PlainTrees) → is_filled rest ≡ true → is_word (t.Assign ∷ []) (leaf comma) ≡ false
        → locals_from s.scope s.slots ty (more tree (more (leaf comma) rest)) ≡ both rest s tree None
    locals_next s tree comma none filled e = absurd (false≢true filled)
    locals_next s tree comma (more next none) filled e = ap (λ b. if b then one_local s.scope s.slots ty tree (Some next) else both (more next none) s tree None) e
    locals_next s tree comma (more next (more sign rest)) filled e = ap (λ b. if b then both rest s tree (Some next) else both (more next (more sign rest)) s tree None) e

    locals_in_turn : (role : Role) → IsInTurn (next_local ty) (all_locals ty) role
    locals_in_turn role = record {
      alone = λ s tree. refl;
      alone_with = λ s tree value sign m w. ap (λ b. (if b then one_local s.scope s.slots ty tree (Some value) else both (more value none) s tree None) >>= (λ l. give (slots_of l))) w;
      before = λ s tree comma rest w filled. ap (λ c. c >>= (λ l. give (slots_of l))) (locals_next s tree comma rest filled (not_assign comma w)) ∙ both_placed (rest_of rest) (one_local s.scope s.slots ty tree None);
      before_with = λ s tree value sign comma rest m w.
          ap (λ b. (if b then both rest s tree (Some value) else both (more value (more (leaf comma) rest)) s tree None) >>= (λ l. give (slots_of l))) w
          ∙ both_placed (rest_of rest) (one_local s.scope s.slots ty tree (Some value));
    }

  module _ (kept : TypesAreKept) (typed : ExpressionsHaveTypes) (sizes : CountsNeedNoNames) where
    -- ---- a local

    value_part : (scope : Scope) → HasNames scope → (value : Option PlainTree) → Initialised value → (globals : Option ℕ) (ty : PlainType) (name : PlainToken)
        → Part by (λ x u. IsInitiallyIf scope value u) (local_initial scope ty name value) (names_if value)
    value_part scope names _ no_value globals ty name = (tt, λ keeps known is. refl)
    value_part scope names _ (a_value d holds) globals ty name = initial_part by kept typed scope names d holds None ty [] name

    abbrev IsLocal : Option PlainTree → Locals → List Use → Type 0
    IsLocal value l u = HasNames l.scope × IsInitiallyIf l.scope value u

    declared_part : (scope : Scope) → HasNames scope → (slots : List PlainType) (ty : PlainType) (kind : Kind) (parts : PlainTrees) (o : ObjectForm by kept typed sizes kind parts) → AllHold o.form.rest
        → (value : Option PlainTree) → Initialised value
        → Part by (IsLocal value) (declared_local scope slots ty kind parts o.form.name value) (o.form.name ∷ (names_among o.form.rest ++ names_if value))
    declared_part scope names slots ty kind parts o holds value initialised =
        let name : PlainToken = o.form.name in
        let inner : PlainType → Scope = λ whole. with_local scope name.text (length slots) whole in
        let made : PlainType → List Initial → Locals = λ whole given. record { scope = inner whole; slots = slots ++ whole ∷ []; items = record { slot = length slots; parts = map plain_part given } ∷ [] } in
        let valued_ : PlainType → Checked Locals = λ whole. local_initial (inner whole) whole name value >>= (λ given. give (made whole given)) in
        quiet_then by (IsLocal value) (name ∷ (names_among o.form.rest ++ names_if value)) (unless_so (is_new_local scope name.text) Redeclared name)
        (λ new. declares (local_entity (length slots)) >>= (λ bound. object_type scope ty kind parts name value >>= (λ whole. judged_object scope whole name >>= (λ judged. valued_ whole))))
        (bound.unless_binds Nothing (is_new_local scope name.text) Redeclared name)
        (λ new. none_then by (IsLocal value) (name ∷ []) (names_among o.form.rest ++ names_if value) (declares (local_entity (length slots)))
        (λ bound. object_type scope ty kind parts name value >>= (λ whole. judged_object scope whole name >>= (λ judged. valued_ whole))) (tt, refl)
        (λ bound. none_then by (IsLocal value) (names_among o.form.rest) (names_if value) (object_type scope ty kind parts name value) (λ whole. judged_object scope whole name >>= (λ judged. valued_ whole))
        (o.typed_so scope names ty name value holds)
        (λ whole. quiet_then by (IsLocal value) (names_if value) (judged_object scope whole name) (λ judged. valued_ whole) (object_quiet scope whole name)
        (λ judged. then_give by (λ x u. IsInitiallyIf (inner whole) value u) (IsLocal value) (names_if value) (local_initial (inner whole) whole name value) (made whole)
        (value_part (inner whole) names value initialised None whole name) (λ given u q. (names, q))))))

    pub one_part : (scope : Scope) → HasNames scope → (slots : List PlainType) (ty : PlainType) (tree : PlainTree) → ObjectTree by kept typed sizes tree → Holds tree → (value : Option PlainTree) → Initialised value
        → Part by (IsLocal value) (one_local scope slots ty tree value) (names_in tree ++ names_if value)
    one_part scope names slots ty tree o holds value initialised =
        let f = o.object.form in
        subst (λ x. Part by (IsLocal value) (one_local scope slots ty x value) (names_in x ++ names_if value)) (sym o.is)
        (subst (λ x. Part by (IsLocal value) (or_broken x >>= (λ name. declared_local scope slots ty o.kind o.parts name value)) (names_in (node o.kind o.parts) ++ names_if value)) (sym f.name_is)
        (subst (Part by (IsLocal value) (give f.name >>= (λ name. declared_local scope slots ty o.kind o.parts name value))) (sym (ap (λ l. l ++ names_if value) (names_of_node o.kind o.parts ∙ f.names)))
        (alone by (IsLocal value) (f.name ∷ (names_among f.rest ++ names_if value)) (declared_local scope slots ty o.kind o.parts f.name value)
        (declared_part scope names slots ty o.kind o.parts o.object (f.holds (o.holds holds)) value initialised))))

    pub next_part : (ty : PlainType) (tree : PlainTree) (value : Option PlainTree) → Derivation (declarator local) tree → Holds tree → Initialised value → (s : Slots) → HasNames s.scope
        → Part by (λ next u. HasNames next.scope × IsInitiallyIf next.scope value u) (next_local ty s (declared tree value)) (names_in_declared (declared tree value))
    next_part ty tree value d holds initialised s names =
        then_give by (IsLocal value) (λ next u. HasNames next.scope × IsInitiallyIf next.scope value u) (names_in tree ++ names_if value) (one_local s.scope s.slots ty tree value) slots_of
        (one_part s.scope names s.slots ty tree (object_tree by kept typed sizes d refl) holds value initialised) (λ l u q. q)

    -- ---- declarations

    abbrev AreUsed : PlainType → Going Slots → PlainTrees → Slots → List Use → Type 0
    AreUsed ty g parts next u = HasNames next.scope × (u ≡ uses_in_turn by (next_local ty) g (declared_in (trees_of parts)))

    all_part : (ty : PlainType) {parts : PlainTrees} → Declared local parts → AllHold parts → (g : Going Slots) → HasNames g.state.scope
        → Part by (λ l u. AreUsed ty g parts (slots_of l) u) (locals_from g.state.scope g.state.slots ty parts) (names_among parts)
    all_part ty {parts = parts} d holds g names =
        made_of_it by (AreUsed ty g parts) (names_among parts) (locals_from g.state.scope g.state.slots ty parts) slots_of
        (used_in_turn (next_local ty) (all_locals ty) local by (λ next. HasNames next.scope) (locals_in_turn ty local)
        (λ tree value e h v s n. part_as by (λ next u. HasNames next.scope × IsInitiallyIf next.scope value u) (λ next u. HasNames next.scope) (names_in_declared (declared tree value)) (next_local ty s (declared tree value))
        (next_part ty tree value e h v s n) (λ next u q. q.0))
        d holds g names)

    abbrev type_in : PlainType → Checked Based → PlainType
    type_in otherwise (fine b js) = b.ty
    type_in otherwise (refused kind token) = otherwise
    type_in otherwise broken = otherwise

    -- whatever the words come to
    abbrev pub IsDeclaration : Going Slots → PlainTrees → PlainTrees → Locals → List Use → Type 0
    IsDeclaration g words list l u =
        HasNames l.scope × ((base : Based) (bs : List Binding) → based false g.state.scope words ≡ fine base bs → u ≡ uses_in_turn by (next_local base.ty) g (declared_in (trees_of list)))

    pub declaration_part : (words list : PlainTrees) (end_ : PlainToken) → Words words → Declared local list → AllHold list → IsWord (t.Semicolon ∷ []) end_ → (g : Going Slots) → HasNames g.state.scope
        → Part by (IsDeclaration g words list) (judged_locals g.state.scope g.state.slots (more (node k.Specifiers words) (more (node k.Declarators list) (more (leaf end_) none))))
        (names_among (more (node k.Specifiers words) (more (node k.Declarators list) (more (leaf end_) none))))
    declaration_part words list end_ w d holds y g names =
        subst (Part by (IsDeclaration g words list) (based false g.state.scope words >>= (λ base. locals_from g.state.scope g.state.slots base.ty list))) (sym all_names)
        (known_then by IsBase (IsDeclaration g words list) (names_among words) (names_among list) (based false g.state.scope words) (λ base. locals_from g.state.scope g.state.slots base.ty list)
        (based_part false g.state.scope names words w)
        (λ base js e q. subst (λ l. Part by (λ y v. IsDeclaration g words list y (l ++ v)) (locals_from g.state.scope g.state.slots base.ty list) (names_among list)) (sym q.1)
        (part_as by (λ l u. AreUsed base.ty g list (slots_of l) u) (IsDeclaration g words list) (names_among list) (locals_from g.state.scope g.state.slots base.ty list)
        (all_part base.ty d holds g names)
        (λ l u r. (r.0, λ other bs is. r.1 ∙ ap (λ x. uses_in_turn by (next_local x) g (declared_in (trees_of list))) (ap (type_in base.ty) (sym e ∙ is)))))))
      where
        all_names : names_among (more (node k.Specifiers words) (more (node k.Declarators list) (more (leaf end_) none))) ≡ names_among words ++ names_among list
        all_names =
            ap₂ (λ a b. a ++ b) (names_of_node k.Specifiers words)
            (ap₂ (λ a b. a ++ b) (names_of_node k.Declarators list) (word_names end_ none (no_name (t.Semicolon ∷ []) end_ refl y)) ∙ append-nil (names_among list))
