-- Sizes, initialisers, declarators and statements bind the same, whatever numbers names have. A size is the same too, as it needs no names.
use Rattle.std.proofs.Common.{◌≡◌, ℕ, ◌+◌, Bool, true, false, List, [], ◌∷◌, ◌++◌, map, refl, sym, subst, ◌∙◌, length}
use Rattle.std.specs.Prelude.{Option, Some, None, not}
use Rattle.c_text.specs.Token.{PlainToken}
use Rattle.c_types.specs.Types.{PlainType, array_of, structure}
use Rattle.c_tree.specs.declared.kinds.Kind.{Kind}
use Rattle.c_tree.specs.declared.kinds.Kind.TheVariants as k
use Rattle.c_tree.specs.declared.terminals.Terminal.TheVariants as t
use Rattle.c_tree.specs.Trees.{PlainTree, PlainTrees, leaf, node, none, more}
use Rattle.c_tree.specs.Grammar.{is_word, is_lone_void}
use Rattle.core_meaning.specs.declared.refusals.TypeKind.TheVariants.{BadOperand, BadConstant, Redeclared, Incomplete, Misplaced}
use Rattle.core_meaning.specs.Values.{Path}
use Rattle.core_meaning.specs.Program.{PlainExpression, PlainStatement, PlainItems, statement_item}
use Rattle.core_meaning.specs.Checking.{local_entity, struct_entity, Binding, Checked, fine, refused, broken, ◌>>=◌, give, unless_so, or_broken, declares}
use Rattle.core_meaning.specs.Entities.{Numbers, Scope}
use Rattle.core_meaning.specs.Typing.{is_complete, fits_into}
use Rattle.core_meaning.specs.Expressions.{first_token, first_token_in, has_terminal, valued, judged_condition, is_void}
use Rattle.core_meaning.specs.Constancy.{judged_count, part_for, path_for, part_or_excess, is_allowed, value_initial, whole_initial, text_or_whole, initial, initial_entries}
use Rattle.core_meaning.specs.Declarations.{name_in, behind_word, Based, with_struct, based_on_tag, based, starred, count_of_size, is_left_out, count_without_size, element_count, object_type, with_local, with_block, Parameter, size_of_parameter, parameter_type, token_of, is_new_parameter, parameter_entity, declares_name, judged_parameter, declared_parameter, one_parameter, with_parameter, parameters_from, parameters_in, parameters_of, LocalItem, Locals, is_new_local, plain_part, local_initial, judged_object, declared_local, one_local, with_items, locals_from, judged_locals}
use Rattle.core_meaning.specs.Statements.{Around, Judged, JudgedItems, items_as, in_block, within_loop, nothing_to_do, discarded, condition_or_true, expression_statement, jump, returned, judged_statement, judged_else, judged_items}
use Rattle.operand_types.specs.OperandTypes.{outcome_as}
use Rattle.cond_sizes.specs.Laws.{CountsNeedNoNames}
use Rattle.bound_slots.specs.Laws.{SizesBindNothing}
use Rattle.entity_kinds.proofs.Pairs.{never_then}
use Rattle.core_numbers.proofs.Twice.{Sides, Same, Anything, Equal, left_refused, left_broken, same_give, itself, same_then, any_then, equal_then, made_then, first_then, same_if, unless_then, found_then, value_then}
use Rattle.core_numbers.proofs.Expressions.{renumbered, valued_same, condition_of, left_never}

same_counts : (c d : Checked ℕ) → outcome_as (λ (m : ℕ). m) c ≡ outcome_as (λ (m : ℕ). m) d → ((m : ℕ) (js : List Binding) → c ≡ fine m js → js ≡ []) → ((m : ℕ) (js : List Binding) → d ≡ fine m js → js ≡ []) → Sides Equal c d
same_counts (fine m js) (fine l ks) e f g = (f m js refl ∙ sym (g l ks refl), cc)
same_counts (fine m js) (refused kind token) e f g = tt
same_counts (fine m js) broken e f g = tt
same_counts (refused kind token) d e f g = tt
same_counts broken d e f g = tt

module _ (nameless : CountsNeedNoNames) (counts : SizesBindNothing) (n : Numbers) where
  count_same : (s : Scope) (tree : PlainTree) (behind : PlainToken) → Same Equal (judged_count s tree behind) (judged_count (renumbered n s) tree behind)
  count_same s tree behind =
      record { holds = same_counts (judged_count s tree behind) (judged_count (renumbered n s) tree behind) (nameless s (renumbered n s) tree behind behind) (counts s tree behind) (counts (renumbered n s) tree behind) }

  -- ---- initialisers

  module _ (globals count : Option ℕ) (s : Scope) where
    value_same : (ty : PlainType) (path : Path) (tree : PlainTree) (first : PlainToken) → Same Anything (value_initial s globals ty path tree first) (value_initial (renumbered n s) count ty path tree first)
    value_same ty path tree first =
        value_then Anything (valued s tree) (valued (renumbered n s) tree) _ _ (valued_same n s tree)
        (λ x core. found_then Anything (fits_into ty x) (fits_into ty (record x { core = core })) BadOperand BadOperand first first _ _
        (λ a b. unless_then Anything (is_allowed s globals a) (is_allowed (renumbered n s) count b) BadConstant BadConstant first first _ _ (λ y. same_give Anything _ _ tt)))

    whole_same : (ty : PlainType) (path : Path) (tree : PlainTree) (first : PlainToken) → Same Anything (whole_initial s globals ty path tree first) (whole_initial (renumbered n s) count ty path tree first)
    whole_same (array_of element length_) path tree first = left_never Anything _ _ (never_then (valued s tree) _ (λ x. tt))
    whole_same ty path tree first = value_same ty path tree first

    text_same : (ty : PlainType) (path : Path) (parts : PlainTrees) (first : PlainToken) → Same Anything (text_or_whole s globals ty path parts first) (text_or_whole (renumbered n s) count ty path parts first)
    text_same (array_of element length_) path parts first = itself Anything _ (λ x. tt)
    text_same ty path parts first = value_same ty path (node k.Texts parts) first

    excess_same : (o : Option PlainType) (tree : PlainTree) (first : PlainToken) → Same Equal (part_or_excess s globals o tree first) (part_or_excess (renumbered n s) count o tree first)
    excess_same (Some element) tree first = same_give Equal element element refl
    excess_same None tree first = left_refused Equal _ _ _

    mutual
      pub initial_same : (ty : PlainType) (path : Path) (tree : PlainTree) (behind : PlainToken) → Same Anything (initial s globals ty path tree behind) (initial (renumbered n s) count ty path tree behind)
      initial_same ty path (node k.Braces (more brace (more (node kind entries) (more last none)))) behind = entries_same ty path 0 entries behind
      initial_same ty path (node k.Texts parts) behind = text_same ty path parts (first_token (node k.Texts parts) behind)
      initial_same ty path tree behind = whole_same ty path tree (first_token tree behind)

      entries_same : (ty : PlainType) (path : Path) (m : ℕ) (entries : PlainTrees) (behind : PlainToken) → Same Anything (initial_entries s globals ty path m entries behind) (initial_entries (renumbered n s) count ty path m entries behind)
      entries_same ty path m none behind = same_give Anything _ _ tt
      entries_same ty path m (more tree none) behind =
          equal_then Anything (part_or_excess s globals (part_for s.structs ty m) tree (first_token tree behind)) (part_or_excess (renumbered n s) count (part_for s.structs ty m) tree (first_token tree behind)) _ _
          (excess_same (part_for s.structs ty m) tree (first_token tree behind)) (λ element. initial_same element (path_for ty path m) tree behind)
      entries_same ty path m (more tree (more comma rest)) behind =
          equal_then Anything (part_or_excess s globals (part_for s.structs ty m) tree (first_token tree behind)) (part_or_excess (renumbered n s) count (part_for s.structs ty m) tree (first_token tree behind)) _ _
          (excess_same (part_for s.structs ty m) tree (first_token tree behind))
          (λ element. any_then Anything (initial s globals element (path_for ty path m) tree behind) (initial (renumbered n s) count element (path_for ty path m) tree behind) _ _ (initial_same element (path_for ty path m) tree behind)
          (λ x y. any_then Anything (initial_entries s globals ty path (m + 1) rest behind) (initial_entries (renumbered n s) count ty path (m + 1) rest behind) _ _ (entries_same ty path (m + 1) rest behind) (λ v w. same_give Anything _ _ tt)))

  -- ---- types

  abbrev pub based_there : Based → Based
  based_there b = record b { scope = renumbered n b.scope }

  tag_same : (declaring : Bool) (s : Scope) (tag : PlainToken) (o : Option ℕ) → Same (λ x y. y ≡ based_there x) (based_on_tag declaring s tag o) (based_on_tag declaring (renumbered n s) tag o)
  tag_same declaring s tag (Some m) = first_then (λ x y. y ≡ based_there x) (declares (struct_entity m)) (λ bound. give (record { ty = structure m; scope = s })) (λ bound. give (record { ty = structure m; scope = renumbered n s })) (λ x. same_give (λ x y. y ≡ based_there x) _ _ refl)
  tag_same true s tag None =
      first_then (λ x y. y ≡ based_there x) (declares (struct_entity (length s.structs))) (λ bound. give (record { ty = structure (length s.structs); scope = with_struct s tag.text }))
      (λ bound. give (record { ty = structure (length s.structs); scope = with_struct (renumbered n s) tag.text })) (λ x. same_give (λ x y. y ≡ based_there x) _ _ refl)
  tag_same false s tag None = left_refused (λ x y. y ≡ based_there x) _ _ _

  pub words_same : (declaring : Bool) (s : Scope) (words : PlainTrees) → Same (λ x y. y ≡ based_there x) (based declaring s words) (based declaring (renumbered n s) words)
  words_same declaring s words =
      same_if (λ x y. y ≡ based_there x) (has_terminal t.Struct words) _ _ _ _
      (first_then (λ x y. y ≡ based_there x) (or_broken (name_in words)) _ _ (λ tag. tag_same declaring s tag (s.tags tag.text))) (same_give (λ x y. y ≡ based_there x) _ _ refl)

  size_same : (s : Scope) (name : PlainToken) (o : Option PlainTree) → Same Equal (count_of_size s name o) (count_of_size (renumbered n s) name o)
  size_same s name None = left_broken Equal _
  size_same s name (Some size) = count_same s size name

  pub object_same : (s : Scope) (ty : PlainType) (kind : Kind) (parts : PlainTrees) (name : PlainToken) (o : Option PlainTree) → Same Equal (object_type s ty kind parts name o) (object_type (renumbered n s) ty kind parts name o)
  object_same s ty k.ArrayDeclarator parts name o =
      first_then Equal (unless_so (is_complete s.structs (starred parts ty)) Incomplete name) _ _
      (λ x. equal_then Equal (element_count s (starred parts ty) name (behind_word t.OpenBracket parts) o) (element_count (renumbered n s) (starred parts ty) name (behind_word t.OpenBracket parts) o) _ _
      (same_if Equal (is_left_out (behind_word t.OpenBracket parts)) _ _ _ _ (itself Equal (count_without_size (starred parts ty) name o) (λ m. refl)) (size_same s name (behind_word t.OpenBracket parts))) (λ m. same_give Equal _ _ refl))
  object_same s ty k.Declarator parts name o = same_give Equal _ _ refl
  object_same s ty _ parts name o = left_broken Equal _

  array_same : (s : Scope) (ty : PlainType) (kind : Kind) (parts : PlainTrees) (name : PlainToken) → Same Equal (parameter_type s ty kind parts name) (parameter_type (renumbered n s) ty kind parts name)
  array_same s ty k.ArrayDeclarator parts name =
      first_then Equal (unless_so (is_complete s.structs (starred parts ty)) Incomplete name) _ _
      (λ x. equal_then Equal (size_of_parameter s name (behind_word t.OpenBracket parts)) (size_of_parameter (renumbered n s) name (behind_word t.OpenBracket parts)) _ _
      (same_if Equal (is_left_out (behind_word t.OpenBracket parts)) _ _ _ _ (same_give Equal 0 0 refl) (size_same s name (behind_word t.OpenBracket parts))) (λ m. same_give Equal _ _ refl))
  array_same s ty k.Declarator parts name = same_give Equal _ _ refl
  array_same s ty _ parts name = left_broken Equal _

  -- ---- parameters

  module _ (defining : Bool) where
    declarator_same :
        (s : Scope) (before : List Parameter) (ty : PlainType) (first : PlainToken) (tree : PlainTree) → Same Equal (declared_parameter defining s before ty first tree) (declared_parameter defining (renumbered n s) before ty first tree)
    declarator_same s before ty first (node k.Absent parts) = first_then Equal (judged_parameter defining s ty first) _ _ (λ x. same_give Equal _ _ refl)
    declarator_same s before ty first (node kind parts) = named_same s before ty first kind parts (name_in parts)
      where
        named_same :
            (s : Scope) (before : List Parameter) (ty : PlainType) (first : PlainToken) (kind : Kind) (parts : PlainTrees) (o : Option PlainToken)
            → Same {A = Parameter} Equal
            (unless_so (is_new_parameter before o) Redeclared (token_of o first) >>= (λ new. declares_name o (parameter_entity defining (length before)) >>= (λ bound. parameter_type s ty kind parts (token_of o first)
            >>= (λ whole. judged_parameter defining s whole (token_of o first) >>= (λ judged. give (record { name = o; ty = whole }))))))
            (unless_so (is_new_parameter before o) Redeclared (token_of o first) >>= (λ new. declares_name o (parameter_entity defining (length before)) >>= (λ bound. parameter_type (renumbered n s) ty kind parts (token_of o first)
            >>= (λ whole. judged_parameter defining s whole (token_of o first) >>= (λ judged. give (record { name = o; ty = whole }))))))
        named_same s before ty first kind parts o =
            first_then Equal (unless_so (is_new_parameter before o) Redeclared (token_of o first)) _ _
            (λ x. first_then Equal (declares_name o (parameter_entity defining (length before))) _ _
            (λ y. equal_then Equal (parameter_type s ty kind parts (token_of o first)) (parameter_type (renumbered n s) ty kind parts (token_of o first)) _ _ (array_same s ty kind parts (token_of o first))
            (λ whole. first_then Equal (judged_parameter defining s whole (token_of o first)) _ _ (λ z. same_give Equal _ _ refl))))
    declarator_same s before ty first (leaf token) = left_broken Equal _

    one_same : (s : Scope) (before : List Parameter) (tree : PlainTree) (at : PlainToken) → Same Equal (one_parameter defining s before tree at) (one_parameter defining (renumbered n s) before tree at)
    one_same s before (node kind (more (node words_kind words) (more declarator none))) at =
        based_then (based false s words) (based false (renumbered n s) words) (words_same false s words) before declarator (first_token_in words at)
      where
        based_then :
            (c d : Checked Based) → Same (λ x y. y ≡ based_there x) c d → (before : List Parameter) (declarator : PlainTree) (first : PlainToken)
            → Same Equal (c >>= (λ base. declared_parameter defining s before base.ty first declarator)) (d >>= (λ base. declared_parameter defining (renumbered n s) before base.ty first declarator))
        based_then c d h before declarator first = made_then based_there Equal c d _ _ h (λ b. declarator_same s before b.ty first declarator)
    one_same s before _ at = left_broken Equal _

    parameter_scope : (s : Scope) (slot : ℕ) (name : Option PlainToken) (ty : PlainType) → renumbered n (with_parameter s slot name ty) ≡ with_parameter (renumbered n s) slot name ty
    parameter_scope s slot None ty = refl
    parameter_scope s slot (Some name) ty = refl

    from_same :
        (parts : PlainTrees) (s : Scope) (before : List Parameter) (at : PlainToken) → Same Equal (parameters_from defining s before parts at) (parameters_from defining (renumbered n s) before parts at)
    from_same none s before at = same_give Equal _ _ refl
    from_same (more tree none) s before at = equal_then Equal (one_parameter defining s before tree at) (one_parameter defining (renumbered n s) before tree at) _ _ (one_same s before tree at) (λ p. same_give Equal _ _ refl)
    from_same (more tree (more comma rest)) s before at =
        equal_then Equal (one_parameter defining s before tree at) (one_parameter defining (renumbered n s) before tree at) _ _ (one_same s before tree at)
        (λ p. subst (λ x. Same Equal (parameters_from defining (with_parameter s (length before) p.name p.ty) (before ++ p ∷ []) rest at) (parameters_from defining x (before ++ p ∷ []) rest at)) (parameter_scope s (length before) p.name p.ty)
        (from_same rest (with_parameter s (length before) p.name p.ty) (before ++ p ∷ []) at))

    list_same : (s : Scope) (tree : PlainTree) (at : PlainToken) → Same Equal (parameters_in defining s tree at) (parameters_in defining (renumbered n s) tree at)
    list_same s (node k.Parameters parts) at = same_if Equal (is_lone_void parts) _ _ _ _ (same_give Equal _ _ refl) (from_same parts (with_block s) [] at)
    list_same s _ at = same_give Equal _ _ refl

    pub parameters_same : (s : Scope) (o : Option PlainTree) (at : PlainToken) → Same Equal (parameters_of defining s o at) (parameters_of defining (renumbered n s) o at)
    parameters_same s None at = left_broken Equal _
    parameters_same s (Some tree) at = list_same s tree at

  -- ---- locals

  pub record SameLocals (x y : Locals) : Type 0 where
    pub items : List LocalItem
    pub is : y ≡ record { scope = renumbered n x.scope; slots = x.slots; items = items }

  pub locals_then :
      {B : Type 0} (W : B → B → Type 0) (c d : Checked Locals) (f g : Locals → Checked B) → Same SameLocals c d
      → ((x : Locals) (items : List LocalItem) → Same W (f x) (g (record { scope = renumbered n x.scope; slots = x.slots; items = items }))) → Same W (c >>= f) (d >>= g)
  locals_then W c d f g h next = same_then SameLocals W c d f g h (λ x y v. subst (λ z. Same W (f x) (g z)) (sym v.is) (next x v.items))

  given_same : (s : Scope) (ty : PlainType) (name : PlainToken) (o : Option PlainTree) → Same Anything (local_initial s ty name o) (local_initial (renumbered n s) ty name o)
  given_same s ty name None = same_give Anything _ _ tt
  given_same s ty name (Some tree) = initial_same None None s ty [] tree name

  local_same :
      (s : Scope) (slots : List PlainType) (ty : PlainType) (kind : Kind) (parts : PlainTrees) (name : PlainToken) (o : Option PlainTree)
      → Same SameLocals (declared_local s slots ty kind parts name o) (declared_local (renumbered n s) slots ty kind parts name o)
  local_same s slots ty kind parts name o =
      first_then SameLocals (unless_so (is_new_local s name.text) Redeclared name) _ _
      (λ x. first_then SameLocals (declares (local_entity (length slots)))
      (λ bound. object_type s ty kind parts name o >>= (λ whole. judged_object s whole name >>= (λ judged_. local_initial (with_local s name.text (length slots) whole) whole name o >>= (λ given_. give (record {
        scope = with_local s name.text (length slots) whole;
        slots = slots ++ whole ∷ [];
        items = record { slot = length slots; parts = map plain_part given_ } ∷ [];
      })))))
      (λ bound. object_type (renumbered n s) ty kind parts name o >>= (λ whole. judged_object s whole name >>= (λ judged_. local_initial (renumbered n (with_local s name.text (length slots) whole)) whole name o >>= (λ given_. give (record {
        scope = renumbered n (with_local s name.text (length slots) whole);
        slots = slots ++ whole ∷ [];
        items = record { slot = length slots; parts = map plain_part given_ } ∷ [];
      })))))
      (λ y. equal_then SameLocals (object_type s ty kind parts name o) (object_type (renumbered n s) ty kind parts name o) _ _ (object_same s ty kind parts name o)
      (λ whole. first_then SameLocals (judged_object s whole name) _ _
      (λ z. any_then SameLocals (local_initial (with_local s name.text (length slots) whole) whole name o) (local_initial (renumbered n (with_local s name.text (length slots) whole)) whole name o) _ _ (given_same (with_local s name.text (length slots) whole) whole name o)
      (λ v w. same_give SameLocals _ _ (record { items = record { slot = length slots; parts = map plain_part w } ∷ []; is = refl }))))))

  one_local_same : (s : Scope) (slots : List PlainType) (ty : PlainType) (tree : PlainTree) (o : Option PlainTree) → Same SameLocals (one_local s slots ty tree o) (one_local (renumbered n s) slots ty tree o)
  one_local_same s slots ty (node kind parts) o = first_then SameLocals (or_broken (name_in parts)) _ _ (λ name. local_same s slots ty kind parts name o)
  one_local_same s slots ty (leaf token) o = left_broken SameLocals _

  more_locals :
      (s : Scope) (slots : List PlainType) (ty : PlainType) (tree : PlainTree) (o : Option PlainTree) (rest : PlainTrees)
      → ((s : Scope) (slots : List PlainType) → Same SameLocals (locals_from s slots ty rest) (locals_from (renumbered n s) slots ty rest))
      → Same SameLocals (one_local s slots ty tree o >>= (λ first. locals_from first.scope first.slots ty rest >>= (λ others. give (with_items first.items others))))
      (one_local (renumbered n s) slots ty tree o >>= (λ first. locals_from first.scope first.slots ty rest >>= (λ others. give (with_items first.items others))))
  more_locals s slots ty tree o rest next =
      locals_then SameLocals (one_local s slots ty tree o) (one_local (renumbered n s) slots ty tree o) _ _ (one_local_same s slots ty tree o)
      (λ x items. locals_then SameLocals (locals_from x.scope x.slots ty rest) (locals_from (renumbered n x.scope) x.slots ty rest) _ _ (next x.scope x.slots) (λ y others. same_give SameLocals _ _ (record { items = items ++ others; is = refl })))

  locals_same : (parts : PlainTrees) (s : Scope) (slots : List PlainType) (ty : PlainType) → Same SameLocals (locals_from s slots ty parts) (locals_from (renumbered n s) slots ty parts)
  locals_same none s slots ty = left_broken SameLocals _
  locals_same (more tree none) s slots ty = one_local_same s slots ty tree None
  locals_same (more tree (more sign none)) s slots ty = left_broken SameLocals _
  locals_same (more tree (more sign (more next none))) s slots ty =
      same_if SameLocals (is_word (t.Assign ∷ []) sign) _ _ _ _ (one_local_same s slots ty tree (Some next)) (more_locals s slots ty tree None (more next none) (λ x l. locals_same (more next none) x l ty))
  locals_same (more tree (more sign (more next (more comma rest)))) s slots ty =
      same_if SameLocals (is_word (t.Assign ∷ []) sign) _ _ _ _ (more_locals s slots ty tree (Some next) rest (λ x l. locals_same rest x l ty))
      (more_locals s slots ty tree None (more next (more comma rest)) (λ x l. locals_same (more next (more comma rest)) x l ty))

  declaration_same : (s : Scope) (slots : List PlainType) (parts : PlainTrees) → Same SameLocals (judged_locals s slots parts) (judged_locals (renumbered n s) slots parts)
  declaration_same s slots (more (node words_kind words) (more (node kind declarators) (more end_ none))) =
      made_then based_there SameLocals (based false s words) (based false (renumbered n s) words) _ _ (words_same false s words) (λ b. locals_same declarators s slots b.ty)
  declaration_same s slots _ = left_broken SameLocals _

  -- ---- statements

  discarded_same : (s : Scope) (tree : PlainTree) (e : PlainExpression) → Same Anything (discarded s tree e) (discarded (renumbered n s) tree e)
  discarded_same s (node k.Absent parts) e = same_give Anything e e tt
  discarded_same s tree e = value_then Anything (valued s tree) (valued (renumbered n s) tree) _ _ (valued_same n s tree) (λ x core. same_give Anything _ _ tt)

  condition_same : (s : Scope) (tree : PlainTree) (behind : PlainToken) → Same Anything (condition_or_true s tree behind) (condition_or_true (renumbered n s) tree behind)
  condition_same s (node k.Absent parts) behind = same_give Anything _ _ tt
  condition_same s tree behind = condition_of n s tree behind

  expression_same : (s : Scope) (tree : PlainTree) → Same Anything (expression_statement s tree) (expression_statement (renumbered n s) tree)
  expression_same s (node k.Absent parts) = same_give Anything _ _ tt
  expression_same s tree = value_then Anything (valued s tree) (valued (renumbered n s) tree) _ _ (valued_same n s tree) (λ x core. same_give Anything _ _ tt)

  abbrev pub around_there : Around → Around
  around_there a = record a { scope = renumbered n a.scope }

  returned_same : (a : Around) (word : PlainToken) (tree : PlainTree) → Same Anything (returned a word tree) (returned (around_there a) word tree)
  returned_same a word (node k.Absent parts) = itself Anything _ (λ x. tt)
  returned_same a word tree =
      first_then Anything (unless_so (not (is_void a.result)) Misplaced word) _ _
      (λ x. value_then Anything (valued a.scope tree) (valued (renumbered n a.scope) tree) _ _ (valued_same n a.scope tree)
      (λ y core. found_then Anything (fits_into a.result y) (fits_into a.result (record y { core = core })) Misplaced Misplaced word word _ _ (λ v w. same_give Anything _ _ tt)))

  pub record SameJudged (x y : Judged) : Type 0 where
    pub other : PlainStatement
    pub is : y ≡ record x { core = other }

  pub record SameItems (x y : JudgedItems) : Type 0 where
    pub other : PlainItems
    pub is : y ≡ record x { core = other }

  judged_then :
      {B : Type 0} (W : B → B → Type 0) (c d : Checked Judged) (f g : Judged → Checked B) → Same SameJudged c d → ((x : Judged) (core : PlainStatement) → Same W (f x) (g (record x { core = core }))) → Same W (c >>= f) (d >>= g)
  judged_then W c d f g h next = same_then SameJudged W c d f g h (λ x y v. subst (λ z. Same W (f x) (g z)) (sym v.is) (next x v.other))

  pub items_then :
      {B : Type 0} (W : B → B → Type 0) (c d : Checked JudgedItems) (f g : JudgedItems → Checked B) → Same SameItems c d → ((x : JudgedItems) (core : PlainItems) → Same W (f x) (g (record x { core = core }))) → Same W (c >>= f) (d >>= g)
  items_then W c d f g h next = same_then SameItems W c d f g h (λ x y v. subst (λ z. Same W (f x) (g z)) (sym v.is) (next x v.other))

  gives_judged : (x y : Judged) → y ≡ record x { core = y.core } → Same SameJudged (give x) (give y)
  gives_judged x y e = same_give SameJudged x y (record { other = y.core; is = e })

  gives_items : (x y : JudgedItems) → y ≡ record x { core = y.core } → Same SameItems (give x) (give y)
  gives_items x y e = same_give SameItems x y (record { other = y.core; is = e })

  item_then :
      (a : Around) (c d : Checked Judged) (rest : PlainTrees) → Same SameJudged c d → ((slots : List PlainType) → Same SameItems (judged_items a slots rest) (judged_items (around_there a) slots rest))
      → Same SameItems (c >>= (λ first. judged_items a first.slots rest >>= (λ behind. give (items_as behind.slots (statement_item first.core behind.core)))))
      (d >>= (λ first. judged_items (around_there a) first.slots rest >>= (λ behind. give (items_as behind.slots (statement_item first.core behind.core)))))
  item_then a c d rest h next =
      judged_then SameItems c d _ _ h (λ x core. items_then SameItems (judged_items a x.slots rest) (judged_items (around_there a) x.slots rest) _ _ (next x.slots) (λ y others. gives_items _ _ refl))

  mutual
    pub statement_same : (a : Around) (slots : List PlainType) (tree : PlainTree) → Same SameJudged (judged_statement a slots tree) (judged_statement (around_there a) slots tree)
    statement_same a slots (node k.Block (more brace (more (node k.Items items) (more last none)))) =
        items_then SameJudged (judged_items (in_block a) slots items) (judged_items (around_there (in_block a)) slots items) _ _ (items_same (in_block a) slots items) (λ x core. gives_judged _ _ refl)
    statement_same a slots (node k.Block (more brace (more (node k.Absent items) (more last none)))) = gives_judged _ _ refl
    statement_same a slots (node k.ExpressionStatement (more tree (more end_ none))) =
        any_then SameJudged (expression_statement a.scope tree) (expression_statement (renumbered n a.scope) tree) _ _ (expression_same a.scope tree) (λ x y. gives_judged _ _ refl)
    statement_same a slots (node k.If (more word (more bracket (more condition (more (leaf close) (more first (more second none))))))) =
        any_then SameJudged (judged_condition a.scope condition close) (judged_condition (renumbered n a.scope) condition close) _ _ (condition_of n a.scope condition close)
        (λ c d. judged_then SameJudged (judged_statement a slots first) (judged_statement (around_there a) slots first) _ _ (statement_same a slots first)
        (λ x core. judged_then SameJudged (judged_else a x.slots second) (judged_else (around_there a) x.slots second) _ _ (else_same a x.slots second) (λ y other. gives_judged _ _ refl)))
    statement_same a slots (node k.While (more word (more bracket (more condition (more (leaf close) (more body none)))))) =
        any_then SameJudged (judged_condition a.scope condition close) (judged_condition (renumbered n a.scope) condition close) _ _ (condition_of n a.scope condition close)
        (λ c d. judged_then SameJudged (judged_statement (within_loop a) slots body) (judged_statement (around_there (within_loop a)) slots body) _ _ (statement_same (within_loop a) slots body) (λ x core. gives_judged _ _ refl))
    statement_same a slots (node k.Do (more word (more body (more again (more bracket (more condition (more (leaf close) (more end_ none)))))))) =
        judged_then SameJudged (judged_statement (within_loop a) slots body) (judged_statement (around_there (within_loop a)) slots body) _ _ (statement_same (within_loop a) slots body)
        (λ x core. any_then SameJudged (judged_condition a.scope condition close) (judged_condition (renumbered n a.scope) condition close) _ _ (condition_of n a.scope condition close) (λ c d. gives_judged _ _ refl))
    statement_same a slots (node k.For (more word (more bracket (more (node k.LocalDeclaration parts) (more condition (more (leaf end_) (more step (more close (more body none))))))))) =
        locals_then SameJudged (judged_locals (in_block a).scope slots parts) (judged_locals (renumbered n (in_block a).scope) slots parts) _ _ (declaration_same (in_block a).scope slots parts)
        (λ l items. any_then SameJudged (condition_or_true l.scope condition end_) (condition_or_true (renumbered n l.scope) condition end_) _ _ (condition_same l.scope condition end_)
        (λ c d. any_then SameJudged (discarded l.scope step nothing_to_do) (discarded (renumbered n l.scope) step nothing_to_do) _ _ (discarded_same l.scope step nothing_to_do)
        (λ i j. judged_then SameJudged (judged_statement (within_loop (record a { scope = l.scope })) l.slots body) (judged_statement (around_there (within_loop (record a { scope = l.scope }))) l.slots body) _ _
        (statement_same (within_loop (record a { scope = l.scope })) l.slots body) (λ x core. gives_judged _ _ refl))))
    statement_same a slots (node k.For (more word (more bracket (more (node k.ForStart (more first (more semicolon none))) (more condition (more (leaf end_) (more step (more close (more body none))))))))) =
        any_then SameJudged (expression_statement a.scope first) (expression_statement (renumbered n a.scope) first) _ _ (expression_same a.scope first)
        (λ p q. any_then SameJudged (condition_or_true a.scope condition end_) (condition_or_true (renumbered n a.scope) condition end_) _ _ (condition_same a.scope condition end_)
        (λ c d. any_then SameJudged (discarded a.scope step nothing_to_do) (discarded (renumbered n a.scope) step nothing_to_do) _ _ (discarded_same a.scope step nothing_to_do)
        (λ i j. judged_then SameJudged (judged_statement (within_loop a) slots body) (judged_statement (around_there (within_loop a)) slots body) _ _ (statement_same (within_loop a) slots body) (λ x core. gives_judged _ _ refl))))
    statement_same a slots (node k.Jump (more (leaf word) (more end_ none))) = first_then SameJudged (jump a word) _ _ (λ x. gives_judged _ _ refl)
    statement_same a slots (node k.Return (more (leaf word) (more tree (more end_ none)))) =
        any_then SameJudged (returned a word tree) (returned (around_there a) word tree) _ _ (returned_same a word tree) (λ x y. gives_judged _ _ refl)
    statement_same a slots _ = left_broken SameJudged _

    else_same : (a : Around) (slots : List PlainType) (tree : PlainTree) → Same SameJudged (judged_else a slots tree) (judged_else (around_there a) slots tree)
    else_same a slots (node k.Else (more word (more tree none))) = statement_same a slots tree
    else_same a slots (node k.Absent parts) = gives_judged _ _ refl
    else_same a slots _ = left_broken SameJudged _

    pub items_same : (a : Around) (slots : List PlainType) (items : PlainTrees) → Same SameItems (judged_items a slots items) (judged_items (around_there a) slots items)
    items_same a slots none = gives_items _ _ refl
    items_same a slots (more (node k.LocalDeclaration parts) rest) =
        locals_then SameItems (judged_locals a.scope slots parts) (judged_locals (renumbered n a.scope) slots parts) _ _ (declaration_same a.scope slots parts)
        (λ l items. items_then SameItems (judged_items (record a { scope = l.scope }) l.slots rest) (judged_items (around_there (record a { scope = l.scope })) l.slots rest) _ _
        (items_same (record a { scope = l.scope }) l.slots rest) (λ x core. gives_items _ _ refl))
    items_same a slots (more tree rest) = item_then a (judged_statement a slots tree) (judged_statement (around_there a) slots tree) rest (statement_same a slots tree) (λ l. items_same a l rest)
