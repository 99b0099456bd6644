-- Words, parameters, locals and statements: what they bind is among their names.
use Rattle.std.proofs.Common.{◌≡◌, ℕ, ◌≤◌, Bool, true, false, List, [], ◌∷◌, ◌++◌, length, refl, sym, ap, subst, ◌∙◌, append_assoc, arith, append-nil}
use Rattle.std.specs.Prelude.{Option, Some, None, map}
use Rattle.std.proofs.lemmas.List.{length-append}
use Rattle.c_text.specs.Token.{PlainToken}
use Rattle.c_types.specs.Types.{PlainType, structure}
use Rattle.c_tree.specs.declared.kinds.Kind.{Kind}
use Rattle.c_tree.specs.declared.kinds.Kind.TheVariants as k
use Rattle.c_tree.specs.declared.terminals.Terminal.TheVariants as t
use Rattle.c_tree.specs.Trees.{PlainTree, PlainTrees, leaf, node, none, more}
use Rattle.c_tree.specs.Grammar.{is_word, is_lone_void}
use Rattle.core_meaning.specs.declared.refusals.TypeKind.TheVariants.{Redeclared, Incomplete, BadConstant}
use Rattle.core_meaning.specs.Checking.{local_entity, struct_entity, Binding, Checked, fine, refused, broken, ◌>>=◌, give, unless_so, or_broken, declares}
use Rattle.core_meaning.specs.Entities.{Table, Scope}
use Rattle.core_meaning.specs.Typing.{is_complete}
use Rattle.core_meaning.specs.Expressions.{has_terminal, first_token_in}
use Rattle.core_meaning.specs.Constancy.{judged_count, is_small}
use Rattle.core_meaning.specs.Declarations.{name_in, behind_word, Based, based, based_on_tag, starred, is_left_out, count_of_size, object_type, with_block, with_local, Parameter, size_of_parameter, parameter_type, token_of, is_new_parameter, parameter_entity, declares_name, may_be_parameter, judged_parameter, declared_parameter, one_parameter, with_parameter, parameters_from, parameters_in, Locals, is_new_local, judged_object, local_initial, declared_local, one_local, locals_from, judged_locals, with_struct, plain_part, LocalItem, with_items}
use Rattle.bindings.specs.Visible.{NameSpace, tags}
use Rattle.scope_readings.specs.Walks.{role}
use Rattle.entity_numbers.proofs.Uses.{Binds, All, if_binds, then_binds, unless_then as unless_binds_then, unless_binds}
use Rattle.entity_kinds.proofs.Pairs.{Never, NeverFine, never_then}
use Rattle.entity_kinds.proofs.Declarators.{object_quiet, whole_object_quiet}
use Rattle.bound_slots.specs.Laws.{SizesBindNothing}
use Rattle.name_spaces.specs.Spaces.{spaces_in_parts, space_by}
use Rattle.name_spaces.proofs.Formed.{IsFormed, AreFormed, AreSpecifiers, AreDeclarators, IsParameter, AllParameters}
use Rattle.name_spaces.proofs.Embeddings.{Spaces, Declares}
use Rattle.name_spaces.proofs.Uses.{names, Uses, uses_give, initial_uses, Worded}
use Rattle.name_spaces.proofs.Listed.{spaces_at, Anything, Lists, lists_give, lists_behind, lists_never, lists_if, quiet_then, unless_then, some_then, declares_then, lists_uses, part_then, past, part_last, valued_then, valued_last, lists_last, name_at, Turns}

-- ---- sizes bind nothing

module _ (counts : SizesBindNothing) where
  count_quiet : (c : Checked ℕ) → ((n : ℕ) (js : List Binding) → c ≡ fine n js → js ≡ []) → Binds Never c
  count_quiet (fine n js) h = record { all = subst (λ (l : List Binding). All Never l) (sym (h n js refl)) tt }
  count_quiet (refused kind token) h = record { all = tt }
  count_quiet broken h = record { all = tt }

  size_quiet : (s : Scope) (name : PlainToken) (o : Option PlainTree) → Binds Never (count_of_size s name o)
  size_quiet s name None = record { all = tt }
  size_quiet s name (Some size) = count_quiet (judged_count s size name) (λ n js e. counts s size name n js e)

  parameter_quiet : (s : Scope) (ty : PlainType) (kind : Kind) (parts : PlainTrees) (name : PlainToken) → Binds Never (parameter_type s ty kind parts name)
  parameter_quiet s ty k.ArrayDeclarator parts name =
      unless_binds_then Never (is_complete s.structs (starred parts ty)) Incomplete name _
      (λ x. then_binds Never (size_of_parameter s name (behind_word t.OpenBracket parts)) _
      (if_binds Never (is_left_out (behind_word t.OpenBracket parts)) _ _ (record { all = tt }) (size_quiet s name (behind_word t.OpenBracket parts))) (λ count. record { all = tt }))
  parameter_quiet s ty k.Declarator parts name = record { all = tt }
  parameter_quiet s ty _ parts name = record { all = tt }

judged_quiet : (defining : Bool) (s : Scope) (ty : PlainType) (name : PlainToken) → Binds Never (judged_parameter defining s ty name)
judged_quiet defining s ty name = unless_binds_then Never (may_be_parameter defining s ty) Incomplete name _ (λ x. unless_binds Never (is_small s.structs ty) BadConstant name)

-- what is visible behind declarations is spelt so, too
abbrev pub WordedBehind : Locals → Type 0
WordedBehind x = Worded x.scope

-- an initialiser, if there is one, and its names
abbrev pub IsGiven : Option PlainTree → Type 0
IsGiven None = Unit {0}
IsGiven (Some tree) = IsFormed tree

abbrev pub names_given : Option PlainTree → ℕ
names_given None = 0
names_given (Some tree) = names tree

module _ (known : Table ℕ) where
  -- ---- words

  tag_lists : (declaring : Bool) (s : Scope) (tag : PlainToken) (o : Option ℕ) (spaces : Spaces) → Lists known (Anything {A = Based}) (Some tags ∷ spaces) (based_on_tag declaring s tag o)
  tag_lists declaring s tag (Some n) spaces = declares_then known Anything (Some tags) spaces (struct_entity n) _ tt (λ x. lists_give known Anything spaces (record { ty = structure n; scope = s }) tt)
  tag_lists false s tag None spaces = record { listed = tt }
  tag_lists true s tag None spaces = declares_then known Anything (Some tags) spaces (struct_entity (length s.structs)) _ tt (λ x. lists_give known Anything spaces (record { ty = structure (length s.structs); scope = with_struct s tag.text }) tt)

  module _ (declaring : Bool) (s : Scope) (around : Kind) (struct : List ℕ) where
    pub words_list : (words : PlainTrees) → Lists known (Anything {A = Based}) (spaces_in_parts around struct k.Specifiers false words) (based declaring s words)
    words_list words =
        lists_if known Anything (spaces_in_parts around struct k.Specifiers false words) (has_terminal t.Struct words) _ _
        (some_then known Anything (spaces_in_parts around struct k.Specifiers false words) (name_in words) (λ tag. based_on_tag declaring s tag (s.tags tag.text))
        (λ tag e. let n = name_at around struct k.Specifiers (λ token turn. refl) words tag e in
        subst (λ (l : Spaces). Lists known (Anything {A = Based}) l (based_on_tag declaring s tag (s.tags tag.text))) (sym n.is)
        (lists_behind known Anything n.before (Some tags ∷ n.behind) (based_on_tag declaring s tag (s.tags tag.text)) (tag_lists declaring s tag (s.tags tag.text) n.behind))))
        (record { listed = (tt, tt) })

  pub specifiers_list :
      (declaring : Bool) (s : Scope) (around : Kind) (struct : List ℕ) (kind : Kind) (turned : Bool) (inner : Kind) (words : PlainTrees) → AreSpecifiers (node inner words)
      → Lists known (Anything {A = Based}) (spaces_at around struct kind turned (node inner words)) (based declaring s words)
  specifiers_list declaring s around struct kind turned k.Specifiers words are = words_list declaring s around struct words
  specifiers_list declaring s around struct kind turned _ words are = absurd are

  module _ (counts : SizesBindNothing) where
    -- ---- parameters

    slot_lists : (defining : Bool) (n : ℕ) → Declares known None (parameter_entity defining n)
    slot_lists true n = tt
    slot_lists false n = tt

    module _ (defining : Bool) (struct : List ℕ) where
      abbrev name_then : Scope → List Parameter → PlainType → PlainToken → Kind → PlainTrees → Option PlainToken → Checked Parameter
      name_then s before ty first kind parts o =
          unless_so (is_new_parameter before o) Redeclared (token_of o first) >>= (λ new. declares_name o (parameter_entity defining (length before))
          >>= (λ bound. parameter_type s ty kind parts (token_of o first) >>= (λ whole. judged_parameter defining s whole (token_of o first) >>= (λ judged. give (record { name = o; ty = whole })))))

      named_lists :
          (s : Scope) (before : List Parameter) (ty : PlainType) (first : PlainToken) (kind : Kind) (parts : PlainTrees) → Turns kind
          → space_by k.Parameter struct (role kind false) ≡ None → (o : Option PlainToken) → name_in parts ≡ o
          → Lists known (Anything {A = Parameter}) (spaces_in_parts k.Parameter struct kind false parts) (name_then s before ty first kind parts o)
      named_lists s before ty first kind parts only slot None e =
          unless_then known Anything (spaces_in_parts k.Parameter struct kind false parts) (is_new_parameter before None) Redeclared first _
          (λ x. quiet_then known Anything (spaces_in_parts k.Parameter struct kind false parts) (give {A = Unit {0}} tt) _ (record { all = tt })
          (λ y. quiet_then known Anything (spaces_in_parts k.Parameter struct kind false parts) (parameter_type s ty kind parts first) _ (parameter_quiet counts s ty kind parts first)
          (λ whole. quiet_then known Anything (spaces_in_parts k.Parameter struct kind false parts) (judged_parameter defining s whole first) _ (judged_quiet defining s whole first)
          (λ z. lists_give known Anything (spaces_in_parts k.Parameter struct kind false parts) (record { name = None; ty = whole }) tt))))
      named_lists s before ty first kind parts only slot (Some name) e =
          let n = name_at k.Parameter struct kind only parts name e in
          subst (λ (l : Spaces). Lists known (Anything {A = Parameter}) l (name_then s before ty first kind parts (Some name))) (sym (n.is ∙ ap (λ (x : Option NameSpace). n.before ++ x ∷ n.behind) slot))
          (lists_behind known Anything n.before (None ∷ n.behind) (name_then s before ty first kind parts (Some name))
          (unless_then known Anything (None ∷ n.behind) (is_new_parameter before (Some name)) Redeclared name _
          (λ x. declares_then known Anything None n.behind (parameter_entity defining (length before)) _ (slot_lists defining (length before))
          (λ y. quiet_then known Anything n.behind (parameter_type s ty kind parts name) _ (parameter_quiet counts s ty kind parts name)
          (λ whole. quiet_then known Anything n.behind (judged_parameter defining s whole name) _ (judged_quiet defining s whole name)
          (λ z. lists_give known Anything n.behind (record { name = Some name; ty = whole }) tt))))))

      other_never :
          (s : Scope) (before : List Parameter) (ty : PlainType) (first : PlainToken) (kind : Kind) (parts : PlainTrees) → ((name : PlainToken) → parameter_type s ty kind parts name ≡ broken)
          → NeverFine (name_then s before ty first kind parts (name_in parts))
      other_never s before ty first kind parts is =
          never_then (unless_so (is_new_parameter before (name_in parts)) Redeclared (token_of (name_in parts) first)) _
          (λ x. never_then (declares_name (name_in parts) (parameter_entity defining (length before))) _
          (λ y. subst (λ (c : Checked PlainType). NeverFine {A = Parameter} (c >>= (λ whole. judged_parameter defining s whole (token_of (name_in parts) first) >>= (λ judged. give (record { name = name_in parts; ty = whole })))))
          (sym (is (token_of (name_in parts) first))) tt))

      declared_lists :
          (s : Scope) (before : List Parameter) (ty : PlainType) (first : PlainToken) (tree : PlainTree) (kind : Kind) (turned : Bool)
          → Lists known (Anything {A = Parameter}) (spaces_at k.Parameter struct kind turned tree) (declared_parameter defining s before ty first tree)
      declared_lists s before ty first (leaf token) kind turned = record { listed = tt }
      declared_lists s before ty first (node k.Absent parts) kind turned =
          quiet_then known Anything (spaces_at k.Parameter struct kind turned (node k.Absent parts)) (judged_parameter defining s ty first) _ (judged_quiet defining s ty first)
          (λ x. lists_give known Anything (spaces_at k.Parameter struct kind turned (node k.Absent parts)) (record { name = None; ty = ty }) tt)
      declared_lists s before ty first (node k.Declarator parts) kind turned = named_lists s before ty first k.Declarator parts (λ token turn. refl) refl (name_in parts) refl
      declared_lists s before ty first (node k.ArrayDeclarator parts) kind turned = named_lists s before ty first k.ArrayDeclarator parts (λ token turn. turn) refl (name_in parts) refl
      declared_lists s before ty first (node inner parts) kind turned =
          lists_never known Anything (spaces_at k.Parameter struct kind turned (node inner parts)) _ (other_never s before ty first inner parts (λ name. refl))

      one_lists :
          (s : Scope) (before : List Parameter) (tree : PlainTree) (behind : PlainToken) → IsFormed tree → IsParameter tree → (around kind : Kind) (turned : Bool)
          → Lists known (Anything {A = Parameter}) (spaces_at around struct kind turned tree) (one_parameter defining s before tree behind)
      one_lists s before (node k.Parameter (more (node words_kind words) (more declarator none))) behind h is around kind turned =
          part_then known k.Parameter struct k.Parameter Anything Anything false (node words_kind words) (more declarator none) (based false s words) (λ base. declared_parameter defining s before base.ty (first_token_in words behind) declarator)
          (specifiers_list false s k.Parameter struct k.Parameter false words_kind words h.0)
          (λ base y later. part_last known k.Parameter struct k.Parameter Anything later declarator none (declared_parameter defining s before base.ty (first_token_in words behind) declarator)
          (declared_lists s before base.ty (first_token_in words behind) declarator k.Parameter later))
      one_lists s before (leaf token) behind h is around kind turned = record { listed = tt }
      one_lists s before (node k.Parameter none) behind h is around kind turned = record { listed = tt }
      one_lists s before (node k.Parameter _) behind h is around kind turned = record { listed = tt }
      one_lists s before (node _ parts) behind h is around kind turned = absurd is

      from_lists :
          (parts : PlainTrees) (s : Scope) (before : List Parameter) (behind : PlainToken) → AreFormed parts → AllParameters parts → (around kind : Kind) (turned : Bool)
          → Lists known (Anything {A = List Parameter}) (spaces_in_parts around struct kind turned parts) (parameters_from defining s before parts behind)
      from_lists none s before behind h are around kind turned = lists_give known Anything [] before tt
      from_lists (more tree none) s before behind h are around kind turned =
          part_then known around struct kind Anything Anything turned tree none (one_parameter defining s before tree behind) _ (one_lists s before tree behind h.0 are.0 around kind turned)
          (λ p y later. lists_give known Anything [] (before ++ p ∷ []) tt)
      from_lists (more tree (more comma rest)) s before behind h are around kind turned =
          part_then known around struct kind Anything Anything turned tree (more comma rest) (one_parameter defining s before tree behind) _ (one_lists s before tree behind h.0 are.0 around kind turned)
          (λ p y later. past known around struct kind Anything later comma rest _
          (λ last. from_lists rest (with_parameter s (length before) p.name p.ty) (before ++ p ∷ []) behind h.1.1 are.1.1 around kind last))

      pub parameters_list :
          (s : Scope) (list : PlainTrees) (behind : PlainToken) → IsFormed (node k.Parameters list) → (around kind : Kind) (turned : Bool)
          → Lists known (Anything {A = List Parameter}) (spaces_at around struct kind turned (node k.Parameters list)) (parameters_in defining s (node k.Parameters list) behind)
      parameters_list s list behind h around kind turned =
          lists_if known Anything (spaces_at around struct kind turned (node k.Parameters list)) (is_lone_void list) _ _ (lists_give known Anything (spaces_at around struct kind turned (node k.Parameters list)) [] tt)
          (from_lists list (with_block s) [] behind h.1 h.0 around k.Parameters false)

    -- ---- locals

    given_uses : (s : Scope) → Worded s → (ty : PlainType) (name : PlainToken) (o : Option PlainTree) → IsGiven o → Uses (names_given o) (local_initial s ty name o)
    given_uses s worded ty name None h = uses_give 0 []
    given_uses s worded ty name (Some tree) h = initial_uses s worded None ty [] tree name h

    module _ (struct : List ℕ) where
      declared_local_lists :
          (s : Scope) → Worded s → (slots : List PlainType) (ty : PlainType) (kind : Kind) (parts : PlainTrees) → Turns kind
          → space_by k.LocalDeclaration struct (role kind false) ≡ None → (name : PlainToken) → name_in parts ≡ Some name → (o : Option PlainTree) → IsGiven o
          → (others : Spaces) → names_given o ≤ length others
          → Lists known WordedBehind (spaces_in_parts k.LocalDeclaration struct kind false parts ++ others) (declared_local s slots ty kind parts name o)
      declared_local_lists s worded slots ty kind parts only slot name e o given_ others less =
          let n = name_at k.LocalDeclaration struct kind only parts name e in
          let last : Spaces = n.behind ++ others in
          let count = length-append n.behind others in
          subst (λ (l : Spaces). Lists known WordedBehind l (declared_local s slots ty kind parts name o))
          (sym (ap (λ (l : Spaces). l ++ others) (n.is ∙ ap (λ (x : Option NameSpace). n.before ++ x ∷ n.behind) slot) ∙ append_assoc n.before (None ∷ n.behind) others))
          (lists_behind known WordedBehind n.before (None ∷ last) (declared_local s slots ty kind parts name o)
          (unless_then known WordedBehind (None ∷ last) (is_new_local s name.text) Redeclared name _
          (λ new. declares_then known WordedBehind None last (local_entity (length slots)) _ tt
          (λ bound. quiet_then known WordedBehind last (object_type s ty kind parts name o) _ (object_quiet counts s ty kind parts name o)
          (λ whole. quiet_then known WordedBehind last (judged_object s whole name) _ (whole_object_quiet counts s whole name)
          (λ judged. lists_last known Anything WordedBehind last (local_initial (with_local s name.text (length slots) whole) whole name o) _
          (lists_uses known (names_given o) last (local_initial (with_local s name.text (length slots) whole) whole name o) (omega (arith, less, count)) (given_uses (with_local s name.text (length slots) whole) worded whole name o given_))
          (λ given y. lists_give known WordedBehind [] (record {
            scope = with_local s name.text (length slots) whole;
            slots = slots ++ whole ∷ [];
            items = record { slot = length slots; parts = map plain_part given } ∷ [];
          }) worded)))))))

      local_never :
          (s : Scope) (slots : List PlainType) (ty : PlainType) (kind : Kind) (parts : PlainTrees) (o : Option PlainTree) → ((name : PlainToken) → object_type s ty kind parts name o ≡ broken)
          → NeverFine (one_local s slots ty (node kind parts) o)
      local_never s slots ty kind parts o is =
          never_then (or_broken (name_in parts)) _
          (λ name. never_then (unless_so (is_new_local s name.text) Redeclared name) _
          (λ new. never_then (declares (local_entity (length slots))) _
          (λ bound. subst (λ (c : Checked PlainType). NeverFine {A = Locals} (c >>= (λ whole. judged_object s whole name >>= (λ judged. local_initial (with_local s name.text (length slots) whole) whole name o >>= (λ given. give (record {
            scope = with_local s name.text (length slots) whole;
            slots = slots ++ whole ∷ [];
            items = record { slot = length slots; parts = map plain_part given } ∷ [];
          })))))) (sym (is name)) tt)))

      one_local_lists :
          (s : Scope) → Worded s → (slots : List PlainType) (ty : PlainType) (tree : PlainTree) (o : Option PlainTree) → IsGiven o → (others : Spaces) → names_given o ≤ length others → (kind : Kind) (turned : Bool)
          → Lists known WordedBehind (spaces_at k.LocalDeclaration struct kind turned tree ++ others) (one_local s slots ty tree o)
      one_local_lists s worded slots ty (leaf token) o given_ others less kind turned = record { listed = tt }
      one_local_lists s worded slots ty (node k.Declarator parts) o given_ others less kind turned =
          some_then known WordedBehind (spaces_in_parts k.LocalDeclaration struct k.Declarator false parts ++ others) (name_in parts) (λ name. declared_local s slots ty k.Declarator parts name o)
          (λ name e. declared_local_lists s worded slots ty k.Declarator parts (λ token turn. refl) refl name e o given_ others less)
      one_local_lists s worded slots ty (node k.ArrayDeclarator parts) o given_ others less kind turned =
          some_then known WordedBehind (spaces_in_parts k.LocalDeclaration struct k.ArrayDeclarator false parts ++ others) (name_in parts) (λ name. declared_local s slots ty k.ArrayDeclarator parts name o)
          (λ name e. declared_local_lists s worded slots ty k.ArrayDeclarator parts (λ token turn. turn) refl name e o given_ others less)
      one_local_lists s worded slots ty (node inner parts) o given_ others less kind turned =
          lists_never known WordedBehind (spaces_at k.LocalDeclaration struct kind turned (node inner parts) ++ others) _ (local_never s slots ty inner parts o (λ name. refl))

      alone : (s : Scope) → Worded s → (slots : List PlainType) (ty : PlainType) (tree : PlainTree) (turned : Bool) → Lists known WordedBehind (spaces_at k.LocalDeclaration struct k.Declarators turned tree) (one_local s slots ty tree None)
      alone s worded slots ty tree turned =
          subst (λ (l : Spaces). Lists known WordedBehind l (one_local s slots ty tree None)) (append-nil (spaces_at k.LocalDeclaration struct k.Declarators turned tree))
          (one_local_lists s worded slots ty tree None tt [] (omega arith) k.Declarators turned)

      abbrev with_others : List LocalItem → Locals → Checked Locals
      with_others items others = give (with_items items others)

      locals_list :
          (parts : PlainTrees) (s : Scope) → Worded s → (slots : List PlainType) (ty : PlainType) → AreFormed parts → (turned : Bool)
          → Lists known WordedBehind (spaces_in_parts k.LocalDeclaration struct k.Declarators turned parts) (locals_from s slots ty parts)
      locals_list none s worded slots ty h turned = record { listed = tt }
      locals_list (more tree none) s worded slots ty h turned =
          part_last known k.LocalDeclaration struct k.Declarators WordedBehind turned tree none (one_local s slots ty tree None) (alone s worded slots ty tree turned)
      locals_list (more tree (more sign none)) s worded slots ty h turned = record { listed = tt }
      locals_list (more tree (more sign (more next none))) s worded slots ty h turned =
          lists_if known WordedBehind (spaces_in_parts k.LocalDeclaration struct k.Declarators turned (more tree (more sign (more next none)))) (is_word (t.Assign ∷ []) sign) _ _
          (valued_last known k.LocalDeclaration struct k.Declarators WordedBehind turned tree sign next (one_local s slots ty tree (Some next))
          (λ others less. one_local_lists s worded slots ty tree (Some next) h.1.1.0 others less k.Declarators turned))
          (part_then known k.LocalDeclaration struct k.Declarators WordedBehind WordedBehind turned tree (more sign (more next none)) (one_local s slots ty tree None) _ (alone s worded slots ty tree turned)
          (λ first w later. past known k.LocalDeclaration struct k.Declarators WordedBehind later sign (more next none) _
          (λ last. lists_last known WordedBehind WordedBehind (spaces_in_parts k.LocalDeclaration struct k.Declarators last (more next none)) (locals_from first.scope first.slots ty (more next none)) (with_others first.items)
          (locals_list (more next none) first.scope w first.slots ty h.1.1 last) (λ others v. lists_give known WordedBehind [] (with_items first.items others) v))))
      locals_list (more tree (more sign (more next (more comma rest)))) s worded slots ty h turned =
          lists_if known WordedBehind (spaces_in_parts k.LocalDeclaration struct k.Declarators turned (more tree (more sign (more next (more comma rest))))) (is_word (t.Assign ∷ []) sign) _ _
          (valued_then known k.LocalDeclaration struct k.Declarators WordedBehind WordedBehind turned tree sign next (more comma rest) (one_local s slots ty tree (Some next)) _
          (λ others less. one_local_lists s worded slots ty tree (Some next) h.1.1.0 others less k.Declarators turned)
          (λ first w later. past known k.LocalDeclaration struct k.Declarators WordedBehind later comma rest _
          (λ last. lists_last known WordedBehind WordedBehind (spaces_in_parts k.LocalDeclaration struct k.Declarators last rest) (locals_from first.scope first.slots ty rest) (with_others first.items)
          (locals_list rest first.scope w first.slots ty h.1.1.1.1 last) (λ others v. lists_give known WordedBehind [] (with_items first.items others) v))))
          (part_then known k.LocalDeclaration struct k.Declarators WordedBehind WordedBehind turned tree (more sign (more next (more comma rest))) (one_local s slots ty tree None) _ (alone s worded slots ty tree turned)
          (λ first w later. past known k.LocalDeclaration struct k.Declarators WordedBehind later sign (more next (more comma rest)) _
          (λ last. lists_last known WordedBehind WordedBehind (spaces_in_parts k.LocalDeclaration struct k.Declarators last (more next (more comma rest))) (locals_from first.scope first.slots ty (more next (more comma rest))) (with_others first.items)
          (locals_list (more next (more comma rest)) first.scope w first.slots ty h.1.1 last) (λ others v. lists_give known WordedBehind [] (with_items first.items others) v))))

      declarators_list :
          (s : Scope) → Worded s → (slots : List PlainType) (ty : PlainType) (inner : Kind) (list : PlainTrees) → AreDeclarators (node inner list) → AreFormed list → (kind : Kind) (turned : Bool)
          → Lists known WordedBehind (spaces_at k.LocalDeclaration struct kind turned (node inner list)) (locals_from s slots ty list)
      declarators_list s worded slots ty k.Declarators list are h kind turned = locals_list list s worded slots ty h false
      declarators_list s worded slots ty _ list are h kind turned = absurd are

    pub declarations_list :
        (parts : PlainTrees) (s : Scope) → Worded s → (slots : List PlainType) → IsFormed (node k.LocalDeclaration parts) → (around : Kind) (struct : List ℕ) (kind : Kind) (turned : Bool)
        → Lists known WordedBehind (spaces_at around struct kind turned (node k.LocalDeclaration parts)) (judged_locals s slots parts)
    declarations_list (more (node words_kind words) (more (node list_kind list) (more end_ none))) s worded slots h around struct kind turned =
        part_then known k.LocalDeclaration struct k.LocalDeclaration Anything WordedBehind false (node words_kind words) (more (node list_kind list) (more end_ none)) (based false s words) (λ base. locals_from s slots base.ty list)
        (specifiers_list false s k.LocalDeclaration struct k.LocalDeclaration false words_kind words h.0.0)
        (λ base y later. part_last known k.LocalDeclaration struct k.LocalDeclaration WordedBehind later (node list_kind list) (more end_ none) (locals_from s slots base.ty list)
        (declarators_list struct s worded slots base.ty list_kind list h.0.1 h.1.1.0.1 k.LocalDeclaration later))
    declarations_list _ s worded slots h around struct kind turned = record { listed = tt }
