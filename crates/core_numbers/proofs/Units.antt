-- Units bind the same, whatever numbers names have.
use Rattle.std.proofs.Common.{◌≡◌, ℕ, ◌+◌, Bool, true, false, List, [], ◌∷◌, refl, sym, ap, subst, ◌∙◌, length}
use Rattle.std.specs.Prelude.{Option, Some, None, is_some, not, ◌&&◌}
use Rattle.c_text.specs.Token.{PlainToken}
use Rattle.c_types.specs.Types.{PlainType}
use Rattle.c_tree.specs.declared.kinds.Kind.{Kind}
use Rattle.c_tree.specs.declared.kinds.Kind.TheVariants as k
use Rattle.c_tree.specs.declared.terminals.Terminal.TheVariants as t
use Rattle.c_tree.specs.Trees.{PlainTree, PlainTrees, leaf, node, none, more}
use Rattle.c_tree.specs.Grammar.{is_word}
use Rattle.core_meaning.specs.declared.refusals.TypeKind.TheVariants.{Redeclared, Incomplete}
use Rattle.core_meaning.specs.Checking.{file_entity, member_entity, Checked, fine, ◌>>=◌, give, unless_so, or_broken, declares}
use Rattle.core_meaning.specs.Entities.{no_entry, Struct, Sort, variable, function, FileName, Numbers, Scope}
use Rattle.core_meaning.specs.Typing.{is_complete}
use Rattle.core_meaning.specs.Constancy.{initial}
use Rattle.core_meaning.specs.Declarations.{name_in, behind_word, based, starred, object_type, Parameter, parameters_of, with_block, with_parameter}
use Rattle.core_meaning.specs.UnitNames.{object_body, tentative_body, function_body, Defined, UnitState, Storage, by_static, by_extern, by_none, storage_of, is_function, same_sort, same_bool, linkage, declared_as, with_name, judged_global, constant_parts, with_defined, with_scope, defined_object, declared_object, parameter_types, signature_of, refused_initialiser, may_be_function, new_function, declared_function, declared_one, declared_from, with_parameters, is_result, result_kind, judged_body, count_functions, defined_function, Members, with_member, declared_member, one_member, members_from, AllMembers, all_members, is_defined_tag, number_of_struct, defined_struct, judged_item, judged_file_items, unit_start, too_big_in, unless_too_big, judged_unit}
use Rattle.entity_kinds.proofs.Units.{still_as_many}
use Rattle.cond_sizes.specs.Laws.{CountsNeedNoNames}
use Rattle.bound_slots.specs.Laws.{SizesBindNothing}
use Rattle.core_numbers.specs.Laws.{BindingsNeedNoNumbers}
use Rattle.core_numbers.proofs.Twice.{Sides, Same, Anything, Equal, left_refused, left_broken, same_give, itself, same_then, any_then, equal_then, made_then, first_then, same_if, unless_then, same_function}
use Rattle.core_numbers.proofs.Expressions.{renumbered}
use Rattle.core_numbers.proofs.Declarations.{initial_same, based_there, words_same, object_same, parameters_same, SameItems, items_then, items_same}

-- ---- what is judged last

small_same : (o p : Option PlainToken) → Same {A = Unit {0}} Anything (unless_too_big o) (unless_too_big p)
small_same None None = same_give Anything tt tt tt
small_same None (Some name) = record { holds = tt }
small_same (Some name) p = left_refused Anything _ _ _

module _ (nameless : CountsNeedNoNames) (counts : SizesBindNothing) (n : Numbers) where
  -- ---- units up to a place

  record SameUnits (x y : UnitState) : Type 0 where
    defined : List Defined
    functions : count_functions x.defined ≡ count_functions defined
    is : y ≡ record { scope = renumbered n x.scope; defined = defined }

  abbrev there : UnitState → List Defined → UnitState
  there x defined = record { scope = renumbered n x.scope; defined = defined }

  unit_then :
      {B : Type 0} (W : B → B → Type 0) (c d : Checked UnitState) (f g : UnitState → Checked B) → Same SameUnits c d
      → ((x : UnitState) (ds : List Defined) → count_functions x.defined ≡ count_functions ds → Same W (f x) (g (there x ds))) → Same W (c >>= f) (d >>= g)
  unit_then W c d f g h next = same_then SameUnits W c d f g h (λ x y v. subst (λ z. Same W (f x) (g z)) (sym v.is) (next x v.defined v.functions))

  gives_unit : (x : UnitState) (ds : List Defined) → count_functions x.defined ≡ count_functions ds → Same SameUnits (give x) (give (there x ds))
  gives_unit x ds e = same_give SameUnits x (there x ds) (record { defined = ds; functions = e; is = refl })

  -- ---- names

  abbrev Renumbers : Scope → Scope → Type 0
  Renumbers x y = y ≡ renumbered n x

  again_same : (s : Scope) (name : PlainToken) (sort : Sort) (internal : Bool) (o : Option FileName) → Same Renumbers (declared_as s name sort internal o) (declared_as (renumbered n s) name sort internal o)
  again_same s name sort internal (Some v) = first_then Renumbers (unless_so (same_sort v.sort sort && same_bool v.internal internal) Redeclared name) _ _ (λ x. same_give Renumbers s (renumbered n s) refl)
  again_same s name sort internal None = same_give Renumbers _ _ refl

  name_same : (s : Scope) (name : PlainToken) (sort : Sort) (storage : Storage) → Same Renumbers (with_name s name sort storage) (with_name (renumbered n s) name sort storage)
  name_same s name sort storage = again_same s name sort (linkage storage (is_function sort) (s.file_names name.text)) (s.file_names name.text)

  -- ---- objects

  module _ (globals count : ℕ) where
    defined_same :
        (x : UnitState) (ds : List Defined) (storage : Storage) (ty : PlainType) (name : PlainToken) (o : Option PlainTree) → count_functions x.defined ≡ count_functions ds
        → Same SameUnits (defined_object globals x storage ty name o) (defined_object count (there x ds) storage ty name o)
    defined_same x ds by_extern ty name None e = gives_unit x ds e
    defined_same x ds by_static ty name None e = gives_unit _ _ (still_as_many x.defined ds (record { name = name.text; body = tentative_body }) (record { name = name.text; body = tentative_body }) refl e)
    defined_same x ds by_none ty name None e = gives_unit _ _ (still_as_many x.defined ds (record { name = name.text; body = tentative_body }) (record { name = name.text; body = tentative_body }) refl e)
    defined_same x ds storage ty name (Some tree) e =
        any_then SameUnits (initial x.scope (Some globals) ty [] tree name) (initial (renumbered n x.scope) (Some count) ty [] tree name) _ _ (initial_same nameless counts n (Some globals) (Some count) x.scope ty [] tree name)
        (λ a b. same_then Anything SameUnits (or_broken (constant_parts globals a)) (or_broken (constant_parts count b)) _ _ (parts_same (constant_parts globals a) (constant_parts count b))
        (λ v w z. gives_unit _ _ (still_as_many x.defined ds (record { name = name.text; body = object_body v }) (record { name = name.text; body = object_body w }) refl e)))
      where
        parts_same : {A : Type 0} (a b : Option A) → Same Anything (or_broken a) (or_broken b)
        parts_same (Some a) (Some b) = same_give Anything a b tt
        parts_same (Some a) None = record { holds = tt }
        parts_same None b = left_broken Anything _

    object_declared_same :
        (x : UnitState) (ds : List Defined) (storage : Storage) (ty : PlainType) (kind : Kind) (parts : PlainTrees) (name : PlainToken) (o : Option PlainTree) (rest : PlainTrees) → count_functions x.defined ≡ count_functions ds
        → Same SameUnits (declared_object globals x storage ty kind parts name o rest) (declared_object count (there x ds) storage ty kind parts name o rest)
    object_declared_same x ds storage ty kind parts name o rest e =
        first_then SameUnits (declares (file_entity name.text))
        (λ bound. object_type x.scope ty kind parts name o >>= (λ whole. with_name x.scope name (variable whole) storage >>= (λ scope. judged_global storage (is_some o) scope whole name rest >>= (λ judged_. defined_object globals (with_scope x scope) storage whole name o))))
        (λ bound. object_type (renumbered n x.scope) ty kind parts name o >>= (λ whole. with_name (renumbered n x.scope) name (variable whole) storage >>= (λ scope. judged_global storage (is_some o) scope whole name rest >>= (λ judged_. defined_object count (with_scope (there x ds) scope) storage whole name o))))
        (λ y. equal_then SameUnits (object_type x.scope ty kind parts name o) (object_type (renumbered n x.scope) ty kind parts name o) _ _ (object_same nameless counts n x.scope ty kind parts name o)
        (λ whole. made_then (renumbered n) SameUnits (with_name x.scope name (variable whole) storage) (with_name (renumbered n x.scope) name (variable whole) storage) _ _ (name_same x.scope name (variable whole) storage)
        (λ scope. first_then SameUnits (judged_global storage (is_some o) scope whole name rest) _ _ (λ z. defined_same (with_scope x scope) ds storage whole name o e))))

    -- ---- functions

    new_same :
        (defining : Bool) (s : Scope) (storage : Storage) (ty : PlainType) (parts : PlainTrees) (name : PlainToken) → Same Equal (new_function defining s storage ty parts name) (new_function defining (renumbered n s) storage ty parts name)
    new_same defining s storage ty parts name =
        first_then Equal (unless_so (may_be_function storage ty (s.file_names name.text)) Redeclared name) _ _ (λ x. parameters_same nameless counts n defining s (behind_word t.OpenParenthesis parts) name)

    function_declared_same :
        (x : UnitState) (ds : List Defined) (storage : Storage) (ty : PlainType) (parts : PlainTrees) (name : PlainToken) (o : Option PlainTree) → count_functions x.defined ≡ count_functions ds
        → Same SameUnits (declared_function x storage ty parts name o) (declared_function (there x ds) storage ty parts name o)
    function_declared_same x ds storage ty parts name o e =
        first_then SameUnits (declares (file_entity name.text))
        (λ bound. new_function false x.scope storage (starred parts ty) parts name >>= (λ ps. with_name x.scope name (function (signature_of (starred parts ty) ps)) storage >>= (λ scope. refused_initialiser o name >>= (λ none_given. give (with_scope x scope)))))
        (λ bound. new_function false (renumbered n x.scope) storage (starred parts ty) parts name >>= (λ ps. with_name (renumbered n x.scope) name (function (signature_of (starred parts ty) ps)) storage >>= (λ scope. refused_initialiser o name >>= (λ none_given. give (with_scope (there x ds) scope)))))
        (λ y. equal_then SameUnits (new_function false x.scope storage (starred parts ty) parts name) (new_function false (renumbered n x.scope) storage (starred parts ty) parts name) _ _ (new_same false x.scope storage (starred parts ty) parts name)
        (λ ps. made_then (renumbered n) SameUnits (with_name x.scope name (function (signature_of (starred parts ty) ps)) storage) (with_name (renumbered n x.scope) name (function (signature_of (starred parts ty) ps)) storage) _ _
        (name_same x.scope name (function (signature_of (starred parts ty) ps)) storage)
        (λ scope. first_then SameUnits (refused_initialiser o name) _ _ (λ z. gives_unit (with_scope x scope) ds e))))

    one_same :
        (x : UnitState) (ds : List Defined) (storage : Storage) (ty : PlainType) (tree : PlainTree) (o : Option PlainTree) (rest : PlainTrees) → count_functions x.defined ≡ count_functions ds
        → Same SameUnits (declared_one globals x storage ty tree o rest) (declared_one count (there x ds) storage ty tree o rest)
    one_same x ds storage ty (node k.FunctionDeclarator parts) o rest e = first_then SameUnits (or_broken (name_in parts)) _ _ (λ name. function_declared_same x ds storage ty parts name o e)
    one_same x ds storage ty (node kind parts) o rest e = first_then SameUnits (or_broken (name_in parts)) _ _ (λ name. object_declared_same x ds storage ty kind parts name o rest e)
    one_same x ds storage ty (leaf token) o rest e = left_broken SameUnits _

    first_same :
        (x : UnitState) (ds : List Defined) (storage : Storage) (ty : PlainType) (tree : PlainTree) (o : Option PlainTree) (others rest : PlainTrees) → count_functions x.defined ≡ count_functions ds
        → ((x : UnitState) (ds : List Defined) → count_functions x.defined ≡ count_functions ds → Same SameUnits (declared_from globals x storage ty others rest) (declared_from count (there x ds) storage ty others rest))
        → Same SameUnits (declared_one globals x storage ty tree o rest >>= (λ first. declared_from globals first storage ty others rest)) (declared_one count (there x ds) storage ty tree o rest >>= (λ first. declared_from count first storage ty others rest))
    first_same x ds storage ty tree o others rest e next =
        unit_then SameUnits (declared_one globals x storage ty tree o rest) (declared_one count (there x ds) storage ty tree o rest) _ _ (one_same x ds storage ty tree o rest e) next

    from_same :
        (parts rest : PlainTrees) (storage : Storage) (ty : PlainType) (x : UnitState) (ds : List Defined) → count_functions x.defined ≡ count_functions ds
        → Same SameUnits (declared_from globals x storage ty parts rest) (declared_from count (there x ds) storage ty parts rest)
    from_same none rest storage ty x ds e = left_broken SameUnits _
    from_same (more tree none) rest storage ty x ds e = one_same x ds storage ty tree None rest e
    from_same (more tree (more sign none)) rest storage ty x ds e = left_broken SameUnits _
    from_same (more tree (more sign (more next none))) rest storage ty x ds e =
        same_if SameUnits (is_word (t.Assign ∷ []) sign) _ _ _ _ (one_same x ds storage ty tree (Some next) rest e) (first_same x ds storage ty tree None (more next none) rest e (from_same (more next none) rest storage ty))
    from_same (more tree (more sign (more next (more comma others)))) rest storage ty x ds e =
        same_if SameUnits (is_word (t.Assign ∷ []) sign) _ _ _ _ (first_same x ds storage ty tree (Some next) others rest e (from_same others rest storage ty))
        (first_same x ds storage ty tree None (more next (more comma others)) rest e (from_same (more next (more comma others)) rest storage ty))

    -- ---- definitions of functions

    parameter_scope : (s : Scope) (slot : ℕ) (p : Parameter) (o : Option PlainToken) → with_parameter (renumbered n s) slot o p.ty ≡ renumbered n (with_parameter s slot o p.ty)
    parameter_scope s slot p None = refl
    parameter_scope s slot p (Some name) = refl

    parameters_scope : (s : Scope) (slot : ℕ) (ps : List Parameter) → renumbered n (with_parameters s slot ps) ≡ with_parameters (renumbered n s) slot ps
    parameters_scope s slot [] = refl
    parameters_scope s slot (p ∷ ps) =
        parameters_scope (with_parameter s slot p.name p.ty) (slot + 1) ps ∙ ap (λ x. with_parameters x (slot + 1) ps) (sym (parameter_scope s slot p p.name))

    body_same : (s : Scope) (result : PlainType) (slots : List PlainType) (tree : PlainTree) → Same (SameItems nameless counts n) (judged_body s result slots tree) (judged_body (renumbered n s) result slots tree)
    body_same s result slots (node kind (more brace (more (node k.Items items) (more last none)))) = items_same nameless counts n (record { scope = s; result = result; in_loop = false }) slots items
    body_same s result slots (node kind (more brace (more (node k.Absent items) (more last none)))) = same_give (SameItems nameless counts n) _ _ (record { other = _; is = refl })
    body_same s result slots _ = left_broken (SameItems nameless counts n) _

    definition_same :
        (x : UnitState) (ds : List Defined) (storage : Storage) (ty : PlainType) (parts : PlainTrees) (name : PlainToken) (body : PlainTree) → count_functions x.defined ≡ count_functions ds
        → Same SameUnits (defined_function x storage ty parts name body) (defined_function (there x ds) storage ty parts name body)
    definition_same x ds storage ty parts name body e =
        let result : PlainType = starred parts ty in
        first_then SameUnits (declares (file_entity name.text))
        (λ bound. unless_so (is_result x.scope result) (result_kind x.scope storage result name (parameters_of true x.scope (behind_word t.OpenParenthesis parts) name)) name
        >>= (λ fits. new_function true x.scope storage result parts name >>= (λ ps. with_name x.scope name (function (signature_of result ps)) storage
        >>= (λ scope. judged_body (with_parameters (with_block scope) 0 ps) result (parameter_types ps) body >>= (λ items. give (with_defined (with_scope x scope) name.text (function_body items.slots items.core)))))))
        (λ bound. unless_so (is_result x.scope result) (result_kind (renumbered n x.scope) storage result name (parameters_of true (renumbered n x.scope) (behind_word t.OpenParenthesis parts) name)) name
        >>= (λ fits. new_function true (renumbered n x.scope) storage result parts name >>= (λ ps. with_name (renumbered n x.scope) name (function (signature_of result ps)) storage
        >>= (λ scope. judged_body (with_parameters (with_block scope) 0 ps) result (parameter_types ps) body >>= (λ items. give (with_defined (with_scope (there x ds) scope) name.text (function_body items.slots items.core)))))))
        (λ y. unless_then SameUnits (is_result x.scope result) (is_result x.scope result) _ _ name name _ _
        (λ z. equal_then SameUnits (new_function true x.scope storage result parts name) (new_function true (renumbered n x.scope) storage result parts name) _ _ (new_same true x.scope storage result parts name)
        (λ ps. made_then (renumbered n) SameUnits (with_name x.scope name (function (signature_of result ps)) storage) (with_name (renumbered n x.scope) name (function (signature_of result ps)) storage) _ _ (name_same x.scope name (function (signature_of result ps)) storage)
        (λ scope. items_then nameless counts n SameUnits (judged_body (with_parameters (with_block scope) 0 ps) result (parameter_types ps) body) (judged_body (with_parameters (renumbered n (with_block scope)) 0 ps) result (parameter_types ps) body) _ _
        (subst (λ u. Same (SameItems nameless counts n) (judged_body (with_parameters (with_block scope) 0 ps) result (parameter_types ps) body) (judged_body u result (parameter_types ps) body)) (parameters_scope (with_block scope) 0 ps)
        (body_same (with_parameters (with_block scope) 0 ps) result (parameter_types ps) body))
        (λ items core. gives_unit _ _ (still_as_many x.defined ds (record { name = name.text; body = function_body items.slots items.core }) (record { name = name.text; body = function_body items.slots core }) refl e))))))

    -- ---- structs

    member_same :
        (s : Scope) (m : ℕ) (known : Members) (ty : PlainType) (kind : Kind) (parts : PlainTrees) (name : PlainToken) → Same Equal (declared_member s m known ty kind parts name) (declared_member (renumbered n s) m known ty kind parts name)
    member_same s m known ty kind parts name =
        first_then Equal (unless_so (not (is_some (known.numbers name.text))) Redeclared name) _ _
        (λ x. first_then Equal (declares (member_entity m (length known.members)))
        (λ bound. object_type s ty kind parts name None >>= (λ whole. unless_so (is_complete s.structs whole) Incomplete name >>= (λ complete. give (with_member s.structs known name.text whole))))
        (λ bound. object_type (renumbered n s) ty kind parts name None >>= (λ whole. unless_so (is_complete s.structs whole) Incomplete name >>= (λ complete. give (with_member s.structs known name.text whole))))
        (λ y. equal_then Equal (object_type s ty kind parts name None) (object_type (renumbered n s) ty kind parts name None) _ _ (object_same nameless counts n s ty kind parts name None)
        (λ whole. itself Equal _ (λ z. refl))))

    one_member_same : (s : Scope) (m : ℕ) (known : Members) (ty : PlainType) (tree : PlainTree) → Same Equal (one_member s m known ty tree) (one_member (renumbered n s) m known ty tree)
    one_member_same s m known ty (node kind parts) = first_then Equal (or_broken (name_in parts)) _ _ (λ name. member_same s m known ty kind parts name)
    one_member_same s m known ty (leaf token) = left_broken Equal _

    members_same : (parts : PlainTrees) (s : Scope) (m : ℕ) (known : Members) (ty : PlainType) → Same Equal (members_from s m known ty parts) (members_from (renumbered n s) m known ty parts)
    members_same none s m known ty = left_broken Equal _
    members_same (more tree none) s m known ty = one_member_same s m known ty tree
    members_same (more tree (more comma rest)) s m known ty =
        equal_then Equal (one_member s m known ty tree) (one_member (renumbered n s) m known ty tree) _ _ (one_member_same s m known ty tree) (λ x. members_same rest s m x ty)

    abbrev members_there : AllMembers → AllMembers
    members_there x = record x { scope = renumbered n x.scope }

    all_same : (parts : PlainTrees) (s : Scope) (m : ℕ) (known : Members) → Same (λ x y. y ≡ members_there x) (all_members s m known parts) (all_members (renumbered n s) m known parts)
    all_same none s m known = same_give (λ x y. y ≡ members_there x) _ _ refl
    all_same (more (node kind (more (node words_kind words) (more (node list_kind declarators) (more end_ none)))) rest) s m known =
        made_then (based_there nameless counts n) (λ x y. y ≡ members_there x) (based true s words) (based true (renumbered n s) words) _ _ (words_same nameless counts n true s words)
        (λ b. equal_then (λ x y. y ≡ members_there x) (members_from b.scope m known b.ty declarators) (members_from (renumbered n b.scope) m known b.ty declarators) _ _ (members_same declarators b.scope m known b.ty) (λ x. all_same rest b.scope m x))
    all_same (more _ rest) s m known = left_broken (λ x y. y ≡ members_there x) _

    struct_same : (x : UnitState) (ds : List Defined) (words parts : PlainTrees) → count_functions x.defined ≡ count_functions ds → Same SameUnits (defined_struct x words parts) (defined_struct (there x ds) words parts)
    struct_same x ds words parts e =
        first_then SameUnits (or_broken (name_in words)) _ _
        (λ tag. first_then SameUnits (unless_so (not (is_defined_tag x.scope (x.scope.tags tag.text))) Redeclared tag) _ _
        (λ y. made_then (based_there nameless counts n) SameUnits (based true x.scope words) (based true (renumbered n x.scope) words) _ _ (words_same nameless counts n true x.scope words)
        (λ b. made_then members_there SameUnits (all_members b.scope (number_of_struct b.ty) (record { members = []; numbers = no_entry; scalars = 0 }) parts) (all_members (renumbered n b.scope) (number_of_struct b.ty) (record { members = []; numbers = no_entry; scalars = 0 }) parts) _ _
        (all_same parts b.scope (number_of_struct b.ty) (record { members = []; numbers = no_entry; scalars = 0 })) (λ all. gives_unit _ ds e))))

    -- ---- items

    item_same :
        (tree : PlainTree) (behind : PlainTrees) (x : UnitState) (ds : List Defined) → count_functions x.defined ≡ count_functions ds → Same SameUnits (judged_item globals x tree behind) (judged_item count (there x ds) tree behind)
    item_same (node k.StructDefinition (more (node tag_kind words) (more brace (more (node list_kind members) rest)))) behind x ds e = struct_same x ds words members e
    item_same (node k.StructDeclaration (more (node tag_kind words) (more end_ none))) behind x ds e =
        made_then (based_there nameless counts n) SameUnits (based true x.scope words) (based true (renumbered n x.scope) words) _ _ (words_same nameless counts n true x.scope words) (λ b. gives_unit (with_scope x b.scope) ds e)
    item_same (node k.Declaration (more (node words_kind words) (more (node list_kind declarators) (more end_ none)))) behind x ds e =
        made_then (based_there nameless counts n) SameUnits (based true x.scope words) (based true (renumbered n x.scope) words) _ _ (words_same nameless counts n true x.scope words)
        (λ b. from_same declarators behind (storage_of words) b.ty (with_scope x b.scope) ds e)
    item_same (node k.Function (more (node words_kind words) (more (node list_kind (more (node kind parts) none)) (more body none)))) behind x ds e =
        made_then (based_there nameless counts n) SameUnits (based false x.scope words) (based false (renumbered n x.scope) words) _ _ (words_same nameless counts n false x.scope words)
        (λ b. first_then SameUnits (or_broken (name_in parts)) _ _
        (λ name. same_function SameUnits (count_functions x.defined) (count_functions ds) (defined_function x (storage_of words) b.ty parts name body) (defined_function (there x ds) (storage_of words) b.ty parts name body) e
        (definition_same x ds (storage_of words) b.ty parts name body e)))
    item_same _ behind x ds e = left_broken SameUnits _

    unit_items_same : (parts : PlainTrees) (x : UnitState) (ds : List Defined) → count_functions x.defined ≡ count_functions ds → Same SameUnits (judged_file_items globals x parts) (judged_file_items count (there x ds) parts)
    unit_items_same none x ds e = gives_unit x ds e
    unit_items_same (more tree rest) x ds e =
        unit_then SameUnits (judged_item globals x tree rest) (judged_item count (there x ds) tree rest) _ _ (item_same tree rest x ds e) (λ y es f. unit_items_same rest y es f)

    unit_same : (tree : PlainTree) (structs : List Struct) (numbers : Numbers) → Same SameUnits (judged_unit globals structs numbers tree) (judged_unit count structs n tree)
    unit_same (node kind parts) structs numbers =
        unit_then SameUnits (judged_file_items globals (unit_start structs numbers) parts) (judged_file_items count (unit_start structs n) parts) _ _ (unit_items_same parts (unit_start structs numbers) [] refl)
        (λ x ds e. any_then SameUnits (unless_too_big (too_big_in x.scope parts)) (unless_too_big (too_big_in (renumbered n x.scope) parts)) _ _ (small_same (too_big_in x.scope parts) (too_big_in (renumbered n x.scope) parts)) (λ v w. gives_unit x ds e))
    unit_same (leaf token) structs numbers = left_broken SameUnits _

pub bindings_need_no_numbers : CountsNeedNoNames → SizesBindNothing → BindingsNeedNoNumbers
bindings_need_no_numbers nameless counts tree globals count structs numbers others unit other js ks e f =
    let both = (unit_same nameless counts others globals count tree structs numbers).holds in
    let last = subst (λ d. Sides (SameUnits nameless counts others) (fine unit js) d) f (subst (λ c. Sides (SameUnits nameless counts others) c (judged_unit count structs others tree)) e both) in
    record { bound = last.0; structs = ap (λ (x : UnitState). x.scope.structs) (sym last.1.is); names = ap (λ (x : UnitState). x.scope.file_names) (sym last.1.is) }
