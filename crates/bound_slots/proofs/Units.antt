-- Outside functions no local is visible but the parameters of a declaration, which no size names; and a function's slots are its own. This
-- holds of all trees.
use Rattle.std.proofs.Common.{◌≡◌, ℕ, Bool, true, false, List, [], ◌∷◌, ◌++◌, refl, sym, subst, ◌∙◌, length}
use Rattle.std.specs.Prelude.{Option, Some, None, is_some, map, not, ◌&&◌}
use Rattle.std.proofs.lemmas.Option.{none-some}
use Rattle.c_text.specs.Token.{PlainToken}
use Rattle.c_types.specs.Types.{PlainType, pointer_to}
use Rattle.c_tree.specs.declared.kinds.Kind.{Kind}
use Rattle.c_tree.specs.declared.kinds.Kind.TheVariants as k
use Rattle.c_tree.specs.declared.terminals.Terminal.TheVariants as t
use Rattle.c_tree.specs.Trees.{PlainTree, PlainTrees, leaf, node, none, more}
use Rattle.c_tree.specs.Grammar.{is_word, is_lone_void}
use Rattle.core_meaning.specs.declared.refusals.TypeKind.TheVariants.{Redeclared, Incomplete, BadConstant}
use Rattle.core_meaning.specs.Checking.{Entity, local_entity, local_of_function, file_entity, struct_entity, member_entity, own_entity, Binding, Checked, fine, refused, broken, ◌>>=◌, give, unless_so, declares, or_broken, numbered, numbered_binding, in_function}
use Rattle.core_meaning.specs.Entities.{Struct, Sort, variable, function, FileName, Numbers, Scope, local_in}
use Rattle.core_meaning.specs.Typing.{is_complete}
use Rattle.core_meaning.specs.Expressions.{first_token_in, has_terminal}
use Rattle.core_meaning.specs.Constancy.{is_small, judged_count, initial}
use Rattle.core_meaning.specs.Declarations.{name_in, behind_word, Based, based, based_on_tag, starred, is_left_out, count_of_size, object_type, Parameter, size_of_parameter, parameter_type, token_of, is_new_parameter, declares_name, may_be_parameter, judged_parameter, declared_parameter, one_parameter, with_block, with_parameter, parameters_from, parameters_in, parameters_of}
use Rattle.core_meaning.specs.UnitNames.{UnitState, Storage, by_static, by_extern, by_none, storage_of, is_function, same_sort, same_bool, linkage, declared_as, with_name, may_be_incomplete, judged_global, constant_parts, with_defined, with_scope, object_body, defined_object, declared_object, signature_of, parameter_types, refused_initialiser, may_be_function, new_function, declared_function, declared_one, declared_from, with_parameters, is_result, result_kind, judged_body, function_body, count_functions, defined_function, Members, with_member, declared_member, one_member, members_from, AllMembers, all_members, with_members_at, is_defined_tag, number_of_struct, defined_struct, judged_item, judged_file_items, unit_start, too_big_in, unless_too_big, judged_unit}
use Rattle.bindings.proofs.Operators.{Anything}
use Rattle.bindings.proofs.Types.{Made}
use Rattle.entity_numbers.proofs.Blocks.{every_tag, all_made, any_base}
use Rattle.entity_numbers.proofs.Uses.{All, AllOf, Binds, Gives, Allows, then_binds, if_binds, gives, unless_then, unless_binds, some_then, gives_then, gives_binds, binds_give, gives_if, some_gives}
use Rattle.entity_numbers.proofs.Initialisers.{object_gives, whole_object_binds, initial_binds}
use Rattle.entity_numbers.specs.Bound.{IsOfUnit, AreOfUnit}
use Rattle.bound_slots.specs.Laws.{SlotsAreOfFunctions}
use Rattle.bound_slots.proofs.Constants.{Only}
use Rattle.bound_slots.proofs.Sizes.{size_quiet}

-- ---- what is bound where no local is visible

abbrev IsOutside : Scope → Type 0
IsOutside s = s.blocks ≡ []

allows : (s : Scope) → IsOutside s → Allows IsOfUnit every_tag s
allows s out = record {
  locals = λ name l e. absurd (none-some l (subst (λ bs. local_in bs name ≡ Some l) out e));
  files = λ name n e. (tt, ((any_base s).files name n e).1);
  members = λ number n found m tag e f. (tt, all_made m.ty);
}

abbrev Free : {A : Type 0} → Checked A → Type 0
Free c = Binds IsOfUnit c

abbrev Leaves : {A : Type 0} → (A → Type 0) → Checked A → Type 0
Leaves P c = Gives IsOfUnit P c

-- one judgement, and then another that leaves this
then_leaves : {A B : Type 0} (P : B → Type 0) (c : Checked A) (f : A → Checked B) → Free c → ((x : A) → Leaves P (f x)) → Leaves P (c >>= f)
then_leaves P c f h g = gives_then IsOfUnit Anything P c f (binds_give IsOfUnit c h) (λ x y. g x)

-- the same, where this holds of its result
after_leaves : {A B : Type 0} (Q : A → Type 0) (P : B → Type 0) (c : Checked A) (f : A → Checked B) → Leaves Q c → ((x : A) → Q x → Leaves P (f x)) → Leaves P (c >>= f)
after_leaves Q P c f h g = gives_then IsOfUnit Q P c f h g

after_free : {A B : Type 0} (Q : A → Type 0) (c : Checked A) (f : A → Checked B) → Leaves Q c → ((x : A) → Q x → Free (f x)) → Free (c >>= f)
after_free Q c f h g = gives_binds IsOfUnit Anything (c >>= f) (after_leaves Q Anything c f h (λ x q. binds_give IsOfUnit (f x) (g x q)))

leaves : {A : Type 0} (P : A → Type 0) (x : A) → P x → Leaves P (give x)
leaves P x h = record { given_ = (tt, h) }

-- ---- words and declarators

abbrev HasBlocksOf : Scope → Based → Type 0
HasBlocksOf s base = base.scope.blocks ≡ s.blocks

tag_leaves : (declaring : Bool) (s : Scope) (tag : PlainToken) (o : Option ℕ) → Leaves (HasBlocksOf s) (based_on_tag declaring s tag o)
tag_leaves declaring s tag (Some n) = record { given_ = ((tt, tt), refl) }
tag_leaves false s tag None = record { given_ = tt }
tag_leaves true s tag None = record { given_ = ((tt, tt), refl) }

words_leave : (declaring : Bool) (s : Scope) (words : PlainTrees) → Leaves (HasBlocksOf s) (based declaring s words)
words_leave declaring s words =
    gives_if IsOfUnit (HasBlocksOf s) (has_terminal t.Struct words) _ _
    (some_gives IsOfUnit (HasBlocksOf s) (name_in words) (λ tag. based_on_tag declaring s tag (s.tags tag.text)) (λ tag. tag_leaves declaring s tag (s.tags tag.text))) (record { given_ = (tt, refl) })

type_free : (s : Scope) → IsOutside s → (ty : PlainType) (kind : Kind) (parts : PlainTrees) (name : PlainToken) (o : Option PlainTree) → Free (object_type s ty kind parts name o)
type_free s out ty kind parts name o = gives_binds IsOfUnit (Made every_tag) (object_type s ty kind parts name o) (object_gives IsOfUnit every_tag s (allows s out) ty kind parts name o (all_made ty))

-- ---- parameters of a declaration

size_free : (s : Scope) (tree : PlainTree) (behind : PlainToken) → Free (judged_count s tree behind)
size_free s tree behind = by (judged_count s tree behind) (size_quiet s tree behind)
  where
    by : (c : Checked ℕ) → Only (Unit {0} × Unit {0}) (λ n. true) c → Free c
    by (fine n js) h = record { all = subst (All IsOfUnit) (sym (h.only refl).1) tt }
    by (refused kind token) h = record { all = tt }
    by broken h = record { all = tt }

given_size_free : (s : Scope) (name : PlainToken) (o : Option PlainTree) → Free (count_of_size s name o)
given_size_free s name None = record { all = tt }
given_size_free s name (Some size) = size_free s size name

parameter_type_free : (s : Scope) (ty : PlainType) (kind : Kind) (parts : PlainTrees) (name : PlainToken) → Free (parameter_type s ty kind parts name)
parameter_type_free s ty k.ArrayDeclarator parts name =
    unless_then IsOfUnit (is_complete s.structs (starred parts ty)) Incomplete name _
    (λ x. then_binds IsOfUnit (size_of_parameter s name (behind_word t.OpenBracket parts)) _
    (if_binds IsOfUnit (is_left_out (behind_word t.OpenBracket parts)) _ _ (gives IsOfUnit 0) (given_size_free s name (behind_word t.OpenBracket parts)))
    (λ count. gives IsOfUnit (pointer_to (starred parts ty))))
parameter_type_free s ty k.Declarator parts name = record { all = tt }
parameter_type_free s ty _ parts name = record { all = tt }

judged_free : (s : Scope) (ty : PlainType) (at : PlainToken) → Free (judged_parameter false s ty at)
judged_free s ty at = unless_then IsOfUnit (may_be_parameter false s ty) Incomplete at _ (λ x. unless_binds IsOfUnit (is_small s.structs ty) BadConstant at)

own_free : (o : Option PlainToken) → Free (declares_name o own_entity)
own_free None = record { all = tt }
own_free (Some name) = record { all = (tt, tt) }

declared_free : (s : Scope) (before : List Parameter) (ty : PlainType) (first : PlainToken) (tree : PlainTree) → Free (declared_parameter false s before ty first tree)
declared_free s before ty first (node k.Absent parts) = then_binds IsOfUnit (judged_parameter false s ty first) _ (judged_free s ty first) (λ x. gives IsOfUnit (record { name = None; ty = ty }))
declared_free s before ty first (node kind parts) =
    unless_then IsOfUnit (is_new_parameter before (name_in parts)) Redeclared (token_of (name_in parts) first) _
    (λ x. then_binds IsOfUnit (declares_name (name_in parts) own_entity) _ (own_free (name_in parts))
    (λ bound. then_binds IsOfUnit (parameter_type s ty kind parts (token_of (name_in parts) first)) _ (parameter_type_free s ty kind parts (token_of (name_in parts) first))
    (λ whole. then_binds IsOfUnit (judged_parameter false s whole (token_of (name_in parts) first)) _ (judged_free s whole (token_of (name_in parts) first))
    (λ y. gives IsOfUnit (record { name = name_in parts; ty = whole })))))
declared_free s before ty first (leaf token) = record { all = tt }

one_free : (s : Scope) (before : List Parameter) (tree : PlainTree) (behind : PlainToken) → Free (one_parameter false s before tree behind)
one_free s before (node kind (more (node words_kind words) (more declarator none))) behind =
    after_free (HasBlocksOf s) (based false s words) (λ base. declared_parameter false s before base.ty (first_token_in words behind) declarator) (words_leave false s words)
    (λ base e. declared_free s before base.ty (first_token_in words behind) declarator)
one_free s before _ behind = record { all = tt }

list_free : (parts : PlainTrees) (s : Scope) (before : List Parameter) (behind : PlainToken) → Free (parameters_from false s before parts behind)
list_free none s before behind = record { all = tt }
list_free (more tree none) s before behind = then_binds IsOfUnit (one_parameter false s before tree behind) _ (one_free s before tree behind) (λ p. gives IsOfUnit (before ++ p ∷ []))
list_free (more tree (more comma rest)) s before behind =
    then_binds IsOfUnit (one_parameter false s before tree behind) _ (one_free s before tree behind)
    (λ p. list_free rest (with_parameter s (length before) p.name p.ty) (before ++ p ∷ []) behind)

all_free : (s : Scope) (tree : PlainTree) (behind : PlainToken) → Free (parameters_in false s tree behind)
all_free s (node k.Parameters parts) behind = if_binds IsOfUnit (is_lone_void parts) _ _ (record { all = tt }) (list_free parts (with_block s) [] behind)
all_free s _ behind = record { all = tt }

parameters_free : (s : Scope) (o : Option PlainTree) (behind : PlainToken) → Free (parameters_of false s o behind)
parameters_free s None behind = record { all = tt }
parameters_free s (Some tree) behind = all_free s tree behind

-- ---- names of file scope

abbrev SameBlocks : Scope → Scope → Type 0
SameBlocks s x = x.blocks ≡ s.blocks

as_leaves : (s : Scope) (name : PlainToken) (sort : Sort) (internal : Bool) (o : Option FileName) → Leaves (SameBlocks s) (declared_as s name sort internal o)
as_leaves s name sort internal (Some visible) =
    then_leaves (SameBlocks s) (unless_so (same_sort visible.sort sort && same_bool visible.internal internal) Redeclared name) (λ same. give s)
    (unless_binds IsOfUnit (same_sort visible.sort sort && same_bool visible.internal internal) Redeclared name) (λ x. leaves (SameBlocks s) s refl)
as_leaves s name sort internal None = record { given_ = (tt, refl) }

name_leaves : (s : Scope) (name : PlainToken) (sort : Sort) (storage : Storage) → Leaves (SameBlocks s) (with_name s name sort storage)
name_leaves s name sort storage = as_leaves s name sort (linkage storage (is_function sort) (s.file_names name.text)) (s.file_names name.text)

-- no local is visible behind it
abbrev StaysOutside : UnitState → Type 0
StaysOutside unit = IsOutside unit.scope

global_free : (storage : Storage) (initialised : Bool) (s : Scope) → IsOutside s → (ty : PlainType) (name : PlainToken) (rest : PlainTrees) → Free (judged_global storage initialised s ty name rest)
global_free storage initialised s out ty name rest =
    if_binds IsOfUnit (may_be_incomplete storage initialised s.structs ty rest && not (is_complete s.structs ty)) _ _ (record { all = tt }) (whole_object_binds IsOfUnit every_tag s (allows s out) ty name)

value_leaves :
    (globals : ℕ) (unit : UnitState) → StaysOutside unit → (ty : PlainType) (name : PlainToken) (initialiser : PlainTree)
    → Leaves StaysOutside (initial unit.scope (Some globals) ty [] initialiser name >>= (λ parts. or_broken (constant_parts globals parts) >>= (λ values. give (with_defined unit name.text (object_body values)))))
value_leaves globals unit out ty name initialiser =
    then_leaves StaysOutside (initial unit.scope (Some globals) ty [] initialiser name) _ (initial_binds IsOfUnit every_tag unit.scope (allows unit.scope out) (Some globals) ty [] initialiser name)
    (λ parts. some_gives IsOfUnit StaysOutside (constant_parts globals parts) (λ values. give (with_defined unit name.text (object_body values))) (λ values. leaves StaysOutside (with_defined unit name.text (object_body values)) out))

definition_leaves : (globals : ℕ) (unit : UnitState) → StaysOutside unit → (storage : Storage) (ty : PlainType) (name : PlainToken) (o : Option PlainTree) → Leaves StaysOutside (defined_object globals unit storage ty name o)
definition_leaves globals unit out by_extern ty name None = record { given_ = (tt, out) }
definition_leaves globals unit out by_static ty name None = record { given_ = (tt, out) }
definition_leaves globals unit out by_none ty name None = record { given_ = (tt, out) }
definition_leaves globals unit out by_extern ty name (Some initialiser) = value_leaves globals unit out ty name initialiser
definition_leaves globals unit out by_static ty name (Some initialiser) = value_leaves globals unit out ty name initialiser
definition_leaves globals unit out by_none ty name (Some initialiser) = value_leaves globals unit out ty name initialiser

declared_name_free : (name : PlainToken) → Free (declares (file_entity name.text))
declared_name_free name = record { all = (tt, tt) }

object_leaves :
    (globals : ℕ) (unit : UnitState) → StaysOutside unit → (storage : Storage) (ty : PlainType) (kind : Kind) (parts : PlainTrees) (name : PlainToken) (o : Option PlainTree) (rest : PlainTrees)
    → Leaves StaysOutside (declared_object globals unit storage ty kind parts name o rest)
object_leaves globals unit out storage ty kind parts name o rest =
    then_leaves StaysOutside (declares (file_entity name.text)) _ (declared_name_free name)
    (λ bound. then_leaves StaysOutside (object_type unit.scope ty kind parts name o) _ (type_free unit.scope out ty kind parts name o)
    (λ whole. after_leaves (SameBlocks unit.scope) StaysOutside (with_name unit.scope name (variable whole) storage)
    (λ scope. judged_global storage (is_some o) scope whole name rest >>= (λ judged. defined_object globals (with_scope unit scope) storage whole name o)) (name_leaves unit.scope name (variable whole) storage)
    (λ scope same. then_leaves StaysOutside (judged_global storage (is_some o) scope whole name rest) (λ judged. defined_object globals (with_scope unit scope) storage whole name o)
    (global_free storage (is_some o) scope (same ∙ out) whole name rest)
    (λ judged. definition_leaves globals (with_scope unit scope) (same ∙ out) storage whole name o))))

no_value_free : (o : Option PlainTree) (name : PlainToken) → Free (refused_initialiser o name)
no_value_free None name = record { all = tt }
no_value_free (Some value) name = record { all = tt }

new_free : (s : Scope) (storage : Storage) (result : PlainType) (parts : PlainTrees) (name : PlainToken) → Free (new_function false s storage result parts name)
new_free s storage result parts name =
    unless_then IsOfUnit (may_be_function storage result (s.file_names name.text)) Redeclared name _ (λ x. parameters_free s (behind_word t.OpenParenthesis parts) name)

function_leaves : (unit : UnitState) → StaysOutside unit → (storage : Storage) (ty : PlainType) (parts : PlainTrees) (name : PlainToken) (o : Option PlainTree) → Leaves StaysOutside (declared_function unit storage ty parts name o)
function_leaves unit out storage ty parts name o =
    then_leaves StaysOutside (declares (file_entity name.text)) _ (declared_name_free name)
    (λ bound. then_leaves StaysOutside (new_function false unit.scope storage (starred parts ty) parts name) _ (new_free unit.scope storage (starred parts ty) parts name)
    (λ parameters. after_leaves (SameBlocks unit.scope) StaysOutside (with_name unit.scope name (function (signature_of (starred parts ty) parameters)) storage)
    (λ scope. refused_initialiser o name >>= (λ none_given. give (with_scope unit scope))) (name_leaves unit.scope name (function (signature_of (starred parts ty) parameters)) storage)
    (λ scope same. then_leaves StaysOutside (refused_initialiser o name) (λ none_given. give (with_scope unit scope)) (no_value_free o name) (λ x. leaves StaysOutside (with_scope unit scope) (same ∙ out)))))

one_leaves : (globals : ℕ) (unit : UnitState) → StaysOutside unit → (storage : Storage) (ty : PlainType) (tree : PlainTree) (o : Option PlainTree) (rest : PlainTrees) → Leaves StaysOutside (declared_one globals unit storage ty tree o rest)
one_leaves globals unit out storage ty (node k.FunctionDeclarator parts) o rest =
    some_gives IsOfUnit StaysOutside (name_in parts) (λ name. declared_function unit storage ty parts name o) (λ name. function_leaves unit out storage ty parts name o)
one_leaves globals unit out storage ty (node kind parts) o rest =
    some_gives IsOfUnit StaysOutside (name_in parts) (λ name. declared_object globals unit storage ty kind parts name o rest) (λ name. object_leaves globals unit out storage ty kind parts name o rest)
one_leaves globals unit out storage ty (leaf token) o rest = record { given_ = tt }

declarators_leave : (parts : PlainTrees) (globals : ℕ) (unit : UnitState) → StaysOutside unit → (storage : Storage) (ty : PlainType) (rest : PlainTrees) → Leaves StaysOutside (declared_from globals unit storage ty parts rest)
declarators_leave none globals unit out storage ty rest = record { given_ = tt }
declarators_leave (more tree none) globals unit out storage ty rest = one_leaves globals unit out storage ty tree None rest
declarators_leave (more tree (more sign none)) globals unit out storage ty rest = record { given_ = tt }
declarators_leave (more tree (more sign (more next none))) globals unit out storage ty rest =
    gives_if IsOfUnit StaysOutside (is_word (t.Assign ∷ []) sign) _ _ (one_leaves globals unit out storage ty tree (Some next) rest)
    (after_leaves StaysOutside StaysOutside (declared_one globals unit storage ty tree None rest) (λ first. declared_from globals first storage ty (more next none) rest) (one_leaves globals unit out storage ty tree None rest)
    (λ first i. declarators_leave (more next none) globals first i storage ty rest))
declarators_leave (more tree (more sign (more next (more comma others)))) globals unit out storage ty rest =
    gives_if IsOfUnit StaysOutside (is_word (t.Assign ∷ []) sign) _ _
    (after_leaves StaysOutside StaysOutside (declared_one globals unit storage ty tree (Some next) rest) (λ first. declared_from globals first storage ty others rest) (one_leaves globals unit out storage ty tree (Some next) rest)
    (λ first i. declarators_leave others globals first i storage ty rest))
    (after_leaves StaysOutside StaysOutside (declared_one globals unit storage ty tree None rest) (λ first. declared_from globals first storage ty (more next (more comma others)) rest) (one_leaves globals unit out storage ty tree None rest)
    (λ first i. declarators_leave (more next (more comma others)) globals first i storage ty rest))

-- ---- structs

member_free : (s : Scope) → IsOutside s → (number : ℕ) (before : Members) (ty : PlainType) (kind : Kind) (parts : PlainTrees) (name : PlainToken) → Free (declared_member s number before ty kind parts name)
member_free s out number before ty kind parts name =
    unless_then IsOfUnit (not (is_some (before.numbers name.text))) Redeclared name _
    (λ new. then_binds IsOfUnit (declares (member_entity number (length before.members))) _ (record { all = (tt, tt) })
    (λ bound. then_binds IsOfUnit (object_type s ty kind parts name None) _ (type_free s out ty kind parts name None)
    (λ whole. unless_then IsOfUnit (is_complete s.structs whole) Incomplete name _ (λ complete. gives IsOfUnit (with_member s.structs before name.text whole)))))

one_member_free : (s : Scope) → IsOutside s → (number : ℕ) (before : Members) (ty : PlainType) (tree : PlainTree) → Free (one_member s number before ty tree)
one_member_free s out number before ty (node kind parts) = some_then IsOfUnit (name_in parts) (λ name. declared_member s number before ty kind parts name) (λ name. member_free s out number before ty kind parts name)
one_member_free s out number before ty (leaf token) = record { all = tt }

members_free : (parts : PlainTrees) (s : Scope) → IsOutside s → (number : ℕ) (before : Members) (ty : PlainType) → Free (members_from s number before ty parts)
members_free none s out number before ty = record { all = tt }
members_free (more tree none) s out number before ty = one_member_free s out number before ty tree
members_free (more tree (more comma rest)) s out number before ty =
    then_binds IsOfUnit (one_member s number before ty tree) _ (one_member_free s out number before ty tree) (λ first. members_free rest s out number first ty)

abbrev LeftOutside : AllMembers → Type 0
LeftOutside x = IsOutside x.scope

all_leave : (parts : PlainTrees) (s : Scope) → IsOutside s → (number : ℕ) (before : Members) → Leaves LeftOutside (all_members s number before parts)
all_leave none s out number before = record { given_ = (tt, out) }
all_leave (more (node kind (more (node words_kind words) (more (node list_kind declarators) (more end_ none)))) rest) s out number before =
    after_leaves (HasBlocksOf s) LeftOutside (based true s words) (λ base. members_from base.scope number before base.ty declarators >>= (λ first. all_members base.scope number first rest)) (words_leave true s words)
    (λ base same. then_leaves LeftOutside (members_from base.scope number before base.ty declarators) (λ first. all_members base.scope number first rest)
    (members_free declarators base.scope (same ∙ out) number before base.ty) (λ first. all_leave rest base.scope (same ∙ out) number first))
all_leave (more _ rest) s out number before = record { given_ = tt }

struct_leaves : (unit : UnitState) → StaysOutside unit → (words members : PlainTrees) → Leaves StaysOutside (defined_struct unit words members)
struct_leaves unit out words members =
    some_gives IsOfUnit StaysOutside (name_in words) _
    (λ tag. then_leaves StaysOutside (unless_so (not (is_defined_tag unit.scope (unit.scope.tags tag.text))) Redeclared tag) _ (unless_binds IsOfUnit (not (is_defined_tag unit.scope (unit.scope.tags tag.text))) Redeclared tag)
    (λ new. after_leaves (HasBlocksOf unit.scope) StaysOutside (based true unit.scope words) _ (words_leave true unit.scope words)
    (λ base same. after_leaves LeftOutside StaysOutside (all_members base.scope (number_of_struct base.ty) (record { members = []; numbers = Rattle.core_meaning.specs.Entities.no_entry; scalars = 0 }) members)
    (λ all. give (with_scope unit (record all.scope { structs = with_members_at (number_of_struct base.ty) all.known all.scope.structs })))
    (all_leave members base.scope (same ∙ out) (number_of_struct base.ty) (record { members = []; numbers = Rattle.core_meaning.specs.Entities.no_entry; scalars = 0 }))
    (λ all there. leaves StaysOutside (with_scope unit (record all.scope { structs = with_members_at (number_of_struct base.ty) all.known all.scope.structs })) there))))

-- ---- functions: their slots have their number

numbered_free : (n : ℕ) (e : Entity) → IsOfUnit (numbered n e)
numbered_free n (local_entity slot) = tt
numbered_free n (local_of_function f slot) = tt
numbered_free n (file_entity name) = tt
numbered_free n (struct_entity number) = tt
numbered_free n (member_entity struct number) = tt
numbered_free n own_entity = tt

each_numbered_free : (n : ℕ) (js : List Binding) → All IsOfUnit (map (numbered_binding n) js)
each_numbered_free n [] = tt
each_numbered_free n (j ∷ js) = (numbered_free n j.entity, each_numbered_free n js)

-- whatever is bound, this holds of the result
abbrev AnyEntity : Entity → Type 0
AnyEntity e = Unit {0}

any_bound : (js : List Binding) → All AnyEntity js
any_bound [] = tt
any_bound (j ∷ js) = (tt, any_bound js)

any_binds : {A : Type 0} (c : Checked A) → Binds AnyEntity c
any_binds (fine x js) = record { all = any_bound js }
any_binds (refused kind token) = record { all = tt }
any_binds broken = record { all = tt }

any_then : {A B : Type 0} (P : B → Type 0) (c : Checked A) (f : A → Checked B) → ((x : A) → Gives AnyEntity P (f x)) → Gives AnyEntity P (c >>= f)
any_then P c f g = gives_then AnyEntity Anything P c f (binds_give AnyEntity c (any_binds c)) (λ x y. g x)

any_gives : {A : Type 0} (P : A → Type 0) (c : Checked A) → Leaves P c → Gives AnyEntity P c
any_gives P (fine x js) h = record { given_ = (any_bound js, h.given_.1) }
any_gives P (refused kind token) h = record { given_ = tt }
any_gives P broken h = record { given_ = tt }

in_function_leaves : {A : Type 0} (P : A → Type 0) (n : ℕ) (c : Checked A) → Gives AnyEntity P c → Leaves P (in_function n c)
in_function_leaves P n (fine x js) h = record { given_ = (each_numbered_free n js, h.given_.1) }
in_function_leaves P n (refused kind token) h = record { given_ = tt }
in_function_leaves P n broken h = record { given_ = tt }

defined_leaves : (unit : UnitState) → StaysOutside unit → (storage : Storage) (ty : PlainType) (parts : PlainTrees) (name : PlainToken) (body : PlainTree) → Gives AnyEntity StaysOutside (defined_function unit storage ty parts name body)
defined_leaves unit out storage ty parts name body =
    any_then StaysOutside (declares (file_entity name.text)) _
    (λ bound. any_then StaysOutside (unless_so (is_result unit.scope (starred parts ty)) (result_kind unit.scope storage (starred parts ty) name (parameters_of true unit.scope (behind_word t.OpenParenthesis parts) name)) name) _
    (λ fits. any_then StaysOutside (new_function true unit.scope storage (starred parts ty) parts name) _
    (λ parameters. gives_then AnyEntity (SameBlocks unit.scope) StaysOutside (with_name unit.scope name (function (signature_of (starred parts ty) parameters)) storage)
    (λ scope. judged_body (with_parameters (with_block scope) 0 parameters) (starred parts ty) (parameter_types parameters) body >>= (λ items. give (with_defined (with_scope unit scope) name.text (function_body items.slots items.core))))
    (any_gives (SameBlocks unit.scope) (with_name unit.scope name (function (signature_of (starred parts ty) parameters)) storage) (name_leaves unit.scope name (function (signature_of (starred parts ty) parameters)) storage))
    (λ scope same. any_then StaysOutside (judged_body (with_parameters (with_block scope) 0 parameters) (starred parts ty) (parameter_types parameters) body)
    (λ items. give (with_defined (with_scope unit scope) name.text (function_body items.slots items.core))) (λ items. record { given_ = (tt, same ∙ out) })))))

-- ---- items

item_leaves : (globals : ℕ) (unit : UnitState) → StaysOutside unit → (tree : PlainTree) (behind : PlainTrees) → Leaves StaysOutside (judged_item globals unit tree behind)
item_leaves globals unit out (node k.StructDefinition (more (node tag_kind words) (more brace (more (node list_kind members) rest)))) behind = struct_leaves unit out words members
item_leaves globals unit out (node k.StructDeclaration (more (node tag_kind words) (more end_ none))) behind =
    after_leaves (HasBlocksOf unit.scope) StaysOutside (based true unit.scope words) (λ base. give (with_scope unit base.scope)) (words_leave true unit.scope words)
    (λ base same. leaves StaysOutside (with_scope unit base.scope) (same ∙ out))
item_leaves globals unit out (node k.Declaration (more (node words_kind words) (more (node list_kind declarators) (more end_ none)))) behind =
    after_leaves (HasBlocksOf unit.scope) StaysOutside (based true unit.scope words) (λ base. declared_from globals (with_scope unit base.scope) (storage_of words) base.ty declarators behind) (words_leave true unit.scope words)
    (λ base same. declarators_leave declarators globals (with_scope unit base.scope) (same ∙ out) (storage_of words) base.ty behind)
item_leaves globals unit out (node k.Function (more (node words_kind words) (more (node list_kind (more (node kind parts) none)) (more body none)))) behind =
    after_leaves (HasBlocksOf unit.scope) StaysOutside (based false unit.scope words) (λ base. or_broken (name_in parts) >>= (λ name. in_function (count_functions unit.defined) (defined_function unit (storage_of words) base.ty parts name body)))
    (words_leave false unit.scope words)
    (λ base same. some_gives IsOfUnit StaysOutside (name_in parts) (λ name. in_function (count_functions unit.defined) (defined_function unit (storage_of words) base.ty parts name body))
    (λ name. in_function_leaves StaysOutside (count_functions unit.defined) (defined_function unit (storage_of words) base.ty parts name body) (defined_leaves unit out (storage_of words) base.ty parts name body)))
item_leaves globals unit out _ behind = record { given_ = tt }

items_leave : (parts : PlainTrees) (globals : ℕ) (unit : UnitState) → StaysOutside unit → Leaves StaysOutside (judged_file_items globals unit parts)
items_leave none globals unit out = leaves StaysOutside unit out
items_leave (more tree rest) globals unit out =
    after_leaves StaysOutside StaysOutside (judged_item globals unit tree rest) (λ first. judged_file_items globals first rest) (item_leaves globals unit out tree rest) (λ first i. items_leave rest globals first i)

small_free : (o : Option PlainToken) → Free (unless_too_big o)
small_free None = record { all = tt }
small_free (Some name) = record { all = tt }

unit_free : (globals : ℕ) (structs : List Struct) (numbers : Numbers) (tree : PlainTree) → Free (judged_unit globals structs numbers tree)
unit_free globals structs numbers (node kind parts) =
    after_free StaysOutside (judged_file_items globals (unit_start structs numbers) parts) (λ unit. unless_too_big (too_big_in unit.scope parts) >>= (λ small. give unit)) (items_leave parts globals (unit_start structs numbers) refl)
    (λ unit out. then_binds IsOfUnit (unless_too_big (too_big_in unit.scope parts)) (λ small. give unit) (small_free (too_big_in unit.scope parts)) (λ small. gives IsOfUnit unit))
unit_free globals structs numbers (leaf token) = record { all = tt }

each_free : (js : List Binding) → All IsOfUnit js → AreOfUnit js
each_free [] h = tt
each_free (j ∷ js) h = (h.0, each_free js h.1)

pub slots_are_of_functions : SlotsAreOfFunctions
slots_are_of_functions tree globals structs numbers unit js e = each_free js (subst (AllOf IsOfUnit) e (unit_free globals structs numbers tree).all)
