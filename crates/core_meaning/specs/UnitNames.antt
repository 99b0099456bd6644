-- Units: their declarations and definitions, and what each leaves behind (ISO/IEC 9899:2011, 6.2.2, 6.7.2.1, 6.9).
use Rattle.std.specs.Prelude.{ℕ, zero, suc, ◌+◌, Bool, true, false, not, ◌&&◌, ◌||◌, List, [], ◌∷◌, ◌++◌, length, map, Option, Some, None, is_some, option_map, slice_get, if◌then◌else◌}
use Rattle.std.specs.Str.{bytes_eq}
use Rattle.c_text.specs.Token.{PlainToken}
use Rattle.c_types.specs.Types.{PlainType, structure}
use Rattle.c_tree.specs.declared.kinds.Kind.{Kind}
use Rattle.c_tree.specs.declared.kinds.Kind.TheVariants as k
use Rattle.c_tree.specs.declared.terminals.Terminal.TheVariants as t
use Rattle.c_tree.specs.Trees.{PlainTree, PlainTrees, leaf, node, none, more}
use Rattle.c_tree.specs.Grammar.{is_word}
use Rattle.core_meaning.specs.declared.refusals.TypeKind.{TypeKind}
use Rattle.core_meaning.specs.declared.refusals.TypeKind.TheVariants.{Redeclared, BadOperand, Incomplete, BadConstant}
use Rattle.core_meaning.specs.Program.{PlainItems, no_item, PlainConstantPart}
use Rattle.core_meaning.specs.Checking.{file_entity, member_entity, Checked, fine, refused, broken, ◌>>=◌, give, unless_so, declares, in_function, or_broken}
use Rattle.c_types.specs.Tags.{PlainMember}
use Rattle.core_meaning.specs.Entities.{Table, no_entry, with_entry, Struct, Signature, Sort, variable, function, FileName, Numbers, Scope, or_else}
use Rattle.core_meaning.specs.Typing.{same_type, is_complete}
use Rattle.core_meaning.specs.Expressions.{first_token, has_terminal, is_void}
use Rattle.core_meaning.specs.Constancy.{is_small, Initial, initial, first_scalar, scalars_with}
use Rattle.core_meaning.specs.Declarations.{name_in, behind_word, based, starred, object_type, Parameter, parameters_of, judged_object, with_block, with_parameter}
use Rattle.core_meaning.specs.Statements.{JudgedItems, judged_items, items_as}

-- what a definition gives its name
pub data Body : Type 0 where
  -- an object with an initialiser
  object_body : List PlainConstantPart → Body
  -- an object that gets zeros if no other definition gives it a value
  tentative_body : Body
  -- the types of a function's slots, parameters first, and the items of its block
  function_body : List PlainType → PlainItems → Body

pub record Defined : Type 0 where
  pub name : List ℕ
  pub body : Body

-- a unit up to a place: what is visible there, and what has been defined
pub record UnitState : Type 0 where
  pub scope : Scope
  pub defined : List Defined

-- what stands behind in the unit, for objects whose structs are completed later
abbrev pub completes : List ℕ → PlainTree → Bool
completes tag (node k.StructDefinition (more (node kind words) rest)) =
    elim (name_in words) as (λ x. Bool) [ None ↦ false | Some name ↦ bytes_eq name.text tag ]
completes tag other = false

abbrev pub is_completed_in : List ℕ → PlainTrees → Bool
is_completed_in tag none = false
is_completed_in tag (more tree rest) = completes tag tree || is_completed_in tag rest

abbrev pub struct_is_completed : Option Struct → PlainTrees → Bool
struct_is_completed (Some s) rest = is_completed_in s.name rest
struct_is_completed None rest = false

abbrev pub is_completed_later : List Struct → PlainType → PlainTrees → Bool
is_completed_later structs (structure number) rest = struct_is_completed (slice_get structs number) rest
is_completed_later structs other rest = false

-- ---- names of file scope (6.2.2, 6.7)

-- the words of storage
pub data Storage : Type 0 where
  by_static : Storage
  by_extern : Storage
  by_none : Storage

abbrev pub storage_of : PlainTrees → Storage
storage_of words = if has_terminal t.Static words then by_static else if has_terminal t.Extern words then by_extern else by_none

abbrev pub is_function : Sort → Bool
is_function (function signature) = true
is_function (variable ty) = false

abbrev pub same_types : List PlainType → List PlainType → Bool
same_types [] [] = true
same_types [] (b ∷ bs) = false
same_types (a ∷ as_) [] = false
same_types (a ∷ as_) (b ∷ bs) = same_type a b && same_types as_ bs

abbrev pub same_sort : Sort → Sort → Bool
same_sort (variable a) (variable b) = same_type a b
same_sort (function f) (function g) = same_type f.result g.result && same_types f.parameters g.parameters
same_sort a b = false

-- whether a declaration gives internal linkage: `extern`, and a function's without storage, keep what is visible
abbrev pub visible_linkage : Option FileName → Bool
visible_linkage None = false
visible_linkage (Some n) = n.internal

abbrev pub linkage : Storage → Bool → Option FileName → Bool
linkage by_static of_function visible = true
linkage by_extern of_function visible = visible_linkage visible
linkage by_none true visible = visible_linkage visible
linkage by_none false visible = false

abbrev pub same_bool : Bool → Bool → Bool
same_bool true b = b
same_bool false b = not b

abbrev pub with_file_name : Scope → List ℕ → FileName → Scope
with_file_name scope name n =
    record scope { file_names = with_entry scope.file_names name n; order = scope.order ++ name ∷ [] }

-- A declaration of a name: a further one must have the same type and linkage.
abbrev pub declared_again : Scope → PlainToken → Sort → Bool → FileName → Checked Scope
declared_again scope name sort internal visible = do
  same ← unless_so (same_sort visible.sort sort && same_bool visible.internal internal) Redeclared name
  give scope

abbrev pub declared_as : Scope → PlainToken → Sort → Bool → Option FileName → Checked Scope
declared_as scope name sort internal (Some visible) = declared_again scope name sort internal visible
declared_as scope name sort internal None =
    give (with_file_name scope name.text (record { sort = sort; internal = internal }))

abbrev pub with_name : Scope → PlainToken → Sort → Storage → Checked Scope
with_name scope name sort storage =
    declared_as scope name sort (linkage storage (is_function sort) (scope.file_names name.text)) (scope.file_names name.text)

-- ---- objects of file scope (6.9.2)

abbrev pub is_extern : Storage → Bool
is_extern by_extern = true
is_extern other = false

abbrev pub is_static : Storage → Bool
is_static by_static = true
is_static other = false

-- A declaration with `extern` may be of an incomplete struct, and a tentative definition with external linkage of one that the unit
-- completes later; all other objects are judged at once.
abbrev pub may_be_incomplete : Storage → Bool → List Struct → PlainType → PlainTrees → Bool
may_be_incomplete by_extern false structs ty rest = not (is_void ty)
may_be_incomplete by_none false structs ty rest = is_completed_later structs ty rest
may_be_incomplete storage initialised structs ty rest = false

abbrev pub judged_global : Storage → Bool → Scope → PlainType → PlainToken → PlainTrees → Checked (Unit {0})
judged_global storage initialised scope ty name rest =
    if may_be_incomplete storage initialised scope.structs ty rest && not (is_complete scope.structs ty) then give tt
    else judged_object scope ty name

abbrev pub constant_parts : ℕ → List Initial → Option (List PlainConstantPart)
constant_parts globals [] = Some []
constant_parts globals (i ∷ rest) =
    elim (first_scalar globals i.value) as (λ x. Option (List PlainConstantPart)) [
      | None ↦ None
      | Some v ↦ option_map (λ others. record { path = i.path; value = v } ∷ others) (constant_parts globals rest)
    ]

abbrev pub with_defined : UnitState → List ℕ → Body → UnitState
with_defined unit name body = record unit { defined = unit.defined ++ record { name = name; body = body } ∷ [] }

abbrev pub with_scope : UnitState → Scope → UnitState
with_scope unit scope = record unit { scope = scope }

-- the object's definition, if the declaration is one
abbrev pub defined_object : ℕ → UnitState → Storage → PlainType → PlainToken → Option PlainTree → Checked UnitState
defined_object globals unit by_extern ty name None = give unit
defined_object globals unit storage ty name None = give (with_defined unit name.text tentative_body)
defined_object globals unit storage ty name (Some initialiser) = do
  parts ← initial unit.scope (Some globals) ty [] initialiser name
  values ← or_broken (constant_parts globals parts)
  give (with_defined unit name.text (object_body values))

abbrev pub declared_object : ℕ → UnitState → Storage → PlainType → Kind → PlainTrees → PlainToken → Option PlainTree → PlainTrees → Checked UnitState
declared_object globals unit storage ty kind parts name initialiser rest = do
  bound ← declares (file_entity name.text)
  whole ← object_type unit.scope ty kind parts name initialiser
  scope ← with_name unit.scope name (variable whole) storage
  judged ← judged_global storage (is_some initialiser) scope whole name rest
  defined_object globals (with_scope unit scope) storage whole name initialiser

-- ---- functions

abbrev pub parameter_types : List Parameter → List PlainType
parameter_types parameters = map (λ p. p.ty) parameters

abbrev pub signature_of : PlainType → List Parameter → Signature
signature_of result parameters = record { result = result; parameters = parameter_types parameters }

abbrev pub refused_initialiser : Option PlainTree → PlainToken → Checked (Unit {0})
refused_initialiser None name = give tt
refused_initialiser (Some initialiser) name = refused BadOperand (first_token initialiser name)

-- Another declaration of the name stands in the way of a function with this result, whatever its parameters are.
abbrev pub gives_result : PlainType → Sort → Bool
gives_result result (variable ty) = false
gives_result result (function signature) = same_type signature.result result

abbrev pub may_be_function : Storage → PlainType → Option FileName → Bool
may_be_function storage result None = true
may_be_function storage result (Some visible) =
    gives_result result visible.sort && same_bool visible.internal (linkage storage true (Some visible))

-- the parameters of a function whose name no other declaration keeps from it
abbrev pub new_function : Bool → Scope → Storage → PlainType → PlainTrees → PlainToken → Checked (List Parameter)
new_function defining scope storage result parts name = do
  new ← unless_so (may_be_function storage result (scope.file_names name.text)) Redeclared name
  parameters_of defining scope (behind_word t.OpenParenthesis parts) name

-- a declaration of a function that doesn't define it
abbrev pub declared_function : UnitState → Storage → PlainType → PlainTrees → PlainToken → Option PlainTree → Checked UnitState
declared_function unit storage ty parts name initialiser = do
  bound ← declares (file_entity name.text)
  parameters ← new_function false unit.scope storage (starred parts ty) parts name
  scope ← with_name unit.scope name (function (signature_of (starred parts ty) parameters)) storage
  none_given ← refused_initialiser initialiser name
  give (with_scope unit scope)

abbrev pub declared_one : ℕ → UnitState → Storage → PlainType → PlainTree → Option PlainTree → PlainTrees → Checked UnitState
declared_one globals unit storage ty (node k.FunctionDeclarator parts) initialiser rest =
    or_broken (name_in parts) >>= (λ name. declared_function unit storage ty parts name initialiser)
declared_one globals unit storage ty (node kind parts) initialiser rest =
    or_broken (name_in parts) >>= (λ name. declared_object globals unit storage ty kind parts name initialiser rest)
declared_one globals unit storage ty (leaf token) initialiser rest = broken

-- the declarators of a declaration at file scope, with what stands behind it in the unit
abbrev pub declared_from : ℕ → UnitState → Storage → PlainType → PlainTrees → PlainTrees → Checked UnitState
declared_from globals unit storage ty none rest = broken
declared_from globals unit storage ty (more tree none) rest = declared_one globals unit storage ty tree None rest
declared_from globals unit storage ty (more tree (more sign none)) rest = broken
declared_from globals unit storage ty (more tree (more sign (more next none))) rest =
    if is_word (t.Assign ∷ []) sign then declared_one globals unit storage ty tree (Some next) rest
    else (do
      first ← declared_one globals unit storage ty tree None rest
      declared_from globals first storage ty (more next none) rest)
declared_from globals unit storage ty (more tree (more sign (more next (more comma others)))) rest =
    if is_word (t.Assign ∷ []) sign then (do
      first ← declared_one globals unit storage ty tree (Some next) rest
      declared_from globals first storage ty others rest)
    else (do
      first ← declared_one globals unit storage ty tree None rest
      declared_from globals first storage ty (more next (more comma others)) rest)

-- the parameters of a definition are the first slots
abbrev pub with_parameters : Scope → ℕ → List Parameter → Scope
with_parameters scope slot [] = scope
with_parameters scope slot (p ∷ rest) = with_parameters (with_parameter scope slot p.name p.ty) (slot + 1) rest

-- a result that isn't `void` is complete (6.9.1)
abbrev pub is_result : Scope → PlainType → Bool
is_result scope ty = is_void ty || is_complete scope.structs ty

abbrev pub kind_or_incomplete : Checked Scope → TypeKind
kind_or_incomplete (refused kind token) = kind
kind_or_incomplete other = Incomplete

-- Where the result isn't complete, another declaration of the name is refused first, as both stand at the name.
abbrev pub kind_by_parameters : Scope → Storage → PlainType → PlainToken → Checked (List Parameter) → TypeKind
kind_by_parameters scope storage result name (fine parameters bindings) =
    kind_or_incomplete (with_name scope name (function (signature_of result parameters)) storage)
kind_by_parameters scope storage result name other = Incomplete

abbrev pub result_kind : Scope → Storage → PlainType → PlainToken → Checked (List Parameter) → TypeKind
result_kind scope storage result name parameters =
    if may_be_function storage result (scope.file_names name.text) then kind_by_parameters scope storage result name parameters else Redeclared

abbrev pub judged_body : Scope → PlainType → List PlainType → PlainTree → Checked JudgedItems
judged_body scope result slots (node kind (more brace (more (node k.Items items) (more last none)))) =
    judged_items (record { scope = scope; result = result; in_loop = false }) slots items
judged_body scope result slots (node kind (more brace (more (node k.Absent items) (more last none)))) = give (items_as slots no_item)
judged_body scope result slots other = broken

abbrev pub is_function_body : Body → Bool
is_function_body (function_body slots items) = true
is_function_body other = false

abbrev pub count_functions : List Defined → ℕ
count_functions [] = 0
count_functions (d ∷ rest) = (if is_function_body d.body then 1 else 0) + count_functions rest

-- a function's block has its parameters; nothing of it is visible behind it
abbrev pub defined_function : UnitState → Storage → PlainType → PlainTrees → PlainToken → PlainTree → Checked UnitState
defined_function unit storage ty parts name body = do
  bound ← declares (file_entity name.text)
  fits ← unless_so (is_result unit.scope (starred parts ty)) (result_kind unit.scope storage (starred parts ty) name (parameters_of true unit.scope (behind_word t.OpenParenthesis parts) name)) name
  parameters ← new_function true unit.scope storage (starred parts ty) parts name
  scope ← with_name unit.scope name (function (signature_of (starred parts ty) parameters)) storage
  items ← judged_body (with_parameters (with_block scope) 0 parameters) (starred parts ty) (parameter_types parameters) body
  give (with_defined (with_scope unit scope) name.text (function_body items.slots items.core))

-- ---- structs (6.7.2.1)

-- a struct's members while they are declared
pub record Members : Type 0 where
  pub members : List PlainMember
  pub numbers : Table ℕ
  -- how many scalars they have
  pub scalars : ℕ

abbrev pub with_member : List Struct → Members → List ℕ → PlainType → Members
with_member structs known name ty = record {
  members = known.members ++ record { name = name; ty = ty } ∷ [];
  numbers = with_entry known.numbers name (length known.members);
  scalars = scalars_with structs known.scalars ty;
}

abbrev pub declared_member : Scope → ℕ → Members → PlainType → Kind → PlainTrees → PlainToken → Checked Members
declared_member scope number known ty kind parts name = do
  new ← unless_so (not (is_some (known.numbers name.text))) Redeclared name
  bound ← declares (member_entity number (length known.members))
  whole ← object_type scope ty kind parts name None
  complete ← unless_so (is_complete scope.structs whole) Incomplete name
  give (with_member scope.structs known name.text whole)

abbrev pub one_member : Scope → ℕ → Members → PlainType → PlainTree → Checked Members
one_member scope number known ty (node kind parts) =
    or_broken (name_in parts) >>= (λ name. declared_member scope number known ty kind parts name)
one_member scope number known ty (leaf token) = broken

abbrev pub members_from : Scope → ℕ → Members → PlainType → PlainTrees → Checked Members
members_from scope number known ty none = broken
members_from scope number known ty (more tree none) = one_member scope number known ty tree
members_from scope number known ty (more tree (more comma rest)) = do
  first ← one_member scope number known ty tree
  members_from scope number first ty rest

-- the members of a struct and what is visible behind them
pub record AllMembers : Type 0 where
  pub scope : Scope
  pub known : Members

abbrev pub all_members : Scope → ℕ → Members → PlainTrees → Checked AllMembers
all_members scope number known none = give (record { scope = scope; known = known })
all_members scope number known (more (node kind (more (node words_kind words) (more (node list_kind declarators) (more end none)))) rest) = do
  base ← based true scope words
  first ← members_from base.scope number known base.ty declarators
  all_members base.scope number first rest
all_members scope number known (more tree rest) = broken

abbrev pub completed : Members → Struct → Struct
completed known s = record s { members = known.members; numbers = known.numbers; complete = true; scalars = known.scalars }

abbrev pub with_members_at : ℕ → Members → List Struct → List Struct
with_members_at n known [] = []
with_members_at zero known (s ∷ rest) = completed known s ∷ rest
with_members_at (suc n) known (s ∷ rest) = s ∷ with_members_at n known rest

abbrev pub is_defined_struct : Option Struct → Bool
is_defined_struct (Some s) = s.complete
is_defined_struct None = false

abbrev pub is_defined_tag : Scope → Option ℕ → Bool
is_defined_tag scope None = false
is_defined_tag scope (Some n) = is_defined_struct (slice_get scope.structs n)

abbrev pub number_of_struct : PlainType → ℕ
number_of_struct (structure n) = n
number_of_struct other = 0

-- a struct is declared by its tag, and complete behind its last member
abbrev pub defined_struct : UnitState → PlainTrees → PlainTrees → Checked UnitState
defined_struct unit words members = do
  tag ← or_broken (name_in words)
  new ← unless_so (not (is_defined_tag unit.scope (unit.scope.tags tag.text))) Redeclared tag
  base ← based true unit.scope words
  all ← all_members base.scope (number_of_struct base.ty) (record { members = []; numbers = no_entry; scalars = 0 }) members
  give (with_scope unit (record all.scope { structs = with_members_at (number_of_struct base.ty) all.known all.scope.structs }))

-- ---- items

abbrev pub judged_item : ℕ → UnitState → PlainTree → PlainTrees → Checked UnitState
judged_item globals unit (node k.StructDefinition (more (node tag_kind words) (more brace (more (node list_kind members) rest)))) behind =
    defined_struct unit words members
judged_item globals unit (node k.StructDeclaration (more (node tag_kind words) (more end none))) behind = do
  base ← based true unit.scope words
  give (with_scope unit base.scope)
judged_item globals unit (node k.Declaration (more (node words_kind words) (more (node list_kind declarators) (more end none)))) behind = do
  base ← based true unit.scope words
  declared_from globals (with_scope unit base.scope) (storage_of words) base.ty declarators behind
judged_item globals unit (node k.Function (more (node words_kind words) (more (node list_kind (more (node kind parts) none)) (more body none)))) behind = do
  base ← based false unit.scope words
  name ← or_broken (name_in parts)
  in_function (count_functions unit.defined) (defined_function unit (storage_of words) base.ty parts name body)
judged_item globals unit tree behind = broken

abbrev pub judged_file_items : ℕ → UnitState → PlainTrees → Checked UnitState
judged_file_items globals unit none = give unit
judged_file_items globals unit (more tree rest) = do
  first ← judged_item globals unit tree rest
  judged_file_items globals first rest

-- a unit, behind the structs of the units before it
abbrev pub unit_start : List Struct → Numbers → UnitState
unit_start structs numbers = record {
  scope = record {
    structs = structs;
    tags = no_entry;
    file_names = no_entry;
    order = [];
    blocks = [];
    numbers = numbers;
  };
  defined = [];
}

-- ---- the end of a unit, where all structs are complete that it completes (6.9.2)

abbrev pub is_big : Scope → Sort → Bool
is_big scope (variable ty) = not (is_small scope.structs ty)
is_big scope (function signature) = false

abbrev pub is_too_big : Scope → Option FileName → Bool
is_too_big scope None = false
is_too_big scope (Some n) = is_big scope n.sort

abbrev pub name_if_too_big : Scope → Option PlainToken → Option PlainToken
name_if_too_big scope None = None
name_if_too_big scope (Some name) = if is_too_big scope (scope.file_names name.text) then Some name else None

abbrev pub too_big_declarator : Scope → PlainTree → Option PlainToken
too_big_declarator scope (node k.Declarator parts) = name_if_too_big scope (name_in parts)
too_big_declarator scope tree = None

-- the first name of an object that is too big, among declarators and in a unit
abbrev pub too_big_among : Scope → PlainTrees → Option PlainToken
too_big_among scope none = None
too_big_among scope (more tree rest) = or_else (too_big_declarator scope tree) (too_big_among scope rest)

abbrev pub too_big_declared : Scope → PlainTrees → Option PlainToken
too_big_declared scope (more words (more (node kind declarators) end)) = too_big_among scope declarators
too_big_declared scope parts = None

abbrev pub too_big_in_item : Scope → PlainTree → Option PlainToken
too_big_in_item scope (node k.Declaration parts) = too_big_declared scope parts
too_big_in_item scope tree = None

abbrev pub too_big_in : Scope → PlainTrees → Option PlainToken
too_big_in scope none = None
too_big_in scope (more tree rest) = or_else (too_big_in_item scope tree) (too_big_in scope rest)

abbrev pub unless_too_big : Option PlainToken → Checked (Unit {0})
unless_too_big None = give tt
unless_too_big (Some name) = refused BadConstant name

abbrev pub judged_to_end : ℕ → UnitState → PlainTrees → Checked UnitState
judged_to_end globals start parts = do
  unit ← judged_file_items globals start parts
  small ← unless_too_big (too_big_in unit.scope parts)
  give unit

-- What a unit is, with so many globals in the program.
abbrev pub judged_unit : ℕ → List Struct → Numbers → PlainTree → Checked UnitState
judged_unit globals structs numbers (node kind parts) = judged_to_end globals (unit_start structs numbers) parts
judged_unit globals structs numbers (leaf token) = broken
