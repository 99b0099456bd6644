-- Types by their words and declarators, parameters, and the declarations of locals (ISO/IEC 9899:2011, 6.7).
use Rattle.std.specs.Prelude.{ℕ, zero, suc, nat_le, Bool, true, false, not, ◌&&◌, ◌||◌, List, [], ◌∷◌, ◌++◌, length, map, Option, Some, None, is_some, if◌then◌else◌}
use Rattle.std.specs.List.{list_any}
use Rattle.std.specs.Str.{bytes_eq}
use Rattle.c_text.specs.Token.{PlainToken}
use Rattle.c_types.specs.Types.{PlainType, pointer_to, array_of, structure}
use Rattle.c_tree.specs.declared.kinds.Kind.{Kind}
use Rattle.c_tree.specs.declared.kinds.Kind.TheVariants as k
use Rattle.c_tree.specs.declared.terminals.Terminal.{Terminal}
use Rattle.c_tree.specs.declared.terminals.Terminal.TheVariants as t
use Rattle.c_tree.specs.Terminals.{terminal, same}
use Rattle.c_tree.specs.Trees.{PlainTree, PlainTrees, leaf, node, none, more}
use Rattle.c_tree.specs.Grammar.{is_absent, is_word, is_lone_void}
use Rattle.c_tree.specs.Heights.{count_stars}
use Rattle.core_meaning.specs.declared.refusals.TypeKind.TheVariants.{Undeclared, Redeclared, Incomplete, BadConstant}
use Rattle.core_meaning.specs.Program.{PlainPart}
use Rattle.core_meaning.specs.Checking.{Entity, local_entity, struct_entity, own_entity, Checked, refused, broken, ◌>>=◌, give, unless_so, declares, or_broken}
use Rattle.core_meaning.specs.Entities.{Table, no_entry, with_entry, Struct, Local, Scope}
use Rattle.core_meaning.specs.Typing.{is_complete}
use Rattle.core_meaning.specs.Expressions.{first_token_in, has_terminal, arithmetic_words, is_void}
use Rattle.core_meaning.specs.Constancy.{judged_count, count_by_initialiser, most_elements, is_small, Initial, initial}

-- the first name among words; what stands in `[ ]` is none of them
abbrev pub name_in : PlainTrees → Option PlainToken
name_in none = None
name_in (more (leaf token) rest) =
    if same t.Name (terminal token) then Some token
    else if same t.OpenBracket (terminal token) then None
    else name_in rest
name_in (more (node kind parts) rest) = None

-- what stands behind the first word of a terminal
abbrev pub behind_word : Terminal → PlainTrees → Option PlainTree
behind_word wanted none = None
behind_word wanted (more (leaf token) none) = None
behind_word wanted (more (leaf token) (more next rest)) =
    if same wanted (terminal token) then Some next else behind_word wanted (more next rest)
behind_word wanted (more (node kind parts) rest) = None

-- ---- types by words (6.7.2)

-- a type, and what is visible behind its words, which may declare a struct
pub record Based : Type 0 where
  pub ty : PlainType
  pub scope : Scope

abbrev pub new_struct : List ℕ → Struct
new_struct name = record { name = name; members = []; numbers = no_entry; complete = false; scalars = 0 }

abbrev pub with_struct : Scope → List ℕ → Scope
with_struct scope name =
    record scope { structs = scope.structs ++ new_struct name ∷ []; tags = with_entry scope.tags name (length scope.structs) }

abbrev pub based_on_tag : Bool → Scope → PlainToken → Option ℕ → Checked Based
based_on_tag declaring scope tag (Some n) = do
  bound ← declares (struct_entity n)
  give (record { ty = structure n; scope = scope })
based_on_tag false scope tag None = refused Undeclared tag
based_on_tag true scope tag None = do
  bound ← declares (struct_entity (length scope.structs))
  give (record { ty = structure (length scope.structs); scope = with_struct scope tag.text })

-- the type that the words name; at file scope they may declare a struct, elsewhere they may not
abbrev pub based : Bool → Scope → PlainTrees → Checked Based
based declaring scope words =
    if has_terminal t.Struct words
    then or_broken (name_in words) >>= (λ tag. based_on_tag declaring scope tag (scope.tags tag.text))
    else give (record { ty = arithmetic_words words; scope = scope })

-- ---- declarators (6.7.6)

abbrev pub pointers : ℕ → PlainType → PlainType
pointers zero ty = ty
pointers (suc n) ty = pointer_to (pointers n ty)

-- the type behind a declarator's stars
abbrev pub starred : PlainTrees → PlainType → PlainType
starred parts ty = pointers (count_stars parts) ty

abbrev pub count_of_size : Scope → PlainToken → Option PlainTree → Checked ℕ
count_of_size scope name None = broken
count_of_size scope name (Some size) = judged_count scope size name

abbrev pub is_left_out : Option PlainTree → Bool
is_left_out (Some size) = is_absent size
is_left_out None = false

-- an initialiser that gives no number of elements is refused when it is judged
abbrev pub count_or_one : Option ℕ → ℕ
count_or_one (Some count) = count
count_or_one None = 1

abbrev pub count_without_size : PlainType → PlainToken → Option PlainTree → Checked ℕ
count_without_size element name None = refused Incomplete name
count_without_size element name (Some initialiser) = do
  few ← unless_so (nat_le (count_or_one (count_by_initialiser element initialiser)) most_elements) BadConstant name
  give (count_or_one (count_by_initialiser element initialiser))

-- how many elements the array has: without a size, as many as its initialiser gives (6.7.9)
abbrev pub element_count : Scope → PlainType → PlainToken → Option PlainTree → Option PlainTree → Checked ℕ
element_count scope element name size initialiser =
    if is_left_out size then count_without_size element name initialiser else count_of_size scope name size

-- the type of an object's declarator
abbrev pub object_type : Scope → PlainType → Kind → PlainTrees → PlainToken → Option PlainTree → Checked PlainType
object_type scope ty k.ArrayDeclarator parts name initialiser = do
  complete ← unless_so (is_complete scope.structs (starred parts ty)) Incomplete name
  count ← element_count scope (starred parts ty) name (behind_word t.OpenBracket parts) initialiser
  give (array_of (starred parts ty) count)
object_type scope ty k.Declarator parts name initialiser = give (starred parts ty)
object_type scope ty kind parts name initialiser = broken

-- ---- what is visible in blocks (6.2.1)

abbrev pub innermost : List (Table Local) → Table Local
innermost [] = no_entry
innermost (block ∷ others) = block

abbrev pub with_local_in : List (Table Local) → List ℕ → Local → List (Table Local)
with_local_in [] name l = with_entry no_entry name l ∷ []
with_local_in (block ∷ others) name l = with_entry block name l ∷ others

abbrev pub with_local : Scope → List ℕ → ℕ → PlainType → Scope
with_local scope name slot ty = record scope { blocks = with_local_in scope.blocks name (record { slot = slot; ty = ty }) }

-- a block of its own
abbrev pub with_block : Scope → Scope
with_block scope = record scope { blocks = no_entry ∷ scope.blocks }

-- ---- parameters (6.7.6.3)

pub record Parameter : Type 0 where
  pub name : Option PlainToken
  pub ty : PlainType

-- a parameter's array is a pointer; its size, if it has one, is constant too
abbrev pub size_of_parameter : Scope → PlainToken → Option PlainTree → Checked ℕ
size_of_parameter scope name size = if is_left_out size then give 0 else count_of_size scope name size

abbrev pub parameter_type : Scope → PlainType → Kind → PlainTrees → PlainToken → Checked PlainType
parameter_type scope ty k.ArrayDeclarator parts name = do
  complete ← unless_so (is_complete scope.structs (starred parts ty)) Incomplete name
  count ← size_of_parameter scope name (behind_word t.OpenBracket parts)
  give (pointer_to (starred parts ty))
parameter_type scope ty k.Declarator parts name = give (starred parts ty)
parameter_type scope ty kind parts name = broken

-- the parameter's name, or its first token
abbrev pub token_of : Option PlainToken → PlainToken → PlainToken
token_of (Some name) first = name
token_of None first = first

abbrev pub is_name_of : List ℕ → Option PlainToken → Bool
is_name_of text (Some name) = bytes_eq name.text text
is_name_of text None = false

abbrev pub is_new_parameter : List Parameter → Option PlainToken → Bool
is_new_parameter before None = true
is_new_parameter before (Some name) = not (list_any (λ p. is_name_of name.text p.name) before)

-- a definition's parameters are its first slots
abbrev pub parameter_entity : Bool → ℕ → Entity
parameter_entity true slot = local_entity slot
parameter_entity false slot = own_entity

abbrev pub declares_name : Option PlainToken → Entity → Checked (Unit {0})
declares_name None entity = give tt
declares_name (Some name) entity = declares entity

-- an incomplete struct may be a parameter of a declaration, not of a definition
abbrev pub may_be_parameter : Bool → Scope → PlainType → Bool
may_be_parameter defining scope ty = not (is_void ty) && (not defining || is_complete scope.structs ty)

abbrev pub judged_parameter : Bool → Scope → PlainType → PlainToken → Checked (Unit {0})
judged_parameter defining scope ty at = do
  fits ← unless_so (may_be_parameter defining scope ty) Incomplete at
  unless_so (is_small scope.structs ty) BadConstant at

abbrev pub declared_parameter : Bool → Scope → List Parameter → PlainType → PlainToken → PlainTree → Checked Parameter
declared_parameter defining scope before ty first (node k.Absent parts) = do
  judged ← judged_parameter defining scope ty first
  give (record { name = None; ty = ty })
declared_parameter defining scope before ty first (node kind parts) = do
  new ← unless_so (is_new_parameter before (name_in parts)) Redeclared (token_of (name_in parts) first)
  bound ← declares_name (name_in parts) (parameter_entity defining (length before))
  whole ← parameter_type scope ty kind parts (token_of (name_in parts) first)
  judged ← judged_parameter defining scope whole (token_of (name_in parts) first)
  give (record { name = name_in parts; ty = whole })
declared_parameter defining scope before ty first (leaf token) = broken

abbrev pub one_parameter : Bool → Scope → List Parameter → PlainTree → PlainToken → Checked Parameter
one_parameter defining scope before (node kind (more (node words_kind words) (more declarator none))) behind = do
  base ← based false scope words
  declared_parameter defining scope before base.ty (first_token_in words behind) declarator
one_parameter defining scope before tree behind = broken

-- A parameter is visible behind its declarator.
abbrev pub with_parameter : Scope → ℕ → Option PlainToken → PlainType → Scope
with_parameter scope slot None ty = scope
with_parameter scope slot (Some name) ty = with_local scope name.text slot ty

abbrev pub parameters_from : Bool → Scope → List Parameter → PlainTrees → PlainToken → Checked (List Parameter)
parameters_from defining scope before none behind = give before
parameters_from defining scope before (more tree none) behind = do
  p ← one_parameter defining scope before tree behind
  give (before ++ p ∷ [])
parameters_from defining scope before (more tree (more comma rest)) behind = do
  p ← one_parameter defining scope before tree behind
  parameters_from defining (with_parameter scope (length before) p.name p.ty) (before ++ p ∷ []) rest behind

-- the lone `void` stands for no parameter
abbrev pub parameters_in : Bool → Scope → PlainTree → PlainToken → Checked (List Parameter)
parameters_in defining scope (node k.Parameters parts) behind =
    if is_lone_void parts then give [] else parameters_from defining (with_block scope) [] parts behind
parameters_in defining scope other behind = give []

abbrev pub parameters_of : Bool → Scope → Option PlainTree → PlainToken → Checked (List Parameter)
parameters_of defining scope None behind = broken
parameters_of defining scope (Some list) behind = parameters_in defining scope list behind

-- ---- locals (6.2.1, 6.7)

-- a local with the parts of its initialiser; without any it has none
pub record LocalItem : Type 0 where
  pub slot : ℕ
  pub parts : List PlainPart

-- what is visible behind declarations, the types of all slots so far, and the declared locals
pub record Locals : Type 0 where
  pub scope : Scope
  pub slots : List PlainType
  pub items : List LocalItem

abbrev pub is_new_local : Scope → List ℕ → Bool
is_new_local scope name = not (is_some (innermost scope.blocks name))

abbrev pub plain_part : Initial → PlainPart
plain_part i = record { path = i.path; value = i.value }

abbrev pub local_initial : Scope → PlainType → PlainToken → Option PlainTree → Checked (List Initial)
local_initial scope ty name None = give []
local_initial scope ty name (Some initialiser) = initial scope None ty [] initialiser name

-- an object of a type that is complete and small enough; an array without a size is judged before
abbrev pub judged_object : Scope → PlainType → PlainToken → Checked (Unit {0})
judged_object scope ty name = do
  complete ← unless_so (is_complete scope.structs ty) Incomplete name
  unless_so (is_small scope.structs ty) BadConstant name

abbrev pub declared_local : Scope → List PlainType → PlainType → Kind → PlainTrees → PlainToken → Option PlainTree → Checked Locals
declared_local scope slots ty kind parts name initialiser = do
  new ← unless_so (is_new_local scope name.text) Redeclared name
  bound ← declares (local_entity (length slots))
  whole ← object_type scope ty kind parts name initialiser
  judged ← judged_object scope whole name
  given ← local_initial (with_local scope name.text (length slots) whole) whole name initialiser
  give (record {
    scope = with_local scope name.text (length slots) whole;
    slots = slots ++ whole ∷ [];
    items = record { slot = length slots; parts = map plain_part given } ∷ [];
  })

abbrev pub one_local : Scope → List PlainType → PlainType → PlainTree → Option PlainTree → Checked Locals
one_local scope slots ty (node kind parts) initialiser =
    or_broken (name_in parts) >>= (λ name. declared_local scope slots ty kind parts name initialiser)
one_local scope slots ty (leaf token) initialiser = broken

abbrev pub with_items : List LocalItem → Locals → Locals
with_items before locals = record locals { items = before ++ locals.items }

-- the declarators of a declaration
abbrev pub locals_from : Scope → List PlainType → PlainType → PlainTrees → Checked Locals
locals_from scope slots ty none = broken
locals_from scope slots ty (more tree none) = one_local scope slots ty tree None
locals_from scope slots ty (more tree (more sign none)) = broken
locals_from scope slots ty (more tree (more sign (more next none))) =
    if is_word (t.Assign ∷ []) sign then one_local scope slots ty tree (Some next)
    else (do
      first ← one_local scope slots ty tree None
      others ← locals_from first.scope first.slots ty (more next none)
      give (with_items first.items others))
locals_from scope slots ty (more tree (more sign (more next (more comma rest)))) =
    if is_word (t.Assign ∷ []) sign then (do
      first ← one_local scope slots ty tree (Some next)
      others ← locals_from first.scope first.slots ty rest
      give (with_items first.items others))
    else (do
      first ← one_local scope slots ty tree None
      others ← locals_from first.scope first.slots ty (more next (more comma rest))
      give (with_items first.items others))

-- a declaration in a block
abbrev pub judged_locals : Scope → List PlainType → PlainTrees → Checked Locals
judged_locals scope slots (more (node words_kind words) (more (node kind declarators) (more end none))) = do
  base ← based false scope words
  locals_from scope slots base.ty declarators
judged_locals scope slots other = broken
