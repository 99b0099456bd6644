-- The name space in which each identifier of a unit declares a name of file scope, or is written as one there, by the kinds of the nodes around
-- it (ISO/IEC 9899:2011, 6.2.1, 6.2.3, 6.7.2.1), so that a reader of all configurations at once tells it in the same way.
use Rattle.std.specs.Prelude.{ℕ, Bool, false, ◌||◌, List, [], ◌∷◌, ◌++◌, Option, Some, None, if◌then◌else◌}
use Rattle.c_tree.specs.declared.kinds.Kind.{Kind}
use Rattle.c_tree.specs.declared.kinds.Kind.TheVariants as k
use Rattle.c_tree.specs.Trees.{PlainTree, PlainTrees, leaf, node, none, more}
use Rattle.core_meaning.specs.Declarations.{name_in}
use Rattle.bindings.specs.Visible.{NameSpace, ordinary, tags, members_of}
use Rattle.bindings.specs.Bindings.{is_name, tag_text}
use Rattle.scope_readings.specs.Scopes.{Scope, file_scope, members, block_scope}
use Rattle.scope_readings.specs.Walks.{Role, ordinary_use, member_use, tag, declared_name, turns, role, declaration_in, scope_of}

-- where a name is declared, by the tag of the struct that is defined around it; a block's names are in no name space that a whole unit sees
abbrev pub space_in : List ℕ → Scope → Option NameSpace
space_in struct file_scope = Some ordinary
space_in struct members = Some (members_of struct)
space_in struct block_scope = None

-- a name by its role in a declaration; a tag that is used counts too, as it may declare its struct
abbrev pub space_by : Kind → List ℕ → Role → Option NameSpace
space_by around struct tag = Some tags
space_by around struct declared_name = space_in struct (scope_of around)
space_by around struct ordinary_use = None
space_by around struct member_use = None

-- the tag of a struct's definition, by its words
abbrev pub defined_tag : PlainTrees → List ℕ
defined_tag (more (node kind words) rest) = tag_text (name_in words)
defined_tag other = []

-- the struct that is defined around the parts of a node, where this one is around the node
abbrev pub struct_in : List ℕ → Kind → PlainTrees → List ℕ
struct_in struct k.StructDefinition parts = defined_tag parts
struct_in struct other parts = struct

-- the names among the parts of a node, within the declaration around; whether one before them turned what a name is
abbrev pub spaces_in_parts : Kind → List ℕ → Kind → Bool → PlainTrees → List (Option NameSpace)
spaces_in_parts around struct kind turned none = []
spaces_in_parts around struct kind turned (more (node inner parts) rest) =
    spaces_in_parts (declaration_in around inner) (struct_in struct inner parts) inner false parts ++ spaces_in_parts around struct kind turned rest
spaces_in_parts around struct kind turned (more (leaf token) rest) =
    if is_name token
    then space_by around struct (role kind turned) ∷ spaces_in_parts around struct kind turned rest
    else spaces_in_parts around struct kind (turned || turns kind token) rest

-- the names in a node among the parts of another
abbrev pub spaces_in_node : Kind → List ℕ → Kind → PlainTrees → List (Option NameSpace)
spaces_in_node around struct kind parts = spaces_in_parts (declaration_in around kind) (struct_in struct kind parts) kind false parts

-- The identifiers of a unit, each once, in the order of the text.
abbrev pub spaces_of : PlainTree → List (Option NameSpace)
spaces_of (leaf token) = []
spaces_of (node kind parts) = spaces_in_node k.Unit [] kind parts
