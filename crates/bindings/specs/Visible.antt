-- What is visible at a place of a unit (ISO/IEC 9899:2011, 6.2.1 to 6.2.3), and what an identifier there is bound to. A token of a unit is
-- named by its number, so that two tokens that come from one place of a file are told apart.
use Rattle.std.specs.Prelude.{ℕ, ◌+◌, Bool, true, false, not, ◌&&◌, List, [], ◌∷◌, ◌++◌, Option, Some, None, is_some, if◌then◌else◌}
use Rattle.std.specs.List.{list_any}
use Rattle.std.specs.Str.{bytes_eq}
use Rattle.c_text.specs.Token.{PlainToken}
use Rattle.core_meaning.specs.Entities.{or_else}

-- The name spaces (6.2.3). Tags stand at file scope alone, so the members of a struct are known by its tag.
pub data NameSpace : Type 0 where
  ordinary : NameSpace
  tags : NameSpace
  members_of : List ℕ → NameSpace

abbrev pub same_space : NameSpace → NameSpace → Bool
same_space ordinary ordinary = true
same_space tags tags = true
same_space (members_of a) (members_of b) = bytes_eq a b
same_space a b = false

-- a name, and the token that first declares what it stands for
pub record Entry : Type 0 where
  pub space : NameSpace
  pub name : List ℕ
  pub declared_by : ℕ

-- the innermost entry of a name, where the innermost entries come first
abbrev pub look_up : NameSpace → List ℕ → List Entry → Option ℕ
look_up space name [] = None
look_up space name (e ∷ outer) =
    if same_space e.space space && bytes_eq e.name name then Some e.declared_by else look_up space name outer

-- What an identifier is bound to.
pub data Binding : Type 0 where
  -- what this token first declares, perhaps the identifier itself
  bound_to : ℕ → Binding
  undeclared : Binding
  -- a member, by the tag of the struct whose member it is, which the types of expressions tell
  member_use : (List ℕ → Option ℕ) → Binding

pub record Occurrence : Type 0 where
  pub number : ℕ
  pub token : PlainToken
  pub binding : Binding
  -- it is a name of file scope, and an expression uses it
  pub uses_file_name : Bool

-- whether an expression uses this name of file scope
abbrev pub uses_among : List Occurrence → List ℕ → Bool
uses_among occurrences name = list_any (λ o. o.uses_file_name && bytes_eq o.token.text name) occurrences

-- A unit up to a token.
pub record Reading : Type 0 where
  -- the number of the next token
  pub next : ℕ
  -- what is visible of file scope: ordinary names, tags, and the members of structs
  pub file : List Entry
  -- the ordinary names of the blocks that are open, and of the parameters
  pub blocks : List Entry
  -- the identifiers so far, in the order of the text
  pub found : List Occurrence

abbrev pub start : Reading
start = record { next = 0; file = []; blocks = []; found = [] }

-- a token that is no identifier
abbrev pub passed : Reading → Reading
passed r = record r { next = r.next + 1 }

abbrev pub occurs_as : Bool → PlainToken → Binding → Reading → Reading
occurs_as uses_file_name token binding r =
    record r { next = r.next + 1; found = r.found ++ record { number = r.next; token = token; binding = binding; uses_file_name = uses_file_name } ∷ [] }

abbrev pub occurs : PlainToken → Binding → Reading → Reading
occurs token binding r = occurs_as false token binding r

abbrev pub with_file_entry : NameSpace → List ℕ → ℕ → Reading → Reading
with_file_entry space name by r = record r { file = record { space = space; name = name; declared_by = by } ∷ r.file }

abbrev pub with_block_entry : List ℕ → ℕ → Reading → Reading
with_block_entry name by r = record r { blocks = record { space = ordinary; name = name; declared_by = by } ∷ r.blocks }

-- a block ends: what it declared isn't visible any more
abbrev pub leave : Reading → Reading → Reading
leave before r = record r { blocks = before.blocks }

-- an ordinary name that is used: a block's hides one of file scope
abbrev pub binding_found : Option ℕ → Binding
binding_found None = undeclared
binding_found (Some by) = bound_to by

abbrev pub visible_name : List ℕ → Reading → Option ℕ
visible_name name r = or_else (look_up ordinary name r.blocks) (look_up ordinary name r.file)

-- whether it is one of file scope
abbrev pub is_of_file : List ℕ → Reading → Bool
is_of_file name r = not (is_some (look_up ordinary name r.blocks)) && is_some (look_up ordinary name r.file)

abbrev pub used : PlainToken → Reading → Reading
used token r = occurs_as (is_of_file token.text r) token (binding_found (visible_name token.text r)) r

-- a member that is used, behind `.` or `->`
abbrev pub member_used : PlainToken → Reading → Reading
member_used token r = occurs token (member_use (λ tag. look_up (members_of tag) token.text r.file)) r

-- a tag: where it may declare a struct, it is visible from here on
abbrev pub new_tag : Bool → PlainToken → Reading → Reading
new_tag true token r = occurs token (bound_to r.next) (with_file_entry tags token.text r.next r)
new_tag false token r = occurs token undeclared r

abbrev pub tag_found : Bool → PlainToken → Option ℕ → Reading → Reading
tag_found may_declare token (Some by) r = occurs token (bound_to by) r
tag_found may_declare token None r = new_tag may_declare token r

abbrev pub tag_named : Bool → PlainToken → Reading → Reading
tag_named may_declare token r = tag_found may_declare token (look_up tags token.text r.file) r
