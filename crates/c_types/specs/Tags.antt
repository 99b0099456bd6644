-- Tables of structs without pointers and room in memory.
use Rattle.std.specs.Prelude.{ℕ, ◌<◌, Bool, List, map, ⊤}
use Rattle.c_types.specs.declared.types.Member.{Member}
use Rattle.c_types.specs.declared.types.Tag.{Tag}
use Rattle.c_types.specs.declared.types.TagTable.{TagTable}
use Rattle.c_types.specs.Types.{PlainType, pointer_to, array_of, structure, plain_type}

pub record PlainMember : Type 0 where
  pub name : List ℕ
  pub ty : PlainType

pub record PlainTag : Type 0 where
  pub name : List ℕ
  pub members : List PlainMember
  pub complete : Bool

abbrev pub plain_member : Member → PlainMember
plain_member m = record { name = m.name.items; ty = plain_type m.ty }

abbrev pub plain_tag : Tag → PlainTag
plain_tag t = record { name = t.name.items; members = map plain_member t.members.items; complete = t.complete }

abbrev pub plain_tags : TagTable → List PlainTag
plain_tags table = map plain_tag table.tags.items

-- each struct that the type names is one of this many
abbrev pub NamesBelow : ℕ → PlainType → Type 0
NamesBelow count (pointer_to t) = NamesBelow count t
NamesBelow count (array_of t elements) = NamesBelow count t
NamesBelow count (structure number) = number < count
NamesBelow count other = ⊤
