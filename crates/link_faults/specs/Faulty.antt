-- Where units don't link, and where structs are those of tables.
use Rattle.std.specs.Prelude.{◌≡◌, ◌⊎◌, ℕ, List, [], ◌∷◌, Some, slice_get}
use Rattle.core_meaning.specs.Entities.{Struct}
use Rattle.core_meaning.specs.Linking.{Units, IsFault}
use Rattle.core_meaning.specs.declared.refusals.LinkKind.{LinkKind}
use Rattle.core_meaning.specs.declared.refusals.LinkKind.TheVariants as link_kind
use Rattle.type_tables.specs.Tables.{Tables}
use Rattle.type_tables.specs.Follows.{StructFollows}

-- each struct is one of the tables', by its number
abbrev pub StructsFollow : (ℕ → ℕ) → Tables → List Struct → Type 0
StructsFollow by t structs = (n : ℕ) (s : Struct) → slice_get structs n ≡ Some s → StructFollows by t structs n s

-- a name has a fault, other than that `main` is missing
abbrev pub HasFault : Units → List ℕ → Type 0
HasFault linked name = IsFault linked link_kind.Undefined name ⊎ (IsFault linked link_kind.Duplicate name ⊎ IsFault linked link_kind.Incompatible name)

-- one of these names has such a fault
abbrev pub SomeHaveFaults : Units → List (List ℕ) → Type 0
SomeHaveFaults linked [] = ⊥
SomeHaveFaults linked (name ∷ rest) = HasFault linked name ⊎ SomeHaveFaults linked rest

-- Some name has a fault.
pub record FailToLink (linked : Units) : Type 0 where
  pub kind : LinkKind
  pub name : List ℕ
  pub fault : IsFault linked kind name
