-- What the first values of objects of file scope are bound to; the law is the contract of a function of this crate.
use Rattle.std.specs.Prelude.{◌≡◌, ℕ, List, Some}
use Rattle.std.specs.List.{AllByRecursion}
use Rattle.c_text.specs.Token.{PlainToken}
use Rattle.c_types.specs.Types.{PlainType}
use Rattle.c_tree.specs.Trees.{PlainTree}
use Rattle.core_meaning.specs.Values.{Path}
use Rattle.core_meaning.specs.Checking.{Entity, member_entity, Binding, fine}
use Rattle.core_meaning.specs.Entities.{Scope}
use Rattle.core_meaning.specs.Constancy.{Initial, initial}

abbrev pub IsNoMember : Entity → Type 0
IsNoMember (member_entity struct number) = ⊥
IsNoMember other = Unit {0}

-- none of them is a member of a struct
abbrev pub NameNoMembers : List Binding → Type 0
NameNoMembers bindings = AllByRecursion (λ b. IsNoMember b.entity) bindings

-- The first value of an object of file scope is constant, or the address of an object or of a text (6.6, 6.7.9). So where it is judged well, none of its
-- identifiers names a member.
abbrev pub FirstValuesNameNoMembers : Type 0
FirstValuesNameNoMembers =
    (scope : Scope) (globals : ℕ) (ty : PlainType) (path : Path) (tree : PlainTree) (behind : PlainToken) (parts : List Initial) (bindings : List Binding)
    → initial scope (Some globals) ty path tree behind ≡ fine parts bindings → NameNoMembers bindings
