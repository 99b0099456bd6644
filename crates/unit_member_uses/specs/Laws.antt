-- That units use members so; each law is the contract of a function of this crate.
use Rattle.std.specs.Prelude.{◌≡◌, ℕ, Bool, true, false, List, [], Some}
use Rattle.c_text.specs.Token.{PlainToken}
use Rattle.c_types.specs.Types.{PlainType}
use Rattle.c_tree.specs.declared.kinds.Kind.TheVariants as k
use Rattle.c_tree.specs.Trees.{PlainTree, PlainTrees, node, spelled}
use Rattle.c_tree.specs.Grammar.{Role, file_item}
use Rattle.tree_derivations.specs.Derivations.{Derivation}
use Rattle.core_meaning.specs.Checking.{Binding, fine}
use Rattle.core_meaning.specs.Entities.{Struct, Numbers, Sort, function, Scope}
use Rattle.core_meaning.specs.Declarations.{name_in, Based, based, starred, Parameter}
use Rattle.core_meaning.specs.UnitNames.{UnitState, Storage, storage_of, with_name, with_scope, signature_of, new_function, judged_item, unit_start, judged_unit}
use Rattle.declarator_lists.specs.Lists.{Declared, declared_in, trees_of}
use Rattle.declaration_readings.specs.Readings.{Going, next_name}
use Rattle.bindings.specs.Laws.{ArePieces, IsWritten}
use Rattle.operand_types.specs.Laws.{KeepsApart}
use Rattle.expression_types.specs.Known.{Known, IsKnown}
use Rattle.selections.specs.Laws.{HasNames}
use Rattle.member_uses.specs.Uses.{uses_in}
use Rattle.member_uses.specs.Walks.{uses_in_body}
use Rattle.member_uses.specs.Declarations.{declaration, IsDeclarator, uses_in_declared, uses_in_turn, uses_initially}
use Rattle.unit_member_uses.specs.Items.{uses_in_items, definition, in_body, is_struct}

-- Where a unit is judged well, its uses of members are those of its items, one after the other.
abbrev pub UnitsAreUsed : Type 0
UnitsAreUsed =
    (by : ℕ → ℕ) (items : PlainTrees) → IsWritten (node k.Unit items) → (globals : ℕ) (structs : List Struct) (numbers : Numbers) (unit : UnitState) (js : List Binding)
    → judged_unit globals structs numbers (node k.Unit items) ≡ fine unit js
    → uses_in by (node k.Unit items) (judged_unit globals structs numbers (node k.Unit items)) ≡ uses_in_items by globals (unit_start structs numbers) items

-- Behind an item names of file scope are spelt as names still.
abbrev pub ItemsKeepNames : Type 0
ItemsKeepNames =
    (globals : ℕ) (unit : UnitState) → HasNames unit.scope → (tree : PlainTree) → Derivation file_item tree → ArePieces (spelled tree) → (behind : PlainTrees)
    → (next : UnitState) (js : List Binding) → judged_item globals unit tree behind ≡ fine next js → HasNames next.scope

-- A declaration at file scope uses what its declarators use, each judged behind those before it.
abbrev pub DeclarationsAreUsed : Type 0
DeclarationsAreUsed =
    (by : ℕ → ℕ) (globals : ℕ) (unit : UnitState) → HasNames unit.scope → (words list : PlainTrees) (last : PlainToken)
    → Derivation file_item (node k.Declaration (declaration words list last)) → ArePieces (spelled (node k.Declaration (declaration words list last))) → (behind : PlainTrees)
    → (base : Based) (bs : List Binding) → based true unit.scope words ≡ fine base bs → (g : Going UnitState) → g.state ≡ with_scope unit base.scope
    → (next : UnitState) (js : List Binding) → judged_item globals unit (node k.Declaration (declaration words list last)) behind ≡ fine next js
    → uses_in by (node k.Declaration (declaration words list last)) (judged_item globals unit (node k.Declaration (declaration words list last)) behind)
    ≡ uses_in_turn by (next_name globals (storage_of words) base.ty behind) g (declared_in (trees_of list))

-- So it uses none, as first values are constant.
abbrev pub DeclarationsUseNothing : Type 0
DeclarationsUseNothing =
    (by : ℕ → ℕ) (globals : ℕ) (unit : UnitState) → HasNames unit.scope → (words list : PlainTrees) (last : PlainToken)
    → Derivation file_item (node k.Declaration (declaration words list last)) → ArePieces (spelled (node k.Declaration (declaration words list last))) → (behind : PlainTrees)
    → (next : UnitState) (js : List Binding) → judged_item globals unit (node k.Declaration (declaration words list last)) behind ≡ fine next js
    → uses_in by (node k.Declaration (declaration words list last)) (judged_item globals unit (node k.Declaration (declaration words list last)) behind) ≡ []

-- A declarator there uses what its first value selects where its name is visible.
abbrev pub NamesUseInitialisers : Type 0
NamesUseInitialisers =
    (by : ℕ → ℕ) → KeepsApart by → (globals : ℕ) (storage : Storage) (ty : PlainType) (behind : PlainTrees) (role : Role) (d : Declared) → IsDeclarator role d
    → (unit : UnitState) → HasNames unit.scope → (next : UnitState) (js : List Binding) → next_name globals storage ty behind unit d ≡ fine next js
    → (known : Known) → IsKnown by next.scope known → uses_in_declared by (next_name globals storage ty behind) unit d ≡ uses_initially known d.initialiser

-- The definition of a function uses what its block uses, in which its name and its parameters are visible.
abbrev pub FunctionsAreUsed : Type 0
FunctionsAreUsed =
    (by : ℕ → ℕ) (globals : ℕ) (unit : UnitState) → HasNames unit.scope → (words parts : PlainTrees) (body : PlainTree)
    → Derivation file_item (definition words parts body) → ArePieces (spelled (definition words parts body)) → (behind : PlainTrees)
    → (base : Based) (bs : List Binding) → based false unit.scope words ≡ fine base bs → (name : PlainToken) → name_in parts ≡ Some name
    → (parameters : List Parameter) (ps : List Binding) → new_function true unit.scope (storage_of words) (starred parts base.ty) parts name ≡ fine parameters ps
    → (scope : Scope) (ss : List Binding) → with_name unit.scope name (function (signature_of (starred parts base.ty) parameters)) (storage_of words) ≡ fine scope ss
    → (next : UnitState) (js : List Binding) → judged_item globals unit (definition words parts body) behind ≡ fine next js
    → uses_in by (definition words parts body) (judged_item globals unit (definition words parts body) behind) ≡ uses_in_body by (starred parts base.ty) body (in_body scope parameters)

-- Structs are declared and defined without a use of a member.
abbrev pub StructsUseNothing : Type 0
StructsUseNothing =
    (by : ℕ → ℕ) (globals : ℕ) (unit : UnitState) → HasNames unit.scope → (tree : PlainTree) → Derivation file_item tree → is_struct tree ≡ true → ArePieces (spelled tree)
    → (behind : PlainTrees) (next : UnitState) (js : List Binding) → judged_item globals unit tree behind ≡ fine next js
    → uses_in by tree (judged_item globals unit tree behind) ≡ []

-- Names of file scope are spelt as names where a unit begins, behind the words of a type, behind each declarator, and where a function's block begins.
pub record ScopesKeepNames : Type 0 where
  pub starts : (structs : List Struct) (numbers : Numbers) → HasNames (unit_start structs numbers).scope
  pub words :
      (declaring : Bool) (scope : Scope) → HasNames scope → (words : PlainTrees) (base : Based) (bs : List Binding) → based declaring scope words ≡ fine base bs
      → HasNames base.scope
  pub declarators :
      (globals : ℕ) (storage : Storage) (ty : PlainType) (behind : PlainTrees) (role : Role) (d : Declared) → IsDeclarator role d
      → (unit : UnitState) → HasNames unit.scope → (next : UnitState) (js : List Binding) → next_name globals storage ty behind unit d ≡ fine next js → HasNames next.scope
  pub bodies :
      (scope : Scope) → HasNames scope → (words parts : PlainTrees) (body : PlainTree) → Derivation file_item (definition words parts body)
      → ArePieces (spelled (definition words parts body)) → (name : PlainToken) → name_in parts ≡ Some name → (sort : Sort) (storage : Storage)
      → (inner : Scope) (ss : List Binding) → with_name scope name sort storage ≡ fine inner ss → (parameters : List Parameter) → HasNames (in_body inner parameters).scope
