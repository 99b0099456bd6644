-- What has been noted of the uses of members, and what is visible there, as a configuration sees both (ISO/IEC 9899:2011, 6.5.2.3, 6.8).
use Rattle.std.specs.Prelude.{◌≡◌, ℕ, Bool, true, false, List, [], ◌++◌, Some, IsTrue}
use Rattle.c_names.specs.Names.{is_identifier}
use Rattle.c_types.specs.Types.{PlainType}
use Rattle.c_tree.specs.declared.kinds.Kind.{Kind}
use Rattle.c_tree.specs.declared.kinds.Kind.TheVariants as k
use Rattle.c_tree.specs.Trees.{PlainTree, PlainTrees, node, all_written, spelled}
use Rattle.c_tree.specs.Grammar.{block}
use Rattle.tree_derivations.specs.Derivations.{Derivation}
use Rattle.conditional.specs.Entries.{seen, listed}
use Rattle.conditional.specs.declared.lists.CondList.{CondList}
use Rattle.core_meaning.specs.Checking.{Binding, fine}
use Rattle.core_meaning.specs.Entities.{Scope}
use Rattle.core_meaning.specs.Typing.{Operand}
use Rattle.core_meaning.specs.Expressions.{judged}
use Rattle.core_meaning.specs.Declarations.{Locals, judged_locals}
use Rattle.core_meaning.specs.Statements.{JudgedItems}
use Rattle.core_meaning.specs.UnitNames.{judged_body}
use Rattle.bindings.specs.Laws.{ArePieces}
use Rattle.member_uses.specs.Uses.{Use, uses_in, uses_among}
use Rattle.member_uses.specs.Walks.{uses_in_parts}
use Rattle.statement_readings.specs.Walks.{State, walk_parts}
use Rattle.type_tables.specs.declared.tables.Tables.{Tables as TheTables}
use Rattle.type_tables.specs.Tables.{Tables, FileName}
use Rattle.type_tables.specs.Steps.{entered}
use Rattle.type_tables.specs.Numbers.{FollowsBy, FollowsInBlockBy}
use Rattle.type_tables.specs.Seen.{seen_tables}
use Rattle.cond_selections.specs.declared.entries.Selection.{Selection}
use Rattle.cond_selections.specs.Selected.{plain_selection}
use Rattle.cond_statements.specs.Ready.{IsDerived, IsExpression, Ready}
use Rattle.cond_statements.specs.Readings.{first_behind, Stand, is_quiet}

pub record Noted : Type 0 where
  pub tables : Tables
  pub uses : List Use

abbrev pub noted_at : (ℕ → Bool) → TheTables → CondList Selection → Noted
noted_at on tables log = record { tables = seen_tables on tables; uses = seen on (listed plain_selection log) }

-- names of file scope are spelt as names
abbrev pub HasNames : Tables → Type 0
HasNames t = (name : List ℕ) (n : FileName) → t.names name ≡ Some n → is_identifier name ≡ true

-- These uses have been noted, and the tables stand so to what is visible among the parts of a node of this kind.
pub record Comes (kind : Kind) (first : Bool) (by : ℕ → ℕ) (scope : Scope) (uses : List Use) (old new : Noted) : Type 0 where
  pub stands : Stand kind first by new.tables scope
  pub names : new.tables.names ≡ old.tables.names
  pub same : IsTrue (is_quiet kind) → new.tables ≡ old.tables
  pub noted : new.uses ≡ old.uses ++ uses

-- The uses in these parts of a node of this kind are noted, where none of them is refused, however its parts before them were read.
pub record Notes (kind : Kind) (parts : PlainTrees) (old new : Noted) : Type 0 where
  pub notes :
      (by : ℕ → ℕ) (result : PlainType) (in_loop turned first : Bool) (s : State) → HasNames old.tables → ArePieces (all_written parts []) → Ready kind first parts
      → Stand kind first by old.tables s.scope → (walk_parts result in_loop kind turned parts s).refused ≡ false
      → Comes kind (first_behind first parts) by (walk_parts result in_loop kind turned parts s).scope (uses_in_parts by result in_loop kind turned parts s) old new

-- where a condition is true; elsewhere nothing changes
pub record Where (here : Bool) (Does : Noted → Noted → Type 0) (old new : Noted) : Type 0 where
  pub elsewhere : here ≡ false → new ≡ old
  pub does : here ≡ true → Does old new

-- ---- what a node among the parts of another is

-- an expression that is judged well in this scope
pub record NotesExpression (tree : PlainTree) (old new : Noted) : Type 0 where
  pub same : new.tables ≡ old.tables
  pub notes :
      (by : ℕ → ℕ) (scope : Scope) (operand : Operand) (bindings : List Binding) → HasNames old.tables → ArePieces (spelled tree) → IsExpression tree → FollowsBy by old.tables scope
      → judged scope tree ≡ fine operand bindings → new.uses ≡ old.uses ++ uses_in by tree (judged scope tree)

-- the parts of a node that has a block of its own, in that block
pub record NotesBlock (kind : Kind) (parts : PlainTrees) (old new : Noted) : Type 0 where
  pub same : new.tables ≡ old.tables
  pub inside : Tables
  pub notes : Notes kind parts (record old { tables = entered old.tables }) (record new { tables = inside })

-- a declaration that is judged well in this scope
pub record NotesLocals (parts : PlainTrees) (old new : Noted) : Type 0 where
  pub names : new.tables.names ≡ old.tables.names
  pub notes :
      (by : ℕ → ℕ) (scope : Scope) (slots : List PlainType) (locals : Locals) (bindings : List Binding) → HasNames old.tables → ArePieces (all_written parts [])
      → IsDerived (node k.LocalDeclaration parts) → FollowsInBlockBy by old.tables scope → judged_locals scope slots parts ≡ fine locals bindings
      → FollowsInBlockBy by new.tables locals.scope × (new.uses ≡ old.uses ++ uses_among by parts (judged_locals scope slots parts))

-- the block of a function that is judged well in this scope, that of its parameters
pub record NotesBody (tree : PlainTree) (old new : Noted) : Type 0 where
  pub notes :
      (by : ℕ → ℕ) (result : PlainType) (scope : Scope) (slots : List PlainType) (items : JudgedItems) (bindings : List Binding) → HasNames old.tables → ArePieces (spelled tree)
      → Derivation block tree → FollowsInBlockBy by old.tables scope → judged_body scope result slots tree ≡ fine items bindings
      → new.uses ≡ old.uses ++ uses_in by tree (judged_body scope result slots tree)
