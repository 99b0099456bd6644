-- What is noted of declarations among statements, as a configuration sees it (ISO/IEC 9899:2011, 6.7).
use Rattle.std.specs.Prelude.{◌≡◌, ℕ, Bool, false, List, [], ◌++◌, Option}
use Rattle.c_types.specs.Types.{PlainType}
use Rattle.c_tree.specs.Trees.{PlainTree, PlainTrees, all_written}
use Rattle.c_tree.specs.Grammar.{local}
use Rattle.tree_derivations.specs.Derivations.{Declared}
use Rattle.conditional.specs.Judgements as judgements
use Rattle.conditional.specs.declared.outcomes.Outcomes.{Outcomes}
use Rattle.core_meaning.specs.Checking.{Binding, Checked, fine}
use Rattle.core_meaning.specs.Entities.{Scope}
use Rattle.core_meaning.specs.Declarations.{Locals, one_local, locals_from}
use Rattle.declarator_lists.specs.Lists.{declared, declared_in, trees_of}
use Rattle.declaration_readings.specs.Readings.{next_local}
use Rattle.bindings.specs.Laws.{ArePieces}
use Rattle.operand_types.specs.OperandTypes.{renumbered}
use Rattle.operand_rules.specs.declared.operands.Refused.{Refused}
use Rattle.member_uses.specs.Uses.{Use}
use Rattle.member_uses.specs.Declarations.{IsDeclarator, uses_in_turn, uses_initially}
use Rattle.type_tables.specs.declared.entries.DeclaredType.{DeclaredType}
use Rattle.type_tables.specs.Tables.{known_in}
use Rattle.type_tables.specs.Follows.{IsThere}
use Rattle.type_tables.specs.Numbers.{FollowsInBlockBy}
use Rattle.cond_declarators.specs.Types.{ShowsType}
use Rattle.cond_member_uses.specs.Noted.{Noted, HasNames}

-- The tables follow what is visible behind declarators, where the same structs are visible, and these uses have been noted.
pub record Goes (by : ℕ → ℕ) (before after : Scope) (uses : List Use) (old new : Noted) : Type 0 where
  pub follows : FollowsInBlockBy by new.tables after
  pub structs : after.structs ≡ before.structs
  pub noted : new.uses ≡ old.uses ++ uses

-- what is judged well in each scope that the tables follow is declared, and these uses are noted, where this is the type before the declarators
pub record NotesDeclared (on : ℕ → Bool) (base : Outcomes DeclaredType Refused) (judged : Scope → List PlainType → PlainType → Checked Locals) (Ready : Type 0)
    (uses : Noted → (ℕ → ℕ) → Scope → List PlainType → PlainType → List Use) (old new : Noted) : Type 0 where
  pub names : new.tables.names ≡ old.tables.names
  pub notes :
      (by : ℕ → ℕ) (scope : Scope) (slots : List PlainType) (ty : PlainType) (locals : Locals) (bindings : List Binding) → HasNames old.tables → Ready → FollowsInBlockBy by old.tables scope
      → IsThere scope.structs ty → ShowsType on (judgements.fine (renumbered by ty)) base → judged scope slots ty ≡ fine locals bindings
      → Goes by scope locals.scope (uses new by scope slots ty) old new

-- one declarator with its initialiser
abbrev pub NotesOne : (ℕ → Bool) → Outcomes DeclaredType Refused → PlainTree → Option PlainTree → Noted → Noted → Type 0
NotesOne on base tree initialiser =
    NotesDeclared on base (λ scope slots ty. one_local scope slots ty tree initialiser) (IsDeclarator local (declared tree initialiser))
    (λ new by scope slots ty. uses_initially (known_in new.tables) initialiser)

-- the declarators of a list
abbrev pub NotesList : (ℕ → Bool) → Outcomes DeclaredType Refused → PlainTrees → Noted → Noted → Type 0
NotesList on base list =
    NotesDeclared on base (λ scope slots ty. locals_from scope slots ty list) (Declared local list × ArePieces (all_written list []))
    (λ new by scope slots ty. uses_in_turn by (next_local ty) (record { state = record { scope = scope; slots = slots }; refused = false }) (declared_in (trees_of list)))
