-- Types that words and declarators name, and what a configuration sees of them (ISO/IEC 9899:2011, 6.7.2, 6.7.6).
use Rattle.std.specs.Prelude.{ℕ, Bool, true, Option}
use Rattle.c_text.specs.Token.{PlainToken}
use Rattle.c_types.specs.Types.{PlainType}
use Rattle.c_tree.specs.Trees.{PlainTree, leaf, node}
use Rattle.conditional.specs.Judgements.{Checked, Shows}
use Rattle.conditional.specs.declared.outcomes.Outcomes.{Outcomes}
use Rattle.core_meaning.specs.Checking as judging
use Rattle.core_meaning.specs.Entities.{Scope}
use Rattle.core_meaning.specs.Declarations.{Based, based, object_type}
use Rattle.operand_types.specs.OperandTypes.{renumbered}
use Rattle.operand_rules.specs.declared.operands.Refused.{Refused}
use Rattle.operand_rules.specs.PlainOperandTypes.{reason}
use Rattle.type_tables.specs.Forms.{declared_type_form}
use Rattle.type_tables.specs.declared.entries.DeclaredType.{DeclaredType}

-- This comes of a type where `on` says which features are on.
abbrev pub ShowsType : (ℕ → Bool) → Checked PlainType (Unit {0}) → Outcomes DeclaredType Refused → Type 0
ShowsType on judged all = Shows declared_type_form reason on true judged all

-- the type that a node's words name, and what is visible behind them
abbrev pub based_in : Bool → Scope → PlainTree → judging.Checked Based
based_in declaring scope (node kind words) = based declaring scope words
based_in declaring scope (leaf token) = judging.broken

-- that type where structs have other numbers
abbrev pub base_type : (ℕ → ℕ) → Based → PlainType
base_type by b = renumbered by b.ty

-- the type of an object's declarator
abbrev pub object_type_in : Scope → PlainType → PlainTree → PlainToken → Option PlainTree → judging.Checked PlainType
object_type_in scope ty (node kind parts) name initialiser = object_type scope ty kind parts name initialiser
object_type_in scope ty (leaf token) name initialiser = judging.broken
