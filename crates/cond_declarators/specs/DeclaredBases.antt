-- What comes of words that may declare a struct (6.7.2.3).
use Rattle.std.specs.Prelude.{◌≡◌, ℕ, Bool, true, false}
use Rattle.c_types.specs.Types.{PlainType}
use Rattle.c_tree.specs.Trees.{PlainTree}
use Rattle.conditional.specs.Judgements.{Checked, fine, refused, Shows}
use Rattle.conditional.specs.declared.outcomes.Outcomes.{Outcomes}
use Rattle.core_meaning.specs.Checking as judging
use Rattle.core_meaning.specs.Entities.{Scope}
use Rattle.core_meaning.specs.Declarations.{Based}
use Rattle.operand_rules.specs.declared.operands.Refused.{Refused}
use Rattle.operand_rules.specs.PlainOperandTypes.{reason}
use Rattle.type_tables.specs.Forms.{declared_type_form}
use Rattle.type_tables.specs.Tables.{Tables}
use Rattle.type_tables.specs.declared.entries.DeclaredType.{DeclaredType}
use Rattle.type_tables.specs.Follows.{IsThere, Follows}
use Rattle.type_tables.specs.Numbers.{NumbersKept}
use Rattle.cond_declarators.specs.Types.{ShowsType, based_in, base_type}

-- the tables follow what is visible behind the words; this type comes of them, and the struct that it is made of is there
pub record IsBased (comes : Checked PlainType (Unit {0}) → Type 0) (scope : Scope) (by : ℕ → ℕ) (new : Tables) (b : Based) : Type 0 where
  pub follows : Follows new b.scope
  pub kept : NumbersKept scope.structs by follows.by
  pub shows : comes (fine (base_type follows.by b))
  pub there : IsThere b.scope.structs b.ty

-- words are refused, and declare nothing
pub record IsNotBased (comes : Checked PlainType (Unit {0}) → Type 0) (old new : Tables) : Type 0 where
  pub shows : comes (refused tt)
  pub same : new ≡ old

-- what comes of words, and of the tables, which followed the scope with these numbers
abbrev pub DeclaresBase : (Checked PlainType (Unit {0}) → Type 0) → Scope → (ℕ → ℕ) → Tables → Tables → judging.Checked Based → Type 0
DeclaresBase comes scope by old new (judging.fine b bindings) = IsBased comes scope by new b
DeclaresBase comes scope by old new (judging.refused kind token) = IsNotBased comes old new
DeclaresBase comes scope by old new judging.broken = IsNotBased comes old new

-- ---- how the code comes to it

-- what comes of words where a condition is true; elsewhere nothing changes
pub record DeclaresHere (here : Bool) (judged : Scope → judging.Checked Based) (old new : Tables) (outcome : Checked PlainType (Unit {0})) : Type 0 where
  pub elsewhere : here ≡ false → new ≡ old
  pub declares : here ≡ true → (scope : Scope) (f : Follows old scope) → DeclaresBase (λ v. outcome ≡ v) scope f.by old new (judged scope)

-- what comes of words where nothing has come of others before, if these are the words that stand; else nothing changes
pub record DeclaresNext (on : ℕ → Bool) (stands : Bool) (words : PlainTree) (old new : Tables) (before after : Outcomes DeclaredType Refused) : Type 0 where
  pub elsewhere : stands ≡ false → new ≡ old
  pub shown : stands ≡ false → (b : Bool) (v : Checked PlainType (Unit {0})) → Shows declared_type_form reason on b v before → Shows declared_type_form reason on b v after
  pub declares : stands ≡ true → (scope : Scope) (f : Follows old scope) → ((v : Checked PlainType (Unit {0})) → Shows declared_type_form reason on false v before)
      → DeclaresBase (λ v. ShowsType on v after) scope f.by old new (based_in true scope words)
