-- Parameters of one tree, and where they may stand.
use Rattle.std.specs.Prelude.{◌≡◌, ℕ, Bool, true, false, List, option_map, is_some, if◌then◌else◌}
use Rattle.std.specs.List.{list_any}
use Rattle.cond_formula.specs.Conditions.{condition_of, value}
use Rattle.conditional.specs.Judgements.{Checked, fine, refused}
use Rattle.c_text.specs.Token.{plain_token}
use Rattle.c_types.specs.Types.{PlainType, plain_type}
use Rattle.core_meaning.specs.Checking as judging
use Rattle.core_meaning.specs.Entities.{Scope}
use Rattle.core_meaning.specs.Declarations.{innermost, Parameter, is_name_of}
use Rattle.operand_types.specs.OperandTypes.{renumbered}
use Rattle.cond_parameters.specs.declared.bases.JudgedType.{JudgedType}
use Rattle.cond_parameters.specs.declared.found.FoundParameter.{FoundParameter}

-- what comes of a type: it is refused where it may not stand
abbrev pub judged_type : (ℕ → Bool) → JudgedType → Checked PlainType (Unit {0})
judged_type on j = if value on (condition_of j.fits) then fine (plain_type j.ty) else refused tt

abbrev pub is_fine : {A : Type 0} → judging.Checked A → Bool
is_fine (judging.fine x bindings) = true
is_fine (judging.refused kind token) = false
is_fine judging.broken = false

-- a parameter where structs have other numbers
abbrev pub renumbered_parameter : (ℕ → ℕ) → Parameter → Parameter
renumbered_parameter by p = record { name = p.name; ty = renumbered by p.ty }

-- what comes of a parameter
abbrev pub found_at : (ℕ → Bool) → FoundParameter → Checked Parameter (Unit {0})
found_at on p = if value on (condition_of p.fits) then fine (record { name = option_map (λ t. plain_token t.now) p.name; ty = plain_type p.ty }) else refused tt

-- the innermost block declares the names of these parameters, and no others
pub record HaveNames (scope : Scope) (before : List Parameter) : Type 0 where
  pub names : (name : List ℕ) → is_some (innermost scope.blocks name) ≡ list_any (λ p. is_name_of name p.name) before
