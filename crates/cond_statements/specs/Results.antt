-- Where an operand is refused that a statement uses (ISO/IEC 9899:2011, 6.8.3 to 6.8.6).
use Rattle.std.specs.Prelude.{ℕ, Bool, false, not, ◌&&◌, ◌||◌, List, [], ◌∷◌}
use Rattle.cond_formula.specs.Conditions.{value}
use Rattle.c_types.specs.Types.{PlainType}
use Rattle.c_tree.specs.declared.kinds.Kind.{Kind}
use Rattle.c_tree.specs.declared.kinds.Kind.TheVariants as k
use Rattle.core_meaning.specs.Expressions.{is_void}
use Rattle.conditional.specs.Entries.{Entry}
use Rattle.conditional.specs.Judgements.{bind}
use Rattle.choice_trees.specs.ChoiceTrees.{semicolon}
use Rattle.conditional_steps.specs.Here.{is_refused}
use Rattle.operand_types.specs.Operators.{loaded_type, tested_type, fitted_type}
use Rattle.expression_types.specs.Reading.{Outcome}
use Rattle.statement_readings.specs.Walks.{Use, condition, discarded, returned}

-- a value that is returned, where the result is of this type
abbrev pub return_refused : Outcome → PlainType → Bool
return_refused x ty = is_void ty || is_refused (bind x (fitted_type semicolon ty))

-- a `return` without a value
abbrev pub bare_return_refused : PlainType → Bool
bare_return_refused ty = not (is_void ty)

-- what is left out among the parts of a node
abbrev pub absence_refused : Kind → PlainType → Bool
absence_refused k.Return ty = not (is_void ty)
absence_refused kind ty = false

-- an operand that is used so
abbrev pub operand_refused : Use → Outcome → PlainType → Bool
operand_refused condition x ty = is_refused (bind x (tested_type semicolon))
operand_refused discarded x ty = is_refused (bind x (loaded_type semicolon))
operand_refused returned x ty = return_refused x ty

-- some alternative that holds is refused
abbrev pub some_refused : (PlainType → Bool) → (ℕ → Bool) → List (Entry PlainType) → Bool
some_refused refuses on [] = false
some_refused refuses on (entry ∷ rest) = (value on entry.when && refuses entry.what) || some_refused refuses on rest
