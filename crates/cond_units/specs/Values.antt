-- Where the first value of an object of file scope is refused (ISO/IEC 9899:2011, 6.7.9).
use Rattle.std.specs.Prelude.{ℕ, Bool, false, [], Option, Some, None}
use Rattle.c_text.specs.Token.{PlainToken}
use Rattle.c_types.specs.Types.{PlainType}
use Rattle.c_tree.specs.Trees.{PlainTree}
use Rattle.core_meaning.specs.Entities.{Scope}
use Rattle.core_meaning.specs.Constancy.{initial}
use Rattle.statement_readings.specs.Walks.{is_refused}

abbrev pub is_value_refused : Scope → ℕ → PlainType → PlainToken → Option PlainTree → Bool
is_value_refused scope globals ty name None = false
is_value_refused scope globals ty name (Some initialiser) = is_refused (initial scope (Some globals) ty [] initialiser name)
