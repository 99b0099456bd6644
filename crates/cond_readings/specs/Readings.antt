-- A model of the code, not part of the meaning:
-- what is seen of the reading of a unit where `is_on` says which features are on, and steps of the definitions that are taken there.
use Rattle.std.specs.Prelude.{ℕ, Bool, true, false, List, ◌++◌, Option, Some, None, if◌then◌else◌}
use Rattle.cond_formula.specs.Conditions.{condition_of, value}
use Rattle.c_text.specs.Token.{PlainToken}
use Rattle.c_text.specs.Macros.{Table, feature}
use Rattle.c_text.specs.Preprocessing.{Reading, Flow, on, refused, feature_token}
use Rattle.cond_tokens.specs.Streams.{tokens_at}
use Rattle.macro_table.specs.declared.table.MacroTable.{MacroTable}
use Rattle.macro_table.specs.MacroTables.{table_at}
use Rattle.macro_table.specs.Features.{is_feature_on}
use Rattle.cond_readings.specs.declared.readings.CondReading.{CondReading}

-- what names stand for: the features that are on, and the macros
abbrev pub table_in : (ℕ → Bool) → List (List ℕ) → MacroTable → Table
table_in is_on features table name = if is_feature_on is_on 0 features name then Some (feature feature_token) else table_at is_on table name

-- the reading of a configuration of a project with these features, unless it is refused there
abbrev pub reading_at : (ℕ → Bool) → List (List ℕ) → CondReading → Option Reading
reading_at is_on features r =
    if value is_on (condition_of r.refused) then None
    else Some (record { table = table_in is_on features r.table; tokens = tokens_at is_on r.tokens.items })

abbrev pub unless_refused : Bool → Option Reading → Option Reading
unless_refused true r = None
unless_refused false r = r

abbrev pub with_tokens : List PlainToken → Reading → Reading
with_tokens tokens r = record r { tokens = r.tokens ++ tokens }

-- where a flow comes to, without why it is refused
abbrev pub came_to : Flow → Option Reading
came_to (on r) = Some r
came_to (refused why) = None

-- Where the condition holds, a step of the definitions is taken; elsewhere the reading stays. What is refused stays so.
abbrev pub taken : Bool → (Reading → Flow) → Option Reading → Option Reading
taken when step None = None
taken true step (Some r) = came_to (step r)
taken false step (Some r) = Some r
