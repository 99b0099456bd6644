-- The plain form of each kind of expression, place, statement and item.
use Rattle.std.proofs.Common.{◌≡◌, ℕ, ℤ, Bool, map, sym, ap, ◌∙◌}
use Rattle.std.specs.declared.alloc.Global.{Global}
use Rattle.std.specs.Prelude.{Vec, Box}
use Rattle.c_types.specs.declared.types.CType.{CType}
use Rattle.c_types.specs.Types.{plain_type}
use Rattle.core_meaning.specs.declared.integers.IntegerType.{IntegerType}
use Rattle.core_meaning.specs.declared.expressions.Operation.{Operation}
use Rattle.core_meaning.specs.declared.expressions.Change.{Change}
use Rattle.core_meaning.specs.declared.expressions.Expression.{Expression}
use Rattle.core_meaning.specs.declared.expressions.Expression.TheVariants as expression
use Rattle.core_meaning.specs.declared.expressions.Expression.TheOpen as open_expression
use Rattle.core_meaning.specs.declared.expressions.Expression.TheFolds.{fold-roll-Expression, fold-roll-Place}
use Rattle.core_meaning.specs.declared.expressions.Place.{Place}
use Rattle.core_meaning.specs.declared.expressions.Place.TheVariants as place_kind
use Rattle.core_meaning.specs.declared.statements.Part.{Part}
use Rattle.core_meaning.specs.declared.statements.Item.{Item}
use Rattle.core_meaning.specs.declared.statements.Item.TheVariants as item_kind
use Rattle.core_meaning.specs.declared.statements.Item.TheOpen as open_statement
use Rattle.core_meaning.specs.declared.statements.Item.TheFolds.{fold-roll-Item, fold-roll-Statement}
use Rattle.core_meaning.specs.declared.statements.Statement.{Statement}
use Rattle.core_meaning.specs.declared.statements.Statement.TheVariants as statement
use Rattle.core_meaning.specs.Program.{PlainExpression, constant, null_constant, read, address, first_element, convert, binary, logical_not, logical_and, logical_or, choose, assign, update, update_after, call, discard, PlainPlace, slot, global, literal, target, member, temporary, PlainStatement, block, evaluate, selection, loop, break_loop, continue_loop, return_nothing, return_value, PlainItems, local, statement_item}
use Rattle.core_meaning.specs.Plain.{expression_level, place_level, plain_expression, plain_place, plain_arguments, plain_part, item_level, statement_level, plain_item, plain_statement, plain_items}

-- ---- expressions

pub plain_expression-Number : (z : ℤ) → plain_expression (expression.Number z) ≡ constant z
unfolding plain_expression plain_place
plain_expression-Number z = ap plain_expression (sym (expression.rolls-Number z)) ∙ fold-roll-Expression PlainExpression PlainPlace expression_level place_level (open_expression.Number z)

pub plain_expression-Null : plain_expression expression.Null ≡ null_constant
unfolding plain_expression plain_place
plain_expression-Null = ap plain_expression (sym expression.rolls-Null) ∙ fold-roll-Expression PlainExpression PlainPlace expression_level place_level open_expression.Null

pub plain_expression-Read : (place : Box Place Global) → plain_expression (expression.Read place) ≡ read (plain_place place.value)
unfolding plain_expression plain_place
plain_expression-Read place = ap plain_expression (sym (expression.rolls-Read place)) ∙ fold-roll-Expression PlainExpression PlainPlace expression_level place_level (open_expression.Read place)

pub plain_expression-Address : (place : Box Place Global) → plain_expression (expression.Address place) ≡ address (plain_place place.value)
unfolding plain_expression plain_place
plain_expression-Address place = ap plain_expression (sym (expression.rolls-Address place)) ∙ fold-roll-Expression PlainExpression PlainPlace expression_level place_level (open_expression.Address place)

pub plain_expression-FirstElement : (place : Box Place Global) → plain_expression (expression.FirstElement place) ≡ first_element (plain_place place.value)
unfolding plain_expression plain_place
plain_expression-FirstElement place = ap plain_expression (sym (expression.rolls-FirstElement place)) ∙ fold-roll-Expression PlainExpression PlainPlace expression_level place_level (open_expression.FirstElement place)

pub plain_expression-Convert : (t : IntegerType) (e : Box Expression Global) → plain_expression (expression.Convert t e) ≡ convert t (plain_expression e.value)
unfolding plain_expression plain_place
plain_expression-Convert t e = ap plain_expression (sym (expression.rolls-Convert t e)) ∙ fold-roll-Expression PlainExpression PlainPlace expression_level place_level (open_expression.Convert t e)

pub plain_expression-Binary : (op : Operation) (a : Box Expression Global) (b : Box Expression Global) → plain_expression (expression.Binary op a b) ≡ binary op (plain_expression a.value) (plain_expression b.value)
unfolding plain_expression plain_place
plain_expression-Binary op a b = ap plain_expression (sym (expression.rolls-Binary op a b)) ∙ fold-roll-Expression PlainExpression PlainPlace expression_level place_level (open_expression.Binary op a b)

pub plain_expression-Not : (e : Box Expression Global) → plain_expression (expression.Not e) ≡ logical_not (plain_expression e.value)
unfolding plain_expression plain_place
plain_expression-Not e = ap plain_expression (sym (expression.rolls-Not e)) ∙ fold-roll-Expression PlainExpression PlainPlace expression_level place_level (open_expression.Not e)

pub plain_expression-And : (a : Box Expression Global) (b : Box Expression Global) → plain_expression (expression.And a b) ≡ logical_and (plain_expression a.value) (plain_expression b.value)
unfolding plain_expression plain_place
plain_expression-And a b = ap plain_expression (sym (expression.rolls-And a b)) ∙ fold-roll-Expression PlainExpression PlainPlace expression_level place_level (open_expression.And a b)

pub plain_expression-Or : (a : Box Expression Global) (b : Box Expression Global) → plain_expression (expression.Or a b) ≡ logical_or (plain_expression a.value) (plain_expression b.value)
unfolding plain_expression plain_place
plain_expression-Or a b = ap plain_expression (sym (expression.rolls-Or a b)) ∙ fold-roll-Expression PlainExpression PlainPlace expression_level place_level (open_expression.Or a b)

pub plain_expression-Choose : (c : Box Expression Global) (a : Box Expression Global) (b : Box Expression Global) → plain_expression (expression.Choose c a b) ≡ choose (plain_expression c.value) (plain_expression a.value) (plain_expression b.value)
unfolding plain_expression plain_place
plain_expression-Choose c a b = ap plain_expression (sym (expression.rolls-Choose c a b)) ∙ fold-roll-Expression PlainExpression PlainPlace expression_level place_level (open_expression.Choose c a b)

pub plain_expression-Assign : (place : Box Place Global) (e : Box Expression Global) → plain_expression (expression.Assign place e) ≡ assign (plain_place place.value) (plain_expression e.value)
unfolding plain_expression plain_place
plain_expression-Assign place e = ap plain_expression (sym (expression.rolls-Assign place e)) ∙ fold-roll-Expression PlainExpression PlainPlace expression_level place_level (open_expression.Assign place e)

pub plain_expression-Update : (change : Change) (place : Box Place Global) (e : Box Expression Global) → plain_expression (expression.Update change place e) ≡ update change (plain_place place.value) (plain_expression e.value)
unfolding plain_expression plain_place
plain_expression-Update change place e = ap plain_expression (sym (expression.rolls-Update change place e)) ∙ fold-roll-Expression PlainExpression PlainPlace expression_level place_level (open_expression.Update change place e)

pub plain_expression-UpdateAfter : (change : Change) (place : Box Place Global) (e : Box Expression Global) → plain_expression (expression.UpdateAfter change place e) ≡ update_after change (plain_place place.value) (plain_expression e.value)
unfolding plain_expression plain_place
plain_expression-UpdateAfter change place e = ap plain_expression (sym (expression.rolls-UpdateAfter change place e)) ∙ fold-roll-Expression PlainExpression PlainPlace expression_level place_level (open_expression.UpdateAfter change place e)

pub plain_expression-Call : (f : ℕ) (arguments : Vec Expression Global) → plain_expression (expression.Call f arguments) ≡ call f (plain_arguments arguments.items)
unfolding plain_expression plain_place
plain_expression-Call f arguments = ap plain_expression (sym (expression.rolls-Call f arguments)) ∙ fold-roll-Expression PlainExpression PlainPlace expression_level place_level (open_expression.Call f arguments)

pub plain_expression-Discard : (e : Box Expression Global) → plain_expression (expression.Discard e) ≡ discard (plain_expression e.value)
unfolding plain_expression plain_place
plain_expression-Discard e = ap plain_expression (sym (expression.rolls-Discard e)) ∙ fold-roll-Expression PlainExpression PlainPlace expression_level place_level (open_expression.Discard e)

pub plain_place-Slot : (k : ℕ) → plain_place (place_kind.Slot k) ≡ slot k
unfolding plain_expression plain_place
plain_place-Slot k = ap plain_place (sym (place_kind.rolls-Slot k)) ∙ fold-roll-Place PlainExpression PlainPlace expression_level place_level (open_expression.Slot k)

pub plain_place-Global : (k : ℕ) → plain_place (place_kind.Global k) ≡ global k
unfolding plain_expression plain_place
plain_place-Global k = ap plain_place (sym (place_kind.rolls-Global k)) ∙ fold-roll-Place PlainExpression PlainPlace expression_level place_level (open_expression.Global k)

pub plain_place-Literal : (k : ℕ) → plain_place (place_kind.Literal k) ≡ literal k
unfolding plain_expression plain_place
plain_place-Literal k = ap plain_place (sym (place_kind.rolls-Literal k)) ∙ fold-roll-Place PlainExpression PlainPlace expression_level place_level (open_expression.Literal k)

pub plain_place-Target : (e : Box Expression Global) → plain_place (place_kind.Target e) ≡ target (plain_expression e.value)
unfolding plain_expression plain_place
plain_place-Target e = ap plain_place (sym (place_kind.rolls-Target e)) ∙ fold-roll-Place PlainExpression PlainPlace expression_level place_level (open_expression.Target e)

pub plain_place-Member : (place : Box Place Global) (k : ℕ) → plain_place (place_kind.Member place k) ≡ member (plain_place place.value) k
unfolding plain_expression plain_place
plain_place-Member place k = ap plain_place (sym (place_kind.rolls-Member place k)) ∙ fold-roll-Place PlainExpression PlainPlace expression_level place_level (open_expression.Member place k)

pub plain_place-Temporary : (t : CType) (e : Box Expression Global) → plain_place (place_kind.Temporary t e) ≡ temporary (plain_type t) (plain_expression e.value)
unfolding plain_expression plain_place
plain_place-Temporary t e = ap plain_place (sym (place_kind.rolls-Temporary t e)) ∙ fold-roll-Place PlainExpression PlainPlace expression_level place_level (open_expression.Temporary t e)

-- what each kind of expression and place is in plain form
pub ruleset expression_kinds = (plain_expression-Number, plain_expression-Null, plain_expression-Read, plain_expression-Address, plain_expression-FirstElement, plain_expression-Convert, plain_expression-Binary, plain_expression-Not, plain_expression-And, plain_expression-Or, plain_expression-Choose, plain_expression-Assign, plain_expression-Update, plain_expression-UpdateAfter, plain_expression-Call, plain_expression-Discard, plain_place-Slot, plain_place-Global, plain_place-Literal, plain_place-Target, plain_place-Member, plain_place-Temporary)

-- ---- statements

pub plain_item-Local : (k : ℕ) (parts : Vec Part Global) → plain_item (item_kind.Local k parts) ≡ local k (map plain_part parts.items)
unfolding plain_item plain_statement
plain_item-Local k parts = ap plain_item (sym (item_kind.rolls-Local k parts)) ∙ fold-roll-Item (PlainItems → PlainItems) PlainStatement item_level statement_level (open_statement.Local k parts)

pub plain_item-Statement : (s : Statement) → plain_item (item_kind.Statement s) ≡ statement_item (plain_statement s)
unfolding plain_item plain_statement
plain_item-Statement s = ap plain_item (sym (item_kind.rolls-Statement s)) ∙ fold-roll-Item (PlainItems → PlainItems) PlainStatement item_level statement_level (open_statement.Statement s)

pub plain_statement-Block : (items : Vec Item Global) → plain_statement (statement.Block items) ≡ block (plain_items items.items)
unfolding plain_item plain_statement
plain_statement-Block items = ap plain_statement (sym (statement.rolls-Block items)) ∙ fold-roll-Statement (PlainItems → PlainItems) PlainStatement item_level statement_level (open_statement.Block items)

pub plain_statement-Expression : (e : Expression) → plain_statement (statement.Expression e) ≡ evaluate (plain_expression e)
unfolding plain_item plain_statement
plain_statement-Expression e = ap plain_statement (sym (statement.rolls-Expression e)) ∙ fold-roll-Statement (PlainItems → PlainItems) PlainStatement item_level statement_level (open_statement.Expression e)

pub plain_statement-If : (c : Expression) (a : Box Statement Global) (b : Box Statement Global) → plain_statement (statement.If c a b) ≡ selection (plain_expression c) (plain_statement a.value) (plain_statement b.value)
unfolding plain_item plain_statement
plain_statement-If c a b = ap plain_statement (sym (statement.rolls-If c a b)) ∙ fold-roll-Statement (PlainItems → PlainItems) PlainStatement item_level statement_level (open_statement.If c a b)

pub plain_statement-Loop : (asks_first : Bool) (c : Expression) (step : Expression) (body : Box Statement Global) → plain_statement (statement.Loop asks_first c step body) ≡ loop asks_first (plain_expression c) (plain_expression step) (plain_statement body.value)
unfolding plain_item plain_statement
plain_statement-Loop asks_first c step body = ap plain_statement (sym (statement.rolls-Loop asks_first c step body)) ∙ fold-roll-Statement (PlainItems → PlainItems) PlainStatement item_level statement_level (open_statement.Loop asks_first c step body)

pub plain_statement-Break : plain_statement statement.Break ≡ break_loop
unfolding plain_item plain_statement
plain_statement-Break = ap plain_statement (sym statement.rolls-Break) ∙ fold-roll-Statement (PlainItems → PlainItems) PlainStatement item_level statement_level open_statement.Break

pub plain_statement-Continue : plain_statement statement.Continue ≡ continue_loop
unfolding plain_item plain_statement
plain_statement-Continue = ap plain_statement (sym statement.rolls-Continue) ∙ fold-roll-Statement (PlainItems → PlainItems) PlainStatement item_level statement_level open_statement.Continue

pub plain_statement-Return : plain_statement statement.Return ≡ return_nothing
unfolding plain_item plain_statement
plain_statement-Return = ap plain_statement (sym statement.rolls-Return) ∙ fold-roll-Statement (PlainItems → PlainItems) PlainStatement item_level statement_level open_statement.Return

pub plain_statement-ReturnValue : (e : Expression) → plain_statement (statement.ReturnValue e) ≡ return_value (plain_expression e)
unfolding plain_item plain_statement
plain_statement-ReturnValue e = ap plain_statement (sym (statement.rolls-ReturnValue e)) ∙ fold-roll-Statement (PlainItems → PlainItems) PlainStatement item_level statement_level (open_statement.ReturnValue e)

-- what each kind of statement and item is in plain form
pub ruleset statement_kinds = (plain_item-Local, plain_item-Statement, plain_statement-Block, plain_statement-Expression, plain_statement-If, plain_statement-Loop, plain_statement-Break, plain_statement-Continue, plain_statement-Return, plain_statement-ReturnValue)
