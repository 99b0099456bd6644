-- What parts that may be left out, and a `return`, are judged as.
use Rattle.std.proofs.Common.{◌≡◌, true, false, refl, sym, ◌∙◌}
use Rattle.std.specs.Prelude.{Box, Result, pos, not}
use Rattle.std.specs.declared.alloc.Global.{Global}
use Rattle.c_text.specs.Token.{PlainToken}
use Rattle.c_types.specs.Types.{PlainType}
use Rattle.c_tree.specs.declared.kinds.Kind.TheVariants as k
use Rattle.c_tree.specs.Trees.{PlainTree, leaf, node}
use Rattle.core_meaning.specs.declared.refusals.TypeKind.TheVariants.{Misplaced}
use Rattle.core_meaning.specs.declared.expressions.Expression.{Expression}
use Rattle.core_meaning.specs.declared.statements.Statement.{Statement}
use Rattle.core_meaning.specs.Program.{PlainExpression, constant, PlainStatement, no_item, block}
use Rattle.core_meaning.specs.Checking.{Checked, refused, ◌>>=◌, give, unless_so}
use Rattle.core_meaning.specs.Entities.{Scope}
use Rattle.core_meaning.specs.Expressions.{judged_condition, is_void}
use Rattle.core_meaning.specs.Statements.{Around, discarded, condition_or_true, expression_statement, returned}
use Rattle.plain_scope.specs.declared.errors.ElabError.{ElabError}
use Rattle.plain_scope.specs.declared.entities.Used.{Used}
use Rattle.plain_scope.specs.Judgements.{Refuses, RefusedAs, Answers, Judges}
use Rattle.plain_scope.specs.JudgementLaws.{refuses_is}
use Rattle.plain_declarators.specs.Words.{is_gone}
use Rattle.plain_declarators.specs.Sequences.{bind_nothing}
use Rattle.plain_operands.specs.PlainOperands.{boxed_expression}
use Rattle.plain_expressions.proofs.Answering.{judges_as, answers_alone}
use Rattle.plain_simple_statements.specs.PlainStatements.{boxed_statement}
use Rattle.plain_simple_statements.specs.Simple.{nothing_returned, returned_as, unused_value, evaluated, returned_value}

-- a test doesn't fail and hold
none_such : {A : Type 0} → false ≡ true → A
none_such h = cc

-- ---- parts that may be left out

pub discarded_gone : (scope : Scope) (tree : PlainTree) (otherwise : PlainExpression) → is_gone tree ≡ true → discarded scope tree otherwise ≡ give otherwise
discarded_gone scope (leaf token) otherwise is = none_such is
discarded_gone scope (node k.Absent parts) otherwise is = refl
discarded_gone scope (node other parts) otherwise is = none_such is

pub discarded_there : (scope : Scope) (tree : PlainTree) (otherwise : PlainExpression) → is_gone tree ≡ false → discarded scope tree otherwise ≡ unused_value scope tree
discarded_there scope (leaf token) otherwise is = refl
discarded_there scope (node k.Absent parts) otherwise is = none_such (sym is)
discarded_there scope (node other parts) otherwise is = refl

pub condition_gone : (scope : Scope) (tree : PlainTree) (behind : PlainToken) → is_gone tree ≡ true → condition_or_true scope tree behind ≡ give (constant (pos 1))
condition_gone scope (leaf token) behind is = none_such is
condition_gone scope (node k.Absent parts) behind is = refl
condition_gone scope (node other parts) behind is = none_such is

pub condition_there : (scope : Scope) (tree : PlainTree) (behind : PlainToken) → is_gone tree ≡ false → condition_or_true scope tree behind ≡ judged_condition scope tree behind
condition_there scope (leaf token) behind is = refl
condition_there scope (node k.Absent parts) behind is = none_such (sym is)
condition_there scope (node other parts) behind is = refl

pub statement_gone : (scope : Scope) (tree : PlainTree) → is_gone tree ≡ true → expression_statement scope tree ≡ give (block no_item)
statement_gone scope (leaf token) is = none_such is
statement_gone scope (node k.Absent parts) is = refl
statement_gone scope (node other parts) is = none_such is

pub statement_there : (scope : Scope) (tree : PlainTree) → is_gone tree ≡ false → expression_statement scope tree ≡ evaluated scope tree
statement_there scope (leaf token) is = refl
statement_there scope (node k.Absent parts) is = none_such (sym is)
statement_there scope (node other parts) is = refl

-- ---- `return`

pub returned_gone : (scope : Scope) (returns : PlainType) (word : PlainToken) (tree : PlainTree) → is_gone tree ≡ true → returned_as scope returns word tree ≡ nothing_returned returns word
returned_gone scope returns word (leaf token) is = none_such is
returned_gone scope returns word (node k.Absent parts) is = refl
returned_gone scope returns word (node other parts) is = none_such is

abbrev returned_there : Scope → PlainType → PlainToken → PlainTree → Checked PlainStatement
returned_there scope returns word tree = do
  placed ← unless_so (not (is_void returns)) Misplaced word
  returned_value scope returns word tree

there : (scope : Scope) (returns : PlainType) (word : PlainToken) (tree : PlainTree) → is_gone tree ≡ false → returned_as scope returns word tree ≡ returned_there scope returns word tree
there scope returns word (leaf token) is = refl
there scope returns word (node k.Absent parts) is = none_such (sym is)
there scope returns word (node other parts) is = refl

pub returned_fits : (scope : Scope) (returns : PlainType) (word : PlainToken) (tree : PlainTree) → is_gone tree ≡ false → is_void returns ≡ false → returned_as scope returns word tree ≡ returned_value scope returns word tree
returned_fits scope returns word tree is fits = there scope returns word tree is ∙ rw fits (bind_nothing (returned_value scope returns word tree))

pub returned_void : (scope : Scope) (returns : PlainType) (word : PlainToken) (tree : PlainTree) → is_gone tree ≡ false → is_void returns ≡ true → returned_as scope returns word tree ≡ refused Misplaced word
returned_void scope returns word tree is fits = there scope returns word tree is ∙ rw fits refl

pub returned_law : (around : Around) (word : PlainToken) (tree : PlainTree) → returned around word tree ≡ returned_as around.scope around.result word tree
returned_law around word (leaf token) = refl
returned_law around word (node k.Absent parts) = refl
returned_law around word (node other parts) = refl

-- ---- the same, by what is answered

pub discarded_judges : (scope : Scope) (tree : PlainTree) (otherwise : PlainExpression) (before after : Used) (result : Result (Box Expression Global) ElabError) → is_gone tree ≡ false → Judges (unused_value scope tree) boxed_expression before after result → Judges (discarded scope tree otherwise) boxed_expression before after result
discarded_judges scope tree otherwise before after result is = judges_as (discarded scope tree otherwise) (unused_value scope tree) boxed_expression before after result (discarded_there scope tree otherwise is)

pub discarded_answers : (scope : Scope) (tree : PlainTree) (otherwise : PlainExpression) (used : Used) (result : Result (Box Expression Global) ElabError) → is_gone tree ≡ true → Answers (give otherwise) boxed_expression result → Judges (discarded scope tree otherwise) boxed_expression used used result
discarded_answers scope tree otherwise used result is = answers_alone (discarded scope tree otherwise) (give otherwise) boxed_expression used result (discarded_gone scope tree otherwise is)

pub condition_judges : (scope : Scope) (tree : PlainTree) (behind : PlainToken) (before after : Used) (result : Result (Box Expression Global) ElabError) → is_gone tree ≡ false → Judges (judged_condition scope tree behind) boxed_expression before after result → Judges (condition_or_true scope tree behind) boxed_expression before after result
condition_judges scope tree behind before after result is = judges_as (condition_or_true scope tree behind) (judged_condition scope tree behind) boxed_expression before after result (condition_there scope tree behind is)

pub condition_answers : (scope : Scope) (tree : PlainTree) (behind : PlainToken) (used : Used) (result : Result (Box Expression Global) ElabError) → is_gone tree ≡ true → Answers (give (constant (pos 1))) boxed_expression result → Judges (condition_or_true scope tree behind) boxed_expression used used result
condition_answers scope tree behind used result is = answers_alone (condition_or_true scope tree behind) (give (constant (pos 1))) boxed_expression used result (condition_gone scope tree behind is)

pub statement_judges : (scope : Scope) (tree : PlainTree) (before after : Used) (result : Result (Box Statement Global) ElabError) → is_gone tree ≡ false → Judges (evaluated scope tree) boxed_statement before after result → Judges (expression_statement scope tree) boxed_statement before after result
statement_judges scope tree before after result is = judges_as (expression_statement scope tree) (evaluated scope tree) boxed_statement before after result (statement_there scope tree is)

pub statement_answers : (scope : Scope) (tree : PlainTree) (used : Used) (result : Result (Box Statement Global) ElabError) → is_gone tree ≡ true → Answers (give (block no_item)) boxed_statement result → Judges (expression_statement scope tree) boxed_statement used used result
statement_answers scope tree used result is = answers_alone (expression_statement scope tree) (give (block no_item)) boxed_statement used result (statement_gone scope tree is)

pub nothing_answers : (scope : Scope) (returns : PlainType) (word : PlainToken) (tree : PlainTree) (used : Used) (result : Result (Box Statement Global) ElabError) → is_gone tree ≡ true → Answers (nothing_returned returns word) boxed_statement result → Judges (returned_as scope returns word tree) boxed_statement used used result
nothing_answers scope returns word tree used result is = answers_alone (returned_as scope returns word tree) (nothing_returned returns word) boxed_statement used result (returned_gone scope returns word tree is)

pub void_refused : (scope : Scope) (returns : PlainType) (word : PlainToken) (tree : PlainTree) (error : ElabError) → is_gone tree ≡ false → is_void returns ≡ true → Refuses Misplaced word error → RefusedAs (returned_as scope returns word tree) error
void_refused scope returns word tree error is void r = refuses_is (returned_as scope returns word tree) Misplaced word error (returned_void scope returns word tree is void) r

pub value_judges : (scope : Scope) (returns : PlainType) (word : PlainToken) (tree : PlainTree) (before after : Used) (result : Result (Box Statement Global) ElabError) → is_gone tree ≡ false → is_void returns ≡ false → Judges (returned_value scope returns word tree) boxed_statement before after result → Judges (returned_as scope returns word tree) boxed_statement before after result
value_judges scope returns word tree before after result is void = judges_as (returned_as scope returns word tree) (returned_value scope returns word tree) boxed_statement before after result (returned_fits scope returns word tree is void)
