-- Statements within statements.
use Rattle.std.proofs.Common.{◌≡◌, ℕ, Bool, true, false, List, refl, sym, ap}
use Rattle.c_text.specs.Token.{PlainToken}
use Rattle.c_types.specs.Types.{PlainType}
use Rattle.c_tree.specs.declared.kinds.Kind.TheVariants as k
use Rattle.c_tree.specs.Trees.{PlainTree, PlainTrees, node}
use Rattle.core_meaning.specs.Program.{PlainExpression, PlainStatement, block, selection, loop}
use Rattle.core_meaning.specs.Checking.{Checked, ◌>>=◌, give}
use Rattle.core_meaning.specs.Entities.{Scope}
use Rattle.core_meaning.specs.Expressions.{judged_condition}
use Rattle.core_meaning.specs.Statements.{Judged, JudgedItems, judged_as, in_block, one_item, nothing_to_do, discarded, condition_or_true, loop_of, judged_statement, judged_else, judged_items}
use Rattle.plain_scope.specs.declared.errors.ElabError.{ElabError}
use Rattle.plain_scope.specs.Blocks.{with_block}
use Rattle.plain_scope.specs.Judgements.{Gives, RefusedAs}
use Rattle.plain_scope.specs.JudgementLaws.{gives_then, refused_first}
use Rattle.plain_declarators.specs.Sequences.{gives_of, gives_as, refused_of, refused_behind}
use Rattle.plain_simple_statements.specs.Simple.{around_of}
use Rattle.plain_statements.specs.Steps.{block_of, Begun, begun_if, with_else, branches_of, while_of, do_of, for_of, JudgedItem, begun_for, begun_block, turns_behind, for_by}

-- ---- statements within statements

pub block_refused : (scope inner : Scope) (returns : PlainType) (in_loop : Bool) (slots : List PlainType) (parts : PlainTrees) (error : ElabError) → inner ≡ with_block scope → RefusedAs (judged_items (around_of inner returns in_loop) slots parts) error → RefusedAs (block_of (around_of scope returns in_loop) slots (node k.Items parts)) error
block_refused scope inner returns in_loop slots parts error is r =
    refused_first (judged_items (in_block (around_of scope returns in_loop)) slots parts) (λ inner. give (judged_as inner.slots (block inner.core))) error
    (refused_of (judged_items (around_of (with_block scope) returns in_loop) slots parts) (judged_items (around_of inner returns in_loop) slots parts) error (ap (λ (s : Scope). judged_items (around_of s returns in_loop) slots parts) (sym is)) r)

pub block_given : (scope inner : Scope) (returns : PlainType) (in_loop : Bool) (slots : List PlainType) (parts : PlainTrees) (items : JudgedItems) (core : PlainStatement) (before after : List ℕ → Bool) → inner ≡ with_block scope → Gives (judged_items (around_of inner returns in_loop) slots parts) items before after → core ≡ block items.core → Gives (block_of (around_of scope returns in_loop) slots (node k.Items parts)) (judged_as items.slots core) before after
block_given scope inner returns in_loop slots parts items core before after is g same =
    gives_as (judged_items (in_block (around_of scope returns in_loop)) slots parts) (λ inner. give (judged_as inner.slots (block inner.core))) items (judged_as items.slots core) before after
    (gives_of (judged_items (around_of (with_block scope) returns in_loop) slots parts) (judged_items (around_of inner returns in_loop) slots parts) items before after (ap (λ (s : Scope). judged_items (around_of s returns in_loop) slots parts) (sym is)) g)
    (ap (λ (s : PlainStatement). give (judged_as items.slots s)) (sym same))

pub branches_refused : (scope behind : Scope) (returns : PlainType) (in_loop : Bool) (slots : List PlainType) (condition : PlainTree) (close : PlainToken) (first second : PlainTree) (begun : Begun) (before between : List ℕ → Bool) (error : ElabError) → Gives (begun_if (around_of scope returns in_loop) slots condition close first) begun before between → behind ≡ scope → RefusedAs (judged_else (around_of behind returns in_loop) begun.slots second) error → RefusedAs (branches_of (around_of scope returns in_loop) slots condition close first second) error
branches_refused scope behind returns in_loop slots condition close first second begun before between error g same r =
    let around = around_of scope returns in_loop in
    refused_behind (begun_if around slots condition close first) (with_else around second) begun before between error g
    (refused_first (judged_else around begun.slots second) (λ b. give (judged_as b.slots (selection begun.condition begun.core b.core))) error
    (refused_of (judged_else around begun.slots second) (judged_else (around_of behind returns in_loop) begun.slots second) error (ap (λ (s : Scope). judged_else (around_of s returns in_loop) begun.slots second) (sym same)) r))

pub branches_given : (scope behind : Scope) (returns : PlainType) (in_loop : Bool) (slots : List PlainType) (condition : PlainTree) (close : PlainToken) (first second : PlainTree) (begun : Begun) (other : Judged) (core : PlainStatement) (before between after : List ℕ → Bool) → Gives (begun_if (around_of scope returns in_loop) slots condition close first) begun before between → behind ≡ scope → Gives (judged_else (around_of behind returns in_loop) begun.slots second) other between after → core ≡ selection begun.condition begun.core other.core → Gives (branches_of (around_of scope returns in_loop) slots condition close first second) (judged_as other.slots core) before after
branches_given scope behind returns in_loop slots condition close first second begun other core before between after g same h is =
    let around = around_of scope returns in_loop in
    gives_then (begun_if around slots condition close first) (with_else around second) begun (judged_as other.slots core) before between after g
    (gives_as (judged_else around begun.slots second) (λ b. give (judged_as b.slots (selection begun.condition begun.core b.core))) other (judged_as other.slots core) between after
    (gives_of (judged_else around begun.slots second) (judged_else (around_of behind returns in_loop) begun.slots second) other between after (ap (λ (s : Scope). judged_else (around_of s returns in_loop) begun.slots second) (sym same)) h)
    (ap (λ (s : PlainStatement). give (judged_as other.slots s)) (sym is)))

pub do_refused : (scope behind : Scope) (returns : PlainType) (in_loop : Bool) (slots : List PlainType) (condition : PlainTree) (close : PlainToken) (body : PlainTree) (s : Judged) (before between : List ℕ → Bool) (error : ElabError) → Gives (judged_statement (around_of scope returns true) slots body) s before between → behind ≡ scope → RefusedAs (judged_condition behind condition close) error → RefusedAs (do_of (around_of scope returns in_loop) slots condition close body) error
do_refused scope behind returns in_loop slots condition close body s before between error g same r =
    refused_behind (judged_statement (around_of scope returns true) slots body) (λ b. judged_condition scope condition close >>= (λ c. give (loop_of false c nothing_to_do b))) s before between error g
    (refused_first (judged_condition scope condition close) (λ c. give (loop_of false c nothing_to_do s)) error
    (refused_of (judged_condition scope condition close) (judged_condition behind condition close) error (ap (λ (x : Scope). judged_condition x condition close) (sym same)) r))

pub do_given : (scope behind : Scope) (returns : PlainType) (in_loop : Bool) (slots : List PlainType) (condition : PlainTree) (close : PlainToken) (body : PlainTree) (s : Judged) (c : PlainExpression) (core : PlainStatement) (before between after : List ℕ → Bool) → Gives (judged_statement (around_of scope returns true) slots body) s before between → behind ≡ scope → Gives (judged_condition behind condition close) c between after → core ≡ loop false c nothing_to_do s.core → Gives (do_of (around_of scope returns in_loop) slots condition close body) (judged_as s.slots core) before after
do_given scope behind returns in_loop slots condition close body s c core before between after g same h is =
    gives_then (judged_statement (around_of scope returns true) slots body) (λ b. judged_condition scope condition close >>= (λ x. give (loop_of false x nothing_to_do b))) s (judged_as s.slots core) before between after g
    (gives_as (judged_condition scope condition close) (λ x. give (loop_of false x nothing_to_do s)) c (judged_as s.slots core) between after
    (gives_of (judged_condition scope condition close) (judged_condition behind condition close) c between after (ap (λ (x : Scope). judged_condition x condition close) (sym same)) h)
    (ap (λ (x : PlainStatement). give (judged_as s.slots x)) (sym is)))

pub while_refused : (scope : Scope) (returns : PlainType) (in_loop : Bool) (slots : List PlainType) (condition : PlainTree) (close : PlainToken) (body : PlainTree) (c : PlainExpression) (before between : List ℕ → Bool) (error : ElabError) → Gives (judged_condition scope condition close) c before between → RefusedAs (judged_statement (around_of scope returns true) slots body) error → RefusedAs (while_of (around_of scope returns in_loop) slots condition close body) error
while_refused scope returns in_loop slots condition close body c before between error g r =
    refused_behind (judged_condition scope condition close) (λ x. judged_statement (around_of scope returns true) slots body >>= (λ b. give (loop_of true x nothing_to_do b))) c before between error g
    (refused_first (judged_statement (around_of scope returns true) slots body) (λ b. give (loop_of true c nothing_to_do b)) error r)

pub while_given : (scope : Scope) (returns : PlainType) (in_loop : Bool) (slots : List PlainType) (condition : PlainTree) (close : PlainToken) (body : PlainTree) (c : PlainExpression) (s : Judged) (core : PlainStatement) (before between after : List ℕ → Bool) → Gives (judged_condition scope condition close) c before between → Gives (judged_statement (around_of scope returns true) slots body) s between after → core ≡ loop true c nothing_to_do s.core → Gives (while_of (around_of scope returns in_loop) slots condition close body) (judged_as s.slots core) before after
while_given scope returns in_loop slots condition close body c s core before between after g h is =
    gives_then (judged_condition scope condition close) (λ x. judged_statement (around_of scope returns true) slots body >>= (λ b. give (loop_of true x nothing_to_do b))) c (judged_as s.slots core) before between after g
    (gives_as (judged_statement (around_of scope returns true) slots body) (λ b. give (loop_of true c nothing_to_do b)) s (judged_as s.slots core) between after h
    (ap (λ (x : PlainStatement). give (judged_as s.slots x)) (sym is)))

-- the turns of a `for` behind its condition
abbrev behind_condition : Scope → PlainType → List PlainType → PlainTree → PlainTree → PlainExpression → Checked Judged
behind_condition scope returns slots step body c = do
  s ← discarded scope step nothing_to_do
  b ← judged_statement (around_of scope returns true) slots body
  give (loop_of true c s b)

pub step_refused : (scope : Scope) (returns : PlainType) (in_loop : Bool) (slots : List PlainType) (condition : PlainTree) (end : PlainToken) (step body : PlainTree) (c : PlainExpression) (before between : List ℕ → Bool) (error : ElabError) → Gives (condition_or_true scope condition end) c before between → RefusedAs (discarded scope step nothing_to_do) error → RefusedAs (for_of (around_of scope returns in_loop) slots condition end step body) error
step_refused scope returns in_loop slots condition end step body c before between error g r =
    refused_behind (condition_or_true scope condition end) (behind_condition scope returns slots step body) c before between error g
    (refused_first (discarded scope step nothing_to_do) (λ s. judged_statement (around_of scope returns true) slots body >>= (λ b. give (loop_of true c s b))) error r)

pub turns_refused : (scope : Scope) (returns : PlainType) (in_loop : Bool) (slots : List PlainType) (condition : PlainTree) (end : PlainToken) (step body : PlainTree) (c s : PlainExpression) (before between behind : List ℕ → Bool) (error : ElabError) → Gives (condition_or_true scope condition end) c before between → Gives (discarded scope step nothing_to_do) s between behind → RefusedAs (judged_statement (around_of scope returns true) slots body) error → RefusedAs (for_of (around_of scope returns in_loop) slots condition end step body) error
turns_refused scope returns in_loop slots condition end step body c s before between behind error g h r =
    refused_behind (condition_or_true scope condition end) (behind_condition scope returns slots step body) c before between error g
    (refused_behind (discarded scope step nothing_to_do) (λ x. judged_statement (around_of scope returns true) slots body >>= (λ b. give (loop_of true c x b))) s between behind error h
    (refused_first (judged_statement (around_of scope returns true) slots body) (λ b. give (loop_of true c s b)) error r))

pub turns_given : (scope : Scope) (returns : PlainType) (in_loop : Bool) (slots : List PlainType) (condition : PlainTree) (end : PlainToken) (step body : PlainTree) (c s : PlainExpression) (b : Judged) (core : PlainStatement) (before between behind after : List ℕ → Bool) → Gives (condition_or_true scope condition end) c before between → Gives (discarded scope step nothing_to_do) s between behind → Gives (judged_statement (around_of scope returns true) slots body) b behind after → core ≡ loop true c s b.core → Gives (for_of (around_of scope returns in_loop) slots condition end step body) (judged_as b.slots core) before after
turns_given scope returns in_loop slots condition end step body c s b core before between behind after g h i is =
    gives_then (condition_or_true scope condition end) (behind_condition scope returns slots step body) c (judged_as b.slots core) before between after g
    (gives_then (discarded scope step nothing_to_do) (λ x. judged_statement (around_of scope returns true) slots body >>= (λ y. give (loop_of true c x y))) s (judged_as b.slots core) between behind after h
    (gives_as (judged_statement (around_of scope returns true) slots body) (λ y. give (loop_of true c s y)) b (judged_as b.slots core) behind after i
    (ap (λ (x : PlainStatement). give (judged_as b.slots x)) (sym is))))

pub for_refused : (scope : Scope) (returns : PlainType) (in_loop : Bool) (slots : List PlainType) (start condition : PlainTree) (end : PlainToken) (step body : PlainTree) (begun : JudgedItem) (before between : List ℕ → Bool) (error : ElabError) → Gives (begun_for scope slots start) begun before between → RefusedAs (for_of (around_of begun.scope returns in_loop) begun.slots condition end step body) error → RefusedAs (for_by (around_of scope returns in_loop) slots start condition end step body) error
for_refused scope returns in_loop slots start condition end step body begun before between error g r =
    refused_behind (begun_for scope slots start) (turns_behind (around_of scope returns in_loop) condition end step body) begun before between error g
    (refused_first (for_of (around_of begun.scope returns in_loop) begun.slots condition end step body) (λ turns. give (begun_block begun.puts turns)) error r)

pub for_given : (scope : Scope) (returns : PlainType) (in_loop : Bool) (slots : List PlainType) (start condition : PlainTree) (end : PlainToken) (step body : PlainTree) (begun : JudgedItem) (turns : Judged) (core : PlainStatement) (before between after : List ℕ → Bool) → Gives (begun_for scope slots start) begun before between → Gives (for_of (around_of begun.scope returns in_loop) begun.slots condition end step body) turns between after → core ≡ block (begun.puts (one_item turns.core)) → Gives (for_by (around_of scope returns in_loop) slots start condition end step body) (judged_as turns.slots core) before after
for_given scope returns in_loop slots start condition end step body begun turns core before between after g h is =
    gives_then (begun_for scope slots start) (turns_behind (around_of scope returns in_loop) condition end step body) begun (judged_as turns.slots core) before between after g
    (gives_as (for_of (around_of begun.scope returns in_loop) begun.slots condition end step body) (λ t. give (begun_block begun.puts t)) turns (judged_as turns.slots core) between after h
    (ap (λ (x : PlainStatement). give (judged_as turns.slots x)) (sym is)))

pub begun_refused : (scope : Scope) (returns : PlainType) (in_loop : Bool) (slots : List PlainType) (condition : PlainTree) (close : PlainToken) (first : PlainTree) (c : PlainExpression) (before between : List ℕ → Bool) (error : ElabError) → Gives (judged_condition scope condition close) c before between → RefusedAs (judged_statement (around_of scope returns in_loop) slots first) error → RefusedAs (begun_if (around_of scope returns in_loop) slots condition close first) error
begun_refused scope returns in_loop slots condition close first c before between error g r =
    let begun : PlainExpression → Judged → Begun = λ x y. record { condition = x; core = y.core; slots = y.slots } in
    refused_behind (judged_condition scope condition close) (λ x. judged_statement (around_of scope returns in_loop) slots first >>= (λ a. give (begun x a))) c before between error g
    (refused_first (judged_statement (around_of scope returns in_loop) slots first) (λ a. give (begun c a)) error r)

pub begun_given : (scope : Scope) (returns : PlainType) (in_loop : Bool) (slots : List PlainType) (condition : PlainTree) (close : PlainToken) (first : PlainTree) (c : PlainExpression) (a : Judged) (before between after : List ℕ → Bool) → Gives (judged_condition scope condition close) c before between → Gives (judged_statement (around_of scope returns in_loop) slots first) a between after → Gives (begun_if (around_of scope returns in_loop) slots condition close first) (record { condition = c; core = a.core; slots = a.slots }) before after
begun_given scope returns in_loop slots condition close first c a before between after g h =
    let begun : PlainExpression → Judged → Begun = λ x y. record { condition = x; core = y.core; slots = y.slots } in
    gives_then (judged_condition scope condition close) (λ x. judged_statement (around_of scope returns in_loop) slots first >>= (λ y. give (begun x y))) c (begun c a) before between after g
    (gives_as (judged_statement (around_of scope returns in_loop) slots first) (λ y. give (begun c y)) a (begun c a) between after h refl)
