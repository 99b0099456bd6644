-- Items, one after the other.
use Rattle.std.proofs.Common.{◌≡◌, ℕ, Bool, List, [], ◌∷◌, ◌++◌, length, map, get_or, drop, suc, ◌≤◌, ◌<◌, ◌+◌, refl, sym, ap, subst, ◌∙◌, arith}
use Rattle.c_types.specs.Types.{PlainType}
use Rattle.c_tree.specs.declared.trees.Tree.{Tree}
use Rattle.c_tree.specs.declared.kinds.Kind.TheVariants as k
use Rattle.c_tree.specs.Trees.{PlainTree, PlainTrees, leaf, node, more, plain_tree, plain_trees}
use Rattle.core_meaning.specs.Program.{PlainStatement, PlainItems, no_item, statement_item}
use Rattle.core_meaning.specs.Checking.{Checked, ◌>>=◌, give}
use Rattle.core_meaning.specs.Entities.{Scope}
use Rattle.core_meaning.specs.Declarations.{LocalItem, judged_locals}
use Rattle.core_meaning.specs.Statements.{Around, Judged, JudgedItems, items_as, before_items, expression_statement, judged_statement, judged_items}
use Rattle.plain_scope.specs.declared.errors.ElabError.{ElabError}
use Rattle.plain_scope.specs.Judgements.{Gives, RefusedAs}
use Rattle.plain_scope.specs.JudgementLaws.{gives_nothing_used, refused_first}
use Rattle.plain_declarators.specs.Sequences.{gives_as, refused_of}
use Rattle.plain_declarators.specs.Progress.{Continues, continues_from, continues_with, continues_to, continues_refused}
use Rattle.std.proofs.Math.Seq.{drop-cons}
use Rattle.std.proofs.Math.ListN.{drop_of_length-le}
use Rattle.core_meaning.specs.Plain.{items_from}
use Rattle.plain_simple_statements.specs.Blocks.{put, placed, put_both, put_all, put_locals}
use Rattle.plain_scope.specs.Bindings.{regroup}
use Rattle.plain_simple_statements.specs.Simple.{around_of}
use Rattle.plain_statements.specs.Steps.{JudgedItem, locals_item, single_item, item_of, with_item, evaluated_item}

-- ---- items

-- declared locals, as items
pub locals_given : (scope behind : Scope) (slots more_slots : List PlainType) (parts : PlainTrees) (items : List LocalItem) (puts : List (PlainItems → PlainItems)) (before after : List ℕ → Bool) → Gives (judged_locals scope slots parts) (record { scope = behind; slots = more_slots; items = items }) before after → puts ≡ map placed items → Gives (locals_item scope slots parts) (record { scope = behind; slots = more_slots; puts = put puts }) before after
locals_given scope behind slots more_slots parts items puts before after g is =
    gives_as (judged_locals scope slots parts) (λ locals. give (record { scope = locals.scope; slots = locals.slots; puts = before_items locals.items })) (record { scope = behind; slots = more_slots; items = items }) (record { scope = behind; slots = more_slots; puts = put puts }) before after g
    (ap (λ f. give (record { scope = behind; slots = more_slots; puts = f })) (sym (ap put is ∙ put_locals items)))

pub items_step : (around : Around) (slots : List PlainType) (tree : PlainTree) (rest : PlainTrees) → judged_items around slots (more tree rest) ≡ (item_of around slots tree >>= (λ i. judged_items (record around { scope = i.scope }) i.slots rest >>= (λ others. give (with_item i others))))
items_step around slots (leaf token) rest = refl
items_step around slots (node k.LocalDeclaration parts) rest =
    sym (regroup (judged_locals around.scope slots parts) (λ locals. record { scope = locals.scope; slots = locals.slots; puts = before_items locals.items }) (λ i. judged_items (record around { scope = i.scope }) i.slots rest >>= (λ others. give (with_item i others))))
items_step around slots (node other parts) rest =
    sym (regroup (judged_statement around slots (node other parts)) (λ first. record { scope = around.scope; slots = first.slots; puts = statement_item first.core }) (λ i. judged_items (record around { scope = i.scope }) i.slots rest >>= (λ others. give (with_item i others))))

pub items_continue : (returns : PlainType) (in_loop : Bool) (scope behind : Scope) (slots more_slots : List PlainType) (parts : List Tree) (tree : Tree) (n : ℕ) (whole : Checked JudgedItems) (given puts all : List (PlainItems → PlainItems)) (before between after : List ℕ → Bool) → n < length parts → tree ≡ get_or parts n tree → Continues whole (judged_items (around_of scope returns in_loop) slots (plain_trees (drop n parts))) (λ others. items_as others.slots (put given others.core)) before between → Gives (item_of (around_of scope returns in_loop) slots (plain_tree tree)) (record { scope = behind; slots = more_slots; puts = put puts }) between after → all ≡ given ++ puts → Continues whole (judged_items (around_of behind returns in_loop) more_slots (plain_trees (drop (n + 1) parts))) (λ others. items_as others.slots (put all others.core)) before after
items_continue returns in_loop scope behind slots more_slots parts tree n whole given puts all before between after inside is c g both =
    let around = around_of scope returns in_loop in
    let rest : JudgedItem → Checked JudgedItems = λ i. judged_items (record around { scope = i.scope }) i.slots (plain_trees (drop (n + 1) parts)) in
    let next : suc n ≡ n + 1 = omega arith in
    let front : drop n parts ≡ tree ∷ drop (n + 1) parts = drop-cons parts n tree inside ∙ ap (λ t. t ∷ drop (suc n) parts) (sym is) ∙ ap (λ m. tree ∷ drop m parts) next in
    continues_with whole (judged_items around slots (plain_trees (drop n parts))) (λ others. items_as others.slots (put given others.core)) before between after
    (item_of around slots (plain_tree tree)) rest with_item (record { scope = behind; slots = more_slots; puts = put puts }) (λ others. items_as others.slots (put all others.core)) c
    (ap (λ l. judged_items around slots (plain_trees l)) front ∙ items_step around slots (plain_tree tree) (plain_trees (drop (n + 1) parts)))
    g
    (λ others. ap (items_as others.slots) (sym (put_both given puts others.core) ∙ ap (λ (l : List (PlainItems → PlainItems)). put l others.core) (sym both)))

pub items_refused : (around : Around) (slots : List PlainType) (parts : List Tree) (tree : Tree) (n : ℕ) (whole : Checked JudgedItems) (given : List (PlainItems → PlainItems)) (before between : List ℕ → Bool) (error : ElabError) → n < length parts → tree ≡ get_or parts n tree → Continues whole (judged_items around slots (plain_trees (drop n parts))) (λ others. items_as others.slots (put given others.core)) before between → RefusedAs (item_of around slots (plain_tree tree)) error → RefusedAs whole error
items_refused around slots parts tree n whole given before between error inside is c r =
    let front : drop n parts ≡ tree ∷ drop (suc n) parts = drop-cons parts n tree inside ∙ ap (λ t. t ∷ drop (suc n) parts) (sym is) in
    let rest : JudgedItem → Checked JudgedItems = λ i. judged_items (record around { scope = i.scope }) i.slots (plain_trees (drop (suc n) parts)) >>= (λ others. give (with_item i others)) in
    continues_refused whole (judged_items around slots (plain_trees (drop n parts))) (λ others. items_as others.slots (put given others.core)) before between error c
    (refused_of (judged_items around slots (plain_trees (drop n parts))) (item_of around slots (plain_tree tree) >>= rest) error (ap (λ l. judged_items around slots (plain_trees l)) front ∙ items_step around slots (plain_tree tree) (plain_trees (drop (suc n) parts))) (refused_first (item_of around slots (plain_tree tree)) rest error r))

pub items_done : (around : Around) (slots : List PlainType) (parts : List Tree) (n : ℕ) (whole : Checked JudgedItems) (given : List (PlainItems → PlainItems)) (before between : List ℕ → Bool) → length parts ≤ n → Continues whole (judged_items around slots (plain_trees (drop n parts))) (λ others. items_as others.slots (put given others.core)) before between → Gives whole (items_as slots (items_from given)) before between
items_done around slots parts n whole given before between over c =
    let last : judged_items around slots (plain_trees (drop n parts)) ≡ give (items_as slots no_item) = rw (drop_of_length-le parts {i = n} over) refl in
    let P : PlainItems → Type 0 = λ core. Gives whole (items_as slots core) before between in
    subst P (sym (put_all given))
    (continues_to whole (judged_items around slots (plain_trees (drop n parts))) (λ others. items_as others.slots (put given others.core)) before between between (items_as slots no_item) c
    (gives_nothing_used (judged_items around slots (plain_trees (drop n parts))) (items_as slots no_item) between last))

pub items_begin : (whole : Checked JudgedItems) (given : List (PlainItems → PlainItems)) (before : List ℕ → Bool) → given ≡ [] → Continues whole whole (λ others. items_as others.slots (put given others.core)) before before
items_begin whole given before is =
    let P : List (PlainItems → PlainItems) → Type 0 = λ g. Continues whole whole (λ others. items_as others.slots (put g others.core)) before before in
    subst P (sym is) (continues_from whole before)

-- ---- single statements as items

pub evaluated_given : (scope : Scope) (tree : PlainTree) (core : PlainStatement) (puts : PlainItems → PlainItems) (before after : List ℕ → Bool) → Gives (expression_statement scope tree) core before after → puts ≡ statement_item core → Gives (evaluated_item scope tree) puts before after
evaluated_given scope tree core puts before after g is =
    gives_as (expression_statement scope tree) (λ x. give (statement_item x)) core puts before after g (ap (λ (f : PlainItems → PlainItems). give f) (sym is))

pub single_given : (scope behind : Scope) (returns : PlainType) (in_loop : Bool) (slots : List PlainType) (tree : PlainTree) (s : Judged) (puts : PlainItems → PlainItems) (before after : List ℕ → Bool) → behind ≡ scope → Gives (judged_statement (around_of scope returns in_loop) slots tree) s before after → puts ≡ statement_item s.core → Gives (single_item (around_of scope returns in_loop) slots tree) (record { scope = behind; slots = s.slots; puts = puts }) before after
single_given scope behind returns in_loop slots tree s puts before after same g is =
    let as_item : Scope → (PlainItems → PlainItems) → Checked JudgedItem = λ x f. give (record { scope = x; slots = s.slots; puts = f }) in
    gives_as (judged_statement (around_of scope returns in_loop) slots tree) (λ first. give (record { scope = scope; slots = first.slots; puts = statement_item first.core })) s (record { scope = behind; slots = s.slots; puts = puts }) before after g
    (ap (λ (x : Scope). as_item x (statement_item s.core)) (sym same) ∙ ap (λ (f : PlainItems → PlainItems). as_item behind f) (sym is))
