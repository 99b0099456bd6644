-- Answers of judgements, from those of other ones.
use Rattle.std.proofs.Common.{◌≡◌, ℕ, Bool, List, map, refl, sym, ap}
use Rattle.std.specs.Prelude.{Box, None, Result, Ok, Err, Vec}
use Rattle.std.specs.declared.alloc.Global.{Global}
use Rattle.c_types.specs.Types.{PlainType, plain_type}
use Rattle.c_types.specs.declared.types.CType.{CType}
use Rattle.c_tree.specs.declared.kinds.Kind.{Kind}
use Rattle.c_tree.specs.declared.kinds.Kind.TheVariants as k
use Rattle.c_tree.specs.Trees.{PlainTree, PlainTrees, node}
use Rattle.core_meaning.specs.Program.{PlainStatement, PlainItems, no_item, block}
use Rattle.core_meaning.specs.Checking.{Checked, give}
use Rattle.core_meaning.specs.Entities.{Scope}
use Rattle.core_meaning.specs.Statements.{Around, judged_as, judged_else}
use Rattle.plain_scope.specs.declared.errors.ElabError.{ElabError}
use Rattle.plain_scope.specs.PlainScope.{plain_scope, uses_of}
use Rattle.plain_scope.specs.declared.entities.Used.{Used}
use Rattle.plain_scope.specs.declared.entities.Scope as code
use Rattle.plain_scope.specs.Judgements.{Gives, Judges}
use Rattle.plain_scope.specs.JudgementLaws.{gives_nothing_used, refused_first}
use Rattle.plain_declarators.specs.Sequences.{gives_of, gives_as, refused_of}
use Rattle.core_meaning.specs.declared.statements.Item.{Item}
use Rattle.core_meaning.specs.declared.statements.Statement.{Statement}
use Rattle.core_meaning.specs.Plain.{plain_item}
use Rattle.plain_simple_statements.specs.Blocks.{put}
use Rattle.plain_simple_statements.specs.PlainStatements.{boxed_statement}
use Rattle.plain_statements.specs.PlainJudged.{plain_item_of, plain_judged}
use Rattle.plain_statements.specs.Steps.{block_of, keeping, JudgedItem, declaration_in, started_item, begun_by, begun_for}

-- ---- answers

-- a statement that takes no slots
pub keeping_judges : (c : Checked PlainStatement) (slots : List CType) (before after : Used) (result : Result (Box Statement Global) ElabError) → Judges c boxed_statement before after result → Judges (keeping (map plain_type slots) c) (plain_judged slots) before after result
keeping_judges c slots before after (Ok x) g = gives_as c (λ core. give (judged_as (map plain_type slots) core)) (boxed_statement x) (plain_judged slots x) (uses_of before) (uses_of after) g refl
keeping_judges c slots before after (Err error) r = refused_first c (λ core. give (judged_as (map plain_type slots) core)) error r

-- what a `for` begins with where that is an expression
pub started_judges : (scope : Scope) (start : PlainTree) (code_scope : code.Scope) (slots : List CType) (before after : Used) (result : Result (Vec Item Global) ElabError) → declaration_in start ≡ None → plain_scope code_scope ≡ scope → Judges (started_item scope start) (λ items. put (map plain_item items.items)) before after result → Judges (begun_for scope (map plain_type slots) start) (λ items. plain_item_of code_scope slots items.items) before after result
started_judges scope start code_scope slots before after (Ok x) is same g =
    let item : (PlainItems → PlainItems) → JudgedItem = λ puts. record { scope = scope; slots = map plain_type slots; puts = puts } in
    gives_of (begun_for scope (map plain_type slots) start) (begun_by scope (map plain_type slots) start None) (plain_item_of code_scope slots x.items) (uses_of before) (uses_of after) (ap (begun_by scope (map plain_type slots) start) is)
    (gives_as (started_item scope start) (λ puts. give (item puts)) (put (map plain_item x.items)) (plain_item_of code_scope slots x.items) (uses_of before) (uses_of after) g (rw same refl))
started_judges scope start code_scope slots before after (Err error) is same r =
    let item : (PlainItems → PlainItems) → JudgedItem = λ puts. record { scope = scope; slots = map plain_type slots; puts = puts } in
    refused_of (begun_for scope (map plain_type slots) start) (begun_by scope (map plain_type slots) start None) error (ap (begun_by scope (map plain_type slots) start) is)
    (refused_first (started_item scope start) (λ puts. give (item puts)) error r)

-- what stands for a part that is left out
pub absent_block : (around : Around) (slots : List PlainType) (tree : PlainTree) (kind : Kind) (parts : PlainTrees) (core : PlainStatement) (before : List ℕ → Bool) → tree ≡ node kind parts → kind ≡ k.Absent → core ≡ block no_item → Gives (block_of around slots tree) (judged_as slots core) before before
absent_block around slots tree kind parts core before is same empty = gives_nothing_used (block_of around slots tree) (judged_as slots core) before (rw is (rw same (ap (λ (s : PlainStatement). give (judged_as slots s)) (sym empty))))

pub absent_else : (around : Around) (slots : List PlainType) (tree : PlainTree) (kind : Kind) (parts : PlainTrees) (core : PlainStatement) (before : List ℕ → Bool) → tree ≡ node kind parts → kind ≡ k.Absent → core ≡ block no_item → Gives (judged_else around slots tree) (judged_as slots core) before before
absent_else around slots tree kind parts core before is same empty = gives_nothing_used (judged_else around slots tree) (judged_as slots core) before (rw is (rw same (ap (λ (s : PlainStatement). give (judged_as slots s)) (sym empty))))
