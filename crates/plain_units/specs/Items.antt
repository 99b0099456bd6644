-- Steps in judging the items of a unit.
use Rattle.std.proofs.Common.{◌≡◌, ℕ, Bool, true, false, ◌||◌, ◌+◌, ◌<◌, ◌≤◌, List, length, get_or, drop, refl, sym, ap, ◌∙◌}
use Rattle.std.proofs.Math.ListN.{drop_of_length-le}
use Rattle.std.specs.Prelude.{Option, Some, None}
use Rattle.c_text.specs.Token.{PlainToken}
use Rattle.c_types.specs.Types.{PlainType}
use Rattle.c_tree.specs.declared.kinds.Kind.{Kind}
use Rattle.c_tree.specs.declared.kinds.Kind.TheVariants as k
use Rattle.c_tree.specs.declared.trees.Tree.{Tree}
use Rattle.c_tree.specs.Trees.{PlainTree, PlainTrees, leaf, node, none, more, plain_tree, plain_trees}
use Rattle.core_meaning.specs.Checking.{Checked, ◌>>=◌, give, in_function, or_broken}
use Rattle.core_meaning.specs.Linking.{uses_in}
use Rattle.core_meaning.specs.Declarations.{Based, based, name_in}
use Rattle.core_meaning.specs.UnitNames.{UnitState, Storage, storage_of, with_scope, declared_from, count_functions, defined_function, defined_struct, judged_item, judged_file_items}
use Rattle.plain_scope.specs.Parts.{parts_in}
use Rattle.plain_scope.specs.Judgements.{Gives, Binds, RefusedAs}
use Rattle.plain_scope.specs.JudgementLaws.{gives_nothing_used, refused_first}
use Rattle.plain_scope.specs.declared.errors.ElabError.{ElabError}
use Rattle.plain_declarators.specs.Sequences.{bind_nothing, gives_as, gives_of, refused_of}
use Rattle.plain_declarators.specs.Bound.{base_gives, base_refused}
use Rattle.plain_structs.specs.PartLists.{no_parts, same_parts}
use Rattle.plain_structs.specs.Leading.{front, Leads, leads_with, leads_to, leads_refused}
use Rattle.plain_units.specs.Functions.{in_function_gives, in_function_refused}

-- `struct NAME ;`
abbrev pub tag_item : UnitState → PlainTrees → Checked UnitState
tag_item unit words = do
  base ← based true unit.scope words
  give (with_scope unit base.scope)

or_false : (a b : Bool) → b ≡ false → a ≡ (a || b)
or_false true b e = refl
or_false false b e = sym e

-- what is bound uses no name of file scope
pub bound_gives : {A : Type 0} (c : Checked A) (x : A) (before : List ℕ → Bool) → Binds c x → Gives c x before before
bound_gives c x before b = record { bindings = b.bindings; judged = b.judged; used = λ name. or_false (before name) (uses_in b.bindings name) (b.unused name) }

pub tag_gives : (unit : UnitState) (words : PlainTrees) (base : Based) (x : UnitState) (before : List ℕ → Bool) → Binds (based true unit.scope words) base → x ≡ with_scope unit base.scope → Gives (tag_item unit words) x before before
tag_gives unit words base x before b is = gives_as (based true unit.scope words) (λ base. give (with_scope unit base.scope)) base x before before (bound_gives (based true unit.scope words) base before b) (ap (λ u. give u) (sym is))

pub tag_refused : (unit : UnitState) (words : PlainTrees) (error : ElabError) → RefusedAs (based true unit.scope words) error → RefusedAs (tag_item unit words) error
tag_refused unit words error r = refused_first (based true unit.scope words) (λ base. give (with_scope unit base.scope)) error r

abbrev pub declaration_item : ℕ → UnitState → PlainTrees → PlainTrees → PlainTrees → Checked UnitState
declaration_item globals unit words declarators behind = do
  base ← based true unit.scope words
  declared_from globals (with_scope unit base.scope) (storage_of words) base.ty declarators behind

abbrev pub function_named : UnitState → PlainTrees → PlainType → PlainTrees → PlainTree → Checked UnitState
function_named unit words ty parts body =
    or_broken (name_in parts) >>= (λ name. in_function (count_functions unit.defined) (defined_function unit (storage_of words) ty parts name body))

abbrev pub function_item : UnitState → PlainTrees → PlainTrees → PlainTree → Checked UnitState
function_item unit words parts body = do
  base ← based false unit.scope words
  function_named unit words base.ty parts body

pub named_definition : (unit : UnitState) (words : PlainTrees) (ty : PlainType) (parts : PlainTrees) (body : PlainTree) (name : PlainToken) → name_in parts ≡ Some name → function_named unit words ty parts body ≡ in_function (count_functions unit.defined) (defined_function unit (storage_of words) ty parts name body)
named_definition unit words ty parts body name is =
    ap (λ found. or_broken found >>= (λ n. in_function (count_functions unit.defined) (defined_function unit (storage_of words) ty parts n body))) is
    ∙ bind_nothing (in_function (count_functions unit.defined) (defined_function unit (storage_of words) ty parts name body))

-- ---- items by their parts

pub struct_item_is : (globals : ℕ) (unit : UnitState) (parts : PlainTrees) (tag brace list : PlainTree) (others words members behind : PlainTrees) → parts ≡ more tag (more brace (more list others)) → parts_in tag ≡ Some words → parts_in list ≡ Some members → judged_item globals unit (node k.StructDefinition parts) behind ≡ defined_struct unit words members
struct_item_is globals unit parts (leaf token) brace list others words members behind is a b = no_parts words a
struct_item_is globals unit parts (node tag_kind tag) brace (leaf token) others words members behind is a b = no_parts members b
struct_item_is globals unit parts (node tag_kind tag) brace (node list_kind list) others words members behind is a b =
    let e : tag ≡ words = same_parts tag words a in
    let f : list ≡ members = same_parts list members b in
    ap (λ l. judged_item globals unit (node k.StructDefinition l) behind) is ∙ ap (λ w. defined_struct unit w list) e ∙ ap (λ m. defined_struct unit words m) f

pub tag_item_is : (globals : ℕ) (unit : UnitState) (parts : PlainTrees) (tag end : PlainTree) (words behind : PlainTrees) → parts ≡ more tag (more end none) → parts_in tag ≡ Some words → judged_item globals unit (node k.StructDeclaration parts) behind ≡ tag_item unit words
tag_item_is globals unit parts (leaf token) end words behind is a = no_parts words a
tag_item_is globals unit parts (node tag_kind tag) end words behind is a =
    let e : tag ≡ words = same_parts tag words a in
    ap (λ l. judged_item globals unit (node k.StructDeclaration l) behind) is ∙ ap (tag_item unit) e

pub declaration_item_is : (globals : ℕ) (unit : UnitState) (parts : PlainTrees) (naming list end : PlainTree) (words declarators behind : PlainTrees) → parts ≡ more naming (more list (more end none)) → parts_in naming ≡ Some words → parts_in list ≡ Some declarators → judged_item globals unit (node k.Declaration parts) behind ≡ declaration_item globals unit words declarators behind
declaration_item_is globals unit parts (leaf token) list end words declarators behind is a b = no_parts words a
declaration_item_is globals unit parts (node words_kind naming) (leaf token) end words declarators behind is a b = no_parts declarators b
declaration_item_is globals unit parts (node words_kind naming) (node list_kind list) end words declarators behind is a b =
    let e : naming ≡ words = same_parts naming words a in
    let f : list ≡ declarators = same_parts list declarators b in
    ap (λ l. judged_item globals unit (node k.Declaration l) behind) is ∙ ap (λ w. declaration_item globals unit w list behind) e ∙ ap (λ l. declaration_item globals unit words l behind) f

-- the parts of the only declarator of a function
abbrev pub only_declarator : PlainTrees → Option PlainTrees
only_declarator (more (node kind parts) none) = Some parts
only_declarator other = None

pub only_node : (list : PlainTrees) (tree : PlainTree) (parts : PlainTrees) → list ≡ more tree none → parts_in tree ≡ Some parts → only_declarator list ≡ Some parts
only_node list (leaf token) parts is a = no_parts parts a
only_node list (node kind given) parts is a = ap only_declarator is ∙ a

by_declarator : (globals : ℕ) (unit : UnitState) (words_kind list_kind : Kind) (words list : PlainTrees) (body : PlainTree) (parts behind : PlainTrees) → only_declarator list ≡ Some parts → judged_item globals unit (node k.Function (more (node words_kind words) (more (node list_kind list) (more body none)))) behind ≡ function_item unit words parts body
by_declarator globals unit words_kind list_kind words none body parts behind is = no_parts parts is
by_declarator globals unit words_kind list_kind words (more (leaf token) rest) body parts behind is = no_parts parts is
by_declarator globals unit words_kind list_kind words (more (node kind given) (more other rest)) body parts behind is = no_parts parts is
by_declarator globals unit words_kind list_kind words (more (node kind given) none) body parts behind is =
    let e : given ≡ parts = same_parts given parts is in ap (λ p. function_item unit words p body) e

pub function_item_is : (globals : ℕ) (unit : UnitState) (all : PlainTrees) (naming list body : PlainTree) (words declarators parts behind : PlainTrees) → all ≡ more naming (more list (more body none)) → parts_in naming ≡ Some words → parts_in list ≡ Some declarators → only_declarator declarators ≡ Some parts → judged_item globals unit (node k.Function all) behind ≡ function_item unit words parts body
function_item_is globals unit all (leaf token) list body words declarators parts behind is a b c = no_parts words a
function_item_is globals unit all (node words_kind naming) (leaf token) body words declarators parts behind is a b c = no_parts declarators b
function_item_is globals unit all (node words_kind naming) (node list_kind list) body words declarators parts behind is a b c =
    let e : naming ≡ words = same_parts naming words a in
    let f : only_declarator list ≡ Some parts = ap only_declarator (same_parts list declarators b) ∙ c in
    ap (λ l. judged_item globals unit (node k.Function l) behind) is ∙ by_declarator globals unit words_kind list_kind naming list body parts behind f ∙ ap (λ w. function_item unit w parts body) e

-- ---- one item after the other

-- the items from one on
abbrev pub items_left : ℕ → PlainTrees → UnitState → Checked UnitState
items_left globals rest unit = judged_file_items globals unit rest

pub items_next : (globals : ℕ) (unit : UnitState) (parts : List Tree) (tree : Tree) (n : ℕ) → n < length parts → tree ≡ get_or parts n tree → judged_file_items globals unit (plain_trees (drop n parts)) ≡ (judged_item globals unit (plain_tree tree) (plain_trees (drop (n + 1) parts)) >>= items_left globals (plain_trees (drop (n + 1) parts)))
items_next globals unit parts tree n inside is =
    ap (λ l. judged_file_items globals unit (plain_trees l)) (front parts tree n inside is)

-- ---- steps of items

abbrev pub declarators_behind : ℕ → UnitState → Storage → PlainTrees → PlainTrees → Based → Checked UnitState
declarators_behind globals unit storage declarators behind base = declared_from globals (with_scope unit base.scope) storage base.ty declarators behind

by_storage : (globals : ℕ) (unit : UnitState) (words declarators behind : PlainTrees) (storage : Storage) → storage ≡ storage_of words → declaration_item globals unit words declarators behind ≡ (based true unit.scope words >>= declarators_behind globals unit storage declarators behind)
by_storage globals unit words declarators behind storage is = ap (λ s. based true unit.scope words >>= declarators_behind globals unit s declarators behind) (sym is)

pub declaration_gives : (globals : ℕ) (unit : UnitState) (words declarators behind : PlainTrees) (base : Based) (storage : Storage) (x : UnitState) (before after : List ℕ → Bool) → Binds (based true unit.scope words) base → storage ≡ storage_of words → Gives (declared_from globals (with_scope unit base.scope) storage base.ty declarators behind) x before after → Gives (declaration_item globals unit words declarators behind) x before after
declaration_gives globals unit words declarators behind base storage x before after b is g =
    gives_of (declaration_item globals unit words declarators behind) (based true unit.scope words >>= declarators_behind globals unit storage declarators behind) x before after (by_storage globals unit words declarators behind storage is)
    (base_gives (based true unit.scope words) (declarators_behind globals unit storage declarators behind) base x before after b g)

pub words_refused : (globals : ℕ) (unit : UnitState) (words declarators behind : PlainTrees) (error : ElabError) → RefusedAs (based true unit.scope words) error → RefusedAs (declaration_item globals unit words declarators behind) error
words_refused globals unit words declarators behind error r = refused_first (based true unit.scope words) (declarators_behind globals unit (storage_of words) declarators behind) error r

pub declarators_refused : (globals : ℕ) (unit : UnitState) (words declarators behind : PlainTrees) (base : Based) (storage : Storage) (error : ElabError) → Binds (based true unit.scope words) base → storage ≡ storage_of words → RefusedAs (declared_from globals (with_scope unit base.scope) storage base.ty declarators behind) error → RefusedAs (declaration_item globals unit words declarators behind) error
declarators_refused globals unit words declarators behind base storage error b is r =
    refused_of (declaration_item globals unit words declarators behind) (based true unit.scope words >>= declarators_behind globals unit storage declarators behind) error (by_storage globals unit words declarators behind storage is)
    (base_refused (based true unit.scope words) (declarators_behind globals unit storage declarators behind) base error b r)

by_name : (unit : UnitState) (words : PlainTrees) (ty : PlainType) (parts : PlainTrees) (body : PlainTree) (name : PlainToken) (storage : Storage) → name_in parts ≡ Some name → storage ≡ storage_of words → function_named unit words ty parts body ≡ in_function (count_functions unit.defined) (defined_function unit storage ty parts name body)
by_name unit words ty parts body name storage is same = named_definition unit words ty parts body name is ∙ ap (λ s. in_function (count_functions unit.defined) (defined_function unit s ty parts name body)) (sym same)

pub name_gives : (unit : UnitState) (words : PlainTrees) (ty : PlainType) (parts : PlainTrees) (body : PlainTree) (name : PlainToken) (storage : Storage) (x : UnitState) (before after : List ℕ → Bool) → name_in parts ≡ Some name → storage ≡ storage_of words → Gives (defined_function unit storage ty parts name body) x before after → Gives (function_named unit words ty parts body) x before after
name_gives unit words ty parts body name storage x before after is same g =
    let n = count_functions unit.defined in
    gives_of (function_named unit words ty parts body) (in_function n (defined_function unit storage ty parts name body)) x before after (by_name unit words ty parts body name storage is same)
    (in_function_gives n (defined_function unit storage ty parts name body) x before after g)

pub name_refused : (unit : UnitState) (words : PlainTrees) (ty : PlainType) (parts : PlainTrees) (body : PlainTree) (name : PlainToken) (storage : Storage) (error : ElabError) → name_in parts ≡ Some name → storage ≡ storage_of words → RefusedAs (defined_function unit storage ty parts name body) error → RefusedAs (function_named unit words ty parts body) error
name_refused unit words ty parts body name storage error is same r =
    let n = count_functions unit.defined in
    refused_of (function_named unit words ty parts body) (in_function n (defined_function unit storage ty parts name body)) error (by_name unit words ty parts body name storage is same)
    (in_function_refused n (defined_function unit storage ty parts name body) error r)

abbrev pub named_behind : UnitState → PlainTrees → PlainTrees → PlainTree → Based → Checked UnitState
named_behind unit words parts body base = function_named unit words base.ty parts body

pub function_item_gives : (unit : UnitState) (words parts : PlainTrees) (body : PlainTree) (base : Based) (x : UnitState) (before after : List ℕ → Bool) → Binds (based false unit.scope words) base → Gives (function_named unit words base.ty parts body) x before after → Gives (function_item unit words parts body) x before after
function_item_gives unit words parts body base x before after b g = base_gives (based false unit.scope words) (named_behind unit words parts body) base x before after b g

pub function_words_refused : (unit : UnitState) (words parts : PlainTrees) (body : PlainTree) (error : ElabError) → RefusedAs (based false unit.scope words) error → RefusedAs (function_item unit words parts body) error
function_words_refused unit words parts body error r = refused_first (based false unit.scope words) (named_behind unit words parts body) error r

pub function_item_refused : (unit : UnitState) (words parts : PlainTrees) (body : PlainTree) (base : Based) (error : ElabError) → Binds (based false unit.scope words) base → RefusedAs (function_named unit words base.ty parts body) error → RefusedAs (function_item unit words parts body) error
function_item_refused unit words parts body base error b r = base_refused (based false unit.scope words) (named_behind unit words parts body) base error b r

-- ---- all items

pub items_continue : (globals : ℕ) (whole : Checked UnitState) (unit behind : UnitState) (parts : List Tree) (tree : Tree) (rest : PlainTrees) (n : ℕ) (before between after : List ℕ → Bool) → n < length parts → tree ≡ get_or parts n tree → rest ≡ plain_trees (drop (n + 1) parts) → Leads whole (judged_file_items globals unit (plain_trees (drop n parts))) before between → Gives (judged_item globals unit (plain_tree tree) rest) behind between after → Leads whole (judged_file_items globals behind (plain_trees (drop (n + 1) parts))) before after
items_continue globals whole unit behind parts tree rest n before between after inside is left l g =
    leads_with whole (judged_file_items globals unit (plain_trees (drop n parts))) (judged_item globals unit (plain_tree tree) (plain_trees (drop (n + 1) parts))) (items_left globals (plain_trees (drop (n + 1) parts))) behind before between after l (items_next globals unit parts tree n inside is)
    (gives_of (judged_item globals unit (plain_tree tree) (plain_trees (drop (n + 1) parts))) (judged_item globals unit (plain_tree tree) rest) behind between after (ap (judged_item globals unit (plain_tree tree)) (sym left)) g)

pub items_refused : (globals : ℕ) (whole : Checked UnitState) (unit : UnitState) (parts : List Tree) (tree : Tree) (rest : PlainTrees) (n : ℕ) (before between : List ℕ → Bool) (error : ElabError) → n < length parts → tree ≡ get_or parts n tree → rest ≡ plain_trees (drop (n + 1) parts) → Leads whole (judged_file_items globals unit (plain_trees (drop n parts))) before between → RefusedAs (judged_item globals unit (plain_tree tree) rest) error → RefusedAs whole error
items_refused globals whole unit parts tree rest n before between error inside is left l r =
    leads_refused whole (judged_file_items globals unit (plain_trees (drop n parts))) before between error l
    (refused_of (judged_file_items globals unit (plain_trees (drop n parts))) (judged_item globals unit (plain_tree tree) (plain_trees (drop (n + 1) parts)) >>= items_left globals (plain_trees (drop (n + 1) parts))) error (items_next globals unit parts tree n inside is)
    (refused_first (judged_item globals unit (plain_tree tree) (plain_trees (drop (n + 1) parts))) (items_left globals (plain_trees (drop (n + 1) parts))) error
    (refused_of (judged_item globals unit (plain_tree tree) (plain_trees (drop (n + 1) parts))) (judged_item globals unit (plain_tree tree) rest) error (ap (judged_item globals unit (plain_tree tree)) (sym left)) r)))

pub items_done : (globals : ℕ) (whole : Checked UnitState) (unit : UnitState) (parts : List Tree) (n : ℕ) (before after : List ℕ → Bool) → length parts ≤ n → Leads whole (judged_file_items globals unit (plain_trees (drop n parts))) before after → Gives whole unit before after
items_done globals whole unit parts n before after over l =
    let last : judged_file_items globals unit (plain_trees (drop n parts)) ≡ give unit = rw (drop_of_length-le parts {i = n} over) refl in
    leads_to whole (judged_file_items globals unit (plain_trees (drop n parts))) unit before after after l (gives_nothing_used (judged_file_items globals unit (plain_trees (drop n parts))) unit after last)
