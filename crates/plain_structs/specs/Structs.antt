-- Steps in defining structs.
use Rattle.std.proofs.Common.{◌≡◌, ℕ, zero, suc, ◌+◌, ◌<◌, ◌≤◌, Bool, true, List, [], ◌∷◌, length, map, set, get_or, drop, refl, sym, ap, arith, ◌∙◌}
use Rattle.std.proofs.Math.ListN.{drop_of_length-le}
use Rattle.std.specs.Prelude.{not, Some}
use Rattle.c_text.specs.Token.{PlainToken}
use Rattle.c_tree.specs.declared.trees.Tree.{Tree}
use Rattle.c_tree.specs.Trees.{PlainTree, PlainTrees, leaf, node, none, more, plain_tree, plain_trees}
use Rattle.core_meaning.specs.declared.refusals.TypeKind.TheVariants.{Redeclared}
use Rattle.core_meaning.specs.Checking.{Checked, broken, ◌>>=◌, give, unless_so, or_broken}
use Rattle.core_meaning.specs.Entities.{Scope, Struct, no_entry}
use Rattle.core_meaning.specs.Declarations.{based, name_in}
use Rattle.core_meaning.specs.UnitNames.{UnitState, Members, AllMembers, members_from, all_members, completed, with_members_at, is_defined_tag, number_of_struct, defined_struct, with_scope}
use Rattle.plain_scope.specs.Parts.{parts_in}
use Rattle.plain_scope.specs.Judgements.{Gives, RefusedAs}
use Rattle.plain_scope.specs.JudgementLaws.{gives_nothing_used, refused_first}
use Rattle.plain_scope.specs.declared.errors.ElabError.{ElabError}
use Rattle.plain_declarators.specs.Sequences.{bind_nothing, gives_of, refused_of, gives_as}
use Rattle.plain_structs.specs.PartLists.{no_parts, same_parts}
use Rattle.plain_structs.specs.Binding.{bind_assoc, regrouped, then_same}
use Rattle.plain_structs.specs.Leading.{front, Leads, leads_with, leads_to, leads_refused}

-- ---- members

abbrev pub no_members : Members
no_members = record { members = []; numbers = no_entry; scalars = 0 }

abbrev pub all_as : Scope → Members → AllMembers
all_as scope known = record { scope = scope; known = known }

-- a declaration of members by its words and declarators
abbrev pub members_by : Scope → ℕ → Members → PlainTrees → PlainTrees → Checked AllMembers
members_by scope number known words declarators = do
  base ← based true scope words
  first ← members_from base.scope number known base.ty declarators
  give (all_as base.scope first)

abbrev pub member_declaration : Scope → ℕ → Members → PlainTree → Checked AllMembers
member_declaration scope number known (node kind (more (node words_kind words) (more (node list_kind declarators) (more end none)))) =
    members_by scope number known words declarators
member_declaration scope number known tree = broken

by_parts : (scope : Scope) (number : ℕ) (known : Members) (tree words list end : PlainTree) (parts naming declarators : PlainTrees) → parts_in tree ≡ Some parts → parts ≡ more words (more list (more end none)) → parts_in words ≡ Some naming → parts_in list ≡ Some declarators → member_declaration scope number known tree ≡ members_by scope number known naming declarators
by_parts scope number known (leaf token) words list end parts naming declarators a b c d = no_parts parts a
by_parts scope number known (node kind given) (leaf token) list end parts naming declarators a b c d = no_parts naming c
by_parts scope number known (node kind given) (node words_kind words) (leaf token) end parts naming declarators a b c d = no_parts declarators d
by_parts scope number known (node kind given) (node words_kind words) (node list_kind list) end parts naming declarators a b c d =
    let e : given ≡ more (node words_kind words) (more (node list_kind list) (more end none)) = same_parts given parts a ∙ b in
    let f : words ≡ naming = same_parts words naming c in
    let g : list ≡ declarators = same_parts list declarators d in
    ap (λ l. member_declaration scope number known (node kind l)) e ∙ ap (λ w. members_by scope number known w list) f ∙ ap (λ l. members_by scope number known naming l) g

pub declaration_gives : (scope : Scope) (number : ℕ) (known : Members) (tree words list end : PlainTree) (parts naming declarators : PlainTrees) (given : AllMembers) (before after : List ℕ → Bool) → parts_in tree ≡ Some parts → parts ≡ more words (more list (more end none)) → parts_in words ≡ Some naming → parts_in list ≡ Some declarators → Gives (members_by scope number known naming declarators) given before after → Gives (member_declaration scope number known tree) given before after
declaration_gives scope number known tree words list end parts naming declarators given before after a b c d g =
    gives_of (member_declaration scope number known tree) (members_by scope number known naming declarators) given before after (by_parts scope number known tree words list end parts naming declarators a b c d) g

pub declaration_refused : (scope : Scope) (number : ℕ) (known : Members) (tree words list end : PlainTree) (parts naming declarators : PlainTrees) (error : ElabError) → parts_in tree ≡ Some parts → parts ≡ more words (more list (more end none)) → parts_in words ≡ Some naming → parts_in list ≡ Some declarators → RefusedAs (members_by scope number known naming declarators) error → RefusedAs (member_declaration scope number known tree) error
declaration_refused scope number known tree words list end parts naming declarators error a b c d r =
    refused_of (member_declaration scope number known tree) (members_by scope number known naming declarators) error (by_parts scope number known tree words list end parts naming declarators a b c d) r

-- the members of a struct from one declaration on
abbrev pub members_left : ℕ → PlainTrees → AllMembers → Checked AllMembers
members_left number rest all = all_members all.scope number all.known rest

all_step : (scope : Scope) (number : ℕ) (known : Members) (tree : PlainTree) (rest : PlainTrees) → all_members scope number known (more tree rest) ≡ (member_declaration scope number known tree >>= members_left number rest)
all_step scope number known (node kind (more (node words_kind words) (more (node list_kind declarators) (more end none)))) rest =
    sym (bind_assoc (based true scope words) (λ base. members_from base.scope number known base.ty declarators >>= (λ first. give (all_as base.scope first))) (members_left number rest)
    ∙ then_same (based true scope words) (λ base. (members_from base.scope number known base.ty declarators >>= (λ first. give (all_as base.scope first))) >>= members_left number rest) (λ base. members_from base.scope number known base.ty declarators >>= (λ first. all_members base.scope number first rest))
    (λ base. regrouped (members_from base.scope number known base.ty declarators) (all_as base.scope) (members_left number rest)))
all_step scope number known (leaf token) rest = refl
all_step scope number known (node kind none) rest = refl
all_step scope number known (node kind (more (leaf token) others)) rest = refl
all_step scope number known (node kind (more (node words_kind words) none)) rest = refl
all_step scope number known (node kind (more (node words_kind words) (more (leaf token) others))) rest = refl
all_step scope number known (node kind (more (node words_kind words) (more (node list_kind declarators) none))) rest = refl
all_step scope number known (node kind (more (node words_kind words) (more (node list_kind declarators) (more end (more other others))))) rest = refl

pub all_next : (scope : Scope) (number : ℕ) (known : Members) (parts : List Tree) (tree : Tree) (n : ℕ) → n < length parts → tree ≡ get_or parts n tree → all_members scope number known (plain_trees (drop n parts)) ≡ (member_declaration scope number known (plain_tree tree) >>= members_left number (plain_trees (drop (n + 1) parts)))
all_next scope number known parts tree n inside is =
    ap (λ l. all_members scope number known (plain_trees l)) (front parts tree n inside is) ∙ all_step scope number known (plain_tree tree) (plain_trees (drop (n + 1) parts))

-- ---- structs that are completed

abbrev pub finished : ℕ → AllMembers → Scope
finished number all = record all.scope { structs = with_members_at number all.known all.scope.structs }

abbrev pub struct_members : Scope → ℕ → PlainTrees → Checked Scope
struct_members scope number list = do
  all ← all_members scope number no_members list
  give (finished number all)

abbrev pub struct_by_words : Scope → PlainTrees → PlainTrees → Checked Scope
struct_by_words scope words list = do
  base ← based true scope words
  struct_members base.scope (number_of_struct base.ty) list

abbrev pub struct_of_tag : Scope → PlainToken → PlainTrees → PlainTrees → Checked Scope
struct_of_tag scope tag words list = do
  new ← unless_so (not (is_defined_tag scope (scope.tags tag.text))) Redeclared tag
  struct_by_words scope words list

-- what is visible behind the definition of a struct
abbrev pub struct_of : Scope → PlainTrees → PlainTrees → Checked Scope
struct_of scope words list = or_broken (name_in words) >>= (λ tag. struct_of_tag scope tag words list)

tagged : (scope : Scope) (tag : PlainToken) (words list : PlainTrees) → name_in words ≡ Some tag → struct_of scope words list ≡ struct_of_tag scope tag words list
tagged scope tag words list is = ap (λ found. or_broken found >>= (λ t. struct_of_tag scope t words list)) is ∙ bind_nothing (struct_of_tag scope tag words list)

pub tagged_gives : (scope : Scope) (tag : PlainToken) (words list : PlainTrees) (given : Scope) (before after : List ℕ → Bool) → name_in words ≡ Some tag → Gives (struct_of_tag scope tag words list) given before after → Gives (struct_of scope words list) given before after
tagged_gives scope tag words list given before after is g = gives_of (struct_of scope words list) (struct_of_tag scope tag words list) given before after (tagged scope tag words list is) g

pub tagged_refused : (scope : Scope) (tag : PlainToken) (words list : PlainTrees) (error : ElabError) → name_in words ≡ Some tag → RefusedAs (struct_of_tag scope tag words list) error → RefusedAs (struct_of scope words list) error
tagged_refused scope tag words list error is r = refused_of (struct_of scope words list) (struct_of_tag scope tag words list) error (tagged scope tag words list is) r

-- ---- units in which only what is visible changes

abbrev pub in_scope : UnitState → Checked Scope → Checked UnitState
in_scope unit c = c >>= (λ scope. give (with_scope unit scope))

pub in_scope_gives : (unit : UnitState) (c : Checked Scope) (scope : Scope) (before after : List ℕ → Bool) → Gives c scope before after → Gives (in_scope unit c) (with_scope unit scope) before after
in_scope_gives unit c scope before after g = gives_as c (λ s. give (with_scope unit s)) scope (with_scope unit scope) before after g refl

pub in_scope_refused : (unit : UnitState) (c : Checked Scope) (error : ElabError) → RefusedAs c error → RefusedAs (in_scope unit c) error
in_scope_refused unit c error r = refused_first c (λ s. give (with_scope unit s)) error r

pub struct_in_scope : (unit : UnitState) (words members : PlainTrees) → defined_struct unit words members ≡ in_scope unit (struct_of unit.scope words members)
struct_in_scope unit words members =
    let last : Scope → Checked UnitState = λ scope. give (with_scope unit scope) in
    let ending : Scope → ℕ → Checked UnitState = λ scope number. all_members scope number no_members members >>= (λ all. give (with_scope unit (finished number all))) in
    let test : PlainToken → Checked (Unit {0}) = λ tag. unless_so (not (is_defined_tag unit.scope (unit.scope.tags tag.text))) Redeclared tag in
    sym (bind_assoc (or_broken (name_in words)) (λ tag. struct_of_tag unit.scope tag words members) last
    ∙ then_same (or_broken (name_in words)) (λ tag. struct_of_tag unit.scope tag words members >>= last) (λ tag. test tag >>= (λ new. based true unit.scope words >>= (λ base. ending base.scope (number_of_struct base.ty))))
    (λ tag. bind_assoc (test tag) (λ new. struct_by_words unit.scope words members) last
    ∙ then_same (test tag) (λ new. struct_by_words unit.scope words members >>= last) (λ new. based true unit.scope words >>= (λ base. ending base.scope (number_of_struct base.ty)))
    (λ new. bind_assoc (based true unit.scope words) (λ base. struct_members base.scope (number_of_struct base.ty) members) last
    ∙ then_same (based true unit.scope words) (λ base. struct_members base.scope (number_of_struct base.ty) members >>= last) (λ base. ending base.scope (number_of_struct base.ty))
    (λ base. regrouped (all_members base.scope (number_of_struct base.ty) no_members members) (finished (number_of_struct base.ty)) last))))

-- ---- the completed struct among the others

pub completed_at : {A : Type 0} (plain : A → Struct) (known : Members) (structs : List A) (n : ℕ) (old new : A) → n < length structs → old ≡ get_or structs n old → plain new ≡ completed known (plain old) → map plain (set structs n new) ≡ with_members_at n known (map plain structs)
completed_at plain known [] n old new inside is done = absurd (omega arith)
completed_at plain known (s ∷ rest) zero old new inside is done = ap (λ x. x ∷ map plain rest) (done ∙ ap (λ x. completed known (plain x)) is)
completed_at plain known (s ∷ rest) (suc n) old new inside is done = ap (λ l. plain s ∷ l) (completed_at plain known rest n old new (omega arith) is done)

pub completed_beyond : {A : Type 0} (plain : A → Struct) (known : Members) (structs : List A) (n : ℕ) → length structs ≤ n → map plain structs ≡ with_members_at n known (map plain structs)
completed_beyond plain known [] n beyond = refl
completed_beyond plain known (s ∷ rest) zero beyond = absurd (omega arith)
completed_beyond plain known (s ∷ rest) (suc n) beyond = ap (λ l. plain s ∷ l) (completed_beyond plain known rest n (omega arith))

-- ---- the definition of a struct in its unit

pub struct_gives : (unit : UnitState) (words members : PlainTrees) (scope : Scope) (before after : List ℕ → Bool) → Gives (struct_of unit.scope words members) scope before after → Gives (defined_struct unit words members) (with_scope unit scope) before after
struct_gives unit words members scope before after g =
    gives_of (defined_struct unit words members) (in_scope unit (struct_of unit.scope words members)) (with_scope unit scope) before after (struct_in_scope unit words members) (in_scope_gives unit (struct_of unit.scope words members) scope before after g)

pub struct_refused : (unit : UnitState) (words members : PlainTrees) (error : ElabError) → RefusedAs (struct_of unit.scope words members) error → RefusedAs (defined_struct unit words members) error
struct_refused unit words members error r =
    refused_of (defined_struct unit words members) (in_scope unit (struct_of unit.scope words members)) error (struct_in_scope unit words members) (in_scope_refused unit (struct_of unit.scope words members) error r)

-- ---- the members of a struct, one declaration after the other

pub all_continue : (whole : Checked AllMembers) (scope behind : Scope) (number : ℕ) (known more_known : Members) (parts : List Tree) (tree : Tree) (n : ℕ) (before between after : List ℕ → Bool) → n < length parts → tree ≡ get_or parts n tree → Leads whole (all_members scope number known (plain_trees (drop n parts))) before between → Gives (member_declaration scope number known (plain_tree tree)) (all_as behind more_known) between after → Leads whole (all_members behind number more_known (plain_trees (drop (n + 1) parts))) before after
all_continue whole scope behind number known more_known parts tree n before between after inside is l g =
    leads_with whole (all_members scope number known (plain_trees (drop n parts))) (member_declaration scope number known (plain_tree tree)) (members_left number (plain_trees (drop (n + 1) parts))) (all_as behind more_known) before between after l (all_next scope number known parts tree n inside is) g

pub all_refused : (whole : Checked AllMembers) (scope : Scope) (number : ℕ) (known : Members) (parts : List Tree) (tree : Tree) (n : ℕ) (before between : List ℕ → Bool) (error : ElabError) → n < length parts → tree ≡ get_or parts n tree → Leads whole (all_members scope number known (plain_trees (drop n parts))) before between → RefusedAs (member_declaration scope number known (plain_tree tree)) error → RefusedAs whole error
all_refused whole scope number known parts tree n before between error inside is l r =
    leads_refused whole (all_members scope number known (plain_trees (drop n parts))) before between error l
    (refused_of (all_members scope number known (plain_trees (drop n parts))) (member_declaration scope number known (plain_tree tree) >>= members_left number (plain_trees (drop (n + 1) parts))) error (all_next scope number known parts tree n inside is)
    (refused_first (member_declaration scope number known (plain_tree tree)) (members_left number (plain_trees (drop (n + 1) parts))) error r))

pub all_done : (whole : Checked AllMembers) (scope : Scope) (number : ℕ) (known : Members) (parts : List Tree) (n : ℕ) (before after : List ℕ → Bool) → length parts ≤ n → Leads whole (all_members scope number known (plain_trees (drop n parts))) before after → Gives whole (all_as scope known) before after
all_done whole scope number known parts n before after over l =
    let last : all_members scope number known (plain_trees (drop n parts)) ≡ give (all_as scope known) = rw (drop_of_length-le parts {i = n} over) refl in
    leads_to whole (all_members scope number known (plain_trees (drop n parts))) (all_as scope known) before after after l (gives_nothing_used (all_members scope number known (plain_trees (drop n parts))) (all_as scope known) after last)
