-- Steps in declaring and defining functions.
use Rattle.std.proofs.Common.{◌≡◌, ℕ, Bool, ◌||◌, ◌&&◌, List, [], ◌∷◌, map, refl, sym, ap, ◌∙◌, true, false}
use Rattle.std.specs.Prelude.{Option, Some}
use Rattle.c_text.specs.Token.{PlainToken}
use Rattle.c_types.specs.Types.{PlainType}
use Rattle.c_tree.specs.declared.kinds.Kind.{Kind}
use Rattle.c_tree.specs.declared.kinds.Kind.TheVariants as k
use Rattle.c_tree.specs.declared.terminals.Terminal.TheVariants as t
use Rattle.c_tree.specs.Trees.{PlainTree, PlainTrees, leaf, node, none, more}
use Rattle.core_meaning.specs.declared.refusals.TypeKind.{TypeKind}
use Rattle.core_meaning.specs.declared.refusals.TypeKind.TheVariants.{Incomplete, Redeclared}
use Rattle.core_meaning.specs.Checking.{Entity, local_entity, local_of_function, file_entity, struct_entity, member_entity, own_entity, Binding, Checked, refused, broken, ◌>>=◌, give, unless_so, declares, numbered, numbered_binding, in_function}
use Rattle.core_meaning.specs.Linking.{is_use_of, uses_in}
use Rattle.core_meaning.specs.Entities.{Scope, Signature, function}
use Rattle.core_meaning.specs.Program.{no_item}
use Rattle.core_meaning.specs.Declarations.{Parameter, behind_word, starred, parameters_of, with_block}
use Rattle.core_meaning.specs.Statements.{JudgedItems, judged_items, items_as}
use Rattle.core_meaning.specs.UnitNames.{UnitState, Storage, with_name, with_scope, with_defined, function_body, parameter_types, signature_of, refused_initialiser, may_be_function, new_function, declared_function, with_parameters, is_result, kind_or_incomplete, kind_by_parameters, result_kind, judged_body, defined_function}
use Rattle.plain_scope.specs.Parts.{parts_in}
use Rattle.plain_scope.specs.Judgements.{Gives, RefusedAs}
use Rattle.plain_scope.specs.declared.errors.ElabError.{ElabError}
use Rattle.plain_scope.specs.declared.errors.ElabError.TheVariants.{BadType, Link, Memory}
use Rattle.plain_scope.specs.JudgementLaws.{refused_first, gives_then}
use Rattle.plain_declarators.specs.Sequences.{gives_of, refused_of, next_of, gives_next, refused_next, gives_as, refused_behind}
use Rattle.plain_structs.specs.PartLists.{no_parts, same_parts}
use Rattle.plain_structs.specs.Members.{member_bound, member_refused}
use Rattle.plain_structs.specs.Binding.{bind_assoc, regrouped, then_same}
use Rattle.plain_structs.specs.Structs.{in_scope, in_scope_gives, in_scope_refused}

-- ---- declarations

-- a function's name, behind which no initialiser stands
abbrev pub placed_function : Scope → Storage → Signature → PlainToken → Option PlainTree → Checked Scope
placed_function scope storage f name initialiser = do
  named ← with_name scope name (function f) storage
  none_given ← refused_initialiser initialiser name
  give named

abbrev pub function_behind : Scope → Storage → PlainType → PlainToken → Option PlainTree → List Parameter → Checked Scope
function_behind scope storage result name initialiser parameters = placed_function scope storage (signature_of result parameters) name initialiser

-- what is visible behind the declaration of a function that doesn't define it
abbrev pub function_declared : Scope → Storage → PlainType → PlainTrees → PlainToken → Option PlainTree → Checked Scope
function_declared scope storage ty parts name initialiser = do
  bound ← declares (file_entity name.text)
  parameters ← new_function false scope storage (starred parts ty) parts name
  function_behind scope storage (starred parts ty) name initialiser parameters

pub function_in_scope : (unit : UnitState) (storage : Storage) (ty : PlainType) (parts : PlainTrees) (name : PlainToken) (initialiser : Option PlainTree) → declared_function unit storage ty parts name initialiser ≡ in_scope unit (function_declared unit.scope storage ty parts name initialiser)
function_in_scope unit storage ty parts name initialiser =
    let last : Scope → Checked UnitState = λ scope. give (with_scope unit scope) in
    let bound : Checked (Unit {0}) = declares (file_entity name.text) in
    let found : Checked (List Parameter) = new_function false unit.scope storage (starred parts ty) parts name in
    let named : List Parameter → Checked Scope = λ parameters. with_name unit.scope name (function (signature_of (starred parts ty) parameters)) storage in
    let behind : List Parameter → Checked Scope = λ parameters. function_behind unit.scope storage (starred parts ty) name initialiser parameters in
    let ending : List Parameter → Checked UnitState = λ parameters. named parameters >>= (λ scope. refused_initialiser initialiser name >>= (λ u. give (with_scope unit scope))) in
    sym (bind_assoc bound (λ u. found >>= behind) last
    ∙ then_same bound (λ u. (found >>= behind) >>= last) (λ u. found >>= ending)
    (λ u. bind_assoc found behind last
    ∙ then_same found (λ parameters. behind parameters >>= last) ending
    (λ parameters. bind_assoc (named parameters) (λ scope. refused_initialiser initialiser name >>= (λ u. give scope)) last
    ∙ then_same (named parameters) (λ scope. (refused_initialiser initialiser name >>= (λ u. give scope)) >>= last) (λ scope. refused_initialiser initialiser name >>= (λ u. give (with_scope unit scope)))
    (λ scope. regrouped (refused_initialiser initialiser name) (λ u. scope) last))))

-- ---- definitions

-- the body of a function, in the block of its parameters
abbrev pub function_items : Scope → PlainType → List Parameter → PlainTree → Checked JudgedItems
function_items scope result parameters body = judged_body (with_parameters (with_block scope) 0 parameters) result (parameter_types parameters) body

-- the items of a function's block, where these slots are taken
abbrev pub items_in : Scope → PlainType → List PlainType → PlainTree → Checked JudgedItems
items_in scope result slots (node k.Items items) = judged_items (record { scope = scope; result = result; in_loop = false }) slots items
items_in scope result slots (node k.Absent items) = give (items_as slots no_item)
items_in scope result slots other = broken

body_parts : (scope : Scope) (result : PlainType) (slots : List PlainType) (kind : Kind) (brace list last : PlainTree) → judged_body scope result slots (node kind (more brace (more list (more last none)))) ≡ items_in scope result slots list
body_parts scope result slots kind brace (leaf token) last = refl
body_parts scope result slots kind brace (node k.Items items) last = refl
body_parts scope result slots kind brace (node k.Absent items) last = refl
body_parts scope result slots kind brace (node other items) last = refl

by_body : (scope : Scope) (result : PlainType) (slots : List PlainType) (body brace list last : PlainTree) (parts : PlainTrees) → parts_in body ≡ Some parts → parts ≡ more brace (more list (more last none)) → judged_body scope result slots body ≡ items_in scope result slots list
by_body scope result slots (leaf token) brace list last parts a b = no_parts parts a
by_body scope result slots (node kind given) brace list last parts a b =
    let e : given ≡ more brace (more list (more last none)) = same_parts given parts a ∙ b in
    ap (λ l. judged_body scope result slots (node kind l)) e ∙ body_parts scope result slots kind brace list last

pub body_gives : (scope : Scope) (result : PlainType) (slots : List PlainType) (body brace list last : PlainTree) (parts : PlainTrees) (given : JudgedItems) (before after : List ℕ → Bool) → parts_in body ≡ Some parts → parts ≡ more brace (more list (more last none)) → Gives (items_in scope result slots list) given before after → Gives (judged_body scope result slots body) given before after
body_gives scope result slots body brace list last parts given before after a b g =
    gives_of (judged_body scope result slots body) (items_in scope result slots list) given before after (by_body scope result slots body brace list last parts a b) g

pub body_refused : (scope : Scope) (result : PlainType) (slots : List PlainType) (body brace list last : PlainTree) (parts : PlainTrees) (error : ElabError) → parts_in body ≡ Some parts → parts ≡ more brace (more list (more last none)) → RefusedAs (items_in scope result slots list) error → RefusedAs (judged_body scope result slots body) error
body_refused scope result slots body brace list last parts error a b r =
    refused_of (judged_body scope result slots body) (items_in scope result slots list) error (by_body scope result slots body brace list last parts a b) r

-- what is visible behind the definition of a function, and its block
pub record FoundFunction : Type 0 where
  pub scope : Scope
  pub items : JudgedItems

abbrev pub found_as : Scope → JudgedItems → FoundFunction
found_as scope items = record { scope = scope; items = items }

abbrev pub named_function : Scope → Storage → PlainType → PlainToken → PlainTree → List Parameter → Checked FoundFunction
named_function scope storage result name body parameters = do
  named ← with_name scope name (function (signature_of result parameters)) storage
  items ← function_items named result parameters body
  give (found_as named items)

-- a function whose result may be that of a definition
abbrev pub function_with_result : Scope → Storage → PlainType → PlainTrees → PlainToken → PlainTree → Checked FoundFunction
function_with_result scope storage result parts name body = do
  parameters ← new_function true scope storage result parts name
  named_function scope storage result name body parameters

abbrev pub kind_of_result : Scope → Storage → PlainType → PlainTrees → PlainToken → TypeKind
kind_of_result scope storage result parts name = result_kind scope storage result name (parameters_of true scope (behind_word t.OpenParenthesis parts) name)

abbrev pub complete_function : Scope → Storage → PlainType → PlainTrees → PlainToken → PlainTree → Checked FoundFunction
complete_function scope storage result parts name body = do
  fits ← unless_so (is_result scope result) (kind_of_result scope storage result parts name) name
  function_with_result scope storage result parts name body

abbrev pub function_found : Scope → Storage → PlainType → PlainTrees → PlainToken → PlainTree → Checked FoundFunction
function_found scope storage ty parts name body = do
  bound ← declares (file_entity name.text)
  complete_function scope storage (starred parts ty) parts name body

abbrev pub as_defined : UnitState → PlainToken → FoundFunction → UnitState
as_defined unit name f = with_defined (with_scope unit f.scope) name.text (function_body f.items.slots f.items.core)

abbrev pub defining : UnitState → PlainToken → FoundFunction → Checked UnitState
defining unit name f = give (as_defined unit name f)

pub function_by_steps : (unit : UnitState) (storage : Storage) (ty : PlainType) (parts : PlainTrees) (name : PlainToken) (body : PlainTree) → defined_function unit storage ty parts name body ≡ (function_found unit.scope storage ty parts name body >>= defining unit name)
function_by_steps unit storage ty parts name body =
    let result : PlainType = starred parts ty in
    let last : FoundFunction → Checked UnitState = defining unit name in
    let bound : Checked (Unit {0}) = declares (file_entity name.text) in
    let test : Checked (Unit {0}) = unless_so (is_result unit.scope result) (kind_of_result unit.scope storage result parts name) name in
    let found : Checked (List Parameter) = new_function true unit.scope storage result parts name in
    let named : List Parameter → Checked Scope = λ parameters. with_name unit.scope name (function (signature_of result parameters)) storage in
    let ending : List Parameter → Checked UnitState = λ parameters. named parameters >>= (λ scope. function_items scope result parameters body >>= (λ items. last (found_as scope items))) in
    sym (bind_assoc bound (λ u. complete_function unit.scope storage result parts name body) last
    ∙ then_same bound (λ u. complete_function unit.scope storage result parts name body >>= last) (λ u. test >>= (λ v. found >>= ending))
    (λ u. bind_assoc test (λ v. function_with_result unit.scope storage result parts name body) last
    ∙ then_same test (λ v. function_with_result unit.scope storage result parts name body >>= last) (λ v. found >>= ending)
    (λ v. bind_assoc found (named_function unit.scope storage result name body) last
    ∙ then_same found (λ parameters. named_function unit.scope storage result name body parameters >>= last) ending
    (λ parameters. bind_assoc (named parameters) (λ scope. function_items scope result parameters body >>= (λ items. give (found_as scope items))) last
    ∙ then_same (named parameters) (λ scope. (function_items scope result parameters body >>= (λ items. give (found_as scope items))) >>= last) (λ scope. function_items scope result parameters body >>= (λ items. last (found_as scope items)))
    (λ scope. regrouped (function_items scope result parameters body) (found_as scope) last)))))

-- ---- a result that no definition may have

abbrev pub refusal_at : TypeKind → PlainToken → Checked FoundFunction
refusal_at kind name = refused kind name

-- ---- the number of a function in its unit plays no part in what is used

use_numbered : (n : ℕ) (name : List ℕ) (e : Entity) → is_use_of name (numbered n e) ≡ is_use_of name e
use_numbered n name (local_entity slot) = refl
use_numbered n name (local_of_function m slot) = refl
use_numbered n name (file_entity used) = refl
use_numbered n name (struct_entity m) = refl
use_numbered n name (member_entity m k) = refl
use_numbered n name own_entity = refl

uses_numbered : (n : ℕ) (bindings : List Binding) (name : List ℕ) → uses_in (map (numbered_binding n) bindings) name ≡ uses_in bindings name
uses_numbered n [] name = refl
uses_numbered n (b ∷ rest) name = ap (λ u. (b.in_expression && u) || uses_in (map (numbered_binding n) rest) name) (use_numbered n name b.entity) ∙ ap (λ u. (b.in_expression && is_use_of name b.entity) || u) (uses_numbered n rest name)

pub in_function_gives : {A : Type 0} (n : ℕ) (c : Checked A) (x : A) (before after : List ℕ → Bool) → Gives c x before after → Gives (in_function n c) x before after
in_function_gives n c x before after g = record {
  bindings = map (numbered_binding n) g.bindings;
  judged = ap (in_function n) g.judged;
  used = λ name. g.used name ∙ ap (λ u. before name || u) (sym (uses_numbered n g.bindings name));
}

pub in_function_refused : {A : Type 0} (n : ℕ) (c : Checked A) (error : ElabError) → RefusedAs c error → RefusedAs (in_function n c) error
in_function_refused n c (BadType kind at) r = record { token = r.token; judged = ap (in_function n) r.judged; stands = r.stands }
in_function_refused n c (Link kind name) r = absurd r
in_function_refused n c Memory r = tt

-- ---- steps of declarations

pub placed_is : (scope named : Scope) (storage : Storage) (f : Signature) (name : PlainToken) (initialiser : Option PlainTree) → with_name scope name (function f) storage ≡ give named → refused_initialiser initialiser name ≡ give tt → placed_function scope storage f name initialiser ≡ give named
placed_is scope named storage f name initialiser a b =
    next_of (with_name scope name (function f) storage) (λ s. refused_initialiser initialiser name >>= (λ u. give s)) named a
    ∙ next_of (refused_initialiser initialiser name) (λ u. give named) tt b

pub naming_refused : (scope : Scope) (storage : Storage) (f : Signature) (name : PlainToken) (initialiser : Option PlainTree) (error : ElabError) → RefusedAs (with_name scope name (function f) storage) error → RefusedAs (placed_function scope storage f name initialiser) error
naming_refused scope storage f name initialiser error r =
    refused_first (with_name scope name (function f) storage) (λ s. refused_initialiser initialiser name >>= (λ u. give s)) error r

pub initialiser_refused : (scope named : Scope) (storage : Storage) (f : Signature) (name : PlainToken) (initialiser : Option PlainTree) (error : ElabError) → with_name scope name (function f) storage ≡ give named → RefusedAs (refused_initialiser initialiser name) error → RefusedAs (placed_function scope storage f name initialiser) error
initialiser_refused scope named storage f name initialiser error a r =
    refused_next (with_name scope name (function f) storage) (λ s. refused_initialiser initialiser name >>= (λ u. give s)) named error a
    (refused_first (refused_initialiser initialiser name) (λ u. give named) error r)

declared_as_found : (scope : Scope) (storage : Storage) (ty result : PlainType) (parts : PlainTrees) (name : PlainToken) (initialiser : Option PlainTree) → result ≡ starred parts ty → function_declared scope storage ty parts name initialiser ≡ (declares (file_entity name.text) >>= (λ u. new_function false scope storage result parts name >>= function_behind scope storage result name initialiser))
declared_as_found scope storage ty result parts name initialiser is = ap (λ r. declares (file_entity name.text) >>= (λ u. new_function false scope storage r parts name >>= function_behind scope storage r name initialiser)) (sym is)

pub declared_gives : (scope behind : Scope) (storage : Storage) (ty result : PlainType) (parts : PlainTrees) (name : PlainToken) (initialiser : Option PlainTree) (parameters : List Parameter) (x : Scope) (before after : List ℕ → Bool) → result ≡ starred parts ty → Gives (new_function false scope storage result parts name) parameters before after → behind ≡ scope → placed_function behind storage (signature_of result parameters) name initialiser ≡ give x → Gives (function_declared scope storage ty parts name initialiser) x before after
declared_gives scope behind storage ty result parts name initialiser parameters x before after is g same placed =
    let found : Checked (List Parameter) = new_function false scope storage result parts name in
    let there : placed_function scope storage (signature_of result parameters) name initialiser ≡ give x = ap (λ s. placed_function s storage (signature_of result parameters) name initialiser) (sym same) ∙ placed in
    gives_of (function_declared scope storage ty parts name initialiser) (declares (file_entity name.text) >>= (λ u. found >>= function_behind scope storage result name initialiser)) x before after (declared_as_found scope storage ty result parts name initialiser is)
    (member_bound (file_entity name.text) (λ u. found >>= function_behind scope storage result name initialiser) x before after
    (gives_as found (function_behind scope storage result name initialiser) parameters x before after g there))

pub parameters_refused : (scope : Scope) (storage : Storage) (ty result : PlainType) (parts : PlainTrees) (name : PlainToken) (initialiser : Option PlainTree) (error : ElabError) → result ≡ starred parts ty → RefusedAs (new_function false scope storage result parts name) error → RefusedAs (function_declared scope storage ty parts name initialiser) error
parameters_refused scope storage ty result parts name initialiser error is r =
    let found : Checked (List Parameter) = new_function false scope storage result parts name in
    refused_of (function_declared scope storage ty parts name initialiser) (declares (file_entity name.text) >>= (λ u. found >>= function_behind scope storage result name initialiser)) error (declared_as_found scope storage ty result parts name initialiser is)
    (member_refused (file_entity name.text) (λ u. found >>= function_behind scope storage result name initialiser) error
    (refused_first found (function_behind scope storage result name initialiser) error r))

pub placing_refused : (scope behind : Scope) (storage : Storage) (ty result : PlainType) (parts : PlainTrees) (name : PlainToken) (initialiser : Option PlainTree) (parameters : List Parameter) (before after : List ℕ → Bool) (error : ElabError) → result ≡ starred parts ty → Gives (new_function false scope storage result parts name) parameters before after → behind ≡ scope → RefusedAs (placed_function behind storage (signature_of result parameters) name initialiser) error → RefusedAs (function_declared scope storage ty parts name initialiser) error
placing_refused scope behind storage ty result parts name initialiser parameters before after error is g same r =
    let found : Checked (List Parameter) = new_function false scope storage result parts name in
    let there : RefusedAs (placed_function scope storage (signature_of result parameters) name initialiser) error = refused_of (placed_function scope storage (signature_of result parameters) name initialiser) (placed_function behind storage (signature_of result parameters) name initialiser) error (ap (λ s. placed_function s storage (signature_of result parameters) name initialiser) (sym same)) r in
    refused_of (function_declared scope storage ty parts name initialiser) (declares (file_entity name.text) >>= (λ u. found >>= function_behind scope storage result name initialiser)) error (declared_as_found scope storage ty result parts name initialiser is)
    (member_refused (file_entity name.text) (λ u. found >>= function_behind scope storage result name initialiser) error
    (refused_behind found (function_behind scope storage result name initialiser) parameters before after error g there))

-- ---- steps of definitions

pub block_gives : (scope named behind : Scope) (storage : Storage) (result : PlainType) (name : PlainToken) (body : PlainTree) (parameters : List Parameter) (items : JudgedItems) (before after : List ℕ → Bool) → with_name scope name (function (signature_of result parameters)) storage ≡ give named → Gives (function_items named result parameters body) items before after → behind ≡ named → Gives (named_function scope storage result name body parameters) (found_as behind items) before after
block_gives scope named behind storage result name body parameters items before after a g same =
    let f : Signature = signature_of result parameters in
    gives_next (with_name scope name (function f) storage) (λ s. function_items s result parameters body >>= (λ i. give (found_as s i))) named (found_as behind items) before after a
    (gives_as (function_items named result parameters body) (λ i. give (found_as named i)) items (found_as behind items) before after g (ap (λ s. give (found_as s items)) (sym same)))

pub block_refused : (scope named : Scope) (storage : Storage) (result : PlainType) (name : PlainToken) (body : PlainTree) (parameters : List Parameter) (error : ElabError) → with_name scope name (function (signature_of result parameters)) storage ≡ give named → RefusedAs (function_items named result parameters body) error → RefusedAs (named_function scope storage result name body parameters) error
block_refused scope named storage result name body parameters error a r =
    let f : Signature = signature_of result parameters in
    refused_next (with_name scope name (function f) storage) (λ s. function_items s result parameters body >>= (λ i. give (found_as s i))) named error a
    (refused_first (function_items named result parameters body) (λ i. give (found_as named i)) error r)

pub with_result_gives : (scope behind : Scope) (storage : Storage) (result : PlainType) (parts : PlainTrees) (name : PlainToken) (body : PlainTree) (parameters : List Parameter) (x : FoundFunction) (before between after : List ℕ → Bool) → Gives (new_function true scope storage result parts name) parameters before between → behind ≡ scope → Gives (named_function behind storage result name body parameters) x between after → Gives (function_with_result scope storage result parts name body) x before after
with_result_gives scope behind storage result parts name body parameters x before between after g same found =
    gives_then (new_function true scope storage result parts name) (named_function scope storage result name body) parameters x before between after g
    (gives_of (named_function scope storage result name body parameters) (named_function behind storage result name body parameters) x between after (ap (λ s. named_function s storage result name body parameters) (sym same)) found)

pub with_result_refused : (scope behind : Scope) (storage : Storage) (result : PlainType) (parts : PlainTrees) (name : PlainToken) (body : PlainTree) (parameters : List Parameter) (before between : List ℕ → Bool) (error : ElabError) → Gives (new_function true scope storage result parts name) parameters before between → behind ≡ scope → RefusedAs (named_function behind storage result name body parameters) error → RefusedAs (function_with_result scope storage result parts name body) error
with_result_refused scope behind storage result parts name body parameters before between error g same r =
    refused_behind (new_function true scope storage result parts name) (named_function scope storage result name body) parameters before between error g
    (refused_of (named_function scope storage result name body parameters) (named_function behind storage result name body parameters) error (ap (λ s. named_function s storage result name body parameters) (sym same)) r)

found_by_result : (scope : Scope) (storage : Storage) (ty result : PlainType) (parts : PlainTrees) (name : PlainToken) (body : PlainTree) → result ≡ starred parts ty → function_found scope storage ty parts name body ≡ (declares (file_entity name.text) >>= (λ u. complete_function scope storage result parts name body))
found_by_result scope storage ty result parts name body is = ap (λ r. declares (file_entity name.text) >>= (λ u. complete_function scope storage r parts name body)) (sym is)

pub found_gives : (scope : Scope) (storage : Storage) (ty result : PlainType) (parts : PlainTrees) (name : PlainToken) (body : PlainTree) (x : FoundFunction) (before after : List ℕ → Bool) → result ≡ starred parts ty → Gives (complete_function scope storage result parts name body) x before after → Gives (function_found scope storage ty parts name body) x before after
found_gives scope storage ty result parts name body x before after is g =
    gives_of (function_found scope storage ty parts name body) (declares (file_entity name.text) >>= (λ u. complete_function scope storage result parts name body)) x before after (found_by_result scope storage ty result parts name body is)
    (member_bound (file_entity name.text) (λ u. complete_function scope storage result parts name body) x before after g)

pub found_refused : (scope : Scope) (storage : Storage) (ty result : PlainType) (parts : PlainTrees) (name : PlainToken) (body : PlainTree) (error : ElabError) → result ≡ starred parts ty → RefusedAs (complete_function scope storage result parts name body) error → RefusedAs (function_found scope storage ty parts name body) error
found_refused scope storage ty result parts name body error is r =
    refused_of (function_found scope storage ty parts name body) (declares (file_entity name.text) >>= (λ u. complete_function scope storage result parts name body)) error (found_by_result scope storage ty result parts name body is)
    (member_refused (file_entity name.text) (λ u. complete_function scope storage result parts name body) error r)

failed_test : (holds : Bool) (kind : TypeKind) (name : PlainToken) → holds ≡ false → unless_so holds kind name ≡ refused kind name
failed_test holds kind name is = rw is refl

pub result_refused : (scope : Scope) (storage : Storage) (result : PlainType) (parts : PlainTrees) (name : PlainToken) (body : PlainTree) (error : ElabError) → is_result scope result ≡ false → RefusedAs (refusal_at (kind_of_result scope storage result parts name) name) error → RefusedAs (complete_function scope storage result parts name body) error
result_refused scope storage result parts name body error is r =
    let kind : TypeKind = kind_of_result scope storage result parts name in
    refused_of (complete_function scope storage result parts name body) (refusal_at kind name) error (ap (λ (c : Checked (Unit {0})). c >>= (λ u. function_with_result scope storage result parts name body)) (failed_test (is_result scope result) kind name is)) r

pub kind_taken : (c : Checked Scope) (kind : TypeKind) (token : PlainToken) → c ≡ refused kind token → kind ≡ kind_or_incomplete c
kind_taken c kind token is = sym (ap kind_or_incomplete is)

pub kind_left : (c : Checked Scope) (scope : Scope) → c ≡ give scope → Incomplete ≡ kind_or_incomplete c
kind_left c scope is = sym (ap kind_or_incomplete is)

may_be : (scope : Scope) (storage : Storage) (result : PlainType) (name : PlainToken) (parameters : Checked (List Parameter)) → may_be_function storage result (scope.file_names name.text) ≡ true → result_kind scope storage result name parameters ≡ kind_by_parameters scope storage result name parameters
may_be scope storage result name parameters is = rw is refl

-- the parameters leave the scope as it is
pub kind_behind : (scope behind : Scope) (storage : Storage) (result : PlainType) (parts : PlainTrees) (name : PlainToken) (parameters : List Parameter) (before after : List ℕ → Bool) (kind : TypeKind) → may_be_function storage result (scope.file_names name.text) ≡ true → Gives (parameters_of true scope (behind_word t.OpenParenthesis parts) name) parameters before after → behind ≡ scope → kind ≡ kind_or_incomplete (with_name behind name (function (signature_of result parameters)) storage) → kind ≡ kind_of_result scope storage result parts name
kind_behind scope behind storage result parts name parameters before after kind new g same is =
    is ∙ ap (λ s. kind_or_incomplete (with_name s name (function (signature_of result parameters)) storage)) same ∙ sym (ap (kind_by_parameters scope storage result name) g.judged) ∙ sym (may_be scope storage result name (parameters_of true scope (behind_word t.OpenParenthesis parts) name) new)

pub kind_without : (scope : Scope) (storage : Storage) (result : PlainType) (parts : PlainTrees) (name : PlainToken) (kind : TypeKind) (token : PlainToken) → may_be_function storage result (scope.file_names name.text) ≡ true → parameters_of true scope (behind_word t.OpenParenthesis parts) name ≡ refused kind token → Incomplete ≡ kind_of_result scope storage result parts name
kind_without scope storage result parts name kind token new is =
    sym (ap (kind_by_parameters scope storage result name) is) ∙ sym (may_be scope storage result name (parameters_of true scope (behind_word t.OpenParenthesis parts) name) new)

-- the name is another's
pub kind_of_another : (scope : Scope) (storage : Storage) (result : PlainType) (parts : PlainTrees) (name : PlainToken) → may_be_function storage result (scope.file_names name.text) ≡ false → Redeclared ≡ kind_of_result scope storage result parts name
kind_of_another scope storage result parts name is = rw is refl

-- ---- functions in their unit

pub function_gives : (unit : UnitState) (storage : Storage) (ty : PlainType) (parts : PlainTrees) (name : PlainToken) (initialiser : Option PlainTree) (scope : Scope) (before after : List ℕ → Bool) → Gives (function_declared unit.scope storage ty parts name initialiser) scope before after → Gives (declared_function unit storage ty parts name initialiser) (with_scope unit scope) before after
function_gives unit storage ty parts name initialiser scope before after g =
    gives_of (declared_function unit storage ty parts name initialiser) (in_scope unit (function_declared unit.scope storage ty parts name initialiser)) (with_scope unit scope) before after (function_in_scope unit storage ty parts name initialiser) (in_scope_gives unit (function_declared unit.scope storage ty parts name initialiser) scope before after g)

pub function_refused : (unit : UnitState) (storage : Storage) (ty : PlainType) (parts : PlainTrees) (name : PlainToken) (initialiser : Option PlainTree) (error : ElabError) → RefusedAs (function_declared unit.scope storage ty parts name initialiser) error → RefusedAs (declared_function unit storage ty parts name initialiser) error
function_refused unit storage ty parts name initialiser error r =
    refused_of (declared_function unit storage ty parts name initialiser) (in_scope unit (function_declared unit.scope storage ty parts name initialiser)) error (function_in_scope unit storage ty parts name initialiser) (in_scope_refused unit (function_declared unit.scope storage ty parts name initialiser) error r)

pub definition_gives : (unit : UnitState) (storage : Storage) (ty : PlainType) (parts : PlainTrees) (name : PlainToken) (body : PlainTree) (f : FoundFunction) (x : UnitState) (before after : List ℕ → Bool) → Gives (function_found unit.scope storage ty parts name body) f before after → x ≡ as_defined unit name f → Gives (defined_function unit storage ty parts name body) x before after
definition_gives unit storage ty parts name body f x before after g is =
    gives_of (defined_function unit storage ty parts name body) (function_found unit.scope storage ty parts name body >>= defining unit name) x before after (function_by_steps unit storage ty parts name body)
    (gives_as (function_found unit.scope storage ty parts name body) (defining unit name) f x before after g (ap (λ u. give u) (sym is)))

pub definition_refused : (unit : UnitState) (storage : Storage) (ty : PlainType) (parts : PlainTrees) (name : PlainToken) (body : PlainTree) (error : ElabError) → RefusedAs (function_found unit.scope storage ty parts name body) error → RefusedAs (defined_function unit storage ty parts name body) error
definition_refused unit storage ty parts name body error r =
    refused_of (defined_function unit storage ty parts name body) (function_found unit.scope storage ty parts name body >>= defining unit name) error (function_by_steps unit storage ty parts name body)
    (refused_first (function_found unit.scope storage ty parts name body) (defining unit name) error r)
