-- What a unit declares and defines, whatever numbers its names have.
use Rattle.std.proofs.Common.{◌≡◌, ℕ, ◌+◌, Bool, true, false, List, [], ◌∷◌, ◌++◌, map, refl, sym, ap, subst, Option, Some, None, ◌∙◌, inl}
use Rattle.std.specs.Prelude.{not, ◌&&◌, ◌||◌, is_some, nat_le, length, filter, if◌then◌else◌, option_map, ◌==◌}
use Rattle.std.specs.List.{list_any}
use Rattle.std.specs.Str.{bytes_eq}
use Rattle.std.proofs.lemmas.List.{map-append}
use mathlib.Core.Path.{fun_ext}
use Rattle.c_text.specs.Token.{PlainToken}
use Rattle.c_types.specs.Types.{PlainType, void, structure}
use Rattle.c_tree.specs.declared.kinds.Kind.{Kind}
use Rattle.c_tree.specs.declared.kinds.Kind.TheVariants as k
use Rattle.c_tree.specs.declared.terminals.Terminal.TheVariants as t
use Rattle.c_tree.specs.Grammar.{is_word}
use Rattle.c_tree.specs.Trees.{PlainTree, PlainTrees, leaf, node, none, more}
use Rattle.core_meaning.specs.declared.refusals.TypeKind.{TypeKind}
use Rattle.core_meaning.specs.declared.refusals.TypeKind.TheVariants.{Redeclared}
use Rattle.core_meaning.specs.Checking.{Binding, Checked, fine, refused, broken, with_bindings, ◌>>=◌, give, unless_so, declares, file_entity, in_function, or_broken}
use Rattle.core_meaning.specs.Entities.{Table, no_entry, with_entry, Struct, Sort, variable, function, FileName, Numbers, Scope}
use Rattle.core_meaning.specs.Expressions.{has_terminal, arithmetic_words}
use Rattle.core_meaning.specs.Constancy.{initial}
use Rattle.core_meaning.specs.Declarations.{name_in, behind_word, Based, based, based_on_tag, with_struct, starred, object_type, Parameter, parameters_of, with_block}
use Rattle.core_meaning.specs.Statements.{JudgedItems}
use Rattle.core_meaning.specs.UnitNames.{Body, object_body, tentative_body, function_body, Defined, UnitState, Storage, by_static, by_extern, by_none, storage_of, is_function, linkage, with_name, declared_as, same_sort, same_bool, with_file_name, with_defined, with_scope, defined_object, constant_parts, judged_global, declared_object, signature_of, refused_initialiser, declared_function, declared_one, declared_from, is_result, result_kind, judged_body, with_parameters, parameter_types, count_functions, defined_function, Members, members_from, AllMembers, all_members, with_members_at, number_of_struct, is_defined_tag, defined_struct, judged_item, judged_file_items, unit_start, new_function, too_big_in, unless_too_big, judged_unit}
use Rattle.core_meaning.specs.Linking.{Unit, Units, uses_in, closed, judged_units, is_internal, is_tentative, defines, count_whole, count_defined, count_external, built_in_named, is_available, Linked, linked_in, all_linked, each_once, is_of_sort, is_wanted, listed}
use Rattle.core_meaning.specs.Judgings.{JudgingsListAlike}
use Rattle.core_meaning.proofs.NameOrder.{Among, among_left, among_right}
use Rattle.std.specs.Cmp.Lexicographic.{bytes_decides}

-- ---- outlines: names without types, definitions without values

abbrev bare_sort : Sort → Sort
bare_sort (variable ty) = variable void
bare_sort (function signature) = function (record { result = void; parameters = [] })

abbrev bare_name : FileName → FileName
bare_name n = record { sort = bare_sort n.sort; internal = n.internal }

abbrev bare_body : Body → Body
bare_body tentative_body = tentative_body
bare_body (object_body parts) = object_body []
bare_body (function_body slots items) = object_body []

abbrev bare_defined : Defined → Defined
bare_defined d = record { name = d.name; body = bare_body d.body }

abbrev bare_names : Table FileName → Table FileName
bare_names names name = option_map bare_name (names name)

abbrev outline : Scope → List Defined → Unit
outline scope defined = record {
  names = bare_names scope.file_names;
  order = scope.order;
  defined = map bare_defined defined;
  uses = λ name. false;
}

abbrev outline_of : UnitState → Unit
outline_of state = outline state.scope state.defined

abbrev plain_sort : Bool → Sort
plain_sort true = function (record { result = void; parameters = [] })
plain_sort false = variable void

-- what a declaration of a name adds
abbrev noted_from : Storage → Bool → List ℕ → Unit → Option FileName → Unit
noted_from storage of_function name o (Some visible) = o
noted_from storage of_function name o None = record o {
  names = with_entry o.names name (record { sort = plain_sort of_function; internal = linkage storage of_function None });
  order = o.order ++ name ∷ [];
}

abbrev noted : Storage → Bool → List ℕ → Unit → Unit
noted storage of_function name o = noted_from storage of_function name o (o.names name)

abbrev with_body : List ℕ → Body → Unit → Unit
with_body name body o = record o { defined = o.defined ++ record { name = name; body = body } ∷ [] }

abbrev object_noted : Storage → Option PlainTree → List ℕ → Unit → Unit
object_noted by_extern None name o = o
object_noted by_static None name o = with_body name tentative_body o
object_noted by_none None name o = with_body name tentative_body o
object_noted storage (Some initialiser) name o = with_body name (object_body []) o

abbrev for_name : Option PlainToken → (List ℕ → Unit → Unit) → Unit → Unit
for_name None change o = o
for_name (Some name) change o = change name.text o

abbrev declarator_noted : Storage → PlainTree → Option PlainTree → Unit → Unit
declarator_noted storage (node k.FunctionDeclarator parts) initialiser o = for_name (name_in parts) (noted storage true) o
declarator_noted storage (node kind parts) initialiser o =
    for_name (name_in parts) (λ name u. object_noted storage initialiser name (noted storage false name u)) o
declarator_noted storage (leaf token) initialiser o = o

abbrev declarators_noted : Storage → PlainTrees → Unit → Unit
declarators_noted storage none o = o
declarators_noted storage (more tree none) o = declarator_noted storage tree None o
declarators_noted storage (more tree (more sign none)) o = o
declarators_noted storage (more tree (more sign (more next none))) o =
    if is_word (t.Assign ∷ []) sign then declarator_noted storage tree (Some next) o
    else declarators_noted storage (more next none) (declarator_noted storage tree None o)
declarators_noted storage (more tree (more sign (more next (more comma others)))) o =
    if is_word (t.Assign ∷ []) sign then declarators_noted storage others (declarator_noted storage tree (Some next) o)
    else declarators_noted storage (more next (more comma others)) (declarator_noted storage tree None o)

abbrev item_noted : PlainTree → Unit → Unit
item_noted (node k.Declaration (more (node words_kind words) (more (node list_kind declarators) (more end none)))) o =
    declarators_noted (storage_of words) declarators o
item_noted (node k.Function (more (node words_kind words) (more (node list_kind (more (node kind parts) none)) (more body none)))) o =
    for_name (name_in parts) (λ name u. with_body name (object_body []) (noted (storage_of words) true name u)) o
item_noted tree o = o

abbrev items_noted : PlainTrees → Unit → Unit
items_noted none o = o
items_noted (more tree rest) o = items_noted rest (item_noted tree o)

abbrev unit_noted : PlainTree → Unit
unit_noted (node kind parts) = items_noted parts (record { names = no_entry; order = []; defined = []; uses = λ name. false })
unit_noted (leaf token) = record { names = no_entry; order = []; defined = []; uses = λ name. false }

-- ---- judgements that come out well

with_fine : {B : Type 0} (before : List Binding) (d : Checked B) (y : B) (bindings : List Binding) → with_bindings before d ≡ fine y bindings → (behind : List Binding) × (d ≡ fine y behind)
with_fine before (fine z behind) y bindings h =
    let same : z ≡ y = cc in
    (behind, ap (λ w. fine w behind) same)
with_fine before (refused kind token) y bindings h = absurd cc
with_fine before broken y bindings h = absurd cc

pub record Bound {A B : Type 0} (c : Checked A) (next : A → Checked B) (y : B) : Type 0 where
  pub value : A
  pub before : List Binding
  pub behind : List Binding
  pub first : c ≡ fine value before
  pub rest : next value ≡ fine y behind

pub bound : {A B : Type 0} (c : Checked A) (next : A → Checked B) (y : B) (bindings : List Binding) → (c >>= next) ≡ fine y bindings → Bound c next y
bound (fine x before) next y bindings h =
    let after = with_fine before (next x) y bindings h in
    record { value = x; before = before; behind = after.0; first = refl; rest = after.1 }
bound (refused kind token) next y bindings h = absurd cc
bound broken next y bindings h = absurd cc

pub given_is : {A : Type 0} (x y : A) (bindings : List Binding) → give x ≡ fine y bindings → x ≡ y
given_is x y bindings h = cc

-- ---- names

bare_if : (test : Bool) (n : FileName) (x : Option FileName) → option_map bare_name (if test then Some n else x) ≡ (if test then Some (bare_name n) else option_map bare_name x)
bare_if true n x = refl
bare_if false n x = refl

bare_with : (table : Table FileName) (name : List ℕ) (n : FileName) → bare_names (with_entry table name n) ≡ with_entry (bare_names table) name (bare_name n)
bare_with table name n = fun_ext (λ other. bare_if (bytes_eq other name) n (table other))

outlined : (names others : Table FileName) (order : List (List ℕ)) (defined : List Defined) → names ≡ others → (let make : Table FileName → Unit = λ table. record { names = table; order = order; defined = defined; uses = λ name. false } in make names ≡ make others)
outlined names others order defined h = ap (λ (table : Table FileName). record { names = table; order = order; defined = defined; uses = λ name. false }) h

noted_at : (scope : Scope) (defined : List Defined) (name : PlainToken) (sort : Sort) (storage : Storage) (visible : Option FileName) (after : Scope) (bindings : List Binding) → declared_as scope name sort (linkage storage (is_function sort) visible) visible ≡ fine after bindings → outline after defined ≡ noted_from storage (is_function sort) name.text (outline scope defined) (option_map bare_name visible)
noted_at scope defined name (variable ty) storage None after bindings h =
    let n : FileName = record { sort = variable ty; internal = linkage storage false None } in
    subst (λ (s : Scope). outline s defined ≡ noted_from storage false name.text (outline scope defined) None) (given_is (with_file_name scope name.text n) after bindings h)
    (outlined _ _ _ _ (bare_with scope.file_names name.text n))
noted_at scope defined name (function signature) storage None after bindings h =
    let n : FileName = record { sort = function signature; internal = linkage storage true None } in
    subst (λ (s : Scope). outline s defined ≡ noted_from storage true name.text (outline scope defined) None) (given_is (with_file_name scope name.text n) after bindings h)
    (outlined _ _ _ _ (bare_with scope.file_names name.text n))
noted_at scope defined name sort storage (Some visible) after bindings h =
    let rest = bound (unless_so (same_sort visible.sort sort && same_bool visible.internal (linkage storage (is_function sort) (Some visible))) Redeclared name) (λ same. give scope) after bindings h in
    ap (λ (s : Scope). outline s defined) (sym (given_is scope after rest.behind rest.rest))

noted_is : (scope : Scope) (defined : List Defined) (name : PlainToken) (sort : Sort) (storage : Storage) (after : Scope) (bindings : List Binding) → with_name scope name sort storage ≡ fine after bindings → outline after defined ≡ noted storage (is_function sort) name.text (outline scope defined)
noted_is scope defined name sort storage after bindings h = noted_at scope defined name sort storage (scope.file_names name.text) after bindings h

-- ---- types by words leave names as they are

record Kept (scope after : Scope) : Type 0 where
  names : after.file_names ≡ scope.file_names
  order : after.order ≡ scope.order

kept_both : (a b c : Scope) → Kept a b → Kept b c → Kept a c
kept_both a b c h l = record { names = l.names ∙ h.names; order = l.order ∙ h.order }

kept_outline : (scope after : Scope) (defined : List Defined) → Kept scope after → outline after defined ≡ outline scope defined
kept_outline scope after defined h =
    let make : Table FileName → List (List ℕ) → Unit = λ table order. record { names = bare_names table; order = order; defined = map bare_defined defined; uses = λ name. false } in
    ap (λ (table : Table FileName). make table after.order) h.names ∙ ap (λ (order : List (List ℕ)). make scope.file_names order) h.order

tag_keeps : (declaring : Bool) (scope : Scope) (tag : PlainToken) (n : Option ℕ) (base : Based) (bindings : List Binding) → based_on_tag declaring scope tag n ≡ fine base bindings → Kept scope base.scope
tag_keeps declaring scope tag (Some n) base bindings h =
    let b : Based = record { ty = structure n; scope = scope } in
    let same : b ≡ base = cc in
    record { names = ap (λ (x : Based). x.scope.file_names) (sym same); order = ap (λ (x : Based). x.scope.order) (sym same) }
tag_keeps false scope tag None base bindings h = absurd cc
tag_keeps true scope tag None base bindings h =
    let b : Based = record { ty = structure (length scope.structs); scope = with_struct scope tag.text } in
    let same : b ≡ base = cc in
    record { names = ap (λ (x : Based). x.scope.file_names) (sym same); order = ap (λ (x : Based). x.scope.order) (sym same) }

name_keeps : (declaring : Bool) (scope : Scope) (name : Option PlainToken) (base : Based) (bindings : List Binding) → (or_broken name >>= (λ tag. based_on_tag declaring scope tag (scope.tags tag.text))) ≡ fine base bindings → Kept scope base.scope
name_keeps declaring scope None base bindings h = absurd cc
name_keeps declaring scope (Some tag) base bindings h =
    let after = with_fine [] (based_on_tag declaring scope tag (scope.tags tag.text)) base bindings h in
    tag_keeps declaring scope tag (scope.tags tag.text) base after.0 after.1

words_keep : (by_tag declaring : Bool) (scope : Scope) (words : PlainTrees) (base : Based) (bindings : List Binding) → (if by_tag then or_broken (name_in words) >>= (λ tag. based_on_tag declaring scope tag (scope.tags tag.text)) else give (record { ty = arithmetic_words words; scope = scope })) ≡ fine base bindings → Kept scope base.scope
words_keep true declaring scope words base bindings h = name_keeps declaring scope (name_in words) base bindings h
words_keep false declaring scope words base bindings h =
    let same = given_is _ base bindings h in
    record { names = ap (λ (b : Based). b.scope.file_names) (sym same); order = ap (λ (b : Based). b.scope.order) (sym same) }

based_keeps : (declaring : Bool) (scope : Scope) (words : PlainTrees) (base : Based) (bindings : List Binding) → based declaring scope words ≡ fine base bindings → Kept scope base.scope
based_keeps declaring scope words base bindings h = words_keep (has_terminal t.Struct words) declaring scope words base bindings h

-- ---- declarators

-- the outline of a state with one more definition
defined_noted : (unit : UnitState) (name : List ℕ) (body : Body) (after : UnitState) (bindings : List Binding) → give (with_defined unit name body) ≡ fine after bindings → outline_of after ≡ with_body name (bare_body body) (outline_of unit)
defined_noted unit name body after bindings h =
    let d : Defined = record { name = name; body = body } in
    let make : List Defined → Unit = λ defined. record { names = bare_names unit.scope.file_names; order = unit.scope.order; defined = defined; uses = λ name. false } in
    ap (λ (state : UnitState). outline state.scope state.defined) (sym (given_is (with_defined unit name body) after bindings h)) ∙ ap make (map-append bare_defined unit.defined (d ∷ []))

body_noted : (globals : ℕ) (unit : UnitState) (storage : Storage) (ty : PlainType) (name : PlainToken) (initialiser : Option PlainTree) (after : UnitState) (bindings : List Binding) → defined_object globals unit storage ty name initialiser ≡ fine after bindings → outline_of after ≡ object_noted storage initialiser name.text (outline_of unit)
body_noted globals unit by_extern ty name None after bindings h = ap (λ (state : UnitState). outline state.scope state.defined) (sym (given_is unit after bindings h))
body_noted globals unit by_static ty name None after bindings h = defined_noted unit name.text tentative_body after bindings h
body_noted globals unit by_none ty name None after bindings h = defined_noted unit name.text tentative_body after bindings h
body_noted globals unit storage ty name (Some initialiser) after bindings h =
    let parts = bound (initial unit.scope (Some globals) ty [] initialiser name) (λ parts. or_broken (constant_parts globals parts) >>= (λ values. give (with_defined unit name.text (object_body values)))) after bindings h in
    let values = bound (or_broken (constant_parts globals parts.value)) (λ values. give (with_defined unit name.text (object_body values))) after parts.behind parts.rest in
    defined_noted unit name.text (object_body values.value) after values.behind values.rest

object_declared : (globals : ℕ) (unit : UnitState) (storage : Storage) (ty : PlainType) (kind : Kind) (parts : PlainTrees) (name : PlainToken) (initialiser : Option PlainTree) (rest : PlainTrees) (after : UnitState) (bindings : List Binding) → declared_object globals unit storage ty kind parts name initialiser rest ≡ fine after bindings → outline_of after ≡ object_noted storage initialiser name.text (noted storage false name.text (outline_of unit))
object_declared globals unit storage ty kind parts name initialiser rest after bindings h =
    let judged_as : PlainType → Scope → Checked UnitState = λ whole scope. judged_global storage (is_some initialiser) scope whole name rest >>= (λ judged. defined_object globals (with_scope unit scope) storage whole name initialiser) in
    let named_as : PlainType → Checked UnitState = λ whole. with_name unit.scope name (variable whole) storage >>= judged_as whole in
    let declaring = bound (declares (file_entity name.text)) (λ bound. object_type unit.scope ty kind parts name initialiser >>= named_as) after bindings h in
    let whole = bound (object_type unit.scope ty kind parts name initialiser) named_as after declaring.behind declaring.rest in
    let scope = bound (with_name unit.scope name (variable whole.value) storage) (judged_as whole.value) after whole.behind whole.rest in
    let judged = bound (judged_global storage (is_some initialiser) scope.value whole.value name rest) (λ judged. defined_object globals (with_scope unit scope.value) storage whole.value name initialiser) after scope.behind scope.rest in
    body_noted globals (with_scope unit scope.value) storage whole.value name initialiser after judged.behind judged.rest
    ∙ ap (object_noted storage initialiser name.text) (noted_is unit.scope unit.defined name (variable whole.value) storage scope.value scope.before scope.first)

function_declared : (unit : UnitState) (storage : Storage) (ty : PlainType) (parts : PlainTrees) (name : PlainToken) (initialiser : Option PlainTree) (after : UnitState) (bindings : List Binding) → declared_function unit storage ty parts name initialiser ≡ fine after bindings → outline_of after ≡ noted storage true name.text (outline_of unit)
function_declared unit storage ty parts name initialiser after bindings h =
    let given_as : Scope → Checked UnitState = λ scope. refused_initialiser initialiser name >>= (λ none_given. give (with_scope unit scope)) in
    let named_as : List Parameter → Checked UnitState = λ parameters. with_name unit.scope name (function (signature_of (starred parts ty) parameters)) storage >>= given_as in
    let taken : Checked (List Parameter) = new_function false unit.scope storage (starred parts ty) parts name in
    let declaring = bound (declares (file_entity name.text)) (λ bound. taken >>= named_as) after bindings h in
    let parameters = bound taken named_as after declaring.behind declaring.rest in
    let scope = bound (with_name unit.scope name (function (signature_of (starred parts ty) parameters.value)) storage) given_as after parameters.behind parameters.rest in
    let none_given = bound (refused_initialiser initialiser name) (λ none_given. give (with_scope unit scope.value)) after scope.behind scope.rest in
    ap (λ (state : UnitState). outline state.scope state.defined) (sym (given_is (with_scope unit scope.value) after none_given.behind none_given.rest))
    ∙ noted_is unit.scope unit.defined name (function (signature_of (starred parts ty) parameters.value)) storage scope.value scope.before scope.first

function_named : (unit : UnitState) (storage : Storage) (ty : PlainType) (parts : PlainTrees) (name : Option PlainToken) (initialiser : Option PlainTree) (after : UnitState) (bindings : List Binding) → (or_broken name >>= (λ name. declared_function unit storage ty parts name initialiser)) ≡ fine after bindings → outline_of after ≡ for_name name (noted storage true) (outline_of unit)
function_named unit storage ty parts None initialiser after bindings h = absurd cc
function_named unit storage ty parts (Some name) initialiser after bindings h =
    let rest = with_fine [] (declared_function unit storage ty parts name initialiser) after bindings h in
    function_declared unit storage ty parts name initialiser after rest.0 rest.1

object_named : (globals : ℕ) (unit : UnitState) (storage : Storage) (ty : PlainType) (kind : Kind) (parts : PlainTrees) (name : Option PlainToken) (initialiser : Option PlainTree) (rest : PlainTrees) (after : UnitState) (bindings : List Binding) → (or_broken name >>= (λ name. declared_object globals unit storage ty kind parts name initialiser rest)) ≡ fine after bindings → outline_of after ≡ for_name name (λ name u. object_noted storage initialiser name (noted storage false name u)) (outline_of unit)
object_named globals unit storage ty kind parts None initialiser rest after bindings h = absurd cc
object_named globals unit storage ty kind parts (Some name) initialiser rest after bindings h =
    let then_ = with_fine [] (declared_object globals unit storage ty kind parts name initialiser rest) after bindings h in
    object_declared globals unit storage ty kind parts name initialiser rest after then_.0 then_.1

declarator_is : (globals : ℕ) (unit : UnitState) (storage : Storage) (ty : PlainType) (tree : PlainTree) (initialiser : Option PlainTree) (rest : PlainTrees) (after : UnitState) (bindings : List Binding) → declared_one globals unit storage ty tree initialiser rest ≡ fine after bindings → outline_of after ≡ declarator_noted storage tree initialiser (outline_of unit)
declarator_is globals unit storage ty (node k.FunctionDeclarator parts) initialiser rest after bindings h = function_named unit storage ty parts (name_in parts) initialiser after bindings h
declarator_is globals unit storage ty (node kind parts) initialiser rest after bindings h = object_named globals unit storage ty kind parts (name_in parts) initialiser rest after bindings h
declarator_is globals unit storage ty (leaf token) initialiser rest after bindings h = absurd cc

-- the declarators of a list leave what its outline says
abbrev AreNoted : ℕ → Storage → PlainType → PlainTrees → PlainTrees → Type 0
AreNoted globals storage ty trees rest = (unit after : UnitState) (bindings : List Binding) → declared_from globals unit storage ty trees rest ≡ fine after bindings → outline_of after ≡ declarators_noted storage trees (outline_of unit)

one_and_others : (globals : ℕ) (unit : UnitState) (storage : Storage) (ty : PlainType) (tree : PlainTree) (initialiser : Option PlainTree) (others rest : PlainTrees) (after : UnitState) (bindings : List Binding) → AreNoted globals storage ty others rest → (declared_one globals unit storage ty tree initialiser rest >>= (λ first. declared_from globals first storage ty others rest)) ≡ fine after bindings → outline_of after ≡ declarators_noted storage others (declarator_noted storage tree initialiser (outline_of unit))
one_and_others globals unit storage ty tree initialiser others rest after bindings noted h =
    let first = bound (declared_one globals unit storage ty tree initialiser rest) (λ first. declared_from globals first storage ty others rest) after bindings h in
    noted first.value after first.behind first.rest
    ∙ ap (declarators_noted storage others) (declarator_is globals unit storage ty tree initialiser rest first.value first.before first.first)

last_declarators : (given : Bool) (globals : ℕ) (unit : UnitState) (storage : Storage) (ty : PlainType) (tree next : PlainTree) (rest : PlainTrees) (after : UnitState) (bindings : List Binding) → AreNoted globals storage ty (more next none) rest → (if given then declared_one globals unit storage ty tree (Some next) rest else (declared_one globals unit storage ty tree None rest >>= (λ first. declared_from globals first storage ty (more next none) rest))) ≡ fine after bindings → outline_of after ≡ (if given then declarator_noted storage tree (Some next) (outline_of unit) else declarators_noted storage (more next none) (declarator_noted storage tree None (outline_of unit)))
last_declarators true globals unit storage ty tree next rest after bindings noted h = declarator_is globals unit storage ty tree (Some next) rest after bindings h
last_declarators false globals unit storage ty tree next rest after bindings noted h = one_and_others globals unit storage ty tree None (more next none) rest after bindings noted h

first_declarators : (given : Bool) (globals : ℕ) (unit : UnitState) (storage : Storage) (ty : PlainType) (tree next comma : PlainTree) (others rest : PlainTrees) (after : UnitState) (bindings : List Binding) → AreNoted globals storage ty others rest → AreNoted globals storage ty (more next (more comma others)) rest → (if given then (declared_one globals unit storage ty tree (Some next) rest >>= (λ first. declared_from globals first storage ty others rest)) else (declared_one globals unit storage ty tree None rest >>= (λ first. declared_from globals first storage ty (more next (more comma others)) rest))) ≡ fine after bindings → outline_of after ≡ (if given then declarators_noted storage others (declarator_noted storage tree (Some next) (outline_of unit)) else declarators_noted storage (more next (more comma others)) (declarator_noted storage tree None (outline_of unit)))
first_declarators true globals unit storage ty tree next comma others rest after bindings noted all h = one_and_others globals unit storage ty tree (Some next) others rest after bindings noted h
first_declarators false globals unit storage ty tree next comma others rest after bindings noted all h = one_and_others globals unit storage ty tree None (more next (more comma others)) rest after bindings all h

declarators_are : (globals : ℕ) (storage : Storage) (ty : PlainType) (trees rest : PlainTrees) (unit after : UnitState) (bindings : List Binding) → declared_from globals unit storage ty trees rest ≡ fine after bindings → outline_of after ≡ declarators_noted storage trees (outline_of unit)
declarators_are globals storage ty none rest unit after bindings h = absurd cc
declarators_are globals storage ty (more tree none) rest unit after bindings h = declarator_is globals unit storage ty tree None rest after bindings h
declarators_are globals storage ty (more tree (more sign none)) rest unit after bindings h = absurd cc
declarators_are globals storage ty (more tree (more sign (more next none))) rest unit after bindings h =
    last_declarators (is_word (t.Assign ∷ []) sign) globals unit storage ty tree next rest after bindings (λ u a b g. declarators_are globals storage ty (more next none) rest u a b g) h
declarators_are globals storage ty (more tree (more sign (more next (more comma others)))) rest unit after bindings h =
    first_declarators (is_word (t.Assign ∷ []) sign) globals unit storage ty tree next comma others rest after bindings (λ u a b g. declarators_are globals storage ty others rest u a b g) (λ u a b g. declarators_are globals storage ty (more next (more comma others)) rest u a b g) h

-- ---- items

function_defined : (unit : UnitState) (storage : Storage) (ty : PlainType) (parts : PlainTrees) (name : PlainToken) (body : PlainTree) (after : UnitState) (bindings : List Binding) → defined_function unit storage ty parts name body ≡ fine after bindings → outline_of after ≡ with_body name.text (object_body []) (noted storage true name.text (outline_of unit))
function_defined unit storage ty parts name body after bindings h =
    let result : PlainType = starred parts ty in
    let taken : Checked (List Parameter) = new_function true unit.scope storage result parts name in
    let kind : TypeKind = result_kind unit.scope storage result name (parameters_of true unit.scope (behind_word t.OpenParenthesis parts) name) in
    let items_given : List Parameter → Scope → JudgedItems → Checked UnitState = λ parameters scope items. give (with_defined (with_scope unit scope) name.text (function_body items.slots items.core)) in
    let judged_as : List Parameter → Scope → Checked UnitState = λ parameters scope. judged_body (with_parameters (with_block scope) 0 parameters) result (parameter_types parameters) body >>= items_given parameters scope in
    let named_as : List Parameter → Checked UnitState = λ parameters. with_name unit.scope name (function (signature_of result parameters)) storage >>= judged_as parameters in
    let fitting : Checked (Prim.Unit {0}) = unless_so (is_result unit.scope result) kind name in
    let declaring = bound (declares (file_entity name.text)) (λ bound. fitting >>= (λ fits. taken >>= named_as)) after bindings h in
    let fits = bound fitting (λ fits. taken >>= named_as) after declaring.behind declaring.rest in
    let parameters = bound taken named_as after fits.behind fits.rest in
    let scope = bound (with_name unit.scope name (function (signature_of result parameters.value)) storage) (judged_as parameters.value) after parameters.behind parameters.rest in
    let items = bound (judged_body (with_parameters (with_block scope.value) 0 parameters.value) result (parameter_types parameters.value) body) (items_given parameters.value scope.value) after scope.behind scope.rest in
    defined_noted (with_scope unit scope.value) name.text (function_body items.value.slots items.value.core) after items.behind items.rest
    ∙ ap (with_body name.text (object_body [])) (noted_is unit.scope unit.defined name (function (signature_of result parameters.value)) storage scope.value scope.before scope.first)

members_keep : (number : ℕ) (trees : PlainTrees) (scope : Scope) (known : Members) (after : AllMembers) (bindings : List Binding) → all_members scope number known trees ≡ fine after bindings → Kept scope after.scope
members_keep number none scope known after bindings h =
    let all : AllMembers = record { scope = scope; known = known } in
    let same : all ≡ after = cc in
    record { names = ap (λ (x : AllMembers). x.scope.file_names) (sym same); order = ap (λ (x : AllMembers). x.scope.order) (sym same) }
members_keep number (more (node kind (more (node words_kind words) (more (node list_kind declarators) (more end none)))) rest) scope known after bindings h =
    let others_of : Based → Members → Checked AllMembers = λ base first. all_members base.scope number first rest in
    let first_of : Based → Checked AllMembers = λ base. members_from base.scope number known base.ty declarators >>= others_of base in
    let base = bound (based true scope words) first_of after bindings h in
    let first = bound (members_from base.value.scope number known base.value.ty declarators) (others_of base.value) after base.behind base.rest in
    kept_both scope base.value.scope after.scope (based_keeps true scope words base.value base.before base.first)
    (members_keep number rest base.value.scope first.value after first.behind first.rest)
members_keep number (more tree rest) scope known after bindings h = absurd cc

struct_keeps : (unit : UnitState) (words members : PlainTrees) (after : UnitState) (bindings : List Binding) → defined_struct unit words members ≡ fine after bindings → outline_of after ≡ outline_of unit
struct_keeps unit words members after bindings h =
    let given_as : Based → AllMembers → Checked UnitState = λ base all. give (with_scope unit (record all.scope { structs = with_members_at (number_of_struct base.ty) all.known all.scope.structs })) in
    let all_of : Based → Checked UnitState = λ base. all_members base.scope (number_of_struct base.ty) (record { members = []; numbers = no_entry; scalars = 0 }) members >>= given_as base in
    let new_of : PlainToken → Checked UnitState = λ tag. unless_so (not (is_defined_tag unit.scope (unit.scope.tags tag.text))) Redeclared tag >>= (λ new. based true unit.scope words >>= all_of) in
    let tag = bound (or_broken (name_in words)) new_of after bindings h in
    let new = bound (unless_so (not (is_defined_tag unit.scope (unit.scope.tags tag.value.text))) Redeclared tag.value) (λ new. based true unit.scope words >>= all_of) after tag.behind tag.rest in
    let base = bound (based true unit.scope words) all_of after new.behind new.rest in
    let all = bound (all_members base.value.scope (number_of_struct base.value.ty) (record { members = []; numbers = no_entry; scalars = 0 }) members) (given_as base.value) after base.behind base.rest in
    let keeps = kept_both unit.scope base.value.scope all.value.scope (based_keeps true unit.scope words base.value base.before base.first)
    (members_keep (number_of_struct base.value.ty) members base.value.scope (record { members = []; numbers = no_entry; scalars = 0 }) all.value all.before all.first) in
    ap (λ (state : UnitState). outline state.scope state.defined) (sym (given_is (with_scope unit (record all.value.scope { structs = with_members_at (number_of_struct base.value.ty) all.value.known all.value.scope.structs })) after all.behind all.rest))
    ∙ kept_outline unit.scope all.value.scope unit.defined keeps

in_function_fine : {A : Type 0} (n : ℕ) (c : Checked A) (x : A) (bindings : List Binding) → in_function n c ≡ fine x bindings → (own : List Binding) × (c ≡ fine x own)
in_function_fine n (fine y own) x bindings h =
    let same : y ≡ x = cc in
    (own, ap (λ z. fine z own) same)
in_function_fine n (refused kind token) x bindings h = absurd cc
in_function_fine n broken x bindings h = absurd cc

function_is : (unit : UnitState) (storage : Storage) (ty : PlainType) (parts : PlainTrees) (name : Option PlainToken) (body : PlainTree) (after : UnitState) (bindings : List Binding) → (or_broken name >>= (λ name. in_function (count_functions unit.defined) (defined_function unit storage ty parts name body))) ≡ fine after bindings → outline_of after ≡ for_name name (λ name u. with_body name (object_body []) (noted storage true name u)) (outline_of unit)
function_is unit storage ty parts None body after bindings h = absurd cc
function_is unit storage ty parts (Some name) body after bindings h =
    let all = with_fine [] (in_function (count_functions unit.defined) (defined_function unit storage ty parts name body)) after bindings h in
    let own = in_function_fine (count_functions unit.defined) (defined_function unit storage ty parts name body) after all.0 all.1 in
    function_defined unit storage ty parts name body after own.0 own.1

item_is : (globals : ℕ) (tree : PlainTree) (behind : PlainTrees) (unit after : UnitState) (bindings : List Binding) → judged_item globals unit tree behind ≡ fine after bindings → outline_of after ≡ item_noted tree (outline_of unit)
item_is globals (node k.StructDefinition (more (node tag_kind words) (more brace (more (node list_kind members) rest)))) behind unit after bindings h = struct_keeps unit words members after bindings h
item_is globals (node k.StructDeclaration (more (node tag_kind words) (more end none))) behind unit after bindings h =
    let base = bound (based true unit.scope words) (λ base. give (with_scope unit base.scope)) after bindings h in
    ap (λ (state : UnitState). outline state.scope state.defined) (sym (given_is (with_scope unit base.value.scope) after base.behind base.rest))
    ∙ kept_outline unit.scope base.value.scope unit.defined (based_keeps true unit.scope words base.value base.before base.first)
item_is globals (node k.Declaration (more (node words_kind words) (more (node list_kind declarators) (more end none)))) behind unit after bindings h =
    let base = bound (based true unit.scope words) (λ base. declared_from globals (with_scope unit base.scope) (storage_of words) base.ty declarators behind) after bindings h in
    declarators_are globals (storage_of words) base.value.ty declarators behind (with_scope unit base.value.scope) after base.behind base.rest
    ∙ ap (declarators_noted (storage_of words) declarators) (kept_outline unit.scope base.value.scope unit.defined (based_keeps true unit.scope words base.value base.before base.first))
item_is globals (node k.Function (more (node words_kind words) (more (node list_kind (more (node kind parts) none)) (more body none)))) behind unit after bindings h =
    let base = bound (based false unit.scope words) (λ base. or_broken (name_in parts) >>= (λ name. in_function (count_functions unit.defined) (defined_function unit (storage_of words) base.ty parts name body))) after bindings h in
    function_is unit (storage_of words) base.value.ty parts (name_in parts) body after base.behind base.rest
item_is globals tree behind unit after bindings h = absurd cc

items_are : (globals : ℕ) (trees : PlainTrees) (unit after : UnitState) (bindings : List Binding) → judged_file_items globals unit trees ≡ fine after bindings → outline_of after ≡ items_noted trees (outline_of unit)
items_are globals none unit after bindings h = ap (λ (state : UnitState). outline state.scope state.defined) (sym (given_is unit after bindings h))
items_are globals (more tree rest) unit after bindings h =
    let first = bound (judged_item globals unit tree rest) (λ first. judged_file_items globals first rest) after bindings h in
    items_are globals rest first.value after first.behind first.rest
    ∙ ap (items_noted rest) (item_is globals tree rest unit first.value first.before first.first)

unit_is : (globals : ℕ) (structs : List Struct) (numbers : Numbers) (tree : PlainTree) (after : UnitState) (bindings : List Binding) → judged_unit globals structs numbers tree ≡ fine after bindings → outline_of after ≡ unit_noted tree
unit_is globals structs numbers (node kind parts) after bindings h =
    let ended : UnitState → Checked UnitState = λ unit. unless_too_big (too_big_in unit.scope parts) >>= (λ small. give unit) in
    let items = bound (judged_file_items globals (unit_start structs numbers) parts) ended after bindings h in
    let small = bound (unless_too_big (too_big_in items.value.scope parts)) (λ small. give items.value) after items.behind items.rest in
    ap (λ (state : UnitState). outline state.scope state.defined) (sym (given_is items.value after small.behind small.rest))
    ∙ items_are globals parts (unit_start structs numbers) items.value items.before items.first
unit_is globals structs numbers (leaf token) after bindings h = absurd cc

-- ---- each name that is declared stands in the order of the names

abbrev Supported : Unit → Type 0
Supported o = (name : List ℕ) → is_some (o.names name) ≡ true → Among o.order name

entry_supported : (o : Unit) (name other : List ℕ) (n : FileName) (same : Bool) → bytes_eq other name ≡ same → Supported o → is_some (if same then Some n else o.names other) ≡ true → Among (o.order ++ name ∷ []) other
entry_supported o name other n true e h is = among_right o.order (name ∷ []) other (inl ((bytes_decides other name).0 e))
entry_supported o name other n false e h is = among_left o.order (name ∷ []) other (h other is)

from_supported : (storage : Storage) (of_function : Bool) (name : List ℕ) (o : Unit) (visible : Option FileName) → Supported o → Supported (noted_from storage of_function name o visible)
from_supported storage of_function name o (Some visible) h = h
from_supported storage of_function name o None h = λ other is. entry_supported o name other (record { sort = plain_sort of_function; internal = linkage storage of_function None }) (bytes_eq other name) refl h is

noted_supported : (storage : Storage) (of_function : Bool) (name : List ℕ) (o : Unit) → Supported o → Supported (noted storage of_function name o)
noted_supported storage of_function name o h = from_supported storage of_function name o (o.names name) h

object_supported : (storage : Storage) (initialiser : Option PlainTree) (name : List ℕ) (o : Unit) → Supported o → Supported (object_noted storage initialiser name o)
object_supported by_extern None name o h = h
object_supported by_static None name o h = h
object_supported by_none None name o h = h
object_supported storage (Some initialiser) name o h = h

name_supported : (name : Option PlainToken) (change : List ℕ → Unit → Unit) (o : Unit) → ((n : List ℕ) (u : Unit) → Supported u → Supported (change n u)) → Supported o → Supported (for_name name change o)
name_supported None change o keeps h = h
name_supported (Some name) change o keeps h = keeps name.text o h

declarator_supported : (storage : Storage) (tree : PlainTree) (initialiser : Option PlainTree) (o : Unit) → Supported o → Supported (declarator_noted storage tree initialiser o)
declarator_supported storage (node k.FunctionDeclarator parts) initialiser o h = name_supported (name_in parts) (noted storage true) o (λ n u g. noted_supported storage true n u g) h
declarator_supported storage (node kind parts) initialiser o h = name_supported (name_in parts) (λ name u. object_noted storage initialiser name (noted storage false name u)) o (λ n u g. object_supported storage initialiser n (noted storage false n u) (noted_supported storage false n u g)) h
declarator_supported storage (leaf token) initialiser o h = h

if_supported : (test : Bool) (a b : Unit) → Supported a → Supported b → Supported (if test then a else b)
if_supported true a b h g = h
if_supported false a b h g = g

declarators_supported : (storage : Storage) (trees : PlainTrees) (o : Unit) → Supported o → Supported (declarators_noted storage trees o)
declarators_supported storage none o h = h
declarators_supported storage (more tree none) o h = declarator_supported storage tree None o h
declarators_supported storage (more tree (more sign none)) o h = h
declarators_supported storage (more tree (more sign (more next none))) o h =
    if_supported (is_word (t.Assign ∷ []) sign) (declarator_noted storage tree (Some next) o) (declarators_noted storage (more next none) (declarator_noted storage tree None o))
    (declarator_supported storage tree (Some next) o h) (declarators_supported storage (more next none) (declarator_noted storage tree None o) (declarator_supported storage tree None o h))
declarators_supported storage (more tree (more sign (more next (more comma others)))) o h =
    if_supported (is_word (t.Assign ∷ []) sign) (declarators_noted storage others (declarator_noted storage tree (Some next) o)) (declarators_noted storage (more next (more comma others)) (declarator_noted storage tree None o))
    (declarators_supported storage others (declarator_noted storage tree (Some next) o) (declarator_supported storage tree (Some next) o h)) (declarators_supported storage (more next (more comma others)) (declarator_noted storage tree None o) (declarator_supported storage tree None o h))

item_supported : (tree : PlainTree) (o : Unit) → Supported o → Supported (item_noted tree o)
item_supported (node k.Declaration (more (node words_kind words) (more (node list_kind declarators) (more end none)))) o h = declarators_supported (storage_of words) declarators o h
item_supported (node k.Function (more (node words_kind words) (more (node list_kind (more (node kind parts) none)) (more body none)))) o h = name_supported (name_in parts) (λ name u. with_body name (object_body []) (noted (storage_of words) true name u)) o (λ n u g. noted_supported (storage_of words) true n u g) h
item_supported tree o h = h

items_supported : (trees : PlainTrees) (o : Unit) → Supported o → Supported (items_noted trees o)
items_supported none o h = h
items_supported (more tree rest) o h = items_supported rest (item_noted tree o) (item_supported tree o h)

unit_noted_supported : (tree : PlainTree) → Supported (unit_noted tree)
unit_noted_supported (node kind parts) = items_supported parts (record { names = no_entry; order = []; defined = []; uses = λ name. false }) (λ name is. absurd cc)
unit_noted_supported (leaf token) = λ name is. absurd cc

some_bare : (n : Option FileName) → is_some n ≡ true → is_some (option_map bare_name n) ≡ true
some_bare None is = absurd cc
some_bare (Some n) is = refl

pub unit_supported : (globals : ℕ) (structs : List Struct) (numbers : Numbers) (tree : PlainTree) (after : UnitState) (bindings : List Binding) → judged_unit globals structs numbers tree ≡ fine after bindings → (name : List ℕ) → is_some (after.scope.file_names name) ≡ true → Among after.scope.order name
unit_supported globals structs numbers tree after bindings h name is =
    let supported : Supported (outline_of after) = subst Supported (sym (unit_is globals structs numbers tree after bindings h)) (unit_noted_supported tree) in
    supported name (some_bare (after.scope.file_names name) is)

-- ---- units

abbrev bare : Unit → Unit
bare unit = record { names = bare_names unit.names; order = unit.order; defined = map bare_defined unit.defined; uses = λ name. false }

abbrev units_noted : List PlainTree → List Unit
units_noted [] = []
units_noted (tree ∷ rest) = unit_noted tree ∷ units_noted rest

-- units that were judged have the outlines of their trees
closed_is : (c : Checked UnitState) (tree : PlainTree) (after : Units) (bindings : List Binding) → ((state : UnitState) (own : List Binding) → c ≡ fine state own → outline_of state ≡ unit_noted tree) → closed c ≡ fine after bindings → map bare after.units ≡ unit_noted tree ∷ []
closed_is (fine state own) tree after bindings noted h =
    let unit : Unit = record { names = state.scope.file_names; order = state.scope.order; defined = state.defined; uses = uses_in own } in
    let units : Units = record { units = unit ∷ []; structs = state.scope.structs } in
    ap (λ (x : Units). map bare x.units) (sym (given_is units after bindings h)) ∙ ap (λ (x : Unit). x ∷ []) (noted state own refl)
closed_is (refused kind token) tree after bindings noted h = absurd cc
closed_is broken tree after bindings noted h = absurd cc

units_are : (numbers : ℕ → Numbers) (globals : ℕ) (trees : List PlainTree) (index : ℕ) (structs : List Struct) (after : Units) (bindings : List Binding) → judged_units numbers globals index structs trees ≡ fine after bindings → map bare after.units ≡ units_noted trees
units_are numbers globals [] index structs after bindings h = ap (λ (x : Units). map bare x.units) (sym (given_is (record { units = []; structs = structs }) after bindings h))
units_are numbers globals (tree ∷ rest) index structs after bindings h =
    let given_as : Units → Units → Checked Units = λ first others. give (record { units = first.units ++ others.units; structs = others.structs }) in
    let others_of : Units → Checked Units = λ first. judged_units numbers globals (index + 1) first.structs rest >>= given_as first in
    let first = bound (closed (judged_unit globals structs (numbers index) tree)) others_of after bindings h in
    let others = bound (judged_units numbers globals (index + 1) first.value.structs rest) (given_as first.value) after first.behind first.rest in
    let one : map bare first.value.units ≡ unit_noted tree ∷ [] = closed_is (judged_unit globals structs (numbers index) tree) tree first.value first.before (λ state own g. unit_is globals structs (numbers index) tree state own g) first.first in
    let more_ : map bare others.value.units ≡ units_noted rest = units_are numbers globals rest (index + 1) first.value.structs others.value others.before others.first in
    ap (λ (x : Units). map bare x.units) (sym (given_is (record { units = first.value.units ++ others.value.units; structs = others.value.structs }) after others.behind others.rest))
    ∙ map-append bare first.value.units others.value.units
    ∙ ap (λ l. l ++ map bare others.value.units) one
    ∙ ap (λ l. unit_noted tree ∷ l) more_

-- ---- what is listed shows in the outlines

internal_at : (n : Option FileName) → (elim (option_map bare_name n) as (λ x. Bool) [ None ↦ false | Some n ↦ n.internal ]) ≡ (elim n as (λ x. Bool) [ None ↦ false | Some n ↦ n.internal ])
internal_at None = refl
internal_at (Some n) = refl

bare_internal : (unit : Unit) (name : List ℕ) → is_internal (bare unit) name ≡ is_internal unit name
bare_internal unit name = internal_at (unit.names name)

bare_tentative : (body : Body) → is_tentative (bare_body body) ≡ is_tentative body
bare_tentative tentative_body = refl
bare_tentative (object_body parts) = refl
bare_tentative (function_body slots items) = refl

bare_whole : (defined : List Defined) (name : List ℕ) → count_whole (map bare_defined defined) name ≡ count_whole defined name
bare_whole [] name = refl
bare_whole (d ∷ rest) name =
    ap (λ (tentative : Bool). (if bytes_eq d.name name && not tentative then 1 else 0) + count_whole (map bare_defined rest) name) (bare_tentative d.body)
    ∙ ap (λ (n : ℕ). (if bytes_eq d.name name && not (is_tentative d.body) then 1 else 0) + n) (bare_whole rest name)

defines_at : (defined : List Defined) (name : List ℕ) → list_any (λ d. bytes_eq d.name name) (map bare_defined defined) ≡ list_any (λ d. bytes_eq d.name name) defined
defines_at [] name = refl
defines_at (d ∷ rest) name = ap (λ (found : Bool). bytes_eq d.name name || found) (defines_at rest name)

bare_count : (unit : Unit) (name : List ℕ) → count_defined (bare unit) name ≡ count_defined unit name
bare_count unit name =
    ap (λ (n : ℕ). if n == 0 && defines (bare unit) name then 1 else n) (bare_whole unit.defined name)
    ∙ ap (λ (found : Bool). if count_whole unit.defined name == 0 && found then 1 else count_whole unit.defined name) (defines_at unit.defined name)

bare_external : (units : List Unit) (name : List ℕ) → count_external (map bare units) name ≡ count_external units name
bare_external [] name = refl
bare_external (unit ∷ rest) name =
    ap (λ (internal : Bool). (if internal then 0 else count_defined (bare unit) name) + count_external (map bare rest) name) (bare_internal unit name)
    ∙ ap (λ (n : ℕ). (if is_internal unit name then 0 else n) + count_external (map bare rest) name) (bare_count unit name)
    ∙ ap (λ (n : ℕ). (if is_internal unit name then 0 else count_defined unit name) + n) (bare_external rest name)

bare_available : (units : List Unit) (unit : Unit) (name : List ℕ) → is_available (map bare units) (bare unit) name ≡ is_available units unit name
bare_available units unit name =
    ap (λ (internal : Bool). if internal then defines (bare unit) name else (nat_le 1 (count_external (map bare units) name) || is_some (built_in_named name))) (bare_internal unit name)
    ∙ ap (λ (found : Bool). if is_internal unit name then found else (nat_le 1 (count_external (map bare units) name) || is_some (built_in_named name))) (defines_at unit.defined name)
    ∙ ap (λ (n : ℕ). if is_internal unit name then defines unit name else (nat_le 1 n || is_some (built_in_named name))) (bare_external units name)

sort_at : (functions : Bool) (sort : Sort) (internal : Bool) → is_of_sort functions (Some (record { sort = bare_sort sort; internal = internal })) ≡ is_of_sort functions (Some (record { sort = sort; internal = internal }))
sort_at functions (variable ty) internal = refl
sort_at functions (function signature) internal = refl

bare_of_sort : (functions : Bool) (n : Option FileName) → is_of_sort functions (option_map bare_name n) ≡ is_of_sort functions n
bare_of_sort functions None = refl
bare_of_sort functions (Some n) = sort_at functions n.sort n.internal

bare_wanted : (units : List Unit) (functions : Bool) (unit : Unit) (name : List ℕ) → is_wanted (map bare units) functions (bare unit) name ≡ is_wanted units functions unit name
bare_wanted units functions unit name =
    ap (λ (of_sort : Bool). of_sort && is_available (map bare units) (bare unit) name) (bare_of_sort functions (unit.names name))
    ∙ ap (λ (available : Bool). is_of_sort functions (unit.names name) && available) (bare_available units unit name)

bare_linked_in : (index : ℕ) (unit : Unit) (name : List ℕ) → linked_in index (bare unit) name ≡ linked_in index unit name
bare_linked_in index unit name = ap (λ (internal : Bool). (let l : Linked = record { name = name; unit = if internal then Some index else None } in l)) (bare_internal unit name)

bare_linked : (all : List Unit) (functions : Bool) (index : ℕ) (units : List Unit) → all_linked (is_wanted (map bare all) functions) index (map bare units) ≡ all_linked (is_wanted all functions) index units
bare_linked all functions index [] = refl
bare_linked all functions index (unit ∷ rest) =
    let behind = all_linked (is_wanted (map bare all) functions) (index + 1) (map bare rest) in
    ap (λ (f : List ℕ → Linked). map f (filter (is_wanted (map bare all) functions (bare unit)) unit.order) ++ behind) (fun_ext (bare_linked_in index unit))
    ∙ ap (λ (wanted : List ℕ → Bool). map (linked_in index unit) (filter wanted unit.order) ++ behind) (fun_ext (bare_wanted all functions unit))
    ∙ ap (λ (l : List Linked). map (linked_in index unit) (filter (is_wanted all functions unit) unit.order) ++ l) (bare_linked all functions (index + 1) rest)

bare_listed : (units : List Unit) (functions : Bool) → listed (map bare units) functions ≡ listed units functions
bare_listed units functions = ap (each_once []) (bare_linked units functions 0 units)

pub judgings_list_alike : JudgingsListAlike
judgings_list_alike numbers others globals count trees a b bindings behind h g functions =
    let first : map bare a.units ≡ units_noted trees = units_are numbers globals trees 0 [] a bindings h in
    let second : map bare b.units ≡ units_noted trees = units_are others count trees 0 [] b behind g in
    sym (bare_listed a.units functions) ∙ ap (λ (units : List Unit). listed units functions) (first ∙ sym second) ∙ bare_listed b.units functions
