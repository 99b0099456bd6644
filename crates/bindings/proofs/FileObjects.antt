-- Declarations of objects and functions at file scope are read as they are judged.
use Rattle.std.proofs.Common.{◌≡◌, ℕ, ◌+◌, Bool, true, false, List, [], ◌∷◌, ◌++◌, refl, sym, ap, subst, ◌∙◌, length, arith}
use Rattle.std.specs.Prelude.{Option, Some, None, is_some, not, ◌&&◌, if◌then◌else◌}
use Rattle.std.proofs.lemmas.Bool.{false≢true}
use Rattle.std.proofs.lemmas.List.{append-nil}
use Rattle.c_text.specs.Token.{PlainToken}
use Rattle.c_types.specs.Types.{PlainType}
use Rattle.c_tree.specs.declared.kinds.Kind.{Kind}
use Rattle.c_tree.specs.declared.kinds.Kind.TheVariants as k
use Rattle.c_tree.specs.declared.terminals.Terminal.TheVariants as t
use Rattle.c_tree.specs.Trees.{PlainTree, PlainTrees, leaf, none, more}
use Rattle.c_tree.specs.Grammar.{initialiser, declarator, parameters, Role, Slot, word, optional, is_word}
use Rattle.core_meaning.specs.Checking.{local_entity, file_entity, Checked, ◌>>=◌, give, unless_so, or_broken, declares}
use Rattle.core_meaning.specs.Entities.{Table, variable, function, Scope, no_entry}
use Rattle.core_meaning.specs.Typing.{is_complete}
use Rattle.core_meaning.specs.Constancy.{initial}
use Rattle.core_meaning.specs.Declarations.{name_in, behind_word, starred, object_type, judged_object, Parameter, parameters_of}
use Rattle.core_meaning.specs.UnitNames.{Body, object_body, tentative_body, Defined, UnitState, Storage, by_static, by_extern, by_none, with_name, may_be_incomplete, judged_global, constant_parts, with_defined, with_scope, defined_object, declared_object, signature_of, parameter_types, refused_initialiser, new_function, may_be_function, declared_function, declared_one, declared_from, is_function_body, count_functions}
use Rattle.core_meaning.specs.declared.refusals.TypeKind.TheVariants.{Redeclared}
use Rattle.tree_derivations.specs.Derivations.{Derivation, single, made_of, a_row, Declared, last_plain, last_initialised, next_plain, next_initialised}
use Rattle.bindings.specs.Visible.{ordinary, Entry, bound_to, Occurrence, Reading, passed, occurs, with_file_entry, leave}
use Rattle.bindings.specs.Bindings.{is_name, at_file, declaring, read_expression, read_declarator, read_declared, read_declarators, read_suffix, read_closed_suffix}
use Rattle.bindings.specs.Judged.{Identified}
use Rattle.bindings.proofs.Follows.{Adds, adds_none, adds_both, Follows, follows_both, follows_as, follows_growing, quietly_before, Yields, yields, yields_if}
use Rattle.bindings.proofs.Spellings.{Holds, AllHold, no_name}
use Rattle.bindings.proofs.Types.{Made, AllMade}
use Rattle.bindings.proofs.Operators.{Anything, yields_unless, yields_some}
use Rattle.bindings.proofs.Related.{Room, numbering, Related}
use Rattle.bindings.proofs.Growing.{local_slots}
use Rattle.bindings.proofs.Scopes.{related_left}
use Rattle.bindings.proofs.Expressions.{read_leaf, skip, After}
use Rattle.bindings.proofs.Initialisers.{initial_read, constants_known, Parts}
use Rattle.bindings.proofs.Declarators.{Named, named_form, ObjectForm, plain_form, array_form, object_quiet, made_pointers}
use Rattle.bindings.proofs.Additions.{suffix_adds, closed_suffix_adds, declarators_add}
use Rattle.bindings.proofs.Locals.{Valued, no_value, a_value, valued_adds, value_declared, comma_is, is_filled, declared_filled}
use Rattle.bindings.proofs.Parameters.{tables, ParametersThen, AllTyped, parameters_of_read}
use Rattle.bindings.proofs.FileNames.{pending, closed, related_slots, NameKnown, name_declared, NameThen, named_then}

abbrev pub FileRel : Scope → Reading → List Identified → Type 0
FileRel scope r h = Related local_entity (closed false) scope r.file r.blocks h

-- what a declaration at file scope leaves
pub record UnitThen (unit : UnitState) (file blocks : List Entry) (x : UnitState) (h : List Identified) : Type 0 where
  pub rel : Related local_entity (closed false) x.scope file blocks h
  pub outside : x.scope.blocks ≡ unit.scope.blocks
  pub count : count_functions x.defined ≡ count_functions unit.defined
  pub same_tags : x.scope.tags ≡ unit.scope.tags

pub count_more : (defined : List Defined) (name : List ℕ) (body : Body) → count_functions (defined ++ record { name = name; body = body } ∷ []) ≡ count_functions defined + (if is_function_body body then 1 else 0)
count_more [] name body = omega arith
count_more (d ∷ rest) name body = let e = count_more rest name body in omega (arith, e)

count_object : (unit : UnitState) (name : List ℕ) (body : Body) → is_function_body body ≡ false → count_functions (with_defined unit name body).defined ≡ count_functions unit.defined
count_object unit name body e = count_more unit.defined name body ∙ ap (λ b. count_functions unit.defined + (if b then 1 else 0)) e ∙ (let n : count_functions unit.defined + 0 ≡ count_functions unit.defined = omega arith in n)

pub unit_given : (unit x : UnitState) (r : Reading) (h : List Identified) → UnitThen unit r.file r.blocks x h → Follows (numbering local_entity) h r.found r.found (UnitThen unit r.file r.blocks) (give x)
unit_given unit x r h v = record { os = []; is = sym (append-nil r.found); alike = tt; plain = refl; used = refl; after = v }

global_quiet : (storage : Storage) (initialised : Bool) (scope : Scope) (ty : PlainType) (name : PlainToken) (rest : PlainTrees) → Yields Anything (judged_global storage initialised scope ty name rest)
global_quiet storage initialised scope ty name rest =
    yields_if Anything (may_be_incomplete storage initialised scope.structs ty rest && not (is_complete scope.structs ty)) (give tt) (judged_object scope ty name)
    (λ e. yields {A = Unit {0}} Anything tt tt) (λ e. object_quiet scope ty name)

initialised_read :
    (globals : ℕ) (unit : UnitState) (ty : PlainType) (name sign : PlainToken) {tree : PlainTree} → is_name sign ≡ false → Derivation initialiser tree → Holds tree → Made unit.scope.tags ty
    → (s : Reading) (h : List Identified) → FileRel unit.scope s h
    → Follows (numbering local_entity) h s.found (read_expression tree (read_leaf sign s)).found (UnitThen unit (read_expression tree (read_leaf sign s)).file (read_expression tree (read_leaf sign s)).blocks)
    (initial unit.scope (Some globals) ty [] tree name >>= (λ parts. or_broken (constant_parts globals parts) >>= (λ values. give (with_defined unit name.text (object_body values)))))
initialised_read globals unit ty name sign {tree = tree} e d holds made s h rel =
    let all : Checked UnitState = initial unit.scope (Some globals) ty [] tree name >>= (λ parts. or_broken (constant_parts globals parts) >>= (λ values. give (with_defined unit name.text (object_body values)))) in
    let last : Reading = read_expression tree (passed s) in
    skip sign s e (λ u. Follows (numbering local_entity) h s.found (read_expression tree u).found (UnitThen unit (read_expression tree u).file (read_expression tree u).blocks) all)
    (follows_both (numbering local_entity) h s.found last.found last.found (After local_entity (closed false) unit.scope (Parts local_entity (closed false) unit.scope (Some globals)) last) (UnitThen unit last.file last.blocks)
    (initial unit.scope (Some globals) ty [] tree name) (λ parts. or_broken (constant_parts globals parts) >>= (λ values. give (with_defined unit name.text (object_body values))))
    (initial_read local_entity (closed false) unit.scope (Some globals) d holds ty [] name (passed s) h rel)
    (λ parts g v. quietly_before (numbering local_entity) g last.found last.found (λ values. constant_parts globals parts ≡ Some values) (UnitThen unit last.file last.blocks) (or_broken (constant_parts globals parts)) (λ values. give (with_defined unit name.text (object_body values)))
    (yields_some (constant_parts globals parts) (constants_known globals parts v.0))
    (λ values is. unit_given unit (with_defined unit name.text (object_body values)) last g (record { rel = v.1; outside = refl; count = count_object unit name.text (object_body values) refl; same_tags = refl })))
    (adds_none last.found))

defined_read :
    (globals : ℕ) (unit : UnitState) (storage : Storage) (ty : PlainType) (name : PlainToken) {v : Option PlainTree} {after : Reading → Reading} → Valued v after → Made unit.scope.tags ty
    → (s : Reading) (h : List Identified) → FileRel unit.scope s h
    → Follows (numbering local_entity) h s.found (after s).found (UnitThen unit (after s).file (after s).blocks) (defined_object globals unit storage ty name v)
defined_read globals unit by_extern ty name no_value made s h rel = unit_given unit unit s h (record { rel = rel; outside = refl; count = refl; same_tags = refl })
defined_read globals unit by_static ty name no_value made s h rel = unit_given unit (with_defined unit name.text tentative_body) s h (record { rel = rel; outside = refl; count = count_object unit name.text tentative_body refl; same_tags = refl })
defined_read globals unit by_none ty name no_value made s h rel = unit_given unit (with_defined unit name.text tentative_body) s h (record { rel = rel; outside = refl; count = count_object unit name.text tentative_body refl; same_tags = refl })
defined_read globals unit by_extern ty name (a_value sign e d holds) made s h rel = initialised_read globals unit ty name sign e d holds made s h rel
defined_read globals unit by_static ty name (a_value sign e d holds) made s h rel = initialised_read globals unit ty name sign e d holds made s h rel
defined_read globals unit by_none ty name (a_value sign e d holds) made s h rel = initialised_read globals unit ty name sign e d holds made s h rel

-- a name is visible: for which the tables of blocks are as they were
pub whole_scope : (scope x : Scope) (file blocks : List Entry) (h : List Identified) → NameThen local_entity (closed false) scope scope.blocks file blocks h x → Related local_entity (closed false) x file blocks h
whole_scope scope x file blocks h v = subst (λ b. Related local_entity (closed false) (record x { blocks = b }) file blocks h) (sym v.outside) v.rel

pub object_read :
    (globals : ℕ) (unit : UnitState) (storage : Storage) (ty : PlainType) (kind : Kind) (parts : PlainTrees) (form : ObjectForm kind parts) {v : Option PlainTree} {after : Reading → Reading}
    → Valued v after → AllHold parts → Made unit.scope.tags ty → (behind : PlainTrees) (r : Reading) (h : List Identified) → FileRel unit.scope r h
    → Follows (numbering local_entity) h r.found (after (read_declarator read_closed_suffix at_file parts r)).found
    (UnitThen unit (after (read_declarator read_closed_suffix at_file parts r)).file (after (read_declarator read_closed_suffix at_file parts r)).blocks)
    (declared_object globals unit storage ty kind parts form.named.name v behind)
object_read globals unit storage ty kind parts form {v = v} {after = after} value holds made behind r h rel =
    let n = form.named in
    let name : PlainToken = n.name in
    let read = n.reads read_closed_suffix at_file r (λ s. FileRel unit.scope s h × (s.found ≡ r.found)) (λ s p. p) (rel, refl) in
    let s : Reading = read.s in
    let by : ℕ = declaring at_file name s in
    let r1 : Reading = occurs name (bound_to by) s in
    let r2 : Reading = leave r1 (read_suffix n.rest r1) in
    let r3 : Reading = with_file_entry ordinary name.text by r2 in
    let last : Reading = after r3 in
    let V : UnitState → List Identified → Type 0 = UnitThen unit last.file last.blocks in
    let rest_of : PlainType → Checked UnitState = λ whole. with_name unit.scope name (variable whole) storage >>= (λ scope. judged_global storage (is_some v) scope whole name behind >>= (λ judged. defined_object globals (with_scope unit scope) storage whole name v)) in
    subst (λ u. Follows (numbering local_entity) h r.found (after u).found (UnitThen unit (after u).file (after u).blocks) (declared_object globals unit storage ty kind parts name v behind)) (sym read.is)
    (subst (λ f. Follows (numbering local_entity) h f last.found V (declared_object globals unit storage ty kind parts name v behind)) read.still.1
    (follows_both (numbering local_entity) h s.found r1.found last.found (λ x g. NameKnown local_entity false unit.scope name.text by s.file s.blocks g) V
    (declares (file_entity name.text)) (λ bound. object_type unit.scope ty kind parts name v >>= rest_of)
    (name_declared local_entity local_slots false unit.scope name s h read.still.0 (unit.scope.file_names name.text) refl)
    (λ x g known. follows_growing (numbering local_entity) g r1.found r2.found last.found (After local_entity (pending false name.text) unit.scope (λ t. Made unit.scope.tags t) r2) V
    (object_type unit.scope ty kind parts name v) rest_of
    (form.sizes local_entity (pending false name.text) unit.scope ty name v (n.holds holds).1 made r1 g known.rel)
    (λ whole g2 w grows. quietly_before (numbering local_entity) g2 r2.found last.found (NameThen local_entity (closed false) unit.scope unit.scope.blocks r3.file r3.blocks g2) V
    (with_name unit.scope name (variable whole) storage) (λ scope. judged_global storage (is_some v) scope whole name behind >>= (λ judged. defined_object globals (with_scope unit scope) storage whole name v))
    (subst (λ z. Yields (NameThen local_entity (closed false) unit.scope unit.scope.blocks (record { space = ordinary; name = name.text; declared_by = z } ∷ r2.file) r2.blocks g2) (with_name unit.scope name (variable whole) storage)) known.is
    (named_then local_entity (pending false name.text) (closed false) unit.scope unit.scope.blocks name r2.file r2.blocks g2 known.i w.1 refl refl (grows (file_entity name.text) known.i known.first) ((n.holds holds).0.identifier n.word) (variable whole) w.0 storage))
    (λ scope nt. quietly_before (numbering local_entity) g2 r2.found last.found Anything V (judged_global storage (is_some v) scope whole name behind) (λ judged. defined_object globals (with_scope unit scope) storage whole name v)
    (global_quiet storage (is_some v) scope whole name behind)
    (λ y any. follows_as (numbering local_entity) g2 r3.found last.found (UnitThen (with_scope unit scope) last.file last.blocks) V (defined_object globals (with_scope unit scope) storage whole name v)
    (defined_read globals (with_scope unit scope) storage whole name value (subst (λ z. Made z whole) (sym nt.same_tags) w.0) r3 g2 (whole_scope unit.scope scope r3.file r3.blocks g2 nt))
    (λ u k1 z. record { rel = z.rel; outside = z.outside ∙ nt.outside; count = z.count; same_tags = z.same_tags ∙ nt.same_tags }))))
    (valued_adds value r3))
    (adds_both (suffix_adds n.rest r1) (valued_adds value r3))))

-- ---- functions

abbrev pub parenthesized : List Slot
parenthesized = word (t.OpenParenthesis ∷ []) ∷ optional parameters ∷ word (t.CloseParenthesis ∷ []) ∷ []

pub all_typed : (tags : Table ℕ) (x : List Parameter) → AllTyped local_entity local_slots (closed false) tags x → AllMade tags (parameter_types x)
all_typed tags [] h = tt
all_typed tags (p ∷ x) h = (h.0, all_typed tags x h.1)

initialiser_refused :
    (unit x : UnitState) (name : PlainToken) {v : Option PlainTree} {after : Reading → Reading} → Valued v after → (r : Reading) (h : List Identified) → UnitThen unit r.file r.blocks x h
    → Follows (numbering local_entity) h r.found (after r).found (UnitThen unit (after r).file (after r).blocks) (refused_initialiser v name >>= (λ none_given. give x))
initialiser_refused unit x name no_value r h v = unit_given unit x r h v
initialiser_refused unit x name (a_value sign e d holds) r h v = tt

pub function_declared :
    (unit : UnitState) (storage : Storage) (ty : PlainType) (parts : PlainTrees) (n : Named parenthesized parts) {v : Option PlainTree} {after : Reading → Reading}
    → Valued v after → AllHold parts → Made unit.scope.tags ty → (r : Reading) (h : List Identified) → FileRel unit.scope r h
    → Follows (numbering local_entity) h r.found (after (read_declarator read_closed_suffix at_file parts r)).found
    (UnitThen unit (after (read_declarator read_closed_suffix at_file parts r)).file (after (read_declarator read_closed_suffix at_file parts r)).blocks)
    (declared_function unit storage ty parts n.name v)
function_declared unit storage ty parts n {v = v} {after = after} value holds made r h rel =
    let name : PlainToken = n.name in
    let read = n.reads read_closed_suffix at_file r (λ s. FileRel unit.scope s h × (s.found ≡ r.found)) (λ s p. p) (rel, refl) in
    let s : Reading = read.s in
    let by : ℕ = declaring at_file name s in
    let r1 : Reading = occurs name (bound_to by) s in
    let inside : Reading = read_suffix n.rest r1 in
    let r2 : Reading = leave r1 inside in
    let r3 : Reading = with_file_entry ordinary name.text by r2 in
    let last : Reading = after r3 in
    let V : UnitState → List Identified → Type 0 = UnitThen unit last.file last.blocks in
    let base : Room = pending false name.text in
    let result : PlainType = starred parts ty in
    let rest_of : List Parameter → Checked UnitState = λ ps. with_name unit.scope name (function (signature_of result ps)) storage >>= (λ scope. refused_initialiser v name >>= (λ none_given. give (with_scope unit scope))) in
    subst (λ u. Follows (numbering local_entity) h r.found (after u).found (UnitThen unit (after u).file (after u).blocks) (declared_function unit storage ty parts name v)) (sym read.is)
    (subst (λ f. Follows (numbering local_entity) h f last.found V (declared_function unit storage ty parts name v)) read.still.1
    (follows_both (numbering local_entity) h s.found r1.found last.found (λ x g. NameKnown local_entity false unit.scope name.text by s.file s.blocks g) V
    (declares (file_entity name.text)) (λ bound. new_function false unit.scope storage result parts name >>= rest_of)
    (name_declared local_entity local_slots false unit.scope name s h read.still.0 (unit.scope.file_names name.text) refl)
    (λ x g known. follows_growing (numbering local_entity) g r1.found inside.found last.found (λ x g2. ParametersThen local_entity local_slots base unit.scope inside.file inside.blocks x g2) V
    (new_function false unit.scope storage result parts name) rest_of
    (quietly_before (numbering local_entity) g r1.found inside.found (λ y. may_be_function storage result (unit.scope.file_names name.text) ≡ true) (λ x g2. ParametersThen local_entity local_slots base unit.scope inside.file inside.blocks x g2)
    (unless_so (may_be_function storage result (unit.scope.file_names name.text)) Redeclared name) (λ new. parameters_of false unit.scope (behind_word t.OpenParenthesis parts) name)
    (yields_unless (may_be_function storage result (unit.scope.file_names name.text)) Redeclared name tt)
    (λ y new. subst (λ z. Follows (numbering local_entity) g r1.found inside.found (λ x g2. ParametersThen local_entity local_slots base unit.scope inside.file inside.blocks x g2) (parameters_of false unit.scope z name)) (sym (n.behind t.OpenParenthesis refl refl))
    (parameters_of_read local_entity local_slots base false refl n.row (n.holds holds).1 unit.scope name r1 g known.rel)))
    (λ ps g2 w grows.
    let outside_rel : Related local_entity (record base { slots = length ps }) unit.scope inside.file r1.blocks g2 =
    related_left local_entity base (record base { slots = length ps }) unit.scope (tables local_entity local_slots base (no_entry ∷ unit.scope.blocks) 0 ps) r1.file inside.file r1.blocks inside.blocks g g2 known.rel refl grows w.rel in
    quietly_before (numbering local_entity) g2 r2.found last.found (NameThen local_entity (closed false) unit.scope unit.scope.blocks r3.file r3.blocks g2) V
    (with_name unit.scope name (function (signature_of result ps)) storage) (λ scope. refused_initialiser v name >>= (λ none_given. give (with_scope unit scope)))
    (subst (λ z. Yields (NameThen local_entity (closed false) unit.scope unit.scope.blocks (record { space = ordinary; name = name.text; declared_by = z } ∷ r2.file) r2.blocks g2) (with_name unit.scope name (function (signature_of result ps)) storage)) known.is
    (named_then local_entity base (closed false) unit.scope unit.scope.blocks name r2.file r2.blocks g2 known.i (related_slots local_entity (record base { slots = length ps }) 0 unit.scope inside.file r1.blocks g2 refl outside_rel) refl refl
    (grows (file_entity name.text) known.i known.first) ((n.holds holds).0.identifier n.word) (function (signature_of result ps)) (made_pointers unit.scope.tags (Rattle.c_tree.specs.Heights.count_stars parts) ty made, all_typed unit.scope.tags ps w.made) storage))
    (λ scope nt. initialiser_refused unit (with_scope unit scope) name value r3 g2 (record { rel = whole_scope unit.scope scope r3.file r3.blocks g2 nt; outside = nt.outside; count = refl; same_tags = nt.same_tags })))
    (valued_adds value r3))
    (adds_both (suffix_adds n.rest r1) (valued_adds value r3))))

-- ---- declarators and their lists

named_first :
    {A : Type 0} (h : List Identified) (a b : List Occurrence) (W : A → List Identified → Type 0) (parts : PlainTrees) (name : PlainToken) (next : PlainToken → Checked A) → name_in parts ≡ Some name
    → Follows (numbering local_entity) h a b W (next name) → Follows (numbering local_entity) h a b W (or_broken (name_in parts) >>= next)
named_first h a b W parts name next is f =
    subst (λ x. Follows (numbering local_entity) h a b W (or_broken x >>= next)) (sym is)
    (quietly_before (numbering local_entity) h a b (λ x. name ≡ x) W (give name) next (yields (λ x. name ≡ x) name refl) (λ x e. subst (λ x. Follows (numbering local_entity) h a b W (next x)) e f))

one_file_read :
    {role : Role} {tree : PlainTree} → Derivation (declarator role) tree → Holds tree → (globals : ℕ) (unit : UnitState) (storage : Storage) (ty : PlainType) {v : Option PlainTree} {after : Reading → Reading} → Valued v after
    → Made unit.scope.tags ty → (behind : PlainTrees) (r : Reading) (h : List Identified) → FileRel unit.scope r h
    → Follows (numbering local_entity) h r.found (after (read_declared read_closed_suffix at_file tree r)).found
    (UnitThen unit (after (read_declared read_closed_suffix at_file tree r)).file (after (read_declared read_closed_suffix at_file tree r)).blocks) (declared_one globals unit storage ty tree v behind)
one_file_read (single is) holds globals unit storage ty value made behind r h rel = absurd cc
one_file_read (made_of k.Declarator {parts = parts} b a (a_row row)) holds globals unit storage ty {v = v} {after = after} value made behind r h rel =
    let form = plain_form parts (named_form row) in
    let last : Reading = after (read_declarator read_closed_suffix at_file parts r) in
    named_first h r.found last.found (UnitThen unit last.file last.blocks) parts form.named.name (λ name. declared_object globals unit storage ty k.Declarator parts name v behind) form.named.name_is
    (object_read globals unit storage ty k.Declarator parts form value holds made behind r h rel)
one_file_read (made_of k.ArrayDeclarator {parts = parts} b a (a_row row)) holds globals unit storage ty {v = v} {after = after} value made behind r h rel =
    let form = array_form parts (named_form row) in
    let last : Reading = after (read_declarator read_closed_suffix at_file parts r) in
    named_first h r.found last.found (UnitThen unit last.file last.blocks) parts form.named.name (λ name. declared_object globals unit storage ty k.ArrayDeclarator parts name v behind) form.named.name_is
    (object_read globals unit storage ty k.ArrayDeclarator parts form value holds made behind r h rel)
one_file_read (made_of k.FunctionDeclarator {parts = parts} b a (a_row row)) holds globals unit storage ty {v = v} {after = after} value made behind r h rel =
    let n = named_form row in
    let last : Reading = after (read_declarator read_closed_suffix at_file parts r) in
    named_first h r.found last.found (UnitThen unit last.file last.blocks) parts n.name (λ name. declared_function unit storage ty parts name v) n.name_is
    (function_declared unit storage ty parts n value holds made r h rel)
one_file_read (made_of _ b a s) holds globals unit storage ty value made behind r h rel = absurd cc

abbrev both_declared : ℕ → UnitState → Storage → PlainType → PlainTree → Option PlainTree → PlainTrees → PlainTrees → Checked UnitState
both_declared globals unit storage ty tree v rest behind = declared_one globals unit storage ty tree v behind >>= (λ first. declared_from globals first storage ty rest behind)

declared_next : (globals : ℕ) (unit : UnitState) (storage : Storage) (ty : PlainType) (tree : PlainTree) (comma : PlainToken) (rest behind : PlainTrees) → is_filled rest ≡ true → is_word (t.Assign ∷ []) (leaf comma) ≡ false
    → declared_from globals unit storage ty (more tree (more (leaf comma) rest)) behind ≡ both_declared globals unit storage ty tree None rest behind
declared_next globals unit storage ty tree comma none behind filled e = absurd (false≢true filled)
declared_next globals unit storage ty tree comma (more next none) behind filled e =
    ap (λ b. if b then declared_one globals unit storage ty tree (Some next) behind else both_declared globals unit storage ty tree None (more next none) behind) e
declared_next globals unit storage ty tree comma (more next (more c rest)) behind filled e =
    ap (λ b. if b then both_declared globals unit storage ty tree (Some next) rest behind else both_declared globals unit storage ty tree None (more next (more c rest)) behind) e

both_read :
    (globals : ℕ) (unit : UnitState) (storage : Storage) (ty : PlainType) (tree : PlainTree) (v : Option PlainTree) (rest behind : PlainTrees) (r s u : Reading) (h : List Identified)
    → Follows (numbering local_entity) h r.found s.found (UnitThen unit s.file s.blocks) (declared_one globals unit storage ty tree v behind) → Adds s.found u.found
    → ((first : UnitState) (g : List Identified) → first.scope.tags ≡ unit.scope.tags → FileRel first.scope s g → Follows (numbering local_entity) g s.found u.found (UnitThen first u.file u.blocks) (declared_from globals first storage ty rest behind))
    → Follows (numbering local_entity) h r.found u.found (UnitThen unit u.file u.blocks) (both_declared globals unit storage ty tree v rest behind)
both_read globals unit storage ty tree v rest behind r s u h f adds next =
    follows_both (numbering local_entity) h r.found s.found u.found (UnitThen unit s.file s.blocks) (UnitThen unit u.file u.blocks) (declared_one globals unit storage ty tree v behind)
    (λ first. declared_from globals first storage ty rest behind) f
    (λ first g w. follows_as (numbering local_entity) g s.found u.found (UnitThen first u.file u.blocks) (UnitThen unit u.file u.blocks) (declared_from globals first storage ty rest behind) (next first g w.same_tags w.rel)
    (λ x k1 z. record { rel = z.rel; outside = z.outside ∙ w.outside; count = z.count ∙ w.count; same_tags = z.same_tags ∙ w.same_tags }))
    adds

pub declared_read :
    {role : Role} {parts : PlainTrees} → Declared role parts → AllHold parts → (globals : ℕ) (unit : UnitState) (storage : Storage) (ty : PlainType) → Made unit.scope.tags ty → (behind : PlainTrees) (r : Reading) (h : List Identified)
    → FileRel unit.scope r h
    → Follows (numbering local_entity) h r.found (read_declarators read_closed_suffix at_file parts r).found
    (UnitThen unit (read_declarators read_closed_suffix at_file parts r).file (read_declarators read_closed_suffix at_file parts r).blocks) (declared_from globals unit storage ty parts behind)
declared_read (last_plain {tree = tree} d) holds globals unit storage ty made behind r h rel = one_file_read d holds.0 globals unit storage ty no_value made behind r h rel
declared_read (last_initialised {tree = tree} {value = value} {sign = sign} m d w v) holds globals unit storage ty made behind r h rel =
    let one_ : Reading = read_declared read_closed_suffix at_file tree r in
    let last : Reading = read_expression value (read_leaf sign one_) in
    subst (λ u. Follows (numbering local_entity) h r.found u.found (UnitThen unit u.file u.blocks) (declared_from globals unit storage ty (more tree (more (leaf sign) (more value none))) behind)) (sym (value_declared v read_closed_suffix at_file (read_leaf sign one_)))
    (subst (λ b. Follows (numbering local_entity) h r.found last.found (UnitThen unit last.file last.blocks) (if b then declared_one globals unit storage ty tree (Some value) behind else both_declared globals unit storage ty tree None (more value none) behind)) (sym w)
    (one_file_read d holds.0 globals unit storage ty (a_value sign (no_name (t.Assign ∷ []) sign refl w) v holds.1.1.0) made behind r h rel))
declared_read (next_plain {tree = tree} {comma = comma} {rest = rest} d w s) holds globals unit storage ty made behind r h rel =
    let one_ : Reading = read_declared read_closed_suffix at_file tree r in
    let last : Reading = read_declarators read_closed_suffix at_file rest (passed one_) in
    subst (λ c. Follows (numbering local_entity) h r.found (read_declarators read_closed_suffix at_file rest (read_leaf comma one_)).found (UnitThen unit (read_declarators read_closed_suffix at_file rest (read_leaf comma one_)).file (read_declarators read_closed_suffix at_file rest (read_leaf comma one_)).blocks) c) (sym (declared_next globals unit storage ty tree comma rest behind (declared_filled s) (comma_is comma w)))
    (skip comma one_ (no_name (t.Comma ∷ []) comma refl w) (λ u. Follows (numbering local_entity) h r.found (read_declarators read_closed_suffix at_file rest u).found (UnitThen unit (read_declarators read_closed_suffix at_file rest u).file (read_declarators read_closed_suffix at_file rest u).blocks) (both_declared globals unit storage ty tree None rest behind))
    (both_read globals unit storage ty tree None rest behind r (passed one_) last h (one_file_read d holds.0 globals unit storage ty no_value made behind r h rel)
    (declarators_add read_closed_suffix closed_suffix_adds at_file rest (passed one_))
    (λ first g same rel2. declared_read s holds.1.1 globals first storage ty (subst (λ x. Made x ty) (sym same) made) behind (passed one_) g rel2)))
declared_read (next_initialised {tree = tree} {value = value} {sign = sign} {comma = comma} {rest = rest} m d w v c s) holds globals unit storage ty made behind r h rel =
    let one_ : Reading = read_declared read_closed_suffix at_file tree r in
    let two_ : Reading = read_expression value (read_leaf sign one_) in
    let last : Reading = read_declarators read_closed_suffix at_file rest (passed two_) in
    let all : Checked UnitState = declared_from globals unit storage ty (more tree (more (leaf sign) (more value (more (leaf comma) rest)))) behind in
    subst (λ u. Follows (numbering local_entity) h r.found (read_declarators read_closed_suffix at_file rest (read_leaf comma u)).found (UnitThen unit (read_declarators read_closed_suffix at_file rest (read_leaf comma u)).file (read_declarators read_closed_suffix at_file rest (read_leaf comma u)).blocks) all) (sym (value_declared v read_closed_suffix at_file (read_leaf sign one_)))
    (skip comma two_ (no_name (t.Comma ∷ []) comma refl c) (λ u. Follows (numbering local_entity) h r.found (read_declarators read_closed_suffix at_file rest u).found (UnitThen unit (read_declarators read_closed_suffix at_file rest u).file (read_declarators read_closed_suffix at_file rest u).blocks) all)
    (subst (λ b. Follows (numbering local_entity) h r.found last.found (UnitThen unit last.file last.blocks) (if b then both_declared globals unit storage ty tree (Some value) rest behind else both_declared globals unit storage ty tree None (more value (more (leaf comma) rest)) behind)) (sym w)
    (both_read globals unit storage ty tree (Some value) rest behind r (passed two_) last h
    (one_file_read d holds.0 globals unit storage ty (a_value sign (no_name (t.Assign ∷ []) sign refl w) v holds.1.1.0) made behind r h rel)
    (declarators_add read_closed_suffix closed_suffix_adds at_file rest (passed two_))
    (λ first g same rel2. declared_read s holds.1.1.1.1 globals first storage ty (subst (λ x. Made x ty) (sym same) made) behind (passed two_) g rel2))))
