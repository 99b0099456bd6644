-- Definitions of functions are read as they are judged.
use Rattle.std.proofs.Common.{◌≡◌, ℕ, ◌+◌, Bool, true, false, List, [], ◌∷◌, refl, sym, ap, subst, ◌∙◌, length}
use Rattle.std.specs.Prelude.{Option, Some, None, ◌&&◌, if◌then◌else◌}
use Rattle.std.proofs.lemmas.Bool.{false≢true}
use Rattle.std.proofs.lemmas.List.{append-nil, length-map}
use Rattle.std.proofs.lemmas.Option.{none-some}
use Rattle.c_text.specs.Token.{PlainToken}
use Rattle.c_types.specs.Types.{PlainType}
use Rattle.c_tree.specs.declared.kinds.Kind.TheVariants as k
use Rattle.c_tree.specs.declared.terminals.Terminal.TheVariants as t
use Rattle.c_tree.specs.Trees.{PlainTree, PlainTrees, leaf, node, none, more}
use Rattle.c_tree.specs.Grammar.{block}
use Rattle.core_meaning.specs.Program.{no_item}
use Rattle.core_meaning.specs.Checking.{Entity, local_entity, local_of_function, file_entity, Checked, fine, refused, broken, ◌>>=◌, give, unless_so, declares}
use Rattle.core_meaning.specs.Entities.{Table, Local, Sort, function, FileName, Scope, local_in, no_entry}
use Rattle.core_meaning.specs.Declarations.{starred, behind_word, Parameter, parameters_of, with_block}
use Rattle.core_meaning.specs.Statements.{JudgedItems, judged_items, items_as}
use Rattle.core_meaning.specs.UnitNames.{UnitState, Storage, function_body, with_name, declared_as, with_defined, with_scope, signature_of, parameter_types, may_be_function, new_function, with_parameters, is_result, kind_or_incomplete, kind_by_parameters, result_kind, judged_body, defined_function, count_functions, linkage, same_sort, same_bool}
use Rattle.core_meaning.specs.declared.refusals.TypeKind.TheVariants.{Redeclared}
use Rattle.tree_derivations.specs.Derivations.{Derivation, single, made_of, a_row, at_end, a_word, left_out, given}
use Rattle.bindings.specs.Visible.{ordinary, Entry, bound_to, Reading, passed, occurs, with_file_entry}
use Rattle.bindings.specs.Bindings.{at_file, declaring, read_declarator, read_suffix, read_statement, read_statements}
use Rattle.bindings.specs.Judged.{Identified, first_with}
use Rattle.bindings.proofs.Follows.{adds_none, adds_both, Follows, follows_both, follows_as, follows_growing, quietly_before, Yields}
use Rattle.bindings.proofs.Spellings.{Holds, AllHold, no_name}
use Rattle.bindings.proofs.Types.{Made}
use Rattle.bindings.proofs.Operators.{Milder, yields_unless}
use Rattle.bindings.proofs.Related.{Room, numbering, Related}
use Rattle.bindings.proofs.Growing.{IsSlots, function_slots}
use Rattle.bindings.proofs.Expressions.{read_leaf, skip, Rel}
use Rattle.bindings.proofs.Declarators.{Named, made_pointers}
use Rattle.bindings.proofs.Additions.{suffix_adds, statement_adds}
use Rattle.bindings.proofs.Locals.{room}
use Rattle.bindings.proofs.Statements.{items_of}
use Rattle.bindings.proofs.Parameters.{tables, with_parameter_in, with_parameter_is, ParametersThen, AllTyped, parameters_of_read}
use Rattle.bindings.proofs.FileNames.{pending, closed, NameKnown, name_declared, NameThen, named_then}
use Rattle.bindings.proofs.FileObjects.{FileRel, parenthesized, count_more}

-- ---- into a function and out of it

enter_function :
    (n : ℕ) (scope : Scope) (file blocks : List Entry) (h : List Identified) → Related local_entity (closed false) scope file blocks h → scope.blocks ≡ [] → ((s : ℕ) → first_with (local_of_function n s) h ≡ None)
    → Related (local_of_function n) (closed true) scope file blocks h
enter_function n scope file blocks h r outside fresh =
    record {
      locals = λ name l e. absurd (none-some l (sym (ap (λ b. local_in b name) outside) ∙ e));
      no_local = r.no_local;
      names = r.names;
      no_name = r.no_name;
      no_first = r.no_first;
      tagged = r.tagged;
      no_tag = r.no_tag;
      new_structs = r.new_structs;
      new_members = r.new_members;
      free = λ alive slot far. fresh slot;
      dead = λ dead. absurd (false≢true (sym dead));
    }

leave_function :
    (n m : ℕ) (scope earlier : Scope) (tables_ : List (Table Local)) (before file blocks inner : List Entry) (h g : List Identified) → Related local_entity (closed false) earlier before blocks h → earlier.blocks ≡ [] → scope.blocks ≡ []
    → Related (local_of_function n) (room m) (record scope { blocks = tables_ }) file inner g → Related local_entity (closed false) scope file blocks g
leave_function n m scope earlier tables_ before file blocks inner h g r outside outside_now s =
    record {
      locals = λ name l e. absurd (none-some l (sym (ap (λ b. local_in b name) outside_now) ∙ e));
      no_local = λ name e. r.no_local name (ap (λ b. local_in b name) outside);
      names = s.names;
      no_name = s.no_name;
      no_first = s.no_first;
      tagged = s.tagged;
      no_tag = s.no_tag;
      new_structs = s.new_structs;
      new_members = s.new_members;
      free = λ alive. absurd (false≢true alive);
      dead = λ dead slot. refl;
    }

-- a function whose result isn't complete is refused, but not as undeclared
milder_result : (scope : Scope) (storage : Storage) (result : PlainType) (name : PlainToken) (parameters : Checked (List Parameter)) → Milder (result_kind scope storage result name parameters)
milder_result scope storage result name parameters = by (may_be_function storage result (scope.file_names name.text)) parameters
  where
    named_kind : (b : Bool) → Milder (kind_or_incomplete (unless_so b Redeclared name >>= (λ same. give scope)))
    named_kind true = tt
    named_kind false = tt

    name_kind : (sort : Sort) (internal : Bool) (n : Option FileName) → Milder (kind_or_incomplete (declared_as scope name sort internal n))
    name_kind sort internal (Some visible) = named_kind (same_sort visible.sort sort && same_bool visible.internal internal)
    name_kind sort internal None = tt

    by : (b : Bool) (parameters : Checked (List Parameter)) → Milder (if b then kind_by_parameters scope storage result name parameters else Redeclared)
    by false parameters = tt
    by true (fine ps js) = name_kind (function (signature_of result ps)) (linkage storage true (scope.file_names name.text)) (scope.file_names name.text)
    by true (refused kind token) = tt
    by true broken = tt

-- ---- the body

record BodyThen (n : ℕ) (scope : Scope) (file : List Entry) (x : JudgedItems) (h : List Identified) : Type 0 where
  tables_ : List (Table Local)
  inner : List Entry
  rel : Related (local_of_function n) (room (length x.slots)) (record scope { blocks = tables_ }) file inner h

abbrev BodyRead : ℕ → PlainTree → Type 0
BodyRead n body =
    (scope : Scope) (result : PlainType) (slots : List PlainType) (r : Reading) (h : List Identified) → Rel (local_of_function n) (room (length slots)) scope r h
    → Follows (numbering (local_of_function n)) h r.found (read_statement body r).found (BodyThen n scope (read_statement body r).file) (judged_body scope result slots body)

body_read : (n : ℕ) {tree : PlainTree} → Derivation block tree → Holds tree → BodyRead n tree
body_read n (single is) holds = absurd cc
body_read n (made_of k.Block b a (a_row (a_word {token = open_} w (given {tree = tree} d (a_word {token = close} v at_end))))) holds =
    let inside = items_of (local_of_function n) (function_slots n) d holds.1.0 in
    subst (λ x. BodyRead n (node k.Block (more (leaf open_) (more x (more (leaf close) none))))) (sym inside.is)
    (λ scope result slots r h rel.
    let all : Checked JudgedItems = judged_items (record { scope = scope; result = result; in_loop = false }) slots inside.parts in
    let one_ : Reading = read_statements inside.parts (passed r) in
    skip open_ r (no_name (t.OpenBrace ∷ []) open_ refl w) (λ s. Follows (numbering (local_of_function n)) h r.found (read_leaf close (read_statements inside.parts s)).found (BodyThen n scope (read_leaf close (read_statements inside.parts s)).file) all)
    (skip close one_ (no_name (t.CloseBrace ∷ []) close refl v) (λ s. Follows (numbering (local_of_function n)) h r.found s.found (BodyThen n scope s.file) all)
    (follows_as (numbering (local_of_function n)) h r.found one_.found _ (BodyThen n scope one_.file) all
    (inside.read (record { scope = scope; result = result; in_loop = false }) slots (passed r) h rel)
    (λ x g w. record { tables_ = w.tables; inner = one_.blocks; rel = w.rel }))))
body_read n (made_of k.Block b a (a_row (a_word {token = open_} w (left_out (a_word {token = close} v at_end))))) holds = λ scope result slots r h rel.
    skip open_ r (no_name (t.OpenBrace ∷ []) open_ refl w) (λ s. Follows (numbering (local_of_function n)) h r.found (read_leaf close s).found (BodyThen n scope (read_leaf close s).file) (give (items_as slots no_item)))
    (skip close (passed r) (no_name (t.CloseBrace ∷ []) close refl v) (λ s. Follows (numbering (local_of_function n)) h r.found s.found (BodyThen n scope s.file) (give (items_as slots no_item)))
    (record { os = []; is = sym (append-nil r.found); alike = tt; plain = refl; used = refl; after = record { tables_ = scope.blocks; inner = r.blocks; rel = rel } }))
body_read n (made_of _ b a s) holds = absurd cc

-- ---- the definition

pub record FunctionThen (unit : UnitState) (file blocks : List Entry) (x : UnitState) (h : List Identified) : Type 0 where
  pub rel : Related local_entity (closed false) x.scope file blocks h
  pub outside : x.scope.blocks ≡ []
  pub count : count_functions x.defined ≡ count_functions unit.defined + 1

parameters_are : (at : ℕ → Entity) (slots_are : IsSlots at) (base : Room) (scope : Scope) (blocks : List (Table Local)) (n : ℕ) (ps : List Parameter) → with_parameters (record scope { blocks = blocks }) n ps ≡ record scope { blocks = tables at slots_are base blocks n ps }
parameters_are at slots_are base scope blocks n [] = refl
parameters_are at slots_are base scope blocks n (p ∷ rest) =
    ap (λ s. with_parameters s (n + 1) rest) (with_parameter_is at slots_are base scope blocks n p.name p.ty) ∙ parameters_are at slots_are base scope (with_parameter_in blocks n p.name p.ty) (n + 1) rest

typed_all : (at : ℕ → Entity) (slots_are : IsSlots at) (base : Room) (tags : Table ℕ) (x : List Parameter) → AllTyped at slots_are base tags x → Rattle.bindings.proofs.Types.AllMade tags (parameter_types x)
typed_all at slots_are base tags [] h = tt
typed_all at slots_are base tags (p ∷ x) h = (h.0, typed_all at slots_are base tags x h.1)

pub function_defined :
    (unit : UnitState) (storage : Storage) (ty : PlainType) (parts : PlainTrees) (n : Named parenthesized parts) {body : PlainTree} → Derivation block body → AllHold parts → Holds body → Made unit.scope.tags ty
    → (r : Reading) (h : List Identified) → FileRel unit.scope r h → unit.scope.blocks ≡ [] → ((s : ℕ) → first_with (local_of_function (count_functions unit.defined) s) h ≡ None)
    → Follows (numbering (local_of_function (count_functions unit.defined))) h r.found (read_statement body (read_declarator read_suffix at_file parts r)).found
    (FunctionThen unit (read_statement body (read_declarator read_suffix at_file parts r)).file r.blocks) (defined_function unit storage ty parts n.name body)
function_defined unit storage ty parts n {body = body} d holds body_holds made r h file_rel outside fresh =
    let number : ℕ = count_functions unit.defined in
    let at : ℕ → Entity = local_of_function number in
    let slots_are : IsSlots (local_of_function number) = function_slots number in
    let name : PlainToken = n.name in
    let rel0 : Related (local_of_function number) (closed true) unit.scope r.file r.blocks h = enter_function number unit.scope r.file r.blocks h file_rel outside fresh in
    let read = n.reads read_suffix at_file r (λ s. Rel (local_of_function number) (closed true) unit.scope s h × (s.found ≡ r.found)) (λ s p. p) (rel0, refl) in
    let s : Reading = read.s in
    let by : ℕ = declaring at_file name s in
    let r1 : Reading = occurs name (bound_to by) s in
    let inside : Reading = read_suffix n.rest r1 in
    let r3 : Reading = with_file_entry ordinary name.text by inside in
    let last : Reading = read_statement body r3 in
    let V : UnitState → List Identified → Type 0 = FunctionThen unit last.file r.blocks in
    let base : Room = pending true name.text in
    let result : PlainType = starred parts ty in
    let names : Entity → Entity = numbering (local_of_function number) in
    let kind_ = result_kind unit.scope storage result name (parameters_of true unit.scope (behind_word t.OpenParenthesis parts) name) in
    let at_end_ : Scope → JudgedItems → Checked UnitState = λ scope items. give (with_defined (with_scope unit scope) name.text (function_body items.slots items.core)) in
    let with_body : List Parameter → Scope → Checked UnitState = λ ps scope. judged_body (with_parameters (with_block scope) 0 ps) result (parameter_types ps) body >>= at_end_ scope in
    let rest_of : List Parameter → Checked UnitState = λ ps. with_name unit.scope name (function (signature_of result ps)) storage >>= with_body ps in
    subst (λ u. Follows names h r.found (read_statement body u).found (FunctionThen unit (read_statement body u).file r.blocks) (defined_function unit storage ty parts name body)) (sym read.is)
    (subst (λ f. Follows names h f last.found V (defined_function unit storage ty parts name body)) read.still.1
    (follows_both names h s.found r1.found last.found (λ x g. NameKnown (local_of_function number) true unit.scope name.text by s.file s.blocks g) V
    (declares (file_entity name.text)) (λ bound. unless_so (is_result unit.scope result) kind_ name >>= (λ fits. new_function true unit.scope storage result parts name >>= rest_of))
    (name_declared (local_of_function number) slots_are true unit.scope name s h read.still.0 (unit.scope.file_names name.text) refl)
    (λ x g known. quietly_before names g r1.found last.found (λ y. is_result unit.scope result ≡ true) V (unless_so (is_result unit.scope result) kind_ name) (λ fits. new_function true unit.scope storage result parts name >>= rest_of)
    (yields_unless (is_result unit.scope result) kind_ name (milder_result unit.scope storage result name (parameters_of true unit.scope (behind_word t.OpenParenthesis parts) name)))
    (λ y fits. follows_growing names g r1.found inside.found last.found (λ x g2. ParametersThen (local_of_function number) slots_are base unit.scope inside.file inside.blocks x g2) V
    (new_function true unit.scope storage result parts name) rest_of
    (quietly_before names g r1.found inside.found (λ y. may_be_function storage result (unit.scope.file_names name.text) ≡ true) (λ x g2. ParametersThen (local_of_function number) slots_are base unit.scope inside.file inside.blocks x g2)
    (unless_so (may_be_function storage result (unit.scope.file_names name.text)) Redeclared name) (λ new. parameters_of true unit.scope (behind_word t.OpenParenthesis parts) name)
    (yields_unless (may_be_function storage result (unit.scope.file_names name.text)) Redeclared name tt)
    (λ y new. subst (λ z. Follows names g r1.found inside.found (λ x g2. ParametersThen (local_of_function number) slots_are base unit.scope inside.file inside.blocks x g2) (parameters_of true unit.scope z name)) (sym (n.behind t.OpenParenthesis refl refl))
    (parameters_of_read (local_of_function number) slots_are base true refl n.row (n.holds holds).1 unit.scope name r1 g known.rel)))
    (λ ps g2 w grows. quietly_before names g2 inside.found last.found
    (NameThen (local_of_function number) (room (length ps)) unit.scope (tables (local_of_function number) slots_are base (no_entry ∷ unit.scope.blocks) 0 ps) r3.file r3.blocks g2) V
    (with_name unit.scope name (function (signature_of result ps)) storage) (with_body ps)
    (subst (λ z. Yields (NameThen (local_of_function number) (room (length ps)) unit.scope (tables (local_of_function number) slots_are base (no_entry ∷ unit.scope.blocks) 0 ps) (record { space = ordinary; name = name.text; declared_by = z } ∷ inside.file) inside.blocks g2) (with_name unit.scope name (function (signature_of result ps)) storage)) known.is
    (named_then (local_of_function number) (record base { slots = length ps }) (room (length ps)) unit.scope (tables (local_of_function number) slots_are base (no_entry ∷ unit.scope.blocks) 0 ps) name inside.file inside.blocks g2 known.i w.rel refl refl
    (grows (file_entity name.text) known.i known.first) ((n.holds holds).0.identifier n.word) (function (signature_of result ps))
    (made_pointers unit.scope.tags (Rattle.c_tree.specs.Heights.count_stars parts) ty made, typed_all (local_of_function number) slots_are base unit.scope.tags ps w.made) storage))
    (λ scope nt.
    let body_scope : Scope = record scope { blocks = tables (local_of_function number) slots_are base (no_entry ∷ scope.blocks) 0 ps } in
    let same_scope : with_parameters (with_block scope) 0 ps ≡ body_scope = parameters_are (local_of_function number) slots_are base scope (no_entry ∷ scope.blocks) 0 ps in
    let body_rel : Related (local_of_function number) (room (length ps)) body_scope r3.file r3.blocks g2 =
    subst (λ b. Related (local_of_function number) (room (length ps)) (record scope { blocks = tables (local_of_function number) slots_are base (no_entry ∷ b) 0 ps }) r3.file r3.blocks g2) (sym nt.outside) nt.rel in
    follows_both names g2 r3.found last.found last.found (BodyThen number body_scope last.file) V (judged_body (with_parameters (with_block scope) 0 ps) result (parameter_types ps) body) (at_end_ scope)
    (subst (λ z. Follows names g2 r3.found last.found (BodyThen number body_scope last.file) (judged_body z result (parameter_types ps) body)) (sym same_scope)
    (body_read number d body_holds body_scope result (parameter_types ps) r3 g2 (subst (λ m. Related (local_of_function number) (room m) body_scope r3.file r3.blocks g2) (sym (length-map ps (λ (p : Parameter). p.ty))) body_rel)))
    (λ items g3 v. record {
      os = [];
      is = sym (append-nil last.found);
      alike = tt;
      plain = refl;
      used = refl;
      after = record {
        rel = leave_function number (length items.slots) scope unit.scope v.tables_ r.file last.file r.blocks v.inner h g3 file_rel outside (nt.outside ∙ outside) v.rel;
        outside = nt.outside ∙ outside;
        count = count_more unit.defined name.text (function_body items.slots items.core);
      };
    })
    (adds_none last.found)))
    (statement_adds body r3)))
    (adds_both (suffix_adds n.rest r1) (statement_adds body r3))))
