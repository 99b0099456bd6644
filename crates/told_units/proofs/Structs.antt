-- What holds of the structs behind a unit: what holds of those before it, and goes on to hold where one is declared and where one is completed. So
-- structs keep their names.
use Rattle.std.proofs.Common.{◌≡◌, ℕ, zero, suc, Bool, true, false, not, ◌&&◌, List, [], ◌∷◌, ◌++◌, refl, sym, ap, ◌∙◌, if◌then◌else◌}
use Rattle.std.specs.Prelude.{Option, Some, None, is_some, slice_get}
use Rattle.std.proofs.lemmas.Option.{same_Some}
use Rattle.c_text.specs.Token.{PlainToken}
use Rattle.c_types.specs.Types.{PlainType}
use Rattle.c_tree.specs.declared.kinds.Kind.{Kind}
use Rattle.c_tree.specs.declared.kinds.Kind.TheVariants as k
use Rattle.c_tree.specs.declared.terminals.Terminal.TheVariants as t
use Rattle.c_tree.specs.Trees.{PlainTree, PlainTrees, leaf, node, none, more}
use Rattle.c_tree.specs.Grammar.{is_word}
use Rattle.core_meaning.specs.declared.refusals.TypeKind.TheVariants.{Redeclared}
use Rattle.core_meaning.specs.Checking.{Binding, Checked, fine, refused, broken, ◌>>=◌, give, unless_so, or_broken, file_entity, declares, in_function}
use Rattle.core_meaning.specs.Entities.{Struct, Sort, variable, function, FileName, Numbers, Scope, no_entry}
use Rattle.core_meaning.specs.Expressions.{has_terminal, arithmetic_words}
use Rattle.core_meaning.specs.Declarations.{Based, based_on_tag, based, name_in, new_struct, starred, behind_word, object_type, Parameter, with_block, parameters_of}
use Rattle.core_meaning.specs.UnitNames.{Storage, by_extern, by_static, by_none, UnitState, same_sort, same_bool, linkage, declared_as, with_name, is_function, judged_global, defined_object, with_defined, with_scope, declared_object, declared_function, declared_one, declared_from, defined_function, signature_of, new_function, parameter_types, is_result, result_kind, judged_body, with_parameters, refused_initialiser, object_body, function_body, constant_parts, Members, AllMembers, all_members, members_from, completed, with_members_at, is_defined_tag, number_of_struct, defined_struct, judged_item, storage_of, count_functions, judged_file_items, unit_start, too_big_in, unless_too_big, judged_unit}
use Rattle.core_meaning.specs.Constancy.{initial}
use Rattle.core_meaning.specs.Statements.{JudgedItems}
use Rattle.cond_declarators.proofs.There.{Whole, whole_of}
use Rattle.cond_units.proofs.Growing.{whole_then, whole_behind}

module _ (Holds : List Struct → Type 0) (one_more : (structs : List Struct) (tag : List ℕ) → Holds structs → Holds (structs ++ new_struct tag ∷ []))
    (completes : (structs : List Struct) (number : ℕ) (known : Members) → Holds structs → Holds (with_members_at number known structs)) where
  abbrev ScopeHolds : Scope → Type 0
  ScopeHolds scope = Holds scope.structs

  abbrev UnitHolds : UnitState → Type 0
  UnitHolds unit = Holds unit.scope.structs

  -- ---- words

  tag_holds : (declaring : Bool) (scope : Scope) (tag : PlainToken) (o : Option ℕ) → ScopeHolds scope → Whole (λ (b : Based). ScopeHolds b.scope) (based_on_tag declaring scope tag o)
  tag_holds declaring scope tag (Some n) h = h
  tag_holds false scope tag None h = tt
  tag_holds true scope tag None h = one_more scope.structs tag.text h

  words_hold : (declaring : Bool) (scope : Scope) (words : PlainTrees) → ScopeHolds scope → Whole (λ (b : Based). ScopeHolds b.scope) (based declaring scope words)
  words_hold declaring scope words h = by (has_terminal t.Struct words)
    where
      by : (b : Bool) → Whole (λ (b : Based). ScopeHolds b.scope) (if b then or_broken (name_in words) >>= (λ tag. based_on_tag declaring scope tag (scope.tags tag.text)) else give (record { ty = arithmetic_words words; scope = scope }))
      by true = whole_behind (λ (b : Based). ScopeHolds b.scope) (or_broken (name_in words)) (λ tag. based_on_tag declaring scope tag (scope.tags tag.text)) (λ tag. tag_holds declaring scope tag (scope.tags tag.text) h)
      by false = h

  -- ---- names

  declared_holds : (scope : Scope) (name : PlainToken) (sort : Sort) (internal : Bool) (visible : Option FileName) → ScopeHolds scope → Whole ScopeHolds (declared_as scope name sort internal visible)
  declared_holds scope name sort internal (Some visible) h =
      whole_behind ScopeHolds (unless_so (same_sort visible.sort sort && same_bool visible.internal internal) Redeclared name) (λ same. give scope) (λ same. h)
  declared_holds scope name sort internal None h = h

  name_holds : (scope : Scope) (name : PlainToken) (sort : Sort) (storage : Storage) → ScopeHolds scope → Whole ScopeHolds (with_name scope name sort storage)
  name_holds scope name sort storage h = declared_holds scope name sort (linkage storage (is_function sort) (scope.file_names name.text)) (scope.file_names name.text) h

  value_holds : (globals : ℕ) (unit : UnitState) (ty : PlainType) (name : PlainToken) (initialiser : PlainTree) → UnitHolds unit
      → Whole UnitHolds (initial unit.scope (Some globals) ty [] initialiser name >>= (λ parts. or_broken (constant_parts globals parts) >>= (λ values. give (with_defined unit name.text (object_body values)))))
  value_holds globals unit ty name initialiser h =
      whole_behind UnitHolds (initial unit.scope (Some globals) ty [] initialiser name) (λ parts. or_broken (constant_parts globals parts) >>= (λ values. give (with_defined unit name.text (object_body values))))
      (λ parts. whole_behind UnitHolds (or_broken (constant_parts globals parts)) (λ values. give (with_defined unit name.text (object_body values))) (λ values. h))

  object_holds : (globals : ℕ) (unit : UnitState) (storage : Storage) (ty : PlainType) (name : PlainToken) (initialiser : Option PlainTree) → UnitHolds unit
      → Whole UnitHolds (defined_object globals unit storage ty name initialiser)
  object_holds globals unit by_extern ty name None h = h
  object_holds globals unit by_static ty name None h = h
  object_holds globals unit by_none ty name None h = h
  object_holds globals unit by_extern ty name (Some initialiser) h = value_holds globals unit ty name initialiser h
  object_holds globals unit by_static ty name (Some initialiser) h = value_holds globals unit ty name initialiser h
  object_holds globals unit by_none ty name (Some initialiser) h = value_holds globals unit ty name initialiser h

  whole_object_holds : (globals : ℕ) (unit : UnitState) (storage : Storage) (ty : PlainType) (kind : Kind) (parts : PlainTrees) (name : PlainToken) (initialiser : Option PlainTree) (rest : PlainTrees) → UnitHolds unit
      → Whole UnitHolds (declared_object globals unit storage ty kind parts name initialiser rest)
  whole_object_holds globals unit storage ty kind parts name initialiser rest h =
      whole_behind UnitHolds (declares (file_entity name.text)) _
      (λ bound. whole_behind UnitHolds (object_type unit.scope ty kind parts name initialiser) _
      (λ whole. whole_then ScopeHolds UnitHolds (with_name unit.scope name (variable whole) storage) _ (name_holds unit.scope name (variable whole) storage h)
      (λ scope held. whole_behind UnitHolds (judged_global storage (is_some initialiser) scope whole name rest) _
      (λ judged. object_holds globals (with_scope unit scope) storage whole name initialiser held))))

  function_holds : (unit : UnitState) (storage : Storage) (ty : PlainType) (parts : PlainTrees) (name : PlainToken) (initialiser : Option PlainTree) → UnitHolds unit
      → Whole UnitHolds (declared_function unit storage ty parts name initialiser)
  function_holds unit storage ty parts name initialiser h =
      whole_behind UnitHolds (declares (file_entity name.text)) _
      (λ bound. whole_behind UnitHolds (new_function false unit.scope storage (starred parts ty) parts name)
      (λ parameters. with_name unit.scope name (function (signature_of (starred parts ty) parameters)) storage >>= (λ scope. refused_initialiser initialiser name >>= (λ none_given. give (with_scope unit scope))))
      (λ parameters. whole_then ScopeHolds UnitHolds (with_name unit.scope name (function (signature_of (starred parts ty) parameters)) storage)
      (λ scope. refused_initialiser initialiser name >>= (λ none_given. give (with_scope unit scope)))
      (name_holds unit.scope name (function (signature_of (starred parts ty) parameters)) storage h)
      (λ scope held. whole_behind UnitHolds (refused_initialiser initialiser name) (λ none_given. give (with_scope unit scope)) (λ none_given. held))))

  named_holds : (globals : ℕ) (unit : UnitState) (storage : Storage) (ty : PlainType) (kind : Kind) (parts : PlainTrees) (initialiser : Option PlainTree) (rest : PlainTrees) → UnitHolds unit
      → Whole UnitHolds (or_broken (name_in parts) >>= (λ name. declared_object globals unit storage ty kind parts name initialiser rest))
  named_holds globals unit storage ty kind parts initialiser rest h =
      whole_behind UnitHolds (or_broken (name_in parts)) (λ name. declared_object globals unit storage ty kind parts name initialiser rest) (λ name. whole_object_holds globals unit storage ty kind parts name initialiser rest h)

  one_holds : (globals : ℕ) (unit : UnitState) (storage : Storage) (ty : PlainType) (tree : PlainTree) (initialiser : Option PlainTree) (rest : PlainTrees) → UnitHolds unit
      → Whole UnitHolds (declared_one globals unit storage ty tree initialiser rest)
  one_holds globals unit storage ty (leaf token) initialiser rest h = tt
  one_holds globals unit storage ty (node k.FunctionDeclarator parts) initialiser rest h =
      whole_behind UnitHolds (or_broken (name_in parts)) (λ name. declared_function unit storage ty parts name initialiser) (λ name. function_holds unit storage ty parts name initialiser h)
  one_holds globals unit storage ty (node kind parts) initialiser rest h = named_holds globals unit storage ty kind parts initialiser rest h

  names_hold : (globals : ℕ) (unit : UnitState) (storage : Storage) (ty : PlainType) (list rest : PlainTrees) → UnitHolds unit → Whole UnitHolds (declared_from globals unit storage ty list rest)
  names_hold globals unit storage ty none rest h = tt
  names_hold globals unit storage ty (more tree none) rest h = one_holds globals unit storage ty tree None rest h
  names_hold globals unit storage ty (more tree (more sign none)) rest h = tt
  names_hold globals unit storage ty (more tree (more sign (more next none))) rest h = by (is_word (t.Assign ∷ []) sign)
    where
      by : (b : Bool) → Whole UnitHolds (if b then declared_one globals unit storage ty tree (Some next) rest else (declared_one globals unit storage ty tree None rest >>= (λ first. declared_from globals first storage ty (more next none) rest)))
      by true = one_holds globals unit storage ty tree (Some next) rest h
      by false = whole_then UnitHolds UnitHolds (declared_one globals unit storage ty tree None rest) (λ first. declared_from globals first storage ty (more next none) rest) (one_holds globals unit storage ty tree None rest h)
          (λ first held. one_holds globals first storage ty next None rest held)
  names_hold globals unit storage ty (more tree (more sign (more next (more comma others)))) rest h =
      by (is_word (t.Assign ∷ []) sign) (λ first held. names_hold globals first storage ty others rest held) (λ first held. names_hold globals first storage ty (more next (more comma others)) rest held)
    where
      by : (b : Bool) → ((first : UnitState) → UnitHolds first → Whole UnitHolds (declared_from globals first storage ty others rest))
          → ((first : UnitState) → UnitHolds first → Whole UnitHolds (declared_from globals first storage ty (more next (more comma others)) rest))
          → Whole UnitHolds (if b then (declared_one globals unit storage ty tree (Some next) rest >>= (λ first. declared_from globals first storage ty others rest)) else (declared_one globals unit storage ty tree None rest >>= (λ first. declared_from globals first storage ty (more next (more comma others)) rest)))
      by true behind both = whole_then UnitHolds UnitHolds (declared_one globals unit storage ty tree (Some next) rest) (λ first. declared_from globals first storage ty others rest) (one_holds globals unit storage ty tree (Some next) rest h) behind
      by false behind both = whole_then UnitHolds UnitHolds (declared_one globals unit storage ty tree None rest) (λ first. declared_from globals first storage ty (more next (more comma others)) rest) (one_holds globals unit storage ty tree None rest h) both

  -- ---- definitions

  defined_holds : (unit : UnitState) (storage : Storage) (ty : PlainType) (parts : PlainTrees) (name : PlainToken) (body : PlainTree) → UnitHolds unit
      → Whole UnitHolds (defined_function unit storage ty parts name body)
  defined_holds unit storage ty parts name body h =
      let finish : List Parameter → Scope → JudgedItems → Checked UnitState = λ parameters scope items. give (with_defined (with_scope unit scope) name.text (function_body items.slots items.core)) in
      let block : List Parameter → Scope → Checked UnitState = λ parameters scope.
      judged_body (with_parameters (with_block scope) 0 parameters) (starred parts ty) (parameter_types parameters) body >>= finish parameters scope in
      whole_behind UnitHolds (declares (file_entity name.text)) _
      (λ bound. whole_behind UnitHolds (unless_so (is_result unit.scope (starred parts ty)) (result_kind unit.scope storage (starred parts ty) name (parameters_of true unit.scope (behind_word t.OpenParenthesis parts) name)) name) _
      (λ fits. whole_behind UnitHolds (new_function true unit.scope storage (starred parts ty) parts name)
      (λ parameters. with_name unit.scope name (function (signature_of (starred parts ty) parameters)) storage >>= block parameters)
      (λ parameters. whole_then ScopeHolds UnitHolds (with_name unit.scope name (function (signature_of (starred parts ty) parameters)) storage) (block parameters)
      (name_holds unit.scope name (function (signature_of (starred parts ty) parameters)) storage h)
      (λ scope held. whole_behind UnitHolds (judged_body (with_parameters (with_block scope) 0 parameters) (starred parts ty) (parameter_types parameters) body) (finish parameters scope) (λ items. held)))))

  function_still : (n : ℕ) (c : Checked UnitState) → Whole UnitHolds c → Whole UnitHolds (in_function n c)
  function_still n (fine unit bindings) h = h
  function_still n (refused kind token) h = h
  function_still n broken h = h

  -- ---- structs

  members_hold : (scope : Scope) (number : ℕ) (known : Members) (list : PlainTrees) → ScopeHolds scope → Whole (λ (a : AllMembers). ScopeHolds a.scope) (all_members scope number known list)
  members_hold scope number known none h = h
  members_hold scope number known (more (node kind (more (node words_kind words) (more (node list_kind declarators) (more end none)))) rest) h =
      whole_then (λ (b : Based). ScopeHolds b.scope) (λ (a : AllMembers). ScopeHolds a.scope) (based true scope words) _ (words_hold true scope words h)
      (λ base held. whole_behind (λ (a : AllMembers). ScopeHolds a.scope) (members_from base.scope number known base.ty declarators) _ (λ first. members_hold base.scope number first rest held))
  members_hold scope number known (more tree rest) h = tt

  struct_holds : (unit : UnitState) (words members : PlainTrees) → UnitHolds unit → Whole UnitHolds (defined_struct unit words members)
  struct_holds unit words members h =
      whole_behind UnitHolds (or_broken (name_in words)) _
      (λ tag. whole_behind UnitHolds (unless_so (not (is_defined_tag unit.scope (unit.scope.tags tag.text))) Redeclared tag) _
      (λ new. whole_then (λ (b : Based). ScopeHolds b.scope) UnitHolds (based true unit.scope words) _ (words_hold true unit.scope words h)
      (λ base held. whole_then (λ (a : AllMembers). ScopeHolds a.scope) UnitHolds (all_members base.scope (number_of_struct base.ty) (record { members = []; numbers = no_entry; scalars = 0 }) members) _
      (members_hold base.scope (number_of_struct base.ty) (record { members = []; numbers = no_entry; scalars = 0 }) members held)
      (λ all held. completes all.scope.structs (number_of_struct base.ty) all.known held))))

  -- ---- items

  declaration_holds : (globals : ℕ) (unit : UnitState) (words list behind : PlainTrees) → UnitHolds unit
      → Whole UnitHolds (based true unit.scope words >>= (λ base. declared_from globals (with_scope unit base.scope) (storage_of words) base.ty list behind))
  declaration_holds globals unit words list behind h =
      whole_then (λ (b : Based). ScopeHolds b.scope) UnitHolds (based true unit.scope words) (λ base. declared_from globals (with_scope unit base.scope) (storage_of words) base.ty list behind) (words_hold true unit.scope words h)
      (λ base held. names_hold globals (with_scope unit base.scope) (storage_of words) base.ty list behind held)

  alone_holds : (unit : UnitState) (words : PlainTrees) → UnitHolds unit → Whole UnitHolds (based true unit.scope words >>= (λ base. give (with_scope unit base.scope)))
  alone_holds unit words h = whole_then (λ (b : Based). ScopeHolds b.scope) UnitHolds (based true unit.scope words) (λ base. give (with_scope unit base.scope)) (words_hold true unit.scope words h) (λ base held. held)

  definition_holds : (unit : UnitState) (words parts : PlainTrees) (body : PlainTree) → UnitHolds unit
      → Whole UnitHolds (based false unit.scope words >>= (λ base. or_broken (name_in parts) >>= (λ name. in_function (count_functions unit.defined) (defined_function unit (storage_of words) base.ty parts name body))))
  definition_holds unit words parts body h =
      whole_behind UnitHolds (based false unit.scope words) (λ base. or_broken (name_in parts) >>= (λ name. in_function (count_functions unit.defined) (defined_function unit (storage_of words) base.ty parts name body)))
      (λ base. whole_behind UnitHolds (or_broken (name_in parts)) (λ name. in_function (count_functions unit.defined) (defined_function unit (storage_of words) base.ty parts name body))
      (λ name. function_still (count_functions unit.defined) (defined_function unit (storage_of words) base.ty parts name body) (defined_holds unit (storage_of words) base.ty parts name body h)))

  item_holds : (globals : ℕ) (unit : UnitState) (tree : PlainTree) (rest : PlainTrees) → UnitHolds unit → Whole UnitHolds (judged_item globals unit tree rest)
  item_holds globals unit (node k.StructDefinition (more (node tag_kind words) (more brace (more (node list_kind members) others)))) rest h = struct_holds unit words members h
  item_holds globals unit (node k.StructDeclaration (more (node tag_kind words) (more end none))) rest h = alone_holds unit words h
  item_holds globals unit (node k.Declaration (more (node words_kind words) (more (node list_kind declarators) (more end none)))) rest h = declaration_holds globals unit words declarators rest h
  item_holds globals unit (node k.Function (more (node words_kind words) (more (node list_kind (more (node kind parts) none)) (more body none)))) rest h = definition_holds unit words parts body h
  item_holds globals unit tree rest h = tt

  items_hold : (globals : ℕ) (unit : UnitState) (parts : PlainTrees) → UnitHolds unit → Whole UnitHolds (judged_file_items globals unit parts)
  items_hold globals unit none h = h
  items_hold globals unit (more tree rest) h =
      whole_then UnitHolds UnitHolds (judged_item globals unit tree rest) (λ first. judged_file_items globals first rest) (item_holds globals unit tree rest h)
      (λ first held. items_hold globals first rest held)

  unit_holds : (globals : ℕ) (structs : List Struct) (numbers : Numbers) (tree : PlainTree) → Holds structs → Whole UnitHolds (judged_unit globals structs numbers tree)
  unit_holds globals structs numbers (leaf token) h = tt
  unit_holds globals structs numbers (node kind parts) h =
      whole_then UnitHolds UnitHolds (judged_file_items globals (unit_start structs numbers) parts) (λ unit. unless_too_big (too_big_in unit.scope parts) >>= (λ small. give unit)) (items_hold globals (unit_start structs numbers) parts h)
      (λ last held. whole_behind UnitHolds (unless_too_big (too_big_in last.scope parts)) (λ small. give last) (λ small. held))

-- ---- names

-- the structs are there still, with their names
abbrev pub KeepNames : List Struct → List Struct → Type 0
KeepNames structs later = (n : ℕ) (s : Struct) → slice_get structs n ≡ Some s → (t : Struct) × (slice_get later n ≡ Some t) × (t.name ≡ s.name)

pub keep_all : (structs later : List Struct) → structs ≡ later → KeepNames structs later
keep_all structs later same n s e = (s, ap (λ l. slice_get l n) (sym same) ∙ e, refl)

pub keep_both : (a b c : List Struct) → KeepNames a b → KeepNames b c → KeepNames a c
keep_both a b c x y n s e =
    let first = x n s e in
    let second = y n first.0 first.1 in
    (second.0, second.1, second.2 ∙ first.2)

keep_longer : (structs : List Struct) (last : Struct) → KeepNames structs (structs ++ last ∷ [])
keep_longer [] last n s e = absurd cc
keep_longer (x ∷ structs) last zero s e = (s, e, refl)
keep_longer (x ∷ structs) last (suc n) s e = keep_longer structs last n s e

keep_completed : (number : ℕ) (known : Members) (structs : List Struct) → KeepNames structs (with_members_at number known structs)
keep_completed number known [] n s e = absurd cc
keep_completed zero known (x ∷ structs) zero s e = (completed known x, refl, ap (λ (t : Struct). t.name) (same_Some x s e))
keep_completed zero known (x ∷ structs) (suc n) s e = (s, e, refl)
keep_completed (suc number) known (x ∷ structs) zero s e = (s, e, refl)
keep_completed (suc number) known (x ∷ structs) (suc n) s e = keep_completed number known structs n s e

pub unit_keeps_names : (globals : ℕ) (structs : List Struct) (numbers : Numbers) (tree : PlainTree) (state : UnitState) (js : List Binding) → judged_unit globals structs numbers tree ≡ fine state js
    → KeepNames structs state.scope.structs
unit_keeps_names globals structs numbers tree state js e =
    whole_of (λ (u : UnitState). KeepNames structs u.scope.structs) (judged_unit globals structs numbers tree) state js
    (unit_holds (KeepNames structs) (λ later tag h. keep_both structs later (later ++ new_struct tag ∷ []) h (keep_longer later (new_struct tag)))
    (λ later number known h. keep_both structs later (with_members_at number known later) h (keep_completed number known later)) globals structs numbers tree (keep_all structs structs refl)) e
