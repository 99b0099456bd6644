-- The structs that are there stay there, whatever is declared behind them.
use Rattle.std.proofs.Common.{ℕ, zero, suc, Bool, true, false, not, ◌&&◌, List, [], ◌∷◌, ◌++◌, refl, if◌then◌else◌}
use Rattle.std.specs.Prelude.{Option, Some, None, is_some}
use Rattle.c_text.specs.Token.{PlainToken}
use Rattle.c_types.specs.Types.{PlainType}
use Rattle.c_tree.specs.declared.kinds.Kind.{Kind}
use Rattle.c_tree.specs.declared.kinds.Kind.TheVariants as k
use Rattle.c_tree.specs.declared.terminals.Terminal.TheVariants as t
use Rattle.c_tree.specs.Trees.{PlainTree, PlainTrees, leaf, node, none, more}
use Rattle.c_tree.specs.Grammar.{is_word}
use Rattle.core_meaning.specs.declared.refusals.TypeKind.TheVariants.{Redeclared}
use Rattle.core_meaning.specs.Checking.{Binding, Checked, fine, refused, broken, with_bindings, ◌>>=◌, give, unless_so, or_broken, file_entity, declares, in_function}
use Rattle.core_meaning.specs.Entities.{Struct, Sort, variable, function, FileName, Scope, no_entry}
use Rattle.core_meaning.specs.Expressions.{has_terminal, arithmetic_words}
use Rattle.core_meaning.specs.Declarations.{Based, based_on_tag, based, name_in, new_struct, starred, behind_word, object_type, Parameter, with_block, parameters_of}
use Rattle.core_meaning.specs.UnitNames.{Storage, by_extern, by_static, by_none, UnitState, same_sort, same_bool, linkage, declared_as, with_name, is_function, judged_global, defined_object, with_defined, with_scope, declared_object, declared_function, declared_one, declared_from, defined_function, signature_of, new_function, parameter_types, is_result, result_kind, judged_body, with_parameters, refused_initialiser, object_body, function_body, constant_parts, Members, AllMembers, all_members, members_from, completed, with_members_at, is_defined_tag, number_of_struct, defined_struct, judged_item, storage_of, count_functions}
use Rattle.core_meaning.specs.Constancy.{initial}
use Rattle.core_meaning.specs.Statements.{JudgedItems}
use Rattle.type_tables.proofs.Renumbering.{Has}
use Rattle.cond_declarators.proofs.There.{Whole}

pub has_itself : (structs : List Struct) → Has structs structs
has_itself structs n s e = (s, e)

pub has_through : (a b c : List Struct) → Has a b → Has b c → Has a c
has_through a b c x y n s e = let found = x n s e in y n found.0 found.1

has_one_more : (structs : List Struct) (last : Struct) → Has structs (structs ++ last ∷ [])
has_one_more [] last n s e = absurd cc
has_one_more (x ∷ structs) last zero s e = (s, e)
has_one_more (x ∷ structs) last (suc n) s e = has_one_more structs last n s e

has_completed : (number : ℕ) (known : Members) (structs : List Struct) → Has structs (with_members_at number known structs)
has_completed number known [] n s e = absurd cc
has_completed zero known (x ∷ structs) zero s e = (completed known x, refl)
has_completed zero known (x ∷ structs) (suc n) s e = (s, e)
has_completed (suc number) known (x ∷ structs) zero s e = (s, e)
has_completed (suc number) known (x ∷ structs) (suc n) s e = has_completed number known structs n s e

-- ---- what holds of the value that a judgement comes to

whole_still : {A : Type 0} (P : A → Type 0) (before : List Binding) (c : Checked A) → Whole P c → Whole P (with_bindings before c)
whole_still P before (fine x bindings) h = h
whole_still P before (refused kind token) h = h
whole_still P before broken h = h

pub whole_then : {A B : Type 0} (P : A → Type 0) (Q : B → Type 0) (c : Checked A) (next : A → Checked B) → Whole P c → ((x : A) → P x → Whole Q (next x)) → Whole Q (c >>= next)
whole_then P Q (fine x bindings) next h f = whole_still Q bindings (next x) (f x h)
whole_then P Q (refused kind token) next h f = tt
whole_then P Q broken next h f = tt

-- whatever comes first
pub whole_behind : {A B : Type 0} (Q : B → Type 0) (c : Checked A) (next : A → Checked B) → ((x : A) → Whole Q (next x)) → Whole Q (c >>= next)
whole_behind Q (fine x bindings) next f = whole_still Q bindings (next x) (f x)
whole_behind Q (refused kind token) next f = tt
whole_behind Q broken next f = tt

module _ (structs : List Struct) where
  abbrev ScopeGrows : Scope → Type 0
  ScopeGrows scope = Has structs scope.structs

  abbrev pub UnitGrows : UnitState → Type 0
  UnitGrows unit = Has structs unit.scope.structs

  -- ---- words

  tag_grows : (declaring : Bool) (scope : Scope) (tag : PlainToken) (o : Option ℕ) → ScopeGrows scope → Whole (λ (b : Based). ScopeGrows b.scope) (based_on_tag declaring scope tag o)
  tag_grows declaring scope tag (Some n) h = h
  tag_grows false scope tag None h = tt
  tag_grows true scope tag None h = has_through structs scope.structs (scope.structs ++ new_struct tag.text ∷ []) h (has_one_more scope.structs (new_struct tag.text))

  words_grow : (declaring : Bool) (scope : Scope) (words : PlainTrees) → ScopeGrows scope → Whole (λ (b : Based). ScopeGrows b.scope) (based declaring scope words)
  words_grow declaring scope words h = by (has_terminal t.Struct words)
    where
      by : (b : Bool) → Whole (λ (b : Based). ScopeGrows b.scope) (if b then or_broken (name_in words) >>= (λ tag. based_on_tag declaring scope tag (scope.tags tag.text)) else give (record { ty = arithmetic_words words; scope = scope }))
      by true = whole_behind (λ (b : Based). ScopeGrows b.scope) (or_broken (name_in words)) (λ tag. based_on_tag declaring scope tag (scope.tags tag.text)) (λ tag. tag_grows declaring scope tag (scope.tags tag.text) h)
      by false = h

  -- ---- names

  declared_grows : (scope : Scope) (name : PlainToken) (sort : Sort) (internal : Bool) (visible : Option FileName) → ScopeGrows scope → Whole ScopeGrows (declared_as scope name sort internal visible)
  declared_grows scope name sort internal (Some visible) h =
      whole_behind ScopeGrows (unless_so (same_sort visible.sort sort && same_bool visible.internal internal) Redeclared name) (λ same. give scope) (λ same. h)
  declared_grows scope name sort internal None h = h

  name_grows : (scope : Scope) (name : PlainToken) (sort : Sort) (storage : Storage) → ScopeGrows scope → Whole ScopeGrows (with_name scope name sort storage)
  name_grows scope name sort storage h = declared_grows scope name sort (linkage storage (is_function sort) (scope.file_names name.text)) (scope.file_names name.text) h

  value_grows : (globals : ℕ) (unit : UnitState) (ty : PlainType) (name : PlainToken) (initialiser : PlainTree) → UnitGrows unit
      → Whole UnitGrows (initial unit.scope (Some globals) ty [] initialiser name >>= (λ parts. or_broken (constant_parts globals parts) >>= (λ values. give (with_defined unit name.text (object_body values)))))
  value_grows globals unit ty name initialiser h =
      whole_behind UnitGrows (initial unit.scope (Some globals) ty [] initialiser name) (λ parts. or_broken (constant_parts globals parts) >>= (λ values. give (with_defined unit name.text (object_body values))))
      (λ parts. whole_behind UnitGrows (or_broken (constant_parts globals parts)) (λ values. give (with_defined unit name.text (object_body values))) (λ values. h))

  object_grows : (globals : ℕ) (unit : UnitState) (storage : Storage) (ty : PlainType) (name : PlainToken) (initialiser : Option PlainTree) → UnitGrows unit
      → Whole UnitGrows (defined_object globals unit storage ty name initialiser)
  object_grows globals unit by_extern ty name None h = h
  object_grows globals unit by_static ty name None h = h
  object_grows globals unit by_none ty name None h = h
  object_grows globals unit by_extern ty name (Some initialiser) h = value_grows globals unit ty name initialiser h
  object_grows globals unit by_static ty name (Some initialiser) h = value_grows globals unit ty name initialiser h
  object_grows globals unit by_none ty name (Some initialiser) h = value_grows globals unit ty name initialiser h

  whole_object_grows : (globals : ℕ) (unit : UnitState) (storage : Storage) (ty : PlainType) (kind : Kind) (parts : PlainTrees) (name : PlainToken) (initialiser : Option PlainTree) (rest : PlainTrees) → UnitGrows unit
      → Whole UnitGrows (declared_object globals unit storage ty kind parts name initialiser rest)
  whole_object_grows globals unit storage ty kind parts name initialiser rest h =
      whole_behind UnitGrows (declares (file_entity name.text)) _
      (λ bound. whole_behind UnitGrows (object_type unit.scope ty kind parts name initialiser) _
      (λ whole. whole_then ScopeGrows UnitGrows (with_name unit.scope name (variable whole) storage) _ (name_grows unit.scope name (variable whole) storage h)
      (λ scope grows. whole_behind UnitGrows (judged_global storage (is_some initialiser) scope whole name rest) _
      (λ judged. object_grows globals (with_scope unit scope) storage whole name initialiser grows))))

  function_grows : (unit : UnitState) (storage : Storage) (ty : PlainType) (parts : PlainTrees) (name : PlainToken) (initialiser : Option PlainTree) → UnitGrows unit
      → Whole UnitGrows (declared_function unit storage ty parts name initialiser)
  function_grows unit storage ty parts name initialiser h =
      whole_behind UnitGrows (declares (file_entity name.text)) _
      (λ bound. whole_behind UnitGrows (new_function false unit.scope storage (starred parts ty) parts name)
      (λ parameters. with_name unit.scope name (function (signature_of (starred parts ty) parameters)) storage >>= (λ scope. refused_initialiser initialiser name >>= (λ none_given. give (with_scope unit scope))))
      (λ parameters. whole_then ScopeGrows UnitGrows (with_name unit.scope name (function (signature_of (starred parts ty) parameters)) storage)
      (λ scope. refused_initialiser initialiser name >>= (λ none_given. give (with_scope unit scope)))
      (name_grows unit.scope name (function (signature_of (starred parts ty) parameters)) storage h)
      (λ scope grows. whole_behind UnitGrows (refused_initialiser initialiser name) (λ none_given. give (with_scope unit scope)) (λ none_given. grows))))

  named_grows : (globals : ℕ) (unit : UnitState) (storage : Storage) (ty : PlainType) (kind : Kind) (parts : PlainTrees) (initialiser : Option PlainTree) (rest : PlainTrees) → UnitGrows unit
      → Whole UnitGrows (or_broken (name_in parts) >>= (λ name. declared_object globals unit storage ty kind parts name initialiser rest))
  named_grows globals unit storage ty kind parts initialiser rest h =
      whole_behind UnitGrows (or_broken (name_in parts)) (λ name. declared_object globals unit storage ty kind parts name initialiser rest) (λ name. whole_object_grows globals unit storage ty kind parts name initialiser rest h)

  one_grows : (globals : ℕ) (unit : UnitState) (storage : Storage) (ty : PlainType) (tree : PlainTree) (initialiser : Option PlainTree) (rest : PlainTrees) → UnitGrows unit
      → Whole UnitGrows (declared_one globals unit storage ty tree initialiser rest)
  one_grows globals unit storage ty (leaf token) initialiser rest h = tt
  one_grows globals unit storage ty (node k.FunctionDeclarator parts) initialiser rest h =
      whole_behind UnitGrows (or_broken (name_in parts)) (λ name. declared_function unit storage ty parts name initialiser) (λ name. function_grows unit storage ty parts name initialiser h)
  one_grows globals unit storage ty (node kind parts) initialiser rest h = named_grows globals unit storage ty kind parts initialiser rest h

  pub names_grow : (globals : ℕ) (unit : UnitState) (storage : Storage) (ty : PlainType) (list rest : PlainTrees) → UnitGrows unit → Whole UnitGrows (declared_from globals unit storage ty list rest)
  names_grow globals unit storage ty none rest h = tt
  names_grow globals unit storage ty (more tree none) rest h = one_grows globals unit storage ty tree None rest h
  names_grow globals unit storage ty (more tree (more sign none)) rest h = tt
  names_grow globals unit storage ty (more tree (more sign (more next none))) rest h = by (is_word (t.Assign ∷ []) sign)
    where
      by : (b : Bool) → Whole UnitGrows (if b then declared_one globals unit storage ty tree (Some next) rest else (declared_one globals unit storage ty tree None rest >>= (λ first. declared_from globals first storage ty (more next none) rest)))
      by true = one_grows globals unit storage ty tree (Some next) rest h
      by false = whole_then UnitGrows UnitGrows (declared_one globals unit storage ty tree None rest) (λ first. declared_from globals first storage ty (more next none) rest) (one_grows globals unit storage ty tree None rest h)
          (λ first grows. one_grows globals first storage ty next None rest grows)
  names_grow globals unit storage ty (more tree (more sign (more next (more comma others)))) rest h =
      by (is_word (t.Assign ∷ []) sign) (λ first grows. names_grow globals first storage ty others rest grows) (λ first grows. names_grow globals first storage ty (more next (more comma others)) rest grows)
    where
      by : (b : Bool) → ((first : UnitState) → UnitGrows first → Whole UnitGrows (declared_from globals first storage ty others rest))
          → ((first : UnitState) → UnitGrows first → Whole UnitGrows (declared_from globals first storage ty (more next (more comma others)) rest))
          → Whole UnitGrows (if b then (declared_one globals unit storage ty tree (Some next) rest >>= (λ first. declared_from globals first storage ty others rest)) else (declared_one globals unit storage ty tree None rest >>= (λ first. declared_from globals first storage ty (more next (more comma others)) rest)))
      by true behind both = whole_then UnitGrows UnitGrows (declared_one globals unit storage ty tree (Some next) rest) (λ first. declared_from globals first storage ty others rest) (one_grows globals unit storage ty tree (Some next) rest h) behind
      by false behind both = whole_then UnitGrows UnitGrows (declared_one globals unit storage ty tree None rest) (λ first. declared_from globals first storage ty (more next (more comma others)) rest) (one_grows globals unit storage ty tree None rest h) both

  -- ---- definitions

  defined_grows : (unit : UnitState) (storage : Storage) (ty : PlainType) (parts : PlainTrees) (name : PlainToken) (body : PlainTree) → UnitGrows unit
      → Whole UnitGrows (defined_function unit storage ty parts name body)
  defined_grows unit storage ty parts name body h =
      let finish : List Parameter → Scope → JudgedItems → Checked UnitState = λ parameters scope items. give (with_defined (with_scope unit scope) name.text (function_body items.slots items.core)) in
      let block : List Parameter → Scope → Checked UnitState = λ parameters scope.
      judged_body (with_parameters (with_block scope) 0 parameters) (starred parts ty) (parameter_types parameters) body >>= finish parameters scope in
      whole_behind UnitGrows (declares (file_entity name.text)) _
      (λ bound. whole_behind UnitGrows (unless_so (is_result unit.scope (starred parts ty)) (result_kind unit.scope storage (starred parts ty) name (parameters_of true unit.scope (behind_word t.OpenParenthesis parts) name)) name) _
      (λ fits. whole_behind UnitGrows (new_function true unit.scope storage (starred parts ty) parts name)
      (λ parameters. with_name unit.scope name (function (signature_of (starred parts ty) parameters)) storage >>= block parameters)
      (λ parameters. whole_then ScopeGrows UnitGrows (with_name unit.scope name (function (signature_of (starred parts ty) parameters)) storage) (block parameters)
      (name_grows unit.scope name (function (signature_of (starred parts ty) parameters)) storage h)
      (λ scope grows. whole_behind UnitGrows (judged_body (with_parameters (with_block scope) 0 parameters) (starred parts ty) (parameter_types parameters) body) (finish parameters scope) (λ items. grows)))))

  function_still : (n : ℕ) (c : Checked UnitState) → Whole UnitGrows c → Whole UnitGrows (in_function n c)
  function_still n (fine unit bindings) h = h
  function_still n (refused kind token) h = h
  function_still n broken h = h

  -- ---- structs

  members_grow : (scope : Scope) (number : ℕ) (known : Members) (list : PlainTrees) → ScopeGrows scope → Whole (λ (a : AllMembers). ScopeGrows a.scope) (all_members scope number known list)
  members_grow scope number known none h = h
  members_grow scope number known (more (node kind (more (node words_kind words) (more (node list_kind declarators) (more end none)))) rest) h =
      whole_then (λ (b : Based). ScopeGrows b.scope) (λ (a : AllMembers). ScopeGrows a.scope) (based true scope words) _ (words_grow true scope words h)
      (λ base grows. whole_behind (λ (a : AllMembers). ScopeGrows a.scope) (members_from base.scope number known base.ty declarators) _ (λ first. members_grow base.scope number first rest grows))
  members_grow scope number known (more tree rest) h = tt

  struct_grows : (unit : UnitState) (words members : PlainTrees) → UnitGrows unit → Whole UnitGrows (defined_struct unit words members)
  struct_grows unit words members h =
      whole_behind UnitGrows (or_broken (name_in words)) _
      (λ tag. whole_behind UnitGrows (unless_so (not (is_defined_tag unit.scope (unit.scope.tags tag.text))) Redeclared tag) _
      (λ new. whole_then (λ (b : Based). ScopeGrows b.scope) UnitGrows (based true unit.scope words) _ (words_grow true unit.scope words h)
      (λ base grows. whole_then (λ (a : AllMembers). ScopeGrows a.scope) UnitGrows (all_members base.scope (number_of_struct base.ty) (record { members = []; numbers = no_entry; scalars = 0 }) members) _
      (members_grow base.scope (number_of_struct base.ty) (record { members = []; numbers = no_entry; scalars = 0 }) members grows)
      (λ all more_. has_through structs all.scope.structs (with_members_at (number_of_struct base.ty) all.known all.scope.structs) more_ (has_completed (number_of_struct base.ty) all.known all.scope.structs)))))

  -- ---- items

  declaration_grows : (globals : ℕ) (unit : UnitState) (words list behind : PlainTrees) → UnitGrows unit
      → Whole UnitGrows (based true unit.scope words >>= (λ base. declared_from globals (with_scope unit base.scope) (storage_of words) base.ty list behind))
  declaration_grows globals unit words list behind h =
      whole_then (λ (b : Based). ScopeGrows b.scope) UnitGrows (based true unit.scope words) (λ base. declared_from globals (with_scope unit base.scope) (storage_of words) base.ty list behind) (words_grow true unit.scope words h)
      (λ base grows. names_grow globals (with_scope unit base.scope) (storage_of words) base.ty list behind grows)

  alone_grows : (unit : UnitState) (words : PlainTrees) → UnitGrows unit → Whole UnitGrows (based true unit.scope words >>= (λ base. give (with_scope unit base.scope)))
  alone_grows unit words h = whole_then (λ (b : Based). ScopeGrows b.scope) UnitGrows (based true unit.scope words) (λ base. give (with_scope unit base.scope)) (words_grow true unit.scope words h) (λ base grows. grows)

  definition_grows : (unit : UnitState) (words parts : PlainTrees) (body : PlainTree) → UnitGrows unit
      → Whole UnitGrows (based false unit.scope words >>= (λ base. or_broken (name_in parts) >>= (λ name. in_function (count_functions unit.defined) (defined_function unit (storage_of words) base.ty parts name body))))
  definition_grows unit words parts body h =
      whole_behind UnitGrows (based false unit.scope words) (λ base. or_broken (name_in parts) >>= (λ name. in_function (count_functions unit.defined) (defined_function unit (storage_of words) base.ty parts name body)))
      (λ base. whole_behind UnitGrows (or_broken (name_in parts)) (λ name. in_function (count_functions unit.defined) (defined_function unit (storage_of words) base.ty parts name body))
      (λ name. function_still (count_functions unit.defined) (defined_function unit (storage_of words) base.ty parts name body) (defined_grows unit (storage_of words) base.ty parts name body h)))

  pub item_grows : (globals : ℕ) (unit : UnitState) (tree : PlainTree) (rest : PlainTrees) → UnitGrows unit → Whole UnitGrows (judged_item globals unit tree rest)
  item_grows globals unit (node k.StructDefinition (more (node tag_kind words) (more brace (more (node list_kind members) others)))) rest h = struct_grows unit words members h
  item_grows globals unit (node k.StructDeclaration (more (node tag_kind words) (more end none))) rest h = alone_grows unit words h
  item_grows globals unit (node k.Declaration (more (node words_kind words) (more (node list_kind declarators) (more end none)))) rest h = declaration_grows globals unit words declarators rest h
  item_grows globals unit (node k.Function (more (node words_kind words) (more (node list_kind (more (node kind parts) none)) (more body none)))) rest h = definition_grows unit words parts body h
  item_grows globals unit tree rest h = tt
