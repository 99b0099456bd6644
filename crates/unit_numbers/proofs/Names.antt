-- Declarations at file scope bind what is known, but for the struct that their words may declare.
use Rattle.std.proofs.Common.{◌≡◌, ℕ, ◌+◌, Bool, true, false, List, [], ◌∷◌, ◌++◌, refl, sym, ap, subst, ◌∙◌, length}
use Rattle.std.specs.Prelude.{Option, Some, None, is_some, not, ◌&&◌, if◌then◌else◌}
use Rattle.c_text.specs.Token.{PlainToken}
use Rattle.c_types.specs.Types.{PlainType, pointer_to}
use Rattle.c_tree.specs.declared.kinds.Kind.{Kind}
use Rattle.c_tree.specs.declared.kinds.Kind.TheVariants as k
use Rattle.c_tree.specs.declared.terminals.Terminal.TheVariants as t
use Rattle.c_tree.specs.Trees.{PlainTree, PlainTrees, leaf, node, none, more}
use Rattle.c_tree.specs.Grammar.{is_word, is_lone_void}
use Rattle.core_meaning.specs.declared.refusals.TypeKind.TheVariants.{Redeclared, Incomplete, BadConstant}
use Rattle.core_meaning.specs.Checking.{file_entity, own_entity, Binding, Checked, fine, refused, broken, ◌>>=◌, give, unless_so, or_broken, declares}
use Rattle.core_meaning.specs.Entities.{Local, Scope, local_in, Sort, variable, function, FileName}
use Rattle.core_meaning.specs.Typing.{is_complete}
use Rattle.core_meaning.specs.Expressions.{first_token_in}
use Rattle.core_meaning.specs.Constancy.{judged_count, is_small, initial}
use Rattle.core_meaning.specs.Declarations.{based, name_in, behind_word, starred, object_type, Parameter, token_of, is_new_parameter, declares_name, count_of_size, is_left_out, size_of_parameter, parameter_type, may_be_parameter, judged_parameter, declared_parameter, one_parameter, with_local, with_parameter, with_block, parameters_from, parameters_in, parameters_of}
use Rattle.core_meaning.specs.UnitNames.{object_body, tentative_body, Body, is_function_body, Defined, UnitState, Storage, by_static, by_extern, by_none, same_sort, same_bool, linkage, declared_again, declared_as, with_name, may_be_incomplete, judged_global, constant_parts, with_defined, with_scope, defined_object, declared_object, parameter_types, signature_of, refused_initialiser, may_be_function, new_function, declared_function, declared_one, declared_from, count_functions}
use Rattle.bindings.proofs.Types.{Made, AllMade, MadeSort}
use Rattle.bindings.proofs.Operators.{Anything}
use Rattle.entity_numbers.proofs.Uses.{Sense, Gives, gives_then, gives_if, binds_give, All, Binds, Allows, if_binds, unless_then, unless_binds, some_binds}
use Rattle.entity_numbers.proofs.Initialisers.{made_starred, object_gives, whole_object_binds, initial_binds}
use Rattle.entity_numbers.proofs.Slots.{Base, BasedOn, local_found}
use Rattle.entity_numbers.proofs.Functions.{MadeParameter, Keeps, keeps_itself, name_kept, based_in}
use Rattle.bound_slots.specs.Laws.{SizesBindNothing}
use Rattle.unit_numbers.proofs.Fitting.{known_words}

module _ (K : Sense) (counts : SizesBindNothing) (names : (name : List ℕ) → K.knows (file_entity name)) (own : K.knows own_entity) where
  abbrev MadeParameters : List Parameter → Type 0
  MadeParameters ps = AllMade K.tags (parameter_types ps)

  -- what is visible at file scope and in a list of parameters
  pub record Sees (s : Scope) : Type 0 where
    pub base : Base K s
    pub locals : (name : List ℕ) (l : Local) → local_in s.blocks name ≡ Some l → Made K.tags l.ty

  -- what is visible at file scope, where nothing is local
  pub record AtFile (s : Scope) : Type 0 where
    pub base : Base K s
    pub outside : (name : List ℕ) (l : Local) → local_in s.blocks name ≡ Some l → ⊥

  allows : (s : Scope) → AtFile s → Allows K.knows K.tags s
  allows s h = record { locals = λ name l e. absurd (h.outside name l e); files = h.base.files; members = h.base.members }

  seen_at_file : (s : Scope) → AtFile s → Sees s
  seen_at_file s h = record { base = h.base; locals = λ name l e. absurd (h.outside name l e) }

  binds_first : {A B : Type 0} (W : B → Type 0) (c : Checked A) (f : A → Checked B) → Binds K.knows c → ((x : A) → Gives K.knows W (f x)) → Gives K.knows W (c >>= f)
  binds_first W c f h g = gives_then K.knows Anything W c f (binds_give K.knows c h) (λ x u. g x)

  -- ---- the parameters of a declaration that defines no function, whose sizes bind nothing

  count_binds : (c : Checked ℕ) → ((n : ℕ) (js : List Binding) → c ≡ fine n js → js ≡ []) → Binds K.knows c
  count_binds (fine n js) h = record { all = subst (λ (l : List Binding). All K.knows l) (sym (h n js refl)) tt }
  count_binds (refused kind token) h = record { all = tt }
  count_binds broken h = record { all = tt }

  size_binds : (s : Scope) (name : PlainToken) (o : Option PlainTree) → Binds K.knows (count_of_size s name o)
  size_binds s name None = record { all = tt }
  size_binds s name (Some size) = count_binds (judged_count s size name) (λ n js e. counts s size name n js e)

  array_declared : (s : Scope) (ty : PlainType) (kind : Kind) (parts : PlainTrees) (name : PlainToken) → Made K.tags ty → Gives K.knows (Made K.tags) (parameter_type s ty kind parts name)
  array_declared s ty k.ArrayDeclarator parts name made =
      binds_first (Made K.tags) (unless_so (is_complete s.structs (starred parts ty)) Incomplete name) (λ complete. size_of_parameter s name (behind_word t.OpenBracket parts) >>= (λ count. give (pointer_to (starred parts ty))))
      (unless_binds K.knows (is_complete s.structs (starred parts ty)) Incomplete name)
      (λ x. binds_first (Made K.tags) (size_of_parameter s name (behind_word t.OpenBracket parts)) (λ count. give (pointer_to (starred parts ty)))
      (if_binds K.knows (is_left_out (behind_word t.OpenBracket parts)) _ _ (record { all = tt }) (size_binds s name (behind_word t.OpenBracket parts))) (λ count. record { given_ = (tt, made_starred K.tags parts ty made) }))
  array_declared s ty k.Declarator parts name made = record { given_ = (tt, made_starred K.tags parts ty made) }
  array_declared s ty _ parts name made = record { given_ = tt }

  whole_binds : (s : Scope) (ty : PlainType) (name : PlainToken) → Binds K.knows (judged_parameter false s ty name)
  whole_binds s ty name = unless_then K.knows (may_be_parameter false s ty) Incomplete name _ (λ x. unless_binds K.knows (is_small s.structs ty) BadConstant name)

  name_binds : (o : Option PlainToken) → Binds K.knows (declares_name o own_entity)
  name_binds None = record { all = tt }
  name_binds (Some name) = record { all = (own, tt) }

  new_declared :
      (s : Scope) (before : List Parameter) (ty : PlainType) (first : PlainToken) (kind : Kind) (parts : PlainTrees) (o : Option PlainToken) → Made K.tags ty → Sees s
      → Gives {A = Parameter} K.knows (MadeParameter K) (unless_so (is_new_parameter before o) Redeclared (token_of o first) >>= (λ new. declares_name o own_entity >>= (λ bound. parameter_type s ty kind parts (token_of o first)
      >>= (λ whole. judged_parameter false s whole (token_of o first) >>= (λ judged_. give (record { name = o; ty = whole }))))))
  new_declared s before ty first kind parts o made h =
      binds_first (MadeParameter K) (unless_so (is_new_parameter before o) Redeclared (token_of o first))
      (λ new. declares_name o own_entity >>= (λ bound. parameter_type s ty kind parts (token_of o first) >>= (λ whole. judged_parameter false s whole (token_of o first) >>= (λ judged_. give (record { name = o; ty = whole })))))
      (unless_binds K.knows (is_new_parameter before o) Redeclared (token_of o first))
      (λ x. binds_first (MadeParameter K) (declares_name o own_entity) (λ bound. parameter_type s ty kind parts (token_of o first) >>= (λ whole. judged_parameter false s whole (token_of o first) >>= (λ judged_. give (record { name = o; ty = whole })))) (name_binds o)
      (λ y. gives_then K.knows (Made K.tags) (MadeParameter K) (parameter_type s ty kind parts (token_of o first)) (λ whole. judged_parameter false s whole (token_of o first) >>= (λ judged_. give (record { name = o; ty = whole }))) (array_declared s ty kind parts (token_of o first) made)
      (λ whole whole_made. binds_first (MadeParameter K) (judged_parameter false s whole (token_of o first)) (λ judged_. give (record { name = o; ty = whole })) (whole_binds s whole (token_of o first)) (λ z. record { given_ = (tt, whole_made) }))))

  parameter_declared : (s : Scope) (before : List Parameter) (ty : PlainType) (first : PlainToken) (tree : PlainTree) → Made K.tags ty → Sees s → Gives K.knows (MadeParameter K) (declared_parameter false s before ty first tree)
  parameter_declared s before ty first (node k.Absent parts) made h =
      binds_first (MadeParameter K) (judged_parameter false s ty first) (λ judged_. give (record { name = None; ty = ty })) (whole_binds s ty first) (λ x. record { given_ = (tt, made) })
  parameter_declared s before ty first (node kind parts) made h = new_declared s before ty first kind parts (name_in parts) made h
  parameter_declared s before ty first (leaf token) made h = record { given_ = tt }

  one_declared : (s : Scope) (before : List Parameter) (tree : PlainTree) (at : PlainToken) → Sees s → Gives K.knows (MadeParameter K) (one_parameter false s before tree at)
  one_declared s before (node kind (more (node words_kind words) (more declarator none))) at h =
      gives_then K.knows (BasedOn K s) (MadeParameter K) (based false s words) (λ base. declared_parameter false s before base.ty (first_token_in words at) declarator) (known_words K s words h.base)
      (λ b e. parameter_declared s before b.ty (first_token_in words at) declarator e.made h)
  one_declared s before _ at h = record { given_ = tt }

  with_local_sees : (s : Scope) (name : List ℕ) (n : ℕ) (ty : PlainType) → Made K.tags ty → Sees s → Sees (with_local s name n ty)
  with_local_sees s name n ty made h = record {
    base = record { files = h.base.files; members = h.base.members; tags = h.base.tags };
    locals = λ other l e. local_found K (λ (m : Local). Made K.tags m.ty) s.blocks name other (record { slot = n; ty = ty }) l made (λ m f. h.locals other m f) e;
  }

  with_parameter_sees : (s : Scope) (n : ℕ) (name : Option PlainToken) (ty : PlainType) → Made K.tags ty → Sees s → Sees (with_parameter s n name ty)
  with_parameter_sees s n None ty made h = h
  with_parameter_sees s n (Some name) ty made h = with_local_sees s name.text n ty made h

  one_more_made : (ps : List Parameter) (p : Parameter) → MadeParameters ps → MadeParameter K p → MadeParameters (ps ++ p ∷ [])
  one_more_made [] p h made = (made, tt)
  one_more_made (q ∷ ps) p h made = (h.0, one_more_made ps p h.1 made)

  all_declared : (parts : PlainTrees) (s : Scope) (before : List Parameter) (at : PlainToken) → MadeParameters before → Sees s → Gives K.knows MadeParameters (parameters_from false s before parts at)
  all_declared none s before at made h = record { given_ = (tt, made) }
  all_declared (more tree none) s before at made h =
      gives_then K.knows (MadeParameter K) MadeParameters (one_parameter false s before tree at) (λ p. give (before ++ p ∷ [])) (one_declared s before tree at h) (λ p v. record { given_ = (tt, one_more_made before p made v) })
  all_declared (more tree (more comma rest)) s before at made h =
      gives_then K.knows (MadeParameter K) MadeParameters (one_parameter false s before tree at) (λ p. parameters_from false (with_parameter s (length before) p.name p.ty) (before ++ p ∷ []) rest at) (one_declared s before tree at h)
      (λ p v. all_declared rest (with_parameter s (length before) p.name p.ty) (before ++ p ∷ []) at (one_more_made before p made v) (with_parameter_sees s (length before) p.name p.ty v h))

  list_declared : (s : Scope) (tree : PlainTree) (at : PlainToken) → Sees s → Gives K.knows MadeParameters (parameters_in false s tree at)
  list_declared s (node k.Parameters parts) at h =
      gives_if K.knows MadeParameters (is_lone_void parts) (give []) (parameters_from false (with_block s) [] parts at) (record { given_ = (tt, tt) })
      (all_declared parts (with_block s) [] at tt (record { base = record { files = h.base.files; members = h.base.members; tags = h.base.tags }; locals = h.locals }))
  list_declared s _ at h = record { given_ = (tt, tt) }

  parameters_declared : (s : Scope) (o : Option PlainTree) (at : PlainToken) → Sees s → Gives K.knows MadeParameters (parameters_of false s o at)
  parameters_declared s None at h = record { given_ = tt }
  parameters_declared s (Some tree) at h = list_declared s tree at h

  -- ---- names of file scope

  again_kept : (s : Scope) (name : PlainToken) (sort : Sort) (internal : Bool) (v : FileName) → Gives K.knows (Keeps K s) (declared_again s name sort internal v)
  again_kept s name sort internal v =
      binds_first (Keeps K s) (unless_so (same_sort v.sort sort && same_bool v.internal internal) Redeclared name) (λ same. give s) (unless_binds K.knows (same_sort v.sort sort && same_bool v.internal internal) Redeclared name)
      (λ x. record { given_ = (tt, keeps_itself K s) })

  as_kept : (s : Scope) (name : PlainToken) (sort : Sort) (internal : Bool) (o : Option FileName) → MadeSort K.tags sort → Gives K.knows (Keeps K s) (declared_as s name sort internal o)
  as_kept s name sort internal (Some v) made = again_kept s name sort internal v
  as_kept s name sort internal None made = record { given_ = (tt, name_kept K s name.text (record { sort = sort; internal = internal }) (names name.text) made) }

  kept_sees : (s x : Scope) → Keeps K s x → AtFile s → AtFile x
  kept_sees s x e h = record {
    base = based_in K s x e h.base;
    outside = λ name l is. h.outside name l (ap (λ blocks. local_in blocks name) (sym e.blocks) ∙ is);
  }

  -- ---- objects and declarations of functions

  pub record Kept (unit x : UnitState) : Type 0 where
    pub scope : Keeps K unit.scope x.scope
    pub functions : count_functions x.defined ≡ count_functions unit.defined

  kept_both : (x y z : UnitState) → Kept x y → Kept y z → Kept x z
  kept_both x y z f g = record {
    scope = record { blocks = g.scope.blocks ∙ f.scope.blocks; structs = g.scope.structs ∙ f.scope.structs; tags = g.scope.tags ∙ f.scope.tags; files = λ known_. g.scope.files (f.scope.files known_) };
    functions = g.functions ∙ f.functions;
  }

  no_function : (ds : List Defined) (name : List ℕ) (body : Body) → is_function_body body ≡ false → count_functions (ds ++ record { name = name; body = body } ∷ []) ≡ count_functions ds
  no_function [] name body e = ap (λ (b : Bool). (if b then 1 else 0) + 0) e
  no_function (d ∷ ds) name body e = ap (λ n. (if is_function_body d.body then 1 else 0) + n) (no_function ds name body e)

  scope_kept : (unit : UnitState) (s : Scope) → Keeps K unit.scope s → Kept unit (with_scope unit s)
  scope_kept unit s e = record { scope = e; functions = refl }

  defined_kept : (unit x : UnitState) (name : List ℕ) (body : Body) → is_function_body body ≡ false → Kept unit x → Kept unit (with_defined x name body)
  defined_kept unit x name body no_ e = record { scope = e.scope; functions = no_function x.defined name body no_ ∙ e.functions }

  object_defined :
      (globals : ℕ) (unit x : UnitState) (storage : Storage) (ty : PlainType) (name : PlainToken) (o : Option PlainTree) → Kept unit x → AtFile x.scope → Gives K.knows (Kept unit) (defined_object globals x storage ty name o)
  object_defined globals unit x by_extern ty name None e h = record { given_ = (tt, e) }
  object_defined globals unit x by_static ty name None e h = record { given_ = (tt, defined_kept unit x name.text tentative_body refl e) }
  object_defined globals unit x by_none ty name None e h = record { given_ = (tt, defined_kept unit x name.text tentative_body refl e) }
  object_defined globals unit x storage ty name (Some value) e h =
      binds_first (Kept unit) (initial x.scope (Some globals) ty [] value name) (λ parts. or_broken (constant_parts globals parts) >>= (λ values. give (with_defined x name.text (object_body values)))) (initial_binds K.knows K.tags x.scope (allows x.scope h) (Some globals) ty [] value name)
      (λ parts. binds_first (Kept unit) (or_broken (constant_parts globals parts)) (λ values. give (with_defined x name.text (object_body values))) (some_binds K.knows (constant_parts globals parts))
      (λ values. record { given_ = (tt, defined_kept unit x name.text (object_body values) refl e) }))

  global_binds : (storage : Storage) (given_ : Bool) (s : Scope) (ty : PlainType) (name : PlainToken) (rest : PlainTrees) → AtFile s → Binds K.knows (judged_global storage given_ s ty name rest)
  global_binds storage given_ s ty name rest h =
      if_binds K.knows (may_be_incomplete storage given_ s.structs ty rest && not (is_complete s.structs ty)) _ _ (record { all = tt }) (whole_object_binds K.knows K.tags s (allows s h) ty name)

  object_declared :
      (globals : ℕ) (unit : UnitState) (storage : Storage) (ty : PlainType) (kind : Kind) (parts : PlainTrees) (name : PlainToken) (o : Option PlainTree) (rest : PlainTrees) → Made K.tags ty → AtFile unit.scope
      → Gives K.knows (Kept unit) (declared_object globals unit storage ty kind parts name o rest)
  object_declared globals unit storage ty kind parts name o rest made h =
      binds_first (Kept unit) (declares (file_entity name.text))
      (λ bound. object_type unit.scope ty kind parts name o >>= (λ whole. with_name unit.scope name (variable whole) storage >>= (λ scope. judged_global storage (is_some o) scope whole name rest >>= (λ judged_. defined_object globals (with_scope unit scope) storage whole name o))))
      (record { all = (names name.text, tt) })
      (λ x. gives_then K.knows (Made K.tags) (Kept unit) (object_type unit.scope ty kind parts name o)
      (λ whole. with_name unit.scope name (variable whole) storage >>= (λ scope. judged_global storage (is_some o) scope whole name rest >>= (λ judged_. defined_object globals (with_scope unit scope) storage whole name o)))
      (object_gives K.knows K.tags unit.scope (allows unit.scope h) ty kind parts name o made)
      (λ whole whole_made. gives_then K.knows (Keeps K unit.scope) (Kept unit) (with_name unit.scope name (variable whole) storage) (λ scope. judged_global storage (is_some o) scope whole name rest >>= (λ judged_. defined_object globals (with_scope unit scope) storage whole name o))
      (as_kept unit.scope name (variable whole) (linkage storage false (unit.scope.file_names name.text)) (unit.scope.file_names name.text) whole_made)
      (λ scope e. binds_first (Kept unit) (judged_global storage (is_some o) scope whole name rest) (λ judged_. defined_object globals (with_scope unit scope) storage whole name o) (global_binds storage (is_some o) scope whole name rest (kept_sees unit.scope scope e h))
      (λ y. object_defined globals unit (with_scope unit scope) storage whole name o (scope_kept unit scope e) (kept_sees unit.scope scope e h)))))

  initialiser_binds : (o : Option PlainTree) (name : PlainToken) → Binds K.knows (refused_initialiser o name)
  initialiser_binds None name = record { all = tt }
  initialiser_binds (Some value) name = record { all = tt }

  function_declared :
      (unit : UnitState) (storage : Storage) (ty : PlainType) (parts : PlainTrees) (name : PlainToken) (o : Option PlainTree) → Made K.tags ty → AtFile unit.scope → Gives K.knows (Kept unit) (declared_function unit storage ty parts name o)
  function_declared unit storage ty parts name o made h =
      let result : PlainType = starred parts ty in
      binds_first (Kept unit) (declares (file_entity name.text))
      (λ bound. new_function false unit.scope storage result parts name >>= (λ parameters. with_name unit.scope name (function (signature_of result parameters)) storage >>= (λ scope. refused_initialiser o name >>= (λ none_given. give (with_scope unit scope)))))
      (record { all = (names name.text, tt) })
      (λ x. gives_then K.knows MadeParameters (Kept unit) (new_function false unit.scope storage result parts name)
      (λ parameters. with_name unit.scope name (function (signature_of result parameters)) storage >>= (λ scope. refused_initialiser o name >>= (λ none_given. give (with_scope unit scope))))
      (binds_first MadeParameters (unless_so (may_be_function storage result (unit.scope.file_names name.text)) Redeclared name) (λ new. parameters_of false unit.scope (behind_word t.OpenParenthesis parts) name)
      (unless_binds K.knows (may_be_function storage result (unit.scope.file_names name.text)) Redeclared name) (λ y. parameters_declared unit.scope (behind_word t.OpenParenthesis parts) name (seen_at_file unit.scope h)))
      (λ parameters parameters_made. gives_then K.knows (Keeps K unit.scope) (Kept unit) (with_name unit.scope name (function (signature_of result parameters)) storage) (λ scope. refused_initialiser o name >>= (λ none_given. give (with_scope unit scope)))
      (as_kept unit.scope name (function (signature_of result parameters)) (linkage storage true (unit.scope.file_names name.text)) (unit.scope.file_names name.text) (made_starred K.tags parts ty made, parameters_made))
      (λ scope e. binds_first (Kept unit) (refused_initialiser o name) (λ none_given. give (with_scope unit scope)) (initialiser_binds o name) (λ z. record { given_ = (tt, scope_kept unit scope e) }))))

  one_named :
      (globals : ℕ) (unit : UnitState) (storage : Storage) (ty : PlainType) (tree : PlainTree) (o : Option PlainTree) (rest : PlainTrees) → Made K.tags ty → AtFile unit.scope
      → Gives K.knows (Kept unit) (declared_one globals unit storage ty tree o rest)
  one_named globals unit storage ty (node k.FunctionDeclarator parts) o rest made h =
      binds_first (Kept unit) (or_broken (name_in parts)) (λ name. declared_function unit storage ty parts name o) (some_binds K.knows (name_in parts)) (λ name. function_declared unit storage ty parts name o made h)
  one_named globals unit storage ty (node kind parts) o rest made h =
      binds_first (Kept unit) (or_broken (name_in parts)) _ (some_binds K.knows (name_in parts)) (λ name. object_declared globals unit storage ty kind parts name o rest made h)
  one_named globals unit storage ty (leaf token) o rest made h = record { given_ = tt }

  first_named :
      (globals : ℕ) (unit : UnitState) (storage : Storage) (ty : PlainType) (tree : PlainTree) (o : Option PlainTree) (others rest : PlainTrees) → Made K.tags ty → AtFile unit.scope
      → ((x : UnitState) → AtFile x.scope → Gives K.knows (Kept x) (declared_from globals x storage ty others rest))
      → Gives K.knows (Kept unit) (declared_one globals unit storage ty tree o rest >>= (λ first. declared_from globals first storage ty others rest))
  first_named globals unit storage ty tree o others rest made h g =
      gives_then K.knows (Kept unit) (Kept unit) (declared_one globals unit storage ty tree o rest) (λ first. declared_from globals first storage ty others rest) (one_named globals unit storage ty tree o rest made h)
      (λ x e. gives_as (Kept x) (Kept unit) (declared_from globals x storage ty others rest) (g x (kept_sees unit.scope x.scope e.scope h)) (λ y f. kept_both unit x y e f))
    where
      gives_as : {A : Type 0} (V W : A → Type 0) (c : Checked A) → Gives K.knows V c → ((x : A) → V x → W x) → Gives K.knows W c
      gives_as V W (fine x js) h f = record { given_ = (h.given_.0, f x h.given_.1) }
      gives_as V W (refused kind token) h f = record { given_ = tt }
      gives_as V W broken h f = record { given_ = tt }

  pub names_declared :
      (parts : PlainTrees) (globals : ℕ) (unit : UnitState) (storage : Storage) (ty : PlainType) (rest : PlainTrees) → Made K.tags ty → AtFile unit.scope → Gives K.knows (Kept unit) (declared_from globals unit storage ty parts rest)
  names_declared none globals unit storage ty rest made h = record { given_ = tt }
  names_declared (more tree none) globals unit storage ty rest made h = one_named globals unit storage ty tree None rest made h
  names_declared (more tree (more sign none)) globals unit storage ty rest made h = record { given_ = tt }
  names_declared (more tree (more sign (more next_ none))) globals unit storage ty rest made h =
      gives_if K.knows (Kept unit) (is_word (t.Assign ∷ []) sign) _ _ (one_named globals unit storage ty tree (Some next_) rest made h)
      (first_named globals unit storage ty tree None (more next_ none) rest made h (λ x b. names_declared (more next_ none) globals x storage ty rest made b))
  names_declared (more tree (more sign (more next_ (more comma others)))) globals unit storage ty rest made h =
      gives_if K.knows (Kept unit) (is_word (t.Assign ∷ []) sign) _ _ (first_named globals unit storage ty tree (Some next_) others rest made h (λ x b. names_declared others globals x storage ty rest made b))
      (first_named globals unit storage ty tree None (more next_ (more comma others)) rest made h (λ x b. names_declared (more next_ (more comma others)) globals x storage ty rest made b))
