-- Units that are alike: their declarations and definitions leave what corresponds (`SameUnit`): structs that are alike, names of file scope with the
-- same meaning where they correspond, in the same order, and definitions of names that correspond with the same bodies.
use Rattle.std.proofs.Common.{◌≡◌, ℕ, zero, suc, ◌<◌, Bool, true, false, List, [], ◌∷◌, ◌++◌, map, refl, sym, ap, subst, ◌∙◌, length, arith}
use Rattle.std.specs.Prelude.{Option, Some, None, is_some, option_map, not, if◌then◌else◌, ◌&&◌}
use Rattle.std.specs.Str.{bytes_eq}
use Rattle.std.specs.List.{AllZip}
use Rattle.std.proofs.lemmas.Bool.{false≢true}
use Rattle.std.proofs.lemmas.List.{map-append}
use Rattle.c_text.specs.Token.{PlainToken}
use Rattle.c_types.specs.Types.{PlainType}
use Rattle.c_types.specs.Tags.{PlainMember}
use Rattle.c_tree.specs.declared.kinds.Kind.{Kind}
use Rattle.c_tree.specs.declared.kinds.Kind.TheVariants as k
use Rattle.c_tree.specs.declared.terminals.Terminal.TheVariants as t
use Rattle.c_tree.specs.Trees.{PlainTree, PlainTrees, leaf, none, more}
use Rattle.c_tree.specs.Grammar.{Role, member_of, declarator, member, block, is_word}
use Rattle.core_meaning.specs.declared.refusals.TypeKind.TheVariants.{Redeclared, Incomplete}
use Rattle.core_meaning.specs.Program.{PlainPart, PlainConstantPart}
use Rattle.core_meaning.specs.Program as core
use Rattle.core_meaning.specs.Checking.{file_entity, member_entity, ◌>>=◌, give}
use Rattle.core_meaning.specs.Entities.{Table, no_entry, with_entry, Struct, Signature, Sort, variable, function, FileName, Scope}
use Rattle.core_meaning.specs.Typing.{is_complete}
use Rattle.core_meaning.specs.Expressions.{has_terminal}
use Rattle.core_meaning.specs.Constancy.{Initial, initial, first_scalar}
use Rattle.core_meaning.specs.Declarations.{name_in, behind_word, based, starred, object_type, Parameter, parameters_of, plain_part, judged_object, with_block}
use Rattle.core_meaning.specs.Statements.{JudgedItems, items_as}
use Rattle.core_meaning.specs.UnitNames.{Body, object_body, tentative_body, function_body, Defined, UnitState, Storage, by_static, by_extern, by_none, storage_of, is_function, same_sort, same_bool, linkage, with_file_name, declared_as, with_name, may_be_incomplete, judged_global, constant_parts, with_defined, with_scope, defined_object, declared_object, parameter_types, signature_of, refused_initialiser, may_be_function, new_function, declared_function, declared_one, declared_from, with_parameters, is_result, result_kind, judged_body, defined_function, Members, with_member, declared_member, one_member, members_from, AllMembers, all_members, with_members_at, is_defined_tag, number_of_struct, defined_struct}
use Rattle.tree_derivations.specs.Derivations.{Derivation, single, made_of, a_row, at_end, a_word, a_part, left_out, given, one_or_more, declarators_of, Declared, last_plain, last_initialised, next_plain, next_initialised, Each, no_more, one_more}
use Rattle.renamed_programs.specs.Trees.{SameButNames, AllSameButNames, same_leaf, same_node, same_end, same_more}
use Rattle.renamed_programs.proofs.Alike.{Naming, Alike, Quiet, alike_equal, alike_tests, alike_somes, alike_somes_same, alike_give, alike_broken, alike_declares, alike_then, alike_any, alike_quiet}
use Rattle.renamed_programs.proofs.Scopes.{SameStructs, AlikeScopes, zip_append, member_types}
use Rattle.renamed_programs.proofs.Expressions.{same_terminals}
use Rattle.renamed_programs.proofs.Constants.{SameParts, initial_alike}
use Rattle.renamed_programs.proofs.Declarators.{Sizes, ParametersBehind, array_sizes, function_parameters, starred_same, Values, no_value, a_value, object_alike, SameBase, based_alike}
use Rattle.renamed_programs.proofs.Locals.{taken, passed_by, sign_is, no_sign}
use Rattle.renamed_programs.proofs.Parameters.{SameTypes, parameters_visible, parameters_alike}
use Rattle.renamed_programs.proofs.Statements.{SameItems, items_alike}
use Rattle.renamed_programs.proofs.Locals.{grown_none}

-- ---- names of file scope

-- names correspond one to one
abbrev pub OneToOne : Naming → Type 0
OneToOne named = (a b x y : List ℕ) → named a b → named x y → bytes_eq x a ≡ bytes_eq y b

pub storage_same : (words others : PlainTrees) → AllSameButNames words others → storage_of words ≡ storage_of others
storage_same words others e =
    ap (λ x. if x then by_static else if has_terminal t.Extern words then by_extern else by_none) (same_terminals t.Static words others e)
    ∙ ap (λ x. if has_terminal t.Static others then by_static else if x then by_extern else by_none) (same_terminals t.Extern words others e)

-- the values of parts that don't depend on where they stand
abbrev values_of : ℕ → List PlainPart → Option (List PlainConstantPart)
values_of globals [] = Some []
values_of globals (p ∷ rest) =
    elim (first_scalar globals p.value) as (λ x. Option (List PlainConstantPart)) [
      | None ↦ None
      | Some v ↦ option_map (λ others. record { path = p.path; value = v } ∷ others) (values_of globals rest)
    ]

values_are : (globals : ℕ) (parts : List Initial) → constant_parts globals parts ≡ values_of globals (map plain_part parts)
values_are globals [] = refl
values_are globals (i ∷ rest) =
    ap
    (λ (l : Option (List PlainConstantPart)). elim (first_scalar globals i.value) as (λ x. Option (List PlainConstantPart)) [
      | None ↦ None
      | Some v ↦ option_map (λ others. record { path = i.path; value = v } ∷ others) l
    ])
    (values_are globals rest)

values_same : (globals : ℕ) (xs ys : List Initial) → SameParts xs ys → constant_parts globals xs ≡ constant_parts globals ys
values_same globals xs ys e = values_are globals xs ∙ ap (values_of globals) e ∙ sym (values_are globals ys)

module _ (named : Naming) (one_to_one : OneToOne named) where
  entry_same :
      (table other : Table FileName) (a b x y : List ℕ) (n : FileName) → named a b → named x y → table x ≡ other y → with_entry table a n x ≡ with_entry other b n y
  entry_same table other a b x y n names these e =
      ap (λ (same_ : Bool). if same_ then Some n else table x) (one_to_one a b x y names these) ∙ ap (λ l. if bytes_eq y b then Some n else l) e

  file_name_alike : (s u : Scope) (a b : List ℕ) (n : FileName) → named a b → AlikeScopes named [] s u → AlikeScopes named [] (with_file_name s a n) (with_file_name u b n)
  file_name_alike s u a b n names h = record {
    structs = h.structs;
    names = λ x y these. entry_same s.file_names u.file_names a b x y n names these (h.names x y these);
    order = zip_append named s.order u.order (a ∷ []) (b ∷ []) h.order (names, tt);
    locals = h.locals;
    other_locals = h.other_locals;
    tags = h.tags;
    other_tags = h.other_tags;
    numbers = h.numbers;
  }

  abbrev pub ScopesAfter : Scope → Scope → Type 0
  ScopesAfter x y = AlikeScopes named [] x y

  as_alike :
      (s u : Scope) (a b : PlainToken) (sort : Sort) (storage : Storage) (x y : Option FileName) → x ≡ y → named a.text b.text → AlikeScopes named [] s u
      → Alike named ScopesAfter (declared_as s a sort (linkage storage (is_function sort) x) x) (declared_as u b sort (linkage storage (is_function sort) y) y)
  as_alike s u a b sort storage (Some m) (Some n) e names h =
      alike_tests named ScopesAfter (same_sort m.sort sort && same_bool m.internal (linkage storage (is_function sort) (Some m))) (same_sort n.sort sort && same_bool n.internal (linkage storage (is_function sort) (Some n))) Redeclared Redeclared a b _ _
      (λ x y. alike_give named ScopesAfter s u h)
  as_alike s u a b sort storage None None e names h =
      let n : FileName = record { sort = sort; internal = linkage storage (is_function sort) None } in
      alike_give named ScopesAfter (with_file_name s a.text n) (with_file_name u b.text n) (file_name_alike s u a.text b.text n names h)
  as_alike s u a b sort storage (Some m) None e names h = absurd cc
  as_alike s u a b sort storage None (Some n) e names h = absurd cc

  name_alike : (s u : Scope) (a b : PlainToken) (sort : Sort) (storage : Storage) → named a.text b.text → AlikeScopes named [] s u → Alike named ScopesAfter (with_name s a sort storage) (with_name u b sort storage)
  name_alike s u a b sort storage names h = as_alike s u a b sort storage (s.file_names a.text) (u.file_names b.text) (h.names a.text b.text names) names h

  -- ---- what a unit leaves

  pub record SameDefined (d e : Defined) : Type 0 where
    pub names : named d.name e.name
    pub body : d.body ≡ e.body

  pub record SameUnit (x y : UnitState) : Type 0 where
    pub scopes : AlikeScopes named [] x.scope y.scope
    pub defined : AllZip SameDefined x.defined y.defined

  pub scope_alike : (x y : UnitState) (s u : Scope) → SameUnit x y → AlikeScopes named [] s u → SameUnit (with_scope x s) (with_scope y u)
  scope_alike x y s u h g = record { scopes = g; defined = h.defined }

  defined_alike : (x y : UnitState) (a b : List ℕ) (body other : Body) → SameUnit x y → named a b → body ≡ other → SameUnit (with_defined x a body) (with_defined y b other)
  defined_alike x y a b body other h names e = record {
    scopes = h.scopes;
    defined = zip_append SameDefined x.defined y.defined (record { name = a; body = body } ∷ []) (record { name = b; body = other } ∷ []) h.defined (record { names = names; body = e }, tt);
  }

  -- ---- objects

  global_quiet : (storage : Storage) (initialised : Bool) (scope : Scope) (ty : PlainType) (name : PlainToken) (rest : PlainTrees) → Quiet named (judged_global storage initialised scope ty name rest)
  global_quiet storage initialised scope ty name rest = by (may_be_incomplete storage initialised scope.structs ty rest && not (is_complete scope.structs ty))
    where
      by : (b : Bool) → Quiet named (if b then give tt else judged_object scope ty name)
      by true = refl
      by false = Rattle.renamed_programs.proofs.Locals.object_quiet named scope ty name

  object_defined :
      (globals : ℕ) (x y : UnitState) (storage : Storage) (ty : PlainType) (a b : PlainToken) {value other : Option PlainTree} → SameUnit x y → named a.text b.text → Values value other
      → Alike named SameUnit (defined_object globals x storage ty a value) (defined_object globals y storage ty b other)
  object_defined globals x y by_extern ty a b h names no_value = alike_give named SameUnit x y h
  object_defined globals x y by_static ty a b h names no_value = alike_give named SameUnit (with_defined x a.text tentative_body) (with_defined y b.text tentative_body) (defined_alike x y a.text b.text tentative_body tentative_body h names refl)
  object_defined globals x y by_none ty a b h names no_value = alike_give named SameUnit (with_defined x a.text tentative_body) (with_defined y b.text tentative_body) (defined_alike x y a.text b.text tentative_body tentative_body h names refl)
  object_defined globals x y storage ty a b h names (a_value {tree = tree} {other = other} d e) =
      alike_then named SameParts SameUnit (initial x.scope (Some globals) ty [] tree a) (initial y.scope (Some globals) ty [] other b) _ _ (initial_alike named [] x.scope y.scope h.scopes (Some globals) d e ty [] a b)
      (λ xs ys i. alike_somes_same named SameUnit (constant_parts globals xs) (constant_parts globals ys) _ _ (values_same globals xs ys i)
      (λ values. alike_give named SameUnit (with_defined x a.text (object_body values)) (with_defined y b.text (object_body values)) (defined_alike x y a.text b.text (object_body values) (object_body values) h names refl)))

  object_declared :
      (globals : ℕ) (x y : UnitState) (storage : Storage) (ty : PlainType) (kind : Kind) (parts others : PlainTrees) (a b : PlainToken) {value other : Option PlainTree} (rest behind : PlainTrees) → SameUnit x y
      → AllSameButNames parts others → (kind ≡ k.ArrayDeclarator → Sizes parts others) → Values value other
      → Alike named SameUnit (declared_object globals x storage ty kind parts a value rest) (declared_object globals y storage ty kind others b other behind)
  object_declared globals x y storage ty kind parts others a b {value} {other} rest behind h e sizes v =
      alike_declares named SameUnit (file_entity a.text) (file_entity b.text) _ _
      (λ names x1 y1. alike_equal named SameUnit (object_type x.scope ty kind parts a value) (object_type y.scope ty kind others b other) _ _ (object_alike named [] x.scope y.scope h.scopes ty kind parts others e sizes v a b)
      (λ whole. alike_then named ScopesAfter SameUnit (with_name x.scope a (variable whole) storage) (with_name y.scope b (variable whole) storage) _ _ (name_alike x.scope y.scope a b (variable whole) storage names h.scopes)
      (λ s u g. alike_any named SameUnit (judged_global storage (is_some value) s whole a rest) (judged_global storage (is_some other) u whole b behind) _ _
      (alike_quiet named (judged_global storage (is_some value) s whole a rest) (judged_global storage (is_some other) u whole b behind) (global_quiet storage (is_some value) s whole a rest) (global_quiet storage (is_some other) u whole b behind))
      (λ x2 y2. object_defined globals (with_scope x s) (with_scope y u) storage whole a b (scope_alike x y s u h g) names v))))

  -- ---- functions

  new_alike :
      (defining : Bool) (s u : Scope) (storage : Storage) (result other : PlainType) (parts others : PlainTrees) (a b : PlainToken) → ParametersBehind parts others → AlikeScopes named [] s u
      → Alike named SameTypes (new_function defining s storage result parts a) (new_function defining u storage other others b)
  new_alike defining s u storage result other parts others a b e h =
      alike_tests named SameTypes (may_be_function storage result (s.file_names a.text)) (may_be_function storage other (u.file_names b.text)) Redeclared Redeclared a b _ _ (λ x y. parameters_alike named defining e s u a b h)

  initialiser_quiet : (value : Option PlainTree) (name : PlainToken) → Quiet named (refused_initialiser value name)
  initialiser_quiet None name = refl
  initialiser_quiet (Some value) name = tt

  signature_same : (a b : PlainType) (ps qs : List Parameter) → a ≡ b → SameTypes ps qs → signature_of a ps ≡ signature_of b qs
  signature_same a b ps qs e f =
      ap (λ ty. let x : Signature = record { result = ty; parameters = parameter_types ps } in x) e ∙ ap (λ l. let x : Signature = record { result = b; parameters = l } in x) f

  function_name :
      (s u : Scope) (a b : PlainToken) (f g : Signature) (storage : Storage) → f ≡ g → named a.text b.text → AlikeScopes named [] s u
      → Alike named ScopesAfter (with_name s a (function f) storage) (with_name u b (function g) storage)
  function_name s u a b f g storage e names h = subst (λ x. Alike named ScopesAfter (with_name s a (function f) storage) (with_name u b (function x) storage)) e (name_alike s u a b (function f) storage names h)

  function_declared :
      (x y : UnitState) (storage : Storage) (ty : PlainType) (parts others : PlainTrees) (a b : PlainToken) (value other : Option PlainTree) → SameUnit x y → AllSameButNames parts others → ParametersBehind parts others
      → Alike named SameUnit (declared_function x storage ty parts a value) (declared_function y storage ty others b other)
  function_declared x y storage ty parts others a b value other h e list =
      alike_declares named SameUnit (file_entity a.text) (file_entity b.text) _ _
      (λ names x1 y1. alike_then named SameTypes SameUnit (new_function false x.scope storage (starred parts ty) parts a) (new_function false y.scope storage (starred others ty) others b) _ _
      (new_alike false x.scope y.scope storage (starred parts ty) (starred others ty) parts others a b list h.scopes)
      (λ ps qs f. alike_then named ScopesAfter SameUnit (with_name x.scope a (function (signature_of (starred parts ty) ps)) storage) (with_name y.scope b (function (signature_of (starred others ty) qs)) storage) _ _
      (function_name x.scope y.scope a b (signature_of (starred parts ty) ps) (signature_of (starred others ty) qs) storage (signature_same (starred parts ty) (starred others ty) ps qs (starred_same parts others ty e) f) names h.scopes)
      (λ s u g. alike_any named SameUnit (refused_initialiser value a) (refused_initialiser other b) _ _
      (alike_quiet named (refused_initialiser value a) (refused_initialiser other b) (initialiser_quiet value a) (initialiser_quiet other b))
      (λ x2 y2. alike_give named SameUnit (with_scope x s) (with_scope y u) (scope_alike x y s u h g)))))

  -- ---- declarations

  one_alike :
      (globals : ℕ) (x y : UnitState) (storage : Storage) (ty : PlainType) {role : Role} {tree second : PlainTree} {value other : Option PlainTree} (rest behind : PlainTrees) → SameUnit x y → Derivation (declarator role) tree
      → SameButNames tree second → Values value other → Alike named SameUnit (declared_one globals x storage ty tree value rest) (declared_one globals y storage ty second other behind)
  one_alike globals x y storage ty {value = value} {other = other} rest behind h (single is) e v = absurd cc
  one_alike globals x y storage ty {value = value} {other = other} rest behind h (made_of k.Declarator {parts = parts} b a (a_row row)) (same_node {others = others} e) v =
      alike_somes named SameUnit (name_in parts) (name_in others) (λ name. declared_object globals x storage ty k.Declarator parts name value rest) (λ name. declared_object globals y storage ty k.Declarator others name other behind)
      (λ m n f g. object_declared globals x y storage ty k.Declarator parts others m n rest behind h e (λ i. absurd cc) v)
  one_alike globals x y storage ty {value = value} {other = other} rest behind h (made_of k.ArrayDeclarator {parts = parts} b a (a_row row)) (same_node {others = others} e) v =
      alike_somes named SameUnit (name_in parts) (name_in others) (λ name. declared_object globals x storage ty k.ArrayDeclarator parts name value rest) (λ name. declared_object globals y storage ty k.ArrayDeclarator others name other behind)
      (λ m n f g. object_declared globals x y storage ty k.ArrayDeclarator parts others m n rest behind h e (λ i. array_sizes row e) v)
  one_alike globals x y storage ty {value = value} {other = other} rest behind h (made_of k.FunctionDeclarator {parts = parts} b a (a_row row)) (same_node {others = others} e) v =
      alike_somes named SameUnit (name_in parts) (name_in others) (λ name. declared_function x storage ty parts name value) (λ name. declared_function y storage ty others name other)
      (λ m n f g. function_declared x y storage ty parts others m n value other h e (function_parameters row e))
  one_alike globals x y storage ty rest behind h (made_of _ b a l) e v = absurd cc

  abbrev DeclaratorsAlike : ℕ → Storage → PlainType → PlainTrees → PlainTrees → PlainTrees → PlainTrees → Type 0
  DeclaratorsAlike globals storage ty rest behind parts others = (x y : UnitState) → SameUnit x y → Alike named SameUnit (declared_from globals x storage ty parts rest) (declared_from globals y storage ty others behind)

  then_declared :
      (globals : ℕ) (storage : Storage) (ty : PlainType) (rest behind : PlainTrees) (x y : UnitState) (tree second : PlainTree) (value other : Option PlainTree) (parts others : PlainTrees)
      → Alike named SameUnit (declared_one globals x storage ty tree value rest) (declared_one globals y storage ty second other behind) → DeclaratorsAlike globals storage ty rest behind parts others
      → Alike named SameUnit (declared_one globals x storage ty tree value rest >>= (λ first. declared_from globals first storage ty parts rest))
      (declared_one globals y storage ty second other behind >>= (λ first. declared_from globals first storage ty others behind))
  then_declared globals storage ty rest behind x y tree second value other parts others f g =
      alike_then named SameUnit SameUnit (declared_one globals x storage ty tree value rest) (declared_one globals y storage ty second other behind) _ _ f (λ p q i. g p q i)

  pub declarators_alike :
      {role : Role} {parts others : PlainTrees} → Declared role parts → AllSameButNames parts others → (globals : ℕ) (storage : Storage) (ty : PlainType) (rest behind : PlainTrees) → DeclaratorsAlike globals storage ty rest behind parts others
  declarators_alike (last_plain d) (same_more e same_end) globals storage ty rest behind = λ x y h. one_alike globals x y storage ty rest behind h d e no_value
  declarators_alike (last_initialised {tree = tree} {value = value} {sign = sign} m d w v) (same_more {other = second} e (same_more (same_leaf {b = other} i) (same_more {other = given_} j same_end))) globals storage ty rest behind = λ x y h.
      taken named SameUnit (is_word (t.Assign ∷ []) (leaf sign)) (is_word (t.Assign ∷ []) (leaf other)) _ _ _ _ w (sign_is named sign other w i) (one_alike globals x y storage ty rest behind h d e (a_value v j))
  declarators_alike (next_plain {tree = tree} {comma = comma} {rest = more next none} d w l) (same_more {other = second} e (same_more (same_leaf {b = other} i) (same_more {other = next'} j same_end))) globals storage ty rest behind = λ x y h.
      let signs = no_sign named comma other w i in
      passed_by named SameUnit (is_word (t.Assign ∷ []) (leaf comma)) (is_word (t.Assign ∷ []) (leaf other)) _ _ _ _ signs.0 signs.1
      (then_declared globals storage ty rest behind x y tree second None None (more next none) (more next' none) (one_alike globals x y storage ty rest behind h d e no_value) (declarators_alike l (same_more j same_end) globals storage ty rest behind))
  declarators_alike (next_plain {tree = tree} {comma = comma} {rest = more next (more sign list)} d w l) (same_more {other = second} e (same_more (same_leaf {b = other} i) (same_more {other = next'} j (same_more {other = sign'} {others = list'} m r)))) globals storage ty rest behind = λ x y h.
      let signs = no_sign named comma other w i in
      passed_by named SameUnit (is_word (t.Assign ∷ []) (leaf comma)) (is_word (t.Assign ∷ []) (leaf other)) _ _ _ _ signs.0 signs.1
      (then_declared globals storage ty rest behind x y tree second None None (more next (more sign list)) (more next' (more sign' list')) (one_alike globals x y storage ty rest behind h d e no_value)
      (declarators_alike l (same_more j (same_more m r)) globals storage ty rest behind))
  declarators_alike (next_plain {rest = none} d w l) (same_more e (same_more i same_end)) globals storage ty rest behind = λ x y h. alike_broken named SameUnit _
  declarators_alike (next_initialised {tree = tree} {value = value} {sign = sign} {rest = list} m d w v c l) (same_more {other = second} e (same_more (same_leaf {b = other} i) (same_more {other = given_} j (same_more {others = list'} n r)))) globals storage ty rest behind = λ x y h.
      taken named SameUnit (is_word (t.Assign ∷ []) (leaf sign)) (is_word (t.Assign ∷ []) (leaf other)) _ _ _ _ w (sign_is named sign other w i)
      (then_declared globals storage ty rest behind x y tree second (Some value) (Some given_) list list' (one_alike globals x y storage ty rest behind h d e (a_value v j)) (declarators_alike l r globals storage ty rest behind))

  -- ---- definitions of functions

  body_alike :
      (slots : List PlainType) (result other : PlainType) (s u : Scope) → result ≡ other → AlikeScopes named slots s u → {tree second : PlainTree} → Derivation block tree → SameButNames tree second
      → Alike named (SameItems named slots) (judged_body s result slots tree) (judged_body u other slots second)
  body_alike slots result other s u e h (single is) f = absurd cc
  body_alike slots result other s u e h (made_of k.Block b a (a_row (a_word w (given (made_of k.Items c i (one_or_more each any)) (a_word v at_end))))) (same_node (same_more x (same_more (same_node y) (same_more z same_end)))) =
      items_alike named each y slots (record { scope = s; result = result; in_loop = false }) (record { scope = u; result = other; in_loop = false }) (record { scopes = h; result = e; in_loop = refl })
  body_alike slots result other s u e h (made_of k.Block b a (a_row (a_word w (left_out (a_word v at_end))))) (same_node (same_more x (same_more (same_node same_end) (same_more z same_end)))) =
      alike_give named (SameItems named slots) (items_as slots core.no_item) (items_as slots core.no_item) (record { same_ = refl; grown = grown_none slots })
  body_alike slots result other s u e h (made_of k.Block b a (a_row (a_word w (given (single is) r)))) f = absurd cc
  body_alike slots result other s u e h (made_of k.Block b a (a_row (a_word w (given (made_of _ c i l) r)))) f = absurd cc
  body_alike slots result other s u e h (made_of _ b a l) f = absurd cc

  pub function_defined :
      (x y : UnitState) (storage : Storage) (ty : PlainType) (parts others : PlainTrees) (a b : PlainToken) {body second : PlainTree} → SameUnit x y → AllSameButNames parts others → ParametersBehind parts others
      → Derivation block body → SameButNames body second → Alike named SameUnit (defined_function x storage ty parts a body) (defined_function y storage ty others b second)
  function_defined x y storage ty parts others a b {body} {second} h e list d i =
      let result : PlainType = starred parts ty in
      let other : PlainType = starred others ty in
      let same_ : result ≡ other = starred_same parts others ty e in
      alike_declares named SameUnit (file_entity a.text) (file_entity b.text) _ _
      (λ names x1 y1. alike_tests named SameUnit (is_result x.scope result) (is_result y.scope other) (result_kind x.scope storage result a (parameters_of true x.scope (behind_word t.OpenParenthesis parts) a))
      (result_kind y.scope storage other b (parameters_of true y.scope (behind_word t.OpenParenthesis others) b)) a b _ _
      (λ x2 y2. alike_then named SameTypes SameUnit (new_function true x.scope storage result parts a) (new_function true y.scope storage other others b) _ _ (new_alike true x.scope y.scope storage result other parts others a b list h.scopes)
      (λ ps qs f. alike_then named ScopesAfter SameUnit (with_name x.scope a (function (signature_of result ps)) storage) (with_name y.scope b (function (signature_of other qs)) storage) _ _
      (function_name x.scope y.scope a b (signature_of result ps) (signature_of other qs) storage (signature_same result other ps qs same_ f) names h.scopes)
      (λ s u g. alike_then named (SameItems named (parameter_types ps)) SameUnit (judged_body (with_parameters (with_block s) 0 ps) result (parameter_types ps) body) (judged_body (with_parameters (with_block u) 0 qs) other (parameter_types qs) second) _ _
      (subst (λ (l : List PlainType). Alike named (SameItems named (parameter_types ps)) (judged_body (with_parameters (with_block s) 0 ps) result (parameter_types ps) body) (judged_body (with_parameters (with_block u) 0 qs) other l second)) f
      (body_alike (parameter_types ps) result other (with_parameters (with_block s) 0 ps) (with_parameters (with_block u) 0 qs) same_ (parameters_visible named ps qs s u f g) d i))
      (λ p q j. alike_give named SameUnit (with_defined (with_scope x s) a.text (function_body p.slots p.core)) (with_defined (with_scope y u) b.text (function_body q.slots q.core))
      (defined_alike (with_scope x s) (with_scope y u) a.text b.text (function_body p.slots p.core) (function_body q.slots q.core) (scope_alike x y s u h g) names (ap (λ (z : JudgedItems). function_body z.slots z.core) j.same_)))))))

  -- ---- structs

  abbrev SameMembers : Members → Members → Type 0
  SameMembers x y = member_types x.members ≡ member_types y.members

  member_added : (s u : Scope) (x y : Members) (a b : List ℕ) (ty : PlainType) → SameMembers x y → SameMembers (with_member s.structs x a ty) (with_member u.structs y b ty)
  member_added s u x y a b ty e =
      map-append (λ (m : PlainMember). m.ty) x.members (record { name = a; ty = ty } ∷ []) ∙ ap (λ l. l ++ ty ∷ []) e ∙ sym (map-append (λ (m : PlainMember). m.ty) y.members (record { name = b; ty = ty } ∷ []))

  member_declared :
      (s u : Scope) (n : ℕ) (x y : Members) (ty : PlainType) (kind : Kind) (parts others : PlainTrees) (a b : PlainToken) → AlikeScopes named [] s u → SameMembers x y → AllSameButNames parts others → (kind ≡ k.ArrayDeclarator → Sizes parts others)
      → Alike named SameMembers (declared_member s n x ty kind parts a) (declared_member u n y ty kind others b)
  member_declared s u n x y ty kind parts others a b h i e sizes =
      alike_tests named SameMembers (not (is_some (x.numbers a.text))) (not (is_some (y.numbers b.text))) Redeclared Redeclared a b _ _
      (λ x1 y1. alike_declares named SameMembers (member_entity n (length x.members)) (member_entity n (length y.members)) _ _
      (λ tied_ x2 y2. alike_equal named SameMembers (object_type s ty kind parts a None) (object_type u ty kind others b None) _ _ (object_alike named [] s u h ty kind parts others e sizes no_value a b)
      (λ whole. alike_tests named SameMembers (is_complete s.structs whole) (is_complete u.structs whole) Incomplete Incomplete a b _ _
      (λ x3 y3. alike_give named SameMembers (with_member s.structs x a.text whole) (with_member u.structs y b.text whole) (member_added s u x y a.text b.text whole i)))))

  one_member_alike :
      (s u : Scope) (n : ℕ) (x y : Members) (ty : PlainType) {role : Role} {tree second : PlainTree} → AlikeScopes named [] s u → SameMembers x y → Derivation (declarator role) tree → SameButNames tree second
      → Alike named SameMembers (one_member s n x ty tree) (one_member u n y ty second)
  one_member_alike s u n x y ty h i (single is) e = absurd cc
  one_member_alike s u n x y ty h i (made_of k.Declarator {parts = parts} b a (a_row row)) (same_node {others = others} e) =
      alike_somes named SameMembers (name_in parts) (name_in others) (λ name. declared_member s n x ty k.Declarator parts name) (λ name. declared_member u n y ty k.Declarator others name)
      (λ p q f g. member_declared s u n x y ty k.Declarator parts others p q h i e (λ j. absurd cc))
  one_member_alike s u n x y ty h i (made_of k.ArrayDeclarator {parts = parts} b a (a_row row)) (same_node {others = others} e) =
      alike_somes named SameMembers (name_in parts) (name_in others) (λ name. declared_member s n x ty k.ArrayDeclarator parts name) (λ name. declared_member u n y ty k.ArrayDeclarator others name)
      (λ p q f g. member_declared s u n x y ty k.ArrayDeclarator parts others p q h i e (λ j. array_sizes row e))
  one_member_alike s u n x y ty h i (made_of k.FunctionDeclarator {parts = parts} b a l) (same_node {others = others} e) =
      alike_somes named SameMembers (name_in parts) (name_in others) (λ name. declared_member s n x ty k.FunctionDeclarator parts name) (λ name. declared_member u n y ty k.FunctionDeclarator others name)
      (λ p q f g. member_declared s u n x y ty k.FunctionDeclarator parts others p q h i e (λ j. absurd cc))
  one_member_alike s u n x y ty h i (made_of _ b a l) e = absurd cc

  members_alike :
      {parts others : PlainTrees} → Declared member_of parts → AllSameButNames parts others → (s u : Scope) (n : ℕ) (x y : Members) (ty : PlainType) → AlikeScopes named [] s u → SameMembers x y
      → Alike named SameMembers (members_from s n x ty parts) (members_from u n y ty others)
  members_alike (last_plain d) (same_more e same_end) s u n x y ty h i = one_member_alike s u n x y ty h i d e
  members_alike (last_initialised m d w v) e s u n x y ty h i = absurd (false≢true m)
  members_alike (next_plain {tree = tree} d w l) (same_more {other = second} e (same_more f r)) s u n x y ty h i =
      alike_then named SameMembers SameMembers (one_member s n x ty tree) (one_member u n y ty second) _ _ (one_member_alike s u n x y ty h i d e) (λ p q j. members_alike l r s u n p q ty h j)
  members_alike (next_initialised m d w v c l) e s u n x y ty h i = absurd (false≢true m)

  record SameAll (x y : AllMembers) : Type 0 where
    scopes : AlikeScopes named [] x.scope y.scope
    known : SameMembers x.known y.known

  all_alike :
      {parts others : PlainTrees} → Each member parts → AllSameButNames parts others → (s u : Scope) (n : ℕ) (x y : Members) → AlikeScopes named [] s u → SameMembers x y
      → Alike named SameAll (all_members s n x parts) (all_members u n y others)
  all_alike no_more same_end s u n x y h i = alike_give named SameAll (record { scope = s; known = x }) (record { scope = u; known = y }) (record { scopes = h; known = i })
  all_alike (one_more (made_of k.Member b a (a_row (a_part (made_of k.Specifiers {parts = words} c f g) (a_part (made_of k.Declarators {parts = list} j l (declarators_of d)) (a_word v at_end))))) each)
      (same_more (same_node (same_more (same_node {others = words'} e) (same_more (same_node {others = list'} m) (same_more o same_end)))) r) s u n x y h i =
      alike_then named (SameBase named [] s u h) SameAll (based true s words) (based true u words') _ _ (based_alike named [] s u h true words words' e)
      (λ p q z. alike_then named SameMembers SameAll (members_from p.scope n x p.ty list) (members_from q.scope n y q.ty list') _ _
      (subst (λ ty. Alike named SameMembers (members_from p.scope n x p.ty list) (members_from q.scope n y ty list')) z.ty (members_alike d m p.scope q.scope n x y p.ty z.scopes i))
      (λ first behind w. all_alike each r p.scope q.scope n first behind z.scopes w))
  all_alike (one_more (made_of k.Member b a (a_row (a_part (made_of k.Specifiers c f g) (a_part (single is) l)))) each) e s u n x y h i = absurd cc
  all_alike (one_more (made_of k.Member b a (a_row (a_part (made_of k.Specifiers c f g) (a_part (made_of _ j l m) o)))) each) e s u n x y h i = absurd cc
  all_alike (one_more (made_of k.Member b a (a_row (a_part (single is) l))) each) e s u n x y h i = absurd cc
  all_alike (one_more (made_of k.Member b a (a_row (a_part (made_of _ c f g) l))) each) e s u n x y h i = absurd cc
  all_alike (one_more (single is) each) e s u n x y h i = absurd cc
  all_alike (one_more (made_of _ b a l) each) e s u n x y h i = absurd cc

  completed_alike : (n : ℕ) (x y : Members) (structs others : List Struct) → SameMembers x y → SameStructs structs others → SameStructs (with_members_at n x structs) (with_members_at n y others)
  completed_alike n x y [] [] i h = tt
  completed_alike n x y [] (u ∷ us) i h = absurd h
  completed_alike n x y (s ∷ ss) [] i h = absurd h
  completed_alike zero x y (s ∷ ss) (u ∷ us) i h = (record { complete = refl; members = i }, h.1)
  completed_alike (suc n) x y (s ∷ ss) (u ∷ us) i h = (h.0, completed_alike n x y ss us i h.1)

  as_many : (n : ℕ) (x : Members) (structs : List Struct) → length (with_members_at n x structs) ≡ length structs
  as_many n x [] = refl
  as_many zero x (s ∷ ss) = refl
  as_many (suc n) x (s ∷ ss) = ap suc (as_many n x ss)

  struct_completed :
      (n : ℕ) (x y : Members) (s u : Scope) → SameMembers x y → AlikeScopes named [] s u → AlikeScopes named [] (record s { structs = with_members_at n x s.structs }) (record u { structs = with_members_at n y u.structs })
  struct_completed n x y s u i h = record {
    structs = completed_alike n x y s.structs u.structs i h.structs;
    names = h.names;
    order = h.order;
    locals = h.locals;
    other_locals = h.other_locals;
    tags = λ name m e. let less : m < length s.structs = h.tags name m e in omega (arith, less, as_many n x s.structs);
    other_tags = λ name m e. let less : m < length u.structs = h.other_tags name m e in omega (arith, less, as_many n y u.structs);
    numbers = h.numbers;
  }

  pub struct_defined :
      (x y : UnitState) (words words' parts others : PlainTrees) → SameUnit x y → AllSameButNames words words' → Each member parts → AllSameButNames parts others
      → Alike named SameUnit (defined_struct x words parts) (defined_struct y words' others)
  struct_defined x y words words' parts others h e each f =
      alike_somes named SameUnit (name_in words) (name_in words') _ _
      (λ a b i j. alike_tests named SameUnit (not (is_defined_tag x.scope (x.scope.tags a.text))) (not (is_defined_tag y.scope (y.scope.tags b.text))) Redeclared Redeclared a b _ _
      (λ x1 y1. alike_then named (SameBase named [] x.scope y.scope h.scopes) SameUnit (based true x.scope words) (based true y.scope words') _ _ (based_alike named [] x.scope y.scope h.scopes true words words' e)
      (λ p q z. let n : ℕ = number_of_struct p.ty in
      let m : ℕ = number_of_struct q.ty in
      let same_ : n ≡ m = ap number_of_struct z.ty in
      alike_then named SameAll SameUnit (all_members p.scope n (record { members = []; numbers = no_entry; scalars = 0 }) parts) (all_members q.scope m (record { members = []; numbers = no_entry; scalars = 0 }) others) _ _
      (subst (λ l. Alike named SameAll (all_members p.scope n (record { members = []; numbers = no_entry; scalars = 0 }) parts) (all_members q.scope l (record { members = []; numbers = no_entry; scalars = 0 }) others)) same_
      (all_alike each f p.scope q.scope n (record { members = []; numbers = no_entry; scalars = 0 }) (record { members = []; numbers = no_entry; scalars = 0 }) z.scopes refl))
      (λ first second g. alike_give named SameUnit (with_scope x (record first.scope { structs = with_members_at n first.known first.scope.structs })) (with_scope y (record second.scope { structs = with_members_at m second.known second.scope.structs }))
      (scope_alike x y (record first.scope { structs = with_members_at n first.known first.scope.structs }) (record second.scope { structs = with_members_at m second.known second.scope.structs }) h
      (subst (λ l. AlikeScopes named [] (record first.scope { structs = with_members_at n first.known first.scope.structs }) (record second.scope { structs = with_members_at l second.known second.scope.structs })) same_
      (struct_completed n first.known second.known first.scope second.scope g.known g.scopes)))))))
