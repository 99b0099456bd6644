-- What the definition of a function comes to, step by step, where it is judged well.
use Rattle.std.proofs.Common.{◌≡◌, ℕ, Bool, true, false, List, sym, ap}
use Rattle.std.specs.Prelude.{◌&&◌, Option, Some, None}
use Rattle.c_text.specs.Token.{PlainToken}
use Rattle.c_types.specs.Types.{PlainType}
use Rattle.c_tree.specs.declared.kinds.Kind.TheVariants as k
use Rattle.c_tree.specs.declared.terminals.Terminal.TheVariants as t
use Rattle.c_tree.specs.Trees.{PlainTree, PlainTrees, node, none, more}
use Rattle.core_meaning.specs.declared.refusals.TypeKind.TheVariants.{Redeclared}
use Rattle.core_meaning.specs.Checking.{file_entity, Binding, Checked, fine, refused, broken, in_function, ◌>>=◌, give, unless_so, or_broken, declares}
use Rattle.core_meaning.specs.Entities.{Table, FileName, function, Sort, Scope}
use Rattle.core_meaning.specs.Declarations.{name_in, behind_word, Based, based, starred, Parameter, parameters_of, with_block}
use Rattle.core_meaning.specs.Statements.{JudgedItems}
use Rattle.core_meaning.specs.UnitNames.{UnitState, Storage, storage_of, is_function, same_sort, same_bool, linkage, declared_as, with_name, function_body, with_defined, with_scope, parameter_types, signature_of, may_be_function, new_function, with_parameters, is_result, result_kind, judged_body, count_functions, defined_function, judged_item}
use Rattle.core_meaning.proofs.Outlines.{bound, given_is}

found : {A : Type 0} (o : Option A) (x : A) (bindings : List Binding) → or_broken o ≡ fine x bindings → o ≡ Some x
found (Some y) x bindings e = ap Some (given_is y x bindings e)
found None x bindings e = absurd cc

unnumbered : {A : Type 0} (n : ℕ) (c : Checked A) (x : A) (bindings : List Binding) → in_function n c ≡ fine x bindings → (js : List Binding) × (c ≡ fine x js)
unnumbered n (fine y js) x bindings e =
    let same : y ≡ x = cc in
    (js, ap (λ z. fine z js) same)
unnumbered n (refused kind token) x bindings e = absurd cc
unnumbered n broken x bindings e = absurd cc

scope_behind : (unit next : UnitState) (bindings : List Binding) → give unit ≡ fine next bindings → next.scope ≡ unit.scope
scope_behind unit next bindings e = ap (λ (u : UnitState). u.scope) (sym (given_is unit next bindings e))

-- ---- a name of file scope more

-- nothing differs but the names of file scope
pub record OnlyNames (scope after : Scope) : Type 0 where
  pub names : Table FileName
  pub order : List (List ℕ)
  pub is : after ≡ record scope { file_names = names; order = order }

pub only_names : (scope : Scope) (name : PlainToken) (sort : Sort) (storage : Storage) (after : Scope) (bindings : List Binding) → with_name scope name sort storage ≡ fine after bindings → OnlyNames scope after
only_names scope name sort storage after bindings e = by (scope.file_names name.text) e
  where
    again : (b : Bool) → (unless_so b Redeclared name >>= (λ u. give scope)) ≡ fine after bindings → OnlyNames scope after
    again b e = let rest = bound (unless_so b Redeclared name) (λ u. give scope) after bindings e in record { names = scope.file_names; order = scope.order; is = sym (given_is scope after rest.behind rest.rest) }

    by : (n : Option FileName) → declared_as scope name sort (linkage storage (is_function sort) n) n ≡ fine after bindings → OnlyNames scope after
    by None e = record { names = _; order = _; is = sym (given_is _ after bindings e) }
    by (Some n) e = again (same_sort n.sort sort && same_bool n.internal (linkage storage (is_function sort) (Some n))) e

-- ---- a function

module _ (unit : UnitState) (words parts : PlainTrees) (body : PlainTree) (next : UnitState) where
  pub record IsDefined : Type 0 where
    pub base : Based
    pub bs : List Binding
    pub base_is : based false unit.scope words ≡ fine base bs
    pub name : PlainToken
    pub name_is : name_in parts ≡ Some name
    pub parameters : List Parameter
    pub ps : List Binding
    pub given : new_function true unit.scope (storage_of words) (starred parts base.ty) parts name ≡ fine parameters ps
    pub qs : List Binding
    pub listed : parameters_of true unit.scope (behind_word t.OpenParenthesis parts) name ≡ fine parameters qs
    pub scope : Scope
    pub ss : List Binding
    pub named : with_name unit.scope name (function (signature_of (starred parts base.ty) parameters)) (storage_of words) ≡ fine scope ss
    pub items : JudgedItems
    pub js : List Binding
    pub judged : judged_body (with_parameters (with_block scope) 0 parameters) (starred parts base.ty) (parameter_types parameters) body ≡ fine items js
    pub next_is : next.scope ≡ scope

  by_name : (base : Based) (bs : List Binding) → based false unit.scope words ≡ fine base bs → (name : PlainToken) → name_in parts ≡ Some name → (bindings : List Binding)
      → defined_function unit (storage_of words) base.ty parts name body ≡ fine next bindings → IsDefined
  by_name base bs base_is name name_is bindings e =
      let storage : Storage = storage_of words in
      let result : PlainType = starred parts base.ty in
      let kind_ = result_kind unit.scope storage result name (parameters_of true unit.scope (behind_word t.OpenParenthesis parts) name) in
      let made : Scope → JudgedItems → UnitState = λ scope items. with_defined (with_scope unit scope) name.text (function_body items.slots items.core) in
      let with_body : List Parameter → Scope → Checked UnitState = λ ps scope. judged_body (with_parameters (with_block scope) 0 ps) result (parameter_types ps) body >>= (λ items. give (made scope items)) in
      let rest_of : List Parameter → Checked UnitState = λ ps. with_name unit.scope name (function (signature_of result ps)) storage >>= with_body ps in
      let b1 = bound (declares (file_entity name.text)) (λ x. unless_so (is_result unit.scope result) kind_ name >>= (λ fits. new_function true unit.scope storage result parts name >>= rest_of)) next bindings e in
      let b2 = bound (unless_so (is_result unit.scope result) kind_ name) (λ fits. new_function true unit.scope storage result parts name >>= rest_of) next b1.behind b1.rest in
      let b3 = bound (new_function true unit.scope storage result parts name) rest_of next b2.behind b2.rest in
      let b4 = bound (unless_so (may_be_function storage result (unit.scope.file_names name.text)) Redeclared name) (λ new. parameters_of true unit.scope (behind_word t.OpenParenthesis parts) name) b3.value b3.before b3.first in
      let b5 = bound (with_name unit.scope name (function (signature_of result b3.value)) storage) (with_body b3.value) next b3.behind b3.rest in
      let b6 = bound (judged_body (with_parameters (with_block b5.value) 0 b3.value) result (parameter_types b3.value) body) (λ items. give (made b5.value items)) next b5.behind b5.rest in
      record {
        base = base;
        bs = bs;
        base_is = base_is;
        name = name;
        name_is = name_is;
        parameters = b3.value;
        ps = b3.before;
        given = b3.first;
        qs = b4.behind;
        listed = b4.rest;
        scope = b5.value;
        ss = b5.before;
        named = b5.first;
        items = b6.value;
        js = b6.before;
        judged = b6.first;
        next_is = scope_behind (made b5.value b6.value) next b6.behind b6.rest;
      }

  pub is_defined : (globals : ℕ) (rest : PlainTrees) (bindings : List Binding)
      → judged_item globals unit (node k.Function (more (node k.Specifiers words) (more (node k.Declarators (more (node k.FunctionDeclarator parts) none)) (more body none)))) rest ≡ fine next bindings → IsDefined
  is_defined globals rest bindings e =
      let inner : Based → PlainToken → Checked UnitState = λ base name. in_function (count_functions unit.defined) (defined_function unit (storage_of words) base.ty parts name body) in
      let b1 = bound (based false unit.scope words) (λ base. or_broken (name_in parts) >>= inner base) next bindings e in
      let b2 = bound (or_broken (name_in parts)) (inner b1.value) next b1.behind b1.rest in
      let b3 = unnumbered (count_functions unit.defined) (defined_function unit (storage_of words) b1.value.ty parts b2.value body) next b2.behind b2.rest in
      by_name b1.value b1.before b1.first b2.value (found (name_in parts) b2.value b2.before b2.first) b3.0 b3.1
