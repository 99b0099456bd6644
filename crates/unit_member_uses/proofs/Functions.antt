-- The definition of a function uses what its block uses.
use Rattle.std.proofs.Common.{◌≡◌, ℕ, ◌+◌, true, List, [], ◌∷◌, ◌++◌, refl, sym, ap₂, subst, ◌∙◌, map}
use Rattle.std.specs.Prelude.{None, if◌then◌else◌}
use Rattle.c_text.specs.Token.{PlainToken}
use Rattle.c_types.specs.Types.{PlainType}
use Rattle.c_tree.specs.declared.terminals.Terminal.TheVariants as t
use Rattle.c_tree.specs.Trees.{PlainTree, PlainTrees}
use Rattle.c_tree.specs.Grammar as grammar
use Rattle.tree_derivations.specs.Derivations.{Derivation}
use Rattle.core_meaning.specs.Checking.{Entity, local_entity, local_of_function, file_entity, struct_entity, member_entity, own_entity, Binding, Checked, fine, refused, broken, numbered, numbered_binding, in_function, ◌>>=◌, give, unless_so, declares}
use Rattle.core_meaning.specs.Entities.{function, Scope}
use Rattle.core_meaning.specs.Declarations.{behind_word, starred, Parameter, parameters_of, with_block, with_parameter}
use Rattle.core_meaning.specs.Statements.{JudgedItems}
use Rattle.core_meaning.specs.UnitNames.{UnitState, function_body, with_defined, with_scope, Storage, with_name, parameter_types, signature_of, new_function, with_parameters, is_result, result_kind, judged_body, defined_function}
use Rattle.bindings.proofs.Spellings.{Holds, AllHold}
use Rattle.entity_numbers.proofs.Uses as bound
use Rattle.operand_types.specs.Laws.{TypesAreKept}
use Rattle.expression_types.specs.Laws.{ExpressionsHaveTypes}
use Rattle.selections.specs.Laws.{HasNames, structure_of_entity}
use Rattle.selections.proofs.Expressions.{Nothing}
use Rattle.cond_sizes.specs.Laws.{CountsNeedNoNames}
use Rattle.member_uses.specs.Uses.{Use, names_in, names_among, using, structures_used}
use Rattle.member_uses.specs.Walks.{uses_in_body}
use Rattle.member_uses.proofs.Parts.{AsMany, Part, quiet_then, none_then, known_then, quietly_then, then_give}
use Rattle.member_uses.proofs.Declarators.{NameForm}
use Rattle.member_uses.proofs.Statements.{body_part}
use Rattle.unit_member_uses.specs.Items.{in_body}
use Rattle.unit_member_uses.proofs.Parameters.{parenthesized, function_unused, names_with}
use Rattle.unit_member_uses.proofs.FileNames.{name_declared}

-- one judgement comes to one result
pub one_result : {A : Type 0} (m : Checked A) (x y : A) (js ks : List Binding) → m ≡ fine x js → m ≡ fine y ks → x ≡ y
one_result m x y js ks e f = cc

-- ---- the bindings of a function, with its number

entity_numbered : (by : ℕ → ℕ) (n : ℕ) (e : Entity) → structure_of_entity by (numbered n e) ≡ structure_of_entity by e
entity_numbered by n (local_entity slot) = refl
entity_numbered by n (local_of_function f slot) = refl
entity_numbered by n (file_entity name) = refl
entity_numbered by n (struct_entity m) = refl
entity_numbered by n (member_entity s m) = refl
entity_numbered by n own_entity = refl

all_numbered : (by : ℕ → ℕ) (n : ℕ) (js : List Binding) → structures_used by (map (numbered_binding n) js) ≡ structures_used by js
all_numbered by n [] = refl
all_numbered by n (j ∷ js) = ap₂ (λ x xs. (if j.in_expression then x else None) ∷ xs) (entity_numbered by n j.entity) (all_numbered by n js)

as_many_numbered : (n : ℕ) (js : List Binding) (names : List PlainToken) → AsMany js names → AsMany (map (numbered_binding n) js) names
as_many_numbered n [] [] h = h
as_many_numbered n [] (name ∷ names) h = h
as_many_numbered n (j ∷ js) [] h = h
as_many_numbered n (j ∷ js) (name ∷ names) h = as_many_numbered n js names h

pub numbered_part : {A : Type 0} (by : ℕ → ℕ) (n : ℕ) (T : A → List Use → Type 0) (m : Checked A) (names : List PlainToken) → Part by T m names → Part by T (in_function n m) names
numbered_part by n T (fine x js) names h = (as_many_numbered n js names h.0, subst (λ l. T x (using names l)) (sym (all_numbered by n js)) h.1)
numbered_part by n T (refused kind token) names h = tt
numbered_part by n T broken names h = tt

-- ---- the scope of a block

pub parameters_keep : (scope : Scope) → HasNames scope → (slot : ℕ) (ps : List Parameter) → HasNames (with_parameters scope slot ps)
parameters_keep scope names slot [] = names
parameters_keep scope names slot (p ∷ rest) = parameters_keep (with_parameter scope slot p.name p.ty) (names_with scope names slot p.name p.ty) (slot + 1) rest

module _ (by : ℕ → ℕ) (kept : TypesAreKept) (typed : ExpressionsHaveTypes) (sizes : CountsNeedNoNames) where
  -- whatever its parameters and its name come to
  abbrev pub IsBody : UnitState → Storage → PlainType → PlainTrees → PlainToken → PlainTree → List Use → Type 0
  IsBody unit storage result parts name body u =
      (ps : List Parameter) (qs : List Binding) → new_function true unit.scope storage result parts name ≡ fine ps qs → (scope : Scope) (ss : List Binding) → with_name unit.scope name (function (signature_of result ps)) storage ≡ fine scope ss
      → u ≡ uses_in_body by result body (in_body scope ps)

  abbrev pub IsFunction : UnitState → Storage → PlainType → PlainTrees → PlainToken → PlainTree → UnitState → List Use → Type 0
  IsFunction unit storage result parts name body next u = HasNames next.scope × IsBody unit storage result parts name body u

  same_body : (unit : UnitState) (storage : Storage) (result : PlainType) (parts : PlainTrees) (name : PlainToken) (body : PlainTree) (u : List Use) (ps : List Parameter) (qs : List Binding) (scope : Scope) (ss : List Binding)
      → new_function true unit.scope storage result parts name ≡ fine ps qs → with_name unit.scope name (function (signature_of result ps)) storage ≡ fine scope ss → u ≡ uses_in_body by result body (in_body scope ps)
      → IsBody unit storage result parts name body u
  same_body unit storage result parts name body u ps qs scope ss e f is = λ others ks g other ls h.
      let p : ps ≡ others = one_result (new_function true unit.scope storage result parts name) ps others qs ks e g in
      let q : scope ≡ other = one_result (with_name unit.scope name (function (signature_of result others)) storage) scope other ss ls (subst (λ x. with_name unit.scope name (function (signature_of result x)) storage ≡ fine scope ss) p f) h in
      is ∙ ap₂ (λ a b. uses_in_body by result body (in_body a b)) q p

  pub function_part : (unit : UnitState) → HasNames unit.scope → (storage : Storage) (ty : PlainType) (parts : PlainTrees) (f : NameForm parenthesized parts) → AllHold parts → {body : PlainTree} → Derivation grammar.block body → Holds body
      → Part by (IsFunction unit storage (starred parts ty) parts f.name body) (defined_function unit storage ty parts f.name body) (f.name ∷ (names_among f.rest ++ names_in body))
  function_part unit names storage ty parts f holds {body = body} d body_holds =
      let name : PlainToken = f.name in
      let result : PlainType = starred parts ty in
      let kind_ = result_kind unit.scope storage result name (parameters_of true unit.scope (behind_word t.OpenParenthesis parts) name) in
      let made : Scope → JudgedItems → UnitState = λ scope items. with_defined (with_scope unit scope) name.text (function_body items.slots items.core) in
      let S : UnitState → List Use → Type 0 = IsFunction unit storage result parts name body in
      let with_body : List Parameter → Scope → Checked UnitState = λ ps scope. judged_body (with_parameters (with_block scope) 0 ps) result (parameter_types ps) body >>= (λ items. give (made scope items)) in
      let rest_of : List Parameter → Checked UnitState = λ ps. with_name unit.scope name (function (signature_of result ps)) storage >>= with_body ps in
      none_then by S (name ∷ []) (names_among f.rest ++ names_in body) (declares (file_entity name.text))
      (λ declared_. unless_so (is_result unit.scope result) kind_ name >>= (λ fits. new_function true unit.scope storage result parts name >>= rest_of)) (tt, refl)
      (λ declared_. quiet_then by S (names_among f.rest ++ names_in body) (unless_so (is_result unit.scope result) kind_ name) (λ fits. new_function true unit.scope storage result parts name >>= rest_of)
      (bound.unless_binds Nothing (is_result unit.scope result) kind_ name)
      (λ fits. known_then by (λ x u. u ≡ []) S (names_among f.rest) (names_in body) (new_function true unit.scope storage result parts name) rest_of
      (function_unused by kept typed sizes parts f (f.holds holds) true unit.scope names storage result name)
      (λ ps qs e none_used. subst (λ l. Part by (λ y v. S y (l ++ v)) (rest_of ps) (names_in body)) (sym none_used)
      (quietly_then by HasNames S (names_in body) (with_name unit.scope name (function (signature_of result ps)) storage) (with_body ps) (name_declared unit.scope names name (f.spelt holds) (function (signature_of result ps)) storage)
      (λ scope named g. then_give by (λ j u. u ≡ uses_in_body by result body (in_body scope ps)) S (names_in body) (judged_body (with_parameters (with_block scope) 0 ps) result (parameter_types ps) body) (made scope)
      (body_part by kept typed sizes result d body_holds (in_body scope ps) (parameters_keep (with_block scope) named 0 ps))
      (λ items u is. (named, same_body unit storage result parts name body u ps qs scope [] e g is)))))))
