-- The parameters of a function don't depend on the names of file scope.
use Rattle.std.proofs.Common.{◌≡◌, ℕ, Bool, false, List, [], ◌∷◌, ◌++◌, length, refl, sym, ap, subst}
use Rattle.std.specs.Prelude.{Option, Some, None}
use Rattle.c_text.specs.Token.{PlainToken}
use Rattle.c_types.specs.Types.{PlainType}
use Rattle.c_tree.specs.declared.kinds.Kind.{Kind}
use Rattle.c_tree.specs.declared.kinds.Kind.TheVariants as k
use Rattle.c_tree.specs.declared.terminals.Terminal.TheVariants as t
use Rattle.c_tree.specs.Trees.{PlainTree, PlainTrees, leaf, node, none, more}
use Rattle.c_tree.specs.Grammar.{is_lone_void}
use Rattle.conditional.specs.Judgements as judgements
use Rattle.core_meaning.specs.declared.refusals.TypeKind.TheVariants.{Redeclared, Incomplete}
use Rattle.core_meaning.specs.Checking.{Checked, fine, refused, broken, ◌>>=◌, give, unless_so, or_broken}
use Rattle.core_meaning.specs.Entities.{Table, FileName, Scope}
use Rattle.core_meaning.specs.Typing.{is_complete}
use Rattle.core_meaning.specs.Expressions.{has_terminal, first_token_in}
use Rattle.core_meaning.specs.Constancy.{judged_count}
use Rattle.core_meaning.specs.Declarations.{name_in, behind_word, Based, based_on_tag, based, starred, count_of_size, is_left_out, with_block, Parameter, size_of_parameter, parameter_type, token_of, is_new_parameter, parameter_entity, declares_name, judged_parameter, declared_parameter, one_parameter, with_parameter, parameters_from, parameters_in, parameters_of}
use Rattle.operand_types.specs.OperandTypes.{outcome_as}
use Rattle.operand_types.proofs.Both.{Both, Any, both_then, both_unless, both_if, both_as}
use Rattle.cond_sizes.specs.Laws.{CountsNeedNoNames}

abbrev Equal : {A : Type 0} → A → A → Type 0
Equal x y = x ≡ y

itself : {A : Type 0} (c : Checked A) → Both (Equal {A = A}) c c
itself (fine x bindings) = refl
itself (refused kind token) = tt
itself broken = tt

value_same : {A : Type 0} (x y : A) → ◌≡◌ {A = judgements.Checked A (Unit {0})} (judgements.fine x) (judgements.fine y) → x ≡ y
value_same x y e = cc

alike : {A : Type 0} (c d : Checked A) → outcome_as (λ (x : A). x) c ≡ outcome_as (λ x. x) d → Both (Equal {A = A}) c d
alike (fine x bindings) (fine y others) e = value_same x y e
alike (fine x bindings) (refused kind token) e = absurd cc
alike (fine x bindings) broken e = absurd cc
alike (refused kind token) (fine y others) e = absurd cc
alike (refused kind token) (refused other at) e = tt
alike (refused kind token) broken e = tt
alike broken (fine y others) e = absurd cc
alike broken (refused other at) e = tt
alike broken broken e = tt

module _ (nameless : CountsNeedNoNames) (names : Table FileName) (order : List (List ℕ)) where
  -- the scope with other names of file scope
  abbrev pub renamed : Scope → Scope
  renamed scope = record scope { file_names = names; order = order }

  size_same : (s : Scope) (name : PlainToken) (o : Option PlainTree) → Both Equal (count_of_size s name o) (count_of_size (renamed s) name o)
  size_same s name None = tt
  size_same s name (Some size) = alike (judged_count s size name) (judged_count (renamed s) size name) (nameless s (renamed s) size name name)

  element_same : (s : Scope) (name : PlainToken) (o : Option PlainTree) → Both Equal (size_of_parameter s name o) (size_of_parameter (renamed s) name o)
  element_same s name o =
      both_if (Both Equal) (is_left_out o) (is_left_out o) (give 0) (count_of_size s name o) (give 0) (count_of_size (renamed s) name o) refl (λ h. refl) (λ h. size_same s name o)

  type_same : (s : Scope) (ty : PlainType) (kind : Kind) (parts : PlainTrees) (name : PlainToken) → Both Equal (parameter_type s ty kind parts name) (parameter_type (renamed s) ty kind parts name)
  type_same s ty k.ArrayDeclarator parts name =
      both_then Any Equal (unless_so (is_complete s.structs (starred parts ty)) Incomplete name) (unless_so (is_complete s.structs (starred parts ty)) Incomplete name) _ _
      (both_unless (is_complete s.structs (starred parts ty)) (is_complete s.structs (starred parts ty)) Incomplete Incomplete name name refl)
      (λ x y h. both_then Equal Equal (size_of_parameter s name (behind_word t.OpenBracket parts)) (size_of_parameter (renamed s) name (behind_word t.OpenBracket parts)) _ _
      (element_same s name (behind_word t.OpenBracket parts)) (λ m n same. refl))
  type_same s ty k.Declarator parts name = refl
  type_same s ty _ parts name = tt

  -- ---- words that declare no struct

  abbrev SameType : Based → Based → Type 0
  SameType x y = y.ty ≡ x.ty

  tag_same : (s : Scope) (tag : PlainToken) (o : Option ℕ) → Both SameType (based_on_tag false s tag o) (based_on_tag false (renamed s) tag o)
  tag_same s tag (Some n) = refl
  tag_same s tag None = tt

  named_same : (s : Scope) (o : Option PlainToken)
      → Both SameType (or_broken o >>= (λ tag. based_on_tag false s tag (s.tags tag.text))) (or_broken o >>= (λ tag. based_on_tag false (renamed s) tag (s.tags tag.text)))
  named_same s None = tt
  named_same s (Some tag) = both_then Equal SameType (give tag) (give tag) _ _ refl (λ x y h. subst (λ z. Both SameType (based_on_tag false s x (s.tags x.text)) (based_on_tag false (renamed s) z (s.tags z.text))) h (tag_same s x (s.tags x.text)))

  words_same : (s : Scope) (words : PlainTrees) → Both SameType (based false s words) (based false (renamed s) words)
  words_same s words =
      both_if (Both SameType) (has_terminal t.Struct words) (has_terminal t.Struct words) _ _ _ _ refl (λ h. named_same s (name_in words)) (λ h. refl)

  -- ---- parameters

  module _ (defining : Bool) where
    abbrev given : Scope → PlainToken → Option PlainToken → PlainType → Checked Parameter
    given s at o whole = judged_parameter defining s whole at >>= (λ judged. give (record { name = o; ty = whole }))

    abbrev made : Scope → List Parameter → PlainType → PlainToken → Kind → PlainTrees → Option PlainToken → Checked Parameter
    made s before ty first kind parts o =
        unless_so (is_new_parameter before o) Redeclared (token_of o first) >>= (λ new. declares_name o (parameter_entity defining (length before)) >>= (λ bound. parameter_type s ty kind parts (token_of o first) >>= given s (token_of o first) o))

    made_same : (s : Scope) (before : List Parameter) (ty : PlainType) (first : PlainToken) (kind : Kind) (parts : PlainTrees) (o : Option PlainToken)
        → Both Equal (made s before ty first kind parts o) (made (renamed s) before ty first kind parts o)
    made_same s before ty first kind parts o =
        let at : PlainToken = token_of o first in
        both_then Equal Equal (unless_so (is_new_parameter before o) Redeclared at) (unless_so (is_new_parameter before o) Redeclared at) _ _ (itself (unless_so (is_new_parameter before o) Redeclared at))
        (λ x y h. both_then Equal Equal (declares_name o (parameter_entity defining (length before))) (declares_name o (parameter_entity defining (length before))) _ _ (itself (declares_name o (parameter_entity defining (length before))))
        (λ u v i. both_then Equal Equal (parameter_type s ty kind parts at) (parameter_type (renamed s) ty kind parts at) (given s at o) (given (renamed s) at o) (type_same s ty kind parts at)
        (λ a b same. subst (λ z. Both Equal (given s at o a) (given (renamed s) at o z)) same (itself (given s at o a)))))

    declarator_same : (s : Scope) (before : List Parameter) (ty : PlainType) (first : PlainToken) (tree : PlainTree)
        → Both Equal (declared_parameter defining s before ty first tree) (declared_parameter defining (renamed s) before ty first tree)
    declarator_same s before ty first (node k.Absent parts) = itself (given s first None ty)
    declarator_same s before ty first (node kind parts) = made_same s before ty first kind parts (name_in parts)
    declarator_same s before ty first (leaf token) = tt

    one_same : (s : Scope) (before : List Parameter) (tree : PlainTree) (behind : PlainToken) → Both Equal (one_parameter defining s before tree behind) (one_parameter defining (renamed s) before tree behind)
    one_same s before (node kind (more (node words_kind words) (more declarator none))) behind =
        both_then SameType Equal (based false s words) (based false (renamed s) words) _ _ (words_same s words)
        (λ x y same. subst (λ ty. Both Equal (declared_parameter defining s before x.ty (first_token_in words behind) declarator) (declared_parameter defining (renamed s) before ty (first_token_in words behind) declarator)) (sym same)
        (declarator_same s before x.ty (first_token_in words behind) declarator))
    one_same s before _ behind = tt

    behind_parameter : (s : Scope) (slot : ℕ) (o : Option PlainToken) (ty : PlainType) → renamed (with_parameter s slot o ty) ≡ with_parameter (renamed s) slot o ty
    behind_parameter s slot None ty = refl
    behind_parameter s slot (Some name) ty = refl

    all_same : (s : Scope) (before : List Parameter) (parts : PlainTrees) (behind : PlainToken) → Both Equal (parameters_from defining s before parts behind) (parameters_from defining (renamed s) before parts behind)
    all_same s before none behind = refl
    all_same s before (more tree none) behind =
        both_then Equal Equal (one_parameter defining s before tree behind) (one_parameter defining (renamed s) before tree behind) _ _ (one_same s before tree behind)
        (λ x y same. ap (λ z. before ++ z ∷ []) same)
    all_same s before (more tree (more comma rest)) behind =
        both_then Equal Equal (one_parameter defining s before tree behind) (one_parameter defining (renamed s) before tree behind) _ _ (one_same s before tree behind)
        (λ x y same. subst
        (λ z. Both Equal (parameters_from defining (with_parameter s (length before) x.name x.ty) (before ++ x ∷ []) rest behind)
        (parameters_from defining (with_parameter (renamed s) (length before) z.name z.ty) (before ++ z ∷ []) rest behind)) same
        (subst (λ scope. Both Equal (parameters_from defining (with_parameter s (length before) x.name x.ty) (before ++ x ∷ []) rest behind) (parameters_from defining scope (before ++ x ∷ []) rest behind))
        (behind_parameter s (length before) x.name x.ty) (all_same (with_parameter s (length before) x.name x.ty) (before ++ x ∷ []) rest behind)))

    list_same : (s : Scope) (list : PlainTree) (behind : PlainToken) → Both Equal (parameters_in defining s list behind) (parameters_in defining (renamed s) list behind)
    list_same s (node k.Parameters parts) behind =
        both_if (Both Equal) (is_lone_void parts) (is_lone_void parts) (give []) (parameters_from defining (with_block s) [] parts behind) (give []) (parameters_from defining (with_block (renamed s)) [] parts behind) refl
        (λ h. refl) (λ h. all_same (with_block s) [] parts behind)
    list_same s _ behind = refl

    pub parameters_same : (s : Scope) (list : PlainTree) (behind : PlainToken)
        → outcome_as (λ ps. ps) (parameters_of defining s (Some list) behind) ≡ outcome_as (λ ps. ps) (parameters_of defining (renamed s) (Some list) behind)
    parameters_same s list behind = both_as (λ ps. ps) (λ ps. ps) (parameters_in defining s list behind) (parameters_in defining (renamed s) list behind) (list_same s list behind)
