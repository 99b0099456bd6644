-- A function behind its parameters, its name and its block, by what the tables say before and behind them.
use Rattle.std.proofs.Common.{◌≡◌, ℕ, Bool, true, false, not, List, refl, sym, ap, ap₂, ◌∙◌, subst}
use Rattle.std.specs.Prelude.{◌||◌, map, Some}
use Rattle.c_text.specs.Token.{PlainToken}
use Rattle.c_types.specs.Types.{PlainType}
use Rattle.c_tree.specs.Trees.{PlainTree}
use Rattle.core_meaning.specs.Checking.{Binding, Checked, fine, refused, broken, with_bindings, ◌>>=◌, give}
use Rattle.core_meaning.specs.Entities.{Signature, Scope, function}
use Rattle.core_meaning.specs.Declarations.{Parameter, parameters_of}
use Rattle.core_meaning.specs.Statements.{JudgedItems}
use Rattle.core_meaning.specs.UnitNames.{Storage, with_name, parameter_types, signature_of, judged_body}
use Rattle.operand_types.specs.OperandTypes.{outcome_as, renumbered}
use Rattle.statement_readings.specs.Walks.{is_refused}
use Rattle.type_tables.specs.Tables.{Tables}
use Rattle.type_tables.specs.Follows.{IsThere, renumbered_signature, SortIsThere, Follows, FollowsInBlock}
use Rattle.type_tables.specs.Numbers.{FollowsBy, FollowsInBlockBy}
use Rattle.name_declarations.specs.Names.{Named}
use Rattle.cond_parameters.specs.Parameters.{AreDeclared, Declares}
use Rattle.cond_units.proofs.OneFunction.{as_signature}
use Rattle.cond_units.proofs.Judging.{Keeps, name_keeps}
use Rattle.cond_types.specs.Definitions.{inside, behind_block}
use Rattle.cond_types.proofs.Inside.{opened, inside_is, under_block, named_inside, closed, left_by, in_block}

named_still : (by : ℕ → ℕ) (bindings : List Binding) (next : Checked Scope) (declined : Bool) (t : Tables) → Named by next declined t → Named by (with_bindings bindings next) declined t
named_still by bindings (fine scope others) declined t h = h
named_still by bindings (refused kind token) declined t h = h
named_still by bindings broken declined t h = h

module _ (storage : Storage) (name : PlainToken) (list body : PlainTree) (scope : Scope) (ty returns : PlainType) (old inner named new : Tables) (follows : Follows old scope) (types : List PlainType)
    (invalid differs wrong before here declined : Bool) (before_is : before ≡ (invalid || differs)) (here_is : here ≡ not before) (declined_is : declined ≡ (before || wrong))
    (new_is : new ≡ closed named old) (locals_are : named.locals ≡ inner.locals) (depth_is : named.depth ≡ inner.depth) (returns_is : returns ≡ renumbered follows.by ty) (there : IsThere scope.structs ty)
    (names : (at : Scope) (f : Follows inner at) (s : Signature) → as_signature returns types ≡ renumbered_signature f.by s → SortIsThere at.structs (function s) → Named f.by (with_name at name (function s) storage) differs named)
    (blocks : here ≡ true → (at : Scope) (slots : List PlainType) (f : FollowsInBlock named at) → returns ≡ renumbered f.follows.by ty → wrong ≡ is_refused (judged_body at ty slots body)) where
  first_refused : invalid ≡ true → declined ≡ true
  first_refused h = declined_is ∙ ap (λ (b : Bool). b || wrong) (before_is ∙ ap (λ (b : Bool). b || differs) h)

  second_refused : invalid ≡ false → differs ≡ true → declined ≡ true
  second_refused valid h = declined_is ∙ ap (λ (b : Bool). b || wrong) (before_is ∙ ap₂ (λ (a b : Bool). a || b) valid h)

  module _ (ps : List Parameter) (valid : invalid ≡ false) (entered : FollowsInBlockBy follows.by inner (opened scope ps)) where
    -- by its block
    body_comes : (behind : Scope) → Keeps scope behind → differs ≡ false → FollowsBy follows.by named (opened behind ps)
        → (o : Checked JudgedItems) → wrong ≡ is_refused o → Named follows.by (o >>= (λ items. give behind)) declined new
    body_comes behind keeps same followed (fine items bindings) e = (
      declined_is ∙ ap₂ (λ (a b : Bool). a || b) (before_is ∙ ap₂ (λ (a b : Bool). a || b) valid same) e,
      subst (λ (t : Tables). FollowsBy follows.by t behind) (sym new_is)
          (left_by follows.by old named scope behind ps (record { follows = follows; numbers = refl }) followed keeps),
    )
    body_comes behind keeps same followed (refused kind token) e = declined_is ∙ ap₂ (λ (a b : Bool). a || b) (before_is ∙ ap₂ (λ (a b : Bool). a || b) valid same) e
    body_comes behind keeps same followed broken e = declined_is ∙ ap₂ (λ (a b : Bool). a || b) (before_is ∙ ap₂ (λ (a b : Bool). a || b) valid same) e

    read_here : differs ≡ false → here ≡ true
    read_here same = here_is ∙ ap not (before_is ∙ ap₂ (λ (a b : Bool). a || b) valid same)

    block_comes : (behind : Scope) → Keeps scope behind → differs ≡ false → FollowsBy follows.by named (opened behind ps)
        → Named follows.by (judged_body (inside behind ps) ty (parameter_types ps) body >>= (λ items. give behind)) declined new
    block_comes behind keeps same followed =
        let f = in_block follows.by inner named scope behind ps entered followed keeps locals_are depth_is in
        body_comes behind keeps same followed (judged_body (inside behind ps) ty (parameter_types ps) body)
        (subst (λ (at : Scope). wrong ≡ is_refused (judged_body at ty (parameter_types ps) body)) (sym (inside_is behind ps))
        (blocks (read_here same) (opened behind ps) (parameter_types ps) f.follows (returns_is ∙ ap (λ (b : ℕ → ℕ). renumbered b ty) (sym f.numbers))))

    -- by its name
    name_comes : (w : Checked Scope) → ((behind : Scope) (bindings : List Binding) → w ≡ fine behind bindings → Keeps scope behind) → Named follows.by (under_block ps w) differs named
        → Named follows.by (w >>= (λ behind. judged_body (inside behind ps) ty (parameter_types ps) body >>= (λ items. give behind))) declined new
    name_comes (fine behind bindings) keeps h = named_still follows.by bindings _ declined new (block_comes behind (keeps behind bindings refl) h.0 h.1)
    name_comes (refused kind token) keeps h = second_refused valid h
    name_comes broken keeps h = second_refused valid h

  declared_name : (ps : List Parameter) (d : AreDeclared follows.by scope ps types invalid inner) (entered : FollowsInBlockBy follows.by inner (opened scope ps))
      → Named follows.by (under_block ps (with_name scope name (function (signature_of ty ps)) storage)) differs named
  declared_name ps d entered =
      subst (λ (w : Checked Scope). Named follows.by w differs named) (named_inside scope ps name (function (signature_of ty ps)) storage)
      (subst (λ (b : ℕ → ℕ). Named b (with_name (opened scope ps) name (function (signature_of ty ps)) storage) differs named) entered.numbers
      (names (opened scope ps) entered.follows.follows (signature_of ty ps)
      (ap₂ (λ (r : PlainType) (ts : List PlainType). as_signature r ts) (returns_is ∙ ap (λ (b : ℕ → ℕ). renumbered b ty) (sym entered.numbers)) (d.types_are ∙ ap (λ (b : ℕ → ℕ). map (renumbered b) (parameter_types ps)) (sym entered.numbers)))
      (there, d.there)))

  -- by its parameters
  list_comes : (o : Checked (List Parameter)) → Declares follows.by scope (outcome_as (λ ps. ps) o) types invalid inner
      → Named follows.by (o >>= (λ ps. with_name scope name (function (signature_of ty ps)) storage >>= (λ behind. judged_body (inside behind ps) ty (parameter_types ps) body >>= (λ items. give behind)))) declined new
  list_comes (fine ps bindings) d =
      let entered = subst (λ (s : Scope). FollowsInBlockBy follows.by inner s) (inside_is scope ps) d.follows in
      named_still follows.by bindings _ declined new
      (name_comes ps d.fits entered (with_name scope name (function (signature_of ty ps)) storage)
      (λ behind others e. name_keeps scope name (function (signature_of ty ps)) storage behind others e) (declared_name ps d entered))
  list_comes (refused kind token) d = first_refused d
  list_comes broken d = first_refused d

  pub block_named : Declares follows.by scope (outcome_as (λ ps. ps) (parameters_of true scope (Some list) name)) types invalid inner → Named follows.by (behind_block storage name list body scope ty) declined new
  block_named d = list_comes (parameters_of true scope (Some list) name) d
