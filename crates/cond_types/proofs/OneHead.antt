-- The definition of a function behind one type, by what the tables say before and behind it.
use Rattle.std.proofs.Common.{◌≡◌, ℕ, Bool, true, false, not, ◌||◌, ◌&&◌, List, [], ◌∷◌, ◌++◌, refl, sym, ap, ap₂, ◌∙◌, subst}
use Rattle.std.specs.Prelude.{Some}
use Rattle.std.proofs.lemmas.Bool.{false≢true}
use Rattle.conditional.specs.Entries.{under}
use Rattle.c_text.specs.Token.{PlainToken}
use Rattle.c_types.specs.Types.{PlainType, void, char, unsigned_char, int, unsigned_int, long, unsigned_long, pointer_to, array_of, structure}
use Rattle.c_tree.specs.Grammar.{block}
use Rattle.c_tree.specs.Trees.{PlainTree}
use Rattle.tree_derivations.specs.Derivations.{Derivation}
use Rattle.core_meaning.specs.declared.refusals.TypeKind.{TypeKind}
use Rattle.core_meaning.specs.declared.refusals.TypeKind.TheVariants.{Redeclared}
use Rattle.core_meaning.specs.Checking.{Binding, file_entity, Checked, fine, refused, broken, with_bindings, ◌>>=◌, give, unless_so, in_function}
use Rattle.core_meaning.specs.Entities.{Struct, Scope, function}
use Rattle.core_meaning.specs.Expressions.{is_void}
use Rattle.core_meaning.specs.Declarations.{pointers, Parameter, parameters_of}
use Rattle.core_meaning.specs.Statements.{JudgedItems}
use Rattle.core_meaning.specs.UnitNames.{Storage, UnitState, Defined, with_name, with_scope, with_defined, function_body, parameter_types, signature_of, may_be_function, is_result, result_kind, judged_body, count_functions}
use Rattle.operand_types.specs.OperandTypes.{renumbered}
use Rattle.type_tables.specs.Tables.{Tables, is_complete_type}
use Rattle.type_tables.specs.Steps.{with_signature}
use Rattle.core_meaning.specs.Entities.{Signature}
use Rattle.type_tables.specs.Follows.{IsThere, Follows}
use Rattle.type_tables.specs.Numbers.{FollowsBy}
use Rattle.type_tables.proofs.NameLaws.{function_declared, function_by}
use Rattle.cond_declarators.proofs.DeclaratorTypes.{pointers_renumbered, pointers_there, complete_followed}
use Rattle.name_declarations.specs.Names.{Named}
use Rattle.cond_parameters.specs.Parameters.{IsList}
use Rattle.cond_units.specs.Seen.{SeenUnit}
use Rattle.type_tables.specs.Definitions.{PlainDefinition, plain_definition, plain_definitions}
use Rattle.cond_units.specs.Declaring.{IsUnit, GoesOn, DeclaresTyped}
use Rattle.cond_units.proofs.Judging.{nothing_behind, Keeps, name_keeps}
use Rattle.cond_units.proofs.OneObjectDeclarator.{goes_still}
use Rattle.cond_units.specs.Where.{Stays, Where}
use Rattle.cond_types.specs.Definitions.{inside, behind_block, definition_of_head}

-- ---- what goes on

module _ (by : ℕ → ℕ) (structs : List Struct) (declined : Bool) (new : SeenUnit) where
  in_function_goes_on : (n : ℕ) (next : Checked UnitState) → GoesOn by structs next declined new → GoesOn by structs (in_function n next) declined new
  in_function_goes_on n (fine unit bindings) h = h
  in_function_goes_on n (refused kind token) h = h
  in_function_goes_on n broken h = h

  named_before : (bindings : List Binding) (next : Checked Scope) → Named by (with_bindings bindings next) declined new.tables → Named by next declined new.tables
  named_before bindings (fine scope others) h = h
  named_before bindings (refused kind token) h = h
  named_before bindings broken h = h

  -- by what is visible behind each step
  goes_on_as : {A : Type 0} (first : Checked A) (f : A → Checked Scope) (g : A → Checked UnitState)
      → ((x : A) (bindings : List Binding) → first ≡ fine x bindings → Named by (f x) declined new.tables → GoesOn by structs (g x) declined new)
      → Named by (first >>= f) declined new.tables → GoesOn by structs (first >>= g) declined new
  goes_on_as (fine x bindings) f g each h = goes_still by structs bindings (g x) declined new (each x bindings refl (named_before bindings (f x) h))
  goes_on_as (refused kind token) f g each h = h
  goes_on_as broken f g each h = h

no_bindings : {A : Type 0} (o : Checked A) → with_bindings [] o ≡ o
no_bindings (fine x bindings) = refl
no_bindings (refused kind token) = refl
no_bindings broken = refl

one_behind : (xs : List Defined) (d : Defined) → plain_definitions (xs ++ d ∷ []) ≡ plain_definitions xs ++ plain_definition d ∷ []
one_behind [] d = refl
one_behind (x ∷ xs) d = ap (λ (l : List PlainDefinition). plain_definition x ∷ l) (one_behind xs d)

-- ---- results

void_same : (by : ℕ → ℕ) (ty : PlainType) → is_void (renumbered by ty) ≡ is_void ty
void_same by void = refl
void_same by char = refl
void_same by unsigned_char = refl
void_same by int = refl
void_same by unsigned_int = refl
void_same by long = refl
void_same by unsigned_long = refl
void_same by (pointer_to ty) = refl
void_same by (array_of ty count) = refl
void_same by (structure n) = refl

result_same : (t : Tables) (scope : Scope) (f : Follows t scope) (ty : PlainType) → IsThere scope.structs ty
    → (is_void (renumbered f.by ty) || is_complete_type t (renumbered f.by ty)) ≡ is_result scope ty
result_same t scope f ty there = ap₂ (λ (a b : Bool). a || b) (void_same f.by ty) (complete_followed t scope f ty there)

-- ---- the definition

module _ (storage : Storage) (stars : ℕ) (name : PlainToken) (list body : PlainTree) (ty : PlainType) (old new : SeenUnit) (unfit other conflicting here invalid declined : Bool)
    (declined_is : declined ≡ (conflicting || invalid)) (conflicting_is : conflicting ≡ (unfit || other)) (here_is : here ≡ not (unfit || other))
    (defined_is : new.defined ≡ old.defined ++ under here (record { name = name.text; tentative = false } ∷ []))
    (fits : unfit ≡ not (is_void (pointers stars ty) || is_complete_type old.tables (pointers stars ty)))
    (conflicts : (scope : Scope) (follows : Follows old.tables scope) (t : PlainType) → pointers stars ty ≡ renumbered follows.by t → other ≡ not (may_be_function storage t (scope.file_names name.text)))
    (blocks : here ≡ true → (scope : Scope) (follows : Follows old.tables scope) (t : PlainType) → pointers stars ty ≡ renumbered follows.by t → IsThere scope.structs t → IsList list → Derivation block body
    → Named follows.by (behind_block storage name list body scope t) invalid new.tables) where
  module _ (by : ℕ → ℕ) (unit : UnitState) (whole : PlainType) (is : IsUnit by old unit) (same : ty ≡ renumbered by whole) (there : IsThere unit.scope.structs whole) (is_list : IsList list) (derived : Derivation block body) where
    abbrev result : PlainType
    result = pointers stars whole

    result_is : pointers stars ty ≡ renumbered is.tables.follows.by result
    result_is =
        ap (pointers stars) (same ∙ ap (λ (b : ℕ → ℕ). renumbered b whole) (sym is.tables.numbers))
        ∙ sym (pointers_renumbered is.tables.follows.by stars whole)

    result_there : IsThere unit.scope.structs result
    result_there = pointers_there unit.scope.structs stars whole there

    unfit_is : unfit ≡ not (is_result unit.scope result)
    unfit_is =
        fits ∙ (ap (λ (t : PlainType). not (is_void t || is_complete_type old.tables t)) result_is
        ∙ ap not (result_same old.tables unit.scope is.tables.follows result result_there))

    other_is : other ≡ not (may_be_function storage result (unit.scope.file_names name.text))
    other_is = conflicts unit.scope is.tables.follows result result_is

    abbrev defined_with : Scope → JudgedItems → UnitState
    defined_with scope items = with_defined (with_scope unit scope) name.text (function_body items.slots items.core)

    abbrev behind_parameters : List Parameter → Checked UnitState
    behind_parameters ps =
        with_name unit.scope name (function (signature_of result ps)) storage
        >>= (λ scope. judged_body (inside scope ps) result (parameter_types ps) body >>= (λ items. give (defined_with scope items)))

    abbrev visible_behind : List Parameter → Checked Scope
    visible_behind ps =
        with_name unit.scope name (function (signature_of result ps)) storage
        >>= (λ scope. judged_body (inside scope ps) result (parameter_types ps) body >>= (λ items. give scope))

    given_goes_on : here ≡ true → (scope : Scope) → Keeps unit.scope scope → (items : JudgedItems) → Named by (give scope) invalid new.tables → GoesOn by unit.scope.structs (give (defined_with scope items)) invalid new
    given_goes_on h scope keeps items named = (
      named.0,
      record {
        tables = named.1;
        defined = defined_is
            ∙ (ap₂ (λ (d : List PlainDefinition) (b : Bool). d ++ under b (record { name = name.text; tentative = false } ∷ [])) is.defined h
            ∙ sym (one_behind unit.defined (record { name = name.text; body = function_body items.slots items.core })));
        outside = keeps.blocks ∙ is.outside;
      },
      keeps.structs,
    )

    parameters_go_on : here ≡ true → (o : Checked (List Parameter)) → Named by (o >>= visible_behind) invalid new.tables → GoesOn by unit.scope.structs (o >>= behind_parameters) invalid new
    parameters_go_on h o named =
        goes_on_as by unit.scope.structs invalid new o visible_behind behind_parameters
        (λ ps before e inner.
        goes_on_as by unit.scope.structs invalid new (with_name unit.scope name (function (signature_of result ps)) storage)
        (λ scope. judged_body (inside scope ps) result (parameter_types ps) body >>= (λ items. give scope)) (λ scope. judged_body (inside scope ps) result (parameter_types ps) body >>= (λ items. give (defined_with scope items)))
        (λ scope bindings declared behind.
        goes_on_as by unit.scope.structs invalid new (judged_body (inside scope ps) result (parameter_types ps) body) (λ items. give scope) (λ items. give (defined_with scope items))
        (λ items others judged last. given_goes_on h scope (name_keeps unit.scope name (function (signature_of result ps)) storage scope bindings declared) items last) behind)
        inner) named

    all_fit : unfit ≡ false → other ≡ false → GoesOn by unit.scope.structs (with_bindings [] (parameters_of true unit.scope (Some list) name) >>= behind_parameters) declined new
    all_fit no_misfit no_other =
        let no_conflict = ap₂ (λ (a b : Bool). a || b) no_misfit no_other in
        let h : here ≡ true = here_is ∙ ap not no_conflict in
        subst (λ (o : Checked (List Parameter)). GoesOn by unit.scope.structs (o >>= behind_parameters) declined new) (sym (no_bindings (parameters_of true unit.scope (Some list) name)))
        (subst (λ (d : Bool). GoesOn by unit.scope.structs (parameters_of true unit.scope (Some list) name >>= behind_parameters) d new)
        (sym (declined_is ∙ ap (λ (b : Bool). b || invalid) (conflicting_is ∙ no_conflict)))
        (parameters_go_on h (parameters_of true unit.scope (Some list) name)
        (subst (λ (b : ℕ → ℕ). Named b (behind_block storage name list body unit.scope result) invalid new.tables) is.tables.numbers
        (blocks h unit.scope is.tables.follows result result_is result_there is_list derived))))

    refused_so : (unfit || other) ≡ true → declined ≡ true
    refused_so h = declined_is ∙ ap (λ (b : Bool). b || invalid) (conflicting_is ∙ h)

    or_other : (a b : Bool) → b ≡ true → (a || b) ≡ true
    or_other true b h = refl
    or_other false b h = h

    by_other : (may : Bool) → other ≡ not may → unfit ≡ false
        → GoesOn by unit.scope.structs ((unless_so may Redeclared name >>= (λ u. parameters_of true unit.scope (Some list) name)) >>= behind_parameters) declined new
    by_other true none no_misfit = all_fit no_misfit none
    by_other false some no_misfit = refused_so (or_other unfit other some)

    by_result : (fit : Bool) (kind : TypeKind) → unfit ≡ not fit
        → GoesOn by unit.scope.structs (unless_so fit kind name >>= (λ u. (unless_so (may_be_function storage result (unit.scope.file_names name.text)) Redeclared name >>= (λ v. parameters_of true unit.scope (Some list) name)) >>= behind_parameters)) declined new
    by_result true kind none = goes_still by unit.scope.structs [] _ declined new (by_other (may_be_function storage result (unit.scope.file_names name.text)) other_is none)
    by_result false kind some = refused_so (ap (λ (b : Bool). b || other) some)

    definition_goes_on : GoesOn by unit.scope.structs (definition_of_head storage body stars name (Some list) unit whole) declined new
    definition_goes_on =
        in_function_goes_on by unit.scope.structs declined new (count_functions unit.defined) _
        (goes_still by unit.scope.structs (record { entity = file_entity name.text; in_expression = false } ∷ []) _ declined new
        (by_result (is_result unit.scope result) (result_kind unit.scope storage result name (parameters_of true unit.scope (Some list) name)) unfit_is))

  pub definition_typed : DeclaresTyped ty (definition_of_head storage body stars name (Some list)) (IsList list × Derivation block body) old new declined
  definition_typed = record { goes_on = λ by unit whole is same there ready. definition_goes_on by unit whole is same there ready.0 ready.1 }

-- one more declaration of a function that no name stands for
declared_elsewhere : (signature : Signature) (old new : SeenUnit) → new.tables ≡ with_signature signature old.tables → new.defined ≡ old.defined → Stays old new
declared_elsewhere signature old new more none = record {
  stays = λ by unit is. record {
    tables = subst (λ (t : Tables). FollowsBy by t unit.scope) (sym more) (record {
      follows = function_declared old.tables unit.scope is.tables.follows signature;
      numbers = function_by old.tables unit.scope is.tables.follows signature ∙ is.tables.numbers;
    });
    defined = none ∙ is.defined;
    outside = is.outside;
  };
}

-- where a condition is true
pub definition_here :
    (storage : Storage) (stars : ℕ) (name : PlainToken) (list body : PlainTree) (ty : PlainType) (old new : SeenUnit) (when unfit other conflicting here invalid declined : Bool) (signature : Signature)
    → declined ≡ (conflicting || invalid) → conflicting ≡ (when && (unfit || other)) → here ≡ (when && not (unfit || other))
    → new.defined ≡ old.defined ++ under here (record { name = name.text; tentative = false } ∷ [])
    → unfit ≡ not (is_void (pointers stars ty) || is_complete_type old.tables (pointers stars ty))
    → ((scope : Scope) (follows : Follows old.tables scope) (t : PlainType) → pointers stars ty ≡ renumbered follows.by t → other ≡ (when && not (may_be_function storage t (scope.file_names name.text))))
    → (here ≡ false → (new.tables ≡ with_signature signature old.tables) × (invalid ≡ false))
    → (here ≡ true → (scope : Scope) (follows : Follows old.tables scope) (t : PlainType) → pointers stars ty ≡ renumbered follows.by t → IsThere scope.structs t → IsList list → Derivation block body
    → Named follows.by (behind_block storage name list body scope t) invalid new.tables)
    → Where when (DeclaresTyped ty (definition_of_head storage body stars name (Some list)) (IsList list × Derivation block body)) old new declined
definition_here storage stars name list body ty old new true unfit other conflicting here invalid declined signature declined_is conflicting_is here_is defined_is fits conflicts apart blocks = record {
  elsewhere = λ h. absurd (false≢true (sym h));
  does = λ h. definition_typed storage stars name list body ty old new unfit other conflicting here invalid declined declined_is conflicting_is here_is defined_is fits conflicts blocks;
}
definition_here storage stars name list body ty old new false unfit other conflicting here invalid declined signature declined_is conflicting_is here_is defined_is fits conflicts apart blocks = record {
  elsewhere = λ h. (
    declared_elsewhere signature old new (apart here_is).0
        (defined_is ∙ (ap (λ (b : Bool). old.defined ++ under b (record { name = name.text; tentative = false } ∷ [])) here_is ∙ sym (nothing_behind old.defined))),
    declined_is ∙ ap₂ (λ (a b : Bool). a || b) conflicting_is (apart here_is).1,
  );
  does = λ h. absurd (false≢true h);
}
