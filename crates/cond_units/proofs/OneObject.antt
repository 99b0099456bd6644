-- The declaration of an object of one type, by what the tables say before and behind it.
use Rattle.std.proofs.Common.{◌≡◌, ℕ, Bool, true, false, List, [], ◌++◌, refl, sym, ap, ap₂, subst, ◌∙◌}
use Rattle.std.specs.Prelude.{◌||◌, Option, Some, is_some, IsTrue}
use Rattle.std.proofs.lemmas.Bool.{false≢true}
use Rattle.conditional.specs.Entries.{under}
use Rattle.conditional_steps.specs.Here.{Here}
use Rattle.c_text.specs.Token.{PlainToken}
use Rattle.c_types.specs.Types.{PlainType}
use Rattle.c_tree.specs.Trees.{PlainTree, PlainTrees}
use Rattle.core_meaning.specs.Checking.{Binding, Checked, fine, refused, broken, ◌>>=◌}
use Rattle.core_meaning.specs.Entities.{Struct, Scope, variable}
use Rattle.core_meaning.specs.Constancy.{Initial, initial}
use Rattle.core_meaning.specs.UnitNames.{Storage, UnitState, with_name, with_scope, constant_parts, judged_global, defined_object}
use Rattle.operand_types.specs.OperandTypes.{renumbered}
use Rattle.type_tables.specs.Tables.{Tables}
use Rattle.type_tables.specs.Follows.{IsThere}
use Rattle.type_tables.specs.Numbers.{FollowsBy}
use Rattle.name_declarations.specs.Names.{Named}
use Rattle.cond_units.specs.Seen.{SeenUnit}
use Rattle.type_tables.specs.Definitions.{PlainDefinition, plain_definitions}
use Rattle.cond_units.specs.Definitions.{definitions_of, is_unfit}
use Rattle.cond_units.specs.Values.{is_value_refused}
use Rattle.cond_units.specs.Declaring.{IsUnit, GoesOn, IsInitialiser, object_of_type, Names, DeclaresTyped}
use Rattle.cond_units.proofs.Judging.{LeadsTo, leads_still, is_unfit_in, judged_first, nothing_behind, defined_last, Keeps, name_keeps}
use Rattle.cond_units.proofs.Fitting.{unfit_same, is_declared}

-- what a declaration leads to goes on to be seen
goes_on : (by : ℕ → ℕ) (structs : List Struct) (next : Checked UnitState) (declined : Bool) (scope : Scope) (seen : SeenUnit) → LeadsTo next declined scope seen.defined → FollowsBy by seen.tables scope → scope.blocks ≡ [] → scope.structs ≡ structs
    → GoesOn by structs next declined seen
goes_on by structs (fine unit bindings) declined scope seen h follows outside same = (
  h.0,
  record {
    tables = subst (FollowsBy by seen.tables) (sym h.1) follows;
    defined = sym h.2;
    outside = ap (λ (s : Scope). s.blocks) h.1 ∙ outside;
  },
  ap (λ (s : Scope). s.structs) h.1 ∙ same,
)
goes_on by structs (refused kind token) declined scope seen h follows outside same = h
goes_on by structs broken declined scope seen h follows outside same = h

or_true : (b : Bool) → (true || b) ≡ true
or_true b = refl

module _ (globals : ℕ) (storage : Storage) (name : PlainToken) (initialiser : Option PlainTree) (rest : PlainTrees) (ty : PlainType) (old new : SeenUnit) (declined : Bool)
    (first_values : (scope : Scope) (t : PlainType) (tree : PlainTree) (parts : List Initial) (bindings : List Binding) → initial scope (Some globals) t [] tree name ≡ fine parts bindings → IsTrue (is_some (constant_parts globals parts)))
    (names : Names storage ty name initialiser rest true old.tables new.tables declined) (defined_is : new.defined ≡ old.defined ++ definitions_of storage name.text (is_some initialiser)) where
  abbrev differs : Bool
  differs = names.differs

  abbrev unfit : Bool
  unfit = names.unfit

  abbrev invalid : Bool
  invalid = names.invalid

  module _ (by : ℕ → ℕ) (unit : UnitState) (whole : PlainType) (is : IsUnit by old unit) (same : ty ≡ renumbered by whole) (there : IsThere unit.scope.structs whole) (derived : IsInitialiser initialiser) where
    -- behind a name that is declared
    behind : (scope : Scope) (bindings : List Binding) → Keeps unit.scope scope → differs ≡ false → FollowsBy by new.tables scope
        → GoesOn by unit.scope.structs (fine scope bindings >>= (λ s. judged_global storage (is_some initialiser) s whole name rest >>= (λ u. defined_object globals (with_scope unit s) storage whole name initialiser))) declined new
    behind scope bindings keeps no_difference followed =
        let f = followed.follows in
        let here : IsThere scope.structs whole = subst (λ structs. IsThere structs whole) (sym keeps.structs) there in
        let ty_is : ty ≡ renumbered f.by whole = same ∙ ap (λ (b : ℕ → ℕ). renumbered b whole) (sym followed.numbers) in
        let outside : scope.blocks ≡ [] = keeps.blocks ∙ is.outside in
        let unfit_here : unfit ≡ is_unfit_in storage (is_some initialiser) scope.structs whole rest =
        names.unfit_is (λ number e. is_declared new.tables scope f rest whole here number (sym ty_is ∙ e)) ∙ ap (λ t. is_unfit new.tables storage (is_some initialiser) t rest) ty_is
        ∙ unfit_same new.tables scope f rest storage (is_some initialiser) whole here in
        let invalid_here : invalid ≡ is_value_refused scope globals whole name initialiser = names.invalid_is scope f whole ty_is here outside derived globals in
        let no_here : declined ≡ (is_unfit_in storage (is_some initialiser) scope.structs whole rest || is_value_refused scope globals whole name initialiser) =
        names.refused_is ∙ ap (λ b. b || (unfit || invalid)) no_difference ∙ ap₂ (λ (a b : Bool). a || b) unfit_here invalid_here in
        let defined_here : new.defined ≡ plain_definitions unit.defined ++ definitions_of storage name.text (is_some initialiser) =
        defined_is ∙ ap (λ (d : List PlainDefinition). d ++ definitions_of storage name.text (is_some initialiser)) is.defined in
        goes_on by unit.scope.structs _ declined scope new
        (subst (λ (d : List PlainDefinition). LeadsTo (fine scope bindings >>= (λ s. judged_global storage (is_some initialiser) s whole name rest >>= (λ u. defined_object globals (with_scope unit s) storage whole name initialiser))) declined scope d) (sym defined_here)
        (subst (λ b. LeadsTo (fine scope bindings >>= (λ s. judged_global storage (is_some initialiser) s whole name rest >>= (λ u. defined_object globals (with_scope unit s) storage whole name initialiser))) b scope (plain_definitions unit.defined ++ definitions_of storage name.text (is_some initialiser))) (sym no_here)
        (leads_still bindings _ _ scope _
        (judged_first storage (is_some initialiser) scope whole name rest (defined_object globals (with_scope unit scope) storage whole name initialiser) (is_value_refused scope globals whole name initialiser) _
        (defined_last globals unit scope whole name storage initialiser (λ tree parts behind e. first_values scope whole tree parts behind e))))))
        followed outside keeps.structs

    by_name : (w : Checked Scope) → ((scope : Scope) (bindings : List Binding) → w ≡ fine scope bindings → Keeps unit.scope scope) → Named by w differs new.tables
        → GoesOn by unit.scope.structs (w >>= (λ s. judged_global storage (is_some initialiser) s whole name rest >>= (λ u. defined_object globals (with_scope unit s) storage whole name initialiser))) declined new
    by_name (fine scope bindings) keeps h = behind scope bindings (keeps scope bindings refl) h.0 h.1
    by_name (refused kind token) keeps h = names.refused_is ∙ ap (λ b. b || (unfit || invalid)) h
    by_name broken keeps h = names.refused_is ∙ ap (λ b. b || (unfit || invalid)) h

    named_here : Named by (with_name unit.scope name (variable whole) storage) differs new.tables
    named_here =
        let f = is.tables.follows in
        subst (λ (b : ℕ → ℕ). Named b (with_name unit.scope name (variable whole) storage) differs new.tables) is.tables.numbers
        (names.named refl unit.scope f (variable whole) (same ∙ ap (λ (b : ℕ → ℕ). renumbered b whole) (sym is.tables.numbers)) there)

    pub object_goes_on : GoesOn by unit.scope.structs (object_of_type globals storage name initialiser rest unit whole) declined new
    object_goes_on = by_name (with_name unit.scope name (variable whole) storage) (λ scope bindings e. name_keeps unit.scope name (variable whole) storage scope bindings e) named_here

  pub object_declared : DeclaresTyped ty (object_of_type globals storage name initialiser rest) (IsInitialiser initialiser) old new declined
  object_declared = record { goes_on = λ by unit whole is same there derived. object_goes_on by unit whole is same there derived }

-- where a condition is true, and nothing elsewhere
pub object_here :
    (globals : ℕ) (storage : Storage) (name : PlainToken) (initialiser : Option PlainTree) (rest : PlainTrees) (ty : PlainType) (old new : SeenUnit) (here declined : Bool)
    → ((scope : Scope) (t : PlainType) (tree : PlainTree) (parts : List Initial) (bindings : List Binding) → initial scope (Some globals) t [] tree name ≡ fine parts bindings → IsTrue (is_some (constant_parts globals parts)))
    → Names storage ty name initialiser rest here old.tables new.tables declined → new.defined ≡ old.defined ++ under here (definitions_of storage name.text (is_some initialiser))
    → Here here (DeclaresTyped ty (object_of_type globals storage name initialiser rest) (IsInitialiser initialiser)) old new declined
object_here globals storage name initialiser rest ty old new true declined first_values names defined_is = record {
  elsewhere = λ h. absurd (false≢true (sym h));
  does = λ h. object_declared globals storage name initialiser rest ty old new declined first_values names defined_is;
}
object_here globals storage name initialiser rest ty old new false declined first_values names defined_is = record {
  elsewhere = λ h. (ap₂ (λ t d. as_seen t d) (names.elsewhere refl).0 (defined_is ∙ sym (nothing_behind old.defined)), names.refused_is ∙ ap (λ b. b || false) (names.elsewhere refl).1);
  does = λ h. absurd (false≢true h);
}
  where
    as_seen : Tables → List PlainDefinition → SeenUnit
    as_seen t d = record { tables = t; defined = d }
