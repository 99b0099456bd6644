-- The declaration of a function behind one type, by what the tables say before and behind it.
use Rattle.std.proofs.Common.{arith, ◌≡◌, ℕ, Bool, true, false, not, ◌||◌, ◌&&◌, List, [], ◌∷◌, refl, sym, ap, ap₂, ◌∙◌, subst}
use Rattle.std.specs.Prelude.{◌<◌, Some, if◌then◌else◌}
use Rattle.std.proofs.lemmas.Bool.{false≢true, eq-eqb}
use Rattle.c_text.specs.Token.{PlainToken}
use Rattle.c_types.specs.Types.{PlainType}
use Rattle.c_tree.specs.Trees.{PlainTree}
use Rattle.core_meaning.specs.declared.refusals.TypeKind.TheVariants.{Redeclared, BadOperand}
use Rattle.core_meaning.specs.Checking.{Binding, file_entity, Checked, fine, refused, broken, with_bindings, ◌>>=◌, give, unless_so}
use Rattle.core_meaning.specs.Entities.{Signature, Scope, function}
use Rattle.core_meaning.specs.Declarations.{pointers, Parameter, parameters_of}
use Rattle.core_meaning.specs.UnitNames.{Storage, UnitState, with_name, with_scope, may_be_function, signature_of}
use Rattle.operand_types.specs.OperandTypes.{renumbered}
use Rattle.type_tables.specs.Tables.{Tables}
use Rattle.type_tables.specs.Steps.{with_signature}
use Rattle.type_tables.specs.Follows.{IsThere, renumbered_signature, SortIsThere, Follows}
use Rattle.type_tables.specs.Numbers.{FollowsBy}
use Rattle.type_tables.proofs.NameLaws.{function_declared, function_by}
use Rattle.cond_declarators.proofs.DeclaratorTypes.{pointers_renumbered, pointers_there}
use Rattle.name_declarations.specs.Names.{Named}
use Rattle.cond_parameters.specs.Parameters.{IsList}
use Rattle.cond_units.specs.Seen.{SeenUnit}
use Rattle.cond_units.specs.Declaring.{IsUnit, GoesOn, DeclaresTyped}
use Rattle.cond_units.proofs.Judging.{Keeps, name_keeps}
use Rattle.cond_units.proofs.OneObjectDeclarator.{goes_still}
use Rattle.cond_units.specs.Functions.{function_of_head, GivesTypes}
use Rattle.cond_units.specs.Where.{Stays, Where}

-- ---- one of four refusals is there, or none is

first_of : (a b c d : Bool) → a ≡ true → ((a || b) || (c || d)) ≡ true
first_of a b c d h = ap (λ (x : Bool). (x || b) || (c || d)) h

second_of : (a b c d : Bool) → b ≡ true → ((a || b) || (c || d)) ≡ true
second_of true b c d h = refl
second_of false b c d h = ap (λ (x : Bool). x || (c || d)) h

third_of : (a b c d : Bool) → c ≡ true → ((a || b) || (c || d)) ≡ true
third_of true b c d h = refl
third_of false true c d h = refl
third_of false false c d h = ap (λ (x : Bool). x || d) h

last_of : (a b c d : Bool) → d ≡ true → ((a || b) || (c || d)) ≡ true
last_of true b c d h = refl
last_of false true c d h = refl
last_of false false true d h = refl
last_of false false false d h = h

none_of : (a b c d : Bool) → a ≡ false → b ≡ false → c ≡ false → d ≡ false → ((a || b) || (c || d)) ≡ false
none_of a b c d ha hb hc hd = ap₂ (λ (x y : Bool). x || y) (ap₂ (λ (x y : Bool). x || y) ha hb) (ap₂ (λ (x y : Bool). x || y) hc hd)

abbrev pub as_signature : PlainType → List PlainType → Signature
as_signature result types = record { result = result; parameters = types }

module _ (storage : Storage) (stars : ℕ) (name : PlainToken) (list : PlainTree) (initialised : Bool) (ty : PlainType) (old new : SeenUnit) (conflicting invalid differs given declined : Bool) (types : List PlainType)
    (declined_is : declined ≡ ((conflicting || invalid) || (differs || given))) (defined_is : new.defined ≡ old.defined) where
  module _ (given_is : given ≡ initialised)
      (conflicts : (scope : Scope) (follows : Follows old.tables scope) (t : PlainType) → pointers stars ty ≡ renumbered follows.by t → conflicting ≡ not (may_be_function storage t (scope.file_names name.text)))
      (lists : (scope : Scope) (follows : Follows old.tables scope) → IsList list → GivesTypes follows.by scope (parameters_of false scope (Some list) name) types invalid)
      (names : (scope : Scope) (follows : Follows old.tables scope) (s : Signature) → as_signature (pointers stars ty) types ≡ renumbered_signature follows.by s → SortIsThere scope.structs (function s)
      → Named follows.by (with_name scope name (function s) storage) differs new.tables) where
    module _ (by : ℕ → ℕ) (unit : UnitState) (whole : PlainType) (is : IsUnit by old unit) (same : ty ≡ renumbered by whole) (there : IsThere unit.scope.structs whole) (is_list : IsList list) where
      abbrev result : PlainType
      result = pointers stars whole

      result_is : pointers stars ty ≡ renumbered is.tables.follows.by result
      result_is =
          ap (pointers stars) (same ∙ ap (λ (b : ℕ → ℕ). renumbered b whole) (sym is.tables.numbers))
          ∙ sym (pointers_renumbered is.tables.follows.by stars whole)

      abbrev behind_name : Scope → Bool → Checked UnitState
      behind_name scope i = unless_so (not i) BadOperand name >>= (λ u. give (with_scope unit scope))

      abbrev behind_list : List Parameter → Checked UnitState
      behind_list ps = with_name unit.scope name (function (signature_of result ps)) storage >>= (λ scope. behind_name scope initialised)

      name_goes_on : (scope : Scope) → Keeps unit.scope scope → conflicting ≡ false → invalid ≡ false → differs ≡ false → FollowsBy is.tables.follows.by new.tables scope → (i : Bool) → given ≡ i
          → GoesOn by unit.scope.structs (behind_name scope i) declined new
      name_goes_on scope keeps no_conflict valid no_difference followed false none = (
        declined_is ∙ none_of conflicting invalid differs given no_conflict valid no_difference none,
        record {
          tables = record { follows = followed.follows; numbers = followed.numbers ∙ is.tables.numbers };
          defined = defined_is ∙ is.defined;
          outside = keeps.blocks ∙ is.outside;
        },
        keeps.structs,
      )
      name_goes_on scope keeps no_conflict valid no_difference followed true some = declined_is ∙ last_of conflicting invalid differs given some

      list_goes_on : conflicting ≡ false → invalid ≡ false → (w : Checked Scope) → ((scope : Scope) (bindings : List Binding) → w ≡ fine scope bindings → Keeps unit.scope scope) → Named is.tables.follows.by w differs new.tables
          → GoesOn by unit.scope.structs (w >>= (λ scope. behind_name scope initialised)) declined new
      list_goes_on no_conflict valid (fine scope bindings) keeps h =
          goes_still by unit.scope.structs bindings _ declined new (name_goes_on scope (keeps scope bindings refl) no_conflict valid h.0 h.1 initialised given_is)
      list_goes_on no_conflict valid (refused kind token) keeps h = declined_is ∙ third_of conflicting invalid differs given h
      list_goes_on no_conflict valid broken keeps h = declined_is ∙ third_of conflicting invalid differs given h

      parameters_go_on : conflicting ≡ false → (o : Checked (List Parameter)) → GivesTypes is.tables.follows.by unit.scope o types invalid
          → GoesOn by unit.scope.structs (with_bindings [] o >>= behind_list) declined new
      parameters_go_on no_conflict (fine ps bindings) h =
          goes_still by unit.scope.structs bindings _ declined new
          (list_goes_on no_conflict h.0 (with_name unit.scope name (function (signature_of result ps)) storage)
          (λ scope behind e. name_keeps unit.scope name (function (signature_of result ps)) storage scope behind e)
          (names unit.scope is.tables.follows (signature_of result ps) (ap₂ (λ (r : PlainType) (ts : List PlainType). as_signature r ts) result_is h.1) (pointers_there unit.scope.structs stars whole there, h.2)))
      parameters_go_on no_conflict (refused kind token) h = declined_is ∙ second_of conflicting invalid differs given h
      parameters_go_on no_conflict broken h = declined_is ∙ second_of conflicting invalid differs given h

      goes_on_by : (may : Bool) → conflicting ≡ not may
          → GoesOn by unit.scope.structs ((unless_so may Redeclared name >>= (λ u. parameters_of false unit.scope (Some list) name)) >>= behind_list) declined new
      goes_on_by true none = parameters_go_on none (parameters_of false unit.scope (Some list) name) (lists unit.scope is.tables.follows is_list)
      goes_on_by false some = declined_is ∙ first_of conflicting invalid differs given some

      pub function_goes_on : GoesOn by unit.scope.structs (function_of_head storage initialised stars name (Some list) unit whole) declined new
      function_goes_on =
          goes_still by unit.scope.structs (record { entity = file_entity name.text; in_expression = false } ∷ []) _ declined new
          (goes_on_by (may_be_function storage result (unit.scope.file_names name.text)) (conflicts unit.scope is.tables.follows result result_is))

    pub function_typed : DeclaresTyped ty (function_of_head storage initialised stars name (Some list)) (IsList list × (Unit {0})) old new declined
    function_typed = record { goes_on = λ by unit whole is same there ready. function_goes_on by unit whole is same there ready.0 }

  -- one more declaration of a function that no name stands for
  pub declared_elsewhere : (signature : Signature) → new.tables ≡ with_signature signature old.tables → Stays old new
  declared_elsewhere signature more = record {
    stays = λ by unit is. record {
      tables = subst (λ (t : Tables). FollowsBy by t unit.scope) (sym more) (record {
        follows = function_declared old.tables unit.scope is.tables.follows signature;
        numbers = function_by old.tables unit.scope is.tables.follows signature ∙ is.tables.numbers;
      });
      defined = defined_is ∙ is.defined;
      outside = is.outside;
    };
  }

-- where a condition is true
pub function_here :
    (storage : Storage) (stars : ℕ) (name : PlainToken) (list : PlainTree) (initialised : Bool) (ty : PlainType) (old new : SeenUnit) (when other conflicting invalid differs given declined : Bool) (types : List PlainType)
    → declined ≡ ((conflicting || invalid) || (differs || given)) → new.defined ≡ old.defined → conflicting ≡ (when && other) → given ≡ (when && initialised)
    → ((scope : Scope) (follows : Follows old.tables scope) (t : PlainType) → pointers stars ty ≡ renumbered follows.by t → other ≡ (when && not (may_be_function storage t (scope.file_names name.text))))
    → (when ≡ false → invalid ≡ false)
    → (when ≡ true → (scope : Scope) (follows : Follows old.tables scope) → IsList list → GivesTypes follows.by scope (parameters_of false scope (Some list) name) types invalid)
    → (when ≡ false → (new.tables ≡ with_signature (record { result = pointers stars ty; parameters = types }) old.tables) × (differs ≡ false))
    → (when ≡ true → (scope : Scope) (follows : Follows old.tables scope) (s : Signature) → as_signature (pointers stars ty) types ≡ renumbered_signature follows.by s → SortIsThere scope.structs (function s)
    → Named follows.by (with_name scope name (function s) storage) differs new.tables)
    → Where when (DeclaresTyped ty (function_of_head storage initialised stars name (Some list)) (IsList list × (Unit {0}))) old new declined
function_here storage stars name list initialised ty old new true other conflicting invalid differs given declined types declined_is defined_is conflicting_is given_is conflicts valid lists apart names = record {
  elsewhere = λ h. absurd (false≢true (sym h));
  does = λ h.
      function_typed storage stars name list initialised ty old new conflicting invalid differs given declined types declined_is defined_is given_is
      (λ scope follows t e. conflicting_is ∙ conflicts scope follows t e) (lists refl) (names refl);
}
function_here storage stars name list initialised ty old new false other conflicting invalid differs given declined types declined_is defined_is conflicting_is given_is conflicts valid lists apart names = record {
  elsewhere = λ h. (
    declared_elsewhere storage stars name list initialised ty old new conflicting invalid differs given declined types declined_is defined_is (as_signature (pointers stars ty) types) (apart refl).0,
    declined_is ∙ none_of conflicting invalid differs given conflicting_is (valid refl) (apart refl).1 given_is,
  );
  does = λ h. absurd (false≢true h);
}

-- the name stands for the declaration with the next number
pub signed :
    (storage : Storage) (name : PlainToken) (signature : Signature) (number : ℕ) (differs : Bool) (old inner new : Tables) → inner ≡ with_signature signature old → number ≡ old.functions
    → ((scope : Scope) (follows : Follows inner scope) (s : Signature) → inner.signatures number ≡ renumbered_signature follows.by s → SortIsThere scope.structs (function s) → number < inner.functions
    → Named follows.by (with_name scope name (function s) storage) differs new)
    → (scope : Scope) (follows : Follows old scope) (s : Signature) → signature ≡ renumbered_signature follows.by s → SortIsThere scope.structs (function s) → Named follows.by (with_name scope name (function s) storage) differs new
signed storage name signature number differs old inner new more number_is declared scope follows s is there =
    subst (λ (b : ℕ → ℕ). Named b (with_name scope name (function s) storage) differs new) (function_by old scope follows signature)
    (subst (λ (t : Tables). (scope : Scope) (follows : Follows t scope) (s : Signature) → t.signatures number ≡ renumbered_signature follows.by s → SortIsThere scope.structs (function s) → number < t.functions
    → Named follows.by (with_name scope name (function s) storage) differs new) more declared scope (function_declared old scope follows signature) s
    (ap (λ (b : Bool). if b then signature else old.signatures number) (eq-eqb number old.functions number_is) ∙ is ∙ ap (λ (b : ℕ → ℕ). renumbered_signature b s) (sym (function_by old scope follows signature)))
    there (omega (arith, number_is)))
