-- The names of file scope that declarations declare, and their first values.
use Rattle.std.proofs.Common.{◌≡◌, ℕ, Bool, true, false, List, [], ◌∷◌, ◌++◌, refl, sym, ap, subst, ◌∙◌}
use Rattle.std.specs.Prelude.{not, ◌&&◌, Option, Some, None, is_some, if◌then◌else◌}
use Rattle.std.specs.Str.{bytes_eq}
use Rattle.std.specs.Cmp.Lexicographic.{bytes_decides}
use Rattle.std.proofs.lemmas.Bool.{false≢true}
use Rattle.c_names.specs.Names.{is_identifier}
use Rattle.c_text.specs.Token.{PlainToken}
use Rattle.c_types.specs.Types.{PlainType}
use Rattle.c_tree.specs.declared.kinds.Kind.{Kind}
use Rattle.c_tree.specs.declared.kinds.Kind.TheVariants as k
use Rattle.c_tree.specs.declared.terminals.Terminal.TheVariants as t
use Rattle.c_tree.specs.Terminals.{terminal, is_one_of}
use Rattle.c_tree.specs.Trees.{PlainTree, PlainTrees, leaf, node, none, more}
use Rattle.c_tree.specs.Grammar.{Role, declarator, is_word}
use Rattle.c_tree.proofs.TerminalCases.{one_of}
use Rattle.tree_derivations.specs.Derivations.{Derivation, single, made_of, a_row, IsWord}
use Rattle.core_meaning.specs.declared.refusals.TypeKind.TheVariants.{Redeclared}
use Rattle.core_meaning.specs.Checking.{file_entity, Checked, ◌>>=◌, give, unless_so, or_broken, declares}
use Rattle.core_meaning.specs.Entities.{Sort, variable, function, FileName, Scope}
use Rattle.core_meaning.specs.Typing.{is_complete}
use Rattle.core_meaning.specs.Constancy.{initial}
use Rattle.core_meaning.specs.Declarations.{name_in, starred, object_type, judged_object}
use Rattle.core_meaning.specs.UnitNames.{UnitState, Storage, by_static, by_extern, by_none, is_function, same_sort, same_bool, linkage, declared_as, with_name, may_be_incomplete, judged_global, constant_parts, object_body, with_defined, with_scope, defined_object, declared_object, signature_of, refused_initialiser, new_function, declared_function, declared_one, declared_from}
use Rattle.declarator_lists.specs.Lists.{declared_in, trees_of}
use Rattle.declaration_readings.specs.Readings.{Going, next_name}
use Rattle.declaration_readings.proofs.Lists.{declared}
use Rattle.declaration_readings.proofs.InTurn.{is_filled}
use Rattle.bindings.proofs.Spellings.{Holds, AllHold}
use Rattle.entity_numbers.proofs.Uses as bound
use Rattle.operand_types.specs.Laws.{TypesAreKept}
use Rattle.expression_types.specs.Laws.{ExpressionsHaveTypes}
use Rattle.selections.specs.Laws.{HasNames}
use Rattle.selections.proofs.Judgings.{IsQuiet}
use Rattle.selections.proofs.Expressions.{Nothing}
use Rattle.cond_sizes.specs.Laws.{CountsNeedNoNames}
use Rattle.member_uses.specs.Uses.{Use, names_in, names_among}
use Rattle.member_uses.specs.Declarations.{names_if, names_in_declared, uses_in_turn}
use Rattle.member_uses.proofs.Parts.{Part, Quietly, names_of_node, alone, quiet_then, none_then, quietly_then, then_quietly, part_as}
use Rattle.member_uses.proofs.Judged.{initial_part}
use Rattle.member_uses.proofs.Declarators.{NameForm, name_form, ObjectForm, declarator_form, array_form, object_quiet}
use Rattle.member_uses.proofs.Turns.{Initialised, no_value, a_value, IsInTurn, used_in_turn}
use Rattle.member_uses.proofs.Locals.{IsInitiallyIf}
use Rattle.unit_member_uses.proofs.Parameters.{parenthesized, function_unused}

-- ---- names of file scope

entered : (scope : Scope) → HasNames scope → (name : List ℕ) → is_identifier name ≡ true → (new : FileName) (other : List ℕ) (n : FileName) → (b : Bool) → bytes_eq other name ≡ b
    → (if b then Some new else scope.file_names other) ≡ Some n → is_identifier other ≡ true
entered scope names name spelt new other n true e h = subst (λ x. is_identifier x ≡ true) (sym ((bytes_decides other name).0 e)) spelt
entered scope names name spelt new other n false e h = names other n h

named_again : (scope : Scope) → HasNames scope → (name : PlainToken) (b : Bool) → Quietly HasNames (unless_so b Redeclared name >>= (λ alike. give scope))
named_again scope names name true = names
named_again scope names name false = tt

named_as : (scope : Scope) → HasNames scope → (name : PlainToken) → is_identifier name.text ≡ true → (sort : Sort) (internal : Bool) (o : Option FileName) → Quietly HasNames (declared_as scope name sort internal o)
named_as scope names name spelt sort internal (Some visible) = named_again scope names name (same_sort visible.sort sort && same_bool visible.internal internal)
named_as scope names name spelt sort internal None = λ other n. entered scope names name.text spelt (record { sort = sort; internal = internal }) other n (bytes_eq other name.text) refl

pub name_declared : (scope : Scope) → HasNames scope → (name : PlainToken) → is_identifier name.text ≡ true → (sort : Sort) (storage : Storage) → Quietly HasNames (with_name scope name sort storage)
name_declared scope names name spelt sort storage = named_as scope names name spelt sort (linkage storage (is_function sort) (scope.file_names name.text)) (scope.file_names name.text)

global_quiet : (storage : Storage) (initialised : Bool) (scope : Scope) (ty : PlainType) (name : PlainToken) (rest : PlainTrees) → IsQuiet (judged_global storage initialised scope ty name rest)
global_quiet storage initialised scope ty name rest =
    bound.if_binds Nothing (may_be_incomplete storage initialised scope.structs ty rest && not (is_complete scope.structs ty)) (give tt) (judged_object scope ty name) (record { all = tt }) (object_quiet scope ty name)

not_assign : (comma : PlainToken) → IsWord (t.Comma ∷ []) comma → is_word (t.Assign ∷ []) (leaf comma) ≡ false
not_assign comma w = one_of (λ x. is_one_of (t.Assign ∷ []) x ≡ false) (t.Comma ∷ []) (terminal comma) w (refl, tt)

module _ (globals : ℕ) (storage : Storage) (ty : PlainType) (behind : PlainTrees) where
  abbrev both : PlainTrees → UnitState → PlainTree → Option PlainTree → Checked UnitState
  both rest unit tree value = declared_one globals unit storage ty tree value behind >>= (λ first. declared_from globals first storage ty rest behind)

  names_next : (unit : UnitState) (tree : PlainTree) (comma : PlainToken) (rest : PlainTrees) → is_filled rest ≡ true → is_word (t.Assign ∷ []) (leaf comma) ≡ false
      → declared_from globals unit storage ty (more tree (more (leaf comma) rest)) behind ≡ both rest unit tree None
  names_next unit tree comma none filled e = absurd (false≢true filled)
  names_next unit tree comma (more next none) filled e = ap (λ b. if b then declared_one globals unit storage ty tree (Some next) behind else both (more next none) unit tree None) e
  names_next unit tree comma (more next (more sign rest)) filled e = ap (λ b. if b then both rest unit tree (Some next) else both (more next (more sign rest)) unit tree None) e

  names_in_turn : (role : Role) → IsInTurn (next_name globals storage ty behind) (λ unit parts. declared_from globals unit storage ty parts behind) role
  names_in_turn role = record {
    alone = λ unit tree. refl;
    alone_with = λ unit tree value sign m w. ap (λ b. if b then declared_one globals unit storage ty tree (Some value) behind else both (more value none) unit tree None) w;
    before = λ unit tree comma rest w filled. names_next unit tree comma rest filled (not_assign comma w);
    before_with = λ unit tree value sign comma rest m w. ap (λ b. if b then both rest unit tree (Some value) else both (more value (more (leaf comma) rest)) unit tree None) w;
  }

module _ (by : ℕ → ℕ) (kept : TypesAreKept) (typed : ExpressionsHaveTypes) (sizes : CountsNeedNoNames) where
  -- what is visible behind a name, and what its initialiser uses there
  abbrev pub IsName : Option PlainTree → UnitState → List Use → Type 0
  IsName value unit u = HasNames unit.scope × IsInitiallyIf by unit.scope value u

  -- ---- objects

  first_value : (unit : UnitState) (name : PlainToken) (tree : PlainTree) (o : Option (List Rattle.core_meaning.specs.Program.PlainConstantPart)) (u : List Use) → HasNames unit.scope → IsInitiallyIf by unit.scope (Some tree) u
      → Quietly (λ y. IsName (Some tree) y u) (or_broken o >>= (λ values. give (with_defined unit name.text (object_body values))))
  first_value unit name tree (Some values) u names q = (names, q)
  first_value unit name tree None u names q = tt

  defined_part : (globals : ℕ) (unit : UnitState) → HasNames unit.scope → (storage : Storage) (ty : PlainType) (name : PlainToken) (value : Option PlainTree) → Initialised value
      → Part by (IsName value) (defined_object globals unit storage ty name value) (names_if value)
  defined_part globals unit names by_extern ty name _ no_value = (tt, (names, λ keeps known is. refl))
  defined_part globals unit names by_static ty name _ no_value = (tt, (names, λ keeps known is. refl))
  defined_part globals unit names by_none ty name _ no_value = (tt, (names, λ keeps known is. refl))
  defined_part globals unit names storage ty name _ (a_value {tree = tree} d holds) =
      then_quietly by (λ x u. IsInitiallyIf by unit.scope (Some tree) u) (IsName (Some tree)) (names_in tree) (initial unit.scope (Some globals) ty [] tree name)
      (λ parts. or_broken (constant_parts globals parts) >>= (λ values. give (with_defined unit name.text (object_body values))))
      (initial_part by kept typed unit.scope names d holds (Some globals) ty [] name) (λ parts u q. first_value unit name tree (constant_parts globals parts) u names q)

  -- ---- declarators at file scope, of which this is said with the uses of their initialisers

  pub record NameLaw (Says : Option PlainTree → UnitState → List Use → Type 0) : Type 0 where
    pub defined : (globals : ℕ) (unit : UnitState) → HasNames unit.scope → (storage : Storage) (ty : PlainType) (name : PlainToken) (value : Option PlainTree) → Initialised value
        → Part by (Says value) (defined_object globals unit storage ty name value) (names_if value)
    pub alone : (unit : UnitState) → HasNames unit.scope → Says None unit []

  pub initially_used : NameLaw IsName
  initially_used = record { defined = defined_part; alone = λ unit names. (names, λ keeps known is. refl) }

  module _ (Says : Option PlainTree → UnitState → List Use → Type 0) (law : NameLaw Says) where
    object_part : (globals : ℕ) (unit : UnitState) → HasNames unit.scope → (storage : Storage) (ty : PlainType) (kind : Kind) (parts : PlainTrees) (o : ObjectForm by kept typed sizes kind parts) → AllHold parts
        → (value : Option PlainTree) → Initialised value → (behind : PlainTrees)
        → Part by (Says value) (declared_object globals unit storage ty kind parts o.form.name value behind) (o.form.name ∷ (names_among o.form.rest ++ names_if value))
    object_part globals unit names storage ty kind parts o holds value initialised behind =
        let name : PlainToken = o.form.name in
        let last : PlainType → Scope → Checked UnitState = λ whole scope. defined_object globals (with_scope unit scope) storage whole name value in
        let global : PlainType → Scope → Checked UnitState = λ whole scope. judged_global storage (is_some value) scope whole name behind >>= (λ judged. last whole scope) in
        none_then by (Says value) (name ∷ []) (names_among o.form.rest ++ names_if value) (declares (file_entity name.text))
        (λ declared_. object_type unit.scope ty kind parts name value >>= (λ whole. with_name unit.scope name (variable whole) storage >>= (λ scope. global whole scope))) (tt, refl)
        (λ declared_. none_then by (Says value) (names_among o.form.rest) (names_if value) (object_type unit.scope ty kind parts name value) (λ whole. with_name unit.scope name (variable whole) storage >>= (λ scope. global whole scope))
        (o.typed_so unit.scope names ty name value (o.form.holds holds))
        (λ whole. quietly_then by HasNames (Says value) (names_if value) (with_name unit.scope name (variable whole) storage) (global whole) (name_declared unit.scope names name (o.form.spelt holds) (variable whole) storage)
        (λ scope named e. quiet_then by (Says value) (names_if value) (judged_global storage (is_some value) scope whole name behind) (λ judged. last whole scope) (global_quiet storage (is_some value) scope whole name behind)
        (λ judged. law.defined globals (with_scope unit scope) named storage whole name value initialised))))

    -- ---- functions that are declared

    no_first_value : (unit : UnitState) → HasNames unit.scope → (value : Option PlainTree) → Initialised value → (name : PlainToken) → Part by (Says value) (refused_initialiser value name >>= (λ none_given. give unit)) (names_if value)
    no_first_value unit names _ no_value name = (tt, law.alone unit names)
    no_first_value unit names _ (a_value d holds) name = tt

    function_part : (unit : UnitState) → HasNames unit.scope → (storage : Storage) (ty : PlainType) (parts : PlainTrees) (f : NameForm parenthesized parts) → AllHold parts → (value : Option PlainTree) → Initialised value
        → Part by (Says value) (declared_function unit storage ty parts f.name value) (f.name ∷ (names_among f.rest ++ names_if value))
    function_part unit names storage ty parts f holds value initialised =
        let name : PlainToken = f.name in
        let result : PlainType = starred parts ty in
        let last : Scope → Checked UnitState = λ scope. refused_initialiser value name >>= (λ none_given. give (with_scope unit scope)) in
        none_then by (Says value) (name ∷ []) (names_among f.rest ++ names_if value) (declares (file_entity name.text))
        (λ declared_. new_function false unit.scope storage result parts name >>= (λ ps. with_name unit.scope name (function (signature_of result ps)) storage >>= last)) (tt, refl)
        (λ declared_. none_then by (Says value) (names_among f.rest) (names_if value) (new_function false unit.scope storage result parts name) (λ ps. with_name unit.scope name (function (signature_of result ps)) storage >>= last)
        (function_unused by kept typed sizes parts f (f.holds holds) false unit.scope names storage result name)
        (λ ps. quietly_then by HasNames (Says value) (names_if value) (with_name unit.scope name (function (signature_of result ps)) storage) last
        (name_declared unit.scope names name (f.spelt holds) (function (signature_of result ps)) storage)
        (λ scope named e. no_first_value (with_scope unit scope) named value initialised name)))

    -- ---- declarators at file scope

    -- where the name is what it is
    by_name : (value : Option PlainTree) (kind : Kind) (parts : PlainTrees) (name : PlainToken) (rest : PlainTrees) → name_in parts ≡ Some name → names_among parts ≡ name ∷ names_among rest → (next : PlainToken → Checked UnitState)
        → Part by (Says value) (next name) (name ∷ (names_among rest ++ names_if value)) → Part by (Says value) (or_broken (name_in parts) >>= next) (names_in (node kind parts) ++ names_if value)
    by_name value kind parts name rest is names next h =
        subst (λ o. Part by (Says value) (or_broken o >>= next) (names_in (node kind parts) ++ names_if value)) (sym is)
        (subst (Part by (Says value) (give name >>= next)) (sym (ap (λ l. l ++ names_if value) (names_of_node kind parts ∙ names)))
        (alone by (Says value) (name ∷ (names_among rest ++ names_if value)) (next name) h))

    pub next_part : {role : Role} (globals : ℕ) (storage : Storage) (ty : PlainType) (behind : PlainTrees) (tree : PlainTree) (value : Option PlainTree) → Derivation (declarator role) tree → Holds tree → Initialised value
        → (unit : UnitState) → HasNames unit.scope → Part by (Says value) (next_name globals storage ty behind unit (declared tree value)) (names_in_declared (declared tree value))
    next_part globals storage ty behind _ value (single is) holds initialised unit names = absurd cc
    next_part globals storage ty behind _ value (made_of k.Declarator {parts = parts} b a (a_row row)) holds initialised unit names =
        let o : ObjectForm by kept typed sizes k.Declarator parts = declarator_form by kept typed sizes row in
        by_name value k.Declarator parts o.form.name o.form.rest o.form.name_is o.form.names (λ name. declared_object globals unit storage ty k.Declarator parts name value behind)
        (object_part globals unit names storage ty k.Declarator parts o holds value initialised behind)
    next_part globals storage ty behind _ value (made_of k.ArrayDeclarator {parts = parts} b a (a_row row)) holds initialised unit names =
        let o : ObjectForm by kept typed sizes k.ArrayDeclarator parts = array_form by kept typed sizes row in
        by_name value k.ArrayDeclarator parts o.form.name o.form.rest o.form.name_is o.form.names (λ name. declared_object globals unit storage ty k.ArrayDeclarator parts name value behind)
        (object_part globals unit names storage ty k.ArrayDeclarator parts o holds value initialised behind)
    next_part globals storage ty behind _ value (made_of k.FunctionDeclarator {parts = parts} b a (a_row row)) holds initialised unit names =
        let f : NameForm parenthesized parts = name_form row in
        by_name value k.FunctionDeclarator parts f.name f.rest f.name_is f.names (λ name. declared_function unit storage ty parts name value) (function_part unit names storage ty parts f holds value initialised)
    next_part globals storage ty behind _ value (made_of _ b a s) holds initialised unit names = absurd cc

  pub all_part : {role : Role} (globals : ℕ) (storage : Storage) (ty : PlainType) (behind : PlainTrees) {parts : PlainTrees} → Rattle.tree_derivations.specs.Derivations.Declared role parts → AllHold parts → (g : Going UnitState) → HasNames g.state.scope
      → Part by (λ next u. HasNames next.scope × (u ≡ uses_in_turn by (next_name globals storage ty behind) g (declared_in (trees_of parts)))) (declared_from globals g.state storage ty parts behind) (names_among parts)
  all_part {role = role} globals storage ty behind d holds g names =
      used_in_turn (next_name globals storage ty behind) (λ unit parts. declared_from globals unit storage ty parts behind) role by (λ next. HasNames next.scope) (names_in_turn globals storage ty behind role)
      (λ tree value e h v unit n. part_as by (IsName value) (λ next u. HasNames next.scope) (names_in_declared (declared tree value)) (next_name globals storage ty behind unit (declared tree value))
      (next_part IsName initially_used globals storage ty behind tree value e h v unit n) (λ next u q. q.0)) d holds g names
