-- The first values of objects of file scope use no members, and so declarations there use none.
use Rattle.std.proofs.Common.{◌≡◌, ℕ, List, [], ◌∷◌, ◌++◌, refl, ap, subst, ◌∙◌}
use Rattle.std.specs.Prelude.{Bool, true, false, Option, Some, None, if◌then◌else◌}
use Rattle.std.specs.List.{AllByRecursion}
use Rattle.c_text.specs.Token.{PlainToken}
use Rattle.c_types.specs.Types.{PlainType}
use Rattle.c_tree.specs.declared.kinds.Kind.TheVariants as k
use Rattle.c_tree.specs.Trees.{PlainTree, PlainTrees, leaf, node, written, all_written, spelled}
use Rattle.c_tree.specs.Grammar.{Role, file_first, file_item, declarators}
use Rattle.tree_derivations.specs.Derivations.{Derivation, made_of, a_row, a_part, a_word, at_end}
use Rattle.core_meaning.specs.Checking.{Entity, local_entity, local_of_function, file_entity, struct_entity, member_entity, own_entity, Binding, Checked, fine, refused, broken, ◌>>=◌, give, or_broken}
use Rattle.core_meaning.specs.Program.{PlainConstantPart}
use Rattle.core_meaning.specs.Constancy.{initial}
use Rattle.core_meaning.specs.Declarations.{Based, based}
use Rattle.core_meaning.specs.UnitNames.{UnitState, Storage, by_static, by_extern, by_none, storage_of, constant_parts, object_body, with_defined, with_scope, defined_object, declared_from}
use Rattle.core_meaning.proofs.Outlines.{bound}
use Rattle.declarator_lists.specs.Lists.{Declared, declared_in, trees_of}
use Rattle.declaration_readings.specs.Readings.{Going, after, next_name}
use Rattle.bindings.specs.Laws.{ArePieces}
use Rattle.bindings.proofs.Pieces.{holds_of}
use Rattle.operand_types.specs.Laws.{TypesAreKept}
use Rattle.expression_types.specs.Laws.{ExpressionsHaveTypes}
use Rattle.selections.specs.Laws.{structure_of_entity, HasNames}
use Rattle.cond_sizes.specs.Laws.{CountsNeedNoNames}
use Rattle.first_values.specs.Laws.{IsNoMember, NameNoMembers, FirstValuesNameNoMembers}
use Rattle.member_uses.specs.Uses.{Use, names_in, using, structure_used, structures_used, structures_in}
use Rattle.member_uses.specs.Declarations.{declaration, names_if, names_in_declared, IsDeclarator, uses_in_declared, uses_in_turn}
use Rattle.member_uses.specs.Laws.{DeclaratorsAreDerived}
use Rattle.member_uses.proofs.Parts.{spelled_first, Part, Quietly, then_quietly}
use Rattle.member_uses.proofs.Judged.{IsInitially, initial_part}
use Rattle.member_uses.proofs.Turns.{Initialised, no_value, a_value, initialised}
use Rattle.unit_member_uses.specs.Laws.{DeclarationsAreUsed, DeclarationsUseNothing, ScopesKeepNames}
use Rattle.unit_member_uses.proofs.FileNames.{NameLaw, next_part}

-- ---- what names no members uses none

none_of : (by : ℕ → ℕ) (e : Entity) → IsNoMember e → structure_of_entity by e ≡ None
none_of by (member_entity struct number) h = absurd h
none_of by (local_entity slot) h = refl
none_of by (local_of_function f slot) h = refl
none_of by (file_entity name) h = refl
none_of by (struct_entity number) h = refl
none_of by own_entity h = refl

none_used : (by : ℕ → ℕ) (b : Binding) → IsNoMember b.entity → structure_used by b ≡ None
none_used by b h = by_use b.in_expression
  where
    by_use : (u : Bool) → (if u then structure_of_entity by b.entity else None) ≡ None
    by_use true = none_of by b.entity h
    by_use false = refl

using_none : (by : ℕ → ℕ) (names : List PlainToken) (js : List Binding) → NameNoMembers js → using names (structures_used by js) ≡ []
using_none by [] js h = refl
using_none by (token ∷ names) [] h = refl
using_none by (token ∷ names) (j ∷ js) h =
    ap (λ o. using (token ∷ names) (o ∷ structures_used by js)) (none_used by j h.0) ∙ using_none by names js h.1

using_nothing : (names : List PlainToken) → using names [] ≡ []
using_nothing [] = refl
using_nothing (token ∷ names) = refl

part_none : {A : Type 0} (by : ℕ → ℕ) (T : A → List Use → Type 0) (m : Checked A) (names : List PlainToken) → ((x : A) (js : List Binding) → m ≡ fine x js → NameNoMembers js) → Part by T m names → Part by (λ x u. u ≡ []) m names
part_none by T (fine x js) names none_ h = (h.0, using_none by names js (none_ x js refl))
part_none by T (refused kind token) names none_ h = tt
part_none by T broken names none_ h = tt

-- ---- declarators

abbrev UsesNone : Option PlainTree → UnitState → List Use → Type 0
UsesNone value unit u = u ≡ []

module _ (by : ℕ → ℕ) (kept : TypesAreKept) (typed : ExpressionsHaveTypes) (sizes : CountsNeedNoNames) (first : FirstValuesNameNoMembers) where
  still_none : (unit : UnitState) (name : PlainToken) (o : Option (List PlainConstantPart)) (u : List Use) → u ≡ [] → Quietly (λ y. u ≡ []) (or_broken o >>= (λ values. give (with_defined unit name.text (object_body values))))
  still_none unit name (Some values) u e = e
  still_none unit name None u e = tt

  defined_none : (globals : ℕ) (unit : UnitState) → HasNames unit.scope → (storage : Storage) (ty : PlainType) (name : PlainToken) (value : Option PlainTree) → Initialised value
      → Part by (UsesNone value) (defined_object globals unit storage ty name value) (names_if value)
  defined_none globals unit names by_extern ty name _ no_value = (tt, refl)
  defined_none globals unit names by_static ty name _ no_value = (tt, refl)
  defined_none globals unit names by_none ty name _ no_value = (tt, refl)
  defined_none globals unit names storage ty name _ (a_value {tree = tree} d holds) =
      then_quietly by (λ x u. u ≡ []) (UsesNone (Some tree)) (names_in tree) (initial unit.scope (Some globals) ty [] tree name)
      (λ parts. or_broken (constant_parts globals parts) >>= (λ values. give (with_defined unit name.text (object_body values))))
      (part_none by (λ x u. IsInitially by unit.scope tree u) (initial unit.scope (Some globals) ty [] tree name) (names_in tree) (λ x js e. first unit.scope globals ty [] tree name x js e)
      (initial_part by kept typed unit.scope names d holds (Some globals) ty [] name)) (λ parts u e. still_none unit name (constant_parts globals parts) u e)

  uses_none : NameLaw by kept typed sizes UsesNone
  uses_none = record { defined = defined_none; alone = λ unit names. refl }

  module _ (globals : ℕ) (storage : Storage) (ty : PlainType) (behind : PlainTrees) (role : Role) where
    abbrev one : UnitState → Declared → Checked UnitState
    one = next_name globals storage ty behind

    declared_none : (d : Declared) → IsDeclarator role d → (unit : UnitState) → HasNames unit.scope → uses_in_declared by one unit d ≡ []
    declared_none d is unit names = by_judged (one unit d) (next_part by kept typed sizes UsesNone uses_none globals storage ty behind d.declarator d.initialiser is.declarator (holds_of d.declarator [] is.declarator_pieces).0 (initialised d is) unit names)
      where
        by_judged : (m : Checked UnitState) → Part by (UsesNone d.initialiser) m (names_in_declared d) → using (names_in_declared d) (structures_in by m) ≡ []
        by_judged (fine next js) h = h.1
        by_judged (refused kind token) h = using_nothing (names_in_declared d)
        by_judged broken h = using_nothing (names_in_declared d)

    names_after : ScopesKeepNames → (d : Declared) → IsDeclarator role d → (g : Going UnitState) → HasNames g.state.scope → (m : Checked UnitState) → one g.state d ≡ m → HasNames (after g m).state.scope
    names_after keep d is g names (fine next js) e = keep.declarators globals storage ty behind role d is g.state names next js e
    names_after keep d is g names (refused kind token) e = names
    names_after keep d is g names broken e = names

    pub turn_none : ScopesKeepNames → (ds : List Declared) → AllByRecursion (IsDeclarator role) ds → (g : Going UnitState) → HasNames g.state.scope → uses_in_turn by one g ds ≡ []
    turn_none keep [] are g names = refl
    turn_none keep (d ∷ ds) are g names =
        ap (λ l. l ++ uses_in_turn by one (after g (one g.state d)) ds) (declared_none d are.0 g.state names)
        ∙ turn_none keep ds are.1 (after g (one g.state d)) (names_after keep d are.0 g names (one g.state d) refl)

-- ---- declarations

front_pieces : (first second : List PlainToken) → ArePieces (first ++ second) → ArePieces first
front_pieces [] second h = tt
front_pieces (token ∷ first) second h = (h.0, front_pieces first second h.1)

list_pieces : (words list : PlainTrees) (last : PlainToken) → ArePieces (spelled (node k.Declaration (declaration words list last))) → ArePieces (all_written list [])
list_pieces words list last h =
    front_pieces (spelled (node k.Declarators list)) (written (leaf last) [])
    (subst ArePieces (spelled_first (node k.Declarators list) (written (leaf last) [])) (holds_of (node k.Specifiers words) (written (node k.Declarators list) (written (leaf last) [])) h).1)

list_derived : {words list : PlainTrees} {last : PlainToken} → Derivation file_item (node k.Declaration (declaration words list last)) → Derivation (declarators file_first) (node k.Declarators list)
list_derived (made_of _ b a (a_row (a_part w (a_part d (a_word y at_end))))) = d

pub declarations_use_nothing :
    TypesAreKept → ExpressionsHaveTypes → CountsNeedNoNames → FirstValuesNameNoMembers → DeclaratorsAreDerived → DeclarationsAreUsed → ScopesKeepNames → DeclarationsUseNothing
declarations_use_nothing kept typed sizes first derived used keep by globals unit names words list last d pieces behind next js judged =
    let based_first = bound (based true unit.scope words) (λ base. declared_from globals (with_scope unit base.scope) (storage_of words) base.ty list behind) next js judged in
    let base : Based = based_first.value in
    let g : Going UnitState = record { state = with_scope unit base.scope; refused = false } in
    used by globals unit names words list last d pieces behind base based_first.before based_first.first g refl next js judged
    ∙ turn_none by kept typed sizes first globals (storage_of words) base.ty behind file_first keep (declared_in (trees_of list)) (derived file_first list (list_derived d) (list_pieces words list last pieces)) g
    (keep.words true unit.scope names words base based_first.before based_first.first)
