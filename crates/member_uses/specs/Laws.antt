-- That members are used so; each law is the contract of a function of this crate.
use Rattle.std.specs.Prelude.{◌≡◌, ℕ, false, List, [], ◌∷◌, Option}
use Rattle.std.specs.List.{AllByRecursion}
use Rattle.c_text.specs.Token.{PlainToken}
use Rattle.c_types.specs.Types.{PlainType}
use Rattle.c_tree.specs.declared.kinds.Kind.TheVariants as k
use Rattle.c_tree.specs.declared.terminals.Terminal.TheVariants as t
use Rattle.c_tree.specs.Trees.{PlainTree, PlainTrees, node, spelled, all_written}
use Rattle.c_tree.specs.Grammar.{Role, expression, initialiser, block, specifiers, declarators, local}
use Rattle.tree_derivations.specs.Derivations.{Derivation, IsWord}
use Rattle.core_meaning.specs.Checking.{Binding, fine}
use Rattle.core_meaning.specs.Entities.{Scope}
use Rattle.core_meaning.specs.Typing.{Operand}
use Rattle.core_meaning.specs.Expressions.{judged}
use Rattle.core_meaning.specs.Constancy.{Initial, initial}
use Rattle.core_meaning.specs.Values.{Path}
use Rattle.core_meaning.specs.Declarations.{Based, based, Locals, judged_locals}
use Rattle.core_meaning.specs.Statements.{JudgedItems}
use Rattle.core_meaning.specs.UnitNames.{judged_body}
use Rattle.declarator_lists.specs.Lists.{Declared, declared_in, trees_of}
use Rattle.declaration_readings.specs.Readings.{Going, Slots, next_local}
use Rattle.bindings.specs.Laws.{ArePieces}
use Rattle.operand_types.specs.Laws.{KeepsApart}
use Rattle.expression_types.specs.Known.{Known, IsKnown}
use Rattle.selections.specs.Selections.{structures_selected}
use Rattle.selections.specs.Laws.{HasNames}
use Rattle.statement_readings.specs.Laws.{starting}
use Rattle.member_uses.specs.Uses.{names_in, using, uses_in, uses_among}
use Rattle.member_uses.specs.Walks.{uses_in_body}
use Rattle.member_uses.specs.Declarations.{declaration, IsDeclarator, uses_in_declared, uses_in_turn, uses_initially}

-- Where an expression is judged well, its uses of members are its selections.
abbrev pub ExpressionsUseSelections : Type 0
ExpressionsUseSelections =
    (by : ℕ → ℕ) → KeepsApart by → (scope : Scope) → HasNames scope → (known : Known) → IsKnown by scope known
    → (level : ℕ) (tree : PlainTree) → Derivation (expression level) tree → ArePieces (spelled tree) → (operand : Operand) (bindings : List Binding)
    → judged scope tree ≡ fine operand bindings → uses_in by tree (judged scope tree) ≡ using (names_in tree) (structures_selected known tree)

-- So are those of an initialiser, whatever it initialises.
abbrev pub InitialisersUseSelections : Type 0
InitialisersUseSelections =
    (by : ℕ → ℕ) → KeepsApart by → (scope : Scope) → HasNames scope → (known : Known) → IsKnown by scope known
    → (tree : PlainTree) → Derivation initialiser tree → ArePieces (spelled tree) → (globals : Option ℕ) (ty : PlainType) (path : Path) (behind : PlainToken)
    → (parts : List Initial) (bindings : List Binding) → initial scope globals ty path tree behind ≡ fine parts bindings
    → uses_in by tree (initial scope globals ty path tree behind) ≡ using (names_in tree) (structures_selected known tree)

-- Where a function's block is judged well, the uses of members in its parts, one part after the other, are those of the block.
abbrev pub BodiesAreUsed : Type 0
BodiesAreUsed =
    (by : ℕ → ℕ) (result : PlainType) (scope : Scope) → HasNames scope → (slots : List PlainType) (tree : PlainTree) → Derivation block tree → ArePieces (spelled tree)
    → (items : JudgedItems) (js : List Binding) → judged_body scope result slots tree ≡ fine items js
    → uses_in_body by result tree (starting scope slots) ≡ uses_in by tree (judged_body scope result slots tree)

-- Where a declaration in a block is judged well, its uses of members are those of its declarators, each judged behind those before it.
abbrev pub LocalsAreUsed : Type 0
LocalsAreUsed =
    (by : ℕ → ℕ) (words list : PlainTrees) (last : PlainToken) → Derivation specifiers (node k.Specifiers words) → Derivation (declarators local) (node k.Declarators list)
    → IsWord (t.Semicolon ∷ []) last → ArePieces (all_written (declaration words list last) []) → (g : Going Slots) → HasNames g.state.scope
    → (base : Based) (bs : List Binding) → based false g.state.scope words ≡ fine base bs
    → (locals : Locals) (js : List Binding) → judged_locals g.state.scope g.state.slots (declaration words list last) ≡ fine locals js
    → uses_among by (declaration words list last) (judged_locals g.state.scope g.state.slots (declaration words list last))
    ≡ uses_in_turn by (next_local base.ty) g (declared_in (trees_of list))

-- A declarator that is judged well uses what its initialiser selects where the local is visible.
abbrev pub LocalsUseInitialisers : Type 0
LocalsUseInitialisers =
    (by : ℕ → ℕ) → KeepsApart by → (ty : PlainType) (d : Declared) → IsDeclarator local d → (s : Slots) → HasNames s.scope
    → (now : Slots) (js : List Binding) → next_local ty s d ≡ fine now js → (known : Known) → IsKnown by now.scope known
    → uses_in_declared by (next_local ty) s d ≡ uses_initially known d.initialiser

-- Behind a local names of file scope are spelt as names still.
abbrev pub LocalsKeepNames : Type 0
LocalsKeepNames =
    (ty : PlainType) (d : Declared) → IsDeclarator local d → (s : Slots) → HasNames s.scope
    → (now : Slots) (js : List Binding) → next_local ty s d ≡ fine now js → HasNames now.scope

-- The declarators of a list of the grammar are of the grammar, and so are their initialisers.
abbrev pub DeclaratorsAreDerived : Type 0
DeclaratorsAreDerived =
    (role : Role) (list : PlainTrees) → Derivation (declarators role) (node k.Declarators list) → ArePieces (all_written list [])
    → AllByRecursion (IsDeclarator role) (declared_in (trees_of list))
