-- What an item uses is noted in what is visible behind it.
use Rattle.std.proofs.Common.{◌≡◌, ℕ, true, false, List, [], ◌++◌, refl, sym, ap, ◌∙◌, subst, append-nil}
use Rattle.std.specs.Prelude.{Option, Some, None}
use Rattle.std.proofs.lemmas.Bool.{false≢true}
use Rattle.c_names.specs.Names.{is_identifier}
use Rattle.c_text.specs.Token.{PlainToken}
use Rattle.c_types.specs.Types.{PlainType}
use Rattle.c_tree.specs.declared.kinds.Kind.TheVariants as k
use Rattle.c_tree.specs.declared.terminals.Terminal.TheVariants as t
use Rattle.c_tree.specs.Trees.{PlainTree, PlainTrees, leaf, node, none, more, spelled}
use Rattle.c_tree.specs.Grammar.{block, declarators, file_item, file_first, file_specifiers}
use Rattle.tree_derivations.specs.Derivations.{Derivation, single, made_of, a_row, a_part, a_word, at_end}
use Rattle.bindings.specs.Laws.{ArePieces}
use Rattle.conditional.specs.Judgements as judgements
use Rattle.core_meaning.specs.Checking.{Binding, fine}
use Rattle.core_meaning.specs.Entities.{Scope}
use Rattle.core_meaning.specs.Entities as scopes
use Rattle.core_meaning.specs.Declarations.{behind_word, starred, Parameter, parameters_of}
use Rattle.core_meaning.specs.UnitNames.{UnitState, storage_of, parameter_types, judged_item}
use Rattle.operand_types.specs.OperandTypes.{outcome_as}
use Rattle.selections.specs.Laws as selections
use Rattle.member_uses.specs.Uses.{uses_in}
use Rattle.member_uses.specs.Laws.{BodiesAreUsed}
use Rattle.unit_member_uses.specs.Items.{definition}
use Rattle.unit_member_uses.specs.Laws.{DeclarationsUseNothing, FunctionsAreUsed, ScopesKeepNames, StructsUseNothing}
use Rattle.type_tables.specs.Tables.{Tables, FileName}
use Rattle.type_tables.specs.Follows.{NameFollows, Follows}
use Rattle.type_tables.specs.Numbers.{FollowsBy}
use Rattle.cond_sizes.specs.Laws.{CountsNeedNoNames}
use Rattle.cond_member_uses.specs.Noted.{Noted, HasNames}
use Rattle.cond_member_uses.proofs.Pieces.{rest_pieces}
use Rattle.cond_units.specs.Functions.{HasList}
use Rattle.cond_types.specs.Definitions.{inside}
use Rattle.cond_unit_uses.specs.Functions.{NotesDefined, NotesNode, NotesBehind, is_definition}
use Rattle.cond_unit_uses.proofs.Parameters.{parameters_same}
use Rattle.cond_unit_uses.proofs.Shapes.{IsFunction, function_parts}
use Rattle.cond_unit_uses.proofs.Judged.{OnlyNames, only_names, is_defined}

-- names of file scope are spelt as names in the tables too
names_spelt : (t : Tables) (scope : Scope) → Follows t scope → selections.HasNames scope → HasNames t
names_spelt t scope f names = λ name n is. at name n (scope.file_names name) refl (subst (NameFollows f.by t.signatures (scope.file_names name)) is (f.names name))
  where
    at : (name : List ℕ) (n : FileName) (o : Option scopes.FileName) → scope.file_names name ≡ o → NameFollows f.by t.signatures (scope.file_names name) (Some n) → is_identifier name ≡ true
    at name n (Some m) e follows = names name m e
    at name n None e follows = absurd (subst (λ (o : Option scopes.FileName). NameFollows f.by t.signatures o (Some n)) e follows)

-- the parts of a definition are spelt as their kinds say
body_pieces : (words parts : PlainTrees) (body : PlainTree) → ArePieces (spelled (definition words parts body)) → ArePieces (spelled body)
body_pieces words parts body h =
    let list : PlainTree = node k.Declarators (more (node k.FunctionDeclarator parts) none) in
    rest_pieces list (more body none) (rest_pieces (node k.Specifiers words) (more list (more body none)) h)

module _ (nameless : CountsNeedNoNames) (used : BodiesAreUsed) (functions : FunctionsAreUsed) (scopes : ScopesKeepNames) where
  -- the parameters are the same where the function's name is visible
  list_same : (scope after : Scope) (only : OnlyNames scope after) (o : Option PlainTree) (list : PlainTree) (name : PlainToken) (parameters : List Parameter) (bindings : List Binding) → o ≡ Some list
      → parameters_of true scope o name ≡ fine parameters bindings → outcome_as (λ ps. ps) (parameters_of true after (Some list) name) ≡ judgements.fine parameters
  list_same scope after only o list name parameters bindings is e =
      ap (λ s. outcome_as (λ ps. ps) (parameters_of true s (Some list) name)) only.is
      ∙ (sym (parameters_same nameless only.names only.order true scope list name)
      ∙ (ap (λ x. outcome_as (λ ps. ps) (parameters_of true scope x name)) (sym is) ∙ ap (outcome_as (λ ps. ps)) e))

  module _ (by : ℕ → ℕ) (globals : ℕ) (unit next : UnitState) (rest : PlainTrees) (bindings : List Binding) (names : selections.HasNames unit.scope) (a b : Noted) (follows : FollowsBy by a.tables next.scope) where
    -- an item is noted, where this is done
    abbrev IsNoted : (PlainTree → Type 0) → PlainTree → Type 0
    IsNoted Done tree = Derivation file_item tree → ArePieces (spelled tree) → Done tree → judged_item globals unit tree rest ≡ fine next bindings → b.uses ≡ a.uses ++ uses_in by tree (judged_item globals unit tree rest)

    abbrev Defined : PlainTree → Type 0
    Defined tree = NotesNode NotesDefined tree a b

    by_parts : (words parts : PlainTrees) (body : PlainTree) → HasList parts → Derivation block body → IsNoted Defined (definition words parts body)
    by_parts words parts body l has_block d pieces done judged =
        let is = is_defined unit words parts body next globals rest bindings judged in
        let result : PlainType = starred parts is.base.ty in
        let inner : Scope = inside is.scope is.parameters in
        let types : List PlainType = parameter_types is.parameters in
        let of_body : ArePieces (spelled body) = body_pieces words parts body pieces in
        let spelt = scopes.bodies unit.scope names words parts body d pieces is.name is.name_is in
        let named = spelt _ (storage_of words) is.scope is.ss is.named in
        let at = subst (FollowsBy by a.tables) is.next_is follows in
        let whole = functions by globals unit names words parts body d pieces rest is.base is.bs is.base_is is.name is.name_is is.parameters is.ps is.given is.scope is.ss is.named next bindings judged in
        let inner_used = used by result inner (named is.parameters) types body has_block of_body is.items is.js is.judged in
        let noted =
        (done k.Function _ refl (node k.Specifiers words) body (more (node k.FunctionDeclarator parts) none) has_block refl parts refl l.list l.behind).notes by is.scope is.name is.parameters result is.items is.js
        (names_spelt a.tables is.scope at.follows (named [])) at l.is_list
        (list_same unit.scope is.scope (only_names unit.scope is.name _ (storage_of words) is.scope is.ss is.named) (behind_word t.OpenParenthesis parts) l.list is.name is.parameters is.qs l.behind is.listed) has_block of_body is.judged in
        noted ∙ ap (λ l. a.uses ++ l) (sym inner_used ∙ sym whole)

    by_shape : (parts : PlainTrees) → IsFunction parts → IsNoted Defined (node k.Function parts)
    by_shape parts s = subst (λ (ps : PlainTrees). IsNoted Defined (node k.Function ps)) (sym s.parts_are) (by_parts s.words s.inner s.body s.has_list s.has_block)

    defined_noted : (tree : PlainTree) → is_definition tree ≡ true → IsNoted Defined tree
    defined_noted (leaf token) is = absurd (false≢true is)
    defined_noted (node k.Function parts) is = λ d. by_shape parts (function_parts d) d
    defined_noted (node _ parts) is = absurd (false≢true is)

  pub definition_noted : (tree : PlainTree) (a b : Noted) → is_definition tree ≡ true → NotesNode NotesDefined tree a b → NotesBehind tree a b
  definition_noted tree a b is done = record {
    notes = λ by globals unit next rest bindings names follows d pieces judged. defined_noted by globals unit next rest bindings names a b follows tree is d pieces done judged;
  }

-- ---- other items

module _ (declared : DeclarationsUseNothing) (structs : StructsUseNothing) (by : ℕ → ℕ) (globals : ℕ) (unit : UnitState) (names : selections.HasNames unit.scope) (rest : PlainTrees) (next : UnitState) (bindings : List Binding) where
  abbrev UsesNothing : PlainTree → Type 0
  UsesNothing tree = ArePieces (spelled tree) → judged_item globals unit tree rest ≡ fine next bindings → uses_in by tree (judged_item globals unit tree rest) ≡ []

  by_list : {words list : PlainTree} (last : PlainToken) → Derivation file_item (node k.Declaration (more words (more list (more (leaf last) none)))) → Derivation file_specifiers words → Derivation (declarators file_first) list
      → UsesNothing (node k.Declaration (more words (more list (more (leaf last) none))))
  by_list last d (single is) e = absurd cc
  by_list last d (made_of k.Specifiers x y z) (single is) = absurd cc
  by_list last d (made_of k.Specifiers {parts = words} x y z) (made_of k.Declarators {parts = list} u v w) = λ pieces judged. declared by globals unit names words list last d pieces rest next bindings judged
  by_list last d (made_of k.Specifiers x y z) (made_of _ u v w) = absurd cc
  by_list last d (made_of _ x y z) e = absurd cc

  nothing_used : (tree : PlainTree) → Derivation file_item tree → is_definition tree ≡ false → UsesNothing tree
  nothing_used tree (single is) other = absurd cc
  nothing_used tree (made_of k.Declaration b a (a_row (a_part w (a_part e (a_word {token = last} y at_end))))) other = by_list last (made_of k.Declaration b a (a_row (a_part w (a_part e (a_word {token = last} y at_end))))) w e
  nothing_used tree (made_of k.StructDefinition {parts = parts} b a s) other = λ pieces judged. structs by globals unit names (node k.StructDefinition parts) (made_of k.StructDefinition b a s) refl pieces rest next bindings judged
  nothing_used tree (made_of k.StructDeclaration {parts = parts} b a s) other = λ pieces judged. structs by globals unit names (node k.StructDeclaration parts) (made_of k.StructDeclaration b a s) refl pieces rest next bindings judged
  nothing_used tree (made_of k.Function b a s) other = absurd (false≢true (sym other))
  nothing_used tree (made_of _ b a s) other = absurd cc

pub other_noted : DeclarationsUseNothing → StructsUseNothing → (tree : PlainTree) (a : Noted) → is_definition tree ≡ false → NotesBehind tree a a
other_noted declared structs tree a other = record {
  notes = λ by globals unit next rest bindings names follows d pieces judged.
      sym (ap (λ l. a.uses ++ l) (nothing_used declared structs by globals unit names rest next bindings tree d other pieces judged) ∙ append-nil a.uses);
}
