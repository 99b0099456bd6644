-- Expressions, sizes and initialisers as parts of what is judged.
use Rattle.std.proofs.Common.{◌≡◌, ℕ, List, [], ◌∷◌, refl, sym, ap, ◌∙◌, IsTrue, append-nil}
use Rattle.std.specs.Prelude.{map, ℤ, Option, Some, None, if◌then◌else◌}
use Rattle.std.proofs.lemmas.Option.{none-some}
use Rattle.c_text.specs.Token.{PlainToken}
use Rattle.c_text.specs.Constants.{quoted_values}
use Rattle.c_types.specs.Types.{PlainType, int}
use Rattle.c_types.specs.Integers.{is_integer}
use Rattle.c_tree.specs.declared.terminals.Terminal.TheVariants as t
use Rattle.c_tree.specs.Terminals.{terminal, same, is_one_of}
use Rattle.c_tree.specs.Trees.{PlainTree, leaf, node}
use Rattle.c_tree.specs.Grammar.{expression, initialiser}
use Rattle.c_tree.proofs.TerminalCases.{one_of}
use Rattle.tree_derivations.specs.Derivations.{Derivation, single, made_of}
use Rattle.core_meaning.specs.declared.refusals.TypeKind.TheVariants.{BadConstant}
use Rattle.core_meaning.specs.Program.{constant}
use Rattle.core_meaning.specs.Values.{Path}
use Rattle.core_meaning.specs.Checking.{Checked, fine, refused, broken, ◌>>=◌, give, found_or, or_broken}
use Rattle.core_meaning.specs.Entities.{no_entry, Local, Sort, variable, function, FileName, Scope, local_in}
use Rattle.core_meaning.specs.Typing.{of_value, loaded}
use Rattle.core_meaning.specs.Expressions as spec
use Rattle.core_meaning.specs.Expressions.{judged, valued, first_token}
use Rattle.core_meaning.specs.Constancy.{initial, judged_count, count_of_value, value_if_constant}
use Rattle.conditional.specs.Judgements as seen
use Rattle.bindings.proofs.Spellings.{Holds}
use Rattle.entity_numbers.proofs.Uses as bound
use Rattle.entity_numbers.proofs.Operators as operators
use Rattle.entity_numbers.proofs.Initialisers.{count_binds}
use Rattle.operand_types.specs.OperandTypes.{outcome_as}
use Rattle.operand_types.specs.Laws.{KeepsApart, TypesAreKept}
use Rattle.expression_types.specs.Known.{Known, IsKnown}
use Rattle.expression_types.specs.Laws.{ExpressionsHaveTypes}
use Rattle.selections.specs.Selections.{structures_selected}
use Rattle.selections.specs.Laws.{HasNames, structure_bound}
use Rattle.selections.proofs.Judgings.{Selects}
use Rattle.selections.proofs.Expressions.{Nothing, Those}
use Rattle.selections.proofs.Initialisers.{initial_selects}
use Rattle.cond_sizes.specs.Laws.{CountsNeedNoNames}
use Rattle.member_uses.specs.Uses.{Use, names_in, using, structures_used, structures_in, uses_in}
use Rattle.member_uses.proofs.Using.{IsUsing, initial_using}
use Rattle.member_uses.proofs.Parts.{Part, then_quiet}
use Rattle.member_uses.proofs.Counts.{IsCounted, expression_counted, initial_counted}

-- ---- nothing is visible

hidden : Scope → Scope
hidden scope = record { structs = []; tags = no_entry; file_names = no_entry; order = []; blocks = []; numbers = scope.numbers }

nothing_hidden : (scope : Scope) → HasNames (hidden scope)
unfolding hidden
nothing_hidden scope name n e = absurd (none-some n e)

nothing_allowed : (scope : Scope) → bound.Allows Nothing no_entry (hidden scope)
unfolding hidden
nothing_allowed scope = record {
  locals = λ name l e. absurd (none-some l e);
  files = λ name n e. absurd (none-some n e);
  members = λ number n found m tag e f. absurd (none-some found e);
}

module _ (by : ℕ → ℕ) where
  -- what the expression uses; a name alone uses nothing
  abbrev pub expression_uses : Scope → PlainTree → List Use
  expression_uses scope (leaf token) = []
  expression_uses scope (node kind parts) = uses_in by (node kind parts) (judged scope (node kind parts))

  -- the uses of an initialiser, whatever is known where this is visible
  abbrev pub IsInitially : Scope → PlainTree → List Use → Type 0
  IsInitially scope tree u = KeepsApart by → (known : Known) → IsKnown by scope known → u ≡ using (names_in tree) (structures_selected known tree)

  pub with_count : {A : Type 0} (names : List PlainToken) (m : Checked A) → IsCounted m names → Part by (λ x u. u ≡ using names (structures_in by m)) m names
  with_count names (fine x js) h = (h, refl)
  with_count names (refused kind token) h = tt
  with_count names broken h = tt

  -- ---- a name or a constant alone

  module _ (scope : Scope) (token : PlainToken) where
    file_alone : (n : Option FileName) → Part by (λ x u. u ≡ []) (spec.file_name_operand scope token n) (token ∷ [])
    file_alone None = tt
    file_alone (Some n) = of_sort n.sort
      where
        of_sort : (sort : Sort) → Part by (λ x u. u ≡ []) (spec.file_operand scope token sort) (token ∷ [])
        of_sort (variable ty) = (tt, refl)
        of_sort (function signature) = tt

    name_alone : (l : Option Local) → Part by (λ x u. u ≡ []) (spec.name_operand scope token l) (token ∷ [])
    name_alone (Some l) = (tt, refl)
    name_alone None = file_alone (scope.file_names token.text)

    character_alone : (z : Option ℤ) → Part by (λ x u. u ≡ []) (or_broken z >>= (λ z. give (of_value token int (constant z)))) []
    character_alone (Some z) = (tt, refl)
    character_alone None = tt

    token_alone : IsTrue (is_one_of (t.Name ∷ t.Number ∷ t.Character ∷ []) (terminal token)) → Part by (λ x u. u ≡ []) (judged scope (leaf token)) (names_in (leaf token))
    token_alone is =
        one_of (λ kind. Part by (λ x u. u ≡ []) (spec.single_operand scope token kind) (if same t.Name kind then token ∷ [] else [])) (t.Name ∷ t.Number ∷ t.Character ∷ []) (terminal token) is
        (name_alone (local_in scope.blocks token.text), ((tt, refl), (character_alone (spec.character_value (quoted_values token.text)), tt)))

  module _ (kept : TypesAreKept) (typed : ExpressionsHaveTypes) where
    module _ (scope : Scope) (names : HasNames scope) where
      pub expression_part : {n : ℕ} {tree : PlainTree} → Derivation (expression n) tree → Holds tree → Part by (λ x u. u ≡ expression_uses scope tree) (judged scope tree) (names_in tree)
      expression_part (single {token = token} is) holds = token_alone scope token is
      expression_part (made_of kind {parts = parts} b a s) holds =
          with_count (names_in (node kind parts)) (judged scope (node kind parts)) (expression_counted kept typed scope names (made_of kind b a s) holds)

      -- ---- initialisers

      selected_so : {A : Type 0} (tree : PlainTree) (m : Checked A) → IsCounted m (names_in tree) → IsUsing by m → (KeepsApart by → (known : Known) → IsKnown by scope known → Selects by (Those by scope known tree) m)
          → Part by (λ x u. IsInitially scope tree u) m (names_in tree)
      selected_so tree (fine x js) count uses selects =
          (count, λ keeps known is. ap (using (names_in tree)) (uses ∙ sym (selects keeps known is [] ∙ append-nil (map (structure_bound by) js))))
      selected_so tree (refused kind token) count uses selects = tt
      selected_so tree broken count uses selects = tt

      pub initial_part : {tree : PlainTree} → Derivation initialiser tree → Holds tree → (globals : Option ℕ) (ty : PlainType) (path : Path) (behind : PlainToken)
          → Part by (λ x u. IsInitially scope tree u) (initial scope globals ty path tree behind) (names_in tree)
      initial_part {tree = tree} d holds globals ty path behind =
          selected_so tree (initial scope globals ty path tree behind) (initial_counted kept typed scope names d holds globals ty path behind) (initial_using by scope globals ty path tree behind)
          (λ keeps known is. initial_selects by scope known globals names (kept by keeps scope) (λ n t derived. typed by keeps scope known is n t derived) d holds ty path behind)

    -- ---- sizes

    module _ (sizes : CountsNeedNoNames) where
      any_part : {A : Type 0} (m : Checked A) (ns : List PlainToken) → IsCounted m ns → Part by (λ x u. Unit {0}) m ns
      any_part (fine x js) ns h = (h, tt)
      any_part (refused kind token) ns h = tt
      any_part broken ns h = tt

      counted_size : (scope : Scope) → HasNames scope → {n : ℕ} {size : PlainTree} → Derivation (expression n) size → Holds size → (name : PlainToken)
          → Part by (λ x u. Unit {0}) (judged_count scope size name) (names_in size)
      counted_size scope names {size = size} d holds name =
          then_quiet by (λ u. Unit {0}) (names_in size) (valued scope size) (λ x. found_or (if is_integer x.ty then count_of_value (value_if_constant x.core) else None) BadConstant (first_token size name))
          (then_quiet by (λ u. Unit {0}) (names_in size) (judged scope size) (loaded scope) (any_part (judged scope size) (names_in size) (expression_counted kept typed scope names d holds)) (operators.loads Nothing scope))
          (λ x. bound.found_binds Nothing (if is_integer x.ty then count_of_value (value_if_constant x.core) else None) BadConstant (first_token size name))

      -- where nothing is visible the size is the same, and has no identifier
      none_there : (ns : List PlainToken) (n : ℕ) (m : Checked ℕ) → Part by (λ x u. Unit {0}) m ns → bound.Binds Nothing m → seen.fine n ≡ outcome_as (λ n. n) m → ns ≡ []
      none_there [] n m h g e = refl
      none_there (first ∷ rest) n (fine k []) h g e = absurd h.0
      none_there (first ∷ rest) n (fine k (j ∷ js)) h g e = absurd g.all.0
      none_there (first ∷ rest) n (refused kind token) h g e = absurd cc
      none_there (first ∷ rest) n broken h g e = absurd cc

      pub size_part : (scope : Scope) → HasNames scope → {n : ℕ} {size : PlainTree} → Derivation (expression n) size → Holds size → (name : PlainToken)
          → Part by (λ x u. u ≡ []) (judged_count scope size name) (names_in size)
      size_part scope names {size = size} d holds name = from (judged_count scope size name) refl (counted_size scope names d holds name)
        where
          from : (m : Checked ℕ) → judged_count scope size name ≡ m → Part by (λ x u. Unit {0}) m (names_in size) → Part by (λ x u. u ≡ []) m (names_in size)
          from (fine n js) e h = (
            h.0,
            ap (λ ns. using ns (structures_used by js))
                (none_there (names_in size) n (judged_count (hidden scope) size name) (counted_size (hidden scope) (nothing_hidden scope) d holds name) (count_binds Nothing no_entry (hidden scope) (nothing_allowed scope) size name)
                (ap (outcome_as (λ n. n)) (sym e) ∙ sizes scope (hidden scope) size name name)),
          )
          from (refused kind token) e h = tt
          from broken e h = tt
