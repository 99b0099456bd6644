-- Expressions and initialisers bind as many identifiers as they have.
use Rattle.std.proofs.Common.{ℕ, List, [], refl, sym, ap, ◌∙◌, length, append-nil}
use Rattle.std.specs.Prelude.{map, Option, Some, None, slice_get}
use Rattle.std.proofs.lemmas.List.{length-map}
use Rattle.c_text.specs.Token.{PlainToken}
use Rattle.c_types.specs.Types.{PlainType}
use Rattle.c_tree.specs.Trees.{PlainTree}
use Rattle.c_tree.specs.Grammar.{expression, initialiser}
use Rattle.tree_derivations.specs.Derivations.{Derivation}
use Rattle.core_meaning.specs.Values.{Path}
use Rattle.core_meaning.specs.Checking.{Checked, fine, refused, broken}
use Rattle.core_meaning.specs.Entities.{Struct, Scope}
use Rattle.core_meaning.specs.Expressions.{judged}
use Rattle.core_meaning.specs.Constancy.{initial}
use Rattle.bindings.proofs.Spellings.{Holds}
use Rattle.operand_types.specs.OperandTypes.{OperandType}
use Rattle.operand_types.specs.Laws.{KeepsApart, TypesAreKept}
use Rattle.expression_types.specs.Known.{Known, IsKnown, denoted, member_type}
use Rattle.expression_types.specs.Laws.{ExpressionsHaveTypes}
use Rattle.selections.specs.Laws.{HasNames, structure_bound}
use Rattle.selections.proofs.Judgings.{Selects}
use Rattle.selections.proofs.Expressions.{Those, expression_selects}
use Rattle.selections.proofs.Initialisers.{initial_selects}
use Rattle.selections.proofs.Identifiers.{each_told}
use Rattle.member_uses.specs.Uses.{names_in}
use Rattle.member_uses.proofs.Parts.{AsMany, as_many}

-- ---- what is known where a scope is visible, where structs have their own numbers

abbrev own : ℕ → ℕ
own n = n

abbrev members_in : Scope → Option Struct → List ℕ → Option OperandType
members_in scope None name = None
members_in scope (Some s) name = member_type own scope s name

seen : Scope → Known
seen scope = record { ordinary = denoted own scope; members = λ n name. members_in scope (slice_get scope.structs n) name }

is_seen : (scope : Scope) → IsKnown own scope (seen scope)
unfolding seen
is_seen scope = record { ordinary = λ name. refl; members = λ n s e complete name. ap (λ o. members_in scope o name) e }

keeps_apart : KeepsApart own
keeps_apart = record { apart = λ m n. refl }

-- ---- counts

abbrev pub IsCounted : {A : Type 0} → Checked A → List PlainToken → Type 0
IsCounted (fine x js) names = AsMany js names
IsCounted (refused kind token) names = Unit {0}
IsCounted broken names = Unit {0}

counted : {A : Type 0} (known : Known) (scope : Scope) (tree : PlainTree) (m : Checked A) → Selects own (Those own scope known tree) m → IsCounted m (names_in tree)
counted known scope tree (fine x js) h =
    as_many js (names_in tree)
    (sym (length-map js (structure_bound own)) ∙ (ap length (sym (h [] ∙ append-nil (map (structure_bound own) js))) ∙ each_told known None Rattle.std.proofs.Common.false tree [] [] refl))
counted known scope tree (refused kind token) h = tt
counted known scope tree broken h = tt

module _ (kept : TypesAreKept) (typed : ExpressionsHaveTypes) (scope : Scope) (names : HasNames scope) where
  pub expression_counted : {n : ℕ} {tree : PlainTree} → Derivation (expression n) tree → Holds tree → IsCounted (judged scope tree) (names_in tree)
  expression_counted {tree = tree} d holds =
      counted (seen scope) scope tree (judged scope tree)
      (expression_selects own scope (seen scope) names (kept own keeps_apart scope) (λ n t is. typed own keeps_apart scope (seen scope) (is_seen scope) n t is) d holds)

  pub initial_counted : {tree : PlainTree} → Derivation initialiser tree → Holds tree → (globals : Option ℕ) (ty : PlainType) (path : Path) (behind : PlainToken)
      → IsCounted (initial scope globals ty path tree behind) (names_in tree)
  initial_counted {tree = tree} d holds globals ty path behind =
      counted (seen scope) scope tree (initial scope globals ty path tree behind)
      (initial_selects own scope (seen scope) globals names (kept own keeps_apart scope) (λ n t is. typed own keeps_apart scope (seen scope) (is_seen scope) n t is) d holds ty path behind)
