-- The struct in which a selection selects, by what its operand is.
use Rattle.std.proofs.Common.{◌≡◌, ℕ, ◌<◌, Bool, true, false, ◌||◌, List, [], ◌∷◌, drop, length, get_or, Option, None, IsTrue, refl, sym, ap, subst, ◌∙◌, arith}
use Rattle.std.specs.Prelude.{codes, if◌then◌else◌}
use Rattle.std.specs.Str.{bytes_eq}
use Rattle.c_text.specs.Token.{PlainToken}
use Rattle.c_tree.specs.Trees.{leaf, none, more}
use Rattle.choice_trees.specs.ChoiceTrees.{semicolon, no_statement}
use Rattle.choice_variants.specs.declared.parts.Part.{Part}
use Rattle.choice_variants.specs.Variants.{before}
use Rattle.cond_formula.specs.Conditions.{Condition, value}
use Rattle.conditional.proofs.ListLaws.{item_of, with_true}
use Rattle.conditional.specs.declared.outcomes.Outcomes.{Outcomes}
use Rattle.conditional.specs.Judgements.{Shows, JudgesUnder}
use Rattle.operand_rules.specs.declared.operands.Refused.{Refused}
use Rattle.operand_rules.specs.PlainOperandTypes.{reason}
use Rattle.operand_types.specs.Operators.{loaded_type}
use Rattle.cond_selections.specs.declared.entries.Structure.{Structure}
use Rattle.cond_selections.specs.Selected.{structure_number}
use Rattle.c_types.specs.Types.{PlainType}
use Rattle.c_tree.specs.declared.kinds.Kind.{Kind}
use Rattle.c_tree.specs.declared.kinds.Kind.TheVariants as k
use Rattle.c_tree.specs.Trees.{PlainTrees}
use Rattle.conditional.specs.Judgements.{fine, refused, bind}
use Rattle.operand_types.specs.OperandTypes.{OperandType}
use Rattle.expression_types.specs.Known.{Known}
use Rattle.expression_types.specs.Reading.{Outcome, no_outcome}
use Rattle.selections.specs.Selections.{structure_of_type, structure_pointed_at, structure_by, structure_behind, structure_of_selection, structure_of_node}
use Rattle.cond_selections.specs.Progress.{or_refused, ShowsStructure, is_selection}

-- an operand that is refused selects in none
pub judged_by : (which : PlainType → Option ℕ) (o : Outcome) → bind o (λ (x : OperandType). or_refused (which x.ty)) ≡ or_refused (structure_by which o)
judged_by which (fine o) = refl
judged_by which (refused why) = refl

abbrev pub SelectsAs : Kind → Bool → Type 0
SelectsAs kind true = kind ≡ k.Selection
SelectsAs kind false = (known : Known) (parts : PlainTrees) → structure_of_node known kind parts ≡ None

pub selects_as : (kind : Kind) → SelectsAs kind (is_selection kind)
selects_as k.Selection = refl
selects_as kind = λ known parts. refl

abbrev pub judging : (PlainType → Option ℕ) → OperandType → Rattle.conditional.specs.Judgements.Checked ℕ (Unit {0})
judging which x = or_refused (which x.ty)

pub behind_dot : (on : ℕ → Bool) (select : PlainToken) (o : Outcome) (z : Outcomes Structure Refused) → true ≡ bytes_eq select.text (codes ".")
    → Shows structure_number reason on true (bind o (judging structure_of_type)) z → ShowsStructure on (structure_behind select o) z
behind_dot on select o z dot shows =
    subst (λ b. ShowsStructure on (if b then structure_by structure_of_type o else structure_by structure_pointed_at (bind o (loaded_type semicolon))) z) dot
    (subst (λ c. Shows structure_number reason on true c z) (judged_by structure_of_type o) shows)

pub behind_arrow : (on : ℕ → Bool) (select : PlainToken) (o : Outcome) (z : Outcomes Structure Refused) → false ≡ bytes_eq select.text (codes ".")
    → Shows structure_number reason on true (bind (bind o (loaded_type semicolon)) (judging structure_pointed_at)) z → ShowsStructure on (structure_behind select o) z
behind_arrow on select o z arrow shows =
    subst (λ b. ShowsStructure on (if b then structure_by structure_of_type o else structure_by structure_pointed_at (bind o (loaded_type semicolon))) z) arrow
    (subst (λ c. Shows structure_number reason on true c z) (judged_by structure_pointed_at (bind o (loaded_type semicolon))) shows)

-- ---- parts

pub no_operand : (known : Known) (select : PlainToken) (rest : PlainTrees) → structure_of_selection known (more no_statement (more (leaf select) rest)) ≡ None
no_operand known select rest = either (bytes_eq select.text (codes "."))
  where
    either : (b : Bool) → (if b then structure_by structure_of_type no_outcome else structure_by structure_pointed_at (bind no_outcome (loaded_type semicolon))) ≡ None
    either true = refl
    either false = refl

pub few_parts : (on : ℕ → Bool) (known : Known) (parts : List Part) → length parts < 2 → structure_of_selection known (before on parts none) ≡ None
few_parts on known [] few = refl
few_parts on known (a ∷ []) few = refl
few_parts on known (a ∷ b ∷ rest) few = absurd (omega (arith, few))

pub two_parts : (parts : List Part) (a b : Part) → 1 < length parts → a ≡ get_or parts 0 a → b ≡ get_or parts 1 b → parts ≡ a ∷ b ∷ drop 2 parts
two_parts parts a b more_ first second = item_of parts a 0 (omega (arith, more_)) first ∙ ap (λ rest. a ∷ rest) (item_of parts b 1 more_ second)

-- ---- variants

abbrev pub outcome_of : Known → PlainTrees → Rattle.conditional.specs.Judgements.Checked ℕ (Unit {0})
outcome_of known trees = or_refused (structure_of_selection known trees)

abbrev pub ShowsSoFar : (ℕ → Bool) → Rattle.conditional.specs.Judgements.Checked ℕ (Unit {0}) → Bool → Outcomes Structure Refused → Type 0
ShowsSoFar on outcome held all = Shows structure_number reason on held outcome all

-- one variant more
pub shown_so_far :
    (on : ℕ → Bool) (outcome here : Rattle.conditional.specs.Judgements.Checked ℕ (Unit {0})) (held : Bool) (when : Condition) (more_ old new : Outcomes Structure Refused)
    → JudgesUnder structure_number reason on when more_ old new → ShowsSoFar on here true more_ → (IsTrue (value on when) → here ≡ outcome) → ShowsSoFar on outcome held old
    → ShowsSoFar on outcome (held || value on when) new
shown_so_far on outcome here held when more_ old new judged shows same before_ =
    subst (λ b. ShowsSoFar on outcome (held || b) new) (sym (with_true (value on when)))
    (judged.shows held true outcome before_ (λ t. subst (λ o. ShowsSoFar on o true more_) (same t) shows))
