-- What following hints keeps.
use Rattle.std.proofs.Common.{◌≡◌, ℕ, ℤ, Bool, true, false, List, [], ◌∷◌, ◌++◌, length, get_or, set, Option, None, Some, refl, sym, ap, ◌∙◌, subst, inl, inr}
use Rattle.std.proofs.lemmas.Bool.{cases_eq, false≢true}
use Rattle.std.proofs.lemmas.Option.{none-some, same_Some}
use Rattle.std.proofs.lemmas.List.{get_or-set_other, length-set}
use Rattle.refute_check.specs.declared.refusals.CheckKind.{CheckKind}
use Rattle.refute_check.specs.Clauses.{variable_of, is_positive, literal_holds, clause_holds, all_hold}
use Rattle.refute_check.specs.Steps.{Judgement, false_clause, unit, neither, literal_of, value_of, is_false, taken_true, all_false, judged, judgement, clause_at, hint_judgement, hint_fault, hints_fault}
use Rattle.refute_check.specs.StepLaws.{left_true, right_true, Agrees, Says, judgement_says, taken_true-agrees, clause_at-holds}
use Rattle.clause_search.specs.Following.{onward, followed}

onward_fault : (judgement : Judgement) (next : ℤ → Option (List (Option Bool))) (fault : ℤ → Option CheckKind) (rest : List ℕ) (values : List (Option Bool)) (last : Option CheckKind) → onward judgement next ≡ Some values → ((literal : ℤ) → next literal ≡ Some values → fault literal ≡ last) → hint_fault judgement fault rest ≡ last
onward_fault false_clause next fault rest values last is same = absurd (none-some values is)
onward_fault (unit literal) next fault rest values last is same = same literal is
onward_fault neither next fault rest values last is same = absurd (none-some values is)

-- hints that were followed can be passed over
pub hints_fault-followed : (clauses : List (List ℤ)) (start values : List (Option Bool)) (hints rest : List ℕ) → followed clauses start hints ≡ Some values → hints_fault clauses start (hints ++ rest) ≡ hints_fault clauses values rest
hints_fault-followed clauses start values [] rest is = ap (λ (known : List (Option Bool)). hints_fault clauses known rest) (same_Some start values is)
hints_fault-followed clauses start values (hint ∷ hints) rest is =
    onward_fault (hint_judgement start (clause_at clauses hint)) (λ literal. followed clauses (taken_true start literal) hints) (λ literal. hints_fault clauses (taken_true start literal) (hints ++ rest)) (hints ++ rest) values (hints_fault clauses values rest) is (λ literal later. hints_fault-followed clauses (taken_true start literal) values hints rest later)

onward_keeps : (judgement : Judgement) (next : ℤ → Option (List (Option Bool))) (values : List (Option Bool)) (P : Type 0) → onward judgement next ≡ Some values → ((literal : ℤ) → judgement ≡ unit literal → next literal ≡ Some values → P) → P
onward_keeps false_clause next values P is keeps = absurd (none-some values is)
onward_keeps (unit literal) next values P is keeps = keeps literal refl is
onward_keeps neither next values P is keeps = absurd (none-some values is)

-- one more hint
pub followed-more : (clauses : List (List ℤ)) (start values : List (Option Bool)) (hints : List ℕ) (hint : ℕ) (literal : ℤ) → followed clauses start hints ≡ Some values → hint_judgement values (clause_at clauses hint) ≡ unit literal → followed clauses start (hints ++ hint ∷ []) ≡ Some (taken_true values literal)
followed-more clauses start values [] hint literal is judged =
    let same : start ≡ values = same_Some start values is in
    let P : List (Option Bool) → Type 0 = λ known. onward (hint_judgement known (clause_at clauses hint)) (λ l. Some (taken_true known l)) ≡ Some (taken_true values literal) in
    subst P (sym same) (ap (λ (j : Judgement). onward j (λ l. Some (taken_true values l))) judged)
followed-more clauses start values (first ∷ hints) hint literal is judged =
    onward_keeps (hint_judgement start (clause_at clauses first)) (λ l. followed clauses (taken_true start l) hints) values (followed clauses start (first ∷ hints ++ hint ∷ []) ≡ Some (taken_true values literal)) is (λ l unit_is later.
    ap (λ (j : Judgement). onward j (λ l. followed clauses (taken_true start l) (hints ++ hint ∷ []))) unit_is ∙ followed-more clauses (taken_true start l) values hints hint literal later judged)

pub length-followed : (clauses : List (List ℤ)) (start values : List (Option Bool)) (hints : List ℕ) → followed clauses start hints ≡ Some values → length values ≡ length start
length-followed clauses start values [] is = ap length (sym (same_Some start values is))
length-followed clauses start values (hint ∷ hints) is =
    onward_keeps (hint_judgement start (clause_at clauses hint)) (λ l. followed clauses (taken_true start l) hints) values (length values ≡ length start) is (λ l unit_is later.
    length-followed clauses (taken_true start l) values hints later ∙ length-set start (variable_of l) (Some (is_positive l)))

-- an assignment that satisfies the clauses agrees with what follows from what it agrees with
module _ (values : ℕ → Bool) where
  found_unit : (known : List (Option Bool)) (literal : ℤ) (found : Option (List ℤ)) → Agrees values known → ((clause : List ℤ) → found ≡ Some clause → clause_holds values clause ≡ true) → hint_judgement known found ≡ unit literal → literal_holds values literal ≡ true
  found_unit known literal None agrees holds is = cc
  found_unit known literal (Some clause) agrees holds is =
      let P : Judgement → Type 0 = λ j. Says values j clause in
      let says : clause_holds values clause ≡ literal_holds values literal = subst P is (judgement_says values known agrees clause) in
      sym says ∙ holds clause refl

  pub followed-agrees : (clauses : List (List ℤ)) → all_hold values clauses ≡ true → (start known : List (Option Bool)) (hints : List ℕ) → Agrees values start → followed clauses start hints ≡ Some known → Agrees values known
  followed-agrees clauses hold start known [] agrees is = subst (λ (k : List (Option Bool)). Agrees values k) (same_Some start known is) agrees
  followed-agrees clauses hold start known (hint ∷ hints) agrees is =
      onward_keeps (hint_judgement start (clause_at clauses hint)) (λ l. followed clauses (taken_true start l) hints) known (Agrees values known) is (λ l unit_is later.
      let holds = found_unit start l (clause_at clauses hint) agrees (λ clause at. clause_at-holds values clauses hint clause hold at) unit_is in
      followed-agrees clauses hold (taken_true start l) known hints (taken_true-agrees values start l agrees holds) later)

-- the literal that a unit clause makes true has no value
judged_open : (known : List (Option Bool)) (value : Option Bool) (first literal : ℤ) (others_false : Bool) (others : Judgement) → value_of known first ≡ value → (others ≡ unit literal → value_of known literal ≡ None) → judged value first others_false others ≡ unit literal → value_of known literal ≡ None
judged_open known (Some false) first literal others_false others at later is = later is
judged_open known (Some true) first literal others_false others at later is = cc
judged_open known None first literal true others at later is =
    let same : first ≡ literal = cc in
    subst (λ (l : ℤ). value_of known l ≡ None) same at
judged_open known None first literal false others at later is = cc

unit_open : (known : List (Option Bool)) (clause : List ℤ) (literal : ℤ) → judgement known clause ≡ unit literal → value_of known literal ≡ None
unit_open known [] literal is = cc
unit_open known (first ∷ rest) literal is =
    judged_open known (value_of known first) first literal (all_false known rest) (judgement known rest) refl (unit_open known rest literal) is

found_open : (known : List (Option Bool)) (found : Option (List ℤ)) (literal : ℤ) → hint_judgement known found ≡ unit literal → value_of known literal ≡ None
found_open known None literal is = cc
found_open known (Some clause) literal is = unit_open known clause literal is

open_variable : (positive : Bool) (known : Option Bool) → literal_of positive known ≡ None → known ≡ None
open_variable positive None is = refl
open_variable positive (Some value) is = cc

kept_by_set : (known : List (Option Bool)) (i variable : ℕ) (new value : Bool) → get_or known i None ≡ None → get_or known variable None ≡ Some value → get_or (set known i (Some new)) variable None ≡ Some value
kept_by_set known i variable new value open_there is = elim (cases_eq variable i) [
  | inl same ↦ let there : get_or known variable None ≡ None = rw same open_there in absurd (none-some value (sym there ∙ is))
  | inr different ↦ get_or-set_other known i variable (Some new) None different ∙ is
]

-- a value stays as it is
pub followed-keeps : (clauses : List (List ℤ)) (start known : List (Option Bool)) (hints : List ℕ) (variable : ℕ) (value : Bool) → followed clauses start hints ≡ Some known → get_or start variable None ≡ Some value → get_or known variable None ≡ Some value
followed-keeps clauses start known [] variable value is at = subst (λ (k : List (Option Bool)). get_or k variable None ≡ Some value) (same_Some start known is) at
followed-keeps clauses start known (hint ∷ hints) variable value is at =
    onward_keeps (hint_judgement start (clause_at clauses hint)) (λ l. followed clauses (taken_true start l) hints) known (get_or known variable None ≡ Some value) is (λ l unit_is later.
    let valueless = open_variable (is_positive l) (get_or start (variable_of l) None) (found_open start (clause_at clauses hint) l unit_is) in
    followed-keeps clauses (taken_true start l) known hints variable value later (kept_by_set start (variable_of l) variable (is_positive l) value valueless at))

judged_false : (value : Option Bool) (first : ℤ) (others_false : Bool) (others : Judgement) → is_false value ≡ true → others ≡ false_clause → judged value first others_false others ≡ false_clause
judged_false (Some false) first others_false others is same = same
judged_false (Some true) first others_false others is same = absurd (false≢true is)
judged_false None first others_false others is same = absurd (false≢true is)

-- a clause whose literals are all false is judged so
pub judgement-false : (known : List (Option Bool)) (clause : List ℤ) → all_false known clause ≡ true → judgement known clause ≡ false_clause
judgement-false known [] is = refl
judgement-false known (first ∷ rest) is =
    judged_false (value_of known first) first (all_false known rest) (judgement known rest) (left_true (is_false (value_of known first)) (all_false known rest) is) (judgement-false known rest (right_true (is_false (value_of known first)) (all_false known rest) is))
