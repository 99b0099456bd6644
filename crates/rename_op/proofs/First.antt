-- The first precondition that is broken.
use Rattle.std.proofs.Common.{◌≡◌, Bool, true, false, ◌&&◌, List, [], ◌∷◌, ◌++◌, IsTrue, refl, sym, subst}
use Rattle.std.specs.Prelude.{◌↔◌}
use Rattle.std.specs.List.{AllByRecursion}
use Rattle.cond_formula.specs.Features.{has}
use Rattle.cond_formula.specs.Conditions.{Condition, value}
use Rattle.sat_core.specs.declared.answers.Proof.{Proof}
use Rattle.project_file.specs.Projects.{PlainProject}
use Rattle.command_projects.specs.Least.{IsAdmitted, Nowhere}
use Rattle.program_occurrences.specs.Classes.{PlainFileToken}
use Rattle.reference_classes.specs.Preconditions.{Precondition, broken, in_macro_body, macro_name, fixed, capture, preconditions, IsTouched}
use Rattle.renamed_classes.specs.Renaming.{NothingStandsInTheWay}
use Rattle.rename_op.specs.Asked.{BreaksIn, TellsCause, project_of, files_of, renaming}
use Rattle.rename_op.specs.declared.asked.Asked.{Asked}
use Rattle.project_questions.specs.Questions.{IsTrueIn, ShowsNone}
use Rattle.project_questions.proofs.Found.{none-shown}
use Rattle.rename_op.specs.Outcomes.{AreShown}

both-first : (a b : Bool) → IsTrue (a && b) → IsTrue a
both-first true b h = refl
both-first false b h = h

both-second : (a b : Bool) → IsTrue (a && b) → IsTrue b
both-second true b h = h
both-second false b h = let no : ◌≡◌ {A = Bool} false true = h in absurd cc

both-from : (a b : Bool) → IsTrue a → IsTrue b → IsTrue (a && b)
both-from true b x y = y
both-from false b x y = x

-- the condition is true exactly where the precondition is broken
pub breaks-told :
    (asked : Asked) (place : PlainFileToken) (precondition : Precondition) (read caused breaking : Condition) → ((on : _) → value on breaking ≡ (value on read && value on caused))
    → ((c : List Bool) → IsAdmitted (project_of asked) c → IsTrue (value (has c) read) ↔ IsTouched (project_of asked) (files_of asked) place c)
    → TellsCause asked place precondition caused → (c : List Bool) → IsAdmitted (project_of asked) c → IsTrueIn breaking c ↔ BreaksIn asked place precondition c
breaks-told asked place precondition read caused breaking same touched tells c admitted = (forth, back)
  where
    forth : IsTrueIn breaking c → BreaksIn asked place precondition c
    forth h =
        let b = subst IsTrue (same (has c)) h in
        let is_touched = (touched c admitted).0 (both-first (value (has c) read) (value (has c) caused) b) in
        record { touched = is_touched; stands_in_the_way = (tells c admitted is_touched).0 (both-second (value (has c) read) (value (has c) caused) b) }

    back : BreaksIn asked place precondition c → IsTrueIn breaking c
    back x =
        subst IsTrue (sym (same (has c)))
        (both-from (value (has c) read) (value (has c) caused) ((touched c admitted).1 x.touched) ((tells c admitted x.touched).1 x.stands_in_the_way))

-- a condition that has the same value in each admitted configuration tells the same
pub told-of-same :
    (asked : Asked) (place : PlainFileToken) (precondition : Precondition) (caused live : Condition)
    → ((c : List Bool) → IsAdmitted (project_of asked) c → value (has c) live ≡ value (has c) caused)
    → TellsCause asked place precondition caused → TellsCause asked place precondition live
told-of-same asked place precondition caused live same tells c admitted touched =
    (λ h. (tells c admitted touched).0 (subst IsTrue (same c admitted) h), λ x. subst IsTrue (sym (same c admitted)) ((tells c admitted touched).1 x))

module _ (project : PlainProject) (Holds : Precondition → List Bool → Type 0) where
  pub none-before : (ps : List Precondition) (proofs : List Proof) → AreShown project Holds ps proofs → AllByRecursion (λ p. Nowhere project (Holds p)) ps
  none-before [] proofs shown = tt
  none-before (p ∷ ps) [] shown = absurd shown
  none-before (p ∷ ps) (proof ∷ proofs) shown = (none-shown project (Holds p) proof shown.0, none-before ps proofs shown.1)

  pub one-more :
      (ps : List Precondition) (proofs : List Proof) (p : Precondition) (proof : Proof) → AreShown project Holds ps proofs → ShowsNone project (Holds p) proof
      → AreShown project Holds (ps ++ p ∷ []) (proofs ++ proof ∷ [])
  one-more [] [] p proof shown none = (none, tt)
  one-more [] (other ∷ proofs) p proof shown none = absurd shown
  one-more (q ∷ ps) [] p proof shown none = absurd shown
  one-more (q ∷ ps) (other ∷ proofs) p proof shown none = (shown.0, one-more ps proofs p proof shown.1 none)

module _ (asked : Asked) (place : PlainFileToken) where
  pub unhindered : (proofs : List Proof) → AreShown (project_of asked) (BreaksIn asked place) preconditions proofs → NothingStandsInTheWay (project_of asked) (files_of asked) place (renaming asked)
  unhindered proofs shown = by (none-before (project_of asked) (BreaksIn asked place) preconditions proofs shown)
    where
      by : AllByRecursion (λ p. Nowhere (project_of asked) (BreaksIn asked place p)) preconditions → NothingStandsInTheWay (project_of asked) (files_of asked) place (renaming asked)
      by none broken = none.0
      by none in_macro_body = none.1.0
      by none macro_name = none.1.1.0
      by none fixed = none.1.1.1.0
      by none capture = none.1.1.1.1.0
