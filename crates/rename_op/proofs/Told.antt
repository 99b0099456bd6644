-- What conditions tell of the causes of preconditions, in configurations that the class touches.
use Rattle.std.proofs.Common.{◌≡◌, ℕ, Bool, true, false, List, IsTrue, refl, sym, subst, inl, inr}
use Rattle.std.specs.Prelude.{◌↔◌, ◌⊎◌, not, ◌||◌}
use Rattle.cond_formula.specs.Features.{has}
use Rattle.cond_formula.specs.Conditions.{Condition, condition_of, value}
use Rattle.command_projects.specs.Least.{IsAdmitted, Nowhere}
use Rattle.program_occurrences.specs.Classes.{PlainFileToken}
use Rattle.reference_classes.specs.Products.{Product}
use Rattle.reference_classes.specs.Preconditions.{HasNoProgram, IsTouched, broken, in_macro_body, macro_name, fixed}
use Rattle.tied_tokens.specs.Tokens.{plain_file_tokens}
use Rattle.class_occurrences.specs.Occurring.{comes_from_macro_body, is_fixed_of}
use Rattle.class_conditions.specs.Laws.{ConditionsTellPreconditions, TellPreconditions}
use Rattle.class_conditions.specs.Told.{some_unit_passes}
use Rattle.class_touches.specs.Touches.{IsReadAsMacroBy}
use Rattle.class_touches.specs.Laws.{ListsAreReadAsClasses}
use Rattle.rename_op.specs.Analysed.{AnalysesAreTold}
use Rattle.rename_op.specs.Asked.{IsAsked, BreaksIn, TellsCause, project_of, files_of}
use Rattle.rename_op.specs.declared.asked.Asked.{Asked}

not-true : (b : Bool) → IsTrue (not b) → b ≡ false
not-true true h = let no : ◌≡◌ {A = Bool} false true = h in cc
not-true false h = refl

not-both : (b : Bool) → b ≡ false → IsTrue b → ⊥
not-both true e h = let no : ◌≡◌ {A = Bool} true false = e in cc
not-both false e h = let no : ◌≡◌ {A = Bool} false true = h in cc

pub either-is : {P Q : Type 0} (a b : Bool) → IsTrue a ↔ P → IsTrue b ↔ Q → IsTrue (a || b) ↔ (P ⊎ Q)
either-is {P} {Q} true b p q = (λ h. inl (p.0 refl), λ x. refl)
either-is {P} {Q} false b p q = (λ h. inr (q.0 h), back)
  where
    back : P ⊎ Q → IsTrue (false || b)
    back (inl x) = let no : ◌≡◌ {A = Bool} false true = p.1 x in cc
    back (inr y) = q.1 y

module _ (asked : Asked) (place : PlainFileToken) (is : IsAsked asked place) where
  abbrev accepted : List Bool → Bool
  accepted c = value (has c) (condition_of asked.analysis.now.ties.accepted)

  accepted-is : (c : List Bool) → IsAdmitted (project_of asked) c → IsTrue (accepted c) ↔ Product (project_of asked) (files_of asked) c
  accepted-is c admitted = is.analysed.ties.accepted c admitted

  pub broken-told : (condition : Condition) → ((c : List Bool) → value (has c) condition ≡ not (accepted c)) → TellsCause asked place broken condition
  broken-told condition same c admitted touched = (forth, back)
    where
      forth : IsTrue (value (has c) condition) → HasNoProgram (project_of asked) (files_of asked) c
      forth h p is_program =
          not-both (accepted c) (not-true (accepted c) (subst IsTrue (same c) h)) ((accepted-is c admitted).1 (record { admitted = admitted; program = p; is_program = is_program }))

      by : (b : Bool) → accepted c ≡ b → HasNoProgram (project_of asked) (files_of asked) c → IsTrue (not b)
      by true e none = let product = (accepted-is c admitted).0 e in absurd (none product.program product.is_program)
      by false e none = refl

      back : HasNoProgram (project_of asked) (files_of asked) c → IsTrue (value (has c) condition)
      back none = subst IsTrue (sym (same c)) (subst (λ b. IsTrue (not b)) refl (by (accepted c) refl none))

  -- where Broken isn't broken, each configuration that is touched is accepted
  pub product-of : Nowhere (project_of asked) (BreaksIn asked place broken) → (c : List Bool) → IsAdmitted (project_of asked) c → IsTouched (project_of asked) (files_of asked) place c → Product (project_of asked) (files_of asked) c
  product-of unbroken c admitted touched = by (accepted c) refl
    where
      by : (b : Bool) → accepted c ≡ b → Product (project_of asked) (files_of asked) c
      by true e = (accepted-is c admitted).0 e
      by false e = absurd (unbroken c admitted (record {
        touched = touched;
        stands_in_the_way = λ p is_program. not-both (accepted c) e ((accepted-is c admitted).1 (record { admitted = admitted; program = p; is_program = is_program }));
      }))

  module _ (told : AnalysesAreTold) (tell : ConditionsTellPreconditions) (unbroken : Nowhere (project_of asked) (BreaksIn asked place broken)) where
    preconditions-told :
        (c : List Bool) → IsAdmitted (project_of asked) c → IsTouched (project_of asked) (files_of asked) place c
        → TellPreconditions asked.project.now (files_of asked) asked.analysis.now.parsed asked.analysis.now.told.units.items place asked.class.now c
    preconditions-told c admitted touched =
        let product = product-of unbroken c admitted touched in
        tell asked.project.now (files_of asked) asked.analysis.now.parsed asked.analysis.now.told.numbered.items asked.analysis.now.told.units.items c product
        (told asked.project.now (files_of asked) asked.analysis.now is.analysed c product) place asked.class.now is.members

    pub in-macro-body-told :
        (condition : Condition)
        → ((on : ℕ → Bool) → value on condition ≡ some_unit_passes on (comes_from_macro_body asked.class.now) asked.analysis.now.parsed.streams.items asked.analysis.now.told.units.items)
        → TellsCause asked place in_macro_body condition
    in-macro-body-told condition same c admitted touched =
        let tells = (preconditions-told c admitted touched).in_macro_body in (λ h. tells.0 (subst IsTrue (same (has c)) h), λ x. subst IsTrue (sym (same (has c))) (tells.1 x))

    pub fixed-told :
        (condition : Condition)
        → ((on : ℕ → Bool) → value on condition ≡ some_unit_passes on (is_fixed_of asked.class.now) asked.analysis.now.parsed.streams.items asked.analysis.now.told.units.items)
        → TellsCause asked place fixed condition
    fixed-told condition same c admitted touched =
        let tells = (preconditions-told c admitted touched).fixed in (λ h. tells.0 (subst IsTrue (same (has c)) h), λ x. subst IsTrue (sym (same (has c))) (tells.1 x))

  pub macro-told :
      ListsAreReadAsClasses → (condition old new : Condition) → ((on : ℕ → Bool) → value on condition ≡ (value on old || value on new))
      → ((c : List Bool) → IsAdmitted (project_of asked) c → IsTrue (value (has c) old) ↔ IsReadAsMacroBy (project_of asked) (files_of asked) (plain_file_tokens asked.class.now) asked.old.now c)
      → ((c : List Bool) → IsAdmitted (project_of asked) c → IsTrue (value (has c) new) ↔ IsReadAsMacroBy (project_of asked) (files_of asked) (plain_file_tokens asked.class.now) asked.new.now c)
      → TellsCause asked place macro_name condition
  macro-told read condition old new same old_read new_read c admitted touched =
      let tokens = plain_file_tokens asked.class.now in
      let by_old = read (project_of asked) (files_of asked) place tokens c asked.old.now is.members in
      let by_new = read (project_of asked) (files_of asked) place tokens c asked.new.now is.members in
      let tells = either-is (value (has c) old) (value (has c) new)
      (λ h. by_old.0 ((old_read c admitted).0 h), λ x. (old_read c admitted).1 (by_old.1 x))
      (λ h. by_new.0 ((new_read c admitted).0 h), λ x. (new_read c admitted).1 (by_new.1 x)) in
      (λ h. tells.0 (subst IsTrue (same (has c)) h), λ x. subst IsTrue (sym (same (has c))) (tells.1 x))
