use Rattle.std.proofs.Common.{◌≡◌, ℕ, Bool, List, IsTrue, refl, sym, ap, subst, ◌∙◌}
use Rattle.std.specs.List.{AllZip}
use Rattle.std.proofs.lemmas.Slice.Zip.{AllZip-long}
use Rattle.cond_formula.specs.Features.{has}
use Rattle.cond_formula.specs.Conditions.{value}
use Rattle.feature_model.specs.ModelView.{admitted}
use Rattle.choice_trees.specs.declared.trees.Forest.{Forest}
use Rattle.project_file.specs.declared.projects.Unit.{Unit}
use Rattle.cond_scopes.specs.Units.{present_trees}
use Rattle.program_occurrences.specs.Occurrences.{names_of_units}
use Rattle.changed_forests.specs.Numbered.{IsNumbered}
use Rattle.told_occurrences.specs.declared.told.ToldUnit.{ToldUnit}
use Rattle.told_occurrences.specs.Units.{AreTold}
use Rattle.project_analysis.proofs.analysis.analysed.Goals as goal

-- trees that are these are numbered so, and units that are these are told so
numbered_so : (forests fs numbered ns : List Forest) → fs ≡ forests → ns ≡ numbered → AllZip IsNumbered fs numbered → AllZip IsNumbered forests ns
numbered_so forests fs numbered ns f n h = subst (λ (xs : List Forest). AllZip IsNumbered forests xs) (sym n) (subst (λ (xs : List Forest). AllZip IsNumbered xs numbered) f h)

abbrev AreToldSo : (ℕ → Bool) → List Unit → List Forest → List ToldUnit → Type 0
AreToldSo on units forests told = AreTold on units forests (names_of_units (present_trees on units forests)) told

told_so : (on : ℕ → Bool) (units : List Unit) (forests fs : List Forest) (told ts : List ToldUnit) → forests ≡ fs → ts ≡ told → AreToldSo on units forests told → AreToldSo on units fs ts
told_so on units forests fs told ts f t h = subst (λ (xs : List ToldUnit). AreToldSo on units fs xs) (sym t) (subst (λ (xs : List Forest). AreToldSo on units xs told) f h)

pub told_project-requires-clause-numbered : goal.told_project-requires-clause-numbered
told_project-requires-clause-numbered c =
    numbered_so c.in_ok-parsed.parsed.forests.items c.deref.result.now c.in_ok-numbered.numbered.items c.deref-2.result.now c.deref.ensures.value c.deref-2.ensures.value c.in_ok-numbered.ensures

pub ties_of_told-requires-clause-numbered : goal.ties_of_told-requires-clause-numbered
ties_of_told-requires-clause-numbered c =
    numbered_so c.in_ok-parsed.parsed.forests.items c.deref.result.now c.in_ok-numbered.numbered.items c.deref-3.result.now c.deref.ensures.value c.deref-3.ensures.value c.in_ok-numbered.ensures

pub ties_of_told-requires-clause-told : goal.ties_of_told-requires-clause-told
ties_of_told-requires-clause-told c = λ n product.
    told_so (has n) c.args.project.now.units.items c.deref-2.result.now c.deref-3.result.now c.in_ok-found.found.units.items c.deref-4.result.now
    (c.deref-2.ensures.value ∙ sym c.deref-3.ensures.value) c.deref-4.ensures.value (c.in_ok-found.ensures.told n product)

pub returns : goal.returns
returns c =
    let parsed = c.in_ok-parsed.parsed in
    let numbered = c.in_ok-numbered.numbered.items in
    let told = c.in_ok-found.found.units.items in
    let numbers_are = numbered_so parsed.forests.items c.deref.result.now numbered numbered c.deref.ensures.value refl c.in_ok-numbered.ensures in
    record {
      numbered = numbers_are;
      as_many = AllZip-long IsNumbered parsed.forests.items numbered numbers_are ∙ c.in_ok-parsed.ensures.as_many;
      told = λ n product.
          let admitted : IsTrue (value (has n) (admitted c.new-oracle.result)) = ap (value (has n)) c.new-oracle.ensures ∙ product.admitted.admitted in
          record {
            are_parsed = c.in_ok-parsed.ensures.parsed n admitted;
            have_leaves = c.in_ok-parsed.ensures.leaves n admitted;
            units = told_so (has n) c.args.project.now.units.items c.deref-2.result.now numbered told told c.deref-2.ensures.value refl (c.in_ok-found.ensures.told n product);
          };
      ties = c.in_ok-ties.ensures.tells;
    }
