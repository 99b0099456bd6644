-- What is told of a project's units tells its products.
use Rattle.std.proofs.Common.{◌≡◌, ℕ, Bool, true, false, List, map, length, refl, sym, ap, subst, ◌∙◌}
use Rattle.std.specs.Prelude.{◌↔◌, ◌≤◌, not, IsTrue, Contains}
use Rattle.std.specs.List.{AllZip}
use Rattle.std.specs.String.{string_bytes}
use Rattle.std.proofs.lemmas.List.{length-map}
use Rattle.text_edits.specs.Files.{PlainFile}
use Rattle.cond_formula.specs.Features.{has}
use Rattle.cond_formula.specs.Conditions.{Condition, condition_of, value, VarsBelow}
use Rattle.feature_model.specs.ModelView.{admitted}
use Rattle.c_tree.specs.Trees.{PlainTree}
use Rattle.c_tree.specs.ReadingLaws.{TreesAreOne}
use Rattle.choice_trees.specs.declared.trees.Forest.{Forest}
use Rattle.plain_pp.specs.Laws.{OutcomesAreOne}
use Rattle.project_file.specs.declared.projects.Project.{Project}
use Rattle.project_file.specs.View.{project_view}
use Rattle.project_program.specs.declared.programs.Stage.TheVariants.{Preprocess, Parse}
use Rattle.project_program.specs.Programs.{AreTrees}
use Rattle.project_program.specs.Laws.{ProgramsAreOne}
use Rattle.command_projects.specs.Least.{IsAdmitted}
use Rattle.cond_scopes.specs.Units.{present_trees}
use Rattle.project_check.specs.declared.forests.ParsedUnits.{ParsedUnits}
use Rattle.project_check.specs.Parsed.{AreReadUnits, AreParsed, HaveLeaves}
use Rattle.project_check.specs.Broken.{TellsProgram}
use Rattle.project_check.proofs.Present.{trees_are_one}
use Rattle.program_occurrences.specs.Occurrences.{CommonName, names_of_units}
use Rattle.program_occurrences.specs.Classes.{PlainFileToken}
use Rattle.reference_classes.specs.Products.{Product, names_in}
use Rattle.tied_tokens.specs.Ties.{plain_tie, plain_declared_name}
use Rattle.tied_classes.specs.Told.{IsDeclaredBy, DeclaresName, Ties, Names, TellsProducts}
use Rattle.changed_forests.specs.Numbered.{IsNumbered}
use Rattle.told_occurrences.specs.declared.told.ToldUnit.{ToldUnit}
use Rattle.told_occurrences.specs.Units.{AreTold}
use Rattle.told_ties.specs.Ties.{TiedPair, tied, NamedToken, named, tied_seen, named_seen, tied_in, named_in}
use Rattle.told_ties.specs.Laws.{TieUnits, OccurrencesAreTied, TiesAreSeen}
use Rattle.project_ties.specs.declared.projects.ProjectTies.{ProjectTies}
use Rattle.project_ties.specs.Tied.{IsOwn, TiesBelow, NamesBelow}
use Rattle.project_ties.specs.Projects.{tied_tokens_of}

also : {A B C : Type 0} → A ↔ B → B ↔ C → A ↔ C
also f g = (λ x. g.0 (f.0 x), λ z. f.1 (g.1 z))

-- what becomes of units that all have a tree
pub record HaveTrees (on : ℕ → Bool) (project : Project) (files : List PlainFile) (treeless : Bool) (forests : List Forest) : Type 0 where
  pub well : treeless ≡ false
  pub trees : AreTrees (project_view project) files on (present_trees on project.units.items forests)

-- the units of a product have trees
pub have_trees :
    ProgramsAreOne → (project : Project) (files : List PlainFile) (forests : List Forest) (c : List Bool) → Product (project_view project) files c → (unread treeless : Bool)
    → AreReadUnits (has c) project files unread treeless forests → HaveTrees (has c) project files treeless forests
have_trees one project files forests c product true treeless h = absurd (one.not_both (project_view project) files (has c) product.program Preprocess product.is_program h)
have_trees one project files forests c product false true h = absurd (one.not_both (project_view project) files (has c) product.program Parse product.is_program h)
have_trees one project files forests c product false false h = record { well = refl; trees = h }

module _ (one : ProgramsAreOne) (outcomes : OutcomesAreOne) (only : TreesAreOne) (tied_law : OccurrencesAreTied) (seen : TiesAreSeen)
    (project : Project) (files : List PlainFile) (parsed : ParsedUnits) (numbered : List Forest) (told : List ToldUnit) (t : ProjectTies)
    (features : ℕ) (admits : Condition) (model : admits ≡ admitted project.model) (many : features ≡ length project.features.items)
    (model_below : VarsBelow (length project.features.items) (admitted project.model))
    (are_parsed : (c : List Bool) → IsTrue (value (has c) admits) → AreParsed (has c) project files parsed)
    (leaves : (c : List Bool) → IsTrue (value (has c) admits) → HaveLeaves (has c) project parsed)
    (numbers_are : AllZip IsNumbered parsed.forests.items numbered)
    (are_told : (c : List Bool) → Product (project_view project) files c
    → AreTold (has c) project.units.items numbered (names_of_units (present_trees (has c) project.units.items numbered)) told)
    (accepted_below : VarsBelow (length project.features.items) (condition_of t.accepted))
    (ties_below : TiesBelow features t.ties.items)
    (names_below : NamesBelow features t.names.items)
    (accepted : (c : List Bool) → IsOwn features admits c → TellsProgram (not (value (has c) (condition_of t.accepted))) (project_view project) files (has c))
    (ties : (c : List Bool) → IsOwn features admits c → tied_seen (has c) (map plain_tie t.ties.items) ≡ tied_in (has c) parsed.streams.items told)
    (names : (c : List Bool) → IsOwn features admits c → named_seen (has c) (map plain_declared_name t.names.items) ≡ named_in (has c) parsed.streams.items told)
  where
    same_many : length (project_view project).features ≡ features
    same_many = length-map project.features.items string_bytes ∙ sym many

    own : (c : List Bool) → IsAdmitted (project_view project) c → IsOwn features admits c
    own c is = record {
      admitted = ap (value (has c)) model ∙ is.admitted;
      off = λ feature past. is.within feature (subst (λ (n : ℕ). n ≤ feature) (sym same_many) past);
    }

    tie_units : (c : List Bool) (product : Product (project_view project) files c) → TieUnits (names_in product) (tied_in (has c) parsed.streams.items told) (named_in (has c) parsed.streams.items told)
    tie_units c product =
        let is = own c product.admitted in
        let trees = present_trees (has c) project.units.items parsed.forests.items in
        let h = have_trees one project files parsed.forests.items c product (value (has c) (condition_of parsed.unread)) (value (has c) (condition_of parsed.treeless)) (are_parsed c is.admitted) in
        let same : product.is_program.trees ≡ trees
        = trees_are_one outcomes only (project_view project) files (has c) trees product.is_program.trees h.trees product.is_program.are_trees in
        subst (λ (ts : List PlainTree). TieUnits (names_of_units ts) (tied_in (has c) parsed.streams.items told) (named_in (has c) parsed.streams.items told)) (sym same)
        (tied_law (has c) project.units.items parsed.streams.items parsed.forests.items numbered told (leaves c is.admitted h.well) numbers_are (are_told c product))

    ties_tell : (c : List Bool) (product : Product (project_view project) files c) (a b : PlainFileToken) → Ties (tied_tokens_of project t) c a b ↔ IsDeclaredBy (names_in product) a b
    ties_tell c product a b =
        also (seen.ties_are (tied_tokens_of project t) c a b)
        (subst (λ (ts : List TiedPair). Contains ts (tied a b) ↔ IsDeclaredBy (names_in product) a b) (sym (ties c (own c product.admitted))) ((tie_units c product).ties_are a b))

    names_tell : (c : List Bool) (product : Product (project_view project) files c) (token : PlainFileToken) (name : CommonName) → Names (tied_tokens_of project t) c token name ↔ DeclaresName (names_in product) token name
    names_tell c product token name =
        also (seen.names_are (tied_tokens_of project t) c token name)
        (subst (λ (ns : List NamedToken). Contains ns (named token name) ↔ DeclaresName (names_in product) token name) (sym (names c (own c product.admitted))) ((tie_units c product).names_are token name))

    accepted_tells : (c : List Bool) → IsAdmitted (project_view project) c → (b : Bool) → TellsProgram (not b) (project_view project) files (has c) → IsTrue b ↔ Product (project_view project) files c
    accepted_tells c is true h = (λ x. record { admitted = is; program = h.0; is_program = h.1 }, λ product. refl)
    accepted_tells c is false h = (λ x. absurd cc, λ product. absurd (h product.program product.is_program))

    pub tells_products : TellsProducts (project_view project) files (tied_tokens_of project t)
    tells_products = record {
      model = refl;
      features = record {
        admitted = subst (λ (n : ℕ). VarsBelow n (admitted project.model)) (many_of) model_below;
        accepted = subst (λ (n : ℕ). VarsBelow n (condition_of t.accepted)) (many_of) accepted_below;
        ties = subst (λ (n : ℕ). TiesBelow n t.ties.items) (sym same_many) ties_below;
        names = subst (λ (n : ℕ). NamesBelow n t.names.items) (sym same_many) names_below;
      };
      accepted = λ c is. accepted_tells c is (value (has c) (condition_of t.accepted)) (accepted c (own c is));
      ties = ties_tell;
      names = names_tell;
    }
      where
        many_of : length project.features.items ≡ length (project_view project).features
        many_of = sym (length-map project.features.items string_bytes)
