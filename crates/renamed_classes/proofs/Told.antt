-- Identifiers that are bound and linked to the declarations that they had tell which names of file scope correspond.
use Rattle.std.proofs.Common.{◌≡◌, ℕ, suc, Bool, List, [], ◌∷◌, map, Some, ap, sym, subst, inl, inr, arith}
use Rattle.std.specs.Prelude.{Contains, slice_get}
use Rattle.std.specs.List.{AllZip}
use Rattle.text_edits.specs.Files.{PlainFile}
use Rattle.cond_formula.specs.Features.{has}
use Rattle.c_tree.specs.Trees.{PlainTree}
use Rattle.bindings.specs.Judged.{Identified}
use Rattle.project_file.specs.Projects.{PlainProject}
use Rattle.command_projects.specs.Least.{IsAdmitted}
use Rattle.renamings.specs.Renamings.{Renaming, renamed_files}
use Rattle.renamed_units.proofs.Tokens.{In}
use Rattle.renamed_programs.specs.Trees.{SameButNames}
use Rattle.renamed_products.specs.Products.{renamed_all}
use Rattle.unit_outcomes.specs.Laws.{TokensAreSpelt}
use Rattle.program_occurrences.specs.Occurrences.{UnitNames, names_of_units, occurrence_among}
use Rattle.program_occurrences.specs.Links.{bound_numbers, AreBoundAlike}
use Rattle.program_occurrences.specs.Classes.{PlainFileToken}
use Rattle.program_names.specs.Names.{names_at_places, HaveMainAlike}
use Rattle.program_names.specs.Laws.{UnitsOfProgramsBindAlike, NamesAreOneToOne, NamesAreLinkedAlike}
use Rattle.reference_classes.specs.Products.{Product, names_in}
use Rattle.reference_classes.specs.Preconditions.{is_main, IsTouched, in_macro_body, macro_name, fixed}
use Rattle.renamed_sources.specs.Laws.{SourcesAreRenamed}
use Rattle.renamed_projects.specs.Projects.{MayBeRenamedIn, BindNamesAlike}
use Rattle.renamed_projects.specs.Laws.{TouchedProjectsRunAlike}
use Rattle.renamed_classes.specs.Renaming.{RenamesOnTextLines, MayBeMade}
use Rattle.renamed_classes.specs.Laws.{ClassNamesAreFree, ClassesFitFiles, NamesAreNoMacros, ClassesMayBeRenamed, BindingsAreTold}
use Rattle.renamed_classes.proofs.OneName.{product-written}
use Rattle.renamed_classes.proofs.NoMacros.{in-class}
use Rattle.renamed_classes.proofs.MainAlike.{IsNoRenamedMain, units-main-kept}

pub may-be-renamed : ClassesFitFiles → ClassNamesAreFree → NamesAreNoMacros → ClassesMayBeRenamed
may-be-renamed fit free no_macros project files place new r c on free_of_macros admitted = record {
  fits = fit project files place new r on;
  free = free project files place new r on.has_files on.renames on.found on.on_text_lines;
  no_macros = no_macros project files place new r c on.renames free_of_macros admitted;
}

-- what may be made is asked of names on text lines
pub on-text-lines :
    (project : PlainProject) (files : List PlainFile) (place : PlainFileToken) (new : List ℕ) (r : Renaming) → MayBeMade project files place new r
    → RenamesOnTextLines project files place new r
on-text-lines project files place new r may = record {
  has_files = may.has_files;
  renames = may.renames;
  found = may.found;
  good = may.good;
  on_text_lines = may.unhindered in_macro_body;
}

occurs-among : (all some : List Identified) (i : Identified) → In i some → Contains (map (occurrence_among all) some) (occurrence_among all i)
occurs-among all [] i among = absurd among
occurs-among all (first ∷ some) i (inl e) = (0, omega arith, ap (occurrence_among all) (sym e))
occurs-among all (first ∷ some) i (inr among) = let later = occurs-among all some i among in (suc later.0, omega (arith, later.1), later.2)

-- the laws that it follows from
pub record NameLaws : Type 0 where
  pub sources : SourcesAreRenamed
  pub may_be : ClassesMayBeRenamed
  pub spelt : TokensAreSpelt
  pub run_alike : TouchedProjectsRunAlike
  pub bind_alike : UnitsOfProgramsBindAlike
  pub one_to_one : NamesAreOneToOne
  pub linked_alike : NamesAreLinkedAlike

module _ (laws : NameLaws) (project : PlainProject) (files : List PlainFile) (place : PlainFileToken) (new : List ℕ) (r : Renaming) (c : List Bool) (may : MayBeMade project files place new r) (admitted : IsAdmitted project c) (touched : IsTouched project files place c) (before : Product project files c) (after : Product project (renamed_files r 0 files) c) (alike : AreBoundAlike (names_in before) (names_in after)) where
  abbrev trees : List PlainTree
  trees = before.is_program.trees

  abbrev others : List PlainTree
  others = after.is_program.trees

  may-be : MayBeRenamedIn project files (has c) r
  may-be = laws.may_be project files place new r c (on-text-lines project files place new r may) (may.unhindered macro_name) admitted

  are-renamed : others ≡ renamed_all r trees
  are-renamed = laws.run_alike.renamed_trees project files (has c) r before.program after.program may.has_files may-be before.is_program after.is_program

  but-names : AllZip SameButNames trees others
  but-names = laws.run_alike.same_but_names project files (has c) r before.program after.program may.has_files may-be before.is_program after.is_program

  -- else it would be fixed
  no-renamed-main : (number : ℕ) (unit : UnitNames) → slice_get (names_in before) number ≡ Some unit → (i : Identified) → In i unit.identified → IsNoRenamedMain r i
  no-renamed-main number unit e i among renamed text =
      may.unhindered fixed c admitted (record {
        touched = touched;
        stands_in_the_way = record {
          product = before;
          found = record { place = number; unit = unit; is_unit = e; occurrence = occurrence_among unit.identified i; among = occurs-among unit.identified unit.identified i among };
          member = in-class project files place new r may.renames i.token.origin.file i.token.origin.span renamed;
          holds = is_main text;
        };
      })

  main-alike : HaveMainAlike (names_in before) (names_in after)
  main-alike =
      subst (λ (l : List PlainTree). map bound_numbers (names_of_units trees) ≡ map bound_numbers (names_of_units l) → HaveMainAlike (names_of_units trees) (names_of_units l)) (sym are-renamed)
      (λ bound. units-main-kept r may-be.fits.good trees [] [] (subst (λ (l : List PlainTree). AllZip SameButNames trees l) are-renamed but-names) bound no-renamed-main) alike.bound

  names-alike : BindNamesAlike trees others
  names-alike =
      let written = product-written laws.spelt laws.sources may.has_files before in
      let written_after = product-written laws.spelt laws.sources (laws.sources.has_files r project files may.has_files) after in
      let is = before.is_program.elaborated in
      let was = after.is_program.elaborated in
      record {
        named = names_at_places (names_in before) (names_in after);
        bound = laws.bind_alike trees others written written_after but-names is.linked was.linked is.bindings was.bindings is.judged was.judged alike.bound;
        linked = record {
          each = laws.one_to_one trees others alike.bound;
          linked = λ numbers globals units bindings judged.
              laws.linked_alike trees others written written_after is.linked was.linked is.bindings was.bindings is.judged was.judged alike main-alike numbers globals units bindings judged;
        };
      }

pub bindings-told : NameLaws → BindingsAreTold
bindings-told laws project files place new r c may admitted touched before after alike =
    names-alike laws project files place new r c may admitted touched before after alike
