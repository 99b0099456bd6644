-- Projects that are alike have the same products, so the same classes.
use Rattle.std.proofs.Common.{◌≡◌, ℕ, Bool, List, length, refl, subst}
use Rattle.std.specs.Prelude.{◌↔◌}
use Rattle.std.specs.List.{AllZip}
use Rattle.text_edits.specs.Files.{PlainFile}
use Rattle.cond_formula.specs.Features.{has}
use Rattle.c_text.specs.Token.{PlainToken}
use Rattle.c_text.specs.Preprocessing.{gives, IsPreprocessed}
use Rattle.c_tree.specs.Trees.{PlainTree}
use Rattle.project_file.specs.Projects.{PlainProject}
use Rattle.project_file.specs.Laws.{Alike}
use Rattle.project_program.specs.Programs.{AreTrees}
use Rattle.command_projects.proofs.Least.{admitted_alike}
use Rattle.command_projects.proofs.Decided.{alike_back, names_alike}
use Rattle.renamings.specs.Renamings.{Renaming}
use Rattle.program_occurrences.specs.Occurrences.{UnitNames}
use Rattle.program_occurrences.specs.Classes.{PlainFileToken, IsBrought, itself, brought}
use Rattle.reference_classes.specs.Products.{Product, AreOfProduct, InClass}
use Rattle.reference_classes.specs.Renamed.{RenamesClass}
use Rattle.renamed_sources.specs.Projects.{HasItsFiles}
use Rattle.class_touches.specs.Laws.{IsListOf}
use Rattle.alike_classes.specs.Laws.{HasProduct, ClassesAreAlike}
use Rattle.alike_classes.proofs.Projects.{seen-alike}

-- what products bring along, others do of which these are some
brought-along :
    {AreUnits AreOthers : List UnitNames → Type 0} {place token : PlainFileToken} → ((units : List UnitNames) → AreUnits units → AreOthers units) → IsBrought AreUnits place token
    → IsBrought AreOthers place token
brought-along there itself = itself
brought-along there (brought units are inner brings) = brought units (there units are) (brought-along there inner) brings

module _ (a b : PlainProject) (alike : Alike a b) (files : List PlainFile) where
  pub trees-alike : (on : ℕ → Bool) (trees : List PlainTree) → AreTrees a files on trees → AreTrees b files on trees
  trees-alike on trees are = record {
    tokens = are.tokens;
    preprocessed = seen-alike a b alike files on (λ sources file units. AllZip (λ (unit : ℕ) (tokens : List PlainToken). IsPreprocessed sources (file unit) (gives tokens)) units are.tokens) are.preprocessed;
    parsed = are.parsed;
  }

  -- it has the same trees, so the same names
  abbrev pub product-alike : (c : List Bool) → Product a files c → Product b files c
  product-alike c product = record {
    admitted = admitted_alike a b alike c product.admitted;
    program = product.program;
    is_program = record {
      trees = product.is_program.trees;
      are_trees = trees-alike (has c) product.is_program.trees product.is_program.are_trees;
      elaborated = product.is_program.elaborated;
    };
  }

  has-product : (c : List Bool) (product : Product a files c) → HasProduct product b
  has-product c product = record { of_other = product-alike c product; program = refl; names = refl }

  names-there : (units : List UnitNames) → AreOfProduct a files units → AreOfProduct b files units
  names-there units are = record {
    configuration = are.configuration;
    product = product-alike are.configuration are.product;
    same = are.same;
  }

  pub class-there : (place token : PlainFileToken) → InClass a files place token → InClass b files place token
  class-there place token member = brought-along names-there member

module _ (a b : PlainProject) (alike : Alike a b) (files : List PlainFile) where
  pub class-both : (place token : PlainFileToken) → InClass a files place token ↔ InClass b files place token
  class-both place token = (class-there a b alike files place token, class-there b a (alike_back a b alike) files place token)

  pub list-there : (place : PlainFileToken) (tokens : List PlainFileToken) → IsListOf a files place tokens → IsListOf b files place tokens
  list-there place tokens listed token =
      let class = class-both place token in (λ among. class.0 ((listed token).0 among), λ member. (listed token).1 (class.1 member))

  renaming-there : (place : PlainFileToken) (new : List ℕ) (r : Renaming) → RenamesClass a files place new r → RenamesClass b files place new r
  renaming-there place new r h = record {
    old_name = h.old_name;
    new_name = h.new_name;
    members = λ token below. let class = class-both place token in (λ renamed. class.0 ((h.members token below).0 renamed), λ member. (h.members token below).1 (class.1 member));
    ascending = h.ascending;
    elsewhere = h.elsewhere;
  }

  files-there : HasItsFiles a files → HasItsFiles b files
  files-there h = record { one_each = subst (λ names. length files ≡ length names) (names_alike a b alike) h.one_each; few = h.few }

pub classes-alike : ClassesAreAlike
classes-alike a b files alike =
    let back = alike_back a b alike in
    record {
      products = has-product a b alike files;
      names = λ units. (names-there a b alike files units, names-there b a back files units);
      classes = class-both a b alike files;
      lists = λ place tokens. (list-there a b alike files place tokens, list-there b a back files place tokens);
      renamings = λ place new r. (renaming-there a b alike files place new r, renaming-there b a back files place new r);
      files_are = (files-there a b alike files, files-there b a back files);
    }
