-- What `rename` asks and does is the same for all readings of a project file.
use Rattle.std.proofs.Common.{◌≡◌, ℕ, Bool, List, subst}
use Rattle.text_edits.specs.Files.{PlainFile}
use Rattle.project_file.specs.Projects.{PlainProject}
use Rattle.named_classes.specs.Classes.{NamedClass, Finds, IsNamedClass}
use Rattle.named_classes.specs.Laws.{NamedClassesAreOne}
use Rattle.alike_classes.specs.Laws.{PreconditionsAreAlike, NamedClassesAreAlike}
use Rattle.project_refactorings.specs.Lawful.{AreReadings, IsLawful}
use Rattle.rename_words.specs.Words.{RenameQuery}
use Rattle.rename_words.specs.Laws.{AsksAreOne, FitsAreOne, FitsAreAlike}
use Rattle.command_rename.specs.Rename.{renaming, renaming_for}

-- the laws that it follows from
pub record DecidingLaws : Type 0 where
  pub asks_one : AsksAreOne
  pub fits_one : FitsAreOne
  pub fits_alike : FitsAreAlike
  pub classes_one : NamedClassesAreOne
  pub classes_alike : NamedClassesAreAlike
  pub preconditions_alike : PreconditionsAreAlike

module _ (laws : DecidingLaws) where
  module _ (q : RenameQuery) (a b : PlainProject) (x y : ℕ) (are : AreReadings renaming q a b x y) (sources : List PlainFile) where
    -- the words name the same file of both
    same-file : x ≡ y
    same-file = laws.fits_one q b x y ((laws.fits_alike q a b x are.alike).0 are.one) are.other

    finds : (c : List Bool) → Finds a sources x q.offset c → Finds b sources y q.offset c
    finds c h = subst (λ (file : ℕ). Finds b sources file q.offset c) same-file (((laws.classes_alike a b sources are.alike).finds x q.offset c).0 h)

    one-class : (t u : NamedClass) → IsNamedClass a sources x q.offset t → IsNamedClass b sources y q.offset u → t ≡ u
    one-class t u h k =
        laws.classes_one b sources y q.offset t u
        (subst (λ (file : ℕ). IsNamedClass b sources file q.offset t) same-file (((laws.classes_alike a b sources are.alike).named x q.offset t).0 h)) k

  pub renaming-lawful : IsLawful renaming
  renaming-lawful = record {
    one_query = laws.asks_one;
    fits_alike = λ q a b x alike h. (x, (laws.fits_alike q a b x alike).0 h);
    finds_alike = finds;
    one_task = one-class;
    breaks_alike = λ q a b x y are sources class t u name c. ((laws.preconditions_alike a b sources are.alike).broken_by_name class.place (renaming_for q sources class) name c).0;
  }
