-- A renaming that was written keeps the products of the project that was read.
use Rattle.std.proofs.Common.{◌≡◌, ℕ, suc, List, [], ◌∷◌, ◌++◌, map, length, All, Some, Option, refl, sym, ◌∙◌, ap, subst, arith}
use Rattle.std.proofs.lemmas.List.{map-append, length-map}
use Rattle.std.proofs.lemmas.List.Elements.{All-nil, All-cons, All-head, All-tail}
use Rattle.text_edits.specs.Files.{PlainFile, Lookup}
use Rattle.folder_names.specs.Folders.{in_folder}
use Rattle.project_file.specs.Projects.{PlainProject, IsProject, AllDiffer}
use Rattle.project_file.specs.Laws.{Alike, ProjectsAreAlike}
use Rattle.project_sizes.specs.Laws.{ProjectsHaveFewFiles}
use Rattle.project_store.specs.Reads.{names_of}
use Rattle.command_promises.specs.Courses.{Saying, says}
use Rattle.command_promises.specs.Writing.{PutsAll}
use Rattle.command_projects.specs.Least.{Nowhere}
use Rattle.command_projects.proofs.Decided.{names_alike}
use Rattle.project_refactorings.specs.Refactorings.{files_in}
use Rattle.renamings.specs.Renamings.{Renaming, renamed_files}
use Rattle.renamed_sources.specs.Projects.{HasItsFiles}
use Rattle.reference_classes.specs.Preconditions.{broken, in_macro_body, macro_name, fixed, capture, precondition_name, preconditions, IsFound, Breaks, BreaksNamed}
use Rattle.reference_classes.specs.Renamed.{RenamesClass}
use Rattle.class_edits.specs.Listed.{StandApart}
use Rattle.class_edits.specs.Laws.{ListedStandApart, ListedClassesAreRenamed}
use Rattle.named_classes.specs.Classes.{NamedClass}
use Rattle.renamed_classes.specs.Renaming.{NothingStandsInTheWay, MayBeMade}
use Rattle.renamed_classes.specs.Laws.{ClassesStandOnTextLines, ClassesFitFiles}
use Rattle.renamed_classes.proofs.Told.{on-text-lines}
use Rattle.untouched_classes.specs.Laws.{UntouchedClassesKeepOutcomes}
use Rattle.kept_products.specs.Laws.{RenamingsKeepProducts}
use Rattle.alike_classes.specs.Laws.{ClassesAreAlike, PreconditionsAreAlike}
use Rattle.alike_classes.proofs.Projects.{nowhere-alike, somewhere-alike}
use Rattle.rename_op.proofs.Named.{tokens-apart}
use Rattle.rename_words.specs.Words.{RenameQuery, IsGood}
use Rattle.rename_words.specs.Laws.{FitsAreAlike}
use Rattle.command_rename.specs.Rename.{renaming, renaming_for}
use Rattle.command_rename.specs.Products.{HoldsProject, KeepsProducts, ProductsAreKept}
use Rattle.command_rename.specs.Laws.{RenamingsThatAreWrittenKeepProducts}
use Rattle.command_rename.proofs.Concluding.{its-files}
use Rattle.command_rename.proofs.Refactored.{SaysResult, says_result}
use Rattle.command_rename.proofs.Standing.{stand_in_folder, stays_outside, held_are_one}
use Rattle.command_rename.proofs.Sources.{all_differ}

-- the laws that it follows from
pub record KeptLaws : Type 0 where
  pub few : ProjectsHaveFewFiles
  pub alike : ProjectsAreAlike
  pub words_alike : FitsAreAlike
  pub classes_alike : ClassesAreAlike
  pub preconditions_alike : PreconditionsAreAlike
  pub stand : ClassesStandOnTextLines
  pub apart : ListedStandApart
  pub renamed : ListedClassesAreRenamed
  pub fit : ClassesFitFiles
  pub products : RenamingsKeepProducts
  pub outcomes : UntouchedClassesKeepOutcomes

some_is : (x y : List ℕ) → ◌≡◌ {A = Option (List ℕ)} (Some x) (Some y) → x ≡ y
some_is x y e = cc

renamed_names : (r : Renaming) (number : ℕ) (files : List PlainFile) → map (λ (f : PlainFile). f.name) (renamed_files r number files) ≡ map (λ (f : PlainFile). f.name) files
renamed_names r number [] = refl
renamed_names r number (f ∷ files) = ap (λ names. f.name ∷ names) (renamed_names r (suc number) files)

-- where none of the names of preconditions is broken, none of them is
none_broken : (project : PlainProject) (files : List PlainFile) (class : NamedClass) (r : Renaming)
    → All (λ name. Nowhere project (BreaksNamed project files class.place r name)) (map precondition_name preconditions) → NothingStandsInTheWay project files class.place r
none_broken project files class r none broken c admitted b = none 0 [] (omega arith) c admitted (record { precondition = broken; named = refl; breaks = b })
none_broken project files class r none in_macro_body c admitted b = none 1 [] (omega arith) c admitted (record { precondition = in_macro_body; named = refl; breaks = b })
none_broken project files class r none macro_name c admitted b = none 2 [] (omega arith) c admitted (record { precondition = macro_name; named = refl; breaks = b })
none_broken project files class r none fixed c admitted b = none 3 [] (omega arith) c admitted (record { precondition = fixed; named = refl; breaks = b })
none_broken project files class r none capture c admitted b = none 4 [] (omega arith) c admitted (record { precondition = capture; named = refl; breaks = b })

module _ (laws : KeptLaws) (q : RenameQuery) (good : IsGood q) (before : Lookup) (what : Saying) (said : SaysResult renaming q before what) where
  abbrev r : Renaming
  r = renaming_for q said.sources said.task

  has_files : HasItsFiles said.project said.sources
  has_files =
      its-files laws.few q.project said.source.bytes said.project said.sources said.is_project
      (sym (length-map said.sources (λ (f : PlainFile). f.name)) ∙ ap length said.names)

  unhindered : NothingStandsInTheWay said.project said.sources said.task.place r
  unhindered = none_broken said.project said.sources said.task r said.unhindered

  apart : StandApart said.sources said.task.tokens
  apart =
      tokens-apart laws.stand laws.apart said.project said.sources said.task.place said.task.tokens r has_files said.is_task.found (unhindered in_macro_body) said.is_task.members said.is_task.in_order

  renames : RenamesClass said.project said.sources said.task.place q.new r
  renames =
      laws.renamed said.project said.sources said.task.place said.task.tokens said.task.old q.new apart (λ token below. said.is_task.members token) said.is_task.written

  may : MayBeMade said.project said.sources said.task.place q.new r
  may = record { has_files = has_files; renames = renames; found = said.is_task.found; good = good.new; unhindered = unhindered }

  -- the same of another reading of the project file
  module _ (project : PlainProject) (alike : Alike said.project project) where
    may_alike : MayBeMade project said.sources said.task.place q.new r
    may_alike =
        let classes = laws.classes_alike said.project project said.sources alike in
        let same = laws.preconditions_alike said.project project said.sources alike in
        let place = said.task.place in
        record {
          has_files = classes.files_are.0 may.has_files;
          renames = (classes.renamings place q.new r).0 may.renames;
          found = somewhere-alike said.project project alike (IsFound said.project said.sources place) (IsFound project said.sources place) (λ c. (same.found place c).0) may.found;
          good = may.good;
          unhindered = λ precondition.
              nowhere-alike said.project project alike (Breaks said.project said.sources place r precondition) (Breaks project said.sources place r precondition)
              (λ c. (same.broken place r precondition c).1) (may.unhindered precondition);
        }

    keeps : KeepsProducts q project said.sources (renamed_files r 0 said.sources)
    keeps =
        let place = said.task.place in
        let fits = laws.fit project said.sources place q.new r (on-text-lines project said.sources place q.new r may_alike) in
        record {
          number = said.fit;
          fits = (laws.words_alike q said.project project said.fit alike).0 said.fits;
          place = place;
          there = said.is_task.holds;
          r = r;
          renames = may_alike.renames;
          are_renamed = refl;
          programs = λ c admitted p. laws.products.programs project said.sources place q.new r c p may_alike admitted;
          refusals = λ c admitted stage. laws.products.refusals project said.sources place q.new r c stage may_alike admitted;
          untouched = λ c no unit present outcome is.
              laws.outcomes project said.sources place q.new r c unit outcome may_alike.has_files fits may_alike.renames no present is;
        }

  abbrev renamed : List PlainFile
  renamed = renamed_files r 0 said.sources

  abbrev written : List PlainFile
  written = renamed ++ said.source ∷ []

  module _ (after : Lookup) (puts : PutsAll before (files_in q.out written) after) where
    written_names : map (λ (f : PlainFile). f.name) written ≡ names_of said.project ++ q.project ∷ []
    written_names =
        map-append (λ (f : PlainFile). f.name) renamed (said.source ∷ [])
        ∙ (ap (λ names. names ++ said.source.name ∷ []) (renamed_names r 0 said.sources ∙ said.names) ∙ ap (λ name. names_of said.project ++ name ∷ []) said.source_name)

    all_stand : All (λ (f : PlainFile). after (in_folder q.out f.name) ≡ Some f.bytes) written
    all_stand =
        stand_in_folder before after q.out written puts
        (subst AllDiffer (sym written_names) (all_differ q.project said.source.bytes said.project said.is_project))

    front : (P : PlainFile → Type 0) (xs ys : List PlainFile) → All P (xs ++ ys) → All P xs
    front P [] ys h = All-nil P
    front P (x ∷ xs) ys h = All-cons P x xs (All-head P x (xs ++ ys) h) (front P xs ys (All-tail P x (xs ++ ys) h))

    end : (P : PlainFile → Type 0) (xs ys : List PlainFile) → All P (xs ++ ys) → All P ys
    end P [] ys h = h
    end P (x ∷ xs) ys h = end P xs ys (All-tail P x (xs ++ ys) h)

    stood : HoldsProject before (λ name. name) q.project said.source.bytes said.project said.sources
    stood = record { text = ap before (sym said.source_name) ∙ said.text; says = said.is_project; names = said.names; stand = said.stand }

    stands : HoldsProject after (in_folder q.out) q.project said.source.bytes said.project renamed
    stands =
        let Stands : PlainFile → Type 0 = λ f. after (in_folder q.out f.name) ≡ Some f.bytes in
        record {
          text = ap (λ name. after (in_folder q.out name)) (sym said.source_name) ∙ All-head Stands said.source [] (end Stands renamed (said.source ∷ []) all_stand);
          says = said.is_project;
          names = renamed_names r 0 said.sources ∙ said.names;
          stand = front Stands renamed (said.source ∷ []) all_stand;
        }

    kept : ProductsAreKept q before after
    kept = record {
      source = said.source.bytes;
      project = said.project;
      files = said.sources;
      renamed = renamed;
      stood = stood;
      stands = stands;
      elsewhere = λ name outside. stays_outside before after q.out written name puts outside;
      kept = by;
    } where
      by : (source : List ℕ) (project : PlainProject) (files others : List PlainFile) → HoldsProject before (λ name. name) q.project source project files
          → HoldsProject after (in_folder q.out) q.project source project others → KeepsProducts q project files others
      by source project files others was is =
          let text : said.source.bytes ≡ source = some_is said.source.bytes source (sym stood.text ∙ was.text) in
          let alike : Alike said.project project = laws.alike q.project source said.project project (subst (λ bytes. IsProject q.project bytes said.project) text said.is_project) was.says in
          let names : names_of said.project ≡ names_of project = names_alike said.project project alike in
          let same : said.sources ≡ files = held_are_one before (λ name. name) said.sources files (said.names ∙ (names ∙ sym was.names)) stood.stand was.stand in
          let same_renamed : renamed ≡ others = held_are_one after (in_folder q.out) renamed others (stands.names ∙ (names ∙ sym is.names)) stands.stand is.stand in
          subst (λ fs. KeepsProducts q project files fs) same_renamed (subst (λ fs. KeepsProducts q project fs renamed) same (keeps project alike))

pub products_kept : KeptLaws → RenamingsThatAreWrittenKeepProducts
products_kept laws q before after what good comes zero_is puts =
    let said = says_result renaming q laws.alike before what comes zero_is in
    kept laws q good before what said after (subst (λ (x : Saying). PutsAll before x.written after) said.is_result puts)
