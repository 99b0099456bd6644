-- What is captured in the trees of a configuration is what the renaming of the files captures there.
use Rattle.std.proofs.Common.{◌≡◌, List, Bool, [], ◌∷◌, IsTrue, sym, subst}
use Rattle.std.specs.Prelude.{◌↔◌, map}
use Rattle.std.proofs.lemmas.List.Elements.{All-from_recursion}
use Rattle.std.specs.List.{AllByRecursion}
use Rattle.cond_formula.specs.Features.{has}
use Rattle.cond_formula.specs.Conditions.{Condition, value}
use Rattle.c_text.specs.Token.{PlainToken}
use Rattle.moved_programs.specs.Trees.{tokens_of}
use Rattle.command_projects.specs.Least.{IsAdmitted, Nowhere}
use Rattle.program_occurrences.specs.Classes.{PlainFileToken}
use Rattle.reference_classes.specs.Preconditions.{broken, in_macro_body, macro_name, fixed, capture}
use Rattle.renamed_projects.specs.Projects.{MayBeRenamedIn}
use Rattle.renamed_classes.specs.Laws.{ClassesMayBeRenamed}
use Rattle.told_ties.specs.Ties.{named_seen}
use Rattle.tied_tokens.specs.Ties.{plain_declared_name}
use Rattle.class_captures.specs.Captures.{AreCaptured, AreWellTold, MayGetName}
use Rattle.rename_op.specs.Analysed.{numbered_trees, AnalysesHaveTrees, AnalysesTellWell, ClassesMayGetNames, IdentifiersAreRenamed}
use Rattle.rename_op.specs.Captures.{IsRenamedByBoth, CapturesAreOfTrees}
use Rattle.rename_op.specs.Asked.{IsAsked, NoneBefore, BreaksIn, TellsCause, project_of, files_of, renaming}
use Rattle.rename_op.specs.declared.asked.Asked.{Asked}
use Rattle.rename_op.proofs.Named.{NamedLaws, renames-class, on-text-lines}
use Rattle.rename_op.proofs.Told.{product-of}

-- the laws that it follows from
pub record CaptureLaws : Type 0 where
  pub named : NamedLaws
  pub may_be : ClassesMayBeRenamed
  pub have_trees : AnalysesHaveTrees
  pub tell_well : AnalysesTellWell
  pub may_get : ClassesMayGetNames
  pub renamed : IdentifiersAreRenamed
  pub captures : CapturesAreOfTrees

-- what the test of captures says in a configuration
abbrev pub TellsCaptured : Asked → List Bool → Condition → Type 0
TellsCaptured asked c condition =
    AreWellTold (has c) asked.project.now.units.items asked.analysis.now.told.numbered.items asked.analysis.now.told.units.items
    (named_seen (has c) (map plain_declared_name asked.analysis.now.ties.names.items))
    → MayGetName asked.class.now asked.old.now asked.new.now (numbered_trees asked.project.now asked.analysis.now c)
    → IsTrue (value (has c) condition) ↔ AreCaptured asked.class.now asked.new.now (numbered_trees asked.project.now asked.analysis.now c)

pub carried :
    {A B C D : Type 0} (P : A → B → C → D → Type 0) {a a' : A} {b b' : B} {k k' : C} {d d' : D} → a ≡ a' → b ≡ b' → k ≡ k' → d ≡ d' → P a b k d → P a' b' k' d'
carried P {a} {a'} {b} {b'} {k} {k'} {d} {d'} ea eb ek ed h =
    subst (λ x. P a' b' k' x) ed (subst (λ x. P a' b' x d) ek (subst (λ x. P a' x k d) eb (subst (λ x. P x b k d) ea h)))

all-of : {X : Type 0} (P : X → Type 0) (xs : List X) → ((x : X) → P x) → AllByRecursion P xs
all-of P [] h = tt
all-of P (x ∷ xs) h = (h x, all-of P xs h)

module _ (laws : CaptureLaws) (asked : Asked) (place : PlainFileToken) (is : IsAsked asked place) (before : NoneBefore asked place capture) where
  unbroken : Nowhere (project_of asked) (BreaksIn asked place broken)
  unbroken = before.0

  in_text : Nowhere (project_of asked) (BreaksIn asked place in_macro_body)
  in_text = before.1.0

  no_macros : Nowhere (project_of asked) (BreaksIn asked place macro_name)
  no_macros = before.1.1.0

  unfixed : Nowhere (project_of asked) (BreaksIn asked place fixed)
  unfixed = before.1.1.1.0

  just : (token : PlainToken) → IsRenamedByBoth asked.class.now (renaming asked) token
  just token = laws.renamed (project_of asked) (files_of asked) is.has_files place asked.class.now asked.new.now (renaming asked) is.members
      (renames-class laws.named asked place is in_text) is.found in_text unfixed token

  pub capture-told : (condition : Condition) → ((c : List Bool) → IsAdmitted (project_of asked) c → TellsCaptured asked c condition) → TellsCause asked place capture condition
  capture-told condition captured c admitted touched =
      let product = product-of asked place is unbroken c admitted touched in
      let r = renaming asked in
      let renames = renames-class laws.named asked place is in_text in
      let may_be : MayBeRenamedIn (project_of asked) (files_of asked) (has c) r = laws.may_be (project_of asked) (files_of asked) place asked.new.now r c (on-text-lines laws.named asked place is in_text) no_macros admitted in
      let well = laws.tell_well asked.project.now (files_of asked) asked.analysis.now is.has_files is.analysed c product in
      let may_get = laws.may_get asked.project.now (files_of asked) asked.analysis.now is.has_files is.analysed place asked.class.now asked.new.now r is.members renames is.good is.found in_text c product in
      let tells = captured c admitted well may_get in
      let in_files = laws.captures (project_of asked) (files_of asked) r c asked.class.now (numbered_trees asked.project.now asked.analysis.now c) product is.has_files may_be
      (sym (laws.have_trees asked.project.now (files_of asked) asked.analysis.now is.analysed c product))
      (All-from_recursion (IsRenamedByBoth asked.class.now r) (tokens_of product.is_program.trees) (all-of (IsRenamedByBoth asked.class.now r) (tokens_of product.is_program.trees) just)) in
      (λ h. in_files.0 (tells.0 h), λ x. tells.1 (in_files.1 x))
