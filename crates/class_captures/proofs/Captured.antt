-- What is told of trees with the new name and of those before tells whether a name is captured.
use Rattle.std.proofs.Common.{◌≡◌, ℕ, Bool, true, false, ◌||◌, List, map, length, refl, sym, ap, subst, ◌∙◌, inl, inr}
use Rattle.std.specs.Prelude.{◌⊎◌, ◌↔◌, IsTrue}
use Rattle.std.specs.List.{AllZip}
use Rattle.std.proofs.lemmas.Slice.Zip.{AllZip-long}
use Rattle.c_text.specs.declared.origin.FileToken.{FileToken}
use Rattle.c_tree.specs.Trees.{PlainTree}
use Rattle.choice_trees.specs.declared.trees.Forest.{Forest}
use Rattle.choice_trees.specs.Leaves.{LeavesAreSpelled}
use Rattle.core_meaning.specs.Checking.{Binding, fine}
use Rattle.core_meaning.specs.Program.{PlainProgram}
use Rattle.core_meaning.specs.Linking.{Units, judged_program, IsElaborated}
use Rattle.bindings.specs.Laws.{AreWritten}
use Rattle.project_file.specs.declared.projects.Unit.{Unit}
use Rattle.cond_scopes.specs.Units.{present_trees}
use Rattle.cond_pairings.specs.Pairs.{pairs_seen}
use Rattle.cond_types.specs.Elaborated.{TellsElaborated}
use Rattle.program_occurrences.specs.Occurrences.{names_of_units}
use Rattle.program_occurrences.specs.Links.{AreBoundAlike}
use Rattle.told_occurrences.specs.declared.told.ToldUnit.{ToldUnit}
use Rattle.told_occurrences.specs.Told.{HaveSame}
use Rattle.told_occurrences.specs.Units.{AreTold}
use Rattle.told_units.specs.Units.{UnitsTellNumbers}
use Rattle.told_ties.specs.Ties.{NamedToken}
use Rattle.changed_forests.specs.Renamed.{renamed_tree, IsRenamed}
use Rattle.changed_forests.specs.Laws.{ChangesAreSeen, RenamingsAreSeen}
use Rattle.bound_otherwise.specs.Otherwise.{AreToldAlike, TellsOtherwise}
use Rattle.told_captures.specs.Laws.{CapturesAreTold}
use Rattle.class_captures.specs.Links.{LinksOtherwise}
use Rattle.class_captures.specs.Captures.{AreCaptured, not_elaborated, bound_otherwise, TellsCaptures, AreWellTold, MayGetName}
use Rattle.class_captures.proofs.Numbers.{trees-renamed, units-tell, present_leaves, are-leaves}
use Rattle.class_captures.proofs.Pairs.{told-alike}
use Rattle.class_captures.proofs.Told.{contradiction, links-told}

-- told otherwise, or linked otherwise
pub either-told :
    (on : ℕ → Bool) (before after : List ToldUnit) (class : List FileToken) (old new : List ℕ) (seen : List NamedToken) (bound linked : Bool) → TellsOtherwise bound on before after
    → IsTrue linked ↔ LinksOtherwise class old new seen → TellsCaptures (bound || linked) on before after class old new seen
either-told on before after class old new seen true linked tells links = inl tells
either-told on before after class old new seen false true tells links = inr (links.0 refl)
either-told on before after class old new seen false false tells links = (tells, λ h. contradiction (links.1 h))

module _ (changes : ChangesAreSeen) (renamings : RenamingsAreSeen) (spelled : LeavesAreSpelled) (captures : CapturesAreTold) (class : List FileToken) (old new : List ℕ) (on : ℕ → Bool)
    (units : List Unit) (forests renamed : List Forest) (are : AllZip (IsRenamed class new) forests renamed) (before after : List ToldUnit) (seen : List NamedToken)
    (known : AreWellTold on units forests before seen) (may : MayGetName class old new (present_trees on units forests)) where
  abbrev trees : List PlainTree
  trees = present_trees on units forests

  abbrev others : List PlainTree
  others = map (renamed_tree class new) trees

  abbrev IsToldAfter : List PlainTree → Type 0
  IsToldAfter trees = (linked : Units) (bindings : List Binding) → judged_program trees ≡ fine linked bindings → AreTold on units renamed (names_of_units trees) after

  module _ (told_after : IsToldAfter others) (program : PlainProgram) (elaborated : IsElaborated others program) where
    bound-so : AreBoundAlike (names_of_units trees) (names_of_units others) ↔ (AreToldAlike on before after × (LinksOtherwise class old new seen → ⊥))
    bound-so =
        let whole = captures class old new (present_leaves on units forests) trees (are-leaves spelled on units forests known.numbers) known.written may.written known.linked elaborated.linked
        known.bindings elaborated.bindings known.judged elaborated.judged may.one_name may.together in
        let alike = told-alike changes class new on known.are_told (told_after elaborated.linked elaborated.bindings elaborated.judged) are in
        let links = links-told class new (names_of_units trees) known.are_names seen known.names old in (
          λ h. let both = whole.0 h in (alike.1 both.0, λ l. both.1 (links.0 l)),
          λ h. whole.1 (alike.0 h.0, λ l. h.1 (links.1 l)),
        )

    captured-so : (told : Bool) → TellsCaptures told on before after class old new seen → IsTrue told ↔ AreCaptured class new trees
    captured-so true tells = (λ h. bound_otherwise program elaborated (λ alike. differs tells (bound-so.0 alike)), λ h. refl)
      where
        differs : (AreToldAlike on before after → ⊥) ⊎ LinksOtherwise class old new seen → AreToldAlike on before after × (LinksOtherwise class old new seen → ⊥) → ⊥
        differs (inl otherwise) alike = otherwise alike.0
        differs (inr linked) alike = alike.1 linked
    captured-so false tells = (λ h. contradiction h, λ h. absurd (isn't h))
      where
        isn't : AreCaptured class new trees → ⊥
        isn't (not_elaborated none) = none program elaborated
        isn't (bound_otherwise other is differ) = differ (bound-so.1 tells)

  by-elaboration :
      (broken told : Bool) → TellsElaborated broken others → IsToldAfter others → TellsCaptures told on before after class old new seen
      → IsTrue (broken || told) ↔ AreCaptured class new trees
  by-elaboration true told none after tells = (λ h. not_elaborated none, λ h. refl)
  by-elaboration false told one after tells = captured-so after one.0 one.1 told tells

  captured :
      (broken told : Bool) → TellsElaborated broken (present_trees on units renamed) → IsToldAfter (present_trees on units renamed)
      → TellsCaptures told on before after class old new seen → IsTrue (broken || told) ↔ AreCaptured class new trees
  captured broken told elaborated told_after tells =
      let same = trees-renamed class new renamings on units forests renamed are in
      by-elaboration broken told (subst (λ (ts : List PlainTree). TellsElaborated broken ts) same elaborated) (subst IsToldAfter same told_after) tells

  -- with the new name they are written well, and tell their numbers
  written-after : AreWritten (present_trees on units renamed)
  written-after = subst AreWritten (sym (trees-renamed class new renamings on units forests renamed are)) may.written

  numbers-after : UnitsTellNumbers on units renamed
  numbers-after = units-tell class new changes on units forests renamed are known.numbers

  -- ---- as it is found of these trees

  abbrev IsElaboratedIf : Bool → List Forest → Type 0
  IsElaboratedIf broken shown = AreWritten (present_trees on units shown) → TellsElaborated broken (present_trees on units shown)

  abbrev IsToldIf : List Forest → Type 0
  IsToldIf shown =
      (linked : Units) (bindings : List Binding) → AreWritten (present_trees on units shown) → judged_program (present_trees on units shown) ≡ fine linked bindings → UnitsTellNumbers on units shown
      → AreTold on units shown (names_of_units (present_trees on units shown)) after

  pub captured-as-found :
      (shown : List Forest) (told_again : List ToldUnit) → shown ≡ renamed → told_again ≡ after → (broken told whole : Bool) → whole ≡ (broken || told)
      → IsElaboratedIf broken shown → IsToldIf shown → TellsCaptures told on before told_again class old new seen → IsTrue whole ↔ AreCaptured class new trees
  captured-as-found shown told_again s u broken told whole is elaborated told_if tells =
      let found = subst (IsElaboratedIf broken) s elaborated in
      let told_after = subst IsToldIf s told_if in
      let captures = subst (λ (us : List ToldUnit). TellsCaptures told on before us class old new seen) u tells in
      subst (λ (b : Bool). IsTrue b ↔ AreCaptured class new trees) (sym is)
      (captured broken told (found written-after) (λ linked bindings judged. told_after linked bindings written-after judged numbers-after) captures)

-- ---- lists of units

pub as-long : (class : List FileToken) (new : List ℕ) (forests renamed shown : List Forest) (n : ℕ) → AllZip (IsRenamed class new) forests renamed → shown ≡ renamed → length forests ≡ n → length shown ≡ n
as-long class new forests renamed shown n are same long = ap (λ (fs : List Forest). length fs) same ∙ (AllZip-long (IsRenamed class new) forests renamed are ∙ long)

pub as-many : (on : ℕ → Bool) (before after : List ToldUnit) → AreToldAlike on before after → length before ≡ length after
as-many on before after h =
    sym (AllZip-long (λ (a : ToldUnit). λ (b : ToldUnit). HaveSame (pairs_seen on a.pairs.items) (pairs_seen on b.pairs.items)) before after h)
