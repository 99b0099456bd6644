-- Where units have the same pairs and no declaration is linked otherwise, all are bound and linked as they were, and only there.
use Rattle.std.proofs.Common.{◌≡◌, ℕ, List, [], ◌∷◌, map, refl, ap, ap₂, sym, subst}
use Rattle.std.specs.Prelude.{◌↔◌}
use Rattle.std.specs.List.{AllZip}
use Rattle.c_text.specs.declared.origin.FileToken.{FileToken}
use Rattle.c_tree.specs.Trees.{PlainTree}
use Rattle.choice_trees.specs.Leaves.{Leaf}
use Rattle.core_meaning.specs.Entities.{Struct}
use Rattle.bindings.specs.Laws.{AreWritten}
use Rattle.cond_scopes.specs.Progress.{numbers}
use Rattle.program_occurrences.specs.Occurrences.{UnitNames, names_of_unit, structs_behind, judged_behind, names_behind, names_of_units}
use Rattle.program_occurrences.specs.Links.{BoundNumber, bound_numbers}
use Rattle.program_occurrences.specs.Laws.{AreJudged, one_more, UnitsOfProgramsAreJudged}
use Rattle.told_occurrences.specs.Told.{pairs_of, HaveSame}
use Rattle.changed_forests.specs.Renamed.{renamed_tree}
use Rattle.linked_otherwise.specs.Laws.{LinksOfRenamedAreTold}
use Rattle.told_captures.specs.Captures.{AreLeavesOf, HaveSamePairs}
use Rattle.told_captures.specs.Laws.{PairsOfRenamedTellBindings, CapturesAreTold}

-- one unit, and those behind it
and-behind :
    (leaves : List Leaf) (all : List (List Leaf)) (unit other : UnitNames) (units others : List UnitNames)
    → HaveSame (pairs_of (numbers leaves) unit) (pairs_of (numbers leaves) other) ↔ (bound_numbers unit ≡ bound_numbers other)
    → HaveSamePairs all units others ↔ (map bound_numbers units ≡ map bound_numbers others)
    → HaveSamePairs (leaves ∷ all) (unit ∷ units) (other ∷ others) ↔ (map bound_numbers (unit ∷ units) ≡ map bound_numbers (other ∷ others))
and-behind leaves all unit other units others here rest = (
  λ h. ap₂ (λ (b : List BoundNumber) (l : List (List BoundNumber)). b ∷ l) (here.0 h.0) (rest.0 h.1),
  λ e.
      let head : bound_numbers unit ≡ bound_numbers other = cc in
      let tail : map bound_numbers units ≡ map bound_numbers others = cc in (here.1 head, rest.1 tail),
)

module _ (pairs : PairsOfRenamedTellBindings) (class : List FileToken) (new : List ℕ) where
  abbrev after : List PlainTree → List PlainTree
  after trees = map (renamed_tree class new) trees

  abbrev AreToldBehind : List (List Leaf) → List PlainTree → List Struct → List Struct → Type 0
  AreToldBehind all trees structs others =
      HaveSamePairs all (names_behind structs trees) (names_behind others (after trees)) ↔ (map bound_numbers (names_behind structs trees) ≡ map bound_numbers (names_behind others (after trees)))

  told-behind :
      (all : List (List Leaf)) (trees : List PlainTree) (structs others : List Struct) → AllZip AreLeavesOf all trees → AreWritten trees → AreWritten (after trees) → AreJudged structs trees → AreJudged others (after trees)
      → AreToldBehind all trees structs others
  told-behind [] [] structs others of w v judged judged_after = (λ h. refl, λ e. tt)
  told-behind [] (tree ∷ trees) structs others of w v judged judged_after = absurd of
  told-behind (leaves ∷ all) [] structs others of w v judged judged_after = absurd of
  told-behind (leaves ∷ all) (tree ∷ trees) structs others of w v (one_more state js is further) (one_more other ks was behind) =
      and-behind leaves all (names_of_unit tree (judged_behind structs tree)) (names_of_unit (renamed_tree class new tree) (judged_behind others (renamed_tree class new tree)))
      (names_behind (structs_behind structs (judged_behind structs tree)) trees) (names_behind (structs_behind others (judged_behind others (renamed_tree class new tree))) (after trees))
      (pairs class new leaves tree of.0 w.0 v.0 structs others state other js ks is was)
      (subst (λ (s : List Struct). AreToldBehind all trees s (structs_behind others (judged_behind others (renamed_tree class new tree)))) (sym (ap (structs_behind structs) is))
      (subst (λ (s : List Struct). AreToldBehind all trees state.scope.structs s) (sym (ap (structs_behind others) was))
      (told-behind all trees state.scope.structs other.scope.structs of.1 w.1 v.1 further behind)))

pub captures-told : UnitsOfProgramsAreJudged → LinksOfRenamedAreTold → PairsOfRenamedTellBindings → CapturesAreTold
captures-told judged_well links pairs class old new all trees of w v linked after_linked bindings behind e f so together =
    let told = told-behind pairs class new all trees [] [] of w v (judged_well trees linked bindings e) (judged_well (map (renamed_tree class new) trees) after_linked behind f) in
    let links_told = λ (bound : map bound_numbers (names_of_units trees) ≡ map bound_numbers (names_of_units (map (renamed_tree class new) trees))).
    links class old new trees w v linked after_linked bindings behind e f bound so together in (
      λ alike. (told.1 alike.bound, (links_told alike.bound).0 alike.linked),
      λ h. let bound = told.0 h.0 in record { bound = bound; linked = (links_told bound).1 h.1 },
    )
