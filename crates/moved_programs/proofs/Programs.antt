-- Units whose tokens stand elsewhere are linked alike, and have the same core program.
use Rattle.std.proofs.Common.{◌≡◌, ℕ, ◌+◌, false, List, [], ◌∷◌, ◌++◌, map, refl, sym, ap, subst, ◌∙◌, length}
use Rattle.std.specs.Prelude.{Option, Some, None}
use Rattle.c_text.specs.Token.{PlainToken}
use Rattle.c_tree.specs.declared.kinds.Kind.TheVariants as k
use Rattle.c_tree.specs.Trees.{PlainTree, PlainTrees, leaf, node, none, more}
use Rattle.core_meaning.specs.declared.refusals.TypeKind.{TypeKind}
use Rattle.core_meaning.specs.Program.{PlainProgram}
use Rattle.core_meaning.specs.Checking.{Checked, fine, refused, broken}
use Rattle.core_meaning.specs.Entities.{Struct, Numbers}
use Rattle.core_meaning.specs.UnitNames.{UnitState, judged_unit}
use Rattle.core_meaning.specs.Linking.{Units, closed, judged_units, texts_in, texts_in_all, texts_of_units, literals_of, different_texts, listed, no_numbers, numbers_in, judged_program, program_of}
use Rattle.moved_programs.specs.Trees.{moved_tree, moved_trees}
use Rattle.moved_programs.proofs.Moves.{elsewhere, moved_checked, Moves, stays}
use Rattle.moved_programs.proofs.Follows.{Follows, as_they_are, told_as, moves_of, same_follows, given_follows}
use Rattle.moved_programs.proofs.Words.{same_bytes}
use Rattle.moved_programs.proofs.Constants.{KeepsPlaces, KeepsKinds, kinds_by_places}
use Rattle.moved_programs.proofs.Items.{unit_follows}

module _ (h : PlainToken → PlainToken) where
  -- ---- texts

  abbrev one_text : Option (List ℕ) → List (List ℕ)
  one_text bytes = elim bytes as (λ x. List (List ℕ)) [ None ↦ [] | Some bytes ↦ bytes ∷ [] ]

  mutual
    same_texts : (tree : PlainTree) → texts_in (moved_tree (elsewhere h) tree) ≡ texts_in tree
    same_texts (leaf token) = refl
    same_texts (node k.Texts parts) = ap one_text (same_bytes h parts)
    same_texts (node kind parts) = all_same_texts parts

    all_same_texts : (parts : PlainTrees) → texts_in_all (moved_trees (elsewhere h) parts) ≡ texts_in_all parts
    all_same_texts none = refl
    all_same_texts (more tree rest) = ap (λ l. l ++ texts_in_all (moved_trees (elsewhere h) rest)) (same_texts tree) ∙ ap (λ l. texts_in tree ++ l) (all_same_texts rest)

  units_texts : (units : List PlainTree) → texts_of_units (map (moved_tree (elsewhere h)) units) ≡ texts_of_units units
  units_texts [] = refl
  units_texts (tree ∷ rest) = ap (λ l. l ++ texts_of_units (map (moved_tree (elsewhere h)) rest)) (same_texts tree) ∙ ap (λ l. texts_in tree ++ l) (units_texts rest)

  same_literals : (units : List PlainTree) → literals_of (map (moved_tree (elsewhere h)) units) ≡ literals_of units
  same_literals units = ap (different_texts []) (units_texts units)

  pub same_program : (units : List PlainTree) (linked : Units) → program_of (map (moved_tree (elsewhere h)) units) linked ≡ program_of units linked
  same_program units linked = ap (λ texts. let p : PlainProgram = record (program_of units linked) { literals = texts } in p) (same_literals units)

module _ (told : TypeKind → TypeKind) (h : PlainToken → PlainToken) (alike : KeepsKinds told h) where
  -- ---- units

  told_closed : (c : Checked UnitState) → told_as told (closed c) ≡ closed (told_as told c)
  told_closed (fine state bindings) = refl
  told_closed (refused kind token) = refl
  told_closed broken = refl

  closed_is : (c : Checked UnitState) → closed (moved_checked h stays c) ≡ moved_checked h stays (closed c)
  closed_is (fine state bindings) = refl
  closed_is (refused kind token) = refl
  closed_is broken = refl

  closed_follows : (c d : Checked UnitState) → Follows told h stays c d → Follows told h stays (closed c) (closed d)
  closed_follows c d e = record {
    holds = told_closed d ∙ (ap closed e.holds ∙ (closed_is (told_as told c) ∙ ap (moved_checked h stays) (sym (told_closed c))));
  }

  units_follow :
      (numbers : ℕ → Numbers) (globals : ℕ) (units : List PlainTree) (index : ℕ) (structs : List Struct)
      → Follows told h stays (judged_units numbers globals index structs units) (judged_units numbers globals index structs (map (moved_tree (elsewhere h)) units))
  units_follow numbers globals [] index structs = given_follows told h stays (let all : Units = record { units = []; structs = structs } in all)
  units_follow numbers globals (tree ∷ rest) index structs =
      same_follows told h stays (closed (judged_unit globals structs (numbers index) tree)) (closed (judged_unit globals structs (numbers index) (moved_tree (elsewhere h) tree))) _ _
      (closed_follows (judged_unit globals structs (numbers index) tree) (judged_unit globals structs (numbers index) (moved_tree (elsewhere h) tree)) (unit_follows told h alike globals structs (numbers index) tree))
      (λ first. same_follows told h stays (judged_units numbers globals (index + 1) first.structs rest) (judged_units numbers globals (index + 1) first.structs (map (moved_tree (elsewhere h)) rest)) _ _
      (units_follow numbers globals rest (index + 1) first.structs)
      (λ others. given_follows told h stays (let all : Units = record { units = first.units ++ others.units; structs = others.structs } in all)))

  pub program_follows : (units : List PlainTree) → Follows told h stays (judged_program units) (judged_program (map (moved_tree (elsewhere h)) units))
  program_follows units =
      same_follows told h stays (judged_units no_numbers 0 0 [] units) (judged_units no_numbers 0 0 [] (map (moved_tree (elsewhere h)) units)) _ _ (units_follow no_numbers 0 units 0 [])
      (λ first. let count = length (listed first.units false) in
      subst (λ texts. Follows told h stays (judged_units (numbers_in first.units (literals_of units)) count 0 [] units) (judged_units (numbers_in first.units texts) count 0 [] (map (moved_tree (elsewhere h)) units))) (sym (same_literals h units))
      (units_follow (numbers_in first.units (literals_of units)) count units 0 []))

-- where places that were apart are apart, refusals are of the same kinds too
pub program_moves : (h : PlainToken → PlainToken) → KeepsPlaces h → (units : List PlainTree) → Moves h stays (judged_program units) (judged_program (map (moved_tree (elsewhere h)) units))
program_moves h apart units =
    moves_of h stays (judged_program units) (judged_program (map (moved_tree (elsewhere h)) units))
    (program_follows as_they_are h (kinds_by_places h apart) units)
