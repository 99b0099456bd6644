-- The names of units whose tokens stand elsewhere: the same identifiers, elsewhere, which stand for what they stood for.
use Rattle.std.proofs.Common.{◌≡◌, ℕ, ◌+◌, Bool, true, false, List, [], ◌∷◌, map, refl, sym, ap, ◌∙◌}
use Rattle.std.specs.Prelude.{if◌then◌else◌}
use Rattle.c_text.specs.Token.{PlainToken}
use Rattle.c_tree.specs.Trees.{PlainTree, PlainTrees, leaf, node, none, more, written, all_written, spelled}
use Rattle.core_meaning.specs.Checking.{Binding, Checked, fine, refused, broken}
use Rattle.core_meaning.specs.Entities.{Struct}
use Rattle.core_meaning.specs.UnitNames.{UnitState}
use Rattle.core_meaning.specs.Linking.{no_numbers}
use Rattle.bindings.specs.Bindings.{is_name}
use Rattle.bindings.specs.Judged.{Identified}
use Rattle.moved_programs.specs.Trees.{moved_tree, moved_trees}
use Rattle.moved_programs.proofs.Moves.{elsewhere, moved_checked, stays}
use Rattle.moved_programs.proofs.Follows.{Follows, told_as, as_one}
use Rattle.moved_programs.proofs.Constants.{kinds_as_one}
use Rattle.moved_programs.proofs.Items.{unit_follows}
use Rattle.program_occurrences.specs.Occurrences.{Identifier, identifiers_from, with_entities, UnitNames, judged_bindings, has_external, names_of_unit, structs_behind, judged_behind, names_behind}

module _ (h : PlainToken → PlainToken) where
  abbrev pub moved_identified : Identified → Identified
  moved_identified i = record i { token = elsewhere h i.token }

  abbrev pub moved_names : UnitNames → UnitNames
  moved_names unit = record unit { identified = map moved_identified unit.identified }

  -- ---- tokens

  mutual
    written-moved : (tree : PlainTree) (behind : List PlainToken) → written (moved_tree (elsewhere h) tree) (map (elsewhere h) behind) ≡ map (elsewhere h) (written tree behind)
    written-moved (leaf token) behind = refl
    written-moved (node kind parts) behind = all-moved parts behind

    all-moved : (parts : PlainTrees) (behind : List PlainToken) → all_written (moved_trees (elsewhere h) parts) (map (elsewhere h) behind) ≡ map (elsewhere h) (all_written parts behind)
    all-moved none behind = refl
    all-moved (more part rest) behind =
        ap (written (moved_tree (elsewhere h) part)) (all-moved rest behind) ∙ written-moved part (all_written rest behind)

  spelled-moved : (tree : PlainTree) → spelled (moved_tree (elsewhere h) tree) ≡ map (elsewhere h) (spelled tree)
  spelled-moved tree = written-moved tree []

  -- ---- identifiers

  abbrev moved_identifier : Identifier → Identifier
  moved_identifier i = record i { token = elsewhere h i.token }

  identifiers-moved : (number : ℕ) (tokens : List PlainToken) → identifiers_from number (map (elsewhere h) tokens) ≡ map moved_identifier (identifiers_from number tokens)
  identifiers-moved number [] = refl
  identifiers-moved number (token ∷ rest) = by (is_name token) (identifiers-moved (number + 1) rest)
    where
      by :
          (b : Bool) → identifiers_from (number + 1) (map (elsewhere h) rest) ≡ map moved_identifier (identifiers_from (number + 1) rest)
          → (if b then record { number = number; token = elsewhere h token } ∷ identifiers_from (number + 1) (map (elsewhere h) rest) else identifiers_from (number + 1) (map (elsewhere h) rest))
          ≡ map moved_identifier (if b then record { number = number; token = token } ∷ identifiers_from (number + 1) rest else identifiers_from (number + 1) rest)
      by true behind = ap (λ (is : List Identifier). record { number = number; token = elsewhere h token } ∷ is) behind
      by false behind = behind

  entities-moved : (identifiers : List Identifier) (bindings : List Binding) → with_entities (map moved_identifier identifiers) bindings ≡ map moved_identified (with_entities identifiers bindings)
  entities-moved [] bindings = refl
  entities-moved (i ∷ identifiers) [] = refl
  entities-moved (i ∷ identifiers) (b ∷ bindings) =
      ap (λ (is : List Identified). record { number = i.number; token = elsewhere h i.token; entity = b.entity } ∷ is) (entities-moved identifiers bindings)

  -- ---- one unit

  -- what is seen of a judgement where neither a refusal's kind nor its token is
  same-seen :
      {R : Type 0} (seen : Checked UnitState → R) → ((c : Checked UnitState) → seen (told_as as_one c) ≡ seen c) → ((c : Checked UnitState) → seen (moved_checked h stays c) ≡ seen c)
      → (c d : Checked UnitState) → Follows as_one h stays c d → seen d ≡ seen c
  same-seen seen told moved c d e = sym (told d) ∙ (ap seen e.holds ∙ (moved (told_as as_one c) ∙ told c))

  bindings-told : (c : Checked UnitState) → judged_bindings (told_as as_one c) ≡ judged_bindings c
  bindings-told (fine state bindings) = refl
  bindings-told (refused kind token) = refl
  bindings-told broken = refl

  bindings-moved : (c : Checked UnitState) → judged_bindings (moved_checked h stays c) ≡ judged_bindings c
  bindings-moved (fine state bindings) = refl
  bindings-moved (refused kind token) = refl
  bindings-moved broken = refl

  external-told : (c : Checked UnitState) → has_external (told_as as_one c) ≡ has_external c
  external-told (fine state bindings) = refl
  external-told (refused kind token) = refl
  external-told broken = refl

  external-moved : (c : Checked UnitState) → has_external (moved_checked h stays c) ≡ has_external c
  external-moved (fine state bindings) = refl
  external-moved (refused kind token) = refl
  external-moved broken = refl

  structs-told : (structs : List Struct) (c : Checked UnitState) → structs_behind structs (told_as as_one c) ≡ structs_behind structs c
  structs-told structs (fine state bindings) = refl
  structs-told structs (refused kind token) = refl
  structs-told structs broken = refl

  structs-moved : (structs : List Struct) (c : Checked UnitState) → structs_behind structs (moved_checked h stays c) ≡ structs_behind structs c
  structs-moved structs (fine state bindings) = refl
  structs-moved structs (refused kind token) = refl
  structs-moved structs broken = refl

  identified-moved :
      (tree : PlainTree) (bindings : List Binding)
      → with_entities (identifiers_from 0 (spelled (moved_tree (elsewhere h) tree))) bindings ≡ map moved_identified (with_entities (identifiers_from 0 (spelled tree)) bindings)
  identified-moved tree bindings =
      ap (λ (tokens : List PlainToken). with_entities (identifiers_from 0 tokens) bindings) (spelled-moved tree)
      ∙ (ap (λ (is : List Identifier). with_entities is bindings) (identifiers-moved 0 (spelled tree)) ∙ entities-moved (identifiers_from 0 (spelled tree)) bindings)

  unit-moved : (tree : PlainTree) (c d : Checked UnitState) → Follows as_one h stays c d → names_of_unit (moved_tree (elsewhere h) tree) d ≡ moved_names (names_of_unit tree c)
  unit-moved tree c d e =
      ap
      (λ (bindings : List Binding). let unit : UnitNames = record { identified = with_entities (identifiers_from 0 (spelled (moved_tree (elsewhere h) tree))) bindings; is_external = has_external d } in unit)
      (same-seen judged_bindings bindings-told bindings-moved c d e)
      ∙ (ap (λ (is : List Identified). let unit : UnitNames = record { identified = is; is_external = has_external d } in unit) (identified-moved tree (judged_bindings c))
      ∙ ap (λ (external : List ℕ → Bool). let unit : UnitNames = record { identified = map moved_identified (names_of_unit tree c).identified; is_external = external } in unit)
      (same-seen has_external external-told external-moved c d e))

  -- ---- one unit after the other

  judged-follows : (structs : List Struct) (tree : PlainTree) → Follows as_one h stays (judged_behind structs tree) (judged_behind structs (moved_tree (elsewhere h) tree))
  judged-follows structs tree = unit_follows as_one h (kinds_as_one h) 0 structs (no_numbers 0) tree

  pub names-moved : (structs : List Struct) (trees : List PlainTree) → names_behind structs (map (moved_tree (elsewhere h)) trees) ≡ map moved_names (names_behind structs trees)
  names-moved structs [] = refl
  names-moved structs (tree ∷ rest) =
      let c : Checked UnitState = judged_behind structs tree in
      let d : Checked UnitState = judged_behind structs (moved_tree (elsewhere h) tree) in
      ap (λ (unit : UnitNames). unit ∷ names_behind (structs_behind structs d) (map (moved_tree (elsewhere h)) rest)) (unit-moved tree c d (judged-follows structs tree))
      ∙ (ap (λ (behind : List Struct). moved_names (names_of_unit tree c) ∷ names_behind behind (map (moved_tree (elsewhere h)) rest))
      (same-seen (structs_behind structs) (structs-told structs) (structs-moved structs) c d (judged-follows structs tree))
      ∙ ap (λ (units : List UnitNames). moved_names (names_of_unit tree c) ∷ units) (names-moved (structs_behind structs c) rest))
