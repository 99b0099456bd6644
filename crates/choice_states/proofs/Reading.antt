-- Tokens with numbers are read as without, and their leaves are the tokens: the numbers are told by tokens that say where they stand.
use Rattle.std.proofs.Common.{◌≡◌, ℕ, zero, suc, List, [], ◌∷◌, ◌++◌, map, drop, get_or, append_assoc, Option, Some, None, refl, sym, ap, ◌∙◌}
use Rattle.std.specs.Prelude.{option_map}
use Rattle.std.proofs.lemmas.List.{map-append}
use Rattle.c_text.specs.Token.{PlainToken}
use Rattle.c_tree.specs.Terminals.{terminal}
use Rattle.c_tree.specs.Trees.{PlainTree, PlainTrees, leaf, node, none, more, trees, written, all_written, spelled}
use Rattle.c_tree.specs.Machine.{Making, Frame, outcome, going_on, next, read_on, start, finished_of, of_trees, read}
use Rattle.c_tree.proofs.Makings.{Carries, frame_map, outcome-carried, going_on-carried, finished_of-carried, read-carried}
use Rattle.c_tree.proofs.Sound.{read_is_spelt}
use Rattle.choice_trees.specs.Leaves.{Leaf, texts}
use Rattle.choice_states.specs.Seen.{Seen, leaves_of, node_seen, nothing_seen, of_seen}
use Rattle.choice_states.specs.Reading.{leaf_seen, next_seen, read_seen, seen_of, TreesAreRead, LeavesAreTheTokens}
use Rattle.choice_states.proofs.SeenLaws.{trees_carried}
use Rattle.choice_states.proofs.Making.{outcome-same, finished_of-same}

-- ---- without the leaves

abbrev tree_of : Seen → PlainTree
tree_of seen = seen.tree

abbrev without : Option (List (Frame Seen)) → Option (List (Frame PlainTree))
without state = option_map (map (frame_map tree_of)) state

next_without : (frames : List (Frame Seen)) (l : Leaf) → next of_trees (map (frame_map tree_of) frames) l.text ≡ without (next_seen frames l)
next_without frames l =
    ap going_on (outcome-carried of_seen of_trees tree_of trees_carried (terminal l.text) (leaf_seen l) frames)
    ∙ going_on-carried of_seen of_trees tree_of trees_carried (outcome of_seen (terminal l.text) (leaf_seen l) frames)

read_without : (state : Option (List (Frame Seen))) (leaves : List Leaf) → read_on of_trees (without state) (texts leaves) ≡ without (read_seen state leaves)
read_without None [] = refl
read_without (Some frames) [] = refl
read_without None (l ∷ leaves) = refl
read_without (Some frames) (l ∷ leaves) = ap (λ state. read_on of_trees state (texts leaves)) (next_without frames l) ∙ read_without (next_seen frames l) leaves

pub trees_are_read_lem : TreesAreRead
trees_are_read_lem leaves =
    sym (finished_of-carried of_seen of_trees tree_of trees_carried (read_seen (Some start) leaves))
    ∙ ap (finished_of of_trees) (sym (read_without (Some start) leaves))

-- ---- trees, and tokens behind them

mutual
  written_behind : (tree : PlainTree) (behind : List PlainToken) → written tree behind ≡ written tree [] ++ behind
  written_behind (leaf token) behind = refl
  written_behind (node kind parts) behind = all_written_behind parts behind

  all_written_behind : (parts : PlainTrees) (behind : List PlainToken) → all_written parts behind ≡ all_written parts [] ++ behind
  all_written_behind none behind = refl
  all_written_behind (more part rest) behind =
      ap (written part) (all_written_behind rest behind)
      ∙ written_behind part (all_written rest [] ++ behind)
      ∙ sym (append_assoc (written part []) (all_written rest []) behind)
      ∙ ap (λ ts. ts ++ behind) (sym (written_behind part (all_written rest [])))

-- ---- the rest of a list by what stands first in it

first_of_rest : (n : ℕ) (xs ys : List Leaf) (x d : Leaf) → drop n xs ≡ x ∷ ys → get_or xs n d ≡ x
first_of_rest zero [] ys x d e = absurd (cc e)
first_of_rest (suc n) [] ys x d e = absurd (cc e)
first_of_rest zero (z ∷ xs) ys x d e = cc e
first_of_rest (suc n) (z ∷ xs) ys x d e = first_of_rest n xs ys x d e

rest_of_rest : (n : ℕ) (xs ys : List Leaf) (x : Leaf) → drop n xs ≡ x ∷ ys → drop (suc n) xs ≡ ys
rest_of_rest zero [] ys x e = absurd (cc e)
rest_of_rest (suc n) [] ys x e = absurd (cc e)
rest_of_rest zero (z ∷ xs) ys x e = cc e
rest_of_rest (suc n) (z ∷ xs) ys x e = rest_of_rest n xs ys x e

-- ---- tokens that say where they stand

told : ℕ → PlainToken → PlainToken
told n token = record token { origin = record token.origin { file = n } }

all_told : ℕ → List Leaf → List PlainToken
all_told n [] = []
all_told n (l ∷ leaves) = told n l.text ∷ all_told (suc n) leaves

module _ (all : List Leaf) where
  found : PlainToken → Leaf
  found token = get_or all token.origin.file (record { number = None; text = token })

  of_told : Making Seen
  of_told = record { of_token = λ token. leaf_seen (found token); of_parts = node_seen; of_nothing = nothing_seen }

  abbrev mutual
    found_tree : PlainTree → PlainTree
    found_tree (leaf token) = leaf (found token).text
    found_tree (node kind parts) = node kind (found_trees parts)

    found_trees : PlainTrees → PlainTrees
    found_trees none = none
    found_trees (more part rest) = more (found_tree part) (found_trees rest)

  abbrev found_seen : PlainTree → Seen
  found_seen tree = record { tree = found_tree tree; leaves = map found (spelled tree) }

  trees_found : (parts : List PlainTree) → trees (map (λ (s : Seen). s.tree) (map found_seen parts)) ≡ found_trees (trees parts)
  trees_found [] = refl
  trees_found (first ∷ rest) = ap (more (found_tree first)) (trees_found rest)

  leaves_found : (parts : List PlainTree) → leaves_of (map found_seen parts) ≡ map found (all_written (trees parts) [])
  leaves_found [] = refl
  leaves_found (first ∷ rest) =
      ap (λ ls. map found (spelled first) ++ ls) (leaves_found rest)
      ∙ sym (map-append found (spelled first) (all_written (trees rest) []))
      ∙ ap (map found) (sym (written_behind first (all_written (trees rest) [])))

  told_carried : Carries of_trees of_told found_seen
  unfolding of_told
  told_carried = record {
    of_token = λ token. refl;
    of_parts = λ kind parts.
        ap (λ ts. record { tree = node kind ts; leaves = leaves_of (map found_seen parts) }) (trees_found parts)
        ∙ ap (λ ls. record { tree = node kind (found_trees (trees parts)); leaves = ls }) (leaves_found parts);
    of_nothing = refl;
  }

  found_told : (n : ℕ) (l : Leaf) (rest : List Leaf) → drop n all ≡ l ∷ rest → found (told n l.text) ≡ l
  unfolding found told
  found_told n l rest e = first_of_rest n all rest l (record { number = None; text = told n l.text }) e

  all_found : (n : ℕ) (rest : List Leaf) → drop n all ≡ rest → map found (all_told n rest) ≡ rest
  unfolding all_told
  all_found n [] e = refl
  all_found n (l ∷ rest) e = ap (λ x. x ∷ map found (all_told (suc n) rest)) (found_told n l rest e) ∙ ap (λ ls. l ∷ ls) (all_found (suc n) rest (rest_of_rest n all rest l e))

  same_next : (frames : List (Frame Seen)) (n : ℕ) (l : Leaf) (rest : List Leaf) → drop n all ≡ l ∷ rest → next of_told frames (told n l.text) ≡ next_seen frames l
  unfolding of_told told
  same_next frames n l rest e =
      ap (λ found_there. going_on (outcome of_told (terminal l.text) (leaf_seen found_there) frames)) (found_told n l rest e)
      ∙ ap going_on (outcome-same of_seen of_told (λ kind parts. refl) refl (terminal l.text) (leaf_seen l) frames)

  same_read : (state : Option (List (Frame Seen))) (n : ℕ) (rest : List Leaf) → drop n all ≡ rest → read_on of_told state (all_told n rest) ≡ read_seen state rest
  unfolding all_told
  same_read state n [] e = refl
  same_read None n (l ∷ rest) e = refl
  same_read (Some frames) n (l ∷ rest) e =
      ap (λ state. read_on of_told state (all_told (suc n) rest)) (same_next frames n l rest e) ∙ same_read (next_seen frames l) (suc n) rest (rest_of_rest n all rest l e)

  seen_of_all : seen_of all ≡ option_map found_seen (read of_trees (all_told 0 all))
  unfolding of_told
  seen_of_all =
      sym (finished_of-same of_seen of_told (λ kind parts. refl) refl (read_seen (Some start) all))
      ∙ ap (finished_of of_told) (sym (same_read (Some start) 0 all refl))
      ∙ read-carried of_trees of_told found_seen told_carried (all_told 0 all)

  leaves_by : (read_as : Option PlainTree) (seen : Seen) → read of_trees (all_told 0 all) ≡ read_as → option_map found_seen read_as ≡ Some seen → seen.leaves ≡ all
  leaves_by None seen is e = absurd (cc e)
  leaves_by (Some tree) seen is e =
      let same : found_seen tree ≡ seen = cc e in
      ap (λ (s : Seen). s.leaves) (sym same) ∙ ap (map found) (read_is_spelt (all_told 0 all) tree is).text ∙ all_found 0 all refl

pub leaves_are_the_tokens_lem : LeavesAreTheTokens
leaves_are_the_tokens_lem leaves seen e = leaves_by leaves (read of_trees (all_told 0 leaves)) seen refl (sym (seen_of_all leaves) ∙ e)
