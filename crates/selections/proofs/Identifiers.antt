-- The identifiers of a tree, one by one.
use Rattle.std.proofs.Common.{◌≡◌, ℕ, suc, Bool, true, false, List, ◌∷◌, ap, length}
use Rattle.std.specs.Prelude.{◌||◌, filter, Option, if◌then◌else◌}
use Rattle.c_text.specs.Token.{PlainToken}
use Rattle.c_tree.specs.Trees.{PlainTree, PlainTrees, leaf, node, none, more, written, all_written}
use Rattle.bindings.specs.Bindings.{is_name}
use Rattle.expression_types.specs.Known.{Known}
use Rattle.selections.specs.Selections.{structure_of_node, turns, structure_named, selected_in, selected_in_parts}

-- as many as there are names among the tokens
abbrev pub AreTold : List (Option ℕ) → List PlainToken → Type 0
AreTold told tokens = length told ≡ length (filter is_name tokens)

one_told : (b : Bool) (token : PlainToken) (o : Option ℕ) (told : List (Option ℕ)) (names : List PlainToken) → length told ≡ length names
    → length (if b then o ∷ told else told) ≡ length (if b then token ∷ names else names)
one_told true token o told names h = ap suc h
one_told false token o told names h = h

module _ (known : Known) where
  mutual
    pub each_told : (owner : Option ℕ) (turned : Bool) (tree : PlainTree) (behind : List (Option ℕ)) (tokens : List PlainToken) → AreTold behind tokens
        → AreTold (selected_in known owner turned tree behind) (written tree tokens)
    each_told owner turned (leaf token) behind tokens h = one_told (is_name token) token (structure_named owner turned) behind (filter is_name tokens) h
    each_told owner turned (node kind parts) behind tokens h = all_told (structure_of_node known kind parts) false parts behind tokens h

    all_told : (owner : Option ℕ) (turned : Bool) (trees : PlainTrees) (behind : List (Option ℕ)) (tokens : List PlainToken) → AreTold behind tokens
        → AreTold (selected_in_parts known owner turned trees behind) (all_written trees tokens)
    all_told owner turned none behind tokens h = h
    all_told owner turned (more tree rest) behind tokens h =
        each_told owner turned tree (selected_in_parts known owner (turned || turns tree) rest behind) (all_written rest tokens)
        (all_told owner (turned || turns tree) rest behind tokens h)
