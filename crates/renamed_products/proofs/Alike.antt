-- Renamed trees differ from the old ones only in names.
use Rattle.std.proofs.Common.{◌≡◌, ℕ, Bool, true, false, List, [], ◌∷◌, map, All, IsTrue, refl, sym, subst}
use Rattle.std.specs.Prelude.{if◌then◌else◌}
use Rattle.std.specs.List.{AllZip, AllByRecursion}
use Rattle.std.proofs.lemmas.List.Elements.{All-head, All-tail}
use Rattle.c_text.specs.Token.{PlainToken}
use Rattle.c_text.specs.declared.token.TokenKind.{TokenKind}
use Rattle.c_text.specs.declared.token.TokenKind.TheVariants.{Name}
use Rattle.c_tree.specs.Trees.{PlainTree, PlainTrees, leaf, node, none, more, written, all_written}
use Rattle.c_tree.specs.Units.{IsTreeOf}
use Rattle.renamings.specs.Renamings.{Renaming, is_renamed, renamed_token}
use Rattle.renamed_trees.specs.RenamedTrees.{renamed_tree, renamed_trees, IsNameIfRenamed, OnlyNamesAreRenamed}
use Rattle.renamed_programs.specs.Trees.{SameButName, SameButNames, AllSameButNames, same_leaf, same_node, same_end, same_more}

text-alike : (b : Bool) (kind : TokenKind) (old new : List ℕ) → (IsTrue b → kind ≡ Name) → (kind ≡ Name → ⊥) → old ≡ (if b then new else old)
text-alike true kind old new names other = absurd (other (names refl))
text-alike false kind old new names other = refl

token-alike : (r : Renaming) (token : PlainToken) → IsNameIfRenamed r token → SameButName token (renamed_token r token)
token-alike r token names = record {
  kind = refl;
  text = λ other. text-alike (is_renamed r token.origin.file token.origin.span) token.kind token.text r.new names other;
}

-- the tree, and the tokens behind it
mutual
  alike : (r : Renaming) (tree : PlainTree) (behind : List PlainToken) → All (IsNameIfRenamed r) (written tree behind) → SameButNames tree (renamed_tree r tree) × All (IsNameIfRenamed r) behind
  alike r (leaf token) behind names =
      (same_leaf (token-alike r token (All-head (IsNameIfRenamed r) token behind names)), All-tail (IsNameIfRenamed r) token behind names)
  alike r (node kind parts) behind names = let both = all-alike r parts behind names in (same_node both.0, both.1)

  all-alike : (r : Renaming) (parts : PlainTrees) (behind : List PlainToken) → All (IsNameIfRenamed r) (all_written parts behind) → AllSameButNames parts (renamed_trees r parts) × All (IsNameIfRenamed r) behind
  all-alike r none behind names = (same_end, names)
  all-alike r (more tree rest) behind names =
      let first = alike r tree (all_written rest behind) names in
      let others = all-alike r rest behind first.1 in
      (same_more first.0 others.0, others.1)

pub units-alike : (r : Renaming) (tokens : List (List PlainToken)) (units : List PlainTree) → AllByRecursion (OnlyNamesAreRenamed r) tokens → AllZip IsTreeOf tokens units → AllZip SameButNames units (map (renamed_tree r) units)
units-alike r [] [] names are = tt
units-alike r [] (unit ∷ units) names are = absurd are
units-alike r (of_unit ∷ tokens) [] names are = absurd are
units-alike r (of_unit ∷ tokens) (unit ∷ units) names are =
    let both = alike r unit [] (subst (All (IsNameIfRenamed r)) (sym are.0.spells.text) names.0) in
    (both.0, units-alike r tokens units names.1 are.1)
