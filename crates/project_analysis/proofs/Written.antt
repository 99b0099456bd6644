-- Trees that are the same but for the sites of their tokens are written alike.
use Rattle.std.proofs.Common.{◌≡◌, List, [], ◌∷◌, map, refl, sym, ap, subst, ◌∙◌}
use Rattle.std.specs.Prelude.{Bool, IsTrue}
use Rattle.c_text.specs.Token.{PlainToken}
use Rattle.c_tree.specs.Trees.{PlainTree, spelled}
use Rattle.c_tree.specs.Grammar.{is_unit}
use Rattle.bindings.specs.Laws.{ArePieces, IsWritten, AreWritten}
use Rattle.moved_programs.specs.Trees.{moved_tree}
use Rattle.moved_trees.specs.Laws.{UnitsStayUnits}
use Rattle.moved_trees.proofs.Units.{spelled_changed}
use Rattle.changed_forests.specs.Numbered.{unsited, SameButSites, AreSameButSites}

-- tokens with other sites are spelt as they were
pieces_with : (tokens : List PlainToken) → ArePieces (map unsited tokens) → ArePieces tokens
pieces_with [] h = tt
pieces_with (first ∷ rest) h = (h.0, pieces_with rest h.1)

pieces_without : (tokens : List PlainToken) → ArePieces tokens → ArePieces (map unsited tokens)
pieces_without [] h = tt
pieces_without (first ∷ rest) h = (h.0, pieces_without rest h.1)

written : UnitsStayUnits → (tree other : PlainTree) → SameButSites tree other → IsWritten tree → IsWritten other
written stay tree other same is =
    let units : is_unit other ≡ is_unit tree = sym (stay unsited (λ token. refl) other) ∙ ap is_unit (sym same) ∙ stay unsited (λ token. refl) tree in
    let tokens : map unsited (spelled tree) ≡ map unsited (spelled other) = sym (spelled_changed unsited tree) ∙ ap spelled same ∙ spelled_changed unsited other in
    record {
      unit = subst (λ (b : Bool). IsTrue b) (sym units) is.unit;
      pieces = pieces_with (spelled other) (subst ArePieces tokens (pieces_without (spelled tree) is.pieces));
    }

pub all_written : UnitsStayUnits → (trees others : List PlainTree) → AreSameButSites trees others → AreWritten trees → AreWritten others
all_written stay [] [] same h = tt
all_written stay [] (other ∷ others) same h = absurd cc
all_written stay (tree ∷ trees) [] same h = absurd cc
all_written stay (tree ∷ trees) (other ∷ others) same h =
    let first : moved_tree unsited tree ≡ moved_tree unsited other = cc in
    let rest : map (moved_tree unsited) trees ≡ map (moved_tree unsited) others = cc in (
      written stay tree other first h.0,
      all_written stay trees others rest h.1,
    )
