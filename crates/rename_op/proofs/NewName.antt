-- Trees with a good new name are written well where they were.
use Rattle.std.proofs.Common.{◌≡◌, ℕ, Bool, true, false, List, [], ◌∷◌, map, Some, refl, sym, ap, subst, ◌∙◌}
use Rattle.std.specs.Prelude.{◌&&◌, not, nat_eq, codes, IsTrue, if◌then◌else◌}
use Rattle.std.specs.List.{list_any, starts_with}
use Rattle.std.specs.Str.{bytes_eq}
use Rattle.std.proofs.lemmas.Bool.{and_parts, not-true, false≢true}
use Rattle.c_names.specs.Names.{is_identifier, is_keyword, taken_names, is_new_name}
use Rattle.c_text.specs.declared.origin.FileToken.{FileToken}
use Rattle.c_text.specs.declared.token.TokenKind.{TokenKind}
use Rattle.c_text.specs.declared.token.TokenKind.TheVariants.{Name}
use Rattle.c_text.specs.Pieces.{piece_of, token}
use Rattle.c_text.specs.Token.{PlainToken}
use Rattle.c_tree.specs.Terminals.{terminal, terminal_of}
use Rattle.c_tree.specs.Trees.{PlainTree, PlainTrees, leaf, node, none, more, spelled}
use Rattle.bindings.specs.Laws.{ArePieces, IsWritten, AreWritten}
use Rattle.renamings.proofs.SeamLemmas.{name-piece}
use Rattle.moved_programs.specs.Trees.{moved_tree, moved_trees}
use Rattle.moved_trees.specs.Laws.{KeepsTerminal, UnitsStayUnits}
use Rattle.moved_trees.proofs.Units.{spelled_changed}
use Rattle.changed_forests.specs.Renamed.{is_name, copies, is_of_class, with_name, renamed_tree, renamed_trees}

-- a good new name is one in the text
new_piece : (w : List ℕ) → IsTrue (is_new_name w) → piece_of w ≡ Some (token Name)
new_piece w good =
    let first = (and_parts (is_identifier w && not (is_keyword w) && not (list_any (bytes_eq w) taken_names)) (not (starts_with nat_eq w (codes "__"))) good).0 in
    let second = (and_parts (is_identifier w && not (is_keyword w)) (not (list_any (bytes_eq w) taken_names)) first).0 in
    let third = and_parts (is_identifier w) (not (is_keyword w)) second in
    name-piece w third.0 (not-true (is_keyword w) third.1)

name_kind : (kind : TokenKind) → is_name kind ≡ true → kind ≡ Name
name_kind Name e = refl
name_kind _ e = absurd (false≢true e)

module _ (class : List FileToken) (new : List ℕ) where
  kind_of : (t : PlainToken) → is_of_class class new t ≡ true → t.kind ≡ Name
  kind_of t e = name_kind t.kind (and_parts (is_name t.kind) (list_any (λ of. copies of t) class) e).0

  keeps : (t : PlainToken) → KeepsTerminal (with_name class new) t
  keeps t = by (is_of_class class new t) refl
    where
      by : (b : Bool) → is_of_class class new t ≡ b → terminal (if b then record t { text = new } else t) ≡ terminal t
      by false e = refl
      by true e = ap (λ kind. terminal_of kind new) (kind_of t e) ∙ sym (ap (λ kind. terminal_of kind t.text) (kind_of t e))

  mutual
    as_moved : (tree : PlainTree) → renamed_tree class new tree ≡ moved_tree (with_name class new) tree
    as_moved (leaf t) = refl
    as_moved (node kind parts) = ap (node kind) (all_as_moved parts)

    all_as_moved : (parts : PlainTrees) → renamed_trees class new parts ≡ moved_trees (with_name class new) parts
    all_as_moved none = refl
    all_as_moved (more tree rest) =
        ap (λ (part : PlainTree). more part (renamed_trees class new rest)) (as_moved tree) ∙ ap (more (moved_tree (with_name class new) tree)) (all_as_moved rest)

  module _ (good : IsTrue (is_new_name new)) where
    piece : (t : PlainToken) → piece_of t.text ≡ Some (token t.kind) → piece_of (with_name class new t).text ≡ Some (token (with_name class new t).kind)
    piece t is = by (is_of_class class new t) refl
      where
        by : (b : Bool) → is_of_class class new t ≡ b → piece_of (if b then record t { text = new } else t).text ≡ Some (token (if b then record t { text = new } else t).kind)
        by false e = is
        by true e = new_piece new good ∙ ap (λ kind. Some (token kind)) (sym (kind_of t e))

    pieces : (tokens : List PlainToken) → ArePieces tokens → ArePieces (map (with_name class new) tokens)
    pieces [] h = tt
    pieces (first ∷ rest) h = (piece first h.0, pieces rest h.1)

    one_written : UnitsStayUnits → (tree : PlainTree) → IsWritten tree → IsWritten (renamed_tree class new tree)
    one_written stay tree is = subst IsWritten (sym (as_moved tree)) (record {
      unit = stay (with_name class new) keeps tree ∙ is.unit;
      pieces = subst ArePieces (sym (spelled_changed (with_name class new) tree)) (pieces (spelled tree) is.pieces);
    })

    pub renamed_written : UnitsStayUnits → (trees : List PlainTree) → AreWritten trees → AreWritten (map (renamed_tree class new) trees)
    renamed_written stay [] h = tt
    renamed_written stay (tree ∷ trees) h = (one_written stay tree h.0, renamed_written stay trees h.1)
