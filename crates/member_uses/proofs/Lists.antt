-- The declarators of lists are of the grammar, and so are their initialisers.
use Rattle.std.proofs.Common.{List, [], ◌∷◌, ◌++◌, sym, subst}
use Rattle.std.specs.Prelude.{Some, None}
use Rattle.std.specs.List.{AllByRecursion}
use Rattle.std.proofs.lemmas.Option.{none-some, same_Some}
use Rattle.c_text.specs.Token.{PlainToken}
use Rattle.c_tree.specs.Trees.{PlainTree, PlainTrees, written, all_written, spelled}
use Rattle.c_tree.specs.Grammar.{Role, declarator, initialiser}
use Rattle.tree_derivations.specs.Derivations.{Derivation, Declared, last_plain, last_initialised, next_plain, next_initialised}
use Rattle.declarator_lists.specs.Lists as list
use Rattle.declarator_lists.specs.Lists.{declared_in, trees_of}
use Rattle.declaration_readings.proofs.Lists.{declared, one_alone, one_before, value_alone, value_before}
use Rattle.bindings.specs.Laws.{ArePieces}
use Rattle.member_uses.specs.Declarations.{IsDeclarator}
use Rattle.member_uses.proofs.Parts.{spelled_first}

-- ---- the pieces of trees

both_pieces : (first second : List PlainToken) → ArePieces (first ++ second) → ArePieces first × ArePieces second
both_pieces [] second h = (tt, h)
both_pieces (token ∷ first) second h = let others = both_pieces first second h.1 in ((h.0, others.0), others.1)

split_pieces : (tree : PlainTree) (behind : List PlainToken) → ArePieces (written tree behind) → ArePieces (spelled tree) × ArePieces behind
split_pieces tree behind h = both_pieces (spelled tree) behind (subst ArePieces (spelled_first tree behind) h)

-- ---- declarators

module _ (role : Role) where
  plain : {tree : PlainTree} → Derivation (declarator role) tree → ArePieces (spelled tree) → IsDeclarator role (declared tree None)
  plain d pieces = record { declarator = d; declarator_pieces = pieces; initialiser = λ value e. absurd (none-some value e); initialiser_pieces = λ value e. absurd (none-some value e) }

  with_value : {tree value : PlainTree} → Derivation (declarator role) tree → ArePieces (spelled tree) → Derivation initialiser value → ArePieces (spelled value) → IsDeclarator role (declared tree (Some value))
  with_value {value = value} d pieces v value_pieces = record {
    declarator = d;
    declarator_pieces = pieces;
    initialiser = λ other e. subst (Derivation initialiser) (same_Some value other e) v;
    initialiser_pieces = λ other e. subst (λ x. ArePieces (spelled x)) (same_Some value other e) value_pieces;
  }

  abbrev Are : List list.Declared → Type 0
  Are ds = AllByRecursion (IsDeclarator role) ds

  pub all_derived : {parts : PlainTrees} → Declared role parts → ArePieces (all_written parts []) → Are (declared_in (trees_of parts))
  all_derived (last_plain {tree = tree} d) h = subst Are (sym (one_alone d)) (plain d (split_pieces tree [] h).0, tt)
  all_derived (last_initialised {tree = tree} {value = value} {sign = sign} m d w v) h =
      let first = split_pieces tree (sign ∷ written value []) h in
      subst Are (sym (value_alone d sign w v)) (with_value d first.0 v (split_pieces value [] first.1.1).0, tt)
  all_derived (next_plain {tree = tree} {comma = comma} {rest = rest} d w s) h =
      let first = split_pieces tree (comma ∷ all_written rest []) h in
      subst Are (sym (one_before d comma rest w)) (plain d first.0, all_derived s first.1.1)
  all_derived (next_initialised {tree = tree} {value = value} {sign = sign} {comma = comma} {rest = rest} m d w v c s) h =
      let first = split_pieces tree (sign ∷ written value (comma ∷ all_written rest [])) h in
      let second = split_pieces value (comma ∷ all_written rest []) first.1.1 in
      subst Are (sym (value_before d sign w v comma rest)) (with_value d first.0 v second.0, all_derived s second.1.1)
