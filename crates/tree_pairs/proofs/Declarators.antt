-- No number stands right behind `int` in declarators with their initialisers: they begin with a star or a name, and end otherwise.
use Rattle.std.proofs.Common.{◌≡◌, Bool, true, false, ◌&&◌, List, [], ◌∷◌, refl, IsTrue}
use Rattle.std.specs.Prelude.{if◌then◌else◌}
use Rattle.std.proofs.lemmas.Bool.{and_parts}
use Rattle.c_text.specs.Token.{PlainToken}
use Rattle.c_tree.specs.declared.terminals.Terminal.TheVariants as t
use Rattle.c_tree.specs.Grammar.{declarator, initialiser, Role, is_word, is_a, are_declared, may_be_initialised, may_follow_declarator, may_follow_initialiser}
use Rattle.c_tree.specs.Trees.{PlainTree, PlainTrees, none, more, written, all_written}
use Rattle.tree_pairs.proofs.Declares.{declares, never, behind_mark}
use Rattle.tree_pairs.proofs.Rows.{IsGood, AreGood, behind_part}

declarator_is_good :
    (role : Role) (after : Bool) (tree : PlainTree) (behind : List PlainToken) → IsGood tree → IsTrue (is_a (declarator role) tree)
    → declares false behind ≡ false → declares after (written tree behind) ≡ false
declarator_is_good role after tree behind good h d = behind_part after (declarator role) tree behind good (never after) h d

mutual
  pub declared_are_good :
      (role : Role) (parts : PlainTrees) → AreGood parts → IsTrue (are_declared role parts) → (after : Bool) (behind : List PlainToken)
      → declares false behind ≡ false → declares after (all_written parts behind) ≡ false
  declared_are_good role none good h after behind d = absurd cc
  declared_are_good role (more tree rest) good h after behind d =
      let both = and_parts (is_a (declarator role) tree) (may_follow_declarator role rest) h in
      declarator_is_good role after tree (all_written rest behind) good.0 both.0 (behind_declarator role rest good.1 both.1 behind d)

  behind_declarator :
      (role : Role) (parts : PlainTrees) → AreGood parts → IsTrue (may_follow_declarator role parts) → (behind : List PlainToken)
      → declares false behind ≡ false → declares false (all_written parts behind) ≡ false
  behind_declarator role none good h behind d = d
  behind_declarator role (more sign none) good h behind d = absurd cc
  behind_declarator role (more sign (more tree rest)) good h behind d =
      where_comma (λ m. behind_declarator role rest good.1.1 m behind d) (λ m. behind_initialiser role rest good.1.1 m behind d)
      (is_word (t.Comma ∷ []) sign) refl h
    where
      where_comma :
          (IsTrue (may_follow_declarator role rest) → declares false (all_written rest behind) ≡ false)
          → (IsTrue (may_follow_initialiser role rest) → declares false (all_written rest behind) ≡ false)
          → (b : Bool) → is_word (t.Comma ∷ []) sign ≡ b
          → IsTrue (
          if b then is_a (declarator role) tree && may_follow_declarator role rest
          else is_word (t.Assign ∷ []) sign && may_be_initialised role && is_a initialiser tree && may_follow_initialiser role rest
          )
          → declares false (written sign (written tree (all_written rest behind))) ≡ false
      where_comma declared initialised true e h =
          let both = and_parts (is_a (declarator role) tree) (may_follow_declarator role rest) h in
          behind_mark false (t.Comma ∷ []) sign (written tree (all_written rest behind)) refl refl e
          (declarator_is_good role false tree (all_written rest behind) good.1.0 both.0 (declared both.1))
      where_comma declared initialised false e h =
          let may = is_word (t.Assign ∷ []) sign && may_be_initialised role in
          let outer = and_parts (may && is_a initialiser tree) (may_follow_initialiser role rest) h in
          let inner = and_parts may (is_a initialiser tree) outer.0 in
          let first = and_parts (is_word (t.Assign ∷ []) sign) (may_be_initialised role) inner.0 in
          behind_mark false (t.Assign ∷ []) sign (written tree (all_written rest behind)) refl refl first.0
          (behind_part false initialiser tree (all_written rest behind) good.1.0 refl inner.1 (initialised outer.1))

  behind_initialiser :
      (role : Role) (parts : PlainTrees) → AreGood parts → IsTrue (may_follow_initialiser role parts) → (behind : List PlainToken)
      → declares false behind ≡ false → declares false (all_written parts behind) ≡ false
  behind_initialiser role none good h behind d = d
  behind_initialiser role (more comma rest) good h behind d =
      let both = and_parts (is_word (t.Comma ∷ []) comma) (are_declared role rest) h in
      behind_mark false (t.Comma ∷ []) comma (all_written rest behind) refl refl both.0
      (declared_are_good role rest good.1 both.1 false behind d)
