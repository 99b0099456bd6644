-- What is read off trees whose tokens stand elsewhere: words, texts and names.
use Rattle.std.proofs.Common.{◌≡◌, ◌+◌, Bool, true, false, List, [], ◌∷◌, refl, ap, ◌∙◌}
use Rattle.std.specs.Prelude.{Option, Some, None, option_map, if◌then◌else◌, ◌||◌}
use Rattle.c_text.specs.Token.{PlainToken}
use Rattle.c_text.specs.Constants.{quoted_values}
use Rattle.c_tree.specs.declared.terminals.Terminal.{Terminal}
use Rattle.c_tree.specs.declared.terminals.Terminal.TheVariants as t
use Rattle.c_tree.specs.Terminals.{terminal, same}
use Rattle.c_tree.specs.Trees.{PlainTree, PlainTrees, leaf, node, none, more}
use Rattle.c_tree.specs.Grammar.{is_word}
use Rattle.c_tree.specs.Heights.{count_stars}
use Rattle.core_meaning.specs.Expressions.{first_token, first_token_in, has_terminal, words_type, arithmetic_words, text_bytes, joined_bytes, first_text, count_entries}
use Rattle.core_meaning.specs.Declarations.{name_in, behind_word}
use Rattle.moved_programs.specs.Trees.{moved_tree, moved_trees}
use Rattle.moved_programs.proofs.Moves.{elsewhere}

module _ (h : PlainToken → PlainToken) where
  mutual
    pub first_moves : (tree : PlainTree) (behind : PlainToken) → first_token (moved_tree (elsewhere h) tree) (elsewhere h behind) ≡ elsewhere h (first_token tree behind)
    first_moves (leaf token) behind = refl
    first_moves (node kind parts) behind = first_in_moves parts behind

    pub first_in_moves : (parts : PlainTrees) (behind : PlainToken) → first_token_in (moved_trees (elsewhere h) parts) (elsewhere h behind) ≡ elsewhere h (first_token_in parts behind)
    first_in_moves none behind = refl
    first_in_moves (more tree rest) behind = ap (first_token (moved_tree (elsewhere h) tree)) (first_in_moves rest behind) ∙ first_moves tree (first_token_in rest behind)

  pub same_terminals : (wanted : Terminal) (words : PlainTrees) → has_terminal wanted (moved_trees (elsewhere h) words) ≡ has_terminal wanted words
  same_terminals wanted none = refl
  same_terminals wanted (more (leaf token) rest) = ap (λ x. same wanted (terminal token) || x) (same_terminals wanted rest)
  same_terminals wanted (more (node kind parts) rest) = same_terminals wanted rest

  pub same_words : (words : PlainTrees) → arithmetic_words (moved_trees (elsewhere h) words) ≡ arithmetic_words words
  same_words words =
      let moved = moved_trees (elsewhere h) words in
      ap (λ x. words_type x (has_terminal t.Unsigned moved) (has_terminal t.Char moved) (has_terminal t.Long moved)) (same_terminals t.Void words)
      ∙ ap (λ x. words_type (has_terminal t.Void words) x (has_terminal t.Char moved) (has_terminal t.Long moved)) (same_terminals t.Unsigned words)
      ∙ ap (λ x. words_type (has_terminal t.Void words) (has_terminal t.Unsigned words) x (has_terminal t.Long moved)) (same_terminals t.Char words)
      ∙ ap (λ x. words_type (has_terminal t.Void words) (has_terminal t.Unsigned words) (has_terminal t.Char words) x) (same_terminals t.Long words)

  pub same_bytes : (parts : PlainTrees) → text_bytes (moved_trees (elsewhere h) parts) ≡ text_bytes parts
  same_bytes none = refl
  same_bytes (more (leaf token) rest) = ap (joined_bytes (quoted_values token.text)) (same_bytes rest)
  same_bytes (more (node kind parts) rest) = refl

  pub text_moves : (parts : PlainTrees) → first_text (moved_trees (elsewhere h) parts) ≡ option_map (elsewhere h) (first_text parts)
  text_moves none = refl
  text_moves (more (leaf token) rest) = refl
  text_moves (more (node kind parts) rest) = refl

  pub same_entries : (parts : PlainTrees) → count_entries (moved_trees (elsewhere h) parts) ≡ count_entries parts
  same_entries none = refl
  same_entries (more tree none) = refl
  same_entries (more tree (more comma rest)) = ap (λ n. 1 + n) (same_entries rest)

  pub same_word : (terminals : List Terminal) (tree : PlainTree) → is_word terminals (moved_tree (elsewhere h) tree) ≡ is_word terminals tree
  same_word terminals (leaf token) = refl
  same_word terminals (node kind parts) = refl

  pub same_stars : (parts : PlainTrees) → count_stars (moved_trees (elsewhere h) parts) ≡ count_stars parts
  same_stars none = refl
  same_stars (more tree rest) =
      ap (λ n. (if is_word (t.Star ∷ []) (moved_tree (elsewhere h) tree) then 1 else 0) + n) (same_stars rest)
      ∙ ap (λ b. (if b then 1 else 0) + count_stars rest) (same_word (t.Star ∷ []) tree)

  moved_if : (b : Bool) (x y : Option PlainToken) → (if b then option_map (elsewhere h) x else option_map (elsewhere h) y) ≡ option_map (elsewhere h) (if b then x else y)
  moved_if true x y = refl
  moved_if false x y = refl

  pub name_moves : (words : PlainTrees) → name_in (moved_trees (elsewhere h) words) ≡ option_map (elsewhere h) (name_in words)
  name_moves none = refl
  name_moves (more (leaf token) rest) =
      let other = λ (x : Option PlainToken). if same t.OpenBracket (terminal token) then None else x in
      ap (λ x. if same t.Name (terminal token) then Some (elsewhere h token) else other x) (name_moves rest)
      ∙ ap (λ x. if same t.Name (terminal token) then Some (elsewhere h token) else x) (moved_if (same t.OpenBracket (terminal token)) None (name_in rest))
      ∙ moved_if (same t.Name (terminal token)) (Some token) (other (name_in rest))
  name_moves (more (node kind parts) rest) = refl

  tree_if : (b : Bool) (x y : Option PlainTree) → (if b then option_map (moved_tree (elsewhere h)) x else option_map (moved_tree (elsewhere h)) y) ≡ option_map (moved_tree (elsewhere h)) (if b then x else y)
  tree_if true x y = refl
  tree_if false x y = refl

  pub behind_moves : (wanted : Terminal) (words : PlainTrees) → behind_word wanted (moved_trees (elsewhere h) words) ≡ option_map (moved_tree (elsewhere h)) (behind_word wanted words)
  behind_moves wanted none = refl
  behind_moves wanted (more (leaf token) none) = refl
  behind_moves wanted (more (leaf token) (more next rest)) =
      ap (λ x. if same wanted (terminal token) then Some (moved_tree (elsewhere h) next) else x) (behind_moves wanted (more next rest))
      ∙ tree_if (same wanted (terminal token)) (Some next) (behind_word wanted (more next rest))
  behind_moves wanted (more (node kind parts) rest) = refl
