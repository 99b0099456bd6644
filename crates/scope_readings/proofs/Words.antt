-- The words of a type are walked as they are read.
use Rattle.std.proofs.Common.{◌≡◌, Bool, true, false, not, ◌&&◌, ◌||◌, List, [], ◌∷◌, refl, sym, ap, subst, ◌∙◌, IsTrue}
use Rattle.std.specs.Prelude.{ℕ, if◌then◌else◌}
use Rattle.std.specs.List.{list_all}
use Rattle.std.proofs.lemmas.Bool.{and_parts, and_from, not-true}
use Rattle.c_tree.specs.declared.kinds.Kind.{Kind}
use Rattle.c_tree.specs.declared.kinds.Kind.TheVariants as k
use Rattle.c_tree.specs.declared.terminals.Terminal.{Terminal}
use Rattle.c_tree.specs.declared.terminals.Terminal.TheVariants as t
use Rattle.c_tree.specs.Terminals.{terminal, same}
use Rattle.c_tree.specs.Trees.{PlainTree, PlainTrees, leaf, node, none, more}
use Rattle.c_tree.specs.Grammar.{specifiers, file_specifiers, tag, types, file_types, tag_words, cast_types, are_words, are_words_of}
use Rattle.c_tree.proofs.TerminalCases.{same-true}
use Rattle.tree_derivations.specs.Derivations.{Derivation, single, made_of, some_words}
use Rattle.bindings.specs.Visible as reading
use Rattle.bindings.specs.Visible.{Reading, tag_named}
use Rattle.bindings.specs.Bindings.{is_name, read_expressions, read_words}
use Rattle.scope_readings.specs.Scopes.{passed}
use Rattle.scope_readings.specs.Walks as walks
use Rattle.scope_readings.specs.Walks.{may_declare, walk_name, walk_parts}
use Rattle.scope_readings.proofs.Images.{image, passed_image, tag_image}
use Rattle.scope_readings.proofs.Parts.{none_such, PartsWalk, NodeWalks}

-- ---- the terminals of words

-- the parts are tokens whose terminals pass the test
abbrev each_word : (Terminal → Bool) → PlainTrees → Bool
each_word test none = true
each_word test (more (leaf token) rest) = test (terminal token) && each_word test rest
each_word test (more (node kind parts) rest) = false

words_pass : (test : Terminal → Bool) (ws : List Terminal) (parts : PlainTrees) → IsTrue (are_words ws parts) → list_all test ws ≡ true → IsTrue (each_word test parts)
words_pass test [] none h passes = refl
words_pass test [] (more first rest) h passes = none_such h
words_pass test (w ∷ ws) none h passes = none_such h
words_pass test (w ∷ ws) (more (node kind parts) rest) h passes = none_such h
words_pass test (w ∷ ws) (more (leaf token) rest) h passes =
    let both = and_parts (same w (terminal token)) (are_words ws rest) h in
    let tests = and_parts (test w) (list_all test ws) passes in
    and_from (test (terminal token)) (each_word test rest) (subst (λ x. test x ≡ true) (same-true w (terminal token) both.0) tests.0)
    (words_pass test ws rest both.1 tests.1)

words_of_pass :
    (test : Terminal → Bool) (lists : List (List Terminal)) (parts : PlainTrees) → IsTrue (are_words_of lists parts) → list_all (list_all test) lists ≡ true
    → IsTrue (each_word test parts)
words_of_pass test [] parts h passes = none_such h
words_of_pass test (ws ∷ lists) parts h passes =
    let tests = and_parts (list_all test ws) (list_all (list_all test) lists) passes in
    by (are_words ws parts) refl (λ e. words_pass test ws parts e tests.0) (λ others. words_of_pass test lists parts others tests.1) h
  where
    by :
        (b : Bool) → are_words ws parts ≡ b → (are_words ws parts ≡ true → IsTrue (each_word test parts)) → (IsTrue (are_words_of lists parts) → IsTrue (each_word test parts))
        → IsTrue (b || are_words_of lists parts) → IsTrue (each_word test parts)
    by true e here there h = here e
    by false e here there h = there h

abbrev any_terminal : Terminal → Bool
any_terminal k = true

abbrev no_name : Terminal → Bool
no_name k = not (same t.Name k)

-- ---- words that may name a tag

-- a tree of words
pub data Specifying : PlainTree → Type 0 where
  by_words : (words : PlainTrees) → IsTrue (each_word any_terminal words) → Specifying (node k.Specifiers words)

pub specifiers_are : {tree : PlainTree} → Derivation specifiers tree → Specifying tree
specifiers_are (single is) = none_such is
specifiers_are (made_of k.Specifiers {parts = words} b a (some_words are)) = by_words words (words_of_pass any_terminal types words are refl)
specifiers_are (made_of _ b a s) = none_such b

pub file_specifiers_are : {tree : PlainTree} → Derivation file_specifiers tree → Specifying tree
file_specifiers_are (single is) = none_such is
file_specifiers_are (made_of k.Specifiers {parts = words} b a (some_words are)) = by_words words (words_of_pass any_terminal file_types words are refl)
file_specifiers_are (made_of _ b a s) = none_such b

pub tag_is : {tree : PlainTree} → Derivation tag tree → Specifying tree
tag_is (single is) = none_such is
tag_is (made_of k.Specifiers {parts = words} b a (some_words are)) = by_words words (words_of_pass any_terminal (tag_words ∷ []) words are refl)
tag_is (made_of _ b a s) = none_such b

module _ (numbers : List ℕ) where
  pub words_walk : (words : PlainTrees) → IsTrue (each_word any_terminal words) → (d : Kind) → PartsWalk numbers d k.Specifiers false words (read_words (may_declare d) words)
  words_walk none h d r = refl
  words_walk (more (node kind parts) rest) h d r = none_such h
  words_walk (more (leaf token) rest) h d r = by (is_name token) (λ s. words_walk rest h d s)
    where
      by :
          (b : Bool) → PartsWalk numbers d k.Specifiers false rest (read_words (may_declare d) rest)
          → (if b then walk_name d walks.tag token (λ after. walk_parts d k.Specifiers false rest after) (image numbers r)
          else walk_parts d k.Specifiers false rest (passed (image numbers r)))
          ≡ image numbers (read_words (may_declare d) rest (if b then tag_named (may_declare d) token r else reading.passed r))
      by true behind =
          ap (walk_parts d k.Specifiers false rest) (tag_image numbers (may_declare d) token r) ∙ behind (tag_named (may_declare d) token r)
      by false behind = ap (walk_parts d k.Specifiers false rest) (passed_image numbers r) ∙ behind (reading.passed r)

  -- ---- words of a cast, which have no name

  words_read : (words : PlainTrees) → IsTrue (each_word no_name words) → (b : Bool) (r : Reading) → read_words b words r ≡ read_expressions words r
  words_read none h b r = refl
  words_read (more (node kind parts) rest) h b r = none_such h
  words_read (more (leaf token) rest) h b r =
      let both = and_parts (not (is_name token)) (each_word no_name rest) h in
      let e : is_name token ≡ false = not-true (is_name token) both.0 in
      ap (λ (x : Bool). read_words b rest (if x then tag_named b token r else reading.passed r)) e
      ∙ words_read rest both.1 b (reading.passed r)
      ∙ sym (ap (λ (x : Bool). read_expressions rest (if x then reading.used token r else reading.passed r)) e)

  pub cast_walks : (words : PlainTrees) → IsTrue (are_words_of cast_types words) → (d : Kind) → NodeWalks numbers d k.Specifiers words (read_expressions words)
  cast_walks words are d r =
      words_walk words (words_of_pass any_terminal cast_types words are refl) d r
      ∙ ap (image numbers) (words_read words (words_of_pass no_name cast_types words are refl) (may_declare d) r)
