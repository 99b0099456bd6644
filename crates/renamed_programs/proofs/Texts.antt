-- Trees that differ only in names have the same texts.
use Rattle.std.proofs.Common.{◌≡◌, ℕ, Bool, true, false, List, [], ◌∷◌, ◌++◌, refl, ap, ◌∙◌, IsTrue}
use Rattle.std.specs.Prelude.{Some, None, ◌||◌}
use Rattle.std.specs.List.{AllZip}
use Rattle.std.proofs.lemmas.Bool.{and_parts, false≢true}
use Rattle.c_tree.specs.declared.kinds.Kind.TheVariants as k
use Rattle.c_tree.specs.declared.terminals.Terminal.{Terminal}
use Rattle.c_tree.specs.declared.terminals.Terminal.TheVariants as t
use Rattle.c_tree.specs.Trees.{PlainTree, PlainTrees, leaf, node}
use Rattle.c_tree.specs.Grammar.{Category, Role, Slot, Shape, are_words, are_words_of, are_texts, is_word}
use Rattle.core_meaning.specs.Linking.{texts_in, texts_in_all, texts_of_units, literals_of, different_texts}
use Rattle.tree_derivations.specs.Derivations.{Derivation, single, made_of, Shaped, a_row, some_words, some_texts, one_or_more, as_many, with_commas, with_last_comma, declarators_of, Row, at_end, a_word, perhaps_there, not_there, a_star, no_star, a_part, left_out, given, Each, no_more, one_more, Separated, last_one, next_one, Ended, ends, ends_in_comma, goes_on, Declared, last_plain, last_initialised, next_plain, next_initialised, IsDerived}
use Rattle.renamed_programs.specs.Trees.{SameButNames, AllSameButNames, same_leaf, same_node, same_end, same_more}
use Rattle.renamed_programs.proofs.Expressions.{same_bytes}

-- the units are derived from the grammar
abbrev pub AllDerived : List PlainTree → Type 0
AllDerived [] = Unit {0}
AllDerived (tree ∷ rest) = IsDerived tree × AllDerived rest

abbrev SameTexts : PlainTrees → PlainTrees → Type 0
SameTexts parts others = texts_in_all parts ≡ texts_in_all others

two : {a b c d : List (List ℕ)} → a ≡ c → b ≡ d → a ++ b ≡ c ++ d
two {a} {b} {c} {d} e f = ap (λ l. l ++ b) e ∙ ap (λ l. c ++ l) f

-- words have no texts
wordless : (terminals : List Terminal) (parts others : PlainTrees) → IsTrue (are_words terminals parts) → AllSameButNames parts others → SameTexts parts others
wordless [] _ _ w same_end = refl
wordless [] _ _ w (same_more e r) = absurd (false≢true w)
wordless (first ∷ words) _ _ w same_end = absurd (false≢true w)
wordless (first ∷ words) _ _ w (same_more {rest = rest} {others = others} (same_leaf {a = a} e) r) =
    wordless words rest others (and_parts (Rattle.c_tree.specs.Terminals.same first (Rattle.c_tree.specs.Terminals.terminal a)) (are_words words rest) w).1 r
wordless (first ∷ words) _ _ w (same_more (same_node e) r) = absurd (false≢true w)

wordless_of : (lists : List (List Terminal)) (parts others : PlainTrees) → IsTrue (are_words_of lists parts) → AllSameButNames parts others → SameTexts parts others
wordless_of [] parts others w e = absurd (false≢true w)
wordless_of (first ∷ rest) parts others w e = by (are_words first parts) refl w (λ v. wordless_of rest parts others v e)
  where
    by : (b : Bool) → are_words first parts ≡ b → (b || are_words_of rest parts) ≡ true → (IsTrue (are_words_of rest parts) → SameTexts parts others) → SameTexts parts others
    by true f v next = wordless first parts others f e
    by false f v next = next v

only_texts : (parts others : PlainTrees) → IsTrue (are_texts parts) → AllSameButNames parts others → SameTexts parts others
only_texts _ _ texts same_end = refl
only_texts _ _ texts (same_more {rest = rest} {others = others} (same_leaf {a = a} e) r) =
    only_texts rest others (and_parts (is_word (t.Text ∷ []) (leaf a)) (are_texts rest) texts).1 r
only_texts _ _ texts (same_more (same_node e) r) = absurd (false≢true texts)

mutual
  pub texts_same : {category : Category} {tree other : PlainTree} → Derivation category tree → SameButNames tree other → texts_in tree ≡ texts_in other
  texts_same (single is) (same_leaf e) = refl
  texts_same (made_of k.Texts {parts = parts} b a (some_texts texts some)) (same_node {others = others} e) =
      ap (λ bytes. elim bytes as (λ x. List (List ℕ)) [ None ↦ [] | Some bytes ↦ bytes ∷ [] ]) (same_bytes parts others texts e)
  texts_same (made_of kind b a s) (same_node e) = shaped_same s e

  shaped_same : {form : Shape} {parts others : PlainTrees} → Shaped form parts → AllSameButNames parts others → SameTexts parts others
  shaped_same (a_row r) e = row_same r e
  shaped_same (some_words {lists = lists} {parts = parts} w) e = wordless_of lists parts _ w e
  shaped_same (some_texts {parts = parts} texts some) e = only_texts parts _ texts e
  shaped_same (one_or_more each any) e = each_same each e
  shaped_same (as_many each) e = each_same each e
  shaped_same (with_commas l) e = separated_same l e
  shaped_same (with_last_comma l) e = ended_same l e
  shaped_same (declarators_of l) e = declared_same l e

  row_same : {slots : List Slot} {parts others : PlainTrees} → Row slots parts → AllSameButNames parts others → SameTexts parts others
  row_same at_end same_end = refl
  row_same (a_word w r) (same_more (same_leaf e) l) = row_same r l
  row_same (perhaps_there w r) (same_more (same_leaf e) l) = row_same r l
  row_same (not_there r) l = row_same r l
  row_same (a_star w r) (same_more (same_leaf e) l) = row_same r l
  row_same (no_star r) l = row_same r l
  row_same (a_part d r) (same_more e l) = two (texts_same d e) (row_same r l)
  row_same (left_out r) (same_more (same_node same_end) l) = row_same r l
  row_same (given d r) (same_more e l) = two (texts_same d e) (row_same r l)

  each_same : {each : Category} {parts others : PlainTrees} → Each each parts → AllSameButNames parts others → SameTexts parts others
  each_same no_more same_end = refl
  each_same (one_more d r) (same_more e l) = two (texts_same d e) (each_same r l)

  separated_same : {each : Category} {parts others : PlainTrees} → Separated each parts → AllSameButNames parts others → SameTexts parts others
  separated_same (last_one d) (same_more e same_end) = two (texts_same d e) refl
  separated_same (next_one d w r) (same_more e (same_more (same_leaf x) l)) = two (texts_same d e) (separated_same r l)

  ended_same : {each : Category} {parts others : PlainTrees} → Ended each parts → AllSameButNames parts others → SameTexts parts others
  ended_same (ends d) (same_more e same_end) = two (texts_same d e) refl
  ended_same (ends_in_comma d w) (same_more e (same_more (same_leaf x) same_end)) = two (texts_same d e) refl
  ended_same (goes_on d w r) (same_more e (same_more (same_leaf x) l)) = two (texts_same d e) (ended_same r l)

  declared_same : {role : Role} {parts others : PlainTrees} → Declared role parts → AllSameButNames parts others → SameTexts parts others
  declared_same (last_plain d) (same_more e same_end) = two (texts_same d e) refl
  declared_same (last_initialised m d w v) (same_more e (same_more (same_leaf x) (same_more f same_end))) = two (texts_same d e) (two (texts_same v f) refl)
  declared_same (next_plain d w r) (same_more e (same_more (same_leaf x) l)) = two (texts_same d e) (declared_same r l)
  declared_same (next_initialised m d w v c r) (same_more e (same_more (same_leaf x) (same_more f (same_more (same_leaf y) l)))) = two (texts_same d e) (two (texts_same v f) (declared_same r l))

pub unit_texts_same : {tree other : PlainTree} → IsDerived tree → SameButNames tree other → texts_in tree ≡ texts_in other
unit_texts_same {tree = leaf token} derived e = absurd derived
unit_texts_same {tree = node k.Unit parts} derived (same_node {others = others} e) = each_same derived e
unit_texts_same {tree = node _ parts} derived e = absurd derived

pub all_texts_same : (trees others : List PlainTree) → AllZip SameButNames trees others → (AllDerived trees) → texts_of_units trees ≡ texts_of_units others
all_texts_same [] [] e d = refl
all_texts_same [] (y ∷ ys) e d = absurd e
all_texts_same (x ∷ xs) [] e d = absurd e
all_texts_same (x ∷ xs) (y ∷ ys) e d = two (unit_texts_same d.0 e.0) (all_texts_same xs ys e.1 d.1)

pub literals_same : (trees others : List PlainTree) → AllZip SameButNames trees others → AllDerived trees → literals_of trees ≡ literals_of others
literals_same trees others e d = ap (different_texts []) (all_texts_same trees others e d)
