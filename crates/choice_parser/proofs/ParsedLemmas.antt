-- What the tokens of a unit are read as, and what is seen of its forest.
use Rattle.std.proofs.Common.{◌≡◌, ℕ, suc, ◌≤◌, Bool, true, false, ◌||◌, List, [], ◌∷◌, Some, None, IsTrue, refl, sym, ap, ◌∙◌, subst, arith}
use Rattle.std.specs.Prelude.{option_map, nat_lt}
use Rattle.std.specs.Bool.{if◌then◌else◌}
use Rattle.std.proofs.lemmas.Bool.Decides.{nat_tests}
use Rattle.cond_formula.specs.Conditions.{condition_of, value}
use Rattle.c_text.specs.Token.{plain_token}
use Rattle.c_tree.specs.Trees.{PlainTree}
use Rattle.c_tree.specs.Heights.{height_of, most_high}
use Rattle.c_tree.specs.Units.{IsTreeOf}
use Rattle.c_tree.specs.Machine.{start, read, of_trees}
use Rattle.c_tree.specs.ReadingLaws.{ReadIsSpelt, SpeltIsRead}
use Rattle.choice_trees.specs.declared.trees.Forest.{Forest}
use Rattle.choice_trees.specs.ChoiceTrees.{forest_at}
use Rattle.choice_trees.specs.Leaves.{texts, forest_leaves}
use Rattle.exclusive_forests.specs.Apart.{ForestApart}
use Rattle.cond_tokens.specs.declared.tokens.CondToken.{CondToken}
use Rattle.cond_tokens.specs.Streams.{tokens_at}
use Rattle.choice_states.specs.Seen.{seen_in}
use Rattle.choice_states.specs.Parts.{values}
use Rattle.choice_states.specs.Reading.{read_seen, finished_seen, seen_of, TreesAreRead, LeavesAreTheTokens, UnitsAreSeen}
use Rattle.choice_parser.specs.Units.{numbered_at, Nodes, IsEnded, IsParsed}

texts_numbered : (on : ℕ → Bool) (number : ℕ) (tokens : List CondToken) → texts (numbered_at on number tokens) ≡ tokens_at on tokens
texts_numbered on number [] = refl
texts_numbered on number (first ∷ rest) =
    elim (value on (condition_of first.when)) as (λ there.
    texts (if there then record { number = Some number; text = plain_token first.token } ∷ numbered_at on (suc number) rest else numbered_at on (suc number) rest)
    ≡ (if there then plain_token first.token ∷ tokens_at on rest else tokens_at on rest)) [
      | true ↦ ap (λ ts. plain_token first.token ∷ ts) (texts_numbered on (suc number) rest)
      | false ↦ texts_numbered on (suc number) rest
    ]

-- the laws on reading
pub record Laws : Type 0 where
  pub trees : TreesAreRead
  pub leaves : LeavesAreTheTokens
  pub units : UnitsAreSeen
  pub spelt : ReadIsSpelt
  pub read : SpeltIsRead

some_of : {A : Type 0} (a b : A) → Some a ≡ Some b → a ≡ b
some_of a b same = cc

none_some : {A : Type 0} (a : A) → None ≡ Some a → ⊥
none_some a same = cc

module _ (laws : Laws) (on : ℕ → Bool) (tokens : List CondToken) where
  reads_as : option_map (λ seen. seen.tree) (seen_of (numbered_at on 0 tokens)) ≡ read of_trees (tokens_at on tokens)
  reads_as = laws.trees (numbered_at on 0 tokens) ∙ ap (read of_trees) (texts_numbered on 0 tokens)

  no_tree : seen_of (numbered_at on 0 tokens) ≡ None → (tree : PlainTree) → IsTreeOf (tokens_at on tokens) tree → ⊥
  no_tree none tree is = none_some tree (ap (option_map (λ seen. seen.tree)) (sym none) ∙ reads_as ∙ laws.read (tokens_at on tokens) tree is.spells)

  module _ (forest : Forest) (whole : seen_of (numbered_at on 0 tokens) ≡ Some (record { tree = forest_at on forest; leaves = forest_leaves on forest })) where
    is_read : read of_trees (tokens_at on tokens) ≡ Some (forest_at on forest)
    is_read = sym reads_as ∙ ap (option_map (λ seen. seen.tree)) whole

    leaves_are : forest_leaves on forest ≡ numbered_at on 0 tokens
    leaves_are = laws.leaves (numbered_at on 0 tokens) (record { tree = forest_at on forest; leaves = forest_leaves on forest }) whole

    too_high_none : IsTrue (nat_lt most_high (height_of (forest_at on forest))) → (tree : PlainTree) → IsTreeOf (tokens_at on tokens) tree → ⊥
    too_high_none high tree is =
        let same : tree ≡ forest_at on forest = some_of tree (forest_at on forest) (sym (laws.read (tokens_at on tokens) tree is.spells) ∙ is_read) in
        let low : height_of (forest_at on forest) ≤ most_high = subst (λ t. height_of t ≤ most_high) same is.low in
        grind (arith, nat_tests, high, low)

    low_parsed : (high : Bool) → nat_lt most_high (height_of (forest_at on forest)) ≡ high → IsParsed on tokens high forest
    low_parsed true is = too_high_none is
    low_parsed false is = (record { spells = laws.spelt (tokens_at on tokens) (forest_at on forest) is_read; low = grind (arith, nat_tests, is) }, leaves_are)

pub parsed_so : (laws : Laws) (on : ℕ → Bool) (tokens : List CondToken) (nodes : Nodes) (refused new : Bool) (forest : Forest)
    → nodes ≡ read_seen (Some start) (numbered_at on 0 tokens) → IsEnded nodes refused (values (seen_in on forest.items.items))
    → new ≡ (refused || nat_lt most_high (height_of (forest_at on forest))) → IsParsed on tokens new forest
parsed_so laws on tokens nodes true new forest nodes_are ended new_is =
    subst (λ b. IsParsed on tokens b forest) (sym new_is) (no_tree laws on tokens (ap finished_seen (sym nodes_are) ∙ ended))
parsed_so laws on tokens nodes false new forest nodes_are ended new_is =
    subst (λ b. IsParsed on tokens b forest) (sym new_is)
    (low_parsed laws on tokens forest (ap finished_seen (sym nodes_are) ∙ ended ∙ ap Some (sym (laws.units on forest))) (nat_lt most_high (height_of (forest_at on forest))) refl)

-- the same is said of trees whose alternatives have been set apart
pub apart_parsed : (on : ℕ → Bool) (tokens : List CondToken) (refused : Bool) (old new : Forest) → ForestApart on old new → IsParsed on tokens refused old → IsParsed on tokens refused new
apart_parsed on tokens true old new apart is = is
apart_parsed on tokens false old new apart is = (subst (IsTreeOf (tokens_at on tokens)) (sym apart.tree_is) is.0, apart.leaves_are ∙ is.1)
