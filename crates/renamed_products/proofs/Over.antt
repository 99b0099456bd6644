-- Units that go over to the renamed files, with their trees.
use Rattle.std.proofs.Common.{◌≡◌, ℕ, List, [], ◌∷◌, map, refl, ap₂, sym, ◌∙◌, subst}
use Rattle.std.specs.List.{AllZip, AllByRecursion}
use Rattle.c_text.specs.Token.{PlainToken}
use Rattle.c_text.specs.Preprocessing.{Sources, Outcome, gives, IsPreprocessed}
use Rattle.c_tree.specs.Trees.{PlainTree}
use Rattle.c_tree.specs.Units.{IsTreeOf}
use Rattle.c_lexer.specs.Laws.{TextsHaveLines}
use Rattle.file_walks.specs.Laws.{LinesHaveParts}
use Rattle.pp_lines.specs.Laws.{ValuesAreDecided}
use Rattle.renamings.specs.Renamings.{Renaming, renamed_token}
use Rattle.renamed_trees.specs.RenamedTrees.{renamed_tree, OnlyNamesAreRenamed}
use Rattle.renamed_trees.specs.Laws.{TreesAreRenamed}
use Rattle.renamed_units.specs.Renamed.{renamed_sources, renamed_outcome}
use Rattle.renamed_units.proofs.Syntaxes.{the_syntax, is-syntax}
use Rattle.renamed_products.specs.Products.{IsGiven, AreTreesOf, renamed_all, HasNoTree}

-- what becomes of the unit is renamed, and only names of its tokens are
pub record GoesOver (r : Renaming) (s : Sources) (number : ℕ) : Type 0 where
  pub over : (outcome : Outcome) → IsPreprocessed s number outcome → IsPreprocessed (renamed_sources r s) number (renamed_outcome r outcome)
  pub names : (tokens : List PlainToken) → IsPreprocessed s number (gives tokens) → OnlyNamesAreRenamed r tokens

gives-same : (a b : List PlainToken) → gives a ≡ gives b → a ≡ b
gives-same a b e = cc

module _ (trees_are : TreesAreRenamed) (r : Renaming) (s : Sources) where
  abbrev renamed : List (List PlainToken) → List (List PlainToken)
  renamed tokens = map (λ (of_unit : List PlainToken). map (renamed_token r) of_unit) tokens

  pub names-of : (numbers : List ℕ) (tokens : List (List PlainToken)) → AllByRecursion (GoesOver r s) numbers → AllZip (IsGiven s) numbers tokens → AllByRecursion (OnlyNamesAreRenamed r) tokens
  names-of [] [] over are = tt
  names-of [] (of_unit ∷ tokens) over are = absurd are
  names-of (number ∷ numbers) [] over are = absurd are
  names-of (number ∷ numbers) (of_unit ∷ tokens) over are = (over.0.names of_unit are.0, names-of numbers tokens over.1 are.1)

  given : (numbers : List ℕ) (tokens : List (List PlainToken)) → AllByRecursion (GoesOver r s) numbers → AllZip (IsGiven s) numbers tokens → AllZip (IsGiven (renamed_sources r s)) numbers (renamed tokens)
  given [] [] over are = tt
  given [] (of_unit ∷ tokens) over are = absurd are
  given (number ∷ numbers) [] over are = absurd are
  given (number ∷ numbers) (of_unit ∷ tokens) over are = (over.0.over (gives of_unit) are.0, given numbers tokens over.1 are.1)

  parsed : (tokens : List (List PlainToken)) (units : List PlainTree) → AllByRecursion (OnlyNamesAreRenamed r) tokens → AllZip IsTreeOf tokens units → AllZip IsTreeOf (renamed tokens) (map (renamed_tree r) units)
  parsed [] [] names are = tt
  parsed [] (unit ∷ units) names are = absurd are
  parsed (of_unit ∷ tokens) [] names are = absurd are
  parsed (of_unit ∷ tokens) (unit ∷ units) names are = (trees_are.has_renamed r of_unit unit names.0 are.0, parsed tokens units names.1 are.1)

  pub have-renamed : (numbers : List ℕ) (units : List PlainTree) → AllByRecursion (GoesOver r s) numbers → AreTreesOf s numbers units → AreTreesOf (renamed_sources r s) numbers (renamed_all r units)
  have-renamed numbers units over are = record {
    tokens = renamed are.tokens;
    preprocessed = given numbers are.tokens over are.preprocessed;
    parsed = parsed are.tokens units (names-of numbers are.tokens over are.preprocessed) are.parsed;
  }

  -- the tokens have no tree behind the renaming, if they had none
  pub treeless-over : (number : ℕ) → GoesOver r s number → HasNoTree s number → HasNoTree (renamed_sources r s) number
  treeless-over number over none = record {
    tokens = map (renamed_token r) none.tokens;
    given = over.over (gives none.tokens) none.given;
    treeless = λ tree is_tree. let before = trees_are.had_tree r none.tokens tree (over.names none.tokens none.given) is_tree in none.treeless before.tree before.is_tree;
  }

  module _ (have : TextsHaveLines) (parted : LinesHaveParts) (decided : ValuesAreDecided) where
    -- a unit of the renamed files gives the renamed tokens and no others
    one-outcome : (number : ℕ) (a b : Outcome) → IsPreprocessed (renamed_sources r s) number a → IsPreprocessed (renamed_sources r s) number b → a ≡ b
    one-outcome number a b p q =
        sym (p (the_syntax have parted decided (renamed_sources r s)) (is-syntax have parted decided (renamed_sources r s)))
        ∙ q (the_syntax have parted decided (renamed_sources r s)) (is-syntax have parted decided (renamed_sources r s))

    same-tokens : (numbers : List ℕ) (tokens others : List (List PlainToken)) → AllByRecursion (GoesOver r s) numbers → AllZip (IsGiven s) numbers tokens → AllZip (IsGiven (renamed_sources r s)) numbers others → others ≡ renamed tokens
    same-tokens [] [] [] over are are' = refl
    same-tokens [] [] (other ∷ others) over are are' = absurd are'
    same-tokens [] (of_unit ∷ tokens) others over are are' = absurd are
    same-tokens (number ∷ numbers) [] others over are are' = absurd are
    same-tokens (number ∷ numbers) (of_unit ∷ tokens) [] over are are' = absurd are'
    same-tokens (number ∷ numbers) (of_unit ∷ tokens) (other ∷ others) over are are' =
        let first : other ≡ map (renamed_token r) of_unit =
        gives-same other (map (renamed_token r) of_unit)
        (one-outcome number (gives other) (gives (map (renamed_token r) of_unit)) are'.0 (over.0.over (gives of_unit) are.0)) in
        let rest : others ≡ renamed tokens = same-tokens numbers tokens others over.1 are.1 are'.1 in
        ap₂ (λ (t : List PlainToken) (l : List (List PlainToken)). t ∷ l) first rest

    same-trees : (tokens : List (List PlainToken)) (units others : List PlainTree) → AllByRecursion (OnlyNamesAreRenamed r) tokens → AllZip IsTreeOf tokens units → AllZip IsTreeOf (renamed tokens) others → others ≡ map (renamed_tree r) units
    same-trees [] [] [] names are are' = refl
    same-trees [] [] (other ∷ others) names are are' = absurd are'
    same-trees [] (unit ∷ units) others names are are' = absurd are
    same-trees (of_unit ∷ tokens) [] others names are are' = absurd are
    same-trees (of_unit ∷ tokens) (unit ∷ units) [] names are are' = absurd are'
    same-trees (of_unit ∷ tokens) (unit ∷ units) (other ∷ others) names are are' =
        let first : other ≡ renamed_tree r unit = trees_are.no_other r of_unit unit other names.0 are.0 are'.0 in
        let rest : others ≡ map (renamed_tree r) units = same-trees tokens units others names.1 are.1 are'.1 in
        ap₂ (λ (t : PlainTree) (l : List PlainTree). t ∷ l) first rest

    pub no-others : (numbers : List ℕ) (units others : List PlainTree) → AllByRecursion (GoesOver r s) numbers → AreTreesOf s numbers units → AreTreesOf (renamed_sources r s) numbers others → others ≡ renamed_all r units
    no-others numbers units others over are are' =
        same-trees are.tokens units others (names-of numbers are.tokens over are.preprocessed) are.parsed
        (subst (λ (l : List (List PlainToken)). AllZip IsTreeOf l others) (same-tokens numbers are.tokens are'.tokens over are.preprocessed are'.preprocessed) are'.parsed)
