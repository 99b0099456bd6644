-- The products of renamed files.
use Rattle.std.proofs.Common.{◌≡◌, ℕ, false, List, [], ◌∷◌, refl, sym, subst, inl, inr}
use Rattle.std.specs.Prelude.{Contains}
use Rattle.std.specs.List.{AllZip, AllByRecursion}
use Rattle.std.proofs.lemmas.List.Elements.{All-from_recursion, recursion_from_All}
use Rattle.c_text.specs.Token.{PlainToken, SameSpelling}
use Rattle.c_text.specs.Preprocessing.{Sources, Syntax, IsSyntaxOf, is_refused}
use Rattle.c_tree.specs.Trees.{PlainTree, PlainTrees, leaf, node, none, more, written, all_written}
use Rattle.c_tree.specs.Units.{IsTreeOf}
use Rattle.c_lexer.specs.Laws.{TextsHaveLines}
use Rattle.file_walks.specs.Laws.{LinesHaveParts}
use Rattle.pp_lines.specs.Laws.{ValuesAreDecided}
use Rattle.read_walks.specs.Laws.{FilesHaveMisplaced}
use Rattle.active_tokens.specs.Active.{TokensComeFromActive}
use Rattle.renamings.specs.Renamings.{Renaming, is_renamed, renamed_token, FitsFiles}
use Rattle.renamings.specs.Laws.{PlacesKeepTheirOrder, TokensStandApart}
use Rattle.renamed_trees.specs.RenamedTrees.{IsNameIfRenamed}
use Rattle.renamed_trees.specs.Laws.{TreesAreRenamed}
use Rattle.renamed_programs.specs.Trees.{SameButNames}
use Rattle.renamed_programs.specs.Laws.{AreUnits, ElaborationsAreAlike}
use Rattle.renamed_units.specs.Laws.{IsUnitOf, AreNoMacros, UnitsAreRenamed, ReadsNoRenamed, UntouchedUnitsAreAlike, RenamedAreNames}
use Rattle.renamed_units.proofs.Syntaxes.{the_syntax, is-syntax}
use Rattle.renamed_units.proofs.Tokens.{In, in-of}
use Rattle.renamed_products.specs.Products.{IsGiven, AreTreesOf, MayBeRenamed, AreUntouched, AreOnlyMoved, tokens_of}
use Rattle.renamed_products.specs.Laws.{ProductsHaveRenamedTrees, RenamedProductsRunAlike, UntouchedProductsAreAlike}
use Rattle.renamed_products.proofs.Alike.{units-alike}
use Rattle.renamed_products.proofs.Over.{GoesOver, names-of, have-renamed, treeless-over, no-others}
use Rattle.renamed_products.proofs.Places.{StandsAt, same-places, given-stand}

-- ---- units that may be renamed

module _ (units_are : UnitsAreRenamed) (names_are : RenamedAreNames) where
  all-over : (r : Renaming) (s : Sources) (numbers : List ℕ) → MayBeRenamed r s numbers → AllByRecursion (GoesOver r s) numbers
  all-over r s numbers may = each numbers (recursion_from_All (IsUnitOf s) numbers may.units) (recursion_from_All (AreNoMacros r s) numbers may.no_macros)
    where
      each : (all : List ℕ) → AllByRecursion (IsUnitOf s) all → AllByRecursion (AreNoMacros r s) all → AllByRecursion (GoesOver r s) all
      each [] units no_macros = tt
      each (number ∷ all) units no_macros = (
        record {
          over = λ outcome before. units_are r s number outcome may.fits units.0 may.free no_macros.0 before;
          names = λ tokens before. names_are.are_names r s number tokens may.fits units.0 may.free no_macros.0 before;
        },
        each all units.1 no_macros.1,
      )

  pub products-renamed : TreesAreRenamed → TextsHaveLines → LinesHaveParts → ValuesAreDecided → ProductsHaveRenamedTrees
  products-renamed trees_are have parted decided = record {
    have_renamed = λ r s numbers units may are. have-renamed trees_are r s numbers units (all-over r s numbers may) are;
    no_others = λ r s numbers units others may are are'. no-others trees_are r s have parted decided numbers units others (all-over r s numbers may) are are';
    same_but_names = λ r s numbers units may are. units-alike r are.tokens units (names-of trees_are r s numbers are.tokens (all-over r s numbers may) are.preprocessed) are.parsed;
  }

-- ---- programs

are-units : (tokens : List (List PlainToken)) (units : List PlainTree) → AllZip IsTreeOf tokens units → AreUnits units
are-units [] [] are = tt
are-units [] (unit ∷ units) are = absurd are
are-units (of_unit ∷ tokens) [] are = absurd are
are-units (of_unit ∷ tokens) (unit ∷ units) are = (are.0.spells.unit, are-units tokens units are.1)

pub programs-same : ProductsHaveRenamedTrees → ElaborationsAreAlike → RenamedProductsRunAlike
programs-same products alike named r s numbers units others p q may are are' elaborated elaborated' binds names =
    let same = products.no_others r s numbers units others may are are' in
    let but_names = subst (λ (l : List PlainTree). AllZip SameButNames units l) (sym same) (products.same_but_names r s numbers units may are) in
    alike named units others p q (are-units are.tokens units are.parsed) but_names elaborated elaborated' binds names

-- ---- units that read no renamed token

-- the tokens that units give, each with what holds of all tokens of each unit
module _ (P : PlainToken → Type 0) where
  mutual
    tokens-behind : (tree : PlainTree) (behind : List PlainToken) → AllByRecursion P (written tree []) → AllByRecursion P behind → AllByRecursion P (written tree behind)
    tokens-behind (leaf token) behind a b = (a.0, b)
    tokens-behind (node kind parts) behind a b = all-behind parts behind a b

    all-behind : (parts : PlainTrees) (behind : List PlainToken) → AllByRecursion P (all_written parts []) → AllByRecursion P behind → AllByRecursion P (all_written parts behind)
    all-behind none behind a b = b
    all-behind (more tree rest) behind a b =
        let both = tokens-front tree (all_written rest []) a in
        tokens-behind tree (all_written rest behind) both.0 (all-behind rest behind both.1 b)

    tokens-front : (tree : PlainTree) (behind : List PlainToken) → AllByRecursion P (written tree behind) → AllByRecursion P (written tree []) × AllByRecursion P behind
    tokens-front (leaf token) behind a = ((a.0, tt), a.1)
    tokens-front (node kind parts) behind a = all-front parts behind a

    all-front : (parts : PlainTrees) (behind : List PlainToken) → AllByRecursion P (all_written parts behind) → AllByRecursion P (all_written parts []) × AllByRecursion P behind
    all-front none behind a = (tt, a)
    all-front (more tree rest) behind a =
        let first = tokens-front tree (all_written rest behind) a in
        let others = all-front rest behind first.1 in
        (tokens-behind tree (all_written rest []) first.0 others.0, others.1)

  of-units : (tokens : List (List PlainToken)) (units : List PlainTree) → AllByRecursion (AllByRecursion P) tokens → AllZip IsTreeOf tokens units → AllByRecursion P (tokens_of units)
  of-units [] [] a are = tt
  of-units [] (unit ∷ units) a are = absurd are
  of-units (of_unit ∷ tokens) [] a are = absurd are
  of-units (of_unit ∷ tokens) (unit ∷ units) a are =
      tokens-behind unit (tokens_of units) (subst (AllByRecursion P) (sym are.0.spells.text) a.0) (of-units tokens units a.1 are.1)

  good-in : (token : PlainToken) (tokens : List PlainToken) → AllByRecursion P tokens → In token tokens → P token
  good-in token [] a i = absurd i
  good-in token (first ∷ tokens) a (inl e) = subst P (sym e) a.0
  good-in token (first ∷ tokens) a (inr i) = good-in token tokens a.1 i

-- the token is no copy of a renamed one, and its place is kept apart from others
record IsStill (r : Renaming) (token : PlainToken) : Type 0 where
  untouched : is_renamed r token.origin.file token.origin.span ≡ false
  stands : StandsAt r token.origin.file token.origin.span

name-if : (r : Renaming) (token : PlainToken) → is_renamed r token.origin.file token.origin.span ≡ false → IsNameIfRenamed r token
name-if r token e h = let f : ⊥ = cc in absurd f

names-if : (r : Renaming) (tokens : List PlainToken) → AllByRecursion (λ token. is_renamed r token.origin.file token.origin.span ≡ false) tokens → AllByRecursion (IsNameIfRenamed r) tokens
names-if r [] a = tt
names-if r (token ∷ tokens) a = (name-if r token a.0, names-if r tokens a.1)

all-still : (r : Renaming) (tokens : List PlainToken) → AllByRecursion (λ token. is_renamed r token.origin.file token.origin.span ≡ false) tokens → AllByRecursion (λ token. StandsAt r token.origin.file token.origin.span) tokens → AllByRecursion (IsStill r) tokens
all-still r [] a b = tt
all-still r (token ∷ tokens) a b = (record { untouched = a.0; stands = b.0 }, all-still r tokens a.1 b.1)

same-spelling : (r : Renaming) (token : PlainToken) → IsStill r token → SameSpelling token (renamed_token r token)
same-spelling r token still = record { kind = refl; text = let e = still.untouched in rw e refl }

module _ (units_are : UntouchedUnitsAreAlike) (names_are : RenamedAreNames) (trees_are : TreesAreRenamed) (have : TextsHaveLines) (parted : LinesHaveParts) (decided : ValuesAreDecided) where
  one-over : (r : Renaming) (s : Sources) (number : ℕ) → FitsFiles r s.files → IsUnitOf s number → ReadsNoRenamed r s number → GoesOver r s number
  one-over r s number fits unit unread = record {
    over = λ outcome before. (units_are r s number outcome fits unit unread before).0;
    names = λ tokens before.
        All-from_recursion (IsNameIfRenamed r) tokens
        (names-if r tokens (recursion_from_All (λ token. is_renamed r token.origin.file token.origin.span ≡ false) tokens (names_are.are_none r s number tokens fits unit unread before)));
  }

  still-over : (r : Renaming) (s : Sources) (numbers : List ℕ) → AreUntouched r s numbers → AllByRecursion (GoesOver r s) numbers
  still-over r s numbers still = each numbers (recursion_from_All (IsUnitOf s) numbers still.units) (recursion_from_All (ReadsNoRenamed r s) numbers still.unread)
    where
      each : (all : List ℕ) → AllByRecursion (IsUnitOf s) all → AllByRecursion (ReadsNoRenamed r s) all → AllByRecursion (GoesOver r s) all
      each [] units unread = tt
      each (number ∷ all) units unread = (one-over r s number still.fits units.0 unread.0, each all units.1 unread.1)

  module _ (have_misplaced : FilesHaveMisplaced) (comes : TokensComeFromActive) (apart : TokensStandApart) (ordered : PlacesKeepTheirOrder) where
    given-still : (r : Renaming) (s : Sources) (number : ℕ) (tokens : List PlainToken) → FitsFiles r s.files → IsUnitOf s number → ReadsNoRenamed r s number → IsGiven s number tokens → AllByRecursion (IsStill r) tokens
    given-still r s number tokens fits unit unread given =
        all-still r tokens
        (recursion_from_All (λ token. is_renamed r token.origin.file token.origin.span ≡ false) tokens (names_are.are_none r s number tokens fits unit unread given))
        (given-stand r ordered apart s fits unit.few x are (have_misplaced s x are).misplaced (have_misplaced s x are).are_misplaced comes number unit tokens (given x are))
      where
        x : Syntax
        x = the_syntax have parted decided s

        are : IsSyntaxOf s x
        are = is-syntax have parted decided s

    all-given : (r : Renaming) (s : Sources) → FitsFiles r s.files → (numbers : List ℕ) (tokens : List (List PlainToken)) → AllByRecursion (IsUnitOf s) numbers → AllByRecursion (ReadsNoRenamed r s) numbers → AllZip (IsGiven s) numbers tokens → AllByRecursion (AllByRecursion (IsStill r)) tokens
    all-given r s fits [] [] units unread are = tt
    all-given r s fits [] (of_unit ∷ tokens) units unread are = absurd are
    all-given r s fits (number ∷ numbers) [] units unread are = absurd are
    all-given r s fits (number ∷ numbers) (of_unit ∷ tokens) units unread are =
        (given-still r s number of_unit fits units.0 unread.0 are.0, all-given r s fits numbers tokens units.1 unread.1 are.1)

    only-moved : (r : Renaming) (s : Sources) (numbers : List ℕ) (units : List PlainTree) → AreUntouched r s numbers → AreTreesOf s numbers units → AreOnlyMoved r (tokens_of units)
    only-moved r s numbers units still are = record {
      spellings = λ a i. same-spelling r a (at a i);
      places = λ a b i j. same-places r a b (at a i).stands (at b j).stands;
    }
      where
        all : AllByRecursion (IsStill r) (tokens_of units)
        all =
            of-units (IsStill r) are.tokens units
            (all-given r s still.fits numbers are.tokens (recursion_from_All (IsUnitOf s) numbers still.units) (recursion_from_All (ReadsNoRenamed r s) numbers still.unread) are.preprocessed) are.parsed

        at : (a : PlainToken) → Contains (tokens_of units) a → IsStill r a
        at a i = good-in (IsStill r) a (tokens_of units) all (in-of a (tokens_of units) i)

    pub untouched-alike : UntouchedProductsAreAlike
    untouched-alike = record {
      have_moved = λ r s numbers units still are. have-renamed trees_are r s numbers units (still-over r s numbers still) are;
      no_others = λ r s numbers units others still are are'. no-others trees_are r s have parted decided numbers units others (still-over r s numbers still) are are';
      only_moved = only-moved;
      refused = λ r s number why fits unit unread before. (one-over r s number fits unit unread).over (is_refused why) before;
      treeless = λ r s number fits unit unread before. treeless-over trees_are r s number (one-over r s number fits unit unread) before;
    }
