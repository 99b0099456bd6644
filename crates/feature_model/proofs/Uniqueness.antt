-- A text has one list of tokens and one tree at most; and what its reading says of them.
use Rattle.std.proofs.Common.{◌≡◌, ℕ, List, Some, None, subst}
use Rattle.feature_model.specs.Tokens.{Token}
use Rattle.feature_model.specs.Trees.{Tree, Spells}
use Rattle.feature_model.specs.Bytes.{tokens_of}
use Rattle.feature_model.specs.Constraints.{IsConstraint}
use Rattle.feature_model.specs.Laws.{TokensAreOne, TreeIsOne}
use Rattle.feature_model.proofs.Lexing.{writing_read}
use Rattle.feature_model.proofs.Readings.{one_tree}

pub tokens_are_one : TokensAreOne
tokens_are_one text a b v w = let x = writing_read text a v in let y = writing_read text b w in cc

pub tree_is_one : TreeIsOne
tree_is_one text a b v w =
    let e : w.tokens ≡ v.tokens = tokens_are_one text w.tokens v.tokens w.written v.written in
    let P : List Token → Type 0 = λ l. Spells l b in
    one_tree v.tokens a b v.spelled (subst P e w.spelled)

-- the tree of a text is that of the tokens that are read
pub spells_what_is_read :
    (text : List ℕ) (tokens : List Token) (tree : Tree) → tokens_of text ≡ Some tokens → IsConstraint text tree
    → Spells tokens tree
spells_what_is_read text tokens tree e c =
    let x = writing_read text c.tokens c.written in
    let same : c.tokens ≡ tokens = cc in
    let P : List Token → Type 0 = λ l. Spells l tree in
    subst P same c.spelled

-- a text of no tokens is no constraint
pub nothing_read : (text : List ℕ) (tree : Tree) → tokens_of text ≡ None → IsConstraint text tree → ⊥
nothing_read text tree e c = let x = writing_read text c.tokens c.written in absurd cc
