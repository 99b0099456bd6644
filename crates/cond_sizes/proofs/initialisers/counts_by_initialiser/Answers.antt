use Rattle.std.proofs.Common.{◌≡◌, Bool, IsTrue, IfOk, List, sym, ap, ap₂, ◌∙◌, subst}
use Rattle.std.proofs.lemmas.Result.{IfOk-weaker}
use Rattle.cond_formula.specs.Features.{has}
use Rattle.cond_formula.specs.Conditions.{value}
use Rattle.c_types.specs.Types.{PlainType}
use Rattle.c_tree.specs.declared.kinds.Kind.TheVariants.{Braces}
use Rattle.choice_trees.specs.ChoiceTrees.{inner, plain_item, plain_choices, item_at}
use Rattle.choice_trees.specs.ItemLaws.{plain_item-Node}
use Rattle.core_meaning.specs.Constancy.{count_by_initialiser, is_character_type}
use Rattle.cond_sizes.specs.Sizes.{given, ShowsCount}
use Rattle.cond_sizes.proofs.initialisers.counts_by_initialiser.Goals as goal

pub returns-in-Braces-clause-shows : goal.returns-in-Braces-clause-shows
returns-in-Braces-clause-shows g c =
    subst (λ item. IfOk c.in_braces.result (λ all. (n : List Bool) (element : PlainType) → IsTrue (value (has n) (g.O.Oracle.admits c.args.oracle.now)) → is_character_type element ≡ c.args.of_characters
    → ShowsCount (has n) (given (count_by_initialiser element (item_at (has n) item))) all))
    (sym (ap plain_item c.in-Node.is ∙ (plain_item-Node c.in-Node.kind c.in-Node.parts ∙ ap₂ (λ kind parts. inner kind (plain_choices parts)) c.in-Braces.is (sym c.deref.ensures.value))))
    (IfOk-weaker c.in_braces.result
    (λ all. (n : List Bool) (element : PlainType) → IsTrue (value (has n) (g.O.Oracle.admits c.args.oracle.now))
    → ShowsCount (has n) (given (count_by_initialiser element (item_at (has n) (inner Braces (plain_choices c.deref.result.now))))) all)
    (λ all. (n : List Bool) (element : PlainType) → IsTrue (value (has n) (g.O.Oracle.admits c.args.oracle.now)) → is_character_type element ≡ c.args.of_characters
    → ShowsCount (has n) (given (count_by_initialiser element (item_at (has n) (inner Braces (plain_choices c.deref.result.now))))) all)
    (λ all h n element admitted is. h n element admitted) c.in_braces.ensures.shows)
