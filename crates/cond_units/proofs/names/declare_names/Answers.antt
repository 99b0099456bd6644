use Rattle.std.proofs.Common.{◌≡◌, sym, refl, ap, ◌∙◌, subst}
use Rattle.cond_formula.specs.Features.{has}
use Rattle.cond_formula.specs.Conditions.{value}
use Rattle.conditional.specs.Entries.{seen}
use Rattle.c_tree.specs.declared.kinds.Kind.TheVariants as k
use Rattle.choice_trees.specs.ChoiceTrees.{plain_choices, parts_at}
use Rattle.declarator_lists.specs.Lists.{declared_in, trees_of}
use Rattle.declarator_lists.specs.Entries.{listed_at}
use Rattle.cond_units.proofs.names.declare_names.Goals as goal

pub returns-clause-declares : goal.returns-clause-declares
returns-clause-declares g c = λ n globals role admitted.
    c.in_ok-refused.ensures.declares n globals role (parts_at (has n) k.Declarators 0 (plain_choices c.args.parts.now)) (ap (value (has n)) c.in_ok-all.ensures.kept ∙ admitted)
    (subst (λ list. seen (has n) (listed_at (has n) list) ≡ declared_in (trees_of (parts_at (has n) k.Declarators 0 (plain_choices c.args.parts.now)))) (sym c.deref.ensures.value)
    (c.in_ok-all.ensures.seen n k.Declarators admitted (λ place. refl)))
