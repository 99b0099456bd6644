use Rattle.std.proofs.Common.{[], ◌∷◌, ◌++◌, sym, ap, ◌∙◌, subst}
use Rattle.cond_formula.specs.Features.{has}
use Rattle.cond_formula.specs.Conditions.{condition_of, value}
use Rattle.conditional.specs.Entries.{seen, under}
use Rattle.choice_variants.specs.Variants.{followed, AreAllLow}
use Rattle.choice_variants.proofs.Listing.{variant_added, all_low-end}
use Rattle.choice_variants.proofs.alternatives.push_longer.Goals as goal

pub returns-clause-adds : goal.returns-clause-adds
returns-clause-adds g c = λ n rest admitted.
    variant_added (has n) rest (record { when = c.args.when; parts = c.in_ok-parts.parts }) c.args.all.now.items c.push.new.self.items c.in_ok-push.ensures.items
    ∙ ap (λ what. seen (has n) (followed (has n) rest c.args.all.now.items) ++ under (value (has n) (condition_of c.args.when)) (what ∷ [])) (c.in_ok-parts.ensures.shows (has n) rest)

pub returns-clause-low : goal.returns-clause-low
returns-clause-low g c = λ n low also before.
    subst (AreAllLow n) (sym c.in_ok-push.ensures.items)
    (all_low-end n c.args.all.now.items (record { when = c.args.when; parts = c.in_ok-parts.parts }) before (c.in_ok-parts.ensures.low n low also))
