use Rattle.std.proofs.Common.{◌≡◌, ℕ, Bool, ◌++◌, drop}
use Rattle.cond_formula.specs.Conditions.{condition_of, value}
use Rattle.conditional.specs.Entries.{seen, under}
use Rattle.choice_variants.specs.Variants.{shown}
use Rattle.cond_structs.specs.Listing.{all_in, declarations_at}
use Rattle.cond_structs.proofs.listing.push_variants.Given as goal

abbrev pub invariant-loop-variant : goal.invariant-loop-variant
invariant-loop-variant l = (on : ℕ → Bool) →
    seen on (declarations_at on l.all.items) ++ under (value on (condition_of l.here)) (all_in (seen on (shown on (drop l.variant-index l.variants))))
    ≡ seen on (declarations_at on l.fn.all.items) ++ under (value on (condition_of l.here)) (all_in (seen on (shown on l.variants)))
