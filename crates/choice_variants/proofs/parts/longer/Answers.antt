use Rattle.std.proofs.Common.{ap, ◌∙◌, sym, subst}
use Rattle.choice_variants.specs.Variants.{before, perhaps_before, AreLow}
use Rattle.choice_variants.proofs.Listing.{some_more, low_with}
use Rattle.choice_variants.proofs.parts.longer.Goals as goal
use Rattle.choice_variants.proofs.parts.longer.Goals.{in-Some+in_ok-push, in_default}

pub returns-clause-shows : goal.returns-clause-shows
returns-clause-shows c =
    elim c.match-part.branch [
      | in-Some+in_ok-push w ↦ λ on rest.
          some_more on c.args.parts.now c.in_ok-all.all.items c.match-part.all.items c.args.part w.in-Some.part c.in_ok-all.ensures.items w.in-Some.is
          (ap (λ v. v.items) w.all-is ∙ w.in_ok-push.ensures.items) rest
      | in_default w ↦ λ on rest.
          ap (λ items. before on items rest) (ap (λ v. v.items) w.all-is ∙ c.in_ok-all.ensures.items) ∙ ap (λ o. before on c.args.parts.now (perhaps_before on o rest)) (sym w.in_default.is)
    ]

pub returns-clause-low : goal.returns-clause-low
returns-clause-low c =
    elim c.match-part.branch [
      | in-Some+in_ok-push w ↦ λ n low also.
          low_with n c.args.parts.now c.in_ok-all.all.items c.match-part.all.items c.args.part w.in-Some.part c.in_ok-all.ensures.items w.in-Some.is
          (ap (λ v. v.items) w.all-is ∙ w.in_ok-push.ensures.items) low also
      | in_default w ↦ λ n low also. subst (AreLow n) (sym (ap (λ v. v.items) w.all-is ∙ c.in_ok-all.ensures.items)) low
    ]
