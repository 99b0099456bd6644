use Rattle.std.proofs.Common.{sym, subst}
use Rattle.cond_formula.specs.Features.{has}
use Rattle.cond_declarators.specs.Types.{ShowsType}
use Rattle.cond_declarators.specs.Elements.{struct_if_any}
use Rattle.cond_declarators.proofs.bases.types_of_tag.Goals as goal

pub returns-in_ok-types-in-Some-clause-shows : goal.returns-in_ok-types-in-Some-clause-shows
returns-in_ok-types-in-Some-clause-shows g c = λ n admitted.
    subst (λ o. ShowsType (has n) (struct_if_any o) c.in_ok-types-in-Some.types) (sym (c.in-Some.ensures (has n))) (c.in_ok-types-in-Some.ensures.shows n admitted)

pub returns-in_ok-none-in-None-clause-shows : goal.returns-in_ok-none-in-None-clause-shows
returns-in_ok-none-in-None-clause-shows g c = λ n admitted.
    subst (λ o. ShowsType (has n) (struct_if_any o) c.in_ok-none-in-None.none) (sym (c.in-None.ensures (has n))) (c.in_ok-none-in-None.ensures (has n))
