use Rattle.std.proofs.Common.{not, refl, sym, subst, IsTrue}
use Rattle.std.specs.Prelude.{filter}
use Rattle.link_faults.specs.SeenUnits.{is_present}
use Rattle.link_faults.proofs.SeenLaws.{main_seen, undefined_seen, duplicate_seen}
use Rattle.link_faults.proofs.laws.faults_are_those_of_what_is_seen.Goals as goal

pub returns-clause-no_main : goal.returns-clause-no_main
returns-clause-no_main c = λ on tables by linked units h.
    let e = main_seen on tables by linked.structs linked.units (filter (is_present on) units) h in
    (λ f. subst (λ b. IsTrue (not b)) e f.1, λ t. (refl, subst (λ b. IsTrue (not b)) (sym e) t))

pub returns-clause-undefined : goal.returns-clause-undefined
returns-clause-undefined c = λ on tables by linked units h name.
    let e = undefined_seen on tables by linked.structs linked.units (filter (is_present on) units) h name in
    (λ f. subst (λ b. IsTrue b) e f, λ t. subst (λ b. IsTrue b) (sym e) t)

pub returns-clause-duplicate : goal.returns-clause-duplicate
returns-clause-duplicate c = λ on tables by linked units h name.
    let e = duplicate_seen on tables by linked.structs linked.units (filter (is_present on) units) h name in
    (λ f. subst (λ b. IsTrue b) e f, λ t. subst (λ b. IsTrue b) (sym e) t)
