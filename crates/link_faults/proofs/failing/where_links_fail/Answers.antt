use Rattle.std.proofs.Common.{◌∙◌, sym, ap, subst, map, List, ℕ}
use Rattle.std.specs.Prelude.{IsTrue}
use Rattle.std.specs.List.{list_any}
use Rattle.std.specs.Str.{bytes_eq}
use Rattle.cond_formula.specs.Features.{has}
use Rattle.cond_formula.specs.Conditions.{condition_of, value}
use Rattle.link_faults.proofs.FaultLaws.{fails, links}
use Rattle.link_faults.proofs.failing.where_links_fail.Goals as goal

pub returns-clause-fails : goal.returns-clause-fails
returns-clause-fails g c = λ n by linked admitted alike follow h.
    fails (has n) c.args.tables.now by linked c.args.units.now (map (λ v. v.items) c.as_slice.result.now)
    (value (has n) (condition_of c.in_ok-no_main.no_main)) (value (has n) (condition_of c.in_ok-faulty.faulty)) alike
    (c.in_ok-no_main.ensures (has n)) (c.in_ok-faulty.ensures.exact n by linked admitted alike follow)
    (subst IsTrue (c.in_ok-f.ensures (has n)) h)

pub returns-clause-links : goal.returns-clause-links
returns-clause-links g c = λ n by linked admitted alike follow h.
    links (has n) c.args.tables.now by linked c.args.units.now (map (λ v. v.items) c.as_slice.result.now)
    (value (has n) (condition_of c.in_ok-no_main.no_main)) (value (has n) (condition_of c.in_ok-faulty.faulty)) alike
    (c.in_ok-no_main.ensures (has n)) (c.in_ok-faulty.ensures.exact n by linked admitted alike follow)
    (λ name. ap (λ (names : List (List ℕ)). list_any (bytes_eq name) names) c.as_slice.ensures.names ∙ c.in_ok-names.ensures name)
    (sym (c.in_ok-f.ensures (has n)) ∙ h)
