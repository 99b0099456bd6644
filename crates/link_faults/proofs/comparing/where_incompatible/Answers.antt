use Rattle.std.proofs.Common.{◌∙◌, sym, ap, subst, List}
use Rattle.std.specs.Prelude.{◌↔◌, IsTrue}
use Rattle.std.specs.List.{list_any}
use Rattle.cond_formula.specs.Features.{has}
use Rattle.conditional.specs.declared.entries.Guarded.{Guarded}
use Rattle.core_meaning.specs.Linking.{external_sorts}
use Rattle.cond_compatible.specs.Depths.{sorts_agree}
use Rattle.cond_compatible.specs.SeenTags.{tags_seen, said_alike}
use Rattle.cond_compatible.proofs.AgreeingSorts.{sorts_told}
use Rattle.link_faults.specs.SeenUnits.{units_seen}
use Rattle.link_faults.specs.declared.gathered.Declared.{Declared}
use Rattle.link_faults.specs.Apart.{AreSeenApart}
use Rattle.link_faults.specs.Gathered.{are_apart}
use Rattle.link_faults.proofs.ApartLaws.{some_apart_is, apart_told}
use Rattle.link_faults.proofs.comparing.where_incompatible.Goals as goal

pub returns-clause-exact : goal.returns-clause-exact
returns-clause-exact g c = λ n admitted.
    let tables = c.args.tables.now in
    let units = c.args.units.now in
    let name = c.args.name.now in
    let agree = sorts_agree (said_alike (has n) c.args.alike.now) in
    let sorts = external_sorts (units_seen (has n) tables units) name in
    subst (λ b. IsTrue b ↔ AreSeenApart (has n) tables units name)
    (sym (c.in_ok-f.ensures.exact n admitted
    ∙ ap (λ (all : List (Guarded Declared)). list_any (λ a. list_any (are_apart (has n) tables agree a) all) all) c.deref.ensures.value
    ∙ some_apart_is (has n) tables agree c.in_ok-all.all.items sorts (c.in_ok-all.ensures (has n) tables)))
    (apart_told (tags_seen (has n) tables) agree
    (sorts_told (said_alike (has n) c.args.alike.now) (tags_seen (has n) tables) (λ a b. c.requires n a b admitted)) sorts)
