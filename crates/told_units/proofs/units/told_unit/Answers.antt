use Rattle.std.proofs.Common.{◌++◌, ap, ◌∙◌}
use Rattle.std.specs.List.{list_any}
use Rattle.cond_formula.specs.Features.{has}
use Rattle.cond_pairings.specs.Pairs.{pairs_seen}
use Rattle.member_pairs.specs.Members.{tag_of, pairs_of_uses}
use Rattle.cond_unit_uses.specs.Noted.{uses_at}
use Rattle.read_occurrences.specs.Read.{is_own_pair, names_read}
use Rattle.told_units.specs.Told.{bound_pairs}
use Rattle.told_units.proofs.units.told_unit.Goals as goal

pub returns-clause-told : goal.returns-clause-told
returns-clause-told g c = λ n admitted.
    let on = has n in
    let spaced = c.in_ok-spaced.ensures.spaced n admitted in
    let pairs = c.in_ok-pairs.pairs.items in
    record {
      pairs = c.in_ok-pairs.ensures on ∙ ap (λ l. bound_pairs on c.args.bound.now ++ pairs_of_uses (tag_of c.args.tables.now) l (uses_at on c.args.uses.now)) spaced;
      names = λ unit tells.
          c.in_ok-names.ensures on unit (pairs_seen on pairs) tells
          (λ number. c.in_ok-own.ensures on number ∙ ap (λ l. list_any (is_own_pair number) (pairs_seen on l)) c.deref.ensures.value)
          ∙ ap (names_read unit (pairs_seen on pairs)) spaced;
    }
