use Rattle.std.proofs.Common.{◌≡◌, ◌+◌, List, ◌∷◌, ◌++◌, drop, sym, ap, ◌∙◌, subst}
use Rattle.cond_formula.specs.Features.{has}
use Rattle.cond_formula.specs.Conditions.{value}
use Rattle.conditional.specs.Entries.{seen}
use Rattle.declarator_lists.specs.Lists.{declared_in}
use Rattle.declarator_lists.specs.Entries.{entries_at, listed_at}
use Rattle.declarator_lists.specs.declared.items.ListEntry.{ListEntry}
use Rattle.declarator_lists.proofs.Declarators.{one_entry, no_entry}
use Rattle.declarator_lists.proofs.listed.listed_declarators.Goals as goal

pub loop-place-init : goal.loop-place-init
loop-place-init g c = record {
  kept = c.in_ok-entries.ensures.kept;
  so_far = λ n admitted. ap (λ list. seen (has n) (listed_at (has n) list) ++ declared_in (seen (has n) (entries_at (has n) c.deref-entry-items.result.now))) c.in_ok-all.ensures.items;
}

pub loop-place-preserved : goal.loop-place-preserved
loop-place-preserved g c = record {
  kept = c.in_ok-push_if_declarator.ensures.kept ∙ c.loop-place.invariant.kept;
  so_far = λ n admitted.
      one_entry (has n) c.deref-entry-items.result.now c.loop-place.place c.entry-item.result
      (seen (has n) (listed_at (has n) c.loop-place.all.items)) (seen (has n) (listed_at (has n) c.push_if_declarator.new.all.items))
      c.loop-place-test.true c.entry-item.is
      (subst (λ (behind : List ListEntry). seen (has n) (listed_at (has n) c.push_if_declarator.new.all.items) ++ declared_in (seen (has n) (entries_at (has n) behind))
      ≡ seen (has n) (listed_at (has n) c.loop-place.all.items) ++ declared_in (seen (has n) (entries_at (has n) (c.entry-item.result ∷ behind))))
      (c.split_at.ensures.back ∙ ap (drop (c.loop-place.place + 1)) (c.deref.ensures.value ∙ sym c.deref-entry-items.ensures.value))
      (c.in_ok-push_if_declarator.ensures.adds n (ap (value (has n)) c.loop-place.invariant.kept ∙ admitted)))
      (c.loop-place.invariant.so_far n admitted);
}

pub returns-clause-seen : goal.returns-clause-seen
returns-clause-seen g c = λ n kind admitted no_statement.
    no_entry (has n) c.deref-entry-items.result.now c.loop-place.place (seen (has n) (listed_at (has n) c.loop-place.all.items)) c.loop-place-test.false (c.loop-place.invariant.so_far n admitted)
    ∙ (ap (λ list. declared_in (seen (has n) (entries_at (has n) list))) c.deref-entry-items.ensures.value
    ∙ ap declared_in (c.in_ok-entries.ensures.seen n kind admitted no_statement))
