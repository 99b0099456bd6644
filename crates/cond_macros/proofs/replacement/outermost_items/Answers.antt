use Rattle.std.proofs.Common.{[], ◌∷◌, ◌++◌, map, List, sym, ap, subst, ◌∙◌, arith}
use Rattle.c_text.specs.Token.{plain_token}
use Rattle.c_text.specs.Macros as spec
use Rattle.cond_formula.specs.Conditions.{Condition, condition_of, value}
use Rattle.conditional.specs.declared.entries.Guarded.{Guarded}
use Rattle.conditional.specs.Entries.{entries_of, seen, under}
use Rattle.cond_bodies.specs.declared.item.Item.{Item}
use Rattle.cond_bodies.specs.CondItems.{item_at, items_at}
use Rattle.cond_bodies.proofs.ItemLemmas.{seen_pushed}
use Rattle.cond_macros.specs.Owned.{IsOwn, AreOwn}
use Rattle.cond_runs.proofs.ArgumentLemmas.{form_step, form_end}
use Rattle.cond_macros.proofs.CondRunLemmas.{own_pushed}
use Rattle.cond_macros.proofs.replacement.outermost_items.Goals as goal

pub loop-entry-preserved : goal.loop-entry-preserved
loop-entry-preserved c = record {
  items = λ on.
      let x = c.entry-item.result in
      let so_far = items_at on c.loop-entry.items.items in
      form_step spec.fresh (λ t. plain_token t.now) on c.args.tokens.now x c.loop-entry.entry-index so_far (items_at on c.push.new.self.items) (map spec.fresh (seen on (entries_of (λ t. plain_token t.now) c.args.tokens.now)))
      c.loop-entry-test.true c.entry-item.is (c.loop-entry.invariant.items on)
      (seen_pushed (item_at on) on _ _ _ c.in_ok-push.ensures.items
      ∙ ap (λ (d : Condition). so_far ++ under (value on d) (item_at on c.fresh.result ∷ [])) c.in_ok-try_clone.ensures
      ∙ ap (λ (i : spec.Item). so_far ++ under (value on (condition_of x.when)) (i ∷ [])) (c.fresh.ensures.item on));
  own =
      let own : IsOwn c.fresh.result = record { token = λ on. ap (λ (i : spec.Item). i.token) (c.fresh.ensures.item on) ∙ ap plain_token (sym c.fresh.ensures.token) } in
      subst (λ (l : List (Guarded Item)). AreOwn l) (sym c.in_ok-push.ensures.items) (own_pushed c.loop-entry.items.items _ c.loop-entry.invariant.own own);
}

pub returns-clause-items : goal.returns-clause-items
returns-clause-items c = λ on.
    form_end spec.fresh (λ t. plain_token t.now) on c.args.tokens.now c.loop-entry.entry-index (items_at on c.loop-entry.items.items) (map spec.fresh (seen on (entries_of (λ t. plain_token t.now) c.args.tokens.now))) (omega arith) (c.loop-entry.invariant.items on)
