use Rattle.std.proofs.Common.{◌≡◌, List, ◌++◌, map, if◌then◌else◌, sym, ap, ◌∙◌}
use Rattle.c_text.specs.Token.{plain_token}
use Rattle.cond_formula.specs.Conditions.{condition_of, value}
use Rattle.conditional.specs.declared.entries.Guarded.{Guarded}
use Rattle.cond_bodies.specs.declared.slot.Slot.{Slot}
use Rattle.cond_bodies.specs.Slots.{PlainSlot, slot_at, slots_at, slot_of}
use Rattle.cond_bodies.proofs.SlotLemmas.{seen_parts, maps_parts, joined_cases, parts_unseen}
use Rattle.cond_bodies.proofs.bodies.joined.Goals as goal

pub returns : goal.returns
returns c = λ on none.
    let w = value on (condition_of c.args.when.now) in
    let f = slot_of (map (λ n. n.items) c.args.function.now.params.now) in
    let slots = c.args.slots.now in
    let first = c.split_at.result.0.now in
    let rest = c.split_at.result.1.now in
    let middle = c.split_at-3.result.0.now in
    let last = c.split_at-3.result.1.now in
    let body = c.args.function.now.body.now in
    let first_tokens = c.split_at-2.result.0.now in
    let tokens = c.split_at-2.result.1.now in
    let own_tokens = c.split_at-4.result.0.now in
    let last_tokens = c.split_at-4.result.1.now in
    let all_slots : slots_at on slots ≡ slots_at on first ++ (slots_at on middle ++ slots_at on last) =
    seen_parts (slot_at on) on _ slots first rest c.split_at.ensures.front c.split_at.ensures.back
    ∙ ap (λ (l : List PlainSlot). slots_at on first ++ l) (seen_parts (slot_at on) on _ rest middle last c.split_at-3.ensures.front c.split_at-3.ensures.back) in
    let all_tokens : map f (map plain_token body) ≡ map f (map plain_token first_tokens) ++ (map f (map plain_token own_tokens) ++ map f (map plain_token last_tokens)) =
    maps_parts f plain_token _ body first_tokens tokens c.split_at-2.ensures.front c.split_at-2.ensures.back
    ∙ ap (λ (l : List PlainSlot). map f (map plain_token first_tokens) ++ l) (maps_parts f plain_token _ tokens own_tokens last_tokens c.split_at-4.ensures.front c.split_at-4.ensures.back) in
    let unseen = parts_unseen w (slots_at on slots) (slots_at on first) (slots_at on middle) (slots_at on last) all_slots none in
    joined_cases w (slots_at on first) (slots_at on middle) (slots_at on last) (map f (map plain_token first_tokens)) (map f (map plain_token own_tokens)) (map f (map plain_token last_tokens))
    (slots_at on c.in_ok-all.all.items) (slots_at on c.push_pairs.new.all.items) (slots_at on c.push_slots.new.all.items) (slots_at on c.push_own.new.all.items) (slots_at on c.push_pairs-2.new.all.items)
    (λ e. (unseen e).1) (ap (λ (l : List (Guarded Slot)). slots_at on l) c.in_ok-all.ensures.items)
    (c.in_ok-push_pairs.ensures on (λ e. (unseen e).0)) (c.in_ok-push_slots.ensures on) (c.in_ok-push_own.ensures on) (c.in_ok-push_pairs-2.ensures on (λ e. (unseen e).2))
    ∙ ap (λ (l : List PlainSlot). if w then l else slots_at on first ++ (slots_at on middle ++ slots_at on last)) (sym all_tokens)
    ∙ ap (λ (l : List PlainSlot). if w then map f (map plain_token body) else l) (sym all_slots)
