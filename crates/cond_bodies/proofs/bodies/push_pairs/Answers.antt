use Rattle.std.proofs.Common.{List, ◌∷◌, ◌++◌, ◌+◌, map, drop, if◌then◌else◌, sym, ap, ◌∙◌, arith}
use Rattle.c_text.specs.Token.{plain_token}
use Rattle.cond_formula.specs.Conditions.{condition_of, value}
use Rattle.cond_bodies.specs.Slots.{PlainSlot, slot_at, slots_at, slot_of}
use Rattle.cond_bodies.proofs.ItemLemmas.{seen_next}
use Rattle.cond_bodies.proofs.SlotLemmas.{map_next, pairs_cases, pairs_end, unseen_entry}
use Rattle.cond_bodies.proofs.bodies.push_pairs.Goals as goal

pub loop-i-preserved : goal.loop-i-preserved
loop-i-preserved c = λ on none.
    let w = value on (condition_of c.args.when.now) in
    let f = slot_of (map (λ n. n.items) c.args.params.now) in
    let i = c.loop-i.i in
    let slots = c.args.slots.now in
    let tokens = c.args.tokens.now in
    let x = c.index-slots-i.result in
    let token = c.index-tokens-i.result in
    let so_far = slots_at on c.loop-i.all.items in
    let next_slots = seen_next (slot_at on) on slots x i c.loop-i-test.true c.index-slots-i.is in
    let next_tokens = map_next f plain_token tokens token i (omega (arith, c.requires)) c.index-tokens-i.is in
    pairs_cases w (value on (condition_of x.when)) (slot_at on x.what) (f (plain_token token)) (slots_at on (drop (i + 1) slots)) (map f (map plain_token (drop (i + 1) tokens)))
    so_far (slots_at on c.push_pair.new.all.items) (slots_at on c.args.all.now.items ++ (if w then map f (map plain_token tokens) else slots_at on slots))
    (ap (λ (l : List PlainSlot). so_far ++ (if w then l else (if value on (condition_of x.when) then slot_at on x.what ∷ slots_at on (drop (i + 1) slots) else slots_at on (drop (i + 1) slots)))) (sym next_tokens)
    ∙ ap (λ (l : List PlainSlot). so_far ++ (if w then map f (map plain_token (drop i tokens)) else l)) (sym next_slots)
    ∙ c.loop-i.invariant on none)
    (c.in_ok-push_pair.ensures on (λ e. unseen_entry (slot_at on) on slots x i c.loop-i-test.true c.index-slots-i.is (none e)))

pub returns : goal.returns
returns c = λ on none.
    let w = value on (condition_of c.args.when.now) in
    let f = slot_of (map (λ n. n.items) c.args.params.now) in
    pairs_end f plain_token (slot_at on) on w c.args.tokens.now c.args.slots.now c.loop-i.i (slots_at on c.loop-i.all.items) (slots_at on c.args.all.now.items ++ (if w then map f (map plain_token c.args.tokens.now) else slots_at on c.args.slots.now))
    (omega arith) (omega (arith, c.requires)) (c.loop-i.invariant on none)
