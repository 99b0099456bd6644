use Rattle.std.proofs.Common.{◌≡◌, Bool, List, [], ◌∷◌, ◌++◌, map, ◌||◌, if◌then◌else◌, refl, ap, ◌∙◌}
use Rattle.c_text.specs.Token.{plain_token}
use Rattle.cond_formula.specs.Conditions.{Condition, condition_of, value}
use Rattle.conditional.specs.Entries.{under}
use Rattle.cond_bodies.specs.declared.part.Part.{Part}
use Rattle.cond_bodies.specs.Slots.{PlainSlot, slot_at, slots_at, slot_of}
use Rattle.cond_bodies.proofs.ItemLemmas.{seen_pushed}
use Rattle.cond_bodies.proofs.SlotLemmas.{fit_cases}
use Rattle.cond_bodies.proofs.bodies.push_pair.Goals as goal

pub returns-then-fits : goal.returns-then-fits
returns-then-fits c = λ on off.
    let w = value on (condition_of c.args.when.now) in
    let t = value on (condition_of c.args.entry.now.when) in
    let x = slot_at on c.args.entry.now.what in
    let y = slot_of (map (λ n. n.items) c.args.params.now) (plain_token c.args.token.now) in
    let either : value on (condition_of c.in_ok-when.when) ≡ (t || w) =
    c.in_ok-when.ensures on
    ∙ ap (λ (d : Condition). value on d || value on (condition_of c.in_ok-try_clone-2.field-0)) c.in_ok-try_clone.ensures
    ∙ ap (λ (d : Condition). t || value on d) c.in_ok-try_clone-2.ensures in
    let what : slot_at on c.in_ok-what.what ≡ (if w then y else x) =
    c.in_ok-what.ensures on
    ∙ ap (λ (p : Part). if w then record { part = p; token = plain_token c.args.token.now } else x) (c.if-fits.ensures.part refl) in
    seen_pushed (slot_at on) on _ _ _ c.in_ok-push.ensures.items
    ∙ ap (λ (l : List PlainSlot). slots_at on c.args.all.now.items ++ l)
    (ap (λ (b : Bool). under b (slot_at on c.in_ok-what.what ∷ [])) either
    ∙ ap (λ (s : PlainSlot). under (t || w) (s ∷ [])) what
    ∙ fit_cases w t x y)
