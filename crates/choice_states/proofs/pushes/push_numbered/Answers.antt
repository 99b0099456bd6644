use Rattle.std.proofs.Common.{◌<◌, length, arith}
use Rattle.choice_states.proofs.PartLists.{put_nothing, put_values, put_aligned}
use Rattle.choice_states.proofs.pushes.push_numbered.Goals as goal

pub returns-clause-elsewhere : goal.returns-clause-elsewhere
returns-clause-elsewhere c =
    let within : c.args.number < length c.pad.new.parts.items = omega (arith, c.in_ok-pad.ensures.many) in
    λ on.
    put_nothing on c.args.parts.now.items c.pad.new.parts.items c.remove-old.new.self.items c.insert.new.self.items c.args.number c.args.part c.remove-old.result (record { branches = c.append.new.self })
    (c.in_ok-pad.ensures.same on) within c.remove-old.ensures.items c.in_ok-insert.ensures.items c.remove-old.ensures.value c.in_ok-append.ensures.items

pub returns-clause-values : goal.returns-clause-values
returns-clause-values c =
    let within : c.args.number < length c.pad.new.parts.items = omega (arith, c.in_ok-pad.ensures.many) in
    λ on.
    put_values on c.args.parts.now.items c.pad.new.parts.items c.remove-old.new.self.items c.insert.new.self.items c.args.number c.args.part c.remove-old.result (record { branches = c.append.new.self })
    (c.in_ok-pad.ensures.same on) within c.remove-old.ensures.items c.in_ok-insert.ensures.items c.remove-old.ensures.value c.in_ok-append.ensures.items

pub returns-clause-aligned : goal.returns-clause-aligned
returns-clause-aligned c =
    let within : c.args.number < length c.pad.new.parts.items = omega (arith, c.in_ok-pad.ensures.many) in
    λ on.
    put_aligned on c.args.parts.now.items c.pad.new.parts.items c.remove-old.new.self.items c.insert.new.self.items c.args.number c.args.part c.remove-old.result (record { branches = c.append.new.self })
    (c.in_ok-pad.ensures.same on) within c.remove-old.ensures.items c.in_ok-insert.ensures.items c.remove-old.ensures.value c.in_ok-append.ensures.items
