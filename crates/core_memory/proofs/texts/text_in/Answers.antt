use Rattle.std.proofs.Common.{◌≡◌, ◌<◌, ◌+◌, ◌-◌, suc, arith, add-one, sym, ◌∙◌, ap}
use Rattle.core_cells.specs.Parts.{plain_stand}
use Rattle.core_memory.specs.MemoryForms.{plain_memory, structs_of}
use Rattle.core_memory.specs.TextForms.{text_onward}
use Rattle.core_memory.proofs.TextLemmas.{text_goes_on, text_ends, text_breaks}
use Rattle.core_memory.proofs.texts.text_in.Goals as goal

pub returns-in-None : goal.returns-in-None
returns-in-None c =
    let structs = structs_of c.args.memory.now in
    let m = plain_memory c.args.memory.now in
    let stand = plain_stand c.args.stand in
    let i = c.loop-index.index in
    let left = c.args.stand.count - (i + 1) in
    let count : c.args.stand.count - i ≡ suc left = omega (arith, c.loop-index-test.true) in
    sym (text_breaks structs m c.args.object stand left (c.args.stand.count - i) i c.loop-index.text.items count (sym c.in_ok-byte_at.ensures ∙ c.in-None.is))
    ∙ c.loop-index.invariant

pub returns-then-byte-eq0 : goal.returns-then-byte-eq0
returns-then-byte-eq0 c =
    let structs = structs_of c.args.memory.now in
    let m = plain_memory c.args.memory.now in
    let stand = plain_stand c.args.stand in
    let i = c.loop-index.index in
    let left = c.args.stand.count - (i + 1) in
    let count : c.args.stand.count - i ≡ suc left = omega (arith, c.loop-index-test.true) in
    sym (text_ends structs m c.args.object stand left (c.args.stand.count - i) i c.loop-index.text.items c.in-Some.byte count (sym c.in_ok-byte_at.ensures ∙ c.in-Some.is) c.if-byte-eq0.true)
    ∙ c.loop-index.invariant

pub loop-index-preserved : goal.loop-index-preserved
loop-index-preserved c =
    let structs = structs_of c.args.memory.now in
    let m = plain_memory c.args.memory.now in
    let stand = plain_stand c.args.stand in
    let i = c.loop-index.index in
    let left = c.args.stand.count - (i + 1) in
    let count : c.args.stand.count - i ≡ suc left = omega (arith, c.loop-index-test.true) in
    let more : 0 < c.in-Some.byte = omega (arith, c.if-byte-eq0.false) in
    ap (λ bytes. text_onward structs m c.args.object stand bytes left (i + 1)) c.in_ok-push-in-Some.ensures.items
    ∙ sym (text_goes_on structs m c.args.object stand left (c.args.stand.count - i) i (i + 1) c.loop-index.text.items c.in-Some.byte count (add-one i) (sym c.in_ok-byte_at.ensures ∙ c.in-Some.is) more)
    ∙ c.loop-index.invariant
