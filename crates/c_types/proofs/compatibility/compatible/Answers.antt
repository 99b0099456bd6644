use Rattle.c_types.specs.Types.{plain_type}
use Rattle.c_types.specs.Tags.{plain_tags}
use Rattle.c_types.proofs.ClosureLaws.{compatible_by, closure_of}
use Rattle.c_types.proofs.compatibility.compatible.Goals as goal

pub returns : goal.returns
returns c =
    let first = plain_tags c.args.ta.now in
    let second = plain_tags c.args.tb.now in
    let a = plain_type c.args.a.now in
    let b = plain_type c.args.b.now in
    let agreed = rw c.if-not-branch.false at c.in_ok-agree.ensures in
    let notes = rw c.new-found.ensures.items at agreed in
    let both = rw (c.deref.ensures.value, c.deref-2.ensures.value) at c.in_ok-found_agree.ensures in
    (λ t. compatible_by first second a b c.agree.new.found.items notes (both.0 t), λ h. both.1 (closure_of first second a b c.agree.new.found.items notes h))
