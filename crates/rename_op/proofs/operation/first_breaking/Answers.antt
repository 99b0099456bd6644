use Rattle.std.proofs.Common.{[], sym, subst}
use Rattle.rename_op.specs.Outcomes.{AreShown}
use Rattle.rename_op.specs.Asked.{BreaksIn, project_of}
use Rattle.rename_op.proofs.operation.first_breaking.Goals as goal

pub returns : goal.returns
returns c = λ place is.
    let asked = c.args.asked.now in
    let none = subst (AreShown (project_of asked) (BreaksIn asked place) []) (sym c.new.ensures.items) tt in
    c.in_ok-capture.ensures.next place is
    (c.in_ok-fixed.ensures.next place is
    (c.in_ok-macro_name.ensures.next place is (c.in_ok-in_macro_body.ensures.next place is (c.in_ok-broken.ensures.next place is none))))
