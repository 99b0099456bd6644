use Rattle.c_types.proofs.pairs.numbered_agrees.Goals as goal

pub returns-in_ok-tag_agrees-in-Some : goal.returns-in_ok-tag_agrees-in-Some
returns-in_ok-tag_agrees-in-Some c = rw (← c.in-Some.ensures) c.in_ok-tag_agrees-in-Some.ensures
