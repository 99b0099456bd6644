use Rattle.cond_initialisers.proofs.places.place_of.Given as goal

abbrev pub invariant-loop-n : goal.invariant-loop-n
invariant-loop-n l = Unit {0}
