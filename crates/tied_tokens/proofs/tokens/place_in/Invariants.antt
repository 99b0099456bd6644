use Rattle.std.proofs.Common.{◌≡◌, ◌++◌, take, drop}
use Rattle.tied_tokens.specs.Search.{placed}
use Rattle.tied_tokens.proofs.tokens.place_in.Given as goal

abbrev pub invariant-loop-i : goal.invariant-loop-i
invariant-loop-i l = take l.i l.tokens ++ placed l.token (drop l.i l.tokens) ≡ placed l.token l.tokens
