use Rattle.std.proofs.Common.{◌≡◌, ◌++◌, drop, map}
use Rattle.c_text.specs.Splices.{spliced, spliced_from}
use Rattle.c_lexer.proofs.splices.spliced.Given as goal

abbrev pub invariant-loop-i : goal.invariant-loop-i
invariant-loop-i l = record {
  bytes : l.bytes.items ++ map (λ p. p.byte) (spliced_from l.more l.i (drop l.i l.text)) ≡ map (λ p. p.byte) (spliced l.text);
  places : l.places.items ++ map (λ p. p.at) (spliced_from l.more l.i (drop l.i l.text)) ≡ map (λ p. p.at) (spliced l.text);
}
