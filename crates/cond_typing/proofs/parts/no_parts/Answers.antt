use Rattle.std.proofs.Common.{refl}
use Rattle.cond_typing.proofs.parts.no_parts.Goals as goal

pub returns : goal.returns
returns c = λ on callable. record {
  operands = rw c.new.ensures.items tt;
  signs = rw c.new-2.ensures.items refl;
  words = c.in_ok-words.ensures on;
  arguments = rw c.new-3.ensures.items refl;
}
