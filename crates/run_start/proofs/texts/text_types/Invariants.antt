use Rattle.std.proofs.Common.{◌≡◌, ℕ, map, take, Vec}
use Rattle.std.specs.declared.alloc.Global.{Global}
use Rattle.c_types.specs.Types.{plain_type}
use Rattle.run_start.specs.Starts.{text_type}
use Rattle.run_start.proofs.texts.text_types.Given as goal

abbrev pub invariant-loop-text : goal.invariant-loop-text
invariant-loop-text l = map plain_type l.types.items ≡ map (λ (bytes : Vec ℕ Global). text_type bytes.items) (take l.text-index l.program.literals.items)
