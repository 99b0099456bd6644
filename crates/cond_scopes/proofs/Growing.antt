-- Blocks that are left as they were, or declare more.
use Rattle.std.proofs.Common.{◌≡◌, [], ◌++◌, sym, ap, ◌∙◌, append_assoc}
use Rattle.cond_bindings.specs.Names.{PlainNames, Grows}

pub stays : (old new : PlainNames) → new.blocks ≡ old.blocks → Grows old new
stays old new same = record { more = []; blocks_are = same }

pub grows_on : (old mid new : PlainNames) → Grows old mid → Grows mid new → Grows old new
grows_on old mid new first second = record {
  more = second.more ++ first.more;
  blocks_are = second.blocks_are ∙ (ap (λ b. second.more ++ b) first.blocks_are ∙ sym (append_assoc second.more first.more old.blocks));
}
