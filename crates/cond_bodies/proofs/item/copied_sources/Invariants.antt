use Rattle.std.proofs.Common.{◌≡◌, take}
use Rattle.c_text.specs.Token.{plain_token}
use Rattle.conditional.specs.Entries.{entries_of}
use Rattle.cond_bodies.proofs.item.copied_sources.Given as goal

abbrev pub invariant-loop-source : goal.invariant-loop-source
invariant-loop-source l =
    entries_of (λ t. plain_token t.now) l.copies.items ≡ entries_of (λ t. plain_token t.now) (take l.source-index l.sources)
