use Rattle.std.proofs.Common.{ℕ, Bool}
use Rattle.conditional.specs.Entries.{seen, listed}
use Rattle.core_meaning.specs.Declarations.{name_in}
use Rattle.bindings.specs.Bindings.{tag_text}
use Rattle.cond_name_spaces.specs.Progress.{plain_tag}
use Rattle.cond_name_spaces.proofs.VariantsMade.{MadeSoFar}
use Rattle.cond_name_spaces.proofs.tags.tags_among.Given as goal

abbrev pub invariant-loop-variant : goal.invariant-loop-variant
invariant-loop-variant g l =
    (on : ℕ → Bool) → MadeSoFar (λ words. tag_text (name_in words)) on l.variant-items l.variant-index (seen on (listed plain_tag l.tags))
