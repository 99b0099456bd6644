-- The tables behind a block that is left: the names of file scope that were declared in it stay.
use Rattle.std.proofs.Common.{◌≡◌, ℕ, Bool, List, reverse, ap, ◌∙◌}
use Rattle.core_meaning.specs.Entities.{Signature}
use Rattle.type_tables.specs.declared.entries.LocalName.{LocalName}
use Rattle.type_tables.specs.declared.tables.Tables.{Tables}
use Rattle.type_tables.specs.declared.blocks.Outside.{Outside}
use Rattle.type_tables.specs.Blocks.{IsOutside, KeepsOutside}
use Rattle.type_tables.specs.Seen.{seen_tables, locals_in}
use Rattle.type_tables.specs.Steps.{with_signature, entered}
use Rattle.type_tables.specs.Tables as plain
use Rattle.type_tables.specs.Blocks.{OnlyLocals}
use Rattle.cond_types.proofs.Inside.{closed}

module _ (old begun inner named walked new : Tables) (o : Outside) (outside : IsOutside old o) (kept : KeepsOutside old begun) (only : OnlyLocals begun inner) (locals_are : named.locals ≡ inner.locals)
    (walked_is : walked ≡ record named { locals = walked.locals }) (locals_same : walked.locals.items ≡ named.locals.items)
    (leave : (before : Tables) → IsOutside before o → KeepsOutside before walked → (new ≡ record walked { locals = new.locals; depth = before.depth }) × (new.locals.items ≡ before.locals.items)) where
  keeps : KeepsOutside old walked
  keeps =
      let before = only.outside old kept in
      record { since = before.since; locals = locals_same ∙ (ap (λ v. v.items) locals_are ∙ before.locals) }

  pub block_left : (on : ℕ → Bool) → seen_tables on new ≡ closed (seen_tables on named) (seen_tables on old)
  block_left on =
      let left = leave old outside keeps in
      ap (seen_tables on) (left.0 ∙ ap (λ (t : Tables). record t { locals = new.locals; depth = old.depth }) walked_is)
      ∙ ap (λ (ls : List LocalName). record (seen_tables on named) { locals = locals_in on (reverse ls); depth = old.depth }) left.1

-- a declaration of a function in a block is there behind it
pub signed_outside : (signature : Signature) (old inner named : plain.Tables) → named ≡ with_signature signature inner → inner ≡ entered old → closed named old ≡ with_signature signature old
signed_outside signature old inner named more same = ap (λ (t : plain.Tables). closed t old) more ∙ ap (λ (t : plain.Tables). closed (with_signature signature t) old) same
