-- Tables of which only the locals change.
use Rattle.std.proofs.Common.{◌≡◌, ℕ, ◌+◌, Bool, [], length, sym, ap, ◌∙◌, append-nil, add-one}
use Rattle.type_tables.specs.declared.tables.Tables.{Tables}
use Rattle.type_tables.specs.Seen.{seen_tables}
use Rattle.type_tables.specs.Steps.{entered}
use Rattle.type_tables.specs.Blocks.{KeepsOutside}
use Rattle.type_tables.specs.Blocks.{OnlyLocals}

-- ---- blocks

pub seen_entered : (on : ℕ → Bool) (old new : Tables) → new ≡ record old { depth = old.depth + 1 } → seen_tables on new ≡ entered (seen_tables on old)
seen_entered on old new is = ap (seen_tables on) is ∙ ap (λ n. record (seen_tables on old) { depth = n }) (add-one old.depth)

-- a block that has been opened, in which only locals have changed, and that is closed
pub record IsClosed (old new : Tables) : Type 0 where
  pub same : new ≡ record old { locals = new.locals }
  pub locals : new.locals.items ≡ old.locals.items

pub kept_inside : (old open_ : Tables) → open_ ≡ record old { depth = old.depth + 1 } → KeepsOutside old open_
kept_inside old open_ is = record { since = []; locals = ap (λ (t : Tables). t.locals.items) is ∙ sym (append-nil old.locals.items) }

pub kept_there : (old : Tables) → KeepsOutside old old
kept_there old = record { since = []; locals = sym (append-nil old.locals.items) }

pub block_closed :
    (old open_ inner new : Tables) (locals : ℕ) → open_ ≡ record old { depth = old.depth + 1 } → OnlyLocals open_ inner → locals ≡ length old.locals.items → new ≡ record inner { locals = new.locals; depth = old.depth }
    → ((before : Tables) → locals ≡ length before.locals.items → KeepsOutside before inner → new.locals.items ≡ before.locals.items) → IsClosed old new
block_closed old open_ inner new locals opened only count closed forgotten = record {
  same =
      closed ∙ ap (λ (t : Tables). record t { locals = new.locals; depth = old.depth }) only.same
      ∙ ap (λ (t : Tables). record t { locals = new.locals; depth = old.depth }) opened;
  locals = forgotten old count (only.outside old (kept_inside old open_ opened));
}

pub body_closed :
    (old inner new : Tables) (locals : ℕ) → OnlyLocals old inner → locals ≡ length old.locals.items → new ≡ record inner { locals = new.locals; depth = old.depth }
    → ((before : Tables) → locals ≡ length before.locals.items → KeepsOutside before inner → new.locals.items ≡ before.locals.items) → IsClosed old new
body_closed old inner new locals only count closed forgotten = record {
  same = closed ∙ ap (λ (t : Tables). record t { locals = new.locals; depth = old.depth }) only.same;
  locals = forgotten old count (only.outside old (kept_there old));
}

pub closed_only : (old new : Tables) → IsClosed old new → OnlyLocals old new
closed_only old new closed = record {
  same = closed.same;
  outside = λ before kept. record { since = kept.since; locals = closed.locals ∙ kept.locals };
}
