-- Tables of which only the locals change.
use Rattle.std.proofs.Common.{◌≡◌, ℕ, Bool, List, reverse, refl, ap, ◌∙◌}
use Rattle.type_tables.specs.declared.entries.LocalName.{LocalName}
use Rattle.type_tables.specs.declared.tables.Tables.{Tables}
use Rattle.type_tables.specs.Seen.{seen_tables, locals_in}
use Rattle.type_tables.specs.Blocks.{OnlyLocals}

pub nothing_changed : (t : Tables) → OnlyLocals t t
nothing_changed t = record { same = refl; outside = λ before kept. kept }

pub locals_again : (a b c : Tables) → OnlyLocals a b → OnlyLocals b c → OnlyLocals a c
locals_again a b c x y = record {
  same = y.same ∙ ap (λ (t : Tables). record t { locals = c.locals }) x.same;
  outside = λ before kept. y.outside before (x.outside before kept);
}

pub seen_same : (on : ℕ → Bool) (old new : Tables) → new ≡ record old { locals = new.locals } → new.locals.items ≡ old.locals.items → seen_tables on new ≡ seen_tables on old
seen_same on old new is same =
    ap (seen_tables on) is ∙ ap (λ (ls : List LocalName). record (seen_tables on old) { locals = locals_in on (reverse ls) }) same
