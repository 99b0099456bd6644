-- A block is noted, and closed again.
use Rattle.std.proofs.Common.{◌≡◌, ℕ, suc, Bool, List, ap, subst, ◌∙◌}
use Rattle.c_tree.specs.declared.kinds.Kind.{Kind}
use Rattle.c_tree.specs.Trees.{PlainTrees}
use Rattle.conditional.specs.Entries.{seen, listed}
use Rattle.conditional.specs.declared.lists.CondList.{CondList}
use Rattle.member_uses.specs.Uses.{Use}
use Rattle.type_tables.specs.declared.tables.Tables.{Tables}
use Rattle.type_tables.specs.Tables as plain
use Rattle.type_tables.specs.Seen.{seen_tables}
use Rattle.type_tables.specs.Steps.{entered}
use Rattle.type_tables.specs.Blocks.{OnlyLocals}
use Rattle.type_tables.proofs.LocalsAlone.{seen_same}
use Rattle.cond_selections.specs.declared.entries.Selection.{Selection}
use Rattle.cond_selections.specs.Selected.{plain_selection}
use Rattle.cond_member_uses.specs.Noted.{Noted, noted_at, Notes, NotesBlock, Where}

-- what is done so is done so too
pub where_also : (here : Bool) (Does Also : Noted → Noted → Type 0) (a b : Noted) → (Does a b → Also a b) → Where here Does a b → Where here Also a b
where_also here Does Also a b f x = record { elsewhere = x.elsewhere; does = λ h. f (x.does h) }

pub block_noted :
    (on : ℕ → Bool) (kind : Kind) (parts : PlainTrees) (here : Bool) (old opened inner new : Tables) (log now : CondList Selection) → opened ≡ record old { depth = suc old.depth }
    → seen_tables on opened ≡ entered (seen_tables on old) → OnlyLocals opened inner → (new ≡ record inner { locals = new.locals; depth = old.depth }) × (new.locals.items ≡ old.locals.items)
    → Where here (Notes kind parts) (noted_at on opened log) (noted_at on inner now) → Where here (NotesBlock kind parts) (noted_at on old log) (noted_at on new now)
block_noted on kind parts here old opened inner new log now is seen_is only closed notes = record {
  elsewhere = λ h.
      ap (λ t. with_uses t (seen on (listed plain_selection now))) same
      ∙ ap (with_uses (seen_tables on old)) (ap (λ (n : Noted). n.uses) (notes.elsewhere h));
  does = λ h. record {
    same = same;
    inside = seen_tables on inner;
    notes = subst (λ t. Notes kind parts (with_uses t (seen on (listed plain_selection log))) (noted_at on inner now)) seen_is (notes.does h);
  };
}
  where
    with_uses : plain.Tables → List Use → Noted
    with_uses t uses = record { tables = t; uses = uses }

    same : seen_tables on new ≡ seen_tables on old
    same =
        seen_same on old new
        (closed.0 ∙ ap (λ (t : Tables). record t { locals = new.locals; depth = old.depth }) only.same ∙ ap (λ (t : Tables). record t { locals = new.locals; depth = old.depth }) is) closed.1
