use Rattle.std.proofs.Common.{◌≡◌, ◌&&◌, ◌+◌, IsTrue, List, drop, refl, sym, ap, ap₂, ◌∙◌, subst}
use Rattle.std.specs.Prelude.{◌||◌}
use Rattle.std.proofs.lemmas.List.{drop_all}
use Rattle.cond_formula.specs.Features.{has}
use Rattle.cond_formula.specs.Conditions.{Condition, condition_of, value}
use Rattle.cond_formula.specs.ConditionLaws.{condition_of-False}
use Rattle.conditional.specs.Entries.{seen, entries_of, first}
use Rattle.conditional.specs.declared.entries.Guarded.{Guarded}
use Rattle.conditional.proofs.ListLaws.{item_of}
use Rattle.type_tables.specs.Forms.{file_name_form}
use Rattle.type_tables.specs.declared.entries.FileName.{FileName}
use Rattle.name_declarations.specs.Conflicts.{conflicting}
use Rattle.name_declarations.proofs.Conflicting.{more_conflict, none_more}
use Rattle.name_declarations.proofs.conflicts.where_conflicting.Goals as goal

pub loop-meaning-init : goal.loop-meaning-init
loop-meaning-init g c = record {
  kept = refl;
  so_far = λ n admitted.
      ap₂ (λ (none left : Condition). value (has n) none || (value (has n) left && conflicting (g.C.Conflict.conflicts c.args.conflict.now n) (first (seen (has n) (entries_of file_name_form c.args.meanings.now)))))
      condition_of-False c.in_ok-left.ensures;
}

pub loop-meaning-preserved : goal.loop-meaning-preserved
loop-meaning-preserved g c = record {
  kept = c.in_ok-here.ensures.kept ∙ c.loop-meaning.invariant.kept;
  so_far = λ n admitted.
      more_conflict (has n) (g.C.Conflict.conflicts c.args.conflict.now n) c.meaning-item.result (drop (c.loop-meaning.meaning-index + 1) c.args.meanings.now)
      (value (has n) (condition_of c.loop-meaning.refused)) (value (has n) (condition_of c.loop-meaning.left)) _ _ _
      (c.in_ok-refused.ensures (has n) ∙ ap (λ b. value (has n) (condition_of c.loop-meaning.refused) || b) (c.in_ok-here.ensures.exact n (subst (λ (k : Condition). IsTrue (value (has n) k)) (sym c.loop-meaning.invariant.kept) admitted)))
      (c.in_ok-left-2.ensures (has n))
      (subst (λ (ms : List (Guarded FileName)). (value (has n) (condition_of c.loop-meaning.refused) || (value (has n) (condition_of c.loop-meaning.left) && conflicting (g.C.Conflict.conflicts c.args.conflict.now n) (first (seen (has n) (entries_of file_name_form ms)))))
      ≡ (value (has n) (condition_of c.args.when.now) && conflicting (g.C.Conflict.conflicts c.args.conflict.now n) (first (seen (has n) (entries_of file_name_form c.args.meanings.now)))))
      (item_of c.args.meanings.now c.meaning-item.result c.loop-meaning.meaning-index c.loop-meaning-test.true c.meaning-item.is) (c.loop-meaning.invariant.so_far n admitted));
}

pub returns-clause-exact : goal.returns-clause-exact
returns-clause-exact g c = λ n admitted.
    sym (none_more (value (has n) (condition_of c.loop-meaning.refused)) (value (has n) (condition_of c.loop-meaning.left)))
    ∙ subst (λ (ms : List (Guarded FileName)). (value (has n) (condition_of c.loop-meaning.refused) || (value (has n) (condition_of c.loop-meaning.left) && conflicting (g.C.Conflict.conflicts c.args.conflict.now n) (first (seen (has n) (entries_of file_name_form ms)))))
    ≡ (value (has n) (condition_of c.args.when.now) && conflicting (g.C.Conflict.conflicts c.args.conflict.now n) (first (seen (has n) (entries_of file_name_form c.args.meanings.now)))))
    (drop_all c.loop-meaning.meaning-index c.args.meanings.now c.loop-meaning-test.false) (c.loop-meaning.invariant.so_far n admitted)
