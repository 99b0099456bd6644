use Rattle.std.proofs.Common.{◌≡◌, ℕ, ◌+◌, cond, drop, sym, ap, ◌∙◌, subst, arith}
use Rattle.std.specs.List.{list_all}
use Rattle.quick_form.specs.Words.{is_blank}
use Rattle.quick_form.specs.Places.{solid_length}
use Rattle.quick_rename.proofs.Walk.{solid_start, solid_step}
use Rattle.quick_rename.proofs.visit.solid_len.Goals.{then-not-is_blank, else-not-is_blank}
use Rattle.quick_rename.proofs.visit.solid_len.Goals as goal

pub loop-i-init : goal.loop-i-init
loop-i-init c = record { rest = solid_start c.args.line.now; within = omega arith }

pub loop-i-preserved : goal.loop-i-preserved
loop-i-preserved c =
    let line = c.args.line.now in
    let i = c.loop-i.i in
    let len = c.loop-i.len in
    let b = c.is_blank.result in
    let step = solid_step line i len b c.loop-i-test.true (sym c.is_blank.ensures) c.loop-i.invariant.rest in
    let new : c.if-not-is_blank.len ≡ cond b len (i + 1) = elim c.if-not-is_blank.branch [
      | then-not-is_blank w ↦ w.len-is ∙ sym (ap (λ t. cond t len (i + 1)) w.if-not-is_blank.true)
      | else-not-is_blank w ↦ w.len-is ∙ sym (ap (λ t. cond t len (i + 1)) w.if-not-is_blank.false)
    ] in
    record {
      rest = subst (λ (m : ℕ). solid_length line ≡ cond (list_all is_blank (drop (i + 1) line)) m (i + 1 + solid_length (drop (i + 1) line))) (sym new) step;
      within = elim c.if-not-is_blank.branch [
        | then-not-is_blank w ↦ let e = w.len-is in omega arith
        | else-not-is_blank w ↦ let e = w.len-is in let h = c.loop-i.invariant.within in omega arith
      ];
    }
