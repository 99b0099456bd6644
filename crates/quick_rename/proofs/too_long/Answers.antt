use Rattle.std.proofs.Common.{ℕ, List, sym, ◌∙◌, subst}
use Rattle.quick_form.specs.Symbols.{symbols_of}
use Rattle.quick_form.specs.Form.{IsWritten}
use Rattle.quick_form.specs.Places.{IsFaultOfText, IsFaultOfForm}
use Rattle.quick_rename.specs.Readings.{IsWhole, IsFaulty, IsReading}
use Rattle.quick_rename.proofs.Stops.{long_fault, long_front}
use Rattle.quick_rename.proofs.too_long.Goals.{in-Fault, in-Whole}
use Rattle.quick_rename.proofs.too_long.Goals as goal

pub returns : goal.returns
returns c =
    let bytes = c.args.bytes.now in
    let front = c.split_at.result.0.now in
    elim c.match-branch-2.branch [
      | in-Fault w ↦
          let h : IsFaulty front w.in-Fault.offset = subst (IsReading front) w.in-Fault.is c.in_ok-offset.ensures in
          let f = subst (λ (b : List ℕ). IsFaultOfText b w.in-Fault.offset) c.split_at.ensures.front h.place in
          subst (IsFaultOfForm bytes) (sym (w.offset-is ∙ w.min-offset.ensures)) (long_fault bytes w.in-Fault.offset c.requires f)
      | in-Whole w ↦
          let h : IsWhole (symbols_of front) w.in-Whole.field-0 = subst (IsReading front) w.in-Whole.is c.in_ok-offset.ensures in
          let f = subst (λ (b : List ℕ). IsWritten (symbols_of b)) c.split_at.ensures.front h.written in
          subst (IsFaultOfForm bytes) (sym w.offset-is) (long_front bytes c.requires f)
    ]
