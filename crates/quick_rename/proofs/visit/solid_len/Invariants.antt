use Rattle.std.proofs.Common.{◌≡◌, ◌+◌, ◌≤◌, drop, cond}
use Rattle.std.specs.List.{list_all}
use Rattle.quick_form.specs.Words.{is_blank}
use Rattle.quick_form.specs.Places.{solid_length}
use Rattle.quick_rename.proofs.visit.solid_len.Given as goal

abbrev pub invariant-loop-i : goal.invariant-loop-i
invariant-loop-i l =
    record {
      rest : solid_length l.line ≡ cond (list_all is_blank (drop l.i l.line)) l.len (l.i + solid_length (drop l.i l.line));
      within : l.len ≤ l.i;
    }
