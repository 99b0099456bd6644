use Rattle.std.proofs.Common.{◌≡◌, ◌+◌, ◌<◌, ◌≤◌, cond, length, ap, sym, ◌∙◌, arith}
use Rattle.std.specs.Prelude.{◌==◌}
use Rattle.std.proofs.lemmas.Bool.Decides.{nat_tests}
use Rattle.std.proofs.lemmas.List.{length-map}
use Rattle.text_edits.specs.Files.{plain_file, plain_files}
use Rattle.reference_classes.specs.Renamed.{count_files}
use Rattle.tied_tokens.specs.Tokens.{plain_file_tokens}
use Rattle.class_edits.specs.Listed.{renaming_of}
use Rattle.class_edits.proofs.Spans.{spans-below}
use Rattle.class_edits.proofs.Counts.{files-more}
use Rattle.class_edits.proofs.renaming.count_touched.Goals as goal
use Rattle.class_edits.proofs.renaming.count_touched.Goals.{then-count_in-ne0, else-count_in-ne0}

pub loop-number-preserved : goal.loop-number-preserved
loop-number-preserved c =
    let files = plain_files c.args.files.now in
    let tokens = plain_file_tokens c.args.tokens.now in
    let count = length c.args.files.now.list.items in
    let number = c.loop-number.number in
    let here = c.count_in.result in
    let before = c.loop-number.count in
    let whole = c.loop-number.invariant.whole in
    let few = c.loop-number.invariant.few in
    let below : number < count = omega (arith, whole) in
    let all : length files ≡ count = length-map c.args.files.now.list.items plain_file in
    let inside : number < length files = omega (arith, below, all) in
    let is : c.if-count_in-ne0.count ≡ before + cond (here == 0) 0 1 =
    elim c.if-count_in-ne0.branch [
      | then-count_in-ne0 w ↦ let some = w.if-count_in-ne0 in let e = w.count-is in grind (arith, nat_tests)
      | else-count_in-ne0 w ↦ let none = w.if-count_in-ne0 in let e = w.count-is in grind (arith, nat_tests)
    ] in
    let most : cond (here == 0) 0 1 ≤ 1 = grind (arith, nat_tests) in
    record {
      whole = whole;
      counted = λ old new.
          let r = renaming_of count tokens old new in
          files-more r files number inside before here c.if-count_in-ne0.count (c.count_in.ensures ∙ sym (ap length (spans-below count tokens old new number below))) is
          (count_files r 0 files) (c.loop-number.invariant.counted old new);
      few = omega (arith, is, few, most);
    }
