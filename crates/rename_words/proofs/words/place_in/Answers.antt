use Rattle.std.proofs.Common.{arith, sym, ◌∙◌, ap}
use Rattle.std.proofs.lemmas.Str.Pattern.{split_parts}
use Rattle.c_names.specs.FileNames.{is_file_name}
use Rattle.rename_words.proofs.Places.{unparted_is_no_place, unnamed_is_no_place, unnumbered_is_no_place}
use Rattle.rename_words.proofs.words.place_in.Goals as goal

pub returns-in_default : goal.returns-in_default
returns-in_default c =
    unparted_is_no_place c.args.word.now (rw c.in_default.is at (split_parts 64 c.args.word.now c.split_once.result c.split_once.ensures.cases (omega arith)))

pub returns-then-not-is_file_name : goal.returns-then-not-is_file_name
returns-then-not-is_file_name c =
    let cut = rw c.in-Some.is at (split_parts 64 c.args.word.now c.split_once.result c.split_once.ensures.cases (omega arith)) in
    unnamed_is_no_place c.args.word.now c.in-Some.file.now c.in-Some.offset.now cut.0 cut.1 (ap is_file_name (sym c.as_bytes.ensures.value) ∙ (sym c.is_file_name.ensures ∙ c.if-not-is_file_name.true))

pub returns-in-None : goal.returns-in-None
returns-in-None c =
    let cut = rw c.in-Some.is at (split_parts 64 c.args.word.now c.split_once.result c.split_once.ensures.cases (omega arith)) in
    unnumbered_is_no_place c.args.word.now c.in-Some.file.now c.in-Some.offset.now cut.0 cut.1 (rw c.in-None.is at c.in_ok-offset.ensures)
