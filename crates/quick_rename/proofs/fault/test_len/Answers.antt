use Rattle.std.proofs.Common.{length, sym, ◌∙◌, ap, arith}
use Rattle.std.proofs.lemmas.List.{length-map}
use Rattle.quick_rename.proofs.FrontLengths.{test_front}
use Rattle.quick_rename.proofs.fault.test_len.Goals as goal

pub returns-else-tested-lt-MOST_TESTED : goal.returns-else-tested-lt-MOST_TESTED
returns-else-tested-lt-MOST_TESTED c =
    let len = ap length (sym c.tested.ensures) ∙ length-map _ _ in
    test_front c.args.parser.now c.args.word.now c.tested_len.result c.requires.letters c.requires.names (omega arith) c.tested_len.ensures
