use Rattle.std.proofs.Common.{◌∙◌, map, ap, Result, Some, Ok, Err}
use Rattle.c_text.specs.Token.{plain_token}
use Rattle.c_tree.specs.declared.trees.Tree.{Tree}
use Rattle.c_tree.specs.Trees.{plain_tree}
use Rattle.plain_parse.specs.declared.parser.ParseError.{ParseError}
use Rattle.plain_parse.specs.declared.parser.ParseError.TheVariants.{Unexpected, TooHigh}
use Rattle.plain_parse.specs.Frames.{plain_built}
use Rattle.plain_parse.proofs.AnswerLemmas.{tree-is, too_high-is, unexpected-is}
use Rattle.plain_parse.proofs.Exact.{Answers, exact-tree, exact-unexpected, exact-too_high}
use Rattle.plain_parse.proofs.parser.parse.Goals as goal

pub returns-in-Ok-Whole-Some : goal.returns-in-Ok-Whole-Some
returns-in-Ok-Whole-Some c =
    let tokens = map plain_token c.args.tokens.now in
    let one = c.tokens_spell_one_unit.ensures in
    let found = c.in-Ok-Whole-Some.low.tree in
    let result : Result Tree ParseError = Ok found in
    let reading = rw c.in-Ok-Whole-Some.field-0-is at c.in-Ok-Whole-Some.ensures in
    let answers : Answers tokens result =
    tree-is c.what_is_read_is_spelt.ensures tokens (plain_tree found)
    (reading ∙ ap (λ value. Some (plain_built value)) c.in-Ok-Whole-Some.field-0-0-is) in
    record {
      tree = exact-tree one tokens result answers;
      unexpected = exact-unexpected one tokens result answers;
      too_high = exact-too_high one tokens result answers;
    }

pub returns-in-Ok-Whole-None : goal.returns-in-Ok-Whole-None
returns-in-Ok-Whole-None c =
    let tokens = map plain_token c.args.tokens.now in
    let one = c.tokens_spell_one_unit.ensures in
    let result : Result Tree ParseError = Err TooHigh in
    let reading = rw c.in-Ok-Whole-None.field-0-is at c.in-Ok-Whole-None.ensures in
    let answers : Answers tokens result =
    too_high-is c.what_is_read_is_spelt.ensures tokens
    (reading ∙ ap (λ value. Some (plain_built value)) c.in-Ok-Whole-None.field-0-0-is) in
    record {
      tree = exact-tree one tokens result answers;
      unexpected = exact-unexpected one tokens result answers;
      too_high = exact-too_high one tokens result answers;
    }

pub returns-in-Ok-Fault : goal.returns-in-Ok-Fault
returns-in-Ok-Fault c =
    let tokens = map plain_token c.args.tokens.now in
    let one = c.tokens_spell_one_unit.ensures in
    let place = c.in-Ok-Fault.place in
    let result : Result Tree ParseError = Err (Unexpected place) in
    let fault = rw c.in-Ok-Fault.field-0-is at c.in-Ok-Fault.ensures in
    let answers : Answers tokens result =
    unexpected-is c.what_is_spelt_is_read.ensures c.what_can_be_read_begins_a_unit.ensures
    c.what_begins_a_unit_can_be_read.ensures tokens place fault in
    record {
      tree = exact-tree one tokens result answers;
      unexpected = exact-unexpected one tokens result answers;
      too_high = exact-too_high one tokens result answers;
    }
