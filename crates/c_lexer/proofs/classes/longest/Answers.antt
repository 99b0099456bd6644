use Rattle.std.proofs.Common.{refl, ◌||◌}
use Rattle.c_names.specs.Names.{is_identifier}
use Rattle.c_text.specs.Constants.{is_number, is_quoted, is_open_quoted}
use Rattle.c_text.specs.Pieces.{is_newline, is_blank, is_line_comment, is_block_comment, is_open_comment, is_punctuator}
use Rattle.c_lexer.specs.declared.classes.Class.TheVariants as class
use Rattle.c_lexer.proofs.BestLemmas.{either, lone, best-step, best-lone}
use Rattle.c_lexer.proofs.classes.longest.Goals as goal

pub returns : goal.returns
returns c =
    let text = c.args.text.now in
    let blank = either is_blank is_line_comment text _ _ c.blank_length.ensures c.line_comment_length.ensures c.longer-blank.result c.longer-blank.ensures in
    let space = either (λ w. is_blank w || is_line_comment w) is_block_comment text _ _ blank c.comment_lengths-comment.ensures.closed c.longer-space.result c.longer-space.ensures in
    let quote = either (is_open_quoted 39) (is_open_quoted 34) text _ _ c.quoted_lengths-character.ensures.unclosed c.quoted_lengths-string.ensures.unclosed c.longer-quote.result c.longer-quote.ensures in
    let byte = best-lone text (record { length = 1; class = class.Byte }) c.requires refl refl in
    let quoted = best-step (λ w. is_open_quoted 39 w || is_open_quoted 34 w) class.OpenQuote lone text _ _ byte quote c.better-quoted.result c.better-quoted.ensures.longer c.better-quoted.ensures.shorter in
    let opened = best-step is_open_comment class.OpenComment _ text _ _ quoted c.comment_lengths-comment.ensures.unclosed c.better-opened.result c.better-opened.ensures.longer c.better-opened.ensures.shorter in
    let marked = best-step is_punctuator class.Punctuator _ text _ _ opened c.punctuator_length.ensures c.better-marked.result c.better-marked.ensures.longer c.better-marked.ensures.shorter in
    let texts = best-step (is_quoted 34) class.Text _ text _ _ marked c.quoted_lengths-string.ensures.closed c.better-texts.result c.better-texts.ensures.longer c.better-texts.ensures.shorter in
    let characters = best-step (is_quoted 39) class.Character _ text _ _ texts c.quoted_lengths-character.ensures.closed c.better-characters.result c.better-characters.ensures.longer c.better-characters.ensures.shorter in
    let numbers = best-step is_number class.Number _ text _ _ characters c.number_length.ensures c.better-numbers.result c.better-numbers.ensures.longer c.better-numbers.ensures.shorter in
    let names = best-step is_identifier class.Name _ text _ _ numbers c.name_length.ensures c.better-names.result c.better-names.ensures.longer c.better-names.ensures.shorter in
    let white = best-step (λ w. is_blank w || is_line_comment w || is_block_comment w) class.Space _ text _ _ names space c.better-white.result c.better-white.ensures.longer c.better-white.ensures.shorter in
    best-step is_newline class.Newline _ text _ _ white c.newline_length.ensures c.better.result c.better.ensures.longer c.better.ensures.shorter
