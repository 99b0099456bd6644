use Rattle.std.proofs.Common.{ap, sym, ◌∙◌, arith}
use Rattle.text_edits.specs.Span.{plain_span}
use Rattle.c_text.specs.Lines.{span_of}
use Rattle.c_lexer.specs.View.{kind_view}
use Rattle.c_lexer.specs.Reading.{with_places, with_newline, with_token, after_kind}
use Rattle.c_lexer.specs.Reader.{reading_of}
use Rattle.c_lexer.proofs.PlaceLemmas.{Rise-ordered, Rise-below, span-with_places, bytes-with_places}
use Rattle.c_lexer.proofs.reader.LineReader.read.Goals as goal

pub span_of-span-requires-clause-ordered : goal.span_of-span-requires-clause-ordered
span_of-span-requires-clause-ordered c = Rise-ordered c.args.self.now.start 4294967295 c.args.places.now c.requires.rise

pub span_of-span-requires-clause-fits : goal.span_of-span-requires-clause-fits
span_of-span-requires-clause-fits c =
    Rise-below c.args.self.now.start 4294967295 c.args.places.now (omega (arith, c.requires.placed, c.requires.some)) c.requires.rise

pub returns-in_ok-read_newline-in-LineEnd : goal.returns-in_ok-read_newline-in-LineEnd
returns-in_ok-read_newline-in-LineEnd c =
    let bytes = c.args.bytes.now in
    let places = c.args.places.now in
    let old = reading_of c.args.self.now in
    let span = span-with_places bytes places (plain_span c.span_of-span.result) c.requires.some c.requires.placed c.span_of-span.ensures.start c.span_of-span.ensures.end in
    c.in_ok-read_newline-in-LineEnd.ensures ∙ ap (λ s. with_newline s old) span
    ∙ ap (λ k. after_kind (kind_view k) (with_places bytes places) old) (sym c.in-LineEnd.is)

pub returns-in_ok-read_token-in-Token : goal.returns-in_ok-read_token-in-Token
returns-in_ok-read_token-in-Token c =
    let bytes = c.args.bytes.now in
    let places = c.args.places.now in
    let old = reading_of c.args.self.now in
    let kind = c.in-Token.kind in
    let span = span-with_places bytes places (plain_span c.span_of-span.result) c.requires.some c.requires.placed c.span_of-span.ensures.start c.span_of-span.ensures.end in
    c.in_ok-read_token-in-Token.ensures
    ∙ ap (λ s. with_token kind bytes s old) span
    ∙ ap (λ w. with_token kind w (span_of (with_places bytes places)) old) (sym (bytes-with_places bytes places c.requires.placed))
    ∙ ap (λ k. after_kind (kind_view k) (with_places bytes places) old) (sym c.in-Token.is)
