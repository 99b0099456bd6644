use Rattle.std.proofs.Common.{ℕ, refl, sym, subst, ◌∙◌, arith, length-take, length-drop}
use Rattle.c_lexer.specs.View.{kind_view}
use Rattle.c_lexer.specs.Reader.{reading_of}
use Rattle.c_lexer.proofs.LexLemmas.{IsReading, reading-first, may-read, reading-next, may-finish, lines-are}
use Rattle.c_lexer.proofs.lines.lex.Goals as goal

pub loop-piece-init : goal.loop-piece-init
loop-piece-init c = record {
  within = omega arith;
  reading = subst (λ r. IsReading c.args.file c.args.text.now 0 r) (sym c.new-reader.ensures) (reading-first c.args.file c.args.text.now);
}

pub read-requires-clause-rise : goal.read-requires-clause-rise
read-requires-clause-rise c =
    may-read c.args.file c.args.text.now c.as_slice-bytes.result.now c.as_slice-places.result.now
    (c.as_slice-bytes.ensures.value ∙ c.in_ok-spliced.ensures.bytes) (c.as_slice-places.ensures.value ∙ c.in_ok-spliced.ensures.places)
    c.loop-piece.at (reading_of c.loop-piece.reader) c.loop-piece.invariant.reading c.requires c.in-Some.piece.length

pub loop-piece-preserved : goal.loop-piece-preserved
loop-piece-preserved c =
    let bytes = c.as_slice-bytes.result.now in
    let piece = c.in-Some.ensures.some in
    record {
      within = omega (arith, c.loop-piece.invariant.within, piece.within, length-take {A = ℕ}, length-drop {A = ℕ});
      reading = reading-next c.args.file c.args.text.now bytes c.as_slice-places.result.now
          (c.as_slice-bytes.ensures.value ∙ c.in_ok-spliced.ensures.bytes) (c.as_slice-places.ensures.value ∙ c.in_ok-spliced.ensures.places)
          c.loop-piece.at (reading_of c.loop-piece.reader) c.loop-piece.invariant.reading
          c.in-Some.piece.length (kind_view c.in-Some.piece.kind) piece (reading_of c.read.new.self) c.in_ok-read.ensures;
    }

pub finish-requires : goal.finish-requires
finish-requires c =
    may-finish c.args.file c.args.text.now c.as_slice-bytes.result.now c.as_slice-places.result.now
    (c.as_slice-bytes.ensures.value ∙ c.in_ok-spliced.ensures.bytes) (c.as_slice-places.ensures.value ∙ c.in_ok-spliced.ensures.places)
    c.loop-piece.at (reading_of c.loop-piece.reader) c.loop-piece.invariant.reading

pub returns : goal.returns
returns c =
    lines-are c.args.file c.args.text.now c.as_slice-bytes.result.now c.as_slice-places.result.now
    (c.as_slice-bytes.ensures.value ∙ c.in_ok-spliced.ensures.bytes) (c.as_slice-places.ensures.value ∙ c.in_ok-spliced.ensures.places)
    c.loop-piece.at (reading_of c.loop-piece.reader) c.loop-piece.invariant.reading
    (c.in_default.ensures.none.0 refl) _ c.in_ok-finish.ensures
