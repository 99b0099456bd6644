use Rattle.std.proofs.Common.{map, take, sym, subst, arith}
use Rattle.std.proofs.lemmas.List.{take_all}
use Rattle.std.proofs.lemmas.List.Elements.{All-same, All-more}
use Rattle.c_text.specs.declared.token.Token.{Token}
use Rattle.c_text.specs.declared.line.Line.{Line}
use Rattle.c_text.specs.Token.{PlainToken, plain_token}
use Rattle.c_text.specs.Lines.{plain_line}
use Rattle.std.proofs.Common.{List}
use Rattle.class_edits.specs.Search.{HoldsAmong}
use Rattle.class_edits.proofs.Searching.{none-in-lines, in-line}
use Rattle.class_edits.proofs.places.token_in_lines.Goals as goal

pub returns-in-Some : goal.returns-in-Some
returns-in-Some c =
    let at = c.args.at in
    let found = plain_token c.in-Some.token.now in
    in-line c.args.lines.now at c.loop-line.line-index c.line-item.result found c.loop-line-test.true c.line-item.is
    (subst (λ (ts : List Token). HoldsAmong (map plain_token ts) at found) c.deref.ensures.value c.in-Some.ensures)

pub loop-line-preserved : goal.loop-line-preserved
loop-line-preserved c =
    let lines = c.args.lines.now in
    let at = c.args.at in
    All-more (λ (line : Line). (token : PlainToken) → HoldsAmong (plain_line line).tokens at token → ⊥) lines c.loop-line.line-index c.line-item.result c.loop-line-test.true c.loop-line.invariant
    (subst (λ (line : Line). (token : PlainToken) → HoldsAmong (plain_line line).tokens at token → ⊥) c.line-item.is
    (subst (λ (ts : List Token). (token : PlainToken) → HoldsAmong (map plain_token ts) at token → ⊥) c.deref.ensures.value c.in_default.ensures))

pub returns : goal.returns
returns c =
    let lines = c.args.lines.now in
    let at = c.args.at in
    let i = c.loop-line.line-index in
    none-in-lines lines at
    (All-same (λ (line : Line). (token : PlainToken) → HoldsAmong (plain_line line).tokens at token → ⊥) lines (take i lines) (sym (take_all i lines (omega arith))) c.loop-line.invariant)
