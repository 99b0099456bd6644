use Rattle.std.proofs.Common.{refl, ◌∙◌, arith, rules}
use Rattle.quick_lexer.specs.View.{symbol_view}
use Rattle.quick_rename.proofs.Walk.{tokens_start, tokens_more, tokens_end, tokens_stop}
use Rattle.quick_rename.proofs.visit.visit_tokens.Goals as goal

pub loop-symbol-init : goal.loop-symbol-init
loop-symbol-init g c = record {
  words = refl;
  tokens = tokens_start g.V.Visitor.took c.args.visitor.now c.args.line.now c.args.end;
  within = c.requires.within;
}

pub loop-symbol-preserved : goal.loop-symbol-preserved
loop-symbol-preserved g c =
    let shorter = c.in-Some.ensures.shorter in
    let before = c.loop-symbol.invariant.within in
    record {
      words = c.in_ok-take.ensures.words ∙ c.loop-symbol.invariant.words;
      tokens = tokens_more g.V.Visitor.took c.args.visitor.now c.loop-symbol.visitor c.take.new.self c.args.line.now c.loop-symbol.rest.now c.in-Some.next.now c.args.end (symbol_view c.in-Some.symbol)
          c.loop-symbol.invariant.tokens c.loop-symbol.invariant.within c.in-Some.ensures.bytes (c.in_ok-take.ensures.taken c.if-not-branch.false);
      within = omega arith;
    }

pub returns-then-not-branch-clause-visits : goal.returns-then-not-branch-clause-visits
returns-then-not-branch-clause-visits g c =
    let V = g.V.Visitor in
    tokens_stop V.took V.refuses c.args.visitor.now c.loop-symbol.visitor c.take.new.self c.args.line.now c.loop-symbol.rest.now c.in-Some.next.now c.args.end (symbol_view c.in-Some.symbol) _
    c.loop-symbol.invariant.tokens c.loop-symbol.invariant.within c.in-Some.ensures.bytes c.in-Some.ensures.some c.requires.tokens c.requires.within refl refl refl
    (c.in_ok-take.ensures.stays c.if-not-branch.true) (c.in_ok-take.ensures.refused c.if-not-branch.true)

pub returns-clause-visits : goal.returns-clause-visits
returns-clause-visits g c =
    tokens_end g.V.Visitor.took c.args.visitor.now c.loop-symbol.visitor c.args.line.now c.loop-symbol.rest.now c.args.end c.loop-symbol.invariant.tokens (c.first_symbol.ensures.none.0 (search rules))
