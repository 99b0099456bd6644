use Rattle.std.proofs.Common.{◌≡◌, drop, List, Some, map, refl, sym, ap, subst, ◌∙◌, arith}
use Rattle.std.proofs.lemmas.List.{drop_all}
use Rattle.cond_formula.specs.Features.{has}
use Rattle.c_text.specs.Expressions.{word_of}
use Rattle.pp_lines.specs.declared.expressions.Value.{Value}
use Rattle.pp_lines.specs.ExpressionView.{reader_view, read_on}
use Rattle.pp_lines.specs.Values.{IsValueOf}
use Rattle.cond_tokens.specs.declared.tokens.CondToken.{CondToken}
use Rattle.cond_tokens.specs.Streams.{tokens_at}
use Rattle.cond_expressions.specs.Places.{value_at}
use Rattle.cond_expressions.proofs.Readings.{place_behind, reads_item}
use Rattle.cond_expressions.proofs.evaluation.evaluate_all.Goals as goal

pub loop-token-init : goal.loop-token-init
loop-token-init g c = record {
  kept = refl;
  stand = λ n admitted. record {
    place = Some (reader_view c.start-start.result);
    seen_there = c.in_ok-places.ensures (has n);
    reads = ap (λ (p : _). read_on (Some p) (map word_of (tokens_at (has n) c.args.tokens.now))) c.start-start.ensures;
  };
}

pub loop-token-preserved : goal.loop-token-preserved
loop-token-preserved g c = record {
  kept = c.in_ok-places-2.ensures.kept ∙ c.loop-token.invariant.kept;
  stand = λ n admitted.
      let before = c.loop-token.invariant.stand n admitted in
      record {
        place = place_behind (has n) c.token-item.result before.place;
        seen_there = c.in_ok-places-2.ensures.reads n (rw c.loop-token.invariant.kept admitted) before.place before.seen_there;
        reads = reads_item (has n) before.place c.args.tokens.now c.token-item.result c.loop-token.token-index (omega arith) c.token-item.is ∙ before.reads;
      };
}

pub returns-clause-values : goal.returns-clause-values
returns-clause-values g c = λ n admitted.
    let at_end = c.loop-token.invariant.stand n admitted in
    let values = c.in_ok-values.ensures value_at (record { maps = λ x y a. a }) (has n) (Some at_end.place) at_end.seen_there in
    let last : value_at at_end.place ≡ read_on at_end.place (map word_of (tokens_at (has n) (drop c.loop-token.token-index c.args.tokens.now))) =
    ap (λ (l : List CondToken). read_on at_end.place (map word_of (tokens_at (has n) l))) (sym (drop_all c.loop-token.token-index c.args.tokens.now (omega arith))) in
    record {
      value = value_at at_end.place;
      is_value = subst (λ (v : Value). IsValueOf (tokens_at (has n) c.args.tokens.now) v) (sym (last ∙ at_end.reads)) (c.values_are_read.ensures (tokens_at (has n) c.args.tokens.now));
      holds_alone = c.in_ok-answers.ensures.stands (has n) (value_at at_end.place) (rw c.deref.ensures.value values);
    }
