use Rattle.std.proofs.Common.{◌≡◌, ◌-◌, ◌<◌, ◌++◌, [], ◌∷◌, get_or, drop, map, ap, ◌∙◌, arith, rules}
use Rattle.c_text.specs.Splices.{spliced, splice_length}
use Rattle.c_lexer.proofs.LengthLemmas.{rest-is}
use Rattle.c_lexer.proofs.SpliceLemmas.{Goes, keep-loop, go-loop}
use Rattle.c_lexer.proofs.splices.spliced.Goals as goal
use Rattle.c_lexer.proofs.splices.spliced.Goals.{then-gone-eq0+in_ok-push+in_ok-push-2, else-gone-eq0}

pub loop-i-preserved : goal.loop-i-preserved
loop-i-preserved c =
    let text = c.args.text.now in
    let i = c.loop-i.i in
    let gone = c.gone_at-gone.result in
    let h : Goes c.loop-i.more (drop i text) gone = record {
      splice = λ z. c.gone_at-gone.ensures.splice z ∙ ap splice_length (rest-is i text);
      rest = c.gone_at-gone.ensures.rest;
    } in
    let inside = c.loop-i-test.true in
    elim c.if-gone-eq0.branch [
      | then-gone-eq0+in_ok-push+in_ok-push-2 w ↦
          let none : gone ≡ 0 = w.if-gone-eq0.true in
          let bytes : c.if-gone-eq0.bytes.items ≡ c.loop-i.bytes.items ++ get_or text i 0 ∷ [] = search rules in
          let places : c.if-gone-eq0.places.items ≡ c.loop-i.places.items ++ i ∷ [] = search rules in
          let more : c.if-gone-eq0.more ≡ 0 = search rules in
          record {
            bytes = keep-loop (λ p. p.byte) c.loop-i.bytes.items text (map (λ p. p.byte) (spliced text)) c.loop-i.more i gone inside h c.loop-i.invariant.bytes none c.if-gone-eq0.bytes.items c.if-gone-eq0.more bytes more;
            places = keep-loop (λ p. p.at) c.loop-i.places.items text (map (λ p. p.at) (spliced text)) c.loop-i.more i gone inside h c.loop-i.invariant.places none c.if-gone-eq0.places.items c.if-gone-eq0.more places more;
          }
      | else-gone-eq0 w ↦
          let some : 0 < gone = omega (arith, w.if-gone-eq0.false) in
          let bytes : c.if-gone-eq0.bytes.items ≡ c.loop-i.bytes.items = search rules in
          let places : c.if-gone-eq0.places.items ≡ c.loop-i.places.items = search rules in
          let more : c.if-gone-eq0.more ≡ gone - 1 = search rules in
          record {
            bytes = go-loop (λ p. p.byte) c.loop-i.bytes.items text (map (λ p. p.byte) (spliced text)) c.loop-i.more i gone inside h c.loop-i.invariant.bytes some c.if-gone-eq0.bytes.items c.if-gone-eq0.more bytes more;
            places = go-loop (λ p. p.at) c.loop-i.places.items text (map (λ p. p.at) (spliced text)) c.loop-i.more i gone inside h c.loop-i.invariant.places some c.if-gone-eq0.places.items c.if-gone-eq0.more places more;
          }
    ]
