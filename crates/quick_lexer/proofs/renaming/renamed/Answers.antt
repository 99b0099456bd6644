use Rattle.std.proofs.Common.{sym, ap, ◌∙◌, map, arith, rules, tests}
use Rattle.std.specs.List.{join_with_byte}
use Rattle.std.proofs.lemmas.Bool.{ne_eqb}
use Rattle.std.proofs.lemmas.List.{length_push}
use Rattle.std.proofs.lemmas.Iterator.Consumers.{YieldsList-end, YieldsList-at}
use Rattle.std.proofs.lemmas.Iterator.Splits.{YieldsList-from_slice_split}
use Rattle.quick_form.specs.Renaming.{renamed_line}
use Rattle.quick_lexer.proofs.RenamingLemmas.{joined_more, map-now}
use Rattle.quick_lexer.proofs.renaming.renamed.Goals as goal

pub loop-line-preserved : goal.loop-line-preserved
loop-line-preserved c =
    let more = length_push c.loop-line.yielded c.in-Some.line in (
      sym (ne_eqb _ 0 (λ e. absurd (omega arith))),
      joined_more (λ line. renamed_line c.args.old.now c.args.new.now line.now) c.loop-line.yielded c.in-Some.line c.loop-line.is_first _ _ c.loop-line.invariant.0 c.loop-line.invariant.1 c.in_ok-push_next_line.ensures,
    )

pub returns : goal.returns
returns c =
    let line = renamed_line c.args.old.now c.args.new.now in
    let all = YieldsList-end (YieldsList-at c.into_iter-line-iterator.ensures.into_iter_gives (YieldsList-from_slice_split _ _ c.args.bytes.now c.split-line-items.ensures.rest c.split-line-items.ensures.done c.split-line-items.ensures.closure (λ x r q k. search (rules, tests)))) c.loop-line.yielded _ c.loop-line.yielded_by _ _ c.in-None.is c.next.ensures.steps in
    c.loop-line.invariant.1
    ∙ ap (join_with_byte 10) (map-now line (λ x. x.now) c.loop-line.yielded ∙ ap (map line) all.0)
