use Rattle.std.proofs.Common.{◌++◌, List, map, ap, ◌∙◌}
use Rattle.cond_formula.specs.Features.{has}
use Rattle.tied_tokens.specs.declared.ties.Tie.{Tie}
use Rattle.tied_tokens.specs.Ties.{plain_tie}
use Rattle.told_ties.specs.Ties.{TiedPair, tied_seen}
use Rattle.project_ties.proofs.Pushed.{tied_push, one_tied}
use Rattle.project_ties.proofs.ties.push_tie.Goals as goal

pub returns-clause-tied : goal.returns-clause-tied
returns-clause-tied g c = λ c' own.
    let old = c.args.ties.now.items in
    let tie : Tie = record { identifier = c.in-Some.identifier; declared_by = c.in-Some-file_token.declared_by; when = c.in_ok-when.when } in
    ap (λ (ts : List Tie). tied_seen (has c') (map plain_tie ts)) c.in_ok-push.ensures.items
    ∙ (tied_push (has c') old tie
    ∙ ap (λ (l : List TiedPair). tied_seen (has c') (map plain_tie old) ++ l)
    (one_tied (has c') c.args.tokens.now c.args.pair.now (plain_tie tie) c.in-Some.ensures c.in-Some-file_token.ensures (c.in_ok-when.ensures.same c' own)))
