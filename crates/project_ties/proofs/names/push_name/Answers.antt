use Rattle.std.proofs.Common.{◌++◌, List, map, ap, ◌∙◌}
use Rattle.cond_formula.specs.Features.{has}
use Rattle.tied_tokens.specs.declared.names.DeclaredName.{DeclaredName}
use Rattle.tied_tokens.specs.Ties.{plain_declared_name}
use Rattle.told_ties.specs.Ties.{NamedToken, named_seen}
use Rattle.project_ties.proofs.Pushed.{named_push, one_named}
use Rattle.project_ties.proofs.names.push_name.Goals as goal

pub returns-clause-named : goal.returns-clause-named
returns-clause-named g c = λ c' own.
    let old = c.args.names.now.items in
    let entry : DeclaredName = record { token = c.in-Some.token; name = c.in_ok-name.name; when = c.in_ok-when.when } in
    ap (λ (ns : List DeclaredName). named_seen (has c') (map plain_declared_name ns)) c.in_ok-push.ensures.items
    ∙ (named_push (has c') old entry
    ∙ ap (λ (l : List NamedToken). named_seen (has c') (map plain_declared_name old) ++ l)
    (one_named (has c') c.args.tokens.now c.args.told.now (plain_declared_name entry) c.in-Some.ensures c.in_ok-name.ensures (c.in_ok-when.ensures.same c' own)))
