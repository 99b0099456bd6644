use Rattle.std.proofs.Common.{sym, subst, List}
use Rattle.std.specs.Prelude.{◌↔◌, Contains}
use Rattle.std.proofs.lemmas.Result.{IfOk-weaker}
use Rattle.c_text.specs.declared.origin.FileToken.{FileToken}
use Rattle.tied_tokens.specs.Tokens.{plain_file_token, plain_file_tokens}
use Rattle.tied_tokens.specs.Ties.{plain_tied_tokens}
use Rattle.tied_tokens.specs.Reached.{IsReached}
use Rattle.tied_tokens.proofs.classes.class_of_ties.Goals as goal

pub returns-clause-reached : goal.returns-clause-reached
returns-clause-reached c =
    IfOk-weaker c.in_order.result _ _
    (λ class members. λ token.
    let found = subst (λ (ts : List FileToken). Contains (plain_file_tokens ts) token ↔ IsReached (plain_tied_tokens c.args.all.now) (plain_file_token c.args.place.now) token)
    (sym c.deref.ensures.value) (c.in_ok-found.ensures token) in
    let same = members token in
    (λ h. found.0 (same.0 h), λ h. same.1 (found.1 h)))
    c.in_order.ensures.members
