use Rattle.std.proofs.Common.{sym, ap, ◌∙◌, subst, map, get_or}
use Rattle.c_text.specs.Token.{plain_token}
use Rattle.choice_trees.specs.ChoiceTrees.{semicolon}
use Rattle.std.proofs.lemmas.Result.{IfOk-weaker}
use Rattle.cond_formula.specs.Features.{has}
use Rattle.cond_operands.specs.Operands.{ShowsOperand}
use Rattle.expression_types.specs.Reading as spec
use Rattle.cond_nodes.specs.Reads.{EachRead}
use Rattle.cond_nodes.proofs.nodes.outcomes.Goals as goal

pub returns-in-Index-clause-shows : goal.returns-in-Index-clause-shows
returns-in-Index-clause-shows g c =
    IfOk-weaker c.indexed_node.result _ _ (λ z shows n p right admitted parts numbers.
    subst (λ kind. ShowsOperand (has n) (spec.node_read (g.K.Knowledge.known c.args.known.now n) kind p).outcome z) (sym c.in-Index.is)
    (shows n (g.K.Knowledge.callable c.args.known.now n) (g.K.Knowledge.known c.args.known.now n) p admitted
    (subst (EachRead (has n) (g.K.Knowledge.callable c.args.known.now n) p.operands) (sym c.as_slice-operands.ensures.value) parts.operands))) c.indexed_node.ensures.shows

pub returns-in-Assignment-clause-shows : goal.returns-in-Assignment-clause-shows
returns-in-Assignment-clause-shows g c =
    IfOk-weaker c.assigned_node.result _ _ (λ z shows n p right admitted parts numbers.
    subst (λ kind. ShowsOperand (has n) (spec.node_read (g.K.Knowledge.known c.args.known.now n) kind p).outcome z) (sym c.in-Assignment.is)
    (shows n (g.K.Knowledge.callable c.args.known.now n) (g.K.Knowledge.known c.args.known.now n) p admitted
    (c.sign-first.ensures c.in_ok-none.ensures ∙ (ap (λ ts. get_or (map (λ t. plain_token t.now) ts) 0 semicolon) c.deref.ensures.value ∙ ap (λ ss. get_or ss 0 semicolon) parts.signs))
    (subst (EachRead (has n) (g.K.Knowledge.callable c.args.known.now n) p.operands) (sym c.as_slice-operands.ensures.value) parts.operands))) c.assigned_node.ensures.shows

pub returns-in-Conditional-clause-shows : goal.returns-in-Conditional-clause-shows
returns-in-Conditional-clause-shows g c =
    IfOk-weaker c.conditional_node.result _ _ (λ z shows n p right admitted parts numbers.
    subst (λ kind. ShowsOperand (has n) (spec.node_read (g.K.Knowledge.known c.args.known.now n) kind p).outcome z) (sym c.in-Conditional.is)
    (shows n (g.K.Knowledge.callable c.args.known.now n) (g.K.Knowledge.known c.args.known.now n) p admitted numbers
    (subst (EachRead (has n) (g.K.Knowledge.callable c.args.known.now n) p.operands) (sym c.as_slice-operands.ensures.value) parts.operands))) c.conditional_node.ensures.shows
