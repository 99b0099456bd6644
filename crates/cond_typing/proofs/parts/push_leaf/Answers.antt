use Rattle.std.proofs.Common.{rules, ◌≡◌, false, map, refl, sym, ap, ◌∙◌, subst}
use Rattle.c_text.specs.Token.{plain_token}
use Rattle.cond_formula.specs.Features.{has}
use Rattle.expression_types.specs.Reading.{single, is_selected}
use Rattle.cond_nodes.specs.Reads.{ShowsParts}
use Rattle.cond_nodes.specs.declared.parts.CondParts.{CondParts}
use Rattle.cond_typing.proofs.Pushed.{operand_pushed, is_with_operand}
use Rattle.cond_typing.proofs.parts.push_leaf.Goals as goal

pub returns-then-not-is_selected : goal.returns-then-not-is_selected
returns-then-not-is_selected g c = λ n right.
    let no : c.is_selected.result ≡ false = search rules in
    let new : CondParts = record { operands = c.push.new.self; signs = c.args.so_far.now.signs; words = c.args.so_far.now.words; arguments = c.args.so_far.now.arguments } in
    record {
      reads = λ p parts.
          subst (λ q. ShowsParts (has n) (g.K.Knowledge.callable c.args.known.now n) q new)
          (is_with_operand (g.K.Knowledge.known c.args.known.now n) c.args.kind (plain_token c.args.token.now) p (sym c.is_operand.ensures ∙ c.if-is_operand.true)
          (ap (is_selected c.args.kind) (sym (ap (map (λ t. plain_token t.now)) c.deref.ensures.value ∙ parts.signs)) ∙ (sym c.is_selected.ensures ∙ no)))
          (operand_pushed (has n) (g.K.Knowledge.callable c.args.known.now n) p (single (g.K.Knowledge.known c.args.known.now n) (plain_token c.args.token.now)) c.in_ok-read.read c.args.so_far.now new
          c.in_ok-push.ensures.items refl refl refl (c.in_ok-read.ensures n right) parts);
    }
