use Rattle.std.proofs.Common.{◌≡◌, Bool, true, false, sym, subst, arith}
use Rattle.std.proofs.lemmas.List.Elements.{All-contains}
use Rattle.tied_tokens.specs.Tokens.{plain_file_token}
use Rattle.tied_tokens.specs.Ties.{PlainTie, plain_tie, plain_tied_tokens}
use Rattle.tied_tokens.specs.Reached.{OccursBy}
use Rattle.tied_tokens.proofs.Members.{source_of}
use Rattle.tied_tokens.proofs.Growth.{all_taken}
use Rattle.tied_tokens.proofs.classes.occurs_somewhere.Goals as goal

pub returns : goal.returns
returns c =
    let all = plain_tied_tokens c.args.all.now in
    let place = plain_file_token c.args.place.now in
    let ties = c.args.all.now.ties.now in (
      λ h. absurd (let no : ◌≡◌ {A = Bool} false true = h in cc),
      λ o.
          let s = source_of plain_tie ties o.tie o.among in
          absurd (All-contains (λ tie. OccursBy all place (plain_tie tie) → ⊥) ties s.source
          (all_taken (λ tie. OccursBy all place (plain_tie tie) → ⊥) ties c.loop-tie.tie-index (omega arith) c.loop-tie.invariant) s.among
          (subst (λ (tie : PlainTie). OccursBy all place tie) (sym s.same) o.occurs)),
    )
