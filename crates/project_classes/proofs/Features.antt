-- Conditions over a project's features are over all features that there may be.
use Rattle.std.proofs.Common.{ℕ, ◌≤◌}
use Rattle.std.proofs.lemmas.List.Elements.{All-weaker}
use Rattle.cond_formula.specs.Conditions.{VarsBelow}
use Rattle.cond_formula.specs.ConditionLaws.{VarsBelow-raised}
use Rattle.tied_tokens.specs.Ties.{PlainTie, PlainDeclaredName, PlainTiedTokens, NamesFeaturesBelow}

pub raised : (few many : ℕ) → few ≤ many → (all : PlainTiedTokens) → NamesFeaturesBelow few all → NamesFeaturesBelow many all
raised few many less all below = record {
  admitted = VarsBelow-raised few many less all.admitted below.admitted;
  accepted = VarsBelow-raised few many less all.accepted below.accepted;
  ties = All-weaker (λ (tie : PlainTie). VarsBelow few tie.when) (λ (tie : PlainTie). VarsBelow many tie.when) (λ tie h. VarsBelow-raised few many less tie.when h) all.ties below.ties;
  names = All-weaker (λ (n : PlainDeclaredName). VarsBelow few n.when) (λ (n : PlainDeclaredName). VarsBelow many n.when) (λ n h. VarsBelow-raised few many less n.when h) all.names below.names;
}
