use Rattle.std.proofs.Common.{length, map, List, sym, subst}
use Rattle.std.specs.Prelude.{All}
use Rattle.std.proofs.lemmas.List.Elements.{All-map}
use Rattle.cond_formula.specs.Conditions.{VarsBelow}
use Rattle.cond_formula.specs.ConditionLaws.{VarsBelow-raised}
use Rattle.feature_model.specs.ModelView.{admitted}
use Rattle.tied_tokens.specs.declared.names.DeclaredName.{DeclaredName}
use Rattle.tied_tokens.specs.declared.ties.Tie.{Tie}
use Rattle.tied_tokens.specs.Ties.{PlainTie, PlainDeclaredName, plain_tie, plain_declared_name}
use Rattle.condition_cases.proofs.classes.show.Goals as goal

pub show_places-requires : goal.show_places-requires
show_places-requires g c =
    let TieBelow = λ (tie : PlainTie). VarsBelow 128 tie.when in
    let NameBelow = λ (n : PlainDeclaredName). VarsBelow 128 n.when in
    record {
      admitted = VarsBelow-raised (length c.deref.result.now) 128 c.in_ok-model.ensures.few (admitted c.in_ok-model.model) c.in_ok-model.ensures.model.below;
      accepted = c.in_ok-accepted.ensures;
      ties = subst (λ (ties : List Tie). All TieBelow (map plain_tie ties)) (sym c.deref-3.ensures.value) (All-map TieBelow plain_tie c.in_ok-ties.ties.items c.in_ok-ties.ensures);
      names =
          subst (λ (names : List DeclaredName). All NameBelow (map plain_declared_name names)) (sym c.deref-4.ensures.value)
          (All-map NameBelow plain_declared_name c.in_ok-names.names.items c.in_ok-names.ensures);
    }
