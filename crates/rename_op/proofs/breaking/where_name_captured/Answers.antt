use Rattle.std.proofs.Common.{List, IsTrue, sym, subst}
use Rattle.std.specs.Prelude.{◌↔◌, map}
use Rattle.cond_formula.specs.Features.{has}
use Rattle.cond_formula.specs.Conditions.{Condition, condition_of, value}
use Rattle.choice_trees.specs.declared.trees.Forest.{Forest}
use Rattle.project_file.specs.declared.projects.Unit.{Unit}
use Rattle.cond_scopes.specs.Units.{present_trees}
use Rattle.told_occurrences.specs.declared.told.ToldUnit.{ToldUnit}
use Rattle.told_ties.specs.Ties.{named_seen}
use Rattle.tied_tokens.specs.declared.names.DeclaredName.{DeclaredName}
use Rattle.tied_tokens.specs.Ties.{plain_declared_name}
use Rattle.class_captures.specs.Captures.{AreCaptured, AreWellTold, MayGetName}
use Rattle.rename_op.proofs.Captured.{capture-told, carried}
use Rattle.rename_op.proofs.breaking.where_name_captured.Goals as goal

pub returns-clause-tells : goal.returns-clause-tells
returns-clause-tells g c = λ place is before.
    let asked = c.args.asked.now in
    let f = condition_of c.in_ok-f.f in
    capture-told
    (record {
      named = record { stand = c.classes_stand_on_text_lines.ensures; apart = c.listed_stand_apart.ensures; renamed = c.listed_classes_are_renamed.ensures };
      may_be = c.classes_may_be_renamed.ensures;
      have_trees = c.analyses_have_trees.ensures;
      tell_well = c.analyses_tell_well.ensures;
      may_get = c.classes_may_get_names.ensures;
      renamed = c.identifiers_are_renamed.ensures;
      captures = c.captures_are_of_trees.ensures;
    }) asked place is before f
    (λ n admitted. carried
    (λ (units : List Unit) (forests : List Forest) (told : List ToldUnit) (names : List DeclaredName).
    AreWellTold (has n) units forests told (named_seen (has n) (map plain_declared_name names))
    → MayGetName asked.class.now asked.old.now asked.new.now (present_trees (has n) units forests)
    → IsTrue (value (has n) f) ↔ AreCaptured asked.class.now asked.new.now (present_trees (has n) units forests))
    c.deref.ensures.value c.deref-2.ensures.value c.deref-3.ensures.value c.deref-4.ensures.value
    (c.in_ok-f.ensures.captured n (subst (λ (m : Condition). IsTrue (value (has n) m)) (sym c.requires.model) admitted.admitted)))
