use Rattle.std.proofs.Common.{◌≡◌, Bool, ◌&&◌, List, [], IsTrue, ap, ◌∙◌, subst}
use Rattle.cond_formula.specs.Features.{has}
use Rattle.cond_formula.specs.Conditions.{condition_of, conditions_of, value, all_true}
use Rattle.c_tree.specs.declared.kinds.Kind.TheVariants as k
use Rattle.choice_trees.specs.ChoiceTrees.{plain_choices, parts_at}
use Rattle.choice_trees.specs.Leaves.{parts_leaves}
use Rattle.scope_readings.specs.Walks.{walk_node}
use Rattle.cond_bindings.specs.Names.{Steps}
use Rattle.cond_bindings.specs.PlainNames.{plain_names}
use Rattle.cond_scopes.specs.Progress.{numbers}
use Rattle.cond_scopes.proofs.UnitLemmas.{WasRead, is_scoped, uses_names, is_refused}
use Rattle.cond_scopes.proofs.units.unit_scopes.Goals as goal

was_read :
    (g : _) (c : goal.After-drop-nowhere-2 g) (c' : List Bool) → IsTrue (value (has c') (g.O.Oracle.admits c.args.oracle.now))
    → WasRead (has c') c.args.forest.now (plain_names c.new-names.result) (plain_names c.read_node.new.names) (value (has c') (condition_of c.args.when.now))
was_read g c c' admitted =
    let here : all_true (has c') (conditions_of c.deref-3.result.now) ≡ value (has c') (condition_of c.args.when.now) =
    ap (λ path. all_true (has c') (conditions_of path)) c.deref-3.ensures.value
    ∙ (c.in_ok-path.ensures (has c')
    ∙ ap (λ path. all_true (has c') (conditions_of path) && value (has c') (condition_of c.args.when.now)) (c.deref.ensures.value ∙ c.new-nowhere.ensures.items)) in
    record {
      law = c.scopes_are_read.ensures;
      uses_law = c.file_names_are_read.ensures;
      nothing = c.new-names.ensures.seen (has c');
      steps =
          subst (λ parts. Steps (has c') (value (has c') (condition_of c.args.when.now)) (numbers (parts_leaves (has c') k.Unit 0 (plain_choices parts) []))
          (walk_node k.Unit k.Unit (parts_at (has c') k.Unit 0 (plain_choices parts))) [] (plain_names c.new-names.result) (plain_names c.read_node.new.names))
          c.deref-2.ensures.value
          (subst (λ present. Steps (has c') present (numbers (parts_leaves (has c') k.Unit 0 (plain_choices c.deref-2.result.now) []))
          (walk_node k.Unit k.Unit (parts_at (has c') k.Unit 0 (plain_choices c.deref-2.result.now))) [] (plain_names c.new-names.result) (plain_names c.read_node.new.names))
          here
          (c.in_ok-read_node.ensures.reads c' [] admitted));
    }

pub returns-clause-scoped : goal.returns-clause-scoped
returns-clause-scoped g c = λ c' admitted.
    is_scoped (has c') c.args.forest.now (plain_names c.new-names.result) (plain_names c.read_node.new.names) (condition_of c.args.when.now) (was_read g c c' admitted)
    c.finished.result.0 c.finished.ensures.identifiers

pub returns-clause-used : goal.returns-clause-used
returns-clause-used g c = λ c' admitted.
    uses_names (has c') c.args.forest.now (plain_names c.new-names.result) (plain_names c.read_node.new.names) (condition_of c.args.when.now) (was_read g c c' admitted)
    c.finished.result.0 c.finished.ensures.uses

pub returns-clause-refused : goal.returns-clause-refused
returns-clause-refused g c = λ c' admitted.
    is_refused (has c') c.args.forest.now (plain_names c.new-names.result) (plain_names c.read_node.new.names) (condition_of c.args.when.now) (was_read g c c' admitted)
    (value (has c') (condition_of c.finished.result.1))
    (ap (value (has c')) c.finished.ensures.refused ∙ c.in_ok-read_node.ensures.tells c' admitted (c.new-names.ensures.tells (has c')))
