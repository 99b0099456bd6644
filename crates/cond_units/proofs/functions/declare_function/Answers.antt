use Rattle.cond_formula.specs.Features.{has}
use Rattle.cond_formula.specs.Conditions.{condition_of, value}
use Rattle.choice_trees.specs.ChoiceTrees.{plain_item, item_at}
use Rattle.plain_objects.specs.PlainStates.{plain_storage}
use Rattle.cond_units.specs.Seen.{seen_unit}
use Rattle.cond_units.proofs.OneFunctionDeclarator.{head_declares}
use Rattle.cond_units.proofs.functions.declare_function.Goals as goal

pub returns-clause-declares : goal.returns-clause-declares
returns-clause-declares g c = λ n initialiser admitted given.
    let does = c.in_ok-refused.ensures.declares n admitted in
    record {
      elsewhere = does.elsewhere;
      does = λ on. record {
        goes_on = λ by unit ty is there shown ready.
            head_declares by unit.scope.structs (value (has n) (condition_of c.in_ok-refused.refused)) (seen_unit (has n) c.read_function.new.unit) (plain_storage c.args.storage) unit ty
            (item_at (has n) (plain_item c.args.declarator.now)) initialiser c.args.initialised given ((does.does on).goes_on by unit ty is there shown (ready, tt));
      };
    }
