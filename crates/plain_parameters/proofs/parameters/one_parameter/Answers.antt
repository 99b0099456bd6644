use Rattle.std.proofs.Common.{map, rules}
use Rattle.c_text.specs.Token.{plain_token}
use Rattle.c_tree.specs.Trees.{plain_tree, plain_trees}
use Rattle.core_meaning.specs.Declarations.{one_parameter}
use Rattle.plain_scope.specs.PlainScope.{plain_scope, uses_of}
use Rattle.plain_scope.specs.Judgements.{RefusedAs}
use Rattle.plain_parameters.specs.PlainParameters.{plain_parameter}
use Rattle.plain_parameters.specs.Parameters.{parameter_gives, parameter_refused}
use Rattle.plain_parameters.proofs.parameters.one_parameter.Goals as goal

pub returns-in_err-p : goal.returns-in_err-p
returns-in_err-p c =
    let outer : RefusedAs (one_parameter c.args.defining (plain_scope c.args.scope.now) (map plain_parameter c.args.before.now) (plain_tree c.args.tree.now) (plain_token c.args.behind.now)) c.in_err-p.field-0.0 = parameter_refused c.args.defining (plain_scope c.args.scope.now) (map plain_parameter c.args.before.now) (plain_tree c.args.tree.now) (plain_tree c.in_ok-words.words.now) (plain_tree c.in_ok-words.declarator.now) (plain_trees c.in_ok-parts.parts.now) (plain_trees c.in_ok-naming.naming.now) (plain_token c.args.behind.now) (plain_token c.first_token-first.result.now) c.in_err-p.field-0.0 c.in_ok-parts.ensures (search rules) c.in_ok-naming.ensures c.first_token-first.ensures c.in_err-p.ensures in
    search (rules, outer)

pub returns : goal.returns
returns c =
    parameter_gives c.args.defining (plain_scope c.args.scope.now) (map plain_parameter c.args.before.now) (plain_tree c.args.tree.now) (plain_tree c.in_ok-words.words.now) (plain_tree c.in_ok-words.declarator.now) (plain_trees c.in_ok-parts.parts.now) (plain_trees c.in_ok-naming.naming.now) (plain_token c.args.behind.now) (plain_token c.first_token-first.result.now) (plain_parameter c.in_ok-p.p) (uses_of c.args.used.now) (uses_of c.by_words.new.used) c.in_ok-parts.ensures (search rules) c.in_ok-naming.ensures c.first_token-first.ensures c.in_ok-p.ensures
