use Rattle.std.proofs.Common.{◌∙◌}
use Rattle.cond_formula.specs.Conditions.{condition_of, value}
use Rattle.c_types.specs.Types.{plain_type}
use Rattle.c_tree.specs.Trees.{plain_tree, plain_trees}
use Rattle.type_tables.specs.Seen.{seen_tables}
use Rattle.cond_parameters.specs.Types.{found_at}
use Rattle.cond_parameters.proofs.OneParameter.{words_found}
use Rattle.cond_parameters.proofs.found.by_words.Goals as goal

pub returns : goal.returns
returns c = λ on scope follows before first names.
    c.in_ok-parameter.ensures on
    ∙ words_found (seen_tables on c.args.tables.now) scope follows.follows c.args.defining before (plain_trees c.args.words.now) (plain_tree c.args.declarator.now) first
    (value on (condition_of c.in_ok-base.base.fits)) (plain_type c.in_ok-base.base.ty) (found_at on c.in_ok-found.found) (c.in_ok-base.ensures on scope follows.follows)
    (λ ty there same. c.in_ok-found.ensures on scope follows before ty first names there same)
