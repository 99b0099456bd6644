use Rattle.std.proofs.Common.{◌∙◌}
use Rattle.c_tree.specs.Trees.{plain_tree}
use Rattle.core_meaning.specs.Constancy.{judged_count}
use Rattle.cond_parameters.proofs.ParameterTypes.{constant_size}
use Rattle.cond_parameters.proofs.declarators.is_constant_size.Goals as goal

pub returns : goal.returns
returns c = λ scope name. c.is_ok.ensures.value ∙ constant_size c.in_ok-count.count (judged_count scope (plain_tree c.args.size.now) name) (c.in_ok-count.ensures scope name)
