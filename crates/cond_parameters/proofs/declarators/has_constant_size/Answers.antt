use Rattle.std.proofs.Common.{sym, ap, ◌∙◌}
use Rattle.std.specs.Prelude.{option_map}
use Rattle.c_tree.specs.Trees.{plain_tree}
use Rattle.core_meaning.specs.Declarations.{count_of_size}
use Rattle.cond_parameters.specs.Types.{is_fine}
use Rattle.cond_parameters.proofs.ParameterTypes.{size_given}
use Rattle.cond_parameters.proofs.declarators.has_constant_size.Goals as goal

pub returns-in_ok-constant-in-Some : goal.returns-in_ok-constant-in-Some
returns-in_ok-constant-in-Some c = λ scope name.
    c.in_ok-constant-in-Some.ensures scope name
    ∙ ap (λ size. is_fine (count_of_size scope name (option_map (λ t. plain_tree t.now) size))) (sym c.in-Some.is)
    ∙ size_given scope name (option_map (λ t. plain_tree t.now) c.args.size) (sym c.has_no_size.ensures ∙ c.if-has_no_size.false)
