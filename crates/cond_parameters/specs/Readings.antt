-- Lists of parameters as they are read parameter by parameter, so that a reader of all configurations, in which a parameter may be there or not,
-- goes on in the same way.
use Rattle.std.specs.Prelude.{Bool, true, false, ◌&&◌, ◌||◌, List, [], ◌∷◌, ◌++◌, if◌then◌else◌}
use Rattle.conditional.specs.Judgements.{Checked, fine, refused, bind}
use Rattle.c_text.specs.Token.{PlainToken}
use Rattle.c_tree.specs.declared.kinds.Kind.{Kind}
use Rattle.c_tree.specs.declared.kinds.Kind.TheVariants as k
use Rattle.c_tree.specs.Trees.{PlainTree, leaf, node}
use Rattle.choice_expansions.specs.Steps.{after_each}
use Rattle.core_meaning.specs.Entities.{Scope}
use Rattle.core_meaning.specs.Declarations.{Parameter, with_block, one_parameter}
use Rattle.core_meaning.specs.UnitNames.{with_parameters}
use Rattle.operand_types.specs.OperandTypes.{outcome_as}
use Rattle.plain_parameters.specs.Parameters.{is_void_node}

-- ---- the parameters of a list

abbrev pub is_parameter_kind : Kind → Bool
is_parameter_kind k.Parameter = true
is_parameter_kind kind = false

abbrev pub is_parameter : PlainTree → Bool
is_parameter (leaf token) = false
is_parameter (node kind parts) = is_parameter_kind kind

abbrev pub parameters_among : List PlainTree → List PlainTree
parameters_among [] = []
parameters_among (tree ∷ rest) = if is_parameter tree then tree ∷ parameters_among rest else parameters_among rest

-- ---- one after the other

-- what has stood so far, and what comes of it
pub record Reading : Type 0 where
  -- a parameter has stood, perhaps the lone `void`
  pub some : Bool
  -- the lone `void` has
  pub void : Bool
  pub parameters : Checked (List Parameter) (Unit {0})

abbrev pub nothing_read : Reading
nothing_read = record { some = false; void = false; parameters = fine [] }

-- one more parameter behind those of the block
abbrev pub with_next : Bool → Scope → PlainToken → PlainTree → List Parameter → Checked (List Parameter) (Unit {0})
with_next defining scope behind tree before =
    outcome_as (λ p. before ++ p ∷ []) (one_parameter defining (with_parameters (with_block scope) 0 before) before tree behind)

-- nothing stands beside the lone `void`
abbrev pub goes_on : Bool → Scope → PlainToken → Reading → PlainTree → Reading
goes_on defining scope behind r tree = record {
  some = true;
  void = r.void || is_void_node tree;
  parameters =
      if r.void || (is_void_node tree && r.some) then refused tt
      else if is_void_node tree then r.parameters
      else bind r.parameters (with_next defining scope behind tree);
}

abbrev pub read_all : Bool → Scope → PlainToken → Reading → List PlainTree → Reading
read_all defining scope behind r trees = after_each (goes_on defining scope behind) r trees
