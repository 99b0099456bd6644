use Rattle.std.proofs.Common.{true, sym, ap, ◌∙◌}
use Rattle.std.proofs.lemmas.Result.{IfOk-weaker}
use Rattle.cond_formula.specs.Conditions.{condition_of, value}
use Rattle.conditional.specs.Judgements.{checked}
use Rattle.c_tree.specs.Trees.{plain_tree, plain_trees}
use Rattle.c_tree.specs.TreeLaws.{plain_tree-Node}
use Rattle.core_meaning.specs.Declarations.{based}
use Rattle.operand_rules.specs.PlainOperandTypes.{reason}
use Rattle.type_tables.specs.Forms.{declared_type_form}
use Rattle.type_tables.specs.Seen.{seen_tables}
use Rattle.cond_declarators.specs.Types.{based_in}
use Rattle.cond_declarators.proofs.StructsDeclared.{declares_as}
use Rattle.cond_declarators.proofs.declaring.declare_tree.Goals as goal

pub returns-in-Node : goal.returns-in-Node
returns-in-Node c = IfOk-weaker c.declare_words.result _ _ (λ r declares on.
    declares_as (value on (condition_of c.args.here.now)) (λ scope. based true scope (plain_trees c.deref.result.now)) (λ scope. based_in true scope (plain_tree c.args.words.now))
    (seen_tables on c.args.tables.now) (seen_tables on c.declare_words.new.tables) (checked declared_type_form reason r)
    (λ scope. ap (λ list. based true scope (plain_trees list)) c.deref.ensures.value ∙ sym (ap (based_in true scope) (ap plain_tree c.in-Node.is ∙ plain_tree-Node c.in-Node.field-0 c.in-Node.parts)))
    (declares on)) c.declare_words.ensures
