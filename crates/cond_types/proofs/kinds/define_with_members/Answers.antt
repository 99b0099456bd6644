use Rattle.std.proofs.Common.{refl}
use Rattle.std.proofs.lemmas.Result.{IfOk-weaker}
use Rattle.cond_formula.specs.Features.{has}
use Rattle.cond_formula.specs.Conditions.{condition_of, value}
use Rattle.c_tree.specs.declared.kinds.Kind.TheVariants as k
use Rattle.c_tree.specs.Grammar.{file_item}
use Rattle.c_tree.specs.Trees.{none, node}
use Rattle.tree_derivations.specs.Derivations.{Derivation}
use Rattle.choice_trees.specs.ChoiceTrees.{plain_item, plain_choices, item_at, parts_at}
use Rattle.choice_variants.specs.Variants.{before}
use Rattle.type_tables.specs.Seen.{seen_tables}
use Rattle.cond_units.specs.Seen.{seen_unit}
use Rattle.cond_units.specs.Units.{one_item}
use Rattle.cond_types.proofs.OneItem.{nothing_done, no_members, no_member_list, struct_here}
use Rattle.cond_types.proofs.kinds.define_with_members.Goals as goal

pub returns-in_default-clause-declares : goal.returns-in_default-clause-declares
returns-in_default-clause-declares g c =
    IfOk-weaker c.never.result _ _ (λ f off n globals rest admitted.
    nothing_done (value (has n) (condition_of c.args.when.now)) (one_item globals (node k.StructDefinition (before (has n) c.args.parts.now none)) rest) (Derivation file_item (node k.StructDefinition (before (has n) c.args.parts.now none)))
    (seen_unit (has n) c.args.unit.now) (value (has n) (condition_of f)) (off (has n)) (no_members (before (has n) c.args.parts.now none) (c.in_default.ensures (has n)))) c.never.ensures

pub returns-in_default-members_in-clause-declares : goal.returns-in_default-members_in-clause-declares
returns-in_default-members_in-clause-declares g c =
    IfOk-weaker c.never-in_default-members_in.result _ _ (λ f off n globals rest admitted.
    nothing_done (value (has n) (condition_of c.args.when.now)) (one_item globals (node k.StructDefinition (before (has n) c.args.parts.now none)) rest) (Derivation file_item (node k.StructDefinition (before (has n) c.args.parts.now none)))
    (seen_unit (has n) c.args.unit.now) (value (has n) (condition_of f)) (off (has n)) (no_member_list (before (has n) c.args.parts.now none) (c.in_default-members_in.ensures (has n)))) c.never-in_default-members_in.ensures

pub returns-clause-declares : goal.returns-clause-declares
returns-clause-declares g c = λ n globals rest admitted.
    struct_here (before (has n) c.args.parts.now none) (item_at (has n) (plain_item c.in-Some.words.now)) (parts_at (has n) k.Members 0 (plain_choices c.in-Some-members_in.members.now))
    (c.in-Some.ensures (has n)) (c.in-Some-members_in.ensures (has n)) globals rest (value (has n) (condition_of c.args.when.now)) (seen_unit (has n) c.args.unit.now)
    (record { tables = seen_tables (has n) c.define_struct.new.tables; defined = (seen_unit (has n) c.args.unit.now).defined }) (value (has n) (condition_of c.in_ok-refused.refused)) refl
    (λ off. c.in_ok-refused.ensures.elsewhere (has n) off) (λ on unit follows tagged each. c.in_ok-refused.ensures.defined n admitted on unit follows tagged each)
