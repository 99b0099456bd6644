-- The spelling of a unit is read as that unit.
use Rattle.std.proofs.Common.{◌≡◌, List, [], Some, refl, ap, sym, ◌∙◌}
use Rattle.std.specs.Prelude.{IsTrue}
use Rattle.std.proofs.lemmas.Bool.{false≢true}
use Rattle.c_text.specs.Token.{PlainToken}
use Rattle.c_tree.specs.declared.kinds.Kind.TheVariants as k
use Rattle.c_tree.specs.declared.terminals.Terminal.{Terminal}
use Rattle.c_tree.specs.Terminals.{is_one_of}
use Rattle.c_tree.specs.Trees.{PlainTree, PlainTrees, leaf, node, none, more, spelled}
use Rattle.c_tree.specs.Grammar.{Category, expression, arguments, cast_type, specifiers, declarators, initialiser, initialisers, statement, else_part, block, items, item, for_start, members, member, file_item, local, member_of, is_a, is_unit}
use Rattle.c_tree.specs.Units.{Spells}
use Rattle.c_tree.specs.Places.{in_list, begins_part}
use Rattle.c_tree.specs.Machine.{start, read, of_trees}
use Rattle.c_tree.proofs.TerminalCases.{one_of}
use Rattle.c_tree.proofs.Coming.{is_beginning, reading, on, finishing}
use Rattle.c_tree.proofs.Readable.{firsts, Joins, is_steady, Readable, AllReadable, listed}
use Rattle.c_tree.proofs.RowsRead.{trees_listed}
use Rattle.c_tree.proofs.ExpressionsRead.{AllParts, expression_opens, expression_joins}
use Rattle.c_tree.proofs.WordsRead.{specifiers_join, cast_joins}
use Rattle.c_tree.proofs.FirstsRead.{part_first}
use Rattle.c_tree.proofs.StatementsRead.{statement_joins, item_joins, block_joins, else_joins, for_start_joins, member_joins}
use Rattle.c_tree.proofs.ListsRead.{list_read, items_join, members_join, arguments_join, initialisers_join, initialiser_joins}
use Rattle.c_tree.proofs.DeclaratorsRead.{declarator_read_as}
use Rattle.c_tree.proofs.ParametersRead.{abstract_read_as, parameter_read_as, parameters_read_as}
use Rattle.c_tree.proofs.DeclarationsRead.{local_joins, member_of_joins, declaration_read_as, definition_read_as}
use Rattle.c_tree.proofs.FileItemsRead.{file_item_joins}

part_joins :
    (category : Category) (tree : PlainTree) → AllParts tree → IsTrue (is_steady category) → IsTrue (is_a category tree)
    → Joins category tree
part_joins (expression wanted) tree all s h = expression_joins wanted tree all h
part_joins arguments tree all s h = arguments_join tree all h
part_joins cast_type tree all s h = cast_joins tree h
part_joins specifiers tree all s h = specifiers_join tree h
part_joins (declarators local) tree all s h = local_joins tree all h
part_joins (declarators member_of) tree all s h = member_of_joins tree all h
part_joins initialiser tree all s h = initialiser_joins tree all h
part_joins initialisers tree all s h = initialisers_join tree all h
part_joins statement tree all s h = statement_joins tree all h
part_joins else_part tree all s h = else_joins tree all h
part_joins block tree all s h = block_joins tree all h
part_joins items tree all s h = items_join tree all h
part_joins item tree all s h = item_joins tree all h
part_joins for_start tree all s h = for_start_joins tree all h
part_joins members tree all s h = members_join tree all h
part_joins member tree all s h = member_joins tree all h
part_joins file_item tree all s h = file_item_joins tree all h
part_joins _ tree all s h = absurd (false≢true s)

readable_by : (tree : PlainTree) → AllParts tree → Readable tree
readable_by tree all = record {
  first = λ category h rest. part_first category tree all h rest;
  opens = λ wanted h. expression_opens wanted tree all h;
  joins = λ category s h. part_joins category tree all s h;
  abstract_reads = λ inline h suit. abstract_read_as inline tree all h suit;
  parameter_reads = λ inline h suit. parameter_read_as inline tree all h suit;
  parameters_reads = λ inline h suit. parameters_read_as inline tree all h suit;
  declarator_reads = λ asked role h scope suit. declarator_read_as asked role tree all h scope suit;
  declaration_reads = λ h suit. declaration_read_as tree all h suit;
  definition_reads = λ inline h suit. definition_read_as inline tree all h suit;
}

mutual
  tree_readable : (tree : PlainTree) → Readable tree
  tree_readable (leaf token) = readable_by (leaf token) tt
  tree_readable (node kind ps) = readable_by (node kind ps) (parts_readable ps)

  parts_readable : (ps : PlainTrees) → AllReadable ps
  parts_readable none = tt
  parts_readable (more tree ps) = (tree_readable tree, parts_readable ps)

file_item_begins : (x : Terminal) → IsTrue (is_one_of (firsts file_item) x) → IsTrue (is_beginning (begins_part file_item x))
file_item_begins x h =
    one_of (λ x. IsTrue (is_beginning (begins_part file_item x))) (firsts file_item) x h
    (refl, (refl, (refl, (refl, (refl, (refl, (refl, (refl, tt))))))))

unit_read : (tree : PlainTree) → IsTrue (is_unit tree) → reading start (spelled tree) ≡ Some tree
unit_read (leaf token) h = absurd (false≢true h)
unit_read (node k.Unit ps) h =
    list_read k.Unit file_item refl file_item_begins (λ tree x e one. tt) [] [] (λ tree e. tt) ps [] h (parts_readable ps)
    ∙ finishing (in_list k.Unit file_item) (listed ps) [] [] k.Unit refl
    ∙ ap (λ qs. Some (node k.Unit qs)) (trees_listed ps)
unit_read (node _ ps) h = absurd (false≢true h)

pub spelt_is_read : (tokens : List PlainToken) (tree : PlainTree) → Spells tokens tree → read of_trees tokens ≡ Some tree
spelt_is_read tokens tree spells =
    ap (read of_trees) (sym spells.text) ∙ on start (spelled tree) ∙ unit_read tree spells.unit
