-- The slots and places of the code as those of the grammar.
use Rattle.std.specs.Prelude.{List, [], ◌∷◌}
use Rattle.c_tree.specs.declared.kinds.Kind.{Kind}
use Rattle.c_tree.specs.declared.kinds.Kind.TheVariants.{ArrayDeclarator}
use Rattle.c_tree.specs.declared.terminals.Terminal.{Terminal}
use Rattle.c_tree.specs.declared.terminals.Terminal.TheVariants as t
use Rattle.c_tree.specs.Grammar as grammar
use Rattle.grammar_moves.specs.declared.slots.Role.{Role}
use Rattle.grammar_moves.specs.declared.slots.Role.TheVariants as role
use Rattle.grammar_moves.specs.declared.slots.Category.{Category}
use Rattle.grammar_moves.specs.declared.slots.Category.TheVariants as category
use Rattle.grammar_moves.specs.declared.slots.Choices.{Choices}
use Rattle.grammar_moves.specs.declared.slots.Choices.TheVariants as choices
use Rattle.grammar_moves.specs.declared.slots.Slot.{Slot}
use Rattle.grammar_moves.specs.declared.slots.Slot.TheVariants as slot
use Rattle.grammar_moves.specs.declared.rows.Row.{Row}
use Rattle.grammar_moves.specs.declared.rows.Row.TheVariants as row

abbrev pub plain_role : Role → grammar.Role
plain_role role.FileFirst = grammar.file_first
plain_role role.FileInline = grammar.file_inline
plain_role role.FileLater = grammar.file_later
plain_role role.Local = grammar.local
plain_role role.Member = grammar.member_of
plain_role role.Parameter = grammar.parameter_of
plain_role role.InlineParameter = grammar.inline_parameter

abbrev pub plain_category : Category → grammar.Category
plain_category (category.Expression wanted) = grammar.expression wanted
plain_category category.Arguments = grammar.arguments
plain_category category.CastType = grammar.cast_type
plain_category category.Specifiers = grammar.specifiers
plain_category category.FileSpecifiers = grammar.file_specifiers
plain_category category.Tag = grammar.tag
plain_category (category.Declarators r) = grammar.declarators (plain_role r)
plain_category category.AbstractDeclarator = grammar.abstract_declarator
plain_category category.Parameters = grammar.parameters
plain_category category.Initialiser = grammar.initialiser
plain_category category.Initialisers = grammar.initialisers
plain_category category.Statement = grammar.statement
plain_category category.ElsePart = grammar.else_part
plain_category category.Block = grammar.block
plain_category category.Items = grammar.items
plain_category category.Item = grammar.item
plain_category category.ForStart = grammar.for_start
plain_category category.Members = grammar.members
plain_category category.Member = grammar.member
plain_category category.FileItem = grammar.file_item

abbrev pub terminals_of : Choices → List Terminal
terminals_of (choices.One terminal) = terminal ∷ []
terminals_of choices.AssignmentSigns = t.Assign ∷ t.CompoundAssign ∷ []
terminals_of choices.ProductSigns = t.Star ∷ t.Divide ∷ []
terminals_of choices.PrefixSigns = t.Ampersand ∷ t.Star ∷ t.Sign ∷ t.Negation ∷ []

abbrev pub plain_slot : Slot → grammar.Slot
plain_slot (slot.Word c) = grammar.word (terminals_of c)
plain_slot slot.Stars = grammar.stars
plain_slot (slot.Needed c) = grammar.needed (plain_category c)
plain_slot (slot.Optional c) = grammar.optional (plain_category c)

abbrev pub row_kind : Row → Kind
row_kind (row.Of kind) = kind
row_kind (row.Brackets has_name) = ArrayDeclarator

abbrev pub row_slots : Row → List grammar.Slot
row_slots (row.Of kind) = grammar.row kind
row_slots (row.Brackets has_name) = grammar.bracketed_size
