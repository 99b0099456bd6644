-- What the parts of the grammar may begin and end with, and that no part that may begin with a number follows one that may end with `int`.
use Rattle.std.proofs.Common.{Bool, true, false, not, ◌&&◌, ◌||◌, List, [], ◌∷◌, map, refl, IsTrue}
use Rattle.c_tree.specs.declared.kinds.Kind.{Kind}
use Rattle.c_tree.specs.declared.kinds.Kind.TheVariants as k
use Rattle.c_tree.specs.declared.terminals.Terminal.{Terminal}
use Rattle.c_tree.specs.declared.terminals.Terminal.TheVariants.{Int, Number}
use Rattle.c_tree.specs.Terminals.{is_one_of}
use Rattle.c_tree.specs.Grammar.{Category, expression, arguments, cast_type, specifiers, file_specifiers, tag, declarators, declarator, abstract_declarator, parameters, parameter, initialiser, initialisers, statement, else_part, block, items, item, for_start, members, member, file_item, Slot, word, perhaps, stars, needed, optional, Shape, in_row, of_words, of_texts, repeated, any_number, separated, separated_or_ended, declaring, shape, belongs}

-- whether what stands in a place of this category may begin with a number, or end with `int`
abbrev pub may_begin_with_number : Category → Bool
may_begin_with_number (expression wanted) = true
may_begin_with_number arguments = true
may_begin_with_number initialiser = true
may_begin_with_number initialisers = true
may_begin_with_number statement = true
may_begin_with_number items = true
may_begin_with_number item = true
may_begin_with_number for_start = true
may_begin_with_number other = false

-- (the row of an abstract declarator alone doesn't say that it has any part, so it counts as one that may leave an `int` before it last)
abbrev pub may_end_with_int : Category → Bool
may_end_with_int cast_type = true
may_end_with_int specifiers = true
may_end_with_int file_specifiers = true
may_end_with_int parameters = true
may_end_with_int parameter = true
may_end_with_int abstract_declarator = true
may_end_with_int other = false

-- Whether these parts may stand where the token before may be `int` (`after`), if the last token may be one behind them (`ended`).
abbrev pub safe_row : Bool → List Slot → Bool → Bool
safe_row after [] ended = not after || ended
safe_row after (word ts ∷ slots) ended = not (after && is_one_of ts Number) && safe_row (is_one_of ts Int) slots ended
safe_row after (perhaps ts ∷ slots) ended = not (after && is_one_of ts Number) && safe_row (after || is_one_of ts Int) slots ended
safe_row after (stars ∷ slots) ended = safe_row after slots ended
safe_row after (needed category ∷ slots) ended = not (after && may_begin_with_number category) && safe_row (may_end_with_int category) slots ended
safe_row after (optional category ∷ slots) ended =
    not (after && may_begin_with_number category) && safe_row (after || may_end_with_int category) slots ended

abbrev pub word_slots : List Terminal → List Slot
word_slots words = map (λ w. word (w ∷ [])) words

abbrev pub safe_words : Bool → List (List Terminal) → Bool → Bool
safe_words after [] ended = true
safe_words after (words ∷ lists) ended = safe_row after (word_slots words) ended && safe_words after lists ended

-- parts that stand behind one another, and parts with commas between them
abbrev pub safe_each : Bool → Category → Bool
safe_each after each = not (after && may_begin_with_number each) && not (may_end_with_int each)

abbrev pub safe_list : Bool → Category → Bool → Bool
safe_list after each ended = not (after && may_begin_with_number each) && (not (may_end_with_int each) || ended)

abbrev pub safe_shape : Bool → Shape → Bool → Bool
safe_shape after (in_row slots) ended = safe_row after slots ended
safe_shape after (of_words lists) ended = safe_words after lists ended
safe_shape after of_texts ended = true
safe_shape after (repeated each) ended = safe_each after each
safe_shape after (any_number each) ended = not after && not (may_end_with_int each)
safe_shape after (separated each) ended = safe_list after each ended
safe_shape after (separated_or_ended each) ended = safe_list after each ended
safe_shape after (declaring role) ended = true

abbrev pub IsSafe : Category → Kind → Type 0
IsSafe category kind = IsTrue (safe_shape (not (may_begin_with_number category)) (shape category kind) (may_end_with_int category))

pub shapes_are_safe : (category : Category) (kind : Kind) → IsTrue (belongs category kind) → IsSafe category kind
shapes_are_safe (expression wanted) k.Specifiers h = absurd cc
shapes_are_safe (expression wanted) k.Parameters h = absurd cc
shapes_are_safe (expression wanted) k.Parameter h = absurd cc
shapes_are_safe (expression wanted) _ h = refl
shapes_are_safe initialiser k.Specifiers h = absurd cc
shapes_are_safe initialiser k.Parameters h = absurd cc
shapes_are_safe initialiser k.Parameter h = absurd cc
shapes_are_safe initialiser _ h = refl
shapes_are_safe statement k.Specifiers h = absurd cc
shapes_are_safe statement k.Parameters h = absurd cc
shapes_are_safe statement k.Parameter h = absurd cc
shapes_are_safe statement _ h = refl
shapes_are_safe item k.Specifiers h = absurd cc
shapes_are_safe item k.Parameters h = absurd cc
shapes_are_safe item k.Parameter h = absurd cc
shapes_are_safe item _ h = refl
shapes_are_safe arguments k.Arguments h = refl
shapes_are_safe cast_type k.Specifiers h = refl
shapes_are_safe specifiers k.Specifiers h = refl
shapes_are_safe file_specifiers k.Specifiers h = refl
shapes_are_safe tag k.Specifiers h = refl
shapes_are_safe (declarators role) k.Declarators h = refl
shapes_are_safe (declarator role) k.Declarator h = refl
shapes_are_safe (declarator role) k.ArrayDeclarator h = refl
shapes_are_safe (declarator role) k.FunctionDeclarator h = refl
shapes_are_safe abstract_declarator k.Declarator h = refl
shapes_are_safe abstract_declarator k.ArrayDeclarator h = refl
shapes_are_safe parameters k.Parameters h = refl
shapes_are_safe parameter k.Parameter h = refl
shapes_are_safe initialisers k.Initialisers h = refl
shapes_are_safe else_part k.Else h = refl
shapes_are_safe block k.Block h = refl
shapes_are_safe items k.Items h = refl
shapes_are_safe for_start k.LocalDeclaration h = refl
shapes_are_safe for_start k.ForStart h = refl
shapes_are_safe members k.Members h = refl
shapes_are_safe member k.Member h = refl
shapes_are_safe file_item k.Function h = refl
shapes_are_safe file_item k.Declaration h = refl
shapes_are_safe file_item k.StructDefinition h = refl
shapes_are_safe file_item k.StructDeclaration h = refl
shapes_are_safe _ _ h = absurd cc
