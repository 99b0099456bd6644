-- The places of the code as those of the reader.
use Rattle.std.specs.Prelude.{true, List, [], ◌∷◌, drop, take, Option, Some, None}
use Rattle.c_tree.specs.declared.terminals.Terminal.{Terminal}
use Rattle.c_tree.specs.Grammar as grammar
use Rattle.c_tree.specs.Places as places
use Rattle.grammar_moves.specs.declared.rows.Row.{Row}
use Rattle.grammar_moves.specs.declared.rows.Row.TheVariants as row
use Rattle.grammar_moves.specs.declared.words.Wording.{Wording}
use Rattle.grammar_moves.specs.declared.words.Wording.TheVariants as wording
use Rattle.grammar_moves.specs.declared.words.Words.{Words}
use Rattle.grammar_moves.specs.declared.places.Specified.{Specified}
use Rattle.grammar_moves.specs.declared.places.Specified.TheVariants as specified
use Rattle.grammar_moves.specs.declared.places.Flavour.{Flavour}
use Rattle.grammar_moves.specs.declared.places.Flavour.TheVariants as flavour
use Rattle.grammar_moves.specs.declared.places.Naming.{Naming}
use Rattle.grammar_moves.specs.declared.places.Naming.TheVariants as naming
use Rattle.grammar_moves.specs.declared.places.Place.{Place}
use Rattle.grammar_moves.specs.declared.places.Place.TheVariants as place
use Rattle.grammar_moves.specs.Slots.{plain_role, plain_category, row_slots}

abbrev pub plain_wording : Wording → places.Wording
plain_wording wording.Cast = places.cast_wording
plain_wording wording.Type = places.type_wording
plain_wording wording.File = places.file_wording

abbrev pub plain_words : Words → List Terminal
plain_words words = take words.count words.terminals

abbrev pub plain_specified : Specified → places.Specified
plain_specified specified.ByTag = places.by_tag
plain_specified specified.ByInline = places.by_inline
plain_specified specified.ByOthers = places.by_others

abbrev pub plain_flavour : Flavour → places.Flavour
plain_flavour flavour.Object = places.object
plain_flavour flavour.Empty = places.empty
plain_flavour flavour.Definable = places.definable
plain_flavour flavour.Prototype = places.prototype

abbrev pub plain_naming : Naming → places.Naming
plain_naming naming.LoneVoid = places.lone_void
plain_naming naming.Named = places.named
plain_naming naming.Unnamed = places.unnamed

abbrev pub namings : Option Naming → List places.Naming
namings None = []
namings (Some n) = plain_naming n ∷ []

-- the place in a row behind so many parts
abbrev pub row_place : Row → List grammar.Slot → places.Place
row_place (row.Of kind) slots = places.inside kind slots
row_place (row.Brackets has_name) slots = places.in_brackets has_name slots

abbrev pub plain_place : Place → places.Place
plain_place (place.Inside r read) = row_place r (drop read (row_slots r))
plain_place (place.Operand wanted) = places.operand wanted
plain_place (place.Operator wanted own) = places.operator wanted own
plain_place (place.Opened wanted) = places.opened wanted
plain_place place.InTexts = places.in_texts
plain_place (place.InWords w words) = places.in_words (plain_wording w) (plain_words words)
plain_place (place.InList kind c) = places.in_list kind (plain_category c)
plain_place (place.Entered kind c) = places.entered kind (plain_category c)
plain_place (place.SeparatedFrom kind c) = places.separated_from kind (plain_category c)
plain_place place.Specifying = places.specifying
plain_place (place.Specified s) = places.specified (plain_specified s)
plain_place (place.Declaring inline) = places.declaring inline
plain_place (place.Declared inline f) = places.declared inline (plain_flavour f)
plain_place (place.DeclaratorAt r) = places.declarator_at (plain_role r)
plain_place (place.DeclaratorRead r f) = places.declarator_read (plain_role r) (plain_flavour f)
plain_place (place.DeclaratorNext r) = places.declarator_next (plain_role r)
plain_place (place.InitialiserNext r) = places.initialiser_next (plain_role r)
plain_place (place.InitialiserRead r) = places.initialiser_read (plain_role r)
plain_place (place.BeforeName r) = places.before_name (plain_role r) true
plain_place (place.BehindName r) = places.behind_name (plain_role r)
plain_place (place.ParametersNext r) = places.parameters_next (plain_role r)
plain_place (place.ParametersRead r f) = places.parameters_read (plain_role r) (plain_flavour f)
plain_place (place.BehindParameters f) = places.behind_parameters (plain_flavour f)
plain_place (place.ParameterAt inline before) = places.parameter_at inline (namings before)
plain_place (place.ParameterRead inline n) = places.parameter_read inline (plain_naming n)
plain_place (place.ParameterNext inline n) = places.parameter_next inline (plain_naming n)
plain_place (place.ParameterBegins inline) = places.parameter_begins inline
plain_place (place.ParameterTyped inline lone) = places.parameter_typed inline lone
plain_place (place.ParameterDeclared n) = places.parameter_declared (plain_naming n)

-- a place or none
abbrev pub plain_around : Option Place → List places.Place
plain_around None = []
plain_around (Some p) = plain_place p ∷ []
