-- What is known of a node that has begun, by the place in it: that whatever may come behind its parts makes a node that may stand
-- where this one began.
use Rattle.std.proofs.Common.{◌≡◌, ℕ, ◌+◌, Bool, true, false, not, ◌&&◌, ◌||◌, List, [], ◌∷◌, ◌++◌, length}
use Rattle.std.specs.Prelude.{nat_le, IsTrue}
use Rattle.std.specs.List.{list_any}
use Rattle.c_text.specs.Token.{PlainToken}
use Rattle.c_tree.specs.declared.kinds.Kind.{Kind}
use Rattle.c_tree.specs.declared.kinds.Kind.TheVariants as k
use Rattle.c_tree.specs.declared.terminals.Terminal.{Terminal}
use Rattle.c_tree.specs.declared.terminals.Terminal.TheVariants as t
use Rattle.c_tree.specs.Terminals.{terminal}
use Rattle.c_tree.specs.Trees.{PlainTree, PlainTrees, leaf, node, none, more, absent, all_written, trees}
use Rattle.c_tree.specs.Grammar.{Category, expression, specifiers, file_specifiers, declarators, declarator, abstract_declarator, parameters, parameter, initialiser, else_part, file_item, Role, file_first, file_inline, file_later, local, member_of, parameter_of, inline_parameter, Slot, word, needed, optional, are_words, is_kind, is_named, all_named, is_lone_void, may_be_defined, defines_function, lacks_parameters, may_be_declared, is_inline, is_a, is_word, any_part, are_texts, are_in_row, are_each, are_separated, nearest_if, takes_else, last_takes_else, may_follow_declarator, may_follow_initialiser, is_unit}
use Rattle.c_tree.specs.Places.{Place, inside, operator, opened, in_texts, in_words, in_list, entered, separated_from, specified, declared, declarator_read, declarator_next, initialiser_next, initialiser_read, before_name, behind_name, in_brackets, parameters_next, parameters_read, behind_parameters, parameter_read, parameter_next, parameter_typed, parameter_declared, Wording, file_wording, wordings, Specified, Flavour, object, empty, Naming, lone_void, named, unnamed, are_same, is_inline_role, may_be_declared_so, may_be_defined_so, may_end_with_comma, is_later, later, level_at, words_at, flavour_at, naming_at, specified_by, back, Beginning, no_beginning, begins, Move, shifts, enters, takes, skips, finishes, passes, fails}
use Rattle.c_tree.specs.Machine.{Frame}

-- what is known of a tree and the place at which it ended
abbrev pub Goal : Type 1
Goal = Place → PlainTree → Type 0

-- a statement to which an `else` would belong isn't left before one
abbrev pub Closed : Terminal → PlainTree → Type 0
Closed coming tree = coming ≡ t.Else → takes_else tree ≡ false

-- ---- what a node is read for

-- categories whose first tokens `begins_part` knows
abbrev pub is_readable : Category → Bool
is_readable (expression wanted) = nat_le wanted 14
is_readable (declarators local) = true
is_readable (declarators member_of) = true
is_readable (declarators role) = false
is_readable category = true

abbrev pub is_first : Role → Bool
is_first file_first = true
is_first file_inline = true
is_first role = false

-- the role in the grammar
abbrev pub base : Role → Role
base file_inline = file_first
base file_later = file_first
base role = role

abbrev pub category_of : Role → Category
category_of parameter_of = abstract_declarator
category_of inline_parameter = abstract_declarator
category_of role = declarator (base role)

-- what a node is read for
pub data Aim : Type 0 where
  plain : Category → Aim
  an_operand : ℕ → Aim
  words_of : Wording → Aim
  the_unit : Aim
  declarators_of_file : Aim
  declarator_of : Role → Aim
  the_parameters : Aim
  a_parameter : Aim

pub record IsOperand (wanted : ℕ) (ended : Place) (tree : PlainTree) : Type 0 where
  pub tight : IsTrue (nat_le wanted (level_at ended))
  pub expression : IsTrue (is_a (expression (level_at ended)) tree)

pub record AreWords (wording : Wording) (ended : Place) (tree : PlainTree) : Type 0 where
  pub parts : PlainTrees
  pub node : tree ≡ node k.Specifiers parts
  pub words : IsTrue (are_words (words_at ended) parts)
  pub lawful : IsTrue (list_any (are_same (words_at ended)) (wordings wording))

pub record AreDeclarators (ended : Place) (tree : PlainTree) : Type 0 where
  pub belong : IsTrue (is_a (declarators file_first) tree)
  pub declare :
      (words : PlainTree) → IsTrue (not (is_inline words)) → IsTrue (may_be_declared_so false (flavour_at ended))
      → IsTrue (may_be_declared words tree)
  pub define : IsTrue (may_be_defined_so (flavour_at ended)) → IsTrue (defines_function tree)

pub record IsDeclarator (role : Role) (ended : Place) (tree : PlainTree) : Type 0 where
  pub belongs : IsTrue (is_a (category_of role) tree)
  pub declares :
      IsTrue (not (is_first role) || may_be_declared_so false (flavour_at ended)) → IsTrue (not (lacks_parameters (more tree none)))
  pub defines : IsTrue (may_be_defined_so (flavour_at ended)) → IsTrue (defines_function (node k.Declarators (more tree none)))
  pub is_named : naming_at ended ≡ named → IsTrue (is_named (node k.Parameter (more absent (more tree none))))
  pub is_no_void : naming_at ended ≡ lone_void → ⊥

pub record AreParameters (ended : Place) (tree : PlainTree) : Type 0 where
  pub belong : IsTrue (is_a parameters tree)
  pub define : IsTrue (may_be_defined_so (flavour_at ended)) → IsTrue (may_be_defined (more tree none))

-- what the naming of parameters says of them
abbrev pub Tells : Naming → PlainTrees → Type 0
Tells lone_void parts = IsTrue (is_lone_void parts)
Tells named parts = IsTrue (all_named parts)
Tells unnamed parts = Unit {0}

pub record IsParameter (ended : Place) (tree : PlainTree) : Type 0 where
  pub belongs : IsTrue (is_a parameter tree)
  pub tells : Tells (naming_at ended) (more tree none)

abbrev pub Yields : Aim → Goal
Yields (plain category) ended tree = IsTrue (is_a category tree)
Yields (an_operand wanted) ended tree = IsOperand wanted ended tree
Yields (words_of wording) ended tree = AreWords wording ended tree
Yields the_unit ended tree = IsTrue (is_unit tree)
Yields declarators_of_file ended tree = AreDeclarators ended tree
Yields (declarator_of role) ended tree = IsDeclarator role ended tree
Yields the_parameters ended tree = AreParameters ended tree
Yields a_parameter ended tree = IsParameter ended tree

-- ---- a node with a fixed list of parts

abbrev pub is_if : Kind → Bool
is_if k.If = true
is_if kind = false

-- the `else` may only be left out at the end of an `if`
abbrev pub is_tidy : Kind → List Slot → Bool
is_tidy kind [] = true
is_tidy kind (word terminals ∷ []) = not (is_if kind)
is_tidy kind (word terminals ∷ slot ∷ slots) = is_tidy kind (slot ∷ slots)
is_tidy kind (needed category ∷ []) = not (is_if kind) && is_readable category
is_tidy kind (needed category ∷ slot ∷ slots) = is_readable category && is_tidy kind (slot ∷ slots)
is_tidy kind (optional else_part ∷ []) = is_if kind
is_tidy kind (optional category ∷ word terminals ∷ slots) = is_readable category && is_tidy kind (word terminals ∷ slots)
is_tidy kind slots = false

-- of an `if`: how many parts there are, or at the end that its `else` is its own
abbrev pub Counts : List Slot → List PlainTree → Type 0
Counts [] parts = IsTrue (nearest_if (trees parts))
Counts (slot ∷ slots) parts = length parts + length (slot ∷ slots) ≡ 6

-- where the last part may be the end of the node, it isn't left before an `else` of its own
abbrev pub Leaves : Terminal → List Slot → List PlainTree → Type 0
Leaves coming [] parts = coming ≡ t.Else → last_takes_else (trees parts) ≡ false
Leaves coming (optional category ∷ []) parts = coming ≡ t.Else → last_takes_else (trees parts) ≡ false
Leaves coming slots parts = Unit {0}

pub record InRow (coming : Terminal) (kind : Kind) (at : List Slot → Place) (slots : List Slot) (G : Goal) (parts : List PlainTree) : Type 0 where
  pub tidy : IsTrue (is_tidy kind slots)
  pub solid : IsTrue (not (is_kind k.Absent kind))
  pub completes :
      (left : List Slot) (further : List PlainTree) → IsTrue (are_in_row slots (trees further))
      → (IsTrue (is_if kind) → IsTrue (nearest_if (trees (parts ++ further))))
      → G (at left) (node kind (trees (parts ++ further)))
  pub counts : IsTrue (is_if kind) → Counts slots parts
  pub leaves : Leaves coming slots parts

-- ---- expressions

pub record BehindOperand (wanted own : ℕ) (G : Goal) (parts : List PlainTree) : Type 0 where
  pub tree : PlainTree
  pub alone : parts ≡ tree ∷ []
  pub tight : IsTrue (nat_le wanted own)
  pub read : IsTrue (is_a (expression own) tree)
  pub accepts : (ended : Place) (tree : PlainTree) → IsTrue (is_a (expression wanted) tree) → G ended tree

pub record BehindOpening (wanted : ℕ) (G : Goal) (parts : List PlainTree) : Type 0 where
  pub token : PlainToken
  pub alone : parts ≡ leaf token ∷ []
  pub opens : terminal token ≡ t.OpenParenthesis
  pub readable : IsTrue (nat_le wanted 14)
  pub accepts : (ended : Place) (tree : PlainTree) → IsOperand wanted ended tree → G ended tree

pub record InWords (wording : Wording) (so_far : List Terminal) (G : Goal) (parts : List PlainTree) : Type 0 where
  pub are : IsTrue (are_words so_far (trees parts))
  pub accepts :
      (words : List Terminal) (parts : PlainTrees) → IsTrue (are_words words parts)
      → IsTrue (list_any (are_same words) (wordings wording)) → G (in_words wording words) (node k.Specifiers parts)

-- ---- lists

-- kinds whose last part may be a statement, and what is left out
abbrev pub ends_in_statement : Kind → Bool
ends_in_statement k.Absent = true
ends_in_statement k.If = true
ends_in_statement k.Else = true
ends_in_statement k.While = true
ends_in_statement k.For = true
ends_in_statement kind = false

pub record InList (kind : Kind) (category : Category) (G : Goal) (parts : List PlainTree) : Type 0 where
  pub readable : IsTrue (is_readable category)
  pub shut : ends_in_statement kind ≡ false
  pub completes :
      (further : List PlainTree) → IsTrue (are_each category (trees further))
      → G (in_list kind category) (node kind (trees (parts ++ further)))

abbrev pub after_entry : Kind → Category → PlainTrees → Bool
after_entry kind category none = true
after_entry kind category (more comma none) = may_end_with_comma kind && is_word (t.Comma ∷ []) comma
after_entry kind category (more comma (more tree rest)) =
    is_word (t.Comma ∷ []) comma && (is_a category tree && after_entry kind category rest)

abbrev pub after_comma : Kind → Category → PlainTrees → Bool
after_comma kind category none = may_end_with_comma kind
after_comma kind category (more tree rest) = is_a category tree && after_entry kind category rest

pub record Entered (kind : Kind) (category : Category) (G : Goal) (parts : List PlainTree) : Type 0 where
  pub readable : IsTrue (is_readable category)
  pub shut : ends_in_statement kind ≡ false
  pub completes :
      (ended : Place) (further : List PlainTree) → IsTrue (after_entry kind category (trees further))
      → G ended (node kind (trees (parts ++ further)))

pub record SeparatedFrom (kind : Kind) (category : Category) (G : Goal) (parts : List PlainTree) : Type 0 where
  pub readable : IsTrue (is_readable category)
  pub shut : ends_in_statement kind ≡ false
  pub completes :
      (ended : Place) (further : List PlainTree) → IsTrue (after_comma kind category (trees further))
      → G ended (node kind (trees (parts ++ further)))

-- ---- declarations at file scope

pub record BehindSpecifiers (by : Specified) (G : Goal) (parts : List PlainTree) : Type 0 where
  pub words : List Terminal
  pub tokens : PlainTrees
  pub alone : parts ≡ node k.Specifiers tokens ∷ []
  pub are : IsTrue (are_words words tokens)
  pub lawful : IsTrue (list_any (are_same words) (wordings file_wording))
  pub specified : by ≡ specified_by words
  pub accepts : (ended : Place) (tree : PlainTree) → IsTrue (is_a file_item tree) → G ended tree

pub record BehindDeclarators (inline : Bool) (flavour : Flavour) (G : Goal) (parts : List PlainTree) : Type 0 where
  pub words : PlainTree
  pub tree : PlainTree
  pub both : parts ≡ words ∷ tree ∷ []
  pub specify : IsTrue (is_a file_specifiers words)
  pub belong : IsTrue (is_a (declarators file_first) tree)
  pub declare : inline ≡ false → IsTrue (may_be_declared_so false flavour) → IsTrue (may_be_declared words tree)
  pub define : IsTrue (may_be_defined_so flavour) → IsTrue (defines_function tree)
  pub accepts : (ended : Place) (tree : PlainTree) → IsTrue (is_a file_item tree) → G ended tree

-- ---- declarators

-- the same for whatever may follow, where it is no longer one declarator of a function
pub record DeclaratorRead (role : Role) (flavour : Flavour) (G : Goal) (parts : List PlainTree) : Type 0 where
  pub listed : category_of role ≡ declarator (base role)
  pub finishes : G (declarator_read role flavour) (node k.Declarators (trees parts))
  pub completes :
      IsTrue (may_be_declared_so (is_inline_role role) flavour) → (ended : Place) → flavour_at ended ≡ object
      → (further : List PlainTree) → IsTrue (may_follow_declarator (base role) (trees further))
      → IsTrue (not (lacks_parameters (trees further))) → G ended (node k.Declarators (trees (parts ++ further)))

pub record DeclaratorNext (role : Role) (G : Goal) (parts : List PlainTree) : Type 0 where
  pub listed : category_of role ≡ declarator (base role)
  pub later : IsTrue (not (is_first role))
  pub completes :
      (ended : Place) → flavour_at ended ≡ object → (tree : PlainTree) (further : List PlainTree)
      → IsTrue (is_a (category_of role) tree) → IsTrue (not (lacks_parameters (more tree none)))
      → IsTrue (may_follow_declarator (base role) (trees further)) → IsTrue (not (lacks_parameters (trees further)))
      → G ended (node k.Declarators (trees (parts ++ tree ∷ further)))

pub record InitialiserNext (role : Role) (G : Goal) (parts : List PlainTree) : Type 0 where
  pub listed : category_of role ≡ declarator (base role)
  pub later : IsTrue (not (is_first (later role)))
  pub completes :
      (ended : Place) → flavour_at ended ≡ object → (tree : PlainTree) (further : List PlainTree)
      → IsTrue (is_a initialiser tree) → IsTrue (may_follow_initialiser (base role) (trees further))
      → IsTrue (not (lacks_parameters (trees further))) → G ended (node k.Declarators (trees (parts ++ tree ∷ further)))

pub record InitialiserRead (role : Role) (G : Goal) (parts : List PlainTree) : Type 0 where
  pub listed : category_of role ≡ declarator (base role)
  pub later : IsTrue (not (is_first (later role)))
  pub completes :
      (ended : Place) → flavour_at ended ≡ object → (further : List PlainTree)
      → IsTrue (may_follow_initialiser (base role) (trees further)) → IsTrue (not (lacks_parameters (trees further)))
      → G ended (node k.Declarators (trees (parts ++ further)))

abbrev pub are_stars : List PlainTree → Bool
are_stars [] = true
are_stars (first ∷ rest) = is_word (t.Star ∷ []) first && are_stars rest

pub record BeforeName (role : Role) (G : Goal) (parts : List PlainTree) : Type 0 where
  pub starry : IsTrue (are_stars parts)
  pub some : IsTrue (any_part (trees parts))
  pub accepts : (ended : Place) (tree : PlainTree) → IsDeclarator role ended tree → G ended tree

pub record BehindName (role : Role) (G : Goal) (parts : List PlainTree) : Type 0 where
  pub before : List PlainTree
  pub name : PlainToken
  pub both : parts ≡ before ++ leaf name ∷ []
  pub starry : IsTrue (are_stars before)
  pub is_name : terminal name ≡ t.Name
  pub accepts : (ended : Place) (tree : PlainTree) → IsDeclarator role ended tree → G ended tree

pub record ParametersNext (role : Role) (G : Goal) (parts : List PlainTree) : Type 0 where
  pub lacking :
      is_later role ≡ false → (close : PlainToken) → terminal close ≡ t.CloseParenthesis
      → G (behind_parameters empty) (node k.FunctionDeclarator (trees (parts ++ absent ∷ leaf close ∷ [])))
  pub full :
      (flavour : Flavour) (tree : PlainTree) (close : PlainToken) → terminal close ≡ t.CloseParenthesis
      → IsTrue (is_a parameters tree) → (IsTrue (may_be_defined_so flavour) → IsTrue (may_be_defined (more tree none)))
      → G (behind_parameters flavour) (node k.FunctionDeclarator (trees (parts ++ tree ∷ leaf close ∷ [])))

-- ---- parameters

pub record ParameterRead (naming : Naming) (G : Goal) (parts : List PlainTree) : Type 0 where
  pub separated : IsTrue (are_separated parameter (trees parts))
  pub tells : Tells naming (trees parts)
  pub accepts : (ended : Place) (tree : PlainTree) → AreParameters ended tree → G ended tree

pub record ParameterNext (naming : Naming) (G : Goal) (parts : List PlainTree) : Type 0 where
  pub separated : (tree : PlainTree) → IsTrue (is_a parameter tree) → IsTrue (are_separated parameter (trees (parts ++ tree ∷ [])))
  pub tells : naming ≡ named → (tree : PlainTree) → IsTrue (is_named tree) → IsTrue (all_named (trees (parts ++ tree ∷ [])))
  pub accepts : (ended : Place) (tree : PlainTree) → AreParameters ended tree → G ended tree

pub record ParameterTyped (lone : Bool) (G : Goal) (parts : List PlainTree) : Type 0 where
  pub tokens : PlainTrees
  pub alone : parts ≡ node k.Specifiers tokens ∷ []
  pub specify : IsTrue (is_a specifiers (node k.Specifiers tokens))
  pub void : lone ≡ true → IsTrue (are_words (t.Void ∷ []) tokens)
  pub accepts : (ended : Place) (tree : PlainTree) → IsParameter ended tree → G ended tree

-- What is known in a place; `coming` is the token that comes.
abbrev pub Fits : Terminal → Place → Goal → List PlainTree → Type 0
Fits coming (inside kind slots) G parts = InRow coming kind (inside kind) slots G parts
Fits coming (operator wanted own) G parts = BehindOperand wanted own G parts
Fits coming (opened wanted) G parts = BehindOpening wanted G parts
Fits coming in_texts G parts =
    (further : List PlainTree) → IsTrue (are_texts (trees further)) → G in_texts (node k.Texts (trees (parts ++ further)))
Fits coming (in_words wording words) G parts = InWords wording words G parts
Fits coming (in_list kind category) G parts = InList kind category G parts
Fits coming (entered kind category) G parts = Entered kind category G parts
Fits coming (separated_from kind category) G parts = SeparatedFrom kind category G parts
Fits coming (specified by) G parts = BehindSpecifiers by G parts
Fits coming (declared inline flavour) G parts = BehindDeclarators inline flavour G parts
Fits coming (declarator_read role flavour) G parts = DeclaratorRead role flavour G parts
Fits coming (declarator_next role) G parts = DeclaratorNext role G parts
Fits coming (initialiser_next role) G parts = InitialiserNext role G parts
Fits coming (initialiser_read role) G parts = InitialiserRead role G parts
Fits coming (before_name role starred) G parts = BeforeName role G parts
Fits coming (behind_name role) G parts = BehindName role G parts
Fits coming (in_brackets has_name slots) G parts = InRow coming k.ArrayDeclarator (in_brackets has_name) slots G parts
Fits coming (parameters_next role) G parts = ParametersNext role G parts
Fits coming (parameters_read role flavour) G parts =
    (close : PlainToken) → terminal close ≡ t.CloseParenthesis
    → G (behind_parameters flavour) (node k.FunctionDeclarator (trees (parts ++ leaf close ∷ [])))
Fits coming (behind_parameters flavour) G parts = G (behind_parameters flavour) (node k.FunctionDeclarator (trees parts))
Fits coming (parameter_read inline naming) G parts = ParameterRead naming G parts
Fits coming (parameter_next inline naming) G parts = ParameterNext naming G parts
Fits coming (parameter_typed inline lone) G parts = ParameterTyped lone G parts
Fits coming (parameter_declared naming) G parts = G (parameter_declared naming) (node k.Parameter (trees parts))
Fits coming place G parts = Unit {0}

-- ---- nodes that have begun

-- A part that is read for an aim may come back to a place.
abbrev pub Awaits : Place → List PlainTree → Aim → Aim → Type 0
Awaits place parts inner outer =
    (coming : Terminal) (ended : Place) (tree : PlainTree) → Yields inner ended tree → Closed coming tree
    → Fits coming (back place ended) (Yields outer) (parts ++ tree ∷ [])

-- what nodes that have begun await
pub record Awaiting (place : Place) (parts : List PlainTree) (inner : Aim) (More : Aim → Type 0) : Type 0 where
  pub outer : Aim
  pub comes_back : Awaits place parts inner outer
  pub around : More outer

abbrev pub Open : List (Frame PlainTree) → Aim → Type 0
Open [] aim = (ended : Place) (tree : PlainTree) → Yields aim ended tree → IsTrue (is_unit tree)
Open (inner ∷ frames) aim = Awaiting inner.place inner.parts aim (Open frames)

-- the text of the parts so far, and tokens behind it
abbrev pub text_of : List (Frame PlainTree) → List PlainToken → List PlainToken
text_of [] behind = behind
text_of (inner ∷ frames) behind = text_of frames (all_written (trees inner.parts) behind)

-- a list of nodes that have begun, the innermost first
pub record Standing (inner : Frame PlainTree) (frames : List (Frame PlainTree)) : Type 0 where
  pub aim : Aim
  pub fits : (coming : Terminal) → Fits coming inner.place (Yields aim) inner.parts
  pub around : Open frames aim

abbrev pub Stands : List (Frame PlainTree) → Type 0
Stands [] = ⊥
Stands (inner ∷ frames) = Standing inner frames

-- ---- what a move needs, to keep to what is known

pub record Deeper (place : Place) (parts : List PlainTree) (outer : Aim) (More : Aim → Type 0) : Type 0 where
  pub inner : Aim
  pub comes_back : Awaits place parts inner outer
  pub more : More inner

abbrev pub first_parts : Bool → PlainToken → List PlainTree
first_parts false token = leaf token ∷ []
first_parts true token = absent ∷ leaf token ∷ []

abbrev pub Starts : List Place → Bool → Place → PlainToken → Aim → Type 0
Starts [] skipped inner token aim = (coming : Terminal) → Fits coming inner (Yields aim) (first_parts skipped token)
Starts (place ∷ places) skipped inner token aim = Deeper place [] aim (Starts places skipped inner token)

abbrev pub Begins : PlainToken → Beginning → Aim → Type 0
Begins token no_beginning aim = Unit {0}
Begins token (begins places skipped inner) aim = Starts places skipped inner token aim

pub record Finishes (coming : Terminal) (place : Place) (aim : Aim) (tree : PlainTree) : Type 0 where
  pub yields : Yields aim place tree
  pub closed : Closed coming tree

pub record Passes (coming : Terminal) (place : Place) (aim : Aim) (parts : List PlainTree) : Type 0 where
  pub tree : PlainTree
  pub alone : parts ≡ tree ∷ []
  pub yields : Yields aim place tree
  pub closed : Closed coming tree

abbrev pub Moves : Terminal → PlainToken → Place → Aim → List PlainTree → Move → Type 0
Moves coming token place aim parts (shifts behind) = (coming : Terminal) → Fits coming behind (Yields aim) (parts ++ leaf token ∷ [])
Moves coming token place aim parts (enters behind beginning) = Deeper behind parts aim (Begins token beginning)
Moves coming token place aim parts (takes behind within) =
    Deeper behind [] aim (λ inner. (coming : Terminal) → Fits coming within (Yields inner) (parts ++ leaf token ∷ []))
Moves coming token place aim parts (skips other) = Moves coming token place aim (parts ++ absent ∷ []) other
Moves coming token place aim parts (finishes kind) = Finishes coming place aim (node kind (trees parts))
Moves coming token place aim parts passes = Passes coming place aim parts
Moves coming token place aim parts fails = Unit {0}
