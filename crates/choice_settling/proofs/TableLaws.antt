-- What the table of moves does with the parts that a node has.
use Rattle.std.proofs.Common.{◌≡◌, ℕ, zero, suc, ◌+◌, ◌-◌, ◌<◌, ◌≤◌, Bool, true, false, not, ◌&&◌, List, [], ◌∷◌, ◌++◌, length, drop, Option, Some, None, IsTrue, IfSome, refl, sym, ap, subst, arith, length-drop, add-one}
use Rattle.std.specs.Bool.{if◌then◌else◌}
use Rattle.std.specs.Prelude.{nat_le}
use Rattle.std.specs.List.{list_any}
use Rattle.c_tree.specs.declared.kinds.Kind.{Kind}
use Rattle.c_tree.specs.declared.kinds.Kind.TheVariants as k
use Rattle.c_tree.specs.declared.terminals.Terminal.{Terminal}
use Rattle.c_tree.specs.declared.terminals.Terminal.TheVariants as t
use Rattle.c_tree.specs.Terminals.{is_one_of}
use Rattle.c_tree.specs.Grammar.{Category, expression, arguments, cast_type, specifiers, declarators, initialiser, initialisers, statement, else_part, block, items, item, for_start, members, member, file_item, Role, file_first, file_inline, parameter_of, Slot, word, perhaps, stars, needed, optional, row, level, may_be_initialised, at_file_scope}
use Rattle.c_tree.specs.Places.{Place, inside, operand, operator, opened, in_texts, in_words, in_list, entered, separated_from, specifying, specified, declaring, declared, declarator_at, declarator_read, declarator_next, initialiser_next, initialiser_read, before_name, behind_name, in_brackets, parameters_next, parameters_read, behind_parameters, parameter_at, parameter_read, parameter_next, parameter_begins, parameter_typed, parameter_declared, Wording, cast_wording, type_wording, file_wording, wordings, goes_on, are_same, Specified, by_tag, by_inline, Flavour, empty, Naming, unnamed, Beginning, no_beginning, begins, Move, shifts, enters, takes, skips, finishes, passes, fails, around, either, begins_words, begins_expression, behind_first, begins_row, begins_statement, begins_local, begins_item, begins_initialiser, begins_for, begins_declarator, begins_member, begins_parameter, begins_file_item, begins_part, or_fails, or_skips, or_ends, row_move, Operator, no_operator, operator_of, operator_at, operator_move, opened_move, words_move, may_end_with_comma, comma_move, specified_move, may_be_declared_so, may_be_defined_so, declared_move, is_inline_role, later, declarator_read_move, initialiser_read_move, before_name_move, behind_name_move, is_later, parameters_next_move, parameters_read_move, may_go_on, parameter_read_move, parameter_role, parameter_typed_move, move, back}
use Rattle.grammar_moves.specs.declared.rows.Row.TheVariants as row_of
use Rattle.grammar_moves.specs.declared.places.Place.{Place as Spot}
use Rattle.grammar_moves.specs.declared.places.Place.TheVariants as spot
use Rattle.grammar_moves.specs.PlainPlaces.{plain_place, plain_around}
use Rattle.grammar_moves.specs.PlainMoves.{skipping}
use Rattle.choice_states.specs.Seen.{Parts}
use Rattle.choice_states.specs.Parts.{is_empty, values, is_numbered, if_numbered, part_count, is_aligned, is_numbered_list, parts_fit, all_but_one, parts_fit_within, parts_are_whole}
use Rattle.choice_states.specs.Lists.{left_out}

none_such : {A : Type 0} → false ≡ true → A
none_such h = absurd (cc)

-- ---- places in rows

-- no more parts are to come than the row has
abbrev pub IsInRow : Place → Type 0
IsInRow (inside kind slots) = length slots ≤ length (row kind)
IsInRow place = Unit {0}

fewer : (read : ℕ) (slots : List Slot) → length (drop read slots) ≤ length slots
fewer read slots = let short : length (drop read slots) ≡ length slots - read = length-drop read slots in omega arith

pub place_in_row : (place : Spot) → IsInRow (plain_place place)
place_in_row (spot.Inside (row_of.Of kind) read) = fewer read (row kind)
place_in_row (spot.Inside (row_of.Brackets has_name) read) = tt
place_in_row _ = tt

-- ---- nodes that begin

-- the nodes around have no parts yet
abbrev pub EachWithin : List Place → Type 0
EachWithin [] = Unit {0}
EachWithin (place ∷ places) = IsTrue (parts_fit_within place []) × EachWithin places

-- the first parts fit in the innermost node, of which one is perhaps left out
pub record FirstFit (skipped : Bool) (inner : Place) : Type 0 where
  pub first : IsTrue (parts_fit_within inner [])
  pub second : IsTrue skipped → (parts : Parts) → IsTrue (parts_fit_within inner parts)

abbrev pub BeginsFit : Beginning → Type 0
BeginsFit no_beginning = Unit {0}
BeginsFit (begins places skipped inner) = EachWithin places × FirstFit skipped inner

pub each_within : (found : Option Spot) (others : List Place) → EachWithin (plain_around found ++ others) → IfSome found (λ place. IsTrue (parts_fit_within (plain_place place) [])) × EachWithin others
each_within None others each = (tt, each)
each_within (Some place) others each = each

fit_first : (inner : Place) → IsTrue (parts_fit_within inner []) → BeginsFit (begins [] false inner)
fit_first inner first = (tt, record { first = first; second = λ skipped parts. none_such skipped })

fit_second : (inner : Place) → ((parts : Parts) → IsTrue (parts_fit_within inner parts)) → BeginsFit (begins [] true inner)
fit_second inner second = (tt, record { first = second []; second = λ skipped. second })

fit_around : (place : Place) (beginning : Beginning) → IsTrue (parts_fit_within place []) → BeginsFit beginning → BeginsFit (around place beginning)
fit_around place no_beginning within fit = tt
fit_around place (begins places skipped inner) within fit = ((within, fit.0), fit.1)

fit_either : (first second : Beginning) → BeginsFit first → BeginsFit second → BeginsFit (either first second)
fit_either no_beginning second one other = other
fit_either (begins places skipped inner) second one other = one

fit_words : (wording : Wording) (token : Terminal) → BeginsFit (begins_words wording token)
fit_words wording token = where_they_go_on (list_any (goes_on (token ∷ [])) (wordings wording))
  where
    where_they_go_on : (b : Bool) → BeginsFit (if b then begins [] false (in_words wording (token ∷ [])) else no_beginning)
    where_they_go_on true = fit_first (in_words wording (token ∷ [])) refl
    where_they_go_on false = tt

fit_in_operand : (wanted : ℕ) (inner : Place) → IsTrue (parts_fit_within inner []) → BeginsFit (begins (operand wanted ∷ []) false inner)
fit_in_operand wanted inner first = fit_around (operand wanted) (begins [] false inner) refl (fit_first inner first)

fit_expression : (wanted : ℕ) (token : Terminal) → BeginsFit (begins_expression wanted token)
fit_expression wanted t.Name = fit_first (operator wanted 16) refl
fit_expression wanted t.Number = fit_first (operator wanted 16) refl
fit_expression wanted t.Character = fit_first (operator wanted 16) refl
fit_expression wanted t.Text = fit_in_operand wanted in_texts refl
fit_expression wanted t.OpenParenthesis = fit_in_operand wanted (opened wanted) refl
fit_expression wanted t.Ampersand = fit_in_operand wanted (inside k.Prefix (needed (expression 13) ∷ [])) refl
fit_expression wanted t.Star = fit_in_operand wanted (inside k.Prefix (needed (expression 13) ∷ [])) refl
fit_expression wanted t.Sign = fit_in_operand wanted (inside k.Prefix (needed (expression 13) ∷ [])) refl
fit_expression wanted t.Negation = fit_in_operand wanted (inside k.Prefix (needed (expression 13) ∷ [])) refl
fit_expression wanted t.Step = fit_in_operand wanted (inside k.PrefixStep (needed (expression 14) ∷ [])) refl
fit_expression wanted _ = tt

fit_local : (token : Terminal) → BeginsFit (begins_local token)
fit_local token = fit_around (inside k.LocalDeclaration (behind_first (row k.LocalDeclaration))) (begins_words type_wording token) refl (fit_words type_wording token)

fit_statement : (token : Terminal) → BeginsFit (begins_statement token)
fit_statement t.OpenBrace = fit_first (inside k.Block (behind_first (row k.Block))) refl
fit_statement t.Semicolon = fit_second (inside k.ExpressionStatement []) (λ parts. refl)
fit_statement t.If = fit_first (inside k.If (behind_first (row k.If))) refl
fit_statement t.While = fit_first (inside k.While (behind_first (row k.While))) refl
fit_statement t.Do = fit_first (inside k.Do (behind_first (row k.Do))) refl
fit_statement t.For = fit_first (inside k.For (behind_first (row k.For))) refl
fit_statement t.Jump = fit_first (inside k.Jump (behind_first (row k.Jump))) refl
fit_statement t.Return = fit_first (inside k.Return (behind_first (row k.Return))) refl
fit_statement token =
    fit_around (inside k.ExpressionStatement (behind_first (row k.ExpressionStatement))) (begins_expression 1 token) refl (fit_expression 1 token)

fit_item : (token : Terminal) → BeginsFit (begins_item token)
fit_item token = fit_either (begins_local token) (begins_statement token) (fit_local token) (fit_statement token)

fit_initialiser : (token : Terminal) → BeginsFit (begins_initialiser token)
fit_initialiser t.OpenBrace = fit_first (inside k.Braces (behind_first (row k.Braces))) refl
fit_initialiser token = fit_expression 1 token

fit_for : (token : Terminal) → BeginsFit (begins_for token)
fit_for t.Semicolon = fit_second (inside k.ForStart []) (λ parts. refl)
fit_for token =
    fit_either (begins_local token) (around (inside k.ForStart (behind_first (row k.ForStart))) (begins_expression 1 token)) (fit_local token)
    (fit_around (inside k.ForStart (behind_first (row k.ForStart))) (begins_expression 1 token) refl (fit_expression 1 token))

fit_declarator : (role : Role) (token : Terminal) → BeginsFit (begins_declarator role token)
fit_declarator role t.Star = fit_first (before_name role true) refl
fit_declarator role t.Name = fit_first (behind_name role) refl
fit_declarator parameter_of t.OpenBracket = fit_first (in_brackets false (behind_first (word (t.OpenBracket ∷ []) ∷ optional (expression 2) ∷ word (t.CloseBracket ∷ []) ∷ []))) refl
fit_declarator _ _ = tt

fit_declarators : (role : Role) (token : Terminal) → BeginsFit (around (declarator_at role) (begins_declarator role token))
fit_declarators role token = fit_around (declarator_at role) (begins_declarator role token) refl (fit_declarator role token)

fit_member : (token : Terminal) → BeginsFit (begins_member token)
fit_member token = fit_around (inside k.Member (behind_first (row k.Member))) (begins_words type_wording token) refl (fit_words type_wording token)

fit_parameter : (inline : Bool) (token : Terminal) → BeginsFit (begins_parameter inline token)
fit_parameter inline token = fit_around (parameter_begins inline) (begins_words type_wording token) refl (fit_words type_wording token)

fit_file_item : (token : Terminal) → BeginsFit (begins_file_item token)
fit_file_item token = fit_around specifying (begins_words file_wording token) refl (fit_words file_wording token)

fit_part : (category : Category) (token : Terminal) → BeginsFit (begins_part category token)
fit_part (expression wanted) token = fit_expression wanted token
fit_part arguments token = fit_around (entered k.Arguments (expression 1)) (begins_expression 1 token) refl (fit_expression 1 token)
fit_part cast_type token = fit_words cast_wording token
fit_part specifiers token = fit_words type_wording token
fit_part (declarators role) token = fit_declarators role token
fit_part statement token = fit_statement token
fit_part else_part t.Else = fit_first (inside k.Else (behind_first (row k.Else))) refl
fit_part block t.OpenBrace = fit_first (inside k.Block (behind_first (row k.Block))) refl
fit_part items token = fit_around (in_list k.Items item) (begins_item token) refl (fit_item token)
fit_part item token = fit_item token
fit_part for_start token = fit_for token
fit_part initialiser token = fit_initialiser token
fit_part initialisers token = fit_around (entered k.Initialisers initialiser) (begins_initialiser token) refl (fit_initialiser token)
fit_part members token = fit_around (in_list k.Members member) (begins_member token) refl (fit_member token)
fit_part member token = fit_member token
fit_part file_item token = fit_file_item token
fit_part _ _ = tt

-- ---- moves

abbrev pub Leads : Place → Place → Type 0
Leads place behind = (parts : Parts) → IsTrue (parts_fit place parts) → IsTrue (parts_fit_within behind parts)

-- What a token does at a place suits the parts there: one part more fits, what begins fits, and what ends is whole.
abbrev pub Suits : Place → Move → Type 0
Suits place (shifts behind) = Leads place behind
Suits place (enters behind beginning) = Leads place behind × BeginsFit beginning
Suits place (takes behind second) = Leads place second × IsTrue (parts_fit_within behind [])
Suits place (skips other) = Leads place (left_out 1 place) × Suits (left_out 1 place) other
Suits place (finishes kind) = (parts : Parts) → IsTrue (parts_fit place parts) → IsTrue (parts_are_whole (Some kind) parts)
Suits place passes = (parts : Parts) → IsTrue (parts_fit place parts) → IsTrue (parts_are_whole None parts)
Suits place fails = Unit {0}

suits_fails : (place : Place) → Suits place fails
suits_fails place = tt

suits_if : (place : Place) (b : Bool) (first second : Move) → Suits place first → Suits place second → Suits place (if b then first else second)
suits_if place true first second one other = one
suits_if place false first second one other = other

suits_or_fails : (place behind : Place) (beginning : Beginning) → Leads place behind → BeginsFit beginning → Suits place (or_fails behind beginning)
suits_or_fails place behind no_beginning leads fit = tt
suits_or_fails place behind (begins places skipped inner) leads fit = (leads, fit)

suits_or_ends : (place behind : Place) (beginning : Beginning) (kind : Kind) → Leads place behind → BeginsFit beginning → Suits place (finishes kind) → Suits place (or_ends behind beginning kind)
suits_or_ends place behind no_beginning kind leads fit ends = ends
suits_or_ends place behind (begins places skipped inner) kind leads fit ends = (leads, fit)

-- ---- in a row

one_part_more : (numbered : Bool) (before behind : ℕ) (parts : Parts) → behind ≡ suc before
    → IsTrue (is_aligned (if_numbered numbered before) parts && true) → IsTrue (all_but_one (if_numbered numbered behind) parts && true)
one_part_more true before behind parts is fits = subst (λ count. IsTrue (all_but_one (Some count) parts && true)) (sym is) fits
one_part_more false before behind parts is fits = refl

and_true : (b : Bool) → IsTrue (b && true) → IsTrue b
and_true true h = h
and_true false h = h

all_parts : (numbered : Bool) (before all : ℕ) (parts : Parts) → before ≡ all → IsTrue (is_aligned (if_numbered numbered before) parts && true) → IsTrue (is_aligned (if_numbered numbered all) parts)
all_parts numbered before all parts is fits =
    subst (λ count. IsTrue (is_aligned (if_numbered numbered count) parts)) is (and_true (is_aligned (if_numbered numbered before) parts) fits)

module _ (kind : Kind) where
  row_leads : (slot : Slot) (slots : List Slot) → suc (length slots) ≤ length (row kind) → Leads (inside kind (slot ∷ slots)) (inside kind slots)
  row_leads slot slots short parts fits =
      one_part_more (is_numbered kind) (length (row kind) - suc (length slots)) (length (row kind) - length slots) parts (omega arith) fits

  row_or_skips : (category : Category) (slots : List Slot) (beginning : Beginning) (other : Move) → suc (length slots) ≤ length (row kind)
      → BeginsFit beginning → Suits (inside kind slots) other → Suits (inside kind (optional category ∷ slots)) (or_skips (inside kind slots) beginning other)
  row_or_skips category slots no_beginning other short fit suits = (row_leads (optional category) slots short, suits)
  row_or_skips category slots (begins places skipped inner) other short fit suits = (row_leads (optional category) slots short, fit)

  row_suits : (slots : List Slot) (token : Terminal) → length slots ≤ length (row kind) → Suits (inside kind slots) (row_move kind (inside kind) slots token)
  row_suits [] token short = λ parts fits. all_parts (is_numbered kind) (length (row kind) - 0) (length (row kind)) parts (omega arith) fits
  row_suits (word terminals ∷ slots) token short =
      suits_if (inside kind (word terminals ∷ slots)) (is_one_of terminals token) (shifts (inside kind slots)) fails (row_leads (word terminals) slots short)
      (suits_fails (inside kind (word terminals ∷ slots)))
  row_suits (needed category ∷ slots) token short =
      suits_or_fails (inside kind (needed category ∷ slots)) (inside kind slots) (begins_part category token) (row_leads (needed category) slots short) (fit_part category token)
  row_suits (optional category ∷ slots) token short =
      row_or_skips category slots (begins_part category token) (row_move kind (inside kind) slots token) short (fit_part category token)
      (row_suits slots token (omega arith))
  row_suits (perhaps terminals ∷ slots) token short = suits_fails (inside kind (perhaps terminals ∷ slots))
  row_suits (stars ∷ slots) token short = suits_fails (inside kind (stars ∷ slots))

module _ (has_name : Bool) where
  brackets_or_skips : (category : Category) (slots : List Slot) (beginning : Beginning) (other : Move)
      → BeginsFit beginning → Suits (in_brackets has_name slots) other → Suits (in_brackets has_name (optional category ∷ slots)) (or_skips (in_brackets has_name slots) beginning other)
  brackets_or_skips category slots no_beginning other fit suits = ((λ parts fits. refl), suits)
  brackets_or_skips category slots (begins places skipped inner) other fit suits = ((λ parts fits. refl), fit)

  brackets_suit : (slots : List Slot) (token : Terminal) → Suits (in_brackets has_name slots) (row_move k.ArrayDeclarator (in_brackets has_name) slots token)
  brackets_suit [] token = λ parts fits. refl
  brackets_suit (word terminals ∷ slots) token =
      suits_if (in_brackets has_name (word terminals ∷ slots)) (is_one_of terminals token) (shifts (in_brackets has_name slots)) fails (λ parts fits. refl)
      (suits_fails (in_brackets has_name (word terminals ∷ slots)))
  brackets_suit (needed category ∷ slots) token =
      suits_or_fails (in_brackets has_name (needed category ∷ slots)) (in_brackets has_name slots) (begins_part category token) (λ parts fits. refl) (fit_part category token)
  brackets_suit (optional category ∷ slots) token =
      brackets_or_skips category slots (begins_part category token) (row_move k.ArrayDeclarator (in_brackets has_name) slots token) (fit_part category token) (brackets_suit slots token)
  brackets_suit (perhaps terminals ∷ slots) token = suits_fails (in_brackets has_name (perhaps terminals ∷ slots))
  brackets_suit (stars ∷ slots) token = suits_fails (in_brackets has_name (stars ∷ slots))

-- ---- in expressions

abbrev IsUnnumbered : Operator → Type 0
IsUnnumbered no_operator = Unit {0}
IsUnnumbered (operator_of kind left) = is_numbered kind ≡ false

operators_are : (token : Terminal) → IsUnnumbered (operator_at token)
operators_are t.Assign = refl
operators_are t.CompoundAssign = refl
operators_are t.Question = refl
operators_are t.OrOr = refl
operators_are t.AndAnd = refl
operators_are t.Bar = refl
operators_are t.Caret = refl
operators_are t.Ampersand = refl
operators_are t.Equality = refl
operators_are t.Relation = refl
operators_are t.Shift = refl
operators_are t.Sign = refl
operators_are t.Star = refl
operators_are t.Divide = refl
operators_are t.Step = refl
operators_are t.OpenBracket = refl
operators_are t.OpenParenthesis = refl
operators_are t.Select = refl
operators_are _ = tt

unnumbered_within : (kind : Kind) (slots : List Slot) (parts : Parts) → is_numbered kind ≡ false → IsTrue (parts_fit_within (inside kind slots) parts)
unnumbered_within kind slots parts is = ap (λ numbered. all_but_one (if_numbered numbered (length (row kind) - length slots)) parts && true) is

suits_passes : (wanted own : ℕ) → Suits (operator wanted own) passes
suits_passes wanted own parts fits = and_true (not (is_empty (values parts))) fits

operator_suits : (wanted own : ℕ) (what : Operator) → IsUnnumbered what → Suits (operator wanted own) (operator_move wanted own what)
operator_suits wanted own no_operator is = suits_passes wanted own
operator_suits wanted own (operator_of kind left) is =
    suits_if (operator wanted own) (nat_le wanted (level kind) && nat_le left own) (takes (operand wanted) (inside kind (behind_first (behind_first (row kind))))) passes
    ((λ parts fits. unnumbered_within kind (behind_first (behind_first (row kind))) parts is), refl) (suits_passes wanted own)

opened_suits : (wanted : ℕ) (token : Terminal) → Suits (opened wanted) (opened_move wanted token)
opened_suits wanted token = by_beginning (begins_words cast_wording token) (fit_words cast_wording token)
  where
    by_beginning : (beginning : Beginning) → BeginsFit beginning
        → Suits (opened wanted)
        (elim beginning as (λ x. Move) [
          | begins places skipped inner ↦
              if nat_le wanted 13 then enters (inside k.Cast (word (t.CloseParenthesis ∷ []) ∷ needed (expression 13) ∷ [])) (begins places skipped inner)
              else fails
          | no_beginning ↦ or_fails (inside k.Parenthesized (word (t.CloseParenthesis ∷ []) ∷ [])) (begins_expression 1 token)
        ])
    by_beginning no_beginning fit =
        suits_or_fails (opened wanted) (inside k.Parenthesized (word (t.CloseParenthesis ∷ []) ∷ [])) (begins_expression 1 token) (λ parts fits. refl) (fit_expression 1 token)
    by_beginning (begins places skipped inner) fit =
        suits_if (opened wanted) (nat_le wanted 13) (enters (inside k.Cast (word (t.CloseParenthesis ∷ []) ∷ needed (expression 13) ∷ [])) (begins places skipped inner)) fails
        ((λ parts fits. refl), fit) (suits_fails (opened wanted))

texts_suit : (token : Terminal) → Suits in_texts (move in_texts token)
texts_suit t.Text = λ parts fits. refl
texts_suit _ = λ parts fits. refl

words_suit : (wording : Wording) (words : List Terminal) (token : Terminal) → Suits (in_words wording words) (words_move wording words token)
words_suit wording words token =
    suits_if (in_words wording words) (list_any (goes_on (words ++ token ∷ [])) (wordings wording)) (shifts (in_words wording (words ++ token ∷ [])))
    (if list_any (are_same words) (wordings wording) then finishes k.Specifiers else fails) (λ parts fits. refl)
    (suits_if (in_words wording words) (list_any (are_same words) (wordings wording)) (finishes k.Specifiers) fails (λ parts fits. refl) (suits_fails (in_words wording words)))

-- ---- in lists

unnumbered_whole : (numbered : Bool) (count : ℕ) (parts : Parts) → IsTrue (not numbered) → IsTrue (is_aligned (if_numbered numbered count) parts)
unnumbered_whole true count parts is = none_such is
unnumbered_whole false count parts is = refl

module _ (kind : Kind) (category : Category) where
  list_whole : (parts : Parts) → IsTrue (not (is_numbered kind)) → IsTrue (parts_are_whole (Some kind) parts)
  list_whole parts is = unnumbered_whole (is_numbered kind) (length (row kind)) parts is

  list_suits : (token : Terminal) → Suits (in_list kind category) (or_ends (in_list kind category) (begins_part category token) kind)
  list_suits token = suits_or_ends (in_list kind category) (in_list kind category) (begins_part category token) kind (λ parts fits. fits) (fit_part category token) list_whole

  entered_suits : (token : Terminal) → Suits (entered kind category) (move (entered kind category) token)
  entered_suits t.Comma = λ parts fits. fits
  entered_suits _ = list_whole

  separated_suits : (token : Terminal) → Suits (separated_from kind category) (comma_move kind category token)
  separated_suits token = by_beginning (begins_part category token) (fit_part category token)
    where
      by_beginning : (beginning : Beginning) → BeginsFit beginning
          → Suits (separated_from kind category)
          (elim beginning as (λ x. Move) [
            | begins places skipped inner ↦ enters (entered kind category) (begins places skipped inner)
            | no_beginning ↦ if may_end_with_comma kind then finishes kind else fails
          ])
      by_beginning no_beginning fit = suits_if (separated_from kind category) (may_end_with_comma kind) (finishes kind) fails list_whole (suits_fails (separated_from kind category))
      by_beginning (begins places skipped inner) fit = ((λ parts fits. fits), fit)

-- ---- at file scope

specified_suits : (words : Specified) (token : Terminal) → Suits (specified words) (specified_move words token)
specified_suits by_tag t.OpenBrace = λ parts fits. refl
specified_suits by_tag t.Semicolon = λ parts fits. refl
specified_suits by_inline token =
    suits_or_fails (specified by_inline) (declaring true) (around (declarator_at file_inline) (begins_declarator file_inline token)) (λ parts fits. refl) (fit_declarators file_inline token)
specified_suits words token =
    suits_or_fails (specified words) (declaring false) (around (declarator_at file_first) (begins_declarator file_first token)) (λ parts fits. refl) (fit_declarators file_first token)

declared_suits : (inline : Bool) (flavour : Flavour) (token : Terminal) → Suits (declared inline flavour) (declared_move inline flavour token)
declared_suits inline flavour t.Semicolon =
    suits_if (declared inline flavour) (may_be_declared_so inline flavour) (shifts (inside k.Declaration [])) fails (λ parts fits. refl) (suits_fails (declared inline flavour))
declared_suits inline flavour t.OpenBrace =
    suits_if (declared inline flavour) (may_be_defined_so flavour) (enters (inside k.Function []) (begins_row k.Block)) fails
    ((λ parts fits. refl), fit_first (inside k.Block (behind_first (row k.Block))) refl) (suits_fails (declared inline flavour))
declared_suits inline flavour _ = tt

-- ---- in declarators

declarator_read_suits : (role : Role) (flavour : Flavour) (token : Terminal) → Suits (declarator_read role flavour) (declarator_read_move role flavour token)
declarator_read_suits role flavour t.Comma =
    suits_if (declarator_read role flavour) (may_be_declared_so (is_inline_role role) flavour) (shifts (declarator_next (later role))) fails (λ parts fits. refl)
    (suits_fails (declarator_read role flavour))
declarator_read_suits role flavour t.Assign =
    suits_if (declarator_read role flavour) (may_be_declared_so (is_inline_role role) flavour && may_be_initialised role) (shifts (initialiser_next role)) fails (λ parts fits. refl)
    (suits_fails (declarator_read role flavour))
declarator_read_suits role flavour _ = λ parts fits. refl

initialiser_read_suits : (role : Role) (token : Terminal) → Suits (initialiser_read role) (initialiser_read_move role token)
initialiser_read_suits role t.Comma = λ parts fits. refl
initialiser_read_suits role _ = λ parts fits. refl

before_name_suits : (role : Role) (starred : Bool) (token : Terminal) → Suits (before_name role starred) (before_name_move role token)
before_name_suits role starred t.Star = λ parts fits. refl
before_name_suits role starred t.Name = λ parts fits. refl
before_name_suits parameter_of starred t.OpenBracket = λ parts fits. refl
before_name_suits parameter_of starred _ = λ parts fits. refl
before_name_suits _ starred _ = tt

behind_name_suits : (role : Role) (token : Terminal) → Suits (behind_name role) (behind_name_move role token)
behind_name_suits file_inline t.OpenBracket = λ parts fits. refl
behind_name_suits role t.OpenBracket = λ parts fits. refl
behind_name_suits role t.OpenParenthesis =
    suits_if (behind_name role) (at_file_scope role) (shifts (parameters_next role)) (finishes k.Declarator) (λ parts fits. refl) (λ parts fits. refl)
behind_name_suits role _ = λ parts fits. refl

-- ---- in parameters

parameters_next_suits : (role : Role) (token : Terminal) → Suits (parameters_next role) (parameters_next_move role token)
parameters_next_suits role t.CloseParenthesis =
    suits_if (parameters_next role) (is_later role) fails (skips (shifts (behind_parameters empty))) (suits_fails (parameters_next role)) ((λ parts fits. refl), (λ parts fits. refl))
parameters_next_suits role token =
    suits_or_fails (parameters_next role) (parameters_read role empty) (around (parameter_at (is_inline_role role) []) (begins_parameter (is_inline_role role) token)) (λ parts fits. refl)
    (fit_around (parameter_at (is_inline_role role) []) (begins_parameter (is_inline_role role) token) refl (fit_parameter (is_inline_role role) token))

parameters_read_suits : (role : Role) (flavour : Flavour) (token : Terminal) → Suits (parameters_read role flavour) (parameters_read_move role flavour token)
parameters_read_suits role flavour t.CloseParenthesis =
    suits_if (parameters_read role flavour) (is_inline_role role && not (may_be_defined_so flavour)) fails (shifts (behind_parameters flavour)) (suits_fails (parameters_read role flavour))
    (λ parts fits. refl)
parameters_read_suits role flavour _ = tt

parameter_read_suits : (inline : Bool) (naming : Naming) (token : Terminal) → Suits (parameter_read inline naming) (parameter_read_move inline naming token)
parameter_read_suits inline naming t.Comma =
    suits_if (parameter_read inline naming) (may_go_on inline naming) (shifts (parameter_next inline naming)) fails (λ parts fits. refl) (suits_fails (parameter_read inline naming))
parameter_read_suits inline naming _ = λ parts fits. refl

parameter_next_suits : (inline : Bool) (naming : Naming) (token : Terminal) → Suits (parameter_next inline naming) (move (parameter_next inline naming) token)
parameter_next_suits inline naming token =
    suits_or_fails (parameter_next inline naming) (parameter_at inline (naming ∷ [])) (begins_parameter inline token) (λ parts fits. refl) (fit_parameter inline token)

parameter_typed_suits : (inline lone : Bool) (token : Terminal) → Suits (parameter_typed inline lone) (parameter_typed_move inline token)
parameter_typed_suits inline lone token = by_beginning (begins_declarator (parameter_role inline) token) (fit_declarator (parameter_role inline) token)
  where
    by_beginning : (beginning : Beginning) → BeginsFit beginning → Suits (parameter_typed inline lone) (or_skips (parameter_declared unnamed) beginning (finishes k.Parameter))
    by_beginning no_beginning fit = ((λ parts fits. refl), (λ parts fits. refl))
    by_beginning (begins places skipped inner) fit = ((λ parts fits. refl), fit)

-- ---- the table

pub table_suits : (place : Place) (token : Terminal) → IsInRow place → Suits place (move place token)
table_suits (inside kind slots) token short = row_suits kind slots token short
table_suits (operand wanted) token short = suits_fails (operand wanted)
table_suits (operator wanted own) token short = operator_suits wanted own (operator_at token) (operators_are token)
table_suits (opened wanted) token short = opened_suits wanted token
table_suits in_texts token short = texts_suit token
table_suits (in_words wording words) token short = words_suit wording words token
table_suits (in_list kind category) token short = list_suits kind category token
table_suits (entered kind category) token short = entered_suits kind category token
table_suits (separated_from kind category) token short = separated_suits kind category token
table_suits specifying token short = suits_fails specifying
table_suits (specified words) token short = specified_suits words token
table_suits (declaring inline) token short = suits_fails (declaring inline)
table_suits (declared inline flavour) token short = declared_suits inline flavour token
table_suits (declarator_at role) token short = suits_fails (declarator_at role)
table_suits (declarator_read role flavour) token short = declarator_read_suits role flavour token
table_suits (declarator_next role) token short =
    suits_or_fails (declarator_next role) (declarator_at role) (begins_declarator role token) (λ parts fits. refl) (fit_declarator role token)
table_suits (initialiser_next role) token short =
    suits_or_fails (initialiser_next role) (initialiser_read role) (begins_initialiser token) (λ parts fits. refl) (fit_initialiser token)
table_suits (initialiser_read role) token short = initialiser_read_suits role token
table_suits (before_name role starred) token short = before_name_suits role starred token
table_suits (behind_name role) token short = behind_name_suits role token
table_suits (in_brackets has_name slots) token short = brackets_suit has_name slots token
table_suits (parameters_next role) token short = parameters_next_suits role token
table_suits (parameters_read role flavour) token short = parameters_read_suits role flavour token
table_suits (behind_parameters flavour) token short = λ parts fits. refl
table_suits (parameter_at inline before) token short = suits_fails (parameter_at inline before)
table_suits (parameter_read inline naming) token short = parameter_read_suits inline naming token
table_suits (parameter_next inline naming) token short = parameter_next_suits inline naming token
table_suits (parameter_begins inline) token short = suits_fails (parameter_begins inline)
table_suits (parameter_typed inline lone) token short = parameter_typed_suits inline lone token
table_suits (parameter_declared naming) token short = λ parts fits. refl

-- ---- as the code knows of a move

left_out_none : (place : Place) → left_out 0 place ≡ place
left_out_none (inside kind slots) = refl
left_out_none (in_brackets has_name slots) = refl
left_out_none _ = refl

dropped_next : (count : ℕ) (slots : List Slot) → drop count (drop 1 slots) ≡ drop (suc count) slots
dropped_next zero [] = refl
dropped_next (suc count) [] = refl
dropped_next count (slot ∷ slots) = refl

pub left_out_next : (count : ℕ) (place : Place) → left_out count (left_out 1 place) ≡ left_out (suc count) place
left_out_next count (inside kind slots) = ap (inside kind) (dropped_next count slots)
left_out_next count (in_brackets has_name slots) = ap (in_brackets has_name) (dropped_next count slots)
left_out_next count _ = refl

skipped_suits : (all count : ℕ) (place : Place) (what : Move) → Suits place (skipping all what) → count < all → (parts : Parts)
    → IsTrue (parts_fit (left_out count place) parts) → IsTrue (parts_fit_within (left_out (suc count) place) parts)
skipped_suits zero count place what suits few parts fits = absurd (omega arith)
skipped_suits (suc all) zero place what suits few parts fits = suits.0 parts (subst (λ p. IsTrue (parts_fit p parts)) (left_out_none place) fits)
skipped_suits (suc all) (suc count) place what suits few parts fits =
    subst (λ p. IsTrue (parts_fit_within p parts)) (left_out_next (suc count) place)
    (skipped_suits all count (left_out 1 place) what suits.1 (omega arith) parts (subst (λ p. IsTrue (parts_fit p parts)) (sym (left_out_next count place)) fits))

suits_behind : (all : ℕ) (place : Place) (what : Move) → Suits place (skipping all what) → Suits (left_out all place) what
suits_behind zero place what suits = subst (λ p. Suits p what) (sym (left_out_none place)) suits
suits_behind (suc all) place what suits = subst (λ p. Suits p what) (left_out_next all place) (suits_behind all (left_out 1 place) what suits.1)

-- where a move leaves so many parts out, nothing may be pushed for each of them
pub left_out_fits : (place : Spot) (token : Terminal) (all count : ℕ) (what : Move) → move (plain_place place) token ≡ skipping all what → count < all → (parts : Parts)
    → IsTrue (parts_fit (left_out count (plain_place place)) parts) → IsTrue (parts_fit_within (left_out (count + 1) (plain_place place)) parts)
left_out_fits place token all count what is few parts fits =
    subst (λ n. IsTrue (parts_fit_within (left_out n (plain_place place)) parts)) (sym (add-one count))
    (skipped_suits all count (plain_place place) what (subst (Suits (plain_place place)) is (table_suits (plain_place place) token (place_in_row place))) few parts fits)

-- and behind them, the parts suit what else it does
pub moved_suits : (place : Spot) (token : Terminal) (all : ℕ) (what : Move) → move (plain_place place) token ≡ skipping all what → Suits (left_out all (plain_place place)) what
moved_suits place token all what is =
    suits_behind all (plain_place place) what (subst (Suits (plain_place place)) is (table_suits (plain_place place) token (place_in_row place)))

-- ---- behind a part

pub within_back : (place ended : Place) (parts : Parts) → parts_fit_within (back place ended) parts ≡ parts_fit_within place parts
within_back (operand wanted) ended parts = refl
within_back specifying ended parts = refl
within_back (declaring inline) ended parts = refl
within_back (declarator_at role) ended parts = refl
within_back (parameters_read role flavour) ended parts = refl
within_back (parameter_at inline before) ended parts = refl
within_back (parameter_begins inline) ended parts = refl
within_back (parameter_declared naming) ended parts = refl
within_back _ ended parts = refl

pub count_back : (place ended : Place) → part_count (back place ended) ≡ part_count place
count_back (operand wanted) ended = refl
count_back specifying ended = refl
count_back (declaring inline) ended = refl
count_back (declarator_at role) ended = refl
count_back (parameters_read role flavour) ended = refl
count_back (parameter_at inline before) ended = refl
count_back (parameter_begins inline) ended = refl
count_back (parameter_declared naming) ended = refl
count_back _ ended = refl

pub numbered_back : (place ended : Place) → is_numbered_list (back place ended) ≡ is_numbered_list place
numbered_back (operand wanted) ended = refl
numbered_back specifying ended = refl
numbered_back (declaring inline) ended = refl
numbered_back (declarator_at role) ended = refl
numbered_back (parameters_read role flavour) ended = refl
numbered_back (parameter_at inline before) ended = refl
numbered_back (parameter_begins inline) ended = refl
numbered_back (parameter_declared naming) ended = refl
numbered_back _ ended = refl
