-- Lists that have begun only where they have an entry: what the table of moves does before the first entry, and around such a list.
use Rattle.std.proofs.Common.{◌≡◌, ℕ, ◌-◌, ◌<◌, ◌≤◌, Bool, true, false, ◌&&◌, List, [], ◌∷◌, length, drop, Option, IsTrue, refl, sym, ap, subst, ◌∙◌, arith, length-drop}
use Rattle.std.specs.Bool.{◌==◌, if◌then◌else◌}
use Rattle.std.proofs.lemmas.Bool.{eqb-true}
use Rattle.c_tree.specs.declared.kinds.Kind.{Kind}
use Rattle.c_tree.specs.declared.kinds.Kind.TheVariants as k
use Rattle.c_tree.specs.declared.terminals.Terminal.{Terminal}
use Rattle.c_tree.specs.declared.terminals.Terminal.TheVariants as t
use Rattle.c_tree.specs.Terminals.{is_one_of}
use Rattle.c_tree.specs.Grammar.{Category, expression, arguments, declarators, local, member_of, initialiser, initialisers, items, item, members, member, Slot, needed, optional, row}
use Rattle.c_tree.specs.Places.{Place, inside, in_list, entered, separated_from, declarator_at, declarator_next, Beginning, no_beginning, begins, Move, shifts, enters, finishes, fails, around, begins_part, begins_expression, begins_declarator, begins_initialiser, begins_item, begins_member, or_fails, or_skips, or_ends, row_move, may_end_with_comma, comma_move, move}
use Rattle.c_tree.specs.Machine.{Frame, frame, Outcome, moved, arrives, outcome}
use Rattle.grammar_moves.specs.declared.rows.Row.TheVariants as row_of
use Rattle.grammar_moves.specs.declared.places.Place.{Place as Spot}
use Rattle.grammar_moves.specs.declared.places.Place.TheVariants as spot
use Rattle.grammar_moves.specs.PlainPlaces.{plain_place}
use Rattle.choice_lookahead.specs.Ahead.{begins_part as enters_part}
use Rattle.choice_states.specs.Seen.{Seen, Parts, of_seen}
use Rattle.choice_states.specs.Parts.{is_there, is_numbered, if_numbered, is_aligned, parts_fit, parts_fit_within}
use Rattle.choice_states.specs.Lists.{list_part, is_before_entry, before_list, around_of, is_around_list, IsInside}

none_such : {A : Type 0} → false ≡ true → A
none_such h = absurd (cc)

no_place : {A : Type 0} (place : Place) → [] ≡ place ∷ [] → A
no_place place h = absurd (cc h)

-- A part that begins around a list that isn't there begins as the first in the list, with the frame of the list put on; and with no other
-- token, if none begins a part behind the list.
pub record Alike (place before behind : Place) (token : Terminal) : Type 0 where
  pub leads :
      IsTrue (enters_part (move before token)) → (parts : List Seen) (value : Seen) (frames : List (Frame Seen)) (ends others : Seen → Outcome Seen)
      → moved of_seen place parts (move place token) value frames ends ≡ moved of_seen before [] (move before token) value (frame behind parts ∷ frames) others
  pub begin : enters_part (move behind token) ≡ false → enters_part (move place token) ≡ enters_part (move before token)

-- the same of moves
record MovedAlike (place before behind : Place) (first second rest : Move) : Type 0 where
  leads :
      IsTrue (enters_part second) → (parts : List Seen) (value : Seen) (frames : List (Frame Seen)) (ends others : Seen → Outcome Seen)
      → moved of_seen place parts first value frames ends ≡ moved of_seen before [] second value (frame behind parts ∷ frames) others
  begin : enters_part rest ≡ false → enters_part first ≡ enters_part second

module _ (place before behind : Place) (rest : Move) where
  alike_begun : (list : Place) (places : List Place) (skipped : Bool) (inner : Place)
      → MovedAlike place before behind (enters behind (begins (list ∷ places) skipped inner)) (enters list (begins places skipped inner)) rest
  alike_begun list places true inner = record { leads = λ is parts value frames ends others. refl; begin = λ none. refl }
  alike_begun list places false inner = record { leads = λ is parts value frames ends others. refl; begin = λ none. refl }

  alike_not : (first second : Move) → (enters_part rest ≡ false → enters_part first ≡ false) → enters_part second ≡ false → MovedAlike place before behind first second rest
  alike_not first second one other = record {
    leads = λ is parts value frames ends others. none_such (sym other ∙ is);
    begin = λ none. one none ∙ sym other;
  }

-- ---- the six lists

items_alike : (slots : List Slot) (token : Terminal) → Alike (inside k.Block (optional items ∷ slots)) (in_list k.Items item) (inside k.Block slots) token
items_alike slots token = record { leads = all.leads; begin = all.begin }
  where
    by_beginning : (beginning : Beginning)
        → MovedAlike (inside k.Block (optional items ∷ slots)) (in_list k.Items item) (inside k.Block slots)
        (or_skips (inside k.Block slots) (around (in_list k.Items item) beginning) (row_move k.Block (inside k.Block) slots token))
        (or_ends (in_list k.Items item) beginning k.Items)
        (row_move k.Block (inside k.Block) slots token)
    by_beginning no_beginning = alike_not _ _ _ _ _ _ (λ none. none) refl
    by_beginning (begins places skipped inner) = alike_begun _ _ _ _ (in_list k.Items item) places skipped inner

    all : MovedAlike (inside k.Block (optional items ∷ slots)) (in_list k.Items item) (inside k.Block slots) (move (inside k.Block (optional items ∷ slots)) token) (move (in_list k.Items item) token) (move (inside k.Block slots) token)
    all = by_beginning (begins_item token)

members_alike : (slots : List Slot) (token : Terminal) → Alike (inside k.StructDefinition (needed members ∷ slots)) (in_list k.Members member) (inside k.StructDefinition slots) token
members_alike slots token = record { leads = all.leads; begin = all.begin }
  where
    by_beginning : (beginning : Beginning)
        → MovedAlike (inside k.StructDefinition (needed members ∷ slots)) (in_list k.Members member) (inside k.StructDefinition slots)
        (or_fails (inside k.StructDefinition slots) (around (in_list k.Members member) beginning))
        (or_ends (in_list k.Members member) beginning k.Members)
        (row_move k.StructDefinition (inside k.StructDefinition) slots token)
    by_beginning no_beginning = alike_not _ _ _ _ _ _ (λ none. refl) refl
    by_beginning (begins places skipped inner) = alike_begun _ _ _ _ (in_list k.Members member) places skipped inner

    all : MovedAlike (inside k.StructDefinition (needed members ∷ slots)) (in_list k.Members member) (inside k.StructDefinition slots) (move (inside k.StructDefinition (needed members ∷ slots)) token) (move (in_list k.Members member) token) (move (inside k.StructDefinition slots) token)
    all = by_beginning (begins_member token)

arguments_alike : (slots : List Slot) (token : Terminal) → Alike (inside k.Call (optional arguments ∷ slots)) (separated_from k.Arguments (expression 1)) (inside k.Call slots) token
arguments_alike slots token = record { leads = all.leads; begin = all.begin }
  where
    by_beginning : (beginning : Beginning)
        → MovedAlike (inside k.Call (optional arguments ∷ slots)) (separated_from k.Arguments (expression 1)) (inside k.Call slots)
        (or_skips (inside k.Call slots) (around (entered k.Arguments (expression 1)) beginning) (row_move k.Call (inside k.Call) slots token))
        (elim beginning as (λ x. Move) [
          | begins places skipped inner ↦ enters (entered k.Arguments (expression 1)) (begins places skipped inner)
          | no_beginning ↦ if may_end_with_comma k.Arguments then finishes k.Arguments else fails
        ])
        (row_move k.Call (inside k.Call) slots token)
    by_beginning no_beginning = alike_not _ _ _ _ _ _ (λ none. none) refl
    by_beginning (begins places skipped inner) = alike_begun _ _ _ _ (entered k.Arguments (expression 1)) places skipped inner

    all : MovedAlike (inside k.Call (optional arguments ∷ slots)) (separated_from k.Arguments (expression 1)) (inside k.Call slots) (move (inside k.Call (optional arguments ∷ slots)) token) (move (separated_from k.Arguments (expression 1)) token) (move (inside k.Call slots) token)
    all = by_beginning (begins_expression 1 token)

initialisers_alike : (slots : List Slot) (token : Terminal) → Alike (inside k.Braces (needed initialisers ∷ slots)) (separated_from k.Initialisers initialiser) (inside k.Braces slots) token
initialisers_alike slots token = record { leads = all.leads; begin = all.begin }
  where
    by_beginning : (beginning : Beginning)
        → MovedAlike (inside k.Braces (needed initialisers ∷ slots)) (separated_from k.Initialisers initialiser) (inside k.Braces slots)
        (or_fails (inside k.Braces slots) (around (entered k.Initialisers initialiser) beginning))
        (elim beginning as (λ x. Move) [
          | begins places skipped inner ↦ enters (entered k.Initialisers initialiser) (begins places skipped inner)
          | no_beginning ↦ if may_end_with_comma k.Initialisers then finishes k.Initialisers else fails
        ])
        (row_move k.Braces (inside k.Braces) slots token)
    by_beginning no_beginning = alike_not _ _ _ _ _ _ (λ none. refl) refl
    by_beginning (begins places skipped inner) = alike_begun _ _ _ _ (entered k.Initialisers initialiser) places skipped inner

    all : MovedAlike (inside k.Braces (needed initialisers ∷ slots)) (separated_from k.Initialisers initialiser) (inside k.Braces slots) (move (inside k.Braces (needed initialisers ∷ slots)) token) (move (separated_from k.Initialisers initialiser) token) (move (inside k.Braces slots) token)
    all = by_beginning (begins_initialiser token)

locals_alike : (slots : List Slot) (token : Terminal) → Alike (inside k.LocalDeclaration (needed (declarators local) ∷ slots)) (declarator_next local) (inside k.LocalDeclaration slots) token
locals_alike slots token = record { leads = all.leads; begin = all.begin }
  where
    by_beginning : (beginning : Beginning)
        → MovedAlike (inside k.LocalDeclaration (needed (declarators local) ∷ slots)) (declarator_next local) (inside k.LocalDeclaration slots)
        (or_fails (inside k.LocalDeclaration slots) (around (declarator_at local) beginning))
        (or_fails (declarator_at local) beginning)
        (row_move k.LocalDeclaration (inside k.LocalDeclaration) slots token)
    by_beginning no_beginning = alike_not _ _ _ _ _ _ (λ none. refl) refl
    by_beginning (begins places skipped inner) = alike_begun _ _ _ _ (declarator_at local) places skipped inner

    all : MovedAlike (inside k.LocalDeclaration (needed (declarators local) ∷ slots)) (declarator_next local) (inside k.LocalDeclaration slots) (move (inside k.LocalDeclaration (needed (declarators local) ∷ slots)) token) (move (declarator_next local) token) (move (inside k.LocalDeclaration slots) token)
    all = by_beginning (begins_declarator local token)

fields_alike : (slots : List Slot) (token : Terminal) → Alike (inside k.Member (needed (declarators member_of) ∷ slots)) (declarator_next member_of) (inside k.Member slots) token
fields_alike slots token = record { leads = all.leads; begin = all.begin }
  where
    by_beginning : (beginning : Beginning)
        → MovedAlike (inside k.Member (needed (declarators member_of) ∷ slots)) (declarator_next member_of) (inside k.Member slots)
        (or_fails (inside k.Member slots) (around (declarator_at member_of) beginning))
        (or_fails (declarator_at member_of) beginning)
        (row_move k.Member (inside k.Member) slots token)
    by_beginning no_beginning = alike_not _ _ _ _ _ _ (λ none. refl) refl
    by_beginning (begins places skipped inner) = alike_begun _ _ _ _ (declarator_at member_of) places skipped inner

    all : MovedAlike (inside k.Member (needed (declarators member_of) ∷ slots)) (declarator_next member_of) (inside k.Member slots) (move (inside k.Member (needed (declarators member_of) ∷ slots)) token) (move (declarator_next member_of) token) (move (inside k.Member slots) token)
    all = by_beginning (begins_declarator member_of token)

-- ---- any of them

-- what is true of a place around a list, by the places before an entry and behind the list
pub record AroundList (before behind place : Place) : Type 0 where
  pub alike : (token : Terminal) → Alike place before behind token
  pub fit_around : (parts : Parts) → IsTrue (parts_fit place parts)
  pub fit_behind : (parts : Parts) → IsTrue (parts_fit_within behind parts)
  pub fit_before : (parts : Parts) → IsTrue (parts_fit before parts)

with_list : (before : Place) (kind : Kind) (slots : List Slot) (list : Slot) (place : Place) (b : Bool) → AroundList before (inside kind slots) (inside kind (list ∷ slots))
    → (if b then inside kind (list ∷ slots) ∷ [] else []) ≡ place ∷ [] → AroundList before (inside kind slots) place
with_list before kind slots list place false laws e = no_place place e
with_list before kind slots list place true laws e = let there : inside kind (list ∷ slots) ≡ place = cc e in subst (AroundList before (inside kind slots)) there laws

in_call : (n : ℕ) (slots : List Slot) (place : Place) (b : Bool) → (n == 1) ≡ b → (if b then before_list k.Call slots (list_part k.Call) else []) ≡ place ∷ []
    → AroundList (separated_from k.Arguments (expression n)) (inside k.Call slots) place
in_call n slots place false is e = no_place place e
in_call n slots place true is e =
    subst (λ m. AroundList (separated_from k.Arguments (expression m)) (inside k.Call slots) place) (sym (eqb-true n 1 is))
    (with_list (separated_from k.Arguments (expression 1)) k.Call slots (optional arguments) place (length slots == 1)
    (record { alike = arguments_alike slots; fit_around = λ parts. refl; fit_behind = λ parts. refl; fit_before = λ parts. refl }) e)

by_kind : (before : Place) (kind : Kind) (slots : List Slot) (place : Place) → around_of before (inside kind slots) ≡ place ∷ [] → AroundList before (inside kind slots) place
by_kind (in_list k.Items item) k.Block slots place e =
    with_list (in_list k.Items item) k.Block slots (optional items) place (length slots == 1)
    (record { alike = items_alike slots; fit_around = λ parts. refl; fit_behind = λ parts. refl; fit_before = λ parts. refl }) e
by_kind (in_list k.Members member) k.StructDefinition slots place e =
    with_list (in_list k.Members member) k.StructDefinition slots (needed members) place (length slots == 2)
    (record { alike = members_alike slots; fit_around = λ parts. refl; fit_behind = λ parts. refl; fit_before = λ parts. refl }) e
by_kind (separated_from k.Arguments (expression n)) k.Call slots place e = in_call n slots place (n == 1) refl e
by_kind (separated_from k.Initialisers initialiser) k.Braces slots place e =
    with_list (separated_from k.Initialisers initialiser) k.Braces slots (needed initialisers) place (length slots == 1)
    (record { alike = initialisers_alike slots; fit_around = λ parts. refl; fit_behind = λ parts. refl; fit_before = λ parts. refl }) e
by_kind (declarator_next local) k.LocalDeclaration slots place e =
    with_list (declarator_next local) k.LocalDeclaration slots (needed (declarators local)) place (length slots == 1)
    (record { alike = locals_alike slots; fit_around = λ parts. refl; fit_behind = λ parts. refl; fit_before = λ parts. refl }) e
by_kind (declarator_next member_of) k.Member slots place e =
    with_list (declarator_next member_of) k.Member slots (needed (declarators member_of)) place (length slots == 1)
    (record { alike = fields_alike slots; fit_around = λ parts. refl; fit_behind = λ parts. refl; fit_before = λ parts. refl }) e
by_kind _ _ slots place e = no_place place e

pub around_list : (before behind place : Place) → around_of before behind ≡ place ∷ [] → AroundList before behind place
around_list before (inside kind slots) place e = by_kind before kind slots place e
around_list before _ place e = no_place place e

-- the first entry of a list is read as in the node around it
pub begins_in_list : (before place : Place) (kind : Terminal) (token : Seen) (outer : Frame Seen) (frames : List (Frame Seen))
    → around_of before outer.place ≡ place ∷ [] → IsTrue (enters_part (move before kind))
    → outcome of_seen kind token (frame place outer.parts ∷ frames) ≡ outcome of_seen kind token (frame before [] ∷ outer ∷ frames)
begins_in_list before place kind token outer frames e is =
    ((around_list before outer.place place e).alike kind).leads is outer.parts token frames
    (λ whole. arrives of_seen kind token whole place frames)
    (λ whole. arrives of_seen kind token whole before (outer ∷ frames))

-- ---- in the rows of the grammar, where a word stands behind each list

Quiet : Place → Type 0
Quiet behind = (token : Terminal) → enters_part (move behind token) ≡ false

no_word : (b : Bool) (behind : Place) → enters_part (if b then shifts behind else fails) ≡ false
no_word true behind = refl
no_word false behind = refl

quiet_row : (kind : Kind) (list : Slot) (read left : ℕ) (place : Place) (b : Bool) → left ≤ length (row kind) → 0 < left
    → Quiet (inside kind (drop (length (row kind) - left) (row kind)))
    → (length (drop read (row kind)) == left) ≡ b → (if b then inside kind (list ∷ drop read (row kind)) ∷ [] else []) ≡ place ∷ [] → Quiet (inside kind (drop read (row kind)))
quiet_row kind list read left place false few some quiet is e = no_place place e
quiet_row kind list read left place true few some quiet is e =
    let short : length (drop read (row kind)) ≡ length (row kind) - read = length-drop read (row kind) in
    let so : length (drop read (row kind)) ≡ left = eqb-true (length (drop read (row kind))) left is in
    let same : length (row kind) - left ≡ read = omega arith in
    subst (λ n. Quiet (inside kind (drop n (row kind)))) same quiet

in_node : (before : Bool) (kind : Kind) (slots : List Slot) (list : Option Slot) (place : Place)
    → (if before then before_list kind slots list else []) ≡ place ∷ [] → before_list kind slots list ≡ place ∷ []
in_node true kind slots list place e = e
in_node false kind slots list place e = no_place place e

quiet : (kind : Kind) (read : ℕ) (place : Place) → before_list kind (drop read (row kind)) (list_part kind) ≡ place ∷ [] → Quiet (inside kind (drop read (row kind)))
unfolding Quiet
quiet k.Block read place e =
    quiet_row k.Block (optional items) read 1 place (length (drop read (row k.Block)) == 1) (omega arith) (omega arith)
    (λ token. no_word (is_one_of (t.CloseBrace ∷ []) token) (inside k.Block [])) refl e
quiet k.StructDefinition read place e =
    quiet_row k.StructDefinition (needed members) read 2 place (length (drop read (row k.StructDefinition)) == 2) (omega arith) (omega arith)
    (λ token. no_word (is_one_of (t.CloseBrace ∷ []) token) (inside k.StructDefinition (drop 4 (row k.StructDefinition)))) refl e
quiet k.Call read place e =
    quiet_row k.Call (optional arguments) read 1 place (length (drop read (row k.Call)) == 1) (omega arith) (omega arith)
    (λ token. no_word (is_one_of (t.CloseParenthesis ∷ []) token) (inside k.Call [])) refl e
quiet k.Braces read place e =
    quiet_row k.Braces (needed initialisers) read 1 place (length (drop read (row k.Braces)) == 1) (omega arith) (omega arith)
    (λ token. no_word (is_one_of (t.CloseBrace ∷ []) token) (inside k.Braces [])) refl e
quiet k.LocalDeclaration read place e =
    quiet_row k.LocalDeclaration (needed (declarators local)) read 1 place (length (drop read (row k.LocalDeclaration)) == 1) (omega arith) (omega arith)
    (λ token. no_word (is_one_of (t.Semicolon ∷ []) token) (inside k.LocalDeclaration [])) refl e
quiet k.Member read place e =
    quiet_row k.Member (needed (declarators member_of)) read 1 place (length (drop read (row k.Member)) == 1) (omega arith) (omega arith)
    (λ token. no_word (is_one_of (t.Semicolon ∷ []) token) (inside k.Member [])) refl e
quiet _ read place e = no_place place e

quiet_behind : (before : Place) (behind : Spot) (place : Place) → around_of before (plain_place behind) ≡ place ∷ [] → Quiet (plain_place behind)
quiet_behind before (spot.Inside (row_of.Of kind) read) place e =
    quiet kind read place (in_node (is_before_entry before kind) kind (drop read (row kind)) (list_part kind) place e)
quiet_behind before (spot.Inside (row_of.Brackets has_name) read) place e = no_place place e
quiet_behind before _ place e = no_place place e

-- a token begins a part around the list as in it
pub begins_alike : (before : Place) (behind : Spot) (place : Place) → around_of before (plain_place behind) ≡ place ∷ [] → (token : Terminal)
    → enters_part (move place token) ≡ enters_part (move before token)
unfolding Quiet
begins_alike before behind place e token = ((around_list before (plain_place behind) place e).alike token).begin (quiet_behind before behind place e token)

-- ---- the next part of a list is no token

or_fails_shifts : {A : Type 0} (place behind : Place) (beginning : Beginning) → or_fails place beginning ≡ shifts behind → A
or_fails_shifts place behind no_beginning is = absurd (cc is)
or_fails_shifts place behind (begins places skipped inner) is = absurd (cc is)

or_ends_shifts : {A : Type 0} (place behind : Place) (beginning : Beginning) (kind : Kind) → or_ends place beginning kind ≡ shifts behind → A
or_ends_shifts place behind no_beginning kind is = absurd (cc is)
or_ends_shifts place behind (begins places skipped inner) kind is = absurd (cc is)

if_shifts : {A : Type 0} (b : Bool) (kind : Kind) (behind : Place) → (if b then finishes kind else fails) ≡ shifts behind → A
if_shifts true kind behind is = absurd (cc is)
if_shifts false kind behind is = absurd (cc is)

comma_shifts : {A : Type 0} (kind : Kind) (category : Category) (token : Terminal) (behind : Place) → comma_move kind category token ≡ shifts behind → A
comma_shifts {A} kind category token behind = by_beginning (begins_part category token)
  where
    by_beginning : (beginning : Beginning)
        → (elim beginning as (λ x. Move) [
          | begins places skipped inner ↦ enters (entered kind category) (begins places skipped inner)
          | no_beginning ↦ if may_end_with_comma kind then finishes kind else fails
        ]) ≡ shifts behind → A
    by_beginning no_beginning is = if_shifts (may_end_with_comma kind) kind behind is
    by_beginning (begins places skipped inner) is = absurd (cc is)

no_entry : (place : Place) (node : Kind) (token : Terminal) (behind : Place) → move place token ≡ shifts behind → is_before_entry place node ≡ false
no_entry (in_list kind category) node token behind is = or_ends_shifts (in_list kind category) behind (begins_part category token) kind is
no_entry (separated_from kind category) node token behind is = comma_shifts kind category token behind is
no_entry (declarator_next role) node token behind is = or_fails_shifts (declarator_at role) behind (begins_declarator role token) is
no_entry _ node token behind is = refl

pub shifts_in_no_list : (place other behind : Place) (kind : Terminal) → move place kind ≡ shifts behind → around_of place other ≡ []
shifts_in_no_list place (inside node slots) behind kind is = ap (λ b. if b then before_list node slots (list_part node) else []) (no_entry place node kind behind is)
shifts_in_no_list place _ behind kind is = refl

-- ---- a place around a list

list_unnumbered : (kind : Kind) → IsTrue (is_there (list_part kind)) → is_numbered kind ≡ false
list_unnumbered k.If there = none_such there
list_unnumbered k.Else there = none_such there
list_unnumbered k.While there = none_such there
list_unnumbered k.Do there = none_such there
list_unnumbered k.For there = none_such there
list_unnumbered _ there = refl

pub around_inside : (place : Place) → IsTrue (is_around_list place) → IsInside place
around_inside (inside kind slots) is = tt
around_inside _ is = none_such is

pub around_fits : (place : Place) (parts : Parts) → IsTrue (is_around_list place) → IsTrue (parts_fit place parts)
around_fits (inside kind slots) parts is =
    ap (λ (numbered : Bool). is_aligned (if_numbered numbered (length (row kind) - length slots)) parts && true) (list_unnumbered kind is)
around_fits _ parts is = none_such is
