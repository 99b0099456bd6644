-- Each step leads to places that suit what their nodes are to become.
use Rattle.std.proofs.Common.{◌≡◌, ℕ, Bool, true, false, List, [], ◌∷◌, refl, sym, subst}
use Rattle.std.specs.Prelude.{IsTrue, if◌then◌else◌}
use Rattle.std.specs.List.{list_any}
use Rattle.c_tree.specs.declared.kinds.Kind.{Kind}
use Rattle.c_tree.specs.declared.kinds.Kind.TheVariants as k
use Rattle.c_tree.specs.declared.terminals.Terminal.{Terminal}
use Rattle.c_tree.specs.declared.terminals.Terminal.TheVariants as t
use Rattle.c_tree.specs.Terminals.{is_one_of}
use Rattle.c_tree.specs.Grammar.{Category, expression, arguments, cast_type, specifiers, file_specifiers, tag, declarators, declarator, abstract_declarator, parameters, parameter, initialiser, initialisers, statement, else_part, block, items, item, for_start, members, member, file_item, Role, parameter_of, Slot, word, perhaps, stars, needed, optional, row}
use Rattle.c_tree.specs.Places.{Place, inside, operand, in_words, in_list, entered, specifying, declarator_at, Wording, cast_wording, type_wording, file_wording, wordings, goes_on, back, Beginning, no_beginning, begins, around, either, Move, shifts, fails, or_fails, or_skips, or_ends, row_move, behind_first, begins_words, begins_expression, begins_statement, begins_local, begins_item, begins_initialiser, begins_for, begins_declarator, begins_member, begins_part}
use Rattle.c_tree.proofs.Wants.{Want, free, one_declarator, has_words, Suits, Rests, is_ready, Returns, Starts, Leads}

-- ---- what begins

pub starts_around : (place : Place) (beginning : Beginning) (inner outer : Want) → Returns place inner outer → Starts beginning inner → Starts (around place beginning) outer
starts_around place no_beginning inner outer r s = tt
starts_around place (begins places skipped within) inner outer r s = record { inner = inner; returns = r; more = s }

pub starts_either : (first second : Beginning) (want : Want) → Starts first want → Starts second want → Starts (either first second) want
starts_either no_beginning second want f s = s
starts_either (begins places skipped within) second want f s = f

pub operand_returns : (wanted : ℕ) (want : Want) → want ≡ free → Returns (operand wanted) free want
operand_returns wanted want e = record { suits = λ ended. e; ready = λ ended f. refl }

pub row_returns : (kind : Kind) (slots : List Slot) (want : Want) → want ≡ free → IsTrue (has_words slots) → Returns (inside kind slots) free want
row_returns kind slots want e h = record { suits = λ ended. (e, h); ready = λ ended f. refl }

pub starts_expression : (wanted : ℕ) (kind : Terminal) → Starts (begins_expression wanted kind) free
starts_expression wanted t.Name = refl
starts_expression wanted t.Number = refl
starts_expression wanted t.Character = refl
starts_expression wanted t.Text = record { inner = free; returns = operand_returns wanted free refl; more = refl }
starts_expression wanted t.OpenParenthesis = record { inner = free; returns = operand_returns wanted free refl; more = refl }
starts_expression wanted t.Ampersand = record { inner = free; returns = operand_returns wanted free refl; more = (refl, refl) }
starts_expression wanted t.Star = record { inner = free; returns = operand_returns wanted free refl; more = (refl, refl) }
starts_expression wanted t.Sign = record { inner = free; returns = operand_returns wanted free refl; more = (refl, refl) }
starts_expression wanted t.Negation = record { inner = free; returns = operand_returns wanted free refl; more = (refl, refl) }
starts_expression wanted t.Step = record { inner = free; returns = operand_returns wanted free refl; more = (refl, refl) }
starts_expression wanted _ = tt

pub starts_words : (wording : Wording) (kind : Terminal) → Starts (begins_words wording kind) free
starts_words wording kind = where_they_go_on (list_any (goes_on (kind ∷ [])) (wordings wording)) refl
  where
    where_they_go_on :
        (x : Bool) → list_any (goes_on (kind ∷ [])) (wordings wording) ≡ x
        → Starts (if x then begins [] false (in_words wording (kind ∷ [])) else no_beginning) free
    where_they_go_on true h = (refl, h)
    where_they_go_on false h = tt

pub starts_statement : (kind : Terminal) → Starts (begins_statement kind) free
starts_statement t.OpenBrace = (refl, refl)
starts_statement t.Semicolon = (refl, refl)
starts_statement t.If = (refl, refl)
starts_statement t.While = (refl, refl)
starts_statement t.Do = (refl, refl)
starts_statement t.For = (refl, refl)
starts_statement t.Jump = (refl, refl)
starts_statement t.Return = (refl, refl)
starts_statement kind =
    starts_around (inside k.ExpressionStatement (behind_first (row k.ExpressionStatement))) (begins_expression 1 kind) free free
    (row_returns k.ExpressionStatement (behind_first (row k.ExpressionStatement)) free refl refl) (starts_expression 1 kind)

pub starts_local : (kind : Terminal) → Starts (begins_local kind) free
starts_local kind =
    starts_around (inside k.LocalDeclaration (behind_first (row k.LocalDeclaration))) (begins_words type_wording kind) free free
    (row_returns k.LocalDeclaration (behind_first (row k.LocalDeclaration)) free refl refl) (starts_words type_wording kind)

pub starts_member : (kind : Terminal) → Starts (begins_member kind) free
starts_member kind =
    starts_around (inside k.Member (behind_first (row k.Member))) (begins_words type_wording kind) free free
    (row_returns k.Member (behind_first (row k.Member)) free refl refl) (starts_words type_wording kind)

pub starts_item : (kind : Terminal) → Starts (begins_item kind) free
starts_item kind = starts_either (begins_local kind) (begins_statement kind) free (starts_local kind) (starts_statement kind)

pub starts_initialiser : (kind : Terminal) → Starts (begins_initialiser kind) free
starts_initialiser t.OpenBrace = (refl, refl)
starts_initialiser kind = starts_expression 1 kind

pub starts_for : (kind : Terminal) → Starts (begins_for kind) free
starts_for t.Semicolon = (refl, refl)
starts_for kind =
    starts_either (begins_local kind) (around (inside k.ForStart (behind_first (row k.ForStart))) (begins_expression 1 kind)) free (starts_local kind)
    (starts_around (inside k.ForStart (behind_first (row k.ForStart))) (begins_expression 1 kind) free free
    (row_returns k.ForStart (behind_first (row k.ForStart)) free refl refl) (starts_expression 1 kind))

pub starts_declarator : (role : Role) (kind : Terminal) → Starts (begins_declarator role kind) (one_declarator role)
starts_declarator role t.Star = refl
starts_declarator role t.Name = refl
starts_declarator parameter_of t.OpenBracket = (parameter_of, refl, refl, refl)
starts_declarator role t.OpenBracket = tt
starts_declarator role _ = tt

-- a place that stays as it is
pub stays_returns :
    (place : Place) (want : Want) → ((ended : Place) → back place ended ≡ place) → Suits place want → is_ready place want ≡ true → Returns place free want
stays_returns place want stays s r =
    record {
      suits = λ ended. subst (λ (p : Place). Suits p want) (sym (stays ended)) s;
      ready = λ ended f. subst (λ (p : Place). IsTrue (is_ready p want)) (sym (stays ended)) r;
    }

pub starts_part : (category : Category) (kind : Terminal) → Starts (begins_part category kind) free
starts_part (expression wanted) kind = starts_expression wanted kind
starts_part arguments kind =
    starts_around (entered k.Arguments (expression 1)) (begins_expression 1 kind) free free
    (stays_returns (entered k.Arguments (expression 1)) free (λ ended. refl) refl refl) (starts_expression 1 kind)
starts_part cast_type kind = starts_words cast_wording kind
starts_part specifiers kind = starts_words type_wording kind
starts_part file_specifiers kind = tt
starts_part tag kind = tt
starts_part (declarators role) kind =
    starts_around (declarator_at role) (begins_declarator role kind) (one_declarator role) free
    (record { suits = λ ended. refl; ready = λ ended f. refl }) (starts_declarator role kind)
starts_part (declarator role) kind = tt
starts_part abstract_declarator kind = tt
starts_part parameters kind = tt
starts_part parameter kind = tt
starts_part initialiser kind = starts_initialiser kind
starts_part initialisers kind =
    starts_around (entered k.Initialisers initialiser) (begins_initialiser kind) free free
    (stays_returns (entered k.Initialisers initialiser) free (λ ended. refl) refl refl) (starts_initialiser kind)
starts_part statement kind = starts_statement kind
starts_part else_part t.Else = (refl, refl)
starts_part else_part _ = tt
starts_part block t.OpenBrace = (refl, refl)
starts_part block _ = tt
starts_part items kind =
    starts_around (in_list k.Items item) (begins_item kind) free free
    (stays_returns (in_list k.Items item) free (λ ended. refl) refl refl) (starts_item kind)
starts_part item kind = starts_item kind
starts_part for_start kind = starts_for kind
starts_part members kind =
    starts_around (in_list k.Members member) (begins_member kind) free free
    (stays_returns (in_list k.Members member) free (λ ended. refl) refl refl) (starts_member kind)
starts_part member kind = starts_member kind
starts_part file_item kind =
    starts_around specifying (begins_words file_wording kind) free free
    (record { suits = λ ended. refl; ready = λ ended f. refl }) (starts_words file_wording kind)

-- ---- what a move leads to

pub leads_or_fails :
    (place : Place) (beginning : Beginning) (inner want : Want) → Returns place inner want → Starts beginning inner → Leads want (or_fails place beginning)
leads_or_fails place no_beginning inner want r s = tt
leads_or_fails place (begins places skipped within) inner want r s = record { inner = inner; returns = r; more = s }

pub leads_or_skips :
    (place : Place) (beginning : Beginning) (other : Move) (inner want : Want) → Returns place inner want → Starts beginning inner → Leads want other
    → Leads want (or_skips place beginning other)
leads_or_skips place no_beginning other inner want r s m = m
leads_or_skips place (begins places skipped within) other inner want r s m = record { inner = inner; returns = r; more = s }

pub leads_or_ends :
    (place : Place) (beginning : Beginning) (kind : Kind) (inner want : Want) → Returns place inner want → Starts beginning inner
    → Leads want (or_ends place beginning kind)
leads_or_ends place no_beginning kind inner want r s = tt
leads_or_ends place (begins places skipped within) kind inner want r s = record { inner = inner; returns = r; more = s }

pub leads_where : (x : Bool) (what other : Move) (want : Want) → (x ≡ true → Leads want what) → (x ≡ false → Leads want other) → Leads want (if x then what else other)
leads_where true what other want y n = y refl
leads_where false what other want y n = n refl

more_words : (slot : Slot) (slots : List Slot) → IsTrue (has_words (slot ∷ slots)) → IsTrue (has_words slots)
more_words (word []) slots h = absurd cc
more_words (word (first ∷ rest)) slots h = h
more_words (perhaps terminals) slots h = h
more_words stars slots h = h
more_words (needed category) slots h = h
more_words (optional category) slots h = h

pub row_leads :
    (kind : Kind) (at : List Slot → Place) (want : Want) → ((slots : List Slot) → IsTrue (has_words slots) → Rests (at slots) want)
    → ((slots : List Slot) → IsTrue (has_words slots) → Returns (at slots) free want)
    → (coming : Terminal) (slots : List Slot) → IsTrue (has_words slots) → Leads want (row_move kind at slots coming)
row_leads kind at want suits returns coming [] h = tt
row_leads kind at want suits returns coming (word terminals ∷ slots) h =
    leads_where (is_one_of terminals coming) (shifts (at slots)) fails want (λ e. suits slots (more_words (word terminals) slots h)) (λ e. tt)
row_leads kind at want suits returns coming (needed category ∷ slots) h =
    leads_or_fails (at slots) (begins_part category coming) free want (returns slots h) (starts_part category coming)
row_leads kind at want suits returns coming (optional category ∷ slots) h =
    leads_or_skips (at slots) (begins_part category coming) (row_move kind at slots coming) free want (returns slots h) (starts_part category coming)
    (row_leads kind at want suits returns coming slots h)
row_leads kind at want suits returns coming (perhaps terminals ∷ slots) h = tt
row_leads kind at want suits returns coming (stars ∷ slots) h = tt
