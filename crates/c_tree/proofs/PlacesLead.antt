-- In each place a step leads to places that suit what their nodes are to become.
use Rattle.std.proofs.Common.{◌≡◌, ℕ, Bool, true, false, not, ◌&&◌, ◌||◌, List, [], ◌∷◌, ◌++◌, refl, ap, ◌∙◌}
use Rattle.std.proofs.lemmas.Bool.{and_parts}
use Rattle.std.specs.Prelude.{nat_le, IsTrue, if◌then◌else◌}
use Rattle.std.specs.List.{list_any}
use Rattle.c_tree.specs.declared.kinds.Kind.{Kind}
use Rattle.c_tree.specs.declared.kinds.Kind.TheVariants as k
use Rattle.c_tree.specs.declared.terminals.Terminal.{Terminal}
use Rattle.c_tree.specs.declared.terminals.Terminal.TheVariants as t
use Rattle.c_tree.specs.Grammar.{Category, expression, Role, file_first, file_inline, file_later, local, member_of, parameter_of, inline_parameter, word, needed, row, level, at_file_scope, may_be_initialised}
use Rattle.c_tree.specs.Places.{Place, inside, operand, operator, opened, in_texts, in_words, in_list, entered, separated_from, specifying, specified, declaring, declared, declarator_at, declarator_read, declarator_next, initialiser_next, initialiser_read, before_name, behind_name, in_brackets, parameters_next, parameters_read, behind_parameters, parameter_at, parameter_read, parameter_next, parameter_begins, parameter_typed, parameter_declared, Wording, cast_wording, type_wording, wordings, goes_on, are_same, Specified, by_tag, by_inline, by_others, Flavour, object, empty, definable, prototype, Naming, lone_void, named, unnamed, is_inline_role, is_later, later, may_be_declared_so, may_be_defined_so, may_go_on, may_end_with_comma, flavour_at, flavour_of, naming_at, joined_naming, parameter_role, Beginning, no_beginning, begins, around, Operator, no_operator, operator_of, operator_at, operator_move, Move, shifts, enters, takes, skips, finishes, passes, fails, or_fails, behind_first, begins_row, begins_words, begins_expression, begins_initialiser, begins_declarator, begins_parameter, begins_part, opened_move, words_move, comma_move, specified_move, declared_move, declarator_read_move, initialiser_read_move, before_name_move, behind_name_move, parameters_next_move, parameters_read_move, parameter_read_move, parameter_typed_move, move}
use Rattle.c_tree.proofs.Wants.{Want, free, file_declarators, one_declarator, all_parameters, one_parameter, is_named_so, has_fit_declarator, is_fit, has_words, may_have_brackets, is_list_for, is_inline_list, Returns, Starts, Leads, AllLead}
use Rattle.c_tree.proofs.Leads.{starts_around, operand_returns, row_returns, starts_expression, starts_words, starts_initialiser, starts_declarator, starts_part, stays_returns, leads_or_fails, leads_or_skips, leads_or_ends, leads_where, row_leads}

-- ---- expressions, words and lists

operator_leads : (wanted own : ℕ) (x : Operator) (want : Want) → want ≡ free → ((kind : Kind) (left : ℕ) → x ≡ operator_of kind left → IsTrue (has_words (behind_first (behind_first (row kind))))) → Leads want (operator_move wanted own x)
operator_leads wanted own no_operator want e h = tt
operator_leads wanted own (operator_of kind left) want e h =
    leads_where (nat_le wanted (level kind) && nat_le left own) (takes (operand wanted) (inside kind (behind_first (behind_first (row kind))))) passes want
    (λ x. record { inner = free; returns = operand_returns wanted want e; more = (refl, h kind left refl) }) (λ x. tt)

-- the rows of operators have words alone that can be written
operator_words : (kind : Kind) → IsTrue (has_words (behind_first (behind_first (row kind))))
operator_words k.Absent = refl
operator_words _ = refl

opened_leads : (wanted : ℕ) (coming : Terminal) (want : Want) → want ≡ free → Leads want (opened_move wanted coming)
opened_leads wanted coming want e = by_beginning (begins_words cast_wording coming) (starts_words cast_wording coming)
  where
    by_beginning :
        (x : Beginning) → Starts x free
        → Leads want
        (elim x as (λ y. Move) [
          | begins places skipped inner ↦
              if nat_le wanted 13 then enters (inside k.Cast (word (t.CloseParenthesis ∷ []) ∷ needed (expression 13) ∷ [])) (begins places skipped inner)
              else fails
          | no_beginning ↦ or_fails (inside k.Parenthesized (word (t.CloseParenthesis ∷ []) ∷ [])) (begins_expression 1 coming)
        ])
    by_beginning (begins places skipped within) s =
        leads_where (nat_le wanted 13)
        (enters (inside k.Cast (word (t.CloseParenthesis ∷ []) ∷ needed (expression 13) ∷ [])) (begins places skipped within)) fails want
        (λ x. record {
          inner = free;
          returns = row_returns k.Cast (word (t.CloseParenthesis ∷ []) ∷ needed (expression 13) ∷ []) want e refl;
          more = s;
        })
        (λ x. tt)
    by_beginning no_beginning s =
        leads_or_fails (inside k.Parenthesized (word (t.CloseParenthesis ∷ []) ∷ [])) (begins_expression 1 coming) free want
        (row_returns k.Parenthesized (word (t.CloseParenthesis ∷ []) ∷ []) want e refl) (starts_expression 1 coming)

texts_lead : (coming : Terminal) (want : Want) → want ≡ free → Leads want (move in_texts coming)
texts_lead t.Text want e = e
texts_lead _ want e = tt

words_lead : (wording : Wording) (words : List Terminal) (coming : Terminal) (want : Want) → want ≡ free → Leads want (words_move wording words coming)
words_lead wording words coming want e =
    leads_where (list_any (goes_on (words ++ coming ∷ [])) (wordings wording)) (shifts (in_words wording (words ++ coming ∷ [])))
    (if list_any (are_same words) (wordings wording) then finishes k.Specifiers else fails) want (λ h. (e, h))
    (λ h. leads_where (list_any (are_same words) (wordings wording)) (finishes k.Specifiers) fails want (λ x. tt) (λ x. tt))

entered_leads : (coming : Terminal) (kind : Kind) (category : Category) (want : Want) → want ≡ free → Leads want (move (entered kind category) coming)
entered_leads t.Comma kind category want e = e
entered_leads _ kind category want e = tt

comma_leads : (kind : Kind) (category : Category) (coming : Terminal) (want : Want) → want ≡ free → Leads want (comma_move kind category coming)
comma_leads kind category coming want e = by_beginning (begins_part category coming) (starts_part category coming)
  where
    by_beginning :
        (x : Beginning) → Starts x free
        → Leads want
        (elim x as (λ y. Move) [
          | begins places skipped inner ↦ enters (entered kind category) (begins places skipped inner)
          | no_beginning ↦ if may_end_with_comma kind then finishes kind else fails
        ])
    by_beginning (begins places skipped within) s =
        record { inner = free; returns = stays_returns (entered kind category) want (λ ended. refl) e refl; more = s }
    by_beginning no_beginning s = leads_where (may_end_with_comma kind) (finishes kind) fails want (λ x. tt) (λ x. tt)

-- ---- declarations at file scope

list_ready :
    (role : Role) (want : Want) (ended : Place) → IsTrue (is_list_for role want) → IsTrue (is_fit (one_declarator role) ended)
    → IsTrue (is_fit want (declarator_read role (flavour_at ended)))
list_ready role free ended l f = refl
list_ready file_first (file_declarators false) ended l f = any_flavour (flavour_at ended)
  where
    any_flavour : (flavour : Flavour) → (may_be_declared_so false flavour || may_be_defined_so flavour) ≡ true
    any_flavour object = refl
    any_flavour empty = refl
    any_flavour definable = refl
    any_flavour prototype = refl
list_ready file_first (file_declarators true) ended l f = absurd cc
list_ready file_inline (file_declarators true) ended l f = f
list_ready file_inline (file_declarators false) ended l f = absurd cc
list_ready file_later (file_declarators false) ended l f = refl
list_ready file_later (file_declarators true) ended l f = absurd cc
list_ready local (file_declarators inline) ended l f = absurd cc
list_ready member_of (file_declarators inline) ended l f = absurd cc
list_ready parameter_of (file_declarators inline) ended l f = absurd cc
list_ready inline_parameter (file_declarators inline) ended l f = absurd cc
list_ready role (one_declarator other) ended l f = absurd cc
list_ready role (all_parameters inline) ended l f = absurd cc
list_ready role (one_parameter inline) ended l f = absurd cc

list_returns : (role : Role) (want : Want) → IsTrue (is_list_for role want) → Returns (declarator_at role) (one_declarator role) want
list_returns role want l = record { suits = λ ended. l; ready = λ ended f. list_ready role want ended l f }

declaring_leads :
    (inline : Bool) (role : Role) (coming : Terminal) (want : Want) → want ≡ free → IsTrue (is_list_for role (file_declarators inline))
    → Leads want (or_fails (declaring inline) (around (declarator_at role) (begins_declarator role coming)))
declaring_leads inline role coming want e l =
    leads_or_fails (declaring inline) (around (declarator_at role) (begins_declarator role coming)) (file_declarators inline) want
    (record { suits = λ ended. e; ready = λ ended f. f })
    (starts_around (declarator_at role) (begins_declarator role coming) (one_declarator role) (file_declarators inline)
    (list_returns role (file_declarators inline) l) (starts_declarator role coming))

specified_leads : (by : Specified) (coming : Terminal) (want : Want) → want ≡ free → Leads want (specified_move by coming)
specified_leads by_tag t.OpenBrace want e = (e, refl)
specified_leads by_tag t.Semicolon want e = (e, refl)
specified_leads by_inline coming want e = declaring_leads true file_inline coming want e refl
specified_leads by_tag coming want e = declaring_leads false file_first coming want e refl
specified_leads by_others coming want e = declaring_leads false file_first coming want e refl

declared_leads : (coming : Terminal) (inline : Bool) (flavour : Flavour) (want : Want) → want ≡ free → Leads want (declared_move inline flavour coming)
declared_leads t.Semicolon inline flavour want e =
    leads_where (may_be_declared_so inline flavour) (shifts (inside k.Declaration [])) fails want (λ x. (e, refl)) (λ x. tt)
declared_leads t.OpenBrace inline flavour want e =
    leads_where (may_be_defined_so flavour) (enters (inside k.Function []) (begins_row k.Block)) fails want
    (λ x. record { inner = free; returns = row_returns k.Function [] want e refl; more = (refl, refl) }) (λ x. tt)
declared_leads _ inline flavour want e = tt

-- ---- lists of declarators

later_list :
    (role : Role) (flavour : Flavour) (want : Want) → IsTrue (is_list_for role want) → may_be_declared_so (is_inline_role role) flavour ≡ true
    → IsTrue (is_list_for (later role) want) × IsTrue (not (is_inline_list want))
later_list role flavour free l m = (refl, refl)
later_list file_first flavour (file_declarators false) l m = (refl, refl)
later_list file_first flavour (file_declarators true) l m = absurd cc
later_list file_inline flavour (file_declarators inline) l m = absurd cc
later_list file_later flavour (file_declarators false) l m = (refl, refl)
later_list file_later flavour (file_declarators true) l m = absurd cc
later_list local flavour (file_declarators inline) l m = absurd cc
later_list member_of flavour (file_declarators inline) l m = absurd cc
later_list parameter_of flavour (file_declarators inline) l m = absurd cc
later_list inline_parameter flavour (file_declarators inline) l m = absurd cc
later_list role flavour (one_declarator other) l m = absurd cc
later_list role flavour (all_parameters inline) l m = absurd cc
later_list role flavour (one_parameter inline) l m = absurd cc

same_list :
    (role : Role) (flavour : Flavour) (want : Want) → IsTrue (is_list_for role want) → may_be_declared_so (is_inline_role role) flavour ≡ true
    → IsTrue (not (is_inline_list want))
same_list role flavour want l m = (later_list role flavour want l m).1

plain_later : (role : Role) (want : Want) → IsTrue (is_list_for role want) → IsTrue (not (is_inline_list want)) → IsTrue (is_list_for (later role) want)
plain_later role free l n = refl
plain_later file_first (file_declarators false) l n = refl
plain_later role (file_declarators true) l n = absurd cc
plain_later file_inline (file_declarators false) l n = absurd cc
plain_later file_later (file_declarators false) l n = refl
plain_later local (file_declarators inline) l n = absurd cc
plain_later member_of (file_declarators inline) l n = absurd cc
plain_later parameter_of (file_declarators inline) l n = absurd cc
plain_later inline_parameter (file_declarators inline) l n = absurd cc
plain_later role (one_declarator other) l n = absurd cc
plain_later role (all_parameters inline) l n = absurd cc
plain_later role (one_parameter inline) l n = absurd cc

declarator_read_leads : (coming : Terminal) (role : Role) (flavour : Flavour) (want : Want) → IsTrue (is_list_for role want) → Leads want (declarator_read_move role flavour coming)
declarator_read_leads t.Comma role flavour want l =
    leads_where (may_be_declared_so (is_inline_role role) flavour) (shifts (declarator_next (later role))) fails want
    (λ m. later_list role flavour want l m) (λ m. tt)
declarator_read_leads t.Assign role flavour want l =
    leads_where (may_be_declared_so (is_inline_role role) flavour && may_be_initialised role) (shifts (initialiser_next role)) fails want
    (λ m. (l, same_list role flavour want l (and_parts (may_be_declared_so (is_inline_role role) flavour) (may_be_initialised role) m).0)) (λ m. tt)
declarator_read_leads _ role flavour want l = tt

initialiser_read_leads :
    (coming : Terminal) (role : Role) (want : Want) → IsTrue (is_list_for role want) → IsTrue (not (is_inline_list want)) → Leads want (initialiser_read_move role coming)
initialiser_read_leads t.Comma role want l n = (plain_later role want l n, n)
initialiser_read_leads _ role want l n = tt

-- ---- declarators

before_name_leads : (role : Role) (coming : Terminal) (want : Want) → want ≡ one_declarator role → Leads want (before_name_move role coming)
before_name_leads role t.Star want e = e
before_name_leads role t.Name want e = e
before_name_leads parameter_of t.OpenBracket want e = (parameter_of, e, refl, refl)
before_name_leads parameter_of coming want e = tt
before_name_leads role _ want e = tt

brackets_behind_name : (role : Role) → (role ≡ file_inline → ⊥) → IsTrue (may_have_brackets role true)
brackets_behind_name file_inline n = absurd (n refl)
brackets_behind_name inline_parameter n = refl
brackets_behind_name _ n = refl

behind_name_leads : (role : Role) (coming : Terminal) (want : Want) → want ≡ one_declarator role → Leads want (behind_name_move role coming)
behind_name_leads file_inline t.OpenBracket want e = tt
behind_name_leads role t.OpenBracket want e = (role, e, brackets_behind_name role (λ x. cc), refl)
behind_name_leads role t.OpenParenthesis want e =
    leads_where (at_file_scope role) (shifts (parameters_next role)) (finishes k.Declarator) want (λ h. (e, h)) (λ h. tt)
behind_name_leads role _ want e = tt

-- ---- parameters

behind_so :
    (role : Role) (flavour : Flavour) (want : Want) → want ≡ one_declarator role → at_file_scope role ≡ true
    → (is_inline_role role ≡ true → may_be_defined_so flavour ≡ true) → IsTrue (is_fit want (behind_parameters flavour))
behind_so role flavour want e f m = ap (λ w. is_fit w (behind_parameters flavour)) e ∙ by_role role f m
  where
    by_role :
        (role : Role) → at_file_scope role ≡ true → (is_inline_role role ≡ true → may_be_defined_so flavour ≡ true)
        → has_fit_declarator role (behind_parameters flavour) ≡ true
    by_role file_inline f m = m refl
    by_role inline_parameter f m = absurd cc
    by_role _ f m = refl

starts_parameter : (inline : Bool) (kind : Terminal) → Starts (begins_parameter inline kind) (one_parameter inline)
starts_parameter inline kind =
    starts_around (parameter_begins inline) (begins_words type_wording kind) free (one_parameter inline)
    (record { suits = λ ended. refl; ready = λ ended f. refl }) (starts_words type_wording kind)

named_defined : (inline : Bool) (naming : Naming) → (not inline || is_named_so naming) ≡ true → (not inline || may_be_defined_so (flavour_of naming)) ≡ true
named_defined true named h = refl
named_defined true lone_void h = refl
named_defined true unnamed h = absurd cc
named_defined false naming h = refl

pub joined_defined :
    (inline : Bool) (before naming : Naming) → (not inline || is_named_so before) ≡ true → (not inline || is_named_so naming) ≡ true
    → (not inline || may_be_defined_so (flavour_of (joined_naming (before ∷ []) naming))) ≡ true
joined_defined true named named b h = refl
joined_defined true named lone_void b h = absurd cc
joined_defined true named unnamed b h = absurd cc
joined_defined true lone_void naming b h = absurd cc
joined_defined true unnamed naming b h = absurd cc
joined_defined false before naming b h = refl

implied : (x y : Bool) → (not x || y) ≡ true → x ≡ true → y ≡ true
implied true y h e = h
implied false y h e = absurd cc

parameters_next_leads :
    (role : Role) (coming : Terminal) (want : Want) → want ≡ one_declarator role → at_file_scope role ≡ true → Leads want (parameters_next_move role coming)
parameters_next_leads role t.CloseParenthesis want e f =
    leads_where (is_later role) fails (skips (shifts (behind_parameters empty))) want (λ x. tt) (λ x. behind_so role empty want e f (λ y. refl))
parameters_next_leads role coming want e f =
    leads_or_fails (parameters_read role empty) (around (parameter_at (is_inline_role role) []) (begins_parameter (is_inline_role role) coming))
    (all_parameters (is_inline_role role)) want
    (record {
      suits = λ ended. (e, f);
      ready = λ ended h. behind_so role (flavour_at ended) want e f (implied (is_inline_role role) (may_be_defined_so (flavour_at ended)) h);
    })
    (starts_around (parameter_at (is_inline_role role) []) (begins_parameter (is_inline_role role) coming) (one_parameter (is_inline_role role))
    (all_parameters (is_inline_role role))
    (record { suits = λ ended. refl; ready = λ ended h. named_defined (is_inline_role role) (naming_at ended) h })
    (starts_parameter (is_inline_role role) coming))

read_so : (x y : Bool) → (x && not y) ≡ false → x ≡ true → y ≡ true
read_so true true h e = refl
read_so true false h e = absurd cc
read_so false y h e = absurd cc

parameters_read_leads :
    (coming : Terminal) (role : Role) (flavour : Flavour) (want : Want) → want ≡ one_declarator role → at_file_scope role ≡ true
    → Leads want (parameters_read_move role flavour coming)
parameters_read_leads t.CloseParenthesis role flavour want e f =
    leads_where (is_inline_role role && not (may_be_defined_so flavour)) fails (shifts (behind_parameters flavour)) want (λ x. tt)
    (λ x. behind_so role flavour want e f (read_so (is_inline_role role) (may_be_defined_so flavour) x))
parameters_read_leads _ role flavour want e f = tt

goes_on_named : (inline : Bool) (naming : Naming) → may_go_on inline naming ≡ true → (not inline || is_named_so naming) ≡ true
goes_on_named false naming h = refl
goes_on_named true named h = refl
goes_on_named true lone_void h = absurd cc
goes_on_named true unnamed h = absurd cc

parameter_read_leads : (coming : Terminal) (inline : Bool) (naming : Naming) (want : Want) → want ≡ all_parameters inline → Leads want (parameter_read_move inline naming coming)
parameter_read_leads t.Comma inline naming want e =
    leads_where (may_go_on inline naming) (shifts (parameter_next inline naming)) fails want (λ h. (e, goes_on_named inline naming h)) (λ h. tt)
parameter_read_leads _ inline naming want e = tt

parameter_next_leads :
    (inline : Bool) (naming : Naming) (coming : Terminal) (want : Want) → want ≡ all_parameters inline → IsTrue (not inline || is_named_so naming)
    → Leads want (move (parameter_next inline naming) coming)
parameter_next_leads inline naming coming want e n =
    leads_or_fails (parameter_at inline (naming ∷ [])) (begins_parameter inline coming) (one_parameter inline) want
    (record {
      suits = λ ended. e;
      ready = λ ended h.
          ap (λ w. is_fit w (parameter_read inline (joined_naming (naming ∷ []) (naming_at ended)))) e ∙ joined_defined inline naming (naming_at ended) n h;
    })
    (starts_parameter inline coming)

declared_so : (inline : Bool) (ended : Place) → IsTrue (is_fit (one_declarator (parameter_role inline)) ended) → IsTrue (is_fit (one_parameter inline) (parameter_declared (naming_at ended)))
declared_so true ended h = h
declared_so false ended h = refl

parameter_typed_leads : (inline : Bool) (coming : Terminal) (want : Want) → want ≡ one_parameter inline → Leads want (parameter_typed_move inline coming)
parameter_typed_leads inline coming want e =
    leads_or_skips (parameter_declared unnamed) (begins_declarator (parameter_role inline) coming) (finishes k.Parameter) (one_declarator (parameter_role inline)) want
    (record {
      suits = λ ended. (inline, e);
      ready = λ ended h. ap (λ w. is_fit w (parameter_declared (naming_at ended))) e ∙ declared_so inline ended h;
    })
    (starts_declarator (parameter_role inline) coming) tt

-- ---- each place

pub all_lead : AllLead
unfolding AllLead
all_lead coming (inside kind slots) want s =
    row_leads kind (inside kind) want (λ slots h. (s.0, h)) (λ slots h. row_returns kind slots want s.0 h) coming slots s.1
all_lead coming (operand wanted) want s = tt
all_lead coming (operator wanted own) want s = operator_leads wanted own (operator_at coming) want s (λ kind left e. operator_words kind)
all_lead coming (opened wanted) want s = opened_leads wanted coming want s
all_lead coming in_texts want s = texts_lead coming want s
all_lead coming (in_words wording words) want s = words_lead wording words coming want s.0
all_lead coming (in_list kind category) want s =
    leads_or_ends (in_list kind category) (begins_part category coming) kind free want
    (stays_returns (in_list kind category) want (λ ended. refl) s refl) (starts_part category coming)
all_lead coming (entered kind category) want s = entered_leads coming kind category want s
all_lead coming (separated_from kind category) want s = comma_leads kind category coming want s
all_lead coming specifying want s = tt
all_lead coming (specified by) want s = specified_leads by coming want s
all_lead coming (declaring inline) want s = tt
all_lead coming (declared inline flavour) want s = declared_leads coming inline flavour want s
all_lead coming (declarator_at role) want s = tt
all_lead coming (declarator_read role flavour) want s = declarator_read_leads coming role flavour want s
all_lead coming (declarator_next role) want s =
    leads_or_fails (declarator_at role) (begins_declarator role coming) (one_declarator role) want (list_returns role want s.0) (starts_declarator role coming)
all_lead coming (initialiser_next role) want s =
    leads_or_fails (initialiser_read role) (begins_initialiser coming) free want
    (stays_returns (initialiser_read role) want (λ ended. refl) s refl) (starts_initialiser coming)
all_lead coming (initialiser_read role) want s = initialiser_read_leads coming role want s.0 s.1
all_lead coming (before_name role starred) want s = before_name_leads role coming want s
all_lead coming (behind_name role) want s = behind_name_leads role coming want s
all_lead coming (in_brackets has_name slots) want s =
    row_leads k.ArrayDeclarator (in_brackets has_name) want (λ slots h. (s.0, s.1, s.2, h))
    (λ slots h. stays_returns (in_brackets has_name slots) want (λ ended. refl) (s.0, s.1, s.2, h) refl) coming slots s.3
all_lead coming (parameters_next role) want s = parameters_next_leads role coming want s.0 s.1
all_lead coming (parameters_read role flavour) want s = parameters_read_leads coming role flavour want s.0 s.1
all_lead coming (behind_parameters flavour) want s = tt
all_lead coming (parameter_at inline before) want s = tt
all_lead coming (parameter_read inline naming) want s = parameter_read_leads coming inline naming want s
all_lead coming (parameter_next inline naming) want s = parameter_next_leads inline naming coming want s.0 s.1
all_lead coming (parameter_begins inline) want s = tt
all_lead coming (parameter_typed inline lone) want s = parameter_typed_leads inline coming want s
all_lead coming (parameter_declared naming) want s = tt
