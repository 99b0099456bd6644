-- Of each node that has begun, what it may still become: enough that it can be completed.
use Rattle.std.proofs.Common.{◌≡◌, Bool, true, false, not, ◌||◌, List, [], ◌∷◌, ◌++◌, refl}
use Rattle.std.specs.Prelude.{IsTrue}
use Rattle.std.specs.List.{list_any}
use Rattle.c_tree.specs.declared.terminals.Terminal.{Terminal}
use Rattle.c_tree.specs.Grammar.{Role, file_first, file_inline, file_later, inline_parameter, Slot, word, at_file_scope}
use Rattle.c_tree.specs.Places.{Place, inside, operand, in_words, specifying, declaring, declared, declarator_at, declarator_read, declarator_next, initialiser_next, initialiser_read, before_name, behind_name, in_brackets, parameters_next, parameters_read, behind_parameters, parameter_at, parameter_read, parameter_next, parameter_begins, parameter_typed, parameter_declared, wordings, goes_on, Naming, named, may_be_declared_so, may_be_defined_so, flavour_at, naming_at, back, Beginning, no_beginning, begins, Move, shifts, enters, takes, skips, finishes, passes, fails, move}
use Rattle.c_tree.specs.Machine as machine
use Rattle.c_tree.specs.Machine.{Making, Frame, frame, Outcome, is_whole, is_wrong, nested, begun, alone, moved, arrives, outcome}

-- what a node is to become, as far as not every end is fit
pub data Want : Type 0 where
  free : Want
  -- the declarators of a declaration at file scope, `inline` or not
  file_declarators : Bool → Want
  one_declarator : Role → Want
  -- parameters, of an inline function or another, and one of them
  all_parameters : Bool → Want
  one_parameter : Bool → Want

-- with a name, where there must be one
abbrev pub is_named_so : Naming → Bool
is_named_so named = true
is_named_so naming = false

abbrev pub has_fit_declarator : Role → Place → Bool
has_fit_declarator file_inline ended = may_be_defined_so (flavour_at ended)
has_fit_declarator inline_parameter ended = is_named_so (naming_at ended)
has_fit_declarator role ended = true

-- whether a node may be completed further that ended at a place
abbrev pub is_fit : Want → Place → Bool
is_fit free ended = true
is_fit (file_declarators inline) ended = may_be_declared_so inline (flavour_at ended) || may_be_defined_so (flavour_at ended)
is_fit (one_declarator role) ended = has_fit_declarator role ended
is_fit (all_parameters inline) ended = not inline || may_be_defined_so (flavour_at ended)
is_fit (one_parameter inline) ended = not inline || is_named_so (naming_at ended)

abbrev pub has_words : List Slot → Bool
has_words [] = true
has_words (word [] ∷ slots) = false
has_words (slot ∷ slots) = has_words slots

-- brackets may stand in a declarator: not of an inline function, and for its parameters behind a name
abbrev pub may_have_brackets : Role → Bool → Bool
may_have_brackets file_inline has_name = false
may_have_brackets inline_parameter has_name = has_name
may_have_brackets role has_name = true

-- what lists of declarators may be for
abbrev pub is_list_for : Role → Want → Bool
is_list_for role free = true
is_list_for file_first (file_declarators false) = true
is_list_for file_inline (file_declarators true) = true
is_list_for file_later (file_declarators false) = true
is_list_for role want = false

abbrev pub is_inline_list : Want → Bool
is_inline_list (file_declarators true) = true
is_inline_list want = false

-- what is known of a place, by what its node is to become
abbrev pub Suits : Place → Want → Type 0
Suits (inside kind slots) want = (want ≡ free) × IsTrue (has_words slots)
Suits (in_words wording words) want = (want ≡ free) × IsTrue (list_any (goes_on words) (wordings wording))
Suits (declarator_read role flavour) want = IsTrue (is_list_for role want)
Suits (declarator_next role) want = IsTrue (is_list_for role want) × IsTrue (not (is_inline_list want))
Suits (initialiser_next role) want = IsTrue (is_list_for role want) × IsTrue (not (is_inline_list want))
Suits (initialiser_read role) want = IsTrue (is_list_for role want) × IsTrue (not (is_inline_list want))
Suits (before_name role starred) want = want ≡ one_declarator role
Suits (behind_name role) want = want ≡ one_declarator role
Suits (in_brackets has_name slots) want =
    (role : Role) × (want ≡ one_declarator role) × IsTrue (may_have_brackets role has_name) × IsTrue (has_words slots)
Suits (parameters_next role) want = (want ≡ one_declarator role) × IsTrue (at_file_scope role)
Suits (parameters_read role flavour) want = (want ≡ one_declarator role) × IsTrue (at_file_scope role)
Suits (behind_parameters flavour) want = IsTrue (is_fit want (behind_parameters flavour))
Suits (parameter_read inline naming) want = want ≡ all_parameters inline
Suits (parameter_next inline naming) want = (want ≡ all_parameters inline) × IsTrue (not inline || is_named_so naming)
Suits (parameter_typed inline lone) want = want ≡ one_parameter inline
Suits (parameter_declared naming) want = (inline : Bool) × (want ≡ one_parameter inline)
Suits (operand wanted) want = ⊥
Suits specifying want = ⊥
Suits (declaring inline) want = ⊥
Suits (declarator_at role) want = ⊥
Suits (parameter_at inline before) want = ⊥
Suits (parameter_begins inline) want = ⊥
Suits place want = want ≡ free

-- whether a place may be completed, where a part has just ended
abbrev pub is_ready : Place → Want → Bool
is_ready (declared inline flavour) want = may_be_declared_so inline flavour || may_be_defined_so flavour
is_ready (declarator_read role flavour) want = is_fit want (declarator_read role flavour)
is_ready (parameters_read role flavour) want = is_fit want (behind_parameters flavour)
is_ready (parameter_read inline naming) want = is_fit want (parameter_read inline naming)
is_ready (parameter_declared naming) want = is_fit want (parameter_declared naming)
is_ready place want = true

-- the same of a place between tokens: there nothing waits for the next token to end a part
abbrev pub Rests : Place → Want → Type 0
Rests (declared inline flavour) want = ⊥
Rests (declarator_read role flavour) want = ⊥
Rests (parameters_read role flavour) want = ⊥
Rests (parameter_read inline naming) want = ⊥
Rests (parameter_declared naming) want = ⊥
Rests place want = Suits place want

pub rests_suits : (place : Place) (want : Want) → Rests place want → Suits place want
rests_suits (declared inline flavour) want r = elim r [ ]
rests_suits (declarator_read role flavour) want r = elim r [ ]
rests_suits (parameters_read role flavour) want r = elim r [ ]
rests_suits (parameter_read inline naming) want r = elim r [ ]
rests_suits (parameter_declared naming) want r = elim r [ ]
rests_suits (inside kind slots) want r = r
rests_suits _ want r = r

pub rests_ready : (place : Place) (want : Want) → Rests place want → is_ready place want ≡ true
rests_ready (declared inline flavour) want r = elim r [ ]
rests_ready (declarator_read role flavour) want r = elim r [ ]
rests_ready (parameters_read role flavour) want r = elim r [ ]
rests_ready (parameter_read inline naming) want r = elim r [ ]
rests_ready (parameter_declared naming) want r = elim r [ ]
rests_ready (inside kind slots) want r = refl
rests_ready _ want r = refl

-- a part may come back to a place
pub record Returns (place : Place) (inner outer : Want) : Type 0 where
  pub suits : (ended : Place) → Suits (back place ended) outer
  pub ready : (ended : Place) → IsTrue (is_fit inner ended) → IsTrue (is_ready (back place ended) outer)

pub record Around (place : Place) (inner : Want) (More : Want → Type 0) : Type 0 where
  pub outer : Want
  pub returns : Returns place inner outer
  pub more : More outer

pub record Within (place : Place) (outer : Want) (More : Want → Type 0) : Type 0 where
  pub inner : Want
  pub returns : Returns place inner outer
  pub more : More inner

abbrev pub Wanted : {A : Type 0} → List (Frame A) → Want → Type 0
Wanted [] want = Unit {0}
Wanted (inner ∷ frames) want = Around inner.place want (Wanted frames)

pub record IsWanted {A : Type 0} (inner : Frame A) (frames : List (Frame A)) : Type 0 where
  pub want : Want
  pub rests : Rests inner.place want
  pub around : Wanted frames want

abbrev pub AreWanted : {A : Type 0} → List (Frame A) → Type 0
AreWanted [] = ⊥
AreWanted (inner ∷ frames) = IsWanted inner frames

-- what begins, and what a move leads to
abbrev pub Opens : List Place → Place → Want → Type 0
Opens [] inner want = Rests inner want
Opens (place ∷ places) inner want = Within place want (Opens places inner)

abbrev pub Starts : Beginning → Want → Type 0
Starts no_beginning want = Unit {0}
Starts (begins places skipped inner) want = Opens places inner want

abbrev pub Leads : Want → Move → Type 0
Leads want (shifts behind) = Rests behind want
Leads want (enters behind beginning) = Within behind want (Starts beginning)
Leads want (takes behind inner) = Within behind want (Rests inner)
Leads want (skips other) = Leads want other
Leads want (finishes kind) = Unit {0}
Leads want passes = Unit {0}
Leads want fails = Unit {0}

-- ---- kept by each step

unfoldable pub AllLead : Type 0
AllLead = (coming : Terminal) (place : Place) (want : Want) → Suits place want → Leads want (move place coming)

abbrev pub Fair : {A : Type 0} → Outcome A → Type 0
Fair (machine.goes_on frames) = AreWanted frames
Fair (is_whole value) = Unit {0}
Fair is_wrong = Unit {0}

module _ {A : Type 0} (making : Making A) where
  opens_fair :
      (places : List Place) (inner : Place) (parts : List A) (frames : List (Frame A)) (want : Want) → Opens places inner want → Wanted frames want
      → AreWanted (frame inner parts ∷ nested places frames)
  opens_fair [] inner parts frames want s w = record { want = want; rests = s; around = w }
  opens_fair (place ∷ places) inner parts frames want s w =
      opens_fair places inner parts (frame place [] ∷ frames) s.inner s.more (record { outer = want; returns = s.returns; more = w })

  begun_fair :
      (beginning : Beginning) (token : A) (frames : List (Frame A)) (want : Want) → Starts beginning want → Wanted frames want
      → Fair (begun making beginning token frames)
  begun_fair no_beginning token frames want s w = tt
  begun_fair (begins places false inner) token frames want s w = opens_fair places inner (token ∷ []) frames want s w
  begun_fair (begins places true inner) token frames want s w = opens_fair places inner (making.of_nothing ∷ token ∷ []) frames want s w

  moved_fair :
      (place : Place) (parts : List A) (what : Move) (token : A) (frames : List (Frame A)) (ends : A → Outcome A) (want : Want)
      → Leads want what → Wanted frames want → ((value : A) → Fair (ends value)) → Fair (moved making place parts what token frames ends)
  moved_fair place parts (shifts behind) token frames ends want l w fair = record { want = want; rests = l; around = w }
  moved_fair place parts (enters behind beginning) token frames ends want l w fair =
      begun_fair beginning token (frame behind parts ∷ frames) l.inner l.more (record { outer = want; returns = l.returns; more = w })
  moved_fair place parts (takes behind inner) token frames ends want l w fair =
      record { want = l.inner; rests = l.more; around = record { outer = want; returns = l.returns; more = w } }
  moved_fair place parts (skips what) token frames ends want l w fair =
      moved_fair place (parts ++ making.of_nothing ∷ []) what token frames ends want l w fair
  moved_fair place parts (finishes kind) token frames ends want l w fair = fair (making.of_parts kind parts)
  moved_fair place parts passes token frames ends want l w fair = fair (alone making parts)
  moved_fair place parts fails token frames ends want l w fair = tt

  module _ (all_lead : AllLead) where
    arrives_fair :
        (kind : Terminal) (token value : A) (ended : Place) (frames : List (Frame A)) (want : Want) → Wanted frames want
        → Fair (arrives making kind token value ended frames)
    unfolding AllLead
    arrives_fair kind token value ended [] want w = tt
    arrives_fair kind token value ended (inner ∷ frames) want w =
        moved_fair (back inner.place ended) (inner.parts ++ value ∷ []) (move (back inner.place ended) kind) token frames
        (λ whole. arrives making kind token whole (back inner.place ended) frames) w.outer
        (all_lead kind (back inner.place ended) w.outer (w.returns.suits ended)) w.more
        (λ whole. arrives_fair kind token whole (back inner.place ended) frames w.outer w.more)

    pub outcome_fair : (kind : Terminal) (token : A) (frames : List (Frame A)) → AreWanted frames → Fair (outcome making kind token frames)
    unfolding AllLead
    outcome_fair kind token [] w = elim w [ ]
    outcome_fair kind token (inner ∷ frames) w =
        moved_fair inner.place inner.parts (move inner.place kind) token frames
        (λ whole. arrives making kind token whole inner.place frames) w.want
        (all_lead kind inner.place w.want (rests_suits inner.place w.want w.rests)) w.around
        (λ whole. arrives_fair kind token whole inner.place frames w.want w.around)
