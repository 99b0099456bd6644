-- A list of declarators is gone through as it is judged.
use Rattle.std.proofs.Common.{◌≡◌, ℕ, Bool, true, false, ◌||◌, List, [], ◌∷◌, refl, sym, ap, ◌∙◌, subst, if◌then◌else◌}
use Rattle.std.specs.Prelude.{⊤}
use Rattle.std.proofs.lemmas.Bool.{false≢true}
use Rattle.conditional.specs.Judgements as judgements
use Rattle.conditional.specs.declared.outcomes.Outcomes.{Outcomes}
use Rattle.c_types.specs.Types.{PlainType}
use Rattle.c_tree.specs.Trees.{PlainTrees}
use Rattle.c_tree.specs.Grammar.{Role, local}
use Rattle.tree_derivations.specs.Derivations as derivations
use Rattle.tree_derivations.specs.Derivations.{last_plain, last_initialised, next_plain, next_initialised}
use Rattle.core_meaning.specs.Checking.{Checked, fine, refused, broken, ◌>>=◌, give}
use Rattle.core_meaning.specs.Entities.{Struct, Scope}
use Rattle.core_meaning.specs.Declarations.{Locals, one_local, locals_from}
use Rattle.operand_types.specs.OperandTypes.{renumbered}
use Rattle.operand_rules.specs.declared.operands.Refused.{Refused}
use Rattle.choice_expansions.specs.Steps.{after_each}
use Rattle.declarator_lists.specs.Lists.{Declared, declared_in, trees_of}
use Rattle.declaration_readings.specs.Readings.{Going, after, goes_on, goes_through, IsSame, Slots, slots_of, next_local, all_locals}
use Rattle.declaration_readings.specs.Laws.{LocalsAreRead}
use Rattle.declaration_readings.proofs.Lists.{one_alone, one_before, value_alone, value_before}
use Rattle.type_tables.specs.Tables.{Tables}
use Rattle.type_tables.specs.declared.entries.DeclaredType.{DeclaredType}
use Rattle.type_tables.specs.Follows.{IsThere}
use Rattle.type_tables.specs.Numbers.{FollowsInBlockBy}
use Rattle.cond_declarators.specs.Types.{ShowsType}
use Rattle.conditional_steps.specs.Here.{Here}
use Rattle.cond_locals.specs.Declaring.{IsInitialiser, GoesOn, Declares}
use Rattle.conditional_steps.proofs.Alternatives.{or_nothing}

-- ---- the initialisers of a derived list

abbrev pub AreInitialisers : List Declared → Type 0
AreInitialisers [] = ⊤
AreInitialisers (d ∷ others) = IsInitialiser d.initialiser × AreInitialisers others

pub are_initialisers : {role : Role} {parts : PlainTrees} → derivations.Declared role parts → AreInitialisers (declared_in (trees_of parts))
are_initialisers (last_plain d) = subst AreInitialisers (sym (one_alone d)) (tt, tt)
are_initialisers (last_initialised {sign = sign} m d w v) = subst AreInitialisers (sym (value_alone d sign w v)) (v, tt)
are_initialisers (next_plain {comma = comma} {rest = rest} d w others) = subst AreInitialisers (sym (one_before d comma rest w)) (tt, are_initialisers others)
are_initialisers (next_initialised {sign = sign} {comma = comma} {rest = rest} m d w v x others) = subst AreInitialisers (sym (value_before d sign w v comma rest)) (v, are_initialisers others)

-- ---- one declarator more

module _ (by : ℕ → ℕ) (structs : List Struct) where
  -- how far the judgement has come that the tables and the condition follow
  pub record IsAt (t : Tables) (r : Bool) (g : Going Slots) : Type 0 where
    pub refused_is : r ≡ g.refused
    pub follows : g.refused ≡ false → FollowsInBlockBy by t g.state.scope
    pub structs_are : g.refused ≡ false → g.state.scope.structs ≡ structs

  begins : (t : Tables) (s : Slots) → FollowsInBlockBy by t s.scope → s.scope.structs ≡ structs → (r : Bool) → r ≡ false → IsAt t r (record { state = s; refused = false })
  begins t s f is r accepted = record { refused_is = accepted; follows = λ h. f; structs_are = λ h. is }

  still_refused : (new : Tables) (later : Bool) (g : Going Slots) (c : Checked Slots) → g.refused ≡ true → later ≡ true → IsAt new later (after g c)
  still_refused new later g (fine s bindings) h is = record { refused_is = is ∙ sym h; follows = λ e. absurd (false≢true (sym e ∙ h)); structs_are = λ e. absurd (false≢true (sym e ∙ h)) }
  still_refused new later g (refused kind token) h is = record { refused_is = is; follows = λ e. absurd (false≢true (sym e)); structs_are = λ e. absurd (false≢true (sym e)) }
  still_refused new later g broken h is = record { refused_is = is; follows = λ e. absurd (false≢true (sym e)); structs_are = λ e. absurd (false≢true (sym e)) }

  one_more : (new : Tables) (r : Bool) (g : Going Slots) (c : Checked Locals) → g.refused ≡ false → GoesOn by structs c r new → IsAt new r (after g (c >>= (λ locals. give (slots_of locals))))
  one_more new r g (fine locals bindings) h comes = record { refused_is = comes.0 ∙ sym h; follows = λ e. comes.1; structs_are = λ e. comes.2 }
  one_more new r g (refused kind token) h comes = record { refused_is = comes; follows = λ e. absurd (false≢true (sym e)); structs_are = λ e. absurd (false≢true (sym e)) }
  one_more new r g broken h comes = record { refused_is = comes; follows = λ e. absurd (false≢true (sym e)); structs_are = λ e. absurd (false≢true (sym e)) }

  -- the judgement of a whole list, one declarator after the other
  pub all_come : (t : Tables) (r : Bool) (first g : Going Slots) (c : Checked Locals) → first.refused ≡ false → IsAt t r g → IsSame g (after first (c >>= (λ locals. give (slots_of locals)))) → GoesOn by structs c r t
  all_come t r first g (fine locals bindings) accepted at same =
      let done : g.refused ≡ false = same.refused ∙ accepted in
      (at.refused_is ∙ done, subst (λ (s : Slots). FollowsInBlockBy by t s.scope) (same.state accepted) (at.follows done), sym (ap (λ (s : Slots). s.scope.structs) (same.state accepted)) ∙ at.structs_are done)
  all_come t r first g (refused kind token) accepted at same = at.refused_is ∙ same.refused
  all_come t r first g broken accepted at same = at.refused_is ∙ same.refused

  module _ (on : ℕ → Bool) (base : Outcomes DeclaredType Refused) (ty : PlainType) (there : IsThere structs ty) (shown : ShowsType on (judgements.fine (renumbered by ty)) base) where
    -- what comes of one declarator, where nothing was refused before
    came : (s : Slots) (d : Declared) (old new : Tables) (found : Bool) → FollowsInBlockBy by old s.scope → s.scope.structs ≡ structs → IsInitialiser d.initialiser
        → Declares on base (λ scope slots ty. one_local scope slots ty d.declarator d.initialiser) (λ scope. IsInitialiser d.initialiser) old new found
        → GoesOn by structs (one_local s.scope s.slots ty d.declarator d.initialiser) found new
    came s d old new found f is derived declares =
        subst (λ (others : List Struct). GoesOn by others (one_local s.scope s.slots ty d.declarator d.initialiser) found new) is
        (subst (λ (other : ℕ → ℕ). GoesOn other s.scope.structs (one_local s.scope s.slots ty d.declarator d.initialiser) found new) f.numbers
        (declares.goes_on s.scope s.slots ty f.follows (subst (λ (others : List Struct). IsThere others ty) (sym is) there)
        (subst (λ (other : ℕ → ℕ). ShowsType on (judgements.fine (renumbered other ty)) base) (sym f.numbers) shown) derived))

    gone_on : (d : Declared) (g : Going Slots) (old new : Tables) (earlier found later : Bool) → later ≡ (earlier || found) → IsInitialiser d.initialiser
        → Declares on base (λ scope slots ty. one_local scope slots ty d.declarator d.initialiser) (λ scope. IsInitialiser d.initialiser) old new found
        → IsAt old earlier g → IsAt new later (goes_on (next_local ty) g d)
    gone_on d g old new earlier found later either derived declares at = by_flag g.refused refl
      where
        by_flag : (b : Bool) → g.refused ≡ b → IsAt new later (goes_on (next_local ty) g d)
        by_flag true h = still_refused new later g (next_local ty g.state d) h (either ∙ ap (λ (b : Bool). b || found) (at.refused_is ∙ h))
        by_flag false h =
            subst (λ (b : Bool). IsAt new b (goes_on (next_local ty) g d)) (sym (either ∙ ap (λ (b : Bool). b || found) (at.refused_is ∙ h)))
            (one_more new found g (one_local g.state.scope g.state.slots ty d.declarator d.initialiser) h
            (came g.state d old new found (at.follows h) (at.structs_are h) derived declares))

    -- the rest of the list makes of this state what the list makes of the first one
    pub record WalksTo (whole : Going Slots) (rest : List Declared) (t : Tables) (r : Bool) : Type 0 where
      pub now : Going Slots
      pub at : IsAt t r now
      pub rest_is : after_each (goes_on (next_local ty)) now rest ≡ whole
      pub initialised : AreInitialisers rest

    pub walk_begins : (t : Tables) (s : Slots) (r : Bool) (list : List Declared) → FollowsInBlockBy by t s.scope → s.scope.structs ≡ structs → r ≡ false → AreInitialisers list
        → WalksTo (after_each (goes_on (next_local ty)) (record { state = s; refused = false }) list) list t r
    walk_begins t s r list f is accepted derived = record { now = record { state = s; refused = false }; at = begins t s f is r accepted; rest_is = refl; initialised = derived }

    pub walk_goes_on :
        (whole : Going Slots) (d : Declared) (here : Bool) (before rest : List Declared) (old new : Tables) (earlier found later : Bool)
        → before ≡ (if here then d ∷ rest else rest) → later ≡ (earlier || found)
        → Here here (Declares on base (λ scope slots ty. one_local scope slots ty d.declarator d.initialiser) (λ scope. IsInitialiser d.initialiser)) old new found
        → WalksTo whole before old earlier → WalksTo whole rest new later
    walk_goes_on whole d true before rest old new earlier found later is either does w =
        let ready = subst AreInitialisers is w.initialised in
        record {
          now = goes_on (next_local ty) w.now d;
          at = gone_on d w.now old new earlier found later either ready.0 (does.does refl) w.at;
          rest_is = ap (after_each (goes_on (next_local ty)) w.now) (sym is) ∙ w.rest_is;
          initialised = ready.1;
        }
    walk_goes_on whole d false before rest old new earlier found later is either does w =
        let none = does.elsewhere refl in
        record {
          now = w.now;
          at = subst (λ (b : Bool). IsAt new b w.now) (sym (either ∙ or_nothing earlier found none.1)) (subst (λ (t : Tables). IsAt t earlier w.now) (sym none.0) w.at);
          rest_is = ap (after_each (goes_on (next_local ty)) w.now) (sym is) ∙ w.rest_is;
          initialised = subst AreInitialisers is w.initialised;
        }

    pub walk_ends : (law : LocalsAreRead) (scope : Scope) (slots : List PlainType) (list : PlainTrees) (t : Tables) (r : Bool) → derivations.Declared local list
        → WalksTo (goes_through (next_local ty) (record { state = record { scope = scope; slots = slots }; refused = false }) list) [] t r
        → GoesOn by structs (locals_from scope slots ty list) r t
    walk_ends law scope slots list t r derived w =
        let first : Going Slots = record { state = record { scope = scope; slots = slots }; refused = false } in
        all_come t r first w.now (locals_from scope slots ty list) refl w.at
        (subst (λ (g : Going Slots). IsSame g (after first (all_locals ty first.state list))) (sym w.rest_is) (law ty first local list derived))
