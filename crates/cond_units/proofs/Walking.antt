-- A list of declarators is gone through as it is judged.
use Rattle.std.proofs.Common.{◌≡◌, ℕ, Bool, true, false, ◌||◌, List, [], ◌∷◌, refl, sym, ap, ◌∙◌, subst, if◌then◌else◌}
use Rattle.std.specs.Prelude.{⊤}
use Rattle.std.proofs.lemmas.Bool.{false≢true}
use Rattle.conditional.specs.Judgements as judgements
use Rattle.conditional.specs.declared.outcomes.Outcomes.{Outcomes}
use Rattle.c_types.specs.Types.{PlainType}
use Rattle.c_tree.specs.Trees.{PlainTrees}
use Rattle.c_tree.specs.Grammar.{Role}
use Rattle.tree_derivations.specs.Derivations as derivations
use Rattle.tree_derivations.specs.Derivations.{last_plain, last_initialised, next_plain, next_initialised}
use Rattle.core_meaning.specs.Checking.{Checked, fine, refused, broken}
use Rattle.core_meaning.specs.Entities.{Struct}
use Rattle.core_meaning.specs.UnitNames.{Storage, UnitState, declared_from}
use Rattle.operand_types.specs.OperandTypes.{renumbered}
use Rattle.operand_rules.specs.declared.operands.Refused.{Refused}
use Rattle.choice_expansions.specs.Steps.{after_each}
use Rattle.conditional_steps.proofs.Alternatives.{or_nothing}
use Rattle.declarator_lists.specs.Lists.{Declared, declared_in, trees_of}
use Rattle.declaration_readings.specs.Readings.{Going, after, goes_on, goes_through, IsSame, next_name}
use Rattle.declaration_readings.specs.Laws.{NamesAreRead}
use Rattle.declaration_readings.proofs.Lists.{one_alone, one_before, value_alone, value_before}
use Rattle.type_tables.specs.declared.entries.DeclaredType.{DeclaredType}
use Rattle.type_tables.specs.Follows.{IsThere}
use Rattle.cond_declarators.specs.Types.{ShowsType}
use Rattle.cond_units.specs.Seen.{SeenUnit}
use Rattle.cond_units.specs.Declaring.{IsUnit, GoesOn, Declares}
use Rattle.cond_units.specs.Where.{Where}
use Rattle.cond_units.specs.Names.{one_name, IsReady}

-- ---- what is derived of a list

abbrev pub AreReady : Role → List Declared → Type 0
AreReady role [] = ⊤
AreReady role (d ∷ others) = IsReady role d × AreReady role others

pub are_ready : {role : Role} {parts : PlainTrees} → derivations.Declared role parts → AreReady role (declared_in (trees_of parts))
are_ready {role} (last_plain d) = subst (AreReady role) (sym (one_alone d)) (record { declares = d; initialised = tt }, tt)
are_ready {role} (last_initialised {sign = sign} m d w v) = subst (AreReady role) (sym (value_alone d sign w v)) (record { declares = d; initialised = v }, tt)
are_ready {role} (next_plain {comma = comma} {rest = rest} d w others) = subst (AreReady role) (sym (one_before d comma rest w)) (record { declares = d; initialised = tt }, are_ready others)
are_ready {role} (next_initialised {sign = sign} {comma = comma} {rest = rest} m d w v x others) =
    subst (AreReady role) (sym (value_before d sign w v comma rest)) (record { declares = d; initialised = v }, are_ready others)

-- ---- one declarator more

module _ (by : ℕ → ℕ) (structs : List Struct) where
  -- how far the judgement has come that the unit and the condition follow
  pub record IsAt (s : SeenUnit) (r : Bool) (g : Going UnitState) : Type 0 where
    pub refused_is : r ≡ g.refused
    pub is_unit : g.refused ≡ false → IsUnit by s g.state
    pub structs_are : g.refused ≡ false → g.state.scope.structs ≡ structs

  still_refused : (new : SeenUnit) (later : Bool) (g : Going UnitState) (c : Checked UnitState) → g.refused ≡ true → later ≡ true → IsAt new later (after g c)
  still_refused new later g (fine s bindings) h is = record { refused_is = is ∙ sym h; is_unit = λ e. absurd (false≢true (sym e ∙ h)); structs_are = λ e. absurd (false≢true (sym e ∙ h)) }
  still_refused new later g (refused kind token) h is = record { refused_is = is; is_unit = λ e. absurd (false≢true (sym e)); structs_are = λ e. absurd (false≢true (sym e)) }
  still_refused new later g broken h is = record { refused_is = is; is_unit = λ e. absurd (false≢true (sym e)); structs_are = λ e. absurd (false≢true (sym e)) }

  one_more : (new : SeenUnit) (r : Bool) (g : Going UnitState) (c : Checked UnitState) → g.refused ≡ false → GoesOn by structs c r new → IsAt new r (after g c)
  one_more new r g (fine unit bindings) h comes = record { refused_is = comes.0 ∙ sym h; is_unit = λ e. comes.1; structs_are = λ e. comes.2 }
  one_more new r g (refused kind token) h comes = record { refused_is = comes; is_unit = λ e. absurd (false≢true (sym e)); structs_are = λ e. absurd (false≢true (sym e)) }
  one_more new r g broken h comes = record { refused_is = comes; is_unit = λ e. absurd (false≢true (sym e)); structs_are = λ e. absurd (false≢true (sym e)) }

  -- the judgement of a whole list, one declarator after the other
  all_come : (s : SeenUnit) (r : Bool) (first g : Going UnitState) (c : Checked UnitState) → first.refused ≡ false → IsAt s r g → IsSame g (after first c) → GoesOn by structs c r s
  all_come s r first g (fine unit bindings) accepted at same =
      let done : g.refused ≡ false = same.refused ∙ accepted in
      (at.refused_is ∙ done, subst (λ (u : UnitState). IsUnit by s u) (same.state accepted) (at.is_unit done), sym (ap (λ (u : UnitState). u.scope.structs) (same.state accepted)) ∙ at.structs_are done)
  all_come s r first g (refused kind token) accepted at same = at.refused_is ∙ same.refused
  all_come s r first g broken accepted at same = at.refused_is ∙ same.refused

  module _ (on : ℕ → Bool) (base : Outcomes DeclaredType Refused) (globals : ℕ) (storage : Storage) (rest : PlainTrees) (role : Role)
      (ty : PlainType) (there : IsThere structs ty) (shown : ShowsType on (judgements.fine (renumbered by ty)) base) where
    -- what comes of one declarator, where nothing was refused before
    came : (unit : UnitState) (d : Declared) (old new : SeenUnit) (found : Bool) → IsUnit by old unit → unit.scope.structs ≡ structs → IsReady role d
        → Declares on base (one_name globals storage rest d) (IsReady role d) old new found → GoesOn by structs (next_name globals storage ty rest unit d) found new
    came unit d old new found u is ready declares =
        subst (λ (others : List Struct). GoesOn by others (next_name globals storage ty rest unit d) found new) is
        (declares.goes_on by unit ty u (subst (λ (others : List Struct). IsThere others ty) (sym is) there) shown ready)

    gone_on : (d : Declared) (g : Going UnitState) (old new : SeenUnit) (earlier found later : Bool) → later ≡ (earlier || found) → IsReady role d
        → Declares on base (one_name globals storage rest d) (IsReady role d) old new found
        → IsAt old earlier g → IsAt new later (goes_on (next_name globals storage ty rest) g d)
    gone_on d g old new earlier found later either ready declares at = by_flag g.refused refl
      where
        by_flag : (b : Bool) → g.refused ≡ b → IsAt new later (goes_on (next_name globals storage ty rest) g d)
        by_flag true h = still_refused new later g (next_name globals storage ty rest g.state d) h (either ∙ ap (λ (b : Bool). b || found) (at.refused_is ∙ h))
        by_flag false h =
            subst (λ (b : Bool). IsAt new b (goes_on (next_name globals storage ty rest) g d)) (sym (either ∙ ap (λ (b : Bool). b || found) (at.refused_is ∙ h)))
            (one_more new found g (next_name globals storage ty rest g.state d) h (came g.state d old new found (at.is_unit h) (at.structs_are h) ready declares))

    -- the rest of the list makes of this state what the list makes of the first one
    pub record WalksTo (whole : Going UnitState) (others : List Declared) (s : SeenUnit) (r : Bool) : Type 0 where
      pub now : Going UnitState
      pub at : IsAt s r now
      pub rest_is : after_each (goes_on (next_name globals storage ty rest)) now others ≡ whole
      pub ready : AreReady role others

    pub walk_begins : (s : SeenUnit) (unit : UnitState) (r : Bool) (list : List Declared) → IsUnit by s unit → unit.scope.structs ≡ structs → r ≡ false → AreReady role list
        → WalksTo (after_each (goes_on (next_name globals storage ty rest)) (record { state = unit; refused = false }) list) list s r
    walk_begins s unit r list u is accepted derived =
        record { now = record { state = unit; refused = false }; at = record { refused_is = accepted; is_unit = λ h. u; structs_are = λ h. is }; rest_is = refl; ready = derived }

    pub walk_goes_on :
        (whole : Going UnitState) (d : Declared) (here : Bool) (before others : List Declared) (old new : SeenUnit) (earlier found later : Bool)
        → before ≡ (if here then d ∷ others else others) → later ≡ (earlier || found)
        → Where here (Declares on base (one_name globals storage rest d) (IsReady role d)) old new found
        → WalksTo whole before old earlier → WalksTo whole others new later
    walk_goes_on whole d true before others old new earlier found later is either does w =
        let ready = subst (AreReady role) is w.ready in
        record {
          now = goes_on (next_name globals storage ty rest) w.now d;
          at = gone_on d w.now old new earlier found later either ready.0 (does.does refl) w.at;
          rest_is = ap (after_each (goes_on (next_name globals storage ty rest)) w.now) (sym is) ∙ w.rest_is;
          ready = ready.1;
        }
    walk_goes_on whole d false before others old new earlier found later is either does w =
        let none = does.elsewhere refl in
        record {
          now = w.now;
          at = record {
            refused_is = either ∙ (or_nothing earlier found none.1 ∙ w.at.refused_is);
            is_unit = λ h. none.0.stays by w.now.state (w.at.is_unit h);
            structs_are = λ h. w.at.structs_are h;
          };
          rest_is = ap (after_each (goes_on (next_name globals storage ty rest)) w.now) (sym is) ∙ w.rest_is;
          ready = subst (AreReady role) is w.ready;
        }

    pub walk_ends : (law : NamesAreRead) (unit : UnitState) (list : PlainTrees) (s : SeenUnit) (r : Bool) → derivations.Declared role list
        → WalksTo (goes_through (next_name globals storage ty rest) (record { state = unit; refused = false }) list) [] s r
        → GoesOn by structs (declared_from globals unit storage ty list rest) r s
    walk_ends law unit list s r derived w =
        let first : Going UnitState = record { state = unit; refused = false } in
        all_come s r first w.now (declared_from globals unit storage ty list rest) refl w.at
        (subst (λ (g : Going UnitState). IsSame g (after first (declared_from globals unit storage ty list rest))) (sym w.rest_is) (law globals storage ty rest first role list derived))
