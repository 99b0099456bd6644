-- Proofs, no part of the definitions: how one stands by each kind of state.
use Rattle.std.proofs.Common.{◌≡◌, ℕ, Bool, false, sym, ap, ◌∙◌}
use Rattle.std.specs.Bool.{if◌then◌else◌}
use Rattle.std.specs.declared.alloc.Global.{Global}
use Rattle.std.specs.Prelude.{Vec, Box}
use Rattle.cond_formula.specs.declared.formulas.Formula.{Formula}
use Rattle.cond_formula.specs.Conditions.{condition_of, value}
use Rattle.choice_trees.specs.declared.trees.Choice.{Choice}
use Rattle.choice_trees.specs.declared.trees.Item.{Item}
use Rattle.grammar_moves.specs.declared.places.Place.{Place}
use Rattle.grammar_moves.specs.PlainPlaces.{plain_place}
use Rattle.choice_states.specs.declared.states.Closing.{Closing}
use Rattle.choice_states.specs.declared.states.State.{State, Dead, At, In, Closed, Unbegun, Taken, Split}
use Rattle.choice_states.specs.declared.states.State.TheVariants.{rolls-Dead, rolls-At, rolls-In, rolls-Closed, rolls-Unbegun, rolls-Taken, rolls-Split}
use Rattle.choice_states.specs.declared.states.State.TheFolds.{fold-roll-State}
use Rattle.choice_states.specs.declared.states.State.TheOpen as state
use Rattle.choice_states.specs.declared.states.After.{After}
use Rattle.choice_states.specs.declared.states.After.TheVariants as after_variant
use Rattle.choice_states.specs.declared.states.After.TheFolds.{fold-roll-After}
use Rattle.choice_states.specs.declared.states.After.TheOpen as after
use Rattle.choice_states.specs.Seen.{Parts, choice_seen, seen_in}
use Rattle.choice_states.specs.States.{Stands, Becomes, dead, at_place, within, arrived, closed, unbegun, taken, open_node, state_level, standing, after_level, becoming, Owes, owes_level, owes}

pub standing-Dead : (on : ℕ → Bool) (parts : Parts) → standing Dead on parts ≡ dead
unfolding standing
standing-Dead on parts = ap (λ (s : Stands). s on parts) (ap standing (sym rolls-Dead) ∙ fold-roll-State Stands state_level state.Dead)

pub standing-At : (place : Place) (new : Bool) (on : ℕ → Bool) (parts : Parts) → standing (At place new) on parts ≡ at_place (plain_place place) parts
unfolding standing
standing-At place new on parts =
    ap (λ (s : Stands). s on parts) (ap standing (sym (rolls-At place new)) ∙ fold-roll-State Stands state_level (state.At place new))

pub standing-In :
    (place : Place) (inner : Vec (Choice Item) Global) (rest : Box State Global) (on : ℕ → Bool) (parts : Parts)
    → standing (In place inner rest) on parts ≡ within (plain_place place) (standing rest.value on (seen_in on inner.items)) parts
unfolding standing
standing-In place inner rest on parts =
    ap (λ (s : Stands). s on parts) (ap standing (sym (rolls-In place inner rest)) ∙ fold-roll-State Stands state_level (state.In place inner rest))

pub standing-Closed : (c : Closing) (on : ℕ → Bool) (parts : Parts) → standing (Closed c) on parts ≡ closed c.kind (plain_place c.ended) parts
unfolding standing
standing-Closed c on parts =
    ap (λ (s : Stands). s on parts) (ap standing (sym (rolls-Closed c)) ∙ fold-roll-State Stands state_level (state.Closed c))

pub standing-Unbegun : (around : Place) (waits : Bool) (on : ℕ → Bool) (parts : Parts) → standing (Unbegun around waits) on parts ≡ unbegun (plain_place around)
unfolding standing
standing-Unbegun around waits on parts =
    ap (λ (s : Stands). s on parts) (ap standing (sym (rolls-Unbegun around waits)) ∙ fold-roll-State Stands state_level (state.Unbegun around waits))

pub standing-Taken :
    (behind second : Place) (on : ℕ → Bool) (parts : Parts)
    → standing (Taken behind second) on parts ≡ taken (plain_place behind) (plain_place second) parts
unfolding standing
standing-Taken behind second on parts =
    ap (λ (s : Stands). s on parts) (ap standing (sym (rolls-Taken behind second)) ∙ fold-roll-State Stands state_level (state.Taken behind second))

pub standing-Split :
    (f : Formula) (first second : Box State Global) (on : ℕ → Bool) (parts : Parts)
    → standing (Split f first second) on parts ≡ (if value on (condition_of f) then standing first.value on parts else standing second.value on parts)
unfolding standing
standing-Split f first second on parts =
    ap (λ (s : Stands). s on parts) (ap standing (sym (rolls-Split f first second)) ∙ fold-roll-State Stands state_level (state.Split f first second))

-- how one stands by each kind of state
pub ruleset state_kinds = (standing-Dead, standing-At, standing-In, standing-Closed, standing-Unbegun, standing-Taken, standing-Split)

pub becoming-Open :
    (parts : Vec (Choice Item) Global) (rest : Box State Global) (on : ℕ → Bool)
    → becoming (after_variant.Open parts rest) on ≡ open_node (standing rest.value on (seen_in on parts.items))
unfolding becoming
becoming-Open parts rest on =
    ap (λ (b : Becomes). b on) (ap becoming (sym (after_variant.rolls-Open parts rest)) ∙ fold-roll-After Becomes after_level (after.Open parts rest))

pub becoming-Whole :
    (part : Choice Item) (ended : Place) (on : ℕ → Bool)
    → becoming (after_variant.Whole part ended) on ≡ arrived (choice_seen on part) (plain_place ended)
unfolding becoming
becoming-Whole part ended on =
    ap (λ (b : Becomes). b on) (ap becoming (sym (after_variant.rolls-Whole part ended)) ∙ fold-roll-After Becomes after_level (after.Whole part ended))

pub becoming-Unbegun : (around : Place) (on : ℕ → Bool) → becoming (after_variant.Unbegun around) on ≡ unbegun (plain_place around)
unfolding becoming
becoming-Unbegun around on =
    ap (λ (b : Becomes). b on) (ap becoming (sym (after_variant.rolls-Unbegun around)) ∙ fold-roll-After Becomes after_level (after.Unbegun around))

pub becoming-Dead : (on : ℕ → Bool) → becoming after_variant.Dead on ≡ dead
unfolding becoming
becoming-Dead on = ap (λ (b : Becomes). b on) (ap becoming (sym after_variant.rolls-Dead) ∙ fold-roll-After Becomes after_level after.Dead)

pub becoming-Split :
    (f : Formula) (first second : Box After Global) (on : ℕ → Bool)
    → becoming (after_variant.Split f first second) on ≡ (if value on (condition_of f) then becoming first.value on else becoming second.value on)
unfolding becoming
becoming-Split f first second on =
    ap (λ (b : Becomes). b on) (ap becoming (sym (after_variant.rolls-Split f first second)) ∙ fold-roll-After Becomes after_level (after.Split f first second))

-- how one stands by each kind of what becomes of a node
pub ruleset after_kinds = (becoming-Open, becoming-Whole, becoming-Unbegun, becoming-Dead, becoming-Split)

-- ---- what has to leave a node

pub owes-Dead : (on : ℕ → Bool) → owes Dead on ≡ false
unfolding owes
owes-Dead on = ap (λ (o : Owes). o on) (ap owes (sym rolls-Dead) ∙ fold-roll-State Owes owes_level state.Dead)

pub owes-At : (place : Place) (new : Bool) (on : ℕ → Bool) → owes (At place new) on ≡ false
unfolding owes
owes-At place new on = ap (λ (o : Owes). o on) (ap owes (sym (rolls-At place new)) ∙ fold-roll-State Owes owes_level (state.At place new))

pub owes-In : (place : Place) (inner : Vec (Choice Item) Global) (rest : Box State Global) (on : ℕ → Bool) → owes (In place inner rest) on ≡ false
unfolding owes
owes-In place inner rest on = ap (λ (o : Owes). o on) (ap owes (sym (rolls-In place inner rest)) ∙ fold-roll-State Owes owes_level (state.In place inner rest))

pub owes-Closed : (c : Closing) (on : ℕ → Bool) → owes (Closed c) on ≡ c.waited_for
unfolding owes
owes-Closed c on = ap (λ (o : Owes). o on) (ap owes (sym (rolls-Closed c)) ∙ fold-roll-State Owes owes_level (state.Closed c))

pub owes-Unbegun : (around : Place) (waits : Bool) (on : ℕ → Bool) → owes (Unbegun around waits) on ≡ waits
unfolding owes
owes-Unbegun around waits on = ap (λ (o : Owes). o on) (ap owes (sym (rolls-Unbegun around waits)) ∙ fold-roll-State Owes owes_level (state.Unbegun around waits))

pub owes-Taken : (behind second : Place) (on : ℕ → Bool) → owes (Taken behind second) on ≡ false
unfolding owes
owes-Taken behind second on = ap (λ (o : Owes). o on) (ap owes (sym (rolls-Taken behind second)) ∙ fold-roll-State Owes owes_level (state.Taken behind second))

pub owes-Split : (f : Formula) (first second : Box State Global) (on : ℕ → Bool)
    → owes (Split f first second) on ≡ (if value on (condition_of f) then owes first.value on else owes second.value on)
unfolding owes
owes-Split f first second on = ap (λ (o : Owes). o on) (ap owes (sym (rolls-Split f first second)) ∙ fold-roll-State Owes owes_level (state.Split f first second))

-- what has to leave a node, by each kind of state
pub ruleset owed_kinds = (owes-Dead, owes-At, owes-In, owes-Closed, owes-Unbegun, owes-Taken, owes-Split)
