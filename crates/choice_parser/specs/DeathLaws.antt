-- Proofs, no part of the definitions: which kinds of state are dead.
use Rattle.std.proofs.Common.{◌≡◌, ℕ, Bool, true, false, sym, ap, ◌∙◌}
use Rattle.std.specs.Bool.{if◌then◌else◌}
use Rattle.std.specs.declared.alloc.Global.{Global}
use Rattle.std.specs.Prelude.{Vec, Box}
use Rattle.cond_formula.specs.declared.formulas.Formula.{Formula}
use Rattle.cond_formula.specs.Conditions.{condition_of, value}
use Rattle.choice_trees.specs.declared.trees.Choice.{Choice}
use Rattle.choice_trees.specs.declared.trees.Item.{Item}
use Rattle.grammar_moves.specs.declared.places.Place.{Place}
use Rattle.choice_states.specs.declared.states.Closing.{Closing}
use Rattle.choice_states.specs.declared.states.State.{State, Dead, At, In, Closed, Unbegun, Taken, Split}
use Rattle.choice_states.specs.declared.states.State.TheVariants.{rolls-Dead, rolls-At, rolls-In, rolls-Closed, rolls-Unbegun, rolls-Taken, rolls-Split}
use Rattle.choice_states.specs.declared.states.State.TheFolds.{fold-roll-State}
use Rattle.choice_states.specs.declared.states.State.TheOpen as state
use Rattle.choice_parser.specs.Deaths.{Deaths, death_level, is_dead}

pub is_dead-Dead : (on : ℕ → Bool) → is_dead Dead on ≡ true
unfolding is_dead
is_dead-Dead on = ap (λ (d : Deaths). d on) (ap is_dead (sym rolls-Dead) ∙ fold-roll-State Deaths death_level state.Dead)

pub is_dead-At : (place : Place) (new : Bool) (on : ℕ → Bool) → is_dead (At place new) on ≡ false
unfolding is_dead
is_dead-At place new on = ap (λ (d : Deaths). d on) (ap is_dead (sym (rolls-At place new)) ∙ fold-roll-State Deaths death_level (state.At place new))

pub is_dead-In : (place : Place) (inner : Vec (Choice Item) Global) (rest : Box State Global) (on : ℕ → Bool) → is_dead (In place inner rest) on ≡ is_dead rest.value on
unfolding is_dead
is_dead-In place inner rest on = ap (λ (d : Deaths). d on) (ap is_dead (sym (rolls-In place inner rest)) ∙ fold-roll-State Deaths death_level (state.In place inner rest))

pub is_dead-Closed : (c : Closing) (on : ℕ → Bool) → is_dead (Closed c) on ≡ false
unfolding is_dead
is_dead-Closed c on = ap (λ (d : Deaths). d on) (ap is_dead (sym (rolls-Closed c)) ∙ fold-roll-State Deaths death_level (state.Closed c))

pub is_dead-Unbegun : (around : Place) (waits : Bool) (on : ℕ → Bool) → is_dead (Unbegun around waits) on ≡ false
unfolding is_dead
is_dead-Unbegun around waits on = ap (λ (d : Deaths). d on) (ap is_dead (sym (rolls-Unbegun around waits)) ∙ fold-roll-State Deaths death_level (state.Unbegun around waits))

pub is_dead-Taken : (behind second : Place) (on : ℕ → Bool) → is_dead (Taken behind second) on ≡ false
unfolding is_dead
is_dead-Taken behind second on = ap (λ (d : Deaths). d on) (ap is_dead (sym (rolls-Taken behind second)) ∙ fold-roll-State Deaths death_level (state.Taken behind second))

pub is_dead-Split : (f : Formula) (first second : Box State Global) (on : ℕ → Bool) → is_dead (Split f first second) on ≡ (if value on (condition_of f) then is_dead first.value on else is_dead second.value on)
unfolding is_dead
is_dead-Split f first second on = ap (λ (d : Deaths). d on) (ap is_dead (sym (rolls-Split f first second)) ∙ fold-roll-State Deaths death_level (state.Split f first second))

-- which kinds of state are dead
pub ruleset death_kinds = (is_dead-Dead, is_dead-At, is_dead-In, is_dead-Closed, is_dead-Unbegun, is_dead-Taken, is_dead-Split)
