-- Proofs, no part of the definitions: at which place one stands by each kind of state.
use Rattle.std.proofs.Common.{◌≡◌, ℕ, Bool, Some, None, sym, ap, ◌∙◌}
use Rattle.std.specs.Bool.{if◌then◌else◌}
use Rattle.std.specs.declared.alloc.Global.{Global}
use Rattle.std.specs.Prelude.{Vec, Box}
use Rattle.cond_formula.specs.declared.formulas.Formula.{Formula}
use Rattle.cond_formula.specs.Conditions.{condition_of, value}
use Rattle.grammar_moves.specs.declared.places.Place.{Place}
use Rattle.choice_trees.specs.declared.trees.Choice.{Choice}
use Rattle.choice_trees.specs.declared.trees.Item.{Item}
use Rattle.choice_states.specs.declared.states.Closing.{Closing}
use Rattle.choice_states.specs.declared.states.State.{State, Dead, At, In, Closed, Unbegun, Taken, Split}
use Rattle.choice_states.specs.declared.states.State.TheVariants.{rolls-Dead, rolls-At, rolls-In, rolls-Closed, rolls-Unbegun, rolls-Taken, rolls-Split}
use Rattle.choice_states.specs.declared.states.State.TheFolds.{fold-roll-State}
use Rattle.choice_states.specs.declared.states.State.TheOpen as state
use Rattle.choice_settling.specs.Leaving.{Spots, spot_level, spot_at}

pub spot_at-At : (place : Place) (new : Bool) (on : ℕ → Bool) → spot_at (At place new) on ≡ Some place
unfolding spot_at
spot_at-At place new on = ap (λ (s : Spots). s on) (ap spot_at (sym (rolls-At place new)) ∙ fold-roll-State Spots spot_level (state.At place new))

pub spot_at-Split : (f : Formula) (first second : Box State Global) (on : ℕ → Bool) → spot_at (Split f first second) on ≡ (if value on (condition_of f) then spot_at first.value on else spot_at second.value on)
unfolding spot_at
spot_at-Split f first second on = ap (λ (s : Spots). s on) (ap spot_at (sym (rolls-Split f first second)) ∙ fold-roll-State Spots spot_level (state.Split f first second))

pub spot_at-Dead : (on : ℕ → Bool) → spot_at Dead on ≡ None
unfolding spot_at
spot_at-Dead on = ap (λ (s : Spots). s on) (ap spot_at (sym rolls-Dead) ∙ fold-roll-State Spots spot_level state.Dead)

pub spot_at-In : (place : Place) (inner : Vec (Choice Item) Global) (rest : Box State Global) (on : ℕ → Bool) → spot_at (In place inner rest) on ≡ None
unfolding spot_at
spot_at-In place inner rest on = ap (λ (s : Spots). s on) (ap spot_at (sym (rolls-In place inner rest)) ∙ fold-roll-State Spots spot_level (state.In place inner rest))

pub spot_at-Closed : (c : Closing) (on : ℕ → Bool) → spot_at (Closed c) on ≡ None
unfolding spot_at
spot_at-Closed c on = ap (λ (s : Spots). s on) (ap spot_at (sym (rolls-Closed c)) ∙ fold-roll-State Spots spot_level (state.Closed c))

pub spot_at-Unbegun : (around : Place) (waits : Bool) (on : ℕ → Bool) → spot_at (Unbegun around waits) on ≡ None
unfolding spot_at
spot_at-Unbegun around waits on = ap (λ (s : Spots). s on) (ap spot_at (sym (rolls-Unbegun around waits)) ∙ fold-roll-State Spots spot_level (state.Unbegun around waits))

pub spot_at-Taken : (behind second : Place) (on : ℕ → Bool) → spot_at (Taken behind second) on ≡ None
unfolding spot_at
spot_at-Taken behind second on = ap (λ (s : Spots). s on) (ap spot_at (sym (rolls-Taken behind second)) ∙ fold-roll-State Spots spot_level (state.Taken behind second))

-- at which place one stands, if at one
pub ruleset spot_kinds = (spot_at-Dead, spot_at-At, spot_at-In, spot_at-Closed, spot_at-Unbegun, spot_at-Taken, spot_at-Split)
