-- Nodes that are left, and nodes in which one stays.
use Rattle.std.proofs.Common.{◌≡◌, ℕ, Bool, true, false, IsTrue, refl, sym, subst}
use Rattle.std.specs.Bool.{if◌then◌else◌}
use Rattle.std.specs.declared.alloc.Global.{Global}
use Rattle.std.specs.Prelude.{Vec, Box}
use Rattle.choice_trees.specs.declared.trees.Choice.{Choice}
use Rattle.choice_trees.specs.declared.trees.Item.{Item}
use Rattle.grammar_moves.specs.declared.places.Place.{Place}
use Rattle.choice_states.specs.declared.states.State.{State, In}
use Rattle.choice_states.specs.Seen.{Parts, seen_in}
use Rattle.choice_states.specs.StateLaws.{standing-In}
use Rattle.choice_states.specs.States.{standing, Stay, stays, leaves, takes, astray, stay_within, Standing, open_node, IsFinished, Finishes, MayStay}

left_so : (before : Stay) (owed : Bool) → before ≡ leaves → IsFinished before owed before
left_so stays owed is = absurd (cc is)
left_so leaves true is = refl
left_so leaves false is = tt
left_so takes owed is = absurd (cc is)
left_so astray owed is = tt

-- the node is left
pub finishes_left : (before after : Standing) (owed : Bool) → IsTrue before.fits → before.stay ≡ leaves → after ≡ before → Finishes before owed after
finishes_left before after owed fits left is =
    subst (λ now. Finishes before owed now) (sym is) (record { fit = fits; leads_are = λ frames kind token. refl; stay = left_so before.stay owed left; fit_in = λ behind fits_in. fits_in })

-- one stays in it
pub finishes_open : (before after : Standing) (owed : Bool) → IsTrue before.fits → MayStay before owed → after ≡ open_node before → Finishes before owed after
finishes_open before after owed fits may is =
    subst (λ now. Finishes before owed now) (sym is) (record { fit = fits; leads_are = λ frames kind token. refl; stay = may; fit_in = λ behind fits_in. fits_in })

pub may_stay_within : (inner : Stay) (owed : Bool) → IsFinished (stay_within inner) owed (stay_within (stay_within inner))
may_stay_within stays owed = refl
may_stay_within leaves owed = refl
may_stay_within takes owed = tt
may_stay_within astray owed = tt

pub may_stay_inside :
    (place : Place) (inner : Vec (Choice Item) Global) (rest : Box State Global) (on : ℕ → Bool) (parts : Parts) (owed : Bool)
    → MayStay (standing (In place inner rest) on parts) owed
may_stay_inside place inner rest on parts owed =
    subst (λ s. MayStay s owed) (sym (standing-In place inner rest on parts)) (may_stay_within (standing rest.value on (seen_in on inner.items)).stay owed)

-- one alternative of two
pub finishes_split :
    (b : Bool) (before first second : Standing) (owed owed_first owed_second : Bool) (after after_first after_second : Standing)
    → before ≡ (if b then first else second) → owed ≡ (if b then owed_first else owed_second) → after ≡ (if b then after_first else after_second)
    → (IsTrue b → IsTrue first.fits → Finishes first owed_first after_first) → (b ≡ false → IsTrue second.fits → Finishes second owed_second after_second)
    → IsTrue before.fits → Finishes before owed after
finishes_split true before first second owed owed_first owed_second after after_first after_second w o a f s fits =
    subst (λ x. Finishes x owed after) (sym w) (subst (λ x. Finishes first x after) (sym o) (subst (λ x. Finishes first owed_first x) (sym a)
    (f refl (subst (λ (x : Standing). IsTrue x.fits) w fits))))
finishes_split false before first second owed owed_first owed_second after after_first after_second w o a f s fits =
    subst (λ x. Finishes x owed after) (sym w) (subst (λ x. Finishes second x after) (sym o) (subst (λ x. Finishes second owed_second x) (sym a)
    (s refl (subst (λ (x : Standing). IsTrue x.fits) w fits))))
