-- The parts that a node has fit what a token does behind them.
use Rattle.std.proofs.Common.{◌≡◌, ℕ, Bool, true, false, ◌&&◌, List, [], ◌∷◌, Some, None, IsTrue, refl, ◌∙◌}
use Rattle.c_tree.specs.declared.kinds.Kind.{Kind}
use Rattle.c_tree.specs.declared.terminals.Terminal.{Terminal}
use Rattle.c_tree.specs.Places.{Place, Beginning, no_beginning, begins, shifts, enters, takes, finishes, passes, move, back}
use Rattle.grammar_moves.specs.declared.places.Place.{Place as Spot}
use Rattle.grammar_moves.specs.PlainPlaces.{plain_place}
use Rattle.grammar_moves.specs.PlainMoves.{skipping}
use Rattle.choice_states.specs.Seen.{Parts}
use Rattle.choice_states.specs.Parts.{parts_fit, parts_fit_within, parts_are_whole}
use Rattle.choice_states.specs.Lists.{left_out}
use Rattle.choice_reading.specs.Beginnings.{all_fit, FirstFits, BeginsFitting}
use Rattle.choice_settling.proofs.TableLaws.{EachWithin, FirstFit, BeginsFit, moved_suits, within_back}

both_fit : (a b : Bool) → IsTrue a → IsTrue b → IsTrue (a && b)
both_fit true b x y = y
both_fit false b x y = x

each_fits : (places : List Place) → EachWithin places → IsTrue (all_fit places)
each_fits [] each = refl
each_fits (first ∷ rest) each = both_fit (parts_fit_within first []) (all_fit rest) each.0 (each_fits rest each.1)

first_fits : (skipped : Bool) (inner : Place) → FirstFit skipped inner → FirstFits skipped inner
first_fits false inner fit = fit.first
first_fits true inner fit = fit.second refl

begin_fitting : (beginning : Beginning) → BeginsFit beginning → BeginsFitting beginning
begin_fitting no_beginning fit = tt
begin_fitting (begins places skipped inner) fit = (each_fits places fit.0, first_fits skipped inner fit.1)

-- behind what is left out
module _ (place : Spot) (kind : Terminal) (count : ℕ) (parts : Parts) (fits : IsTrue (parts_fit (left_out count (plain_place place)) parts)) where
  pub shifts_fit : (behind : Place) → move (plain_place place) kind ≡ skipping count (shifts behind) → IsTrue (parts_fit_within behind parts)
  shifts_fit behind is = moved_suits place kind count (shifts behind) is parts fits

  pub enters_fit : (behind : Place) (beginning : Beginning) → move (plain_place place) kind ≡ skipping count (enters behind beginning) → IsTrue (parts_fit_within behind parts)
  enters_fit behind beginning is = let suits = moved_suits place kind count (enters behind beginning) is in suits.0 parts fits

  pub begins_fit : (behind : Place) (beginning : Beginning) → move (plain_place place) kind ≡ skipping count (enters behind beginning) → BeginsFitting beginning
  begins_fit behind beginning is = let suits = moved_suits place kind count (enters behind beginning) is in begin_fitting beginning suits.1

  pub takes_fit : (behind second : Place) → move (plain_place place) kind ≡ skipping count (takes behind second) → IsTrue (parts_fit_within second parts)
  takes_fit behind second is = let suits = moved_suits place kind count (takes behind second) is in suits.0 parts fits

  pub taken_fit : (behind second : Place) → move (plain_place place) kind ≡ skipping count (takes behind second) → IsTrue (parts_fit_within behind [])
  taken_fit behind second is = let suits = moved_suits place kind count (takes behind second) is in suits.1

  pub finishes_fit : (whole : Kind) → move (plain_place place) kind ≡ skipping count (finishes whole) → IsTrue (parts_are_whole (Some whole) parts)
  finishes_fit whole is = moved_suits place kind count (finishes whole) is parts fits

  pub passes_fit : move (plain_place place) kind ≡ skipping count passes → IsTrue (parts_are_whole None parts)
  passes_fit is = moved_suits place kind count passes is parts fits

pub back_fit : (place ended : Place) (parts : Parts) → IsTrue (parts_fit_within place parts) → IsTrue (parts_fit_within (back place ended) parts)
back_fit place ended parts fits = within_back place ended parts ∙ fits
