-- Parts that are left out, and nodes that are whole.
use Rattle.std.proofs.Common.{◌≡◌, ℕ, ◌+◌, ◌<◌, [], ◌∷◌, ◌++◌, Option, IsTrue, refl, sym, ap, ◌∙◌, subst, add-one}
use Rattle.c_tree.specs.declared.kinds.Kind.{Kind}
use Rattle.c_tree.specs.Places.{Place, back}
use Rattle.grammar_moves.specs.declared.places.Place.{Place as Spot}
use Rattle.grammar_moves.specs.PlainPlaces.{plain_place}
use Rattle.choice_states.specs.Seen.{Parts, nothing_seen}
use Rattle.choice_states.specs.Parts.{values, parts_fit, parts_fit_within, Pushed}
use Rattle.choice_states.specs.Lists.{left_out}
use Rattle.choice_states.specs.States.{Standing, made, closed}
use Rattle.choice_settling.specs.Steps.{ClosesAlike}
use Rattle.choice_settling.specs.LeftOut.{nothings, LeavesOut, LeftOut}
use Rattle.choice_settling.proofs.FrameLemmas.{nothings_more, arriving_alike}
use Rattle.choice_settling.proofs.TableLaws.{left_out_fits}

-- it is whole in the same way, if what it is to nodes around is the same
pub closes_alike : (kind : Option Kind) (ended other : Place) (parts : Parts) (standing : Standing) → ((behind : Place) → back behind other ≡ back behind ended)
    → standing ≡ closed kind other parts → ClosesAlike (closed kind ended parts) standing
closes_alike kind ended other parts standing same is = subst (λ s. ClosesAlike (closed kind ended parts) s) (sym is) (record {
  fits_are = refl;
  fits_in_is = λ outer. refl;
  stay_is = refl;
  leads_are = λ frames token_kind token. arriving_alike (made kind (values parts)) ended other frames token_kind token same;
})

pub one_more_left_out :
    (place : Spot) (count read : ℕ) (behind : Place) (old between new : Parts) → LeavesOut count (plain_place place) → read < count → behind ≡ left_out (read + 1) (plain_place place)
    → (IsTrue (parts_fit_within behind between) → Pushed behind between new nothing_seen) → LeftOut read (plain_place place) old between → LeftOut (read + 1) (plain_place place) old new
one_more_left_out place count read behind old between new out below is push so_far =
    let pushed : Pushed behind between new nothing_seen =
    push (subst (λ p. IsTrue (parts_fit_within p between)) (sym is) (left_out_fits place out.token count read out.next out.is below between so_far.fit)) in
    record {
      values_are =
          pushed.values_are ∙ ap (λ vs. vs ++ nothing_seen ∷ []) so_far.values_are ∙ nothings_more read (values old) ∙ ap (λ n. values old ++ nothings n) (sym (add-one read));
      fit = subst (λ p. IsTrue (parts_fit p new)) is pushed.fit;
    }
