-- What comes of alternatives is placed, one after the other.
use Rattle.std.proofs.Common.{◌≡◌, ℕ, ◌+◌, ◌<◌, ◌≤◌, Bool, true, false, not, ◌&&◌, ◌||◌, List, ◌∷◌, map, drop, length, get_or, IsTrue, refl, sym, subst}
use Rattle.std.proofs.lemmas.List.{drop_all}
use Rattle.cond_formula.specs.Conditions.{Condition, value}
use Rattle.conditional.specs.Entries.{Entry, some_holds, Carry, Stands}
use Rattle.conditional.specs.Judgements.{Checked, Shows, Judges, JudgesUnder}
use Rattle.conditional.specs.declared.outcomes.Outcomes.{Outcomes}
use Rattle.conditional.proofs.ListLaws.{item_of, with_true}
use Rattle.conditional.proofs.JudgementLaws.{weaken}

still : (t r : Bool) → IsTrue (not r) → IsTrue (not (t || r) || t)
still true r s = refl
still false true s = cc
still false false s = refl

none_left : (b : Bool) → IsTrue b → IsTrue (not b) → IsTrue false
none_left true h t = t
none_left false h t = h

-- what comes of the value that is seen among the entries
module _ {X A T R P Q : Type 0} (form : T → P) (reason : R → Q) (on : ℕ → Bool) (entry : X → Entry A) (list : List X) (seen : A) (outcome : Checked P Q) where
  -- it has been placed, unless that value stands in the rest
  pub record PlacedSoFar (i : ℕ) (all : Outcomes T R) : Type 0 where
    pub left : Carry on seen (map entry (drop i list))
    pub shows : Shows form reason on (not (some_holds on (map entry (drop i list)))) outcome all

  pub placed_start : (all : Outcomes T R) → Stands on seen (map entry list) → Shows form reason on false outcome all → PlacedSoFar 0 all
  placed_start all stands nothing = record {
    left = stands.carry;
    shows = weaken form reason on false (not (some_holds on (map entry list))) outcome all (none_left (some_holds on (map entry list)) stands.held) nothing;
  }

  pub placed_next :
      (i : ℕ) (x : X) (more old new : Outcomes T R) → i < length list → x ≡ get_or list i x → ((entry x).what ≡ seen → Shows form reason on true outcome more)
      → JudgesUnder form reason on (entry x).when more old new → PlacedSoFar i old → PlacedSoFar (i + 1) new
  placed_next i x more old new within is given judged before =
      let e = item_of list x i within is in
      let left : Carry on seen (map entry (x ∷ drop (i + 1) list)) = subst (λ others. Carry on seen (map entry others)) e before.left in
      let shows : Shows form reason on (not (some_holds on (map entry (x ∷ drop (i + 1) list)))) outcome old =
      subst (λ others. Shows form reason on (not (some_holds on (map entry others))) outcome old) e before.shows in
      let placed : Shows form reason on (not (value on (entry x).when || some_holds on (map entry (drop (i + 1) list))) || value on (entry x).when) outcome new =
      subst (λ t. Shows form reason on (not (value on (entry x).when || some_holds on (map entry (drop (i + 1) list))) || t) outcome new) (sym (with_true (value on (entry x).when)))
      (judged.shows (not (value on (entry x).when || some_holds on (map entry (drop (i + 1) list)))) true outcome shows (λ t. given (left.0 t))) in
      record {
        left = left.1;
        shows =
            weaken form reason on (not (value on (entry x).when || some_holds on (map entry (drop (i + 1) list))) || value on (entry x).when)
            (not (some_holds on (map entry (drop (i + 1) list)))) outcome new (still (value on (entry x).when) (some_holds on (map entry (drop (i + 1) list)))) placed;
      }

  pub placed_end : (i : ℕ) (all : Outcomes T R) → length list ≤ i → PlacedSoFar i all → Shows form reason on true outcome all
  placed_end i all past so_far =
      subst (λ others. Shows form reason on (not (some_holds on (map entry others))) outcome all) (drop_all i list past) so_far.shows

-- ---- two outcomes, of which one stands

one_of_both : (first second : Bool) → second ≡ not first → IsTrue (first || second)
one_of_both true second is = refl
one_of_both false second is = is

one_of_others : (first second : Bool) → first ≡ not second → IsTrue ((first && true) || second)
one_of_others true second is = refl
one_of_others false true is = refl
one_of_others false false is = cc

module _ {T R P Q : Type 0} (form : T → P) (reason : R → Q) (on : ℕ → Bool) (first second : Condition) (v : Checked P Q) (none one both : Outcomes T R) where
  pub one_placed :
      (p q : Checked P Q) → value on second ≡ not (value on first) → Shows form reason on false v none → Judges form reason on first p none one → Judges form reason on second q one both
      → (IsTrue (value on first) → p ≡ v) → (IsTrue (value on second) → q ≡ v) → Shows form reason on true v both
  one_placed p q is nothing placed then_placed left right =
      weaken form reason on (value on first || value on second) true v both (λ t. one_of_both (value on first) (value on second) is)
      (then_placed.shows (value on first) v (placed.shows false v nothing left) right)

  pub others_or_one :
      (others : Outcomes T R) (q : Checked P Q) → value on first ≡ not (value on second) → Shows form reason on false v none → JudgesUnder form reason on first others none one
      → Judges form reason on second q one both → (IsTrue (value on first) → Shows form reason on true v others) → (IsTrue (value on second) → q ≡ v) → Shows form reason on true v both
  others_or_one others q is nothing placed then_placed left right =
      weaken form reason on ((value on first && true) || value on second) true v both (λ t. one_of_others (value on first) (value on second) is)
      (then_placed.shows (value on first && true) v (placed.shows false true v nothing left) right)
