-- What comes of each entry is placed, one after the other.
use Rattle.std.proofs.Common.{◌≡◌, ℕ, ◌+◌, ◌<◌, ◌≤◌, Bool, true, false, not, ◌||◌, List, ◌∷◌, map, drop, length, get_or, IsTrue, refl, sym, subst}
use Rattle.std.proofs.lemmas.List.{drop_all}
use Rattle.cond_formula.specs.Conditions.{Condition, value}
use Rattle.conditional.specs.Entries.{Entry, some_holds, Carry, Stands}
use Rattle.conditional.specs.Judgements.{Checked, Shows, Judges, JudgesUnder}
use Rattle.conditional.specs.declared.outcomes.Outcomes.{Outcomes}
use Rattle.conditional.proofs.ListLaws.{item_of, with_true}
use Rattle.conditional.proofs.JudgementLaws.{weaken}
use Rattle.operand_rules.specs.declared.operands.Refused.{Refused}
use Rattle.operand_rules.specs.PlainOperandTypes.{reason}
use Rattle.cond_sizes.specs.declared.elements.Count.{Count}
use Rattle.cond_sizes.specs.Sizes.{plain_count, ShowsCount}

still : (t r : Bool) → IsTrue (not r) → IsTrue (not (t || r) || t)
still true r s = refl
still false true s = cc
still false false s = refl

none_left : (b : Bool) → IsTrue b → IsTrue (not b) → IsTrue false
none_left true h t = t
none_left false h t = h

-- what comes of the value that is seen among the entries
module _ {T A : Type 0} (on : ℕ → Bool) (entry : T → Entry A) (list : List T) (seen : A) (counted : Checked ℕ (Unit {0})) where
  -- it has been placed, unless that value stands in the rest
  pub record PlacedSoFar (i : ℕ) (all : Outcomes Count Refused) : Type 0 where
    pub left : Carry on seen (map entry (drop i list))
    pub shows : Shows plain_count reason on (not (some_holds on (map entry (drop i list)))) counted all

  pub placed_start : (all : Outcomes Count Refused) → Stands on seen (map entry list) → Shows plain_count reason on false counted all → PlacedSoFar 0 all
  placed_start all stands nothing = record {
    left = stands.carry;
    shows = weaken plain_count reason on false (not (some_holds on (map entry list))) counted all (none_left (some_holds on (map entry list)) stands.held) nothing;
  }

  pub placed_next :
      (i : ℕ) (x : T) (old new : Outcomes Count Refused) → i < length list → x ≡ get_or list i x
      → ((b : Bool) → Shows plain_count reason on b counted old → (IsTrue (value on (entry x).when) → (entry x).what ≡ seen) → Shows plain_count reason on (b || value on (entry x).when) counted new)
      → PlacedSoFar i old → PlacedSoFar (i + 1) new
  placed_next i x old new within is placed before =
      let e = item_of list x i within is in
      let left : Carry on seen (map entry (x ∷ drop (i + 1) list)) = subst (λ others. Carry on seen (map entry others)) e before.left in
      let shows : Shows plain_count reason on (not (some_holds on (map entry (x ∷ drop (i + 1) list)))) counted old =
      subst (λ others. Shows plain_count reason on (not (some_holds on (map entry others))) counted old) e before.shows in
      record {
        left = left.1;
        shows =
            weaken plain_count reason on (not (value on (entry x).when || some_holds on (map entry (drop (i + 1) list))) || value on (entry x).when)
            (not (some_holds on (map entry (drop (i + 1) list)))) counted new (still (value on (entry x).when) (some_holds on (map entry (drop (i + 1) list))))
            (placed (not (value on (entry x).when || some_holds on (map entry (drop (i + 1) list)))) shows left.0);
      }

  pub placed_end : (i : ℕ) (all : Outcomes Count Refused) → length list ≤ i → PlacedSoFar i all → ShowsCount on counted all
  placed_end i all past so_far =
      subst (λ others. Shows plain_count reason on (not (some_holds on (map entry others))) counted all) (drop_all i list past) so_far.shows

-- an outcome is placed
pub by_outcome :
    {A : Type 0} (on : ℕ → Bool) (x : Entry A) (seen : A) (counted : Checked ℕ (Unit {0})) (when : Condition) (what : Checked ℕ (Unit {0})) (old new : Outcomes Count Refused)
    → when ≡ x.when → (x.what ≡ seen → what ≡ counted) → Judges plain_count reason on when what old new
    → (b : Bool) → Shows plain_count reason on b counted old → (IsTrue (value on x.when) → x.what ≡ seen) → Shows plain_count reason on (b || value on x.when) counted new
by_outcome on x seen counted when what old new same given judged b shows agree =
    (subst (λ k. Judges plain_count reason on k what old new) same judged).shows b counted shows (λ t. given (agree t))

-- a judgement of all configurations is placed
pub by_judgement :
    {A : Type 0} (on : ℕ → Bool) (x : Entry A) (seen : A) (counted : Checked ℕ (Unit {0})) (more old new : Outcomes Count Refused)
    → (x.what ≡ seen → ShowsCount on counted more) → JudgesUnder plain_count reason on x.when more old new
    → (b : Bool) → Shows plain_count reason on b counted old → (IsTrue (value on x.when) → x.what ≡ seen) → Shows plain_count reason on (b || value on x.when) counted new
by_judgement on x seen counted more old new given judged b shows agree =
    subst (λ t. Shows plain_count reason on (b || t) counted new) (sym (with_true (value on x.when))) (judged.shows b true counted shows (λ t. given (agree t)))
