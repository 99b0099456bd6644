-- How a search goes on.
use Rattle.std.proofs.Common.{◌≡◌, ℕ, Bool, true, false, not, ◌&&◌, ◌||◌, List, Option, None, Some, refl, sym, ◌∙◌, if◌then◌else◌}
use Rattle.cond_formula.specs.Conditions.{Condition, value}
use Rattle.conditional.specs.Entries.{Entry, some_holds, Sees, PlacesUnder}
use Rattle.conditional.proofs.ValueLaws.{none_carry, never}
use Rattle.known_tables.specs.Searches.{FoundOrNext}

off_holds : (o k m : Bool) → k ≡ false → (o || (k && m)) ≡ o
off_holds true k m off = refl
off_holds false true m off = cc
off_holds false false m off = refl

on_holds : (o k m : Bool) → k ≡ true → o ≡ false → (o || (k && m)) ≡ m
on_holds true k m is none = cc
on_holds false true m is none = refl
on_holds false false m is none = cc

module _ {P : Type 0} (on : ℕ → Bool) where
  -- nothing is placed where nothing may be
  pub never_placed : (when : Condition) (more old : List (Entry P)) → value on when ≡ false → PlacesUnder on when more old old
  never_placed when more old off = record {
    held = sym (off_holds (some_holds on old) (value on when) (some_holds on more) off);
    carry = λ v carry also. carry;
  }

  placed_off : (when : Condition) (more old new : List (Entry P)) → PlacesUnder on when more old new → value on when ≡ false → (o : Option P) → Sees on o old → Sees on o new
  placed_off when more old new placed off None none = placed.held ∙ off_holds (some_holds on old) (value on when) (some_holds on more) off ∙ none
  placed_off when more old new placed off (Some v) stands = record {
    held = placed.held ∙ off_holds (some_holds on old) (value on when) (some_holds on more) off ∙ stands.held;
    carry = placed.carry v stands.carry (never (value on when) off);
  }

  placed_on : (when : Condition) (more old new : List (Entry P)) → PlacesUnder on when more old new → value on when ≡ true → some_holds on old ≡ false → (o : Option P) → Sees on o more → Sees on o new
  placed_on when more old new placed is none None off = placed.held ∙ on_holds (some_holds on old) (value on when) (some_holds on more) is none ∙ off
  placed_on when more old new placed is none (Some v) stands = record {
    held = placed.held ∙ on_holds (some_holds on old) (value on when) (some_holds on more) is none ∙ stands.held;
    carry = placed.carry v (none_carry on v old none) (λ t. stands.carry);
  }

  -- one more thing comes next
  pub found_more :
      (rest when here after : Bool) (at : Condition) (more old new : List (Entry P)) (whole next later : Option P) → value on at ≡ here → here ≡ (rest && when) → after ≡ (rest && not when)
      → PlacesUnder on at more old new → Sees on next more → FoundOrNext on rest whole (if when then next else later) old → FoundOrNext on after whole later new
  found_more false when here false at more old new whole next later at_is here_is after_is placed sees before = placed_off at more old new placed (at_is ∙ here_is) whole before
  found_more false when here true at more old new whole next later at_is here_is after_is placed sees before = cc
  found_more true true here false at more old new whole next later at_is here_is after_is placed sees before =
      placed_on at more old new placed (at_is ∙ here_is) before.0 whole (rw before.1 sees)
  found_more true true here true at more old new whole next later at_is here_is after_is placed sees before = cc
  found_more true false here false at more old new whole next later at_is here_is after_is placed sees before = cc
  found_more true false here true at more old new whole next later at_is here_is after_is placed sees before =
      (placed.held ∙ off_holds (some_holds on old) (value on at) (some_holds on more) (at_is ∙ here_is) ∙ before.0, before.1)

  -- nothing comes next
  pub found_all : (rest : Bool) (whole : Option P) (found : List (Entry P)) → FoundOrNext on rest whole None found → Sees on whole found
  found_all false whole found is = is
  found_all true whole found is = rw is.1 is.0
