-- Values that are placed one after the other.
use Rattle.std.proofs.Common.{◌≡◌, ℕ, Bool, true, false, not, ◌&&◌, ◌||◌, List, [], ◌∷◌, ◌++◌, IsTrue, refl, sym, ap, ◌∙◌}
use Rattle.std.proofs.Math.Bool.{or_assoc, or-false}
use Rattle.cond_formula.specs.Conditions.{Condition, value}
use Rattle.conditional.specs.Entries.{Entry, some_holds, Carry, Stands, Places}

-- ---- tests

nowhere_held : (o t : Bool) → t ≡ false → o ≡ (o || t)
nowhere_held true t off = refl
nowhere_held false t off = sym off

either_half : (o l w : Bool) → ((o || (l && w)) || (l && not w)) ≡ (o || l)
either_half true l w = refl
either_half false true true = refl
either_half false true false = refl
either_half false false w = refl

both_held : (o l w h m : Bool) → h ≡ (l && w) → m ≡ (l && not w) → ((o || h) || m) ≡ (o || l)
both_held o l w h m is_h is_m = ap (λ (b : Bool). (o || b) || m) is_h ∙ (ap (λ (b : Bool). (o || (l && w)) || b) is_m ∙ either_half o l w)

both_of : (l w h : Bool) → h ≡ (l && w) → IsTrue h → IsTrue l × IsTrue w
both_of true true h is t = (refl, refl)
both_of true false h is t = cc
both_of false w h is t = cc

first_of_both : (l w m : Bool) → m ≡ (l && not w) → IsTrue m → IsTrue l × (w ≡ false)
first_of_both true true m is t = cc
first_of_both true false m is t = (refl, refl)
first_of_both false w m is t = cc

module _ {P : Type 0} (on : ℕ → Bool) where
  -- ---- one more entry

  held_at_end : (old : List (Entry P)) (x : Entry P) → some_holds on (old ++ x ∷ []) ≡ (some_holds on old || value on x.when)
  held_at_end [] x = or-false (value on x.when)
  held_at_end (y ∷ ys) x = ap (λ (rest : Bool). value on y.when || rest) (held_at_end ys x) ∙ sym (or_assoc (value on y.when) (some_holds on ys) (value on x.when))

  carry_to_end : (v : P) (old : List (Entry P)) (x : Entry P) → Carry on v old → (IsTrue (value on x.when) → x.what ≡ v) → Carry on v (old ++ x ∷ [])
  carry_to_end v [] x carry also = (also, tt)
  carry_to_end v (y ∷ ys) x carry also = (carry.0, carry_to_end v ys x carry.1 also)

  pub placed_at_end : (old : List (Entry P)) (x : Entry P) → Places on x.when x.what old (old ++ x ∷ [])
  placed_at_end old x = record { held = held_at_end old x; carry = λ v carry also. carry_to_end v old x carry also }

  -- what holds nowhere needn't be placed
  pub placed_nowhere : (when : Condition) (what : P) (old : List (Entry P)) → value on when ≡ false → Places on when what old old
  placed_nowhere when what old off = record { held = nowhere_held (some_holds on old) (value on when) off; carry = λ v carry also. carry }

  -- ---- one value where a condition is true, and then another where it isn't

  pub placed_by_turns :
      (left when here after : Condition) (x y z : P) (old mid new : List (Entry P))
      → value on here ≡ (value on left && value on when) → value on after ≡ (value on left && not (value on when))
      → (value on when ≡ true → z ≡ x) → (value on when ≡ false → z ≡ y)
      → Places on here x old mid → Places on after y mid new → Places on left z old new
  placed_by_turns left when here after x y z old mid new is_here is_after is_x is_y first second = record {
    held =
        second.held ∙ (ap (λ (b : Bool). b || value on after) first.held ∙
        both_held (some_holds on old) (value on left) (value on when) (value on here) (value on after) is_here is_after);
    carry = λ v carry also.
        second.carry v
        (first.carry v carry (λ t. let h = both_of (value on left) (value on when) (value on here) is_here t in sym (is_x h.1) ∙ also h.0))
        (λ t. let h = first_of_both (value on left) (value on when) (value on after) is_after t in sym (is_y h.1) ∙ also h.0);
  }

  -- ---- each entry of a list is placed

  pub record EachPlaced (all rest now : List (Entry P)) : Type 0 where
    pub held : (some_holds on now || some_holds on rest) ≡ some_holds on all
    pub carry : (v : P) → Carry on v all → Carry on v now
    pub left : (v : P) → Carry on v all → Carry on v rest

  pub none_placed : (all : List (Entry P)) → EachPlaced all all []
  none_placed all = record { held = refl; carry = λ v carry. tt; left = λ v carry. carry }

  pub next_placed : (x : Entry P) (all rest now new : List (Entry P)) → EachPlaced all (x ∷ rest) now → Places on x.when x.what now new → EachPlaced all rest new
  next_placed x all rest now new before placed = record {
    held = ap (λ (b : Bool). b || some_holds on rest) placed.held ∙ (or_assoc (some_holds on now) (value on x.when) (some_holds on rest) ∙ before.held);
    carry = λ v carry. placed.carry v (before.carry v carry) (before.left v carry).0;
    left = λ v carry. (before.left v carry).1;
  }

  pub all_placed : (v : P) (all now : List (Entry P)) → EachPlaced all [] now → Stands on v all → Stands on v now
  all_placed v all now placed stands = record {
    held = rw (sym (or-false (some_holds on now)) ∙ placed.held) stands.held;
    carry = placed.carry v stands.carry;
  }
