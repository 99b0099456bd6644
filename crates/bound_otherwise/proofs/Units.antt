-- Units, one by one.
use Rattle.std.proofs.Common.{◌≡◌, ℕ, ◌+◌, ◌<◌, ◌≤◌, Bool, true, false, ◌||◌, List, [], ◌∷◌, length, drop, get_or, refl, sym, ap, subst, ◌∙◌}
use Rattle.std.proofs.lemmas.List.{drop_all}
use Rattle.conditional.proofs.ListLaws.{item_of}
use Rattle.cond_pairings.specs.Pairs.{pairs_seen}
use Rattle.told_occurrences.specs.declared.told.ToldUnit.{ToldUnit}
use Rattle.bound_otherwise.specs.Otherwise.{TellsPairs, AreToldAlike, TellsOtherwise}

module _ (on : ℕ → Bool) (before after : List ToldUnit) where
  -- what is known of the units before a place, where it is said whether one of them is told otherwise
  pub record SoFar (otherwise : Bool) (place : ℕ) : Type 0 where
    pub refutes : otherwise ≡ true → AreToldAlike on before after → ⊥
    pub leads : otherwise ≡ false → AreToldAlike on (drop place before) (drop place after) → AreToldAlike on before after
    pub comes : AreToldAlike on before after → AreToldAlike on (drop place before) (drop place after)

  pub none-yet : (v : Bool) → v ≡ false → SoFar v 0
  none-yet v none = record { refutes = λ e. absurd (let no : ◌≡◌ {A = Bool} false true = sym none ∙ e in cc); leads = λ e h. h; comes = λ h. h }

  pub one-more :
      (v w new : Bool) (place : ℕ) (unit other : ToldUnit) → place < length before → place < length after → unit ≡ get_or before place unit → other ≡ get_or after place other
      → new ≡ (v || w) → TellsPairs w (pairs_seen on unit.pairs.items) (pairs_seen on other.pairs.items) → SoFar v place → SoFar new (place + 1)
  one-more v w new place unit other within too is other-is new-is told so-far = by v w new-is told so-far
    where
      here : AreToldAlike on (drop place before) (drop place after) ≡ AreToldAlike on (unit ∷ drop (place + 1) before) (other ∷ drop (place + 1) after)
      here = ap (λ l. AreToldAlike on l (drop place after)) (item_of before unit place within is) ∙ ap (AreToldAlike on (unit ∷ drop (place + 1) before)) (item_of after other place too other-is)

      by : (v w : Bool) → new ≡ (v || w) → TellsPairs w (pairs_seen on unit.pairs.items) (pairs_seen on other.pairs.items) → SoFar v place → SoFar new (place + 1)
      by true w e told s = record {
        refutes = λ f. s.refutes refl;
        leads = λ f. absurd (let no : ◌≡◌ {A = Bool} true false = sym e ∙ f in cc);
        comes = λ h. (subst (λ (T : Type 0). T) here (s.comes h)).1;
      }
      by false true e told s = record {
        refutes = λ f h. told (subst (λ (T : Type 0). T) here (s.comes h)).0;
        leads = λ f. absurd (let no : ◌≡◌ {A = Bool} true false = sym e ∙ f in cc);
        comes = λ h. (subst (λ (T : Type 0). T) here (s.comes h)).1;
      }
      by false false e told s = record {
        refutes = λ f. absurd (let no : ◌≡◌ {A = Bool} false true = sym e ∙ f in cc);
        leads = λ f h. s.leads refl (subst (λ (T : Type 0). T) (sym here) (told, h));
        comes = λ h. (subst (λ (T : Type 0). T) here (s.comes h)).1;
      }

  pub at-end : (v : Bool) (place : ℕ) → length before ≤ place → length after ≤ place → SoFar v place → TellsOtherwise v on before after
  at-end true place past too s = s.refutes refl
  at-end false place past too s =
      s.leads refl (subst (λ l. AreToldAlike on l (drop place after)) (sym (drop_all place before past)) (subst (AreToldAlike on []) (sym (drop_all place after too)) tt))
