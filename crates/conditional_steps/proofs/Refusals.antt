-- A judgement is refused where one of its refusals holds.
use Rattle.std.proofs.Common.{◌≡◌, ℕ, Bool, true, false, ◌||◌, List, [], ◌∷◌, refl}
use Rattle.std.specs.Prelude.{Some, if◌then◌else◌}
use Rattle.cond_formula.specs.Conditions.{value}
use Rattle.conditional.specs.declared.outcomes.Outcomes.{Outcomes}
use Rattle.conditional.specs.Entries.{Entry, listed, seen, first, some_holds}
use Rattle.conditional.specs.Judgements.{Checked, fine, refused, Shows}
use Rattle.conditional_steps.specs.Here.{is_refused}

module _ {Q : Type 0} (on : ℕ → Bool) where
  if_none : (b : Bool) (x : Q) (rest : List Q) (others : Bool) → (if b then x ∷ rest else rest) ≡ [] → (rest ≡ [] → others ≡ false) → (b || others) ≡ false
  if_none true x rest others h later = cc
  if_none false x rest others h later = later h

  none_hold : (es : List (Entry Q)) → seen on es ≡ [] → some_holds on es ≡ false
  none_hold [] h = refl
  none_hold (e ∷ rest) h = if_none (value on e.when) e.what (seen on rest) (some_holds on rest) h (none_hold rest)

  if_some : (b : Bool) (x why : Q) (rest : List Q) (others : Bool) → first (if b then x ∷ rest else rest) ≡ Some why → (first rest ≡ Some why → others ≡ true) → (b || others) ≡ true
  if_some true x why rest others h later = refl
  if_some false x why rest others h later = later h

  some_hold : (why : Q) (es : List (Entry Q)) → first (seen on es) ≡ Some why → some_holds on es ≡ true
  some_hold why [] h = cc
  some_hold why (e ∷ rest) h = if_some (value on e.when) e.what why (seen on rest) (some_holds on rest) h (some_hold why rest)

-- a judgement is refused where one of its refusals holds
pub refusals_hold : {T R P Q : Type 0} (form : T → P) (reason : R → Q) (on : ℕ → Bool) (x : Checked P Q) (all : Outcomes T R) → Shows form reason on true x all → some_holds on (listed reason all.refused) ≡ is_refused x
refusals_hold form reason on (fine v) all s = none_hold on (listed reason all.refused) s.shown.not_refused
refusals_hold form reason on (refused why) all s = some_hold on why (listed reason all.refused) (s.shown.held refl)
