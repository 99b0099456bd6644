-- What is done under the conditions of alternatives, one after the other, of which one holds. Where nothing is done, states stay so.
use Rattle.std.proofs.Common.{◌≡◌, Bool, true, false, ◌&&◌, ◌||◌, List, [], ◌∷◌, refl, sym, ap, ap₂, ◌∙◌, subst, if◌then◌else◌}
use Rattle.conditional_steps.specs.Here.{DoneHere, Unchanged}

pub or_nothing : (a b : Bool) → b ≡ false → (a || b) ≡ a
or_nothing true b h = refl
or_nothing false b h = h

-- each state stays so as it is, and what stays so twice does
pub record Lasts {U : Type 0} (Stays : U → U → Type 0) : Type 0 where
  pub same : (u : U) → Stays u u
  pub again : (a b c : U) → Stays a b → Stays b c → Stays a c

-- what is done is still done where states stay so before and behind it
pub record IsStable {A U : Type 0} (Stays : U → U → Type 0) (Does : A → U → U → Bool → Type 0) : Type 0 where
  pub between : (x : A) (a b c d : U) (refused : Bool) → Stays a b → Does x b c refused → Stays c d → Does x a d refused

pub unchanged : {U : Type 0} → Lasts (Unchanged {U = U})
unchanged {U} = record { same = λ u. refl; again = λ a b c x y. y ∙ x }

pub unchanged_beside : {A U : Type 0} (Does : A → U → U → Bool → Type 0) → IsStable Unchanged Does
unchanged_beside {A} {U} Does = record {
  between = λ x a b c d refused before done behind. subst (λ (u : U). Does x a u refused) (sym behind) (subst (λ (u : U). Does x u c refused) before done);
}

-- nothing is done
pub nothing_done :
    {U : Type 0} {Stays : U → U → Type 0} (lasts : Lasts Stays) (Does : U → U → Bool → Type 0) (here : Bool) (start old new : U) (earlier found later : Bool) → here ≡ false → later ≡ (earlier || found)
    → DoneHere Stays here Does old new found → Stays start old × (earlier ≡ false) → Stays start new × (later ≡ false)
nothing_done lasts Does here start old new earlier found later off either does before =
    let same = does.elsewhere off in
    (lasts.again start old new before.0 same.0, either ∙ ap₂ (λ (a b : Bool). a || b) before.1 same.1)

module _ {A U : Type 0} (Stays : U → U → Type 0) (Does : A → U → U → Bool → Type 0) (x : A) (start : U) where
  -- the alternative that holds is ahead, and nothing has been done; or it is behind
  pub data SoFar (rest : List A) (now : U) (refused : Bool) : Type 0 where
    ahead : rest ≡ x ∷ [] → Stays start now → refused ≡ false → SoFar rest now refused
    behind : rest ≡ [] → Does x start now refused → SoFar rest now refused

  -- and where a condition isn't true, nothing is done
  pub record Alternates (when : Bool) (rest : List A) (now : U) (refused : Bool) : Type 0 where
    pub off : when ≡ false → Stays start now × (refused ≡ false)
    pub on : when ≡ true → SoFar rest now refused

module _ {A U : Type 0} {Stays : U → U → Type 0} {Does : A → U → U → Bool → Type 0} (lasts : Lasts Stays) (stable : IsStable Stays Does) (x : A) (start : U) where
  same_first : (a : A) (xs : List A) → a ∷ xs ≡ x ∷ [] → a ≡ x
  same_first a xs e = cc

  none_behind : (a : A) (xs : List A) → a ∷ xs ≡ x ∷ [] → xs ≡ []
  none_behind a xs e = cc

  not_empty : {B : Type 0} (a : A) (xs : List A) → a ∷ xs ≡ [] → B
  not_empty a xs e = absurd cc

  pub next_done :
      (what : A) (here : Bool) (before after : List A) (old new : U) (earlier found later : Bool) → before ≡ (if here then what ∷ after else after) → later ≡ (earlier || found)
      → DoneHere Stays here (Does what) old new found → SoFar Stays Does x start before old earlier → SoFar Stays Does x start after new later
  next_done what true before after old new earlier found later is either does (ahead alone same accepted) =
      behind (none_behind what after (sym is ∙ alone))
      (subst (λ (b : Bool). Does x start new b) (sym (either ∙ ap (λ (b : Bool). b || found) accepted))
      (stable.between x start old new new found same (subst (λ (a : A). Does a old new found) (same_first what after (sym is ∙ alone)) (does.does refl)) (lasts.same new)))
  next_done what false before after old new earlier found later is either does (ahead alone same accepted) =
      let none = nothing_done lasts (Does what) false start old new earlier found later refl either does (same, accepted) in
      ahead (sym is ∙ alone) none.0 none.1
  next_done what true before after old new earlier found later is either does (behind nothing done) = not_empty what after (sym is ∙ nothing)
  next_done what false before after old new earlier found later is either does (behind nothing done) =
      let none = does.elsewhere refl in
      behind (sym is ∙ nothing)
      (subst (λ (b : Bool). Does x start new b) (sym (either ∙ or_nothing earlier found none.1))
      (stable.between x start start old new earlier (lasts.same start) done none.0))

  pub all_done : (now : U) (refused : Bool) → SoFar Stays Does x start [] now refused → Does x start now refused
  all_done now refused (ahead alone same accepted) = absurd cc
  all_done now refused (behind nothing done) = done

  pub alternates_begin : (when : Bool) (rest : List A) (refused : Bool) → refused ≡ false → rest ≡ x ∷ [] → Alternates Stays Does x start when rest start refused
  alternates_begin when rest refused accepted alone = record { off = λ h. (lasts.same start, accepted); on = λ h. ahead alone (lasts.same start) accepted }

  pub alternates_next :
      (what : A) (when holds : Bool) (before after : List A) (old new : U) (earlier found later : Bool)
      → before ≡ (if holds then what ∷ after else after) → later ≡ (earlier || found) → DoneHere Stays (when && holds) (Does what) old new found
      → Alternates Stays Does x start when before old earlier → Alternates Stays Does x start when after new later
  alternates_next what when holds before after old new earlier found later is either does so_far = record {
    off = λ h. nothing_done lasts (Does what) (when && holds) start old new earlier found later (ap (λ (b : Bool). b && holds) h) either does (so_far.off h);
    on = λ h.
        next_done what holds before after old new earlier found later is either
        (subst (λ (b : Bool). DoneHere Stays (b && holds) (Does what) old new found) h does) (so_far.on h);
  }

  pub alternates_end : (when : Bool) (now : U) (refused : Bool) → Alternates Stays Does x start when [] now refused → DoneHere Stays when (Does x) start now refused
  alternates_end when now refused so_far = record { elsewhere = λ h. so_far.off h; does = λ h. all_done now refused (so_far.on h) }
