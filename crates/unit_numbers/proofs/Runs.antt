-- From what is taken up to a place of a unit to what is taken up to another: what is bound between them is known, or is next.
use Rattle.std.proofs.Common.{◌≡◌, inl, inr, ℕ, zero, suc, ◌≤◌, ◌<◌, Bool, true, false, List, [], ◌∷◌, ◌++◌, refl, sym, ap, subst, ◌∙◌, arith}
use Rattle.std.specs.Prelude.{◌⊎◌, Option, Some, None, option_map, ◌==◌, ◌&&◌, if◌then◌else◌}
use Rattle.std.proofs.lemmas.List.{append_assoc, append-nil}
use Rattle.std.proofs.lemmas.Bool.{eq-eqb, eqb-true, and_from, false≢true}
use Rattle.core_meaning.specs.Checking.{Entity, local_entity, local_of_function, file_entity, struct_entity, member_entity, own_entity, Binding, Checked, fine, refused, broken, with_bindings, ◌>>=◌, give}
use Rattle.bindings.specs.Judged.{same_entity}
use Rattle.bindings.proofs.Histories.{same_is}
use Rattle.entity_numbers.specs.Numbered.{Counts, one_more, with_entity, IsNext, first_place, IsNumbered, counted, AreNumbered}
use Rattle.entity_numbers.proofs.Uses.{All, Binds}

-- entities that are numbered in the order of the text
abbrev pub IsCounted : Entity → Type 0
IsCounted (local_of_function f slot) = Unit {0}
IsCounted (struct_entity n) = Unit {0}
IsCounted (member_entity s n) = Unit {0}
IsCounted other = ⊥

-- to what an expression uses another identifier is bound before, if it is numbered
abbrev pub AreCountedBehind : List Binding → List Binding → Type 0
AreCountedBehind before [] = Unit {0}
AreCountedBehind before (b ∷ rest) =
    (b.in_expression ≡ true → IsCounted b.entity → first_place b.entity before ≡ None → ⊥) × AreCountedBehind (before ++ b ∷ []) rest

-- the structs from this number on are the unit's own
module _ (first : ℕ) where
  -- what is taken already
  abbrev pub Has : Counts → Entity → Type 0
  Has c (local_entity slot) = ⊥
  Has c (local_of_function f slot) = slot < c.slots f
  Has c (struct_entity n) = (first ≤ n) × (n < c.structs)
  Has c (member_entity s n) = (first ≤ s) × (n < c.members s)
  Has c other = Unit {0}

  -- what declares isn't used by an expression
  pub record Declares (b : Binding) : Type 0 where
    pub unused : b.in_expression ≡ false

  pub data Runs : Counts → List Binding → Counts → Type 0 where
    done : {c : Counts} → Runs c [] c
    old : {c d : Counts} {b : Binding} {rest : List Binding} → Has c b.entity → Runs c rest d → Runs c (b ∷ rest) d
    new : {c d : Counts} {b : Binding} {rest : List Binding} → Declares b → IsNext c b.entity → Runs (with_entity c b.entity) rest d → Runs c (b ∷ rest) d

  pub runs_append : {c d e : Counts} {js ks : List Binding} → Runs c js d → Runs d ks e → Runs c (js ++ ks) e
  runs_append done g = g
  runs_append (old h f) g = old h (runs_append f g)
  runs_append (new d h f) g = new d h (runs_append f g)

  pub all_old : (c : Counts) (js : List Binding) → All (Has c) js → Runs c js c
  all_old c [] h = done
  all_old c (j ∷ js) h = old h.0 (all_old c js h.1)

  -- ---- judgements that take entities

  pub record Reached {A : Type 0} (V : A → Counts → Type 0) (c : Counts) (x : A) (js : List Binding) : Type 0 where
    pub to : Counts
    pub runs : Runs c js to
    pub holds : V x to

  abbrev pub IfReached : {A : Type 0} → (A → Counts → Type 0) → Counts → Checked A → Type 0
  IfReached V c (fine x js) = Reached V c x js
  IfReached V c (refused kind token) = Unit {0}
  IfReached V c broken = Unit {0}

  pub record Reaches {A : Type 0} (V : A → Counts → Type 0) (c : Counts) (j : Checked A) : Type 0 where
    pub reached : IfReached V c j

  pub further : {B : Type 0} (W : B → Counts → Type 0) (c d : Counts) (js : List Binding) (j : Checked B) → Runs c js d → IfReached W d j → IfReached W c (with_bindings js j)
  further W c d js (fine y ks) f g = record { to = g.to; runs = runs_append f g.runs; holds = g.holds }
  further W c d js (refused kind token) f g = tt
  further W c d js broken f g = tt

  pub reaches_then :
      {A B : Type 0} (V : A → Counts → Type 0) (W : B → Counts → Type 0) (c : Counts) (j : Checked A) (f : A → Checked B) → Reaches V c j
      → ((x : A) (d : Counts) → V x d → Reaches W d (f x)) → Reaches W c (j >>= f)
  reaches_then V W c (fine x js) f h g = record { reached = further W c h.reached.to js (f x) h.reached.runs (g x h.reached.to h.reached.holds).reached }
  reaches_then V W c (refused kind token) f h g = record { reached = tt }
  reaches_then V W c broken f h g = record { reached = tt }

  pub reaches_as :
      {A : Type 0} (V W : A → Counts → Type 0) (c : Counts) (j : Checked A) → Reaches V c j → ((x : A) (d : Counts) → V x d → W x d) → Reaches W c j
  reaches_as V W c (fine x js) h f = record { reached = record { to = h.reached.to; runs = h.reached.runs; holds = f x h.reached.to h.reached.holds } }
  reaches_as V W c (refused kind token) h f = record { reached = tt }
  reaches_as V W c broken h f = record { reached = tt }

  -- one that binds what is known first
  pub known_then :
      {A B : Type 0} (W : B → Counts → Type 0) (c : Counts) (j : Checked A) (f : A → Checked B) → Binds (Has c) j → ((x : A) → Reaches W c (f x)) → Reaches W c (j >>= f)
  known_then W c (fine x js) f h g = record { reached = further W c c js (f x) (all_old c js h.all) (g x).reached }
  known_then W c (refused kind token) f h g = record { reached = tt }
  known_then W c broken f h g = record { reached = tt }

  pub reaches_give : {A : Type 0} (V : A → Counts → Type 0) (c : Counts) (x : A) → V x c → Reaches V c (give x)
  reaches_give V c x v = record { reached = record { to = c; runs = done; holds = v } }

  -- ---- so the entities are numbered

  abbrev Within : Counts → Entity → Type 0
  Within c (local_of_function f slot) = slot < c.slots f
  Within c (struct_entity n) = (first ≤ n) × (n < c.structs)
  Within c (member_entity s n) = (first ≤ s) × (n < c.members s)
  Within c other = ⊥

  abbrev Beyond : Counts → Entity → Type 0
  Beyond c (local_of_function f slot) = c.slots f ≤ slot
  Beyond c (struct_entity n) = c.structs ≤ n
  Beyond c (member_entity s n) = c.members s ≤ n
  Beyond c other = ⊥

  -- what has been bound is what is taken
  record Told (c : Counts) (before : List Binding) : Type 0 where
    below : first ≤ c.structs
    seen : (e : Entity) → Within c e → first_place e before ≡ None → ⊥
    unseen : (e : Entity) → Beyond c e → first_place e before ≡ None

  not_both : (c : Counts) (e : Entity) → Has c e → Beyond c e → ⊥
  not_both c (local_of_function f slot) h b = omega (arith, h, b)
  not_both c (struct_entity n) h b = let less : n < c.structs = h.1 in omega (arith, less, b)
  not_both c (member_entity s n) h b = let less : n < c.members s = h.1 in omega (arith, less, b)
  not_both c _ h b = b

  still_none : (o : Option ℕ) → option_map (λ n. suc n) o ≡ None → o ≡ None
  still_none None e = refl
  still_none (Some n) e = absurd cc

  -- one more identifier
  seen_more : (e : Entity) (before : List Binding) (b : Binding) → first_place e (before ++ b ∷ []) ≡ None → first_place e before ≡ None
  seen_more e [] b h = refl
  seen_more e (x ∷ before) b h = by (same_entity x.entity e) (seen_more e before b) h
    where
      by : (y : Bool) → (first_place e (before ++ b ∷ []) ≡ None → first_place e before ≡ None) → (if y then Some 0 else option_map (λ n. suc n) (first_place e (before ++ b ∷ []))) ≡ None → (if y then Some 0 else option_map (λ n. suc n) (first_place e before)) ≡ None
      by true more_ h = absurd cc
      by false more_ h = ap (option_map (λ n. suc n)) (more_ (still_none (first_place e (before ++ b ∷ [])) h))

  seen_itself : (e : Entity) (before : List Binding) (b : Binding) → same_entity b.entity e ≡ true → first_place e (before ++ b ∷ []) ≡ None → ⊥
  seen_itself e [] b is h = let there : ◌≡◌ {A = Option ℕ} (Some 0) None = subst (λ (y : Bool). ◌≡◌ {A = Option ℕ} (if y then Some 0 else None) None) is h in absurd cc
  seen_itself e (x ∷ before) b is h = by (same_entity x.entity e) (seen_itself e before b is) h
    where
      by : (y : Bool) → (first_place e (before ++ b ∷ []) ≡ None → ⊥) → (if y then Some 0 else option_map (λ n. suc n) (first_place e (before ++ b ∷ []))) ≡ None → ⊥
      by true more_ h = absurd cc
      by false more_ h = more_ (still_none (first_place e (before ++ b ∷ [])) h)

  unseen_more : (e : Entity) (before : List Binding) (b : Binding) → same_entity b.entity e ≡ false → first_place e before ≡ None → first_place e (before ++ b ∷ []) ≡ None
  unseen_more e [] b is h = ap (λ (y : Bool). if y then Some 0 else None) is
  unseen_more e (x ∷ before) b is h = by (same_entity x.entity e) (unseen_more e before b is) h
    where
      by : (y : Bool) → (first_place e before ≡ None → first_place e (before ++ b ∷ []) ≡ None) → (if y then Some 0 else option_map (λ n. suc n) (first_place e before)) ≡ None → (if y then Some 0 else option_map (λ n. suc n) (first_place e (before ++ b ∷ []))) ≡ None
      by true more_ h = absurd cc
      by false more_ h = ap (option_map (λ n. suc n)) (more_ (still_none (first_place e before) h))

  other_entity : (a b : Entity) → (a ≡ b → ⊥) → same_entity a b ≡ false
  other_entity a b no_ = by (same_entity a b) refl
    where
      by : (y : Bool) → same_entity a b ≡ y → y ≡ false
      by true e = absurd (no_ (same_is a b e))
      by false e = refl

  still_told : (c : Counts) (before : List Binding) (b : Binding) → (Beyond c b.entity → ⊥) → Told c before → Told c (before ++ b ∷ [])
  still_told c before b in_ t = record {
    below = t.below;
    seen = λ e w none_. t.seen e w (seen_more e before b none_);
    unseen = λ e w. unseen_more e before b (other_entity b.entity e (λ same_. in_ (subst (λ x. Beyond c x) (sym same_) w))) (t.unseen e w);
  }

  -- an identifier of an entity that is known
  some_stays : (c : Counts) (e : Entity) (o : Option ℕ) → (o ≡ None → ⊥) → IsNumbered o c e × (counted o c e ≡ c)
  some_stays c e (Some place) h = (tt, refl)
  some_stays c e None h = absurd (h refl)

  -- entities that have no numbers
  uncounted : (c : Counts) (e : Entity) (o : Option ℕ) → IsNext c e → with_entity c e ≡ c → IsNumbered o c e × (counted o c e ≡ c)
  uncounted c e (Some place) n same_ = (tt, refl)
  uncounted c e None n same_ = (n, same_)

  known_stays : (c : Counts) (before : List Binding) (e : Entity) → Has c e → Told c before → IsNumbered (first_place e before) c e × (counted (first_place e before) c e ≡ c)
  known_stays c before (local_of_function f slot) h t = some_stays c (local_of_function f slot) (first_place (local_of_function f slot) before) (t.seen (local_of_function f slot) h)
  known_stays c before (struct_entity n) h t = some_stays c (struct_entity n) (first_place (struct_entity n) before) (t.seen (struct_entity n) h)
  known_stays c before (member_entity s n) h t = some_stays c (member_entity s n) (first_place (member_entity s n) before) (t.seen (member_entity s n) h)
  known_stays c before (local_entity slot) h t = absurd h
  known_stays c before (file_entity name) h t = uncounted c (file_entity name) (first_place (file_entity name) before) tt refl
  known_stays c before own_entity h t = uncounted c own_entity (first_place own_entity before) tt refl

  less_or_same : (k m : ℕ) → k < suc m → (k < m) ⊎ (k ≡ m)
  less_or_same zero zero less = inr refl
  less_or_same zero (suc m) less = inl (omega arith)
  less_or_same (suc k) zero less = absurd (omega (arith, less))
  less_or_same (suc k) (suc m) less = by (less_or_same k m (omega (arith, less)))
    where
      by : (k < m) ⊎ (k ≡ m) → (suc k < suc m) ⊎ (suc k ≡ suc m)
      by (inl h) = inl (omega (arith, h))
      by (inr e) = inr (ap suc e)

  -- one more of a number's kind
  within_one : (n m : ℕ) (counts : ℕ → ℕ) (k : ℕ) → k < one_more n counts m → (k < counts m) ⊎ ((m ≡ n) × (k ≡ counts m))
  within_one n m counts k less = by (m == n) refl less
    where
      same_or : (m ≡ n) → (k < counts m) ⊎ (k ≡ counts m) → (k < counts m) ⊎ ((m ≡ n) × (k ≡ counts m))
      same_or e (inl h) = inl h
      same_or e (inr h) = inr (e, h)

      by : (y : Bool) → (m == n) ≡ y → k < (if y then suc (counts m) else counts m) → (k < counts m) ⊎ ((m ≡ n) × (k ≡ counts m))
      by true e less = same_or (eqb-true m n e) (less_or_same k (counts m) less)
      by false e less = inl less

  beyond_one : (n m : ℕ) (counts : ℕ → ℕ) (k : ℕ) → one_more n counts m ≤ k → (counts m ≤ k) × ((m ≡ n) → (k ≡ counts m) → ⊥)
  beyond_one n m counts k more_ = by (m == n) refl more_
    where
      by : (y : Bool) → (m == n) ≡ y → (if y then suc (counts m) else counts m) ≤ k → (counts m ≤ k) × ((m ≡ n) → (k ≡ counts m) → ⊥)
      by true e more_ = (omega (arith, more_), λ same_ is. omega (arith, more_, is))
      by false e more_ = (more_, λ same_ is. false≢true (sym e ∙ eq-eqb m n same_))

  -- what is taken with one more entity was taken before, or is that entity
  within_next : (c : Counts) (a e : Entity) → IsNext c a → Within (with_entity c a) e → Within c e ⊎ (same_entity a e ≡ true)
  within_next c (local_of_function f slot) (local_of_function g k) n w = by (within_one f g c.slots k w)
    where
      by : (k < c.slots g) ⊎ ((g ≡ f) × (k ≡ c.slots g)) → (k < c.slots g) ⊎ ((f == g && slot == k) ≡ true)
      by (inl h) = inl h
      by (inr h) = let there : slot ≡ k = n ∙ ap c.slots (sym h.0) ∙ sym h.1 in inr (and_from (f == g) (slot == k) (eq-eqb f g (sym h.0)) (eq-eqb slot k there))
  within_next c (struct_entity m) (struct_entity k) n w = by (less_or_same k c.structs w.1)
    where
      by : (k < c.structs) ⊎ (k ≡ c.structs) → ((first ≤ k) × (k < c.structs)) ⊎ ((m == k) ≡ true)
      by (inl h) = inl (w.0, h)
      by (inr h) = inr (eq-eqb m k (n ∙ sym h))
  within_next c (member_entity s m) (member_entity t k) n w = by (within_one s t c.members k w.1)
    where
      by : (k < c.members t) ⊎ ((t ≡ s) × (k ≡ c.members t)) → ((first ≤ t) × (k < c.members t)) ⊎ ((s == t && m == k) ≡ true)
      by (inl h) = inl (w.0, h)
      by (inr h) = let there : m ≡ k = n ∙ ap c.members (sym h.0) ∙ sym h.1 in inr (and_from (s == t) (m == k) (eq-eqb s t (sym h.0)) (eq-eqb m k there))
  within_next c (local_of_function f slot) (struct_entity k) n w = inl w
  within_next c (local_of_function f slot) (member_entity t k) n w = inl w
  within_next c (struct_entity m) (local_of_function g k) n w = inl w
  within_next c (struct_entity m) (member_entity t k) n w = inl w
  within_next c (member_entity s m) (local_of_function g k) n w = inl w
  within_next c (member_entity s m) (struct_entity k) n w = inl w
  within_next c (local_entity slot) e n w = inl w
  within_next c (file_entity name) e n w = inl w
  within_next c own_entity e n w = inl w
  within_next c (local_of_function f slot) _ n w = absurd w
  within_next c (struct_entity m) _ n w = absurd w
  within_next c (member_entity s m) _ n w = absurd w

  -- what isn't taken with one more entity wasn't taken before, and isn't that entity
  beyond_next : (c : Counts) (a e : Entity) → IsNext c a → Beyond (with_entity c a) e → Beyond c e × (a ≡ e → ⊥)
  beyond_next c (local_of_function f slot) (local_of_function g k) n b =
      let p = beyond_one f g c.slots k b in
      (p.0, λ same_. let i : f ≡ g = cc in let j : slot ≡ k = cc in p.1 (sym i) (sym j ∙ n ∙ ap c.slots i))
  beyond_next c (struct_entity m) (struct_entity k) n b = (omega (arith, b), λ same_. let j : m ≡ k = cc in let is : m ≡ c.structs = n in omega (arith, b, j, is))
  beyond_next c (member_entity s m) (member_entity t k) n b =
      let p = beyond_one s t c.members k b in
      (p.0, λ same_. let i : s ≡ t = cc in let j : m ≡ k = cc in p.1 (sym i) (sym j ∙ n ∙ ap c.members i))
  beyond_next c (local_of_function f slot) (struct_entity k) n b = (b, λ same_. absurd cc)
  beyond_next c (local_of_function f slot) (member_entity t k) n b = (b, λ same_. absurd cc)
  beyond_next c (struct_entity m) (local_of_function g k) n b = (b, λ same_. absurd cc)
  beyond_next c (struct_entity m) (member_entity t k) n b = (b, λ same_. absurd cc)
  beyond_next c (member_entity s m) (local_of_function g k) n b = (b, λ same_. absurd cc)
  beyond_next c (member_entity s m) (struct_entity k) n b = (b, λ same_. absurd cc)
  beyond_next c (local_entity slot) (local_of_function g k) n b = (b, λ same_. absurd cc)
  beyond_next c (local_entity slot) (struct_entity k) n b = (b, λ same_. absurd cc)
  beyond_next c (local_entity slot) (member_entity t k) n b = (b, λ same_. absurd cc)
  beyond_next c (file_entity name) (local_of_function g k) n b = (b, λ same_. absurd cc)
  beyond_next c (file_entity name) (struct_entity k) n b = (b, λ same_. absurd cc)
  beyond_next c (file_entity name) (member_entity t k) n b = (b, λ same_. absurd cc)
  beyond_next c own_entity (local_of_function g k) n b = (b, λ same_. absurd cc)
  beyond_next c own_entity (struct_entity k) n b = (b, λ same_. absurd cc)
  beyond_next c own_entity (member_entity t k) n b = (b, λ same_. absurd cc)
  beyond_next c _ _ n b = absurd b

  more_structs : (c : Counts) (a : Entity) → first ≤ c.structs → first ≤ (with_entity c a).structs
  more_structs c (struct_entity n) h = omega (arith, h)
  more_structs c _ h = h

  next_told : (c : Counts) (before : List Binding) (b : Binding) → IsNext c b.entity → Told c before → Told (with_entity c b.entity) (before ++ b ∷ [])
  next_told c before b n t = record {
    below = more_structs c b.entity t.below;
    seen = λ e w none_. seen_by e none_ (within_next c b.entity e n w);
    unseen = λ e w. let p = beyond_next c b.entity e n w in unseen_more e before b (other_entity b.entity e p.1) (t.unseen e p.0);
  }
    where
      seen_by : (e : Entity) → first_place e (before ++ b ∷ []) ≡ None → Within c e ⊎ (same_entity b.entity e ≡ true) → ⊥
      seen_by e none_ (inl w) = t.seen e w (seen_more e before b none_)
      seen_by e none_ (inr same_) = seen_itself e before b same_ none_

  next_takes : (c : Counts) (before : List Binding) (e : Entity) → IsNext c e → Told c before → IsNumbered (first_place e before) c e × (counted (first_place e before) c e ≡ with_entity c e)
  next_takes c before e n t = by e (first_place e before) refl n
    where
      none_takes : (e : Entity) (o : Option ℕ) → first_place e before ≡ o → first_place e before ≡ None → IsNext c e → IsNumbered o c e × (counted o c e ≡ with_entity c e)
      none_takes e None is none_ n = (n, refl)
      none_takes e (Some place) is none_ n = let no_ : Some place ≡ None = sym is ∙ none_ in absurd cc

      by : (e : Entity) (o : Option ℕ) → first_place e before ≡ o → IsNext c e → IsNumbered o c e × (counted o c e ≡ with_entity c e)
      by (local_of_function f slot) o is n = none_takes (local_of_function f slot) o is (t.unseen (local_of_function f slot) (let e : slot ≡ c.slots f = n in omega (arith, e))) n
      by (struct_entity m) o is n = none_takes (struct_entity m) o is (t.unseen (struct_entity m) (let e : m ≡ c.structs = n in omega (arith, e))) n
      by (member_entity s m) o is n = none_takes (member_entity s m) o is (t.unseen (member_entity s m) (let e : m ≡ c.members s = n in omega (arith, e))) n
      by (local_entity slot) (Some place) is n = (tt, refl)
      by (local_entity slot) None is n = (tt, refl)
      by (file_entity name) (Some place) is n = (tt, refl)
      by (file_entity name) None is n = (tt, refl)
      by own_entity (Some place) is n = (tt, refl)
      by own_entity None is n = (tt, refl)

  numbered_from : {c d : Counts} {js : List Binding} → Runs c js d → (before : List Binding) → Told c before → AreNumbered c before js
  numbered_from done before t = tt
  numbered_from (old {c = c} {b = b} {rest = rest} h f) before t =
      let p = known_stays c before b.entity h t in
      (p.0, subst (λ x. AreNumbered x (before ++ b ∷ []) rest) (sym p.1) (numbered_from f (before ++ b ∷ []) (still_told c before b (not_both c b.entity h) t)))
  numbered_from (new {c = c} {b = b} {rest = rest} d n f) before t =
      let p = next_takes c before b.entity n t in
      (p.0, subst (λ x. AreNumbered x (before ++ b ∷ []) rest) (sym p.1) (numbered_from f (before ++ b ∷ []) (next_told c before b n t)))

  abbrev from_nothing : Counts
  from_nothing = record { structs = first; members = λ s. 0; slots = λ f. 0 }

  none_told : Told from_nothing []
  none_told = record { below = omega arith; seen = nothing; unseen = λ e w. refl }
    where
      nothing : (e : Entity) → Within from_nothing e → first_place e [] ≡ None → ⊥
      nothing (local_of_function f slot) w none_ = let less : slot < 0 = w in omega (arith, less)
      nothing (struct_entity n) w none_ = let more_ : first ≤ n = w.0 in let less : n < first = w.1 in omega (arith, more_, less)
      nothing (member_entity s n) w none_ = let less : n < 0 = w.1 in omega (arith, less)
      nothing _ w none_ = w

  pub runs_are_numbered : (d : Counts) (js : List Binding) → Runs from_nothing js d → AreNumbered from_nothing [] js
  runs_are_numbered d js f = numbered_from f [] none_told

  -- ---- what expressions use is bound before, where it is numbered

  counted_within : (c : Counts) (e : Entity) → IsCounted e → Has c e → Within c e
  counted_within c (local_of_function f slot) i h = h
  counted_within c (struct_entity n) i h = h
  counted_within c (member_entity s n) i h = h
  counted_within c _ i h = absurd i

  used_from : {c d : Counts} {js : List Binding} → Runs c js d → (before : List Binding) → Told c before → AreCountedBehind before js
  used_from done before t = tt
  used_from (old {c = c} {b = b} {rest = rest} h f) before t =
      (λ used counted none_. t.seen b.entity (counted_within c b.entity counted h) none_, used_from f (before ++ b ∷ []) (still_told c before b (not_both c b.entity h) t))
  used_from (new {c = c} {b = b} {rest = rest} d n f) before t =
      (λ used counted none_. false≢true (sym d.unused ∙ used), used_from f (before ++ b ∷ []) (next_told c before b n t))

  pub runs_are_counted_behind : (d : Counts) (js : List Binding) → Runs from_nothing js d → AreCountedBehind [] js
  runs_are_counted_behind d js f = used_from f [] none_told

  -- ---- which structs are bound

  told_behind : {c d : Counts} {js : List Binding} → Runs c js d → (before : List Binding) → Told c before → Told d (before ++ js)
  told_behind (done {c = c}) before t = subst (Told c) (sym (append-nil before)) t
  told_behind (old {c = c} {d = d} {b = b} {rest = rest} h f) before t =
      subst (Told d) (append_assoc before (b ∷ []) rest) (told_behind f (before ++ b ∷ []) (still_told c before b (not_both c b.entity h) t))
  told_behind (new {c = c} {d = d} {b = b} {rest = rest} e n f) before t =
      subst (Told d) (append_assoc before (b ∷ []) rest) (told_behind f (before ++ b ∷ []) (next_told c before b n t))

  pub runs_bind_structs : (d : Counts) (js : List Binding) → Runs from_nothing js d → (m : ℕ) → first ≤ m → m < d.structs → first_place (struct_entity m) js ≡ None → ⊥
  runs_bind_structs d js f m own less none_ = (told_behind f [] none_told).seen (struct_entity m) (own, less) none_

  pub runs_bind_no_more : (d : Counts) (js : List Binding) → Runs from_nothing js d → (m : ℕ) → d.structs ≤ m → first_place (struct_entity m) js ≡ None
  runs_bind_no_more d js f m more_ = (told_behind f [] none_told).unseen (struct_entity m) more_
