-- Related pieces compose.
use Rattle.std.proofs.Common.{◌≡◌, ℕ, Bool, true, false, List, [], ◌++◌, refl, sym, ◌∙◌, ap, subst, cond, Option, Some, None, append_assoc, append-nil}
use Rattle.std.proofs.lemmas.Bool.{true≢false}
use Rattle.core_meaning.specs.Memory.{Memory}
use Rattle.core_meaning.specs.Outcomes.{State, Outcome, Comes, Exits, Stops, Fails, after, followed_by, ◌>>=◌, give, given, memory_now}
use Rattle.core_meaning.specs.Growth.{Extends, outcome_output}
use Rattle.run_pairs.specs.Correspondences.{Correspondence, Grown, WhereGiven, HeldAside, RelatedMemories, Setting, Related, EndsAt, Outcomes, BothCut, FirstCut, SecondCut, RelatedOutcomes, RelatedPieces}

pub same_grown : (c : Correspondence) → Grown c c
same_grown c = record { keeps = λ j k e. e }

pub grown_on : {c d e : Correspondence} → Grown c d → Grown d e → Grown c e
grown_on g h = record { keeps = λ j k e. h.keeps j k (g.keeps j k e) }

extends_after : (before out longer : List ℕ) → Extends out longer → Extends (before ++ out) (before ++ longer)
extends_after before out longer h = (h.0, ap (λ o. before ++ o) h.1 ∙ sym (append_assoc before out h.0))

extends_more : (out longer more : List ℕ) → Extends out longer → Extends out (longer ++ more)
extends_more out longer more h = (h.0 ++ more, ap (λ o. o ++ more) h.1 ∙ append_assoc out h.0 more)

-- ---- what was put out before

both_after : (b : Bool) (before out out' : List ℕ) → BothCut b out out' → BothCut b (before ++ out) (before ++ out')
both_after true before out out' h = extends_after before out out' h
both_after false before out out' h = extends_after before out' out h

first_after : (b : Bool) (before out out' : List ℕ) → FirstCut b out out' → FirstCut b (before ++ out) (before ++ out')
first_after true before out out' h = extends_after before out out' h
first_after false before out out' h = absurd h

second_after : (b : Bool) (before out out' : List ℕ) → SecondCut b out out' → SecondCut b (before ++ out) (before ++ out')
second_after true before out out' h = absurd h
second_after false before out out' h = extends_after before out' out h

module _ {A B : Type 0} (cut : Bool) (End : Correspondence → A → State → B → State → Type 0) (c : Correspondence) where
  pub ends_after : (before : List ℕ) (o : Outcome A) (o' : Outcome B) → Outcomes cut End c o o' → Outcomes cut End c (after before o) (after before o')
  ends_after before (Fails out) o' h = tt
  ends_after before (Comes x s out) (Comes y s' out') h = (ap (λ o. before ++ o) h.0, h.1)
  ends_after before (Comes x s out) (Stops out') h = second_after cut before out out' h
  ends_after before (Comes x s out) (Exits status out') h = absurd h
  ends_after before (Comes x s out) (Fails out') h = absurd h
  ends_after before (Exits status out) (Exits status' out') h = (h.0, ap (λ o. before ++ o) h.1)
  ends_after before (Exits status out) (Stops out') h = second_after cut before out out' h
  ends_after before (Exits status out) (Comes y s' out') h = absurd h
  ends_after before (Exits status out) (Fails out') h = absurd h
  ends_after before (Stops out) (Stops out') h = both_after cut before out out' h
  ends_after before (Stops out) (Comes y s' out') h = first_after cut before out out' h
  ends_after before (Stops out) (Exits status out') h = first_after cut before out out' h
  ends_after before (Stops out) (Fails out') h = first_after cut before out out' h

pub outcomes_after : {A B : Type 0} (w : Setting) (R : Correspondence → A → B → Type 0) (c : Correspondence) (before : List ℕ) (o : Outcome A) (o' : Outcome B) → RelatedOutcomes w R c o o' → RelatedOutcomes w R c (after before o) (after before o')
outcomes_after w R c before o o' h = ends_after w.first_cut (λ d x s y s'. EndsAt w R d x s y s') c before o o' h

-- ---- another relation of results, another setting

module _ {A B : Type 0} (w : Setting) (R : Correspondence → A → B → Type 0) (c : Correspondence)
    (held : HeldAside) (temps : Correspondence → List ℕ → List ℕ → Type 0)
    (temps_grow : (c d : Correspondence) → Grown c d → (ts us : List ℕ) → temps c ts us → temps d ts us)
    (Q : Correspondence → A → B → Type 0) (b : Correspondence) (from : Grown b c) where
  abbrev other : Setting
  other = record { first_cut = w.first_cut; held = held; temps = temps; temps_grow = temps_grow }

  pub outcomes_to : (o : Outcome A) (o' : Outcome B) → RelatedOutcomes w R c o o' →
      ((d : Correspondence) → Grown c d → (x : A) (y : B) (s s' : State) → R d x y → Related w d s s' → Q d x y × Related other d s s') →
      RelatedOutcomes other Q b o o'
  outcomes_to (Fails out) o' h to = tt
  outcomes_to (Comes x s out) (Comes y s' out') h to =
      let m = h.1 in let t = to m.now m.grown x y s s' m.ends.results m.ends.states in
      (h.0, record { now = m.now; grown = grown_on from m.grown; ends = record { results = t.0; states = t.1 } })
  outcomes_to (Comes x s out) (Stops out') h to = h
  outcomes_to (Comes x s out) (Exits status out') h to = absurd h
  outcomes_to (Comes x s out) (Fails out') h to = absurd h
  outcomes_to (Exits status out) (Exits status' out') h to = h
  outcomes_to (Exits status out) (Stops out') h to = h
  outcomes_to (Exits status out) (Comes y s' out') h to = absurd h
  outcomes_to (Exits status out) (Fails out') h to = absurd h
  outcomes_to (Stops out) (Stops out') h to = h
  outcomes_to (Stops out) (Comes y s' out') h to = h
  outcomes_to (Stops out) (Exits status out') h to = h
  outcomes_to (Stops out) (Fails out') h to = h

pub outcomes_back : {A B : Type 0} (w : Setting) (R : Correspondence → A → B → Type 0) (b c : Correspondence) → Grown b c → (o : Outcome A) (o' : Outcome B) → RelatedOutcomes w R c o o' → RelatedOutcomes w R b o o'
outcomes_back w R b c g o o' h = outcomes_to w R c w.held w.temps w.temps_grow R b g o o' h (λ d g x y s s' r st. (r, st))

-- ---- one after the other

output_after : {A : Type 0} (before : List ℕ) (o : Outcome A) → outcome_output (after before o) ≡ before ++ outcome_output o
output_after before (Comes x s out) = refl
output_after before (Exits status out) = refl
output_after before (Stops out) = refl
output_after before (Fails out) = refl

-- the original's is cut off, and whatever is like this stays so
pub cut_first : {A B : Type 0} (cut : Bool) (End : Correspondence → A → State → B → State → Type 0) (c : Correspondence) (b : Bool) → cut ≡ b → (out : List ℕ) (o : Outcome B) → FirstCut b out (outcome_output o) → Outcomes cut End c (Stops out) o
cut_first cut End c true e out (Comes y s' out') h = subst (λ b. FirstCut b out out') (sym e) h
cut_first cut End c true e out (Exits status out') h = subst (λ b. FirstCut b out out') (sym e) h
cut_first cut End c true e out (Fails out') h = subst (λ b. FirstCut b out out') (sym e) h
cut_first cut End c true e out (Stops out') h = subst (λ b. BothCut b out out') (sym e) h
cut_first cut End c false e out o h = absurd h

cut_second : {A B : Type 0} (cut : Bool) (End : Correspondence → A → State → B → State → Type 0) (c : Correspondence) (b : Bool) → cut ≡ b → (out : List ℕ) (o : Outcome A) → SecondCut b (outcome_output o) out → Outcomes cut End c o (Stops out)
cut_second cut End c true e out o h = absurd h
cut_second cut End c false e out' (Comes y s' out) h = subst (λ b. SecondCut b out out') (sym e) h
cut_second cut End c false e out' (Exits status out) h = subst (λ b. SecondCut b out out') (sym e) h
cut_second cut End c false e out' (Fails out) h = tt
cut_second cut End c false e out' (Stops out) h = subst (λ b. BothCut b out out') (sym e) h

pub first_only : {A B : Type 0} (w : Setting) (R : Correspondence → A → B → Type 0) (c : Correspondence) (b : Bool) → w.first_cut ≡ b → (out : List ℕ) (o : Outcome B) → FirstCut b out (outcome_output o) → RelatedOutcomes w R c (Stops out) o
first_only w R c b e out o h = cut_first w.first_cut (λ d x s y s'. EndsAt w R d x s y s') c b e out o h

pub second_only : {A B : Type 0} (w : Setting) (R : Correspondence → A → B → Type 0) (c : Correspondence) (b : Bool) → w.first_cut ≡ b → (out : List ℕ) (o : Outcome A) → SecondCut b (outcome_output o) out → RelatedOutcomes w R c o (Stops out)
second_only w R c b e out o h = cut_second w.first_cut (λ d x s y s'. EndsAt w R d x s y s') c b e out o h

first_more : (b : Bool) (out longer more : List ℕ) → FirstCut b out longer → FirstCut b out (longer ++ more)
first_more true out longer more h = extends_more out longer more h
first_more false out longer more h = absurd h

second_more : (b : Bool) (out longer more : List ℕ) → SecondCut b longer out → SecondCut b (longer ++ more) out
second_more true out longer more h = absurd h
second_more false out longer more h = extends_more out longer more h

pub ends_back : {A B : Type 0} (cut : Bool) (End : Correspondence → A → State → B → State → Type 0) (b c : Correspondence) → Grown b c → (o : Outcome A) (o' : Outcome B) → Outcomes cut End c o o' → Outcomes cut End b o o'
ends_back cut End b c g (Fails out) o' h = tt
ends_back cut End b c g (Comes x s out) (Comes y s' out') h = let m = h.1 in (h.0, record { now = m.now; grown = grown_on g m.grown; ends = m.ends })
ends_back cut End b c g (Comes x s out) (Stops out') h = h
ends_back cut End b c g (Comes x s out) (Exits status out') h = h
ends_back cut End b c g (Comes x s out) (Fails out') h = h
ends_back cut End b c g (Exits status out) (Exits status' out') h = h
ends_back cut End b c g (Exits status out) (Stops out') h = h
ends_back cut End b c g (Exits status out) (Comes y s' out') h = h
ends_back cut End b c g (Exits status out) (Fails out') h = h
ends_back cut End b c g (Stops out) (Stops out') h = h
ends_back cut End b c g (Stops out) (Comes y s' out') h = h
ends_back cut End b c g (Stops out) (Exits status out') h = h
ends_back cut End b c g (Stops out) (Fails out') h = h

-- ANY two ends: what follows is to take one to the other
module _ {A B X Y : Type 0} (cut : Bool) (End : Correspondence → A → State → B → State → Type 0) (Then : Correspondence → X → State → Y → State → Type 0) (c : Correspondence)
    (h : A → State → Outcome X) (k : B → State → Outcome Y)
    (next : (d : Correspondence) → Grown c d → (x : A) (y : B) (s s' : State) → End d x s y s' → Outcomes cut Then d (h x s) (k y s')) where
  pub ends_followed : (o : Outcome A) (o' : Outcome B) → Outcomes cut End c o o' → Outcomes cut Then c (followed_by o h) (followed_by o' k)
  ends_followed (Fails out) o' r = tt
  ends_followed (Comes x s out) (Comes y s' out') r =
      let m = r.1 in
      subst (λ o. Outcomes cut Then c (after out (h x s)) (after o (k y s'))) r.0
      (ends_after cut Then c out (h x s) (k y s') (ends_back cut Then c m.now m.grown (h x s) (k y s') (next m.now m.grown x y s s' m.ends)))
  ends_followed (Comes x s out) (Stops out') r =
      cut_second cut Then c cut refl out' (after out (h x s))
      (subst (λ o. SecondCut cut o out') (sym (output_after out (h x s))) (second_more cut out' out (outcome_output (h x s)) r))
  ends_followed (Comes x s out) (Exits status out') r = absurd r
  ends_followed (Comes x s out) (Fails out') r = absurd r
  ends_followed (Exits status out) (Exits status' out') r = r
  ends_followed (Exits status out) (Stops out') r = r
  ends_followed (Exits status out) (Comes y s' out') r = absurd r
  ends_followed (Exits status out) (Fails out') r = absurd r
  ends_followed (Stops out) (Stops out') r = r
  ends_followed (Stops out) (Comes y s' out') r =
      cut_first cut Then c cut refl out (after out' (k y s'))
      (subst (λ o. FirstCut cut out o) (sym (output_after out' (k y s'))) (first_more cut out out' (outcome_output (k y s')) r))
  ends_followed (Stops out) (Exits status out') r = r
  ends_followed (Stops out) (Fails out') r = r

pub outcomes_followed : {A B X Y : Type 0} (w : Setting) (R : Correspondence → A → B → Type 0) (Q : Correspondence → X → Y → Type 0) (c : Correspondence)
    (held : HeldAside) (temps : Correspondence → List ℕ → List ℕ → Type 0)
    (temps_grow : (c d : Correspondence) → Grown c d → (ts us : List ℕ) → temps c ts us → temps d ts us)
    (h : A → State → Outcome X) (k : B → State → Outcome Y) →
    ((d : Correspondence) → Grown c d → (x : A) (y : B) (s s' : State) → R d x y → Related w d s s' → RelatedOutcomes (record { first_cut = w.first_cut; held = held; temps = temps; temps_grow = temps_grow }) Q d (h x s) (k y s')) →
    (o : Outcome A) (o' : Outcome B) → RelatedOutcomes w R c o o' → RelatedOutcomes (record { first_cut = w.first_cut; held = held; temps = temps; temps_grow = temps_grow }) Q c (followed_by o h) (followed_by o' k)
outcomes_followed w R Q c held temps temps_grow h k next o o' r =
    ends_followed w.first_cut (λ d x s y s'. EndsAt w R d x s y s') (λ d x s y s'. EndsAt (record { first_cut = w.first_cut; held = held; temps = temps; temps_grow = temps_grow }) Q d x s y s') c h k
    (λ d g x y s s' e. next d g x y s s' e.results e.states) o o' r

pieces_compose_lem : (A B X Y : Type 0) (w : Setting) (R : Correspondence → A → B → Type 0) (Q : Correspondence → X → Y → Type 0) (c : Correspondence)
    (f : State → Outcome A) (g : State → Outcome B) (h : A → State → Outcome X) (k : B → State → Outcome Y) →
    RelatedPieces w R c f g →
    ((d : Correspondence) → Grown c d → (x : A) (y : B) → R d x y → RelatedPieces w Q d (h x) (k y)) →
    RelatedPieces w Q c (f >>= h) (g >>= k)
pieces_compose_lem A B X Y w R Q c f g h k first next = record {
  in_states = λ d grown s s' st.
      outcomes_followed w R Q d w.held w.temps w.temps_grow h k
      (λ e grown' x y t t' r st'. (next e (grown_on grown grown') x y r).in_states e (same_grown e) t t' st')
      (f s) (g s') (first.in_states d grown s s' st);
}

pub pieces_then : {A B X Y : Type 0} {w : Setting} {R : Correspondence → A → B → Type 0} {Q : Correspondence → X → Y → Type 0} {c : Correspondence}
    {f : State → Outcome A} {g : State → Outcome B} {h : A → State → Outcome X} {k : B → State → Outcome Y} →
    RelatedPieces w R c f g →
    ((d : Correspondence) → Grown c d → (x : A) (y : B) → R d x y → RelatedPieces w Q d (h x) (k y)) →
    RelatedPieces w Q c (f >>= h) (g >>= k)
pieces_then {w = w} {R = R} {Q = Q} {c = c} {f = f} {g = g} {h = h} {k = k} first next = pieces_compose_lem _ _ _ _ w R Q c f g h k first next

pub pieces_grow : {A B : Type 0} {w : Setting} {R : Correspondence → A → B → Type 0} {c d : Correspondence} {f : State → Outcome A} {g : State → Outcome B} → Grown c d → RelatedPieces w R c f g → RelatedPieces w R d f g
pieces_grow grown h = record { in_states = λ e g s s' st. h.in_states e (grown_on grown g) s s' st }

-- a result that grows along
pub pieces_give : {A B : Type 0} {w : Setting} {R : Correspondence → A → B → Type 0} {c : Correspondence} {x : A} {y : B} → ((d : Correspondence) → Grown c d → R d x y) → RelatedPieces w R c (give x) (give y)
pieces_give r = record { in_states = λ d g s s' st. (refl, record { now = d; grown = same_grown d; ends = record { results = r d g; states = st } }) }

pub given_outcomes : {A B : Type 0} (w : Setting) (R : Correspondence → A → B → Type 0) (c : Correspondence) (x : Option A) (y : Option B) (s s' : State) → Related w c s s' → WhereGiven (R c) x y → RelatedOutcomes w R c (given x s) (given y s')
given_outcomes w R c None y s s' st r = tt
given_outcomes w R c (Some x) None s s' st r = absurd r
given_outcomes w R c (Some x) (Some y) s s' st r = (refl, record { now = c; grown = same_grown c; ends = record { results = r; states = st } })

pub pieces_given : {A B : Type 0} {w : Setting} {R : Correspondence → A → B → Type 0} {c : Correspondence} (x : Option A) (y : Option B) → ((d : Correspondence) → Grown c d → WhereGiven (R d) x y) → RelatedPieces w R c (given x) (given y)
pieces_given {w = w} {R = R} x y r = record { in_states = λ d g s s' st. given_outcomes w R d x y s s' st (r d g) }

-- where the memory is asked, and what is given by it
pub pieces_asked : {A B : Type 0} {w : Setting} {R : Correspondence → A → B → Type 0} {c : Correspondence} (x : Memory → Option A) (y : Memory → Option B) →
    ((d : Correspondence) → Grown c d → (m m' : Memory) → RelatedMemories w.held d m m' → WhereGiven (R d) (x m) (y m')) →
    RelatedPieces w R c (memory_now >>= (λ m. given (x m))) (memory_now >>= (λ m. given (y m)))
pieces_asked {w = w} {R = R} x y r = record {
  in_states = λ d g s s' st.
      outcomes_after w R d [] (given (x s.memory) s) (given (y s'.memory) s')
      (given_outcomes w R d (x s.memory) (y s'.memory) s s' st (r d g s.memory s'.memory st.memories));
}

pub pieces_choice : {A B : Type 0} {w : Setting} {R : Correspondence → A → B → Type 0} {c : Correspondence} {f h : State → Outcome A} {g k : State → Outcome B} (b b' : Bool) → b ≡ b' → RelatedPieces w R c f g → RelatedPieces w R c h k → RelatedPieces w R c (cond b f h) (cond b' g k)
pieces_choice true true e first second = first
pieces_choice true false e first second = absurd (true≢false e)
pieces_choice false true e first second = absurd (true≢false (sym e))
pieces_choice false false e first second = second

-- where something follows that
pub pieces_asked_then : {A B X Y : Type 0} {w : Setting} {R : Correspondence → A → B → Type 0} {Q : Correspondence → X → Y → Type 0} {c : Correspondence} (x : Memory → Option A) (y : Memory → Option B)
    (h : A → State → Outcome X) (k : B → State → Outcome Y) →
    ((d : Correspondence) → Grown c d → (m m' : Memory) → RelatedMemories w.held d m m' → WhereGiven (R d) (x m) (y m')) →
    ((d : Correspondence) → Grown c d → (a : A) (b : B) → R d a b → RelatedPieces w Q d (h a) (k b)) →
    RelatedPieces w Q c (memory_now >>= (λ m. given (x m) >>= h)) (memory_now >>= (λ m. given (y m) >>= k))
pieces_asked_then {w = w} {R = R} {Q = Q} x y h k r next = record {
  in_states = λ d g s s' st.
      outcomes_after w Q d [] (followed_by (given (x s.memory) s) h) (followed_by (given (y s'.memory) s') k)
      (outcomes_followed w R Q d w.held w.temps w.temps_grow h k
      (λ e g' a b t t' ab st'. (next e (grown_on g g') a b ab).in_states e (same_grown e) t t' st')
      (given (x s.memory) s) (given (y s'.memory) s')
      (given_outcomes w R d (x s.memory) (y s'.memory) s s' st (r d g s.memory s'.memory st.memories)));
}

-- ---- equal pieces, and other relations of results

pub pieces_to : {A B : Type 0} {w : Setting} {R Q : Correspondence → A → B → Type 0} {c : Correspondence} {f : State → Outcome A} {g : State → Outcome B} →
    ((d : Correspondence) → Grown c d → (x : A) (y : B) → R d x y → Q d x y) → RelatedPieces w R c f g → RelatedPieces w Q c f g
pieces_to {w = w} {R = R} {Q = Q} {f = f} {g = g} to h = record {
  in_states = λ d grown s s' st.
      outcomes_to w R d w.held w.temps w.temps_grow Q d (same_grown d) (f s) (g s') (h.in_states d grown s s' st) (λ e g' x y t t' r st'. (to e (grown_on grown g') x y r, st'));
}

pub pieces_equal : {A B : Type 0} {w : Setting} {R : Correspondence → A → B → Type 0} {c : Correspondence} (f f' : State → Outcome A) (g g' : State → Outcome B) →
    ((s : State) → f s ≡ f' s) → ((s : State) → g s ≡ g' s) → RelatedPieces w R c f' g' → RelatedPieces w R c f g
pieces_equal {w = w} {R = R} f f' g g' e e' h = record {
  in_states = λ d grown s s' st.
      subst (λ o. RelatedOutcomes w R d o (g s')) (sym (e s)) (subst (λ o. RelatedOutcomes w R d (f' s) o) (sym (e' s')) (h.in_states d grown s s' st));
}

pub after_nothing : {A : Type 0} (o : Outcome A) → after [] o ≡ o
after_nothing (Comes x s out) = refl
after_nothing (Exits status out) = refl
after_nothing (Stops out) = refl
after_nothing (Fails out) = refl

after_twice : {A : Type 0} (out out' : List ℕ) (o : Outcome A) → after (out ++ out') o ≡ after out (after out' o)
after_twice out out' (Comes x s more) = ap (Comes x s) (append_assoc out out' more)
after_twice out out' (Exits status more) = ap (Exits status) (append_assoc out out' more)
after_twice out out' (Stops more) = ap Stops (append_assoc out out' more)
after_twice out out' (Fails more) = ap Fails (append_assoc out out' more)

after_followed : {A B : Type 0} (out : List ℕ) (o : Outcome A) (g : A → State → Outcome B) → followed_by (after out o) g ≡ after out (followed_by o g)
after_followed out (Comes x s more) g = after_twice out more (g x s)
after_followed out (Exits status more) g = refl
after_followed out (Stops more) g = refl
after_followed out (Fails more) g = refl

pub followed_twice : {A B X : Type 0} (o : Outcome A) (f : A → State → Outcome B) (g : B → State → Outcome X) → followed_by (followed_by o f) g ≡ followed_by o (λ x s. followed_by (f x s) g)
followed_twice (Comes x s out) f g = after_followed out (f x s) g
followed_twice (Exits status out) f g = refl
followed_twice (Stops out) f g = refl
followed_twice (Fails out) f g = refl

pub followed_same : {A B : Type 0} (o : Outcome A) (f g : A → State → Outcome B) → ((x : A) (s : State) → f x s ≡ g x s) → followed_by o f ≡ followed_by o g
followed_same (Comes x s out) f g e = ap (after out) (e x s)
followed_same (Exits status out) f g e = refl
followed_same (Stops out) f g e = refl
followed_same (Fails out) f g e = refl

-- ---- what follows on the side of the result alone

pub followed_give : {A : Type 0} (o : Outcome A) → followed_by o give ≡ o
followed_give (Comes x s out) = ap (Comes x s) (append-nil out)
followed_give (Exits status out) = refl
followed_give (Stops out) = refl
followed_give (Fails out) = refl

pub outcomes_right : {A B Y : Type 0} (w : Setting) (R : Correspondence → A → B → Type 0) (Q : Correspondence → A → Y → Type 0) (c : Correspondence)
    (held : HeldAside) (temps : Correspondence → List ℕ → List ℕ → Type 0)
    (temps_grow : (c d : Correspondence) → Grown c d → (ts us : List ℕ) → temps c ts us → temps d ts us)
    (k : B → State → Outcome Y) →
    ((d : Correspondence) → Grown c d → (x : A) (y : B) (s s' : State) → R d x y → Related w d s s' →
    RelatedOutcomes (record { first_cut = w.first_cut; held = held; temps = temps; temps_grow = temps_grow }) Q d (Comes x s []) (k y s')) →
    (o : Outcome A) (o' : Outcome B) → RelatedOutcomes w R c o o' →
    RelatedOutcomes (record { first_cut = w.first_cut; held = held; temps = temps; temps_grow = temps_grow }) Q c o (followed_by o' k)
outcomes_right w R Q c held temps temps_grow k next o o' h =
    subst (λ o. RelatedOutcomes (record { first_cut = w.first_cut; held = held; temps = temps; temps_grow = temps_grow }) Q c o (followed_by o' k)) (followed_give o)
    (outcomes_followed w R Q c held temps temps_grow give k next o o' h)
