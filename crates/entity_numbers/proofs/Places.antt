-- Where the first identifiers have the same numbers, they stand at the same places.
use Rattle.std.proofs.Common.{◌≡◌, ℕ, suc, ◌≤◌, Bool, true, false, List, [], ◌∷◌, ◌++◌, refl, sym, ap, subst, ◌∙◌, arith}
use Rattle.std.specs.Prelude.{Option, Some, None, option_map, if◌then◌else◌, ◌==◌}
use Rattle.std.specs.List.{AllZip}
use Rattle.std.specs.Cmp.Lexicographic.{bytes_decides}
use Rattle.std.proofs.lemmas.Bool.{eq-eqb, and_from}
use Rattle.std.proofs.lemmas.List.{append_assoc}
use Rattle.core_meaning.specs.Checking.{Entity, local_entity, local_of_function, file_entity, struct_entity, member_entity, own_entity, Binding}
use Rattle.bindings.specs.Judged.{same_entity, Identified, first_with, number_or}
use Rattle.entity_numbers.specs.Numbered.{first_place, HaveSameFirsts}
use Rattle.entity_numbers.specs.Firsts.{AreOf, AreInOrder, first_number, AreFirstAlike}
use Rattle.entity_numbers.specs.Laws.{FirstsAreBoundAlike}
use Rattle.entity_numbers.proofs.Matched.{numbered_are_bound_alike}

-- ---- the first among all is the first up to the identifier itself

none_own : (all : List Identified) → first_with own_entity all ≡ None
none_own [] = refl
none_own (i ∷ rest) = by i.entity (none_own rest)
  where
    by : (e : Entity) → first_with own_entity rest ≡ None → (if same_entity e own_entity then Some i else first_with own_entity rest) ≡ None
    by (local_entity n) h = h
    by (local_of_function f n) h = h
    by (file_entity a) h = h
    by (struct_entity n) h = h
    by (member_entity s n) h = h
    by own_entity h = h

own_or_itself : (e : Entity) (i : Identified) (rest : List Identified) → same_entity e e ≡ true → number_or (if same_entity e e then Some i else first_with e rest) i.number ≡ i.number
own_or_itself e i rest is = by (same_entity e e) is
  where
    by : (b : Bool) → b ≡ true → number_or (if b then Some i else first_with e rest) i.number ≡ i.number
    by true is = refl
    by false is = absurd cc

first_of_itself : (e : Entity) (i : Identified) (rest : List Identified) → number_or (if same_entity e e then Some i else first_with e rest) i.number ≡ i.number
first_of_itself (local_entity n) i rest = own_or_itself (local_entity n) i rest (eq-eqb n n refl)
first_of_itself (local_of_function f n) i rest = own_or_itself (local_of_function f n) i rest (and_from (f == f) (n == n) (eq-eqb f f refl) (eq-eqb n n refl))
first_of_itself (file_entity a) i rest = own_or_itself (file_entity a) i rest ((bytes_decides a a).1 refl)
first_of_itself (struct_entity n) i rest = own_or_itself (struct_entity n) i rest (eq-eqb n n refl)
first_of_itself (member_entity s n) i rest = own_or_itself (member_entity s n) i rest (and_from (s == s) (n == n) (eq-eqb s s refl) (eq-eqb n n refl))
first_of_itself own_entity i rest = ap (λ o. number_or o i.number) (none_own rest)

first_up_to : (before : List Identified) (i : Identified) (rest : List Identified) → first_number (before ++ i ∷ rest) i ≡ number_or (first_with i.entity before) i.number
first_up_to [] i rest = first_of_itself i.entity i rest
first_up_to (x ∷ xs) i rest = by (same_entity x.entity i.entity) (first_up_to xs i rest)
  where
    by :
        (b : Bool) → first_number (xs ++ i ∷ rest) i ≡ number_or (first_with i.entity xs) i.number
        → number_or (if b then Some x else first_with i.entity (xs ++ i ∷ rest)) i.number ≡ number_or (if b then Some x else first_with i.entity xs) i.number
    by true h = refl
    by false h = h

-- ---- numbers and places

-- the identifiers before one have lesser numbers
abbrev AreBelow : ℕ → ℕ → List Identified → Type 0
AreBelow from n [] = from ≤ n
AreBelow from n (i ∷ rest) = (from ≤ i.number) × AreBelow (suc i.number) n rest

below_first : (from n : ℕ) (xs : List Identified) (e : Entity) → AreBelow from n xs → from ≤ number_or (first_with e xs) n
below_first from n [] e h = h
below_first from n (x ∷ xs) e h = by (same_entity x.entity e) (below_first (suc x.number) n xs e h.1)
  where
    by : (b : Bool) → suc x.number ≤ number_or (first_with e xs) n → from ≤ number_or (if b then Some x else first_with e xs) n
    by true g = h.0
    by false g = let less : from ≤ x.number = h.0 in omega (arith, g, less)

below_more : (from n : ℕ) (xs : List Identified) (i : Identified) → i.number ≡ n → AreBelow from n xs → AreBelow from (suc n) (xs ++ i ∷ [])
below_more from n [] i e h = (subst (λ m. from ≤ m) (sym e) h, let same_ : i.number ≡ n = e in omega (arith, same_))
below_more from n (x ∷ xs) i e h = (h.0, below_more (suc x.number) n xs i e h.1)

below_further : (from n m : ℕ) (xs : List Identified) → n ≤ m → AreBelow from n xs → AreBelow from m xs
below_further from n m [] less h = omega (arith, less, h)
below_further from n m (x ∷ xs) less h = (h.0, below_further (suc x.number) n m xs less h.1)

same_place :
    (from n : ℕ) (xs ys : List Identified) (before others : List Binding) (a b : Entity) → AreBelow from n xs → AreBelow from n ys → AllZip (λ (i j : Identified). i.number ≡ j.number) xs ys
    → AreOf xs before → AreOf ys others → number_or (first_with a xs) n ≡ number_or (first_with b ys) n → first_place a before ≡ first_place b others
same_place from n [] [] [] [] a b f g s x y e = refl
same_place from n (i ∷ xs) (j ∷ ys) (p ∷ before) (q ∷ others) a b f g s x y e =
    subst (λ c. (if same_entity c a then Some 0 else option_map (λ m. suc m) (first_place a before)) ≡ first_place b (q ∷ others)) x.0
    (subst (λ c. (if same_entity i.entity a then Some 0 else option_map (λ m. suc m) (first_place a before)) ≡ (if same_entity c b then Some 0 else option_map (λ m. suc m) (first_place b others))) y.0
    (by (same_entity i.entity a) (same_entity j.entity b) (same_place (suc i.number) n xs ys before others a b f.1 (subst (λ m. AreBelow (suc m) n ys) (sym s.0) g.1) s.1 x.1 y.1)
    (below_first (suc i.number) n xs a f.1) (below_first (suc j.number) n ys b g.1) e))
  where
    by :
        (c d : Bool) → (number_or (first_with a xs) n ≡ number_or (first_with b ys) n → first_place a before ≡ first_place b others)
        → suc i.number ≤ number_or (first_with a xs) n → suc j.number ≤ number_or (first_with b ys) n
        → number_or (if c then Some i else first_with a xs) n ≡ number_or (if d then Some j else first_with b ys) n
        → (if c then Some 0 else option_map (λ m. suc m) (first_place a before)) ≡ (if d then Some 0 else option_map (λ m. suc m) (first_place b others))
    by true true further less more_ e = refl
    by true false further less more_ e = let numbers : i.number ≡ j.number = s.0 in let now : i.number ≡ number_or (first_with b ys) n = e in absurd (omega (arith, numbers, now, more_))
    by false true further less more_ e = let numbers : i.number ≡ j.number = s.0 in let now : number_or (first_with a xs) n ≡ j.number = e in absurd (omega (arith, numbers, now, less))
    by false false further less more_ e = ap (option_map (λ m. suc m)) (further e)
same_place from n [] [] [] (q ∷ others) a b f g s x y e = absurd y
same_place from n [] [] (p ∷ before) others a b f g s x y e = absurd x
same_place from n [] (j ∷ ys) before others a b f g s x y e = absurd s
same_place from n (i ∷ xs) [] before others a b f g s x y e = absurd s
same_place from n (i ∷ xs) (j ∷ ys) [] others a b f g s x y e = absurd x
same_place from n (i ∷ xs) (j ∷ ys) (p ∷ before) [] a b f g s x y e = absurd y

-- one without a place is the first itself
pub is_first :
    (xs : List Identified) (before : List Binding) (e : Entity) (n : ℕ) → AreOf xs before → first_place e before ≡ None → number_or (first_with e xs) n ≡ n
is_first [] [] e n x none_ = refl
is_first [] (p ∷ before) e n x none_ = absurd x
is_first (i ∷ xs) [] e n x none_ = absurd x
is_first (i ∷ xs) (p ∷ before) e n x none_ =
    by (same_entity i.entity e) (λ h. is_first xs before e n x.1 h)
    (subst (λ c. (if same_entity c e then Some 0 else option_map (λ m. suc m) (first_place e before)) ≡ None) (sym x.0) none_)
  where
    still : (o : Option ℕ) → option_map (λ m. suc m) o ≡ None → o ≡ None
    still None h = refl
    still (Some m) h = absurd cc

    by :
        (b : Bool) → (first_place e before ≡ None → number_or (first_with e xs) n ≡ n) → (if b then Some 0 else option_map (λ m. suc m) (first_place e before)) ≡ None
        → number_or (if b then Some i else first_with e xs) n ≡ n
    by true further h = absurd cc
    by false further h = further (still (first_place e before) h)

-- ---- identifier by identifier

pub of_more : (xs : List Identified) (before : List Binding) (i : Identified) (b : Binding) → AreOf xs before → i.entity ≡ b.entity → AreOf (xs ++ i ∷ []) (before ++ b ∷ [])
of_more [] [] i b x e = (e, tt)
of_more [] (p ∷ before) i b x e = absurd x
of_more (x ∷ xs) [] i b h e = absurd h
of_more (x ∷ xs) (p ∷ before) i b h e = (h.0, of_more xs before i b h.1 e)

numbers_more :
    (xs ys : List Identified) (i j : Identified) → AllZip (λ (i j : Identified). i.number ≡ j.number) xs ys → i.number ≡ j.number
    → AllZip (λ (i j : Identified). i.number ≡ j.number) (xs ++ i ∷ []) (ys ++ j ∷ [])
numbers_more [] [] i j h e = (e, tt)
numbers_more [] (y ∷ ys) i j h e = absurd h
numbers_more (x ∷ xs) [] i j h e = absurd h
numbers_more (x ∷ xs) (y ∷ ys) i j h e = (h.0, numbers_more xs ys i j h.1 e)

matched :
    (from : ℕ) (xs ys rest behind : List Identified) (before others : List Binding) (i j : Identified) (a b : Entity) → i.entity ≡ a → j.entity ≡ b → AreBelow 0 from xs → AreBelow 0 from ys → from ≤ i.number
    → AllZip (λ (i j : Identified). i.number ≡ j.number) xs ys → AreOf xs before → AreOf ys others → AreFirstAlike (xs ++ i ∷ rest) (ys ++ j ∷ behind) i j → first_place a before ≡ first_place b others
matched from xs ys rest behind before others i j a b p q f g less s x y h =
    let first_ : number_or (first_with i.entity xs) i.number ≡ number_or (first_with j.entity ys) i.number =
    sym (first_up_to xs i rest) ∙ h.first ∙ first_up_to ys j behind ∙ ap (number_or (first_with j.entity ys)) (sym h.number) in
    let place : first_place i.entity before ≡ first_place j.entity others =
    same_place 0 i.number xs ys before others i.entity j.entity (below_further 0 from i.number xs less f) (below_further 0 from i.number ys less g) s x y first_ in
    ap (λ e. first_place e before) (sym p) ∙ place ∙ ap (λ e. first_place e others) q

matched_from :
    (from : ℕ) (all whole xs ys rest behind : List Identified) (before others js ks : List Binding) → all ≡ xs ++ rest → whole ≡ ys ++ behind → AreBelow 0 from xs → AreBelow 0 from ys
    → AllZip (λ (i j : Identified). i.number ≡ j.number) xs ys → AreOf xs before → AreOf ys others → AreInOrder from rest → AreOf rest js → AreOf behind ks → AllZip (AreFirstAlike all whole) rest behind
    → HaveSameFirsts before others js ks
matched_from from all whole xs ys [] [] before others [] [] d e f g s x y o u v h = tt
matched_from from all whole xs ys (i ∷ rest) (j ∷ behind) before others (p ∷ js) (q ∷ ks) d e f g s x y o u v h =
    let number_ : i.number ≡ j.number = h.0.number in
    let f' : AreBelow 0 i.number xs = below_further 0 from i.number xs o.0 f in
    let g' : AreBelow 0 i.number ys = below_further 0 from i.number ys o.0 g in (
      matched from xs ys rest behind before others i j p.entity q.entity u.0 v.0 f g o.0 s x y (subst (λ l. AreFirstAlike l (ys ++ j ∷ behind) i j) d (subst (λ l. AreFirstAlike all l i j) e h.0)),
      matched_from (suc i.number) all whole (xs ++ i ∷ []) (ys ++ j ∷ []) rest behind (before ++ p ∷ []) (others ++ q ∷ []) js ks
          (d ∙ sym (append_assoc xs (i ∷ []) rest)) (e ∙ sym (append_assoc ys (j ∷ []) behind)) (below_more 0 i.number xs i refl f') (below_more 0 i.number ys j (sym number_) g')
          (numbers_more xs ys i j s number_) (of_more xs before i p x u.0) (of_more ys others j q y v.0) o.1 u.1 v.1 h.1,
    )
matched_from from all whole xs ys [] [] before others [] (q ∷ ks) d e f g s x y o u v h = absurd v
matched_from from all whole xs ys [] [] before others (p ∷ js) ks d e f g s x y o u v h = absurd u
matched_from from all whole xs ys [] (j ∷ behind) before others js ks d e f g s x y o u v h = absurd h
matched_from from all whole xs ys (i ∷ rest) [] before others js ks d e f g s x y o u v h = absurd h
matched_from from all whole xs ys (i ∷ rest) (j ∷ behind) before others [] ks d e f g s x y o u v h = absurd u
matched_from from all whole xs ys (i ∷ rest) (j ∷ behind) before others (p ∷ js) [] d e f g s x y o u v h = absurd v

pub firsts_are_bound_alike : FirstsAreBoundAlike
firsts_are_bound_alike named counts identified others bindings behind x y o h f g kinds of_unit used names =
    numbered_are_bound_alike named counts bindings behind f g
    (matched_from 0 identified others [] [] identified others [] [] bindings behind refl refl (omega arith) (omega arith) tt tt tt o x y h) kinds of_unit used names
