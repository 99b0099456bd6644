-- Pairs of numbers tell which identifier declares which, where no two identifiers have one number.
use Rattle.std.proofs.Common.{◌≡◌, ℕ, zero, suc, List, [], ◌∷◌, length, map, refl, ap, sym, subst, ◌∙◌}
use Rattle.std.specs.Prelude.{Some, slice_get, option_map, Contains}
use Rattle.std.proofs.lemmas.Option.{same_Some, none-some, slice_get-map, slice_get_within, slice_get_read, get_or_from_slice_get}
use Rattle.bindings.specs.Judged.{Identified, first_with}
use Rattle.cond_pairings.specs.Pairs.{Pair}
use Rattle.program_occurrences.specs.Occurrences.{UnitNames, or_itself, Occurrence, occurrence_among, occurrences_of}
use Rattle.program_occurrences.specs.Links.{BoundNumber, bound_numbers}
use Rattle.program_occurrences.specs.Laws.{DeclarationsAreOccurrences}
use Rattle.told_occurrences.specs.Told.{number_in, pair_of, pairs_of, HaveSame}
use Rattle.told_occurrences.specs.Laws.{AreToldApart, PairsTellBindings}

-- ---- elements and their places

contained : {A : Type 0} (xs : List A) (k : ℕ) (x : A) → slice_get xs k ≡ Some x → Contains xs x
contained xs k x e = (k, slice_get_within xs k x e, get_or_from_slice_get xs k x x e)

placed : {A : Type 0} (xs : List A) (x : A) (c : Contains xs x) → slice_get xs c.0 ≡ Some x
placed xs x c = slice_get_read xs (length xs) c.0 x refl c.1 (sym c.2)

pub mapped : {A B : Type 0} (f : A → B) (xs : List A) (k : ℕ) (x : A) → slice_get xs k ≡ Some x → slice_get (map f xs) k ≡ Some (f x)
mapped f xs k x e = slice_get-map f xs k ∙ ap (option_map f) e

-- what stands at a place before and is mapped so
pub record Source {A B : Type 0} (f : A → B) (xs : List A) (k : ℕ) (y : B) : Type 0 where
  pub source : A
  pub at : slice_get xs k ≡ Some source
  pub is : f source ≡ y

pub source_of : {A B : Type 0} (f : A → B) (xs : List A) (k : ℕ) (y : B) → slice_get (map f xs) k ≡ Some y → Source f xs k y
source_of f [] k y e = absurd (none-some y e)
source_of f (x ∷ xs) zero y e = record { source = x; at = refl; is = same_Some (f x) y e }
source_of f (x ∷ xs) (suc k) y e = let s = source_of f xs k y e in record { source = s.source; at = s.at; is = s.is }

one_there : {A : Type 0} (xs : List A) (j k : ℕ) (x y : A) → j ≡ k → slice_get xs j ≡ Some x → slice_get xs k ≡ Some y → x ≡ y
one_there xs j k x y same e f = same_Some x y (sym e ∙ ap (slice_get xs) same ∙ f)

-- ---- numbers

abbrev number_of : Identified → ℕ
number_of i = i.number

abbrev bound_number : Occurrence → BoundNumber
bound_number o = record { identifier = o.identifier.number; declared_by = o.declared_by.number }

abbrev told_by : List ℕ → BoundNumber → Pair
told_by numbers b = record { identifier = number_in numbers b.identifier; declared_by = number_in numbers b.declared_by }

told : (numbers : List ℕ) (os : List Occurrence) → map (pair_of numbers) os ≡ map (told_by numbers) (map bound_number os)
told numbers [] = refl
told numbers (o ∷ os) = ap (λ l. pair_of numbers o ∷ l) (told numbers os)

-- lists of identifiers with the same numbers are bound alike if those at each place are
bound_so :
    (all others xs ys : List Identified) → map number_of xs ≡ map number_of ys
    → ((k : ℕ) (a b : Identified) → slice_get xs k ≡ Some a → slice_get ys k ≡ Some b → bound_number (occurrence_among all a) ≡ bound_number (occurrence_among others b))
    → map bound_number (map (occurrence_among all) xs) ≡ map bound_number (map (occurrence_among others) ys)
bound_so all others [] [] e h = refl
bound_so all others [] (b ∷ ys) e h = absurd cc
bound_so all others (a ∷ xs) [] e h = absurd cc
bound_so all others (a ∷ xs) (b ∷ ys) e h =
    let rest : map number_of xs ≡ map number_of ys = cc in
    let first : bound_number (occurrence_among all a) ≡ bound_number (occurrence_among others b) = h zero a b refl refl in
    let later : map bound_number (map (occurrence_among all) xs) ≡ map bound_number (map (occurrence_among others) ys) = bound_so all others xs ys rest (λ k c d. h (suc k) c d) in
    cc

module _ (declared : DeclarationsAreOccurrences) (numbers : List ℕ) (before after : UnitNames) (same : map number_of before.identified ≡ map number_of after.identified) (differ : AreToldApart numbers before) where
  abbrev xs : List Identified
  xs = before.identified

  abbrev ys : List Identified
  ys = after.identified

  -- what declares an identifier is one of the unit
  declaring : (unit : UnitNames) (k : ℕ) (a : Identified) → slice_get unit.identified k ≡ Some a → (m : ℕ) × (slice_get unit.identified m ≡ Some (or_itself a (first_with a.entity unit.identified)))
  declaring unit k a e =
      let o : Occurrence = occurrence_among unit.identified a in
      let d = declared unit o (contained (occurrences_of unit) k o (mapped (occurrence_among unit.identified) unit.identified k a e)) in
      let there = source_of (occurrence_among unit.identified) unit.identified d.among.0 d.declaration (placed (occurrences_of unit) d.declaration d.among) in
      let is : there.source ≡ o.declared_by = ap (λ (p : Occurrence). p.identifier) there.is ∙ d.identifier in
      (d.among.0, there.at ∙ ap Some is)

  -- one number in the stream, one number in the unit
  one_number : (j k : ℕ) (a b : Identified) → slice_get xs j ≡ Some a → slice_get ys k ≡ Some b → number_in numbers a.number ≡ number_in numbers b.number → (j ≡ k) × (a.number ≡ b.number)
  one_number j k a b e f one =
      let there = source_of number_of xs k b.number (ap (λ l. slice_get l k) same ∙ mapped number_of ys k b f) in
      let place : j ≡ k = differ.apart j k a there.source e there.at (one ∙ ap (number_in numbers) (sym there.is)) in
      (place, ap number_of (one_there xs j k a there.source place e there.at) ∙ there.is)

  module _ (pairs : HaveSame (pairs_of numbers before) (pairs_of numbers after)) where
    here : (k : ℕ) (a b : Identified) → slice_get xs k ≡ Some a → slice_get ys k ≡ Some b → bound_number (occurrence_among xs a) ≡ bound_number (occurrence_among ys b)
    here k a b e f =
        let o : Occurrence = occurrence_among xs a in
        let at : slice_get (pairs_of numbers before) k ≡ Some (pair_of numbers o) = mapped (pair_of numbers) (occurrences_of before) k o (mapped (occurrence_among xs) xs k a e) in
        let c = (pairs (pair_of numbers o)).0 (contained (pairs_of numbers before) k (pair_of numbers o) at) in
        let p = source_of (pair_of numbers) (occurrences_of after) c.0 (pair_of numbers o) (placed (pairs_of numbers after) (pair_of numbers o) c) in
        let q = source_of (occurrence_among ys) ys c.0 p.source p.at in
        let is : pair_of numbers (occurrence_among ys q.source) ≡ pair_of numbers o = ap (pair_of numbers) q.is ∙ p.is in
        let own = one_number k c.0 a q.source e q.at (sym (ap (λ (x : Pair). x.identifier) is)) in
        let other : q.source ≡ b = one_there ys c.0 k q.source b (sym own.0) q.at f in
        let d = declaring before k a e in
        let g = declaring after c.0 q.source q.at in
        let by = one_number d.0 g.0 (or_itself a (first_with a.entity xs)) (or_itself q.source (first_with q.source.entity ys)) d.1 g.1 (sym (ap (λ (x : Pair). x.declared_by) is)) in
        let left : a.number ≡ b.number = own.1 ∙ ap number_of other in
        let right : (or_itself a (first_with a.entity xs)).number ≡ (or_itself b (first_with b.entity ys)).number =
        subst (λ (i : Identified). (or_itself a (first_with a.entity xs)).number ≡ (or_itself i (first_with i.entity ys)).number) other by.1 in
        cc

    bound : bound_numbers before ≡ bound_numbers after
    bound = bound_so xs ys xs ys same here

same_pairs : (some others : List Pair) → some ≡ others → HaveSame some others
same_pairs some others e x = (subst (λ l. Contains l x) e, subst (λ l. Contains l x) (sym e))

pub pairs-tell : DeclarationsAreOccurrences → PairsTellBindings
pairs-tell declared numbers before after same differ = (
  bound declared numbers before after same differ,
  λ e. same_pairs (pairs_of numbers before) (pairs_of numbers after) (told numbers (occurrences_of before) ∙ ap (map (told_by numbers)) e ∙ sym (told numbers (occurrences_of after))),
)
