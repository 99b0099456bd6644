-- Pairs of structs whose comparison is complete, and types that are compatible by them.
use Rattle.std.proofs.Common.{◌≡◌, ℕ, ◌+◌, ◌<◌, ◌≤◌, true, false, List, [], length, get_or, take, refl, sym, ap, ◌∙◌, subst, arith}
use Rattle.std.proofs.lemmas.List.{take-append-le, take_all, length-append}
use Rattle.std.proofs.lemmas.List.Elements.{All-contains, All-contains_itself, All-more, All-nil}
use Rattle.std.specs.List.{All, Contains}
use Rattle.c_types.specs.declared.pairs.Pair.{Pair}
use Rattle.c_types.specs.Types.{PlainType}
use Rattle.c_types.specs.Tags.{PlainTag}
use Rattle.c_types.specs.Compatible.{Agree, PairAgrees, Compatible}
use Rattle.c_types.specs.Pairs.{Notes, Closure, Compared}
use Rattle.c_types.proofs.PairLaws.{contains_front, agree_with_more, pair_with_more}

module _ (first second : List PlainTag) (start : List Pair) where
  pub compared_start : Compared first second start 0 start
  compared_start = record {
    within = omega arith;
    included = All-contains_itself start;
    agree = All-nil (PairAgrees first second start);
    least = λ closure. closure.included;
  }

  pub compared_all : (done : ℕ) (found : List Pair) → Compared first second start done found → length found ≤ done → Closure first second start
  compared_all done found c past =
      record { pairs = found; included = c.included; closed = rw take_all at c.agree }

  module _ (done : ℕ) (p : Pair) (found new : List Pair) (c : Compared first second start done found) (inside : done < length found) (at_p : p ≡ get_or found done p) where
    contained : Contains found p
    contained = (done, inside, sym at_p)

    pub compared_failed : Notes (λ pairs. PairAgrees first second pairs p) found new false → Closure first second start → ⊥
    compared_failed notes closure =
        let in_closure = All-contains (Contains closure.pairs) found p (c.least closure) contained in
        let agrees = All-contains (PairAgrees first second closure.pairs) closure.pairs p closure.closed in_closure in
        let failed = notes.least closure.pairs (c.least closure) agrees in
        absurd cc

    pub compared_more : Notes (λ pairs. PairAgrees first second pairs p) found new true → Compared first second start (done + 1) new
    compared_more notes =
        let front = contains_front found new notes.more notes.kept in
        let P = PairAgrees first second new in
        record {
          within = omega (arith, ap length notes.kept, length-append found notes.more);
          included = λ k d h. All-contains (Contains new) found _ front (c.included k d h);
          agree =
              let here : P (get_or found done p) = rw (← at_p) (notes.enough refl) in
              let more = All-more P found done p inside (λ k d h. pair_with_more first second found new _ front (c.agree k d h)) here in
              let same : take (done + 1) new ≡ take (done + 1) found = ap (take (done + 1)) notes.kept ∙ take-append-le (done + 1) found notes.more (omega arith) in
              subst (λ (xs : List Pair). All P xs) (sym same) more;
          least = λ closure.
              let in_closure = All-contains (Contains closure.pairs) found p (c.least closure) contained in
              let agrees = All-contains (PairAgrees first second closure.pairs) closure.pairs p closure.closed in_closure in
              (notes.least closure.pairs (c.least closure) agrees).1;
        }

module _ (first second : List PlainTag) (a b : PlainType) (found : List Pair) where
  pub compatible_by : Notes (λ pairs. Agree pairs a b) [] found true → Closure first second found → Compatible first second a b
  compatible_by notes closure =
      record { pairs = closure.pairs; agree = agree_with_more found closure.pairs a b closure.included (notes.enough refl); closed = closure.closed }

  pub closure_of : Notes (λ pairs. Agree pairs a b) [] found true → Compatible first second a b → Closure first second found
  closure_of notes h =
      record { pairs = h.pairs; included = (notes.least h.pairs (All-nil (Contains h.pairs)) h.agree).1; closed = h.closed }

  pub not_compatible : Notes (λ pairs. Agree pairs a b) [] found false → Compatible first second a b → ⊥
  not_compatible notes h =
      let failed = notes.least h.pairs (All-nil (Contains h.pairs)) h.agree in
      absurd cc
