-- The places where something is put in.
use Rattle.std.proofs.Common.{◌≡◌, ℕ, suc, ◌<◌, ◌≤◌, max, min, Bool, true, false, cond, List, [], ◌∷◌, refl, sym, ◌∙◌, ◌⊎◌, inl, inr, arith}
use Rattle.std.specs.Prelude.{nat_lt, All, Contains}
use Rattle.std.specs.List.{AllByRecursion}
use Rattle.std.proofs.lemmas.Bool.{cases_lt, eqb-true, eq-eqb, ltb-true, lt-ltb, cond-true}
use Rattle.std.proofs.lemmas.List.Elements.{All-from_recursion}
use Rattle.file_edits.specs.Edits.{PlainEdit, starts_at}
use Rattle.file_edits.specs.Places.{covered_to, next_start}

-- an edit at an offset with this end
pub record EndsAt (at end : ℕ) (edits : List PlainEdit) : Type 0 where
  pub edit : PlainEdit
  pub among : Contains edits edit
  pub start : edit.span.start ≡ at
  pub is_end : edit.span.end ≡ end

pub covered-least : (end at : ℕ) (edits : List PlainEdit) → end ≤ covered_to end at edits
covered-least end at [] = omega arith
covered-least end at (edit ∷ edits) = by (starts_at at edit) (λ more. covered-least more at edits) where
  by : (t : Bool) → ((more : ℕ) → more ≤ covered_to more at edits) → end ≤ covered_to (cond t (max end edit.span.end) end) at edits
  by true least = let le = least (max end edit.span.end) in omega (arith, le)
  by false least = least end

pub covered-by_recursion : (end at : ℕ) (edits : List PlainEdit) → AllByRecursion (λ edit. edit.span.start ≡ at → edit.span.end ≤ covered_to end at edits) edits
covered-by_recursion end at [] = tt
covered-by_recursion end at (edit ∷ edits) =
    let t = starts_at at edit in
    let more = cond t (max end edit.span.end) end in
    let le = covered-least more at edits in (
      (λ e. let is : more ≡ max end edit.span.end = cond-true t (max end edit.span.end) end (eq-eqb edit.span.start at e) in omega (arith, le, is)),
      covered-by_recursion more at edits,
    )

pub covered-each : (end at : ℕ) (edits : List PlainEdit) → All (λ edit. edit.span.start ≡ at → edit.span.end ≤ covered_to end at edits) edits
covered-each end at edits = All-from_recursion (λ edit. edit.span.start ≡ at → edit.span.end ≤ covered_to end at edits) edits (covered-by_recursion end at edits)

ends-later : (at end : ℕ) (first : PlainEdit) (edits : List PlainEdit) → EndsAt at end edits → EndsAt at end (first ∷ edits)
ends-later at end first edits h = record {
  edit = h.edit;
  among = (suc h.among.0, omega (arith, h.among.1), h.among.2);
  start = h.start;
  is_end = h.is_end;
}

ends-first : (at end : ℕ) (first : PlainEdit) (edits : List PlainEdit) → first.span.start ≡ at → first.span.end ≡ end → EndsAt at end (first ∷ edits)
ends-first at end first edits s e = record { edit = first; among = (0, omega arith, refl); start = s; is_end = e }

pub covered-witness : (end at : ℕ) (edits : List PlainEdit) → (covered_to end at edits ≡ end) ⊎ EndsAt at (covered_to end at edits) edits
covered-witness end at [] = inl refl
covered-witness end at (edit ∷ edits) =
    by (starts_at at edit) refl (covered-witness (cond (starts_at at edit) (max end edit.span.end) end) at edits) where
      larger : starts_at at edit ≡ true → covered_to (max end edit.span.end) at edits ≡ max end edit.span.end → (end < edit.span.end) ⊎ (edit.span.end ≤ end) → (covered_to (max end edit.span.end) at edits ≡ end) ⊎ EndsAt at (covered_to (max end edit.span.end) at edits) (edit ∷ edits)
      larger e is (inl l) = inr (ends-first at _ edit edits (eqb-true edit.span.start at e) (let same : max end edit.span.end ≡ edit.span.end = omega arith in sym (is ∙ same)))
      larger e is (inr l) = inl (let same : max end edit.span.end ≡ end = omega arith in is ∙ same)

      by : (t : Bool) → starts_at at edit ≡ t → (covered_to (cond t (max end edit.span.end) end) at edits ≡ cond t (max end edit.span.end) end) ⊎ EndsAt at (covered_to (cond t (max end edit.span.end) end) at edits) edits → (covered_to (cond t (max end edit.span.end) end) at edits ≡ end) ⊎ EndsAt at (covered_to (cond t (max end edit.span.end) end) at edits) (edit ∷ edits)
      by true e (inl is) = larger e is (cases_lt end edit.span.end)
      by true e (inr h) = inr (ends-later at _ edit edits h)
      by false e (inl is) = inl is
      by false e (inr h) = inr (ends-later at _ edit edits h)

-- the next start
pub next-most : (next at : ℕ) (edits : List PlainEdit) → next_start next at edits ≤ next
next-most next at [] = omega arith
next-most next at (edit ∷ edits) = by (nat_lt at edit.span.start) (λ less. next-most less at edits) where
  by : (t : Bool) → ((less : ℕ) → next_start less at edits ≤ less) → next_start (cond t (min next edit.span.start) next) at edits ≤ next
  by true most = let le = most (min next edit.span.start) in omega (arith, le)
  by false most = most next

pub next-behind : (next at : ℕ) (edits : List PlainEdit) → at < next → at < next_start next at edits
next-behind next at [] h = h
next-behind next at (edit ∷ edits) h =
    next-behind (cond (nat_lt at edit.span.start) (min next edit.span.start) next) at edits (by (nat_lt at edit.span.start) refl) where
      by : (t : Bool) → nat_lt at edit.span.start ≡ t → at < cond t (min next edit.span.start) next
      by true e = let l = ltb-true at edit.span.start e in omega arith
      by false e = h

next-by_recursion : (next at : ℕ) (edits : List PlainEdit) → AllByRecursion (λ edit. at < edit.span.start → next_start next at edits ≤ edit.span.start) edits
next-by_recursion next at [] = tt
next-by_recursion next at (edit ∷ edits) =
    let t = nat_lt at edit.span.start in
    let less = cond t (min next edit.span.start) next in
    let le = next-most less at edits in (
      (λ l. let is : less ≡ min next edit.span.start = cond-true t (min next edit.span.start) next (lt-ltb at edit.span.start l) in omega (arith, le, is)),
      next-by_recursion less at edits,
    )

pub next-each : (next at : ℕ) (edits : List PlainEdit) → All (λ edit. at < edit.span.start → next_start next at edits ≤ edit.span.start) edits
next-each next at edits = All-from_recursion (λ edit. at < edit.span.start → next_start next at edits ≤ edit.span.start) edits (next-by_recursion next at edits)
