-- The stored clauses.
use Rattle.std.proofs.Common.{◌≡◌, ℕ, zero, suc, ◌+◌, ◌-◌, ◌<◌, ◌≤◌, ℤ, Bool, List, [], ◌∷◌, ◌++◌, length, get_or, take, drop, slice_get, slice_range, Some, All, refl, sym, ap, ◌∙◌, arith}
use Rattle.std.proofs.Math.Seq.{drop-append_seam}
use Rattle.std.proofs.lemmas.List.{map-append, drop-append-le, take-append-le, take_all, length-drop}
use Rattle.std.proofs.lemmas.List.Elements.{All-take, All-drop, All-head, All-tail}
use Rattle.refute_check.specs.declared.store.Stored.{Stored}
use Rattle.refute_check.specs.Clauses.{variable_of}
use Rattle.refute_check.specs.Entries.{entry, clauses_of}
use Rattle.refute_check.specs.Storage.{entry_at, entries_in, AreWithin, AreOver}
use Rattle.refute_check.specs.Steps.{clause_at}

got_clause : (literals : List ℤ) (clauses : List Stored) (index : ℕ) (stored : Stored) → index < length clauses → stored ≡ get_or clauses index stored → slice_get (clauses_of (entries_in literals clauses)) index ≡ Some (slice_range literals stored.start stored.end)
got_clause literals [] index stored within is = absurd (omega arith)
got_clause literals (first ∷ rest) zero stored within is = ap (λ (s : Stored). Some (slice_range literals s.start s.end)) (sym is)
got_clause literals (first ∷ rest) (suc index) stored within is = got_clause literals rest index stored (omega arith) is

-- the clause that a number finds
pub clause_at-stored : (literals : List ℤ) (clauses : List Stored) (number index : ℕ) (stored : Stored) → 1 ≤ number → index ≡ number - 1 → index < length clauses → stored ≡ get_or clauses index stored → Some (slice_range literals stored.start stored.end) ≡ clause_at (clauses_of (entries_in literals clauses)) number
clause_at-stored literals clauses zero index stored some is within at = absurd (omega arith)
clause_at-stored literals clauses (suc n) index stored some is within at =
    let same : n ≡ index = omega arith in
    rw same (sym (got_clause literals clauses index stored within at))

over_range : (vars : ℕ) (literals : List ℤ) (i j : ℕ) → AreOver vars literals → AreOver vars (slice_range literals i j)
over_range vars literals i j over = record {
  each = All-take (λ (literal : ℤ). variable_of literal ≤ vars) (j - i) (drop i literals) (All-drop (λ (literal : ℤ). variable_of literal ≤ vars) i literals over.each);
}

got_over : (vars : ℕ) (literals : List ℤ) (clauses : List Stored) (index : ℕ) (clause : List ℤ) → AreOver vars literals → Some clause ≡ slice_get (clauses_of (entries_in literals clauses)) index → AreOver vars clause
got_over vars literals [] index clause over is = cc
got_over vars literals (first ∷ rest) zero clause over is =
    let same : clause ≡ slice_range literals first.start first.end = cc in
    rw same (over_range vars literals first.start first.end over)
got_over vars literals (first ∷ rest) (suc index) clause over is = got_over vars literals rest index clause over is

-- the variables of a stored clause
pub clause_over : (vars : ℕ) (literals : List ℤ) (clauses : List Stored) (number : ℕ) (clause : List ℤ) → AreOver vars literals → Some clause ≡ clause_at (clauses_of (entries_in literals clauses)) number → AreOver vars clause
clause_over vars literals clauses zero clause over is = cc
clause_over vars literals clauses (suc index) clause over is = got_over vars literals clauses index clause over is

kept_range : (literals more : List ℤ) (i j : ℕ) → i ≤ j → j ≤ length literals → slice_range (literals ++ more) i j ≡ slice_range literals i j
kept_range literals more i j ordered within =
    ap (take (j - i)) (drop-append-le i literals more (omega arith)) ∙ take-append-le (j - i) (drop i literals) more (omega (arith, length-drop i literals))

kept_entries : (literals more : List ℤ) (clauses : List Stored) → All (λ (s : Stored). s.start ≤ s.end) clauses → All (λ (s : Stored). s.end ≤ length literals) clauses → entries_in (literals ++ more) clauses ≡ entries_in literals clauses
kept_entries literals more [] ordered within = refl
kept_entries literals more (first ∷ rest) ordered within =
    rw (
      kept_range literals more first.start first.end (All-head (λ (s : Stored). s.start ≤ s.end) first rest ordered) (All-head (λ (s : Stored). s.end ≤ length literals) first rest within),
      kept_entries literals more rest (All-tail (λ (s : Stored). s.start ≤ s.end) first rest ordered) (All-tail (λ (s : Stored). s.end ≤ length literals) first rest within),
    )

new_range : (literals more : List ℤ) → slice_range (literals ++ more) (length literals) (length literals + length more) ≡ more
new_range literals more =
    ap (take (length literals + length more - length literals)) (drop-append_seam literals more) ∙ take_all (length literals + length more - length literals) more (omega arith)

-- one more clause at the end
pub entries-stored : (literals more : List ℤ) (clauses : List Stored) (derived : Bool) → AreWithin literals clauses → entries_in (literals ++ more) (clauses ++ record { start = length literals; end = length literals + length more; derived = derived } ∷ []) ≡ entries_in literals clauses ++ entry more derived ∷ []
entries-stored literals more clauses derived are =
    map-append (entry_at (literals ++ more)) clauses (record { start = length literals; end = length literals + length more; derived = derived } ∷ [])
    ∙ rw (kept_entries literals more clauses are.ordered are.within, new_range literals more)
