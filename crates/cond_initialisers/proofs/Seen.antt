-- What is seen of entries and of conditions under which they are refused.
use Rattle.std.proofs.Common.{◌≡◌, ℕ, zero, suc, ◌+◌, ◌<◌, ◌≤◌, Bool, true, false, List, [], ◌∷◌, length, get_or, drop, refl, sym, ap, ◌∙◌}
use Rattle.std.specs.Prelude.{◌&&◌, ◌||◌, map, is_some, Some, None, if◌then◌else◌}
use Rattle.std.proofs.lemmas.List.{drop_all}
use Rattle.cond_formula.specs.declared.formulas.Formula.{Formula, False}
use Rattle.cond_formula.specs.ConditionLaws.{condition_of-False}
use Rattle.cond_formula.specs.Conditions.{condition_of, value}
use Rattle.conditional.specs.declared.entries.Guarded.{Guarded}
use Rattle.conditional.specs.Entries.{Entry, entries_of, listed, seen, first, under, or_later, some_holds}
use Rattle.conditional.proofs.ListLaws.{item_of}
use Rattle.matched_lists.specs.Matched.{Rule, matched, there, StartsWith, behind, AreThere}
use Rattle.operand_rules.specs.PlainOperandTypes.{reason}
use Rattle.cond_operands.specs.Operands.{ShowsTest}
use Rattle.cond_operands.specs.declared.judgements.Passed.{Passed}
use Rattle.operand_rules.specs.declared.operands.Refused.{Refused}
use Rattle.conditional.specs.declared.outcomes.Outcomes.{Outcomes}
use Rattle.conditional.specs.Judgements as judging
use Rattle.cond_initialisers.specs.Refusals.{Test, is_refusal}
use Rattle.cond_initialisers.specs.declared.rows.Row.{Row}
use Rattle.cond_initialisers.specs.Rows.{row, rows, some_row, rows_in_pairs}

-- ---- refusals

pub some_seen : {P : Type 0} (on : ℕ → Bool) (xs : List (Entry P)) → some_holds on xs ≡ is_some (first (seen on xs))
some_seen on [] = refl
some_seen {P} on (x ∷ xs) = by (value on x.when) (some_seen on xs)
  where
    by : (b : Bool) → some_holds on xs ≡ is_some (first (seen on xs)) → (b || some_holds on xs) ≡ is_some (first (if b then x.what ∷ seen on xs else seen on xs))
    by true e = refl
    by false e = e

pub failed : (on : ℕ → Bool) (t : Test) (tests : Outcomes Passed Refused) → ShowsTest on t tests → some_holds on (listed reason tests.refused) ≡ is_refusal t
failed on (judging.fine x) tests shows = some_seen on (listed reason tests.refused) ∙ ap (λ l. is_some (first l)) shows.shown.not_refused
failed on (judging.refused why) tests shows = some_seen on (listed reason tests.refused) ∙ ap is_some (shows.shown.held refl)

-- ---- rows

pub refused_is : (on : ℕ → Bool) (fs : List Formula) (n : ℕ) → value on (condition_of (get_or fs n False)) ≡ get_or (map (λ g. value on (condition_of g)) fs) n false
refused_is on [] n = ap (value on) condition_of-False
refused_is on (g ∷ fs) zero = refl
refused_is on (g ∷ fs) (suc n) = refused_is on fs n

row_next : (s w r : Bool) (x : List Bool) (rest : List (List Bool)) → r ≡ get_or x 0 false → ((s || (w && r)) || some_row rest) ≡ (s || some_row (if w then x ∷ rest else rest))
row_next true w r x rest e = refl
row_next false true r x rest e = ap (λ b. b || some_row rest) e
row_next false false r x rest e = refl

pub some_row_step : (on : ℕ → Bool) (list : List (Guarded Row)) (x : Guarded Row) (i : ℕ) (s r new : Bool) → i < length list → x ≡ get_or list i x → r ≡ get_or (row on x.what) 0 false
    → new ≡ (s || (value on (condition_of x.when) && r)) → (s || some_row (rows on (drop i list))) ≡ some_row (rows on list) → (new || some_row (rows on (drop (i + 1) list))) ≡ some_row (rows on list)
some_row_step on list x i s r new within is at e before =
    ap (λ b. b || some_row (rows on (drop (i + 1) list))) e
    ∙ (row_next s (value on (condition_of x.when)) r (row on x.what) (rows on (drop (i + 1) list)) at
    ∙ (ap (λ l. s || some_row (rows on l)) (sym (item_of list x i within is)) ∙ before))

or_false : (b : Bool) → (b || false) ≡ b
or_false true = refl
or_false false = refl

pub some_row_end : (on : ℕ → Bool) (list : List (Guarded Row)) (i : ℕ) (s : Bool) → length list ≤ i → (s || some_row (rows on (drop i list))) ≡ some_row (rows on list) → s ≡ some_row (rows on list)
some_row_end on list i s past before = sym (or_false s) ∙ (ap (λ l. s || some_row (rows on l)) (sym (drop_all i list past)) ∙ before)

-- ---- pairs

pub all_there : {T P : Type 0} (on : ℕ → Bool) (form : T → P) (xs : List (Guarded T)) → AreThere on (λ x p. form x ≡ p) xs (seen on (entries_of form xs))
all_there on form [] = refl
all_there {T} {P} on form (x ∷ xs) = by (there on x) (seen on (entries_of form xs)) (all_there on form xs)
  where
    by : (b : Bool) (rest : List P) → AreThere on (λ x p. form x ≡ p) xs rest
        → StartsWith b (λ x p. form x ≡ p) x.what (if b then form x.what ∷ rest else rest) × AreThere on (λ x p. form x ≡ p) xs (behind b (if b then form x.what ∷ rest else rest))
    by true rest e = (refl, e)
    by false rest e = (tt, e)

-- an entry is refused for its part where its row says so
abbrev pub by_rows : Rule (List Bool) ℕ (Unit {0})
by_rows = record { pair = λ p q. first (under (get_or p q false) (tt ∷ [])); first_longer = Some tt; second_longer = None }

pub matched_rows : (rs : List (List Bool)) (ns : List ℕ) → is_some (matched by_rows rs ns) ≡ rows_in_pairs rs ns
matched_rows [] [] = refl
matched_rows [] (n ∷ ns) = refl
matched_rows (r ∷ rs) [] = refl
matched_rows (r ∷ rs) (n ∷ ns) = by (get_or r n false) (matched_rows rs ns)
  where
    by : (b : Bool) → is_some (matched by_rows rs ns) ≡ rows_in_pairs rs ns → is_some (or_later (first (under b (tt ∷ []))) (matched by_rows rs ns)) ≡ (b || rows_in_pairs rs ns)
    by true e = refl
    by false e = e
