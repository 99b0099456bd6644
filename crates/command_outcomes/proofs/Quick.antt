-- `quick` comes to something: a file that isn't taken has a place of its first fault.
use Rattle.std.proofs.Common.{◌≡◌, inl, inr, ℕ, zero, suc, ◌+◌, ◌-◌, ◌<◌, ◌≤◌, Bool, true, false, ◌||◌, List, [], ◌∷◌, length, take, map, Option, Some, None, refl, subst, arith}
use Rattle.std.specs.Prelude.{if◌then◌else◌}
use Rattle.std.specs.List.{list_any}
use Rattle.std.specs.Str.{bytes_eq}
use Rattle.std.proofs.lemmas.Bool.{cases_lt, or_parts, or_from}
use Rattle.std.proofs.lemmas.List.{take_all}
use Rattle.quick_form.specs.Symbols.{Symbol, symbols_of, tested_names, uses, mentions}
use Rattle.quick_form.specs.Form.{IsWritten, IsForm, no_item, declared_names}
use Rattle.quick_form.specs.Quick.{Takes}
use Rattle.quick_form.specs.Places.{IsFormPrefix, Departs, BreaksOff, IsLeast, IsFaultOfText, IsFaultOfForm, Placed, name_of, placed_symbols, first_name, first_mention, first_tested, IsPlace, faulty_form, new_occurs, tested_occurs, old_undeclared, PlacedSymbolsAreSpelled}
use Rattle.quick_form.proofs.PlaceLemmas.{shorter_begins, shorter_front}
use Rattle.quick_rename.specs.Laws.{TakingIsDecided}
use Rattle.command_promises.specs.Courses.{Course}
use Rattle.command_quick.specs.Quick.{renames, refuses_at, Does}
use Rattle.command_outcomes.specs.Laws.{QuickConcludes}
use Rattle.command_outcomes.proofs.Courses.{file_with, says_so, reads_next}

-- ---- names

none_named : (p : Symbol → Bool) (ks : List Placed) → first_name p ks ≡ None → list_any p (map (λ k. k.symbol) ks) ≡ false
none_named p [] e = refl
none_named p (k ∷ ks) e = by (p k.symbol) e (none_named p ks)
  where
    by : (b : Bool) → (if b then Some (k.end - length (name_of k.symbol)) else first_name p ks) ≡ None → (first_name p ks ≡ None → list_any p (map (λ k. k.symbol) ks) ≡ false) → (b || list_any p (map (λ k. k.symbol) ks)) ≡ false
    by true e rest = cc
    by false e rest = rest e

none_at_all : {X : Type 0} (xs : List X) → list_any (λ x. false) xs ≡ false
none_at_all [] = refl
none_at_all (x ∷ xs) = none_at_all xs

none_of_two : {X : Type 0} (f g : X → Bool) (xs : List X) → list_any f xs ≡ false → list_any g xs ≡ false → list_any (λ x. f x || g x) xs ≡ false
none_of_two f g [] a b = refl
none_of_two f g (x ∷ xs) a b =
    let p = or_parts (f x) (list_any f xs) a in
    let q = or_parts (g x) (list_any g xs) b in
    or_from (f x || g x) (list_any (λ x. f x || g x) xs) (or_from (f x) (g x) p.0 q.0) (none_of_two f g xs p.1 q.1)

either_way : (names : List (List ℕ)) (ks : List Symbol) → list_any (λ k. list_any (λ n. uses n k) names) ks ≡ false → list_any (λ n. list_any (uses n) ks) names ≡ false
either_way names [] e = none_at_all names
either_way names (k ∷ ks) e =
    let p = or_parts (list_any (λ n. uses n k) names) (list_any (λ k. list_any (λ n. uses n k) names) ks) e in
    none_of_two (λ n. uses n k) (λ n. list_any (uses n) ks) names p.0 (either_way names ks p.1)

module _ (spelled : PlacedSymbolsAreSpelled) (old new bytes : List ℕ) (untaken : Takes old new bytes → ⊥) (sound : (offset : ℕ) → IsPlace old new bytes offset → ⊥) where
  none_in : (p : Symbol → Bool) → first_name p (placed_symbols bytes) ≡ None → list_any p (symbols_of bytes) ≡ false
  none_in p e = subst (λ ks. list_any p ks ≡ false) (spelled bytes) (none_named p (placed_symbols bytes) e)

  declared : (form : IsForm bytes) → first_mention new bytes ≡ None → first_tested bytes ≡ None → (b : Bool) → list_any (bytes_eq old) (declared_names form.written.items) ≡ b → ⊥
  declared form unused apart true e =
      untaken (record {
        form = form;
        unused = none_in (mentions new) unused;
        apart = either_way (tested_names (symbols_of bytes)) (symbols_of bytes) (none_in (λ k. list_any (λ n. uses n k) (tested_names (symbols_of bytes))) apart);
        declared = e;
      })
  declared form unused apart false e = sound (length bytes) (old_undeclared (record { form = form; unused = unused; apart = apart; undeclared = e; at_end = refl }))

  untested : (form : IsForm bytes) → first_mention new bytes ≡ None → (o : Option ℕ) → first_tested bytes ≡ o → ⊥
  untested form unused (Some i) e = sound i (tested_occurs (record { form = form; unused = unused; first = e }))
  untested form unused None e = declared form unused e (list_any (bytes_eq old) (declared_names form.written.items)) refl

  formed : IsForm bytes → ⊥
  formed form = by (first_mention new bytes) refl
    where
      by : (o : Option ℕ) → first_mention new bytes ≡ o → ⊥
      by (Some i) e = sound i (new_occurs (record { form = form; first = e }))
      by None e = untested form e (first_tested bytes) refl

  -- ---- the form

  faultless : (i : ℕ) → IsFaultOfForm bytes i → ⊥
  faultless i fault = sound i (faulty_form fault)

  abbrev limit : ℕ
  limit = 16777216

  -- the first byte at which no file goes on so
  departs : (i : ℕ) → IsLeast (Departs bytes) i → ⊥
  departs i first =
      elim (cases_lt limit i) [
        | inr within ↦ faultless i (inl (inl first, within))
        | inl past ↦ faultless limit (inr (record { longer = omega (arith, past, first.holds.within); at_limit = refl; none_below = λ j fault. later j fault past }))
      ]
    where
      later : (j : ℕ) → IsFaultOfText bytes j → limit < i → limit ≤ j
      later j (inl other) past = let h = first.least j other.holds in omega (arith, h, past)
      later j (inr breaks) past = let h = breaks.at_end in omega (arith, h, past, first.holds.within)

  begun : (i : ℕ) → i ≤ length bytes → (IsFormPrefix (take i bytes) → ⊥) → ⊥
  begun zero within none = none ([], record { items = no_item; writes = refl; shallow = omega arith; few_tests = omega arith })
  begun (suc i) within none =
      departs i (record {
        holds = record { within = omega (arith, within); begins_none = λ p. none (subst (λ n. IsFormPrefix (take n bytes)) (by_one i) p) };
        least = λ j other. elim (cases_lt j i) [
          | inl less ↦ absurd (begun i (omega (arith, within)) (λ p. other.begins_none (shorter_front (j + 1) i bytes (omega (arith, less)) p)))
          | inr least ↦ least
        ];
      })
    where
      by_one : (i : ℕ) → i + 1 ≡ suc i
      by_one i = omega arith

  breaks_off : BreaksOff bytes (length bytes) → ⊥
  breaks_off breaks =
      elim (cases_lt limit (length bytes)) [
        | inr within ↦ faultless (length bytes) (inl (inr breaks, within))
        | inl long ↦ faultless limit (inr (record { longer = long; at_limit = refl; none_below = λ j fault. later j fault long }))
      ]
    where
      later : (j : ℕ) → IsFaultOfText bytes j → limit < length bytes → limit ≤ j
      later j (inl other) long = absurd (other.holds.begins_none (shorter_begins (j + 1) bytes breaks.begins))
      later j (inr other) long = let h = other.at_end in omega (arith, h, long)

  written : IsFormPrefix bytes → IsWritten (symbols_of bytes) → ⊥
  written begins w =
      elim (cases_lt limit (length bytes)) [
        | inr within ↦ formed (record { written = w; size = within })
        | inl long ↦ faultless limit (inr (record { longer = long; at_limit = refl; none_below = λ j fault. later j fault long }))
      ]
    where
      later : (j : ℕ) → IsFaultOfText bytes j → limit < length bytes → limit ≤ j
      later j (inl other) long = absurd (other.holds.begins_none (shorter_begins (j + 1) bytes begins))
      later j (inr other) long = let h = other.at_end in omega (arith, h, long)

  placed : ⊥
  placed =
      begun (length bytes) (omega arith)
      (λ p.
      let begins : IsFormPrefix bytes = subst IsFormPrefix (take_all (length bytes) bytes (omega arith)) p in
      breaks_off (record { at_end = refl; begins = begins; unfinished = written begins }))

-- ---- the course

pub quick_ends : PlacedSymbolsAreSpelled → TakingIsDecided → QuickConcludes
quick_ends spelled decided r held =
    reads_next held (Does r) r.file refl
    (λ bytes e.
    let course : Course = λ more. Does r (file_with r.file bytes ∷ more) in
    elim (decided r.old r.new bytes) [
      | inl takes ↦ says_so held course (renames r bytes) (inl (takes, refl))
      | inr untaken ↦ (λ say read. placed spelled r.old r.new bytes untaken (λ offset is. says_so held course (refuses_at offset) (inr (offset, is, refl)) say read))
    ])
