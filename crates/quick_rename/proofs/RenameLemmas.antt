-- What the walks over a file say of a renaming in it.
use Rattle.std.proofs.Common.{◌≡◌, ℕ, ◌-◌, ◌^◌, ◌≤◌, min, Bool, true, false, not, ◌||◌, List, [], ◌∷◌, length, count_by, Option, Some, None, is_some, cond, refl, sym, ◌∙◌, ap, subst, arith}
use Rattle.std.proofs.lemmas.Bool.{or_parts}
use Rattle.std.proofs.lemmas.List.Sums.{count_by-le-length}
use Rattle.std.specs.List.{list_any}
use Rattle.std.specs.Str.{bytes_eq}
use Rattle.quick_form.specs.Symbols.{Symbol, Name, symbols_of, tested_names, uses, mentions}
use Rattle.quick_form.specs.Form.{declared_names, IsWritten, IsForm}
use Rattle.quick_form.specs.Renaming.{token_count}
use Rattle.quick_form.specs.Quick.{Takes}
use Rattle.quick_form.proofs.Swap.{bytes_eq-sym}
use Rattle.quick_form.proofs.UntakenPlaces.{any_never, any_swap}
use Rattle.quick_parser.specs.Steps.{State, after}
use Rattle.quick_parser.specs.Laws.{declares, DeclaredBehindInt, TestsAreKept}
use Rattle.quick_rename.specs.declared.scan.Scan.{Scan}
use Rattle.quick_rename.specs.declared.visit.Stop.{Stop}
use Rattle.quick_form.specs.Places.{Placed, placed_symbols, name_of, first_name, first_mention, first_tested, IsPlace, new_occurs, tested_occurs, old_undeclared}
use Rattle.quick_form.proofs.PlaceLemmas.{placed_symbols_are_spelled_lem}
use Rattle.quick_rename.specs.Scans.{uses_one_of, scan_words, first_fault, Scanned, ScannedPlaces}
use Rattle.quick_rename.specs.Visits.{Visits}
use Rattle.quick_rename.specs.Readings.{IsWhole}
use Rattle.quick_rename.proofs.Counting.{symbols_len}

any_same : {X : Type 0} (f g : X → Bool) (xs : List X) → ((x : X) → f x ≡ g x) → list_any f xs ≡ list_any g xs
any_same f g [] h = refl
any_same f g (x ∷ xs) h = let a = h x in let b = any_same f g xs h in cc

any_use : (ns : List (List ℕ)) (k : Symbol) → list_any (λ n. uses n k) ns ≡ uses_one_of ns k
any_use ns (Name m) = any_same (λ n. bytes_eq n m) (bytes_eq m) ns (λ n. bytes_eq-sym n m)
any_use ns k = any_never ns

used_or_tested : (ns : List (List ℕ)) (ks : List Symbol) → list_any (λ n. list_any (uses n) ks) ns ≡ list_any (uses_one_of ns) ks
used_or_tested ns ks = any_swap ns ks ∙ any_same (λ k. list_any (λ n. uses n k) ns) (uses_one_of ns) ks (any_use ns)

-- a walk that refuses nothing takes all
pub scanned_all : (ks : List Placed) (s t : Scan) (place : Stop → List Symbol → Symbol → Type 0) (found : Option Stop) → ScannedPlaces s [] → Visits ScannedPlaces (λ _. ⊥) place s t ks found → ScannedPlaces t ks
scanned_all ks s t place None h v = v [] h
scanned_all ks s t place (Some stop) h v = absurd (v [] h).refused

-- what it knows of the file's symbols
pub scanned_file : (bytes : List ℕ) (s : Scan) → ScannedPlaces s (placed_symbols bytes) → Scanned s (symbols_of bytes)
scanned_file bytes s h = subst (Scanned s) (placed_symbols_are_spelled_lem bytes) h.known

-- the names that the walk went by
old_is : (s : Scan) (old new : List ℕ) (names : List (List ℕ)) → scan_words s ≡ old ∷ new ∷ names → s.old.now ≡ old
old_is s old new names e = cc

new_is : (s : Scan) (old new : List ℕ) (names : List (List ℕ)) → scan_words s ≡ old ∷ new ∷ names → s.new.now ≡ new
new_is s old new names e = cc

tested_is : (s : Scan) (old new : List ℕ) (names : List (List ℕ)) → scan_words s ≡ old ∷ new ∷ names → s.parser.now.tested_names ≡ names
tested_is s old new names e = cc

-- the three reasons against a file of the form, in the walk's terms and in the definition's
mentions_is : (bytes old new : List ℕ) (names : List (List ℕ)) (s : Scan) → Scanned s (symbols_of bytes) → scan_words s ≡ old ∷ new ∷ names → is_some s.first_new ≡ list_any (mentions new) (symbols_of bytes)
mentions_is bytes old new names s h e =
    h.mentions_new ∙ ap (λ w. list_any (mentions w) (symbols_of bytes)) (new_is s old new names e)

tests_is : (bytes old new : List ℕ) (p : State) (s : Scan) → TestsAreKept → after (symbols_of bytes) ≡ Some p → Scanned s (symbols_of bytes) → scan_words s ≡ old ∷ new ∷ p.tested_names → is_some s.first_tested ≡ list_any (λ n. list_any (uses n) (symbols_of bytes)) (tested_names (symbols_of bytes))
tests_is bytes old new p s law a h e =
    h.uses_tested
    ∙ (ap (λ ns. list_any (uses_one_of ns) (symbols_of bytes)) (tested_is s old new p.tested_names e ∙ law (symbols_of bytes) p a)
    ∙ sym (used_or_tested (tested_names (symbols_of bytes)) (symbols_of bytes)))

declares_is : (bytes old new : List ℕ) (names : List (List ℕ)) (s : Scan) (w : IsWritten (symbols_of bytes)) → DeclaredBehindInt → Scanned s (symbols_of bytes) → scan_words s ≡ old ∷ new ∷ names → s.declares_old ≡ list_any (bytes_eq old) (declared_names w.items)
declares_is bytes old new names s w law h e =
    h.declares_it
    ∙ (ap (λ n. declares n (symbols_of bytes)) (old_is s old new names e) ∙ (ap (declares old) w.writes ∙ law old w.items))

not_false : (b : Bool) → not b ≡ false → b ≡ true
not_false true h = refl
not_false false h = sym h

pub takes : (bytes old new : List ℕ) (p : State) (s : Scan) → TestsAreKept → DeclaredBehindInt → IsWhole (symbols_of bytes) p → length bytes ≤ 16777216 → Scanned s (symbols_of bytes) → scan_words s ≡ old ∷ new ∷ p.tested_names → (is_some s.first_new || is_some s.first_tested || not s.declares_old) ≡ false → Takes old new bytes
takes bytes old new p s kept behind whole size h e none =
    let first = or_parts (is_some s.first_new || is_some s.first_tested) (not s.declares_old) none in
    let both = or_parts (is_some s.first_new) (is_some s.first_tested) first.0 in
    record {
      form = record { written = whole.written; size = size };
      unused = sym (mentions_is bytes old new p.tested_names s h e) ∙ both.0;
      apart = sym (tests_is bytes old new p s kept whole.taken h e) ∙ both.1;
      declared = sym (declares_is bytes old new p.tested_names s whole.written behind h e) ∙ not_false s.declares_old first.1;
    }

pub refuses : (bytes old new : List ℕ) (p : State) (s : Scan) → TestsAreKept → DeclaredBehindInt → IsWhole (symbols_of bytes) p → Scanned s (symbols_of bytes) → scan_words s ≡ old ∷ new ∷ p.tested_names → (is_some s.first_new || is_some s.first_tested || not s.declares_old) ≡ true → Takes old new bytes → ⊥
refuses bytes old new p s kept behind whole h e some t =
    let a : is_some s.first_new ≡ false = mentions_is bytes old new p.tested_names s h e ∙ t.unused in
    let b : is_some s.first_tested ≡ false = tests_is bytes old new p s kept whole.taken h e ∙ t.apart in
    let d : s.declares_old ≡ true = declares_is bytes old new p.tested_names s t.form.written behind h e ∙ t.declared in
    let all : (is_some s.first_new || is_some s.first_tested || not s.declares_old) ≡ false = ap (λ x. (x || is_some s.first_tested) || not s.declares_old) a ∙ (ap (λ x. x || not s.declares_old) b ∙ ap not d) in
    let clash : ⊥ = cc in clash

pub tokens_is : (bytes old new : List ℕ) (names : List (List ℕ)) (s : Scan) → length bytes ≤ 16777216 → Scanned s (symbols_of bytes) → scan_words s ≡ old ∷ new ∷ names → s.tokens ≡ token_count old bytes
tokens_is bytes old new names s size h e =
    let a = symbols_len bytes in
    let b = count_by-le-length (uses s.old.now) (symbols_of bytes) in
    let few : min (count_by (uses s.old.now) (symbols_of bytes)) (2 ^ 64 - 1) ≡ count_by (uses s.old.now) (symbols_of bytes) = omega (arith, a, b, size) in
    h.tokens_are ∙ (few ∙ ap (λ n. count_by (uses n) (symbols_of bytes)) (old_is s old new names e))

-- THE PLACE

-- properties that agree find the same
first_same : (f g : Symbol → Bool) (ks : List Placed) → ((k : Symbol) → f k ≡ g k) → first_name f ks ≡ first_name g ks
first_same f g [] h = refl
first_same f g (k ∷ ks) h =
    ap (λ b. cond b (Some (k.end - length (name_of k.symbol))) (first_name f ks)) (h k.symbol)
    ∙ ap (λ o. cond (g k.symbol) (Some (k.end - length (name_of k.symbol))) o) (first_same f g ks h)

mention_at : (bytes old new : List ℕ) (names : List (List ℕ)) (s : Scan) → ScannedPlaces s (placed_symbols bytes) → scan_words s ≡ old ∷ new ∷ names → s.first_new ≡ first_mention new bytes
mention_at bytes old new names s h e = h.new_at ∙ ap (λ w. first_name (mentions w) (placed_symbols bytes)) (new_is s old new names e)

test_at : (bytes old new : List ℕ) (p : State) (s : Scan) → TestsAreKept → after (symbols_of bytes) ≡ Some p → ScannedPlaces s (placed_symbols bytes) → scan_words s ≡ old ∷ new ∷ p.tested_names → s.first_tested ≡ first_tested bytes
test_at bytes old new p s law a h e =
    h.tested_at
    ∙ (ap (λ ns. first_name (uses_one_of ns) (placed_symbols bytes)) (tested_is s old new p.tested_names e ∙ law (symbols_of bytes) p a)
    ∙ sym (first_same (λ k. list_any (λ n. uses n k) (tested_names (symbols_of bytes))) (uses_one_of (tested_names (symbols_of bytes))) (placed_symbols bytes) (any_use (tested_names (symbols_of bytes)))))

undeclared : (d : Bool) (i n : ℕ) → cond d None (Some n) ≡ Some i → (d ≡ false) × (i ≡ n)
undeclared true i n e = absurd cc
undeclared false i n e = (refl, cc)

place_at : (old new bytes : List ℕ) (i : ℕ) (m t : Option ℕ) (d : Bool) (f : IsForm bytes) → m ≡ first_mention new bytes → t ≡ first_tested bytes → d ≡ list_any (bytes_eq old) (declared_names f.written.items) → first_fault m t d (length bytes) ≡ Some i → IsPlace old new bytes i
place_at old new bytes i (Some j) t d f m is_t is_d e = new_occurs (record { form = f; first = sym m ∙ e })
place_at old new bytes i None (Some j) d f m is_t is_d e = tested_occurs (record { form = f; unused = sym m; first = sym is_t ∙ e })
place_at old new bytes i None None d f m is_t is_d e =
    let u = undeclared d i (length bytes) e in
    old_undeclared (record { form = f; unused = sym m; apart = sym is_t; undeclared = sym is_d ∙ u.0; at_end = u.1 })

pub has_place : (bytes old new : List ℕ) (p : State) (s : Scan) (i : ℕ) → TestsAreKept → DeclaredBehindInt → IsWhole (symbols_of bytes) p → length bytes ≤ 16777216 → ScannedPlaces s (placed_symbols bytes) → scan_words s ≡ old ∷ new ∷ p.tested_names → first_fault s.first_new s.first_tested s.declares_old (length bytes) ≡ Some i → IsPlace old new bytes i
has_place bytes old new p s i kept behind whole size h e at =
    place_at old new bytes i s.first_new s.first_tested s.declares_old (record { written = whole.written; size = size })
    (mention_at bytes old new p.tested_names s h e) (test_at bytes old new p s kept whole.taken h e)
    (declares_is bytes old new p.tested_names s whole.written behind (scanned_file bytes s h) e) at
