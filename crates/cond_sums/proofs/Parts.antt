-- Sums of lists of parts.
use Rattle.std.proofs.Common.{arith, ◌≡◌, ℕ, ◌+◌, ◌<◌, Bool, true, false, List, [], ◌∷◌, ◌++◌, length, get_or, drop, sym, ap, ◌∙◌}
use Rattle.std.specs.Prelude.{nat_le}
use Rattle.std.proofs.lemmas.List.{drop_more}
use Rattle.cond_formula.specs.Conditions.{condition_of, value}
use Rattle.core_meaning.specs.Constancy.{capped}
use Rattle.cond_sums.specs.declared.sums.CondPart.{CondPart}
use Rattle.cond_sums.specs.Sums.{counted, sum_of}

-- what a part counts for
abbrev pub count_of : (ℕ → Bool) → CondPart → ℕ
count_of on part = counted (value on (condition_of part.when)) part.count

pub sum_last : (on : ℕ → Bool) (parts : List CondPart) (part : CondPart) → sum_of on (parts ++ part ∷ []) ≡ sum_of on parts + count_of on part
sum_last on [] part = omega arith
sum_last on (p ∷ parts) part = let e = sum_last on parts part in omega (arith, e)

pub sum_from : (on : ℕ → Bool) (parts : List CondPart) (i : ℕ) (part : CondPart) → i < length parts → part ≡ get_or parts i part → sum_of on (drop i parts) ≡ count_of on part + sum_of on (drop (i + 1) parts)
sum_from on parts i part less is = ap (sum_of on) (drop_more parts i part less ∙ ap (λ p. p ∷ drop (i + 1) parts) (sym is))

-- a part with the condition of the last one is joined with it
pub sum_joined : (on : ℕ → Bool) (earlier old new : List CondPart) (last joined : CondPart) (b : Bool) (count : ℕ) → old ≡ earlier ++ last ∷ [] → new ≡ earlier ++ joined ∷ []
    → value on (condition_of last.when) ≡ b → value on (condition_of joined.when) ≡ b → joined.count ≡ capped (last.count + count)
    → capped (sum_of on new) ≡ capped (sum_of on old + counted b count)
sum_joined on earlier old new last joined b count before after l j c =
    let e : sum_of on old ≡ sum_of on earlier + counted b last.count = ap (sum_of on) before ∙ sum_last on earlier last ∙ ap (λ t. sum_of on earlier + counted t last.count) l in
    let f : sum_of on new ≡ sum_of on earlier + counted b (capped (last.count + count)) =
    ap (sum_of on) after ∙ sum_last on earlier joined ∙ ap (λ t. sum_of on earlier + counted t joined.count) j ∙ ap (λ n. sum_of on earlier + counted b n) c in
    by b e f
  where
    by : (b : Bool) → sum_of on old ≡ sum_of on earlier + counted b last.count → sum_of on new ≡ sum_of on earlier + counted b (capped (last.count + count)) → capped (sum_of on new) ≡ capped (sum_of on old + counted b count)
    by true e f = omega (arith, e, f)
    by false e f = omega (arith, e, f)

pub sum_pushed : (on : ℕ → Bool) (earlier old new : List CondPart) (last part : CondPart) → old ≡ earlier ++ last ∷ [] → new ≡ (earlier ++ last ∷ []) ++ part ∷ [] → capped (sum_of on new) ≡ capped (sum_of on old + count_of on part)
sum_pushed on earlier old new last part before after = ap capped (ap (sum_of on) (after ∙ ap (λ l. l ++ part ∷ []) (sym before)) ∙ sum_last on old part)

pub within_nothing : (on : ℕ → Bool) (parts : List CondPart) (limit : ℕ) → length parts < 1 → nat_le (sum_of on parts) limit ≡ true
within_nothing on [] limit none = grind arith
within_nothing on (part ∷ parts) limit none = absurd (omega (arith, none))
