-- A file reads as one list of items at most: each symbol tells which item or statement it begins, or that a list ends.
use Rattle.std.proofs.Common.{◌≡◌, ℕ, Bool, true, false, not, ◌&&◌, ◌==◌, List, [], ◌∷◌, refl, sym, ◌∙◌, ap, arith, if◌then◌else◌}
use Rattle.quick_form.specs.Symbols.{Symbol, Int, While, Return, Putchar, Name, Mark, Ifdef, Else, Endif}
use Rattle.quick_form.specs.Form.{Operand, Named, Literal, Term, Sum, Statements, no_more, assignment, output, return_of, loop, group, choice, Items, no_item, variable, initialised, main_with, item_group, item_choice, operand_symbol, write_terms, write_sum, write_statements, write_items}
use Rattle.quick_form.specs.Quick.{OneReading}

-- no item and no statement begins with what stands here
abbrev ends_list : List Symbol → Bool
ends_list (Name x ∷ k) = false
ends_list (Putchar ∷ k) = false
ends_list (Return ∷ k) = false
ends_list (While ∷ k) = false
ends_list (Ifdef n ∷ k) = false
ends_list (Int ∷ k) = false
ends_list k = true

-- no sum goes on with what stands here
abbrev ends_sum : List Symbol → Bool
ends_sum (Mark b ∷ k) = not (b == 43) && not (b == 45)
ends_sum k = true

differ : {k l : List Symbol} (f : List Symbol → Bool) → f k ≡ true → k ≡ l → f l ≡ false → ⊥
differ f p e q = let h = ap f e in cc

goes_on : (b : Bool) (k : List Symbol) → ends_sum (Mark (if b then 45 else 43) ∷ k) ≡ false
goes_on true k = refl
goes_on false k = refl

no_numeral : ◌≡◌ {A = ℕ} 45 43 → ⊥
no_numeral e = omega arith

same_sign : (a b : Bool) → ◌≡◌ {A = ℕ} (if a then 45 else 43) (if b then 45 else 43) → a ≡ b
same_sign true true e = refl
same_sign true false e = absurd (no_numeral e)
same_sign false true e = absurd (no_numeral (sym e))
same_sign false false e = refl

same_operand : (a b : Operand) → operand_symbol a ≡ operand_symbol b → a ≡ b
same_operand (Named x) (Named y) e = cc
same_operand (Named x) (Literal d) e = cc
same_operand (Literal d) (Named x) e = cc
same_operand (Literal d) (Literal d') e = cc

same_term : (t u : Term) → t.subtracted ≡ u.subtracted → t.operand ≡ u.operand → t ≡ u
same_term t u p q =
    let f : Bool → Term = λ s. record { subtracted = s; operand = t.operand } in
    let g : Operand → Term = λ o. record { subtracted = u.subtracted; operand = o } in ap f p ∙ ap g q

same_terms : (ts us : List Term) (k l : List Symbol) → ends_sum k ≡ true → ends_sum l ≡ true → write_terms ts k ≡ write_terms us l → (ts ≡ us) × (k ≡ l)
same_terms [] [] k l p q e = (refl, e)
same_terms [] (u ∷ us) k l p q e = absurd (differ ends_sum p e (goes_on u.subtracted (operand_symbol u.operand ∷ write_terms us l)))
same_terms (t ∷ ts) [] k l p q e = absurd (differ ends_sum q (sym e) (goes_on t.subtracted (operand_symbol t.operand ∷ write_terms ts k)))
same_terms (t ∷ ts) (u ∷ us) k l p q e =
    let rest : write_terms ts k ≡ write_terms us l = cc in
    let sign : ◌≡◌ {A = ℕ} (if t.subtracted then 45 else 43) (if u.subtracted then 45 else 43) = cc in
    let operand : operand_symbol t.operand ≡ operand_symbol u.operand = cc in
    let same = same_terms ts us k l p q rest in
    let head = same_term t u (same_sign t.subtracted u.subtracted sign) (same_operand t.operand u.operand operand) in
    (cc, same.1)

same_sum : (s t : Sum) (k l : List Symbol) → ends_sum k ≡ true → ends_sum l ≡ true → write_sum s k ≡ write_sum t l → (s ≡ t) × (k ≡ l)
same_sum s t k l p q e =
    let operand : operand_symbol s.first ≡ operand_symbol t.first = cc in
    let rest : write_terms s.more k ≡ write_terms t.more l = cc in
    let same = same_terms s.more t.more k l p q rest in
    let f : Operand → Sum = λ o. record { first = o; more = s.more } in
    let g : List Term → Sum = λ m. record { first = t.first; more = m } in
    (ap f (same_operand s.first t.first operand) ∙ ap g same.0, same.1)

same_statements : (t u : Statements) (k l : List Symbol) → ends_list k ≡ true → ends_list l ≡ true → write_statements t k ≡ write_statements u l → (t ≡ u) × (k ≡ l)
same_statements no_more no_more k l p q e = (refl, e)
same_statements no_more u k l p q e = absurd (differ ends_list p e refl)
same_statements t no_more k l p q e = absurd (differ ends_list q (sym e) refl)
same_statements (assignment x s t) (assignment y s' t') k l p q e =
    let sums : write_sum s (Mark 59 ∷ write_statements t k) ≡ write_sum s' (Mark 59 ∷ write_statements t' l) = cc in
    let sum = same_sum s s' _ _ refl refl sums in
    let rest : write_statements t k ≡ write_statements t' l = cc in
    let same = same_statements t t' k l p q rest in
    let name : x ≡ y = cc in
    (cc, same.1)
same_statements (output s t) (output s' t') k l p q e =
    let sums : write_sum s (Mark 41 ∷ Mark 59 ∷ write_statements t k) ≡ write_sum s' (Mark 41 ∷ Mark 59 ∷ write_statements t' l) = cc in
    let sum = same_sum s s' _ _ refl refl sums in
    let rest : write_statements t k ≡ write_statements t' l = cc in
    let same = same_statements t t' k l p q rest in
    (cc, same.1)
same_statements (return_of s t) (return_of s' t') k l p q e =
    let sums : write_sum s (Mark 59 ∷ write_statements t k) ≡ write_sum s' (Mark 59 ∷ write_statements t' l) = cc in
    let sum = same_sum s s' _ _ refl refl sums in
    let rest : write_statements t k ≡ write_statements t' l = cc in
    let same = same_statements t t' k l p q rest in
    (cc, same.1)
same_statements (loop s b t) (loop s' b' t') k l p q e =
    let sums : write_sum s (Mark 41 ∷ Mark 123 ∷ write_statements b (Mark 125 ∷ write_statements t k)) ≡ write_sum s' (Mark 41 ∷ Mark 123 ∷ write_statements b' (Mark 125 ∷ write_statements t' l)) = cc in
    let sum = same_sum s s' _ _ refl refl sums in
    let bodies : write_statements b (Mark 125 ∷ write_statements t k) ≡ write_statements b' (Mark 125 ∷ write_statements t' l) = cc in
    let body = same_statements b b' _ _ refl refl bodies in
    let rest : write_statements t k ≡ write_statements t' l = cc in
    let same = same_statements t t' k l p q rest in
    (cc, same.1)
same_statements (group n b t) (group m b' t') k l p q e =
    let bodies : write_statements b (Endif ∷ write_statements t k) ≡ write_statements b' (Endif ∷ write_statements t' l) = cc in
    let body = same_statements b b' _ _ refl refl bodies in
    let rest : write_statements t k ≡ write_statements t' l = cc in
    let same = same_statements t t' k l p q rest in
    let name : n ≡ m = cc in
    (cc, same.1)
same_statements (group n b t) (choice m b' o' t') k l p q e =
    let bodies : write_statements b (Endif ∷ write_statements t k) ≡ write_statements b' (Else ∷ write_statements o' (Endif ∷ write_statements t' l)) = cc in
    let body = same_statements b b' _ _ refl refl bodies in
    let clash : ⊥ = cc in absurd clash
same_statements (choice n b o t) (group m b' t') k l p q e =
    let bodies : write_statements b (Else ∷ write_statements o (Endif ∷ write_statements t k)) ≡ write_statements b' (Endif ∷ write_statements t' l) = cc in
    let body = same_statements b b' _ _ refl refl bodies in
    let clash : ⊥ = cc in absurd clash
same_statements (choice n b o t) (choice m b' o' t') k l p q e =
    let bodies : write_statements b (Else ∷ write_statements o (Endif ∷ write_statements t k)) ≡ write_statements b' (Else ∷ write_statements o' (Endif ∷ write_statements t' l)) = cc in
    let body = same_statements b b' _ _ refl refl bodies in
    let others : write_statements o (Endif ∷ write_statements t k) ≡ write_statements o' (Endif ∷ write_statements t' l) = cc in
    let other = same_statements o o' _ _ refl refl others in
    let rest : write_statements t k ≡ write_statements t' l = cc in
    let same = same_statements t t' k l p q rest in
    let name : n ≡ m = cc in
    (cc, same.1)
same_statements t u k l p q e = let clash : ⊥ = cc in absurd clash

same_items : (t u : Items) (k l : List Symbol) → ends_list k ≡ true → ends_list l ≡ true → write_items t k ≡ write_items u l → (t ≡ u) × (k ≡ l)
same_items no_item no_item k l p q e = (refl, e)
same_items no_item u k l p q e = absurd (differ ends_list p e refl)
same_items t no_item k l p q e = absurd (differ ends_list q (sym e) refl)
same_items (variable x t) (variable y t') k l p q e =
    let rest : write_items t k ≡ write_items t' l = cc in
    let same = same_items t t' k l p q rest in
    let name : x ≡ y = cc in
    (cc, same.1)
same_items (variable x t) (initialised y d t') k l p q e =
    let mark : ◌≡◌ {A = ℕ} 59 61 = cc in absurd (omega arith)
same_items (initialised x d t) (variable y t') k l p q e =
    let mark : ◌≡◌ {A = ℕ} 61 59 = cc in absurd (omega arith)
same_items (initialised x d t) (initialised y d' t') k l p q e =
    let rest : write_items t k ≡ write_items t' l = cc in
    let same = same_items t t' k l p q rest in
    let name : x ≡ y = cc in
    let digits : d ≡ d' = cc in
    (cc, same.1)
same_items (main_with b t) (main_with b' t') k l p q e =
    let bodies : write_statements b (Mark 125 ∷ write_items t k) ≡ write_statements b' (Mark 125 ∷ write_items t' l) = cc in
    let body = same_statements b b' _ _ refl refl bodies in
    let rest : write_items t k ≡ write_items t' l = cc in
    let same = same_items t t' k l p q rest in
    (cc, same.1)
same_items (item_group n b t) (item_group m b' t') k l p q e =
    let bodies : write_items b (Endif ∷ write_items t k) ≡ write_items b' (Endif ∷ write_items t' l) = cc in
    let body = same_items b b' _ _ refl refl bodies in
    let rest : write_items t k ≡ write_items t' l = cc in
    let same = same_items t t' k l p q rest in
    let name : n ≡ m = cc in
    (cc, same.1)
same_items (item_group n b t) (item_choice m b' o' t') k l p q e =
    let bodies : write_items b (Endif ∷ write_items t k) ≡ write_items b' (Else ∷ write_items o' (Endif ∷ write_items t' l)) = cc in
    let body = same_items b b' _ _ refl refl bodies in
    let clash : ⊥ = cc in absurd clash
same_items (item_choice n b o t) (item_group m b' t') k l p q e =
    let bodies : write_items b (Else ∷ write_items o (Endif ∷ write_items t k)) ≡ write_items b' (Endif ∷ write_items t' l) = cc in
    let body = same_items b b' _ _ refl refl bodies in
    let clash : ⊥ = cc in absurd clash
same_items (item_choice n b o t) (item_choice m b' o' t') k l p q e =
    let bodies : write_items b (Else ∷ write_items o (Endif ∷ write_items t k)) ≡ write_items b' (Else ∷ write_items o' (Endif ∷ write_items t' l)) = cc in
    let body = same_items b b' _ _ refl refl bodies in
    let others : write_items o (Endif ∷ write_items t k) ≡ write_items o' (Endif ∷ write_items t' l) = cc in
    let other = same_items o o' _ _ refl refl others in
    let rest : write_items t k ≡ write_items t' l = cc in
    let same = same_items t t' k l p q rest in
    let name : n ≡ m = cc in
    (cc, same.1)
same_items t u k l p q e = let clash : ⊥ = cc in absurd clash

pub one_reading_lem : OneReading
one_reading_lem bytes a b p q = (same_items a b [] [] refl refl (sym p ∙ q)).0
