-- Numbers of texts, one text more at a time.
use Rattle.std.proofs.Common.{◌≡◌, ℕ, true, false, List, [], ◌∷◌, ◌++◌, length, ⊎_elim, refl, sym, ap, subst, ◌∙◌}
use Rattle.std.specs.Prelude.{Option, Some, None, is_some, if◌then◌else◌}
use Rattle.std.specs.Cmp.Lexicographic.{bytes_decides, nat_list_eq_equiv}
use Rattle.std.specs.List.{list_any}
use Rattle.std.specs.Str.{bytes_eq}
use Rattle.std.proofs.lemmas.Bool.{cases_Bool}
use Rattle.core_meaning.specs.Linking.{place_where, with_text}
use Rattle.plain_numbers.proofs.PlaceLaws.{place_more_here, place_more_other, any_place}

-- a text that is put at the end has the next number
pub numbered_more : (E F : List ℕ → Option ℕ) (texts : List (List ℕ)) (bytes : List ℕ) (number : ℕ) → ((q : List ℕ) → E q ≡ place_where (bytes_eq q) texts) → place_where (bytes_eq bytes) texts ≡ None → number ≡ length texts → ((q : List ℕ) → F q ≡ (if bytes_eq bytes q then Some number else E q)) → (q : List ℕ) → F q ≡ place_where (bytes_eq q) (texts ++ bytes ∷ [])
numbered_more E F texts bytes number numbered new is put q =
    put q ∙ ⊎_elim
    (λ (same : bytes_eq bytes q ≡ true).
    let e : bytes ≡ q = (bytes_decides bytes q).0 same in
    let none : place_where (bytes_eq q) texts ≡ None = subst (λ b. place_where (bytes_eq b) texts ≡ None) e new in
    rw same (ap (λ n. Some n) is ∙ sym (place_more_here (bytes_eq q) texts bytes none (nat_list_eq_equiv.symm q bytes ∙ same))))
    (λ (differs : bytes_eq bytes q ≡ false).
    rw differs (numbered q ∙ sym (place_more_other (bytes_eq q) texts bytes (nat_list_eq_equiv.symm q bytes ∙ differs))))
    (cases_Bool (bytes_eq bytes q))

pub text_there : (texts : List (List ℕ)) (bytes : List ℕ) (n : ℕ) → place_where (bytes_eq bytes) texts ≡ Some n → with_text texts bytes ≡ texts
text_there texts bytes n h = let there : list_any (bytes_eq bytes) texts ≡ true = any_place (bytes_eq bytes) texts ∙ ap is_some h in rw there refl

pub text_new : (texts : List (List ℕ)) (bytes : List ℕ) → place_where (bytes_eq bytes) texts ≡ None → with_text texts bytes ≡ texts ++ bytes ∷ []
text_new texts bytes h = let new : list_any (bytes_eq bytes) texts ≡ false = any_place (bytes_eq bytes) texts ∙ ap is_some h in rw new refl
