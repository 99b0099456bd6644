-- What maps have for names after a change.
use Rattle.std.proofs.Common.{◌≡◌, ℕ, Bool, true, false, List, ⊎_elim, sym, subst, ◌∙◌}
use Rattle.std.specs.Prelude.{Some, if◌then◌else◌}
use Rattle.std.specs.Cmp.Lexicographic.{bytes_decides, nat_list_eq_equiv}
use Rattle.std.specs.Map.{lookup, IsKeyTest, AreApart, KeepsOthers}
use Rattle.std.specs.Str.{bytes_eq}
use Rattle.std.proofs.lemmas.Bool.{cases_Bool}

apart : (name other key : List ℕ) → bytes_eq name other ≡ false → bytes_eq name key ≡ true → bytes_eq other key ≡ false
apart name other key differs is =
    nat_list_eq_equiv.symm other key ∙ sym (nat_list_eq_equiv.congr name key other is) ∙ differs

other_names : {K X : Type 0} (eq : K → K → Bool) (test : K → Bool) (old new : List (K × X)) → KeepsOthers eq test old new → (other : K → Bool) → IsKeyTest eq other → AreApart test other → lookup other new ≡ lookup other old
unfolding KeepsOthers
other_names eq test old new kept = kept

-- what a map has for each name after one was put there
pub put_there : {K X : Type 0} (text : K → List ℕ) (name : List ℕ) (old new : List (K × X)) (entry : X) → lookup (λ k. bytes_eq name (text k)) new ≡ Some entry → KeepsOthers (λ x y. bytes_eq (text x) (text y)) (λ k. bytes_eq name (text k)) old new → (other : List ℕ) → lookup (λ k. bytes_eq other (text k)) new ≡ (if bytes_eq name other then Some entry else lookup (λ k. bytes_eq other (text k)) old)
put_there text name old new entry here kept other =
    ⊎_elim
    (λ (same : bytes_eq name other ≡ true). let e : other ≡ name = sym ((bytes_decides name other).0 same) in
    rw same (subst (λ l. lookup (λ k. bytes_eq l (text k)) new ≡ Some entry) (sym e) here))
    (λ (differs : bytes_eq name other ≡ false). rw differs (other_names _ _ old new kept _ (λ x y. nat_list_eq_equiv.congr other (text x) (text y)) (λ k. apart name other (text k) differs)))
    (cases_Bool (bytes_eq name other))
