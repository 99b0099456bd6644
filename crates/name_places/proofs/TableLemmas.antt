-- What a table has for each name once one is entered.
use Rattle.std.proofs.Common.{◌≡◌, ℕ, Bool, true, false, List, ⊎_elim, sym, ap, subst, ◌∙◌}
use Rattle.std.specs.Prelude.{Option, Some}
use Rattle.std.proofs.Math.Path.{fun_ext}
use Rattle.std.specs.Cmp.Lexicographic.{bytes_decides, nat_list_eq_equiv}
use Rattle.std.specs.Map.{lookup, IsKeyTest, AreApart, KeepsOthers}
use Rattle.std.specs.Str.{bytes_eq}
use Rattle.std.proofs.lemmas.Bool.{cases_Bool}
use Rattle.core_meaning.specs.Entities.{with_entry}

others_kept : {K X : Type 0} (eq : K → K → Bool) (test : K → Bool) (old new : List (K × X)) → KeepsOthers eq test old new → (other : K → Bool) → IsKeyTest eq other → AreApart test other → lookup other new ≡ lookup other old
unfolding KeepsOthers
others_kept eq test old new kept = kept

module _ {K : Type 0} (text : K → List ℕ) (name : List ℕ) (place : ℕ) (old new : List (K × ℕ)) (here : lookup (λ k. bytes_eq name (text k)) new ≡ Some place) (kept : KeepsOthers (λ x y. bytes_eq (text x) (text y)) (λ k. bytes_eq name (text k)) old new) where
  entered_at : (other : List ℕ) → lookup (λ k. bytes_eq other (text k)) new ≡ with_entry (λ n. lookup (λ k. bytes_eq n (text k)) old) name place other
  entered_at other =
      ⊎_elim
      (λ (same : bytes_eq other name ≡ true). rw same (subst (λ n. lookup (λ k. bytes_eq n (text k)) new ≡ Some place) (sym ((bytes_decides other name).0 same)) here))
      (λ (differs : bytes_eq other name ≡ false). rw differs (others_kept _ _ old new kept (λ k. bytes_eq other (text k)) (λ x y. nat_list_eq_equiv.congr other (text x) (text y)) (λ k is. ap (bytes_eq other) (sym ((bytes_decides name (text k)).0 is)) ∙ differs)))
      (cases_Bool (bytes_eq other name))

  pub entered : let table : List (K × ℕ) → List ℕ → Option ℕ = λ entries n. lookup (λ k. bytes_eq n (text k)) entries in table new ≡ with_entry (table old) name place
  entered = fun_ext entered_at
