-- What a change at one name leaves at any name, where the keys of a map are read by their bytes.
use Rattle.std.proofs.Common.{◌≡◌, ℕ, Bool, true, false, List, ⊎_elim, refl, sym, ap, subst, ◌∙◌}
use Rattle.std.specs.Prelude.{Option, Some, None, if◌then◌else◌}
use denote.Ref.{Bor}
use Rattle.std.specs.Option.{option_map, option_copied}
use Rattle.std.specs.Cmp.Lexicographic.{bytes_decides, nat_list_eq_equiv}
use Rattle.std.specs.Map.{lookup, IsKeyTest, AreApart, KeepsOthers}
use Rattle.std.specs.Str.{bytes_eq}
use Rattle.std.proofs.lemmas.Bool.{cases_Bool}

apart : (name other key : List ℕ) → bytes_eq name other ≡ false → bytes_eq name key ≡ true → bytes_eq other key ≡ false
apart name other key differs is =
    nat_list_eq_equiv.symm other key ∙ sym (nat_list_eq_equiv.congr name key other is) ∙ differs

other_names : {K X : Type 0} (eq : K → K → Bool) (test : K → Bool) (old new : List (K × X)) → KeepsOthers eq test old new → (other : K → Bool) → IsKeyTest eq other → AreApart test other → lookup other new ≡ lookup other old
unfolding KeepsOthers
other_names eq test old new kept = kept

pub at_each_name : {K X Y : Type 0} (text : K → List ℕ) (f : X → Y) (name : List ℕ) (old new : List (K × X)) (entry : Option X) → lookup (λ k. bytes_eq name (text k)) new ≡ entry → KeepsOthers (λ x y. bytes_eq (text x) (text y)) (λ k. bytes_eq name (text k)) old new → (other : List ℕ) → option_map f (lookup (λ k. bytes_eq other (text k)) new) ≡ (if bytes_eq other name then option_map f entry else option_map f (lookup (λ k. bytes_eq other (text k)) old))
at_each_name text f name old new entry here kept other =
    ⊎_elim
    (λ same. let e : other ≡ name = sym ((bytes_decides name other).0 same) in
    let same_name : bytes_eq other name ≡ true = nat_list_eq_equiv.symm other name ∙ same in
    rw same_name (ap (option_map f) (subst (λ l. lookup (λ k. bytes_eq l (text k)) new ≡ entry) (sym e) here)))
    (λ differs. let another : bytes_eq other name ≡ false = nat_list_eq_equiv.symm other name ∙ differs in
    rw another (ap (option_map f) (other_names _ _ old new kept _ (λ x y. nat_list_eq_equiv.congr other (text x) (text y)) (λ k. apart name other (text k) differs))))
    (cases_Bool (bytes_eq name other))

-- what a look-up lends
pub read_through : {X Y : Type 0} (f : X → Y) (found : Option (Bor X)) → option_map (λ (x : Bor X). f x.now) found ≡ option_map f (option_copied found)
read_through f (Some x) = refl
read_through f None = refl
