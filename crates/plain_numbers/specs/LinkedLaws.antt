-- Names with their linkage, and what maps have for them.
use Rattle.std.proofs.Common.{◌≡◌, ℕ, ◌==◌, Bool, true, false, cond, ◌&&◌, List, [], ◌∷◌, ⊎_elim, refl, sym, ap, subst, ◌∙◌, arith}
use Rattle.std.specs.Prelude.{Option, Some, None, if◌then◌else◌}
use Rattle.std.specs.Cmp.Lexicographic.{bytes_decides}
use Rattle.std.specs.Map.{lookup}
use Rattle.std.specs.Option.{option_eq}
use lib.Dec.{eqb}
use Rattle.std.specs.Str.{bytes_eq}
use Rattle.std.proofs.lemmas.Bool.{cases_Bool, and_parts, and_from, both_ways}
use Rattle.std.proofs.lemmas.Bool.Decides.{nat_tests}
use Rattle.core_meaning.specs.Linking.{Linked, same_unit, same_linked}
use Rattle.plain_numbers.specs.declared.places.Linked.{Linked as RustLinked}
use Rattle.plain_numbers.specs.PlainLinked.{plain_linked}

eqb_is : (a b : ℕ) → (a == b) ≡ true → a ≡ b
eqb_is a b h = grind (arith, nat_tests)

pub same_unit_is : (a b : Option ℕ) → same_unit a b ≡ true → a ≡ b
same_unit_is None None h = refl
same_unit_is (Some a) (Some b) h = ap (λ n. Some n) (eqb_is a b h)
same_unit_is None (Some b) h = absurd cc
same_unit_is (Some a) None h = absurd cc

pub same_is : (a b : Linked) → same_linked a b ≡ true → a ≡ b
same_is a b h =
    let parts = and_parts (bytes_eq a.name b.name) (same_unit a.unit b.unit) h in
    let name : a.name ≡ b.name = (bytes_decides a.name b.name).0 parts.0 in
    let unit : a.unit ≡ b.unit = same_unit_is a.unit b.unit parts.1 in
    let named : List ℕ → Linked = λ n. record { name = n; unit = a.unit } in
    let placed : Option ℕ → Linked = λ u. record { name = b.name; unit = u } in
    ap named name ∙ ap placed unit

pub same_unit_itself : (a : Option ℕ) → same_unit a a ≡ true
same_unit_itself None = refl
same_unit_itself (Some a) = grind (arith, nat_tests)

pub same_itself : (a : Linked) → same_linked a a ≡ true
same_itself a = and_from (bytes_eq a.name a.name) (same_unit a.unit a.unit) ((bytes_decides a.name a.name).1 refl) (same_unit_itself a.unit)

pub same_turned : (a b : Linked) → same_linked a b ≡ false → same_linked b a ≡ false
same_turned a b differs =
    ⊎_elim
    (λ (same : same_linked b a ≡ true). absurd (both_ways (same_linked a b) differs (subst (λ y. same_linked y b ≡ true) (same_is b a same) (same_itself b))))
    (λ (apart : same_linked b a ≡ false). apart)
    (cases_Bool (same_linked b a))

lookup_same : {K X : Type 0} (t u : K → Bool) → ((k : K) → t k ≡ u k) → (es : List (K × X)) → lookup t es ≡ lookup u es
lookup_same t u same [] = refl
lookup_same t u same (e ∷ es) =
    ap (λ b. cond b (Some e.1) (lookup t es)) (same e.0) ∙ ap (λ o. cond (u e.0) (Some e.1) o) (lookup_same t u same es)

option_same : (a b : Option ℕ) → option_eq eqb a b ≡ same_unit a b
option_same None None = refl
option_same None (Some b) = refl
option_same (Some a) None = refl
option_same (Some a) (Some b) = refl

agree : (a b : RustLinked) → (bytes_eq a.name.items b.name.items && option_eq eqb a.unit b.unit) ≡ same_linked (plain_linked a) (plain_linked b)
agree a b = ap (λ t. bytes_eq a.name.items b.name.items && t) (option_same a.unit b.unit)

-- a map has for a name what it has for one that is the same
pub entry_same : {X : Type 0} (x : RustLinked) (es : List (RustLinked × X)) → lookup (λ k. bytes_eq x.name.items k.name.items && option_eq eqb x.unit k.unit) es ≡ lookup (λ k. same_linked (plain_linked x) (plain_linked k)) es
entry_same x es = lookup_same (λ k. bytes_eq x.name.items k.name.items && option_eq eqb x.unit k.unit) (λ k. same_linked (plain_linked x) (plain_linked k)) (agree x) es

-- what a map has for each name after one was put there, or taken away
pub put_at : {X : Type 0} (key : RustLinked) (old new : List (RustLinked × X)) (entry : Option X) → ((x : RustLinked) → lookup (λ k. bytes_eq x.name.items k.name.items && option_eq eqb x.unit k.unit) new ≡ cond (bytes_eq key.name.items x.name.items && option_eq eqb key.unit x.unit) entry (lookup (λ k. bytes_eq x.name.items k.name.items && option_eq eqb x.unit k.unit) old)) → (x : RustLinked) → lookup (λ k. same_linked (plain_linked x) (plain_linked k)) new ≡ (if same_linked (plain_linked key) (plain_linked x) then entry else lookup (λ k. same_linked (plain_linked x) (plain_linked k)) old)
put_at key old new entry put x =
    sym (entry_same x new) ∙ put x
    ∙ ap (λ t. cond t entry (lookup (λ k. bytes_eq x.name.items k.name.items && option_eq eqb x.unit k.unit) old)) (agree key x)
    ∙ ap (λ o. cond (same_linked (plain_linked key) (plain_linked x)) entry o) (entry_same x old)
