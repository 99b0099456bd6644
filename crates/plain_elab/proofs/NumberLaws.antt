-- The numbers of units, as tables.
use Rattle.std.proofs.Common.{◌≡◌, ℕ, zero, suc, ◌+◌, true, false, List, [], ◌∷◌, ◌++◌, refl, sym, ap, subst, ◌∙◌, zero-add, Vec, Global, arith}
use Rattle.std.specs.Prelude.{Option, Some, slice_get}
use Rattle.std.specs.HashMap.{HashMap}
use Rattle.std.specs.Map.{lookup}
use Rattle.std.specs.Str.{bytes_eq}
use mathlib.Core.Path.{fun_ext}
use Rattle.core_meaning.specs.Entities as spec
use Rattle.core_meaning.specs.Entities.{Table, no_entry}
use Rattle.core_meaning.specs.Linking.{Unit, no_numbers, numbers_in, number_in, place_where}
use Rattle.plain_scope.specs.PlainScope.{entry_of}
use Rattle.plain_scope.specs.declared.entities.Numbers.{Numbers}
use Rattle.plain_numbers.specs.Numbering.{UnitNumbered, AreNumbered}
use Rattle.plain_elab.specs.PlainStates.{HasNoNumbers, HaveNoNumbers, or_no_numbers, numbers_at}

pub none_more : (ns : List Numbers) (n : Numbers) → HaveNoNumbers ns → HasNoNumbers n → HaveNoNumbers (ns ++ n ∷ [])
none_more [] n h k = (k, tt)
none_more (m ∷ ns) n h k = (h.0, none_more ns n h.1 k)

same_numbers : (a b c d e f : Table ℕ) → a ≡ b → c ≡ d → e ≡ f → (let make : Table ℕ → Table ℕ → Table ℕ → spec.Numbers = λ g f l. record { globals = g; functions = f; literals = l } in make a c e ≡ make b d f)
same_numbers a b c d e f p q r =
    let make : Table ℕ → Table ℕ → Table ℕ → spec.Numbers = λ g f l. record { globals = g; functions = f; literals = l } in
    ap (λ x. make x c e) p ∙ ap (λ x. make b x e) q ∙ ap (λ x. make b d x) r

none_of : {X S : Type 0} (m : HashMap (Vec ℕ Global) X S) → m.entries ≡ [] → entry_of m ≡ no_entry
none_of {X} m h = ap (λ (es : List (Vec ℕ Global × X)). (λ (name : List ℕ). lookup (λ (key : Vec ℕ Global). bytes_eq name key.items) es)) h

none_at : {S : Type 0} (texts : HashMap (Vec ℕ Global) ℕ S) → texts.entries ≡ [] → (index : ℕ) (ns : List Numbers) (i : ℕ) → HaveNoNumbers ns → or_no_numbers texts index (slice_get ns i) ≡ no_numbers index
none_at texts none index [] i h = same_numbers no_entry no_entry no_entry no_entry (entry_of texts) no_entry refl refl (none_of texts none)
none_at texts none index (n ∷ ns) zero h =
    same_numbers (entry_of n.globals) no_entry (entry_of n.functions) no_entry (entry_of texts) no_entry (none_of n.globals h.0.0) (none_of n.functions h.0.1) (none_of texts none)
none_at texts none index (n ∷ ns) (suc i) h = none_at texts none index ns i h.1

-- units without numbers
pub unnumbered_are : {S : Type 0} (ns : List Numbers) (texts : HashMap (Vec ℕ Global) ℕ S) → HaveNoNumbers ns → texts.entries ≡ [] → numbers_at ns texts ≡ no_numbers
unnumbered_are ns texts h none = fun_ext (λ index. none_at texts none index ns index h)

number_at : {S : Type 0} (texts : HashMap (Vec ℕ Global) ℕ S) (literals : List (List ℕ)) → ((bytes : List ℕ) → entry_of texts bytes ≡ place_where (bytes_eq bytes) literals) → (units : List Unit) (j i index : ℕ) (ns : List Numbers) (us : List Unit) → AreNumbered units j ns us → index ≡ j + i → (let own : Option Unit → spec.Numbers = λ u. record { globals = number_in units false index u; functions = number_in units true index u; literals = λ bytes. place_where (bytes_eq bytes) literals } in or_no_numbers texts index (slice_get ns i) ≡ own (slice_get us i))
number_at texts literals placed units j i index [] [] h e =
    same_numbers no_entry no_entry no_entry no_entry (entry_of texts) (λ bytes. place_where (bytes_eq bytes) literals) refl refl (fun_ext placed)
number_at texts literals placed units j i index [] (u ∷ us) h e = absurd h
number_at texts literals placed units j i index (n ∷ ns) [] h e = absurd h
number_at texts literals placed units j zero index (n ∷ ns) (u ∷ us) h e =
    let here : j ≡ index = omega (arith, e) in
    let k : UnitNumbered units index n u = subst (λ x. UnitNumbered units x n u) here h.0 in
    same_numbers (entry_of n.globals) (number_in units false index (Some u)) (entry_of n.functions) (number_in units true index (Some u)) (entry_of texts) (λ bytes. place_where (bytes_eq bytes) literals)
    (fun_ext k.globals) (fun_ext k.functions) (fun_ext placed)
number_at texts literals placed units j (suc i) index (n ∷ ns) (u ∷ us) h e =
    number_at texts literals placed units (j + 1) i index ns us h.1 (omega (arith, e))

-- units with their numbers
pub numbered_are : {S : Type 0} (texts : HashMap (Vec ℕ Global) ℕ S) (literals : List (List ℕ)) (units : List Unit) (ns : List Numbers) → ((bytes : List ℕ) → entry_of texts bytes ≡ place_where (bytes_eq bytes) literals) → AreNumbered units 0 ns units → numbers_at ns texts ≡ numbers_in units literals
numbered_are texts literals units ns placed h = fun_ext (λ index. number_at texts literals placed units 0 index index ns units h (sym (zero-add index)))
