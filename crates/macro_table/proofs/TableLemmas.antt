-- Tables after a definition, and after an `#undef`.
use Rattle.std.proofs.Common.{◌≡◌, ℕ, Bool, true, false, not, ◌&&◌, if◌then◌else◌, List, [], ◌∷◌, ⊎_elim, refl, sym, ap, subst, ◌∙◌}
use Rattle.std.specs.Prelude.{Option, Some, None}
use denote.Ref.{Bor}
use Rattle.std.specs.Option.{option_map, option_copied}
use Rattle.std.specs.Cmp.Lexicographic.{bytes_decides, nat_list_eq_equiv}
use Rattle.std.specs.Map.{lookup, IsKeyTest, AreApart, KeepsOthers}
use Rattle.std.specs.Str.{bytes_eq}
use Rattle.std.proofs.lemmas.Bool.{cases_Bool}
use Rattle.c_text.specs.Directives.{PlainMacro}
use Rattle.c_text.specs.Macros.{Meaning, Table}
use Rattle.conditional.specs.Entries.{Entry, first, or_later, seen, under}
use Rattle.macro_table.specs.MacroTables.{macro_meaning, meaning_among, unless_defined, with_macro, without_name}

-- ---- one key

apart : (name other key : List ℕ) → bytes_eq name other ≡ false → bytes_eq name key ≡ true → bytes_eq other key ≡ false
apart name other key differs is =
    nat_list_eq_equiv.symm other key ∙ sym (nat_list_eq_equiv.congr name key other is) ∙ differs

other_names : {K X : Type 0} (eq : K → K → Bool) (test : K → Bool) (old new : List (K × X)) → KeepsOthers eq test old new → (other : K → Bool) → IsKeyTest eq other → AreApart test other → lookup other new ≡ lookup other old
unfolding KeepsOthers
other_names eq test old new kept = kept

-- what a change at one name leaves at any name
pub at_each_name : {K X Y : Type 0} (text : K → List ℕ) (shown : Option X → Y) (name : List ℕ) (old new : List (K × X)) (entry : Option X) → lookup (λ k. bytes_eq name (text k)) new ≡ entry → KeepsOthers (λ x y. bytes_eq (text x) (text y)) (λ k. bytes_eq name (text k)) old new →
    (other : List ℕ) → shown (lookup (λ k. bytes_eq other (text k)) new) ≡ (if bytes_eq other name then shown entry else shown (lookup (λ k. bytes_eq other (text k)) old))
at_each_name text shown name old new entry here kept other =
    ⊎_elim
    (λ same. let e : other ≡ name = sym ((bytes_decides name other).0 same) in
    let same_name : bytes_eq other name ≡ true = nat_list_eq_equiv.symm other name ∙ same in
    rw same_name (ap shown (subst (λ l. lookup (λ k. bytes_eq l (text k)) new ≡ entry) (sym e) here)))
    (λ differs. let another : bytes_eq other name ≡ false = nat_list_eq_equiv.symm other name ∙ differs in
    rw another (ap shown (other_names _ _ old new kept _ (λ x y. nat_list_eq_equiv.congr other (text x) (text y)) (λ k. apart name other (text k) differs))))
    (cases_Bool (bytes_eq name other))

-- what a look-up lends
pub read_through : {X : Type 0} (found : Option (Bor X)) → option_map (λ (x : Bor X). x.now) found ≡ option_copied found
read_through (Some x) = refl
read_through None = refl

pub under_nothing : {P : Type 0} (b : Bool) → under {P = P} b [] ≡ []
under_nothing true = refl
under_nothing false = refl

-- ---- tables

same_name : (name : List ℕ) → bytes_eq name name ≡ true
same_name name = (bytes_decides name name).1 refl

defined_here : (w : Bool) (table : Table) (m : PlainMacro) (o : Option PlainMacro) → table m.name ≡ option_map macro_meaning o →
    option_map macro_meaning (or_later o (first (under w (m ∷ [])))) ≡ (if w then unless_defined table m.name (option_map macro_meaning o) (macro_meaning m) m.name else option_map macro_meaning o)
defined_here true table m None is = rw (same_name m.name) refl
defined_here true table m (Some x) is = sym is
defined_here false table m None is = refl
defined_here false table m (Some x) is = refl

defined_elsewhere : (w : Bool) (table : Table) (m : PlainMacro) (other : List ℕ) (o : Option Meaning) → bytes_eq other m.name ≡ false →
    table other ≡ (if w then unless_defined table m.name o (macro_meaning m) other else table other)
defined_elsewhere true table m other None differs = rw differs refl
defined_elsewhere true table m other (Some x) differs = refl
defined_elsewhere false table m other o differs = refl

-- a table where the list of one name is longer by a definition under a condition
pub after_define : (on : ℕ → Bool) (w : Bool) (m : PlainMacro) (before after : List ℕ → List (Entry PlainMacro)) (list : List (Entry PlainMacro)) →
    ((other : List ℕ) → after other ≡ (if bytes_eq other m.name then list else before other)) →
    first (seen on list) ≡ or_later (first (seen on (before m.name))) (first (under w (m ∷ []))) →
    (other : List ℕ) → meaning_among on (after other) ≡ (if w then with_macro (λ name. meaning_among on (before name)) m other else meaning_among on (before other))
after_define on w m before after list put first_is other =
    ⊎_elim
    (λ same. let e : other ≡ m.name = (bytes_decides other m.name).0 same in
    let here : after other ≡ list = put other ∙ ap (λ (b : Bool). if b then list else before other) same in
    rw here (rw first_is (rw e (defined_here w (λ name. meaning_among on (before name)) m (first (seen on (before m.name))) refl))))
    (λ differs. let there : after other ≡ before other = put other ∙ ap (λ (b : Bool). if b then list else before other) differs in
    rw there (defined_elsewhere w (λ name. meaning_among on (before name)) m other (meaning_among on (before m.name)) differs))
    (cases_Bool (bytes_eq other m.name))

undefined_here : (w : Bool) (entries : List PlainMacro) → option_map macro_meaning (first (under (not w) entries)) ≡ (if w then None else option_map macro_meaning (first entries))
undefined_here true entries = refl
undefined_here false entries = refl

same_either : {A : Type 0} (w : Bool) (x : A) → x ≡ (if w then x else x)
same_either true x = refl
same_either false x = refl

-- a table where the list of one name holds nothing under a condition any more
pub after_undef : (on : ℕ → Bool) (w : Bool) (name : List ℕ) (before after : List ℕ → List (Entry PlainMacro)) (list : List (Entry PlainMacro)) →
    ((other : List ℕ) → after other ≡ (if bytes_eq other name then list else before other)) → seen on list ≡ under (not w) (seen on (before name)) →
    (other : List ℕ) → meaning_among on (after other) ≡ (if w then without_name (λ name. meaning_among on (before name)) name other else meaning_among on (before other))
after_undef on w name before after list put seen_is other =
    ⊎_elim
    (λ same. let e : other ≡ name = (bytes_decides other name).0 same in
    let here : after other ≡ list = put other ∙ ap (λ (b : Bool). if b then list else before other) same in
    rw here (rw seen_is (rw same (rw e (undefined_here w (seen on (before name)))))))
    (λ differs. let there : after other ≡ before other = put other ∙ ap (λ (b : Bool). if b then list else before other) differs in
    rw there (rw differs (same_either w (meaning_among on (before other)))))
    (cases_Bool (bytes_eq other name))

-- ---- names that no macro may have

pub never_both : (w b : Bool) → b ≡ false → false ≡ (w && b)
never_both true b is = sym is
never_both false b is = refl

pub unless_barred : (w b : Bool) → b ≡ false → w ≡ (w && not b)
unless_barred true b is = ap not (sym is)
unless_barred false b is = refl
