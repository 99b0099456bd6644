-- Memory of the quick form as memory of a core program: each object of a name is an `int` that holds the name's number.
use Rattle.std.proofs.Common.{◌≡◌, ℕ, suc, ◌==◌, ℤ, Bool, true, false, List, [], ◌∷◌, refl, sym, ◌∙◌, ap, subst, cond, Some, IsTrue}
use Rattle.std.proofs.Math.Dec.{eqb-suc-zero, eqb-zero-suc, eqb-suc-suc}
use Rattle.std.proofs.lemmas.Slice.Eq.{bytes_eq-Decides}
use Rattle.std.specs.Str.{bytes_eq}
use Rattle.c_types.specs.Types.{PlainType, int}
use Rattle.core_meaning.specs.Values.{at, number, scalar, Cells, same_path}
use Rattle.core_meaning.specs.Memory.{Object, Memory, with_object, value_at, written_at}
use Rattle.quick_form.specs.Run as quick
use Rattle.quick_form.specs.Run.{with_value, is_int}
use Rattle.quick_core.specs.CoreProgram.{number_in}

abbrev pub is_in : List (List ℕ) → List ℕ → Bool
is_in [] x = false
is_in (y ∷ ys) x = cond (bytes_eq x y) true (is_in ys x)

-- the object is an `int` that holds z
pub record Holds (z : ℤ) (o : Object) : Type 0 where
  pub ty : o.ty ≡ int
  pub lives : o.lives ≡ true
  pub writable : o.writable ≡ true
  pub cell : o.cells [] ≡ Some (number z)
  pub in_range : IsTrue (is_int z)

pub record Alike (names : List (List ℕ)) (m : quick.Memory) (memory : Memory) : Type 0 where
  pub holds : (x : List ℕ) → IsTrue (is_in names x) → Holds (m x) (memory.object (number_in names x))

-- the object with z written
abbrev pub cells_of : ℤ → Cells → Cells
cells_of z cells = λ other. cond (same_path other []) (Some (number z)) (cells other)

abbrev pub with_number : Object → ℤ → Object
with_number o z = record o { cells = cells_of z o.cells }

abbrev pub written : Memory → ℕ → ℤ → Memory
written memory k z = with_object memory k (with_number (memory.object k) z)

pub read_is : (structs : List (List PlainType)) (memory : Memory) (k : ℕ) (z : ℤ) → Holds z (memory.object k) → value_at structs memory (at k []) ≡ Some (scalar (number z))
read_is structs memory k z h = rw (h.lives, h.ty, h.cell) refl

pub write_is : (structs : List (List PlainType)) (memory : Memory) (k : ℕ) (z w : ℤ) → Holds z (memory.object k) → written_at structs memory (at k []) (scalar (number w)) ≡ Some (written memory k w)
write_is structs memory k z w h = rw (h.lives, h.writable) refl

different_by : (y x : List ℕ) (b : Bool) → bytes_eq y x ≡ b → (y ≡ x → ⊥) → b ≡ false
different_by y x true e h = absurd (h ((bytes_eq-Decides y x).0 e))
different_by y x false e h = refl

different : (y x z : List ℕ) → (y ≡ x → ⊥) → bytes_eq y x ≡ false
different y x z h = different_by y x (bytes_eq y x) refl h

same_number_by : (x y z : List ℕ) (zs : List (List ℕ)) (a b : Bool) → bytes_eq y z ≡ a → bytes_eq x z ≡ b → (a ≡ false → bytes_eq y x ≡ (number_in zs y == number_in zs x)) → bytes_eq y x ≡ (cond a 0 (suc (number_in zs y)) == cond b 0 (suc (number_in zs x)))
same_number_by x y z zs true true e f h =
    let p : y ≡ z = (bytes_eq-Decides y z).0 e in
    let q : x ≡ z = (bytes_eq-Decides x z).0 f in
    (bytes_eq-Decides y x).1 (p ∙ sym q)
same_number_by x y z zs true false e f h =
    different y x z (λ same. let t : true ≡ false = sym e ∙ (ap (λ w. bytes_eq w z) same ∙ f) in cc) ∙ sym (eqb-zero-suc (number_in zs x))
same_number_by x y z zs false true e f h =
    different y x z (λ same. let t : true ≡ false = sym f ∙ (sym (ap (λ w. bytes_eq w z) same) ∙ e) in cc) ∙ sym (eqb-suc-zero (number_in zs y))
same_number_by x y z zs false false e f h = h refl ∙ sym (eqb-suc-suc (number_in zs y) (number_in zs x))

pub same_number : (names : List (List ℕ)) (x y : List ℕ) → IsTrue (is_in names y) → bytes_eq y x ≡ (number_in names y == number_in names x)
same_number [] x y h = absurd cc
same_number (z ∷ zs) x y h =
    same_number_by x y z zs (bytes_eq y z) (bytes_eq x z) refl refl
    (λ e. same_number zs x y (subst (λ b. IsTrue (cond b true (is_in zs y))) e h))

holds_choice : (v w : ℤ) (old : Object) (new : Object) (b c : Bool) → b ≡ c → Holds v new → Holds w old → Holds (cond b v w) (cond c new old)
holds_choice v w old new true c e h k = subst (λ d. Holds v (cond d new old)) e h
holds_choice v w old new false c e h k = subst (λ d. Holds w (cond d new old)) e k

pub holds_written : (z v : ℤ) (o : Object) → Holds z o → IsTrue (is_int v) → Holds v (with_number o v)
holds_written z v o h i = record { ty = h.ty; lives = h.lives; writable = h.writable; cell = refl; in_range = i }

pub alike_written : (names : List (List ℕ)) (m : quick.Memory) (memory : Memory) (x : List ℕ) (v : ℤ) → Alike names m memory → IsTrue (is_in names x) → IsTrue (is_int v) → Alike names (with_value m x v) (written memory (number_in names x) v)
alike_written names m memory x v h known i =
    record { holds = λ y in_y. holds_choice v (m y) (memory.object (number_in names y)) (with_number (memory.object (number_in names x)) v) (bytes_eq y x) (number_in names y == number_in names x) (same_number names x y in_y) (holds_written (m x) v (memory.object (number_in names x)) (h.holds x known) i) (h.holds y in_y) }
