-- Pointers that move.
use Rattle.std.proofs.Common.{◌≡◌, ℕ, zero, suc, ◌<◌, ◌==◌, ◌∷◌, List, Bool, true, false, ◌&&◌, cond, ℤ, pos, ◌-ℤ◌, Option, Some, None, option_map, refl, ap, ◌∙◌, arith}
use Rattle.std.proofs.lemmas.Bool.{eqb-true}
use Rattle.c_types.specs.Types.{PlainType}
use Rattle.core_meaning.specs.Values.{Path, at, behind, lone_path, same_array}
use Rattle.core_meaning.specs.Memory.{Memory, stand_in, distance}
use Rattle.core_memory.specs.declared.pointers.Indices.{Indices}
use Rattle.core_memory.specs.PointerForms.{together, difference_of}

pub lone_more : (path : Path) (n : ℕ) → 0 < n → behind ∷ path ≡ lone_path path n
lone_more path zero more = absurd (omega (arith, more))
lone_more path (suc n) more = refl

pub lone_none : (path : Path) (n : ℕ) → n ≡ 0 → path ≡ lone_path path n
lone_none path zero none = refl
lone_none path (suc n) none = absurd (omega (arith, none))

pub ruleset lone_steps = (lone_more, lone_none)

-- ---- two pointers

mapped_thrice : (f : Indices → ℤ) (b l s : Bool) (x : Indices) → option_map f (cond b (cond l (cond s (Some x) None) None) None) ≡ cond ((b && l) && s) (Some (f x)) None
mapped_thrice f true true true x = refl
mapped_thrice f true true false x = refl
mapped_thrice f true false s x = refl
mapped_thrice f false l s x = refl

module _ (structs : List (List PlainType)) (m : Memory) (j : ℕ) (p q : Path) where
  abbrev apart : Bool → ℕ → Option ℤ
  apart b i = cond ((b && (m.object j).lives) && same_array (stand_in structs m j p) (stand_in structs m i q)) (Some (pos (stand_in structs m j p).index -ℤ pos (stand_in structs m i q).index)) None

  apart_where : (b : Bool) (k : ℕ) → (b ≡ true → j ≡ k) → apart b j ≡ apart b k
  apart_where true k same = ap (apart true) (same refl)
  apart_where false k same = refl

  pub distance_is : (k : ℕ) → option_map difference_of (together structs m j p k q) ≡ distance structs m (at j p) (at k q)
  distance_is k =
      mapped_thrice difference_of (j == k) (m.object j).lives (same_array (stand_in structs m j p) (stand_in structs m j q)) (record { first = (stand_in structs m j p).index; second = (stand_in structs m j q).index })
      ∙ apart_where (j == k) k (eqb-true j k)
