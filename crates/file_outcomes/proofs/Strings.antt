-- Bytes as strings of std.
use Rattle.std.proofs.Common.{◌≡◌, ℕ, ◌<◌, List, [], ◌∷◌, length, map, String, string_bytes, IsUtf8, refl, ap, ◌∙◌, arith}
use Rattle.std.specs.Prelude.{Vec, ◌^◌}
use Rattle.std.specs.List.{AllByRecursion}
use Rattle.std.specs.declared.alloc.Global.{Global}

-- a string may have the bytes
pub record MayBeString (bytes : List ℕ) : Type 0 where
  pub utf8 : IsUtf8 bytes
  pub short : length bytes < 2 ^ 63

pub record HasString (bytes : List ℕ) : Type 0 where
  pub text : String Global
  pub spells : string_bytes text ≡ bytes

pub string_with : Global → (bytes : List ℕ) → MayBeString bytes → HasString bytes
string_with alloc bytes may =
    let v : Vec ℕ Global = record { ptr = denote.RawPtr.null_ptr; len = length bytes; cap = length bytes; alloc = alloc; items = bytes; ok = (refl, omega arith); small = omega (arith, may.short) } in
    let text : String Global = record { bytes = v; ok = ∣ may.utf8 ∣₁ } in
    record { text = text; spells = refl }

pub record HaveStrings (all : List (List ℕ)) : Type 0 where
  pub texts : List (String Global)
  pub spell : map string_bytes texts ≡ all

pub strings_with : Global → (all : List (List ℕ)) → AllByRecursion MayBeString all → HaveStrings all
strings_with alloc [] h = record { texts = []; spell = refl }
strings_with alloc (bytes ∷ rest) h =
    let first = string_with alloc bytes h.0 in
    let others = strings_with alloc rest h.1 in
    record { texts = first.text ∷ others.texts; spell = ap (λ b. b ∷ map string_bytes others.texts) first.spells ∙ ap (λ bs. bytes ∷ bs) others.spell }
