-- A text is read byte by byte.
use Rattle.std.proofs.Common.{◌≡◌, ℕ, zero, suc, ◌<◌, List, [], ◌∷◌, ◌++◌, refl, sym, ap, ◌∙◌, Option, Some, None, option_map, arith, append_assoc}
use Rattle.std.proofs.lemmas.List.{append-nil}
use Rattle.c_types.specs.Types.{PlainType}
use Rattle.core_meaning.specs.Values.{Stand}
use Rattle.core_meaning.specs.Memory.{Memory}
use Rattle.core_meaning.specs.Meaning.{text_from, until_zero}
use Rattle.core_memory.specs.OperationForms.{with_structs}
use Rattle.core_memory.specs.TextForms.{byte_in, text_onward}

joined_none : {A : Type 0} (o : Option (List A)) → option_map (λ rest. [] ++ rest) o ≡ o
joined_none None = refl
joined_none (Some rest) = refl

joined_more : {A : Type 0} (bytes : List A) (b : A) (o : Option (List A)) → option_map (λ rest. bytes ++ rest) (option_map (λ rest. b ∷ rest) o) ≡ option_map (λ rest. (bytes ++ b ∷ []) ++ rest) o
joined_more bytes b None = refl
joined_more bytes b (Some rest) = ap Some (sym (append_assoc bytes (b ∷ []) rest))

module _ (structs : List (List PlainType)) (m : Memory) (object : ℕ) (stand : Stand) where
  begun_step : (left index : ℕ) (bytes : List ℕ) (byte : Option ℕ) → byte_in structs m object stand index ≡ byte → text_onward structs m object stand bytes (suc left) index ≡ option_map (λ rest. bytes ++ rest) (until_zero (with_structs structs) byte (text_from (with_structs structs) m object stand left (suc index)))
  begun_step left index bytes byte read = ap (λ b. option_map (λ rest. bytes ++ rest) (until_zero (with_structs structs) b (text_from (with_structs structs) m object stand left (suc index)))) read

  -- before any byte is read
  pub text_begins : (left index : ℕ) → text_onward structs m object stand [] left index ≡ text_from (with_structs structs) m object stand left index
  text_begins left index = joined_none (text_from (with_structs structs) m object stand left index)

  -- a byte that is no zero
  pub text_goes_on : (left now index next : ℕ) (bytes : List ℕ) (b : ℕ) → now ≡ suc left → next ≡ suc index → byte_in structs m object stand index ≡ Some b → 0 < b → text_onward structs m object stand bytes now index ≡ text_onward structs m object stand (bytes ++ b ∷ []) left next
  text_goes_on left now index next bytes zero count after read more = absurd (omega (arith, more))
  text_goes_on left now index next bytes (suc b) count after read more =
      ap (λ n. text_onward structs m object stand bytes n index) count
      ∙ begun_step left index bytes (Some (suc b)) read
      ∙ joined_more bytes (suc b) (text_from (with_structs structs) m object stand left (suc index))
      ∙ ap (text_onward structs m object stand (bytes ++ suc b ∷ []) left) (sym after)

  -- a zero
  pub text_ends : (left now index : ℕ) (bytes : List ℕ) (b : ℕ) → now ≡ suc left → byte_in structs m object stand index ≡ Some b → b ≡ 0 → text_onward structs m object stand bytes now index ≡ Some bytes
  text_ends left now index bytes b count read is_zero =
      ap (λ n. text_onward structs m object stand bytes n index) count
      ∙ begun_step left index bytes (Some 0) (read ∙ ap Some is_zero)
      ∙ ap Some (append-nil bytes)

  -- an element without a byte
  pub text_breaks : (left now index : ℕ) (bytes : List ℕ) → now ≡ suc left → byte_in structs m object stand index ≡ None → text_onward structs m object stand bytes now index ≡ None
  text_breaks left now index bytes count read = ap (λ n. text_onward structs m object stand bytes n index) count ∙ begun_step left index bytes None read

  -- no element is left
  pub text_runs_out : (now index : ℕ) (bytes : List ℕ) → now ≡ 0 → text_onward structs m object stand bytes now index ≡ None
  text_runs_out now index bytes none = ap (λ n. text_onward structs m object stand bytes n index) none
