-- The plain form of texts, and the bytes of one that are still to be read.
use Rattle.std.specs.Prelude.{ℕ, List, ◌++◌, Option, Vec, option_map}
use Rattle.std.specs.declared.alloc.Global.{Global}
use Rattle.c_types.specs.Types.{PlainType}
use Rattle.core_meaning.specs.Values.{at, Stand, element_path}
use Rattle.core_meaning.specs.Memory.{Memory, value_at}
use Rattle.core_meaning.specs.Meaning.{text_from, byte_of}
use Rattle.core_memory.specs.OperationForms.{with_structs}

abbrev pub plain_text : Option (Vec ℕ Global) → Option (List ℕ)
plain_text text = option_map (λ (bytes : Vec ℕ Global). bytes.items) text

module _ (structs : List (List PlainType)) (m : Memory) (object : ℕ) (stand : Stand) where
  -- the byte of an element
  abbrev pub byte_in : ℕ → Option ℕ
  byte_in index = byte_of (with_structs structs) (value_at structs m (at object (element_path stand index)))

  -- these bytes, and those from an element on
  abbrev pub text_onward : List ℕ → ℕ → ℕ → Option (List ℕ)
  text_onward bytes left index = option_map (λ rest. bytes ++ rest) (text_from (with_structs structs) m object stand left index)
