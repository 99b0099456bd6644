-- The bytes of a text, one after the other.
use Rattle.std.proofs.Common.{◌≡◌, ℕ, suc, zero, ◌+◌, ◌<◌, ◌≤◌, ◌==◌, cond, Bool, true, false, ◌&&◌, List, [], ◌∷◌, ◌++◌, length, take, get_or, refl, sym, ap, ◌∙◌, Option, Some, None, option_map, arith}
use Rattle.std.proofs.Math.Dec.{eqb-suc-zero, eqb-zero-suc, eqb-suc-suc}
use Rattle.std.proofs.lemmas.List.{take_more, take_all, length-take-le}
use Rattle.std.specs.List.{slice_get}
use Rattle.std.specs.Prelude.{pos}
use Rattle.c_types.specs.Types.{char}
use Rattle.c_types.specs.Integers.{converted}
use Rattle.core_meaning.specs.Values.{part, behind, Path, Scalar, number, Cells}
use Rattle.core_meaning.specs.Memory.{unwritten}
use Rattle.core_meaning.specs.Run.{text_cells}
use Rattle.core_cells.specs.PathLaws.{same_at}
use Rattle.core_memory.specs.InitialForms.{with_scalar_at, bytes_in}

-- one byte more than those that are there
byte_more : (bytes : List ℕ) (b k : ℕ) → cond (k == length bytes) (Some b) (slice_get bytes k) ≡ slice_get (bytes ++ b ∷ []) k
byte_more [] b zero = refl
byte_more [] b (suc k) = ap (λ x. cond x (Some b) None) (eqb-suc-zero k)
byte_more (x ∷ bytes) b zero = ap (λ y. cond y (Some b) (Some x)) (eqb-zero-suc (length bytes))
byte_more (x ∷ bytes) b (suc k) = ap (λ y. cond y (Some b) (slice_get bytes k)) (eqb-suc-suc k (length bytes)) ∙ byte_more bytes b k

abbrev char_of : ℕ → Scalar
char_of b = number (converted char (pos b))

and_true : (c : Bool) → (c && true) ≡ c
and_true true = refl
and_true false = refl

never : (c : Bool) (v : Scalar) → ◌≡◌ {A = Option Scalar} (cond (c && false) (Some v) None) None
never true v = refl
never false v = refl

mapped : (c : Bool) (b : ℕ) (o : Option ℕ) → cond c (Some (char_of b)) (option_map char_of o) ≡ option_map char_of (cond c (Some b) o)
mapped true b o = refl
mapped false b o = refl

byte_at : (bytes : List ℕ) (b : ℕ) (path : Path) → with_scalar_at (part (length bytes) ∷ []) (char_of b) (bytes_in bytes) path ≡ bytes_in (bytes ++ b ∷ []) path
byte_at bytes b [] = refl
byte_at bytes b (part k ∷ []) =
    ap (λ c. cond c (Some (char_of b)) (option_map char_of (slice_get bytes k))) (and_true (k == length bytes))
    ∙ (mapped (k == length bytes) b (slice_get bytes k)
    ∙ ap (option_map char_of) (byte_more bytes b k))
byte_at bytes b (behind ∷ []) = refl
byte_at bytes b (part k ∷ y ∷ rest) = never (k == length bytes) (char_of b)
byte_at bytes b (behind ∷ y ∷ rest) = refl

pub bytes_more : (bytes : List ℕ) (b : ℕ) → with_scalar_at (part (length bytes) ∷ []) (number (converted char (pos b))) (bytes_in bytes) ≡ bytes_in (bytes ++ b ∷ [])
bytes_more bytes b = same_at _ _ (byte_at bytes b)

no_bytes : (path : Path) → unwritten path ≡ bytes_in [] path
no_bytes [] = refl
no_bytes (part k ∷ []) = refl
no_bytes (behind ∷ []) = refl
no_bytes (part k ∷ y ∷ rest) = refl
no_bytes (behind ∷ y ∷ rest) = refl

pub no_bytes_yet : unwritten ≡ bytes_in []
no_bytes_yet = same_at _ _ no_bytes

text_at_path : (bytes : List ℕ) (path : Path) → bytes_in (bytes ++ 0 ∷ []) path ≡ text_cells bytes path
text_at_path bytes [] = refl
text_at_path bytes (part k ∷ []) = refl
text_at_path bytes (behind ∷ []) = refl
text_at_path bytes (part k ∷ y ∷ rest) = refl
text_at_path bytes (behind ∷ y ∷ rest) = refl

pub whole_text : (bytes : List ℕ) → bytes_in (bytes ++ 0 ∷ []) ≡ text_cells bytes
whole_text bytes = same_at _ _ (text_at_path bytes)

-- ---- the cells of a text

pub byte_of_text : (text : List ℕ) (i : ℕ) (old : Cells) → i < length text → old ≡ bytes_in (take i text) → with_scalar_at (part i ∷ []) (number (converted char (pos (get_or text i 0)))) old ≡ bytes_in (take (i + 1) text)
byte_of_text text i old within so_far =
    let bytes = take i text in
    let b = get_or text i 0 in
    ap (with_scalar_at (part i ∷ []) (char_of b)) so_far
    ∙ (ap (λ k. with_scalar_at (part k ∷ []) (char_of b) (bytes_in bytes)) (sym (length-take-le i text (omega arith)))
    ∙ (bytes_more bytes b
    ∙ ap bytes_in (sym (take_more text i 0 within))))

pub zero_of_text : (text : List ℕ) (i : ℕ) (old : Cells) → length text ≤ i → old ≡ bytes_in (take i text) → with_scalar_at (part (length text) ∷ []) (number (converted char (pos 0))) old ≡ text_cells text
zero_of_text text i old whole so_far =
    ap (with_scalar_at (part (length text) ∷ []) (char_of 0)) (so_far ∙ ap bytes_in (take_all i text whole))
    ∙ (bytes_more text 0 ∙ whole_text text)
