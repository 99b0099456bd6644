-- What stands under a name in files with others behind them.
use Rattle.std.proofs.Common.{◌≡◌, ℕ, Bool, true, false, cond, List, [], ◌∷◌, ◌++◌, Some, None, refl}
use Rattle.std.specs.Str.{bytes_eq}
use Rattle.text_edits.specs.Files.{PlainFile, lookup_of}

pub found-before : (files behind : List PlainFile) (name bytes : List ℕ) → lookup_of files name ≡ Some bytes → lookup_of (files ++ behind) name ≡ Some bytes
found-before [] behind name bytes h = absurd (cc)
found-before (f ∷ files) behind name bytes h = by (bytes_eq f.name name) h (λ later. found-before files behind name bytes later)
  where
    by : (b : Bool) → cond b (Some f.bytes) (lookup_of files name) ≡ Some bytes → (lookup_of files name ≡ Some bytes → lookup_of (files ++ behind) name ≡ Some bytes)
        → cond b (Some f.bytes) (lookup_of (files ++ behind) name) ≡ Some bytes
    by true e later = e
    by false e later = later e

pub found-behind : (files behind : List PlainFile) (name : List ℕ) → lookup_of files name ≡ None → lookup_of (files ++ behind) name ≡ lookup_of behind name
found-behind [] behind name h = refl
found-behind (f ∷ files) behind name h = by (bytes_eq f.name name) h (λ later. found-behind files behind name later)
  where
    by : (b : Bool) → cond b (Some f.bytes) (lookup_of files name) ≡ None → (lookup_of files name ≡ None → lookup_of (files ++ behind) name ≡ lookup_of behind name)
        → cond b (Some f.bytes) (lookup_of (files ++ behind) name) ≡ lookup_of behind name
    by true e later = absurd (cc)
    by false e later = later e
