-- What an `#include` line finds is a header or built in, so one of the files where each header is.
use Rattle.std.proofs.Common.{ℕ, suc, ◌+◌, ◌<◌, ◌≤◌, List, [], ◌∷◌, ◌++◌, length, Option, Some, None, codes, arith}
use Rattle.std.specs.Prelude.{⊤}
use Rattle.std.specs.List.{flat_map}
use Rattle.std.specs.Str.{bytes_eq}
use Rattle.c_text.specs.Token.{PlainToken}
use Rattle.c_text.specs.Constants.{inside}
use Rattle.c_text.specs.Preprocessing.{Source, project_file, stdio, stdlib, components, resolved, folder, place_in, header_at, built_in, or_source, without_ends, source_of}
use Rattle.active_tokens.proofs.Everywhere.{by-choice}

-- a file with a number below this one, or one that is built in
abbrev pub IsFound : ℕ → Source → Type 0
IsFound limit (project_file number) = number < limit
IsFound limit stdio = ⊤
IsFound limit stdlib = ⊤

abbrev pub MayBeFound : ℕ → Option Source → Type 0
MayBeFound limit None = ⊤
MayBeFound limit (Some source) = IsFound limit source

abbrev MayBeBelow : ℕ → Option ℕ → Type 0
MayBeBelow limit None = ⊤
MayBeBelow limit (Some number) = number < limit

module _ (limit : ℕ) where
  place-below : (headers : List (List ℕ)) (number : ℕ) (name : List ℕ) → number + length headers ≤ limit → MayBeBelow limit (place_in headers number name)
  place-below [] number name h = tt
  place-below (header ∷ headers) number name h =
      by-choice (MayBeBelow limit) (bytes_eq header name) (Some number) (place_in headers (suc number) name) (omega (arith, h)) (place-below headers (suc number) name (omega (arith, h)))

  found : (place : Option ℕ) → MayBeBelow limit place → MayBeFound limit (Rattle.std.specs.Prelude.option_map project_file place)
  found None h = tt
  found (Some number) h = h

  header-found : (headers : List (List ℕ)) (name : Option (List ℕ)) → length headers ≤ limit → MayBeFound limit (header_at headers name)
  header-found headers None h = tt
  header-found headers (Some name) h = found (place_in headers 0 name) (place-below headers 0 name (omega (arith, h)))

  built-in-found : (name : List ℕ) → MayBeFound limit (built_in name)
  built-in-found name =
      by-choice (MayBeFound limit) (bytes_eq name (codes "stdio.h")) (Some stdio) _ tt
      (by-choice (MayBeFound limit) (bytes_eq name (codes "stdlib.h")) (Some stdlib) None tt tt)

  or-found : (first later : Option Source) → MayBeFound limit first → MayBeFound limit later → MayBeFound limit (or_source first later)
  or-found None later a b = b
  or-found (Some source) later a b = a

  pub source-found : (headers : List (List ℕ)) (includer : List ℕ) (tokens : List PlainToken) → length headers ≤ limit → MayBeFound limit (source_of headers includer tokens)
  source-found headers includer [] h = built-in-found (flat_map (λ token. token.text) (without_ends []))
  source-found headers includer (only ∷ []) h =
      let name = inside only.text in
      or-found (header_at headers (resolved [] (folder (components includer) ++ components name))) _
      (header-found headers (resolved [] (folder (components includer) ++ components name)) h)
      (or-found (header_at headers (resolved [] (components name))) (built_in name) (header-found headers (resolved [] (components name)) h) (built-in-found name))
  source-found headers includer (first ∷ second ∷ rest) h = built-in-found (flat_map (λ token. token.text) (without_ends (first ∷ second ∷ rest)))
