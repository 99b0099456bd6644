-- The headers that an include finds are there.
use Rattle.std.proofs.Common.{◌≡◌, ℕ, suc, ◌+◌, ◌<◌, Bool, true, false, List, [], ◌∷◌, ◌++◌, length, map, Option, Some, None, sym, subst, arith}
use Rattle.std.specs.Prelude.{option_map, IfSome, if◌then◌else◌, ⊤, codes}
use Rattle.std.specs.List.{flat_map}
use Rattle.std.specs.Str.{bytes_eq}
use Rattle.std.proofs.lemmas.List.{length-map}
use Rattle.c_text.specs.Token.{PlainToken}
use Rattle.c_text.specs.Constants.{inside}
use Rattle.c_text.specs.Preprocessing as spec
use Rattle.unit_files.specs.declared.inclusions.Source.{Source}
use Rattle.unit_files.specs.declared.inclusions.Source.TheVariants.{ProjectFile, Stdio, Stdlib}
use Rattle.unit_files.specs.Inclusions.{plain_source, IsAmong}

abbrev Within : ℕ → spec.Source → Type 0
Within count (spec.project_file number) = number < count
Within count spec.stdio = ⊤
Within count spec.stdlib = ⊤

abbrev AllWithin : ℕ → Option spec.Source → Type 0
AllWithin count None = ⊤
AllWithin count (Some source) = Within count source

place-within : (headers : List (List ℕ)) (number : ℕ) (name : List ℕ) (count : ℕ) → number + length headers ≡ count → AllWithin count (option_map spec.project_file (spec.place_in headers number name))
place-within [] number name count h = tt
place-within (header ∷ headers) number name count h = by_cases (bytes_eq header name) (place-within headers (suc number) name count (omega arith))
  where
    by_cases :
        (b : Bool) → AllWithin count (option_map spec.project_file (spec.place_in headers (suc number) name))
        → AllWithin count (option_map spec.project_file (if b then Some number else spec.place_in headers (suc number) name))
    by_cases true k = omega arith
    by_cases false k = k

header-within : (headers : List (List ℕ)) (name : Option (List ℕ)) → AllWithin (length headers) (spec.header_at headers name)
header-within headers None = tt
header-within headers (Some name) = place-within headers 0 name (length headers) (omega arith)

built_in-within : (count : ℕ) (name : List ℕ) → AllWithin count (spec.built_in name)
built_in-within count name = by_cases (bytes_eq name (codes "stdio.h")) (bytes_eq name (codes "stdlib.h"))
  where
    by_cases : (b c : Bool) → AllWithin count (if b then Some spec.stdio else if c then Some spec.stdlib else None)
    by_cases true c = tt
    by_cases false true = tt
    by_cases false false = tt

or-within : (count : ℕ) (a b : Option spec.Source) → AllWithin count a → AllWithin count b → AllWithin count (spec.or_source a b)
or-within count None b h k = k
or-within count (Some source) b h k = h

source-within : (headers : List (List ℕ)) (includer : List ℕ) (tokens : List PlainToken) → AllWithin (length headers) (spec.source_of headers includer tokens)
source-within headers includer [] = built_in-within (length headers) (flat_map (λ token. token.text) (spec.without_ends []))
source-within headers includer (only ∷ []) =
    let name = inside only.text in
    let near = spec.resolved [] (spec.folder (spec.components includer) ++ spec.components name) in
    let alone = spec.resolved [] (spec.components name) in
    or-within (length headers) (spec.header_at headers near) (spec.or_source (spec.header_at headers alone) (spec.built_in name)) (header-within headers near) (or-within (length headers) (spec.header_at headers alone) (spec.built_in name) (header-within headers alone) (built_in-within (length headers) name))
source-within headers includer (first ∷ second ∷ tokens) =
    built_in-within (length headers) (flat_map (λ token. token.text) (spec.without_ends (first ∷ second ∷ tokens)))

among-is : (count : ℕ) (source : Source) → Within count (plain_source source) → IsAmong count source
among-is count (ProjectFile number) h = h
among-is count Stdio h = tt
among-is count Stdlib h = tt

pub among : {X : Type 0} (f : X → List ℕ) (headers : List X) (includer : List ℕ) (tokens : List PlainToken) (found : Option Source) → option_map plain_source found ≡ spec.source_of (map f headers) includer tokens → IfSome found (λ source. IsAmong (length headers) source)
among f headers includer tokens None h = tt
among f headers includer tokens (Some source) h =
    let w : AllWithin (length (map f headers)) (Some (plain_source source)) = subst (λ (o : Option spec.Source). AllWithin (length (map f headers)) o) (sym h) (source-within (map f headers) includer tokens) in
    among-is (length headers) source (subst (λ (n : ℕ). Within n (plain_source source)) (length-map headers f) w)
