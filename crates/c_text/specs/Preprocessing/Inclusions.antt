-- Which file an `#include` line finds (ISO/IEC 9899:2011, 6.10.2).
use Rattle.std.specs.Prelude.{if◌then◌else◌, ℕ, suc, ◌-◌, ◌==◌, List, [], ◌∷◌, ◌++◌, length, take, drop, reverse, codes, Option, Some, None, option_map}
use Rattle.std.specs.List.{slice_split, flat_map}
use Rattle.std.specs.Str.{bytes_eq}
use Rattle.c_names.specs.Bytes.{slash}
use Rattle.c_text.specs.Token.{PlainToken}
use Rattle.c_text.specs.Constants.{inside}

-- what an `#include` may find
pub data Source : Type 0 where
  project_file : ℕ → Source
  stdio : Source
  stdlib : Source

abbrev pub components : List ℕ → List (List ℕ)
components name = slice_split (λ b. b == slash) name

abbrev pub further : List (List ℕ) → List ℕ
further [] = []
further (part ∷ parts) = slash ∷ part ++ further parts

abbrev pub joined : List (List ℕ) → List ℕ
joined [] = []
joined (part ∷ parts) = part ++ further parts

-- without `.`, and without what stands before a `..`; none where nothing stands there. The parts before are given last first.
abbrev pub resolved : List (List ℕ) → List (List ℕ) → Option (List ℕ)
resolved before [] = Some (joined (reverse before))
resolved before (part ∷ parts) =
    if bytes_eq part (codes ".") then resolved before parts
    else if bytes_eq part (codes "..") then upwards before (λ above. resolved above parts)
    else resolved (part ∷ before) parts
  where
    upwards : List (List ℕ) → (List (List ℕ) → Option (List ℕ)) → Option (List ℕ)
    upwards [] others = None
    upwards (last ∷ above) others = others above

abbrev pub folder : List (List ℕ) → List (List ℕ)
folder [] = []
folder (name ∷ []) = []
folder (part ∷ second ∷ parts) = part ∷ folder (second ∷ parts)

abbrev pub place_in : List (List ℕ) → ℕ → List ℕ → Option ℕ
place_in [] number name = None
place_in (header ∷ headers) number name = if bytes_eq header name then Some number else place_in headers (suc number) name

abbrev pub header_at : List (List ℕ) → Option (List ℕ) → Option Source
header_at headers None = None
header_at headers (Some name) = option_map project_file (place_in headers 0 name)

abbrev pub built_in : List ℕ → Option Source
built_in name =
    if bytes_eq name (codes "stdio.h") then Some stdio else if bytes_eq name (codes "stdlib.h") then Some stdlib else None

abbrev pub or_source : Option Source → Option Source → Option Source
or_source None later = later
or_source (Some source) later = Some source

-- A text's name is looked for beside the file that includes it, then alone, among the project's headers; then among the
-- built-in ones.
abbrev pub quoted_source : List (List ℕ) → List ℕ → List ℕ → Option Source
quoted_source headers includer name =
    or_source (header_at headers (resolved [] (folder (components includer) ++ components name)))
    (or_source (header_at headers (resolved [] (components name))) (built_in name))

abbrev pub without_ends : List PlainToken → List PlainToken
without_ends tokens = take (length tokens - 2) (drop 1 tokens)

abbrev pub source_of : List (List ℕ) → List ℕ → List PlainToken → Option Source
source_of headers includer (only ∷ []) = quoted_source headers includer (inside only.text)
source_of headers includer tokens = built_in (flat_map (λ token. token.text) (without_ends tokens))
