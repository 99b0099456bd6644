-- A parser as a machine: its states, and what a symbol does to them.
use Rattle.std.specs.Prelude.{ℕ, Bool, true, false, nat_lt, ◌&&◌, ◌||◌, List, [], ◌∷◌, ◌++◌, length, Option, Some, None, if◌then◌else◌, option_map, option_and_then}
use Rattle.std.specs.List.{list_any}
use Rattle.std.specs.Str.{bytes_eq}
use Rattle.quick_form.specs.Symbols.{Symbol, Ifdef}
use Rattle.quick_parser.specs.declared.spots.Place.{Place}
use Rattle.quick_parser.specs.declared.spots.Place.TheVariants.{Entry}
use Rattle.quick_parser.specs.declared.spots.Frame.{Frame}
use Rattle.quick_parser.specs.Spots.{Spot, advanced}

-- where a parser stands, and the names that were tested so far, each once
pub record State : Type 0 where
  pub spot : Spot
  pub tested_names : List (List ℕ)

abbrev pub start : State
start = record { spot = record { place = Entry; open_frames = [] }; tested_names = [] }

-- the names with n, which counts once
abbrev pub with_test : List (List ℕ) → List ℕ → List (List ℕ)
with_test ns n = if list_any (bytes_eq n) ns then ns else ns ++ n ∷ []

-- 128 names are tested at most
abbrev pub has_room : List (List ℕ) → List ℕ → Bool
has_room ns n = list_any (bytes_eq n) ns || nat_lt (length ns) 128

-- the names tested behind a symbol
abbrev pub noted : List (List ℕ) → Symbol → Option (List (List ℕ))
noted ns (Ifdef n) = if has_room ns n then Some (with_test ns n) else None
noted ns k = Some ns

-- the state behind a symbol, if it can stand there
abbrev pub step : State → Symbol → Option State
step s k =
    option_and_then (λ ns. option_map (λ p. record { spot = p; tested_names = ns }) (advanced s.spot k))
    (noted s.tested_names k)

abbrev pub steps : State → List Symbol → Option State
steps s [] = Some s
steps s (k ∷ ks) = option_and_then (λ t. steps t ks) (step s k)

-- the state behind the symbols, read from the start
abbrev pub after : List Symbol → Option State
after ks = steps start ks

-- where an entry of a list may begin
abbrev pub is_entry : Place → Bool
is_entry Entry = true
is_entry p = false

abbrev pub is_closed : List Frame → Bool
is_closed [] = true
is_closed (f ∷ fs) = false

-- between items, with nothing open
abbrev pub is_complete : State → Bool
is_complete s = is_entry s.spot.place && is_closed s.spot.open_frames
