-- LAWS of the machine, each the contract of a function of this crate.
use Rattle.std.specs.Prelude.{◌≡◌, ◌↔◌, ℕ, Bool, true, false, ◌&&◌, ◌||◌, List, [], ◌∷◌, ◌++◌, Some, None, is_some, option_and_then}
use Rattle.std.specs.List.{list_any}
use Rattle.std.specs.Str.{bytes_eq}
use Rattle.quick_form.specs.Symbols.{Symbol, Int, Name, Number, Ifdef, Malformed, tested_names}
use Rattle.quick_form.specs.Form.{Items, write_items, declared_names, IsWritten, IsBeginning}
use Rattle.quick_parser.specs.Completion.{completion}
use Rattle.quick_parser.specs.Steps.{State, has_room, step, after, is_entry, is_complete}

-- no state is a dead end: what was read is a whole file with the state's completion behind it
abbrev pub StatesComplete : Type 0
StatesComplete = (ks : List Symbol) (s : State) → after ks ≡ Some s → IsWritten (ks ++ completion s)

-- what is read is the beginning of some file
abbrev pub StatesBegin : Type 0
StatesBegin = (ks : List Symbol) (s : State) → after ks ≡ Some s → IsBeginning ks

-- what is refused is the beginning of no file
abbrev pub RefusalsEnd : Type 0
RefusalsEnd = (ks : List Symbol) → after ks ≡ None → IsBeginning ks → ⊥

-- the state tells whether what was read is a whole file
abbrev pub CompleteIsWritten : Type 0
CompleteIsWritten = (ks : List Symbol) (s : State) → after ks ≡ Some s → (is_complete s ≡ true) ↔ IsWritten ks

-- what is refused is no file
abbrev pub RefusedIsUnwritten : Type 0
RefusedIsUnwritten = (ks : List Symbol) → after ks ≡ None → IsWritten ks → ⊥

-- the state has the tested names in the order of their first tests
abbrev pub TestsAreKept : Type 0
TestsAreKept = (ks : List Symbol) (s : State) → after ks ≡ Some s → s.tested_names ≡ tested_names ks

-- one symbol more is one step more
abbrev pub OneStepMore : Type 0
OneStepMore = (ks : List Symbol) (k : Symbol) → after (ks ++ k ∷ []) ≡ option_and_then (λ s. step s k) (after ks)

-- where one name may stand, outside directive lines, each may; likewise numbers
abbrev pub NamesAreAlike : Type 0
NamesAreAlike = (s : State) (x y : List ℕ) → step s (Name x) ≡ step s (Name y)

abbrev pub NumbersAreAlike : Type 0
NumbersAreAlike = (s : State) (d e : List ℕ) → step s (Number d) ≡ step s (Number e)

-- A name may be tested where an entry may begin, if it was tested or fewer than 128 names were.
abbrev pub TestsStandAtEntries : Type 0
TestsStandAtEntries =
    (s : State) (n : List ℕ)
    → is_some (step s (Ifdef n)) ≡ (is_entry s.spot.place && has_room s.tested_names n)

-- what is no token of the form stands nowhere
abbrev pub MalformedIsRefused : Type 0
MalformedIsRefused = (s : State) → step s Malformed ≡ None

-- whether the list begins with the name n
abbrev pub begins_with_name : List ℕ → List Symbol → Bool
begins_with_name n [] = false
begins_with_name n (Name m ∷ ks) = bytes_eq n m
begins_with_name n (k ∷ ks) = false

-- whether `int` and the name n are neighbours somewhere
abbrev pub declares : List ℕ → List Symbol → Bool
declares n [] = false
declares n (Int ∷ ks) = begins_with_name n ks || declares n ks
declares n (k ∷ ks) = declares n ks

-- the declared names of items are those behind an `int`
abbrev pub DeclaredBehindInt : Type 0
DeclaredBehindInt =
    (n : List ℕ) (items : Items)
    → declares n (write_items items []) ≡ list_any (bytes_eq n) (declared_names items)
