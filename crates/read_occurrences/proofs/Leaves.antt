-- The leaves of a unit that are identifiers are its identifiers, with their numbers in the stream.
use Rattle.std.proofs.Common.{◌≡◌, ℕ, ◌+◌, Bool, true, false, List, [], ◌∷◌, ◌++◌, map, length, drop, get_or, refl, sym, ap, subst, ◌∙◌, append_assoc, drop-drop, get_or-drop, add-zero, IsTrue, arith}
use Rattle.std.specs.Prelude.{Some, option_map, slice_get, filter, if◌then◌else◌}
use Rattle.std.specs.List.{AllZip, AllByRecursion}
use Rattle.std.proofs.lemmas.List.{length-append}
use Rattle.std.proofs.lemmas.Option.{slice_get-map, get_or_from_slice_get}
use Rattle.c_text.specs.Token.{PlainToken}
use Rattle.bindings.specs.Visible.{Occurrence as BoundIdentifier}
use Rattle.bindings.specs.Bindings.{is_name}
use Rattle.choice_trees.specs.Leaves.{Leaf, texts}
use Rattle.cond_scopes.specs.Progress.{number_or_none, numbers}
use Rattle.changed_forests.specs.Numbered.{number_of}
use Rattle.program_occurrences.specs.Occurrences.{Identifier, identifiers_from}
use Rattle.program_occurrences.specs.Laws.{identifier_of}
use Rattle.cond_name_spaces.specs.Spaced.{names_among}
use Rattle.told_occurrences.specs.Told.{number_in}
use Rattle.told_occurrences.specs.Leaves.{TellsNumber}
use Rattle.read_occurrences.proofs.Walked.{token_names}
use Rattle.read_occurrences.proofs.OneByOne.{IsLeafOf}

-- an identifier among the leaves
pub record IsLeafAt (leaves : List Leaf) (i : Identifier) (l : Leaf) : Type 0 where
  pub place : slice_get leaves i.number ≡ Some l
  pub name : IsTrue (is_name l.text)
  pub text : l.text ≡ i.token
  pub told : l.number ≡ Some (number_of l.text)

get_here : (before : List Leaf) (l : Leaf) (rest : List Leaf) → slice_get (before ++ l ∷ rest) (length before) ≡ Some l
get_here [] l rest = refl
get_here (x ∷ before) l rest = get_here before l rest

names_at :
    (all before leaves : List Leaf) (n : ℕ) → all ≡ before ++ leaves → n ≡ length before → AllByRecursion TellsNumber leaves → AllZip (IsLeafAt all) (identifiers_from n (texts leaves)) (names_among leaves)
names_at all before [] n is e told = tt
names_at all before (l ∷ rest) n is e told =
    by (is_name l.text) refl
    (names_at all (before ++ l ∷ []) rest (n + 1) (is ∙ sym (append_assoc before (l ∷ []) rest)) (let both : length (before ++ l ∷ []) ≡ length before + 1 = length-append before (l ∷ []) in omega (arith, e, both)) told.1)
  where
    by :
        (b : Bool) → is_name l.text ≡ b → AllZip (IsLeafAt all) (identifiers_from (n + 1) (texts rest)) (names_among rest)
        → AllZip (IsLeafAt all) (if b then record { number = n; token = l.text } ∷ identifiers_from (n + 1) (texts rest) else identifiers_from (n + 1) (texts rest)) (if b then l ∷ names_among rest else names_among rest)
    by true name later = (record { place = ap (slice_get all) e ∙ ap (λ (x : List Leaf). slice_get x (length before)) is ∙ get_here before l rest; name = name; text = refl; told = told.0 name }, later)
    by false name later = later

-- ---- the leaves of bindings

at_binding : (leaves : List Leaf) (bs : List BoundIdentifier) (ls : List Leaf) → AllZip (IsLeafAt leaves) (map identifier_of bs) ls → AllZip (λ b l. IsLeafAt leaves (identifier_of b) l) bs ls
at_binding leaves [] [] h = tt
at_binding leaves [] (l ∷ ls) h = absurd h
at_binding leaves (b ∷ bs) [] h = absurd h
at_binding leaves (b ∷ bs) (l ∷ ls) h = (h.0, at_binding leaves bs ls h.1)

pub names_placed :
    (leaves : List Leaf) (tokens : List PlainToken) (bs : List BoundIdentifier) → texts leaves ≡ tokens → map identifier_of bs ≡ identifiers_from 0 tokens → AllByRecursion TellsNumber leaves
    → AllZip (λ b l. IsLeafAt leaves (identifier_of b) l) bs (names_among leaves)
names_placed leaves tokens bs spells ids told =
    at_binding leaves bs (names_among leaves)
    (subst (λ is. AllZip (IsLeafAt leaves) is (names_among leaves)) (ap (identifiers_from 0) spells ∙ sym ids) (names_at leaves [] leaves 0 refl refl told))

one_leaf : (leaves : List Leaf) (b : BoundIdentifier) (l : Leaf) → IsLeafAt leaves (identifier_of b) l → IsLeafOf (numbers leaves) b l
one_leaf leaves b l h =
    let there : slice_get (numbers leaves) b.number ≡ Some (number_or_none l.number) =
    slice_get-map (λ (x : Leaf). number_or_none x.number) leaves b.number ∙ ap (option_map (λ (x : Leaf). number_or_none x.number)) h.place in
    let is : number_in (numbers leaves) b.number ≡ number_of l.text = get_or_from_slice_get (numbers leaves) b.number (number_or_none l.number) 0 there ∙ ap number_or_none h.told in
    record { text = h.text; tells = h.told ∙ ap Some (sym is); number = sym is }

pub leaves_told : (leaves : List Leaf) (bs : List BoundIdentifier) (ls : List Leaf) → AllZip (λ b l. IsLeafAt leaves (identifier_of b) l) bs ls → AllZip (IsLeafOf (numbers leaves)) bs ls
leaves_told leaves [] [] h = tt
leaves_told leaves [] (l ∷ ls) h = absurd h
leaves_told leaves (b ∷ bs) [] h = absurd h
leaves_told leaves (b ∷ bs) (l ∷ ls) h = (one_leaf leaves b l h.0, leaves_told leaves bs ls h.1)

-- ---- the names among tokens

pub tokens_named : (tokens : List PlainToken) (n : ℕ) → filter is_name tokens ≡ map (λ (i : Identifier). i.token) (identifiers_from n tokens)
tokens_named [] n = refl
tokens_named (token ∷ rest) n = by (is_name token) (tokens_named rest (n + 1))
  where
    by :
        (b : Bool) → filter is_name rest ≡ map (λ (i : Identifier). i.token) (identifiers_from (n + 1) rest)
        → (if b then token ∷ filter is_name rest else filter is_name rest) ≡ map (λ (i : Identifier). i.token) (if b then record { number = n; token = token } ∷ identifiers_from (n + 1) rest else identifiers_from (n + 1) rest)
    by true e = ap (λ (l : List PlainToken). token ∷ l) e
    by false e = e

this_number : (all : List ℕ) (n : ℕ) → get_or (drop n all) 0 0 ≡ get_or all n 0
this_number all n = get_or-drop n all 0 0 ∙ ap (λ (i : ℕ). get_or all i 0) (add-zero n)

pub names_numbered : (all : List ℕ) (tokens : List PlainToken) (n : ℕ) → token_names tokens (drop n all) ≡ map (λ (i : Identifier). number_in all i.number) (identifiers_from n tokens)
names_numbered all [] n = refl
names_numbered all (token ∷ rest) n =
    by (is_name token) (ap (token_names rest) (drop-drop 1 n all) ∙ names_numbered all rest (n + 1))
  where
    by :
        (b : Bool) → token_names rest (drop 1 (drop n all)) ≡ map (λ (i : Identifier). number_in all i.number) (identifiers_from (n + 1) rest)
        → (if b then get_or (drop n all) 0 0 ∷ token_names rest (drop 1 (drop n all)) else token_names rest (drop 1 (drop n all)))
        ≡ map (λ (i : Identifier). number_in all i.number) (if b then record { number = n; token = token } ∷ identifiers_from (n + 1) rest else identifiers_from (n + 1) rest)
    by true e = ap (λ (x : ℕ). x ∷ token_names rest (drop 1 (drop n all))) (this_number all n) ∙ ap (λ (l : List ℕ). get_or all n 0 ∷ l) e
    by false e = e
