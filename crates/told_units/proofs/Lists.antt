-- Pairs and names one behind the other.
use Rattle.std.proofs.Common.{◌≡◌, ℕ, ◌+◌, ◌<◌, Bool, true, false, ◌&&◌, List, [], ◌∷◌, ◌++◌, drop, length, get_or, refl, sym, ap, ◌∙◌}
use Rattle.std.specs.Prelude.{Option, Some, None, not, ◌==◌, ◌||◌, if◌then◌else◌}
use Rattle.std.specs.List.{list_any}
use Rattle.std.proofs.lemmas.List.{append-nil, append_assoc}
use Rattle.cond_formula.specs.Conditions.{condition_of, value}
use Rattle.conditional.specs.Entries.{seen, under, entries_of}
use Rattle.conditional.specs.declared.entries.Guarded.{Guarded}
use Rattle.core_meaning.specs.Entities.{Signature}
use Rattle.core_meaning.specs.Entities as scopes
use Rattle.program_occurrences.specs.Occurrences.{UnitNames, external_name, is_external_name}
use Rattle.type_tables.specs.Tables.{FileName}
use Rattle.type_tables.specs.Follows.{NameFollows}
use Rattle.link_faults.specs.Measures.{is_so}
use Rattle.bindings.specs.Visible.{ordinary}
use Rattle.name_spaces.specs.Laws.{common_by}
use Rattle.cond_pairings.specs.Pairs.{Pair, one_seen, pairs_seen}
use Rattle.cond_pairings.proofs.Walks.{one_of}
use Rattle.cond_pairings.specs.declared.pairs.CondPairing.{CondPairing}
use Rattle.cond_name_spaces.specs.declared.entries.SpacedName.{SpacedName}
use Rattle.cond_name_spaces.specs.Spaced.{plain_name}
use Rattle.told_occurrences.specs.Told.{NumberedName, numbered}
use Rattle.told_occurrences.specs.Units.{names_seen}
use Rattle.told_occurrences.specs.Units as told
use Rattle.told_occurrences.specs.declared.told.ToldName.{ToldName}
use Rattle.declared_tokens.specs.Declarations.{declared_among, is_among}
use Rattle.read_occurrences.specs.Read.{is_own_pair, name_read, names_read}

module _ (on : ℕ → Bool) where
  -- the pairs of two lists
  pub pairs_behind : (xs ys : List CondPairing) → pairs_seen on (xs ++ ys) ≡ pairs_seen on xs ++ pairs_seen on ys
  pairs_behind [] ys = refl
  pairs_behind (x ∷ xs) ys = ap (λ rest. one_seen on x ++ rest) (pairs_behind xs ys) ∙ sym (append_assoc (one_seen on x) (pairs_seen on xs) (pairs_seen on ys))

  -- ---- names

  name_more : (xs : List ToldName) (n : ToldName) → names_seen on (xs ++ n ∷ []) ≡ names_seen on xs ++ under (value on (condition_of n.when)) (told.plain_name n ∷ [])
  name_more [] n =
      elim (value on (condition_of n.when)) as (λ b. (if b then told.plain_name n ∷ [] else []) ≡ under b (told.plain_name n ∷ [])) [ true ↦ refl | false ↦ refl ]
  name_more (x ∷ xs) n =
      elim (value on (condition_of x.when)) as (λ b. (if b then told.plain_name x ∷ names_seen on (xs ++ n ∷ []) else names_seen on (xs ++ n ∷ []))
      ≡ (if b then told.plain_name x ∷ names_seen on xs else names_seen on xs) ++ under (value on (condition_of n.when)) (told.plain_name n ∷ [])) [
        | true ↦ ap (λ rest. told.plain_name x ∷ rest) (name_more xs n)
        | false ↦ name_more xs n
      ]

  pub pushed : (xs all : List ToldName) (n : ToldName) → all ≡ xs ++ n ∷ [] → names_seen on all ≡ names_seen on xs ++ under (value on (condition_of n.when)) (told.plain_name n ∷ [])
  pushed xs all n is = ap (names_seen on) is ∙ name_more xs n

-- nothing more, where a condition is never true
pub none_more : {X : Type 0} (b : Bool) (before more : List X) → b ≡ false → before ≡ before ++ under b more
none_more true before more off = absurd cc
none_more false before more off = sym (append-nil before)

-- a name of file scope, where it has external linkage
pub external_too : (unit : UnitNames) (number : ℕ) (text : List ℕ) (here external when : Bool) → here ≡ (when && external) → unit.is_external text ≡ external
    → under here (numbered number (Some (external_name text))) ≡ under when (numbered number (common_by unit (Some ordinary) text))
external_too unit number text here external when is same =
    ap (λ b. under b (numbered number (Some (external_name text)))) is ∙ both when external ∙ ap (λ b. under when (numbered number (if b then Some (external_name text) else None))) (sym same)
  where
    both : (w e : Bool) → under (w && e) (numbered number (Some (external_name text))) ≡ under w (numbered number (if e then Some (external_name text) else None))
    both true true = refl
    both true false = refl
    both false e = refl

-- where two conditions are true
pub both_too : {X : Type 0} (here own when is : Bool) (more : List X) → here ≡ (when && own) → own ≡ is → under here more ≡ under when (if is then more else [])
both_too here own when is more e same = ap (λ b. under b more) (e ∙ ap (λ b. when && b) same) ∙ both when is
  where
    both : (w o : Bool) → under (w && o) more ≡ under w (if o then more else [])
    both true true = refl
    both true false = refl
    both false o = refl

-- one name more
module _ (on : ℕ → Bool) (unit : UnitNames) (pairs : List Pair) (names : List (Guarded SpacedName)) (one : Guarded SpacedName) (i : ℕ) (within : i < length names) (is : one ≡ get_or names i one) where
  pub name_too : (before new whole : List NumberedName) → new ≡ before ++ under (value on (condition_of one.when)) (name_read unit pairs (plain_name one.what))
      → before ++ names_read unit pairs (seen on (entries_of plain_name (drop i names))) ≡ whole
      → new ++ names_read unit pairs (seen on (entries_of plain_name (drop (i + 1) names))) ≡ whole
  name_too before new whole made goes =
      ap (λ l. l ++ names_read unit pairs (seen on (entries_of plain_name (drop (i + 1) names)))) made
      ∙ append_assoc before (under (value on (condition_of one.when)) (name_read unit pairs (plain_name one.what))) (names_read unit pairs (seen on (entries_of plain_name (drop (i + 1) names))))
      ∙ ap (λ l. before ++ l) (sym (ap (λ l. names_read unit pairs (seen on (entries_of plain_name l))) (one_of names one i within is) ∙ here (value on (condition_of one.when))))
      ∙ goes
    where
      here : (holds : Bool) → names_read unit pairs (if holds then plain_name one.what ∷ seen on (entries_of plain_name (drop (i + 1) names)) else seen on (entries_of plain_name (drop (i + 1) names)))
          ≡ under holds (name_read unit pairs (plain_name one.what)) ++ names_read unit pairs (seen on (entries_of plain_name (drop (i + 1) names)))
      here true = refl
      here false = refl

-- what has external linkage in a unit has it in what the unit leaves
pub external_alike : (by : ℕ → ℕ) (signatures : ℕ → Signature) (a : Option scopes.FileName) (b : Option FileName) → NameFollows by signatures a b → is_external_name a ≡ is_so (λ n. not n.internal) b
external_alike by signatures None None h = refl
external_alike by signatures None (Some n) h = absurd h
external_alike by signatures (Some n) None h = absurd h
external_alike by signatures (Some n) (Some other) h = ap not (sym h.1)

-- ---- identifiers that declare themselves

-- one is among those that declare it where it is paired with itself
pub own_among : (number : ℕ) (pairs : List Pair) → is_among (declared_among number pairs) number ≡ list_any (is_own_pair number) pairs
own_among number [] = refl
own_among number (p ∷ rest) =
    elim (p.identifier == number) as (λ b. is_among (if b then p.declared_by ∷ declared_among number rest else declared_among number rest) number ≡ ((b && p.declared_by == number) || list_any (is_own_pair number) rest)) [
      | true ↦ ap (λ c. p.declared_by == number || c) (own_among number rest)
      | false ↦ own_among number rest
    ]
