-- The answers to some tokens exclude each other, so each is given exactly where it holds.
use Rattle.std.proofs.Common.{◌≡◌, ◌≢◌, ℕ, zero, suc, ◌+◌, ◌<◌, ◌≤◌, List, [], ◌∷◌, ◌++◌, take, drop, Result, Ok, Err, refl, sym, ap, ◌∙◌, inl, inr, subst, arith, append_assoc}
use Rattle.std.specs.Prelude.{◌↔◌, IsOkAnd}
use Rattle.std.proofs.lemmas.List.{take-append-drop}
use Rattle.std.proofs.lemmas.Bool.{cases_order}
use Rattle.c_text.specs.Token.{PlainToken}
use Rattle.c_tree.specs.declared.trees.Tree.{Tree}
use Rattle.c_tree.specs.Trees.{PlainTree, plain_tree}
use Rattle.c_tree.specs.Heights.{height_of}
use Rattle.c_tree.specs.Units.{IsTreeOf, BeginsUnit, IsUnexpected, IsTooHigh}
use Rattle.c_tree.specs.ReadingLaws.{TreesAreOne}
use Rattle.plain_parse.specs.declared.parser.ParseError.{ParseError}
use Rattle.plain_parse.specs.declared.parser.ParseError.TheVariants.{Unexpected, TooHigh, Memory}

-- an answer holds of the tokens
abbrev pub Answers : List PlainToken → Result Tree ParseError → Type 0
Answers tokens (Ok tree) = IsTreeOf tokens (plain_tree tree)
Answers tokens (Err (Unexpected i)) = IsUnexpected tokens i
Answers tokens (Err TooHigh) = IsTooHigh tokens
Answers tokens (Err Memory) = Unit {0}

-- what is the front of a front begins a unit too
begins-front : (front more : List PlainToken) → BeginsUnit (front ++ more) → BeginsUnit front
begins-front front more begins = record {
  behind = more ++ begins.behind;
  tree = begins.tree;
  spells = record {
    unit = begins.spells.unit;
    text = begins.spells.text ∙ append_assoc front more begins.behind;
  };
}

take-take : (i j : ℕ) (tokens : List PlainToken) → i ≤ j → take i (take j tokens) ≡ take i tokens
take-take zero j tokens within = refl
take-take (suc i) zero tokens within = absurd (omega arith)
take-take (suc i) (suc j) [] within = refl
take-take (suc i) (suc j) (token ∷ tokens) within = ap (λ rest. token ∷ rest) (take-take i j tokens (omega arith))

begins-take : (tokens : List PlainToken) (i j : ℕ) → i ≤ j → BeginsUnit (take j tokens) → BeginsUnit (take i tokens)
begins-take tokens i j within begins =
    let P : List PlainToken → Type 0 = BeginsUnit in
    begins-front (take i tokens) (drop i (take j tokens)) (subst P (sym (ap (λ front. front ++ drop i (take j tokens)) (sym (take-take i j tokens within)) ∙ take-append-drop i (take j tokens))) begins)

no_later : (tokens : List PlainToken) (i j : ℕ) → IsUnexpected tokens i → IsUnexpected tokens j → i < j → ⊥
no_later tokens i j first second before =
    first.ends (let w = second.within in omega arith) (begins-take tokens (i + 1) j (omega arith) second.begins)

same_place : (tokens : List PlainToken) (i j : ℕ) → IsUnexpected tokens i → IsUnexpected tokens j → i ≡ j
same_place tokens i j first second = elim (cases_order i j) [
  | inl same ↦ same
  | inr (inl before) ↦ absurd (no_later tokens i j first second before)
  | inr (inr behind) ↦ absurd (no_later tokens j i second first behind)
]

module _ (one : TreesAreOne) (tokens : List PlainToken) where
  low_or_high : (tree : PlainTree) → IsTreeOf tokens tree → IsTooHigh tokens → ⊥
  low_or_high tree low high =
      let same = one tokens tree high.tree low.spells high.spells in
      let is_high = high.high in
      let P : PlainTree → Type 0 = λ t. height_of t ≤ 512 in
      let is_low = subst P same low.low in
      omega arith

  pub exact-tree :
      (result : Result Tree ParseError) → Answers tokens result → result ≢ Err Memory → (tree : PlainTree)
      → IsTreeOf tokens tree ↔ IsOkAnd result (λ t. plain_tree t ≡ tree)
  exact-tree (Ok found) answers has_memory tree = (
    λ is. one tokens (plain_tree found) tree answers.spells is.spells,
    λ same. let P : PlainTree → Type 0 = IsTreeOf tokens in subst P same answers,
  )
  exact-tree (Err (Unexpected i)) answers has_memory tree = (λ is. answers.whole tree is.spells, λ none. absurd none)
  exact-tree (Err TooHigh) answers has_memory tree = (λ is. low_or_high tree is answers, λ none. absurd none)
  exact-tree (Err Memory) answers has_memory tree = absurd (has_memory refl)

  pub exact-unexpected :
      (result : Result Tree ParseError) → Answers tokens result → result ≢ Err Memory → (i : ℕ)
      → IsUnexpected tokens i ↔ (result ≡ Err (Unexpected i))
  exact-unexpected (Ok found) answers has_memory i = (λ is. absurd (is.whole (plain_tree found) answers.spells), λ none. absurd cc)
  exact-unexpected (Err (Unexpected j)) answers has_memory i = (
    λ is. ap (λ place. let r : Result Tree ParseError = Err (Unexpected place) in r) (same_place tokens j i answers is),
    λ same. let place : j ≡ i = cc in let P : ℕ → Type 0 = IsUnexpected tokens in subst P place answers,
  )
  exact-unexpected (Err TooHigh) answers has_memory i = (λ is. absurd (is.whole answers.tree answers.spells), λ none. absurd cc)
  exact-unexpected (Err Memory) answers has_memory i = absurd (has_memory refl)

  pub exact-too_high :
      (result : Result Tree ParseError) → Answers tokens result → result ≢ Err Memory
      → IsTooHigh tokens ↔ (result ≡ Err TooHigh)
  exact-too_high (Ok found) answers has_memory = (λ is. absurd (low_or_high (plain_tree found) answers is), λ none. absurd cc)
  exact-too_high (Err (Unexpected i)) answers has_memory = (λ is. absurd (answers.whole is.tree is.spells), λ none. absurd cc)
  exact-too_high (Err TooHigh) answers has_memory = (λ is. refl, λ same. answers)
  exact-too_high (Err Memory) answers has_memory = absurd (has_memory refl)
