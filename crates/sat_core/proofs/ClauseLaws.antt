-- Clauses as sets of literals, and lists of clauses as sets of clauses.
use Rattle.std.proofs.Common.{◌≡◌, ℕ, Bool, true, ℤ, List}
use Rattle.std.specs.Prelude.{Any}
use Rattle.std.proofs.lemmas.List.Elements.{All-contains, All-weaker}
use Rattle.std.proofs.lemmas.List.Folds.{Any-from_list_any, list_any-from_Any}
use Rattle.std.proofs.lemmas.List.Sums.{AllPass-from_list_all, list_all-from_AllPass}
use Rattle.refute_check.specs.Clauses.{literal_holds, clause_holds, all_hold}
use Rattle.sat_core.specs.Translations.{SameLiterals, AreAmong}

module _ (values : ℕ → Bool) where
  clause_from_same : (one other : List ℤ) → SameLiterals one other → clause_holds values other ≡ true → clause_holds values one ≡ true
  clause_from_same one other same holds =
      let found = Any-from_list_any (literal_holds values) other holds in
      let there = same.back found.1 (found.0, found.2, found.3) in
      list_any-from_Any (literal_holds values) one (there.0, found.1, there.1, there.2, found.4)

  one_holds : (others : List (List ℤ)) → all_hold values others ≡ true → (clause : List ℤ) → Any (SameLiterals clause) others → clause_holds values clause ≡ true
  one_holds others hold clause found =
      clause_from_same clause found.1 found.4 (All-contains (λ (c : List ℤ). clause_holds values c ≡ true) others found.1 (AllPass-from_list_all (clause_holds values) others hold) (found.0, found.2, found.3))

  pub all_hold_among : (others clauses : List (List ℤ)) → AreAmong others clauses → all_hold values others ≡ true → all_hold values clauses ≡ true
  all_hold_among others clauses among hold =
      list_all-from_AllPass (clause_holds values) clauses (All-weaker (λ clause. Any (SameLiterals clause) others) (λ clause. clause_holds values clause ≡ true) (one_holds others hold) clauses among)
