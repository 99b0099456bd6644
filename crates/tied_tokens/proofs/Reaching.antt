-- The found tokens are those that are reached.
use Rattle.std.proofs.Common.{◌≡◌, ℕ, ◌+◌, ◌<◌, ◌≤◌, List, length, take, get_or, sym, ap, subst, ◌∙◌, arith}
use Rattle.std.specs.Prelude.{◌↔◌, All, Contains}
use Rattle.std.proofs.lemmas.List.{take-append-le}
use Rattle.std.proofs.lemmas.List.Elements.{All-append, All-weaker, All-contains}
use Rattle.program_occurrences.specs.Classes.{PlainFileToken}
use Rattle.tied_tokens.specs.Ties.{PlainTiedTokens}
use Rattle.tied_tokens.specs.Reached.{AreTied, IsReached, itself, further}
use Rattle.tied_tokens.specs.Search.{Grows, IsVisited}
use Rattle.tied_tokens.proofs.Growth.{found_still, all_more, all_taken}

module _ (all : PlainTiedTokens) (place : PlainFileToken) where
  module _ (member : PlainFileToken) {old new : List PlainFileToken} (grew : Grows all member old new) where
    pub reached_more : IsReached all place member → All (IsReached all place) old → All (IsReached all place) new
    reached_more is h =
        subst (All (IsReached all place)) (sym grew.behind)
        (All-append (IsReached all place) old grew.more h (All-weaker (AreTied all member) (IsReached all place) (λ token tied. further is tied) grew.more grew.tied))

    pub visited_more :
        (i : ℕ) → i < length old → member ≡ get_or old i member → All (IsVisited all old) (take i old) → IsVisited all new member
        → All (IsVisited all new) (take (i + 1) new)
    visited_more i inside is h visited =
        let front : take (i + 1) new ≡ take (i + 1) old = ap (take (i + 1)) grew.behind ∙ take-append-le (i + 1) old grew.more (omega arith) in
        subst (All (IsVisited all new)) (sym front)
        (all_more (IsVisited all old) (IsVisited all new) old i member inside is (λ t v. λ token tied. found_still all member grew token (v token tied)) h visited)

  module _ (found : List PlainFileToken) (there : Contains found place) (visited : All (IsVisited all found) found) where
    is_found : {token : PlainFileToken} → IsReached all place token → Contains found token
    is_found itself = there
    is_found (further {member = member} {other = other} inner tied) = All-contains (IsVisited all found) found member visited (is_found inner) other tied

  pub found_are_reached :
      (found : List PlainFileToken) (n : ℕ) → Contains found place → All (IsReached all place) found → length found ≤ n → All (IsVisited all found) (take n found)
      → (token : PlainFileToken) → Contains found token ↔ IsReached all place token
  found_are_reached found n there reached long visited token =
      (λ h. All-contains (IsReached all place) found token reached h, λ h. is_found found there (all_taken (IsVisited all found) found n long visited) h)
