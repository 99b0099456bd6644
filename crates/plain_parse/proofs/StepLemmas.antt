-- One token more of those that are read.
use Rattle.std.proofs.Common.{◌≡◌, ℕ, ◌+◌, ◌<◌, ◌≤◌, Bool, false, List, length, map, take, get_or, Option, Some, None, sym, ap, ◌∙◌, arith}
use Rattle.std.specs.Bool.{if◌then◌else◌}
use Rattle.std.proofs.lemmas.List.{get_or-map, length-map}
use Rattle.c_text.specs.declared.token.Token.{Token}
use Rattle.c_text.specs.Token.{plain_token}
use Rattle.c_tree.specs.Trees.{PlainTree}
use Rattle.c_tree.specs.Machine.{Frame, next, start, read_on, finished}
use Rattle.plain_parse.specs.Kept.{of_kept}
use Rattle.plain_parse.specs.Readings.{Continues, IsFault}
use Rattle.plain_parse.proofs.ReadLemmas.{read_on-take, read-front, read-whole}

module _ (tokens : List Token) (i : ℕ) (before : List (Frame (Option PlainTree))) (so_far : read_on of_kept (Some start) (take i (map plain_token tokens)) ≡ Some before) where
  pub read-step :
      (token : Token) (behind : List (Frame (Option PlainTree))) (went_on : Bool) → i < length tokens → token ≡ get_or tokens i token
      → Continues before (plain_token token) behind went_on
      → read_on of_kept (Some start) (take (i + 1) (map plain_token tokens)) ≡ (if went_on then Some behind else None)
  read-step token behind went_on within is continues =
      read_on-take of_kept (map plain_token tokens) i (plain_token token) before (rw (length-map tokens plain_token) within) so_far
      ∙ ap (next of_kept before) (get_or-map plain_token tokens i token (plain_token token) within ∙ ap plain_token (sym is))
      ∙ continues

  pub fault-at :
      (token : Token) (behind : List (Frame (Option PlainTree))) (went_on : Bool) → i < length tokens → token ≡ get_or tokens i token
      → Continues before (plain_token token) behind went_on → went_on ≡ false → IsFault (map plain_token tokens) i
  fault-at token behind went_on within is continues wrong =
      let ends = read-step token behind went_on within is continues ∙ ap (λ b. if b then Some behind else None) wrong in
      record {
        within = rw (length-map tokens plain_token) (omega arith);
        frames = before;
        reads = so_far;
        ends = λ inside. ends;
        whole = read-front of_kept (map plain_token tokens) (i + 1) ends;
      }

  pub fault-behind : length tokens ≤ i → i ≤ length tokens → None ≡ finished of_kept before → IsFault (map plain_token tokens) (length tokens)
  fault-behind past within none =
      let all : length (map plain_token tokens) ≡ length tokens = length-map tokens plain_token in
      let same : i ≡ length tokens = omega arith in
      record {
        within = omega arith;
        frames = before;
        reads = ap (λ n. read_on of_kept (Some start) (take n (map plain_token tokens))) (sym same) ∙ so_far;
        ends = λ inside. absurd (omega arith);
        whole = read-whole of_kept (map plain_token tokens) i before (omega arith) (omega arith) so_far ∙ sym none;
      }
