-- Reading more tokens.
use Rattle.std.proofs.Common.{◌≡◌, ℕ, ◌+◌, ◌<◌, ◌≤◌, List, [], ◌∷◌, ◌++◌, length, take, drop, get_or, Option, Some, None, refl, sym, ap, ◌∙◌, arith, add-one}
use Rattle.std.proofs.lemmas.List.{take-append-drop}
use Rattle.std.proofs.Math.Seq.{take-suc, take-length}
use Rattle.c_text.specs.Token.{PlainToken}
use Rattle.c_tree.specs.Machine.{Making, Frame, next, start, read_on, finished, finished_of, read}

module _ {A : Type 0} (making : Making A) where
  pub read_on-None : (tokens : List PlainToken) → read_on making None tokens ≡ None
  read_on-None [] = refl
  read_on-None (token ∷ tokens) = refl

  pub read_on-append :
      (state : Option (List (Frame A))) (front rest : List PlainToken)
      → read_on making state (front ++ rest) ≡ read_on making (read_on making state front) rest
  read_on-append None [] rest = refl
  read_on-append (Some frames) [] rest = refl
  read_on-append None (token ∷ front) rest = sym (read_on-None rest)
  read_on-append (Some frames) (token ∷ front) rest = read_on-append (next making frames token) front rest

  -- with the token at a place
  pub read_on-take :
      (tokens : List PlainToken) (i : ℕ) (d : PlainToken) (frames : List (Frame A)) → i < length tokens
      → read_on making (Some start) (take i tokens) ≡ Some frames
      → read_on making (Some start) (take (i + 1) tokens) ≡ next making frames (get_or tokens i d)
  read_on-take tokens i d frames within so_far =
      ap (read_on making (Some start)) (ap (λ n. take n tokens) (add-one i) ∙ take-suc tokens i d within)
      ∙ read_on-append (Some start) (take i tokens) (get_or tokens i d ∷ [])
      ∙ ap (λ state. read_on making state (get_or tokens i d ∷ [])) so_far
      ∙ read_one frames (get_or tokens i d)
    where
      read_one : (frames : List (Frame A)) (token : PlainToken) → read_on making (Some frames) (token ∷ []) ≡ next making frames token
      read_one frames token = refl

  -- what can't be read isn't read with more behind it
  pub read-front :
      (tokens : List PlainToken) (i : ℕ) → read_on making (Some start) (take i tokens) ≡ None → read making tokens ≡ None
  read-front tokens i wrong =
      ap (finished_of making)
      (ap (read_on making (Some start)) (sym (take-append-drop i tokens))
      ∙ read_on-append (Some start) (take i tokens) (drop i tokens)
      ∙ ap (λ state. read_on making state (drop i tokens)) wrong
      ∙ read_on-None (drop i tokens))

  -- at the end
  pub read-whole :
      (tokens : List PlainToken) (i : ℕ) (frames : List (Frame A)) → length tokens ≤ i → i ≤ length tokens
      → read_on making (Some start) (take i tokens) ≡ Some frames → read making tokens ≡ finished making frames
  read-whole tokens i frames past within so_far =
      let whole : i ≡ length tokens = omega arith in
      ap (λ all. finished_of making (read_on making (Some start) all)) (sym (ap (λ n. take n tokens) whole ∙ take-length tokens))
      ∙ ap (finished_of making) so_far
