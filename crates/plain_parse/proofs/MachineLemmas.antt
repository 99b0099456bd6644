-- The reader's moves behind parts that are left out.
use Rattle.std.proofs.Common.{◌≡◌, ℕ, zero, suc, List, [], ◌∷◌, ◌++◌, sym, ap, ◌∙◌, append_assoc, append-nil}
use Rattle.std.specs.Prelude.{replicate}
use Rattle.c_tree.specs.declared.terminals.Terminal.{Terminal}
use Rattle.c_tree.specs.Places as places
use Rattle.c_tree.specs.Machine.{Making, Frame, frame, Outcome, moved, arrives, outcome}
use Rattle.grammar_moves.specs.PlainMoves.{skipping}

module _ {A : Type 0} (making : Making A) where
  pub moved-skipping :
      (place : places.Place) (parts : List A) (n : ℕ) (move : places.Move) (token : A) (frames : List (Frame A)) (ends : A → Outcome A)
      → moved making place parts (skipping n move) token frames ends
      ≡ moved making place (parts ++ replicate n making.of_nothing) move token frames ends
  moved-skipping place parts zero move token frames ends = ap (λ all. moved making place all move token frames ends) (sym (append-nil parts))
  moved-skipping place parts (suc n) move token frames ends =
      moved-skipping place (parts ++ making.of_nothing ∷ []) n move token frames ends
      ∙ ap (λ all. moved making place all move token frames ends) (append_assoc parts (making.of_nothing ∷ []) (replicate n making.of_nothing))

  -- the innermost node, without the parts that are left out before the token
  pub outcome-skipping :
      (kind : Terminal) (token : A) (place : places.Place) (parts : List A) (n : ℕ) (action : places.Move) (frames : List (Frame A))
      → skipping n action ≡ places.move place kind
      → moved making place (parts ++ replicate n making.of_nothing) action token frames (λ whole. arrives making kind token whole place frames)
      ≡ outcome making kind token (frame place parts ∷ frames)
  outcome-skipping kind token place parts n action frames is =
      sym (moved-skipping place parts n action token frames (λ whole. arrives making kind token whole place frames))
      ∙ ap (λ m. moved making place parts m token frames (λ whole. arrives making kind token whole place frames)) is
