-- What a token leads to depends on how values are made of parts, and not on how they are made of tokens.
use Rattle.std.proofs.Common.{◌≡◌, true, false, List, [], ◌∷◌, ◌++◌, Option, Some, None, refl, ap, ◌∙◌}
use Rattle.c_tree.specs.declared.kinds.Kind.{Kind}
use Rattle.c_tree.specs.declared.terminals.Terminal.{Terminal}
use Rattle.c_tree.specs.declared.terminals.Terminal.TheVariants.{Other}
use Rattle.c_tree.specs.Places.{Place, Beginning, no_beginning, begins, Move, shifts, enters, takes, skips, finishes, passes, fails, move, back}
use Rattle.c_tree.specs.Machine.{Making, Frame, frame, Outcome, goes_on, nested, begun, alone, moved, arrives, outcome, whole, finished_of}

module _
    {A : Type 0} (a b : Making A) (same_parts : (kind : Kind) (parts : List A) → b.of_parts kind parts ≡ a.of_parts kind parts) (same_nothing : b.of_nothing ≡ a.of_nothing)
  where
    begun-same : (beginning : Beginning) (token : A) (frames : List (Frame A)) → begun b beginning token frames ≡ begun a beginning token frames
    begun-same no_beginning token frames = refl
    begun-same (begins places false inner) token frames = refl
    begun-same (begins places true inner) token frames = ap (λ nothing. goes_on (frame inner (nothing ∷ token ∷ []) ∷ nested places frames)) same_nothing

    alone-same : (parts : List A) → alone b parts ≡ alone a parts
    alone-same [] = same_nothing
    alone-same (first ∷ rest) = refl

    moved-same :
        (place : Place) (parts : List A) (what : Move) (token : A) (frames : List (Frame A)) (ends ends_so : A → Outcome A) → ((value : A) → ends_so value ≡ ends value)
        → moved b place parts what token frames ends_so ≡ moved a place parts what token frames ends
    moved-same place parts (shifts behind) token frames ends ends_so same = refl
    moved-same place parts (enters behind beginning) token frames ends ends_so same = begun-same beginning token (frame behind parts ∷ frames)
    moved-same place parts (takes behind inner) token frames ends ends_so same = refl
    moved-same place parts (skips other) token frames ends ends_so same =
        ap (λ nothing. moved b place (parts ++ nothing ∷ []) other token frames ends_so) same_nothing
        ∙ moved-same place (parts ++ a.of_nothing ∷ []) other token frames ends ends_so same
    moved-same place parts (finishes kind) token frames ends ends_so same = ap ends_so (same_parts kind parts) ∙ same (a.of_parts kind parts)
    moved-same place parts passes token frames ends ends_so same = ap ends_so (alone-same parts) ∙ same (alone a parts)
    moved-same place parts fails token frames ends ends_so same = refl

    arrives-same : (kind : Terminal) (token value : A) (ended : Place) (frames : List (Frame A)) → arrives b kind token value ended frames ≡ arrives a kind token value ended frames
    arrives-same kind token value ended [] = refl
    arrives-same kind token value ended (inner ∷ frames) =
        moved-same (back inner.place ended) (inner.parts ++ value ∷ []) (move (back inner.place ended) kind) token frames
        (λ whole. arrives a kind token whole (back inner.place ended) frames) (λ whole. arrives b kind token whole (back inner.place ended) frames)
        (λ whole. arrives-same kind token whole (back inner.place ended) frames)

    pub outcome-same : (kind : Terminal) (token : A) (frames : List (Frame A)) → outcome b kind token frames ≡ outcome a kind token frames
    outcome-same kind token [] = refl
    outcome-same kind token (inner ∷ frames) =
        moved-same inner.place inner.parts (move inner.place kind) token frames
        (λ whole. arrives a kind token whole inner.place frames) (λ whole. arrives b kind token whole inner.place frames)
        (λ whole. arrives-same kind token whole inner.place frames)

    pub finished_of-same : (state : Option (List (Frame A))) → finished_of b state ≡ finished_of a state
    finished_of-same None = refl
    finished_of-same (Some frames) = ap (λ token. whole (outcome b Other token frames)) same_nothing ∙ ap whole (outcome-same Other a.of_nothing frames)
