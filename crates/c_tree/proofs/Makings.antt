-- Values made in two ways are read alike, where the one way follows from the other.
use Rattle.std.proofs.Common.{◌≡◌, true, false, List, [], ◌∷◌, ◌++◌, map, Option, Some, None, refl, ap, ◌∙◌, sym}
use Rattle.std.proofs.lemmas.List.{map-append}
use Rattle.std.specs.Prelude.{option_map}
use Rattle.c_text.specs.Token.{PlainToken}
use Rattle.c_tree.specs.declared.kinds.Kind.{Kind}
use Rattle.c_tree.specs.declared.terminals.Terminal.{Terminal}
use Rattle.c_tree.specs.declared.terminals.Terminal.TheVariants.{Other}
use Rattle.c_tree.specs.Terminals.{terminal}
use Rattle.c_tree.specs.Places.{Place, Beginning, no_beginning, begins, Move, shifts, enters, takes, skips, finishes, passes, fails, move, back}
use Rattle.c_tree.specs.Machine.{Making, Frame, frame, Outcome, goes_on, is_whole, is_wrong, nested, begun, alone, moved, arrives, outcome, going_on, next, read_on, start, whole, finished, finished_of, read}

-- what b makes is f of what a makes
pub record Carries {A B : Type 0} (a : Making A) (b : Making B) (f : A → B) : Type 0 where
  pub of_token : (token : PlainToken) → b.of_token token ≡ f (a.of_token token)
  pub of_parts : (kind : Kind) (parts : List A) → b.of_parts kind (map f parts) ≡ f (a.of_parts kind parts)
  pub of_nothing : b.of_nothing ≡ f a.of_nothing

abbrev pub frame_map : {A B : Type 0} → (A → B) → Frame A → Frame B
frame_map f inner = frame inner.place (map f inner.parts)

abbrev pub outcome_map : {A B : Type 0} → (A → B) → Outcome A → Outcome B
outcome_map f (goes_on frames) = goes_on (map (frame_map f) frames)
outcome_map f (is_whole value) = is_whole (f value)
outcome_map f is_wrong = is_wrong

module _ {A B : Type 0} (a : Making A) (b : Making B) (f : A → B) (carries : Carries a b f) where
  pub nested-carried :
      (places : List Place) (frames : List (Frame A))
      → nested places (map (frame_map f) frames) ≡ map (frame_map f) (nested places frames)
  nested-carried [] frames = refl
  nested-carried (first ∷ places) frames = nested-carried places (frame first [] ∷ frames)

  pub begun-carried :
      (beginning : Beginning) (token : A) (frames : List (Frame A))
      → begun b beginning (f token) (map (frame_map f) frames) ≡ outcome_map f (begun a beginning token frames)
  begun-carried no_beginning token frames = refl
  begun-carried (begins places false inner) token frames =
      ap (λ outer. goes_on (frame inner (f token ∷ []) ∷ outer)) (nested-carried places frames)
  begun-carried (begins places true inner) token frames =
      rw (carries.of_nothing, nested-carried places frames) refl

  pub alone-carried : (parts : List A) → alone b (map f parts) ≡ f (alone a parts)
  alone-carried [] = carries.of_nothing
  alone-carried (first ∷ rest) = refl

  one_more : (parts : List A) (part : A) → map f parts ++ f part ∷ [] ≡ map f (parts ++ part ∷ [])
  one_more parts part = sym (map-append f parts (part ∷ []))

  pub moved-carried :
      (place : Place) (parts : List A) (what : Move) (token : A) (frames : List (Frame A))
      (ends : A → Outcome A) (ends_so : B → Outcome B) → ((value : A) → ends_so (f value) ≡ outcome_map f (ends value))
      → moved b place (map f parts) what (f token) (map (frame_map f) frames) ends_so
      ≡ outcome_map f (moved a place parts what token frames ends)
  moved-carried place parts (shifts behind) token frames ends ends_so same = rw (one_more parts token) refl
  moved-carried place parts (enters behind beginning) token frames ends ends_so same =
      begun-carried beginning token (frame behind parts ∷ frames)
  moved-carried place parts (takes behind inner) token frames ends ends_so same = rw (one_more parts token) refl
  moved-carried place parts (skips other) token frames ends ends_so same =
      rw (carries.of_nothing, one_more parts a.of_nothing)
      (moved-carried place (parts ++ a.of_nothing ∷ []) other token frames ends ends_so same)
  moved-carried place parts (finishes kind) token frames ends ends_so same =
      rw (carries.of_parts kind parts) (same (a.of_parts kind parts))
  moved-carried place parts passes token frames ends ends_so same = rw (alone-carried parts) (same (alone a parts))
  moved-carried place parts fails token frames ends ends_so same = refl

  pub arrives-carried :
      (kind : Terminal) (token value : A) (ended : Place) (frames : List (Frame A))
      → arrives b kind (f token) (f value) ended (map (frame_map f) frames)
      ≡ outcome_map f (arrives a kind token value ended frames)
  arrives-carried kind token value ended [] = refl
  arrives-carried kind token value ended (inner ∷ frames) =
      rw (one_more inner.parts value)
      (moved-carried (back inner.place ended) (inner.parts ++ value ∷ []) (move (back inner.place ended) kind) token frames
      (λ whole. arrives a kind token whole (back inner.place ended) frames)
      (λ whole. arrives b kind (f token) whole (back inner.place ended) (map (frame_map f) frames))
      (λ whole. arrives-carried kind token whole (back inner.place ended) frames))

  pub outcome-carried :
      (kind : Terminal) (token : A) (frames : List (Frame A))
      → outcome b kind (f token) (map (frame_map f) frames) ≡ outcome_map f (outcome a kind token frames)
  outcome-carried kind token [] = refl
  outcome-carried kind token (inner ∷ frames) =
      moved-carried inner.place inner.parts (move inner.place kind) token frames
      (λ whole. arrives a kind token whole inner.place frames)
      (λ whole. arrives b kind (f token) whole inner.place (map (frame_map f) frames))
      (λ whole. arrives-carried kind token whole inner.place frames)

  pub going_on-carried : (x : Outcome A) → going_on (outcome_map f x) ≡ option_map (map (frame_map f)) (going_on x)
  going_on-carried (goes_on frames) = refl
  going_on-carried (is_whole value) = refl
  going_on-carried is_wrong = refl

  pub next-carried :
      (frames : List (Frame A)) (token : PlainToken)
      → next b (map (frame_map f) frames) token ≡ option_map (map (frame_map f)) (next a frames token)
  next-carried frames token =
      rw (carries.of_token token, outcome-carried (terminal token) (a.of_token token) frames)
      (going_on-carried (outcome a (terminal token) (a.of_token token) frames))

  pub read_on-carried :
      (state : Option (List (Frame A))) (tokens : List PlainToken)
      → read_on b (option_map (map (frame_map f)) state) tokens ≡ option_map (map (frame_map f)) (read_on a state tokens)
  read_on-carried None [] = refl
  read_on-carried (Some frames) [] = refl
  read_on-carried None (token ∷ tokens) = refl
  read_on-carried (Some frames) (token ∷ tokens) =
      rw (next-carried frames token) (read_on-carried (next a frames token) tokens)

  pub whole-carried : (x : Outcome A) → whole (outcome_map f x) ≡ option_map f (whole x)
  whole-carried (goes_on frames) = refl
  whole-carried (is_whole value) = refl
  whole-carried is_wrong = refl

  pub finished-carried :
      (frames : List (Frame A)) → finished b (map (frame_map f) frames) ≡ option_map f (finished a frames)
  finished-carried frames =
      ap (λ token. whole (outcome b Other token (map (frame_map f) frames))) carries.of_nothing
      ∙ ap whole (outcome-carried Other a.of_nothing frames)
      ∙ whole-carried (outcome a Other a.of_nothing frames)

  pub finished_of-carried :
      (state : Option (List (Frame A)))
      → finished_of b (option_map (map (frame_map f)) state) ≡ option_map f (finished_of a state)
  finished_of-carried None = refl
  finished_of-carried (Some frames) = finished-carried frames

  pub read-carried : (tokens : List PlainToken) → read b tokens ≡ option_map f (read a tokens)
  read-carried tokens =
      rw (read_on-carried (Some start) tokens) (finished_of-carried (read_on a (Some start) tokens))
