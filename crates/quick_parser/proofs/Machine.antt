-- The laws of the machine.
use Rattle.std.proofs.Common.{◌≡◌, ℕ, ◌≤◌, true, ◌&&◌, List, [], ◌∷◌, ◌++◌, length, Option, Some, None, refl, ap, ◌∙◌, sym, subst, arith, append-nil}
use Rattle.std.specs.Prelude.{option_map, option_and_then}
use Rattle.quick_form.specs.Symbols.{Symbol, Ifdef, tested_names}
use Rattle.quick_form.specs.Form.{IsWritten}
use Rattle.quick_parser.specs.declared.spots.SumEnd.{SumEnd}
use Rattle.quick_parser.specs.declared.spots.SumEnd.TheVariants.{Statement, Output, Condition}
use Rattle.quick_parser.specs.declared.spots.Place.{Place}
use Rattle.quick_parser.specs.declared.spots.Place.TheVariants.{Entry, Assignment, Opening, Operand, Operator}
use Rattle.quick_parser.specs.declared.spots.Frame.{Frame}
use Rattle.quick_parser.specs.declared.spots.Frame.TheVariants.{Block, Group, Alternative}
use Rattle.quick_parser.specs.Spots.{Spot, advanced}
use Rattle.quick_parser.specs.Steps.{State, start, noted, step, steps, after, is_entry, is_closed, is_complete}
use Rattle.quick_parser.specs.Completion.{closing_symbols, sum_ending, entry_ending, completion}
use Rattle.quick_parser.specs.Laws.{StatesComplete, StatesBegin, RefusalsEnd, CompleteIsWritten, RefusedIsUnwritten, TestsAreKept, OneStepMore}
use Rattle.quick_parser.proofs.Complete.{advances, items_pass}
use Rattle.quick_parser.proofs.Language.{EndsAt}
use Rattle.quick_parser.proofs.Sound.{sound, spot_ends}
use Rattle.quick_parser.proofs.TestNotes.{tests_of, notes, tests_of-nil, notes_told, notes_fit}

-- A reading is one of the grammar and one of the tests.
pub record Parts (s t : State) (ks : List Symbol) : Type 0 where
  pub grammar : advances s.spot ks ≡ Some t.spot
  pub tests : notes s.tested_names ks ≡ Some t.tested_names

-- the step that a reading begins with
pub record FirstStep (s t : State) (k : Symbol) (ks : List Symbol) : Type 0 where
  pub next : State
  pub advances_to : advanced s.spot k ≡ Some next.spot
  pub notes_as : noted s.tested_names k ≡ Some next.tested_names
  pub more : steps next ks ≡ Some t

first_step :
    (s t : State) (k : Symbol) (ks : List Symbol) (x : Option (List (List ℕ))) (y : Option Spot)
    → noted s.tested_names k ≡ x → advanced s.spot k ≡ y
    → option_and_then (λ u. steps u ks)
    (option_and_then (λ ns. option_map (λ p. let u : State = record { spot = p; tested_names = ns } in u) y) x) ≡ Some t
    → FirstStep s t k ks
first_step s t k ks None y f g e = absurd cc
first_step s t k ks (Some ns) None f g e = absurd cc
first_step s t k ks (Some ns) (Some p) f g e =
    record { next = record { spot = p; tested_names = ns }; advances_to = g; notes_as = f; more = e }

parts : (ks : List Symbol) (s t : State) → steps s ks ≡ Some t → Parts s t ks
parts [] s t e =
    let same : s ≡ t = cc in record { grammar = ap (λ u. Some u.spot) same; tests = ap (λ u. Some u.tested_names) same }
parts (k ∷ ks) s t e =
    let f = first_step s t k ks (noted s.tested_names k) (advanced s.spot k) refl refl e in
    let p = parts ks f.next t f.more in
    record { grammar = rw f.advances_to p.grammar; tests = rw f.notes_as p.tests }

-- and the parts make a reading
next_parts :
    {X Y : Type 0} (F : X → Option Y) (x : Option X) (y : Y) → option_and_then F x ≡ Some y
    → (z : X) × (x ≡ Some z) × (F z ≡ Some y)
next_parts F None y e = absurd cc
next_parts F (Some z) y e = (z, refl, e)

joined :
    (ks : List Symbol) (p q : Spot) (ns ms : List (List ℕ)) → advances p ks ≡ Some q → notes ns ks ≡ Some ms
    → steps (record { spot = p; tested_names = ns }) ks ≡ Some (record { spot = q; tested_names = ms })
joined [] p q ns ms e f = let a : p ≡ q = cc in let b : ns ≡ ms = cc in rw (a, b) refl
joined (k ∷ ks) p q ns ms e f =
    let g = next_parts (λ r. advances r ks) (advanced p k) q e in
    let h = next_parts (λ l. notes l ks) (noted ns k) ms f in
    rw (h.1, g.1) (joined ks g.0 q h.0 ms g.2 h.2)

-- what is written is read to its end
written_read : (ks : List Symbol) → IsWritten ks → after ks ≡ Some (record { spot = start.spot; tested_names = tested_names ks })
written_read ks w =
    let pass : advances start.spot ks ≡ Some start.spot = rw w.writes (items_pass w.items [] refl w.shallow []) in
    let few : length (tests_of [] ks) ≤ 128 = rw (tests_of-nil ks) w.few_tests in
    joined ks start.spot start.spot [] (tested_names ks) pass (notes_fit ks [] few ∙ ap (λ l. Some l) (tests_of-nil ks))

-- what is refused stays so with more behind it
refused_still :
    (rest ks : List Symbol) (s : State) → steps s ks ≡ None → steps s (ks ++ rest) ≡ None
refused_still rest [] s e = absurd cc
refused_still rest (k ∷ ks) s e = refused_next (λ t. steps t ks) (λ t. steps t (ks ++ rest)) (refused_still rest ks) (step s k) e
  where
    refused_next :
        (F G : State → Option State) → ((t : State) → F t ≡ None → G t ≡ None) → (x : Option State)
        → option_and_then F x ≡ None → option_and_then G x ≡ None
    refused_next F G h None e = refl
    refused_next F G h (Some t) e = h t e

pub refusals_end : RefusalsEnd
refusals_end ks e b = let r = refused_still b.0 ks start e in let w = written_read (ks ++ b.0) b.1 in absurd cc

pub refused_is_unwritten : RefusedIsUnwritten
refused_is_unwritten ks e w = let r = written_read ks w in absurd cc

-- the tests of a state
kept : (ks : List Symbol) (s : State) → after ks ≡ Some s → (s.tested_names ≡ tested_names ks) × (length s.tested_names ≤ 128)
kept ks s e =
    let t = notes_told ks [] s.tested_names (parts ks start s e).tests (omega arith) in (t.0 ∙ tests_of-nil ks, t.1)

pub tests_are_kept : TestsAreKept
tests_are_kept ks s e = (kept ks s e).0

-- a completion tests nothing
closing_untested : (fs : List Frame) → tested_names (closing_symbols fs) ≡ []
closing_untested [] = refl
closing_untested (Block ∷ fs) = closing_untested fs
closing_untested (Group ∷ fs) = closing_untested fs
closing_untested (Alternative ∷ fs) = closing_untested fs

sum_untested : (e : SumEnd) (k : List Symbol) → tested_names k ≡ [] → tested_names (sum_ending e k) ≡ []
sum_untested Statement k h = h
sum_untested Output k h = h
sum_untested Condition k h = h

ending_untested : (p : Place) (k : List Symbol) → tested_names k ≡ [] → tested_names (entry_ending p k) ≡ []
ending_untested Assignment k h = h
ending_untested (Opening e) k h = sum_untested e k h
ending_untested (Operand e) k h = sum_untested e k h
ending_untested (Operator e) k h = sum_untested e k h
ending_untested _ k h = h

untested_end : (ks rest : List Symbol) → tested_names rest ≡ [] → tested_names (ks ++ rest) ≡ tested_names ks
untested_end [] rest h = h
untested_end (Ifdef n ∷ ks) rest h = rw (untested_end ks rest h) refl
untested_end (_ ∷ ks) rest h = untested_end ks rest h

-- the language of the start, with few tests
start_written : (ks : List Symbol) → EndsAt start.spot ks → length (tested_names ks) ≤ 128 → IsWritten ks
start_written ks c h =
    record { items = c.items; writes = rw c.more at c.is; shallow = c.fits; few_tests = h }

pub states_complete : StatesComplete
states_complete ks s e =
    let end_of_ks = sound ks start.spot s.spot (parts ks start s e).grammar (completion s) (spot_ends s.spot) in
    let none : tested_names (completion s) ≡ [] =
    ending_untested s.spot.place (closing_symbols s.spot.open_frames) (closing_untested s.spot.open_frames) in
    let told = kept ks s e in
    let few : length (tested_names (ks ++ completion s)) ≤ 128 =
    rw (untested_end ks (completion s) none, sym told.0) told.1 in
    start_written (ks ++ completion s) end_of_ks few

pub states_begin : StatesBegin
states_begin ks s e = (completion s, states_complete ks s e)

-- a complete state has the empty completion
nothing_left : (p : Place) (fs : List Frame) → (is_entry p && is_closed fs) ≡ true → entry_ending p (closing_symbols fs) ≡ []
nothing_left Entry [] e = refl
nothing_left Entry (_ ∷ fs) e = absurd cc
nothing_left _ fs e = absurd cc

pub complete_is_written : CompleteIsWritten
complete_is_written ks s e = (
  λ h.
      let w = states_complete ks s e in
      let all : ks ++ completion s ≡ ks = rw (nothing_left s.spot.place s.spot.open_frames h) (append-nil ks) in
      subst IsWritten all w,
  λ w. let r = written_read ks w in
      let same : s ≡ record { spot = start.spot; tested_names = tested_names ks } = cc in
      ap is_complete same,
)

pub steps-append :
    (ks rest : List Symbol) (s : State) → steps s (ks ++ rest) ≡ option_and_then (λ t. steps t rest) (steps s ks)
steps-append [] rest s = refl
steps-append (k ∷ ks) rest s = next_same (step s k) (λ t. steps-append ks rest t)
  where
    next_same :
        (x : Option State) → ((t : State) → steps t (ks ++ rest) ≡ option_and_then (λ u. steps u rest) (steps t ks))
        → option_and_then (λ t. steps t (ks ++ rest)) x
        ≡ option_and_then (λ u. steps u rest) (option_and_then (λ t. steps t ks) x)
    next_same None h = refl
    next_same (Some t) h = h t

last_step : (k : Symbol) (x : Option State) → option_and_then (λ t. steps t (k ∷ [])) x ≡ option_and_then (λ t. step t k) x
last_step k None = refl
last_step k (Some t) = only_step (step t k)
  where
    only_step : (y : Option State) → option_and_then (λ u. Some u) y ≡ y
    only_step None = refl
    only_step (Some u) = refl

pub one_step_more : OneStepMore
one_step_more ks k = steps-append ks (k ∷ []) start ∙ last_step k (after ks)
