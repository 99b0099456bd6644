-- What is read in a step, and what is read behind the walk that it leads to.
use Rattle.std.proofs.Common.{◌≡◌, Bool, true, false, List, [], ◌++◌, Option, Some, None, refl, ap, sym, ◌∙◌, append-nil}
use Rattle.std.specs.Prelude.{is_some}
use Rattle.std.proofs.lemmas.Bool.{false≢true}
use Rattle.c_text.specs.Preprocessing.{Reading, Refusal, Flow, on, refused, then_read, feature_token, unbalanced}
use Rattle.active_tokens.specs.Reads.{Read, reads_behind}
use Rattle.file_walks.specs.Walk.{Walk}
use Rattle.read_walks.specs.Laws.{Leads, goes_on, stops, WalksAreOne}
use Rattle.cond_readings.specs.Readings.{came_to, taken}
use Rattle.cond_pp.specs.Watches.{read_where}

-- a refusal
abbrev some_refusal : Refusal
some_refusal = record { kind = unbalanced; file = feature_token.origin.file; span = feature_token.origin.span }

module _ (walks_are_one : WalksAreOne) where
  -- flows that come to what those of one walk come to, whatever is next, are those of this walk
  same-walk : (w v : Walk) (come : (Walk → Reading) → Option Reading) → ((told : Walk → Reading) → come told ≡ Some (told w)) → ((told : Walk → Reading) → come told ≡ Some (told v)) → w ≡ v
  same-walk w v come h k =
      walks_are_one w v (λ told. ap (λ (o : Option Reading). or_else (told w) o) (sym (h told) ∙ k told))
    where
      or_else : Reading → Option Reading → Reading
      or_else r None = r
      or_else r (Some s) = s

  module _ (Holds : Walk → Type 0) (reading : (Walk → Flow) → Flow) (what : (Walk → List Read) → List Read) where
    lead-on : (x : Flow) (after : Reading → Walk) → Leads Holds reading what → ((next : Walk → Flow) → came_to (reading next) ≡ came_to (then_read x (λ a. next (after a)))) → (next : Walk → List Read) → what next ≡ what (λ v. []) ++ reads_behind x (λ a. next (after a))
    lead-on (on a) after (goes_on w h k m) same next =
        let w_is : w ≡ after a =
        same-walk w (after a) (λ told. came_to (reading (λ v. on (told v)))) (λ told. ap came_to (k (λ v. on (told v)))) (λ told. same (λ v. on (told v)))
        in
        m next ∙ ap (λ (v : Walk). what (λ v. []) ++ next v) w_is
    lead-on (refused why) after (goes_on w h k m) same next =
        let none = same (λ v. on v.reading) in
        let some = ap came_to (k (λ v. on v.reading)) in
        absurd (false≢true (ap is_some (sym none ∙ some)))
    lead-on (on a) after (stops why k m) same next =
        let some = same (λ v. on v.reading) in
        let none = ap came_to (k (λ v. on v.reading)) in
        absurd (false≢true (ap is_some (sym none ∙ some)))
    lead-on (refused why') after (stops why k m) same next = m next ∙ sym (append-nil (what (λ v. [])))

    -- what comes to the same, whatever is next, reads nothing behind itself
    stay : (m : Option Reading) → Leads Holds reading what → ((next : Walk → Flow) → came_to (reading next) ≡ m) → (next : Walk → List Read) → what next ≡ what (λ v. []) ++ []
    stay m (goes_on w h k l) same next =
        let some : m ≡ Some w.reading = sym (same (λ v. on v.reading)) ∙ ap came_to (k (λ v. on v.reading)) in
        let none : m ≡ None = sym (same (λ v. refused some_refusal)) ∙ ap came_to (k (λ v. refused some_refusal)) in
        absurd (false≢true (ap is_some (sym none ∙ some)))
    stay m (stops why k l) same next = l next ∙ sym (append-nil (what (λ v. [])))

  stay-behind : (x : Flow) (after : Reading → Walk) (m : Option Reading) → ((next : Walk → Flow) → m ≡ came_to (then_read x (λ a. next (after a)))) → (next : Walk → List Read) → [] ≡ reads_behind x (λ a. next (after a))
  stay-behind (on a) after m same next =
      let some = same (λ v. on v.reading) in
      let none = same (λ v. refused some_refusal) in
      absurd (false≢true (ap is_some (sym none ∙ some)))
  stay-behind (refused why) after m same next = refl

  -- A step of the definitions that leads on, whatever is next, to what another walk comes to: what is read in the step stands before
  -- what is read behind that walk.
  pub carried : (Holds : Reading → Walk → Type 0) (reading : Reading → (Walk → Flow) → Flow) (what : Reading → (Walk → List Read) → List Read) (inner : Reading → Flow) (after : Reading → Reading → Walk) (e e' : Bool) (o n : Option Reading) → ((r : Reading) → Leads (Holds r) (reading r) (what r)) → ((next : Walk → Flow) → taken e (λ r. reading r next) o ≡ taken e' (λ r. then_read (inner r) (λ a. next (after r a))) n) → (next : Walk → List Read) → read_where e (λ r. what r next) o ≡ read_where e (λ r. what r (λ v. [])) o ++ read_where e' (λ r. reads_behind (inner r) (λ a. next (after r a))) n
  carried Holds reading what inner after e e' None None leads same next = refl
  carried Holds reading what inner after e false None (Some s) leads same next = refl
  carried Holds reading what inner after e true None (Some s) leads same next = stay-behind (inner s) (after s) None same next
  carried Holds reading what inner after false e' (Some r) None leads same next = refl
  carried Holds reading what inner after false false (Some r) (Some s) leads same next = refl
  carried Holds reading what inner after false true (Some r) (Some s) leads same next =
      stay-behind (inner s) (after s) (Some r) same next
  carried Holds reading what inner after true e' (Some r) None leads same next =
      stay (Holds r) (reading r) (what r) None (leads r) same next
  carried Holds reading what inner after true false (Some r) (Some s) leads same next =
      stay (Holds r) (reading r) (what r) (Some s) (leads r) same next
  carried Holds reading what inner after true true (Some r) (Some s) leads same next =
      lead-on (Holds r) (reading r) (what r) (inner s) (after s) (leads r) same next
