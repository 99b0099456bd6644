-- Flows one after another.
use Rattle.std.proofs.Common.{◌≡◌, true, false, Option, Some, None, [], refl, ap, ◌∙◌, append-nil}
use Rattle.c_text.specs.Preprocessing.{Reading, Refusal, Flow, Setting, on, refused, then_read, unless, Condition, holds, fails, by_condition, read_run}

pub then_read-on : (x : Flow) → then_read x on ≡ x
then_read-on (on r) = refl
then_read-on (refused why) = refl

pub then_read-assoc : (x : Flow) (f g : Reading → Flow) → then_read x (λ a. then_read (f a) g) ≡ then_read (then_read x f) g
then_read-assoc (on r) f g = refl
then_read-assoc (refused why) f g = refl

pub then_read-cong : (x : Flow) (f g : Reading → Flow) → ((a : Reading) → f a ≡ g a) → then_read x f ≡ then_read x g
then_read-cong (on r) f g h = h r
then_read-cong (refused why) f g h = refl

pub then_read-unless : (found : Option Refusal) (x : Flow) (f : Reading → Flow) → unless found (then_read x f) ≡ then_read (unless found x) f
then_read-unless None x f = refl
then_read-unless (Some why) x f = refl

pub run_nil : (r : Reading) → read_run r [] ≡ on r
run_nil r = ap (λ ts. on (record r { tokens = ts })) (append-nil r.tokens)

module _ (s : Setting) where
  -- the branches of a group, and what follows it
  pub branches-then : (c : Condition) (x y : Flow) (f k : Reading → Flow) → by_condition s c (then_read x (λ a. then_read (f a) k)) (then_read y k) ≡ then_read (by_condition s c (then_read x f) y) k
  branches-then (holds true) x y f k = then_read-assoc x f k
  branches-then (holds false) x y f k = refl
  branches-then (fails why) x y f k = refl

  pub group-then : (c : Condition) (x y : Flow) (f p k : Reading → Flow) (found : Option Refusal) → by_condition s c (then_read x (λ a. then_read (f a) (λ b. unless found (then_read (p b) k)))) (then_read y (λ b. unless found (then_read (p b) k))) ≡ then_read (then_read (by_condition s c (then_read x f) y) (λ b. unless found (p b))) k
  group-then c x y f p k found =
      branches-then c x y f (λ b. unless found (then_read (p b) k))
      ∙ then_read-cong (by_condition s c (then_read x f) y) (λ b. unless found (then_read (p b) k)) (λ b. then_read (unless found (p b)) k) (λ b. then_read-unless found (p b) k)
      ∙ then_read-assoc (by_condition s c (then_read x f) y) (λ b. unless found (p b)) k
