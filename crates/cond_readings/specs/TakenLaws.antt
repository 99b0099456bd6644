-- Laws, not part of the meaning:
-- steps of the definitions that are taken where a condition holds.
use Rattle.std.proofs.Common.{◌≡◌, Bool, true, false, List, [], IsTrue, Option, Some, None, refl, sym, ap, append-nil}
use Rattle.std.specs.Prelude.{if◌then◌else◌, ◌||◌}
use Rattle.std.specs.Option.{option_map}
use Rattle.c_text.specs.Token.{PlainToken}
use Rattle.c_text.specs.Preprocessing.{Reading, Flow, on, refused, then_read, read_run}
use Rattle.cond_readings.specs.Readings.{unless_refused, with_tokens, came_to, taken}

pub taken-none : (b : Bool) (f : Reading → Flow) → taken b f None ≡ None
taken-none b f = refl

-- two steps, one behind the other
pub came-then : (flow : Flow) (next : Reading → Flow) → came_to (then_read flow next) ≡ taken true next (came_to flow)
came-then (on r) next = refl
came-then (refused why) next = refl

pub taken-then : (b : Bool) (f next : Reading → Flow) (o : Option Reading) → taken b (λ r. then_read (f r) next) o ≡ taken b next (taken b f o)
taken-then b f next None = refl
taken-then true f next (Some r) = came-then (f r) next
taken-then false f next (Some r) = refl

pub taken-same : (b : Bool) (f g : Reading → Flow) (o : Option Reading) → ((r : Reading) → f r ≡ g r) → taken b f o ≡ taken b g o
taken-same b f g None h = refl
taken-same true f g (Some r) h = ap came_to (h r)
taken-same false f g (Some r) h = refl

pub taken-off : (f : Reading → Flow) (o : Option Reading) → taken false f o ≡ o
taken-off f None = refl
taken-off f (Some r) = refl

-- a refusal where the condition holds
pub taken-refuses : (b : Bool) (f : Reading → Flow) (o : Option Reading) → ((r : Reading) → came_to (f r) ≡ None) → unless_refused b o ≡ taken b f o
taken-refuses true f None h = refl
taken-refuses false f None h = refl
taken-refuses true f (Some r) h = sym (h r)
taken-refuses false f (Some r) h = refl

-- nothing is done where the unit is refused
pub taken-stays : (b : Bool) (f : Reading → Flow) (o : Option Reading) → (IsTrue b → o ≡ None) → o ≡ taken b f o
taken-stays b f None h = refl
taken-stays true f (Some r) h =
    let e : Some r ≡ None = h refl in
    cc
taken-stays false f (Some r) h = refl

pub unless-more : (a b : Bool) (o : Option Reading) → (if a || b then None else o) ≡ unless_refused b (if a then None else o)
unless-more true true o = refl
unless-more true false o = refl
unless-more false true o = refl
unless-more false false o = refl

pub unless-off : (o : Option Reading) → unless_refused false o ≡ o
unless-off o = refl

-- the same of a reading that goes on with tokens
pub map-unless : (b : Bool) (more : List PlainToken) (r : Reading) → (if b then None else Some (with_tokens more r)) ≡ option_map (with_tokens more) (if b then None else Some r)
map-unless true more r = refl
map-unless false more r = refl

pub none-where : (b : Bool) (o : Option Reading) → IsTrue b → (if b then None else o) ≡ None
none-where true o h = refl
none-where false o h = cc

-- ---- runs

pub with-none : (o : Option Reading) → option_map (with_tokens []) o ≡ o
with-none None = refl
with-none (Some r) =
    ap (λ (ts : List PlainToken). Some (let v : Reading = record { table = r.table; tokens = ts } in v)) (append-nil r.tokens)

-- no tokens, nothing to read
pub read-nothing : (b : Bool) (o : Option Reading) → o ≡ taken b (λ r. read_run r []) o
read-nothing b None = refl
read-nothing true (Some r) = sym (with-none (Some r))
read-nothing false (Some r) = refl
