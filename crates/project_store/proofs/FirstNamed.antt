-- The first file with a name: what stands under the name, and how a change of that file or a file at
-- the end changes what stands under each name.
use Rattle.std.proofs.Common.{◌≡◌, ◌≢◌, ℕ, zero, suc, ◌+◌, ◌<◌, Bool, true, false, cond, List, [], ◌∷◌, ◌++◌, length, map, get_or, set, Some, None, refl, sym, ◌∙◌, ap, subst, arith}
use Rattle.std.specs.Bool.{Decides}
use Rattle.std.specs.List.{position_from}
use Rattle.std.specs.Str.{bytes_eq}
use Rattle.std.proofs.lemmas.Slice.Eq.{bytes_eq-Decides}
use Rattle.text_edits.specs.Files.{PlainFile, lookup_of}
use Rattle.project_store.specs.Lookup.{PutsFile}
use Rattle.project_store.specs.Named.{has_name}

-- a search over values is a search over what they are seen as
pub place_in_map : {X Y : Type 0} (test : Y → Bool) (view : X → Y) (i : ℕ) (xs : List X) → position_from test i (map view xs) ≡ position_from (λ x. test (view x)) i xs
place_in_map test view i [] = refl
place_in_map test view i (x ∷ xs) = ap (λ rest. cond (test (view x)) (Some i) rest) (place_in_map test view (i + 1) xs)

-- the file at the place is the first with the name
abbrev pub IsFirst : List ℕ → List PlainFile → ℕ → Type 0
IsFirst name [] at = ⊥
IsFirst name (f ∷ fs) zero = has_name name f ≡ true
IsFirst name (f ∷ fs) (suc at) = (has_name name f ≡ false) × IsFirst name fs at

-- where a search from the place i on ends
IsFirst-place : (name : List ℕ) (fs : List PlainFile) (i j : ℕ) → position_from (has_name name) i fs ≡ Some j → (k : ℕ) × (j ≡ i + k) × IsFirst name fs k
IsFirst-place name [] i j e = absurd (cc)
IsFirst-place name (f ∷ fs) i j e = step (has_name name f) refl e (IsFirst-place name fs (i + 1) j)
  where
    step : (b : Bool) → has_name name f ≡ b → cond b (Some i) (position_from (has_name name) (i + 1) fs) ≡ Some j → (position_from (has_name name) (i + 1) fs ≡ Some j → (k : ℕ) × (j ≡ i + 1 + k) × IsFirst name fs k) → (k : ℕ) × (j ≡ i + k) × IsFirst name (f ∷ fs) k
    step true h e rest = let same : i ≡ j = cc in (zero, omega arith, h)
    step false h e rest = let r = rest e in (suc r.0, omega (arith, r.1), (h, r.2))

-- what a search from the first file on finds
pub IsFirst-found : (name : List ℕ) (fs : List PlainFile) (at : ℕ) → position_from (has_name name) 0 fs ≡ Some at → IsFirst name fs at
IsFirst-found name fs at e =
    let r = IsFirst-place name fs 0 at e in
    let same : r.0 ≡ at = omega (arith, r.1) in
    subst (λ (k : ℕ). IsFirst name fs k) same r.2

-- a search that finds nothing
pub lookup-absent : (name : List ℕ) (fs : List PlainFile) (i : ℕ) → position_from (has_name name) i fs ≡ None → lookup_of fs name ≡ None
lookup-absent name [] i e = refl
lookup-absent name (f ∷ fs) i e = step (has_name name f) e (lookup-absent name fs (i + 1))
  where
    step : (b : Bool) → cond b (Some i) (position_from (has_name name) (i + 1) fs) ≡ None → (position_from (has_name name) (i + 1) fs ≡ None → lookup_of fs name ≡ None) → cond b (Some f.bytes) (lookup_of fs name) ≡ None
    step true e rest = absurd (cc)
    step false e rest = rest e

pub IsFirst-length : (name : List ℕ) (fs : List PlainFile) (at : ℕ) → IsFirst name fs at → at < length fs
IsFirst-length name [] at h = absurd h
IsFirst-length name (f ∷ fs) zero h = omega arith
IsFirst-length name (f ∷ fs) (suc at) h = omega (arith, IsFirst-length name fs at h.1)

-- the first file with the name is what stands under it
pub lookup-first : (name : List ℕ) (fs : List PlainFile) (at : ℕ) (d : PlainFile) → IsFirst name fs at → lookup_of fs name ≡ Some (get_or fs at d).bytes
lookup-first name [] at d h = absurd h
lookup-first name (f ∷ fs) zero d h = rw h refl
lookup-first name (f ∷ fs) (suc at) d h = rw h.0 (lookup-first name fs at d h.1)

pub IsFirst-name : (name : List ℕ) (fs : List PlainFile) (at : ℕ) (d : PlainFile) → IsFirst name fs at → (get_or fs at d).name ≡ name
IsFirst-name name [] at d h = absurd h
IsFirst-name name (f ∷ fs) zero d h = (bytes_eq-Decides f.name name).0 h
IsFirst-name name (f ∷ fs) (suc at) d h = IsFirst-name name fs at d h.1

has_name-itself : (name : List ℕ) (f : PlainFile) → f.name ≡ name → has_name name f ≡ true
has_name-itself name f e = (bytes_eq-Decides f.name name).1 e

has_name-other : (name other : List ℕ) (f : PlainFile) → f.name ≡ name → other ≢ name → has_name other f ≡ false
has_name-other name other f e apart = step (bytes_eq f.name other) (bytes_eq-Decides f.name other)
  where
    step : (b : Bool) → Decides b (f.name ≡ other) → b ≡ false
    step true d = absurd (apart (sym (d.0 refl) ∙ e))
    step false d = refl

lookup-set : (name : List ℕ) (fs : List PlainFile) (at : ℕ) (f : PlainFile) → IsFirst name fs at → f.name ≡ name → lookup_of (set fs at f) name ≡ Some f.bytes
lookup-set name [] at f h e = absurd h
lookup-set name (g ∷ fs) zero f h e = rw (has_name-itself name f e) refl
lookup-set name (g ∷ fs) (suc at) f h e = rw h.0 (lookup-set name fs at f h.1 e)

lookup-set-other : (name other : List ℕ) (fs : List PlainFile) (at : ℕ) (f : PlainFile) → IsFirst name fs at → f.name ≡ name → other ≢ name → lookup_of (set fs at f) other ≡ lookup_of fs other
lookup-set-other name other [] at f h e apart = absurd h
lookup-set-other name other (g ∷ fs) zero f h e apart =
    rw (has_name-other name other f e apart, has_name-other name other g ((bytes_eq-Decides g.name name).0 h) apart) refl
lookup-set-other name other (g ∷ fs) (suc at) f h e apart =
    ap (λ rest. cond (has_name other g) (Some g.bytes) rest) (lookup-set-other name other fs at f h.1 e apart)

-- the file that a search finds is replaced by one of the same name
pub PutsFile-replaced : (name : List ℕ) (fs : List PlainFile) (at : ℕ) (f : PlainFile) → position_from (has_name name) 0 fs ≡ Some at → f.name ≡ name → PutsFile (lookup_of fs) name f.bytes (lookup_of (set fs at f))
PutsFile-replaced name fs at f e named =
    let first = IsFirst-found name fs at e in
    record {
      named = lookup-set name fs at f first named;
      others = λ other apart. lookup-set-other name other fs at f first named apart;
    }

lookup-push : (name : List ℕ) (fs : List PlainFile) (f : PlainFile) → lookup_of fs name ≡ None → f.name ≡ name → lookup_of (fs ++ f ∷ []) name ≡ Some f.bytes
lookup-push name [] f absent e = rw (has_name-itself name f e) refl
lookup-push name (g ∷ fs) f absent e = step (has_name name g) absent (λ a. lookup-push name fs f a e)
  where
    step : (b : Bool) → cond b (Some g.bytes) (lookup_of fs name) ≡ None → (lookup_of fs name ≡ None → lookup_of (fs ++ f ∷ []) name ≡ Some f.bytes) → cond b (Some g.bytes) (lookup_of (fs ++ f ∷ []) name) ≡ Some f.bytes
    step true a rest = absurd (cc)
    step false a rest = rest a

lookup-push-other : (name other : List ℕ) (fs : List PlainFile) (f : PlainFile) → f.name ≡ name → other ≢ name → lookup_of (fs ++ f ∷ []) other ≡ lookup_of fs other
lookup-push-other name other [] f e apart = rw (has_name-other name other f e apart) refl
lookup-push-other name other (g ∷ fs) f e apart =
    ap (λ rest. cond (has_name other g) (Some g.bytes) rest) (lookup-push-other name other fs f e apart)

-- where a search finds nothing, a file of the name comes to the end
pub PutsFile-added : (name : List ℕ) (fs : List PlainFile) (f : PlainFile) → position_from (has_name name) 0 fs ≡ None → f.name ≡ name → PutsFile (lookup_of fs) name f.bytes (lookup_of (fs ++ f ∷ []))
PutsFile-added name fs f e named = record {
  named = lookup-push name fs f (lookup-absent name fs 0 e) named;
  others = λ other apart. lookup-push-other name other fs f named apart;
}
