-- What is known of a reading at each step: visible names are those of the identifiers that declare them.
use Rattle.std.proofs.Common.{◌≡◌, ℕ, Bool, true, false, ◌&&◌, List, [], ◌∷◌, ◌++◌, Option, Some, None, refl, sym, subst, inl, inr}
use Rattle.std.specs.Prelude.{◌⊎◌, if◌then◌else◌}
use Rattle.std.specs.List.{AllByRecursion}
use Rattle.std.specs.Str.{bytes_eq}
use Rattle.std.proofs.lemmas.Bool.{and_parts}
use Rattle.std.proofs.lemmas.Slice.Eq.{bytes_eq-Decides}
use Rattle.c_text.specs.Token.{PlainToken}
use Rattle.core_meaning.specs.Entities.{or_else}
use Rattle.bindings.specs.Visible.{NameSpace, ordinary, tags, members_of, same_space, Entry, look_up, Binding, bound_to, undeclared, member_use, Occurrence, Reading, passed, occurs_as, with_file_entry, leave, binding_found, is_of_file, used, member_used, tag_found, tag_named}
use Rattle.bindings.specs.Bindings.{Where, at_file, in_block, among_members, first_or, declaring, declared}

abbrev pub In : {X : Type 0} → X → List X → Type 0
In x [] = ⊥
In x (y ∷ ys) = (x ≡ y) ⊎ In x ys

in-left : {X : Type 0} (x : X) (xs ys : List X) → In x xs → In x (xs ++ ys)
in-left x [] ys i = absurd i
in-left x (y ∷ xs) ys (inl e) = inl e
in-left x (y ∷ xs) ys (inr i) = inr (in-left x xs ys i)

in-last : {X : Type 0} (x : X) (xs : List X) → In x (xs ++ x ∷ [])
in-last x [] = inl refl
in-last x (y ∷ xs) = inr (in-last x xs)

-- an identifier among those that were found has this number and name
pub record HasName (found : List Occurrence) (name : List ℕ) (number : ℕ) : Type 0 where
  pub identifier : Occurrence
  pub among : In identifier found
  pub number_is : identifier.number ≡ number
  pub name_is : identifier.token.text ≡ name

abbrev pub BoundName : List Occurrence → List ℕ → Binding → Type 0
BoundName found name (bound_to by) = HasName found name by
BoundName found name undeclared = Unit {0}
BoundName found name (member_use which) = (tag : List ℕ) (by : ℕ) → which tag ≡ Some by → HasName found name by

abbrev pub NamedEntry : List Occurrence → Entry → Type 0
NamedEntry found e = HasName found e.name e.declared_by

abbrev pub NamedEntries : List Occurrence → List Entry → Type 0
NamedEntries found entries = AllByRecursion (NamedEntry found) entries

abbrev pub NamedIdentifier : List Occurrence → Occurrence → Type 0
NamedIdentifier found o = BoundName found o.token.text o.binding

pub record IsNamedSo (r : Reading) : Type 0 where
  pub file : NamedEntries r.found r.file
  pub blocks : NamedEntries r.found r.blocks
  pub found : AllByRecursion (NamedIdentifier r.found) r.found

abbrev pub IsMore : List Occurrence → List Occurrence → Type 0
IsMore found further = (o : Occurrence) → In o found → In o further

-- from the one reading to the other
pub record Goes (r s : Reading) : Type 0 where
  pub more : IsMore r.found s.found
  pub keeps : IsNamedSo r → IsNamedSo s

pub stays : (r : Reading) → Goes r r
stays r = record { more = λ o i. i; keeps = λ k. k }

pub goes-on : {r s t : Reading} → Goes r s → Goes s t → Goes r t
goes-on f g = record { more = λ o i. g.more o (f.more o i); keeps = λ k. g.keeps (f.keeps k) }

-- ---- more is found

pub name-more : (found further : List Occurrence) (name : List ℕ) (n : ℕ) → IsMore found further → HasName found name n → HasName further name n
name-more found further name n more h = record { identifier = h.identifier; among = more h.identifier h.among; number_is = h.number_is; name_is = h.name_is }

pub entries-more : (found further : List Occurrence) (entries : List Entry) → IsMore found further → NamedEntries found entries → NamedEntries further entries
entries-more found further [] more a = tt
entries-more found further (e ∷ entries) more a = (name-more found further e.name e.declared_by more a.0, entries-more found further entries more a.1)

bound-more : (found further : List Occurrence) (name : List ℕ) (b : Binding) → IsMore found further → BoundName found name b → BoundName further name b
bound-more found further name (bound_to by) more h = name-more found further name by more h
bound-more found further name undeclared more h = tt
bound-more found further name (member_use which) more h = λ tag by e. name-more found further name by more (h tag by e)

all-more : (found further : List Occurrence) (os : List Occurrence) → IsMore found further → AllByRecursion (NamedIdentifier found) os → AllByRecursion (NamedIdentifier further) os
all-more found further [] more a = tt
all-more found further (o ∷ os) more a = (bound-more found further o.token.text o.binding more a.0, all-more found further os more a.1)

with-last : (P : Occurrence → Type 0) (os : List Occurrence) (o : Occurrence) → AllByRecursion P os → P o → AllByRecursion P (os ++ o ∷ [])
with-last P [] o a p = (p, tt)
with-last P (x ∷ os) o a p = (a.0, with-last P os o a.1 p)

-- ---- what is looked up

pub looked-up : (found : List Occurrence) (space : NameSpace) (name : List ℕ) (entries : List Entry) (by : ℕ) → NamedEntries found entries → look_up space name entries ≡ Some by → HasName found name by
looked-up found space name [] by a e = absurd (none-some by e)
  where
    none-some : (n : ℕ) → ◌≡◌ {A = Option ℕ} None (Some n) → ⊥
    none-some n e = cc
looked-up found space name (entry ∷ outer) by a e = choice (same_space entry.space space && bytes_eq entry.name name) refl (looked-up found space name outer by a.1) e
  where
    some-same : (m n : ℕ) → ◌≡◌ {A = Option ℕ} (Some m) (Some n) → m ≡ n
    some-same m n e = cc

    choice : (b : Bool) → (same_space entry.space space && bytes_eq entry.name name) ≡ b → (look_up space name outer ≡ Some by → HasName found name by) → (if b then Some entry.declared_by else look_up space name outer) ≡ Some by → HasName found name by
    choice true t later f =
        let both = and_parts (same_space entry.space space) (bytes_eq entry.name name) t in
        let decides = bytes_eq-Decides entry.name name in
        let same_name : entry.name ≡ name = decides.0 both.1 in
        subst (λ (n : ℕ). HasName found name n) (some-same entry.declared_by by f) (subst (λ (x : List ℕ). HasName found x entry.declared_by) same_name a.0)
    choice false t later f = later f

-- ---- one identifier

abbrev identifier-of : Bool → PlainToken → Binding → Reading → Occurrence
identifier-of uses token binding r = record { number = r.next; token = token; binding = binding; uses_file_name = uses }

module _ (r : Reading) (token : PlainToken) (uses : Bool) (binding : Binding) where
  abbrev further : List Occurrence
  further = r.found ++ identifier-of uses token binding r ∷ []

  further-more : IsMore r.found further
  further-more o i = in-left o r.found (identifier-of uses token binding r ∷ []) i

  -- it has its own name
  pub own-name : HasName further token.text r.next
  own-name = record { identifier = identifier-of uses token binding r; among = in-last (identifier-of uses token binding r) r.found; number_is = refl; name_is = refl }

  pub occurs-so : (IsNamedSo r → BoundName further token.text binding) → Goes r (occurs_as uses token binding r)
  occurs-so is = record {
    more = further-more;
    keeps = λ k. record {
      file = entries-more r.found further r.file further-more k.file;
      blocks = entries-more r.found further r.blocks further-more k.blocks;
      found = with-last (NamedIdentifier further) r.found (identifier-of uses token binding r) (all-more r.found further r.found further-more k.found) (is k);
    };
  }

  -- an identifier that declares is visible behind it
  pub declares-tag : binding ≡ bound_to r.next → Goes r (occurs_as uses token binding (with_file_entry tags token.text r.next r))
  declares-tag e = record {
    more = further-more;
    keeps = λ k. record {
      file = (own-name, entries-more r.found further r.file further-more k.file);
      blocks = entries-more r.found further r.blocks further-more k.blocks;
      found = with-last (NamedIdentifier further) r.found (identifier-of uses token binding r) (all-more r.found further r.found further-more k.found) (subst (BoundName further token.text) (sym e) own-name);
    };
  }

  pub known-name : (n : ℕ) → HasName r.found token.text n → HasName further token.text n
  known-name n h = name-more r.found further token.text n further-more h

pub passes : (r : Reading) → Goes r (passed r)
passes r = record { more = λ o i. i; keeps = λ k. record { file = k.file; blocks = k.blocks; found = k.found } }

pub uses-so : (token : PlainToken) (r : Reading) → Goes r (used token r)
uses-so token r = by (look_up ordinary token.text r.blocks) (look_up ordinary token.text r.file) refl refl
  where
    by : (x y : Option ℕ) → look_up ordinary token.text r.blocks ≡ x → look_up ordinary token.text r.file ≡ y → Goes r (occurs_as (is_of_file token.text r) token (binding_found (or_else x y)) r)
    by (Some n) y e f =
        occurs-so r token (is_of_file token.text r) (bound_to n)
        (λ k. known-name r token (is_of_file token.text r) (bound_to n) n (looked-up r.found ordinary token.text r.blocks n k.blocks e))
    by None (Some n) e f =
        occurs-so r token (is_of_file token.text r) (bound_to n)
        (λ k. known-name r token (is_of_file token.text r) (bound_to n) n (looked-up r.found ordinary token.text r.file n k.file f))
    by None None e f = occurs-so r token (is_of_file token.text r) undeclared (λ k. tt)

pub member-so : (token : PlainToken) (r : Reading) → Goes r (member_used token r)
member-so token r =
    occurs-so r token false (member_use (λ tag. look_up (members_of tag) token.text r.file))
    (λ k tag n e. known-name r token false (member_use (λ other. look_up (members_of other) token.text r.file)) n (looked-up r.found (members_of tag) token.text r.file n k.file e))

pub tag-so : (may : Bool) (token : PlainToken) (r : Reading) → Goes r (tag_named may token r)
tag-so may token r = by may (look_up tags token.text r.file) refl
  where
    by : (m : Bool) (x : Option ℕ) → look_up tags token.text r.file ≡ x → Goes r (tag_found m token x r)
    by m (Some n) e =
        occurs-so r token false (bound_to n) (λ k. known-name r token false (bound_to n) n (looked-up r.found tags token.text r.file n k.file e))
    by true None e = declares-tag r token false (bound_to r.next) refl
    by false None e = occurs-so r token false undeclared (λ k. tt)

-- ---- declarators

-- the name that a declarator declares
pub declaring-name : (place : Where) (token : PlainToken) (r : Reading) → IsNamedSo r → HasName (further r token false (bound_to (declaring place token r))) token.text (declaring place token r)
declaring-name at_file token r k = by (look_up ordinary token.text r.file) refl
  where
    by : (x : Option ℕ) → look_up ordinary token.text r.file ≡ x → HasName (further r token false (bound_to (first_or x r.next))) token.text (first_or x r.next)
    by None e = own-name r token false (bound_to r.next)
    by (Some n) e = known-name r token false (bound_to n) n (looked-up r.found ordinary token.text r.file n k.file e)
declaring-name in_block token r k = own-name r token false (bound_to r.next)
declaring-name (among_members tag) token r k = own-name r token false (bound_to r.next)

pub declared-so : (place : Where) (token : PlainToken) (by : ℕ) (s : Reading) → HasName s.found token.text by → IsNamedSo s → IsNamedSo (declared place token by s)
declared-so at_file token by s h k = record { file = (h, k.file); blocks = k.blocks; found = k.found }
declared-so in_block token by s h k = record { file = k.file; blocks = (h, k.blocks); found = k.found }
declared-so (among_members tag) token by s h k = record { file = (h, k.file); blocks = k.blocks; found = k.found }

pub declared-found : (place : Where) (token : PlainToken) (by : ℕ) (s : Reading) → (declared place token by s).found ≡ s.found
declared-found at_file token by s = refl
declared-found in_block token by s = refl
declared-found (among_members tag) token by s = refl

-- a block ends
pub leaves : (r s : Reading) → Goes r s → Goes r (leave r s)
leaves r s g = record {
  more = g.more;
  keeps = λ k. let after = g.keeps k in record { file = after.file; blocks = entries-more r.found s.found r.blocks g.more k.blocks; found = after.found };
}
