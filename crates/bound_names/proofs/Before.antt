-- Each reading of a unit binds what is used to what stands before it.
use Rattle.std.proofs.Common.{◌≡◌, ℕ, ◌+◌, ◌≤◌, ◌<◌, Bool, true, false, ◌&&◌, List, [], ◌∷◌, ◌++◌, Option, Some, None, refl, sym, subst, IsTrue, arith}
use Rattle.std.specs.Prelude.{is_some, not, if◌then◌else◌}
use Rattle.std.specs.List.{AllByRecursion}
use Rattle.std.specs.Str.{bytes_eq}
use Rattle.std.proofs.lemmas.Bool.{false≢true}
use Rattle.std.proofs.lemmas.Option.{same_Some, none-some}
use Rattle.c_text.specs.Token.{PlainToken}
use Rattle.c_tree.specs.declared.kinds.Kind.TheVariants as k
use Rattle.c_tree.specs.Trees.{PlainTree, node}
use Rattle.core_meaning.specs.Entities.{or_else}
use Rattle.bindings.specs.Visible.{NameSpace, ordinary, tags, members_of, same_space, Entry, look_up, Binding, bound_to, undeclared, member_use, Occurrence, Reading, start, passed, occurs, occurs_as, leave, binding_found, used, member_used, tag_named, tag_found}
use Rattle.bindings.specs.Bindings.{Where, at_file, in_block, among_members, first_or, declaring, declared, read_unit}
use Rattle.bound_names.specs.Laws.{IsBoundBefore, IsUseOfBefore, UsesAreOfBefore}
use Rattle.bound_names.proofs.Walks.{Steps, items-go}

abbrev AllBelow : ℕ → List Entry → Type 0
AllBelow n entries = AllByRecursion (λ e. e.declared_by < n) entries

-- what is visible is declared by identifiers before, and so is what is used
record IsSo (r : Reading) : Type 0 where
  file : AllBelow r.next r.file
  blocks : AllBelow r.next r.blocks
  found : AllByRecursion IsUseOfBefore r.found

record Goes (r s : Reading) : Type 0 where
  later : r.next ≤ s.next
  keeps : IsSo r → IsSo s

all_below : (n m : ℕ) (entries : List Entry) → n ≤ m → AllBelow n entries → AllBelow m entries
all_below n m [] less h = tt
all_below n m (e ∷ entries) less h = let below : e.declared_by < n = h.0 in (omega (arith, less, below), all_below n m entries less h.1)

one_last : (os : List Occurrence) (o : Occurrence) → AllByRecursion IsUseOfBefore os → IsUseOfBefore o → AllByRecursion IsUseOfBefore (os ++ o ∷ [])
one_last [] o a p = (p, tt)
one_last (x ∷ os) o a p = (a.0, one_last os o a.1 p)

looked_up : (n : ℕ) (space : NameSpace) (name : List ℕ) (entries : List Entry) (by : ℕ) → AllBelow n entries → look_up space name entries ≡ Some by → by < n
looked_up n space name [] by a e = absurd (none-some by e)
looked_up n space name (entry ∷ outer) by a e = choice (same_space entry.space space && bytes_eq entry.name name) (looked_up n space name outer by a.1) e
  where
    choice : (b : Bool) → (look_up space name outer ≡ Some by → by < n) → (if b then Some entry.declared_by else look_up space name outer) ≡ Some by → by < n
    choice true further f = subst (λ m. m < n) (same_Some entry.declared_by by f) a.0
    choice false further f = further f

stays : (r : Reading) → Goes r r
stays r = record { later = omega arith; keeps = λ h. h }

goes_on : (r s t : Reading) → Goes r s → Goes s t → Goes r t
goes_on r s t f g = let first : r.next ≤ s.next = f.later in let second : s.next ≤ t.next = g.later in record { later = omega (arith, first, second); keeps = λ h. g.keeps (f.keeps h) }

passes : (r : Reading) → Goes r (passed r)
passes r = record { later = omega arith; keeps = λ h. record { file = all_below r.next (r.next + 1) r.file (omega arith) h.file; blocks = all_below r.next (r.next + 1) r.blocks (omega arith) h.blocks; found = h.found } }

occurs_so : (uses : Bool) (token : PlainToken) (binding : Binding) (r : Reading) → (IsSo r → IsTrue uses → IsBoundBefore r.next binding) → Goes r (occurs_as uses token binding r)
occurs_so uses token binding r is = record {
  later = omega arith;
  keeps = λ h. record {
    file = all_below r.next (r.next + 1) r.file (omega arith) h.file;
    blocks = all_below r.next (r.next + 1) r.blocks (omega arith) h.blocks;
    found = one_last r.found (record { number = r.next; token = token; binding = binding; uses_file_name = uses }) h.found (is h);
  };
}

uses_so : (token : PlainToken) (r : Reading) → Goes r (used token r)
uses_so token r = by (look_up ordinary token.text r.blocks) (look_up ordinary token.text r.file) refl
  where
    by : (x y : Option ℕ) → look_up ordinary token.text r.file ≡ y → Goes r (occurs_as (not (is_some x) && is_some y) token (binding_found (or_else x y)) r)
    by (Some n) y e = occurs_so false token (bound_to n) r (λ h no. absurd (false≢true no))
    by None (Some n) e = occurs_so true token (bound_to n) r (λ h is. looked_up r.next ordinary token.text r.file n h.file e)
    by None None e = occurs_so false token undeclared r (λ h no. absurd (false≢true no))

member_so : (token : PlainToken) (r : Reading) → Goes r (member_used token r)
member_so token r = occurs_so false token (member_use (λ tag. look_up (members_of tag) token.text r.file)) r (λ h no. absurd (false≢true no))

tag_so : (may : Bool) (token : PlainToken) (r : Reading) → Goes r (tag_named may token r)
tag_so may token r = by may (look_up tags token.text r.file)
  where
    by : (m : Bool) (x : Option ℕ) → Goes r (tag_found m token x r)
    by m (Some n) = occurs_so false token (bound_to n) r (λ h no. absurd (false≢true no))
    by true None = record {
      later = omega arith;
      keeps = λ h. record {
        file = (omega arith, all_below r.next (r.next + 1) r.file (omega arith) h.file);
        blocks = all_below r.next (r.next + 1) r.blocks (omega arith) h.blocks;
        found = one_last r.found (record { number = r.next; token = token; binding = bound_to r.next; uses_file_name = false }) h.found (λ no. absurd (false≢true no));
      };
    }
    by false None = occurs_so false token undeclared r (λ h no. absurd (false≢true no))

-- a name is declared by itself, or by one before
by_itself_or_before : (place : Where) (token : PlainToken) (r : Reading) → IsSo r → declaring place token r < r.next + 1
by_itself_or_before at_file token r h = by (look_up ordinary token.text r.file) refl
  where
    by : (x : Option ℕ) → look_up ordinary token.text r.file ≡ x → first_or x r.next < r.next + 1
    by None e = omega arith
    by (Some n) e = let less : n < r.next = looked_up r.next ordinary token.text r.file n h.file e in omega (arith, less)
by_itself_or_before in_block token r h = omega arith
by_itself_or_before (among_members tag) token r h = omega arith

declared_so : (place : Where) (token : PlainToken) (by : ℕ) (r s : Reading) → r.next ≤ s.next → by < s.next → IsSo s → (r.next ≤ (declared place token by s).next) × IsSo (declared place token by s)
declared_so at_file token by r s later less h = (later, record { file = (less, h.file); blocks = h.blocks; found = h.found })
declared_so in_block token by r s later less h = (later, record { file = h.file; blocks = (less, h.blocks); found = h.found })
declared_so (among_members tag) token by r s later less h = (later, record { file = (less, h.file); blocks = h.blocks; found = h.found })

declared_later : (place : Where) (token : PlainToken) (by : ℕ) (s : Reading) → (declared place token by s).next ≡ s.next
declared_later at_file token by s = refl
declared_later in_block token by s = refl
declared_later (among_members tag) token by s = refl

name_so :
    (place : Where) (token : PlainToken) (r : Reading) (behind : Reading → Reading) → ((s : Reading) → Goes s (behind s))
    → Goes r (declared place token (declaring place token r) (behind (occurs token (bound_to (declaring place token r)) r)))
name_so place token r behind goes =
    let by : ℕ = declaring place token r in
    let s : Reading = occurs token (bound_to by) r in
    let first : Goes r s = occurs_so false token (bound_to by) r (λ h no. absurd (false≢true no)) in
    let next : s.next ≤ (behind s).next = (goes s).later in
    let there : s.next ≡ r.next + 1 = refl in
    let later_ : r.next ≤ (behind s).next = omega (arith, next, there) in
    record {
      later = subst (λ n. r.next ≤ n) (sym (declared_later place token by (behind s))) later_;
      keeps = λ h. let less : by < r.next + 1 = by_itself_or_before place token r h in (declared_so place token by r (behind s) later_ (omega (arith, less, next, there)) ((goes s).keeps (first.keeps h))).1;
    }

leaves : (r s : Reading) → Goes r s → Goes r (leave r s)
leaves r s g = record {
  later = g.later;
  keeps = λ h. let after = g.keeps h in record { file = after.file; blocks = all_below r.next s.next r.blocks g.later h.blocks; found = after.found };
}

abbrev before : Steps
before = record { Goes = Goes; stays = stays; goes_on = goes_on; passes = passes; uses = uses_so; member = member_so; tag = tag_so; name = name_so; leaves = leaves }

start_so : IsSo start
start_so = record { file = tt; blocks = tt; found = tt }

unit_so : (tree : PlainTree) → IsSo (read_unit tree)
unit_so (node k.Unit items) = let g = items-go before items start in g.keeps start_so
unit_so other = start_so

pub uses_are_of_before : UsesAreOfBefore
uses_are_of_before tree = (unit_so tree).found
