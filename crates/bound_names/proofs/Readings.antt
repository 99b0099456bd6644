-- Each reading of a unit keeps names.
use Rattle.std.proofs.Common.{ℕ, suc, false, List, [], ◌∷◌, sym, subst, inl, inr, arith}
use Rattle.std.specs.Prelude.{Contains}
use Rattle.std.specs.List.{AllByRecursion}
use Rattle.std.proofs.lemmas.List.Elements.{All-from_recursion}
use Rattle.c_text.specs.Token.{PlainToken}
use Rattle.c_tree.specs.declared.kinds.Kind.TheVariants as k
use Rattle.c_tree.specs.Trees.{PlainTree, node}
use Rattle.bindings.specs.Visible.{bound_to, undeclared, member_use, Binding, Occurrence, Reading, start, occurs}
use Rattle.bindings.specs.Bindings.{Where, declaring, declared, read_unit, bindings_of}
use Rattle.bound_names.specs.Laws.{IsNamed, IsBoundToName, IdentifiersKeepNames}
use Rattle.bound_names.proofs.Steps.{In, HasName, BoundName, NamedIdentifier, IsNamedSo, Goes, stays, goes-on, name-more, passes, occurs-so, uses-so, member-so, tag-so, declaring-name, declared-so, declared-found, leaves}
use Rattle.bound_names.proofs.Walks.{Steps, items-go}

name-goes :
    (place : Where) (token : PlainToken) (r : Reading) (behind : Reading → Reading) → ((s : Reading) → Goes s (behind s))
    → Goes r (declared place token (declaring place token r) (behind (occurs token (bound_to (declaring place token r)) r)))
name-goes place token r behind behind-goes =
    let by : ℕ = declaring place token r in
    let s : Reading = occurs token (bound_to by) r in
    let first : Goes r s = occurs-so r token false (bound_to by) (λ known. declaring-name place token r known) in
    let next : Goes s (behind s) = behind-goes s in
    record {
      more = λ o i. subst (In o) (sym (declared-found place token by (behind s))) (next.more o (first.more o i));
      keeps = λ known. declared-so place token by (behind s) (name-more s.found (behind s).found token.text by next.more (declaring-name place token r known)) (next.keeps (first.keeps known));
    }

abbrev naming : Steps
naming = record {
  Goes = Goes;
  stays = stays;
  goes_on = λ r s t f g. goes-on f g;
  passes = passes;
  uses = uses-so;
  member = member-so;
  tag = tag-so;
  name = name-goes;
  leaves = leaves;
}

named-start : IsNamedSo start
named-start = record { file = tt; blocks = tt; found = tt }

-- visible names are those of the identifiers that declare them, at the end of a unit too
pub unit-named : (tree : PlainTree) → IsNamedSo (read_unit tree)
unit-named (node k.Unit items) = let g = items-go naming items start in g.keeps named-start
unit-named other = named-start

-- ---- by places

contains-of : {X : Type 0} (x : X) (xs : List X) → In x xs → Contains xs x
contains-of x [] i = absurd i
contains-of x (y ∷ xs) (inl e) = (0, omega arith, sym e)
contains-of x (y ∷ xs) (inr i) = let c = contains-of x xs i in (suc c.0, omega (arith, c.1), c.2)

is-named : (found : List Occurrence) (name : List ℕ) (n : ℕ) → HasName found name n → IsNamed found name n
is-named found name n h =
    record { identifier = h.identifier; among = contains-of h.identifier found h.among; number_is = h.number_is; name_is = h.name_is }

is-bound : (found : List Occurrence) (name : List ℕ) (b : Binding) → BoundName found name b → IsBoundToName found name b
is-bound found name (bound_to by) h = is-named found name by h
is-bound found name undeclared h = tt
is-bound found name (member_use which) h = λ tag by e. is-named found name by (h tag by e)

each-bound : (found os : List Occurrence) → AllByRecursion (NamedIdentifier found) os → AllByRecursion (λ o. IsBoundToName found o.token.text o.binding) os
each-bound found [] a = tt
each-bound found (o ∷ os) a = (is-bound found o.token.text o.binding a.0, each-bound found os a.1)

pub names-kept : IdentifiersKeepNames
names-kept tree =
    let named = unit-named tree in
    All-from_recursion (λ o. IsBoundToName (bindings_of tree) o.token.text o.binding) (bindings_of tree) (each-bound (bindings_of tree) (bindings_of tree) named.found)
