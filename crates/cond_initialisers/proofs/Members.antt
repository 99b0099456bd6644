-- The members of a struct, one after the other.
use Rattle.std.proofs.Common.{◌≡◌, ℕ, ◌+◌, ◌<◌, ◌≤◌, Bool, true, false, List, [], ◌∷◌, ◌++◌, length, get_or, drop, refl, sym, ap, subst, ◌∙◌}
use Rattle.std.specs.Prelude.{◌&&◌, map, Option, Some, None, slice_get, if◌then◌else◌}
use Rattle.cond_formula.specs.Conditions.{condition_of, value}
use Rattle.conditional.specs.declared.entries.Guarded.{Guarded}
use Rattle.conditional.specs.Entries.{entries_of, seen, under}
use Rattle.conditional.proofs.ListLaws.{copied_step, copied_end}
use Rattle.c_types.specs.Types.{PlainType, plain_type}
use Rattle.type_tables.specs.Forms.{member_form}
use Rattle.type_tables.specs.declared.entries.Member.{Member}
use Rattle.type_tables.specs.declared.entries.CondStruct.{CondStruct}
use Rattle.type_tables.specs.Seen as seen_in
use Rattle.type_tables.specs.Follows.{types_of}
use Rattle.cond_initialisers.specs.Places.{Extends, AreNumbered, members_of}
use Rattle.cond_initialisers.proofs.Numbered.{next_numbered}

abbrev pub member_type : Member → PlainType
member_type m = plain_type m.ty

-- of so many members these are the numbers
pub record MembersSoFar (on : ℕ → Bool) (k : Bool) (list : List (Guarded Member)) (i : ℕ) (ts : List PlainType) (ns : List ℕ) : Type 0 where
  pub done : List PlainType
  pub are : AreNumbered ts ns done
  pub same : done ++ under k (seen on (entries_of member_type (drop i list))) ≡ under k (seen on (entries_of member_type list))

pub members_start : (on : ℕ → Bool) (k : Bool) (list : List (Guarded Member)) (ts : List PlainType) (ns : List ℕ) → ns ≡ [] → MembersSoFar on k list 0 ts ns
members_start on k list ts ns e = record { done = []; are = ap (map (λ n. slice_get ts n)) e; same = refl }

pub members_step :
    (on : ℕ → Bool) (k : Bool) (list : List (Guarded Member)) (x : Guarded Member) (i : ℕ) (ts us : List PlainType) (ns new : List ℕ) (here : Bool) (n : ℕ) → i < length list → x ≡ get_or list i x
    → here ≡ (value on (condition_of x.when) && k) → Extends ts us → slice_get us n ≡ Some (member_type x.what) → new ≡ ns ++ under here (n ∷ [])
    → MembersSoFar on k list i ts ns → MembersSoFar on k list (i + 1) us new
members_step on k list x i ts us ns new here n within is h more_ e pushed so_far = record {
  done = so_far.done ++ under here (member_type x.what ∷ []);
  are = next_numbered ts us ns new so_far.done here n (member_type x.what) more_ so_far.are e pushed;
  same = copied_step member_type on k here list x i (member_type x.what) so_far.done (so_far.done ++ under here (member_type x.what ∷ [])) (under k (seen on (entries_of member_type list)))
      within is h refl so_far.same refl;
}

types_seen : (on : ℕ → Bool) (list : List (Guarded Member)) → seen on (entries_of member_type list) ≡ types_of (seen on (entries_of member_form list))
types_seen on [] = refl
types_seen on (x ∷ list) = by (value on (condition_of x.when)) (types_seen on list)
  where
    by : (b : Bool) → seen on (entries_of member_type list) ≡ types_of (seen on (entries_of member_form list))
        → (if b then member_type x.what ∷ seen on (entries_of member_type list) else seen on (entries_of member_type list))
        ≡ types_of (if b then member_form x.what ∷ seen on (entries_of member_form list) else seen on (entries_of member_form list))
    by true e = ap (λ ts. member_type x.what ∷ ts) e
    by false e = e

under_if : (b : Bool) (l m : List PlainType) → l ≡ m → under b l ≡ (if b then m else [])
under_if true l m e = e
under_if false l m e = refl

pub members_end : (on : ℕ → Bool) (s : CondStruct) (list : List (Guarded Member)) (i : ℕ) (ts : List PlainType) (ns : List ℕ) → list ≡ s.members.entries.items → length list ≤ i
    → MembersSoFar on (value on (condition_of s.complete)) list i ts ns → AreNumbered ts ns (members_of on s)
members_end on s list i ts ns e past so_far =
    subst (AreNumbered ts ns)
    (copied_end member_type on (value on (condition_of s.complete)) list i so_far.done (under (value on (condition_of s.complete)) (seen on (entries_of member_type list))) past so_far.same
    ∙ (ap (λ l. under (value on (condition_of s.complete)) (seen on (entries_of member_type l))) e
    ∙ under_if (value on (condition_of s.complete)) (seen on (entries_of member_type s.members.entries.items)) (types_of (seen on (entries_of member_form s.members.entries.items))) (types_seen on s.members.entries.items)))
    so_far.are

pub members_found : (on : ℕ → Bool) (o : Option CondStruct) (s : CondStruct) → o ≡ Some s → members_of on s ≡ (if seen_in.is_complete on o then types_of (seen_in.members_of on o) else [])
members_found on o s e = sym (ap (λ o. if seen_in.is_complete on o then types_of (seen_in.members_of on o) else []) e)

pub members_missing : (on : ℕ → Bool) (o : Option CondStruct) → o ≡ None → (if seen_in.is_complete on o then types_of (seen_in.members_of on o) else []) ≡ []
members_missing on o e = ap (λ o. if seen_in.is_complete on o then types_of (seen_in.members_of on o) else []) e
