-- The identifiers that are bound, and those that declare names in common.
use Rattle.std.proofs.Common.{◌≡◌, ℕ, ◌==◌, Bool, true, false, List, [], ◌∷◌, ◌++◌, map, inl, inr, refl, sym, ap, ap₂, subst, ◌∙◌}
use Rattle.std.specs.Prelude.{◌||◌, Option, Some, None, flat_map, if◌then◌else◌}
use Rattle.std.specs.List.{list_any}
use Rattle.std.proofs.lemmas.Bool.{false≢true, and_parts, and_from, eq-eqb, eqb-true}
use Rattle.c_text.specs.Token.{PlainToken}
use Rattle.core_meaning.specs.Entities.{Table}
use Rattle.bindings.specs.Visible.{NameSpace, Binding as Bound, bound_to, undeclared, member_use, Occurrence as BoundIdentifier}
use Rattle.bindings.specs.Judged.{Identified}
use Rattle.scope_readings.specs.Scopes.{Pairing}
use Rattle.scope_readings.specs.Laws.{pairing, pairings}
use Rattle.choice_trees.specs.Leaves.{Leaf}
use Rattle.cond_pairings.specs.Pairs.{Pair, pair_with, declared_pairs}
use Rattle.cond_scopes.specs.Progress.{number_or_none}
use Rattle.cond_name_spaces.specs.Spaced.{InSpace}
use Rattle.program_occurrences.specs.Occurrences.{UnitNames, Occurrence, declares_itself, CommonName, common_name}
use Rattle.occurrence_names.proofs.Kept.{In, in-map}
use Rattle.name_spaces.specs.Laws.{common_by, declared_name}
use Rattle.told_occurrences.specs.Told.{number_in, pair_of, NumberedName, numbered}
use Rattle.read_occurrences.specs.Read.{is_own_pair, number_of_name, name_read, names_read}
use Rattle.read_occurrences.proofs.OneByOne.{Row, Source, in_source, in_origin, in_made}
use Rattle.read_occurrences.proofs.Uses.{Known, spaced_of, from_spaced, to_spaced}

-- ---- the pairs of bindings

abbrev pub pairs_of_binding : List ℕ → BoundIdentifier → List Pair
pairs_of_binding numbers b = declared_pairs (pairing numbers b.number b.binding)

declared_both : (ps qs : List Pairing) → declared_pairs (ps ++ qs) ≡ declared_pairs ps ++ declared_pairs qs
declared_both [] qs = refl
declared_both (p ∷ ps) qs = by p.declared_by (declared_both ps qs)
  where
    by : (o : Option ℕ) → declared_pairs (ps ++ qs) ≡ declared_pairs ps ++ declared_pairs qs → pair_with p.number o ++ declared_pairs (ps ++ qs) ≡ (pair_with p.number o ++ declared_pairs ps) ++ declared_pairs qs
    by None e = e
    by (Some n) e = ap (λ (l : List Pair). record { identifier = p.number; declared_by = n } ∷ l) e

pub bindings_pair : (numbers : List ℕ) (bs : List BoundIdentifier) → declared_pairs (pairings numbers bs) ≡ flat_map (pairs_of_binding numbers) bs
bindings_pair numbers [] = refl
bindings_pair numbers (b ∷ bs) = declared_both (pairing numbers b.number b.binding) (pairings numbers bs) ∙ ap (λ l. pairs_of_binding numbers b ++ l) (bindings_pair numbers bs)

pub record IsPairOf (numbers : List ℕ) (b : BoundIdentifier) (p : Pair) : Type 0 where
  pub by : ℕ
  pub bound : b.binding ≡ bound_to by
  pub is : p ≡ record { identifier = number_in numbers b.number; declared_by = number_in numbers by }

pub from_binding : (numbers : List ℕ) (b : BoundIdentifier) (p : Pair) → In p (pairs_of_binding numbers b) → IsPairOf numbers b p
from_binding numbers b p i = inside b.binding refl i
  where
    inside : (x : Bound) → b.binding ≡ x → In p (declared_pairs (pairing numbers b.number x)) → IsPairOf numbers b p
    inside (bound_to by) e (inl is) = record { by = by; bound = e; is = is }
    inside (bound_to by) e (inr i) = absurd i
    inside undeclared e i = absurd i
    inside (member_use which) e i = absurd i

-- ---- pairs with themselves

own_pair : (numbers : List ℕ) (o : Occurrence) → o.identifier.number ≡ o.declared_by.number → is_own_pair (number_in numbers o.identifier.number) (pair_of numbers o) ≡ true
own_pair numbers o e =
    let n : ℕ = number_in numbers o.identifier.number in
    and_from (n == n) (number_in numbers o.declared_by.number == n) (eq-eqb n n refl) (eq-eqb (number_in numbers o.declared_by.number) n (ap (number_in numbers) (sym e)))

any_here : (test : Pair → Bool) (pairs : List Pair) (p : Pair) → In p pairs → test p ≡ true → list_any test pairs ≡ true
any_here test [] p i e = absurd i
any_here test (q ∷ pairs) p (inl is) e = ap (λ (b : Bool). b || list_any test pairs) (ap test (sym is) ∙ e)
any_here test (q ∷ pairs) p (inr i) e = by (test q) (any_here test pairs p i e)
  where
    by : (b : Bool) → list_any test pairs ≡ true → (b || list_any test pairs) ≡ true
    by true h = refl
    by false h = h

record Passes (test : Pair → Bool) (pairs : List Pair) : Type 0 where
  pair : Pair
  among : In pair pairs
  passes : test pair ≡ true

any_one : (test : Pair → Bool) (pairs : List Pair) → list_any test pairs ≡ true → Passes test pairs
any_one test [] e = absurd (false≢true e)
any_one test (q ∷ pairs) e = by (λ f. any_one test pairs f) (test q) refl e
  where
    by : (list_any test pairs ≡ true → Passes test pairs) → (b : Bool) → test q ≡ b → (b || list_any test pairs) ≡ true → Passes test (q ∷ pairs)
    by later true is f = record { pair = q; among = inl refl; passes = is }
    by later false is f = let x = later f in record { pair = x.pair; among = inr x.among; passes = x.passes }

-- ---- names in common

abbrev pub name_of : List ℕ → UnitNames → Occurrence → List NumberedName
name_of numbers unit o = numbered (number_in numbers o.identifier.number) (declared_name unit o)

if_read : (b : Bool) (x : NumberedName) (l : List NumberedName) → In x (if b then l else []) → (b ≡ true) × In x l
if_read true x l i = (refl, i)
if_read false x l i = absurd i

module _ (unit : UnitNames) (tags : Table ℕ) (numbers : List ℕ) (by : ℕ → ℕ) (tag : ℕ → List ℕ) (members : ℕ → List ℕ → Option ℕ) (rows : List Row) (k : Known unit tags numbers by tag members rows) where
  number_of_row : (z : Row) → In z rows → (n : InSpace) → n.name ≡ z.leaf → number_of_name n ≡ number_in numbers z.bound.number
  number_of_row z j n e = ap (λ (l : Leaf). number_or_none l.number) e ∙ ap number_or_none (k.facts z j).leaf.tells

  number_of_occurrence : (z : Row) → In z rows → number_in numbers z.bound.number ≡ number_in numbers z.occurrence.identifier.number
  number_of_occurrence z j = ap (number_in numbers) (sym (k.facts z j).is.number)

  text_of_row : (z : Row) → In z rows → z.leaf.text.text ≡ z.occurrence.identifier.token.text
  text_of_row z j = let f = k.facts z j in ap (λ (t : PlainToken). t.text) f.leaf.text ∙ ap (λ (t : PlainToken). t.text) (sym f.is.token)

  module _ (pairs : List Pair) (sound : (p : Pair) → In p pairs → Source (λ (r : Row). pair_of numbers r.occurrence) rows p) (complete : (r : Row) → In r rows → In (pair_of numbers r.occurrence) pairs) where
    -- what is paired with itself declares itself
    itself : (z : Row) (j : In z rows) → list_any (is_own_pair (number_in numbers z.bound.number)) pairs ≡ true → declares_itself z.occurrence ≡ true
    itself z j e =
        let n : ℕ = number_in numbers z.bound.number in
        let x = any_one (is_own_pair n) pairs e in
        let s = sound x.pair x.among in
        let both = and_parts (x.pair.identifier == n) (x.pair.declared_by == n) x.passes in
        let r : Row = s.source in
        let f = k.facts r s.among in
        let r_is : r ≡ z =
        k.one r z s.among j (ap (number_in numbers) (sym f.is.number) ∙ sym (ap (λ (p : Pair). p.identifier) s.same) ∙ eqb-true x.pair.identifier n both.0) in
        let d : Row = k.declaring r s.among in
        let g = k.facts d (k.declared r s.among) in
        let d_is : d ≡ z =
        k.one d z (k.declared r s.among) j
        (ap (number_in numbers) (sym g.is.number ∙ ap (λ (i : Identified). i.number) (k.declares r s.among)) ∙ sym (ap (λ (p : Pair). p.declared_by) s.same) ∙ eqb-true x.pair.declared_by n both.1) in
        subst (λ (w : Row). declares_itself w.occurrence ≡ true) d_is (k.itself r s.among)

    own_name : (z : Row) (j : In z rows) (space : NameSpace) → z.space ≡ Some space → declares_itself z.occurrence ≡ true → declared_name unit z.occurrence ≡ common_by unit (Some space) z.leaf.text.text
    own_name z j space e own =
        ap (λ (b : Bool). if b then common_name unit z.occurrence.identifier else None) own
        ∙ (k.facts z j).told own
        ∙ ap₂ (λ (s : Option NameSpace) (text : List ℕ). common_by unit s text) e (sym (text_of_row z j))

    pub names_sound : (x : NumberedName) → In x (names_read unit pairs (flat_map spaced_of rows)) → In x (flat_map (name_of numbers unit) (map (λ (r : Row). r.occurrence) rows))
    names_sound x i =
        let o = in_origin (name_read unit pairs) (flat_map spaced_of rows) x i in
        let n : InSpace = o.source in
        let of_n = in_origin spaced_of rows n o.among in
        let z : Row = of_n.source in
        let s = from_spaced z n z.space refl of_n.made in
        let m = if_read (list_any (is_own_pair (number_of_name n)) pairs) x (numbered (number_of_name n) (common_by unit (Some n.space) n.name.text.text)) o.made in
        let number : number_of_name n ≡ number_in numbers z.bound.number = number_of_row z of_n.among n s.name in
        let own : declares_itself z.occurrence ≡ true = itself z of_n.among (ap (λ (c : ℕ). list_any (is_own_pair c) pairs) (sym number) ∙ m.0) in
        let name : common_by unit (Some n.space) n.name.text.text ≡ declared_name unit z.occurrence =
        ap (λ (l : Leaf). common_by unit (Some n.space) l.text.text) s.name ∙ sym (own_name z of_n.among n.space s.space own) in
        in_made (name_of numbers unit) (map (λ (r : Row). r.occurrence) rows) z.occurrence x (in-map (λ (r : Row). r.occurrence) z rows of_n.among)
        (subst (In x) (ap₂ numbered (number ∙ number_of_occurrence z of_n.among) name) m.1)

    -- a name that is declared stands in its name space
    record Stands (r : Row) : Type 0 where
      own : declares_itself r.occurrence ≡ true
      space : NameSpace
      space_is : r.space ≡ Some space

    stands : (r : Row) (i : In r rows) (x : NumberedName) → In x (name_of numbers unit r.occurrence) → Stands r
    stands r i x m = inside (declares_itself r.occurrence) refl r.space refl m
      where
        no_name : (n : ℕ) (o : Option CommonName) → o ≡ None → In x (numbered n o) → ⊥
        no_name n None e a = a
        no_name n (Some name) e a = absurd cc

        inside :
            (b : Bool) → declares_itself r.occurrence ≡ b → (s : Option NameSpace) → r.space ≡ s → In x (numbered (number_in numbers r.occurrence.identifier.number) (if b then common_name unit r.occurrence.identifier else None)) → Stands r
        inside true own (Some space) e a = record { own = own; space = space; space_is = e }
        inside true own None e a =
            absurd (no_name (number_in numbers r.occurrence.identifier.number) (common_name unit r.occurrence.identifier)
            ((k.facts r i).told own ∙ ap (λ (s : Option NameSpace). common_by unit s r.occurrence.identifier.token.text) e) a)
        inside false own s e a = absurd a

    pub names_complete : (x : NumberedName) → In x (flat_map (name_of numbers unit) (map (λ (r : Row). r.occurrence) rows)) → In x (names_read unit pairs (flat_map spaced_of rows))
    names_complete x i =
        let o = in_origin (name_of numbers unit) (map (λ (r : Row). r.occurrence) rows) x i in
        let s = in_source (λ (r : Row). r.occurrence) rows o.source o.among in
        let r : Row = s.source in
        let made : In x (name_of numbers unit r.occurrence) = subst (λ (y : Occurrence). In x (name_of numbers unit y)) s.same o.made in
        let t = stands r s.among x made in
        let n : InSpace = record { name = r.leaf; space = t.space } in
        let f = k.facts r s.among in
        let number : number_of_name n ≡ number_in numbers r.occurrence.identifier.number = number_of_row r s.among n refl ∙ number_of_occurrence r s.among in
        let own : list_any (is_own_pair (number_of_name n)) pairs ≡ true =
        any_here (is_own_pair (number_of_name n)) pairs (pair_of numbers r.occurrence) (complete r s.among)
        (ap (λ (c : ℕ). is_own_pair c (pair_of numbers r.occurrence)) number ∙ own_pair numbers r.occurrence (eqb-true r.occurrence.identifier.number r.occurrence.declared_by.number t.own)) in
        in_made (name_read unit pairs) (flat_map spaced_of rows) n x (in_made spaced_of rows r n s.among (to_spaced r t.space t.space_is))
        (subst (λ (b : Bool). In x (if b then numbered (number_of_name n) (common_by unit (Some t.space) r.leaf.text.text) else [])) (sym own)
        (subst (In x) (ap₂ numbered (sym number) (own_name r s.among t.space t.space_is t.own)) made))
