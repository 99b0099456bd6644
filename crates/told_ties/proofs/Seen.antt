-- The ties that are true in a configuration, and those that it sees.
use Rattle.std.proofs.Common.{◌≡◌, ℕ, zero, suc, Bool, true, false, List, [], ◌∷◌, Contains, refl, ap, sym, ◌∙◌, arith}
use Rattle.std.specs.Prelude.{◌↔◌, IsTrue, if◌then◌else◌}
use Rattle.cond_formula.specs.Features.{has}
use Rattle.cond_formula.specs.Conditions.{value}
use Rattle.program_occurrences.specs.Occurrences.{CommonName}
use Rattle.program_occurrences.specs.Classes.{PlainFileToken}
use Rattle.tied_tokens.specs.Ties.{PlainTie, PlainDeclaredName, PlainTiedTokens}
use Rattle.tied_classes.specs.Told.{Ties, Names}
use Rattle.told_ties.specs.Ties.{TiedPair, tied, NamedToken, named, tied_seen, named_seen}
use Rattle.told_ties.specs.Laws.{TiesAreSeen}
use Rattle.told_ties.proofs.Lists.{none_among, first_among, later_among}

module _ (on : ℕ → Bool) where
  -- ---- ties

  -- one of these is true, and ties the tokens
  record TiesBy (ties : List PlainTie) (a b : PlainFileToken) : Type 0 where
    tie : PlainTie
    among : Contains ties tie
    holds : IsTrue (value on tie.when)
    identifier_is : tie.identifier ≡ a
    declared_by_is : tie.declared_by ≡ b

  tied_later : (t : PlainTie) (ties : List PlainTie) (a b : PlainFileToken) → TiesBy ties a b → TiesBy (t ∷ ties) a b
  tied_later t ties a b h =
      record { tie = h.tie; among = later_among t h.tie ties h.among; holds = h.holds; identifier_is = h.identifier_is; declared_by_is = h.declared_by_is }

  ties_of_seen : (ties : List PlainTie) (a b : PlainFileToken) → Contains (tied_seen on ties) (tied a b) → TiesBy ties a b
  ties_of_seen [] a b h = absurd (none_among (tied a b) h)
  ties_of_seen (t ∷ ties) a b h = by (value on t.when) refl (λ k. ties_of_seen ties a b k) h
    where
      by : (v : Bool) → value on t.when ≡ v → (Contains (tied_seen on ties) (tied a b) → TiesBy ties a b)
          → Contains (if v then tied t.identifier t.declared_by ∷ tied_seen on ties else tied_seen on ties) (tied a b) → TiesBy (t ∷ ties) a b
      by true holds behind (zero, below, e) = record {
        tie = t;
        among = first_among t t ties refl;
        holds = holds;
        identifier_is = ap (λ (x : TiedPair). x.identifier) e;
        declared_by_is = ap (λ (x : TiedPair). x.declared_by) e;
      }
      by true holds behind (suc k, below, e) = tied_later t ties a b (behind (k, omega arith, e))
      by false holds behind h = tied_later t ties a b (behind h)

  seen_of_ties : (ties : List PlainTie) (tie : PlainTie) → Contains ties tie → IsTrue (value on tie.when) → Contains (tied_seen on ties) (tied tie.identifier tie.declared_by)
  seen_of_ties [] tie h holds = absurd (none_among tie h)
  seen_of_ties (t ∷ ties) tie (zero, below, e) holds = by (value on t.when) (ap (λ (x : PlainTie). value on x.when) e ∙ holds)
    where
      by : (v : Bool) → v ≡ true → Contains (if v then tied t.identifier t.declared_by ∷ tied_seen on ties else tied_seen on ties) (tied tie.identifier tie.declared_by)
      by true is = first_among (tied t.identifier t.declared_by) (tied tie.identifier tie.declared_by) (tied_seen on ties) (ap (λ (x : PlainTie). tied x.identifier x.declared_by) e)
      by false is = absurd (let no : ◌≡◌ {A = Bool} false true = is in cc)
  seen_of_ties (t ∷ ties) tie (suc k, below, e) holds = by (value on t.when) (seen_of_ties ties tie (k, omega arith, e) holds)
    where
      by : (v : Bool) → Contains (tied_seen on ties) (tied tie.identifier tie.declared_by)
          → Contains (if v then tied t.identifier t.declared_by ∷ tied_seen on ties else tied_seen on ties) (tied tie.identifier tie.declared_by)
      by true h = later_among (tied t.identifier t.declared_by) (tied tie.identifier tie.declared_by) (tied_seen on ties) h
      by false h = h

  -- ---- declared names

  record NamesBy (names : List PlainDeclaredName) (token : PlainFileToken) (name : CommonName) : Type 0 where
    entry : PlainDeclaredName
    among : Contains names entry
    holds : IsTrue (value on entry.when)
    token_is : entry.token ≡ token
    name_is : entry.name ≡ name

  named_later : (n : PlainDeclaredName) (names : List PlainDeclaredName) (token : PlainFileToken) (name : CommonName) → NamesBy names token name → NamesBy (n ∷ names) token name
  named_later n names token name h = record { entry = h.entry; among = later_among n h.entry names h.among; holds = h.holds; token_is = h.token_is; name_is = h.name_is }

  names_of_seen : (names : List PlainDeclaredName) (token : PlainFileToken) (name : CommonName) → Contains (named_seen on names) (named token name) → NamesBy names token name
  names_of_seen [] token name h = absurd (none_among (named token name) h)
  names_of_seen (n ∷ names) token name h = by (value on n.when) refl (λ k. names_of_seen names token name k) h
    where
      by : (v : Bool) → value on n.when ≡ v → (Contains (named_seen on names) (named token name) → NamesBy names token name)
          → Contains (if v then named n.token n.name ∷ named_seen on names else named_seen on names) (named token name) → NamesBy (n ∷ names) token name
      by true holds behind (zero, below, e) = record {
        entry = n;
        among = first_among n n names refl;
        holds = holds;
        token_is = ap (λ (x : NamedToken). x.token) e;
        name_is = ap (λ (x : NamedToken). x.name) e;
      }
      by true holds behind (suc k, below, e) = named_later n names token name (behind (k, omega arith, e))
      by false holds behind h = named_later n names token name (behind h)

  seen_of_names : (names : List PlainDeclaredName) (entry : PlainDeclaredName) → Contains names entry → IsTrue (value on entry.when) → Contains (named_seen on names) (named entry.token entry.name)
  seen_of_names [] entry h holds = absurd (none_among entry h)
  seen_of_names (n ∷ names) entry (zero, below, e) holds = by (value on n.when) (ap (λ (x : PlainDeclaredName). value on x.when) e ∙ holds)
    where
      by : (v : Bool) → v ≡ true → Contains (if v then named n.token n.name ∷ named_seen on names else named_seen on names) (named entry.token entry.name)
      by true is = first_among (named n.token n.name) (named entry.token entry.name) (named_seen on names) (ap (λ (x : PlainDeclaredName). named x.token x.name) e)
      by false is = absurd (let no : ◌≡◌ {A = Bool} false true = is in cc)
  seen_of_names (n ∷ names) entry (suc k, below, e) holds = by (value on n.when) (seen_of_names names entry (k, omega arith, e) holds)
    where
      by : (v : Bool) → Contains (named_seen on names) (named entry.token entry.name)
          → Contains (if v then named n.token n.name ∷ named_seen on names else named_seen on names) (named entry.token entry.name)
      by true h = later_among (named n.token n.name) (named entry.token entry.name) (named_seen on names) h
      by false h = h

ties_as_seen : (all : PlainTiedTokens) (c : List Bool) (a b : PlainFileToken) → Ties all c a b ↔ Contains (tied_seen (has c) all.ties) (tied a b)
ties_as_seen all c a b = (
  λ h. there h.tie h.among h.holds h.identifier_is h.declared_by_is,
  λ h. let t = ties_of_seen (has c) all.ties a b h in record { tie = t.tie; among = t.among; holds = t.holds; identifier_is = t.identifier_is; declared_by_is = t.declared_by_is },
)
  where
    there : (tie : PlainTie) → Contains all.ties tie → IsTrue (value (has c) tie.when) → tie.identifier ≡ a → tie.declared_by ≡ b → Contains (tied_seen (has c) all.ties) (tied a b)
    there tie among holds i d = rw (sym i, sym d) (seen_of_ties (has c) all.ties tie among holds)

names_as_seen : (all : PlainTiedTokens) (c : List Bool) (token : PlainFileToken) (name : CommonName) → Names all c token name ↔ Contains (named_seen (has c) all.names) (named token name)
names_as_seen all c token name = (
  λ h. there h.entry h.among h.holds h.token_is h.name_is,
  λ h. let n = names_of_seen (has c) all.names token name h in record { entry = n.entry; among = n.among; holds = n.holds; token_is = n.token_is; name_is = n.name_is },
)
  where
    there : (entry : PlainDeclaredName) → Contains all.names entry → IsTrue (value (has c) entry.when) → entry.token ≡ token → entry.name ≡ name → Contains (named_seen (has c) all.names) (named token name)
    there entry among holds t n = rw (sym t, sym n) (seen_of_names (has c) all.names entry among holds)

pub ties_seen : TiesAreSeen
ties_seen = record { ties_are = ties_as_seen; names_are = names_as_seen }
