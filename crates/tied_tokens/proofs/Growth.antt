-- How the found tokens grow, step by step.
use Rattle.std.proofs.Common.{◌≡◌, ℕ, ◌+◌, ◌<◌, ◌≤◌, List, [], ◌∷◌, ◌++◌, length, map, take, get_or, inl, inr, refl, sym, ap, subst, ◌∙◌, append_assoc, length-append, arith, Bool, true, false, ◌&&◌}
use Rattle.std.specs.Prelude.{◌⊎◌, All, Contains, IsTrue}
use Rattle.std.proofs.lemmas.List.{take_all, append-nil}
use Rattle.std.proofs.lemmas.List.Elements.{All-nil, All-cons, All-append, All-weaker, All-more, All-contains, Contains-append_left, Contains-append_right}
use Rattle.cond_formula.specs.Features.{has}
use Rattle.cond_formula.specs.Conditions.{Condition, value, IsConjunction}
use Rattle.program_occurrences.specs.Classes.{PlainFileToken}
use Rattle.tied_tokens.specs.Ties.{PlainTie, PlainDeclaredName, PlainTiedTokens}
use Rattle.tied_tokens.specs.Reached.{IsAccepted, IsTied, to_declaration, to_identifier, by_name, AreTied, IsPossible}
use Rattle.tied_tokens.specs.Search.{tied_tokens, Grows, IsNew, IsTried, LeadsInto, NameLeadsInto, NamesLeadInto, IsVisited}
use Rattle.tied_tokens.proofs.Members.{made_from}
use Rattle.tied_tokens.proofs.Missing.{missing_less}

-- ---- lists, element by element

-- one more element, where what is said of those before it is kept
pub all_more : {X : Type 0} (P Q : X → Type 0) (xs : List X) (i : ℕ) (x : X) → i < length xs → x ≡ get_or xs i x → ((y : X) → P y → Q y) → All P (take i xs) → Q x → All Q (take (i + 1) xs)
all_more P Q xs i x inside is keeps h q = All-more Q xs i x inside (All-weaker P Q keeps (take i xs) h) (subst Q is q)

pub all_taken : {X : Type 0} (P : X → Type 0) (xs : List X) (n : ℕ) → length xs ≤ n → All P (take n xs) → All P xs
all_taken P xs n long h = subst (All P) (take_all n xs long) h

module _ (all : PlainTiedTokens) where
  -- ---- what is tied is among the tied tokens

  within : (c : List Bool) {a b : PlainFileToken} → IsTied all c a b → Contains (tied_tokens all) b
  within c (to_declaration tie among holds) =
      Contains-append_right (map (λ t. t.identifier) all.ties) (map (λ t. t.declared_by) all.ties ++ map (λ n. n.token) all.names) tie.declared_by
      (Contains-append_left (map (λ t. t.declared_by) all.ties) (map (λ n. n.token) all.names) tie.declared_by (made_from (λ t. t.declared_by) all.ties tie among))
  within c (to_identifier tie among holds) =
      Contains-append_left (map (λ t. t.identifier) all.ties) (map (λ t. t.declared_by) all.ties ++ map (λ n. n.token) all.names) tie.identifier
      (made_from (λ t. t.identifier) all.ties tie among)
  within c (by_name a b first second same here there) =
      Contains-append_right (map (λ t. t.identifier) all.ties) (map (λ t. t.declared_by) all.ties ++ map (λ n. n.token) all.names) b.token
      (Contains-append_right (map (λ t. t.declared_by) all.ties) (map (λ n. n.token) all.names) b.token (made_from (λ n. n.token) all.names b second))

  -- ---- growth

  module _ (member : PlainFileToken) where
    pub grows_none : (found : List PlainFileToken) → Grows all member found found
    grows_none found = record { more = []; behind = sym (append-nil found); tied = All-nil (AreTied all member); room = omega arith }

    pub grows_on : {old mid new : List PlainFileToken} → Grows all member old mid → Grows all member mid new → Grows all member old new
    grows_on {old} {mid} {new} g h = record {
      more = g.more ++ h.more;
      behind = h.behind ∙ (ap (λ (xs : List PlainFileToken). xs ++ h.more) g.behind ∙ append_assoc old g.more h.more);
      tied = All-append (AreTied all member) g.more h.more g.tied h.tied;
      room = omega (arith, g.room, h.room);
    }

    pub found_still : {old new : List PlainFileToken} → Grows all member old new → (token : PlainFileToken) → Contains old token → Contains new token
    found_still {old} {new} g token h = subst (λ (xs : List PlainFileToken). Contains xs token) (sym g.behind) (Contains-append_left old g.more token h)

    pub longer : {old new : List PlainFileToken} → Grows all member old new → length old ≤ length new
    longer {old} {new} g = let e = ap length g.behind ∙ length-append old g.more in omega (arith, e)

    new_one : (when : Condition) (token : PlainFileToken) (old new : List PlainFileToken) → IsNew all when token old new → AreTied all member token → Grows all member old new
    new_one when token old new is tied =
        let fewer = missing_less old token (tied_tokens all) is.fresh (within tied.configuration tied.tied) in
        let added = length-append old (token ∷ []) in
        record {
          more = token ∷ [];
          behind = is.behind;
          tied = All-cons (AreTied all member) token [] tied (All-nil (AreTied all member));
          room = rw (is.behind) (omega (arith, fewer, added));
        }

    pub grows_tried :
        (when : Condition) (token : PlainFileToken) (old new : List PlainFileToken) → IsTried all when token old new → (IsPossible all when → AreTied all member token)
        → Grows all member old new
    grows_tried when token old new tried tied = by tried.grown
      where
        by : (new ≡ old) ⊎ IsNew all when token old new → Grows all member old new
        by (inl e) = subst (Grows all member old) (sym e) (grows_none old)
        by (inr is) = new_one when token old new is (tied is.possible)

    -- ---- what is led to stays found

    pub leads_still : {old new : List PlainFileToken} → Grows all member old new → (tie : PlainTie) → LeadsInto all member old tie → LeadsInto all member new tie
    leads_still g tie h = (λ e p. found_still g tie.declared_by (h.0 e p), λ e p. found_still g tie.identifier (h.1 e p))

    pub name_leads_still : {old new : List PlainFileToken} → Grows all member old new → (own other : PlainDeclaredName) → NameLeadsInto all own old other → NameLeadsInto all own new other
    name_leads_still g own other h = λ same c is here there. found_still g other.token (h same c is here there)

    pub names_lead_still : {old new : List PlainFileToken} → Grows all member old new → (own : PlainDeclaredName) → NamesLeadInto all member old own → NamesLeadInto all member new own
    names_lead_still {old} {new} g own h = λ e. All-weaker (NameLeadsInto all own old) (NameLeadsInto all own new) (λ other k. name_leads_still g own other k) all.names (h e)

  -- ---- steps

  pub on_tie : (tie : PlainTie) → Contains all.ties tie → IsPossible all tie.when → AreTied all tie.identifier tie.declared_by
  on_tie tie among p = record { configuration = p.configuration; is_accepted = p.is_accepted; tied = to_declaration tie among p.holds }

  pub back_on_tie : (tie : PlainTie) → Contains all.ties tie → IsPossible all tie.when → AreTied all tie.declared_by tie.identifier
  back_on_tie tie among p = record { configuration = p.configuration; is_accepted = p.is_accepted; tied = to_identifier tie among p.holds }

  both_parts : (a b : Bool) → IsTrue (a && b) → IsTrue a × IsTrue b
  both_parts true true h = (refl, refl)
  both_parts true false h = absurd cc
  both_parts false b h = absurd cc

  both_hold : (a b : Bool) → IsTrue a → IsTrue b → IsTrue (a && b)
  both_hold true true h k = refl
  both_hold true false h k = absurd cc
  both_hold false b h k = absurd cc

  module _ (own other : PlainDeclaredName) (both : Condition) (is : IsConjunction own.when other.when both) where
    pub on_names : Contains all.names own → Contains all.names other → own.name ≡ other.name → IsPossible all both → AreTied all own.token other.token
    on_names first second same p =
        let h = both_parts (value (has p.configuration) own.when) (value (has p.configuration) other.when) (sym (is.holds (has p.configuration)) ∙ p.holds) in
        record { configuration = p.configuration; is_accepted = p.is_accepted; tied = by_name own other first second same h.0 h.1 }

    pub name_leads : (new : List PlainFileToken) → (IsPossible all both → Contains new other.token) → NameLeadsInto all own new other
    name_leads new comes = λ same c accepted here there.
        comes (record { configuration = c; is_accepted = accepted; holds = is.holds (has c) ∙ both_hold (value (has c) own.when) (value (has c) other.when) here there })

  -- ---- a member is visited

  module _ (member : PlainFileToken) (new : List PlainFileToken) (on_ties : All (LeadsInto all member new) all.ties) (on_all_names : All (NamesLeadInto all member new) all.names) where
    visited_in : (c : List Bool) → IsAccepted all c → {a b : PlainFileToken} → IsTied all c a b → a ≡ member → Contains new b
    visited_in c is (to_declaration tie among holds) e =
        (All-contains (LeadsInto all member new) all.ties tie on_ties among).0 e (record { configuration = c; is_accepted = is; holds = holds })
    visited_in c is (to_identifier tie among holds) e =
        (All-contains (LeadsInto all member new) all.ties tie on_ties among).1 e (record { configuration = c; is_accepted = is; holds = holds })
    visited_in c is (by_name a b first second same here there) e =
        All-contains (NameLeadsInto all a new) all.names b (All-contains (NamesLeadInto all member new) all.names a on_all_names first e) second same c is here there

    pub is_visited : IsVisited all new member
    is_visited token tied = visited_in tied.configuration tied.is_accepted tied.tied refl
