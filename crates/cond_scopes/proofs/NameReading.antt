-- A name is read where it is there.
use Rattle.std.proofs.Common.{◌≡◌, ℕ, Bool, true, false, not, ◌&&◌, ◌||◌, List, [], ◌∷◌, ◌++◌, reverse, Vec, Global, refl, sym, ap, ap₂, ◌∙◌, subst, if◌then◌else◌}
use Rattle.std.proofs.lemmas.List.{reverse-append}
use Rattle.cond_formula.specs.Conditions.{condition_of, conditions_of, value, all_true}
use Rattle.c_text.specs.Token.{PlainToken}
use Rattle.c_tree.specs.declared.kinds.Kind.{Kind}
use Rattle.c_tree.specs.Trees.{leaf}
use Rattle.bindings.specs.Bindings.{is_name}
use Rattle.scope_readings.specs.Scopes.{Scopes, passed, named}
use Rattle.scope_readings.specs.Walks.{declared_name, role, turns, scope_of}
use Rattle.cond_bindings.specs.Names.{PlainNames, seen, Steps}
use Rattle.cond_scopes.specs.declared.parts.Pending.{Pending}
use Rattle.cond_scopes.specs.declared.parts.Progress.{Progress}
use Rattle.cond_scopes.specs.Progress.{Hidden, SoFar, name_read, part_read, hidden_at, seen_so_far, MovesOn}

module _ (on : ℕ → Bool) (behind : List ℕ) (old new : PlainNames) where
  -- a step of what is seen, with what has been read of the node beside it
  abbrev beside : Progress → Scopes → SoFar
  beside p s = record { scopes = s; turned = value on (condition_of p.turned); hidden = hidden_at on (reverse p.pending.items) }

  pub step_read :
      (b : Bool) (before : List ℕ) (step : Scopes → Scopes) (p : Progress) → Steps on b before step behind old new
      → MovesOn on b before (λ s. record s { scopes = step s.scopes }) behind old p new p
  step_read true before step p h = ap (beside p) h
  step_read false before step p h = ap (beside p) h

  one_hidden :
      (items : List Pending) (item : Pending) (b : Bool) → all_true on (conditions_of item.path.items) ≡ b
      → hidden_at on (reverse (items ++ item ∷ []))
      ≡ (if b then record { name = item.name.now; number = item.number } ∷ hidden_at on (reverse items) else hidden_at on (reverse items))
  one_hidden items item b is =
      ap (hidden_at on) (reverse-append items (item ∷ [])) ∙
      ap (λ there. if there then record { name = item.name.now; number = item.number } ∷ hidden_at on (reverse items) else hidden_at on (reverse items)) is

  pub declared_read :
      (around : Kind) (name : List ℕ) (number : ℕ) (b : Bool) (p q : Progress) (item : Pending)
      → q.turned ≡ p.turned → q.pending.items ≡ p.pending.items ++ item ∷ [] → item.name.now ≡ name → item.number ≡ number
      → all_true on (conditions_of item.path.items) ≡ b
      → Steps on b (number ∷ behind) (named (scope_of around) name) behind old new
      → MovesOn on b (number ∷ behind) (name_read around declared_name name) behind old p new q
  declared_read around name number true p q item same more is_name is_number is h =
      ap₂ (λ (s : Scopes) (hidden : List Hidden). record { scopes = s; turned = value on (condition_of q.turned); hidden = hidden }) h
      (ap (λ items. hidden_at on (reverse items)) more ∙ (one_hidden p.pending.items item true is ∙
      ap₂ (λ (n : List ℕ) (m : ℕ). record { name = n; number = m } ∷ hidden_at on (reverse p.pending.items)) is_name is_number)) ∙
      ap (λ f. record {
        scopes = named (scope_of around) name (seen on (number ∷ behind) old);
        turned = value on (condition_of f);
        hidden = record { name = name; number = number } ∷ hidden_at on (reverse p.pending.items);
      }) same
  declared_read around name number false p q item same more is_name is_number is h =
      ap₂ (λ (s : Scopes) (hidden : List Hidden). record { scopes = s; turned = value on (condition_of q.turned); hidden = hidden }) h
      (ap (λ items. hidden_at on (reverse items)) more ∙ one_hidden p.pending.items item false is) ∙
      ap (λ f. record { scopes = seen on behind old; turned = value on (condition_of f); hidden = hidden_at on (reverse p.pending.items) }) same

or_false : (b : Bool) → (b || false) ≡ b
or_false true = refl
or_false false = refl

-- Before or behind a token that turns what names are: what is read where the one is so, and then where the other is
pub either_read :
    (on : ℕ → Bool) (path turned : Bool) (number : ℕ) (behind : List ℕ) (step : Bool → SoFar → SoFar)
    (first_names mid_names last_names : PlainNames) (first mid last : Progress)
    → value on (condition_of first.turned) ≡ turned
    → ((coming : List ℕ) → MovesOn on (path && not turned) (number ∷ coming) (step false) coming first_names first mid_names mid)
    → MovesOn on (path && turned) (number ∷ behind) (step true) behind mid_names mid last_names last
    → MovesOn on path (number ∷ behind) (λ p. step p.turned p) behind first_names first last_names last
either_read on true true number behind step first_names mid_names last_names first mid last is one other =
    other ∙ (ap (step true) (one (number ∷ behind)) ∙ ap (λ t. step t (seen_so_far on (number ∷ behind) first_names first)) (sym is))
either_read on true false number behind step first_names mid_names last_names first mid last is one other =
    other ∙ (one behind ∙ ap (λ t. step t (seen_so_far on (number ∷ behind) first_names first)) (sym is))
either_read on false turned number behind step first_names mid_names last_names first mid last is one other = other ∙ one behind

-- a name among the tokens of a node, and another token
module _ (on : ℕ → Bool) (around kind : Kind) (token : PlainToken) (b : Bool) (number : ℕ) (behind : List ℕ) (old new : PlainNames) (p q : Progress) where
  abbrev reads_as : (SoFar → SoFar) → Type 0
  reads_as step = MovesOn on b (number ∷ behind) step behind old p new q

  pub name_token :
      (name : List ℕ) → name ≡ token.text → is_name token ≡ true → reads_as (λ s. name_read around (role kind s.turned) name s)
      → reads_as (part_read around kind (leaf token))
  name_token name same is reads =
      subst (λ t. reads_as (λ s. if t then name_read around (role kind s.turned) token.text s else record s { scopes = passed s.scopes; turned = s.turned || turns kind token }))
      (sym is) (subst (λ n. reads_as (λ s. name_read around (role kind s.turned) n s)) same reads)

module _ (on : ℕ → Bool) (around kind : Kind) (token : PlainToken) (number : ℕ) (behind : List ℕ) (names : PlainNames) (p q : Progress) where
  pub other_token :
      (b : Bool) → is_name token ≡ false → q.pending ≡ p.pending → value on (condition_of q.turned) ≡ (value on (condition_of p.turned) || (b && turns kind token))
      → MovesOn on b (number ∷ behind) (part_read around kind (leaf token)) behind names p names q
  other_token true is same turned =
      ap₂ (λ (t : Bool) (pending : Vec Pending Global). record { scopes = seen on behind names; turned = t; hidden = hidden_at on (reverse pending.items) }) turned same ∙
      ap (λ t. if t then name_read around (role kind (value on (condition_of p.turned))) token.text (seen_so_far on (number ∷ behind) names p)
      else record { scopes = seen on behind names; turned = value on (condition_of p.turned) || turns kind token; hidden = hidden_at on (reverse p.pending.items) }) (sym is)
  other_token false is same turned =
      ap₂ (λ (t : Bool) (pending : Vec Pending Global). record { scopes = seen on behind names; turned = t; hidden = hidden_at on (reverse pending.items) })
      (turned ∙ or_false (value on (condition_of p.turned))) same

pub turned_by : (turned b other new : Bool) → new ≡ (turned || b) → other ≡ true → new ≡ (turned || (b && other))
turned_by turned true other new is turns = is ∙ ap (λ o. turned || o) (sym turns)
turned_by turned false other new is turns = is

pub unturned_by : (turned b other : Bool) → other ≡ false → turned ≡ (turned || (b && other))
unturned_by turned true other never = sym (or_false turned) ∙ ap (λ o. turned || o) (sym never)
unturned_by turned false other never = sym (or_false turned)
