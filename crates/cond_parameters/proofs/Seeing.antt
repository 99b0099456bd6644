-- What a configuration sees where a parameter is added.
use Rattle.std.proofs.Common.{◌≡◌, ℕ, ◌+◌, ◌<◌, Bool, true, false, List, [], ◌∷◌, map, drop, length, get_or, refl, ap, ◌∙◌, subst, if◌then◌else◌}
use Rattle.cond_formula.specs.Conditions.{value}
use Rattle.conditional.specs.Entries.{Entry, seen}
use Rattle.conditional.proofs.ListLaws.{item_of}
use Rattle.c_types.specs.Types.{PlainType}
use Rattle.type_tables.specs.Tables.{Tables}
use Rattle.cond_parameters.specs.Walks.{State}

abbrev pub a_state : List PlainType → Bool → Tables → State
a_state types is_refused tables = record { types = types; refused = is_refused; tables = tables }

pub same_state : (types others : List PlainType) (a b : Bool) (t u : Tables) → types ≡ others → a ≡ b → t ≡ u → a_state types a t ≡ a_state others b u
same_state types others a b t u x y z = ap (λ (l : List PlainType). a_state l a t) x ∙ ap (λ r. a_state others r t) y ∙ ap (a_state others b) z

-- what is seen nowhere
module _ {A T : Type 0} (on : ℕ → Bool) (entry : T → Entry A) (list : List T) where
  abbrev pub UnseenFrom : ℕ → Type 0
  UnseenFrom i = seen on (map entry (drop i list)) ≡ []

  first_unseen : (t : Bool) (what : A) (rest : List A) → (if t then what ∷ rest else rest) ≡ [] → (t ≡ false) × (rest ≡ [])
  first_unseen true what rest h = absurd cc
  first_unseen false what rest h = (refl, h)

  pub next_unseen : (i : ℕ) (x : T) → i < length list → x ≡ get_or list i x → UnseenFrom i → (value on (entry x).when ≡ false) × UnseenFrom (i + 1)
  next_unseen i x within is h =
      first_unseen (value on (entry x).when) (entry x).what (seen on (map entry (drop (i + 1) list))) (subst (λ others. seen on (map entry others) ≡ []) (item_of list x i within is) h)
