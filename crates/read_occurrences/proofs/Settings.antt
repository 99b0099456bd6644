-- Judgements that lead from one state to another, and whom they bind.
use Rattle.std.proofs.Common.{◌≡◌, Bool, true, false, List, [], ◌∷◌, refl, sym, ap, subst}
use Rattle.std.specs.Prelude.{Option, Some, None}
use Rattle.c_text.specs.Token.{PlainToken}
use Rattle.core_meaning.specs.declared.refusals.TypeKind.{TypeKind}
use Rattle.core_meaning.specs.Checking.{Entity, Binding, Checked, fine, refused, broken, with_bindings, ◌>>=◌, give, unless_so, or_broken, declares}
use Rattle.entity_numbers.proofs.Uses.{All, all_append, Binds}
use Rattle.entity_kinds.proofs.Pairs.{Never, none_bound}

-- ---- judgements from one state to another: who is bound is known where the last state has what the state behind has

pub record Setting : Type 1 where
  pub State : Type 0
  pub Le : State → State → Type 0
  pub itself : (a : State) → Le a a
  pub both : (a b c : State) → Le a b → Le b c → Le a c
  pub Last : State → Type 0
  pub lower : (a b : State) → Le a b → Last b → Last a
  pub knows : Entity → Type 0

module _ (w : Setting) where
  abbrev pub WalkedOf : {A : Type 0} → w.State → (A → w.State) → (A → Type 0) → Checked A → Type 0
  WalkedOf before behind V (fine x js) = (w.Le before (behind x) × V x) × (w.Last (behind x) → All w.knows js)
  WalkedOf before behind V (refused kind token) = Unit {0}
  WalkedOf before behind V broken = Unit {0}

  pub record Walks {A : Type 0} (before : w.State) (behind : A → w.State) (V : A → Type 0) (c : Checked A) : Type 0 where
    pub walked : WalkedOf before behind V c

  then_of :
      {B : Type 0} (before middle : w.State) (behind : B → w.State) (W : B → Type 0) (js : List Binding) (c : Checked B) → w.Le before middle → (w.Last middle → All w.knows js) → WalkedOf middle behind W c
      → WalkedOf before behind W (with_bindings js c)
  then_of before middle behind W js (fine y ks) g f h =
      ((w.both before middle (behind y) g h.0.0, h.0.1), λ l. all_append w.knows js ks (f (w.lower middle (behind y) h.0.0 l)) (h.1 l))
  then_of before middle behind W js (refused kind token) g f h = tt
  then_of before middle behind W js broken g f h = tt

  pub walks_then :
      {A B : Type 0} (before : w.State) (middle : A → w.State) (behind : B → w.State) (V : A → Type 0) (W : B → Type 0) (c : Checked A) (f : A → Checked B) → Walks before middle V c
      → ((x : A) → w.Le before (middle x) → V x → Walks (middle x) behind W (f x)) → Walks before behind W (c >>= f)
  walks_then before middle behind V W (fine x js) f h g =
      record { walked = then_of before (middle x) behind W js (f x) h.walked.0.0 h.walked.1 (g x h.walked.0.0 h.walked.0.1).walked }
  walks_then before middle behind V W (refused kind token) f h g = record { walked = tt }
  walks_then before middle behind V W broken f h g = record { walked = tt }

  module _ {B : Type 0} (before : w.State) (behind : B → w.State) (W : B → Type 0) where
    pub walks_give : (x : B) → w.Le before (behind x) → W x → Walks before behind W (give x)
    walks_give x g v = record { walked = ((g, v), λ l. tt) }

    pub walks_as : (V : B → Type 0) (c : Checked B) → Walks before behind V c → ((x : B) → V x → W x) → Walks before behind W c
    walks_as V (fine x js) h f = record { walked = ((h.walked.0.0, f x h.walked.0.1), h.walked.1) }
    walks_as V (refused kind token) h f = record { walked = tt }
    walks_as V broken h f = record { walked = tt }

    -- one that binds nothing first
    pub quiet_then : {A : Type 0} (c : Checked A) (f : A → Checked B) → Binds Never c → ((x : A) → Walks before behind W (f x)) → Walks before behind W (c >>= f)
    quiet_then {A = A} c f h g = walks_then before (λ (x : A). before) behind (λ (x : A). Unit {0}) W c f (by c h) (λ x y z. g x)
      where
        by : (c : Checked A) → Binds Never c → Walks before (λ (x : A). before) (λ (x : A). Unit {0}) c
        by (fine x js) h = record { walked = ((w.itself before, tt), λ l. subst (λ (b : List Binding). All w.knows b) (sym (none_bound js h.all)) tt) }
        by (refused kind token) h = record { walked = tt }
        by broken h = record { walked = tt }

    pub some_then : {A : Type 0} (o : Option A) (f : A → Checked B) → ((x : A) → o ≡ Some x → Walks before behind W (f x)) → Walks before behind W (or_broken o >>= f)
    some_then {A = A} (Some x) f g = walks_then before (λ (y : A). before) behind (λ (y : A). x ≡ y) W (give x) f (record { walked = ((w.itself before, refl), λ l. tt) }) (λ y h e. g y (ap Some e))
    some_then None f g = record { walked = tt }

    pub unless_then : (b : Bool) (kind : TypeKind) (token : PlainToken) (f : Unit {0} → Checked B) → (b ≡ true → (x : Unit {0}) → Walks before behind W (f x)) → Walks before behind W (unless_so b kind token >>= f)
    unless_then true kind token f g = walks_then before (λ (x : Unit {0}). before) behind (λ (x : Unit {0}). Unit {0}) W (give tt) f (record { walked = ((w.itself before, tt), λ l. tt) }) (λ x h e. g refl x)
    unless_then false kind token f g = record { walked = tt }

    -- an identifier that declares, which is known behind
    pub declares_then : (e : Entity) (f : Unit {0} → Checked B) → Walks before behind W (f tt) → ((x : B) → W x → w.Last (behind x) → w.knows e) → Walks before behind W (declares e >>= f)
    declares_then e f h g = record { walked = by (f tt) h.walked }
      where
        by : (c : Checked B) → WalkedOf before behind W c → WalkedOf before behind W (with_bindings (record { entity = e; in_expression = false } ∷ []) c)
        by (fine x js) h = (h.0, λ l. (g x h.0.1 l, h.1 l))
        by (refused kind token) h = tt
        by broken h = tt
