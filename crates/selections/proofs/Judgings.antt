-- What judgements bind, and in which structs that selects.
use Rattle.std.proofs.Common.{◌≡◌, ℕ, List, [], ◌∷◌, ◌++◌, refl, sym, ap, ◌∙◌}
use Rattle.std.specs.Prelude.{map, Option}
use Rattle.std.proofs.lemmas.List.{append_assoc, map-append}
use Rattle.core_meaning.specs.Checking.{Entity, Binding, Checked, fine, refused, broken, with_bindings, ◌>>=◌}
use Rattle.entity_numbers.proofs.Uses.{Binds}
use Rattle.expression_types.proofs.Sees.{Comes}
use Rattle.selections.specs.Laws.{structure_bound}

abbrev pub Writing : Type 0
Writing = List (Option ℕ) → List (Option ℕ)

-- a judgement that binds nothing
abbrev pub IsQuiet : {A : Type 0} → Checked A → Type 0
IsQuiet m = Binds (λ (e : Entity). ⊥) m

module _ (by : ℕ → ℕ) where
  abbrev structures : List Binding → List (Option ℕ)
  structures bindings = map (structure_bound by) bindings

  -- what a judgement binds selects in these structs
  abbrev pub Selects : {A : Type 0} → Writing → Checked A → Type 0
  Selects f (fine x bindings) = (behind : List (Option ℕ)) → f behind ≡ structures bindings ++ behind
  Selects f (refused kind token) = Unit {0}
  Selects f broken = Unit {0}

  pub selects_same : {A : Type 0} (f g : Writing) (m : Checked A) → ((behind : List (Option ℕ)) → f behind ≡ g behind) → Selects g m → Selects f m
  selects_same f g (fine x bindings) same h = λ behind. same behind ∙ h behind
  selects_same f g (refused kind token) same h = tt
  selects_same f g broken same h = tt

  selects_behind : {B : Type 0} (f g : Writing) (bindings : List Binding) (m : Checked B) → ((behind : List (Option ℕ)) → f behind ≡ structures bindings ++ behind) → Selects g m
      → Selects (λ behind. f (g behind)) (with_bindings bindings m)
  selects_behind f g bindings (fine x others) h i = λ behind.
      h (g behind)
      ∙ (ap (λ l. structures bindings ++ l) (i behind)
      ∙ (sym (append_assoc (structures bindings) (structures others) behind)
      ∙ ap (λ l. l ++ behind) (sym (map-append (structure_bound by) bindings others))))
  selects_behind f g bindings (refused kind token) h i = tt
  selects_behind f g bindings broken h i = tt

  -- one judgement after another, which may depend on what the first comes to
  pub known_then : {A B : Type 0} (f g : Writing) (m : Checked A) (next : A → Checked B) → Selects f m → ((x : A) (bindings : List Binding) → m ≡ fine x bindings → Selects g (next x))
      → Selects (λ behind. f (g behind)) (m >>= next)
  known_then f g (fine x bindings) next h n = selects_behind f g bindings (next x) h (n x bindings refl)
  known_then f g (refused kind token) next h n = tt
  known_then f g broken next h n = tt

  pub selects_then : {A B : Type 0} (f g : Writing) (m : Checked A) (next : A → Checked B) → Selects f m → ((x : A) → Selects g (next x))
      → Selects (λ behind. f (g behind)) (m >>= next)
  selects_then f g m next h n = known_then f g m next h (λ x bindings e. n x)

  pub quiet : {A : Type 0} (m : Checked A) → IsQuiet m → Selects (λ behind. behind) m
  quiet (fine x []) h = λ behind. refl
  quiet (fine x (b ∷ bindings)) h = absurd h.all.0
  quiet (refused kind token) h = tt
  quiet broken h = tt

  pub then_quiet : {A B : Type 0} (f : Writing) (m : Checked A) (next : A → Checked B) → Selects f m → ((x : A) → IsQuiet (next x)) → Selects f (m >>= next)
  then_quiet f m next h n = selects_then f (λ behind. behind) m next h (λ x. quiet (next x) (n x))

  pub quiet_then : {A B : Type 0} (g : Writing) (m : Checked A) (next : A → Checked B) → IsQuiet m → ((x : A) → Selects g (next x)) → Selects g (m >>= next)
  quiet_then g m next h n = selects_then (λ behind. behind) g m next (quiet m h) n

  pub never : {A : Type 0} (f : Writing) (m : Checked A) → Comes (λ x. ⊥) m → Selects f m
  never f (fine x bindings) h = absurd h
  never f (refused kind token) h = tt
  never f broken h = tt
