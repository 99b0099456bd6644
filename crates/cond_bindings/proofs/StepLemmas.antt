-- What a configuration sees of the names after a step.
use Rattle.std.proofs.Common.{◌≡◌, ℕ, Bool, true, false, ◌&&◌, ◌||◌, List, [], ◌∷◌, ◌++◌, refl, sym, ap, ⊎_elim, ◌∙◌, append-nil}
use Rattle.std.specs.Prelude.{Option, Some, None, is_none, if◌then◌else◌}
use Rattle.std.specs.Str.{bytes_eq}
use Rattle.std.specs.Cmp.Lexicographic.{bytes_decides}
use Rattle.std.proofs.Math.Path.{fun_ext}
use Rattle.std.proofs.lemmas.Bool.{cases_Bool}
use Rattle.cond_formula.specs.Conditions.{Condition, value}
use Rattle.core_meaning.specs.Entities.{Table, with_entry, or_else}
use Rattle.scope_readings.specs.Scopes.{Pairing, Scopes, or_own, paired, is_of_file, file_used, tagged, named, shown, Scope, file_scope, block_scope, members}
use Rattle.cond_bindings.specs.Bindings.{Visible, PlainIdentifier, innermost, first, declared_by, declares, pairings_at, PlainUse, uses_at}
use Rattle.cond_bindings.specs.Names.{PlainNames, visible_in, seen, Steps, some_undeclared, TellsUndeclared}
use Rattle.cond_bindings.specs.NameSteps.{noted, with_use, with_visible, with_file, with_tag, with_local, before_in}

-- ---- steps

-- a step that does the same
pub stepped_as : (on : ℕ → Bool) (b : Bool) (before coming : List ℕ) (f g : Scopes → Scopes) (old new : PlainNames) → f (seen on before old) ≡ g (seen on before old) → Steps on b before f coming old new → Steps on b before g coming old new
stepped_as on true before coming f g old new same step = step ∙ same
stepped_as on false before coming f g old new same step = step

-- a step that does nothing
pub stayed : (on : ℕ → Bool) (b : Bool) (coming : List ℕ) (names : PlainNames) → Steps on b coming (λ s. s) coming names names
stayed on true coming names = refl
stayed on false coming names = refl

-- ---- identifiers

front_kept : (b : Bool) (p : Pairing) (xs ys : List Pairing) → (if b then p ∷ (xs ++ ys) else xs ++ ys) ≡ (if b then p ∷ xs else xs) ++ ys
front_kept true p xs ys = refl
front_kept false p xs ys = refl

pairings-append : (on : ℕ → Bool) (is js : List PlainIdentifier) → pairings_at on (is ++ js) ≡ pairings_at on is ++ pairings_at on js
pairings-append on [] js = refl
pairings-append on (i ∷ is) js =
    let p : Pairing = record { number = i.number; declared_by = declared_by on i.number i.meaning } in
    ap (λ (ps : List Pairing). if value on i.when then p ∷ ps else ps) (pairings-append on is js) ∙ front_kept (value on i.when) p (pairings_at on is) (pairings_at on js)

found_more : (on : ℕ → Bool) (b : Bool) (is : List PlainIdentifier) (i : PlainIdentifier) → value on i.when ≡ b → pairings_at on (is ++ i ∷ []) ≡ pairings_at on is ++ (if b then record { number = i.number; declared_by = declared_by on i.number i.meaning } ∷ [] else [])
found_more on b is i there =
    let p : Pairing = record { number = i.number; declared_by = declared_by on i.number i.meaning } in
    pairings-append on is (i ∷ []) ∙ ap (λ (t : Bool). pairings_at on is ++ (if t then p ∷ [] else [])) there

pub noted_steps : (on : ℕ → Bool) (b : Bool) (coming : List ℕ) (names : PlainNames) (i : PlainIdentifier) (refused : Condition) → value on i.when ≡ b → Steps on b (i.number ∷ coming) (paired (declared_by on i.number i.meaning)) coming names (record (noted names i) { refused = refused })
noted_steps on true coming names i refused there = ap (λ (ps : List Pairing). record (seen on coming names) { found = ps }) (found_more on true names.identifiers i there)
noted_steps on false coming names i refused there =
    ap (λ (ps : List Pairing). record (seen on coming names) { found = ps }) (found_more on false names.identifiers i there ∙ append-nil (pairings_at on names.identifiers))

-- ---- names of file scope that are used

or_assoc : (a b c : Bool) → ((a || b) || c) ≡ (a || (b || c))
or_assoc true b c = refl
or_assoc false b c = refl

or_false : (a : Bool) → (a || false) ≡ a
or_false true = refl
or_false false = refl

uses_more : (on : ℕ → Bool) (uses : List PlainUse) (u : PlainUse) (name : List ℕ) → uses_at on (uses ++ u ∷ []) name ≡ (uses_at on uses name || (value on u.when && bytes_eq u.name name))
uses_more on [] u name = or_false (value on u.when && bytes_eq u.name name)
uses_more on (v ∷ uses) u name =
    let here : Bool = value on v.when && bytes_eq v.name name in
    ap (λ (b : Bool). here || b) (uses_more on uses u name) ∙ sym (or_assoc here (uses_at on uses name) (value on u.when && bytes_eq u.name name))

abbrev with_more : Bool → List ℕ → Scopes → Scopes
with_more b name s = record s { uses = λ other. s.uses other || (b && bytes_eq name other) }

used_more : (on : ℕ → Bool) (coming : List ℕ) (names : PlainNames) (u : PlainUse) → seen on coming (with_use names u) ≡ with_more (value on u.when) u.name (seen on coming names)
used_more on coming names u = ap (λ (t : List ℕ → Bool). record (seen on coming names) { uses = t }) (fun_ext (uses_more on names.uses u))

no_more : (name : List ℕ) (s : Scopes) → with_more false name s ≡ s
no_more name s = ap (λ (t : List ℕ → Bool). record s { uses = t }) (fun_ext (λ other. or_false (s.uses other)))

-- a use that is nowhere isn't seen
pub nowhere_used : (on : ℕ → Bool) (coming : List ℕ) (names : PlainNames) (u : PlainUse) → value on u.when ≡ false → seen on coming names ≡ seen on coming (with_use names u)
nowhere_used on coming names u is = sym (used_more on coming names u ∙ ap (λ (b : Bool). with_more b u.name (seen on coming names)) is ∙ no_more u.name (seen on coming names))

-- a use that was noted as an identifier is noted as one of a name of file scope, where it is one
pub use_steps :
    (on : ℕ → Bool) (b : Bool) (before coming : List ℕ) (by : Option ℕ) (old mid new : PlainNames) (u : PlainUse) → value on u.when ≡ (b && is_of_file u.name (seen on before old))
    → Steps on b before (paired by) coming old mid → seen on coming new ≡ seen on coming (with_use mid u) → Steps on b before (λ s. paired by (file_used u.name s)) coming old new
use_steps on true before coming by old mid new u is steps same =
    same ∙ used_more on coming mid u ∙ ap (with_more (value on u.when) u.name) steps ∙ ap (λ (b : Bool). with_more b u.name (paired by (seen on before old))) is
use_steps on false before coming by old mid new u is steps same = same ∙ sym (nowhere_used on coming mid u is) ∙ steps

-- what a declarator names
pub named_is : (on : ℕ → Bool) (scope : Scope) (coming : List ℕ) (number : ℕ) (name : List ℕ) (names : PlainNames) → paired (declared_by on number (declares (before_in scope names name))) (seen on (number ∷ coming) names) ≡ named scope name (seen on (number ∷ coming) names)
named_is on file_scope coming number name names = refl
named_is on block_scope coming number name names = refl
named_is on members coming number name names = refl

-- ---- tables of names

own : (o : Option ℕ) (n : ℕ) → or_else o (Some n) ≡ Some (or_own o n)
own None n = refl
own (Some first) n = refl

or_nothing : (o : Option ℕ) → or_else o None ≡ o
or_nothing None = refl
or_nothing (Some n) = refl

module _ (on : ℕ → Bool) (name : List ℕ) (v : Visible) where
  first_there : (b : Bool) (vs us : List Visible) → value on v.when ≡ true → first on (if b then v ∷ vs else us) ≡ (if b then Some (or_own (first on vs) v.number) else first on us)
  first_there true vs us there = ap (λ (t : Bool). or_else (first on vs) (if t then Some v.number else None)) there ∙ own (first on vs) v.number
  first_there false vs us there = refl

  innermost_there : (b : Bool) (vs us : List Visible) → value on v.when ≡ true → innermost on (if b then v ∷ vs else us) ≡ (if b then Some v.number else innermost on us)
  innermost_there true vs us there = ap (λ (t : Bool). if t then Some v.number else innermost on vs) there
  innermost_there false vs us there = refl

  hidden_at : (f : List Visible → Option ℕ) (table : List ℕ → List Visible) → f (v ∷ table name) ≡ f (table name) → (other : List ℕ) → f (with_visible table name v other) ≡ f (table other)
  hidden_at f table same other =
      ⊎_elim
      (λ (is : bytes_eq other name ≡ true). rw is (same ∙ ap (λ n. f (table n)) (sym ((bytes_decides other name).0 is))))
      (λ (differs : bytes_eq other name ≡ false). rw differs)
      (cases_Bool (bytes_eq other name))

  first_hidden : (vs : List Visible) → value on v.when ≡ false → first on (v ∷ vs) ≡ first on vs
  first_hidden vs hidden = ap (λ (t : Bool). or_else (first on vs) (if t then Some v.number else None)) hidden ∙ or_nothing (first on vs)

  innermost_hidden : (vs : List Visible) → value on v.when ≡ false → innermost on (v ∷ vs) ≡ innermost on vs
  innermost_hidden vs hidden = ap (λ (t : Bool). if t then Some v.number else innermost on vs) hidden

  file_there : (table : List ℕ → List Visible) → value on v.when ≡ true → (λ other. first on (with_visible table name v other)) ≡ with_entry (λ n. first on (table n)) name (or_own (first on (table name)) v.number)
  file_there table there = fun_ext (λ other. first_there (bytes_eq other name) (table name) (table other) there)

  file_hidden : (table : List ℕ → List Visible) → value on v.when ≡ false → ◌≡◌ {A = Table ℕ} (λ other. first on (with_visible table name v other)) (λ other. first on (table other))
  file_hidden table hidden = fun_ext (hidden_at (first on) table (first_hidden (table name) hidden))

  block_there : (table : List ℕ → List Visible) → value on v.when ≡ true → (λ other. innermost on (with_visible table name v other)) ≡ with_entry (λ n. innermost on (table n)) name v.number
  block_there table there = fun_ext (λ other. innermost_there (bytes_eq other name) (table name) (table other) there)

  block_hidden : (table : List ℕ → List Visible) → value on v.when ≡ false → ◌≡◌ {A = Table ℕ} (λ other. innermost on (with_visible table name v other)) (λ other. innermost on (table other))
  block_hidden table hidden = fun_ext (hidden_at (innermost on) table (innermost_hidden (table name) hidden))

  pub file_steps : (b : Bool) (coming : List ℕ) (names : PlainNames) → value on v.when ≡ b → Steps on b coming (shown file_scope name v.number) coming names (with_file names name v)
  file_steps true coming names there = ap (λ (t : Table ℕ). record (seen on coming names) { file = t }) (file_there names.file there)
  file_steps false coming names there = ap (λ (t : Table ℕ). record (seen on coming names) { file = t }) (file_hidden names.file there)

  pub block_steps : (b : Bool) (coming : List ℕ) (names : PlainNames) → value on v.when ≡ b → Steps on b coming (shown block_scope name v.number) coming names (with_local names name v)
  block_steps true coming names there = ap (λ (t : Table ℕ). record (seen on coming names) { blocks = t }) (block_there (visible_in names.blocks) there)
  block_steps false coming names there = ap (λ (t : Table ℕ). record (seen on coming names) { blocks = t }) (block_hidden (visible_in names.blocks) there)

  -- a tag that declares a struct
  pub tag_steps : (b : Bool) (coming : List ℕ) (names : PlainNames) (when : Condition) → value on when ≡ b → value on v.when ≡ b → Steps on b (v.number ∷ coming) (tagged true name) coming names (with_tag (noted names (record { number = v.number; when = when; meaning = declares (names.tags name) })) name v)
  tag_steps true coming names when at there =
      let i : PlainIdentifier = record { number = v.number; when = when; meaning = declares (names.tags name) } in
      ap (λ (t : Table ℕ). record (seen on coming (noted names i)) { tags = t }) (file_there names.tags there)
      ∙ ap (λ (s : Scopes). record s { tags = with_entry (λ n. first on (names.tags n)) name (or_own (first on (names.tags name)) v.number) }) (noted_steps on true coming names i names.refused at)
  tag_steps false coming names when at there =
      let i : PlainIdentifier = record { number = v.number; when = when; meaning = declares (names.tags name) } in
      ap (λ (t : Table ℕ). record (seen on coming (noted names i)) { tags = t }) (file_hidden names.tags there) ∙ noted_steps on false coming names i names.refused at

-- ---- undeclared identifiers

undeclared-append : (ps qs : List Pairing) → some_undeclared (ps ++ qs) ≡ (some_undeclared ps || some_undeclared qs)
undeclared-append [] qs = refl
undeclared-append (p ∷ ps) qs = ap (λ b. is_none p.declared_by || b) (undeclared-append ps qs) ∙ sym (or_assoc (is_none p.declared_by) (some_undeclared ps) (some_undeclared qs))

one_undeclared : (b : Bool) (p : Pairing) → some_undeclared (if b then p ∷ [] else []) ≡ (b && is_none p.declared_by)
one_undeclared true p = or_false (is_none p.declared_by)
one_undeclared false p = refl

-- what is told after one more identifier
pub told_more : (on : ℕ → Bool) (names : PlainNames) (i : PlainIdentifier) (refused : Condition) → TellsUndeclared on names → value on refused ≡ (value on names.refused || (value on i.when && is_none (declared_by on i.number i.meaning))) → TellsUndeclared on (record (noted names i) { refused = refused })
told_more on names i refused told is =
    let p : Pairing = record { number = i.number; declared_by = declared_by on i.number i.meaning } in
    is
    ∙ ap (λ b. b || (value on i.when && is_none p.declared_by)) told
    ∙ ap (λ b. some_undeclared (pairings_at on names.identifiers) || b) (sym (one_undeclared (value on i.when) p))
    ∙ sym (undeclared-append (pairings_at on names.identifiers) (if value on i.when then p ∷ [] else []))
    ∙ ap some_undeclared (sym (found_more on (value on i.when) names.identifiers i refl))

and_false : (b : Bool) → (b && false) ≡ false
and_false true = refl
and_false false = refl

-- a declaration declares its name
pub told_declared : (on : ℕ → Bool) (names : PlainNames) (number : ℕ) (when : Condition) (earlier : List Visible) → TellsUndeclared on names → TellsUndeclared on (noted names (record { number = number; when = when; meaning = declares earlier }))
told_declared on names number when earlier told =
    told_more on names (record { number = number; when = when; meaning = declares earlier }) names.refused told
    (sym (ap (λ b. value on names.refused || b) (and_false (value on when)) ∙ or_false (value on names.refused)))
