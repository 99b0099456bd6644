-- Items of units, one after the other.
use Rattle.std.proofs.Common.{◌≡◌, ℕ, ◌+◌, ◌≤◌, ◌<◌, Bool, true, false, List, [], ◌∷◌, ◌++◌, map, refl, sym, ap, subst, ◌∙◌, arith}
use Rattle.std.specs.Prelude.{None, ◌==◌}
use Rattle.std.proofs.lemmas.Bool.{false≢true, and_parts, and_from, and_left, ne_eqb}
use Rattle.std.proofs.lemmas.List.{append_assoc}
use Rattle.core_meaning.specs.Checking.{Entity, local_entity, local_of_function, file_entity, struct_entity, member_entity, own_entity, Binding as JudgedBinding, Checked, fine, refused, broken, with_bindings, ◌>>=◌, in_function, numbered, numbered_binding}
use Rattle.bindings.specs.Visible.{Occurrence}
use Rattle.bindings.specs.Judged.{same_entity, Identified, first_with, identified, AreAlike}
use Rattle.bindings.proofs.Histories.{recorded, alike_append, recorded_append, unbound_behind, first_other}
use Rattle.bindings.proofs.Follows.{Adds, Unbound, unbound_further, IfUndeclared, if_undeclared, is_plain, all_plain, used_alike, all_used_alike, used_both, renamed, Follows}
use Rattle.bindings.proofs.Related.{numbering}

pub record Bound (before : List Identified) (found further : List Occurrence) (js : List JudgedBinding) (W : List Identified → Type 0) : Type 0 where
  pub os : List Occurrence
  pub is : further ≡ found ++ os
  pub alike : AreAlike before os js
  pub used : all_used_alike os js ≡ true
  pub after : W (recorded before os js)

abbrev pub Binds : {A : Type 0} → List Identified → List Occurrence → List Occurrence → (A → List Identified → Type 0) → Checked A → Type 0
Binds before found further V (fine x js) = Bound before found further js (V x)
Binds before found further V (refused kind token) = IfUndeclared kind (Unbound found further token)
Binds before found further V broken = ⊥

bound_then :
    {B : Type 0} (before : List Identified) (a b c : List Occurrence) (js : List JudgedBinding) (V : List Identified → Type 0) (W : B → List Identified → Type 0) (next : Checked B) (f : Bound before a b js V)
    → Binds (recorded before f.os js) b c W next → Binds before a c W (with_bindings js next)
bound_then before a b c js V W (fine y ks) f g = record {
  os = f.os ++ g.os;
  is = g.is ∙ ap (λ l. l ++ g.os) f.is ∙ append_assoc a f.os g.os;
  alike = alike_append before f.os g.os js ks f.alike g.alike;
  used = used_both f.os g.os js ks f.used g.used;
  after = subst (W y) (sym (recorded_append before f.os g.os js ks f.alike)) g.after;
}
bound_then before a b c js V W (refused kind token) f g = if_undeclared kind (λ (u : Unbound b c token). (let v : Unbound a c token = record {
  os = f.os ++ u.os;
  is = u.is ∙ ap (λ l. l ++ u.os) f.is ∙ append_assoc a f.os u.os;
  first = unbound_behind token before f.os u.os js f.alike u.first;
} in v)) g
bound_then before a b c js V W broken f g = g

pub binds_both :
    {A B : Type 0} (before : List Identified) (a b c : List Occurrence) (V : A → List Identified → Type 0) (W : B → List Identified → Type 0) (first : Checked A) (next : A → Checked B) → Binds before a b V first
    → ((x : A) (after : List Identified) → V x after → Binds after b c W (next x)) → Adds b c → Binds before a c W (first >>= next)
binds_both before a b c V W (fine x js) next f g adds = bound_then before a b c js (V x) W (next x) f (g x (recorded before f.os js) f.after)
binds_both before a b c V W (refused kind token) next f g adds = if_undeclared kind (λ u. unbound_further u adds) f
binds_both before a b c V W broken next f g adds = f

-- ---- what isn't bound yet

abbrev pub Fresh : ℕ → List Identified → Type 0
Fresh n h = (f s : ℕ) → n ≤ f → first_with (local_of_function f s) h ≡ None

plain_other : (e : Entity) (f s : ℕ) → is_plain e ≡ true → same_entity e (local_of_function f s) ≡ false
plain_other (local_of_function g u) f s plain = absurd (false≢true plain)
plain_other _ f s plain = refl

fresh_kept : (n : ℕ) (h : List Identified) (os : List Occurrence) (js : List JudgedBinding) → all_plain js ≡ true → Fresh n h → Fresh n (recorded h os js)
fresh_kept n h [] js plain fresh = fresh
fresh_kept n h (o ∷ os) [] plain fresh = fresh
fresh_kept n h (o ∷ os) (j ∷ js) plain fresh =
    let both = and_parts (is_plain j.entity) (all_plain js) plain in
    fresh_kept n (h ++ identified o j ∷ []) os js both.1 (λ f s far. first_other (local_of_function f s) h (identified o j) (plain_other j.entity f s both.0) ∙ fresh f s far)

numbered_other : (n : ℕ) (e : Entity) (f s : ℕ) → is_plain e ≡ true → n < f → same_entity (numbered n e) (local_of_function f s) ≡ false
numbered_other n (local_entity slot) f s plain less = and_left (n == f) (slot == s) (ne_eqb n f (λ e. let same_ : n ≡ f = e in omega (arith, less, same_)))
numbered_other n (local_of_function g u) f s plain less = absurd (false≢true plain)
numbered_other n _ f s plain less = refl

fresh_behind : (n : ℕ) (h : List Identified) (os : List Occurrence) (js : List JudgedBinding) → all_plain js ≡ true → Fresh (n + 1) h → Fresh (n + 1) (recorded h os (map (numbered_binding n) js))
fresh_behind n h [] js plain fresh = fresh
fresh_behind n h (o ∷ os) [] plain fresh = fresh
fresh_behind n h (o ∷ os) (j ∷ js) plain fresh =
    let both = and_parts (is_plain j.entity) (all_plain js) plain in
    fresh_behind n (h ++ identified o (numbered_binding n j) ∷ []) os js both.1
    (λ f s far. first_other (local_of_function f s) h (identified o (numbered_binding n j)) (numbered_other n j.entity f s both.0 (omega (arith, far))) ∙ fresh f s far)

-- ---- from what follows to what is bound

same_plain : (e : Entity) → numbering local_entity e ≡ e
same_plain (local_entity slot) = refl
same_plain (local_of_function f s) = refl
same_plain (file_entity name) = refl
same_plain (struct_entity n) = refl
same_plain (member_entity s m) = refl
same_plain own_entity = refl

renamed_same : (js : List JudgedBinding) → renamed (numbering local_entity) js ≡ js
renamed_same [] = refl
renamed_same (j ∷ js) = ap (λ e. record j { entity = e } ∷ renamed (numbering local_entity) js) (same_plain j.entity) ∙ ap (λ l. j ∷ l) (renamed_same js)

numbered_same : (n : ℕ) (e : Entity) → is_plain e ≡ true → numbering (local_of_function n) e ≡ numbered n e
numbered_same n (local_entity slot) plain = refl
numbered_same n (local_of_function f s) plain = absurd (false≢true plain)
numbered_same n (file_entity name) plain = refl
numbered_same n (struct_entity m) plain = refl
numbered_same n (member_entity s m) plain = refl
numbered_same n own_entity plain = refl

renamed_numbered : (n : ℕ) (js : List JudgedBinding) → all_plain js ≡ true → renamed (numbering (local_of_function n)) js ≡ map (numbered_binding n) js
renamed_numbered n [] plain = refl
renamed_numbered n (j ∷ js) plain =
    let both = and_parts (is_plain j.entity) (all_plain js) plain in
    ap (λ e. record j { entity = e } ∷ renamed (numbering (local_of_function n)) js) (numbered_same n j.entity both.0)
    ∙ ap (λ l. numbered_binding n j ∷ l) (renamed_numbered n js both.1)

numbered_alike : (n : ℕ) (uses : Bool) (name : List ℕ) (e : Entity) (b : Bool) → used_alike uses name (record { entity = e; in_expression = b }) ≡ true → used_alike uses name (record { entity = numbered n e; in_expression = b }) ≡ true
numbered_alike n true name (local_entity slot) b h = h
numbered_alike n false name (local_entity slot) b h = h
numbered_alike n uses name _ b h = h

numbered_used : (n : ℕ) (os : List Occurrence) (js : List JudgedBinding) → all_used_alike os js ≡ true → all_used_alike os (map (numbered_binding n) js) ≡ true
numbered_used n [] [] h = h
numbered_used n [] (j ∷ js) h = h
numbered_used n (o ∷ os) [] h = h
numbered_used n (o ∷ os) (j ∷ js) h =
    let both = and_parts (used_alike o.uses_file_name o.token.text j) (all_used_alike os js) h in
    and_from (used_alike o.uses_file_name o.token.text (numbered_binding n j)) (all_used_alike os (map (numbered_binding n) js))
    (numbered_alike n o.uses_file_name o.token.text j.entity j.in_expression both.0) (numbered_used n os js both.1)

pub binds_plain :
    {A : Type 0} (n : ℕ) (before : List Identified) (a b : List Occurrence) (V W : A → List Identified → Type 0) (c : Checked A) → Fresh n before → Follows (numbering local_entity) before a b V c
    → ((x : A) (g : List Identified) → V x g → Fresh n g → W x g) → Binds before a b W c
binds_plain n before a b V W (fine x js) fresh f g =
    let same_ = renamed_same js in
    let after : V x (recorded before f.os js) = subst (λ l. V x (recorded before f.os l)) same_ f.after in
    record { os = f.os; is = f.is; alike = subst (AreAlike before f.os) same_ f.alike; used = f.used; after = g x (recorded before f.os js) after (fresh_kept n before f.os js f.plain fresh) }
binds_plain n before a b V W (refused kind token) fresh f g = f
binds_plain n before a b V W broken fresh f g = f

pub binds_function :
    {A : Type 0} (n : ℕ) (before : List Identified) (a b : List Occurrence) (V W : A → List Identified → Type 0) (c : Checked A) → Fresh n before → Follows (numbering (local_of_function n)) before a b V c
    → ((x : A) (g : List Identified) → V x g → Fresh (n + 1) g → W x g) → Binds before a b W (in_function n c)
binds_function n before a b V W (fine x js) fresh f g =
    let same_ = renamed_numbered n js f.plain in
    let after : V x (recorded before f.os (map (numbered_binding n) js)) = subst (λ l. V x (recorded before f.os l)) same_ f.after in
    record {
      os = f.os;
      is = f.is;
      alike = subst (AreAlike before f.os) same_ f.alike;
      used = numbered_used n f.os js f.used;
      after = g x (recorded before f.os (map (numbered_binding n) js)) after (fresh_behind n before f.os js f.plain (λ m s far. fresh m s (omega (arith, far))));
    }
binds_function n before a b V W (refused kind token) fresh f g = f
binds_function n before a b V W broken fresh f g = f
