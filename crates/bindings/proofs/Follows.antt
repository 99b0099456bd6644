-- Judgements and readings side by side.
use Rattle.std.proofs.Common.{◌≡◌, ℕ, Bool, true, false, List, [], ◌∷◌, ◌++◌, refl, sym, ap, subst, ◌∙◌}
use Rattle.std.specs.Prelude.{map, not, ◌&&◌, if◌then◌else◌}
use Rattle.std.proofs.lemmas.Bool.{and_parts, and_from, false≢true}
use Rattle.std.proofs.lemmas.List.{append_assoc, append-nil, map-append}
use Rattle.c_text.specs.Token.{PlainToken}
use Rattle.core_meaning.specs.declared.refusals.TypeKind.{TypeKind}
use Rattle.core_meaning.specs.declared.refusals.TypeKind.TheVariants.{Undeclared, Redeclared, BadOperand, NotAssignable, Incomplete, ArgumentCount, NoMember, BadConstant, Misplaced}
use Rattle.core_meaning.specs.Checking.{Entity, Binding as JudgedBinding, Checked, fine, refused, broken, with_bindings, ◌>>=◌, give}
use Rattle.bindings.specs.Visible.{Occurrence}
use Rattle.core_meaning.specs.Linking.{is_use_of}
use Rattle.bindings.specs.Judged.{Identified, AreAlike, is_file_entity, IsFirstUndeclared}
use Rattle.bindings.proofs.Histories.{recorded, alike_append, recorded_append, unbound_append, unbound_behind, Grows, recorded_grows}

-- ---- what is found only grows

pub record Adds (found further : List Occurrence) : Type 0 where
  pub others : List Occurrence
  pub is : further ≡ found ++ others

pub adds_none : (found : List Occurrence) → Adds found found
adds_none found = record { others = []; is = sym (append-nil found) }

pub adds_both : {a b c : List Occurrence} → Adds a b → Adds b c → Adds a c
adds_both {a} {b} {c} f g = record {
  others = f.others ++ g.others;
  is = g.is ∙ ap (λ l. l ++ g.others) f.is ∙ append_assoc a f.others g.others;
}

-- ---- a judgement that is fine binds as the reading does, and one that is refused as undeclared is refused where the reading is

abbrev pub Renaming : Type 0
Renaming = Entity → Entity

abbrev pub renamed_one : Renaming → JudgedBinding → JudgedBinding
renamed_one names j = record j { entity = names j.entity }

abbrev pub renamed : Renaming → List JudgedBinding → List JudgedBinding
renamed names js = map (renamed_one names) js

-- slots of other functions aren't bound here
abbrev pub is_plain : Entity → Bool
is_plain (Rattle.core_meaning.specs.Checking.local_of_function f slot) = false
is_plain other = true

abbrev pub all_plain : List JudgedBinding → Bool
all_plain [] = true
all_plain (j ∷ js) = is_plain j.entity && all_plain js

plain_both : (js ks : List JudgedBinding) → all_plain js ≡ true → all_plain ks ≡ true → all_plain (js ++ ks) ≡ true
plain_both [] ks f g = g
plain_both (j ∷ js) ks f g =
    let both = and_parts (is_plain j.entity) (all_plain js) f in
    and_from (is_plain j.entity) (all_plain (js ++ ks)) both.0 (plain_both js ks both.1 g)

-- an expression uses a name of file scope by the reading and by the judgement alike
abbrev pub used_alike : Bool → List ℕ → JudgedBinding → Bool
used_alike true name j = j.in_expression && is_use_of name j.entity
used_alike false name j = not (j.in_expression && is_file_entity j.entity)

abbrev pub all_used_alike : List Occurrence → List JudgedBinding → Bool
all_used_alike [] [] = true
all_used_alike [] (j ∷ js) = false
all_used_alike (o ∷ os) [] = false
all_used_alike (o ∷ os) (j ∷ js) = used_alike o.uses_file_name o.token.text j && all_used_alike os js

pub used_both :
    (os ps : List Occurrence) (js ks : List JudgedBinding) → all_used_alike os js ≡ true → all_used_alike ps ks ≡ true → all_used_alike (os ++ ps) (js ++ ks) ≡ true
used_both [] ps [] ks f g = g
used_both [] ps (j ∷ js) ks f g = absurd (false≢true f)
used_both (o ∷ os) ps [] ks f g = absurd (false≢true f)
used_both (o ∷ os) ps (j ∷ js) ks f g =
    let both = and_parts (used_alike o.uses_file_name o.token.text j) (all_used_alike os js) f in
    and_from (used_alike o.uses_file_name o.token.text j) (all_used_alike (os ++ ps) (js ++ ks)) both.0 (used_both os ps js ks both.1 g)

pub record Fine (names : Renaming) (before : List Identified) (found further : List Occurrence) (js : List JudgedBinding) (W : List Identified → Type 0) : Type 0 where
  pub os : List Occurrence
  pub is : further ≡ found ++ os
  pub alike : AreAlike before os (renamed names js)
  pub plain : all_plain js ≡ true
  pub used : all_used_alike os js ≡ true
  pub after : W (recorded before os (renamed names js))

pub record Unbound (found further : List Occurrence) (token : PlainToken) : Type 0 where
  pub os : List Occurrence
  pub is : further ≡ found ++ os
  pub first : IsFirstUndeclared token os

abbrev pub IfUndeclared : TypeKind → Type 0 → Type 0
IfUndeclared Undeclared T = T
IfUndeclared other T = Unit {0}

abbrev pub Follows : {A : Type 0} → Renaming → List Identified → List Occurrence → List Occurrence → (A → List Identified → Type 0) → Checked A → Type 0
Follows names before found further V (fine x js) = Fine names before found further js (V x)
Follows names before found further V (refused kind token) = IfUndeclared kind (Unbound found further token)
Follows names before found further V broken = ⊥

pub if_undeclared : (kind : TypeKind) {S T : Type 0} → (S → T) → IfUndeclared kind S → IfUndeclared kind T
if_undeclared Undeclared f h = f h
if_undeclared Redeclared f h = tt
if_undeclared BadOperand f h = tt
if_undeclared NotAssignable f h = tt
if_undeclared Incomplete f h = tt
if_undeclared ArgumentCount f h = tt
if_undeclared NoMember f h = tt
if_undeclared BadConstant f h = tt
if_undeclared Misplaced f h = tt

pub unbound_further : {a b c : List Occurrence} {token : PlainToken} → Unbound a b token → Adds b c → Unbound a c token
unbound_further {a} {b} {c} {token} u g = record {
  os = u.os ++ g.others;
  is = g.is ∙ ap (λ l. l ++ g.others) u.is ∙ append_assoc a u.os g.others;
  first = unbound_append token u.os g.others u.first;
}

unbound_later :
    (names : Renaming) (before : List Identified) (a b c : List Occurrence) (js : List JudgedBinding) (W : List Identified → Type 0) (token : PlainToken)
    → Fine names before a b js W → Unbound b c token → Unbound a c token
unbound_later names before a b c js W token f u = record {
  os = f.os ++ u.os;
  is = u.is ∙ ap (λ l. l ++ u.os) f.is ∙ append_assoc a f.os u.os;
  first = unbound_behind token before f.os u.os (renamed names js) f.alike u.first;
}

fine_then :
    {B : Type 0} (names : Renaming) (before : List Identified) (a b c : List Occurrence) (js : List JudgedBinding) (V : List Identified → Type 0)
    (W : B → List Identified → Type 0) (next : Checked B) (f : Fine names before a b js V) → Follows names (recorded before f.os (renamed names js)) b c W next
    → Follows names before a c W (with_bindings js next)
fine_then names before a b c js V W (fine y ks) f g =
    let all : renamed names (js ++ ks) ≡ renamed names js ++ renamed names ks = map-append (renamed_one names) js ks in
    record {
      os = f.os ++ g.os;
      is = g.is ∙ ap (λ l. l ++ g.os) f.is ∙ append_assoc a f.os g.os;
      alike = subst (AreAlike before (f.os ++ g.os)) (sym all) (alike_append before f.os g.os (renamed names js) (renamed names ks) f.alike g.alike);
      plain = plain_both js ks f.plain g.plain;
      used = used_both f.os g.os js ks f.used g.used;
      after = subst (W y) (sym (ap (recorded before (f.os ++ g.os)) all ∙ recorded_append before f.os g.os (renamed names js) (renamed names ks) f.alike)) g.after;
    }
fine_then names before a b c js V W (refused kind token) f g = if_undeclared kind (λ u. unbound_later names before a b c js V token f u) g
fine_then names before a b c js V W broken f g = g

-- one judgement after another
pub follows_both :
    {A B : Type 0} (names : Renaming) (before : List Identified) (a b c : List Occurrence) (V : A → List Identified → Type 0) (W : B → List Identified → Type 0)
    (first : Checked A) (next : A → Checked B) → Follows names before a b V first
    → ((x : A) (after : List Identified) → V x after → Follows names after b c W (next x)) → Adds b c → Follows names before a c W (first >>= next)
follows_both names before a b c V W (fine x js) next f g adds =
    fine_then names before a b c js (V x) W (next x) f (g x (recorded before f.os (renamed names js)) f.after)
follows_both names before a b c V W (refused kind token) next f g adds = if_undeclared kind (λ u. unbound_further u adds) f
follows_both names before a b c V W broken next f g adds = f

pub follows_as :
    {A : Type 0} (names : Renaming) (before : List Identified) (a b : List Occurrence) (V W : A → List Identified → Type 0) (c : Checked A)
    → Follows names before a b V c → ((x : A) (after : List Identified) → V x after → W x after) → Follows names before a b W c
follows_as names before a b V W (fine x js) f g = record { os = f.os; is = f.is; alike = f.alike; plain = f.plain; used = f.used; after = g x (recorded before f.os (renamed names js)) f.after }
follows_as names before a b V W (refused kind token) f g = f
follows_as names before a b V W broken f g = f

-- ---- a judgement that binds nothing and isn't refused as undeclared

pub record Quiet {A : Type 0} (js : List JudgedBinding) (Q : A → Type 0) (x : A) : Type 0 where
  pub none : js ≡ []
  pub value : Q x

abbrev pub Yields : {A : Type 0} → (A → Type 0) → Checked A → Type 0
Yields Q (fine x js) = Quiet js Q x
Yields Q (refused kind token) = IfUndeclared kind ⊥
Yields Q broken = ⊥

pub yields : {A : Type 0} (Q : A → Type 0) (x : A) → Q x → Yields Q (give x)
yields Q x q = record { none = refl; value = q }

pub yields_both :
    {A B : Type 0} (P : A → Type 0) (Q : B → Type 0) (first : Checked A) (next : A → Checked B) → Yields P first → ((x : A) → P x → Yields Q (next x))
    → Yields Q (first >>= next)
yields_both P Q (fine x js) next f g = subst (λ l. Yields Q (with_bindings l (next x))) (sym f.none) (quietly (next x) (g x f.value))
  where
    quietly : (c : Checked _) → Yields Q c → Yields Q (with_bindings [] c)
    quietly (fine y ks) h = h
    quietly (refused kind token) h = h
    quietly broken h = h
yields_both P Q (refused kind token) next f g = f
yields_both P Q broken next f g = f

pub yields_as : {A : Type 0} (P Q : A → Type 0) (c : Checked A) → Yields P c → ((x : A) → P x → Q x) → Yields Q c
yields_as P Q (fine x js) h f = record { none = h.none; value = f x h.value }
yields_as P Q (refused kind token) h f = h
yields_as P Q broken h f = h

pub yields_if : {A : Type 0} (Q : A → Type 0) (b : Bool) (c d : Checked A) → (b ≡ true → Yields Q c) → (b ≡ false → Yields Q d) → Yields Q (if b then c else d)
yields_if Q true c d f g = f refl
yields_if Q false c d f g = g refl

pub quietly_follows :
    {A : Type 0} (names : Renaming) (before : List Identified) (found : List Occurrence) (Q : A → Type 0) (V : A → List Identified → Type 0) (c : Checked A)
    → Yields Q c → ((x : A) → Q x → V x before) → Follows names before found found V c
quietly_follows names before found Q V (fine x js) h g = subst (λ l. Fine names before found found l (V x)) (sym h.none) (record { os = []; is = sym (append-nil found); alike = tt; plain = refl; used = refl; after = g x h.value })
quietly_follows names before found Q V (refused kind token) h g = if_undeclared kind absurd h
quietly_follows names before found Q V broken h g = absurd h

-- a quiet judgement, and what it leads to
pub quietly_before :
    {A B : Type 0} (names : Renaming) (before : List Identified) (a b : List Occurrence) (P : A → Type 0) (W : B → List Identified → Type 0) (c : Checked A)
    (next : A → Checked B) → Yields P c → ((x : A) → P x → Follows names before a b W (next x)) → Follows names before a b W (c >>= next)
quietly_before names before a b P W (fine x js) next h g = subst (λ l. Follows names before a b W (with_bindings l (next x))) (sym h.none) (same (next x) (g x h.value))
  where
    same : (c : Checked _) → Follows names before a b W c → Follows names before a b W (with_bindings [] c)
    same (fine y ks) f = f
    same (refused kind token) f = f
    same broken f = f
quietly_before names before a b P W (refused kind token) next h g = if_undeclared kind absurd h
quietly_before names before a b P W broken next h g = absurd h

-- one judgement after another, where what is first stays so
pub follows_growing :
    {A B : Type 0} (names : Renaming) (before : List Identified) (a b c : List Occurrence) (V : A → List Identified → Type 0) (W : B → List Identified → Type 0)
    (first : Checked A) (next : A → Checked B) → Follows names before a b V first
    → ((x : A) (after : List Identified) → V x after → Grows before after → Follows names after b c W (next x)) → Adds b c → Follows names before a c W (first >>= next)
follows_growing names before a b c V W (fine x js) next f g adds =
    fine_then names before a b c js (V x) W (next x) f (g x (recorded before f.os (renamed names js)) f.after (recorded_grows before f.os (renamed names js)))
follows_growing names before a b c V W (refused kind token) next f g adds = if_undeclared kind (λ u. unbound_further u adds) f
follows_growing names before a b c V W broken next f g adds = f

pub follows_as_growing :
    {A : Type 0} (names : Renaming) (before : List Identified) (a b : List Occurrence) (V W : A → List Identified → Type 0) (c : Checked A)
    → Follows names before a b V c → ((x : A) (after : List Identified) → V x after → Grows before after → W x after) → Follows names before a b W c
follows_as_growing names before a b V W (fine x js) f g =
    record { os = f.os; is = f.is; alike = f.alike; plain = f.plain; used = f.used; after = g x (recorded before f.os (renamed names js)) f.after (recorded_grows before f.os (renamed names js)) }
follows_as_growing names before a b V W (refused kind token) f g = f
follows_as_growing names before a b V W broken f g = f
