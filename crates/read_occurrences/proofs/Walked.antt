-- A walk pairs each name of a declarator among members with itself.
use Rattle.std.proofs.Common.{◌≡◌, ℕ, Bool, true, false, ◌||◌, List, [], ◌∷◌, ◌++◌, drop, get_or, inl, inr, refl, sym, ap, subst, ◌∙◌, append_assoc, append-nil}
use Rattle.std.specs.Prelude.{Option, Some, None, if◌then◌else◌}
use Rattle.std.specs.List.{AllZip}
use Rattle.c_text.specs.Token.{PlainToken}
use Rattle.c_tree.specs.declared.kinds.Kind.{Kind}
use Rattle.c_tree.specs.declared.kinds.Kind.TheVariants as k
use Rattle.c_tree.specs.Trees.{PlainTrees, leaf, node, none, more, all_written, spelled}
use Rattle.bindings.specs.Visible.{NameSpace, ordinary, tags as tag_space, members_of}
use Rattle.bindings.specs.Bindings.{is_name}
use Rattle.scope_readings.specs.Scopes.{Pairing, Scopes, this, or_own, passed, paired, used, tagged, Scope, file_scope, block_scope, members, named, shown, starting}
use Rattle.scope_readings.specs.Walks.{Role, ordinary_use, member_use, tag, declared_name, role, turns, declaration_in, scope_of, may_declare, ends_scope, leave_if, walk_name, walk_parts, walk_unit}
use Rattle.occurrence_names.proofs.Kept.{In}
use Rattle.read_occurrences.proofs.OneByOne.{in_left}
use Rattle.name_spaces.specs.Spaces.{space_in, space_by, struct_in, spaces_in_parts, spaces_of}

in_last : {X : Type 0} (x : X) (xs : List X) → In x (xs ++ x ∷ [])
in_last x [] = inl refl
in_last x (y ∷ xs) = inr (in_last x xs)

-- ---- the numbers of names

-- those of the tokens behind the parts of a node, where these are those from its first part on
abbrev behind_parts : PlainTrees → List ℕ → List ℕ
behind_parts none numbers = numbers
behind_parts (more (leaf token) rest) numbers = behind_parts rest (drop 1 numbers)
behind_parts (more (node kind parts) rest) numbers = behind_parts rest (behind_parts parts numbers)

abbrev names_of_parts : PlainTrees → List ℕ → List ℕ
names_of_parts none numbers = []
names_of_parts (more (leaf token) rest) numbers =
    if is_name token then get_or numbers 0 0 ∷ names_of_parts rest (drop 1 numbers) else names_of_parts rest (drop 1 numbers)
names_of_parts (more (node kind parts) rest) numbers = names_of_parts parts numbers ++ names_of_parts rest (behind_parts parts numbers)

-- ---- a walk

abbrev pub IsMember : Option NameSpace → Type 0
IsMember (Some (members_of struct)) = Unit {0}
IsMember other = ⊥

abbrev pub own : ℕ → Pairing
own number = record { number = number; declared_by = Some number }

abbrev pub Owns : List Pairing → ℕ → Option NameSpace → Type 0
Owns found number space = IsMember space → In (own number) found

record Walked (spaces : List (Option NameSpace)) (names numbers : List ℕ) (s t : Scopes) : Type 0 where
  coming : t.coming ≡ numbers
  grows : (p : Pairing) → In p s.found → In p t.found
  owns : AllZip (Owns t.found) names spaces

later_owns :
    (found further : List Pairing) (names : List ℕ) (spaces : List (Option NameSpace)) → ((p : Pairing) → In p found → In p further) → AllZip (Owns found) names spaces
    → AllZip (Owns further) names spaces
later_owns found further [] [] g h = tt
later_owns found further [] (s ∷ spaces) g h = absurd h
later_owns found further (n ∷ names) [] g h = absurd h
later_owns found further (n ∷ names) (s ∷ spaces) g h = ((λ is. g (own n) (h.0 is)), later_owns found further names spaces g h.1)

both_own :
    (found : List Pairing) (names others : List ℕ) (spaces more_spaces : List (Option NameSpace)) → AllZip (Owns found) names spaces → AllZip (Owns found) others more_spaces
    → AllZip (Owns found) (names ++ others) (spaces ++ more_spaces)
both_own found [] others [] more_spaces f g = g
both_own found [] others (s ∷ spaces) more_spaces f g = absurd f
both_own found (n ∷ names) others [] more_spaces f g = absurd f
both_own found (n ∷ names) others (s ∷ spaces) more_spaces f g = (f.0, both_own found names others spaces more_spaces f.1 g)

left_coming : (b : Bool) (s t : Scopes) → (leave_if b s t).coming ≡ t.coming
left_coming true s t = refl
left_coming false s t = refl

left_found : (b : Bool) (s t : Scopes) → (leave_if b s t).found ≡ t.found
left_found true s t = refl
left_found false s t = refl

-- one name, behind which the scopes are so
abbrev NameWalks : (Scopes → Scopes) → List (Option NameSpace) → List ℕ → List ℕ → List ℕ → Type 0
NameWalks behind spaces names before numbers =
    (s : Scopes) → s.coming ≡ drop 1 before → Walked spaces names numbers s (behind s)

unowned :
    (space : Option NameSpace) → (IsMember space → ⊥) → (behind : Scopes → Scopes) (spaces : List (Option NameSpace)) (names before numbers : List ℕ) (s u : Scopes)
    → u.coming ≡ drop 1 before → ((p : Pairing) → In p s.found → In p u.found) → NameWalks behind spaces names before numbers
    → Walked (space ∷ spaces) (get_or before 0 0 ∷ names) numbers s (behind u)
unowned space none_ behind spaces names before numbers s u e g h =
    let w = h u e in record { coming = w.coming; grows = λ p i. w.grows p (g p i); owns = ((λ is. absurd (none_ is)), w.owns) }

next_coming : (s : Scopes) (before : List ℕ) → s.coming ≡ before → drop 1 s.coming ≡ drop 1 before
next_coming s before e = ap (drop 1) e

scope_walks :
    (scope : Scope) (struct : List ℕ) (text : List ℕ) (behind : Scopes → Scopes) (spaces : List (Option NameSpace)) (names before numbers : List ℕ) (s : Scopes) → s.coming ≡ before
    → NameWalks behind spaces names before numbers
    → Walked (space_in struct scope ∷ spaces) (get_or before 0 0 ∷ names) numbers s (shown scope text (this s) (behind (named scope text s)))
scope_walks file_scope struct text behind spaces names before numbers s e h =
    let w = unowned (Some ordinary) absurd behind spaces names before numbers s (paired (Some (or_own (s.file text) (this s))) s) (next_coming s before e) (λ p i. in_left p s.found _ i) h in
    record { coming = w.coming; grows = w.grows; owns = w.owns }
scope_walks block_scope struct text behind spaces names before numbers s e h =
    let w = unowned None absurd behind spaces names before numbers s (paired (Some (this s)) s) (next_coming s before e) (λ p i. in_left p s.found _ i) h in
    record { coming = w.coming; grows = w.grows; owns = w.owns }
scope_walks members struct text behind spaces names before numbers s e h =
    let w = h (paired (Some (this s)) s) (next_coming s before e) in
    let same : this s ≡ get_or before 0 0 = ap (λ (l : List ℕ). get_or l 0 0) e in
    record {
      coming = w.coming;
      grows = λ p i. w.grows p (in_left p s.found _ i);
      owns = ((λ is. w.grows (own (get_or before 0 0)) (subst (λ (n : ℕ). In (own n) (s.found ++ own (this s) ∷ [])) same (in_last (own (this s)) s.found))), w.owns);
    }

tag_walks :
    (may : Bool) (text : List ℕ) (behind : Scopes → Scopes) (spaces : List (Option NameSpace)) (names before numbers : List ℕ) (s : Scopes) → s.coming ≡ before
    → NameWalks behind spaces names before numbers → Walked (Some tag_space ∷ spaces) (get_or before 0 0 ∷ names) numbers s (behind (tagged may text s))
tag_walks true text behind spaces names before numbers s e h =
    unowned (Some tag_space) absurd behind spaces names before numbers s (tagged true text s) (next_coming s before e) (λ p i. in_left p s.found _ i) h
tag_walks false text behind spaces names before numbers s e h =
    unowned (Some tag_space) absurd behind spaces names before numbers s (tagged false text s) (next_coming s before e) (λ p i. in_left p s.found _ i) h

name_walks :
    (around : Kind) (struct : List ℕ) (r : Role) (token : PlainToken) (behind : Scopes → Scopes) (spaces : List (Option NameSpace)) (names before numbers : List ℕ) (s : Scopes) → s.coming ≡ before
    → NameWalks behind spaces names before numbers → Walked (space_by around struct r ∷ spaces) (get_or before 0 0 ∷ names) numbers s (walk_name around r token behind s)
name_walks around struct ordinary_use token behind spaces names before numbers s e h =
    unowned None absurd behind spaces names before numbers s (used token.text s) (next_coming s before e) (λ p i. in_left p s.found _ i) h
name_walks around struct member_use token behind spaces names before numbers s e h =
    unowned None absurd behind spaces names before numbers s (passed s) (next_coming s before e) (λ p i. i) h
name_walks around struct tag token behind spaces names before numbers s e h = tag_walks (may_declare around) token.text behind spaces names before numbers s e h
name_walks around struct declared_name token behind spaces names before numbers s e h = scope_walks (scope_of around) struct token.text behind spaces names before numbers s e h

parts_walked :
    (parts : PlainTrees) (around : Kind) (struct : List ℕ) (kind : Kind) (turned : Bool) (before : List ℕ) (s : Scopes) → s.coming ≡ before
    → Walked (spaces_in_parts around struct kind turned parts) (names_of_parts parts before) (behind_parts parts before) s (walk_parts around kind turned parts s)
parts_walked none around struct kind turned before s e = record { coming = e; grows = λ p i. i; owns = tt }
parts_walked (more (node inner parts) rest) around struct kind turned before s e =
    let ends : Bool = ends_scope around inner in
    let u : Scopes = walk_parts (declaration_in around inner) inner false parts s in
    let t : Scopes = leave_if ends s u in
    let first = parts_walked parts (declaration_in around inner) (struct_in struct inner parts) inner false before s e in
    let found_ : t.found ≡ u.found = left_found ends s u in
    let later = parts_walked rest around struct kind turned (behind_parts parts before) t (left_coming ends s u ∙ first.coming) in
    let last : List Pairing = (walk_parts around kind turned rest t).found in
    let grown : (p : Pairing) → In p u.found → In p last = λ p i. later.grows p (subst (In p) (sym found_) i) in
    record {
      coming = later.coming;
      grows = λ p i. grown p (first.grows p i);
      owns = both_own last (names_of_parts parts before) (names_of_parts rest (behind_parts parts before)) (spaces_in_parts (declaration_in around inner) (struct_in struct inner parts) inner false parts)
          (spaces_in_parts around struct kind turned rest)
          (later_owns u.found last (names_of_parts parts before) (spaces_in_parts (declaration_in around inner) (struct_in struct inner parts) inner false parts) grown first.owns) later.owns;
    }
parts_walked (more (leaf token) rest) around struct kind turned before s e =
    by (is_name token) (λ later u f. parts_walked rest around struct kind later (drop 1 before) u f)
  where
    by :
        (b : Bool)
        → ((later : Bool) (u : Scopes) → u.coming ≡ drop 1 before
        → Walked (spaces_in_parts around struct kind later rest) (names_of_parts rest (drop 1 before)) (behind_parts rest (drop 1 before)) u (walk_parts around kind later rest u))
        → Walked (if b then space_by around struct (role kind turned) ∷ spaces_in_parts around struct kind turned rest else spaces_in_parts around struct kind (turned || turns kind token) rest)
        (if b then get_or before 0 0 ∷ names_of_parts rest (drop 1 before) else names_of_parts rest (drop 1 before)) (behind_parts rest (drop 1 before)) s
        (if b then walk_name around (role kind turned) token (λ after. walk_parts around kind turned rest after) s else walk_parts around kind (turned || turns kind token) rest (passed s))
    by true h =
        name_walks around struct (role kind turned) token (λ after. walk_parts around kind turned rest after) (spaces_in_parts around struct kind turned rest) (names_of_parts rest (drop 1 before)) before
        (behind_parts rest (drop 1 before)) s e (λ u f. h turned u f)
    by false h =
        let w = h (turned || turns kind token) (passed s) (next_coming s before e) in record { coming = w.coming; grows = w.grows; owns = w.owns }

-- ---- a unit

unit_walked : (numbers : List ℕ) (kind : Kind) (parts : PlainTrees) → AllZip (Owns (walk_unit numbers (node kind parts)).found) (names_of_parts parts numbers) (spaces_of (node kind parts))
unit_walked numbers kind parts =
    let s : Scopes = starting numbers in
    let u : Scopes = walk_parts (declaration_in k.Unit kind) kind false parts s in
    let w = parts_walked parts (declaration_in k.Unit kind) (struct_in [] kind parts) kind false numbers s refl in
    subst (λ (found : List Pairing). AllZip (Owns found) (names_of_parts parts numbers) (spaces_of (node kind parts))) (sym (left_found (ends_scope k.Unit kind) s u)) w.owns

-- the same names among the tokens
abbrev pub token_names : List PlainToken → List ℕ → List ℕ
token_names [] numbers = []
token_names (token ∷ rest) numbers = if is_name token then get_or numbers 0 0 ∷ token_names rest (drop 1 numbers) else token_names rest (drop 1 numbers)

parts_named : (parts : PlainTrees) (behind : List PlainToken) (numbers : List ℕ) → token_names (all_written parts behind) numbers ≡ names_of_parts parts numbers ++ token_names behind (behind_parts parts numbers)
parts_named none behind numbers = refl
parts_named (more (leaf token) rest) behind numbers = by (is_name token) (parts_named rest behind (drop 1 numbers))
  where
    by :
        (b : Bool) → token_names (all_written rest behind) (drop 1 numbers) ≡ names_of_parts rest (drop 1 numbers) ++ token_names behind (behind_parts rest (drop 1 numbers))
        → (if b then get_or numbers 0 0 ∷ token_names (all_written rest behind) (drop 1 numbers) else token_names (all_written rest behind) (drop 1 numbers))
        ≡ (if b then get_or numbers 0 0 ∷ names_of_parts rest (drop 1 numbers) else names_of_parts rest (drop 1 numbers)) ++ token_names behind (behind_parts rest (drop 1 numbers))
    by true e = ap (λ l. get_or numbers 0 0 ∷ l) e
    by false e = e
parts_named (more (node kind parts) rest) behind numbers =
    parts_named parts (all_written rest behind) numbers
    ∙ ap (λ l. names_of_parts parts numbers ++ l) (parts_named rest behind (behind_parts parts numbers))
    ∙ sym (append_assoc (names_of_parts parts numbers) (names_of_parts rest (behind_parts parts numbers)) (token_names behind (behind_parts rest (behind_parts parts numbers))))

pub unit_own : (numbers : List ℕ) (kind : Kind) (parts : PlainTrees) → AllZip (Owns (walk_unit numbers (node kind parts)).found) (token_names (spelled (node kind parts)) numbers) (spaces_of (node kind parts))
unit_own numbers kind parts =
    subst (λ (l : List ℕ). AllZip (Owns (walk_unit numbers (node kind parts)).found) l (spaces_of (node kind parts)))
    (sym (parts_named parts [] numbers ∙ append-nil (names_of_parts parts numbers))) (unit_walked numbers kind parts)
