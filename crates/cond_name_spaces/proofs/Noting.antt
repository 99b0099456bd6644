-- Names that are noted one behind the other.
use Rattle.std.proofs.Common.{◌≡◌, ℕ, Bool, true, false, not, ◌&&◌, List, [], ◌∷◌, ◌++◌, Option, Some, None, IsTrue, refl, sym, ap, ◌∙◌, append_assoc, append-nil}
use Rattle.std.specs.Prelude.{if◌then◌else◌}
use Rattle.c_text.specs.Token.{PlainToken}
use Rattle.cond_formula.specs.Conditions.{condition_of, value}
use Rattle.conditional.specs.declared.entries.Guarded.{Guarded}
use Rattle.conditional.specs.Entries.{seen, entries_of, under}
use Rattle.choice_trees.specs.Leaves.{Leaf}
use Rattle.bindings.specs.Visible.{NameSpace, members_of}
use Rattle.bindings.specs.Bindings.{is_name}
use Rattle.cond_name_spaces.specs.declared.entries.Tag.{Tag}
use Rattle.cond_name_spaces.specs.Spaced.{InSpace, numbered, names_among, spaced}
use Rattle.cond_name_spaces.specs.Progress.{plain_tag, one_name, member_by, Logs}

-- ---- members

member_next :
    (name : Leaf) (t : Bool) (tag : List ℕ) (tags : List (List ℕ)) (members : List InSpace)
    → ((one : List ℕ) → tags ≡ one ∷ [] → members ≡ one_name name (Some (members_of one))) → (tags ≡ [] → members ≡ [])
    → (one : List ℕ) → (if t then tag ∷ tags else tags) ≡ one ∷ [] → (if t then record { name = name; space = members_of tag } ∷ members else members) ≡ one_name name (Some (members_of one))
member_next name true tag [] members later none one is =
    ap (λ (rest : List InSpace). record { name = name; space = members_of tag } ∷ rest) (none refl) ∙ ap (λ o. one_name name (Some (members_of o))) cc
member_next name true tag (other ∷ tags) members later none one is = absurd cc
member_next name false tag tags members later none one is = later one is

none_next :
    (name : Leaf) (t : Bool) (tag : List ℕ) (tags : List (List ℕ)) (members : List InSpace) → (tags ≡ [] → members ≡ [])
    → (if t then tag ∷ tags else tags) ≡ [] → (if t then record { name = name; space = members_of tag } ∷ members else members) ≡ []
none_next name true tag tags members later is = absurd cc
none_next name false tag tags members later is = later is

no_member : (on : ℕ → Bool) (name : Leaf) (tags : List (Guarded Tag)) → seen on (entries_of plain_tag tags) ≡ [] → seen on (entries_of (member_by name) tags) ≡ []
no_member on name [] is = refl
no_member on name (first ∷ tags) is =
    none_next name (value on (condition_of first.when)) (plain_tag first.what) (seen on (entries_of plain_tag tags)) (seen on (entries_of (member_by name) tags)) (no_member on name tags) is

-- where one tag is there, a member of its struct is noted
pub one_member :
    (on : ℕ → Bool) (name : Leaf) (tags : List (Guarded Tag)) (tag : List ℕ) → seen on (entries_of plain_tag tags) ≡ tag ∷ []
    → seen on (entries_of (member_by name) tags) ≡ one_name name (Some (members_of tag))
one_member on name [] tag is = absurd (cc is)
one_member on name (first ∷ tags) tag is =
    member_next name (value on (condition_of first.when)) (plain_tag first.what) (seen on (entries_of plain_tag tags)) (seen on (entries_of (member_by name) tags))
    (λ one one_is. one_member on name tags one one_is) (no_member on name tags) tag is

-- ---- a name, before and behind a token that turns what names are

pub nothing_under : (t : Bool) → ◌≡◌ {A = List InSpace} [] (under t [])
nothing_under true = refl
nothing_under false = refl

pub name_by :
    (w t : Bool) (before behind : Bool) (by : Bool → List InSpace) (old mid new : List InSpace) → before ≡ (w && not t) → behind ≡ (w && t)
    → mid ≡ old ++ under before (by false) → new ≡ mid ++ under behind (by true) → new ≡ old ++ under w (by t)
name_by w t before behind by old mid new before_is behind_is first second =
    by_tests w t (first ∙ ap (λ b. old ++ under b (by false)) before_is) (second ∙ ap (λ b. mid ++ under b (by true)) behind_is)
  where
    by_tests : (w t : Bool) → mid ≡ old ++ under (w && not t) (by false) → new ≡ mid ++ under (w && t) (by true) → new ≡ old ++ under w (by t)
    by_tests true true first second = second ∙ ap (λ (l : List InSpace). l ++ by true) (first ∙ append-nil old)
    by_tests true false first second = second ∙ (append-nil mid ∙ first)
    by_tests false t first second = second ∙ (append-nil mid ∙ first)

-- ---- a token

named_here :
    (name : Leaf) (space : Option NameSpace) (names : List Leaf) (rest : List (Option NameSpace)) (old new : List InSpace) → new ≡ old ++ one_name name space
    → new ++ spaced names rest ≡ old ++ spaced (name ∷ names) (space ∷ rest)
named_here name None names rest old new is = ap (λ (l : List InSpace). l ++ spaced names rest) (is ∙ append-nil old)
named_here name (Some space) names rest old new is =
    ap (λ (l : List InSpace). l ++ spaced names rest) is ∙ append_assoc old (record { name = name; space = space } ∷ []) (spaced names rest)

abbrev pub behind_token : ℕ → PlainToken → List Leaf → List Leaf
behind_token number token behind = numbered number token ∷ behind

abbrev pub with_space : PlainToken → Option NameSpace → List (Option NameSpace) → List (Option NameSpace)
with_space token space rest = if is_name token then space ∷ rest else rest

-- a name
pub name_noted :
    (b : Bool) (number : ℕ) (token : PlainToken) (space : Option NameSpace) (old new : List InSpace) → is_name token ≡ true → new ≡ old ++ under b (one_name (numbered number token) space)
    → Logs b (behind_token number token) (with_space token space) old new
name_noted b number token space old new named is = record { here = here b is; elsewhere = elsewhere b is }
  where
    as_name : (behind : List Leaf) (rest : List (Option NameSpace))
        → spaced (numbered number token ∷ names_among behind) (space ∷ rest) ≡ spaced (names_among (behind_token number token behind)) (with_space token space rest)
    as_name behind rest = ap (λ n. spaced (if n then numbered number token ∷ names_among behind else names_among behind) (if n then space ∷ rest else rest)) (sym named)

    here : (b : Bool) → new ≡ old ++ under b (one_name (numbered number token) space) → IsTrue b → (behind : List Leaf) (rest : List (Option NameSpace))
        → new ++ spaced (names_among behind) rest ≡ old ++ spaced (names_among (behind_token number token behind)) (with_space token space rest)
    here true is h behind rest = named_here (numbered number token) space (names_among behind) rest old new is ∙ ap (λ (l : List InSpace). old ++ l) (as_name behind rest)
    here false is h behind rest = absurd cc

    elsewhere : (b : Bool) → new ≡ old ++ under b (one_name (numbered number token) space) → b ≡ false → new ≡ old
    elsewhere true is h = absurd cc
    elsewhere false is h = is ∙ append-nil old

-- a token that is none
pub none_noted :
    (b : Bool) (number : ℕ) (token : PlainToken) (space : Option NameSpace) (old : List InSpace) → is_name token ≡ false → Logs b (behind_token number token) (with_space token space) old old
none_noted b number token space old unnamed = record {
  here = λ h behind rest. ap (λ n. old ++ spaced (if n then numbered number token ∷ names_among behind else names_among behind) (if n then space ∷ rest else rest)) (sym unnamed);
  elsewhere = λ h. refl;
}

-- ---- with nothing before and behind

pub alone :
    (b : Bool) (leaves : List Leaf → List Leaf) (spaces : List (Option NameSpace)) (old new : List InSpace) → old ≡ [] → Logs b leaves (λ rest. spaces ++ rest) old new
    → new ≡ under b (spaced (names_among (leaves [])) spaces)
alone true leaves spaces old new nothing logs =
    sym (append-nil new) ∙ (logs.here refl [] [] ∙ ap (λ l. l ++ spaced (names_among (leaves [])) (spaces ++ [])) nothing ∙ ap (λ s. spaced (names_among (leaves [])) s) (append-nil spaces))
alone false leaves spaces old new nothing logs = logs.elsewhere refl ∙ nothing
