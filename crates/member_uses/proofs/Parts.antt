-- Judged parts, one after the other: each binds as many identifiers as it has, so their uses follow one another too.
use Rattle.std.proofs.Common.{◌≡◌, ℕ, false, List, [], ◌∷◌, ◌++◌, refl, sym, ap, subst, ◌∙◌, length, append_assoc, append-nil}
use Rattle.std.specs.Prelude.{filter, Option, Some, None, if◌then◌else◌}
use Rattle.std.proofs.lemmas.List.Elements.{filter-append}
use Rattle.c_text.specs.Token.{PlainToken}
use Rattle.c_tree.specs.declared.kinds.Kind.{Kind}
use Rattle.c_tree.specs.Trees.{PlainTree, PlainTrees, leaf, node, none, more, written, all_written, spelled}
use Rattle.core_meaning.specs.Checking.{Binding, Checked, fine, refused, broken, with_bindings, ◌>>=◌, give}
use Rattle.bindings.specs.Bindings.{is_name}
use Rattle.selections.proofs.Judgings.{IsQuiet}
use Rattle.member_uses.specs.Uses.{Use, names_in, names_among, using, structure_used, structures_used, structures_in}

-- ---- as many of the ones as of the others

abbrev pub AsMany : {A B : Type 0} → List A → List B → Type 0
AsMany [] [] = Unit {0}
AsMany [] (y ∷ ys) = ⊥
AsMany (x ∷ xs) [] = ⊥
AsMany (x ∷ xs) (y ∷ ys) = AsMany xs ys

pub as_many : {A B : Type 0} (xs : List A) (ys : List B) → length xs ≡ length ys → AsMany xs ys
as_many [] [] e = tt
as_many [] (y ∷ ys) e = absurd cc
as_many (x ∷ xs) [] e = absurd cc
as_many (x ∷ xs) (y ∷ ys) e = as_many xs ys cc

both_as_many : {A B : Type 0} (xs zs : List A) (ys ws : List B) → AsMany xs ys → AsMany zs ws → AsMany (xs ++ zs) (ys ++ ws)
both_as_many [] zs [] ws h g = g
both_as_many [] zs (y ∷ ys) ws h g = absurd h
both_as_many (x ∷ xs) zs [] ws h g = absurd h
both_as_many (x ∷ xs) zs (y ∷ ys) ws h g = both_as_many xs zs ys ws h g

-- ---- the identifiers of parts

mutual
  -- what a tree spells stands before what is behind it
  pub spelled_first : (tree : PlainTree) (behind : List PlainToken) → written tree behind ≡ spelled tree ++ behind
  spelled_first (leaf token) behind = refl
  spelled_first (node kind parts) behind = all_spelled parts behind

  all_spelled : (parts : PlainTrees) (behind : List PlainToken) → all_written parts behind ≡ all_written parts [] ++ behind
  all_spelled none behind = refl
  all_spelled (more tree rest) behind =
      spelled_first tree (all_written rest behind)
      ∙ (ap (λ l. spelled tree ++ l) (all_spelled rest behind)
      ∙ (sym (append_assoc (spelled tree) (all_written rest []) behind) ∙ ap (λ l. l ++ behind) (sym (spelled_first tree (all_written rest [])))))

all_names : (parts : PlainTrees) → filter is_name (all_written parts []) ≡ names_among parts
all_names none = refl
all_names (more tree rest) =
    ap (filter is_name) (spelled_first tree (all_written rest []))
    ∙ (filter-append is_name (spelled tree) (all_written rest []) ∙ ap (λ l. names_in tree ++ l) (all_names rest))

pub names_of_node : (kind : Kind) (parts : PlainTrees) → names_in (node kind parts) ≡ names_among parts
names_of_node kind parts = all_names parts

-- a word is no identifier
pub word_names : (token : PlainToken) (rest : PlainTrees) → is_name token ≡ false → names_among (more (leaf token) rest) ≡ names_among rest
word_names token rest e = ap (λ b. (if b then token ∷ [] else []) ++ names_among rest) e

-- what comes of a judgement that binds nothing
abbrev pub Quietly : {A : Type 0} → (A → Type 0) → Checked A → Type 0
Quietly P (fine x []) = P x
Quietly P (fine x (j ∷ js)) = ⊥
Quietly P (refused kind token) = Unit {0}
Quietly P broken = Unit {0}

module _ (by : ℕ → ℕ) where
  -- ---- uses of parts

  split : (names others : List PlainToken) (js ks : List Binding) → AsMany js names
      → using (names ++ others) (structures_used by (js ++ ks)) ≡ using names (structures_used by js) ++ using others (structures_used by ks)
  split [] others [] ks h = refl
  split [] others (j ∷ js) ks h = absurd h
  split (token ∷ names) others [] ks h = absurd h
  split (token ∷ names) others (j ∷ js) ks h = one (structure_used by j) (split names others js ks h)
    where
      one : (o : Option ℕ) → using (names ++ others) (structures_used by (js ++ ks)) ≡ using names (structures_used by js) ++ using others (structures_used by ks)
          → using (token ∷ (names ++ others)) (o ∷ structures_used by (js ++ ks)) ≡ using (token ∷ names) (o ∷ structures_used by js) ++ using others (structures_used by ks)
      one None e = e
      one (Some n) e = ap (λ l. record { token = token; structure = n } ∷ l) e

  -- a judged part with these identifiers: what is said of its result and of its uses
  abbrev pub Part : {A : Type 0} → (A → List Use → Type 0) → Checked A → List PlainToken → Type 0
  Part T (fine x js) names = AsMany js names × T x (using names (structures_used by js))
  Part T (refused kind token) names = Unit {0}
  Part T broken names = Unit {0}

  part_behind : {B : Type 0} (S : B → List Use → Type 0) (names others : List PlainToken) (js : List Binding) (m : Checked B) → AsMany js names
      → Part (λ y v. S y (using names (structures_used by js) ++ v)) m others → Part S (with_bindings js m) (names ++ others)
  part_behind S names others js (fine y ks) h g = (both_as_many js ks names others h g.0, subst (S y) (sym (split names others js ks h)) g.1)
  part_behind S names others js (refused kind token) h g = tt
  part_behind S names others js broken h g = tt

  pub part_then : {A B : Type 0} (T : A → List Use → Type 0) (S : B → List Use → Type 0) (names others : List PlainToken) (m : Checked A) (n : A → Checked B) → Part T m names
      → ((x : A) (u : List Use) → T x u → Part (λ y v. S y (u ++ v)) (n x) others) → Part S (m >>= n) (names ++ others)
  part_then T S names others (fine x js) n h g = part_behind S names others js (n x) h.0 (g x (using names (structures_used by js)) h.1)
  part_then T S names others (refused kind token) n h g = tt
  part_then T S names others broken n h g = tt

  -- what is judged binds nothing, before or behind
  pub alone : {B : Type 0} (S : B → List Use → Type 0) (others : List PlainToken) (m : Checked B) → Part S m others → Part S (with_bindings [] m) others
  alone S others (fine y ks) h = h
  alone S others (refused kind token) h = tt
  alone S others broken h = tt

  pub quiet_then : {A B : Type 0} (S : B → List Use → Type 0) (others : List PlainToken) (m : Checked A) (n : A → Checked B) → IsQuiet m → ((x : A) → Part S (n x) others) → Part S (m >>= n) others
  quiet_then S others (fine x []) n h g = alone S others (n x) (g x)
  quiet_then S others (fine x (b ∷ bindings)) n h g = absurd h.all.0
  quiet_then S others (refused kind token) n h g = tt
  quiet_then S others broken n h g = tt

  still : {B : Type 0} (R : List Use → Type 0) (names : List PlainToken) (js : List Binding) (m : Checked B) → AsMany js names → R (using names (structures_used by js)) → IsQuiet m
      → Part (λ y. R) (with_bindings js m) names
  still R names js (fine y []) h r q = (subst (λ l. AsMany l names) (sym (append-nil js)) h, subst (λ l. R (using names (structures_used by l))) (sym (append-nil js)) r)
  still R names js (fine y (k ∷ ks)) h r q = absurd q.all.0
  still R names js (refused kind token) h r q = tt
  still R names js broken h r q = tt

  pub then_quiet : {A B : Type 0} (R : List Use → Type 0) (names : List PlainToken) (m : Checked A) (n : A → Checked B) → Part (λ x. R) m names → ((x : A) → IsQuiet (n x)) → Part (λ y. R) (m >>= n) names
  then_quiet R names (fine x js) n h q = still R names js (n x) h.0 h.1 (q x)
  then_quiet R names (refused kind token) n h q = tt
  then_quiet R names broken n h q = tt

  pub then_give : {A B : Type 0} (T : A → List Use → Type 0) (S : B → List Use → Type 0) (names : List PlainToken) (m : Checked A) (f : A → B) → Part T m names
      → ((x : A) (u : List Use) → T x u → S (f x) u) → Part S (m >>= (λ x. give (f x))) names
  then_give T S names (fine x js) f h g =
      (subst (λ l. AsMany l names) (sym (append-nil js)) h.0, subst (λ l. S (f x) (using names (structures_used by l))) (sym (append-nil js)) (g x (using names (structures_used by js)) h.1))
  then_give T S names (refused kind token) f h g = tt
  then_give T S names broken f h g = tt

  pub part_as : {A : Type 0} (T S : A → List Use → Type 0) (names : List PlainToken) (m : Checked A) → Part T m names → ((x : A) (u : List Use) → T x u → S x u) → Part S m names
  part_as T S names (fine x js) h g = (h.0, g x (using names (structures_used by js)) h.1)
  part_as T S names (refused kind token) h g = tt
  part_as T S names broken h g = tt

  -- a part that uses nothing, and what comes then
  pub none_then : {A B : Type 0} (S : B → List Use → Type 0) (names others : List PlainToken) (m : Checked A) (n : A → Checked B) → Part (λ x u. u ≡ []) m names
      → ((x : A) → Part S (n x) others) → Part S (m >>= n) (names ++ others)
  none_then S names others m n h g = part_then (λ x u. u ≡ []) S names others m n h (λ x u e. subst (λ l. Part (λ y v. S y (l ++ v)) (n x) others) (sym e) (g x))

  -- the same, where it is known what the first comes to
  pub known_then : {A B : Type 0} (T : A → List Use → Type 0) (S : B → List Use → Type 0) (names others : List PlainToken) (m : Checked A) (n : A → Checked B) → Part T m names
      → ((x : A) (js : List Binding) → m ≡ fine x js → T x (using names (structures_used by js)) → Part (λ y v. S y (using names (structures_used by js) ++ v)) (n x) others)
      → Part S (m >>= n) (names ++ others)
  known_then T S names others (fine x js) n h g = part_behind S names others js (n x) h.0 (g x js refl h.1)
  known_then T S names others (refused kind token) n h g = tt
  known_then T S names others broken n h g = tt

  -- a part of which a result is made
  pub made_of_it : {A B : Type 0} (S : B → List Use → Type 0) (names : List PlainToken) (m : Checked A) (f : A → B) → Part S (m >>= (λ x. give (f x))) names → Part (λ x u. S (f x) u) m names
  made_of_it S names (fine x js) f h = (subst (λ l. AsMany l names) (append-nil js) h.0, subst (λ l. S (f x) (using names (structures_used by l))) (append-nil js) h.1)
  made_of_it S names (refused kind token) f h = tt
  made_of_it S names broken f h = tt

  -- a part is used as it is judged
  pub itself : {A : Type 0} (P : A → Type 0) (names : List PlainToken) (m : Checked A) → Part (λ x u. P x) m names → Part (λ x u. P x × (u ≡ using names (structures_in by m))) m names
  itself P names (fine x js) h = (h.0, (h.1, refl))
  itself P names (refused kind token) h = tt
  itself P names broken h = tt

  pub quietly_then : {A B : Type 0} (P : A → Type 0) (S : B → List Use → Type 0) (others : List PlainToken) (m : Checked A) (n : A → Checked B) → Quietly P m
      → ((x : A) → P x → m ≡ fine x [] → Part S (n x) others) → Part S (m >>= n) others
  quietly_then P S others (fine x []) n h g = alone S others (n x) (g x h refl)
  quietly_then P S others (fine x (j ∷ js)) n h g = absurd h
  quietly_then P S others (refused kind token) n h g = tt
  quietly_then P S others broken n h g = tt

  ends_quietly : {B : Type 0} (S : B → List Use → Type 0) (names : List PlainToken) (js : List Binding) (m : Checked B) → AsMany js names → Quietly (λ y. S y (using names (structures_used by js))) m → Part S (with_bindings js m) names
  ends_quietly S names js (fine y []) h q = (subst (λ l. AsMany l names) (sym (append-nil js)) h, subst (λ l. S y (using names (structures_used by l))) (sym (append-nil js)) q)
  ends_quietly S names js (fine y (k ∷ ks)) h q = absurd q
  ends_quietly S names js (refused kind token) h q = tt
  ends_quietly S names js broken h q = tt

  pub then_quietly : {A B : Type 0} (T : A → List Use → Type 0) (S : B → List Use → Type 0) (names : List PlainToken) (m : Checked A) (n : A → Checked B) → Part T m names
      → ((x : A) (u : List Use) → T x u → Quietly (λ y. S y u) (n x)) → Part S (m >>= n) names
  then_quietly T S names (fine x js) n h q = ends_quietly S names js (n x) h.0 (q x (using names (structures_used by js)) h.1)
  then_quietly T S names (refused kind token) n h q = tt
  then_quietly T S names broken n h q = tt
