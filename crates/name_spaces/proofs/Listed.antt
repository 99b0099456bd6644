-- What a judgement binds is among the names of its tree, part by part.
use Rattle.std.proofs.Common.{◌≡◌, ℕ, ◌+◌, ◌≤◌, Bool, true, false, ◌||◌, List, [], ◌∷◌, ◌++◌, length, inl, refl, sym, ap, subst, ◌∙◌, append_assoc, append-nil, arith}
use Rattle.std.specs.Prelude.{Option, Some, None, if◌then◌else◌}
use Rattle.std.proofs.lemmas.List.{length-append}
use Rattle.std.proofs.lemmas.Option.{none-some, same_Some}
use Rattle.c_text.specs.Token.{PlainToken}
use Rattle.c_tree.specs.declared.kinds.Kind.{Kind}
use Rattle.c_tree.specs.declared.terminals.Terminal.{Terminal}
use Rattle.c_tree.specs.declared.terminals.Terminal.TheVariants as t
use Rattle.c_tree.specs.Terminals.{terminal, same}
use Rattle.c_tree.specs.Trees.{PlainTree, PlainTrees, leaf, node, none, more}
use Rattle.core_meaning.specs.declared.refusals.TypeKind.{TypeKind}
use Rattle.core_meaning.specs.Checking.{Entity, Binding, Checked, fine, refused, broken, with_bindings, ◌>>=◌, give, unless_so, or_broken, declares}
use Rattle.core_meaning.specs.Entities.{Table}
use Rattle.core_meaning.specs.Declarations.{name_in, behind_word}
use Rattle.bindings.specs.Visible.{NameSpace}
use Rattle.bindings.specs.Bindings.{is_name}
use Rattle.scope_readings.specs.Walks.{role, turns, declaration_in}
use Rattle.entity_numbers.proofs.Uses.{Binds}
use Rattle.entity_kinds.proofs.Pairs.{Never, none_bound, quiet_unless, NeverFine}
use Rattle.name_spaces.specs.Spaces.{space_by, spaces_in_parts, spaces_in_node, struct_in}
use Rattle.name_spaces.proofs.Embeddings.{Spaces, Declares, Embeds, embeds_past, embeds_both, embeds_before, used_embed}
use Rattle.name_spaces.proofs.Uses.{names, all_names, Uses}

-- ---- the names of a part

abbrev pub spaces_at : Kind → List ℕ → Kind → Bool → PlainTree → Spaces
spaces_at around struct kind turned (leaf token) = if is_name token then space_by around struct (role kind turned) ∷ [] else []
spaces_at around struct kind turned (node inner parts) = spaces_in_node around struct inner parts

pub record Part (around : Kind) (struct : List ℕ) (kind : Kind) (turned : Bool) (tree : PlainTree) (rest : PlainTrees) : Type 0 where
  pub later : Bool
  pub is : spaces_in_parts around struct kind turned (more tree rest) ≡ spaces_at around struct kind turned tree ++ spaces_in_parts around struct kind later rest

pub part_is : (around : Kind) (struct : List ℕ) (kind : Kind) (turned : Bool) (tree : PlainTree) (rest : PlainTrees) → Part around struct kind turned tree rest
part_is around struct kind turned (node inner parts) rest = record { later = turned; is = refl }
part_is around struct kind turned (leaf token) rest = by (is_name token) refl
  where
    by : (b : Bool) → is_name token ≡ b → Part around struct kind turned (leaf token) rest
    by true e = record {
      later = turned;
      is =
          ap (λ (b : Bool). if b then space_by around struct (role kind turned) ∷ spaces_in_parts around struct kind turned rest else spaces_in_parts around struct kind (turned || turns kind token) rest) e
          ∙ sym (ap (λ (b : Bool). (if b then space_by around struct (role kind turned) ∷ [] else []) ++ spaces_in_parts around struct kind turned rest) e);
    }
    by false e = record {
      later = turned || turns kind token;
      is =
          ap (λ (b : Bool). if b then space_by around struct (role kind turned) ∷ spaces_in_parts around struct kind turned rest else spaces_in_parts around struct kind (turned || turns kind token) rest) e
          ∙ sym (ap (λ (b : Bool). (if b then space_by around struct (role kind turned) ∷ [] else []) ++ spaces_in_parts around struct kind (turned || turns kind token) rest) e);
    }

mutual
  pub parts_count : (parts : PlainTrees) (around : Kind) (struct : List ℕ) (kind : Kind) (turned : Bool) → length (spaces_in_parts around struct kind turned parts) ≡ all_names parts
  parts_count none around struct kind turned = refl
  parts_count (more tree rest) around struct kind turned =
      let p = part_is around struct kind turned tree rest in
      ap length p.is ∙ length-append (spaces_at around struct kind turned tree) (spaces_in_parts around struct kind p.later rest)
      ∙ ap (λ n. n + length (spaces_in_parts around struct kind p.later rest)) (part_count tree around struct kind turned)
      ∙ ap (λ n. names tree + n) (parts_count rest around struct kind p.later)

  pub part_count : (tree : PlainTree) (around : Kind) (struct : List ℕ) (kind : Kind) (turned : Bool) → length (spaces_at around struct kind turned tree) ≡ names tree
  part_count (node inner parts) around struct kind turned =
      parts_count parts (declaration_in around inner) (struct_in struct inner parts) inner false
  part_count (leaf token) around struct kind turned = by (is_name token)
    where
      by : (b : Bool) → length (if b then space_by around struct (role kind turned) ∷ [] else []) ≡ (if b then 1 else 0)
      by true = refl
      by false = refl

-- ---- judgements

-- whatever the result is
abbrev pub Anything : {A : Type 0} → A → Type 0
Anything x = Unit {0}

abbrev ListedOf : {A : Type 0} → Table ℕ → (A → Type 0) → Spaces → Checked A → Type 0
ListedOf known P spaces (fine x js) = P x × Embeds known spaces js
ListedOf known P spaces (refused kind token) = Unit {0}
ListedOf known P spaces broken = Unit {0}

pub record Lists {A : Type 0} (known : Table ℕ) (P : A → Type 0) (spaces : Spaces) (c : Checked A) : Type 0 where
  pub listed : ListedOf known P spaces c

module _ (known : Table ℕ) where
  both_listed : {B : Type 0} (Q : B → Type 0) (spaces others : Spaces) (js : List Binding) (c : Checked B) → Embeds known spaces js → ListedOf known Q others c → ListedOf known Q (spaces ++ others) (with_bindings js c)
  both_listed Q spaces others js (fine y ks) f g = (g.0, embeds_both known spaces others js ks f g.1)
  both_listed Q spaces others js (refused kind token) f g = tt
  both_listed Q spaces others js broken f g = tt

  pub lists_then :
      {A B : Type 0} (P : A → Type 0) (Q : B → Type 0) (spaces others : Spaces) (c : Checked A) (f : A → Checked B) → Lists known P spaces c → ((x : A) → P x → Lists known Q others (f x))
      → Lists known Q (spaces ++ others) (c >>= f)
  lists_then P Q spaces others (fine x js) f h g = record { listed = both_listed Q spaces others js (f x) h.listed.1 (g x h.listed.0).listed }
  lists_then P Q spaces others (refused kind token) f h g = record { listed = tt }
  lists_then P Q spaces others broken f h g = record { listed = tt }

  pub lists_give : {A : Type 0} (P : A → Type 0) (spaces : Spaces) (x : A) → P x → Lists known P spaces (give x)
  lists_give P spaces x h = record { listed = (h, tt) }

  pub lists_past : {A : Type 0} (P : A → Type 0) (s : Option NameSpace) (spaces : Spaces) (c : Checked A) → Lists known P spaces c → Lists known P (s ∷ spaces) c
  lists_past P s spaces (fine x js) h = record { listed = (h.listed.0, embeds_past known s spaces js h.listed.1) }
  lists_past P s spaces (refused kind token) h = record { listed = tt }
  lists_past P s spaces broken h = record { listed = tt }

  pub lists_behind : {A : Type 0} (P : A → Type 0) (before spaces : Spaces) (c : Checked A) → Lists known P spaces c → Lists known P (before ++ spaces) c
  lists_behind P [] spaces c h = h
  lists_behind P (s ∷ before) spaces c h = lists_past P s (before ++ spaces) c (lists_behind P before spaces c h)

  pub lists_before : {A : Type 0} (P : A → Type 0) (spaces behind : Spaces) (c : Checked A) → Lists known P spaces c → Lists known P (spaces ++ behind) c
  lists_before P spaces behind (fine x js) h = record { listed = (h.listed.0, embeds_before known spaces behind js h.listed.1) }
  lists_before P spaces behind (refused kind token) h = record { listed = tt }
  lists_before P spaces behind broken h = record { listed = tt }

  -- one that binds nothing last
  pub lists_last :
      {A B : Type 0} (P : A → Type 0) (Q : B → Type 0) (spaces : Spaces) (c : Checked A) (f : A → Checked B) → Lists known P spaces c → ((x : A) → P x → Lists known Q [] (f x)) → Lists known Q spaces (c >>= f)
  lists_last P Q spaces c f h g = subst (λ (l : Spaces). Lists known Q l (c >>= f)) (append-nil spaces) (lists_then P Q spaces [] c f h g)

  pub lists_never : {A : Type 0} (P : A → Type 0) (spaces : Spaces) (c : Checked A) → NeverFine c → Lists known P spaces c
  lists_never P spaces (fine x js) h = absurd h
  lists_never P spaces (refused kind token) h = record { listed = tt }
  lists_never P spaces broken h = record { listed = tt }

  pub lists_if : {A : Type 0} (P : A → Type 0) (spaces : Spaces) (b : Bool) (c d : Checked A) → Lists known P spaces c → Lists known P spaces d → Lists known P spaces (if b then c else d)
  lists_if P spaces true c d f g = f
  lists_if P spaces false c d f g = g

  -- the result holds of what it is before, too
  pub lists_as : {A : Type 0} (P Q : A → Type 0) (spaces : Spaces) (c : Checked A) → Lists known P spaces c → ((x : A) → P x → Q x) → Lists known Q spaces c
  lists_as P Q spaces (fine x js) h f = record { listed = (f x h.listed.0, h.listed.1) }
  lists_as P Q spaces (refused kind token) h f = record { listed = tt }
  lists_as P Q spaces broken h f = record { listed = tt }

  quiet_lists : {A : Type 0} (c : Checked A) → Binds Never c → Lists known (Anything {A = A}) [] c
  quiet_lists (fine x js) h = record { listed = (tt, subst (λ (l : List Binding). Embeds known [] l) (sym (none_bound js h.all)) tt) }
  quiet_lists (refused kind token) h = record { listed = tt }
  quiet_lists broken h = record { listed = tt }

  -- one that binds nothing first
  pub quiet_then : {A B : Type 0} (Q : B → Type 0) (spaces : Spaces) (c : Checked A) (f : A → Checked B) → Binds Never c → ((x : A) → Lists known Q spaces (f x)) → Lists known Q spaces (c >>= f)
  quiet_then Q spaces c f h g = lists_then Anything Q [] spaces c f (quiet_lists c h) (λ x y. g x)

  pub unless_then : {B : Type 0} (Q : B → Type 0) (spaces : Spaces) (b : Bool) (kind : TypeKind) (token : PlainToken) (f : Unit {0} → Checked B) → ((x : Unit {0}) → Lists known Q spaces (f x)) → Lists known Q spaces (unless_so b kind token >>= f)
  unless_then Q spaces b kind token f g = quiet_then Q spaces (unless_so b kind token) f (quiet_unless b kind token) g

  -- one whose result is known
  pub some_then : {A B : Type 0} (Q : B → Type 0) (spaces : Spaces) (o : Option A) (f : A → Checked B) → ((x : A) → o ≡ Some x → Lists known Q spaces (f x)) → Lists known Q spaces (or_broken o >>= f)
  some_then Q spaces (Some x) f g = lists_then (λ y. x ≡ y) Q [] spaces (give x) f (record { listed = (refl, tt) }) (λ y e. g y (ap Some e))
  some_then Q spaces None f g = record { listed = tt }

  -- an identifier that declares
  pub declares_then : {B : Type 0} (Q : B → Type 0) (s : Option NameSpace) (spaces : Spaces) (e : Entity) (f : Unit {0} → Checked B) → Declares known s e → ((x : Unit {0}) → Lists known Q spaces (f x)) → Lists known Q (s ∷ spaces) (declares e >>= f)
  declares_then Q s spaces e f d g =
      lists_then Anything Q (s ∷ []) spaces (declares e) f (record { listed = (tt, inl ((λ x. d), tt)) }) (λ x y. g x)

  -- ---- expressions

  pub lists_uses : {A : Type 0} (n : ℕ) (spaces : Spaces) (c : Checked A) → n ≤ length spaces → Uses n c → Lists known (Anything {A = A}) spaces c
  lists_uses n spaces (fine x js) less h = let short = h.used.1 in record { listed = (tt, used_embed known spaces js h.used.0 (omega (arith, short, less))) }
  lists_uses n spaces (refused kind token) less h = record { listed = tt }
  lists_uses n spaces broken less h = record { listed = tt }

  -- ---- parts of a node

  module _ (around : Kind) (struct : List ℕ) (kind : Kind) where
    pub part_uses : {A : Type 0} (turned : Bool) (tree : PlainTree) (c : Checked A) → Uses (names tree) c → Lists known (Anything {A = A}) (spaces_at around struct kind turned tree) c
    part_uses turned tree c h =
        let same_ = part_count tree around struct kind turned in lists_uses (names tree) (spaces_at around struct kind turned tree) c (omega (arith, same_)) h

    pub part_then :
        {A B : Type 0} (P : A → Type 0) (Q : B → Type 0) (turned : Bool) (tree : PlainTree) (rest : PlainTrees) (c : Checked A) (f : A → Checked B)
        → Lists known P (spaces_at around struct kind turned tree) c → ((x : A) → P x → (later : Bool) → Lists known Q (spaces_in_parts around struct kind later rest) (f x))
        → Lists known Q (spaces_in_parts around struct kind turned (more tree rest)) (c >>= f)
    part_then P Q turned tree rest c f h g =
        let p = part_is around struct kind turned tree rest in
        subst (λ (l : Spaces). Lists known Q l (c >>= f)) (sym p.is)
        (lists_then P Q (spaces_at around struct kind turned tree) (spaces_in_parts around struct kind p.later rest) c f h (λ x y. g x y p.later))

    pub part_last :
        {A : Type 0} (P : A → Type 0) (turned : Bool) (tree : PlainTree) (rest : PlainTrees) (c : Checked A) → Lists known P (spaces_at around struct kind turned tree) c
        → Lists known P (spaces_in_parts around struct kind turned (more tree rest)) c
    part_last P turned tree rest c h =
        let p = part_is around struct kind turned tree rest in
        subst (λ (l : Spaces). Lists known P l c) (sym p.is) (lists_before P (spaces_at around struct kind turned tree) (spaces_in_parts around struct kind p.later rest) c h)

    -- a part, and one behind a sign that has names for it too
    pub valued_then :
        {A B : Type 0} (P : A → Type 0) (Q : B → Type 0) (turned : Bool) (tree sign next : PlainTree) (rest : PlainTrees) (c : Checked A) (f : A → Checked B)
        → ((others : Spaces) → names next ≤ length others → Lists known P (spaces_at around struct kind turned tree ++ others) c)
        → ((x : A) → P x → (later : Bool) → Lists known Q (spaces_in_parts around struct kind later rest) (f x))
        → Lists known Q (spaces_in_parts around struct kind turned (more tree (more sign (more next rest)))) (c >>= f)
    valued_then P Q turned tree sign next rest c f h g =
        let p = part_is around struct kind turned tree (more sign (more next rest)) in
        let q = part_is around struct kind p.later sign (more next rest) in
        let r = part_is around struct kind q.later next rest in
        let first : Spaces = spaces_at around struct kind turned tree in
        let second : Spaces = spaces_at around struct kind p.later sign in
        let third : Spaces = spaces_at around struct kind q.later next in
        let last : Spaces = spaces_in_parts around struct kind r.later rest in
        let count = part_count next around struct kind q.later in
        let both = length-append second third in
        subst (λ (l : Spaces). Lists known Q l (c >>= f))
        (append_assoc first (second ++ third) last ∙ ap (λ l. first ++ l) (append_assoc second third last ∙ ap (λ l. second ++ l) (sym r.is) ∙ sym q.is) ∙ sym p.is)
        (lists_then P Q (first ++ (second ++ third)) last c f (h (second ++ third) (omega (arith, count, both))) (λ x y. g x y r.later))

    pub valued_last :
        {A : Type 0} (P : A → Type 0) (turned : Bool) (tree sign next : PlainTree) (c : Checked A)
        → ((others : Spaces) → names next ≤ length others → Lists known P (spaces_at around struct kind turned tree ++ others) c)
        → Lists known P (spaces_in_parts around struct kind turned (more tree (more sign (more next none)))) c
    valued_last P turned tree sign next c h =
        let p = part_is around struct kind turned tree (more sign (more next none)) in
        let count = parts_count (more sign (more next none)) around struct kind p.later in
        subst (λ (l : Spaces). Lists known P l c) (sym p.is) (h (spaces_in_parts around struct kind p.later (more sign (more next none))) (omega (arith, count)))

    pub past :
        {B : Type 0} (Q : B → Type 0) (turned : Bool) (tree : PlainTree) (rest : PlainTrees) (c : Checked B) → ((later : Bool) → Lists known Q (spaces_in_parts around struct kind later rest) c)
        → Lists known Q (spaces_in_parts around struct kind turned (more tree rest)) c
    past Q turned tree rest c h =
        let p = part_is around struct kind turned tree rest in
        subst (λ (l : Spaces). Lists known Q l c) (sym p.is) (lists_behind Q (spaces_at around struct kind turned tree) (spaces_in_parts around struct kind p.later rest) c (h p.later))

-- ---- declarators

-- only a bracket turns what a name is
abbrev pub Turns : Kind → Type 0
Turns kind = (token : PlainToken) → same t.OpenBracket (terminal token) ≡ false → turns kind token ≡ false

-- a name among parts
pub record Named (around : Kind) (struct : List ℕ) (kind : Kind) (parts : PlainTrees) : Type 0 where
  pub before : Spaces
  pub behind : Spaces
  pub is : spaces_in_parts around struct kind false parts ≡ before ++ space_by around struct (role kind false) ∷ behind

module _ (around : Kind) (struct : List ℕ) (kind : Kind) (only : Turns kind) where
  abbrev listed_by : PlainToken → PlainTrees → Bool → Spaces
  listed_by token rest b =
      if b then space_by around struct (role kind false) ∷ spaces_in_parts around struct kind false rest else spaces_in_parts around struct kind (false || turns kind token) rest

  pub name_at : (parts : PlainTrees) (name : PlainToken) → name_in parts ≡ Some name → Named around struct kind parts
  name_at none name e = absurd (none-some name e)
  name_at (more (node inner parts) rest) name e = absurd (none-some name e)
  name_at (more (leaf token) rest) name e = by (is_name token) (same t.OpenBracket (terminal token)) refl refl (name_at rest name) e
    where
      by :
          (b c : Bool) → is_name token ≡ b → same t.OpenBracket (terminal token) ≡ c → (name_in rest ≡ Some name → Named around struct kind rest)
          → (if b then Some token else if c then None else name_in rest) ≡ Some name → Named around struct kind (more (leaf token) rest)
      by true c is turn later e = record { before = []; behind = spaces_in_parts around struct kind false rest; is = ap (listed_by token rest) is }
      by false true is turn later e = absurd (none-some name e)
      by false false is turn later e =
          let n = later e in
          record { before = n.before; behind = n.behind; is = ap (listed_by token rest) is ∙ ap (λ (x : Bool). spaces_in_parts around struct kind x rest) (only token turn) ∙ n.is }

-- a part behind the name
pub record Behind (around : Kind) (struct : List ℕ) (kind : Kind) (tree : PlainTree) (spaces : Spaces) : Type 0 where
  pub turned : Bool
  pub before : Spaces
  pub behind : Spaces
  pub is : spaces ≡ before ++ (spaces_at around struct kind turned tree ++ behind)

further : (around : Kind) (struct : List ℕ) (kind : Kind) (tree : PlainTree) (first others spaces : Spaces) → spaces ≡ first ++ others → Behind around struct kind tree others → Behind around struct kind tree spaces
further around struct kind tree first others spaces e b = record {
  turned = b.turned;
  before = first ++ b.before;
  behind = b.behind;
  is = e ∙ ap (λ l. first ++ l) b.is ∙ sym (append_assoc first b.before (spaces_at around struct kind b.turned tree ++ b.behind));
}

module _ (around : Kind) (struct : List ℕ) (kind : Kind) (wanted : Terminal) where
  pub behind_at : (parts : PlainTrees) (tree : PlainTree) → behind_word wanted parts ≡ Some tree → (turned : Bool) → Behind around struct kind tree (spaces_in_parts around struct kind turned parts)
  behind_at none tree e turned = absurd (none-some tree e)
  behind_at (more (leaf token) none) tree e turned = absurd (none-some tree e)
  behind_at (more (node inner parts) rest) tree e turned = absurd (none-some tree e)
  behind_at (more (leaf token) (more next rest)) tree e turned = by (same wanted (terminal token)) (behind_at (more next rest) tree) e
    where
      by :
          (b : Bool) → (behind_word wanted (more next rest) ≡ Some tree → (later : Bool) → Behind around struct kind tree (spaces_in_parts around struct kind later (more next rest)))
          → (if b then Some next else behind_word wanted (more next rest)) ≡ Some tree → Behind around struct kind tree (spaces_in_parts around struct kind turned (more (leaf token) (more next rest)))
      by true later e =
          let p = part_is around struct kind turned (leaf token) (more next rest) in
          let q = part_is around struct kind p.later next rest in
          subst (λ (x : PlainTree). Behind around struct kind x (spaces_in_parts around struct kind turned (more (leaf token) (more next rest)))) (same_Some next tree e)
          (record { turned = p.later; before = spaces_at around struct kind turned (leaf token); behind = spaces_in_parts around struct kind q.later rest; is = p.is ∙ ap (λ l. spaces_at around struct kind turned (leaf token) ++ l) q.is })
      by false later e =
          let p = part_is around struct kind turned (leaf token) (more next rest) in
          further around struct kind tree (spaces_at around struct kind turned (leaf token)) (spaces_in_parts around struct kind p.later (more next rest)) (spaces_in_parts around struct kind turned (more (leaf token) (more next rest))) p.is (later e p.later)

-- a name, and a node behind a word behind it
pub record NamedBefore (around : Kind) (struct : List ℕ) (kind : Kind) (tree : PlainTree) (parts : PlainTrees) : Type 0 where
  pub before : Spaces
  pub behind : Spaces
  pub is : spaces_in_parts around struct kind false parts ≡ before ++ space_by around struct (role kind false) ∷ behind
  pub there : Behind around struct kind tree behind

module _ (around : Kind) (struct : List ℕ) (kind : Kind) (only : Turns kind) (wanted : Terminal) where
  pub name_before :
      (parts : PlainTrees) (name : PlainToken) (inner : Kind) (list : PlainTrees) → name_in parts ≡ Some name → behind_word wanted parts ≡ Some (node inner list)
      → NamedBefore around struct kind (node inner list) parts
  name_before none name inner list e f = absurd (none-some name e)
  name_before (more (node i parts) rest) name inner list e f = absurd (none-some name e)
  name_before (more (leaf token) none) name inner list e f = absurd (none-some (node inner list) f)
  name_before (more (leaf token) (more next rest)) name inner list e f =
      by (is_name token) (same t.OpenBracket (terminal token)) (same wanted (terminal token)) refl refl (name_before (more next rest) name inner list) e f
    where
      tree : PlainTree
      tree = node inner list

      here : (b : Bool) → (if b then Some next else behind_word wanted (more next rest)) ≡ Some tree → Behind around struct kind tree (spaces_in_parts around struct kind false (more next rest))
      here true f =
          let q = part_is around struct kind false next rest in
          subst (λ (x : PlainTree). Behind around struct kind x (spaces_in_parts around struct kind false (more next rest))) (same_Some next tree f)
          (record { turned = false; before = []; behind = spaces_in_parts around struct kind q.later rest; is = q.is })
      here false f = behind_at around struct kind wanted (more next rest) tree f false

      by :
          (b c d : Bool) → is_name token ≡ b → same t.OpenBracket (terminal token) ≡ c → (name_in (more next rest) ≡ Some name → behind_word wanted (more next rest) ≡ Some tree → NamedBefore around struct kind tree (more next rest))
          → (if b then Some token else if c then None else name_in (more next rest)) ≡ Some name → (if d then Some next else behind_word wanted (more next rest)) ≡ Some tree
          → NamedBefore around struct kind tree (more (leaf token) (more next rest))
      by true c d is turn later e f = record { before = []; behind = spaces_in_parts around struct kind false (more next rest); is = ap (listed_by around struct kind only token (more next rest)) is; there = here d f }
      by false true d is turn later e f = absurd (none-some name e)
      by false false true is turn later e f =
          absurd (none-some name (subst (λ (x : PlainTree). name_in (more x rest) ≡ Some name) (same_Some next tree f) e))
      by false false false is turn later e f =
          let n = later e f in
          record { before = n.before; behind = n.behind; is = ap (listed_by around struct kind only token (more next rest)) is ∙ ap (λ (x : Bool). spaces_in_parts around struct kind x (more next rest)) (only token turn) ∙ n.is; there = n.there }
