-- Judgements at file scope: what is visible only grows, and what they bind is among the names of their trees, where all that is visible behind
-- them is known.
use Rattle.std.proofs.Common.{◌≡◌, ℕ, ◌≤◌, Bool, true, false, List, [], ◌∷◌, ◌++◌, length, refl, sym, ap, subst, ◌∙◌, append_assoc, arith, inl}
use Rattle.std.specs.Prelude.{Option, Some, None, if◌then◌else◌}
use Rattle.std.specs.Str.{bytes_eq}
use Rattle.std.specs.Cmp.Lexicographic.{bytes_decides}
use Rattle.std.proofs.lemmas.List.{length-append}
use Rattle.std.proofs.lemmas.Option.{none-some}
use Rattle.c_text.specs.Token.{PlainToken}
use Rattle.c_tree.specs.declared.kinds.Kind.{Kind}
use Rattle.c_tree.specs.Trees.{PlainTree, PlainTrees, more, none}
use Rattle.core_meaning.specs.declared.refusals.TypeKind.{TypeKind}
use Rattle.core_meaning.specs.Checking.{Entity, Binding, Checked, fine, refused, broken, with_bindings, ◌>>=◌, give, unless_so, or_broken, declares, in_function}
use Rattle.core_meaning.specs.Entities.{Table, with_entry, FileName, Scope}
use Rattle.bindings.specs.Visible.{NameSpace}
use Rattle.entity_numbers.proofs.Uses.{Binds}
use Rattle.entity_kinds.proofs.Pairs.{Never, none_bound, quiet_unless, NeverFine}
use Rattle.name_spaces.specs.Spaces.{spaces_in_parts}
use Rattle.name_spaces.proofs.Embeddings.{Spaces, Declares, Embeds, embeds_behind, embeds_both, embeds_before, embeds_numbered}
use Rattle.name_spaces.proofs.Uses.{names, Worded}
use Rattle.name_spaces.proofs.Listed.{spaces_at, part_is, part_count, parts_count, Anything, Lists}

-- ---- what is visible stays so

pub record Grown (s x : Scope) : Type 0 where
  pub tags : (tag : List ℕ) (n : ℕ) → s.tags tag ≡ Some n → x.tags tag ≡ Some n
  pub names : (name : List ℕ) (n : FileName) → s.file_names name ≡ Some n → x.file_names name ≡ Some n

pub grown_itself : (s : Scope) → Grown s s
grown_itself s = record { tags = λ tag n e. e; names = λ name n e. e }

pub grown_both : (s x y : Scope) → Grown s x → Grown x y → Grown s y
grown_both s x y f g = record { tags = λ tag n e. g.tags tag n (f.tags tag n e); names = λ name n e. g.names name n (f.names name n e) }

-- a new entry hides none
pub entry_kept : {A : Type 0} (table : Table A) (name : List ℕ) (entry : A) → table name ≡ None → (other : List ℕ) (n : A) → table other ≡ Some n → with_entry table name entry other ≡ Some n
entry_kept table name entry free other n e = by (bytes_eq other name) refl
  where
    by : (b : Bool) → bytes_eq other name ≡ b → (if b then Some entry else table other) ≡ Some n
    by true same = absurd (none-some n (sym free ∙ ap table (sym ((bytes_decides other name).0 same)) ∙ e))
    by false same = e

pub entry_here : {A : Type 0} (table : Table A) (name : List ℕ) (entry : A) → with_entry table name entry name ≡ Some entry
entry_here table name entry = ap (λ (b : Bool). if b then Some entry else table name) ((bytes_decides name name).1 refl)

pub grown_worded : (s x : Scope) → Grown s x → Worded x → Worded s
grown_worded s x g worded = λ name n e. worded name n (g.names name n e)

-- ---- what a judgement leaves

abbrev LeftOf : {A : Type 0} → Scope → (A → Scope) → (A → Type 0) → Checked A → Type 0
LeftOf before behind V (fine x js) = Grown before (behind x) × V x
LeftOf before behind V (refused kind token) = Unit {0}
LeftOf before behind V broken = Unit {0}

pub record Leaves {A : Type 0} (before : Scope) (behind : A → Scope) (V : A → Type 0) (c : Checked A) : Type 0 where
  pub left : LeftOf before behind V c

-- ---- and what it binds, where this is visible in the end

abbrev pub WalkedOf : {A : Type 0} → Scope → Scope → (A → Scope) → (A → Type 0) → Spaces → Checked A → Type 0
WalkedOf last before behind V spaces (fine x js) = (Grown before (behind x) × V x) × (Grown (behind x) last → Embeds last.tags spaces js)
WalkedOf last before behind V spaces (refused kind token) = Unit {0}
WalkedOf last before behind V spaces broken = Unit {0}

pub record Walks {A : Type 0} (last before : Scope) (behind : A → Scope) (V : A → Type 0) (spaces : Spaces) (c : Checked A) : Type 0 where
  pub walked : WalkedOf last before behind V spaces c

module _ (last : Scope) where
  -- ---- from what is listed

  pub walks_listed :
      {A : Type 0} (before : Scope) (behind : A → Scope) (V : A → Type 0) (spaces : Spaces) (c : Checked A) → Leaves before behind V c → (Grown before last → Lists last.tags (Anything {A = A}) spaces c)
      → Walks last before behind V spaces c
  walks_listed before behind V spaces (fine x js) l h = record { walked = (l.left, λ g. (h (grown_both before (behind x) last l.left.0 g)).listed.1) }
  walks_listed before behind V spaces (refused kind token) l h = record { walked = tt }
  walks_listed before behind V spaces broken l h = record { walked = tt }

  abbrev pub Same : {A : Type 0} → Scope → A → Scope
  Same s x = s

  same_left : {A : Type 0} (before : Scope) (c : Checked A) → Leaves before (Same {A = A} before) (Anything {A = A}) c
  same_left before (fine x js) = record { left = (grown_itself before, tt) }
  same_left before (refused kind token) = record { left = tt }
  same_left before broken = record { left = tt }

  -- where the scope stays
  pub walks_inside : {A : Type 0} (before : Scope) (spaces : Spaces) (c : Checked A) → (Grown before last → Lists last.tags (Anything {A = A}) spaces c) → Walks last before (Same {A = A} before) (Anything {A = A}) spaces c
  walks_inside before spaces c h = walks_listed before (Same before) Anything spaces c (same_left before c) h

  -- ---- one after the other

  both_walked :
      {B : Type 0} (before middle : Scope) (behind : B → Scope) (W : B → Type 0) (spaces others : Spaces) (js : List Binding) (c : Checked B) → Grown before middle → (Grown middle last → Embeds last.tags spaces js)
      → WalkedOf last middle behind W others c → WalkedOf last before behind W (spaces ++ others) (with_bindings js c)
  both_walked before middle behind W spaces others js (fine y ks) g f h =
      ((grown_both before middle (behind y) g h.0.0, h.0.1), λ e. embeds_both last.tags spaces others js ks (f (grown_both middle (behind y) last h.0.0 e)) (h.1 e))
  both_walked before middle behind W spaces others js (refused kind token) g f h = tt
  both_walked before middle behind W spaces others js broken g f h = tt

  pub walks_then :
      {A B : Type 0} (before : Scope) (middle : A → Scope) (behind : B → Scope) (V : A → Type 0) (W : B → Type 0) (spaces others : Spaces) (c : Checked A) (f : A → Checked B)
      → Walks last before middle V spaces c → ((x : A) → Grown before (middle x) → V x → Walks last (middle x) behind W others (f x)) → Walks last before behind W (spaces ++ others) (c >>= f)
  walks_then before middle behind V W spaces others (fine x js) f h g =
      record { walked = both_walked before (middle x) behind W spaces others js (f x) h.walked.0.0 h.walked.1 (g x h.walked.0.0 h.walked.0.1).walked }
  walks_then before middle behind V W spaces others (refused kind token) f h g = record { walked = tt }
  walks_then before middle behind V W spaces others broken f h g = record { walked = tt }

  module _ {B : Type 0} (behind : B → Scope) (W : B → Type 0) where
    pub walks_give : (before : Scope) (spaces : Spaces) (x : B) → Grown before (behind x) → W x → Walks last before behind W spaces (give x)
    walks_give before spaces x g w = record { walked = ((g, w), λ e. tt) }

    pub walks_behind : (before : Scope) (first spaces : Spaces) (c : Checked B) → Walks last before behind W spaces c → Walks last before behind W (first ++ spaces) c
    walks_behind before first spaces (fine x js) h = record { walked = (h.walked.0, λ e. embeds_behind last.tags first spaces js (h.walked.1 e)) }
    walks_behind before first spaces (refused kind token) h = record { walked = tt }
    walks_behind before first spaces broken h = record { walked = tt }

    pub walks_before : (before : Scope) (spaces others : Spaces) (c : Checked B) → Walks last before behind W spaces c → Walks last before behind W (spaces ++ others) c
    walks_before before spaces others (fine x js) h = record { walked = (h.walked.0, λ e. embeds_before last.tags spaces others js (h.walked.1 e)) }
    walks_before before spaces others (refused kind token) h = record { walked = tt }
    walks_before before spaces others broken h = record { walked = tt }

    pub walks_never : (before : Scope) (spaces : Spaces) (c : Checked B) → NeverFine c → Walks last before behind W spaces c
    walks_never before spaces (fine x js) h = absurd h
    walks_never before spaces (refused kind token) h = record { walked = tt }
    walks_never before spaces broken h = record { walked = tt }

    pub walks_if : (before : Scope) (spaces : Spaces) (b : Bool) (c d : Checked B) → Walks last before behind W spaces c → Walks last before behind W spaces d → Walks last before behind W spaces (if b then c else d)
    walks_if before spaces true c d f g = f
    walks_if before spaces false c d f g = g

    pub walks_function : (before : Scope) (spaces : Spaces) (n : ℕ) (c : Checked B) → Walks last before behind W spaces c → Walks last before behind W spaces (in_function n c)
    walks_function before spaces n (fine x js) h = record { walked = (h.walked.0, λ e. embeds_numbered last.tags n spaces js (h.walked.1 e)) }
    walks_function before spaces n (refused kind token) h = record { walked = tt }
    walks_function before spaces n broken h = record { walked = tt }

    -- one that binds nothing first
    pub quiet_then : {A : Type 0} (before : Scope) (spaces : Spaces) (c : Checked A) (f : A → Checked B) → Binds Never c → ((x : A) → Walks last before behind W spaces (f x)) → Walks last before behind W spaces (c >>= f)
    quiet_then {A = A} before spaces c f h g = walks_then before (Same {A = A} before) behind Anything W [] spaces c f (walks_inside before [] c (λ e. by c h)) (λ x y z. g x)
      where
        by : {A : Type 0} (c : Checked A) → Binds Never c → Lists last.tags (Anything {A = A}) [] c
        by (fine x js) h = record { listed = (tt, subst (λ (l : List Binding). Embeds last.tags [] l) (sym (none_bound js h.all)) tt) }
        by (refused kind token) h = record { listed = tt }
        by broken h = record { listed = tt }

    pub unless_then : (before : Scope) (spaces : Spaces) (b : Bool) (kind : TypeKind) (token : PlainToken) (f : Unit {0} → Checked B) → ((x : Unit {0}) → Walks last before behind W spaces (f x)) → Walks last before behind W spaces (unless_so b kind token >>= f)
    unless_then before spaces b kind token f g = quiet_then before spaces (unless_so b kind token) f (quiet_unless b kind token) g

    pub some_then : {A : Type 0} (before : Scope) (spaces : Spaces) (o : Option A) (f : A → Checked B) → ((x : A) → o ≡ Some x → Walks last before behind W spaces (f x)) → Walks last before behind W spaces (or_broken o >>= f)
    some_then {A = A} before spaces (Some x) f g =
        walks_then before (Same {A = A} before) behind (λ y. x ≡ y) W [] spaces (give x) f (record { walked = ((grown_itself before, refl), λ e. tt) }) (λ y h e. g y (ap Some e))
    some_then before spaces None f g = record { walked = tt }

    -- an identifier that declares
    pub declares_walk : (before : Scope) (s : Option NameSpace) (spaces : Spaces) (e : Entity) (f : Unit {0} → Checked B) → Declares last.tags s e → ((x : Unit {0}) → Walks last before behind W spaces (f x)) → Walks last before behind W (s ∷ spaces) (declares e >>= f)
    declares_walk before s spaces e f d g =
        walks_then before (Same {A = Unit {0}} before) behind Anything W (s ∷ []) spaces (declares e) f
        (walks_inside before (s ∷ []) (declares e) (λ h. record { listed = (tt, inl ((λ x. d), tt)) })) (λ x y z. g x)

    -- ---- parts of a node

    module _ (around : Kind) (struct : List ℕ) (kind : Kind) where
      pub part_walks_then :
          {A : Type 0} (before : Scope) (middle : A → Scope) (V : A → Type 0) (turned : Bool) (tree : PlainTree) (rest : PlainTrees) (c : Checked A) (f : A → Checked B)
          → Walks last before middle V (spaces_at around struct kind turned tree) c → ((x : A) → Grown before (middle x) → V x → (later : Bool) → Walks last (middle x) behind W (spaces_in_parts around struct kind later rest) (f x))
          → Walks last before behind W (spaces_in_parts around struct kind turned (more tree rest)) (c >>= f)
      part_walks_then before middle V turned tree rest c f h g =
          let p = part_is around struct kind turned tree rest in
          subst (λ (l : Spaces). Walks last before behind W l (c >>= f)) (sym p.is)
          (walks_then before middle behind V W (spaces_at around struct kind turned tree) (spaces_in_parts around struct kind p.later rest) c f h (λ x y z. g x y z p.later))

      pub walks_past :
          (before : Scope) (turned : Bool) (tree : PlainTree) (rest : PlainTrees) (c : Checked B) → ((later : Bool) → Walks last before behind W (spaces_in_parts around struct kind later rest) c)
          → Walks last before behind W (spaces_in_parts around struct kind turned (more tree rest)) c
      walks_past before turned tree rest c h =
          let p = part_is around struct kind turned tree rest in
          subst (λ (l : Spaces). Walks last before behind W l c) (sym p.is) (walks_behind before (spaces_at around struct kind turned tree) (spaces_in_parts around struct kind p.later rest) c (h p.later))

      pub part_walks_last :
          (before : Scope) (turned : Bool) (tree : PlainTree) (rest : PlainTrees) (c : Checked B) → Walks last before behind W (spaces_at around struct kind turned tree) c
          → Walks last before behind W (spaces_in_parts around struct kind turned (more tree rest)) c
      part_walks_last before turned tree rest c h =
          let p = part_is around struct kind turned tree rest in
          subst (λ (l : Spaces). Walks last before behind W l c) (sym p.is) (walks_before before (spaces_at around struct kind turned tree) (spaces_in_parts around struct kind p.later rest) c h)

      -- a part, and one behind a sign that has names for it too
      pub valued_walks_then :
          {A : Type 0} (before : Scope) (middle : A → Scope) (V : A → Type 0) (turned : Bool) (tree sign next : PlainTree) (rest : PlainTrees) (c : Checked A) (f : A → Checked B)
          → ((others : Spaces) → names next ≤ length others → Walks last before middle V (spaces_at around struct kind turned tree ++ others) c)
          → ((x : A) → Grown before (middle x) → V x → (later : Bool) → Walks last (middle x) behind W (spaces_in_parts around struct kind later rest) (f x))
          → Walks last before behind W (spaces_in_parts around struct kind turned (more tree (more sign (more next rest)))) (c >>= f)
      valued_walks_then before middle V turned tree sign next rest c f h g =
          let p = part_is around struct kind turned tree (more sign (more next rest)) in
          let q = part_is around struct kind p.later sign (more next rest) in
          let r = part_is around struct kind q.later next rest in
          let first : Spaces = spaces_at around struct kind turned tree in
          let second : Spaces = spaces_at around struct kind p.later sign in
          let third : Spaces = spaces_at around struct kind q.later next in
          let end_ : Spaces = spaces_in_parts around struct kind r.later rest in
          let count = part_count next around struct kind q.later in
          let both = length-append second third in
          subst (λ (l : Spaces). Walks last before behind W l (c >>= f))
          (append_assoc first (second ++ third) end_ ∙ ap (λ l. first ++ l) (append_assoc second third end_ ∙ ap (λ l. second ++ l) (sym r.is) ∙ sym q.is) ∙ sym p.is)
          (walks_then before middle behind V W (first ++ (second ++ third)) end_ c f (h (second ++ third) (omega (arith, count, both))) (λ x y z. g x y z r.later))

      pub valued_walks_last :
          (before : Scope) (turned : Bool) (tree sign next : PlainTree) (c : Checked B)
          → ((others : Spaces) → names next ≤ length others → Walks last before behind W (spaces_at around struct kind turned tree ++ others) c)
          → Walks last before behind W (spaces_in_parts around struct kind turned (more tree (more sign (more next none)))) c
      valued_walks_last before turned tree sign next c h =
          let p = part_is around struct kind turned tree (more sign (more next none)) in
          let count = parts_count (more sign (more next none)) around struct kind p.later in
          subst (λ (l : Spaces). Walks last before behind W l c) (sym p.is) (h (spaces_in_parts around struct kind p.later (more sign (more next none))) (omega (arith, count)))
