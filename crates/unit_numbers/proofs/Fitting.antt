-- What is taken up to a place of a unit, beside what is visible there; and the tags of types.
use Rattle.std.proofs.Common.{◌≡◌, inl, inr, ℕ, zero, suc, ◌≤◌, ◌<◌, ◌+◌, Bool, true, false, List, [], ◌∷◌, ◌++◌, refl, sym, ap, subst, ◌∙◌, length, arith}
use Rattle.std.specs.Prelude.{◌⊎◌, ◌-◌, replicate, Option, Some, None, slice_get, if◌then◌else◌}
use Rattle.std.specs.Str.{bytes_eq}
use Rattle.std.proofs.lemmas.List.{length-append, length-replicate}
use Rattle.std.proofs.lemmas.Option.{same_Some, none-some}
use Rattle.c_text.specs.Token.{PlainToken}
use Rattle.c_types.specs.Types.{structure}
use Rattle.c_types.specs.Tags.{PlainMember}
use Rattle.c_tree.specs.declared.terminals.Terminal.TheVariants as t
use Rattle.c_tree.specs.Trees.{PlainTrees}
use Rattle.core_meaning.specs.Checking.{Checked, fine, refused, broken, ◌>>=◌, give, or_broken}
use Rattle.core_meaning.specs.Entities.{Table, Struct, Local, FileName, Scope, local_in}
use Rattle.core_meaning.specs.Expressions.{has_terminal, arithmetic_words}
use Rattle.core_meaning.specs.Declarations.{Based, based, based_on_tag, name_in, new_struct, with_struct}
use Rattle.entity_numbers.specs.Numbered.{Counts}
use Rattle.bindings.proofs.Types.{Tagged as TagOf, Made, MadeSort, made_words}
use Rattle.entity_numbers.proofs.Uses.{Sense, Allows, Gives, some_gives}
use Rattle.entity_numbers.proofs.Slots.{Base, BasedOn}
use Rattle.unit_numbers.proofs.Runs.{Has, all_old, done, old, new, Reaches, further}

-- ---- lists

pub within : {A : Type 0} (xs : List A) (n : ℕ) (x : A) → slice_get xs n ≡ Some x → n < length xs
within [] n x e = absurd (none-some x e)
within (y ∷ xs) zero x e = omega arith
within (y ∷ xs) (suc n) x e = let less : n < length xs = within xs n x e in omega (arith, less)

pub at_more : {A : Type 0} (xs : List A) (y : A) (n : ℕ) (x : A) → slice_get (xs ++ y ∷ []) n ≡ Some x → (slice_get xs n ≡ Some x) ⊎ ((n ≡ length xs) × (x ≡ y))
at_more [] y zero x e = inr (refl, sym (same_Some y x e))
at_more [] y (suc n) x e = absurd (none-some x e)
at_more (z ∷ xs) y zero x e = inl e
at_more (z ∷ xs) y (suc n) x e = by (at_more xs y n x e)
  where
    by : (slice_get xs n ≡ Some x) ⊎ ((n ≡ length xs) × (x ≡ y)) → (slice_get xs n ≡ Some x) ⊎ ((suc n ≡ suc (length xs)) × (x ≡ y))
    by (inl h) = inl h
    by (inr h) = inr (ap suc h.0, h.1)

pub longer : {A : Type 0} (xs : List A) (x : A) → length (xs ++ x ∷ []) ≡ suc (length xs)
longer xs x = let e : length (xs ++ x ∷ []) ≡ length xs + length (x ∷ []) = length-append xs (x ∷ []) in let one_ : length (x ∷ []) ≡ 1 = refl in omega (arith, e, one_)

module _ (first : ℕ) where
  -- ---- types that name no structs but those from the first on

  abbrev pub tags_from : Table ℕ
  tags_from name = Some (first + length name)

  pub tag_from : (n : ℕ) → first ≤ n → TagOf tags_from n
  tag_from n h =
      let d : ℕ = n - first in
      let e : first + d ≡ n = omega (arith, h) in
      record { tag = replicate d 0; is = ap (λ l. Some (first + l)) (length-replicate d 0) ∙ ap Some e }

  pub from_tag : (n : ℕ) → TagOf tags_from n → first ≤ n
  from_tag n h = let e : first + length h.tag ≡ n = same_Some (first + length h.tag) n h.is in omega (arith, e)

  abbrev pub sense : Counts → Sense
  sense c = record { knows = Has first c; tags = tags_from }

  -- Structs are counted that are visible or were, and as many members of each as it has; of those that are open, perhaps more.
  pub record Fits (is_open : ℕ → Type 0) (c : Counts) (s : Scope) : Type 0 where
    pub structs : c.structs ≡ length s.structs
    pub below : first ≤ length s.structs
    pub tagged : (name : List ℕ) (n : ℕ) → s.tags name ≡ Some n → (first ≤ n) × (n < length s.structs)
    pub members : (n : ℕ) (found : Struct) → first ≤ n → slice_get s.structs n ≡ Some found → length found.members ≤ c.members n
    pub none_yet : (n : ℕ) (found : Struct) → slice_get s.structs n ≡ Some found → found.complete ≡ false → (is_open n → ⊥) → c.members n ≡ 0
    pub fresh : (n : ℕ) → length s.structs ≤ n → c.members n ≡ 0
    pub types : (n k : ℕ) (found : Struct) (m : PlainMember) → first ≤ n → slice_get s.structs n ≡ Some found → slice_get found.members k ≡ Some m → Made tags_from m.ty
    pub files : (name : List ℕ) (n : FileName) → s.file_names name ≡ Some n → MadeSort tags_from n.sort
    pub locals : (name : List ℕ) (l : Local) → local_in s.blocks name ≡ Some l → ⊥

  pub fits_base : (is_open : ℕ → Type 0) (c : Counts) (s : Scope) → Fits is_open c s → Base (sense c) s
  fits_base is_open c s h = record {
    files = λ name n e. (tt, h.files name n e);
    members = λ number n found m tag e f. let own : first ≤ number = from_tag number tag in let less : n < length found.members = within found.members n m f in let most : length found.members ≤ c.members number = h.members number found own e in ((own, omega (arith, less, most)), h.types number n found m own e f);
    tags = λ name n e. let p = h.tagged name n e in let less : n < length s.structs = p.1 in let all : c.structs ≡ length s.structs = h.structs in ((p.0, omega (arith, less, all)), tag_from n p.0);
  }

  pub fits_allows : (is_open : ℕ → Type 0) (c : Counts) (s : Scope) → Fits is_open c s → Allows (Has first c) tags_from s
  fits_allows is_open c s h = let b = fits_base is_open c s h in record { locals = λ name l e. absurd (h.locals name l e); files = b.files; members = b.members }

  pub given_then : {A B : Type 0} (W : B → Counts → Type 0) (c : Counts) (x : A) (f : A → Checked B) → Reaches first W c (f x) → Reaches first W c (give x >>= f)
  given_then W c x f h = record { reached = further first W c c [] (f x) done h.reached }

  -- one that binds what is known first, with what holds of its result
  pub typed_then : {A B : Type 0} (P : A → Type 0) (W : B → Counts → Type 0) (c : Counts) (j : Checked A) (f : A → Checked B) → Gives (Has first c) P j → ((x : A) → P x → Reaches first W c (f x)) → Reaches first W c (j >>= f)
  typed_then P W c (fine x js) f h g = record { reached = further first W c c js (f x) (all_old first c js h.given_.0) (g x h.given_.1).reached }
  typed_then P W c (refused kind token) f h g = record { reached = tt }
  typed_then P W c broken f h g = record { reached = tt }

  -- ---- tags

  module _ (is_open : ℕ → Type 0) (c : Counts) (s : Scope) where
    -- what the words of a type leave
    pub record Words (b : Based) (d : Counts) : Type 0 where
      pub fits : Fits is_open d b.scope
      pub blocks : b.scope.blocks ≡ s.blocks
      pub slots : d.slots ≡ c.slots
      pub members : d.members ≡ c.members
      pub more_structs : length s.structs ≤ length b.scope.structs
      pub made : Made tags_from b.ty

    -- the struct that a tag stands for
    pub record Tagged (tag : List ℕ) (b : Based) (d : Counts) : Type 0 where
      pub words : Words b d
      pub number : ℕ
      pub ty : b.ty ≡ structure number
      pub there : number < length b.scope.structs
      pub was : (s.tags tag ≡ Some number) ⊎ (d.members number ≡ 0)

    new_fits : (tag : List ℕ) → Fits is_open c s → Fits is_open (record c { structs = suc c.structs }) (with_struct s tag)
    new_fits tag h = record {
      structs = let e : c.structs ≡ length s.structs = h.structs in let l : length (s.structs ++ new_struct tag ∷ []) ≡ suc (length s.structs) = longer s.structs (new_struct tag) in omega (arith, e, l);
      below = let e : first ≤ length s.structs = h.below in let l : length (s.structs ++ new_struct tag ∷ []) ≡ suc (length s.structs) = longer s.structs (new_struct tag) in omega (arith, e, l);
      tagged = λ name n e. tagged_by name n (bytes_eq name tag) e;
      members = λ n found own e. members_by n found own (at_more s.structs (new_struct tag) n found e);
      none_yet = λ n found e open_ closed_. none_by n found open_ closed_ (at_more s.structs (new_struct tag) n found e);
      fresh = λ n far. let l : length (s.structs ++ new_struct tag ∷ []) ≡ suc (length s.structs) = longer s.structs (new_struct tag) in let far_ : length (s.structs ++ new_struct tag ∷ []) ≤ n = far in h.fresh n (omega (arith, far_, l));
      types = λ n k found m own e f. types_by n k found m own f (at_more s.structs (new_struct tag) n found e);
      files = h.files;
      locals = h.locals;
    }
      where
        l : length (s.structs ++ new_struct tag ∷ []) ≡ suc (length s.structs)
        l = longer s.structs (new_struct tag)

        tagged_by : (name : List ℕ) (n : ℕ) (b : Bool) → (if b then Some (length s.structs) else s.tags name) ≡ Some n → (first ≤ n) × (n < length (s.structs ++ new_struct tag ∷ []))
        tagged_by name n true e =
            let is : length s.structs ≡ n = same_Some (length s.structs) n e in
            let under : first ≤ length s.structs = h.below in
            let all : length (s.structs ++ new_struct tag ∷ []) ≡ suc (length s.structs) = l in
            (omega (arith, is, under), omega (arith, is, all))
        tagged_by name n false e =
            let p = h.tagged name n e in
            let less : n < length s.structs = p.1 in
            let all : length (s.structs ++ new_struct tag ∷ []) ≡ suc (length s.structs) = l in
            (p.0, omega (arith, less, all))

        members_by : (n : ℕ) (found : Struct) → first ≤ n → (slice_get s.structs n ≡ Some found) ⊎ ((n ≡ length s.structs) × (found ≡ new_struct tag)) → length found.members ≤ c.members n
        members_by n found own (inl e) = h.members n found own e
        members_by n found own (inr e) = subst (λ (x : Struct). length x.members ≤ c.members n) (sym e.1) (let z : length (new_struct tag).members ≡ 0 = refl in omega (arith, z))

        types_by : (n k : ℕ) (found : Struct) (m : PlainMember) → first ≤ n → slice_get found.members k ≡ Some m → (slice_get s.structs n ≡ Some found) ⊎ ((n ≡ length s.structs) × (found ≡ new_struct tag)) → Made tags_from m.ty
        types_by n k found m own f (inl e) = h.types n k found m own e f
        types_by n k found m own f (inr e) = absurd (none-some m (subst (λ (x : Struct). slice_get x.members k ≡ Some m) e.1 f))

        none_by : (n : ℕ) (found : Struct) → found.complete ≡ false → (is_open n → ⊥) → (slice_get s.structs n ≡ Some found) ⊎ ((n ≡ length s.structs) × (found ≡ new_struct tag)) → c.members n ≡ 0
        none_by n found open_ closed_ (inl e) = h.none_yet n found e open_ closed_
        none_by n found open_ closed_ (inr e) = h.fresh n (let is : n ≡ length s.structs = e.0 in omega (arith, is))

    pub tag_takes : Fits is_open c s → (tag : PlainToken) (o : Option ℕ) → s.tags tag.text ≡ o → Reaches first (Tagged tag.text) c (based_on_tag true s tag o)
    tag_takes h tag (Some n) e =
        let p = h.tagged tag.text n e in
        let less : n < length s.structs = p.1 in
        let all : c.structs ≡ length s.structs = h.structs in
        record {
          reached = record {
            to = c;
            runs = old (p.0, omega (arith, less, all)) done;
            holds = record { words = record { fits = h; blocks = refl; slots = refl; members = refl; more_structs = omega arith; made = tag_from n p.0 }; number = n; ty = refl; there = p.1; was = inl e };
          };
        }
    tag_takes h tag None e =
        let l : length (s.structs ++ new_struct tag.text ∷ []) ≡ suc (length s.structs) = longer s.structs (new_struct tag.text) in
        record {
          reached = record {
            to = record c { structs = suc c.structs };
            runs = new (record { unused = refl }) (sym h.structs) done;
            holds = record {
              words = record { fits = new_fits tag.text h; blocks = refl; slots = refl; members = refl; more_structs = omega (arith, l); made = tag_from (length s.structs) h.below };
              number = length s.structs;
              ty = refl;
              there = omega (arith, l);
              was = inr (h.fresh (length s.structs) (omega arith));
            };
          };
        }

    pub words_take : (words : PlainTrees) → Fits is_open c s → Reaches first Words c (based true s words)
    words_take words h = by (has_terminal t.Struct words) (name_in words)
      where
        by : (b : Bool) (o : Option PlainToken) → Reaches first Words c (if b then or_broken o >>= (λ tag. based_on_tag true s tag (s.tags tag.text)) else give (record { ty = arithmetic_words words; scope = s }))
        by true None = record { reached = tt }
        by true (Some tag) =
            given_then Words c tag (λ tag. based_on_tag true s tag (s.tags tag.text))
            (Rattle.unit_numbers.proofs.Runs.reaches_as first (Tagged tag.text) Words c (based_on_tag true s tag (s.tags tag.text)) (tag_takes h tag (s.tags tag.text) refl) (λ x d v. v.words))
        by false o = record { reached = record { to = c; runs = done; holds = record { fits = h; blocks = refl; slots = refl; members = refl; more_structs = omega arith; made = made_words tags_from words } } }

-- words that declare no struct
pub known_words : (K : Sense) (s : Scope) (words : PlainTrees) → Base K s → Gives K.knows (BasedOn K s) (based false s words)
known_words K s words h = by (has_terminal t.Struct words)
  where
    tagged : (tag : PlainToken) (o : Option ℕ) → s.tags tag.text ≡ o → Gives K.knows (BasedOn K s) (based_on_tag false s tag o)
    tagged tag (Some number) e = let f = h.tags tag.text number e in record { given_ = ((f.0, tt), record { scope = refl; made = f.1 }) }
    tagged tag None e = record { given_ = tt }

    by : (b : Bool) → Gives K.knows (BasedOn K s) (if b then or_broken (name_in words) >>= (λ tag. based_on_tag false s tag (s.tags tag.text)) else give (record { ty = arithmetic_words words; scope = s }))
    by true = some_gives K.knows (BasedOn K s) (name_in words) (λ tag. based_on_tag false s tag (s.tags tag.text)) (λ tag. tagged tag (s.tags tag.text) refl)
    by false = record { given_ = (tt, record { scope = refl; made = made_words K.tags words }) }
