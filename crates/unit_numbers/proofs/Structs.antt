-- The members of a struct have the next numbers in it, and behind its definition all are counted that it has.
use Rattle.std.proofs.Common.{◌≡◌, inl, inr, ℕ, zero, suc, ◌≤◌, ◌<◌, Bool, true, false, List, [], ◌∷◌, refl, sym, ap, subst, ◌∙◌, length, arith}
use Rattle.std.specs.Prelude.{◌⊎◌, Option, Some, None, is_some, slice_get, not, ◌==◌, if◌then◌else◌}
use Rattle.std.proofs.lemmas.Option.{same_Some, none-some}
use Rattle.std.proofs.lemmas.Bool.{false≢true, eq-eqb, eqb-true}
use Rattle.c_text.specs.Token.{PlainToken}
use Rattle.c_types.specs.Types.{PlainType}
use Rattle.c_types.specs.Tags.{PlainMember}
use Rattle.c_tree.specs.declared.kinds.Kind.{Kind}
use Rattle.c_tree.specs.declared.terminals.Terminal.TheVariants as t
use Rattle.c_tree.specs.Trees.{PlainTree, PlainTrees, leaf, node, none, more}
use Rattle.core_meaning.specs.declared.refusals.TypeKind.TheVariants.{Redeclared, Incomplete}
use Rattle.core_meaning.specs.Checking.{member_entity, Checked, ◌>>=◌, give, unless_so, or_broken, declares}
use Rattle.core_meaning.specs.Entities.{no_entry, Struct, Scope}
use Rattle.core_meaning.specs.Typing.{is_complete}
use Rattle.core_meaning.specs.Expressions.{has_terminal, arithmetic_words}
use Rattle.core_meaning.specs.Declarations.{Based, based, based_on_tag, name_in, object_type}
use Rattle.core_meaning.specs.UnitNames.{UnitState, Members, with_member, declared_member, one_member, members_from, AllMembers, all_members, completed, with_members_at, is_defined_struct, is_defined_tag, number_of_struct, with_scope, defined_struct}
use Rattle.entity_numbers.specs.Numbered.{Counts, one_more}
use Rattle.entity_numbers.proofs.Uses.{unless_binds, some_binds}
use Rattle.entity_numbers.proofs.Initialisers.{object_gives}
use Rattle.unit_numbers.proofs.Runs.{Has, done, new, Reaches, reaches_then, reaches_as, reaches_give, known_then}
use Rattle.bindings.proofs.Types.{Made}
use Rattle.unit_numbers.proofs.Fitting.{longer, at_more, tags_from, Fits, fits_allows, typed_then, given_then, Words, Tagged, tag_takes, words_take}

abbrev pub Nothing : ℕ → Type 0
Nothing n = ⊥

-- the struct whose members are being declared
abbrev Open : ℕ → ℕ → Type 0
Open number n = n ≡ number

-- ---- one more member

at_itself : (n : ℕ) (counts : ℕ → ℕ) → one_more n counts n ≡ suc (counts n)
at_itself n counts = ap (λ (b : Bool). if b then suc (counts n) else counts n) (eq-eqb n n refl)

elsewhere : (n m : ℕ) (counts : ℕ → ℕ) → (m ≡ n → ⊥) → one_more n counts m ≡ counts m
elsewhere n m counts other = by (m == n) refl
  where
    by : (b : Bool) → (m == n) ≡ b → (if b then suc (counts m) else counts m) ≡ counts m
    by true e = absurd (other (eqb-true m n e))
    by false e = refl

no_fewer : (n m : ℕ) (counts : ℕ → ℕ) → counts m ≤ one_more n counts m
no_fewer n m counts = by (m == n)
  where
    by : (b : Bool) → counts m ≤ (if b then suc (counts m) else counts m)
    by true = omega arith
    by false = omega arith

-- ---- where a struct is complete

at_completed :
    (structs : List Struct) (n m : ℕ) (known : Members) (found : Struct) → slice_get (with_members_at n known structs) m ≡ Some found
    → ((m ≡ n) × (found.members ≡ known.members) × (found.complete ≡ true)) ⊎ ((m ≡ n → ⊥) × (slice_get structs m ≡ Some found))
at_completed [] n m known found e = absurd (none-some found e)
at_completed (x ∷ structs) zero zero known found e =
    let is : completed known x ≡ found = same_Some (completed known x) found e in
    inl (refl, sym (ap (λ (s : Struct). s.members) is), sym (ap (λ (s : Struct). s.complete) is))
at_completed (x ∷ structs) zero (suc m) known found e = inr (λ is. let f : ◌≡◌ {A = ℕ} (suc m) 0 = is in omega (arith, f), e)
at_completed (x ∷ structs) (suc n) zero known found e = inr (λ is. let f : ◌≡◌ {A = ℕ} 0 (suc n) = is in omega (arith, f), e)
at_completed (x ∷ structs) (suc n) (suc m) known found e = by (at_completed structs n m known found e)
  where
    by :
        ((m ≡ n) × (found.members ≡ known.members) × (found.complete ≡ true)) ⊎ ((m ≡ n → ⊥) × (slice_get structs m ≡ Some found))
        → ((suc m ≡ suc n) × (found.members ≡ known.members) × (found.complete ≡ true)) ⊎ ((suc m ≡ suc n → ⊥) × (slice_get structs m ≡ Some found))
    by (inl h) = inl (ap suc h.0, h.1, h.2)
    by (inr h) = inr (λ is. h.0 (let f : suc m ≡ suc n = is in omega (arith, f)), h.1)

as_many : (structs : List Struct) (n : ℕ) (known : Members) → length (with_members_at n known structs) ≡ length structs
as_many [] n known = refl
as_many (x ∷ structs) zero known = refl
as_many (x ∷ structs) (suc n) known = ap suc (as_many structs n known)

-- a struct that the tag's unit has not defined isn't complete
undefined_struct : (structs : List Struct) (n : ℕ) (found : Struct) → slice_get structs n ≡ Some found → is_defined_struct (slice_get structs n) ≡ false → found.complete ≡ false
undefined_struct structs n found e h = sym (ap is_defined_struct e) ∙ h

there_is : (structs : List Struct) (n : ℕ) → n < length structs → (found : Struct) × (slice_get structs n ≡ Some found)
there_is [] n less = absurd (omega (arith, less))
there_is (x ∷ structs) zero less = (x, refl)
there_is (x ∷ structs) (suc n) less = there_is structs n (omega (arith, less))

module _ (first : ℕ) where
  -- ---- members

  module _ (slots : ℕ → ℕ) (number : ℕ) where
    record Inside (s : Scope) (known : Members) (c : Counts) : Type 0 where
      fits : Fits first (Open number) c s
      there : number < length s.structs
      counted : length known.members ≡ c.members number
      same_slots : c.slots ≡ slots
      types : (k : ℕ) (m : PlainMember) → slice_get known.members k ≡ Some m → Made (tags_from first) m.ty

    member_fits : (s : Scope) (c : Counts) → number < length s.structs → Fits first (Open number) c s → Fits first (Open number) (record c { members = one_more number c.members }) s
    member_fits s c there h = record {
      structs = h.structs;
      below = h.below;
      tagged = h.tagged;
      members = λ n found own e. let few : length found.members ≤ c.members n = h.members n found own e in let more_ : c.members n ≤ one_more number c.members n = no_fewer number n c.members in omega (arith, few, more_);
      none_yet = λ n found e open_ closed_. elsewhere number n c.members closed_ ∙ h.none_yet n found e open_ closed_;
      fresh = λ n far. elsewhere number n c.members (λ is. let far_ : length s.structs ≤ n = far in omega (arith, is, far_, there)) ∙ h.fresh n far;
      types = h.types;
      files = h.files;
      locals = h.locals;
    }

    declared_takes :
        (s : Scope) (known : Members) (c : Counts) (ty : PlainType) (kind : Kind) (parts : PlainTrees) (name : PlainToken) → Made (tags_from first) ty → Inside s known c → Reaches first (Inside s) c (declared_member s number known ty kind parts name)
    declared_takes s known c ty kind parts name made h =
        let d : Counts = record c { members = one_more number c.members } in
        let fits_ : Fits first (Open number) d s = member_fits s c h.there h.fits in
        known_then first (Inside s) c (unless_so (not (is_some (known.numbers name.text))) Redeclared name) _ (unless_binds (Has first c) (not (is_some (known.numbers name.text))) Redeclared name)
        (λ x. reaches_then first (λ y e. e ≡ d) (Inside s) c (declares (member_entity number (length known.members)))
        (λ bound. object_type s ty kind parts name None >>= (λ whole. unless_so (is_complete s.structs whole) Incomplete name >>= (λ complete. give (with_member s.structs known name.text whole))))
        (record { reached = record { to = d; runs = new (record { unused = refl }) h.counted done; holds = refl } })
        (λ y e is. subst (λ z. Reaches first (Inside s) z (object_type s ty kind parts name None >>= (λ whole. unless_so (is_complete s.structs whole) Incomplete name >>= (λ complete. give (with_member s.structs known name.text whole))))) (sym is)
        (typed_then first (Made (tags_from first)) (Inside s) d (object_type s ty kind parts name None) (λ whole. unless_so (is_complete s.structs whole) Incomplete name >>= (λ complete. give (with_member s.structs known name.text whole)))
        (object_gives (Has first d) (tags_from first) s (fits_allows first (Open number) d s fits_) ty kind parts name None made)
        (λ whole whole_made. known_then first (Inside s) d (unless_so (is_complete s.structs whole) Incomplete name) (λ complete. give (with_member s.structs known name.text whole)) (unless_binds (Has first d) (is_complete s.structs whole) Incomplete name)
        (λ z. reaches_give first (Inside s) d (with_member s.structs known name.text whole) (record {
          fits = fits_;
          there = h.there;
          counted = longer known.members _ ∙ ap suc h.counted ∙ sym (at_itself number c.members);
          same_slots = h.same_slots;
          types = λ k m e. more_types name.text whole whole_made k m (at_more known.members (record { name = name.text; ty = whole }) k m e);
        }))))))
      where
        more_types : (text : List ℕ) (whole : PlainType) → Made (tags_from first) whole → (k : ℕ) (m : PlainMember) → (slice_get known.members k ≡ Some m) ⊎ ((k ≡ length known.members) × (m ≡ record { name = text; ty = whole })) → Made (tags_from first) m.ty
        more_types text whole whole_made k m (inl e) = h.types k m e
        more_types text whole whole_made k m (inr e) = subst (λ (x : PlainMember). Made (tags_from first) x.ty) (sym e.1) whole_made

    one_takes : (s : Scope) (known : Members) (c : Counts) (ty : PlainType) (tree : PlainTree) → Made (tags_from first) ty → Inside s known c → Reaches first (Inside s) c (one_member s number known ty tree)
    one_takes s known c ty (node kind parts) made h =
        known_then first (Inside s) c (or_broken (name_in parts)) _ (some_binds (Has first c) (name_in parts)) (λ name. declared_takes s known c ty kind parts name made h)
    one_takes s known c ty (leaf token) made h = record { reached = tt }

    from_takes : (parts : PlainTrees) (s : Scope) (known : Members) (c : Counts) (ty : PlainType) → Made (tags_from first) ty → Inside s known c → Reaches first (Inside s) c (members_from s number known ty parts)
    from_takes none s known c ty made h = record { reached = tt }
    from_takes (more tree none) s known c ty made h = one_takes s known c ty tree made h
    from_takes (more tree (more comma rest)) s known c ty made h =
        reaches_then first (Inside s) (Inside s) c (one_member s number known ty tree) (λ x. members_from s number x ty rest) (one_takes s known c ty tree made h) (λ x d v. from_takes rest s x d ty made v)

    record AllInside (s : Scope) (x : AllMembers) (c : Counts) : Type 0 where
      inside : Inside x.scope x.known c
      blocks : x.scope.blocks ≡ s.blocks

    all_take : (parts : PlainTrees) (s : Scope) (known : Members) (c : Counts) → Inside s known c → Reaches first (AllInside s) c (all_members s number known parts)
    all_take none s known c h = reaches_give first (AllInside s) c (record { scope = s; known = known }) (record { inside = h; blocks = refl })
    all_take (more (node kind (more (node words_kind words) (more (node list_kind declarators) (more end_ none)))) rest) s known c h =
        reaches_then first (Words first (Open number) c s) (AllInside s) c (based true s words) (λ base. members_from base.scope number known base.ty declarators >>= (λ x. all_members base.scope number x rest)) (words_take first (Open number) c s words h.fits)
        (λ base d v. reaches_then first (Inside base.scope) (AllInside s) d (members_from base.scope number known base.ty declarators) (λ x. all_members base.scope number x rest)
        (from_takes declarators base.scope known d base.ty v.made (record {
          fits = v.fits;
          there = let less : number < length s.structs = h.there in let more_ : length s.structs ≤ length base.scope.structs = v.more_structs in omega (arith, less, more_);
          counted = h.counted ∙ ap (λ (counts : ℕ → ℕ). counts number) (sym v.members);
          same_slots = v.slots ∙ h.same_slots;
          types = h.types;
        }))
        (λ x e w. reaches_as first (AllInside base.scope) (AllInside s) e (all_members base.scope number x rest) (all_take rest base.scope x e w) (λ y f z. record { inside = z.inside; blocks = z.blocks ∙ v.blocks })))
    all_take (more _ rest) s known c h = record { reached = tt }

    -- ---- the struct is complete

    complete_fits : (s : Scope) (known : Members) (c : Counts) → Inside s known c → Fits first Nothing c (record s { structs = with_members_at number known s.structs })
    complete_fits s known c h =
        let l : length (with_members_at number known s.structs) ≡ length s.structs = as_many s.structs number known in
        record {
          structs = h.fits.structs ∙ sym l;
          below = subst (λ n. first ≤ n) (sym l) h.fits.below;
          tagged = λ name n e. let p = h.fits.tagged name n e in (p.0, subst (λ m. n < m) (sym l) p.1);
          members = λ n found own e. members_by n found own (at_completed s.structs number n known found e);
          none_yet = λ n found e open_ closed_. none_by n found open_ (at_completed s.structs number n known found e);
          fresh = λ n far. h.fits.fresh n (subst (λ m. m ≤ n) l far);
          types = λ n k found m own e f. types_by n k found m own f (at_completed s.structs number n known found e);
          files = h.fits.files;
          locals = h.fits.locals;
        }
      where
        members_by : (n : ℕ) (found : Struct) → first ≤ n → ((n ≡ number) × (found.members ≡ known.members) × (found.complete ≡ true)) ⊎ ((n ≡ number → ⊥) × (slice_get s.structs n ≡ Some found)) → length found.members ≤ c.members n
        members_by n found own (inl e) =
            let all : length found.members ≡ length known.members = ap length e.1 in
            let counts : length known.members ≡ c.members n = h.counted ∙ ap c.members (sym e.0) in
            omega (arith, all, counts)
        members_by n found own (inr e) = h.fits.members n found own e.1

        types_by :
            (n k : ℕ) (found : Struct) (m : PlainMember) → first ≤ n → slice_get found.members k ≡ Some m
            → ((n ≡ number) × (found.members ≡ known.members) × (found.complete ≡ true)) ⊎ ((n ≡ number → ⊥) × (slice_get s.structs n ≡ Some found)) → Made (tags_from first) m.ty
        types_by n k found m own f (inl e) = h.types k m (ap (λ (ms : List PlainMember). slice_get ms k) (sym e.1) ∙ f)
        types_by n k found m own f (inr e) = h.fits.types n k found m own e.1 f

        none_by : (n : ℕ) (found : Struct) → found.complete ≡ false → ((n ≡ number) × (found.members ≡ known.members) × (found.complete ≡ true)) ⊎ ((n ≡ number → ⊥) × (slice_get s.structs n ≡ Some found)) → c.members n ≡ 0
        none_by n found open_ (inl e) = absurd (false≢true (sym open_ ∙ e.2))
        none_by n found open_ (inr e) = h.fits.none_yet n found e.1 open_ e.0

  -- ---- the definition

  open_fits : (number : ℕ) (c : Counts) (s : Scope) → Fits first Nothing c s → Fits first (Open number) c s
  open_fits number c s h = record {
    structs = h.structs;
    below = h.below;
    tagged = h.tagged;
    members = h.members;
    none_yet = λ n found e open_ closed_. h.none_yet n found e open_ absurd;
    fresh = h.fresh;
    types = h.types;
    files = h.files;
    locals = h.locals;
  }

  -- what a struct's definition leaves
  pub record StructThen (unit : UnitState) (c : Counts) (x : UnitState) (d : Counts) : Type 0 where
    pub fits : Fits first Nothing d x.scope
    pub blocks : x.scope.blocks ≡ unit.scope.blocks
    pub slots : d.slots ≡ c.slots
    pub defined : x.defined ≡ unit.defined

  module _ (unit : UnitState) (c : Counts) (h : Fits first Nothing c unit.scope) where
    abbrev none_known : Members
    none_known = record { members = []; numbers = no_entry; scalars = 0 }

    abbrev finish : PlainTrees → Based → Checked UnitState
    finish parts base = all_members base.scope (number_of_struct base.ty) none_known parts >>= (λ x. give (with_scope unit (record x.scope { structs = with_members_at (number_of_struct base.ty) x.known x.scope.structs })))

    none_counted : (tag : PlainToken) (base : Based) (d : Counts) (v : Tagged first Nothing c unit.scope tag.text base d) → is_defined_tag unit.scope (unit.scope.tags tag.text) ≡ false → 0 ≡ d.members v.number
    none_counted tag base d v undefined = by v.was
      where
        by : (unit.scope.tags tag.text ≡ Some v.number) ⊎ (d.members v.number ≡ 0) → 0 ≡ d.members v.number
        by (inl e) =
            let there = there_is unit.scope.structs v.number (h.tagged tag.text v.number e).1 in
            let defined : is_defined_struct (slice_get unit.scope.structs v.number) ≡ false = sym (ap (is_defined_tag unit.scope) e) ∙ undefined in
            sym (ap (λ (counts : ℕ → ℕ). counts v.number) v.words.members ∙ h.none_yet v.number there.0 there.1 (undefined_struct unit.scope.structs v.number there.0 there.1 defined) absurd)
        by (inr e) = sym e

    finished : (parts : PlainTrees) (tag : PlainToken) (base : Based) (d : Counts) → Tagged first Nothing c unit.scope tag.text base d → is_defined_tag unit.scope (unit.scope.tags tag.text) ≡ false → Reaches first (StructThen unit c) d (finish parts base)
    finished parts tag base d v undefined =
        let n : ℕ = v.number in
        subst (λ m. Reaches first (StructThen unit c) d (all_members base.scope m none_known parts >>= (λ x. give (with_scope unit (record x.scope { structs = with_members_at m x.known x.scope.structs }))))) (sym (ap number_of_struct v.ty))
        (reaches_then first (AllInside d.slots n base.scope) (StructThen unit c) d (all_members base.scope n none_known parts) (λ x. give (with_scope unit (record x.scope { structs = with_members_at n x.known x.scope.structs })))
        (all_take d.slots n parts base.scope none_known d (record { fits = open_fits n d base.scope v.words.fits; there = v.there; counted = none_counted tag base d v undefined; same_slots = refl; types = λ k m e. absurd (none-some m e) }))
        (λ x e w. reaches_give first (StructThen unit c) e (with_scope unit (record x.scope { structs = with_members_at n x.known x.scope.structs })) (record {
          fits = complete_fits d.slots n x.scope x.known e w.inside;
          blocks = w.blocks ∙ v.words.blocks;
          slots = w.inside.same_slots ∙ v.words.slots;
          defined = refl;
        })))

    pub struct_takes : (words parts : PlainTrees) → has_terminal t.Struct words ≡ true → Reaches first (StructThen unit c) c (defined_struct unit words parts)
    struct_takes words parts has = by (name_in words) (has_terminal t.Struct words) has
      where
        undefined_then : (parts : PlainTrees) (tag : PlainToken) (b : Bool) → is_defined_tag unit.scope (unit.scope.tags tag.text) ≡ b → Reaches first (StructThen unit c) c (unless_so (not b) Redeclared tag >>= (λ new_. give tag >>= (λ tag_. based_on_tag true unit.scope tag_ (unit.scope.tags tag_.text)) >>= finish parts))
        undefined_then parts tag true e = record { reached = tt }
        undefined_then parts tag false e =
            given_then first (StructThen unit c) c (tt {0}) (λ new_. give tag >>= (λ tag_. based_on_tag true unit.scope tag_ (unit.scope.tags tag_.text)) >>= finish parts)
            (reaches_then first (Tagged first Nothing c unit.scope tag.text) (StructThen unit c) c (give tag >>= (λ tag_. based_on_tag true unit.scope tag_ (unit.scope.tags tag_.text))) (finish parts)
            (given_then first (Tagged first Nothing c unit.scope tag.text) c tag (λ tag_. based_on_tag true unit.scope tag_ (unit.scope.tags tag_.text)) (tag_takes first Nothing c unit.scope h tag (unit.scope.tags tag.text) refl))
            (λ base d v. finished parts tag base d v e))

        by :
            (o : Option PlainToken) (b : Bool) → b ≡ true
            → Reaches first (StructThen unit c) c (or_broken o >>= (λ tag. unless_so (not (is_defined_tag unit.scope (unit.scope.tags tag.text))) Redeclared tag
            >>= (λ new_. (if b then or_broken o >>= (λ tag_. based_on_tag true unit.scope tag_ (unit.scope.tags tag_.text)) else give (record { ty = arithmetic_words words; scope = unit.scope })) >>= finish parts)))
        by None b e = record { reached = tt }
        by (Some tag) true e = given_then first (StructThen unit c) c tag
            (λ tag_. unless_so (not (is_defined_tag unit.scope (unit.scope.tags tag_.text))) Redeclared tag_ >>= (λ new_. give tag >>= (λ z. based_on_tag true unit.scope z (unit.scope.tags z.text)) >>= finish parts))
            (undefined_then parts tag (is_defined_tag unit.scope (unit.scope.tags tag.text)) refl)
        by (Some tag) false e = absurd (false≢true e)
