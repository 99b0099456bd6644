-- How far the members have come behind one declaration more.
use Rattle.std.proofs.Common.{◌≡◌, ℕ, Bool, true, false, ◌&&◌, ◌||◌, List, [], ◌∷◌, refl, sym, ap, ◌∙◌, subst}
use Rattle.std.specs.Prelude.{Option, Some, None, if◌then◌else◌}
use Rattle.std.proofs.lemmas.Bool.{false≢true}
use Rattle.c_text.specs.Token.{PlainToken}
use Rattle.c_types.specs.Types.{void}
use Rattle.c_tree.specs.declared.terminals.Terminal.TheVariants as t
use Rattle.c_tree.specs.Trees.{PlainTree, PlainTrees, leaf, node}
use Rattle.bindings.proofs.Tags.{kept_left}
use Rattle.conditional.specs.Entries.{some_holds, entries_of}
use Rattle.conditional.specs.Judgements.{fine, refused}
use Rattle.conditional.specs.declared.outcomes.Outcomes.{Outcomes}
use Rattle.core_meaning.specs.Checking as judging
use Rattle.core_meaning.specs.Checking.{Binding, with_bindings, ◌>>=◌, give, or_broken}
use Rattle.core_meaning.specs.Entities.{Struct, Scope}
use Rattle.core_meaning.specs.Expressions.{has_terminal, arithmetic_words}
use Rattle.core_meaning.specs.Declarations.{Based, based, based_on_tag, name_in, new_struct}
use Rattle.core_meaning.specs.UnitNames.{Members, AllMembers}
use Rattle.declaration_readings.specs.Readings.{Going, after}
use Rattle.operand_types.specs.OperandTypes.{renumbered}
use Rattle.operand_rules.specs.declared.operands.Refused.{Refused}
use Rattle.operand_rules.specs.PlainOperandTypes.{reason}
use Rattle.type_tables.specs.Tables.{Tables}
use Rattle.type_tables.specs.declared.entries.DeclaredType.{DeclaredType}
use Rattle.type_tables.specs.Follows.{types_of, Follows}
use Rattle.type_tables.specs.Numbers.{NumbersKept}
use Rattle.type_tables.proofs.Renumbering.{members_same, all_still_there}
use Rattle.cond_declarators.specs.Types.{ShowsType, based_in}
use Rattle.cond_declarators.specs.DeclaredBases.{DeclaresBase}
use Rattle.cond_structs.specs.Gathered.{Gathered, refuse}
use Rattle.cond_structs.specs.Standing.{Gathers, GathersSoFar, Keep, StandsAt, StandsSoFar}
use Rattle.cond_structs.specs.Walks.{members_in, declared_next}
use Rattle.cond_structs.specs.Declaring.{Declaring, IsBefore}
use Rattle.cond_structs.proofs.OneMember.{after_stays, both_refused}
use Rattle.cond_structs.proofs.Outcome.{refuse_false, refused_holds}

-- ---- structs that words declare

abbrev pub KeptIn : Scope → judging.Checked Based → Type 0
KeptIn scope (judging.fine b bindings) = Keep scope.structs b.scope.structs
KeptIn scope (judging.refused kind token) = Rattle.std.specs.Prelude.⊤
KeptIn scope judging.broken = Rattle.std.specs.Prelude.⊤

tag_keeps : (scope : Scope) (tag : PlainToken) (o : Option ℕ) → KeptIn scope (based_on_tag true scope tag o)
tag_keeps scope tag (Some n) = λ m s e. (s, e)
tag_keeps scope tag None = λ m s e. (s, kept_left scope.structs (new_struct tag.text ∷ []) m s e)

bound_keeps : (scope : Scope) (c : judging.Checked Based) → KeptIn scope c → KeptIn scope (with_bindings [] c)
bound_keeps scope (judging.fine b bindings) h = h
bound_keeps scope (judging.refused kind token) h = tt
bound_keeps scope judging.broken h = tt

name_keeps : (scope : Scope) (name : Option PlainToken) → KeptIn scope (or_broken name >>= (λ tag. based_on_tag true scope tag (scope.tags tag.text)))
name_keeps scope None = tt
name_keeps scope (Some tag) = bound_keeps scope (based_on_tag true scope tag (scope.tags tag.text)) (tag_keeps scope tag (scope.tags tag.text))

words_keep : (scope : Scope) (words : PlainTrees) → KeptIn scope (based true scope words)
words_keep scope words = by (has_terminal t.Struct words)
  where
    by : (b : Bool) → KeptIn scope (if b then or_broken (name_in words) >>= (λ tag. based_on_tag true scope tag (scope.tags tag.text)) else give (record { ty = arithmetic_words words; scope = scope }))
    by true = name_keeps scope (name_in words)
    by false = λ m s e. (s, e)

pub based_keeps : (scope : Scope) (words : PlainTree) → KeptIn scope (based_in true scope words)
based_keeps scope (leaf token) = tt
based_keeps scope (node kind words) = words_keep scope words

-- ---- a declaration

or_stays : (b c : Bool) → b ≡ true → (b || c) ≡ true
or_stays true c e = refl
or_stays false c e = absurd (false≢true e)

or_true : (b c : Bool) → c ≡ true → (b || c) ≡ true
or_true true c e = refl
or_true false c e = e

all_refused : (by : ℕ → ℕ) (before : List Struct) (t : Tables) (g : Gathered) (k : Going AllMembers) → g.refused ≡ true → k.refused ≡ true → StandsSoFar by before t g k
all_refused by before t g k e f = record { refused = e ∙ sym f; stands = λ h. absurd (false≢true (sym h ∙ f)) }

module _ (on : ℕ → Bool) (base : Outcomes DeclaredType Refused) (by : ℕ → ℕ) (before : List Struct) (number : ℕ) (k : Going AllMembers) (old new : Tables) (g mid out : Gathered) (list : PlainTree) where
  abbrev members_of : Bool → Going Members
  members_of refused_ = record { state = k.state.known; refused = refused_ }

  abbrev Lists : Bool → Type 0
  Lists here = (m : Declaring) → here ≡ m.here → GathersSoFar m.by m.scope.structs mid m.known → (m.here ≡ true → m.known.refused ≡ false → IsBefore on new base m)
      → GathersSoFar m.by m.scope.structs out (if m.here then after m.known (members_in m.scope m.number m.known.state m.ty list) else m.known)

  -- what was refused before
  stays_refused : (here : Bool) → Lists here → mid.refused ≡ true → out.refused ≡ true
  stays_refused true lists r =
      (lists (record { scope = k.state.scope; number = number; ty = void; by = by; here = true; known = members_of true }) refl (both_refused by k.state.scope.structs mid (members_of true) r refl) (λ h e. absurd (false≢true (sym e)))).refused
      ∙ after_stays (members_of true) (members_in k.state.scope number k.state.known void list) refl
  stays_refused false lists r =
      (lists (record { scope = k.state.scope; number = number; ty = void; by = by; here = false; known = members_of true }) refl (both_refused by k.state.scope.structs mid (members_of true) r refl) (λ h e. absurd (false≢true (sym e)))).refused

  -- a declaration that isn't there
  elsewhere_stands : Lists false → mid ≡ g → new ≡ old → StandsSoFar by before old g k → StandsSoFar by before new out k
  elsewhere_stands lists same there s = subst (λ t. StandsSoFar by before t out k) (sym there) (at k.refused refl)
    where
      at : (b : Bool) → k.refused ≡ b → StandsSoFar by before old out k
      at true e = all_refused by before old out k (stays_refused false lists (ap (λ (x : Gathered). x.refused) same ∙ s.refused ∙ e)) e
      at false e =
          let st = s.stands e in
          let got = lists (record { scope = k.state.scope; number = number; ty = void; by = st.follows.by; here = false; known = members_of false }) refl
          (record { refused = ap (λ (x : Gathered). x.refused) same ∙ s.refused ∙ e; gathers = λ h. subst (λ x. Gathers st.follows.by k.state.scope.structs x k.state.known) (sym same) st.gathers }) (λ h r. absurd (false≢true h)) in
          record { refused = got.refused ∙ sym e; stands = λ h. record { follows = st.follows; kept = st.kept; keep = st.keep; gathers = got.gathers refl } }

  module _ (e : k.refused ≡ false) (st : StandsAt by before old g k.state) (lists : Lists true) where
    -- what the declarators come to
    declared_stands : (b : Based) (bindings : List Binding) (c : judging.Checked Members) → (follows : Follows new b.scope) → NumbersKept k.state.scope.structs st.follows.by follows.by → Keep k.state.scope.structs b.scope.structs
        → GathersSoFar follows.by b.scope.structs out (after (members_of false) c)
        → StandsSoFar by before new out (after k (with_bindings bindings (c >>= (λ known. give (record { scope = b.scope; known = known })))))
    declared_stands b bindings (judging.fine known more_) follows kept keep got = record {
      refused = got.refused ∙ sym e;
      stands = λ h. record {
        follows = follows;
        kept = λ n s there. let found = st.keep n s there in st.kept n s there ∙ kept n found.0 found.1;
        keep = λ n s there. let found = st.keep n s there in keep n found.0 found.1;
        gathers = got.gathers refl;
      };
    }
    declared_stands b bindings (judging.refused kind token) follows kept keep got = all_refused by before new out _ got.refused refl
    declared_stands b bindings judging.broken follows kept keep got = all_refused by before new out _ got.refused refl

    abbrev NextOf : judging.Checked Based → judging.Checked AllMembers
    NextOf c = c >>= (λ b. members_in b.scope number k.state.known b.ty list >>= (λ known. give (record { scope = b.scope; known = known })))

    -- what the words come to
    based_stands : (c : judging.Checked Based) → KeptIn k.state.scope c → DeclaresBase (λ v. ShowsType on v base) k.state.scope st.follows.by old new c
        → mid ≡ refuse (some_holds on (entries_of reason base.refused.entries.items)) g → g.refused ≡ false → StandsSoFar by before new out (after k (NextOf c))
    based_stands (judging.fine b bindings) keep is mid_is accepted =
        let same : mid ≡ g = mid_is ∙ refuse_false g _ (refused_holds on base (fine (renumbered is.follows.by b.ty)) is.shows) in
        declared_stands b bindings (members_in b.scope number k.state.known b.ty list) is.follows is.kept keep
        (lists (record { scope = b.scope; number = number; ty = b.ty; by = is.follows.by; here = true; known = members_of false }) refl
        (record {
          refused = ap (λ (x : Gathered). x.refused) same ∙ accepted;
          gathers = λ h. subst (λ x. Gathers is.follows.by b.scope.structs x k.state.known) (sym same) (record {
            members = st.gathers.members ∙ members_same k.state.scope.structs st.follows.by is.follows.by is.kept k.state.known.members st.gathers.there;
            scalars = st.gathers.scalars;
            numbers = st.gathers.numbers;
            there = all_still_there k.state.scope.structs b.scope.structs keep (types_of k.state.known.members) st.gathers.there;
          });
        })
        (λ h r. record { follows = is.follows; numbers = refl; shows = is.shows; there = is.there }))
    based_stands (judging.refused kind token) keep is mid_is accepted =
        all_refused by before new out _ (stays_refused true lists (ap (λ (x : Gathered). x.refused) mid_is ∙ or_true g.refused _ (refused_holds on base (refused tt) is.shows))) refl
    based_stands judging.broken keep is mid_is accepted =
        all_refused by before new out _ (stays_refused true lists (ap (λ (x : Gathered). x.refused) mid_is ∙ or_true g.refused _ (refused_holds on base (refused tt) is.shows))) refl

pub declaration_stands :
    (on : ℕ → Bool) (base : Outcomes DeclaredType Refused) (by : ℕ → ℕ) (before : List Struct) (number : ℕ) (k : Going AllMembers) (old new : Tables) (g mid out : Gathered) (words list : PlainTree) (here found : Bool)
    → (here ≡ false → new ≡ old) → (here ≡ true → (scope : Scope) (f : Follows old scope) → DeclaresBase (λ v. ShowsType on v base) scope f.by old new (based_in true scope words))
    → mid ≡ refuse found g → found ≡ (here && some_holds on (entries_of reason base.refused.entries.items))
    → Lists on base by before number k old new g mid out list here → StandsSoFar by before old g k
    → StandsSoFar by before new out (if here then declared_next number k (record { words = words; list = list }) else k)
declaration_stands on base by before number k old new g mid out words list false found elsewhere declares mid_is found_is lists s =
    elsewhere_stands on base by before number k old new g mid out list lists (mid_is ∙ refuse_false g found found_is) (elsewhere refl) s
declaration_stands on base by before number k old new g mid out words list true found elsewhere declares mid_is found_is lists s = at k.refused refl
  where
    at : (b : Bool) → k.refused ≡ b → StandsSoFar by before new out (declared_next number k (record { words = words; list = list }))
    at true e =
        all_refused by before new out _ (stays_refused on base by before number k old new g mid out list true lists (ap (λ (x : Gathered). x.refused) mid_is ∙ or_stays g.refused found (s.refused ∙ e)))
        (after_stays k _ e)
    at false e =
        let st = s.stands e in
        based_stands on base by before number k old new g mid out list e st lists (based_in true k.state.scope words) (based_keeps k.state.scope words) (declares refl k.state.scope st.follows)
        (mid_is ∙ ap (λ b. refuse b g) found_is) (s.refused ∙ e)
