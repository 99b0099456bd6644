-- What comes of words that may declare a struct, and of the tables.
use Rattle.std.proofs.Common.{◌≡◌, ℕ, Bool, true, false, not, ◌&&◌, ◌||◌, List, [], ◌∷◌, length, IsTrue, refl, sym, ap, ◌∙◌, subst}
use Rattle.std.specs.Prelude.{◌==◌, Option, Some, None, option_map, if◌then◌else◌}
use Rattle.std.specs.Str.{bytes_eq}
use Rattle.std.specs.Cmp.Lexicographic.{bytes_decides}
use Rattle.std.proofs.lemmas.Bool.{eqb-true, false≢true}
use Rattle.c_text.specs.Token.{PlainToken}
use Rattle.c_types.specs.Types.{PlainType, structure}
use Rattle.c_tree.specs.declared.terminals.Terminal.TheVariants.{Struct}
use Rattle.c_tree.specs.Trees.{PlainTree, PlainTrees}
use Rattle.cond_formula.specs.Conditions.{Condition, value}
use Rattle.conditional.specs.Entries.{Entry, seen}
use Rattle.conditional.specs.Judgements.{Checked, fine, refused, Shows, Judges}
use Rattle.conditional.specs.declared.outcomes.Outcomes.{Outcomes}
use Rattle.conditional.proofs.JudgementLaws.{weaken}
use Rattle.core_meaning.specs.Checking as judging
use Rattle.core_meaning.specs.Checking.{◌>>=◌, or_broken, give}
use Rattle.core_meaning.specs.Entities.{with_entry, Scope}
use Rattle.core_meaning.specs.Entities as entities
use Rattle.core_meaning.specs.Expressions.{has_terminal, arithmetic_words}
use Rattle.core_meaning.specs.Declarations.{Based, based_on_tag, based, name_in, with_struct}
use Rattle.operand_types.specs.OperandTypes.{renumbered}
use Rattle.operand_rules.specs.declared.operands.Refused.{Refused}
use Rattle.operand_rules.specs.PlainOperandTypes.{reason}
use Rattle.plain_declarators.specs.Sequences.{bind_nothing}
use Rattle.type_tables.specs.Forms.{declared_type_form}
use Rattle.type_tables.specs.Tables.{Tables}
use Rattle.type_tables.specs.Steps.{with_declared, where_true}
use Rattle.type_tables.specs.Questions.{where_declared}
use Rattle.type_tables.specs.declared.entries.DeclaredType.{DeclaredType}
use Rattle.type_tables.proofs.Same.{structs_same}
use Rattle.type_tables.proofs.StructSteps.{same_text}
use Rattle.type_tables.specs.Follows.{IsThere, Follows}
use Rattle.type_tables.specs.Numbers.{NumbersKept}
use Rattle.type_tables.proofs.Options.{some_same}
use Rattle.type_tables.proofs.StructLaws.{struct_declared, numbers_kept}
use Rattle.cond_declarators.specs.Types.{ShowsType, based_in, base_type}
use Rattle.cond_declarators.specs.DeclaredBases.{IsBased, DeclaresBase, DeclaresHere, DeclaresNext}
use Rattle.cond_declarators.proofs.WordTypes.{arithmetic_renumbered, arithmetic_without}
use Rattle.cond_declarators.proofs.There.{nothing_there, tag_there}

-- ---- tables that are the same follow the same scopes

pub still_follows : (old new : Tables) (scope : Scope) (f : Follows old scope) → new ≡ old → (g : Follows new scope) × (f.by ≡ g.by)
still_follows old new scope f same = subst (λ (t : Tables). (g : Follows t scope) × (f.by ≡ g.by)) (sym same) (f, refl)

kept_by : (structs : List entities.Struct) (by other : ℕ → ℕ) → by ≡ other → NumbersKept structs by other
kept_by structs by other same n s e = ap (λ (f : ℕ → ℕ). f n) same

-- where nothing changes, the scope is the same behind the words
pub based_unchanged :
    (comes : Checked PlainType (Unit {0}) → Type 0) (old new : Tables) (scope : Scope) (f : Follows old scope) (ty : PlainType) → new ≡ old → IsThere scope.structs ty
    → comes (fine (renumbered f.by ty)) → IsBased comes scope f.by new (record { ty = ty; scope = scope })
based_unchanged comes old new scope f ty same there shows =
    let g = still_follows old new scope f same in
    record { follows = g.0; kept = kept_by scope.structs f.by g.0.by g.1; shows = subst (λ by. comes (fine (renumbered by ty))) g.1 shows; there = there }

pub comes_as :
    (comes also : Checked PlainType (Unit {0}) → Type 0) → ((v : Checked PlainType (Unit {0})) → comes v → also v) → (scope : Scope) (by : ℕ → ℕ) (old new : Tables) (c : judging.Checked Based)
    → DeclaresBase comes scope by old new c → DeclaresBase also scope by old new c
comes_as comes also same scope by old new (judging.fine b bindings) is = record { follows = is.follows; kept = is.kept; shows = same (fine (base_type is.follows.by b)) is.shows; there = is.there }
comes_as comes also same scope by old new (judging.refused kind token) is = record { shows = same (refused tt) is.shows; same = is.same }
comes_as comes also same scope by old new judging.broken is = record { shows = same (refused tt) is.shows; same = is.same }

-- ---- a struct that is declared

visible_or_not : (b : Bool) (number m : ℕ) → (if b then Some number else None) ≡ Some m → (b ≡ true) × (number ≡ m)
visible_or_not true number m e = (refl, some_same number m e)
visible_or_not false number m e = absurd cc

not_visible : (b : Bool) (number : ℕ) → (if b then Some number else None) ≡ None → b ≡ false
not_visible true number e = absurd cc
not_visible false number e = refl

-- a struct that is declared already is the same when it is declared again
declared_again : (t : Tables) (tag : List ℕ) (number : ℕ) → t.tags tag ≡ Some number → t.declared number ≡ true → with_declared tag number t ≡ t
declared_again t tag number placed is =
    structs_same t (λ n. if n == number then true else t.declared n) t.complete t.members t.scalars (λ n. if n == number && not (t.declared n) then tag else t.named n) (with_entry t.tags tag number)
    (λ n. each n (n == number) refl) (λ n. refl) (λ n. refl) (λ n. refl) (λ n. still_named n (n == number) refl) (λ other. named other (bytes_eq other tag) refl)
  where
    each : (n : ℕ) (b : Bool) → (n == number) ≡ b → (if b then true else t.declared n) ≡ t.declared n
    each n true e = sym (ap t.declared (eqb-true n number e) ∙ is)
    each n false e = refl

    still_named : (n : ℕ) (b : Bool) → (n == number) ≡ b → (if b && not (t.declared n) then tag else t.named n) ≡ t.named n
    still_named n true e = ap (λ d. if not d then tag else t.named n) (ap t.declared (eqb-true n number e) ∙ is)
    still_named n false e = refl

    named : (other : List ℕ) (b : Bool) → bytes_eq other tag ≡ b → (if b then Some number else t.tags other) ≡ t.tags other
    named other true e = sym (ap t.tags ((bytes_decides other tag).0 e) ∙ placed)
    named other false e = refl

module _ (old new : Tables) (tag : PlainToken) (number : ℕ) (visible : old.tags tag.text ≡ where_declared old (Some number)) (now : new ≡ with_declared tag.text number old)
    (scope : Scope) (f : Follows old scope) where
  found_again : (n : ℕ) → scope.tags tag.text ≡ Some n → DeclaresBase (λ v. fine (structure number) ≡ v) scope f.by old new (based_on_tag true scope tag (Some n))
  found_again n e =
      let found = visible_or_not (old.declared number) number (f.by n) (sym visible ∙ (f.tags tag.text ∙ ap (option_map f.by) e)) in
      based_unchanged (λ v. fine (structure number) ≡ v) old new scope f (structure n)
      (now ∙ declared_again old tag.text number (visible ∙ ap (λ b. if b then Some number else None) found.0) found.0)
      (tag_there true old scope f tag (Some n) e) (ap (λ m. fine (structure m)) found.1)

  newly_found : scope.tags tag.text ≡ None → DeclaresBase (λ v. fine (structure number) ≡ v) scope f.by old new (based_on_tag true scope tag None)
  newly_found e =
      let undeclared = not_visible (old.declared number) number (sym visible ∙ (f.tags tag.text ∙ ap (option_map f.by) e)) in
      let g = still_follows (with_declared tag.text number old) new (with_struct scope tag.text) (struct_declared old scope f tag.text number undeclared) now in
      let numbered : number ≡ g.0.by (length scope.structs) =
      some_same number (g.0.by (length scope.structs))
      (sym (ap (λ (t : Tables). t.tags tag.text) now ∙ ap (λ b. if b then Some number else old.tags tag.text) (same_text tag.text))
      ∙ (g.0.tags tag.text ∙ ap (λ b. option_map g.0.by (if b then Some (length scope.structs) else scope.tags tag.text)) (same_text tag.text))) in
      record {
        follows = g.0;
        kept = λ n s there. numbers_kept old scope f tag.text number undeclared n s there ∙ ap (λ (by : ℕ → ℕ). by n) g.1;
        shows = ap (λ m. fine (structure m)) numbered;
        there = tag_there true old scope f tag None e;
      }

  tag_based : (o : Option ℕ) → scope.tags tag.text ≡ o → DeclaresBase (λ v. fine (structure number) ≡ v) scope f.by old new (based_on_tag true scope tag o)
  tag_based (Some n) e = found_again n e
  tag_based None e = newly_found e

pub tag_declares : (old new : Tables) (here : Bool) (tag : PlainToken) (number : ℕ) → old.tags tag.text ≡ where_declared old (Some number) → new ≡ where_true here (with_declared tag.text number) old
    → DeclaresHere here (λ scope. based_on_tag true scope tag (scope.tags tag.text)) old new (fine (structure number))
tag_declares old new here tag number visible is = record {
  elsewhere = λ h. is ∙ ap (λ b. where_true b (with_declared tag.text number) old) h;
  declares = λ h scope f.
      tag_based old new tag number visible (is ∙ ap (λ b. where_true b (with_declared tag.text number) old) h) scope f (scope.tags tag.text) refl;
}

-- ---- words

pub declares_as : (here : Bool) (judged other : Scope → judging.Checked Based) (old new : Tables) (outcome : Checked PlainType (Unit {0})) → ((scope : Scope) → judged scope ≡ other scope)
    → DeclaresHere here judged old new outcome → DeclaresHere here other old new outcome
declares_as here judged other old new outcome same d = record {
  elsewhere = d.elsewhere;
  declares = λ h scope f. subst (DeclaresBase (λ v. outcome ≡ v) scope f.by old new) (same scope) (d.declares h scope f);
}

pub arithmetic_declares : (here : Bool) (words : PlainTrees) (t : Tables) → has_terminal Struct words ≡ false → DeclaresHere here (λ scope. based true scope words) t t (fine (arithmetic_words words))
arithmetic_declares here words t is = record {
  elsewhere = λ h. refl;
  declares = λ h scope f.
      subst
      (λ b. DeclaresBase (λ v. fine (arithmetic_words words) ≡ v) scope f.by t t
      (if b then or_broken (name_in words) >>= (λ tag. based_on_tag true scope tag (scope.tags tag.text)) else give (record { ty = arithmetic_words words; scope = scope })))
      (sym is)
      (based_unchanged (λ v. fine (arithmetic_words words) ≡ v) t t scope f (arithmetic_words words) refl (nothing_there scope.structs (arithmetic_words words) (arithmetic_without words))
      (ap fine (sym (arithmetic_renumbered f.by words))));
}

pub broken_declares : (here : Bool) (judged : Scope → judging.Checked Based) (t : Tables) → ((scope : Scope) → judged scope ≡ judging.broken) → DeclaresHere here judged t t (refused tt)
broken_declares here judged t is =
    declares_as here (λ scope. judging.broken) judged t t (refused tt) (λ scope. sym (is scope))
    (record { elsewhere = λ h. refl; declares = λ h scope f. record { shows = refl; same = refl } })

pub nameless_broken : (words : PlainTrees) (scope : Scope) → has_terminal Struct words ≡ true → name_in words ≡ None → based true scope words ≡ judging.broken
nameless_broken words scope is none =
    ap (λ b. if b then or_broken (name_in words) >>= (λ tag. based_on_tag true scope tag (scope.tags tag.text)) else give (record { ty = arithmetic_words words; scope = scope })) is
    ∙ ap (λ name. or_broken name >>= (λ tag. based_on_tag true scope tag (scope.tags tag.text))) none

pub named_based : (words : PlainTrees) (tag : PlainToken) (scope : Scope) → has_terminal Struct words ≡ true → name_in words ≡ Some tag
    → based_on_tag true scope tag (scope.tags tag.text) ≡ based true scope words
named_based words tag scope is named =
    sym
    (ap (λ b. if b then or_broken (name_in words) >>= (λ tag. based_on_tag true scope tag (scope.tags tag.text)) else give (record { ty = arithmetic_words words; scope = scope })) is
    ∙ (ap (λ name. or_broken name >>= (λ tag. based_on_tag true scope tag (scope.tags tag.text))) named ∙ bind_nothing (based_on_tag true scope tag (scope.tags tag.text))))

-- ---- words of which one tree or another stands

or_nothing : (b t : Bool) → t ≡ false → IsTrue b → IsTrue (b || t)
or_nothing true t e h = refl
or_nothing false t e h = cc

never : {A : Type 0} (t : Bool) → t ≡ false → IsTrue t → A
never true e h = absurd cc
never false e h = absurd cc

pub next_placed :
    (on : ℕ → Bool) (stands : Bool) (here : Condition) (words : PlainTree) (old new : Tables) (outcome : Checked PlainType (Unit {0})) (before after : Outcomes DeclaredType Refused)
    → value on here ≡ stands → DeclaresHere (value on here) (λ scope. based_in true scope words) old new outcome → Judges declared_type_form reason on here outcome before after
    → DeclaresNext on stands words old new before after
next_placed on stands here words old new outcome before after is d judged = record {
  elsewhere = λ h. d.elsewhere (is ∙ h);
  shown = λ h b v s.
      weaken declared_type_form reason on (b || value on here) b v after (or_nothing b (value on here) (is ∙ h)) (judged.shows b v s (never (value on here) (is ∙ h)));
  declares = λ h scope f nothing.
      comes_as (λ v. outcome ≡ v) (λ v. ShowsType on v after)
      (λ v e. subst (λ b. Shows declared_type_form reason on b v after) (is ∙ h) (judged.shows false v (nothing v) (λ t. e))) scope f.by old new (based_in true scope words)
      (d.declares (is ∙ h) scope f);
}

pub none_placed : (on : ℕ → Bool) (stands : Bool) (words : PlainTree) (t : Tables) (all : Outcomes DeclaredType Refused) → stands ≡ false → DeclaresNext on stands words t t all all
none_placed on stands words t all is = record {
  elsewhere = λ h. refl;
  shown = λ h b v s. s;
  declares = λ h. absurd (false≢true (sym is ∙ h));
}

module _ (on : ℕ → Bool) (words : PlainTree) (scope : Scope) (start : Tables) (f : Follows start scope) where
  -- the tree that stands is among the rest, and nothing has come of others; or what comes of it is shown
  pub data DeclaredSoFar (rest : List (Entry PlainTree)) (now : Tables) (all : Outcomes DeclaredType Refused) : Type 0 where
    ahead : seen on rest ≡ words ∷ [] → now ≡ start → ((v : Checked PlainType (Unit {0})) → Shows declared_type_form reason on false v all) → DeclaredSoFar rest now all
    behind : seen on rest ≡ [] → DeclaresBase (λ v. ShowsType on v all) scope f.by start now (based_in true scope words) → DeclaredSoFar rest now all

  same_first : (x y : PlainTree) (xs : List PlainTree) → x ∷ xs ≡ y ∷ [] → x ≡ y
  same_first x y xs e = cc

  none_behind : (x y : PlainTree) (xs : List PlainTree) → x ∷ xs ≡ y ∷ [] → xs ≡ []
  none_behind x y xs e = cc

  pub declared_next : (x : Entry PlainTree) (rest : List (Entry PlainTree)) (old new : Tables) (before after : Outcomes DeclaredType Refused)
      → DeclaresNext on (value on x.when) x.what old new before after → DeclaredSoFar (x ∷ rest) old before → DeclaredSoFar rest new after
  declared_next x rest old new before after d (ahead is same nothing) = by (value on x.when) refl is
    where
      by : (t : Bool) → value on x.when ≡ t → (if t then x.what ∷ seen on rest else seen on rest) ≡ words ∷ [] → DeclaredSoFar rest new after
      by true e h =
          let g = still_follows start old scope f same in
          behind (none_behind x.what words (seen on rest) h)
          (subst (λ t. DeclaresBase (λ v. ShowsType on v after) scope f.by t new (based_in true scope words)) same
          (subst (λ (by : ℕ → ℕ). DeclaresBase (λ v. ShowsType on v after) scope by old new (based_in true scope words)) (sym g.1)
          (subst (λ w. DeclaresBase (λ v. ShowsType on v after) scope g.0.by old new (based_in true scope w)) (same_first x.what words (seen on rest) h)
          (d.declares e scope g.0 nothing))))
      by false e h = ahead h (d.elsewhere e ∙ same) (λ v. d.shown e false v (nothing v))
  declared_next x rest old new before after d (behind is done) = by (value on x.when) refl is
    where
      by : (t : Bool) → value on x.when ≡ t → (if t then x.what ∷ seen on rest else seen on rest) ≡ [] → DeclaredSoFar rest new after
      by true e h = absurd cc
      by false e h =
          behind h
          (subst (λ t. DeclaresBase (λ v. ShowsType on v after) scope f.by start t (based_in true scope words)) (sym (d.elsewhere e))
          (comes_as (λ v. ShowsType on v before) (λ v. ShowsType on v after) (λ v. d.shown e true v) scope f.by start old (based_in true scope words) done))

  pub declared_end : (now : Tables) (all : Outcomes DeclaredType Refused) → DeclaredSoFar [] now all → DeclaresBase (λ v. ShowsType on v all) scope f.by start now (based_in true scope words)
  declared_end now all (ahead is same nothing) = absurd cc
  declared_end now all (behind is done) = done
