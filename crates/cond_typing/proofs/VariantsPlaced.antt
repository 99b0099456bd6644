-- What is read of the variants, placed one after the other.
use Rattle.std.proofs.Common.{◌≡◌, ℕ, ◌+◌, ◌<◌, ◌≤◌, ◌||◌, Bool, true, false, List, [], ◌∷◌, ◌++◌, drop, length, get_or, Option, Some, None, IsTrue, refl, sym, ap, ◌∙◌, subst, append-nil}
use Rattle.std.proofs.Math.Bool.{or_assoc, or-false}
use Rattle.std.proofs.lemmas.List.{drop_all}
use Rattle.std.specs.Prelude.{option_map, if◌then◌else◌}
use Rattle.cond_formula.specs.Conditions.{Condition, condition_of, value}
use Rattle.conditional.specs.Entries.{Entry, listed, alternatives, seen, under, first, some_holds, Carry, Stands, Sees}
use Rattle.conditional.specs.Judgements.{Shows, JudgesUnder}
use Rattle.conditional.proofs.ListLaws.{item_of, with_true}
use Rattle.c_tree.specs.Trees.{PlainTrees, none}
use Rattle.choice_variants.specs.declared.parts.Variant.{Variant}
use Rattle.choice_variants.specs.Variants.{before, shown}
use Rattle.operand_rules.specs.PlainOperandTypes.{plain_operand_type, reason}
use Rattle.cond_operands.specs.Operands.{ShowsOperand}
use Rattle.expression_types.specs.Known.{Callable}
use Rattle.expression_types.specs.Reading.{Read}
use Rattle.cond_nodes.specs.declared.parts.CondRead.{CondRead}
use Rattle.cond_nodes.specs.Reads.{callee_number, ShowsRead}
use Rattle.cond_typing.proofs.MadeOfVariants.{made_by, made, stands_made}
use Rattle.cond_typing.specs.declared.variants.VariantReads.{VariantReads}
use Rattle.cond_typing.specs.Progress.{NamesSoFar, ShowsSoFar}

-- ---- variants one after the other

-- how far variants have been placed: what is shown of v depends on whether one of those placed holds
pub record VariantsSoFar {P S : Type 0} (on : ℕ → Bool) (SoFar : Bool → S → Type 0) (v : P) (whole rest : List (Entry P)) (all : S) : Type 0 where
  pub held : Bool
  pub same : (held || some_holds on rest) ≡ some_holds on whole
  pub left : Carry on v rest
  pub so_far : SoFar held all

module _ {P S : Type 0} (on : ℕ → Bool) (make : PlainTrees → P) (SoFar : Bool → S → Type 0) (trees : PlainTrees) (list : List Variant) where
  abbrev pub PlacedSoFar : ℕ → S → Type 0
  PlacedSoFar i all = VariantsSoFar on SoFar (make trees) (made on make list) (made on make (drop i list)) all

  pub none_placed : (all : S) → SoFar false all → Stands on trees (shown on list) → PlacedSoFar 0 all
  none_placed all start stands = record { held = false; same = refl; left = (stands_made on make trees list stands).carry; so_far = start }

  pub next_placed :
      (i : ℕ) (x : Variant) (old new : S) → i < length list → x ≡ get_or list i x → PlacedSoFar i old
      → ((held : Bool) → (IsTrue (value on (condition_of x.when)) → make (before on x.parts.items none) ≡ make trees) → SoFar held old → SoFar (held || value on (condition_of x.when)) new)
      → PlacedSoFar (i + 1) new
  next_placed i x old new within is so_far step = one_placed
      (subst (λ rest. VariantsSoFar on SoFar (make trees) (made on make list) (made on make rest) old) (item_of list x i within is) so_far)
    where
      one_placed : VariantsSoFar on SoFar (make trees) (made on make list) (made_by on make x ∷ made on make (drop (i + 1) list)) old → PlacedSoFar (i + 1) new
      one_placed here = record {
        held = here.held || value on (condition_of x.when);
        same = or_assoc here.held (value on (condition_of x.when)) (some_holds on (made on make (drop (i + 1) list))) ∙ here.same;
        left = here.left.1;
        so_far = step here.held here.left.0 here.so_far;
      }

  pub all_placed : (i : ℕ) (all : S) → length list ≤ i → PlacedSoFar i all → Stands on trees (shown on list) → SoFar true all
  all_placed i all past so_far stands = ended
      (subst (λ rest. VariantsSoFar on SoFar (make trees) (made on make list) (made on make rest) all) (drop_all i list past) so_far)
    where
      ended : VariantsSoFar on SoFar (make trees) (made on make list) [] all → SoFar true all
      ended here = subst (λ b. SoFar b all) (sym (or-false here.held) ∙ (here.same ∙ (stands_made on make trees list stands).held)) here.so_far

-- ---- the function that is named

none_next : {P : Type 0} (t some : Bool) (what : P) (rest : List P) → (some ≡ false → rest ≡ []) → (t || some) ≡ false → (if t then what ∷ rest else rest) ≡ []
none_next true some what rest next is = cc
none_next false some what rest next is = next is

none_seen : {P : Type 0} (on : ℕ → Bool) (xs : List (Entry P)) → some_holds on xs ≡ false → seen on xs ≡ []
none_seen on [] is = refl
none_seen on (x ∷ xs) is = none_next (value on x.when) (some_holds on xs) x.what (seen on xs) (none_seen on xs) is

first_next : {P : Type 0} (t some : Bool) (v what : P) (rest : List P) → (IsTrue some → first rest ≡ Some v) → IsTrue (t || some) → (IsTrue t → what ≡ v) → first (if t then what ∷ rest else rest) ≡ Some v
first_next true some v what rest next held is = ap Some (is refl)
first_next false some v what rest next held is = next held

first_seen : {P : Type 0} (on : ℕ → Bool) (v : P) (xs : List (Entry P)) → IsTrue (some_holds on xs) → Carry on v xs → first (seen on xs) ≡ Some v
first_seen on v [] held carry = cc
first_seen on v (x ∷ xs) held carry = first_next (value on x.when) (some_holds on xs) v x.what (seen on xs) (λ h. first_seen on v xs h carry.1) held carry.0

pub seen_first : {P : Type 0} (on : ℕ → Bool) (o : Option P) (xs : List (Entry P)) → Sees on o xs → first (seen on xs) ≡ o
seen_first on None xs is = ap first (none_seen on xs is)
seen_first on (Some v) xs stands = first_seen on v xs stands.held stands.carry

names_placed :
    (callable : ℕ → Callable) (f : Option Callable) (held t : Bool) (old more new : List ℕ) → new ≡ old ++ under t more
    → (IsTrue t → option_map callable (first more) ≡ f) → NamesSoFar callable f held (first old) → NamesSoFar callable f (held || t) (first new)
names_placed callable f true false old more new is named before = subst (λ list. option_map callable (first list) ≡ f) (sym (is ∙ append-nil old)) before
names_placed callable f false false old more new is named before = ap first (is ∙ append-nil old) ∙ before
names_placed callable f true true [] more new is named before = ap (λ list. option_map callable (first list)) is ∙ named refl
names_placed callable f false true [] more new is named before = ap (λ list. option_map callable (first list)) is ∙ named refl
names_placed callable f true true (n ∷ others) more new is named before = ap (λ list. option_map callable (first list)) is ∙ before
names_placed callable f false true (n ∷ others) more new is named before = cc

-- ---- what is read of one variant more

pub read_placed :
    (on : ℕ → Bool) (callable : ℕ → Callable) (r x : Read) (held : Bool) (when : Condition) (read : CondRead) (old new : VariantReads)
    → JudgesUnder plain_operand_type reason on when read.outcomes old.outcomes new.outcomes
    → seen on (listed callee_number new.callees) ≡ seen on (listed callee_number old.callees) ++ under (value on when) (seen on (alternatives callee_number read.callee))
    → ShowsRead on callable x read → (IsTrue (value on when) → x ≡ r) → ShowsSoFar on callable r held old → ShowsSoFar on callable r (held || value on when) new
read_placed on callable r x held when read old new judged named shows is before = record {
  outcome =
      subst (λ b. Shows plain_operand_type reason on (held || b) r.outcome new.outcomes) (sym (with_true (value on when)))
      (judged.shows held true r.outcome before.outcome (λ t. subst (λ (y : Read). ShowsOperand on y.outcome read.outcomes) (is t) shows.outcome));
  callee =
      names_placed callable r.callee held (value on when) (seen on (listed callee_number old.callees)) (seen on (alternatives callee_number read.callee)) (seen on (listed callee_number new.callees)) named
      (λ t. ap (option_map callable) (seen_first on shows.callee.number (alternatives callee_number read.callee) shows.callee.seen) ∙ (shows.callee.same ∙ ap (λ (y : Read). y.callee) (is t)))
      before.callee;
}
