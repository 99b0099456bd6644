-- The arguments of a call one after the other.
use Rattle.std.proofs.Common.{◌≡◌, ℕ, ◌+◌, ◌<◌, ◌≤◌, ◌||◌, Bool, true, false, List, [], ◌∷◌, ◌++◌, drop, length, get_or, IsTrue, refl, sym, ap, ◌∙◌, subst, append_assoc, append-nil}
use Rattle.std.proofs.Math.Bool.{or-false}
use Rattle.std.proofs.lemmas.List.{drop_all}
use Rattle.cond_formula.specs.declared.formulas.Formula.{False}
use Rattle.cond_formula.specs.Conditions.{Condition, condition_of, value}
use Rattle.cond_formula.specs.ConditionLaws.{condition_of-False}
use Rattle.conditional.specs.declared.entries.Guarded.{Guarded}
use Rattle.conditional.specs.declared.outcomes.Outcomes.{Outcomes}
use Rattle.conditional.specs.Judgements.{Shows, JudgesUnder}
use Rattle.conditional.proofs.ListLaws.{with_true}
use Rattle.c_tree.specs.declared.kinds.Kind.TheVariants as k
use Rattle.choice_trees.specs.declared.trees.Choice.{Choice}
use Rattle.choice_trees.specs.declared.trees.Item.{Item}
use Rattle.choice_trees.specs.ChoiceTrees.{plain_branches, plain_choices, with_part, branch_at, parts_at}
use Rattle.c_tree.specs.Trees.{none}
use Rattle.choice_variants.proofs.Listing.{next_part}
use Rattle.operand_rules.specs.declared.operands.OperandType.{OperandType}
use Rattle.operand_rules.specs.declared.operands.Refused.{Refused}
use Rattle.operand_rules.specs.PlainOperandTypes.{plain_operand_type, reason}
use Rattle.cond_operands.specs.Operands.{Judged, ShowsOperand}
use Rattle.expression_types.specs.Known.{Callable, Known}
use Rattle.expression_types.specs.Reading.{Read}
use Rattle.cond_nodes.specs.declared.parts.CondRead.{CondRead}
use Rattle.cond_nodes.specs.Reads.{EachRead, ShowsNext, ShowsEach}
use Rattle.cond_typing.specs.Readings.{arguments_in}
use Rattle.cond_typing.specs.Progress.{ArgumentSoFar}
use Rattle.cond_typing.proofs.PartsBehindParts.{IsOneAtMost, arguments_apart}

abbrev OperandOutcomes : Type 0
OperandOutcomes = Outcomes OperandType Refused

-- ---- one variant of an argument more

or_nothing : (held t : Bool) → t ≡ false → held ≡ (held || t)
or_nothing true t off = refl
or_nothing false t off = sym off

pub none_yet : (on : ℕ → Bool) (reads : List Read) (what : OperandOutcomes) → ((x : Judged) → Shows plain_operand_type reason on false x what) → ArgumentSoFar on reads false (record { when = False; what = what })
none_yet on [] what nothing = ap (value on) condition_of-False
none_yet on (r ∷ rest) what nothing = (ap (value on) condition_of-False, nothing r.outcome)

module _ (on : ℕ → Bool) (callable : ℕ → Callable) where
  -- no argument there
  pub none_more :
      (reads xs : List Read) (held t : Bool) (argument : Guarded OperandOutcomes) → EachRead on callable xs [] → (IsTrue t → xs ≡ reads)
      → ArgumentSoFar on reads held argument → ArgumentSoFar on reads (held || t) argument
  none_more [] xs held t argument each is before = before
  none_more (r ∷ rest) [] held false argument each is before =
      subst (λ b. ArgumentSoFar on (r ∷ rest) b argument) (or_nothing held false refl) before
  none_more (r ∷ rest) [] held true argument each is before = let e : [] ≡ r ∷ rest = is refl in cc
  none_more (r ∷ rest) (x ∷ xs) held t argument each is before = absurd each

  -- the argument is there
  pub one_more :
      (reads xs : List Read) (held : Bool) (when : Condition) (first : CondRead) (others : List CondRead) (old new : Guarded OperandOutcomes)
      → EachRead on callable xs (first ∷ others) → (IsTrue (value on when) → xs ≡ reads)
      → value on (condition_of new.when) ≡ (value on (condition_of old.when) || value on when)
      → JudgesUnder plain_operand_type reason on when first.outcomes old.what new.what
      → ArgumentSoFar on reads held old → ArgumentSoFar on reads (held || value on when) new
  one_more [] [] held when first others old new each is wider judged before = absurd each
  one_more [] (x ∷ xs) held when first others old new each is wider judged before = wider ∙ nowhere (value on when) is before where
    nowhere : (t : Bool) → (IsTrue t → x ∷ xs ≡ []) → value on (condition_of old.when) ≡ false → (value on (condition_of old.when) || t) ≡ false
    nowhere true is off = let e : x ∷ xs ≡ [] = is refl in cc
    nowhere false is off = or-false (value on (condition_of old.when)) ∙ off
  one_more (r ∷ rest) [] held when first others old new each is wider judged before = absurd each
  one_more (r ∷ rest) (x ∷ xs) held when first others old new each is wider judged before = (
    wider ∙ ap (λ (b : Bool). b || value on when) before.0,
    subst (λ b. Shows plain_operand_type reason on (held || b) r.outcome new.what) (sym (with_true (value on when)))
        (judged.shows held true r.outcome before.1 (λ t. shown (is t))),
  )
    where
      shown : x ∷ xs ≡ r ∷ rest → ShowsOperand on r.outcome first.outcomes
      shown is = (subst (λ (list : List Read). EachRead on callable list (first ∷ others)) is each).0.outcome

-- ---- arguments behind arguments

module _ (on : ℕ → Bool) where
  pub argument_read : (reads : List Read) (argument : Guarded OperandOutcomes) → IsOneAtMost reads → ArgumentSoFar on reads true argument → ShowsEach on reads (argument ∷ [])
  argument_read [] argument one shows = subst (λ t. ShowsNext on t argument.what (λ others. others ≡ []) []) (sym shows) refl
  argument_read (r ∷ []) argument one shows = subst (λ t. ShowsNext on t argument.what (λ others. others ≡ []) (r ∷ [])) (sym shows.0) (shows.1, refl)
  argument_read (r ∷ s ∷ rest) argument one shows = absurd one

  pub argument_left_out : (before reads : List Read) (list : List (Guarded OperandOutcomes)) (argument : Guarded OperandOutcomes) → value on (condition_of argument.when) ≡ false
      → ShowsEach on before list → ShowsEach on reads (argument ∷ []) → ShowsEach on (before ++ reads) list
  argument_left_out before reads list argument never shows last =
      subst (λ (xs : List Read). ShowsEach on xs list)
      (sym (append-nil before) ∙ ap (λ (xs : List Read). before ++ xs) (sym (subst (λ t. ShowsNext on t argument.what (λ others. others ≡ []) reads) never last))) shows

  next_pushed : (t : Bool) (what : OperandOutcomes) (Old New : List Read → Type 0) (before reads : List Read) → ((xs : List Read) → Old xs → New (xs ++ reads))
      → ShowsNext on t what Old before → ShowsNext on t what New (before ++ reads)
  next_pushed true what Old New [] reads pushed shows = absurd shows
  next_pushed true what Old New (r ∷ rest) reads pushed shows = (shows.0, pushed rest shows.1)
  next_pushed false what Old New before reads pushed shows = pushed before shows

  pub argument_pushed : (before reads : List Read) (list : List (Guarded OperandOutcomes)) (argument : Guarded OperandOutcomes)
      → ShowsEach on before list → ShowsEach on reads (argument ∷ []) → ShowsEach on (before ++ reads) (list ++ argument ∷ [])
  argument_pushed before reads [] argument shows last = subst (λ (xs : List Read). ShowsEach on (xs ++ reads) (argument ∷ [])) (sym shows) last
  argument_pushed before reads (entry ∷ others) argument shows last =
      next_pushed (value on (condition_of entry.when)) entry.what (λ xs. ShowsEach on xs others) (λ xs. ShowsEach on xs (others ++ argument ∷ [])) before reads
      (λ xs shown. argument_pushed xs reads others argument shown last) shows

  -- ---- all arguments of a call

  module _ (known : Known) (parts : List (Choice Item)) where
    abbrev arguments_behind : ℕ → List Read
    arguments_behind i = arguments_in known (parts_at on k.Arguments i (plain_choices (drop i parts)))

    pub record ArgumentsSoFar (i : ℕ) (all : List (Guarded OperandOutcomes)) : Type 0 where
      pub done : List Read
      pub shows : ShowsEach on done all
      pub same : done ++ arguments_behind i ≡ arguments_in known (parts_at on k.Arguments 0 (plain_choices parts))

    pub next_argument :
        (i : ℕ) (x : Choice Item) (old new : List (Guarded OperandOutcomes)) → i < length parts → x ≡ get_or parts i x → ArgumentsSoFar i old
        → ((before : List Read) → ShowsEach on before old → ShowsEach on (before ++ arguments_in known (with_part false (branch_at on (plain_branches x.branches.items)) none)) new)
        → ArgumentsSoFar (i + 1) new
    next_argument i x old new within is so_far pushed = record {
      done = so_far.done ++ arguments_in known (with_part false (branch_at on (plain_branches x.branches.items)) none);
      shows = pushed so_far.done so_far.shows;
      same =
          append_assoc so_far.done (arguments_in known (with_part false (branch_at on (plain_branches x.branches.items)) none)) (arguments_behind (i + 1)) ∙
          (ap (λ (list : List Read). so_far.done ++ list)
          (sym (arguments_apart known (branch_at on (plain_branches x.branches.items)) (parts_at on k.Arguments (i + 1) (plain_choices (drop (i + 1) parts)))) ∙
          ap (arguments_in known) (sym (next_part on k.Arguments parts i x false within is refl))) ∙ so_far.same);
    }

    pub all_arguments : (i : ℕ) (all : List (Guarded OperandOutcomes)) → length parts ≤ i → ArgumentsSoFar i all → ShowsEach on (arguments_in known (parts_at on k.Arguments 0 (plain_choices parts))) all
    all_arguments i all past so_far =
        subst (λ (list : List Read). ShowsEach on list all)
        (sym (append-nil so_far.done) ∙
        (ap (λ rest. so_far.done ++ arguments_in known (parts_at on k.Arguments i (plain_choices rest))) (sym (drop_all i parts past)) ∙ so_far.same)) so_far.shows
