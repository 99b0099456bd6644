-- Texts in a row are what they are by their length.
use Rattle.std.proofs.Common.{◌≡◌, ℕ, ◌+◌, ◌<◌, ◌≤◌, Bool, true, false, List, [], drop, length, get_or, Option, Some, None, refl, sym, ap, ◌∙◌, subst, append-nil, length-append, arith}
use Rattle.std.proofs.lemmas.List.{drop_all}
use Rattle.conditional.specs.declared.lists.CondList.{CondList}
use Rattle.conditional.specs.declared.values.CondValue.{CondValue}
use Rattle.conditional.specs.declared.outcomes.Outcomes.{Outcomes}
use Rattle.conditional.specs.Entries.{listed, alternatives, seen, Stands}
use Rattle.conditional.specs.Judgements.{fine, Shows}
use Rattle.c_text.specs.Token.{PlainToken}
use Rattle.c_text.specs.Constants.{quoted_values}
use Rattle.c_tree.specs.declared.kinds.Kind.TheVariants as k
use Rattle.c_tree.specs.Trees.{PlainTree, PlainTrees, leaf, node, none, more}
use Rattle.choice_trees.specs.declared.trees.Choice.{Choice}
use Rattle.choice_trees.specs.declared.trees.Item.{Item}
use Rattle.choice_trees.specs.ChoiceTrees.{plain_branches, plain_choices, with_part, branch_at, parts_at}
use Rattle.choice_variants.proofs.Listing.{next_part}
use Rattle.operand_rules.specs.declared.operands.Refused.{Refused}
use Rattle.operand_rules.specs.PlainOperandTypes.{reason}
use Rattle.core_meaning.specs.Expressions.{joined_bytes, text_bytes, first_text}
use Rattle.expression_types.specs.Reading.{text_outcome}
use Rattle.cond_typing.specs.declared.lengths.TextLength.{TextLength}
use Rattle.cond_typing.specs.declared.lengths.TextLength.TheVariants.{NoText, Bytes, Unreadable}
use Rattle.cond_typing.specs.Texts.{same_length, joined, length_of_bytes, text_length, row_length, array_of_length}

pub joined_assoc : (a b c : TextLength) → joined (joined a b) c ≡ joined a (joined b c)
joined_assoc Unreadable b c = refl
joined_assoc NoText b c = refl
joined_assoc (Bytes m) NoText c = refl
joined_assoc (Bytes m) Unreadable c = refl
joined_assoc (Bytes m) (Bytes n) NoText = refl
joined_assoc (Bytes m) (Bytes n) Unreadable = refl
joined_assoc (Bytes m) (Bytes n) (Bytes k) = ap Bytes (omega arith)

pub joined_none : (a : TextLength) → joined a NoText ≡ a
joined_none NoText = refl
joined_none (Bytes m) = refl
joined_none Unreadable = refl

-- ---- a row by what all its texts stand for

length_by : Option (List ℕ) → Option PlainToken → TextLength
length_by None first = Unreadable
length_by (Some bytes) None = NoText
length_by (Some bytes) (Some first) = Bytes (length bytes)

one_text : (token : PlainToken) (bytes : Option (List ℕ)) → joined (length_of_bytes bytes) NoText ≡ length_by (joined_bytes bytes (Some [])) (Some token)
unfolding length_by
one_text token None = refl
one_text token (Some bytes) = ap (λ (list : List ℕ). Bytes (length list)) (sym (append-nil bytes))

no_text : (token : PlainToken) (bytes : Option (List ℕ)) (rest : TextLength) → joined (length_of_bytes bytes) (joined Unreadable rest) ≡ length_by (joined_bytes bytes None) (Some token)
unfolding length_by
no_text token None rest = refl
no_text token (Some bytes) rest = refl

two_texts : (token next : PlainToken) (bytes others : Option (List ℕ)) → joined (length_of_bytes bytes) (length_by others (Some next)) ≡ length_by (joined_bytes bytes others) (Some token)
unfolding length_by
two_texts token next None others = refl
two_texts token next (Some bytes) None = refl
two_texts token next (Some bytes) (Some others) = ap Bytes (sym (length-append bytes others))

row_by : (parts : PlainTrees) → row_length parts ≡ length_by (text_bytes parts) (first_text parts)
unfolding length_by
row_by none = refl
row_by (more (node kind parts) rest) = refl
row_by (more (leaf token) none) = one_text token (quoted_values token.text)
row_by (more (leaf token) (more (node kind parts) rest)) = no_text token (quoted_values token.text) (row_length rest)
row_by (more (leaf token) (more (leaf next) rest)) =
    ap (joined (length_of_bytes (quoted_values token.text))) (row_by (more (leaf next) rest)) ∙
    two_texts token next (quoted_values token.text) (text_bytes (more (leaf next) rest))

typed_by : (bytes : Option (List ℕ)) (first : Option PlainToken) → array_of_length (length_by bytes first) ≡ text_outcome bytes first
unfolding length_by
typed_by None first = refl
typed_by (Some bytes) None = refl
typed_by (Some bytes) (Some first) = refl

pub row_typed : (parts : PlainTrees) → array_of_length (row_length parts) ≡ text_outcome (text_bytes parts) (first_text parts)
row_typed parts = ap array_of_length (row_by parts) ∙ typed_by (text_bytes parts) (first_text parts)

-- ---- one part more

pub row_apart : (text : Option PlainTree) (rest : PlainTrees) → row_length (with_part false text rest) ≡ joined (row_length (with_part false text none)) (row_length rest)
row_apart None rest = refl
row_apart (Some text) rest = ap (λ length. joined length (row_length rest)) (sym (joined_none (text_length text)))

-- ---- the lengths of all texts

-- a length is a judgement that refuses nothing
pub stands_fine : (on : ℕ → Bool) (n : TextLength) (lengths : CondValue TextLength) (refusals : CondList Refused) → seen on (listed reason refusals) ≡ [] → Stands on n (alternatives same_length lengths)
    → Shows same_length reason on true (fine n) (record { fine = lengths; refused = refusals })
stands_fine on n lengths refusals empty stands = record { shown = record { not_refused = empty; held = λ t. stands.held; carry = stands.carry } }

module _ (on : ℕ → Bool) (parts : List (Choice Item)) where
  pub record TextsSoFar (i : ℕ) (all : Outcomes TextLength Refused) : Type 0 where
    pub done : TextLength
    pub shows : Shows same_length reason on true (fine done) all
    pub same : joined done (row_length (parts_at on k.Texts i (plain_choices (drop i parts)))) ≡ row_length (parts_at on k.Texts 0 (plain_choices parts))

  pub next_text :
      (i : ℕ) (x : Choice Item) (old new : Outcomes TextLength Refused) → i < length parts → x ≡ get_or parts i x → TextsSoFar i old
      → ((m : TextLength) → Shows same_length reason on true (fine m) old
      → Shows same_length reason on true (fine (joined m (row_length (with_part false (branch_at on (plain_branches x.branches.items)) none)))) new)
      → TextsSoFar (i + 1) new
  next_text i x old new within is so_far joins = record {
    done = joined so_far.done (row_length (with_part false (branch_at on (plain_branches x.branches.items)) none));
    shows = joins so_far.done so_far.shows;
    same =
        joined_assoc so_far.done (row_length (with_part false (branch_at on (plain_branches x.branches.items)) none)) (row_length (parts_at on k.Texts (i + 1) (plain_choices (drop (i + 1) parts)))) ∙
        (ap (joined so_far.done)
        (sym (row_apart (branch_at on (plain_branches x.branches.items)) (parts_at on k.Texts (i + 1) (plain_choices (drop (i + 1) parts)))) ∙
        ap row_length (sym (next_part on k.Texts parts i x false within is refl))) ∙ so_far.same);
  }

  pub all_texts : (i : ℕ) (all : Outcomes TextLength Refused) → length parts ≤ i → TextsSoFar i all → Shows same_length reason on true (fine (row_length (parts_at on k.Texts 0 (plain_choices parts)))) all
  all_texts i all past so_far =
      subst (λ m. Shows same_length reason on true (fine m) all)
      (sym (joined_none so_far.done) ∙
      (ap (λ rest. joined so_far.done (row_length (parts_at on k.Texts i (plain_choices rest)))) (sym (drop_all i parts past)) ∙ so_far.same)) so_far.shows
