-- Parts that are read one behind the other.
use Rattle.std.proofs.Common.{◌≡◌, ℕ, zero, suc, ◌+◌, ◌<◌, ◌≤◌, max, Bool, true, false, not, ◌&&◌, List, [], ◌∷◌, ◌++◌, drop, length, get_or, Option, Some, None, refl, sym, ap, ◌∙◌, subst, append_assoc, append-nil, arith}
use Rattle.std.proofs.lemmas.List.{drop_all}
use Rattle.std.specs.Prelude.{if◌then◌else◌, ⊤}
use Rattle.conditional.proofs.ListLaws.{item_of}
use Rattle.c_text.specs.Token.{PlainToken}
use Rattle.c_tree.specs.declared.kinds.Kind.{Kind}
use Rattle.c_tree.specs.declared.kinds.Kind.TheVariants as k
use Rattle.c_tree.specs.Trees.{PlainTree, PlainTrees, leaf, node, none, more}
use Rattle.choice_trees.specs.ChoiceTrees.{with_part}
use Rattle.choice_variants.specs.declared.parts.Part.{Part}
use Rattle.choice_variants.specs.declared.parts.Variant.{Variant}
use Rattle.choice_variants.specs.Variants.{part_at, before, part_depth, AreLow, AreAllLow}
use Rattle.choice_variants.proofs.Listing.{low_at}
use Rattle.expression_types.specs.Known.{Callable, Known}
use Rattle.expression_types.specs.Reading.{Read, Parts, nothing_read, single, is_operand, with_operand, with_sign, with_node, read_parts}
use Rattle.cond_nodes.specs.declared.parts.CondParts.{CondParts}
use Rattle.cond_nodes.specs.Reads.{ShowsParts}
use Rattle.cond_typing.specs.PartsProgress.{part_read, ReadsPart}
use Rattle.cond_typing.specs.Readings.{arguments_in, read_if_any, first_read}

pub no_items : {T : Type 0} (xs : List T) → length xs ≡ 0 → xs ≡ []
no_items [] is = refl
no_items (x ∷ xs) is = absurd (omega (arith, is))

-- ---- how deep parts are

abbrev pub parts_depth : List Part → ℕ
parts_depth [] = 0
parts_depth (part ∷ parts) = max (part_depth part) (parts_depth parts)

pub low_parts : (n : ℕ) (parts : List Part) → AreLow n parts → parts_depth parts ≤ n
low_parts n [] low = omega arith
low_parts n (part ∷ parts) low = let h : parts_depth parts ≤ n = low_parts n parts low.1 in omega (arith, low.0, h)

pub part_within : (parts : List Part) (i : ℕ) (part : Part) → i < length parts → part_depth (get_or parts i part) ≤ parts_depth parts
part_within [] i part within = absurd (omega (arith, within))
part_within (first ∷ others) zero part within = omega arith
part_within (first ∷ others) (suc i) part within = let h : part_depth (get_or others i part) ≤ parts_depth others = part_within others i part (omega (arith, within)) in omega (arith, h)

pub low_variant :
    (n : ℕ) (all list : List Variant) (i : ℕ) (x : Variant) (parts : List Part) → AreAllLow n all → list ≡ all → i < length list → x ≡ get_or list i x → parts ≡ x.parts.items
    → parts_depth parts ≤ n
low_variant n all list i x parts low same within is own =
    low_parts n parts (subst (AreLow n) (ap (λ (v : Variant). v.parts.items) (sym is) ∙ sym own) (low_at n list i x within (subst (AreAllLow n) (sym same) low)))

abbrev pub IsOneAtMost : List Read → Type 0
IsOneAtMost [] = ⊤
IsOneAtMost (r ∷ []) = ⊤
IsOneAtMost (r ∷ s ∷ rest) = ⊥

module _ (known : Known) where
  -- ---- parts of a node

  pub next_read : (kind : Kind) (tree : PlainTree) (rest : PlainTrees) (p : Parts) → read_parts known kind (more tree rest) p ≡ read_parts known kind rest (part_read known kind tree p)
  next_read kind (leaf token) rest p = refl
  next_read kind (node inner parts) rest p = refl

  -- how far the parts have been read
  pub record PartsSoFar (on : ℕ → Bool) (callable : ℕ → Callable) (kind : Kind) (whole rest : PlainTrees) (so_far : CondParts) : Type 0 where
    pub parts : Parts
    pub shows : ShowsParts on callable parts so_far
    pub same : read_parts known kind rest parts ≡ read_parts known kind whole nothing_read

  pub one_part :
      (on : ℕ → Bool) (callable : ℕ → Callable) (kind : Kind) (whole : PlainTrees) (list : List Part) (i : ℕ) (x : Part) (old new : CondParts)
      → i < length list → x ≡ get_or list i x
      → PartsSoFar on callable kind whole (before on (drop i list) none) old → ReadsPart on callable known kind (part_at on x) old new
      → PartsSoFar on callable kind whole (before on (drop (i + 1) list) none) new
  one_part on callable kind whole list i x old new within is so_far read = record {
    parts = part_read known kind (part_at on x) so_far.parts;
    shows = read.reads so_far.parts so_far.shows;
    same =
        sym (next_read kind (part_at on x) (before on (drop (i + 1) list) none) so_far.parts) ∙
        (ap (λ rest. read_parts known kind (before on rest none) so_far.parts) (sym (item_of list x i within is)) ∙ so_far.same);
  }

  pub all_parts :
      (on : ℕ → Bool) (callable : ℕ → Callable) (kind : Kind) (whole : PlainTrees) (list : List Part) (i : ℕ) (all : CondParts)
      → length list ≤ i → PartsSoFar on callable kind whole (before on (drop i list) none) all → ShowsParts on callable (read_parts known kind whole nothing_read) all
  all_parts on callable kind whole list i all past so_far =
      subst (λ p. ShowsParts on callable p all)
      (ap (λ rest. read_parts known kind (before on rest none) so_far.parts) (sym (drop_all i list past)) ∙ so_far.same) so_far.shows

  -- ---- arguments

  operand_apart : (b : Bool) (token : PlainToken) (p : Parts)
      → (if b then with_operand (single known token) p else with_sign token p).operands ≡ p.operands ++ (if b then with_operand (single known token) nothing_read else with_sign token nothing_read).operands
  operand_apart true token p = refl
  operand_apart false token p = sym (append-nil p.operands)

  node_apart : (kind : Kind) (parts : PlainTrees) (inner p : Parts) → (with_node known kind parts inner p).operands ≡ p.operands ++ (with_node known kind parts inner nothing_read).operands
  node_apart k.Arguments parts inner p = sym (append-nil p.operands)
  node_apart k.Specifiers parts inner p = sym (append-nil p.operands)
  node_apart k.Absent parts inner p = sym (append-nil p.operands)
  node_apart kind parts inner p = refl

  argument_apart : (tree : PlainTree) (p : Parts) → (part_read known k.Arguments tree p).operands ≡ p.operands ++ (part_read known k.Arguments tree nothing_read).operands
  argument_apart (leaf token) p = operand_apart (is_operand token && not false) token p
  argument_apart (node kind parts) p = node_apart kind parts (read_parts known kind parts nothing_read) p

  arguments_from : (parts : PlainTrees) (p : Parts) → (read_parts known k.Arguments parts p).operands ≡ p.operands ++ arguments_in known parts
  arguments_from none p = sym (append-nil p.operands)
  arguments_from (more tree rest) p =
      ap (λ (q : Parts). q.operands) (next_read k.Arguments tree rest p) ∙
      (arguments_from rest (part_read known k.Arguments tree p) ∙
      (ap (λ (list : List Read). list ++ arguments_in known rest) (argument_apart tree p) ∙
      (append_assoc p.operands (part_read known k.Arguments tree nothing_read).operands (arguments_in known rest) ∙
      ap (λ (list : List Read). p.operands ++ list)
      (sym (ap (λ (q : Parts). q.operands) (next_read k.Arguments tree rest nothing_read) ∙ arguments_from rest (part_read known k.Arguments tree nothing_read))))))

  pub arguments_apart : (argument : Option PlainTree) (rest : PlainTrees)
      → arguments_in known (with_part false argument rest) ≡ arguments_in known (with_part false argument none) ++ arguments_in known rest
  arguments_apart None rest = refl
  arguments_apart (Some tree) rest =
      ap (λ (q : Parts). q.operands) (next_read k.Arguments tree rest nothing_read) ∙
      (arguments_from rest (part_read known k.Arguments tree nothing_read) ∙
      ap (λ (q : Parts). q.operands ++ arguments_in known rest) (sym (next_read k.Arguments tree none nothing_read)))

  one_operand : (b : Bool) (token : PlainToken) → IsOneAtMost (if b then with_operand (single known token) nothing_read else with_sign token nothing_read).operands
  one_operand true token = tt
  one_operand false token = tt

  one_node : (kind : Kind) (parts : PlainTrees) (inner : Parts) → IsOneAtMost (with_node known kind parts inner nothing_read).operands
  one_node k.Arguments parts inner = tt
  one_node k.Specifiers parts inner = tt
  one_node k.Absent parts inner = tt
  one_node kind parts inner = tt

  pub one_argument : (argument : Option PlainTree) → IsOneAtMost (arguments_in known (with_part false argument none))
  one_argument None = tt
  one_argument (Some (leaf token)) = one_operand (is_operand token && not false) token
  one_argument (Some (node kind parts)) = one_node kind parts (read_parts known kind parts nothing_read)

  -- ---- an expression, if there is one

  pub only_part : (part : Option PlainTree) → first_read known (with_part false part none) ≡ read_if_any known part
  only_part None = refl
  only_part (Some tree) = refl
