-- The identifiers of a unit are tokens of its tree, and these are copies of tokens of its stream, by their numbers.
use Rattle.std.proofs.Common.{◌≡◌, ℕ, zero, suc, ◌+◌, Bool, true, false, List, [], ◌∷◌, map, Option, Some, None, Contains, refl, sym, ap, subst, ◌∙◌, arith}
use Rattle.std.specs.Prelude.{if◌then◌else◌, slice_get, option_map}
use Rattle.std.proofs.lemmas.Option.{slice_get-map, get_or_from_slice_get}
use Rattle.cond_formula.specs.Conditions.{condition_of, value}
use Rattle.c_text.specs.Token.{PlainToken, plain_token}
use Rattle.c_tree.specs.Trees.{PlainTree, spelled}
use Rattle.choice_trees.specs.declared.trees.Forest.{Forest}
use Rattle.choice_trees.specs.ChoiceTrees.{forest_at}
use Rattle.choice_trees.specs.Leaves.{Leaf, forest_leaves, LeavesAreSpelled}
use Rattle.core_meaning.specs.Checking.{Binding, Checked}
use Rattle.core_meaning.specs.UnitNames.{UnitState}
use Rattle.bindings.specs.Bindings.{is_name}
use Rattle.bindings.specs.Judged.{Identified}
use Rattle.cond_tokens.specs.declared.tokens.CondToken.{CondToken}
use Rattle.choice_parser.specs.Units.{numbered_at}
use Rattle.cond_scopes.specs.Progress.{number_or_none, numbers}
use Rattle.program_occurrences.specs.Occurrences.{identifiers_from, with_entities, UnitNames, names_of_unit, judged_bindings, Occurrence, occurrence_among, occurrences_of}
use Rattle.program_occurrences.specs.Classes.{copied_by}
use Rattle.program_occurrences.specs.Laws.{DeclarationsAreOccurrences}
use Rattle.program_occurrences.proofs.Entities.{source_of}
use Rattle.changed_forests.specs.Changed.{changed_leaf, changed_text}
use Rattle.changed_forests.specs.Numbered.{numbering, IsNumbered}
use Rattle.changed_forests.specs.Laws.{ChangesAreSeen}
use Rattle.told_occurrences.specs.Told.{number_in}
use Rattle.told_ties.specs.Ties.{copied, token_at}
use Rattle.told_ties.proofs.Lists.{none_among, some_of}

-- ---- identifiers

-- an identifier is the token with its number, where the first has that one
record IsAt (first : ℕ) (tokens : List PlainToken) (i : Identified) : Type 0 where
  place : ℕ
  number : i.number ≡ first + place
  at : slice_get tokens place ≡ Some i.token

at_first : (first : ℕ) (t : PlainToken) (rest : List PlainToken) (i : Identified) → first ≡ i.number → t ≡ i.token → IsAt first (t ∷ rest) i
at_first first t rest i number token = record { place = zero; number = omega (arith, number); at = ap Some token }

at_later : (first : ℕ) (t : PlainToken) (rest : List PlainToken) (i : Identified) → IsAt (first + 1) rest i → IsAt first (t ∷ rest) i
at_later first t rest i h = let number = h.number in record { place = suc h.place; number = omega (arith, number); at = h.at }

at_number : (first : ℕ) (tokens : List PlainToken) (bindings : List Binding) (i : Identified) → Contains (with_entities (identifiers_from first tokens) bindings) i → IsAt first tokens i
at_number first [] bindings i h = absurd (none_among i h)
at_number first (t ∷ rest) bindings i h = by (is_name t) bindings (λ bs k. at_number (first + 1) rest bs i k) h
  where
    by : (b : Bool) (bs : List Binding)
        → ((bs : List Binding) → Contains (with_entities (identifiers_from (first + 1) rest) bs) i → IsAt (first + 1) rest i)
        → Contains (with_entities (if b then record { number = first; token = t } ∷ identifiers_from (first + 1) rest else identifiers_from (first + 1) rest) bs) i
        → IsAt first (t ∷ rest) i
    by true [] behind h = absurd (none_among i h)
    by true (x ∷ bs) behind (zero, below, e) = at_first first t rest i (ap (λ (j : Identified). j.number) e) (ap (λ (j : Identified). j.token) e)
    by true (x ∷ bs) behind (suc k, below, e) = at_later first t rest i (behind bs (k, omega arith, e))
    by false bs behind h = at_later first t rest i (behind bs h)

identifier_at : (tree : PlainTree) (judged : Checked UnitState) (i : Identified) → Contains (names_of_unit tree judged).identified i → slice_get (spelled tree) i.number ≡ Some i.token
identifier_at tree judged i among =
    let h = at_number 0 (spelled tree) (judged_bindings judged) i among in
    let same : h.place ≡ i.number = let number = h.number in omega (arith, number) in
    subst (λ (n : ℕ). slice_get (spelled tree) n ≡ Some i.token) same h.at

identifier_among : (unit : UnitNames) (o : Occurrence) → Contains (occurrences_of unit) o → Contains unit.identified o.identifier
identifier_among unit o among =
    let s = source_of (occurrence_among unit.identified) unit.identified o among in
    subst (Contains unit.identified) (ap (λ (x : Occurrence). x.identifier) s.same) s.among

declaring_among : DeclarationsAreOccurrences → (unit : UnitNames) (o : Occurrence) → Contains (occurrences_of unit) o → Contains unit.identified o.declared_by
declaring_among declared unit o among =
    let d = declared unit o among in
    subst (Contains unit.identified) d.identifier (identifier_among unit d.declaration d.among)

-- ---- tokens of a stream

-- a leaf is the stream's token with its number, where the first has that one
record IsLeafOf (first : ℕ) (tokens : List CondToken) (leaf : Leaf) : Type 0 where
  place : ℕ
  entry : CondToken
  at : slice_get tokens place ≡ Some entry
  number : leaf.number ≡ Some (first + place)
  text : leaf.text ≡ plain_token entry.token

abbrev own_leaf : ℕ → CondToken → Leaf
own_leaf number t = record { number = Some number; text = plain_token t.token }

leaf_first : (first : ℕ) (t : CondToken) (rest : List CondToken) (leaf : Leaf) → own_leaf first t ≡ leaf → IsLeafOf first (t ∷ rest) leaf
leaf_first first t rest leaf e = record {
  place = zero;
  entry = t;
  at = refl;
  number = ap (λ (l : Leaf). l.number) (sym e) ∙ ap Some (omega arith);
  text = ap (λ (l : Leaf). l.text) (sym e);
}

leaf_later : (first : ℕ) (t : CondToken) (rest : List CondToken) (leaf : Leaf) → IsLeafOf (suc first) rest leaf → IsLeafOf first (t ∷ rest) leaf
leaf_later first t rest leaf h = record {
  place = suc h.place;
  entry = h.entry;
  at = h.at;
  number = h.number ∙ ap Some (omega arith);
  text = h.text;
}

leaf_of : (on : ℕ → Bool) (first : ℕ) (tokens : List CondToken) (k : ℕ) (leaf : Leaf) → slice_get (numbered_at on first tokens) k ≡ Some leaf → IsLeafOf first tokens leaf
leaf_of on first [] k leaf e = absurd cc
leaf_of on first (t ∷ rest) k leaf e = by (value on (condition_of t.when)) k (λ j. leaf_of on (suc first) rest j leaf) e
  where
    by : (b : Bool) (k : ℕ) → ((j : ℕ) → slice_get (numbered_at on (suc first) rest) j ≡ Some leaf → IsLeafOf (suc first) rest leaf)
        → slice_get (if b then own_leaf first t ∷ numbered_at on (suc first) rest else numbered_at on (suc first) rest) k ≡ Some leaf → IsLeafOf first (t ∷ rest) leaf
    by true zero behind e = leaf_first first t rest leaf cc
    by true (suc k) behind e = leaf_later first t rest leaf (behind k e)
    by false k behind e = leaf_later first t rest leaf (behind k e)

-- a token is the stream's token with this number
abbrev pub IsTokenOf : List CondToken → ℕ → PlainToken → Type 0
IsTokenOf tokens number token = option_map (λ (entry : CondToken). plain_token entry.token) (slice_get tokens number) ≡ Some token

token_of_leaf : (tokens : List CondToken) (leaf : Leaf) → IsLeafOf 0 tokens leaf → IsTokenOf tokens (number_or_none leaf.number) leaf.text
token_of_leaf tokens leaf h =
    let own : number_or_none leaf.number ≡ h.place = ap number_or_none h.number ∙ omega arith in
    ap (λ n. option_map (λ (entry : CondToken). plain_token entry.token) (slice_get tokens n)) own
    ∙ (ap (option_map (λ (entry : CondToken). plain_token entry.token)) h.at ∙ ap Some (sym h.text))

-- a token is a copy of the same token of a file as the stream's token with this number
abbrev pub IsCopyOf : List CondToken → ℕ → PlainToken → Type 0
IsCopyOf tokens number token = token_at tokens number ≡ Some (copied_by token)

copy_of_token : (tokens : List CondToken) (number : ℕ) (token : PlainToken) → IsTokenOf tokens number token → IsCopyOf tokens number token
copy_of_token tokens number token e = by (slice_get tokens number) e
  where
    by : (entry : Option CondToken) → option_map (λ (t : CondToken). plain_token t.token) entry ≡ Some token → option_map copied entry ≡ Some (copied_by token)
    by None e = absurd cc
    by (Some entry) e = ap (option_map copied_by) e

-- a number for its site leaves it a copy of the same token
numbered_copy : (number : Option ℕ) (t : PlainToken) → copied_by (changed_text numbering number t) ≡ copied_by t
numbered_copy None t = refl
numbered_copy (Some number) t = refl

-- a token of a unit's tree is that of its stream
pub token_of :
    LeavesAreSpelled → (on : ℕ → Bool) (forest : Forest) (tokens : List CondToken) → forest_leaves on forest ≡ numbered_at on 0 tokens
    → (k : ℕ) (token : PlainToken) → slice_get (spelled (forest_at on forest)) k ≡ Some token → IsTokenOf tokens (number_in (numbers (forest_leaves on forest)) k) token
token_of spelt on forest tokens leaves k token e =
    let stream = numbered_at on 0 tokens in
    let text : Leaf → PlainToken = λ leaf. leaf.text in
    let number : Leaf → ℕ = λ leaf. number_or_none leaf.number in
    let here : option_map text (slice_get stream k) ≡ Some token
    = sym (slice_get-map text stream k) ∙ (ap (λ (ls : List Leaf). slice_get (map text ls) k) (sym leaves) ∙ (ap (λ ts. slice_get ts k) (spelt on forest) ∙ e)) in
    let own = some_of text (slice_get stream k) token here in
    let at : slice_get (numbers (forest_leaves on forest)) k ≡ Some (number own.0)
    = ap (λ (ls : List Leaf). slice_get (map number ls) k) leaves ∙ (slice_get-map number stream k ∙ ap (option_map number) own.1) in
    let same : number_in (numbers (forest_leaves on forest)) k ≡ number own.0 = get_or_from_slice_get (numbers (forest_leaves on forest)) k (number own.0) 0 at in
    subst (λ (n : ℕ). IsTokenOf tokens n token) (sym same)
    (subst (IsTokenOf tokens (number own.0)) own.2 (token_of_leaf tokens own.0 (leaf_of on 0 tokens k own.0 own.1)))

-- numbers stay where trees' tokens are changed
pub same_numbers : ChangesAreSeen → (on : ℕ → Bool) (forest new : Forest) → IsNumbered forest new → numbers (forest_leaves on new) ≡ numbers (forest_leaves on forest)
same_numbers seen on forest new are = ap numbers (seen numbering forest new are on) ∙ kept (forest_leaves on forest)
  where
    kept : (leaves : List Leaf) → numbers (map (changed_leaf numbering) leaves) ≡ numbers leaves
    kept [] = refl
    kept (leaf ∷ rest) = ap (λ ns. number_or_none leaf.number ∷ ns) (kept rest)

-- and a token of the tree whose tokens tell their numbers is a copy of it
pub copy_of :
    LeavesAreSpelled → ChangesAreSeen → (on : ℕ → Bool) (forest new : Forest) (tokens : List CondToken) → IsNumbered forest new → forest_leaves on forest ≡ numbered_at on 0 tokens
    → (k : ℕ) (token : PlainToken) → slice_get (spelled (forest_at on new)) k ≡ Some token → IsCopyOf tokens (number_in (numbers (forest_leaves on new)) k) token
copy_of spelt seen on forest new tokens numbers_are leaves k token e =
    let old = forest_leaves on forest in
    let text : Leaf → PlainToken = λ leaf. leaf.text in
    let here : option_map text (slice_get (map (changed_leaf numbering) old) k) ≡ Some token
    = sym (slice_get-map text (map (changed_leaf numbering) old) k)
    ∙ (ap (λ (ls : List Leaf). slice_get (map text ls) k) (sym (seen numbering forest new numbers_are on)) ∙ (ap (λ ts. slice_get ts k) (spelt on new) ∙ e)) in
    let changed = some_of text (slice_get (map (changed_leaf numbering) old) k) token here in
    let own = some_of (changed_leaf numbering) (slice_get old k) changed.0 (sym (slice_get-map (changed_leaf numbering) old k) ∙ changed.1) in
    let before : slice_get (spelled (forest_at on forest)) k ≡ Some own.0.text
    = ap (λ ts. slice_get ts k) (sym (spelt on forest)) ∙ (slice_get-map text old k ∙ ap (option_map text) own.1) in
    let is : copied_by own.0.text ≡ copied_by token = sym (numbered_copy own.0.number own.0.text) ∙ ap copied_by (ap text own.2 ∙ changed.2) in
    subst (λ (ns : List ℕ). IsCopyOf tokens (number_in ns k) token) (sym (same_numbers seen on forest new numbers_are))
    (copy_of_token tokens (number_in (numbers old) k) own.0.text (token_of spelt on forest tokens leaves k own.0.text before) ∙ ap Some is)

-- ---- both

-- the identifier of an occurrence, and the one that declares it, are copies of the stream's tokens with their numbers
pub record IsCopied (tokens : List CondToken) (numbers : List ℕ) (o : Occurrence) : Type 0 where
  pub identifier : IsCopyOf tokens (number_in numbers o.identifier.number) o.identifier.token
  pub declared_by : IsCopyOf tokens (number_in numbers o.declared_by.number) o.declared_by.token

pub occurrence_copied :
    DeclarationsAreOccurrences → LeavesAreSpelled → ChangesAreSeen → (on : ℕ → Bool) (forest new : Forest) (tokens : List CondToken) → IsNumbered forest new
    → forest_leaves on forest ≡ numbered_at on 0 tokens → (judged : Checked UnitState) (o : Occurrence) → Contains (occurrences_of (names_of_unit (forest_at on new) judged)) o
    → IsCopied tokens (numbers (forest_leaves on new)) o
occurrence_copied declared spelt seen on forest new tokens numbers_are leaves judged o among =
    let unit = names_of_unit (forest_at on new) judged in
    record {
      identifier = copy_of spelt seen on forest new tokens numbers_are leaves o.identifier.number o.identifier.token
          (identifier_at (forest_at on new) judged o.identifier (identifier_among unit o among));
      declared_by = copy_of spelt seen on forest new tokens numbers_are leaves o.declared_by.number o.declared_by.token
          (identifier_at (forest_at on new) judged o.declared_by (declaring_among declared unit o among));
    }

-- they are the stream's tokens with their numbers, where nothing has been changed
pub record AreTokens (tokens : List CondToken) (numbers : List ℕ) (o : Occurrence) : Type 0 where
  pub identifier : IsTokenOf tokens (number_in numbers o.identifier.number) o.identifier.token
  pub declared_by : IsTokenOf tokens (number_in numbers o.declared_by.number) o.declared_by.token

pub occurrence_tokens :
    DeclarationsAreOccurrences → LeavesAreSpelled → (on : ℕ → Bool) (forest : Forest) (tokens : List CondToken) → forest_leaves on forest ≡ numbered_at on 0 tokens
    → (judged : Checked UnitState) (o : Occurrence) → Contains (occurrences_of (names_of_unit (forest_at on forest) judged)) o
    → AreTokens tokens (numbers (forest_leaves on forest)) o
occurrence_tokens declared spelt on forest tokens leaves judged o among =
    let unit = names_of_unit (forest_at on forest) judged in
    record {
      identifier = token_of spelt on forest tokens leaves o.identifier.number o.identifier.token
          (identifier_at (forest_at on forest) judged o.identifier (identifier_among unit o among));
      declared_by = token_of spelt on forest tokens leaves o.declared_by.number o.declared_by.token
          (identifier_at (forest_at on forest) judged o.declared_by (declaring_among declared unit o among));
    }
