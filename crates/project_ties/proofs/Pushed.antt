-- Ties and names, pushed one by one.
use Rattle.std.proofs.Common.{◌≡◌, ℕ, zero, suc, ◌+◌, ◌<◌, ◌≤◌, Bool, true, false, List, [], ◌∷◌, ◌++◌, map, drop, length, get_or, min, Option, Some, None, inl, inr, refl, sym, ap, ◌∙◌, arith}
use Rattle.std.specs.Prelude.{◌⊎◌, not, flat_map, if◌then◌else◌}
use Rattle.std.proofs.lemmas.List.{append_assoc, append-nil, map-append, drop_more, drop_all}
use Rattle.std.proofs.lemmas.List.Concat.{flat_map-append}
use Rattle.cond_formula.specs.Features.{has}
use Rattle.cond_formula.specs.Conditions.{Condition, condition_of, value}
use Rattle.cond_tokens.specs.declared.tokens.CondToken.{CondToken}
use Rattle.cond_tokens.specs.declared.tokens.CondStream.{CondStream}
use Rattle.cond_pairings.specs.Pairs.{Pair, one_seen, pairs_seen}
use Rattle.cond_pairings.specs.declared.pairs.CondPairing.{CondPairing}
use Rattle.program_occurrences.specs.Classes.{PlainFileToken}
use Rattle.tied_tokens.specs.declared.names.DeclaredName.{DeclaredName}
use Rattle.tied_tokens.specs.declared.ties.Tie.{Tie}
use Rattle.tied_tokens.specs.Ties.{PlainTie, plain_tie, PlainDeclaredName, plain_declared_name}
use Rattle.told_occurrences.specs.declared.told.ToldName.{ToldName}
use Rattle.told_occurrences.specs.declared.told.ToldUnit.{ToldUnit}
use Rattle.told_occurrences.specs.Units.{plain_name, names_seen}
use Rattle.told_ties.specs.Ties.{tied, named, tied_seen, named_seen, token_at, tied_if, tied_by, named_if, named_by, tied_in, named_in}
use Rattle.project_ties.specs.Tied.{IsOwn}

-- the same under a condition that is the same
pub still_own : {features : ℕ} {admits others : Condition} {c : List Bool} → others ≡ admits → IsOwn features admits c → IsOwn features others c
still_own {features} {admits} {others} {c} e h = record { admitted = ap (value (has c)) e ∙ h.admitted; off = h.off }

-- ---- a list that grows, and what is left of what it becomes

-- behind one more, where the step pushes its part
pub stepped : {A : Type 0} (start old new part rest left whole : List A) → new ≡ old ++ part → left ≡ part ++ rest → old ++ left ≡ start ++ whole → new ++ rest ≡ start ++ whole
stepped start old new part rest left whole grown is before =
    ap (λ l. l ++ rest) grown ∙ (append_assoc old part rest ∙ (ap (λ l. old ++ l) (sym is) ∙ before))

pub ended : {A : Type 0} (old left whole : List A) → left ≡ [] → old ++ left ≡ whole → old ≡ whole
ended old left whole none h = sym (append-nil old) ∙ (ap (λ l. old ++ l) (sym none) ∙ h)

module _ (on : ℕ → Bool) where
  -- ---- ties

  tied_both : (some more : List PlainTie) → tied_seen on (some ++ more) ≡ tied_seen on some ++ tied_seen on more
  tied_both [] more = refl
  tied_both (t ∷ some) more =
      elim (value on t.when) as (λ v. (if v then tied t.identifier t.declared_by ∷ tied_seen on (some ++ more) else tied_seen on (some ++ more))
      ≡ (if v then tied t.identifier t.declared_by ∷ tied_seen on some else tied_seen on some) ++ tied_seen on more) [
        | true ↦ ap (λ l. tied t.identifier t.declared_by ∷ l) (tied_both some more)
        | false ↦ tied_both some more
      ]

  pub tied_push : (ties : List Tie) (t : Tie) → tied_seen on (map plain_tie (ties ++ t ∷ [])) ≡ tied_seen on (map plain_tie ties) ++ tied_seen on (plain_tie t ∷ [])
  tied_push ties t = ap (tied_seen on) (map-append plain_tie ties (t ∷ [])) ∙ tied_both (map plain_tie ties) (plain_tie t ∷ [])

  abbrev pair_of : CondPairing → Pair
  pair_of p = record { identifier = p.identifier; declared_by = p.declared_by }

  pub one_tied :
      (tokens : List CondToken) (p : CondPairing) (t : PlainTie) → Some t.identifier ≡ token_at tokens p.identifier → Some t.declared_by ≡ token_at tokens p.declared_by
      → value on t.when ≡ value on (condition_of p.when) → tied_seen on (t ∷ []) ≡ flat_map (tied_by tokens) (one_seen on p)
  one_tied tokens p t identifier declared_by when = by (value on t.when) (value on (condition_of p.when)) when
    where
      both : tied t.identifier t.declared_by ∷ [] ≡ tied_by tokens (pair_of p)
      both = ap (λ x. tied_if x (Some t.declared_by)) identifier ∙ ap (tied_if (token_at tokens p.identifier)) declared_by

      by : (v w : Bool) → v ≡ w → (if v then tied t.identifier t.declared_by ∷ [] else []) ≡ flat_map (tied_by tokens) (if w then pair_of p ∷ [] else [])
      by true true e = both ∙ sym (append-nil (tied_by tokens (pair_of p)))
      by false false e = refl
      by true false e = absurd (let no : ◌≡◌ {A = Bool} true false = e in cc)
      by false true e = absurd (let no : ◌≡◌ {A = Bool} false true = e in cc)

  none_by : (tokens : List CondToken) (p : CondPairing) → tied_by tokens (pair_of p) ≡ [] → flat_map (tied_by tokens) (one_seen on p) ≡ []
  none_by tokens p none = by (value on (condition_of p.when))
    where
      by : (w : Bool) → flat_map (tied_by tokens) (if w then pair_of p ∷ [] else []) ≡ []
      by true = append-nil (tied_by tokens (pair_of p)) ∙ none
      by false = refl

  pub none_identified : (tokens : List CondToken) (p : CondPairing) → None ≡ token_at tokens p.identifier → flat_map (tied_by tokens) (one_seen on p) ≡ []
  none_identified tokens p none = none_by tokens p (ap (λ x. tied_if x (token_at tokens p.declared_by)) (sym none))

  no_second : (x : Option PlainFileToken) → tied_if x None ≡ []
  no_second None = refl
  no_second (Some t) = refl

  pub none_declaring : (tokens : List CondToken) (p : CondPairing) → None ≡ token_at tokens p.declared_by → flat_map (tied_by tokens) (one_seen on p) ≡ []
  none_declaring tokens p none = none_by tokens p (ap (tied_if (token_at tokens p.identifier)) (sym none) ∙ no_second (token_at tokens p.identifier))

  -- the pairs from one on: its own, and those behind it
  pub tied_from :
      (tokens : List CondToken) (pairs : List CondPairing) (i : ℕ) (p : CondPairing) → i < length pairs → p ≡ get_or pairs i p
      → flat_map (tied_by tokens) (pairs_seen on (drop i pairs)) ≡ flat_map (tied_by tokens) (one_seen on p) ++ flat_map (tied_by tokens) (pairs_seen on (drop (i + 1) pairs))
  tied_from tokens pairs i p within is =
      ap (λ ps. flat_map (tied_by tokens) (pairs_seen on ps)) (drop_more pairs i p within ∙ ap (λ q. q ∷ drop (i + 1) pairs) (sym is))
      ∙ flat_map-append (tied_by tokens) (one_seen on p) (pairs_seen on (drop (i + 1) pairs))

  pub tied_no_more : (tokens : List CondToken) (pairs : List CondPairing) (i : ℕ) → length pairs ≤ i → flat_map (tied_by tokens) (pairs_seen on (drop i pairs)) ≡ []
  tied_no_more tokens pairs i past = ap (λ ps. flat_map (tied_by tokens) (pairs_seen on ps)) (drop_all i pairs past)

  -- the same of units
  pub tied_in_from :
      (streams : List CondStream) (all : List ToldUnit) (i : ℕ) (stream : CondStream) (told : ToldUnit) → i < length streams → i < length all → stream ≡ get_or streams i stream → told ≡ get_or all i told
      → tied_in on (drop i streams) (drop i all) ≡ flat_map (tied_by stream.tokens.items) (pairs_seen on told.pairs.items) ++ tied_in on (drop (i + 1) streams) (drop (i + 1) all)
  tied_in_from streams all i stream told first second stream_is told_is =
      ap (λ ss. tied_in on ss (drop i all)) (drop_more streams i stream first ∙ ap (λ s. s ∷ drop (i + 1) streams) (sym stream_is))
      ∙ ap (tied_in on (stream ∷ drop (i + 1) streams)) (drop_more all i told second ∙ ap (λ t. t ∷ drop (i + 1) all) (sym told_is))

  no_streams : (all : List ToldUnit) → tied_in on [] all ≡ []
  no_streams [] = refl
  no_streams (told ∷ all) = refl

  none_told : (streams : List CondStream) → tied_in on streams [] ≡ []
  none_told [] = refl
  none_told (stream ∷ streams) = refl

  pub tied_in_no_more : (streams : List CondStream) (all : List ToldUnit) (i : ℕ) → (length streams ≤ i) ⊎ (length all ≤ i) → tied_in on (drop i streams) (drop i all) ≡ []
  tied_in_no_more streams all i (inl past) = ap (λ ss. tied_in on ss (drop i all)) (drop_all i streams past) ∙ no_streams (drop i all)
  tied_in_no_more streams all i (inr past) = ap (tied_in on (drop i streams)) (drop_all i all past) ∙ none_told (drop i streams)

  -- ---- names

  named_both : (some more : List PlainDeclaredName) → named_seen on (some ++ more) ≡ named_seen on some ++ named_seen on more
  named_both [] more = refl
  named_both (n ∷ some) more =
      elim (value on n.when) as (λ v. (if v then named n.token n.name ∷ named_seen on (some ++ more) else named_seen on (some ++ more))
      ≡ (if v then named n.token n.name ∷ named_seen on some else named_seen on some) ++ named_seen on more) [
        | true ↦ ap (λ l. named n.token n.name ∷ l) (named_both some more)
        | false ↦ named_both some more
      ]

  pub named_push : (names : List DeclaredName) (n : DeclaredName) → named_seen on (map plain_declared_name (names ++ n ∷ [])) ≡ named_seen on (map plain_declared_name names) ++ named_seen on (plain_declared_name n ∷ [])
  named_push names n = ap (named_seen on) (map-append plain_declared_name names (n ∷ [])) ∙ named_both (map plain_declared_name names) (plain_declared_name n ∷ [])

  pub one_named :
      (tokens : List CondToken) (told : ToldName) (n : PlainDeclaredName) → Some n.token ≡ token_at tokens told.number → n.name ≡ (plain_name told).name
      → value on n.when ≡ value on (condition_of told.when) → named_seen on (n ∷ []) ≡ flat_map (named_by tokens) (names_seen on (told ∷ []))
  one_named tokens told n token name when = by (value on n.when) (value on (condition_of told.when)) when
    where
      both : named n.token n.name ∷ [] ≡ named_by tokens (plain_name told)
      both = ap (λ x. named n.token x ∷ []) name ∙ ap (λ x. named_if x (plain_name told).name) token

      by : (v w : Bool) → v ≡ w → (if v then named n.token n.name ∷ [] else []) ≡ flat_map (named_by tokens) (if w then plain_name told ∷ [] else [])
      by true true e = both ∙ sym (append-nil (named_by tokens (plain_name told)))
      by false false e = refl
      by true false e = absurd (let no : ◌≡◌ {A = Bool} true false = e in cc)
      by false true e = absurd (let no : ◌≡◌ {A = Bool} false true = e in cc)

  pub none_named : (tokens : List CondToken) (told : ToldName) → None ≡ token_at tokens told.number → flat_map (named_by tokens) (names_seen on (told ∷ [])) ≡ []
  none_named tokens told none = by (value on (condition_of told.when))
    where
      by : (w : Bool) → flat_map (named_by tokens) (if w then plain_name told ∷ [] else []) ≡ []
      by true = append-nil (named_by tokens (plain_name told)) ∙ ap (λ x. named_if x (plain_name told).name) (sym none)
      by false = refl

  first_apart : (told : ToldName) (rest : List ToldName) → names_seen on (told ∷ rest) ≡ names_seen on (told ∷ []) ++ names_seen on rest
  first_apart told rest =
      elim (value on (condition_of told.when)) as (λ v. (if v then plain_name told ∷ names_seen on rest else names_seen on rest) ≡ (if v then plain_name told ∷ [] else []) ++ names_seen on rest) [
        | true ↦ refl
        | false ↦ refl
      ]

  pub named_from :
      (tokens : List CondToken) (all : List ToldName) (i : ℕ) (told : ToldName) → i < length all → told ≡ get_or all i told
      → flat_map (named_by tokens) (names_seen on (drop i all)) ≡ flat_map (named_by tokens) (names_seen on (told ∷ [])) ++ flat_map (named_by tokens) (names_seen on (drop (i + 1) all))
  named_from tokens all i told within is =
      ap (λ ns. flat_map (named_by tokens) (names_seen on ns)) (drop_more all i told within ∙ ap (λ q. q ∷ drop (i + 1) all) (sym is))
      ∙ (ap (flat_map (named_by tokens)) (first_apart told (drop (i + 1) all)) ∙ flat_map-append (named_by tokens) (names_seen on (told ∷ [])) (names_seen on (drop (i + 1) all)))

  pub named_no_more : (tokens : List CondToken) (all : List ToldName) (i : ℕ) → length all ≤ i → flat_map (named_by tokens) (names_seen on (drop i all)) ≡ []
  named_no_more tokens all i past = ap (λ ns. flat_map (named_by tokens) (names_seen on ns)) (drop_all i all past)

  pub named_in_from :
      (streams : List CondStream) (all : List ToldUnit) (i : ℕ) (stream : CondStream) (told : ToldUnit) → i < length streams → i < length all → stream ≡ get_or streams i stream → told ≡ get_or all i told
      → named_in on (drop i streams) (drop i all) ≡ flat_map (named_by stream.tokens.items) (names_seen on told.names.items) ++ named_in on (drop (i + 1) streams) (drop (i + 1) all)
  named_in_from streams all i stream told first second stream_is told_is =
      ap (λ ss. named_in on ss (drop i all)) (drop_more streams i stream first ∙ ap (λ s. s ∷ drop (i + 1) streams) (sym stream_is))
      ∙ ap (named_in on (stream ∷ drop (i + 1) streams)) (drop_more all i told second ∙ ap (λ t. t ∷ drop (i + 1) all) (sym told_is))

  no_streams_named : (all : List ToldUnit) → named_in on [] all ≡ []
  no_streams_named [] = refl
  no_streams_named (told ∷ all) = refl

  none_told_named : (streams : List CondStream) → named_in on streams [] ≡ []
  none_told_named [] = refl
  none_told_named (stream ∷ streams) = refl

  pub named_in_no_more : (streams : List CondStream) (all : List ToldUnit) (i : ℕ) → (length streams ≤ i) ⊎ (length all ≤ i) → named_in on (drop i streams) (drop i all) ≡ []
  named_in_no_more streams all i (inl past) = ap (λ ss. named_in on ss (drop i all)) (drop_all i streams past) ∙ no_streams_named (drop i all)
  named_in_no_more streams all i (inr past) = ap (named_in on (drop i streams)) (drop_all i all past) ∙ none_told_named (drop i streams)

-- at the lesser of two numbers one of them has ended
either_order : (a b : ℕ) → (a ≤ b) ⊎ (b ≤ a)
either_order zero b = inl (omega arith)
either_order (suc a) zero = inr (omega arith)
either_order (suc a) (suc b) = by (either_order a b)
  where
    by : (a ≤ b) ⊎ (b ≤ a) → (suc a ≤ suc b) ⊎ (suc b ≤ suc a)
    by (inl h) = inl (omega (arith, h))
    by (inr h) = inr (omega (arith, h))

pub one_ends : (a b n : ℕ) → min a b ≤ n → (a ≤ n) ⊎ (b ≤ n)
one_ends a b n e = by (either_order a b)
  where
    by : (a ≤ b) ⊎ (b ≤ a) → (a ≤ n) ⊎ (b ≤ n)
    by (inl h) = inl (omega (arith, h, e))
    by (inr h) = inr (omega (arith, h, e))

pub not_not : (b : Bool) → not (not b) ≡ b
not_not true = refl
not_not false = refl
