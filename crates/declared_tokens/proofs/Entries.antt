-- What declares tokens, with one more entry for one of them, and pairs one behind the other.
use Rattle.std.proofs.Common.{◌≡◌, ℕ, zero, suc, ◌+◌, ◌==◌, ◌<◌, Bool, true, false, List, [], ◌∷◌, ◌++◌, map, length, get_or, drop, refl, sym, ap, subst, ◌∙◌, arith}
use Rattle.std.specs.Prelude.{Vec, if◌then◌else◌}
use Rattle.std.specs.declared.alloc.Global.{Global}
use Rattle.std.proofs.Math.ListN.{set}
use Rattle.std.proofs.lemmas.Bool.{eqb-true, eqb-false}
use Rattle.std.proofs.lemmas.List.{append-nil, append_assoc, map-set, length-map, get_or-set_same, get_or-set_other}
use Rattle.cond_formula.specs.Conditions.{condition_of, value}
use Rattle.conditional.proofs.ListLaws.{item_of}
use Rattle.cond_pairings.specs.Pairs.{Pair, one_seen, pairs_seen}
use Rattle.cond_pairings.specs.declared.pairs.CondPairing.{CondPairing}
use Rattle.declared_tokens.specs.declared.tokens.DeclaredBy.{DeclaredBy}
use Rattle.declared_tokens.specs.Declarations.{declared_among, numbers_at}

either_way : {G : Type 0} (b : Bool) → (b ≡ true → G) → (b ≡ false → G) → G
either_way true here elsewhere = here refl
either_way false here elsewhere = elsewhere refl

module _ (on : ℕ → Bool) where
  -- ---- entries

  more_at : (list : List DeclaredBy) (d : DeclaredBy) → numbers_at on (list ++ d ∷ []) ≡ numbers_at on list ++ numbers_at on (d ∷ [])
  more_at [] d = refl
  more_at (first ∷ rest) d =
      elim (value on (condition_of first.when)) as (λ holds. (if holds then first.number ∷ numbers_at on (rest ++ d ∷ []) else numbers_at on (rest ++ d ∷ []))
      ≡ (if holds then first.number ∷ numbers_at on rest else numbers_at on rest) ++ numbers_at on (d ∷ [])) [
        | true ↦ ap (λ l. first.number ∷ l) (more_at rest d)
        | false ↦ more_at rest d
      ]

  abbrev seen_of : List (Vec DeclaredBy Global) → ℕ → List ℕ
  seen_of lists token = numbers_at on (get_or (map (λ entries. entries.items) lists) token [])

  put_at :
      (lists : List (Vec DeclaredBy Global)) (i token : ℕ) (v : Vec DeclaredBy Global) (more : List ℕ) → i < length lists → numbers_at on v.items ≡ seen_of lists i ++ more
      → seen_of (set lists i v) token ≡ seen_of lists token ++ (if i == token then more else [])
  put_at lists i token v more within is = either_way (i == token) (λ e. put_here (eqb-true i token e) e) (λ e. put_elsewhere e)
    where
      lists_are : map (λ entries. entries.items) (set lists i v) ≡ set (map (λ entries. entries.items) lists) i v.items
      lists_are = map-set (λ entries. entries.items) lists i v

      put_here : i ≡ token → (i == token) ≡ true → seen_of (set lists i v) token ≡ seen_of lists token ++ (if i == token then more else [])
      put_here same e =
          subst (λ t. seen_of (set lists i v) t ≡ seen_of lists t ++ (if i == token then more else [])) same
          (ap (λ l. numbers_at on (get_or l i [])) lists_are
          ∙ (ap (numbers_at on) (get_or-set_same (map (λ entries. entries.items) lists) i v.items [] (subst (λ n. i < n) (sym (length-map lists (λ entries. entries.items))) within))
          ∙ (is ∙ ap (λ b. seen_of lists i ++ (if b then more else [])) (sym e))))

      put_elsewhere : (i == token) ≡ false → seen_of (set lists i v) token ≡ seen_of lists token ++ (if i == token then more else [])
      put_elsewhere e =
          ap (λ l. numbers_at on (get_or l token [])) lists_are
          ∙ (ap (numbers_at on) (get_or-set_other (map (λ entries. entries.items) lists) i token v.items [] (λ same. eqb-false i token e (sym same)))
          ∙ (sym (append-nil (seen_of lists token)) ∙ ap (λ b. seen_of lists token ++ (if b then more else [])) (sym e)))

  -- ---- pairs

  seen_among : (token : ℕ) (p : CondPairing) (d : DeclaredBy) → d.number ≡ p.declared_by → condition_of d.when ≡ condition_of p.when
      → (if p.identifier == token then numbers_at on (d ∷ []) else []) ≡ declared_among token (one_seen on p)
  seen_among token p d number when =
      rw (number, when)
      (elim (value on (condition_of p.when)) as (λ holds. (if p.identifier == token then (if holds then p.declared_by ∷ [] else []) else [])
      ≡ declared_among token (if holds then (let one : Pair = record { identifier = p.identifier; declared_by = p.declared_by } in one) ∷ [] else [])) [
        | true ↦ refl
        | false ↦ elim (p.identifier == token) as (λ same. (if same then (let none : List ℕ = [] in none) else []) ≡ []) [ true ↦ refl | false ↦ refl ]
      ])

  pub added_at :
      (lists : List (Vec DeclaredBy Global)) (p : CondPairing) (v : Vec DeclaredBy Global) (d : DeclaredBy) → p.identifier < length lists → d.number ≡ p.declared_by
      → condition_of d.when ≡ condition_of p.when → v.items ≡ get_or (map (λ entries. entries.items) lists) p.identifier [] ++ d ∷ [] → (token : ℕ)
      → seen_of (set lists p.identifier v) token ≡ seen_of lists token ++ declared_among token (one_seen on p)
  added_at lists p v d within number when is token =
      put_at lists p.identifier token v (numbers_at on (d ∷ [])) within (ap (numbers_at on) is ∙ more_at (get_or (map (λ entries. entries.items) lists) p.identifier []) d)
      ∙ ap (λ more. seen_of lists token ++ more) (seen_among token p d number when)

among_more : (token : ℕ) (some more : List Pair) → declared_among token (some ++ more) ≡ declared_among token some ++ declared_among token more
among_more token [] more = refl
among_more token (p ∷ rest) more =
    elim (p.identifier == token) as (λ same. (if same then p.declared_by ∷ declared_among token (rest ++ more) else declared_among token (rest ++ more))
    ≡ (if same then p.declared_by ∷ declared_among token rest else declared_among token rest) ++ declared_among token more) [
      | true ↦ ap (λ l. p.declared_by ∷ l) (among_more token rest more)
      | false ↦ among_more token rest more
    ]

pub one_more :
    (on : ℕ → Bool) (token : ℕ) (pairs : List CondPairing) (p : CondPairing) (i : ℕ) → i < length pairs → p ≡ get_or pairs i p → (before now : List ℕ)
    → now ≡ before ++ declared_among token (one_seen on p) → before ++ declared_among token (pairs_seen on (drop i pairs)) ≡ declared_among token (pairs_seen on pairs)
    → now ++ declared_among token (pairs_seen on (drop (i + 1) pairs)) ≡ declared_among token (pairs_seen on pairs)
one_more on token pairs p i within is before now added so_far =
    ap (λ l. l ++ declared_among token behind) added
    ∙ (append_assoc before (declared_among token (one_seen on p)) (declared_among token behind)
    ∙ (ap (λ l. before ++ l) (sym (among_more token (one_seen on p) behind))
    ∙ (ap (λ l. before ++ declared_among token (pairs_seen on l)) (sym (item_of pairs p i within is)) ∙ so_far)))
  where
    behind : List Pair
    behind = pairs_seen on (drop (i + 1) pairs)

pub entries_at : (lists : List (Vec DeclaredBy Global)) (i : ℕ) (v : Vec DeclaredBy Global) → i < length lists → v ≡ get_or lists i v → v.items ≡ get_or (map (λ entries. entries.items) lists) i []
entries_at [] i v within is = absurd (omega (arith, within))
entries_at (first ∷ rest) zero v within is = ap (λ entries. entries.items) is
entries_at (first ∷ rest) (suc i) v within is = entries_at rest i v (omega (arith, within)) is

-- ---- no entries

pub none_more : (lists : List (Vec DeclaredBy Global)) (v : Vec DeclaredBy Global) → v.items ≡ [] → ((token : ℕ) → get_or (map (λ entries. entries.items) lists) token [] ≡ [])
    → (token : ℕ) → get_or (map (λ entries. entries.items) (lists ++ v ∷ [])) token [] ≡ []
none_more [] v is before zero = is
none_more [] v is before (suc token) = refl
none_more (first ∷ rest) v is before zero = before zero
none_more (first ∷ rest) v is before (suc token) = none_more rest v is (λ t. before (suc t)) token
