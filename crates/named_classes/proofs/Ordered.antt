-- Lists of tokens in their order.
use Rattle.std.proofs.Common.{◌≡◌, List, [], ◌∷◌, ◌++◌, refl, ap₂, sym, ◌∙◌, subst, inl, inr, arith}
use Rattle.std.specs.Prelude.{◌⊎◌, ◌↔◌, Contains, IsTrue}
use Rattle.std.proofs.lemmas.Bool.Decides.{nat_tests}
use Rattle.std.proofs.lemmas.List.Elements.{All-contains, All-from_recursion, Contains-append_cases}
use Rattle.program_occurrences.specs.Classes.{PlainFileToken}
use Rattle.tied_tokens.specs.Tokens.{stands_before, AreInOrder}
use Rattle.tied_tokens.proofs.Members.{in_none, in_head, in_tail, in_cases}
use Rattle.class_edits.proofs.Standing.{before-trans, before-all, order-tail}

not-before-itself : (token : PlainFileToken) → IsTrue (stands_before token token) → ⊥
not-before-itself token h = grind (arith, nat_tests)

before-each : (first : PlainFileToken) (tokens : List PlainFileToken) → AreInOrder (first ∷ tokens) → (token : PlainFileToken) → Contains tokens token → IsTrue (stands_before first token)
before-each first tokens ordered token among =
    All-contains (λ (other : PlainFileToken). IsTrue (stands_before first other)) tokens token
    (All-from_recursion (λ (other : PlainFileToken). IsTrue (stands_before first other)) tokens (before-all first tokens ordered)) among

put-first : (first : PlainFileToken) (tokens : List PlainFileToken) → ((token : PlainFileToken) → Contains tokens token → IsTrue (stands_before first token)) → AreInOrder tokens → AreInOrder (first ∷ tokens)
put-first first [] before ordered = tt
put-first first (second ∷ tokens) before ordered = (before second (in_head second tokens), ordered)

pub joined-order :
    (xs ys : List PlainFileToken) → AreInOrder xs → AreInOrder ys → ((x y : PlainFileToken) → Contains xs x → Contains ys y → IsTrue (stands_before x y))
    → AreInOrder (xs ++ ys)
joined-order [] ys o p before = p
joined-order (x ∷ xs) ys o p before =
    put-first x (xs ++ ys) (λ token i. each token (Contains-append_cases xs ys token i))
    (joined-order xs ys (order-tail x xs o) p (λ a b i j. before a b (in_tail x xs a i) j))
  where
    each : (token : PlainFileToken) → Contains xs token ⊎ Contains ys token → IsTrue (stands_before x token)
    each token (inl i) = before-each x xs o token i
    each token (inr j) = before x token (in_head x xs) j

-- ---- one list has the same tokens

one-first : (x y : PlainFileToken) (xs ys : List PlainFileToken) → AreInOrder (x ∷ xs) → AreInOrder (y ∷ ys) → (y ≡ x) ⊎ Contains ys x → (x ≡ y) ⊎ Contains xs y → x ≡ y
one-first x y xs ys o p (inl e) j = sym e
one-first x y xs ys o p (inr i) (inl e) = e
one-first x y xs ys o p (inr i) (inr j) =
    absurd (not-before-itself x (before-trans x y x (before-each x xs o y j) (before-each y ys p x i)))

behind-first : (x y : PlainFileToken) (xs ys : List PlainFileToken) → x ≡ y → AreInOrder (x ∷ xs) → ((token : PlainFileToken) → Contains (x ∷ xs) token → Contains (y ∷ ys) token) → (token : PlainFileToken) → Contains xs token → Contains ys token
behind-first x y xs ys e o to token i = by (in_cases y ys token (to token (in_tail x xs token i)))
  where
    by : (y ≡ token) ⊎ Contains ys token → Contains ys token
    by (inl f) =
        absurd (not-before-itself token (subst (λ (other : PlainFileToken). IsTrue (stands_before other token)) (e ∙ f) (before-each x xs o token i)))
    by (inr j) = j

pub one-order :
    (xs ys : List PlainFileToken) → AreInOrder xs → AreInOrder ys → ((token : PlainFileToken) → Contains xs token → Contains ys token)
    → ((token : PlainFileToken) → Contains ys token → Contains xs token) → xs ≡ ys
one-order [] [] o p to back = refl
one-order [] (y ∷ ys) o p to back = absurd (in_none y (back y (in_head y ys)))
one-order (x ∷ xs) [] o p to back = absurd (in_none x (to x (in_head x xs)))
one-order (x ∷ xs) (y ∷ ys) o p to back =
    let e : x ≡ y = one-first x y xs ys o p (in_cases y ys x (to x (in_head x xs))) (in_cases x xs y (back y (in_head y ys))) in
    ap₂ (λ z zs. z ∷ zs) e
    (one-order xs ys (order-tail x xs o) (order-tail y ys p) (behind-first x y xs ys e o to) (behind-first y x ys xs (sym e) p back))

-- ---- those of a list that have a property, which needn't be decided

module _ (Has : PlainFileToken → Type 0) where
  pub record AreThose (all tokens : List PlainFileToken) : Type 0 where
    pub in_order : AreInOrder tokens
    pub members : (token : PlainFileToken) → Contains tokens token ↔ (Contains all token × Has token)

  with-first : (x : PlainFileToken) (xs tokens : List PlainFileToken) → AreInOrder (x ∷ xs) → Has x → AreThose xs tokens → AreThose (x ∷ xs) (x ∷ tokens)
  with-first x xs tokens o has are = record {
    in_order = put-first x tokens (λ token i. before-each x xs o token ((are.members token).0 i).0) are.in_order;
    members = λ token. (λ i. to token (in_cases x tokens token i), λ h. back token h.1 (in_cases x xs token h.0));
  }
    where
      to : (token : PlainFileToken) → (x ≡ token) ⊎ Contains tokens token → Contains (x ∷ xs) token × Has token
      to token (inl e) = ((0, omega arith, e), subst Has e has)
      to token (inr i) = let m = (are.members token).0 i in (in_tail x xs token m.0, m.1)

      back : (token : PlainFileToken) → Has token → (x ≡ token) ⊎ Contains xs token → Contains (x ∷ tokens) token
      back token h (inl e) = (0, omega arith, e)
      back token h (inr i) = in_tail x tokens token ((are.members token).1 (i, h))

  without-first : (x : PlainFileToken) (xs tokens : List PlainFileToken) → (Has x → ⊥) → AreThose xs tokens → AreThose (x ∷ xs) tokens
  without-first x xs tokens none are = record {
    in_order = are.in_order;
    members = λ token. (
      λ i. let m = (are.members token).0 i in (in_tail x xs token m.0, m.1),
      λ h. back token h.1 (in_cases x xs token h.0),
    );
  }
    where
      back : (token : PlainFileToken) → Has token → (x ≡ token) ⊎ Contains xs token → Contains tokens token
      back token h (inl e) = absurd (none (subst Has (sym e) h))
      back token h (inr i) = (are.members token).1 (i, h)

  pub those-are-listed : (all : List PlainFileToken) → AreInOrder all → ((tokens : List PlainFileToken) → AreThose all tokens → ⊥) → ⊥
  those-are-listed [] o none = none [] (record { in_order = tt; members = λ token. (λ i. absurd (in_none token i), λ h. absurd (in_none token h.0)) })
  those-are-listed (x ∷ xs) o none =
      those-are-listed xs (order-tail x xs o)
      (λ tokens are. none tokens (without-first x xs tokens (λ has. none (x ∷ tokens) (with-first x xs tokens o has are)) are))
