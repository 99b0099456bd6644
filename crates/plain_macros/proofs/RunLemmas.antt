-- One step of the recursion of macro replacement.
use Rattle.std.proofs.Common.{◌≡◌, ℕ, zero, suc, ◌+◌, ◌-◌, ◌<◌, Bool, true, false, List, [], ◌∷◌, ◌++◌, length, get_or, map, drop, Some, None, Option, refl, sym, ap, ◌∙◌, arith}
use Rattle.std.specs.Prelude.{codes, ◌&&◌, nat_lt}
use Rattle.std.proofs.lemmas.Grind.{common_steps}
use Rattle.c_text.specs.Token.{PlainToken}
use Rattle.c_text.specs.Directives.{is_spelled}
use Rattle.c_text.specs.Macros.{Table, Deeper, Item, Call, ends, Replaced, outside, inside, progress, closing, call_replacement, call_then, fits, all_arguments, all_replaced, replacement, substituted, unless_bad}
use Rattle.plain_macros.specs.PlainCalls.{closes}
use Rattle.plain_macros.specs.PlainLevels.{below}

-- the next element of a list that is read by its index
pub next_element : {A B : Type 0} (f : A → B) (xs : List A) (i : ℕ) (x : A) → i < length xs → x ≡ get_or xs i x → map f (drop i xs) ≡ f x ∷ map f (drop (i + 1) xs)
next_element f xs i x h e = let k : i + 1 ≡ suc i = omega arith in rw k (here f xs i x h e)
  where
    here : {A B : Type 0} (f : A → B) (xs : List A) (i : ℕ) (x : A) → i < length xs → x ≡ get_or xs i x → map f (drop i xs) ≡ f x ∷ map f (drop (suc i) xs)
    here f [] i x h e = absurd (omega arith)
    here f (y ∷ xs) zero x h e = cc
    here f (y ∷ xs) (suc i) x h e = here f xs i x (omega arith) e

-- arguments that are replaced already, before others
abbrev pub joined : List (List Item) → Option (List (List Item)) → Option (List (List Item))
joined done None = None
joined done (Some others) = Some (done ++ others)

below_more : (table : Table) (left : ℕ) (active : List (List ℕ)) (items : List Item) → below table (suc left) active items ≡ unless_bad (outside table (below table left) active items)
below_more table zero active items = refl
below_more table (suc left) active items = refl

pub below_is : (table : Table) (left : ℕ) (active : List (List ℕ)) (items : List Item) (given : Option (List Item)) (becomes : Replaced) → 0 < left → becomes ≡ outside table (below table (left - 1)) active items → given ≡ unless_bad becomes → given ≡ below table left active items
below_is table left active items given becomes h e g =
    let k : suc (left - 1) ≡ left = omega arith in
    g ∙ ap unless_bad e ∙ sym (below_more table (left - 1) active items) ∙ ap (λ n. below table n active items) k

closing_ends : (call : Call) (item : Item) (nested : ℕ) → nat_lt nested 2 ≡ true → closing call item nested ≡ ends
closing_ends call item zero h = refl
closing_ends call item (suc zero) h = refl
closing_ends call item (suc (suc nested)) h = absurd (grind (arith, common_steps))

progress_ends : (call : Call) (item : Item) → closes call item.token ≡ true → progress call item ≡ ends
progress_ends call item h =
    let both = and_parts (is_spelled (codes ")") item.token) (nat_lt call.nested 2) h in
    rw both.0 (closing_ends call item call.nested both.1)
  where
    and_parts : (a b : Bool) → (a && b) ≡ true → (a ≡ true) × (b ≡ true)
    and_parts true b h = (refl, h)
    and_parts false b h = cc

module _ (table : Table) (deeper : Deeper) (active : List (List ℕ)) where
  pub inside_ends : (call : Call) (item : Item) (rest : List Item) → closes call item.token ≡ true → inside table deeper active call (item ∷ rest) ≡ call_then call.name (call_replacement table deeper active call item.token) (outside table deeper active rest)
  inside_ends call item rest h = rw (progress_ends call item h) refl

  pub unfit_call : (call : Call) (last : PlainToken) → fits call.params (all_arguments call) ≡ false → call_replacement table deeper active call last ≡ None
  unfit_call call last f = rw f refl

  pub fit_call : (call : Call) (last : PlainToken) (arguments : List (List Item)) → fits call.params (all_arguments call) ≡ true → all_replaced deeper active (all_arguments call) ≡ Some arguments → call_replacement table deeper active call last ≡ replacement table deeper active call.name last (substituted call.params arguments call.body)
  fit_call call last arguments f r = rw (f, r) refl
