-- Judgements of trees whose tokens stand elsewhere, told apart by less than the kinds of their refusals: which kind counts, where an initialiser
-- has one entry too many, is told by places.
use Rattle.std.proofs.Common.{◌≡◌, ℕ, Bool, true, false, List, refl, sym, ap, subst, ◌∙◌}
use Rattle.std.specs.Prelude.{Option, option_map, if◌then◌else◌}
use Rattle.c_text.specs.Token.{PlainToken}
use Rattle.core_meaning.specs.declared.refusals.TypeKind.{TypeKind}
use Rattle.core_meaning.specs.declared.refusals.TypeKind.TheVariants.{BadConstant}
use Rattle.core_meaning.specs.Checking.{Binding, Checked, fine, refused, broken, with_bindings, ◌>>=◌, give, in_function, or_broken}
use Rattle.moved_programs.proofs.Moves.{elsewhere, moved_checked, Moves, stays, after_moves, give_moves, refused_moves, broken_moves, one_token, numbered_moves}

-- a judgement, with the kind of its refusal told so
abbrev pub told_as : {A : Type 0} → (TypeKind → TypeKind) → Checked A → Checked A
told_as told (fine x bindings) = fine x bindings
told_as told (refused kind token) = refused (told kind) token
told_as told broken = broken

-- the second judgement is the first one, elsewhere, as far as kinds are told
pub record Follows {A : Type 0} (told : TypeKind → TypeKind) (h : PlainToken → PlainToken) (v : A → A) (c d : Checked A) : Type 0 where
  pub holds : told_as told d ≡ moved_checked h v (told_as told c)

-- ---- kinds that are told as they are, and kinds that aren't told

abbrev pub as_they_are : TypeKind → TypeKind
as_they_are kind = kind

abbrev pub as_one : TypeKind → TypeKind
as_one kind = BadConstant

told_itself : {A : Type 0} (c : Checked A) → told_as as_they_are c ≡ c
told_itself (fine x bindings) = refl
told_itself (refused kind token) = refl
told_itself broken = refl

pub moves_of : {A : Type 0} (h : PlainToken → PlainToken) (v : A → A) (c d : Checked A) → Follows as_they_are h v c d → Moves h v c d
moves_of h v c d e = record { holds = sym (told_itself d) ∙ (e.holds ∙ ap (moved_checked h v) (told_itself c)) }

-- what is judged well is judged so elsewhere, and was before
module _ {A : Type 0} (h : PlainToken → PlainToken) (c : Checked A) where
  well_elsewhere : (d : Checked A) (x : A) (bindings : List Binding) → told_as as_one d ≡ fine x bindings → d ≡ fine x bindings
  well_elsewhere (fine y behind) x bindings e = e
  well_elsewhere (refused kind token) x bindings e = absurd cc
  well_elsewhere broken x bindings e = absurd cc

  well_before : (b : Checked A) (x : A) (bindings : List Binding) → moved_checked h stays (told_as as_one b) ≡ fine x bindings → b ≡ fine x bindings
  well_before (fine y behind) x bindings e = e
  well_before (refused kind token) x bindings e = absurd cc
  well_before broken x bindings e = absurd cc

  pub fine_elsewhere : (d : Checked A) → Follows as_one h stays c d → (x : A) (bindings : List Binding) → c ≡ fine x bindings → d ≡ fine x bindings
  fine_elsewhere d e x bindings is = well_elsewhere d x bindings (e.holds ∙ ap (λ b. moved_checked h stays (told_as as_one b)) is)

  pub fine_before : (d : Checked A) → Follows as_one h stays c d → (x : A) (bindings : List Binding) → d ≡ fine x bindings → c ≡ fine x bindings
  fine_before d e x bindings is = well_before c x bindings (sym e.holds ∙ ap (told_as as_one) is)

-- so are two judgements that are the same elsewhere
pub fine_together : {A : Type 0} (h : PlainToken → PlainToken) (a b c : Checked A) → Follows as_one h stays a c → Follows as_one h stays b c → (x : A) (bindings : List Binding) → a ≡ fine x bindings → b ≡ fine x bindings
fine_together h a b c first second x bindings e = fine_before h b c second x bindings (fine_elsewhere h a c first x bindings e)

-- ---- judgements, one after the other

module _ (told : TypeKind → TypeKind) (h : PlainToken → PlainToken) where
  told_moved : {A : Type 0} (v : A → A) (c : Checked A) → told_as told (moved_checked h v c) ≡ moved_checked h v (told_as told c)
  told_moved v (fine x bindings) = refl
  told_moved v (refused kind token) = refl
  told_moved v broken = refl

  pub kept : {A : Type 0} {v : A → A} {c d : Checked A} → Moves h v c d → Follows told h v c d
  kept {v} {c} {d} e = record { holds = ap (told_as told) e.holds ∙ told_moved v c }

  told_behind : {A : Type 0} (before : List Binding) (c : Checked A) → told_as told (with_bindings before c) ≡ with_bindings before (told_as told c)
  told_behind before (fine x bindings) = refl
  told_behind before (refused kind token) = refl
  told_behind before broken = refl

  told_then : {A B : Type 0} (c : Checked A) (m : A → Checked B) → told_as told (c >>= m) ≡ (told_as told c >>= (λ x. told_as told (m x)))
  told_then (fine x bindings) m = told_behind bindings (m x)
  told_then (refused kind token) m = refl
  told_then broken m = refl

  pub then_follows : {A B : Type 0} (v : A → A) (w : B → B) (c d : Checked A) (m n : A → Checked B) → Follows told h v c d → ((x : A) → Follows told h w (m x) (n (v x))) → Follows told h w (c >>= m) (d >>= n)
  then_follows v w c d m n first next = record {
    holds = told_then d n
        ∙ (ap (λ k. k >>= (λ x. told_as told (n x))) first.holds
        ∙ (after_moves h v w (told_as told c) (λ x. told_as told (m x)) (λ x. told_as told (n x)) (λ x. (next x).holds)
        ∙ ap (moved_checked h w) (sym (told_then c m))));
  }

  pub same_follows : {A B : Type 0} (w : B → B) (c d : Checked A) (m n : A → Checked B) → Follows told h stays c d → ((x : A) → Follows told h w (m x) (n x)) → Follows told h w (c >>= m) (d >>= n)
  same_follows w c d m n first next = then_follows stays w c d m n first next

  pub give_follows : {A : Type 0} (v : A → A) (x y : A) → y ≡ v x → Follows told h v (give x) (give y)
  give_follows v x y e = kept (give_moves h v x y e)

  -- a result that moves by computation
  pub given_follows : {A : Type 0} (v : A → A) (x : A) → Follows told h v (give x) (give (v x))
  given_follows v x = give_follows v x (v x) refl

  pub refused_follows : {A : Type 0} (v : A → A) (kind : TypeKind) (token at : PlainToken) → at ≡ elsewhere h token → Follows told h v (refused kind token) (refused kind at)
  refused_follows v kind token at e = kept (refused_moves h v kind token at e)

  pub broken_follows : {A : Type 0} (v : A → A) → Follows told h v broken broken
  broken_follows v = kept (broken_moves h v)

  -- a token, if there is one, and what it leads to
  pub token_follows :
      {B : Type 0} (w : B → B) (a b : Option PlainToken) (m n : PlainToken → Checked B) → b ≡ option_map (elsewhere h) a → ((x : PlainToken) → Follows told h w (m x) (n (elsewhere h x)))
      → Follows told h w (or_broken a >>= m) (or_broken b >>= n)
  token_follows w a b m n e next = then_follows (elsewhere h) w (or_broken a) (or_broken b) m n (kept (one_token h a b e)) next

  pub if_follows : {A : Type 0} (v : A → A) (b : Bool) (c d m n : Checked A) → Follows told h v c m → Follows told h v d n → Follows told h v (if b then c else d) (if b then m else n)
  if_follows v true c d m n first second = first
  if_follows v false c d m n first second = second

  -- the same where the tests are shown to be equal
  pub tested_follows : {A : Type 0} (v : A → A) (a b : Bool) (c d m n : Checked A) → b ≡ a → Follows told h v c m → Follows told h v d n → Follows told h v (if a then c else d) (if b then m else n)
  tested_follows v a b c d m n e first second = subst (λ x. Follows told h v (if a then c else d) (if x then m else n)) (sym e) (if_follows v a c d m n first second)

  told_numbered : {A : Type 0} (n : ℕ) (c : Checked A) → told_as told (in_function n c) ≡ in_function n (told_as told c)
  told_numbered n (fine x bindings) = refl
  told_numbered n (refused kind token) = refl
  told_numbered n broken = refl

  pub function_follows : {A : Type 0} (v : A → A) (n : ℕ) (c d : Checked A) → Follows told h v c d → Follows told h v (in_function n c) (in_function n d)
  function_follows v n c d e = record {
    holds = told_numbered n d
        ∙ (ap (in_function n) e.holds ∙ (numbered_moves h v n (told_as told c) ∙ ap (moved_checked h v) (sym (told_numbered n c))));
  }
