-- Judgements of trees whose tokens stand elsewhere: what they give is the same, with its tokens put elsewhere too. Here tokens change
-- nothing but where they stand by their form, so what doesn't look at places computes to the same.
use Rattle.std.proofs.Common.{◌≡◌, ℕ, Bool, true, false, List, refl, sym, ap, subst, ◌∙◌}
use Rattle.std.specs.Prelude.{Option, Some, None, option_map, if◌then◌else◌}
use Rattle.c_text.specs.Token.{PlainToken}
use Rattle.core_meaning.specs.declared.refusals.TypeKind.{TypeKind}
use Rattle.core_meaning.specs.Checking.{Entity, Binding, Checked, fine, refused, broken, with_bindings, ◌>>=◌, give, unless_so, found_or, or_broken, declares, uses, in_function}
use Rattle.core_meaning.specs.Typing.{Operand}

-- what the function makes of a token, but for its kind and text
abbrev pub elsewhere : (PlainToken → PlainToken) → PlainToken → PlainToken
elsewhere h token = record (h token) { kind = token.kind; text = token.text }

abbrev pub moved_checked : {A : Type 0} → (PlainToken → PlainToken) → (A → A) → Checked A → Checked A
moved_checked h v (fine x bindings) = fine (v x) bindings
moved_checked h v (refused kind token) = refused kind (elsewhere h token)
moved_checked h v broken = broken

-- the second judgement is the first one, elsewhere
pub record Moves {A : Type 0} (h : PlainToken → PlainToken) (v : A → A) (c d : Checked A) : Type 0 where
  pub holds : d ≡ moved_checked h v c

-- results without tokens
abbrev pub stays : {A : Type 0} → A → A
stays x = x

abbrev pub moved_operand : (PlainToken → PlainToken) → Operand → Operand
moved_operand h o = record o { stands_at = elsewhere h o.stands_at }

module _ (h : PlainToken → PlainToken) where
  bound_moves : {A : Type 0} (v : A → A) (before : List Binding) (c : Checked A) → with_bindings before (moved_checked h v c) ≡ moved_checked h v (with_bindings before c)
  bound_moves v before (fine x bindings) = refl
  bound_moves v before (refused kind token) = refl
  bound_moves v before broken = refl

  pub after_moves : {A B : Type 0} (v : A → A) (w : B → B) (c : Checked A) (m n : A → Checked B) → ((x : A) → n (v x) ≡ moved_checked h w (m x)) → (moved_checked h v c >>= n) ≡ moved_checked h w (c >>= m)
  after_moves v w (fine x before) m n e = ap (with_bindings before) (e x) ∙ bound_moves w before (m x)
  after_moves v w (refused kind token) m n e = refl
  after_moves v w broken m n e = refl

  pub then_moves : {A B : Type 0} (v : A → A) (w : B → B) (c d : Checked A) (m n : A → Checked B) → Moves h v c d → ((x : A) → Moves h w (m x) (n (v x))) → Moves h w (c >>= m) (d >>= n)
  then_moves v w c d m n first next = record { holds = ap (λ k. k >>= n) first.holds ∙ after_moves v w c m n (λ x. (next x).holds) }

  pub same_then : {A B : Type 0} (w : B → B) (c d : Checked A) (m n : A → Checked B) → Moves h stays c d → ((x : A) → Moves h w (m x) (n x)) → Moves h w (c >>= m) (d >>= n)
  same_then w c d m n first next = then_moves stays w c d m n first next

  pub operand_then : {B : Type 0} (w : B → B) (c d : Checked Operand) (m n : Operand → Checked B) → Moves h (moved_operand h) c d → ((o : Operand) → Moves h w (m o) (n (moved_operand h o))) → Moves h w (c >>= m) (d >>= n)
  operand_then w c d m n first next = then_moves (moved_operand h) w c d m n first next

  pub give_moves : {A : Type 0} (v : A → A) (x y : A) → y ≡ v x → Moves h v (give x) (give y)
  give_moves v x y e = record { holds = ap give e }

  -- a result that moves by computation
  pub given : {A : Type 0} (v : A → A) (x : A) → Moves h v (give x) (give (v x))
  given v x = give_moves v x (v x) refl

  pub refused_moves : {A : Type 0} (v : A → A) (kind : TypeKind) (token at : PlainToken) → at ≡ elsewhere h token → Moves h v (refused kind token) (refused kind at)
  refused_moves v kind token at e = record { holds = ap (refused kind) e }

  pub broken_moves : {A : Type 0} (v : A → A) → Moves h v broken broken
  broken_moves v = record { holds = refl }

  unless_at : (b : Bool) (kind : TypeKind) (token : PlainToken) → unless_so b kind (elsewhere h token) ≡ moved_checked h stays (unless_so b kind token)
  unless_at true kind token = refl
  unless_at false kind token = refl

  pub unless_moves : (b : Bool) (kind : TypeKind) (token at : PlainToken) → at ≡ elsewhere h token → Moves h stays (unless_so b kind token) (unless_so b kind at)
  unless_moves b kind token at e = record { holds = ap (unless_so b kind) e ∙ unless_at b kind token }

  found_at : {A : Type 0} (a : Option A) (kind : TypeKind) (token : PlainToken) → found_or a kind (elsewhere h token) ≡ moved_checked h stays (found_or a kind token)
  found_at (Some x) kind token = refl
  found_at None kind token = refl

  pub found_moves : {A : Type 0} (a : Option A) (kind : TypeKind) (token at : PlainToken) → at ≡ elsewhere h token → Moves h stays (found_or a kind token) (found_or a kind at)
  found_moves a kind token at e = record { holds = ap (found_or a kind) e ∙ found_at a kind token }

  some_moves : {A : Type 0} (a : Option A) → or_broken a ≡ moved_checked h stays (or_broken a)
  some_moves (Some x) = refl
  some_moves None = refl

  pub somes_move : {A : Type 0} (a b : Option A) → b ≡ a → Moves h stays (or_broken a) (or_broken b)
  somes_move a b e = record { holds = ap or_broken e ∙ some_moves a }

  token_moves : (a : Option PlainToken) → or_broken (option_map (elsewhere h) a) ≡ moved_checked h (elsewhere h) (or_broken a)
  token_moves (Some x) = refl
  token_moves None = refl

  pub one_token : (a b : Option PlainToken) → b ≡ option_map (elsewhere h) a → Moves h (elsewhere h) (or_broken a) (or_broken b)
  one_token a b e = record { holds = ap or_broken e ∙ token_moves a }

  -- a token, if there is one, and what it leads to
  pub token_then :
      {B : Type 0} (w : B → B) (a b : Option PlainToken) (m n : PlainToken → Checked B) → b ≡ option_map (elsewhere h) a → ((x : PlainToken) → Moves h w (m x) (n (elsewhere h x)))
      → Moves h w (or_broken a >>= m) (or_broken b >>= n)
  token_then w a b m n e next = then_moves (elsewhere h) w (or_broken a) (or_broken b) m n (one_token a b e) next

  pub if_moves : {A : Type 0} (v : A → A) (b : Bool) (c d m n : Checked A) → Moves h v c m → Moves h v d n → Moves h v (if b then c else d) (if b then m else n)
  if_moves v true c d m n first second = first
  if_moves v false c d m n first second = second

  -- the same where the tests are shown to be equal
  pub tested_moves : {A : Type 0} (v : A → A) (a b : Bool) (c d m n : Checked A) → b ≡ a → Moves h v c m → Moves h v d n → Moves h v (if a then c else d) (if b then m else n)
  tested_moves v a b c d m n e first second = subst (λ x. Moves h v (if a then c else d) (if x then m else n)) (sym e) (if_moves v a c d m n first second)

  pub uses_moves : (entity : Entity) → Moves h stays (uses entity) (uses entity)
  uses_moves entity = record { holds = refl }

  pub declares_moves : (entity : Entity) → Moves h stays (declares entity) (declares entity)
  declares_moves entity = record { holds = refl }

  pub numbered_moves : {A : Type 0} (v : A → A) (n : ℕ) (c : Checked A) → in_function n (moved_checked h v c) ≡ moved_checked h v (in_function n c)
  numbered_moves v n (fine x bindings) = refl
  numbered_moves v n (refused kind token) = refl
  numbered_moves v n broken = refl

  pub function_moves : {A : Type 0} (v : A → A) (n : ℕ) (c d : Checked A) → Moves h v c d → Moves h v (in_function n c) (in_function n d)
  function_moves v n c d e = record { holds = ap (in_function n) e.holds ∙ numbered_moves v n c }

pub ruleset move_rules = (operand_then, same_then, give_moves, refused_moves, broken_moves, unless_moves, found_moves, somes_move, if_moves, uses_moves, declares_moves)
