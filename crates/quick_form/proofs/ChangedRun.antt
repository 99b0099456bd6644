-- A program with its names changed, in a memory with its names changed, runs as before.
use Rattle.std.proofs.Common.{◌≡◌, ℕ, zero, suc, ℤ, pos, ◌+ℤ◌, ◌-ℤ◌, Bool, true, false, List, [], ◌∷◌, map, refl, sym, ◌∙◌, ap, cond, Option, Some, None, option_and_then}
use Rattle.std.proofs.Math.Path.{fun_ext}
use Rattle.std.specs.Str.{bytes_eq}
use Rattle.quick_form.specs.Form.{Operand, Named, Literal, Term, Sum}
use Rattle.quick_form.specs.Renaming.{changed_operand, changed_term, changed_sum}
use Rattle.quick_form.specs.Program.{Code, done, assign, put, give, while_, Declaration, object, function, bodies}
use Rattle.quick_form.specs.Run.{Memory, with_value, int_or_none, operand_value, terms_value, sum_value, Outcome, Falls, Returns, Stops, Fails, outcome_behind, followed_by, given, is_zero, byte_of, turns, code_run, first_memory, answer_of, body_run, run}
use Rattle.quick_form.proofs.Swap.{Undoes, bytes_eq-changed}
use Rattle.quick_form.proofs.Changed.{changed_code, changed_declaration, bodies_changed}

-- the memory with its names changed
abbrev pub moved : (List ℕ → List ℕ) → Memory → Memory
moved f m = λ x. m (f x)

abbrev moved_outcome : (List ℕ → List ℕ) → Outcome → Outcome
moved_outcome f (Falls m out) = Falls (moved f m) out
moved_outcome f (Returns v out) = Returns v out
moved_outcome f (Stops out) = Stops out
moved_outcome f (Fails out) = Fails out

with_value_moved : (f : List ℕ → List ℕ) → Undoes f → (m : Memory) (x : List ℕ) (v : ℤ) → with_value (moved f m) (f x) v ≡ moved f (with_value m x v)
with_value_moved f u m x v =
    fun_ext (λ y. let e : bytes_eq y (f x) ≡ bytes_eq (f y) x = sym (bytes_eq-changed f u y (f x)) ∙ ap (bytes_eq (f y)) (u.back x) in ap (λ b. cond b v (m (f y))) e)

operand_moved : (f : List ℕ → List ℕ) → Undoes f → (m : Memory) (o : Operand) → operand_value (moved f m) (changed_operand f o) ≡ operand_value m o
operand_moved f u m (Named x) = ap m (u.back x)
operand_moved f u m (Literal d) = refl

and_then_same : (o : Option ℤ) (g h : ℤ → Option ℤ) → ((w : ℤ) → g w ≡ h w) → option_and_then g o ≡ option_and_then h o
and_then_same None g h e = refl
and_then_same (Some w) g h e = e w

terms_moved : (f : List ℕ → List ℕ) → Undoes f → (m : Memory) (ts : List Term) (v : ℤ) → terms_value (moved f m) v (map (changed_term f) ts) ≡ terms_value m v ts
terms_moved f u m [] v = refl
terms_moved f u m (t ∷ ts) v =
    ap (λ w. option_and_then (λ x. terms_value (moved f m) x (map (changed_term f) ts)) (int_or_none (cond t.subtracted (v -ℤ w) (v +ℤ w)))) (operand_moved f u m t.operand)
    ∙ and_then_same (int_or_none (cond t.subtracted (v -ℤ operand_value m t.operand) (v +ℤ operand_value m t.operand))) _ _ (λ w. terms_moved f u m ts w)

sum_moved : (f : List ℕ → List ℕ) → Undoes f → (m : Memory) (s : Sum) → sum_value (moved f m) (changed_sum f s) ≡ sum_value m s
sum_moved f u m s =
    ap (λ w. terms_value (moved f m) w (map (changed_term f) s.more)) (operand_moved f u m s.first)
    ∙ terms_moved f u m s.more (operand_value m s.first)

given_moved : (f : List ℕ → List ℕ) (o : Option ℤ) (g h : ℤ → Outcome) → ((v : ℤ) → g v ≡ moved_outcome f (h v)) → given o g ≡ moved_outcome f (given o h)
given_moved f None g h e = refl
given_moved f (Some v) g h e = e v

behind_moved : (f : List ℕ → List ℕ) (before : List ℕ) (o : Outcome) → outcome_behind before (moved_outcome f o) ≡ moved_outcome f (outcome_behind before o)
behind_moved f before (Falls m out) = refl
behind_moved f before (Returns v out) = refl
behind_moved f before (Stops out) = refl
behind_moved f before (Fails out) = refl

followed_moved : (f : List ℕ → List ℕ) (o : Outcome) (g h : Memory → Outcome) → ((m : Memory) → g (moved f m) ≡ moved_outcome f (h m)) → followed_by (moved_outcome f o) g ≡ moved_outcome f (followed_by o h)
followed_moved f (Falls m out) g h e = ap (outcome_behind out) (e m) ∙ behind_moved f out (h m)
followed_moved f (Returns v out) g h e = refl
followed_moved f (Stops out) g h e = refl
followed_moved f (Fails out) g h e = refl

choice_moved : (f : List ℕ → List ℕ) (b : Bool) (o o' p p' : Outcome) → o' ≡ moved_outcome f o → p' ≡ moved_outcome f p → cond b o' p' ≡ moved_outcome f (cond b o p)
choice_moved f true o o' p p' e g = e
choice_moved f false o o' p p' e g = g

turns_moved : (f : List ℕ → List ℕ) → Undoes f → (a b : ℕ → Memory → Outcome) → ((n : ℕ) (m : Memory) → a n (moved f m) ≡ moved_outcome f (b n m)) → (s : Sum) (n : ℕ) (m : Memory) → turns a (changed_sum f s) n (moved f m) ≡ moved_outcome f (turns b s n m)
turns_moved f u a b e s zero m =
    ap (λ o. given o (λ v. cond (is_zero v) (Falls (moved f m) []) (Stops []))) (sum_moved f u m s)
    ∙ given_moved f (sum_value m s) _ (λ v. cond (is_zero v) (Falls m []) (Stops [])) (λ v. choice_moved f (is_zero v) (Falls m []) _ (Stops []) _ refl refl)
turns_moved f u a b e s (suc n) m =
    ap (λ o. given o (λ v. cond (is_zero v) (Falls (moved f m) []) (followed_by (a n (moved f m)) (turns a (changed_sum f s) n)))) (sum_moved f u m s)
    ∙ given_moved f (sum_value m s) _ (λ v. cond (is_zero v) (Falls m []) (followed_by (b n m) (turns b s n)))
    (λ v. choice_moved f (is_zero v) (Falls m []) _ (followed_by (b n m) (turns b s n)) _ refl
    (ap (λ o. followed_by o (turns a (changed_sum f s) n)) (e n m) ∙ followed_moved f (b n m) (turns a (changed_sum f s) n) (turns b s n) (λ k. turns_moved f u a b e s n k)))

code_moved : (f : List ℕ → List ℕ) → Undoes f → (c : Code) (n : ℕ) (m : Memory) → code_run (changed_code f c) n (moved f m) ≡ moved_outcome f (code_run c n m)
code_moved f u done n m = refl
code_moved f u (assign x s c) n m =
    ap (λ o. given o (λ v. code_run (changed_code f c) n (with_value (moved f m) (f x) v))) (sum_moved f u m s)
    ∙ given_moved f (sum_value m s) _ (λ v. code_run c n (with_value m x v))
    (λ v. ap (code_run (changed_code f c) n) (with_value_moved f u m x v) ∙ code_moved f u c n (with_value m x v))
code_moved f u (put s c) n m =
    ap (λ o. given o (λ v. outcome_behind (byte_of v ∷ []) (code_run (changed_code f c) n (moved f m)))) (sum_moved f u m s)
    ∙ given_moved f (sum_value m s) _ (λ v. outcome_behind (byte_of v ∷ []) (code_run c n m))
    (λ v. ap (outcome_behind (byte_of v ∷ [])) (code_moved f u c n m) ∙ behind_moved f (byte_of v ∷ []) (code_run c n m))
code_moved f u (give s c) n m =
    ap (λ o. given o (λ v. Returns v [])) (sum_moved f u m s)
    ∙ given_moved f (sum_value m s) (λ v. Returns v []) (λ v. Returns v []) (λ v. refl)
code_moved f u (while_ s b c) n m =
    ap (λ o. followed_by o (code_run (changed_code f c) n)) (turns_moved f u (code_run (changed_code f b)) (code_run b) (λ k j. code_moved f u b k j) s n m)
    ∙ followed_moved f (turns (code_run b) s n m) (code_run (changed_code f c) n) (code_run c n) (λ k. code_moved f u c n k)

first_memory_moved : (f : List ℕ → List ℕ) → Undoes f → (p : List Declaration) → first_memory (map (changed_declaration f) p) ≡ moved f (first_memory p)
first_memory_moved f u [] = refl
first_memory_moved f u (object x v ∷ p) =
    ap (λ m. with_value m (f x) (pos v)) (first_memory_moved f u p) ∙ with_value_moved f u (first_memory p) x (pos v)
first_memory_moved f u (function c ∷ p) = first_memory_moved f u p

answer_moved : (f : List ℕ → List ℕ) (o : Outcome) → answer_of (moved_outcome f o) ≡ answer_of o
answer_moved f (Falls m out) = refl
answer_moved f (Returns v out) = refl
answer_moved f (Stops out) = refl
answer_moved f (Fails out) = refl

body_moved : (f : List ℕ → List ℕ) → Undoes f → (cs : List Code) (n : ℕ) (m : Memory) → body_run (map (changed_code f) cs) n (moved f m) ≡ body_run cs n m
body_moved f u [] n m = refl
body_moved f u (c ∷ cs) n m = ap answer_of (code_moved f u c n m) ∙ answer_moved f (code_run c n m)

pub run_changed : (f : List ℕ → List ℕ) → Undoes f → (p : List Declaration) (input : List ℕ) (n : ℕ) → run (map (changed_declaration f) p) input n ≡ run p input n
run_changed f u p input n =
    ap (λ cs. body_run cs n (first_memory (map (changed_declaration f) p))) (bodies_changed f p)
    ∙ (ap (body_run (map (changed_code f) (bodies p)) n) (first_memory_moved f u p) ∙ body_moved f u (bodies p) n (first_memory p))
