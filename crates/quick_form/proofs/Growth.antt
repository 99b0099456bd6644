-- A larger bound, over code and turns.
use Rattle.std.proofs.Common.{◌≡◌, ℕ, zero, suc, ◌≤◌, ℤ, Bool, true, false, List, [], ◌∷◌, ◌++◌, refl, sym, ◌∙◌, ap, subst, cond, Option, Some, None, arith, append_assoc, append-nil}
use Rattle.quick_form.specs.Form.{Sum}
use Rattle.quick_form.specs.Program.{Code, done, assign, put, give, while_, bodies}
use Rattle.quick_form.specs.Run.{Memory, with_value, sum_value, Outcome, Falls, Returns, Stops, Fails, outcome_behind, followed_by, given, is_zero, byte_of, turns, code_run, first_memory, answer_of, body_run}
use Rattle.quick_form.specs.Growth.{output_of, GoesOn, RunsGrow}

abbrev outcome_output : Outcome → List ℕ
outcome_output (Falls m out) = out
outcome_output (Returns v out) = out
outcome_output (Stops out) = out
outcome_output (Fails out) = out

-- the second outcome goes on where the first was cut off
abbrev Later : Outcome → Outcome → Type 0
Later (Falls m out) b = b ≡ Falls m out
Later (Returns v out) b = b ≡ Returns v out
Later (Fails out) b = b ≡ Fails out
Later (Stops out) b = (more : List ℕ) × (outcome_output b ≡ out ++ more)

later_same : (o : Outcome) → Later o o
later_same (Falls m out) = refl
later_same (Returns v out) = refl
later_same (Fails out) = refl
later_same (Stops out) = ([], sym (append-nil out))

behind_output : (before : List ℕ) (o : Outcome) → outcome_output (outcome_behind before o) ≡ before ++ outcome_output o
behind_output before (Falls m out) = refl
behind_output before (Returns v out) = refl
behind_output before (Fails out) = refl
behind_output before (Stops out) = refl

later_behind : (before : List ℕ) (a b : Outcome) → Later a b → Later (outcome_behind before a) (outcome_behind before b)
later_behind before (Falls m out) b h = ap (outcome_behind before) h
later_behind before (Returns v out) b h = ap (outcome_behind before) h
later_behind before (Fails out) b h = ap (outcome_behind before) h
later_behind before (Stops out) b h =
    (h.0, behind_output before b ∙ (ap (λ o. before ++ o) h.1 ∙ sym (append_assoc before out h.0)))

-- what follows only lengthens the output
followed_output : (o : Outcome) (next : Memory → Outcome) → (more : List ℕ) × (outcome_output (followed_by o next) ≡ outcome_output o ++ more)
followed_output (Falls m out) next = (outcome_output (next m), behind_output out (next m))
followed_output (Returns v out) next = ([], sym (append-nil out))
followed_output (Fails out) next = ([], sym (append-nil out))
followed_output (Stops out) next = ([], sym (append-nil out))

later_followed : (a b : Outcome) (f g : Memory → Outcome) → Later a b → ((m : Memory) → Later (f m) (g m)) → Later (followed_by a f) (followed_by b g)
later_followed (Falls m out) b f g h k =
    subst (λ o. Later (outcome_behind out (f m)) (followed_by o g)) (sym h) (later_behind out (f m) (g m) (k m))
later_followed (Returns v out) b f g h k = subst (λ o. Later (Returns v out) (followed_by o g)) (sym h) refl
later_followed (Fails out) b f g h k = subst (λ o. Later (Fails out) (followed_by o g)) (sym h) refl
later_followed (Stops out) b f g h k =
    let more = followed_output b g in
    (h.0 ++ more.0, more.1 ∙ (ap (λ o. o ++ more.0) h.1 ∙ append_assoc out h.0 more.0))

later_given : (v : Option ℤ) (f g : ℤ → Outcome) → ((w : ℤ) → Later (f w) (g w)) → Later (given v f) (given v g)
later_given None f g h = refl
later_given (Some w) f g h = h w

later_choice : (c : Bool) (a b a' b' : Outcome) → Later a a' → Later b b' → Later (cond c a b) (cond c a' b')
later_choice true a b a' b' h k = h
later_choice false a b a' b' h k = k

later_stop : (c : Bool) (a b : Outcome) → Later (cond c a (Stops [])) (cond c a b)
later_stop true a b = later_same a
later_stop false a b = (outcome_output b, refl)

turns_grow : (body : ℕ → Memory → Outcome) → ((m n : ℕ) (x : Memory) → m ≤ n → Later (body m x) (body n x)) → (s : Sum) (m n : ℕ) (x : Memory) → m ≤ n → Later (turns body s m x) (turns body s n x)
turns_grow body h s zero zero x l = later_same (turns body s zero x)
turns_grow body h s zero (suc n) x l =
    later_given (sum_value x s) _ _ (λ v. later_stop (is_zero v) (Falls x []) (followed_by (body n x) (turns body s n)))
turns_grow body h s (suc m) zero x l = absurd (omega arith)
turns_grow body h s (suc m) (suc n) x l =
    let less : m ≤ n = omega arith in
    later_given (sum_value x s) _ _
    (λ v. later_choice (is_zero v) (Falls x []) (followed_by (body m x) (turns body s m)) (Falls x []) (followed_by (body n x) (turns body s n)) refl
    (later_followed (body m x) (body n x) (turns body s m) (turns body s n) (h m n x less) (λ y. turns_grow body h s m n y less)))

code_grows : (c : Code) (m n : ℕ) (x : Memory) → m ≤ n → Later (code_run c m x) (code_run c n x)
code_grows done m n x l = refl
code_grows (assign y s c) m n x l = later_given (sum_value x s) _ _ (λ v. code_grows c m n (with_value x y v) l)
code_grows (put s c) m n x l =
    later_given (sum_value x s) _ _ (λ v. later_behind (byte_of v ∷ []) (code_run c m x) (code_run c n x) (code_grows c m n x l))
code_grows (give s c) m n x l = later_given (sum_value x s) _ _ (λ v. refl)
code_grows (while_ s b c) m n x l =
    later_followed (turns (code_run b) s m x) (turns (code_run b) s n x) (code_run c m) (code_run c n)
    (turns_grow (code_run b) (λ j k y h. code_grows b j k y h) s m n x l) (λ y. code_grows c m n y l)

answer_output : (o : Outcome) → output_of (answer_of o) ≡ outcome_output o
answer_output (Falls m out) = refl
answer_output (Returns v out) = refl
answer_output (Fails out) = refl
answer_output (Stops out) = refl

goes_on : (a b : Outcome) → Later a b → GoesOn (answer_of a) (answer_of b)
goes_on (Falls m out) b h = ap answer_of h
goes_on (Returns v out) b h = ap answer_of h
goes_on (Fails out) b h = ap answer_of h
goes_on (Stops out) b h = (h.0, answer_output b ∙ h.1)

body_grows : (cs : List Code) (m n : ℕ) (x : Memory) → m ≤ n → GoesOn (body_run cs m x) (body_run cs n x)
body_grows [] m n x l = refl
body_grows (c ∷ cs) m n x l = goes_on (code_run c m x) (code_run c n x) (code_grows c m n x l)

pub runs_grow_lem : RunsGrow
runs_grow_lem p input m n l = body_grows (bodies p) m n (first_memory p) l
