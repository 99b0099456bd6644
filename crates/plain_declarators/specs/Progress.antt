-- How far a judgement of a list has come.
use Rattle.std.proofs.Common.{◌≡◌, ℕ, Bool, ◌||◌, false, true, List, [], ◌++◌, refl, sym, ap, ◌∙◌}
use Rattle.std.proofs.lemmas.List.{append_assoc, append-nil}
use Rattle.core_meaning.specs.Checking.{Binding, Checked, fine, refused, broken, with_bindings, ◌>>=◌, give}
use Rattle.core_meaning.specs.Linking.{uses_in}
use Rattle.plain_scope.specs.declared.errors.ElabError.{ElabError}
use Rattle.plain_scope.specs.declared.errors.ElabError.TheVariants.{BadType, Link, Memory}
use Rattle.plain_scope.specs.Judgements.{Gives, RefusedAs}
use Rattle.plain_scope.specs.JudgementLaws.{uses_in_both}

-- The whole judgement is what was bound so far, and then the judgement of what is left, whose result is completed.
pub record Continues {A B : Type 0} (whole : Checked A) (left : Checked B) (complete : B → A) (before between : List ℕ → Bool) : Type 0 where
  pub bindings : List Binding
  pub judged : whole ≡ with_bindings bindings (left >>= (λ y. give (complete y)))
  pub used : (name : List ℕ) → between name ≡ (before name || uses_in bindings name)

or_assoc : (a b c : Bool) → ((a || b) || c) ≡ (a || (b || c))
or_assoc true b c = refl
or_assoc false b c = refl

or_none : (a : Bool) → a ≡ (a || false)
or_none true = refl
or_none false = refl

same_again : {A : Type 0} (c : Checked A) → c ≡ with_bindings [] (c >>= (λ y. give y))
same_again (fine x bindings) = ap (fine x) (sym (append-nil bindings))
same_again (refused kind token) = refl
same_again broken = refl

pub continues_from : {A : Type 0} (whole : Checked A) (before : List ℕ → Bool) → Continues whole whole (λ x. x) before before
continues_from whole before = record { bindings = []; judged = same_again whole; used = λ name. or_none (before name) }

-- a step: a judgement, then what is left
one_step : {A B D X : Type 0} (bindings more : List Binding) (x : X) (left : Checked D) (add : D → B) (complete : B → A) (next : D → A) → ((y : D) → complete (add y) ≡ next y) → with_bindings bindings ((with_bindings more (left >>= (λ y. give (add y)))) >>= (λ y. give (complete y))) ≡ with_bindings (bindings ++ more) (left >>= (λ y. give (next y)))
one_step bindings more x (fine y others) add complete next same =
    let e : bindings ++ ((more ++ (others ++ [])) ++ []) ≡ (bindings ++ more) ++ (others ++ []) = simp (append-nil, append_assoc) in
    ap (fine (complete (add y))) e ∙ ap (λ z. fine z ((bindings ++ more) ++ (others ++ []))) (same y)
one_step bindings more x (refused kind token) add complete next same = refl
one_step bindings more x broken add complete next same = refl

pub continues_with : {A B D X : Type 0} (whole : Checked A) (left : Checked B) (complete : B → A) (before between after : List ℕ → Bool) (first : Checked X) (rest : X → Checked D) (add : X → D → B) (x : X) (next : D → A) → Continues whole left complete before between → left ≡ (first >>= (λ a. rest a >>= (λ y. give (add a y)))) → Gives first x between after → ((y : D) → complete (add x y) ≡ next y) → Continues whole (rest x) next before after
continues_with whole left complete before between after first rest add x next c is g same = record {
  bindings = c.bindings ++ g.bindings;
  judged = c.judged ∙ ap (λ (d : Checked _). with_bindings c.bindings (d >>= (λ y. give (complete y)))) (is ∙ ap (λ (d : Checked _). d >>= (λ a. rest a >>= (λ y. give (add a y)))) g.judged) ∙ one_step c.bindings g.bindings x (rest x) (add x) complete next same;
  used = λ name. g.used name ∙ rw (uses_in_both c.bindings g.bindings name) (rw (c.used name) (or_assoc (before name) (uses_in c.bindings name) (uses_in g.bindings name)));
}

-- a step whose result leads to what is left
one_more : {A B : Type 0} (bindings more : List Binding) (left : Checked B) (complete : B → A) → with_bindings bindings (with_bindings more left >>= (λ y. give (complete y))) ≡ with_bindings (bindings ++ more) (left >>= (λ y. give (complete y)))
one_more bindings more (fine y others) complete =
    let e : bindings ++ ((more ++ others) ++ []) ≡ (bindings ++ more) ++ (others ++ []) = simp (append-nil, append_assoc) in
    ap (fine (complete y)) e
one_more bindings more (refused kind token) complete = refl
one_more bindings more broken complete = refl

pub continues_on : {A B X : Type 0} (whole : Checked A) (left : Checked B) (complete : B → A) (before between after : List ℕ → Bool) (first : Checked X) (rest : X → Checked B) (x : X) → Continues whole left complete before between → left ≡ (first >>= rest) → Gives first x between after → Continues whole (rest x) complete before after
continues_on whole left complete before between after first rest x c is g = record {
  bindings = c.bindings ++ g.bindings;
  judged = c.judged ∙ ap (λ (d : Checked _). with_bindings c.bindings (d >>= (λ y. give (complete y)))) (is ∙ ap (λ (d : Checked _). d >>= rest) g.judged) ∙ one_more c.bindings g.bindings (rest x) complete;
  used = λ name. g.used name ∙ rw (uses_in_both c.bindings g.bindings name) (rw (c.used name) (or_assoc (before name) (uses_in c.bindings name) (uses_in g.bindings name)));
}

completed : {A B : Type 0} (bindings more : List Binding) (y : B) (complete : B → A) → with_bindings bindings (fine y more >>= (λ z. give (complete z))) ≡ fine (complete y) (bindings ++ more)
completed bindings more y complete = ap (λ l. fine (complete y) (bindings ++ l)) (append-nil more)

-- the last judgement
pub continues_to : {A B : Type 0} (whole : Checked A) (left : Checked B) (complete : B → A) (before between after : List ℕ → Bool) (y : B) → Continues whole left complete before between → Gives left y between after → Gives whole (complete y) before after
continues_to whole left complete before between after y c g = record {
  bindings = c.bindings ++ g.bindings;
  judged = c.judged ∙ ap (λ (d : Checked _). with_bindings c.bindings (d >>= (λ z. give (complete z)))) g.judged ∙ completed c.bindings g.bindings y complete;
  used = λ name. g.used name ∙ rw (uses_in_both c.bindings g.bindings name) (rw (c.used name) (or_assoc (before name) (uses_in c.bindings name) (uses_in g.bindings name)));
}

pub continues_refused : {A B : Type 0} (whole : Checked A) (left : Checked B) (complete : B → A) (before between : List ℕ → Bool) (error : ElabError) → Continues whole left complete before between → RefusedAs left error → RefusedAs whole error
continues_refused whole left complete before between (BadType kind at) c r = record {
  token = r.token;
  judged = c.judged ∙ ap (λ (d : Checked _). with_bindings c.bindings (d >>= (λ z. give (complete z)))) r.judged;
  stands = r.stands;
}
continues_refused whole left complete before between (Link kind name) c r = absurd r
continues_refused whole left complete before between Memory c r = tt
