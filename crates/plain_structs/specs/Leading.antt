-- How far a judgement of a list has come, where each part is judged behind what the earlier ones gave.
use Rattle.std.proofs.Common.{◌≡◌, ℕ, suc, ◌+◌, ◌<◌, Bool, true, false, ◌||◌, List, [], ◌∷◌, ◌++◌, length, get_or, drop, refl, sym, ap, arith, ◌∙◌, drop-cons}
use Rattle.core_meaning.specs.Checking.{Binding, Checked, with_bindings, ◌>>=◌}
use Rattle.core_meaning.specs.Linking.{uses_in}
use Rattle.plain_scope.specs.declared.errors.ElabError.{ElabError}
use Rattle.plain_scope.specs.declared.errors.ElabError.TheVariants.{BadType, Link, Memory}
use Rattle.plain_scope.specs.Judgements.{Gives, RefusedAs}
use Rattle.plain_scope.specs.JudgementLaws.{uses_in_both}
use Rattle.plain_declarators.specs.Sequences.{bind_nothing}
use Rattle.plain_structs.specs.Binding.{with_both}

-- The whole judgement is what was bound so far, and then the judgement of what is left.
pub record Leads {A : Type 0} (whole left : Checked A) (before between : List ℕ → Bool) : Type 0 where
  pub bindings : List Binding
  pub judged : whole ≡ with_bindings bindings left
  pub used : (name : List ℕ) → between name ≡ (before name || uses_in bindings name)

-- what is left of a list begins with the element there
pub front : {A : Type 0} (list : List A) (x : A) (n : ℕ) → n < length list → x ≡ get_or list n x → drop n list ≡ x ∷ drop (n + 1) list
front list x n inside is =
    let next : suc n ≡ n + 1 = omega arith in
    drop-cons list n x inside ∙ ap (λ y. y ∷ drop (suc n) list) (sym is) ∙ ap (λ m. x ∷ drop m list) next

or_assoc : (a b c : Bool) → ((a || b) || c) ≡ (a || (b || c))
or_assoc true b c = refl
or_assoc false b c = refl

or_none : (a : Bool) → a ≡ (a || false)
or_none true = refl
or_none false = refl

pub leads_from : {A : Type 0} (whole : Checked A) (before : List ℕ → Bool) → Leads whole whole before before
leads_from whole before = record { bindings = []; judged = sym (bind_nothing whole); used = λ name. or_none (before name) }

-- a step: a judgement, then what is left
pub leads_with : {A X : Type 0} (whole left : Checked A) (first : Checked X) (rest : X → Checked A) (x : X) (before between after : List ℕ → Bool) → Leads whole left before between → left ≡ (first >>= rest) → Gives first x between after → Leads whole (rest x) before after
leads_with whole left first rest x before between after l is g = record {
  bindings = l.bindings ++ g.bindings;
  judged = l.judged ∙ ap (with_bindings l.bindings) (is ∙ ap (λ (d : Checked _). d >>= rest) g.judged) ∙ sym (with_both l.bindings g.bindings (rest x));
  used = λ name. g.used name ∙ rw (uses_in_both l.bindings g.bindings name) (rw (l.used name) (or_assoc (before name) (uses_in l.bindings name) (uses_in g.bindings name)));
}

-- the last judgement
pub leads_to : {A : Type 0} (whole left : Checked A) (x : A) (before between after : List ℕ → Bool) → Leads whole left before between → Gives left x between after → Gives whole x before after
leads_to whole left x before between after l g = record {
  bindings = l.bindings ++ g.bindings;
  judged = l.judged ∙ ap (with_bindings l.bindings) g.judged;
  used = λ name. g.used name ∙ rw (uses_in_both l.bindings g.bindings name) (rw (l.used name) (or_assoc (before name) (uses_in l.bindings name) (uses_in g.bindings name)));
}

pub leads_refused : {A : Type 0} (whole left : Checked A) (before between : List ℕ → Bool) (error : ElabError) → Leads whole left before between → RefusedAs left error → RefusedAs whole error
leads_refused whole left before between (BadType kind at) l r = record {
  token = r.token;
  judged = l.judged ∙ ap (with_bindings l.bindings) r.judged;
  stands = r.stands;
}
leads_refused whole left before between (Link kind name) l r = absurd r
leads_refused whole left before between Memory l r = tt
