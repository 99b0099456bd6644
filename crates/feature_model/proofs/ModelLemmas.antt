-- A list of constraints, one more at a time.
use Rattle.std.proofs.Common.{◌≡◌, ℕ, suc, ◌<◌, Bool, true, false, ◌&&◌, List, [], ◌∷◌, ◌++◌, length, take, drop, get_or, refl, sym, ap, ◌∙◌, subst, arith}
use Rattle.std.specs.Prelude.{String, string_bytes}
use Rattle.std.specs.List.{list_all}
use Rattle.std.specs.declared.alloc.Global.{Global}
use Rattle.std.proofs.Math.Seq.{take-suc, drop-cons}
use Rattle.std.proofs.lemmas.List.{take-append-drop, length-take}
use Rattle.cond_formula.specs.Conditions.{Condition, Always, value, IsConjunction}
use Rattle.feature_model.specs.declared.errors.ModelError.{ModelError}
use Rattle.feature_model.specs.Trees.{Tree, holds}
use Rattle.feature_model.specs.Constraints.{IsOver, Says, WhyRefused, AreOver, Admits, FirstRefused}

module _ (features : List (String Global)) where
  pub admits_all : Admits features [] Always
  admits_all = record { trees = []; over = tt; holds = λ on. refl; below = tt }

  over_more :
      (texts : List (String Global)) (trees : List Tree) (text : String Global) (tree : Tree)
      → AreOver features texts trees → IsOver features (string_bytes text) tree
      → AreOver features (texts ++ text ∷ []) (trees ++ tree ∷ [])
  over_more [] [] text tree o h = (h, tt)
  over_more [] (t ∷ ts) text tree o h = absurd o
  over_more (x ∷ xs) [] text tree o h = absurd o
  over_more (x ∷ xs) (t ∷ ts) text tree o h = (o.0, over_more xs ts text tree o.1 h)

  all_more : (p : Tree → Bool) (trees : List Tree) (tree : Tree) → list_all p (trees ++ tree ∷ []) ≡ (list_all p trees && p tree)
  all_more p [] tree = last (p tree)
    where
      last : (a : Bool) → (a && true) ≡ (true && a)
      last true = refl
      last false = refl
  all_more p (t ∷ ts) tree = ap (λ x. p t && x) (all_more p ts tree) ∙ assoc (p t) (list_all p ts) (p tree)
    where
      assoc : (a b c : Bool) → (a && (b && c)) ≡ ((a && b) && c)
      assoc true b c = refl
      assoc false b c = refl

  pub admits_more :
      (texts : List (String Global)) (text : String Global) (a b r : Condition) → Admits features texts a
      → Says features (string_bytes text) b → IsConjunction a b r → Admits features (texts ++ text ∷ []) r
  admits_more texts text a b r p q c =
      record {
        trees = p.trees ++ q.tree ∷ [];
        over = over_more texts p.trees text q.tree p.over q.over;
        holds = λ on.
            c.holds on
            ∙ ap (λ x. x && value on b) (p.holds on)
            ∙ ap (λ x. list_all (holds features on) p.trees && x) (q.holds on)
            ∙ sym (all_more (holds features on) p.trees q.tree);
        below = c.below (length features) p.below q.below;
      }

  pub admits_next :
      (texts : List (String Global)) (i : ℕ) (text : String Global) (a b r : Condition) → i < length texts
      → text ≡ get_or texts i text → Admits features (take i texts) a → Says features (string_bytes text) b
      → IsConjunction a b r → Admits features (take (suc i) texts) r
  admits_next texts i text a b r h e p q c =
      let step : take (suc i) texts ≡ take i texts ++ text ∷ [] =
      take-suc texts i text h ∙ ap (λ x. take i texts ++ x ∷ []) (sym e) in
      let P : List (String Global) → Type 0 = λ l. Admits features l r in
      subst P (sym step) (admits_more (take i texts) text a b r p q c)

  pub first_refused :
      (texts : List (String Global)) (i : ℕ) (text : String Global) (a : Condition) (error : ModelError) → i < length texts
      → text ≡ get_or texts i text → Admits features (take i texts) a
      → WhyRefused features (string_bytes text) (suc i) error → FirstRefused features texts error
  first_refused texts i text a error h e p w =
      record {
        before = take i texts;
        text = text;
        after = drop (suc i) texts;
        split =
            sym (take-append-drop i texts)
            ∙ ap (λ l. take i texts ++ l) (drop-cons texts i text h ∙ ap (λ x. x ∷ drop (suc i) texts) (sym e));
        trees = p.trees;
        over = p.over;
        why =
            let n : length (take i texts) ≡ i = omega (arith, length-take i texts) in
            let P : ℕ → Type 0 = λ k. WhyRefused features (string_bytes text) (suc k) error in
            subst P (sym n) w;
      }
