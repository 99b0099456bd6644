-- From tokens to texts, and from texts to lists of them.
use Rattle.std.proofs.Common.{◌≡◌, ℕ, suc, ◌<◌, ◌≤◌, Bool, true, false, List, Some, Result, Ok, Err, length, take, get_or, refl, sym, subst}
use Rattle.std.specs.Prelude.{if◌then◌else◌, String, string_bytes}
use Rattle.std.specs.declared.alloc.Global.{Global}
use Rattle.cond_formula.specs.Conditions.{Condition}
use Rattle.feature_model.specs.declared.errors.ModelError.{ModelError}
use Rattle.feature_model.specs.declared.errors.ModelError.TheVariants.{Syntax, UnknownFeature, TooMany, Memory}
use Rattle.feature_model.specs.Tokens.{Token}
use Rattle.feature_model.specs.Trees.{Tree, Spells, is_known}
use Rattle.feature_model.specs.Bytes.{tokens_of}
use Rattle.feature_model.specs.Constraints.{IsConstraint, Says, SaysTokens, WhyTokens, WhyRefused, Admits, WhyStopped, WhyNoModel}
use Rattle.feature_model.proofs.Lexing.{read_written}
use Rattle.feature_model.proofs.Uniqueness.{spells_what_is_read}
use Rattle.feature_model.proofs.ModelLemmas.{first_refused}

module _ (features : List (String Global)) where
  -- the two answers of a test
  pub if_err :
      {X : Type 0} (known : Bool) (x : X) (index : ℕ) (error : ModelError)
      → (let r : Result X ModelError = Err error in r) ≡ (if known then Ok x else Err (UnknownFeature index)) → (known ≡ false) × (error ≡ UnknownFeature index)
  if_err true x index error e = absurd cc
  if_err false x index error e = (refl, cc)

  pub if_ok :
      {X : Type 0} (known : Bool) (x y : X) (index : ℕ)
      → (let r : Result X ModelError = Ok y in r) ≡ (if known then Ok x else Err (UnknownFeature index)) → (known ≡ true) × (y ≡ x)
  if_ok true x y index e = (refl, cc)
  if_ok false x y index e = absurd cc

  pub constraint_read :
      (text : List ℕ) (tokens : List Token) (tree : Tree) → tokens_of text ≡ Some tokens → length text ≤ 1024
      → Spells tokens tree → IsConstraint text tree
  constraint_read text tokens tree e h s =
      record { tokens = tokens; written = read_written text tokens e; spelled = s; short = h }

  pub says_text :
      (text : List ℕ) (tokens : List Token) (condition : Condition) → tokens_of text ≡ Some tokens → length text ≤ 1024
      → SaysTokens features tokens condition → Says features text condition
  says_text text tokens condition e h s =
      record {
        tree = s.tree;
        over = record { constraint = constraint_read text tokens s.tree e h s.spelled; known = s.known };
        holds = s.holds;
        below = s.below;
      }

  pub why_text :
      (text : List ℕ) (tokens : List Token) (index : ℕ) (error : ModelError) → tokens_of text ≡ Some tokens
      → length text ≤ 1024 → WhyTokens features tokens index error → WhyRefused features text index error
  why_text text tokens index (Syntax at) e h w =
      (w.0, λ tree c. w.1 tree (spells_what_is_read text tokens tree e c))
  why_text text tokens index (UnknownFeature at) e h w = (
    w.0,
    record {
      tree = w.1.0;
      constraint = constraint_read text tokens w.1.0 e h w.1.1;
      unknown = w.1.2;
    },
  )
  why_text text tokens index TooMany e h w = w
  why_text text tokens index Memory e h w = tt

  pub stopped :
      (texts : List (String Global)) (i : ℕ) (text : String Global) (a : Condition) (error : ModelError) → i < length texts
      → text ≡ get_or texts i text → Admits features (take i texts) a
      → WhyRefused features (string_bytes text) (suc i) error → WhyStopped features texts error
  stopped texts i text a (Syntax at) h e p w = first_refused features texts i text a (Syntax at) h e p w
  stopped texts i text a (UnknownFeature at) h e p w = first_refused features texts i text a (UnknownFeature at) h e p w
  stopped texts i text a TooMany h e p w = w
  stopped texts i text a Memory h e p w = tt

  pub no_model :
      (texts : List (String Global)) (error : ModelError) → length features ≤ 128 → WhyStopped features texts error
      → WhyNoModel features texts error
  no_model texts (Syntax at) h w = (h, w)
  no_model texts (UnknownFeature at) h w = (h, w)
  no_model texts TooMany h w = absurd w
  no_model texts Memory h w = tt

  pub why_unknown :
      (tokens : List Token) (index : ℕ) (error : ModelError) (tree : Tree) → Spells tokens tree
      → is_known features tree ≡ false → error ≡ UnknownFeature index → WhyTokens features tokens index error
  why_unknown tokens index error tree s k e =
      let P : ModelError → Type 0 = λ x. WhyTokens features tokens index x in subst P (sym e) (refl, (tree, s, k))
