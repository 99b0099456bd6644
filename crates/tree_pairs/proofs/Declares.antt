-- Numbers behind `int` in tokens of which the one before is known or not.
use Rattle.std.proofs.Common.{◌≡◌, ◌==◌, Bool, true, false, not, ◌&&◌, ◌||◌, List, [], ◌∷◌, refl, ◌∙◌, ap, sym, subst, IsTrue}
use Rattle.std.specs.List.{list_any}
use Rattle.std.proofs.lemmas.Bool.{eqb-true}
use Rattle.c_text.specs.Token.{PlainToken}
use Rattle.c_tree.specs.declared.terminals.Terminal.{Terminal}
use Rattle.c_tree.specs.declared.terminals.Terminal.TheVariants.{Int, Number}
use Rattle.c_tree.specs.Terminals.{number, terminal, same, is_one_of}
use Rattle.c_tree.specs.Grammar.{is_word}
use Rattle.c_tree.specs.Trees.{PlainTree, leaf, node, written}
use Rattle.tree_pairs.specs.Pairs.{begin_with_number, declare_number}

-- whether a number stands right behind `int`, or first where the token before may be `int`
abbrev pub declares : Bool → List PlainToken → Bool
declares after [] = false
declares after (first ∷ rest) = (after && same Number (terminal first)) || declares (same Int (terminal first)) rest

declares_split : (after : Bool) (ts : List PlainToken) → declares after ts ≡ (after && begin_with_number ts) || declare_number ts
declares_split true [] = refl
declares_split false [] = refl
declares_split after (first ∷ rest) = ap (λ b. (after && same Number (terminal first)) || b) (declares_split (same Int (terminal first)) rest)

pub declares_none : (ts : List PlainToken) → declares false ts ≡ false → declare_number ts ≡ false
declares_none ts h = sym (declares_split false ts) ∙ h

-- ---- truth values

or_false : (a b : Bool) → a || b ≡ false → b ≡ false
or_false true b h = absurd cc
or_false false b h = h

none_of : (a b : Bool) → a ≡ false → b ≡ false → a || b ≡ false
none_of a b h k = rw (h, k) refl

-- ---- with less known of the token before

pub weaker : (a b : Bool) → (IsTrue a → IsTrue b) → (ts : List PlainToken) → declares b ts ≡ false → declares a ts ≡ false
weaker a b leads [] h = refl
weaker true b leads (first ∷ rest) h = subst (λ x. declares x (first ∷ rest) ≡ false) (leads refl) h
weaker false b leads (first ∷ rest) h = or_false (b && same Number (terminal first)) (declares (same Int (terminal first)) rest) h

pub weakest : (b : Bool) (ts : List PlainToken) → declares b ts ≡ false → declares false ts ≡ false
weakest b ts h = weaker false b (λ e. absurd cc) ts h

pub implied : (a b : Bool) → IsTrue (not a || b) → IsTrue a → IsTrue b
implied true b h e = h
implied false b h e = absurd cc

-- ---- a token

same_one : (ts : List Terminal) (s t : Terminal) → IsTrue (is_one_of ts t) → IsTrue (same s t) → IsTrue (is_one_of ts s)
same_one ts s t h e = ap (λ n. list_any (λ b. n == number b) ts) (eqb-true (number s) (number t) e) ∙ h

not_both : (after n m : Bool) → (IsTrue n → IsTrue m) → IsTrue (not (after && m)) → after && n ≡ false
not_both false n m leads h = refl
not_both true false m leads h = refl
not_both true true m leads h = absurd (let e = leads refl in cc)

pub behind_token :
    (after : Bool) (ts : List Terminal) (token : PlainToken) (behind : List PlainToken)
    → IsTrue (not (after && is_one_of ts Number)) → IsTrue (is_one_of ts (terminal token)) → declares (is_one_of ts Int) behind ≡ false
    → declares after (token ∷ behind) ≡ false
behind_token after ts token behind safe h d =
    none_of (after && same Number (terminal token)) (declares (same Int (terminal token)) behind)
    (not_both after (same Number (terminal token)) (is_one_of ts Number) (same_one ts Number (terminal token) h) safe)
    (weaker (same Int (terminal token)) (is_one_of ts Int) (same_one ts Int (terminal token) h) behind d)

pub behind_word :
    (after : Bool) (ts : List Terminal) (tree : PlainTree) (behind : List PlainToken)
    → IsTrue (not (after && is_one_of ts Number)) → IsTrue (is_word ts tree) → declares (is_one_of ts Int) behind ≡ false
    → declares after (written tree behind) ≡ false
behind_word after ts (leaf token) behind safe h d = behind_token after ts token behind safe h d
behind_word after ts (node kind parts) behind safe h d = absurd cc

pub never : (after : Bool) → IsTrue (not (after && false))
never true = refl
never false = refl

-- a word that is neither `int` nor a number
pub behind_mark :
    (after : Bool) (ts : List Terminal) (tree : PlainTree) (behind : List PlainToken) → is_one_of ts Number ≡ false → is_one_of ts Int ≡ false
    → IsTrue (is_word ts tree) → declares false behind ≡ false → declares after (written tree behind) ≡ false
behind_mark after ts tree behind n i h d = behind_word after ts tree behind (rw n (never after)) h (rw i d)
